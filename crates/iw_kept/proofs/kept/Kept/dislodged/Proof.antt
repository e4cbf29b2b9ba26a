-- `dislodged` takes the octets back from a vector.
use Rattle.std.proofs.Common.{◌≡◌, ◌^◌, ◌<◌, List, [], ◌∷◌, ◌++◌, refl, sym, subst, arith}
use mir.Val.{Val, vint}
use mir.Syntax.{w64}
use base.Logic.{SProp, ent, id⊢}
use base.Fml.{ftrue, fsep}
use prog.Wp.{WpFn}
use contract.Monad.{fact}
use types.Kit.{‵, raw, ◌⊛◌, later, given, ◌$◌, ◌∵◌, !, qed, move, drop, split, fsplit, fjoin, join, learn, await, suffices, rewrite, feq_l, use1, done}
use types.Part.{agg}
use types.Run.{of_opd, no_more, and_then, returns, enter}
use types.ByLocal.{alloc_all, pass_all, free_all, look_at, get, sets, lands_as}
use contract.Running.{tables}
use denote.Exit.{yes}
use denote.Builtin.{u8}
use Rattle.std.proofs.ResultValues.{and_tt}
use denote.RawPtr.{Ptr, RawPtr, ptr_val}
use denote.Signature.{plain}
use denote.Steps.{nothing, heard}
use denote.Triple.Call.{calls_at}
use denote.Triple.Table.{framed}
use denote.Triple.Walked.{says, Stays, stay_dropped, walk_of, ends_at, Goes-dropped}
use Rattle.std.proofs.raw_atomic.Walks.{proved_at}
use Rattle.std_alloc.proofs.vec.lodged.Vec+T+Lodged.dislodge.Met as dislodge_met
use Rattle.std_alloc.proofs.RcSteps.{Ptr-Good}
use Rattle.std_alloc.specs.Vec.Ownership.{lodged}
use Rattle.iw_kept.specs.Ownership.{kept_owns}
use Rattle.iw_kept.proofs.KeptSteps.{Kept, Row, byte_laws, words, kept_in, tells, Dislodges, at_dislodge, dislodge_goes, dislodge_gives, lodged-kept}
use Rattle.iw_kept.specs.contracts.kept.Kept.dislodged as f
use Rattle.iw_kept.proofs.kept.Kept.dislodged.Statement.{statement}
use Rattle.iw_kept.proofs.kept.Kept.dislodged.Code as code

abbrev stayed : Stays f.ended.signature.params f.ended.kept
stayed = (stay_dropped (plain (λ _. RawPtr)) yes, (stay_dropped (plain (λ _. Row)) yes, tt))

pub dislodged_spec : {M : Type 1} → statement M
dislodged_spec 𝓤 𝓛 𝓜 𝓡 wired =
    let H = 𝓛.H in let 𝓣 = tables 𝓤 H 𝓜 𝓡 𝓡.env in let c = f.clauses 𝓛 𝓜.mem 𝓡.returns in let fn = code.function in
    proved_at 𝓛 f.ended stayed c 𝓜 𝓡 (Goes-dropped 𝓛 0 (plain (λ _. RawPtr)) yes (λ κs x w. refl), (Goes-dropped 𝓛 0 (plain (λ _. Row)) yes (λ κs x w. refl), tt)) f.Key.name fn (code.unfolded 𝓤 H 𝓜 𝓡 wired) (λ z are.
    let Post : Val → SProp 𝓤 = (walk_of 𝓛 f.ended stayed c).post z in let Run : List Val → SProp 𝓤 = λ ws. WpFn 𝓤 H 𝓣.C 𝓣.Λ fn ws Post in
    let p = z.0.3.0 in let v = z.0.3.1.0 in
    qed 𝓛 ((‵ ftrue ⊛ ‵ (fsep (RawPtr.own_val p z.0.4.0) (fsep (Row.own_val v z.0.4.1.0) ftrue))) ∷ raw (fact 𝓤 (p ≡ v.ptr)) ∷ []) ∵ split ! $ drop ! $ fsplit ! $ feq_l ! (λ ep. fsplit ! $
    tells ! v z.0.4.1.0 (λ u eu gu. move ! (2 ∷ []) $ heard ! (p ≡ v.ptr) (λ here. move ! (1 ∷ []) $ drop ! $
    let G = Dislodges 𝓛 𝓜.mem 𝓡.returns in let y = at_dislodge 𝓛 𝓜.mem 𝓡.returns v u in
    let made : Kept.Denot = record { at = p; len = v.len; octets = v.items; ok = v.ok.0; small = omega (arith, v.ok.1, v.small) } in
    suffices ! (Run (ptr_val p ∷ u ∷ [])) (subst (λ (us : List Val). ent 𝓤 (Run (ptr_val p ∷ u ∷ [])) (Run us)) (sym (λ i. ep i ++ (eu i ++ []))) (id⊢ 𝓤 (Run (ptr_val p ∷ u ∷ [])))) $
    enter ! 𝓣.C 𝓣.Λ fn (ptr_val p ∷ u ∷ []) Post $ alloc_all ! (λ l. pass_all ! refl (Ptr-Good p, (gu, tt)) $
    sets ! (of_opd ! (get ! refl)) refl gu $ use1 𝓛 (raw (G.pre y)) (dislodge_goes 𝓛 𝓜.mem 𝓡.returns v u) $
    calls_at ! (framed 𝓤 H 𝓜 𝓣) G (dislodge_met.met 𝓤 𝓛 𝓜 𝓡 (code.calls-std_alloc::vec::lodged::Vec+T+Lodged::dislodge 𝓡.env wired) u8 byte_laws) y (and_then ! (get ! refl) (no_more !)) (λ w.
    use1 𝓛 (later (given ((w ≡ vint w64 v.len) × (v.len < 2 ^ 64)) (‵ (lodged u8 v.ptr v.len v.cap v.items)))) (dislodge_gives 𝓛 𝓜.mem 𝓡.returns v u w) $ await ! tt $ learn ! (λ iw.
    lands_as ! iw.0 refl (tt, record { fits = iw.1 }) $
    sets ! (agg ! (and_then ! (get ! refl) (and_then ! (get ! refl) (no_more !)))) refl (and_tt _ (Ptr-Good p).0, ((Ptr-Good p).1, (record { fits = iw.1 }, tt))) $
    returns ! (look_at ! 0 refl) $ free_all ! refl $
    use1 𝓛 (‵ (kept_owns v.ptr v.len v.items)) (lodged-kept 𝓛 v.ptr v.len v.cap v.items v.ok.1) $
    rewrite ! 0 (λ (q : Ptr). ‵ (kept_owns q v.len v.items)) (sym here) refl $ kept_in ! made iw.1 $
    suffices ! _ (ends_at 𝓛 f.ended stayed c z (words p v.len) made (tt, (tt, tt)) (tt, (tt, tt))) $ says ! refl $
    nothing ! $ nothing ! $ fjoin ! $ nothing ! $ fjoin ! $ join ! $ nothing ! $ join ! $ done !)))))))
