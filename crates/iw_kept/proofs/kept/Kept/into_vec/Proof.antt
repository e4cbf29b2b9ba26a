-- `into_vec` hands the octets to `lodge`, if there are any.
use Rattle.std.proofs.Common.{◌≡◌, ℕ, List, [], ◌∷◌, ◌++◌, refl, sym, ap, subst, lit<, arith, ◌∙◌, Some, None}
use lib.Dec.{T, eqb, eqb→eq}
use mathlib.Core.Bool.{not}
use mir.Val.{Val, vcons, vnil}
use base.Logic.{SProp, ent, emp, id⊢}
use base.Fml.{ftrue, fsep}
use prog.Wp.{WpFn}
use types.Kit.{‵, raw, ◌⊛◌, some, later, given, at_ret, ◌$◌, ◌∵◌, !, qed, move, drop, split, fsplit, fjoin, join, pick, learn, await, suffices, rewrite, use0, use1, done}
use types.Part.{whole, sub, agg}
use types.Match.{live}
use types.Run.{stop, fld, lit, bin, of_opd, no_more, and_then, first, blocks, branches, exec, returns, returns_within, skips, enter}
use types.ByLocal.{alloc_all, pass_all, free_all, look_at, get, get_in, sets, lands_last, env}
use contract.Running.{tables}
use denote.Exit.{yes}
use denote.Builtin.{u8}
use denote.RattleType.{RattleType}
use denote.RawPtr.{Ptr, block_ptr}
use denote.Param.{layout}
use denote.Signature.{type_at, plain}
use denote.Steps.{nothing, only}
use denote.Triple.Call.{calls_at_last}
use denote.Triple.Table.{framed}
use denote.Triple.Walked.{says, Stays, stay_dropped, walk_of, ends_at, Goes-dropped}
use Rattle.std.proofs.VecSteps.Shapes.{after}
use Rattle.std.proofs.cell.Inside.{Good}
use Rattle.std.proofs.raw_atomic.Walks.{proved_at}
use Rattle.std.proofs.ResultValues.{and_tt}
use Rattle.std.proofs.option.Made.{Some-of, none_of}
use Rattle.std_alloc.specs.declared.vec.Vec.{Vec}
use Rattle.std_alloc.specs.declared.vec.lodged.Lodged.{Lodged}
use Rattle.std_alloc.proofs.vec.lodge.Met as lodge_met
use Rattle.std_alloc.proofs.RcSteps.{Ptr-Good}
use Rattle.iw_kept.proofs.KeptSteps.{Kept, Row, byte_laws, words, none-if_any, some-if_any, kept_out, kept_cases, tells, Lodges, at_lodge, Lodged_as, lodge_goes, lodge_gives}
use Rattle.iw_kept.specs.contracts.kept.Kept.into_vec as f
use Rattle.iw_kept.proofs.kept.Kept.into_vec.Statement.{statement}
use Rattle.iw_kept.proofs.kept.Kept.into_vec.Code as code

abbrev stayed : Stays f.ended.signature.params f.ended.kept
stayed = (stay_dropped (plain (λ _. Kept)) yes, tt)

pub into_vec_spec : {M : Type 1} → statement M
into_vec_spec 𝓤 𝓛 𝓜 𝓡 wired =
    let H = 𝓛.H in let 𝓣 = tables 𝓤 H 𝓜 𝓡 𝓡.env in let c = f.clauses 𝓛 𝓜.mem 𝓡.returns in let fn = code.function in
    proved_at 𝓛 f.ended stayed c 𝓜 𝓡 (Goes-dropped 𝓛 0 (plain (λ _. Kept)) yes (λ κs x w. refl), tt) f.Key.name fn (code.unfolded 𝓤 H 𝓜 𝓡 wired) (λ z are.
    let Post : Val → SProp 𝓤 = (walk_of 𝓛 f.ended stayed c).post z in let Run : List Val → SProp 𝓤 = λ ws. WpFn 𝓤 H 𝓣.C 𝓣.Λ fn ws Post in
    let d = z.0.3.0 in let n = d.len in let xs = d.octets in let Out : RattleType = type_at f.signature.result tt in
    qed 𝓛 ((‵ ftrue ⊛ ‵ (fsep (Kept.own_val d z.0.4.0) ftrue)) ∷ raw (emp 𝓤) ∷ []) ∵ split ! $ drop ! $ fsplit ! $
    kept_out ! d z.0.4.0 (λ is fits. move ! (1 ∷ 2 ∷ []) $ drop ! $ drop ! $
    suffices ! (Run (words d.at n ∷ [])) (subst (λ (us : List Val). ent 𝓤 (Run (words d.at n ∷ [])) (Run us)) (sym (λ i. is i ++ [])) (id⊢ 𝓤 (Run (words d.at n ∷ [])))) $
    kept_cases ! d.at n xs
    (λ zero.
    enter ! 𝓣.C 𝓣.Λ fn (words d.at n ∷ []) Post $ alloc_all ! (λ l. pass_all ! refl ((and_tt _ (Ptr-Good d.at).0, ((Ptr-Good d.at).1, (record { fits = fits }, tt))), tt) $
    sets ! (of_opd ! (get_in ! (fld ! refl (stop !)) (sub ! 0 refl (whole !)))) refl (Ptr-Good d.at) $
    sets ! (of_opd ! (get_in ! (fld ! refl (stop !)) (sub ! 1 refl (whole !)))) refl (tt, record { fits = fits }) $
    sets ! (bin ! (get ! refl) (lit ! tt) tt) refl (tt, tt) $ first ! $ branches ! (get ! refl)
    (λ _. sets ! (agg ! (and_then ! (lit ! tt) (no_more !))) refl (tt, (record { fits = lit< tt }, tt)) $
    returns_within ! Post refl (look_at ! 0 refl) $ free_all ! refl $ use0 𝓛 (‵ (Out.own_val None (live 0 vnil ∷ []))) (none_of 𝓛 Row) $
    suffices ! _ (ends_at 𝓛 f.ended stayed c z (live 0 vnil) None (tt, tt) (tt, tt)) $ says ! (none-if_any n xs d.ok zero) $
    nothing ! $ nothing ! $ fjoin ! $ join ! $ nothing ! $ join ! $ done !)
    (λ wrong. absurd (subst (λ (k : ℕ). T (not (eqb k 0))) zero wrong))))
    (λ b o at pos.
    suffices ! (Run (words (block_ptr b o) n ∷ [])) (subst (λ (p : Ptr). ent 𝓤 (Run (words (block_ptr b o) n ∷ [])) (Run (words p n ∷ []))) (sym at) (id⊢ 𝓤 (Run (words (block_ptr b o) n ∷ [])))) $
    let G = Lodges 𝓛 𝓜.mem 𝓡.returns in let y = at_lodge 𝓛 𝓜.mem 𝓡.returns b o n xs in
    enter ! 𝓣.C 𝓣.Λ fn (words (block_ptr b o) n ∷ []) Post $ alloc_all ! (λ l. pass_all ! refl ((tt, (tt, (record { fits = fits }, tt))), tt) $ let Ev = env fn.locals l in
    sets ! (of_opd ! (get_in ! (fld ! refl (stop !)) (sub ! 0 refl (whole !)))) refl (tt, tt) $
    sets ! (of_opd ! (get_in ! (fld ! refl (stop !)) (sub ! 1 refl (whole !)))) refl (tt, record { fits = fits }) $
    sets ! (bin ! (get ! refl) (lit ! tt) tt) refl (tt, tt) $ first ! $ branches ! (get ! refl)
    (λ wrong. let zero : n ≡ 0 = eqb→eq n 0 wrong in absurd (omega (arith, zero, pos)))
    (λ _. skips ! $ exec ! 𝓣.C 𝓣.Λ Ev (after 4 fn.body) (at_ret Ev Post) $ first ! $ blocks ! $
    use1 𝓛 (raw (G.pre y)) (lodge_goes 𝓛 𝓜.mem 𝓡.returns b o n xs d.ok pos d.small) $
    calls_at_last ! (framed 𝓤 H 𝓜 𝓣) G (lodge_met.met 𝓤 𝓛 𝓜 𝓡 (code.calls-std_alloc::vec::lodge 𝓡.env wired) u8 byte_laws) y (and_then ! (get ! refl) (and_then ! (get ! refl) (and_then ! (get ! refl) (no_more !)))) (λ u.
    use1 𝓛 (later (some (λ (r : Vec ℕ Lodged). given (Lodged_as 𝓛 𝓜.mem 𝓡.returns b o n xs r) (‵ (Row.own_val r (u ∷ [])))))) (lodge_gives 𝓛 𝓜.mem 𝓡.returns b o n xs u) $
    await ! tt $ pick ! (λ r. learn ! (λ ir. tells ! r (u ∷ []) (λ w eu gw. rewrite ! 0 (λ (us : List Val). ‵ (Row.own_val r us)) (sym eu) refl $
    let gu : Good (layout Row) u = subst (Good (layout Row)) (sym (ap only eu)) gw in
    let v : Val = live 1 (vcons u vnil) in
    lands_last ! refl gu $ exec ! 𝓣.C 𝓣.Λ Ev (after 5 fn.body) (at_ret Ev Post) $
    sets ! (of_opd ! (get ! refl)) refl gu $ sets ! (of_opd ! (get ! refl)) refl gu $
    sets ! (agg ! (and_then ! (lit ! tt) (and_then ! (get ! refl) (no_more !)))) refl (and_tt _ gu.0, (record { fits = lit< tt }, (gu.1, tt))) $
    returns ! (look_at ! 0 refl) $ free_all ! refl $ use1 𝓛 (‵ (Out.own_val (Some r) (v ∷ []))) (Some-of 𝓛 Row r u) $
    suffices ! _ (ends_at 𝓛 f.ended stayed c z v (Some r) (tt, tt) (tt, tt)) $ says ! (ap (λ (os : List ℕ). Some os) ir.0 ∙ some-if_any n xs d.ok pos) $
    nothing ! $ nothing ! $ fjoin ! $ join ! $ nothing ! $ join ! $ done !)))))))))
