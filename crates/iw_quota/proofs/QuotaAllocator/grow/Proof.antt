-- It refuses, or answers what the inner allocator answers; values that this one has no room for count no more. Assumes `Logic`.
use mathlib.Core.Path.{◌≡◌, refl}
use mathlib.Core.Bool.{Bool, true, false}
use Prim.Native.Nat.{ℕ, ◌+◌, ◌<◌, ◌^◌}
use mathlib.Core.List.{List, [], ◌∷◌}
use seplogic.Ra.Ura.{Ura}
use mir.Syntax.{Args, Fn, Body, a_type, w64, dnil, dcons}
use mir.Val.{Val, vbool, vunit, vint, vptr}
use mir.MapTy.{inst_fn}
use base.Logic.{SProp, ent, ex, id⊢, never_e}
use base.Fml.{Lft, Share, Fml, ftrue, flft}
use prog.Memory.{Memory, size, align, capped, up}
use prog.Capped.{capped_fits}
use prog.Routine.{Routine}
use prog.Wp.{Env, Wp, WpFn, Tables, after_seq, at_return}
use types.Logic.{Logic}
use contract.BorrowLft.{◌⊑◌, ⊑_trans}
use contract.Monad.{Fun}
use contract.Running.{tables, tables_of}
use sound.WpLaws.{fm_of, WpFn-mono}
use types.Kit.{Item, ‵, raw, ◌⊛◌, ⋆, some, later, given, at_ret, any_q, Post as After, ◌$◌, ◌∵◌, !, qed, by, move, keep, use0, use1, use2, split, split3, join, pick, learn, fsplit, fjoin, suffices, await, done}
use types.Run.{stop, fld, addr, lit, size_word, no_more, and_then, of_opd, first, branches, skips, exec, switches_on, returns, returns_within, enter}
use types.Part.{whole, agg}
use types.Match.{vrt, in_variant}
use types.ByLocal.{alloc_all, pass_all, free_all, look_at, get, get_in, get_tag, through, sets, sets_last, lands_as, env}
use denote.Exit.{yes}
use denote.RattleType.{RattleType, owns}
use denote.Ref.{Bor, shr_vals}
use denote.Opens.{unhide, shr_dup}
use denote.Param.{bounded, param, layout}
use denote.Plain.{uint_vals, uint_Tells}
use denote.Signature.{Slot, plain, types_at}
use denote.Steps.{nothing}
use denote.RawPtr.{Ptr, block_ptr, null_ptr, ptr_val, rawptr_vals, rawptr_Tells}
use denote.Builtin.{usize, RawPtr, RefOf}
use denote.Triple.Call.{calls_at}
use denote.Triple.Clauses.{Ended, Clauses}
use denote.Triple.Spec.{triple_of}
use denote.Triple.Statement.{Triple, Contract}
use denote.Triple.Table.{entered, cited}
use denote.Triple.Walked.{Stays, stay_dropped, walk_of, ends_at, walked, Goes-dropped, walk_Meets}
use Rattle.std.specs.Allocator.{block_with_items, resized_if_ok}
use Rattle.std.proofs.alloc.Shapes.{after, front, arm_body}
use Rattle.std.proofs.alloc.Calls.{Al, α, token, seen, Answer, answer_val, Answer-typed}
use Rattle.std.proofs.alloc.Resizes.{Grows, resize_key, Resizes, at_resizes, left_by, Resized, Resizes-goes, Resizes-gives, result_of, result_own, asked, heard_all, flagged}
use Rattle.iw_quota.proofs.Cells.{Kept, Kept-laws, kept}
use Rattle.iw_quota.proofs.Refused.{Refuse, at_refuse, Refuse-goes, Refuse-gives}
use Rattle.iw_quota.proofs.Given.{Give, at_give, Give-goes, Give-gives}
use Rattle.iw_quota.proofs.refuses.Symbol as c_sym
use Rattle.iw_quota.proofs.refuses.Met as c_met
use Rattle.iw_quota.proofs.give_back.Symbol as g_sym
use Rattle.iw_quota.proofs.give_back.Met as g_met
use Rattle.iw_quota.specs.contracts.Quota as wrapper
use Rattle.iw_quota.specs.contracts.QuotaAllocator.grow as F
use Rattle.iw_quota.specs.contracts.QuotaAllocator.grow.Key as key
use Rattle.iw_quota.proofs.QuotaAllocator.grow.Statement as stated
use Rattle.iw_quota.proofs.QuotaAllocator.grow.Code as code

module _ (Z : Al) (X : RattleType) where
  abbrev args : Args
  args = bounded (a_type ∷ a_type ∷ []) (Z.row, (X, tt)) (dcons Z.d (dcons Z.drops dnil))

  abbrev here : Fn
  here = inst_fn args code.function

  abbrev self : Slot 3
  self = RefOf (0 ∷ []) tt (plain (λ _. wrapper.the_row (param 0 Z.row))) (λ _. tt)

  abbrev ended : Ended
  ended = F.ended Z.row X Z.g Z.d Z.drops

  abbrev stayed : Stays ended.signature.params ended.kept
  stayed = (stay_dropped self yes, (stay_dropped (plain (λ _. RawPtr)) yes, (stay_dropped (plain (λ _. usize)) yes, (stay_dropped (plain (λ _. usize)) yes, (stay_dropped (plain (λ _. usize)) yes, tt)))))

module _ (Z : Al) (X : RattleType) {M : Type 1} {𝓤 : Ura M} (𝓛 : Logic 𝓤) (at_mem : Memory → SProp 𝓤) (run : Routine → Fun 𝓤) (𝓣 : Tables 𝓤 𝓛.H)
    (re : Triple 𝓤 (𝓣.C (resize_key Z X 2)) (Resizes Z X (Grows X) 𝓛 at_mem run)) (kn : Triple 𝓤 (𝓣.C c_sym.name) (Refuse 𝓛 at_mem run)) (gn : Triple 𝓤 (𝓣.C g_sym.name) (Give 𝓛 at_mem run)) where
  open 𝓛 use {H}

  abbrev clauses : Clauses 𝓤 (ended Z X)
  clauses = F.clauses Z.row X Z.g Z.d Z.drops 𝓛 at_mem run

  abbrev Called : Contract 𝓤
  Called = Resizes Z X (Grows X) 𝓛 at_mem run

  module _ (κ ρ κT : Lft) (q qρ qT : Share) (out : κ ⊑ ρ) (r : Bor (wrapper.the_row Z.row).Denot) (len old new : ℕ) (xs : List X.Denot) where
    abbrev bound : Ptr → (walk_of 𝓛 (ended Z X) (stayed Z X) clauses).Ghost
    bound x = (((κ, (ρ, (κT, tt))), (q, (qρ, (qT, tt))), (out, tt), (r, (x, (len, (old, (new, tt))))), (shr_vals r, (rawptr_vals x, (vint w64 len ∷ [], (vint w64 old ∷ [], (vint w64 new ∷ [], tt)))))), xs)

    abbrev vs : Ptr → List Val
    vs x = vptr r.ref_ptr.0 r.ref_ptr.1 ∷ ptr_val x ∷ vint w64 len ∷ vint w64 old ∷ vint w64 new ∷ []

    abbrev Post : Ptr → Val → SProp 𝓤
    Post x = (walk_of 𝓛 (ended Z X) (stayed Z X) clauses).post (bound x)

    abbrev entry : Ptr → Item 𝓤
    entry x = (‵ (flft κ q) ⊛ ‵ (flft ρ qρ) ⊛ ‵ (flft κT qT) ⊛ ‵ ftrue) ⊛ ‵ (owns (types_at (ended Z X).signature.params (bound x).0.0) (bound x).0.3 (bound x).0.4)

    abbrev block : Ptr → Fml
    block x = block_with_items (token Z r.now.inner) (param 1 X) x len old xs

    exits : (x : Ptr) (y : Bool) (b o : ℕ) → ent 𝓤 (⋆ 𝓛 (‵ (resized_if_ok (token Z r.now.inner) (param 1 X) x len old new xs (result_of y b o)) ∷ ‵ (flft κ q) ∷ ‵ (flft ρ qρ) ∷ ‵ (flft κT qT) ∷ [])) (Post x (answer_val y b o))
    exits x y b o = qed 𝓛 (‵ (resized_if_ok (token Z r.now.inner) (param 1 X) x len old new xs (result_of y b o)) ∷ ‵ (flft κ q) ∷ ‵ (flft ρ qρ) ∷ ‵ (flft κT qT) ∷ []) ∵
        suffices ! _ (ends_at 𝓛 (ended Z X) (stayed Z X) clauses (bound x) (answer_val y b o) (result_of y b o) (tt, (tt, (tt, (tt, (tt, tt))))) (tt, (tt, (tt, (tt, (tt, tt)))))) $
        use0 𝓛 (‵ (Answer.own_val (result_of y b o) (answer_val y b o ∷ []))) (result_own 𝓛 y b o) $
        nothing ! $ nothing ! $ fjoin ! $ nothing ! $ fjoin ! $ nothing ! $ fjoin ! $ nothing ! $ fjoin ! $ nothing ! $ fjoin ! $ join ! $
        nothing ! $ move ! (5 ∷ 0 ∷ []) $ join ! $ move ! (4 ∷ 0 ∷ []) $ join ! $ move ! (3 ∷ 0 ∷ []) $ join ! $ join ! $ done !

    walk : len < 2 ^ 64 → old < 2 ^ 64 → new < 2 ^ 64 → (x : Ptr) → ent 𝓤 ((walk_of 𝓛 (ended Z X) (stayed Z X) clauses).pre (bound x)) (WpFn 𝓤 H 𝓣.C 𝓣.Λ (here Z X) (vs x) (Post x))
    walk fl fo fn null_ptr =
        qed 𝓛 (entry null_ptr ∷ raw (asked 𝓛 (ρ ⊑ Z.row.lives) (κT ⊑ X.lives) (Grows X len old new) (block null_ptr)) ∷ []) ∵ move ! (1 ∷ []) $
        heard_all ! (ρ ⊑ Z.row.lives) (κT ⊑ X.lives) (Grows X len old new) (block null_ptr) (λ _ _ _. fsplit ! $ keep ! (0 ∷ []) $ by ! (never_e 𝓤 _))
    walk fl fo fn (block_ptr b o) =
        let x : Ptr = block_ptr b o in
        let h : Z.row.Denot = r.now.inner in
        let p : ℕ × ℕ = (r.ref_ptr.0, r.ref_ptr.1 + up (align (α Z)) 0) in
        let c : ℕ × ℕ = (r.ref_ptr.0, r.ref_ptr.1 + up 8 (up (align (α Z)) 0 + size (α Z))) in
        let each : ℕ = capped (size (layout X)) in
        let y : Called.Ghost = at_resizes Z X (Grows X) 𝓛 at_mem run κ κT q qT p h b o len old new xs in
        let left : Answer.Denot → Fml = left_by Z X (Grows X) 𝓛 at_mem run κ κT q qT p h b o len old new xs in
        qed 𝓛 (entry x ∷ raw (asked 𝓛 (ρ ⊑ Z.row.lives) (κT ⊑ X.lives) (Grows X len old new) (block x)) ∷ []) ∵
        move ! (1 ∷ []) $ heard_all ! (ρ ⊑ Z.row.lives) (κT ⊑ X.lives) (Grows X len old new) (block x) (λ le leT said. move ! (1 ∷ []) $
        split ! $ split3 ! $ move ! (2 ∷ []) $ split ! $ move ! (4 ∷ []) $ fsplit ! $ fsplit ! $ move ! (1 ∷ []) $ unhide ! $ fsplit ! $ fsplit ! $ use1 𝓛 (‵ (seen Z κ p h)) (id⊢ 𝓤 _) $ move ! (1 ∷ []) $ fsplit ! $
        keep ! (0 ∷ 8 ∷ 2 ∷ 10 ∷ 9 ∷ 6 ∷ []) $
        use1 𝓛 (‵ (kept κ c)) (id⊢ 𝓤 _) $ shr_dup ! Kept Kept-laws.shr_laws (record { value = tt }) c.0 c.1 κ $ move ! (0 ∷ 2 ∷ []) $
        -- [the usage; κ's token; the usage again; the inner allocator; the block; the other tokens]
        enter ! 𝓣.C 𝓣.Λ (here Z X) (vs x) _ $ alloc_all ! (λ l. pass_all ! refl ((tt, tt), ((tt, tt), ((tt, record { fits = fl }), ((tt, record { fits = fo }), ((tt, record { fits = fn }), tt))))) $
        let En : Env 𝓤 H = env (here Z X).locals l in
        let both : Body = front (after 5 (here Z X).body) in
        let Then : After 𝓤 H = any_q (after_seq 𝓤 H (Wp 𝓤 H 𝓣.C 𝓣.Λ En (after 6 (here Z X).body) (at_return 𝓤 H En (Post x))) (at_return 𝓤 H En (Post x))) in
        sets ! (addr ! (through ! refl (fld ! refl (stop !)))) refl (tt, tt) $
        use2 𝓛 (raw ((Refuse 𝓛 at_mem run).pre (at_refuse 𝓛 at_mem run κ q c old new each))) (Refuse-goes 𝓛 at_mem run κ q c old new each fo fn (capped_fits (size (layout X)))) $
        calls_at ! (fm_of 𝓤 H 𝓛.laws 𝓣) (Refuse 𝓛 at_mem run) kn (at_refuse 𝓛 at_mem run κ q c old new each) (and_then ! (get ! refl) (and_then ! (get ! refl) (and_then ! (get ! refl) (and_then ! (size_word !) (no_more !))))) (λ u.
        use1 𝓛 (later (some (λ (t : Bool). given (u ≡ vbool t) (‵ (flft κ q))))) (Refuse-gives 𝓛 at_mem run κ q c old new each u) $ await ! tt $ pick ! (λ t. learn ! (λ eu. lands_as ! eu refl (tt, tt) $
        first ! $ branches ! (get ! refl)
        (λ full. sets ! (agg ! (no_more !)) refl (tt, tt) $ sets ! (agg ! (and_then ! (lit ! tt) (and_then ! (get ! refl) (no_more !)))) refl (Answer-typed false 0 0) $
        returns_within ! (Post x) refl (look_at ! 0 refl) $ free_all ! refl $ keep ! (3 ∷ 0 ∷ 4 ∷ 5 ∷ []) $ by ! (exits x false 0 0))
        (λ room. skips ! $ exec ! 𝓣.C 𝓣.Λ En (after 3 (here Z X).body) (at_ret En (Post x)) $ move ! (0 ∷ 5 ∷ []) $
        sets ! (addr ! (through ! refl (fld ! refl (stop !)))) refl (tt, tt) $
        -- [the tokens of κ and κT; the usage; the inner allocator; the block; the other token]
        join ! $ move ! (2 ∷ 0 ∷ []) $ join ! $ move ! (2 ∷ 0 ∷ []) $ join ! $
        use1 𝓛 (raw (Called.pre y)) (Resizes-goes Z X (Grows X) 𝓛 at_mem run κ κT q qT p h b o len old new xs (⊑_trans κ ρ Z.row.lives out le) leT said fl fo fn) $
        calls_at ! (fm_of 𝓤 H 𝓛.laws 𝓣) Called re y (and_then ! (get ! refl) (and_then ! (get ! refl) (and_then ! (get ! refl) (and_then ! (get ! refl) (and_then ! (get ! refl) (no_more !)))))) (λ v.
        use1 𝓛 (later (raw (ex 𝓤 (Resized Z X (Grows X) 𝓛 at_mem run κ κT q qT p h b o len old new xs v)) ⊛ ‵ (flft κ q) ⊛ ‵ (flft κT qT)))
        (Resizes-gives Z X (Grows X) 𝓛 at_mem run κ κT q qT p h b o len old new xs v) $ await ! tt $ split3 ! $
        -- [the answer; the tokens of κ and κT; the usage; the other token]
        flagged ! v left
        (λ b' o' e. lands_as ! e refl (Answer-typed true b' o') $
        first ! $ switches_on ! (get_tag ! (vrt ! refl (fld ! refl (stop !))) (whole !)) $ exec ! 𝓣.C 𝓣.Λ En (arm_body 0 both) Then $
        sets ! (of_opd ! (get_in ! (vrt ! refl (fld ! refl (stop !))) (in_variant ! 0 0 refl refl (whole !)))) refl (tt, tt) $
        sets_last ! (agg ! (and_then ! (lit ! tt) (and_then ! (get ! refl) (no_more !)))) refl (Answer-typed true b' o') $
        exec ! 𝓣.C 𝓣.Λ En (after 6 (here Z X).body) (at_ret En (Post x)) $ sets ! (of_opd ! (get ! refl)) refl (Answer-typed true b' o') $ returns ! (look_at ! 0 refl) $ free_all ! refl $
        keep ! (0 ∷ 1 ∷ 4 ∷ 2 ∷ []) $ by ! (exits x true b' o'))
        (λ e. lands_as ! e refl (Answer-typed false 0 0) $
        first ! $ switches_on ! (get_tag ! (vrt ! refl (fld ! refl (stop !))) (whole !)) $ exec ! 𝓣.C 𝓣.Λ En (arm_body 1 both) Then $
        sets ! (of_opd ! (get_in ! (vrt ! refl (fld ! refl (stop !))) (in_variant ! 1 0 refl refl (whole !)))) refl (tt, tt) $
        sets ! (addr ! (through ! refl (fld ! refl (stop !)))) refl (tt, tt) $ move ! (3 ∷ 1 ∷ []) $
        use2 𝓛 (raw ((Give 𝓛 at_mem run).pre (at_give 𝓛 at_mem run κ q c new old each))) (Give-goes 𝓛 at_mem run κ q c new old each fn fo (capped_fits (size (layout X)))) $
        calls_at ! (fm_of 𝓤 H 𝓛.laws 𝓣) (Give 𝓛 at_mem run) gn (at_give 𝓛 at_mem run κ q c new old each) (and_then ! (get ! refl) (and_then ! (get ! refl) (and_then ! (get ! refl) (and_then ! (size_word !) (no_more !))))) (λ w.
        use1 𝓛 (later (given (w ≡ vunit) (‵ (flft κ q)))) (Give-gives 𝓛 at_mem run κ q c new old each w) $ await ! tt $ learn ! (λ ew. lands_as ! ew refl (tt, tt) $
        sets_last ! (agg ! (and_then ! (lit ! tt) (and_then ! (get ! refl) (no_more !)))) refl (Answer-typed false 0 0) $
        exec ! 𝓣.C 𝓣.Λ En (after 6 (here Z X).body) (at_ret En (Post x)) $ sets ! (of_opd ! (get ! refl)) refl (Answer-typed false 0 0) $ returns ! (look_at ! 0 refl) $ free_all ! refl $
        keep ! (1 ∷ 0 ∷ 3 ∷ 2 ∷ []) $ by ! (exits x false 0 0)))))))))))

pub grow_spec : {M : Type 1} → stated.statement M
unfolding tables_of
grow_spec 𝓤 𝓛 𝓜 𝓡 wired Y X LY L g d d' met _ =
    let Z : Al = record { row = Y; laws = LY; g = g; d = d; drops = d' } in
    let A = 𝓛.A in
    let 𝓣 : Tables 𝓤 𝓛.H = tables_of 𝓤 𝓛.H 𝓜 (tables 𝓤 𝓛.H 𝓜 𝓡 𝓡.env) in
    let c = F.clauses Y X g d d' 𝓛 𝓜.mem 𝓡.returns in
    let gone = λ (V : RattleType). Goes-dropped 𝓛 3 (plain (λ _. V)) yes in
    entered 𝓤 𝓛.H (triple_of 𝓛 (F.signature Y X) (F.spec Y X g d d' 𝓛 𝓜.mem 𝓡.returns)) 𝓣.C 𝓣.Λ (key.name (args Z X)) (here Z X) (code.unfolded 𝓤 𝓛.H 𝓜 𝓡 wired (Y, (X, tt)) d d')
    (walk_Meets 𝓛 (ended Z X) (stayed Z X) (Goes-dropped 𝓛 3 (self Z X) yes (λ κs x f. refl), (gone RawPtr (λ κs x f. refl), (gone usize (λ κs x f. refl), (gone usize (λ κs x f. refl), (gone usize (λ κs x f. refl), tt))))) c (WpFn 𝓤 𝓛.H 𝓣.C 𝓣.Λ (here Z X)) (WpFn-mono 𝓤 𝓛.H 𝓛.laws 𝓣 (here Z X))
    (walked 𝓛 (ended Z X) (stayed Z X) c (WpFn 𝓤 𝓛.H 𝓣.C 𝓣.Λ (here Z X)) (λ κs. (shr_vals, (rawptr_vals, (uint_vals w64, (uint_vals w64, (uint_vals w64, tt)))))) (λ κs. ((λ r vs s. s.0), (rawptr_Tells, (uint_Tells w64, (uint_Tells w64, (uint_Tells w64, tt))))))
    (λ κs qs bounds a xs are. walk Z X 𝓛 𝓜.mem 𝓡.returns 𝓣 (met.grow d' X L) (cited 𝓤 𝓛.H _ 𝓜 𝓡 𝓡.env c_sym.name (𝓡.env c_sym.name) refl (c_met.met 𝓤 𝓛 𝓜 𝓡 (code.calls-iw_quota::refuses 𝓡.env wired))) (cited 𝓤 𝓛.H _ 𝓜 𝓡 𝓡.env g_sym.name (𝓡.env g_sym.name) refl (g_met.met 𝓤 𝓛 𝓜 𝓡 (code.calls-iw_quota::give_back 𝓡.env wired))) κs.0 κs.1.0 κs.1.1.0 qs.0 qs.1.0 qs.1.1.0 bounds.0 a.0 a.1.1.0 a.1.1.1.0 a.1.1.1.1.0 xs are.1.1.0.1 are.1.1.1.0.1 are.1.1.1.1.0.1 a.1.0)))
