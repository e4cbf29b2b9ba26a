-- What the walks of kept memory share. Assumes `Logic`.
--     kept_out, kept_in          kept memory by value is its two words and what it owns
--     kept_cases                 there is none, or it lies in a block
--     lodge_goes, lodge_gives    `lodge` at a call
--     dislodge_goes, ..          `dislodge` at a call
use Rattle.std.proofs.Common.{◌≡◌, ℕ, zero, suc, ◌+◌, ◌-◌, ◌*◌, ◌^◌, ◌<◌, ◌≤◌, List, [], ◌∷◌, ◌++◌, length, refl, sym, ap, ◌∙◌, arith, Bool, Some, None}
use seplogic.Ra.Ura.{Ura}
use base.Fraction.{full_share}
use base.Logic.{SProp, ent, ex, guard, emp, id⊢, never}
use base.Fml.{ftrue, fsep, flft, froom}
use lib.Dec.{T}
use mir.Syntax.{Callee, a_type, ty_int, ty_array, w8, w64}
use mir.Val.{Val, vint, vptr, vstruct, vcons, vnil, of_list, has_ty, WT}
use prog.Memory.{Memory}
use prog.Routine.{Routine}
use types.Logic.{Logic, sem}
use types.Kit.{Item, Goal, Seq, Step, step, ‵, raw, ◌⊛◌, some, later, ◌$◌, ◌∵◌, !, qed, move, drop, split, split3, join, pick, fsplit, fjoin, fpick, fpack, feq_i, feq_l, flt_i, flt_l, use0, use1, rewrite, check, show, await, updating, done, now as at_once}
use contract.Monad.{Fun, fact, fact_i}
use contract.BorrowLft.{◌⊑◌, ⊑_refl}
use denote.RattleType.{RattleType, Valss}
use denote.Builtin.{RawPtr, usize, u8}
use denote.Exit.{yes, left as left_at}
use denote.RawPtr.{Ptr, ptr_val, block_ptr, lies_at, in_block, in_a_block}
use denote.Array.{Array}
use denote.Param.{layout, layouts}
use denote.Param.Laws.{Laws, of_field}
use denote.Param.Shared.{copy_shared}
use denote.Steps.{nothing, heard, only}
use denote.Struct.Field.{u8-field}
use denote.Struct.Laws.{u8-laws, u8-copy}
use denote.Struct.Struct.{within}
use denote.Struct.Owning.{shape, to}
use denote.Triple.Statement.{Contract}
use denote.Triple.Spec.{triple_of}
use Rattle.std.specs.Allocator.{block_with_items}
use Rattle.std_alloc.specs.Vec.Ownership.{lodged, owns_if, has_block}
use Rattle.std_alloc.specs.declared.vec.Vec.{Vec}
use Rattle.std_alloc.specs.declared.vec.lodged.Lodged.{Lodged}
use Rattle.std_alloc.specs.contracts.vec.Vec as V-type
use Rattle.std_alloc.specs.contracts.vec.lodged.Lodged as L-type
use Rattle.std_alloc.specs.contracts.vec.lodged.LodgedAllocator.TheImpl.{ghosts}
use Rattle.std_alloc.specs.contracts.vec.lodge as LG
use Rattle.std_alloc.specs.contracts.vec.lodge.Key.{name as lodge_name}
use Rattle.std_alloc.specs.contracts.vec.lodged.Vec+T+Lodged.dislodge as DL
use Rattle.std_alloc.specs.contracts.vec.lodged.Vec+T+Lodged.dislodge.Key.{name as dislodge_name}
use Rattle.std_alloc.proofs.vec.Vec.TheLaws as V-laws
use Rattle.std_alloc.proofs.vec.lodged.Lodged.TheLaws as L-laws
use Rattle.std_alloc.proofs.VecSteps.Opens.{is_live}
use Rattle.std.proofs.alloc.Calls.{handle_tells}
use Rattle.iw_kept.specs.Ownership.{kept_owns, if_any}
use Rattle.iw_kept.specs.contracts.kept.Kept as kept

abbrev pub Kept : RattleType
Kept = kept.the_row

abbrev pub Row : RattleType
Row = V-type.the_row u8 L-type.the_row ghosts

abbrev pub byte_laws : Laws u8
byte_laws = of_field u8-field u8-laws refl (copy_shared u8-field u8-copy)

abbrev pub row_laws : Laws Row
row_laws = V-laws.the_row_laws u8 L-type.the_row ghosts byte_laws L-laws.the_row_laws

abbrev pub words : Ptr → ℕ → Val
words p n = vstruct (vcons (ptr_val p) (vcons (vint w64 n) vnil))

pub none-if_any : (n : ℕ) (xs : List ℕ) → n ≡ length xs → n ≡ 0 → None ≡ if_any xs
none-if_any n [] e z = refl
none-if_any n (x ∷ xs) e z = absurd (omega arith)

pub some-if_any : (n : ℕ) (xs : List ℕ) → n ≡ length xs → 0 < n → Some xs ≡ if_any xs
some-if_any n [] e p = absurd (omega arith)
some-if_any n (x ∷ xs) e p = refl

module _ {M : Type 1} {𝓤 : Ura M} {𝓛 : Logic 𝓤} {K : Type 0} {Γ : List (Item 𝓤)} {G : Goal 𝓤 𝓛.H} where
  pub kept_out : K → (d : Kept.Denot) (vs : List Val)
      → (vs ≡ words d.at d.len ∷ [] → d.len < 2 ^ 64 → Seq K 𝓛 (‵ (kept_owns d.at d.len d.octets) ∷ Γ) G)
      → Seq K 𝓛 (‵ (Kept.own_val d vs) ∷ Γ) G
  kept_out t d vs k =
      fsplit t $ fpick t (λ vss. fsplit t $ feq_l t (λ ev. fsplit t $ feq_l t (λ ep. fsplit t $ fsplit t $ feq_l t (λ en. flt_l t (λ fn. drop t $
      k (ev ∙ (λ i. vstruct (of_list (ep i ++ (en i ++ []))) ∷ [])) fn)))))

  pub kept_in : K → (d : Kept.Denot) → d.len < 2 ^ 64
      → Step K 𝓛 (‵ (Kept.own_val d (words d.at d.len ∷ [])) ∷ Γ) G (‵ (kept_owns d.at d.len d.octets) ∷ Γ) G
  kept_in t d fn = step (λ s. let v : Val = words d.at d.len in
      nothing t $ flt_i t d.len (2 ^ 64) fn $ feq_i t (List Val) (vint w64 d.len ∷ []) (vint w64 d.len ∷ []) refl $ fjoin t $ fjoin t $
      feq_i t (List Val) (ptr_val d.at ∷ []) (ptr_val d.at ∷ []) refl $ fjoin t $ feq_i t (List Val) (v ∷ []) (v ∷ []) refl $ fjoin t $
      fpack t (Valss (RawPtr ∷ usize ∷ [])) (within (shape kept.the_type) (to kept.the_type d) (v ∷ [])) (ptr_val d.at ∷ [], (vint w64 d.len ∷ [], tt)) $ fjoin t $ s)

  pub kept_cases : K → (p : Ptr) (n : ℕ) (xs : List ℕ)
      → (n ≡ 0 → Seq K 𝓛 Γ G)
      → ((b o : ℕ) → p ≡ block_ptr b o → 0 < n → Seq K 𝓛 (‵ (lies_at (Array u8 n) full_share (block_ptr b o) xs) ∷ Γ) G)
      → Seq K 𝓛 (‵ (kept_owns p n xs) ∷ Γ) G
  kept_cases t p zero xs none lies = drop t $ none refl
  kept_cases t p (suc n) xs none lies =
      rewrite t 0 (λ (y : Bool). ‵ (owns_if y (lies_at (Array u8 (suc n)) full_share p xs))) (is_live (suc n) (omega arith)) refl $
      in_a_block t p (λ q. lies_at (Array u8 (suc n)) full_share q xs) (id⊢ 𝓤 (never 𝓤)) (λ b o e. lies b o e (omega arith))

  pub tells : K → (x : Row.Denot) (vs : List Val) → ((v : Val) → vs ≡ v ∷ [] → T (has_ty (layout Row) v) × WT v → Seq K 𝓛 (‵ (Row.own_val x (v ∷ [])) ∷ Γ) G) → Seq K 𝓛 (‵ (Row.own_val x vs) ∷ Γ) G
  tells t = handle_tells (record { row = Row; laws = row_laws; g = record { dealloc_token = λ a τ p. ftrue }; d = mir.Syntax.given 0; drops = mir.Syntax.given 0 }) t

module _ {M : Type 1} {𝓤 : Ura M} (𝓛 : Logic 𝓤) (at_mem : Memory → SProp 𝓤) (run : Routine → Fun 𝓤) where
  open 𝓛 use {H}

  abbrev pub lodge_key : Callee
  lodge_key = lodge_name (layouts (a_type ∷ []) (u8, tt))

  abbrev pub dislodge_key : Callee
  dislodge_key = dislodge_name (layouts (a_type ∷ []) (u8, tt))

  abbrev pub Lodges : Contract 𝓤
  Lodges = triple_of 𝓛 (LG.signature u8) (LG.spec u8 𝓛 at_mem run)

  abbrev pub Dislodges : Contract 𝓤
  Dislodges = triple_of 𝓛 (DL.signature u8) (DL.spec u8 𝓛 at_mem run)

  module _ (b o n : ℕ) (xs : List ℕ) where
    abbrev pub at_lodge : Lodges.Ghost
    at_lodge = ((([], tt), (full_share, tt), tt, (block_ptr b o, (n, (n, tt))), (vptr b o ∷ [], (vint w64 n ∷ [], (vint w64 n ∷ [], tt)))), xs)

    abbrev pub Lodged_as : Vec ℕ Lodged → Type 0
    Lodged_as r = (r.items ≡ xs) × (r.len ≡ n) × (r.cap ≡ n) × (r.ptr ≡ block_ptr b o)

    pub lodge_goes : n ≡ length xs → 0 < n → n < 2 ^ 63 → ent 𝓤 (sem 𝓛 (lies_at (Array u8 n) full_share (block_ptr b o) xs)) (Lodges.pre at_lodge)
    lodge_goes e pos few =
        let Asked : Type 0 = (n ≡ length xs) × (n ≤ n) × (n < 2 ^ 63) in let none : 0 ≡ n - n = omega arith in
        qed 𝓛 (‵ (lies_at (Array u8 n) full_share (block_ptr b o) xs) ∷ []) ∵
        nothing ! $ use0 𝓛 (‵ (froom (ty_array (ty_int w8) 0) b (o + n * 1))) (𝓛.laws.room_nil (ty_int w8) b (o + n * 1)) $
        rewrite ! 0 (λ (k : ℕ). ‵ (froom (ty_array (ty_int w8) k) b (o + n * 1))) none refl $ fjoin ! $
        move ! (1 ∷ 0 ∷ []) $ fjoin ! $
        rewrite ! 0 (λ (y : Bool). ‵ (owns_if y (block_with_items (λ _ _. ftrue) u8 (block_ptr b o) n n xs))) (sym (is_live n pos)) refl $
        flt_i ! (n * 1) (2 ^ 63) (omega arith) $ fjoin ! $ use1 𝓛 (‵ (lodged u8 (block_ptr b o) n n xs)) (id⊢ 𝓤 _) $
        use0 𝓛 (raw (fact 𝓤 Asked)) (fact_i 𝓤 Asked (emp 𝓤) (e, omega arith, few)) $ join ! $
        use0 𝓛 (raw (fact 𝓤 ([] ⊑ []))) (fact_i 𝓤 ([] ⊑ []) (emp 𝓤) (⊑_refl [])) $ join ! $
        nothing ! $ flt_i ! n (2 ^ 64) (omega arith) $ feq_i ! (List Val) (vint w64 n ∷ []) (vint w64 n ∷ []) refl $ fjoin ! $ fjoin ! $
        flt_i ! n (2 ^ 64) (omega arith) $ feq_i ! (List Val) (vint w64 n ∷ []) (vint w64 n ∷ []) refl $ fjoin ! $ fjoin ! $
        feq_i ! (List Val) (vptr b o ∷ []) (vptr b o ∷ []) refl $ fjoin ! $ nothing ! $ use0 𝓛 (‵ (flft [] full_share)) (𝓛.lfts.lft-nil full_share) $ join ! $ join ! $ done !

    pub lodge_gives : (v : Val) → ent 𝓤 (Lodges.post at_lodge v) (H.⇛ (ex 𝓤 (λ (r : Vec ℕ Lodged). guard 𝓤 (Lodged_as r) (sem 𝓛 (Row.own_val r (v ∷ []))))))
    lodge_gives v =
        qed 𝓛 (raw (Lodges.post at_lodge v) ∷ []) ∵ updating ! $
        use1 𝓛 (later (some (λ (r : Vec ℕ Lodged). ((‵ (flft [] full_share) ⊛ ‵ ftrue) ⊛ ‵ (Row.own_val r (v ∷ [])))
        ⊛ some (λ (ws : Unit {0} × (Unit {0} × (Unit {0} × Unit {0}))). ‵ (fsep ftrue (fsep ftrue (fsep ftrue ftrue))) ⊛ raw (fact 𝓤 (Lodged_as r)))))) (id⊢ 𝓤 _) $ await ! tt $ pick ! (λ r.
        split ! $ move ! (1 ∷ []) $ pick ! (λ ws. split ! $ drop ! $ heard ! (Lodged_as r) (λ is. split ! $ drop ! $ at_once ! $
        show ! (λ (z : Vec ℕ Lodged). guard 𝓤 (Lodged_as z) (sem 𝓛 (Row.own_val z (v ∷ [])))) r $ check ! is $ done !)))

  module _ (d : Vec ℕ Lodged) (u : Val) where
    abbrev pub at_dislodge : Dislodges.Ghost
    at_dislodge = ((([], tt), (full_share, tt), tt, (d, tt), (u ∷ [], tt)), tt)

    pub dislodge_goes : ent 𝓤 (sem 𝓛 (Row.own_val d (u ∷ []))) (Dislodges.pre at_dislodge)
    dislodge_goes =
        qed 𝓛 (‵ (Row.own_val d (u ∷ [])) ∷ []) ∵ nothing ! $ use0 𝓛 (raw (fact 𝓤 ([] ⊑ []))) (fact_i 𝓤 ([] ⊑ []) (emp 𝓤) (⊑_refl [])) $ join ! $
        nothing ! $ move ! (2 ∷ 0 ∷ []) $ fjoin ! $ nothing ! $ use0 𝓛 (‵ (flft [] full_share)) (𝓛.lfts.lft-nil full_share) $ join ! $ join ! $ done !

    pub dislodge_gives : (v : Val) → ent 𝓤 (Dislodges.post at_dislodge v)
        (H.⇛ (guard 𝓤 ((v ≡ vint w64 d.len) × (d.len < 2 ^ 64)) (sem 𝓛 (lodged u8 d.ptr d.len d.cap d.items))))
    dislodge_gives v =
        qed 𝓛 (raw (Dislodges.post at_dislodge v) ∷ []) ∵ updating ! $
        use1 𝓛 (later (some (λ (r : ℕ). ((‵ (flft [] full_share) ⊛ ‵ ftrue) ⊛ ‵ (usize.own_val r (v ∷ [])))
        ⊛ some (λ (ws : Unit {0} × Unit {0}). ‵ (fsep (left_at (Row.exit denote.Exit.no) d ws.0) ftrue) ⊛ raw (fact 𝓤 (r ≡ d.len)) ⊛ ‵ (lodged u8 d.ptr d.len d.cap d.items))))) (id⊢ 𝓤 _) $ await ! tt $ pick ! (λ r.
        split ! $ move ! (1 ∷ []) $ pick ! (λ ws. split3 ! $ drop ! $ heard ! (r ≡ d.len) (λ is. move ! (1 ∷ []) $ split ! $ drop ! $ fsplit ! $ feq_l ! (λ e. flt_l ! (λ f. at_once ! $
        check ! (ap only e ∙ ap (vint w64) is, omega arith) $ done !)))))

-- what such a vector owned is kept
module _ {M : Type 1} {𝓤 : Ura M} (𝓛 : Logic 𝓤) where
  pub lodged-kept : (p : Ptr) (n c : ℕ) (xs : List ℕ) → n ≤ c → ent 𝓤 (sem 𝓛 (lodged u8 p n c xs)) (sem 𝓛 (kept_owns p n xs))
  lodged-kept p zero c xs le = qed 𝓛 (‵ (lodged u8 p 0 c xs) ∷ []) ∵ drop ! $ nothing ! $ done !
  lodged-kept p (suc n) c xs le =
      qed 𝓛 (‵ (lodged u8 p (suc n) c xs) ∷ []) ∵ fsplit ! $ drop ! $
      in_a_block ! p (λ q. in_block q (owns_if (has_block c) (block_with_items (λ _ _. ftrue) u8 q (suc n) c xs))) (id⊢ 𝓤 (never 𝓤)) (λ b o e.
      rewrite ! 0 (λ (y : Bool). ‵ (owns_if y (block_with_items (λ _ _. ftrue) u8 (block_ptr b o) (suc n) c xs))) (is_live c (omega arith)) refl $
      fsplit ! $ move ! (1 ∷ []) $ drop ! $
      rewrite ! 0 (λ (q : Ptr). ‵ (lies_at (Array u8 (suc n)) full_share q xs)) (sym e) refl $
      rewrite ! 0 (λ (y : Bool). ‵ (owns_if y (lies_at (Array u8 (suc n)) full_share p xs))) (sym (is_live (suc n) (omega arith))) refl $ done !)
