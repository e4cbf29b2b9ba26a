-- What the walks of a handle share. Assumes `Logic`.
--     E                          a box of what a handle has, for the steps of std on boxes
--     handle_out, handle_in      a handle by value is [what it owns; the allocator]
use Rattle.std.proofs.Common.{◌≡◌, List, [], ◌∷◌, ◌++◌, refl, subst, ℕ, Option, Some, None}
use seplogic.Ra.Ura.{Ura}
use base.Fraction.{full_share}
use base.Logic.{SProp, ent, via, snd∗, fst∗, never, guard, guard_i}
use mir.Raw.{raw as bare}
use contract.Monad.{fact_use}
use denote.Memory.{lone}
use Rattle.std.proofs.GlobalToken.{dealloc_token-Testable}
use Rattle.std.specs.Box.Ownership.{box_owns}
use mir.Syntax.{impl, tnil, dnil}
use mir.Val.{Val, vstruct, vcons, vnil, of_list}
use types.Logic.{Logic, sem}
use types.Kit.{Item, Goal, Seq, Step, step, ‵, ◌$◌, move, drop, fsplit, fjoin, fpick, fpack, feq_i, feq_l, use1, given, learn}
use denote.RattleType.{RattleType, Valss}
use denote.Builtin.{RawPtr}
use denote.RawPtr.{Ptr, ptr_val, null_ptr, block_ptr, lies_at, in_a_block, Testable}
use denote.Steps.{nothing}
use denote.Param.{layout}
use denote.Struct.Struct.{within}
use denote.Struct.Owning.{shape, to}
use Rattle.std.proofs.alloc.Calls.{Al, handle_tells}
use Rattle.std.proofs.cell.Inside.{Good}
use Rattle.std.proofs.BoxSteps.Form.{Bx}
use Rattle.std.specs.declared.alloc.Global.{Global}
use Rattle.std.specs.contracts.alloc.Global as heap
use Rattle.std.proofs.alloc.Global.TheLaws as heap_laws
use Rattle.std.specs.contracts.impls.GlobalAllocator.TheImpl.{ghosts}
use Rattle.iw_handle.proofs.open_handle.Held.TheLaws as held_laws
use Rattle.iw_handle.specs.declared.open_handle.Held.{Held}
use Rattle.iw_handle.specs.Ownership.{held_row, handle_owns}
use Rattle.iw_handle.specs.contracts.handle.Handle as handle
use Rattle.iw_buffer.specs.contracts.parts.Parts as parts
use denote.Signature.{Slot, plain}

abbrev pub Z : RattleType
Z = heap.the_row

abbrev pub al : Al
al = record { row = Z; laws = heap_laws.the_row_laws; g = ghosts; d = impl [] tnil dnil; drops = impl [] tnil dnil }

abbrev pub both : Val → Val → Val
both v w = vstruct (vcons v (vcons w vnil))

abbrev pub Handle : RattleType
Handle = handle.the_row

module _ {M : Type 1} {𝓤 : Ura M} {𝓛 : Logic 𝓤} {K : Type 0} {Γ : List (Item 𝓤)} {G : Goal 𝓤 𝓛.H} where
  pub handle_out : K → (d : Handle.Denot) (vs : List Val)
      → ((h : Val) → vs ≡ both (ptr_val d.at) h ∷ [] → Good (layout Z) h → Seq K 𝓛 (‵ (handle_owns d.alloc d.at d.state) ∷ ‵ (Z.own_val d.alloc (h ∷ [])) ∷ Γ) G)
      → Seq K 𝓛 (‵ (Handle.own_val d vs) ∷ Γ) G
  handle_out t d vs k =
      fsplit t $ fpick t (λ vss. fsplit t $ feq_l t (λ ev. fsplit t $ feq_l t (λ ep. fsplit t $ handle_tells al t d.alloc vss.1.0 (λ h ea fits. move t (1 ∷ []) $ drop t $ move t (1 ∷ []) $ k h
      (subst (λ (ws : List Val). vs ≡ vstruct (of_list (ptr_val d.at ∷ (ws ++ []))) ∷ []) ea (subst (λ (ps : List Val). vs ≡ vstruct (of_list (ps ++ (vss.1.0 ++ []))) ∷ []) ep ev)) fits))))

  pub handle_in : K → (d : Handle.Denot) (h : Val)
      → Step K 𝓛 (‵ (Handle.own_val d (both (ptr_val d.at) h ∷ [])) ∷ Γ) G (‵ (handle_owns d.alloc d.at d.state) ∷ ‵ (Z.own_val d.alloc (h ∷ [])) ∷ Γ) G
  handle_in t d h = step (λ s. let v : Val = both (ptr_val d.at) h in
      nothing t $ move t (2 ∷ 0 ∷ []) $ fjoin t $ feq_i t (List Val) (ptr_val d.at ∷ []) (ptr_val d.at ∷ []) refl $ fjoin t $ feq_i t (List Val) (v ∷ []) (v ∷ []) refl $ fjoin t $
      fpack t (Valss (RawPtr ∷ Z ∷ [])) (within (shape handle.the_type) (to handle.the_type d) (v ∷ [])) (ptr_val d.at ∷ [], (h ∷ [], tt)) $ fjoin t $ s)

abbrev pub E : Bx
E = record { row = held_row; laws = held_laws.the_row_laws; al = al }

abbrev pub Parts : RattleType
Parts = parts.the_row held_row Z ghosts

abbrev pub FromParts : Slot 0
FromParts = plain (λ _. Parts)

abbrev pub FromHandle : Slot 0
FromHandle = plain (λ _. Handle)

module _ {M : Type 1} {𝓤 : Ura M} (𝓛 : Logic 𝓤) (a : Global) where
  pub tested : (p : Ptr) (x : Held) → ent 𝓤 (sem 𝓛 (box_owns (ghosts.dealloc_token a) held_row p x)) (guard 𝓤 (Testable p) (sem 𝓛 (box_owns (ghosts.dealloc_token a) held_row p x)))
  tested p x = let Owned : SProp 𝓤 = sem 𝓛 (box_owns (ghosts.dealloc_token a) held_row p x) in
      fact_use 𝓤 (Testable p) (via 𝓤 _ (snd∗ 𝓤 (sem 𝓛 (lies_at held_row full_share p x)) (sem 𝓛 (ghosts.dealloc_token a (bare (lone held_row.mir)) p)))
      (dealloc_token-Testable 𝓛 a (bare (lone held_row.mir)) p)) (guard_i 𝓤 (Testable p) Owned)

-- what a handle owns is nothing, at null, or what it has in a block whose pointer may be compared with null
module _ {M : Type 1} {𝓤 : Ura M} {𝓛 : Logic 𝓤} {K : Type 0} {Γ : List (Item 𝓤)} {G : Goal 𝓤 𝓛.H} where
  pub owned_tested : K → (a : Global) (p : Ptr) (s : Option Held)
      → (p ≡ null_ptr → s ≡ None → Seq K 𝓛 Γ G)
      → ((b o : ℕ) (x : Held) → p ≡ block_ptr b o → s ≡ Some x → Testable (block_ptr b o) → Seq K 𝓛 (‵ (box_owns (ghosts.dealloc_token a) held_row (block_ptr b o) x) ∷ Γ) G)
      → Seq K 𝓛 (‵ (handle_owns a p s) ∷ Γ) G
  owned_tested t a p None at_none at_some = feq_l t (λ is. at_none is refl)
  owned_tested t a p (Some x) at_none at_some =
      in_a_block t p (λ q. box_owns (ghosts.dealloc_token a) held_row q x) (fst∗ 𝓤 (never 𝓤) (sem 𝓛 (ghosts.dealloc_token a (bare (lone held_row.mir)) null_ptr))) (λ b o is.
      use1 𝓛 (given (Testable (block_ptr b o)) (‵ (box_owns (ghosts.dealloc_token a) held_row (block_ptr b o) x))) (tested 𝓛 a (block_ptr b o) x) $ learn t (λ may. at_some b o x is refl may))
