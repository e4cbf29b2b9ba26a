-- `refuses` at a call: what it is handed, and what a caller has of it. Assumes `Logic`.
use Rattle.std.proofs.Common.{◌≡◌, ℕ, ◌^◌, ◌<◌, List, [], ◌∷◌, refl, ap, Bool, w64}
use seplogic.Ra.Ura.{Ura}
use mir.Val.{Val, vbool, vint, vptr}
use base.Logic.{SProp, ent, sep, guard, ex, id⊢}
use base.Fml.{Lft, Share, ftrue, fsep, flft}
use prog.Memory.{Memory}
use prog.Routine.{Routine}
use types.Logic.{Logic, sem}
use contract.Monad.{Fun}
use types.Kit.{‵, ◌⊛◌, some, later, ◌$◌, ◌∵◌, !, qed, move, keep, use1, split, join, pick, fjoin, feq_i, feq_l, flt_i, check, show, await, updating, now as at_once, done}
use denote.Builtin.{bool}
use denote.Steps.{nothing, only}
use denote.Triple.Statement.{Contract}
use denote.Triple.Spec.{triple_of}
use Rattle.iw_quota.proofs.Cells.{kept}
use Rattle.iw_quota.specs.contracts.refuses as RF

module _ {M : Type 1} {𝓤 : Ura M} (𝓛 : Logic 𝓤) (at_mem : Memory → SProp 𝓤) (run : Routine → Fun 𝓤) where
  abbrev pub Refuse : Contract 𝓤
  Refuse = triple_of 𝓛 RF.signature (RF.spec 𝓛 at_mem run)

  abbrev pub at_refuse : Lft → Share → ℕ × ℕ → ℕ → ℕ → ℕ → Refuse.Ghost
  at_refuse κ q c from to size = (((κ, tt), (q, tt), tt, (record { ref_ptr = c; now = record { value = tt } }, (from, (to, (size, tt)))), (vptr c.0 c.1 ∷ [], (vint w64 from ∷ [], (vint w64 to ∷ [], (vint w64 size ∷ [], tt))))), tt)

module _ {M : Type 1} {𝓤 : Ura M} (𝓛 : Logic 𝓤) (at_mem : Memory → SProp 𝓤) (run : Routine → Fun 𝓤) (κ : Lft) (q : Share) (c : ℕ × ℕ) (from to size : ℕ) where
  open 𝓛 use {H, A}

  pub Refuse-goes : from < 2 ^ 64 → to < 2 ^ 64 → size < 2 ^ 64 → ent 𝓤 (sep 𝓤 (sem 𝓛 (kept κ c)) (A.lft κ q)) ((Refuse 𝓛 at_mem run).pre (at_refuse 𝓛 at_mem run κ q c from to size))
  Refuse-goes ff ft fs =
      qed 𝓛 (‵ (kept κ c) ∷ ‵ (flft κ q) ∷ []) ∵ nothing ! $ flt_i ! size (2 ^ 64) fs $ feq_i ! (List Val) (vint w64 size ∷ []) (vint w64 size ∷ []) refl $ fjoin ! $ fjoin ! $
      flt_i ! to (2 ^ 64) ft $ feq_i ! (List Val) (vint w64 to ∷ []) (vint w64 to ∷ []) refl $ fjoin ! $ fjoin ! $ flt_i ! from (2 ^ 64) ff $ feq_i ! (List Val) (vint w64 from ∷ []) (vint w64 from ∷ []) refl $ fjoin ! $ fjoin ! $
      move ! (1 ∷ []) $ feq_i ! (List Val) (vptr c.0 c.1 ∷ []) (vptr c.0 c.1 ∷ []) refl $ fjoin ! $ fjoin ! $
      nothing ! $ move ! (2 ∷ []) $ join ! $ join ! $ nothing ! $ move ! (1 ∷ []) $ join ! $ done !

  pub Refuse-gives : (v : Val) → ent 𝓤 ((Refuse 𝓛 at_mem run).post (at_refuse 𝓛 at_mem run κ q c from to size) v) (H.⇛ (ex 𝓤 (λ (r : Bool). guard 𝓤 (v ≡ vbool r) (A.lft κ q))))
  Refuse-gives v =
      qed 𝓛 (types.Kit.raw ((Refuse 𝓛 at_mem run).post (at_refuse 𝓛 at_mem run κ q c from to size) v) ∷ []) ∵ updating ! $
      use1 𝓛 (later (some (λ (r : Bool). ((‵ (flft κ q) ⊛ ‵ ftrue) ⊛ ‵ (bool.own_val r (v ∷ []))) ⊛ some (λ (ws : Unit {0} × (Unit {0} × (Unit {0} × (Unit {0} × Unit {0})))). ‵ (fsep ftrue (fsep ftrue (fsep ftrue (fsep ftrue ftrue)))) ⊛ ‵ ftrue)))) (id⊢ 𝓤 _) $ await ! tt $ pick ! (λ r.
      split ! $ split ! $ move ! (1 ∷ []) $ feq_l ! (λ e. split ! $ at_once ! $ show ! (λ (r' : Bool). guard 𝓤 (v ≡ vbool r') (A.lft κ q)) r $ check ! (ap only e) $ keep ! (0 ∷ []) $ done !))
