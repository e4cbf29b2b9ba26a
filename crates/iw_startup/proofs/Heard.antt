-- A frame that is whole, or at fault, comes to the same without the octets behind it.
use Rattle.std.proofs.Common.{◌≡◌, ◌≢◌, ℕ, ◌<◌, ◌≤◌, ◌++◌, List, [], true, false, not, cond, length, take, drop, Option, Some, None, refl, ap, sym, ◌∙◌, arith, nat_le, length-append, Bool, inl, inr}
use Rattle.std.specs.Option.{option_map_or}
use Rattle.std.proofs.lemmas.Bool.{cases_lt}
use Rattle.std.proofs.lemmas.Bool.Decides.{nat_tests}
use Rattle.std.proofs.lemmas.List.{get_or_append_left, length-take-le, take-append-drop}
use Rattle.iw_startup.specs.declared.progress.Progress.TheVariants.{More, Asked, Agreed, Faulted}
use Rattle.iw_startup.specs.declared.progress.StartupFault.{StartupFault}
use Rattle.iw_startup.specs.declared.config.Establishment.{Establishment}
use Rattle.iw_startup.specs.declared.side.Side.{Side}
use Rattle.iw_startup.specs.declared.side.Side.TheVariants.{Initiator, Responder}
use Rattle.iw_startup.specs.Peer.{fixed_fault, frame_end, frame_part, outcome, progress_of}
use Rattle.iw_startup.specs.State.{StartupState, pushed, agreed_of, agreement}
use Rattle.iw_startup.proofs.Ends.{fixed_fault-append, frame_end-append, least_end}
use Rattle.iw_startup.proofs.Reached.{progress_of-short}

outcome-append : (side : Side) (xs ys : List ℕ) → 20 ≤ length xs → outcome side (xs ++ ys) ≡ outcome side xs
outcome-append Initiator xs ys h = let flags : 16 < length xs = omega arith in rw (get_or_append_left xs ys 0 16 flags) refl
outcome-append (Responder reply) xs ys h = refl

-- octets behind a whole frame change nothing of what it comes to
pub progress_of-append : (est : Establishment) (side : Side) (xs ys : List ℕ) → frame_end est side xs ≤ length xs → progress_of est side (xs ++ ys) ≡ progress_of est side xs
unfolding progress_of
progress_of-append est side xs ys whole =
    let there : 20 ≤ length xs = omega (arith, least_end est side xs) in
    let first : nat_le (frame_end est side xs) (length xs) ≡ true = grind (arith, nat_tests) in
    let both : nat_le (frame_end est side xs) (length (xs ++ ys)) ≡ true = grind (arith, nat_tests, length-append xs ys) in
    rw (frame_end-append est side xs ys there, first, both, fixed_fault-append est side xs ys there, outcome-append side xs ys there) refl

-- the frame alone comes to what all the octets do
pub progress_of-frame_part : (est : Establishment) (side : Side) (octets : List ℕ) → progress_of est side octets ≢ More → progress_of est side (frame_part est side octets) ≡ progress_of est side octets
unfolding frame_part
progress_of-frame_part est side octets told = elim (cases_lt (length octets) (frame_end est side octets)) [
  | inl less ↦ absurd (told (progress_of-short est side octets less))
  | inr whole ↦
      let e : ℕ = frame_end est side octets in
      let part : List ℕ = take (frame_end est side octets) octets in
      let split : take (frame_end est side octets) octets ++ drop (frame_end est side octets) octets ≡ octets = take-append-drop (frame_end est side octets) octets in
      let long : length (take (frame_end est side octets) octets) ≡ frame_end est side octets = length-take-le (frame_end est side octets) octets whole in
      let same : frame_end est side octets ≡ frame_end est side (take (frame_end est side octets) octets)
      = ap (frame_end est side) (sym split) ∙ frame_end-append est side part (drop e octets) (omega (arith, long, least_end est side octets)) in
      sym (ap (progress_of est side) (sym split) ∙ progress_of-append est side part (drop e octets) (omega (arith, long, same)))
]

agreed_side : (est : Establishment) (side : Side) (octets : List ℕ) → progress_of est side octets ≡ Agreed → side ≡ Initiator
unfolding progress_of
agreed_side est Initiator octets e = refl
agreed_side est (Responder reply) octets e = go (nat_le (frame_end est (Responder reply) octets) (length octets)) (fixed_fault est (Responder reply) octets) e
  where
    go : (whole : Bool) (fault : Option StartupFault) → cond (not whole) More (option_map_or Faulted fault Asked) ≡ Agreed → Responder reply ≡ Initiator
    go true None e = cc
    go true (Some f) e = cc
    go false f e = cc

-- so an end that has read a Reply that accepts has agreed
pub agreed_of-pushed : (s : StartupState) (octets : List ℕ) → s.octets ≡ [] → progress_of s.config.establishment s.side octets ≡ Agreed → agreed_of (pushed s octets) ≡ Some (agreement s.config (frame_part s.config.establishment s.side octets))
unfolding agreed_of pushed
agreed_of-pushed s octets fresh e =
    let told : progress_of s.config.establishment s.side octets ≢ More = λ more. let no : Agreed ≡ More = sym e ∙ more in cc in
    let read : progress_of s.config.establishment s.side (frame_part s.config.establishment s.side octets) ≡ Agreed = progress_of-frame_part s.config.establishment s.side octets told ∙ e in
    let taken : s.octets ++ octets ≡ octets = ap (λ xs. xs ++ octets) fresh in
    rw (taken, read, agreed_side s.config.establishment s.side octets e) refl

pub side-pushed : (s : StartupState) (octets : List ℕ) → (pushed s octets).side ≡ s.side
unfolding pushed
side-pushed s octets = refl

pub octets-pushed : (s : StartupState) (octets : List ℕ) → s.octets ≡ [] → (pushed s octets).octets ≡ frame_part s.config.establishment s.side octets
unfolding pushed
octets-pushed s octets fresh = ap (λ xs. frame_part s.config.establishment s.side (xs ++ octets)) fresh
