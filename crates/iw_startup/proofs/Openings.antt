-- What the peer's frame comes to, and when an end has agreed.
use Rattle.std.proofs.Common.{◌≡◌, ◌≢◌, ℕ, ◌≤◌, List, [], ◌++◌, length, Option, Some, None, Bool, true, false, cond, nat_eq, refl, sym, ap, ◌∙◌, subst, arith, inl, inr}
use Rattle.std.specs.Prelude.{not, IsTrue}
use Rattle.std.specs.List.{starts_with}
use Rattle.std.specs.Option.{option_map_or}
use Rattle.std.proofs.lemmas.Bool.{cases_lt}
use Rattle.arrayvec.specs.ArrayVec.{ArrayVec}
use Rattle.iw_startup.specs.declared.progress.Progress.{Progress}
use Rattle.iw_startup.specs.declared.progress.Progress.TheVariants as progress
use Rattle.iw_startup.specs.declared.progress.StartupFault.{StartupFault}
use Rattle.iw_startup.specs.declared.progress.StartupFault.TheVariants.{BadKey, BadRev, BadLength, Rejected}
use Rattle.iw_startup.specs.declared.side.Reply.{Reply}
use Rattle.iw_startup.specs.declared.side.Reply.TheVariants.{Accept, Reject}
use Rattle.iw_startup.specs.declared.config.Establishment.{Establishment}
use Rattle.iw_startup.specs.declared.config.Establishment.TheVariants.{Plain}
use Rattle.iw_startup.specs.declared.enhanced.EnhancedData.{EnhancedData}
use Rattle.iw_startup.specs.declared.enhanced.Mismatch.{Mismatch}
use Rattle.iw_startup.specs.declared.side.Side.{Side}
use Rattle.iw_startup.specs.declared.side.Side.TheVariants.{Initiator, Responder}
use Rattle.iw_startup.specs.Enhanced.{mismatch_in}
use Rattle.iw_startup.specs.Frame.{rejects, told}
use Rattle.iw_startup.specs.Peer.{peer_key, takes_revision, is_bad_length, fixed_fault, frame_end, frame_part, is_whole, is_read, outcome, progress_of}
use Rattle.iw_startup.specs.State.{StartupState, IsReached, pushed, answered, told_of, has_agreed, is_agreed, is_answered, agreement, agreed_of, mismatch_of}
use Rattle.iw_startup.proofs.Ends.{least_end}
use Rattle.iw_startup.proofs.Reached.{progress_of-short}
use Rattle.iw_startup.proofs.Heard.{progress_of-frame_part}

-- a frame that comes to anything but more is whole
pub told_whole : (est : Establishment) (side : Side) (xs : List ℕ) (p : Progress) → progress_of est side xs ≡ p → (p ≡ progress.More → ⊥) → frame_end est side xs ≤ length xs
told_whole est side xs p e other = elim (cases_lt (length xs) (frame_end est side xs)) [
  | inl less ↦ absurd (other (sym e ∙ progress_of-short est side xs less))
  | inr enough ↦ enough
]

-- a frame that is asked about or agrees has no fault in its fixed octets
no_fault : (whole : Bool) (fault : Option StartupFault) (outcome p : Progress) → cond (not whole) progress.More (option_map_or progress.Faulted fault outcome) ≡ p
    → (p ≡ progress.More → ⊥) → ((f : StartupFault) → p ≡ progress.Faulted f → ⊥) → fault ≡ None
no_fault true None outcome p e other good = refl
no_fault true (Some f) outcome p e other good = absurd (good f (sym e))
no_fault false fault outcome p e other good = absurd (other (sym e))

pub asked_good : (est : Establishment) (side : Side) (xs : List ℕ) → progress_of est side xs ≡ progress.Asked → fixed_fault est side xs ≡ None
unfolding progress_of
asked_good est side xs e = no_fault (is_whole est side xs) (fixed_fault est side xs) (outcome side xs) progress.Asked e (λ x. cc) (λ f x. cc)

pub agreed_good : (est : Establishment) (side : Side) (xs : List ℕ) → progress_of est side xs ≡ progress.Agreed → fixed_fault est side xs ≡ None
unfolding progress_of
agreed_good est side xs e = no_fault (is_whole est side xs) (fixed_fault est side xs) (outcome side xs) progress.Agreed e (λ x. cc) (λ f x. cc)

-- so its revision is one that the end takes
pub good_revision : (est : Establishment) (side : Side) (xs : List ℕ) → fixed_fault est side xs ≡ None → takes_revision side est xs ≡ true
unfolding fixed_fault
good_revision est side xs h = go (starts_with nat_eq xs (peer_key side)) (takes_revision side est xs) (is_bad_length est xs) h
  where
    go : (key takes bad : Bool) → cond {A = Option StartupFault} (not key) (Some BadKey) (cond (not takes) (Some BadRev) (cond bad (Some BadLength) None)) ≡ None → takes ≡ true
    go true true bad h = refl
    go true false bad h = cc
    go false takes bad h = cc

-- ---- without the option

pub plain_told : (u : StartupState) → u.config.establishment ≡ Plain → told_of u ≡ None
unfolding told_of
plain_told u e = ap (λ est. cond (is_read u.config.establishment u.side u.octets) (told est u.octets) None) e ∙ none (is_read u.config.establishment u.side u.octets)
  where
    none : (b : Bool) → cond {A = Option EnhancedData} b None None ≡ None
    none true = refl
    none false = refl

pub plain_fits : (u : StartupState) → u.config.establishment ≡ Plain → mismatch_of u ≡ None
unfolding mismatch_of
plain_fits u e = ap (λ est. cond (is_agreed (progress_of u.config.establishment u.side u.octets)) (mismatch_in est (told est u.octets)) None) e
    ∙ none (is_agreed (progress_of u.config.establishment u.side u.octets))
  where
    none : (b : Bool) → cond {A = Option Mismatch} b None None ≡ None
    none true = refl
    none false = refl

-- ---- agreement

-- an end that has read nothing has not agreed
pub nothing_agreed : (u : StartupState) → u.octets ≡ [] → agreed_of u ≡ None
unfolding agreed_of
nothing_agreed u e =
    let more : progress_of u.config.establishment u.side u.octets ≡ progress.More = ap (progress_of u.config.establishment u.side) e ∙ progress_of-short u.config.establishment u.side [] (omega (arith, least_end u.config.establishment u.side [])) in
    ap (λ b. cond b (Some (agreement u.config u.octets)) None) (ap (has_agreed u.side) more ∙ none u.side)
  where
    none : (side : Side) → has_agreed side progress.More ≡ false
    none Initiator = refl
    none (Responder None) = refl
    none (Responder (Some (Accept private))) = refl
    none (Responder (Some (Reject private))) = refl

-- a responder without an answer has not, nor has one that rejects
pub unanswered_not_agreed : (u : StartupState) → u.side ≡ Responder None → agreed_of u ≡ None
unfolding agreed_of
unanswered_not_agreed u e = ap (λ b. cond b (Some (agreement u.config u.octets)) None) (ap (λ side. has_agreed side (progress_of u.config.establishment u.side u.octets)) e ∙ none (progress_of u.config.establishment u.side u.octets))
  where
    none : (p : Progress) → has_agreed (Responder None) p ≡ false
    none progress.More = refl
    none progress.Asked = refl
    none progress.Agreed = refl
    none (progress.Faulted fault) = refl

pub rejected_not_agreed : (u : StartupState) (private : ArrayVec ℕ) → agreed_of (answered u (Reject private)) ≡ None
unfolding agreed_of
rejected_not_agreed u private = ap (λ b. cond b (Some (agreement u.config u.octets)) None) (none (progress_of u.config.establishment (Responder (Some (Reject private))) u.octets))
  where
    none : (p : Progress) → has_agreed (Responder (Some (Reject private))) p ≡ false
    none progress.More = refl
    none progress.Asked = refl
    none progress.Agreed = refl
    none (progress.Faulted fault) = refl

-- an end that asks its user is a responder that has not answered
pub asking_side : (u : StartupState) (octets : List ℕ) → IsReached u → u.octets ≡ [] → progress_of u.config.establishment u.side octets ≡ progress.Asked → u.side ≡ Responder None
unfolding progress_of
asking_side u octets reached e told = go u.side refl told
  where
    no_request : (whole rejects_it : Bool) (fault : Option StartupFault) → cond (not whole) progress.More (option_map_or progress.Faulted fault (cond rejects_it (progress.Faulted Rejected) progress.Agreed)) ≡ progress.Asked → ⊥
    no_request true true None h = cc
    no_request true false None h = cc
    no_request true rejects_it (Some fault) h = cc
    no_request false rejects_it fault h = cc

    go : (side : Side) → u.side ≡ side → progress_of u.config.establishment side octets ≡ progress.Asked → u.side ≡ Responder None
    go Initiator is h = absurd (no_request (is_whole u.config.establishment Initiator octets) (rejects octets) (fixed_fault u.config.establishment Initiator octets) h)
    go (Responder None) is h = is
    go (Responder (Some reply)) is h = absurd (answered_nothing reply is)
      where
        answered_nothing : (reply : Reply) → u.side ≡ Responder (Some reply) → ⊥
        answered_nothing reply is =
            let asked : progress_of u.config.establishment u.side u.octets ≡ progress.Asked = reached.asked (subst (λ side. IsTrue (is_answered side)) (sym is) refl) in
            let more : progress_of u.config.establishment u.side u.octets ≡ progress.More = ap (progress_of u.config.establishment u.side) e ∙ progress_of-short u.config.establishment u.side [] (omega (arith, least_end u.config.establishment u.side [])) in
            let both : progress.Asked ≡ progress.More = sym asked ∙ more in
            cc

-- what closes a stream is not an agreement
pub fault_not_agreed : (u : StartupState) (octets : List ℕ) (fault : StartupFault) → u.octets ≡ [] → progress_of u.config.establishment u.side octets ≡ progress.Faulted fault → agreed_of (pushed u octets) ≡ None
unfolding agreed_of pushed
fault_not_agreed u octets fault e told =
    let other : progress_of u.config.establishment u.side octets ≢ progress.More = λ more. let no : progress.Faulted fault ≡ progress.More = sym told ∙ more in cc in
    let all : u.octets ++ octets ≡ octets = ap (λ z. z ++ octets) e in
    let same : progress_of u.config.establishment u.side (frame_part u.config.establishment u.side (u.octets ++ octets)) ≡ progress.Faulted fault = ap (λ z. progress_of u.config.establishment u.side (frame_part u.config.establishment u.side z)) all ∙ progress_of-frame_part u.config.establishment u.side octets other ∙ told in
    (λ i. cond (has_agreed u.side (same i)) (Some (agreement u.config (frame_part u.config.establishment u.side (u.octets ++ octets)))) None)
    ∙ ap (λ b. cond b (Some (agreement u.config (frame_part u.config.establishment u.side (u.octets ++ octets)))) None) (none u.side)
  where
    none : (side : Side) → has_agreed side (progress.Faulted fault) ≡ false
    none Initiator = refl
    none (Responder None) = refl
    none (Responder (Some (Accept private))) = refl
    none (Responder (Some (Reject private))) = refl
