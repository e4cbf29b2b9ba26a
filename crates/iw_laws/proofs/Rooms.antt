-- The room for private data in start-up frames, and start-ups that are open already.
use Rattle.std.proofs.Common.{◌≡◌, ℕ, ◌+◌, ◌≤◌, List, Bool, true, false, ◌&&◌, cond, nat_lt, Option, None, Some, length, refl, sym, ap, ◌∙◌, subst, arith}
use Rattle.std.specs.Prelude.{is_some, not}
use Rattle.std.specs.Option.{option_map, option_map_or, option_or}
use Rattle.iw_endpoint.specs.declared.refusal.OpenSharedRefusal.{OpenSharedRefusal}
use Rattle.iw_endpoint.specs.Endpoint.{open_shared_refusal_of}
use Rattle.iw_stream.specs.declared.answer.OpenRefusal.TheVariants.{PrivateTooLong}
use Rattle.std.proofs.lemmas.Bool.{false≢true}
use Rattle.std.proofs.lemmas.Bool.Decides.{nat_tests}
use Rattle.std.proofs.lemmas.Option.{none-some}
use Rattle.iw_startup.specs.declared.config.Config.{Config}
use Rattle.iw_startup.specs.declared.config.Establishment.{Establishment}
use Rattle.iw_startup.specs.declared.config.Establishment.TheVariants.{Plain, Enhanced, PeerToPeer}
use Rattle.iw_startup.specs.declared.side.Reply.{Reply}
use Rattle.iw_startup.specs.declared.side.Reply.TheVariants.{Accept, Reject}
use Rattle.iw_startup.specs.declared.side.Side.{Side}
use Rattle.iw_startup.specs.declared.side.Side.TheVariants.{Initiator, Responder}
use Rattle.iw_startup.specs.Enhanced.{asked_revision}
use Rattle.iw_startup.specs.Frame.{is_enhanced, has_word, has_revision, has_flag, private_room, revision_of}
use Rattle.iw_startup.specs.declared.enhanced.Mismatch.{Mismatch}
use Rattle.iw_startup.specs.declared.progress.Progress.{Progress}
use Rattle.iw_startup.specs.declared.progress.Progress.TheVariants as progress
use Rattle.iw_startup.specs.declared.progress.StartupFault.{StartupFault}
use Rattle.iw_startup.specs.Enhanced.{mismatch_in as mismatch_at}
use Rattle.iw_startup.specs.Frame.{told}
use Rattle.iw_startup.specs.Peer.{is_whole, fixed_fault, progress_of}
use Rattle.iw_startup.specs.State as startups
use Rattle.iw_startup.specs.State.{StartupState, IsReached, answer_room, private_in, own_frame, agreement, agreed_of, mismatch_of, has_agreed, is_agreed}
use Rattle.iw_startup.proofs.Lengths.{length_request, length_reply}
use Rattle.iw_stream.specs.declared.answer.Role.TheVariants as roles
use Rattle.iw_stream.specs.Starting.{StartState, AtOnce, Unheard, Heard, is_open, is_responder, awaits_frame, heard, mismatch_in, exceeds_request}

-- ---- how much private data fits

room_asked : (e : Establishment) → private_room (asked_revision e) ≡ cond (is_enhanced (asked_revision e)) 508 512
room_asked Plain = refl
room_asked Enhanced = refl
room_asked PeerToPeer = refl

room_read : (e : Establishment) (octets : List ℕ) → private_room (revision_of e octets) ≡ cond (has_word e octets) 508 512
room_read Plain octets = refl
room_read Enhanced octets = go (has_revision 2 octets) (has_flag 0x10 octets) refl refl
  where
    go : (two flag : Bool) → has_revision 2 octets ≡ two → has_flag 0x10 octets ≡ flag → private_room (revision_of Enhanced octets) ≡ cond (has_word Enhanced octets) 508 512
    go true true e f = rw (e, f) refl
    go true false e f = rw (e, f) refl
    go false flag e f = rw e refl
room_read PeerToPeer octets = go (has_revision 2 octets) (has_flag 0x10 octets) refl refl
  where
    go : (two flag : Bool) → has_revision 2 octets ≡ two → has_flag 0x10 octets ≡ flag → private_room (revision_of PeerToPeer octets) ≡ cond (has_word PeerToPeer octets) 508 512
    go true true e f = rw (e, f) refl
    go true false e f = rw (e, f) refl
    go false flag e f = rw e refl

-- a frame of at most 532 octets has room for what it has
within : (b : Bool) (n : ℕ) → 20 + cond b 4 0 + n ≤ 532 → n ≤ cond b 508 512
within true n h = omega (arith, h)
within false n h = omega (arith, h)

pub request_room : (u : StartupState) → IsReached u → u.side ≡ Initiator → length u.config.private.items ≤ private_room (asked_revision u.config.establishment)
request_room u reached side =
    let fits : length (own_frame u.config Initiator u.octets) ≤ 532 = subst (λ z. length (own_frame u.config z u.octets) ≤ 532) side reached.fits in
    let n : ℕ = length u.config.private.items in
    subst (λ z. n ≤ z) (sym (room_asked u.config.establishment))
    (within (is_enhanced (asked_revision u.config.establishment)) n (subst (λ z. z ≤ 532) (length_request u.config u.config.private.items) fits))

pub reply_room : (u : StartupState) (reply : Reply) → IsReached u → u.side ≡ Responder (Some reply) → length (private_in reply).items ≤ answer_room u
reply_room u reply reached side = go reply (subst (λ z. length (own_frame u.config z u.octets) ≤ 532) side reached.fits)
  where
    by : (rejecting : Bool) (private : List ℕ) (m : ℕ) → m ≡ 20 + cond (has_word u.config.establishment u.octets) 4 0 + length private → m ≤ 532 → length private ≤ answer_room u
    by rejecting private m is few =
        subst (λ z. length private ≤ z) (sym (room_read u.config.establishment u.octets))
        (within (has_word u.config.establishment u.octets) (length private) (subst (λ z. z ≤ 532) is few))

    go : (reply : Reply) → length (own_frame u.config (Responder (Some reply)) u.octets) ≤ 532 → length (private_in reply).items ≤ answer_room u
    go (Accept private) few = by false private.items _ (length_reply u.config false u.octets private.items) few
    go (Reject private) few = by true private.items _ (length_reply u.config true u.octets private.items) few

-- an answer that is not refused fits
pub answer_fits : (u : StartupState) (private : List ℕ) → length private ≤ 512 → (has_word u.config.establishment u.octets && nat_lt 508 (length private)) ≡ false → length private ≤ answer_room u
answer_fits u private few fits =
    subst (λ z. length private ≤ z) (sym (room_read u.config.establishment u.octets))
    (go (has_word u.config.establishment u.octets) fits)
  where
    go : (b : Bool) → (b && nat_lt 508 (length private)) ≡ false → length private ≤ cond b 508 512
    go true h = (let low : nat_lt 508 (length private) ≡ false = h in grind (arith, nat_tests))
    go false h = few

-- so does a Request
pub opening_fits : (config : Config) → length config.private.items ≤ 512 → exceeds_request roles.Initiator config ≡ false → length config.private.items ≤ private_room (asked_revision config.establishment)
opening_fits config few fits = go config.establishment fits
  where
    low : nat_lt 508 (length config.private.items) ≡ false → length config.private.items ≤ 508
    low h = grind (arith, nat_tests)

    go : (e : Establishment) → (is_enhanced (asked_revision e) && nat_lt 508 (length config.private.items)) ≡ false → length config.private.items ≤ private_room (asked_revision e)
    go Plain h = few
    go Enhanced h = low h
    go PeerToPeer h = low h

-- a last reason that never holds
pub or_none : {R : Type 0} (o : Option R) → option_or o None ≡ o
or_none None = refl
or_none (Some reason) = refl

-- and one does not hold where there is none
pub last_reason : {R : Type 0} (o : Option R) (b : Bool) (reason : R) → None ≡ option_or o (cond b (Some reason) None) → b ≡ false
last_reason None true reason e = absurd (none-some _ e)
last_reason None false reason e = refl
last_reason (Some first) b reason e = absurd (none-some _ e)

pub last_shared : (o p : Option OpenSharedRefusal) (b : Bool) → None ≡ option_or o (option_or p (option_map open_shared_refusal_of (cond b (Some PrivateTooLong) None))) → b ≡ false
last_shared None None true e = absurd (none-some _ e)
last_shared None None false e = refl
last_shared None (Some reason) b e = absurd (none-some _ e)
last_shared (Some reason) p b e = absurd (none-some _ e)

-- ---- start-ups that are open

-- only a Reply agrees
agreeing : (est : Establishment) (reply : Option Reply) (xs : List ℕ) → progress_of est (Responder reply) xs ≡ progress.Agreed → ⊥
unfolding progress_of
agreeing est reply xs e = go (is_whole est (Responder reply) xs) (fixed_fault est (Responder reply) xs) e
  where
    go : (whole : Bool) (fault : Option StartupFault) → cond (not whole) progress.More (option_map_or progress.Faulted fault progress.Asked) ≡ progress.Agreed → ⊥
    go true None h = cc
    go true (Some f) h = cc
    go false fault h = cc

-- an end whose peer wants what it does not have has agreed, and is an initiator
wants_agreed : (u : StartupState) (mismatch : Mismatch) → mismatch_of u ≡ Some mismatch → (is_some (agreed_of u) ≡ true) × (startups.is_responder u.side ≡ false)
unfolding mismatch_of agreed_of
wants_agreed u mismatch e = go u.side (progress_of u.config.establishment u.side u.octets) refl refl e
  where
    go : (side : Side) (p : Progress) → u.side ≡ side → progress_of u.config.establishment u.side u.octets ≡ p
        → cond (is_agreed p) (mismatch_at u.config.establishment (told u.config.establishment u.octets)) None ≡ Some mismatch
        → (is_some (cond (has_agreed u.side (progress_of u.config.establishment u.side u.octets)) (Some (agreement u.config u.octets)) None) ≡ true) × (startups.is_responder u.side ≡ false)
    go side progress.More is q h = absurd (none-some _ h)
    go side progress.Asked is q h = absurd (none-some _ h)
    go side (progress.Faulted fault) is q h = absurd (none-some _ h)
    go Initiator progress.Agreed is q h = ((λ i. is_some (cond (has_agreed (is i) (q i)) (Some (agreement u.config u.octets)) None)), ap startups.is_responder is)
    go (Responder reply) progress.Agreed is q h = absurd (agreeing u.config.establishment reply u.octets (ap (λ z. progress_of u.config.establishment z u.octets) (sym is) ∙ q))

pub wants_open : (start : StartState) (mismatch : Mismatch) → mismatch_in start ≡ Some mismatch → (is_open start ≡ true) × (is_responder start ≡ false)
wants_open (AtOnce layout) mismatch e = absurd (none-some _ e)
wants_open (Unheard u) mismatch e = absurd (none-some _ e)
wants_open (Heard u) mismatch e = wants_agreed u mismatch e

-- the peer's frame was read before
pub open_heard : (start : StartState) → is_open start ≡ true → awaits_frame start ≡ false
open_heard (AtOnce layout) e = refl
open_heard (Unheard u) e = absurd (false≢true e)
open_heard (Heard u) e = refl

pub heard_open : (start : StartState) (octets : List ℕ) → is_open start ≡ true → heard start octets ≡ start
heard_open (AtOnce layout) octets e = refl
heard_open (Unheard u) octets e = absurd (false≢true e)
heard_open (Heard u) octets e = refl
