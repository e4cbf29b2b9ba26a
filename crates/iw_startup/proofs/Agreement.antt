-- Two ends, each of which has read the frame that the other sent.
use Rattle.std.proofs.Common.{◌≡◌, ℕ, ◌≤◌, List, [], ◌++◌, length, Option, Some, None, Bool, true, false, cond, refl, sym, ap, ◌∙◌, subst, arith}
use Rattle.std.specs.Prelude.{IsTrue, is_some}
use Rattle.std.proofs.lemmas.Bool.{false≢true}
use Rattle.arrayvec.specs.ArrayVec.{ArrayVec}
use Rattle.iw_startup.specs.declared.config.Config.{Config}
use Rattle.iw_startup.specs.declared.config.Establishment.{Establishment}
use Rattle.iw_startup.specs.declared.config.Establishment.TheVariants.{Plain, Enhanced, PeerToPeer}
use Rattle.iw_startup.specs.declared.enhanced.Revision.{Revision}
use Rattle.iw_startup.specs.declared.progress.Progress.{Progress}
use Rattle.iw_startup.specs.declared.progress.Progress.TheVariants as answer
use Rattle.iw_startup.specs.declared.side.Reply.{Reply}
use Rattle.iw_startup.specs.declared.side.Reply.TheVariants.{Accept, Reject}
use Rattle.iw_startup.specs.declared.side.Side.{Side}
use Rattle.iw_startup.specs.declared.side.Side.TheVariants.{Initiator, Responder}
use Rattle.iw_startup.specs.Enhanced.{at_responder, asked_revision, in_kind}
use Rattle.iw_startup.specs.Frame.{private_room, revision_of}
use Rattle.iw_startup.specs.Laws.{IsAskable, understands, initiator, agreed_between, from_other_end}
use Rattle.iw_startup.specs.Peer.{fixed_fault, frame_end, frame_part, progress_of}
use Rattle.iw_startup.specs.State.{StartupState, IsReached, progress, private_in, own_frame, reply_with, reply_frame, agreement, has_agreed, agreed_of, mismatch_of}
use Rattle.iw_startup.proofs.Pieces.{frame_part-whole}
use Rattle.iw_startup.proofs.Ends.{least_end, fixed_fault-append}
use Rattle.iw_startup.proofs.Openings.{told_whole, asked_good, good_revision}
use Rattle.iw_startup.proofs.Lengths.{room-in_kind}
use Rattle.iw_startup.proofs.Written.{takes, written, length-written, frame_end-written, takes-read}
use Rattle.iw_startup.proofs.Handshake.{reply as the_reply, takes_reply, asked_by, opened, fitting, accepted, closed}

-- an end that has agreed
pub data IsAgreed (u : StartupState) : Type 0 where
  Asking : u.side ≡ Initiator → progress u ≡ answer.Agreed → IsAgreed u
  Accepting : (private : ArrayVec ℕ) → u.side ≡ Responder (Some (Accept private)) → progress u ≡ answer.Asked → IsAgreed u

pub is_agreed : (u : StartupState) → is_some (agreed_of u) ≡ true → IsAgreed u
unfolding agreed_of
is_agreed u h = go u.side (progress u) refl refl (test (has_agreed u.side (progress u)) h)
  where
    test : (b : Bool) → is_some (cond b (Some (agreement u.config u.octets)) None) ≡ true → b ≡ true
    test true e = refl
    test false e = absurd (false≢true e)

    go : (side : Side) (p : Progress) → u.side ≡ side → progress u ≡ p → has_agreed side p ≡ true → IsAgreed u
    go Initiator answer.Agreed s e h = Asking s e
    go Initiator answer.More s e h = absurd (false≢true h)
    go Initiator answer.Asked s e h = absurd (false≢true h)
    go Initiator (answer.Faulted fault) s e h = absurd (false≢true h)
    go (Responder None) p s e h = absurd (false≢true h)
    go (Responder (Some (Reject private))) p s e h = absurd (false≢true h)
    go (Responder (Some (Accept private))) answer.Asked s e h = Accepting private s e
    go (Responder (Some (Accept private))) answer.More s e h = absurd (false≢true h)
    go (Responder (Some (Accept private))) answer.Agreed s e h = absurd (false≢true h)
    go (Responder (Some (Accept private))) (answer.Faulted fault) s e h = absurd (false≢true h)

-- the peer's frame was read, and nothing behind it
pub record HasRead (u : StartupState) : Type 0 where
  pub within : length u.octets ≤ frame_end u.config.establishment u.side u.octets
  pub whole : frame_end u.config.establishment u.side u.octets ≤ length u.octets

pub has_read : (u : StartupState) (p : Progress) → IsReached u → progress u ≡ p → (p ≡ answer.More → ⊥) → HasRead u
has_read u p reached e other = record { within = reached.within; whole = told_whole u.config.establishment u.side u.octets p e other }

reply_is : (asking answering : Config) (rejecting : Bool) (request private : List ℕ) → revision_of answering.establishment request ≡ asked_revision asking.establishment
    → reply_with answering rejecting request private ≡ written Initiator answering.markers answering.crc rejecting (in_kind rejecting (asked_revision asking.establishment)) private
reply_is asking answering rejecting request private asked =
    ap (λ revision. written Initiator answering.markers answering.crc rejecting (in_kind rejecting revision) private) asked

takes_as : (reply : Option Reply) (est : Establishment) (revision : Revision) → takes (Responder None) est revision ≡ true → takes (Responder reply) est revision ≡ true
takes_as reply est revision h = h

-- what was read is what was sent
same_frame : (est : Establishment) (side : Side) (xs more : List ℕ) (markers crc rejected : Bool) (revision : Revision) (private beyond : List ℕ)
    → length xs ≤ frame_end est side xs → frame_end est side xs ≤ length xs → takes side est revision ≡ true → length private ≤ private_room revision
    → xs ++ more ≡ written side markers crc rejected revision private ++ beyond → xs ≡ written side markers crc rejected revision private
same_frame est side xs more markers crc rejected revision private beyond within whole taken room e =
    let end : frame_end est side (written side markers crc rejected revision private) ≡ length (written side markers crc rejected revision private)
    = frame_end-written side est markers crc rejected revision private taken room in
    sym (frame_part-whole est side xs more within whole) ∙ ap (frame_part est side) e
    ∙ frame_part-whole est side (written side markers crc rejected revision private) beyond (omega (arith, end)) (omega (arith, end))

pub request_read : (v : StartupState) (reply : Option Reply) (asking : Config) (more beyond : List ℕ) → v.side ≡ Responder reply → HasRead v
    → takes (Responder None) v.config.establishment (asked_revision asking.establishment) ≡ true
    → length asking.private.items ≤ private_room (asked_revision asking.establishment)
    → v.octets ++ more ≡ own_frame asking Initiator [] ++ beyond → v.octets ≡ own_frame asking Initiator []
request_read v reply asking more beyond side h taken few e =
    same_frame v.config.establishment (Responder reply) v.octets more asking.markers asking.crc false (asked_revision asking.establishment) asking.private.items beyond
    (subst (λ s. length v.octets ≤ frame_end v.config.establishment s v.octets) side h.within) (subst (λ s. frame_end v.config.establishment s v.octets ≤ length v.octets) side h.whole)
    (takes_as reply v.config.establishment (asked_revision asking.establishment) taken) few e

reply_same : (w : StartupState) (answering : Config) (rejecting : Bool) (private request more beyond : List ℕ) → w.side ≡ Initiator → HasRead w
    → revision_of answering.establishment request ≡ asked_revision w.config.establishment
    → length private ≤ private_room (asked_revision w.config.establishment)
    → w.octets ++ more ≡ reply_with answering rejecting request private ++ beyond → w.octets ≡ reply_with answering rejecting request private
reply_same w answering rejecting private request more beyond side h asked few e =
    let est : Establishment = w.config.establishment in
    let is : reply_with answering rejecting request private ≡ written Initiator answering.markers answering.crc rejecting (in_kind rejecting (asked_revision w.config.establishment)) private
    = reply_is w.config answering rejecting request private asked in
    same_frame est Initiator w.octets more answering.markers answering.crc rejecting (in_kind rejecting (asked_revision w.config.establishment)) private beyond
    (subst (λ s. length w.octets ≤ frame_end w.config.establishment s w.octets) side h.within) (subst (λ s. frame_end w.config.establishment s w.octets ≤ length w.octets) side h.whole)
    (takes_reply rejecting est) (subst (λ n. length private ≤ n) (sym (room-in_kind rejecting (asked_revision w.config.establishment))) few)
    (e ∙ ap (λ frame. frame ++ beyond) is)
    ∙ sym is

-- a responder that has read a Request takes its revision
pub request_taken : (v : StartupState) (reply : Option Reply) (asking : Config) (more beyond : List ℕ) → v.side ≡ Responder reply → HasRead v → progress v ≡ answer.Asked
    → v.octets ++ more ≡ own_frame asking Initiator [] ++ beyond → takes (Responder None) v.config.establishment (asked_revision asking.establishment) ≡ true
request_taken v reply asking more beyond side h asked e =
    let est : Establishment = v.config.establishment in
    let frame : List ℕ = written (Responder reply) asking.markers asking.crc false (asked_revision asking.establishment) asking.private.items in
    let good : fixed_fault v.config.establishment (Responder reply) v.octets ≡ None =
    asked_good est (Responder reply) v.octets (ap (λ s. progress_of v.config.establishment s v.octets) (sym side) ∙ asked) in
    let there : 20 ≤ length v.octets = omega (arith, h.whole, least_end v.config.establishment v.side v.octets) in
    let long : 20 ≤ length (written (Responder reply) asking.markers asking.crc false (asked_revision asking.establishment) asking.private.items) =
    omega (arith, length-written (Responder reply) asking.markers asking.crc false (asked_revision asking.establishment) asking.private.items) in
    takes-read (Responder reply) est asking.markers asking.crc false (asked_revision asking.establishment) asking.private.items
    (good_revision est (Responder reply) frame
    (sym (fixed_fault-append est (Responder reply) frame beyond long) ∙ ap (fixed_fault est (Responder reply)) (sym e)
    ∙ fixed_fault-append est (Responder reply) v.octets more there ∙ good))

pub understood : (answering asking : Establishment) → takes (Responder None) answering (asked_revision asking) ≡ true → IsTrue (understands answering asking)
understood Plain Plain h = refl
understood Enhanced Plain h = refl
understood PeerToPeer Plain h = refl
understood Plain Enhanced h = cc
understood Enhanced Enhanced h = refl
understood PeerToPeer Enhanced h = refl
understood Plain PeerToPeer h = cc
understood Enhanced PeerToPeer h = refl
understood PeerToPeer PeerToPeer h = refl

-- to a Request that was of this revision
pub reply_read : (w : StartupState) (answering : Config) (reply : Reply) (request more beyond : List ℕ) → w.side ≡ Initiator → HasRead w
    → revision_of answering.establishment request ≡ asked_revision w.config.establishment
    → length (private_in reply).items ≤ private_room (asked_revision w.config.establishment)
    → w.octets ++ more ≡ reply_frame answering reply request ++ beyond → w.octets ≡ reply_frame answering reply request
reply_read w answering (Accept private) request more beyond side h asked few e =
    reply_same w answering false private.items request more beyond side h asked few e
reply_read w answering (Reject private) request more beyond side h asked few e =
    reply_same w answering true private.items request more beyond side h asked few e

-- an initiator that has read a rejection has not agreed
pub rejection_read : (w : StartupState) (answering : Config) (request : List ℕ) (private : ArrayVec ℕ) → w.side ≡ Initiator
    → revision_of answering.establishment request ≡ asked_revision w.config.establishment
    → length private.items ≤ private_room (asked_revision w.config.establishment)
    → w.octets ≡ reply_frame answering (Reject private) request → agreed_of w ≡ None
rejection_read w answering request private side asked few octets =
    ap agreed_of (λ i. record { config = w.config; side = side i; octets = (octets ∙ reply_is w.config answering true request private.items asked) i })
    ∙ closed w.config answering private few

-- both have agreed on the same
pub record Agree (w v : StartupState) : Type 0 where
  pub asking : agreed_of w ≡ Some (agreed_between w.config v.config)
  pub fitting : mismatch_of w ≡ None
  pub accepting : agreed_of v ≡ Some (from_other_end (agreed_between w.config v.config))

pub both_agree : (w v : StartupState) (private : ArrayVec ℕ) → w.side ≡ Initiator → v.side ≡ Responder (Some (Accept private))
    → at_responder v.config.establishment ≡ v.config.establishment → IsAskable w.config v.config
    → length private.items ≤ private_room (asked_revision w.config.establishment)
    → w.octets ≡ reply_frame v.config (Accept private) v.octets → v.octets ≡ own_frame w.config Initiator [] → Agree w v
unfolding agreed_of
both_agree w v private asks accepts responds askable answered_few reply request =
    let kind : revision_of v.config.establishment v.octets ≡ asked_revision w.config.establishment =
    (λ i. revision_of (sym responds i) (request i)) ∙ asked_by w.config v.config askable in
    let read : w.octets ≡ the_reply w.config v.config false private = reply ∙ reply_is w.config v.config false v.octets private.items kind in
    let asking : w ≡ record (initiator w.config) { octets = the_reply w.config v.config false private } = λ i. record { config = w.config; side = asks i; octets = read i } in
    record {
      asking = ap agreed_of asking ∙ opened w.config v.config private answered_few;
      fitting = ap mismatch_of asking ∙ fitting w.config v.config private answered_few;
      accepting = ap agreed_of (λ i. record { config = record v.config { establishment = sym responds i }; side = accepts i; octets = request i })
          ∙ accepted w.config v.config private askable;
    }
