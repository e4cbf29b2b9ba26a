-- A frame that one end spells is read by the other as it was meant.
use Rattle.std.proofs.Common.{◌≡◌, ℕ, ◌≤◌, List, ◌++◌, Bool, true, false, Option, Some, None, length, take, refl, ap, sym, subst, ◌∙◌, arith, length-append}
use Rattle.std.specs.Prelude.{IsTrue}
use Rattle.std.specs.List.{concat}
use Rattle.std.proofs.lemmas.List.{take_at}
use Rattle.std.proofs.Math.Bool.{or_comm}
use Rattle.arrayvec.specs.ArrayVec.{ArrayVec}
use Rattle.iw_startup.specs.declared.config.Config.{Config}
use Rattle.iw_startup.specs.declared.config.Establishment.{Establishment}
use Rattle.iw_startup.specs.declared.config.Establishment.TheVariants.{Plain, Enhanced, PeerToPeer}
use Rattle.iw_startup.specs.declared.enhanced.Revision.{Revision}
use Rattle.iw_startup.specs.declared.progress.Progress.{Progress}
use Rattle.iw_startup.specs.declared.progress.Progress.TheVariants as answer
use Rattle.iw_startup.specs.declared.progress.StartupFault.TheVariants.{Rejected}
use Rattle.iw_startup.specs.declared.side.Reply.TheVariants.{Accept, Reject}
use Rattle.iw_startup.specs.declared.side.Side.{Side}
use Rattle.iw_startup.specs.declared.side.Side.TheVariants.{Initiator, Responder}
use Rattle.iw_startup.specs.Enhanced.{at_responder, asked_revision, in_kind, agreed_ord, rtr_due, mismatch_in}
use Rattle.iw_startup.specs.declared.enhanced.EnhancedData.{EnhancedData}
use Rattle.iw_startup.specs.Frame.{private_room, told, revision_of}
use Rattle.iw_startup.specs.Laws.{pushed_all, used_all, Carries, IsRead, IsAskable, understands, word_in, rtr_between, RequestsAreAsked, AcceptedEndsAgree, RejectionsAreTold, agreed_between, from_other_end, initiator, responder}
use Rattle.iw_startup.specs.Peer.{frame_end, frame_part, outcome, progress_of}
use Rattle.iw_startup.specs.State.{StartupState, IsReached, asks_as, begun, pushed, used, private_of, told_of, frame_of, reply_with, agreed_of, mismatch_of, answered, is_asked, awaits_answer}
use Rattle.iw_startup.proofs.Ends.{frame_end-append}
use Rattle.iw_startup.proofs.Answered.{agreed_of-accepted}
use Rattle.iw_startup.proofs.Reached.{reached-initiator, reached-responder}
use Rattle.iw_startup.proofs.Cuts.{same_at_once}
use Rattle.iw_startup.proofs.Lengths.{room-in_kind}
use Rattle.iw_startup.proofs.Written.{takes, HasDepths, written, says, length-written, frame_end-written, progress_of-written, is_read-written, is_whole-written, told-written, private-written, revision_of-written}

-- ---- what an end takes

pub takes_request : (answering asking : Establishment) → IsTrue (understands answering asking) → takes (Responder None) (at_responder answering) (asked_revision asking) ≡ true
takes_request Plain Plain h = refl
takes_request Enhanced Plain h = refl
takes_request PeerToPeer Plain h = refl
takes_request Plain Enhanced h = cc
takes_request Enhanced Enhanced h = refl
takes_request PeerToPeer Enhanced h = refl
takes_request Plain PeerToPeer h = cc
takes_request Enhanced PeerToPeer h = refl
takes_request PeerToPeer PeerToPeer h = refl

pub takes_reply : (rejecting : Bool) (asking : Establishment) → takes Initiator asking (in_kind rejecting (asked_revision asking)) ≡ true
takes_reply rejecting Plain = refl
takes_reply rejecting Enhanced = refl
takes_reply rejecting PeerToPeer = refl

pub asked_depths : (asking : Establishment) → HasDepths (word_in (asked_revision asking))
asked_depths Plain = tt
asked_depths Enhanced = (omega arith, omega arith)
asked_depths PeerToPeer = (omega arith, omega arith)

pub reply_depths : (rejecting : Bool) (asking : Establishment) → HasDepths (word_in (in_kind rejecting (asked_revision asking)))
reply_depths rejecting Plain = tt
reply_depths true Enhanced = (omega arith, omega arith)
reply_depths false Enhanced = (omega arith, omega arith)
reply_depths true PeerToPeer = (omega arith, omega arith)
reply_depths false PeerToPeer = (omega arith, omega arith)

-- ---- a receiver of a frame, with whatever octets behind it, has taken the frame

record IsTaken (side : Side) (config : Config) (pieces : List (List ℕ)) (frame : List ℕ) : Type 0 where
  pub after : pushed_all (begun side config) pieces ≡ record (begun side config) { octets = frame }
  pub used : used_all (begun side config) pieces ≡ length frame

-- the frame, and what its receiver knows of it
record IsSent (side : Side) (config : Config) (revision : Revision) (private : List ℕ) : Type 0 where
  taken : takes side (asks_as side config).establishment revision ≡ true
  depths : HasDepths (word_in revision)
  room : length private ≤ private_room revision

is_taken : (side : Side) (config : Config) (pieces : List (List ℕ)) (markers crc rejected : Bool) (revision : Revision) (private beyond : List ℕ) →
    IsReached (begun side config) → IsSent side config revision private →
    concat pieces ≡ written side markers crc rejected revision private ++ beyond → IsTaken side config pieces (written side markers crc rejected revision private)
unfolding pushed used frame_part
is_taken side config pieces markers crc rejected revision private beyond reached is carried =
    let cut = same_at_once (begun side config) pieces reached in
    let est : Establishment = (asks_as side config).establishment in
    let frame : List ℕ = written side markers crc rejected revision private in
    let there : 20 ≤ length (written side markers crc rejected revision private) = omega (arith, length-written side markers crc rejected revision private) in
    let at_end : frame_end (asks_as side config).establishment side (written side markers crc rejected revision private ++ beyond) ≡ length (written side markers crc rejected revision private)
    = frame_end-append est side frame beyond there ∙ frame_end-written side est markers crc rejected revision private is.taken is.room in
    let part : take (frame_end (asks_as side config).establishment side (written side markers crc rejected revision private ++ beyond)) (written side markers crc rejected revision private ++ beyond)
    ≡ written side markers crc rejected revision private
    = take_at frame beyond (frame_end est side (frame ++ beyond)) (sym at_end) in
    record {
      after = cut.after ∙ ap (λ (octets : List ℕ). pushed (begun side config) octets) carried ∙ ap (λ (octets : List ℕ). record (begun side config) { octets = octets }) part;
      used = cut.used ∙ ap (λ (octets : List ℕ). used (begun side config) octets) carried ∙ omega (arith, at_end, length-append (written side markers crc rejected revision private) beyond);
    }

is_read : (side : Side) (config : Config) (pieces : List (List ℕ)) (sender : StartupState) (markers crc rejected : Bool) (revision : Revision) (private : List ℕ) (comes : Progress) →
    IsSent side config revision private → IsTaken side config pieces (written side markers crc rejected revision private) →
    frame_of sender ≡ written side markers crc rejected revision private → outcome side (written side markers crc rejected revision private) ≡ comes →
    IsRead (begun side config) pieces sender revision private comes
unfolding private_of told_of
is_read side config pieces sender markers crc rejected revision private comes is is_taken sent outcome_is =
    let est : Establishment = (asks_as side config).establishment in
    record {
      progress = ap (λ (s : StartupState). progress_of s.config.establishment s.side s.octets) is_taken.after
          ∙ progress_of-written side est markers crc rejected revision private is.taken is.room ∙ outcome_is;
      word = ap (λ (s : StartupState). told_of s) is_taken.after
          ∙ rw (is_read-written side est markers crc rejected revision private is.taken is.room) (told-written side est markers crc rejected revision private is.taken is.depths);
      shown = ap (λ (s : StartupState). private_of s) is_taken.after
          ∙ rw (is_whole-written side est markers crc rejected revision private is.taken is.room) (private-written side est markers crc rejected revision private is.taken);
      used = is_taken.used ∙ ap length (sym sent);
    }

-- ---- the Request

-- its octets, as a responder has them
abbrev pub request : Config → List ℕ
request config = written (Responder None) config.markers config.crc false (asked_revision config.establishment) config.private.items

-- a responder that took them
abbrev pub has_request : Config → Config → StartupState
has_request asking answering = record (responder answering) { octets = request asking }

request_sent : (asking answering : Config) → IsAskable asking answering → IsSent (Responder None) answering (asked_revision asking.establishment) asking.private.items
request_sent asking answering h = record {
  taken = takes_request answering.establishment asking.establishment h.understood;
  depths = asked_depths asking.establishment;
  room = h.room;
}

request_taken : (asking answering : Config) (requests : List (List ℕ)) → IsAskable asking answering → Carries requests (initiator asking) →
    IsTaken (Responder None) answering requests (request asking)
request_taken asking answering requests h carries =
    is_taken (Responder None) answering requests asking.markers asking.crc false (asked_revision asking.establishment) asking.private.items carries.0
    (reached-responder answering) (request_sent asking answering h) carries.1

pub awaits_request : (asking answering : Config) → IsAskable asking answering → awaits_answer (has_request asking answering) ≡ true
awaits_request asking answering h =
    let sent = request_sent asking answering h in
    ap (λ (p : Progress). is_asked p)
    (progress_of-written (Responder None) (at_responder answering.establishment) asking.markers asking.crc false (asked_revision asking.establishment) asking.private.items sent.taken sent.room)

pub requests_are_asked : RequestsAreAsked
requests_are_asked asking answering requests h carries =
    let taken = request_taken asking answering requests h carries in
    let read = is_read (Responder None) answering requests (initiator asking) asking.markers asking.crc false (asked_revision asking.establishment) asking.private.items answer.Asked
    (request_sent asking answering h) taken refl refl in
    (read, ap (λ (s : StartupState). awaits_answer s) taken.after ∙ awaits_request asking answering h)

-- the responder answers in kind
pub asked_by : (asking answering : Config) → IsAskable asking answering → revision_of (at_responder answering.establishment) (request asking) ≡ asked_revision asking.establishment
asked_by asking answering h =
    let sent = request_sent asking answering h in
    revision_of-written (Responder None) (at_responder answering.establishment) asking.markers asking.crc false (asked_revision asking.establishment) asking.private.items sent.taken sent.depths

-- ---- the Reply

-- its octets, as an initiator has them
abbrev pub reply : Config → Config → Bool → ArrayVec ℕ → List ℕ
reply asking answering rejected private = written Initiator answering.markers answering.crc rejected (in_kind rejected (asked_revision asking.establishment)) private.items

pub replied_in_kind : (asking answering : Config) (rejected : Bool) (private : ArrayVec ℕ) → IsAskable asking answering →
    reply_with (responder answering).config rejected (request asking) private.items ≡ reply asking answering rejected private
replied_in_kind asking answering rejected private h =
    ap (λ revision. written Initiator answering.markers answering.crc rejected (in_kind rejected revision) private.items) (asked_by asking answering h)

reply_sent : (asking : Config) (rejected : Bool) (private : ArrayVec ℕ) → length private.items ≤ private_room (asked_revision asking.establishment) →
    IsSent Initiator asking (in_kind rejected (asked_revision asking.establishment)) private.items
reply_sent asking rejected private h = record {
  taken = takes_reply rejected asking.establishment;
  depths = reply_depths rejected asking.establishment;
  room = subst (λ n. length private.items ≤ n) (sym (room-in_kind rejected (asked_revision asking.establishment))) h;
}

reply_taken : (asking answering : Config) (rejected : Bool) (private : ArrayVec ℕ) (replies : List (List ℕ)) (beyond : List ℕ) → IsAskable asking answering →
    length private.items ≤ private_room (asked_revision asking.establishment) →
    concat replies ≡ reply asking answering rejected private ++ beyond → IsTaken Initiator asking replies (reply asking answering rejected private)
reply_taken asking answering rejected private replies beyond askable h carried =
    is_taken Initiator asking replies answering.markers answering.crc rejected (in_kind rejected (asked_revision asking.establishment)) private.items beyond
    (reached-initiator asking askable.room) (reply_sent asking rejected private h) carried

-- what the words come to
ord_asked : (asking : Establishment) → agreed_ord (word_in (asked_revision asking)) ≡ 16
ord_asked Plain = refl
ord_asked Enhanced = refl
ord_asked PeerToPeer = refl

ord_answered : (asking : Establishment) → agreed_ord (word_in (in_kind false (asked_revision asking))) ≡ 16
ord_answered Plain = refl
ord_answered Enhanced = refl
ord_answered PeerToPeer = refl

rtr_asked : (asking : Establishment) → rtr_due asking (word_in (in_kind false (asked_revision asking))) ≡ rtr_between asking
rtr_asked Plain = refl
rtr_asked Enhanced = refl
rtr_asked PeerToPeer = refl

pub no_rtr : (answering : Establishment) (word : Option EnhancedData) → rtr_due (at_responder answering) word ≡ None
no_rtr Plain word = refl
no_rtr Enhanced word = refl
no_rtr PeerToPeer word = refl

matches : (asking : Establishment) → mismatch_in asking (word_in (in_kind false (asked_revision asking))) ≡ None
matches Plain = refl
matches Enhanced = refl
matches PeerToPeer = refl

-- the laws at a responder in this state
abbrev Agrees : Config → Config → List (List ℕ) → ArrayVec ℕ → StartupState → Type 0
Agrees asking answering replies private asked =
    Carries replies (answered asked (Accept private)) →
    IsRead (initiator asking) replies (answered asked (Accept private)) (in_kind false (asked_revision asking.establishment)) private.items answer.Agreed
    × (agreed_of (pushed_all (initiator asking) replies) ≡ Some (agreed_between asking answering))
    × (mismatch_of (pushed_all (initiator asking) replies) ≡ None)
    × (agreed_of (answered asked (Accept private)) ≡ Some (from_other_end (agreed_between asking answering)))

abbrev Rejects : Config → List (List ℕ) → ArrayVec ℕ → StartupState → Type 0
Rejects asking replies private asked =
    Carries replies (answered asked (Reject private)) →
    IsRead (initiator asking) replies (answered asked (Reject private)) (in_kind true (asked_revision asking.establishment)) private.items (answer.Faulted Rejected)
    × (agreed_of (pushed_all (initiator asking) replies) ≡ None)
    × (agreed_of (answered asked (Reject private)) ≡ None)

reply_progress : (asking answering : Config) (rejected : Bool) (private : ArrayVec ℕ) → length private.items ≤ private_room (asked_revision asking.establishment) →
    progress_of asking.establishment Initiator (reply asking answering rejected private) ≡ outcome Initiator (reply asking answering rejected private)
reply_progress asking answering rejected private h =
    let sent = reply_sent asking rejected private h in
    progress_of-written Initiator asking.establishment answering.markers answering.crc rejected (in_kind rejected (asked_revision asking.establishment)) private.items sent.taken sent.room

accepts : (asking answering : Config) (private : ArrayVec ℕ) → outcome Initiator (reply asking answering false private) ≡ answer.Agreed
accepts asking answering private =
    let reads = says Initiator answering.markers answering.crc false (in_kind false (asked_revision asking.establishment)) private.items in
    rw (reads.rejected_is) refl

reply_told : (asking answering : Config) (private : ArrayVec ℕ) → length private.items ≤ private_room (asked_revision asking.establishment) →
    told asking.establishment (reply asking answering false private) ≡ word_in (in_kind false (asked_revision asking.establishment))
reply_told asking answering private h =
    let sent = reply_sent asking false private h in
    told-written Initiator asking.establishment answering.markers answering.crc false (in_kind false (asked_revision asking.establishment)) private.items sent.taken sent.depths

-- an initiator that took a Reply that accepts
pub opened : (asking answering : Config) (private : ArrayVec ℕ) → length private.items ≤ private_room (asked_revision asking.establishment) →
    agreed_of (record (initiator asking) { octets = reply asking answering false private }) ≡ Some (agreed_between asking answering)
unfolding agreed_of
opened asking answering private h =
    let reads = says Initiator answering.markers answering.crc false (in_kind false (asked_revision asking.establishment)) private.items in
    rw (reply_progress asking answering false private h, accepts asking answering private, reads.markers_is, reads.crc_is, reply_told asking answering private h, ord_answered asking.establishment, rtr_asked asking.establishment) refl

pub fitting : (asking answering : Config) (private : ArrayVec ℕ) → length private.items ≤ private_room (asked_revision asking.establishment) →
    mismatch_of (record (initiator asking) { octets = reply asking answering false private }) ≡ None
unfolding mismatch_of
fitting asking answering private h =
    rw (reply_progress asking answering false private h, accepts asking answering private, reply_told asking answering private h) (matches asking.establishment)

-- a responder that accepted
pub accepted : (asking answering : Config) (private : ArrayVec ℕ) → IsAskable asking answering →
    agreed_of (answered (has_request asking answering) (Accept private)) ≡ Some (from_other_end (agreed_between asking answering))
accepted asking answering private h =
    let sent = request_sent asking answering h in
    let asks = says (Responder None) asking.markers asking.crc false (asked_revision asking.establishment) asking.private.items in
    let word = told-written (Responder None) (at_responder answering.establishment) asking.markers asking.crc false (asked_revision asking.establishment) asking.private.items sent.taken sent.depths in
    agreed_of-accepted (has_request asking answering) private (awaits_request asking answering h)
    ∙ rw (asks.markers_is, asks.crc_is, or_comm answering.crc asking.crc, word, ord_asked asking.establishment, no_rtr answering.establishment (word_in (asked_revision asking.establishment))) refl

agrees : (asking answering : Config) (replies : List (List ℕ)) (private : ArrayVec ℕ) → IsAskable asking answering → length private.items ≤ private_room (asked_revision asking.establishment) →
    Agrees asking answering replies private (has_request asking answering)
agrees asking answering replies private askable fits carries =
    let same = replied_in_kind asking answering false private askable in
    let taken = reply_taken asking answering false private replies carries.0 askable fits (carries.1 ∙ ap (λ frame. frame ++ carries.0) same) in (
      is_read Initiator asking replies (answered (has_request asking answering) (Accept private)) answering.markers answering.crc false (in_kind false (asked_revision asking.establishment)) private.items
          answer.Agreed (reply_sent asking false private fits) taken same (accepts asking answering private),
      ap (λ (s : StartupState). agreed_of s) taken.after ∙ opened asking answering private fits,
      ap (λ (s : StartupState). mismatch_of s) taken.after ∙ fitting asking answering private fits,
      accepted asking answering private askable,
    )

rejects_it : (asking answering : Config) (private : ArrayVec ℕ) → outcome Initiator (reply asking answering true private) ≡ answer.Faulted Rejected
rejects_it asking answering private =
    let reads = says Initiator answering.markers answering.crc true (in_kind true (asked_revision asking.establishment)) private.items in
    rw (reads.rejected_is) refl

pub closed : (asking answering : Config) (private : ArrayVec ℕ) → length private.items ≤ private_room (asked_revision asking.establishment) →
    agreed_of (record (initiator asking) { octets = reply asking answering true private }) ≡ None
unfolding agreed_of
closed asking answering private h = rw (reply_progress asking answering true private h, rejects_it asking answering private) refl

not_agreed : (s : StartupState) (private : ArrayVec ℕ) → agreed_of (answered s (Reject private)) ≡ None
unfolding agreed_of
not_agreed s private = refl

rejecting : (asking answering : Config) (replies : List (List ℕ)) (private : ArrayVec ℕ) → IsAskable asking answering → length private.items ≤ private_room (asked_revision asking.establishment) →
    Rejects asking replies private (has_request asking answering)
rejecting asking answering replies private askable fits carries =
    let same = replied_in_kind asking answering true private askable in
    let taken = reply_taken asking answering true private replies carries.0 askable fits (carries.1 ∙ ap (λ frame. frame ++ carries.0) same) in (
      is_read Initiator asking replies (answered (has_request asking answering) (Reject private)) answering.markers answering.crc true (in_kind true (asked_revision asking.establishment)) private.items
          (answer.Faulted Rejected) (reply_sent asking true private fits) taken same (rejects_it asking answering private),
      ap (λ (s : StartupState). agreed_of s) taken.after ∙ closed asking answering private fits,
      not_agreed (has_request asking answering) private,
    )

pub accepted_ends_agree : AcceptedEndsAgree
accepted_ends_agree asking answering requests replies private exchange =
    let taken = request_taken asking answering requests exchange.0 exchange.1 in
    subst (λ (s : StartupState). Agrees asking answering replies private s) (sym taken.after) (agrees asking answering replies private exchange.0 exchange.2) exchange.3

pub rejections_are_told : RejectionsAreTold
rejections_are_told asking answering requests replies private exchange =
    let taken = request_taken asking answering requests exchange.0 exchange.1 in
    subst (λ (s : StartupState). Rejects asking replies private s) (sym taken.after) (rejecting asking answering replies private exchange.0 exchange.2) exchange.3
