-- How far the start-up of a stream is (RFC 5044 7.1).
use Rattle.std.specs.Prelude.{◌≡◌, ℕ, ◌&&◌, Bool, true, false, not, nat_lt, List, [], length, is_some, Option, Some, None, if◌then◌else◌}
use Rattle.std.specs.Option.{option_map_or}
use Rattle.iw_fpdu.specs.declared.layout.Layout.{Layout}
use Rattle.iw_startup.specs.declared.config.Agreed.{Agreed}
use Rattle.iw_octets.specs.declared.fault.Fault.{Fault}
use Rattle.iw_reads.specs.Outstanding.{most_reads}
use Rattle.iw_startup.specs.declared.config.Config.{Config}
use Rattle.iw_startup.specs.declared.config.PeerOptions.{PeerOptions}
use Rattle.iw_startup.specs.declared.enhanced.EnhancedData.{EnhancedData}
use Rattle.iw_startup.specs.declared.enhanced.Mismatch.{Mismatch}
use Rattle.iw_startup.specs.declared.enhanced.Mismatch.TheVariants.{InsufficientIrd, NoMatchingRtr}
use Rattle.iw_startup.specs.declared.enhanced.Rtr.{Rtr}
use Rattle.iw_startup.specs.declared.progress.Progress.{Progress}
use Rattle.iw_startup.specs.declared.progress.Progress.TheVariants as progress
use Rattle.iw_startup.specs.declared.side.Reply.{Reply}
use Rattle.iw_startup.specs.declared.side.Side.TheVariants as sides
use Rattle.iw_startup.specs.Enhanced.{asked_revision}
use Rattle.iw_startup.specs.Frame.{is_enhanced, has_word}
use Rattle.iw_startup.specs.Peer.{progress_of}
use Rattle.iw_startup.specs.State.{StartupState, begun, pushed, frame_of, told_of, options_of, agreed_of, agreement, mismatch_of, awaits_answer, answered}
use Rattle.iw_startup.specs.State as startups
use Rattle.iw_stream.specs.declared.answer.AnswerRefusal.{AnswerRefusal}
use Rattle.iw_stream.specs.declared.answer.AnswerRefusal.TheVariants.{NotAsked, PrivateTooLong}
use Rattle.iw_stream.specs.declared.answer.TheConstants.{INSUFFICIENT_IRD, NO_MATCHING_RTR}
use Rattle.iw_stream.specs.declared.answer.Role.{Role}
use Rattle.iw_stream.specs.declared.answer.Role.TheVariants.{Preset, Initiator, Responder}

pub data StartState : Type 0 where
  AtOnce : Layout → StartState  -- no start-up frames: the stream is open from the beginning, with this layout in both directions
  Unheard : StartupState → StartState  -- the peer's start-up frame was not read yet
  Heard : StartupState → StartState  -- it was read, and frames go both ways once both ends agree

-- how a stream begins: open at once, with the layout that is asked for, or with start-up frames
abbrev pub start_at_first : Role → Config → StartState
start_at_first Preset config = AtOnce (record { markers = config.markers; crc = config.crc })
start_at_first Initiator config = Unheard (begun sides.Initiator config)
start_at_first Responder config = Unheard (begun (sides.Responder None) config)

-- an enhanced Request has no room for the private data (RFC 6581 9)
abbrev pub exceeds_request : Role → Config → Bool
exceeds_request Preset config = false
exceeds_request Initiator config = is_enhanced (asked_revision config.establishment) && nat_lt 508 (length config.private.items)
exceeds_request Responder config = false

-- what both ends agree on, once they do
abbrev pub agreed_in : StartState → Option Agreed
agreed_in (AtOnce layout) = None
agreed_in (Unheard u) = None
agreed_in (Heard u) = agreed_of u

-- frames go both ways: at once, or once both ends agree
abbrev pub is_open : StartState → Bool
is_open (AtOnce layout) = true
is_open (Unheard u) = false
is_open (Heard u) = is_some (agreed_of u)

abbrev pub plain : Layout
plain = record { markers = false; crc = false }

abbrev pub layout_out : Agreed → Layout
layout_out agreed = record { markers = agreed.send_markers; crc = agreed.crc }

abbrev pub layout_in : Agreed → Layout
layout_in agreed = record { markers = agreed.expect_markers; crc = agreed.crc }

-- of the frames that this end sends, once the stream is open
abbrev pub sending : StartState → Layout
sending (AtOnce layout) = layout
sending (Unheard u) = plain
sending (Heard u) = option_map_or layout_out (agreed_of u) plain

-- of the frames that the peer sends
abbrev pub expecting : StartState → Layout
expecting (AtOnce layout) = layout
expecting (Unheard u) = plain
expecting (Heard u) = option_map_or layout_in (agreed_of u) plain

-- the start-up frame that this end sends: none if the stream has none, or a responder's user has not answered
abbrev pub own_frame : StartState → List ℕ
own_frame (AtOnce layout) = []
own_frame (Unheard u) = frame_of u
own_frame (Heard u) = frame_of u

-- the places in the stream at which the frames of each direction begin: past the start-up frames
abbrev pub first_place_out : StartState → ℕ
first_place_out s = length (own_frame s)

abbrev pub first_place_in : StartState → ℕ
first_place_in (AtOnce layout) = 0
first_place_in (Unheard u) = 0
first_place_in (Heard u) = length u.octets

-- this end receives the Request
abbrev pub is_responder : StartState → Bool
is_responder (AtOnce layout) = false
is_responder (Unheard u) = startups.is_responder u.side
is_responder (Heard u) = startups.is_responder u.side

-- ---- the peer's start-up frame

abbrev pub awaits_frame : StartState → Bool
awaits_frame (AtOnce layout) = false
awaits_frame (Unheard u) = true
awaits_frame (Heard u) = false

-- what it comes to by these octets, as far as they go
abbrev pub progress_in : StartState → List ℕ → Progress
progress_in (AtOnce layout) octets = progress.More
progress_in (Unheard u) octets = progress_of u.config.establishment u.side octets
progress_in (Heard u) octets = progress.More

-- it is read off these octets
abbrev pub heard : StartState → List ℕ → StartState
heard (AtOnce layout) octets = AtOnce layout
heard (Unheard u) octets = Heard (pushed u octets)
heard (Heard u) octets = Heard u

-- its private data, once it was read
abbrev pub private_in : StartState → List ℕ
private_in (AtOnce layout) = []
private_in (Unheard u) = []
private_in (Heard u) = startups.private_of u

-- its word of IRD and ORD, if it has one
abbrev pub told_in : StartState → Option EnhancedData
told_in (AtOnce layout) = None
told_in (Unheard u) = None
told_in (Heard u) = told_of u

-- what the peer asks for in it
abbrev pub options_in : StartState → Option PeerOptions
options_in (AtOnce layout) = None
options_in (Unheard u) = None
options_in (Heard u) = options_of u

-- what both ends ask for come to
abbrev pub agreement_in : StartState → Agreed
agreement_in (AtOnce layout) = record { send_markers = layout.markers; expect_markers = layout.markers; crc = layout.crc; ord = most_reads; rtr = None }
agreement_in (Unheard u) = agreement u.config u.octets
agreement_in (Heard u) = agreement u.config u.octets

-- how many Reads of this end are outstanding at most (RFC 6581 9.1)
abbrev pub most_reads_in : StartState → ℕ
most_reads_in (AtOnce layout) = most_reads
most_reads_in (Unheard u) = most_reads
most_reads_in (Heard u) = option_map_or (λ agreed. agreed.ord) (agreed_of u) most_reads

-- the RTR that this end sends before any other message, if one is agreed on (RFC 6581 9.2)
abbrev pub rtr_in : StartState → Option Rtr
rtr_in (AtOnce layout) = None
rtr_in (Unheard u) = None
rtr_in (Heard u) = option_map_or (λ agreed. agreed.rtr) (agreed_of u) None

-- what a Reply that accepts wants and this end does not have
abbrev pub mismatch_in : StartState → Option Mismatch
mismatch_in (AtOnce layout) = None
mismatch_in (Unheard u) = None
mismatch_in (Heard u) = mismatch_of u

-- the error of MPA that it is (RFC 6581 8)
abbrev pub negotiation_fault : Mismatch → Fault
negotiation_fault InsufficientIrd = INSUFFICIENT_IRD
negotiation_fault NoMatchingRtr = NO_MATCHING_RTR

-- ---- a responder's answer

-- the Request was read, and the user has not answered it
abbrev pub is_asked : StartState → Bool
is_asked (AtOnce layout) = false
is_asked (Unheard u) = false
is_asked (Heard u) = awaits_answer u

-- the answer to an enhanced Request has no room for this private data (RFC 6581 9)
abbrev pub exceeds_answer : StartState → List ℕ → Bool
exceeds_answer (AtOnce layout) private = false
exceeds_answer (Unheard u) private = false
exceeds_answer (Heard u) private = has_word u.config.establishment u.octets && nat_lt 508 (length private)

-- why an answer with this private data is refused, if it is
abbrev pub answer_refusal : StartState → List ℕ → Option AnswerRefusal
answer_refusal s private = if not (is_asked s) then Some NotAsked else if exceeds_answer s private then Some PrivateTooLong else None

abbrev pub answered_with : StartState → Reply → StartState
answered_with (AtOnce layout) reply = AtOnce layout
answered_with (Unheard u) reply = Unheard u
answered_with (Heard u) reply = Heard (answered u reply)

-- ---- the fields that it has in the code

-- what is kept of it: the exchange of frames, if there is one, and whether the peer's was read
abbrev pub start_by : Option StartupState → Bool → Layout → StartState
start_by None heard layout = AtOnce layout
start_by (Some u) false layout = Unheard u
start_by (Some u) true layout = Heard u

-- nothing was taken for the peer's frame before that was read, and it was not answered
abbrev pub IsFresh : StartState → Type 0
IsFresh (AtOnce layout) = Unit {0}
IsFresh (Unheard u) = (u.octets ≡ []) × (startups.is_answered u.side ≡ false)
IsFresh (Heard u) = Unit {0}
