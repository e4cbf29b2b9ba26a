-- How a frame is judged, and what its turn comes to.
use Rattle.std.specs.Prelude.{◌≡◌, ℕ, ◌≤◌, ◌++◌, min, List, length, Bool, true, false, if◌then◌else◌, Option, Some, None, Result, Ok, Err}
use Rattle.std.specs.Option.{option_map, option_map_or}
use Rattle.iw_octets.specs.declared.fault.Fault.{Fault}
use Rattle.iw_octets.specs.declared.fault.TheConstants.Fault as faults
use Rattle.iw_octets.specs.declared.head.TaggedHead.{TaggedHead}
use Rattle.iw_octets.specs.declared.head.UntaggedHead.{UntaggedHead}
use Rattle.iw_octets.specs.declared.operation.TaggedOperation.{TaggedOperation}
use Rattle.iw_octets.specs.declared.operation.TaggedOperation.TheVariants as tagged
use Rattle.iw_octets.specs.declared.operation.UntaggedOperation.{UntaggedOperation}
use Rattle.iw_octets.specs.declared.payload.TerminateWord.{TerminateWord}
use Rattle.iw_octets.specs.declared.segment.Segment.{Segment}
use Rattle.iw_octets.specs.declared.segment.Segment.TheVariants.{Tagged, Untagged}
use Rattle.iw_octets.specs.declared.stag.Stag.{Stag}
use Rattle.iw_octets.specs.Operation.{opcode_of, tagged_operation, untagged_operation}
use Rattle.iw_octets.specs.Segment.{read_segment}
use Rattle.iw_octets.specs.Stag.{stag_of}
use Rattle.iw_memory.specs.declared.peer.Peer.{Peer}
use Rattle.iw_memory.specs.declared.refusal.InvalidateDeny.{InvalidateDeny}
use Rattle.iw_memory.specs.declared.refusal.InvalidateDeny.TheVariants.{NotAssociated, Invalid, NotAllowed}
use Rattle.iw_memory.specs.declared.rights.Right.{Right}
use Rattle.iw_memory.specs.declared.rights.Right.TheVariants as rights
use Rattle.iw_memory.specs.Table.{Table, put, invalidate_denial_for, invalidated}
use Rattle.iw_fpdu.specs.declared.fpdu.Mismatch.{Mismatch}
use Rattle.iw_fpdu.specs.declared.fpdu.Mismatch.TheVariants.{CrcMismatch, MarkerMismatch}
use Rattle.iw_queues.specs.Joined as joined
use Rattle.iw_rdmap.specs.declared.head.Head.{Head}
use Rattle.iw_rdmap.specs.declared.head.Head.TheVariants as heads
use Rattle.iw_rdmap.specs.Head.{is_early}
use Rattle.iw_rdmap.specs.Judging.{judged}
pub use Rattle.iw_rdmap.specs.Judging.{fault_or}
use Rattle.iw_reads.specs.declared.reads.Outstanding.{Outstanding}
use Rattle.iw_reads.specs.Outstanding.{sink_fault, response_turn_fault, reads_turned, finished_read}
use Rattle.iw_reads.specs.Requests.{Requested}
use Rattle.iw_reads.specs.Source.{source_fault}
use Rattle.iw_tagged.specs.declared.placing.Placed.{Placed}
use Rattle.iw_tagged.specs.Placing.{placing_fault}
use Rattle.iw_untagged.specs.Receiving.{Receiving, buffer_fault, turn_fault, written}
use Rattle.iw_untagged.specs.Receiving as receiving
use Rattle.iw_stream.specs.declared.landing.Landing.{Landing}
use Rattle.iw_stream.specs.declared.landing.Landing.TheVariants.{Write, Response, Send, Request, Terminate}
use Rattle.iw_stream.specs.declared.landing.PlacedFrame.{PlacedFrame}
use Rattle.iw_stream.specs.declared.landing.Turning.{Turning}
use Rattle.iw_stream.specs.declared.landing.Turning.TheVariants.{Passed, Completed, Answered}
use Rattle.iw_stream.specs.Frames.{Frame, segment_in, payload_of, head_in, payload_len}

-- what the checks of a frame look at: the regions, whose peer sent it, the receive buffers, the Reads of this end that are outstanding,
-- and the peer's requests
pub record Standing : Type 0 where
  pub table : Table
  pub peer : Peer
  pub receiving : Receiving
  pub reads : List Outstanding
  pub asked : Requested

abbrev pub or_else : Option Fault → Option Fault → Option Fault
or_else None later = later
or_else (Some fault) later = Some fault

-- ---- judged

-- a frame whose CRC or one of whose markers is not right (RFC 5044 8)
abbrev pub mismatch_fault : Mismatch → Fault
mismatch_fault CrcMismatch = faults.CRC_MISMATCH
mismatch_fault MarkerMismatch = faults.MARKER_MISMATCH

-- octets at the front of a ULPDU that its header can be judged by: 46 of them at least, or all
pub record IsFirst (ulpdu first : List ℕ) : Type 0 where
  pub beyond : List ℕ
  pub whole : ulpdu ≡ first ++ beyond
  pub enough : min 46 (length ulpdu) ≤ length first

-- what the header of a ULPDU says, or the first of its checks that fails
abbrev pub judged_head : Standing → List ℕ → Result Head Fault
judged_head at ulpdu = judged ulpdu (length ulpdu) at.asked.next (length at.asked.unanswered)

-- n octets of a region, from the header's place on
abbrev pub place_in : TaggedHead → ℕ → Placed
place_in head n = record { stag = head.stag; to = head.to; n = n }

-- where a tagged segment with n octets of payload goes, or the first check of its sink or its region that fails
abbrev pub write_verdict : Table → Peer → TaggedHead → ℕ → Result Landing Fault
write_verdict table peer head n = fault_or (placing_fault table peer head n rights.Write) (Write (place_in head n))

abbrev pub response_verdict : Table → Peer → List Outstanding → TaggedHead → ℕ → Result Landing Fault
response_verdict table peer reads head n =
    fault_or (or_else (sink_fault reads head n) (placing_fault table peer head n rights.Sink)) (Response (place_in head n))

-- the fault that the peer's Terminate tells (RFC 5040 4.8)
abbrev pub fault_told : TerminateWord → Fault
fault_told word = record { layer = word.layer; kind = word.kind; code = word.code }

-- where a segment with this header goes, or the first check of its sink, region, buffer or source that fails
abbrev pub place_verdict : Standing → Head → ℕ → Result Landing Fault
place_verdict at (heads.Write head) n = write_verdict at.table at.peer head n
place_verdict at (heads.Response head) n = response_verdict at.table at.peer at.reads head n
place_verdict at (heads.Send head) n = fault_or (buffer_fault at.receiving head.msn head.mo n) (Send head.msn head.mo n)
place_verdict at (heads.Request head request) n = fault_or (source_fault at.table at.peer request) (Request request)
place_verdict at (heads.Terminate head word) n = Ok (Terminate (fault_told word))

abbrev pub head_verdict : Standing → Result Head Fault → ℕ → Result Landing Fault
head_verdict at (Err fault) n = Err fault
head_verdict at (Ok head) n = place_verdict at head n

-- where a ULPDU's payload goes, or the first check that it fails
abbrev pub segment_verdict : Standing → List ℕ → Result Landing Fault
segment_verdict at ulpdu = head_verdict at (judged_head at ulpdu) (length (payload_of (read_segment ulpdu)))

-- where a frame's payload goes, or the first check that fails: what is wrong with the frame comes before its segment
abbrev pub verdict : Standing → Frame → Result Landing Fault
verdict at frame = option_map_or (λ m. Err (mismatch_fault m)) frame.mismatch (segment_verdict at frame.ulpdu)

-- the header passed its checks, and its segment may be placed before its turn
abbrev pub may_be_early : Result Head Fault → Bool
may_be_early (Ok head) = is_early head
may_be_early (Err fault) = false

abbrev pub landing_in : Result Landing Fault → Option Landing
landing_in (Ok at) = Some at
landing_in (Err fault) = None

-- where the payload of a frame that is judged before its turn goes; nowhere, if the frame fails a check or has to wait for its turn
abbrev pub early_verdict : Standing → Frame → Option Landing
early_verdict at frame = if may_be_early (judged_head at frame.ulpdu) then landing_in (verdict at frame) else None

-- a tagged frame's payload that was placed, a Read Response's or else a Write's, and the right that it is placed with
abbrev pub landing_of : Bool → Placed → Landing
landing_of true at = Response at
landing_of false at = Write at

abbrev pub right_of : Bool → Right
right_of true = rights.Sink
right_of false = rights.Write

-- where it was placed, or the first check that failed
abbrev pub as_tagged : Bool → Result Placed Fault → Result Landing Fault
as_tagged response (Ok at) = Ok (landing_of response at)
as_tagged response (Err fault) = Err fault

-- what the placement leaves of the regions, and of the receive buffers
abbrev pub table_landed : Table → List ℕ → Landing → Table
table_landed table payload (Write at) = put table at.stag at.to payload
table_landed table payload (Response at) = put table at.stag at.to payload
table_landed table payload (Send msn mo len) = table
table_landed table payload (Request request) = table
table_landed table payload (Terminate fault) = table

abbrev pub receiving_landed : Receiving → List ℕ → Landing → Receiving
receiving_landed r payload (Write at) = r
receiving_landed r payload (Response at) = r
receiving_landed r payload (Send msn mo len) = written r msn mo payload
receiving_landed r payload (Request request) = r
receiving_landed r payload (Terminate fault) = r

-- and that of a frame that was judged early; one that was not placed leaves them as they were
abbrev pub table_tried : Table → Frame → Option Landing → Table
table_tried table frame None = table
table_tried table frame (Some at) = table_landed table (payload_of (segment_in frame)) at

abbrev pub receiving_tried : Receiving → Frame → Option Landing → Receiving
receiving_tried r frame None = r
receiving_tried r frame (Some at) = receiving_landed r (payload_of (segment_in frame)) at

-- ---- its turn

-- what a Send does to its receiver beside the message, by its opcode (RFC 5040 4.1, 4.6, 5.3): it is solicited, and it has an STag to
-- invalidate
abbrev pub is_solicited : Option UntaggedOperation → Bool
is_solicited = joined.is_solicited

abbrev pub has_stag : Option UntaggedOperation → Bool
has_stag = joined.is_invalidating

abbrev pub stag_to_invalidate : UntaggedHead → Option Stag
stag_to_invalidate head = if has_stag (untagged_operation (opcode_of head.control)) then Some (stag_of head.tail) else None

-- a Send is complete with its last segment, whose opcode and STag count
abbrev pub send_turning : UntaggedHead → Turning
send_turning head =
    if head.last then Completed (is_solicited (untagged_operation (opcode_of head.control))) (stag_to_invalidate head) else Passed

-- what a denial is reported as (RFC 5040 4.8)
abbrev pub invalidate_fault : InvalidateDeny → Fault
invalidate_fault NotAssociated = faults.PROTECTION_NOT_ASSOCIATED
invalidate_fault Invalid = faults.PROTECTION_INVALID_STAG
invalidate_fault NotAllowed = faults.PROTECTION_CANNOT_INVALIDATE

-- the first check that fails of the region which a Send's last segment has to invalidate (RFC 5040 5.3)
abbrev pub invalidation_fault : Table → Peer → Turning → Option Fault
invalidation_fault table peer Passed = None
invalidation_fault table peer (Completed solicited None) = None
invalidation_fault table peer (Completed solicited (Some stag)) = option_map invalidate_fault (invalidate_denial_for table peer stag)
invalidation_fault table peer (Answered ticket) = None

-- a Send's segment is the next one of the message that is due, and the region that it has to invalidate may go
abbrev pub send_turn : Table → Peer → Receiving → UntaggedHead → Result Turning Fault
send_turn table peer r head =
    fault_or (or_else (turn_fault r head.msn head.mo) (invalidation_fault table peer (send_turning head))) (send_turning head)

abbrev pub answering_by : Option ℕ → Turning
answering_by None = Passed
answering_by (Some ticket) = Answered ticket

abbrev pub is_read_response : Option TaggedOperation → Bool
is_read_response None = false
is_read_response (Some tagged.Write) = false
is_read_response (Some tagged.ReadResponse) = true

-- a tagged segment carries part of the response to a Read; the turn of a Write has no check
abbrev pub is_response : TaggedHead → Bool
is_response head = is_read_response (tagged_operation (opcode_of head.control))

abbrev pub tagged_turn : List Outstanding → TaggedHead → ℕ → Result Turning Fault
tagged_turn reads head n =
    if is_response head then fault_or (response_turn_fault reads head n) (answering_by (finished_read reads head)) else Ok Passed

-- what the turn of a segment with n octets of payload comes to, by the checks of a turn alone: no check of a frame, a header or a region is
-- made again
abbrev pub segment_turn : Table → Peer → Receiving → List Outstanding → ℕ → Option (Segment (List ℕ)) → Result Turning Fault
segment_turn table peer r reads n None = Err faults.SEGMENT_SHORT
segment_turn table peer r reads n (Some (Tagged head payload)) = tagged_turn reads head n
segment_turn table peer r reads n (Some (Untagged head payload)) = send_turn table peer r head

abbrev pub turn_of : Standing → PlacedFrame → Result Turning Fault
turn_of at frame = segment_turn at.table at.peer at.receiving at.reads (payload_len frame) (head_in frame)

-- and by the Read that a tagged segment finishes, or the check of its turn that fails
abbrev pub answered : Result (Option ℕ) Fault → Result Turning Fault
answered (Ok finished) = Ok (answering_by finished)
answered (Err fault) = Err fault

-- what a turn leaves of the regions: that of a Send which is complete and invalidates goes out of use
abbrev pub table_turned : Table → Turning → Table
table_turned table Passed = table
table_turned table (Completed solicited None) = table
table_turned table (Completed solicited (Some stag)) = invalidated table stag
table_turned table (Answered ticket) = table

-- what it leaves of the message that is due, if that is not complete
abbrev pub turned_by : Receiving → ℕ → Option (Segment (List ℕ)) → Receiving
turned_by r n None = r
turned_by r n (Some (Tagged head payload)) = r
turned_by r n (Some (Untagged head payload)) = receiving.turned r n

abbrev pub receiving_turned : Receiving → PlacedFrame → Receiving
receiving_turned r frame = turned_by r (payload_len frame) (head_in frame)

-- and of the outstanding Reads
abbrev pub tagged_left : List Outstanding → TaggedHead → ℕ → List Outstanding
tagged_left reads head n = if is_response head then reads_turned reads head n else reads

abbrev pub left_by_turn : List Outstanding → ℕ → Option (Segment (List ℕ)) → List Outstanding
left_by_turn reads n None = reads
left_by_turn reads n (Some (Tagged head payload)) = tagged_left reads head n
left_by_turn reads n (Some (Untagged head payload)) = reads

abbrev pub reads_left : List Outstanding → PlacedFrame → List Outstanding
reads_left reads frame = left_by_turn reads (payload_len frame) (head_in frame)
