-- Which segment a ULPDU is, or the first check that it fails: those of its length and its header, up to the ones that need a buffer,
-- a region or an outstanding Read.
use Rattle.std.specs.Prelude.{ℕ, ◌-◌, ◌≤◌, ◌==◌, ◌||◌, not, nat_lt, nat_le, min, List, length, if◌then◌else◌, Option, Some, None, Result, Ok, Err}
use Rattle.iw_octets.specs.declared.constants.TheConstants.{MAX_UNANSWERED}
use Rattle.iw_octets.specs.declared.fault.Fault.{Fault}
use Rattle.iw_octets.specs.declared.fault.TheConstants.Fault as faults
use Rattle.iw_octets.specs.declared.head.TaggedHead.{TaggedHead}
use Rattle.iw_octets.specs.declared.head.UntaggedHead.{UntaggedHead}
use Rattle.iw_octets.specs.declared.operation.TaggedOperation.{TaggedOperation}
use Rattle.iw_octets.specs.declared.operation.TaggedOperation.TheVariants.{Write, ReadResponse}
use Rattle.iw_octets.specs.declared.operation.UntaggedOperation.{UntaggedOperation}
use Rattle.iw_octets.specs.declared.operation.UntaggedOperation.TheVariants.{Send, ReadRequest, Terminate}
use Rattle.iw_octets.specs.declared.segment.Segment.{Segment}
use Rattle.iw_octets.specs.declared.segment.Segment.TheVariants.{Tagged, Untagged}
use Rattle.iw_octets.specs.Operation.{rdmap_version, opcode_of, tagged_operation, untagged_operation, queue_of}
use Rattle.iw_octets.specs.Payload.{request_fields, word_fields}
use Rattle.iw_octets.specs.Segment.{read_segment}
use Rattle.iw_rdmap.specs.declared.head.Head.{Head}
use Rattle.iw_rdmap.specs.declared.head.Head.TheVariants as heads

-- octets at the front of some that are `len` in all: as many as `most` of them at least, or all
pub record IsFront (most : ℕ) (first : List ℕ) (len : ℕ) : Type 0 where
  pub enough : min most len ≤ length first
  pub within : length first ≤ len

-- the operation that a header's opcode names; the fault if its segment can have no such opcode (RFC 5040 4.1, 7.2)
abbrev pub expected : {A : Type 0} → Option A → Result A Fault
expected None = Err faults.OPERATION_UNEXPECTED
expected (Some operation) = Ok operation

-- the checks of a tagged header, in their order: DDP's version (RFC 5041 4.1, 7.2), RDMAP's version, the opcode (RFC 5040 4.1, 4.8)
abbrev pub tagged_checked : TaggedHead → Result TaggedOperation Fault
tagged_checked head =
    if not (head.ddp_version == 1) then Err faults.TAGGED_VERSION
    else if not (rdmap_version head.control == 1) then Err faults.OPERATION_VERSION
    else expected (tagged_operation (opcode_of head.control))

-- an operation on the queue that carries it
abbrev pub on_queue : ℕ → Option UntaggedOperation → Option UntaggedOperation
on_queue queue None = None
on_queue queue (Some operation) = if queue_of operation == queue then Some operation else None

-- the checks of an untagged header, in their order: DDP's version, the queue number (RFC 5041 4.1, 4.3, 7.2), RDMAP's version, the opcode (RFC 5040 4.1, 4.8)
abbrev pub untagged_checked : UntaggedHead → Result UntaggedOperation Fault
untagged_checked head =
    if not (head.ddp_version == 1) then Err faults.UNTAGGED_VERSION
    else if nat_lt 2 head.queue then Err faults.UNTAGGED_INVALID_QUEUE
    else if not (rdmap_version head.control == 1) then Err faults.OPERATION_VERSION
    else expected (on_queue head.queue (untagged_operation (opcode_of head.control)))

-- the checks of a Read Request with n octets of payload, in their order: it is the message that is due, fewer requests wait for their
-- responses than this endpoint takes, and it is one segment with a Read Request header as its payload (RFC 5041 4.3, 7.1,
-- RFC 5040 4.4, 5.2.1)
abbrev pub request_fault : UntaggedHead → ℕ → ℕ → ℕ → Option Fault
request_fault head n next unanswered =
    if not (head.msn == next) then Some faults.UNTAGGED_MSN_RANGE
    else if nat_le MAX_UNANSWERED unanswered then Some faults.UNTAGGED_NO_BUFFER
    else if not (head.mo == 0) then Some faults.UNTAGGED_INVALID_OFFSET
    else if nat_lt 28 n || not head.last then Some faults.UNTAGGED_TOO_LONG
    else if nat_lt n 28 then Some faults.SEGMENT_SHORT
    else None

-- the checks of a Terminate with n octets of payload, in their order: it is its queue's first message, and one segment with a Terminate's
-- first word and at most 48 octets past it (RFC 5041 4.3, 7.1, RFC 5040 4.8, 5.4)
abbrev pub terminate_fault : UntaggedHead → ℕ → Option Fault
terminate_fault head n =
    if not (head.msn == 1) then Some faults.UNTAGGED_MSN_RANGE
    else if not (head.mo == 0) then Some faults.UNTAGGED_INVALID_OFFSET
    else if nat_lt 52 n || not head.last then Some faults.UNTAGGED_TOO_LONG
    else if nat_lt n 4 then Some faults.SEGMENT_SHORT
    else None

-- the fault, or else this
abbrev pub fault_or : {A : Type 0} → Option Fault → A → Result A Fault
fault_or None x = Ok x
fault_or (Some fault) x = Err fault

abbrev pub judged_request : UntaggedHead → List ℕ → ℕ → ℕ → ℕ → Result Head Fault
judged_request head payload n next unanswered =
    fault_or (request_fault head n next unanswered) (heads.Request head (request_fields payload))

abbrev pub judged_terminate : UntaggedHead → List ℕ → ℕ → Result Head Fault
judged_terminate head payload n = fault_or (terminate_fault head n) (heads.Terminate head (word_fields payload))

abbrev pub judged_tagged : TaggedHead → Result TaggedOperation Fault → Result Head Fault
judged_tagged head (Err fault) = Err fault
judged_tagged head (Ok Write) = Ok (heads.Write head)
judged_tagged head (Ok ReadResponse) = Ok (heads.Response head)

abbrev pub judged_untagged : UntaggedHead → List ℕ → ℕ → ℕ → ℕ → Result UntaggedOperation Fault → Result Head Fault
judged_untagged head payload n next unanswered (Err fault) = Err fault
judged_untagged head payload n next unanswered (Ok (Send solicited invalidates)) = Ok (heads.Send head)
judged_untagged head payload n next unanswered (Ok ReadRequest) = judged_request head payload n next unanswered
judged_untagged head payload n next unanswered (Ok Terminate) = judged_terminate head payload n

-- a segment of a ULPDU of `len` octets; none if they are too few for its header
abbrev pub judged_segment : Option (Segment (List ℕ)) → ℕ → ℕ → ℕ → Result Head Fault
judged_segment None len next unanswered = Err faults.SEGMENT_SHORT
judged_segment (Some (Tagged head payload)) len next unanswered = judged_tagged head (tagged_checked head)
judged_segment (Some (Untagged head payload)) len next unanswered =
    judged_untagged head payload (len - 18) next unanswered (untagged_checked head)

-- a ULPDU of `len` octets that begins with these, `next` being the number of the Read Request that is due and `unanswered` how many wait for their responses
abbrev pub judged : List ℕ → ℕ → ℕ → ℕ → Result Head Fault
judged first len next unanswered = judged_segment (read_segment first) len next unanswered

-- the header of a Write or a Read Response that passes its checks; none of any other segment
abbrev pub passed_by : TaggedHead → Result TaggedOperation Fault → Option TaggedHead
passed_by head (Err fault) = None
passed_by head (Ok operation) = Some head

abbrev pub tagged_in : Option (Segment (List ℕ)) → Option TaggedHead
tagged_in None = None
tagged_in (Some (Tagged head payload)) = passed_by head (tagged_checked head)
tagged_in (Some (Untagged head payload)) = None
