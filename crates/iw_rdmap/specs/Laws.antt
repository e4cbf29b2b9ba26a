-- What the checks and the payload come to.
use Rattle.std.specs.Prelude.{◌≡◌, ℕ, ◌-◌, ◌<◌, ◌==◌, ◌&&◌, not, nat_lt, nat_le, Bool, true, List, ◌++◌, length, if◌then◌else◌, Some, Result, Ok, Err}
use Rattle.iw_octets.specs.declared.fault.Fault.{Fault}
use Rattle.iw_octets.specs.declared.fault.TheConstants.Fault as faults
use Rattle.iw_octets.specs.declared.head.TaggedHead.{TaggedHead}
use Rattle.iw_octets.specs.declared.head.UntaggedHead.{UntaggedHead}
use Rattle.iw_octets.specs.declared.operation.TaggedOperation.TheVariants.{Write, ReadResponse}
use Rattle.iw_octets.specs.declared.operation.UntaggedOperation.{UntaggedOperation}
use Rattle.iw_octets.specs.declared.operation.UntaggedOperation.TheVariants.{ReadRequest, Terminate}
use Rattle.iw_octets.specs.declared.segment.Segment.TheVariants.{Tagged, Untagged}
use Rattle.iw_octets.specs.Head.{untagged_octets}
use Rattle.iw_octets.specs.Operation.{rdmap_version, opcode_of, control_of, tagged_opcode, untagged_opcode, queue_of}
use Rattle.iw_octets.specs.Segment.{read_segment}
use Rattle.iw_rdmap.specs.declared.head.Head.{Head}
use Rattle.iw_rdmap.specs.declared.head.Head.TheVariants as heads
use Rattle.iw_rdmap.specs.Judging.{IsFront, judged, judged_request, judged_terminate}
use Rattle.iw_rdmap.specs.Terminate.{FitsFault, word_for, terminate_octets}

-- a ULPDU's first octets, 46 of them or all, are judged as the whole ULPDU is
abbrev pub FrontWillDo : Type 0
FrontWillDo = (first beyond : List ℕ) (next unanswered : ℕ) →
    let ulpdu = first ++ beyond in
    IsFront 46 first (length ulpdu) → judged first (length ulpdu) next unanswered ≡ judged ulpdu (length ulpdu) next unanswered

-- ---- all checks of a header in one list

abbrev pub listed_tagged : TaggedHead → Result Head Fault
listed_tagged head =
    if not (head.ddp_version == 1) then Err faults.TAGGED_VERSION
    else if not (rdmap_version head.control == 1) then Err faults.OPERATION_VERSION
    else if opcode_of head.control == tagged_opcode Write then Ok (heads.Write head)
    else if opcode_of head.control == tagged_opcode ReadResponse then Ok (heads.Response head)
    else Err faults.OPERATION_UNEXPECTED

-- the opcodes of Sends are 3 to 6
abbrev pub carries_send : UntaggedHead → Bool
carries_send head = (head.queue == 0) && (nat_le 3 (opcode_of head.control) && nat_le (opcode_of head.control) 6)

-- the header has the opcode of this operation, and is on its queue
abbrev pub carries : UntaggedHead → UntaggedOperation → Bool
carries head operation = (head.queue == queue_of operation) && (opcode_of head.control == untagged_opcode operation)

-- n is the length of the payload, and `payload` has its first octets
abbrev pub listed_untagged : UntaggedHead → List ℕ → ℕ → ℕ → ℕ → Result Head Fault
listed_untagged head payload n next unanswered =
    if not (head.ddp_version == 1) then Err faults.UNTAGGED_VERSION
    else if nat_lt 2 head.queue then Err faults.UNTAGGED_INVALID_QUEUE
    else if not (rdmap_version head.control == 1) then Err faults.OPERATION_VERSION
    else if carries_send head then Ok (heads.Send head)
    else if carries head ReadRequest then judged_request head payload n next unanswered
    else if carries head Terminate then judged_terminate head payload n
    else Err faults.OPERATION_UNEXPECTED

pub record ChecksAreListed : Type 0 where
  pub tagged : (first payload : List ℕ) (head : TaggedHead) (len next unanswered : ℕ) →
      read_segment first ≡ Some (Tagged head payload) → judged first len next unanswered ≡ listed_tagged head
  pub untagged : (first payload : List ℕ) (head : UntaggedHead) (len next unanswered : ℕ) →
      read_segment first ≡ Some (Untagged head payload) →
      judged first len next unanswered ≡ listed_untagged head payload (len - 18) next unanswered

-- the header of a Terminate, which is its queue's first message and one segment (RFC 5040 5.4)
abbrev pub terminate_head : UntaggedHead
terminate_head = record {
  last = true;
  ddp_version = 1;
  control = control_of (untagged_opcode Terminate);
  tail = 0;
  queue = queue_of Terminate;
  msn = 1;
  mo = 0;
}

-- the payload of a Terminate past this header is judged as a Terminate that carries the fault
abbrev pub TerminatesAreTold : Type 0
TerminatesAreTold = (fault : Fault) (first : List ℕ) (len next unanswered : ℕ) (request : Bool) → FitsFault fault → fault.code < 256 →
    let ulpdu = untagged_octets terminate_head ++ terminate_octets fault first len request in
    judged ulpdu (length ulpdu) next unanswered ≡ Ok (heads.Terminate terminate_head (word_for fault request))
