-- Reading undoes writing, whatever stands after, and writing undoes reading; what is read is read off the octets at the front.
use Rattle.std.specs.Prelude.{ℕ, ◌≡◌, ◌<◌, ◌+◌, ◌-◌, ◌*◌, ◌/◌, ◌%◌, true, false, List, [], ◌∷◌, ◌++◌, slice_index, Some, None, if◌then◌else◌}
use Rattle.iw_octets.specs.declared.constants.TheConstants as constants
use Rattle.iw_octets.specs.declared.fault.Fault.{Fault}
use Rattle.iw_octets.specs.declared.fault.TheConstants.Fault as faults
use Rattle.iw_octets.specs.declared.head.TaggedHead.{TaggedHead}
use Rattle.iw_octets.specs.declared.head.UntaggedHead.{UntaggedHead}
use Rattle.iw_octets.specs.declared.operation.TaggedOperation.{TaggedOperation}
use Rattle.iw_octets.specs.declared.operation.UntaggedOperation.{UntaggedOperation}
use Rattle.iw_octets.specs.declared.payload.ReadRequest.{ReadRequest}
use Rattle.iw_octets.specs.declared.payload.TerminateWord.{TerminateWord}
use Rattle.iw_octets.specs.declared.segment.Segment.{Segment}
use Rattle.iw_octets.specs.declared.stag.Stag.{Stag}
use Rattle.iw_octets.specs.Stag.{number_of, FitsStag}
use Rattle.iw_octets.specs.Head.{is_tagged, tagged_octets, untagged_octets, read_tagged, read_untagged, FitsTagged, FitsUntagged}
use Rattle.iw_octets.specs.Operation.{rdmap_version, opcode_of, control_of, tagged_opcode, untagged_opcode, tagged_operation, untagged_operation}
use Rattle.iw_octets.specs.Parts.{part_at, parts_from}
use Rattle.iw_octets.specs.Payload.{request_octets, read_request, word_octets, read_word, FitsRequest, FitsWord}
use Rattle.iw_octets.specs.Segment.{segment_octets, read_segment, FitsSegment, with_past}

pub record ReadsAgain : Type 0 where
  pub tagged : (head : TaggedHead) (rest : List ℕ) → FitsTagged head → read_tagged (tagged_octets head ++ rest) ≡ Some (head, rest)
  pub untagged : (head : UntaggedHead) (rest : List ℕ) → FitsUntagged head → read_untagged (untagged_octets head ++ rest) ≡ Some (head, rest)
  pub request : (request : ReadRequest) (rest : List ℕ) → FitsRequest request → read_request (request_octets request ++ rest) ≡ Some (request, rest)
  pub word : (word : TerminateWord) (rest : List ℕ) → FitsWord word → read_word (word_octets word ++ rest) ≡ Some (word, rest)
  pub segment : (segment : Segment (List ℕ)) → FitsSegment segment → read_segment (segment_octets segment) ≡ Some segment
  pub beyond : (octets more : List ℕ) (segment : Segment (List ℕ)) → read_segment octets ≡ Some segment → read_segment (octets ++ more) ≡ Some (with_past segment more)

-- each is an octet
abbrev pub AreOctets : List ℕ → Type 0
AreOctets octets = (i : ℕ) → slice_index octets i < 256

-- the same with a segment's reserved bits zero: the four between the flags and the version
abbrev pub plain_segment : List ℕ → List ℕ
plain_segment [] = []
plain_segment (first ∷ rest) = (first / 0x40 * 0x40 + first % 4) ∷ rest

-- the same with those of a Terminate's first word zero: the 13 after its three flags
abbrev pub plain_word : List ℕ → List ℕ
plain_word (cause ∷ code ∷ flags ∷ reserved ∷ rest) = cause ∷ code ∷ (flags / 0x20 * 0x20) ∷ 0 ∷ rest
plain_word octets = octets

-- what was read is written again, with the reserved bits zero; a Read Request has none
pub record WritesAgain : Type 0 where
  pub tagged : (octets : List ℕ) (head : TaggedHead) (rest : List ℕ) → AreOctets octets → is_tagged (slice_index octets 0) ≡ true → read_tagged octets ≡ Some (head, rest) → tagged_octets head ++ rest ≡ plain_segment octets
  pub untagged : (octets : List ℕ) (head : UntaggedHead) (rest : List ℕ) → AreOctets octets → is_tagged (slice_index octets 0) ≡ false → read_untagged octets ≡ Some (head, rest) → untagged_octets head ++ rest ≡ plain_segment octets
  pub request : (octets : List ℕ) (request : ReadRequest) (rest : List ℕ) → AreOctets octets → read_request octets ≡ Some (request, rest) → request_octets request ++ rest ≡ octets
  pub word : (octets : List ℕ) (word : TerminateWord) (rest : List ℕ) → AreOctets octets → read_word octets ≡ Some (word, rest) → word_octets word ++ rest ≡ plain_word octets
  pub segment : (octets : List ℕ) (segment : Segment (List ℕ)) → AreOctets octets → read_segment octets ≡ Some segment → segment_octets segment ≡ plain_segment octets

-- a fault's numbers: the layer, the error type, the error code
abbrev pub numbered : ℕ → ℕ → ℕ → Fault
numbered layer kind code = record { layer = layer; kind = kind; code = code }

-- the numbers that the RFCs give: RDMAP's (RFC 5040 4.8), DDP's (RFC 5041 7.2) and MPA's (RFC 5044 8)
pub record KnownFaults : Type 0 where
  pub protection_invalid_stag : faults.PROTECTION_INVALID_STAG ≡ numbered 0 1 0
  pub protection_bounds : faults.PROTECTION_BOUNDS ≡ numbered 0 1 1
  pub protection_rights : faults.PROTECTION_RIGHTS ≡ numbered 0 1 2
  pub protection_not_associated : faults.PROTECTION_NOT_ASSOCIATED ≡ numbered 0 1 3
  pub protection_offset_wrap : faults.PROTECTION_OFFSET_WRAP ≡ numbered 0 1 4
  pub protection_cannot_invalidate : faults.PROTECTION_CANNOT_INVALIDATE ≡ numbered 0 1 9
  pub operation_version : faults.OPERATION_VERSION ≡ numbered 0 2 5
  pub operation_unexpected : faults.OPERATION_UNEXPECTED ≡ numbered 0 2 6
  pub segment_short : faults.SEGMENT_SHORT ≡ numbered 1 0 0
  pub tagged_invalid_stag : faults.TAGGED_INVALID_STAG ≡ numbered 1 1 0
  pub tagged_bounds : faults.TAGGED_BOUNDS ≡ numbered 1 1 1
  pub tagged_not_associated : faults.TAGGED_NOT_ASSOCIATED ≡ numbered 1 1 2
  pub tagged_offset_wrap : faults.TAGGED_OFFSET_WRAP ≡ numbered 1 1 3
  pub tagged_version : faults.TAGGED_VERSION ≡ numbered 1 1 4
  pub untagged_invalid_queue : faults.UNTAGGED_INVALID_QUEUE ≡ numbered 1 2 1
  pub untagged_no_buffer : faults.UNTAGGED_NO_BUFFER ≡ numbered 1 2 2
  pub untagged_msn_range : faults.UNTAGGED_MSN_RANGE ≡ numbered 1 2 3
  pub untagged_invalid_offset : faults.UNTAGGED_INVALID_OFFSET ≡ numbered 1 2 4
  pub untagged_too_long : faults.UNTAGGED_TOO_LONG ≡ numbered 1 2 5
  pub untagged_version : faults.UNTAGGED_VERSION ≡ numbered 1 2 6
  pub crc_mismatch : faults.CRC_MISMATCH ≡ numbered 2 0 2
  pub marker_mismatch : faults.MARKER_MISMATCH ≡ numbered 2 0 3

-- the numbers that the RFCs give (RFC 5041 4.1 to 4.3, RFC 5040 4.1 and 4.4, RFC 5044 7.1.1), and how long this endpoint lets a ULPDU and a message be
pub record KnownConstants : Type 0 where
  pub ddp_version : constants.DDP_VERSION ≡ 1
  pub rdmap_version : constants.RDMAP_VERSION ≡ 1
  pub tagged_header : constants.TAGGED_HEADER ≡ 14
  pub untagged_header : constants.UNTAGGED_HEADER ≡ 18
  pub read_request_header : constants.READ_REQUEST_HEADER ≡ 28
  pub max_ulpdu : constants.MAX_ULPDU ≡ 64512
  pub max_octets : constants.MAX_OCTETS ≡ 16777216
  pub max_private : constants.MAX_PRIVATE ≡ 512

-- each operation is told by its octet, which has RDMAP's version, and no octet names a tagged operation and an untagged one
pub record OperationsAreTold : Type 0 where
  pub tagged : (operation : TaggedOperation) → tagged_operation (opcode_of (control_of (tagged_opcode operation))) ≡ Some operation
  pub untagged : (operation : UntaggedOperation) → untagged_operation (opcode_of (control_of (untagged_opcode operation))) ≡ Some operation
  pub tagged_version : (operation : TaggedOperation) → rdmap_version (control_of (tagged_opcode operation)) ≡ 1
  pub untagged_version : (operation : UntaggedOperation) → rdmap_version (control_of (untagged_opcode operation)) ≡ 1
  pub apart : (opcode : ℕ) (operation : TaggedOperation) → tagged_operation opcode ≡ Some operation → untagged_operation opcode ≡ None

-- taken one by one, the parts of a message from an offset on are the part there, and unless it is the last those from its end on
abbrev pub PartsAreTaken : Type 0
PartsAreTaken = (len size offset : ℕ) → 0 < size →
    let part = part_at len size offset in
    parts_from offset (len - offset) size ≡ part ∷ (if part.last then [] else parts_from (offset + part.n) (len - (offset + part.n)) size)

-- two STags of one number are one
pub record NumbersTell : Type 0 where
  pub same : (a b : Stag) → FitsStag a → FitsStag b → number_of a ≡ number_of b → a ≡ b
