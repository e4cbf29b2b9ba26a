-- The segments that carry posted messages: any cut of the octets of each, one message after the other.
use Rattle.std.specs.Prelude.{ℕ, ◌≡◌, ◌+◌, ◌%◌, ◌^◌, ◌<◌, ◌≤◌, Bool, true, false, List, [], ◌∷◌, ◌++◌, length, take, drop, if◌then◌else◌, Option, is_some, ◌-◌}
use Rattle.std.specs.Option.{option_map_or}
use Rattle.iw_octets.specs.declared.constants.TheConstants.{DDP_VERSION, TAGGED_HEADER, UNTAGGED_HEADER, MAX_ULPDU}
use Rattle.iw_octets.specs.declared.head.TaggedHead.{TaggedHead}
use Rattle.iw_octets.specs.declared.head.UntaggedHead.{UntaggedHead}
use Rattle.iw_octets.specs.declared.message.Message.TheVariants.{Write, Send}
use Rattle.iw_octets.specs.declared.operation.TaggedOperation.TheVariants as tagged
use Rattle.iw_octets.specs.declared.operation.UntaggedOperation.TheVariants as untagged
use Rattle.iw_octets.specs.declared.payload.ReadRequest.{ReadRequest}
use Rattle.iw_octets.specs.declared.segment.Segment.{Segment}
use Rattle.iw_octets.specs.declared.segment.Segment.TheVariants.{Tagged, Untagged}
use Rattle.iw_octets.specs.declared.stag.Stag.{Stag}
use Rattle.iw_octets.specs.Operation.{control_of, tagged_opcode, untagged_opcode, queue_of}
use Rattle.iw_octets.specs.Payload.{request_octets}
use Rattle.iw_octets.specs.Stag.{number_of}
use Rattle.iw_queues.specs.declared.request.Request.{Request}
use Rattle.iw_queues.specs.declared.request.Request.TheVariants.{Message, Read}
use Rattle.iw_queues.specs.declared.send_queue.Part.{Part}
use Rattle.iw_queues.specs.Request.{payload}

-- ---- headers
-- the message sequence numbers of the next Send and of the next Read: each queue counts its own (RFC 5041 4.3)
pub record Numbers : Type 0 where
  pub send : ℕ
  pub read : ℕ

abbrev pub first_numbers : Numbers
first_numbers = record { send = 1; read = 1 }

abbrev pub numbers_after : Numbers → Request (List ℕ) → Numbers
numbers_after numbers (Message (Write stag to octets)) = numbers
numbers_after numbers (Message (Send octets solicited invalidate)) = record numbers { send = (numbers.send + 1) % 2 ^ 32 }
numbers_after numbers (Read request) = record numbers { read = (numbers.read + 1) % 2 ^ 32 }

abbrev pub numbers_after_all : Numbers → List (Request (List ℕ)) → Numbers
numbers_after_all numbers [] = numbers
numbers_after_all numbers (m ∷ ms) = numbers_after_all (numbers_after numbers m) ms

-- the header of a segment of a Write whose octets begin `offset` octets into the message (RFC 5041 4.2)
abbrev pub write_head : Stag → ℕ → ℕ → Bool → TaggedHead
write_head stag to offset last = record {
  last = last;
  ddp_version = DDP_VERSION;
  control = control_of (tagged_opcode tagged.Write);
  stag = stag;
  to = (to + offset) % 2 ^ 64;
}

-- the same for a Send, each segment of which has the opcode and the STag to invalidate (RFC 5040 4.1, RFC 5041 4.3)
abbrev pub send_head : ℕ → Bool → Option Stag → ℕ → Bool → UntaggedHead
send_head msn solicited invalidate offset last = record {
  last = last;
  ddp_version = DDP_VERSION;
  control = control_of (untagged_opcode (untagged.Send solicited (is_some invalidate)));
  tail = option_map_or number_of invalidate 0;
  queue = queue_of (untagged.Send solicited (is_some invalidate));
  msn = msn;
  mo = offset;
}

-- the header of a Read Request, which is one segment, on a queue of its own (RFC 5040 5.2.1)
abbrev pub request_head : ℕ → UntaggedHead
request_head msn = record {
  last = true;
  ddp_version = DDP_VERSION;
  control = control_of (untagged_opcode untagged.ReadRequest);
  tail = 0;
  queue = queue_of untagged.ReadRequest;
  msn = msn;
  mo = 0;
}

-- the segments with these headers and octets
abbrev pub write_segment : Stag → ℕ → ℕ → Bool → List ℕ → Segment (List ℕ)
write_segment stag to offset last octets = Tagged (write_head stag to offset last) octets

abbrev pub send_segment : ℕ → Bool → Option Stag → ℕ → Bool → List ℕ → Segment (List ℕ)
send_segment msn solicited invalidate offset last octets = Untagged (send_head msn solicited invalidate offset last) octets

abbrev pub request_segment : ℕ → ReadRequest → Segment (List ℕ)
request_segment msn request = Untagged (request_head msn) (request_octets request)

-- the segment with these octets of a message, which begin `offset` octets into it; a Read has the octets of its request
abbrev pub segment_with : Numbers → Request (List ℕ) → ℕ → Bool → List ℕ → Segment (List ℕ)
segment_with numbers (Message (Write stag to payload)) offset last octets = write_segment stag to offset last octets
segment_with numbers (Message (Send payload solicited invalidate)) offset last octets = send_segment numbers.send solicited invalidate offset last octets
segment_with numbers (Read request) offset last octets = request_segment numbers.read request

-- ---- cuts
-- these octets, from `offset` of their message on, in a segment of at most `room` octets that is not the last
pub record IsFront (room : ℕ) (segment : ℕ → Bool → List ℕ → Segment (List ℕ)) (offset : ℕ) (octets : List ℕ) (s : Segment (List ℕ)) (front back : List ℕ) : Type 0 where
  pub cut : octets ≡ front ++ back
  pub filled : 0 < length front
  pub fits : length front ≤ room
  pub left : 0 < length back
  pub is : s ≡ segment offset false front

-- any cut of the octets: no part is empty, unless there are no octets, and the last is marked
abbrev pub IsCut : ℕ → (ℕ → Bool → List ℕ → Segment (List ℕ)) → ℕ → List ℕ → List (Segment (List ℕ)) → Type 0
IsCut room segment offset octets [] = ⊥
IsCut room segment offset octets (s ∷ []) = (length octets ≤ room) × (s ≡ segment offset true octets)
IsCut room segment offset octets (s ∷ t ∷ ss) =
    (front back : List ℕ) × IsFront room segment offset octets s front back × IsCut room segment (offset + length front) back (t ∷ ss)

-- the segments of what is left of a message past its first `offset` octets (RFC 5041 5.2)
abbrev pub AreSegments : Numbers → Request (List ℕ) → ℕ → List (Segment (List ℕ)) → Type 0
AreSegments numbers (Message (Write stag to octets)) offset ss = IsCut (MAX_ULPDU - TAGGED_HEADER) (write_segment stag to) offset (drop offset octets) ss
AreSegments numbers (Message (Send octets solicited invalidate)) offset ss =
    IsCut (MAX_ULPDU - UNTAGGED_HEADER) (send_segment numbers.send solicited invalidate) offset (drop offset octets) ss
AreSegments numbers (Read request) offset ss = ss ≡ request_segment numbers.read request ∷ []

-- the segments of these messages, one message after the other, if `offset` octets of the first were sent before (RFC 5041 5.3)
abbrev pub AreSpelled : Numbers → ℕ → List (Request (List ℕ)) → List (Segment (List ℕ)) → Type 0
AreSpelled numbers offset [] ss = ss ≡ []
AreSpelled numbers offset (m ∷ ms) ss =
    (mine later : List (Segment (List ℕ))) × (ss ≡ mine ++ later) × AreSegments numbers m offset mine × AreSpelled (numbers_after numbers m) 0 ms later

-- ---- a part that is shown
-- its segment, if the next Send and the next Read have these numbers
abbrev pub segment_of : Numbers → Part (Request (List ℕ)) → Segment (List ℕ)
segment_of numbers part = segment_with numbers part.message part.offset part.last (take part.n (drop part.offset (payload part.message)))

-- the numbers after it
abbrev pub numbers_beyond : Numbers → Part (Request (List ℕ)) → Numbers
numbers_beyond numbers part = if part.last then numbers_after numbers part.message else numbers
