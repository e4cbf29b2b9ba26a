-- What a receiver makes of segments in order: Sends that are complete, and octets placed for Writes.
use Rattle.std.specs.Prelude.{ℕ, ◌≡◌, ◌+◌, ◌%◌, ◌^◌, ◌==◌, ◌&&◌, Bool, true, false, zero, suc, List, [], ◌∷◌, ◌++◌, if◌then◌else◌, Option, Some, None}
use Rattle.std.specs.Option.{option_map}
use Rattle.iw_octets.specs.declared.head.UntaggedHead.{UntaggedHead}
use Rattle.iw_octets.specs.declared.message.Message.TheVariants.{Write, Send}
use Rattle.iw_octets.specs.declared.operation.TaggedOperation.TheVariants as tagged
use Rattle.iw_octets.specs.declared.operation.UntaggedOperation.{UntaggedOperation}
use Rattle.iw_octets.specs.declared.operation.UntaggedOperation.TheVariants as untagged
use Rattle.iw_octets.specs.declared.segment.Segment.{Segment}
use Rattle.iw_octets.specs.declared.segment.Segment.TheVariants.{Tagged, Untagged}
use Rattle.iw_octets.specs.declared.stag.Stag.{Stag}
use Rattle.iw_octets.specs.Operation.{opcode_of, tagged_opcode, untagged_operation}
use Rattle.iw_octets.specs.Stag.{number_of}
use Rattle.iw_queues.specs.declared.request.Request.{Request}
use Rattle.iw_queues.specs.declared.request.Request.TheVariants.{Message, Read}

abbrev pub IsPrefixOf : {A : Type 0} → List A → List A → Type 0
IsPrefixOf {A} xs ys = (rest : List A) × (xs ++ rest ≡ ys)

-- the octets after the headers
abbrev pub payloads : List (Segment (List ℕ)) → List ℕ
payloads [] = []
payloads (Tagged head octets ∷ ss) = octets ++ payloads ss
payloads (Untagged head octets ∷ ss) = octets ++ payloads ss

-- ---- Sends
-- a Send that is complete, with the number of the STag that it invalidates, if any
pub record Whole : Type 0 where
  pub octets : List ℕ
  pub solicited : Bool
  pub invalidate : Option ℕ

-- those among the messages
abbrev pub sends : List (Request (List ℕ)) → List Whole
sends [] = []
sends (Message (Write stag to octets) ∷ ms) = sends ms
sends (Message (Send octets solicited invalidate) ∷ ms) =
    record { octets = octets; solicited = solicited; invalidate = option_map number_of invalidate } ∷ sends ms
sends (Read request ∷ ms) = sends ms

-- whether a Send is solicited, and whether it has an STag to invalidate; nothing else has either
abbrev pub is_solicited : Option UntaggedOperation → Bool
is_solicited (Some (untagged.Send solicited invalidates)) = solicited
is_solicited (Some untagged.ReadRequest) = false
is_solicited (Some untagged.Terminate) = false
is_solicited None = false

abbrev pub is_invalidating : Option UntaggedOperation → Bool
is_invalidating (Some (untagged.Send solicited invalidates)) = invalidates
is_invalidating (Some untagged.ReadRequest) = false
is_invalidating (Some untagged.Terminate) = false
is_invalidating None = false

-- the Send that a last segment completes, by its operation and its tail (RFC 5040 4.1)
abbrev pub completed : UntaggedHead → List ℕ → Whole
completed head octets = record {
  octets = octets;
  solicited = is_solicited (untagged_operation (opcode_of head.control));
  invalidate = if is_invalidating (untagged_operation (opcode_of head.control)) then Some head.tail else None;
}

-- the Sends that segments complete, `sofar` being the octets that came before of the one that was begun
abbrev pub joined : List ℕ → List (Segment (List ℕ)) → List Whole
joined sofar [] = []
joined sofar (Tagged head octets ∷ ss) = joined sofar ss
joined sofar (Untagged head octets ∷ ss) =
    if head.queue == 0 then (if head.last then completed head (sofar ++ octets) ∷ joined [] ss else joined (sofar ++ octets) ss)
    else joined sofar ss

-- ---- Writes
-- an octet at a place of a region, which is named by the number of its STag
pub record Cell : Type 0 where
  pub stag : ℕ
  pub to : ℕ
  pub octet : ℕ

abbrev pub one_if : Bool → ℕ
one_if true = 1
one_if false = 0

-- how often a cell is among octets from a tagged offset on, modulo 2^64
abbrev pub count_from : Cell → ℕ → List ℕ → ℕ
count_from c to [] = 0
count_from c to (x ∷ xs) = one_if ((to % 2 ^ 64 == c.to) && (x == c.octet)) + count_from c (to + 1) xs

abbrev pub count_in : Cell → Stag → ℕ → List ℕ → ℕ
count_in c stag to octets = if number_of stag == c.stag then count_from c to octets else 0

-- how often it is among the Writes of these messages
abbrev pub count_writes : Cell → List (Request (List ℕ)) → ℕ
count_writes c [] = 0
count_writes c (Message (Write stag to octets) ∷ ms) = count_in c stag to octets + count_writes c ms
count_writes c (Message (Send octets solicited invalidate) ∷ ms) = count_writes c ms
count_writes c (Read request ∷ ms) = count_writes c ms

-- how often it is among the Writes before the Send that has k Sends before it
abbrev pub count_before : Cell → ℕ → List (Request (List ℕ)) → ℕ
count_before c k [] = 0
count_before c k (Message (Write stag to octets) ∷ ms) = count_in c stag to octets + count_before c k ms
count_before c k (Read request ∷ ms) = count_before c k ms
count_before c zero (Message (Send octets solicited invalidate) ∷ ms) = 0
count_before c (suc k) (Message (Send octets solicited invalidate) ∷ ms) = count_before c k ms

-- how often it is among the octets of the Writes' segments
abbrev pub count_segments : Cell → List (Segment (List ℕ)) → ℕ
count_segments c [] = 0
count_segments c (Tagged head octets ∷ ss) = (if opcode_of head.control == tagged_opcode tagged.Write then count_in c head.stag head.to octets else 0) + count_segments c ss
count_segments c (Untagged head octets ∷ ss) = count_segments c ss
