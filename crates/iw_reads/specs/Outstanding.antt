-- The outstanding Reads of this end: the request was sent, and the last segment of the response had no turn yet.
use Rattle.std.specs.Prelude.{ℕ, ◌≡◌, ◌+◌, ◌-◌, ◌%◌, ◌^◌, ◌<◌, ◌≤◌, ◌==◌, ◌&&◌, ◌||◌, Bool, not, nat_le, List, [], ◌∷◌, ◌++◌, length, drop, All, if◌then◌else◌, Option, Some, None}
use Rattle.std.specs.List.{list_any}
use Rattle.iw_octets.specs.declared.constants.TheConstants.{MAX_UNANSWERED}
use Rattle.iw_octets.specs.declared.fault.Fault.{Fault}
use Rattle.iw_octets.specs.declared.fault.TheConstants.Fault as faults
use Rattle.iw_octets.specs.declared.head.TaggedHead.{TaggedHead}
use Rattle.iw_octets.specs.declared.payload.ReadRequest.{ReadRequest}
use Rattle.iw_octets.specs.declared.stag.Stag.{Stag}
use Rattle.iw_reads.specs.declared.reads.Outstanding.{Outstanding}

-- ---- a request is sent

-- how many may be outstanding
abbrev pub most_reads : ℕ
most_reads = MAX_UNANSWERED

-- the Read is outstanding after the others, and nothing of its response had its turn
abbrev pub asked_for : List Outstanding → Option ℕ → ReadRequest → List Outstanding
asked_for reads ticket request = reads ++ record { ticket = ticket; request = request; turned = 0 } ∷ []

-- ---- a segment of a response is to be placed

abbrev pub same_stag : Stag → Stag → Bool
same_stag a b = (a.domain == b.domain) && (a.slot == b.slot) && (a.key == b.key)

-- how far a tagged offset lies past the sink's first, modulo 2^64
abbrev pub sink_offset : ReadRequest → ℕ → ℕ
sink_offset request to = (to + (2 ^ 64 - request.sink_to)) % 2 ^ 64

-- the n octets from a tagged offset on lie inside the sink of the Read; no octets lie inside at any offset
abbrev pub is_inside : ReadRequest → ℕ → ℕ → Bool
is_inside request to n = (n == 0) || nat_le (sink_offset request to + n) request.size

-- the Read asked for what the segment brings, its payload having n octets
abbrev pub asks_for : TaggedHead → ℕ → Outstanding → Bool
asks_for head n read = same_stag read.request.sink head.stag && is_inside read.request head.to n

-- some Read did
abbrev pub is_asked : List Outstanding → TaggedHead → ℕ → Bool
is_asked reads head n = list_any (asks_for head n) reads

-- a response that was not asked for is unexpected (RFC 5040 4.8, 5.2.2)
abbrev pub sink_fault : List Outstanding → TaggedHead → ℕ → Option Fault
sink_fault reads head n = if is_asked reads head n then None else Some faults.OPERATION_UNEXPECTED

-- ---- a segment of a response that was placed has its turn

-- the tagged offset at which the response of the Read goes on
abbrev pub next_offset : Outstanding → ℕ
next_offset read = (read.request.sink_to + read.turned) % 2 ^ 64

-- it goes on with the segment: from that offset, not past the size, and to its end only if the size is reached
abbrev pub goes_on : Outstanding → TaggedHead → ℕ → Bool
goes_on read head n =
    same_stag read.request.sink head.stag
    && (head.to == next_offset read)
    && nat_le (read.turned + n) read.request.size
    && (not head.last || (read.turned + n == read.request.size))

-- responses come in the order of the requests (RFC 5040 5.2.2): that of the oldest Read goes on with the segment
abbrev pub response_turn_fault : List Outstanding → TaggedHead → ℕ → Option Fault
response_turn_fault [] head n = Some faults.PROTECTION_BOUNDS
response_turn_fault (read ∷ reads) head n = if goes_on read head n then None else Some faults.PROTECTION_BOUNDS

-- n octets more of the oldest had their turn; the last segment ends it
abbrev pub reads_turned : List Outstanding → TaggedHead → ℕ → List Outstanding
reads_turned [] head n = []
reads_turned (read ∷ reads) head n = if head.last then reads else record read { turned = read.turned + n } ∷ reads

-- the ticket of the Read that the segment ends, if it ends one that has a ticket
abbrev pub finished_read : List Outstanding → TaggedHead → Option ℕ
finished_read [] head = None
finished_read (read ∷ reads) head = if head.last then read.ticket else None

-- ---- limits

-- no more had their turn than were asked for, and only of the oldest's
pub record HoldsLimits (reads : List Outstanding) : Type 0 where
  pub few : length reads ≤ most_reads
  pub within : All (λ read. read.turned ≤ read.request.size) reads
  pub in_order : All (λ read. read.turned ≡ 0) (drop 1 reads)

-- they keep the limits, and if there are any, there are places for as many as may be outstanding
pub record HasPlaces (reads : List Outstanding) (capacity : ℕ) : Type 0 where
  pub limits : HoldsLimits reads
  pub places : 0 < length reads → most_reads ≤ capacity
