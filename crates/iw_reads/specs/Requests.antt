-- The Read Requests of the peer: which is due, and which wait for their responses.
use Rattle.std.specs.Prelude.{ℕ, ◌≡◌, ◌+◌, ◌-◌, ◌%◌, ◌^◌, ◌<◌, ◌≤◌, List, [], ◌∷◌, ◌++◌, length, drop, slice_get, All, if◌then◌else◌, Option, Some, None}
use Rattle.std.specs.Option.{option_map_or}
use Rattle.iw_octets.specs.declared.constants.TheConstants.{MAX_UNANSWERED, TAGGED_HEADER}
use Rattle.iw_octets.specs.Parts.{part_at}
use Rattle.iw_octets.specs.Payload.{request_octets}
use Rattle.iw_reads.specs.declared.requests.Asked.{Asked}
use Rattle.iw_reads.specs.declared.response.ResponsePart.{ResponsePart}
use Rattle.iw_reads.specs.Response.{part_of_response}
use Rattle.iw_reads.specs.Source.{IsInRange}

pub record Requested : Type 0 where
  pub next : ℕ  -- the message sequence number of the request that is due, on queue number 1
  pub unanswered : List Asked  -- those whose responses were not fetched to their end, oldest first
  pub fetched : ℕ  -- octets fetched for the oldest of them

-- the first message of a queue has the number 1 (RFC 5041 4.3)
abbrev pub nothing_asked : Requested
nothing_asked = record { next = 1; unanswered = []; fetched = 0 }

-- the request waits after the others, and the next one is due
abbrev pub taken_up : Requested → Asked → Requested
taken_up s asked = record s { next = (s.next + 1) % 2 ^ 32; unanswered = s.unanswered ++ asked ∷ [] }

-- the part of a response that is next, if a ULPDU may have `max` octets
abbrev pub part_for : List Asked → ℕ → ℕ → Option ResponsePart
part_for [] fetched max = None
part_for (asked ∷ beyond) fetched max =
    Some (part_of_response asked.request (part_at asked.request.size (max - TAGGED_HEADER) fetched))

-- requests are answered in the order in which they came (RFC 5040 5.2.2)
abbrev pub response_part : Requested → ℕ → Option ResponsePart
response_part s max = part_for s.unanswered s.fetched max

-- what is left to be fetched after this part; the last part answers the oldest request
abbrev pub part_fetched : Requested → Option ResponsePart → Requested
part_fetched s None = s
part_fetched s (Some part) =
    if part.head.last then record s { unanswered = drop 1 s.unanswered; fetched = 0 }
    else record s { fetched = s.fetched + part.n }

-- the headers of a request: DDP's, as it came, and the Read Request's after it
abbrev pub headers_of : Asked → List ℕ
headers_of asked = asked.header.items ++ request_octets asked.request

-- those of the oldest request; no octets if none waits
abbrev pub oldest_headers : Requested → List ℕ
oldest_headers s = option_map_or headers_of (slice_get s.unanswered 0) []

-- ---- limits

-- of a response that was begun octets are left
abbrev pub IsBegun : List Asked → ℕ → Type 0
IsBegun [] fetched = fetched ≡ 0
IsBegun (asked ∷ beyond) fetched = 0 < fetched → fetched < asked.request.size

pub record HoldsLimits (s : Requested) : Type 0 where
  pub few : length s.unanswered ≤ MAX_UNANSWERED
  pub next : s.next < 2 ^ 32
  pub headers : All (λ asked. length asked.header.items ≡ 18) s.unanswered
  pub ranges : All (λ asked. IsInRange asked.request) s.unanswered
  pub begun : IsBegun s.unanswered s.fetched
