-- What holds of the definitions alone.
use Rattle.std.specs.Prelude.{ℕ, ◌≡◌, ◌↔◌, ◌⊎◌, ◌+◌, ◌-◌, ◌<◌, ◌≤◌, ◌^◌, true, false, List, [], ◌∷◌, ◌++◌, length, take, drop, map, slice_get, Any, Some, None, IsSomeAnd}
use Rattle.std.specs.List.{flat_map}
use Rattle.iw_octets.specs.declared.head.TaggedHead.{TaggedHead}
use Rattle.iw_octets.specs.declared.payload.ReadRequest.{ReadRequest}
use Rattle.iw_octets.specs.declared.stag.Stag.{Stag}
use Rattle.iw_octets.specs.Parts.{part_at, parts_from}
use Rattle.iw_memory.specs.declared.peer.Peer.{Peer}
use Rattle.iw_memory.specs.Table.{Table}
use Rattle.iw_reads.specs.declared.reads.Outstanding.{Outstanding}
use Rattle.iw_reads.specs.declared.requests.Asked.{Asked}
use Rattle.iw_reads.specs.declared.response.ResponsePart.{ResponsePart}
use Rattle.iw_reads.specs.Outstanding.{sink_offset, sink_fault, next_offset, response_turn_fault}
use Rattle.iw_reads.specs.Requests.{Requested, IsBegun, taken_up, response_part, part_fetched}
use Rattle.iw_reads.specs.Response.{part_of_response, response_parts, fetch_fault}
use Rattle.iw_reads.specs.Source.{source_fault}

-- ---- at the end that is asked

-- the octets of the part among all that were asked for
abbrev pub octets_of : ReadRequest → List ℕ → ResponsePart → List ℕ
octets_of request source part = take part.n (drop (part.to - request.source_to) source)

-- the parts of a response are all octets that were asked for, in order
abbrev pub ResponsesAreWhole : Type 0
ResponsesAreWhole = (request : ReadRequest) (max : ℕ) (source : List ℕ) → 14 < max → length source ≡ request.size →
    flat_map (octets_of request source) (response_parts request max) ≡ source

-- what is left of a response from an offset on
abbrev pub parts_left : ReadRequest → ℕ → ℕ → List ResponsePart
parts_left request offset max = map (part_of_response request) (parts_from offset (request.size - offset) (max - 14))

-- what is to be fetched for all requests, if a ULPDU may have `max` octets: the responses, one after the other
abbrev pub to_fetch_for : List Asked → ℕ → ℕ → List ResponsePart
to_fetch_for [] fetched max = []
to_fetch_for (asked ∷ beyond) fetched max =
    parts_left asked.request fetched max ++ flat_map (λ later. response_parts later.request max) beyond

abbrev pub to_fetch : Requested → ℕ → List ResponsePart
to_fetch s max = to_fetch_for s.unanswered s.fetched max

-- responses are fetched part by part, whole, in the order of the requests; there is no next part only if all are answered
pub record AnswersInOrder : Type 0 where
  pub fetched : (s : Requested) (max : ℕ) (part : ResponsePart) → 14 < max → response_part s max ≡ Some part →
      to_fetch s max ≡ part ∷ to_fetch (part_fetched s (Some part)) max
  pub taken : (s : Requested) (max : ℕ) (asked : Asked) → IsBegun s.unanswered s.fetched →
      to_fetch (taken_up s asked) max ≡ to_fetch s max ++ response_parts asked.request max
  pub done : (s : Requested) (max : ℕ) → response_part s max ≡ None → s.unanswered ≡ []

-- if all octets that were asked for may be read, each part may be
abbrev pub PartsMayBeFetched : Type 0
PartsMayBeFetched = (table : Table) (peer : Peer) (request : ReadRequest) (max offset : ℕ) →
    14 < max → offset ≤ request.size → source_fault table peer request ≡ None →
    fetch_fault table peer (part_of_response request (part_at request.size (max - 14) offset)) ≡ None

-- ---- at the end that asked

-- the part of its response that goes on with the oldest Read is placed in its sink, and passes its turn
abbrev pub AnswersAreAskedFor : Type 0
AnswersAreAskedFor = (read : Outstanding) (reads : List Outstanding) (max : ℕ) →
    14 < max → read.turned ≤ read.request.size → read.request.sink_to < 2 ^ 64 → read.request.size < 2 ^ 32 →
    let part = part_of_response read.request (part_at read.request.size (max - 14) read.turned) in
    (sink_fault (read ∷ reads) part.head part.n ≡ None) × (response_turn_fault (read ∷ reads) part.head part.n ≡ None)

-- the Read asked for the n octets after this header
pub record AskedFor (head : TaggedHead) (n : ℕ) (read : Outstanding) : Type 0 where
  pub stag : read.request.sink ≡ head.stag
  pub inside : (n ≡ 0) ⊎ (sink_offset read.request head.to + n ≤ read.request.size)

-- the response of the Read goes on with them
pub record GoesOn (head : TaggedHead) (n : ℕ) (read : Outstanding) : Type 0 where
  pub stag : read.request.sink ≡ head.stag
  pub to : head.to ≡ next_offset read
  pub within : read.turned + n ≤ read.request.size
  pub ends : head.last ≡ true → read.turned + n ≡ read.request.size

-- some Read asked for what is placed; the response of the oldest goes on with what has its turn
pub record ChecksTell : Type 0 where
  pub placed : (reads : List Outstanding) (head : TaggedHead) (n : ℕ) →
      (sink_fault reads head n ≡ None) ↔ Any (AskedFor head n) reads
  pub turned : (reads : List Outstanding) (head : TaggedHead) (n : ℕ) →
      (response_turn_fault reads head n ≡ None) ↔ IsSomeAnd (slice_get reads 0) (GoesOn head n)

-- ---- worked by hand

abbrev pub first_stag : Stag
first_stag = record { domain = 1; slot = 0; key = 0 }

-- so many octets from tagged offset 1 on, for the sink from this tagged offset on
abbrev pub asking : ℕ → ℕ → ReadRequest
asking size sink_to = record { sink = first_stag; sink_to = sink_to; size = size; source = first_stag; source_to = 1 }

-- a part of n octets from tagged offset `from` on, for the sink from `to` on; RDMAP's octet of its header is 42
abbrev pub worked_part : ℕ → ℕ → ℕ → ResponsePart
worked_part from to n = record {
  head = record { last = true; ddp_version = 1; control = 0x42; stag = first_stag; to = to };
  stag = first_stag;
  to = from;
  n = n;
}

-- the same, with others after it
abbrev pub worked_front : ℕ → ℕ → ℕ → ResponsePart
worked_front from to n = record {
  head = record { last = false; ddp_version = 1; control = 0x42; stag = first_stag; to = to };
  stag = first_stag;
  to = from;
  n = n;
}

pub record KnownResponses : Type 0 where
  pub one : response_parts (asking 4 100) 1400 ≡ worked_part 1 100 4 ∷ []
  pub two : response_parts (asking 119 0) 128 ≡ worked_front 1 0 114 ∷ worked_part 115 114 5 ∷ []
  pub empty : response_parts (asking 0 7) 128 ≡ worked_part 1 7 0 ∷ []
  pub wraps : response_parts (asking 119 (2 ^ 64 - 100)) 128 ≡ worked_front 1 (2 ^ 64 - 100) 114 ∷ worked_part 115 14 5 ∷ []
