-- The payloads of RDMAP's own: the Read Request, and the first word of a Terminate.
use Rattle.std.specs.Prelude.{ℕ, ◌+◌, ◌*◌, ◌/◌, ◌%◌, ◌<◌, ◌^◌, ◌==◌, Bool, List, [], ◌∷◌, ◌++◌, length, drop, slice_index, nat_lt, if◌then◌else◌, Option, Some, None}
use Rattle.std.specs.Int.{w32, w64, to_be_bytes}
use Rattle.iw_octets.specs.declared.payload.ReadRequest.{ReadRequest}
use Rattle.iw_octets.specs.declared.payload.TerminateWord.{TerminateWord}
use Rattle.iw_octets.specs.Stag.{spelled, stag_at, FitsStag}
use Rattle.iw_octets.specs.Head.{number_32, number_64}

unfoldable pub request_octets : ReadRequest → List ℕ
request_octets request =
    spelled request.sink ++ to_be_bytes w64 request.sink_to ++ to_be_bytes w32 request.size ++ spelled request.source ++ to_be_bytes w64 request.source_to

abbrev pub request_fields : List ℕ → ReadRequest
request_fields octets = record {
  sink = stag_at octets 0;
  sink_to = number_64 octets 4;
  size = number_32 octets 12;
  source = stag_at octets 16;
  source_to = number_64 octets 20;
}

-- the request at the front, and what stands past it; none where the octets are too few
unfoldable pub read_request : List ℕ → Option (ReadRequest × List ℕ)
read_request octets = if nat_lt (length octets) 28 then None else Some (request_fields octets, drop 28 octets)

-- the three flags, the highest bit first, and five reserved bits
abbrev pub flags_octet : Bool → Bool → Bool → ℕ
flags_octet has_length has_ddp has_request =
    (if has_length then 0x80 else 0) + (if has_ddp then 0x40 else 0) + (if has_request then 0x20 else 0)

unfoldable pub word_octets : TerminateWord → List ℕ
word_octets word = (word.layer * 16 + word.kind) ∷ word.code ∷ flags_octet word.has_length word.has_ddp word.has_request ∷ 0 ∷ []

abbrev pub word_fields : List ℕ → TerminateWord
word_fields octets = record {
  layer = slice_index octets 0 / 16;
  kind = slice_index octets 0 % 16;
  code = slice_index octets 1;
  has_length = slice_index octets 2 / 0x80 % 2 == 1;
  has_ddp = slice_index octets 2 / 0x40 % 2 == 1;
  has_request = slice_index octets 2 / 0x20 % 2 == 1;
}

-- the word at the front, and what stands past it; none where the octets are too few
unfoldable pub read_word : List ℕ → Option (TerminateWord × List ℕ)
read_word octets = if nat_lt (length octets) 4 then None else Some (word_fields octets, drop 4 octets)

-- the numbers fit their fields
pub record FitsRequest (request : ReadRequest) : Type 0 where
  pub sink : FitsStag request.sink
  pub sink_to : request.sink_to < 2 ^ 64
  pub size : request.size < 2 ^ 32
  pub source : FitsStag request.source
  pub source_to : request.source_to < 2 ^ 64

pub record FitsWord (word : TerminateWord) : Type 0 where
  pub layer : word.layer < 16
  pub kind : word.kind < 16
  pub code : word.code < 256
