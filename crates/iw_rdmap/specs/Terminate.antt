-- The payload of a Terminate: which fault ended the stream, and what of the segment that had it comes with it (RFC 5040 4.8).
use Rattle.std.specs.Prelude.{ℕ, ◌+◌, ◌<◌, ◌≤◌, ◌==◌, ◌&&◌, Bool, not, nat_lt, IsTrue, List, [], ◌++◌, length, take, drop, slice_index, if◌then◌else◌}
use Rattle.std.specs.Int.{w16, to_be_bytes}
use Rattle.iw_octets.specs.declared.fault.Fault.{Fault}
use Rattle.iw_octets.specs.declared.payload.TerminateWord.{TerminateWord}
use Rattle.iw_octets.specs.Head.{is_tagged}
use Rattle.iw_octets.specs.Payload.{word_octets}
use Rattle.iw_rdmap.specs.declared.head.Head.{Head}
use Rattle.iw_rdmap.specs.Head.{headers_octets, is_request}

-- the layer and the type fit the four bits that a Terminate has for each
pub record FitsFault (fault : Fault) : Type 0 where
  pub layer : fault.layer < 16
  pub kind : fault.kind < 16

-- a segment that is shorter than its header
abbrev pub is_short : Fault → Bool
is_short fault = (fault.layer == 1) && (fault.kind == 0) && (fault.code == 0)

-- the segment's length and its DDP header come with RDMAP's faults and DDP's, but for a segment that has no whole header
abbrev pub has_segment : Fault → Bool
has_segment fault = nat_lt fault.layer 2 && not (is_short fault)

-- its Read Request header comes too with RDMAP's remote protection errors of a Read Request
abbrev pub has_request : Fault → Bool → Bool
has_request fault request = request && (fault.layer == 0) && (fault.kind == 1)

abbrev pub word_for : Fault → Bool → TerminateWord
word_for fault request = record {
  layer = fault.layer;
  kind = fault.kind;
  code = fault.code;
  has_length = has_segment fault;
  has_ddp = has_segment fault;
  has_request = has_request fault request;
}

-- how many octets the DDP header of a segment has that begins with these (RFC 5041 4.2, 4.3)
abbrev pub header_len : List ℕ → ℕ
header_len first = if is_tagged (slice_index first 0) then 14 else 18

-- what comes with the fault is there
pub record HasCause (fault : Fault) (first : List ℕ) (request : Bool) : Type 0 where
  pub segment : IsTrue (has_segment fault) → header_len first ≤ length first
  pub request_header : IsTrue (has_request fault request) → header_len first + 28 ≤ length first

-- the headers of a segment that was judged are there, and so is what comes with whatever fault it is found to have later
pub record HasHeaders (head : Head) (first : List ℕ) : Type 0 where
  pub headers : headers_octets head ≤ length first
  pub cause : (fault : Fault) → HasCause fault first (is_request head)

-- the word, and what comes with the fault, its octets as they came: of a segment of `len` octets that begins with `first`
abbrev pub terminate_octets : Fault → List ℕ → ℕ → Bool → List ℕ
terminate_octets fault first len request =
    word_octets (word_for fault request)
    ++ (if has_segment fault then to_be_bytes w16 len ++ take (header_len first) first else [])
    ++ (if has_request fault request then take 28 (drop (header_len first) first) else [])
