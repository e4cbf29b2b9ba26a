-- Structs that begin with their size, so that later versions can add to them.
use Rattle.std.specs.Prelude.{ℕ, ◌==◌, nat_lt, List, if◌then◌else◌, Option, None, Some}
use Rattle.iw_octets.specs.Stag.{stag_of}
use Rattle.iw_memory.specs.declared.region.Facts.{Facts}
use Rattle.iw_startup.specs.declared.config.PeerOptions.{PeerOptions}
use Rattle.iw_startup.specs.declared.enhanced.EnhancedData.{EnhancedData}
use Rattle.iw_queues.specs.declared.request.Request.{Request}
use Rattle.iw_endpoint.specs.Endpoint.{EndpointState}
use Rattle.iw_codes.specs.declared.numbers.TheConstants as numbers
use Rattle.iw_handle.specs.declared.refusal.Refusal.{Refusal}
use Rattle.iw_handle.specs.declared.refusal.Refusal.TheVariants.{BadStruct}
use Rattle.iw_handle.specs.declared.structs.Options.{Options}
use Rattle.iw_handle.specs.declared.structs.PeerTold.{PeerTold}
use Rattle.iw_handle.specs.declared.structs.Posting.{Posting}
use Rattle.iw_handle.specs.declared.structs.RegionTold.{RegionTold}
use Rattle.iw_handle.specs.declared.structs.TheConstants as sizes
use Rattle.iw_handle.specs.Events.{facts_of, peer_told}
use Rattle.iw_handle.specs.State.{first_of}
use Rattle.iw_handle.specs.Streams.{refusal_to_post, sent, write_of, read_of}
use Rattle.iw_handle.specs.Words.{bits_refusal, read_request}

-- a struct of `size` octets is shorter than that of the first version
abbrev pub struct_refusal : ℕ → ℕ → Option Refusal
struct_refusal first size = if nat_lt size first then Some BadStruct else None

-- ---- what is told

-- the facts of a region, in a struct of `size` octets
abbrev pub region_told : ℕ → Facts → RegionTold
region_told size facts =
    record { size = size; facts = facts_of facts; reserved_0 = 0; reserved_1 = 0; reserved_2 = 0; reserved_3 = 0 }

-- what the peer told in its start-up frame
abbrev pub peer_told_in : ℕ → Option PeerOptions → Option EnhancedData → PeerTold
peer_told_in size options word =
    record { size = size; told = peer_told options word; reserved_0 = 0; reserved_1 = 0; reserved_2 = 0; reserved_3 = 0 }

-- ---- options of a handle

-- no option has a bit yet
abbrev pub options_refusal : Options → Option Refusal
options_refusal options = first_of (struct_refusal sizes.OPTIONS_SIZE options.size) (bits_refusal 1 options.flags)

-- ---- postings

abbrev pub kind_refusal : ℕ → Option Refusal
kind_refusal kind =
    if kind == numbers.MESSAGE_WRITE then None
    else if kind == numbers.MESSAGE_SEND then None
    else if kind == numbers.MESSAGE_READ then None
    else Some BadStruct

-- a Send has a sum of 1 (solicited) and 2 (invalidates), and no other has flags
abbrev pub flags_refusal : ℕ → ℕ → Option Refusal
flags_refusal kind flags = bits_refusal (if kind == numbers.MESSAGE_SEND then 4 else 1) flags

-- what is wrong with the struct itself
abbrev pub posting_refusal : Posting → Option Refusal
posting_refusal p =
    first_of (struct_refusal sizes.POSTING_SIZE p.size) (first_of (kind_refusal p.kind) (flags_refusal p.kind p.flags))

-- a Read has no octets, which a buffer would have
abbrev pub read_refusal : ℕ → Option Refusal
read_refusal kind = if kind == numbers.MESSAGE_READ then Some BadStruct else None

abbrev pub posting_from_refusal : Posting → Option Refusal
posting_from_refusal p = first_of (posting_refusal p) (read_refusal p.kind)

-- the Read that it describes
abbrev pub read_in : Posting → Request (List ℕ)
read_in p = read_of (read_request p.sink p.sink_to p.len p.stag p.to)

-- the message that it describes, with these octets
abbrev pub request_of : Posting → List ℕ → Request (List ℕ)
request_of p octets =
    if p.kind == numbers.MESSAGE_WRITE then write_of (stag_of p.stag) p.to octets
    else if p.kind == numbers.MESSAGE_SEND then sent octets p.flags p.stag
    else read_in p

abbrev pub refusal_to_post_as : EndpointState → ℕ → Posting → List ℕ → Option Refusal
refusal_to_post_as e number p octets =
    first_of (posting_refusal p) (refusal_to_post e number (request_of p octets))

-- of a buffer's octets
abbrev pub refusal_to_post_from : EndpointState → ℕ → Posting → List ℕ → Option Refusal
refusal_to_post_from e number p octets =
    first_of (posting_from_refusal p) (refusal_to_post e number (request_of p octets))
