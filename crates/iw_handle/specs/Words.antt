-- The meaning of the numbers that C passes.
use Rattle.std.specs.Prelude.{ℕ, ◌/◌, ◌%◌, ◌==◌, ◌&&◌, nat_lt, Bool, true, false, not, List, if◌then◌else◌, Option, None, Some, unwrap_or}
use Rattle.arrayvec.specs.ArrayVec.{ArrayVec}
use Rattle.iw_octets.specs.declared.stag.Stag.{Stag}
use Rattle.iw_octets.specs.declared.payload.ReadRequest.{ReadRequest}
use Rattle.iw_octets.specs.Stag.{stag_of}
use Rattle.iw_memory.specs.declared.rights.Rights.{Rights}
use Rattle.iw_startup.specs.declared.config.Establishment.{Establishment}
use Rattle.iw_startup.specs.declared.config.Establishment.TheVariants as establishments
use Rattle.iw_startup.specs.declared.config.Config.{Config}
use Rattle.iw_stream.specs.declared.answer.Role.{Role}
use Rattle.iw_stream.specs.declared.answer.Role.TheVariants.{Preset, Initiator, Responder}
use Rattle.iw_codes.specs.declared.numbers.TheConstants as numbers
use Rattle.iw_handle.specs.declared.refusal.Refusal.{Refusal}
use Rattle.iw_handle.specs.declared.refusal.Refusal.TheVariants.{BadRole, PrivateTooLong, BadBits}
use Rattle.iw_handle.specs.State.{first_of}

-- domains have the numbers 1 to 255: what is no octet names none, as 0 does
abbrev pub domain_number : ℕ → ℕ
domain_number n = if nat_lt n 256 then n else 0

-- whether a sum of powers of two has this power
abbrev pub has_bit : ℕ → ℕ → Bool
has_bit n bit = n / bit % 2 == 1

-- it is not a sum of powers of two below this one
abbrev pub bits_refusal : ℕ → ℕ → Option Refusal
bits_refusal bound n = if nat_lt n bound then None else Some BadBits

-- a sum of 1 (write), 2 (read), 4 (sink) and 8 (invalidate)
abbrev pub rights_of : ℕ → Rights
rights_of n =
    record { write = has_bit n numbers.WRITE; read = has_bit n numbers.READ; sink = has_bit n numbers.SINK; invalidate = has_bit n numbers.INVALIDATE }

-- 0 is open at once, 1 begins with the Request, 2 waits for it
abbrev pub role_of : ℕ → Option Role
role_of n =
    if n == numbers.PRESET then Some Preset
    else if n == numbers.INITIATOR then Some Initiator
    else if n == numbers.RESPONDER then Some Responder
    else None

abbrev pub role_in : ℕ → Role
role_in n = unwrap_or (role_of n) Preset

-- octets as private data
abbrev pub private_of : List ℕ → ArrayVec ℕ
private_of octets = record { items = octets }

-- 8 is the peer-to-peer model, 4 revision 2 of MPA
abbrev pub establishment_of : ℕ → Establishment
establishment_of options =
    if has_bit options numbers.PEER_TO_PEER then establishments.PeerToPeer
    else if has_bit options numbers.ENHANCED then establishments.Enhanced
    else establishments.Plain

-- a sum of 1 (markers are expected), 2 (CRCs), 4 and 8, with private data
abbrev pub config_of : ℕ → List ℕ → Config
config_of options private =
    record { markers = has_bit options numbers.MARKERS; crc = has_bit options numbers.CRC; establishment = establishment_of options; private = private_of private }

abbrev pub role_refusal : ℕ → Option Refusal
role_refusal n = if nat_lt 2 n then Some BadRole else None

abbrev pub private_refusal : ℕ → Option Refusal
private_refusal n = if nat_lt 512 n then Some PrivateTooLong else None

abbrev pub is_initiator : Role → Bool
is_initiator Preset = false
is_initiator Initiator = true
is_initiator Responder = false

-- an initiator asks for the peer-to-peer model, and by revision 2 alone (RFC 6581 9)
abbrev pub model_refusal : Role → ℕ → Option Refusal
model_refusal role options =
    if not (has_bit options numbers.PEER_TO_PEER) then None
    else if is_initiator role && has_bit options numbers.ENHANCED then None
    else Some BadBits

abbrev pub options_refusal : Role → ℕ → Option Refusal
options_refusal role options = first_of (bits_refusal 16 options) (model_refusal role options)

-- options, and so many octets of private data
abbrev pub config_refusal : Role → ℕ → ℕ → Option Refusal
config_refusal role options n = first_of (options_refusal role options) (private_refusal n)

-- the STag that a Send invalidates, if its flags, a sum of 1 (solicited) and 2 (invalidates), say so
abbrev pub invalidated_by : ℕ → ℕ → Option Stag
invalidated_by flags stag = if has_bit flags numbers.INVALIDATES then Some (stag_of stag) else None

-- the Read with these numbers
abbrev pub read_request : ℕ → ℕ → ℕ → ℕ → ℕ → ReadRequest
read_request sink sink_to size source source_to =
    record { sink = stag_of sink; sink_to = sink_to; size = size; source = stag_of source; source_to = source_to }
