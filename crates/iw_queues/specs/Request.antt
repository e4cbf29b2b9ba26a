-- What is posted: a Write, a Send or a Read.
use Rattle.std.specs.Prelude.{ℕ, List, [], length}
use Rattle.iw_octets.specs.declared.message.Message.TheVariants.{Write, Send}
use Rattle.iw_queues.specs.declared.request.Request.{Request}
use Rattle.iw_queues.specs.declared.request.Request.TheVariants.{Message, Read}
use Rattle.iw_queues.specs.declared.request.Kind.{Kind}
use Rattle.iw_queues.specs.declared.request.Kind.TheVariants as kinds

abbrev pub kind_of : Request (List ℕ) → Kind
kind_of (Message (Write stag to octets)) = kinds.Write
kind_of (Message (Send octets solicited invalidate)) = kinds.Send
kind_of (Read request) = kinds.Read

-- the octets that are sent with it; a Read has none
abbrev pub payload : Request (List ℕ) → List ℕ
payload (Message (Write stag to octets)) = octets
payload (Message (Send octets solicited invalidate)) = octets
payload (Read request) = []

-- how many octets it moves
abbrev pub size_of : Request (List ℕ) → ℕ
size_of (Message (Write stag to octets)) = length octets
size_of (Message (Send octets solicited invalidate)) = length octets
size_of (Read request) = request.size

-- how many octets the header of each of its parts has: tagged, or untagged (RFC 5041 4.2, 4.3)
abbrev pub header_len : Request (List ℕ) → ℕ
header_len (Message (Write stag to octets)) = 14
header_len (Message (Send octets solicited invalidate)) = 18
header_len (Read request) = 18
