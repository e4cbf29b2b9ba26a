-- What callers ask of a segment that was judged.
use Rattle.std.specs.Prelude.{ℕ, Bool, true, false}
use Rattle.iw_rdmap.specs.declared.head.Head.{Head}
use Rattle.iw_rdmap.specs.declared.head.Head.TheVariants.{Write, Response, Send, Request, Terminate}

-- the octets of its DDP header (RFC 5041 4.2, 4.3)
abbrev pub header_octets : Head → ℕ
header_octets (Write head) = 14
header_octets (Response head) = 14
header_octets (Send head) = 18
header_octets (Request head request) = 18
header_octets (Terminate head word) = 18

-- and with a Read Request's own header after it (RFC 5040 4.4)
abbrev pub headers_octets : Head → ℕ
headers_octets (Write head) = 14
headers_octets (Response head) = 14
headers_octets (Send head) = 18
headers_octets (Request head request) = 46
headers_octets (Terminate head word) = 18

abbrev pub is_request : Head → Bool
is_request (Write head) = false
is_request (Response head) = false
is_request (Send head) = false
is_request (Request head request) = true
is_request (Terminate head word) = false

-- what is placed before the segments in front of it have come: its header names the place of its payload, in a region or in a receive buffer
-- (RFC 5041 5.3, RFC 5040 5.5)
abbrev pub is_early : Head → Bool
is_early (Write head) = true
is_early (Response head) = true
is_early (Send head) = true
is_early (Request head request) = false
is_early (Terminate head word) = false
