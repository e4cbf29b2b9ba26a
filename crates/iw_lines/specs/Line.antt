-- What waits at one stream.
use Rattle.std.specs.Prelude.{ℕ, Bool, true, false, List, [], drop, slice_index_or, if◌then◌else◌}
use Rattle.iw_lines.specs.declared.handed.Handed.{Handed}
use Rattle.iw_lines.specs.declared.line.Line.{Line}
use Rattle.iw_lines.specs.Handed.{nothing_handed}
use Rattle.iw_lines.specs.Waiting.{pushed}
use Rattle.iw_lines.specs.Slow.{none_counted, with_dropped, with_tried}

-- nothing was handed back, nothing is posted, and nothing was counted
abbrev pub new_line : Line
new_line = record {
  handed = nothing_handed;
  tokens = [];
  from_buffer = [];
  payloads = [];
  sent = [];
  slow = none_counted;
}

abbrev pub with_handed : Line → Handed → Line
with_handed line handed = record line { handed = handed }

abbrev pub with_tokens : Line → List ℕ → Line
with_tokens line tokens = record line { tokens = tokens }

abbrev pub with_flags : Line → List Bool → Line
with_flags line flags = record line { from_buffer = flags }

abbrev pub with_payloads : Line → List (List ℕ) → Line
with_payloads line payloads = record line { payloads = payloads }

abbrev pub with_token : Line → ℕ → Line
with_token line token = with_tokens line (pushed line.tokens token)

abbrev pub with_flag : Line → Bool → Line
with_flag line flag = with_flags line (pushed line.from_buffer flag)

abbrev pub with_octets : Line → List ℕ → Line
with_octets line octets = with_payloads line (pushed line.payloads octets)

-- a message is posted, which the program knows by this token
abbrev pub with_posted : Line → ℕ → Line
with_posted line token = with_flag (with_token line token) false

-- the same from a buffer, which had these octets
abbrev pub with_payload : Line → ℕ → List ℕ → Line
with_payload line token octets = with_octets (with_flag (with_token line token) true) octets

-- the token of the message that was posted first; 0 if none is posted
abbrev pub oldest_token : Line → ℕ
oldest_token line = slice_index_or line.tokens 0 0

-- whether that message was posted from a buffer
abbrev pub is_from_buffer : Line → Bool
is_from_buffer line = slice_index_or line.from_buffer 0 false

-- the octets of the first message that was
abbrev pub oldest_payload : Line → List ℕ
oldest_payload line = slice_index_or line.payloads 0 []

abbrev pub without_token : Line → Line
without_token line = with_tokens line (drop 1 line.tokens)

abbrev pub without_flag : Line → Line
without_flag line = with_flags line (drop 1 line.from_buffer)

abbrev pub without_payload : Line → Line
without_payload line = with_payloads line (drop 1 line.payloads)

-- these octets are to be fetched, in place of those that were
abbrev pub with_sent : Line → List ℕ → Line
with_sent line octets = record line { sent = octets }

-- the message that was posted first is done or given up: its octets are to be fetched if it was posted from a buffer
abbrev pub without_oldest : Line → Line
without_oldest line =
    let rest = without_flag (without_token line) in
    if is_from_buffer line then with_sent (without_payload rest) (oldest_payload line) else with_sent rest []

-- a delivery was dropped at the stream
abbrev pub counted_dropped : Line → Line
counted_dropped line = record line { slow = with_dropped line.slow }

-- a frame of it was judged before its turn
abbrev pub counted_tried : Line → Line
counted_tried line = record line { slow = with_tried line.slow }
