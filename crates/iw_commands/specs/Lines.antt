-- The lines that are printed for connections.
use Rattle.std.specs.Prelude.{ℕ, Bool, List, [], ◌∷◌, ◌++◌, ◌+◌, Option, None, Some, codes, if◌then◌else◌}
use Rattle.std.specs.Fmt.{decimal}
use Rattle.hex.specs.Hex.{encode_lower}
use Rattle.iw_octets.specs.declared.fault.Fault.{Fault}
use Rattle.iw_startup.specs.declared.progress.StartupFault.{StartupFault}
use Rattle.iw_startup.specs.declared.progress.StartupFault.TheVariants.{BadKey, BadRev, BadLength, Rejected}
use Rattle.iw_links.specs.declared.report.Ended.{Ended}
use Rattle.iw_links.specs.declared.report.Ended.TheVariants as ends
use Rattle.iw_links.specs.declared.report.Report.{Report}

-- octets as hexadecimal digits in lower case, or `-` for none
abbrev pub octets_text : List ℕ → List ℕ
octets_text [] = codes "-"
octets_text (octet ∷ octets) = encode_lower (octet ∷ octets)

-- layer, type and code
abbrev pub fault_text : Fault → List ℕ
fault_text fault = decimal fault.layer ++ (codes " " ++ (decimal fault.kind ++ (codes " " ++ decimal fault.code)))

-- the number and the name of a fault in the peer's start-up frame
abbrev pub startup_text : StartupFault → List ℕ
startup_text BadKey = codes "1 BadKey"
startup_text BadRev = codes "2 BadRev"
startup_text BadLength = codes "3 BadLength"
startup_text Rejected = codes "4 Rejected"

-- how a stream ended
abbrev pub end_text : Ended → List ℕ
end_text (ends.Fault fault) = codes "fault " ++ fault_text fault
end_text (ends.Terminated fault) = codes "terminated " ++ fault_text fault
end_text (ends.Closed fault) = codes "closed " ++ startup_text fault

-- a line about a stream
unfoldable pub line : ℕ → List ℕ → List ℕ
line stream words = codes "stream " ++ (decimal stream ++ (codes " " ++ (words ++ codes "\n")))

-- what was received
abbrev pub received_line : ℕ → Option (List ℕ) → List ℕ
received_line stream None = []
received_line stream (Some octets) = line stream (codes "received " ++ octets_text octets)

-- how the stream ended
abbrev pub end_line : ℕ → Option Ended → List ℕ
end_line stream None = []
end_line stream (Some end) = line stream (end_text end)

-- that the link broke
abbrev pub broken_line : ℕ → Bool → List ℕ
broken_line stream broken = if broken then line stream (codes "broken") else []

-- the lines of a connection
unfoldable pub lines : ℕ → Report → List ℕ
lines stream report =
    (received_line stream report.received ++ end_line stream report.ended) ++ broken_line stream report.broken

-- the lines of connections one after the other; the first has this stream number
abbrev pub lines_from : ℕ → List Report → List ℕ
lines_from stream [] = []
lines_from stream (report ∷ reports) = lines stream report ++ lines_from (1 + stream) reports
