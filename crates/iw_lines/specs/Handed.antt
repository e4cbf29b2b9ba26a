-- What a step of work, or a call on a pool, hands back: a receive buffer.
use Rattle.std.specs.Prelude.{ℕ, List, [], length, take}
use Rattle.iw_lines.specs.declared.handed.Handed.{Handed}

-- nothing, or what was fetched
abbrev pub nothing_handed : Handed
nothing_handed = record { buffer = []; len = 0 }

-- a buffer, all of which is told
abbrev pub whole : List ℕ → Handed
whole buffer = record { buffer = buffer; len = length buffer }

-- the octets that are told
abbrev pub told_of : Handed → List ℕ
told_of handed = take handed.len handed.buffer
