-- How often a stream took a path that costs more than others and does not end it.
use Rattle.std.specs.Prelude.{ℕ, ◌+◌, ◌-◌, ◌^◌, min}
use Rattle.iw_lines.specs.declared.slow.SlowPaths.{SlowPaths}

abbrev pub none_counted : SlowPaths
none_counted = record { dropped = 0; tried = 0 }

-- one more; a count of 64 bits stops at its highest
abbrev pub one_more : ℕ → ℕ
one_more n = min (n + 1) (2 ^ 64 - 1)

-- a delivery was dropped
abbrev pub with_dropped : SlowPaths → SlowPaths
with_dropped slow = record slow { dropped = one_more slow.dropped }

-- a frame was judged before its turn
abbrev pub with_tried : SlowPaths → SlowPaths
with_tried slow = record slow { tried = one_more slow.tried }
