use Rattle.std.proofs.Common.{◌≤◌, length, take}
use Rattle.std.specs.Io.KnownBytes.{Appends}
use Rattle.iw_output.proofs.write_octets.Given as goal

abbrev pub invariant-writes : goal.invariant-writes
invariant-writes g l = (l.written ≤ length l.octets) × Appends (g.W.Write.contents l.fn.output) (g.W.Write.contents l.output) (take l.written l.octets)
