use Rattle.std.proofs.Common.{◌≤◌, ◌<◌, length}
use Rattle.iw_commands.proofs.pairing.drain.Given as goal

abbrev pub invariant-reads : goal.invariant-reads
invariant-reads g l = (l.pipe.reads ≤ 1000000) × (0 < length l.buffer)
