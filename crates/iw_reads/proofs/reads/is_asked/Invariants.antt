use Rattle.std.proofs.Common.{◌≡◌, false, take}
use Rattle.std.specs.List.{list_any}
use Rattle.iw_reads.specs.Outstanding.{asks_for}
use Rattle.iw_reads.proofs.reads.is_asked.Given as goal

abbrev pub invariant-loop-read : goal.invariant-loop-read
invariant-loop-read l = list_any (asks_for l.head l.n) (take l.read-index l.reads) ≡ false
