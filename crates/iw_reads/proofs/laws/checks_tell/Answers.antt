use Rattle.iw_reads.proofs.Checks.{placed_tells, turned_tells}
use Rattle.iw_reads.proofs.laws.checks_tell.Goals as goal

pub returns : goal.returns
returns c = record { placed = placed_tells; turned = turned_tells }
