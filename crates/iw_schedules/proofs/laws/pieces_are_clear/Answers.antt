use Rattle.iw_schedules.proofs.PieceLaws.{joined, free, only_so}
use Rattle.iw_schedules.proofs.laws.pieces_are_clear.Goals as goal

pub returns-clause-joined : goal.returns-clause-joined
returns-clause-joined c = joined

pub returns-clause-free : goal.returns-clause-free
returns-clause-free c = free

pub returns-clause-only_so : goal.returns-clause-only_so
returns-clause-only_so c = only_so
