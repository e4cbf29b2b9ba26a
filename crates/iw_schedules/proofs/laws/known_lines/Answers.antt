use Rattle.iw_schedules.proofs.KnownLaws.{known}
use Rattle.iw_schedules.proofs.laws.known_lines.Goals as goal

pub returns : goal.returns
returns c = known
