use Rattle.iw_schedules.proofs.ScheduleLaws.{one_list}
use Rattle.iw_schedules.proofs.laws.schedules_are_clear.Goals as goal

pub returns : goal.returns
returns c = one_list
