use Rattle.iw_laws.proofs.RefusedEarly.{refuses_second_placement}
use Rattle.iw_laws.proofs.early_runs.refuses_second_placement.Goals as goal

pub returns : goal.returns
returns c = refuses_second_placement
