use Rattle.iw_laws.proofs.RefusedRtr.{refuses_rtr_overtaken}
use Rattle.iw_laws.proofs.enhanced_runs.refuses_rtr_overtaken.Goals as goal

pub returns : goal.returns
returns c = refuses_rtr_overtaken
