use Rattle.iw_laws.proofs.RefusedEnhanced.{refuses_read_posted}
use Rattle.iw_laws.proofs.enhanced_runs.refuses_read_posted.Goals as goal

pub returns : goal.returns
returns c = refuses_read_posted
