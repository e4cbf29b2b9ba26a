use Rattle.iw_laws.proofs.RefusedEnhanced.{refuses_read_past_ord}
use Rattle.iw_laws.proofs.enhanced_runs.refuses_read_past_ord.Goals as goal

pub returns : goal.returns
returns c = refuses_read_past_ord
