use Rattle.iw_laws.proofs.RefusedRest.{knows_sent_whole}
use Rattle.iw_laws.proofs.rest_runs.knows_sent_whole.Goals as goal

pub returns : goal.returns
returns c = knows_sent_whole
