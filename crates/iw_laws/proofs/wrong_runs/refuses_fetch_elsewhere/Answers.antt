use Rattle.iw_laws.proofs.RefusedReads.{refuses_fetch_elsewhere}
use Rattle.iw_laws.proofs.wrong_runs.refuses_fetch_elsewhere.Goals as goal

pub returns : goal.returns
returns c = refuses_fetch_elsewhere
