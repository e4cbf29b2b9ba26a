use Rattle.iw_laws.proofs.RefusedReads.{refuses_sinks_unfetched}
use Rattle.iw_laws.proofs.wrong_runs.refuses_sinks_unfetched.Goals as goal

pub returns : goal.returns
returns c = refuses_sinks_unfetched
