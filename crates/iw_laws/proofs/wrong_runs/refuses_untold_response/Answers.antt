use Rattle.iw_laws.proofs.RefusedReads.{refuses_untold_response}
use Rattle.iw_laws.proofs.wrong_runs.refuses_untold_response.Goals as goal

pub returns : goal.returns
returns c = refuses_untold_response
