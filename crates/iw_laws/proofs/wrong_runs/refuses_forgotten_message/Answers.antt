use Rattle.iw_laws.proofs.RefusedEnds.{refuses_forgotten_message}
use Rattle.iw_laws.proofs.wrong_runs.refuses_forgotten_message.Goals as goal

pub returns : goal.returns
returns c = refuses_forgotten_message
