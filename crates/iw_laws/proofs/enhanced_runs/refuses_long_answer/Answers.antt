use Rattle.iw_laws.proofs.RefusedEnhanced.{refuses_long_answer}
use Rattle.iw_laws.proofs.enhanced_runs.refuses_long_answer.Goals as goal

pub returns : goal.returns
returns c = refuses_long_answer
