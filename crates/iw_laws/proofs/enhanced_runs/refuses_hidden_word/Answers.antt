use Rattle.iw_laws.proofs.RefusedEnhanced.{refuses_hidden_word}
use Rattle.iw_laws.proofs.enhanced_runs.refuses_hidden_word.Goals as goal

pub returns : goal.returns
returns c = refuses_hidden_word
