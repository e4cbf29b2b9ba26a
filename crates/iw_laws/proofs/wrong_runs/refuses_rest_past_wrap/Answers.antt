use Rattle.iw_laws.proofs.RefusedWrap.{refuses_rest_past_wrap}
use Rattle.iw_laws.proofs.wrong_runs.refuses_rest_past_wrap.Goals as goal

pub returns : goal.returns
returns c = refuses_rest_past_wrap
