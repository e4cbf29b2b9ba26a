use Rattle.iw_laws.proofs.RefusedWrap.{refuses_dropped_past_wrap}
use Rattle.iw_laws.proofs.wrong_runs.refuses_dropped_past_wrap.Goals as goal

pub returns : goal.returns
returns c = refuses_dropped_past_wrap
