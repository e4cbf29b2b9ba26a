use Rattle.iw_laws.proofs.RefusedWrap.{refuses_misnumbered}
use Rattle.iw_laws.proofs.wrong_runs.refuses_misnumbered.Goals as goal

pub returns : goal.returns
returns c = refuses_misnumbered
