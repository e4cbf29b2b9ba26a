use Rattle.iw_laws.proofs.RefusedReads.{refuses_write_twice}
use Rattle.iw_laws.proofs.wrong_runs.refuses_write_twice.Goals as goal

pub returns : goal.returns
returns c = refuses_write_twice
