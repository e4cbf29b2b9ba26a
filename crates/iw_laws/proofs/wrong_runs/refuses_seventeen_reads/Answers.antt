use Rattle.iw_laws.proofs.RefusedReads.{refuses_seventeen_reads}
use Rattle.iw_laws.proofs.wrong_runs.refuses_seventeen_reads.Goals as goal

pub returns : goal.returns
returns c = refuses_seventeen_reads
