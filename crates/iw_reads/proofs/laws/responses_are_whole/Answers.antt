use Rattle.iw_reads.proofs.Responses.{responses-whole}
use Rattle.iw_reads.proofs.laws.responses_are_whole.Goals as goal

pub returns : goal.returns
returns c = responses-whole
