use Rattle.iw_laws.proofs.Refused.{refuses_other_octets}
use Rattle.iw_laws.proofs.wrong_runs.refuses_other_octets.Goals as goal

pub returns : goal.returns
returns c = refuses_other_octets
