use Rattle.iw_laws.proofs.Gone.{closed_is_over}
use Rattle.iw_laws.proofs.servers.close_for_good.Goals as goal

pub returns : goal.returns
returns c = closed_is_over
