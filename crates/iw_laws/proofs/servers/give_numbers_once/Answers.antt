use Rattle.iw_laws.proofs.Gone.{gives_once}
use Rattle.iw_laws.proofs.servers.give_numbers_once.Goals as goal

pub returns : goal.returns
returns c = gives_once
