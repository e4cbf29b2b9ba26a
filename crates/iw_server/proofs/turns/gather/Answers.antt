use Rattle.iw_server.proofs.Left.{gathers_none}
use Rattle.iw_server.proofs.turns.gather.Goals as goal

pub returns-then-len-gt0-clause-gathers : goal.returns-then-len-gt0-clause-gathers
returns-then-len-gt0-clause-gathers c = gathers_none _ _ _
