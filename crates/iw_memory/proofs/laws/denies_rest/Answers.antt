use Rattle.iw_memory.proofs.Callers as memory
use Rattle.iw_memory.proofs.laws.denies_rest.Goals as goal

pub returns : goal.returns
returns c = memory.denies_rest
