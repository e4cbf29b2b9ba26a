use Rattle.iw_laws.proofs.Closing.{close_leaves_others, close_leaves_regions}
use Rattle.iw_laws.proofs.servers.close_leaves_others.Goals as goal

pub returns-clause-others : goal.returns-clause-others
returns-clause-others c = close_leaves_others

pub returns-clause-regions : goal.returns-clause-regions
returns-clause-regions c = close_leaves_regions
