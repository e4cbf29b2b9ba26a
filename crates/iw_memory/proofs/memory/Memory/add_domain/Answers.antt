use Rattle.std.proofs.Common.{ap, ◌∙◌}
use Rattle.iw_memory.specs.Table.{added}
use Rattle.iw_memory.proofs.TableLemmas.{table_of-added}
use Rattle.iw_memory.proofs.memory.Memory.add_domain.Goals as goal

pub returns-clause-ok : goal.returns-clause-ok
returns-clause-ok g c = table_of-added c.self.inside.domains c.add.new.self c.self.inside.regions c.args.pd c.in-Ok.ensures.ok ∙ ap (λ t. added t c.args.pd) c.self.view_is
