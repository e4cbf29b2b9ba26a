use Rattle.std.proofs.Common.{◌<◌, subst, ◌∙◌}
use Rattle.iw_memory.specs.Region.{most_octets}
use Rattle.iw_memory.proofs.TableLemmas.{next-read}
use Rattle.iw_memory.proofs.LawLemmas.{next-vacant}
use Rattle.iw_memory.proofs.memory.Memory.next_stag.Goals as goal

pub returns-in-Ok-clause-vacant : goal.returns-in-Ok-clause-vacant
returns-in-Ok-clause-vacant g c =
    let some = c.in-Ok.ensures.slot in
    let is = c.new.ensures
    ∙ next-read c.self.inside.domains c.self.inside.regions c.args.self.now c.self.view_is c.args.pd c.in-Ok.slot c.key-key.result some.0 c.key-key.ensures in
    next-vacant (most_octets c.args.kept) c.args.self.now c.args.pd c.args.base c.args.len c.new.result c.in-Ok.ensures.refused (subst (λ i. i < 1024) some.0 some.1) is
