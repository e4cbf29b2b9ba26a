use Rattle.std.proofs.Common.{◌<◌, subst, ◌∙◌}
use Rattle.iw_memory.specs.Region.{most_octets}
use Rattle.iw_memory.proofs.TableLemmas.{drawn-read}
use Rattle.iw_memory.proofs.LawLemmas.{drawn-vacant}
use Rattle.iw_memory.proofs.memory.Memory.drawn_stag.Goals as goal

pub returns-in-Ok-clause-stag : goal.returns-in-Ok-clause-stag
returns-in-Ok-clause-stag g c =
    c.new.ensures
    ∙ drawn-read c.self.invariant.sound c.args.self.now c.self.view_is c.args.pd c.args.drawn c.first_free-slot.result c.key.result c.first_free-slot.ensures c.key.ensures

pub returns-in-Ok-clause-vacant : goal.returns-in-Ok-clause-vacant
returns-in-Ok-clause-vacant g c =
    let is = c.new.ensures
    ∙ drawn-read c.self.invariant.sound c.args.self.now c.self.view_is c.args.pd c.args.drawn c.first_free-slot.result c.key.result c.first_free-slot.ensures c.key.ensures in
    let some = c.in-Ok.ensures.slot in
    drawn-vacant (most_octets c.args.kept) c.args.self.now c.args.pd c.args.base c.args.len c.args.drawn c.new.result c.in-Ok.ensures.refused (subst (λ i. i < 1024) some.0 some.1) is
