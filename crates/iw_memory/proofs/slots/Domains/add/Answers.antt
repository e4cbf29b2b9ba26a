use Rattle.std.proofs.Common.{set, Some, [], ap, ◌∙◌}
use Rattle.iw_memory.proofs.PlaceLemmas.{places-set}
use Rattle.iw_memory.proofs.slots.Domains.add.Goals as goal

pub returns-clause-ok : goal.returns-clause-ok
returns-clause-ok g c = record {
  after =
      places-set c.reach.new.places.items c.args.pd c.new.result [] c.in_ok-reach.ensures.ok c.new.ensures
      ∙ ap (λ ds. set ds c.args.pd (Some [])) (c.reach.ensures.same ∙ c.self.view_is);
}
