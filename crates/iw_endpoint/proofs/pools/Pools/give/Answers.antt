use Rattle.std.proofs.Common.{◌∙◌, slice_set, Some}
use Rattle.iw_endpoint.specs.Endpoint.{domain_numbers}
use Rattle.iw_endpoint.proofs.Filled.{set_filled}
use Rattle.iw_endpoint.proofs.pools.Pools.give.Goals as goal

pub returns-clause-ok : goal.returns-clause-ok
returns-clause-ok g c =
    set_filled domain_numbers c.reach.new.places.items c.args.pd (Some c.in_ok-pool.pool) c.in_ok-reach.ensures.reached
    ∙ (λ i. slice_set ((c.in_ok-reach.ensures.same ∙ c.self.view_is) i) c.args.pd (Some (c.in_ok-pool.ensures i)))
