-- What is stored is within its limits, since the memory keeps them.
use Rattle.std.proofs.Common.{◌≡◌, Some, sym, ◌∙◌}
use Rattle.iw_memory.specs.Inside.{link_of}
use Rattle.iw_memory.proofs.TableLemmas.{region_at-none, region_seen, held_at, limits_seen}
use Rattle.iw_memory.proofs.memory.Memory.stored.Goals as goal

pub returns-clause-limits : goal.returns-clause-limits
returns-clause-limits g c =
    let link : link_of c.self.inside.domains c.args.stag ≡ Some c.in_ok-at.at = sym c.in_ok-at.ensures in
    let held = held_at c.self.invariant.sound c.args.stag c.in_ok-at.at link in
    limits_seen c.get.result _ (c.get.ensures ∙ held.held) held.limits

pub returns-in_err-at-clause-region : goal.returns-in_err-at-clause-region
returns-in_err-at-clause-region g c = rw c.from_residual.ensures (sym (region_at-none c.self.inside.domains c.self.inside.regions c.args.stag c.find.ensures c.in_err-at.was c.self.view_is))

pub returns-clause-region : goal.returns-clause-region
returns-clause-region g c =
    let link : link_of c.self.inside.domains c.args.stag ≡ Some c.in_ok-at.at = sym c.in_ok-at.ensures in
    region_seen c.self.inside.domains c.self.inside.regions c.args.stag c.in_ok-at.at c.get.result link c.get.ensures c.self.view_is
