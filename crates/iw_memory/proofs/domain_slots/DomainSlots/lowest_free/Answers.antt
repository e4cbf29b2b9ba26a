use Rattle.std.proofs.Common.{ap, ◌∙◌}
use Rattle.std.specs.List.{position_or_len}
use Rattle.iw_memory.specs.Inside.{is_free}
use Rattle.iw_memory.proofs.MarkLemmas.{lowest-free}
use Rattle.iw_memory.proofs.domain_slots.DomainSlots.lowest_free.Goals as goal

pub returns : goal.returns
returns g c =
    lowest-free c.self.invariant c.lowest.result c.lowest.ensures.most c.lowest.ensures.taken c.lowest.ensures.free
    ∙ ap (position_or_len is_free) c.self.view_is
