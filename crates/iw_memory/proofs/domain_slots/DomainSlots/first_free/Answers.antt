use Rattle.std.proofs.Common.{ap, ◌∙◌}
use Rattle.iw_memory.specs.Inside.{first_free}
use Rattle.iw_memory.proofs.MarkLemmas.{lowest-free, first-free, first-there, first-nowhere}
use Rattle.iw_memory.proofs.domain_slots.DomainSlots.first_free.Goals as goal

pub returns-then-slot-lt-MAX_SLOTS : goal.returns-then-slot-lt-MAX_SLOTS
returns-then-slot-lt-MAX_SLOTS g c =
    let found = c.first_from-slot.ensures in
    let is = first-free c.self.invariant c.args.place c.first_from-slot.result c.requires found.from found.most found.taken found.free in
    first-there c.self.inside.slots.items c.args.place c.first_from-slot.result is c.if-slot-lt-MAX_SLOTS.true
    ∙ ap (λ slots. first_free slots c.args.place) c.self.view_is

pub returns-else-slot-lt-MAX_SLOTS : goal.returns-else-slot-lt-MAX_SLOTS
returns-else-slot-lt-MAX_SLOTS g c =
    let found = c.first_from-slot.ensures in
    let is = first-free c.self.invariant c.args.place c.first_from-slot.result c.requires found.from found.most found.taken found.free in
    let lowest = lowest-free c.self.invariant c.lowest.result c.lowest.ensures.most c.lowest.ensures.taken c.lowest.ensures.free in
    first-nowhere c.self.inside.slots.items c.args.place c.first_from-slot.result c.lowest.result is c.if-slot-lt-MAX_SLOTS.false lowest
    ∙ ap (λ slots. first_free slots c.args.place) c.self.view_is
