use Rattle.std.proofs.Common.{◌≡◌, ◌≤◌, ◌-◌, length}
use Rattle.iw_memory.specs.Inside.{all_places}
use Rattle.iw_memory.proofs.slots.reach.Given as goal

abbrev pub invariant-loop-places : goal.invariant-loop-places
invariant-loop-places g l = (length l.places.items ≤ 256) × (all_places l.places.items ≡ all_places l.initial.places.items)

abbrev pub decreases-loop-places : goal.decreases-loop-places
decreases-loop-places g l = 256 - length l.places.items
