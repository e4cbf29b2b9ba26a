use Rattle.std.proofs.Common.{◌≡◌, ◌≤◌, ◌-◌, ◌++◌, replicate, vec_len, vec_capacity}
use Rattle.iw_memory.specs.Inside.{free}
use Rattle.iw_memory.proofs.domain_slots.fill_to.Given as goal

abbrev pub invariant-slots : goal.invariant-slots
invariant-slots g l =
    (vec_len l.slots ≤ l.len) × (l.len ≤ vec_capacity l.slots)
    × (l.slots.items ++ replicate (l.len - vec_len l.slots) free ≡ l.initial.slots.items ++ replicate (l.len - vec_len l.initial.slots) free)

abbrev pub decreases-slots : goal.decreases-slots
decreases-slots g l = l.len - vec_len l.slots
