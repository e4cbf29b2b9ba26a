use Rattle.std.proofs.Common.{◌≡◌, None, replicate}
use Rattle.std.specs.VecDeque.{deque_len, deque_capacity}
use Rattle.iw_untagged.proofs.places.no_places.Given as goal

abbrev pub invariant-loop : goal.invariant-loop
invariant-loop g l = (l.places.items ≡ replicate l.counter None) × (deque_len l.places ≡ l.counter) × (deque_capacity l.places ≡ 256)
