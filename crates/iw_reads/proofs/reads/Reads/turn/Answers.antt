use Rattle.std.proofs.Common.{◌≡◌, drop, length, ap, arith, length-drop}
use Rattle.iw_reads.proofs.Limits.{limits-ended}
use Rattle.iw_reads.proofs.reads.Reads.turn.Goals as goal

pub invariant_of-self : goal.invariant_of-self
invariant_of-self g c =
    let items : c.remove.new.self.items ≡ drop 1 c.self.inside.reads.items = c.remove.ensures.by_index.2 in
    let places = c.self.invariant.places in
    record {
      limits = rw items (limits-ended _ c.self.invariant.limits);
      places = λ some. omega (arith, ap length items, length-drop 1 c.self.inside.reads.items, c.remove.ensures.capacity);
    }
