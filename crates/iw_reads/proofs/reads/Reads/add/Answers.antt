use Rattle.std.proofs.Common.{◌<◌, List, length, subst, sym, arith}
use Rattle.iw_reads.specs.declared.reads.Outstanding.{Outstanding}
use Rattle.iw_reads.specs.Outstanding.{most_reads}
use Rattle.iw_reads.proofs.Limits.{limits-asked}
use Rattle.iw_reads.proofs.reads.Reads.add.Goals as goal

pub invariant_of-self-2 : goal.invariant_of-self-2
invariant_of-self-2 g c =
    let room : length c.self.inside.reads.items < most_reads = subst (λ (xs : List Outstanding). length xs < most_reads) (sym c.self.view_is) c.requires in
    record {
      limits = rw (c.push_reserved.ensures.items, c.reserve_exact.ensures.items) (limits-asked c.self.inside.reads.items c.args.ticket c.args.request room c.self.invariant.limits);
      places = λ some. omega (arith, c.push_reserved.ensures.capacity, c.in_ok-reserve_exact.ensures.ok, c.reserve_exact.ensures.len, c.len.ensures);
    }
