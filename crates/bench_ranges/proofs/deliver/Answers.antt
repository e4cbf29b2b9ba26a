use Rattle.std.proofs.Common.{sym, subst}
use Rattle.bench_ranges.specs.Whole.{IsWhole}
use Rattle.bench_ranges.proofs.Kept.{whole_delivered}
use Rattle.bench_ranges.proofs.deliver.Goals as goal

pub returns : goal.returns
returns c = subst IsWhole (sym c.in_ok-add.ensures.ok) (whole_delivered c.args.islands.now.arrived c.args.place c.args.octets.now c.requires)
