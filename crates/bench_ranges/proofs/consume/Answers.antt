use Rattle.std.proofs.Common.{sym, subst}
use Rattle.bench_ranges.specs.Whole.{IsWhole}
use Rattle.bench_ranges.proofs.Kept.{whole_advanced}
use Rattle.bench_ranges.proofs.consume.Goals as goal

pub returns-then-to : goal.returns-then-to
returns-then-to c = subst IsWhole (sym c.advance.ensures.arrived) (whole_advanced c.args.islands.now.arrived c.missing-to.result c.requires)
