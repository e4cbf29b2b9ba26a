use Rattle.std.proofs.Common.{arith}
use Rattle.iw_ranges.proofs.Joins.{few_more}
use Rattle.iw_ranges.proofs.spans.is_one_too_many.Goals as goal

pub returns-else-len-gt-MAX_ISLANDS : goal.returns-else-len-gt-MAX_ISLANDS
returns-else-len-gt-MAX_ISLANDS g c = few_more c.args.from c.args.to c.args.spans.now.items c.len.result (omega (arith, c.len.ensures, c.args.spans.now.ok.0)) (omega (arith, c.if-len-gt-MAX_ISLANDS.false))
