use Rattle.std.proofs.Common.{rules, of_calls, arith}
use Rattle.std.proofs.lemmas.Fn.{always_returns_same}
use Rattle.std.proofs.lemmas.List.Sorted.{IsPartitionedBy-ltb}
use Rattle.std.specs.Prelude.{nat_lt}
use Rattle.iw_ranges.proofs.Reaches.{first_from_point, first_from_last, second_reaches, ends_rise}
use Rattle.iw_ranges.proofs.spans.first_reaching.Goals as goal

pub returns-then-last-from : goal.returns-then-last-from
returns-then-last-from g c =
    first_from_last c.args.spans.now.items c.args.from c.len-count.result c.index_at_last.result c.index-last.result.now c.requires (omega (arith, c.len-count.ensures, c.args.spans.now.ok.0)) (omega (arith, c.if-count-eq0.false)) c.index-last.ensures
    c.if-last-from.true c.index_at_last.ensures.past c.index_at_last.ensures.reaches

pub returns-then-from-index-2 : goal.returns-then-from-index-2
returns-then-from-index-2 g c =
    second_reaches c.args.spans.now.items c.args.from c.index.result.now c.index-then-count-gt1.result.now (omega (arith, c.len-count.ensures, c.args.spans.now.ok.0, c.if-count-gt1.true)) c.index.ensures c.index-then-count-gt1.ensures
    (omega (arith, c.if-from-index.false)) c.if-from-index-2.true

pub returns : goal.returns
returns g c =
    let ss = c.args.spans.now.items in
    first_from_point ss c.args.from c.partition_point.result (omega (arith, c.partition_point.ensures.bound, c.args.spans.now.ok.0))
    (c.partition_point.ensures.partitioned (λ s. nat_lt s.to c.args.from) (always_returns_same _ _ _ (λ a r f k. search (rules, of_calls)))
    (IsPartitionedBy-ltb (λ s. s.to) ss c.args.from (ends_rise ss c.requires)))
