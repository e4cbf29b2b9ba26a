use Rattle.std.proofs.Common.{rules, of_calls, arith}
use Rattle.std.proofs.lemmas.Fn.{always_returns_same}
use Rattle.std.proofs.lemmas.List.Sorted.{IsPartitionedBy-leb}
use Rattle.std.specs.Prelude.{nat_le}
use Rattle.iw_locate.proofs.Apart.{past_from_point, ends_rise, others_past}
use Rattle.iw_locate.proofs.judged.first_among.Goals as goal

pub returns-then-place-index : goal.returns-then-place-index
returns-then-place-index g c =
    others_past c.args.records.now.items c.requires c.args.place c.index.result.now c.index-then-index-place.result.now (omega (arith, c.len.ensures, c.args.records.now.ok.0, c.if-len-gt1.true)) c.index.ensures c.if-index-place.true
    c.index-then-index-place.ensures c.if-place-index.true

pub returns : goal.returns
returns g c =
    let rs = c.args.records.now.items in
    past_from_point rs c.requires c.args.place c.partition_point.result (omega (arith, c.partition_point.ensures.bound, c.args.records.now.ok.0))
    (c.partition_point.ensures.partitioned (λ r. nat_le r.end c.args.place) (always_returns_same _ _ _ (λ a r f k. search (rules, of_calls)))
    (IsPartitionedBy-leb (λ r. r.end) rs c.args.place (ends_rise rs c.requires)))
