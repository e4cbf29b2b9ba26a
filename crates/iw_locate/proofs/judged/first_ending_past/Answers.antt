use Rattle.std.proofs.Common.{◌≡◌, length, arith}
use Rattle.iw_locate.proofs.Apart.{all_before, all_past}
use Rattle.iw_locate.proofs.judged.first_ending_past.Goals as goal

pub returns-then-place-index : goal.returns-then-place-index
returns-then-place-index g c =
    all_past c.args.records.now.items c.requires c.args.place c.index.result.now (omega (arith, c.len-count.ensures, c.args.records.now.ok.0, c.if-count-eq0.false)) c.index.ensures c.if-place-index.true

pub returns-then-index-place : goal.returns-then-index-place
returns-then-index-place g c =
    let rs = c.args.records.now.items in
    let count : c.len-count.result ≡ length rs = omega (arith, c.len-count.ensures, c.args.records.now.ok.0) in
    all_before rs c.requires c.args.place c.len-count.result count c.index-2.result.now (omega (arith, c.if-count-eq0.false)) c.index-2.ensures c.if-index-place.true
