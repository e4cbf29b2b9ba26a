use Rattle.std.proofs.Common.{◌<◌, length, ap, sym, arith, inl, inr}
use Rattle.std.proofs.lemmas.Bool.{cases_lt}
use Rattle.iw_locate.proofs.judged.end_of_run.Goals as goal

pub run-preserved : goal.run-preserved
run-preserved g c =
    let rs = c.args.records.now.items in
    let at = c.run.at in
    let r = c.index-found.result.now in
    let inside : at < length rs = omega (arith, c.run-test.true, c.len.ensures, c.args.records.now.ok.0) in record {
      from = omega (arith, c.run.invariant.from);
      low = omega (arith, c.requires.past at r c.run.invariant.from inside, ap (λ x. x.end) c.index-found.ensures);
      covered = λ q low high.
          elim (cases_lt q c.run.to) [
            | inl before ↦ c.run.invariant.covered q low before
            | inr from ↦ (r, (at, inside, sym c.index-found.ensures), omega (arith, c.if-to-span_of.false, c.span_of.ensures.value), high)
          ];
    }
