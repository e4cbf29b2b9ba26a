use Rattle.std.proofs.Common.{◌≡◌, length, arith, ap, ◌∙◌, sym}
use Rattle.std.proofs.lemmas.Bool.Decides.{nat_tests}
use Rattle.iw_ranges.specs.Spans.{spans_past}
use Rattle.iw_ranges.proofs.Joins.{forget_one, forget_done, forget_none}
use Rattle.iw_ranges.proofs.spans.forget.Goals as goal

pub passed-preserved : goal.passed-preserved
passed-preserved g c = record {
  items = ap (spans_past c.args.to) c.pop_front.ensures.rest ∙ sym (forget_one c.args.to c.passed.gone.items c.index.result.now c.index.ensures c.if-index-to.true) ∙ c.passed.invariant.items;
  capacity = c.pop_front.ensures.capacity ∙ c.passed.invariant.capacity;
  len = omega (arith, c.pop_front.ensures.len, c.passed.invariant.len);
}

pub returns-else-index-to-clause-items : goal.returns-else-index-to-clause-items
returns-else-index-to-clause-items g c =
    sym (forget_done c.args.to c.passed.gone.items c.index.result.now c.index.ensures c.if-index-to.false) ∙ c.passed.invariant.items

pub returns-after-passed-clause-items : goal.returns-after-passed-clause-items
returns-after-passed-clause-items g c =
    let none : length c.passed.gone.items ≡ 0 = grind (arith, nat_tests, c.is_empty.ensures, c.passed-test.false, c.passed.gone.ok.0) in
    sym (forget_none c.args.to c.passed.gone.items none) ∙ c.passed.invariant.items
