use Rattle.std.proofs.Common.{◌≡◌, ◌<◌, ◌≤◌, ◌+◌, length, arith, ◌∙◌, sym, refl, subst}
use Rattle.std.proofs.lemmas.List.{get_or_default}
use Rattle.iw_ranges.specs.declared.spans.Span.{Span}
use Rattle.iw_ranges.proofs.Joins.{merge_first, merge_more, merge_past, merge_before}
use Rattle.iw_ranges.proofs.spans.widen.Goals as goal
use Rattle.iw_ranges.proofs.spans.widen.Goals.{then-merge-test+else-index-joined, else-merge-test}

pub merge-init : goal.merge-init
merge-init g c =
    let ss = c.args.spans.now.items in
    let s = c.index-first.result.now in
    let inside : c.args.low < length ss = omega (arith, c.args.spans.now.ok.0, c.requires.within) in
    let touches : s.from ≤ c.args.to = subst (λ (x : Span). x.from ≤ c.args.to) (sym c.index-first.ensures) (c.requires.touched s) in record {
      within = c.requires.within;
      items = rw (c.min.ensures, c.max.ensures) (merge_first c.args.from c.args.to ss _ c.args.low s inside c.index-first.ensures touches refl);
      capacity = refl;
      len = omega arith;
    }

pub merge-preserved-in-Some : goal.merge-preserved-in-Some
merge-preserved-in-Some g c =
    let ss = c.merge.spans.items in
    let low = c.args.low in
    let s = c.in-Some.touched in
    let inside : low + 1 < length ss = omega (arith, c.merge.spans.ok.0, c.merge-test.true, c.len.ensures) in
    let same : s ≡ c.index.result.now = c.in-Some.ensures.value ∙ get_or_default ss (low + 1) s c.index.result.now inside ∙ sym c.index.ensures in
    let touches : s.from ≤ c.merge.joined.to = subst (λ (x : Span). x.from ≤ c.merge.joined.to) (sym same) c.if-index-joined.true in
    let removed = c.in-Some.ensures.items in record {
      within = omega (arith, c.in-Some.ensures.len, c.merge-test.true, c.len.ensures);
      items = rw (c.min-in-Some.ensures, c.max-in-Some.ensures, removed) (merge_more c.merge.joined.from c.merge.joined.to ss _ low s inside c.in-Some.ensures.value touches c.merge.invariant.items);
      capacity = c.in-Some.ensures.capacity ∙ c.merge.invariant.capacity;
      len = omega (arith, c.in-Some.ensures.len, c.merge.invariant.len);
    }

pub returns-clause-items : goal.returns-clause-items
returns-clause-items g c =
    let ss = c.merge.spans.items in
    let low = c.args.low in
    let inside : low < length ss = omega (arith, c.merge.spans.ok.0, c.merge.invariant.within) in
    elim c.merge-test.branch [
      | then-merge-test+else-index-joined w ↦
          let more : low + 1 < length ss = omega (arith, c.merge.spans.ok.0, c.len.ensures) in
          merge_before c.merge.joined.from c.merge.joined.to ss _ low w.index.result.now more w.index.ensures w.if-index-joined.false c.merge.invariant.items
      | else-merge-test w ↦
          let past : length ss ≤ low + 1 = omega (arith, c.merge.spans.ok.0, c.len.ensures) in
          merge_past c.merge.joined.from c.merge.joined.to ss _ low inside past c.merge.invariant.items
    ]
