use Rattle.std.proofs.Common.{◌≡◌, ◌<◌, ◌≤◌, ◌+◌, length, drop, arith, ap, ◌∙◌, sym, min, refl}
use Rattle.std.proofs.lemmas.Bool.Decides.{nat_tests}
use Rattle.iw_ranges.specs.Spans.{octet_after}
use Rattle.iw_ranges.proofs.Reaches.{in_order_start, in_order_drop}
use Rattle.iw_ranges.proofs.Fills.{fill_start, fill_more, fill_end, fill_empty, in_order_more}
use Rattle.iw_ranges.proofs.buffer.fill.Goals as goal
use Rattle.iw_ranges.proofs.buffer.fill.Goals.{then-gaps-test+else-at-len, else-gaps-test}

pub gaps-init : goal.gaps-init
gaps-init g c = record {
  base = c.requires.base;
  end = refl;
  order = in_order_drop c.args.low c.args.spans.now.items (in_order_start c.args.spans.now.items c.requires.order);
  octets = λ i h. fill_start c.args.base c.args.spans.now.items c.args.low c.args.from c.args.octets.now c.args.buffer.now i c.requires.place.before;
}

pub gaps-preserved : goal.gaps-preserved
gaps-preserved g c =
    let ss = c.args.spans.now.items in
    let k = c.gaps.at in
    let s = c.index-span.result.now in
    let rest = c.gaps.rest.now in
    let gap = c.min-gap.result in
    let skip = c.min-skip.result in
    let front = c.split_at.ensures.front in
    let back = c.split_at-in-gaps.ensures.back in
    let gap_is = c.min-gap.ensures ∙ ap (min (length rest)) c.saturating_sub.ensures in
    let skip_is = c.min-skip.ensures ∙ ap (min (length rest)) c.saturating_sub-in-gaps.ensures in
    let inside : k < length ss = omega (arith, c.args.spans.now.ok.0) in
    let low = c.gaps.invariant.base in record {
      base = omega arith;
      end = omega (arith, c.split_at-in-gaps.ensures.back_len, c.gaps.invariant.end);
      order = in_order_more ss k s inside c.gaps.invariant.order;
      octets = λ i h.
          let within : i < length c.gaps.buffer = omega arith in
          let wrote = rw front at c.write_at.ensures i within in
          ap (λ xs. octet_after c.args.base (drop (k + 1) ss) (c.gaps.next + skip) xs c.write_at.new.buffer i) back
          ∙ fill_more c.args.base ss k s c.gaps.next rest c.gaps.buffer c.write_at.new.buffer gap skip i inside c.index-span.ensures c.gaps.invariant.order low gap_is skip_is wrote
          ∙ c.gaps.invariant.octets i within;
    }

pub returns : goal.returns
returns g c = λ i h.
    let ss = c.args.spans.now.items in
    c.write_at-2.ensures i (omega arith) ∙ elim c.gaps-test.branch [
      | then-gaps-test+else-at-len w ↦
          let past : length ss ≤ c.gaps.at = omega (arith, c.args.spans.now.ok.0) in
          sym (fill_end c.args.base ss c.gaps.at c.gaps.next c.gaps.rest.now c.gaps.buffer i past c.gaps.invariant.base)
      | else-gaps-test w ↦
          let none : length c.gaps.rest.now ≡ 0 = grind (arith, nat_tests, c.is_empty.ensures, w.gaps-test.false) in
          sym (fill_empty c.args.base ss c.gaps.at c.gaps.next c.gaps.rest.now c.gaps.buffer i none c.gaps.invariant.base)
    ]
    ∙ c.gaps.invariant.octets i (omega arith)
