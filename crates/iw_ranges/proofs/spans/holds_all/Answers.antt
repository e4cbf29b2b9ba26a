use Rattle.std.proofs.Common.{◌<◌, length, arith, refl, inl, inr}
use Rattle.std.proofs.lemmas.Bool.{cases_lt}
use Rattle.iw_ranges.proofs.Reaches.{answer_at_to, answer_at_from, none_reaches}
use Rattle.iw_ranges.proofs.spans.holds_all.Goals as goal

pub returns-then-span-from : goal.returns-then-span-from
returns-then-span-from g c =
    let ss = c.args.spans.now.items in
    let inside : c.args.low < length ss = omega (arith, c.in-Some.ensures.variant.0 refl, c.args.spans.now.ok.0) in
    answer_at_to ss c.args.low c.in-Some.span.now c.args.from c.args.to inside c.in-Some.ensures.lookup c.requires.some c.requires.order c.requires.place c.if-span-from.true

pub returns-else-span-from : goal.returns-else-span-from
returns-else-span-from g c =
    let ss = c.args.spans.now.items in
    let inside : c.args.low < length ss = omega (arith, c.in-Some.ensures.variant.0 refl, c.args.spans.now.ok.0) in
    answer_at_from ss c.args.low c.in-Some.span.now c.args.from c.args.to inside c.in-Some.ensures.lookup c.requires.some c.requires.order c.requires.place c.if-span-from.false

pub returns-in-None : goal.returns-in-None
returns-in-None g c =
    let ss = c.args.spans.now.items in
    let at = c.args.low in
    elim (cases_lt at (length ss)) [
      | inl inside ↦ absurd (let none = c.in-None.ensures.variant.1 (omega (arith, c.args.spans.now.ok.0)) in cc)
      | inr past ↦ (c.args.from, omega arith, c.requires.some, none_reaches ss at c.args.from c.requires.place past)
    ]
