use Rattle.std.proofs.Common.{◌+◌, length, arith, ap, sym, ◌∙◌}
use Rattle.iw_ranges.specs.Spans.{add_span}
use Rattle.iw_ranges.proofs.Fills.{laid_free}
use Rattle.iw_ranges.proofs.buffer.put_after.Goals as goal

pub lengthen-requires-clause-free : goal.lengthen-requires-clause-free
lengthen-requires-clause-free g c = λ p low high. c.requires.free p (omega (arith, low, c.requires.first)) high

pub returns-clause-spans : goal.returns-clause-spans
returns-clause-spans g c =
    c.lengthen.ensures.items ∙ ap (λ n. add_span n (c.args.from + length c.args.octets.now) c.args.spans.now.items) (sym c.requires.first)

pub returns-clause-octets : goal.returns-clause-octets
returns-clause-octets g c = λ i.
    laid_free c.args.base c.args.spans.now.items c.args.from c.args.octets.now c.args.buffer.now.items c.lay.new.buffer.items i c.requires.free c.requires.base (c.lay.ensures.octets i)
