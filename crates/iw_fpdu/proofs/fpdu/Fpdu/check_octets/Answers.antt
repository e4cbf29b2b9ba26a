use Rattle.std.proofs.Common.{◌+◌, ap, ◌∙◌, sym, subst, arith}
use Rattle.iw_fpdu.specs.Found.{octet_in, HoldsSpan, mismatch}
use Rattle.iw_fpdu.specs.FoundView.{found_by}
use Rattle.iw_fpdu.specs.Frame.{frame_end}
use Rattle.iw_fpdu.specs.Places.{span_start}
use Rattle.iw_fpdu.specs.PiecesOctet.{octet_from}
use Rattle.iw_fpdu.specs.Reading.{mismatch_at}
use Rattle.iw_ranges.specs.Arrived.{cells_between}
use Rattle.iw_fpdu.proofs.Came.{here_in, length_part, part_agrees}
use Rattle.iw_fpdu.proofs.Octets.{same_mismatch, agree, span_low, length_within}
use Rattle.iw_fpdu.proofs.fpdu.Fpdu.check_octets.Goals as goal

pub overflow_add-self-inside : goal.overflow_add-self-inside
overflow_add-self-inside g c =
    let a = c.self.inside in
    omega (
      arith,
      c.self.invariant.read.fits,
      c.self.invariant.end,
      ap (frame_end a.layout.markers a.start) c.self.invariant.read.len,
      c.span_of-from.ensures.bound,
      length_within a.layout.markers a.start a.len c.self.invariant.read.start,
    )

pub part-octets-requires : goal.part-octets-requires
part-octets-requires g c = λ p low high.
    let held = subst HoldsSpan (sym c.self.view_is) c.requires in
    here_in (found_by c.self.inside) c.self.inside.len c.self.invariant.read held p (omega (arith, c.span_of-from.ensures.value)) (omega (arith, c.self.invariant.end))

pub check_span-requires-clause-span : goal.check_span-requires-clause-span
check_span-requires-clause-span g c =
    let a = c.self.inside in
    let long = length_part a.islands.now.arrived (a.base + c.span_of-from.result) (a.base + a.end) c.part-octets.result.now c.part-octets.ensures in
    omega (arith, long, c.span_of-from.ensures.value, c.self.invariant.end, span_low a.layout.markers a.start, length_within a.layout.markers a.start a.len c.self.invariant.read.start)

pub returns : goal.returns
returns g c =
    let a = c.self.inside in
    let m = a.layout.markers in
    let from = span_start m a.start in
    let octets = c.part-octets.result.now in
    let same = c.part-octets.ensures ∙ ap (λ x. cells_between a.islands.now.arrived (a.base + x) (a.base + a.end)) c.span_of-from.ensures.value
    ∙ ap (λ x. cells_between a.islands.now.arrived (a.base + from) (a.base + x)) c.self.invariant.end in
    c.check_span.ensures
    ∙ same_mismatch (octet_from from octets) (octet_in a.islands.now.arrived a.base) a.layout a.start a.len c.self.invariant.read.start
    (agree (octet_from from octets) (octet_in a.islands.now.arrived a.base) m a.start a.len (λ p low high. part_agrees a.islands.now.arrived a.base from (frame_end m a.start a.len) octets same p low high))
    ∙ ap (mismatch_at a.layout (octet_in a.islands.now.arrived a.base) a.start) c.self.invariant.read.len
    ∙ ap mismatch c.self.view_is
