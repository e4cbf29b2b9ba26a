use Rattle.std.proofs.Common.{◌≡◌, ℕ, ◌+◌, ◌<◌, ◌≤◌, true, ap, ◌∙◌, inl, inr, arith}
use Rattle.std.proofs.lemmas.Bool.{cases_lt}
use Rattle.iw_ranges.specs.Arrived.{has_come}
use Rattle.iw_fpdu.specs.Places.{span_start}
use Rattle.iw_fpdu.specs.Frame.{frame_end}
use Rattle.iw_fpdu.specs.Reading.{length_at}
use Rattle.iw_fpdu.proofs.Octets.{length_within}
use Rattle.iw_locate.specs.Free.{Scene, scene_of, octet_of, end_of}
use Rattle.iw_locate.proofs.Open.{not_open_under, not_open_bare, length_is, span_is}
use Rattle.iw_locate.proofs.Front.{not_open_low, open_here, same_frame}
use Rattle.iw_locate.proofs.locator.Locator.open_to.Goals as goal

pub returns-then-span-point : goal.returns-then-span-point
returns-then-span-point g c =
    let v : Scene g.row.T.Denot = scene_of c.args.self.now.layout c.args.self.now.base c.args.islands.now.arrived c.args.judged.now.records in
    λ open_. not_open_low v c.requires.can c.requires.markers c.args.start (omega (arith, c.span_of-span.ensures.value, c.if-span-point.true, c.requires.point)) open_

pub returns-then-clear-start : goal.returns-then-clear-start
returns-then-clear-start g c =
    let v : Scene g.row.T.Denot = scene_of c.args.self.now.layout c.args.self.now.base c.args.islands.now.arrived c.args.judged.now.records in
    λ open_. not_open_under v c.requires.can c.requires.markers c.args.start (c.clear_to-clear.ensures.over (c.args.start + 2) (omega (arith, c.if-clear-start.true)) (omega (arith, c.requires.low))) open_

pub returns-then-clear-end : goal.returns-then-clear-end
returns-then-clear-end g c =
    let v : Scene g.row.T.Denot = scene_of c.args.self.now.layout c.args.self.now.base c.args.islands.now.arrived c.args.judged.now.records in
    let length : c.args.len ≡ length_at (octet_of v) c.args.start =
    length_is v c.requires.can c.requires.markers c.args.start c.args.len c.requires.len (c.clear_to-clear.ensures.clear (c.args.start + 2) (omega (arith, c.if-clear-start.false))) (omega (arith, c.if-span-point.false, c.span_of-span.ensures.value, c.requires.point))
    (λ q low high. c.requires.came q low (omega (arith, high, c.requires.end, length_within v.layout.markers c.args.start c.args.len c.requires.start))) in
    let e : c.args.end ≡ end_of v c.args.start = c.requires.end ∙ ap (frame_end v.layout.markers c.args.start) length in
    λ open_.
    let w = c.clear_to-clear.ensures.over c.args.end c.if-clear-end.true (omega (arith, c.requires.fits)) in
    open_.clear w.0 w.1 (omega (arith, w.2.0, e), w.2.1)

pub returns-then-not-did_marker_come : goal.returns-then-not-did_marker_come
returns-then-not-did_marker_come g c =
    let v : Scene g.row.T.Denot = scene_of c.args.self.now.layout c.args.self.now.base c.args.islands.now.arrived c.args.judged.now.records in
    let w = c.if-not-did_marker_come.ensures in
    not_open_bare v c.requires.can c.requires.markers c.args.start w.0 (omega (arith, c.span_of-span.ensures.value, w.1)) w.2 w.3

pub returns : goal.returns
returns g c =
    let v : Scene g.row.T.Denot = scene_of c.args.self.now.layout c.args.self.now.base c.args.islands.now.arrived c.args.judged.now.records in
    let length : c.args.len ≡ length_at (octet_of v) c.args.start =
    length_is v c.requires.can c.requires.markers c.args.start c.args.len c.requires.len (c.clear_to-clear.ensures.clear (c.args.start + 2) (omega (arith, c.if-clear-start.false))) (omega (arith, c.if-span-point.false, c.span_of-span.ensures.value, c.requires.point))
    (λ q low high. c.requires.came q low (omega (arith, high, c.requires.end, length_within v.layout.markers c.args.start c.args.len c.requires.start))) in
    let e : c.args.end ≡ end_of v c.args.start = c.requires.end ∙ ap (frame_end v.layout.markers c.args.start) length in
    let whole : (p : ℕ) → span_start v.layout.markers c.args.start ≤ p → p < end_of v c.args.start → has_come v.arrived (v.base + p) ≡ true =
    λ p low high.
    elim (cases_lt p c.args.start) [
      | inl before ↦ c.if-not-did_marker_come.ensures p (omega (arith, low, span_is v c.requires.can c.requires.markers c.args.start, c.span_of-span.ensures.value)) before
      | inr from ↦ c.requires.came p from (omega (arith, high, e))
    ] in (
      same_frame v c.args.start c.args.len c.args.end length e,
      open_here v c.requires.can c.requires.markers c.args.start c.requires.start whole (omega (arith, c.if-span-point.false, c.span_of-span.ensures.value, c.requires.point)) (c.clear_to-clear.ensures.clear (end_of v c.args.start) (omega (arith, c.if-clear-end.false, e))),
    )
