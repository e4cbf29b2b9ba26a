use Rattle.std.proofs.Common.{Some, sym, ap, ◌∙◌}
use Rattle.iw_stream.specs.Frames.{kept_by, placed_at}
use Rattle.iw_stream.specs.declared.landing.PlacedFrame.{PlacedFrame}
use Rattle.iw_stream.specs.Incoming.{Coming}
use Rattle.iw_stream.proofs.Arriving.{placed_there, placed_none}
use Rattle.iw_stream.proofs.incoming.Incoming.placed_header.Goals as goal

pub returns-in-None : goal.returns-in-None
returns-in-None g c = ap (λ (s : Coming). placed_at s.early c.args.start) (sym c.self.view_is) ∙ placed_none c.self.inside.judged.records c.args.start c.in-None.ensures

pub returns-in-Tried : goal.returns-in-Tried
returns-in-Tried g c =
    let r = c.in-Some.record.now in
    ap (λ (s : Coming). placed_at s.early c.args.start) (sym c.self.view_is)
    ∙ placed_there c.self.inside.judged.records c.args.start r c.limits.ensures.apart c.in-Some.ensures.0 c.in-Some.ensures.1 ∙ ap (kept_by r) c.in-Tried.is

pub returns-in-Placed : goal.returns-in-Placed
returns-in-Placed g c =
    let r = c.in-Some.record.now in
    ap (λ (s : Coming). placed_at s.early c.args.start) (sym c.self.view_is)
    ∙ placed_there c.self.inside.judged.records c.args.start r c.limits.ensures.apart c.in-Some.ensures.0 c.in-Some.ensures.1 ∙ ap (kept_by r) c.in-Placed.is
    ∙ (λ i. Some (let f : PlacedFrame = record { header = c.in-Placed.header; start = c.in-Some.ensures.1 i; len = r.length } in f))
