use Rattle.std.proofs.Common.{Some, sym, ap, ◌∙◌}
use Rattle.iw_stream.specs.Frames.{kept_by, placed_at}
use Rattle.iw_stream.specs.declared.landing.PlacedFrame.{PlacedFrame}
use Rattle.iw_stream.specs.Incoming.{Coming}
use Rattle.iw_stream.proofs.Arriving.{placed_there, placed_none}
use Rattle.iw_stream.proofs.incoming.Incoming.placed_at.Goals as goal

pub returns-in-None : goal.returns-in-None
returns-in-None g c = sym (placed_none c.self.inside.judged.records c.args.start c.in-None.ensures) ∙ ap (λ (s : Coming). placed_at s.early c.args.start) c.self.view_is

pub returns-in-Tried : goal.returns-in-Tried
returns-in-Tried g c =
    let r = c.in-Some.record.now in
    sym (placed_there c.self.inside.judged.records c.args.start r c.limits.ensures.apart c.in-Some.ensures.0 c.in-Some.ensures.1 ∙ ap (kept_by r) c.in-Tried.is)
    ∙ ap (λ (s : Coming). placed_at s.early c.args.start) c.self.view_is

pub returns-in-Placed : goal.returns-in-Placed
returns-in-Placed g c =
    let r = c.in-Some.record.now in
    (λ i. Some (let f : PlacedFrame = record { header = c.copy_of.ensures i; start = r.start; len = r.length } in f))
    ∙ sym (placed_there c.self.inside.judged.records c.args.start r c.limits.ensures.apart c.in-Some.ensures.0 c.in-Some.ensures.1 ∙ ap (kept_by r) c.in-Placed.is)
    ∙ ap (λ (s : Coming). placed_at s.early c.args.start) c.self.view_is
