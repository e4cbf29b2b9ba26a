use Rattle.std.proofs.Common.{◌≡◌, ℕ, Bool, true, false, List, refl, sym, ap, ◌∙◌}
use Rattle.std.specs.Prelude.{MatchBool}
use Rattle.iw_locate.specs.Records.{OverlapsPlaced, IsClearOfPlaced}
use Rattle.iw_locate.specs.Lowest.{overlaps_placed}
use Rattle.iw_locate.proofs.Telling.{overlaps_are_told}
use Rattle.iw_stream.specs.Frames.{EarlyRecord}
use Rattle.iw_stream.specs.Incoming.{Coming}
use Rattle.iw_stream.proofs.incoming.Incoming.overlaps_placed.Goals as goal

told : (rs : List EarlyRecord) (start end : ℕ) (b : Bool) → MatchBool b (OverlapsPlaced rs start end) (IsClearOfPlaced rs start end) → b ≡ overlaps_placed rs start end
told rs start end true over = sym ((overlaps_are_told rs start end).1 over)
told rs start end false clear = go (overlaps_placed rs start end) refl
  where
    go : (b : Bool) → overlaps_placed rs start end ≡ b → false ≡ b
    go false e = refl
    go true e = let w = (overlaps_are_told rs start end).0 e in absurd (clear w.0 w.1 w.2 w.3)

pub returns : goal.returns
returns g c =
    told c.self.inside.judged.records c.args.start c.args.end c.overlaps_placed.result c.overlaps_placed.ensures ∙ ap (λ (s : Coming). overlaps_placed s.early c.args.start c.args.end) c.self.view_is
