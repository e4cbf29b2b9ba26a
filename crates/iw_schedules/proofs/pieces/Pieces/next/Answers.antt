use Rattle.std.proofs.Common.{refl, sym, ap, ◌∙◌}
use Rattle.std.specs.Option.{option_copied}
use Rattle.iw_schedules.specs.Pieces.{pieces_left}
use Rattle.iw_schedules.proofs.InPieces.{pieces-split}
use Rattle.iw_schedules.proofs.pieces.Pieces.next.Goals as goal

pub returns : goal.returns
returns c =
    let separator = c.self.inside.separator in
    sym c.self.view_is ∙ (ap (λ left. pieces_left separator (option_copied left)) c.in_ok-text.was ∙ (pieces-split separator c.in_ok-text.text.now ∙ rw (c.split_at.ensures.front, c.split_at.ensures.back) refl))
