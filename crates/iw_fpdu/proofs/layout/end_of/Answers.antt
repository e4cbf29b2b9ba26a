use Rattle.std.proofs.Common.{◌≡◌, ◌+◌, ◌∙◌, ap, arith}
use Rattle.iw_fpdu.specs.Frame.{frame_size}
use Rattle.iw_fpdu.proofs.Counted.{end_with, end_without}
use Rattle.iw_fpdu.proofs.layout.end_of.Goals as goal

pub returns-then-markers-clause-value : goal.returns-then-markers-clause-value
returns-then-markers-clause-value c =
    end_with c.args.markers c.args.start c.args.len (c.saturating_sub.result + (2 + c.from.result + c.pad_of.result + 4)) c.if-markers.true
    (omega (arith, c.saturating_sub.ensures, c.pad_of.ensures.value, c.from.ensures))

pub returns-else-markers-clause-value : goal.returns-else-markers-clause-value
returns-else-markers-clause-value c =
    let size : 2 + c.from.result + c.pad_of.result + 4 ≡ frame_size c.args.len = omega (arith, c.pad_of.ensures.value, c.from.ensures) in
    ap (λ n. c.args.start + n) size ∙ end_without c.args.markers c.args.start c.args.len c.if-markers.false
