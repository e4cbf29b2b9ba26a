use Rattle.std.proofs.Common.{sym, ◌∙◌}
use Rattle.iw_stream.specs.declared.landing.PlacedFrame.{PlacedFrame}
use Rattle.iw_stream.proofs.Landings.{length_ulpdu}
use Rattle.iw_stream.proofs.landing.placed_frame.Goals as goal

pub returns : goal.returns
returns g c =
    let len = c.len.ensures.len ∙ sym (length_ulpdu c.args.fpdu.now) in
    (λ i. let f : PlacedFrame = record { start = c.requires.start i; len = len i; header = record { items = c.keep_header.ensures i } } in f)
