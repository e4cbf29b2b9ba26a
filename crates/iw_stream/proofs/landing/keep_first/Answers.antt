use Rattle.std.proofs.Common.{Some, sym, ap, ◌∙◌}
use Rattle.iw_stream.specs.declared.landing.PlacedFrame.{PlacedFrame}
use Rattle.iw_fpdu.specs.Found.{ulpdu}
use Rattle.iw_stream.proofs.Heads.{header_first}
use Rattle.iw_stream.proofs.Landings.{length_ulpdu}
use Rattle.iw_stream.proofs.landing.keep_first.Goals as goal

pub returns : goal.returns
returns g c =
    let laid = c.insert-frame.ensures.value in
    let start = ap (λ (f : PlacedFrame). f.start) laid ∙ c.requires.start in
    let len = ap (λ (f : PlacedFrame). f.len) laid ∙ c.len.ensures.len ∙ sym (length_ulpdu c.args.fpdu.now) in
    (λ i. let f : PlacedFrame = record { header = record { items = (c.append_header.ensures ∙ header_first (ulpdu c.args.fpdu.now) c.args.first.now c.requires.first) i }; start = start i; len = len i } in Some f)
