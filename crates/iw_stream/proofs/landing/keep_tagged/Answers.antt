use Rattle.std.proofs.Common.{◌≡◌, ◌+◌, ◌≤◌, ◌++◌, [], length, Some, Ok, Err, sym, ap, ◌∙◌, arith}
use Rattle.std.specs.Prelude.{Result, OnOk}
use Rattle.std.specs.Result.{IsOk}
use Rattle.iw_fpdu.specs.Found.{ulpdu}
use Rattle.iw_stream.specs.declared.landing.PlacedFrame.{PlacedFrame}
use Rattle.iw_stream.proofs.Landings.{length_ulpdu}
use Rattle.iw_stream.proofs.Tagged.{header_front}
use Rattle.iw_stream.proofs.landing.keep_tagged.Goals as goal

from_ok : {A E : Type 0} (r : Result A E) (P : Type 0) → IsOk r → OnOk r P → P
from_ok (Ok x) P is h = h
from_ok (Err e) P is h = cc

pub returns : goal.returns
returns g c =
    let laid = c.insert-frame.ensures.value in
    let start = ap (λ (f : PlacedFrame). f.start) laid ∙ c.requires.start in
    let len = ap (λ (f : PlacedFrame). f.len) laid ∙ c.len.ensures.len ∙ sym (length_ulpdu c.args.fpdu.now) in
    let empty : c.insert-frame.result.now.header.items ≡ [] = ap (λ (f : PlacedFrame). f.header.items) laid ∙ c.new.ensures in
    let fits : length c.insert-frame.result.now.header.items + length c.split_at.result.0.now ≤ 18 = omega (arith, ap length empty, c.split_at.ensures.front_len) in
    let items =
    from_ok c.try_extend_from_slice.result _ (c.try_extend_from_slice.ensures.variant.1 fits) c.try_extend_from_slice.ensures.ok
    ∙ (λ i. empty i ++ c.split_at.ensures.front i) ∙ header_front (ulpdu c.args.fpdu.now) c.args.front.now c.requires.front c.requires.tagged c.requires.long in
    (λ i. let f : PlacedFrame = record { header = record { items = items i }; start = start i; len = len i } in Some f)
