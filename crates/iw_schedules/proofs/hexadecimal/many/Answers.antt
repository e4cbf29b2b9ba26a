use Rattle.std.proofs.Common.{arith, string_bytes}
use Rattle.std.proofs.lemmas.List.{length-take-le}
use Rattle.iw_schedules.proofs.HexDigits.{part_printed}
use Rattle.iw_schedules.proofs.hexadecimal.many.Goals as goal

pub slice_bounds-few-end : goal.slice_bounds-few-end
slice_bounds-few-end g c = omega (arith, length-take-le 64 c.parts.left.now (omega (arith, c.parts-test.true)))

pub few-requires : goal.few-requires
few-requires g c = omega (arith, length-take-le 64 c.parts.left.now (omega (arith, c.parts-test.true)))

pub parts-preserved : goal.parts-preserved
parts-preserved g c =
    part_printed (string_bytes c.args.text.now) (string_bytes c.parts.text) (string_bytes c.few.new.text) c.parts.left.now c.args.octets.now c.in_ok-few.ensures c.parts.invariant
