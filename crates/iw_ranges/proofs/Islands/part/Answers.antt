use Rattle.std.proofs.Common.{◌<◌, ◌-◌, ap, ◌∙◌, arith, take, drop}
use Rattle.iw_ranges.specs.Arrived.{Held}
use Rattle.iw_ranges.specs.Fields.{Fields, fields_of}
use Rattle.iw_ranges.proofs.Cells.{holds}
use Rattle.iw_ranges.proofs.Moves.{here_part}
use Rattle.iw_ranges.proofs.Islands.part.Goals as goal

pub split_at-requires : goal.split_at-requires
split_at-requires g c =
    let some : c.args.from < c.args.to = omega (arith, c.if-from-to.false) in
    let first = holds (fields_of c.self.inside) c.self.invariant.sound c.args.self.now.arrived (ap (λ (h : Held). h.arrived) c.self.view_is) c.args.from (c.requires c.args.from (omega arith) some) in
    omega (arith, c.as_slice.ensures.len, c.self.inside.octets.ok.0, first.inside, first.low, c.self.invariant.sound.base)

pub split_at-requires-2 : goal.split_at-requires-2
split_at-requires-2 g c =
    let some : c.args.from < c.args.to = omega (arith, c.if-from-to.false) in
    let e = ap (λ (h : Held). h.arrived) c.self.view_is in
    let first = holds (fields_of c.self.inside) c.self.invariant.sound c.args.self.now.arrived e c.args.from (c.requires c.args.from (omega arith) some) in
    let last = holds (fields_of c.self.inside) c.self.invariant.sound c.args.self.now.arrived e (c.args.to - 1) (c.requires (c.args.to - 1) (omega arith) (omega arith)) in
    omega (arith, c.as_slice.ensures.len, c.self.inside.octets.ok.0, c.split_at.ensures.back_len, first.low, last.inside, c.self.invariant.sound.base)

pub returns : goal.returns
returns g c =
    let f : Fields = fields_of c.self.inside in
    let some : c.args.from < c.args.to = omega (arith, c.if-from-to.false) in
    let e = ap (λ (h : Held). h.arrived) c.self.view_is in
    let last = holds f c.self.invariant.sound c.args.self.now.arrived e (c.args.to - 1) (c.requires (c.args.to - 1) (omega arith) (omega arith)) in
    here_part f c.self.invariant.sound c.args.self.now.arrived e c.split_at-2.result.0.now c.args.from c.args.to some (omega (arith, last.inside)) c.requires
    (c.split_at-2.ensures.front ∙ ap (take (c.args.to - c.args.from)) (c.split_at.ensures.back ∙ ap (drop (c.args.from - f.base)) c.as_slice.ensures.value))
