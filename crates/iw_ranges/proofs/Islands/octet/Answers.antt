use Rattle.std.proofs.Common.{◌-◌, ◌<◌, ap, ◌∙◌, sym, arith, length}
use Rattle.std.proofs.lemmas.List.{get_or_default}
use Rattle.iw_ranges.specs.Arrived.{Held, Here}
use Rattle.iw_ranges.specs.Fields.{Fields, fields_of}
use Rattle.iw_ranges.proofs.Cells.{holds}
use Rattle.iw_ranges.proofs.Islands.octet.Goals as goal

pub index-requires : goal.index-requires
index-requires g c =
    let held = holds (fields_of c.self.inside) c.self.invariant.sound c.args.self.now.arrived (ap (λ (h : Held). h.arrived) c.self.view_is) c.args.place c.requires in
    omega (arith, held.inside, held.low, c.self.invariant.sound.base, c.self.inside.octets.ok.0)

pub returns : goal.returns
returns g c =
    let f : Fields = fields_of c.self.inside in
    let held = holds f c.self.invariant.sound c.args.self.now.arrived (ap (λ (h : Held). h.arrived) c.self.view_is) c.args.place c.requires in
    let inside : c.args.place - f.base < length f.octets = omega (arith, held.inside, held.low, c.self.invariant.sound.base) in
    held.octet ∙ ap Here (get_or_default f.octets (c.args.place - f.base) 0 c.index.result.now inside ∙ sym c.index.ensures)
