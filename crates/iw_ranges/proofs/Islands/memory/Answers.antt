use Rattle.std.proofs.Common.{◌-◌, length, ap, subst, arith}
use Rattle.std.proofs.lemmas.List.FromFn.{length-map-range_with_len}
use Rattle.iw_ranges.specs.Arrived.{IsIdleWithin}
use Rattle.iw_ranges.specs.Fields.{Fields, fields_of, cell_of}
use Rattle.iw_ranges.proofs.Cells.{top_reaches}
use Rattle.iw_ranges.proofs.Islands.memory.Goals as goal

pub returns-clause-idle : goal.returns-clause-idle
returns-clause-idle g c =
    let f : Fields = fields_of c.self.inside in
    subst IsIdleWithin c.self.view_is (λ none. c.self.invariant.idle (omega (arith, ap length none, length-map-range_with_len (cell_of f) f.floor (f.end - f.floor), c.self.invariant.sound.reached, top_reaches f c.self.invariant.sound)))
