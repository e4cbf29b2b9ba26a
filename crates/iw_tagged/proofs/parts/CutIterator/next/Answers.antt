use Rattle.std.proofs.Common.{length, [], if◌then◌else◌, ap, sym, ◌∙◌, arith}
use Rattle.iw_octets.specs.Parts.{parts_from}
use Rattle.iw_octets.proofs.PartLemmas.{parts_from-next}
use Rattle.iw_tagged.proofs.parts.CutIterator.next.Goals as goal

pub returns-clause-steps : goal.returns-clause-steps
returns-clause-steps c =
    sym c.self.view_is
    ∙ ap (λ done. if done then [] else parts_from c.self.inside.offset c.self.inside.left c.self.inside.size) c.if-self.false
    ∙ parts_from-next c.self.inside.offset c.self.inside.left c.self.inside.size c.min-n.result c.self.invariant.0 c.min-n.ensures

pub returns-clause-goes : goal.returns-clause-goes
returns-clause-goes c =
    let taken = returns-clause-steps c in
    record { on = λ finite. (tt, tt, omega (arith, ap length taken)); keeps = tt; rests = λ finite. tt }
