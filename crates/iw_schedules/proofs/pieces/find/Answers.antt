use Rattle.std.proofs.Common.{arith}
use Rattle.iw_schedules.proofs.InPieces.{no_more, first_beyond}
use Rattle.iw_schedules.proofs.pieces.find.Goals as goal

pub returns-in-None-clause-at : goal.returns-in-None-clause-at
returns-in-None-clause-at c = no_more c.args.separator c.args.text.now c.min-near.result (λ k low below. c.loop-i.invariant k low (omega (arith, c.loop-i-test.false))) c.in-None.ensures

pub returns-in-Some-clause-at : goal.returns-in-Some-clause-at
returns-in-Some-clause-at c = first_beyond c.args.separator c.args.text.now c.min-near.result c.in-Some.beyond (omega arith) (λ k low below. c.loop-i.invariant k low (omega (arith, c.loop-i-test.false))) c.in-Some.ensures
