use Rattle.std.proofs.Common.{None, Some, refl, ap}
use Rattle.iw_schedules.proofs.InPieces.{split_at_byte, rest_of}
use Rattle.iw_schedules.proofs.pieces.split_at.Goals as goal

pub returns-in-None-clause-front : goal.returns-in-None-clause-front
returns-in-None-clause-front c = rw (split_at_byte c.args.separator c.args.text.now None c.in-None.ensures.at) refl

pub returns-in-None-clause-back : goal.returns-in-None-clause-back
returns-in-None-clause-back c = rw (split_at_byte c.args.separator c.args.text.now None c.in-None.ensures.at) refl

pub returns-in-Some-clause-front : goal.returns-in-Some-clause-front
returns-in-Some-clause-front c = rw (split_at_byte c.args.separator c.args.text.now (Some c.in-Some.at) c.in-Some.ensures.at) refl

pub returns-in-Some-clause-back : goal.returns-in-Some-clause-back
returns-in-Some-clause-back c = rw (split_at_byte c.args.separator c.args.text.now (Some c.in-Some.at) c.in-Some.ensures.at) (ap Some (rest_of c.args.text.now c.in-Some.at))
