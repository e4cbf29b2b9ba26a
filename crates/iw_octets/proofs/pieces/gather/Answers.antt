use Rattle.std.proofs.Common.{length, arith, subst}
use Rattle.std.specs.Iterator.{Yields}
use Rattle.iw_octets.proofs.Runs.{next_fits}
use Rattle.iw_octets.proofs.pieces.gather.Goals as goal

pub write_at-requires : goal.write_at-requires
write_at-requires g c =
    let steps = g.I.Iterator.next_gives in
    let start = c.into_iter-piece-iterator in
    let step = subst (λ r. steps c.loop-piece.piece-iterator r c.next.new.self) c.in-Some.is c.next.ensures.steps in
    let given_by = subst (λ s. Yields steps s c.loop-piece.yielded c.loop-piece.piece-iterator) start.ensures.into_iter_gives c.loop-piece.yielded_by in
    let fits = next_fits steps c.args.pieces (length c.args.out.now) c.loop-piece.yielded c.loop-piece.piece-iterator c.in-Some.piece c.next.new.self c.requires.fills given_by step in
    omega (arith, fits, c.loop-piece.invariant.0)
