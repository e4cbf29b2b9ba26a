use Rattle.std.proofs.Common.{◌≡◌, ℕ, ◌+◌, ◌≤◌, List, [], ◌∷◌, ◌++◌, length, Option, Some, ap, subst, sym, ◌∙◌, arith, length-append, Bor}
use Rattle.std.specs.Iterator.{Yields}
use Rattle.iw_octets.specs.Octets.{splice}
use Rattle.iw_octets.specs.Pieces.{joined, AddUpTo}
use Rattle.iw_octets.proofs.Runs.{next_fits, joined_push}
use Rattle.iw_untagged.proofs.Splices.{splice-nothing, length-splice, splice-next}
use Rattle.iw_untagged.proofs.buffers.write_pieces.Goals as goal

-- where pieces were written one after the other, there is room for the next
room_left : {S : Type 0} (steps : S → Option (Bor (List ℕ)) → S → Type 0) (pieces : S) (n : ℕ) (given : List (Bor (List ℕ))) (t : S) (piece : Bor (List ℕ)) (u : S) (old buffer : List ℕ) (at : ℕ)
    → AddUpTo steps pieces n → Yields steps pieces given t → steps t (Some piece) u → at + n ≤ length old → buffer ≡ splice old at (joined given)
    → (at + length (joined given) + length piece.now ≤ length old) × (length buffer ≡ length old)
room_left steps pieces n given t piece u old buffer at adds given_by step room is =
    let fits : length (joined given) + length piece.now ≤ n = next_fits steps pieces n given t piece u adds given_by step in
    (omega arith, ap length is ∙ length-splice old at (joined given) (omega arith))

pub loop-piece-init : goal.loop-piece-init
loop-piece-init g c = (omega arith, sym (splice-nothing c.args.buffer.now c.args.at))

pub write_at-requires : goal.write_at-requires
write_at-requires g c =
    let steps = g.I.Iterator.next_gives in
    let step = subst (λ r. steps c.loop-piece.piece-iterator r c.next.new.self) c.in-Some.is c.next.ensures.steps in
    let given_by = subst (λ s. Yields steps s c.loop-piece.yielded c.loop-piece.piece-iterator) c.into_iter-piece-iterator.ensures.into_iter_gives c.loop-piece.yielded_by in
    let left = room_left steps c.args.pieces c.args.n c.loop-piece.yielded c.loop-piece.piece-iterator c.in-Some.piece c.next.new.self c.args.buffer.now c.loop-piece.buffer c.args.at c.requires.fills given_by step c.requires.room c.loop-piece.invariant.1 in
    omega (arith, left.0, left.1, c.loop-piece.invariant.0)

pub overflow_add-end : goal.overflow_add-end
overflow_add-end g c =
    let steps = g.I.Iterator.next_gives in
    let step = subst (λ r. steps c.loop-piece.piece-iterator r c.next.new.self) c.in-Some.is c.next.ensures.steps in
    let given_by = subst (λ s. Yields steps s c.loop-piece.yielded c.loop-piece.piece-iterator) c.into_iter-piece-iterator.ensures.into_iter_gives c.loop-piece.yielded_by in
    let left = room_left steps c.args.pieces c.args.n c.loop-piece.yielded c.loop-piece.piece-iterator c.in-Some.piece c.next.new.self c.args.buffer.now c.loop-piece.buffer c.args.at c.requires.fills given_by step c.requires.room c.loop-piece.invariant.1 in
    omega (arith, left.0, c.loop-piece.invariant.0, c.len.ensures, c.len.type_inv)

pub loop-piece-preserved : goal.loop-piece-preserved
loop-piece-preserved g c =
    let steps = g.I.Iterator.next_gives in
    let step = subst (λ r. steps c.loop-piece.piece-iterator r c.next.new.self) c.in-Some.is c.next.ensures.steps in
    let given_by = subst (λ s. Yields steps s c.loop-piece.yielded c.loop-piece.piece-iterator) c.into_iter-piece-iterator.ensures.into_iter_gives c.loop-piece.yielded_by in
    let left = room_left steps c.args.pieces c.args.n c.loop-piece.yielded c.loop-piece.piece-iterator c.in-Some.piece c.next.new.self c.args.buffer.now c.loop-piece.buffer c.args.at c.requires.fills given_by step c.requires.room c.loop-piece.invariant.1 in
    let given : List ℕ = joined c.loop-piece.yielded in
    let piece : List ℕ = c.in-Some.piece.now in
    let more : joined (c.loop-piece.yielded ++ c.in-Some.piece ∷ []) ≡ given ++ piece = joined_push c.loop-piece.yielded c.in-Some.piece in (
      omega (arith, c.loop-piece.invariant.0, ap length more, length-append given piece),
      splice-next c.args.buffer.now c.loop-piece.buffer c.write_at.new.self given piece (joined (c.loop-piece.yielded ++ c.in-Some.piece ∷ [])) c.args.at c.loop-piece.end c.loop-piece.invariant.1 c.loop-piece.invariant.0 c.write_at.ensures more left.0,
    )
