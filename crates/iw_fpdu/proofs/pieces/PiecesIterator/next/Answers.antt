use Rattle.std.proofs.Common.{◌≡◌, ◌<◌, ◌+◌, ◌-◌, ◌++◌, length, drop, ap, ◌∙◌, sym, arith}
use Rattle.std.proofs.lemmas.List.{append-nil}
use Rattle.iw_fpdu.proofs.Left.{left_in, left_all, left_past, length_left, within_run, past_run, next_run}
use Rattle.iw_fpdu.proofs.pieces.PiecesIterator.next.Goals as goal

pub split_at-requires : goal.split_at-requires
split_at-requires c =
    let a = c.self.inside in
    let last : a.left - 1 < a.run = omega (arith, c.if-self.true, c.if-self-eq0.false) in
    omega (arith, c.self.invariant.reaches (a.left - 1) (omega (arith, c.if-self-eq0.false)), within_run a.run (a.left - 1) last)

pub returns-then-self-clause-steps : goal.returns-then-self-clause-steps
returns-then-self-clause-steps c =
    let a = c.self.inside in
    let piece = c.split_at.result.0.now in (
      omega (arith, c.split_at.ensures.front_len, c.if-self-eq0.false),
      sym c.self.view_is ∙ left_all a.rest.now a.run a.left c.if-self.true (omega (arith, c.split_at.ensures.front_len, c.split_at.ensures.back_len)) ∙ sym c.split_at.ensures.front ∙ sym (append-nil piece),
    )

pub split_at-requires-2 : goal.split_at-requires-2
split_at-requires-2 c =
    let a = c.self.inside in
    omega (arith, c.self.invariant.reaches a.run (omega (arith, c.if-self.false)), past_run a.run a.run (omega arith))

pub split_at-requires-3 : goal.split_at-requires-3
split_at-requires-3 c =
    let a = c.self.inside in
    omega (arith, c.self.invariant.reaches a.run (omega (arith, c.if-self.false)), past_run a.run a.run (omega arith), c.split_at-2.ensures.back_len)

pub invariant_of-self-2 : goal.invariant_of-self-2
invariant_of-self-2 c =
    let a = c.self.inside in
    record {
      begins = λ some. omega arith;
      reaches = λ k lt. omega (arith, c.self.invariant.reaches (a.run + k) (omega (arith, c.if-self.false, lt)), next_run a.run k, c.split_at-2.ensures.back_len, c.split_at-3.ensures.back_len);
    }

pub returns-clause-steps : goal.returns-clause-steps
returns-clause-steps c =
    let a = c.self.inside in
    let beyond : c.split_at-3.result.1.now ≡ drop 4 (drop a.run a.rest.now) = c.split_at-3.ensures.back ∙ ap (drop 4) c.split_at-2.ensures.back in (
      omega (arith, c.split_at-2.ensures.front_len, c.self.invariant.begins (omega (arith, c.if-self-eq0.false))),
      sym c.self.view_is
          ∙ left_past a.rest.now a.run a.left (omega (arith, c.if-self.false)) (omega (arith, c.split_at-2.ensures.front_len, c.split_at-2.ensures.back_len))
          ∙ ap (λ xs. xs ++ left_in (drop 4 (drop a.run a.rest.now)) 508 (a.left - a.run)) (sym c.split_at-2.ensures.front)
          ∙ ap (λ xs. c.split_at-2.result.0.now ++ left_in xs 508 (a.left - a.run)) (sym beyond),
    )

pub returns-clause-goes : goal.returns-clause-goes
returns-clause-goes c =
    let a = c.self.inside in
    let some : 0 < a.run = c.self.invariant.begins (omega (arith, c.if-self-eq0.false)) in
    let fewer : length (left_in c.split_at-3.result.1.now 508 (a.left - a.run)) < length c.args.self.now =
    omega (arith, length_left c.split_at-3.result.1.now 508 (a.left - a.run), length_left a.rest.now a.run a.left, ap length c.self.view_is, c.if-self.false) in
    record {
      on = λ f. (tt, tt, fewer);
      keeps = tt;
      rests = λ f. tt;
    }
