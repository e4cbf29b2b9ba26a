use Rattle.std.proofs.Common.{◌≤◌, ◌+◌, ◌-◌, ◌++◌, length, ◌∙◌, sym, arith, inl, inr}
use Rattle.std.proofs.lemmas.Bool.{cases_lt}
use Rattle.iw_fpdu.proofs.Left.{left_in, left_front, shifted_run, within_run}
use Rattle.iw_fpdu.proofs.pieces.Pieces.split_front.Goals as goal

pub split_at-requires : goal.split_at-requires
split_at-requires c =
    let a = c.self.inside in
    elim (cases_lt 0 c.args.k) [
      | inl some ↦ omega (arith, c.self.invariant.reaches (c.args.k - 1) (omega (arith, some, c.if-self-k.false)), within_run a.run (c.args.k - 1) (omega (arith, some, c.if-self-k-2.false)))
      | inr none ↦ omega (arith, none)
    ]

pub invariant_of-pieces : goal.invariant_of-pieces
invariant_of-pieces c =
    let a = c.self.inside in
    record {
      begins = λ some. omega (arith, c.if-self-k-2.false);
      reaches = λ j lt. omega (arith, c.self.invariant.reaches (c.args.k + j) (omega (arith, lt, c.if-self-k.false)), shifted_run a.run c.args.k j (omega (arith, c.if-self-k-2.false)), c.split_at.ensures.front_len, c.split_at.ensures.back_len);
    }

pub returns : goal.returns
returns c =
    let a = c.self.inside in
    let run : c.args.k ≤ a.run = omega (arith, c.if-self-k-2.false) in
    let left : c.args.k ≤ a.left = omega (arith, c.if-self-k.false) in
    let within : c.args.k ≤ length a.rest.now = omega (arith, c.split_at.ensures.front_len, c.split_at.ensures.back_len) in (
      sym c.self.view_is ∙ left_front a.rest.now a.run a.left c.args.k run left within
          ∙ (λ i. sym c.split_at.ensures.front i ++ left_in (sym c.split_at.ensures.back i) (a.run - c.args.k) (a.left - c.args.k)),
      omega (arith, c.split_at.ensures.front_len),
    )
