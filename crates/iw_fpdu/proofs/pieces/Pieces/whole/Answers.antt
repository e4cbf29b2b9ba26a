use Rattle.std.proofs.Common.{◌≤◌, ◌-◌, ◌∙◌, sym, arith, inl, inr}
use Rattle.std.proofs.lemmas.Bool.{cases_lt}
use Rattle.iw_fpdu.proofs.Left.{left_all, within_run}
use Rattle.iw_fpdu.proofs.pieces.Pieces.whole.Goals as goal

pub split_at-requires : goal.split_at-requires
split_at-requires c =
    let a = c.self.inside in
    elim (cases_lt 0 a.left) [
      | inl some ↦ omega (arith, c.self.invariant.reaches (a.left - 1) (omega (arith, some)), within_run a.run (a.left - 1) (omega (arith, some, c.if-self.false)))
      | inr none ↦ omega (arith, none)
    ]

pub returns : goal.returns
returns c =
    let a = c.self.inside in
    let fits : a.left ≤ a.run = omega (arith, c.if-self.false) in
    sym c.self.view_is ∙ left_all a.rest.now a.run a.left fits (omega (arith, c.split_at.ensures.front_len, c.split_at.ensures.back_len)) ∙ sym c.split_at.ensures.front
