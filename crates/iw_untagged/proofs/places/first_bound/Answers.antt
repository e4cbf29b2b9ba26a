use Rattle.std.proofs.Common.{None, sym, ap, ◌∙◌, arith, inl, inr}
use Rattle.std.specs.Prelude.{is_some}
use Rattle.std.proofs.lemmas.Bool.{cases_lt}
use Rattle.std.proofs.lemmas.List.{get_or_default}
use Rattle.std.proofs.lemmas.List.Sums.{position_or_len_is}
use Rattle.iw_untagged.proofs.places.first_bound.Goals as goal

pub returns-then-is_some : goal.returns-then-is_some
returns-then-is_some g c =
    sym (position_or_len_is is_some c.args.places.now.items c.loop-index.index None (omega (arith, c.requires.limit, c.requires.count)) c.loop-index.invariant (λ lt.
    ap is_some (get_or_default c.args.places.now.items c.loop-index.index None c.index.result.now lt ∙ sym c.index.ensures) ∙ sym c.if-is_some.ensures))

pub returns : goal.returns
returns g c =
    sym (position_or_len_is is_some c.args.places.now.items c.len.result None (omega arith) (λ k lt. elim (cases_lt k c.args.end) [
      | inl before ↦ c.loop-index.invariant k (omega arith)
      | inr from ↦ ap is_some (c.requires.none k from)
    ]) (λ lt. absurd (omega arith)))
