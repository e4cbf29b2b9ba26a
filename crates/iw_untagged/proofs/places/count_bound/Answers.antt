use Rattle.std.proofs.Common.{◌∙◌, arith}
use Rattle.iw_untagged.proofs.Bounds.{counted}
use Rattle.iw_untagged.proofs.places.count_bound.Goals as goal

pub returns : goal.returns
returns g c =
    c.loop-index.invariant.0 ∙ counted c.args.places.now.items c.loop-index.index (λ k past. c.requires.none k (omega (arith, past, c.loop-index-test.false)))
