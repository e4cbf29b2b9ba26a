use Rattle.std.proofs.Common.{◌≡◌, ◌++◌, ◌∷◌, [], ap, ◌∙◌, sym, replicate, arith}
use Rattle.iw_laws.specs.Rules.{no_wires}
use Rattle.iw_laws.proofs.Lists.{replicate-push}
use Rattle.iw_world.proofs.host.Host.new.Goals as goal

pub loop-i-preserved : goal.loop-i-preserved
loop-i-preserved g c = c.in_ok-push.ensures.items ∙ (λ i. c.loop-i.invariant i ++ c.new.ensures i ∷ []) ∙ sym (replicate-push c.loop-i._i [])

pub returns : goal.returns
unfolding no_wires
returns g c =
    let full : c.loop-i._i ≡ 64 = omega arith in
    (λ i. record { endpoint = c.new-endpoint.ensures i; wires = (c.loop-i.invariant ∙ ap (λ n. replicate n []) full) i })
