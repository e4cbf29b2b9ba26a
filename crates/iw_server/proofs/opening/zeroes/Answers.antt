use Rattle.iw_server.specs.Opening.{zero_octets}
use Rattle.iw_server.proofs.opening.zeroes.Goals as goal

pub returns-in-Ok : goal.returns-in-Ok
unfolding zero_octets
returns-in-Ok c = c.in-Ok.ensures.items_if_clones_equal (λ y same. same)
