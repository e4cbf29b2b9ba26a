use Rattle.iw_links.specs.Exchange.{zero_octets}
use Rattle.iw_links.proofs.link.zeroes.Goals as goal

pub returns : goal.returns
unfolding zero_octets
returns c = c.in_ok-octets.ensures.items_if_clones_equal (λ y same. same)
