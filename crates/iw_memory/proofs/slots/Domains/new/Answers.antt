use Rattle.std.proofs.Common.{ap, ◌∙◌}
use Rattle.iw_memory.specs.Inside.{all_places}
use Rattle.iw_memory.proofs.PlaceLemmas.{all_places-none}
use Rattle.iw_memory.proofs.slots.Domains.new.Goals as goal

pub returns : goal.returns
returns g c = ap all_places c.new.ensures.items ∙ all_places-none
