use Rattle.iw_octets.proofs.PartLemmas.{parts_are_taken}
use Rattle.iw_octets.proofs.laws.parts_are_taken.Goals as goal

pub returns : goal.returns
returns c = parts_are_taken
