use Rattle.std.proofs.Common.{refl}
use Rattle.iw_octets.specs.Parts.{full_parts, parts_from}
use Rattle.iw_tagged.proofs.laws.known_parts.Goals as goal

pub returns : goal.returns
unfolding parts_from full_parts
returns c = record { empty = refl; one = refl; one_more = refl; two_full = refl; two = refl }
