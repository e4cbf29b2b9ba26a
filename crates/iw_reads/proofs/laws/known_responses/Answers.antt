use Rattle.std.proofs.Common.{refl}
use Rattle.iw_octets.specs.Parts.{full_parts, parts_from}
use Rattle.iw_reads.proofs.laws.known_responses.Goals as goal

pub returns : goal.returns
unfolding full_parts parts_from
returns c = record { one = refl; two = refl; empty = refl; wraps = refl }
