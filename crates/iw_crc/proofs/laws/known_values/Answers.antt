use Rattle.std.proofs.Common.{refl}
use Rattle.iw_crc.specs.Crc.{after_bit, after_bits, after_octet, after_octets, crc32c}
use Rattle.iw_crc.proofs.laws.known_values.Goals as goal

pub returns : goal.returns
unfolding after_bit after_bits after_octet after_octets crc32c
returns c = record { first_frame = refl; second_frame = refl; digits = refl; zeros = refl; ones = refl }
