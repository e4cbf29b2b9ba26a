-- CRC-32C: the remainder of a division, bit by bit.
use Rattle.std.specs.Prelude.{ℕ, zero, suc, ◌/◌, ◌%◌, ◌*◌, List, [], ◌∷◌, bit_xor}

-- the polynomial 1EDC6F41 with its bits in the other order
abbrev pub polynomial : ℕ
polynomial = 0x82f6_3b78

abbrev pub all_ones : ℕ
all_ones = 0xffff_ffff

-- one bit of the remainder goes out; where it is a one, the polynomial is taken away
unfoldable pub after_bit : ℕ → ℕ
after_bit remainder = bit_xor (remainder / 2) (remainder % 2 * polynomial)

unfoldable pub after_bits : ℕ → ℕ → ℕ
after_bits zero remainder = remainder
after_bits (suc n) remainder = after_bits n (after_bit remainder)

-- an octet goes in, lowest bit first
unfoldable pub after_octet : ℕ → ℕ → ℕ
after_octet remainder octet = after_bits 8 (bit_xor remainder octet)

unfoldable pub after_octets : ℕ → List ℕ → ℕ
after_octets remainder [] = remainder
after_octets remainder (octet ∷ octets) = after_octets (after_octet remainder octet) octets

-- the CRC-32C of these octets
unfoldable pub crc32c : List ℕ → ℕ
crc32c octets = bit_xor (after_octets all_ones octets) all_ones
