-- Octets are folded away sixteen at a time, by look-ups of their halves.
use Rattle.std.specs.Prelude.{ℕ, ◌/◌, List, slice_index, bit_xor, bit_and}

-- what an octet is further on, by its halves
abbrev pub moved : List ℕ → List ℕ → ℕ → ℕ
moved low high octet = bit_xor (slice_index low (bit_and octet 15)) (slice_index high (octet / 16))
