-- Octets are folded away: 1 + x^32 + x^107 + x^113 + x^136 + x^290 is a multiple of the polynomial, and so is its eighth
-- power. So an octet may be taken away where it is added 154, 177, 183, 258 and 290 octets further on, and the remainder stays.
use Rattle.std.specs.Prelude.{ℕ, ◌≡◌, ◌≤◌, ◌*◌, ◌^◌, List, [], ◌∷◌, ◌++◌, length, drop, slice_index, bit_xor}
use Rattle.iw_crc.specs.Crc.{after_bits}

-- octets as one number, the first octet lowest
abbrev pub little : List ℕ → ℕ
little [] = 0
little (octet ∷ octets) = bit_xor (little octets * 2 ^ 8) octet

abbrev pub sum_of_five : ℕ → ℕ → ℕ → ℕ → ℕ → ℕ
sum_of_five a b c d e = bit_xor (bit_xor (bit_xor (bit_xor a b) c) d) e

-- a window holds the last 290 octets that were taken away, the oldest first; what it adds to the next octet
abbrev pub owed_next : List ℕ → ℕ
owed_next window = sum_of_five (slice_index window 0) (slice_index window 32) (slice_index window 107) (slice_index window 113) (slice_index window 136)

-- all that it adds, as one number
abbrev pub owed : List ℕ → ℕ
owed window = sum_of_five (little window) (little (drop 32 window)) (little (drop 107 window)) (little (drop 113 window)) (little (drop 136 window))

-- the remainder of octets with what a window adds to them
unfoldable pub remainder_with : List ℕ → List ℕ → ℕ
remainder_with window octets = after_bits (8 * length octets) (bit_xor (little octets) (owed window))

-- the octets at the front are folded into the window: with any that come after, the remainder stays
abbrev pub Folds : List ℕ → List ℕ → List ℕ → Type 0
Folds old front new = (beyond : List ℕ) → 290 ≤ length beyond → remainder_with old (front ++ beyond) ≡ remainder_with new beyond
