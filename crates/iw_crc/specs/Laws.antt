-- The CRC is the same in whatever pieces octets are added; values that its definition computes to.
use Rattle.std.specs.Prelude.{ℕ, ◌≡◌, List, ◌∷◌, ◌++◌, codes, replicate}
use Rattle.iw_crc.specs.Crc.{after_octets, crc32c}

-- octets in two pieces
pub record AddsInPieces : Type 0 where
  pub pieces : (remainder : ℕ) (octets more : List ℕ) → after_octets remainder (octets ++ more) ≡ after_octets (after_octets remainder octets) more

-- the segment that RFC 5044 prints in two frames (figures 5 and 6), up to its message sequence number
abbrev pub printed_send : List ℕ
printed_send = 0 ∷ 0x2a ∷ 0x41 ∷ 0x43 ∷ replicate 11 0

-- values that the definition of the CRC computes to: the two printed frames, and runs of octets
pub record KnownValues : Type 0 where
  pub first_frame : crc32c (replicate 4 0 ++ printed_send ++ 1 ∷ replicate 28 0) ≡ 0x8399_2352
  pub second_frame : crc32c (printed_send ++ 2 ∷ replicate 4 0 ++ 0 ∷ 0 ∷ 0 ∷ 0x14 ∷ replicate 24 0) ≡ 0x9858_9284
  pub digits : crc32c (codes "123456789") ≡ 0xe306_9283
  pub zeros : crc32c (replicate 32 0) ≡ 0x8a91_36aa
  pub ones : crc32c (replicate 32 0xff) ≡ 0x62a8_ab43
