use Rattle.std.specs.Prelude.{ℕ, ◌+◌, ◌*◌, ◌/◌, ◌%◌, ◌<◌, ◌^◌, List, [], ◌∷◌, ◌++◌, take, drop, slice_index}
use Rattle.std.specs.Int.{w16, to_be_bytes, from_be_bytes}

-- what an STag names: a domain, a slot of it, and a key
pub record StagFields : Type 0 where
  pub domain : ℕ
  pub slot : ℕ
  pub key : ℕ

-- the STag as a number of 32 bits: domain, slot and key, the domain in the highest octet
abbrev pub number_of : StagFields → ℕ
number_of stag = stag.domain * 0x1000000 + stag.slot * 0x100 + stag.key

-- the STag that a number is
abbrev pub stag_of : ℕ → StagFields
stag_of number = record { domain = number / 0x1000000; slot = number / 0x100 % 0x10000; key = number % 0x100 }

-- its four octets in a header
abbrev pub spelled : StagFields → List ℕ
spelled stag = stag.domain ∷ to_be_bytes w16 stag.slot ++ stag.key ∷ []

-- the STag in the four octets from a place on
abbrev pub stag_at : List ℕ → ℕ → StagFields
stag_at octets at = record {
  domain = slice_index octets at;
  slot = from_be_bytes w16 (take 2 (drop (at + 1) octets));
  key = slice_index octets (at + 3);
}

-- the numbers fit their fields
pub record FitsStag (stag : StagFields) : Type 0 where
  pub domain : stag.domain < 256
  pub slot : stag.slot < 2 ^ 16
  pub key : stag.key < 256
