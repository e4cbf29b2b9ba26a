-- Sequence numbers that wrap, and the places of a stream that they name (RFC 9293 3.4).
use Rattle.std.specs.Prelude.{ℕ, ◌≡◌, ◌+◌, ◌-◌, ◌%◌, ◌^◌, ◌<◌, ◌≤◌, nat_lt, if◌then◌else◌, ℤ, pos, negsuc, ◌+ℤ◌, ◌-ℤ◌, ◌<ℤ◌, ◌≤ℤ◌}
use Rattle.std.specs.Int.{int_rem_euclid}

-- the number of the octet at a place: that of place 0 is `first`, numbers count modulo 2^32, and places before the stream are negative
abbrev pub number_at : ℕ → ℤ → ℤ
number_at first place = int_rem_euclid (pos first +ℤ place) (pos (2 ^ 32))

-- the octet at `place` has this number, and it lies less than 2^31 octets past `floor`, or at most 2^31 before it
pub record IsNearest (number first floor : ℕ) (place : ℤ) : Type 0 where
  pub named : number_at first place ≡ pos number
  pub low : pos floor ≤ℤ (place +ℤ pos (2 ^ 31))
  pub high : place <ℤ (pos floor +ℤ pos (2 ^ 31))

-- no two places near to one place have the same number
abbrev pub TellsPlaces : Type 0
TellsPlaces = (number first floor : ℕ) (place other : ℤ) → IsNearest number first floor place → IsNearest number first floor other → place ≡ other

-- ---- the same where octets before the stream are left out
-- how many octets past `floor` the next octet with this number lies
unfoldable pub numbers_ahead : ℕ → ℕ → ℕ → ℕ
numbers_ahead number first floor = (number + 2 ^ 32 - (first + floor) % 2 ^ 32) % 2 ^ 32

-- the place near to `floor` of the octet with this number, or 0 where it lies before the stream
unfoldable pub place_near : ℕ → ℕ → ℕ → ℕ
place_near number first floor =
    let ahead = numbers_ahead number first floor in if nat_lt ahead (2 ^ 31) then floor + ahead else floor + ahead - 2 ^ 32

-- and how far before the stream it lies then
unfoldable pub before_start : ℕ → ℕ → ℕ → ℕ
before_start number first floor =
    let ahead = numbers_ahead number first floor in if nat_lt ahead (2 ^ 31) then 0 else 2 ^ 32 - (floor + ahead)

pub record TellsNear : Type 0 where
  -- it is the nearest place
  pub nearest : (number first floor : ℕ) → number < 2 ^ 32 → IsNearest number first floor (pos (place_near number first floor) -ℤ pos (before_start number first floor))
  -- the number of a place of the stream that is near gives it back
  pub back : (first place floor : ℕ) → floor ≤ place + 2 ^ 31 → place < floor + 2 ^ 31 → place_near ((first + place) % 2 ^ 32) first floor ≡ place
  pub inside : (first place floor : ℕ) → floor ≤ place + 2 ^ 31 → place < floor + 2 ^ 31 → before_start ((first + place) % 2 ^ 32) first floor ≡ 0

-- where the first octet has the number 2^32 - 100: places ahead, past the wrap, and before the in-order point and the stream
pub record KnownPlaces : Type 0 where
  pub at_first : IsNearest 4294967196 4294967196 0 (pos 0)
  pub before_the_wrap : IsNearest 4294967295 4294967196 0 (pos 99)
  pub past_the_wrap : IsNearest 0 4294967196 0 (pos 100)
  pub wrapped_once : IsNearest 4294967196 4294967196 4294967290 (pos 4294967296)
  pub behind_the_floor : IsNearest 400 4294967196 2000 (pos 500)
  pub before_the_stream : IsNearest 4294967195 4294967196 0 (negsuc 0)
  pub farthest_ahead : IsNearest 2147483647 0 0 (pos 2147483647)
  pub farthest_behind : IsNearest 2147483648 0 0 (negsuc 2147483647)
