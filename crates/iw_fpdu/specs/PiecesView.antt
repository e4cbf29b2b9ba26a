-- What is left of a ULPDU that is given piece by piece.
use Rattle.std.specs.Prelude.{ℕ, ◌+◌, ◌-◌, ◌*◌, ◌/◌, ◌<◌, nat_lt, if◌then◌else◌, List, map, length, slice_index}
use Rattle.std.specs.List.{range_with_len}
use Rattle.iw_fpdu.specs.declared.pieces.Pieces.TheInside.{Inside}

-- where octet k of what is left is among the octets at hand: the first `run` come before the next marker, and 508 after
-- each
unfoldable pub rest_place : ℕ → ℕ → ℕ
rest_place run k = if nat_lt k run then k else k + 4 * ((k - run) / 508 + 1)

-- the octets that are still to be given
abbrev pub octets_left : Inside → List ℕ
octets_left a = map (λ k. slice_index a.rest.now (rest_place a.run k)) (range_with_len 0 a.left)

-- the octets at hand include all that is left, and the first of them is not a marker's
pub record CanGive (a : Inside) : Type 0 where
  pub begins : 0 < a.left → 0 < a.run
  pub reaches : (k : ℕ) → k < a.left → rest_place a.run k < length a.rest.now
