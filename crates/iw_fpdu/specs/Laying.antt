-- How the octets of a frame are appended, piece by piece.
use Rattle.std.specs.Prelude.{ℕ, ◌+◌, ◌-◌, ◌/◌, ◌%◌, ◌^◌, ◌≤◌, ◌<◌, ◌≡◌, ◌⊎◌, Bool, true, false, ◌&&◌, ◌==◌, if◌then◌else◌, List, [], ◌∷◌, length}
use Rattle.iw_fpdu.specs.Places.{data_index, place_after}
use Rattle.iw_fpdu.specs.Frame.{laid, marker_octets}

-- a piece of a frame may begin or end at this place: it is not within a marker
abbrev pub IsEdge : Bool → ℕ → Type 0
IsEdge true p = (p % 512 ≡ 0) ⊎ (4 ≤ p % 512)
IsEdge false p = Unit {0}

-- none of the n places from a on is a marker's
abbrev pub IsRun : Bool → ℕ → ℕ → Type 0
IsRun true a n = (4 ≤ a % 512) × (n + a % 512 ≤ 512)
IsRun false a n = Unit {0}

-- the marker at a place, if there is one
unfoldable pub marker_before : Bool → ℕ → ℕ → List ℕ
marker_before markers start at = if markers && (at % 512 == 0) then marker_octets start (at / 512) else []

-- the marker directly before a place at which a frame begins, if there is one
unfoldable pub marker_beyond : Bool → ℕ → List ℕ
marker_beyond markers at = if markers && (at % 512 == 4) then 0 ∷ 0 ∷ 0 ∷ 0 ∷ [] else []

-- octets of the frame that begins at `start`, from place `at` on, with the markers before and among them
abbrev pub laid_from : ℕ → ℕ → List ℕ → List ℕ
laid_from start at octets = laid true start (data_index true at) octets at (place_after true at (length octets))

-- n octets of the frame that begins at `start` may be appended at place `at` after `len` octets of `capacity`: there is
-- room, the markers among them can point to the start, and no place is too large
pub record HasRoom (markers : Bool) (start at n len capacity : ℕ) : Type 0 where
  pub edge : IsEdge markers at
  pub room : len + (place_after markers at n - at) ≤ capacity
  pub near : place_after markers at n ≤ start + 2 ^ 16
  pub low : place_after markers at n < 2 ^ 63 + 2 ^ 17
