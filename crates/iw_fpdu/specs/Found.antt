-- A frame among octets that came.
use Rattle.std.specs.Prelude.{ℕ, ◌+◌, ◌-◌, ◌<◌, ◌≤◌, ◌≡◌, ◌^◌, Bool, true, false, List, Option}
use Rattle.std.specs.List.{range_with_len, list_all}
use Rattle.iw_ranges.specs.Arrived.{Arrived, Cell, Missing, Here, Gone, cell_at, has_come}
use Rattle.iw_fpdu.specs.declared.layout.Layout.{Layout}
use Rattle.iw_fpdu.specs.declared.fpdu.Mismatch.{Mismatch}
use Rattle.iw_fpdu.specs.Places.{IsStart, span_start}
use Rattle.iw_fpdu.specs.Reading.{length_at, ulpdu_at, end_at, mismatch_at}

-- what came, the layout of the direction, the stream place of frame place 0, and the frame place where the frame begins
pub record Found : Type 0 where
  pub arrived : Arrived
  pub layout : Layout
  pub base : ℕ
  pub start : ℕ

-- the octet that is held at a place of the stream; 0 if none is
abbrev pub octet_of : Cell → ℕ
octet_of Missing = 0
octet_of (Here x) = x
octet_of Gone = 0

-- the octet at frame place p
abbrev pub octet_in : Arrived → ℕ → ℕ → ℕ
octet_in arrived base p = octet_of (cell_at arrived (base + p))

-- every octet of the frame's span has come: of the frame, its markers, and the marker directly before it
abbrev pub IsWhole : Arrived → Bool → ℕ → ℕ → Type 0
IsWhole arrived markers base start =
    (p : ℕ) → span_start markers start ≤ p → p < end_at (octet_in arrived base) markers start → has_come arrived (base + p) ≡ true

-- the same as a test
unfoldable pub is_whole : Arrived → Bool → ℕ → ℕ → Bool
is_whole arrived markers base start =
    list_all (λ p. has_come arrived (base + p)) (range_with_len (span_start markers start) (end_at (octet_in arrived base) markers start - span_start markers start))

-- an octet of the span has not come
abbrev pub LacksOctet : Arrived → Bool → ℕ → ℕ → Type 0
LacksOctet arrived markers base start =
    (p : ℕ) × (span_start markers start ≤ p) × (p < end_at (octet_in arrived base) markers start) × (has_come arrived (base + p) ≡ false)

-- an octet that was not given up
abbrev pub IsKept : Cell → Type 0
IsKept Missing = Unit {0}
IsKept (Here x) = Unit {0}
IsKept Gone = ⊥

-- none of the span's octets was given up
abbrev pub HoldsSpan : Found → Type 0
HoldsSpan f = (p : ℕ) → span_start f.layout.markers f.start ≤ p → p < end_at (octet_in f.arrived f.base) f.layout.markers f.start → IsKept (cell_at f.arrived (f.base + p))

-- the length of the ULPDU, the ULPDU, and what is wrong with the frame
abbrev pub ulpdu_len : Found → ℕ
ulpdu_len f = length_at (octet_in f.arrived f.base) f.start

abbrev pub ulpdu : Found → List ℕ
ulpdu f = ulpdu_at (octet_in f.arrived f.base) f.layout.markers f.start

abbrev pub mismatch : Found → Option Mismatch
mismatch f = mismatch_at f.layout (octet_in f.arrived f.base) f.start (ulpdu_len f)

-- what holds of each frame that was read
pub record IsRead (f : Found) (n : ℕ) : Type 0 where
  pub start : IsStart f.layout.markers f.start
  pub low : f.start < 2 ^ 63
  pub whole : IsWhole f.arrived f.layout.markers f.base f.start
  pub len : n ≡ ulpdu_len f
  pub fits : f.base + end_at (octet_in f.arrived f.base) f.layout.markers f.start < 2 ^ 64
