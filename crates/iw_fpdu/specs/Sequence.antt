-- The frames of one direction, one after another: how they are written, and how they are read from octets that came
-- without a gap.
use Rattle.std.specs.Prelude.{ℕ, zero, suc, ◌+◌, ◌-◌, nat_lt, List, [], ◌∷◌, ◌++◌, length, drop, if◌then◌else◌, Option, Some, None}
use Rattle.std.specs.Option.{option_map_or}
use Rattle.iw_fpdu.specs.declared.layout.Layout.{Layout}
use Rattle.iw_fpdu.specs.declared.fpdu.Mismatch.{Mismatch}
use Rattle.iw_fpdu.specs.Places.{frame_start}
use Rattle.iw_fpdu.specs.Frame.{frame_end, frame_octets}
use Rattle.iw_fpdu.specs.PiecesOctet.{octet_from}
use Rattle.iw_fpdu.specs.Reading.{length_at, ulpdu_at, end_at, mismatch_at}

-- the frames of these ULPDUs, the first written at place `at`
unfoldable pub sequence : Layout → ℕ → List (List ℕ) → List ℕ
sequence layout at [] = []
sequence layout at (u ∷ us) = frame_octets layout at u ++ sequence layout (frame_end layout.markers at (length u)) us

-- where the next one is written
unfoldable pub place_past : Layout → ℕ → List (List ℕ) → ℕ
place_past layout at [] = at
place_past layout at (u ∷ us) = place_past layout (frame_end layout.markers at (length u)) us

-- a frame as it is read: what is wrong with it, and its ULPDU
pub record Carried : Type 0 where
  pub mismatch : Option Mismatch
  pub ulpdu : List ℕ

-- a frame with this ULPDU and nothing wrong with it
abbrev pub intact : List ℕ → Carried
intact u = record { mismatch = None; ulpdu = u }

abbrev pub carried_at : Layout → (ℕ → ℕ) → ℕ → Carried
carried_at layout octet start = record { mismatch = mismatch_at layout octet start (length_at octet start); ulpdu = ulpdu_at octet layout.markers start }

-- the frame at the front of octets, the first of which is at place `at`, if it is whole; and the octets after it
unfoldable pub first_frame : Layout → ℕ → List ℕ → Option (Carried × List ℕ)
first_frame layout at octets =
    let start : ℕ = frame_start layout.markers at in
    let octet : ℕ → ℕ = octet_from at octets in
    if nat_lt (at + length octets) (start + 2) then None
    else if nat_lt (at + length octets) (end_at octet layout.markers start) then None
    else Some (carried_at layout octet start, drop (end_at octet layout.markers start - at) octets)

-- at most n frames that are whole, one after another
unfoldable pub frames_within : ℕ → Layout → ℕ → List ℕ → List Carried
frames_within zero layout at octets = []
frames_within (suc n) layout at octets =
    option_map_or (λ first. first.0 ∷ frames_within n layout (at + (length octets - length first.1)) first.1) (first_frame layout at octets) []

-- all of them
abbrev pub frames_of : Layout → ℕ → List ℕ → List Carried
frames_of layout at octets = frames_within (length octets) layout at octets
