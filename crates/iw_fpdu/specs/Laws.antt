-- Frames that were written are read back, whole frames stay as they are, and values of the definitions computed by
-- hand.
use Rattle.std.specs.Prelude.{ℕ, ◌+◌, ◌<◌, ◌≤◌, ◌≡◌, ◌%◌, ◌-◌, ◌&&◌, Bool, true, false, not, if◌then◌else◌, List, [], ◌∷◌, ◌++◌, length, map, drop, replicate, All, Some, None}
use Rattle.std.specs.Bool.{Decides}
use Rattle.iw_ranges.specs.Arrived.{Arrived, Here, cell_at, has_come, cells_between, delivered}
use Rattle.iw_fpdu.specs.declared.layout.Layout.{Layout}
use Rattle.iw_fpdu.specs.declared.fpdu.Mismatch.TheVariants.{CrcMismatch, MarkerMismatch}
use Rattle.iw_fpdu.specs.Places.{IsStart, data_place, frame_start, span_start}
use Rattle.iw_fpdu.specs.Frame.{max_sent, marker_value, frame_end, frame_octet, frame_octets}
use Rattle.iw_fpdu.specs.Reading.{crc_agrees, end_at, mismatch_at}
use Rattle.iw_fpdu.specs.Found.{Found, octet_in, IsWhole, LacksOctet, is_whole, ulpdu_len, ulpdu, mismatch}
use Rattle.iw_fpdu.specs.Sequence.{Carried, intact, sequence, place_past, first_frame, frames_of}

-- ---- one frame after another
-- where a frame may be written with its whole span: at a multiple of four octets that is not directly after a marker
pub record IsBetween (markers : Bool) (at : ℕ) : Type 0 where
  pub aligned : at % 4 ≡ 0
  pub span : span_start markers (frame_start markers at) ≡ at

pub record FramesFollow : Type 0 where
  pub first : (markers : Bool) → IsBetween markers 0
  pub next : (markers : Bool) (start len : ℕ) → IsStart markers start → IsBetween markers (frame_end markers start len)
  pub begins : (markers : Bool) (at : ℕ) → IsBetween markers at → IsStart markers (frame_start markers at)
  pub ends : (markers : Bool) (at len : ℕ) → frame_end markers (frame_start markers at) len ≡ frame_end markers at len

-- ---- whole frames
-- the test decides whether a frame is whole
abbrev pub TellsWhole : Type 0
TellsWhole = (arrived : Arrived) (markers : Bool) (base start : ℕ) → Decides (is_whole arrived markers base start) (IsWhole arrived markers base start)

-- ---- what was written
abbrev pub found_at : Arrived → Layout → ℕ → ℕ → Found
found_at arrived layout base start = record { arrived = arrived; layout = layout; base = base; start = start }

pub record IsReadAgain (found : Found) (octets : List ℕ) : Type 0 where
  pub whole : IsWhole found.arrived found.layout.markers found.base found.start
  pub len : ulpdu_len found ≡ length octets
  pub ulpdu : ulpdu found ≡ octets
  pub agrees : mismatch found ≡ None

-- at each place of its span, the octet of this ULPDU's frame came and is held
abbrev pub HoldsFrame : Arrived → Layout → ℕ → ℕ → List ℕ → Type 0
HoldsFrame arrived layout base start octets =
    (p : ℕ) → span_start layout.markers start ≤ p → p < frame_end layout.markers start (length octets) → cell_at arrived (base + p) ≡ Here (frame_octet layout start octets p)

-- for each layout: if its octets are held at any place where a frame may begin, and if they were written at any place
pub record ReadsAgain : Type 0 where
  pub held : (arrived : Arrived) (layout : Layout) (base start : ℕ) (octets : List ℕ) → IsStart layout.markers start → length octets ≤ max_sent
      → HoldsFrame arrived layout base start octets → IsReadAgain (found_at arrived layout base start) octets
  pub written : (arrived : Arrived) (layout : Layout) (base at : ℕ) (octets : List ℕ) → IsBetween layout.markers at → length octets ≤ max_sent
      → map Here (frame_octets layout at octets) ≡ cells_between arrived (base + at) (base + frame_end layout.markers at (length octets))
      → IsReadAgain (found_at arrived layout base (frame_start layout.markers at)) octets

-- ---- frames one after another
-- the first frame of octets is the same whatever follows them
abbrev pub FirstStays : Type 0
FirstStays = (layout : Layout) (at : ℕ) (octets more : List ℕ) (carried : Carried) (rest : List ℕ) → IsBetween layout.markers at
    → first_frame layout at octets ≡ Some (carried, rest) → first_frame layout at (octets ++ more) ≡ Some (carried, rest ++ more)

-- a frame that was written is the first of any octets that begin with it
abbrev pub WrittenIsFirst : Type 0
WrittenIsFirst = (layout : Layout) (at : ℕ) (u rest : List ℕ) → IsBetween layout.markers at → length u ≤ max_sent
    → first_frame layout at (frame_octets layout at u ++ rest) ≡ Some (intact u, rest)

-- the frame has at least one octet, and where it ends the next is written
pub record FirstTakes (layout : Layout) (at : ℕ) (octets rest : List ℕ) : Type 0 where
  pub shorter : length rest < length octets
  pub next : IsBetween layout.markers (at + (length octets - length rest))

abbrev pub FirstLeavesLess : Type 0
FirstLeavesLess = (layout : Layout) (at : ℕ) (octets : List ℕ) (carried : Carried) (rest : List ℕ) → IsBetween layout.markers at
    → first_frame layout at octets ≡ Some (carried, rest) → FirstTakes layout at octets rest

-- these octets are held from frame place `at` on, and the next octet has not come
pub record StandFrom (arrived : Arrived) (base at : ℕ) (octets : List ℕ) : Type 0 where
  pub held : map Here octets ≡ cells_between arrived (base + at) (base + at + length octets)
  pub missing : has_come arrived (base + at + length octets) ≡ false

-- the frame found among octets that came is the first of those held there without a gap
pub record FoundIsFirst : Type 0 where
  pub whole : (arrived : Arrived) (layout : Layout) (base at : ℕ) (octets : List ℕ) → IsBetween layout.markers at → StandFrom arrived base at octets
      → IsWhole arrived layout.markers base (frame_start layout.markers at)
      → first_frame layout at octets
      ≡ Some (
        record { mismatch = mismatch (found_at arrived layout base (frame_start layout.markers at)); ulpdu = ulpdu (found_at arrived layout base (frame_start layout.markers at)) },
        drop (end_at (octet_in arrived base) layout.markers (frame_start layout.markers at) - at) octets,
      )
  pub lacking : (arrived : Arrived) (layout : Layout) (base at : ℕ) (octets : List ℕ) → IsBetween layout.markers at → StandFrom arrived base at octets
      → LacksOctet arrived layout.markers base (frame_start layout.markers at) → first_frame layout at octets ≡ None

-- frames that were written one after another are read in that order, and the next is written where the last ends
pub record SequenceIsRead (layout : Layout) (at : ℕ) (us : List (List ℕ)) : Type 0 where
  pub frames : frames_of layout at (sequence layout at us) ≡ map intact us
  pub place : place_past layout at us ≡ at + length (sequence layout at us)
  pub next : IsBetween layout.markers (place_past layout at us)

abbrev pub SequencesAreRead : Type 0
SequencesAreRead = (layout : Layout) (at : ℕ) (us : List (List ℕ)) → IsBetween layout.markers at → All (λ u. length u ≤ max_sent) us → SequenceIsRead layout at us

abbrev pub SequencesJoin : Type 0
SequencesJoin = (layout : Layout) (at : ℕ) (us vs : List (List ℕ)) → sequence layout at (us ++ vs) ≡ sequence layout at us ++ sequence layout (place_past layout at us) vs

pub record FramesInSequence : Type 0 where
  pub stays : FirstStays
  pub written : WrittenIsFirst
  pub takes : FirstLeavesLess
  pub found : FoundIsFirst
  pub read : SequencesAreRead
  pub join : SequencesJoin

-- ---- what came before
pub record IsSame (old new : Found) : Type 0 where
  pub whole : IsWhole new.arrived new.layout.markers new.base new.start
  pub len : ulpdu_len new ≡ ulpdu_len old
  pub ulpdu : ulpdu new ≡ ulpdu old
  pub mismatch : mismatch new ≡ mismatch old

-- octets that come later do not change a whole frame
abbrev pub StaysWhole : Type 0
StaysWhole = (found : Found) (place : ℕ) (octets : List ℕ) → IsStart found.layout.markers found.start → IsWhole found.arrived found.layout.markers found.base found.start
    → IsSame found (record found { arrived = delivered found.arrived place octets })

-- ---- markers that are too far
-- a marker 65,536 octets or more after the frame's first octet never agrees, whatever its pointer
abbrev pub FarMarkersFail : Type 0
FarMarkersFail = (layout : Layout) (octet : ℕ → ℕ) (start len p : ℕ) → ((q : ℕ) → octet q < 256) → layout.markers ≡ true
    → p % 512 ≡ 0 → start + 65536 ≤ p → p < frame_end true start len
    → mismatch_at layout octet start len ≡ (if layout.crc && not (crc_agrees octet layout.markers start len) then Some CrcMismatch else Some MarkerMismatch)

-- ---- values computed by hand
-- the ULPDU of RFC 5044's figures 5 and 6: a Send with this message sequence number, and 24 octets of zero
abbrev pub printed : ℕ → List ℕ
printed msn = 0x41 ∷ 0x43 ∷ replicate 8 0 ++ (0 ∷ 0 ∷ 0 ∷ msn ∷ 0 ∷ 0 ∷ 0 ∷ 0 ∷ []) ++ replicate 24 0

pub record KnownFrames : Type 0 where
  pub figure_5 : frame_octets (record { markers = true; crc = true }) 0 (printed 1) ≡ (0 ∷ 0 ∷ 0 ∷ 0 ∷ 0 ∷ 0x2a ∷ []) ++ printed 1 ++ (0x52 ∷ 0x23 ∷ 0x99 ∷ 0x83 ∷ [])
  pub figure_6 : frame_octets (record { markers = true; crc = true }) 492 (printed 2)
      ≡ (0 ∷ 0x2a ∷ 0x41 ∷ 0x43 ∷ []) ++ replicate 8 0 ++ (0 ∷ 0 ∷ 0 ∷ 2 ∷ 0 ∷ 0 ∷ 0 ∷ 0 ∷ []) ++ (0 ∷ 0 ∷ 0 ∷ 0x14 ∷ []) ++ replicate 24 0 ++ (0x84 ∷ 0x92 ∷ 0x58 ∷ 0x98 ∷ [])
  pub plain : frame_octets (record { markers = false; crc = false }) 20 (0x68 ∷ 0x69 ∷ []) ≡ 0 ∷ 2 ∷ 0x68 ∷ 0x69 ∷ 0 ∷ 0 ∷ 0 ∷ 0 ∷ []
  pub last_before_marker : data_place true 507 ≡ 511
  pub first_past_marker : data_place true 508 ≡ 516
  pub ends_past_marker : frame_end true 4 600 ≡ 616
  pub ends_before_marker : frame_end true 4 502 ≡ 512
  pub longest_without : frame_end false 0 65535 ≡ 65544
  pub longest_with : frame_end true 4 65535 ≡ 66064
  pub first_pointer : marker_value 4 0 ≡ 0
  pub next_pointer : marker_value 4 1 ≡ 508
  pub markers_counted : marker_value 4 2 ≡ 1020
  pub too_far : marker_value 4 129 ≡ 66044
