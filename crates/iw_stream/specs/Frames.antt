-- The frames of the peer among the octets that came, each by its place, and what is kept of one that was placed.
use Rattle.std.specs.Prelude.{◌≡◌, ℕ, ◌+◌, ◌-◌, ◌<◌, ◌≤◌, ◌^◌, ◌==◌, true, List, [], ◌∷◌, length, take, slice_index_or, if◌then◌else◌, Option, Some, None}
use Rattle.iw_octets.specs.declared.constants.TheConstants.{TAGGED_HEADER, UNTAGGED_HEADER}
use Rattle.iw_octets.specs.declared.segment.Segment.{Segment}
use Rattle.iw_octets.specs.declared.segment.Segment.TheVariants.{Tagged, Untagged}
use Rattle.iw_octets.specs.Head.{is_tagged}
use Rattle.iw_octets.specs.Segment.{read_segment}
use Rattle.iw_ranges.specs.Arrived.{Arrived, has_come, released}
use Rattle.iw_fpdu.specs.declared.layout.Layout.{Layout}
use Rattle.iw_fpdu.specs.declared.fpdu.Mismatch.{Mismatch}
use Rattle.iw_fpdu.specs.Frame.{frame_end}
use Rattle.iw_fpdu.specs.Found.{Found, is_whole, ulpdu, ulpdu_len, mismatch}
use Rattle.iw_fpdu.specs.Laws.{IsBetween, found_at}
use Rattle.iw_fpdu.specs.Places.{frame_start}
use Rattle.iw_fpdu.specs.Sequence.{Carried}
use Rattle.iw_locate.specs.declared.judged.Record.{Record}
use Rattle.iw_locate.specs.declared.judged.State.{State}
use Rattle.iw_locate.specs.declared.judged.State.TheVariants.{Tried, Placed}
use Rattle.iw_locate.specs.Records.{from_of}
use Rattle.arrayvec.specs.ArrayVec.{ArrayVec}
use Rattle.iw_stream.specs.declared.landing.PlacedFrame.{PlacedFrame}

-- a frame: its place, what is wrong with it, and its ULPDU
pub record Frame : Type 0 where
  pub start : ℕ
  pub mismatch : Option Mismatch
  pub ulpdu : List ℕ

abbrev pub frame_by : Found → Frame
frame_by found = record { start = found.start; mismatch = mismatch found; ulpdu = ulpdu found }

-- a frame that was read off octets in order, at its place
abbrev pub standing_at : ℕ → Carried → Frame
standing_at start carried = record { start = start; mismatch = carried.mismatch; ulpdu = carried.ulpdu }

-- the frame that begins at a frame place, if it is whole; frame place 0 is place `base` of the stream
abbrev pub frame_at : Layout → Arrived → ℕ → ℕ → Option Frame
frame_at layout arrived base start = if is_whole arrived layout.markers base start then Some (frame_by (found_at arrived layout base start)) else None

-- a frame that was found at the in-order point: it came whole, and ends within the window, where the next one begins
pub record IsNext (layout : Layout) (arrived : Arrived) (base : ℕ) (found : Found) : Type 0 where
  pub is : found ≡ found_at arrived layout base (frame_start layout.markers (arrived.floor - base))
  pub low : found.start ≤ arrived.floor + 4
  pub on : arrived.floor < base + frame_end layout.markers found.start (ulpdu_len found)
  pub near : base + frame_end layout.markers found.start (ulpdu_len found) ≤ arrived.floor + 2 ^ 18
  pub come : (p : ℕ) → p < base + frame_end layout.markers found.start (ulpdu_len found) → has_come arrived p ≡ true
  pub next : IsBetween layout.markers (frame_end layout.markers found.start (ulpdu_len found))

-- the segment of a frame, if its ULPDU is long enough for one
abbrev pub segment_in : Frame → Option (Segment (List ℕ))
segment_in frame = read_segment frame.ulpdu

abbrev pub payload_of : Option (Segment (List ℕ)) → List ℕ
payload_of None = []
payload_of (Some (Tagged head payload)) = payload
payload_of (Some (Untagged head payload)) = payload

-- ---- what is kept of a frame that was placed

-- the octets of DDP's header at the front of a ULPDU: 14 of a tagged segment, 18 of an untagged one (RFC 5041 4.2, 4.3)
abbrev pub header_in : List ℕ → List ℕ
header_in ulpdu = take (if is_tagged (slice_index_or ulpdu 0 0) then TAGGED_HEADER else UNTAGGED_HEADER) ulpdu

abbrev pub placed : Frame → PlacedFrame
placed frame = record { start = frame.start; len = length frame.ulpdu; header = record { items = header_in frame.ulpdu } }

-- the segment's header as it is read again, with no payload
abbrev pub head_in : PlacedFrame → Option (Segment (List ℕ))
head_in frame = read_segment frame.header.items

-- how many octets its payload has
abbrev pub payload_len : PlacedFrame → ℕ
payload_len frame = frame.len - length frame.header.items

-- ---- what is kept of one that was judged before its turn

-- its place, and if it was placed the octets of its DDP header
abbrev pub EarlyRecord : Type 0
EarlyRecord = Record (ArrayVec ℕ)

abbrev pub record_of : Frame → State (ArrayVec ℕ) → EarlyRecord
record_of frame state = record { start = frame.start; length = length frame.ulpdu; end = frame_end true frame.start (length frame.ulpdu); state = state }

-- it was placed, or left for its turn
abbrev pub state_tried : {A : Type 0} → Frame → Option A → State (ArrayVec ℕ)
state_tried frame None = Tried
state_tried frame (Some at) = Placed (placed frame).header

abbrev pub record_tried : {A : Type 0} → Frame → Option A → EarlyRecord
record_tried frame at = record_of frame (state_tried frame at)

-- what is kept of the frame for its turn, if it was placed
abbrev pub kept_by : EarlyRecord → State (ArrayVec ℕ) → Option PlacedFrame
kept_by r Tried = None
kept_by r (Placed header) = Some (record { start = r.start; len = r.length; header = header })

-- the frame that begins at a place, if it was placed early
abbrev pub placed_at : List EarlyRecord → ℕ → Option PlacedFrame
placed_at [] start = None
placed_at (r ∷ rs) start = if r.start == start then kept_by r r.state else placed_at rs start

-- what came, without the octets of the frame if it was placed: they are given up, and their places still count as come
abbrev pub without : ℕ → Arrived → EarlyRecord → State (ArrayVec ℕ) → Arrived
without base arrived r Tried = arrived
without base arrived r (Placed header) = released arrived (base + from_of r) (base + r.end)
