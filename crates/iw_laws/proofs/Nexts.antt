-- The frame at the in-order point of a stream is the first of the octets that came without a gap.
use Rattle.std.proofs.Common.{◌≡◌, ℕ, ◌+◌, ◌-◌, ◌<◌, ◌≤◌, Bool, true, false, List, length, drop, if◌then◌else◌, Option, Some, None, refl, sym, ap, ◌∙◌, subst, arith, length-drop}
use Rattle.std.proofs.lemmas.Option.{none-some, same_Some}
use Rattle.iw_octets.specs.declared.segment.Segment.{Segment}
use Rattle.iw_octets.specs.Segment.{read_segment}
use Rattle.iw_ranges.specs.Arrived.{Arrived, advanced}
use Rattle.iw_ranges.specs.InOrder.{IsHeld}
use Rattle.iw_fpdu.specs.declared.layout.Layout.{Layout}
use Rattle.iw_fpdu.specs.Frame.{frame_end}
use Rattle.iw_fpdu.specs.Places.{frame_start, data_index}
use Rattle.iw_fpdu.specs.PiecesOctet.{octet_from}
use Rattle.iw_fpdu.specs.Reading.{length_at}
use Rattle.iw_fpdu.specs.Found.{is_whole}
use Rattle.iw_fpdu.specs.Laws.{IsBetween, found_at}
use Rattle.iw_fpdu.specs.Sequence.{Carried, first_frame}
use Rattle.iw_fpdu.proofs.Octets.{length_data}
use Rattle.iw_fpdu.proofs.Sequences.{First, first_parts, first_takes}
use Rattle.iw_untagged.specs.Receiving.{Receiving}
use Rattle.iw_stream.specs.declared.landing.PlacedFrame.{PlacedFrame}
use Rattle.iw_stream.specs.Judging as judging
use Rattle.iw_stream.specs.Frames.{Frame, payload_of, frame_by, standing_at, placed}
use Rattle.iw_stream.specs.Starting.{expecting, first_place_in}
use Rattle.iw_stream.specs.Stream.{StreamState}
use Rattle.iw_stream.specs.Work.{inbox, next_frame, waiting}
use Rattle.iw_stream.specs.Work as work
use Rattle.iw_stream.proofs.Fronts.{carried_by, first_here, none_here}

-- ---- the first frame of what came, and the octets behind it

abbrev pub Front : Type 0
Front = Option (Carried × List ℕ)

-- the frame place of the in-order point
abbrev pub place_in : StreamState → ℕ
place_in s = s.arrived.floor - first_place_in s.start

abbrev pub fore : StreamState → Front
fore s = first_frame (expecting s.start) (place_in s) (inbox s)

-- the frame at its place
abbrev pub standing : StreamState → Carried → Frame
standing s frame = standing_at (frame_start (expecting s.start).markers (place_in s)) frame

abbrev pub segment_in : Carried → Option (Segment (List ℕ))
segment_in frame = read_segment frame.ulpdu

abbrev pub segment_at : Front → Option (Segment (List ℕ))
segment_at None = None
segment_at (Some x) = segment_in x.0

-- where the frame ends
abbrev pub place_past : StreamState → Front → ℕ
place_past s None = s.arrived.floor
place_past s (Some x) = s.arrived.floor + (length (inbox s) - length x.1)

-- the in-order point lies behind it
abbrev pub past_front : StreamState → Arrived
past_front s = advanced s.arrived (place_past s (fore s))

-- what the turn of its segment leaves of the message that is due, where that is not complete
abbrev pub turned_by : Receiving → Option (Segment (List ℕ)) → Receiving
turned_by r segment = judging.turned_by r (length (payload_of segment)) segment

-- ---- it is the one that is found by its place

-- what is kept of a frame that was placed is the first frame's
pub record IsFore (s : StreamState) (f : PlacedFrame) : Type 0 where
  pub frame : Carried
  pub rest : List ℕ
  pub whole : fore s ≡ Some (frame, rest)
  pub is : f ≡ placed (standing s frame)
  pub segment : Segment (List ℕ)
  pub carries : segment_in frame ≡ Some segment

-- what the frames of a stream keep
pub record Sound (s : StreamState) : Type 0 where
  pub low : first_place_in s.start ≤ s.arrived.floor
  pub between : IsBetween (expecting s.start).markers (place_in s)
  pub held : IsHeld s.arrived
  pub placed_is : (f : PlacedFrame) → waiting s ≡ Some f → IsFore s f

-- where there is none, there is no first frame
pub none_first_here : (s : StreamState) → Sound s → next_frame s ≡ None → fore s ≡ None
none_first_here s k e = none_here (expecting s.start) s.arrived (first_place_in s.start) k.low k.between k.held e

-- where there is one, it is the first
pub record IsFirstHere (s : StreamState) (frame : Frame) : Type 0 where
  pub rest : List ℕ
  pub whole : fore s ≡ Some (carried_by frame, rest)
  pub is : frame ≡ standing s (carried_by frame)
  pub beyond : rest ≡ drop (frame_end (expecting s.start).markers frame.start (length frame.ulpdu) - place_in s) (inbox s)

pub first_is_here : (s : StreamState) (frame : Frame) → Sound s → next_frame s ≡ Some frame → IsFirstHere s frame
first_is_here s frame k e = record {
  rest = drop (frame_end (expecting s.start).markers frame.start (length frame.ulpdu) - place_in s) (inbox s);
  whole = first_here (expecting s.start) s.arrived (first_place_in s.start) frame k.low k.between k.held e;
  is = go (is_whole s.arrived (expecting s.start).markers (first_place_in s.start) (frame_start (expecting s.start).markers (place_in s))) e;
  beyond = refl;
}
  where
    found : Frame
    found = frame_by (found_at s.arrived (expecting s.start) (first_place_in s.start) (frame_start (expecting s.start).markers (place_in s)))

    go : (w : Bool) → (if w then Some found else None) ≡ Some frame → frame ≡ standing s (carried_by frame)
    go false h = absurd (none-some _ h)
    go true h = let same : found ≡ frame = same_Some _ _ h in subst (λ z. z ≡ standing s (carried_by z)) same refl

-- where it ends
pub past_is : (s : StreamState) (frame : Carried) (rest : List ℕ) → Sound s → fore s ≡ Some (frame, rest) → work.place_past s (placed (standing s frame)) ≡ place_past s (fore s)
past_is s frame rest k e =
    let layout : Layout = expecting s.start in
    let m : Bool = layout.markers in
    let at : ℕ = place_in s in
    let start : ℕ = frame_start m at in
    let octet : ℕ → ℕ = octet_from at (inbox s) in
    let p : First layout at (inbox s) frame rest = first_parts layout at (inbox s) frame rest e in
    let n : ℕ = length_at octet start in
    let size : length frame.ulpdu ≡ n = ap (λ (c : Carried). length c.ulpdu) p.carried_is ∙ length_data octet m (data_index m start + 2) n in
    let end : ℕ = frame_end m start n in
    let left : length rest ≡ length (inbox s) - (end - at) = ap length p.rest_is ∙ length-drop (end - at) (inbox s) in
    let shorter : length rest < length (inbox s) = (first_takes layout at (inbox s) frame rest k.between e).shorter in
    let place : first_place_in s.start + end ≡ s.arrived.floor + (length (inbox s) - length rest) = omega (arith, left, shorter, p.fits, k.low) in
    ap (λ z. first_place_in s.start + frame_end m start z) size ∙ place ∙ ap (place_past s) (sym e)
