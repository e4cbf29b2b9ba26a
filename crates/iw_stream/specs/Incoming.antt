-- What came from the peer, and the frames among it that were judged before their turn, as one value.
use Rattle.std.specs.Prelude.{◌≡◌, ℕ, false, List, [], length, Some}
use Rattle.arrayvec.specs.ArrayVec.{ArrayVec}
use Rattle.iw_ranges.specs.Arrived.{Arrived, nothing}
use Rattle.iw_fpdu.specs.declared.layout.Layout.{Layout}
use Rattle.iw_locate.specs.declared.unsearched.Unsearched.{Unsearched}
use Rattle.iw_locate.specs.Free.{Scene, scene_of}
use Rattle.iw_fpdu.specs.Frame.{frame_end}
use Rattle.iw_locate.specs.Lowest.{overlaps_placed}
use Rattle.iw_locate.specs.Keeping.{Keeps}
use Rattle.iw_locate.specs.Unsearched.{Tells}
use Rattle.iw_stream.specs.declared.incoming.Incoming.TheInside.{Inside}
use Rattle.iw_fpdu.specs.Laws.{found_at}
use Rattle.iw_stream.specs.Frames.{Frame, EarlyRecord, frame_at, frame_by}

pub record Coming : Type 0 where
  pub layout : Layout  -- how the peer's frames are laid out
  pub base : ℕ  -- the place in the stream where they begin
  pub arrived : Arrived
  pub early : List EarlyRecord
  pub room : ℕ  -- how many more records there is room for
  pub releases : ℕ  -- and how many more releases
  pub unsearched : Unsearched  -- where a frame may be found that can be judged early

abbrev pub scene_in : Coming → Scene (ArrayVec ℕ)
scene_in c = scene_of c.layout c.base c.arrived c.early

-- the frame that begins at a frame place
abbrev pub frame_in : Coming → ℕ → Frame
frame_in c start = frame_by (found_at c.arrived c.layout c.base start)

-- no frame that was placed early lies over the one that begins at a frame place, if that is whole
abbrev pub IsClearAt : Coming → ℕ → Type 0
IsClearAt c start = (frame : Frame) → frame_at c.layout c.arrived c.base start ≡ Some frame
    → overlaps_placed c.early frame.start (frame_end c.layout.markers frame.start (length frame.ulpdu)) ≡ false

-- the records are of frames that came whole past the in-order point, and no frame that can be judged early is missed
pub record IsTracked (c : Coming) : Type 0 where
  pub keeps : Keeps (scene_in c)
  pub tells : Tells (scene_in c) c.unsearched

-- nothing came, and frames begin at place 0
pub record IsBegun (c : Coming) (layout : Layout) : Type 0 where
  pub layout_is : c.layout ≡ layout
  pub base : c.base ≡ 0
  pub arrived : c.arrived ≡ nothing
  pub early : c.early ≡ []

-- of two values but what came, the records, and what is told of them, the rest is the same
pub record IsSameStart (old new : Coming) : Type 0 where
  pub layout : new.layout ≡ old.layout
  pub base : new.base ≡ old.base

-- only the search went on, or room was made
pub record IsSameScene (old new : Coming) : Type 0 where
  pub layout : new.layout ≡ old.layout
  pub base : new.base ≡ old.base
  pub arrived : new.arrived ≡ old.arrived
  pub early : new.early ≡ old.early

abbrev pub coming_of : {A : Type 0} → Inside A → Coming
coming_of {A} i = record {
  layout = i.locator.layout;
  base = i.locator.base;
  arrived = i.islands.arrived;
  early = i.judged.records;
  room = i.judged.room;
  releases = i.islands.room;
  unsearched = i.unsearched;
}
