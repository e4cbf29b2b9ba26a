-- The frame at the in-order point, as its record is looked up there.
use Rattle.std.proofs.Common.{◌≡◌, ℕ, ◌-◌, false, Some, None, sym, ap, ◌∙◌}
use Rattle.std.specs.Option.{option_or}
use Rattle.iw_ranges.specs.Arrived.{IsWithinLimits}
use Rattle.iw_fpdu.specs.declared.layout.Layout.{Layout}
use Rattle.iw_fpdu.specs.Places.{frame_start}
use Rattle.iw_locate.specs.Records.{AreApart}
use Rattle.iw_locate.specs.Free.{front_of}
use Rattle.iw_locate.specs.Keeping as keeping
use Rattle.iw_stream.specs.declared.landing.PlacedFrame.{PlacedFrame}
use Rattle.iw_stream.specs.Frames.{placed_at}
use Rattle.iw_stream.specs.Kept.{IsPlaced, Keeps, NoneReachesOver}
use Rattle.iw_stream.specs.Starting.{expecting, first_place_in}
use Rattle.iw_stream.specs.Stream.{StreamState, ended}
use Rattle.iw_stream.specs.Work.{scene, waiting}
use Rattle.iw_stream.proofs.Waiting.{waiting_stands}

-- it was placed before its turn, and stands there
pub record StandsEarly (s : StreamState) (frame : PlacedFrame) : Type 0 where
  pub waits : waiting s ≡ Some frame
  pub placed : IsPlaced s frame
  pub over : NoneReachesOver s frame

pub stands_early : (s : StreamState) (layout : Layout) (base floor start : ℕ) (frame : PlacedFrame) → layout ≡ expecting s.start → base ≡ first_place_in s.start → floor ≡ s.arrived.floor
    → start ≡ frame_start layout.markers (floor - base) → s.front ≡ None → placed_at s.early start ≡ Some frame
    → Keeps s → ended s ≡ false → keeping.Keeps (scene s) → AreApart s.early → IsWithinLimits s.arrived → StandsEarly s frame
stands_early s layout base floor start frame l b f at none is k runs kept apart limits =
    let there : start ≡ front_of (scene s) = at ∙ (λ i. frame_start (l i).markers (f i - b i)) in
    let waits : waiting s ≡ Some frame = (λ i. option_or (none i) ((ap (placed_at s.early) (sym there) ∙ is) i)) in
    let (placed, over) = waiting_stands s k runs kept apart limits frame waits in
    record { waits = waits; placed = placed; over = over }
