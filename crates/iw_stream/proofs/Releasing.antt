-- Octets that were given up: those of frames that were placed early alone, so that what is judged is held.
use Rattle.std.proofs.Common.{◌≡◌, ℕ, ◌+◌, ◌-◌, ◌<◌, ◌≤◌, Bool, true, false, List, [], ◌∷◌, length, take, Option, Some, None, Contains, refl, sym, ap, ◌∙◌, subst, arith}
use Rattle.std.specs.Prelude.{IfSome}
use Rattle.std.specs.Option.{option_map}
use Rattle.std.proofs.lemmas.Bool.{true≢false}
use Rattle.arrayvec.specs.ArrayVec.{ArrayVec}
use Rattle.iw_ranges.specs.Arrived.{Arrived, Cell, Missing, Here, Gone, cell_at}
use Rattle.iw_ranges.specs.InOrder.{IsHeld, is_gone}
use Rattle.iw_fpdu.specs.Places.{span_start}
use Rattle.iw_fpdu.specs.Reading.{length_at}
use Rattle.iw_fpdu.specs.Frame.{frame_end}
use Rattle.iw_fpdu.specs.Found.{Found, IsKept, HoldsSpan, ulpdu, ulpdu_len}
use Rattle.iw_fpdu.specs.Laws.{IsBetween, found_at}
use Rattle.iw_fpdu.proofs.Octets.{span_low, length_within}
use Rattle.iw_locate.specs.declared.judged.State.{State}
use Rattle.iw_locate.specs.declared.judged.State.TheVariants.{Tried, Placed}
use Rattle.iw_locate.specs.Records.{IsClearOfPlaced, from_of}
use Rattle.iw_locate.specs.Free.{Scene, GivesUpOnlyPlaced, IsOpen, end_of, front_of, octet_of, point_of}
use Rattle.iw_locate.specs.Lowest.{overlaps_placed}
use Rattle.iw_locate.proofs.Telling.{overlaps_are_told}
use Rattle.iw_locate.proofs.GivesUp.{released_floor}
use Rattle.iw_rdmap.specs.Terminate.{terminate_octets}
use Rattle.iw_reads.specs.Requests.{Requested}
use Rattle.iw_stream.specs.Frames.{EarlyRecord, Frame, IsNext, frame_at, frame_by, without}
use Rattle.iw_stream.specs.Incoming.{Coming, IsClearAt, scene_in}
use Rattle.iw_stream.specs.Terminating.{is_request_of, terminate_judged}
use Rattle.iw_stream.specs.Work.{clash_fault}
use Rattle.iw_stream.proofs.Landings.{length_ulpdu}

not_gone : (c : Cell) → (c ≡ Gone → ⊥) → is_gone c ≡ false
not_gone Missing none = refl
not_gone (Here x) none = refl
not_gone Gone none = absurd (none refl)

kept : (c : Cell) → (c ≡ Gone → ⊥) → IsKept c
kept Missing none = tt
kept (Here x) none = tt
kept Gone none = none refl

pub none_in : (xs : List EarlyRecord) → xs ≡ [] → (x : EarlyRecord) → Contains xs x → ⊥
none_in [] e x within = omega (arith, within.1)
none_in (y ∷ xs) e x within = absurd (cc e)

-- a span with a marker before it begins no later than without
least : (m : Bool) (s : ℕ) → span_start true s ≤ span_start m s
unfolding span_start
least true s = omega arith
least false s = span_low true s

-- ---- what is held
module _ (v : Scene (ArrayVec ℕ)) (only : GivesUpOnlyPlaced v) where
  -- all of it, if there is no record
  pub all_held : v.base ≤ v.arrived.floor → v.records ≡ [] → IsHeld v.arrived
  all_held based none p low =
      not_gone (cell_at v.arrived p) (λ gone.
      let w = only (p - v.base) (omega (arith, low)) (ap (cell_at v.arrived) (let e : v.base + (p - v.base) ≡ p = omega (arith, based, low) in e) ∙ gone) in
      none_in v.records none w.0 w.1)

  -- the places that no placed frame has
  pub clear_held : (start end : ℕ) → IsClearOfPlaced v.records start end → (q : ℕ) → point_of v ≤ q → span_start true start ≤ q → q < end → IsKept (cell_at v.arrived (v.base + q))
  clear_held start end clear q past low high =
      kept (cell_at v.arrived (v.base + q)) (λ gone.
      let w = only q past gone in
      clear w.0 w.1 w.2 (omega (arith, w.3, high), omega (arith, w.4, low)))

  -- a frame that can be judged early, and its length field
  pub open_holds : (s : ℕ) → IsOpen v s → HoldsSpan (found_at v.arrived v.layout v.base s) × ((p : ℕ) → s ≤ p → p < s + 2 → IsKept (cell_at v.arrived (v.base + p)))
  open_holds s o = (
    λ q low high. clear_held s (end_of v s) (λ r within placed. o.clear r within) q (omega (arith, o.past, low)) (omega (arith, low, least v.layout.markers s)) high,
    λ q low high.
        clear_held s (end_of v s) (λ r within placed. o.clear r within) q (omega (arith, o.past, low, span_low v.layout.markers s)) (omega (arith, low, span_low true s))
        (omega (arith, high, length_within v.layout.markers s (length_at (octet_of v) s) o.start)),
  )

-- the frame at the in-order point, over which no placed one lies
pub front_holds : (v : Scene (ArrayVec ℕ)) → GivesUpOnlyPlaced v → (found : Found) → found ≡ found_at v.arrived v.layout v.base (front_of v) → span_start v.layout.markers (front_of v) ≡ point_of v
    → overlaps_placed v.records found.start (frame_end v.layout.markers found.start (length (ulpdu found))) ≡ false → HoldsSpan found
front_holds v only found is span clear =
    let long : length (ulpdu found) ≡ ulpdu_len found = length_ulpdu found in
    let end : frame_end v.layout.markers found.start (length (ulpdu found)) ≡ end_of v (front_of v) =
    (λ i. frame_end v.layout.markers (is i).start (long i)) ∙ ap (λ (f : Found). frame_end v.layout.markers (front_of v) (ulpdu_len f)) is in
    let apart : overlaps_placed v.records (front_of v) (end_of v (front_of v)) ≡ false = (λ i. overlaps_placed v.records (sym is i).start (sym end i)) ∙ clear in
    subst HoldsSpan (sym is) (λ q low high.
    clear_held v only (front_of v) (end_of v (front_of v))
    (λ r within placed over. true≢false (sym ((overlaps_are_told v.records (front_of v) (end_of v (front_of v))).1 (r, within, placed, over)) ∙ apart))
    q (omega (arith, low, span)) (omega (arith, low, least v.layout.markers (front_of v))) high)

-- as it is looked up
pub held_next : (c : Coming) (start : ℕ) (o : Option Found) → GivesUpOnlyPlaced (scene_in c) → IsBetween c.layout.markers (c.arrived.floor - c.base)
    → IfSome o (λ found. IsNext c.layout c.arrived c.base found) → option_map frame_by o ≡ frame_at c.layout c.arrived c.base start → IsClearAt c start → IfSome o HoldsSpan
held_next c start None only between next is clear = tt
held_next c start (Some found) only between next is clear = front_holds (scene_in c) only found next.is between.span (clear (frame_by found) (sym is))

-- ---- what a record leaves
pub floor_without : (base : ℕ) (a : Arrived) (r : EarlyRecord) (state : State (ArrayVec ℕ)) → (without base a r state).floor ≡ a.floor
floor_without base a r Tried = refl
floor_without base a r (Placed header) = released_floor a (base + from_of r) (base + r.end)

-- ---- the Terminate for a frame that lies over a placed one takes nothing of it
pub clash_word : (asked : Requested) (frame : Frame) → terminate_octets clash_fault [] 0 false ≡ terminate_judged asked frame clash_fault
clash_word asked frame = go (is_request_of asked frame.ulpdu)
  where
    go : (b : Bool) → terminate_octets clash_fault [] 0 false ≡ terminate_octets clash_fault (take 46 frame.ulpdu) (length frame.ulpdu) b
    go true = refl
    go false = refl
