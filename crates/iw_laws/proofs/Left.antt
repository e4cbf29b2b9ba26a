-- A stream at which octets of placed frames were given up answers as one at which all that came is held.
use Rattle.std.proofs.Common.{◌≡◌, ℕ, ◌+◌, ◌-◌, ◌≤◌, List, [], ◌∷◌, length, Option, Some, None, Bool, true, false, cond, Contains, refl, sym, ap, ◌∙◌, subst, arith}
use Rattle.std.specs.Option.{option_map, option_or}
use Rattle.std.proofs.lemmas.Bool.{true≢false, false≢true}
use Rattle.std.proofs.lemmas.Option.{none-some, same_Some}
use Rattle.arrayvec.specs.ArrayVec.{ArrayVec}
use Rattle.iw_ranges.specs.Arrived.{Arrived, Cell, Missing, Here, Gone, cell_at}
use Rattle.iw_ranges.specs.InOrder.{is_gone, IsHeld}
use Rattle.iw_ranges.specs.Laws.{IsLeftOf}
use Rattle.iw_ranges.proofs.Left.{all_left, left_gives_up, left_in_order}
use Rattle.iw_fpdu.specs.Places.{IsStart, frame_start}
use Rattle.iw_fpdu.specs.Frame.{frame_end}
use Rattle.iw_fpdu.specs.Found.{IsWhole, is_whole, ulpdu_len}
use Rattle.iw_fpdu.specs.Laws.{IsBetween, found_at}
use Rattle.iw_fpdu.proofs.Came.{tells_whole}
use Rattle.iw_fpdu.proofs.Follows.{begins}
use Rattle.iw_locate.specs.declared.judged.State.{State}
use Rattle.iw_locate.specs.declared.judged.State.TheVariants as states
use Rattle.iw_locate.specs.Records.{IsPlaced, IsClearOfPlaced, AreApart}
use Rattle.iw_locate.specs.Free.{point_of, front_of, end_of, GivesUpOnlyPlaced}
use Rattle.iw_locate.specs.Lowest.{early_place, overlaps_placed}
use Rattle.iw_stream.proofs.Arriving.{placed_there}
use Rattle.iw_locate.proofs.Front.{front_clear, starts_of}
use Rattle.iw_locate.proofs.Left.{whole_left, length_left, reads_left, open_reads, early_left}
use Rattle.iw_locate.proofs.Stays.{IsSameAt}
use Rattle.iw_locate.proofs.Telling.{overlaps_are_told}
use Rattle.iw_stream.specs.declared.landing.PlacedFrame.{PlacedFrame}
use Rattle.iw_stream.specs.Frames.{Frame, EarlyRecord, frame_by, placed_at, kept_by}
use Rattle.iw_stream.specs.Starting.{expecting, first_place_in}
use Rattle.iw_stream.specs.Stream.{StreamState}
use Rattle.iw_stream.specs.Work.{next_frame, waiting, clashes, early_frame, scene, inbox, after_trying}
use Rattle.iw_locate.specs.Records.{from_of, added}
use Rattle.iw_stream.specs.declared.landing.Landing.{Landing}
use Rattle.iw_stream.specs.Frames.{record_tried}
use Rattle.iw_stream.specs.Judging.{receiving_tried}
use Rattle.iw_stream.proofs.Landings.{length_ulpdu}
use Rattle.iw_laws.proofs.Judged.{AreJudged, open_at}

-- a state is another, but that less is left of what came
pub record HasLeft (s w : StreamState) : Type 0 where
  pub same : record s { arrived = w.arrived } ≡ w
  pub left : IsLeftOf s.arrived w.arrived

pub equal_has : {s w : StreamState} → s ≡ w → HasLeft s w
equal_has {s} e = subst (HasLeft s) e (record { same = refl; left = all_left s.arrived })

-- a frame that was judged before its turn leaves its record, and of one that was placed the octets are given up
pub trying_has : (s : StreamState) (frame : Frame) (at : Option Landing)
    → HasLeft (after_trying s frame at) (record s { early = added s.early (record_tried frame at); receiving = receiving_tried s.receiving frame at })
trying_has s frame None = record { same = refl; left = all_left s.arrived }
trying_has s frame (Some x) =
    let r : EarlyRecord = record_tried frame (Some x) in
    record { same = refl; left = left_gives_up s.arrived s.arrived (first_place_in s.start + from_of r) (first_place_in s.start + r.end) (all_left s.arrived) }

-- a placed record that begins there is found
found_there : (rs : List EarlyRecord) (start : ℕ) (r : EarlyRecord) → AreApart rs → Contains rs r → IsPlaced r.state → r.start ≡ start → placed_at rs start ≡ None → ⊥
found_there rs start r apart within is_placed at none = kept r.state is_placed (sym (placed_there rs start r apart within at) ∙ none)
  where
    kept : (state : State (ArrayVec ℕ)) → IsPlaced state → kept_by r state ≡ None → ⊥
    kept states.Tried p e = p
    kept (states.Placed header) p e = none-some _ (sym e)

-- what a stream s has left of what came, where w holds all
module _ (s : StreamState) (came : Arrived) (left : IsLeftOf s.arrived came) (only : GivesUpOnlyPlaced (scene s)) where
  abbrev pub all : StreamState
  all = record s { arrived = came }

  pub same_waiting : waiting s ≡ waiting all
  same_waiting = λ i. option_or s.front (placed_at s.early (frame_start (expecting s.start).markers (left.floor i - first_place_in s.start)))

  same_front : front_of (scene s) ≡ front_of (scene all)
  same_front = λ i. frame_start (expecting s.start).markers (left.floor i - first_place_in s.start)

  module _ (judged : AreJudged (scene all)) (between : IsBetween (expecting s.start).markers (point_of (scene all))) (low : first_place_in s.start ≤ came.floor) where
    marked : (r : EarlyRecord) → Contains s.early r → (expecting s.start).markers ≡ true
    marked r within = (judged.stand r within).marked

    none_unmarked : (expecting s.start).markers ≡ false → s.early ≡ []
    none_unmarked m = go s.early refl
      where
        go : (rs : List EarlyRecord) → s.early ≡ rs → s.early ≡ []
        go [] is = is
        go (r ∷ rs) is = absurd (true≢false (sym (marked r (subst (λ xs. Contains xs r) (sym is) (0, omega arith, refl))) ∙ m))

    between_left : IsBetween (expecting s.start).markers (point_of (scene s))
    between_left = subst (λ f. IsBetween (expecting s.start).markers (f - first_place_in s.start)) (sym left.floor) between

    -- no placed frame lies over the length field of the front, where that was not placed
    clear : waiting s ≡ None → IsClearOfPlaced s.early (front_of (scene s)) (front_of (scene s) + 2)
    clear none =
        front_clear (scene s) between_left none_unmarked (starts_of s.early judged.apart)
        (λ r within. omega (arith, (judged.stand r within).past, left.floor))
        (λ r within placed at. found_there s.early (front_of (scene s)) r judged.apart within placed at (no_record s.front none))
      where
        no_record : (o : Option PlacedFrame) → option_or o (placed_at s.early (front_of (scene s))) ≡ None → placed_at s.early (front_of (scene s)) ≡ None
        no_record None e = e
        no_record (Some f) e = absurd (none-some _ (sym e))

    start_is : IsStart (expecting s.start).markers (front_of (scene s))
    start_is = begins (expecting s.start).markers (point_of (scene s)) between_left

    pub frame_left : Frame
    frame_left = frame_by (found_at s.arrived (expecting s.start) (first_place_in s.start) (front_of (scene s)))

    frame_all : Frame
    frame_all = frame_by (found_at came (expecting s.start) (first_place_in s.start) (front_of (scene s)))

    whole_same : waiting s ≡ None → is_whole s.arrived (expecting s.start).markers (first_place_in s.start) (front_of (scene s)) ≡ is_whole came (expecting s.start).markers (first_place_in s.start) (front_of (scene s))
    whole_same none = whole_left (scene s) came left only (front_of (scene s)) (clear none)

    length_same : waiting s ≡ None → length frame_left.ulpdu ≡ length frame_all.ulpdu
    unfolding frame_left frame_all
    length_same none =
        length_ulpdu (found_at s.arrived (expecting s.start) (first_place_in s.start) (front_of (scene s)))
        ∙ length_left (scene s) came left only (front_of (scene s)) (clear none)
        ∙ sym (length_ulpdu (found_at came (expecting s.start) (first_place_in s.start) (front_of (scene s))))

    clashes_same : waiting s ≡ None → clashes s frame_left ≡ clashes all frame_all
    unfolding frame_left frame_all
    clashes_same none = ap (λ n. overlaps_placed s.early (front_of (scene s)) (frame_end (expecting s.start).markers (front_of (scene s)) n)) (length_same none)

    -- where no placed one lies over it, it is the same
    frame_same : is_whole s.arrived (expecting s.start).markers (first_place_in s.start) (front_of (scene s)) ≡ true → clashes s frame_left ≡ false → frame_left ≡ frame_all
    unfolding frame_left frame_all
    frame_same whole calm =
        let start : ℕ = front_of (scene s) in
        let is : IsWhole s.arrived (expecting s.start).markers (first_place_in s.start) start = (tells_whole s.arrived (expecting s.start).markers (first_place_in s.start) start).0 whole in
        let size : length frame_left.ulpdu ≡ ulpdu_len (found_at s.arrived (expecting s.start) (first_place_in s.start) start) = length_ulpdu (found_at s.arrived (expecting s.start) (first_place_in s.start) start) in
        let end : frame_end (expecting s.start).markers start (length frame_left.ulpdu) ≡ end_of (scene s) start = ap (frame_end (expecting s.start).markers start) size in
        let free : IsClearOfPlaced s.early start (end_of (scene s) start) =
        λ r within placed over. true≢false (sym ((overlaps_are_told s.early start (frame_end (expecting s.start).markers start (length frame_left.ulpdu))).1 (r, within, placed, (omega (arith, over.0, end), over.1))) ∙ calm) in
        let same : IsSameAt s.arrived came (expecting s.start) (first_place_in s.start) start = reads_left (scene s) came left only start start_is is free in
        λ i. record { start = start; mismatch = sym same.mismatch i; ulpdu = sym same.ulpdu i }

    -- the same frame can be judged before its turn
    pub same_early : early_frame s ≡ early_frame all
    same_early =
        let places : early_place (scene s) ≡ early_place (scene all) = early_left (scene s) came left only (omega (arith, low, left.floor)) in
        go (early_place (scene s)) refl ∙ ap (option_map (λ start. frame_by (found_at came (expecting s.start) (first_place_in s.start) start))) places
      where
        frame_at : Arrived → ℕ → Frame
        frame_at a start = frame_by (found_at a (expecting s.start) (first_place_in s.start) start)

        go : (o : Option ℕ) → early_place (scene s) ≡ o → early_frame s ≡ option_map (λ start. frame_by (found_at came (expecting s.start) (first_place_in s.start) start)) (early_place (scene s))
        go None e = ap (option_map (λ start. frame_by (found_at s.arrived (expecting s.start) (first_place_in s.start) start))) e ∙ ap (option_map (λ start. frame_by (found_at came (expecting s.start) (first_place_in s.start) start))) (sym e)
        go (Some place) e =
            let found : early_frame s ≡ Some (frame_by (found_at s.arrived (expecting s.start) (first_place_in s.start) place)) = ap (option_map (λ start. frame_by (found_at s.arrived (expecting s.start) (first_place_in s.start) start))) e in
            let o = open_at (scene s) (frame_by (found_at s.arrived (expecting s.start) (first_place_in s.start) place)) (omega (arith, low, left.floor)) found in
            let same : IsSameAt s.arrived came (expecting s.start) (first_place_in s.start) place = open_reads (scene s) came left only place o.free.open_ in
            found ∙ (λ i. Some (record { start = place; mismatch = sym same.mismatch i; ulpdu = sym same.ulpdu i }))
            ∙ ap (option_map (λ start. frame_by (found_at came (expecting s.start) (first_place_in s.start) start))) (sym e)

    -- the front is whole in both, or in neither
    pub next_left : waiting s ≡ None → (frame : Frame) → next_frame all ≡ Some frame → next_frame s ≡ Some frame_left
    unfolding frame_left
    next_left none frame e =
        ap (λ b. cond b (Some frame_left) None) (whole_same none ∙ ap (λ start. is_whole came (expecting s.start).markers (first_place_in s.start) start) same_front
        ∙ is_some_if (is_whole came (expecting s.start).markers (first_place_in s.start) (front_of (scene all))) _ frame e)
      where
        is_some_if : (b : Bool) (f g : Frame) → cond b (Some f) None ≡ Some g → b ≡ true
        is_some_if true f g h = refl
        is_some_if false f g h = absurd (none-some _ h)

    pub none_left : waiting s ≡ None → next_frame all ≡ None → next_frame s ≡ None
    unfolding frame_left
    none_left none e =
        ap (λ b. cond b (Some frame_left) None) (whole_same none ∙ ap (λ start. is_whole came (expecting s.start).markers (first_place_in s.start) start) same_front
        ∙ is_none_if (is_whole came (expecting s.start).markers (first_place_in s.start) (front_of (scene all))) _ e)
      where
        is_none_if : (b : Bool) (f : Frame) → cond b (Some f) None ≡ None → b ≡ false
        is_none_if true f h = absurd (none-some _ (sym h))
        is_none_if false f h = refl

    all_is : (frame : Frame) → next_frame all ≡ Some frame → frame_all ≡ frame
    unfolding frame_all
    all_is frame e =
        (λ i. frame_by (found_at came (expecting s.start) (first_place_in s.start) (same_front i)))
        ∙ of_some (is_whole came (expecting s.start).markers (first_place_in s.start) (front_of (scene all))) _ frame e
      where
        of_some : (b : Bool) (f g : Frame) → cond b (Some f) None ≡ Some g → f ≡ g
        of_some true f g h = same_Some _ _ h
        of_some false f g h = absurd (none-some _ h)

    -- and lies over a placed frame in both, or in neither, where it is the same
    pub clash_left : waiting s ≡ None → (frame : Frame) → next_frame all ≡ Some frame → clashes s frame_left ≡ clashes all frame
    clash_left none frame e = clashes_same none ∙ ap (clashes all) (all_is frame e)

    pub judge_left : waiting s ≡ None → (frame : Frame) → next_frame all ≡ Some frame → clashes all frame ≡ false → next_frame s ≡ Some frame
    judge_left none frame e calm =
        let whole : is_whole s.arrived (expecting s.start).markers (first_place_in s.start) (front_of (scene s)) ≡ true = held_whole _ (next_left none frame e) in
        next_left none frame e ∙ ap Some (frame_same whole (clash_left none frame e ∙ calm) ∙ all_is frame e)
      where
        held_whole : (g : Frame) → next_frame s ≡ Some g → is_whole s.arrived (expecting s.start).markers (first_place_in s.start) (front_of (scene s)) ≡ true
        held_whole g h = go (is_whole s.arrived (expecting s.start).markers (first_place_in s.start) (front_of (scene s))) refl h
          where
            go : (b : Bool) → is_whole s.arrived (expecting s.start).markers (first_place_in s.start) (front_of (scene s)) ≡ b → cond b (Some (frame_by (found_at s.arrived (expecting s.start) (first_place_in s.start) (front_of (scene s))))) None ≡ Some g
                → is_whole s.arrived (expecting s.start).markers (first_place_in s.start) (front_of (scene s)) ≡ true
            go true is x = is
            go false is x = absurd (none-some _ x)

    -- ---- the same answer

    -- before the stream is open there is no record, and nothing was given up
    pub held : s.early ≡ [] → IsHeld s.arrived
    held none p past = go (is_gone (cell_at s.arrived p)) refl
      where
        no_one : (r : EarlyRecord) → Contains s.early r → ⊥
        no_one r within = nothing (subst (λ rs. Contains rs r) none within)
          where
            nothing : Contains [] r → ⊥
            nothing (i, lt, is) = omega (arith, lt)

        gone_is : (c : Cell) → is_gone c ≡ true → c ≡ Gone
        gone_is Missing e = absurd (false≢true e)
        gone_is (Here x) e = absurd (false≢true e)
        gone_is Gone e = refl

        go : (b : Bool) → is_gone (cell_at s.arrived p) ≡ b → is_gone (cell_at s.arrived p) ≡ false
        go false e = e
        go true e =
            let same : first_place_in s.start + (p - first_place_in s.start) ≡ p = omega (arith, past, low, left.floor) in
            let w = only (p - first_place_in s.start) (omega (arith, past)) (ap (cell_at s.arrived) same ∙ gone_is (cell_at s.arrived p) e) in
            absurd (no_one w.0 w.1)

    pub same_inbox : s.early ≡ [] → inbox s ≡ inbox all
    same_inbox none = left_in_order s.arrived came (held none) left
