-- Each placement is that of the frame that is judged then.
use Rattle.std.proofs.Common.{◌≡◌, ℕ, Bool, true, false, cond, List, Option, Some, None, Result, Ok, Err, refl, ap, ◌∙◌, inl, inr}
use Rattle.std.specs.Option.{option_or}
use Rattle.iw_octets.specs.declared.fault.Fault.{Fault}
use Rattle.iw_stream.specs.declared.landing.Landing.{Landing}
use Rattle.iw_stream.specs.Frames.{Frame}
use Rattle.iw_stream.specs.Judging.{Standing, verdict, early_verdict}
use Rattle.iw_stream.specs.Starting.{expecting, first_place_in}
use Rattle.iw_stream.specs.Work.{clash_fault}
use Rattle.iw_fpdu.specs.Frame.{frame_end}
use Rattle.iw_locate.specs.Lowest.{overlaps_placed}
use Rattle.std.specs.Prelude.{length}
use Rattle.iw_events.specs.declared.act.Act.{Act}
use Rattle.iw_events.specs.declared.act.StreamAct.{StreamAct}
use Rattle.iw_events.specs.declared.act.Seen.{Seen}
use Rattle.iw_events.specs.declared.act.Seen.TheVariants as seen
use Rattle.iw_events.specs.declared.act.Entry.{Entry}
use Rattle.iw_laws.specs.Words.{Octets, OnSome, OnStream, AtEach, acts, deed, of_stream, stream_acts, ended}
use Rattle.iw_laws.specs.Turns.{Story, next_frame, early_frame, judged_frame, seen_judged, seen_tried, IsJudged, IsEarly, TurnsSeen, TurnsStream, Turns, story_of, standing}
use Rattle.iw_laws.specs.Once.{IsPlacement, PlacedSeen, PlacedStream}
use Rattle.iw_laws.proofs.Seeing.{early_lands}

-- the step is no fault, and no frame is left
abbrev IsPlacing : Seen Octets → Type 0
IsPlacing step = ((fault : Fault) → step ≡ seen.Fault fault → ⊥) × ((place : ℕ) → step ≡ seen.Tried place → ⊥)

judged_next : (t : Story) (frame : Frame) → next_frame t ≡ Some frame → judged_frame t ≡ Some frame
judged_next t frame e = ap (λ o. option_or o (early_frame t)) e

judged_early : (t : Story) (frame : Frame) → next_frame t ≡ None → early_frame t ≡ Some frame → judged_frame t ≡ Some frame
judged_early t frame none e = ap (λ o. option_or o (early_frame t)) none ∙ e

of_judged : (t : Story) (s : Standing) (step : Seen Octets) → IsPlacing step → IsJudged t s step → IsPlacement t s step
of_judged t s step placing w = by (overlaps_placed t.early w.frame.start (frame_end (expecting t.start).markers w.frame.start (length w.frame.ulpdu))) w.answer
  where
    on : (r : Result Landing Fault) → verdict s w.frame ≡ r → step ≡ seen_judged w.frame r → IsPlacement t s step
    on (Err fault) e a = absurd (placing.0 fault a)
    on (Ok at) e a = record { frame = w.frame; is = judged_next t w.frame w.is_next; at = at; lands = e; answer = a }

    by : (over : Bool) → step ≡ seen_judged w.frame (cond over (Err clash_fault) (verdict s w.frame)) → IsPlacement t s step
    by true a = absurd (placing.0 clash_fault a)
    by false a = on (verdict s w.frame) refl a

of_early : (t : Story) (s : Standing) (step : Seen Octets) → IsPlacing step → IsEarly t s step → IsPlacement t s step
of_early t s step placing w = on (early_verdict s w.frame) refl w.answer
  where
    on : (o : Option Landing) → early_verdict s w.frame ≡ o → step ≡ seen_tried (first_place_in t.start) w.frame o → IsPlacement t s step
    on None e a = absurd (placing.1 _ a)
    on (Some at) e a = record { frame = w.frame; is = judged_early t w.frame w.no_next w.is_early; at = at; lands = (early_lands s w.frame at e).0; answer = a }

pub placed_seen : (over : Bool) (t : Story) (s : Standing) (step : Seen Octets) → TurnsSeen over t s step → PlacedSeen t s step
placed_seen over t s (seen.Placed right stag to octets) (reads, inl judged) = of_judged t s (seen.Placed right stag to octets) ((λ fault e. cc), (λ place e. cc)) judged
placed_seen over t s (seen.Placed right stag to octets) (reads, inr early) = of_early t s (seen.Placed right stag to octets) ((λ fault e. cc), (λ place e. cc)) early
placed_seen over t s (seen.Buffered msn mo len) (reads, inl judged) = of_judged t s (seen.Buffered msn mo len) ((λ fault e. cc), (λ place e. cc)) judged
placed_seen over t s (seen.Buffered msn mo len) (reads, inr early) = of_early t s (seen.Buffered msn mo len) ((λ fault e. cc), (λ place e. cc)) early
placed_seen over t s (seen.Requested size stag to) w = tt
placed_seen over t s (seen.Tried place) w = tt
placed_seen over t s seen.Passed w = tt
placed_seen over t s (seen.Received octets solicited invalidate) w = tt
placed_seen over t s (seen.Terminated fault) w = tt
placed_seen over t s (seen.Fault fault) w = tt
placed_seen over t s (seen.Done kind) w = tt
placed_seen over t s (seen.Flushed kind) w = tt
placed_seen over t s (seen.FlushedRecv octets) w = tt
placed_seen over t s (seen.Asked word private) w = tt
placed_seen over t s (seen.Opened agreed word private) w = tt
placed_seen over t s (seen.Closed fault) w = tt
placed_seen over t s seen.Idle w = tt

placed_act : (before : List (Act Octets)) (act : Act Octets) → OnStream TurnsStream before act → OnStream PlacedStream before act
placed_act before act w = go (of_stream act) w
  where
    at : (n : ℕ) (o : Option (Seen Octets)) → OnSome (TurnsSeen (ended (stream_acts n before)) (story_of n before) (standing n before)) o → OnSome (PlacedSeen (story_of n before) (standing n before)) o
    at n None w = tt
    at n (Some step) w = placed_seen (ended (stream_acts n before)) (story_of n before) (standing n before) step w

    go : (o : Option (ℕ × StreamAct Octets)) → OnSome (λ x. TurnsStream before x.0 x.1) o → OnSome (λ x. PlacedStream before x.0 x.1) o
    go None w = tt
    go (Some (n, act)) w = at n (deed act).step w

pub placements : (trace : List (Entry Octets)) → Turns trace → AtEach (OnStream PlacedStream) trace
placements trace turns past e future is = placed_act (acts e.end past) e.act (turns past e future is)
