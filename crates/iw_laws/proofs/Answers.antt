-- A step of work that speaks of a frame answers for the frame at the in-order point.
use Rattle.std.proofs.Common.{◌≡◌, ◌⊎◌, List, [], ◌++◌, Option, Some, None, true, false, sym, ap, ◌∙◌, inl, inr}
use Rattle.std.specs.Option.{option_or}
use Rattle.std.proofs.lemmas.Bool.{true≢false}
use Rattle.std.specs.Prelude.{is_some}
use Rattle.iw_memory.specs.Table.{Table}
use Rattle.iw_queues.specs.Queue.{done_in}
use Rattle.iw_ranges.specs.Arrived.{in_order}
use Rattle.iw_startup.specs.declared.progress.Progress.{Progress}
use Rattle.iw_startup.specs.declared.progress.Progress.TheVariants as progress
use Rattle.iw_stream.specs.Starting.{is_open, expecting, first_place_in, awaits_frame, progress_in, heard, agreement_in, private_in, told_in, mismatch_in}
use Rattle.iw_stream.specs.Stream.{StreamState, ended}
use Rattle.iw_stream.specs.Work.{inbox, work_step, worked, table_worked}
use Rattle.iw_stream.specs.Work as work
use Rattle.iw_stream.proofs.Fronts.{carried_by}
use Rattle.iw_stream.proofs.Tasks.{IsResting, Ended, Unanswered, Without}
use Rattle.iw_events.specs.declared.act.Seen.{Seen}
use Rattle.iw_events.specs.declared.act.Seen.TheVariants as seen
use Rattle.iw_laws.specs.Words.{Octets}
use Rattle.iw_locate.specs.Free.{front_of}
use Rattle.iw_stream.specs.declared.landing.PlacedFrame.{PlacedFrame}
use Rattle.iw_stream.specs.Frames.{Frame, EarlyRecord, placed_at}
use Rattle.iw_stream.specs.Judging.{early_verdict}
use Rattle.iw_laws.specs.Turns.{seen_judged, seen_tried, front_verdict, ReadsFrames, IsJudged, IsEarly, HasTurn, TurnsSeen, HearsFrame, hears, was_placed}
use Rattle.iw_laws.specs.Rest.{HasRest, Over, AwaitsFrame, AwaitsAnswer, NoFrame}
use Rattle.iw_laws.specs.Rules.{seen_of}
use Rattle.iw_laws.proofs.Tales.{Tale}
use Rattle.iw_laws.proofs.Nexts.{standing, first_is_here, none_first_here}
use Rattle.iw_laws.proofs.Told.{Judged, JudgedEarly, Turned, Hears, Sees, sees}
use Rattle.iw_laws.proofs.Tracks.{Track, unread, sound, next_whole, next_none, was_placed_is, early_frame_is}

-- the stream is open in the state where it is in the acts
pub open_same : (s : StreamState) (t : Tale) → Track s t → is_open t.story.start ≡ is_open s.start
open_same s t k = ap is_open k.begins.start

reads : (s : StreamState) (t : Tale) → Track s t → ended s ≡ t.ended → ended s ≡ false → is_open s.start ≡ true → ReadsFrames t.ended t.story
reads s t k over running started = record { running = sym over ∙ running; open_now = open_same s t k ∙ started }

by_front : (table : Table) (s : StreamState) (t : Tale) (frame : Frame) → Track s t → front_verdict s.early (expecting s.start) (work.standing table s) frame ≡ front_verdict t.story.early (expecting t.story.start) (work.standing table s) frame
by_front table s t frame k = λ i. front_verdict (sym k.early.records_are i) (expecting (sym k.begins.start i)) (work.standing table s) frame

judged : (table : Table) (s : StreamState) (t : Tale) (step : Seen Octets) → Track s t → Judged table s step → IsJudged t.story (work.standing table s) step
judged table s t step k o =
    let h = first_is_here s o.frame (sound s t k) o.is_next in
    record { frame = o.frame; is_next = next_whole s t (carried_by o.frame) h.rest k h.whole ∙ ap Some (sym h.is); unplaced = was_placed_is s t k ∙ ap is_some o.unplaced; answer = o.answer ∙ ap (seen_judged o.frame) (by_front table s t o.frame k) }

turned : (table : Table) (s : StreamState) (t : Tale) (step : Seen Octets) → Track s t → Turned table s step → HasTurn t.story (work.standing table s) step
turned table s t step k o = record { frame = standing s o.frame; is_next = next_whole s t o.frame o.rest k o.whole; waited = was_placed_is s t k ∙ ap is_some o.kept; answer = o.answer }

early : (table : Table) (s : StreamState) (t : Tale) (step : Seen Octets) → Track s t → JudgedEarly table s step → IsEarly t.story (work.standing table s) step
early table s t step k o = record {
  frame = o.frame;
  no_next = next_none s t k o.none;
  is_early = early_frame_is s t k ∙ o.is_early;
  answer = o.answer ∙ (λ i. seen_tried (first_place_in (sym k.begins.start i)) o.frame (early_verdict (work.standing table s) o.frame));
}

-- what is heard is what came
bare_came : (s : StreamState) (t : Tale) (k : Track s t) (p : Progress) → Hears s p → in_order t.story.came ≡ inbox s
bare_came s t k p h =
    let n = unread s t h.startup k h.is in
    k.came ∙ (λ i. n.intro i ++ (n.bare.before i ++ inbox s))

heard_frame : (s : StreamState) (t : Tale) (k : Track s t) → ended s ≡ t.ended → (p : Progress) → Hears s p → HearsFrame t.ended t.story p
heard_frame s t k over p h = record {
  running = sym over ∙ h.running;
  awaited = ap awaits_frame (k.begins.start ∙ h.is);
  comes = (λ i. progress_in (k.begins.start i) (bare_came s t k p h i)) ∙ h.comes;
}

-- and leaves the same start-up
heard_start : (s : StreamState) (t : Tale) (k : Track s t) (p : Progress) → Hears s p → heard s.start (inbox s) ≡ (hears t.story).start
heard_start s t k p h = λ i. heard (sym k.begins.start i) (sym (bare_came s t k p h) i)

-- and no frame was placed, since the stream was not open
never_placed : (s : StreamState) (t : Tale) (k : Track s t) → is_open s.start ≡ false → was_placed t.story ≡ false
never_placed s t k shut = was_placed_is s t k ∙ go s.front s.early (k.shut shut).placed (k.early.unopened shut)
  where
    go : (o : Option PlacedFrame) (rs : List EarlyRecord) → is_some o ≡ false → rs ≡ [] → is_some (option_or o (placed_at rs (front_of (work.scene s)))) ≡ false
    go None rs e none = ap (λ z. is_some (placed_at z (front_of (work.scene s)))) none
    go (Some f) rs e none = absurd (true≢false e)

-- each step of work answers for the frame whose turn is next, or for the peer's start-up frame
pub answers : (table : Table) (s : StreamState) (t : Tale) (step : Seen Octets) → step ≡ seen_of (table_worked table s) (worked table s).start (work_step table s) → Track s t → ended s ≡ t.ended
    → TurnsSeen t.ended t.story (work.standing table s) step
answers table s t step rule k over = told step (sees table s (sound s t k) step rule).0
  where
    told : (step : Seen Octets) → Sees table s step → TurnsSeen t.ended t.story (work.standing table s) step
    told (seen.Done kind) h = tt
    told seen.Idle h = tt
    told (seen.Asked word private) h =
        let start = heard_start s t k progress.Asked h.0 in
        (heard_frame s t k over progress.Asked h.0, h.1 ∙ ap told_in start, h.2 ∙ ap private_in start)
    told (seen.Opened agreed word private) h =
        let start = heard_start s t k progress.Agreed h.0.hears_it in (
          record {
            hears_it = heard_frame s t k over progress.Agreed h.0.hears_it;
            fits = ap mismatch_in (sym start) ∙ h.0.fits;
            agreed_is = h.0.agreed_is ∙ ap agreement_in start;
          },
          h.1 ∙ ap told_in start,
          h.2 ∙ ap private_in start,
        )
    told (seen.Closed fault) h = heard_frame s t k over (progress.Faulted fault) h
    told (seen.Placed right stag to octets) (inl h) = (reads s t k over h.0.runs.running h.0.runs.started, inl (judged table s t (seen.Placed right stag to octets) k h.0))
    told (seen.Placed right stag to octets) (inr h) = (reads s t k over h.0.runs.running h.0.runs.started, inr (early table s t (seen.Placed right stag to octets) k h.0))
    told (seen.Tried place) h = (reads s t k over h.runs.running h.runs.started, early table s t (seen.Tried place) k h)
    told (seen.Buffered msn mo len) (inl h) = (reads s t k over h.0.runs.running h.0.runs.started, inl (judged table s t (seen.Buffered msn mo len) k h.0))
    told (seen.Buffered msn mo len) (inr h) = (reads s t k over h.0.runs.running h.0.runs.started, inr (early table s t (seen.Buffered msn mo len) k h.0))
    told (seen.Requested size stag to) h = (reads s t k over h.0.runs.running h.0.runs.started, judged table s t (seen.Requested size stag to) k h.0)
    told seen.Passed h = (reads s t k over h.0.runs.running h.0.runs.started, turned table s t seen.Passed k h.0)
    told (seen.Received octets solicited invalidate) h = (reads s t k over h.0.runs.running h.0.runs.started, turned table s t (seen.Received octets solicited invalidate) k h.0)
    told (seen.Flushed kind) h = tt
    told (seen.FlushedRecv octets) h = tt
    told (seen.Terminated fault) h = (reads s t k over h.0.runs.running h.0.runs.started, judged table s t (seen.Terminated fault) k h.0)
    told (seen.Fault fault) (inl h) =
        inl (record {
          hears_it = heard_frame s t k over progress.Agreed h.hears_it;
          mismatch = h.mismatch;
          is = ap mismatch_in (sym (heard_start s t k progress.Agreed h.hears_it)) ∙ h.is;
          fault_is = h.fault_is;
          unplaced = never_placed s t k (ap is_open h.hears_it.is);
        })
    told (seen.Fault fault) (inr (inl h)) = inr (reads s t k over h.runs.running h.runs.started, inl (judged table s t (seen.Fault fault) k h))
    told (seen.Fault fault) (inr (inr h)) = inr (reads s t k over h.runs.running h.runs.started, inr (turned table s t (seen.Fault fault) k h))

-- and where there is nothing to do, there is a reason
pub idles : (table : Table) (s : StreamState) (t : Tale) → seen.Idle ≡ seen_of (table_worked table s) (worked table s).start (work_step table s) → Track s t → ended s ≡ t.ended → HasRest t.ended t.story
idles table s t rule k over = go (sees table s (sound s t k) seen.Idle rule).0.1
  where
    go : Hears s progress.More ⊎ IsResting s → HasRest t.ended t.story
    go (inl h) = AwaitsFrame (heard_frame s t k over progress.More h)
    go (inr (Ended e old none)) = Over (sym over ∙ e)
    go (inr (Unanswered running a o)) = AwaitsAnswer (open_same s t k ∙ o) (ap awaits_frame k.begins.start ∙ a)
    go (inr (Without runs unplaced none early)) = NoFrame (open_same s t k ∙ runs.started) (next_none s t k (none_first_here s (sound s t k) none)) (early_frame_is s t k ∙ early)

-- and no message is finished
pub idle_unfinished : (table : Table) (s : StreamState) (t : Tale) → seen.Idle ≡ seen_of (table_worked table s) (worked table s).start (work_step table s) → Track s t → done_in s.queue ≡ None
idle_unfinished table s t rule k = (sees table s (sound s t k) seen.Idle rule).0.0
