-- A call to work at a stream at which octets of placed frames were given up is answered as at one at which all that came is held, and leaves what that leaves.
use Rattle.std.proofs.Common.{◌≡◌, inl, inr, ℕ, ◌+◌, ◌-◌, ◌%◌, ◌^◌, ◌<◌, ◌≤◌, List, [], length, take, drop, Option, Some, None, Ok, Err, Result, Bool, true, false, not, cond, Contains, refl, sym, ap, ◌∙◌, subst, arith}
use Rattle.std.specs.Prelude.{nat_eq, nat_lt, ◌&&◌, ◌||◌, replicate}
use Rattle.std.proofs.lemmas.Bool.Decides.{nat_tests}
use Rattle.std.specs.Option.{option_map_or}
use Rattle.std.proofs.lemmas.Bool.{true≢false, false≢true}
use Rattle.iw_octets.specs.declared.fault.Fault.{Fault}
use Rattle.iw_memory.specs.Table.{Table}
use Rattle.iw_ranges.specs.Arrived.{Arrived, Missing, Gone, nothing, delivery, taken_in, given_up, advanced, released, emptied}
use Rattle.iw_ranges.specs.InOrder.{is_gone, IsHeld}
use Rattle.iw_ranges.specs.Laws.{IsLeftOf}
use Rattle.iw_ranges.specs.Nearest.{place_near, before_start}
use Rattle.iw_ranges.proofs.InOrder.{held_moves}
use Rattle.iw_ranges.proofs.ByPlace.{gives_up_places, stays_come}
use Rattle.iw_ranges.specs.declared.Delivery.{Delivery}
use Rattle.iw_ranges.specs.declared.Delivery.TheVariants.{Kept, Dropped}
use Rattle.iw_ranges.proofs.Left.{all_left, left_moves, left_drops, left_takes}
use Rattle.iw_fpdu.specs.Frame.{frame_end}
use Rattle.iw_fpdu.specs.Laws.{IsBetween}
use Rattle.iw_locate.specs.Records.{from_of, IsPlaced, kept_from}
use Rattle.iw_locate.specs.Free.{Scene, scene_of, point_of, GivesUpOnlyPlaced}
use Rattle.iw_locate.proofs.GivesUp.{only_moves, only_adds, only_takes, only_places}
use Rattle.iw_queues.specs.declared.completions.Done.{Done}
use Rattle.iw_queues.specs.Queue.{done_in, oldest_in, handed_from}
use Rattle.arrayvec.specs.ArrayVec.{ArrayVec}
use Rattle.iw_reads.specs.Requests.{Requested}
use Rattle.iw_rdmap.specs.Terminate.{terminate_octets}
use Rattle.iw_startup.specs.declared.progress.Progress.{Progress}
use Rattle.iw_startup.specs.declared.progress.Progress.TheVariants as progress
use Rattle.iw_stream.specs.declared.landing.Landing.{Landing}
use Rattle.iw_stream.specs.declared.landing.Landing.TheVariants as landing
use Rattle.iw_stream.specs.declared.landing.PlacedFrame.{PlacedFrame}
use Rattle.iw_stream.specs.declared.landing.Turning.{Turning}
use Rattle.iw_stream.specs.declared.landing.Turning.TheVariants as turning
use Rattle.iw_stream.specs.Ending.{last_word, with_last_word}
use Rattle.iw_stream.specs.declared.ending.Ending.{Ending}
use Rattle.iw_stream.specs.declared.ending.Ending.TheVariants.{Over, Broken}
use Rattle.iw_stream.specs.Frames.{Frame, EarlyRecord, placed, record_tried}
use Rattle.iw_stream.specs.Judging.{verdict, early_verdict, turn_of}
use Rattle.iw_stream.specs.Starting.{StartState, AtOnce, Unheard, Heard, is_open, awaits_frame, is_responder, expecting, first_place_in, progress_in, heard, mismatch_in, negotiation_fault, agreement_in}
use Rattle.iw_stream.specs.Stream.{StreamState, ended, ends_by, Due, StartUp, LastWord, Ready, rtr_due, Response, NextPart, NoneDue, due, owes_frame, response_due, part_due, emission_due, octets_due, left_due, left_fetched, frame_fetched, delivery_of, after_deliver, place_of, left_out, quits, keeps_silent, recv_refusal, post_refusal, first_refusal, answer_refusal, with_buffer, with_request, with_first, with_mulpdu, accepted}
use Rattle.iw_startup.specs.declared.enhanced.Mismatch.{Mismatch}
use Rattle.iw_stream.specs.Terminating.{terminate_alone, terminate_judged, is_request_of, terminate_fetched}
use Rattle.iw_stream.specs.Work.{Task, HandOut, GiveUp, GiveBack, Hear, Turn, Clash, Judge, Try, Rest, task, frame_task, front_task, handing_back, next_frame, waiting, clashes, clash_fault, early_frame, scene, inbox, standing, step_of, left_by, table_left, heard_step, after_hearing, after_opening, after_turn, after_judging, after_trying, work_step, worked, table_worked}
use Rattle.iw_stream.specs.Work as work
use Rattle.iw_untagged.specs.Receiving.{Source, first_buffer, flushed}
use Rattle.iw_stream.proofs.Resting.{ended_task}
use Rattle.iw_stream.proofs.Fronts.{carried_by}
use Rattle.iw_stream.proofs.Tasks.{IsRunning, IsResting, Ended, Unanswered, Without, by_task, task_hands_back, task_hears, task_frame}
use Rattle.iw_events.specs.declared.act.StreamAct.{StreamAct}
use Rattle.iw_events.specs.declared.act.StreamAct.TheVariants.{Recv, Post, Emit, First, Deliver, Raw, Mulpdu, Accept, Reject, Work, Break}
use Rattle.iw_events.specs.declared.act.Shown.{Shown}
use Rattle.iw_events.specs.declared.act.Shown.TheVariants as shows
use Rattle.iw_events.specs.declared.act.Seen.{Seen}
use Rattle.iw_events.specs.declared.act.Seen.TheVariants as seen
use Rattle.iw_endpoint.specs.Isolation.{answer_or}
use Rattle.iw_laws.specs.Words.{Octets, private_data, deed}
use Rattle.iw_laws.specs.Rules.{StreamRule, seen_of, shown_of}
use Rattle.iw_laws.proofs.States.{stream_after}
use Rattle.iw_laws.proofs.Told.{after_act, fault_for, hears_due, left_told, quits_by, stops_asked, stops_broken}
use Rattle.iw_laws.proofs.Left.{HasLeft, all, same_waiting, frame_left, next_left, none_left, clash_left, judge_left, same_early, held, same_inbox}
use Rattle.iw_laws.proofs.Nexts.{standing as stands_at, first_is_here}
use Rattle.iw_laws.proofs.Tales.{Tale}
use Rattle.iw_laws.proofs.Tracks.{Track, sound, between_is, first_is, accepting, by_ended}
use Rattle.iw_laws.proofs.Onces.{not_answered, end_here, goes_judged, goes_turned, fore_end}

-- of what is left less is left, where both give up the same octets
left_releases : (left came : Arrived) (from to : ℕ) → IsLeftOf left came → IsLeftOf (released left from to) (released came from to)
unfolding released
left_releases left came from to is = record {
  floor = is.floor;
  cells = λ p kept.
      gives_up_places left from to p
      ∙ ap (given_up from to p) (is.cells p (λ gone. kept (gives_up_places left from to p ∙ ap (given_up from to p) gone)))
      ∙ sym (gives_up_places came from to p);
  come = λ p. stays_come left from to p ∙ is.come p ∙ sym (stays_come came from to p);
}

-- what there is to do, and why
data Cases (w : StreamState) : Type 0 where
  Hands : (done : Done) → done_in w.queue ≡ Some done → Cases w
  Gives : (done : Done) → done_in w.queue ≡ None → ended w ≡ true → oldest_in w.queue ≡ Some done → Cases w
  Returns : (buffer : List ℕ) → done_in w.queue ≡ None → ended w ≡ true → oldest_in w.queue ≡ None → first_buffer w.receiving.source ≡ Some buffer → Cases w
  Hearing : done_in w.queue ≡ None → ended w ≡ false → awaits_frame w.start ≡ true → Cases w
  Turns : (frame : PlacedFrame) → IsRunning w → waiting w ≡ Some frame → Cases w
  Clashing : (frame : Frame) → IsRunning w → waiting w ≡ None → next_frame w ≡ Some frame → clashes w frame ≡ true → Cases w
  Judging : (frame : Frame) → IsRunning w → waiting w ≡ None → next_frame w ≡ Some frame → clashes w frame ≡ false → Cases w
  Trying : (frame : Frame) → IsRunning w → waiting w ≡ None → next_frame w ≡ None → early_frame w ≡ Some frame → Cases w
  Resting : done_in w.queue ≡ None → IsResting w → Cases w

cases_of : (table : Table) (w : StreamState) → Cases w
cases_of table w =
    by_task (λ step left after. Cases w) table w (λ done e. Hands done e) (λ done none over e. Gives done none over e) (λ buffer none over old e. Returns buffer none over old e)
    (λ none running awaits. Hearing none running awaits) (λ f runs e. Turns f runs e) (λ f runs none next over. Clashing f runs none next over) (λ f runs none next calm. Judging f runs none next calm)
    (λ f runs none lacks e. Trying f runs none lacks e) (λ none resting. Resting none resting)

-- one has all of the other but octets of placed frames
pub record Like (a b : StreamState) : Type 0 where
  pub same : (x : Arrived) → record a { arrived = x } ≡ record b { arrived = x }
  pub left : IsLeftOf a.arrived b.arrived
  pub only : GivesUpOnlyPlaced (scene a)

-- where nothing past the in-order point was given up
pub nothing_given : (v : Scene (ArrayVec ℕ)) → IsHeld v.arrived → GivesUpOnlyPlaced v
nothing_given v held q low gone = absurd (true≢false (sym (ap is_gone gone) ∙ held (v.base + q) (omega (arith, low))))

-- nothing came past the in-order point of what was given up
held_emptied : (a : Arrived) → IsHeld (emptied a)
held_emptied a p low = let past : nat_lt p a.floor ≡ false = grind (arith, nat_tests) in ap (λ b. is_gone (cond b Gone Missing)) past

left_emptied : (a b : Arrived) → a.floor ≡ b.floor → IsLeftOf (emptied a) (emptied b)
left_emptied a b same = subst (IsLeftOf (emptied a)) (λ i. record { floor = same i; cells = [] }) (all_left (emptied a))

-- both end so
quits_like : (a b : StreamState) (ending : Ending) → Like a b → Like (record (quits a) { ending = ending }) (record (quits b) { ending = ending })
quits_like a b ending h = record {
  same = λ x. ap (λ (t : StreamState). record t { arrived = x; front = None; early = []; ending = ending }) (h.same x);
  left = left_emptied a.arrived b.arrived h.left.floor;
  only = nothing_given (scene (record (quits a) { ending = ending })) (held_emptied a.arrived);
}

-- a call to work is answered so at both
pub record WorksAlike (table : Table) (s w : StreamState) : Type 0 where
  pub step : work_step table s ≡ work_step table w
  pub regions : table_worked table s ≡ table_worked table w
  pub leaves : Like (worked table s) (worked table w)

works_by : (table : Table) (s w : StreamState) (a b : Task) → task s ≡ a → task w ≡ b → step_of table s a ≡ step_of table w b → table_left table s a ≡ table_left table w b → Like (left_by table s a) (left_by table w b) → WorksAlike table s w
works_by table s w a b is_a is_b step regions leaves = record {
  step = ap (step_of table s) is_a ∙ step ∙ ap (step_of table w) (sym is_b);
  regions = ap (table_left table s) is_a ∙ regions ∙ ap (table_left table w) (sym is_b);
  leaves = subst (λ z. Like (left_by table s z) (worked table w)) (sym is_a) (subst (λ z. Like (left_by table s a) (left_by table w z)) (sym is_b) leaves);
}

-- the Terminate of a clash does not hang on the frame's octets
clash_word : (asked : Requested) (f g : Frame) → terminate_judged asked f clash_fault ≡ terminate_judged asked g clash_fault
clash_word asked f g = go (is_request_of asked f.ulpdu) (is_request_of asked g.ulpdu)
  where
    go : (a b : Bool) → terminate_octets clash_fault (take 46 f.ulpdu) (length f.ulpdu) a ≡ terminate_octets clash_fault (take 46 g.ulpdu) (length g.ulpdu) b
    go true true = refl
    go true false = refl
    go false true = refl
    go false false = refl

module _ (table : Table) (s : StreamState) (came : Arrived) (left : IsLeftOf s.arrived came) (only : GivesUpOnlyPlaced (scene s)) (t : Tale) (k : Track (all s came left only) t) where
  abbrev w : StreamState
  w = record s { arrived = came }

  low : first_place_in s.start ≤ came.floor
  low = omega (arith, k.point, first_is w t k.intro k.begins)

  between : IsBetween (expecting s.start).markers (point_of (scene w))
  between = between_is w t k

  waits : (o : Option PlacedFrame) → waiting w ≡ o → waiting s ≡ o
  waits o e = same_waiting s came left only ∙ e

  -- the in-order point moves past a frame, over which no placed record reaches
  moves_past : (e : ℕ) → ((r : EarlyRecord) → Contains s.early r → IsPlaced r.state → from_of r < e → r.end ≤ e)
      → GivesUpOnlyPlaced (scene_of (expecting s.start) (first_place_in s.start) (advanced s.arrived (first_place_in s.start + e)) (kept_from e s.early))
  moves_past e passed =
      let back : first_place_in s.start + e - first_place_in s.start ≡ e = omega arith in
      subst (λ n. GivesUpOnlyPlaced (scene_of (expecting s.start) (first_place_in s.start) (advanced s.arrived (first_place_in s.start + e)) (kept_from n s.early))) back
      (only_moves (scene s) only (first_place_in s.start + e) (λ r within is_placed before. omega (arith, back, passed r within is_placed (omega (arith, before, back)))))

  turned_past : (f : PlacedFrame) → waiting w ≡ Some f → (r : EarlyRecord) → Contains s.early r → IsPlaced r.state → from_of r < frame_end (expecting s.start).markers f.start f.len → r.end ≤ frame_end (expecting s.start).markers f.start f.len
  turned_past f e r within is_placed before =
      let x = (sound w t k).placed_is f e in
      let end = fore_end w f x.frame x.rest x x.whole in
      elim (goes_turned w t k f x.frame x.rest e x.whole r within is_placed) [ inl ends ↦ omega (arith, ends, end) | inr past ↦ absurd (omega (arith, past, before, end)) ]

  judged_past : (f : Frame) → next_frame w ≡ Some f → clashes w f ≡ false → (r : EarlyRecord) → Contains s.early r → IsPlaced r.state → from_of r < frame_end (expecting s.start).markers f.start (length f.ulpdu) → r.end ≤ frame_end (expecting s.start).markers f.start (length f.ulpdu)
  unfolding end_here
  judged_past f e calm r within is_placed before =
      let x = first_is_here w f (sound w t k) e in
      let start : f.start ≡ (stands_at w (carried_by f)).start = ap (λ (z : Frame). z.start) x.is in
      let end : frame_end (expecting s.start).markers f.start (length f.ulpdu) ≡ end_here w (carried_by f) = ap (λ n. frame_end (expecting s.start).markers n (length f.ulpdu)) start in
      elim (goes_judged w t k (carried_by f) (ap (clashes w) (sym x.is) ∙ calm) r within is_placed) [ inl ends ↦ omega (arith, ends, end) | inr past ↦ absurd (omega (arith, past, before, end)) ]

  -- it ends by a fault
  ends_like : (payload : List ℕ) → Like (ends_by s payload) (ends_by w payload)
  ends_like payload = record {
    same = λ x i. record s { arrived = x; front = None; early = []; ending = cond (is_responder s.start && nat_eq (left.floor i) (first_place_in s.start)) (Over None) (with_last_word payload) };
    left = left_emptied s.arrived came left.floor;
    only = nothing_given (scene (ends_by s payload)) (held_emptied s.arrived);
  }

  turn_like : (f : PlacedFrame) → waiting w ≡ Some f → (r : Result Turning Fault) → Like (after_turn s f r) (after_turn w f r)
  turn_like f e (Ok turning.Passed) = record { same = λ x. refl; left = left_moves s.arrived came (work.place_past s f) left; only = moves_past (frame_end (expecting s.start).markers f.start f.len) (turned_past f e) }
  turn_like f e (Ok (turning.Completed solicited invalidate)) = record { same = λ x. refl; left = left_moves s.arrived came (work.place_past s f) left; only = moves_past (frame_end (expecting s.start).markers f.start f.len) (turned_past f e) }
  turn_like f e (Ok (turning.Answered ticket)) = record { same = λ x. refl; left = left_moves s.arrived came (work.place_past s f) left; only = moves_past (frame_end (expecting s.start).markers f.start f.len) (turned_past f e) }
  turn_like f e (Err fault) = ends_like _

  judge_like : (f : Frame) → next_frame w ≡ Some f → clashes w f ≡ false → (r : Result Landing Fault) → Like (after_judging s f r) (after_judging w f r)
  judge_like f e calm (Ok (landing.Write at)) = record { same = λ x. refl; left = left; only = only }
  judge_like f e calm (Ok (landing.Response at)) = record { same = λ x. refl; left = left; only = only }
  judge_like f e calm (Ok (landing.Send msn mo len)) = record { same = λ x. refl; left = left; only = only }
  judge_like f e calm (Ok (landing.Request request)) = record { same = λ x. refl; left = left_moves s.arrived came (work.place_past s (placed f)) left; only = moves_past (frame_end (expecting s.start).markers f.start (length f.ulpdu)) (judged_past f e calm) }
  judge_like f e calm (Ok (landing.Terminate fault)) =
      quits_like (work.beyond s (placed f)) (work.beyond w (placed f)) (Over None)
      (record { same = λ x. refl; left = left_moves s.arrived came (work.place_past s (placed f)) left; only = moves_past (frame_end (expecting s.start).markers f.start (length f.ulpdu)) (judged_past f e calm) })
  judge_like f e calm (Err fault) = ends_like _

  -- a frame is judged before its turn
  try_like : (f : Frame) (at : Option Landing) → Like (after_trying s f at) (after_trying w f at)
  try_like f None = record { same = λ x. refl; left = left; only = only_adds (scene s) only (record_tried {A = Landing} f None) }
  try_like f (Some x) =
      let r : EarlyRecord = record_tried f (Some x) in
      record {
        same = λ y. refl;
        left = left_releases s.arrived came (first_place_in s.start + from_of r) (first_place_in s.start + r.end) left;
        only = only_places (scene s) r only tt;
      }

  -- before the stream is open
  shut_held : is_open s.start ≡ false → s.early ≡ []
  shut_held shut = k.early.unopened shut

  hears_like : s.early ≡ [] → Like (work.hears s) (work.hears w)
  hears_like none =
      let same : inbox s ≡ inbox w = same_inbox s came left only k.early.judged between low none in
      record {
        same = λ x i. record s { start = heard s.start (same i); arrived = x };
        left = subst (λ n. IsLeftOf (advanced s.arrived (first_place_in (heard s.start (inbox s)))) (advanced came n)) (ap (λ octets. first_place_in (heard s.start octets)) same) (left_moves s.arrived came (first_place_in (heard s.start (inbox s))) left);
        only = nothing_given (scene (work.hears s)) (held_moves s.arrived (first_place_in (heard s.start (inbox s))) (held s came left only k.early.judged between low none));
      }

  opens_like : s.early ≡ [] → Like (after_hearing s progress.Agreed) (after_hearing w progress.Agreed)
  opens_like none =
      let same : inbox s ≡ inbox w = same_inbox s came left only k.early.judged between low none in
      subst (λ m. Like (after_hearing s progress.Agreed) (after_opening (work.hears w) m)) (ap (λ octets. mismatch_in (heard s.start octets)) same) (go (mismatch_in (heard s.start (inbox s))))
    where
      go : (m : Option Mismatch) → Like (after_opening (work.hears s) m) (after_opening (work.hears w) m)
      go None = hears_like none
      go (Some mismatch) =
          let h = hears_like none in
          let payload : List ℕ = terminate_alone (negotiation_fault mismatch) in
          record {
            same = λ x i. record (h.same x i) { front = None; early = []; ending = cond (is_responder (h.same x i).start && nat_eq (h.left.floor i) (first_place_in (h.same x i).start)) (Over None) (with_last_word payload) };
            left = left_emptied (work.hears s).arrived (work.hears w).arrived h.left.floor;
            only = nothing_given (scene (ends_by (work.hears s) payload)) (held_emptied (work.hears s).arrived);
          }

  hear_like : s.early ≡ [] → (p : Progress) → Like (after_hearing s p) (after_hearing w p)
  hear_like none progress.More = record { same = λ x. refl; left = left; only = only }
  hear_like none progress.Asked = hears_like none
  hear_like none progress.Agreed = opens_like none
  hear_like none (progress.Faulted fault) = quits_like (work.hears s) (work.hears w) (Over None) (hears_like none)

  shut_awaits : (z : StartState) → awaits_frame z ≡ true → is_open z ≡ false
  shut_awaits (AtOnce layout) e = absurd (false≢true e)
  shut_awaits (Unheard u) e = refl
  shut_awaits (Heard u) e = absurd (false≢true e)

  frames_task : (z : StreamState) → IsRunning z → task z ≡ frame_task z
  frames_task z r = task_frame z r.finished r.running r.heard r.started

  runs_too : IsRunning w → IsRunning s
  runs_too r = record { finished = r.finished; running = r.running; heard = r.heard; started = r.started }

  turn_task : (z : StreamState) (f : PlacedFrame) → IsRunning z → waiting z ≡ Some f → task z ≡ Turn f
  turn_task z f r e = frames_task z r ∙ ap (λ o. option_map_or Turn o (option_map_or (front_task z) (next_frame z) (option_map_or Try (early_frame z) Rest))) e

  front_is : (z : StreamState) (f : Frame) → IsRunning z → waiting z ≡ None → next_frame z ≡ Some f → task z ≡ front_task z f
  front_is z f r none e = frames_task z r ∙ (λ i. option_map_or Turn (none i) (option_map_or (front_task z) (e i) (option_map_or Try (early_frame z) Rest)))

  try_task : (z : StreamState) (o : Option Frame) → IsRunning z → waiting z ≡ None → next_frame z ≡ None → early_frame z ≡ o → task z ≡ option_map_or Try o Rest
  try_task z o r none lacks e = frames_task z r ∙ (λ i. option_map_or Turn (none i) (option_map_or (front_task z) (lacks i) (option_map_or Try (e i) Rest)))

  done_task : (z : StreamState) (done : Done) → done_in z.queue ≡ Some done → task z ≡ HandOut done
  done_task z done e = ap (λ o. option_map_or HandOut o (cond (ended z) (handing_back z) (cond (awaits_frame z.start) Hear (cond (not (is_open z.start)) Rest (frame_task z))))) e

  shut_task : (z : StreamState) → done_in z.queue ≡ None → ended z ≡ false → awaits_frame z.start ≡ false → is_open z.start ≡ false → task z ≡ Rest
  shut_task z none running heard shut = λ i. option_map_or HandOut (none i) (cond (running i) (handing_back z) (cond (heard i) Hear (cond (not (shut i)) Rest (frame_task z))))

  stays_like : Like s w
  stays_like = record { same = λ x. refl; left = left; only = only }

  rests : done_in s.queue ≡ None → IsResting w → WorksAlike table s w
  rests none (Ended over old empty) =
      let back : handing_back s ≡ Rest = λ i. option_map_or GiveUp (old i) (option_map_or GiveBack (empty i) Rest) in
      works_by table s w Rest Rest (task_hands_back s none over ∙ back) (task_hands_back w none over ∙ back) refl refl stays_like
  rests none (Unanswered running heard shut) = works_by table s w Rest Rest (shut_task s none running heard shut) (shut_task w none running heard shut) refl refl stays_like
  rests none (Without r unplaced lacks early) =
      works_by table s w Rest Rest
      (try_task s None (runs_too r) (waits None unplaced) (none_left s came left only k.early.judged between low (waits None unplaced) lacks) (same_early s came left only k.early.judged between low ∙ early))
      (try_task w None r unplaced lacks early) refl refl stays_like

  pub works_alike : WorksAlike table s w
  works_alike = go (cases_of table w)
    where
      go : Cases w → WorksAlike table s w
      go (Hands done e) = works_by table s w (HandOut done) (HandOut done) (done_task s done e) (done_task w done e) refl refl (record { same = λ x. refl; left = left; only = only })
      go (Gives done none over e) =
          let back : handing_back s ≡ GiveUp done = ap (λ o. option_map_or GiveUp o (option_map_or GiveBack (first_buffer s.receiving.source) Rest)) e in
          works_by table s w (GiveUp done) (GiveUp done) (task_hands_back s none over ∙ back) (task_hands_back w none over ∙ back) refl refl (record { same = λ x. refl; left = left; only = only })
      go (Returns buffer none over old e) =
          let back : handing_back s ≡ GiveBack buffer = λ i. option_map_or GiveUp (old i) (option_map_or GiveBack (e i) Rest) in
          works_by table s w (GiveBack buffer) (GiveBack buffer) (task_hands_back s none over ∙ back) (task_hands_back w none over ∙ back) refl refl (record { same = λ x. refl; left = left; only = only })
      go (Hearing none running awaits) =
          let bare : s.early ≡ [] = shut_held (shut_awaits s.start awaits) in
          let same : inbox s ≡ inbox w = same_inbox s came left only k.early.judged between low bare in
          let p : Progress = progress_in s.start (inbox s) in
          works_by table s w Hear Hear (task_hears s none running awaits) (task_hears w none running awaits) (λ i. heard_step s.start (same i) (progress_in s.start (same i))) refl
          (subst (λ q. Like (after_hearing s p) (after_hearing w q)) (ap (progress_in s.start) same) (hear_like bare p))
      go (Turns f r e) =
          works_by table s w (Turn f) (Turn f) (turn_task s f (runs_too r) (waits (Some f) e)) (turn_task w f r e) refl refl (turn_like f e (turn_of (standing table s) f))
      go (Clashing f r none e over) =
          let g : Frame = frame_left s came left only k.early.judged between low in
          let next : next_frame s ≡ Some g = next_left s came left only k.early.judged between low (waits None none) f e in
          let clash : clashes s g ≡ true = clash_left s came left only k.early.judged between low (waits None none) f e ∙ over in
          works_by table s w (Clash g) (Clash f) (front_is s g (runs_too r) (waits None none) next ∙ ap (λ b. cond b (Clash g) (Judge g)) clash) (front_is w f r none e ∙ ap (λ b. cond b (Clash f) (Judge f)) over) refl refl
          (subst (λ payload. Like (ends_by s (terminate_judged s.asked g clash_fault)) (ends_by w payload)) (clash_word s.asked g f) (ends_like (terminate_judged s.asked g clash_fault)))
      go (Judging f r none e calm) =
          let next : next_frame s ≡ Some f = judge_left s came left only k.early.judged between low (waits None none) f e calm in
          works_by table s w (Judge f) (Judge f) (front_is s f (runs_too r) (waits None none) next ∙ ap (λ b. cond b (Clash f) (Judge f)) calm) (front_is w f r none e ∙ ap (λ b. cond b (Clash f) (Judge f)) calm) refl refl
          (judge_like f e calm (verdict (standing table s) f))
      go (Trying f r none lacks e) =
          works_by table s w (Try f) (Try f)
          (try_task s (Some f) (runs_too r) (waits None none) (none_left s came left only k.early.judged between low (waits None none) lacks) (same_early s came left only k.early.judged between low ∙ e))
          (try_task w (Some f) r none lacks e) refl refl (try_like f (early_verdict (standing table s) f))
      go (Resting none resting) = rests none resting

-- ---- every act

left_trans : (a b c : Arrived) → IsLeftOf a b → IsLeftOf b c → IsLeftOf a c
left_trans a b c x y = record {
  floor = x.floor ∙ y.floor;
  cells = λ p kept. x.cells p kept ∙ y.cells p (λ gone. kept (x.cells p kept ∙ gone));
  come = λ p. x.come p ∙ y.come p;
}

-- s has ended, and w is what it would be had it given nothing up as it ended: but what came, and what is kept of frames, all is the same
pub record HasQuit (s w : StreamState) : Type 0 where
  pub over : ended w ≡ true
  pub floor : s.arrived.floor ≡ w.arrived.floor
  pub same : (x : Arrived) (y : List EarlyRecord) (z : Option PlacedFrame) → record s { arrived = x; early = y; front = z } ≡ record w { arrived = x; early = y; front = z }

-- w is what s would be, had no octets been given up
pub data IsLeft (s w : StreamState) : Type 0 where
  Still : HasLeft s w → GivesUpOnlyPlaced (scene s) → IsLeft s w
  Quit : HasQuit s w → IsLeft s w

-- but for what came, and what is kept of frames
pub left_apart : {s w : StreamState} → IsLeft s w → record s { arrived = w.arrived; early = w.early; front = w.front } ≡ w
left_apart {s} {w} (Still has only) = ap (λ (t : StreamState). record t { early = w.early; front = w.front }) has.same
left_apart {s} {w} (Quit q) = q.same w.arrived w.early w.front

pub left_floor : {s w : StreamState} → IsLeft s w → s.arrived.floor ≡ w.arrived.floor
left_floor (Still has only) = has.left.floor
left_floor (Quit q) = q.floor

-- the receive buffers come from elsewhere at both
pub left_requeued : {s w : StreamState} (x : Source) → IsLeft s w → IsLeft (record s { receiving = record s.receiving { source = x } }) (record w { receiving = record w.receiving { source = x } })
left_requeued {s} {w} x (Still has only) =
    Still (record { same = λ i. record (has.same i) { receiving = record (has.same i).receiving { source = x } }; left = has.left }) only
left_requeued {s} {w} x (Quit q) =
    Quit (record { over = q.over; floor = q.floor; same = λ a b c. ap (λ (t : StreamState). record t { receiving = record t.receiving { source = x } }) (q.same a b c) })

joins_left : (a b c : StreamState) → Like a b → HasLeft b c → IsLeft a c
joins_left a b c x y = Still (record { same = x.same c.arrived ∙ y.same; left = left_trans a.arrived b.arrived c.arrived x.left y.left }) x.only

joins_quit : (a b c : StreamState) → Like a b → ended c ≡ true → HasLeft b (quits c) → HasQuit a c
joins_quit a b c x over y = record {
  over = over;
  floor = x.left.floor ∙ y.left.floor;
  same = λ p q r. ap (λ (t : StreamState). record t { early = q; front = r }) (x.same p) ∙ ap (λ (t : StreamState). record t { arrived = p; early = q; front = r }) y.same;
}

left_after : (a b c : StreamState) (gone : Bool) → (gone ≡ true → ended c ≡ true) → Like a b → HasLeft b (quits_by gone c) → IsLeft a c
left_after a b c true over x y = Quit (joins_quit a b c x (over refl) y)
left_after a b c false over x y = joins_left a b c x y

-- a stream has ended after an act that ends it
ends_over : (s : StreamState) (act : StreamAct Octets) → (deed act).ends ≡ true → ended (after_act s act) ≡ true
ends_over s (Work (seen.Closed fault)) e = refl
ends_over s (Work (seen.Terminated fault)) e = refl
ends_over s (Work (seen.Fault fault)) e = by_ended (hears_due s) (fault_for s fault)
ends_over s (Work (seen.Done kind)) e = absurd (false≢true e)
ends_over s (Work (seen.Flushed kind)) e = absurd (false≢true e)
ends_over s (Work (seen.FlushedRecv octets)) e = absurd (false≢true e)
ends_over s (Work (seen.Asked word private)) e = absurd (false≢true e)
ends_over s (Work (seen.Opened agreed word private)) e = absurd (false≢true e)
ends_over s (Work (seen.Placed right stag to octets)) e = absurd (false≢true e)
ends_over s (Work (seen.Buffered msn mo len)) e = absurd (false≢true e)
ends_over s (Work (seen.Requested size stag to)) e = absurd (false≢true e)
ends_over s (Work (seen.Tried place)) e = absurd (false≢true e)
ends_over s (Work seen.Passed) e = absurd (false≢true e)
ends_over s (Work (seen.Received octets solicited invalidate)) e = absurd (false≢true e)
ends_over s (Work seen.Idle) e = absurd (false≢true e)
ends_over s (Emit (shows.Frame from octets)) e = absurd (false≢true e)
ends_over s (Emit (shows.Fetched from frame stag to octets)) e = absurd (false≢true e)
ends_over s (Emit (shows.Fault fault)) e = by_ended s (terminate_fetched s.asked fault)
ends_over s (Emit shows.Nothing) e = absurd (false≢true e)
ends_over s (Recv len refused) e = absurd (false≢true e)
ends_over s (Post request refused) e = absurd (false≢true e)
ends_over s (First number refused) e = absurd (false≢true e)
ends_over s (Deliver from number octets delivery) e = absurd (false≢true e)
ends_over s (Raw number octets delivery) e = absurd (false≢true e)
ends_over s (Mulpdu size refused) e = absurd (false≢true e)
ends_over s (Accept private answer) e = absurd (false≢true e)
ends_over s (Reject private None) e = refl
ends_over s (Reject private (Some refusal)) e = absurd (false≢true e)
ends_over s Break e = refl

-- ---- every act of a stream that has ended

-- what is told of both is the same
quit_joins : (a b c : StreamState) (gone : Bool) → HasQuit a b → HasLeft b (quits_by gone c) → HasQuit a c
quit_joins a b c true x y = record {
  over = sym (ap ended y.same) ∙ x.over;
  floor = x.floor ∙ y.left.floor;
  same = λ p q r. x.same p q r ∙ ap (λ (t : StreamState). record t { arrived = p; early = q; front = r }) y.same;
}
quit_joins a b c false x y = record {
  over = sym (ap ended y.same) ∙ x.over;
  floor = x.floor ∙ y.left.floor;
  same = λ p q r. x.same p q r ∙ ap (λ (t : StreamState). record t { arrived = p; early = q; front = r }) y.same;
}

module _ (table : Table) (s w : StreamState) (q : HasQuit s w) where
  -- whatever does not read what came, or what is kept of frames, is the same at both
  abbrev bare : record s { arrived = nothing; early = []; front = None } ≡ record w { arrived = nothing; early = []; front = None }
  bare = q.same nothing [] None

  quit_over : ended s ≡ true
  quit_over = ap ended bare ∙ q.over

  -- ---- a call to work
  record HandsAlike (a : Task) : Type 0 where
    step : step_of table s a ≡ step_of table w a
    regions : table_left table s a ≡ table_left table w a
    leaves : HasQuit (left_by table s a) (left_by table w a)

  hands_alike : (done oldest : Option Done) (buffer : Option (List ℕ)) → HandsAlike (option_map_or HandOut done (option_map_or GiveUp oldest (option_map_or GiveBack buffer Rest)))
  hands_alike (Some done) oldest buffer = record {
    step = refl;
    regions = refl;
    leaves = record { over = q.over; floor = q.floor; same = λ x y z. ap (λ (t : StreamState). record t { queue = handed_from t.queue (Some done) }) (q.same x y z) };
  }
  hands_alike None (Some oldest) buffer = record {
    step = refl;
    regions = refl;
    leaves = record { over = q.over; floor = q.floor; same = λ x y z. ap (λ (t : StreamState). record t { queue = handed_from t.queue (Some oldest) }) (q.same x y z) };
  }
  hands_alike None None (Some buffer) = record {
    step = refl;
    regions = refl;
    leaves = record { over = q.over; floor = q.floor; same = λ x y z. ap (λ (t : StreamState). record t { receiving = flushed t.receiving }) (q.same x y z) };
  }
  hands_alike None None None = record { step = refl; regions = refl; leaves = q }

  abbrev hand : Task
  hand = option_map_or HandOut (done_in s.queue) (handing_back s)

  hand_there : task w ≡ hand
  hand_there = ended_task w q.over ∙ sym (ap (λ (t : StreamState). option_map_or HandOut (done_in t.queue) (handing_back t)) bare)

  works_quit : (step : Seen Octets) → StreamRule table s (Work step) → StreamRule table w (Work step) × HasQuit (worked table s) (worked table w)
  works_quit step rule =
      let here : task s ≡ hand = ended_task s quit_over in
      let h = hands_alike (done_in s.queue) (oldest_in s.queue) (first_buffer s.receiving.source) in
      let leaves : HasQuit (worked table s) (worked table w) =
      subst (λ a. HasQuit (left_by table s a) (worked table w)) (sym here) (subst (λ a. HasQuit (left_by table s hand) (left_by table w a)) (sym hand_there) h.leaves) in
      let regions : table_worked table s ≡ table_worked table w = ap (table_left table s) here ∙ h.regions ∙ ap (table_left table w) (sym hand_there) in
      let answers : work_step table s ≡ work_step table w = ap (step_of table s) here ∙ h.step ∙ ap (step_of table w) (sym hand_there) in
      let start : (worked table s).start ≡ (worked table w).start = ap (λ (t : StreamState). t.start) (leaves.same nothing [] None) in
      (rule ∙ (λ i. seen_of (regions i) (start i) (answers i)), leaves)

  -- ---- what goes out
  abbrev last_due : StreamState → Due
  last_due t = cond (owes_frame t) StartUp (option_map_or LastWord (last_word t.ending) NoneDue)

  due_over : (t : StreamState) → ended t ≡ true → due t ≡ last_due t
  due_over t over =
      ap (λ b. cond (owes_frame t) StartUp (option_map_or LastWord (last_word t.ending) (cond (b || (not (is_open t.start) || keeps_silent t)) NoneDue (option_map_or Ready (rtr_due t) (option_map_or Response (response_due t) (option_map_or NextPart (part_due t) NoneDue)))))) over

  record GoesAlike (d : Due) : Type 0 where
    shown : shown_of table (emission_due table s d) (octets_due table s d) ≡ shown_of table (emission_due table w d) (octets_due table w d)
    leaves : HasQuit (left_due table s d) (left_due table w d)

  goes_alike : (owes : Bool) (o : Option Octets) → GoesAlike (cond owes StartUp (option_map_or LastWord o NoneDue))
  goes_alike true o = record {
    shown = ap (λ (t : StreamState). shown_of table (emission_due table t StartUp) (octets_due table t StartUp)) bare;
    leaves = record { over = q.over; floor = q.floor; same = λ x y z. ap (λ (t : StreamState). left_due table t StartUp) (q.same x y z) };
  }
  goes_alike false (Some payload) = record {
    shown = ap (λ (t : StreamState). shown_of table (emission_due table t (LastWord payload)) (octets_due table t (LastWord payload))) bare;
    leaves = record { over = refl; floor = q.floor; same = λ x y z. ap (λ (t : StreamState). left_due table t (LastWord payload)) (q.same x y z) };
  }
  goes_alike false None = record { shown = refl; leaves = q }

  emits_quit : (shown : Shown Octets) → StreamRule table s (Emit shown) → StreamRule table w (Emit shown) × HasQuit (left_due table s (due s)) (left_due table w (due w))
  emits_quit shown rule =
      let here : due s ≡ last_due s = due_over s quit_over in
      let there : due w ≡ last_due s = due_over w q.over ∙ sym (ap last_due bare) in
      let h = goes_alike (owes_frame s) (last_word s.ending) in
      let leaves : HasQuit (left_due table s (due s)) (left_due table w (due w)) =
      subst (λ d. HasQuit (left_due table s d) (left_due table w (due w))) (sym here) (subst (λ d. HasQuit (left_due table s (last_due s)) (left_due table w d)) (sym there) h.leaves) in (
        rule ∙ ap (λ d. shown_of table (emission_due table s d) (octets_due table s d)) here ∙ h.shown ∙ ap (λ d. shown_of table (emission_due table w d) (octets_due table w d)) (sym there),
        leaves,
      )

  -- ---- what comes
  drops : (t : StreamState) (number n : ℕ) → ended t ≡ true → delivery_of t number n ≡ Dropped
  drops t number n over = ap (λ b. cond b Dropped (delivery t.arrived (place_of t number) (n - left_out t number))) over

  drops_quit : (number : ℕ) (octets : Octets) (answer : Delivery) → answer ≡ delivery_of s number (length octets)
      → (answer ≡ delivery_of w number (length octets)) × HasQuit (after_deliver s number octets answer) (after_deliver w number octets answer)
  drops_quit number octets answer rule =
      let dropped : answer ≡ Dropped = rule ∙ drops s number (length octets) quit_over in (
        dropped ∙ sym (drops w number (length octets) q.over),
        subst (λ d. HasQuit (after_deliver s number octets d) (after_deliver w number octets d)) (sym dropped)
            (record { over = q.over; floor = q.floor; same = λ x y z. ap (λ (t : StreamState). record t { answered = true }) (q.same x y z) }),
      )

  -- the rule of an act that reads nothing else is the same
  acts_quit : (act : StreamAct Octets) → StreamRule table s act → StreamRule table w act × HasQuit (stream_after table s act) (stream_after table w act)
  acts_quit (Work step) rule = works_quit step rule
  acts_quit (Emit shown) rule = emits_quit shown rule
  acts_quit (Deliver from number octets answer) rule =
      let d = drops_quit number octets answer rule.1 in
      ((rule.0 ∙ ap (λ (t : StreamState). (t.first + from) % 2 ^ 32) bare, d.0), d.1)
  acts_quit (Raw number octets answer) rule = drops_quit number octets answer rule
  acts_quit (Recv len None) rule = (
    rule ∙ ap recv_refusal bare,
    record { over = q.over; floor = q.floor; same = λ x y z. ap (λ (t : StreamState). with_buffer t (replicate len 0)) (q.same x y z) },
  )
  acts_quit (Recv len (Some refusal)) rule = (rule ∙ ap recv_refusal bare, q)
  acts_quit (Post request None) rule = (
    (rule.0, rule.1 ∙ ap (λ (t : StreamState). post_refusal t request) bare),
    record { over = q.over; floor = q.floor; same = λ x y z. ap (λ (t : StreamState). with_request t request) (q.same x y z) },
  )
  acts_quit (Post request (Some refusal)) rule = ((rule.0, rule.1 ∙ ap (λ (t : StreamState). post_refusal t request) bare), q)
  acts_quit (First number None) rule = (
    rule ∙ ap first_refusal bare,
    record { over = q.over; floor = q.floor; same = λ x y z. ap (λ (t : StreamState). with_first t number) (q.same x y z) },
  )
  acts_quit (First number (Some refusal)) rule = (rule ∙ ap first_refusal bare, q)
  acts_quit (Mulpdu size None) rule = (rule, record { over = q.over; floor = q.floor; same = λ x y z. ap (λ (t : StreamState). with_mulpdu t size) (q.same x y z) })
  acts_quit (Mulpdu size (Some refusal)) rule = (rule, q)
  acts_quit (Accept private (Ok agreed)) rule = (
    rule ∙ ap (λ (t : StreamState). answer_or (answer_refusal t (private_data private).items) (agreement_in t.start)) bare,
    record { over = q.over; floor = q.floor; same = λ x y z. ap (λ (t : StreamState). accepted t (private_data private)) (q.same x y z) },
  )
  acts_quit (Accept private (Err refusal)) rule = (rule ∙ ap (λ (t : StreamState). answer_or (answer_refusal t (private_data private).items) (agreement_in t.start)) bare, q)
  acts_quit (Reject private None) rule = (
    rule ∙ ap (λ (t : StreamState). answer_refusal t (private_data private).items) bare,
    record { over = refl; floor = q.floor; same = λ x y z. ap (λ (t : StreamState). stops_asked t private) (q.same x y z) },
  )
  acts_quit (Reject private (Some refusal)) rule = (rule ∙ ap (λ (t : StreamState). answer_refusal t (private_data private).items) bare, q)
  acts_quit Break rule = (rule, record { over = refl; floor = q.floor; same = λ x y z. ap stops_broken (q.same x y z) })

module _ (table : Table) (s : StreamState) (came : Arrived) (left : IsLeftOf s.arrived came) (only : GivesUpOnlyPlaced (scene s)) (t : Tale) (k : Track (all s came left only) t) where
  abbrev v : StreamState
  v = record s { arrived = came }

  stays_alike : Like s v
  stays_alike = record { same = λ x. refl; left = left; only = only }

  -- ---- what goes out
  due_same : due s ≡ due v
  due_same =
      λ i. cond (owes_frame s) StartUp
      (option_map_or LastWord (last_word s.ending)
      (cond (ended s || (not (is_open s.start) || (is_responder s.start && nat_eq (left.floor i) (first_place_in s.start)))) NoneDue (option_map_or Ready (rtr_due s) (option_map_or Response (response_due s) (option_map_or NextPart (part_due s) NoneDue)))))

  shown_alike : (d : Due) → shown_of table (emission_due table s d) (octets_due table s d) ≡ shown_of table (emission_due table v d) (octets_due table v d)
  shown_alike StartUp = refl
  shown_alike (LastWord payload) = refl
  shown_alike (Ready rtr) = refl
  shown_alike (Response part) = refl
  shown_alike (NextPart part) = refl
  shown_alike NoneDue = refl

  due_like : (d : Due) → Like (left_due table s d) (left_due table v d)
  due_like StartUp = record { same = λ x. refl; left = left; only = only }
  due_like (LastWord payload) = record { same = λ x. refl; left = left; only = only }
  due_like (Ready rtr) = record { same = λ x. refl; left = left; only = only }
  due_like (Response part) = go (frame_fetched table s part)
    where
      go : (r : Result (List ℕ) Fault) → Like (left_fetched s part r) (left_fetched v part r)
      go (Ok frame) = record { same = λ x. refl; left = left; only = only }
      go (Err fault) = ends_like table s came left only t k _
  due_like (NextPart part) = record { same = λ x. refl; left = left; only = only }
  due_like NoneDue = stays_alike

  -- ---- what comes
  -- octets land alike
  place_same : (number : ℕ) → place_of s number ≡ place_of v number
  place_same number = ap (place_near number s.first) left.floor

  out_same : (number : ℕ) → left_out s number ≡ left_out v number
  out_same number = ap (before_start number s.first) left.floor

  delivery_same : (number n : ℕ) → delivery_of s number n ≡ delivery_of v number n
  delivery_same number n =
      ap (λ b. cond (ended s) Dropped (cond b Dropped Kept)) (left_drops s.arrived came (place_of s number) (n - left_out s number) left)
      ∙ (λ i. cond (ended s) Dropped (delivery came (place_same number i) (n - out_same number i)))

  comes_like : (number : ℕ) (octets : Octets) (delivery : Delivery) → Like (after_deliver s number octets delivery) (after_deliver v number octets delivery)
  comes_like number octets Kept =
      let is : record v { arrived = taken_in came (place_of s number) (drop (left_out s number) octets); answered = true } ≡ after_deliver v number octets Kept =
      λ i. record v { arrived = taken_in came (place_same number i) (drop (out_same number i) octets); answered = true } in
      subst (Like (after_deliver s number octets Kept)) is
      (record {
        same = λ x. refl;
        left = left_takes s.arrived came (place_of s number) (drop (left_out s number) octets) left;
        only = only_takes (scene s) only (place_of s number) (drop (left_out s number) octets);
      })
  comes_like number octets Dropped = record { same = λ x. refl; left = left; only = only }

  -- ---- the user answers
  answers_like : (a b : StreamState) → is_open s.start ≡ false → ((x : Arrived) → record a { arrived = x } ≡ record b { arrived = x }) → a.arrived ≡ s.arrived → b.arrived ≡ came → Like a b
  answers_like a b shut same here there =
      let none : s.early ≡ [] = k.early.unopened shut in
      let kept : IsHeld s.arrived = held s came left only k.early.judged (between_is v t k) (omega (arith, k.point, first_is v t k.intro k.begins)) none in
      record {
        same = same;
        left = subst (λ z. IsLeftOf z b.arrived) (sym here) (subst (IsLeftOf s.arrived) (sym there) left);
        only = nothing_given (scene a) (subst IsHeld (sym here) kept);
      }

  acts_like : (act : StreamAct Octets) → StreamRule table s act → StreamRule table v act × Like (stream_after table s act) (stream_after table v act)
  acts_like (Work step) rule =
      let a = works_alike table s came left only t k in
      let start : (worked table s).start ≡ (worked table v).start = ap (λ (z : StreamState). z.start) (a.leaves.same came) in
      (rule ∙ (λ i. seen_of (a.regions i) (start i) (a.step i)), a.leaves)
  acts_like (Recv len None) rule = (rule, record { same = λ x. refl; left = left; only = only })
  acts_like (Recv len (Some refusal)) rule = (rule, stays_alike)
  acts_like (Post request None) rule = (rule, record { same = λ x. refl; left = left; only = only })
  acts_like (Post request (Some refusal)) rule = (rule, stays_alike)
  acts_like (Emit shown) rule =
      (rule ∙ ap (λ d. shown_of table (emission_due table s d) (octets_due table s d)) due_same ∙ shown_alike (due v), subst (λ d. Like (left_due table s d) (left_due table v (due v))) (sym due_same) (due_like (due v)))
  acts_like (Deliver from number octets delivery) rule = ((rule.0, rule.1 ∙ delivery_same number (length octets)), comes_like number octets delivery)
  acts_like (Raw number octets delivery) rule = (rule ∙ delivery_same number (length octets), comes_like number octets delivery)
  acts_like (First number None) rule = (rule, record { same = λ x. refl; left = left; only = only })
  acts_like (Mulpdu size None) rule = (rule, record { same = λ x. refl; left = left; only = only })
  acts_like (First number (Some refusal)) rule = (rule, stays_alike)
  acts_like (Mulpdu size (Some refusal)) rule = (rule, stays_alike)
  acts_like (Accept private (Ok agreed)) rule = (rule, answers_like (stream_after table s (Accept private (Ok agreed))) (stream_after table v (Accept private (Ok agreed))) (not_answered s (accepting s (private_data private).items agreed rule)) (λ x. refl) refl refl)
  acts_like (Accept private (Err refusal)) rule = (rule, stays_alike)
  acts_like (Reject private None) rule = (
    rule,
    record {
      same = λ x. refl;
      left = left_emptied s.arrived came left.floor;
      only = nothing_given (scene (stream_after table s (Reject private None))) (held_emptied s.arrived);
    },
  )
  acts_like (Reject private (Some refusal)) rule = (rule, stays_alike)
  acts_like Break rule = (rule, quits_like s v Broken stays_alike)

  acts_left : (act : StreamAct Octets) → StreamRule table s act → StreamRule table v act × IsLeft (stream_after table s act) (after_act v act)
  acts_left act rule =
      let a = acts_like act rule in
      (a.0, left_after (stream_after table s act) (stream_after table v act) (after_act v act) (deed act).ends (ends_over v act) a.1 (left_told table v act (sound v t k) a.0))

-- the answer is the right one there too, and what is left stays so
pub left_acts : (table : Table) (s w : StreamState) (t : Tale) (act : StreamAct Octets) → IsLeft s w → Track w t → StreamRule table s act → StreamRule table w act × IsLeft (stream_after table s act) (after_act w act)
left_acts table s w t act (Still has only) k rule =
    subst (λ z. Track z t → StreamRule table z act × IsLeft (stream_after table s act) (after_act z act)) has.same
    (λ track. acts_left table s w.arrived has.left only t track act rule) k
left_acts table s w t act (Quit q) k rule =
    let a = acts_quit table s w q act rule in
    (a.0, Quit (quit_joins (stream_after table s act) (stream_after table w act) (after_act w act) (deed act).ends a.1 (left_told table w act (sound w t k) a.0)))
