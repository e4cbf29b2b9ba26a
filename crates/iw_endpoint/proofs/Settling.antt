-- Each call to work that is not idle takes something off what there is to do.
use Rattle.std.proofs.Common.{◌≡◌, ℕ, suc, ◌+◌, ◌-◌, ◌<◌, ◌≤◌, ◌^◌, ◌%◌, List, [], ◌∷◌, length, Option, Some, None, Ok, Err, Bool, true, false, cond, refl, sym, ap, ◌∙◌, subst, arith, inl, inr, max}
use Rattle.std.specs.Prelude.{is_some, not, Result, ◌&&◌, nat_lt}
use Rattle.std.specs.Option.{option_map, option_or}
use Rattle.std.specs.List.{count_by}
use Rattle.std.proofs.lemmas.Bool.{true≢false, false≢true, cases_lt}
use Rattle.arrayvec.specs.ArrayVec.{ArrayVec}
use Rattle.std.proofs.lemmas.Bool.Decides.{nat_tests}
use Rattle.std.proofs.lemmas.List.{length-set}
use Rattle.std.proofs.lemmas.List.Edits.{length-insert}
use Rattle.std.proofs.lemmas.List.Sums.{count_by-le-length}
use Rattle.std.proofs.lemmas.Option.{none-some, same_Some}
use Rattle.iw_octets.specs.declared.fault.Fault.{Fault}
use Rattle.iw_memory.specs.Table.{Table}
use Rattle.iw_ranges.specs.Arrived.{Arrived, Gone, cell_at, is_missing, has_come, advanced, released}
use Rattle.iw_ranges.proofs.ByPlace.{gives_up_before, stays_come}
use Rattle.iw_fpdu.specs.Places.{frame_start, place_after, data_place, data_index, span_start}
use Rattle.iw_fpdu.specs.Found.{Found, is_whole}
use Rattle.iw_fpdu.specs.Laws.{found_at}
use Rattle.iw_fpdu.proofs.Came.{tells_whole}
use Rattle.iw_locate.specs.declared.judged.State.{State}
use Rattle.iw_locate.specs.declared.judged.State.TheVariants.{Tried, Placed}
use Rattle.iw_locate.specs.Records.{from_of, max_records, added}
use Rattle.iw_locate.specs.Free.{front_of}
use Rattle.iw_locate.specs.Lowest.{early_place, lowest_free}
use Rattle.iw_queues.specs.declared.completions.Sent.{Sent}
use Rattle.iw_queues.specs.declared.completions.Done.{Done}
use Rattle.iw_queues.specs.Queue.{past_oldest, handed_from, done_in}
use Rattle.iw_queues.specs.Completions.{done_from, place_of}
use Rattle.iw_queues.specs.declared.request.Kind.TheVariants.{Read}
use Rattle.iw_startup.specs.declared.enhanced.Mismatch.{Mismatch}
use Rattle.iw_startup.specs.declared.progress.Progress.{Progress}
use Rattle.iw_startup.specs.declared.progress.Progress.TheVariants as progress
use Rattle.iw_stream.specs.declared.answer.Step.{Step}
use Rattle.iw_stream.specs.declared.answer.Step.TheVariants as steps
use Rattle.iw_stream.specs.declared.ending.Ending.TheVariants.{Over}
use Rattle.iw_stream.specs.Ending.{has_ended, with_last_word}
use Rattle.iw_stream.specs.declared.landing.Landing.{Landing}
use Rattle.iw_stream.specs.declared.landing.Landing.TheVariants.{Write, Response, Send, Request, Terminate}
use Rattle.iw_stream.specs.declared.landing.PlacedFrame.{PlacedFrame}
use Rattle.iw_stream.specs.declared.landing.Turning.{Turning}
use Rattle.iw_stream.specs.declared.landing.Turning.TheVariants.{Passed, Completed, Answered}
use Rattle.iw_stream.specs.Frames.{Frame, EarlyRecord, IsNext, frame_by, placed, placed_at, record_tried, state_tried, without}
use Rattle.iw_stream.specs.Judging.{verdict, early_verdict, turn_of}
use Rattle.iw_stream.specs.Kept.{Stands}
use Rattle.iw_stream.specs.Starting.{StartState, AtOnce, Unheard, Heard, awaits_frame, heard, expecting, first_place_in, progress_in, mismatch_in, negotiation_fault}
use Rattle.iw_stream.specs.Stream.{StreamState, ended, ends_by, is_silent}
use Rattle.iw_stream.specs.Terminating.{terminate_alone}
use Rattle.iw_stream.specs.Work.{inbox, scene, waiting, next_frame, early_frame, standing, work_step, worked, hears, after_hearing, after_opening, after_turn, after_judging, after_trying, heard_step, opened_step, turned_step, judged_step, table_passed, table_judged, table_worked, lands, place_past}
use Rattle.iw_stream.proofs.Fronts.{is_next}
use Rattle.iw_stream.proofs.Keeping.{stands_next, whole_judged}
use Rattle.iw_stream.proofs.Tasks.{IsRunning, by_task}
use Rattle.iw_stream.proofs.Waiting.{waiting_stands}
use Rattle.iw_endpoint.specs.Settling.{IsSound, NoneCame, LeavesLess, IsBounded, WorkLeavesLess, KnownCalls, RefusesToldAgain}

abbrev none_if : Bool → ℕ
none_if b = cond b 0 1

abbrev one_if : Bool → ℕ
one_if b = cond b 1 0

few : (b : Bool) → none_if b ≤ 1
few true = omega arith
few false = omega arith

one : (b : Bool) → one_if b ≤ 1
one true = omega arith
one false = omega arith

ended_not : {P : Type 0} (s : StreamState) (payload : List ℕ) → ended (ends_by s payload) ≡ false → P
ended_not {P} s payload runs = go (is_silent s.start s.arrived) runs
  where
    go : (b : Bool) → has_ended (cond b (Over None) (with_last_word payload)) ≡ false → P
    go true h = absurd (true≢false h)
    go false h = absurd (true≢false h)

-- ---- what came

-- past the place that the in-order point moves on to as much came as before
still : (a : Arrived) (to p : ℕ) → to ≤ p → has_come (advanced a to) p ≡ has_come a p
still a to p past =
    let t : nat_lt p to ≡ false = grind (arith, nat_tests) in
    ap (λ c. not (is_missing c)) (gives_up_before a to p ∙ ap (λ b. cond b Gone (cell_at a p)) t)

floor_is : (a : Arrived) (to : ℕ) → (advanced a to).floor ≡ max a.floor to
unfolding advanced
floor_is a to = refl

-- the same of a state
moved : (s left : StreamState) (to end : ℕ) → left.arrived ≡ advanced s.arrived to → NoneCame s end → NoneCame left end
moved s left to end is none p low high =
    let floor : left.arrived.floor ≡ max s.arrived.floor to = ap (λ (a : Arrived). a.floor) is ∙ floor_is s.arrived to in
    ap (λ a. has_come a p) is ∙ still s.arrived to p (omega (arith, low, floor)) ∙ none p (omega (arith, low, floor)) high

-- ---- a frame has its turn
past_less : (s left : StreamState) (end place : ℕ) → NoneCame s end → has_come s.arrived s.arrived.floor ≡ true → s.arrived.floor < place → left.start ≡ s.start → left.arrived ≡ advanced s.arrived place
    → length left.queue.sent.messages ≡ length s.queue.sent.messages → LeavesLess s left end
past_less s left end place none came on start is messages =
    let floor : left.arrived.floor ≡ max s.arrived.floor place = ap (λ (a : Arrived). a.floor) is ∙ floor_is s.arrived place in
    let within : s.arrived.floor < end = elim (cases_lt s.arrived.floor end) [
      | inl before ↦ before
      | inr beyond ↦ absurd (true≢false (sym came ∙ none s.arrived.floor (omega arith) beyond))
    ] in
    let awaits : one_if (awaits_frame left.start) ≡ one_if (awaits_frame s.start) = ap (λ x. one_if (awaits_frame x)) start in
    record { less = omega (arith, floor, within, on, few (is_some left.front), awaits, messages); none = moved s left place end is none }

turn_less : (s left : StreamState) (frame : PlacedFrame) (end : ℕ) → NoneCame s end → Stands s frame → left.start ≡ s.start → left.arrived ≡ advanced s.arrived (place_past s frame)
    → length left.queue.sent.messages ≡ length s.queue.sent.messages → LeavesLess s left end
turn_less s left frame end none w start is messages = past_less s left end (place_past s frame) none (w.come s.arrived.floor w.on) w.on start is messages

-- the one at the in-order point stands there
record IsFound (s : StreamState) (frame : Frame) : Type 0 where
  pub found : Found
  pub is : frame ≡ frame_by found
  pub next : IsNext (expecting s.start) s.arrived (first_place_in s.start) found

found_next : (s : StreamState) (frame : Frame) → IsSound s → next_frame s ≡ Some frame → IsFound s frame
found_next s frame w e = go (is_whole s.arrived (expecting s.start).markers (first_place_in s.start) start) refl e
  where
    start : ℕ
    start = frame_start (expecting s.start).markers (s.arrived.floor - first_place_in s.start)

    go : (b : Bool) → is_whole s.arrived (expecting s.start).markers (first_place_in s.start) start ≡ b
        → cond b (Some (frame_by (found_at s.arrived (expecting s.start) (first_place_in s.start) start))) None ≡ Some frame → IsFound s frame
    go false is h = absurd (none-some _ h)
    go true is h = record {
      found = found_at s.arrived (expecting s.start) (first_place_in s.start) start;
      is = sym (same_Some _ _ h);
      next = is_next (expecting s.start) s.arrived (first_place_in s.start) w.keeps.started.beyond w.keeps.between w.within.arrived
          ((tells_whole s.arrived (expecting s.start).markers (first_place_in s.start) start).0 is);
    }

request_stands : (table : Table) (s : StreamState) (frame : Frame) (at : Landing) → IsSound s → next_frame s ≡ Some frame → verdict (standing table s) frame ≡ Ok at → Stands s (placed frame)
request_stands table s frame at w e judged =
    let f : IsFound s frame = found_next s frame w e in
    subst (λ z. Stands s (placed z)) (sym f.is) (stands_next s f.found f.next (whole_judged (standing table s) f.found at (sym (ap (verdict (standing table s)) f.is) ∙ judged)))

-- ---- a frame is judged early
length-added : (rs : List EarlyRecord) (r : EarlyRecord) → length (added rs r) ≡ suc (length rs)
length-added rs r = length-insert rs (count_by (λ (x : EarlyRecord). nat_lt x.start r.start) rs) r (count_by-le-length (λ (x : EarlyRecord). nat_lt x.start r.start) rs) ∙ omega arith

mapped : {A B : Type 0} (f : A → B) (o : Option A) (y : B) → option_map f o ≡ Some y → is_some o ≡ true
mapped f None y e = absurd (none-some _ e)
mapped f (Some x) y e = refl

early_room : (s : StreamState) (frame : Frame) → early_frame s ≡ Some frame → length s.early < max_records
early_room s frame e = go (scene s).layout.markers (nat_lt (length s.early) max_records) refl (lowest_free (scene s)) (mapped _ (early_place (scene s)) frame e)
  where
    go : (marks room : Bool) → nat_lt (length s.early) max_records ≡ room → (o : Option ℕ) → is_some (cond (marks && room) o None) ≡ true → length s.early < max_records
    go false room m o h = absurd (false≢true h)
    go true false m o h = absurd (false≢true h)
    go true true m o h = grind (arith, nat_tests)

floor_kept : (base : ℕ) (a : Arrived) (r : EarlyRecord) (state : State (ArrayVec ℕ)) → (without base a r state).floor ≡ a.floor
unfolding released
floor_kept base a r Tried = refl
floor_kept base a r (Placed header) = refl

came_kept : (base : ℕ) (a : Arrived) (r : EarlyRecord) (state : State (ArrayVec ℕ)) (p : ℕ) → has_come (without base a r state) p ≡ has_come a p
came_kept base a r Tried p = refl
came_kept base a r (Placed header) p = stays_come a (base + from_of r) (base + r.end) p

try_less : (s : StreamState) (frame : Frame) (at : Option Landing) (end : ℕ) → NoneCame s end → early_frame s ≡ Some frame → LeavesLess s (after_trying s frame at) end
try_less s frame at end none e =
    let r : EarlyRecord = record_tried frame at in
    let floor : (after_trying s frame at).arrived.floor ≡ s.arrived.floor = floor_kept (first_place_in s.start) s.arrived r (state_tried frame at) in
    record {
      less = omega (arith, floor, length-added s.early r, early_room s frame e);
      none = λ p low high. came_kept (first_place_in s.start) s.arrived r (state_tried frame at) p ∙ none p (omega (arith, low, floor)) high;
    }

-- ---- a message is handed out, and the start-up frame is read
hand_less : (s : StreamState) (done : Done) (end : ℕ) → NoneCame s end → done_in s.queue ≡ Some done → LeavesLess s (record s { queue = handed_from s.queue (Some done) }) end
hand_less s done end none e = record { less = omega (arith, go s.queue.sent.messages e); none = none }
  where
    next : ℕ
    next = (s.queue.sent.first + 1) % 2 ^ 64

    go : (ms : List Sent) → done_from s.queue.sent.first ms ≡ Some done → length (past_oldest next ms s.queue.unsent s.queue.offset).sent.messages < length ms
    go [] h = absurd (none-some _ h)
    go (m ∷ ms) h = omega arith

quiet : (z : StartState) (octets : List ℕ) → awaits_frame (heard z octets) ≡ false
quiet (AtOnce layout) octets = refl
quiet (Unheard u) octets = refl
quiet (Heard u) octets = refl

hear_less : (s : StreamState) (end : ℕ) → NoneCame s end → awaits_frame s.start ≡ true → LeavesLess s (hears s) end
hear_less s end none awaits =
    let to : ℕ = first_place_in (heard s.start (inbox s)) in
    let before : one_if (awaits_frame s.start) ≡ 1 = ap one_if awaits in
    let after : one_if (awaits_frame (heard s.start (inbox s))) ≡ 0 = ap one_if (quiet s.start (inbox s)) in
    record { less = omega (arith, floor_is s.arrived to, before, after); none = moved s (hears s) to end refl none }

-- ---- each call
abbrev Less : StreamState → ℕ → Step (List ℕ) → StreamState → Table → Type 0
Less s end step left table = ¬ (step ≡ steps.Idle) → ended left ≡ false → LeavesLess s left end

work_less : (table : Table) (s : StreamState) (end : ℕ) → IsSound s → NoneCame s end → Less s end (work_step table s) (worked table s) (table_worked table s)
work_less table s end w none =
    by_task (Less s end) table s
    (λ done is busy runs. hand_less s done end none is)
    (λ done clean over is busy runs. absurd (true≢false (sym over ∙ runs)))
    (λ buffer clean over is first busy runs. absurd (true≢false (sym over ∙ runs)))
    (λ clean running awaits. hear awaits (progress_in s.start (inbox s)))
    (λ frame r is. turn frame r is (turn_of (standing table s) frame))
    (λ frame r clear is clash busy runs. ended_not s _ runs)
    (λ frame r clear is clash. judge frame clear is (verdict (standing table s) frame) refl)
    (λ frame r clear is early busy runs. try_less s frame (early_verdict (standing table s) frame) end none early)
    (λ clean rests busy runs. absurd (busy refl))
  where
    opening : awaits_frame s.start ≡ true → (m : Option Mismatch) → Less s end (opened_step (heard s.start (inbox s)) m) (after_opening (hears s) m) table
    opening awaits None busy runs = hear_less s end none awaits
    opening awaits (Some m) busy runs = ended_not (hears s) (terminate_alone (negotiation_fault m)) runs

    hear : awaits_frame s.start ≡ true → (x : Progress) → Less s end (heard_step s.start (inbox s) x) (after_hearing s x) table
    hear awaits progress.More busy runs = absurd (busy refl)
    hear awaits progress.Asked busy runs = hear_less s end none awaits
    hear awaits progress.Agreed busy runs = opening awaits (mismatch_in (heard s.start (inbox s))) busy runs
    hear awaits (progress.Faulted fault) busy runs = absurd (true≢false runs)

    stands : (frame : PlacedFrame) → IsRunning s → waiting s ≡ Some frame → Stands s frame
    stands frame r is = (waiting_stands s w.keeps r.running w.frames w.apart w.within.arrived frame is).0.stands

    turn : (frame : PlacedFrame) → IsRunning s → waiting s ≡ Some frame → (x : Result Turning Fault) → Less s end (turned_step s.receiving frame x) (after_turn s frame x) (table_passed table x)
    turn frame r is (Ok Passed) busy runs = turn_less s _ frame end none (stands frame r is) refl refl refl
    turn frame r is (Ok (Completed solicited invalidate)) busy runs = turn_less s _ frame end none (stands frame r is) refl refl refl
    turn frame r is (Ok (Answered ticket)) busy runs =
        turn_less s _ frame end none (stands frame r is) refl refl (length-set s.queue.sent.messages (place_of s.queue.sent ticket) (record { kind = Read; finished = true }))
    turn frame r is (Err fault) busy runs = ended_not s _ runs

    land_less : waiting s ≡ None → (frame : Frame) (at : Landing) → LeavesLess s (lands s frame at) end
    land_less clear frame at =
        let before : none_if (is_some s.front) ≡ 1 = ap none_if (front_none s.front clear) in
        record { less = omega (arith, before); none = none }
      where
        front_none : (o : Option PlacedFrame) → option_or o (placed_at s.early (front_of (scene s))) ≡ None → is_some o ≡ false
        front_none None h = refl
        front_none (Some f) h = absurd (none-some _ (sym h))

    judge : (frame : Frame) → waiting s ≡ None → next_frame s ≡ Some frame → (x : Result Landing Fault) → verdict (standing table s) frame ≡ x
        → Less s end (judged_step x) (after_judging s frame x) (table_judged table frame x)
    judge frame clear is (Ok (Write at)) e busy runs = land_less clear frame (Write at)
    judge frame clear is (Ok (Response at)) e busy runs = land_less clear frame (Response at)
    judge frame clear is (Ok (Send msn mo len)) e busy runs = land_less clear frame (Send msn mo len)
    judge frame clear is (Ok (Request request)) e busy runs = turn_less s _ (placed frame) end none (request_stands table s frame (Request request) w is e) refl refl refl
    judge frame clear is (Ok (Terminate fault)) e busy runs = absurd (true≢false runs)
    judge frame clear is (Err fault) e busy runs = ended_not s _ runs

-- ---- the bound
bounded : (s : StreamState) → IsSound s → IsBounded s
bounded s w = record {
  none = λ p low high. ap (λ c. not (is_missing c)) (w.within.arrived.octets p high);
  most = omega (arith, few (is_some s.front), one (awaits_frame s.start), w.within.queue.posted);
}

pub work_settles : WorkLeavesLess
work_settles = record { bounded = bounded; less = work_less }

pub known_calls : KnownCalls
unfolding is_whole place_after data_place data_index span_start
known_calls = record { before = λ table. refl; step = λ table. refl; after = λ table. refl; idle = λ table. refl }

pub refuses_told_again : RefusesToldAgain
refuses_told_again table h = omega (arith, h.less)
