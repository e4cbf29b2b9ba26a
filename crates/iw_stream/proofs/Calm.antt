-- A step that judges no frame takes no buffer of a pool: it is the same whether the pool is lent or not, and leaves the pool.
use Rattle.std.proofs.Common.{◌≡◌, ℕ, false, cond, List, [], ◌∷◌, Option, Some, None, Result, Ok, Err, OnOk, refl, sym, ap, ◌∙◌}
use Rattle.std.specs.Prelude.{not}
use Rattle.std.specs.Option.{option_map_or}
use Rattle.std.proofs.lemmas.Bool.{true≢false}
use Rattle.iw_memory.specs.declared.peer.Peer.{Peer}
use Rattle.iw_memory.specs.Table.{Table}
use Rattle.iw_octets.specs.declared.fault.Fault.{Fault}
use Rattle.iw_octets.specs.declared.segment.Segment.{Segment}
use Rattle.iw_octets.specs.declared.segment.Segment.TheVariants.{Tagged, Untagged}
use Rattle.iw_queues.specs.Queue.{done_in, oldest_in}
use Rattle.iw_reads.specs.declared.reads.Outstanding.{Outstanding}
use Rattle.iw_startup.specs.declared.enhanced.Mismatch.{Mismatch}
use Rattle.iw_startup.specs.declared.progress.Progress.{Progress}
use Rattle.iw_startup.specs.declared.progress.Progress.TheVariants as progress
use Rattle.iw_untagged.specs.Receiving.{Source, Posted, Pooled, Receiving, due_buffer, exchanged, first_buffer, lent, seeing, shifted, without_first}
use Rattle.iw_stream.specs.declared.landing.PlacedFrame.{PlacedFrame}
use Rattle.iw_stream.specs.declared.landing.Turning.{Turning}
use Rattle.iw_stream.specs.declared.landing.Turning.TheVariants.{Passed, Completed, Answered}
use Rattle.iw_stream.specs.Frames.{payload_len, head_in}
use Rattle.iw_stream.specs.Judging.{segment_turn, turn_of, turned_by}
use Rattle.iw_stream.specs.Starting.{awaits_frame, heard, is_open, mismatch_in, progress_in}
use Rattle.iw_stream.specs.Stream.{StreamState, peer_of, ended, sees}
use Rattle.iw_stream.specs.Work.{Task, HandOut, GiveUp, GiveBack, Hear, Turn, Clash, Judge, Try, Rest, after_hearing, after_opening, after_turn, early_frame, frame_task, front_task, hears, inbox, judges, left_by, next_frame, pool_left, standing, step_of, table_left, table_passed, table_worked, task, turned_step, waiting, work_step, worked, worked_with}

-- ---- a stream that judges no frame next
pub task_rests : (s : StreamState) → waiting s ≡ None → next_frame s ≡ None → early_frame s ≡ None → frame_task s ≡ Rest
task_rests s none lacks early = (λ i. option_map_or Turn (none i) (option_map_or (front_task s) (lacks i) (option_map_or Try (early i) Rest)))

-- ---- what a pool changes of the buffers
without_first_seen : (s : Source) (pool : List (List ℕ)) → without_first (seeing s pool) ≡ seeing (without_first s) pool
without_first_seen (Posted xs) pool = refl
without_first_seen (Pooled ps held) pool = refl

shifted_seen : (s : Source) (pool : List (List ℕ)) → shifted (seeing s pool) ≡ seeing (shifted s) pool
shifted_seen (Posted xs) pool = refl
shifted_seen (Pooled ps held) pool = refl

first_seen : (s : Source) (pool : List (List ℕ)) → first_buffer (seeing s pool) ≡ first_buffer s
first_seen (Posted xs) pool = refl
first_seen (Pooled ps held) pool = refl

due_seen : (s : Source) (pool : List (List ℕ)) → due_buffer (seeing s pool) ≡ due_buffer s
due_seen (Posted xs) pool = refl
due_seen (Pooled ps held) pool = refl

without_first_held : (s : Source) (pool : List (List ℕ)) → exchanged (without_first s) pool ≡ exchanged s pool
without_first_held (Posted xs) pool = refl
without_first_held (Pooled ps held) pool = refl

shifted_held : (s : Source) (pool : List (List ℕ)) → exchanged (shifted s) pool ≡ exchanged s pool
shifted_held (Posted xs) pool = refl
shifted_held (Pooled ps held) pool = refl

-- the pool is taken back
back : (s : Source) (pool held : List (List ℕ)) → exchanged s pool ≡ held → seeing (seeing s pool) held ≡ s
back (Posted xs) pool held e = refl
back (Pooled ps h) pool held e = ap (Pooled ps) (sym e)

given : (s : Source) (pool held : List (List ℕ)) → exchanged s pool ≡ held → exchanged (seeing s pool) held ≡ pool
given (Posted xs) pool held e = sym e
given (Pooled ps h) pool held e = refl

-- ---- by what a step leaves
turning_seen : (table : Table) (peer : Peer) (r : Receiving) (reads : List Outstanding) (n : ℕ) (pool : List (List ℕ)) (o : Option (Segment (List ℕ))) → segment_turn table peer (lent r pool) reads n o ≡ segment_turn table peer r reads n o
turning_seen table peer r reads n pool None = refl
turning_seen table peer r reads n pool (Some (Tagged head payload)) = refl
turning_seen table peer r reads n pool (Some (Untagged head payload)) = refl

turned_seen : (r : Receiving) (n : ℕ) (pool : List (List ℕ)) (o : Option (Segment (List ℕ))) → turned_by (lent r pool) n o ≡ lent (turned_by r n o) pool
turned_seen r n pool None = refl
turned_seen r n pool (Some (Tagged head payload)) = refl
turned_seen r n pool (Some (Untagged head payload)) = refl

turned_held : (r : Receiving) (n : ℕ) (pool : List (List ℕ)) (o : Option (Segment (List ℕ))) → exchanged (turned_by r n o).source pool ≡ exchanged r.source pool
turned_held r n pool None = refl
turned_held r n pool (Some (Tagged head payload)) = refl
turned_held r n pool (Some (Untagged head payload)) = refl

opening_seen : (s : StreamState) (pool : List (List ℕ)) (o : Option Mismatch) → after_opening (sees s pool) o ≡ sees (after_opening s o) pool
opening_seen s pool None = refl
opening_seen s pool (Some mismatch) = refl

opening_held : (s : StreamState) (pool : List (List ℕ)) (o : Option Mismatch) → exchanged (after_opening s o).receiving.source pool ≡ exchanged s.receiving.source pool
opening_held s pool None = refl
opening_held s pool (Some mismatch) = refl

hearing_seen : (s : StreamState) (pool : List (List ℕ)) (p : Progress) → after_hearing (sees s pool) p ≡ sees (after_hearing s p) pool
hearing_seen s pool progress.More = refl
hearing_seen s pool progress.Asked = refl
hearing_seen s pool progress.Agreed = opening_seen (hears s) pool (mismatch_in (heard s.start (inbox s)))
hearing_seen s pool (progress.Faulted fault) = refl

hearing_held : (s : StreamState) (pool : List (List ℕ)) (p : Progress) → exchanged (after_hearing s p).receiving.source pool ≡ exchanged s.receiving.source pool
hearing_held s pool progress.More = refl
hearing_held s pool progress.Asked = refl
hearing_held s pool progress.Agreed = opening_held (hears s) pool (mismatch_in (heard s.start (inbox s)))
hearing_held s pool (progress.Faulted fault) = refl

turn_seen : (s : StreamState) (pool : List (List ℕ)) (frame : PlacedFrame) (r : Result Turning Fault) → after_turn (sees s pool) frame r ≡ sees (after_turn s frame r) pool
turn_seen s pool frame (Ok Passed) = ap (λ r. record (after_turn s frame (Ok Passed)) { receiving = r }) (turned_seen s.receiving (payload_len frame) pool (head_in frame))
turn_seen s pool frame (Ok (Completed solicited invalidate)) =
    ap (λ x. record (after_turn s frame (Ok (Completed solicited invalidate))) { receiving = record (after_turn s frame (Ok (Completed solicited invalidate))).receiving { source = x } }) (shifted_seen s.receiving.source pool)
turn_seen s pool frame (Ok (Answered ticket)) = refl
turn_seen s pool frame (Err fault) = refl

turn_held : (s : StreamState) (pool : List (List ℕ)) (frame : PlacedFrame) (r : Result Turning Fault) → exchanged (after_turn s frame r).receiving.source pool ≡ exchanged s.receiving.source pool
turn_held s pool frame (Ok Passed) = turned_held s.receiving (payload_len frame) pool (head_in frame)
turn_held s pool frame (Ok (Completed solicited invalidate)) = shifted_held s.receiving.source pool
turn_held s pool frame (Ok (Answered ticket)) = refl
turn_held s pool frame (Err fault) = refl

turn_step_seen : (r : Receiving) (pool : List (List ℕ)) (frame : PlacedFrame) (t : Result Turning Fault) → turned_step (lent r pool) frame t ≡ turned_step r frame t
turn_step_seen r pool frame (Ok Passed) = refl
turn_step_seen r pool frame (Ok (Completed solicited invalidate)) = ap (λ b. turned_step (record r { source = Posted (b ∷ []) }) frame (Ok (Completed solicited invalidate))) (due_seen r.source pool)
turn_step_seen r pool frame (Ok (Answered ticket)) = refl
turn_step_seen r pool frame (Err fault) = refl

-- ---- a task that judges no frame
record IsAlike (table : Table) (s : StreamState) (pool : List (List ℕ)) (t : Task) : Type 0 where
  pub step : step_of table (sees s pool) t ≡ step_of table s t
  pub left : left_by table (sees s pool) t ≡ sees (left_by table s t) pool
  pub regions : table_left table (sees s pool) t ≡ table_left table s t
  pub held : exchanged (left_by table s t).receiving.source pool ≡ exchanged s.receiving.source pool

alike : (table : Table) (s : StreamState) (pool : List (List ℕ)) (t : Task) → judges t ≡ false → IsAlike table s pool t
alike table s pool (HandOut done) calm_ = record { step = refl; left = refl; regions = refl; held = refl }
alike table s pool (GiveUp done) calm_ = record { step = refl; left = refl; regions = refl; held = refl }
alike table s pool (GiveBack buffer) calm_ = record {
  step = refl;
  left = ap (λ x. record s { receiving = record s.receiving { source = x; turned = 0 } }) (without_first_seen s.receiving.source pool);
  regions = refl;
  held = without_first_held s.receiving.source pool;
}
alike table s pool Hear calm_ = record {
  step = refl;
  left = hearing_seen s pool (progress_in s.start (inbox s));
  regions = refl;
  held = hearing_held s pool (progress_in s.start (inbox s));
}
alike table s pool (Turn frame) calm_ =
    let same : turn_of (standing table (sees s pool)) frame ≡ turn_of (standing table s) frame = turning_seen table (peer_of s) s.receiving s.reads (payload_len frame) pool (head_in frame) in record {
      step = ap (turned_step (lent s.receiving pool) frame) same ∙ turn_step_seen s.receiving pool frame (turn_of (standing table s) frame);
      left = ap (after_turn (sees s pool) frame) same ∙ turn_seen s pool frame (turn_of (standing table s) frame);
      regions = ap (table_passed table) same;
      held = turn_held s pool frame (turn_of (standing table s) frame);
    }
alike table s pool (Clash frame) calm_ = record { step = refl; left = refl; regions = refl; held = refl }
alike table s pool (Judge frame) calm_ = absurd (true≢false calm_)
alike table s pool (Try frame) calm_ = absurd (true≢false calm_)
alike table s pool Rest calm_ = record { step = refl; left = refl; regions = refl; held = refl }

task_seen : (s : StreamState) (pool : List (List ℕ)) → task (sees s pool) ≡ task s
task_seen s pool =
    ap (λ b. option_map_or HandOut (done_in s.queue) (cond (ended s) (option_map_or GiveUp (oldest_in s.queue) (option_map_or GiveBack b Rest)) (cond (awaits_frame s.start) Hear (cond (not (is_open s.start)) Rest (frame_task s)))))
    (first_seen s.receiving.source pool)

-- ---- a call
pub record LeavesPool (table : Table) (s : StreamState) (pool : List (List ℕ)) : Type 0 where
  pub step : work_step table s ≡ work_step table (sees s pool)
  pub after : worked table s ≡ worked_with table s pool
  pub left : pool ≡ pool_left table s pool
  pub regions : table_worked table s ≡ table_worked table (sees s pool)
  pub same : task s ≡ task (sees s pool)

pub leaves_pool : (table : Table) (s : StreamState) (pool : List (List ℕ)) → judges (task s) ≡ false → LeavesPool table s pool
leaves_pool table s pool none =
    let a = alike table s pool (task s) none in
    let t = task_seen s pool in
    let w : StreamState = worked table s in
    let held : List (List ℕ) = exchanged s.receiving.source pool in
    let left : worked table (sees s pool) ≡ sees w pool = ap (left_by table (sees s pool)) t ∙ a.left in record {
      step = sym (ap (step_of table (sees s pool)) t ∙ a.step);
      after = sym (ap (λ x. sees x held) left ∙ ap (λ x. record w { receiving = record w.receiving { source = x } }) (back w.receiving.source pool held a.held));
      left = sym (ap (λ (x : StreamState). exchanged x.receiving.source held) left ∙ given w.receiving.source pool held a.held);
      regions = sym (ap (table_left table (sees s pool)) t ∙ a.regions);
      same = sym t;
    }

-- the pool that is left alone
pub leaves_alone : {A E : Type 0} (pool left : List (List ℕ)) (r : Result A E) → pool ≡ left → OnOk r (pool ≡ left)
leaves_alone pool left (Ok step) e = e
leaves_alone pool left (Err e) same = tt
