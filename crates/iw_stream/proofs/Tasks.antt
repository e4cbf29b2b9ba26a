-- Which task is next, and what follows for a call to work.
use Rattle.std.proofs.Common.{◌≡◌, ℕ, Bool, true, false, cond, List, Option, Some, None, refl, ap, ◌∙◌}
use Rattle.std.specs.Prelude.{not, is_some}
use Rattle.std.specs.Option.{option_map_or, option_or}
use Rattle.iw_locate.specs.Free.{front_of}
use Rattle.std.proofs.lemmas.Bool.{false≢true}
use Rattle.iw_memory.specs.Table.{Table}
use Rattle.iw_queues.specs.declared.completions.Done.{Done}
use Rattle.iw_queues.specs.Queue.{done_in, oldest_in}
use Rattle.iw_untagged.specs.Receiving.{first_buffer}
use Rattle.iw_stream.specs.declared.answer.Step.{Step}
use Rattle.iw_stream.specs.declared.landing.PlacedFrame.{PlacedFrame}
use Rattle.iw_stream.specs.Frames.{Frame, placed_at}
use Rattle.iw_stream.specs.Starting.{is_open, awaits_frame}
use Rattle.iw_stream.specs.Stream.{StreamState, ended}
use Rattle.iw_stream.specs.Work.{Task, HandOut, GiveUp, GiveBack, Hear, Turn, Clash, Judge, Try, Rest, task, frame_task, front_task, handing_back, next_frame, waiting, clashes, early_frame, scene, step_of, left_by, table_left, work_step, worked, table_worked}

-- a stream that runs, at which no message is finished
runs : (s : StreamState) → done_in s.queue ≡ None → ended s ≡ false
    → task s ≡ cond (awaits_frame s.start) Hear (cond (not (is_open s.start)) Rest (frame_task s))
runs s none running = (λ i. option_map_or HandOut (none i) (cond (running i) (handing_back s) (cond (awaits_frame s.start) Hear (cond (not (is_open s.start)) Rest (frame_task s)))))

pub task_hands_back : (s : StreamState) → done_in s.queue ≡ None → ended s ≡ true → task s ≡ handing_back s
task_hands_back s none over =
    (λ i. option_map_or HandOut (none i) (cond (over i) (handing_back s) (cond (awaits_frame s.start) Hear (cond (not (is_open s.start)) Rest (frame_task s)))))

pub task_hears : (s : StreamState) → done_in s.queue ≡ None → ended s ≡ false → awaits_frame s.start ≡ true → task s ≡ Hear
task_hears s none running awaits = runs s none running ∙ ap (λ b. cond b Hear (cond (not (is_open s.start)) Rest (frame_task s))) awaits

-- it is open, and was heard
pub task_frame : (s : StreamState) → done_in s.queue ≡ None → ended s ≡ false → awaits_frame s.start ≡ false → is_open s.start ≡ true → task s ≡ frame_task s
task_frame s none running heard started =
    runs s none running ∙ (λ i. cond (heard i) Hear (cond (not (started i)) Rest (frame_task s)))

pub task_turns : (s : StreamState) → done_in s.queue ≡ None → ended s ≡ false → awaits_frame s.start ≡ false → is_open s.start ≡ true → is_some s.front ≡ true → task s ≡ option_map_or Turn s.front Rest
task_turns s none running heard started placed = task_frame s none running heard started ∙ go s.front placed
  where
    go : (o : Option PlacedFrame) → is_some o ≡ true → option_map_or Turn (option_or o (placed_at s.early (front_of (scene s)))) (option_map_or (front_task s) (next_frame s) (option_map_or Try (early_frame s) Rest)) ≡ option_map_or Turn o Rest
    go (Some frame) e = refl
    go None e = absurd (false≢true e)

-- if no frame waits for its turn, and none is whole at the in-order point
pub task_tries : (s : StreamState) → waiting s ≡ None → next_frame s ≡ None → frame_task s ≡ option_map_or Try (early_frame s) Rest
task_tries s none lacks = (λ i. option_map_or Turn (none i) (option_map_or (front_task s) (lacks i) (option_map_or Try (early_frame s) Rest)))

-- ---- a call to work, told apart by its task
-- frames go both ways, and no message is finished
pub record IsRunning (s : StreamState) : Type 0 where
  pub finished : done_in s.queue ≡ None
  pub running : ended s ≡ false
  pub heard : awaits_frame s.start ≡ false
  pub started : is_open s.start ≡ true

-- why there is nothing to do
pub data IsResting (s : StreamState) : Type 0 where
  Ended : ended s ≡ true → oldest_in s.queue ≡ None → first_buffer s.receiving.source ≡ None → IsResting s
  Unanswered : ended s ≡ false → awaits_frame s.start ≡ false → is_open s.start ≡ false → IsResting s
  Without : IsRunning s → waiting s ≡ None → next_frame s ≡ None → early_frame s ≡ None → IsResting s

abbrev pub OfTask : (Step (List ℕ) → StreamState → Table → Type 0) → Table → StreamState → Task → Type 0
OfTask P table s t = P (step_of table s t) (left_by table s t) (table_left table s t)

-- what is so of each task's answer, and of what it leaves, is so of a call's
pub by_task : (P : Step (List ℕ) → StreamState → Table → Type 0) (table : Table) (s : StreamState)
    → ((done : Done) → done_in s.queue ≡ Some done → OfTask P table s (HandOut done))
    → ((done : Done) → done_in s.queue ≡ None → ended s ≡ true → oldest_in s.queue ≡ Some done → OfTask P table s (GiveUp done))
    → ((buffer : List ℕ) → done_in s.queue ≡ None → ended s ≡ true → oldest_in s.queue ≡ None → first_buffer s.receiving.source ≡ Some buffer → OfTask P table s (GiveBack buffer))
    → (done_in s.queue ≡ None → ended s ≡ false → awaits_frame s.start ≡ true → OfTask P table s Hear)
    → ((frame : PlacedFrame) → IsRunning s → waiting s ≡ Some frame → OfTask P table s (Turn frame))
    → ((frame : Frame) → IsRunning s → waiting s ≡ None → next_frame s ≡ Some frame → clashes s frame ≡ true → OfTask P table s (Clash frame))
    → ((frame : Frame) → IsRunning s → waiting s ≡ None → next_frame s ≡ Some frame → clashes s frame ≡ false → OfTask P table s (Judge frame))
    → ((frame : Frame) → IsRunning s → waiting s ≡ None → next_frame s ≡ None → early_frame s ≡ Some frame → OfTask P table s (Try frame))
    → (done_in s.queue ≡ None → IsResting s → OfTask P table s Rest)
    → P (work_step table s) (worked table s) (table_worked table s)
by_task P table s hands gives returns hears turns clash judges tries rests = go (done_in s.queue) refl
  where
    tried : IsRunning s → waiting s ≡ None → next_frame s ≡ None → (o : Option Frame) → early_frame s ≡ o → OfTask P table s (option_map_or Try o Rest)
    tried r none lacks None e = rests r.finished (Without r none lacks e)
    tried r none lacks (Some f) e = tries f r none lacks e

    judged : (f : Frame) → IsRunning s → waiting s ≡ None → next_frame s ≡ Some f → (b : Bool) → clashes s f ≡ b → OfTask P table s (cond b (Clash f) (Judge f))
    judged f r none e true over = clash f r none e over
    judged f r none e false over = judges f r none e over

    frame : IsRunning s → waiting s ≡ None → (o : Option Frame) → next_frame s ≡ o → OfTask P table s (option_map_or (front_task s) o (option_map_or Try (early_frame s) Rest))
    frame r none None e = tried r none e (early_frame s) refl
    frame r none (Some f) e = judged f r none e (clashes s f) refl

    front : IsRunning s → (o : Option PlacedFrame) → waiting s ≡ o → OfTask P table s (option_map_or Turn o (option_map_or (front_task s) (next_frame s) (option_map_or Try (early_frame s) Rest)))
    front r None e = frame r e (next_frame s) refl
    front r (Some f) e = turns f r e

    given_back : done_in s.queue ≡ None → ended s ≡ true → oldest_in s.queue ≡ None → (o : Option (List ℕ)) → first_buffer s.receiving.source ≡ o → OfTask P table s (option_map_or GiveBack o Rest)
    given_back none e old None is = rests none (Ended e old is)
    given_back none e old (Some buffer) is = returns buffer none e old is

    given_up : done_in s.queue ≡ None → ended s ≡ true → (o : Option Done) → oldest_in s.queue ≡ o → OfTask P table s (option_map_or GiveUp o (option_map_or GiveBack (first_buffer s.receiving.source) Rest))
    given_up none e None is = given_back none e is (first_buffer s.receiving.source) refl
    given_up none e (Some done) is = gives done none e is

    on : (over awaits started : Bool) → done_in s.queue ≡ None → ended s ≡ over → awaits_frame s.start ≡ awaits → is_open s.start ≡ started
        → OfTask P table s (cond over (handing_back s) (cond awaits Hear (cond (not started) Rest (frame_task s))))
    on true awaits started none e a o = given_up none e (oldest_in s.queue) refl
    on false true started none e a o = hears none e a
    on false false false none e a o = rests none (Unanswered e a o)
    on false false true none e a o = front (record { finished = none; running = e; heard = a; started = o }) (waiting s) refl

    go : (done : Option Done) → done_in s.queue ≡ done
        → OfTask P table s (option_map_or HandOut done (cond (ended s) (handing_back s) (cond (awaits_frame s.start) Hear (cond (not (is_open s.start)) Rest (frame_task s)))))
    go None e = on (ended s) (awaits_frame s.start) (is_open s.start) e refl refl refl
    go (Some done) e = hands done e
