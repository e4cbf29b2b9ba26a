-- What a call to work does: one task, by the state alone, and what it answers and leaves.
use Rattle.std.specs.Prelude.{ℕ, ◌+◌, ◌-◌, not, Bool, true, false, ◌&&◌, List, length, if◌then◌else◌, Option, Some, None, Result, Ok, Err}
use Rattle.std.specs.Option.{option_map, option_map_or, option_or}
use Rattle.arrayvec.specs.ArrayVec.{ArrayVec}
use Rattle.iw_octets.specs.declared.fault.Fault.{Fault}
use Rattle.iw_octets.specs.declared.fault.TheConstants.Fault as faults
use Rattle.iw_memory.specs.declared.rights.Right.TheVariants as rights
use Rattle.iw_memory.specs.Table.{Table}
use Rattle.iw_ranges.specs.Arrived.{in_order, advanced}
use Rattle.iw_fpdu.specs.Frame.{frame_end}
use Rattle.iw_fpdu.specs.Places.{frame_start}
use Rattle.iw_fpdu.specs.Laws.{found_at}
use Rattle.iw_locate.specs.Records.{added, kept_from}
use Rattle.iw_locate.specs.Free.{Scene, scene_of, front_of}
use Rattle.iw_locate.specs.Lowest.{overlaps_placed, early_place}
use Rattle.iw_queues.specs.declared.completions.Done.{Done}
use Rattle.iw_octets.specs.declared.payload.ReadRequest.{ReadRequest}
use Rattle.iw_queues.specs.Completions as completions
use Rattle.iw_queues.specs.Queue.{sent_with, done_in, oldest_in, handed_from}
use Rattle.iw_reads.specs.Requests.{taken_up}
use Rattle.iw_startup.specs.declared.enhanced.Mismatch.{Mismatch}
use Rattle.iw_startup.specs.declared.progress.Progress.{Progress}
use Rattle.iw_startup.specs.declared.progress.Progress.TheVariants as progress
use Rattle.iw_untagged.specs.Receiving.{Receiving, exchanged, finished, first_buffer, flushed, oldest}
use Rattle.iw_stream.specs.declared.answer.Step.{Step}
use Rattle.iw_stream.specs.declared.answer.Step.TheVariants as steps
use Rattle.iw_stream.specs.declared.landing.Landing.{Landing}
use Rattle.iw_stream.specs.declared.landing.Landing.TheVariants.{Write, Response, Send, Request, Terminate}
use Rattle.iw_stream.specs.declared.landing.PlacedFrame.{PlacedFrame}
use Rattle.iw_stream.specs.declared.landing.Turning.{Turning}
use Rattle.iw_stream.specs.declared.landing.Turning.TheVariants.{Passed, Completed, Answered}
use Rattle.iw_stream.specs.Frames.{Frame, frame_by, frame_at, segment_in, payload_of, placed, payload_len, record_tried, state_tried, placed_at, without}
use Rattle.iw_stream.specs.Judging.{Standing, verdict, early_verdict, table_landed, receiving_landed, turn_of, table_turned, receiving_turned, reads_left, table_tried, receiving_tried}
use Rattle.iw_stream.specs.Starting.{StartState, is_open, expecting, first_place_in, awaits_frame, progress_in, heard, agreement_in, mismatch_in, negotiation_fault}
use Rattle.iw_stream.specs.Stream.{StreamState, peer_of, sees, ended, ends, ends_by, due, is_none_due}
use Rattle.iw_stream.specs.Terminating.{terminate_alone, terminate_judged, terminate_turned}

-- the octets that came without a gap from the in-order point on
abbrev pub inbox : StreamState → List ℕ
inbox s = in_order s.arrived

-- the frame at the in-order point, if it is whole
abbrev pub next_frame : StreamState → Option Frame
next_frame s =
    let base = first_place_in s.start in
    let layout = expecting s.start in
    frame_at layout s.arrived base (frame_start layout.markers (s.arrived.floor - base))

-- what came, and which frames of it were judged early
abbrev pub scene : StreamState → Scene (ArrayVec ℕ)
scene s = scene_of (expecting s.start) (first_place_in s.start) s.arrived s.early

-- what is kept of the frame at the in-order point, if it was placed, there or before its turn
abbrev pub waiting : StreamState → Option PlacedFrame
waiting s = option_or s.front (placed_at s.early (front_of (scene s)))

-- the frame there lies over one that was placed
abbrev pub clashes : StreamState → Frame → Bool
clashes s frame = overlaps_placed s.early frame.start (frame_end (expecting s.start).markers frame.start (length frame.ulpdu))

-- the frame that can be judged early: that at the lowest place
abbrev pub early_frame : StreamState → Option Frame
early_frame s = option_map (λ start. frame_by (found_at s.arrived (expecting s.start) (first_place_in s.start) start)) (early_place (scene s))

-- ---- the rules

pub data Task : Type 0 where
  HandOut : Done → Task  -- a finished message
  GiveUp : Done → Task  -- hand out the oldest message, which is not finished, of a stream that has ended
  GiveBack : List ℕ → Task  -- hand back its oldest receive buffer
  Hear : Task  -- read the peer's start-up frame, as far as it has come
  Turn : PlacedFrame → Task  -- give the frame at the in-order point, which was placed, its turn
  Clash : Frame → Task  -- the frame at the in-order point lies over one that was placed early
  Judge : Frame → Task  -- judge the frame at the in-order point
  Try : Frame → Task  -- judge a frame before its turn
  Rest : Task

-- a stream that has ended hands back its messages, and after them its receive buffers
abbrev pub handing_back : StreamState → Task
handing_back s = option_map_or GiveUp (oldest_in s.queue) (option_map_or GiveBack (first_buffer s.receiving.source) Rest)

abbrev pub IsTry : Task → Type 0
IsTry (HandOut done) = ⊥
IsTry (GiveUp done) = ⊥
IsTry (GiveBack buffer) = ⊥
IsTry Hear = ⊥
IsTry (Turn frame) = ⊥
IsTry (Clash frame) = ⊥
IsTry (Judge frame) = ⊥
IsTry (Try frame) = Unit {0}
IsTry Rest = ⊥

abbrev pub front_task : StreamState → Frame → Task
front_task s frame = if clashes s frame then Clash frame else Judge frame

-- of the frames of an open stream, the one at the in-order point comes first
abbrev pub frame_task : StreamState → Task
frame_task s = option_map_or Turn (waiting s) (option_map_or (front_task s) (next_frame s) (option_map_or Try (early_frame s) Rest))

abbrev pub task : StreamState → Task
task s =
    option_map_or HandOut (done_in s.queue)
    (if ended s then handing_back s
    else if awaits_frame s.start then Hear
    else if not (is_open s.start) then Rest
    else frame_task s)

abbrev pub is_rest : Task → Bool
is_rest (HandOut done) = false
is_rest (GiveUp done) = false
is_rest (GiveBack buffer) = false
is_rest Hear = false
is_rest (Turn frame) = false
is_rest (Clash frame) = false
is_rest (Judge frame) = false
is_rest (Try frame) = false
is_rest Rest = true

-- it judges a frame, so it may take a buffer for a message
abbrev pub judges : Task → Bool
judges (HandOut done) = false
judges (GiveUp done) = false
judges (GiveBack buffer) = false
judges Hear = false
judges (Turn frame) = false
judges (Clash frame) = false
judges (Judge frame) = true
judges (Try frame) = true
judges Rest = false

-- the stream has ended, and neither work nor emit has anything left to do: whatever comes, they answer that from then on
abbrev pub is_at_rest : StreamState → Bool
is_at_rest s = ended s && (is_rest (task s) && is_none_due (due s))

-- what its checks look at
abbrev pub standing : Table → StreamState → Standing
standing table s = record { table = table; peer = peer_of s; receiving = s.receiving; reads = s.reads; asked = s.asked }

-- ---- what is answered

-- an initiator's stream is open, unless the Reply wants what this end does not have
abbrev pub opened_step : StartState → Option Mismatch → Step (List ℕ)
opened_step start None = steps.Opened (agreement_in start)
opened_step start (Some mismatch) = steps.Fault (negotiation_fault mismatch)

abbrev pub heard_step : StartState → List ℕ → Progress → Step (List ℕ)
heard_step start octets progress.More = steps.Idle
heard_step start octets progress.Asked = steps.Asked
heard_step start octets progress.Agreed = opened_step (heard start octets) (mismatch_in (heard start octets))
heard_step start octets (progress.Faulted fault) = steps.Closed fault

abbrev pub turned_step : Receiving → PlacedFrame → Result Turning Fault → Step (List ℕ)
turned_step r frame (Ok Passed) = steps.Passed
turned_step r frame (Ok (Completed solicited invalidate)) = steps.Received (oldest r) (r.turned + payload_len frame) solicited invalidate
turned_step r frame (Ok (Answered ticket)) = steps.Passed
turned_step r frame (Err fault) = steps.Fault fault

abbrev pub judged_step : Result Landing Fault → Step (List ℕ)
judged_step (Ok (Write at)) = steps.Placed rights.Write at.stag at.to at.n
judged_step (Ok (Response at)) = steps.Placed rights.Sink at.stag at.to at.n
judged_step (Ok (Send msn mo len)) = steps.Buffered msn mo len
judged_step (Ok (Request request)) = steps.Requested request.size request.source request.source_to
judged_step (Ok (Terminate fault)) = steps.Terminated fault
judged_step (Err fault) = steps.Fault fault

-- a frame that was judged early was placed, or is left for its turn
abbrev pub tried_step : ℕ → Option Landing → Step (List ℕ)
tried_step place (Some at) = judged_step (Ok at)
tried_step place None = steps.Tried place

-- the markers do not agree with the lengths on where frames begin (RFC 5044 8)
abbrev pub clash_fault : Fault
clash_fault = faults.MARKER_MISMATCH

abbrev pub step_of : Table → StreamState → Task → Step (List ℕ)
step_of table s (HandOut done) = steps.Done done.kind
step_of table s (GiveUp done) = steps.Flushed done.kind
step_of table s (GiveBack buffer) = steps.FlushedRecv buffer
step_of table s Hear = heard_step s.start (inbox s) (progress_in s.start (inbox s))
step_of table s (Turn frame) = turned_step s.receiving frame (turn_of (standing table s) frame)
step_of table s (Clash frame) = steps.Fault clash_fault
step_of table s (Judge frame) = judged_step (verdict (standing table s) frame)
step_of table s (Try frame) = tried_step (first_place_in s.start + frame.start) (early_verdict (standing table s) frame)
step_of table s Rest = steps.Idle

-- ---- what is left of the stream

-- the peer's start-up frame is read, and the in-order point lies past it
abbrev pub hears : StreamState → StreamState
hears s = record s { start = heard s.start (inbox s); arrived = advanced s.arrived (first_place_in (heard s.start (inbox s))) }

-- the stream ends with a Terminate if there is a mismatch
abbrev pub after_opening : StreamState → Option Mismatch → StreamState
after_opening s None = s
after_opening s (Some mismatch) = ends_by s (terminate_alone (negotiation_fault mismatch))

abbrev pub after_hearing : StreamState → Progress → StreamState
after_hearing s progress.More = s
after_hearing s progress.Asked = hears s
after_hearing s progress.Agreed = after_opening (hears s) (mismatch_in (heard s.start (inbox s)))
after_hearing s (progress.Faulted fault) = ends (hears s)

-- the place past a frame
abbrev pub place_past : StreamState → PlacedFrame → ℕ
place_past s frame = first_place_in s.start + frame_end (expecting s.start).markers frame.start frame.len

-- a frame had its turn, the in-order point lies past it, and the records of frames that begin before that point go
abbrev pub beyond : StreamState → PlacedFrame → StreamState
beyond s frame = record s {
  front = None;
  arrived = advanced s.arrived (place_past s frame);
  early = kept_from (frame_end (expecting s.start).markers frame.start frame.len) s.early;
}

abbrev pub after_turn : StreamState → PlacedFrame → Result Turning Fault → StreamState
after_turn s frame (Ok Passed) = record (beyond s frame) {
  receiving = receiving_turned s.receiving frame;
  reads = reads_left s.reads frame;
}
after_turn s frame (Ok (Completed solicited invalidate)) = record (beyond s frame) { receiving = finished s.receiving }
after_turn s frame (Ok (Answered ticket)) = record (beyond s frame) {
  reads = reads_left s.reads frame;
  queue = sent_with s.queue (completions.finished s.queue.sent ticket);
}
after_turn s frame (Err fault) = ends_by s (terminate_turned frame fault)

-- the frame at the in-order point waits for its turn
abbrev pub lands : StreamState → Frame → Landing → StreamState
lands s frame at = record s { front = Some (placed frame); receiving = receiving_landed s.receiving (payload_of (segment_in frame)) at }

-- a Read Request has its turn at once
abbrev pub takes_up : StreamState → PlacedFrame → ReadRequest → StreamState
takes_up s frame request = record (beyond s frame) { asked = taken_up s.asked (record { header = frame.header; request = request }) }

-- a Terminate has its turn at once too, and is not answered
abbrev pub after_judging : StreamState → Frame → Result Landing Fault → StreamState
after_judging s frame (Ok (Write at)) = lands s frame (Write at)
after_judging s frame (Ok (Response at)) = lands s frame (Response at)
after_judging s frame (Ok (Send msn mo len)) = lands s frame (Send msn mo len)
after_judging s frame (Ok (Request request)) = takes_up s (placed frame) request
after_judging s frame (Ok (Terminate fault)) = ends (beyond s (placed frame))
after_judging s frame (Err fault) = ends_by s (terminate_judged s.asked frame fault)

-- a frame that was judged early leaves its record; if it was placed its octets are given up, and else nothing more changes
abbrev pub after_trying : StreamState → Frame → Option Landing → StreamState
after_trying s frame at = record s {
  arrived = without (first_place_in s.start) s.arrived (record_tried frame at) (state_tried frame at);
  early = added s.early (record_tried frame at);
  receiving = receiving_tried s.receiving frame at;
}

abbrev pub left_by : Table → StreamState → Task → StreamState
left_by table s (HandOut done) = record s { queue = handed_from s.queue (Some done) }
left_by table s (GiveUp done) = record s { queue = handed_from s.queue (Some done) }
left_by table s (GiveBack buffer) = record s { receiving = flushed s.receiving }
left_by table s Hear = after_hearing s (progress_in s.start (inbox s))
left_by table s (Turn frame) = after_turn s frame (turn_of (standing table s) frame)
left_by table s (Clash frame) = ends_by s (terminate_judged s.asked frame clash_fault)
left_by table s (Judge frame) = after_judging s frame (verdict (standing table s) frame)
left_by table s (Try frame) = after_trying s frame (early_verdict (standing table s) frame)
left_by table s Rest = s

-- ---- and of the regions

abbrev pub table_judged : Table → Frame → Result Landing Fault → Table
table_judged table frame (Ok at) = table_landed table (payload_of (segment_in frame)) at
table_judged table frame (Err fault) = table

abbrev pub table_passed : Table → Result Turning Fault → Table
table_passed table (Ok turning) = table_turned table turning
table_passed table (Err fault) = table

abbrev pub table_left : Table → StreamState → Task → Table
table_left table s (HandOut done) = table
table_left table s (GiveUp done) = table
table_left table s (GiveBack buffer) = table
table_left table s Hear = table
table_left table s (Turn frame) = table_passed table (turn_of (standing table s) frame)
table_left table s (Clash frame) = table
table_left table s (Judge frame) = table_judged table frame (verdict (standing table s) frame)
table_left table s (Try frame) = table_tried table frame (early_verdict (standing table s) frame)
table_left table s Rest = table

-- ---- a call

abbrev pub work_step : Table → StreamState → Step (List ℕ)
work_step table s = step_of table s (task s)

abbrev pub worked : Table → StreamState → StreamState
worked table s = left_by table s (task s)

abbrev pub table_worked : Table → StreamState → Table
table_worked table s = table_left table s (task s)

-- the same if a pool is lent to the stream for the call: what is left of the stream, and of the pool
abbrev pub worked_with : Table → StreamState → List (List ℕ) → StreamState
worked_with table s pool = sees (worked table (sees s pool)) (exchanged s.receiving.source pool)

abbrev pub pool_left : Table → StreamState → List (List ℕ) → List (List ℕ)
pool_left table s pool = exchanged (worked table (sees s pool)).receiving.source (exchanged s.receiving.source pool)
