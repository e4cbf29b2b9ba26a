-- The right answer at a stream, with steps of work told apart by what is seen of them, and what each leaves of the stream.
use Rattle.std.proofs.Common.{◌≡◌, ◌⊎◌, ℕ, ◌+◌, ◌-◌, List, [], length, take, Option, Some, None, Result, Ok, Err, Bool, true, false, cond, refl, sym, ap, ◌∙◌, subst, inl, inr, arith}
use Rattle.std.specs.Option.{option_map, option_map_or, option_or}
use Rattle.iw_locate.specs.Free.{front_of}
use Rattle.std.specs.Prelude.{is_some, replicate}
use Rattle.std.proofs.lemmas.Bool.{false≢true, true≢false}
use Rattle.iw_octets.specs.declared.fault.Fault.{Fault}
use Rattle.iw_octets.specs.declared.head.TaggedHead.{TaggedHead}
use Rattle.iw_octets.specs.declared.head.UntaggedHead.{UntaggedHead}
use Rattle.iw_octets.specs.declared.segment.Segment.{Segment}
use Rattle.iw_octets.specs.declared.segment.Segment.TheVariants.{Tagged, Untagged}
use Rattle.iw_octets.specs.declared.payload.ReadRequest.{ReadRequest}
use Rattle.iw_octets.specs.declared.stag.Stag.{Stag}
use Rattle.iw_octets.specs.Operation.{opcode_of, untagged_operation}
use Rattle.iw_octets.specs.Payload.{request_fields}
use Rattle.iw_memory.specs.declared.rights.Right.{Right}
use Rattle.iw_memory.specs.declared.rights.Right.TheVariants as rights
use Rattle.iw_memory.specs.Table.{Table, put, octets_at, denial_for}
use Rattle.iw_fpdu.specs.Sequence.{Carried}
use Rattle.iw_queues.specs.declared.completions.Done.{Done}
use Rattle.iw_queues.specs.declared.request.Kind.{Kind}
use Rattle.iw_queues.specs.declared.request.Request.{Request}
use Rattle.iw_queues.specs.declared.send_queue.Part.{Part}
use Rattle.iw_queues.specs.Completions as completions
use Rattle.iw_queues.specs.Queue.{Queue, part_sent, sent_with, done_in, oldest_in, handed_from}
use Rattle.iw_queues.specs.Segments.{numbers_after, numbers_beyond}
use Rattle.iw_reads.specs.declared.reads.Outstanding.{Outstanding}
use Rattle.iw_reads.specs.declared.response.ResponsePart.{ResponsePart}
use Rattle.iw_rdmap.specs.Judging.{request_fault}
use Rattle.std.proofs.lemmas.Bool.Decides.{nat_tests}
use Rattle.std.specs.Prelude.{◌≤◌}
use Rattle.iw_reads.specs.Outstanding.{response_turn_fault, finished_read}
use Rattle.iw_reads.specs.Requests.{Requested, taken_up, part_fetched}
use Rattle.iw_tagged.specs.declared.placing.Placed.{Placed}
use Rattle.iw_startup.specs.declared.progress.Progress.{Progress}
use Rattle.iw_startup.specs.declared.progress.Progress.TheVariants as progress
use Rattle.iw_startup.specs.declared.enhanced.Mismatch.{Mismatch}
use Rattle.iw_startup.specs.State.{StartupState}
use Rattle.iw_untagged.specs.Receiving.{written, finished, first_buffer, flushed, oldest, turn_fault, buffer_fault}
use Rattle.iw_ranges.specs.Arrived.{advanced}
use Rattle.iw_stream.specs.declared.answer.Step.{Step}
use Rattle.iw_stream.specs.declared.landing.Landing.{Landing}
use Rattle.iw_stream.specs.declared.landing.Landing.TheVariants as landing
use Rattle.iw_stream.specs.declared.landing.PlacedFrame.{PlacedFrame}
use Rattle.iw_stream.specs.declared.landing.Turning.{Turning}
use Rattle.iw_stream.specs.declared.landing.Turning.TheVariants as turning
use Rattle.iw_fpdu.specs.Frame.{frame_end}
use Rattle.iw_locate.specs.Records.{added, kept_from}
use Rattle.iw_stream.specs.Frames.{Frame, EarlyRecord, payload_of, placed, payload_len, placed_at, record_of, record_tried}
use Rattle.arrayvec.specs.ArrayVec.{ArrayVec}
use Rattle.iw_locate.specs.declared.judged.State.{State}
use Rattle.iw_locate.specs.declared.judged.State.TheVariants as states
use Rattle.iw_stream.specs.Frames as frames
use Rattle.iw_stream.specs.declared.ending.Ending.TheVariants.{Over, Broken}
use Rattle.iw_stream.specs.Ending.{last_word}
use Rattle.iw_stream.specs.Terminating.{terminate_alone, terminate_judged, terminate_turned, terminate_fetched}
use Rattle.iw_stream.specs.Judging.{or_else, fault_or, is_solicited, stag_to_invalidate, invalidation_fault, send_turning, early_verdict, table_tried, verdict, answering_by, is_response, tagged_turn, segment_turn, turn_of, receiving_turned, left_by_turn, reads_left, receiving_tried}
use Rattle.iw_stream.specs.Starting.{StartState, AtOnce, Unheard, Heard, is_open, own_frame, awaits_frame, expecting, first_place_in, progress_in, heard, agreement_in, private_in, told_in, mismatch_in, negotiation_fault, answered_with}
use Rattle.iw_startup.specs.declared.enhanced.Rtr.{Rtr}
use Rattle.iw_stream.specs.Rtr.{rtr_message}
use Rattle.iw_stream.specs.Stream.{StreamState, Due, StartUp, LastWord, Response, NextPart, NoneDue, ended, ends, ends_by, due, owes_frame, is_mute, part_due, response_due, frame_of_part, frame_of_terminate, frame_fetched, reads_with, octets_due, octets_fetched, emission_due, emission_fetched, emission_of, emitted, left_due, left_fetched, with_buffer, with_request, with_mulpdu, after_emit, after_deliver, accepted, with_first, quits, over, Ready, frame_of_rtr, rtr_due, peer_of}
use Rattle.iw_startup.specs.declared.side.Reply.TheVariants.{Reject as Rejecting}
use Rattle.iw_stream.specs.Work.{Task, Hear, Turn, Clash, Judge, Try, inbox, scene, next_frame, early_frame, waiting, clashes, clash_fault, hears, heard_step, opened_step, turned_step, judged_step, tried_step, step_of, after_hearing, after_opening, after_turn, after_judging, after_trying, left_by, table_judged, table_passed, table_left, work_step, worked, table_worked}
use Rattle.iw_stream.specs.Work as work
use Rattle.iw_stream.proofs.Headers.{payload_kept, turn_kept, turned_kept, left_kept}
use Rattle.iw_stream.proofs.Tasks.{IsRunning, IsResting, by_task}
use Rattle.iw_events.specs.declared.act.StreamAct.{StreamAct}
use Rattle.iw_events.specs.declared.act.StreamAct.TheVariants.{Recv, Post, Emit, First, Deliver, Raw, Mulpdu, Accept, Reject, Work, Break}
use Rattle.iw_events.specs.declared.act.Shown.{Shown}
use Rattle.iw_events.specs.declared.act.Shown.TheVariants as shows
use Rattle.iw_events.specs.declared.act.Seen.{Seen}
use Rattle.iw_events.specs.declared.act.Seen.TheVariants as seen
use Rattle.iw_laws.specs.Words.{Octets, private_data, deed, deed_of_step, is_denied}
use Rattle.iw_laws.specs.Turns.{asked_in, seen_judged, seen_tried, seen_turned, front_verdict}
use Rattle.iw_laws.specs.Rules.{StreamRule, seen_of, shown_of}
use Rattle.iw_laws.proofs.States.{stream_after}
use Rattle.iw_startup.specs.declared.config.Agreed.{Agreed}
use Rattle.iw_laws.proofs.Rooms.{open_heard, heard_open}
use Rattle.iw_laws.proofs.Nexts.{fore, place_past, segment_in, segment_at, turned_by, past_front, standing, Sound, none_first_here, first_is_here, past_is}
use Rattle.iw_laws.specs.Early.{HasPlace}
use Rattle.iw_laws.proofs.Left.{HasLeft, equal_has, trying_has}
use Rattle.iw_laws.proofs.Seeing.{LandsTagged, LandsRequest, LandsAs, lands_as, early_lands, stands}

-- ---- what an act leaves of a stream that gives nothing up as it ends, by what is seen of it

-- it has ended, and no Terminate is due
abbrev pub stops : StreamState → StreamState
stops s = record s { ending = Over None }

-- by a fault, with a Terminate that has this payload
abbrev pub stops_by : StreamState → Octets → StreamState
stops_by s payload = record s { ending = over s.start s.arrived payload }

-- by a rejection
abbrev pub stops_asked : StreamState → Octets → StreamState
stops_asked s private = record s { start = answered_with s.start (Rejecting (private_data private)); ending = Over None }

-- by a break of its link
abbrev pub stops_broken : StreamState → StreamState
stops_broken s = record s { ending = Broken }

-- what is kept of the frame at the in-order point
abbrev pub kept_of : StreamState → Option PlacedFrame
kept_of s = option_map (λ x. placed (standing s x.0)) (fore s)

-- the peer's requests, with the one at the in-order point
abbrev pub asked_front : StreamState → Requested
asked_front s = option_map_or (λ x. taken_up s.asked (asked_in (standing s x.0))) (fore s) s.asked

-- the records that stay when the frame at the in-order point had its turn
abbrev pub early_left : StreamState → List EarlyRecord
early_left s = kept_from (place_past s (fore s) - first_place_in s.start) s.early

-- the records, with that of the frame that can be judged early
abbrev pub early_with : StreamState → (Frame → State (ArrayVec ℕ)) → List EarlyRecord
early_with s state = option_map_or (λ f. added s.early (record_of f (state f))) (early_frame s) s.early

-- the frame at the in-order point is placed, or that one
abbrev pub places : StreamState → StreamState
places s = record s { front = kept_of s; early = cond (is_some (fore s)) s.early (early_with s (λ f. states.Placed (placed f).header)) }

-- the octets that the frame carries that is judged next: the one there, or else that one
abbrev pub judged_payload : StreamState → Octets
judged_payload s = option_map_or (λ f. payload_of (frames.segment_in f)) (option_or (option_map (λ x. standing s x.0) (fore s)) (early_frame s)) []

-- the Reads that are outstanding, behind the frame at the in-order point
abbrev pub reads_front : StreamState → List Outstanding
reads_front s = left_by_turn s.reads (length (payload_of (segment_at (fore s)))) (segment_at (fore s))

-- the Read that a segment finishes, by its ticket
abbrev pub finishes_read : List Outstanding → Option (Segment Octets) → Option ℕ
finishes_read reads None = None
finishes_read reads (Some (Tagged head payload)) = cond (is_response head) (finished_read reads head) None
finishes_read reads (Some (Untagged head payload)) = None

-- the Terminate for a fault of the frame at the in-order point
abbrev pub fault_front : StreamState → Fault → Octets
fault_front s fault =
    option_map_or (λ x. cond (is_some (waiting s)) (terminate_turned (placed (standing s x.0)) fault) (terminate_judged s.asked (standing s x.0) fault)) (fore s) []

-- and for any fault: of no frame, where the peer's start-up frame has it
abbrev pub fault_for : StreamState → Fault → Octets
fault_for s fault = cond (awaits_frame s.start) (terminate_alone fault) (fault_front s fault)

-- the peer's start-up frame is read, if it is awaited
abbrev pub hears_due : StreamState → StreamState
hears_due s = record s { start = heard s.start (inbox s); arrived = cond (awaits_frame s.start) (advanced s.arrived (first_place_in (heard s.start (inbox s)))) s.arrived }

abbrev pub with_finished : Queue → Option ℕ → Queue
with_finished q None = q
with_finished q (Some ticket) = sent_with q (completions.finished q.sent ticket)

-- what a call to emit leaves, by what it showed
abbrev pub left_frame : StreamState → Due → StreamState
left_frame s StartUp = record s { sent = s.sent + length (own_frame s.start) }
left_frame s (LastWord payload) = record s { sent = s.sent + length (frame_of_terminate s payload); ending = Over None }
left_frame s (Ready rtr) = record s {
  numbers = numbers_after s.numbers (rtr_message rtr);
  sent = s.sent + length (frame_of_rtr s rtr);
  reads = reads_with s.reads None (rtr_message rtr);
}
left_frame s (NextPart part) = record s {
  queue = part_sent s.queue (Some part);
  numbers = numbers_beyond s.numbers part;
  sent = s.sent + length (frame_of_part s part);
  reads = reads_with s.reads (Some part.ticket) part.message;
}
left_frame s (Response part) = s
left_frame s NoneDue = s

abbrev pub after_shown : StreamState → Shown Octets → StreamState
after_shown s (shows.Frame from octets) = left_frame s (due s)
after_shown s (shows.Fetched from frame stag to octets) = record s { asked = part_fetched s.asked (response_due s); sent = s.sent + length frame }
after_shown s (shows.Fault fault) = stops_by s (terminate_fetched s.asked fault)
after_shown s shows.Nothing = s

abbrev pub after_seen : StreamState → Seen Octets → StreamState
after_seen s (seen.Done kind) = record s { queue = handed_from s.queue (done_in s.queue) }
after_seen s (seen.Flushed kind) = record s { queue = handed_from s.queue (oldest_in s.queue) }
after_seen s (seen.FlushedRecv octets) = record s { receiving = flushed s.receiving }
after_seen s (seen.Asked word private) = hears s
after_seen s (seen.Opened agreed word private) = hears s
after_seen s (seen.Closed fault) = stops (hears s)
after_seen s (seen.Placed right stag to octets) = places s
after_seen s (seen.Tried place) = record s { early = early_with s (λ f. states.Tried) }
after_seen s (seen.Requested size stag to) = record s { front = None; arrived = past_front s; early = early_left s; asked = asked_front s }
after_seen s (seen.Buffered msn mo len) = record (places s) { receiving = written s.receiving msn mo (judged_payload s) }
after_seen s seen.Passed = record s {
  front = None;
  receiving = turned_by s.receiving (segment_at (fore s));
  arrived = past_front s;
  early = early_left s;
  reads = reads_front s;
  queue = with_finished s.queue (finishes_read s.reads (segment_at (fore s)));
}
after_seen s (seen.Received octets solicited invalidate) = record s { front = None; receiving = finished s.receiving; arrived = past_front s; early = early_left s }
after_seen s (seen.Terminated fault) = stops (record s { front = None; arrived = past_front s; early = early_left s })
after_seen s (seen.Fault fault) = stops_by (hears_due s) (fault_for s fault)
after_seen s seen.Idle = s

abbrev pub after_act : StreamState → StreamAct Octets → StreamState
after_act s (Recv len None) = with_buffer s (replicate len 0)
after_act s (Recv len (Some refusal)) = s
after_act s (Post request None) = with_request s request
after_act s (Post request (Some refusal)) = s
after_act s (Emit shown) = after_shown s shown
after_act s (Deliver from number octets delivery) = after_deliver s number octets delivery
after_act s (Raw number octets delivery) = after_deliver s number octets delivery
after_act s (First number None) = with_first s number
after_act s (Mulpdu size None) = with_mulpdu s size
after_act s (First number (Some refusal)) = s
after_act s (Mulpdu size (Some refusal)) = s
after_act s (Accept private (Ok agreed)) = accepted s (private_data private)
after_act s (Accept private (Err refusal)) = s
after_act s (Reject private None) = stops_asked s private
after_act s (Reject private (Some refusal)) = s
after_act s (Work step) = after_seen s step
after_act s Break = stops_broken s

-- ---- and of one that gives up what came as it ends
abbrev pub quits_by : Bool → StreamState → StreamState
quits_by true s = quits s
quits_by false s = s

abbrev pub shown_left : StreamState → Shown Octets → StreamState
shown_left s shown = quits_by (is_denied shown) (after_shown s shown)

abbrev pub seen_left : StreamState → Seen Octets → StreamState
seen_left s step = quits_by (deed_of_step step).ends (after_seen s step)

abbrev pub act_left : StreamState → StreamAct Octets → StreamState
act_left s act = quits_by (deed act).ends (after_act s act)

-- no frame waits, and none was placed at the in-order point
pub nothing_waits : (s : StreamState) → is_some (waiting s) ≡ false → s.front ≡ None
nothing_waits s e = go s.front refl e
  where
    go : (o : Option PlacedFrame) → s.front ≡ o → is_some (option_or o (placed_at s.early (front_of (scene s)))) ≡ false → s.front ≡ None
    go None is h = is
    go (Some f) is h = absurd (true≢false h)

-- ---- what is seen

-- the frame at the in-order point was not placed, and is judged
pub record Judged (table : Table) (s : StreamState) (step : Seen Octets) : Type 0 where
  pub runs : IsRunning s
  pub frame : Frame
  pub is_next : next_frame s ≡ Some frame
  pub unplaced : waiting s ≡ None
  pub answer : step ≡ seen_judged frame (front_verdict s.early (expecting s.start) (work.standing table s) frame)

-- none is whole there, and one is judged before its turn
pub record JudgedEarly (table : Table) (s : StreamState) (step : Seen Octets) : Type 0 where
  pub runs : IsRunning s
  pub frame : Frame
  pub unplaced : waiting s ≡ None
  pub no_next : next_frame s ≡ None
  pub none : fore s ≡ None
  pub is_early : early_frame s ≡ Some frame
  pub answer : step ≡ seen_tried (first_place_in s.start) frame (early_verdict (work.standing table s) frame)

-- it was placed, and has its turn
pub record Turned (table : Table) (s : StreamState) (step : Seen Octets) : Type 0 where
  pub runs : IsRunning s
  pub frame : Carried
  pub rest : Octets
  pub whole : fore s ≡ Some (frame, rest)
  pub kept : waiting s ≡ Some (placed (standing s frame))
  pub answer : step ≡ seen_turned s.receiving (placed (standing s frame)) (turn_of (work.standing table s) (placed (standing s frame)))

-- the frame at the in-order point carries this segment
pub record Fronts (s : StreamState) (was_placed : Bool) (segment : Segment Octets) : Type 0 where
  pub running : ended s ≡ false
  pub started : is_open s.start ≡ true
  pub placed : is_some (waiting s) ≡ was_placed
  pub frame : Carried
  pub rest : Octets
  pub whole : fore s ≡ Some (frame, rest)
  pub carries : segment_in frame ≡ Some segment
  pub clear : was_placed ≡ false → clashes s (standing s frame) ≡ false

-- whose octets are those of the frame that is judged
pub payload_there : (s : StreamState) (segment : Segment Octets) → Fronts s false segment → judged_payload s ≡ payload_of (Some segment)
payload_there s segment w =
    ap (λ o. option_map_or (λ f. payload_of (frames.segment_in f)) (option_or (option_map (λ (x : Carried × Octets). standing s x.0) o) (early_frame s)) []) w.whole ∙ ap payload_of w.carries

pub payload_early : (s : StreamState) (frame : Frame) (segment : Segment Octets) → fore s ≡ None → early_frame s ≡ Some frame → frames.segment_in frame ≡ Some segment → judged_payload s ≡ payload_of (Some segment)
payload_early s frame segment none found carries =
    (λ i. option_map_or (λ f. payload_of (frames.segment_in f)) (option_or (option_map (λ (x : Carried × Octets). standing s x.0) (none i)) (found i)) []) ∙ ap payload_of carries

-- by which right a segment is placed
abbrev pub IsPlacedBy : TaggedHead → Right → Type 0
IsPlacedBy head right = ((right ≡ rights.Write) × (opcode_of head.control ≡ 0)) ⊎ ((right ≡ rights.Sink) × (opcode_of head.control ≡ 2))

-- a tagged segment that was placed before its turn
pub record SeesEarly (table : Table) (s : StreamState) (right : Right) (stag : Stag) (to : ℕ) (octets : Octets) : Type 0 where
  pub frame : Frame
  pub is_early : early_frame s ≡ Some frame
  pub head : TaggedHead
  pub carries : frames.segment_in frame ≡ Some (Tagged head octets)
  pub kind : IsPlacedBy head right
  pub admitted : denial_for table (peer_of s) stag to (length octets) right ≡ None
  pub stag_is : stag ≡ head.stag
  pub to_is : to ≡ head.to

-- a tagged segment that was placed: a Write's, or part of the response to a Read
pub record SeesPlaced (table : Table) (s : StreamState) (right : Right) (stag : Stag) (to : ℕ) (octets : Octets) : Type 0 where
  pub head : TaggedHead
  pub fronts : Fronts s false (Tagged head octets)
  pub kind : IsPlacedBy head right
  pub admitted : denial_for table (peer_of s) stag to (length octets) right ≡ None
  pub stag_is : stag ≡ head.stag
  pub to_is : to ≡ head.to

-- a Read Request that was taken up
pub record SeesRequest (s : StreamState) (size : ℕ) (stag : Stag) (to : ℕ) : Type 0 where
  pub head : UntaggedHead
  pub payload : Octets
  pub fronts : Fronts s false (Untagged head payload)
  pub short : length fronts.frame.ulpdu ≤ 46
  pub queue : head.queue ≡ 1
  pub size_is : size ≡ (request_fields payload).size
  pub stag_is : stag ≡ (request_fields payload).source
  pub to_is : to ≡ (request_fields payload).source_to

-- the peer's Terminate
pub record SeesTerminate (s : StreamState) : Type 0 where
  pub head : UntaggedHead
  pub payload : Octets
  pub fronts : Fronts s false (Untagged head payload)
  pub queue : head.queue ≡ 2

-- a message that is given up
pub record GivesUp (s : StreamState) (kind : Kind) : Type 0 where
  pub over : ended s ≡ true
  pub unfinished : done_in s.queue ≡ None
  pub oldest : Done
  pub is : oldest_in s.queue ≡ Some oldest
  pub kind_is : kind ≡ oldest.kind

-- a receive buffer that is handed back
pub record GivesBack (s : StreamState) (octets : Octets) : Type 0 where
  pub over : ended s ≡ true
  pub unfinished : done_in s.queue ≡ None
  pub none : oldest_in s.queue ≡ None
  pub is : first_buffer s.receiving.source ≡ Some octets

-- a Send's segment that was placed
pub record SeesSend (s : StreamState) (msn mo len : ℕ) : Type 0 where
  pub head : UntaggedHead
  pub payload : Octets
  pub fronts : Fronts s false (Untagged head payload)
  pub queue : head.queue ≡ 0
  pub checked : buffer_fault s.receiving head.msn head.mo (length payload) ≡ None
  pub msn_is : msn ≡ head.msn
  pub mo_is : mo ≡ head.mo
  pub len_is : len ≡ length payload

-- one that was placed before its turn
pub record SeesEarlySend (s : StreamState) (msn mo len : ℕ) : Type 0 where
  pub frame : Frame
  pub is_early : early_frame s ≡ Some frame
  pub head : UntaggedHead
  pub payload : Octets
  pub carries : frames.segment_in frame ≡ Some (Untagged head payload)
  pub queue : head.queue ≡ 0
  pub checked : buffer_fault s.receiving head.msn head.mo (length payload) ≡ None
  pub msn_is : msn ≡ head.msn
  pub mo_is : mo ≡ head.mo
  pub len_is : len ≡ length payload

-- the segment is not the last of a Send
abbrev pub IsPassing : StreamState → Segment Octets → Type 0
IsPassing s (Tagged head payload) = is_response head ≡ true → response_turn_fault s.reads head (length payload) ≡ None
IsPassing s (Untagged head payload) = (turn_fault s.receiving head.msn head.mo ≡ None) × (head.last ≡ false)

pub record Passes (s : StreamState) : Type 0 where
  pub segment : Segment Octets
  pub fronts : Fronts s true segment
  pub passing : IsPassing s segment

-- a Send that was received
pub record SeesReceive (s : StreamState) (octets : Octets) (solicited : Bool) (invalidate : Option Stag) : Type 0 where
  pub head : UntaggedHead
  pub payload : Octets
  pub fronts : Fronts s true (Untagged head payload)
  pub turn : turn_fault s.receiving head.msn head.mo ≡ None
  pub last : head.last ≡ true
  pub is : octets ≡ take (s.receiving.turned + length payload) (oldest s.receiving)
  pub solicited_is : solicited ≡ is_solicited (untagged_operation (opcode_of head.control))
  pub invalidate_is : invalidate ≡ stag_to_invalidate head

-- the peer's start-up frame is awaited, and comes to this
pub record Hears (s : StreamState) (outcome : Progress) : Type 0 where
  pub running : ended s ≡ false
  pub startup : StartupState
  pub is : s.start ≡ Unheard startup
  pub comes : progress_in s.start (inbox s) ≡ outcome

-- so an initiator's stream is open, or ends since the Reply wants what it does not have
pub record HearsReply (s : StreamState) (agreed : Agreed) : Type 0 where
  pub hears_it : Hears s progress.Agreed
  pub fits : mismatch_in (heard s.start (inbox s)) ≡ None
  pub agreed_is : agreed ≡ agreement_in (heard s.start (inbox s))

pub record HearsMismatch (s : StreamState) (fault : Fault) : Type 0 where
  pub hears_it : Hears s progress.Agreed
  pub mismatch : Mismatch
  pub is : mismatch_in (heard s.start (inbox s)) ≡ Some mismatch
  pub fault_is : fault ≡ negotiation_fault mismatch

abbrev pub Sees : Table → StreamState → Seen Octets → Type 0
Sees table s (seen.Done kind) = (done : Done) × (done_in s.queue ≡ Some done) × (kind ≡ done.kind)
Sees table s (seen.Flushed kind) = GivesUp s kind
Sees table s (seen.FlushedRecv octets) = GivesBack s octets
Sees table s seen.Idle = (done_in s.queue ≡ None) × (Hears s progress.More ⊎ IsResting s)
Sees table s (seen.Asked word private) = Hears s progress.Asked × (word ≡ told_in (hears s).start) × (private ≡ private_in (hears s).start)
Sees table s (seen.Opened agreed word private) = HearsReply s agreed × (word ≡ told_in (hears s).start) × (private ≡ private_in (hears s).start)
Sees table s (seen.Closed fault) = Hears s (progress.Faulted fault)
Sees table s (seen.Placed right stag to octets) =
    (Judged table s (seen.Placed right stag to octets) × SeesPlaced table s right stag to octets)
    ⊎ (JudgedEarly table s (seen.Placed right stag to octets) × SeesEarly table s right stag to octets)
Sees table s (seen.Tried place) = JudgedEarly table s (seen.Tried place)
Sees table s (seen.Requested size stag to) = Judged table s (seen.Requested size stag to) × SeesRequest s size stag to
Sees table s (seen.Buffered msn mo len) =
    (Judged table s (seen.Buffered msn mo len) × SeesSend s msn mo len)
    ⊎ (JudgedEarly table s (seen.Buffered msn mo len) × SeesEarlySend s msn mo len)
Sees table s seen.Passed = Turned table s seen.Passed × Passes s
Sees table s (seen.Received octets solicited invalidate) = Turned table s (seen.Received octets solicited invalidate) × SeesReceive s octets solicited invalidate
Sees table s (seen.Terminated fault) = Judged table s (seen.Terminated fault) × SeesTerminate s
Sees table s (seen.Fault fault) = HearsMismatch s fault ⊎ (Judged table s (seen.Fault fault) ⊎ Turned table s (seen.Fault fault))

abbrev Given : Table → StreamState → Seen Octets → StreamState → Type 0
Given table s step left = Sees table s step × (left ≡ seen_left s step)

-- the same, where less is left of what came
abbrev Gives : Table → StreamState → Seen Octets → StreamState → Type 0
Gives table s step left = Sees table s step × HasLeft left (seen_left s step)

-- a fault of a frame is one of an open stream
pub faults_open : (s : StreamState) (fault : Fault) → is_open s.start ≡ true → stops_by (hears_due s) (fault_for s fault) ≡ stops_by s (fault_front s fault)
faults_open s fault started =
    let heard_it : awaits_frame s.start ≡ false = open_heard s.start started in
    λ i. stops_by
    (record s { start = heard_open s.start (inbox s) started i; arrived = cond (heard_it i) (advanced s.arrived (first_place_in (heard s.start (inbox s)))) s.arrived })
    (cond (heard_it i) (terminate_alone fault) (fault_front s fault))

-- and one of a Reply is of one that awaits it
pub faults_unheard : (s : StreamState) (fault : Fault) → awaits_frame s.start ≡ true → stops_by (hears_due s) (fault_for s fault) ≡ stops_by (hears s) (terminate_alone fault)
faults_unheard s fault awaits =
    λ i. stops_by
    (record s { start = heard s.start (inbox s); arrived = cond (awaits i) (advanced s.arrived (first_place_in (heard s.start (inbox s)))) s.arrived })
    (cond (awaits i) (terminate_alone fault) (fault_front s fault))

-- where the in-order point lies then
pub arrived_open : (s : StreamState) → is_open s.start ≡ true → (hears_due s).arrived ≡ s.arrived
arrived_open s started = ap (λ b. cond b (advanced s.arrived (first_place_in (heard s.start (inbox s)))) s.arrived) (open_heard s.start started)

pub arrived_unheard : (s : StreamState) → awaits_frame s.start ≡ true → (hears_due s).arrived ≡ advanced s.arrived (first_place_in (heard s.start (inbox s)))
arrived_unheard s awaits = ap (λ b. cond b (advanced s.arrived (first_place_in (heard s.start (inbox s)))) s.arrived) awaits

pub fault_open : (table : Table) (s : StreamState) (fault : Fault) → Judged table s (seen.Fault fault) ⊎ Turned table s (seen.Fault fault) → is_open s.start ≡ true
fault_open table s fault (inl j) = j.runs.started
fault_open table s fault (inr j) = j.runs.started

-- a Read Request that passed its checks has 28 octets of payload
request_short : (frame : Frame) (head : UntaggedHead) (next unanswered : ℕ) → request_fault head (length frame.ulpdu - 18) next unanswered ≡ None → length frame.ulpdu ≤ 46
request_short frame head next unanswered e = grind (arith, nat_tests, e)

module _ (table : Table) (s : StreamState) (k : Sound s) (runs : IsRunning s) where
  -- a frame that was not placed is judged
  module _ (frame : Frame) (is_next : next_frame s ≡ Some frame) (unplaced : waiting s ≡ None) (start : StartState) where
    abbrev Lands_in : Result Landing Fault → Type 0
    Lands_in r = verdict (work.standing table s) frame ≡ r → LandsAs (work.standing table s) frame r → Given table s (seen_of (table_judged table frame r) start (judged_step r)) (after_judging s frame r)

    abbrev by_front : Result Landing Fault
    by_front = front_verdict s.early (expecting s.start) (work.standing table s) frame

    judged : (step : Seen Octets) → step ≡ seen_judged frame by_front → Judged table s step
    judged step e = record { runs = runs; frame = frame; is_next = is_next; unplaced = unplaced; answer = e }

    keeps : Some (placed frame) ≡ kept_of s
    keeps = ap (λ z. Some (placed z)) (first_is_here s frame k is_next).is ∙ ap (option_map (λ x. placed (standing s x.0))) (sym (first_is_here s frame k is_next).whole)

    fronts : clashes s frame ≡ false → (segment : Segment Octets) → frames.segment_in frame ≡ Some segment → Fronts s false segment
    fronts clear segment carries = record {
      running = runs.running;
      started = runs.started;
      placed = ap is_some unplaced;
      frame = record { mismatch = frame.mismatch; ulpdu = frame.ulpdu };
      rest = (first_is_here s frame k is_next).rest;
      whole = (first_is_here s frame k is_next).whole;
      carries = carries;
      clear = λ h. ap (clashes s) (sym (first_is_here s frame k is_next).is) ∙ clear;
    }

    terminates : (fault : Fault) → terminate_judged s.asked frame fault ≡ fault_front s fault
    terminates fault =
        let first = first_is_here s frame k is_next in
        ap (λ z. terminate_judged s.asked z fault) first.is
        ∙ (λ i. option_map_or (λ (x : Carried × Octets). cond (is_some (sym unplaced i)) (terminate_turned (placed (standing s x.0)) fault) (terminate_judged s.asked (standing s x.0) fault)) (sym first.whole i) [])

    faulted : (fault : Fault) → by_front ≡ Err fault → Given table s (seen.Fault fault) (ends_by s (terminate_judged s.asked frame fault))
    faulted fault e = (inr (inl (judged (seen.Fault fault) (ap (seen_judged frame) (sym e)))), ap (ends_by s) (terminates fault) ∙ sym (ap quits (faults_open s fault runs.started)))

    -- its segment, its place and the place behind it
    place_here : work.place_past s (placed frame) ≡ place_past s (fore s)
    place_here =
        let first = first_is_here s frame k is_next in
        ap (λ z. work.place_past s (placed z)) first.is ∙ past_is s (record { mismatch = frame.mismatch; ulpdu = frame.ulpdu }) first.rest k first.whole

    past_here : advanced s.arrived (work.place_past s (placed frame)) ≡ past_front s
    past_here = ap (advanced s.arrived) place_here

    early_here : kept_from (frame_end (expecting s.start).markers frame.start (length frame.ulpdu)) s.early ≡ early_left s
    early_here = ap (λ n. kept_from n s.early) (omega (arith, place_here))

    takes : taken_up s.asked (asked_in frame) ≡ asked_front s
    takes =
        let first = first_is_here s frame k is_next in
        ap (λ z. taken_up s.asked (asked_in z)) first.is ∙ ap (λ o. option_map_or (λ (x : Carried × Octets). taken_up s.asked (asked_in (standing s x.0))) o s.asked) (sym first.whole)

    tagged : clashes s frame ≡ false → (opcode : ℕ) (right : Right) (p : Placed) → (w : LandsTagged (work.standing table s) frame opcode right p)
        → ((right ≡ rights.Write) × (opcode ≡ 0)) ⊎ ((right ≡ rights.Sink) × (opcode ≡ 2)) → seen.Placed right p.stag p.to (payload_of (frames.segment_in frame)) ≡ seen_judged frame by_front
        → Sees table s (seen.Placed right p.stag p.to (octets_at (put table p.stag p.to (payload_of (frames.segment_in frame))) p.stag p.to p.n))
    tagged clear opcode right p w kind e =
        let whole : octets_at (put table p.stag p.to (payload_of (frames.segment_in frame))) p.stag p.to p.n ≡ w.payload = stands (work.standing table s) frame opcode right p w in
        let stag : p.stag ≡ w.head.stag = ap (λ (q : Placed). q.stag) w.place in
        let to : p.to ≡ w.head.to = ap (λ (q : Placed). q.to) w.place in
        let sees : Sees table s (seen.Placed right p.stag p.to w.payload) = inl (
          judged (seen.Placed right p.stag p.to w.payload) (ap (seen.Placed right p.stag p.to) (sym (ap payload_of w.carries)) ∙ e),
          record {
            head = w.head;
            fronts = fronts clear (Tagged w.head w.payload) w.carries;
            kind = elim kind [ inl z ↦ inl (z.0, w.is ∙ z.1) | inr z ↦ inr (z.0, w.is ∙ z.1) ];
            admitted = (λ i. denial_for table (peer_of s) (stag i) (to i) (length w.payload) right) ∙ w.admitted;
            stag_is = stag;
            to_is = to;
          },
        ) in
        subst (λ z. Sees table s (seen.Placed right p.stag p.to z)) (sym whole) sees

    -- it lies over one that was placed before its turn
    clashing : clashes s frame ≡ true → Given table s (seen.Fault clash_fault) (ends_by s (terminate_judged s.asked frame clash_fault))
    clashing over = faulted clash_fault (ap (λ b. cond b (Err clash_fault) (verdict (work.standing table s) frame)) over)

    placed_so : record s { front = Some (placed frame) } ≡ places s
    placed_so = λ i. record s { front = keeps i; early = cond (is_some (sym (first_is_here s frame k is_next).whole i)) s.early (early_with s (λ f. states.Placed (placed f).header)) }

    payload_here : payload_of (frames.segment_in frame) ≡ judged_payload s
    payload_here =
        let first = first_is_here s frame k is_next in
        ap (λ z. payload_of (frames.segment_in z)) first.is
        ∙ ap (λ o. option_map_or (λ f. payload_of (frames.segment_in f)) (option_or (option_map (λ (x : Carried × Octets). standing s x.0) o) (early_frame s)) []) (sym first.whole)

    -- it does not
    module _ (clear : clashes s frame ≡ false) where
      answer : {r : Result Landing Fault} → verdict (work.standing table s) frame ≡ r → r ≡ by_front
      answer e = sym e ∙ ap (λ b. cond b (Err clash_fault) (verdict (work.standing table s) frame)) (sym clear)

      lands_by : (r : Result Landing Fault) → Lands_in r
      unfolding fronts
      lands_by (Err fault) e w = faulted fault (sym (answer e))
      lands_by (Ok (landing.Write p)) e w = (tagged clear 0 rights.Write p w (inl (refl, refl)) (ap (seen_judged frame) (answer e)), placed_so)
      lands_by (Ok (landing.Response p)) e w = (tagged clear 2 rights.Sink p w (inr (refl, refl)) (ap (seen_judged frame) (answer e)), placed_so)
      lands_by (Ok (landing.Send msn mo len)) e w = (
        inl (
          judged (seen.Buffered msn mo len) (ap (seen_judged frame) (answer e)),
          record { head = w.head; payload = w.payload; fronts = fronts clear (Untagged w.head w.payload) w.carries; queue = w.queue; checked = w.checked; msn_is = w.msn_is; mo_is = w.mo_is; len_is = w.len_is },
        ),
        (λ i. record (placed_so i) { receiving = written s.receiving msn mo (payload_here i) }),
      )
      lands_by (Ok (landing.Request request)) e w = (
        (
          judged (seen.Requested request.size request.source request.source_to) (ap (seen_judged frame) (answer e)),
          record {
            head = w.head;
            payload = w.payload;
            fronts = fronts clear (Untagged w.head w.payload) w.carries;
            queue = w.queue;
            short = request_short frame w.head (work.standing table s).asked.next (length (work.standing table s).asked.unanswered) w.checked;
            size_is = ap (λ (z : ReadRequest). z.size) w.is;
            stag_is = ap (λ (z : ReadRequest). z.source) w.is;
            to_is = ap (λ (z : ReadRequest). z.source_to) w.is;
          },
        ),
        (λ i. record s { front = None; arrived = past_here i; early = early_here i; asked = (same_request request w ∙ takes) i }),
      )
        where
          same_request : (request : ReadRequest) → LandsRequest (work.standing table s) frame request → taken_up s.asked (record { header = (placed frame).header; request = request }) ≡ taken_up s.asked (asked_in frame)
          same_request request w = ap (λ z. taken_up s.asked (record { header = (placed frame).header; request = z })) (w.is ∙ ap (λ g. request_fields (payload_of g)) (sym w.carries))
      lands_by (Ok (landing.Terminate fault)) e w = (
        (
          judged (seen.Terminated fault) (ap (seen_judged frame) (answer e)),
          record { head = w.head; payload = w.payload; fronts = fronts clear (Untagged w.head w.payload) w.carries; queue = w.queue },
        ),
        (λ i. ends (record s { front = None; arrived = past_here i; early = early_here i })),
      )

      lands : Given table s (seen_of (table_judged table frame (verdict (work.standing table s) frame)) start (judged_step (verdict (work.standing table s) frame))) (after_judging s frame (verdict (work.standing table s) frame))
      lands = lands_by (verdict (work.standing table s) frame) refl (lands_as (work.standing table s) frame)

  -- none is whole at the in-order point, and one is judged before its turn
  module _ (frame : Frame) (unplaced : waiting s ≡ None) (no_next : next_frame s ≡ None) (is_early : early_frame s ≡ Some frame) (start : StartState) where
    abbrev at_place : ℕ
    at_place = first_place_in s.start + frame.start

    judged_early : (step : Seen Octets) → step ≡ seen_tried (first_place_in s.start) frame (early_verdict (work.standing table s) frame) → JudgedEarly table s step
    judged_early step e = record { runs = runs; frame = frame; unplaced = unplaced; no_next = no_next; none = none_first_here s k no_next; is_early = is_early; answer = e }

    with_this : (state : Frame → State (ArrayVec ℕ)) → added s.early (record_of frame (state frame)) ≡ early_with s state
    with_this state = ap (λ o. option_map_or (λ f. added s.early (record_of f (state f))) o s.early) (sym is_early)

    left_placed : record s { early = added s.early (record_of frame (states.Placed (placed frame).header)) } ≡ places s
    left_placed =
        let none : fore s ≡ None = none_first_here s k no_next in
        let front : s.front ≡ kept_of s = nothing_waits s (ap is_some unplaced) ∙ ap (option_map (λ x. placed (standing s x.0))) (sym none) in
        let early : added s.early (record_of frame (states.Placed (placed frame).header)) ≡ cond (is_some (fore s)) s.early (early_with s (λ f. states.Placed (placed f).header)) =
        with_this (λ f. states.Placed (placed f).header) ∙ ap (λ o. cond (is_some o) s.early (early_with s (λ f. states.Placed (placed f).header))) (sym none) in
        λ i. record s { front = front i; early = early i }

    tagged_early : (opcode : ℕ) (right : Right) (p : Placed) → (w : LandsTagged (work.standing table s) frame opcode right p)
        → ((right ≡ rights.Write) × (opcode ≡ 0)) ⊎ ((right ≡ rights.Sink) × (opcode ≡ 2))
        → seen.Placed right p.stag p.to (payload_of (frames.segment_in frame)) ≡ seen_tried (first_place_in s.start) frame (early_verdict (work.standing table s) frame)
        → Sees table s (seen.Placed right p.stag p.to (octets_at (put table p.stag p.to (payload_of (frames.segment_in frame))) p.stag p.to p.n))
    tagged_early opcode right p w kind e =
        let whole : octets_at (put table p.stag p.to (payload_of (frames.segment_in frame))) p.stag p.to p.n ≡ w.payload = stands (work.standing table s) frame opcode right p w in
        let stag : p.stag ≡ w.head.stag = ap (λ (q : Placed). q.stag) w.place in
        let to : p.to ≡ w.head.to = ap (λ (q : Placed). q.to) w.place in
        let sees : Sees table s (seen.Placed right p.stag p.to w.payload) = inr (
          judged_early (seen.Placed right p.stag p.to w.payload) (ap (seen.Placed right p.stag p.to) (sym (ap payload_of w.carries)) ∙ e),
          record {
            frame = frame;
            is_early = is_early;
            head = w.head;
            carries = w.carries;
            kind = elim kind [ inl z ↦ inl (z.0, w.is ∙ z.1) | inr z ↦ inr (z.0, w.is ∙ z.1) ];
            admitted = (λ i. denial_for table (peer_of s) (stag i) (to i) (length w.payload) right) ∙ w.admitted;
            stag_is = stag;
            to_is = to;
          },
        ) in
        subst (λ z. Sees table s (seen.Placed right p.stag p.to z)) (sym whole) sees

    payload_tried : payload_of (frames.segment_in frame) ≡ judged_payload s
    payload_tried =
        let none : fore s ≡ None = none_first_here s k no_next in
        λ i. option_map_or (λ f. payload_of (frames.segment_in f)) (option_or (option_map (λ (x : Carried × Octets). standing s x.0) (sym none i)) (sym is_early i)) []

    abbrev TriesIn : Option Landing → Type 0
    TriesIn o = Gives table s (seen_of (table_tried table frame o) start (tried_step at_place o)) (after_trying s frame o)

    tries_to : (o : Option Landing) (w : StreamState) → record s { early = added s.early (record_tried frame o); receiving = receiving_tried s.receiving frame o } ≡ w → HasLeft (after_trying s frame o) w
    tries_to o w e = subst (HasLeft (after_trying s frame o)) e (trying_has s frame o)

    in_place : (x : Landing) → HasPlace x → early_verdict (work.standing table s) frame ≡ Some x → LandsAs (work.standing table s) frame (Ok x) → TriesIn (Some x)
    in_place (landing.Write p) t e w = (tagged_early 0 rights.Write p w (inl (refl, refl)) (ap (seen_tried (first_place_in s.start) frame) (sym e)), tries_to (Some (landing.Write p)) _ left_placed)
    in_place (landing.Response p) t e w = (tagged_early 2 rights.Sink p w (inr (refl, refl)) (ap (seen_tried (first_place_in s.start) frame) (sym e)), tries_to (Some (landing.Response p)) _ left_placed)
    in_place (landing.Send msn mo len) t e w = (
      inr (
        judged_early (seen.Buffered msn mo len) (ap (seen_tried (first_place_in s.start) frame) (sym e)),
        record { frame = frame; is_early = is_early; head = w.head; payload = w.payload; carries = w.carries; queue = w.queue; checked = w.checked; msn_is = w.msn_is; mo_is = w.mo_is; len_is = w.len_is },
      ),
      tries_to (Some (landing.Send msn mo len)) _ (λ i. record (left_placed i) { receiving = written s.receiving msn mo (payload_tried i) }),
    )
    in_place (landing.Request request) t e w = absurd t
    in_place (landing.Terminate fault) t e w = absurd t

    tried : TriesIn (early_verdict (work.standing table s) frame)
    tried = go (early_verdict (work.standing table s) frame) refl
      where
        go : (o : Option Landing) → early_verdict (work.standing table s) frame ≡ o → TriesIn o
        go None e = (judged_early (seen.Tried at_place) (ap (seen_tried (first_place_in s.start) frame) (sym e)), tries_to None _ (λ i. record s { early = with_this (λ f. states.Tried) i }))
        go (Some x) e = let l = early_lands (work.standing table s) frame x e in in_place x l.1 e (subst (LandsAs (work.standing table s) frame) l.0 (lands_as (work.standing table s) frame))

  -- a frame that was placed has its turn
  module _ (frame : Carried) (rest : Octets) (whole : fore s ≡ Some (frame, rest)) (segment : Segment Octets) (carries : segment_in frame ≡ Some segment) (kept : waiting s ≡ Some (placed (standing s frame))) (start : StartState) where
    abbrev Turns_to : Result Turning Fault → Type 0
    Turns_to r = turn_of (work.standing table s) (placed (standing s frame)) ≡ r
        → Given table s (seen_of (table_passed table r) start (turned_step s.receiving (placed (standing s frame)) r)) (after_turn s (placed (standing s frame)) r)

    turned : (step : Seen Octets) → step ≡ seen_turned s.receiving (placed (standing s frame)) (turn_of (work.standing table s) (placed (standing s frame))) → Turned table s step
    turned step e = record { runs = runs; frame = frame; rest = rest; whole = whole; kept = kept; answer = e }

    fronted : Fronts s true segment
    fronted = record { running = runs.running; started = runs.started; placed = ap is_some kept; frame = frame; rest = rest; whole = whole; carries = carries; clear = λ h. absurd (true≢false h) }

    size : payload_len (placed (standing s frame)) ≡ length (payload_of (Some segment))
    size = payload_kept (standing s frame) segment carries

    at : segment_at (fore s) ≡ Some segment
    at = ap segment_at whole ∙ carries

    receiving_is : receiving_turned s.receiving (placed (standing s frame)) ≡ turned_by s.receiving (segment_at (fore s))
    receiving_is = turned_kept s.receiving (standing s frame) segment carries ∙ ap (turned_by s.receiving) (sym at)

    reads_are : reads_left s.reads (placed (standing s frame)) ≡ reads_front s
    reads_are = left_kept s.reads (standing s frame) segment carries ∙ ap (λ o. left_by_turn s.reads (length (payload_of o)) o) (sym at)

    arrived_is : advanced s.arrived (work.place_past s (placed (standing s frame))) ≡ past_front s
    arrived_is = ap (advanced s.arrived) (past_is s frame rest k whole)

    early_is : kept_from (frame_end (expecting s.start).markers (standing s frame).start (length frame.ulpdu)) s.early ≡ early_left s
    early_is = ap (λ n. kept_from n s.early) (omega (arith, past_is s frame rest k whole))

    -- the turn, by the segment
    abbrev Turned_as : Result Turning Fault → Type 0
    Turned_as (Ok turning.Passed) = IsPassing s segment × (finishes_read s.reads (Some segment) ≡ None)
    Turned_as (Ok (turning.Answered ticket)) =
        IsPassing s segment × (finishes_read s.reads (Some segment) ≡ Some ticket) × (s.receiving ≡ turned_by s.receiving (Some segment))
    Turned_as (Ok (turning.Completed solicited invalidate)) =
        (head : UntaggedHead) × (payload : Octets) × (segment ≡ Untagged head payload) × (turn_fault s.receiving head.msn head.mo ≡ None) × (head.last ≡ true)
        × (solicited ≡ is_solicited (untagged_operation (opcode_of head.control))) × (invalidate ≡ stag_to_invalidate head)
    Turned_as (Err fault) = Unit {0}

    as_tagged : (head : TaggedHead) (payload : Octets) → segment ≡ Tagged head payload → Turned_as (tagged_turn s.reads head (length payload))
    as_tagged head payload e = by (is_response head) refl
      where
        passes : (is_response head ≡ true → response_turn_fault s.reads head (length payload) ≡ None) → IsPassing s segment
        passes h = subst (IsPassing s) (sym e) h

        ends : (ticket : Option ℕ) → finishes_read s.reads (Some (Tagged head payload)) ≡ ticket → finishes_read s.reads (Some segment) ≡ ticket
        ends ticket h = ap (λ g. finishes_read s.reads (Some g)) e ∙ h

        same : s.receiving ≡ turned_by s.receiving (Some segment)
        same = ap (λ g. turned_by s.receiving (Some g)) (sym e)

        answered : is_response head ≡ true → (o : Option ℕ) → finished_read s.reads head ≡ o → response_turn_fault s.reads head (length payload) ≡ None → Turned_as (Ok (answering_by o))
        answered b None r h = (passes (λ x. h), ends None (ap (λ z. cond z (finished_read s.reads head) None) b ∙ r))
        answered b (Some ticket) r h = (passes (λ x. h), ends (Some ticket) (ap (λ z. cond z (finished_read s.reads head) None) b ∙ r), same)

        turns : is_response head ≡ true → (f : Option Fault) → response_turn_fault s.reads head (length payload) ≡ f → Turned_as (fault_or f (answering_by (finished_read s.reads head)))
        turns b (Some fault) h = tt
        turns b None h = answered b (finished_read s.reads head) refl h

        by : (b : Bool) → is_response head ≡ b → Turned_as (cond b (fault_or (response_turn_fault s.reads head (length payload)) (answering_by (finished_read s.reads head))) (Ok turning.Passed))
        by true b = turns b (response_turn_fault s.reads head (length payload)) refl
        by false b = (passes (λ x. absurd (false≢true (sym b ∙ x))), ends None (ap (λ z. cond z (finished_read s.reads head) None) b))

    as_of : (g : Segment Octets) → segment ≡ g → Turned_as (segment_turn table (peer_of s) s.receiving s.reads (length (payload_of (Some g))) (Some g))
    as_of (Tagged head payload) e = as_tagged head payload e
    as_of (Untagged head payload) e = go (turn_fault s.receiving head.msn head.mo) refl (invalidation_fault table (peer_of s) (send_turning head)) head.last refl
      where
        go : (f : Option Fault) → turn_fault s.receiving head.msn head.mo ≡ f → (g : Option Fault) → (last : Bool) → head.last ≡ last
            → Turned_as (fault_or (or_else f g) (cond last (turning.Completed (is_solicited (untagged_operation (opcode_of head.control))) (stag_to_invalidate head)) turning.Passed))
        go (Some fault) t g last l = tt
        go None t (Some fault) last l = tt
        go None t None true l = (head, payload, e, t, l, refl, refl)
        go None t None false l = (subst (IsPassing s) (sym e) (t, l), ap (λ g. finishes_read s.reads (Some g)) e)

    as_turn : Turned_as (turn_of (work.standing table s) (placed (standing s frame)))
    as_turn = subst Turned_as (sym (turn_kept (work.standing table s) (standing s frame) segment carries)) (as_of segment refl)

    terminates_turned : (fault : Fault) → terminate_turned (placed (standing s frame)) fault ≡ fault_front s fault
    terminates_turned fault =
        λ i. option_map_or (λ (x : Carried × Octets). cond (is_some (sym kept i)) (terminate_turned (placed (standing s x.0)) fault) (terminate_judged s.asked (standing s x.0) fault)) (sym whole i) []

    passing : seen.Passed ≡ seen_turned s.receiving (placed (standing s frame)) (turn_of (work.standing table s) (placed (standing s frame))) → IsPassing s segment → Sees table s seen.Passed
    passing e h = (turned seen.Passed e, record { segment = segment; fronts = fronted; passing = h })

    turns_by : (r : Result Turning Fault) → Turns_to r
    turns_by (Err fault) e = (inr (inr (turned (seen.Fault fault) (ap (seen_turned s.receiving (placed (standing s frame))) (sym e)))), ap (ends_by s) (terminates_turned fault) ∙ sym (ap quits (faults_open s fault runs.started)))
    turns_by (Ok turning.Passed) e =
        let c = subst Turned_as e as_turn in
        let none : finishes_read s.reads (segment_at (fore s)) ≡ None = ap (finishes_read s.reads) at ∙ c.1 in (
          passing (ap (seen_turned s.receiving (placed (standing s frame))) (sym e)) c.0,
          (λ i. record s { front = None; receiving = receiving_is i; arrived = arrived_is i; early = early_is i; reads = reads_are i; queue = with_finished s.queue (sym none i) }),
        )
    turns_by (Ok (turning.Answered ticket)) e =
        let c = subst Turned_as e as_turn in
        let one : finishes_read s.reads (segment_at (fore s)) ≡ Some ticket = ap (finishes_read s.reads) at ∙ c.1 in (
          passing (ap (seen_turned s.receiving (placed (standing s frame))) (sym e)) c.0,
          (λ i. record s { front = None; receiving = (c.2 ∙ ap (turned_by s.receiving) (sym at)) i; arrived = arrived_is i; early = early_is i; reads = reads_are i; queue = with_finished s.queue (sym one i) }),
        )
    turns_by (Ok (turning.Completed solicited invalidate)) e =
        let c = subst Turned_as e as_turn in
        let long : payload_len (placed (standing s frame)) ≡ length c.1 = size ∙ ap (λ g. length (payload_of (Some g))) c.2 in (
          (
            turned (seen.Received (take (s.receiving.turned + payload_len (placed (standing s frame))) (oldest s.receiving)) solicited invalidate) (ap (seen_turned s.receiving (placed (standing s frame))) (sym e)),
            record {
              head = c.0;
              payload = c.1;
              fronts = subst (Fronts s true) c.2 fronted;
              turn = c.3;
              last = c.4;
              is = ap (λ n. take (s.receiving.turned + n) (oldest s.receiving)) long;
              solicited_is = c.5;
              invalidate_is = c.6;
            },
          ),
          (λ i. record s { front = None; receiving = finished s.receiving; arrived = arrived_is i; early = early_is i }),
        )

    turns : Given table s (seen_of (table_passed table (turn_of (work.standing table s) (placed (standing s frame)))) start (turned_step s.receiving (placed (standing s frame)) (turn_of (work.standing table s) (placed (standing s frame))))) (after_turn s (placed (standing s frame)) (turn_of (work.standing table s) (placed (standing s frame))))
    turns = turns_by (turn_of (work.standing table s) (placed (standing s frame))) refl

unheard_by : (start : StartState) → awaits_frame start ≡ true → (u : StartupState) × (start ≡ Unheard u)
unheard_by (AtOnce layout) e = absurd (false≢true e)
unheard_by (Unheard u) e = (u, refl)
unheard_by (Heard u) e = absurd (false≢true e)

-- a part of a response is due
abbrev IsResponse : StreamState → Due → Type 0
IsResponse s StartUp = Unit {0}
IsResponse s (LastWord payload) = Unit {0}
IsResponse s (Ready rtr) = Unit {0}
IsResponse s (Response part) = response_due s ≡ Some part
IsResponse s (NextPart part) = Unit {0}
IsResponse s NoneDue = Unit {0}

response_told : (s : StreamState) → IsResponse s (due s)
response_told s = go (owes_frame s) (is_mute s) (last_word s.ending) (rtr_due s) (response_due s) (part_due s) refl
  where
    go : (owes mute : Bool) (w : Option Octets) (r : Option Rtr) (o : Option ResponsePart) (p : Option (Part (Request Octets))) → response_due s ≡ o
        → IsResponse s (cond owes StartUp (option_map_or LastWord w (cond mute NoneDue (option_map_or Ready r (option_map_or Response o (option_map_or NextPart p NoneDue))))))
    go true mute w r o p e = tt
    go false mute (Some payload) r o p e = tt
    go false true None r o p e = tt
    go false false None (Some rtr) o p e = tt
    go false false None None (Some part) p e = e
    go false false None None None None e = tt
    go false false None None None (Some part) e = tt

-- whatever the task is
module _ (table : Table) (s : StreamState) (k : Sound s) where
  abbrev Shows : Step Octets → StreamState → Table → Type 0
  Shows step left after = Gives table s (seen_of after left.start step) left

  abbrev Given_by : Step Octets → StreamState → Table → Type 0
  Given_by step left after = Given table s (seen_of after left.start step) left

  hearing : done_in s.queue ≡ None → ended s ≡ false → awaits_frame s.start ≡ true → Given_by (heard_step s.start (inbox s) (progress_in s.start (inbox s))) (after_hearing s (progress_in s.start (inbox s))) table
  hearing none running awaits = go (progress_in s.start (inbox s)) refl
    where
      hears_to : (p : Progress) → progress_in s.start (inbox s) ≡ p → Hears s p
      hears_to p e = let u = unheard_by s.start awaits in record { running = running; startup = u.0; is = u.1; comes = e }

      opens : (m : Option Mismatch) → mismatch_in (heard s.start (inbox s)) ≡ m → progress_in s.start (inbox s) ≡ progress.Agreed → Given_by (opened_step (heard s.start (inbox s)) m) (after_opening (hears s) m) table
      opens None fits e = ((record { hears_it = hears_to progress.Agreed e; fits = fits; agreed_is = refl }, refl, refl), refl)
      opens (Some mismatch) is e =
          (inl (record { hears_it = hears_to progress.Agreed e; mismatch = mismatch; is = is; fault_is = refl }), sym (ap quits (faults_unheard s (negotiation_fault mismatch) awaits)))

      go : (p : Progress) → progress_in s.start (inbox s) ≡ p → Given_by (heard_step s.start (inbox s) p) (after_hearing s p) table
      go progress.More e = ((none, inl (hears_to progress.More e)), refl)
      go progress.Asked e = ((hears_to progress.Asked e, refl, refl), refl)
      go progress.Agreed e = opens (mismatch_in (heard s.start (inbox s))) refl e
      go (progress.Faulted fault) e = (hears_to (progress.Faulted fault) e, refl)

  gives : (t : Task) → Given_by (step_of table s t) (left_by table s t) (table_left table s t) → Shows (step_of table s t) (left_by table s t) (table_left table s t)
  gives t g = (g.0, equal_has g.1)

  given : Shows (work_step table s) (worked table s) (table_worked table s)
  given = by_task Shows table s
      (λ done e. ((done, e, refl), equal_has (λ i. record s { queue = handed_from s.queue (sym e i) })))
      (λ done none over e. (record { over = over; unfinished = none; oldest = done; is = e; kind_is = refl }, equal_has (λ i. record s { queue = handed_from s.queue (sym e i) })))
      (λ buffer none over old e. (record { over = over; unfinished = none; none = old; is = e }, equal_has refl))
      (λ none running awaits. gives Hear (hearing none running awaits))
      (λ f runs e.
      let w = k.placed_is f e in
      subst (λ z. Shows (step_of table s (Turn z)) (left_by table s (Turn z)) (table_left table s (Turn z))) (sym w.is)
      (gives (Turn (placed (standing s w.frame))) (turns table s k runs w.frame w.rest w.whole w.segment w.carries (e ∙ ap Some w.is) (left_by table s (Turn (placed (standing s w.frame)))).start)))
      (λ frame runs unplaced e over. gives (Clash frame) (clashing table s k runs frame e unplaced (left_by table s (Clash frame)).start over))
      (λ frame runs unplaced e clear. gives (Judge frame) (lands table s k runs frame e unplaced (left_by table s (Judge frame)).start clear))
      (λ frame runs unplaced no_next e. tried table s k runs frame unplaced no_next e (left_by table s (Try frame)).start)
      (λ none resting. ((none, inr resting), equal_has refl))

  pub sees : (step : Seen Octets) → step ≡ seen_of (table_worked table s) (worked table s).start (work_step table s) → Gives table s step (worked table s)
  sees step e = subst (λ z. Gives table s z (worked table s)) (sym e) given

-- the rule at a stream, with steps told apart
abbrev pub Told : Table → StreamState → StreamAct Octets → Type 0
Told table s (Work step) = Sees table s step
Told table s (Recv len refused) = StreamRule table s (Recv len refused)
Told table s (Post message refused) = StreamRule table s (Post message refused)
Told table s (Emit shown) = StreamRule table s (Emit shown)
Told table s (Deliver from number octets delivery) = StreamRule table s (Deliver from number octets delivery)
Told table s (Raw number octets delivery) = StreamRule table s (Raw number octets delivery)
Told table s (Accept private answer) = StreamRule table s (Accept private answer)
Told table s (Reject private refused) = StreamRule table s (Reject private refused)
Told table s (First number refused) = StreamRule table s (First number refused)
Told table s (Mulpdu size refused) = StreamRule table s (Mulpdu size refused)
Told table s Break = Unit {0}

pub told : (table : Table) (s : StreamState) (act : StreamAct Octets) → Sound s → StreamRule table s act → Told table s act
told table s (Work step) k rule = (sees table s k step rule).0
told table s (Recv len refused) k rule = rule
told table s (Post message refused) k rule = rule
told table s (Emit shown) k rule = rule
told table s (Deliver from number octets delivery) k rule = rule
told table s (Raw number octets delivery) k rule = rule
told table s (Accept private answer) k rule = rule
told table s (Reject private refused) k rule = rule
told table s (First number refused) k rule = rule
told table s (Mulpdu most refused) k rule = rule
told table s Break k rule = rule

-- what a call to emit leaves, by what it showed
left_shown : (table : Table) (s : StreamState) (shown : Shown Octets) → shown ≡ shown_of table (emission_of table s) (emitted table s) → after_emit table s ≡ shown_left s shown
left_shown table s shown e = go (due s) refl (response_told s) shown e
  where
    fetched : (part : ResponsePart) → response_due s ≡ Some part → (r : Result Octets Fault) → (shown : Shown Octets) → shown ≡ shown_of table (emission_fetched s part r) (octets_fetched r) → left_fetched s part r ≡ shown_left s shown
    fetched part due (Ok frame) shown e =
        (λ i. record s { asked = part_fetched s.asked (sym due i); sent = s.sent + length frame }) ∙ ap (shown_left s) (sym e)
    fetched part due (Err fault) shown e = ap (shown_left s) (sym e)

    go : (d : Due) → due s ≡ d → IsResponse s d → (shown : Shown Octets) → shown ≡ shown_of table (emission_due table s d) (octets_due table s d) → left_due table s d ≡ shown_left s shown
    go StartUp is t shown e = ap (left_frame s) (sym is) ∙ ap (shown_left s) (sym e)
    go (LastWord payload) is t shown e = ap (left_frame s) (sym is) ∙ ap (shown_left s) (sym e)
    go (Response part) is t shown e = fetched part t (frame_fetched table s part) shown e
    go (NextPart part) is t shown e = ap (left_frame s) (sym is) ∙ ap (shown_left s) (sym e)
    go (Ready rtr) is t shown e = ap (left_frame s) (sym is) ∙ ap (shown_left s) (sym e)
    go NoneDue is t shown e = ap (shown_left s) (sym e)

pub left_told : (table : Table) (s : StreamState) (act : StreamAct Octets) → Sound s → StreamRule table s act → HasLeft (stream_after table s act) (act_left s act)
left_told table s (Work step) k rule = (sees table s k step rule).1
left_told table s (Recv len None) k rule = equal_has refl
left_told table s (Recv len (Some refusal)) k rule = equal_has refl
left_told table s (Post message None) k rule = equal_has refl
left_told table s (Post message (Some refusal)) k rule = equal_has refl
left_told table s (Emit shown) k rule = equal_has (left_shown table s shown rule)
left_told table s (Deliver from number octets delivery) k rule = equal_has refl
left_told table s (Raw number octets delivery) k rule = equal_has refl
left_told table s (Accept private (Ok agreed)) k rule = equal_has refl
left_told table s (Accept private (Err refusal)) k rule = equal_has refl
left_told table s (Reject private None) k rule = equal_has refl
left_told table s (Reject private (Some refusal)) k rule = equal_has refl
left_told table s (First number None) k rule = equal_has refl
left_told table s (Mulpdu most None) k rule = equal_has refl
left_told table s (First number (Some refusal)) k rule = equal_has refl
left_told table s (Mulpdu most (Some refusal)) k rule = equal_has refl
left_told table s Break k rule = equal_has refl
