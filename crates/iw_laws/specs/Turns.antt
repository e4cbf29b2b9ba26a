-- What became of each frame that came, in words of the trace alone.
use Rattle.std.specs.Prelude.{◌≡◌, ◌⊎◌, ℕ, zero, suc, ◌+◌, ◌-◌, ◌%◌, ◌^◌, ◌==◌, ◌&&◌, nat_lt, nat_le, not, unwrap_or, if◌then◌else◌, List, [], ◌∷◌, ◌++◌, length, take, drop, replicate, slice_get, fold, Bool, true, false, ◌||◌, is_some, Option, Some, None, Result, Ok, Err}
use Rattle.std.specs.Option.{option_map, option_map_or, option_or}
use Rattle.arrayvec.specs.ArrayVec.{ArrayVec}
use Rattle.iw_octets.specs.declared.fault.Fault.{Fault}
use Rattle.iw_octets.specs.declared.operation.TaggedOperation.TheVariants.{ReadResponse}
use Rattle.iw_octets.specs.declared.operation.UntaggedOperation.TheVariants.{ReadRequest as AsksRead}
use Rattle.iw_octets.specs.declared.payload.ReadRequest.{ReadRequest}
use Rattle.iw_octets.specs.declared.segment.Segment.{Segment}
use Rattle.iw_octets.specs.declared.segment.Segment.TheVariants.{Tagged, Untagged}
use Rattle.iw_octets.specs.Operation.{opcode_of, tagged_opcode, queue_of}
use Rattle.iw_octets.specs.Payload.{request_fields, read_request}
use Rattle.iw_octets.specs.Segment.{read_segment}
use Rattle.iw_memory.specs.declared.rights.Right.TheVariants as rights
use Rattle.iw_reads.specs.declared.reads.Outstanding.{Outstanding}
use Rattle.iw_reads.specs.declared.requests.Asked.{Asked}
use Rattle.iw_reads.specs.Outstanding.{asked_for}
use Rattle.iw_reads.specs.Requests.{Requested, nothing_asked, taken_up}
use Rattle.iw_ranges.specs.Arrived.{Arrived, nothing, in_order, advanced}
use Rattle.iw_ranges.specs.Nearest.{place_near, before_start}
use Rattle.iw_fpdu.specs.declared.layout.Layout.{Layout}
use Rattle.iw_fpdu.specs.Frame.{frame_end}
use Rattle.iw_fpdu.specs.Laws.{found_at}
use Rattle.iw_fpdu.specs.Places.{frame_start}
use Rattle.iw_fpdu.specs.Sequence.{Carried, first_frame}
use Rattle.iw_locate.specs.declared.judged.State.{State}
use Rattle.iw_locate.specs.declared.judged.State.TheVariants as states
use Rattle.iw_locate.specs.Free.{Scene, scene_of, front_of}
use Rattle.iw_locate.specs.Lowest.{overlaps_placed, early_place}
use Rattle.iw_locate.specs.Records.{added, kept_from}
use Rattle.iw_untagged.specs.Receiving.{Receiving, nothing_received, sharing, seeing, exchanged, with_buffer, written, finished, flushed, oldest}
use Rattle.iw_startup.specs.declared.config.Agreed.{Agreed}
use Rattle.iw_startup.specs.declared.enhanced.EnhancedData.{EnhancedData}
use Rattle.iw_startup.specs.declared.enhanced.Mismatch.{Mismatch}
use Rattle.iw_startup.specs.declared.progress.Progress.{Progress}
use Rattle.iw_startup.specs.declared.progress.Progress.TheVariants as progress
use Rattle.iw_stream.specs.declared.landing.Landing.{Landing}
use Rattle.iw_stream.specs.declared.landing.Landing.TheVariants as landing
use Rattle.iw_stream.specs.declared.landing.PlacedFrame.{PlacedFrame}
use Rattle.iw_stream.specs.declared.landing.Turning.{Turning}
use Rattle.iw_stream.specs.declared.landing.Turning.TheVariants as turning
use Rattle.iw_stream.specs.Frames.{Frame, EarlyRecord, frame_by, standing_at, segment_in, payload_of, placed, payload_len, placed_at, record_of}
use Rattle.iw_stream.specs.declared.ending.Ending.{Ending}
use Rattle.iw_stream.specs.declared.ending.Ending.TheVariants.{Runs, Over, Broken}
use Rattle.iw_stream.specs.Ending.{last_word, with_last_word}
use Rattle.iw_stream.specs.Judging.{Standing, verdict, early_verdict, turn_of, receiving_turned, reads_left}
use Rattle.iw_stream.specs.Terminating.{terminate_alone, terminate_judged, terminate_turned, terminate_fetched}
use Rattle.iw_stream.specs.Starting.{StartState, start_at_first, is_open, sending, expecting, first_place_in, first_place_out, is_responder, awaits_frame, progress_in, heard, private_in, told_in, agreement_in, mismatch_in, negotiation_fault, answered_with, rtr_in}
use Rattle.iw_stream.specs.Work.{clash_fault}
use Rattle.iw_events.specs.declared.act.Act.{Act}
use Rattle.iw_events.specs.declared.act.Act.TheVariants.{Domain, Register, Deregister, Invalidate, Store, Open, Share, Pool, Unpool, OpenShared, Stream}
use Rattle.iw_events.specs.declared.act.StreamAct.{StreamAct}
use Rattle.iw_events.specs.declared.act.Shown.{Shown}
use Rattle.iw_events.specs.declared.act.Shown.TheVariants as shows
use Rattle.iw_events.specs.declared.act.Seen.{Seen}
use Rattle.iw_events.specs.declared.act.Seen.TheVariants as seen
use Rattle.iw_events.specs.declared.act.Entry.{Entry}
use Rattle.iw_laws.specs.Words.{Octets, deed, stream_acts, Opening, opening_of, domain_of, ended, Coming, taken, table_after, peer_at}
use Rattle.iw_laws.specs.Words.{OnSome, OnStream, AtEach}

-- ---- frames, each with its places

-- a frame at its place, and the place past it
pub record Located : Type 0 where
  pub frame : Frame
  pub beyond : ℕ

-- the first frame of octets that stand at place `at`, where these are past it
abbrev pub located : Layout → ℕ → List ℕ → Carried → List ℕ → Located
located layout at octets frame rest =
    record { frame = standing_at (frame_start layout.markers at) frame; beyond = at + (length octets - length rest) }

-- at most n frames that are whole, one after another
unfoldable pub located_within : ℕ → Layout → ℕ → List ℕ → List Located
located_within zero layout at octets = []
located_within (suc n) layout at octets =
    option_map_or
    (λ first. located layout at octets first.0 first.1 ∷ located_within n layout (at + (length octets - length first.1)) first.1)
    (first_frame layout at octets) []

-- all of them
abbrev pub located_of : Layout → ℕ → List ℕ → List Located
located_of layout at octets = located_within (length octets) layout at octets

-- the place past the last of these frames; without one, the place before them
abbrev pub past_last : ℕ → List Located → ℕ
past_last at [] = at
past_last at (frame ∷ frames) = past_last frame.beyond frames

-- ---- what the acts of a stream say of the frames that came

-- a request of the peer, and the octets that were fetched for it
pub record Answer : Type 0 where
  pub request : ReadRequest
  pub octets : Octets

pub record Story : Type 0 where
  pub came : Arrived  -- the octets that came, each at its place
  pub first : ℕ  -- the number of the peer's first octet
  pub was_delivered : Bool  -- octets were delivered, kept or dropped
  pub strays : Bool  -- octets came that need not be those that the other end sent at their place
  pub start : StartState  -- what the start-up has come to: what both ends asked for and answered, as far as it was read
  pub turns : ℕ  -- how many frames had their turn
  pub placed : Bool  -- the frame whose turn is next was placed, when those before it had had theirs
  pub early : List EarlyRecord  -- the frames that were judged before their turn, from the in-order point on, lowest first
  pub receiving : Receiving  -- the receive buffers, with what was placed in them, and the pool that they come from, where they do
  pub whole : ℕ  -- how many of the messages that were posted went out to their last frame
  pub reads : List Outstanding  -- the Reads whose requests went out, and the last frames of whose responses had no turn
  pub answered : ℕ  -- how many Reads went before them
  pub asked : Requested  -- the peer's requests, of which those wait that were not answered to their end
  pub answers : List Answer  -- the responses that were fetched to their end
  pub begun : Octets  -- the octets that were fetched for the oldest request that waits
  pub ending : Ending  -- whether the stream has ended, and the payload of the Terminate that is due then
  pub farewell : Option Octets  -- the payload of the Terminate that went out

-- a responder at which no frame had its turn
abbrev pub is_silent : Story → Bool
is_silent t = is_responder t.start && (t.turns == 0)

-- the frames that lie whole in the octets that came without a gap past the start-up frame, one after the other
abbrev pub frames_in : Story → List Located
frames_in t = located_of (expecting t.start) 0 (drop (first_place_in t.start) (in_order t.came))

-- the frame whose turn is next, where it is whole
abbrev pub next_frame : Story → Option Frame
next_frame t = option_map (λ f. f.frame) (slice_get (frames_in t) t.turns)

-- the in-order point: the place in the stream past the start-up frame and the frames that had their turn
abbrev pub in_order_point : Story → ℕ
in_order_point t = first_place_in t.start + past_last 0 (take t.turns (frames_in t))

-- what came past that point, and the frames of it that were judged before their turn
abbrev pub scene : Story → Scene (ArrayVec ℕ)
scene t = scene_of (expecting t.start) (first_place_in t.start) (advanced t.came (in_order_point t)) t.early

-- the frame that can be judged before its turn: that at the lowest free place
abbrev pub early_frame : Story → Option Frame
early_frame t = option_map (λ place. frame_by (found_at (scene t).arrived (scene t).layout (scene t).base place)) (early_place (scene t))

-- the frame whose turn is next was placed, then or before
abbrev pub was_placed : Story → Bool
was_placed t = t.placed || is_some (placed_at t.early (front_of (scene t)))

-- what its turn leaves of the message that is due
abbrev pub next_turned : Story → Receiving
next_turned t = option_map_or (λ f. receiving_turned t.receiving (placed f)) (next_frame t) t.receiving

-- what it leaves of the Reads that are outstanding
abbrev pub next_reads : Story → List Outstanding
next_reads t = option_map_or (λ f. reads_left t.reads (placed f)) (next_frame t) t.reads

-- the Read Request that it carries
abbrev pub asked_in : Frame → Asked
asked_in frame = record { header = (placed frame).header; request = request_fields (payload_of (segment_in frame)) }

abbrev pub next_asked : Story → Requested
next_asked t = option_map_or (λ f. taken_up t.asked (asked_in f)) (next_frame t) t.asked

-- the frame that is judged next, the one whose turn is next before all others, and the octets that it carries
abbrev pub judged_frame : Story → Option Frame
judged_frame t = option_or (next_frame t) (early_frame t)

abbrev pub judged_payload : Story → Octets
judged_payload t = option_map_or (λ f. payload_of (segment_in f)) (judged_frame t) []

-- a frame is judged before its turn, and this is what becomes of it
abbrev pub early_with : Story → (Frame → State (ArrayVec ℕ)) → List EarlyRecord
early_with t state = option_map_or (λ f. added t.early (record_of f (state f))) (early_frame t) t.early

-- the frame that is judged next is placed
abbrev pub places : Story → Story
places t = record t {
  placed = is_some (next_frame t);
  early = if is_some (next_frame t) then t.early else early_with t (λ f. states.Placed (placed f).header);
}

-- the frame whose turn is next has had it
abbrev pub moves_on : Story → Story
moves_on t = record t {
  turns = t.turns + 1;
  placed = false;
  early = kept_from (past_last 0 (take (t.turns + 1) (frames_in t))) t.early;
}

-- the peer's start-up frame is read off the octets that came
abbrev pub hears : Story → Story
hears t = record t { start = heard t.start (in_order t.came) }

-- ---- the end

-- the stream has ended, and no Terminate is due
abbrev pub ends : Story → Story
ends t = record t { ending = Over None }

-- it has ended by a fault, and a Terminate with this payload is due, but of a responder at which no frame had its turn
abbrev pub ends_by : Story → Octets → Story
ends_by t payload = record t { ending = if is_silent t then Over None else with_last_word payload }

-- the Terminate for a fault of the frame whose turn is next: of what is kept of it, where it was placed before
abbrev pub terminate_next : Story → Fault → Octets
terminate_next t fault =
    option_map_or (λ f. if was_placed t then terminate_turned (placed f) fault else terminate_judged t.asked f fault) (next_frame t) []

-- and for any fault: of no frame, where the peer's start-up frame has it
abbrev pub terminate_for : Story → Fault → Octets
terminate_for t fault = if awaits_frame t.start then terminate_alone fault else terminate_next t fault

abbrev pub story_seen : Story → Seen Octets → Story
story_seen t (seen.Asked told private) = hears t
story_seen t (seen.Opened agreed told private) = hears t
story_seen t (seen.Closed fault) = ends (hears t)
story_seen t (seen.Placed right stag to octets) = places t
story_seen t (seen.Buffered msn mo len) = record (places t) { receiving = written t.receiving msn mo (judged_payload t) }
story_seen t (seen.Tried place) = record t { early = early_with t (λ f. states.Tried) }
story_seen t (seen.Requested size stag to) = record (moves_on t) { asked = next_asked t }
story_seen t seen.Passed = record (moves_on t) {
  receiving = next_turned t;
  reads = next_reads t;
  answered = t.answered + (length t.reads - length (next_reads t));
}
story_seen t (seen.Received octets solicited invalidate) = record (moves_on t) { receiving = finished t.receiving }
story_seen t (seen.Terminated fault) = ends (moves_on t)
story_seen t (seen.Fault fault) = ends_by (hears t) (terminate_for t fault)
story_seen t (seen.Flushed kind) = t
story_seen t (seen.FlushedRecv octets) = record t { receiving = flushed t.receiving }
story_seen t (seen.Done kind) = t
story_seen t seen.Idle = t

-- ---- and of those that go out

abbrev pub is_last : Segment Octets → Bool
is_last (Tagged head payload) = head.last
is_last (Untagged head payload) = head.last

-- it has octets of the response to a Read
abbrev pub carries_response : Segment Octets → Bool
carries_response (Tagged head payload) = opcode_of head.control == tagged_opcode ReadResponse
carries_response (Untagged head payload) = false

-- the segment of a frame that goes out from a place on; none of the start-up frame
abbrev pub segment_out : Story → ℕ → Octets → Option (Segment Octets)
segment_out t from octets =
    if nat_lt from (first_place_out t.start) then None
    else option_map_or (λ first. read_segment first.0.ulpdu) (first_frame (sending t.start) (from - first_place_out t.start) octets) None

-- the Read that it asks for
abbrev pub read_out : Segment Octets → Option ReadRequest
read_out (Tagged head payload) = None
read_out (Untagged head payload) =
    if head.queue == queue_of AsksRead then option_map (λ read. read.0) (read_request payload) else None

-- the k-th message that is posted has the ticket k, modulo 2^64, of which the first is 0
abbrev pub sends_segment : Story → Segment Octets → Story
sends_segment t segment = record t {
  whole = if is_last segment then t.whole + 1 else t.whole;
  reads = option_map_or (asked_for t.reads (Some (t.whole % 2 ^ 64))) (read_out segment) t.reads;
}

-- octets are fetched for the oldest request that waits
abbrev pub fetches_for : Story → List Asked → Octets → Story
fetches_for t [] octets = t
fetches_for t (oldest ∷ others) octets =
    if length t.begun + length octets == oldest.request.size then record t {
      asked = record t.asked { unanswered = others; fetched = 0 };
      answers = t.answers ++ record { request = oldest.request; octets = t.begun ++ octets } ∷ [];
      begun = [];
    }
    else record t {
      asked = record t.asked { fetched = length t.begun + length octets };
      begun = t.begun ++ octets;
    }

-- the Terminate that was due goes out
abbrev pub says_farewell : Story → Octets → Story
says_farewell t payload = record t { ending = Over None; farewell = Some payload }

-- the RTR, if one is agreed on, is the first frame past the start-up frame
abbrev pub is_rtr : Story → ℕ → Bool
is_rtr t from = is_some (rtr_in t.start) && (from == first_place_out t.start)

-- it is no message that was posted; a Read is outstanding
abbrev pub sends_rtr : Story → Segment Octets → Story
sends_rtr t segment = record t { reads = option_map_or (asked_for t.reads None) (read_out segment) t.reads }

abbrev pub sends_frame : Story → Bool → Segment Octets → Story
sends_frame t ready segment = if ready then sends_rtr t segment else sends_segment t segment

-- the start-up frame goes first, and the Terminate past all others
abbrev pub frame_shown : Story → ℕ → Octets → Story
frame_shown t from octets =
    if nat_lt from (first_place_out t.start) then t
    else option_map_or (says_farewell t) (last_word t.ending) (option_map_or (sends_frame t (is_rtr t from)) (segment_out t from octets) t)

abbrev pub story_shown : Story → Shown Octets → Story
story_shown t (shows.Frame from octets) = frame_shown t from octets
story_shown t (shows.Fetched from frame stag to octets) = fetches_for t t.asked.unanswered octets
story_shown t (shows.Fault fault) = ends_by t (terminate_fetched t.asked fault)
story_shown t shows.Nothing = t

-- octets of the stream from this place on
pub record Landed : Type 0 where
  pub place : ℕ
  pub octets : Octets

-- where octets land that come: by the number of the first of them, at the place nearest to the in-order point as it then stands; those that
-- lie before the stream are left out
abbrev pub landed : Story → Coming → Landed
landed t c = record {
  place = place_near c.number t.first (in_order_point t);
  octets = drop (before_start c.number t.first (in_order_point t)) c.octets;
}

-- the octets that came, each at its place in the stream: the first copy of each stays
abbrev pub came_after : Story → StreamAct Octets → Arrived
came_after t act = option_map_or (λ c. taken t.came (landed t c).place (landed t c).octets c.delivery) (deed act).coming t.came

-- a place from which octets come lies within 2^30 of the in-order point, on either side
abbrev pub is_near : ℕ → ℕ → Bool
is_near point from = nat_le from (point + 2 ^ 30) && nat_le point (from + 2 ^ 30)

-- octets stray that the other end need not have sent, and those that come from further away
abbrev pub is_stray : Story → Coming → Bool
is_stray t c = option_map_or (λ from. not (is_near (in_order_point t) from)) c.from true

-- the calls
abbrev pub story_called : Story → StreamAct Octets → Story
story_called t act = record t {
  came = came_after t act;
  first = unwrap_or (deed act).first t.first;
  was_delivered = option_map_or (λ c. true) (deed act).coming t.was_delivered;
  strays = option_map_or (λ c. is_stray t c || t.strays) (deed act).coming t.strays;
  start = option_map_or (answered_with t.start) (deed act).reply t.start;
  receiving = option_map_or (λ len. with_buffer t.receiving (replicate len 0)) (deed act).buffer t.receiving;
  ending = if (deed act).breaks then Broken else if (deed act).ends then Over None else t.ending;
}

abbrev pub story_after : Story → StreamAct Octets → Story
story_after t act = option_map_or (story_seen t) (deed act).step (option_map_or (story_shown t) (deed act).shown (story_called t act))

-- nothing was received, and no buffer is posted, or bound
abbrev pub first_queue : Bool → Receiving
first_queue shared = record nothing_received { source = if shared then sharing.source else nothing_received.source }

-- of a stream that was opened so
abbrev pub untold : Opening → Story
untold o = record {
  came = nothing;
  first = 0;
  was_delivered = false;
  strays = false;
  start = start_at_first o.role o.config;
  turns = 0;
  placed = false;
  early = [];
  receiving = first_queue o.shared;
  whole = 0;
  reads = [];
  answered = 0;
  asked = nothing_asked;
  answers = [];
  begun = [];
  ending = Runs;
  farewell = None;
}

unfoldable pub story : Opening → List (StreamAct Octets) → Story
story o done = fold story_after (untold o) done

-- ---- receive buffers that come from a pool

-- by the acts of the stream alone, which do not tell of the pool
abbrev pub story_alone : ℕ → List (Act Octets) → Story
story_alone n before = story (opening_of n before) (stream_acts n before)

-- a pool, if there is one, is lent to a queue
abbrev pub lent_in : Option (List Octets) → Receiving → Receiving
lent_in pool r = record r { source = option_map_or (seeing r.source) pool r.source }

-- what the acts of an end say of the pools of its domains, and of the queues of the streams that share them
pub record Pooling : Type 0 where
  pub done : List (Act Octets)
  pub pools : ℕ → Option (List Octets)  -- by domain: the buffers posted to it and neither taken nor bound to a message, oldest first
  pub queues : ℕ → Receiving  -- by stream: the buffers bound to its messages, with what was placed in them; no pool is lent to it

-- no domain has a pool
abbrev pub nothing_pooled : Pooling
nothing_pooled = record { done = []; pools = λ d. None; queues = λ n. sharing }

-- the same, but that there is this at one number
abbrev pub put_at : {A : Type 0} → (ℕ → A) → ℕ → A → ℕ → A
put_at f n x m = if n == m then x else f m

-- a queue, and the pool that was lent to it, once that is taken back for what the queue held before
abbrev pub taken_back : Option (List Octets) → Receiving → Receiving → Receiving
taken_back pool before after =
    record after { source = option_map_or (λ p. seeing after.source (exchanged before.source p)) pool after.source }

abbrev pub pool_back : Option (List Octets) → Receiving → Receiving → Option (List Octets)
pool_back pool before after = option_map (λ p. exchanged after.source (exchanged before.source p)) pool

-- a step of a stream: the pool of its domain is lent to its queue
abbrev pub queue_seen : Pooling → ℕ → Seen Octets → Receiving
queue_seen p n step = (story_seen (record (story_alone n p.done) { receiving = lent_in (p.pools (domain_of n p.done)) (p.queues n) }) step).receiving

abbrev pub pooling_seen : Pooling → ℕ → Seen Octets → Pooling
pooling_seen p n step = record p {
  pools = put_at p.pools (domain_of n p.done) (pool_back (p.pools (domain_of n p.done)) (p.queues n) (queue_seen p n step));
  queues = put_at p.queues n (taken_back (p.pools (domain_of n p.done)) (p.queues n) (queue_seen p n step));
}

abbrev pub pooling_by : Pooling → Act Octets → Pooling
pooling_by p (Share pd None) = record p { pools = put_at p.pools pd (Some []) }
pooling_by p (Share pd (Some refusal)) = p
pooling_by p (Pool pd len None) = record p { pools = put_at p.pools pd (option_map (λ pool. pool ++ replicate len 0 ∷ []) (p.pools pd)) }
pooling_by p (Pool pd len (Some refusal)) = p
pooling_by p (Unpool pd (Ok buffer)) = record p { pools = put_at p.pools pd (option_map (drop 1) (p.pools pd)) }
pooling_by p (Unpool pd (Err refusal)) = p
pooling_by p (Stream n act) = if (opening_of n p.done).shared then option_map_or (pooling_seen p n) (deed act).step p else p
pooling_by p (Domain pd refused) = p
pooling_by p (Register pd base rights octets answer) = p
pooling_by p (Deregister stag answer) = p
pooling_by p (Invalidate stag refused) = p
pooling_by p (Store stag to octets refused) = p
pooling_by p (Open n pd role options private refused) = p
pooling_by p (OpenShared n pd role options private refused) = p

abbrev pub pooling_after : Pooling → Act Octets → Pooling
pooling_after p act = record (pooling_by p act) { done = p.done ++ act ∷ [] }

unfoldable pub pooling : List (Act Octets) → Pooling
pooling done = fold pooling_after nothing_pooled done

-- the pool of a domain, if it has one
abbrev pub pool_by : ℕ → List (Act Octets) → Option (List Octets)
pool_by d before = (pooling before).pools d

-- the queue of a stream: where it shares a pool, with that lent to it
abbrev pub receiving_of : ℕ → List (Act Octets) → Receiving
receiving_of n before =
    if (opening_of n before).shared then lent_in (pool_by (domain_of n before) before) ((pooling before).queues n) else (story_alone n before).receiving

-- ---- how a frame is answered

-- what is seen of a frame that is judged: its placement, or the first check that fails
abbrev pub seen_judged : Frame → Result Landing Fault → Seen Octets
seen_judged frame (Ok (landing.Write at)) = seen.Placed rights.Write at.stag at.to (payload_of (segment_in frame))
seen_judged frame (Ok (landing.Response at)) = seen.Placed rights.Sink at.stag at.to (payload_of (segment_in frame))
seen_judged frame (Ok (landing.Send msn mo len)) = seen.Buffered msn mo len
seen_judged frame (Ok (landing.Request request)) = seen.Requested request.size request.source request.source_to
seen_judged frame (Ok (landing.Terminate fault)) = seen.Terminated fault
seen_judged frame (Err fault) = seen.Fault fault

-- and of its turn, by the checks of a turn alone
abbrev pub seen_turned : Receiving → PlacedFrame → Result Turning Fault → Seen Octets
seen_turned r frame (Ok turning.Passed) = seen.Passed
seen_turned r frame (Ok (turning.Completed solicited invalidate)) =
    seen.Received (take (r.turned + payload_len frame) (oldest r)) solicited invalidate
seen_turned r frame (Ok (turning.Answered ticket)) = seen.Passed
seen_turned r frame (Err fault) = seen.Fault fault

-- and of a frame that is judged before its turn: its placement, or that it is left, with its place in the stream
abbrev pub seen_tried : ℕ → Frame → Option Landing → Seen Octets
seen_tried base frame (Some at) = seen_judged frame (Ok at)
seen_tried base frame None = seen.Tried (base + frame.start)

-- a frame is judged when its turn is next: first whether it lies over one that was placed before its turn
abbrev pub front_verdict : List EarlyRecord → Layout → Standing → Frame → Result Landing Fault
front_verdict early layout s frame =
    if overlaps_placed early frame.start (frame_end layout.markers frame.start (length frame.ulpdu)) then Err clash_fault else verdict s frame

-- the frame whose turn is next is whole and was not placed: it is judged
pub record IsJudged (t : Story) (s : Standing) (step : Seen Octets) : Type 0 where
  pub frame : Frame
  pub is_next : next_frame t ≡ Some frame
  pub unplaced : was_placed t ≡ false
  pub answer : step ≡ seen_judged frame (front_verdict t.early (expecting t.start) s frame)

-- it is not whole: the frame at the lowest free place is judged before its turn
pub record IsEarly (t : Story) (s : Standing) (step : Seen Octets) : Type 0 where
  pub frame : Frame
  pub no_next : next_frame t ≡ None
  pub is_early : early_frame t ≡ Some frame
  pub answer : step ≡ seen_tried (first_place_in t.start) frame (early_verdict s frame)

-- the frame whose turn is next is whole and was placed: it has its turn
pub record HasTurn (t : Story) (s : Standing) (step : Seen Octets) : Type 0 where
  pub frame : Frame
  pub is_next : next_frame t ≡ Some frame
  pub waited : was_placed t ≡ true
  pub answer : step ≡ seen_turned s.receiving (placed frame) (turn_of s (placed frame))

-- frames are read: the stream has not ended, and is open
pub record ReadsFrames (over : Bool) (t : Story) : Type 0 where
  pub running : over ≡ false
  pub open_now : is_open t.start ≡ true

-- the stream had not ended, the peer's start-up frame was awaited, and comes to this by the octets that came
pub record HearsFrame (over : Bool) (t : Story) (outcome : Progress) : Type 0 where
  pub running : over ≡ false
  pub awaited : awaits_frame t.start ≡ true
  pub comes : progress_in t.start (in_order t.came) ≡ outcome

-- so an initiator learns what was agreed: the Reply wants nothing that this end does not have
pub record HearsReply (over : Bool) (t : Story) (agreed : Agreed) : Type 0 where
  pub hears_it : HearsFrame over t progress.Agreed
  pub fits : mismatch_in (hears t).start ≡ None
  pub agreed_is : agreed ≡ agreement_in (hears t).start

-- or by which fault the stream ends, since the Reply wants what this end does not have; no frame was placed
pub record HearsMismatch (over : Bool) (t : Story) (fault : Fault) : Type 0 where
  pub hears_it : HearsFrame over t progress.Agreed
  pub mismatch : Mismatch
  pub is : mismatch_in (hears t).start ≡ Some mismatch
  pub fault_is : fault ≡ negotiation_fault mismatch
  pub unplaced : was_placed t ≡ false

-- the private data of the peer's frame, once that is read
abbrev pub private_heard : Story → Octets
private_heard t = private_in (hears t).start

-- and its word of IRD and ORD
abbrev pub told_heard : Story → Option EnhancedData
told_heard t = told_in (hears t).start

-- ---- the law

-- at the next act of a stream
abbrev pub story_of : ℕ → List (Act Octets) → Story
story_of n before = record (story_alone n before) { receiving = receiving_of n before }

abbrev pub standing : ℕ → List (Act Octets) → Standing
standing n before =
    let t : Story = story_of n before in
    record { table = table_after before; peer = peer_at n before; receiving = t.receiving; reads = t.reads; asked = t.asked }

abbrev pub TurnsSeen : Bool → Story → Standing → Seen Octets → Type 0
TurnsSeen over t s (seen.Done kind) = Unit {0}
TurnsSeen over t s (seen.Flushed kind) = Unit {0}
TurnsSeen over t s (seen.FlushedRecv octets) = Unit {0}
TurnsSeen over t s seen.Idle = Unit {0}
TurnsSeen over t s (seen.Asked told private) = HearsFrame over t progress.Asked × (told ≡ told_heard t) × (private ≡ private_heard t)
TurnsSeen over t s (seen.Opened agreed told private) = HearsReply over t agreed × (told ≡ told_heard t) × (private ≡ private_heard t)
TurnsSeen over t s (seen.Closed fault) = HearsFrame over t (progress.Faulted fault)
TurnsSeen over t s (seen.Placed right stag to octets) =
    ReadsFrames over t × (IsJudged t s (seen.Placed right stag to octets) ⊎ IsEarly t s (seen.Placed right stag to octets))
TurnsSeen over t s (seen.Buffered msn mo len) =
    ReadsFrames over t × (IsJudged t s (seen.Buffered msn mo len) ⊎ IsEarly t s (seen.Buffered msn mo len))
TurnsSeen over t s (seen.Requested size stag to) = ReadsFrames over t × IsJudged t s (seen.Requested size stag to)
TurnsSeen over t s (seen.Terminated fault) = ReadsFrames over t × IsJudged t s (seen.Terminated fault)
TurnsSeen over t s (seen.Tried place) = ReadsFrames over t × IsEarly t s (seen.Tried place)
TurnsSeen over t s seen.Passed = ReadsFrames over t × HasTurn t s seen.Passed
TurnsSeen over t s (seen.Received octets solicited invalidate) =
    ReadsFrames over t × HasTurn t s (seen.Received octets solicited invalidate)
TurnsSeen over t s (seen.Fault fault) =
    HearsMismatch over t fault ⊎ (ReadsFrames over t × (IsJudged t s (seen.Fault fault) ⊎ HasTurn t s (seen.Fault fault)))

abbrev pub TurnsStream : List (Act Octets) → ℕ → StreamAct Octets → Type 0
TurnsStream before n act =
    OnSome (TurnsSeen (ended (stream_acts n before)) (story_of n before) (standing n before)) (deed act).step

-- at every step of work, at the moment before it, whatever octets came: the j-th turn is for the j-th frame that came
abbrev pub Turns : List (Entry Octets) → Type 0
Turns = AtEach (OnStream TurnsStream)
