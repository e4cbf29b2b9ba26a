-- What the state of a stream has in common with what its acts say, and what leaves that as it is.
use Rattle.std.proofs.Common.{◌≡◌, ℕ, ◌+◌, ◌-◌, ◌%◌, ◌^◌, ◌<◌, ◌≤◌, List, [], ◌∷◌, ◌++◌, length, map, Option, Some, None, Bool, true, false, cond, refl, sym, ap, ◌∙◌, subst, arith, length-append, append_assoc, inl, inr, ◌⊎◌, Ok, Err}
use Rattle.std.specs.Prelude.{nat_lt, nat_eq, is_some, ◌&&◌}
use Rattle.std.proofs.lemmas.List.{append-nil, length_push}
use Rattle.std.proofs.lemmas.Option.{none-some}
use Rattle.std.proofs.lemmas.Bool.Decides.{nat_tests}
use Rattle.std.proofs.lemmas.Bool.{true≢false, false≢true}
use Rattle.iw_queues.specs.Completions as completions
use Rattle.iw_queues.specs.Request.{payload}
use Rattle.iw_reads.specs.declared.reads.Outstanding.{Outstanding}
use Rattle.iw_reads.specs.declared.requests.Asked.{Asked}
use Rattle.iw_reads.specs.Requests.{Requested}
use Rattle.iw_reads.specs.Requests as requests
use Rattle.std.specs.Option.{option_map}
use Rattle.std.specs.Prelude.{not}
use Rattle.std.proofs.lemmas.Option.{same_Some}
use Rattle.iw_laws.specs.Turns.{Answer, Story, story_after, is_silent, is_rtr}
use Rattle.iw_laws.specs.Rules.{FitsPosted}
use Rattle.iw_laws.proofs.Merges.{Merges, with_left, merges_ready, merges_post}
use Rattle.iw_laws.proofs.Ready.{ready_in, closed_ready, none_ready, framed_none, IsSpoken, ReadsAre, Apart, same_reads_are, unready_are}
use Rattle.iw_octets.specs.declared.segment.Segment.{Segment}
use Rattle.iw_octets.specs.declared.segment.Segment.TheVariants.{Tagged, Untagged}
use Rattle.iw_octets.specs.Segment.{segment_octets}
use Rattle.iw_memory.specs.Table.{Table}
use Rattle.iw_ranges.specs.declared.Delivery.TheVariants.{Kept, Dropped}
use Rattle.iw_fpdu.specs.declared.layout.Layout.{Layout}
use Rattle.iw_fpdu.specs.Frame.{frame_octets}
use Rattle.iw_fpdu.specs.Sequence.{sequence}
use Rattle.iw_untagged.specs.Receiving.{Receiving}
use Rattle.iw_queues.specs.declared.request.Kind.{Kind}
use Rattle.iw_queues.specs.declared.request.Request.{Request}
use Rattle.iw_queues.specs.Queue.{Queue, IsWithinLimits, IsBegun}
use Rattle.iw_queues.specs.Segments.{Numbers}
use Rattle.iw_queues.proofs.Limits.{limits_posted}
use Rattle.iw_startup.specs.declared.enhanced.Rtr.{Rtr}
use Rattle.iw_stream.specs.Rtr.{rtr_message}
use Rattle.iw_startup.specs.declared.side.Side.{Side}
use Rattle.iw_startup.specs.declared.side.Side.TheVariants as sides
use Rattle.iw_startup.specs.State.{StartupState, answered}
use Rattle.iw_stream.specs.declared.answer.Role.{Role}
use Rattle.iw_stream.specs.declared.answer.Role.TheVariants.{Preset, Initiator, Responder}
use Rattle.iw_stream.specs.Starting.{StartState, AtOnce, Unheard, Heard, is_open, sending, own_frame, most_reads_in, first_place_out, rtr_in}
use Rattle.iw_stream.specs.Stream.{StreamState, Due, StartUp, Response as NextResponse, NextPart, NoneDue, LastWord, ended, due, emission_of, emitted, owes_frame, keeps_silent, Ready, rtr_due}
use Rattle.iw_stream.specs.declared.ending.Ending.{Ending}
use Rattle.iw_stream.specs.declared.ending.Ending.TheVariants.{Runs, Over, Broken}
use Rattle.iw_stream.specs.Ending.{has_ended, is_broken, last_word, with_last_word}
use Rattle.iw_stream.specs.Terminating.{terminate_fetched}
use Rattle.iw_laws.specs.Sends.{farewells, ready_of}
use Rattle.iw_laws.specs.Faithful.{count_done, responses_done}
use Rattle.iw_events.specs.declared.act.StreamAct.{StreamAct}
use Rattle.iw_events.specs.declared.act.StreamAct.TheVariants.{Recv, Post, Emit, First, Deliver, Raw, Mulpdu, Accept, Reject, Work, Break}
use Rattle.iw_events.specs.declared.act.Shown.{Shown}
use Rattle.iw_events.specs.declared.act.Shown.TheVariants.{Frame, Fetched, Fault as Denied, Nothing}
use Rattle.iw_events.specs.declared.act.Seen.TheVariants as seen
use Rattle.iw_laws.specs.Words.{Octets, Opening, posted_by, handed_by, size_after, received_by, octets_shown, is_denied, sent_by, Sent, listed}
use Rattle.iw_laws.specs.Rules.{shown_of}
use Rattle.iw_laws.proofs.States.{Connected}
use Rattle.iw_laws.specs.Words.{OnSome}
use Rattle.iw_laws.proofs.Nexts.{fore, segment_at, turned_by}
use Rattle.iw_laws.proofs.Told.{Told, left_frame, after_shown, after_act, told}
use Rattle.iw_laws.proofs.Tales.{Tale, tale_after}
use Rattle.iw_laws.proofs.Paid.{IsPaid}
use Rattle.iw_laws.proofs.Onces.{Onces}
use Rattle.iw_laws.proofs.Fills.{Fills}
use Rattle.iw_laws.proofs.Tracks.{Track, by_ended, shown_stays, may}
use Rattle.iw_laws.proofs.Lists.{Each, each-push, each-first, each-last}
use Rattle.iw_laws.proofs.Counts.{Counts, Handing, handing_of, same_handing, same_counts, posted_counts, count_last, none_outstanding}
use Rattle.iw_laws.proofs.Sending.{FitsNumbers, IsSendable, accepted, EmitsStart, EmitsLast, EmitsReady, EmitsPart, emits_as}

-- what was sent is the start-up frame, if there is one, and the frames of these segments; or neither yet
pub data IsFramed (start : StartState) (sent : Octets) (segments : List (Segment Octets)) : Type 0 where
  Unspoken : sent ≡ [] → segments ≡ [] → IsFramed start sent segments
  Spoken : sent ≡ own_frame start ++ sequence (sending start) 0 (map segment_octets segments) → IsFramed start sent segments

-- what the story says of Reads is what the state has
pub record Asks (s : StreamState) (t : Story) : Type 0 where
  pub reads : t.reads ≡ s.reads
  pub asked : t.asked ≡ s.asked
  pub fetched : s.asked.fetched ≡ length t.begun
  pub begun : requests.IsBegun s.asked.unanswered s.asked.fetched
  pub few : length s.reads ≤ most_reads_in s.start

-- no frame went out, and no Terminate is due
pub record IsMute (s : StreamState) (t : Story) (segments : List (Segment Octets)) : Type 0 where
  pub none : segments ++ farewells t.farewell ≡ []
  pub quiet : last_word s.ending ≡ None

-- the stream has ended, and no Terminate is due
pub record IsOver (s : StreamState) : Type 0 where
  pub over : ended s ≡ true
  pub quiet : last_word s.ending ≡ None

-- what the story says of the end is what the state has; a Terminate goes out once, and of a stream that may send frames
pub record Parts (s : StreamState) (t : Story) (segments : List (Segment Octets)) : Type 0 where
  pub ending : t.ending ≡ s.ending
  pub once : (t.farewell ≡ None) ⊎ IsOver s
  pub short : (payload : Octets) → last_word s.ending ≡ Some payload → length payload ≤ 52
  pub shut : is_open s.start ≡ false → IsMute s t segments
  pub silent : keeps_silent s ≡ true → IsMute s t segments

-- of a stream that has not ended, the queue and what was handed back
pub record IsLive (s : StreamState) (t : Tale) (kept : Queue) (before : List Kind) : Type 0 where
  pub queue : s.queue ≡ kept
  pub handed : t.handed ≡ before

-- the segments are the first of what was posted and of what the peer asked for, and the queue has the rest
pub record Emits (s : StreamState) (t : Tale) : Type 0 where
  pub segments : List (Segment Octets)
  pub kept : Queue  -- the queue, as it was when the stream ended
  pub before : List Kind  -- what had been handed back then
  pub left : List (Request Octets)  -- the RTR, if it is still to be sent
  pub done : ℕ  -- how many of the Reads that were posted were answered
  pub asking : List Outstanding  -- those of them that are outstanding
  pub live : ended s ≡ false → IsLive s t kept before
  pub merges : Merges (with_left left kept) s.numbers s.asked.unanswered t.story.begun (ready_in s.start ++ t.posted) t.story.answers segments
  pub spoken : IsSpoken (ready_in s.start) left segments
  pub asks : Asks s t.story
  pub good : Each IsSendable (segments ++ farewells t.story.farewell)
  pub framed : IsFramed s.start t.sent (segments ++ farewells t.story.farewell)
  pub parts : Parts s t.story segments
  pub limits : IsWithinLimits kept
  pub fit : Each FitsPosted t.posted
  pub numbers : FitsNumbers s.numbers
  pub size : s.mulpdu ≡ t.size
  pub enough : 128 ≤ s.mulpdu
  pub few : s.mulpdu ≤ 64512
  pub counts : Counts kept t.story.whole t.posted before done asking
  pub handing : Handing s.queue counts.first t.posted t.handed done
  pub reads : ReadsAre (ready_in s.start) left s.reads asking t.story.answered done
  pub whole : count_last segments + length left ≡ length (ready_in s.start) + t.story.whole

-- all segments that went out
abbrev pub out_of : (s : StreamState) (t : Tale) → Emits s t → List (Segment Octets)
out_of s t e = e.segments ++ farewells t.story.farewell

abbrev pub role_of : Side → Role
role_of sides.Initiator = Initiator
role_of (sides.Responder reply) = Responder

pub record StartsAs (o : Opening) (u : StartupState) : Type 0 where
  pub role : role_of u.side ≡ o.role

-- a start-up is that of a stream that was opened so
abbrev pub IsStartOf : Opening → StartState → Type 0
IsStartOf o (AtOnce layout) = (o.role ≡ Preset) × (layout ≡ record { markers = o.config.markers; crc = o.config.crc })
IsStartOf o (Unheard u) = StartsAs o u
IsStartOf o (Heard u) = StartsAs o u

-- the Reads that are finished were answered
pub record Doing (t : Tale) : Type 0 where
  pub answered : responses_done (ready_of t.story) (count_done t.finished) ≤ t.story.answered
  pub among : count_done t.finished ≤ count_done t.handed

-- the acts tell the number of the peer's first octet, and whether octets were delivered
pub record KnowsNumbers (s : StreamState) (t : Story) : Type 0 where
  pub first : t.first ≡ s.first
  pub delivered : t.was_delivered ≡ s.answered

pub record Own (o : Opening) (c : Connected) (t : Tale) : Type 0 where
  pub wire : c.wire ≡ t.sent
  pub sent : c.stream.sent ≡ length t.sent
  pub due : c.stream.receiving.due ≡ (1 + length t.received) % 2 ^ 32
  pub numbered : KnowsNumbers c.stream t.story
  pub starts : IsStartOf o c.stream.start
  pub emits : Emits c.stream t
  pub track : Track c.stream t
  pub doing : Doing t
  pub ended : ended c.stream ≡ t.ended
  pub paid : IsPaid c.stream t.acts
  pub once : Onces c.stream t.spans
  pub fills : Fills c.stream t

-- the fields that an emission leaves
pub record LeavesHeard (s s' : StreamState) : Type 0 where
  pub receiving : s'.receiving ≡ s.receiving
  pub start : s'.start ≡ s.start
  pub first : s'.first ≡ s.first
  pub answered : s'.answered ≡ s.answered

pub left_heard : (s : StreamState) (shown : Shown Octets) → LeavesHeard s (after_shown s shown)
left_heard s (Frame from octets) = go (due s)
  where
    go : (d : Due) → LeavesHeard s (left_frame s d)
    go StartUp = record { receiving = refl; start = refl; first = refl; answered = refl }
    go (LastWord payload) = record { receiving = refl; start = refl; first = refl; answered = refl }
    go (NextResponse part) = record { receiving = refl; start = refl; first = refl; answered = refl }
    go (NextPart part) = record { receiving = refl; start = refl; first = refl; answered = refl }
    go (Ready rtr) = record { receiving = refl; start = refl; first = refl; answered = refl }
    go NoneDue = record { receiving = refl; start = refl; first = refl; answered = refl }
left_heard s (Fetched from frame stag to octets) = record { receiving = refl; start = refl; first = refl; answered = refl }
left_heard s (Denied fault) = record { receiving = refl; start = refl; first = refl; answered = refl }
left_heard s Nothing = record { receiving = refl; start = refl; first = refl; answered = refl }

pub knows_numbers : (s : StreamState) (t : Tale) (act : StreamAct Octets) → KnowsNumbers s t.story → KnowsNumbers (after_act s act) (tale_after t act).story
knows_numbers s t (Work (seen.Received octets solicited invalidate)) h = record { first = h.first; delivered = h.delivered }
knows_numbers s t (Work seen.Passed) h = record { first = h.first; delivered = h.delivered }
knows_numbers s t (Work (seen.Requested size stag to)) h = record { first = h.first; delivered = h.delivered }
knows_numbers s t (Work (seen.Done kind)) h = record { first = h.first; delivered = h.delivered }
knows_numbers s t (Work (seen.Placed right stag to octets)) h = record { first = h.first; delivered = h.delivered }
knows_numbers s t (Work (seen.Tried place)) h = record { first = h.first; delivered = h.delivered }
knows_numbers s t (Work (seen.Buffered msn mo len)) h = record { first = h.first; delivered = h.delivered }
knows_numbers s t (Work (seen.Flushed kind)) h = record { first = h.first; delivered = h.delivered }
knows_numbers s t (Work (seen.FlushedRecv octets)) h = record { first = h.first; delivered = h.delivered }
knows_numbers s t (Work (seen.Terminated fault)) h = record { first = h.first; delivered = h.delivered }
knows_numbers s t Break h = record { first = h.first; delivered = h.delivered }
knows_numbers s t (Work (seen.Fault fault)) h = record { first = h.first; delivered = h.delivered }
knows_numbers s t (Work seen.Idle) h = record { first = h.first; delivered = h.delivered }
knows_numbers s t (Recv len None) h = record { first = h.first; delivered = h.delivered }
knows_numbers s t (Recv len (Some refusal)) h = record { first = h.first; delivered = h.delivered }
knows_numbers s t (Post m None) h = record { first = h.first; delivered = h.delivered }
knows_numbers s t (Post m (Some refusal)) h = record { first = h.first; delivered = h.delivered }
knows_numbers s t (Emit shown) h = let told = shown_stays t.story shown in let left = left_heard s shown in record { first = told.first ∙ h.first ∙ sym left.first; delivered = told.was_delivered ∙ h.delivered ∙ sym left.answered }
knows_numbers s t (Accept private (Ok agreed)) h = record { first = h.first; delivered = h.delivered }
knows_numbers s t (Accept private (Err refusal)) h = record { first = h.first; delivered = h.delivered }
knows_numbers s t (Reject private None) h = record { first = h.first; delivered = h.delivered }
knows_numbers s t (Reject private (Some refusal)) h = record { first = h.first; delivered = h.delivered }
knows_numbers s t (Work (seen.Asked word private)) h = record { first = h.first; delivered = h.delivered }
knows_numbers s t (Work (seen.Opened agreed word private)) h = record { first = h.first; delivered = h.delivered }
knows_numbers s t (Work (seen.Closed fault)) h = record { first = h.first; delivered = h.delivered }
knows_numbers s t (Deliver from number octets Kept) h = record { first = h.first; delivered = refl }
knows_numbers s t (Raw number octets Kept) h = record { first = h.first; delivered = refl }
knows_numbers s t (Deliver from number octets Dropped) h = record { first = h.first; delivered = refl }
knows_numbers s t (Raw number octets Dropped) h = record { first = h.first; delivered = refl }
knows_numbers s t (First number None) h = record { first = refl; delivered = h.delivered }
knows_numbers s t (Mulpdu size None) h = record { first = h.first; delivered = h.delivered }
knows_numbers s t (First number (Some refusal)) h = record { first = h.first; delivered = h.delivered }
knows_numbers s t (Mulpdu size (Some refusal)) h = record { first = h.first; delivered = h.delivered }

pub on_any : {A P : Type 0} (o : Option A) → P → OnSome {A = A} (λ z. P) o
on_any None h = tt
on_any (Some x) h = h

-- ---- the end

pub word_over : (e : Ending) (payload : Octets) → last_word e ≡ Some payload → has_ended e ≡ true
word_over Runs payload h = absurd (none-some _ h)
word_over (Over word) payload h = refl
word_over Broken payload h = refl

pub word_unbroken : (e : Ending) (payload : Octets) → last_word e ≡ Some payload → is_broken e ≡ false
word_unbroken Runs payload h = refl
word_unbroken (Over word) payload h = refl
word_unbroken Broken payload h = absurd (none-some _ h)

pub runs_unbroken : (e : Ending) → has_ended e ≡ false → is_broken e ≡ false
runs_unbroken Runs h = refl
runs_unbroken (Over word) h = refl
runs_unbroken Broken h = absurd (true≢false h)

pub runs_quiet : (e : Ending) → has_ended e ≡ false → last_word e ≡ None
runs_quiet Runs h = refl
runs_quiet (Over word) h = absurd (true≢false h)
runs_quiet Broken h = refl

-- where no start-up frame is owed, and the link has not broken, none is left to be sent
pub all_spoken : (s : StreamState) → owes_frame s ≡ false → is_broken s.ending ≡ false → nat_lt s.sent (first_place_out s.start) ≡ false
all_spoken s owes whole = sym (ap (λ b. not b && nat_lt s.sent (first_place_out s.start)) whole) ∙ owes

pub owes_some : (s : StreamState) → owes_frame s ≡ true → (is_broken s.ending ≡ false) × (nat_lt s.sent (first_place_out s.start) ≡ true)
owes_some s owes = go (is_broken s.ending) refl owes
  where
    go : (b : Bool) → is_broken s.ending ≡ b → (not b && nat_lt s.sent (first_place_out s.start)) ≡ true → (is_broken s.ending ≡ false) × (nat_lt s.sent (first_place_out s.start) ≡ true)
    go true e h = absurd (false≢true h)
    go false e h = (e, h)

pub shown_ended : (table : Table) (s : StreamState) (shown : Shown Octets) → shown ≡ shown_of table (emission_of table s) (emitted table s) → ended (after_shown s shown) ≡ cond (is_denied shown) true (ended s)
shown_ended table s (Frame from octets) rule = go (emits_as table s (Frame from octets) rule)
  where
    go : EmitsStart s from octets ⊎ (EmitsLast s from octets ⊎ (EmitsReady s from octets ⊎ EmitsPart s from octets)) → ended (left_frame s (due s)) ≡ ended s
    go (inl p) = ap (λ d. ended (left_frame s d)) p.next
    go (inr (inl p)) = ap (λ d. ended (left_frame s d)) p.next ∙ sym (word_over s.ending p.payload p.is_due)
    go (inr (inr (inl p))) = ap (λ d. ended (left_frame s d)) p.next
    go (inr (inr (inr p))) = ap (λ d. ended (left_frame s d)) p.next
shown_ended table s (Fetched from frame stag to octets) rule = refl
shown_ended table s (Denied fault) rule = by_ended s (terminate_fetched s.asked fault)
shown_ended table s Nothing rule = refl

emission_sent : (table : Table) (s : StreamState) (shown : Shown Octets) → shown ≡ shown_of table (emission_of table s) (emitted table s) → (after_shown s shown).sent ≡ s.sent + length (octets_shown shown)
emission_sent table s (Frame from octets) rule = frame (emits_as table s (Frame from octets) rule)
  where
    frame : EmitsStart s from octets ⊎ (EmitsLast s from octets ⊎ (EmitsReady s from octets ⊎ EmitsPart s from octets)) → (left_frame s (due s)).sent ≡ s.sent + length octets
    frame (inl p) = ap (λ d. (left_frame s d).sent) p.next ∙ ap (λ z. s.sent + length z) (sym p.octets_are)
    frame (inr (inl p)) = ap (λ d. (left_frame s d).sent) p.next ∙ ap (λ z. s.sent + length z) (sym p.octets_are)
    frame (inr (inr (inl p))) = ap (λ d. (left_frame s d).sent) p.next ∙ ap (λ z. s.sent + length z) (sym p.octets_are)
    frame (inr (inr (inr p))) = ap (λ d. (left_frame s d).sent) p.next ∙ ap (λ z. s.sent + length z) (sym p.octets_are)
emission_sent table s (Fetched from frame stag to octets) rule = refl
emission_sent table s (Denied fault) rule = omega arith
emission_sent table s Nothing rule = omega arith

next_due : (d n : ℕ) → d ≡ (1 + n) % 2 ^ 32 → (d + 1) % 2 ^ 32 ≡ (1 + (n + 1)) % 2 ^ 32
next_due d n e = omega arith

turned_due : (r : Receiving) (o : Option (Segment Octets)) → (turned_by r o).due ≡ r.due
turned_due r None = refl
turned_due r (Some (Tagged head payload)) = refl
turned_due r (Some (Untagged head payload)) = refl

same_due : (d : ℕ) (done : List Sent) → d ≡ (1 + length done) % 2 ^ 32 → d ≡ (1 + length (done ++ [])) % 2 ^ 32
same_due d done e = e ∙ ap (λ z. (1 + length z) % 2 ^ 32) (sym (append-nil done))

pub due_is : (s : StreamState) (act : StreamAct Octets) (done : List Sent) → s.receiving.due ≡ (1 + length done) % 2 ^ 32 → (after_act s act).receiving.due ≡ (1 + length (done ++ received_by act)) % 2 ^ 32
due_is s (Work (seen.Received octets solicited invalidate)) done e = next_due s.receiving.due (length done) e ∙ ap (λ k. (1 + k) % 2 ^ 32) (sym (length_push done _))
due_is s (Work seen.Passed) done e = turned_due s.receiving (segment_at (fore s)) ∙ same_due s.receiving.due done e
due_is s (Work (seen.Requested size stag to)) done e = same_due s.receiving.due done e
due_is s (Work (seen.Done kind)) done e = same_due s.receiving.due done e
due_is s (Work (seen.Placed right stag to octets)) done e = same_due s.receiving.due done e
due_is s (Work (seen.Tried place)) done e = same_due s.receiving.due done e
due_is s (Work (seen.Buffered msn mo len)) done e = same_due s.receiving.due done e
due_is s (Work (seen.Flushed kind)) done e = same_due s.receiving.due done e
due_is s (Work (seen.FlushedRecv octets)) done e = same_due s.receiving.due done e
due_is s (Work (seen.Terminated fault)) done e = same_due s.receiving.due done e
due_is s Break done e = same_due s.receiving.due done e
due_is s (Work (seen.Fault fault)) done e = same_due s.receiving.due done e
due_is s (Work seen.Idle) done e = same_due s.receiving.due done e
due_is s (Recv len None) done e = same_due s.receiving.due done e
due_is s (Recv len (Some refusal)) done e = same_due s.receiving.due done e
due_is s (Post m None) done e = same_due s.receiving.due done e
due_is s (Post m (Some refusal)) done e = same_due s.receiving.due done e
due_is s (Emit shown) done e = ap (λ (r : Receiving). r.due) (left_heard s shown).receiving ∙ same_due s.receiving.due done e
due_is s (Accept private (Ok agreed)) done e = same_due s.receiving.due done e
due_is s (Accept private (Err refusal)) done e = same_due s.receiving.due done e
due_is s (Reject private None) done e = same_due s.receiving.due done e
due_is s (Reject private (Some refusal)) done e = same_due s.receiving.due done e
due_is s (Work (seen.Asked word private)) done e = same_due s.receiving.due done e
due_is s (Work (seen.Opened agreed word private)) done e = same_due s.receiving.due done e
due_is s (Work (seen.Closed fault)) done e = same_due s.receiving.due done e
due_is s (Deliver from number octets Kept) done e = same_due s.receiving.due done e
due_is s (Raw number octets Kept) done e = same_due s.receiving.due done e
due_is s (Deliver from number octets Dropped) done e = same_due s.receiving.due done e
due_is s (Raw number octets Dropped) done e = same_due s.receiving.due done e
due_is s (First number None) done e = same_due s.receiving.due done e
due_is s (Mulpdu size None) done e = same_due s.receiving.due done e
due_is s (First number (Some refusal)) done e = same_due s.receiving.due done e
due_is s (Mulpdu size (Some refusal)) done e = same_due s.receiving.due done e

same_sent : (n : ℕ) (sent : List ℕ) → n ≡ length sent → n ≡ length (sent ++ [])
same_sent n sent e = e ∙ ap length (sym (append-nil sent))

pub sent_is : (table : Table) (s : StreamState) (act : StreamAct Octets) (sent : List ℕ) → Told table s act → s.sent ≡ length sent → (after_act s act).sent ≡ length (sent ++ sent_by act)
sent_is table s (Emit shown) sent rule e = emission_sent table s shown rule ∙ ap (λ n. n + length (octets_shown shown)) e ∙ sym (length-append sent (octets_shown shown))
sent_is table s (Accept private (Ok agreed)) sent rule e = same_sent s.sent sent e
sent_is table s (Accept private (Err refusal)) sent rule e = same_sent s.sent sent e
sent_is table s (Reject private None) sent rule e = same_sent s.sent sent e
sent_is table s (Reject private (Some refusal)) sent rule e = same_sent s.sent sent e
sent_is table s (Work (seen.Asked word private)) sent rule e = same_sent s.sent sent e
sent_is table s (Work (seen.Opened agreed word private)) sent rule e = same_sent s.sent sent e
sent_is table s (Work (seen.Closed fault)) sent rule e = same_sent s.sent sent e
sent_is table s (Work (seen.Received octets solicited invalidate)) sent rule e = same_sent s.sent sent e
sent_is table s (Work (seen.Requested size stag to)) sent rule e = same_sent s.sent sent e
sent_is table s (Work seen.Passed) sent rule e = same_sent s.sent sent e
sent_is table s (Work (seen.Done kind)) sent rule e = same_sent s.sent sent e
sent_is table s (Work (seen.Placed right stag to octets)) sent rule e = same_sent s.sent sent e
sent_is table s (Work (seen.Tried place)) sent rule e = same_sent s.sent sent e
sent_is table s (Work (seen.Buffered msn mo len)) sent rule e = same_sent s.sent sent e
sent_is table s (Work (seen.Flushed kind)) sent rule e = same_sent s.sent sent e
sent_is table s (Work (seen.FlushedRecv octets)) sent rule e = same_sent s.sent sent e
sent_is table s (Work (seen.Terminated fault)) sent rule e = same_sent s.sent sent e
sent_is table s Break sent rule e = same_sent s.sent sent e
sent_is table s (Work (seen.Fault fault)) sent rule e = same_sent s.sent sent e
sent_is table s (Work seen.Idle) sent rule e = same_sent s.sent sent e
sent_is table s (Recv len None) sent rule e = same_sent s.sent sent e
sent_is table s (Recv len (Some refusal)) sent rule e = same_sent s.sent sent e
sent_is table s (Post m None) sent rule e = same_sent s.sent sent e
sent_is table s (Post m (Some refusal)) sent rule e = same_sent s.sent sent e
sent_is table s (Deliver from number octets Kept) sent rule e = same_sent s.sent sent e
sent_is table s (Raw number octets Kept) sent rule e = same_sent s.sent sent e
sent_is table s (Deliver from number octets Dropped) sent rule e = same_sent s.sent sent e
sent_is table s (Raw number octets Dropped) sent rule e = same_sent s.sent sent e
sent_is table s (First number None) sent rule e = same_sent s.sent sent e
sent_is table s (Mulpdu size None) sent rule e = same_sent s.sent sent e
sent_is table s (First number (Some refusal)) sent rule e = same_sent s.sent sent e
sent_is table s (Mulpdu size (Some refusal)) sent rule e = same_sent s.sent sent e

-- a stream that may speak still may
abbrev pub StillSilent : StreamState → StreamState → Type 0
StillSilent s s' = keeps_silent s' ≡ true → keeps_silent s ≡ true

-- what the story says of what went out, and of Reads, stays
pub record StaysSaid (t t' : Story) : Type 0 where
  pub whole : t'.whole ≡ t.whole
  pub reads : t'.reads ≡ t.reads
  pub answered : t'.answered ≡ t.answered
  pub asked : t'.asked ≡ t.asked
  pub answers : t'.answers ≡ t.answers
  pub begun : t'.begun ≡ t.begun

pub stays_said : (t : Story) → StaysSaid t t
stays_said t = record { whole = refl; reads = refl; answered = refl; asked = refl; answers = refl; begun = refl }

pub same_asks : (s s' : StreamState) (t t' : Story) → s'.reads ≡ s.reads → s'.asked ≡ s.asked → StaysSaid t t' → length s.reads ≤ most_reads_in s'.start → Asks s t → Asks s' t'
same_asks s s' t t' reads asked said few k = record {
  reads = said.reads ∙ k.reads ∙ sym reads;
  asked = said.asked ∙ k.asked ∙ sym asked;
  fetched = ap (λ (z : Requested). z.fetched) asked ∙ k.fetched ∙ ap length (sym said.begun);
  begun = subst (λ (z : Requested). requests.IsBegun z.unanswered z.fetched) (sym asked) k.begun;
  few = subst (λ z. length z ≤ most_reads_in s'.start) (sym reads) few;
}

pub same_merges : {q q' : Queue} {n n' : Numbers} {w w' : List Asked} {b b' : Octets} {ms ms' : List (Request Octets)} {an an' : List Answer} {us : List (Segment Octets)} → q' ≡ q → n' ≡ n → w' ≡ w → b' ≡ b → ms' ≡ ms → an' ≡ an → Merges q n w b ms an us → Merges q' n' w' b' ms' an' us
same_merges {q} {q'} {n} {n'} {w} {w'} {b} {b'} {ms} {ms'} {an} {an'} {us} e f g h i j k =
    subst (λ z. Merges z n' w' b' ms' an' us) (sym e)
    (subst (λ z. Merges q z w' b' ms' an' us) (sym f)
    (subst (λ z. Merges q n z b' ms' an' us) (sym g) (subst (λ z. Merges q n w z ms' an' us) (sym h) (subst (λ z. Merges q n w b z an' us) (sym i) (subst (λ z. Merges q n w b ms z us) (sym j) k)))))

-- what is kept of messages that were sent is nothing to those that are not
pub sent_merges : {q : Queue} {sent : completions.Outstanding} {n : Numbers} {w : List Asked} {b : Octets} {ms : List (Request Octets)} {an : List Answer} {us : List (Segment Octets)} → Merges q n w b ms an us → Merges (record q { sent = sent }) n w b ms an us
sent_merges k = record { items = k.items; posts = k.posts; are = k.are; apart = k.apart; fresh = λ none. let f = k.fresh none in record { numbers_are = f.numbers_are; offset = f.offset; none = f.none }; done = k.done; partial = k.partial; segments_are = k.segments_are; spelled = k.spelled; goes_on = λ rest ss g m. k.goes_on rest ss (record { post = g.post; response = g.response }) m }

-- as many messages were sent to their end
abbrev pub more_counts : {q : Queue} {us us' : ℕ} {ms : List (Request Octets)} {ks : List Kind} {a : ℕ} {rs : List Outstanding} → us ≡ us' → Counts q us ms ks a rs → Counts q us' ms ks a rs
more_counts e n = record { order = n.order; first = n.first; split = n.split; lasts = sym e ∙ n.lasts; counted = n.counted; oldest = n.oldest; marked = n.marked; some = n.some; done = n.done; tickets = n.tickets }

-- nothing of the queue or of Reads changes, and nothing is posted or emitted
pub record StaysQuiet (s s' : StreamState) (t : Tale) (act : StreamAct Octets) : Type 0 where
  pub queue : s'.queue ≡ s.queue
  pub numbers : s'.numbers ≡ s.numbers
  pub mulpdu : s'.mulpdu ≡ s.mulpdu
  pub reads : s'.reads ≡ s.reads
  pub asked : s'.asked ≡ s.asked
  pub posted : posted_by act ≡ []
  pub handed : handed_by act ≡ []
  pub size : size_after t.size act ≡ t.size
  pub sent : sent_by act ≡ []
  pub said : StaysSaid t.story (story_after t.story act)
  pub running : ended s' ≡ false → ended s ≡ false
  pub farewell : (story_after t.story act).farewell ≡ t.story.farewell

-- the segments stay, with what is said of what was sent of them
pub stays : (s s' : StreamState) (t : Tale) (act : StreamAct Octets) → StaysQuiet s s' t act → ready_in s'.start ≡ ready_in s.start → length s.reads ≤ most_reads_in s'.start → (e : Emits s t) → IsFramed s'.start (t.sent ++ sent_by act) (out_of s t e) → Parts s' (story_after t.story act) e.segments → Emits s' (tale_after t act)
stays s s' t act q ready most e framed parts =
    let same : t.posted ++ posted_by act ≡ t.posted = ap (λ z. t.posted ++ z) q.posted ∙ append-nil t.posted in
    let handed : t.handed ++ handed_by act ≡ t.handed = ap (λ z. t.handed ++ z) q.handed ∙ append-nil t.handed in
    record {
      segments = e.segments;
      kept = e.kept;
      before = e.before;
      left = e.left;
      done = e.done;
      asking = e.asking;
      live = λ h. let l = e.live (q.running h) in record { queue = q.queue ∙ l.queue; handed = handed ∙ l.handed };
      merges = same_merges refl q.numbers (ap (λ (z : Requested). z.unanswered) q.asked) q.said.begun (λ i. ready i ++ same i) q.said.answers e.merges;
      spoken = subst (λ z. IsSpoken z e.left e.segments) (sym ready) e.spoken;
      asks = same_asks s s' t.story (story_after t.story act) q.reads q.asked q.said most e.asks;
      good = subst (λ z. Each IsSendable (e.segments ++ farewells z)) (sym q.farewell) e.good;
      framed = subst (λ z. IsFramed s'.start (t.sent ++ sent_by act) (e.segments ++ farewells z)) (sym q.farewell) framed;
      parts = parts;
      limits = e.limits;
      fit = subst (Each FitsPosted) (sym same) e.fit;
      numbers = subst FitsNumbers (sym q.numbers) e.numbers;
      size = q.mulpdu ∙ e.size ∙ sym q.size;
      enough = omega (arith, q.mulpdu, e.enough);
      few = omega (arith, q.mulpdu, e.few);
      counts = more_counts (sym q.said.whole) (same_counts refl same refl refl refl e.counts);
      handing = same_handing q.queue same handed refl e.handing;
      reads = same_reads_are ready q.reads q.said.answered e.reads;
      whole = e.whole ∙ (λ i. length (sym ready i) + sym q.said.whole i);
    }

-- nothing is said of the end
pub record StaysApart (s s' : StreamState) (t t' : Story) : Type 0 where
  pub ending : s'.ending ≡ s.ending
  pub told : t'.ending ≡ t.ending
  pub farewell : t'.farewell ≡ t.farewell

still_mute : (s s' : StreamState) (t t' : Story) (us : List (Segment Octets)) → StaysApart s s' t t' → IsMute s t us → IsMute s' t' us
still_mute s s' t t' us a m = record { none = ap (λ z. us ++ farewells z) a.farewell ∙ m.none; quiet = ap last_word a.ending ∙ m.quiet }

pub same_parts : (s s' : StreamState) (t t' : Story) (us : List (Segment Octets)) → StaysApart s s' t t' → Parts s t us → (is_open s'.start ≡ false → is_open s.start ≡ false) → StillSilent s s' → Parts s' t' us
same_parts s s' t t' us a p shut silent = record {
  ending = a.told ∙ p.ending ∙ sym a.ending;
  once = elim p.once [ inl none ↦ inl (a.farewell ∙ none) | inr o ↦ inr (record { over = ap has_ended a.ending ∙ o.over; quiet = ap last_word a.ending ∙ o.quiet }) ];
  short = λ payload h. p.short payload (ap last_word (sym a.ending) ∙ h);
  shut = λ h. still_mute s s' t t' us a (p.shut (shut h));
  silent = λ h. still_mute s s' t t' us a (p.silent (silent h));
}

-- it ends, and no Terminate is due
pub quiet_parts : (s s' : StreamState) (t t' : Story) (us : List (Segment Octets)) (x : Ending) → s'.ending ≡ x → t'.ending ≡ x → has_ended x ≡ true → last_word x ≡ None → t'.farewell ≡ t.farewell → Parts s t us
    → (is_open s'.start ≡ false → us ++ farewells t.farewell ≡ []) → (keeps_silent s' ≡ true → us ++ farewells t.farewell ≡ []) → Parts s' t' us
quiet_parts s s' t t' us x ending told over quiet farewell p shut silent = record {
  ending = told ∙ sym ending;
  once = inr (record { over = ap has_ended ending ∙ over; quiet = ap last_word ending ∙ quiet });
  short = λ payload h. absurd (none-some _ (sym quiet ∙ ap last_word (sym ending) ∙ h));
  shut = λ h. record { none = ap (λ z. us ++ farewells z) farewell ∙ shut h; quiet = ap last_word ending ∙ quiet };
  silent = λ h. record { none = ap (λ z. us ++ farewells z) farewell ∙ silent h; quiet = ap last_word ending ∙ quiet };
}

-- it ends by a fault
pub fault_parts : (s s' : StreamState) (t t' : Story) (us : List (Segment Octets)) (payload said : Octets) → ended s ≡ false → is_open s.start ≡ true → s'.start ≡ s.start → StillSilent s s'
    → s'.ending ≡ cond (keeps_silent s) (Over None) (with_last_word payload) → t'.ending ≡ cond (is_silent t) (Over None) (with_last_word said) → is_silent t ≡ keeps_silent s → said ≡ payload → length payload ≤ 52
    → t'.farewell ≡ t.farewell → Parts s t us → Parts s' t' us
fault_parts s s' t t' us payload said running started start silent ending told same_silent same few farewell p = record {
  ending = told ∙ (λ i. cond (same_silent i) (Over None) (with_last_word (same i))) ∙ sym ending;
  once = elim p.once [ inl none ↦ inl (farewell ∙ none) | inr o ↦ absurd (true≢false (sym o.over ∙ running)) ];
  short = λ word h. by (keeps_silent s) word (ap last_word (sym ending) ∙ h);
  shut = λ h. absurd (true≢false (sym started ∙ ap is_open (sym start) ∙ h));
  silent = λ h.
      let was : keeps_silent s ≡ true = silent h in
      record { none = ap (λ z. us ++ farewells z) farewell ∙ (p.silent was).none; quiet = ap last_word (ending ∙ ap (λ b. cond b (Over None) (with_last_word payload)) was) };
}
  where
    by : (b : Bool) (word : Octets) → last_word (cond b (Over None) (with_last_word payload)) ≡ Some word → length word ≤ 52
    by true word h = absurd (none-some _ h)
    by false word h = subst (λ (z : Octets). length z ≤ 52) (same_Some _ _ h) few

-- as many Reads may be outstanding
pub same_most : (s s' : StreamState) (t : Tale) → s'.start ≡ s.start → Emits s t → length s.reads ≤ most_reads_in s'.start
same_most s s' t start e = subst (λ z. length s.reads ≤ most_reads_in z) (sym start) e.asks.few

-- what was sent stays
pub nothing_more : (s s' : StreamState) (t : Tale) (act : StreamAct Octets) → s'.start ≡ s.start → sent_by act ≡ [] → (e : Emits s t) → IsFramed s'.start (t.sent ++ sent_by act) (out_of s t e)
nothing_more s s' t act start sent e = subst (λ z. IsFramed s'.start z (out_of s t e)) (sym (ap (λ z. t.sent ++ z) sent ∙ append-nil t.sent)) (subst (λ z. IsFramed z t.sent (out_of s t e)) (sym start) e.framed)

pub quiet : (s s' : StreamState) (t : Tale) (act : StreamAct Octets) → s'.start ≡ s.start → StaysQuiet s s' t act → StaysApart s s' t.story (story_after t.story act) → StillSilent s s' → Emits s t → Emits s' (tale_after t act)
quiet s s' t act start q apart silent e =
    stays s s' t act q (ap ready_in start) (same_most s s' t start e) e (nothing_more s s' t act start q.sent e) (same_parts s s' t.story (story_after t.story act) e.segments apart e.parts (λ h. ap is_open (sym start) ∙ h) silent)

bare : (xs : Octets) (l : Layout) (us : List (Segment Octets)) → us ≡ [] → xs ++ sequence l 0 (map segment_octets us) ≡ xs
unfolding sequence
bare xs l us none = ap (λ z. xs ++ sequence l 0 (map segment_octets z)) none ∙ append-nil xs

-- the start-up goes on, at a stream that was not open: this end's frame stays, or there was none
pub restarts : (s s' : StreamState) (t : Tale) (act : StreamAct Octets) → is_open s.start ≡ false → StaysQuiet s s' t act → (own_frame s'.start ≡ own_frame s.start) ⊎ (own_frame s.start ≡ []) → (e : Emits s t) → Parts s' (story_after t.story act) e.segments
    → Emits s' (tale_after t act)
restarts s s' t act closed q own e parts =
    let same : t.posted ++ posted_by act ≡ t.posted = ap (λ z. t.posted ++ z) q.posted ∙ append-nil t.posted in
    let handed : t.handed ++ handed_by act ≡ t.handed = ap (λ z. t.handed ++ z) q.handed ∙ append-nil t.handed in
    let ready : List (Request Octets) = ready_in s'.start in
    let unready : ready_in s.start ≡ [] = closed_ready s.start closed in
    let nothing : e.segments ≡ [] = first_none e.segments (farewells t.story.farewell) (e.parts.shut closed).none in
    let gone : e.left ≡ [] = elim e.spoken [ inl none ↦ none | inr all ↦ all.1 ∙ unready ] in
    let unsent : t.story.whole ≡ 0 = omega (arith, e.whole, ap count_last nothing, ap length gone, ap length unready) in
    let reads = unready_are unready gone e.reads in
    record {
      segments = e.segments;
      kept = e.kept;
      before = e.before;
      left = ready;
      done = e.done;
      asking = e.asking;
      live = λ h. let l = e.live (q.running h) in record { queue = q.queue ∙ l.queue; handed = handed ∙ l.handed };
      merges = same_merges refl q.numbers (ap (λ (z : Requested). z.unanswered) q.asked) q.said.begun (ap (λ z. ready ++ z) same) q.said.answers
          (merges_ready e.kept s.numbers s.asked.unanswered t.story.begun t.posted t.story.answers e.segments ready nothing
          (same_merges (λ i. with_left (sym gone i) e.kept) refl refl refl (λ i. sym unready i ++ t.posted) refl e.merges));
      spoken = inr (nothing, refl);
      asks = same_asks s s' t.story (story_after t.story act) q.reads q.asked q.said (omega (arith, ap length reads.0, none_outstanding unsent e.counts)) e.asks;
      good = subst (λ z. Each IsSendable (e.segments ++ farewells z)) (sym q.farewell) e.good;
      framed = subst (λ z. IsFramed s'.start (t.sent ++ sent_by act) (e.segments ++ farewells z)) (sym q.farewell) (go (e.parts.shut closed).none (ap (λ z. t.sent ++ z) q.sent ∙ append-nil t.sent) e.framed own);
      parts = parts;
      limits = e.limits;
      fit = subst (Each FitsPosted) (sym same) e.fit;
      numbers = subst FitsNumbers (sym q.numbers) e.numbers;
      size = q.mulpdu ∙ e.size ∙ sym q.size;
      enough = omega (arith, q.mulpdu, e.enough);
      few = omega (arith, q.mulpdu, e.few);
      counts = more_counts (sym q.said.whole) (same_counts refl same refl refl refl e.counts);
      handing = same_handing q.queue same handed refl e.handing;
      reads = Apart (q.reads ∙ reads.0) (omega (arith, q.said.answered, reads.1));
      whole = omega (arith, ap count_last nothing, unsent, q.said.whole);
    }
  where
    us : List (Segment Octets)
    us = out_of s t e

    first_none : (xs ys : List (Segment Octets)) → xs ++ ys ≡ [] → xs ≡ []
    first_none [] ys h = refl
    first_none (x ∷ xs) ys h = cc

    go : {sent' : Octets} → us ≡ [] → sent' ≡ t.sent → IsFramed s.start t.sent us → (own_frame s'.start ≡ own_frame s.start) ⊎ (own_frame s.start ≡ []) → IsFramed s'.start sent' us
    go none unsent (Unspoken b c) own = Unspoken (unsent ∙ b) c
    go none unsent (Spoken b) (inl frame) = Spoken (unsent ∙ b ∙ bare (own_frame s.start) (sending s.start) us none ∙ sym frame ∙ sym (bare (own_frame s'.start) (sending s'.start) us none))
    go none unsent (Spoken b) (inr nil) = Unspoken (unsent ∙ b ∙ bare (own_frame s.start) (sending s.start) us none ∙ nil) none

-- at a stream whose start-up goes on nothing is said of the end
pub restart_parts : (s s' : StreamState) (t t' : Story) (us : List (Segment Octets)) → is_open s.start ≡ false → StaysApart s s' t t' → Parts s t us → Parts s' t' us
restart_parts s s' t t' us closed a p = record {
  ending = a.told ∙ p.ending ∙ sym a.ending;
  once = elim p.once [ inl none ↦ inl (a.farewell ∙ none) | inr o ↦ inr (record { over = ap has_ended a.ending ∙ o.over; quiet = ap last_word a.ending ∙ o.quiet }) ];
  short = λ payload h. p.short payload (ap last_word (sym a.ending) ∙ h);
  shut = λ h. still_mute s s' t t' us a (p.shut closed);
  silent = λ h. still_mute s s' t t' us a (p.shut closed);
}

-- a stream that is open and need not keep silent may send
pub loud_parts : (s s' : StreamState) (t t' : Story) (us vs : List (Segment Octets)) → is_open s'.start ≡ true → keeps_silent s' ≡ false → StaysApart s s' t t' → Parts s t us → Parts s' t' vs
loud_parts s s' t t' us vs started loud a p = record {
  ending = a.told ∙ p.ending ∙ sym a.ending;
  once = elim p.once [ inl none ↦ inl (a.farewell ∙ none) | inr o ↦ inr (record { over = ap has_ended a.ending ∙ o.over; quiet = ap last_word a.ending ∙ o.quiet }) ];
  short = λ payload h. p.short payload (ap last_word (sym a.ending) ∙ h);
  shut = λ h. absurd (true≢false (sym started ∙ h));
  silent = λ h. absurd (false≢true (sym loud ∙ h));
}

-- ---- a stream that has not ended

pub record Live (s : StreamState) (t : Tale) (e : Emits s t) : Type 0 where
  pub merges : Merges (with_left e.left s.queue) s.numbers s.asked.unanswered t.story.begun (ready_in s.start ++ t.posted) t.story.answers e.segments
  pub counts : Counts s.queue t.story.whole t.posted t.handed e.done e.asking
  pub limits : IsWithinLimits s.queue
  pub fit : Each FitsPosted s.queue.unsent
  pub none : farewells t.story.farewell ≡ []
  pub good : Each IsSendable e.segments

pub lives : (s : StreamState) (t : Tale) (e : Emits s t) → ended s ≡ false → Live s t e
lives s t e running =
    let l = e.live running in
    record {
      merges = same_merges (ap (with_left e.left) l.queue) refl refl refl refl refl e.merges;
      counts = same_counts l.queue refl l.handed refl refl e.counts;
      limits = subst IsWithinLimits (sym l.queue) e.limits;
      fit = subst (λ (z : Queue). Each FitsPosted z.unsent) (sym l.queue) (each-last FitsPosted e.counts.first e.kept.unsent (subst (Each FitsPosted) e.counts.split e.fit));
      none = elim e.parts.once [ inl none ↦ ap farewells none | inr o ↦ absurd (true≢false (sym o.over ∙ running)) ];
      good = each-first IsSendable e.segments (farewells t.story.farewell) e.good;
    }

-- nothing is begun of a message where the RTR is left
unbegun_any : (ms : List (Request Octets)) (offset : ℕ) → offset ≡ 0 → IsBegun ms offset
unbegun_any [] offset none = none
unbegun_any (m ∷ ms) offset none = λ some. absurd (omega (arith, some, none))

rtr_begun : {s : StreamState} {t : Tale} (e : Emits s t) (q : Queue) → Merges (with_left e.left q) s.numbers s.asked.unanswered t.story.begun (ready_in s.start ++ t.posted) t.story.answers e.segments → IsBegun q.unsent q.offset → IsBegun (e.left ++ q.unsent) q.offset
rtr_begun e q k begun = elim e.spoken [
  | inl gone ↦ subst (λ z. IsBegun (z ++ q.unsent) q.offset) (sym gone) begun
  | inr all ↦ unbegun_any (e.left ++ q.unsent) q.offset (k.fresh all.0).offset
]

pub all_begun : {s : StreamState} {t : Tale} (e : Emits s t) → IsBegun (e.left ++ e.kept.unsent) e.kept.offset
all_begun e = rtr_begun e e.kept e.merges e.limits.begun

-- where no Terminate went out, the segments are all
pub alone_out : (us fs : List (Segment Octets)) → fs ≡ [] → us ++ fs ≡ us
alone_out us fs none = ap (λ z. us ++ z) none ∙ append-nil us

-- a message is posted
pub posts : (table : Table) (s : StreamState) (t : Tale) (m : Request Octets) → Told table s (Post m None) → Emits s t → Emits (after_act s (Post m None)) (tale_after t (Post m None))
posts table s t m rule e =
    let ok = accepted s m rule.1 in
    let l = lives s t e ok.running in
    let counts = posted_counts s.queue t.story.whole t.posted t.handed e.done e.asking m l.counts in
    record {
      segments = e.segments;
      kept = (after_act s (Post m None)).queue;
      before = t.handed ++ [];
      left = e.left;
      done = e.done;
      asking = e.asking;
      live = λ h. record { queue = refl; handed = refl };
      merges = same_merges (λ i. record s.queue { unsent = sym (append_assoc e.left s.queue.unsent (m ∷ [])) i }) refl refl refl (sym (append_assoc (ready_in s.start) t.posted (m ∷ []))) refl
          (merges_post (with_left e.left s.queue) s.numbers s.asked.unanswered t.story.begun (ready_in s.start ++ t.posted) t.story.answers e.segments m (rtr_begun e s.queue l.merges l.limits.begun) l.merges);
      spoken = e.spoken;
      asks = same_asks s (after_act s (Post m None)) t.story t.story refl refl (stays_said t.story) e.asks.few e.asks;
      good = e.good;
      framed = subst (λ z. IsFramed s.start z (out_of s t e)) (sym (append-nil t.sent)) e.framed;
      parts = same_parts s (after_act s (Post m None)) t.story t.story e.segments (record { ending = refl; told = refl; farewell = refl }) e.parts (λ h. h) (λ h. h);
      limits = limits_posted s.queue m ok.posted l.limits;
      fit = each-push FitsPosted t.posted m e.fit rule.0;
      numbers = e.numbers;
      size = e.size;
      enough = e.enough;
      few = e.few;
      counts = counts;
      handing = handing_of counts;
      reads = e.reads;
      whole = e.whole;
    }

pub first_fits : (q : Queue) → Each FitsPosted q.unsent → (m : Request Octets) (ms : List (Request Octets)) → q.unsent ≡ m ∷ ms → FitsPosted m
first_fits q fit m ms is = (subst (Each FitsPosted) is fit).0

pub alone : (layout : Layout) (at : ℕ) (u : List ℕ) → sequence layout at (u ∷ []) ≡ frame_octets layout at u
unfolding sequence
alone layout at u = append-nil (frame_octets layout at u)

pub nothing_framed : (l : Layout) → sequence l 0 [] ≡ []
unfolding sequence
nothing_framed l = refl

no_frame : (sent : ℕ) (xs : Octets) → sent ≡ 0 → nat_lt sent (length xs) ≡ false → xs ≡ []
no_frame sent [] e h = refl
no_frame sent (x ∷ xs) e h = absurd (let n : length (x ∷ xs) ≤ sent = grind (arith, nat_tests) in omega (arith, n, e))

pub below : (n m : ℕ) → nat_lt n m ≡ true → n < m
below n m h = grind (arith, nat_tests)

-- where no octet of the start-up frame is left, it has been sent, if there is one
pub past_start : (s : StreamState) (t : Tale) (e : Emits s t) → s.sent ≡ length t.sent → nat_lt s.sent (first_place_out s.start) ≡ false → t.sent ≡ own_frame s.start ++ sequence (sending s.start) 0 (map segment_octets (out_of s t e))
past_start s t e sent spoken = go e.framed
  where
    us : List (Segment Octets)
    us = out_of s t e

    go : IsFramed s.start t.sent us → t.sent ≡ own_frame s.start ++ sequence (sending s.start) 0 (map segment_octets us)
    go (Spoken b) = b
    go (Unspoken b c) =
        let nil : own_frame s.start ≡ [] = no_frame s.sent (own_frame s.start) (sent ∙ ap length b) spoken in
        b ∙ sym (nothing_framed (sending s.start)) ∙ (λ i. sym nil i ++ sequence (sending s.start) 0 (map segment_octets (sym c i)))

-- where it is owed, nothing was sent
pub before_start : (s : StreamState) (t : Tale) (e : Emits s t) → s.sent ≡ length t.sent → owes_frame s ≡ true → (t.sent ≡ []) × (out_of s t e ≡ [])
before_start s t e sent owes = go e.framed
  where
    us : List (Segment Octets)
    us = out_of s t e

    go : IsFramed s.start t.sent us → (t.sent ≡ []) × (us ≡ [])
    go (Unspoken b c) = (b, c)
    go (Spoken b) =
        let less : s.sent < length (own_frame s.start) = below s.sent (length (own_frame s.start)) (owes_some s owes).1 in
        absurd (omega (arith, less, sent, ap length b, length-append (own_frame s.start) (sequence (sending s.start) 0 (map segment_octets us))))

-- where as many octets went out as the start-up frame has, no frame did
pub nothing_out : (s : StreamState) (t : Tale) (e : Emits s t) → s.sent ≡ length t.sent → nat_lt s.sent (first_place_out s.start) ≡ false → s.sent ≡ first_place_out s.start → out_of s t e ≡ []
nothing_out s t e sent spoken place =
    let frames : Octets = sequence (sending s.start) 0 (map segment_octets (out_of s t e)) in
    framed_none (sending s.start) (out_of s t e) e.good (no_octets frames (omega (arith, sent, place, ap length (past_start s t e sent spoken), length-append (own_frame s.start) frames)))
  where
    no_octets : (xs : Octets) → length xs ≡ 0 → xs ≡ []
    no_octets [] h = refl
    no_octets (x ∷ xs) h = absurd (omega (arith, h))

-- where no RTR is due, none is left
pub ready_gone : (s : StreamState) (t : Tale) (e : Emits s t) → s.sent ≡ length t.sent → ended s ≡ false → owes_frame s ≡ false → rtr_due s ≡ None → e.left ≡ []
ready_gone s t e sent running owes unready = elim e.spoken [
  | inl gone ↦ gone
  | inr all ↦
      let l = lives s t e running in
      let out : out_of s t e ≡ [] = alone_out e.segments (farewells t.story.farewell) l.none ∙ all.0 in
      let framed = past_start s t e sent (all_spoken s owes (runs_unbroken s.ending running)) in
      let place : s.sent ≡ first_place_out s.start = sent ∙ ap length (framed ∙ ap (λ z. own_frame s.start ++ sequence (sending s.start) 0 (map segment_octets z)) out ∙ ap (λ z. own_frame s.start ++ z) (nothing_framed (sending s.start)) ∙ append-nil (own_frame s.start)) in
      all.1 ∙ none_ready s unready place
]

-- a frame that goes out behind the RTR is not taken for it
pub not_rtr : (s : StreamState) (t : Tale) (from : ℕ) → t.story.start ≡ s.start → from ≡ s.sent → s.sent ≡ length t.sent → nat_lt s.sent (first_place_out s.start) ≡ false → (e : Emits s t) → e.left ≡ [] → farewells t.story.farewell ≡ [] → is_rtr t.story from ≡ false
not_rtr s t from start from_is sent spoken e gone none = (λ i. is_some (rtr_in (start i)) && nat_eq (from_is i) (first_place_out (start i))) ∙ go (rtr_in s.start) refl (nat_eq s.sent (first_place_out s.start)) refl
  where
    first_none : (xs ys : List (Segment Octets)) → xs ++ ys ≡ [] → xs ≡ []
    first_none [] ys h = refl
    first_none (x ∷ xs) ys h = cc

    go : (o : Option Rtr) → rtr_in s.start ≡ o → (b : Bool) → nat_eq s.sent (first_place_out s.start) ≡ b → (is_some o && b) ≡ false
    go None is b h = refl
    go (Some rtr) is false h = refl
    go (Some rtr) is true h =
        let place : s.sent ≡ first_place_out s.start = grind (arith, nat_tests) in
        let nothing : e.segments ≡ [] = first_none e.segments (farewells t.story.farewell) (nothing_out s t e sent spoken place) in
        let one : length (ready_in s.start) ≡ 1 = ap (λ o. length (listed (option_map rtr_message o))) is in
        absurd (omega (arith, e.whole, ap count_last nothing, ap length gone, one))
