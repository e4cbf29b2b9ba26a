-- The parts that an end sends, and their segments.
use Rattle.std.proofs.Common.{◌≡◌, ℕ, zero, suc, ◌+◌, ◌-◌, ◌%◌, ◌^◌, ◌<◌, ◌≤◌, List, [], ◌∷◌, ◌++◌, length, take, drop, Option, Some, None, Bool, true, false, cond, refl, sym, subst, arith, length-append, length-take, inl, inr, ◌⊎◌, ◌||◌, ◌&&◌, not, ◌∙◌}
use Rattle.std.specs.Prelude.{All, is_some, min, nat_eq, nat_le}
use Rattle.std.proofs.lemmas.Bool.{true≢false}
use Rattle.std.specs.Option.{option_map, option_map_or}
use Rattle.std.proofs.lemmas.Option.{none-some, same_Some}
use Rattle.std.proofs.lemmas.List.Elements.{All-head}
use Rattle.iw_octets.specs.declared.stag.Stag.{Stag}
use Rattle.iw_octets.specs.declared.message.Message.TheVariants.{Write, Send}
use Rattle.iw_octets.specs.declared.segment.Segment.{Segment}
use Rattle.iw_octets.specs.Stag.{number_of}
use Rattle.iw_octets.specs.Segment.{segment_octets, FitsSegment}
use Rattle.iw_octets.proofs.Segments.{length-segment_octets_tagged, length-segment_octets_untagged}
use Rattle.iw_queues.specs.declared.request.Request.{Request}
use Rattle.iw_queues.specs.declared.request.Request.TheVariants.{Message as Posted, Read}
use Rattle.iw_queues.specs.declared.request.Refusal.{Refusal}
use Rattle.iw_queues.specs.declared.send_queue.Part.{Part}
use Rattle.iw_queues.specs.Request.{payload, size_of, header_len}
use Rattle.iw_queues.specs.Completions.{next_ticket}
use Rattle.iw_queues.specs.Queue.{Queue, next_part, part_of_first, part_from, IsBegun, IsWithinLimits}
use Rattle.iw_queues.specs.Queue as queues
use Rattle.iw_queues.specs.Segments.{Numbers, first_numbers, numbers_after, numbers_beyond, segment_with, segment_of, AreSegments}
use Rattle.iw_octets.specs.declared.operation.UntaggedOperation.TheVariants as untagged
use Rattle.iw_octets.specs.Operation.{control_of, untagged_opcode}
use Rattle.iw_stream.specs.declared.answer.PostRefusal.TheVariants as post_refusals
use Rattle.iw_stream.specs.Starting.{is_open, most_reads_in, own_frame}
use Rattle.iw_stream.specs.Judging.{fault_or}
use Rattle.iw_startup.specs.declared.enhanced.Rtr.{Rtr}
use Rattle.iw_startup.specs.declared.enhanced.Rtr.TheVariants as rtrs
use Rattle.iw_stream.specs.Rtr.{rtr_stag, rtr_request, rtr_message, rtr_segment}
use Rattle.iw_stream.specs.Stream.{StreamState, Due, StartUp, LastWord, Response, NextPart, NoneDue, ended, post_refusal, post_refusal_of, owes_frame, keeps_silent, is_read, may_go, part_due, response_due, due, frame_of, frame_of_part, frame_of_terminate, octets_due, octets_fetched, emission_due, emission_fetched, emission_of, emitted, Ready, rtr_due, frame_of_rtr, peer_of}
use Rattle.iw_reads.specs.declared.response.ResponsePart.{ResponsePart}
use Rattle.iw_reads.specs.Response.{response_head, fetch_fault, fetched_octets}
use Rattle.iw_memory.specs.Table.{Table, octets_at}
use Rattle.iw_octets.specs.declared.fault.Fault.{Fault}
use Rattle.iw_octets.specs.declared.payload.ReadRequest.{ReadRequest}
use Rattle.iw_octets.specs.declared.segment.Segment.TheVariants.{Tagged, Untagged}
use Rattle.iw_octets.specs.Payload.{request_octets}
use Rattle.iw_octets.proofs.Spelled.{length-request_octets, length-word_octets}
use Rattle.iw_events.specs.declared.act.Shown.{Shown}
use Rattle.iw_events.specs.declared.act.Shown.TheVariants.{Frame, Fetched, Fault as Denied, Nothing}
use Rattle.iw_laws.specs.Rules.{FitsPosted, FitsOptional}
use Rattle.iw_laws.specs.Words.{Octets}
use Rattle.iw_laws.specs.Rules.{shown_of}
use Rattle.iw_laws.specs.Sends.{terminate_segment}
use Rattle.iw_laws.specs.Turns.{carries_response, is_last}
use Rattle.iw_stream.specs.Ending.{last_word}
use Rattle.iw_rdmap.specs.Laws.{terminate_head}
use Rattle.iw_rdmap.specs.Terminate.{header_len as front_len, has_segment, has_request, word_for, terminate_octets}
use Rattle.iw_octets.specs.Head.{is_tagged}
use Rattle.iw_octets.specs.Payload.{word_octets}
use Rattle.std.specs.Int.{w16, to_be_bytes}
use Rattle.std.specs.Prelude.{slice_index}

-- the numbers of the next messages fit their fields
pub record FitsNumbers (numbers : Numbers) : Type 0 where
  pub send : numbers.send < 2 ^ 32
  pub read : numbers.read < 2 ^ 32

abbrev pub version_of : Segment Octets → ℕ
version_of (Tagged head payload) = head.ddp_version
version_of (Untagged head payload) = head.ddp_version

-- a segment that is read again as it was written, but for the sink of a response, whose number the peer gave
pub record IsSendable (segment : Segment Octets) : Type 0 where
  pub fits : carries_response segment ≡ false → FitsSegment segment
  pub version : version_of segment < 4
  pub small : length (segment_octets segment) ≤ 64512

-- ---- postings

-- a message that is accepted is posted on an open stream, and not refused by the queue
pub record IsAccepted (s : StreamState) (m : Request Octets) : Type 0 where
  pub running : ended s ≡ false
  pub started : is_open s.start ≡ true
  pub posted : queues.post_refusal s.queue m ≡ None

pub accepted : (s : StreamState) (m : Request Octets) → None ≡ post_refusal s m → IsAccepted s m
accepted s m e = go (ended s) (is_open s.start) (is_read m && nat_eq (most_reads_in s.start) 0) (queues.post_refusal s.queue m) refl refl refl e
  where
    go : (over started unread : Bool) (o : Option Refusal) → ended s ≡ over → is_open s.start ≡ started → queues.post_refusal s.queue m ≡ o
        → None ≡ cond (over || not started) (Some post_refusals.NotOpen) (cond unread (Some post_refusals.NoReads) (option_map post_refusal_of o)) → IsAccepted s m
    go true started unread o a b c h = absurd (none-some _ h)
    go false false unread o a b c h = absurd (none-some _ h)
    go false true true o a b c h = absurd (none-some _ h)
    go false true false (Some refusal) a b c h = absurd (none-some _ h)
    go false true false None a b c h = record { running = a; started = b; posted = c }

-- ---- emissions

-- no frame is owed, and the stream has ended, is not open, keeps silent, or no part is due
pub data Rests (s : StreamState) : Type 0 where
  Ended : ended s ≡ true → Rests s
  Shut : is_open s.start ≡ false → Rests s
  Silent : keeps_silent s ≡ true → Rests s
  Sent : rtr_due s ≡ None → response_due s ≡ None → part_due s ≡ None → Rests s

-- the stream has not ended, is open and need not keep silent
pub record MaySpeak (s : StreamState) : Type 0 where
  pub spoken : owes_frame s ≡ false
  pub running : ended s ≡ false
  pub started : is_open s.start ≡ true
  pub loud : keeps_silent s ≡ false

-- a Read finds fewer outstanding than may be
abbrev pub HasRoom : StreamState → Part (Request Octets) → Type 0
HasRoom s part = (is_read part.message && nat_le (most_reads_in s.start) (length s.reads)) ≡ false

-- and this part is due
pub record IsLoud (s : StreamState) (part : Part (Request Octets)) : Type 0 where
  pub spoken : owes_frame s ≡ false
  pub running : ended s ≡ false
  pub started : is_open s.start ≡ true
  pub loud : keeps_silent s ≡ false
  pub unready : rtr_due s ≡ None
  pub quiet : response_due s ≡ None
  pub part_is : next_part s.queue s.mulpdu ≡ Some part
  pub room : HasRoom s part

-- why this is due
abbrev IsDue : StreamState → Due → Type 0
IsDue s StartUp = owes_frame s ≡ true
IsDue s (LastWord payload) = (owes_frame s ≡ false) × (last_word s.ending ≡ Some payload)
IsDue s (Ready rtr) = MaySpeak s × (rtr_due s ≡ Some rtr)
IsDue s (Response part) = MaySpeak s × (rtr_due s ≡ None) × (response_due s ≡ Some part)
IsDue s (NextPart part) = IsLoud s part
IsDue s NoneDue = (owes_frame s ≡ false) × (last_word s.ending ≡ None) × Rests s

goes : (s : StreamState) (part : Part (Request Octets)) → part_due s ≡ Some part → (next_part s.queue s.mulpdu ≡ Some part) × HasRoom s part
goes s part e = go (next_part s.queue s.mulpdu) refl e
  where
    go : (o : Option (Part (Request Octets))) → next_part s.queue s.mulpdu ≡ o → may_go (most_reads_in s.start) s.reads o ≡ Some part → (next_part s.queue s.mulpdu ≡ Some part) × HasRoom s part
    go None is h = absurd (none-some _ h)
    go (Some p) is h = by (is_read p.message && nat_le (most_reads_in s.start) (length s.reads)) refl h
      where
        by : (b : Bool) → (is_read p.message && nat_le (most_reads_in s.start) (length s.reads)) ≡ b → cond b None (Some p) ≡ Some part → (next_part s.queue s.mulpdu ≡ Some part) × HasRoom s part
        by true c h = absurd (none-some _ h)
        by false c h = let same : p ≡ part = same_Some _ _ h in (is ∙ h, subst (HasRoom s) same c)

due_told : (s : StreamState) → IsDue s (due s)
due_told s = go (owes_frame s) (last_word s.ending) (ended s) (is_open s.start) (keeps_silent s) (rtr_due s) (response_due s) (part_due s) refl refl refl refl refl refl refl refl
  where
    go : (owes : Bool) (w : Option Octets) (over started silent : Bool) (y : Option Rtr) (r : Option ResponsePart) (o : Option (Part (Request Octets))) → owes_frame s ≡ owes → last_word s.ending ≡ w → ended s ≡ over → is_open s.start ≡ started → keeps_silent s ≡ silent
        → rtr_due s ≡ y → response_due s ≡ r → part_due s ≡ o
        → IsDue s (cond owes StartUp (option_map_or LastWord w (cond (over || (not started || silent)) NoneDue (option_map_or Ready y (option_map_or Response r (option_map_or NextPart o NoneDue))))))
    go true w over started silent y r o a z b c d n q is = a
    go false (Some payload) over started silent y r o a z b c d n q is = (a, z)
    go false None true started silent y r o a z b c d n q is = (a, z, Ended b)
    go false None false false silent y r o a z b c d n q is = (a, z, Shut c)
    go false None false true true y r o a z b c d n q is = (a, z, Silent d)
    go false None false true false (Some rtr) r o a z b c d n q is = (record { spoken = a; running = b; started = c; loud = d }, n)
    go false None false true false None (Some part) o a z b c d n q is = (record { spoken = a; running = b; started = c; loud = d }, n, q)
    go false None false true false None None None a z b c d n q is = (a, z, Sent n q is)
    go false None false true false None None (Some part) a z b c d n q is =
        let g = goes s part is in
        record { spoken = a; running = b; started = c; loud = d; unready = n; quiet = q; part_is = g.0; room = g.1 }

-- the start-up frame is emitted
pub record EmitsStart (s : StreamState) (from : ℕ) (octets : Octets) : Type 0 where
  pub owes : owes_frame s ≡ true
  pub next : due s ≡ StartUp
  pub from_is : from ≡ s.sent
  pub octets_are : octets ≡ own_frame s.start

-- the Terminate that is due is emitted
pub record EmitsLast (s : StreamState) (from : ℕ) (octets : Octets) : Type 0 where
  pub spoken : owes_frame s ≡ false
  pub payload : Octets
  pub is_due : last_word s.ending ≡ Some payload
  pub next : due s ≡ LastWord payload
  pub from_is : from ≡ s.sent
  pub octets_are : octets ≡ frame_of_terminate s payload

-- the RTR is emitted
pub record EmitsReady (s : StreamState) (from : ℕ) (octets : Octets) : Type 0 where
  pub rtr : Rtr
  pub speaks : MaySpeak s
  pub is_due : rtr_due s ≡ Some rtr
  pub next : due s ≡ Ready rtr
  pub from_is : from ≡ s.sent
  pub octets_are : octets ≡ frame_of_rtr s rtr

-- a frame is emitted: that of the part that is due, on an open stream that has not ended and need not keep silent
pub record EmitsPart (s : StreamState) (from : ℕ) (octets : Octets) : Type 0 where
  pub part : Part (Request Octets)
  pub is_loud : IsLoud s part
  pub next : due s ≡ NextPart part
  pub from_is : from ≡ s.sent
  pub octets_are : octets ≡ frame_of_part s part

-- that of part of a response is, with octets that may be read
pub record EmitsResponse (table : Table) (s : StreamState) (from : ℕ) (frame : Octets) (stag : Stag) (to : ℕ) (octets : Octets) : Type 0 where
  pub part : ResponsePart
  pub speaks : MaySpeak s
  pub unready : rtr_due s ≡ None
  pub is_due : response_due s ≡ Some part
  pub from_is : from ≡ s.sent
  pub frame_is : frame ≡ frame_of s (Tagged part.head octets)
  pub stag_is : stag ≡ part.stag
  pub to_is : to ≡ part.to
  pub octets_are : octets ≡ octets_at table part.stag part.to part.n
  pub admitted : fetch_fault table (peer_of s) part ≡ None

-- the octets of the part that is due are denied
pub record EmitsDenial (table : Table) (s : StreamState) (fault : Fault) : Type 0 where
  pub part : ResponsePart
  pub speaks : MaySpeak s
  pub unready : rtr_due s ≡ None
  pub is_due : response_due s ≡ Some part
  pub denied : fetch_fault table (peer_of s) part ≡ Some fault

-- nothing is emitted
pub record EmitsNothing (s : StreamState) : Type 0 where
  pub spoken : owes_frame s ≡ false
  pub silent : last_word s.ending ≡ None
  pub next : due s ≡ NoneDue
  pub reason : Rests s

abbrev pub Emits_as : Table → StreamState → Shown Octets → Type 0
Emits_as table s (Frame from octets) = EmitsStart s from octets ⊎ (EmitsLast s from octets ⊎ (EmitsReady s from octets ⊎ EmitsPart s from octets))
Emits_as table s (Fetched from frame stag to octets) = EmitsResponse table s from frame stag to octets
Emits_as table s (Denied fault) = EmitsDenial table s fault
Emits_as table s Nothing = EmitsNothing s

pub emits_as : (table : Table) (s : StreamState) (shown : Shown Octets) → shown ≡ shown_of table (emission_of table s) (emitted table s) → Emits_as table s shown
emits_as table s shown e = subst (Emits_as table s) (sym e) (go (due s) refl (due_told s))
  where
    fetched : (part : ResponsePart) → MaySpeak s → rtr_due s ≡ None → response_due s ≡ Some part → (f : Option Fault) → fetch_fault table (peer_of s) part ≡ f
        → Emits_as table s (shown_of table (emission_fetched s part (fault_or f (frame_of s (Tagged part.head (fetched_octets table part))))) (octets_fetched (fault_or f (frame_of s (Tagged part.head (fetched_octets table part))))))
    fetched part speaks unready due None c = record { part = part; speaks = speaks; unready = unready; is_due = due; from_is = refl; frame_is = refl; stag_is = refl; to_is = refl; octets_are = refl; admitted = c }
    fetched part speaks unready due (Some fault) c = record { part = part; speaks = speaks; unready = unready; is_due = due; denied = c }

    go : (d : Due) → due s ≡ d → IsDue s d → Emits_as table s (shown_of table (emission_due table s d) (octets_due table s d))
    go StartUp is t = inl (record { owes = t; next = is; from_is = refl; octets_are = refl })
    go (Response part) is t = fetched part t.0 t.1 t.2 (fetch_fault table (peer_of s) part) refl
    go (LastWord payload) is t = inr (inl (record { spoken = t.0; payload = payload; is_due = t.1; next = is; from_is = refl; octets_are = refl }))
    go (Ready rtr) is t = inr (inr (inl (record { rtr = rtr; speaks = t.0; is_due = t.1; next = is; from_is = refl; octets_are = refl })))
    go (NextPart part) is t = inr (inr (inr (record { part = part; is_loud = t; next = is; from_is = refl; octets_are = refl })))
    go NoneDue is t = record { spoken = t.0; silent = t.1; next = is; reason = t.2 }

-- where no part is due, nothing is left to be sent
pub none_left : (q : Queue) (max : ℕ) → next_part q max ≡ None → q.unsent ≡ []
none_left q max e = go q.unsent e
  where
    go : (messages : List (Request Octets)) → part_of_first (next_ticket q.sent) messages q.offset max ≡ None → messages ≡ []
    go [] h = refl
    go (m ∷ ms) h = absurd (none-some _ (sym h))

-- the part that a queue shows is of the first message
pub record Shows (q : Queue) (max : ℕ) (part : Part (Request Octets)) : Type 0 where
  pub message : Request Octets
  pub messages : List (Request Octets)
  pub unsent : q.unsent ≡ message ∷ messages
  pub is : part ≡ part_from (next_ticket q.sent) message q.offset max

pub shows : (q : Queue) (max : ℕ) (part : Part (Request Octets)) → next_part q max ≡ Some part → Shows q max part
shows q max part e = go q.unsent refl e
  where
    go : (messages : List (Request Octets)) → q.unsent ≡ messages → part_of_first (next_ticket q.sent) messages q.offset max ≡ Some part → Shows q max part
    go [] is h = absurd (none-some _ h)
    go (m ∷ ms) is h = record { message = m; messages = ms; unsent = is; is = sym (same_Some _ _ h) }

-- ---- segments

number_fits : (invalidate : Option Stag) → FitsOptional invalidate → option_map_or number_of invalidate 0 < 2 ^ 32
number_fits None h = omega arith
number_fits (Some stag) h = omega (arith, h.domain, h.slot, h.key)

control_fits : (solicited invalidates : Bool) → control_of (untagged_opcode (untagged.Send solicited invalidates)) < 256
control_fits false false = omega arith
control_fits false true = omega arith
control_fits true false = omega arith
control_fits true true = omega arith

taken_few : (n offset : ℕ) (octets : Octets) → length (take n (drop offset octets)) ≤ n
taken_few n offset octets = omega (arith, length-take n (drop offset octets))

part_good : (numbers : Numbers) (m : Request Octets) (offset n : ℕ) (last : Bool) → FitsNumbers numbers → FitsPosted m → offset < 2 ^ 32 → n + header_len m ≤ 64512
    → IsSendable (segment_with numbers m offset last (take n (drop offset (payload m))))
part_good numbers (Posted (Write stag to octets)) offset n last number fits low room = record {
  fits = λ h. record { ddp_version = omega arith; control = omega arith; stag = fits.0; to = omega arith };
  version = omega arith;
  small = omega (
    arith,
    length-segment_octets_tagged (record { last = last; ddp_version = 1; control = control_of 0; stag = stag; to = (to + offset) % 2 ^ 64 }) (take n (drop offset octets)),
    taken_few n offset octets,
    room,
  );
}
part_good numbers (Posted (Send octets solicited invalidate)) offset n last number fits low room = record {
  version = omega arith;
  fits = λ h. record {
    ddp_version = omega arith;
    control = control_fits solicited (is_some invalidate);
    tail = number_fits invalidate fits;
    queue = omega arith;
    msn = number.send;
    mo = low;
  };
  small = omega (
    arith,
    length-segment_octets_untagged
        (record {
          last = last;
          ddp_version = 1;
          control = control_of (untagged_opcode (untagged.Send solicited (is_some invalidate)));
          tail = option_map_or number_of invalidate 0;
          queue = 0;
          msn = numbers.send;
          mo = offset;
        })
        (take n (drop offset octets)),
    taken_few n offset octets,
    room,
  );
}
part_good numbers (Read request) offset n last number fits low room = record {
  version = omega arith;
  fits = λ h. record { ddp_version = omega arith; control = omega arith; tail = omega arith; queue = omega arith; msn = number.read; mo = omega arith };
  small = omega (
    arith,
    length-segment_octets_untagged (record { last = true; ddp_version = 1; control = control_of (untagged_opcode untagged.ReadRequest); tail = 0; queue = 1; msn = numbers.read; mo = 0 }) (request_octets request),
    length-request_octets request,
  );
}

-- the segment of part of a response
pub response_good : (request : ReadRequest) (offset : ℕ) (last : Bool) (octets : Octets) → length octets + 14 ≤ 64512 → IsSendable (Tagged (response_head request offset last) octets)
response_good request offset last octets room = record {
  fits = λ h. absurd (true≢false h);
  version = omega arith;
  small = omega (arith, length-segment_octets_tagged (response_head request offset last) octets, room);
}

-- what comes with a fault is 52 octets at most
pub terminate_few : (fault : Fault) (first : Octets) (len : ℕ) (request : Bool) → length (terminate_octets fault first len request) ≤ 52
terminate_few fault first len request =
    sum (word_octets (word_for fault request)) (cond (has_segment fault) (to_be_bytes w16 len ++ take (front_len first) first) []) (cond (has_request fault request) (take 28 (drop (front_len first) first)) [])
    (length-word_octets (word_for fault request)) (of_segment (has_segment fault)) (of_request (has_request fault request))
  where
    sum : (word segment header : Octets) → length word ≡ 4 → length segment ≤ 20 → length header ≤ 28 → length ((word ++ segment) ++ header) ≤ 52
    sum word segment header a b c = omega (arith, length-append (word ++ segment) header, length-append word segment, a, b, c)

    header_few : (b : Bool) → cond b 14 18 ≤ 18
    header_few true = omega arith
    header_few false = omega arith

    of_segment : (b : Bool) → length (cond b (to_be_bytes w16 len ++ take (front_len first) first) []) ≤ 20
    of_segment true = omega (arith, length-append (to_be_bytes w16 len) (take (front_len first) first), length-take (front_len first) first, header_few (is_tagged (slice_index first 0)))
    of_segment false = omega arith

    of_request : (b : Bool) → length (cond b (take 28 (drop (front_len first) first)) []) ≤ 28
    of_request true = omega (arith, length-take 28 (drop (front_len first) first))
    of_request false = omega arith

-- the segment of a Terminate
pub terminate_small : (payload : Octets) → length payload ≤ 52 → length (segment_octets (terminate_segment payload)) ≤ 70
terminate_small payload few = omega (arith, few, length-segment_octets_untagged terminate_head payload)

pub terminate_good : (payload : Octets) → length payload ≤ 52 → IsSendable (terminate_segment payload)
terminate_good payload few = record {
  fits = λ h. record { ddp_version = omega arith; control = omega arith; tail = omega arith; queue = omega arith; msn = omega arith; mo = omega arith };
  version = omega arith;
  small = omega (arith, terminate_small payload few);
}

pub header_small : (m : Request Octets) → header_len m ≤ 18
header_small (Posted (Write stag to octets)) = omega arith
header_small (Posted (Send octets solicited invalidate)) = omega arith
header_small (Read request) = omega arith

low : (offset len : ℕ) → (0 < offset → offset < len) → len ≤ 16777216 → offset < 2 ^ 32
low zero len begun few = omega arith
low (suc k) len begun few = let more : suc k < len = begun (omega arith) in omega (arith, more, few)

begun_low : (m : Request Octets) (ms : List (Request Octets)) (offset : ℕ) → FitsPosted m → size_of m ≤ 16777216 → IsBegun (m ∷ ms) offset → offset < 2 ^ 32
begun_low (Posted (Write stag to octets)) ms offset fits size begun = low offset (length octets) begun size
begun_low (Posted (Send octets solicited invalidate)) ms offset fits size begun = low offset (length octets) begun size
begun_low (Read request) ms offset fits size begun = low offset 0 begun (omega arith)

-- the segment of the part that a queue shows
pub shown_good : (numbers : Numbers) (q : Queue) (max : ℕ) (part : Part (Request Octets)) → next_part q max ≡ Some part → IsWithinLimits q → 128 ≤ max → max ≤ 64512 → FitsNumbers numbers
    → ((m : Request Octets) (ms : List (Request Octets)) → q.unsent ≡ m ∷ ms → FitsPosted m) → IsSendable (segment_of numbers part)
shown_good numbers q max part e limits enough few number fit =
    let w = shows q max part e in
    let m : Request Octets = w.message in
    let fits : FitsPosted m = fit m w.messages w.unsent in
    let size : size_of m ≤ 16777216 = All-head (λ x. size_of x ≤ 16777216) m w.messages (subst (All (λ x. size_of x ≤ 16777216)) w.unsent limits.sizes) in
    let early : q.offset < 2 ^ 32 = begun_low m w.messages q.offset fits size (subst (λ ms. IsBegun ms q.offset) w.unsent limits.begun) in
    let room : min (length (payload m) - q.offset) (max - header_len m) + header_len m ≤ 64512 = omega (arith, header_small m, enough, few) in
    subst (λ p. IsSendable (segment_of numbers p)) (sym w.is) (part_good numbers m q.offset (min (length (payload m) - q.offset) (max - header_len m)) _ number fits early room)

-- the numbers of the next messages stay within their fields
pub next_small : (numbers : Numbers) (m : Request Octets) → FitsNumbers numbers → FitsNumbers (numbers_after numbers m)
next_small numbers (Posted (Write stag to octets)) h = h
next_small numbers (Posted (Send octets solicited invalidate)) h = record { send = omega arith; read = h.read }
next_small numbers (Read request) h = record { send = h.send; read = omega arith }

pub past_small : (numbers : Numbers) (part : Part (Request Octets)) → FitsNumbers numbers → FitsNumbers (numbers_beyond numbers part)
past_small numbers part h = go part.last
  where
    go : (last : Bool) → FitsNumbers (cond last (numbers_after numbers part.message) numbers)
    go true = next_small numbers part.message h
    go false = h

-- ---- the RTR

pub rtr_fits : (rtr : Rtr) → FitsPosted (rtr_message rtr)
rtr_fits rtrs.Write = (record { domain = omega arith; slot = omega arith; key = omega arith }, omega arith)
rtr_fits rtrs.Read = record {
  sink = record { domain = omega arith; slot = omega arith; key = omega arith };
  sink_to = omega arith;
  size = omega arith;
  source = record { domain = omega arith; slot = omega arith; key = omega arith };
  source_to = omega arith;
}

-- its segment
pub rtr_good : (numbers : Numbers) (rtr : Rtr) → FitsNumbers numbers → IsSendable (rtr_segment numbers rtr)
rtr_good numbers rtrs.Write number = part_good numbers (rtr_message rtrs.Write) 0 0 true number (rtr_fits rtrs.Write) (omega arith) (omega arith)
rtr_good numbers rtrs.Read number = part_good numbers (rtr_message rtrs.Read) 0 0 true number (rtr_fits rtrs.Read) (omega arith) (omega arith)

-- its size
pub rtr_small : (numbers : Numbers) (rtr : Rtr) → length (segment_octets (rtr_segment numbers rtr)) ≤ 46
rtr_small numbers rtrs.Write = omega (arith, length-segment_octets_tagged (record { last = true; ddp_version = 1; control = control_of 0; stag = rtr_stag; to = 0 }) [])
rtr_small numbers rtrs.Read =
    omega (
      arith,
      length-segment_octets_untagged (record { last = true; ddp_version = 1; control = control_of (untagged_opcode untagged.ReadRequest); tail = 0; queue = 1; msn = numbers.read; mo = 0 }) (request_octets rtr_request),
      length-request_octets rtr_request,
    )

pub rtr_plain : (numbers : Numbers) (rtr : Rtr) → carries_response (rtr_segment numbers rtr) ≡ false
rtr_plain numbers rtrs.Write = refl
rtr_plain numbers rtrs.Read = refl

pub rtr_last : (numbers : Numbers) (rtr : Rtr) → is_last (rtr_segment numbers rtr) ≡ true
rtr_last numbers rtrs.Write = refl
rtr_last numbers rtrs.Read = refl

pub rtr_spelled : (rtr : Rtr) → AreSegments first_numbers (rtr_message rtr) 0 (rtr_segment first_numbers rtr ∷ [])
rtr_spelled rtrs.Write = (omega arith, refl)
rtr_spelled rtrs.Read = refl
