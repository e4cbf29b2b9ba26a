-- A call that is on another stream, or on none, leaves a stream as it is; and what the stream does reads no region and no pool.
use Rattle.std.proofs.Common.{◌≡◌, ◌≢◌, ℕ, ◌+◌, Bool, true, false, cond, not, if◌then◌else◌, List, set, get_or, Option, Some, None, Result, Ok, Err, refl, sym, ap, ◌∙◌}
use Rattle.std.specs.Prelude.{unwrap_or}
use Rattle.std.specs.Option.{option_map_or}
use Rattle.std.proofs.lemmas.Bool.{false≢true}
use Rattle.std.proofs.lemmas.List.{get_or-set_other}
use Rattle.iw_octets.specs.declared.fault.Fault.{Fault}
use Rattle.iw_memory.specs.Forms.{own_refusal, kept_refusal}
use Rattle.iw_memory.specs.Region.{most_octets}
use Rattle.iw_memory.specs.Table.{Table, register_refusal, register_refusal_within}
use Rattle.iw_queues.specs.Queue.{done_in, oldest_in}
use Rattle.iw_untagged.specs.Receiving.{Receiving, Source, Posted, Pooled, first_buffer, seeing}
use Rattle.iw_stream.specs.declared.answer.Step.{Step}
use Rattle.iw_stream.specs.declared.answer.Step.TheVariants as steps
use Rattle.iw_stream.specs.declared.answer.Step.TheVariants.{Idle}
use Rattle.iw_stream.specs.declared.landing.Landing.{Landing}
use Rattle.iw_stream.specs.declared.landing.Landing.TheVariants.{Write, Response, Send, Request, Terminate}
use Rattle.iw_stream.specs.declared.landing.PlacedFrame.{PlacedFrame}
use Rattle.iw_stream.specs.declared.landing.Turning.{Turning}
use Rattle.iw_stream.specs.declared.landing.Turning.TheVariants.{Passed, Completed, Answered}
use Rattle.iw_stream.specs.Judging.{turn_of, verdict, early_verdict}
use Rattle.iw_stream.specs.Starting.{is_open, awaits_frame, progress_in, first_place_in}
use Rattle.iw_stream.specs.Stream.{StreamState, ended, due, is_none_due}
use Rattle.iw_stream.specs.Work.{Task, HandOut, GiveUp, GiveBack, Hear, Turn, Clash, Judge, Try, Rest, clash_fault, task, frame_task, inbox, standing, heard_step, turned_step, judged_step, tried_step, step_of, work_step}
use Rattle.iw_endpoint.specs.declared.refusal.NoSuchStream.{NoSuchStream}
use Rattle.iw_endpoint.specs.Endpoint.{EndpointState, Pool, pool_of, lent_to, stream_of, unopened, answer_at, after_work, new_stream, new_shared, answer_refusal, post_refusal, recv_refusal, first_refusal, close_refusal, limit_refusal, limit_refusal_within, size_refusal, domain_refusal, store_refusal, open_refusal, share_refusal, pool_refusal, take_refusal, open_shared_refusal, next_refusal, next_shared_refusal, opened_next, opened_shared_next}
use Rattle.iw_endpoint.specs.Sharing.{has_fewer, after_work_alone, after_work_within}
use Rattle.iw_endpoint.specs.Isolation.{StreamCall, Accept, Reject, Post, PostRecv, FirstNumber, Deliver, Work, WorkWithin, Emit, BreakLink, Close, RegisterFor, RegisterDrawnFor, RegisterOctetsFor, RegisterOctetsDrawnFor, SetMulpdu, Private, Told, PeerOptions, Standing, HasDue, PeerFirst, Sent, DueLen, InOrderPoint, BoundBuffers, Limits, Call, AddDomain, Register, RegisterDrawn, RegisterOctets, RegisterOctetsDrawn, Deregister, DeregisterKept, TakeRegion, Invalidate, Store, Facts, Local, LocalMut, Open, Share, PostShared, TakeShared, OpenShared, OpenNext, OpenSharedNext, AtStream, after, after_stream, unless, if_there}
use Rattle.iw_endpoint.proofs.Filled.{put_is}
use Rattle.iw_endpoint.proofs.Steps.{never as none_left, never_shared as none_left_shared}
use Rattle.iw_handle.specs.Elsewhere.{HasNoWork, IsElsewhere, CallsGiveWorkToTheirOwnStream}

-- ---- the stream stays as it is

same_unless : {R : Type 0} (q : Option R) (e f : EndpointState) (n : ℕ) → stream_of f n ≡ stream_of e n → stream_of (unless q e f) n ≡ stream_of e n
same_unless None e f n same = same
same_unless (Some r) e f n same = refl

same_there : (o : Option StreamState) (e f : EndpointState) (n : ℕ) → stream_of f n ≡ stream_of e n → stream_of (if_there o e f) n ≡ stream_of e n
same_there None e f n same = refl
same_there (Some s) e f n same = same

other : (e : EndpointState) (m n : ℕ) (o : Option StreamState) → n ≢ m → get_or (set e.streams m o) n None ≡ stream_of e n
other e m n o ne = get_or-set_other e.streams m n o None ne

within_other : (e : EndpointState) (m share n : ℕ) → n ≢ m → stream_of (after_work_within e m share) n ≡ stream_of e n
within_other e m share n ne = go (has_fewer e m share)
  where
    go : (fewer : Bool) → stream_of (if fewer then after_work e m else after_work_alone e m) n ≡ stream_of e n
    go true = other e m n _ ne
    go false = other e m n _ ne

at_other : (e : EndpointState) (m n : ℕ) (call : StreamCall) → n ≢ m → stream_of (after_stream e m call) n ≡ stream_of e n
at_other e m n (Accept private) ne = same_unless (answer_refusal e m private.items) e _ n (other e m n _ ne)
at_other e m n (Reject private) ne = same_unless (answer_refusal e m private.items) e _ n (other e m n _ ne)
at_other e m n (Post request) ne = same_unless (post_refusal e m request) e _ n (other e m n _ ne)
at_other e m n (PostRecv buffer) ne = same_unless (recv_refusal e m) e _ n (other e m n _ ne)
at_other e m n (FirstNumber first) ne = same_unless (first_refusal e m) e _ n (other e m n _ ne)
at_other e m n (Deliver from octets) ne = same_there (stream_of e m) e _ n (other e m n _ ne)
at_other e m n Work ne = same_there (stream_of e m) e _ n (other e m n _ ne)
at_other e m n (WorkWithin share) ne = same_there (stream_of e m) e (after_work_within e m share) n (within_other e m share n ne)
at_other e m n Emit ne = same_there (stream_of e m) e _ n (other e m n _ ne)
at_other e m n BreakLink ne = same_there (stream_of e m) e _ n (other e m n _ ne)
at_other e m n Close ne = same_unless (close_refusal e m) e _ n (other e m n _ ne)
at_other e m n (RegisterFor base octets rights) ne = same_unless (limit_refusal e m base _) e _ n refl
at_other e m n (RegisterDrawnFor base octets rights drawn) ne = same_unless (limit_refusal e m base _) e _ n refl
at_other e m n (RegisterOctetsFor base octets kept rights) ne = same_unless (limit_refusal_within (most_octets kept) e m base _) e _ n refl
at_other e m n (RegisterOctetsDrawnFor base octets kept rights drawn) ne = same_unless (limit_refusal_within (most_octets kept) e m base _) e _ n refl
at_other e m n (SetMulpdu size) ne = same_unless (size_refusal e m size) e _ n (other e m n _ ne)
at_other e m n Private ne = refl
at_other e m n Told ne = refl
at_other e m n PeerOptions ne = refl
at_other e m n Standing ne = refl
at_other e m n HasDue ne = refl
at_other e m n PeerFirst ne = refl
at_other e m n Sent ne = refl
at_other e m n DueLen ne = refl
at_other e m n InOrderPoint ne = refl
at_other e m n BoundBuffers ne = refl
at_other e m n Limits ne = refl

refused_same : {R : Type 0} (q : Option R) (e f : EndpointState) (n : ℕ) → (q ≡ None → ⊥) → stream_of (unless q e f) n ≡ stream_of e n
refused_same None e f n refuses = absurd (refuses refl)
refused_same (Some r) e f n refuses = refl

same : (e : EndpointState) (n : ℕ) (call : Call) → IsElsewhere n call → stream_of (after e call) n ≡ stream_of e n
same e n (AddDomain pd) away = same_unless (domain_refusal e pd) e _ n refl
same e n (Register pd base octets rights) away = same_unless (register_refusal e.table pd base _) e _ n refl
same e n (RegisterDrawn pd base octets rights drawn) away = same_unless (register_refusal e.table pd base _) e _ n refl
same e n (RegisterOctets pd base octets kept rights) away = same_unless (register_refusal_within (most_octets kept) e.table pd base _) e _ n refl
same e n (RegisterOctetsDrawn pd base octets kept rights drawn) away = same_unless (register_refusal_within (most_octets kept) e.table pd base _) e _ n refl
same e n (Deregister stag) away = same_unless (own_refusal e.table stag) e _ n refl
same e n (DeregisterKept stag) away = same_unless (kept_refusal e.table stag) e _ n refl
same e n (TakeRegion stag) away = refl
same e n (Invalidate stag) away = refl
same e n (Store stag to octets) away = same_unless (store_refusal e stag to _) e _ n refl
same e n (Facts stag) away = refl
same e n (Local stag) away = refl
same e n (LocalMut stag octets) away = refl
same e n (Open m pd role config) away = same_unless (open_refusal e m pd role config) e _ n (other e m n _ away)
same e n (Share pd) away = same_unless (share_refusal e pd) e _ n refl
same e n (PostShared pd buffer) away = same_unless (pool_refusal e pd) e _ n refl
same e n (TakeShared pd) away = same_unless (take_refusal e pd) e _ n refl
same e n (OpenShared m pd role config) away = same_unless (open_shared_refusal e m pd role config) e _ n (other e m n _ away)
same e n (OpenNext (Some m) pd role config) away = same_unless (next_refusal e (Some m) pd role config) e (opened_next e (Some m) pd role config) n ((put_is e.streams m (new_stream m pd role config)).others n (λ is. away (ap Some is)))
same e n (OpenNext None pd role config) away = refused_same (next_refusal e None pd role config) e (opened_next e None pd role config) n (none_left e pd role config)
same e n (OpenSharedNext (Some m) pd role config) away = same_unless (next_shared_refusal e (Some m) pd role config) e (opened_shared_next e (Some m) pd role config) n ((put_is e.streams m (new_shared m pd role config)).others n (λ is. away (ap Some is)))
same e n (OpenSharedNext None pd role config) away = refused_same (next_shared_refusal e None pd role config) e (opened_shared_next e None pd role config) n (none_left_shared e pd role config)
same e n (AtStream m call) away = at_other e m n call away

-- ---- what it does

abbrev is_idle : Step (List ℕ) → Bool
is_idle (steps.Received buffer len solicited invalidate) = false
is_idle (steps.FlushedRecv buffer) = false
is_idle (steps.Done kind) = false
is_idle (steps.Flushed kind) = false
is_idle steps.Asked = false
is_idle (steps.Opened agreed) = false
is_idle (steps.Closed fault) = false
is_idle (steps.Placed right stag to len) = false
is_idle (steps.Buffered msn mo len) = false
is_idle (steps.Requested size stag to) = false
is_idle (steps.Tried place) = false
is_idle steps.Passed = false
is_idle (steps.Terminated fault) = false
is_idle (steps.Fault fault) = false
is_idle steps.Idle = true

judged_tells : (r : Result Landing Fault) → is_idle (judged_step r) ≡ false
judged_tells (Ok (Write at)) = refl
judged_tells (Ok (Response at)) = refl
judged_tells (Ok (Send msn mo len)) = refl
judged_tells (Ok (Request request)) = refl
judged_tells (Ok (Terminate fault)) = refl
judged_tells (Err fault) = refl

tried_tells : (place : ℕ) (o : Option Landing) → is_idle (tried_step place o) ≡ false
tried_tells place (Some at) = judged_tells (Ok at)
tried_tells place None = refl

turned_tells : (r : Receiving) (frame : PlacedFrame) (t : Result Turning Fault) → is_idle (turned_step r frame t) ≡ false
turned_tells r frame (Ok Passed) = refl
turned_tells r frame (Ok (Completed solicited invalidate)) = refl
turned_tells r frame (Ok (Answered ticket)) = refl
turned_tells r frame (Err fault) = refl

never : {X : Type 0} (step : Step (List ℕ)) → is_idle step ≡ false → step ≡ Idle → X
never step tells is = absurd (false≢true (sym tells ∙ ap is_idle is))

-- a pool that is lent holds none of the buffers that a stream hands back
same_first : (source : Source) (pool : List (List ℕ)) → first_buffer (seeing source pool) ≡ first_buffer source
same_first (Posted buffers) pool = refl
same_first (Pooled places held) pool = refl

same_task : (p : Option Pool) (s : StreamState) → task (lent_to p s) ≡ task s
same_task None s = refl
same_task (Some pool) s =
    ap (λ o. option_map_or HandOut (done_in s.queue) (cond (ended s) (option_map_or GiveUp (oldest_in s.queue) (option_map_or GiveBack o Rest))
    (cond (awaits_frame s.start) Hear (cond (not (is_open s.start)) Rest (frame_task s))))) (same_first s.receiving.source pool)

same_hearing : (table : Table) (p : Option Pool) (s : StreamState) → step_of table (lent_to p s) Hear ≡ heard_step s.start (inbox s) (progress_in s.start (inbox s))
same_hearing table None s = refl
same_hearing table (Some pool) s = refl

module _ (table table' : Table) (s : StreamState) (p q : Option Pool) where
  stays : (t : Task) → step_of table (lent_to p s) t ≡ Idle → step_of table' (lent_to q s) t ≡ Idle
  stays (HandOut done) is = never (steps.Done done.kind) refl is
  stays (GiveUp done) is = never (steps.Flushed done.kind) refl is
  stays (GiveBack buffer) is = never (steps.FlushedRecv buffer) refl is
  stays Hear is = same_hearing table' q s ∙ sym (same_hearing table p s) ∙ is
  stays (Turn frame) is =
      let r : Receiving = (lent_to p s).receiving in
      let turn : Result Turning Fault = turn_of (standing table (lent_to p s)) frame in
      never (turned_step r frame turn) (turned_tells r frame turn) is
  stays (Clash frame) is = never (steps.Fault clash_fault) refl is
  stays (Judge frame) is =
      let landing : Result Landing Fault = verdict (standing table (lent_to p s)) frame in
      never (judged_step landing) (judged_tells landing) is
  stays (Try frame) is =
      let place : ℕ = first_place_in (lent_to p s).start + frame.start in
      let landing : Option Landing = early_verdict (standing table (lent_to p s)) frame in
      never (tried_step place landing) (tried_tells place landing) is
  stays Rest is = refl

  idles : work_step table (lent_to p s) ≡ Idle → work_step table' (lent_to q s) ≡ Idle
  idles is =
      ap (λ t. step_of table' (lent_to q s) t) (same_task q s)
      ∙ stays (task s) (sym (ap (λ t. step_of table (lent_to p s) t) (same_task p s)) ∙ is)

abbrev told : Result (Step (List ℕ)) NoSuchStream → Step (List ℕ)
told (Ok step) = step
told (Err missing) = Idle

answers : (o : Option StreamState) (x y : StreamState → Step (List ℕ)) → ((s : StreamState) → x s ≡ Idle → y s ≡ Idle) → answer_at o x ≡ Ok Idle → answer_at o y ≡ Ok Idle
answers None x y step is = is
answers (Some s) x y step is = ap Ok (step s (ap told is))

pub keeps_none : CallsGiveWorkToTheirOwnStream
keeps_none e n call none away =
    let f = after e call in
    let is = same e n call away in
    record {
      idle =
          ap (λ o. answer_at o (λ s. work_step f.table (lent_to (pool_of f s.domain) s))) is
          ∙ answers (stream_of e n) (λ s. work_step e.table (lent_to (pool_of e s.domain) s)) (λ s. work_step f.table (lent_to (pool_of f s.domain) s))
          (λ s. idles e.table f.table s (pool_of e s.domain) (pool_of f s.domain)) none.idle;
      due = ap (λ o. not (is_none_due (due (unwrap_or o unopened)))) is ∙ none.due;
    }
