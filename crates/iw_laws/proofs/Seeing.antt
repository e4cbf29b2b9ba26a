-- What is seen of a step tells what the step did.
use Rattle.std.proofs.Common.{◌≡◌, ℕ, ◌+◌, ◌-◌, not, Bool, true, false, cond, length, Option, Some, None, refl, sym, ap, ◌∙◌, subst, arith, Result, Ok, Err}
use Rattle.std.specs.Prelude.{nat_eq, nat_lt}
use Rattle.std.specs.Option.{option_map, option_map_or}
use Rattle.std.proofs.lemmas.Option.{none-some, same_Some}
use Rattle.std.proofs.lemmas.Bool.{true≢false}
use Rattle.std.proofs.lemmas.Bool.Decides.{nat_tests}
use Rattle.iw_octets.specs.declared.fault.Fault.{Fault}
use Rattle.iw_octets.specs.declared.fault.TheConstants.Fault as faults
use Rattle.iw_octets.specs.declared.head.TaggedHead.{TaggedHead}
use Rattle.iw_octets.specs.declared.head.UntaggedHead.{UntaggedHead}
use Rattle.iw_octets.specs.declared.payload.ReadRequest.{ReadRequest}
use Rattle.iw_octets.specs.declared.segment.Segment.{Segment}
use Rattle.iw_octets.specs.declared.segment.Segment.TheVariants.{Tagged, Untagged}
use Rattle.iw_octets.specs.declared.operation.TaggedOperation.TheVariants as tagged_operations
use Rattle.iw_octets.specs.declared.operation.UntaggedOperation.{UntaggedOperation}
use Rattle.iw_octets.specs.declared.operation.UntaggedOperation.TheVariants as untagged_operations
use Rattle.iw_octets.specs.Operation.{opcode_of, rdmap_version, untagged_operation, queue_of}
use Rattle.iw_octets.specs.Payload.{request_fields, word_fields}
use Rattle.iw_fpdu.specs.declared.fpdu.Mismatch.{Mismatch}
use Rattle.iw_memory.specs.declared.refusal.Deny.{Deny}
use Rattle.iw_memory.specs.declared.rights.Right.{Right}
use Rattle.iw_memory.specs.declared.rights.Right.TheVariants as rights
use Rattle.iw_memory.specs.Table.{Table, put, octets_at, denial_for}
use Rattle.iw_memory.proofs.Callers.{octets_at-put}
use Rattle.iw_rdmap.specs.declared.head.Head.{Head}
use Rattle.iw_rdmap.specs.declared.head.Head.TheVariants as heads
use Rattle.iw_rdmap.specs.Judging.{expected, on_queue, tagged_checked, untagged_checked, request_fault, terminate_fault, judged_tagged, judged_untagged, judged_segment}
use Rattle.iw_rdmap.specs.Judging as judging
use Rattle.iw_reads.specs.Outstanding.{sink_fault}
use Rattle.iw_reads.specs.Source.{source_fault}
use Rattle.iw_tagged.specs.declared.placing.Placed.{Placed}
use Rattle.iw_tagged.specs.Placing.{denial_fault, placing_fault}
use Rattle.iw_stream.specs.declared.landing.Landing.{Landing}
use Rattle.iw_stream.specs.declared.landing.Landing.TheVariants as landing
use Rattle.iw_stream.specs.Frames.{Frame, segment_in, payload_of}
use Rattle.iw_stream.specs.Judging.{Standing, or_else, fault_or, place_in, head_verdict, judged_head, landing_in, may_be_early, early_verdict, mismatch_fault, segment_verdict, table_tried, verdict, turn_of}
use Rattle.iw_stream.specs.declared.landing.PlacedFrame.{PlacedFrame}
use Rattle.iw_stream.specs.declared.landing.Turning.{Turning}
use Rattle.iw_stream.specs.declared.landing.Turning.TheVariants as turning
use Rattle.iw_startup.specs.declared.progress.Progress.{Progress}
use Rattle.iw_startup.specs.declared.progress.Progress.TheVariants as progress
use Rattle.iw_untagged.specs.Receiving.{Receiving, buffer_fault}
use Rattle.iw_startup.specs.declared.enhanced.Mismatch.{Mismatch as Unmatched}
use Rattle.iw_stream.specs.Starting.{StartState, first_place_in, progress_in, heard, mismatch_in}
use Rattle.iw_stream.specs.Stream.{StreamState, Due, StartUp, LastWord, Response, NextPart, NoneDue, due, emission_of, emitted, emission_due, octets_due, emission_fetched, octets_fetched, frame_fetched, Ready}
use Rattle.iw_reads.specs.declared.response.ResponsePart.{ResponsePart}
use Rattle.iw_stream.specs.Work.{Task, HandOut, GiveUp, GiveBack, Hear, Turn, Clash, Judge, Try, Rest, task, standing, judged_step, tried_step, turned_step, heard_step, opened_step, step_of, table_judged, table_passed, table_left, inbox, work_step, table_worked}
use Rattle.iw_events.specs.declared.act.StreamAct.{StreamAct}
use Rattle.iw_events.specs.declared.act.StreamAct.TheVariants.{Recv, Post, Emit, First, Deliver, Raw, Mulpdu, Accept, Reject, Work, Break}
use Rattle.iw_events.specs.Events.{stream_call_of}
use Rattle.iw_laws.specs.Early.{HasPlace}
use Rattle.iw_laws.specs.Words.{Octets, sent_by, table_seen}
use Rattle.iw_laws.specs.Rules.{seen_of, shown_of, needs_peer, WireRule}

-- ---- headers that passed their checks

-- of a tagged segment
abbrev pub TaggedAs : TaggedHead → Result Head Fault → Type 0
TaggedAs head (Err fault) = Unit {0}
TaggedAs head (Ok (heads.Write h)) = (h ≡ head) × (opcode_of head.control ≡ 0)
TaggedAs head (Ok (heads.Response h)) = (h ≡ head) × (opcode_of head.control ≡ 2)
TaggedAs head (Ok (heads.Send h)) = ⊥
TaggedAs head (Ok (heads.Request h request)) = ⊥
TaggedAs head (Ok (heads.Terminate h word)) = ⊥

tagged_as : (head : TaggedHead) → TaggedAs head (judged_tagged head (tagged_checked head))
tagged_as head = go (nat_eq head.ddp_version 1) (nat_eq (rdmap_version head.control) 1) (nat_eq (opcode_of head.control) 0) (nat_eq (opcode_of head.control) 2) refl refl
  where
    go : (a b c d : Bool) → nat_eq (opcode_of head.control) 0 ≡ c → nat_eq (opcode_of head.control) 2 ≡ d
        → TaggedAs head (judged_tagged head (cond (not a) (Err faults.TAGGED_VERSION) (cond (not b) (Err faults.OPERATION_VERSION) (expected (cond c (Some tagged_operations.Write) (cond d (Some tagged_operations.ReadResponse) None))))))
    go false b c d e h = tt
    go true false c d e h = tt
    go true true true d e h = (refl, grind (arith, nat_tests))
    go true true false true e h = (refl, grind (arith, nat_tests))
    go true true false false e h = tt

-- of an untagged one, whose payload has n octets
abbrev pub UntaggedAs : UntaggedHead → Octets → ℕ → ℕ → ℕ → Result Head Fault → Type 0
UntaggedAs head payload n next unanswered (Err fault) = Unit {0}
UntaggedAs head payload n next unanswered (Ok (heads.Send h)) = (h ≡ head) × (head.queue ≡ 0)
UntaggedAs head payload n next unanswered (Ok (heads.Request h request)) =
    (h ≡ head) × (head.queue ≡ 1) × (request ≡ request_fields payload) × (request_fault head n next unanswered ≡ None)
UntaggedAs head payload n next unanswered (Ok (heads.Terminate h word)) = (h ≡ head) × (head.queue ≡ 2)
UntaggedAs head payload n next unanswered (Ok (heads.Write h)) = ⊥
UntaggedAs head payload n next unanswered (Ok (heads.Response h)) = ⊥

untagged_as : (head : UntaggedHead) (payload : Octets) (n next unanswered : ℕ) → UntaggedAs head payload n next unanswered (judged_untagged head payload n next unanswered (untagged_checked head))
untagged_as head payload n next unanswered = go (nat_eq head.ddp_version 1) (nat_lt 2 head.queue) (nat_eq (rdmap_version head.control) 1) (untagged_operation (opcode_of head.control))
  where
    on : (queue : ℕ) (b : Bool) → nat_eq queue head.queue ≡ b → b ≡ true → head.queue ≡ queue
    on queue b e t = grind (arith, nat_tests)

    request : (f : Option Fault) → request_fault head n next unanswered ≡ f → head.queue ≡ 1 → UntaggedAs head payload n next unanswered (judging.fault_or f (heads.Request head (request_fields payload)))
    request None e q = (refl, q, refl, e)
    request (Some fault) e q = tt

    terminate : (f : Option Fault) → head.queue ≡ 2 → UntaggedAs head payload n next unanswered (judging.fault_or f (heads.Terminate head (word_fields payload)))
    terminate None q = (refl, q)
    terminate (Some fault) q = tt

    of : (operation : UntaggedOperation) (b : Bool) → nat_eq (queue_of operation) head.queue ≡ b → UntaggedAs head payload n next unanswered (judged_untagged head payload n next unanswered (expected (cond b (Some operation) None)))
    of operation false e = tt
    of (untagged_operations.Send solicited invalidates) true e = (refl, on 0 true e refl)
    of untagged_operations.ReadRequest true e = request (request_fault head n next unanswered) refl (on 1 true e refl)
    of untagged_operations.Terminate true e = terminate (terminate_fault head n) (on 2 true e refl)

    named : (o : Option UntaggedOperation) → UntaggedAs head payload n next unanswered (judged_untagged head payload n next unanswered (expected (on_queue head.queue o)))
    named None = tt
    named (Some operation) = of operation (nat_eq (queue_of operation) head.queue) refl

    go : (a b c : Bool) (o : Option UntaggedOperation)
        → UntaggedAs head payload n next unanswered
        (judged_untagged head payload n next unanswered (cond (not a) (Err faults.UNTAGGED_VERSION) (cond b (Err faults.UNTAGGED_INVALID_QUEUE) (cond (not c) (Err faults.OPERATION_VERSION) (expected (on_queue head.queue o))))))
    go false b c o = tt
    go true true c o = tt
    go true false false o = tt
    go true false true o = named o

-- ---- frames that passed their checks

-- a tagged segment with this opcode, which may be placed by this right
pub record LandsTagged (at : Standing) (frame : Frame) (opcode : ℕ) (right : Right) (p : Placed) : Type 0 where
  pub head : TaggedHead
  pub payload : Octets
  pub carries : segment_in frame ≡ Some (Tagged head payload)
  pub is : opcode_of head.control ≡ opcode
  pub place : p ≡ place_in head (length payload)
  pub admitted : denial_for at.table at.peer head.stag head.to (length payload) right ≡ None

-- a Send's segment, whose buffer is there
pub record LandsSend (at : Standing) (frame : Frame) (msn mo len : ℕ) : Type 0 where
  pub head : UntaggedHead
  pub payload : Octets
  pub carries : segment_in frame ≡ Some (Untagged head payload)
  pub queue : head.queue ≡ 0
  pub checked : buffer_fault at.receiving head.msn head.mo (length payload) ≡ None
  pub msn_is : msn ≡ head.msn
  pub mo_is : mo ≡ head.mo
  pub len_is : len ≡ length payload

-- a Read Request, whose source may be read
pub record LandsRequest (at : Standing) (frame : Frame) (request : ReadRequest) : Type 0 where
  pub head : UntaggedHead
  pub payload : Octets
  pub carries : segment_in frame ≡ Some (Untagged head payload)
  pub queue : head.queue ≡ 1
  pub is : request ≡ request_fields payload
  pub checked : request_fault head (length frame.ulpdu - 18) at.asked.next (length at.asked.unanswered) ≡ None
  pub admitted : source_fault at.table at.peer request ≡ None

-- the peer's Terminate
pub record LandsTerminate (frame : Frame) : Type 0 where
  pub head : UntaggedHead
  pub payload : Octets
  pub carries : segment_in frame ≡ Some (Untagged head payload)
  pub queue : head.queue ≡ 2

abbrev pub LandsAs : Standing → Frame → Result Landing Fault → Type 0
LandsAs at frame (Err fault) = Unit {0}
LandsAs at frame (Ok (landing.Write p)) = LandsTagged at frame 0 rights.Write p
LandsAs at frame (Ok (landing.Response p)) = LandsTagged at frame 2 rights.Sink p
LandsAs at frame (Ok (landing.Send msn mo len)) = LandsSend at frame msn mo len
LandsAs at frame (Ok (landing.Request request)) = LandsRequest at frame request
LandsAs at frame (Ok (landing.Terminate fault)) = LandsTerminate frame

undenied : (o : Option Deny) → option_map denial_fault o ≡ None → o ≡ None
undenied None e = refl
undenied (Some deny) e = absurd (none-some _ (sym e))

unfaulted : (first : Option Fault) (o : Option Deny) → or_else first (option_map denial_fault o) ≡ None → o ≡ None
unfaulted (Some fault) o e = absurd (none-some _ (sym e))
unfaulted None o e = undenied o e

abbrev verdict_by : Standing → Result Head Fault → Option (Segment Octets) → Result Landing Fault
verdict_by at r o = head_verdict at r (length (payload_of o))

pub lands_as : (at : Standing) (frame : Frame) → LandsAs at frame (verdict at frame)
lands_as at frame = whole frame.mismatch
  where
    tagged : (head : TaggedHead) (payload : Octets) → segment_in frame ≡ Some (Tagged head payload) → (r : Result Head Fault) → TaggedAs head r → LandsAs at frame (head_verdict at r (length payload))
    tagged head payload carries (Err fault) t = tt
    tagged head payload carries (Ok (heads.Write h)) t = subst (λ z. LandsAs at frame (head_verdict at (Ok (heads.Write z)) (length payload))) (sym t.0) (go (placing_fault at.table at.peer head (length payload) rights.Write) refl)
      where
        go : (f : Option Fault) → placing_fault at.table at.peer head (length payload) rights.Write ≡ f → LandsAs at frame (fault_or f (landing.Write (place_in head (length payload))))
        go (Some fault) e = tt
        go None e = record { head = head; payload = payload; carries = carries; is = t.1; place = refl; admitted = undenied (denial_for at.table at.peer head.stag head.to (length payload) rights.Write) e }
    tagged head payload carries (Ok (heads.Response h)) t =
        subst (λ z. LandsAs at frame (head_verdict at (Ok (heads.Response z)) (length payload))) (sym t.0)
        (go (or_else (sink_fault at.reads head (length payload)) (placing_fault at.table at.peer head (length payload) rights.Sink)) refl)
      where
        go : (f : Option Fault) → or_else (sink_fault at.reads head (length payload)) (placing_fault at.table at.peer head (length payload) rights.Sink) ≡ f
            → LandsAs at frame (fault_or f (landing.Response (place_in head (length payload))))
        go (Some fault) e = tt
        go None e = record {
          head = head;
          payload = payload;
          carries = carries;
          is = t.1;
          place = refl;
          admitted = unfaulted (sink_fault at.reads head (length payload)) (denial_for at.table at.peer head.stag head.to (length payload) rights.Sink) e;
        }
    tagged head payload carries (Ok (heads.Send h)) t = absurd t
    tagged head payload carries (Ok (heads.Request h request)) t = absurd t
    tagged head payload carries (Ok (heads.Terminate h word)) t = absurd t

    untagged : (head : UntaggedHead) (payload : Octets) → segment_in frame ≡ Some (Untagged head payload) → (r : Result Head Fault)
        → UntaggedAs head payload (length frame.ulpdu - 18) at.asked.next (length at.asked.unanswered) r → LandsAs at frame (head_verdict at r (length payload))
    untagged head payload carries (Err fault) t = tt
    untagged head payload carries (Ok (heads.Send h)) t =
        subst (λ z. LandsAs at frame (head_verdict at (Ok (heads.Send z)) (length payload))) (sym t.0) (go (buffer_fault at.receiving head.msn head.mo (length payload)) refl)
      where
        go : (f : Option Fault) → buffer_fault at.receiving head.msn head.mo (length payload) ≡ f → LandsAs at frame (fault_or f (landing.Send head.msn head.mo (length payload)))
        go (Some fault) e = tt
        go None e = record { head = head; payload = payload; carries = carries; queue = t.1; checked = e; msn_is = refl; mo_is = refl; len_is = refl }
    untagged head payload carries (Ok (heads.Request h request)) t = go (source_fault at.table at.peer request) refl
      where
        go : (f : Option Fault) → source_fault at.table at.peer request ≡ f → LandsAs at frame (fault_or f (landing.Request request))
        go (Some fault) e = tt
        go None e = record { head = head; payload = payload; carries = carries; queue = t.1; is = t.2; checked = t.3; admitted = e }
    untagged head payload carries (Ok (heads.Write h)) t = absurd t
    untagged head payload carries (Ok (heads.Response h)) t = absurd t
    untagged head payload carries (Ok (heads.Terminate h word)) t = record { head = head; payload = payload; carries = carries; queue = t.1 }

    of_segment : (o : Option (Segment Octets)) → segment_in frame ≡ o → LandsAs at frame (verdict_by at (judged_segment o (length frame.ulpdu) at.asked.next (length at.asked.unanswered)) o)
    of_segment None e = tt
    of_segment (Some (Tagged head payload)) e = tagged head payload e (judged_tagged head (tagged_checked head)) (tagged_as head)
    of_segment (Some (Untagged head payload)) e =
        untagged head payload e (judged_untagged head payload (length frame.ulpdu - 18) at.asked.next (length at.asked.unanswered) (untagged_checked head)) (untagged_as head payload (length frame.ulpdu - 18) at.asked.next (length at.asked.unanswered))

    whole : (m : Option Mismatch) → LandsAs at frame (option_map_or (λ w. Err (mismatch_fault w)) m (segment_verdict at frame.ulpdu))
    whole (Some wrong) = tt
    whole None = of_segment (segment_in frame) refl

-- a frame that is placed before its turn passed all its checks, and has a place to go to
pub early_lands : (at : Standing) (frame : Frame) (x : Landing) → early_verdict at frame ≡ Some x → (verdict at frame ≡ Ok x) × HasPlace x
early_lands at frame x e = go (judged_head at frame.ulpdu) refl e
  where
    n : ℕ
    n = length (payload_of (segment_in frame))

    by : (m : Option Mismatch) (f : Option Fault) (y : Landing) → HasPlace y → (r : Result Landing Fault) → r ≡ option_map_or (λ w. Err (mismatch_fault w)) m (fault_or f y) → landing_in r ≡ Some x → (r ≡ Ok x) × HasPlace x
    by (Some wrong) f y has r is h = absurd (none-some _ (sym (ap landing_in is) ∙ h))
    by None (Some fault) y has r is h = absurd (none-some _ (sym (ap landing_in is) ∙ h))
    by None None y has r is h =
        let same : y ≡ x = same_Some _ _ (sym (ap landing_in is) ∙ h) in
        (is ∙ ap Ok same, subst HasPlace same has)

    whole : (head : Head) → judged_head at frame.ulpdu ≡ Ok head → verdict at frame ≡ option_map_or (λ w. Err (mismatch_fault w)) frame.mismatch (head_verdict at (Ok head) n)
    whole head is = ap (λ r. option_map_or (λ w. Err (mismatch_fault w)) frame.mismatch (head_verdict at r n)) is

    go : (h : Result Head Fault) → judged_head at frame.ulpdu ≡ h → cond (may_be_early h) (landing_in (verdict at frame)) None ≡ Some x → (verdict at frame ≡ Ok x) × HasPlace x
    go (Err fault) is h = absurd (none-some _ h)
    go (Ok (heads.Write head)) is h =
        by frame.mismatch (placing_fault at.table at.peer head n rights.Write) (landing.Write (place_in head n)) tt (verdict at frame) (whole (heads.Write head) is) h
    go (Ok (heads.Response head)) is h =
        by frame.mismatch (or_else (sink_fault at.reads head n) (placing_fault at.table at.peer head n rights.Sink)) (landing.Response (place_in head n)) tt (verdict at frame) (whole (heads.Response head) is) h
    go (Ok (heads.Send head)) is h = by frame.mismatch (buffer_fault at.receiving head.msn head.mo n) (landing.Send head.msn head.mo n) tt (verdict at frame) (whole (heads.Send head) is) h
    go (Ok (heads.Request head request)) is h = absurd (none-some _ h)
    go (Ok (heads.Terminate head word)) is h = absurd (none-some _ h)

-- where its octets stand they are its payload
pub stands : (at : Standing) (frame : Frame) (opcode : ℕ) (right : Right) (p : Placed) → (w : LandsTagged at frame opcode right p) → octets_at (put at.table p.stag p.to (payload_of (segment_in frame))) p.stag p.to p.n ≡ w.payload
stands at frame opcode right p w =
    (λ i. octets_at (put at.table (w.place i).stag (w.place i).to (payload_of (w.carries i))) (w.place i).stag (w.place i).to (w.place i).n)
    ∙ octets_at-put at.table at.peer w.head.stag w.head.to w.payload right w.admitted

-- what is shown of a frame that is judged leaves the regions as the frame does
abbrev ShowsTable : Standing → StartState → Frame → Result Landing Fault → Type 0
ShowsTable at left frame r = table_judged at.table frame r ≡ table_seen at.table (seen_of (table_judged at.table frame r) left (judged_step r))

shown_table : (at : Standing) (left : StartState) (frame : Frame) (r : Result Landing Fault) → LandsAs at frame r → ShowsTable at left frame r
shown_table at left frame = go
  where
    placed : (opcode : ℕ) (right : Right) (p : Placed) → (w : LandsTagged at frame opcode right p)
        → put at.table p.stag p.to (payload_of (segment_in frame)) ≡ put at.table p.stag p.to (octets_at (put at.table p.stag p.to (payload_of (segment_in frame))) p.stag p.to p.n)
    placed opcode right p w = ap (put at.table p.stag p.to) (ap payload_of w.carries ∙ sym (stands at frame opcode right p w))

    go : (r : Result Landing Fault) → LandsAs at frame r → ShowsTable at left frame r
    go (Err fault) w = refl
    go (Ok (landing.Write p)) w = placed 0 rights.Write p w
    go (Ok (landing.Response p)) w = placed 2 rights.Sink p w
    go (Ok (landing.Send msn mo len)) w = refl
    go (Ok (landing.Request request)) w = refl
    go (Ok (landing.Terminate fault)) w = refl

-- and so does what is shown of one that is judged before its turn
shown_tried : (at : Standing) (left : StartState) (frame : Frame) (place : ℕ) → table_tried at.table frame (early_verdict at frame) ≡ table_seen at.table (seen_of (table_tried at.table frame (early_verdict at frame)) left (tried_step place (early_verdict at frame)))
shown_tried at left frame place = go (early_verdict at frame) refl
  where
    go : (o : Option Landing) → early_verdict at frame ≡ o → table_tried at.table frame o ≡ table_seen at.table (seen_of (table_tried at.table frame o) left (tried_step place o))
    go None e = refl
    go (Some x) e = shown_table at left frame (Ok x) (subst (LandsAs at frame) (early_lands at frame x e).0 (lands_as at frame))

-- the table that a step leaves is the one that what is seen of it leaves
pub table_of_seen : (table : Table) (s : StreamState) (left : StartState) → table_worked table s ≡ table_seen table (seen_of (table_worked table s) left (work_step table s))
table_of_seen table s left = go (task s)
  where
    opens : (start : StartState) (m : Option Unmatched) → table ≡ table_seen table (seen_of table left (opened_step start m))
    opens start None = refl
    opens start (Some mismatch) = refl

    hears : (start : StartState) (octets : Octets) (p : Progress) → table ≡ table_seen table (seen_of table left (heard_step start octets p))
    hears start octets progress.More = refl
    hears start octets progress.Asked = refl
    hears start octets progress.Agreed = opens (heard start octets) (mismatch_in (heard start octets))
    hears start octets (progress.Faulted fault) = refl

    turns : (r : Receiving) (frame : PlacedFrame) (o : Result Turning Fault) → table_passed table o ≡ table_seen table (seen_of (table_passed table o) left (turned_step r frame o))
    turns r frame (Ok turning.Passed) = refl
    turns r frame (Ok (turning.Completed solicited None)) = refl
    turns r frame (Ok (turning.Completed solicited (Some stag))) = refl
    turns r frame (Ok (turning.Answered ticket)) = refl
    turns r frame (Err fault) = refl

    go : (t : Task) → table_left table s t ≡ table_seen table (seen_of (table_left table s t) left (step_of table s t))
    go (HandOut done) = refl
    go (GiveUp done) = refl
    go (GiveBack buffer) = refl
    go Hear = hears s.start (inbox s) (progress_in s.start (inbox s))
    go (Turn frame) = turns s.receiving frame (turn_of (standing table s) frame)
    go (Clash frame) = refl
    go (Judge frame) = shown_table (standing table s) left frame (verdict (standing table s) frame) (lands_as (standing table s) frame)
    go (Try frame) = shown_tried (standing table s) left frame (first_place_in s.start + frame.start)
    go Rest = refl

-- what is shown of an emission has the octets that were appended
pub shown_sends : (table : Table) (s : StreamState) → sent_by (Emit (shown_of table (emission_of table s) (emitted table s))) ≡ emitted table s
shown_sends table s = go (due s)
  where
    fetched : (part : ResponsePart) (r : Result Octets Fault) → sent_by (Emit (shown_of table (emission_fetched s part r) (octets_fetched r))) ≡ octets_fetched r
    fetched part (Ok frame) = refl
    fetched part (Err fault) = refl

    go : (d : Due) → sent_by (Emit (shown_of table (emission_due table s d) (octets_due table s d))) ≡ octets_due table s d
    go StartUp = refl
    go (LastWord payload) = refl
    go (Ready rtr) = refl
    go (Response part) = fetched part (frame_fetched table s part)
    go (NextPart part) = refl
    go NoneDue = refl

-- octets that are not delivered need not be the other end's
pub own_octets : (wire : Octets) (act : StreamAct Octets) → needs_peer (stream_call_of act) ≡ false → WireRule wire act
own_octets wire (Deliver from number octets delivery) e = absurd (true≢false e)
own_octets wire (Raw number octets delivery) e = tt
own_octets wire (Recv len refused) e = tt
own_octets wire (Post message refused) e = tt
own_octets wire (Emit shown) e = tt
own_octets wire (First number refused) e = tt
own_octets wire (Mulpdu size refused) e = tt
own_octets wire (Accept private answer) e = tt
own_octets wire (Reject private refused) e = tt
own_octets wire (Work step) e = tt
own_octets wire Break e = tt
