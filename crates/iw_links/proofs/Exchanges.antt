-- Calls at an endpoint one after another, and what they come to.
use Rattle.std.proofs.Common.{◌≡◌, ℕ, ◌+◌, List, [], ◌∷◌, ◌++◌, take, drop, refl, sym, subst, inl, inr, arith, append_assoc, append-nil, take-append-drop}
use Rattle.std.specs.Prelude.{Option, None, Some, Ok, Bool, true, false, ◌||◌, ◌≤◌, is_some}
use Rattle.std.specs.Io.KnownBytes.{Appends, Consumes, Keeps}
use Rattle.std.proofs.KnownBytes.{Appends-kept, Appends-nil, Appends-trans, Consumes-kept, Consumes-nil, Consumes-trans}
use Rattle.arrayvec.specs.ArrayVec.{ArrayVec}
use Rattle.iw_memory.specs.declared.rights.Rights.{Rights}
use Rattle.iw_octets.specs.declared.stag.Stag.{Stag}
use Rattle.iw_queues.specs.declared.request.Request.{Request}
use Rattle.iw_stream.specs.declared.answer.Emission.{Emission}
use Rattle.iw_stream.specs.declared.answer.Emission.TheVariants as emissions
use Rattle.iw_stream.specs.declared.answer.Step.{Step}
use Rattle.iw_stream.specs.declared.answer.Step.TheVariants as steps
use Rattle.iw_endpoint.specs.Endpoint.{EndpointState, registered, opened, with_buffer, accepted, after_deliver, step_at, after_work, with_request, emission_at, emitted_at, after_emit, delivery_at, stream_at}
use Rattle.iw_endpoint.specs.Reading.{Took}
use Rattle.iw_ranges.specs.declared.Delivery.TheVariants.{Kept}
use Rattle.iw_stream.specs.Stream.{ended}
use Rattle.iw_links.specs.Exchange.{Part, Serves, Asks, Plan, private_of, receive_buffer, Phase, Lending, Listening, Working, Accepting, Speaking, Closing, after_lending, after_step, after_emission}
use Rattle.iw_links.specs.Exchange.{Event, Lent, Accepted, Delivered, Worked, Posted, Emitted, Standing, Told, told_by, told_of, MayAwait, MayHear, answers_at_once, IsDue, next_number, AreKept, Goes, Runs, came_in, went_out, inputs, outputs, Did, Emits, Exchanged, Failed, Closes, role_of, started, IsAnswer, IsSaid, IsSettled, Finished}
use Rattle.iw_links.specs.Standing.{count_answered, count_said, Halts, ReadsOn, Stopped}
use Rattle.iw_links.specs.declared.exchange.Until.{Until}
use Rattle.iw_links.specs.declared.exchange.Until.TheVariants as untils
use Rattle.iw_links.specs.declared.link.Stop.{Stop}
use Rattle.iw_links.specs.declared.link.Stop.TheVariants as stops
use Rattle.iw_links.specs.declared.report.Ended.{Ended}

inputs_join : (es fs : List Event) → inputs (es ++ fs) ≡ inputs es ++ inputs fs
inputs_join [] fs = refl
inputs_join (e ∷ es) fs = rw (inputs_join es fs, append_assoc) refl

outputs_join : (es fs : List Event) → outputs (es ++ fs) ≡ outputs es ++ outputs fs
outputs_join [] fs = refl
outputs_join (e ∷ es) fs = rw (outputs_join es fs, append_assoc) refl

runs_join : (p : Plan) (s m s' : Standing) (es fs : List Event) → Runs p s es m → Runs p m fs s' → Runs p s (es ++ fs) s'
runs_join p s m s' [] fs first second = rw (← first) second
runs_join p s m s' (e ∷ es) fs first second = (first.0, first.1, runs_join p first.0 m s' es fs first.2 second)

pub stays : (p : Plan) (s : Standing) → Did p s s [] []
stays p s = record { events = []; runs = refl; came = refl; went = refl }

pub joins : (p : Plan) (s m s' : Standing) (a b x y : List ℕ) → Did p s m a x → Did p m s' b y → Did p s s' (a ++ b) (x ++ y)
joins p s m s' a b x y first second = record {
  events = first.events ++ second.events;
  runs = runs_join p s m s' first.events second.events first.runs second.runs;
  came = rw (inputs_join first.events second.events, first.came, second.came) refl;
  went = rw (outputs_join first.events second.events, first.went, second.went) refl;
}

-- of which neither takes or gives octets of the stream
pub both : (p : Plan) (s m s' : Standing) → Did p s m [] [] → Did p m s' [] [] → Did p s s' [] []
both p s m s' first second = joins p s m s' [] [] [] [] first second

-- ---- one call alone

-- one that takes and gives no octets of the stream
quietly : (p : Plan) (s s' : Standing) (event : Event) → came_in event ≡ [] → went_out event ≡ [] → Goes p s event s' → Did p s s' [] []
quietly p s s' event came went goes = record {
  events = event ∷ [];
  runs = (s', goes, refl);
  came = rw came refl;
  went = rw went refl;
}

abbrev pub at : EndpointState → Told → Phase → ℕ → Standing
at e t phase k = record { endpoint = e; told = t; phase = phase; posted = k }

pub lends : (p : Plan) (e e' : EndpointState) (t : Told) (k : ℕ) (buffer : List ℕ) → buffer ≡ receive_buffer →
    e' ≡ with_buffer e p.number buffer → Did p (at e t Lending k) (at e' t (after_lending p.part) k) [] []
lends p e e' t k buffer zero_filled is = quietly p _ _ (Lent buffer) refl refl (refl, zero_filled, rw is refl)

pub accepts : (p : Plan) (e e' : EndpointState) (t : Told) (k : ℕ) (private : ArrayVec ℕ) → private.items ≡ private_of p.part →
    e' ≡ accepted e p.number private → Did p (at e t Accepting k) (at e' t Working k) [] []
accepts p e e' t k private named is = quietly p _ _ (Accepted private) refl refl (refl, named, rw is refl)

pub posts : (p : Plan) (e e' : EndpointState) (t : Told) (phase : Phase) (k : ℕ) (request : Request (List ℕ)) →
    IsDue p.part p.number (at e t phase k) request → e' ≡ with_request e p.number request →
    Did p (at e t phase k) (at e' t Speaking (k + 1)) [] []
posts p e e' t phase k request due is = quietly p _ _ (Posted request) refl refl (due, rw is refl)

pub works : (p : Plan) (e e' : EndpointState) (t t' : Told) (k : ℕ) (phase : Phase) (step : Step (List ℕ)) →
    Ok step ≡ step_at e p.number → e' ≡ after_work e p.number → t' ≡ told_by t step → phase ≡ after_step step →
    Did p (at e t Working k) (at e' t' phase k) [] []
works p e e' t t' k phase step is after tells asks =
    quietly p _ _ (Worked step) refl refl (refl, sym is, rw (after, tells, asks) refl)

pub delivers : (p : Plan) (e e' : EndpointState) (t : Told) (k : ℕ) (octets : List ℕ) → MayHear p t k →
    AreKept e p.number octets → e' ≡ after_deliver e p.number (next_number e p.number) octets →
    Did p (at e t Listening k) (at e' t Working k) octets []
delivers p e e' t k octets may kept after = record {
  events = Delivered octets ∷ [];
  runs = (at e' t Working k, (refl, may, kept, rw after refl), refl);
  came = append-nil octets;
  went = refl;
}

pub emits : (p : Plan) (e e' : EndpointState) (t t' : Told) (k : ℕ) (phase : Phase) (emission : Emission) (out out' : List ℕ) →
    emission ≡ emission_at e p.number → out' ≡ out ++ emitted_at e p.number → e' ≡ after_emit e p.number →
    t' ≡ told_of t emission → phase ≡ after_emission emission →
    Emits p (at e t Speaking k) (at e' t' phase k) out out'
emits p e e' t t' k phase emission out out' is grows after tells goes_on = record {
  outs = emitted_at e p.number;
  did = record {
    events = Emitted emission (emitted_at e p.number) ∷ [];
    runs = (at e' t' phase k, (refl, is, refl, rw (after, tells, goes_on) refl), refl);
    came = refl;
    went = append-nil (emitted_at e p.number);
  };
  appends = grows;
}

pub emits_nothing : (p : Plan) (s : Standing) (out : List ℕ) → Emits p s s out out
emits_nothing p s out = record { outs = []; did = stays p s; appends = rw (append-nil out) refl }

pub emits_on : (p : Plan) (s m s' : Standing) (out mid out' : List ℕ) → Emits p s m out mid → Emits p m s' mid out' → Emits p s s' out out'
emits_on p s m s' out mid out' first second = record {
  outs = first.outs ++ second.outs;
  did = joins p s m s' [] [] first.outs second.outs first.did second.did;
  appends = rw (second.appends, first.appends, append_assoc) refl;
}

-- ---- with what the reader gave and the writer took

pub exchanges : (p : Plan) (s m s' : Standing) (i j i' o q o' : Option (List ℕ)) →
    Exchanged p s i o m j q → Exchanged p m j q s' i' o' → Exchanged p s i o s' i' o'
exchanges p s m s' i j i' o q o' first second = record {
  ins = first.ins ++ second.ins;
  outs = first.outs ++ second.outs;
  did = joins p s m s' first.ins second.ins first.outs second.outs first.did second.did;
  reads = Consumes-trans i j i' first.ins second.ins first.reads second.reads;
  writes = Appends-trans o q o' first.outs second.outs first.writes second.writes;
}

pub in_quiet : (p : Plan) (s s' : Standing) (i o : Option (List ℕ)) → Did p s s' [] [] → Exchanged p s i o s' i o
in_quiet p s s' i o did = record { ins = []; outs = []; did = did; reads = Consumes-nil i; writes = Appends-nil o }

pub after_read : (p : Plan) (s s' : Standing) (i i' o : Option (List ℕ)) (octets : List ℕ) →
    Did p s s' octets [] → Consumes i i' octets → Exchanged p s i o s' i' o
after_read p s s' i i' o octets did reads = record { ins = octets; outs = []; did = did; reads = reads; writes = Appends-nil o }

-- one read in place
pub took : (p : Plan) (e e' : EndpointState) (t : Told) (k n : ℕ) (i i' o : Option (List ℕ)) → MayHear p t k →
    Took e e' p.number i i' n → Exchanged p (at e t Listening k) i o (at e' t Working k) i' o
took p e e' t k n i i' o may x =
    let P : ℕ → Type 0 = λ m. ended (stream_at e p.number) ≡ false → delivery_at e p.number (next_number e p.number) m ≡ Kept in
    after_read p _ _ i i' o x.octets (delivers p e e' t k x.octets may (subst P (sym x.len) x.kept) x.delivered) x.given

-- one that read nothing
pub read_nothing : (p : Plan) (e e' : EndpointState) (t : Told) (k : ℕ) (i i' o : Option (List ℕ)) → e' ≡ e → Keeps i i' →
    Exchanged p (at e t Listening k) i o (at e' t Listening k) i' o
read_nothing p e e' t k i i' o same kept =
    after_read p _ _ i i' o [] (rw same (stays p (at e t Listening k))) (Consumes-kept i i i' [] (Consumes-nil i) kept)

-- one at the end of the input
pub read_end : (p : Plan) (e e' : EndpointState) (t : Told) (k : ℕ) (i i' o : Option (List ℕ)) → e' ≡ e → Consumes i i' [] →
    Exchanged p (at e t Listening k) i o (at e' t Listening k) i' o
read_end p e e' t k i i' o same gave = after_read p _ _ i i' o [] (rw same (stays p (at e t Listening k))) gave

pub after_write : (p : Plan) (s s' : Standing) (i o o' : Option (List ℕ)) (out : List ℕ) →
    Emits p s s' [] out → Appends o o' out → Exchanged p s i o s' i o'
after_write p s s' i o o' out e writes = record {
  ins = [];
  outs = e.outs;
  did = e.did;
  reads = Consumes-nil i;
  writes = rw (← e.appends) writes;
}

-- an output that kept its octets meanwhile
pub output_kept : (p : Plan) (s s' : Standing) (i i' o q o' : Option (List ℕ)) → Exchanged p s i o s' i' q → Keeps q o' → Exchanged p s i o s' i' o'
output_kept p s s' i i' o q o' e kept = record {
  ins = e.ins;
  outs = e.outs;
  did = e.did;
  reads = e.reads;
  writes = Appends-kept o q o' e.outs e.writes kept;
}

-- ---- up to where the link broke

pub fails_later : (p : Plan) (s m : Standing) (at' : Phase → ℕ → Standing) (i j i' o q o' : Option (List ℕ)) →
    Exchanged p s i o m j q → Failed p m j q at' i' o' → Failed p s i o at' i' o'
fails_later p s m at' i j i' o q o' first f = record {
  phase = f.phase;
  posted = f.posted;
  ins = first.ins ++ f.ins;
  written = first.outs ++ f.written;
  unwritten = f.unwritten;
  did = rw append_assoc (joins p s m (at' f.phase f.posted) first.ins f.ins first.outs (f.written ++ f.unwritten) first.did f.did);
  reads = Consumes-trans i j i' first.ins f.ins first.reads f.reads;
  writes = Appends-trans o q o' first.outs f.written first.writes f.writes;
}

pub fails_now : (p : Plan) (s : Standing) (at' : Phase → ℕ → Standing) (phase : Phase) (k : ℕ) (i i' o o' : Option (List ℕ)) →
    Exchanged p s i o (at' phase k) i' o' → Failed p s i o at' i' o'
fails_now p s at' phase k i i' o o' e = record {
  phase = phase;
  posted = k;
  ins = e.ins;
  written = e.outs;
  unwritten = [];
  did = rw (append-nil e.outs) e.did;
  reads = e.reads;
  writes = e.writes;
}

pub fails_quietly : (p : Plan) (s : Standing) (at' : Phase → ℕ → Standing) (phase : Phase) (k : ℕ) (i o : Option (List ℕ)) →
    Did p s (at' phase k) [] [] → Failed p s i o at' i o
fails_quietly p s at' phase k i o did = fails_now p s at' phase k i i o o (in_quiet p s (at' phase k) i o did)

-- nothing was done at all
pub fails_still : (p : Plan) (at' : Phase → ℕ → Standing) (phase : Phase) (k : ℕ) (i o : Option (List ℕ)) → Failed p (at' phase k) i o at' i o
fails_still p at' phase k i o = fails_quietly p (at' phase k) at' phase k i o (stays p (at' phase k))

-- nothing of what was emitted is written
pub fails_unwritten : (p : Plan) (s : Standing) (at' : Phase → ℕ → Standing) (phase : Phase) (k : ℕ) (i o : Option (List ℕ)) (out : List ℕ) →
    Emits p s (at' phase k) [] out → Failed p s i o at' i o
fails_unwritten p s at' phase k i o out e = record {
  phase = phase;
  posted = k;
  ins = [];
  written = [];
  unwritten = e.outs;
  did = e.did;
  reads = Consumes-nil i;
  writes = Appends-nil o;
}

-- its front alone is written
pub fails_short : (p : Plan) (s : Standing) (at' : Phase → ℕ → Standing) (phase : Phase) (k : ℕ) (i o o' : Option (List ℕ)) (out : List ℕ) (count : ℕ) →
    Emits p s (at' phase k) [] out → Appends o o' (take count out) → Failed p s i o at' i o'
fails_short p s at' phase k i o o' out count e writes = record {
  phase = phase;
  posted = k;
  ins = [];
  written = take count e.outs;
  unwritten = drop count e.outs;
  did = rw (take-append-drop count e.outs) e.did;
  reads = Consumes-nil i;
  writes = rw (← e.appends) writes;
}

-- ---- up to where it stops

pub halts_later : (stop : Stop) (p : Plan) (s m : Standing) (at' : Phase → ℕ → Standing) (k : ℕ) →
    Did p s m [] [] → Halts stop p m at' k → Halts stop p s at' k
halts_later stops.Broken p s m at' k first h = (h.0, both p s m (at' h.0 k) first h.1)
halts_later stops.Closed p s m at' k first h = both p s m (at' Closing k) first h

pub stops_quietly : (stop : Stop) (p : Plan) (s : Standing) (at' : Phase → ℕ → Standing) (k : ℕ) (i o : Option (List ℕ)) →
    Halts stop p s at' k → Stopped stop p s i o at' i o
stops_quietly stops.Broken p s at' k i o h = fails_quietly p s at' h.0 k i o h.1
stops_quietly stops.Closed p s at' k i o h = record { posted = k; exchanged = in_quiet p s (at' Closing k) i o h }

pub stops_later : (stop : Stop) (p : Plan) (s m : Standing) (at' : Phase → ℕ → Standing) (i j i' o q o' : Option (List ℕ)) →
    Exchanged p s i o m j q → Stopped stop p m j q at' i' o' → Stopped stop p s i o at' i' o'
stops_later stops.Broken p s m at' i j i' o q o' first f = fails_later p s m at' i j i' o q o' first f
stops_later stops.Closed p s m at' i j i' o q o' first c = record {
  posted = c.posted;
  exchanged = exchanges p s m (at' Closing c.posted) i j i' o q o' first c.exchanged;
}

-- the same is registered
pub registers_same : (e m m' : EndpointState) (xs ys : List ℕ) (rights : Rights) → e ≡ registered m 1 0 xs rights → m ≡ m' → xs ≡ ys →
    e ≡ registered m' 1 0 ys rights
registers_same e m m' xs ys rights is same alike = rw (← same, ← alike) is

-- ---- a stream that has ended stays so

ends_by_step : (t : Told) (step : Step (List ℕ)) → is_some t.ended ≡ true → is_some (told_by t step).ended ≡ true
ends_by_step t (steps.Done kind) h = h
ends_by_step t (steps.Flushed kind) h = h
ends_by_step t (steps.FlushedRecv buffer) h = h
ends_by_step t steps.Asked h = h
ends_by_step t (steps.Opened agreed) h = h
ends_by_step t (steps.Closed fault) h = refl
ends_by_step t (steps.Placed right stag to len) h = h
ends_by_step t (steps.Buffered msn mo len) h = h
ends_by_step t (steps.Requested size stag to) h = h
ends_by_step t (steps.Tried place) h = h
ends_by_step t steps.Passed h = h
ends_by_step t (steps.Received buffer len solicited invalidate) h = h
ends_by_step t (steps.Terminated fault) h = refl
ends_by_step t (steps.Fault fault) h = refl
ends_by_step t steps.Idle h = h

ends_by_emission : (t : Told) (emission : Emission) → is_some t.ended ≡ true → is_some (told_of t emission).ended ≡ true
ends_by_emission t (emissions.Frame from len) h = h
ends_by_emission t (emissions.Fetched from len stag to n) h = h
ends_by_emission t (emissions.Fault fault) h = refl
ends_by_emission t emissions.Nothing h = h

ends_by : (p : Plan) (s s' : Standing) (event : Event) → Goes p s event s' → is_some s.told.ended ≡ true → is_some s'.told.ended ≡ true
ends_by p s s' (Lent buffer) goes h = rw goes.2 h
ends_by p s s' (Accepted private) goes h = rw goes.2 h
ends_by p s s' (Delivered octets) goes h = rw goes.3 h
ends_by p s s' (Worked step) goes h = rw goes.2 (ends_by_step s.told step h)
ends_by p s s' (Posted request) goes h = rw goes.1 h
ends_by p s s' (Emitted emission octets) goes h = rw goes.3 (ends_by_emission s.told emission h)

pub stays_ended : (p : Plan) (s s' : Standing) (events : List Event) → Runs p s events s' → is_some s.told.ended ≡ true → is_some s'.told.ended ≡ true
stays_ended p s s' [] runs h = rw runs h
stays_ended p s s' (event ∷ events) runs h =
    stays_ended p runs.0 s' events runs.2 (ends_by p s runs.0 event runs.1 h)

pub stays_ended_through : (p : Plan) (s s' : Standing) (i i' o o' : Option (List ℕ)) → Exchanged p s i o s' i' o' →
    is_some s.told.ended ≡ true → is_some s'.told.ended ≡ true
stays_ended_through p s s' i i' o o' e h = stays_ended p s s' e.did.events e.did.runs h

-- ---- and what was received stays so

gets_by_step : (t : Told) (step : Step (List ℕ)) → is_some t.received ≡ true → is_some (told_by t step).received ≡ true
gets_by_step t (steps.Done kind) h = h
gets_by_step t (steps.Flushed kind) h = h
gets_by_step t (steps.FlushedRecv buffer) h = h
gets_by_step t steps.Asked h = h
gets_by_step t (steps.Opened agreed) h = h
gets_by_step t (steps.Closed fault) h = h
gets_by_step t (steps.Placed right stag to len) h = h
gets_by_step t (steps.Buffered msn mo len) h = h
gets_by_step t (steps.Requested size stag to) h = h
gets_by_step t (steps.Tried place) h = h
gets_by_step t steps.Passed h = h
gets_by_step t (steps.Received buffer len solicited invalidate) h = refl
gets_by_step t (steps.Terminated fault) h = h
gets_by_step t (steps.Fault fault) h = h
gets_by_step t steps.Idle h = h

gets_by_emission : (t : Told) (emission : Emission) → is_some t.received ≡ true → is_some (told_of t emission).received ≡ true
gets_by_emission t (emissions.Frame from len) h = h
gets_by_emission t (emissions.Fetched from len stag to n) h = h
gets_by_emission t (emissions.Fault fault) h = h
gets_by_emission t emissions.Nothing h = h

gets_by : (p : Plan) (s s' : Standing) (event : Event) → Goes p s event s' → is_some s.told.received ≡ true → is_some s'.told.received ≡ true
gets_by p s s' (Lent buffer) goes h = rw goes.2 h
gets_by p s s' (Accepted private) goes h = rw goes.2 h
gets_by p s s' (Delivered octets) goes h = rw goes.3 h
gets_by p s s' (Worked step) goes h = rw goes.2 (gets_by_step s.told step h)
gets_by p s s' (Posted request) goes h = rw goes.1 h
gets_by p s s' (Emitted emission octets) goes h = rw goes.3 (gets_by_emission s.told emission h)

pub stays_received : (p : Plan) (s s' : Standing) (events : List Event) → Runs p s events s' → is_some s.told.received ≡ true → is_some s'.told.received ≡ true
stays_received p s s' [] runs h = rw runs h
stays_received p s s' (event ∷ events) runs h =
    stays_received p runs.0 s' events runs.2 (gets_by p s runs.0 event runs.1 h)

pub stays_settled : (p : Plan) (s s' : Standing) (i i' o o' : Option (List ℕ)) → Exchanged p s i o s' i' o' → IsSettled s.told → IsSettled s'.told
stays_settled p s s' i i' o o' e (inl received) = inl (stays_received p s s' e.did.events e.did.runs received)
stays_settled p s s' i i' o o' e (inr ended) = inr (stays_ended p s s' e.did.events e.did.runs ended)

-- ---- by what an end does

pub few_said : (ended : Option Ended) → count_said ended ≤ 2
few_said None = omega arith
few_said (Some end) = omega arith

-- an asking end reads whenever it likes
pub asks_on : (until : Until) (p : Plan) (text : List ℕ) (told : Told) (k : ℕ) → p.part ≡ Asks text → k ≤ 2 → ReadsOn until p told k
asks_on until p text told k asks few = λ told' is_open over later. rw asks few

-- a serving end that answers at the end of the peer's output reads before
pub serves_on : (until : Until) (p : Plan) (region : Stag) (told : Told) → p.part ≡ Serves region →
    answers_at_once p.config.establishment ≡ false → ReadsOn until p told 0
serves_on until p region told serves late = λ told' is_open over later. rw (serves, late) refl

none_received : (r : Option (List ℕ)) (e : Bool) → (is_some r || e) ≡ false → r ≡ None
none_received None e over = refl
none_received (Some octets) e over = absurd (let no : ⊥ = cc in no)

-- one that answers at once reads until the Send was received
pub serves_until : (p : Plan) (region : Stag) (told : Told) (k : ℕ) → p.part ≡ Serves region →
    answers_at_once p.config.establishment ≡ true → ReadsOn untils.Send p told k
serves_until p region told k serves soon = λ told' is_open over later.
    rw (serves, soon) (inl (none_received told'.received (is_some told'.ended) over))

-- and on after its answer
pub serves_after : (p : Plan) (region : Stag) (told : Told) (k : ℕ) → p.part ≡ Serves region →
    answers_at_once p.config.establishment ≡ true → IsSaid p.part told k → ReadsOn untils.End p told k
serves_after p region told k serves soon said = λ told' is_open over later.
    rw (serves, soon) (go told' later (rw serves at said)) where
      go : (told' : Told) → (is_some told.ended ≡ true → is_some told'.ended ≡ true) → IsSaid (Serves region) told k → MayAwait true told' k
      go told' later (inl answered) = inr (inr answered)
      go told' later (inr ended) = inr (inl (later ended))

pub answers : (part : Part) (region : Stag) (n : ℕ) (s : Standing) (request : Request (List ℕ)) → part ≡ Serves region →
    IsAnswer region s request → IsDue part n s request
answers part region n s request is answer = rw is answer

pub says : (p : Plan) (text : List ℕ) (s s' : Standing) (i i' o o' : Option (List ℕ)) → p.part ≡ Asks text →
    Exchanged p s i o s' i' o' → IsSaid p.part s'.told (count_said s.told.ended)
says p text s s' i i' o o' asks e = go s.told.ended refl where
  go : (ended : Option Ended) → s.told.ended ≡ ended → IsSaid p.part s'.told (count_said ended)
  go None is = inl (rw asks refl)
  go (Some end) is = inr (stays_ended p s s' e.did.events e.did.runs (rw is refl))

pub says_back : (p : Plan) (region : Stag) (s s' : Standing) (i i' o o' : Option (List ℕ)) → p.part ≡ Serves region →
    Exchanged p s i o s' i' o' → IsSaid p.part s'.told (count_answered s.told.ended)
says_back p region s s' i i' o o' serves e = go s.told.ended refl where
  go : (ended : Option Ended) → s.told.ended ≡ ended → IsSaid p.part s'.told (count_answered ended)
  go None is = inl (rw serves refl)
  go (Some end) is = inr (stays_ended p s s' e.did.events e.did.runs (rw is refl))

pub stays_said : (p : Plan) (k : ℕ) (s s' : Standing) (i i' o o' : Option (List ℕ)) → Exchanged p s i o s' i' o' →
    IsSaid p.part s.told k → IsSaid p.part s'.told k
stays_said p k s s' i i' o o' e (inl all) = inl all
stays_said p k s s' i i' o o' e (inr ended) = inr (stays_ended p s s' e.did.events e.did.runs ended)

-- what was done before
pub finishes_later : (p : Plan) (s m : Standing) (at' : Phase → ℕ → Standing) (i j i' o q o' : Option (List ℕ)) (told : Told) →
    Exchanged p s i o m j q → Finished p m j q at' i' o' told → Finished p s i o at' i' o' told
finishes_later p s m at' i j i' o q o' told first f = record {
  posted = f.posted;
  exchanged = exchanges p s m (at' Listening f.posted) i j i' o q o' first f.exchanged;
  said = f.said;
  settled = f.settled;
}

-- ---- from the opening on

pub begins : (p : Plan) (e e' : EndpointState) (r : Option (List ℕ)) (d : Option Ended) (i o i' o' : Option (List ℕ))
    (at' : Phase → ℕ → Standing) (told : Told) → e' ≡ opened e p.number 1 (role_of p.part) p.config → r ≡ None → d ≡ None →
    Finished p (at e' (record { received = r; ended = d }) Lending 0) i o at' i' o' told →
    Finished p (started p e) i o at' i' o' told
begins p e e' r d i o i' o' at' told opens nothing no_end f = rw (opens, nothing, no_end) at f

pub begins_to_fail : (p : Plan) (e e' : EndpointState) (r : Option (List ℕ)) (d : Option Ended) (i o i' o' : Option (List ℕ))
    (at' : Phase → ℕ → Standing) → e' ≡ opened e p.number 1 (role_of p.part) p.config → r ≡ None → d ≡ None →
    Failed p (at e' (record { received = r; ended = d }) Lending 0) i o at' i' o' →
    Failed p (started p e) i o at' i' o'
begins_to_fail p e e' r d i o i' o' at' opens nothing no_end f = rw (opens, nothing, no_end) at f

pub begins_to_close : (p : Plan) (e e' : EndpointState) (r : Option (List ℕ)) (d : Option Ended) (i o i' o' : Option (List ℕ))
    (at' : Phase → ℕ → Standing) → e' ≡ opened e p.number 1 (role_of p.part) p.config → r ≡ None → d ≡ None →
    Closes p (at e' (record { received = r; ended = d }) Lending 0) i o at' i' o' →
    Closes p (started p e) i o at' i' o'
begins_to_close p e e' r d i o i' o' at' opens nothing no_end f = rw (opens, nothing, no_end) at f
