-- One domain's part of an endpoint, and that no call lets a domain see or change another's.
use Rattle.std.specs.Prelude.{◌≡◌, ◌≢◌, ◌≤◌, ◌⊎◌, ℕ, ◌==◌, List, [], ◌∷◌, length, map, filter, slice_set, unwrap_or, if◌then◌else◌, Bool, false, is_some, Option, Some, None, IfSome, Result, Ok, Err}
use Rattle.std.specs.Option.{option_map}
use Rattle.arrayvec.specs.ArrayVec.{ArrayVec}
use Rattle.iw_octets.specs.declared.stag.Stag.{Stag}
use Rattle.iw_memory.specs.declared.refusal.DeregisterRefusal.{DeregisterRefusal}
use Rattle.iw_memory.specs.declared.refusal.DomainRefusal.{DomainRefusal}
use Rattle.iw_memory.specs.declared.refusal.RegisterRefusal.{RegisterRefusal}
use Rattle.iw_memory.specs.declared.refusal.StoreRefusal.{StoreRefusal}
use Rattle.iw_memory.specs.declared.region.Facts as facts
use Rattle.iw_memory.specs.declared.rights.Rights.{Rights}
use Rattle.iw_memory.specs.Forms.{own_refusal, kept_refusal}
use Rattle.iw_memory.specs.Part as slots
use Rattle.iw_memory.specs.Table as tables
use Rattle.iw_memory.specs.Region.{most_octets}
use Rattle.iw_memory.specs.Table.{empty, with_part, region_at, register_refusal, register_refusal_within, next_stag, drawn_stag}
use Rattle.iw_queues.specs.declared.request.Request.{Request}
use Rattle.iw_ranges.specs.declared.Delivery.{Delivery}
use Rattle.iw_startup.specs.declared.config.Agreed.{Agreed}
use Rattle.iw_startup.specs.declared.config.Config.{Config}
use Rattle.iw_startup.specs.declared.config.PeerOptions as options
use Rattle.iw_startup.specs.declared.enhanced.EnhancedData.{EnhancedData}
use Rattle.iw_stream.specs.declared.answer.AnswerRefusal.{AnswerRefusal}
use Rattle.iw_stream.specs.declared.answer.FirstRefusal.{FirstRefusal}
use Rattle.iw_stream.specs.declared.answer.Emission.{Emission}
use Rattle.iw_stream.specs.declared.answer.OpenRefusal.{OpenRefusal}
use Rattle.iw_stream.specs.declared.answer.PostRefusal.{PostRefusal}
use Rattle.iw_stream.specs.declared.answer.RecvRefusal.{RecvRefusal}
use Rattle.iw_stream.specs.declared.answer.Role.{Role}
use Rattle.iw_stream.specs.declared.answer.SizeRefusal.{SizeRefusal}
use Rattle.iw_stream.specs.declared.answer.Standing as standing
use Rattle.iw_stream.specs.declared.answer.Step.{Step}
use Rattle.iw_stream.specs.Stream.{StreamState}
use Rattle.iw_endpoint.specs.declared.refusal.CallRefusal.{CallRefusal}
use Rattle.iw_endpoint.specs.declared.refusal.LimitRefusal.{LimitRefusal}
use Rattle.iw_endpoint.specs.declared.refusal.NoSuchStream.{NoSuchStream}
use Rattle.iw_endpoint.specs.declared.refusal.NotAtRest.{NotAtRest}
use Rattle.iw_endpoint.specs.declared.refusal.OpenNextRefusal.{OpenNextRefusal}
use Rattle.iw_endpoint.specs.declared.refusal.OpenSharedRefusal.{OpenSharedRefusal}
use Rattle.iw_endpoint.specs.declared.refusal.PoolRefusal.{PoolRefusal}
use Rattle.iw_endpoint.specs.declared.refusal.ShareRefusal.{ShareRefusal}
use Rattle.iw_endpoint.specs.declared.refusal.TakeRefusal.{TakeRefusal}
use Rattle.iw_endpoint.specs.Numbers.{filled, trimmed}
use Rattle.iw_endpoint.specs.Endpoint.{EndpointState, HasNumbers, Pool, closed_at, next_refusal, next_shared_refusal, opened_next, opened_shared_next, close_refusal, after_close, stream_numbers, domain_numbers, no_pools, fresh, pool_of, share_refusal, shared, pool_refusal, pooled, take_refusal, taken_at, after_take, open_shared_refusal, opened_shared, stream_of, stream_at, limit_refusal, limit_refusal_within, limited, answer_at, domain_refusal, added, registered, octets_of, deregistered, invalidated, facts_at, store_refusal, stored, rewritten, open_refusal, opened, answer_refusal, agreement, accepted, rejected, post_refusal, with_request, recv_refusal, with_buffer, delivery_at, after_deliver, emission_at, emitted_at, after_emit, step_at, after_work, broken, size_refusal, with_mulpdu, private_at, told_at, options_at, standing_at, has_due, sent_at, point_at, first_refusal, with_first, first_at}
use Rattle.iw_endpoint.specs.Drawing.{registered_drawn, limited_drawn}
use Rattle.iw_endpoint.specs.KeptRegions.{registered_form, limited_form, drawn_form, limited_drawn_form}
use Rattle.iw_endpoint.specs.Sharing.{bound_at, step_within, after_work_within}

-- ---- calls, as values

-- calls on the stream of a number
pub data StreamCall : Type 0 where
  Accept : ArrayVec ℕ → StreamCall
  Reject : ArrayVec ℕ → StreamCall
  Post : Request (List ℕ) → StreamCall
  PostRecv : List ℕ → StreamCall
  FirstNumber : ℕ → StreamCall
  Deliver : ℕ → List ℕ → StreamCall
  Work : StreamCall
  WorkWithin : ℕ → StreamCall  -- with the share
  Emit : StreamCall
  BreakLink : StreamCall
  Close : StreamCall
  RegisterFor : ℕ → List ℕ → Rights → StreamCall
  RegisterDrawnFor : ℕ → List ℕ → Rights → ℕ → StreamCall
  RegisterOctetsFor : ℕ → List ℕ → Bool → Rights → StreamCall  -- with whether a program keeps the memory of the octets
  RegisterOctetsDrawnFor : ℕ → List ℕ → Bool → Rights → ℕ → StreamCall
  SetMulpdu : ℕ → StreamCall
  Private : StreamCall
  Told : StreamCall
  PeerOptions : StreamCall
  Standing : StreamCall
  HasDue : StreamCall
  PeerFirst : StreamCall
  Sent : StreamCall
  DueLen : StreamCall
  InOrderPoint : StreamCall
  BoundBuffers : StreamCall
  Limits : StreamCall

pub data Call : Type 0 where
  AddDomain : ℕ → Call
  Register : ℕ → ℕ → List ℕ → Rights → Call
  RegisterDrawn : ℕ → ℕ → List ℕ → Rights → ℕ → Call  -- with the bits that are drawn
  RegisterOctets : ℕ → ℕ → List ℕ → Bool → Rights → Call  -- with whether a program keeps the memory of the octets
  RegisterOctetsDrawn : ℕ → ℕ → List ℕ → Bool → Rights → ℕ → Call
  Deregister : Stag → Call
  DeregisterKept : Stag → Call
  TakeRegion : Stag → Call
  Invalidate : Stag → Call
  Store : Stag → ℕ → List ℕ → Call
  Facts : Stag → Call
  Local : Stag → Call
  LocalMut : Stag → List ℕ → Call  -- with what the owner then writes
  Open : ℕ → ℕ → Role → Config → Call
  Share : ℕ → Call
  PostShared : ℕ → List ℕ → Call
  TakeShared : ℕ → Call
  OpenShared : ℕ → ℕ → Role → Config → Call
  OpenNext : Option ℕ → ℕ → Role → Config → Call  -- with the number that is given, if one is left
  OpenSharedNext : Option ℕ → ℕ → Role → Config → Call
  AtStream : ℕ → StreamCall → Call

-- ---- what is answered, unless memory runs out

pub data StreamAnswer : Type 0 where
  Accepted : Result Agreed (CallRefusal AnswerRefusal) → StreamAnswer
  Rejected : Option (CallRefusal AnswerRefusal) → StreamAnswer
  Posted : Option (CallRefusal PostRefusal) → StreamAnswer
  Buffered : Option (CallRefusal RecvRefusal) → StreamAnswer
  Numbered : Option (CallRefusal FirstRefusal) → StreamAnswer
  Delivered : Result Delivery NoSuchStream → StreamAnswer
  Worked : Result (Step (List ℕ)) NoSuchStream → StreamAnswer
  Emitted : Result Emission NoSuchStream → Result (List ℕ) NoSuchStream → StreamAnswer  -- with the octets that were appended
  Broke : Result (Unit {0}) NoSuchStream → StreamAnswer
  Closed : Option (CallRefusal NotAtRest) → StreamAnswer
  Sized : Option (CallRefusal SizeRefusal) → StreamAnswer
  Bound : Result Stag (CallRefusal LimitRefusal) → StreamAnswer
  Shown : Result (List ℕ) NoSuchStream → StreamAnswer
  Declared : Result (Option EnhancedData) NoSuchStream → StreamAnswer
  Wanted : Result (Option options.PeerOptions) NoSuchStream → StreamAnswer
  Stood : Result standing.Standing NoSuchStream → StreamAnswer
  Due : Result Bool NoSuchStream → StreamAnswer
  Counted : Result ℕ NoSuchStream → StreamAnswer
  Limited : Result (Unit {0}) NoSuchStream → StreamAnswer

pub data Answer : Type 0 where
  Added : Option DomainRefusal → Answer
  Registered : Result Stag RegisterRefusal → Answer
  Octets : Option (List ℕ) → Answer  -- the octets of a region; None if there is no region
  Deregistered : Result (List ℕ) DeregisterRefusal → Answer
  TookRegion : Option (List ℕ) → Option Bool → Answer  -- its octets, and whether a program keeps their memory; None if there is no region
  Invalidated : Bool → Answer  -- whether there is a region
  Found : Option facts.Facts → Answer
  Stored : Option StoreRefusal → Answer
  Opened : Option OpenRefusal → Answer
  Shared : Option ShareRefusal → Answer
  Pooled : Option PoolRefusal → Answer
  Taken : Result (Option (List ℕ)) TakeRefusal → Answer
  OpenedShared : Option OpenSharedRefusal → Answer
  OpenedNext : Option OpenNextRefusal → Answer
  OfStream : StreamAnswer → Answer

abbrev pub answer_or : {A R : Type 0} → Option R → A → Result A R
answer_or None x = Ok x
answer_or (Some refusal) x = Err refusal

-- a refused call changes nothing
abbrev pub unless : {R : Type 0} → Option R → EndpointState → EndpointState → EndpointState
unless None e after = after
unless (Some refusal) e after = e

-- nor does a call whose number has no stream
abbrev pub if_there : Option StreamState → EndpointState → EndpointState → EndpointState
if_there None e after = e
if_there (Some s) e after = after

abbrev pub stream_answer : EndpointState → ℕ → StreamCall → StreamAnswer
stream_answer e n (Accept private) = Accepted (answer_or (answer_refusal e n private.items) (agreement e n))
stream_answer e n (Reject private) = Rejected (answer_refusal e n private.items)
stream_answer e n (Post request) = Posted (post_refusal e n request)
stream_answer e n (PostRecv buffer) = Buffered (recv_refusal e n)
stream_answer e n (FirstNumber first) = Numbered (first_refusal e n)
stream_answer e n (Deliver from octets) = Delivered (answer_at (stream_of e n) (λ s. delivery_at e n from (length octets)))
stream_answer e n Work = Worked (step_at e n)
stream_answer e n (WorkWithin share) = Worked (step_within e n share)
stream_answer e n Emit = Emitted (answer_at (stream_of e n) (λ s. emission_at e n)) (answer_at (stream_of e n) (λ s. emitted_at e n))
stream_answer e n BreakLink = Broke (answer_at (stream_of e n) (λ s. tt))
stream_answer e n Close = Closed (close_refusal e n)
stream_answer e n (RegisterFor base octets rights) = Bound (answer_or (limit_refusal e n base (length octets)) (next_stag e.table (stream_at e n).domain))
stream_answer e n (RegisterDrawnFor base octets rights drawn) = Bound (answer_or (limit_refusal e n base (length octets)) (drawn_stag e.table (stream_at e n).domain drawn))
stream_answer e n (RegisterOctetsFor base octets kept rights) = Bound (answer_or (limit_refusal_within (most_octets kept) e n base (length octets)) (next_stag e.table (stream_at e n).domain))
stream_answer e n (RegisterOctetsDrawnFor base octets kept rights drawn) = Bound (answer_or (limit_refusal_within (most_octets kept) e n base (length octets)) (drawn_stag e.table (stream_at e n).domain drawn))
stream_answer e n (SetMulpdu size) = Sized (size_refusal e n size)
stream_answer e n Private = Shown (answer_at (stream_of e n) (λ s. private_at e n))
stream_answer e n Told = Declared (answer_at (stream_of e n) (λ s. told_at e n))
stream_answer e n PeerOptions = Wanted (answer_at (stream_of e n) (λ s. options_at e n))
stream_answer e n Standing = Stood (answer_at (stream_of e n) (λ s. standing_at e n))
stream_answer e n HasDue = Due (answer_at (stream_of e n) (λ s. has_due e n))
stream_answer e n PeerFirst = Counted (answer_at (stream_of e n) (λ s. first_at e n))
stream_answer e n Sent = Counted (answer_at (stream_of e n) (λ s. sent_at e n))
stream_answer e n DueLen = Counted (answer_at (stream_of e n) (λ s. length (emitted_at e n)))
stream_answer e n InOrderPoint = Counted (answer_at (stream_of e n) (λ s. point_at e n))
stream_answer e n BoundBuffers = Counted (answer_at (stream_of e n) (λ s. bound_at e n))
stream_answer e n Limits = Limited (answer_at (stream_of e n) (λ s. tt))

abbrev pub answer : EndpointState → Call → Answer
answer e (AddDomain pd) = Added (domain_refusal e pd)
answer e (Register pd base octets rights) = Registered (answer_or (register_refusal e.table pd base (length octets)) (next_stag e.table pd))
answer e (RegisterDrawn pd base octets rights drawn) = Registered (answer_or (register_refusal e.table pd base (length octets)) (drawn_stag e.table pd drawn))
answer e (RegisterOctets pd base octets kept rights) = Registered (answer_or (register_refusal_within (most_octets kept) e.table pd base (length octets)) (next_stag e.table pd))
answer e (RegisterOctetsDrawn pd base octets kept rights drawn) = Registered (answer_or (register_refusal_within (most_octets kept) e.table pd base (length octets)) (drawn_stag e.table pd drawn))
answer e (Deregister stag) = Deregistered (answer_or (own_refusal e.table stag) (unwrap_or (octets_of e stag) []))
answer e (DeregisterKept stag) = Deregistered (answer_or (kept_refusal e.table stag) (unwrap_or (octets_of e stag) []))
answer e (TakeRegion stag) = TookRegion (octets_of e stag) (option_map (λ r. r.kept) (region_at e.table stag))
answer e (Invalidate stag) = Invalidated (is_some (region_at e.table stag))
answer e (Store stag to octets) = Stored (store_refusal e stag to (length octets))
answer e (Facts stag) = Found (facts_at e stag)
answer e (Local stag) = Octets (octets_of e stag)
answer e (LocalMut stag octets) = Octets (octets_of e stag)
answer e (Open n pd role config) = Opened (open_refusal e n pd role config)
answer e (Share pd) = Shared (share_refusal e pd)
answer e (PostShared pd buffer) = Pooled (pool_refusal e pd)
answer e (TakeShared pd) = Taken (answer_or (take_refusal e pd) (taken_at e pd))
answer e (OpenShared n pd role config) = OpenedShared (open_shared_refusal e n pd role config)
answer e (OpenNext n pd role config) = OpenedNext (next_refusal e n pd role config)
answer e (OpenSharedNext n pd role config) = OpenedNext (next_shared_refusal e n pd role config)
answer e (AtStream n call) = OfStream (stream_answer e n call)

-- ---- what is left

abbrev pub after_stream : EndpointState → ℕ → StreamCall → EndpointState
after_stream e n (Accept private) = unless (answer_refusal e n private.items) e (accepted e n private)
after_stream e n (Reject private) = unless (answer_refusal e n private.items) e (rejected e n private)
after_stream e n (Post request) = unless (post_refusal e n request) e (with_request e n request)
after_stream e n (PostRecv buffer) = unless (recv_refusal e n) e (with_buffer e n buffer)
after_stream e n (FirstNumber first) = unless (first_refusal e n) e (with_first e n first)
after_stream e n (Deliver from octets) = if_there (stream_of e n) e (after_deliver e n from octets)
after_stream e n Work = if_there (stream_of e n) e (after_work e n)
after_stream e n (WorkWithin share) = if_there (stream_of e n) e (after_work_within e n share)
after_stream e n Emit = if_there (stream_of e n) e (after_emit e n)
after_stream e n BreakLink = if_there (stream_of e n) e (broken e n)
after_stream e n Close = unless (close_refusal e n) e (after_close e n)
after_stream e n (RegisterFor base octets rights) = unless (limit_refusal e n base (length octets)) e (limited e n base octets rights)
after_stream e n (RegisterDrawnFor base octets rights drawn) = unless (limit_refusal e n base (length octets)) e (limited_drawn e n base octets rights drawn)
after_stream e n (RegisterOctetsFor base octets kept rights) = unless (limit_refusal_within (most_octets kept) e n base (length octets)) e (limited_form e n base octets kept rights)
after_stream e n (RegisterOctetsDrawnFor base octets kept rights drawn) = unless (limit_refusal_within (most_octets kept) e n base (length octets)) e (limited_drawn_form e n base octets kept rights drawn)
after_stream e n (SetMulpdu size) = unless (size_refusal e n size) e (with_mulpdu e n size)
after_stream e n Private = e
after_stream e n Told = e
after_stream e n PeerOptions = e
after_stream e n Standing = e
after_stream e n HasDue = e
after_stream e n PeerFirst = e
after_stream e n Sent = e
after_stream e n DueLen = e
after_stream e n InOrderPoint = e
after_stream e n BoundBuffers = e
after_stream e n Limits = e

abbrev pub after : EndpointState → Call → EndpointState
after e (AddDomain pd) = unless (domain_refusal e pd) e (added e pd)
after e (Register pd base octets rights) = unless (register_refusal e.table pd base (length octets)) e (registered e pd base octets rights)
after e (RegisterDrawn pd base octets rights drawn) = unless (register_refusal e.table pd base (length octets)) e (registered_drawn e pd base octets rights drawn)
after e (RegisterOctets pd base octets kept rights) = unless (register_refusal_within (most_octets kept) e.table pd base (length octets)) e (registered_form e pd base octets kept rights)
after e (RegisterOctetsDrawn pd base octets kept rights drawn) = unless (register_refusal_within (most_octets kept) e.table pd base (length octets)) e (drawn_form e pd base octets kept rights drawn)
after e (Deregister stag) = unless (own_refusal e.table stag) e (deregistered e stag)
after e (DeregisterKept stag) = unless (kept_refusal e.table stag) e (deregistered e stag)
after e (TakeRegion stag) = deregistered e stag
after e (Invalidate stag) = invalidated e stag
after e (Store stag to octets) = unless (store_refusal e stag to (length octets)) e (stored e stag to octets)
after e (Facts stag) = e
after e (Local stag) = e
after e (LocalMut stag octets) = rewritten e stag octets
after e (Open n pd role config) = unless (open_refusal e n pd role config) e (opened e n pd role config)
after e (Share pd) = unless (share_refusal e pd) e (shared e pd)
after e (PostShared pd buffer) = unless (pool_refusal e pd) e (pooled e pd buffer)
after e (TakeShared pd) = unless (take_refusal e pd) e (after_take e pd)
after e (OpenShared n pd role config) = unless (open_shared_refusal e n pd role config) e (opened_shared e n pd role config)
after e (OpenNext n pd role config) = unless (next_refusal e n pd role config) e (opened_next e n pd role config)
after e (OpenSharedNext n pd role config) = unless (next_shared_refusal e n pd role config) e (opened_shared_next e n pd role config)
after e (AtStream n call) = after_stream e n call

-- ---- one domain's part

-- a domain's part of an endpoint: its slots, if it was added; its pool, if it has one; its streams, by number, up to its
-- last; the numbers under which streams of its were closed. How many numbers were given in all is no part of it.
pub record Part : Type 0 where
  pub slots : slots.Part
  pub pool : Option Pool
  pub streams : List (Option StreamState)
  pub closed : List (Option ℕ)

-- a stream, if it is the domain's
abbrev pub own_stream : ℕ → Option StreamState → Option StreamState
own_stream d None = None
own_stream d (Some s) = if s.domain == d then Some s else None

-- the domain of a closed stream, if it is this one
abbrev pub own_number : ℕ → Option ℕ → Option ℕ
own_number d None = None
own_number d (Some x) = if x == d then Some x else None

abbrev pub part_of : ℕ → EndpointState → Part
part_of d e = record {
  slots = tables.part_of e.table d;
  pool = pool_of e d;
  streams = trimmed (map (own_stream d) e.streams);
  closed = map (own_number d) e.closed;
}

-- an endpoint with this part of the domain, and no other domain
abbrev pub alone : ℕ → Part → EndpointState
alone d part = record {
  table = with_part empty d part.slots;
  pools = slice_set no_pools d part.pool;
  streams = filled stream_numbers part.streams;
  closed = part.closed;
}

-- one call on one domain's part: its answer, and the part after it
abbrev pub own_answer : ℕ → Part → Call → Answer
own_answer d part call = answer (alone d part) call

abbrev pub own_after : ℕ → Part → Call → Part
own_after d part call = part_of d (after (alone d part) call)

-- ---- one call

-- the stream, if one was opened, is the domain's
abbrev pub IsOwn : ℕ → Option StreamState → Type 0
IsOwn d stream = IfSome stream (λ s. s.domain ≡ d)

-- the stream that was opened under the number, if one was, closed or not, is the domain's
abbrev pub IsOwnNumber : ℕ → EndpointState → ℕ → Type 0
IsOwnNumber d e n = IsOwn d (stream_of e n) × IfSome (closed_at e n) (λ x. x ≡ d)

-- the call asks for the next number, and is refused: it opens no stream under it
abbrev pub gives_none : EndpointState → Call → Bool
gives_none e (OpenNext n pd role config) = is_some (next_refusal e n pd role config)
gives_none e (OpenSharedNext n pd role config) = is_some (next_shared_refusal e n pd role config)
gives_none e call = false

-- a call concerns the domain that it names, or that of its STag, or that of the stream of its number
abbrev pub Concerns : ℕ → EndpointState → Call → Type 0
Concerns d e (AddDomain pd) = pd ≡ d
Concerns d e (Register pd base octets rights) = pd ≡ d
Concerns d e (RegisterDrawn pd base octets rights drawn) = pd ≡ d
Concerns d e (RegisterOctets pd base octets kept rights) = pd ≡ d
Concerns d e (RegisterOctetsDrawn pd base octets kept rights drawn) = pd ≡ d
Concerns d e (Deregister stag) = stag.domain ≡ d
Concerns d e (DeregisterKept stag) = stag.domain ≡ d
Concerns d e (TakeRegion stag) = stag.domain ≡ d
Concerns d e (Invalidate stag) = stag.domain ≡ d
Concerns d e (Store stag to octets) = stag.domain ≡ d
Concerns d e (Facts stag) = stag.domain ≡ d
Concerns d e (Local stag) = stag.domain ≡ d
Concerns d e (LocalMut stag octets) = stag.domain ≡ d
Concerns d e (Open n pd role config) = (pd ≡ d) × IsOwnNumber d e n
Concerns d e (Share pd) = pd ≡ d
Concerns d e (PostShared pd buffer) = pd ≡ d
Concerns d e (TakeShared pd) = pd ≡ d
Concerns d e (OpenShared n pd role config) = (pd ≡ d) × IsOwnNumber d e n
Concerns d e (OpenNext n pd role config) = (pd ≡ d) × (gives_none e (OpenNext n pd role config) ≡ false → IfSome n (IsOwnNumber d e))
Concerns d e (OpenSharedNext n pd role config) = (pd ≡ d) × (gives_none e (OpenSharedNext n pd role config) ≡ false → IfSome n (IsOwnNumber d e))
Concerns d e (AtStream n call) = IsOwnNumber d e n

-- there is a place for each domain, and for each number that an application picks
abbrev pub HasDomains : EndpointState → Type 0
HasDomains e = (length e.table ≡ domain_numbers) × (length e.pools ≡ domain_numbers) × HasNumbers e

-- the call opens a stream of this number in this domain
abbrev pub Opens : ℕ → ℕ → Call → Type 0
Opens n d (Open m pd role config) = (m ≡ n) × (pd ≡ d)
Opens n d (OpenShared m pd role config) = (m ≡ n) × (pd ≡ d)
Opens n d (OpenNext m pd role config) = (m ≡ Some n) × (pd ≡ d)
Opens n d (OpenSharedNext m pd role config) = (m ≡ Some n) × (pd ≡ d)
Opens n d (AddDomain pd) = ⊥
Opens n d (Register pd base octets rights) = ⊥
Opens n d (RegisterDrawn pd base octets rights drawn) = ⊥
Opens n d (RegisterOctets pd base octets kept rights) = ⊥
Opens n d (RegisterOctetsDrawn pd base octets kept rights drawn) = ⊥
Opens n d (Deregister stag) = ⊥
Opens n d (DeregisterKept stag) = ⊥
Opens n d (TakeRegion stag) = ⊥
Opens n d (Invalidate stag) = ⊥
Opens n d (Store stag to octets) = ⊥
Opens n d (Facts stag) = ⊥
Opens n d (Local stag) = ⊥
Opens n d (LocalMut stag octets) = ⊥
Opens n d (Share pd) = ⊥
Opens n d (PostShared pd buffer) = ⊥
Opens n d (TakeShared pd) = ⊥
Opens n d (AtStream m call) = ⊥

-- the domain of the stream of a number
abbrev pub owner : EndpointState → ℕ → Option ℕ
owner e n = option_map (λ s. s.domain) (stream_of e n)

-- a call that concerns a domain acts on that domain's part alone, and every other part stays as it is
pub record OwnStep (d : ℕ) (e : EndpointState) (call : Call) : Type 0 where
  pub answered : answer e call ≡ own_answer d (part_of d e) call
  pub own : part_of d (after e call) ≡ own_after d (part_of d e) call
  pub others : (other : ℕ) → other ≢ d → part_of other (after e call) ≡ part_of other e
  -- a stream is in the domain in which it was opened
  pub owners : (n : ℕ) → IfSome (stream_of (after e call) n) (λ s. (owner e n ≡ Some s.domain) ⊎ Opens n s.domain call)
  pub closed : (n : ℕ) → IfSome (closed_at (after e call) n) (λ x. (closed_at e n ≡ Some x) ⊎ (owner e n ≡ Some x))
  -- a number that was given is not given again
  pub given : length e.streams ≤ length (after e call).streams
  pub domains : HasDomains (after e call)

abbrev pub CallsConcernOneDomain : Type 0
CallsConcernOneDomain = (d : ℕ) (e : EndpointState) (call : Call) → HasDomains e → Concerns d e call → OwnStep d e call

-- ---- lists of calls

-- the domain that a call concerns; `whose` gives the domain of a stream number
abbrev pub concerned : (ℕ → ℕ) → Call → ℕ
concerned whose (AddDomain pd) = pd
concerned whose (Register pd base octets rights) = pd
concerned whose (RegisterDrawn pd base octets rights drawn) = pd
concerned whose (RegisterOctets pd base octets kept rights) = pd
concerned whose (RegisterOctetsDrawn pd base octets kept rights drawn) = pd
concerned whose (Deregister stag) = stag.domain
concerned whose (DeregisterKept stag) = stag.domain
concerned whose (TakeRegion stag) = stag.domain
concerned whose (Invalidate stag) = stag.domain
concerned whose (Store stag to octets) = stag.domain
concerned whose (Facts stag) = stag.domain
concerned whose (Local stag) = stag.domain
concerned whose (LocalMut stag octets) = stag.domain
concerned whose (Open n pd role config) = pd
concerned whose (Share pd) = pd
concerned whose (PostShared pd buffer) = pd
concerned whose (TakeShared pd) = pd
concerned whose (OpenShared n pd role config) = pd
concerned whose (OpenNext n pd role config) = pd
concerned whose (OpenSharedNext n pd role config) = pd
concerned whose (AtStream n call) = whose n

-- the domain's calls among these
abbrev pub only : (ℕ → ℕ) → ℕ → List Call → List Call
only whose d calls = filter (λ call. concerned whose call == d) calls

-- the answers to them, among the calls of all domains
abbrev pub view : (ℕ → ℕ) → ℕ → EndpointState → List Call → List Answer
view whose d e [] = []
view whose d e (call ∷ calls) =
    if concerned whose call == d then answer e call ∷ view whose d (after e call) calls else view whose d (after e call) calls

abbrev pub after_all : EndpointState → List Call → EndpointState
after_all e [] = e
after_all e (call ∷ calls) = after_all (after e call) calls

-- the answers to them with no other domain at the endpoint
abbrev pub own_answers : ℕ → Part → List Call → List Answer
own_answers d part [] = []
own_answers d part (call ∷ calls) = own_answer d part call ∷ own_answers d (own_after d part call) calls

abbrev pub own_after_all : ℕ → Part → List Call → Part
own_after_all d part [] = part
own_after_all d part (call ∷ calls) = own_after_all d (own_after d part call) calls

-- each stream number that an application picks is asked for, and each other is given, in one domain only
abbrev pub OpensOwn : (ℕ → ℕ) → EndpointState → List Call → Type 0
OpensOwn whose e [] = Unit {0}
OpensOwn whose e (call ∷ calls) = (gives_none e call ≡ false → (n d : ℕ) → Opens n d call → whose n ≡ d) × OpensOwn whose (after e call) calls

pub record IsAlone (whose : ℕ → ℕ) (d : ℕ) (calls : List Call) : Type 0 where
  pub answers : view whose d fresh calls ≡ own_answers d (part_of d fresh) (only whose d calls)
  pub part : part_of d (after_all fresh calls) ≡ own_after_all d (part_of d fresh) (only whose d calls)

-- after any calls to a new endpoint, each domain has the answers and the part that it would have with no other domain
abbrev pub DomainsAreAlone : Type 0
DomainsAreAlone = (whose : ℕ → ℕ) (calls : List Call) → OpensOwn whose fresh calls → (d : ℕ) → IsAlone whose d calls
