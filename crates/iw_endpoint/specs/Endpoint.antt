-- The state of an endpoint, and what each call answers and makes of that state.
use Rattle.std.specs.Prelude.{◌≤◌, ◌^◌, ℕ, List, [], ◌∷◌, ◌++◌, length, drop, replicate, slice_get, slice_index_or, slice_set, Bool, false, not, ◌||◌, nat_le, is_some, is_none, nat_lt, unwrap_or, if◌then◌else◌, Option, Some, None, Result, Ok, Err}
use Rattle.std.specs.Option.{option_map, option_map_or, option_or}
use Rattle.arrayvec.specs.ArrayVec.{ArrayVec}
use Rattle.iw_octets.specs.declared.stag.Stag.{Stag}
use Rattle.iw_memory.specs.declared.refusal.DomainRefusal.{DomainRefusal}
use Rattle.iw_memory.specs.declared.refusal.StoreRefusal.{StoreRefusal}
use Rattle.iw_memory.specs.declared.region.Facts.{Facts}
use Rattle.iw_memory.specs.declared.rights.Rights.{Rights}
use Rattle.iw_memory.specs.Region.{facts_of, new_region, bound_region, most_octets}
use Rattle.iw_memory.specs.Table as tables
use Rattle.iw_memory.specs.Table.{Table, empty, is_added, region_at, register_refusal_within, next_stag, put, retired}
use Rattle.iw_memory.specs.TableLending.{overwritten}
use Rattle.iw_queues.specs.declared.request.Request.{Request}
use Rattle.iw_ranges.specs.declared.Delivery.{Delivery}
use Rattle.iw_startup.specs.declared.config.Agreed.{Agreed}
use Rattle.iw_startup.specs.declared.config.Config.{Config}
use Rattle.iw_startup.specs.declared.config.Establishment.TheVariants.{Plain}
use Rattle.iw_startup.specs.declared.config.PeerOptions.{PeerOptions}
use Rattle.iw_startup.specs.declared.enhanced.EnhancedData.{EnhancedData}
use Rattle.iw_untagged.specs.declared.queue.BufferRefusal.{BufferRefusal}
use Rattle.iw_untagged.specs.declared.queue.BufferRefusal.TheVariants as buffer_refusals
use Rattle.iw_untagged.specs.Receiving as receiving
use Rattle.iw_stream.specs.declared.answer.AnswerRefusal.{AnswerRefusal}
use Rattle.iw_stream.specs.declared.answer.FirstRefusal.{FirstRefusal}
use Rattle.iw_stream.specs.declared.answer.Emission.{Emission}
use Rattle.iw_stream.specs.declared.answer.OpenRefusal.{OpenRefusal}
use Rattle.iw_stream.specs.declared.answer.OpenRefusal.TheVariants.{NumberTaken, BadNumber, NoDomain, PrivateTooLong, NoMemory}
use Rattle.iw_stream.specs.declared.answer.PostRefusal.{PostRefusal}
use Rattle.iw_stream.specs.declared.answer.RecvRefusal.{RecvRefusal}
use Rattle.iw_stream.specs.declared.answer.Role.{Role}
use Rattle.iw_stream.specs.declared.answer.Role.TheVariants.{Preset}
use Rattle.iw_stream.specs.declared.answer.SizeRefusal.{SizeRefusal}
use Rattle.iw_stream.specs.declared.answer.Standing.{Standing}
use Rattle.iw_stream.specs.declared.answer.Step.{Step}
use Rattle.iw_stream.specs.Starting.{exceeds_request, private_in, told_in, options_in, agreement_in}
use Rattle.iw_stream.specs.Stream as stream
use Rattle.iw_stream.specs.Stream.{StreamState, peer_of, numbered, ended, sees, standing_of, due, is_none_due, emission_of, emitted, delivery_of}
use Rattle.iw_stream.specs.Work as work
use Rattle.iw_stream.specs.Work.{is_at_rest, work_step, worked, worked_with, table_worked}
use Rattle.iw_endpoint.specs.Numbers.{put_at}
use Rattle.iw_endpoint.specs.declared.refusal.CallRefusal.{CallRefusal}
use Rattle.iw_endpoint.specs.declared.refusal.CallRefusal.TheVariants.{NoSuchStream as NoStream, Refused}
use Rattle.iw_endpoint.specs.declared.refusal.LimitRefusal.{LimitRefusal}
use Rattle.iw_endpoint.specs.declared.refusal.LimitRefusal.TheVariants as limits
use Rattle.iw_endpoint.specs.declared.refusal.NoSuchStream.{NoSuchStream}
use Rattle.iw_endpoint.specs.declared.refusal.NotAtRest.{NotAtRest}
use Rattle.iw_endpoint.specs.declared.refusal.OpenNextRefusal.{OpenNextRefusal}
use Rattle.iw_endpoint.specs.declared.refusal.OpenNextRefusal.TheVariants as next_refusals
use Rattle.iw_endpoint.specs.declared.refusal.OpenSharedRefusal.{OpenSharedRefusal}
use Rattle.iw_endpoint.specs.declared.refusal.OpenSharedRefusal.TheVariants as open_shared_refusals
use Rattle.iw_endpoint.specs.declared.refusal.PoolRefusal.{PoolRefusal}
use Rattle.iw_endpoint.specs.declared.refusal.PoolRefusal.TheVariants as pool_refusals
use Rattle.iw_endpoint.specs.declared.refusal.ShareRefusal.{ShareRefusal}
use Rattle.iw_endpoint.specs.declared.refusal.ShareRefusal.TheVariants as share_refusals
use Rattle.iw_endpoint.specs.declared.refusal.TakeRefusal.{TakeRefusal}
use Rattle.iw_endpoint.specs.declared.refusal.TakeRefusal.TheVariants as take_refusals

-- an application picks stream numbers from 0 to 63
abbrev pub stream_numbers : ℕ
stream_numbers = 64

-- and the endpoint gives those from 64 on, which are below this
abbrev pub all_numbers : ℕ
all_numbers = 2 ^ 32

-- the buffers that were posted to a pool and neither taken nor bound to a message, oldest first
abbrev pub Pool : Type 0
Pool = List (List ℕ)

-- there is a place for each domain
abbrev pub domain_numbers : ℕ
domain_numbers = 256

pub record EndpointState : Type 0 where
  pub table : Table  -- its regions, by domain
  pub pools : List (Option Pool)  -- the pool that streams of a domain share, by domain
  pub streams : List (Option StreamState)  -- its streams, by number: 0 to 63, and each number that it has given
  pub closed : List (Option ℕ)  -- by number, 0 to 63: the domain of the stream that was closed

-- no stream was opened
unfoldable pub no_streams : List (Option StreamState)
no_streams = replicate stream_numbers None

-- none was closed
unfoldable pub no_closed : List (Option ℕ)
no_closed = replicate stream_numbers None

-- no domain has a pool
unfoldable pub no_pools : List (Option Pool)
no_pools = replicate domain_numbers None

-- a new endpoint
abbrev pub fresh : EndpointState
fresh = record { table = empty; pools = no_pools; streams = no_streams; closed = no_closed }

-- ---- the stream of a number

-- the stream that was opened under this number
abbrev pub stream_of : EndpointState → ℕ → Option StreamState
stream_of e number = slice_index_or e.streams number None

abbrev pub has_stream : EndpointState → ℕ → Bool
has_stream e number = is_some (stream_of e number)

-- a new stream, in no domain
abbrev pub unopened : StreamState
unopened = stream.opened 0 Preset (record { markers = false; crc = false; establishment = Plain; private = record { items = [] } })

-- the stream of this number; if none was opened, a new one
abbrev pub stream_at : EndpointState → ℕ → StreamState
stream_at e number = unwrap_or (stream_of e number) unopened

abbrev pub with_stream : EndpointState → ℕ → StreamState → EndpointState
with_stream e number s = record e { streams = slice_set e.streams number (Some s) }

-- the domain of the stream that was closed under this number, if the application picked it
abbrev pub closed_at : EndpointState → ℕ → Option ℕ
closed_at e number = slice_index_or e.closed number None

-- a stream was opened under this number
abbrev pub is_taken : EndpointState → ℕ → Bool
is_taken e number = has_stream e number || is_some (closed_at e number)

-- the number that is given next: one past the last, as long as it has 32 bits
abbrev pub next_in : List (Option StreamState) → Option ℕ
next_in streams = if nat_lt (length streams) all_numbers then Some (length streams) else None

abbrev pub next_number : EndpointState → Option ℕ
next_number e = next_in e.streams

-- the answer of a stream, or that there is none
abbrev pub answer_at : {R : Type 0} → Option StreamState → (StreamState → R) → Result R NoSuchStream
answer_at None answer = Err (record {})
answer_at (Some s) answer = Ok (answer s)

-- why a call on a stream is refused, if it is: NoSuchStream comes before any other refusal
abbrev pub refusal_at : {R : Type 0} → Option StreamState → (StreamState → Option R) → Option (CallRefusal R)
refusal_at None refusal = Some NoStream
refusal_at (Some s) refusal = option_map Refused (refusal s)

-- ---- regions

abbrev pub with_table : EndpointState → Table → EndpointState
with_table e table = record e { table = table }

abbrev pub domain_refusal : EndpointState → ℕ → Option DomainRefusal
domain_refusal e pd = tables.domain_refusal e.table pd

abbrev pub added : EndpointState → ℕ → EndpointState
added e pd = with_table e (tables.added e.table pd)

abbrev pub registered : EndpointState → ℕ → ℕ → List ℕ → Rights → EndpointState
registered e pd base octets rights = with_table e (tables.registered e.table pd (new_region base octets rights))

-- the octets of the region that this STag names
abbrev pub octets_of : EndpointState → Stag → Option (List ℕ)
octets_of e stag = option_map (λ r. r.octets) (region_at e.table stag)

abbrev pub deregistered : EndpointState → Stag → EndpointState
deregistered e stag = with_table e (tables.deregistered e.table stag)

abbrev pub invalidated : EndpointState → Stag → EndpointState
invalidated e stag = with_table e (tables.invalidated e.table stag)

abbrev pub facts_at : EndpointState → Stag → Option Facts
facts_at e stag = option_map facts_of (region_at e.table stag)

abbrev pub store_refusal : EndpointState → Stag → ℕ → ℕ → Option StoreRefusal
store_refusal e stag to n = tables.store_refusal e.table stag to n

abbrev pub stored : EndpointState → Stag → ℕ → List ℕ → EndpointState
stored e stag to octets = with_table e (put e.table stag to octets)

-- the owner has replaced the region's octets by these
abbrev pub rewritten : EndpointState → Stag → List ℕ → EndpointState
rewritten e stag octets = with_table e (overwritten e.table stag octets)

-- ---- regions of one stream

-- why nothing is registered for a stream, whatever it is
abbrev pub running_refusal : EndpointState → ℕ → Option (CallRefusal LimitRefusal)
running_refusal e number = refusal_at (stream_of e number) (λ s. if ended s then Some limits.Ended else None)

-- the refusals of its domain come after those, if a region may have `most` octets
abbrev pub limit_refusal_within : ℕ → EndpointState → ℕ → ℕ → ℕ → Option (CallRefusal LimitRefusal)
limit_refusal_within most e number base len =
    option_or (running_refusal e number) (option_map (λ refusal. Refused (limits.Refused refusal)) (register_refusal_within most e.table (stream_at e number).domain base len))

abbrev pub limit_refusal : EndpointState → ℕ → ℕ → ℕ → Option (CallRefusal LimitRefusal)
limit_refusal e number base len = limit_refusal_within (most_octets false) e number base len

abbrev pub limited : EndpointState → ℕ → ℕ → List ℕ → Rights → EndpointState
limited e number base octets rights = with_table e (tables.registered e.table (stream_at e number).domain (bound_region number base octets rights))

-- ---- pools

-- the domain's pool, if one was made
abbrev pub pool_of : EndpointState → ℕ → Option Pool
pool_of e pd = slice_index_or e.pools pd None

abbrev pub with_pool : EndpointState → ℕ → Option Pool → EndpointState
with_pool e pd pool = record e { pools = slice_set e.pools pd pool }

-- the refusals, given whether the domain was added and the pool that it has
abbrev pub share_fault : Bool → Option Pool → Option ShareRefusal
share_fault added pool = if not added then Some share_refusals.NoDomain else option_map (λ pool. share_refusals.AlreadyShared) pool

abbrev pub pool_refusal_of : BufferRefusal → PoolRefusal
pool_refusal_of buffer_refusals.Full = pool_refusals.Full
pool_refusal_of buffer_refusals.NoMemory = pool_refusals.NoMemory

abbrev pub pool_fault : Bool → Option Pool → Option PoolRefusal
pool_fault added pool =
    if not added then Some pool_refusals.NoDomain
    else option_map_or (λ pool. option_map pool_refusal_of (receiving.pool_refusal pool)) pool (Some pool_refusals.NotShared)

abbrev pub take_fault : Bool → Option Pool → Option TakeRefusal
take_fault added pool =
    if not added then Some take_refusals.NoDomain
    else option_map_or (λ pool. None) pool (Some take_refusals.NotShared)

abbrev pub share_refusal : EndpointState → ℕ → Option ShareRefusal
share_refusal e pd = share_fault (is_added e.table pd) (pool_of e pd)

abbrev pub shared : EndpointState → ℕ → EndpointState
shared e pd = with_pool e pd (Some [])

abbrev pub pool_refusal : EndpointState → ℕ → Option PoolRefusal
pool_refusal e pd = pool_fault (is_added e.table pd) (pool_of e pd)

-- the buffer comes after the others
abbrev pub pooled : EndpointState → ℕ → List ℕ → EndpointState
pooled e pd buffer = with_pool e pd (option_map (λ pool. pool ++ buffer ∷ []) (pool_of e pd))

abbrev pub take_refusal : EndpointState → ℕ → Option TakeRefusal
take_refusal e pd = take_fault (is_added e.table pd) (pool_of e pd)

-- the oldest is taken, if there is one
abbrev pub taken : Option Pool → Option (List ℕ)
taken pool = option_map_or (λ pool. slice_get pool 0) pool None

abbrev pub taken_at : EndpointState → ℕ → Option (List ℕ)
taken_at e pd = taken (pool_of e pd)

abbrev pub after_take : EndpointState → ℕ → EndpointState
after_take e pd = with_pool e pd (option_map (drop 1) (pool_of e pd))

-- ---- openings

-- why no stream is opened under this number in this domain
abbrev pub number_refusal : EndpointState → ℕ → ℕ → Option OpenRefusal
number_refusal e number pd =
    if nat_le stream_numbers number then Some BadNumber
    else if is_taken e number then Some NumberTaken
    else if not (is_added e.table pd) then Some NoDomain
    else None

-- an initiator has too much private data
abbrev pub request_refusal : Role → Config → Option OpenRefusal
request_refusal role config = if exceeds_request role config then Some PrivateTooLong else None

abbrev pub open_refusal : EndpointState → ℕ → ℕ → Role → Config → Option OpenRefusal
open_refusal e number pd role config = option_or (number_refusal e number pd) (request_refusal role config)

-- a stream knows the number that it is opened under
abbrev pub new_stream : ℕ → ℕ → Role → Config → StreamState
new_stream number pd role config = numbered (stream.opened pd role config) number

abbrev pub new_shared : ℕ → ℕ → Role → Config → StreamState
new_shared number pd role config = numbered (stream.opened_shared pd role config) number

abbrev pub opened : EndpointState → ℕ → ℕ → Role → Config → EndpointState
opened e number pd role config = with_stream e number (new_stream number pd role config)

-- for a stream that shares the domain's pool
abbrev pub open_shared_refusal_of : OpenRefusal → OpenSharedRefusal
open_shared_refusal_of NumberTaken = open_shared_refusals.NumberTaken
open_shared_refusal_of BadNumber = open_shared_refusals.BadNumber
open_shared_refusal_of NoDomain = open_shared_refusals.NoDomain
open_shared_refusal_of PrivateTooLong = open_shared_refusals.PrivateTooLong
open_shared_refusal_of NoMemory = open_shared_refusals.NoMemory

-- NotShared comes after the number and the domain
abbrev pub unshared : Option Pool → Option OpenSharedRefusal
unshared None = Some open_shared_refusals.NotShared
unshared (Some pool) = None

abbrev pub open_shared_refusal : EndpointState → ℕ → ℕ → Role → Config → Option OpenSharedRefusal
open_shared_refusal e number pd role config =
    option_or (option_map open_shared_refusal_of (number_refusal e number pd))
    (option_or (unshared (pool_of e pd)) (option_map open_shared_refusal_of (request_refusal role config)))

abbrev pub opened_shared : EndpointState → ℕ → ℕ → Role → Config → EndpointState
opened_shared e number pd role config = with_stream e number (new_shared number pd role config)

-- ---- openings under the next number

-- why no stream is opened under the next number, which is this, if one is left
abbrev pub next_refusal : EndpointState → Option ℕ → ℕ → Role → Config → Option OpenNextRefusal
next_refusal e number pd role config =
    if not (is_added e.table pd) then Some next_refusals.NoDomain
    else if is_none number then Some next_refusals.NumbersSpent
    else if exceeds_request role config then Some next_refusals.PrivateTooLong
    else None

-- for a stream that shares the domain's pool
abbrev pub next_shared_refusal : EndpointState → Option ℕ → ℕ → Role → Config → Option OpenNextRefusal
next_shared_refusal e number pd role config =
    if not (is_added e.table pd) then Some next_refusals.NoDomain
    else if is_none (pool_of e pd) then Some next_refusals.NotShared
    else next_refusal e number pd role config

-- this stream stands under this number, which had none before
abbrev pub with_next : EndpointState → ℕ → StreamState → EndpointState
with_next e number s = record e { streams = put_at e.streams number s }

abbrev pub opened_next : EndpointState → Option ℕ → ℕ → Role → Config → EndpointState
opened_next e number pd role config = with_next e (unwrap_or number 0) (new_stream (unwrap_or number 0) pd role config)

abbrev pub opened_shared_next : EndpointState → Option ℕ → ℕ → Role → Config → EndpointState
opened_shared_next e number pd role config = with_next e (unwrap_or number 0) (new_shared (unwrap_or number 0) pd role config)

-- ---- start-up

-- why a Request is not answered with this private data
abbrev pub answer_refusal : EndpointState → ℕ → List ℕ → Option (CallRefusal AnswerRefusal)
answer_refusal e number private = refusal_at (stream_of e number) (λ s. stream.answer_refusal s private)

-- what accept returns
abbrev pub agreement : EndpointState → ℕ → Agreed
agreement e number = agreement_in (stream_at e number).start

abbrev pub accepted : EndpointState → ℕ → ArrayVec ℕ → EndpointState
accepted e number private = with_stream e number (stream.accepted (stream_at e number) private)

abbrev pub rejected : EndpointState → ℕ → ArrayVec ℕ → EndpointState
rejected e number private = with_stream e number (stream.rejected (stream_at e number) private)

-- ---- postings

abbrev pub post_refusal : EndpointState → ℕ → Request (List ℕ) → Option (CallRefusal PostRefusal)
post_refusal e number request = refusal_at (stream_of e number) (λ s. stream.post_refusal s request)

abbrev pub with_request : EndpointState → ℕ → Request (List ℕ) → EndpointState
with_request e number request = with_stream e number (stream.with_request (stream_at e number) request)

abbrev pub recv_refusal : EndpointState → ℕ → Option (CallRefusal RecvRefusal)
recv_refusal e number = refusal_at (stream_of e number) stream.recv_refusal

abbrev pub with_buffer : EndpointState → ℕ → List ℕ → EndpointState
with_buffer e number buffer = with_stream e number (stream.with_buffer (stream_at e number) buffer)

-- ---- delivery and emission

-- why the sequence number of the peer's first octet is not set
abbrev pub first_refusal : EndpointState → ℕ → Option (CallRefusal FirstRefusal)
first_refusal e number = refusal_at (stream_of e number) stream.first_refusal

abbrev pub with_first : EndpointState → ℕ → ℕ → EndpointState
with_first e number first = with_stream e number (stream.with_first (stream_at e number) first)

-- n octets, the first of which has this sequence number
abbrev pub delivery_at : EndpointState → ℕ → ℕ → ℕ → Delivery
delivery_at e number from n = delivery_of (stream_at e number) from n

abbrev pub after_deliver : EndpointState → ℕ → ℕ → List ℕ → EndpointState
after_deliver e number from octets =
    with_stream e number (stream.after_deliver (stream_at e number) from octets (delivery_at e number from (length octets)))

abbrev pub emission_at : EndpointState → ℕ → Emission
emission_at e number = emission_of e.table (stream_at e number)

abbrev pub emitted_at : EndpointState → ℕ → List ℕ
emitted_at e number = emitted e.table (stream_at e number)

abbrev pub after_emit : EndpointState → ℕ → EndpointState
after_emit e number = with_stream e number (stream.after_emit e.table (stream_at e number))

-- ---- work

-- a stream as it does a step: the pool of its domain, if there is one, is lent to it
abbrev pub lent_to : Option Pool → StreamState → StreamState
lent_to None s = s
lent_to (Some pool) s = sees s pool

-- the stream after the step, and the pool
abbrev pub left_of : Table → Option Pool → StreamState → StreamState
left_of table None s = worked table s
left_of table (Some pool) s = worked_with table s pool

abbrev pub pool_left : Table → Option Pool → StreamState → Option Pool
pool_left table None s = None
pool_left table (Some pool) s = Some (work.pool_left table s pool)

abbrev pub step_at : EndpointState → ℕ → Result (Step (List ℕ)) NoSuchStream
step_at e number = answer_at (stream_of e number) (λ s. work_step e.table (lent_to (pool_of e s.domain) s))

-- the endpoint after a step at this stream
abbrev pub with_worked : EndpointState → ℕ → StreamState → EndpointState
with_worked e number s = record {
  table = table_worked e.table (lent_to (pool_of e s.domain) s);
  pools = slice_set e.pools s.domain (pool_left e.table (pool_of e s.domain) s);
  streams = slice_set e.streams number (Some (left_of e.table (pool_of e s.domain) s));
  closed = e.closed;
}

abbrev pub after_work : EndpointState → ℕ → EndpointState
after_work e number = with_worked e number (stream_at e number)

-- ---- the end

-- its link broke
abbrev pub broken : EndpointState → ℕ → EndpointState
broken e number = with_stream e number (stream.breaks (stream_at e number))

-- why a stream is not closed
abbrev pub rest_refusal : StreamState → Option NotAtRest
rest_refusal s = if is_at_rest s then None else Some (record {})

abbrev pub close_refusal : EndpointState → ℕ → Option (CallRefusal NotAtRest)
close_refusal e number = refusal_at (stream_of e number) rest_refusal

-- the stream is forgotten; if the application picked its number, its domain is kept; the regions that are limited to it are out of use
abbrev pub after_close : EndpointState → ℕ → EndpointState
after_close e number = record e {
  table = retired e.table (peer_of (stream_at e number));
  streams = slice_set e.streams number None;
  closed = slice_set e.closed number (Some (stream_at e number).domain);
}

-- ---- sizes

abbrev pub size_refusal : EndpointState → ℕ → ℕ → Option (CallRefusal SizeRefusal)
size_refusal e number size = refusal_at (stream_of e number) (λ s. stream.size_refusal size)

abbrev pub with_mulpdu : EndpointState → ℕ → ℕ → EndpointState
with_mulpdu e number size = with_stream e number (stream.with_mulpdu (stream_at e number) size)

-- ---- facts about a stream

abbrev pub private_at : EndpointState → ℕ → List ℕ
private_at e number = private_in (stream_at e number).start

-- what the peer told in its start-up frame by the word of IRD and ORD
abbrev pub told_at : EndpointState → ℕ → Option EnhancedData
told_at e number = told_in (stream_at e number).start

-- what the peer asks for in it
abbrev pub options_at : EndpointState → ℕ → Option PeerOptions
options_at e number = options_in (stream_at e number).start

-- starting, open or ended
abbrev pub standing_at : EndpointState → ℕ → Standing
standing_at e number = standing_of (stream_at e number)

-- something is to be emitted next, or the peer may not read what is
abbrev pub has_due : EndpointState → ℕ → Bool
has_due e number = not (is_none_due (due (stream_at e number)))

-- how many octets it emitted; 0 if there is no stream
abbrev pub sent_at : EndpointState → ℕ → ℕ
sent_at e number = (stream_at e number).sent

-- the sequence number of the peer's first octet
abbrev pub first_at : EndpointState → ℕ → ℕ
first_at e number = (stream_at e number).first

-- its in-order point; 0 if there is no stream
abbrev pub point_at : EndpointState → ℕ → ℕ
point_at e number = (stream_at e number).arrived.floor

-- ---- what an endpoint keeps

-- there is a place for each number that an application picks
abbrev pub HasNumbers : EndpointState → Type 0
HasNumbers e = stream_numbers ≤ length e.streams
