-- How each call is answered, and what becomes of octets that come.
use Rattle.std.specs.Prelude.{◌≡◌, ℕ, ◌+◌, ◌-◌, ◌%◌, ◌^◌, ◌≤◌, ◌==◌, nat_le, nat_lt, not, ◌&&◌, ◌||◌, Bool, true, List, ◌∷◌, ◌++◌, length, take, drop, if◌then◌else◌, Option, Some, None, Result, Ok, Err, IfOk}
use Rattle.std.specs.Option.{option_map, option_map_or, option_or}
use Rattle.std.specs.Result.{result_err}
use Rattle.iw_octets.specs.declared.stag.Stag.{Stag}
use Rattle.iw_memory.specs.declared.refusal.NoRegion.{NoRegion}
use Rattle.iw_memory.specs.Table.{Table, is_added, domain_refusal, register_refusal, store_refusal, region_at}
use Rattle.iw_ranges.specs.declared.Delivery.{Delivery}
use Rattle.iw_ranges.specs.declared.Delivery.TheVariants.{Dropped}
use Rattle.iw_ranges.specs.Arrived.{advanced, delivery}
use Rattle.iw_queues.specs.declared.request.Request.{Request}
use Rattle.iw_queues.specs.Request.{size_of}
use Rattle.iw_stream.specs.declared.answer.AnswerRefusal.{AnswerRefusal}
use Rattle.iw_stream.specs.declared.answer.AnswerRefusal.TheVariants.{NotAsked}
use Rattle.iw_stream.specs.declared.answer.PostRefusal.{PostRefusal}
use Rattle.iw_stream.specs.declared.answer.PostRefusal.TheVariants as posting
use Rattle.iw_stream.specs.declared.answer.RecvRefusal.{RecvRefusal}
use Rattle.iw_stream.specs.declared.answer.RecvRefusal.TheVariants as receiving
use Rattle.iw_stream.specs.declared.answer.FirstRefusal.{FirstRefusal}
use Rattle.iw_stream.specs.declared.answer.FirstRefusal.TheVariants.{Late}
use Rattle.iw_stream.specs.declared.answer.OpenRefusal.{OpenRefusal}
use Rattle.iw_stream.specs.declared.answer.OpenRefusal.TheVariants.{NumberTaken, BadNumber, NoDomain}
use Rattle.iw_startup.specs.declared.config.Config.{Config}
use Rattle.iw_stream.specs.declared.answer.Role.{Role}
use Rattle.iw_stream.specs.Starting.{is_open, most_reads_in, agreement_in, answer_refusal}
use Rattle.iw_stream.specs.Stream.{size_refusal, is_read}
use Rattle.iw_untagged.specs.Receiving.{is_full, is_shared}
use Rattle.iw_endpoint.specs.declared.refusal.OpenSharedRefusal.{OpenSharedRefusal}
use Rattle.iw_endpoint.specs.Endpoint.{Pool as PoolOf, stream_numbers, share_fault, pool_fault, take_fault, taken, request_refusal, open_shared_refusal_of, unshared}
use Rattle.iw_endpoint.specs.Isolation.{answer_or}
use Rattle.iw_events.specs.declared.act.Act.{Act}
use Rattle.iw_events.specs.declared.act.Act.TheVariants.{Domain, Register, Deregister, Invalidate, Store, Open, Share, Pool, Unpool, OpenShared, Stream}
use Rattle.iw_events.specs.declared.act.StreamAct.{StreamAct}
use Rattle.iw_events.specs.declared.act.StreamAct.TheVariants.{Recv, Post, Emit, First, Deliver, Raw, Mulpdu, Accept, Reject, Work, Break}
use Rattle.iw_events.specs.declared.act.Entry.{Entry}
use Rattle.iw_laws.specs.Words.{Octets, Coming, other, acts, deed, private_data, config_for, stream_acts, openings, was_opened, posted, handed_kinds, ended, sent, table_after}
use Rattle.iw_laws.specs.Turns.{Story, story_of, pool_by, in_order_point, landed}
use Rattle.iw_laws.specs.Words.{OnSome, OnStream, AtEach}

-- ---- the calls of an end

-- the octets of the region, or that there is none
abbrev pub deregister_answer : Table → Stag → Result Octets NoRegion
deregister_answer table stag = option_map_or (λ r. Ok r.octets) (region_at table stag) (Err (record {}))

abbrev pub invalidate_refusal : Table → Stag → Option NoRegion
invalidate_refusal table stag = option_map_or (λ r. None) (region_at table stag) (Some (record {}))

-- the STag is of the domain, and named nothing
pub record IsNew (table : Table) (pd : ℕ) (stag : Stag) : Type 0 where
  pub domain : stag.domain ≡ pd
  pub fresh : region_at table stag ≡ None

-- why no stream is opened under a number, by the regions, and by whether it was used
abbrev pub number_refusal_in : Table → Bool → ℕ → ℕ → Option OpenRefusal
number_refusal_in table used n pd =
    if nat_le stream_numbers n then Some BadNumber
    else if used then Some NumberTaken
    else if not (is_added table pd) then Some NoDomain
    else None

-- that an enhanced Request has no room for the private data comes after all else
abbrev pub open_refusal_in : Table → Bool → ℕ → ℕ → Role → Config → Option OpenRefusal
open_refusal_in table used n pd role config = option_or (number_refusal_in table used n pd) (request_refusal role config)

-- but for that, that the domain has no pool
abbrev pub open_shared_refusal_in : Table → Option PoolOf → Bool → ℕ → ℕ → Role → Config → Option OpenSharedRefusal
open_shared_refusal_in table pool used n pd role config =
    option_or (option_map open_shared_refusal_of (number_refusal_in table used n pd))
    (option_or (unshared pool) (option_map open_shared_refusal_of (request_refusal role config)))

abbrev pub number_refusal_by : List (Act Octets) → ℕ → ℕ → Option OpenRefusal
number_refusal_by before n pd = number_refusal_in (table_after before) (was_opened (openings n before)) n pd

abbrev pub open_refusal_by : List (Act Octets) → ℕ → ℕ → Role → Config → Option OpenRefusal
open_refusal_by before n pd role config = open_refusal_in (table_after before) (was_opened (openings n before)) n pd role config

abbrev pub open_shared_refusal_by : List (Act Octets) → ℕ → ℕ → Role → Config → Option OpenSharedRefusal
open_shared_refusal_by before n pd role config =
    open_shared_refusal_in (table_after before) (pool_by pd before) (was_opened (openings n before)) n pd role config

-- by what was done at the end before
abbrev pub EndAnswered : List (Act Octets) → Act Octets → Type 0
EndAnswered before (Domain pd refused) = refused ≡ domain_refusal (table_after before) pd
EndAnswered before (Register pd base rights octets answer) =
    (result_err answer ≡ register_refusal (table_after before) pd base (length octets)) × IfOk answer (IsNew (table_after before) pd)
EndAnswered before (Deregister stag answer) = answer ≡ deregister_answer (table_after before) stag
EndAnswered before (Invalidate stag refused) = refused ≡ invalidate_refusal (table_after before) stag
EndAnswered before (Store stag to octets refused) = refused ≡ store_refusal (table_after before) stag to (length octets)
EndAnswered before (Open n pd role options private refused) = refused ≡ open_refusal_by before n pd role (config_for options private)
EndAnswered before (Share pd refused) = refused ≡ share_fault (is_added (table_after before) pd) (pool_by pd before)
EndAnswered before (Pool pd len refused) = refused ≡ pool_fault (is_added (table_after before) pd) (pool_by pd before)
EndAnswered before (Unpool pd answer) = answer ≡ answer_or (take_fault (is_added (table_after before) pd) (pool_by pd before)) (taken (pool_by pd before))
EndAnswered before (OpenShared n pd role options private refused) = refused ≡ open_shared_refusal_by before n pd role (config_for options private)
EndAnswered before (Stream n act) = Unit {0}

-- each call of an end is answered by its regions, pools and streams, as the entries before it leave them
abbrev pub ShowsMemory : List (Entry Octets) → Type 0
ShowsMemory = AtEach EndAnswered

-- ---- the calls of a stream

abbrev pub recv_refusal_by : Story → List (StreamAct Octets) → Option RecvRefusal
recv_refusal_by t before =
    if is_shared t.receiving then Some receiving.Shared
    else if ended before then Some receiving.Ended
    else if is_full t.receiving.source then Some receiving.Full
    else None

abbrev pub post_refusal_by : Story → List (StreamAct Octets) → Request Octets → Option PostRefusal
post_refusal_by t before request =
    if ended before || not (is_open t.start) then Some posting.NotOpen
    else if is_read request && (most_reads_in t.start == 0) then Some posting.NoReads
    else if nat_le 256 (length (posted before) - length (handed_kinds before)) then Some posting.Full
    else if nat_lt 16777216 (size_of request) then Some posting.TooLong
    else None

-- the number of the peer's first octet comes before any delivery
abbrev pub first_refusal_by : Story → Option FirstRefusal
first_refusal_by t = if t.was_delivered then Some Late else None

-- the peer's Request was read, and is not answered; and the answer has room for the private data
abbrev pub answer_refusal_by : Story → List (StreamAct Octets) → Octets → Option AnswerRefusal
answer_refusal_by t before private = if ended before then Some NotAsked else answer_refusal t.start (private_data private).items

-- by what was done on the stream before
abbrev pub StreamAnswered : Story → List (StreamAct Octets) → StreamAct Octets → Type 0
StreamAnswered t before (Recv len refused) = refused ≡ recv_refusal_by t before
StreamAnswered t before (Post request refused) = refused ≡ post_refusal_by t before request
StreamAnswered t before (Mulpdu size refused) = refused ≡ size_refusal size
-- what both ends asked for is agreed on
StreamAnswered t before (Accept private answer) = answer ≡ answer_or (answer_refusal_by t before private) (agreement_in t.start)
StreamAnswered t before (Reject private refused) = refused ≡ answer_refusal_by t before private
StreamAnswered t before (Emit shown) = Unit {0}
StreamAnswered t before (First number refused) = refused ≡ first_refusal_by t
StreamAnswered t before (Deliver from number octets delivery) = Unit {0}
StreamAnswered t before (Raw number octets delivery) = Unit {0}
StreamAnswered t before (Work step) = Unit {0}
StreamAnswered t before Break = Unit {0}

abbrev pub AnsweredStream : List (Act Octets) → ℕ → StreamAct Octets → Type 0
AnsweredStream before n act = StreamAnswered (story_of n before) (stream_acts n before) act

-- each call of a stream is refused exactly where it must be
abbrev pub Answered : List (Entry Octets) → Type 0
Answered = AtEach (OnStream AnsweredStream)

-- ---- octets that come

-- they are dropped where the stream has ended, an octet lies out of the window, or there would be too many islands
abbrev pub delivery_by : Story → List (StreamAct Octets) → Coming → Delivery
delivery_by t before c =
    if ended before then Dropped else delivery (advanced t.came (in_order_point t)) (landed t c).place (length (landed t c).octets)

abbrev pub KeptStream : List (Act Octets) → ℕ → StreamAct Octets → Type 0
KeptStream before n act =
    OnSome (λ c. c.delivery ≡ delivery_by (story_of n before) (stream_acts n before) c) (deed act).coming

-- octets are kept wherever they can be
abbrev pub KeepsOctets : List (Entry Octets) → Type 0
KeepsOctets = AtEach (OnStream KeptStream)

-- these octets stand in those that were sent, from this place on
pub record StandIn (sent : Octets) (from : ℕ) (octets : Octets) : Type 0 where
  pub within : from + length octets ≤ length sent
  pub are : octets ≡ take (length octets) (drop from sent)

-- octets that come from a place of what the other end sent are those that stand there, and the first of them has that place's number
pub record IsCarried (sent : Octets) (first : ℕ) (c : Coming) (from : ℕ) : Type 0 where
  pub stand : StandIn sent from c.octets
  pub numbered : c.number ≡ (first + from) % 2 ^ 32

-- by what was done at the other end before, and at its own
abbrev pub CarriedStream : List (Act Octets) → List (Act Octets) → ℕ → StreamAct Octets → Type 0
CarriedStream peer before n act =
    OnSome (λ c. OnSome (IsCarried (sent (stream_acts n peer)) (story_of n before).first c) c.from) (deed act).coming

abbrev pub CarriesOctets : List (Entry Octets) → Type 0
CarriesOctets trace =
    (past : List (Entry Octets)) (e : Entry Octets) (future : List (Entry Octets)) → trace ≡ past ++ e ∷ future
    → OnStream (CarriedStream (acts (other e.end) past)) (acts e.end past) e.act

-- ---- streams that are there

-- the stream was opened at its end and, if octets come that are not raw, at the other
abbrev pub OpenedStream : List (Act Octets) → List (Act Octets) → ℕ → StreamAct Octets → Type 0
OpenedStream peer before n act =
    (was_opened (openings n before) ≡ true) × OnSome (λ c. OnSome (λ from. was_opened (openings n peer) ≡ true) c.from) (deed act).coming

-- each act of a stream comes after its opening, and a delivery after both openings
abbrev pub OpensFirst : List (Entry Octets) → Type 0
OpensFirst trace =
    (past : List (Entry Octets)) (e : Entry Octets) (future : List (Entry Octets)) → trace ≡ past ++ e ∷ future
    → OnStream (OpenedStream (acts (other e.end) past)) (acts e.end past) e.act
