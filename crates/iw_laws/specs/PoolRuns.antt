-- Runs that no two ends make, each of which breaks one law by what that says of streams that share a pool.
use Rattle.std.specs.Prelude.{ℕ, Bool, true, false, [], ◌∷◌, ◌++◌, replicate, Option, Some, None, Ok}
use Rattle.iw_octets.specs.declared.fault.TheConstants.Fault as faults
use Rattle.iw_octets.specs.declared.message.Message.TheVariants as messages
use Rattle.iw_ranges.specs.declared.Delivery.TheVariants.{Kept}
use Rattle.iw_queues.specs.declared.request.Request.TheVariants.{Message as Posted}
use Rattle.iw_stream.specs.declared.answer.RecvRefusal.TheVariants.{Ended}
use Rattle.iw_stream.specs.declared.answer.Role.TheVariants.{Preset}
use Rattle.iw_endpoint.specs.declared.refusal.OpenSharedRefusal.{OpenSharedRefusal}
use Rattle.iw_endpoint.specs.declared.refusal.OpenSharedRefusal.TheVariants.{NotShared}
use Rattle.iw_events.specs.declared.act.Act.{Act}
use Rattle.iw_events.specs.declared.act.Act.TheVariants.{Domain, Open, Share, Pool, Unpool, OpenShared, Stream}
use Rattle.iw_events.specs.declared.act.StreamAct.TheVariants.{Recv, Post, Raw, Work}
use Rattle.iw_events.specs.declared.act.Seen.TheVariants as seen
use Rattle.iw_laws.specs.Words.{Octets}
use Rattle.iw_laws.specs.Calls.{ShowsMemory, Answered, OpensFirst}
use Rattle.iw_laws.specs.Early.{JudgesEarly, ChecksOnce}
use Rattle.iw_laws.specs.Ends.{Ends}
use Rattle.iw_laws.specs.Isolated.{Isolated}
use Rattle.iw_laws.specs.Once.{PlacesOnce}
use Rattle.iw_laws.specs.Rest.{IdleOnlyAtRest}
use Rattle.iw_laws.specs.Safe.{InOrder, Covered, Within}
use Rattle.iw_laws.specs.Turns.{Turns}
use Rattle.iw_laws.specs.WrongRuns.{Run, a, b, on, no_options, opens, raw, works, breaks, sends_one, writes_one, send_frame, buffers_one}

-- ---- entries

-- this domain has a pool
abbrev pub shares : ℕ → Run
shares pd = b (Domain pd None) ∷ b (Share pd None) ∷ []

-- a buffer of this length is posted to it, and its oldest buffer is taken back
abbrev pub pools : ℕ → ℕ → Act Octets
pools pd len = Pool pd len None

abbrev pub unpools : ℕ → Option Octets → Act Octets
unpools pd buffer = Unpool pd (Ok buffer)

-- a stream that shares it, with markers or without, and with no CRCs
abbrev pub asks_shared : ℕ → ℕ → Bool → Option OpenSharedRefusal → Act Octets
asks_shared n pd markers refused = OpenShared n pd Preset (record no_options { markers = markers }) [] refused

abbrev pub opens_shared : ℕ → ℕ → Act Octets
opens_shared n pd = asks_shared n pd false None

-- domain 1 with a pool, and stream 0 that shares it
abbrev pub opens_pooled : Run
opens_pooled = shares 1 ++ (b (opens_shared 0 1) ∷ [])

abbrev pub opens_marked : Run
opens_marked = shares 1 ++ (b (asks_shared 0 1 true None) ∷ [])

-- frames of Sends: the second of a stream, without octets; another first one; and the first one in two segments
abbrev pub second_frame : Octets
second_frame = (0 ∷ 18 ∷ 0x41 ∷ 0x43 ∷ []) ++ replicate 11 0 ++ (2 ∷ []) ++ replicate 8 0

abbrev pub other_frame : Octets
other_frame = (0 ∷ 19 ∷ 0x41 ∷ 0x43 ∷ []) ++ replicate 11 0 ++ (1 ∷ 0 ∷ 0 ∷ 0 ∷ 0 ∷ 0x69 ∷ []) ++ replicate 7 0

abbrev pub part_frame : Octets
part_frame = (0 ∷ 19 ∷ 0x01 ∷ 0x43 ∷ []) ++ replicate 11 0 ++ (1 ∷ 0 ∷ 0 ∷ 0 ∷ 0 ∷ 0x68 ∷ []) ++ replicate 7 0

abbrev pub last_frame : Octets
last_frame = (0 ∷ 19 ∷ 0x41 ∷ 0x43 ∷ []) ++ replicate 11 0 ++ (1 ∷ 0 ∷ 0 ∷ 0 ∷ 1 ∷ 0x69 ∷ []) ++ replicate 7 0

-- the second of these segments is placed
abbrev pub buffers_last : Act Octets
buffers_last = works (seen.Buffered 1 1 1)

-- octets come past a marker: the first one of the stream, or one past octets that did not come
abbrev pub marked : ℕ → Octets → Act Octets
marked number octets = raw number ((0 ∷ 0 ∷ 0 ∷ 0 ∷ []) ++ octets)

-- ---- which buffer a message gets: Within refuses these

-- the youngest of the pool, in which it has room, and not the oldest, in which it has none
abbrev pub binds_youngest : Run
binds_youngest = opens_pooled ++ (b (pools 1 0) ∷ b (pools 1 1) ∷ b (raw 0 send_frame) ∷ b buffers_one ∷ [])

-- one that was taken back
abbrev pub binds_taken : Run
binds_taken = opens_pooled ++ (b (pools 1 1) ∷ b (unpools 1 (Some (0 ∷ []))) ∷ b (raw 0 send_frame) ∷ b buffers_one ∷ [])

-- one of another domain's pool
abbrev pub binds_foreign : Run
binds_foreign = shares 1 ++ shares 2 ++ (b (pools 1 1) ∷ b (opens_shared 0 2) ∷ b (raw 0 send_frame) ∷ b buffers_one ∷ [])

-- one of the pool, on a stream that does not share it
abbrev pub binds_unshared : Run
binds_unshared = opens b Preset ++ (b (Share 1 None) ∷ b (pools 1 1) ∷ b (raw 0 send_frame) ∷ b buffers_one ∷ [])

-- one that is bound to a message of another stream, in a pool that has no other
abbrev pub buffers_second : Act Octets
buffers_second = Stream 1 (Work (seen.Buffered 1 0 1))

abbrev pub raw_second : Act Octets
raw_second = Stream 1 (Raw 0 other_frame Kept)

abbrev pub binds_elsewhere : Run
binds_elsewhere = opens_pooled ++ (b (opens_shared 1 1) ∷ b (pools 1 1) ∷ b (raw 0 send_frame) ∷ b buffers_one ∷ b raw_second ∷ b buffers_second ∷ [])

-- the pool's oldest, in which the rest of a message has room, and not the one that is bound to the message, in which it has none
abbrev pub binds_past : Run
binds_past =
    opens_pooled
    ++ (b (pools 1 1) ∷ b (pools 1 2) ∷ b (raw 0 part_frame) ∷ b buffers_one ∷ b (works seen.Passed) ∷ b (raw 28 last_frame) ∷ b buffers_last ∷ [])

-- that of the next message, which came early and has no octets, though the pool's oldest buffer has no room
abbrev pub binds_later : Run
binds_later =
    opens_marked
    ++ (b (pools 1 1) ∷ b (pools 1 0) ∷ b (marked 512 second_frame) ∷ b (works (seen.Buffered 2 0 0)) ∷ b (marked 0 send_frame) ∷ b buffers_one ∷ [])

abbrev pub RefusesYoungestBound : Type 0
RefusesYoungestBound = ¬ Within binds_youngest

abbrev pub RefusesTakenBound : Type 0
RefusesTakenBound = ¬ Within binds_taken

abbrev pub RefusesForeignBound : Type 0
RefusesForeignBound = ¬ Within binds_foreign

abbrev pub RefusesUnsharedBound : Type 0
RefusesUnsharedBound = ¬ Within binds_unshared

abbrev pub RefusesBoundElsewhere : Type 0
RefusesBoundElsewhere = ¬ Within binds_elsewhere

abbrev pub RefusesPastBound : Type 0
RefusesPastBound = ¬ Within binds_past

abbrev pub RefusesLaterBound : Type 0
RefusesLaterBound = ¬ Within binds_later

-- ---- what is left in the pool: ShowsMemory refuses these

-- a buffer is bound, and the oldest is left: the youngest was taken
abbrev pub takes_oldest : Act Octets
takes_oldest = unpools 1 (Some (0 ∷ []))

abbrev pub leaves_oldest : Run
leaves_oldest = opens_pooled ++ (b (pools 1 1) ∷ b (pools 1 2) ∷ b (raw 0 send_frame) ∷ b buffers_one ∷ b takes_oldest ∷ [])

-- the youngest is taken back
abbrev pub takes_youngest : Act Octets
takes_youngest = unpools 1 (Some (0 ∷ 0 ∷ []))

abbrev pub takes_youngest_back : Run
takes_youngest_back = opens_pooled ++ (b (pools 1 1) ∷ b (pools 1 2) ∷ b takes_youngest ∷ [])

-- a frame is tried, since the oldest has no room for it, and the oldest is bound
abbrev pub takes_none : Act Octets
takes_none = unpools 1 None

abbrev pub binds_tried : Run
binds_tried = opens_marked ++ (b (pools 1 0) ∷ b (marked 512 send_frame) ∷ b (works (seen.Tried 516)) ∷ b takes_none ∷ [])

-- a frame has a fault, since the oldest has no room for it, and the oldest is bound
abbrev pub binds_faulted : Run
binds_faulted = opens_pooled ++ (b (pools 1 0) ∷ b (raw 0 send_frame) ∷ b (works (seen.Fault faults.UNTAGGED_TOO_LONG)) ∷ b takes_none ∷ [])

-- both segments of a message came early, and each has a buffer bound to it
abbrev pub binds_twice : Run
binds_twice =
    opens_marked
    ++ (b (pools 1 2) ∷ b (pools 1 2) ∷ b (marked 512 (part_frame ++ last_frame)) ∷ b buffers_one ∷ b buffers_last ∷ b takes_none ∷ [])

-- a message was received, and its buffer is in the pool again
abbrev pub takes_received : Act Octets
takes_received = unpools 1 (Some (0x68 ∷ []))

abbrev pub pools_received : Run
pools_received =
    opens_pooled
    ++ (b (pools 1 1) ∷ b (raw 0 send_frame) ∷ b buffers_one ∷ b (works (seen.Received (0x68 ∷ []) false None)) ∷ b takes_received ∷ [])

-- a stream has ended, and the pool is empty
abbrev pub drops_unbound : Run
drops_unbound = opens_pooled ++ (b (pools 1 1) ∷ b breaks ∷ b takes_none ∷ [])

abbrev pub RefusesOldestLeft : Type 0
RefusesOldestLeft = ¬ ShowsMemory leaves_oldest

abbrev pub RefusesYoungestTaken : Type 0
RefusesYoungestTaken = ¬ ShowsMemory takes_youngest_back

abbrev pub RefusesTriedBound : Type 0
RefusesTriedBound = ¬ ShowsMemory binds_tried

abbrev pub RefusesFaultedBound : Type 0
RefusesFaultedBound = ¬ ShowsMemory binds_faulted

abbrev pub RefusesBoundTwice : Type 0
RefusesBoundTwice = ¬ ShowsMemory binds_twice

abbrev pub RefusesReceivedPooled : Type 0
RefusesReceivedPooled = ¬ ShowsMemory pools_received

abbrev pub RefusesUnboundDropped : Type 0
RefusesUnboundDropped = ¬ ShowsMemory drops_unbound

-- ---- calls: ShowsMemory refuses the first five

-- a second pool is made for the domain
abbrev pub shares_again : Act Octets
shares_again = Share 1 None

abbrev pub shares_twice : Run
shares_twice = shares 1 ++ (b shares_again ∷ [])

-- a buffer is posted to the pool of a domain that has none
abbrev pub pools_unshared : Run
pools_unshared = b (Domain 1 None) ∷ b (pools 1 1) ∷ []

-- a pool takes a buffer beside 1,024
abbrev pub full_pool : Run
full_pool = shares 1 ++ replicate 1024 (b (pools 1 1))

abbrev pub pools_over : Run
pools_over = full_pool ++ (b (pools 1 1) ∷ [])

-- a stream is opened that shares the pool of a domain that has none
abbrev pub opens_unshared : Run
opens_unshared = b (Domain 1 None) ∷ b (opens_shared 0 1) ∷ []

-- a stream is opened under the number of one that shares a pool
abbrev pub opens_again : Act Octets
opens_again = Open 0 1 Preset no_options [] None

abbrev pub takes_number : Run
takes_number = opens_pooled ++ (b opens_again ∷ [])

-- a stream has nothing to do that was not opened, since its domain has no pool: OpensFirst
abbrev pub idles_unopened : Run
idles_unopened = b (Domain 1 None) ∷ b (asks_shared 0 1 false (Some NotShared)) ∷ b (works seen.Idle) ∷ []

-- a buffer is posted to a stream that shares a pool: Answered
abbrev pub posts_own : Act Octets
posts_own = on (Recv 1 None)

abbrev pub owns_buffers : Run
owns_buffers = opens_pooled ++ (b posts_own ∷ [])

-- that it has ended is named first: Answered
abbrev pub names_end : Act Octets
names_end = on (Recv 1 (Some Ended))

abbrev pub names_end_first : Run
names_end_first = opens_pooled ++ (b breaks ∷ b names_end ∷ [])

-- one pool serves two domains: Isolated
abbrev pub takes_foreign : Run
takes_foreign = shares 1 ++ shares 2 ++ (b (pools 1 1) ∷ b (unpools 2 (Some (0 ∷ []))) ∷ [])

abbrev pub RefusesSharedAgain : Type 0
RefusesSharedAgain = ¬ ShowsMemory shares_twice

abbrev pub RefusesPooledUnshared : Type 0
RefusesPooledUnshared = ¬ ShowsMemory pools_unshared

abbrev pub RefusesPooledOver : Type 0
RefusesPooledOver = ¬ ShowsMemory pools_over

abbrev pub RefusesOpenedUnshared : Type 0
RefusesOpenedUnshared = ¬ ShowsMemory opens_unshared

abbrev pub RefusesNumberTaken : Type 0
RefusesNumberTaken = ¬ ShowsMemory takes_number

abbrev pub RefusesIdleUnopened : Type 0
RefusesIdleUnopened = ¬ OpensFirst idles_unopened

abbrev pub RefusesOwnBuffers : Type 0
RefusesOwnBuffers = ¬ Answered owns_buffers

abbrev pub RefusesEndFirst : Type 0
RefusesEndFirst = ¬ Answered names_end_first

abbrev pub RefusesForeignTaken : Type 0
RefusesForeignTaken = ¬ Isolated takes_foreign

-- ---- frames

-- a Send came, and no buffer is found for it, though the pool has one: Turns
abbrev pub denies : Act Octets
denies = works (seen.Fault faults.UNTAGGED_NO_BUFFER)

abbrev pub denies_pooled : Run
denies_pooled = opens_pooled ++ (b (pools 1 1) ∷ b (raw 0 send_frame) ∷ b denies ∷ [])

-- or the pool's oldest has no room for it, and it is told that there is none: Turns
abbrev pub denies_short : Run
denies_short = opens_pooled ++ (b (pools 1 0) ∷ b (raw 0 send_frame) ∷ b denies ∷ [])

-- or there is nothing to do: IdleOnlyAtRest
abbrev pub rests_pooled : Run
rests_pooled = opens_pooled ++ (b (pools 1 1) ∷ b (raw 0 send_frame) ∷ b (works seen.Idle) ∷ [])

-- or it came early, and is left: JudgesEarly
abbrev pub tries_pooled : Run
tries_pooled = opens_marked ++ (b (pools 1 1) ∷ b (marked 512 send_frame) ∷ b (works (seen.Tried 516)) ∷ [])

-- or it was placed, and at its turn the pool is asked again, which has no other buffer: ChecksOnce
abbrev pub asks_pool_again : Run
asks_pool_again = opens_pooled ++ (b (pools 1 1) ∷ b (raw 0 send_frame) ∷ b buffers_one ∷ b denies ∷ [])

-- or it is placed again, in another buffer of the pool: PlacesOnce
abbrev pub places_again : Run
places_again = opens_pooled ++ (b (pools 1 1) ∷ b (pools 1 1) ∷ b (raw 0 send_frame) ∷ b buffers_one ∷ b buffers_one ∷ [])

-- two streams share the pool
abbrev pub opens_both : Run
opens_both = opens_pooled ++ (b (opens_shared 1 1) ∷ b (pools 1 1) ∷ b (pools 1 1) ∷ [])

-- a Send came on each, and one stream hands out what was placed in the buffer that is bound to the other's: Turns
abbrev pub receives_other : Act Octets
receives_other = works (seen.Received (0x69 ∷ []) false None)

abbrev pub hands_out_other : Run
hands_out_other =
    opens_both
    ++ (b (raw 0 send_frame) ∷ b raw_second ∷ b buffers_one ∷ b buffers_second ∷ b receives_other ∷ [])

-- or a Send was posted on each at the other end, and one stream hands out the other's: InOrder
abbrev pub sends_both : Run
sends_both =
    opens a Preset
    ++ (a (Open 1 1 Preset no_options [] None) ∷ a sends_one
    ∷ a (Stream 1 (Post (Posted (messages.Send (0x69 ∷ []) false None)) None)) ∷ [])

abbrev pub receives_others : Run
receives_others = sends_both ++ opens_both ++ (b receives_other ∷ [])

-- or a Write was posted before it, and it is received though that was not placed: Covered
abbrev pub receives_uncovered : Run
receives_uncovered = opens a Preset ++ opens_pooled ++ (a writes_one ∷ a sends_one ∷ b (works (seen.Received (0x68 ∷ []) false None)) ∷ [])

abbrev pub RefusesDeniedPooled : Type 0
RefusesDeniedPooled = ¬ Turns denies_pooled

abbrev pub RefusesDeniedShort : Type 0
RefusesDeniedShort = ¬ Turns denies_short

abbrev pub RefusesRestPooled : Type 0
RefusesRestPooled = ¬ IdleOnlyAtRest rests_pooled

abbrev pub RefusesTriedPooled : Type 0
RefusesTriedPooled = ¬ JudgesEarly tries_pooled

abbrev pub RefusesPoolAskedAgain : Type 0
RefusesPoolAskedAgain = ¬ ChecksOnce asks_pool_again

abbrev pub RefusesPlacedAgain : Type 0
RefusesPlacedAgain = ¬ PlacesOnce places_again

abbrev pub RefusesOtherHandedOut : Type 0
RefusesOtherHandedOut = ¬ Turns hands_out_other

abbrev pub RefusesOtherReceived : Type 0
RefusesOtherReceived = ¬ InOrder receives_others

abbrev pub RefusesUncovered : Type 0
RefusesUncovered = ¬ Covered receives_uncovered

-- ---- the end: Ends refuses these

-- the pool's buffer is handed back, though it is bound to no message
abbrev pub returns_unbound : Run
returns_unbound = opens_pooled ++ (b (pools 1 1) ∷ b breaks ∷ b (works (seen.FlushedRecv (0 ∷ []))) ∷ [])

-- a buffer that is bound is not handed back
abbrev pub keeps_bound : Run
keeps_bound = opens_pooled ++ (b (pools 1 1) ∷ b (raw 0 send_frame) ∷ b buffers_one ∷ b breaks ∷ b (works seen.Idle) ∷ [])

-- of two that are bound, that of the later message is handed back first, since it was bound first
abbrev pub returns_later_first : Run
returns_later_first =
    opens_marked
    ++ (b (pools 1 0) ∷ b (pools 1 1) ∷ b (marked 512 second_frame) ∷ b (works (seen.Buffered 2 0 0)) ∷ b (marked 0 send_frame) ∷ b buffers_one
    ∷ b breaks ∷ b (works (seen.FlushedRecv [])) ∷ [])

abbrev pub RefusesUnboundReturned : Type 0
RefusesUnboundReturned = ¬ Ends returns_unbound

abbrev pub RefusesBoundKept : Type 0
RefusesBoundKept = ¬ Ends keeps_bound

abbrev pub RefusesLaterFirst : Type 0
RefusesLaterFirst = ¬ Ends returns_later_first
