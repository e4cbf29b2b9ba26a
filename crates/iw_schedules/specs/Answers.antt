-- The words in which calls are answered.
use Rattle.std.specs.Prelude.{ℕ, Bool, true, false, List, [], ◌∷◌, ◌++◌, Option, Some, None, Result, Ok, Err, codes}
use Rattle.std.specs.Fmt.{decimal}
use Rattle.hex.specs.Hex.{encode_lower}
use Rattle.iw_octets.specs.declared.stag.Stag.{Stag}
use Rattle.iw_octets.specs.Stag.{spelled}
use Rattle.iw_octets.specs.declared.fault.Fault.{Fault}
use Rattle.iw_memory.specs.declared.refusal.DomainRefusal.{DomainRefusal}
use Rattle.iw_memory.specs.declared.refusal.DomainRefusal.TheVariants as domains
use Rattle.iw_memory.specs.declared.refusal.RegisterRefusal.{RegisterRefusal}
use Rattle.iw_memory.specs.declared.refusal.RegisterRefusal.TheVariants as registers
use Rattle.iw_memory.specs.declared.refusal.StoreRefusal.{StoreRefusal}
use Rattle.iw_memory.specs.declared.refusal.StoreRefusal.TheVariants as stores
use Rattle.iw_memory.specs.declared.rights.Right.{Right}
use Rattle.iw_memory.specs.declared.rights.Right.TheVariants as rights
use Rattle.iw_ranges.specs.declared.Delivery.{Delivery}
use Rattle.iw_ranges.specs.declared.Delivery.TheVariants as deliveries
use Rattle.iw_queues.specs.declared.request.Kind.{Kind}
use Rattle.iw_queues.specs.declared.request.Kind.TheVariants as kinds
use Rattle.iw_startup.specs.declared.config.Agreed.{Agreed}
use Rattle.iw_startup.specs.declared.enhanced.EnhancedData.{EnhancedData}
use Rattle.iw_startup.specs.declared.progress.StartupFault.{StartupFault}
use Rattle.iw_startup.specs.declared.progress.StartupFault.TheVariants as startups
use Rattle.iw_stream.specs.declared.answer.AnswerRefusal.{AnswerRefusal}
use Rattle.iw_stream.specs.declared.answer.AnswerRefusal.TheVariants as answers
use Rattle.iw_stream.specs.declared.answer.PostRefusal.{PostRefusal}
use Rattle.iw_stream.specs.declared.answer.PostRefusal.TheVariants as posts
use Rattle.iw_stream.specs.declared.answer.RecvRefusal.{RecvRefusal}
use Rattle.iw_stream.specs.declared.answer.RecvRefusal.TheVariants as recvs
use Rattle.iw_stream.specs.declared.answer.FirstRefusal.{FirstRefusal}
use Rattle.iw_stream.specs.declared.answer.FirstRefusal.TheVariants as firsts
use Rattle.iw_stream.specs.declared.answer.SizeRefusal.{SizeRefusal}
use Rattle.iw_stream.specs.declared.answer.SizeRefusal.TheVariants as sizes
use Rattle.iw_stream.specs.declared.answer.OpenRefusal.{OpenRefusal}
use Rattle.iw_stream.specs.declared.answer.OpenRefusal.TheVariants as opens
use Rattle.iw_endpoint.specs.declared.refusal.ShareRefusal.{ShareRefusal}
use Rattle.iw_endpoint.specs.declared.refusal.ShareRefusal.TheVariants as shares
use Rattle.iw_endpoint.specs.declared.refusal.PoolRefusal.{PoolRefusal}
use Rattle.iw_endpoint.specs.declared.refusal.PoolRefusal.TheVariants as pools
use Rattle.iw_endpoint.specs.declared.refusal.TakeRefusal.{TakeRefusal}
use Rattle.iw_endpoint.specs.declared.refusal.TakeRefusal.TheVariants as takes
use Rattle.iw_endpoint.specs.declared.refusal.OpenSharedRefusal.{OpenSharedRefusal}
use Rattle.iw_endpoint.specs.declared.refusal.OpenSharedRefusal.TheVariants as shared_opens
use Rattle.iw_events.specs.declared.act.Shown.{Shown}
use Rattle.iw_events.specs.declared.act.Shown.TheVariants as shown
use Rattle.iw_events.specs.declared.act.Seen.{Seen}
use Rattle.iw_events.specs.declared.act.Seen.TheVariants as seen
use Rattle.iw_schedules.specs.Letters.{letter_if}
use Rattle.iw_schedules.specs.SendKind.{send_text, kind_of}

abbrev pub Words : Type 0
Words = List (List ℕ)

-- ---- octets and STags, in lower case

abbrev pub octets_text : List ℕ → List ℕ
octets_text [] = codes "-"
octets_text (octet ∷ octets) = encode_lower (octet ∷ octets)

abbrev pub stag_text : Stag → List ℕ
stag_text stag = encode_lower (spelled stag)

abbrev pub optional_stag_text : Option Stag → List ℕ
optional_stag_text None = codes "-"
optional_stag_text (Some stag) = stag_text stag

-- ---- refusals: each call's own are numbered

abbrev pub Numbered : Type 0
Numbered = ℕ × List ℕ

abbrev pub domain_refusal : DomainRefusal → Numbered
domain_refusal domains.BadDomain = (1, codes "BadDomain")
domain_refusal domains.DomainTaken = (2, codes "DomainTaken")
domain_refusal domains.NoMemory = (3, codes "NoMemory")

abbrev pub register_refusal : RegisterRefusal → Numbered
register_refusal registers.NoDomain = (1, codes "NoDomain")
register_refusal registers.DomainFull = (2, codes "DomainFull")
register_refusal registers.TooLong = (3, codes "TooLong")
register_refusal registers.BaseWrap = (4, codes "BaseWrap")
register_refusal registers.NoMemory = (5, codes "NoMemory")

abbrev pub store_refusal : StoreRefusal → Numbered
store_refusal stores.NoRegion = (1, codes "NoRegion")
store_refusal stores.Outside = (2, codes "Outside")

abbrev pub no_region : Numbered
no_region = (1, codes "NoRegion")

abbrev pub open_refusal : OpenRefusal → Numbered
open_refusal opens.NumberTaken = (1, codes "NumberTaken")
open_refusal opens.BadNumber = (2, codes "BadNumber")
open_refusal opens.NoDomain = (3, codes "NoDomain")
open_refusal opens.NoMemory = (4, codes "NoMemory")
open_refusal opens.PrivateTooLong = (6, codes "PrivateTooLong")

abbrev pub share_refusal : ShareRefusal → Numbered
share_refusal shares.NoDomain = (1, codes "NoDomain")
share_refusal shares.AlreadyShared = (2, codes "AlreadyShared")
share_refusal shares.NoMemory = (3, codes "NoMemory")

abbrev pub pool_refusal : PoolRefusal → Numbered
pool_refusal pools.NoDomain = (1, codes "NoDomain")
pool_refusal pools.NotShared = (2, codes "NotShared")
pool_refusal pools.Full = (3, codes "Full")
pool_refusal pools.NoMemory = (4, codes "NoMemory")

abbrev pub take_refusal : TakeRefusal → Numbered
take_refusal takes.NoDomain = (1, codes "NoDomain")
take_refusal takes.NotShared = (2, codes "NotShared")

abbrev pub open_shared_refusal : OpenSharedRefusal → Numbered
open_shared_refusal shared_opens.NumberTaken = (1, codes "NumberTaken")
open_shared_refusal shared_opens.BadNumber = (2, codes "BadNumber")
open_shared_refusal shared_opens.NoDomain = (3, codes "NoDomain")
open_shared_refusal shared_opens.NotShared = (4, codes "NotShared")
open_shared_refusal shared_opens.NoMemory = (5, codes "NoMemory")
open_shared_refusal shared_opens.PrivateTooLong = (6, codes "PrivateTooLong")

abbrev pub recv_refusal : RecvRefusal → Numbered
recv_refusal recvs.Full = (1, codes "Full")
recv_refusal recvs.NoMemory = (2, codes "NoMemory")
recv_refusal recvs.Ended = (3, codes "Ended")
recv_refusal recvs.Shared = (4, codes "Shared")

abbrev pub post_refusal : PostRefusal → Numbered
post_refusal posts.Full = (1, codes "Full")
post_refusal posts.TooLong = (2, codes "TooLong")
post_refusal posts.NotOpen = (3, codes "NotOpen")
post_refusal posts.NoMemory = (4, codes "NoMemory")
post_refusal posts.NoReads = (5, codes "NoReads")

abbrev pub size_refusal : SizeRefusal → Numbered
size_refusal sizes.BadSize = (1, codes "BadSize")

abbrev pub first_refusal : FirstRefusal → Numbered
first_refusal firsts.Late = (1, codes "Late")

-- of `accept`, and of `reject`
abbrev pub answer_refusal : AnswerRefusal → Numbered
answer_refusal answers.NotAsked = (1, codes "NotAsked")
answer_refusal answers.PrivateTooLong = (2, codes "PrivateTooLong")

-- why a stream was closed before it was open
abbrev pub startup_fault : StartupFault → Numbered
startup_fault startups.BadKey = (1, codes "BadKey")
startup_fault startups.BadRev = (2, codes "BadRev")
startup_fault startups.BadLength = (3, codes "BadLength")
startup_fault startups.Rejected = (4, codes "Rejected")

-- a word, and a reason after it
abbrev pub numbered : List ℕ → Numbered → Words
numbered word reason = word ∷ decimal reason.0 ∷ reason.1 ∷ []

abbrev pub refused : Numbered → Words
refused refusal = numbered (codes "refused") refusal

abbrev pub ok_or_refused : Option Numbered → Words
ok_or_refused None = codes "ok" ∷ []
ok_or_refused (Some refusal) = refused refusal

-- ---- what calls on a stream answer

abbrev pub kind_text : Kind → List ℕ
kind_text kinds.Write = codes "write"
kind_text kinds.Send = codes "send"
kind_text kinds.Read = codes "read"

-- how a region was used
abbrev pub right_text : Right → List ℕ
right_text rights.Write = codes "write"
right_text rights.Read = codes "read"
right_text rights.Sink = codes "sink"

abbrev pub delivery_text : Delivery → List ℕ
delivery_text deliveries.Kept = codes "kept"
delivery_text deliveries.Dropped = codes "dropped"

-- what was agreed, as letters: this end sends markers, it expects them, CRCs are used
abbrev pub agreed_letters : Agreed → List ℕ
agreed_letters agreed = letter_if agreed.send_markers 115 ++ letter_if agreed.expect_markers 101 ++ letter_if agreed.crc 99

abbrev pub letters_text : List ℕ → List ℕ
letters_text [] = codes "-"
letters_text (letter ∷ letters) = letter ∷ letters

abbrev pub agreed_text : Agreed → List ℕ
agreed_text agreed = letters_text (agreed_letters agreed)

-- what the peer's start-up frame tells of IRD and ORD, if it has the word
abbrev pub ird_text : Option EnhancedData → List ℕ
ird_text None = codes "-"
ird_text (Some told) = decimal told.ird

abbrev pub ord_text : Option EnhancedData → List ℕ
ord_text None = codes "-"
ord_text (Some told) = decimal told.ord

-- on a stream that is opened for revision 2 of MPA (`true`) the agreed ORD is told
abbrev pub accepted_words : Bool → Result Agreed AnswerRefusal → Words
accepted_words false (Ok agreed) = codes "ok" ∷ agreed_text agreed ∷ []
accepted_words true (Ok agreed) = codes "ok" ∷ agreed_text agreed ∷ decimal agreed.ord ∷ []
accepted_words enhanced (Err refusal) = refused (answer_refusal refusal)

-- a word, then the layer, type and code of a fault
abbrev pub with_fault : List ℕ → Fault → Words
with_fault word fault = word ∷ decimal fault.layer ∷ decimal fault.kind ∷ decimal fault.code ∷ []

abbrev pub fault_words : Fault → Words
fault_words fault = with_fault (codes "fault") fault

abbrev pub terminated_words : Fault → Words
terminated_words fault = with_fault (codes "terminated") fault

-- a frame of a Read Response, and the octets of the region that it carries
abbrev pub fetched_words : ℕ → List ℕ → Stag → ℕ → List ℕ → Words
fetched_words from frame stag to octets =
    codes "fetched" ∷ decimal from ∷ octets_text frame ∷ stag_text stag ∷ decimal to ∷ octets_text octets ∷ []

abbrev pub shown_words : Shown (List ℕ) → Words
shown_words (shown.Frame from octets) = codes "frame" ∷ decimal from ∷ octets_text octets ∷ []
shown_words (shown.Fetched from frame stag to octets) = fetched_words from frame stag to octets
shown_words (shown.Fault fault) = fault_words fault
shown_words shown.Nothing = codes "nothing" ∷ []

abbrev pub done_words : Kind → Words
done_words kind = codes "done" ∷ kind_text kind ∷ []

abbrev pub flushed_words : Kind → Words
flushed_words kind = codes "flushed" ∷ kind_text kind ∷ []

-- a receive buffer that is handed back
abbrev pub flushed_recv_words : List ℕ → Words
flushed_recv_words octets = codes "flushed" ∷ codes "recv" ∷ octets_text octets ∷ []

abbrev pub placed_words : Right → Stag → ℕ → List ℕ → Words
placed_words right stag to octets = codes "placed" ∷ right_text right ∷ stag_text stag ∷ decimal to ∷ octets_text octets ∷ []

abbrev pub buffered_words : ℕ → ℕ → ℕ → Words
buffered_words msn mo len = codes "buffered" ∷ decimal msn ∷ decimal mo ∷ decimal len ∷ []

abbrev pub requested_words : ℕ → Stag → ℕ → Words
requested_words size stag to = codes "requested" ∷ decimal size ∷ stag_text stag ∷ decimal to ∷ []

abbrev pub received_words : List ℕ → Bool → Option Stag → Words
received_words octets solicited invalidate = codes "received" ∷ octets_text octets ∷ send_text (kind_of solicited invalidate) ∷ optional_stag_text invalidate ∷ []

-- a frame that was judged before its turn and left until its turn: the stream place of its first octet
abbrev pub tried_words : ℕ → Words
tried_words place = codes "tried" ∷ decimal place ∷ []

-- and the peer's IRD and ORD
abbrev pub asked_words : Bool → Option EnhancedData → List ℕ → Words
asked_words false told private = codes "asked" ∷ octets_text private ∷ []
asked_words true told private = codes "asked" ∷ ird_text told ∷ ord_text told ∷ octets_text private ∷ []

abbrev pub opened_words : Bool → Agreed → Option EnhancedData → List ℕ → Words
opened_words false agreed told private = codes "opened" ∷ agreed_text agreed ∷ octets_text private ∷ []
opened_words true agreed told private = codes "opened" ∷ agreed_text agreed ∷ decimal agreed.ord ∷ ird_text told ∷ ord_text told ∷ octets_text private ∷ []

abbrev pub seen_words : Bool → Seen (List ℕ) → Words
seen_words enhanced (seen.Done kind) = done_words kind
seen_words enhanced (seen.Flushed kind) = flushed_words kind
seen_words enhanced (seen.FlushedRecv octets) = flushed_recv_words octets
seen_words enhanced (seen.Asked told private) = asked_words enhanced told private
seen_words enhanced (seen.Opened agreed told private) = opened_words enhanced agreed told private
seen_words enhanced (seen.Closed fault) = numbered (codes "closed") (startup_fault fault)
seen_words enhanced (seen.Placed right stag to octets) = placed_words right stag to octets
seen_words enhanced (seen.Buffered msn mo len) = buffered_words msn mo len
seen_words enhanced (seen.Requested size stag to) = requested_words size stag to
seen_words enhanced (seen.Tried place) = tried_words place
seen_words enhanced seen.Passed = codes "passed" ∷ []
seen_words enhanced (seen.Received octets solicited invalidate) = received_words octets solicited invalidate
seen_words enhanced (seen.Terminated fault) = terminated_words fault
seen_words enhanced (seen.Fault fault) = fault_words fault
seen_words enhanced seen.Idle = codes "idle" ∷ []
