-- Why calls are refused, and the numbers that C gets.
use Rattle.std.specs.Prelude.{◌≡◌, ℕ, Option, None, Some}
use Rattle.iw_buffer.specs.declared.refusal.BufferRefusal.{BufferRefusal}
use Rattle.iw_buffer.specs.declared.refusal.BufferRefusal.TheVariants as buffer
use Rattle.iw_memory.specs.declared.refusal.DeregisterRefusal.{DeregisterRefusal}
use Rattle.iw_memory.specs.declared.refusal.DeregisterRefusal.TheVariants as deregister
use Rattle.iw_memory.specs.declared.refusal.DomainRefusal.{DomainRefusal}
use Rattle.iw_memory.specs.declared.refusal.DomainRefusal.TheVariants as domain
use Rattle.iw_memory.specs.declared.refusal.RegisterRefusal.{RegisterRefusal}
use Rattle.iw_memory.specs.declared.refusal.RegisterRefusal.TheVariants as register
use Rattle.iw_memory.specs.declared.refusal.StoreRefusal.{StoreRefusal}
use Rattle.iw_memory.specs.declared.refusal.StoreRefusal.TheVariants as store
use Rattle.iw_stream.specs.declared.answer.AnswerRefusal.{AnswerRefusal}
use Rattle.iw_stream.specs.declared.answer.AnswerRefusal.TheVariants as answer
use Rattle.iw_stream.specs.declared.answer.OpenRefusal.{OpenRefusal}
use Rattle.iw_stream.specs.declared.answer.OpenRefusal.TheVariants as opening
use Rattle.iw_stream.specs.declared.answer.PostRefusal.{PostRefusal}
use Rattle.iw_stream.specs.declared.answer.PostRefusal.TheVariants as post
use Rattle.iw_stream.specs.declared.answer.RecvRefusal.{RecvRefusal}
use Rattle.iw_stream.specs.declared.answer.RecvRefusal.TheVariants as recv
use Rattle.iw_stream.specs.declared.answer.FirstRefusal.{FirstRefusal}
use Rattle.iw_stream.specs.declared.answer.FirstRefusal.TheVariants as first
use Rattle.iw_stream.specs.declared.answer.SizeRefusal.{SizeRefusal}
use Rattle.iw_stream.specs.declared.answer.SizeRefusal.TheVariants as size
use Rattle.iw_endpoint.specs.declared.refusal.CallRefusal.{CallRefusal}
use Rattle.iw_endpoint.specs.declared.refusal.CallRefusal.TheVariants as call
use Rattle.iw_endpoint.specs.declared.refusal.ShareRefusal.{ShareRefusal}
use Rattle.iw_endpoint.specs.declared.refusal.ShareRefusal.TheVariants as share
use Rattle.iw_endpoint.specs.declared.refusal.PoolRefusal.{PoolRefusal}
use Rattle.iw_endpoint.specs.declared.refusal.PoolRefusal.TheVariants as pool
use Rattle.iw_endpoint.specs.declared.refusal.TakeRefusal.{TakeRefusal}
use Rattle.iw_endpoint.specs.declared.refusal.TakeRefusal.TheVariants as taking
use Rattle.iw_endpoint.specs.declared.refusal.OpenSharedRefusal.{OpenSharedRefusal}
use Rattle.iw_endpoint.specs.declared.refusal.OpenSharedRefusal.TheVariants as shared_opening
use Rattle.iw_endpoint.specs.declared.refusal.OpenNextRefusal.{OpenNextRefusal}
use Rattle.iw_endpoint.specs.declared.refusal.OpenNextRefusal.TheVariants as next_opening
use Rattle.iw_endpoint.specs.declared.refusal.NotAtRest.{NotAtRest}
use Rattle.iw_endpoint.specs.declared.refusal.LimitRefusal.{LimitRefusal}
use Rattle.iw_endpoint.specs.declared.refusal.LimitRefusal.TheVariants as limit
use Rattle.iw_codes.specs.declared.numbers.TheConstants as numbers
use Rattle.iw_handle.specs.declared.refusal.Refusal.{Refusal}
use Rattle.iw_handle.specs.declared.refusal.Refusal.TheVariants as refusals
use Rattle.iw_handle.specs.declared.refusal.Refusal.TheVariants.{Closed, AlreadyOpen, NoMemory, NoRoom, NoSuchStream}
use Rattle.iw_handle.specs.declared.refusal.Refusal.TheVariants.{NoRegion, Outside, BadDomain, DomainTaken, NoDomain}
use Rattle.iw_handle.specs.declared.refusal.Refusal.TheVariants.{DomainFull, RegionTooLong, BaseWrap, NumberTaken}
use Rattle.iw_handle.specs.declared.refusal.Refusal.TheVariants.{BadNumber, BadRole, PrivateTooLong, NotAsked, NotOpen}
use Rattle.iw_handle.specs.declared.refusal.Refusal.TheVariants.{MessagesFull, MessageTooLong, BuffersFull, Ended}
use Rattle.iw_handle.specs.declared.refusal.Refusal.TheVariants.{BadSize, TooFar, Late}
use Rattle.iw_handle.specs.declared.refusal.Refusal.TheVariants.{AlreadyShared, NotShared, PoolFull, Shared}
use Rattle.iw_handle.specs.declared.refusal.Refusal.TheVariants.{BufferMissing, BufferExists, BufferTooLong, BadBits, NoReads}

-- ---- the endpoint's refusals

abbrev pub domain_reason : DomainRefusal → Refusal
domain_reason domain.BadDomain = BadDomain
domain_reason domain.DomainTaken = DomainTaken
domain_reason domain.NoMemory = NoMemory

abbrev pub register_reason : RegisterRefusal → Refusal
register_reason register.NoDomain = NoDomain
register_reason register.DomainFull = DomainFull
register_reason register.TooLong = RegionTooLong
register_reason register.BaseWrap = BaseWrap
register_reason register.NoMemory = NoMemory

abbrev pub deregister_reason : DeregisterRefusal → Refusal
deregister_reason deregister.NoRegion = NoRegion
deregister_reason deregister.OtherMemory = refusals.OtherMemory

abbrev pub limit_reason : CallRefusal LimitRefusal → Refusal
limit_reason call.NoSuchStream = NoSuchStream
limit_reason (call.Refused limit.Ended) = Ended
limit_reason (call.Refused (limit.Refused refusal)) = register_reason refusal

abbrev pub store_reason : StoreRefusal → Refusal
store_reason store.NoRegion = NoRegion
store_reason store.Outside = Outside

abbrev pub open_reason : OpenRefusal → Refusal
open_reason opening.NumberTaken = NumberTaken
open_reason opening.BadNumber = BadNumber
open_reason opening.NoDomain = NoDomain
open_reason opening.PrivateTooLong = PrivateTooLong
open_reason opening.NoMemory = NoMemory

abbrev pub answer_reason : CallRefusal AnswerRefusal → Refusal
answer_reason call.NoSuchStream = NoSuchStream
answer_reason (call.Refused answer.NotAsked) = NotAsked
answer_reason (call.Refused answer.PrivateTooLong) = PrivateTooLong

abbrev pub post_reason : CallRefusal PostRefusal → Refusal
post_reason call.NoSuchStream = NoSuchStream
post_reason (call.Refused post.Full) = MessagesFull
post_reason (call.Refused post.TooLong) = MessageTooLong
post_reason (call.Refused post.NotOpen) = NotOpen
post_reason (call.Refused post.NoReads) = NoReads
post_reason (call.Refused post.NoMemory) = NoMemory

abbrev pub recv_reason : CallRefusal RecvRefusal → Refusal
recv_reason call.NoSuchStream = NoSuchStream
recv_reason (call.Refused recv.Full) = BuffersFull
recv_reason (call.Refused recv.Ended) = Ended
recv_reason (call.Refused recv.NoMemory) = NoMemory
recv_reason (call.Refused recv.Shared) = Shared

abbrev pub first_reason : CallRefusal FirstRefusal → Refusal
first_reason call.NoSuchStream = NoSuchStream
first_reason (call.Refused first.Late) = Late

abbrev pub size_reason : CallRefusal SizeRefusal → Refusal
size_reason call.NoSuchStream = NoSuchStream
size_reason (call.Refused size.BadSize) = BadSize

abbrev pub close_reason : CallRefusal NotAtRest → Refusal
close_reason call.NoSuchStream = NoSuchStream
close_reason (call.Refused rest) = refusals.NotAtRest

abbrev pub share_reason : ShareRefusal → Refusal
share_reason share.NoDomain = NoDomain
share_reason share.AlreadyShared = AlreadyShared
share_reason share.NoMemory = NoMemory

abbrev pub pool_reason : PoolRefusal → Refusal
pool_reason pool.NoDomain = NoDomain
pool_reason pool.NotShared = NotShared
pool_reason pool.Full = PoolFull
pool_reason pool.NoMemory = NoMemory

abbrev pub take_reason : TakeRefusal → Refusal
take_reason taking.NoDomain = NoDomain
take_reason taking.NotShared = NotShared

abbrev pub open_shared_reason : OpenSharedRefusal → Refusal
open_shared_reason shared_opening.NumberTaken = NumberTaken
open_shared_reason shared_opening.BadNumber = BadNumber
open_shared_reason shared_opening.NoDomain = NoDomain
open_shared_reason shared_opening.NotShared = NotShared
open_shared_reason shared_opening.PrivateTooLong = PrivateTooLong
open_shared_reason shared_opening.NoMemory = NoMemory

abbrev pub next_reason : OpenNextRefusal → Refusal
next_reason next_opening.NoDomain = NoDomain
next_reason next_opening.NotShared = NotShared
next_reason next_opening.NumbersSpent = refusals.NumbersSpent
next_reason next_opening.PrivateTooLong = PrivateTooLong
next_reason next_opening.NoMemory = NoMemory

-- ---- of a buffer

abbrev pub buffer_reason : BufferRefusal → Refusal
buffer_reason buffer.BufferMissing = BufferMissing
buffer_reason buffer.BufferExists = BufferExists
buffer_reason buffer.NoMemory = NoMemory

-- ---- codes

abbrev pub refusal_code : Refusal → ℕ
refusal_code Closed = numbers.IS_CLOSED
refusal_code AlreadyOpen = numbers.ALREADY_OPEN
refusal_code NoMemory = numbers.NO_MEMORY
refusal_code NoRoom = numbers.NO_ROOM
refusal_code NoSuchStream = numbers.NO_SUCH_STREAM
refusal_code NoRegion = numbers.NO_REGION
refusal_code Outside = numbers.OUTSIDE
refusal_code BadDomain = numbers.BAD_DOMAIN
refusal_code DomainTaken = numbers.DOMAIN_TAKEN
refusal_code NoDomain = numbers.NO_DOMAIN
refusal_code DomainFull = numbers.DOMAIN_FULL
refusal_code RegionTooLong = numbers.REGION_TOO_LONG
refusal_code BaseWrap = numbers.BASE_WRAP
refusal_code NumberTaken = numbers.NUMBER_TAKEN
refusal_code BadNumber = numbers.BAD_NUMBER
refusal_code BadRole = numbers.BAD_ROLE
refusal_code PrivateTooLong = numbers.PRIVATE_TOO_LONG
refusal_code NotAsked = numbers.NOT_ASKED
refusal_code NotOpen = numbers.NOT_OPEN
refusal_code MessagesFull = numbers.MESSAGES_FULL
refusal_code MessageTooLong = numbers.MESSAGE_TOO_LONG
refusal_code BuffersFull = numbers.BUFFERS_FULL
refusal_code Ended = numbers.ENDED
refusal_code BadSize = numbers.BAD_SIZE
refusal_code TooFar = numbers.TOO_FAR
refusal_code Late = numbers.LATE
refusal_code AlreadyShared = numbers.ALREADY_SHARED
refusal_code NotShared = numbers.NOT_SHARED
refusal_code PoolFull = numbers.POOL_FULL
refusal_code Shared = numbers.SHARED
refusal_code BufferMissing = numbers.BUFFER_MISSING
refusal_code BufferExists = numbers.BUFFER_EXISTS
refusal_code BufferTooLong = numbers.BUFFER_TOO_LONG
refusal_code BadBits = numbers.BAD_BITS
refusal_code NoReads = numbers.NO_READS
refusal_code refusals.NumbersSpent = numbers.NUMBERS_SPENT
refusal_code refusals.NotAtRest = numbers.NOT_AT_REST
refusal_code refusals.WindowFull = numbers.WINDOW_FULL
refusal_code refusals.NotLent = numbers.NOT_LENT
refusal_code refusals.BadStruct = numbers.BAD_STRUCT
refusal_code refusals.OtherMemory = numbers.OTHER_MEMORY

-- 0 if the call was not refused
abbrev pub code_of : Option Refusal → ℕ
code_of None = numbers.OK
code_of (Some r) = refusal_code r

-- no two refusals have the same code
abbrev pub CodesAreDistinct : Type 0
CodesAreDistinct = (a b : Refusal) → refusal_code a ≡ refusal_code b → a ≡ b
