-- A receive queue: the buffers of the next messages, which were posted to it or come from a pool that other queues
-- share, and how much of the due message had its turn.
use Rattle.std.specs.Prelude.{ℕ, ◌≡◌, ◌+◌, ◌-◌, ◌%◌, ◌^◌, ◌<◌, ◌≤◌, ◌==◌, not, nat_lt, nat_le, Bool, true, false, List, [], ◌∷◌, ◌++◌, length, drop, replicate, count_by, slice_get, slice_set, slice_index_or, if◌then◌else◌, is_some, is_none, unwrap_or, Option, Some, None, IsSomeAnd}
use Rattle.std.specs.List.{position_or_len}
use Rattle.std.specs.Option.{option_map, option_map_or, option_or}
use Rattle.iw_octets.specs.declared.fault.Fault.{Fault}
use Rattle.iw_octets.specs.declared.fault.TheConstants.Fault as faults
use Rattle.iw_octets.specs.Octets.{splice}
use Rattle.iw_untagged.specs.declared.received.Received.{Received}
use Rattle.iw_untagged.specs.declared.queue.BufferRefusal.{BufferRefusal}
use Rattle.iw_untagged.specs.declared.queue.BufferRefusal.TheVariants.{Full}

-- where the buffers of a queue come from
pub data Source : Type 0 where
  -- posted to it: one for each next message, oldest first
  Posted : List (List ℕ) → Source
  -- from a pool: the buffer, if any, bound to each next message, from the due one on; and the pool while it is lent,
  -- oldest first
  Pooled : List (Option (List ℕ)) → List (List ℕ) → Source

pub record Receiving : Type 0 where
  pub source : Source
  pub due : ℕ  -- the message sequence number of the message that is due, whether or not it has a buffer
  pub turned : ℕ  -- octets of that message that had their turn

-- no buffer is posted, and the first message has this number
abbrev pub receiving_from : ℕ → Receiving
receiving_from msn = record { source = Posted []; due = msn; turned = 0 }

-- the first message of a queue has the number 1 (RFC 5041 4.3)
abbrev pub nothing_received : Receiving
nothing_received = receiving_from 1

-- a queue that shares a pool: no buffer is bound to any of the next 256 messages, and the first message has the number
-- 1
abbrev pub sharing : Receiving
sharing = record { source = Pooled (replicate 256 None) []; due = 1; turned = 0 }

abbrev pub shares_pool : Source → Bool
shares_pool (Posted buffers) = false
shares_pool (Pooled places pool) = true

abbrev pub is_shared : Receiving → Bool
is_shared r = shares_pool r.source

-- ---- a pool is lent
-- to a queue that shares a pool; any other queue ignores it
abbrev pub seeing : Source → List (List ℕ) → Source
seeing (Posted buffers) pool = Posted buffers
seeing (Pooled places held) pool = Pooled places pool

abbrev pub lent : Receiving → List (List ℕ) → Receiving
lent r pool = record r { source = seeing r.source pool }

-- what is left of the pool
abbrev pub pool_in : Source → List (List ℕ)
pool_in (Posted buffers) = []
pool_in (Pooled places pool) = pool

-- what is given back in exchange: the pool that was lent before
abbrev pub exchanged : Source → List (List ℕ) → List (List ℕ)
exchanged (Posted buffers) pool = pool
exchanged (Pooled places held) pool = held

-- ---- the buffer of a message

-- how far a message sequence number is after the due one, modulo 2^32
abbrev pub ahead_of : ℕ → ℕ → ℕ
ahead_of due msn = (msn + (2 ^ 32 - due)) % 2 ^ 32

-- the buffer of the message this far after the due one, if it has one
abbrev pub buffer_in : Source → ℕ → Option (List ℕ)
buffer_in (Posted buffers) ahead = slice_get buffers ahead
buffer_in (Pooled places pool) ahead = slice_index_or places ahead None

-- the buffer for a segment of that message: its own, or the pool's oldest if it has none
abbrev pub buffer_for : Source → ℕ → Option (List ℕ)
buffer_for (Posted buffers) ahead = slice_get buffers ahead
buffer_for (Pooled places pool) ahead = option_map_or (λ place. option_or place (slice_get pool 0)) (slice_get places ahead) None

-- how many buffers there are
abbrev pub count_in : Source → ℕ
count_in (Posted buffers) = length buffers
count_in (Pooled places pool) = count_by is_some places

-- ---- a buffer is posted

-- a queue that shares a pool takes no posted buffer
abbrev pub is_full : Source → Bool
is_full (Posted buffers) = nat_le 256 (length buffers)
is_full (Pooled places pool) = true

abbrev pub full_refusal : Receiving → Option BufferRefusal
full_refusal r = if is_full r.source then Some Full else None

-- the buffer comes after the others
abbrev pub with_last : Source → List ℕ → Source
with_last (Posted buffers) buffer = Posted (buffers ++ buffer ∷ [])
with_last (Pooled places pool) buffer = Pooled places pool

abbrev pub with_buffer : Receiving → List ℕ → Receiving
with_buffer r buffer = record r { source = with_last r.source buffer }

-- ---- a pool, its oldest buffer first

abbrev pub pool_refusal : List (List ℕ) → Option BufferRefusal
pool_refusal pool = if nat_le 1024 (length pool) then Some Full else None

-- ---- a segment is placed

-- the first that applies: the number is out of range, the message has no buffer, the segment ends past the buffer's end
-- (RFC 5041 7.1, with the numbers of 7.2)
abbrev pub first_fault : Bool → Bool → Bool → Option Fault
first_fault far none long =
    if far then Some faults.UNTAGGED_MSN_RANGE
    else if none then Some faults.UNTAGGED_NO_BUFFER
    else if long then Some faults.UNTAGGED_TOO_LONG
    else None

-- for octets up to `end` of the message this far after the due one, given the length of its buffer, if there is one
abbrev pub room_fault : ℕ → Option ℕ → ℕ → Option Fault
room_fault ahead len end = first_fault (nat_le 256 ahead) (is_none len) (nat_lt (unwrap_or len 0) end)

-- the first check that a segment of n octets at offset mo of this message fails
abbrev pub buffer_fault : Receiving → ℕ → ℕ → ℕ → Option Fault
buffer_fault r msn mo n = room_fault (ahead_of r.due msn) (option_map length (buffer_for r.source (ahead_of r.due msn))) (mo + n)

-- the pool's oldest buffer is bound to this message, unless one is bound to it
abbrev pub bound_to : Source → ℕ → Source
bound_to (Posted buffers) ahead = Posted buffers
bound_to (Pooled places pool) ahead =
    Pooled (slice_set places ahead (buffer_for (Pooled places pool) ahead)) (if is_none (slice_index_or places ahead None) then drop 1 pool else pool)

-- the buffer of this message has these octets at mo, and nothing else changes
abbrev pub written_in : Source → ℕ → ℕ → List ℕ → Source
written_in (Posted buffers) ahead mo octets = Posted (slice_set buffers ahead (splice (slice_index_or buffers ahead []) mo octets))
written_in (Pooled places pool) ahead mo octets =
    Pooled (slice_set places ahead (option_map (λ buffer. splice buffer mo octets) (slice_index_or places ahead None))) pool

-- a segment is placed: if its message has no buffer, one is bound to it first
abbrev pub written : Receiving → ℕ → ℕ → List ℕ → Receiving
written r msn mo octets = record r { source = written_in (bound_to r.source (ahead_of r.due msn)) (ahead_of r.due msn) mo octets }

-- ---- a segment that was placed has its turn

-- unless it is the next segment of the due message
abbrev pub turn_fault : Receiving → ℕ → ℕ → Option Fault
turn_fault r msn mo =
    if not (ahead_of r.due msn == 0) then Some faults.UNTAGGED_MSN_RANGE
    else if not (mo == r.turned) then Some faults.UNTAGGED_INVALID_OFFSET
    else None

-- this message has a buffer of at least `end` octets
abbrev pub HasRoomAt : Receiving → ℕ → ℕ → Type 0
HasRoomAt r ahead end = IsSomeAnd (buffer_in r.source ahead) (λ buffer. end ≤ length buffer)

-- the same of the due message
abbrev pub HasRoom : Receiving → ℕ → Type 0
HasRoom r end = HasRoomAt r 0 end

-- n more octets had their turn
abbrev pub turned : Receiving → ℕ → Receiving
turned r n = record r { turned = r.turned + n }

-- ---- a message is complete, or a buffer is given up

-- the due message's buffer; no octets if it has none
abbrev pub due_buffer : Source → List ℕ
due_buffer source = unwrap_or (buffer_in source 0) []

abbrev pub oldest : Receiving → List ℕ
oldest r = due_buffer r.source

abbrev pub received : Receiving → Received (List ℕ)
received r = record { msn = r.due; buffer = due_buffer r.source; len = r.turned }

-- the next message becomes the due one
abbrev pub shifted : Source → Source
shifted (Posted buffers) = Posted (drop 1 buffers)
shifted (Pooled places pool) = Pooled (drop 1 places ++ None ∷ []) pool

-- the next message is due
abbrev pub finished : Receiving → Receiving
finished r = record { source = shifted r.source; due = (r.due + 1) % 2 ^ 32; turned = 0 }

-- the buffer of the first message that has one, and what is left without it
abbrev pub first_buffer : Source → Option (List ℕ)
first_buffer (Posted buffers) = slice_get buffers 0
first_buffer (Pooled places pool) = slice_index_or places (position_or_len is_some places) None

abbrev pub without_first : Source → Source
without_first (Posted buffers) = Posted (drop 1 buffers)
without_first (Pooled places pool) = Pooled (slice_set places (position_or_len is_some places) None) pool

abbrev pub flushed : Receiving → Receiving
flushed r = record r { source = without_first r.source; turned = 0 }

-- ---- limits

-- at most 256 buffers are posted; or there is a place for each of the next 256 messages
abbrev pub HoldsPlaces : Source → Type 0
HoldsPlaces (Posted buffers) = length buffers ≤ 256
HoldsPlaces (Pooled places pool) = length places ≡ 256

-- numbers have 32 bits, and no more octets had their turn than the due message's buffer has
pub record HoldsLimits (r : Receiving) : Type 0 where
  pub places : HoldsPlaces r.source
  pub due : r.due < 2 ^ 32
  pub turned : r.turned ≤ length (due_buffer r.source)
