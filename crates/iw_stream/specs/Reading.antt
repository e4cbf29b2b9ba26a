-- Octets that are read from the connection in place.
use Rattle.std.specs.Prelude.{ℕ, ◌≡◌, ◌+◌, ◌-◌, ◌%◌, ◌^◌, ◌<◌, ◌≤◌, min, true, false, if◌then◌else◌, List, [], length, Option, slice_index}
use Rattle.std.specs.Io.KnownBytes.{Consumes, IsAtEnd, Keeps}
use Rattle.iw_ranges.specs.declared.Delivery.TheVariants.{Kept}
use Rattle.iw_ranges.specs.Arrived.{Arrived, delivery, delivered, end_of, window}
use Rattle.iw_stream.specs.declared.intake.Intake.{Intake}
use Rattle.iw_stream.specs.declared.intake.Intake.TheVariants.{Came, End, Full}
use Rattle.iw_stream.specs.declared.intake.LendRefusal.{LendRefusal}
use Rattle.iw_stream.specs.declared.intake.LendRefusal.TheVariants as refusals
use Rattle.iw_stream.specs.declared.intake.TakeLentRefusal.{TakeLentRefusal}
use Rattle.iw_stream.specs.declared.intake.TakeLentRefusal.TheVariants as takes
use Rattle.iw_stream.specs.declared.intake.TheConstants.{MOST_READ}
use Rattle.iw_stream.specs.Stream.{StreamState, ended, delivery_of, after_deliver}

-- ---- what came, octet by octet
-- for how many octets the window has room past the last that came
abbrev pub room_ahead : Arrived → ℕ
room_ahead a = window - length a.cells

-- n octets came right past the last that came, and they are what the reader gave
pub record Brings (old new : Arrived) (before after : Option (List ℕ)) (n : ℕ) : Type 0 where
  pub octets : List ℕ
  pub len : length octets ≡ n
  pub given : Consumes before after octets
  pub taken : new ≡ delivered old (end_of old) octets
  pub kept : delivery old (end_of old) n ≡ Kept
  pub near : end_of old ≤ old.floor + window
  pub small : (k : ℕ) → slice_index octets k < 256

-- what one read leaves of what came, and of the reader
abbrev pub Reads : Arrived → Arrived → Option (List ℕ) → Option (List ℕ) → Intake → Type 0
Reads old new before after (Came n) = (0 < n) × (n ≤ min MOST_READ (room_ahead old)) × Brings old new before after n
Reads old new before after End = (new ≡ old) × Consumes before after [] × IsAtEnd after
Reads old new before after Full = (new ≡ old) × Keeps before after × (room_ahead old ≡ 0)

-- how many octets came by a read
abbrev pub octets_read : Intake → ℕ
octets_read (Came n) = n
octets_read End = 0
octets_read Full = 0

-- ---- the same of a stream
-- the number of the octet past the last that came
abbrev pub number_past : StreamState → ℕ
number_past s = (s.first + end_of s.arrived) % 2 ^ 32

-- octets that are read are delivered there
abbrev pub after_read : StreamState → List ℕ → StreamState
after_read s octets = after_deliver s (number_past s) octets (delivery_of s (number_past s) (length octets))

-- n octets came, and they are what the reader gave; none is dropped if the stream runs
pub record Took (old new : StreamState) (before after : Option (List ℕ)) (n : ℕ) : Type 0 where
  pub octets : List ℕ
  pub len : length octets ≡ n
  pub given : Consumes before after octets
  pub delivered : new ≡ after_read old octets
  pub some : 0 < n
  pub most : n ≤ MOST_READ
  pub kept : ended old ≡ false → delivery_of old (number_past old) n ≡ Kept
  pub fits : ended old ≡ false → n ≤ room_ahead old.arrived

-- what one read leaves of a stream, and of the reader
abbrev pub IsRead : StreamState → StreamState → Option (List ℕ) → Option (List ℕ) → Intake → Type 0
IsRead old new before after (Came n) = Took old new before after n
IsRead old new before after End = (new ≡ old) × Consumes before after [] × IsAtEnd after
IsRead old new before after Full = (new ≡ old) × Keeps before after × (ended old ≡ false) × (room_ahead old.arrived ≡ 0)

-- ---- octets that the owner reads, to a place that is lent
-- for how many octets a place is lent, if n are wanted
abbrev pub lendable : StreamState → ℕ → ℕ
lendable s n = min n (min MOST_READ (room_ahead s.arrived))

-- why no place is lent of what came
abbrev pub LacksRoom : Arrived → LendRefusal → Type 0
LacksRoom a refusals.Full = room_ahead a ≡ 0
LacksRoom a refusals.Ended = ⊥
LacksRoom a refusals.NoMemory = Unit {0}

-- why a stream lends none
abbrev pub IsNotLent : StreamState → LendRefusal → Type 0
IsNotLent s refusals.Full = (ended s ≡ false) × (room_ahead s.arrived ≡ 0)
IsNotLent s refusals.Ended = ended s ≡ true
IsNotLent s refusals.NoMemory = ended s ≡ false

-- how many octets can be taken that were read to a lent place
abbrev pub most_ahead : Arrived → ℕ
most_ahead a = min MOST_READ (room_ahead a)

-- the same of a stream: one that has ended drops them, as many as one read has at most
abbrev pub most_taken : StreamState → ℕ
most_taken s = if ended s then MOST_READ else most_ahead s.arrived

-- why n octets are not taken, if so many can be at most: the first reason that holds
abbrev pub IsNotTakenOf : ℕ → ℕ → TakeLentRefusal → Type 0
IsNotTakenOf most n takes.Nothing = n ≡ 0
IsNotTakenOf most n takes.TooMany = most < n
IsNotTakenOf most n takes.NoMemory = (0 < n) × (n ≤ most)

-- a stream that has ended lacks no memory
abbrev pub IsNotTaken : StreamState → ℕ → TakeLentRefusal → Type 0
IsNotTaken s n refusal = IsNotTakenOf (most_taken s) n refusal × (refusal ≡ takes.NoMemory → ended s ≡ false)

-- the n octets that stood in the lent place came; none is dropped if the stream runs
pub record Counts (old new : StreamState) (n : ℕ) : Type 0 where
  pub octets : List ℕ
  pub len : length octets ≡ n
  pub small : (k : ℕ) → slice_index octets k < 256
  pub delivered : new ≡ after_read old octets
  pub some : 0 < n
  pub most : n ≤ MOST_READ
  pub kept : ended old ≡ false → delivery_of old (number_past old) n ≡ Kept
  pub fits : ended old ≡ false → n ≤ room_ahead old.arrived
