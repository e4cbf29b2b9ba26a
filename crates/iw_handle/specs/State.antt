-- What a handle has, and what calls on it answer: what they answer at its endpoint, if it has one.
use Rattle.std.specs.Prelude.{ℕ, nat_lt, List, [], ◌++◌, length, drop, if◌then◌else◌, Option, None, Some}
use Rattle.std.specs.Option.{option_map, option_map_or}
use Rattle.iw_buffer.specs.Octets as buffers
use Rattle.iw_endpoint.specs.Endpoint.{EndpointState, has_stream}
use Rattle.iw_handle.specs.declared.open_handle.Held.{Held}
use Rattle.iw_lines.specs.Lends.{none_lent, without_lent}
use Rattle.iw_lines.specs.Lines.{no_lines}
use Rattle.iw_handle.specs.declared.refusal.Refusal.{Refusal}
use Rattle.iw_handle.specs.declared.refusal.Refusal.TheVariants.{Closed, NoRoom, NoSuchStream, BufferMissing, BufferTooLong}

-- closed, or what the handle has
abbrev pub State : Type 0
State = Option Held

-- an endpoint, nothing waits at its streams, and no place is lent
abbrev pub open_with : EndpointState → State
open_with e = Some (record { endpoint = e; lines = no_lines; lends = none_lent })

-- a place that is lent at a stream is taken back
abbrev pub held_called : Held → ℕ → Held
held_called held number = record held { lends = without_lent held.lends number }

-- so a call on that stream finds it
abbrev pub called_on : State → ℕ → State
called_on state number = option_map (λ held. held_called held number) state

-- why a call is refused: `Closed` comes before any other refusal
abbrev pub refusal_in : State → (EndpointState → Option Refusal) → Option Refusal
refusal_in None refusal = Some Closed
refusal_in (Some held) refusal = refusal held.endpoint

-- why a call that also takes a buffer is refused: that the handle is closed comes first, then that there is no buffer
abbrev pub refusal_with : State → buffers.State → (EndpointState → List ℕ → Option Refusal) → Option Refusal
refusal_with None buffer refusal = Some Closed
refusal_with (Some held) None refusal = Some BufferMissing
refusal_with (Some held) (Some octets) refusal = refusal held.endpoint octets

abbrev pub with_endpoint : Held → EndpointState → Held
with_endpoint held e = record held { endpoint = e }

-- the state with its endpoint changed by a function
abbrev pub changed : State → (EndpointState → EndpointState) → State
changed state change = option_map (λ held. with_endpoint held (change held.endpoint)) state

-- a fact about its endpoint, if it has one
abbrev pub told_in : {A : Type 0} → State → (EndpointState → A) → Option A
told_in state tell = option_map (λ held. tell held.endpoint) state

-- octets of its endpoint; none if it is closed
abbrev pub octets_in : State → (EndpointState → List ℕ) → List ℕ
octets_in state octets = option_map_or (λ held. octets held.endpoint) state []

-- the first of two reasons
abbrev pub first_of : Option Refusal → Option Refusal → Option Refusal
first_of None next = next
first_of (Some r) next = Some r

-- there is no stream of this number
abbrev pub stream_refusal : EndpointState → ℕ → Option Refusal
stream_refusal e number = if has_stream e number then None else Some NoSuchStream

-- a receive buffer of so many octets is too long
abbrev pub length_refusal : ℕ → Option Refusal
length_refusal n = if nat_lt 16777216 n then Some BufferTooLong else None

-- ---- octets that are copied out

-- the same, if the endpoint has such a fact
abbrev pub shown_in : {A : Type 0} → State → (EndpointState → Option A) → Option A
shown_in None show = None
shown_in (Some held) show = show held.endpoint

-- n octets do not fit a buffer of `room`
abbrev pub room_refusal : ℕ → ℕ → Option Refusal
room_refusal n room = if nat_lt room n then Some NoRoom else None

-- why octets are not copied out: there are none, for this reason, or they do not fit
abbrev pub copy_refusal : Option (List ℕ) → Refusal → ℕ → Option Refusal
copy_refusal None reason room = Some reason
copy_refusal (Some octets) reason room = room_refusal (length octets) room

-- a buffer with octets at its front; as it was if there are none
abbrev pub filled : Option (List ℕ) → List ℕ → List ℕ
filled None out = out
filled (Some octets) out = octets ++ drop (length octets) out

-- how many they are, told even if they do not fit
abbrev pub length_told : Option (List ℕ) → ℕ → ℕ
length_told None len = len
length_told (Some octets) len = length octets
