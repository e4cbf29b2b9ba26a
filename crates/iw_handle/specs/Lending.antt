-- Octets that the program reads to a place that is lent.
use Rattle.std.specs.Prelude.{◌≡◌, ◌<◌, ◌⊎◌, ℕ, false}
use Rattle.std.specs.Option.{option_map}
use Rattle.iw_lines.specs.Lends.{lent_to, with_lent, without_lent}
use Rattle.iw_endpoint.specs.Endpoint.{EndpointState, stream_at}
use Rattle.iw_endpoint.specs.Reading.{Counts, lendable}
use Rattle.iw_stream.specs.Reading.{room_ahead, most_taken}
use Rattle.iw_stream.specs.Stream.{ended}
use Rattle.iw_handle.specs.declared.open_handle.Held.{Held}
use Rattle.iw_handle.specs.State.{State}

-- for how many octets a place is lent, if so many are wanted
abbrev pub lendable_at : EndpointState → ℕ → ℕ → ℕ
lendable_at e number want = lendable (stream_at e number) want

-- the stream runs, and its window has no room
abbrev pub IsFull : EndpointState → ℕ → Type 0
IsFull e number = let s = stream_at e number in (ended s ≡ false) × (room_ahead s.arrived ≡ 0)

-- for how many octets a place is lent at a stream
abbrev pub lent_at : Held → ℕ → ℕ
lent_at held number = lent_to held.lends number

-- a place for n octets is lent
abbrev pub held_lent : Held → ℕ → ℕ → Held
held_lent held number n = record held { lends = with_lent held.lends number n }

abbrev pub lent_in : State → ℕ → ℕ → State
lent_in state number n = option_map (λ held. held_lent held number n) state

-- n octets are none, or more than a place can be lent for
abbrev pub IsNoPlace : EndpointState → ℕ → ℕ → Type 0
IsNoPlace e number n = (n ≡ 0) ⊎ (most_taken (stream_at e number) < n)

-- or more than are lent
abbrev pub IsUnlent : Held → ℕ → ℕ → Type 0
IsUnlent held number n = (lent_at held number < n) ⊎ IsNoPlace held.endpoint number n

-- the n octets that stood in the lent place came, and none is lent any more
abbrev pub HasTaken : Held → ℕ → ℕ → Held → Type 0
HasTaken held number n after =
    Counts held.endpoint after.endpoint number n × (after.lines ≡ held.lines) × (after.lends ≡ without_lent held.lends number)
