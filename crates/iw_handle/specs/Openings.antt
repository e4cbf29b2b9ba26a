-- Streams that are opened and closed: each has a line while it is open.
use Rattle.std.specs.Prelude.{ℕ, List, length, Option, unwrap_or}
use Rattle.std.specs.Option.{option_map}
use Rattle.iw_lines.specs.Lends.{without_lent}
use Rattle.iw_lines.specs.Lines as lines
use Rattle.iw_endpoint.specs.Endpoint.{EndpointState, next_number, next_refusal, next_shared_refusal, close_refusal, after_close}
use Rattle.iw_handle.specs.declared.open_handle.Held.{Held}
use Rattle.iw_handle.specs.declared.refusal.Refusal.{Refusal}
use Rattle.iw_handle.specs.Refusals.{next_reason, close_reason}
use Rattle.iw_handle.specs.State.{State, first_of}
use Rattle.iw_handle.specs.Words.{role_refusal, role_in, config_refusal, config_of}

-- ---- refusals

-- a stream is opened under the next number, with the number of a role, options and private data
abbrev pub refusal_to_open_next : EndpointState → ℕ → ℕ → ℕ → List ℕ → Option Refusal
refusal_to_open_next e pd role options private =
    first_of (role_refusal role)
    (first_of (config_refusal (role_in role) options (length private))
    (option_map next_reason (next_refusal e (next_number e) pd (role_in role) (config_of options private))))

-- the same, and it shares the domain's pool
abbrev pub refusal_to_open_shared_next : EndpointState → ℕ → ℕ → ℕ → List ℕ → Option Refusal
refusal_to_open_shared_next e pd role options private =
    first_of (role_refusal role)
    (first_of (config_refusal (role_in role) options (length private))
    (option_map next_reason (next_shared_refusal e (next_number e) pd (role_in role) (config_of options private))))

abbrev pub refusal_to_close : EndpointState → ℕ → Option Refusal
refusal_to_close e number = option_map close_reason (close_refusal e number)

-- ---- what is left

-- a stream was opened under this number: nothing waits at it yet
abbrev pub held_opened : Held → ℕ → (EndpointState → EndpointState) → Held
held_opened held number change = record held { endpoint = change held.endpoint; lines = lines.opened held.lines number }

abbrev pub opened_in : State → ℕ → (EndpointState → EndpointState) → State
opened_in state number change = option_map (λ held. held_opened held number change) state

-- a stream was opened under the next number
abbrev pub held_opened_next : Held → (EndpointState → EndpointState) → Held
held_opened_next held change = held_opened held (unwrap_or (next_number held.endpoint) 0) change

abbrev pub opened_next_in : State → (EndpointState → EndpointState) → State
opened_next_in state change = option_map (λ held. held_opened_next held change) state

-- a stream was closed: what waited at it is freed, and no place is lent there
abbrev pub held_closed : Held → ℕ → Held
held_closed held number = record {
  endpoint = after_close held.endpoint number;
  lines = lines.closed held.lines number;
  lends = without_lent held.lends number;
}

abbrev pub closed_in : State → ℕ → State
closed_in state number = option_map (λ held. held_closed held number) state
