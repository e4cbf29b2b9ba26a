-- What calls on a domain's pool of receive buffers answer and change.
use Rattle.std.specs.Prelude.{ℕ, List, length, Option}
use Rattle.std.specs.Option.{option_map}
use Rattle.iw_endpoint.specs.Endpoint as endpoint
use Rattle.iw_endpoint.specs.Endpoint.{EndpointState}
use Rattle.iw_handle.specs.declared.refusal.Refusal.{Refusal}
use Rattle.iw_handle.specs.Refusals.{share_reason, pool_reason, take_reason, open_shared_reason}
use Rattle.iw_handle.specs.State.{first_of, length_refusal}
use Rattle.iw_handle.specs.Words.{role_refusal, role_in, config_refusal, config_of}

-- ---- refusals

abbrev pub refusal_to_share : EndpointState → ℕ → Option Refusal
refusal_to_share e pd = option_map share_reason (endpoint.share_refusal e pd)

-- a receive buffer of `n` octets is posted
abbrev pub refusal_to_pool : EndpointState → ℕ → ℕ → Option Refusal
refusal_to_pool e pd n = first_of (length_refusal n) (option_map pool_reason (endpoint.pool_refusal e pd))

abbrev pub refusal_to_take : EndpointState → ℕ → Option Refusal
refusal_to_take e pd = option_map take_reason (endpoint.take_refusal e pd)

-- a stream that shares the pool is opened, with the number of a role, options and private data
abbrev pub refusal_to_open_shared : EndpointState → ℕ → ℕ → ℕ → ℕ → List ℕ → Option Refusal
refusal_to_open_shared e number pd role options private =
    first_of (role_refusal role)
    (first_of (config_refusal (role_in role) options (length private))
    (option_map open_shared_reason
    (endpoint.open_shared_refusal e number pd (role_in role) (config_of options private))))
