-- How each call of an end that serves any number of connections is answered.
use Rattle.std.specs.Prelude.{◌≡◌, ◌||◌, ℕ, List, ◌∷◌, ◌++◌, length, Bool, not, is_none, unwrap_or, if◌then◌else◌, Option, Some, None, IfOk}
use Rattle.std.specs.Option.{option_map}
use Rattle.std.specs.Result.{result_err}
use Rattle.iw_memory.specs.Table.{Table, is_added, domain_refusal, register_refusal, store_refusal}
use Rattle.iw_startup.specs.declared.config.Config.{Config}
use Rattle.iw_stream.specs.declared.answer.Role.{Role}
use Rattle.iw_stream.specs.Starting.{exceeds_request}
use Rattle.iw_endpoint.specs.declared.refusal.LimitRefusal.{LimitRefusal}
use Rattle.iw_endpoint.specs.declared.refusal.LimitRefusal.TheVariants as limits
use Rattle.iw_endpoint.specs.declared.refusal.OpenNextRefusal.{OpenNextRefusal}
use Rattle.iw_endpoint.specs.declared.refusal.OpenNextRefusal.TheVariants as next_refusals
use Rattle.iw_endpoint.specs.Endpoint.{Pool, share_fault, pool_fault, take_fault, taken}
use Rattle.iw_endpoint.specs.Isolation.{answer_or}
use Rattle.iw_events.specs.declared.act.Act.{Act}
use Rattle.iw_events.specs.declared.act.Act.TheVariants as acts
use Rattle.iw_events.specs.declared.server.ServerAct.{ServerAct}
use Rattle.iw_events.specs.declared.server.ServerAct.TheVariants.{Plain, Stream, OpenNext, OpenSharedNext, Read, ReadRaw, RegisterFor, Close}
use Rattle.iw_events.specs.declared.server.ServerEntry.{ServerEntry}
use Rattle.iw_laws.specs.Words as words
use Rattle.iw_laws.specs.Words.{Octets, config_for, domain_of, ended, openings, stream_acts, was_opened}
use Rattle.iw_laws.specs.Calls.{IsNew, deregister_answer, invalidate_refusal, open_refusal_in, open_shared_refusal_in}
use Rattle.iw_laws.specs.Turns.{story_of, pool_by}
use Rattle.iw_laws.specs.Ends.{closing_refusal}
use Rattle.iw_laws.specs.Servers.{Connections, told}
use Rattle.iw_laws.specs.ServerLaws.{server_acts, count_given, number_after}
use Rattle.iw_laws.specs.ServerRegions.{server_table}

-- why no stream is opened under the next number, if one is left: by whether the domain is there
abbrev pub next_refusal_by : Bool → Option ℕ → Role → Config → Option OpenNextRefusal
next_refusal_by added next role config =
    if not added then Some next_refusals.NoDomain
    else if is_none next then Some next_refusals.NumbersSpent
    else if exceeds_request role config then Some next_refusals.PrivateTooLong
    else None

-- and, where it is to share its domain's pool, by that
abbrev pub next_shared_refusal_by : Bool → Option Pool → Option ℕ → Role → Config → Option OpenNextRefusal
next_shared_refusal_by added pool next role config =
    if not added then Some next_refusals.NoDomain
    else if is_none pool then Some next_refusals.NotShared
    else next_refusal_by added next role config

-- why no region is registered for a stream alone: it has ended; or as for its domain
abbrev pub limit_refusal_by : Table → Bool → ℕ → ℕ → ℕ → Option LimitRefusal
limit_refusal_by table over pd base len = if over then Some limits.Ended else option_map limits.Refused (register_refusal table pd base len)

-- one is answered by the regions, by how many numbers were given, and by what was told of the end
abbrev pub ServerAnswered : (ℕ → ℕ) → Table → ℕ → List (Act Octets) → ServerAct Octets → Type 0
ServerAnswered name table given before (Plain (acts.Domain pd refused)) = refused ≡ domain_refusal table pd
ServerAnswered name table given before (Plain (acts.Register pd base rights octets answer)) = (result_err answer ≡ register_refusal table pd base (length octets)) × IfOk answer (IsNew table pd)
ServerAnswered name table given before (Plain (acts.Deregister stag answer)) = answer ≡ deregister_answer table stag
ServerAnswered name table given before (Plain (acts.Invalidate stag refused)) = refused ≡ invalidate_refusal table stag
ServerAnswered name table given before (Plain (acts.Store stag to octets refused)) = refused ≡ store_refusal table stag to (length octets)
ServerAnswered name table given before (Plain (acts.Share pd refused)) = refused ≡ share_fault (is_added table pd) (pool_by pd before)
ServerAnswered name table given before (Plain (acts.Pool pd len refused)) = refused ≡ pool_fault (is_added table pd) (pool_by pd before)
ServerAnswered name table given before (Plain (acts.Unpool pd answer)) = answer ≡ answer_or (take_fault (is_added table pd) (pool_by pd before)) (taken (pool_by pd before))
ServerAnswered name table given before (Plain (acts.Open n pd role options private refused)) =
    refused ≡ open_refusal_in table (was_opened (openings (name n) before)) n pd role (config_for options private)
ServerAnswered name table given before (Plain (acts.OpenShared n pd role options private refused)) =
    refused ≡ open_shared_refusal_in table (pool_by pd before) (was_opened (openings (name n) before)) n pd role (config_for options private)
ServerAnswered name table given before (Plain (acts.Stream n act)) = Unit {0}
ServerAnswered name table given before (Stream n act) = Unit {0}
ServerAnswered name table given before (Read n from number octets delivery) = Unit {0}
ServerAnswered name table given before (ReadRaw n number octets delivery) = Unit {0}
-- the numbers are given one after the other
ServerAnswered name table given before (OpenNext pd role options private answer) =
    answer ≡ answer_or (next_refusal_by (is_added table pd) (number_after given) role (config_for options private)) (unwrap_or (number_after given) 0)
ServerAnswered name table given before (OpenSharedNext pd role options private answer) =
    answer ≡ answer_or (next_shared_refusal_by (is_added table pd) (pool_by pd before) (number_after given) role (config_for options private)) (unwrap_or (number_after given) 0)
ServerAnswered name table given before (RegisterFor n base rights octets answer) =
    (result_err answer ≡ limit_refusal_by table (ended (stream_acts (name n) before)) (domain_of (name n) before) base (length octets))
    × IfOk answer (IsNew table (domain_of (name n) before))
-- a stream that is closed has ended, holds nothing, and has no more to send
ServerAnswered name table given before (Close n refused) = refused ≡ closing_refusal (story_of (name n) before) (stream_acts (name n) before)

-- at every moment each call of an end is answered by its regions, pools and streams, as the entries before it leave them
abbrev pub ServerShowsMemory : Connections → List (ServerEntry Octets) → Type 0
ServerShowsMemory name trace =
    (past : List (ServerEntry Octets)) (e : ServerEntry Octets) (future : List (ServerEntry Octets)) → trace ≡ past ++ e ∷ future
    → ServerAnswered (name e.end) (server_table name e.end past) (count_given (server_acts e.end past)) (words.acts e.end (told name past)) e.act
