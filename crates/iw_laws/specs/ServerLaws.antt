-- What holds of every run of ends that serve any number of connections.
use Rattle.std.specs.Prelude.{◌≡◌, ◌≢◌, ℕ, ◌+◌, ◌==◌, ◌≤◌, nat_lt, false, List, [], ◌∷◌, ◌++◌, length, Option, Some, None, Result, Ok, Err, if◌then◌else◌}
use Rattle.std.specs.List.{flat_map}
use Rattle.std.specs.Option.{option_map}
use Rattle.iw_octets.specs.declared.stag.Stag.{Stag}
use Rattle.iw_memory.specs.Region.{retired_region}
use Rattle.iw_memory.specs.Table.{region_at}
use Rattle.iw_endpoint.specs.declared.refusal.LimitRefusal.{LimitRefusal}
use Rattle.iw_endpoint.specs.declared.refusal.NotAtRest.{NotAtRest}
use Rattle.iw_endpoint.specs.Endpoint.{stream_numbers, all_numbers, has_stream, stream_of, stream_at}
use Rattle.iw_events.specs.declared.call.End.{End}
use Rattle.iw_events.specs.declared.call.End.TheVariants.{A, B}
use Rattle.iw_events.specs.declared.act.Act.{Act}
use Rattle.iw_events.specs.declared.act.Entry.{Entry}
use Rattle.iw_events.specs.declared.server.ServerAct.{ServerAct}
use Rattle.iw_events.specs.declared.server.ServerAct.TheVariants.{Plain, Stream, OpenNext, OpenSharedNext, Read, ReadRaw, RegisterFor, Close}
use Rattle.iw_events.specs.declared.server.ServerEntry.{ServerEntry}
use Rattle.iw_laws.specs.Words.{Octets, acts, openings, stream_acts}
use Rattle.iw_laws.specs.Rules.{EndState, end_of, start}
use Rattle.iw_laws.specs.Servers.{Connections, AreApart, told, server_after, server_state_after, ServerFollows}

-- ---- the laws of schedules

-- the law holds of what each run tells, whichever streams are connected
abbrev pub OfServers : (List (Entry Octets) → Type 0) → Type 0
OfServers Law = (name : Connections) (trace : List (ServerEntry Octets)) → AreApart name → ServerFollows name start trace → Law (told name trace)

-- an act that registers no region for one stream alone
abbrev pub LimitsNone : ServerAct Octets → Type 0
LimitsNone (RegisterFor n base rights octets (Ok stag)) = ⊥
LimitsNone (RegisterFor n base rights octets (Err refusal)) = Unit {0}
LimitsNone (Plain act) = Unit {0}
LimitsNone (Stream n act) = Unit {0}
LimitsNone (OpenNext pd role options private answer) = Unit {0}
LimitsNone (OpenSharedNext pd role options private answer) = Unit {0}
LimitsNone (Read n from number octets delivery) = Unit {0}
LimitsNone (ReadRaw n number octets delivery) = Unit {0}
LimitsNone (Close n refused) = Unit {0}

-- no region was registered for one stream alone
abbrev pub NoneLimited : List (ServerEntry Octets) → Type 0
NoneLimited [] = Unit {0}
NoneLimited (e ∷ es) = LimitsNone e.act × NoneLimited es

-- the same of the runs in which none was: what they tell has all regions
abbrev pub OfUnlimited : (List (Entry Octets) → Type 0) → Type 0
OfUnlimited Law = (name : Connections) (trace : List (ServerEntry Octets)) → AreApart name → ServerFollows name start trace → NoneLimited trace → Law (told name trace)

-- the law holds of each run, whichever streams are connected
abbrev pub OfConnections : (Connections → List (ServerEntry Octets) → Type 0) → Type 0
OfConnections Law = (name : Connections) (trace : List (ServerEntry Octets)) → AreApart name → ServerFollows name start trace → Law name trace

-- ---- the life of a stream number

-- the law holds of each run
abbrev pub OfServerRuns : (List (ServerEntry Octets) → Type 0) → Type 0
OfServerRuns Law = (name : Connections) (trace : List (ServerEntry Octets)) → ServerFollows name start trace → Law trace

-- each stream by its own number
abbrev pub by_number : Connections
by_number x n = n

-- what an end did, in words of schedules, each stream under its own number
abbrev pub server_told : End → List (ServerEntry Octets) → List (Act Octets)
server_told x trace = acts x (told by_number trace)

-- the acts of one end
abbrev pub server_acts_if : End → End → ServerAct Octets → List (ServerAct Octets)
server_acts_if A A act = act ∷ []
server_acts_if B B act = act ∷ []
server_acts_if A B act = []
server_acts_if B A act = []

abbrev pub server_acts : End → List (ServerEntry Octets) → List (ServerAct Octets)
server_acts x trace = flat_map (λ e. server_acts_if x e.end e.act) trace

-- how many numbers these gave
abbrev pub count_given : List (ServerAct Octets) → ℕ
count_given [] = 0
count_given (OpenNext pd role options private (Ok n) ∷ done) = 1 + count_given done
count_given (OpenNext pd role options private (Err refusal) ∷ done) = count_given done
count_given (OpenSharedNext pd role options private (Ok n) ∷ done) = 1 + count_given done
count_given (OpenSharedNext pd role options private (Err refusal) ∷ done) = count_given done
count_given (Plain act ∷ done) = count_given done
count_given (Stream n act ∷ done) = count_given done
count_given (Read n from number octets delivery ∷ done) = count_given done
count_given (ReadRaw n number octets delivery ∷ done) = count_given done
count_given (RegisterFor n base rights octets answer ∷ done) = count_given done
count_given (Close n refused ∷ done) = count_given done

-- the number that is given behind so many, from 64 on, as long as it has 32 bits
abbrev pub number_after : ℕ → Option ℕ
number_after given = if nat_lt (stream_numbers + given) all_numbers then Some (stream_numbers + given) else None

-- the calls to close the stream of this number, by their answers
abbrev pub closings_by : ℕ → ServerAct Octets → List (Option NotAtRest)
closings_by n (Close number refused) = if number == n then refused ∷ [] else []
closings_by n (Plain act) = []
closings_by n (Stream number act) = []
closings_by n (OpenNext pd role options private answer) = []
closings_by n (OpenSharedNext pd role options private answer) = []
closings_by n (Read number from sequence octets delivery) = []
closings_by n (ReadRaw number sequence octets delivery) = []
closings_by n (RegisterFor number base rights octets answer) = []

abbrev pub closings : ℕ → List (ServerAct Octets) → List (Option NotAtRest)
closings n done = flat_map (closings_by n) done

-- the calls to register a region for the stream of this number, by their answers
abbrev pub limitings_by : ℕ → ServerAct Octets → List (Result Stag LimitRefusal)
limitings_by n (RegisterFor number base rights octets answer) = if number == n then answer ∷ [] else []
limitings_by n (Plain act) = []
limitings_by n (Stream number act) = []
limitings_by n (OpenNext pd role options private answer) = []
limitings_by n (OpenSharedNext pd role options private answer) = []
limitings_by n (Read number from sequence octets delivery) = []
limitings_by n (ReadRaw number sequence octets delivery) = []
limitings_by n (Close number refused) = []

abbrev pub limitings : ℕ → List (ServerAct Octets) → List (Result Stag LimitRefusal)
limitings n done = flat_map (limitings_by n) done

-- a number is given once, or picked once
abbrev pub GivesOnce : List (ServerEntry Octets) → Type 0
GivesOnce trace = (x : End) (n : ℕ) → length (openings n (server_told x trace)) ≤ 1

-- nothing is told of the stream of this number, and no call names it
pub record IsOver (x : End) (n : ℕ) (trace : List (ServerEntry Octets)) : Type 0 where
  pub opened : openings n (server_told x trace) ≡ []
  pub done : stream_acts n (server_told x trace) ≡ []
  pub closed : closings n (server_acts x trace) ≡ []
  pub limited : limitings n (server_acts x trace) ≡ []

-- a number is over once its stream was closed
abbrev pub ClosedIsOver : List (ServerEntry Octets) → Type 0
ClosedIsOver trace =
    (past future : List (ServerEntry Octets)) (x : End) (n : ℕ) → trace ≡ past ++ record { end = x; act = Close n None } ∷ future → IsOver x n future

-- ---- what a close leaves

-- the stream is gone, and the regions that were limited to it are out of use; the other regions, the pools, the other streams
-- and what was emitted are as they were
pub record LeavesOthers (s s' : EndState) (n : ℕ) : Type 0 where
  pub gone : has_stream s'.endpoint n ≡ false
  pub others : (m : ℕ) → m ≢ n → stream_of s'.endpoint m ≡ stream_of s.endpoint m
  -- in the stream's domain, and in every other
  pub retired : (stag : Stag) → stag.domain ≡ (stream_at s.endpoint n).domain → region_at s'.endpoint.table stag ≡ option_map (retired_region (Some n)) (region_at s.endpoint.table stag)
  pub regions : (stag : Stag) → stag.domain ≢ (stream_at s.endpoint n).domain → region_at s'.endpoint.table stag ≡ region_at s.endpoint.table stag
  pub pools : s'.endpoint.pools ≡ s.endpoint.pools
  pub wires : s'.wires ≡ s.wires

-- it is so of each close
abbrev pub AtCloses : (EndState → EndState → ℕ → Type 0) → List (ServerEntry Octets) → Type 0
AtCloses P trace =
    (past future : List (ServerEntry Octets)) (x : End) (n : ℕ) → trace ≡ past ++ record { end = x; act = Close n None } ∷ future
    → P (end_of x (server_state_after start past)) (server_after (end_of x (server_state_after start past)) (Close n None)) n

-- whichever streams are connected
abbrev pub CloseLeavesOthers : Type 0
CloseLeavesOthers = (name : Connections) (trace : List (ServerEntry Octets)) → AreApart name → ServerFollows name start trace → AtCloses LeavesOthers trace

-- where no region is limited to one stream, the regions are as they were
abbrev pub CloseLeavesRegions : Type 0
CloseLeavesRegions = (name : Connections) (trace : List (ServerEntry Octets)) → AreApart name → ServerFollows name start trace → NoneLimited trace → AtCloses (λ s s' n. s'.endpoint.table ≡ s.endpoint.table) trace
