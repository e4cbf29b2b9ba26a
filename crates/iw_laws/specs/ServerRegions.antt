-- What holds of servers' runs by the regions as they stand, those that are limited to one stream too.
use Rattle.std.specs.Prelude.{◌≡◌, ℕ, List, [], ◌∷◌, ◌++◌, length, Option, Some, None, Ok, Err}
use Rattle.iw_memory.specs.Region.{bound_region}
use Rattle.iw_memory.specs.Laws.{AllowsFor}
use Rattle.iw_memory.specs.Table.{Table, empty, retired}
use Rattle.iw_stream.specs.Judging.{Standing}
use Rattle.iw_events.specs.declared.call.End.{End}
use Rattle.iw_events.specs.declared.call.End.TheVariants.{A, B}
use Rattle.iw_events.specs.declared.act.Act.{Act}
use Rattle.iw_events.specs.declared.act.StreamAct.{StreamAct}
use Rattle.iw_events.specs.declared.act.StreamAct.TheVariants.{Deliver, Raw}
use Rattle.iw_events.specs.declared.server.ServerAct.{ServerAct}
use Rattle.iw_events.specs.declared.server.ServerAct.TheVariants.{Plain, Stream, OpenNext, OpenSharedNext, Read, ReadRaw, RegisterFor, Close}
use Rattle.iw_events.specs.declared.server.ServerEntry.{ServerEntry}
use Rattle.iw_laws.specs.Words as words
use Rattle.iw_laws.specs.Words.{Octets, OnSome, deed, of_stream, domain_of, registered_under, size_set, stream_acts, table_by, table_by_stream, ended}
use Rattle.iw_laws.specs.Turns.{TurnsSeen, story_of, standing}
use Rattle.iw_laws.specs.Safe.{InBuffer}
use Rattle.iw_laws.specs.Faithful.{FetchShown}
use Rattle.iw_laws.specs.Early.{EarlySeen, SecondSeen}
use Rattle.iw_laws.specs.Once.{PlacedSeen}
use Rattle.iw_laws.specs.Servers.{Connections, told}
use Rattle.iw_laws.specs.ServerLaws.{OfConnections}

-- ---- the regions of an end

-- what an act leaves of them, where this was told of the end before: a region that is registered for one stream is limited to
-- it, and out of use once that is closed
abbrev pub server_table_by : (ℕ → ℕ) → List (Act Octets) → Table → ServerAct Octets → Table
server_table_by name before table (Plain act) = table_by table act
server_table_by name before table (Stream n act) = table_by_stream table act
server_table_by name before table (OpenNext pd role options private answer) = table
server_table_by name before table (OpenSharedNext pd role options private answer) = table
server_table_by name before table (Read n from number octets delivery) = table
server_table_by name before table (ReadRaw n number octets delivery) = table
server_table_by name before table (RegisterFor n base rights octets (Ok stag)) = registered_under table stag (bound_region n base octets rights)
server_table_by name before table (RegisterFor n base rights octets (Err refusal)) = table
server_table_by name before table (Close n None) = retired table (record { domain = domain_of (name n) before; stream = Some n })
server_table_by name before table (Close n (Some refusal)) = table

-- an entry of this end, or of the other
abbrev pub server_table_if : End → End → (ℕ → ℕ) → List (Act Octets) → Table → ServerAct Octets → Table
server_table_if A A name before table act = server_table_by name before table act
server_table_if B B name before table act = server_table_by name before table act
server_table_if A B name before table act = table
server_table_if B A name before table act = table

-- behind these entries and then those
abbrev pub server_table_from : Connections → End → List (ServerEntry Octets) → Table → List (ServerEntry Octets) → Table
server_table_from name x past table [] = table
server_table_from name x past table (e ∷ es) =
    server_table_from name x (past ++ e ∷ []) (server_table_if x e.end (name x) (words.acts x (told name past)) table e.act) es

abbrev pub server_table : Connections → End → List (ServerEntry Octets) → Table
server_table name x trace = server_table_from name x [] empty trace

-- ---- laws that speak of each act of a stream, at the moment before it

-- how the stream of a number stands: as it was told, but in these regions, and under its own number
abbrev pub server_standing : Connections → End → List (ServerEntry Octets) → ℕ → Standing
server_standing name x past n =
    let before : List (Act Octets) = words.acts x (told name past) in
    record (standing (name x n) before) { table = server_table name x past; peer = record { domain = domain_of (name x n) before; stream = Some n } }

-- the stream of an act, and what was done there
abbrev pub server_stream_act : ServerAct Octets → Option (ℕ × StreamAct Octets)
server_stream_act (Plain act) = of_stream act
server_stream_act (Stream n act) = Some (n, act)
server_stream_act (Read n from number octets delivery) = Some (n, Deliver from number octets delivery)
server_stream_act (ReadRaw n number octets delivery) = Some (n, Raw number octets delivery)
server_stream_act (OpenNext pd role options private answer) = None
server_stream_act (OpenSharedNext pd role options private answer) = None
server_stream_act (RegisterFor n base rights octets answer) = None
server_stream_act (Close n refused) = None

-- each act of a stream is so
abbrev pub ServerAtEach : (Standing → List (Act Octets) → ℕ → StreamAct Octets → Type 0) → Connections → List (ServerEntry Octets) → Type 0
ServerAtEach P name trace =
    (past : List (ServerEntry Octets)) (e : ServerEntry Octets) (future : List (ServerEntry Octets)) → trace ≡ past ++ e ∷ future
    → OnSome (λ a. P (server_standing name e.end past a.0) (words.acts e.end (told name past)) (name e.end a.0) a.1) (server_stream_act e.act)

-- the law holds of each run, whichever streams are connected
abbrev pub OfServerRegions : (Standing → List (Act Octets) → ℕ → StreamAct Octets → Type 0) → Type 0
OfServerRegions P = OfConnections (ServerAtEach P)

-- ---- what they say: as the laws of schedules, which have these words

abbrev pub WithinAs : Standing → List (Act Octets) → ℕ → StreamAct Octets → Type 0
WithinAs s before n act =
    OnSome (λ p. AllowsFor s.table s.peer p.stag p.to (length p.octets) p.right) (deed act).placing × OnSome (InBuffer (story_of n before).receiving) (deed act).buffering

abbrev pub FetchAs : Standing → List (Act Octets) → ℕ → StreamAct Octets → Type 0
FetchAs s before n act = OnSome (FetchShown (story_of n before) s (size_set (stream_acts n before))) (deed act).shown

abbrev pub TurnsAs : Standing → List (Act Octets) → ℕ → StreamAct Octets → Type 0
TurnsAs s before n act = OnSome (TurnsSeen (ended (stream_acts n before)) (story_of n before) s) (deed act).step

abbrev pub EarlyAs : Standing → List (Act Octets) → ℕ → StreamAct Octets → Type 0
EarlyAs s before n act = OnSome (EarlySeen (ended (stream_acts n before)) (story_of n before) s) (deed act).step

abbrev pub SecondAs : Standing → List (Act Octets) → ℕ → StreamAct Octets → Type 0
SecondAs s before n act = OnSome (SecondSeen (story_of n before) s) (deed act).step

abbrev pub PlacedAs : Standing → List (Act Octets) → ℕ → StreamAct Octets → Type 0
PlacedAs s before n act = OnSome (PlacedSeen (story_of n before) s) (deed act).step
