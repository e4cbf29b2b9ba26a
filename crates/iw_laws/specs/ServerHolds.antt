-- What stands in a region once a message has come to an end that serves any number of connections, by the regions as they stand.
use Rattle.std.specs.Prelude.{◌≡◌, ℕ, ◌==◌, ◌&&◌, Bool, false, if◌then◌else◌, List, ◌∷◌, ◌++◌, length, fold, Option, Some, None, Ok, Err}
use Rattle.iw_octets.specs.declared.stag.Stag.{Stag}
use Rattle.iw_memory.specs.declared.rights.Right.{Right}
use Rattle.iw_memory.specs.declared.rights.Right.TheVariants as rights
use Rattle.iw_events.specs.declared.call.End.{End}
use Rattle.iw_events.specs.declared.act.Act.TheVariants as acts
use Rattle.iw_events.specs.declared.act.StreamAct.TheVariants.{Work}
use Rattle.iw_events.specs.declared.act.Entry.{Entry}
use Rattle.iw_events.specs.declared.act.Seen.TheVariants as seen
use Rattle.iw_events.specs.declared.server.ServerAct.{ServerAct}
use Rattle.iw_events.specs.declared.server.ServerAct.TheVariants.{Plain, Stream, OpenNext, OpenSharedNext, Read, ReadRaw, RegisterFor, Close}
use Rattle.iw_events.specs.declared.server.ServerEntry.{ServerEntry}
use Rattle.iw_laws.specs.Words as words
use Rattle.iw_laws.specs.Words.{Octets, other, stream_acts, posted, received}
use Rattle.iw_laws.specs.Turns.{Story, story_of}
use Rattle.iw_laws.specs.Safe.{IsHonest}
use Rattle.iw_laws.specs.Faithful.{responses}
use Rattle.iw_laws.specs.Holds.{Place, Holds, WasHonest, touches, IsWritten, IsFetched, laid_done}
use Rattle.iw_laws.specs.Servers.{Connections, told}
use Rattle.iw_laws.specs.ServerLaws.{server_acts}
use Rattle.iw_laws.specs.ServerRegions.{server_table, server_stream_act}

-- an act changes what stands at the place, or which region is there: a region for one stream alone is registered as any other, and its octets
-- stay when the stream is closed
abbrev pub server_touches : Place → ServerAct Octets → Bool
server_touches p (Plain act) = touches p act
server_touches p (Stream n act) = touches p (acts.Stream n act)
server_touches p (RegisterFor n base rights octets (Ok stag)) = (stag.domain == p.stag.domain) && (stag.slot == p.stag.slot)
server_touches p (RegisterFor n base rights octets (Err refusal)) = false
server_touches p (OpenNext pd role options private answer) = false
server_touches p (OpenSharedNext pd role options private answer) = false
server_touches p (Read n from number octets delivery) = false
server_touches p (ReadRaw n number octets delivery) = false
server_touches p (Close n refused) = false

abbrev pub server_touched : Place → Option (ServerAct Octets) → ServerAct Octets → Option (ServerAct Octets)
server_touched p last act = if server_touches p act then Some act else last

-- the act that did so last
abbrev pub server_last_touch : Place → List (ServerAct Octets) → Option (ServerAct Octets)
server_last_touch p done = fold (server_touched p) None done

-- octets were placed in the region by this right, for the stream of this number
abbrev pub IsServerPlacing : ℕ → Right → Stag → ServerAct Octets → Type 0
IsServerPlacing n right stag act = (to : ℕ) × (octets : Octets) × (server_stream_act act ≡ Some (n, Work (seen.Placed right stag to octets)))

-- nothing else has touched the place since that was done there last
abbrev pub IsLeftAlone : Place → ℕ → Right → List (ServerAct Octets) → Type 0
IsLeftAlone p n right done = (act : ServerAct Octets) → server_last_touch p done ≡ Some act → IsServerPlacing n right p.stag act

-- as for schedules (`HoldsWritten`): at each end, of the stream of each number there, in the connection that it belongs to
abbrev pub ServerHoldsWritten : Connections → List (ServerEntry Octets) → Type 0
ServerHoldsWritten name trace =
    (past since future : List (ServerEntry Octets)) → trace ≡ (past ++ since) ++ future → (x : End) (n : ℕ) →
    let c : ℕ = name (other x) n in
    let before : List (Entry Octets) = told name past in
    let now : List (Entry Octets) = told name (past ++ since) in
    WasHonest c before → IsHonest c now → (p : Place) (octet k : ℕ)
    → IsWritten p octet k (posted (stream_acts c (words.acts x before))) (length (received (stream_acts c (words.acts (other x) before))))
    (posted (stream_acts c (words.acts x now))) (length (received (stream_acts c (words.acts (other x) now))))
    → IsLeftAlone p n rights.Write (server_acts (other x) (past ++ since)) → Holds (server_table name (other x) (past ++ since)) p octet

-- and as `HoldsFetched`
abbrev pub ServerHoldsFetched : Connections → List (ServerEntry Octets) → Type 0
ServerHoldsFetched name trace =
    (past since future : List (ServerEntry Octets)) → trace ≡ (past ++ since) ++ future → (x : End) (n : ℕ) →
    let c : ℕ = name (other x) n in
    let before : List (Entry Octets) = told name past in
    let now : List (Entry Octets) = told name (past ++ since) in
    let t : Story = story_of c (words.acts x before) in
    let t' : Story = story_of c (words.acts x now) in
    WasHonest c before → IsHonest c now → (p : Place) (octet : ℕ)
    → IsFetched p octet (laid_done t (story_of c (words.acts (other x) before)) (stream_acts c (words.acts (other x) before))) (responses t)
    (laid_done t' (story_of c (words.acts (other x) now)) (stream_acts c (words.acts (other x) now))) (responses t')
    → IsLeftAlone p n rights.Sink (server_acts (other x) (past ++ since)) → Holds (server_table name (other x) (past ++ since)) p octet
