-- What stands in a region once a message has come: the octets of the Writes before a Send that was received, and those that were fetched for a Read that is done.
use Rattle.std.specs.Prelude.{◌≡◌, ◌⊎◌, ℕ, zero, suc, ◌+◌, ◌<◌, ◌==◌, ◌&&◌, nat_le, nat_lt, Bool, false, if◌then◌else◌, List, [], ◌∷◌, ◌++◌, length, map, take, fold, Option, Some, None, Ok, Err}
use Rattle.std.specs.Option.{option_map_or}
use Rattle.iw_octets.specs.declared.stag.Stag.{Stag}
use Rattle.iw_octets.specs.Stag.{number_of}
use Rattle.iw_memory.specs.declared.rights.Right.{Right}
use Rattle.iw_memory.specs.declared.rights.Right.TheVariants as rights
use Rattle.iw_memory.specs.Table.{Table, octets_at}
use Rattle.iw_queues.specs.declared.request.Request.{Request}
use Rattle.iw_queues.specs.Joined.{Cell, count_writes, count_before}
use Rattle.iw_events.specs.declared.call.End.{End}
use Rattle.iw_events.specs.declared.act.Act.{Act}
use Rattle.iw_events.specs.declared.act.Act.TheVariants.{Domain, Register, Deregister, Invalidate, Store, Open, Share, Pool, Unpool, OpenShared, Stream}
use Rattle.iw_events.specs.declared.act.StreamAct.{StreamAct}
use Rattle.iw_events.specs.declared.act.StreamAct.TheVariants.{Work}
use Rattle.iw_events.specs.declared.act.Seen.TheVariants as seen
use Rattle.iw_events.specs.declared.act.Entry.{Entry}
use Rattle.iw_laws.specs.Words.{Octets, other, acts, deed, stream_acts, posted, received, finished_kinds, table_after}
use Rattle.iw_laws.specs.Turns.{Story, story_of}
use Rattle.iw_laws.specs.Safe.{IsHonest}
use Rattle.iw_laws.specs.Sends.{ready_of}
use Rattle.iw_laws.specs.Faithful.{laid, responses, responses_done, count_done}

-- the place of one octet: a tagged offset of a region
pub record Place : Type 0 where
  pub stag : Stag
  pub to : ℕ

-- an octet there
abbrev pub cell_of : Place → ℕ → Cell
cell_of p octet = record { stag = number_of p.stag; to = p.to; octet = octet }

-- it stands there
abbrev pub Holds : Table → Place → ℕ → Type 0
Holds table p octet = octets_at table p.stag p.to 1 ≡ octet ∷ []

-- ---- what changes an octet

-- octets from a tagged offset of a region on have one at the place
abbrev pub lies_over : Place → Stag → ℕ → Octets → Bool
lies_over p stag to octets = (number_of stag == number_of p.stag) && (nat_le to p.to && nat_lt p.to (to + length octets))

-- an act changes what stands at the place, or which region is there
abbrev pub touches : Place → Act Octets → Bool
touches p (Stream n act) = option_map_or (λ q. lies_over p q.stag q.to q.octets) (deed act).placing false
touches p (Store stag to octets None) = lies_over p stag to octets
touches p (Store stag to octets (Some refusal)) = false
touches p (Deregister stag (Ok octets)) = number_of stag == number_of p.stag
touches p (Deregister stag (Err refusal)) = false
touches p (Register pd base rights octets (Ok stag)) = (stag.domain == p.stag.domain) && (stag.slot == p.stag.slot)
touches p (Register pd base rights octets (Err refusal)) = false
touches p (Domain pd None) = pd == p.stag.domain
touches p (Domain pd (Some refusal)) = false
touches p (Invalidate stag refused) = false
touches p (Open number pd role options private refused) = false
touches p (Share pd refused) = false
touches p (Pool pd len refused) = false
touches p (Unpool pd answer) = false
touches p (OpenShared number pd role options private refused) = false

abbrev pub touched_after : Place → Option (Act Octets) → Act Octets → Option (Act Octets)
touched_after p last act = if touches p act then Some act else last

-- the act that did so last
unfoldable pub last_touch : Place → List (Act Octets) → Option (Act Octets)
last_touch p done = fold (touched_after p) None done

-- octets were placed in the region by this right, for this stream
abbrev pub IsPlacedBy : ℕ → Right → Stag → Act Octets → Type 0
IsPlacedBy n right stag act = (to : ℕ) × (octets : Octets) × (act ≡ Stream n (Work (seen.Placed right stag to octets)))

-- nothing else has touched the place since that was done there last
abbrev pub IsUntouched : Place → ℕ → Right → List (Act Octets) → Type 0
IsUntouched p n right done = (act : Act Octets) → last_touch p done ≡ Some act → IsPlacedBy n right p.stag act

-- ---- the laws

-- where each cell had been placed so often at least, and at most, at a moment, and now: this octet was placed at the place since, and no other
pub record IsPlacedSince (p : Place) (octet : ℕ) (least_then most_then least most : Cell → ℕ) : Type 0 where
  pub new : most_then (cell_of p octet) < least (cell_of p octet)
  pub alone : (other : ℕ) → least_then (cell_of p other) < most (cell_of p other) → other ≡ octet

-- the stream was honest at a moment, or that was the first
abbrev pub WasHonest : ℕ → List (Entry Octets) → Type 0
WasHonest n past = IsHonest n past ⊎ (past ≡ [])

-- how often a cell is among the Writes before the last of the first so many Sends
abbrev pub count_whole : Cell → ℕ → List (Request Octets) → ℕ
count_whole c zero messages = 0
count_whole c (suc k) messages = count_before c k messages

-- an octet of a Write before a Send that was received, which was posted since a moment, where all Writes that do not lie before the Sends
-- that had then been received have this octet for the place
abbrev pub IsWritten : Place → ℕ → ℕ → List (Request Octets) → ℕ → List (Request Octets) → ℕ → Type 0
IsWritten p octet k older had messages received =
    (k < received) × IsPlacedSince p octet (λ c. count_whole c had older) (λ c. count_writes c older) (λ c. count_before c k messages) (λ c. count_writes c messages)

-- at every moment, since any before: what an honest stream wrote for a Send that was received stands at its place, if nothing but the Writes
-- of this stream has touched it
abbrev pub HoldsWritten : List (Entry Octets) → Type 0
HoldsWritten trace =
    (past since future : List (Entry Octets)) → trace ≡ (past ++ since) ++ future → (x : End) (n : ℕ) → WasHonest n past → IsHonest n (past ++ since) →
    let old : List (StreamAct Octets) = stream_acts n (acts (other x) past) in
    let done : List (Act Octets) = acts (other x) (past ++ since) in
    (p : Place) (octet k : ℕ) → IsWritten p octet k (posted (stream_acts n (acts x past))) (length (received old)) (posted (stream_acts n (acts x (past ++ since)))) (length (received (stream_acts n done)))
    → IsUntouched p n rights.Write done → Holds (table_after done) p octet

-- the responses to the Reads that are done, each as a Write to its sink
abbrev pub laid_done : Story → Story → List (StreamAct Octets) → List (Request Octets)
laid_done t asking done = map laid (take (responses_done (ready_of asking) (count_done (finished_kinds done))) t.answers)

-- an octet that was fetched since a moment for a Read that is done, where all responses but those to the Reads that were then done have this
-- octet for the place
abbrev pub IsFetched : Place → ℕ → List (Request Octets) → List (Request Octets) → List (Request Octets) → List (Request Octets) → Type 0
IsFetched p octet older_done older done responses =
    IsPlacedSince p octet (λ c. count_writes c older_done) (λ c. count_writes c older) (λ c. count_writes c done) (λ c. count_writes c responses)

-- and what was fetched for a Read that is done stands at its sink, if nothing but the responses of this stream has touched it
abbrev pub HoldsFetched : List (Entry Octets) → Type 0
HoldsFetched trace =
    (past since future : List (Entry Octets)) → trace ≡ (past ++ since) ++ future → (x : End) (n : ℕ) → WasHonest n past → IsHonest n (past ++ since) →
    let old : List (Act Octets) = acts (other x) past in
    let done : List (Act Octets) = acts (other x) (past ++ since) in
    let t : Story = story_of n (acts x past) in
    let t' : Story = story_of n (acts x (past ++ since)) in
    (p : Place) (octet : ℕ) → IsFetched p octet (laid_done t (story_of n old) (stream_acts n old)) (responses t) (laid_done t' (story_of n done) (stream_acts n done)) (responses t')
    → IsUntouched p n rights.Sink done → Holds (table_after done) p octet
