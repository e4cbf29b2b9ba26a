-- Where all came that the other end sent, and there is nothing to do, it has arrived.
use Rattle.std.specs.Prelude.{◌≡◌, ◌⊎◌, ℕ, ◌≤◌, Bool, List, [], ◌∷◌, ◌++◌, length, take}
use Rattle.iw_octets.specs.declared.payload.ReadRequest.{ReadRequest}
use Rattle.iw_queues.specs.declared.request.Request.{Request}
use Rattle.iw_queues.specs.Joined.{Cell, count_writes}
use Rattle.iw_ranges.specs.Arrived.{in_order}
use Rattle.iw_events.specs.declared.call.End.{End}
use Rattle.iw_events.specs.declared.act.Act.TheVariants.{Stream}
use Rattle.iw_events.specs.declared.act.StreamAct.{StreamAct}
use Rattle.iw_events.specs.declared.act.StreamAct.TheVariants.{Work}
use Rattle.iw_events.specs.declared.act.Seen.TheVariants as seen
use Rattle.iw_events.specs.declared.act.Entry.{Entry}
use Rattle.iw_laws.specs.Words.{Octets, other, acts, stream_acts, ended, posted, sends, received, sent, placings, written, sunk}
use Rattle.iw_laws.specs.Turns.{Story, story_of, ReadsFrames}
use Rattle.iw_laws.specs.Safe.{IsHonest}
use Rattle.iw_laws.specs.Sends.{ready_of, asked_of}
use Rattle.iw_laws.specs.Faithful.{reads_among, responses}

-- the messages that were sent whole: those of what was posted whose last frames went out
abbrev pub sent_whole : Story → List (Request Octets) → List (Request Octets)
sent_whole t messages = take t.whole messages

-- there is nothing to do at a stream of this end
abbrev pub idles : End → ℕ → Entry Octets
idles x n = record { end = x; act = Stream n (Work seen.Idle) }

-- the end reads frames, and all octets came that the other end sent
pub record HasAll (over : Bool) (t : Story) (octets : Octets) : Type 0 where
  pub reads : ReadsFrames over t
  pub came : in_order t.came ≡ octets

-- what was asked for are the Reads among these messages, behind the RTR, if it is one; or no message was sent whole, and none was asked for
abbrev pub AreAsked : List (Request Octets) → List (Request Octets) → List ReadRequest → Type 0
AreAsked ready messages asked = (asked ≡ reads_among (ready ++ messages)) ⊎ ((asked ≡ []) × (messages ≡ []))

-- where the other end says t, and this end u, by these acts: of these messages the Sends were received, each whole and in order, and nothing else,
-- each octet of the Writes was placed, and the Reads were taken up; the responses that the other end fetched whole had their turn, and each
-- octet that it fetched was placed
pub record HaveArrived (t u : Story) (messages : List (Request Octets)) (done : List (StreamAct Octets)) : Type 0 where
  pub sends_are : received done ≡ sends messages
  pub writes : (cell : Cell) → count_writes cell messages ≤ count_writes cell (written (placings done))
  pub asked : AreAsked (ready_of t) messages (asked_of u)
  pub answered : u.answered ≡ length t.answers
  pub fetched : (cell : Cell) → count_writes cell (responses t) ≤ count_writes cell (sunk (placings done))

-- at each step of work that is idle, on an honest stream: if all came that the other end sent, all messages have arrived that it sent whole
abbrev pub AllArrived : List (Entry Octets) → Type 0
AllArrived trace =
    (past future : List (Entry Octets)) (x : End) (n : ℕ) → trace ≡ past ++ idles (other x) n ∷ future → IsHonest n past →
    let done : List (StreamAct Octets) = stream_acts n (acts x past) in
    let theirs : List (StreamAct Octets) = stream_acts n (acts (other x) past) in
    let t : Story = story_of n (acts x past) in
    let u : Story = story_of n (acts (other x) past) in
    HasAll (ended theirs) u (sent done) → HaveArrived t u (sent_whole t (posted done)) theirs
