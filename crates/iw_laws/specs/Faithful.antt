-- What is answered to the peer's Reads, and what becomes of the answers.
use Rattle.std.specs.Prelude.{◌≡◌, ℕ, ◌+◌, ◌-◌, ◌≤◌, ◌==◌, min, List, [], ◌∷◌, ◌++◌, length, take, map, false, Some, if◌then◌else◌}
use Rattle.iw_octets.specs.declared.constants.TheConstants.{TAGGED_HEADER}
use Rattle.iw_octets.specs.declared.fault.Fault.{Fault}
use Rattle.iw_octets.specs.declared.message.Message.TheVariants.{Write}
use Rattle.iw_octets.specs.declared.payload.ReadRequest.{ReadRequest}
use Rattle.iw_octets.specs.Segment.{segment_octets}
use Rattle.iw_memory.specs.declared.rights.Right.TheVariants as rights
use Rattle.iw_memory.specs.Laws.{AllowsFor}
use Rattle.iw_memory.specs.Table.{octets_at}
use Rattle.iw_fpdu.specs.Frame.{frame_octets}
use Rattle.iw_queues.specs.declared.request.Kind.{Kind}
use Rattle.iw_queues.specs.declared.request.Kind.TheVariants as kinds
use Rattle.iw_queues.specs.declared.request.Request.{Request}
use Rattle.iw_queues.specs.declared.request.Request.TheVariants.{Message as Posted, Read}
use Rattle.iw_queues.specs.Joined.{IsPrefixOf, Cell, count_writes}
use Rattle.iw_reads.specs.declared.requests.Asked.{Asked}
use Rattle.iw_reads.specs.Source.{reading_fault}
use Rattle.iw_events.specs.declared.call.End.{End}
use Rattle.iw_events.specs.declared.act.Act.{Act}
use Rattle.iw_events.specs.declared.act.StreamAct.{StreamAct}
use Rattle.iw_events.specs.declared.act.Shown.{Shown}
use Rattle.iw_events.specs.declared.act.Shown.TheVariants.{Frame, Fetched, Fault as Denied, Nothing}
use Rattle.iw_events.specs.declared.act.Entry.{Entry}
use Rattle.iw_stream.specs.Judging.{Standing}
use Rattle.iw_stream.specs.Starting.{sending, first_place_out}
use Rattle.iw_laws.specs.Words.{Octets, Fetching, other, acts, deed, stream_acts, posted, finished_kinds, placings, sunk, size_set}
use Rattle.iw_laws.specs.Words.{OnSome, OnStream, AtEach}
use Rattle.iw_laws.specs.Turns.{Answer, Story, story_of, standing, segment_out, carries_response}
use Rattle.iw_laws.specs.Merged.{response_segment}
use Rattle.iw_laws.specs.Safe.{IsHonest}
use Rattle.iw_laws.specs.Sends.{asked_of, ready_of, count_reads}

-- ---- what is fetched

-- the request of the peer that waits longest
pub record IsOldest (t : Story) (oldest : Asked) : Type 0 where
  pub others : List Asked
  pub is : t.asked.unanswered ≡ oldest ∷ others

-- octets are fetched for the oldest request: those of its source past the ones that were fetched before, as they stand there,
-- and the stream's peer may read them; the frame carries them to its sink
pub record IsFetch (t : Story) (s : Standing) (from : ℕ) (frame : Octets) (fetching : Fetching) : Type 0 where
  pub oldest : Asked
  pub waits : IsOldest t oldest
  pub source : fetching.stag ≡ oldest.request.source
  pub place : fetching.to ≡ oldest.request.source_to + length t.begun
  pub asked_for : length t.begun + length fetching.octets ≤ oldest.request.size
  pub allowed : AllowsFor s.table s.peer fetching.stag fetching.to (length fetching.octets) rights.Read
  pub stand : fetching.octets ≡ octets_at s.table fetching.stag fetching.to (length fetching.octets)
  pub carries : frame ≡ frame_octets (sending t.start) (from - first_place_out t.start)
      (segment_octets
      (response_segment oldest.request (length t.begun) (length t.begun + length fetching.octets == oldest.request.size) fetching.octets))

-- how many octets of the response to a Read are due next, if a ULPDU may have this size: all that were not fetched before, or as many as
-- fit after the header
abbrev pub octets_due : Story → ℕ → ReadRequest → ℕ
octets_due t size request = min (request.size - length t.begun) (size - TAGGED_HEADER)

-- the octets that are due next for the oldest request may not be read, and this is the fault
pub record IsDenial (t : Story) (s : Standing) (size : ℕ) (fault : Fault) : Type 0 where
  pub oldest : Asked
  pub waits : IsOldest t oldest
  pub denied : reading_fault s.table s.peer oldest.request.source (oldest.request.source_to + length t.begun) (octets_due t size oldest.request) ≡ Some fault

-- a frame that is not shown as fetched has no octets of a response
abbrev pub FetchShown : Story → Standing → ℕ → Shown Octets → Type 0
FetchShown t s size (Frame from octets) = OnSome (λ segment. carries_response segment ≡ false) (segment_out t from octets)
FetchShown t s size (Fetched from frame stag to octets) = IsFetch t s from frame (record { stag = stag; to = to; octets = octets })
FetchShown t s size (Denied fault) = IsDenial t s size fault
FetchShown t s size Nothing = Unit {0}

abbrev pub FetchStream : List (Act Octets) → ℕ → StreamAct Octets → Type 0
FetchStream before n act = OnSome (FetchShown (story_of n before) (standing n before) (size_set (stream_acts n before))) (deed act).shown

-- whatever came: a response has only octets that are fetched for it, and these are the current contents of what the peer asked for, if the
-- peer may read it
abbrev pub Faithful : List (Entry Octets) → Type 0
Faithful = AtEach (OnStream FetchStream)

-- ---- what becomes of the responses

-- the octets of a response, as a Write of them to its sink
abbrev pub laid : Answer → Request Octets
laid answer = Posted (Write answer.request.sink answer.request.sink_to answer.octets)

-- the octets that were fetched for the oldest request that waits
abbrev pub begun_for : List Asked → Octets → List Answer
begun_for [] octets = []
begun_for (oldest ∷ others) octets = record { request = oldest.request; octets = octets } ∷ []

-- the responses so far, the last perhaps in part
abbrev pub responses : Story → List (Request Octets)
responses t = map laid (t.answers ++ begun_for t.asked.unanswered t.begun)

abbrev pub count_done : List Kind → ℕ
count_done [] = 0
count_done (kinds.Write ∷ done) = count_done done
count_done (kinds.Send ∷ done) = count_done done
count_done (kinds.Read ∷ done) = count_done done + 1

abbrev pub reads_among : List (Request Octets) → List ReadRequest
reads_among [] = []
reads_among (Posted message ∷ ms) = reads_among ms
reads_among (Read request ∷ ms) = request ∷ reads_among ms

-- how many responses end with that to the last of so many Reads: the RTR, if it is a Read, was answered before them
abbrev pub responses_done : List (Request Octets) → ℕ → ℕ
responses_done ready done = if done == 0 then 0 else count_reads ready + done

-- the Reads that are done were answered, and each octet of the responses to them has been placed; none has been placed more often than
-- it was fetched
pub record CoversReads (t : Story) (placed : List (Request Octets)) (done : ℕ) (cell : Cell) : Type 0 where
  pub answered : done ≤ length t.answers
  pub before : count_writes cell (map laid (take done t.answers)) ≤ count_writes cell placed
  pub most : count_writes cell placed ≤ count_writes cell (responses t)

-- the requests that were read are the first of the Reads that the other end sent, its RTR before those that were posted, and their
-- responses are placed there
pub record AnswersReads (t : Story) (ready posted placed : List (Request Octets)) (done : ℕ) : Type 0 where
  pub asked : IsPrefixOf (asked_of t) (reads_among (ready ++ posted))
  pub covers : (cell : Cell) → CoversReads t placed (responses_done ready done) cell

-- at every moment, what an end of an honest stream has answered to the Reads of the other, which has placed it
abbrev pub Answering : List (Entry Octets) → Type 0
Answering trace =
    (past future : List (Entry Octets)) → trace ≡ past ++ future → (x : End) (n : ℕ) → IsHonest n past →
    let done : List (StreamAct Octets) = stream_acts n (acts (other x) past) in
    AnswersReads (story_of n (acts x past)) (ready_of (story_of n (acts (other x) past))) (posted done) (sunk (placings done)) (count_done (finished_kinds done))
