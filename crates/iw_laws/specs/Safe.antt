-- What holds of every trace of two ends, in words of the trace alone.
use Rattle.std.specs.Prelude.{◌≡◌, ◌⊎◌, false, ℕ, ◌+◌, ◌<◌, ◌≤◌, List, [], ◌∷◌, ◌++◌, length, Some}
use Rattle.iw_memory.specs.Laws.{AllowsFor}
use Rattle.iw_untagged.specs.Receiving.{Receiving, ahead_of, buffer_for}
use Rattle.iw_queues.specs.declared.request.Request.{Request}
use Rattle.iw_queues.specs.Joined.{IsPrefixOf, Cell, count_writes, count_before}
use Rattle.iw_events.specs.declared.call.End.{End}
use Rattle.iw_events.specs.declared.act.Act.{Act}
use Rattle.iw_events.specs.declared.act.StreamAct.{StreamAct}
use Rattle.iw_events.specs.declared.act.Entry.{Entry}
use Rattle.iw_stream.specs.declared.answer.Role.TheVariants.{Preset, Initiator, Responder}
use Rattle.iw_laws.specs.Words.{Octets, other, acts, deed, stream_acts, openings, Opening, peer_at, posted, sends, received, placings, written, Buffering, table_after}
use Rattle.iw_laws.specs.Words.{OnSome, OnStream, AtEach}
use Rattle.iw_laws.specs.Turns.{story_of}

-- ---- receives

-- openings that understand each other: open at once with the same options, or an initiator's and a responder's
abbrev pub Fits : Opening → Opening → Type 0
Fits a b =
    ((a.role ≡ Preset) × (b.role ≡ Preset) × (a.config.markers ≡ b.config.markers) × (a.config.crc ≡ b.config.crc))
    ⊎ (((a.role ≡ Initiator) × (b.role ≡ Responder)) ⊎ ((a.role ≡ Responder) × (b.role ≡ Initiator)))

-- both ends were opened so, and were given nothing but what the other end sent there, each delivery from within 2^30 of the in-order point
pub record IsHonest (n : ℕ) (trace : List (Entry Octets)) : Type 0 where
  pub opening : End → Opening
  pub opened : (x : End) → openings n (acts x trace) ≡ opening x ∷ []
  pub fits : (x : End) → Fits (opening x) (opening (other x))
  pub calm : (x : End) → (story_of n (acts x trace)).strays ≡ false

-- at every moment, what an end has received on an honest stream is a prefix of the Sends posted at the other end
abbrev pub InOrder : List (Entry Octets) → Type 0
InOrder trace = (past future : List (Entry Octets)) → trace ≡ past ++ future → (x : End) (n : ℕ) → IsHonest n past →
    IsPrefixOf (received (stream_acts n (acts (other x) past))) (sends (posted (stream_acts n (acts x past))))

-- ---- Writes

-- of each Send that is received, each octet of the Writes posted before it has been placed, and none has been placed more often than it was posted
pub record CoversWrites (posted placed : List (Request Octets)) (received : ℕ) (cell : Cell) : Type 0 where
  pub before : (k : ℕ) → k < received → count_before cell k posted ≤ count_writes cell placed
  pub most : count_writes cell placed ≤ count_writes cell posted

-- at every moment, what an end has placed for the Writes of an honest stream
abbrev pub Covered : List (Entry Octets) → Type 0
Covered trace = (past future : List (Entry Octets)) → trace ≡ past ++ future → (x : End) (n : ℕ) → IsHonest n past → (cell : Cell) →
    CoversWrites (posted (stream_acts n (acts x past))) (written (placings (stream_acts n (acts (other x) past)))) (length (received (stream_acts n (acts (other x) past)))) cell

-- ---- octets that change

-- the message sequence number names a buffer: one that is posted, or that is bound to it, or else the pool's oldest; and the octets lie within it
pub record InBuffer (r : Receiving) (b : Buffering) : Type 0 where
  pub buffer : Octets
  pub is : buffer_for r.source (ahead_of r.due b.msn) ≡ Some buffer
  pub lie : b.mo + b.len ≤ length buffer

-- what an act changed lay in a region that then allowed it, or in a receive buffer that was then posted
abbrev pub WithinStream : List (Act Octets) → ℕ → StreamAct Octets → Type 0
WithinStream before n act =
    OnSome (λ p. AllowsFor (table_after before) (peer_at n before) p.stag p.to (length p.octets) p.right) (deed act).placing
    × OnSome (InBuffer (story_of n before).receiving) (deed act).buffering

abbrev pub Within : List (Entry Octets) → Type 0
Within = AtEach (OnStream WithinStream)
