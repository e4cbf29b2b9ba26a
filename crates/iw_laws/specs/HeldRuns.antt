-- Runs that no two ends make: a message has come, and other octets stand in the region than were sent for it.
use Rattle.std.specs.Prelude.{◌≡◌, ℕ, [], ◌∷◌, ◌++◌, false, true, Some, None, Ok}
use Rattle.iw_memory.specs.declared.rights.Right.TheVariants as rights
use Rattle.iw_ranges.specs.declared.Delivery.TheVariants.{Kept}
use Rattle.iw_queues.specs.declared.request.Kind.TheVariants as kinds
use Rattle.iw_stream.specs.declared.answer.Role.TheVariants.{Preset}
use Rattle.iw_octets.specs.declared.message.Message.TheVariants as messages
use Rattle.iw_queues.specs.declared.request.Request.TheVariants.{Message as Posted}
use Rattle.iw_events.specs.declared.act.StreamAct.TheVariants.{Deliver, Post}
use Rattle.iw_events.specs.declared.act.Seen.TheVariants as seen
use Rattle.iw_events.specs.declared.act.Act.{Act}
use Rattle.iw_events.specs.declared.act.Act.TheVariants.{Domain, Register, Invalidate, Store}
use Rattle.iw_laws.specs.Words.{Octets, table_after}
use Rattle.iw_laws.specs.Holds.{Place, Holds, last_touch, HoldsWritten, HoldsFetched}
use Rattle.iw_laws.specs.WrongRuns.{Run, a, b, on, opens, works, registers, stag, writes_one, sends_one, sinks_eight, asks_one, lends, request_frame, first_four, other_four, fetches, read_one}

-- an octet of a region of two
abbrev pub place : Place
place = record { stag = stag; to = 1 }

abbrev pub registers_two : Act Octets
registers_two = Register 1 0 (record { write = true; read = false; sink = false; invalidate = false }) (0 ∷ 0 ∷ []) (Ok stag)

abbrev pub places_at : ℕ → Octets → Act Octets
places_at to octets = works (seen.Placed rights.Write stag to octets)

-- what touches it: a registration in its slot, octets over it, and not those beside it, nor an invalidation
pub record KnowsTouches : Type 0 where
  pub never : last_touch place (Domain 2 None ∷ Store stag 0 (1 ∷ []) None ∷ []) ≡ None
  pub registered : last_touch place (Domain 1 None ∷ registers_two ∷ Invalidate stag None ∷ []) ≡ Some registers_two
  pub placed : last_touch place (registers_two ∷ places_at 0 (1 ∷ 2 ∷ []) ∷ places_at 0 (3 ∷ []) ∷ []) ≡ Some (places_at 0 (1 ∷ 2 ∷ []))
  pub stored : last_touch place (registers_two ∷ places_at 1 (1 ∷ []) ∷ Store stag 1 (2 ∷ []) None ∷ []) ≡ Some (Store stag 1 (2 ∷ []) None)
  pub holds : Holds (table_after (Domain 1 None ∷ registers_two ∷ places_at 0 (1 ∷ 2 ∷ []) ∷ Invalidate stag None ∷ [])) place 2

-- a Write of 0xaa is placed as 0xbb, and the Send behind it is received
abbrev pub places_other : Run
places_other =
    opens a Preset ++ opens b Preset
    ++ (a writes_one ∷ a sends_one ∷ b registers ∷ b (works (seen.Placed rights.Write stag 0 (0xbb ∷ []))) ∷ b (works (seen.Received (0x68 ∷ []) false None)) ∷ [])

-- one of 0xaa is placed so, and the Send behind it is received
abbrev pub places_once : Run
places_once =
    opens a Preset ++ opens b Preset
    ++ (a writes_one ∷ a sends_one ∷ b registers ∷ b (works (seen.Placed rights.Write stag 0 (0xaa ∷ []))) ∷ b (works (seen.Received (0x68 ∷ []) false None)) ∷ [])

-- then a Write of 0xcc to the same place is placed as 0xdd, and the Send behind that is received
abbrev pub places_anew : Run
places_anew =
    a (on (Post (Posted (messages.Write stag 0 (0xcc ∷ []))) None)) ∷ a sends_one ∷ b (works (seen.Placed rights.Write stag 0 (0xdd ∷ [])))
    ∷ b (works (seen.Received (0x68 ∷ []) false None)) ∷ []

-- four octets are fetched for a Read, other four are placed, and the Read is done
abbrev pub sinks_other : Run
sinks_other =
    opens a Preset ++ (a sinks_eight ∷ asks_one)
    ++ opens b Preset
    ++ (b (lends first_four) ∷ b (on (Deliver 0 0 request_frame Kept)) ∷ b (works (seen.Requested 4 stag 0)) ∷ b (fetches read_one 0 0 true 0 first_four) ∷ [])
    ++ (a (works (seen.Placed rights.Sink stag 0 other_four)) ∷ a (works (seen.Done kinds.Read)) ∷ [])

abbrev pub RefusesOtherWritten : Type 0
RefusesOtherWritten = ¬ HoldsWritten places_other

abbrev pub RefusesOtherWrittenAnew : Type 0
RefusesOtherWrittenAnew = ¬ HoldsWritten (places_once ++ places_anew)

abbrev pub RefusesOtherFetched : Type 0
RefusesOtherFetched = ¬ HoldsFetched sinks_other
