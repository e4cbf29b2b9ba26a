-- Messages that were sent, and are handed out in posting order.
use Rattle.std.specs.Prelude.{ℕ, ◌≡◌, ◌+◌, ◌-◌, ◌%◌, ◌^◌, Bool, true, false, List, [], ◌∷◌, ◌++◌, length, slice_get, slice_set, drop, if◌then◌else◌, Option, Some, None}
use Rattle.iw_queues.specs.declared.request.Kind.{Kind}
use Rattle.iw_queues.specs.declared.request.Kind.TheVariants.{Write, Send, Read}
use Rattle.iw_queues.specs.declared.completions.Sent.{Sent}
use Rattle.iw_queues.specs.declared.completions.Done.{Done}

-- the messages that were sent and not handed out, oldest first, and the ticket of the oldest
pub record Outstanding : Type 0 where
  pub first : ℕ
  pub messages : List Sent

-- a `Completions`: the messages, and how many more there is room for
pub record Held : Type 0 where
  pub outstanding : Outstanding
  pub room : ℕ

abbrev pub nothing_sent : Outstanding
nothing_sent = record { first = 0; messages = [] }

abbrev pub next_ticket : Outstanding → ℕ
next_ticket c = (c.first + length c.messages) % 2 ^ 64

-- a Write and a Send are finished once they are sent, a Read once its response has come
abbrev pub is_finished_when_sent : Kind → Bool
is_finished_when_sent Write = true
is_finished_when_sent Send = true
is_finished_when_sent Read = false

abbrev pub added : Outstanding → Kind → Outstanding
added c kind = record c { messages = c.messages ++ record { kind = kind; finished = is_finished_when_sent kind } ∷ [] }

-- which of the messages has this ticket, the oldest being 0
abbrev pub place_of : Outstanding → ℕ → ℕ
place_of c ticket = (ticket + (2 ^ 64 - c.first)) % 2 ^ 64

-- a Read with this ticket was sent and neither finished nor handed out
abbrev pub IsAwaited : Outstanding → ℕ → Type 0
IsAwaited c ticket = slice_get c.messages (place_of c ticket) ≡ Some (record { kind = Read; finished = false })

abbrev pub finished : Outstanding → ℕ → Outstanding
finished c ticket = record c { messages = slice_set c.messages (place_of c ticket) (record { kind = Read; finished = true }) }

-- the oldest of these messages, finished or not
abbrev pub oldest_from : ℕ → List Sent → Option Done
oldest_from first [] = None
oldest_from first (m ∷ ms) = Some (record { ticket = first; kind = m.kind })

abbrev pub oldest : Outstanding → Option Done
oldest c = oldest_from c.first c.messages

-- the oldest of these messages, if it is finished
abbrev pub done_from : ℕ → List Sent → Option Done
done_from first [] = None
done_from first (m ∷ ms) = if m.finished then Some (record { ticket = first; kind = m.kind }) else None

abbrev pub done : Outstanding → Option Done
done c = done_from c.first c.messages

-- what is left after the oldest message, if one was handed out
abbrev pub handed_out : Outstanding → Option Done → Outstanding
handed_out c None = c
handed_out c (Some message) = record { first = (c.first + 1) % 2 ^ 64; messages = drop 1 c.messages }
