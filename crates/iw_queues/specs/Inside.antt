-- What the fields of a `SendQueue` mean, and what they keep.
use Rattle.std.specs.Prelude.{ℕ, ◌≤◌, List, length}
use Rattle.iw_queues.specs.declared.request.Request.{Request}
use Rattle.iw_queues.specs.Completions.{Held}
use Rattle.iw_queues.specs.Queue.{Queue, IsWithinLimits}

abbrev pub queue_of : Held → List (Request (List ℕ)) → ℕ → Queue
queue_of held unsent offset = record { sent = held.outstanding; unsent = unsent; offset = offset }

pub record Keeps (held : Held) (unsent : List (Request (List ℕ))) (offset : ℕ) : Type 0 where
  pub limits : IsWithinLimits (queue_of held unsent offset)
  pub room : length unsent ≤ held.room
