-- A part, without where its message lies in memory.
use Rattle.std.specs.Prelude.{ℕ, List, Option, Some, None}
use Rattle.std.specs.Borrow.{Bor}
use Rattle.iw_queues.specs.declared.request.Request.{Request}
use Rattle.iw_queues.specs.declared.send_queue.Part.{Part}

abbrev pub shown_part : Part (Bor (Request (List ℕ))) → Part (Request (List ℕ))
shown_part part = record { ticket = part.ticket; message = part.message.now; offset = part.offset; n = part.n; last = part.last }

abbrev pub shown : Option (Part (Bor (Request (List ℕ)))) → Option (Part (Request (List ℕ)))
shown None = None
shown (Some part) = Some (shown_part part)
