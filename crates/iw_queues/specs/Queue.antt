-- The messages posted at one end of a stream and not handed out, and what each call leaves of them.
use Rattle.std.specs.Prelude.{ℕ, Bool, ◌≡◌, ◌+◌, ◌-◌, ◌%◌, ◌^◌, ◌<◌, ◌≤◌, All, List, [], ◌∷◌, ◌++◌, length, drop, nat_lt, nat_le, if◌then◌else◌, Option, Some, None}
use Rattle.iw_octets.specs.Parts.{part_at}
use Rattle.iw_queues.specs.declared.request.Request.{Request}
use Rattle.iw_queues.specs.declared.request.Refusal.{Refusal}
use Rattle.iw_queues.specs.declared.request.Refusal.TheVariants.{Full, TooLong}
use Rattle.iw_queues.specs.declared.completions.Sent.{Sent}
use Rattle.iw_queues.specs.declared.completions.Done.{Done}
use Rattle.iw_queues.specs.declared.send_queue.Part.{Part}
use Rattle.iw_queues.specs.Request.{kind_of, payload, size_of, header_len}
use Rattle.iw_queues.specs.Completions.{Outstanding, nothing_sent, next_ticket, added, done}

pub record Queue : Type 0 where
  pub sent : Outstanding  -- sent to their end
  pub unsent : List (Request (List ℕ))  -- the others, posted after them, oldest first
  pub offset : ℕ  -- how many octets of the first of the others were sent

abbrev pub nothing_posted : Queue
nothing_posted = record { sent = nothing_sent; unsent = []; offset = 0 }

-- ---- posting
-- why a message of n octets is not posted, except that there is no memory
abbrev pub size_refusal : Queue → ℕ → Option Refusal
size_refusal q n =
    if nat_le 256 (length q.sent.messages + length q.unsent) then Some Full
    else if nat_lt 16777216 n then Some TooLong
    else None

abbrev pub post_refusal : Queue → Request (List ℕ) → Option Refusal
post_refusal q message = size_refusal q (size_of message)

-- the ticket of the next message to be posted
abbrev pub ticket_past : Queue → ℕ
ticket_past q = (q.sent.first + (length q.sent.messages + length q.unsent)) % 2 ^ 64

abbrev pub posted : Queue → Request (List ℕ) → Queue
posted q message = record q { unsent = q.unsent ++ message ∷ [] }

-- ---- sending
-- the part from `offset` on of a message, if a ULPDU may have `max` octets: as many as fit after the header, or what is left
abbrev pub part_from : ℕ → Request (List ℕ) → ℕ → ℕ → Part (Request (List ℕ))
part_from ticket message offset max =
    let part = part_at (length (payload message)) (max - header_len message) offset in
    record { ticket = ticket; message = message; offset = part.offset; n = part.n; last = part.last }

abbrev pub part_of_first : ℕ → List (Request (List ℕ)) → ℕ → ℕ → Option (Part (Request (List ℕ)))
part_of_first ticket [] offset max = None
part_of_first ticket (message ∷ messages) offset max = Some (part_from ticket message offset max)

-- the part that is to be sent next
abbrev pub next_part : Queue → ℕ → Option (Part (Request (List ℕ)))
next_part q max = part_of_first (next_ticket q.sent) q.unsent q.offset max

-- the part that is to be sent next, in ULPDUs of some size, has n octets, and is its message's last or not
pub record IsNext (q : Queue) (n : ℕ) (last : Bool) : Type 0 where
  pub max : ℕ
  pub least : 128 ≤ max
  pub part : Part (Request (List ℕ))
  pub shown : next_part q max ≡ Some part
  pub octets : part.n ≡ n
  pub ends : part.last ≡ last

-- what is left to be sent after this part
abbrev pub part_sent : Queue → Option (Part (Request (List ℕ))) → Queue
part_sent q None = q
part_sent q (Some part) =
    if part.last then record { sent = added q.sent (kind_of part.message); unsent = drop 1 q.unsent; offset = 0 }
    else record q { offset = q.offset + part.n }

-- ---- handing out
abbrev pub sent_with : Queue → Outstanding → Queue
sent_with q sent = record q { sent = sent }

-- the oldest message, if it is finished
abbrev pub done_in : Queue → Option Done
done_in q = done q.sent

-- the oldest message, whether it was sent or not
abbrev pub oldest_among : ℕ → List Sent → List (Request (List ℕ)) → Option Done
oldest_among first [] [] = None
oldest_among first [] (message ∷ messages) = Some (record { ticket = first; kind = kind_of message })
oldest_among first (m ∷ ms) unsent = Some (record { ticket = first; kind = m.kind })

abbrev pub oldest_in : Queue → Option Done
oldest_in q = oldest_among q.sent.first q.sent.messages q.unsent

-- what is left after the oldest message; of one that was not sent to its end nothing more is sent
abbrev pub past_oldest : ℕ → List Sent → List (Request (List ℕ)) → ℕ → Queue
past_oldest next [] unsent offset = record { sent = record { first = next; messages = [] }; unsent = drop 1 unsent; offset = 0 }
past_oldest next (m ∷ ms) unsent offset = record { sent = record { first = next; messages = ms }; unsent = unsent; offset = offset }

-- what is left if this message was handed out
abbrev pub handed_from : Queue → Option Done → Queue
handed_from q None = q
handed_from q (Some message) = past_oldest ((q.sent.first + 1) % 2 ^ 64) q.sent.messages q.unsent q.offset

-- ---- what is so at any time
-- of a message that was begun and not sent to its end octets are left
abbrev pub IsBegun : List (Request (List ℕ)) → ℕ → Type 0
IsBegun [] offset = offset ≡ 0
IsBegun (message ∷ messages) offset = 0 < offset → offset < length (payload message)

pub record IsWithinLimits (q : Queue) : Type 0 where
  pub posted : length q.sent.messages + length q.unsent ≤ 256
  pub sizes : All (λ message. size_of message ≤ 16777216) q.unsent
  pub begun : IsBegun q.unsent q.offset
