-- What holds of the segments that carry posted messages, and of what a queue has sent.
use Rattle.std.specs.Prelude.{ℕ, ◌≡◌, ◌≢◌, ◌+◌, ◌%◌, ◌^◌, map, true, false, ◌<◌, ◌≤◌, List, [], ◌∷◌, ◌++◌, length, Some}
use Rattle.iw_octets.specs.declared.message.Message.{Message as PostedMessage}
use Rattle.iw_octets.specs.declared.segment.Segment.{Segment}
use Rattle.iw_queues.specs.declared.request.Request.{Request}
use Rattle.iw_queues.specs.declared.request.Request.TheVariants.{Message}
use Rattle.iw_queues.specs.declared.request.Kind.{Kind}
use Rattle.iw_queues.specs.declared.request.Kind.TheVariants as kinds
use Rattle.iw_queues.specs.declared.completions.Done.{Done}
use Rattle.iw_queues.specs.declared.send_queue.Part.{Part}
use Rattle.iw_queues.specs.Request.{payload, kind_of, header_len}
use Rattle.iw_queues.specs.Completions.{Outstanding, IsAwaited, finished}
use Rattle.iw_queues.specs.Queue.{Queue, nothing_posted, posted, next_part, part_sent, sent_with, done_in, oldest_in, handed_from, IsWithinLimits}
use Rattle.iw_queues.specs.Segments.{Numbers, first_numbers, numbers_after_all, numbers_beyond, segment_of, AreSegments, AreSpelled}
use Rattle.iw_queues.specs.Joined.{IsPrefixOf, payloads, joined, sends, Cell, count_writes, count_before, count_segments}

-- joined, the parts of a message are its octets
abbrev pub JoinsToMessage : Type 0
JoinsToMessage = (numbers : Numbers) (message : PostedMessage (List ℕ)) (ss : List (Segment (List ℕ))) → AreSegments numbers (Message message) 0 ss
    → payloads ss ≡ payload (Message message)

-- segments that were delivered in order complete the first of the Sends, each whole
abbrev pub CompletesInOrder : Type 0
CompletesInOrder = (numbers : Numbers) (ms : List (Request (List ℕ))) (delivered later : List (Segment (List ℕ))) → AreSpelled numbers 0 ms (delivered ++ later)
    → IsPrefixOf (joined [] delivered) (sends ms)

-- each octet of the Writes before a Send that is complete was placed, and no octet was placed more often than it was posted
pub record IsCovered (c : Cell) (ms : List (Request (List ℕ))) (delivered : List (Segment (List ℕ))) : Type 0 where
  pub before : (k : ℕ) → k < length (joined [] delivered) → count_before c k ms ≤ count_segments c delivered
  pub most : count_segments c delivered ≤ count_writes c ms

abbrev pub CoversWrites : Type 0
CoversWrites = (numbers : Numbers) (ms : List (Request (List ℕ))) (delivered later : List (Segment (List ℕ))) → AreSpelled numbers 0 ms (delivered ++ later)
    → (c : Cell) → IsCovered c ms delivered

-- these segments were sent of these messages, and go on with any that carry what is left in the queue
pub record HasSent (ms : List (Request (List ℕ))) (sent : List (Segment (List ℕ))) (numbers : Numbers) (q : Queue) : Type 0 where
  pub goes_on : (rest : List (Segment (List ℕ))) → AreSpelled numbers q.offset q.unsent rest → AreSpelled first_numbers 0 ms (sent ++ rest)
  pub counted : numbers_after_all numbers q.unsent ≡ numbers_after_all first_numbers ms

-- the parts that are sent are the first of segments that carry the posted messages, in order and whole
pub record SendsInOrder : Type 0 where
  pub start : HasSent [] [] first_numbers nothing_posted
  pub post : (ms : List (Request (List ℕ))) (sent : List (Segment (List ℕ))) (numbers : Numbers) (q : Queue) (message : Request (List ℕ)) → IsWithinLimits q → HasSent ms sent numbers q
      → HasSent (ms ++ message ∷ []) sent numbers (posted q message)
  pub part : (ms : List (Request (List ℕ))) (sent : List (Segment (List ℕ))) (numbers : Numbers) (q : Queue) (max : ℕ) (shown : Part (Request (List ℕ))) → 128 ≤ max → max ≤ 64512
      → next_part q max ≡ Some shown → HasSent ms sent numbers q → HasSent ms (sent ++ segment_of numbers shown ∷ []) (numbers_beyond numbers shown) (part_sent q (Some shown))
  pub finish : (ms : List (Request (List ℕ))) (sent : List (Segment (List ℕ))) (numbers : Numbers) (q : Queue) (ticket : ℕ) → HasSent ms sent numbers q
      → HasSent ms sent numbers (sent_with q (finished q.sent ticket))
  pub next : (ms : List (Request (List ℕ))) (sent : List (Segment (List ℕ))) (numbers : Numbers) (q : Queue) → HasSent ms sent numbers q → HasSent ms sent numbers (handed_from q (done_in q))
  pub whole : (ms : List (Request (List ℕ))) (sent : List (Segment (List ℕ))) (numbers : Numbers) (q : Queue) → HasSent ms sent numbers q
      → (rest : List (Segment (List ℕ))) × AreSpelled first_numbers 0 ms (sent ++ rest)

-- a part that is not the last fills the largest ULPDU, the last has what is left, and a part without octets is all of a message without octets
pub record IsFilled (max : ℕ) (part : Part (Request (List ℕ))) : Type 0 where
  pub full : part.last ≡ false → part.n + header_len part.message ≡ max
  pub end : part.last ≡ true → part.offset + part.n ≡ length (payload part.message)
  pub fits : part.n + header_len part.message ≤ max
  pub empty : part.n ≡ 0 → payload part.message ≡ []

abbrev pub FillsParts : Type 0
FillsParts = (q : Queue) (max : ℕ) (part : Part (Request (List ℕ))) → 128 ≤ max → IsWithinLimits q → next_part q max ≡ Some part → IsFilled max part

-- a Read is awaited from the time when its request is sent until it is finished, or given up as the oldest, whatever else is done
pub record AwaitsReads : Type 0 where
  pub sent : (q : Queue) (max : ℕ) (part : Part (Request (List ℕ))) → IsWithinLimits q → q.sent.first < 2 ^ 64 → next_part q max ≡ Some part → kind_of part.message ≡ kinds.Read
      → IsAwaited (part_sent q (Some part)).sent part.ticket
  pub others_sent : (q : Queue) (max ticket : ℕ) → IsAwaited q.sent ticket → IsAwaited (part_sent q (next_part q max)).sent ticket
  pub others_finished : (c : Outstanding) (ticket other : ℕ) → c.first < 2 ^ 64 → ticket < 2 ^ 64 → other < 2 ^ 64 → ticket ≢ other → IsAwaited c ticket → IsAwaited (finished c other) ticket
  pub handed_out : (q : Queue) (ticket : ℕ) → q.sent.first < 2 ^ 64 → ticket < 2 ^ 64 → IsAwaited q.sent ticket → IsAwaited (handed_from q (done_in q)).sent ticket
  pub others_given_up : (q : Queue) (ticket : ℕ) → q.sent.first < 2 ^ 64 → ticket < 2 ^ 64 → ticket ≢ q.sent.first → IsAwaited q.sent ticket → IsAwaited (handed_from q (oldest_in q)).sent ticket

-- ---- order
-- what kind of message each is that is not handed out, in posting order
abbrev pub kinds_in : Queue → List Kind
kinds_in q = map (λ m. m.kind) q.sent.messages ++ map kind_of q.unsent

-- a message that is handed out is the oldest, and has the oldest ticket; the next one has the next ticket
pub record IsHandedOut (q : Queue) (d : Done) : Type 0 where
  pub kind : kinds_in q ≡ d.kind ∷ kinds_in (handed_from q (Some d))
  pub ticket : d.ticket ≡ q.sent.first
  pub next : (handed_from q (Some d)).sent.first ≡ (q.sent.first + 1) % 2 ^ 64

-- messages are handed out in the order in which they were posted, finished or given up, in whatever order Reads finish
pub record KeepsOrder : Type 0 where
  pub posted : (q : Queue) (message : Request (List ℕ)) → kinds_in (posted q message) ≡ kinds_in q ++ kind_of message ∷ []
  pub sent : (q : Queue) (max : ℕ) → kinds_in (part_sent q (next_part q max)) ≡ kinds_in q
  pub finished : (q : Queue) (ticket : ℕ) → IsAwaited q.sent ticket → kinds_in (sent_with q (finished q.sent ticket)) ≡ kinds_in q
  pub done : (q : Queue) (d : Done) → done_in q ≡ Some d → IsHandedOut q d
  pub given_up : (q : Queue) (d : Done) → oldest_in q ≡ Some d → IsHandedOut q d
