-- Emit comes to rest: if nothing else is done at a stream, each call that has something to emit takes something off what is to go out.
use Rattle.std.specs.Prelude.{◌≡◌, ℕ, ◌+◌, ◌-◌, ◌*◌, ◌<◌, ◌≤◌, false, is_some, None, if◌then◌else◌, List, [], ◌∷◌, length}
use Rattle.iw_memory.specs.Table.{Table}
use Rattle.iw_octets.specs.declared.message.Message.TheVariants.{Send}
use Rattle.iw_queues.specs.declared.request.Request.{Request}
use Rattle.iw_queues.specs.declared.request.Request.TheVariants.{Message}
use Rattle.iw_queues.specs.Request.{payload}
use Rattle.iw_reads.specs.declared.requests.Asked.{Asked}
use Rattle.iw_startup.specs.declared.config.Establishment.TheVariants.{Plain}
use Rattle.iw_stream.specs.declared.answer.Role.TheVariants.{Preset}
use Rattle.iw_stream.specs.Ending.{last_word}
use Rattle.iw_stream.specs.Kept.{IsWithin}
use Rattle.iw_stream.specs.Stream.{StreamState, opened, with_request, ended, owes_frame, rtr_due, due, is_none_due, after_emit}

-- at most a frame for each octet of these messages, and one for each that has none
abbrev pub frames_of_posts : List (Request (List ℕ)) → ℕ
frames_of_posts [] = 0
frames_of_posts (message ∷ messages) = length (payload message) + 1 + frames_of_posts messages

-- and of the responses to these Reads
abbrev pub frames_of_answers : List Asked → ℕ
frames_of_answers [] = 0
frames_of_answers (asked ∷ beyond) = asked.request.size + 1 + frames_of_answers beyond

-- so many frames go out at most: of what was posted, of the responses, the RTR, this end's start-up frame, and a Terminate. What is to come
-- before others counts for what follows it.
abbrev pub frames_left : StreamState → ℕ
frames_left s =
    (frames_of_posts s.queue.unsent - s.queue.offset) + (frames_of_answers s.asked.unanswered - s.asked.fetched)
    + (if is_some (rtr_due s) then 1 else 0) + (if owes_frame s then 2 else 0)
    + (if is_some (last_word s.ending) then 1 else 0) + (if ended s then 0 else 2)

-- a step leaves fewer of them; and at any time they are bounded by the limits of a queue, and by what the peer asks for
pub record LeavesFewer (s left : StreamState) : Type 0 where
  pub fewer : frames_left left < frames_left s
  pub most : frames_left s ≤ 256 * 16777217 + frames_of_answers s.asked.unanswered + 6

-- within the limits that each stream keeps: a call to emit leaves fewer, or nothing is due
abbrev pub EmitComesToRest : Type 0
EmitComesToRest = (table : Table) (s : StreamState) → IsWithin s → is_none_due (due s) ≡ false → LeavesFewer s (after_emit table s)

-- ---- worked by hand

-- a stream that is open at once, at which a Send of two octets was posted
abbrev pub sends_two : StreamState
sends_two = with_request (opened 1 Preset (record { markers = false; crc = false; establishment = Plain; private = record { items = [] } })) (Message (Send (0x68 ∷ 0x69 ∷ []) false None))

-- its one frame goes out, and the Send is still to be sent
abbrev pub sends_again : StreamState
sends_again = record sends_two { sent = 28 }

pub record KnownFrames : Type 0 where
  pub before : frames_left sends_two ≡ 5
  pub after : (table : Table) → frames_left (after_emit table sends_two) ≡ 2

abbrev pub RefusesSentAgain : Type 0
RefusesSentAgain = ¬ LeavesFewer sends_two sends_again
