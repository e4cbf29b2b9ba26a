-- Work comes to rest, in words of a stream's state: if nothing else is done at it, each call that is not idle takes something off what there is to do.
use Rattle.std.specs.Prelude.{◌≡◌, ℕ, ◌+◌, ◌-◌, ◌*◌, ◌<◌, ◌≤◌, is_some, false, if◌then◌else◌, length}
use Rattle.iw_memory.specs.Table.{Table}
use Rattle.iw_ranges.specs.Arrived.{has_come, window}
use Rattle.iw_locate.specs.Records.{AreApart, max_records}
use Rattle.iw_locate.specs.Keeping as frames
use Rattle.iw_queues.specs.declared.request.Kind.TheVariants.{Send}
use Rattle.iw_stream.specs.declared.answer.Step.TheVariants.{Done, Idle}
use Rattle.iw_stream.specs.Kept.{Keeps, IsWithin}
use Rattle.iw_stream.specs.Starting.{awaits_frame}
use Rattle.iw_stream.specs.Stream.{StreamState, ended, after_emit}
use Rattle.iw_stream.specs.Work.{scene, work_step, worked}
use Rattle.iw_endpoint.specs.Emptying.{sends_two}

-- what each stream keeps
pub record IsSound (s : StreamState) : Type 0 where
  pub within : IsWithin s
  pub keeps : Keeps s
  pub frames : frames.Keeps (scene s)
  pub apart : AreApart s.early

-- past the in-order point nothing came from this place on
abbrev pub NoneCame : StreamState → ℕ → Type 0
NoneCame s end = (p : ℕ) → s.arrived.floor ≤ p → end ≤ p → has_come s.arrived p ≡ false

-- at most so many calls: a turn for each place up to there, and before it a placement, and as many frames judged early as there may be records;
-- the peer's start-up frame; and each message that was sent and not handed out
abbrev pub calls_left : StreamState → ℕ → ℕ
calls_left s end =
    (end - s.arrived.floor) * (max_records + 2) + (max_records - length s.early) + (if is_some s.front then 0 else 1)
    + (if awaits_frame s.start then 1 else 0) + length s.queue.sent.messages

-- a step leaves fewer, and nothing more came
pub record LeavesLess (s left : StreamState) (end : ℕ) : Type 0 where
  pub less : calls_left left end < calls_left s end
  pub none : NoneCame left end

-- at any time nothing came past the window, and so few calls are left
pub record IsBounded (s : StreamState) : Type 0 where
  pub none : NoneCame s (s.arrived.floor + window)
  pub most : calls_left s (s.arrived.floor + window) ≤ window * (max_records + 2) + max_records + 2 + 256

pub record WorkLeavesLess : Type 0 where
  pub bounded : (s : StreamState) → IsSound s → IsBounded s
  pub less : (table : Table) (s : StreamState) (end : ℕ) → IsSound s → NoneCame s end → ¬ (work_step table s ≡ Idle)
      → ended (worked table s) ≡ false → LeavesLess s (worked table s) end

-- ---- worked by hand

-- a Send of two octets went out, and is to be handed out
abbrev pub sent_two : Table → StreamState
sent_two table = after_emit table sends_two

-- room for the records, a placement at the in-order point, and the message
pub record KnownCalls : Type 0 where
  pub before : (table : Table) → calls_left (sent_two table) 0 ≡ 4096 + 1 + 1
  pub step : (table : Table) → work_step table (sent_two table) ≡ Done Send
  pub after : (table : Table) → calls_left (worked table (sent_two table)) 0 ≡ 4096 + 1
  pub idle : (table : Table) → work_step table (worked table (sent_two table)) ≡ Idle

-- the message is told, and is still to be handed out
abbrev pub RefusesToldAgain : Type 0
RefusesToldAgain = (table : Table) → ¬ LeavesLess (sent_two table) (sent_two table) 0
