-- Work comes to rest: if nothing else is done at a stream that runs, each step that is not idle takes something off what there is to do.
use Rattle.std.specs.Prelude.{◌≡◌, ℕ, ◌+◌, ◌-◌, ◌*◌, ◌≤◌, ◌&&◌, is_some, if◌then◌else◌, Bool, true, false, List, [], ◌∷◌, ◌++◌, length}
use Rattle.iw_ranges.specs.Arrived.{window}
use Rattle.iw_locate.specs.Records.{max_records}
use Rattle.iw_stream.specs.Starting.{awaits_frame}
use Rattle.iw_events.specs.declared.call.End.{End}
use Rattle.iw_events.specs.declared.act.Act.{Act}
use Rattle.iw_events.specs.declared.act.StreamAct.{StreamAct}
use Rattle.iw_events.specs.declared.act.StreamAct.TheVariants.{Work}
use Rattle.iw_events.specs.declared.act.Seen.{Seen}
use Rattle.iw_events.specs.declared.act.Seen.TheVariants as seen
use Rattle.iw_events.specs.declared.act.Entry.{Entry}
use Rattle.iw_laws.specs.Words.{Octets, acts, deed, was_opened, openings, stream_acts, ended, posted, handed_kinds}
use Rattle.iw_laws.specs.Turns.{Story, story_alone, next_frame, in_order_point}

-- ---- what there is to do

-- so many places lie past the in-order point, up to that of the last octet that came
abbrev pub places_ahead : Story → ℕ
places_ahead t = if awaits_frame t.start then length t.came.cells else length t.came.cells - in_order_point t

-- the frame whose turn is next was placed
abbrev pub waits : Story → Bool
waits t = t.placed && is_some (next_frame t)

-- the peer's start-up frame is to be read, or a frame to be placed at the in-order point
abbrev pub front_steps : Story → ℕ
front_steps t = if awaits_frame t.start then 2 else if waits t then 0 else 1

-- the messages that were posted and not handed back
abbrev pub messages_left : List (StreamAct Octets) → ℕ
messages_left done = length (posted done) - length (handed_kinds done)

-- at most so many steps: a turn for each place ahead, and before each turn a placement, and as many frames judged early as there may be
-- records; and each message that was posted may be finished
abbrev pub steps_left : Story → ℕ → ℕ
steps_left t messages = places_ahead t * (max_records + 2) + (max_records - length t.early) + front_steps t + messages

-- with all places of a window ahead
abbrev pub most_steps : ℕ
most_steps = window * (max_records + 2) + max_records + 2

abbrev pub steps_at : ℕ → List (Act Octets) → ℕ
steps_at n done = steps_left (story_alone n done) (messages_left (stream_acts n done))

-- ---- the law

-- a step of work that is not idle, and by which the stream does not end
pub record IsBusy (act : StreamAct Octets) : Type 0 where
  pub step : Seen Octets
  pub is : act ≡ Work step
  pub busy : ¬ (step ≡ seen.Idle)
  pub runs : (deed (Work step)).ends ≡ false

abbrev pub AreBusy : List (StreamAct Octets) → Type 0
AreBusy [] = Unit {0}
AreBusy (act ∷ done) = IsBusy act × AreBusy done

-- after the entries `past` so many steps were left that what these others did at the stream is no more than is gone of them
pub record UsesSteps (x : End) (n : ℕ) (past others : List (Entry Octets)) : Type 0 where
  pub used : length (stream_acts n (acts x others)) + steps_at n (acts x (past ++ others)) ≤ steps_at n (acts x past)
  pub most : steps_at n (acts x past) ≤ most_steps + messages_left (stream_acts n (acts x past))

-- at a stream that was opened and has not ended: if nothing but steps of work is done at it, whatever is done elsewhere, then after at most
-- `most_steps` of them, and one more for each message that was posted and not handed back, there is nothing to do, or the stream has ended
abbrev pub WorkComesToRest : List (Entry Octets) → Type 0
WorkComesToRest trace =
    (past others future : List (Entry Octets)) → trace ≡ past ++ (others ++ future) → (x : End) (n : ℕ) → was_opened (openings n (acts x past)) ≡ true
    → ended (stream_acts n (acts x past)) ≡ false → AreBusy (stream_acts n (acts x others)) → UsesSteps x n past others
