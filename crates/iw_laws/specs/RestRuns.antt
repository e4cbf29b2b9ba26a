-- Runs that no two ends make: all came that was sent, there is nothing to do, and it has not arrived.
use Rattle.std.specs.Prelude.{◌≡◌, ℕ, zero, suc, [], ◌∷◌, ◌++◌, false, None}
use Rattle.iw_octets.specs.declared.message.Message.TheVariants as messages
use Rattle.iw_queues.specs.declared.request.Request.TheVariants.{Message as Posted}
use Rattle.iw_ranges.specs.declared.Delivery.TheVariants.{Kept}
use Rattle.iw_stream.specs.declared.answer.Role.TheVariants.{Preset}
use Rattle.iw_events.specs.declared.act.Act.{Act}
use Rattle.iw_events.specs.declared.act.StreamAct.TheVariants.{Deliver}
use Rattle.iw_events.specs.declared.act.Seen.TheVariants as seen
use Rattle.iw_events.specs.declared.call.End.TheVariants.{A, B}
use Rattle.iw_laws.specs.Words.{Octets, acts, stream_acts, posted, sent}
use Rattle.iw_laws.specs.Turns.{story_of}
use Rattle.iw_laws.specs.AtRest.{AllArrived, HasAll, sent_whole}
use Rattle.iw_laws.specs.Busy.{WorkComesToRest}
use Rattle.iw_laws.specs.WrongRuns.{Run, a, b, on, opens, works, sends_one, writes_one, sends_other, asks_one, emits, send_frame, write_frame, request_frame}

abbrev pub delivers : Octets → Act Octets
delivers octets = on (Deliver 0 0 octets Kept)

-- two Sends are posted, and the frame of the first goes out and comes, but no Send is received
abbrev pub receives_nothing : Run
receives_nothing =
    opens a Preset ++ opens b Preset ++ (a sends_one ∷ a sends_other ∷ a (emits send_frame) ∷ b (delivers send_frame) ∷ b (works seen.Idle) ∷ [])

-- of the two Sends the first alone was sent whole, and all came that was sent
pub record KnowsSentWhole : Type 0 where
  pub whole : sent_whole (story_of 0 (acts A receives_nothing)) (posted (stream_acts 0 (acts A receives_nothing))) ≡ Posted (messages.Send (0x68 ∷ []) false None) ∷ []
  pub came : HasAll false (story_of 0 (acts B receives_nothing)) (sent (stream_acts 0 (acts A receives_nothing)))

-- both are received, though the second was not sent
abbrev pub receives_unsent : Run
receives_unsent =
    opens a Preset ++ opens b Preset
    ++ (a sends_one ∷ a sends_other ∷ a (emits send_frame) ∷ b (delivers send_frame)
    ∷ b (works (seen.Received (0x68 ∷ []) false None)) ∷ b (works (seen.Received (0x69 ∷ []) false None)) ∷ b (works seen.Idle) ∷ [])

-- the frame of a Write goes out and comes, but is not placed
abbrev pub places_nothing : Run
places_nothing = opens a Preset ++ opens b Preset ++ (a writes_one ∷ a (emits write_frame) ∷ b (delivers write_frame) ∷ b (works seen.Idle) ∷ [])

-- the request of a Read goes out and comes, but is not taken up
abbrev pub asks_nothing : Run
asks_nothing = opens a Preset ++ opens b Preset ++ asks_one ++ (b (delivers request_frame) ∷ b (works seen.Idle) ∷ [])

abbrev pub RefusesNothingReceived : Type 0
RefusesNothingReceived = ¬ AllArrived receives_nothing

abbrev pub RefusesUnsentReceived : Type 0
RefusesUnsentReceived = ¬ AllArrived receives_unsent

abbrev pub RefusesNothingPlaced : Type 0
RefusesNothingPlaced = ¬ AllArrived places_nothing

abbrev pub RefusesNothingAsked : Type 0
RefusesNothingAsked = ¬ AllArrived asks_nothing

-- nothing came, and work answers Passed again and again
unfoldable pub passes : ℕ → Run
passes zero = []
passes (suc n) = b (works seen.Passed) ∷ passes n

abbrev pub never_rests : Run
never_rests = opens b Preset ++ passes 4098

abbrev pub RefusesNoRest : Type 0
RefusesNoRest = ¬ WorkComesToRest never_rests
