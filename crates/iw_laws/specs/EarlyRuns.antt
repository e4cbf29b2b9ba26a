-- Runs that no two ends make, each of which breaks a law of frames that are placed before their turn, or once.
use Rattle.std.specs.Prelude.{[], ◌∷◌, ◌++◌, true, None}
use Rattle.iw_octets.specs.declared.fault.TheConstants.Fault as faults
use Rattle.iw_stream.specs.declared.answer.Role.TheVariants.{Preset}
use Rattle.iw_events.specs.declared.act.Act.TheVariants.{Domain, Invalidate, Open}
use Rattle.iw_events.specs.declared.act.StreamAct.TheVariants.{Recv}
use Rattle.iw_events.specs.declared.act.Seen.TheVariants as seen
use Rattle.iw_laws.specs.Early.{JudgesEarly, ChecksOnce}
use Rattle.iw_laws.specs.Once.{PlacesOnce}
use Rattle.iw_events.specs.declared.call.Options.{Options}
use Rattle.iw_laws.specs.WrongRuns.{Run, b, on, no_options, opens, registers, raw, works, write_frame, send_frame, places, stag}

-- markers, by revision 1
abbrev pub asks_markers : Options
asks_markers = record no_options { markers = true }

-- a marker and the frame of a Write past it came, and nothing before it: the stream is idle
abbrev pub idles_while_free : Run
idles_while_free =
    b (Domain 1 None) ∷ b (Open 0 1 Preset asks_markers [] None) ∷ b (raw 512 ((0 ∷ 0 ∷ 0 ∷ 0 ∷ []) ++ write_frame)) ∷ b (works seen.Idle) ∷ []

-- a marker and the frame of a Send past it came, and nothing before it; a buffer is posted, but the frame is left
abbrev pub tries_send : Run
tries_send =
    b (Domain 1 None) ∷ b (Open 0 1 Preset asks_markers [] None) ∷ b (on (Recv 1 None))
    ∷ b (raw 512 ((0 ∷ 0 ∷ 0 ∷ 0 ∷ []) ++ send_frame)) ∷ b (works (seen.Tried 516)) ∷ []

-- a frame that was placed is denied at its turn, since its region was invalidated
abbrev pub checks_again : Run
checks_again =
    opens b Preset ++ (b registers ∷ b (raw 0 write_frame) ∷ b (works places) ∷ b (Invalidate stag None) ∷ b (works (seen.Fault faults.TAGGED_INVALID_STAG)) ∷ [])

-- a frame is placed twice
abbrev pub places_twice : Run
places_twice = opens b Preset ++ (b registers ∷ b (raw 0 write_frame) ∷ b (works places) ∷ b (works places) ∷ [])

abbrev pub RefusesIdleWhileFree : Type 0
RefusesIdleWhileFree = ¬ JudgesEarly idles_while_free

abbrev pub RefusesTriedSend : Type 0
RefusesTriedSend = ¬ JudgesEarly tries_send

abbrev pub RefusesSecondCheck : Type 0
RefusesSecondCheck = ¬ ChecksOnce checks_again

abbrev pub RefusesSecondPlacement : Type 0
RefusesSecondPlacement = ¬ PlacesOnce places_twice
