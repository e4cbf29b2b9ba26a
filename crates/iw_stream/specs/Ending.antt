-- How a stream stands to its end.
use Rattle.std.specs.Prelude.{ℕ, Bool, true, false, List, Option, Some, None}
use Rattle.iw_stream.specs.declared.ending.Ending.{Ending}
use Rattle.iw_stream.specs.declared.ending.Ending.TheVariants.{Runs, Over, Broken}

abbrev pub has_ended : Ending → Bool
has_ended Runs = false
has_ended (Over terminate) = true
has_ended Broken = true

abbrev pub is_broken : Ending → Bool
is_broken Runs = false
is_broken (Over terminate) = false
is_broken Broken = true

-- the payload of the Terminate that is still to be emitted, if one is due
abbrev pub last_word : Ending → Option (List ℕ)
last_word Runs = None
last_word (Over None) = None
last_word (Over (Some payload)) = Some payload.items
last_word Broken = None

-- a Terminate with this payload is due
abbrev pub with_last_word : List ℕ → Ending
with_last_word payload = Over (Some (record { items = payload }))
