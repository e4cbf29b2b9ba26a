-- How the faults of a replay print.
use Rattle.std.specs.Prelude.{ℕ, List, ◌++◌, codes}
use Rattle.std.specs.Fmt.{decimal}
use Rattle.iw_schedules.specs.FaultText as schedules
use Rattle.iw_laws.specs.declared.fault.WorldFault.{WorldFault}
use Rattle.iw_laws.specs.declared.fault.WorldFault.TheVariants as worlds
use Rattle.iw_program.specs.declared.fault.Refusal.{Refusal}
use Rattle.iw_program.specs.declared.fault.Refusal.TheVariants.{Schedule, World, NoMemory}
use Rattle.iw_program.specs.declared.fault.ReplayFault.{ReplayFault}
use Rattle.iw_program.specs.declared.fault.ReplayFault.TheVariants.{Refused, Input, Output}

abbrev pub world_text : WorldFault → List ℕ
world_text (worlds.NotSent event) = codes "event " ++ decimal event ++ codes ": NotSent"
world_text (worlds.NoSuchStream event) = codes "event " ++ decimal event ++ codes ": NoSuchStream"
world_text worlds.NoMemory = codes "no memory"

abbrev pub refusal_text : Refusal → List ℕ
refusal_text (Schedule fault) = schedules.fault_text fault
refusal_text (World fault) = world_text fault
refusal_text NoMemory = codes "no memory"

abbrev pub fault_text : ReplayFault → List ℕ
fault_text (Refused refusal) = refusal_text refusal
fault_text Input = codes "the schedule could not be read"
fault_text Output = codes "the trace could not be written"
