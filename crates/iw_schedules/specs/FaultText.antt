-- How faults of a schedule print.
use Rattle.std.specs.Prelude.{ℕ, List, ◌++◌, codes}
use Rattle.std.specs.Fmt.{decimal}
use Rattle.iw_schedules.specs.declared.fault.FaultName.{FaultName}
use Rattle.iw_schedules.specs.declared.fault.FaultName.TheVariants.{BadWord, BadNumber, BadOctets, TooMany}
use Rattle.iw_schedules.specs.declared.fault.ScheduleFault.{ScheduleFault}
use Rattle.iw_schedules.specs.declared.fault.ScheduleFault.TheVariants.{Line, NoMemory}

abbrev pub fault_name : FaultName → List ℕ
fault_name BadWord = codes "BadWord"
fault_name BadNumber = codes "BadNumber"
fault_name BadOctets = codes "BadOctets"
fault_name TooMany = codes "TooMany"

abbrev pub fault_text : ScheduleFault → List ℕ
fault_text (Line line name) = codes "line " ++ decimal line ++ codes ": " ++ fault_name name
fault_text NoMemory = codes "no memory"
