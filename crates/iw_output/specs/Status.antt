-- How a run of the program ends.
use Rattle.std.specs.Prelude.{ℕ}
use Rattle.iw_output.specs.declared.status.Status.{Status}
use Rattle.iw_output.specs.declared.status.Status.TheVariants.{Completed, Failed, Refused}

-- the exit status of the process
abbrev pub code_of : Status → ℕ
code_of Completed = 0
code_of Failed = 1
code_of Refused = 2

-- the status of two parts, one after the other
abbrev pub with : Status → Status → Status
with Completed later = later
with Failed later = Failed
with Refused later = Refused
