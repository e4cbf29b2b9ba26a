-- How the program ends.
use Rattle.std.specs.Prelude.{List, [], ◌∷◌, None, true, if◌then◌else◌}
use Rattle.iw_output.specs.declared.status.Status.{Status}
use Rattle.iw_output.specs.declared.status.Status.TheVariants.{Completed, Failed, Refused}
use Rattle.iw_output.specs.Status.{with}
use Rattle.iw_links.specs.declared.report.Report.{Report}
use Rattle.iw_links.specs.Exchange.{is_completed}
use Rattle.iw_commands.specs.declared.fault.CommandFault.{CommandFault}
use Rattle.iw_commands.specs.declared.fault.CommandFault.TheVariants.{Port, Program, Output, NoMemory}

-- the report of a connection that could not be made
abbrev pub unmade : Report
unmade = record { received = None; ended = None; broken = true }

-- after one connection
abbrev pub report_status : Report → Status
report_status report = if is_completed report then Completed else Failed

-- after connections one after the other
abbrev pub status_of : List Report → Status
status_of [] = Completed
status_of (report ∷ reports) = with (report_status report) (status_of reports)

-- after a command that stopped before its end
abbrev pub fault_status : CommandFault → Status
fault_status Port = Failed
fault_status Program = Failed
fault_status Output = Failed
fault_status NoMemory = Refused
