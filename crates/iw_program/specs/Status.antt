-- How the program ends.
use Rattle.std.specs.Prelude.{List, ℕ, Bool, true, false, if◌then◌else◌}
use Rattle.std.specs.List.{list_any}
use Rattle.iw_events.specs.declared.act.Act.{Act}
use Rattle.iw_events.specs.declared.act.Act.TheVariants as acts
use Rattle.iw_events.specs.declared.act.StreamAct.{StreamAct}
use Rattle.iw_events.specs.declared.act.StreamAct.TheVariants as stream_acts
use Rattle.iw_events.specs.declared.act.Shown.{Shown}
use Rattle.iw_events.specs.declared.act.Shown.TheVariants as shown
use Rattle.iw_events.specs.declared.act.Seen.{Seen}
use Rattle.iw_events.specs.declared.act.Seen.TheVariants as seen
use Rattle.iw_events.specs.declared.act.Entry.{Entry}
use Rattle.iw_output.specs.declared.status.Status.{Status}
use Rattle.iw_output.specs.declared.status.Status.TheVariants.{Completed, Failed, Refused}
use Rattle.iw_program.specs.declared.fault.ReplayFault.{ReplayFault}
use Rattle.iw_program.specs.declared.fault.ReplayFault.TheVariants as faults

-- a step of work found a fault, or one in the peer's start-up frame, or the peer's Terminate
abbrev pub sees_fault : Seen (List ℕ) → Bool
sees_fault (seen.Done kind) = false
sees_fault (seen.Flushed kind) = false
sees_fault (seen.FlushedRecv octets) = false
sees_fault (seen.Asked told private) = false
sees_fault (seen.Opened agreed told private) = false
sees_fault (seen.Closed fault) = true
sees_fault (seen.Placed right stag to octets) = false
sees_fault (seen.Buffered msn mo len) = false
sees_fault (seen.Requested size stag to) = false
sees_fault (seen.Tried place) = false
sees_fault seen.Passed = false
sees_fault (seen.Received octets solicited invalidate) = false
sees_fault (seen.Terminated fault) = true
sees_fault (seen.Fault fault) = true
sees_fault seen.Idle = false

-- a Read Response could not be sent: the peer may not read what it asked for
abbrev pub shows_fault : Shown (List ℕ) → Bool
shows_fault (shown.Frame from octets) = false
shows_fault (shown.Fetched from frame stag to octets) = false
shows_fault (shown.Fault fault) = true
shows_fault shown.Nothing = false

abbrev pub stream_faults : StreamAct (List ℕ) → Bool
stream_faults (stream_acts.Recv len refused) = false
stream_faults (stream_acts.Post message refused) = false
stream_faults (stream_acts.Emit shown) = shows_fault shown
stream_faults (stream_acts.First number refused) = false
stream_faults (stream_acts.Deliver from number octets delivery) = false
stream_faults (stream_acts.Raw number octets delivery) = false
stream_faults (stream_acts.Mulpdu size refused) = false
stream_faults (stream_acts.Accept private answer) = false
stream_faults (stream_acts.Reject private refused) = false
stream_faults (stream_acts.Work seen) = sees_fault seen
stream_faults stream_acts.Break = false

abbrev pub act_faults : Act (List ℕ) → Bool
act_faults (acts.Domain pd refused) = false
act_faults (acts.Register pd base rights octets answer) = false
act_faults (acts.Deregister stag answer) = false
act_faults (acts.Invalidate stag refused) = false
act_faults (acts.Store stag to octets refused) = false
act_faults (acts.Open stream pd role options private refused) = false
act_faults (acts.Share pd refused) = false
act_faults (acts.Pool pd len refused) = false
act_faults (acts.Unpool pd answer) = false
act_faults (acts.OpenShared stream pd role options private refused) = false
act_faults (acts.Stream stream act) = stream_faults act

-- a stream ended by a fault, here or at the peer
abbrev pub is_fault : Entry (List ℕ) → Bool
is_fault entry = act_faults entry.act

abbrev pub status_of : List (Entry (List ℕ)) → Status
status_of trace = if list_any is_fault trace then Failed else Completed

abbrev pub stopped_status : ReplayFault → Status
stopped_status (faults.Refused refusal) = Refused
stopped_status faults.Input = Failed
stopped_status faults.Output = Failed
