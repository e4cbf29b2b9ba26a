-- Which steps are of use.
use Rattle.std.specs.Prelude.{ℕ, Bool, true, false, nat_lt, List}
use Rattle.iw_stream.specs.declared.answer.Step.{Step}
use Rattle.iw_stream.specs.declared.answer.Step.TheVariants as steps

-- the step places octets, receives a Send, or opens the stream
abbrev pub is_of_use : Step (List ℕ) → Bool
is_of_use (steps.Done kind) = false
is_of_use (steps.Flushed kind) = false
is_of_use (steps.FlushedRecv buffer) = false
is_of_use steps.Asked = true
is_of_use (steps.Opened agreed) = true
is_of_use (steps.Closed fault) = false
is_of_use (steps.Placed right stag to len) = nat_lt 0 len
is_of_use (steps.Buffered msn mo len) = nat_lt 0 len
is_of_use (steps.Requested size stag to) = false
is_of_use (steps.Tried place) = false
is_of_use steps.Passed = false
is_of_use (steps.Received buffer len solicited invalidate) = true
is_of_use (steps.Terminated fault) = false
is_of_use (steps.Fault fault) = false
is_of_use steps.Idle = false
