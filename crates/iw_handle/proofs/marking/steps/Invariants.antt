use Rattle.std.proofs.Common.{◌≡◌, ℕ, ◌-◌, ◌<◌, ◌≤◌, true, false}
use Rattle.iw_endpoint.specs.Endpoint.{has_stream, point_at}
use Rattle.iw_handle.specs.Marking.{marks_at}
use Rattle.iw_handle.specs.Sharing.{GoesQuietlyWithin, after_steps_within}
use Rattle.iw_handle.proofs.marking.steps.Given as goal

abbrev pub invariant-steps : goal.invariant-steps
invariant-steps l = record {
  few : l.before ≤ l.most;
  quiet : (k : ℕ) → k < l.before → GoesQuietlyWithin (after_steps_within k l.fn.held l.number l.share) l.number l.share;
  unmarked : (k : ℕ) → k < l.before → marks_at (after_steps_within k l.fn.held l.number l.share) l.number l.share l.mark ≡ false;
  same : l.event ≡ l.fn.event;
  left : l.held ≡ after_steps_within l.before l.fn.held l.number l.share;
  there : has_stream l.held.endpoint l.number ≡ true;
  reach : point_at l.held.endpoint l.number ≤ l.reach;
}

abbrev pub decreases-steps : goal.decreases-steps
decreases-steps l = l.most - l.before
