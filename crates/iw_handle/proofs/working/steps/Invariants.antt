use Rattle.std.proofs.Common.{◌≡◌, ℕ, ◌<◌, ◌≤◌, true}
use Rattle.iw_endpoint.specs.Endpoint.{has_stream, point_at}
use Rattle.iw_handle.specs.Steps.{GoesQuietly, after_steps}
use Rattle.iw_handle.proofs.working.steps.Given as goal

abbrev pub invariant-steps : goal.invariant-steps
invariant-steps l = record {
  few : l.n ≤ l.most;
  quiet : (k : ℕ) → k < l.n → GoesQuietly (after_steps k l.fn.held l.number) l.number;
  same : l.event ≡ l.fn.event;
  left : l.held ≡ after_steps l.n l.fn.held l.number;
  there : has_stream l.held.endpoint l.number ≡ true;
  reach : point_at l.held.endpoint l.number ≤ l.reach;
}
