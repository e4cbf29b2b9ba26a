use Rattle.std.proofs.Common.{◌≡◌, ◌≤◌, ◌+◌, ◌*◌, ◌^◌}
use Rattle.iw_endpoint.specs.Endpoint.{point_at}
use Rattle.iw_connection.specs.Steps.{Progresses}
use Rattle.iw_server.proofs.effort.next_step.Given as goal

abbrev pub invariant-steps : goal.invariant-steps
invariant-steps l = record {
  progress : Progresses l.fn.endpoint l.number l.n l.endpoint;
  reach : point_at l.endpoint l.number ≤ l.point + l.n * 2 ^ 18;
  few : l.n-end ≤ 64;
  left : l.effort.left + l.n ≡ l.n-end;
  first : l.n-end ≡ l.fn.effort.left;
}
