use Rattle.std.proofs.Common.{◌≡◌, ◌≤◌, true}
use Rattle.iw_endpoint.specs.Endpoint.{has_stream, point_at}
use Rattle.iw_connection.specs.Marking.{ProgressesMarked}
use Rattle.iw_connection.proofs.sharing.next_marked.Given as goal

abbrev pub invariant-steps : goal.invariant-steps
invariant-steps g l = record {
  progress : ProgressesMarked l.fn.endpoint l.number l.share l.mark l.n l.endpoint;
  there : has_stream l.endpoint l.number ≡ true;
  reach : point_at l.endpoint l.number ≤ l.reach;
}
