use Rattle.std.proofs.Common.{◌≡◌, ◌≤◌, true}
use Rattle.iw_endpoint.specs.Endpoint.{has_stream, point_at}
use Rattle.iw_connection.specs.Within.{ProgressesWithin}
use Rattle.iw_connection.proofs.sharing.next_within.Given as goal

abbrev pub invariant-steps : goal.invariant-steps
invariant-steps g l = record {
  progress : ProgressesWithin l.fn.endpoint l.number l.share l.n l.endpoint;
  there : has_stream l.endpoint l.number ≡ true;
  reach : point_at l.endpoint l.number ≤ l.reach;
}
