use Rattle.std.proofs.Common.{◌≤◌}
use Rattle.iw_server.proofs.serving.serve_all.Given as goal

abbrev pub invariant-rounds : goal.invariant-rounds
invariant-rounds g l = l.server.begun ≤ l.count
