use Rattle.std.proofs.Common.{◌≡◌}
use Rattle.iw_server.proofs.serving.serve_round.Given as goal

abbrev pub invariant-turns : goal.invariant-turns
invariant-turns g l = l.server.begun ≡ l.fn.server.begun
