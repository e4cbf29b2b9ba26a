use Rattle.iw_server.proofs.Stepping.{HasActed}
use Rattle.iw_server.proofs.acting.act_within.Given as goal

abbrev pub invariant-steps : goal.invariant-steps
invariant-steps l = HasActed l.fn.endpoint l.fn.connection l.endpoint l.connection
