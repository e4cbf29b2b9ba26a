use Rattle.std.specs.Prelude.{IfSome}
use Rattle.slab.specs.Slab.{get}
use Rattle.iw_server.specs.Lateness.{IsStarting}
use Rattle.iw_server.proofs.places.longest_starting.Given as goal

abbrev pub invariant-keys : goal.invariant-keys
invariant-keys g l = IfSome l.longest (λ found. IsStarting (get l.places found.0))
