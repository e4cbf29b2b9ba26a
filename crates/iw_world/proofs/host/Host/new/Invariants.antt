use Rattle.std.proofs.Common.{◌≡◌, replicate, []}
use Rattle.iw_world.proofs.host.Host.new.Given as goal

abbrev pub invariant-loop-i : goal.invariant-loop-i
invariant-loop-i g l = l.wires.items ≡ replicate l._i []
