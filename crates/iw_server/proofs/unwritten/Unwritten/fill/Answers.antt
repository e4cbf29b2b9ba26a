use Rattle.std.proofs.Common.{List, ℕ, drop, subst}
use Rattle.iw_server.specs.Unwritten.{Gathers}
use Rattle.iw_server.proofs.Left.{gathers}
use Rattle.iw_server.proofs.unwritten.Unwritten.fill.Goals as goal

pub returns-clause-gathers : goal.returns-clause-gathers
returns-clause-gathers c =
    subst (λ (left : List ℕ). Gathers c.args.endpoint.now c.args.stream left (drop c.self.inside.written c.fill.new.out.items) c.fill.new.endpoint) c.self.view_is
    (gathers c.args.endpoint.now c.fill.new.endpoint c.args.stream c.args.most _ c.self.inside.octets.items c.fill.new.out.items c.self.inside.written c.fill.result c.self.invariant c.fill.ensures.ok c.fill.ensures.err)
