use Rattle.std.proofs.Common.{sym, subst}
use Rattle.iw_events.specs.declared.call.End.TheVariants.{A, B}
use Rattle.iw_laws.specs.Rules.{State, end_of}
use Rattle.iw_laws.specs.Bounds.{IsShortEnd}
use Rattle.iw_world.proofs.world.World.serve_one.Goals as goal

pub serve-requires-clause-short : goal.serve-requires-clause-short
serve-requires-clause-short g c = subst (λ (w : State). IsShortEnd (end_of A w)) (sym c.self.view_is) (c.requires A)

pub serve-requires-clause-peer : goal.serve-requires-clause-peer
serve-requires-clause-peer g c = subst (λ (w : State). IsShortEnd (end_of B w)) (sym c.self.view_is) (c.requires B)

pub serve-requires-in-B-clause-short : goal.serve-requires-in-B-clause-short
serve-requires-in-B-clause-short g c = subst (λ (w : State). IsShortEnd (end_of B w)) (sym c.self.view_is) (c.requires B)

pub serve-requires-in-B-clause-peer : goal.serve-requires-in-B-clause-peer
serve-requires-in-B-clause-peer g c = subst (λ (w : State). IsShortEnd (end_of A w)) (sym c.self.view_is) (c.requires A)
