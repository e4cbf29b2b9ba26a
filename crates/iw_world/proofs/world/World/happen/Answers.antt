use Rattle.std.proofs.Common.{sym, subst}
use Rattle.iw_events.specs.declared.call.End.TheVariants.{A, B}
use Rattle.iw_laws.specs.Rules.{State, end_of}
use Rattle.iw_laws.specs.Bounds.{IsShortEnd}
use Rattle.iw_world.proofs.world.World.happen.Goals as goal

pub act-requires-clause-short : goal.act-requires-clause-short
act-requires-clause-short g c = subst (λ (w : State). IsShortEnd (end_of A w)) (sym c.self.view_is) (c.requires A)

pub act-requires-clause-peer : goal.act-requires-clause-peer
act-requires-clause-peer g c = subst (λ (w : State). IsShortEnd (end_of B w)) (sym c.self.view_is) (c.requires B)

pub act-requires-in-B-clause-short : goal.act-requires-in-B-clause-short
act-requires-in-B-clause-short g c = subst (λ (w : State). IsShortEnd (end_of B w)) (sym c.self.view_is) (c.requires B)

pub act-requires-in-B-clause-peer : goal.act-requires-in-B-clause-peer
act-requires-in-B-clause-peer g c = subst (λ (w : State). IsShortEnd (end_of A w)) (sym c.self.view_is) (c.requires A)
