use Rattle.std.proofs.Common.{sym, ap, ◌∙◌, subst, arith}
use Rattle.iw_locate.specs.Lowest.{early_place}
use Rattle.iw_locate.specs.Keeping.{IsFrontUnplaced}
use Rattle.iw_locate.proofs.Starting.{kept_can_locate}
use Rattle.iw_stream.specs.Incoming.{Coming, coming_of, scene_in}
use Rattle.iw_stream.proofs.Arriving.{none_placed}
use Rattle.iw_stream.proofs.incoming.Incoming.is_quiet.Goals as goal

pub is_quiet-requires-clause-can : goal.is_quiet-requires-clause-can
is_quiet-requires-clause-can g c =
    kept_can_locate (scene_in (coming_of c.self.inside)) c.self.invariant.keeps (omega (arith, ap (λ (s : Coming). s.arrived.floor) c.self.view_is, c.requires.low)) (subst (λ (s : Coming). IsFrontUnplaced (scene_in s)) (sym c.self.view_is) c.requires.turn)

pub returns : goal.returns
returns g c = λ test. ap (λ (s : Coming). early_place (scene_in s)) (sym c.self.view_is) ∙ none_placed (scene_in (coming_of c.self.inside)) c.self.invariant.keeps.based (c.is_quiet.ensures test)
