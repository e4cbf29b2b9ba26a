use Rattle.std.proofs.Common.{refl, ◌∙◌, ap}
use Rattle.iw_stream.specs.Fields.{state_of}
use Rattle.iw_stream.specs.Work.{waiting}
use Rattle.iw_stream.proofs.Early.{front_unplaced, scene_is}
use Rattle.iw_stream.proofs.stream.Stream.is_quiet.Goals as goal

pub is_quiet-requires-clause-turn : goal.is_quiet-requires-clause-turn
is_quiet-requires-clause-turn g c =
    let s = state_of c.self.inside in
    front_unplaced s c.self.inside.arrived (scene_is s c.self.inside.arrived c.self.invariant.layout c.self.invariant.base refl refl) c.limits.ensures.apart (ap waiting c.self.view_is ∙ c.requires.waiting)
