use Rattle.std.proofs.Common.{refl}
use Rattle.iw_stream.specs.Incoming.{coming_of, scene_in}
use Rattle.iw_stream.proofs.incoming.Incoming.pass_judged.Goals as goal

pub invariant_of-self : goal.invariant_of-self
invariant_of-self g c = record {
  keeps = c.self.invariant.keeps;
  tells = c.pass_judged.ensures.tells (scene_in (coming_of c.self.inside)) refl c.self.invariant.tells;
}
