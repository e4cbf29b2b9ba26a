use Rattle.std.proofs.Common.{◌-◌, List, sym, subst}
use Rattle.iw_ranges.specs.Arrived.{Arrived}
use Rattle.iw_stream.specs.Incoming.{Coming, coming_of, scene_in}
use Rattle.iw_locate.specs.Free.{scene_of}
use Rattle.iw_locate.specs.Records.{kept_from}
use Rattle.iw_locate.specs.Keeping.{Keeps, IsPassed}
use Rattle.iw_locate.specs.Unsearched.{Tells}
use Rattle.iw_locate.proofs.Turning.{turn_keeps}
use Rattle.iw_stream.specs.Frames.{EarlyRecord}
use Rattle.iw_stream.proofs.incoming.Incoming.advance.Goals as goal

pub invariant_of-self : goal.invariant_of-self
invariant_of-self g c =
    let s = coming_of c.self.inside in
    let passed = subst (λ (x : Coming). IsPassed (scene_in x) c.args.place) (sym c.self.view_is) c.requires.passed in
    let t = turn_keeps (scene_in s) s.unsearched c.passed.new.self c.args.place c.self.invariant.keeps c.self.invariant.tells passed c.passed.ensures in
    record {
      keeps = subst (λ (rs : List EarlyRecord). Keeps (scene_of s.layout s.base c.advance.new.self.arrived rs)) (sym c.drop_to.ensures.records)
          (subst (λ (a : Arrived). Keeps (scene_of s.layout s.base a (kept_from (c.args.place - s.base) s.early))) (sym c.advance.ensures.arrived) t.0);
      tells = subst (λ (rs : List EarlyRecord). Tells (scene_of s.layout s.base c.advance.new.self.arrived rs) c.passed.new.self) (sym c.drop_to.ensures.records)
          (subst (λ (a : Arrived). Tells (scene_of s.layout s.base a (kept_from (c.args.place - s.base) s.early)) c.passed.new.self) (sym c.advance.ensures.arrived) t.1);
    }
