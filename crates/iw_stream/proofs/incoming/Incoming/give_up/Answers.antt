use Rattle.std.proofs.Common.{◌-◌, List, [], sym, ◌∙◌, subst, arith}
use Rattle.iw_ranges.specs.Arrived.{Arrived}
use Rattle.iw_locate.specs.declared.unsearched.Unsearched.{Unsearched}
use Rattle.iw_locate.specs.Free.{scene_of}
use Rattle.iw_locate.specs.Keeping.{Keeps}
use Rattle.iw_locate.specs.Unsearched.{Tells, nothing_from}
use Rattle.iw_locate.proofs.Emptied.{giving_up_keeps}
use Rattle.iw_stream.specs.Frames.{EarlyRecord}
use Rattle.iw_stream.specs.Incoming.{coming_of, scene_in}
use Rattle.iw_stream.proofs.incoming.Incoming.give_up.Goals as goal

pub overflow_sub-point : goal.overflow_sub-point
overflow_sub-point g c = omega (arith, c.self.invariant.keeps.based, c.floor.ensures.floor)

pub invariant_of-self : goal.invariant_of-self
invariant_of-self g c =
    let s = coming_of c.self.inside in
    let k = giving_up_keeps (scene_in s) c.self.invariant.keeps in
    let told = sym (c.gave_up.ensures ∙ (λ i. nothing_from (c.floor.ensures.floor i - s.base))) in
    record {
      keeps = subst (λ (rs : List EarlyRecord). Keeps (scene_of s.layout s.base c.give_up.new.self.arrived rs)) (sym c.give_up-2.ensures.records)
          (subst (λ (a : Arrived). Keeps (scene_of s.layout s.base a [])) (sym c.give_up.ensures.arrived) k.0);
      tells = subst (λ (u : Unsearched). Tells (scene_of s.layout s.base c.give_up.new.self.arrived c.give_up-2.new.self.records) u) told
          (subst (λ (rs : List EarlyRecord). Tells (scene_of s.layout s.base c.give_up.new.self.arrived rs) (nothing_from (s.arrived.floor - s.base))) (sym c.give_up-2.ensures.records)
          (subst (λ (a : Arrived). Tells (scene_of s.layout s.base a []) (nothing_from (s.arrived.floor - s.base))) (sym c.give_up.ensures.arrived) k.2));
    }
