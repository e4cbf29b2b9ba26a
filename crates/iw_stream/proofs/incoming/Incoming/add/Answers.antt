use Rattle.std.proofs.Common.{◌≡◌, ◌+◌, ◌-◌, length, sym, ap, ◌∙◌, subst, arith, inl, inr}
use Rattle.std.proofs.lemmas.Bool.{cases_lt}
use Rattle.iw_ranges.specs.declared.Delivery.TheVariants.{Kept}
use Rattle.iw_ranges.specs.Arrived.{Arrived, delivery, has_come}
use Rattle.iw_locate.specs.declared.unsearched.Unsearched.{Unsearched}
use Rattle.iw_locate.specs.Free.{scene_of}
use Rattle.iw_locate.specs.Keeping.{Keeps}
use Rattle.iw_locate.specs.Unsearched.{Tells, with_octets}
use Rattle.iw_locate.proofs.Delivering.{delivery_keeps}
use Rattle.iw_stream.specs.Incoming.{Coming, IsTracked, coming_of, scene_in}
use Rattle.iw_stream.proofs.Again.{delivered_again}
use Rattle.iw_stream.proofs.Arriving.{kept_near, delivered_dropped}
use Rattle.iw_stream.proofs.incoming.Incoming.add.Goals as goal

pub overflow_add-place : goal.overflow_add-place
overflow_add-place g c =
    let n = length c.args.octets.now in
    let a = c.self.inside.islands.arrived in
    let kept : delivery a c.args.place n ≡ Kept = sym c.in-Ok-Kept.ensures.answer ∙ c.in-Ok-Kept.field-0-is in
    elim (cases_lt 0 n) [ inl some ↦ omega (arith, kept_near a c.args.place n kept some, c.limits.ensures.floor) | inr none ↦ omega (arith, none, c.ranges.place.fits) ]

pub invariant_of-self-in-Ok-Kept : goal.invariant_of-self-in-Ok-Kept
invariant_of-self-in-Ok-Kept g c =
    let s = coming_of c.self.inside in
    let n = length c.args.octets.now in
    let kept : delivery s.arrived c.args.place n ≡ Kept = sym c.in-Ok-Kept.ensures.answer ∙ c.in-Ok-Kept.field-0-is in
    let d = delivery_keeps (scene_in s) s.unsearched c.args.place c.args.octets.now c.self.invariant.keeps c.self.invariant.tells kept (λ k. omega (arith, c.type_inv.octets k)) in
    let there = sym c.in-Ok-Kept.ensures.ok in
    let told = sym (c.delivered.ensures ∙ (λ i. with_octets s.unsearched (c.saturating_sub-from.ensures i) (c.saturating_sub-to.ensures i))) in
    record {
      keeps = subst (λ (a : Arrived). Keeps (scene_of s.layout s.base a s.early)) there d.0;
      tells = subst (λ (u : Unsearched). Tells (scene_of s.layout s.base c.add.new.self.arrived s.early) u) told
          (subst (λ (a : Arrived). Tells (scene_of s.layout s.base a s.early) (with_octets s.unsearched (c.args.place - s.base) (c.args.place + n - s.base))) there d.1);
    }

-- nothing new came
pub invariant_of-self : goal.invariant_of-self
invariant_of-self g c =
    let s = coming_of c.self.inside in
    let n = length c.args.octets.now in
    let kept : delivery s.arrived c.args.place n ≡ Kept = sym c.in-Ok-Kept.ensures.answer ∙ c.in-Ok-Kept.field-0-is in
    let same = c.in-Ok-Kept.ensures.ok ∙ delivered_again s.arrived c.args.place c.args.octets.now
    (λ p low high. ap (λ (v : Coming). has_come v.arrived p) c.self.view_is ∙ c.has_come-came.ensures c.if-came.true p low high (omega (arith, high, kept_near s.arrived c.args.place n kept (omega (arith, low, high)), c.limits.ensures.floor))) in
    let t = subst (λ (a : Arrived). IsTracked (record s { arrived = a })) (sym same) c.self.invariant in
    record { keeps = t.keeps; tells = t.tells }

pub invariant_of-self-in-Ok-Dropped : goal.invariant_of-self-in-Ok-Dropped
invariant_of-self-in-Ok-Dropped g c =
    let s = coming_of c.self.inside in
    let same = c.in-Ok-Dropped.ensures.ok ∙ delivered_dropped s.arrived c.args.place c.args.octets.now (sym c.in-Ok-Dropped.ensures.answer ∙ c.in-Ok-Dropped.field-0-is) in
    let t = subst (λ (a : Arrived). IsTracked (record s { arrived = a })) (sym same) c.self.invariant in
    record { keeps = t.keeps; tells = t.tells }
