use Rattle.std.proofs.Common.{◌≡◌, ◌+◌, true, List, sym, ap, ◌∙◌, subst, arith}
use Rattle.iw_ranges.specs.Arrived.{Arrived, released}
use Rattle.iw_fpdu.specs.Places.{span_start}
use Rattle.iw_locate.specs.declared.frame.Next.TheVariants.{Frame as Found}
use Rattle.iw_locate.specs.declared.judged.State.TheVariants.{Tried, Placed}
use Rattle.iw_locate.specs.Free.{scene_of}
use Rattle.iw_locate.specs.Next.{IsNext}
use Rattle.iw_locate.specs.Keeping.{Keeps}
use Rattle.iw_locate.specs.Unsearched.{Tells, IsFollowed, past_frame}
use Rattle.iw_stream.specs.Frames.{EarlyRecord}
use Rattle.iw_stream.specs.Incoming.{Coming, coming_of, scene_in}
use Rattle.iw_stream.proofs.Arriving.{early_fits, kept_record}
use Rattle.iw_stream.proofs.incoming.Incoming.add_record.Goals as goal

pub add-requires-clause-some : goal.add-requires-clause-some
add-requires-clause-some g c =
    let w = early_fits (coming_of c.self.inside) c.args.frame c.limits.ensures (subst (λ (x : Coming). IsNext (scene_in x) (Found c.args.frame)) (sym c.self.view_is) c.requires.next) c.requires.early in
    w.some

pub add-requires-clause-clear : goal.add-requires-clause-clear
add-requires-clause-clear g c =
    let w = early_fits (coming_of c.self.inside) c.args.frame c.limits.ensures (subst (λ (x : Coming). IsNext (scene_in x) (Found c.args.frame)) (sym c.self.view_is) c.requires.next) c.requires.early in
    w.clear

pub add-requires-in-Placed-clause-some : goal.add-requires-in-Placed-clause-some
add-requires-in-Placed-clause-some g c =
    let w = early_fits (coming_of c.self.inside) c.args.frame c.limits.ensures (subst (λ (x : Coming). IsNext (scene_in x) (Found c.args.frame)) (sym c.self.view_is) c.requires.next) c.requires.early in
    w.some

pub add-requires-in-Placed-clause-clear : goal.add-requires-in-Placed-clause-clear
add-requires-in-Placed-clause-clear g c =
    let w = early_fits (coming_of c.self.inside) c.args.frame c.limits.ensures (subst (λ (x : Coming). IsNext (scene_in x) (Found c.args.frame)) (sym c.self.view_is) c.requires.next) c.requires.early in
    w.clear

pub overflow_add-base : goal.overflow_add-base
overflow_add-base g c =
    let w = early_fits (coming_of c.self.inside) c.args.frame c.limits.ensures (subst (λ (x : Coming). IsNext (scene_in x) (Found c.args.frame)) (sym c.self.view_is) c.requires.next) c.requires.early in
    omega (arith, w.near, w.some, c.limits.ensures.floor, c.span_of.ensures.bound)

pub overflow_add-base-in-Placed : goal.overflow_add-base-in-Placed
overflow_add-base-in-Placed g c =
    let w = early_fits (coming_of c.self.inside) c.args.frame c.limits.ensures (subst (λ (x : Coming). IsNext (scene_in x) (Found c.args.frame)) (sym c.self.view_is) c.requires.next) c.requires.early in
    omega (arith, w.near, c.limits.ensures.floor)

pub release-requires-clause-come : goal.release-requires-clause-come
release-requires-clause-come g c = λ p low high.
    let w = early_fits (coming_of c.self.inside) c.args.frame c.limits.ensures (subst (λ (x : Coming). IsNext (scene_in x) (Found c.args.frame)) (sym c.self.view_is) c.requires.next) c.requires.early in
    w.come p (omega (arith, low, c.span_of.ensures.value)) high

pub invariant_of-self : goal.invariant_of-self
invariant_of-self g c =
    let s = coming_of c.self.inside in
    let next = subst (λ (x : Coming). IsNext (scene_in x) (Found c.args.frame)) (sym c.self.view_is) c.requires.next in
    let followed = subst (λ (x : Coming). IsFollowed x.unsearched c.args.frame) (sym c.self.view_is) c.requires.followed in
    let k = kept_record s c.args.frame Tried next c.requires.early followed c.self.invariant in
    record {
      keeps = subst (λ (rs : List EarlyRecord). Keeps (scene_of s.layout s.base s.arrived rs)) (sym c.add.ensures.records) k.0;
      tells = subst (Tells (scene_of s.layout s.base s.arrived c.add.new.self.records)) (sym c.recorded.ensures)
          (subst (λ (rs : List EarlyRecord). Tells (scene_of s.layout s.base s.arrived rs) (past_frame s.unsearched c.args.frame)) (sym c.add.ensures.records) k.1);
    }

pub invariant_of-self-in-Placed : goal.invariant_of-self-in-Placed
invariant_of-self-in-Placed g c =
    let s = coming_of c.self.inside in
    let next = subst (λ (x : Coming). IsNext (scene_in x) (Found c.args.frame)) (sym c.self.view_is) c.requires.next in
    let followed = subst (λ (x : Coming). IsFollowed x.unsearched c.args.frame) (sym c.self.view_is) c.requires.followed in
    let k = kept_record s c.args.frame (Placed c.in-Placed.header) next c.requires.early followed c.self.invariant in
    let there : released s.arrived (s.base + span_start true c.args.frame.start) (s.base + c.args.frame.end) ≡ c.release.new.self.arrived =
    sym (c.release.ensures.arrived ∙ ap (λ from. released s.arrived (s.base + from) (s.base + c.args.frame.end)) c.span_of.ensures.value) in
    record {
      keeps = subst (λ (a : Arrived). Keeps (scene_of s.layout s.base a c.add-in-Placed.new.self.records)) there
          (subst (λ (rs : List EarlyRecord). Keeps (scene_of s.layout s.base (released s.arrived (s.base + span_start true c.args.frame.start) (s.base + c.args.frame.end)) rs)) (sym c.add-in-Placed.ensures.records) k.0);
      tells = subst (λ (a : Arrived). Tells (scene_of s.layout s.base a c.add-in-Placed.new.self.records) c.recorded.new.self) there
          (subst (Tells (scene_of s.layout s.base (released s.arrived (s.base + span_start true c.args.frame.start) (s.base + c.args.frame.end)) c.add-in-Placed.new.self.records)) (sym c.recorded.ensures)
          (subst (λ (rs : List EarlyRecord). Tells (scene_of s.layout s.base (released s.arrived (s.base + span_start true c.args.frame.start) (s.base + c.args.frame.end)) rs) (past_frame s.unsearched c.args.frame)) (sym c.add-in-Placed.ensures.records) k.1));
    }
