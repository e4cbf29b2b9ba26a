use Rattle.std.proofs.Common.{◌+◌, ◌<◌, ◌≤◌, ◌^◌, sym, ap, ◌∙◌, subst, arith}
use Rattle.std.specs.Prelude.{IfSome}
use Rattle.iw_locate.specs.declared.frame.Frame.{Frame}
use Rattle.iw_locate.specs.Next.{IsFrontWhole}
use Rattle.iw_locate.specs.Lowest.{early_place}
use Rattle.iw_locate.specs.Keeping.{IsFrontUnplaced}
use Rattle.iw_locate.proofs.Starting.{kept_can_locate}
use Rattle.iw_stream.specs.Incoming.{Coming, coming_of, scene_in}
use Rattle.iw_stream.proofs.Arriving.{place_since, next_since, few_since, near_since}
use Rattle.iw_stream.proofs.incoming.Incoming.next_early.Given as given
use Rattle.iw_stream.proofs.incoming.Incoming.next_early.Goals as goal

pub early_since-requires-clause-can : goal.early_since-requires-clause-can
early_since-requires-clause-can g c =
    kept_can_locate (scene_in (coming_of c.self.inside)) c.self.invariant.keeps (omega (arith, ap (λ (s : Coming). s.arrived.floor) c.self.view_is, c.requires.low)) (subst (λ (s : Coming). IsFrontUnplaced (scene_in s)) (sym c.self.view_is) c.requires.turn)

lacks : (g : given.Over) (c : goal.After-early_since g) → IsFrontWhole (scene_in (coming_of c.self.inside)) → ⊥
lacks g c = subst (λ (s : Coming). IsFrontWhole (scene_in s) → ⊥) (sym c.self.view_is) c.requires.lacking

pub returns-clause-found : goal.returns-clause-found
returns-clause-found g c =
    let v = scene_in (coming_of c.self.inside) in
    place_since v c.self.invariant.keeps.based (lacks g c) c.early_since.result c.early_since.ensures.next ∙ ap (λ (s : Coming). early_place (scene_in s)) c.self.view_is

pub returns-clause-next : goal.returns-clause-next
returns-clause-next g c = next_since (scene_in (coming_of c.self.inside)) (lacks g c) c.early_since.new.unsearched c.early_since.result c.early_since.ensures.next c.early_since.ensures.followed

pub returns-clause-few : goal.returns-clause-few
returns-clause-few g c = few_since (scene_in (coming_of c.self.inside)) c.early_since.result c.early_since.ensures.next

pub returns-clause-near : goal.returns-clause-near
returns-clause-near g c =
    let v = scene_in (coming_of c.self.inside) in
    let low = subst (λ (s : Coming). s.arrived.floor ≤ 2 ^ 62) (sym c.self.view_is) c.requires.low in
    let P = λ (s : Coming). IfSome c.early_since.result (λ (f : Frame). s.base + f.start < 2 ^ 63) in
    subst P c.self.view_is (near_since v c.limits.ensures low (lacks g c) c.early_since.result c.early_since.ensures.next)
