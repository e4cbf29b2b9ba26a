use Rattle.std.proofs.Common.{sym, ap, ◌∙◌, refl, subst}
use Rattle.iw_locate.specs.declared.locator.Locator.{Locator}
use Rattle.iw_locate.specs.declared.judged.State.TheVariants.{Placed}
use Rattle.iw_locate.specs.declared.frame.Next.TheVariants.{Frame as Found}
use Rattle.iw_locate.specs.Records.{IsClear, added}
use Rattle.iw_locate.specs.Free.{scene_of, CanLocate}
use Rattle.iw_locate.specs.Next.{IsNext}
use Rattle.iw_locate.specs.Unsearched.{Tells}
use Rattle.iw_locate.specs.Keeping.{record_of}
use Rattle.iw_locate.specs.Hole.{IsPastHole}
use Rattle.iw_locate.proofs.PastHole.{can_locate, judged_past, early_fits, searched_past, not_false}
use Rattle.bench_locate.proofs.step.Goals as goal

pub next_since-next-requires-clause-can : goal.next_since-next-requires-clause-can
next_since-next-requires-clause-can c =
    let a = c.args.islands.now.arrived in
    let rs = c.args.judged.now.records in
    subst (λ (l : Locator). CanLocate (scene_of l.layout l.base a rs)) (sym c.new.ensures) (can_locate a rs c.args.unsearched.now c.requires)

pub add-requires-clause-some : goal.add-requires-clause-some
add-requires-clause-some c =
    let a = c.args.islands.now.arrived in
    let rs = c.args.judged.now.records in
    let f = c.in-Frame.frame in
    let next = subst (λ (l : Locator). IsNext (scene_of l.layout l.base a rs) (Found f)) c.new.ensures c.in-Frame.ensures.next in
    let early = not_false f.early c.if-not-frame.false in
    (early_fits a rs c.args.unsearched.now c.requires f next early).0

pub add-requires-clause-clear : goal.add-requires-clause-clear
add-requires-clause-clear c =
    let a = c.args.islands.now.arrived in
    let rs = c.args.judged.now.records in
    let f = c.in-Frame.frame in
    let next = subst (λ (l : Locator). IsNext (scene_of l.layout l.base a rs) (Found f)) c.new.ensures c.in-Frame.ensures.next in
    let early = not_false f.early c.if-not-frame.false in
    subst (λ xs. IsClear xs f.start f.end) (sym c.ready.ensures.records) (early_fits a rs c.args.unsearched.now c.requires f next early).1

pub returns-then-is_err : goal.returns-then-is_err
returns-then-is_err c =
    let a = c.args.islands.now.arrived in
    let rs = c.args.judged.now.records in
    let f = c.in-Frame.frame in
    let next = subst (λ (l : Locator). IsNext (scene_of l.layout l.base a rs) (Found f)) c.new.ensures c.in-Frame.ensures.next in
    let early = not_false f.early c.if-not-frame.false in
    let tells = subst (λ (l : Locator). Tells (scene_of l.layout l.base a rs) c.next_since-next.new.unsearched) c.new.ensures c.in-Frame.ensures.tells in
    subst (λ xs. IsPastHole a xs c.next_since-next.new.unsearched) (sym c.ready.ensures.records) (searched_past a rs c.args.unsearched.now c.requires c.next_since-next.new.unsearched tells)

pub returns : goal.returns
returns c =
    let a = c.args.islands.now.arrived in
    let rs = c.args.judged.now.records in
    let f = c.in-Frame.frame in
    let next = subst (λ (l : Locator). IsNext (scene_of l.layout l.base a rs) (Found f)) c.new.ensures c.in-Frame.ensures.next in
    let early = not_false f.early c.if-not-frame.false in
    let tells = subst (λ (l : Locator). Tells (scene_of l.layout l.base a rs) c.next_since-next.new.unsearched) c.new.ensures c.in-Frame.ensures.tells in
    let u = c.next_since-next.new.unsearched in
    let searched = searched_past a rs c.args.unsearched.now c.requires u tells in
    let after = judged_past a rs u searched f (Placed 0) next early (c.in-Frame.ensures.followed f refl early) in
    subst (λ xs. IsPastHole a xs u) (sym (c.add.ensures.records ∙ ap (λ xs. added xs (record_of f (Placed 0))) c.ready.ensures.records)) after
