use Rattle.std.proofs.Common.{sym, ◌∙◌, subst, length, arith}
use Rattle.std.specs.Prelude.{◌≡◌}
use Rattle.iw_ranges.specs.declared.Delivery.TheVariants.{Kept}
use Rattle.iw_ranges.specs.Arrived.{Arrived, delivery, delivered}
use Rattle.iw_locate.specs.declared.unsearched.Unsearched.{Unsearched}
use Rattle.iw_locate.specs.Hole.{IsPastHole}
use Rattle.iw_locate.proofs.PastHole.{delivered_past}
use Rattle.bench_locate.proofs.deliver.Goals as goal

pub returns-in-Kept : goal.returns-in-Kept
returns-in-Kept c =
    let a = c.args.islands.now.arrived in
    let octets = c.args.octets.now in
    let rs = c.args.judged.now.records in
    let kept : delivery a c.args.place (length octets) ≡ Kept = sym c.in_ok-add.ensures.answer ∙ c.in-Kept.is in
    let after = delivered_past a rs c.args.unsearched.now c.requires.past c.args.place octets kept (λ k. omega (arith, c.type_inv.octets k)) in
    subst (λ (x : Arrived). IsPastHole x rs c.delivered.new.self) (sym c.in_ok-add.ensures.ok)
    (subst (λ (x : Unsearched). IsPastHole (delivered a c.args.place octets) rs x) (sym c.delivered.ensures) after)
