use Rattle.std.proofs.Common.{◌≡◌, ◌-◌, subst}
use Rattle.std.specs.Prelude.{IfSome}
use Rattle.std.specs.Option.{option_map}
use Rattle.iw_fpdu.specs.declared.layout.Layout.{Layout}
use Rattle.iw_fpdu.specs.Laws.{IsBetween}
use Rattle.iw_stream.specs.Frames.{IsNext, frame_at, frame_by}
use Rattle.iw_stream.proofs.Releasing.{held_next}
use Rattle.iw_stream.proofs.incoming.held_at.Goals as goal

pub returns-clause-holds : goal.returns-clause-holds
returns-clause-holds g c =
    let now = c.args.arrived.now in
    let l = c.requires.layout in
    let b = c.requires.base in
    let between = subst (λ (l : Layout). IsBetween l.markers (now.arrived.floor - now.base)) l (subst (λ b. IsBetween c.args.layout.markers (now.arrived.floor - b)) b c.requires.between) in
    let next = subst (λ (l : Layout). IfSome c.frame_at.result (λ found. IsNext l now.arrived now.base found)) l
    (subst (λ b. IfSome c.frame_at.result (λ found. IsNext c.args.layout now.arrived b found)) b c.frame_at.ensures.next) in
    let frame = subst (λ (l : Layout). option_map frame_by c.frame_at.result ≡ frame_at l now.arrived now.base c.args.start) l
    (subst (λ b. option_map frame_by c.frame_at.result ≡ frame_at c.args.layout now.arrived b c.args.start) b c.frame_at.ensures.frame) in
    held_next now c.args.start c.frame_at.result c.limits.ensures.tracked.keeps.released between next frame c.requires.clear
