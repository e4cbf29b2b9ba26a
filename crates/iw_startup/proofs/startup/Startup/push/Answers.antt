use Rattle.std.proofs.Common.{◌≡◌, ℕ, ◌+◌, ◌-◌, ◌++◌, List, length, min, ap, sym, ◌∙◌, subst}
use Rattle.iw_startup.specs.Peer.{frame_end, frame_part}
use Rattle.iw_startup.specs.State.{StartupState, IsReached, pushed, used}
use Rattle.iw_startup.proofs.Pieces.{in_two_steps}
use Rattle.iw_startup.proofs.Reached.{reached-pushed}
use Rattle.iw_startup.proofs.startup.Startup.push.Goals as goal

-- both steps together use and take what the frame needs
steps : (c : goal.After-progress_in-progress) →
    let xs = c.self.inside.octets.items in
    let all = xs ++ c.args.octets.now in
    let est = c.self.inside.own.config.establishment in
    let side = c.self.inside.own.side in
    (c.take_up_to-fixed.result + c.take_up_to-private.result ≡ min (frame_end est side all - length xs) (length c.args.octets.now))
    × (c.take_up_to-private.new.taken.items ≡ frame_part est side all)
steps c =
    let end_is : c.end_of_frame-end.result ≡ frame_end c.self.inside.own.config.establishment c.self.inside.own.side c.take_up_to-fixed.new.taken.items
    = c.end_of_frame-end.ensures.end ∙ ap (frame_end c.self.inside.own.config.establishment c.self.inside.own.side) c.as_slice.ensures.value in
    in_two_steps c.self.inside.own.config.establishment c.self.inside.own.side c.self.inside.octets.items c.args.octets.now
    c.take_up_to-fixed.result c.take_up_to-private.result c.end_of_frame-end.result
    c.take_up_to-fixed.new.taken.items c.take_up_to-private.new.taken.items
    c.self.invariant.within c.take_up_to-fixed.ensures.used c.take_up_to-fixed.ensures.items end_is
    c.take_up_to-private.ensures.used c.take_up_to-private.ensures.items

pub invariant_of-self : goal.invariant_of-self
unfolding pushed
invariant_of-self c =
    let old : StartupState = record { config = c.self.inside.own.config; side = c.self.inside.own.side; octets = c.self.inside.octets.items } in
    subst (λ (xs : List ℕ). IsReached (record old { octets = xs })) (sym (steps c).1) (reached-pushed old c.args.octets.now c.self.invariant)

pub returns-clause-used : goal.returns-clause-used
unfolding used
returns-clause-used c =
    subst (λ (s : StartupState). c.take_up_to-fixed.result + c.take_up_to-private.result ≡ used s c.args.octets.now) c.self.view_is (steps c).0

pub returns-clause-after : goal.returns-clause-after
unfolding pushed
returns-clause-after c =
    let old : StartupState = record { config = c.self.inside.own.config; side = c.self.inside.own.side; octets = c.self.inside.octets.items } in
    ap (λ (xs : List ℕ). record old { octets = xs }) (steps c).1 ∙ ap (λ (s : StartupState). pushed s c.args.octets.now) c.self.view_is

pub returns-clause-reached : goal.returns-clause-reached
returns-clause-reached c = invariant_of-self c
