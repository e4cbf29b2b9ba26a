use Rattle.std.proofs.Common.{◌≡◌, ◌+◌, ◌-◌, ◌∙◌, arith, None, refl}
use Rattle.iw_locate.specs.Unsearched.{with_octets}
use Rattle.iw_stream.specs.Incoming.{coming_of}
use Rattle.iw_stream.proofs.InPlace.{tracked_in_place}
use Rattle.iw_stream.proofs.incoming.Incoming.came.Goals as goal

pub overflow_add-place : goal.overflow_add-place
overflow_add-place g c =
    omega (arith, c.end-place.ensures.near, c.end-place.ensures.limits.floor, c.ranges.n.fits, c.if-n-min.false, c.min.ensures)

pub invariant_of-self-2 : goal.invariant_of-self-2
invariant_of-self-2 g c =
    let s = coming_of c.self.inside in
    let now = c.self.inside.islands.arrived in
    let place = c.end-place.result in
    let n = c.args.n in
    let counted = c.if-not-count_ahead.ensures.counted in
    let told : c.delivered.new.self ≡ with_octets s.unsearched (place - s.base) (place + n - s.base) = c.delivered.ensures ∙ (λ i. with_octets s.unsearched (c.saturating_sub-from.ensures i) (c.saturating_sub-to.ensures i)) in
    let t = tracked_in_place s now c.count_ahead.new.islands.arrived place n c.delivered.new.self None None c.self.invariant refl
    c.end-place.ensures.end counted.1 told in
    record { keeps = t.keeps; tells = t.tells }
