use Rattle.std.proofs.Common.{◌≡◌, ◌+◌, ◌-◌, ◌<◌, ◌∙◌, arith}
use Rattle.iw_locate.specs.Unsearched.{with_octets}
use Rattle.iw_stream.specs.Incoming.{coming_of}
use Rattle.iw_stream.proofs.InPlace.{tracked_in_place}
use Rattle.iw_stream.proofs.incoming.Incoming.read_some.Goals as goal

pub overflow_add-place : goal.overflow_add-place
overflow_add-place g c =
    omega (arith, c.end-place.ensures.near, c.end-place.ensures.limits.floor, c.in_ok-got.ensures.few, c.min-n.ensures)

pub invariant_of-self-2 : goal.invariant_of-self-2
invariant_of-self-2 g c =
    let s = coming_of c.self.inside in
    let now = c.make_room.new.self.arrived in
    let place = c.end-place.result in
    let got = c.in_ok-got.got in
    let some : 0 < got = omega (arith, c.if-got-eq0.false) in
    let told : c.delivered.new.self ≡ with_octets s.unsearched (place - s.base) (place + got - s.base) = c.delivered.ensures ∙ (λ i. with_octets s.unsearched (c.saturating_sub-from.ensures i) (c.saturating_sub-to.ensures i)) in
    let t = tracked_in_place s now c.read_in_place.new.islands.arrived place got c.delivered.new.self (g.R.Read.remaining c.args.from.now) (g.R.Read.remaining c.read_in_place.new.from) c.self.invariant c.make_room.ensures.same
    c.end-place.ensures.end (c.in_ok-got.ensures.came some) told in
    record { keeps = t.keeps; tells = t.tells }
