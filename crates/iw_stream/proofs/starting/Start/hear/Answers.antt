use Rattle.std.proofs.Common.{◌≡◌, [], length, ap, sym, ◌∙◌, arith}
use Rattle.iw_ranges.specs.Arrived.{advanced, in_order}
use Rattle.iw_ranges.proofs.InOrder.{all_come}
use Rattle.iw_startup.specs.Peer.{frame_part}
use Rattle.iw_startup.specs.State.{pushed, used}
use Rattle.iw_startup.proofs.Heard.{octets-pushed}
use Rattle.iw_stream.specs.Starting.{Heard, awaits_frame, first_place_out}
use Rattle.iw_stream.proofs.Opening.{fresh_octets, told_of, out_heard, heard_is}
use Rattle.iw_stream.specs.Fields.{start_of}
use Rattle.iw_stream.proofs.Started.{used_part, part_short}
use Rattle.iw_stream.proofs.starting.Start.hear.Goals as goal

pub begin-requires-clause-come : goal.begin-requires-clause-come
begin-requires-clause-come g c =
    let u = c.in-Some.startup in
    let a = c.args.arrived.now.arrived in
    let s = c.self.inside in
    let fresh : c.in-Some.startup.octets ≡ [] = fresh_octets s.frames s.heard s.sending u c.in-Some.is (ap awaits_frame c.self.view_is ∙ c.requires.awaits) c.self.invariant.fresh in
    let is : c.push-used.result.0 ≡ length (frame_part u.config.establishment u.side (in_order a)) = c.push-used.ensures.used ∙ ap (used u) c.octets_in_order.ensures.octets ∙ used_part u (in_order a) fresh in
    all_come a c.push-used.result.0 (omega (arith, is, part_short u (in_order a)))

pub begin-requires-clause-near : goal.begin-requires-clause-near
begin-requires-clause-near g c =
    let u = c.in-Some.startup in
    let a = c.args.arrived.now.arrived in
    let s = c.self.inside in
    let fresh : c.in-Some.startup.octets ≡ [] = fresh_octets s.frames s.heard s.sending u c.in-Some.is (ap awaits_frame c.self.view_is ∙ c.requires.awaits) c.self.invariant.fresh in
    let is : c.push-used.result.0 ≡ length (frame_part u.config.establishment u.side (in_order a)) = c.push-used.ensures.used ∙ ap (used u) c.octets_in_order.ensures.octets ∙ used_part u (in_order a) fresh in
    omega (arith, is, part_short u (in_order a), c.octets_in_order.ensures.few, ap length c.octets_in_order.ensures.octets)

pub returns-in-Some-agreed-clause-arrived : goal.returns-in-Some-agreed-clause-arrived
returns-in-Some-agreed-clause-arrived g c =
    let u = c.in-Some.startup in
    let a = c.args.arrived.now.arrived in
    let s = c.self.inside in
    let fresh : c.in-Some.startup.octets ≡ [] = fresh_octets s.frames s.heard s.sending u c.in-Some.is (ap awaits_frame c.self.view_is ∙ c.requires.awaits) c.self.invariant.fresh in
    let is : c.push-used.result.0 ≡ length (frame_part u.config.establishment u.side (in_order a)) = c.push-used.ensures.used ∙ ap (used u) c.octets_in_order.ensures.octets ∙ used_part u (in_order a) fresh in
    let now : c.push-used.new.self ≡ pushed u (in_order a) = c.push-used.ensures.after ∙ ap (pushed u) c.octets_in_order.ensures.octets in
    c.begin.ensures.arrived ∙ ap (advanced a) (is ∙ sym (ap length (ap (λ v. v.octets) now ∙ octets-pushed u (in_order a) fresh)))

pub returns-in_default-agreed-clause-arrived : goal.returns-in_default-agreed-clause-arrived
returns-in_default-agreed-clause-arrived g c =
    let u = c.in-Some.startup in
    let a = c.args.arrived.now.arrived in
    let s = c.self.inside in
    let fresh : c.in-Some.startup.octets ≡ [] = fresh_octets s.frames s.heard s.sending u c.in-Some.is (ap awaits_frame c.self.view_is ∙ c.requires.awaits) c.self.invariant.fresh in
    let is : c.push-used.result.0 ≡ length (frame_part u.config.establishment u.side (in_order a)) = c.push-used.ensures.used ∙ ap (used u) c.octets_in_order.ensures.octets ∙ used_part u (in_order a) fresh in
    let now : c.push-used.new.self ≡ pushed u (in_order a) = c.push-used.ensures.after ∙ ap (pushed u) c.octets_in_order.ensures.octets in
    c.begin.ensures.arrived ∙ ap (advanced a) (is ∙ sym (ap length (ap (λ v. v.octets) now ∙ octets-pushed u (in_order a) fresh)))

pub returns-in-Some-agreed-clause-agreed : goal.returns-in-Some-agreed-clause-agreed
returns-in-Some-agreed-clause-agreed g c = λ e.
    let a = c.args.arrived.now.arrived in
    told_of c.self.inside c.args.self.now c.in-Some.startup c.push-used.new.self (in_order a) c.self.view_is c.in-Some.is c.requires.awaits (c.push-used.ensures.after ∙ ap (pushed c.in-Some.startup) c.octets_in_order.ensures.octets) c.self.invariant.fresh e

pub returns-in_default-agreed-clause-agreed : goal.returns-in_default-agreed-clause-agreed
returns-in_default-agreed-clause-agreed g c = λ e.
    let a = c.args.arrived.now.arrived in
    told_of c.self.inside c.args.self.now c.in-Some.startup c.push-used.new.self (in_order a) c.self.view_is c.in-Some.is c.requires.awaits (c.push-used.ensures.after ∙ ap (pushed c.in-Some.startup) c.octets_in_order.ensures.octets) c.self.invariant.fresh e

pub returns-in-Some-agreed-clause-few : goal.returns-in-Some-agreed-clause-few
returns-in-Some-agreed-clause-few g c =
    let u = c.in-Some.startup in
    let a = c.args.arrived.now.arrived in
    let s = c.self.inside in
    let fresh : c.in-Some.startup.octets ≡ [] = fresh_octets s.frames s.heard s.sending u c.in-Some.is (ap awaits_frame c.self.view_is ∙ c.requires.awaits) c.self.invariant.fresh in
    let now : c.push-used.new.self ≡ pushed u (in_order a) = c.push-used.ensures.after ∙ ap (pushed u) c.octets_in_order.ensures.octets in
    omega (arith, ap length (ap (λ v. v.octets) now ∙ octets-pushed u (in_order a) fresh), part_short u (in_order a), c.octets_in_order.ensures.few, ap length c.octets_in_order.ensures.octets)

pub returns-in_default-agreed-clause-few : goal.returns-in_default-agreed-clause-few
returns-in_default-agreed-clause-few g c =
    let u = c.in-Some.startup in
    let a = c.args.arrived.now.arrived in
    let s = c.self.inside in
    let fresh : c.in-Some.startup.octets ≡ [] = fresh_octets s.frames s.heard s.sending u c.in-Some.is (ap awaits_frame c.self.view_is ∙ c.requires.awaits) c.self.invariant.fresh in
    let now : c.push-used.new.self ≡ pushed u (in_order a) = c.push-used.ensures.after ∙ ap (pushed u) c.octets_in_order.ensures.octets in
    omega (arith, ap length (ap (λ v. v.octets) now ∙ octets-pushed u (in_order a) fresh), part_short u (in_order a), c.octets_in_order.ensures.few, ap length c.octets_in_order.ensures.octets)

pub returns-in-Some-agreed-clause-base : goal.returns-in-Some-agreed-clause-base
returns-in-Some-agreed-clause-base g c =
    let u = c.in-Some.startup in
    let a = c.args.arrived.now.arrived in
    let s = c.self.inside in
    let fresh : c.in-Some.startup.octets ≡ [] = fresh_octets s.frames s.heard s.sending u c.in-Some.is (ap awaits_frame c.self.view_is ∙ c.requires.awaits) c.self.invariant.fresh in
    let is : c.push-used.result.0 ≡ length (frame_part u.config.establishment u.side (in_order a)) = c.push-used.ensures.used ∙ ap (used u) c.octets_in_order.ensures.octets ∙ used_part u (in_order a) fresh in
    let now : c.push-used.new.self ≡ pushed u (in_order a) = c.push-used.ensures.after ∙ ap (pushed u) c.octets_in_order.ensures.octets in
    c.begin.ensures.base ∙ is ∙ sym (ap length (ap (λ v. v.octets) now ∙ octets-pushed u (in_order a) fresh))

pub returns-in_default-agreed-clause-base : goal.returns-in_default-agreed-clause-base
returns-in_default-agreed-clause-base g c =
    let u = c.in-Some.startup in
    let a = c.args.arrived.now.arrived in
    let s = c.self.inside in
    let fresh : c.in-Some.startup.octets ≡ [] = fresh_octets s.frames s.heard s.sending u c.in-Some.is (ap awaits_frame c.self.view_is ∙ c.requires.awaits) c.self.invariant.fresh in
    let is : c.push-used.result.0 ≡ length (frame_part u.config.establishment u.side (in_order a)) = c.push-used.ensures.used ∙ ap (used u) c.octets_in_order.ensures.octets ∙ used_part u (in_order a) fresh in
    let now : c.push-used.new.self ≡ pushed u (in_order a) = c.push-used.ensures.after ∙ ap (pushed u) c.octets_in_order.ensures.octets in
    c.begin.ensures.base ∙ is ∙ sym (ap length (ap (λ v. v.octets) now ∙ octets-pushed u (in_order a) fresh))

pub returns-in-Some-agreed-clause-out : goal.returns-in-Some-agreed-clause-out
returns-in-Some-agreed-clause-out g c =
    let u = c.in-Some.startup in
    let a = c.args.arrived.now.arrived in
    let s = c.self.inside in
    let now : c.push-used.new.self ≡ pushed u (in_order a) = c.push-used.ensures.after ∙ ap (pushed u) c.octets_in_order.ensures.octets in
    ap (λ x. first_place_out (Heard x)) now
    ∙ ap first_place_out (sym (heard_is s.frames s.heard s.sending u (in_order a) c.in-Some.is (ap awaits_frame c.self.view_is ∙ c.requires.awaits)))
    ∙ out_heard (start_of s) (in_order a) c.self.invariant.fresh ∙ ap first_place_out c.self.view_is

pub returns-in_default-agreed-clause-out : goal.returns-in_default-agreed-clause-out
returns-in_default-agreed-clause-out g c =
    let u = c.in-Some.startup in
    let a = c.args.arrived.now.arrived in
    let s = c.self.inside in
    let now : c.push-used.new.self ≡ pushed u (in_order a) = c.push-used.ensures.after ∙ ap (pushed u) c.octets_in_order.ensures.octets in
    ap (λ x. first_place_out (Heard x)) now
    ∙ ap first_place_out (sym (heard_is s.frames s.heard s.sending u (in_order a) c.in-Some.is (ap awaits_frame c.self.view_is ∙ c.requires.awaits)))
    ∙ out_heard (start_of s) (in_order a) c.self.invariant.fresh ∙ ap first_place_out c.self.view_is
