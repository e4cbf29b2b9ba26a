use Rattle.std.proofs.Common.{◌≡◌, ◌+◌, true, None, refl, sym, ap, ◌∙◌, subst, arith}
use Rattle.iw_fpdu.specs.declared.layout.Layout.{Layout}
use Rattle.iw_fpdu.specs.Frame.{frame_end}
use Rattle.iw_stream.specs.declared.landing.PlacedFrame.{PlacedFrame}
use Rattle.iw_stream.specs.Fields.{state_of}
use Rattle.iw_stream.specs.Kept.{Keeps}
use Rattle.iw_stream.specs.Starting.{is_open, first_place_in}
use Rattle.iw_stream.specs.Stream.{StreamState, ended}
use Rattle.iw_stream.specs.Work.{place_past}
use Rattle.iw_stream.proofs.Buffers.{stays_same}
use Rattle.iw_stream.proofs.Keeping.{keeps_past, reaches, turn_stays}
use Rattle.iw_stream.proofs.Passing.{StandsEarly, stands_early}
use Rattle.iw_stream.proofs.Waiting.{kept_scene, passed}
use Rattle.iw_stream.proofs.stream.Stream.turn_placed.Goals as goal

pub end_of-requires : goal.end_of-requires
end_of-requires g c =
    let s = state_of c.self.inside in
    let frame : PlacedFrame = record { header = c.in-Some.header.now; start = c.start_of-start.result; len = c.in-Some.len } in
    let none : s.front ≡ None = ap (λ (t : StreamState). t.front) c.self.view_is ∙ c.requires.none in
    let w : StandsEarly s frame =
    stands_early s c.expecting-layout.result c.first_place_in-base.result c.floor.result c.start_of-start.result frame c.expecting-layout.ensures c.first_place_in-base.ensures.place c.floor.ensures
    c.start_of-start.ensures none c.in-Some.ensures c.self.invariant.keeps (ap ended c.self.view_is ∙ c.requires.runs)
    (kept_scene s c.self.inside.arrived.layout c.self.inside.arrived.base c.self.invariant.layout c.self.invariant.base c.limits.ensures.tracked.keeps) c.limits.ensures.apart c.limits.ensures.arrived in
    omega (arith, w.placed.stands.low, ap (λ (t : StreamState). t.arrived.floor) c.self.view_is, c.requires.place)

pub overflow_add-place : goal.overflow_add-place
overflow_add-place g c =
    let s = state_of c.self.inside in
    let frame : PlacedFrame = record { header = c.in-Some.header.now; start = c.start_of-start.result; len = c.in-Some.len } in
    let none : s.front ≡ None = ap (λ (t : StreamState). t.front) c.self.view_is ∙ c.requires.none in
    let w : StandsEarly s frame =
    stands_early s c.expecting-layout.result c.first_place_in-base.result c.floor.result c.start_of-start.result frame c.expecting-layout.ensures c.first_place_in-base.ensures.place c.floor.ensures
    c.start_of-start.ensures none c.in-Some.ensures c.self.invariant.keeps (ap ended c.self.view_is ∙ c.requires.runs)
    (kept_scene s c.self.inside.arrived.layout c.self.inside.arrived.base c.self.invariant.layout c.self.invariant.base c.limits.ensures.tracked.keeps) c.limits.ensures.apart c.limits.ensures.arrived in
    let there : c.first_place_in-base.result + c.end_of.result ≡ place_past s frame =
    (λ i. c.first_place_in-base.ensures.place i + c.end_of.ensures i)
    ∙ ap (λ (l : Layout). first_place_in s.start + frame_end l.markers c.start_of-start.result c.in-Some.len) c.expecting-layout.ensures in
    omega (arith, there, w.placed.stands.near, ap (λ (t : StreamState). t.arrived.floor) c.self.view_is, c.requires.place)

pub advance-requires-clause-passed : goal.advance-requires-clause-passed
advance-requires-clause-passed g c =
    let s = state_of c.self.inside in
    let frame : PlacedFrame = record { header = c.in-Some.header.now; start = c.start_of-start.result; len = c.in-Some.len } in
    let none : s.front ≡ None = ap (λ (t : StreamState). t.front) c.self.view_is ∙ c.requires.none in
    let w : StandsEarly s frame =
    stands_early s c.expecting-layout.result c.first_place_in-base.result c.floor.result c.start_of-start.result frame c.expecting-layout.ensures c.first_place_in-base.ensures.place c.floor.ensures
    c.start_of-start.ensures none c.in-Some.ensures c.self.invariant.keeps (ap ended c.self.view_is ∙ c.requires.runs)
    (kept_scene s c.self.inside.arrived.layout c.self.inside.arrived.base c.self.invariant.layout c.self.invariant.base c.limits.ensures.tracked.keeps) c.limits.ensures.apart c.limits.ensures.arrived in
    let there : c.first_place_in-base.result + c.end_of.result ≡ place_past s frame =
    (λ i. c.first_place_in-base.ensures.place i + c.end_of.ensures i)
    ∙ ap (λ (l : Layout). first_place_in s.start + frame_end l.markers c.start_of-start.result c.in-Some.len) c.expecting-layout.ensures in
    passed s frame c.self.inside.arrived.layout c.self.inside.arrived.base (c.first_place_in-base.result + c.end_of.result) c.self.invariant.layout c.self.invariant.base there c.self.invariant.keeps w.placed.stands w.over

pub advance-requires-clause-near : goal.advance-requires-clause-near
advance-requires-clause-near g c =
    let s = state_of c.self.inside in
    let frame : PlacedFrame = record { header = c.in-Some.header.now; start = c.start_of-start.result; len = c.in-Some.len } in
    let none : s.front ≡ None = ap (λ (t : StreamState). t.front) c.self.view_is ∙ c.requires.none in
    let w : StandsEarly s frame =
    stands_early s c.expecting-layout.result c.first_place_in-base.result c.floor.result c.start_of-start.result frame c.expecting-layout.ensures c.first_place_in-base.ensures.place c.floor.ensures
    c.start_of-start.ensures none c.in-Some.ensures c.self.invariant.keeps (ap ended c.self.view_is ∙ c.requires.runs)
    (kept_scene s c.self.inside.arrived.layout c.self.inside.arrived.base c.self.invariant.layout c.self.invariant.base c.limits.ensures.tracked.keeps) c.limits.ensures.apart c.limits.ensures.arrived in
    let there : c.first_place_in-base.result + c.end_of.result ≡ place_past s frame =
    (λ i. c.first_place_in-base.ensures.place i + c.end_of.ensures i)
    ∙ ap (λ (l : Layout). first_place_in s.start + frame_end l.markers c.start_of-start.result c.in-Some.len) c.expecting-layout.ensures in
    omega (arith, there, w.placed.stands.near, ap (λ (t : StreamState). t.arrived.floor) c.self.view_is, c.requires.place)

pub invariant_of-self : goal.invariant_of-self
invariant_of-self g c =
    let s = state_of c.self.inside in
    let frame : PlacedFrame = record { header = c.in-Some.header.now; start = c.start_of-start.result; len = c.in-Some.len } in
    let none : s.front ≡ None = ap (λ (t : StreamState). t.front) c.self.view_is ∙ c.requires.none in
    let w : StandsEarly s frame =
    stands_early s c.expecting-layout.result c.first_place_in-base.result c.floor.result c.start_of-start.result frame c.expecting-layout.ensures c.first_place_in-base.ensures.place c.floor.ensures
    c.start_of-start.ensures none c.in-Some.ensures c.self.invariant.keeps (ap ended c.self.view_is ∙ c.requires.runs)
    (kept_scene s c.self.inside.arrived.layout c.self.inside.arrived.base c.self.invariant.layout c.self.invariant.base c.limits.ensures.tracked.keeps) c.limits.ensures.apart c.limits.ensures.arrived in
    let there : c.first_place_in-base.result + c.end_of.result ≡ place_past s frame =
    (λ i. c.first_place_in-base.ensures.place i + c.end_of.ensures i)
    ∙ ap (λ (l : Layout). first_place_in s.start + frame_end l.markers c.start_of-start.result c.in-Some.len) c.expecting-layout.ensures in
    let running : is_open s.start ≡ true = ap (λ (t : StreamState). is_open t.start) c.self.view_is ∙ c.requires.open in
    record {
      keeps = subst (λ o. Keeps (record s { front = o; arrived = c.advance.new.self.arrived; early = c.advance.new.self.early })) (sym none)
          (keeps_past s frame (c.first_place_in-base.result + c.end_of.result) c.advance.new.self.arrived s.receiving s.queue s.reads s.asked c.advance.new.self.early c.self.inside.arrived.base
          running w.placed.stands there c.advance.ensures.arrived c.advance.ensures.early
          (turn_stays s frame s.receiving (stays_same s.receiving s.receiving refl) c.self.invariant.keeps w.placed.stands) c.self.invariant.keeps.first
          (c.self.invariant.keeps.awaited (ap ended c.self.view_is ∙ c.requires.runs)) (λ e. e) c.self.invariant.keeps);
      layout = c.advance.ensures.same.layout ∙ c.self.invariant.layout;
      base = c.advance.ensures.same.base ∙ c.self.invariant.base;
    }

pub returns-clause-reach : goal.returns-clause-reach
returns-clause-reach g c =
    let s = state_of c.self.inside in
    let frame : PlacedFrame = record { header = c.in-Some.header.now; start = c.start_of-start.result; len = c.in-Some.len } in
    let none : s.front ≡ None = ap (λ (t : StreamState). t.front) c.self.view_is ∙ c.requires.none in
    let w : StandsEarly s frame =
    stands_early s c.expecting-layout.result c.first_place_in-base.result c.floor.result c.start_of-start.result frame c.expecting-layout.ensures c.first_place_in-base.ensures.place c.floor.ensures
    c.start_of-start.ensures none c.in-Some.ensures c.self.invariant.keeps (ap ended c.self.view_is ∙ c.requires.runs)
    (kept_scene s c.self.inside.arrived.layout c.self.inside.arrived.base c.self.invariant.layout c.self.invariant.base c.limits.ensures.tracked.keeps) c.limits.ensures.apart c.limits.ensures.arrived in
    let there : c.first_place_in-base.result + c.end_of.result ≡ place_past s frame =
    (λ i. c.first_place_in-base.ensures.place i + c.end_of.ensures i)
    ∙ ap (λ (l : Layout). first_place_in s.start + frame_end l.markers c.start_of-start.result c.in-Some.len) c.expecting-layout.ensures in
    reaches s c.args.self.now c.advance.new.self.arrived (c.first_place_in-base.result + c.end_of.result) c.advance.ensures.arrived (omega (arith, there, w.placed.stands.near)) c.self.view_is
