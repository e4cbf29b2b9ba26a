use Rattle.std.proofs.Common.{◌≡◌, ◌+◌, false, true, ap, sym, ◌∙◌, subst, arith, refl}
use Rattle.iw_fpdu.specs.declared.layout.Layout.{Layout}
use Rattle.iw_fpdu.specs.Frame.{frame_end}
use Rattle.iw_stream.specs.Fields.{state_of}
use Rattle.iw_stream.specs.Kept.{Stands, NoneReachesOver}
use Rattle.iw_stream.specs.Starting.{is_open, first_place_in}
use Rattle.iw_stream.specs.Stream.{StreamState, ended}
use Rattle.iw_stream.specs.Work.{place_past}
use Rattle.iw_stream.proofs.Waiting.{passed}
use Rattle.iw_stream.proofs.Keeping.{keeps_past, reaches, turn_stays}
use Rattle.iw_stream.proofs.Buffers.{stays_same}
use Rattle.iw_stream.proofs.stream.Stream.take_up.Goals as goal

pub invariant_of-self : goal.invariant_of-self
invariant_of-self g c = record {
  keeps =
      let s = state_of c.self.inside in
      let frame = c.args.frame in
      let running : is_open (state_of c.self.inside).start ≡ true = ap (λ (t : StreamState). is_open t.start) c.self.view_is ∙ c.requires.open in
      let runs : ended (state_of c.self.inside) ≡ false = ap ended c.self.view_is ∙ c.requires.runs in
      let stands : Stands (state_of c.self.inside) c.args.frame = subst (λ t. Stands t c.args.frame) (sym c.self.view_is) c.requires.stands in
      let there : c.first_place_in.result + c.end_of-end.result ≡ place_past (state_of c.self.inside) c.args.frame =
      (λ i. c.first_place_in.ensures.place i + c.end_of-end.ensures i)
      ∙ ap (λ (l : Layout). first_place_in c.self.inside.start + frame_end l.markers c.args.frame.start c.args.frame.len) c.expecting.ensures in
      keeps_past s frame (c.first_place_in.result + c.end_of-end.result) c.advance.new.self.arrived s.receiving s.queue s.reads c.take.new.self c.advance.new.self.early c.self.inside.arrived.base running stands there c.advance.ensures.arrived c.advance.ensures.early
      (turn_stays s frame s.receiving (stays_same s.receiving s.receiving refl) c.self.invariant.keeps stands)
      c.self.invariant.keeps.first (c.self.invariant.keeps.awaited runs) (λ e. e) c.self.invariant.keeps;
  layout = c.advance.ensures.same.layout ∙ c.self.invariant.layout;
  base = c.advance.ensures.same.base ∙ c.self.invariant.base;
}

pub returns-clause-reach : goal.returns-clause-reach
returns-clause-reach g c =
    let s = state_of c.self.inside in
    let stands : Stands (state_of c.self.inside) c.args.frame = subst (λ t. Stands t c.args.frame) (sym c.self.view_is) c.requires.stands in
    let there : c.first_place_in.result + c.end_of-end.result ≡ place_past (state_of c.self.inside) c.args.frame =
    (λ i. c.first_place_in.ensures.place i + c.end_of-end.ensures i)
    ∙ ap (λ (l : Layout). first_place_in c.self.inside.start + frame_end l.markers c.args.frame.start c.args.frame.len) c.expecting.ensures in
    reaches s c.args.self.now c.advance.new.self.arrived (c.first_place_in.result + c.end_of-end.result) c.advance.ensures.arrived (omega (arith, there, stands.near)) c.self.view_is

pub advance-requires-clause-passed : goal.advance-requires-clause-passed
advance-requires-clause-passed g c =
    let s = state_of c.self.inside in
    let there : c.first_place_in.result + c.end_of-end.result ≡ place_past (state_of c.self.inside) c.args.frame =
    (λ i. c.first_place_in.ensures.place i + c.end_of-end.ensures i)
    ∙ ap (λ (l : Layout). first_place_in c.self.inside.start + frame_end l.markers c.args.frame.start c.args.frame.len) c.expecting.ensures in
    passed s c.args.frame c.self.inside.arrived.layout c.self.inside.arrived.base (c.first_place_in.result + c.end_of-end.result) c.self.invariant.layout c.self.invariant.base there c.self.invariant.keeps
    (subst (λ t. Stands t c.args.frame) (sym c.self.view_is) c.requires.stands) (subst (λ t. NoneReachesOver t c.args.frame) (sym c.self.view_is) c.requires.over)
