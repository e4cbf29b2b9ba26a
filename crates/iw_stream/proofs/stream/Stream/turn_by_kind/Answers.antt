use Rattle.std.proofs.Common.{◌≡◌, false, true, ap, ◌∙◌}
use Rattle.iw_stream.specs.Fields.{state_of}
use Rattle.iw_stream.specs.Starting.{is_open}
use Rattle.iw_stream.specs.Stream.{StreamState, ended}
use Rattle.iw_stream.specs.Work.{Turn, waiting, step_of, left_by, table_left}
use Rattle.iw_stream.proofs.Keeping.{keeps_fronted}
use Rattle.iw_stream.proofs.Waiting.{kept_scene, waiting_stands}
use Rattle.iw_stream.proofs.stream.Stream.turn_by_kind.Goals as goal

pub invariant_of-self : goal.invariant_of-self
invariant_of-self g c = record {
  keeps =
      let s = state_of c.self.inside in
      let running : is_open (state_of c.self.inside).start ≡ true = ap (λ (t : StreamState). is_open t.start) c.self.view_is ∙ c.requires.open in
      let runs : ended (state_of c.self.inside) ≡ false = ap ended c.self.view_is ∙ c.requires.runs in
      let w = waiting_stands s c.self.invariant.keeps runs (kept_scene s c.self.inside.arrived.layout c.self.inside.arrived.base c.self.invariant.layout c.self.invariant.base c.limits.ensures.tracked.keeps) c.limits.ensures.apart c.limits.ensures.arrived c.args.frame (ap waiting c.self.view_is ∙ c.requires.waiting) in
      keeps_fronted s c.args.frame running w.0 w.1 c.self.invariant.keeps;
  layout = c.self.invariant.layout;
  base = c.self.invariant.base;
}

pub returns-clause-step : goal.returns-clause-step
returns-clause-step g c = c.turn_due.ensures.step ∙ ap (λ (t : StreamState). step_of c.args.memory.now t (Turn c.args.frame)) c.self.view_is

pub returns-clause-after : goal.returns-clause-after
returns-clause-after g c = c.turn_due.ensures.after ∙ ap (λ (t : StreamState). left_by c.args.memory.now t (Turn c.args.frame)) c.self.view_is

pub returns-clause-memory : goal.returns-clause-memory
returns-clause-memory g c = c.turn_due.ensures.memory ∙ ap (λ (t : StreamState). table_left c.args.memory.now t (Turn c.args.frame)) c.self.view_is
