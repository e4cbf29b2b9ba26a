use Rattle.std.proofs.Common.{◌≡◌, ◌<◌, ◌^◌, sym, ap, ◌∙◌, subst}
use Rattle.iw_queues.specs.Queue.{Queue, done_in, handed_from}
use Rattle.iw_stream.specs.Fields.{state_of}
use Rattle.iw_stream.specs.Kept.{AreAwaited}
use Rattle.iw_stream.specs.Work.{Hear, step_of, left_by, work_step, worked}
use Rattle.iw_stream.proofs.Keeping.{keeps_queue}
use Rattle.iw_stream.proofs.Reading.{awaited_handed, first_handed}
use Rattle.iw_stream.proofs.Tasks.{task_hears}
use Rattle.iw_stream.proofs.stream.Stream.work.Goals as goal

pub returns-then-awaits_frame-clause-step : goal.returns-then-awaits_frame-clause-step
returns-then-awaits_frame-clause-step g c =
    let s = state_of c.self.inside in
    let table = c.args.memory.now in
    let hears = task_hears s (sym c.in_default.ensures.done) (sym c.has_ended.ensures ∙ c.if-has_ended.false) (sym c.awaits_frame.ensures ∙ c.if-awaits_frame.true) in
    c.hear.ensures.step table ∙ ap (step_of table s) (sym hears) ∙ ap (work_step table) c.self.view_is

pub returns-then-awaits_frame-clause-after : goal.returns-then-awaits_frame-clause-after
returns-then-awaits_frame-clause-after g c =
    let s = state_of c.self.inside in
    let table = c.args.memory.now in
    let hears = task_hears s (sym c.in_default.ensures.done) (sym c.has_ended.ensures ∙ c.if-has_ended.false) (sym c.awaits_frame.ensures ∙ c.if-awaits_frame.true) in
    c.hear.ensures.after table ∙ ap (λ q. left_by table (record s { queue = q }) Hear) c.in_default.ensures.after ∙ ap (left_by table s) (sym hears) ∙ ap (worked table) c.self.view_is

pub invariant_of-self : goal.invariant_of-self
invariant_of-self g c = record {
  keeps =
      let s = state_of c.self.inside in
      let after : c.next.new.self ≡ handed_from c.self.inside.queue (done_in c.self.inside.queue) = c.next.ensures.after ∙ ap (handed_from c.self.inside.queue) c.next.ensures.done in
      keeps_queue s c.next.new.self
      (subst (λ (q : Queue). q.sent.first < 2 ^ 64) (sym after) (first_handed s.queue (done_in s.queue) c.self.invariant.keeps.first))
      (λ runs. subst (λ (q : Queue). AreAwaited q.sent c.self.inside.reads) (sym after) (awaited_handed s.queue s.reads c.self.invariant.keeps.first (c.self.invariant.keeps.awaited runs)))
      c.self.invariant.keeps;
  layout = c.self.invariant.layout;
  base = c.self.invariant.base;
}
