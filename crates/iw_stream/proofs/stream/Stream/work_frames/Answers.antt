use Rattle.std.proofs.Common.{◌≡◌, Ok, ◌∙◌, ap, sym, subst}
use Rattle.std.specs.Prelude.{IfOk, IfSome, OnOk, is_some}
use Rattle.std.specs.Option.{option_map_or}
use Rattle.iw_stream.specs.declared.answer.Step.TheVariants as steps
use Rattle.iw_stream.specs.Stream.{StreamState}
use Rattle.iw_stream.specs.Work.{Judge, Rest, next_frame, frame_task, judged_step, step_of, left_by, table_left}
use Rattle.iw_stream.proofs.Early.{IsUnjudged, task_front, unjudged, tries}
use Rattle.iw_stream.proofs.stream.Stream.work_frames.Given as given
use Rattle.iw_stream.proofs.stream.Stream.work_frames.Goals as goal

-- nothing waits, and no frame is whole
rests : (g : given.Over) (c : goal.After-try_slow g) → IsUnjudged c.args.memory.now c.judge.new.memory c.args.self.now c.judge.new.self
rests g c =
    let table = c.args.memory.now in
    let same : c.judge_send.new.self ≡ c.args.self.now = c.in_default-judge_send.ensures.none ∙ c.in-Ok.ensures.kept c.if-turned.false in
    unjudged table c.judge.new.memory c.args.self.now c.judge.new.self c.in-Ok-judge.found c.in_default-found.is (c.in-Ok-judge.ensures.whole ∙ ap (λ (t : StreamState). is_some (next_frame t)) same)
    (c.in-Ok-judge.ensures.after ∙ ap (λ (t : StreamState). left_by table t (option_map_or Judge (next_frame t) Rest)) same)
    (c.in-Ok-judge.ensures.memory ∙ ap (λ (t : StreamState). table_left table t (option_map_or Judge (next_frame t) Rest)) same) (c.in-Ok.ensures.waiting c.if-turned.false)

pub returns-in_default-found-clause-step : goal.returns-in_default-found-clause-step
returns-in_default-found-clause-step g c =
    subst (λ x. IfOk c.try_slow.result (λ step. step ≡ x)) (tries step_of c.args.memory.now c.judge.new.memory c.args.self.now c.judge.new.self (rests g c)) c.try_slow.ensures.step

pub returns-in_default-found-clause-after : goal.returns-in_default-found-clause-after
returns-in_default-found-clause-after g c =
    subst (λ x. OnOk c.try_slow.result (c.try_slow.new.self ≡ x)) (tries left_by c.args.memory.now c.judge.new.memory c.args.self.now c.judge.new.self (rests g c)) c.try_slow.ensures.after

pub returns-in_default-found-clause-memory : goal.returns-in_default-found-clause-memory
returns-in_default-found-clause-memory g c =
    subst (λ x. OnOk c.try_slow.result (c.try_slow.new.memory ≡ x)) (tries table_left c.args.memory.now c.judge.new.memory c.args.self.now c.judge.new.self (rests g c)) c.try_slow.ensures.memory

-- the one there was judged
judges : (g : given.Over) (c : goal.After-landed_step g) → option_map_or Judge (next_frame c.judge_send.new.self) Rest ≡ frame_task c.args.self.now
judges g c =
    let same : c.judge_send.new.self ≡ c.args.self.now = c.in_default-judge_send.ensures.none ∙ c.in-Ok.ensures.kept c.if-turned.false in
    ap (λ (t : StreamState). option_map_or Judge (next_frame t) Rest) same
    ∙ task_front c.args.self.now (c.in-Ok.ensures.waiting c.if-turned.false) (sym (c.in-Ok-judge.ensures.whole ∙ ap (λ (t : StreamState). is_some (next_frame t)) same) ∙ ap is_some c.in-Some-found.is) (c.in-Ok.ensures.clear c.if-turned.false)

pub returns-clause-step : goal.returns-clause-step
returns-clause-step g c =
    let table = c.args.memory.now in
    let t = c.judge_send.new.self in
    let same : c.judge_send.new.self ≡ c.args.self.now = c.in_default-judge_send.ensures.none ∙ c.in-Ok.ensures.kept c.if-turned.false in
    c.landed_step.ensures.step
    ∙ subst (λ o. IfSome o (λ landing. judged_step (Ok landing) ≡ step_of table t (option_map_or Judge (next_frame t) Rest))) c.in-Some-found.is c.in-Ok-judge.ensures.step
    ∙ (λ i. step_of table (same i) (judges g c i))

pub returns-clause-after : goal.returns-clause-after
returns-clause-after g c =
    let same : c.judge_send.new.self ≡ c.args.self.now = c.in_default-judge_send.ensures.none ∙ c.in-Ok.ensures.kept c.if-turned.false in
    c.in-Ok-judge.ensures.after ∙ (λ i. left_by c.args.memory.now (same i) (judges g c i))

pub returns-clause-memory : goal.returns-clause-memory
returns-clause-memory g c =
    let same : c.judge_send.new.self ≡ c.args.self.now = c.in_default-judge_send.ensures.none ∙ c.in-Ok.ensures.kept c.if-turned.false in
    c.in-Ok-judge.ensures.memory ∙ (λ i. table_left c.args.memory.now (same i) (judges g c i))

-- a Send's was judged
pub returns-in-Some-clause-step : goal.returns-in-Some-clause-step
returns-in-Some-clause-step g c =
    let table = c.args.memory.now in
    let same : c.turn_early.new.self ≡ c.args.self.now = c.in-Ok.ensures.kept c.if-turned.false in
    let there = ap (λ (t : StreamState). is_some (next_frame t)) (sym same) ∙ c.in-Some.ensures.whole in
    let sent = ap (λ (t : StreamState). option_map_or Judge (next_frame t) Rest) same
    ∙ task_front c.args.self.now (c.in-Ok.ensures.waiting c.if-turned.false) there (c.in-Ok.ensures.clear c.if-turned.false) in
    (λ i. steps.Buffered (sym c.in-Some.field-0-is i).msn (sym c.in-Some.field-0-is i).mo (sym c.in-Some.field-0-is i).len)
    ∙ c.in-Some.ensures.step table ∙ (λ i. step_of table (same i) (sent i))

pub returns-in-Some-clause-after : goal.returns-in-Some-clause-after
returns-in-Some-clause-after g c =
    let table = c.args.memory.now in
    let same : c.turn_early.new.self ≡ c.args.self.now = c.in-Ok.ensures.kept c.if-turned.false in
    let there = ap (λ (t : StreamState). is_some (next_frame t)) (sym same) ∙ c.in-Some.ensures.whole in
    let sent = ap (λ (t : StreamState). option_map_or Judge (next_frame t) Rest) same
    ∙ task_front c.args.self.now (c.in-Ok.ensures.waiting c.if-turned.false) there (c.in-Ok.ensures.clear c.if-turned.false) in
    c.in-Some.ensures.after table ∙ (λ i. left_by table (same i) (sent i))

-- there is one of another kind, or with a fault, and nothing was done
record IsOther (g : given.Over) (c : goal.After-judge_slow g) : Type 0 where
  same : c.judge.new.self ≡ c.args.self.now
  table : c.judge.new.memory ≡ c.args.memory.now
  task : option_map_or Judge (next_frame c.judge.new.self) Rest ≡ frame_task c.args.self.now

other : (g : given.Over) (c : goal.After-judge_slow g) → IsOther g c
other g c =
    let early : c.judge_send.new.self ≡ c.args.self.now = c.in_default-judge_send.ensures.none ∙ c.in-Ok.ensures.kept c.if-turned.false in
    let same : c.judge.new.self ≡ c.args.self.now = c.in_default-judge.ensures.err.0 ∙ early in
    let there = ap (λ (t : StreamState). is_some (next_frame t)) (sym early) ∙ c.in_default-judge.ensures.other in
    record {
      same = same;
      table = c.in_default-judge.ensures.err.1;
      task = ap (λ (t : StreamState). option_map_or Judge (next_frame t) Rest) same
          ∙ task_front c.args.self.now (c.in-Ok.ensures.waiting c.if-turned.false) there (c.in-Ok.ensures.clear c.if-turned.false);
    }

pub returns-in_default-judge-clause-step : goal.returns-in_default-judge-clause-step
returns-in_default-judge-clause-step g c =
    let w = other g c in
    c.judge_slow.ensures.step ∙ (λ i. step_of (w.table i) (w.same i) (w.task i))

pub returns-in_default-judge-clause-after : goal.returns-in_default-judge-clause-after
returns-in_default-judge-clause-after g c =
    let w = other g c in
    c.judge_slow.ensures.after ∙ (λ i. left_by (w.table i) (w.same i) (w.task i))

pub returns-in_default-judge-clause-memory : goal.returns-in_default-judge-clause-memory
returns-in_default-judge-clause-memory g c =
    let w = other g c in
    c.judge_slow.ensures.memory ∙ (λ i. table_left (w.table i) (w.same i) (w.task i))
