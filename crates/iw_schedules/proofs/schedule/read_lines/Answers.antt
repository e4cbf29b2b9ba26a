use Rattle.std.proofs.Common.{◌≡◌, ◌+◌, Some, None, refl, sym, ◌∙◌, arith}
use Rattle.std.specs.Option.{option_copied}
use Rattle.iw_schedules.specs.Pieces.{split_at_first}
use Rattle.iw_schedules.specs.Schedule.{schedule_of}
use Rattle.iw_schedules.proofs.Lines.{goes_on, is_last, ends}
use Rattle.iw_schedules.proofs.schedule.read_lines.Goals as goal

pub lines-init : goal.lines-init
unfolding schedule_of
lines-init g c = record { events = rw c.new-events.ensures.items refl; within = omega arith }

pub returns-in-Err : goal.returns-in-Err
returns-in-Err g c =
    let l = c.lines in
    let split = c.split_at in
    rw (c.at.ensures, ← l.invariant.events) (ends c.in-Err.error (l.before + 1) l.events.items l.left.now split.result.0.now (option_copied split.result.1) split.ensures.front split.ensures.back c.in-Err.ensures.events)

pub returns-in_default-rest : goal.returns-in_default-rest
returns-in_default-rest g c =
    let l = c.lines in
    let split = c.split_at in
    let back : None ≡ (split_at_first 10 l.left.now).1 = rw c.in_default-rest.is at split.ensures.back in
    sym l.invariant.events ∙ (goes_on (l.before + 1) l.events.items c.add_line.new.events.items l.left.now split.result.0.now None split.ensures.front back c.in_default.ensures.events ∙ is_last _ _)

pub lines-preserved : goal.lines-preserved
lines-preserved g c =
    let l = c.lines in
    let split = c.split_at in
    let back : Some c.in-Some.rest.now ≡ (split_at_first 10 l.left.now).1 = rw c.in-Some.is at split.ensures.back in
    let len = rw c.in-Some.is at split.ensures.len in
    record {
      events = sym (goes_on (l.before + 1) l.events.items c.add_line.new.events.items l.left.now split.result.0.now (Some c.in-Some.rest.now) split.ensures.front back c.in_default.ensures.events) ∙ l.invariant.events;
      within = omega arith;
    }
