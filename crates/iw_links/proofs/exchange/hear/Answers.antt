use Rattle.std.proofs.Common.{◌∙◌, sym}
use Rattle.iw_links.specs.Exchange.{Listening}
use Rattle.iw_links.specs.Standing.{standing, told_in, plan_of}
use Rattle.iw_links.proofs.Exchanges.{exchanges, fails_now, in_quiet, read_end, read_nothing, stays, stays_ended_through, stops_later, took}
use Rattle.iw_links.proofs.exchange.hear.Goals as goal

pub reads-init : goal.reads-init
reads-init g c = record {
  exchanged = λ k may. in_quiet _ _ _ _ _ (stays _ _);
  bounded = c.requires.reads;
}

pub reads-preserved : goal.reads-preserved
reads-preserved g c = record {
  exchanged = λ k may.
      let before = c.reads.invariant.exchanged k may in
      let hears = may (told_in c.reads.link) c.reads.link.is_open (sym c.is_over.ensures.is ∙ c.if-is_over.false) (stays_ended_through _ _ _ _ _ _ _ before) in
      let read = took (plan_of c.args.plan.now) _ _ (told_in c.reads.link) k _ _ _ (g.W.Write.contents c.reads.output) hears (rw c.in-Ok-Came.field-0-is at c.in-Ok-Came.ensures.ok) in
      exchanges _ _ _ _ _ _ _ _ _ _ (exchanges _ _ _ _ _ _ _ _ _ _ before read) (c.in-Ok.ensures.ok _ k);
  bounded = c.take_to.ensures.bounded;
}

pub returns-in-Err-take_turn-clause-err : goal.returns-in-Err-take_turn-clause-err
returns-in-Err-take_turn-clause-err g c = λ k may.
    let before = c.reads.invariant.exchanged k may in
    let hears = may (told_in c.reads.link) c.reads.link.is_open (sym c.is_over.ensures.is ∙ c.if-is_over.false) (stays_ended_through _ _ _ _ _ _ _ before) in
    let read = took (plan_of c.args.plan.now) _ _ (told_in c.reads.link) k _ _ _ (g.W.Write.contents c.reads.output) hears (rw c.in-Ok-Came.field-0-is at c.in-Ok-Came.ensures.ok) in
    stops_later _ _ _ _ _ _ _ _ _ _ _ (exchanges _ _ _ _ _ _ _ _ _ _ before read) (c.in-Err-take_turn.ensures.err _ k)

pub returns-then-is_over-clause-ok : goal.returns-then-is_over-clause-ok
returns-then-is_over-clause-ok g c = λ k may. c.reads.invariant.exchanged k may

pub returns-clause-err : goal.returns-clause-err
returns-clause-err g c = λ k may.
    fails_now _ _ (standing c.reads.endpoint c.reads.link) Listening k _ _ _ _ (c.reads.invariant.exchanged k may)

pub returns-in-Ok-End-clause-ok : goal.returns-in-Ok-End-clause-ok
returns-in-Ok-End-clause-ok g c = λ k may.
    let read = rw c.in-Ok-End.field-0-is at c.in-Ok-End.ensures.ok in
    exchanges _ _ _ _ _ _ _ _ _ _ (c.reads.invariant.exchanged k may)
    (read_end (plan_of c.args.plan.now) _ _ (told_in c.reads.link) k _ _ (g.W.Write.contents c.reads.output) read.0 read.1)

pub returns-in-Ok-Full-clause-err : goal.returns-in-Ok-Full-clause-err
returns-in-Ok-Full-clause-err g c = λ k may.
    let read = rw c.in-Ok-Full.field-0-is at c.in-Ok-Full.ensures.ok in
    fails_now _ _ (standing c.take_to.new.endpoint c.reads.link) Listening k _ _ _ _
    (exchanges _ _ _ _ _ _ _ _ _ _ (c.reads.invariant.exchanged k may)
    (read_nothing (plan_of c.args.plan.now) _ _ (told_in c.reads.link) k _ _ (g.W.Write.contents c.reads.output) read.0 read.1))

pub returns-in-Err-clause-err : goal.returns-in-Err-clause-err
returns-in-Err-clause-err g c = λ k may.
    fails_now _ _ (standing c.take_to.new.endpoint c.reads.link) Listening k _ _ _ _
    (exchanges _ _ _ _ _ _ _ _ _ _ (c.reads.invariant.exchanged k may)
    (read_nothing (plan_of c.args.plan.now) _ _ (told_in c.reads.link) k _ _ (g.W.Write.contents c.reads.output) c.in-Err.ensures.endpoint c.in-Err.ensures.err))
