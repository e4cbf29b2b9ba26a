-- Each law follows from the rules.
use Rattle.std.specs.Prelude.{List}
use Rattle.std.proofs.lemmas.Result.{IfOk-weaker}
use Rattle.iw_events.specs.declared.act.Entry.{Entry}
use Rattle.iw_laws.specs.Words.{Octets}
use Rattle.iw_laws.specs.Rules.{start, Follows}
use Rattle.iw_laws.proofs.Laws.{in_order, covered, emission, sized_all, speaks_all, finished_all, answered_all, keeps_octets, carries_octets, opens_first, fetched_all, answering_all, few_reads, turns_all, nothing_at_rest, idle_at_rest, early_all, second_all, once_all, ends_all, within_all, shows_memory}
use Rattle.iw_laws.proofs.AtRest.{all_arrived}
use Rattle.iw_laws.proofs.Rested.{work_rests}
use Rattle.iw_laws.proofs.Holding.{holds_written, holds_fetched}
use Rattle.iw_laws.proofs.Apart.{isolated_all}
use Rattle.iw_laws.proofs.Runs.{Run, run_in, run_of}
use Rattle.iw_world.proofs.world.World.run.Goals as goal

ran : (trace : List (Entry Octets)) → Follows start trace → Run trace
ran trace follows = run_in trace (run_of trace follows)

pub returns-clause-in_order : goal.returns-clause-in_order
returns-clause-in_order g c = IfOk-weaker c.trace_of.result _ _ (λ trace follows. in_order trace.items (ran trace.items follows)) c.trace_of.ensures.follows

pub returns-clause-covered : goal.returns-clause-covered
returns-clause-covered g c = IfOk-weaker c.trace_of.result _ _ (λ trace follows. covered trace.items (ran trace.items follows)) c.trace_of.ensures.follows

pub returns-clause-emission : goal.returns-clause-emission
returns-clause-emission g c = IfOk-weaker c.trace_of.result _ _ (λ trace follows. emission trace.items (ran trace.items follows)) c.trace_of.ensures.follows

pub returns-clause-sized : goal.returns-clause-sized
returns-clause-sized g c = IfOk-weaker c.trace_of.result _ _ (λ trace follows. sized_all trace.items (ran trace.items follows)) c.trace_of.ensures.follows

pub returns-clause-speaks : goal.returns-clause-speaks
returns-clause-speaks g c = IfOk-weaker c.trace_of.result _ _ (λ trace follows. speaks_all trace.items (ran trace.items follows)) c.trace_of.ensures.follows

pub returns-clause-finished : goal.returns-clause-finished
returns-clause-finished g c = IfOk-weaker c.trace_of.result _ _ (λ trace follows. finished_all trace.items (ran trace.items follows)) c.trace_of.ensures.follows

pub returns-clause-answered : goal.returns-clause-answered
returns-clause-answered g c = IfOk-weaker c.trace_of.result _ _ (λ trace follows. answered_all trace.items (ran trace.items follows)) c.trace_of.ensures.follows

pub returns-clause-kept : goal.returns-clause-kept
returns-clause-kept g c = IfOk-weaker c.trace_of.result _ _ (λ trace follows. keeps_octets trace.items (ran trace.items follows)) c.trace_of.ensures.follows

pub returns-clause-carried : goal.returns-clause-carried
returns-clause-carried g c = IfOk-weaker c.trace_of.result _ _ (λ trace follows. carries_octets trace.items (ran trace.items follows)) c.trace_of.ensures.follows

pub returns-clause-opened : goal.returns-clause-opened
returns-clause-opened g c = IfOk-weaker c.trace_of.result _ _ (λ trace follows. opens_first trace.items (ran trace.items follows)) c.trace_of.ensures.follows

pub returns-clause-faithful : goal.returns-clause-faithful
returns-clause-faithful g c = IfOk-weaker c.trace_of.result _ _ (λ trace follows. fetched_all trace.items (run_of trace.items follows)) c.trace_of.ensures.follows

pub returns-clause-answering : goal.returns-clause-answering
returns-clause-answering g c = IfOk-weaker c.trace_of.result _ _ (λ trace follows. answering_all trace.items (ran trace.items follows)) c.trace_of.ensures.follows

pub returns-clause-few_reads : goal.returns-clause-few_reads
returns-clause-few_reads g c = IfOk-weaker c.trace_of.result _ _ (λ trace follows. few_reads trace.items (ran trace.items follows)) c.trace_of.ensures.follows

pub returns-clause-turns : goal.returns-clause-turns
returns-clause-turns g c = IfOk-weaker c.trace_of.result _ _ (λ trace follows. turns_all trace.items (run_of trace.items follows)) c.trace_of.ensures.follows

pub returns-clause-nothing : goal.returns-clause-nothing
returns-clause-nothing g c = IfOk-weaker c.trace_of.result _ _ (λ trace follows. nothing_at_rest trace.items (ran trace.items follows)) c.trace_of.ensures.follows

pub returns-clause-idle : goal.returns-clause-idle
returns-clause-idle g c = IfOk-weaker c.trace_of.result _ _ (λ trace follows. idle_at_rest trace.items (ran trace.items follows)) c.trace_of.ensures.follows

pub returns-clause-arrived : goal.returns-clause-arrived
returns-clause-arrived g c = IfOk-weaker c.trace_of.result _ _ (λ trace follows. all_arrived trace.items (ran trace.items follows)) c.trace_of.ensures.follows

pub returns-clause-rests : goal.returns-clause-rests
returns-clause-rests g c = IfOk-weaker c.trace_of.result _ _ (λ trace follows. work_rests trace.items (ran trace.items follows)) c.trace_of.ensures.follows

pub returns-clause-holds_written : goal.returns-clause-holds_written
returns-clause-holds_written g c = IfOk-weaker c.trace_of.result _ _ (λ trace follows. holds_written trace.items (run_of trace.items follows)) c.trace_of.ensures.follows

pub returns-clause-holds_fetched : goal.returns-clause-holds_fetched
returns-clause-holds_fetched g c = IfOk-weaker c.trace_of.result _ _ (λ trace follows. holds_fetched trace.items (run_of trace.items follows)) c.trace_of.ensures.follows

pub returns-clause-early : goal.returns-clause-early
returns-clause-early g c = IfOk-weaker c.trace_of.result _ _ (λ trace follows. early_all trace.items (run_of trace.items follows)) c.trace_of.ensures.follows

pub returns-clause-no_second_check : goal.returns-clause-no_second_check
returns-clause-no_second_check g c = IfOk-weaker c.trace_of.result _ _ (λ trace follows. second_all trace.items (run_of trace.items follows)) c.trace_of.ensures.follows

pub returns-clause-once : goal.returns-clause-once
returns-clause-once g c = IfOk-weaker c.trace_of.result _ _ (λ trace follows. once_all trace.items (run_of trace.items follows)) c.trace_of.ensures.follows

pub returns-clause-ended : goal.returns-clause-ended
returns-clause-ended g c = IfOk-weaker c.trace_of.result _ _ (λ trace follows. ends_all trace.items (ran trace.items follows)) c.trace_of.ensures.follows

pub returns-clause-isolated : goal.returns-clause-isolated
returns-clause-isolated g c = IfOk-weaker c.trace_of.result _ _ (λ trace follows. isolated_all trace.items follows) c.trace_of.ensures.follows

pub returns-clause-within : goal.returns-clause-within
returns-clause-within g c = IfOk-weaker c.trace_of.result _ _ (λ trace follows. within_all trace.items (run_of trace.items follows)) c.trace_of.ensures.follows

pub returns-clause-memory : goal.returns-clause-memory
returns-clause-memory g c = IfOk-weaker c.trace_of.result _ _ (λ trace follows. shows_memory trace.items follows) c.trace_of.ensures.follows
