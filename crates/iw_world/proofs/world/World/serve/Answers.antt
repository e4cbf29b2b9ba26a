-- Each law holds of what a server's run tells.
use Rattle.std.specs.Prelude.{List}
use Rattle.std.proofs.lemmas.Result.{IfOk-weaker}
use Rattle.iw_events.specs.declared.server.ServerEntry.{ServerEntry}
use Rattle.iw_laws.specs.Words.{Octets}
use Rattle.iw_laws.specs.Rules.{start}
use Rattle.iw_laws.specs.Servers.{told, ServerFollows}
use Rattle.iw_laws.specs.ServerLaws.{by_number, NoneLimited}
use Rattle.iw_laws.proofs.Serving.{server_run, unlimited_run}
use Rattle.iw_laws.proofs.Laws.{in_order, covered, emission, sized_all, speaks_all, nothing_at_rest, finished_all, opens_first, carries_octets, keeps_octets, turns_all, spans_once, idle_at_rest, early_all, second_all, once_all, ends_all, within_all, fetched_all, answering_all, few_reads, shows_regions, answered_all}
use Rattle.iw_laws.proofs.AtRest.{all_arrived}
use Rattle.iw_laws.proofs.Rested.{work_rests}
use Rattle.iw_laws.proofs.Holding.{holds_written, holds_fetched}
use Rattle.iw_laws.proofs.Runs.{Run, ToldRun}
use Rattle.iw_laws.proofs.Gone.{gives_once, closed_is_over}
use Rattle.iw_world.proofs.world.World.serve.Goals as goal

ran : (trace : List (ServerEntry Octets)) → ServerFollows by_number start trace → Run (told by_number trace)
ran trace follows = server_run by_number trace (λ x n m same. same) follows

ran_unlimited : (trace : List (ServerEntry Octets)) → ServerFollows by_number start trace → NoneLimited trace → ToldRun (told by_number trace)
ran_unlimited trace follows none = unlimited_run by_number trace (λ x n m same. same) follows none

pub returns-clause-in_order : goal.returns-clause-in_order
returns-clause-in_order g c = IfOk-weaker c.served.result _ _ (λ trace follows. in_order (told by_number trace.items) (ran trace.items follows)) c.served.ensures.follows

pub returns-clause-covered : goal.returns-clause-covered
returns-clause-covered g c = IfOk-weaker c.served.result _ _ (λ trace follows. covered (told by_number trace.items) (ran trace.items follows)) c.served.ensures.follows

pub returns-clause-emission : goal.returns-clause-emission
returns-clause-emission g c = IfOk-weaker c.served.result _ _ (λ trace follows. emission (told by_number trace.items) (ran trace.items follows)) c.served.ensures.follows

pub returns-clause-sized : goal.returns-clause-sized
returns-clause-sized g c = IfOk-weaker c.served.result _ _ (λ trace follows. sized_all (told by_number trace.items) (ran trace.items follows)) c.served.ensures.follows

pub returns-clause-speaks : goal.returns-clause-speaks
returns-clause-speaks g c = IfOk-weaker c.served.result _ _ (λ trace follows. speaks_all (told by_number trace.items) (ran trace.items follows)) c.served.ensures.follows

pub returns-clause-nothing : goal.returns-clause-nothing
returns-clause-nothing g c = IfOk-weaker c.served.result _ _ (λ trace follows. nothing_at_rest (told by_number trace.items) (ran trace.items follows)) c.served.ensures.follows

pub returns-clause-finished : goal.returns-clause-finished
returns-clause-finished g c = IfOk-weaker c.served.result _ _ (λ trace follows. finished_all (told by_number trace.items) (ran trace.items follows)) c.served.ensures.follows

pub returns-clause-opened : goal.returns-clause-opened
returns-clause-opened g c = IfOk-weaker c.served.result _ _ (λ trace follows. opens_first (told by_number trace.items) (ran trace.items follows)) c.served.ensures.follows

pub returns-clause-carried : goal.returns-clause-carried
returns-clause-carried g c = IfOk-weaker c.served.result _ _ (λ trace follows. carries_octets (told by_number trace.items) (ran trace.items follows)) c.served.ensures.follows

pub returns-clause-kept : goal.returns-clause-kept
returns-clause-kept g c = IfOk-weaker c.served.result _ _ (λ trace follows. keeps_octets (told by_number trace.items) (ran trace.items follows)) c.served.ensures.follows

pub returns-clause-turns : goal.returns-clause-turns
returns-clause-turns g c = IfOk-weaker c.served.result _ _ (λ trace follows none. turns_all (told by_number trace.items) (ran_unlimited trace.items follows none)) c.served.ensures.follows

pub returns-clause-none_twice : goal.returns-clause-none_twice
returns-clause-none_twice g c = IfOk-weaker c.served.result _ _ (λ trace follows. spans_once (told by_number trace.items) (ran trace.items follows)) c.served.ensures.follows

pub returns-clause-idle : goal.returns-clause-idle
returns-clause-idle g c = IfOk-weaker c.served.result _ _ (λ trace follows. idle_at_rest (told by_number trace.items) (ran trace.items follows)) c.served.ensures.follows

pub returns-clause-arrived : goal.returns-clause-arrived
returns-clause-arrived g c = IfOk-weaker c.served.result _ _ (λ trace follows. all_arrived (told by_number trace.items) (ran trace.items follows)) c.served.ensures.follows

pub returns-clause-rests : goal.returns-clause-rests
returns-clause-rests g c = IfOk-weaker c.served.result _ _ (λ trace follows. work_rests (told by_number trace.items) (ran trace.items follows)) c.served.ensures.follows

pub returns-clause-early : goal.returns-clause-early
returns-clause-early g c = IfOk-weaker c.served.result _ _ (λ trace follows none. early_all (told by_number trace.items) (ran_unlimited trace.items follows none)) c.served.ensures.follows

pub returns-clause-no_second_check : goal.returns-clause-no_second_check
returns-clause-no_second_check g c = IfOk-weaker c.served.result _ _ (λ trace follows none. second_all (told by_number trace.items) (ran_unlimited trace.items follows none)) c.served.ensures.follows

pub returns-clause-once : goal.returns-clause-once
returns-clause-once g c = IfOk-weaker c.served.result _ _ (λ trace follows none. once_all (told by_number trace.items) (ran_unlimited trace.items follows none)) c.served.ensures.follows

pub returns-clause-ended : goal.returns-clause-ended
returns-clause-ended g c = IfOk-weaker c.served.result _ _ (λ trace follows. ends_all (told by_number trace.items) (ran trace.items follows)) c.served.ensures.follows

pub returns-clause-within : goal.returns-clause-within
returns-clause-within g c = IfOk-weaker c.served.result _ _ (λ trace follows none. within_all (told by_number trace.items) (ran_unlimited trace.items follows none)) c.served.ensures.follows

pub returns-clause-faithful : goal.returns-clause-faithful
returns-clause-faithful g c = IfOk-weaker c.served.result _ _ (λ trace follows none. fetched_all (told by_number trace.items) (ran_unlimited trace.items follows none)) c.served.ensures.follows

pub returns-clause-answering : goal.returns-clause-answering
returns-clause-answering g c = IfOk-weaker c.served.result _ _ (λ trace follows. answering_all (told by_number trace.items) (ran trace.items follows)) c.served.ensures.follows

pub returns-clause-holds_written : goal.returns-clause-holds_written
returns-clause-holds_written g c = IfOk-weaker c.served.result _ _ (λ trace follows none. holds_written (told by_number trace.items) (ran_unlimited trace.items follows none)) c.served.ensures.follows

pub returns-clause-holds_fetched : goal.returns-clause-holds_fetched
returns-clause-holds_fetched g c = IfOk-weaker c.served.result _ _ (λ trace follows none. holds_fetched (told by_number trace.items) (ran_unlimited trace.items follows none)) c.served.ensures.follows

pub returns-clause-few_reads : goal.returns-clause-few_reads
returns-clause-few_reads g c = IfOk-weaker c.served.result _ _ (λ trace follows. few_reads (told by_number trace.items) (ran trace.items follows)) c.served.ensures.follows

pub returns-clause-regions : goal.returns-clause-regions
returns-clause-regions g c = IfOk-weaker c.served.result _ _ (λ trace follows none. shows_regions (told by_number trace.items) (ran_unlimited trace.items follows none)) c.served.ensures.follows

pub returns-clause-answered : goal.returns-clause-answered
returns-clause-answered g c = IfOk-weaker c.served.result _ _ (λ trace follows. answered_all (told by_number trace.items) (ran trace.items follows)) c.served.ensures.follows

pub returns-clause-given : goal.returns-clause-given
returns-clause-given g c = IfOk-weaker c.served.result _ _ (λ trace follows. gives_once by_number trace.items follows) c.served.ensures.follows

pub returns-clause-closed : goal.returns-clause-closed
returns-clause-closed g c = IfOk-weaker c.served.result _ _ (λ trace follows. closed_is_over by_number trace.items follows) c.served.ensures.follows
