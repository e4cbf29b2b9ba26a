-- Each of these laws holds of every run, and what a server's run tells is one.
use Rattle.iw_laws.specs.Servers.{told}
use Rattle.iw_laws.proofs.Serving.{server_run}
use Rattle.iw_laws.proofs.Laws.{in_order, covered, emission, sized_all, speaks_all, nothing_at_rest, finished_all, opens_first, carries_octets, keeps_octets, spans_once, idle_at_rest, ends_all, answering_all, few_reads, answered_all}
use Rattle.iw_laws.proofs.AtRest.{all_arrived}
use Rattle.iw_laws.proofs.Rested.{work_rests}
use Rattle.iw_laws.proofs.servers.keep_the_laws.Goals as goal

pub returns-clause-in_order : goal.returns-clause-in_order
returns-clause-in_order c = λ name trace apart follows. in_order (told name trace) (server_run name trace apart follows)

pub returns-clause-covered : goal.returns-clause-covered
returns-clause-covered c = λ name trace apart follows. covered (told name trace) (server_run name trace apart follows)

pub returns-clause-emission : goal.returns-clause-emission
returns-clause-emission c = λ name trace apart follows. emission (told name trace) (server_run name trace apart follows)

pub returns-clause-sized : goal.returns-clause-sized
returns-clause-sized c = λ name trace apart follows. sized_all (told name trace) (server_run name trace apart follows)

pub returns-clause-speaks : goal.returns-clause-speaks
returns-clause-speaks c = λ name trace apart follows. speaks_all (told name trace) (server_run name trace apart follows)

pub returns-clause-nothing : goal.returns-clause-nothing
returns-clause-nothing c = λ name trace apart follows. nothing_at_rest (told name trace) (server_run name trace apart follows)

pub returns-clause-finished : goal.returns-clause-finished
returns-clause-finished c = λ name trace apart follows. finished_all (told name trace) (server_run name trace apart follows)

pub returns-clause-opened : goal.returns-clause-opened
returns-clause-opened c = λ name trace apart follows. opens_first (told name trace) (server_run name trace apart follows)

pub returns-clause-carried : goal.returns-clause-carried
returns-clause-carried c = λ name trace apart follows. carries_octets (told name trace) (server_run name trace apart follows)

pub returns-clause-kept : goal.returns-clause-kept
returns-clause-kept c = λ name trace apart follows. keeps_octets (told name trace) (server_run name trace apart follows)

pub returns-clause-none_twice : goal.returns-clause-none_twice
returns-clause-none_twice c = λ name trace apart follows. spans_once (told name trace) (server_run name trace apart follows)

pub returns-clause-idle : goal.returns-clause-idle
returns-clause-idle c = λ name trace apart follows. idle_at_rest (told name trace) (server_run name trace apart follows)

pub returns-clause-arrived : goal.returns-clause-arrived
returns-clause-arrived c = λ name trace apart follows. all_arrived (told name trace) (server_run name trace apart follows)

pub returns-clause-rests : goal.returns-clause-rests
returns-clause-rests c = λ name trace apart follows. work_rests (told name trace) (server_run name trace apart follows)

pub returns-clause-ended : goal.returns-clause-ended
returns-clause-ended c = λ name trace apart follows. ends_all (told name trace) (server_run name trace apart follows)

pub returns-clause-answering : goal.returns-clause-answering
returns-clause-answering c = λ name trace apart follows. answering_all (told name trace) (server_run name trace apart follows)

pub returns-clause-few_reads : goal.returns-clause-few_reads
returns-clause-few_reads c = λ name trace apart follows. few_reads (told name trace) (server_run name trace apart follows)

pub returns-clause-answered : goal.returns-clause-answered
returns-clause-answered c = λ name trace apart follows. answered_all (told name trace) (server_run name trace apart follows)
