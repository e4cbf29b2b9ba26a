-- Each of these laws holds of every run that has the regions that were told, as a server's has that limits none to one stream.
use Rattle.iw_laws.specs.Servers.{told}
use Rattle.iw_laws.proofs.Serving.{unlimited_run}
use Rattle.iw_laws.proofs.Laws.{turns_all, early_all, second_all, once_all, within_all, fetched_all, shows_regions}
use Rattle.iw_laws.proofs.Holding.{holds_written, holds_fetched}
use Rattle.iw_laws.proofs.servers.keep_the_laws_unlimited.Goals as goal

pub returns-clause-turns : goal.returns-clause-turns
returns-clause-turns c = λ name trace apart follows none. turns_all (told name trace) (unlimited_run name trace apart follows none)

pub returns-clause-early : goal.returns-clause-early
returns-clause-early c = λ name trace apart follows none. early_all (told name trace) (unlimited_run name trace apart follows none)

pub returns-clause-no_second_check : goal.returns-clause-no_second_check
returns-clause-no_second_check c = λ name trace apart follows none. second_all (told name trace) (unlimited_run name trace apart follows none)

pub returns-clause-once : goal.returns-clause-once
returns-clause-once c = λ name trace apart follows none. once_all (told name trace) (unlimited_run name trace apart follows none)

pub returns-clause-within : goal.returns-clause-within
returns-clause-within c = λ name trace apart follows none. within_all (told name trace) (unlimited_run name trace apart follows none)

pub returns-clause-faithful : goal.returns-clause-faithful
returns-clause-faithful c = λ name trace apart follows none. fetched_all (told name trace) (unlimited_run name trace apart follows none)

pub returns-clause-holds_written : goal.returns-clause-holds_written
returns-clause-holds_written c = λ name trace apart follows none. holds_written (told name trace) (unlimited_run name trace apart follows none)

pub returns-clause-holds_fetched : goal.returns-clause-holds_fetched
returns-clause-holds_fetched c = λ name trace apart follows none. holds_fetched (told name trace) (unlimited_run name trace apart follows none)

pub returns-clause-regions : goal.returns-clause-regions
returns-clause-regions c = λ name trace apart follows none. shows_regions (told name trace) (unlimited_run name trace apart follows none)
