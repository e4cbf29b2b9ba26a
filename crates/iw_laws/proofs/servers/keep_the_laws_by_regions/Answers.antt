-- Each act of a stream is so by the regions that stand at its end.
use Rattle.iw_laws.proofs.ServerTables.{of_server_regions, within_as, fetch_as, turns_as, early_as, second_as, placed_as}
use Rattle.iw_laws.proofs.ServerCalls.{shows_server_memory}
use Rattle.iw_laws.proofs.ServerHolding.{server_holds_written, server_holds_fetched}
use Rattle.iw_laws.specs.ServerRegions.{WithinAs, FetchAs, TurnsAs, EarlyAs, SecondAs, PlacedAs}
use Rattle.iw_laws.proofs.servers.keep_the_laws_by_regions.Goals as goal

pub returns-clause-within : goal.returns-clause-within
returns-clause-within c = of_server_regions WithinAs within_as

pub returns-clause-faithful : goal.returns-clause-faithful
returns-clause-faithful c = of_server_regions FetchAs fetch_as

pub returns-clause-turns : goal.returns-clause-turns
returns-clause-turns c = of_server_regions TurnsAs turns_as

pub returns-clause-early : goal.returns-clause-early
returns-clause-early c = of_server_regions EarlyAs early_as

pub returns-clause-no_second_check : goal.returns-clause-no_second_check
returns-clause-no_second_check c = of_server_regions SecondAs second_as

pub returns-clause-placed : goal.returns-clause-placed
returns-clause-placed c = of_server_regions PlacedAs placed_as

pub returns-clause-memory : goal.returns-clause-memory
returns-clause-memory c = shows_server_memory

pub returns-clause-holds_written : goal.returns-clause-holds_written
returns-clause-holds_written c = server_holds_written

pub returns-clause-holds_fetched : goal.returns-clause-holds_fetched
returns-clause-holds_fetched c = server_holds_fetched
