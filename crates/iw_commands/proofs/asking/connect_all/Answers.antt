use Rattle.iw_links.specs.Exchange.{with_domain}
use Rattle.iw_commands.proofs.MoreLines.{nothing_printed}
use Rattle.iw_commands.proofs.asking.connect_all.Goals as goal

pub returns-in_default-clause-stopped : goal.returns-in_default-clause-stopped
returns-in_default-clause-stopped g c = (with_domain, nothing_printed _ _ _ _ _)

pub returns-in-Ok-ask_each-clause-printed : goal.returns-in-Ok-ask_each-clause-printed
returns-in-Ok-ask_each-clause-printed g c = (c.ask_each.new.endpoint, rw c.in-Ok.ensures at c.in-Ok-ask_each.ensures.printed)

pub returns-clause-stopped : goal.returns-clause-stopped
returns-clause-stopped g c = (c.ask_each.new.endpoint, rw c.in-Ok.ensures at c.in-Err.ensures.stopped)
