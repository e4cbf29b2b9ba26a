use Rattle.iw_links.specs.Exchange.{listening}
use Rattle.iw_commands.proofs.MoreLines.{nothing_printed}
use Rattle.iw_commands.proofs.serving.listen_all.Goals as goal

pub returns-in_default-clause-stopped : goal.returns-in_default-clause-stopped
returns-in_default-clause-stopped g c = (listening, nothing_printed _ _ _ _ _)

pub returns-in-Ok-serve_each-clause-printed : goal.returns-in-Ok-serve_each-clause-printed
returns-in-Ok-serve_each-clause-printed g c = (c.serve_each.new.endpoint, rw (c.in-Ok.ensures.endpoint, c.in-Ok.ensures.stag) at c.in-Ok-serve_each.ensures.printed)

pub returns-clause-stopped : goal.returns-clause-stopped
returns-clause-stopped g c = (c.serve_each.new.endpoint, rw (c.in-Ok.ensures.endpoint, c.in-Ok.ensures.stag) at c.in-Err.ensures.stopped)
