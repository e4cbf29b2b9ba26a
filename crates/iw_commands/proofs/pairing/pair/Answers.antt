use Rattle.iw_links.specs.Exchange.{with_domain}
use Rattle.iw_commands.proofs.MoreLines.{nothing_printed}
use Rattle.iw_commands.proofs.pairing.pair.Goals as goal

pub returns-in_default-clause-stopped : goal.returns-in_default-clause-stopped
returns-in_default-clause-stopped g c = (with_domain, nothing_printed _ _ _ _ _)

pub returns-in-Err-clause-stopped : goal.returns-in-Err-clause-stopped
returns-in-Err-clause-stopped g c = (with_domain, nothing_printed _ _ _ _ _)

pub returns-in_default-take-clause-stopped : goal.returns-in_default-take-clause-stopped
returns-in_default-take-clause-stopped g c = (with_domain, nothing_printed _ _ _ _ _)
