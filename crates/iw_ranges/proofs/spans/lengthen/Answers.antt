use Rattle.iw_ranges.proofs.Joins.{made_longer}
use Rattle.iw_ranges.proofs.spans.lengthen.Goals as goal

pub returns-clause-items : goal.returns-clause-items
returns-clause-items g c = made_longer c.args.spans.now.items c.args.to c.requires.order c.requires.free c.requires.further
