use Rattle.iw_ranges.proofs.Joins.{before_second}
use Rattle.iw_ranges.proofs.spans.is_before_second.Goals as goal

pub returns-else-len-le1 : goal.returns-else-len-le1
returns-else-len-le1 g c = before_second c.args.spans.now.items c.args.to c.index.result.now c.requires c.index.ensures
