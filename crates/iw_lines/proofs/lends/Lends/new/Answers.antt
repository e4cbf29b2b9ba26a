use Rattle.iw_lines.proofs.LentPlaces.{empty_lent}
use Rattle.iw_lines.proofs.lends.Lends.new.Goals as goal

pub returns : goal.returns
returns c = empty_lent c.new.result c.new.ensures.empty
