use Rattle.iw_lines.proofs.Written.{empty_listed}
use Rattle.iw_lines.proofs.lines.Lines.new.Goals as goal

pub returns : goal.returns
returns c = empty_listed c.new.result c.new.ensures.empty
