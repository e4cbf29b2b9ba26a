use Rattle.std.proofs.Common.{ap}
use Rattle.std.specs.Option.{option_map}
use Rattle.iw_memory.specs.Table.{denial_for}
use Rattle.iw_memory.proofs.Callers.{allows, denial-none}
use Rattle.iw_tagged.specs.Placing.{denial_fault}
use Rattle.iw_tagged.proofs.Denials.{not_denied}
use Rattle.iw_tagged.proofs.laws.passes_where_allowed.Goals as goal

pub returns : goal.returns
returns c = λ table peer head n right. (
  λ passes. allows table peer head.stag head.to n right (not_denied (denial_for table peer head.stag head.to n right) passes),
  λ allowed. ap (option_map denial_fault) (denial-none table peer head.stag head.to n right allowed),
)
