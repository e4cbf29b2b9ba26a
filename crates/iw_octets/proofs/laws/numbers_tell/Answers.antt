use Rattle.iw_octets.proofs.Stags.{same_number}
use Rattle.iw_octets.proofs.laws.numbers_tell.Goals as goal

pub returns : goal.returns
returns c = record { same = same_number }
