use Rattle.iw_startup.proofs.Cuts as cuts
use Rattle.iw_startup.proofs.laws.answers_stay.Goals as goal

pub returns : goal.returns
returns c = cuts.answers_stay
