use Rattle.iw_startup.proofs.Words as words
use Rattle.iw_startup.proofs.laws.words_are_kept.Goals as goal

pub returns : goal.returns
returns c = words.words_are_kept
