use Rattle.iw_schedules.proofs.Alike.{named_alike, sent_alike}
use Rattle.iw_schedules.proofs.laws.words_are_alike.Goals as goal

pub returns-clause-named : goal.returns-clause-named
returns-clause-named c = named_alike

pub returns-clause-sent : goal.returns-clause-sent
returns-clause-sent c = sent_alike
