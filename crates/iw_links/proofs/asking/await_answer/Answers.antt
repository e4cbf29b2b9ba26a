use Rattle.iw_links.proofs.Exchanges.{in_quiet, stays}
use Rattle.iw_links.proofs.asking.await_answer.Goals as goal

pub returns-then-not-answers_at_once-clause-ok : goal.returns-then-not-answers_at_once-clause-ok
returns-then-not-answers_at_once-clause-ok g c = λ k may. in_quiet _ _ _ _ _ (stays _ _)
