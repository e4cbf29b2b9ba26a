use Rattle.iw_links.specs.Exchange.{Listening}
use Rattle.iw_links.specs.Standing.{standing}
use Rattle.iw_links.proofs.Exchanges.{fails_now, output_kept}
use Rattle.iw_links.proofs.asking.end_output.Goals as goal

pub returns-in-Ok-end-clause-ok : goal.returns-in-Ok-end-clause-ok
returns-in-Ok-end-clause-ok g c = λ k may. output_kept _ _ _ _ _ _ _ _ (c.in-Ok.ensures.ok k may) c.in-Ok-end.ensures

pub returns-in-Err-end-clause-err : goal.returns-in-Err-end-clause-err
returns-in-Err-end-clause-err g c = λ k may.
    fails_now _ _ (standing c.await_answer.new.endpoint c.await_answer.new.link) Listening k _ _ _ _
    (output_kept _ _ _ _ _ _ _ _ (c.in-Ok.ensures.ok k may) c.in-Err-end.ensures)
