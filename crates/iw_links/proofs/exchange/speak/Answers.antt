use Rattle.iw_links.specs.Exchange.{Speaking, Listening}
use Rattle.iw_links.proofs.Exchanges.{after_write, fails_short, fails_unwritten}
use Rattle.iw_links.proofs.exchange.speak.Goals as goal

pub returns-in-Err-clause-err : goal.returns-in-Err-clause-err
returns-in-Err-clause-err g c = λ i k.
    fails_unwritten _ _ _ Speaking k i _ _ (rw c.clear.ensures.items at c.in-Err.ensures.err k)

pub returns-in-Ok-write_octets-clause-ok : goal.returns-in-Ok-write_octets-clause-ok
returns-in-Ok-write_octets-clause-ok g c = λ i k.
    after_write _ _ _ i _ _ _ (rw c.clear.ensures.items at c.in-Ok.ensures.ok k) (rw c.as_slice.ensures.value at c.in-Ok-write_octets.ensures)

pub returns-in-Err-write_octets-clause-err : goal.returns-in-Err-write_octets-clause-err
returns-in-Err-write_octets-clause-err g c = λ i k.
    fails_short _ _ _ Listening k i _ _ _ _ (rw c.clear.ensures.items at c.in-Ok.ensures.ok k) (rw c.as_slice.ensures.value at c.in-Err-write_octets.ensures)
