use Rattle.iw_reads.proofs.Responses.{first-fetched, last-taken, all-done}
use Rattle.iw_reads.proofs.laws.answers_in_order.Goals as goal

pub returns : goal.returns
returns c = record { fetched = first-fetched; taken = last-taken; done = all-done }
