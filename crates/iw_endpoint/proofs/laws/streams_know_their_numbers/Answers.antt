use Rattle.iw_endpoint.proofs.Limited.{numbers_known}
use Rattle.iw_endpoint.proofs.laws.streams_know_their_numbers.Goals as goal

pub returns : goal.returns
returns c = numbers_known
