use Rattle.iw_octets.proofs.Again.{tagged_again, untagged_again, request_again, word_again, segment_again}
use Rattle.iw_octets.proofs.laws.writes_again.Goals as goal

pub returns : goal.returns
returns c = record { tagged = tagged_again; untagged = untagged_again; request = request_again; word = word_again; segment = segment_again }
