use Rattle.iw_octets.proofs.Spelled.{read_tagged-spelled, read_untagged-spelled, read_request-spelled, read_word-spelled}
use Rattle.iw_octets.proofs.Segments.{read_segment-spelled}
use Rattle.iw_octets.proofs.Front.{read_segment-append}
use Rattle.iw_octets.proofs.laws.reads_again.Goals as goal

pub returns : goal.returns
returns c = record {
  tagged = read_tagged-spelled;
  untagged = read_untagged-spelled;
  request = read_request-spelled;
  word = read_word-spelled;
  segment = read_segment-spelled;
  beyond = read_segment-append;
}
