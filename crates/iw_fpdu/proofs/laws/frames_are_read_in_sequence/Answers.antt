use Rattle.iw_fpdu.proofs.Sequences.{frames_in_sequence}
use Rattle.iw_fpdu.proofs.laws.frames_are_read_in_sequence.Goals as goal

pub returns : goal.returns
returns c = frames_in_sequence
