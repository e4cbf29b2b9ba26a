use Rattle.iw_fpdu.proofs.Again.{reads_again}
use Rattle.iw_fpdu.proofs.laws.written_frames_are_read_again.Goals as goal

pub returns : goal.returns
returns c = reads_again
