use Rattle.std.proofs.Common.{refl}
use Rattle.iw_fpdu.specs.Places.{in_marker}
use Rattle.test_frames.proofs.fpdu.a_printed_frame_is_read.Goals as goal

pub read-requires-clause-start : goal.read-requires-clause-start
unfolding in_marker
read-requires-clause-start g c = record { aligned = refl; outside = refl }
