-- Frames of other implementations, by computing alone.
use Rattle.std.proofs.Common.{refl}
use Rattle.iw_startup.specs.Frame.{start_frame}
use Rattle.iw_startup.specs.Laws.{KnownFrames}
use Rattle.iw_startup.specs.Peer.{fixed_fault, frame_end, frame_part, progress_of}
use Rattle.iw_startup.specs.State.{pushed, private_of, told_of, agreed_of, mismatch_of}

pub known_frames : KnownFrames
unfolding start_frame fixed_fault frame_end frame_part progress_of pushed private_of told_of agreed_of mismatch_of
known_frames = record {
  siw_asks = refl;
  siw_is_answered = refl;
  nvme_asks = refl;
  nvme_answers = refl;
  peer_to_peer_asks = refl;
  siw_answers = refl;
  siw_is_plain = refl;
}
