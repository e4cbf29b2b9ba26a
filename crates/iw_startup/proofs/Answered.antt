-- What an answer leaves.
use Rattle.std.proofs.Common.{◌≡◌, ℕ, ◌≤◌, List, length, true, ◌&&◌, refl, ◌∙◌, Option, Some, None}
use Rattle.arrayvec.specs.ArrayVec.{ArrayVec}
use Rattle.iw_startup.specs.declared.config.Establishment.{Establishment}
use Rattle.iw_startup.specs.declared.progress.Progress.{Progress}
use Rattle.iw_startup.specs.declared.progress.Progress.TheVariants.{More, Asked, Agreed, Faulted}
use Rattle.iw_startup.specs.declared.side.Reply.{Reply}
use Rattle.iw_startup.specs.declared.side.Reply.TheVariants.{Accept}
use Rattle.iw_startup.specs.declared.side.Side.{Side}
use Rattle.iw_startup.specs.declared.side.Side.TheVariants.{Initiator, Responder}
use Rattle.iw_startup.specs.Peer.{fixed_fault, frame_end, progress_of}
use Rattle.iw_startup.specs.State.{StartupState, IsReached, established_as, is_unanswered, is_asked, awaits_answer, answer_room, private_in, answered, agreed_of, agreement}
use Rattle.iw_startup.proofs.Lengths.{reply_fits}

-- the peer's frame is read the same whatever the answer
frame_end-responder : (est : Establishment) (old new : Option Reply) (octets : List ℕ) → frame_end est (Responder new) octets ≡ frame_end est (Responder old) octets
unfolding frame_end fixed_fault
frame_end-responder est old new octets = refl

pub progress_of-responder : (est : Establishment) (old new : Option Reply) (octets : List ℕ) → progress_of est (Responder new) octets ≡ progress_of est (Responder old) octets
unfolding progress_of frame_end fixed_fault
progress_of-responder est old new octets = refl

asked : (p : Progress) → is_asked p ≡ true → p ≡ Asked
asked Asked h = refl
asked More h = cc
asked Agreed h = cc
asked (Faulted fault) h = cc

record StaysAsked (est : Establishment) (side : Side) (reply : Reply) (octets : List ℕ) : Type 0 where
  pub end : frame_end est (Responder (Some reply)) octets ≡ frame_end est side octets
  pub progress : progress_of est (Responder (Some reply)) octets ≡ Asked
  pub model : established_as (Responder (Some reply)) est ≡ established_as side est

stays_asked : (est : Establishment) (side : Side) (reply : Reply) (octets : List ℕ) → (is_unanswered side && is_asked (progress_of est side octets)) ≡ true → StaysAsked est side reply octets
stays_asked est Initiator reply octets h = cc
stays_asked est (Responder None) reply octets h = record {
  end = frame_end-responder est None (Some reply) octets;
  progress = progress_of-responder est None (Some reply) octets ∙ asked (progress_of est (Responder None) octets) h;
  model = refl;
}
stays_asked est (Responder (Some given)) reply octets h = cc

-- an answer that was waited for, and is no longer than there is room for, keeps what holds of every start-up
pub reached-answered : (s : StartupState) (reply : Reply) → awaits_answer s ≡ true → length (private_in reply).items ≤ answer_room s → IsReached s → IsReached (answered s reply)
reached-answered s reply h room reached =
    let stays = stays_asked s.config.establishment s.side reply s.octets h in
    record { within = rw (stays.end) reached.within; asked = λ _. stays.progress; model = stays.model ∙ reached.model; fits = reply_fits s.config reply s.octets room }

-- a responder that accepts has agreed
pub agreed_of-accepted : (s : StartupState) (private : ArrayVec ℕ) → awaits_answer s ≡ true → agreed_of (answered s (Accept private)) ≡ Some (agreement s.config s.octets)
unfolding agreed_of
agreed_of-accepted s private h = let stays = stays_asked s.config.establishment s.side (Accept private) s.octets h in rw (stays.progress) refl
