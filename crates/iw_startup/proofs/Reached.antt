-- What holds of every start-up stays so.
use Rattle.std.proofs.Common.{Option, [], true, None, Some, subst, sym, ◌≡◌, ℕ, ◌<◌, ◌≤◌, ◌++◌, List, false, length, refl, ap, ◌∙◌, arith, nat_le, inl, inr}
use Rattle.std.proofs.lemmas.Bool.{cases_lt}
use Rattle.std.proofs.lemmas.Bool.Decides.{nat_tests}
use Rattle.iw_startup.specs.declared.config.Config.{Config}
use Rattle.iw_startup.specs.declared.progress.Progress.TheVariants.{More, Asked}
use Rattle.iw_startup.specs.declared.config.Establishment.{Establishment}
use Rattle.iw_startup.specs.declared.config.Establishment.TheVariants.{Plain, Enhanced, PeerToPeer}
use Rattle.iw_startup.specs.declared.side.Reply.{Reply}
use Rattle.iw_startup.specs.declared.side.Side.{Side}
use Rattle.iw_startup.specs.declared.side.Side.TheVariants.{Initiator, Responder}
use Rattle.iw_startup.specs.Peer.{frame_end, progress_of}
use Rattle.iw_startup.specs.Enhanced.{at_responder, asked_revision}
use Rattle.iw_startup.specs.Frame.{private_room}
use Rattle.iw_startup.specs.State.{StartupState, IsReached, established_as, begun, pushed, is_answered, own_frame, frame_of}
use Rattle.iw_startup.proofs.Lengths.{request_fits}
use Rattle.iw_startup.proofs.Pieces.{part_within, frame_part-whole}

-- before the frame is whole, more octets are wanted
pub progress_of-short : (est : Establishment) (side : Side) (octets : List ℕ) → length octets < frame_end est side octets → progress_of est side octets ≡ More
unfolding progress_of
progress_of-short est side octets h =
    let not_whole : nat_le (frame_end est side octets) (length octets) ≡ false = grind (arith, nat_tests) in
    rw not_whole refl

-- a Request that is asked about is whole
pub asked_whole : (est : Establishment) (side : Side) (octets : List ℕ) → progress_of est side octets ≡ Asked → frame_end est side octets ≤ length octets
asked_whole est side octets h = elim (cases_lt (length octets) (frame_end est side octets)) [
  | inl less ↦ let more : progress_of est side octets ≡ More = progress_of-short est side octets less in cc
  | inr enough ↦ enough
]

pub reached-initiator : (config : Config) → length config.private.items ≤ private_room (asked_revision config.establishment) → IsReached (begun Initiator config)
reached-initiator config room = record { within = omega arith; asked = λ h. cc; model = refl; fits = request_fits config [] room }

at_once : (est : Establishment) → at_responder (at_responder est) ≡ at_responder est
at_once Plain = refl
at_once Enhanced = refl
at_once PeerToPeer = refl

pub reached-responder : (config : Config) → IsReached (begun (Responder None) config)
reached-responder config = record { within = omega arith; asked = λ h. cc; model = at_once config.establishment; fits = omega arith }

-- a responder's is not the peer-to-peer model
pub responds : (s : StartupState) (reply : Option Reply) → IsReached s → s.side ≡ Responder reply → at_responder s.config.establishment ≡ s.config.establishment
responds s reply h is = ap (λ side. established_as side s.config.establishment) (sym is) ∙ h.model

-- once the peer's frame is whole, no octets change what was taken
pub pushed-whole : (s : StartupState) (xs : List ℕ) → IsReached s → frame_end s.config.establishment s.side s.octets ≤ length s.octets → pushed s xs ≡ s
unfolding pushed
pushed-whole s xs h whole = ap (λ (octets : List ℕ). record s { octets = octets }) (frame_part-whole s.config.establishment s.side s.octets xs h.within whole)

pub pushed-answered : (s : StartupState) (xs : List ℕ) → IsReached s → is_answered s.side ≡ true → pushed s xs ≡ s
pushed-answered s xs h answered = pushed-whole s xs h (asked_whole s.config.establishment s.side s.octets (h.asked answered))

-- what is read changes nothing of this end's own frame: a responder has answered a whole Request alone
pub frame_of-pushed : (s : StartupState) (octets : List ℕ) → IsReached s → frame_of (pushed s octets) ≡ frame_of s
unfolding pushed
frame_of-pushed s octets h = go s.side refl
  where
    go : (side : Side) → s.side ≡ side → frame_of (pushed s octets) ≡ frame_of s
    go Initiator is = (λ i. own_frame s.config (is i) (pushed s octets).octets) ∙ (λ i. own_frame s.config (sym is i) s.octets)
    go (Responder None) is = (λ i. own_frame s.config (is i) (pushed s octets).octets) ∙ (λ i. own_frame s.config (sym is i) s.octets)
    go (Responder (Some reply)) is = ap frame_of (pushed-answered s octets h (ap is_answered is))

pub reached-pushed : (s : StartupState) (octets : List ℕ) → IsReached s → IsReached (pushed s octets)
unfolding pushed
reached-pushed s octets h = record {
  within = part_within s.config.establishment s.side (s.octets ++ octets);
  asked = λ answered.
      let asked : progress_of s.config.establishment s.side s.octets ≡ Asked = h.asked answered in
      ap (progress_of s.config.establishment s.side) (frame_part-whole s.config.establishment s.side s.octets octets h.within (asked_whole s.config.establishment s.side s.octets asked)) ∙ asked;
  model = h.model;
  fits = subst (λ (frame : List ℕ). length frame ≤ 532) (sym (frame_of-pushed s octets h)) h.fits;
}
