-- One end's start-up: what callers see of it, and what each call makes of it.
use Rattle.std.specs.Prelude.{◌≡◌, ℕ, ◌-◌, ◌≤◌, ◌&&◌, ◌||◌, Bool, true, false, IsTrue, List, [], ◌++◌, length, drop, min, Option, Some, None, is_none, is_some, if◌then◌else◌}
use Rattle.arrayvec.specs.ArrayVec.{ArrayVec}
use Rattle.iw_startup.specs.declared.config.Agreed.{Agreed}
use Rattle.iw_startup.specs.declared.config.Config.{Config}
use Rattle.iw_startup.specs.declared.config.Establishment.{Establishment}
use Rattle.iw_startup.specs.declared.config.PeerOptions.{PeerOptions}
use Rattle.iw_startup.specs.declared.enhanced.EnhancedData.{EnhancedData}
use Rattle.iw_startup.specs.declared.enhanced.Mismatch.{Mismatch}
use Rattle.iw_startup.specs.declared.progress.Progress.{Progress}
use Rattle.iw_startup.specs.declared.progress.Progress.TheVariants as answer
use Rattle.iw_startup.specs.declared.side.Reply.{Reply}
use Rattle.iw_startup.specs.declared.side.Reply.TheVariants.{Accept, Reject}
use Rattle.iw_startup.specs.declared.side.Side.{Side}
use Rattle.iw_startup.specs.declared.side.Side.TheVariants.{Initiator, Responder}
use Rattle.iw_startup.specs.Enhanced.{at_responder, asked_revision, in_kind, agreed_ord, rtr_due, mismatch_in}
use Rattle.iw_startup.specs.Frame.{request_key, reply_key, start_frame, asks_markers, asks_crc, told, options_in, private_at, private_room, revision_of}
use Rattle.iw_startup.specs.Peer.{frame_end, frame_part, is_whole, is_read, progress_of}

pub record StartupState : Type 0 where
  pub config : Config
  pub side : Side
  -- the octets of the peer's frame that were taken so far
  pub octets : List ℕ

-- the peer-to-peer model is an initiator's to ask for
abbrev pub established_as : Side → Establishment → Establishment
established_as Initiator establishment = establishment
established_as (Responder reply) establishment = at_responder establishment

-- what an end asks for in its frame: a responder's private data is that of its answer
abbrev pub asks_as : Side → Config → Config
asks_as Initiator config = config
asks_as (Responder reply) config = record config { establishment = at_responder config.establishment; private = record { items = [] } }

-- an end that has taken nothing
abbrev pub begun : Side → Config → StartupState
begun side config = record { config = asks_as side config; side = side; octets = [] }

abbrev pub progress : StartupState → Progress
progress s = progress_of s.config.establishment s.side s.octets

-- how many of the octets that come next the peer's frame still needs
unfoldable pub used : StartupState → List ℕ → ℕ
used s octets = min (frame_end s.config.establishment s.side (s.octets ++ octets) - length s.octets) (length octets)

unfoldable pub pushed : StartupState → List ℕ → StartupState
pushed s octets = record s { octets = frame_part s.config.establishment s.side (s.octets ++ octets) }

-- the peer's private data, nothing before its frame is whole
unfoldable pub private_of : StartupState → List ℕ
private_of s = if is_whole s.config.establishment s.side s.octets then drop (private_at s.config.establishment s.octets) s.octets else []

-- the peer's word of IRD and ORD, once its frame was read
unfoldable pub told_of : StartupState → Option EnhancedData
told_of s = if is_read s.config.establishment s.side s.octets then told s.config.establishment s.octets else None

-- what the peer asks for, once its frame was read
unfoldable pub options_of : StartupState → Option PeerOptions
options_of s = if is_read s.config.establishment s.side s.octets then Some (options_in s.octets) else None

abbrev pub is_responder : Side → Bool
is_responder Initiator = false
is_responder (Responder reply) = true

abbrev pub is_unanswered : Side → Bool
is_unanswered Initiator = false
is_unanswered (Responder reply) = is_none reply

abbrev pub is_asked : Progress → Bool
is_asked answer.Asked = true
is_asked _ = false

-- a responder's user may answer: the Request is whole, and there is no answer yet
abbrev pub awaits_answer : StartupState → Bool
awaits_answer s = is_unanswered s.side && is_asked (progress s)

abbrev pub replied : Reply → Side
replied reply = Responder (Some reply)

abbrev pub answered : StartupState → Reply → StartupState
answered s reply = record s { side = replied reply }

-- the private data of an answer
abbrev pub private_in : Reply → ArrayVec ℕ
private_in (Accept private) = private
private_in (Reject private) = private

-- how much private data an answer has room for
abbrev pub answer_room : StartupState → ℕ
answer_room s = private_room (revision_of s.config.establishment s.octets)

-- the Request with this private data
abbrev pub request_frame : Config → List ℕ → List ℕ
request_frame config private = start_frame request_key config.markers config.crc false (asked_revision config.establishment) private

-- the Reply to the Request that these octets are: it carries M, C, the word and the private data whether it accepts or rejects
abbrev pub reply_with : Config → Bool → List ℕ → List ℕ → List ℕ
reply_with config rejecting request private =
    start_frame reply_key config.markers config.crc rejecting (in_kind rejecting (revision_of config.establishment request)) private

abbrev pub reply_frame : Config → Reply → List ℕ → List ℕ
reply_frame config (Accept private) request = reply_with config false request private.items
reply_frame config (Reject private) request = reply_with config true request private.items

-- the frame that this end sends where these octets came of the peer's, nothing at a responder without an answer
abbrev pub own_frame : Config → Side → List ℕ → List ℕ
own_frame config Initiator octets = request_frame config config.private.items
own_frame config (Responder None) octets = []
own_frame config (Responder (Some reply)) octets = reply_frame config reply octets

abbrev pub frame_of : StartupState → List ℕ
frame_of s = own_frame s.config s.side s.octets

-- markers in each direction as the other end's frame asks, CRCs where either frame asks, and Reads as the peer's word allows
abbrev pub agreement : Config → List ℕ → Agreed
agreement config octets = record {
  send_markers = asks_markers octets;
  expect_markers = config.markers;
  crc = config.crc || asks_crc octets;
  ord = agreed_ord (told config.establishment octets);
  rtr = rtr_due config.establishment (told config.establishment octets);
}

-- an initiator agrees by the peer's Reply, a responder by its own
abbrev pub has_agreed : Side → Progress → Bool
has_agreed Initiator answer.Agreed = true
has_agreed (Responder (Some (Accept _))) answer.Asked = true
has_agreed _ _ = false

unfoldable pub agreed_of : StartupState → Option Agreed
agreed_of s = if has_agreed s.side (progress s) then Some (agreement s.config s.octets) else None

abbrev pub is_agreed : Progress → Bool
is_agreed answer.More = false
is_agreed answer.Asked = false
is_agreed answer.Agreed = true
is_agreed (answer.Faulted fault) = false

-- what an initiator does not have that the Reply wants
unfoldable pub mismatch_of : StartupState → Option Mismatch
mismatch_of s = if is_agreed (progress s) then mismatch_in s.config.establishment (told s.config.establishment s.octets) else None

abbrev pub is_answered : Side → Bool
is_answered Initiator = false
is_answered (Responder reply) = is_some reply

-- what holds of every start-up
pub record IsReached (s : StartupState) : Type 0 where
  -- nothing past the peer's frame was taken
  pub within : length s.octets ≤ frame_end s.config.establishment s.side s.octets
  -- only a whole Request was answered
  pub asked : IsTrue (is_answered s.side) → progress s ≡ answer.Asked
  -- the peer-to-peer model is not a responder's
  pub model : established_as s.side s.config.establishment ≡ s.config.establishment
  -- its frame is no longer than one may be
  pub fits : length (frame_of s) ≤ 532
