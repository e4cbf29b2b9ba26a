-- What the calls come to: however the peer's octets are cut, and when each end's frame reaches the other.
use Rattle.std.specs.Prelude.{◌≡◌, ◌≢◌, ℕ, ◌+◌, ◌≤◌, Bool, true, false, ◌||◌, IsTrue, List, [], ◌∷◌, ◌++◌, length, replicate, Option, Some, None}
use Rattle.std.specs.List.{concat}
use Rattle.arrayvec.specs.ArrayVec.{ArrayVec}
use Rattle.iw_startup.specs.declared.config.Agreed.{Agreed}
use Rattle.iw_startup.specs.declared.config.Config.{Config}
use Rattle.iw_startup.specs.declared.config.Establishment.{Establishment}
use Rattle.iw_startup.specs.declared.config.Establishment.TheVariants.{Plain, Enhanced, PeerToPeer}
use Rattle.iw_startup.specs.declared.enhanced.EnhancedData.{EnhancedData}
use Rattle.iw_startup.specs.declared.enhanced.Mismatch.TheVariants.{InsufficientIrd, NoMatchingRtr}
use Rattle.iw_startup.specs.declared.enhanced.Revision.{Revision}
use Rattle.iw_startup.specs.declared.enhanced.Revision.TheVariants.{One, Two}
use Rattle.iw_startup.specs.declared.enhanced.Rtr.{Rtr}
use Rattle.iw_startup.specs.declared.enhanced.Rtr.TheVariants.{Write}
use Rattle.iw_startup.specs.declared.progress.Progress.{Progress}
use Rattle.iw_startup.specs.declared.progress.Progress.TheVariants as answer
use Rattle.iw_startup.specs.declared.progress.StartupFault.TheVariants.{Rejected}
use Rattle.iw_startup.specs.declared.side.Reply.{Reply}
use Rattle.iw_startup.specs.declared.side.Reply.TheVariants.{Accept, Reject}
use Rattle.iw_startup.specs.declared.side.Side.TheVariants.{Initiator, Responder}
use Rattle.iw_startup.specs.Enhanced.{asked_revision, answer_data, in_kind, agreed_ord}
use Rattle.iw_startup.specs.Frame.{unset_depth, request_key, reply_key, private_room}
use Rattle.iw_startup.specs.State.{StartupState, IsReached, begun, private_in, progress, used, pushed, private_of, told_of, awaits_answer, answered, frame_of, agreed_of, mismatch_of}

-- an end after these pieces, pushed one after another
unfoldable pub pushed_all : StartupState → List (List ℕ) → StartupState
pushed_all s [] = s
pushed_all s (piece ∷ pieces) = pushed_all (pushed s piece) pieces

-- how many of their octets it used
unfoldable pub used_all : StartupState → List (List ℕ) → ℕ
used_all s [] = 0
used_all s (piece ∷ pieces) = used s piece + used_all (pushed s piece) pieces

-- pieces leave what their octets at once would leave, so the progress too, and use as many
pub record SameAtOnce (s : StartupState) (pieces : List (List ℕ)) : Type 0 where
  pub after : pushed_all s pieces ≡ pushed s (concat pieces)
  pub used : used_all s pieces ≡ used s (concat pieces)

abbrev pub CutsDoNotMatter : Type 0
CutsDoNotMatter = (s : StartupState) (pieces : List (List ℕ)) → IsReached s → SameAtOnce s pieces

-- after any answer but More nothing more is used or changed, so the answer stays too
abbrev pub AnswersStay : Type 0
AnswersStay = (s : StartupState) (octets : List ℕ) → IsReached s → progress s ≢ answer.More →
    (used s octets ≡ 0) × (pushed s octets ≡ s)

-- the pieces are the frame that this end sends, and whatever octets past it
abbrev pub Carries : List (List ℕ) → StartupState → Type 0
Carries pieces sender = (beyond : List ℕ) × (concat pieces ≡ frame_of sender ++ beyond)

-- the word of a frame
abbrev pub word_in : Revision → Option EnhancedData
word_in One = None
word_in (Two word) = word

-- the sender's frame of this revision, brought by these pieces, was read whole: this is told, its word and this private data are shown, and nothing past the
-- frame was used
pub record IsRead (receiver : StartupState) (pieces : List (List ℕ)) (sender : StartupState) (revision : Revision) (private : List ℕ) (told : Progress) : Type 0 where
  pub progress : progress (pushed_all receiver pieces) ≡ told
  pub word : told_of (pushed_all receiver pieces) ≡ word_in revision
  pub shown : private_of (pushed_all receiver pieces) ≡ private
  pub used : used_all receiver pieces ≡ length (frame_of sender)

abbrev pub initiator : Config → StartupState
initiator config = begun Initiator config

abbrev pub responder : Config → StartupState
responder config = begun (Responder None) config

-- the responder takes what the initiator asks by: a plain end answers revision 1 alone
abbrev pub understands : Establishment → Establishment → Bool
understands answering Plain = true
understands Plain Enhanced = false
understands Enhanced Enhanced = true
understands PeerToPeer Enhanced = true
understands Plain PeerToPeer = false
understands Enhanced PeerToPeer = true
understands PeerToPeer PeerToPeer = true

-- the Request with room for its private data, at a responder that takes it
pub record IsAskable (asking answering : Config) : Type 0 where
  pub room : length asking.private.items ≤ private_room (asked_revision asking.establishment)
  pub understood : IsTrue (understands answering.establishment asking.establishment)

abbrev pub RequestsAreAsked : Type 0
RequestsAreAsked = (asking answering : Config) (requests : List (List ℕ)) →
    IsAskable asking answering → Carries requests (initiator asking) →
    IsRead (responder answering) requests (initiator asking) (asked_revision asking.establishment) asking.private.items answer.Asked
    × (awaits_answer (pushed_all (responder answering) requests) ≡ true)

-- the RTR that is due
abbrev pub rtr_between : Establishment → Option Rtr
rtr_between Plain = None
rtr_between Enhanced = None
rtr_between PeerToPeer = Some Write

-- what two ends agree on, as the initiator sees it
abbrev pub agreed_between : Config → Config → Agreed
agreed_between asking answering = record {
  send_markers = answering.markers;
  expect_markers = asking.markers;
  crc = asking.crc || answering.crc;
  ord = 16;
  rtr = rtr_between asking.establishment;
}

-- the same as the other end sees it, which sends no RTR
abbrev pub from_other_end : Agreed → Agreed
from_other_end agreed = record {
  send_markers = agreed.expect_markers;
  expect_markers = agreed.send_markers;
  crc = agreed.crc;
  ord = agreed.ord;
  rtr = None;
}

-- the Request reached the responder, which gave this answer, and the Reply reached the initiator
abbrev pub Exchange : Config → Config → List (List ℕ) → Reply → List (List ℕ) → Type 0
Exchange asking answering requests reply replies =
    IsAskable asking answering × Carries requests (initiator asking)
    × (length (private_in reply).items ≤ private_room (asked_revision asking.establishment))
    × Carries replies (answered (pushed_all (responder answering) requests) reply)

abbrev pub AcceptedEndsAgree : Type 0
AcceptedEndsAgree = (asking answering : Config) (requests replies : List (List ℕ)) (private : ArrayVec ℕ) →
    let accepting = answered (pushed_all (responder answering) requests) (Accept private) in
    Exchange asking answering requests (Accept private) replies →
    IsRead (initiator asking) replies accepting (in_kind false (asked_revision asking.establishment)) private.items answer.Agreed
    × (agreed_of (pushed_all (initiator asking) replies) ≡ Some (agreed_between asking answering))
    × (mismatch_of (pushed_all (initiator asking) replies) ≡ None)
    × (agreed_of accepting ≡ Some (from_other_end (agreed_between asking answering)))

abbrev pub RejectionsAreTold : Type 0
RejectionsAreTold = (asking answering : Config) (requests replies : List (List ℕ)) (private : ArrayVec ℕ) →
    let rejecting = answered (pushed_all (responder answering) requests) (Reject private) in
    Exchange asking answering requests (Reject private) replies →
    IsRead (initiator asking) replies rejecting (in_kind true (asked_revision asking.establishment)) private.items (answer.Faulted Rejected)
    × (agreed_of (pushed_all (initiator asking) replies) ≡ None)
    × (agreed_of rejecting ≡ None)

-- ---- what the words keep to, whatever the peer told (RFC 6581 9.1, 9.2)
pub record WordsAreKept : Type 0 where
  -- this end has no more Reads outstanding than the peer takes, and 16 at most
  pub own_ord : (told : EnhancedData) → (agreed_ord (Some told) ≤ told.ird) × (agreed_ord (Some told) ≤ 16)
  -- a Reply wants no more than the Request takes, or answers a depth that is not negotiated in kind
  pub within : (asked : EnhancedData) → (asked.ird ≡ unset_depth → ⊥) → (answer_data false asked).ord ≤ asked.ird
  pub unset_ord : (rejecting : Bool) (asked : EnhancedData) → asked.ird ≡ unset_depth → (answer_data rejecting asked).ord ≡ unset_depth
  pub unset_ird : (rejecting : Bool) (asked : EnhancedData) → asked.ord ≡ unset_depth → (answer_data rejecting asked).ird ≡ unset_depth
  -- it is of the Request's model
  pub model : (rejecting : Bool) (asked : EnhancedData) → (answer_data rejecting asked).peer_to_peer ≡ asked.peer_to_peer
  -- in the peer-to-peer model it offers an RTR, one that was asked for if there is one, and never a Send
  pub offers : (rejecting : Bool) (asked : EnhancedData) → asked.peer_to_peer ≡ true
      → ((answer_data rejecting asked).rtr_write || (answer_data rejecting asked).rtr_read) ≡ true
  pub wanted : (rejecting : Bool) (asked : EnhancedData) → IsTrue (asked.rtr_write || asked.rtr_read)
      → (IsTrue (answer_data rejecting asked).rtr_write → asked.rtr_write ≡ true) × (IsTrue (answer_data rejecting asked).rtr_read → asked.rtr_read ≡ true)
  pub no_send : (rejecting : Bool) (asked : EnhancedData) → (answer_data rejecting asked).rtr_send ≡ false
  -- and otherwise none
  pub none : (rejecting : Bool) (asked : EnhancedData) → asked.peer_to_peer ≡ false
      → ((answer_data rejecting asked).rtr_write ≡ false) × ((answer_data rejecting asked).rtr_read ≡ false)

-- ---- worked frames, of other implementations

-- an end without markers or CRCs
abbrev pub bare : Establishment → Config
bare establishment = record { markers = false; crc = false; establishment = establishment; private = record { items = [] } }

-- S, revision 2 and so many octets of private data
abbrev pub enhanced_frame : List ℕ → List ℕ → List ℕ
enhanced_frame key field = key ++ 0x10 ∷ 2 ∷ 0 ∷ length field ∷ field

-- Requests and Replies as they were seen on the wire, at an end of ours
pub record KnownFrames : Type 0 where
  -- Linux's siw asks with IRD 4 and ORD 4, and gets IRD 16 and ORD 4
  pub siw_asks : told_of (pushed (responder (bare Enhanced)) (enhanced_frame request_key (0 ∷ 4 ∷ 0 ∷ 4 ∷ [])))
      ≡ Some (record { ird = 4; ord = 4; peer_to_peer = false; rtr_send = false; rtr_write = false; rtr_read = false })
  pub siw_is_answered : frame_of (answered (pushed (responder (bare Enhanced)) (enhanced_frame request_key (0 ∷ 4 ∷ 0 ∷ 4 ∷ []))) (Accept (record { items = [] })))
      ≡ enhanced_frame reply_key (0 ∷ 16 ∷ 0 ∷ 4 ∷ [])
  -- the NVMe host of Linux, with private data
  pub nvme_asks : private_of (pushed (responder (bare Enhanced)) (enhanced_frame request_key (0 ∷ 0x80 ∷ 0 ∷ 0 ∷ 0 ∷ 0 ∷ 0 ∷ 0 ∷ 0x20 ∷ 0 ∷ 0x1f ∷ 0 ∷ replicate 24 0)))
      ≡ 0 ∷ 0 ∷ 0 ∷ 0 ∷ 0x20 ∷ 0 ∷ 0x1f ∷ 0 ∷ replicate 24 0
  -- its target wants 128 Reads at once
  pub nvme_answers : mismatch_of (pushed (initiator (bare Enhanced)) (enhanced_frame reply_key (0 ∷ 0 ∷ 0 ∷ 0x80 ∷ 0 ∷ 0 ∷ 0x20 ∷ 0 ∷ replicate 28 0))) ≡ Some InsufficientIrd
  -- the peer-to-peer model, asked for with C and D, and siw's answer with an STag
  pub peer_to_peer_asks : frame_of (initiator (bare PeerToPeer)) ≡ enhanced_frame request_key (0x80 ∷ 0x10 ∷ 0xc0 ∷ 0x10 ∷ [])
  pub siw_answers : agreed_of (pushed (initiator (bare PeerToPeer)) (enhanced_frame reply_key (0x80 ∷ 4 ∷ 0x80 ∷ 4 ∷ 0x93 ∷ 0x3c ∷ 0xa3 ∷ 0 ∷ [])))
      ≡ Some (record { send_markers = false; expect_markers = false; crc = false; ord = 4; rtr = Some Write })
  pub siw_is_plain : mismatch_of (pushed (initiator (bare PeerToPeer)) (enhanced_frame reply_key (0 ∷ 4 ∷ 0 ∷ 4 ∷ []))) ≡ Some NoMatchingRtr
