-- How long the frames are that this end sends.
use Rattle.std.proofs.Common.{◌≡◌, ℕ, ◌+◌, ◌/◌, ◌%◌, ◌≤◌, ◌&&◌, List, ◌∷◌, Bool, true, false, cond, Some, None, length, refl, sym, ap, subst, ◌∙◌, arith, length-append}
use Rattle.iw_startup.specs.declared.config.Config.{Config}
use Rattle.iw_startup.specs.declared.config.Establishment.{Establishment}
use Rattle.iw_startup.specs.declared.config.Establishment.TheVariants.{Plain, Enhanced, PeerToPeer}
use Rattle.iw_startup.specs.declared.enhanced.Revision.{Revision}
use Rattle.iw_startup.specs.declared.enhanced.Revision.TheVariants.{One, Two}
use Rattle.iw_startup.specs.declared.side.Reply.{Reply}
use Rattle.iw_startup.specs.declared.side.Reply.TheVariants.{Accept, Reject}
use Rattle.iw_startup.specs.declared.side.Side.TheVariants.{Initiator}
use Rattle.iw_startup.specs.Enhanced.{asked_revision, in_kind}
use Rattle.iw_startup.specs.Frame.{request_key, reply_key, flags, is_enhanced, number, carried, private_room, start_frame, has_flag, has_revision, has_word, data_in, revision_of}
use Rattle.iw_startup.specs.State.{private_in, request_frame, reply_with, own_frame, reply_frame}

pub length-start_frame : (key : List ℕ) (markers crc rejected : Bool) (revision : Revision) (private : List ℕ) →
    length (start_frame key markers crc rejected revision private) ≡ length key + 4 + length (carried revision private)
unfolding start_frame
length-start_frame key markers crc rejected revision private =
    let field : List ℕ = carried revision private in
    omega (arith, length-append key (flags markers crc rejected (is_enhanced revision) ∷ number revision ∷ (length field / 256) ∷ (length field % 256) ∷ field))

pub length-carried : (revision : Revision) (private : List ℕ) → length (carried revision private) ≡ cond (is_enhanced revision) 4 0 + length private
length-carried One private = omega arith
length-carried (Two None) private = omega arith
length-carried (Two (Some word)) private = omega arith

-- private data that there is room for makes no frame too long
pub within_room : (revision : Revision) (private : List ℕ) → length private ≤ private_room revision → length (carried revision private) ≤ 512
within_room One private h = h
within_room (Two None) private h = h
within_room (Two (Some word)) private h = omega (arith, length-carried (Two (Some word)) private)

pub fits_in : (key : List ℕ) (markers crc rejected : Bool) (revision : Revision) (private : List ℕ) → length key ≡ 16 → length private ≤ private_room revision →
    length (start_frame key markers crc rejected revision private) ≤ 532
fits_in key markers crc rejected revision private is room =
    omega (arith, is, length-start_frame key markers crc rejected revision private, within_room revision private room)

-- an answer in kind has as much room, and has the word where the Request has it
pub room-in_kind : (rejecting : Bool) (revision : Revision) → private_room (in_kind rejecting revision) ≡ private_room revision
room-in_kind rejecting One = refl
room-in_kind rejecting (Two None) = refl
room-in_kind rejecting (Two (Some asked)) = refl

pub enhanced-in_kind : (rejecting : Bool) (revision : Revision) → is_enhanced (in_kind rejecting revision) ≡ is_enhanced revision
enhanced-in_kind rejecting One = refl
enhanced-in_kind rejecting (Two None) = refl
enhanced-in_kind rejecting (Two (Some asked)) = refl

pub enhanced-revision_of : (est : Establishment) (octets : List ℕ) → is_enhanced (revision_of est octets) ≡ has_word est octets
enhanced-revision_of Plain octets = refl
enhanced-revision_of Enhanced octets = go (has_revision 2 octets) (has_flag 0x10 octets)
  where
    go : (two flag : Bool) → is_enhanced (cond two (Two (cond (two && flag) (Some (data_in octets)) None)) One) ≡ (two && flag)
    go true true = refl
    go true false = refl
    go false true = refl
    go false false = refl
enhanced-revision_of PeerToPeer octets = go (has_revision 2 octets) (has_flag 0x10 octets)
  where
    go : (two flag : Bool) → is_enhanced (cond two (Two (cond (two && flag) (Some (data_in octets)) None)) One) ≡ (two && flag)
    go true true = refl
    go true false = refl
    go false true = refl
    go false false = refl

pub reply_fits : (config : Config) (reply : Reply) (octets : List ℕ) → length (private_in reply).items ≤ private_room (revision_of config.establishment octets) →
    length (reply_frame config reply octets) ≤ 532
reply_fits config (Accept private) octets room =
    let revision = revision_of config.establishment octets in
    fits_in reply_key config.markers config.crc false (in_kind false revision) private.items refl (subst (λ n. length private.items ≤ n) (sym (room-in_kind false revision)) room)
reply_fits config (Reject private) octets room =
    let revision = revision_of config.establishment octets in
    fits_in reply_key config.markers config.crc true (in_kind true revision) private.items refl (subst (λ n. length private.items ≤ n) (sym (room-in_kind true revision)) room)

pub request_fits : (config : Config) (octets : List ℕ) → length config.private.items ≤ private_room (asked_revision config.establishment) → length (own_frame config Initiator octets) ≤ 532
request_fits config octets room = fits_in request_key config.markers config.crc false (asked_revision config.establishment) config.private.items refl room

length-with : (key : List ℕ) (markers crc rejected : Bool) (revision : Revision) (private : List ℕ) → length key ≡ 16 →
    length (start_frame key markers crc rejected revision private) ≡ 20 + cond (is_enhanced revision) 4 0 + length private
length-with key markers crc rejected revision private is =
    omega (arith, is, length-start_frame key markers crc rejected revision private, length-carried revision private)

pub length_request : (config : Config) (private : List ℕ) → length (request_frame config private) ≡ 20 + cond (is_enhanced (asked_revision config.establishment)) 4 0 + length private
length_request config private = length-with request_key config.markers config.crc false (asked_revision config.establishment) private refl

pub length_reply : (config : Config) (rejecting : Bool) (octets private : List ℕ) →
    length (reply_with config rejecting octets private) ≡ 20 + cond (has_word config.establishment octets) 4 0 + length private
length_reply config rejecting octets private =
    length-with reply_key config.markers config.crc rejecting (in_kind rejecting (revision_of config.establishment octets)) private refl
    ∙ ap (λ enhanced. 20 + cond enhanced 4 0 + length private) (enhanced-in_kind rejecting (revision_of config.establishment octets) ∙ enhanced-revision_of config.establishment octets)
