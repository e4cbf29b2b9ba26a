-- The start-up frame of MPA (RFC 5044 7.1.1, RFC 6581 6, 9): a key, an octet of flags, the revision, the length of the private data, the private data.
-- In an enhanced frame the private data begins with a word of IRD and ORD, and the user's follows it.
use Rattle.std.specs.Prelude.{ℕ, ◌+◌, ◌*◌, ◌/◌, ◌%◌, ◌==◌, ◌&&◌, Bool, true, false, not, nat_le, List, [], ◌∷◌, ◌++◌, length, codes, bit_and, slice_index, Option, Some, None, if◌then◌else◌}
use Rattle.iw_startup.specs.declared.config.Establishment.{Establishment}
use Rattle.iw_startup.specs.declared.config.Establishment.TheVariants.{Plain, Enhanced, PeerToPeer}
use Rattle.iw_startup.specs.declared.config.PeerOptions.{PeerOptions}
use Rattle.iw_startup.specs.declared.enhanced.EnhancedData.{EnhancedData}
use Rattle.iw_startup.specs.declared.enhanced.Revision.{Revision}
use Rattle.iw_startup.specs.declared.enhanced.Revision.TheVariants.{One, Two}

abbrev pub request_key : List ℕ
request_key = codes "MPA ID Req Frame"

abbrev pub reply_key : List ℕ
reply_key = codes "MPA ID Rep Frame"

-- M, C, R and S; the four reserved bits are sent as zero
abbrev pub flags : Bool → Bool → Bool → Bool → ℕ
flags markers crc rejected enhanced =
    (if markers then 0x80 else 0) + (if crc then 0x40 else 0) + (if rejected then 0x20 else 0) + (if enhanced then 0x10 else 0)

-- ---- the word: each half of it has two flags and a depth of 14 bits
abbrev pub half : Bool → Bool → ℕ → ℕ
half first second depth = (if first then 0x8000 else 0) + (if second then 0x4000 else 0) + depth % 0x4000

abbrev pub word_octets : EnhancedData → List ℕ
word_octets word =
    (half word.peer_to_peer word.rtr_send word.ird / 256) ∷ (half word.peer_to_peer word.rtr_send word.ird % 256)
    ∷ (half word.rtr_write word.rtr_read word.ord / 256) ∷ (half word.rtr_write word.rtr_read word.ord % 256) ∷ []

-- a depth of all ones is not negotiated
abbrev pub unset_depth : ℕ
unset_depth = 0x3fff

-- ---- frames
abbrev pub number : Revision → ℕ
number One = 1
number (Two word) = 2

abbrev pub is_enhanced : Revision → Bool
is_enhanced One = false
is_enhanced (Two None) = false
is_enhanced (Two (Some word)) = true

-- what the frame's private data is, where the user's is this
abbrev pub carried : Revision → List ℕ → List ℕ
carried One private = private
carried (Two None) private = private
carried (Two (Some word)) private = word_octets word ++ private

-- how much private data of the user's it has room for
abbrev pub private_room : Revision → ℕ
private_room One = 512
private_room (Two None) = 512
private_room (Two (Some word)) = 508

-- a frame with these octets after the revision
abbrev pub headed : List ℕ → ℕ → ℕ → List ℕ → List ℕ
headed key flags number field = key ++ flags ∷ number ∷ (length field / 256) ∷ (length field % 256) ∷ field

-- the frame with this key, M, C, R, revision and private data
unfoldable pub start_frame : List ℕ → Bool → Bool → Bool → Revision → List ℕ → List ℕ
start_frame key markers crc rejected revision private = headed key (flags markers crc rejected (is_enhanced revision)) (number revision) (carried revision private)

-- ---- what the frame that begins with these octets asks for
abbrev pub has_flag : ℕ → List ℕ → Bool
has_flag flag octets = not (bit_and (slice_index octets 16) flag == 0)

abbrev pub asks_markers : List ℕ → Bool
asks_markers octets = has_flag 0x80 octets

abbrev pub asks_crc : List ℕ → Bool
asks_crc octets = has_flag 0x40 octets

abbrev pub rejects : List ℕ → Bool
rejects octets = has_flag 0x20 octets

-- how many octets of private data it names
abbrev pub private_len : List ℕ → ℕ
private_len octets = slice_index octets 18 * 256 + slice_index octets 19

-- it is of this revision
abbrev pub has_revision : ℕ → List ℕ → Bool
has_revision revision octets = slice_index octets 17 == revision

-- it has the word: S is looked at in revision 2 alone, and by an end that was asked for more than revision 1
abbrev pub has_word : Establishment → List ℕ → Bool
has_word Plain octets = false
has_word Enhanced octets = has_revision 2 octets && has_flag 0x10 octets
has_word PeerToPeer octets = has_revision 2 octets && has_flag 0x10 octets

abbrev pub half_at : List ℕ → ℕ → ℕ
half_at octets at = slice_index octets at * 256 + slice_index octets (at + 1)

abbrev pub data_in : List ℕ → EnhancedData
data_in octets = record {
  ird = half_at octets 20 % 0x4000;
  ord = half_at octets 22 % 0x4000;
  peer_to_peer = nat_le 0x8000 (half_at octets 20);
  rtr_send = nat_le 0x4000 (half_at octets 20 % 0x8000);
  rtr_write = nat_le 0x8000 (half_at octets 22);
  rtr_read = nat_le 0x4000 (half_at octets 22 % 0x8000);
}

-- the word, where there is one
abbrev pub told : Establishment → List ℕ → Option EnhancedData
told establishment octets = if has_word establishment octets then Some (data_in octets) else None

-- what it asks for: markers in what the other end sends, CRCs, and a revision
abbrev pub options_in : List ℕ → PeerOptions
options_in octets = record { markers = asks_markers octets; crc = asks_crc octets; revision = slice_index octets 17 }

-- the place of the user's private data
abbrev pub private_at : Establishment → List ℕ → ℕ
private_at establishment octets = if has_word establishment octets then 24 else 20

abbrev pub revision_of : Establishment → List ℕ → Revision
revision_of Plain octets = One
revision_of Enhanced octets = if has_revision 2 octets then Two (told Enhanced octets) else One
revision_of PeerToPeer octets = if has_revision 2 octets then Two (told PeerToPeer octets) else One
