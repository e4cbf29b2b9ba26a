-- What a frame says that one end spells.
use Rattle.std.proofs.Common.{◌≡◌, ℕ, ◌+◌, ◌*◌, ◌/◌, ◌%◌, ◌<◌, ◌≤◌, ◌==◌, ◌&&◌, ◌||◌, List, Bool, true, false, not, cond, Option, Some, None, length, drop, nat_lt, nat_le, nat_eq, refl, ap, sym, ◌∙◌, arith}
use Rattle.std.specs.Prelude.{slice_index, bit_and}
use Rattle.std.specs.List.{starts_with}
use Rattle.std.proofs.lemmas.Bool.Decides.{nat_tests}
use Rattle.iw_startup.specs.declared.config.Establishment.{Establishment}
use Rattle.iw_startup.specs.declared.config.Establishment.TheVariants.{Plain, Enhanced, PeerToPeer}
use Rattle.iw_startup.specs.declared.enhanced.EnhancedData.{EnhancedData}
use Rattle.iw_startup.specs.declared.enhanced.Revision.{Revision}
use Rattle.iw_startup.specs.declared.enhanced.Revision.TheVariants.{One, Two}
use Rattle.iw_startup.specs.declared.side.Side.{Side}
use Rattle.iw_startup.specs.declared.side.Side.TheVariants.{Initiator, Responder}
use Rattle.iw_startup.specs.Frame.{flags, half, half_at, is_enhanced, number, carried, private_room, start_frame, asks_markers, asks_crc, rejects, private_len, has_flag, has_revision, has_word, data_in, told, private_at, revision_of}
use Rattle.iw_startup.specs.Laws.{word_in}
use Rattle.iw_startup.specs.Peer.{peer_key, takes_revision, is_bad_length, fixed_fault, frame_end, is_whole, outcome, is_read, progress_of}
use Rattle.iw_startup.proofs.Ends.{key_length}
use Rattle.iw_startup.proofs.Lengths.{length-start_frame, length-carried, within_room}

-- an end takes frames of this revision
abbrev pub takes : Side → Establishment → Revision → Bool
takes Initiator Plain One = true
takes Initiator Plain (Two word) = false
takes Initiator Enhanced One = false
takes Initiator Enhanced (Two None) = false
takes Initiator Enhanced (Two (Some word)) = true
takes Initiator PeerToPeer One = false
takes Initiator PeerToPeer (Two None) = false
takes Initiator PeerToPeer (Two (Some word)) = true
takes (Responder _) Plain One = true
takes (Responder _) Plain (Two word) = false
takes (Responder _) Enhanced revision = true
takes (Responder _) PeerToPeer revision = true

-- the depths of the word have 14 bits
abbrev pub HasDepths : Option EnhancedData → Type 0
HasDepths None = Unit {0}
HasDepths (Some word) = (word.ird < 0x4000) × (word.ord < 0x4000)

-- ---- a half of the word

record IsHalf (first second : Bool) (depth h : ℕ) : Type 0 where
  pub depth_is : h % 0x4000 ≡ depth
  pub first_is : nat_le 0x8000 h ≡ first
  pub second_is : nat_le 0x4000 (h % 0x8000) ≡ second

half_read : (first second : Bool) (depth : ℕ) → depth < 0x4000 → IsHalf first second depth (half first second depth)
half_read true true depth h = record { depth_is = omega arith; first_is = grind (arith, nat_tests); second_is = grind (arith, nat_tests) }
half_read true false depth h = record { depth_is = omega arith; first_is = grind (arith, nat_tests); second_is = grind (arith, nat_tests) }
half_read false true depth h = record { depth_is = omega arith; first_is = grind (arith, nat_tests); second_is = grind (arith, nat_tests) }
half_read false false depth h = record { depth_is = omega arith; first_is = grind (arith, nat_tests); second_is = grind (arith, nat_tests) }

both_octets : (h : ℕ) → h / 256 * 256 + h % 256 ≡ h
both_octets h = omega arith

module _ (side : Side) (markers crc rejected : Bool) (revision : Revision) (private : List ℕ) where
  abbrev pub written : List ℕ
  written = start_frame (peer_key side) markers crc rejected revision private

pub length-written : (side : Side) (markers crc rejected : Bool) (revision : Revision) (private : List ℕ) →
    length (written side markers crc rejected revision private) ≡ 20 + length (carried revision private)
length-written side markers crc rejected revision private =
    omega (arith, length-start_frame (peer_key side) markers crc rejected revision private, key_length side)

flags-written : (side : Side) (markers crc rejected : Bool) (revision : Revision) (private : List ℕ) →
    slice_index (written side markers crc rejected revision private) 16 ≡ flags markers crc rejected (is_enhanced revision)
unfolding start_frame
flags-written Initiator markers crc rejected revision private = refl
flags-written (Responder _) markers crc rejected revision private = refl

number-written : (side : Side) (markers crc rejected : Bool) (revision : Revision) (private : List ℕ) →
    slice_index (written side markers crc rejected revision private) 17 ≡ number revision
unfolding start_frame
number-written Initiator markers crc rejected revision private = refl
number-written (Responder _) markers crc rejected revision private = refl

private_len-written : (side : Side) (markers crc rejected : Bool) (revision : Revision) (private : List ℕ) →
    private_len (written side markers crc rejected revision private) ≡ length (carried revision private)
unfolding start_frame
private_len-written Initiator markers crc rejected revision private = both_octets (length (carried revision private))
private_len-written (Responder _) markers crc rejected revision private = both_octets (length (carried revision private))

-- ---- its flags

flags_in : (markers crc rejected enhanced : Bool) →
    (not (bit_and (flags markers crc rejected enhanced) 0x80 == 0) ≡ markers)
    × (not (bit_and (flags markers crc rejected enhanced) 0x40 == 0) ≡ crc)
    × (not (bit_and (flags markers crc rejected enhanced) 0x20 == 0) ≡ rejected)
    × (not (bit_and (flags markers crc rejected enhanced) 0x10 == 0) ≡ enhanced)
flags_in true true true true = (refl, refl, refl, refl)
flags_in true true true false = (refl, refl, refl, refl)
flags_in true true false true = (refl, refl, refl, refl)
flags_in true true false false = (refl, refl, refl, refl)
flags_in true false true true = (refl, refl, refl, refl)
flags_in true false true false = (refl, refl, refl, refl)
flags_in true false false true = (refl, refl, refl, refl)
flags_in true false false false = (refl, refl, refl, refl)
flags_in false true true true = (refl, refl, refl, refl)
flags_in false true true false = (refl, refl, refl, refl)
flags_in false true false true = (refl, refl, refl, refl)
flags_in false true false false = (refl, refl, refl, refl)
flags_in false false true true = (refl, refl, refl, refl)
flags_in false false true false = (refl, refl, refl, refl)
flags_in false false false true = (refl, refl, refl, refl)
flags_in false false false false = (refl, refl, refl, refl)

pub record Says (octets : List ℕ) (markers crc rejected enhanced : Bool) : Type 0 where
  pub markers_is : asks_markers octets ≡ markers
  pub crc_is : asks_crc octets ≡ crc
  pub rejected_is : rejects octets ≡ rejected
  pub enhanced_is : has_flag 0x10 octets ≡ enhanced

pub says : (side : Side) (markers crc rejected : Bool) (revision : Revision) (private : List ℕ) →
    Says (written side markers crc rejected revision private) markers crc rejected (is_enhanced revision)
says side markers crc rejected revision private =
    let octet = flags-written side markers crc rejected revision private in
    let each = flags_in markers crc rejected (is_enhanced revision) in
    record { markers_is = rw octet (each.0); crc_is = rw octet (each.1); rejected_is = rw octet (each.2); enhanced_is = rw octet (each.3) }

-- ---- its revision

two : (revision : Revision) → ((number revision == 2) && is_enhanced revision) ≡ is_enhanced revision
two One = refl
two (Two None) = refl
two (Two (Some word)) = refl

enhanced-written : (side : Side) (markers crc rejected : Bool) (revision : Revision) (private : List ℕ) →
    (has_revision 2 (written side markers crc rejected revision private) && has_flag 0x10 (written side markers crc rejected revision private)) ≡ is_enhanced revision
enhanced-written side markers crc rejected revision private =
    rw (number-written side markers crc rejected revision private, (says side markers crc rejected revision private).enhanced_is) (two revision)

pub has_word-written : (side : Side) (est : Establishment) (markers crc rejected : Bool) (revision : Revision) (private : List ℕ) → takes side est revision ≡ true →
    has_word est (written side markers crc rejected revision private) ≡ is_enhanced revision
has_word-written side Plain markers crc rejected revision private h = go side revision h
  where
    go : (side : Side) (revision : Revision) → takes side Plain revision ≡ true → false ≡ is_enhanced revision
    go Initiator One h = refl
    go Initiator (Two word) h = cc
    go (Responder _) One h = refl
    go (Responder _) (Two word) h = cc
has_word-written side Enhanced markers crc rejected revision private h = enhanced-written side markers crc rejected revision private
has_word-written side PeerToPeer markers crc rejected revision private h = enhanced-written side markers crc rejected revision private

takes-written : (side : Side) (est : Establishment) (markers crc rejected : Bool) (revision : Revision) (private : List ℕ) → takes side est revision ≡ true →
    takes_revision side est (written side markers crc rejected revision private) ≡ true
takes-written Initiator Plain markers crc rejected One private h = rw (number-written Initiator markers crc rejected One private) refl
takes-written Initiator Plain markers crc rejected (Two word) private h = cc
takes-written Initiator Enhanced markers crc rejected One private h = cc
takes-written Initiator Enhanced markers crc rejected (Two None) private h = cc
takes-written Initiator Enhanced markers crc rejected (Two (Some word)) private h = has_word-written Initiator Enhanced markers crc rejected (Two (Some word)) private h
takes-written Initiator PeerToPeer markers crc rejected One private h = cc
takes-written Initiator PeerToPeer markers crc rejected (Two None) private h = cc
takes-written Initiator PeerToPeer markers crc rejected (Two (Some word)) private h = has_word-written Initiator PeerToPeer markers crc rejected (Two (Some word)) private h
takes-written (Responder r) Plain markers crc rejected One private h = rw (number-written (Responder r) markers crc rejected One private) refl
takes-written (Responder r) Plain markers crc rejected (Two word) private h = cc
takes-written (Responder r) Enhanced markers crc rejected One private h = rw (number-written (Responder r) markers crc rejected One private) refl
takes-written (Responder r) Enhanced markers crc rejected (Two word) private h = rw (number-written (Responder r) markers crc rejected (Two word) private) refl
takes-written (Responder r) PeerToPeer markers crc rejected One private h = rw (number-written (Responder r) markers crc rejected One private) refl
takes-written (Responder r) PeerToPeer markers crc rejected (Two word) private h = rw (number-written (Responder r) markers crc rejected (Two word) private) refl

key-written : (side : Side) (markers crc rejected : Bool) (revision : Revision) (private : List ℕ) →
    starts_with nat_eq (written side markers crc rejected revision private) (peer_key side) ≡ true
unfolding start_frame
key-written Initiator markers crc rejected revision private = refl
key-written (Responder _) markers crc rejected revision private = refl

good_length : (revision : Revision) (private : List ℕ) → length private ≤ private_room revision →
    ((is_enhanced revision && nat_lt (length (carried revision private)) 4) || nat_lt 512 (length (carried revision private))) ≡ false
good_length One private h = grind (arith, nat_tests)
good_length (Two None) private h = grind (arith, nat_tests)
good_length (Two (Some word)) private h =
    let long : nat_lt (length (carried (Two (Some word)) private)) 4 ≡ false = grind (arith, nat_tests, length-carried (Two (Some word)) private) in
    let fits : nat_lt 512 (length (carried (Two (Some word)) private)) ≡ false = grind (arith, nat_tests, within_room (Two (Some word)) private h) in
    rw (long, fits) refl

pub fixed_fault-written : (side : Side) (est : Establishment) (markers crc rejected : Bool) (revision : Revision) (private : List ℕ) → takes side est revision ≡ true →
    length private ≤ private_room revision → fixed_fault est side (written side markers crc rejected revision private) ≡ None
unfolding fixed_fault
fixed_fault-written side est markers crc rejected revision private taken room =
    let good : is_bad_length est (written side markers crc rejected revision private) ≡ false =
    rw (has_word-written side est markers crc rejected revision private taken, private_len-written side markers crc rejected revision private) (good_length revision private room) in
    rw (key-written side markers crc rejected revision private, takes-written side est markers crc rejected revision private taken, good) refl

pub frame_end-written : (side : Side) (est : Establishment) (markers crc rejected : Bool) (revision : Revision) (private : List ℕ) → takes side est revision ≡ true →
    length private ≤ private_room revision → frame_end est side (written side markers crc rejected revision private) ≡ length (written side markers crc rejected revision private)
unfolding frame_end
frame_end-written side est markers crc rejected revision private taken room =
    let long : nat_lt (length (written side markers crc rejected revision private)) 20 ≡ false = grind (arith, nat_tests, length-written side markers crc rejected revision private) in
    rw (long, fixed_fault-written side est markers crc rejected revision private taken room, private_len-written side markers crc rejected revision private)
    (sym (length-written side markers crc rejected revision private))

whole-written : (side : Side) (est : Establishment) (markers crc rejected : Bool) (revision : Revision) (private : List ℕ) → takes side est revision ≡ true →
    length private ≤ private_room revision →
    nat_le (frame_end est side (written side markers crc rejected revision private)) (length (written side markers crc rejected revision private)) ≡ true
whole-written side est markers crc rejected revision private taken room =
    grind (arith, nat_tests, frame_end-written side est markers crc rejected revision private taken room)

pub progress_of-written : (side : Side) (est : Establishment) (markers crc rejected : Bool) (revision : Revision) (private : List ℕ) → takes side est revision ≡ true →
    length private ≤ private_room revision →
    progress_of est side (written side markers crc rejected revision private) ≡ outcome side (written side markers crc rejected revision private)
unfolding progress_of
progress_of-written side est markers crc rejected revision private taken room =
    rw (whole-written side est markers crc rejected revision private taken room, fixed_fault-written side est markers crc rejected revision private taken room) refl

pub is_read-written : (side : Side) (est : Establishment) (markers crc rejected : Bool) (revision : Revision) (private : List ℕ) → takes side est revision ≡ true →
    length private ≤ private_room revision → is_read est side (written side markers crc rejected revision private) ≡ true
is_read-written side est markers crc rejected revision private taken room =
    rw (whole-written side est markers crc rejected revision private taken room, fixed_fault-written side est markers crc rejected revision private taken room) refl

pub is_whole-written : (side : Side) (est : Establishment) (markers crc rejected : Bool) (revision : Revision) (private : List ℕ) → takes side est revision ≡ true →
    length private ≤ private_room revision → is_whole est side (written side markers crc rejected revision private) ≡ true
is_whole-written = whole-written

-- ---- its word, and its private data

half_at-20 : (side : Side) (markers crc rejected : Bool) (word : EnhancedData) (private : List ℕ) →
    half_at (written side markers crc rejected (Two (Some word)) private) 20 ≡ half word.peer_to_peer word.rtr_send word.ird
unfolding start_frame
half_at-20 Initiator markers crc rejected word private = both_octets (half word.peer_to_peer word.rtr_send word.ird)
half_at-20 (Responder _) markers crc rejected word private = both_octets (half word.peer_to_peer word.rtr_send word.ird)

half_at-22 : (side : Side) (markers crc rejected : Bool) (word : EnhancedData) (private : List ℕ) →
    half_at (written side markers crc rejected (Two (Some word)) private) 22 ≡ half word.rtr_write word.rtr_read word.ord
unfolding start_frame
half_at-22 Initiator markers crc rejected word private = both_octets (half word.rtr_write word.rtr_read word.ord)
half_at-22 (Responder _) markers crc rejected word private = both_octets (half word.rtr_write word.rtr_read word.ord)

-- a word by its halves
abbrev of_halves : ℕ → ℕ → EnhancedData
of_halves inbound outbound = record {
  ird = inbound % 0x4000;
  ord = outbound % 0x4000;
  peer_to_peer = nat_le 0x8000 inbound;
  rtr_send = nat_le 0x4000 (inbound % 0x8000);
  rtr_write = nat_le 0x8000 outbound;
  rtr_read = nat_le 0x4000 (outbound % 0x8000);
}

halves_read : (word : EnhancedData) → HasDepths (Some word) → of_halves (half word.peer_to_peer word.rtr_send word.ird) (half word.rtr_write word.rtr_read word.ord) ≡ word
halves_read word fits =
    let first = half_read word.peer_to_peer word.rtr_send word.ird fits.0 in
    let second = half_read word.rtr_write word.rtr_read word.ord fits.1 in
    λ i. record {
      ird = first.depth_is i;
      ord = second.depth_is i;
      peer_to_peer = first.first_is i;
      rtr_send = first.second_is i;
      rtr_write = second.first_is i;
      rtr_read = second.second_is i;
    }

data_in-written : (side : Side) (markers crc rejected : Bool) (word : EnhancedData) (private : List ℕ) → HasDepths (Some word) →
    data_in (written side markers crc rejected (Two (Some word)) private) ≡ word
data_in-written side markers crc rejected word private fits =
    (λ i. of_halves (half_at-20 side markers crc rejected word private i) (half_at-22 side markers crc rejected word private i)) ∙ halves_read word fits

pub told-written : (side : Side) (est : Establishment) (markers crc rejected : Bool) (revision : Revision) (private : List ℕ) → takes side est revision ≡ true →
    HasDepths (word_in revision) → told est (written side markers crc rejected revision private) ≡ word_in revision
told-written side est markers crc rejected One private taken fits = rw (has_word-written side est markers crc rejected One private taken) refl
told-written side est markers crc rejected (Two None) private taken fits = rw (has_word-written side est markers crc rejected (Two None) private taken) refl
told-written side est markers crc rejected (Two (Some word)) private taken fits =
    rw (has_word-written side est markers crc rejected (Two (Some word)) private taken) (ap Some (data_in-written side markers crc rejected word private fits))

-- the private data behind the word
drop-written : (side : Side) (markers crc rejected : Bool) (revision : Revision) (private : List ℕ) →
    drop (cond (is_enhanced revision) 24 20) (written side markers crc rejected revision private) ≡ private
unfolding start_frame
drop-written Initiator markers crc rejected One private = refl
drop-written Initiator markers crc rejected (Two None) private = refl
drop-written Initiator markers crc rejected (Two (Some word)) private = refl
drop-written (Responder _) markers crc rejected One private = refl
drop-written (Responder _) markers crc rejected (Two None) private = refl
drop-written (Responder _) markers crc rejected (Two (Some word)) private = refl

pub private-written : (side : Side) (est : Establishment) (markers crc rejected : Bool) (revision : Revision) (private : List ℕ) → takes side est revision ≡ true →
    drop (private_at est (written side markers crc rejected revision private)) (written side markers crc rejected revision private) ≡ private
private-written side est markers crc rejected revision private taken =
    rw (has_word-written side est markers crc rejected revision private taken) (drop-written side markers crc rejected revision private)

-- ---- it is of the revision that it was spelled by

of_two : (est : Establishment) → (est ≡ Plain → ⊥) → (octets : List ℕ) → has_revision 2 octets ≡ true → revision_of est octets ≡ Two (told est octets)
of_two Plain other octets h = absurd (other refl)
of_two Enhanced other octets h = rw h refl
of_two PeerToPeer other octets h = rw h refl

of_one : (est : Establishment) (octets : List ℕ) → has_revision 2 octets ≡ false → revision_of est octets ≡ One
of_one Plain octets h = refl
of_one Enhanced octets h = rw h refl
of_one PeerToPeer octets h = rw h refl

not_plain : (side : Side) (est : Establishment) (word : Option EnhancedData) → takes side est (Two word) ≡ true → est ≡ Plain → ⊥
not_plain Initiator Plain word h is = cc
not_plain (Responder _) Plain word h is = cc
not_plain side Enhanced word h is = cc
not_plain side PeerToPeer word h is = cc

pub revision_of-written : (side : Side) (est : Establishment) (markers crc rejected : Bool) (revision : Revision) (private : List ℕ) → takes side est revision ≡ true →
    HasDepths (word_in revision) → revision_of est (written side markers crc rejected revision private) ≡ revision
revision_of-written side est markers crc rejected One private taken fits =
    of_one est (written side markers crc rejected One private) (rw (number-written side markers crc rejected One private) refl)
revision_of-written side est markers crc rejected (Two word) private taken fits =
    of_two est (not_plain side est word taken) (written side markers crc rejected (Two word) private) (rw (number-written side markers crc rejected (Two word) private) refl)
    ∙ ap Two (told-written side est markers crc rejected (Two word) private taken fits)

-- ---- an end takes the revision of each frame that it reads

plain_read : (side : Side) (markers crc rejected : Bool) (word : Option EnhancedData) (private : List ℕ) →
    has_revision 1 (written side markers crc rejected (Two word) private) ≡ true → ⊥
plain_read side markers crc rejected word private h =
    let no : (2 == 1) ≡ true = ap (λ n. n == 1) (sym (number-written side markers crc rejected (Two word) private)) ∙ h in
    cc

word_read : (side : Side) (markers crc rejected : Bool) (revision : Revision) (private : List ℕ) →
    (has_revision 2 (written side markers crc rejected revision private) && has_flag 0x10 (written side markers crc rejected revision private)) ≡ true → is_enhanced revision ≡ true
word_read side markers crc rejected revision private h = sym (enhanced-written side markers crc rejected revision private) ∙ h

pub takes-read : (side : Side) (est : Establishment) (markers crc rejected : Bool) (revision : Revision) (private : List ℕ) →
    takes_revision side est (written side markers crc rejected revision private) ≡ true → takes side est revision ≡ true
takes-read Initiator Plain markers crc rejected One private h = refl
takes-read Initiator Plain markers crc rejected (Two word) private h = absurd (plain_read Initiator markers crc rejected word private h)
takes-read Initiator Enhanced markers crc rejected One private h = word_read Initiator markers crc rejected One private h
takes-read Initiator Enhanced markers crc rejected (Two None) private h = word_read Initiator markers crc rejected (Two None) private h
takes-read Initiator Enhanced markers crc rejected (Two (Some word)) private h = refl
takes-read Initiator PeerToPeer markers crc rejected One private h = word_read Initiator markers crc rejected One private h
takes-read Initiator PeerToPeer markers crc rejected (Two None) private h = word_read Initiator markers crc rejected (Two None) private h
takes-read Initiator PeerToPeer markers crc rejected (Two (Some word)) private h = refl
takes-read (Responder r) Plain markers crc rejected One private h = refl
takes-read (Responder r) Plain markers crc rejected (Two word) private h = absurd (plain_read (Responder r) markers crc rejected word private h)
takes-read (Responder r) Enhanced markers crc rejected revision private h = refl
takes-read (Responder r) PeerToPeer markers crc rejected revision private h = refl
