-- What the peer's octets say, as far as they have come.
use Rattle.std.specs.Prelude.{ℕ, ◌+◌, ◌||◌, ◌&&◌, Bool, not, nat_lt, nat_le, nat_eq, List, length, take, Option, Some, None, is_none, is_some, if◌then◌else◌}
use Rattle.std.specs.List.{starts_with}
use Rattle.std.specs.Option.{option_map_or}
use Rattle.iw_startup.specs.declared.config.Establishment.{Establishment}
use Rattle.iw_startup.specs.declared.config.Establishment.TheVariants.{Plain, Enhanced, PeerToPeer}
use Rattle.iw_startup.specs.declared.progress.Progress.{Progress}
use Rattle.iw_startup.specs.declared.progress.Progress.TheVariants.{More, Asked, Agreed, Faulted}
use Rattle.iw_startup.specs.declared.progress.StartupFault.{StartupFault}
use Rattle.iw_startup.specs.declared.progress.StartupFault.TheVariants.{BadKey, BadRev, BadLength, Rejected}
use Rattle.iw_startup.specs.declared.side.Side.{Side}
use Rattle.iw_startup.specs.declared.side.Side.TheVariants.{Initiator, Responder}
use Rattle.iw_startup.specs.Frame.{request_key, reply_key, private_len, rejects, has_revision, has_word}

-- the key of the frame that the other end sends
abbrev pub peer_key : Side → List ℕ
peer_key Initiator = reply_key
peer_key (Responder _) = request_key

-- a Reply is in kind, a Request of any revision that this end knows
abbrev pub takes_revision : Side → Establishment → List ℕ → Bool
takes_revision Initiator Plain octets = has_revision 1 octets
takes_revision Initiator Enhanced octets = has_word Enhanced octets
takes_revision Initiator PeerToPeer octets = has_word PeerToPeer octets
takes_revision (Responder _) Plain octets = has_revision 1 octets
takes_revision (Responder _) Enhanced octets = has_revision 1 octets || has_revision 2 octets
takes_revision (Responder _) PeerToPeer octets = has_revision 1 octets || has_revision 2 octets

-- the private data is too long, or too short for the word
abbrev pub is_bad_length : Establishment → List ℕ → Bool
is_bad_length establishment octets = (has_word establishment octets && nat_lt (private_len octets) 4) || nat_lt 512 (private_len octets)

-- the first fault of the 20 fixed octets
unfoldable pub fixed_fault : Establishment → Side → List ℕ → Option StartupFault
fixed_fault establishment side octets =
    if not (starts_with nat_eq octets (peer_key side)) then Some BadKey else
    (if not (takes_revision side establishment octets) then Some BadRev else
    (if is_bad_length establishment octets then Some BadLength else None))

-- how long the frame is, as far as these octets tell: the fixed octets alone until they are there, and where they are at fault
unfoldable pub frame_end : Establishment → Side → List ℕ → ℕ
frame_end establishment side octets =
    if nat_lt (length octets) 20 || is_some (fixed_fault establishment side octets) then 20 else 20 + private_len octets

abbrev pub is_whole : Establishment → Side → List ℕ → Bool
is_whole establishment side octets = nat_le (frame_end establishment side octets) (length octets)

-- it is whole, with no fault in its fixed octets
abbrev pub is_read : Establishment → Side → List ℕ → Bool
is_read establishment side octets = is_whole establishment side octets && is_none (fixed_fault establishment side octets)

-- the octets of the peer's frame, without those past it
unfoldable pub frame_part : Establishment → Side → List ℕ → List ℕ
frame_part establishment side octets = take (frame_end establishment side octets) octets

-- what a whole frame without a fault in its fixed octets comes to
abbrev pub outcome : Side → List ℕ → Progress
outcome Initiator octets = if rejects octets then Faulted Rejected else Agreed
outcome (Responder _) octets = Asked

unfoldable pub progress_of : Establishment → Side → List ℕ → Progress
progress_of establishment side octets =
    if not (is_whole establishment side octets) then More else
    option_map_or Faulted (fixed_fault establishment side octets) (outcome side octets)
