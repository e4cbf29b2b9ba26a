-- The two headers of DDP with RDMAP's octets in them, spelled and read.
use Rattle.std.specs.Prelude.{ℕ, ◌+◌, ◌/◌, ◌%◌, ◌<◌, ◌^◌, ◌==◌, Bool, true, false, List, ◌∷◌, ◌++◌, length, take, drop, slice_index, nat_lt, nat_le, if◌then◌else◌, Option, Some, None}
use Rattle.std.specs.Int.{w32, w64, to_be_bytes, from_be_bytes}
use Rattle.iw_octets.specs.declared.head.TaggedHead.{TaggedHead}
use Rattle.iw_octets.specs.declared.head.UntaggedHead.{UntaggedHead}
use Rattle.iw_octets.specs.Stag.{spelled, stag_at, FitsStag}

-- the first octet: the tagged flag, the last flag, four reserved bits, and the version in two bits
abbrev pub first_octet : Bool → Bool → ℕ → ℕ
first_octet tagged last version = (if tagged then 0x80 else 0) + (if last then 0x40 else 0) + version

abbrev pub is_tagged : ℕ → Bool
is_tagged first = nat_le 0x80 first

abbrev pub is_last : ℕ → Bool
is_last first = first / 0x40 % 2 == 1

abbrev pub version_of : ℕ → ℕ
version_of first = first % 4

-- the numbers of four and of eight octets from a place on
abbrev pub number_32 : List ℕ → ℕ → ℕ
number_32 octets at = from_be_bytes w32 (take 4 (drop at octets))

abbrev pub number_64 : List ℕ → ℕ → ℕ
number_64 octets at = from_be_bytes w64 (take 8 (drop at octets))

unfoldable pub tagged_octets : TaggedHead → List ℕ
tagged_octets head = first_octet true head.last head.ddp_version ∷ head.control ∷ spelled head.stag ++ to_be_bytes w64 head.to

unfoldable pub untagged_octets : UntaggedHead → List ℕ
untagged_octets head =
    first_octet false head.last head.ddp_version ∷ head.control ∷ to_be_bytes w32 head.tail
    ++ to_be_bytes w32 head.queue ++ to_be_bytes w32 head.msn ++ to_be_bytes w32 head.mo

-- the fields at their places
abbrev pub tagged_fields : List ℕ → TaggedHead
tagged_fields octets = record {
  last = is_last (slice_index octets 0);
  ddp_version = version_of (slice_index octets 0);
  control = slice_index octets 1;
  stag = stag_at octets 2;
  to = number_64 octets 6;
}

abbrev pub untagged_fields : List ℕ → UntaggedHead
untagged_fields octets = record {
  last = is_last (slice_index octets 0);
  ddp_version = version_of (slice_index octets 0);
  control = slice_index octets 1;
  tail = number_32 octets 2;
  queue = number_32 octets 6;
  msn = number_32 octets 10;
  mo = number_32 octets 14;
}

-- the header at the front, and what stands past it; none where the octets are too few
unfoldable pub read_tagged : List ℕ → Option (TaggedHead × List ℕ)
read_tagged octets = if nat_lt (length octets) 14 then None else Some (tagged_fields octets, drop 14 octets)

unfoldable pub read_untagged : List ℕ → Option (UntaggedHead × List ℕ)
read_untagged octets = if nat_lt (length octets) 18 then None else Some (untagged_fields octets, drop 18 octets)

-- the numbers fit their fields
pub record FitsTagged (head : TaggedHead) : Type 0 where
  pub ddp_version : head.ddp_version < 4
  pub control : head.control < 256
  pub stag : FitsStag head.stag
  pub to : head.to < 2 ^ 64

pub record FitsUntagged (head : UntaggedHead) : Type 0 where
  pub ddp_version : head.ddp_version < 4
  pub control : head.control < 256
  pub tail : head.tail < 2 ^ 32
  pub queue : head.queue < 2 ^ 32
  pub msn : head.msn < 2 ^ 32
  pub mo : head.mo < 2 ^ 32
