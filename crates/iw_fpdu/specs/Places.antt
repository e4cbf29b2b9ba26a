-- The places of one direction of a connection, in octets from the first after the start-up frame. If there are markers,
-- the four octets at each multiple of 512 are a marker (RFC 5044 4.3). The others are the data octets, those of the
-- frames; they have indices of their own.
use Rattle.std.specs.Prelude.{ℕ, zero, suc, ◌+◌, ◌-◌, ◌*◌, ◌/◌, ◌%◌, ◌≡◌, Bool, false, ◌&&◌, ◌==◌, nat_lt, if◌then◌else◌}

-- the place of data octet k: 508 of them follow each marker
unfoldable pub data_place : Bool → ℕ → ℕ
data_place markers k = if markers then 512 * (k / 508) + 4 + k % 508 else k

-- how many data octets come before a place
unfoldable pub data_index : Bool → ℕ → ℕ
data_index markers p = if markers then 508 * (p / 512) + (p % 512 - 4) else p

-- whether a place is one of a marker's four
unfoldable pub in_marker : Bool → ℕ → Bool
in_marker markers p = markers && nat_lt (p % 512) 4

-- the place after n data octets, the first of which is at place a or, if there is a marker at a, after it
unfoldable pub place_after : Bool → ℕ → ℕ → ℕ
place_after markers a zero = a
place_after markers a (suc n) = data_place markers (data_index markers a + n) + 1

-- where a frame may begin: at a multiple of four octets that is not in a marker
pub record IsStart (markers : Bool) (start : ℕ) : Type 0 where
  pub aligned : start % 4 ≡ 0
  pub outside : in_marker markers start ≡ false

-- the frame that is written at a place begins there, or after the marker there
abbrev pub frame_start : Bool → ℕ → ℕ
frame_start markers at = data_place markers (data_index markers at)

-- where a frame's span begins: at the marker directly before the frame, which belongs to it (RFC 5044 4.3), or at the
-- frame
unfoldable pub span_start : Bool → ℕ → ℕ
span_start markers start = if markers && (start % 512 == 4) then start - 4 else start
