-- A frame as it is read: `octet p` is the octet at place p of the direction (RFC 5044 4.1 to 4.4).
use Rattle.std.specs.Prelude.{ℕ, ◌+◌, ◌-◌, ◌*◌, ◌/◌, ◌%◌, ◌==◌, Bool, true, not, ◌&&◌, ◌||◌, if◌then◌else◌, List, map, Option, None, Some}
use Rattle.std.specs.Int.{w32, to_le_bytes}
use Rattle.std.specs.List.{range_with_len, list_all}
use Rattle.std.specs.Str.{bytes_eq}
use Rattle.iw_crc.specs.Crc.{crc32c}
use Rattle.iw_fpdu.specs.declared.layout.Layout.{Layout}
use Rattle.iw_fpdu.specs.declared.fpdu.Mismatch.{Mismatch}
use Rattle.iw_fpdu.specs.declared.fpdu.Mismatch.TheVariants.{CrcMismatch, MarkerMismatch}
use Rattle.iw_fpdu.specs.Places.{data_place, data_index, span_start}
use Rattle.iw_fpdu.specs.Frame.{pad_len, frame_end, field_place, marker_value}

-- the octets at the places from `from` up to `to`, the markers among them
abbrev pub octets_at : (ℕ → ℕ) → ℕ → ℕ → List ℕ
octets_at octet from to = map octet (range_with_len from (to - from))

-- n data octets from index i on
unfoldable pub data_at : (ℕ → ℕ) → Bool → ℕ → ℕ → List ℕ
data_at octet markers i n = map (λ k. octet (data_place markers k)) (range_with_len i n)

-- the length field of the frame that begins at `start`
abbrev pub length_at : (ℕ → ℕ) → ℕ → ℕ
length_at octet start = 256 * octet start + octet (start + 1)

-- its ULPDU
abbrev pub ulpdu_at : (ℕ → ℕ) → Bool → ℕ → List ℕ
ulpdu_at octet markers start = data_at octet markers (data_index markers start + 2) (length_at octet start)

-- the place after it
abbrev pub end_at : (ℕ → ℕ) → Bool → ℕ → ℕ
end_at octet markers start = frame_end markers start (length_at octet start)

-- ---- the CRC
-- the four octets of the CRC field of a frame with a ULPDU of `len` octets
abbrev pub field_at : (ℕ → ℕ) → Bool → ℕ → ℕ → List ℕ
field_at octet markers start len = data_at octet markers (data_index markers start + (2 + len + pad_len len)) 4

-- they are the CRC, low octet first, of every octet of the frame's span before the field, as these octets came
unfoldable pub crc_agrees : (ℕ → ℕ) → Bool → ℕ → ℕ → Bool
crc_agrees octet markers start len =
    bytes_eq (field_at octet markers start len) (to_le_bytes w32 (crc32c (octets_at octet (span_start markers start) (field_place markers start len))))

-- ---- the markers
-- the pointer of the marker at place p: how far before it the frame begins; the two low bits count as zero, and the reserved octets are not checked
abbrev pub pointer_at : (ℕ → ℕ) → ℕ → ℕ
pointer_at octet p = (256 * octet (p + 2) + octet (p + 3)) / 4 * 4

-- if there is a marker at place p, its pointer is right; no pointer is right for a distance over 65,535
abbrev pub marker_agrees : (ℕ → ℕ) → ℕ → ℕ → Bool
marker_agrees octet start p = not (p % 512 == 0) || (pointer_at octet p == marker_value start (p / 512))

-- the markers in the frame and the one directly before it are all right
unfoldable pub markers_agree : (ℕ → ℕ) → ℕ → ℕ → Bool
markers_agree octet start len = list_all (marker_agrees octet start) (range_with_len (span_start true start) (frame_end true start len - span_start true start))

-- ---- both
-- what is wrong with the frame that begins at `start` with a ULPDU of `len` octets: first the CRC, if CRCs are used, then the markers, if there are any
unfoldable pub mismatch_at : Layout → (ℕ → ℕ) → ℕ → ℕ → Option Mismatch
mismatch_at layout octet start len =
    if layout.crc && not (crc_agrees octet layout.markers start len) then Some CrcMismatch
    else if layout.markers && not (markers_agree octet start len) then Some MarkerMismatch
    else None
