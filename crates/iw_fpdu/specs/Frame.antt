-- The octets of a frame, place by place (RFC 5044 4.1 to 4.4).
use Rattle.std.specs.Prelude.{ℕ, ◌+◌, ◌-◌, ◌*◌, ◌/◌, ◌%◌, ◌==◌, Bool, true, if◌then◌else◌, List, [], ◌∷◌, ◌++◌, length, map, replicate, slice_index}
use Rattle.std.specs.Int.{w32, to_le_bytes}
use Rattle.std.specs.List.{range_with_len}
use Rattle.iw_octets.specs.declared.constants.TheConstants.{MAX_ULPDU}
use Rattle.iw_crc.specs.Crc.{crc32c}
use Rattle.iw_fpdu.specs.declared.layout.Layout.{Layout}
use Rattle.iw_fpdu.specs.Places.{data_place, data_index, in_marker, place_after, frame_start, span_start}

-- the most octets that a ULPDU has when it is sent
abbrev pub max_sent : ℕ
max_sent = MAX_ULPDU

-- the pad octets after a ULPDU of this length, which make length field, ULPDU and pad a multiple of four octets
abbrev pub pad_len : ℕ → ℕ
pad_len len = (4 - (len + 2) % 4) % 4

-- the octets of a frame without its markers: length field, ULPDU, pad and CRC field
abbrev pub frame_size : ℕ → ℕ
frame_size len = 2 + len + pad_len len + 4

-- the place after the frame that begins at `start`
abbrev pub frame_end : Bool → ℕ → ℕ → ℕ
frame_end markers start len = place_after markers start (frame_size len)

-- the place of its CRC field
abbrev pub field_place : Bool → ℕ → ℕ → ℕ
field_place markers start len = data_place markers (data_index markers start + (2 + len + pad_len len))

-- ---- markers
-- the pointer of the marker at place 512 * i, in the frame that begins at `start` or directly before it: 0 if the data octet after the marker is the
-- frame's first, else how many octets, markers counted, the marker stands after the frame's first octet
unfoldable pub marker_value : ℕ → ℕ → ℕ
marker_value start i = if data_index true start == 508 * i then 0 else 512 * i - start

-- two reserved octets and the pointer, high octet first
abbrev pub marker_octets : ℕ → ℕ → List ℕ
marker_octets start i = 0 ∷ 0 ∷ marker_value start i / 256 % 256 ∷ marker_value start i % 256 ∷ []

-- ---- the octet at a place
-- the octet at place p in or directly before a frame that begins at `start`; `octets` are the data octets from index `origin` on
unfoldable pub octet_at : Bool → ℕ → ℕ → List ℕ → ℕ → ℕ
octet_at markers start origin octets p =
    if in_marker markers p then slice_index (marker_octets start (p / 512)) (p % 512) else slice_index octets (data_index markers p - origin)

-- the same at the places from `from` up to `to`
unfoldable pub laid : Bool → ℕ → ℕ → List ℕ → ℕ → ℕ → List ℕ
laid markers start origin octets from to = map (octet_at markers start origin octets) (range_with_len from (to - from))

-- ---- a frame
-- the ULPDU's length, high octet first, the ULPDU, and the pad
abbrev pub bare_data : List ℕ → List ℕ
bare_data ulpdu = (length ulpdu / 256 ∷ length ulpdu % 256 ∷ []) ++ ulpdu ++ replicate (pad_len (length ulpdu)) 0

-- what the CRC covers: every octet of the frame's span before the CRC field, with the markers in the frame and the one
-- directly before it
abbrev pub covered : Bool → ℕ → List ℕ → List ℕ
covered markers start ulpdu = laid markers start (data_index markers start) (bare_data ulpdu) (span_start markers start) (field_place markers start (length ulpdu))

-- the CRC, low octet first; zero if CRCs are not used
abbrev pub crc_field : Layout → ℕ → List ℕ → List ℕ
crc_field layout start ulpdu = if layout.crc then to_le_bytes w32 (crc32c (covered layout.markers start ulpdu)) else 0 ∷ 0 ∷ 0 ∷ 0 ∷ []

abbrev pub frame_data : Layout → ℕ → List ℕ → List ℕ
frame_data layout start ulpdu = bare_data ulpdu ++ crc_field layout start ulpdu

-- all octets of a frame without markers and CRC, which are the same at each place
abbrev pub bare_frame : List ℕ → List ℕ
bare_frame ulpdu = bare_data ulpdu ++ 0 ∷ 0 ∷ 0 ∷ 0 ∷ []

-- the octet at place p of the span of the frame that begins at `start`
unfoldable pub frame_octet : Layout → ℕ → List ℕ → ℕ → ℕ
frame_octet layout start ulpdu p = octet_at layout.markers start (data_index layout.markers start) (frame_data layout start ulpdu) p

-- the octets of the frame that is written at place `at`, from that place on: a marker at `at` is the first of them
unfoldable pub frame_octets : Layout → ℕ → List ℕ → List ℕ
frame_octets layout at ulpdu =
    map (frame_octet layout (frame_start layout.markers at) ulpdu) (range_with_len at (frame_end layout.markers at (length ulpdu) - at))
