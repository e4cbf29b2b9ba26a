-- Markers that are too far, and worked values.
use Rattle.std.proofs.Common.{◌≡◌, ℕ, ◌+◌, ◌-◌, ◌%◌, Bool, true, false, not, ◌&&◌, cond, eqb, List, [], ◌∷◌, ◌++◌, length, replicate, Some, None, refl, ap, ◌∙◌, arith}
use Rattle.std.proofs.lemmas.Bool.Decides.{nat_tests}
use Rattle.iw_crc.specs.Crc.{crc32c, after_octets, after_octet, after_bits, after_bit}
use Rattle.iw_fpdu.specs.declared.layout.Layout.{Layout}
use Rattle.iw_fpdu.specs.declared.fpdu.Mismatch.TheVariants.{CrcMismatch, MarkerMismatch}
use Rattle.iw_fpdu.specs.Places.{data_place, data_index, in_marker, place_after, frame_start, span_start}
use Rattle.iw_fpdu.specs.Frame.{frame_end, field_place, bare_data, crc_field, frame_octets, laid, octet_at, marker_value}
use Rattle.iw_fpdu.specs.Reading.{pointer_at, marker_agrees, markers_agree, crc_agrees, mismatch_at}
use Rattle.iw_fpdu.specs.Laws.{FarMarkersFail, KnownFrames, printed}
use Rattle.iw_fpdu.proofs.Octets.{span_low, marker_agrees_is, one_fails}
use Rattle.iw_fpdu.proofs.Written.{frame_is}

markers_wrong : (crc markers a c : Bool) → markers ≡ true → c ≡ false
    → cond (crc && not a) (Some CrcMismatch) (cond (markers && not c) (Some MarkerMismatch) None) ≡ cond (crc && not a) (Some CrcMismatch) (Some MarkerMismatch)
markers_wrong crc true a c t e = ap (λ x. cond (crc && not a) (Some CrcMismatch) (cond (not x) (Some MarkerMismatch) None)) e
markers_wrong crc false a c t e = cc

pub far_markers_fail : FarMarkersFail
unfolding mismatch_at markers_agree
far_markers_fail layout octet start len p octets used z far high =
    let high_octet = octets (p + 2) in
    let low_octet = octets (p + 3) in
    let other : eqb (pointer_at octet p) (p - start) ≡ false = grind (arith, nat_tests) in
    markers_wrong layout.crc layout.markers (crc_agrees octet layout.markers start len) _ used
    (one_fails (marker_agrees octet start) (span_start true start) (frame_end true start len - span_start true start) p (omega (arith, span_low true start)) (omega (arith, span_low true start))
    (marker_agrees_is octet start p z ∙ other))

-- a frame, worked out up to its CRC field and there
worked : (layout : Layout) (at : ℕ) (ulpdu front field : List ℕ) → at % 4 ≡ 0
    → laid layout.markers (frame_start layout.markers at) (data_index layout.markers at) (bare_data ulpdu) at (field_place layout.markers at (length ulpdu)) ≡ front
    → crc_field layout (frame_start layout.markers at) ulpdu ≡ field → frame_octets layout at ulpdu ≡ front ++ field
worked layout at ulpdu front field aligned e f = frame_is layout at ulpdu aligned ∙ ap (λ xs. xs ++ crc_field layout (frame_start layout.markers at) ulpdu) e ∙ ap (λ xs. front ++ xs) f

pub known_frames : KnownFrames
unfolding data_place data_index in_marker place_after marker_value span_start octet_at laid crc32c after_octets after_octet after_bits after_bit
known_frames = record {
  figure_5 = worked (record { markers = true; crc = true }) 0 (printed 1) ((0 ∷ 0 ∷ 0 ∷ 0 ∷ 0 ∷ 0x2a ∷ []) ++ printed 1) (0x52 ∷ 0x23 ∷ 0x99 ∷ 0x83 ∷ []) refl refl refl;
  figure_6 =
      worked (record { markers = true; crc = true }) 492 (printed 2)
      ((0 ∷ 0x2a ∷ 0x41 ∷ 0x43 ∷ []) ++ replicate 8 0 ++ (0 ∷ 0 ∷ 0 ∷ 2 ∷ 0 ∷ 0 ∷ 0 ∷ 0 ∷ []) ++ (0 ∷ 0 ∷ 0 ∷ 0x14 ∷ []) ++ replicate 24 0)
      (0x84 ∷ 0x92 ∷ 0x58 ∷ 0x98 ∷ []) refl refl refl;
  plain = worked (record { markers = false; crc = false }) 20 (0x68 ∷ 0x69 ∷ []) (0 ∷ 2 ∷ 0x68 ∷ 0x69 ∷ []) (0 ∷ 0 ∷ 0 ∷ 0 ∷ []) refl refl refl;
  last_before_marker = refl;
  first_past_marker = refl;
  ends_past_marker = refl;
  ends_before_marker = refl;
  longest_without = refl;
  longest_with = refl;
  first_pointer = refl;
  next_pointer = refl;
  markers_counted = refl;
  too_far = refl;
}
