-- What was written is read again, and what was whole stays.
use Rattle.std.proofs.Common.{◌≡◌, ℕ, ◌+◌, ◌-◌, ◌/◌, ◌%◌, ◌<◌, ◌≤◌, Bool, true, false, not, ◌&&◌, cond, List, [], ◌∷◌, ◌++◌, map, take, drop, replicate, length, get_or, Some, None, refl, sym, ap, ◌∙◌, subst, arith, inl, inr}
use Rattle.std.proofs.lemmas.List.{same_lists, get_or-map, get_or-drop, get_or-take, get_or_default, get_or_append_left, append_assoc, append-nil, take_at, drop_at, length-take, length-drop, length-append}
use Rattle.std.proofs.lemmas.List.FromFn.{get_or-map-range_with_len, length-map-range_with_len}
use Rattle.std.proofs.lemmas.Bool.{cases_eq, eq-eqb}
use Rattle.std.specs.Int.{w32, to_le_bytes}
use Rattle.std.specs.List.{range_with_len}
use Rattle.iw_crc.specs.Crc.{crc32c}
use Rattle.iw_ranges.specs.Arrived.{Arrived, Cell, Missing, Here, Gone, cell_at, is_missing, has_come, is_dropped, first_copy, cells_between, delivered}
use Rattle.iw_ranges.proofs.ByPlace.{cell_at-taken_in}
use Rattle.iw_ranges.proofs.Keeps.{delivered_kept, delivered_dropped}
use Rattle.iw_fpdu.specs.declared.layout.Layout.{Layout}
use Rattle.iw_fpdu.specs.declared.fpdu.Mismatch.TheVariants.{CrcMismatch, MarkerMismatch}
use Rattle.iw_fpdu.specs.Places.{data_place, data_index, in_marker, IsStart, frame_start, span_start}
use Rattle.iw_fpdu.specs.Frame.{max_sent, pad_len, frame_size, frame_end, field_place, marker_value, marker_octets, octet_at, laid, bare_data, covered, crc_field, frame_data, frame_octet, frame_octets}
use Rattle.iw_fpdu.specs.Reading.{octets_at, data_at, length_at, field_at, crc_agrees, pointer_at, marker_agrees, markers_agree, mismatch_at}
use Rattle.iw_fpdu.specs.Found.{octet_of, octet_in}
use Rattle.iw_fpdu.specs.Laws.{HoldsFrame, IsBetween, IsReadAgain, ReadsAgain, StaysWhole, found_at}
use Rattle.iw_fpdu.proofs.Follows.{begins, ends}
use Rattle.iw_fpdu.proofs.Counted.{index_place, place_index, data_no_marker, after_bound, aligned_edge, marker_value_is}
use Rattle.iw_fpdu.proofs.Laid.{octet_data, octet_marker, marker_octet}
use Rattle.iw_fpdu.proofs.Written.{length_bare, length_field, index_below}
use Rattle.iw_fpdu.proofs.Octets.{second_place, same_octets, all_hold, Agree, agree, same_frame_data, same_length, same_mismatch, no_marker_agrees, marker_agrees_is, same_bytes}

-- ---- a written frame
length_frame : (layout : Layout) (start : ℕ) (xs : List ℕ) → length (frame_data layout start xs) ≡ frame_size (length xs)
length_frame layout start xs = length-append (bare_data xs) (crc_field layout start xs) ∙ omega (arith, length_bare xs, length_field layout start xs)

-- data octet k of it
octet_back : (layout : Layout) (start : ℕ) (xs : List ℕ) (k : ℕ) → frame_octet layout start xs (data_place layout.markers (data_index layout.markers start + k)) ≡ get_or (frame_data layout start xs) k 0
unfolding frame_octet
octet_back layout start xs k =
    let m = layout.markers in
    let i = data_index m start + k in
    octet_data m start (data_index m start) (frame_data layout start xs) (data_place m i) (data_no_marker m i)
    ∙ ap (λ j. get_or (frame_data layout start xs) j 0) (omega (arith, index_place m i))

data_back : (layout : Layout) (start : ℕ) (xs : List ℕ) (i n : ℕ) → i + n ≤ frame_size (length xs)
    → data_at (frame_octet layout start xs) layout.markers (data_index layout.markers start + i) n ≡ take n (drop i (frame_data layout start xs))
unfolding data_at
data_back layout start xs i n fits =
    same_lists (map octet (range_with_len first n)) (take n (drop i whole)) (simp (length-take, length-drop) (omega (arith, length-map-range_with_len octet first n, length_frame layout start xs))) each
  where
    whole : List ℕ
    whole = frame_data layout start xs

    first : ℕ
    first = data_index layout.markers start + i

    octet : ℕ → ℕ
    octet = λ k. frame_octet layout start xs (data_place layout.markers k)

    each : (k d : ℕ) → k < length (map octet (range_with_len first n)) → get_or (map octet (range_with_len first n)) k d ≡ get_or (take n (drop i whole)) k d
    each k d lt =
        let inside : k < n = omega (arith, lt, length-map-range_with_len octet first n) in
        get_or-map-range_with_len octet first n k (first + k) d inside refl
        ∙ ap octet (let e : first + k ≡ data_index layout.markers start + (i + k) = omega arith in e)
        ∙ octet_back layout start xs (i + k)
        ∙ get_or_default whole (i + k) 0 d (omega (arith, length_frame layout start xs))
        ∙ sym (get_or-take n (drop i whole) k d inside ∙ get_or-drop i whole k d)

pub length_back : (layout : Layout) (start : ℕ) (xs : List ℕ) → IsStart layout.markers start → length_at (frame_octet layout start xs) start ≡ length xs
length_back layout start xs s =
    let m = layout.markers in
    let octet : ℕ → ℕ = frame_octet layout start xs in
    let zero_place : data_place m (data_index m start + 0) ≡ start = ap (data_place m) (omega arith) ∙ place_index m start s.outside in
    let one : octet start ≡ length xs / 256 = ap octet (sym zero_place) ∙ octet_back layout start xs 0 in
    let two : octet (start + 1) ≡ length xs % 256 = ap octet (sym (second_place m start s)) ∙ octet_back layout start xs 1 in
    omega (arith, one, two)

pub ulpdu_back : (layout : Layout) (start : ℕ) (xs : List ℕ) → data_at (frame_octet layout start xs) layout.markers (data_index layout.markers start + 2) (length xs) ≡ xs
ulpdu_back layout start xs =
    data_back layout start xs 2 (length xs) (omega arith)
    ∙ ap (take (length xs)) (append_assoc xs (replicate (pad_len (length xs)) 0) (crc_field layout start xs))
    ∙ take_at xs (replicate (pad_len (length xs)) 0 ++ crc_field layout start xs) (length xs) refl

field_back : (layout : Layout) (start : ℕ) (xs : List ℕ) → field_at (frame_octet layout start xs) layout.markers start (length xs) ≡ crc_field layout start xs
field_back layout start xs =
    data_back layout start xs (2 + length xs + pad_len (length xs)) 4 (omega arith)
    ∙ ap (take 4) (drop_at (bare_data xs) (crc_field layout start xs) (2 + length xs + pad_len (length xs)) (length_bare xs))
    ∙ ap (take 4) (sym (append-nil (crc_field layout start xs)))
    ∙ take_at (crc_field layout start xs) [] 4 (length_field layout start xs)

-- what stands before the CRC field doesn't depend on it
covered_back : (layout : Layout) (start : ℕ) (xs : List ℕ) → octets_at (frame_octet layout start xs) (span_start layout.markers start) (field_place layout.markers start (length xs)) ≡ covered layout.markers start xs
unfolding laid frame_octet
covered_back layout start xs =
    same_octets (frame_octet layout start xs) (octet_at m start origin (bare_data xs)) (span_start m start) (field_place m start (length xs)) (λ p low high. same p high (in_marker m p) refl)
  where
    m : Bool
    m = layout.markers

    origin : ℕ
    origin = data_index layout.markers start

    same : (p : ℕ) → p < field_place m start (length xs) → (v : Bool) → in_marker m p ≡ v → frame_octet layout start xs p ≡ octet_at m start origin (bare_data xs) p
    same p high true t = octet_marker m start origin (frame_data layout start xs) p t ∙ sym (octet_marker m start origin (bare_data xs) p t)
    same p high false t =
        octet_data m start origin (frame_data layout start xs) p t
        ∙ get_or_append_left (bare_data xs) (crc_field layout start xs) 0 (data_index m p - origin) (omega (arith, length_bare xs, index_below m (origin + (2 + length xs + pad_len (length xs))) p t high))
        ∙ sym (octet_data m start origin (bare_data xs) p t)

crc_back : (layout : Layout) (start : ℕ) (xs : List ℕ) → layout.crc ≡ true → crc_agrees (frame_octet layout start xs) layout.markers start (length xs) ≡ true
unfolding crc_agrees
crc_back layout start xs used =
    same_bytes (field_at (frame_octet layout start xs) layout.markers start (length xs)) _
    (field_back layout start xs
    ∙ ap (λ b. cond b (to_le_bytes w32 (crc32c (covered layout.markers start xs))) (0 ∷ 0 ∷ 0 ∷ 0 ∷ [])) used
    ∙ ap (λ ys. to_le_bytes w32 (crc32c ys)) (sym (covered_back layout start xs)))

marker_back : (layout : Layout) (start : ℕ) (xs : List ℕ) → layout.markers ≡ true → start % 4 ≡ 0 → (p : ℕ) → p < start + 65536 → marker_agrees (frame_octet layout start xs) start p ≡ true
unfolding frame_octet
marker_back layout start xs used aligned p near =
    elim (cases_eq (p % 512) 0) [
      | inl z ↦
          let v = marker_value start (p / 512) in
          let value : v ≡ p - start = marker_value_is start p z in
          let two : octet (p + 2) ≡ v / 256 % 256 = place 2 (p + 2) (omega arith) refl z in
          let three : octet (p + 3) ≡ v % 256 = place 3 (p + 3) (omega arith) refl z in
          marker_agrees_is octet start p z ∙ eq-eqb (pointer_at octet p) (p - start) (omega (arith, two, three, value))
      | inr other ↦ no_marker_agrees octet start p other
    ]
  where
    octet : ℕ → ℕ
    octet = frame_octet layout start xs

    place : (i q : ℕ) → i < 4 → q ≡ p + i → p % 512 ≡ 0 → octet q ≡ get_or (marker_octets start (p / 512)) i 0
    place i q lt e z =
        ap (λ m. octet_at m start (data_index layout.markers start) (frame_data layout start xs) q) used
        ∙ marker_octet start (data_index layout.markers start) (frame_data layout start xs) p i q z lt e

none_wrong : (crc markers a c : Bool) → (crc ≡ true → a ≡ true) → (markers ≡ true → c ≡ true)
    → cond (crc && not a) (Some CrcMismatch) (cond (markers && not c) (Some MarkerMismatch) None) ≡ None
none_wrong true true a c e f = ap (λ x. cond (not x) (Some CrcMismatch) (cond (not c) (Some MarkerMismatch) None)) (e refl) ∙ ap (λ x. cond (not x) (Some MarkerMismatch) None) (f refl)
none_wrong true false a c e f = ap (λ x. cond (not x) (Some CrcMismatch) None) (e refl)
none_wrong false true a c e f = ap (λ x. cond (not x) (Some MarkerMismatch) None) (f refl)
none_wrong false false a c e f = refl

pub agrees_back : (layout : Layout) (start : ℕ) (xs : List ℕ) → IsStart layout.markers start → length xs ≤ 64512 → mismatch_at layout (frame_octet layout start xs) start (length xs) ≡ None
unfolding mismatch_at markers_agree
agrees_back layout start xs s short =
    none_wrong layout.crc layout.markers _ _ (crc_back layout start xs)
    (λ t. all_hold (marker_agrees (frame_octet layout start xs) start) (span_start true start) (frame_end true start (length xs) - span_start true start)
    (λ p low high.
    let far = after_bound true start (frame_size (length xs)) (aligned_edge true start s.aligned) (omega arith) in
    let here = place_index true start (subst (λ m. in_marker m start ≡ false) t s.outside) in
    marker_back layout start xs t s.aligned p (omega (arith, far, here))))

held_again : (arrived : Arrived) (layout : Layout) (base start : ℕ) (xs : List ℕ) → IsStart layout.markers start → length xs ≤ max_sent
    → HoldsFrame arrived layout base start xs → IsReadAgain (found_at arrived layout base start) xs
held_again arrived layout base start xs s short holds =
    let m = layout.markers in
    let n = length xs in
    let f : ℕ → ℕ = octet_in arrived base in
    let g : ℕ → ℕ = frame_octet layout start xs in
    let same : Agree f g m start n = agree f g m start n (λ p low high. ap octet_of (holds p low high)) in
    let len : length_at f start ≡ n = same_length f g m start n s same ∙ length_back layout start xs s in
    record {
      whole = λ p low high. ap (λ c. not (is_missing c)) (holds p low (omega (arith, high, ap (frame_end m start) len)));
      len = len;
      ulpdu = ap (data_at f m (data_index m start + 2)) len ∙ same_frame_data f g m start n 2 n s same (omega arith) ∙ ulpdu_back layout start xs;
      agrees = ap (mismatch_at layout f start) len ∙ same_mismatch f g layout start n s same ∙ agrees_back layout start xs s short;
    }

-- the octets that are written, one by one
written_holds : (arrived : Arrived) (layout : Layout) (base at : ℕ) (xs : List ℕ) → IsBetween layout.markers at
    → map Here (frame_octets layout at xs) ≡ cells_between arrived (base + at) (base + frame_end layout.markers at (length xs))
    → HoldsFrame arrived layout base (frame_start layout.markers at) xs
unfolding frame_octets
written_holds arrived layout base at xs between same = λ p low high.
    let m = layout.markers in
    let start = frame_start m at in
    let end = frame_end m at (length xs) in
    let from : at ≤ p = omega (arith, between.span, low) in
    let before : p < end = omega (arith, high, ends m at (length xs)) in
    let k : ℕ = p - at in
    let long = length-map-range_with_len (frame_octet layout start xs) at (end - at) in
    ap (cell_at arrived) (let e : base + p ≡ base + at + k = omega arith in e)
    ∙ sym (get_or-map-range_with_len (cell_at arrived) (base + at) (base + end - (base + at)) k (base + at + k) Missing (omega arith) refl)
    ∙ ap (λ cs. get_or cs k Missing) (sym same)
    ∙ get_or-map Here (map (frame_octet layout start xs) (range_with_len at (end - at))) k 0 Missing (omega (arith, long))
    ∙ ap Here (get_or-map-range_with_len (frame_octet layout start xs) at (end - at) k p 0 (omega arith) (omega arith))

pub reads_again : ReadsAgain
reads_again = record {
  held = held_again;
  written = λ arrived layout base at xs between short same.
      held_again arrived layout base (frame_start layout.markers at) xs (begins layout.markers at between) short (written_holds arrived layout base at xs between same);
}

-- ---- more octets
stays_as : (place q : ℕ) (octets : List ℕ) (c : Cell) → not (is_missing c) ≡ true → first_copy place octets q c ≡ c
stays_as place q octets Missing h = cc
stays_as place q octets (Here x) h = refl
stays_as place q octets Gone h = refl

pub cell_stays : (a : Arrived) (place : ℕ) (octets : List ℕ) (q : ℕ) → has_come a q ≡ true → cell_at (delivered a place octets) q ≡ cell_at a q
cell_stays a place octets q h = go (is_dropped a place (length octets)) refl
  where
    go : (b : Bool) → is_dropped a place (length octets) ≡ b → cell_at (delivered a place octets) q ≡ cell_at a q
    go true e = ap (λ x. cell_at x q) (sym (delivered_dropped a place octets e))
    go false e = ap (λ x. cell_at x q) (sym (delivered_kept a place octets e)) ∙ cell_at-taken_in a place octets q ∙ stays_as place q octets (cell_at a q) h

pub stays_whole : StaysWhole
stays_whole found place octets s whole =
    let m = found.layout.markers in
    let start = found.start in
    let old : ℕ → ℕ = octet_in found.arrived found.base in
    let new : ℕ → ℕ = octet_in (delivered found.arrived place octets) found.base in
    let n = length_at old start in
    let cell = λ (p : ℕ) (low : span_start m start ≤ p) (high : p < frame_end m start n). cell_stays found.arrived place octets (found.base + p) (whole p low high) in
    let same : Agree new old m start n = agree new old m start n (λ p low high. ap octet_of (cell p low high)) in
    let len : length_at new start ≡ n = same_length new old m start n s same in
    record {
      whole = λ p low high. let inside : p < frame_end m start n = omega (arith, high, ap (frame_end m start) len) in ap (λ c. not (is_missing c)) (cell p low inside) ∙ whole p low inside;
      len = len;
      ulpdu = ap (data_at new m (data_index m start + 2)) len ∙ same_frame_data new old m start n 2 n s same (omega arith);
      mismatch = ap (mismatch_at found.layout new start) len ∙ same_mismatch new old found.layout start n s same;
    }
