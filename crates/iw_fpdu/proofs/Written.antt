-- A frame, as it is written: what stands before the CRC field, and the field.
use Rattle.std.proofs.Common.{◌≡◌, ℕ, ◌+◌, ◌-◌, ◌/◌, ◌%◌, ◌<◌, ◌≤◌, zero, suc, Bool, true, false, not, cond, eqb, List, [], ◌∷◌, ◌++◌, take, drop, length, replicate, refl, sym, ap, ◌∙◌, subst, arith, inl, inr}
use Rattle.std.proofs.lemmas.List.{take-replicate, append_assoc, append-nil, length-append, length-replicate, drop_at, take_at, take_all, get_or_append_left}
use Rattle.std.proofs.lemmas.List.FromFn.{length-map-range_with_len}
use Rattle.std.proofs.lemmas.Bool.{cases_lt, cases_eq}
use Rattle.std.proofs.lemmas.Bool.Decides.{nat_tests}
use Rattle.std.specs.Int.{w32, to_le_bytes}
use Rattle.iw_crc.specs.Crc.{crc32c}
use Rattle.iw_fpdu.specs.declared.layout.Layout.{Layout}
use Rattle.iw_fpdu.specs.Places.{data_place, data_index, in_marker, place_after, frame_start, span_start}
use Rattle.iw_fpdu.specs.Frame.{marker_value, octet_at, laid, pad_len, frame_size, frame_end, field_place, bare_data, bare_frame, covered, crc_field, frame_data, frame_octet, frame_octets}
use Rattle.iw_fpdu.specs.Laying.{IsRun, IsEdge, marker_before, marker_beyond}
use Rattle.iw_fpdu.proofs.Counted.{place_after_none, run_place, four_past, index_place, index_mono, place_mono, place_index, no_in_marker, edge_inside, edge_marker, run_data, past_edge, after_edge, at_most_after, index_after, after_some, aligned_edge, marker_value_is, four_in_row, index_aligned, after_after}
use Rattle.iw_fpdu.proofs.Laid.{laid_three, laid_turn, map_range, laid_split, laid_none, laid_shift, laid_run, laid_past, laid_marker, octet_data, octet_marker}

pub length_bare : (ulpdu : List ℕ) → length (bare_data ulpdu) ≡ 2 + length ulpdu + pad_len (length ulpdu)
length_bare ulpdu = simp (length-append, length-replicate) (omega arith)

-- what is laid up to the place of the next data octet ends in the marker before it, if there is one
pub laid_up : (m : Bool) (start : ℕ) (xs : List ℕ) (a : ℕ) → IsEdge m a
    → laid m start (data_index m a) xs a (data_place m (data_index m a + length xs))
    ≡ laid m start (data_index m a) xs a (place_after m a (length xs)) ++ marker_before m start (place_after m a (length xs))
laid_up m start xs a edge =
    let p = place_after m a (length xs) in
    let to = data_place m (data_index m a + length xs) in
    let edge_p : IsEdge m p = after_edge m a (length xs) edge in
    let next : data_place m (data_index m p) ≡ to = ap (data_place m) (index_after m a (length xs)) in
    let later : p ≤ to = omega (arith, next, past_edge m p edge_p) in
    laid_split m start (data_index m a) xs a p to (at_most_after m a (length xs) edge) later
    ∙ ap (λ ys. laid m start (data_index m a) xs a p ++ ys)
    (laid_past m start (data_index m a) xs p to edge_p (omega (arith, next))
    ∙ ap (λ ys. marker_before m start p ++ ys) (laid_none m start (data_index m a) xs (data_place m (data_index m p)) to (omega (arith, next)))
    ∙ append-nil (marker_before m start p))

-- a place before that of data octet k has an index below k, if it is no marker's
pub index_below : (m : Bool) (k p : ℕ) → in_marker m p ≡ false → p < data_place m k → data_index m p < k
index_below m k p out lt =
    elim (cases_lt (data_index m p) k) [
      | inl less ↦ less
      | inr more ↦ absurd (omega (arith, place_mono m k (data_index m p) more, place_index m p out))
    ]

-- what stands before the place of the next data octet doesn't depend on that
pub laid_before : (m : Bool) (start : ℕ) (xs ys : List ℕ) (a to : ℕ) → to ≤ data_place m (data_index m a + length xs)
    → laid m start (data_index m a) (xs ++ ys) a to ≡ laid m start (data_index m a) xs a to
unfolding laid
laid_before m start xs ys a to fits =
    map_range (octet_at m start (data_index m a) (xs ++ ys)) (octet_at m start (data_index m a) xs) a (to - a) (λ p low high. same p low (omega arith) (in_marker m p) refl)
  where
    same : (p : ℕ) → a ≤ p → p < to → (v : Bool) → in_marker m p ≡ v → octet_at m start (data_index m a) (xs ++ ys) p ≡ octet_at m start (data_index m a) xs p
    same p low high true t = octet_marker m start (data_index m a) (xs ++ ys) p t ∙ sym (octet_marker m start (data_index m a) xs p t)
    same p low high false t =
        octet_data m start (data_index m a) (xs ++ ys) p t
        ∙ get_or_append_left xs ys 0 (data_index m p - data_index m a) (omega (arith, index_below m (data_index m a + length xs) p t (omega arith), index_mono m a p low))
        ∙ sym (octet_data m start (data_index m a) xs p t)

-- the last four data octets of a frame stand side by side behind all else
pub laid_last : (m : Bool) (start : ℕ) (xs field : List ℕ) (a : ℕ) → a % 4 ≡ 0 → length xs % 4 ≡ 0 → length field ≡ 4
    → laid m start (data_index m a) (xs ++ field) a (place_after m a (length xs + 4)) ≡ laid m start (data_index m a) xs a (data_place m (data_index m a + length xs)) ++ field
laid_last m start xs field a aligned whole four =
    let i = data_index m a + length xs in
    let fp = data_place m i in
    let end = place_after m a (length xs + 4) in
    let edge = aligned_edge m a aligned in
    let run : IsRun m fp 4 = four_in_row m i (omega (arith, index_aligned m a aligned)) in
    let beyond : end ≡ fp + 4 = after_some m a (length xs + 4) (length xs + 3) (omega arith) ∙ ap (λ x. x + 1) (ap (data_place m) (omega arith) ∙ run_data m i 4 3 run (omega arith)) ∙ omega arith in
    let low : a ≤ fp = omega (arith, past_edge m a edge, place_mono m (data_index m a) i (omega arith)) in
    let at_fp : data_index m fp ≡ i = index_place m i in
    ap (laid m start (data_index m a) (xs ++ field) a) beyond
    ∙ laid_split m start (data_index m a) (xs ++ field) a fp (fp + 4) low (omega arith)
    ∙ ap (λ ys. ys ++ laid m start (data_index m a) (xs ++ field) fp (fp + 4)) (laid_before m start xs field a fp (omega arith))
    ∙ ap (λ ys. laid m start (data_index m a) xs a fp ++ ys)
    (laid_shift m start (data_index m a) (length xs) (data_index m fp) (xs ++ field) fp (fp + 4) at_fp (omega arith)
    ∙ ap (λ zs. laid m start (data_index m fp) zs fp (fp + 4)) (drop_at xs field (length xs) refl)
    ∙ laid_run m start field fp 4 (omega arith) run ∙ ap (λ n. take n field) (sym four) ∙ take_all field)
  where
    take_all : (ys : List ℕ) → take (length ys) ys ≡ ys
    take_all ys = ap (take (length ys)) (sym (append-nil ys)) ∙ take_at ys [] (length ys) refl

-- the span of a frame: the marker directly before it, where that isn't written with it, and what is written
pub laid_span : (m : Bool) (at : ℕ) (xs : List ℕ) (to : ℕ) → at % 4 ≡ 0 → at ≤ to
    → laid m (frame_start m at) (data_index m at) xs (span_start m (frame_start m at)) to ≡ marker_beyond m at ++ laid m (frame_start m at) (data_index m at) xs at to
unfolding span_start marker_beyond
laid_span true at xs to aligned later =
    elim (cases_eq (at % 512) 0) [
      | inl zero_at ↦
          let start : frame_start true at ≡ at + 4 = edge_marker at zero_at in
          let near : eqb (frame_start true at % 512) 4 ≡ true = grind (arith, nat_tests, start) in
          let far : eqb (at % 512) 4 ≡ false = grind (arith, nat_tests) in
          ap (λ b. laid true (frame_start true at) (data_index true at) xs (cond b (frame_start true at - 4) (frame_start true at)) to) near
          ∙ ap (λ p. laid true (frame_start true at) (data_index true at) xs p to) (omega (arith, start))
          ∙ sym (ap (λ b. cond b (0 ∷ 0 ∷ 0 ∷ 0 ∷ []) [] ++ laid true (frame_start true at) (data_index true at) xs at to) far)
      | inr other ↦
          let start : frame_start true at ≡ at = edge_inside at (aligned_edge true at aligned) (omega arith) in
          elim (cases_eq (at % 512) 4) [
            | inl four_at ↦
                let near : eqb (frame_start true at % 512) 4 ≡ true = grind (arith, nat_tests, start) in
                let here : eqb (at % 512) 4 ≡ true = grind (arith, nat_tests) in
                let before : (at - 4) % 512 ≡ 0 = omega arith in
                let value : marker_value (frame_start true at) ((at - 4) / 512) ≡ 0 = omega (arith, marker_value_is (frame_start true at) (at - 4) before, start) in
                ap (λ b. laid true (frame_start true at) (data_index true at) xs (cond b (frame_start true at - 4) (frame_start true at)) to) near
                ∙ ap (λ p. laid true (frame_start true at) (data_index true at) xs p to) (let e : frame_start true at - 4 ≡ at - 4 = omega (arith, start) in e)
                ∙ laid_split true (frame_start true at) (data_index true at) xs (at - 4) at to (omega arith) later
                ∙ ap (λ ys. ys ++ laid true (frame_start true at) (data_index true at) xs at to)
                (ap (laid true (frame_start true at) (data_index true at) xs (at - 4)) (let e : at ≡ at - 4 + 4 = omega arith in e)
                ∙ laid_marker (frame_start true at) (data_index true at) xs (at - 4) before
                ∙ ap (λ v. 0 ∷ 0 ∷ v / 256 % 256 ∷ v % 256 ∷ []) value)
                ∙ sym (ap (λ b. cond b (0 ∷ 0 ∷ 0 ∷ 0 ∷ []) [] ++ laid true (frame_start true at) (data_index true at) xs at to) here)
            | inr inside ↦
                let near : eqb (frame_start true at % 512) 4 ≡ false = grind (arith, nat_tests, start) in
                let far : eqb (at % 512) 4 ≡ false = grind (arith, nat_tests) in
                ap (λ b. laid true (frame_start true at) (data_index true at) xs (cond b (frame_start true at - 4) (frame_start true at)) to) near
                ∙ ap (λ p. laid true (frame_start true at) (data_index true at) xs p to) start
                ∙ sym (ap (λ b. cond b (0 ∷ 0 ∷ 0 ∷ 0 ∷ []) [] ++ laid true (frame_start true at) (data_index true at) xs at to) far)
          ]
    ]
laid_span false at xs to aligned later = ap (λ p. laid false (frame_start false at) (data_index false at) xs p to) (place_index false at (no_in_marker at))

-- what is appended piece by piece, up to the CRC field's place
pub pieces_written : (m : Bool) (at start b d e : ℕ) (old one two three four head body pad ulpdu : List ℕ) → IsEdge m at → start ≡ frame_start m at
    → bare_data ulpdu ≡ head ++ body ++ pad
    → b ≡ place_after m at (length head) → d ≡ place_after m b (length body) → e ≡ place_after m d (length pad)
    → one ≡ old ++ laid m start (data_index m at) head at (place_after m at (length head))
    → two ≡ one ++ laid m start (data_index m b) body b (place_after m b (length body))
    → three ≡ two ++ laid m start (data_index m d) pad d (place_after m d (length pad))
    → four ≡ three ++ marker_before m start e
    → four ≡ old ++ laid m (frame_start m at) (data_index m at) (bare_data ulpdu) at (field_place m at (length ulpdu))
pieces_written m at start b d e old one two three four head body pad ulpdu edge start_is whole b_is d_is e_is one_is two_is three_is four_is =
    let first : ℕ → List ℕ = λ x. laid m start (data_index m at) head at x in
    let second : ℕ → List ℕ = λ x. laid m start (data_index m x) body x (place_after m x (length body)) in
    let third : ℕ → List ℕ = λ x. laid m start (data_index m x) pad x (place_after m x (length pad)) in
    let bare = bare_data ulpdu in
    let b' = place_after m at (length head) in
    let d' = place_after m b' (length body) in
    let d_at : d ≡ d' = d_is ∙ ap (λ x. place_after m x (length body)) b_is in
    let size : length bare ≡ length head + length body + length pad = ap length whole ∙ simp length-append (omega arith) in
    let end : e ≡ place_after m at (length bare) =
    e_is ∙ ap (λ x. place_after m x (length pad)) d_at ∙ ap (λ x. place_after m x (length pad)) (after_after m at (length head) (length body)) ∙ after_after m at (length head + length body) (length pad)
    ∙ ap (place_after m at) (sym size) in
    let up : data_place m (data_index m at + length bare) ≡ field_place m at (length ulpdu) = ap (λ k. data_place m (data_index m at + k)) (length_bare ulpdu) in
    four_is
    ∙ ap (λ x. three ++ marker_before m start x) end
    ∙ ap (λ ys. ys ++ marker_before m start (place_after m at (length bare))) (three_is ∙ ap (λ ys. ys ++ third d) (two_is ∙ ap (λ ys. ys ++ second b) one_is))
    ∙ ap (λ x. old ++ first b' ++ second x ++ third d ++ marker_before m start (place_after m at (length bare))) b_is
    ∙ ap (λ x. old ++ first b' ++ second b' ++ third x ++ marker_before m start (place_after m at (length bare))) d_at
    ∙ regroup old (first b') (second b') (third d') (marker_before m start (place_after m at (length bare)))
    ∙ ap (λ ys. old ++ (ys ++ marker_before m start (place_after m at (length bare)))) (sym (laid_three m start head body pad bare at edge whole))
    ∙ ap (λ ys. old ++ ys) (sym (laid_up m start bare at edge))
    ∙ ap (λ x. old ++ laid m start (data_index m at) bare at x) up
    ∙ ap (λ x. old ++ laid m x (data_index m at) bare at (field_place m at (length ulpdu))) start_is
  where
    regroup : (o f g h k : List ℕ) → o ++ f ++ g ++ h ++ k ≡ o ++ (f ++ g ++ h ++ k)
    regroup o f g h k = simp append_assoc refl

-- its pieces: the length field, the ULPDU and the pad
pub bare_whole : (head ulpdu pad : List ℕ) → head ≡ length ulpdu / 256 ∷ length ulpdu % 256 ∷ [] → pad ≡ replicate (pad_len (length ulpdu)) 0
    → bare_data ulpdu ≡ head ++ ulpdu ++ pad
bare_whole head ulpdu pad head_is pad_is =
    ap (λ t. (length ulpdu / 256 ∷ length ulpdu % 256 ∷ []) ++ ulpdu ++ t) (sym pad_is) ∙ ap (λ h. h ++ ulpdu ++ pad) (sym head_is)

-- or the length field with the ULPDU's header, its payload, and the pad
pub segment_whole : (len : ℕ) (header payload pad : List ℕ) → len ≡ length (header ++ payload) → pad ≡ replicate (pad_len len) 0
    → bare_data (header ++ payload) ≡ (len / 256 ∷ len % 256 ∷ header) ++ payload ++ pad
segment_whole len header payload pad long pad_is =
    bare_whole (len / 256 ∷ len % 256 ∷ []) (header ++ payload) pad (ap (λ n. n / 256 ∷ n % 256 ∷ []) long) (pad_is ∙ ap (λ n. replicate (pad_len n) 0) long)
    ∙ regroup (len / 256 ∷ len % 256 ∷ []) header payload pad
  where
    regroup : (f h p z : List ℕ) → f ++ (h ++ p) ++ z ≡ (f ++ h) ++ p ++ z
    regroup f h p z = simp append_assoc refl

pub length_field : (layout : Layout) (start : ℕ) (ulpdu : List ℕ) → length (crc_field layout start ulpdu) ≡ 4
length_field layout start ulpdu = go layout.crc
  where
    go : (b : Bool) → length (cond b (to_le_bytes w32 (crc32c (covered layout.markers start ulpdu))) (0 ∷ 0 ∷ 0 ∷ 0 ∷ [])) ≡ 4
    go true = refl
    go false = refl

-- what the CRC of a frame is over
pub covered_is : (m : Bool) (at : ℕ) (ulpdu : List ℕ) → at % 4 ≡ 0
    → covered m (frame_start m at) ulpdu ≡ marker_beyond m at ++ laid m (frame_start m at) (data_index m at) (bare_data ulpdu) at (field_place m at (length ulpdu))
covered_is m at ulpdu aligned =
    let index : data_index m (frame_start m at) ≡ data_index m at = index_place m (data_index m at) in
    let later : at ≤ field_place m at (length ulpdu) = omega (arith, past_edge m at (aligned_edge m at aligned), place_mono m (data_index m at) (data_index m at + (2 + length ulpdu + pad_len (length ulpdu))) (omega arith)) in
    ap (λ i. laid m (frame_start m at) i (bare_data ulpdu) (span_start m (frame_start m at)) (data_place m (i + (2 + length ulpdu + pad_len (length ulpdu))))) index
    ∙ laid_span m at (bare_data ulpdu) (field_place m at (length ulpdu)) aligned later

-- the frame that is written: all up to the CRC field, and the field
pub frame_is : (layout : Layout) (at : ℕ) (ulpdu : List ℕ) → at % 4 ≡ 0
    → frame_octets layout at ulpdu
    ≡ laid layout.markers (frame_start layout.markers at) (data_index layout.markers at) (bare_data ulpdu) at (field_place layout.markers at (length ulpdu))
    ++ crc_field layout (frame_start layout.markers at) ulpdu
frame_is layout at ulpdu aligned =
    let m = layout.markers in
    let start = frame_start m at in
    let bare = bare_data ulpdu in
    let index : data_index m start ≡ data_index m at = index_place m (data_index m at) in
    let up : data_place m (data_index m at + length bare) ≡ field_place m at (length ulpdu) = ap (λ k. data_place m (data_index m at + k)) (length_bare ulpdu) in
    let end : frame_end m at (length ulpdu) ≡ place_after m at (length bare + 4) = ap (place_after m at) (omega (arith, length_bare ulpdu)) in
    frame_laid layout at ulpdu
    ∙ ap (λ i. laid m start i (frame_data layout start ulpdu) at (frame_end m at (length ulpdu))) index
    ∙ ap (laid m start (data_index m at) (frame_data layout start ulpdu) at) end
    ∙ laid_last m start bare (crc_field layout start ulpdu) at aligned (omega (arith, length_bare ulpdu)) (length_field layout start ulpdu)
    ∙ ap (λ x. laid m start (data_index m at) bare at x ++ crc_field layout start ulpdu) up
  where
    frame_laid : (layout : Layout) (at : ℕ) (ulpdu : List ℕ)
        → frame_octets layout at ulpdu ≡ laid layout.markers (frame_start layout.markers at) (data_index layout.markers (frame_start layout.markers at)) (frame_data layout (frame_start layout.markers at) ulpdu) at (frame_end layout.markers at (length ulpdu))
    frame_laid layout at ulpdu = unfold frame_octets frame_octet laid in refl

pub length-frame_octets : (layout : Layout) (at : ℕ) (ulpdu : List ℕ) → length (frame_octets layout at ulpdu) ≡ frame_end layout.markers at (length ulpdu) - at
unfolding frame_octets
length-frame_octets layout at ulpdu = length-map-range_with_len (frame_octet layout (frame_start layout.markers at) ulpdu) at (frame_end layout.markers at (length ulpdu) - at)

-- the CRC field, worked out over what was written
pub field_is : (layout : Layout) (at : ℕ) (ulpdu written : List ℕ) → at % 4 ≡ 0
    → written ≡ laid layout.markers (frame_start layout.markers at) (data_index layout.markers at) (bare_data ulpdu) at (field_place layout.markers at (length ulpdu))
    → cond layout.crc (to_le_bytes w32 (crc32c (marker_beyond layout.markers at ++ written))) (0 ∷ 0 ∷ 0 ∷ 0 ∷ []) ≡ crc_field layout (frame_start layout.markers at) ulpdu
field_is layout at ulpdu written aligned e =
    ap (λ xs. cond layout.crc (to_le_bytes w32 (crc32c xs)) (0 ∷ 0 ∷ 0 ∷ 0 ∷ [])) (ap (λ xs. marker_beyond layout.markers at ++ xs) e ∙ sym (covered_is layout.markers at ulpdu aligned))

pub whole_written : (layout : Layout) (at len : ℕ) (ulpdu old bare new field written : List ℕ) → at % 4 ≡ 0 → len ≡ length ulpdu
    → bare ≡ old ++ laid layout.markers (frame_start layout.markers at) (data_index layout.markers at) (bare_data ulpdu) at (field_place layout.markers at len)
    → written ≡ drop (length old) bare
    → field ≡ cond layout.crc (to_le_bytes w32 (crc32c (marker_beyond layout.markers at ++ written))) (0 ∷ 0 ∷ 0 ∷ 0 ∷ [])
    → new ≡ bare ++ field → new ≡ old ++ frame_octets layout at ulpdu
whole_written layout at len ulpdu old bare new field written aligned n_is bare_is written_is field_eq new_is =
    let m = layout.markers in
    let front : ℕ → List ℕ = λ k. laid m (frame_start m at) (data_index m at) (bare_data ulpdu) at (field_place m at k) in
    let same : bare ≡ old ++ front (length ulpdu) = bare_is ∙ ap (λ k. old ++ front k) n_is in
    let cut : written ≡ front (length ulpdu) = written_is ∙ ap (drop (length old)) same ∙ drop_at old (front (length ulpdu)) (length old) refl in
    new_is
    ∙ ap (λ ys. bare ++ ys) (field_eq ∙ field_is layout at ulpdu written aligned cut)
    ∙ ap (λ ys. ys ++ crc_field layout (frame_start m at) ulpdu) same
    ∙ append_assoc old (front (length ulpdu)) (crc_field layout (frame_start m at) ulpdu)
    ∙ ap (λ ys. old ++ ys) (sym (frame_is layout at ulpdu aligned))

pub holds : (b : Bool) → not b ≡ false → b ≡ true
holds true e = refl
holds false e = cc

-- a length field stands behind a marker or in a row, and so does a pad
two_in_row : (m : Bool) (at : ℕ) → at % 4 ≡ 0 → IsRun m (data_place m (data_index m at)) 2
unfolding data_place data_index
two_in_row true at h = (omega arith, omega arith)
two_in_row false at h = tt

pub two_past : (m : Bool) (at : ℕ) → at % 4 ≡ 0 → place_after m at 2 ≡ data_place m (data_index m at) + 2
two_past m at h =
    after_some m at 2 1 (omega arith) ∙ ap (λ x. x + 1) (run_data m (data_index m at) 2 1 (two_in_row m at h) (omega arith)) ∙ omega arith

pub laid_two : (m : Bool) (start a b at : ℕ) → IsEdge m at → at % 4 ≡ 0
    → laid m start (data_index m at) (a ∷ b ∷ []) at (place_after m at 2) ≡ marker_before m start at ++ (a ∷ b ∷ [])
laid_two m start a b at edge h =
    let p = data_place m (data_index m at) in
    let run = two_in_row m at h in
    ap (laid m start (data_index m at) (a ∷ b ∷ []) at) (two_past m at h)
    ∙ laid_turn m start (a ∷ b ∷ []) at p 2 (p + 2) edge refl (omega arith) (omega arith) run (omega arith)
    ∙ ap (λ ys. marker_before m start at ++ ((a ∷ b ∷ []) ++ ys)) (laid_none m start (data_index m (p + 2)) [] (p + 2) (p + 2) (omega arith))

pad_in_row : (m : Bool) (at pad : ℕ) → IsEdge m at → 0 < pad → pad < 4 → (data_index m at + pad) % 4 ≡ 0 → IsRun m at pad
unfolding data_index
pad_in_row true at pad (inl z) some few h = absurd (omega arith)
pad_in_row true at pad (inr inside) some few h = (inside, omega arith)
pad_in_row false at pad edge some few h = tt

-- the place behind the pad, and the one behind the CRC field, which is no nearer than four octets
pub pad_past : (m : Bool) (at pad : ℕ) → IsEdge m at → pad < 4 → (data_index m at + pad) % 4 ≡ 0 → (place_after m at pad ≡ at + pad) × (at + pad + 4 ≤ place_after m at (pad + 4))
pad_past m at pad edge few h =
    let beyond : place_after m at pad ≡ at + pad = elim (cases_lt 0 pad) [ inl some ↦ row some | inr none ↦ place_after_none m at pad (omega arith) ∙ omega arith ] in
    let after = after_after m at pad 4 in
    let field = four_past m (place_after m at pad) (omega (arith, index_after m at pad, h)) in
    (beyond, omega (arith, after, field, beyond, past_edge m (place_after m at pad) (after_edge m at pad edge)))
  where
    row : 0 < pad → place_after m at pad ≡ at + pad
    row some =
        let run = pad_in_row m at pad edge some few h in
        let here : data_place m (data_index m at) ≡ at = place_index m at (ap (in_marker m) (let e : at ≡ at + 0 = omega arith in e) ∙ (run_place m at pad 0 run some).0) in
        let last = run_data m (data_index m at) pad (pad - 1) (subst (λ x. IsRun m x pad) (sym here) run) (omega arith) in
        omega (arith, after_some m at pad (pad - 1) (omega arith), last, here)

pub laid_pad : (m : Bool) (start at pad : ℕ) → IsEdge m at → pad < 4 → (data_index m at + pad) % 4 ≡ 0 → laid m start (data_index m at) (replicate pad 0) at (place_after m at pad) ≡ replicate pad 0
laid_pad m start at pad edge few h =
    ap (laid m start (data_index m at) (replicate pad 0) at) (pad_past m at pad edge few h).0
    ∙ elim (cases_lt 0 pad) [
      | inl some ↦
          laid_run m start (replicate pad 0) at pad (omega (arith, length-replicate {A = ℕ} pad 0)) (pad_in_row m at pad edge some few h) ∙ take-replicate pad pad 0 (omega arith)
      | inr none ↦ laid_none m start (data_index m at) (replicate pad 0) at (at + pad) (omega arith) ∙ sym (ap (λ n. replicate n 0) (let e : pad ≡ 0 = omega arith in e))
    ]

four_zeros : (pad : ℕ) → pad < 4 → replicate {A = ℕ} 4 0 ≡ replicate pad 0 ++ replicate (4 - pad) 0
four_zeros zero lt = refl
four_zeros (suc zero) lt = refl
four_zeros (suc (suc zero)) lt = refl
four_zeros (suc (suc (suc zero))) lt = refl
four_zeros (suc (suc (suc (suc n)))) lt = absurd (omega arith)

-- four zeros, cut to the pad
pub cut_pad : (old new : List ℕ) (n pad : ℕ) → new ≡ old ++ (0 ∷ 0 ∷ 0 ∷ 0 ∷ []) → n ≡ length old + pad → pad < 4 → take n new ≡ old ++ replicate pad 0
cut_pad old new n pad e f few =
    ap (take n) (e ∙ ap (λ (ys : List ℕ). old ++ ys) (four_zeros pad few) ∙ sym (append_assoc old (replicate pad 0) (replicate (4 - pad) 0)))
    ∙ take_at (old ++ replicate pad 0) (replicate (4 - pad) 0) n (simp (length-append, length-replicate) (omega arith))

-- without markers the data octets stand one behind another
pub plain_written : (m : Bool) (at start len : ℕ) (ulpdu : List ℕ) → m ≡ false → len ≡ length ulpdu → laid m start (data_index m at) (bare_data ulpdu) at (field_place m at len) ≡ bare_data ulpdu
plain_written true at start len ulpdu f e = cc
plain_written false at start len ulpdu f e =
    let n = length (bare_data ulpdu) in
    ap (laid false start (data_index false at) (bare_data ulpdu) at) (let place : field_place false at len ≡ at + n = omega (arith, plain_place at (2 + len + pad_len len), length_bare ulpdu, e, ap pad_len e) in place)
    ∙ laid_run false start (bare_data ulpdu) at n (omega arith) tt
    ∙ take_all n (bare_data ulpdu) (omega arith)
  where
    plain_place : (at n : ℕ) → data_place false (data_index false at + n) ≡ at + n
    plain_place at n = unfold data_place data_index in refl

-- a frame where there are neither markers nor CRCs
pub frame_bare : (layout : Layout) (at : ℕ) (ulpdu : List ℕ) → at % 4 ≡ 0 → layout.markers ≡ false → layout.crc ≡ false → frame_octets layout at ulpdu ≡ bare_frame ulpdu
frame_bare layout at ulpdu aligned unmarked unchecked =
    let m = layout.markers in
    let start = frame_start m at in
    frame_is layout at ulpdu aligned
    ∙ ap (λ xs. xs ++ crc_field layout start ulpdu) (plain_written m at start (length ulpdu) ulpdu unmarked refl)
    ∙ ap (λ b. bare_data ulpdu ++ cond b (to_le_bytes w32 (crc32c (covered m start ulpdu))) (0 ∷ 0 ∷ 0 ∷ 0 ∷ [])) unchecked

pub length-bare_frame : (ulpdu : List ℕ) → length (bare_frame ulpdu) ≡ frame_size (length ulpdu)
length-bare_frame ulpdu = length-append (bare_data ulpdu) (0 ∷ 0 ∷ 0 ∷ 0 ∷ []) ∙ ap (λ n. n + 4) (length_bare ulpdu)

pub four_more : (n : ℕ) → replicate {A = ℕ} (n + 4) 0 ≡ replicate n 0 ++ (0 ∷ 0 ∷ 0 ∷ 0 ∷ [])
four_more zero = refl
four_more (suc n) = ap (λ k. replicate k 0) (let e : suc n + 4 ≡ suc (n + 4) = omega arith in e) ∙ ap (λ xs. 0 ∷ xs) (four_more n)

-- it is written as length field and header, payload, and pad and CRC field
pub bare_frame_written : (header payload old one two new : List ℕ) (len pad : ℕ) → len ≡ length (header ++ payload) → pad ≡ pad_len len
    → one ≡ old ++ (len / 256 ∷ len % 256 ∷ header) → two ≡ one ++ payload → new ≡ two ++ replicate (pad + 4) 0
    → new ≡ old ++ bare_frame (header ++ payload)
bare_frame_written header payload old one two new len pad long pad_is one_is two_is new_is =
    let field : List ℕ = len / 256 ∷ len % 256 ∷ [] in
    let end : replicate (pad + 4) 0 ≡ replicate pad 0 ++ (0 ∷ 0 ∷ 0 ∷ 0 ∷ []) = four_more pad in
    new_is ∙ ap (λ xs. xs ++ replicate (pad + 4) 0) (two_is ∙ ap (λ xs. xs ++ payload) one_is)
    ∙ ap (λ xs. old ++ (field ++ header) ++ payload ++ xs) end
    ∙ regroup old field header payload (replicate pad 0) (0 ∷ 0 ∷ 0 ∷ 0 ∷ [])
    ∙ ap (λ n. old ++ ((field ++ (header ++ payload) ++ replicate n 0) ++ (0 ∷ 0 ∷ 0 ∷ 0 ∷ []))) pad_is
    ∙ ap (λ n. old ++ (((n / 256 ∷ n % 256 ∷ []) ++ (header ++ payload) ++ replicate (pad_len n) 0) ++ (0 ∷ 0 ∷ 0 ∷ 0 ∷ []))) long
  where
    regroup : (o f h p z c : List ℕ) → o ++ (f ++ h) ++ p ++ (z ++ c) ≡ o ++ ((f ++ (h ++ p) ++ z) ++ c)
    regroup o f h p z c = simp append_assoc refl
