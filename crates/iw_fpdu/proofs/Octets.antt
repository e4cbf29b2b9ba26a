-- What is read off the octets at places.
use Rattle.std.proofs.Common.{◌≡◌, ℕ, ◌+◌, ◌-◌, ◌/◌, ◌%◌, ◌^◌, ◌<◌, ◌≤◌, zero, suc, Bool, true, false, not, ◌&&◌, ◌||◌, cond, eqb, List, [], ◌∷◌, ◌++◌, map, take, drop, length, get_or, Some, None, min, refl, sym, ap, ◌∙◌, subst, arith, inl, inr}
use Rattle.std.proofs.lemmas.List.{same_lists, get_or-drop, get_or-take, length-drop, length-take, map-append, get_or_default, drop_all, drop_at}
use Rattle.std.proofs.lemmas.List.FromFn.{get_or-map-range_with_len, length-map-range_with_len}
use Rattle.std.proofs.lemmas.Bool.{cases_lt, cases_eq}
use Rattle.std.proofs.lemmas.Bool.Decides.{nat_tests, same_from_decides, Decides-eqb, Decides-like}
use Rattle.std.specs.Int.{w32, from_le_bytes, to_le_bytes}
use Rattle.std.specs.Str.{bytes_eq}
use Rattle.std.proofs.lemmas.Nat.{le_bytes_4, from_le_bytes-to_le_bytes_4}
use Rattle.std.proofs.lemmas.Slice.Eq.{bytes_eq-Decides}
use Rattle.std.specs.List.{range_with_len, list_all}
use Rattle.iw_crc.specs.Crc.{crc32c}
use Rattle.iw_fpdu.specs.declared.layout.Layout.{Layout}
use Rattle.iw_fpdu.specs.declared.fpdu.Mismatch.TheVariants.{CrcMismatch, MarkerMismatch}
use Rattle.iw_fpdu.specs.Places.{data_place, data_index, in_marker, IsStart, span_start}
use Rattle.iw_fpdu.specs.Frame.{pad_len, frame_size, frame_end, field_place, marker_value}
use Rattle.iw_fpdu.specs.Laying.{IsRun}
use Rattle.iw_fpdu.specs.PiecesOctet.{octet_from}
use Rattle.iw_fpdu.specs.Reading.{octets_at, data_at, length_at, field_at, crc_agrees, pointer_at, marker_agrees, markers_agree, mismatch_at}
use Rattle.iw_fpdu.proofs.Counted.{place_index, place_mono, run_data, after_some, four_in_row, index_aligned, marker_value_is}
use Rattle.iw_fpdu.proofs.Laid.{range_append}

-- ---- where a frame's octets stand
pub span_low : (m : Bool) (start : ℕ) → span_start m start ≤ start
unfolding span_start
span_low true start = go (eqb (start % 512) 4) refl
  where
    go : (v : Bool) → eqb (start % 512) 4 ≡ v → cond v (start - 4) start ≤ start
    go true h = omega arith
    go false h = omega arith
span_low false start = omega arith

-- the span of a frame begins at most four octets before it
pub span_near : (m : Bool) (start : ℕ) → start ≤ span_start m start + 4
unfolding span_start
span_near true start = go (eqb (start % 512) 4) refl
  where
    go : (v : Bool) → eqb (start % 512) 4 ≡ v → start ≤ cond v (start - 4) start + 4
    go true h = omega arith
    go false h = omega arith
span_near false start = omega arith

pub two_in_row : (m : Bool) (start : ℕ) → IsStart m start → IsRun m start 2
unfolding in_marker
two_in_row true start h = let high : 4 ≤ start % 512 = grind (arith, nat_tests, h.outside) in (high, omega (arith, h.aligned))
two_in_row false start h = tt

-- data octet k of a frame lies in it
pub data_low : (m : Bool) (start k : ℕ) → IsStart m start → start ≤ data_place m (data_index m start + k)
data_low m start k h = omega (arith, place_index m start h.outside, place_mono m (data_index m start) (data_index m start + k) (omega arith))

pub data_high : (m : Bool) (start len k : ℕ) → k < frame_size len → data_place m (data_index m start + k) < frame_end m start len
data_high m start len k lt =
    omega (arith, after_some m start (frame_size len) (frame_size len - 1) (omega arith), place_mono m (data_index m start + k) (data_index m start + (frame_size len - 1)) (omega arith))

pub length_within : (m : Bool) (start len : ℕ) → IsStart m start → start + 2 ≤ frame_end m start len
length_within m start len h =
    let one : data_place m (data_index m start + 1) ≡ start + 1 =
    run_data m (data_index m start) 2 1 (subst (λ x. IsRun m x 2) (sym (place_index m start h.outside)) (two_in_row m start h)) (omega arith) ∙ ap (λ x. x + 1) (place_index m start h.outside) in
    omega (arith, one, data_high m start len 1 (omega arith))

pub second_place : (m : Bool) (start : ℕ) → IsStart m start → data_place m (data_index m start + 1) ≡ start + 1
second_place m start h =
    run_data m (data_index m start) 2 1 (subst (λ x. IsRun m x 2) (sym (place_index m start h.outside)) (two_in_row m start h)) (omega arith) ∙ ap (λ x. x + 1) (place_index m start h.outside)

-- the CRC field is the last four octets of a frame, side by side
pub field_run : (m : Bool) (start len : ℕ) → IsStart m start → IsRun m (field_place m start len) 4
field_run m start len h = four_in_row m (data_index m start + (2 + len + pad_len len)) (omega (arith, index_aligned m start h.aligned))

pub field_end : (m : Bool) (start len : ℕ) → IsStart m start → frame_end m start len ≡ field_place m start len + 4
field_end m start len h =
    let i = data_index m start + (2 + len + pad_len len) in
    after_some m start (frame_size len) (2 + len + pad_len len + 3) (omega arith)
    ∙ ap (λ x. x + 1) (ap (data_place m) (omega arith) ∙ run_data m i 4 3 (field_run m start len h) (omega arith)) ∙ omega arith

-- a marker of a frame lies in it whole
marker_room : (k p : ℕ) → p % 512 ≡ 0 → p < data_place true k + 1 → p + 4 < data_place true k + 1
unfolding data_place
marker_room k p h lt = omega arith

pub marker_within : (start len p : ℕ) → p % 512 ≡ 0 → p < frame_end true start len → p + 4 < frame_end true start len
marker_within start len p h lt =
    let e = after_some true start (frame_size len) (frame_size len - 1) (omega arith) in
    omega (arith, e, marker_room (data_index true start + (frame_size len - 1)) p h (omega (arith, e)))

-- ---- lists of octets
-- the same octets, at places counted from elsewhere
pub map_shift : {X : Type 0} → (f g : ℕ → X) (a b n : ℕ) → ((j : ℕ) → j < n → f (a + j) ≡ g (b + j)) → map f (range_with_len a n) ≡ map g (range_with_len b n)
map_shift f g a b zero h = refl
map_shift f g a b (suc n) h =
    let first : f a ≡ g b = ap f (omega arith) ∙ h 0 (omega arith) ∙ ap g (omega arith) in
    ap (λ x. x ∷ map f (range_with_len (a + 1) n)) first
    ∙ ap (λ xs. g b ∷ xs) (map_shift f g (a + 1) (b + 1) n (λ j lt. ap f (omega arith) ∙ h (1 + j) (omega arith) ∙ ap g (omega arith)))

-- octets at hand, from one place to another
pub cut_at : (from : ℕ) (octets : List ℕ) (a n : ℕ) → from ≤ a → a + n ≤ from + length octets → octets_at (octet_from from octets) a (a + n) ≡ take n (drop (a - from) octets)
cut_at from octets a n low high =
    same_lists (map f (range_with_len a (a + n - a))) (take n (drop (a - from) octets)) (simp (length-take, length-drop) (omega (arith, length-map-range_with_len f a (a + n - a)))) each
  where
    f : ℕ → ℕ
    f = octet_from from octets

    each : (k d : ℕ) → k < length (map f (range_with_len a (a + n - a))) → get_or (map f (range_with_len a (a + n - a))) k d ≡ get_or (take n (drop (a - from) octets)) k d
    each k d lt =
        let inside : k < n = omega (arith, lt, length-map-range_with_len f a (a + n - a)) in
        get_or-map-range_with_len f a (a + n - a) k (a + k) d (omega arith) refl
        ∙ ap (λ i. get_or octets i 0) (omega arith)
        ∙ get_or_default octets (a - from + k) 0 d (omega arith)
        ∙ sym (get_or-take n (drop (a - from) octets) k d inside ∙ get_or-drop (a - from) octets k d)

-- data octets of a run are the octets at its places
pub data_run : (octet : ℕ → ℕ) (m : Bool) (i n : ℕ) → IsRun m (data_place m i) n → data_at octet m i n ≡ octets_at octet (data_place m i) (data_place m i + n)
unfolding data_at
data_run octet m i n run =
    map_shift (λ k. octet (data_place m k)) octet i (data_place m i) n (λ j lt. ap octet (run_data m i n j run lt))
    ∙ ap (λ k. map octet (range_with_len (data_place m i) k)) (let e : n ≡ data_place m i + n - data_place m i = omega arith in e)

pub data_split : (octet : ℕ → ℕ) (m : Bool) (i n left : ℕ) → n ≤ left → data_at octet m i left ≡ data_at octet m i n ++ data_at octet m (i + n) (left - n)
unfolding data_at
data_split octet m i n left fits =
    ap (map (λ k. octet (data_place m k))) (range_append i n (left - n) (i + n) left refl (omega arith))
    ∙ map-append (λ k. octet (data_place m k)) (range_with_len i n) (range_with_len (i + n) (left - n))

pub length_data : (octet : ℕ → ℕ) (m : Bool) (i n : ℕ) → length (data_at octet m i n) ≡ n
unfolding data_at
length_data octet m i n = length-map-range_with_len (λ k. octet (data_place m k)) i n

pub data_none : (octet : ℕ → ℕ) (m : Bool) (i n : ℕ) → n ≡ 0 → data_at octet m i n ≡ []
unfolding data_at
data_none octet m i n e = ap (λ k. map (λ j. octet (data_place m j)) (range_with_len i k)) e

-- ---- the same octets give the same
pub same_octets : (f g : ℕ → ℕ) (from to : ℕ) → ((p : ℕ) → from ≤ p → p < to → f p ≡ g p) → octets_at f from to ≡ octets_at g from to
same_octets f g from to h = map_shift f g from from (to - from) (λ j lt. h (from + j) (omega arith) (omega arith))

pub same_data : (f g : ℕ → ℕ) (m : Bool) (i n : ℕ) → ((k : ℕ) → k < n → f (data_place m (i + k)) ≡ g (data_place m (i + k))) → data_at f m i n ≡ data_at g m i n
unfolding data_at
same_data f g m i n h = map_shift (λ k. f (data_place m k)) (λ k. g (data_place m k)) i i n h

pub same_all : (p q : ℕ → Bool) (from n : ℕ) → ((k : ℕ) → from ≤ k → k < from + n → p k ≡ q k) → list_all p (range_with_len from n) ≡ list_all q (range_with_len from n)
same_all p q from zero h = refl
same_all p q from (suc n) h =
    ap (λ b. b && list_all p (range_with_len (from + 1) n)) (h from (omega arith) (omega arith))
    ∙ ap (λ b. q from && b) (same_all p q (from + 1) n (λ k low high. h k (omega arith) (omega arith)))

pub all_hold : (p : ℕ → Bool) (from n : ℕ) → ((k : ℕ) → from ≤ k → k < from + n → p k ≡ true) → list_all p (range_with_len from n) ≡ true
all_hold p from zero h = refl
all_hold p from (suc n) h =
    ap (λ b. b && list_all p (range_with_len (from + 1) n)) (h from (omega arith) (omega arith))
    ∙ all_hold p (from + 1) n (λ k low high. h k (omega arith) (omega arith))

pub all_each : (p : ℕ → Bool) (from n k : ℕ) → list_all p (range_with_len from n) ≡ true → from ≤ k → k < from + n → p k ≡ true
all_each p from zero k h low high = absurd (omega arith)
all_each p from (suc n) k h low high =
    elim (cases_eq k from) [
      | inl here ↦ ap p here ∙ first (p from) (list_all p (range_with_len (from + 1) n)) h
      | inr later ↦ all_each p (from + 1) n k (rest (p from) (list_all p (range_with_len (from + 1) n)) h) (omega arith) (omega arith)
    ]
  where
    first : (b c : Bool) → (b && c) ≡ true → b ≡ true
    first true c e = refl
    first false c e = e

    rest : (b c : Bool) → (b && c) ≡ true → c ≡ true
    rest true c e = e
    rest false c e = cc

pub one_fails : (p : ℕ → Bool) (from n k : ℕ) → from ≤ k → k < from + n → p k ≡ false → list_all p (range_with_len from n) ≡ false
one_fails p from zero k low high e = absurd (omega arith)
one_fails p from (suc n) k low high e =
    elim (cases_eq k from) [
      | inl here ↦ ap (λ b. b && list_all p (range_with_len (from + 1) n)) (ap p (sym here) ∙ e)
      | inr later ↦ ap (λ b. p from && b) (one_fails p (from + 1) n k (omega arith) (omega arith) e) ∙ no_and (p from)
    ]
  where
    no_and : (b : Bool) → (b && false) ≡ false
    no_and true = refl
    no_and false = refl

-- the octets are the same over the span of a frame
pub Agree : (ℕ → ℕ) → (ℕ → ℕ) → Bool → ℕ → ℕ → Type 0
Agree f g m start len = (p : ℕ) → span_start m start ≤ p → p < frame_end m start len → f p ≡ g p

pub agree_at : (f g : ℕ → ℕ) (m : Bool) (start len : ℕ) → Agree f g m start len → (p : ℕ) → span_start m start ≤ p → p < frame_end m start len → f p ≡ g p
unfolding Agree
agree_at f g m start len h = h

pub agree : (f g : ℕ → ℕ) (m : Bool) (start len : ℕ) → ((p : ℕ) → span_start m start ≤ p → p < frame_end m start len → f p ≡ g p) → Agree f g m start len
unfolding Agree
agree f g m start len h = h

pub same_frame_data : (f g : ℕ → ℕ) (m : Bool) (start len i n : ℕ) → IsStart m start → Agree f g m start len → i + n ≤ frame_size len
    → data_at f m (data_index m start + i) n ≡ data_at g m (data_index m start + i) n
same_frame_data f g m start len i n s h fits =
    same_data f g m (data_index m start + i) n (λ k lt.
    let place : data_place m (data_index m start + i + k) ≡ data_place m (data_index m start + (i + k)) = ap (data_place m) (omega arith) in
    agree_at f g m start len h (data_place m (data_index m start + i + k))
    (omega (arith, span_low m start, data_low m start (i + k) s, place)) (omega (arith, data_high m start len (i + k) (omega arith), place)))

pub same_length : (f g : ℕ → ℕ) (m : Bool) (start len : ℕ) → IsStart m start → Agree f g m start len → length_at f start ≡ length_at g start
same_length f g m start len s h =
    let within = length_within m start len s in
    let low = span_low m start in
    let one = agree_at f g m start len h start (omega arith) (omega arith) in
    let two = agree_at f g m start len h (start + 1) (omega arith) (omega arith) in
    omega (arith, one, two)

pub same_crc : (f g : ℕ → ℕ) (m : Bool) (start len : ℕ) → IsStart m start → Agree f g m start len → crc_agrees f m start len ≡ crc_agrees g m start len
unfolding crc_agrees
same_crc f g m start len s h =
    let before = same_octets f g (span_start m start) (field_place m start len) (λ p low high. agree_at f g m start len h p low (omega (arith, field_end m start len s))) in
    ap (λ xs. bytes_eq xs (to_le_bytes w32 (crc32c (octets_at f (span_start m start) (field_place m start len))))) (same_frame_data f g m start len (2 + len + pad_len len) 4 s h (omega arith))
    ∙ ap (λ xs. bytes_eq (field_at g m start len) (to_le_bytes w32 (crc32c xs))) before

-- a place that is no marker's agrees
pub no_marker_agrees : (octet : ℕ → ℕ) (start p : ℕ) → (p % 512 ≡ 0 → ⊥) → marker_agrees octet start p ≡ true
no_marker_agrees octet start p h =
    let other : eqb (p % 512) 0 ≡ false = grind (arith, nat_tests, h) in
    ap (λ b. not b || eqb (pointer_at octet p) (marker_value start (p / 512))) other

pub marker_agrees_is : (octet : ℕ → ℕ) (start p : ℕ) → p % 512 ≡ 0 → marker_agrees octet start p ≡ eqb (pointer_at octet p) (p - start)
marker_agrees_is octet start p z =
    let one : eqb (p % 512) 0 ≡ true = grind (arith, nat_tests) in
    ap (λ b. not b || eqb (pointer_at octet p) (marker_value start (p / 512))) one ∙ ap (eqb (pointer_at octet p)) (marker_value_is start p z)

pub same_markers : (f g : ℕ → ℕ) (start len : ℕ) → Agree f g true start len → markers_agree f start len ≡ markers_agree g start len
unfolding markers_agree
same_markers f g start len h =
    same_all (marker_agrees f start) (marker_agrees g start) (span_start true start) (frame_end true start len - span_start true start) (λ p low high. one p low (omega arith))
  where
    one : (p : ℕ) → span_start true start ≤ p → p < frame_end true start len → marker_agrees f start p ≡ marker_agrees g start p
    one p low high =
        elim (cases_eq (p % 512) 0) [
          | inl z ↦
              let within = marker_within start len p z high in
              let a = agree_at f g true start len h (p + 2) (omega arith) (omega arith) in
              let b = agree_at f g true start len h (p + 3) (omega arith) (omega arith) in
              let e : pointer_at f p ≡ pointer_at g p = omega (arith, a, b) in
              ap (λ x. not (eqb (p % 512) 0) || eqb x (marker_value start (p / 512))) e
          | inr other ↦ no_marker_agrees f start p other ∙ sym (no_marker_agrees g start p other)
        ]

-- whether markers and CRC agree, in the words of what is wrong
same_cases : (crc markers a b c d : Bool) → a ≡ b → (markers ≡ true → c ≡ d)
    → cond (crc && not a) (Some CrcMismatch) (cond (markers && not c) (Some MarkerMismatch) None) ≡ cond (crc && not b) (Some CrcMismatch) (cond (markers && not d) (Some MarkerMismatch) None)
same_cases crc true a b c d e f = ap (λ x. cond (crc && not x) (Some CrcMismatch) (cond (not c) (Some MarkerMismatch) None)) e ∙ ap (λ x. cond (crc && not b) (Some CrcMismatch) (cond (not x) (Some MarkerMismatch) None)) (f refl)
same_cases crc false a b c d e f = ap (λ x. cond (crc && not x) (Some CrcMismatch) None) e

pub same_mismatch : (f g : ℕ → ℕ) (layout : Layout) (start len : ℕ) → IsStart layout.markers start → Agree f g layout.markers start len → mismatch_at layout f start len ≡ mismatch_at layout g start len
unfolding mismatch_at
same_mismatch f g layout start len s h =
    same_cases layout.crc layout.markers (crc_agrees f layout.markers start len) (crc_agrees g layout.markers start len) (markers_agree f start len) (markers_agree g start len)
    (same_crc f g layout.markers start len s h)
    (λ t. same_markers f g start len (subst (λ m. Agree f g m start len) t h))

-- the octets from octet k on
pub drop_data : (octet : ℕ → ℕ) (m : Bool) (i n k j : ℕ) → j ≡ min k n → drop k (data_at octet m i n) ≡ data_at octet m (i + j) (n - j)
drop_data octet m i n k j e =
    elim (cases_lt n k) [
      | inl past ↦ drop_all k (data_at octet m i n) (omega (arith, length_data octet m i n)) ∙ sym (data_none octet m (i + j) (n - j) (omega arith))
      | inr within ↦
          let same : j ≡ k = omega arith in
          ap (drop k) (data_split octet m i j n (omega arith)) ∙ drop_at (data_at octet m i j) (data_at octet m (i + j) (n - j)) k (omega (arith, length_data octet m i j))
    ]

pub same_bytes : (xs ys : List ℕ) → xs ≡ ys → bytes_eq xs ys ≡ true
same_bytes xs ys e = (bytes_eq-Decides xs ys).1 e

-- a field has a number's octets exactly where it reads as the number
pub field_eq : (field : List ℕ) (n crc : ℕ) → length field ≡ 4 → ((i : ℕ) → get_or field i 0 < 256) → crc < 2 ^ 32 → n ≡ from_le_bytes w32 field → eqb n crc ≡ bytes_eq field (to_le_bytes w32 crc)
field_eq field n crc four octets small e =
    same_from_decides {P = n ≡ crc} (eqb n crc) (bytes_eq field (to_le_bytes w32 crc)) (Decides-eqb n crc)
    (Decides-like {P = field ≡ to_le_bytes w32 crc} {Q = n ≡ crc} (bytes_eq field (to_le_bytes w32 crc))
    (λ h. e ∙ ap (from_le_bytes w32) h ∙ from_le_bytes-to_le_bytes_4 crc small)
    (λ same. sym (le_bytes_4 field crc four octets (sym same ∙ e)))
    (bytes_eq-Decides field (to_le_bytes w32 crc)))
