-- Frames that were written one after another: which of them a place lies in, and what stands there.
use Rattle.std.proofs.Common.{◌≡◌, ℕ, ◌+◌, ◌-◌, ◌/◌, ◌%◌, ◌<◌, ◌≤◌, Bool, true, false, List, [], ◌∷◌, ◌++◌, length, get_or, refl, ap, ◌∙◌, arith, inl, inr}
use Rattle.std.proofs.lemmas.List.{get_or_append_left, get_or-append-add}
use Rattle.std.proofs.lemmas.List.FromFn.{get_or-map-range_with_len}
use Rattle.std.proofs.lemmas.Bool.{cases_lt, cases_eq}
use Rattle.std.specs.Prelude.{◌⊎◌}
use Rattle.iw_fpdu.specs.declared.layout.Layout.{Layout}
use Rattle.iw_fpdu.specs.Places.{data_index, frame_start}
use Rattle.iw_fpdu.specs.Frame.{max_sent, marker_value, marker_octets, octet_at, frame_size, frame_end, frame_data, frame_octet, frame_octets}
use Rattle.iw_fpdu.specs.Reading.{pointer_at}
use Rattle.iw_fpdu.specs.Sequence.{sequence, place_past}
use Rattle.iw_fpdu.specs.Laws.{IsBetween}
use Rattle.iw_fpdu.proofs.Counted.{edge_inside, edge_marker, aligned_edge, past_edge, after_high, after_bound, marker_value_is}
use Rattle.iw_fpdu.proofs.Laid.{marker_octet}
use Rattle.iw_fpdu.proofs.Octets.{marker_within}
use Rattle.iw_fpdu.proofs.Sequences.{length_written, next_between, place_is, sequences_join}

-- the frame at s carries u, one of these ULPDUs, whose frames are written one after another from place `at` on
pub record IsOneOf (layout : Layout) (at : ℕ) (us : List (List ℕ)) (s : ℕ) (u : List ℕ) : Type 0 where
  pub before : List (List ℕ)
  pub after : List (List ℕ)
  pub is : us ≡ before ++ u ∷ after
  pub place : s ≡ frame_start layout.markers (place_past layout at before)

-- the frame that place p lies in
pub record LiesIn (layout : Layout) (at : ℕ) (us : List (List ℕ)) (p : ℕ) : Type 0 where
  pub before : List (List ℕ)
  pub ulpdu : List ℕ
  pub after : List (List ℕ)
  pub is : us ≡ before ++ ulpdu ∷ after
  pub low : place_past layout at before ≤ p
  pub high : p < frame_end layout.markers (place_past layout at before) (length ulpdu)

-- ---- places
pub end_high : (layout : Layout) (at n : ℕ) → IsBetween layout.markers at → frame_start layout.markers at < frame_end layout.markers at n
end_high layout at n b = after_high layout.markers at (frame_size n) (omega arith)

pub start_low : (layout : Layout) (at : ℕ) → IsBetween layout.markers at → at ≤ frame_start layout.markers at
start_low layout at b = past_edge layout.markers at (aligned_edge layout.markers at b.aligned)

pub end_low : (layout : Layout) (at n : ℕ) → IsBetween layout.markers at → at < frame_end layout.markers at n
end_low layout at n b = omega (arith, end_high layout at n b, start_low layout at b)

pub past_low : (layout : Layout) (at : ℕ) (us : List (List ℕ)) → IsBetween layout.markers at → at ≤ place_past layout at us
past_low layout at us b = omega (arith, place_is layout at us b)

-- the places behind a list of frames, and behind one more
pub beyond-append : (layout : Layout) (at : ℕ) (us vs : List (List ℕ)) → place_past layout at (us ++ vs) ≡ place_past layout (place_past layout at us) vs
unfolding place_past
beyond-append layout at [] vs = refl
beyond-append layout at (u ∷ us) vs = beyond-append layout (frame_end layout.markers at (length u)) us vs

pub past_one : (layout : Layout) (at : ℕ) (u : List ℕ) → place_past layout at (u ∷ []) ≡ frame_end layout.markers at (length u)
unfolding place_past
past_one layout at u = refl

-- ---- what stands there
written_octet : (layout : Layout) (at : ℕ) (u rest : List ℕ) (q : ℕ) → at ≤ q → q < frame_end layout.markers at (length u)
    → get_or (frame_octets layout at u ++ rest) (q - at) 0 ≡ frame_octet layout (frame_start layout.markers at) u q
unfolding frame_octets
written_octet layout at u rest q low high =
    let octet : ℕ → ℕ = frame_octet layout (frame_start layout.markers at) u in
    let end : ℕ = frame_end layout.markers at (length u) in
    get_or_append_left (frame_octets layout at u) rest 0 (q - at) (omega (arith, length_written layout at u))
    ∙ get_or-map-range_with_len octet at (end - at) (q - at) q 0 (omega arith) (omega arith)

first_octet : (layout : Layout) (at : ℕ) (u : List ℕ) (us : List (List ℕ)) (q : ℕ) → at ≤ q → q < frame_end layout.markers at (length u)
    → get_or (sequence layout at (u ∷ us)) (q - at) 0 ≡ frame_octet layout (frame_start layout.markers at) u q
unfolding sequence
first_octet layout at u us q low high = written_octet layout at u (sequence layout (frame_end layout.markers at (length u)) us) q low high

-- the octets of one of the frames among all
pub octet_sent : (layout : Layout) (at : ℕ) (before : List (List ℕ)) (u : List ℕ) (after : List (List ℕ)) (q : ℕ) → IsBetween layout.markers at → place_past layout at before ≤ q
    → q < frame_end layout.markers (place_past layout at before) (length u)
    → get_or (sequence layout at (before ++ u ∷ after)) (q - at) 0 ≡ frame_octet layout (frame_start layout.markers (place_past layout at before)) u q
octet_sent layout at before u after q b low high =
    let beyond : ℕ = place_past layout at before in
    let size : beyond ≡ at + length (sequence layout at before) = place_is layout at before b in
    ap (λ xs. get_or xs (q - at) 0) (sequences_join layout at before (u ∷ after))
    ∙ ap (λ i. get_or (sequence layout at before ++ sequence layout beyond (u ∷ after)) i 0) (let e : q - at ≡ length (sequence layout at before) + (q - beyond) = omega (arith, size, low) in e)
    ∙ get_or-append-add (sequence layout at before) (sequence layout beyond (u ∷ after)) (q - beyond) 0
    ∙ first_octet layout beyond u after q low high

-- ---- which frame a place lies in
pub lies_in : (layout : Layout) (at : ℕ) (us : List (List ℕ)) (p : ℕ) → IsBetween layout.markers at → at ≤ p → p < place_past layout at us → LiesIn layout at us p
unfolding place_past
lies_in layout at [] p b low high = absurd (omega arith)
lies_in layout at (u ∷ us) p b low high =
    let end : ℕ = frame_end layout.markers at (length u) in
    elim (cases_lt p end) [
      | inl inside ↦ record { before = []; ulpdu = u; after = us; is = refl; low = low; high = inside }
      | inr past ↦
          let r = lies_in layout end us p (next_between layout at (length u) b) past high in
          record { before = u ∷ r.before; ulpdu = r.ulpdu; after = r.after; is = ap (λ z. u ∷ z) r.is; low = r.low; high = r.high }
    ]

-- ---- markers
-- the pointer of a marker in a written frame, or directly before it
pub pointer_written : (layout : Layout) (start : ℕ) (u : List ℕ) (octet : ℕ → ℕ) (p : ℕ) → layout.markers ≡ true → start % 4 ≡ 0 → p % 512 ≡ 0 → p < start + 65536
    → octet (p + 2) ≡ frame_octet layout start u (p + 2) → octet (p + 3) ≡ frame_octet layout start u (p + 3) → pointer_at octet p ≡ p - start
unfolding frame_octet
pointer_written layout start u octet p used aligned marker near high low =
    let v : ℕ = marker_value start (p / 512) in
    let value : v ≡ p - start = marker_value_is start p marker in
    let two : octet (p + 2) ≡ v / 256 % 256 = high ∙ place 2 (p + 2) (omega arith) refl in
    let three : octet (p + 3) ≡ v % 256 = low ∙ place 3 (p + 3) (omega arith) refl in
    omega (arith, two, three, value)
  where
    place : (i q : ℕ) → i < 4 → q ≡ p + i → octet_at layout.markers start (data_index layout.markers start) (frame_data layout start u) q ≡ get_or (marker_octets start (p / 512)) i 0
    place i q lt e =
        ap (λ m. octet_at m start (data_index layout.markers start) (frame_data layout start u) q) used ∙ marker_octet start (data_index layout.markers start) (frame_data layout start u) p i q marker lt e

-- where the frame that is written at a place begins: there, or past the marker there
pub start_is : (at : ℕ) → IsBetween true at → ((at % 512 ≡ 0) × (frame_start true at ≡ at + 4)) ⊎ ((0 < at % 512) × (frame_start true at ≡ at))
start_is at b =
    elim (cases_eq (at % 512) 0) [
      | inl marker ↦ inl (marker, edge_marker at marker)
      | inr inside ↦ let some : 0 < at % 512 = omega arith in inr (some, edge_inside at (aligned_edge true at b.aligned) some)
    ]

-- how far a short frame reaches
pub end_near : (m : Bool) (at n : ℕ) → IsBetween m at → n ≤ max_sent → frame_end m at n < frame_start m at + 65536
end_near m at n b short = omega (arith, after_bound m at (frame_size n) (aligned_edge m at b.aligned) (omega arith))

-- the marker at p lies in the frame that is written at `at`, and points to where that begins
pub points_to_start : (m : Bool) (at n p s pointer : ℕ) → m ≡ true → IsBetween m at → p % 512 ≡ 0 → at ≤ p → p < frame_end m at n → pointer ≡ p - frame_start m at
    → ((pointer ≡ 0) × (s ≡ p + 4)) ⊎ ((0 < pointer) × (s + pointer ≡ p)) → s ≡ frame_start m at
points_to_start true at n p s pointer used b marker low high is points =
    elim (start_is at b) [
      | inl (edge, start) ↦ elim points [ inl (none, next) ↦ omega (arith, b.aligned) | inr (some, back) ↦ omega arith ]
      | inr (inside, start) ↦ elim points [ inl (none, next) ↦ omega arith | inr (some, back) ↦ omega arith ]
    ]
points_to_start false at n p s pointer used b marker low high is points = absurd (cc used)

-- where a frame begins that begins at the end of another, or at the marker directly before it
pub next_start : (m : Bool) (at s : ℕ) → m ≡ true → IsBetween m at → 4 ≤ s % 512 → (at ≡ s) ⊎ ((at % 512 ≡ 0) × (at + 4 ≡ s)) → s ≡ frame_start m at
next_start true at s used b high ends_before =
    elim (start_is at b) [
      | inl (edge, start) ↦ elim ends_before [ inl same ↦ omega arith | inr (marker, past) ↦ omega arith ]
      | inr (inside, start) ↦ elim ends_before [ inl same ↦ omega arith | inr (marker, past) ↦ omega arith ]
    ]
next_start false at s used b high ends_before = absurd (cc used)

-- a marker in a frame lies in it whole
pub marker_whole : (m : Bool) (at n p : ℕ) → m ≡ true → p % 512 ≡ 0 → p < frame_end m at n → p + 4 < frame_end m at n
marker_whole true at n p used marker high = marker_within at n p marker high
marker_whole false at n p used marker high = absurd (cc used)
