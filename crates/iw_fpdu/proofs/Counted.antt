-- Places and indices.
use Rattle.std.proofs.Common.{◌≡◌, ℕ, ◌+◌, ◌-◌, ◌*◌, ◌/◌, ◌%◌, ◌<◌, ◌≤◌, zero, suc, Bool, true, false, cond, eqb, refl, sym, ap, ◌∙◌, arith, subst, ⊎_elim, ◌⊎◌, inl, inr}
use Rattle.std.proofs.lemmas.Bool.{cases_lt, cases_eq}
use Rattle.std.proofs.lemmas.Bool.Decides.{nat_tests}
use Rattle.iw_fpdu.specs.Places.{data_place, data_index, in_marker, place_after}
use Rattle.iw_fpdu.specs.Frame.{marker_value, frame_size, frame_end}
use Rattle.iw_fpdu.specs.Laying.{IsRun, IsEdge}

pub index_place : (m : Bool) (k : ℕ) → data_index m (data_place m k) ≡ k
unfolding data_index data_place
index_place true k = omega arith
index_place false k = refl

pub index_next : (m : Bool) (k : ℕ) → data_index m (data_place m k + 1) ≡ k + 1
unfolding data_index data_place
index_next true k = omega arith
index_next false k = refl

pub data_no_marker : (m : Bool) (k : ℕ) → in_marker m (data_place m k) ≡ false
unfolding in_marker data_place
data_no_marker true k = grind (arith, nat_tests)
data_no_marker false k = refl

pub index_mono : (m : Bool) (p q : ℕ) → p ≤ q → data_index m p ≤ data_index m q
unfolding data_index
index_mono true p q h = omega arith
index_mono false p q h = h

pub place_mono : (m : Bool) (j k : ℕ) → j ≤ k → data_place m j ≤ data_place m k
unfolding data_place
place_mono true j k h = omega arith
place_mono false j k h = h

-- a place that is no marker's is that of its index
pub place_index : (m : Bool) (p : ℕ) → in_marker m p ≡ false → data_place m (data_index m p) ≡ p
unfolding in_marker data_place data_index
place_index true p h = let high : 4 ≤ p % 512 = grind (arith, nat_tests) in omega arith
place_index false p h = refl

-- where no marker stands between them, data octets lie side by side
pub place_unmarked : (m : Bool) (p n : ℕ) → m ≡ false → p + n ≡ data_place m (data_index m p + n)
unfolding data_place data_index
place_unmarked false p n e = refl
place_unmarked true p n e = cc

pub place_within : (m : Bool) (p n : ℕ) → in_marker m p ≡ false → p % 512 + n < 512 → p + n ≡ data_place m (data_index m p + n)
unfolding in_marker data_place data_index
place_within true p n h fits = let high : 4 ≤ p % 512 = grind (arith, nat_tests) in omega arith
place_within false p n h fits = refl

pub run_place : (m : Bool) (a n i : ℕ) → IsRun m a n → i < n → (in_marker m (a + i) ≡ false) × (data_index m (a + i) ≡ data_index m a + i)
unfolding in_marker data_index
run_place true a n i run lt = (let high : 4 ≤ (a + i) % 512 = omega (arith, run.0, run.1) in grind (arith, nat_tests), omega (arith, run.0, run.1))
run_place false a n i run lt = (refl, refl)

pub run_end : (m : Bool) (a n : ℕ) → 0 < n → IsRun m a n → data_index m (a + n) ≡ data_index m a + n
unfolding data_index
run_end true a n some run = omega (arith, run.0, run.1)
run_end false a n some run = refl

pub past_edge : (m : Bool) (a : ℕ) → IsEdge m a → a ≤ data_place m (data_index m a)
unfolding data_place data_index
past_edge true a edge = omega arith
past_edge false a edge = omega arith

pub run_is : (m : Bool) (a n : ℕ) → m ≡ true → in_marker m a ≡ false → n ≤ 512 - a % 512 → IsRun m a n
unfolding in_marker
run_is true a n t h fits = let high : 4 ≤ a % 512 = grind (arith, nat_tests) in (high, omega arith)
run_is false a n t h fits = tt

pub run_edge : (m : Bool) (a n : ℕ) → 0 < n → IsRun m a n → IsEdge m (a + n)
run_edge true a n some run =
    elim (cases_lt (n + a % 512) 512) [ inl less ↦ inr (omega (arith, run.0)) | inr full ↦ inl (omega (arith, run.0, run.1)) ]
run_edge false a n some run = tt

-- the place behind all is that behind a run and the rest
pub after_run : (m : Bool) (b n all rest : ℕ) → 0 < n → all ≡ n + rest → IsRun m b n → place_after m (b + n) rest ≡ place_after m b all
unfolding place_after
after_run m b n zero rest some e run = absurd (omega arith)
after_run m b n (suc all) zero some e run =
    let here = run_place m b n all run (omega arith) in
    sym (ap (λ k. k + 1) (ap (data_place m) (sym here.1) ∙ place_index m (b + all) here.0) ∙ omega arith)
after_run m b n (suc all) (suc rest) some e run =
    ap (λ k. data_place m k + 1) (omega (arith, run_end m b n some run))

-- and the marker before the first of them doesn't change it
pub after_marker : (m : Bool) (a n : ℕ) → 0 < n → place_after m (data_place m (data_index m a)) n ≡ place_after m a n
unfolding place_after
after_marker m a zero some = absurd (omega arith)
after_marker m a (suc n) some = ap (λ k. data_place m (k + n) + 1) (index_place m (data_index m a))

pub after_high : (m : Bool) (a n : ℕ) → 0 < n → data_place m (data_index m a) < place_after m a n
unfolding place_after
after_high m a zero some = absurd (omega arith)
after_high m a (suc n) some = omega (arith, place_mono m (data_index m a) (data_index m a + n) (omega arith))

pub run_high : (m : Bool) (b n all : ℕ) → 0 < n → n ≤ all → IsRun m b n → b + n ≤ place_after m b all
unfolding place_after
run_high m b n zero some fits run = absurd (omega arith)
run_high m b n (suc all) some fits run =
    let here = run_place m b n (n - 1) run (omega arith) in
    let last : data_place m (data_index m b + (n - 1)) ≡ b + (n - 1) = ap (data_place m) (sym here.1) ∙ place_index m (b + (n - 1)) here.0 in
    omega (arith, last, place_mono m (data_index m b + (n - 1)) (data_index m b + all) (omega arith))

pub place_after_none : (m : Bool) (a n : ℕ) → n ≡ 0 → place_after m a n ≡ a
unfolding place_after
place_after_none m a zero e = refl
place_after_none m a (suc n) e = absurd (omega arith)

pub at_most_after : (m : Bool) (a n : ℕ) → IsEdge m a → a ≤ place_after m a n
unfolding place_after
at_most_after m a zero edge = omega arith
at_most_after m a (suc n) edge = omega (arith, past_edge m a edge, place_mono m (data_index m a) (data_index m a + n) (omega arith))

pub index_after : (m : Bool) (a n : ℕ) → data_index m (place_after m a n) ≡ data_index m a + n
unfolding place_after
index_after m a zero = omega arith
index_after m a (suc n) = omega (arith, index_next m (data_index m a + n))

next_edge : (m : Bool) (k : ℕ) → IsEdge m (data_place m k + 1)
unfolding data_place
next_edge true k = elim (cases_lt (k % 508) 507) [ inl less ↦ inr (omega arith) | inr full ↦ inl (omega arith) ]
next_edge false k = tt

pub after_some : (m : Bool) (a n k : ℕ) → n ≡ suc k → place_after m a n ≡ data_place m (data_index m a + k) + 1
unfolding place_after
after_some m a zero k e = absurd (omega arith)
after_some m a (suc n) k e = ap (λ j. data_place m (data_index m a + j) + 1) (omega arith)

-- a place before the end has an index before the end
pub before_after : (m : Bool) (a n p : ℕ) → a ≤ p → p < place_after m a n → data_index m p < data_index m a + n
unfolding place_after
before_after m a zero p low high = absurd (omega arith)
before_after m a (suc n) p low high = omega (arith, index_mono m p (data_place m (data_index m a + n)) (omega arith), index_place m (data_index m a + n))

pub after_edge : (m : Bool) (a n : ℕ) → IsEdge m a → IsEdge m (place_after m a n)
unfolding place_after
after_edge m a zero edge = edge
after_edge m a (suc n) edge = next_edge m (data_index m a + n)

pub after_after : (m : Bool) (a n k : ℕ) → place_after m (place_after m a n) k ≡ place_after m a (n + k)
after_after m a zero k = ap (λ x. place_after m x k) (place_after_none m a zero refl) ∙ ap (place_after m a) (omega arith)
after_after m a (suc n) zero = place_after_none m (place_after m a (suc n)) zero refl ∙ ap (place_after m a) (omega arith)
after_after m a (suc n) (suc k) =
    after_some m (place_after m a (suc n)) (suc k) k refl
    ∙ ap (λ j. data_place m j + 1) (omega (arith, index_after m a (suc n)))
    ∙ sym (after_some m a (suc n + suc k) (n + suc k) (omega arith))

pub after_mono : (m : Bool) (a n k : ℕ) → IsEdge m a → n ≤ k → place_after m a n ≤ place_after m a k
after_mono m a n k edge h =
    omega (arith, after_after m a n (k - n), ap (place_after m a) (let e : n + (k - n) ≡ k = omega arith in e), at_most_after m (place_after m a n) (k - n) (after_edge m a n edge))

stretch : (m : Bool) (i n : ℕ) → n ≤ 64520 → data_place m (i + n) + 1 ≤ data_place m i + 65100
unfolding data_place
stretch true i n h = omega arith
stretch false i n h = omega arith

-- how far the markers stretch n octets
pub after_bound : (m : Bool) (a n : ℕ) → IsEdge m a → n ≤ 64521 → place_after m a n ≤ data_place m (data_index m a) + 65100
unfolding place_after
after_bound m a zero edge h = omega (arith, past_edge m a edge)
after_bound m a (suc n) edge h = stretch m (data_index m a) n (omega arith)

pub start_bound : (m : Bool) (a : ℕ) → IsEdge m a → data_place m (data_index m a) ≤ a + 4
unfolding data_place data_index
start_bound true a edge = omega arith
start_bound false a edge = omega arith

pub aligned_edge : (m : Bool) (a : ℕ) → a % 4 ≡ 0 → IsEdge m a
aligned_edge true a h = elim (cases_lt 0 (a % 512)) [ inl some ↦ inr (omega arith) | inr none ↦ inl (omega arith) ]
aligned_edge false a h = tt

-- without markers no place is a marker's
pub no_in_marker : (p : ℕ) → in_marker false p ≡ false
unfolding in_marker
no_in_marker p = refl

-- the place of the data octet that comes next, at a marker's place and elsewhere
pub edge_inside : (a : ℕ) → IsEdge true a → 0 < a % 512 → data_place true (data_index true a) ≡ a
unfolding data_place data_index
edge_inside a edge some = ⊎_elim (λ z. absurd (omega arith)) (λ h. omega arith) edge

pub edge_marker : (a : ℕ) → a % 512 ≡ 0 → data_place true (data_index true a) ≡ a + 4
unfolding data_place data_index
edge_marker a z = omega arith

-- the data octets of a run stand side by side
pub run_data : (m : Bool) (i n j : ℕ) → IsRun m (data_place m i) n → j < n → data_place m (i + j) ≡ data_place m i + j
run_data m i n j run lt =
    let here = run_place m (data_place m i) n j run lt in
    ap (data_place m) (sym (here.1 ∙ ap (λ k. k + j) (index_place m i))) ∙ place_index m (data_place m i + j) here.0

-- a marker's pointer, as the code works it out
pub marker_value_is : (start p : ℕ) → p % 512 ≡ 0 → marker_value start (p / 512) ≡ p - start
unfolding marker_value data_index
marker_value_is start p z =
    elim (cases_eq (508 * (start / 512) + (start % 512 - 4)) (508 * (p / 512))) [
      | inl same ↦
          let t : eqb (508 * (start / 512) + (start % 512 - 4)) (508 * (p / 512)) ≡ true = grind (arith, nat_tests) in
          ap (λ b. cond b 0 (512 * (p / 512) - start)) t ∙ omega arith
      | inr other ↦
          let t : eqb (508 * (start / 512) + (start % 512 - 4)) (508 * (p / 512)) ≡ false = grind (arith, nat_tests) in
          ap (λ b. cond b 0 (512 * (p / 512) - start)) t ∙ omega arith
    ]

-- the place behind a frame, by the octets of the frames behind the last marker before its end
last_with : (start n : ℕ) → 0 < n → data_place true (data_index true start + (n - 1)) + 1 ≡ start - start % 512 + 4 + (start % 512 - 4 + n) + 4 * ((start % 512 - 4 + n - 1) / 508)
unfolding data_place data_index
last_with start n some = omega arith

last_without : (start n : ℕ) → 0 < n → data_place false (data_index false start + (n - 1)) + 1 ≡ start + n
unfolding data_place data_index
last_without start n some = omega arith

pub end_with : (m : Bool) (start len n : ℕ) → m ≡ true → n ≡ start % 512 - 4 + frame_size len → start - start % 512 + 4 + n + 4 * ((n - 1) / 508) ≡ frame_end m start len
end_with m start len n t e =
    ap (λ k. start - start % 512 + 4 + k + 4 * ((k - 1) / 508)) e
    ∙ sym (ap (λ b. frame_end b start len) t ∙ after_some true start (frame_size len) (frame_size len - 1) (omega arith) ∙ last_with start (frame_size len) (omega arith))

pub end_without : (m : Bool) (start len : ℕ) → m ≡ false → start + frame_size len ≡ frame_end m start len
end_without m start len f =
    sym (ap (λ b. frame_end b start len) f ∙ after_some false start (frame_size len) (frame_size len - 1) (omega arith) ∙ last_without start (frame_size len) (omega arith))

-- where the next data octet goes, with a marker before it and without
pub next_past : (m : Bool) (a : ℕ) → m ≡ true → a % 512 ≡ 0 → data_place m (data_index m a) ≡ a + 4
next_past true a t z = edge_marker a z
next_past false a t z = cc

pub next_here : (m : Bool) (a : ℕ) → IsEdge m a → (m ≡ false) ⊎ (0 < a % 512) → data_place m (data_index m a) ≡ a
next_here true a edge (inl f) = cc
next_here true a edge (inr some) = edge_inside a edge some
next_here false a edge h = place_index false a (no_in_marker a)

-- a field of four octets isn't cut by a marker
pub four_in_row : (m : Bool) (k : ℕ) → k % 4 ≡ 0 → IsRun m (data_place m k) 4
unfolding data_place
four_in_row true k h = (omega arith, omega arith)
four_in_row false k h = tt

pub index_aligned : (m : Bool) (a : ℕ) → a % 4 ≡ 0 → data_index m a % 4 ≡ 0
unfolding data_index
index_aligned true a h = omega arith
index_aligned false a h = h

pub four_past : (m : Bool) (a : ℕ) → data_index m a % 4 ≡ 0 → place_after m a 4 ≡ data_place m (data_index m a) + 4
four_past m a h =
    after_some m a 4 3 (omega arith) ∙ ap (λ x. x + 1) (run_data m (data_index m a) 4 3 (four_in_row m (data_index m a) h) (omega arith)) ∙ omega arith

-- octets that come before the next marker: none, or a run
pub run_before : (a n : ℕ) → IsEdge true a → n ≤ (512 - a % 512) % 512 → (n ≡ 0) ⊎ ((0 < n) × IsRun true a n)
run_before a n edge fits =
    elim (cases_lt 0 n) [ inl some ↦ inr (some, (⊎_elim (λ z. absurd (omega arith)) (λ h. h) edge, omega arith)) | inr none ↦ inl (omega arith) ]

pub after_front : (a n all rest : ℕ) → IsEdge true a → (n ≡ 0) ⊎ ((0 < n) × IsRun true a n) → all ≡ n + rest
    → (place_after true (a + n) rest ≡ place_after true a all) × (a + n ≤ place_after true a all) × IsEdge true (a + n)
after_front a n all rest edge (inl none) e =
    let here : a ≡ a + n = omega arith in
    (ap (λ x. place_after true x rest) (sym here) ∙ ap (place_after true a) (omega arith), omega (arith, at_most_after true a all edge), subst (IsEdge true) here edge)
after_front a n all rest edge (inr run) e = (after_run true a n all rest run.0 e run.1, run_high true a n all run.0 (omega arith) run.1, run_edge true a n run.0 run.1)

-- octets past a marker, no more than come before the next
pub run_past : (a b n : ℕ) → a % 512 ≡ 0 → b ≡ a + 4 → n ≤ 508 → IsRun true b n
run_past a b n z e fits = (omega arith, omega arith)
