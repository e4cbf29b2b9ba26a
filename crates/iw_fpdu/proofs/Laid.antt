-- What is laid, piece by piece.
use Rattle.std.proofs.Common.{◌≡◌, ℕ, ◌+◌, ◌-◌, ◌/◌, ◌%◌, ◌<◌, ◌≤◌, ◌≢◌, zero, suc, Bool, true, false, cond, eqb, List, [], ◌∷◌, ◌++◌, map, take, drop, length, get_or, refl, sym, ap, ◌∙◌, arith, inl, inr, ◌⊎◌}
use Rattle.std.proofs.lemmas.List.{same_lists, get_or-drop, length-take-le, get_or-take, map-append, get_or_default, get_or_append_left, length-append, drop_at}
use Rattle.std.proofs.lemmas.List.FromFn.{get_or-map-range_with_len, length-map-range_with_len}
use Rattle.std.proofs.lemmas.Bool.{cases_lt}
use Rattle.std.proofs.lemmas.Bool.Decides.{nat_tests}
use Rattle.std.specs.List.{range_with_len}
use Rattle.iw_fpdu.specs.Places.{data_place, data_index, in_marker, place_after}
use Rattle.iw_fpdu.specs.Frame.{marker_octets, octet_at, laid}
use Rattle.iw_fpdu.specs.Laying.{IsRun, IsEdge, marker_before, marker_beyond}
use Rattle.iw_fpdu.proofs.Counted.{index_place, index_mono, place_index, no_in_marker, edge_inside, edge_marker, run_place, run_end, before_after, after_edge, after_after, at_most_after, index_after}

pub range_append : (a n m b k : ℕ) → b ≡ a + n → k ≡ n + m → range_with_len a k ≡ range_with_len a n ++ range_with_len b m
range_append a zero m b k e f = ap (range_with_len a) (omega arith) ∙ ap (λ x. range_with_len x m) (omega arith)
range_append a (suc n) m b zero e f = absurd (omega arith)
range_append a (suc n) m b (suc k) e f = ap (λ xs. a ∷ xs) (range_append (a + 1) n m b k (omega arith) (omega arith))

pub map_range : {X : Type 0} → (f g : ℕ → X) (a n : ℕ) → ((p : ℕ) → a ≤ p → p < a + n → f p ≡ g p) → map f (range_with_len a n) ≡ map g (range_with_len a n)
map_range f g a zero h = refl
map_range f g a (suc n) h = ap (λ x. x ∷ map f (range_with_len (a + 1) n)) (h a (omega arith) (omega arith)) ∙ ap (λ xs. g a ∷ xs) (map_range f g (a + 1) n (λ p low high. h p (omega arith) (omega arith)))

pub laid_split : (m : Bool) (start origin : ℕ) (xs : List ℕ) (from mid to : ℕ) → from ≤ mid → mid ≤ to → laid m start origin xs from to ≡ laid m start origin xs from mid ++ laid m start origin xs mid to
unfolding laid
laid_split m start origin xs from mid to low high =
    ap (map (octet_at m start origin xs)) (range_append from (mid - from) (to - mid) mid (to - from) (omega arith) (omega arith))
    ∙ map-append (octet_at m start origin xs) (range_with_len from (mid - from)) (range_with_len mid (to - mid))

pub laid_none : (m : Bool) (start origin : ℕ) (xs : List ℕ) (from to : ℕ) → to ≤ from → laid m start origin xs from to ≡ []
unfolding laid
laid_none m start origin xs from to h = let none : to - from ≡ 0 = omega arith in ap (λ n. map (octet_at m start origin xs) (range_with_len from n)) none

-- octets that come before the first place don't matter
pub laid_shift : (m : Bool) (start origin k next : ℕ) (xs : List ℕ) (from to : ℕ) → next ≡ origin + k → next ≤ data_index m from → laid m start origin xs from to ≡ laid m start next (drop k xs) from to
unfolding laid octet_at
laid_shift m start origin k next xs from to e low =
    map_range _ _ from (to - from) (λ p a b.
    let later : next ≤ data_index m p = omega (arith, index_mono m from p a) in
    ap (λ y. cond (in_marker m p) (get_or (marker_octets start (p / 512)) (p % 512) 0) y)
    (ap (λ n. get_or xs n 0) (omega arith) ∙ sym (get_or-drop k xs (data_index m p - next) 0)))

pub octet_data : (m : Bool) (start origin : ℕ) (xs : List ℕ) (p : ℕ) → in_marker m p ≡ false → octet_at m start origin xs p ≡ get_or xs (data_index m p - origin) 0
unfolding octet_at
octet_data m start origin xs p h = ap (λ b. cond b (get_or (marker_octets start (p / 512)) (p % 512) 0) (get_or xs (data_index m p - origin) 0)) h

pub octet_marker : (m : Bool) (start origin : ℕ) (xs : List ℕ) (p : ℕ) → in_marker m p ≡ true → octet_at m start origin xs p ≡ get_or (marker_octets start (p / 512)) (p % 512) 0
unfolding octet_at
octet_marker m start origin xs p h = ap (λ b. cond b (get_or (marker_octets start (p / 512)) (p % 512) 0) (get_or xs (data_index m p - origin) 0)) h

-- a run shows the data octets themselves
pub laid_run : (m : Bool) (start : ℕ) (xs : List ℕ) (a n : ℕ) → n ≤ length xs → IsRun m a n → laid m start (data_index m a) xs a (a + n) ≡ take n xs
unfolding laid
laid_run m start xs a n fits run =
    same_lists (map f (range_with_len a (a + n - a))) (take n xs) (omega (arith, length-map-range_with_len f a (a + n - a), length-take-le n xs fits))
    (λ k d lt.
    let inside : k < n = omega (arith, lt, length-map-range_with_len f a (a + n - a)) in
    let here = run_place m a n k run inside in
    get_or-map-range_with_len f a (a + n - a) k (a + k) d (omega arith) refl
    ∙ octet_data m start (data_index m a) xs (a + k) here.0
    ∙ ap (λ i. get_or xs i 0) (omega (arith, here.1)) ∙ get_or_default xs k 0 d (omega arith) ∙ sym (get_or-take n xs k d inside))
  where
    f : ℕ → ℕ
    f = octet_at m start (data_index m a) xs

-- a marker shows its four octets
in_it : (p i : ℕ) → p % 512 ≡ i → i < 4 → in_marker true p ≡ true
unfolding in_marker
in_it p i e lt = grind (arith, nat_tests)

pub marker_octet : (start origin : ℕ) (xs : List ℕ) (a i p : ℕ) → a % 512 ≡ 0 → i < 4 → p ≡ a + i → octet_at true start origin xs p ≡ get_or (marker_octets start (a / 512)) i 0
marker_octet start origin xs a i p h lt e =
    let place : p % 512 ≡ i = omega arith in
    let base : p / 512 ≡ a / 512 = omega arith in
    octet_marker true start origin xs p (in_it p i place lt)
    ∙ ap (λ n. get_or (marker_octets start (p / 512)) n 0) place ∙ ap (λ n. get_or (marker_octets start n) i 0) base

same_four : {a b c d w x y z : ℕ} → a ≡ w → b ≡ x → c ≡ y → d ≡ z → a ∷ b ∷ c ∷ d ∷ [] ≡ w ∷ x ∷ y ∷ z ∷ []
same_four e f g h = cc

pub laid_marker : (start origin : ℕ) (xs : List ℕ) (a : ℕ) → a % 512 ≡ 0 → laid true start origin xs a (a + 4) ≡ marker_octets start (a / 512)
unfolding laid
laid_marker start origin xs a h =
    ap (λ n. map (octet_at true start origin xs) (range_with_len a n)) (let four : a + 4 - a ≡ 4 = omega arith in four)
    ∙ same_four (marker_octet start origin xs a 0 a h (omega arith) (omega arith)) (marker_octet start origin xs a 1 (a + 1) h (omega arith) (omega arith))
    (marker_octet start origin xs a 2 (a + 1 + 1) h (omega arith) (omega arith)) (marker_octet start origin xs a 3 (a + 1 + 1 + 1) h (omega arith) (omega arith))

-- whether there is a marker at a place
pub no_marker : (m : Bool) (start a : ℕ) → (m ≡ false) ⊎ (0 < a % 512) → marker_before m start a ≡ []
unfolding marker_before
no_marker true start a (inl h) = cc
no_marker true start a (inr h) = let none : eqb (a % 512) 0 ≡ false = grind (arith, nat_tests) in ap (λ b. cond b (marker_octets start (a / 512)) []) none
no_marker false start a h = refl

pub one_marker : (start a : ℕ) → a % 512 ≡ 0 → marker_before true start a ≡ marker_octets start (a / 512)
unfolding marker_before
one_marker start a z = let one : eqb (a % 512) 0 ≡ true = grind (arith, nat_tests) in ap (λ b. cond b (marker_octets start (a / 512)) []) one

-- the marker at a place and what stands behind it
pub laid_past : (m : Bool) (start origin : ℕ) (xs : List ℕ) (a to : ℕ) → IsEdge m a → data_place m (data_index m a) ≤ to
    → laid m start origin xs a to ≡ marker_before m start a ++ laid m start origin xs (data_place m (data_index m a)) to
laid_past true start origin xs a to edge fits =
    elim (cases_lt 0 (a % 512)) [
      | inl inside ↦
          sym
          (ap (λ ys. ys ++ laid true start origin xs (data_place true (data_index true a)) to) (no_marker true start a (inr inside))
          ∙ ap (λ n. laid true start origin xs n to) (edge_inside a edge inside))
      | inr at_marker ↦
          let z : a % 512 ≡ 0 = omega arith in
          let next = edge_marker a z in
          laid_split true start origin xs a (a + 4) to (omega arith) (omega (arith, next, fits))
          ∙ ap (λ ys. ys ++ laid true start origin xs (a + 4) to) (laid_marker start origin xs a z)
          ∙ sym
          (ap (λ ys. ys ++ laid true start origin xs (data_place true (data_index true a)) to) (one_marker start a z)
          ∙ ap (λ n. marker_octets start (a / 512) ++ laid true start origin xs n to) next)
    ]
laid_past false start origin xs a to edge fits =
    sym
    (ap (λ ys. ys ++ laid false start origin xs (data_place false (data_index false a)) to) (no_marker false start a (inl refl))
    ∙ ap (λ n. laid false start origin xs n to) (place_index false a (no_in_marker a)))

-- one turn: the marker, a run, and the rest
pub laid_turn : (m : Bool) (start : ℕ) (rest : List ℕ) (a b n to : ℕ) → IsEdge m a → b ≡ data_place m (data_index m a) → 0 < n → n ≤ length rest → IsRun m b n → b + n ≤ to
    → laid m start (data_index m a) rest a to ≡ marker_before m start a ++ (take n rest ++ laid m start (data_index m (b + n)) (drop n rest) (b + n) to)
laid_turn m start rest a b n to edge e some fits run high =
    let index : data_index m b ≡ data_index m a = ap (data_index m) e ∙ index_place m (data_index m a) in
    let next : data_index m (b + n) ≡ data_index m a + n = run_end m b n some run ∙ ap (λ k. k + n) index in
    laid_past m start (data_index m a) rest a to edge (omega arith)
    ∙ ap (λ ys. marker_before m start a ++ ys)
    (ap (λ x. laid m start (data_index m a) rest x to) (sym e)
    ∙ laid_split m start (data_index m a) rest b (b + n) to (omega arith) high
    ∙ ap (λ ys. ys ++ laid m start (data_index m a) rest (b + n) to) (ap (λ o. laid m start o rest b (b + n)) (sym index) ∙ laid_run m start rest b n fits run)
    ∙ ap (λ ys. take n rest ++ ys) (laid_shift m start (data_index m a) n (data_index m (b + n)) rest (b + n) to next (omega arith)))

pub length_marker : (m : Bool) (start a : ℕ) → IsEdge m a → length (marker_before m start a) ≡ data_place m (data_index m a) - a
length_marker true start a edge =
    elim (cases_lt 0 (a % 512)) [
      | inl inside ↦ ap length (no_marker true start a (inr inside)) ∙ omega (arith, edge_inside a edge inside)
      | inr at_marker ↦ let z : a % 512 ≡ 0 = omega arith in ap length (one_marker start a z) ∙ omega (arith, edge_marker a z)
    ]
length_marker false start a edge =
    ap length (no_marker false start a (inl refl)) ∙ omega (arith, place_index false a (no_in_marker a))

-- what stands before the end of a piece doesn't depend on what comes behind it
laid_front : (m : Bool) (start : ℕ) (xs ys : List ℕ) (a to : ℕ) → to ≤ place_after m a (length xs) → laid m start (data_index m a) (xs ++ ys) a to ≡ laid m start (data_index m a) xs a to
unfolding laid
laid_front m start xs ys a to fits =
    map_range (octet_at m start (data_index m a) (xs ++ ys)) (octet_at m start (data_index m a) xs) a (to - a) (λ p low high. same p low (omega arith) (in_marker m p) refl)
  where
    same : (p : ℕ) → a ≤ p → p < to → (v : Bool) → in_marker m p ≡ v → octet_at m start (data_index m a) (xs ++ ys) p ≡ octet_at m start (data_index m a) xs p
    same p low high true t = octet_marker m start (data_index m a) (xs ++ ys) p t ∙ sym (octet_marker m start (data_index m a) xs p t)
    same p low high false t =
        octet_data m start (data_index m a) (xs ++ ys) p t
        ∙ get_or_append_left xs ys 0 (data_index m p - data_index m a) (omega (arith, before_after m a (length xs) p low (omega (arith, fits, high)), index_mono m a p low))
        ∙ sym (octet_data m start (data_index m a) xs p t)

pub laid_append : (m : Bool) (start : ℕ) (xs ys : List ℕ) (a : ℕ) → IsEdge m a
    → laid m start (data_index m a) (xs ++ ys) a (place_after m a (length (xs ++ ys)))
    ≡ laid m start (data_index m a) xs a (place_after m a (length xs)) ++ laid m start (data_index m (place_after m a (length xs))) ys (place_after m a (length xs)) (place_after m (place_after m a (length xs)) (length ys))
laid_append m start xs ys a edge =
    let b = place_after m a (length xs) in
    let end : place_after m a (length (xs ++ ys)) ≡ place_after m b (length ys) = ap (place_after m a) (length-append xs ys) ∙ sym (after_after m a (length xs) (length ys)) in
    let next : data_index m b ≡ data_index m a + length xs = index_after m a (length xs) in
    ap (laid m start (data_index m a) (xs ++ ys) a) end
    ∙ laid_split m start (data_index m a) (xs ++ ys) a b (place_after m b (length ys)) (at_most_after m a (length xs) edge) (at_most_after m b (length ys) (after_edge m a (length xs) edge))
    ∙ ap (λ zs. zs ++ laid m start (data_index m a) (xs ++ ys) b (place_after m b (length ys))) (laid_front m start xs ys a b (omega arith))
    ∙ ap (λ zs. laid m start (data_index m a) xs a b ++ zs)
    (laid_shift m start (data_index m a) (length xs) (data_index m b) (xs ++ ys) b (place_after m b (length ys)) next (omega arith)
    ∙ ap (λ zs. laid m start (data_index m b) zs b (place_after m b (length ys))) (drop_at xs ys (length xs) refl))

pub length_laid : (m : Bool) (start origin : ℕ) (xs : List ℕ) (from to : ℕ) → length (laid m start origin xs from to) ≡ to - from
unfolding laid
length_laid m start origin xs from to = length-map-range_with_len (octet_at m start origin xs) from (to - from)

-- three pieces, one behind the other
pub laid_three : (m : Bool) (start : ℕ) (xs ys zs all : List ℕ) (a : ℕ) → IsEdge m a → all ≡ xs ++ ys ++ zs
    → laid m start (data_index m a) all a (place_after m a (length all))
    ≡ laid m start (data_index m a) xs a (place_after m a (length xs))
    ++ laid m start (data_index m (place_after m a (length xs))) ys (place_after m a (length xs)) (place_after m (place_after m a (length xs)) (length ys))
    ++ laid m start (data_index m (place_after m (place_after m a (length xs)) (length ys))) zs (place_after m (place_after m a (length xs)) (length ys)) (place_after m (place_after m (place_after m a (length xs)) (length ys)) (length zs))
laid_three m start xs ys zs all a edge e =
    let b = place_after m a (length xs) in
    let d = place_after m b (length ys) in
    let same : place_after m a (length (xs ++ ys)) ≡ d = ap (place_after m a) (length-append xs ys) ∙ sym (after_after m a (length xs) (length ys)) in
    ap (λ ws. laid m start (data_index m a) ws a (place_after m a (length ws))) e
    ∙ laid_append m start (xs ++ ys) zs a edge
    ∙ ap (λ ws. ws ++ laid m start (data_index m (place_after m a (length (xs ++ ys)))) zs (place_after m a (length (xs ++ ys))) (place_after m (place_after m a (length (xs ++ ys))) (length zs))) (laid_append m start xs ys a edge)
    ∙ ap (λ x. laid m start (data_index m a) xs a b ++ laid m start (data_index m b) ys b d ++ laid m start (data_index m x) zs x (place_after m x (length zs))) same

pub marker_here : (m : Bool) (start a : ℕ) → m ≡ true → a % 512 ≡ 0 → marker_before m start a ≡ marker_octets start (a / 512)
marker_here true start a t z = one_marker start a z
marker_here false start a t z = cc

pub none_beyond : (m : Bool) (at : ℕ) → (m ≡ false) ⊎ (at % 512 ≢ 4) → marker_beyond m at ≡ []
unfolding marker_beyond
none_beyond true at (inl f) = cc
none_beyond true at (inr h) = let far : eqb (at % 512) 4 ≡ false = grind (arith, nat_tests) in ap (λ b. cond b (0 ∷ 0 ∷ 0 ∷ 0 ∷ []) []) far
none_beyond false at h = refl

-- octets that come before the next marker, and the rest
pub laid_rest : (start : ℕ) (xs : List ℕ) (a n to : ℕ) → (n ≡ 0) ⊎ ((0 < n) × IsRun true a n) → n ≤ length xs → a + n ≤ to
    → laid true start (data_index true a) xs a to ≡ take n xs ++ laid true start (data_index true (a + n)) (drop n xs) (a + n) to
laid_rest start xs a n to (inl none) fits high =
    ap (λ b. laid true start (data_index true b) xs b to) (omega arith)
    ∙ ap (λ k. take k xs ++ laid true start (data_index true (a + n)) (drop k xs) (a + n) to) (sym none)
laid_rest start xs a n to (inr run) fits high =
    laid_split true start (data_index true a) xs a (a + n) to (omega arith) high
    ∙ ap (λ ys. ys ++ laid true start (data_index true a) xs (a + n) to) (laid_run true start xs a n fits run.1)
    ∙ ap (λ ys. take n xs ++ ys) (laid_shift true start (data_index true a) n (data_index true (a + n)) xs (a + n) to (run_end true a n run.0 run.1) (omega arith))
