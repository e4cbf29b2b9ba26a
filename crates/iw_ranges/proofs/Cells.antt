-- What the fields show of each place.
use Rattle.std.proofs.Common.{◌≡◌, ℕ, ◌+◌, ◌-◌, ◌<◌, ◌≤◌, zero, suc, Bool, true, false, not, ◌||◌, cond, List, [], ◌∷◌, map, length, get_or, refl, sym, ap, ◌∙◌, subst, arith, inl, inr}
use Rattle.std.proofs.lemmas.List.{get_or_past}
use Rattle.std.proofs.lemmas.List.FromFn.{get_or-map-range_with_len, length-map-range_with_len}
use Rattle.std.proofs.lemmas.Bool.{cases_lt}
use Rattle.std.proofs.lemmas.Bool.Decides.{nat_tests}
use Rattle.std.specs.List.{range_with_len}
use Rattle.std.specs.Prelude.{nat_lt}
use Rattle.iw_ranges.specs.declared.spans.Span.{Span}
use Rattle.iw_ranges.specs.Spans.{in_span, in_spans, IsFromStart, first_end}
use Rattle.iw_ranges.specs.Arrived.{Cell, Missing, Here, Gone, Arrived, cell_at, is_missing, has_come, drawn, end_of, IsHere}
use Rattle.iw_ranges.specs.Fields.{Fields, cell_of, arrived_in, IsSound}
use Rattle.iw_ranges.proofs.Reaches.{below_apart}
use Rattle.iw_ranges.proofs.Fills.{not_in}

-- ---- one cell of the fields
pub cell_missing : (f : Fields) (p : ℕ) → in_spans p f.spans ≡ false → cell_of f p ≡ Missing
unfolding cell_of
cell_missing f p h = rw h refl

pub cell_gone : (f : Fields) (p : ℕ) → in_spans p f.spans ≡ true → in_spans p f.gone ≡ true → cell_of f p ≡ Gone
unfolding cell_of
cell_gone f p h g = rw (h, g) refl

pub cell_here : (f : Fields) (p : ℕ) → in_spans p f.spans ≡ true → in_spans p f.gone ≡ false → cell_of f p ≡ Here (get_or f.octets (p - f.base) 0)
unfolding cell_of
cell_here f p h g = rw (h, g) refl

cell_came : (f : Fields) (p : ℕ) → not (is_missing (cell_of f p)) ≡ in_spans p f.spans
cell_came f p = go (in_spans p f.spans) (in_spans p f.gone) refl refl
  where
    go : (v g : Bool) → in_spans p f.spans ≡ v → in_spans p f.gone ≡ g → not (is_missing (cell_of f p)) ≡ in_spans p f.spans
    go false g h e = ap (λ c. not (is_missing c)) (cell_missing f p h) ∙ sym h
    go true true h e = ap (λ c. not (is_missing c)) (cell_gone f p h e) ∙ sym h
    go true false h e = ap (λ c. not (is_missing c)) (cell_here f p h e) ∙ sym h

-- ---- the first span
pub first_covers : (ss : List Span) (p : ℕ) → IsFromStart ss → p < first_end ss → in_spans p ss ≡ true
first_covers [] p order h = elim order [ ]
first_covers (s ∷ ss) p order h = let z : s.from ≡ 0 = order.0 in let here : in_span p s ≡ true = grind (arith, nat_tests) in ap (λ b. b || in_spans p ss) here

pub first_missing : (ss : List Span) → IsFromStart ss → in_spans (first_end ss) ss ≡ false
first_missing [] order = refl
first_missing (s ∷ ss) order =
    let rest : in_spans s.to ss ≡ false = below_apart s.to s.to ss order.1 (omega arith) in
    grind (arith, nat_tests, rest)

pub first_within : (ss : List Span) (n : ℕ) → IsFromStart ss → ((p : ℕ) → in_spans p ss ≡ true → p < n) → first_end ss ≤ n
first_within ss n order within = go (first_end ss) refl
  where
    go : (e : ℕ) → e ≡ first_end ss → e ≤ n
    go zero h = omega arith
    go (suc e) h = omega (arith, within e (first_covers ss e order (omega arith)))

pub come_reaches : (ss : List Span) (to : ℕ) → IsFromStart ss → ((p : ℕ) → p < to → in_spans p ss ≡ true) → to ≤ first_end ss
come_reaches ss to order all =
    elim (cases_lt (first_end ss) to) [
      | inl less ↦ absurd (let t = all (first_end ss) less in let f = first_missing ss order in cc)
      | inr fine ↦ fine
    ]

-- the end of what came lies at the end of the first span or past it
pub top_reaches : (f : Fields) → IsSound f → first_end f.spans ≤ f.end
top_reaches f ok = first_within f.spans f.end ok.order ok.within

-- ---- what the fields show
pub cell_below : (f : Fields) (p : ℕ) → p < f.floor → cell_at (arrived_in f) p ≡ Gone
cell_below f p h =
    let t : nat_lt p f.floor ≡ true = grind (arith, nat_tests) in
    ap (λ b. cond b Gone (get_or (arrived_in f).cells (p - f.floor) Missing)) t

pub cell_is : (f : Fields) → IsSound f → (p : ℕ) → f.floor ≤ p → cell_at (arrived_in f) p ≡ cell_of f p
cell_is f ok p low =
    let t : nat_lt p f.floor ≡ false = grind (arith, nat_tests) in
    ap (λ b. cond b Gone (get_or (arrived_in f).cells (p - f.floor) Missing)) t ∙ elim (cases_lt p f.end) [
      | inl inside ↦ get_or-map-range_with_len (cell_of f) f.floor (f.end - f.floor) (p - f.floor) p Missing (omega arith) (omega arith)
      | inr past ↦
          get_or_past (arrived_in f).cells (p - f.floor) Missing (omega (arith, length-map-range_with_len (cell_of f) f.floor (f.end - f.floor)))
          ∙ sym (cell_missing f p (not_in p f.end f.spans (in_spans p f.spans) ok.within past refl))
    ]

pub come_is : (f : Fields) → IsSound f → (p : ℕ) → has_come (arrived_in f) p ≡ in_spans p f.spans
come_is f ok p =
    elim (cases_lt p f.floor) [
      | inl before ↦ ap (λ c. not (is_missing c)) (cell_below f p before) ∙ sym (first_covers f.spans p ok.order (omega (arith, ok.reached)))
      | inr low ↦ ap (λ c. not (is_missing c)) (cell_is f ok p low) ∙ cell_came f p
    ]

pub come_via : (f : Fields) → IsSound f → (a : Arrived) → arrived_in f ≡ a → (p : ℕ) → has_come a p ≡ in_spans p f.spans
come_via f ok a e p = ap (λ x. has_come x p) (sym e) ∙ come_is f ok p

pub end_is : (f : Fields) → IsSound f → end_of (arrived_in f) ≡ f.end
end_is f ok = omega (arith, length-map-range_with_len (cell_of f) f.floor (f.end - f.floor), ok.reached, top_reaches f ok)

-- ---- streams that agree at each place
pub map_range : {X : Type 0} → (f g : ℕ → X) (a n : ℕ) → ((p : ℕ) → a ≤ p → f p ≡ g p) → map f (range_with_len a n) ≡ map g (range_with_len a n)
map_range f g a zero h = refl
map_range f g a (suc n) h = ap (λ x. x ∷ map f (range_with_len (a + 1) n)) (h a (omega arith)) ∙ ap (λ xs. g a ∷ xs) (map_range f g (a + 1) n (λ p low. h p (omega arith)))

pub same_drawn : (floor m n : ℕ) (f g : ℕ → Cell) → m ≡ n → ((p : ℕ) → floor ≤ p → f p ≡ g p) → drawn floor m f ≡ drawn floor n g
same_drawn floor m n f g e h =
    ap (λ k. drawn floor k f) e
    ∙ ap (λ cells. let a : Arrived = record { floor = floor; cells = cells } in a) (map_range f g floor (n - floor) h)

-- ---- octets that are held
pub here_in : (f : Fields) (p : ℕ) → IsHere (cell_of f p) → in_spans p f.spans ≡ true
here_in f p here = go (in_spans p f.spans) refl
  where
    go : (v : Bool) → in_spans p f.spans ≡ v → in_spans p f.spans ≡ true
    go false h = absurd (subst IsHere (cell_missing f p h) here)
    go true h = h

pub here_is : (f : Fields) (p : ℕ) → IsHere (cell_of f p) → cell_of f p ≡ Here (get_or f.octets (p - f.base) 0)
here_is f p here = go (in_spans p f.spans) (in_spans p f.gone) refl refl
  where
    go : (v g : Bool) → in_spans p f.spans ≡ v → in_spans p f.gone ≡ g → cell_of f p ≡ Here (get_or f.octets (p - f.base) 0)
    go false g h k = absurd (subst IsHere (cell_missing f p h) here)
    go true true h k = absurd (subst IsHere (cell_gone f p h k) here)
    go true false h k = cell_here f p h k

-- a place whose octet is held lies in the buffer, and its octet stands there
pub record Holds (f : Fields) (a : Arrived) (p : ℕ) : Type 0 where
  pub low : f.floor ≤ p
  pub inside : p < f.base + length f.octets
  pub octet : cell_at a p ≡ Here (get_or f.octets (p - f.base) 0)

pub holds : (f : Fields) → IsSound f → (a : Arrived) → arrived_in f ≡ a → (p : ℕ) → IsHere (cell_at a p) → Holds f a p
holds f ok a e p here =
    let there : IsHere (cell_at (arrived_in f) p) = subst (λ x. IsHere (cell_at x p)) (sym e) here in
    let low : f.floor ≤ p = elim (cases_lt p f.floor) [ inl before ↦ absurd (subst IsHere (cell_below f p before) there) | inr low ↦ low ] in
    let mine : IsHere (cell_of f p) = subst IsHere (cell_is f ok p low) there in record {
      low = low;
      inside = omega (arith, ok.within p (here_in f p mine), ok.stand);
      octet = ap (λ x. cell_at x p) (sym e) ∙ cell_is f ok p low ∙ here_is f p mine;
    }
