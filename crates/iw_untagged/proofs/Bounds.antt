-- Past the last place that may have a buffer.
use Rattle.std.proofs.Common.{◌≡◌, ℕ, zero, suc, ◌+◌, ◌-◌, ◌<◌, ◌≤◌, Option, None, List, [], ◌∷◌, ◌++◌, take, drop, replicate, get_or, refl, sym, ap, ◌∙◌, arith, inl, inr}
use Rattle.std.specs.Prelude.{slice_set, slice_index_or, is_some, count_by, cond}
use Rattle.std.proofs.lemmas.List.{get_or-replicate, get_or_past, length-replicate, get_or-set_other, length-set, length-append, length-drop, get_or_append_left, get_or-append_right, ext_get_or}
use Rattle.std.proofs.lemmas.List.Sums.{sum_by-cons}
use Rattle.std.proofs.lemmas.Grind.{get_or-set_at, get_or_after_one}
use Rattle.std.proofs.lemmas.Bool.{cases_lt}
use Rattle.iw_untagged.specs.Bound.{IsBoundBefore}

-- a new queue has no buffer bound
pub none_bound : IsBoundBefore 0 (replicate 256 None)
none_bound = record {
  count = length-replicate {A = Option (List ℕ)} 256 None;
  limit = omega arith;
  none = λ k past. elim (cases_lt k 256) [
    | inl within ↦ get_or-replicate 256 k None None within
    | inr beyond ↦ get_or_past (replicate 256 None) k None (omega (arith, beyond, length-replicate {A = Option (List ℕ)} 256 None))
  ];
}

-- a buffer is taken from its place
pub cleared : (end : ℕ) (places : List (Option (List ℕ))) (i : ℕ) → i < 256 → IsBoundBefore end places → IsBoundBefore end (slice_set places i None)
cleared end places i within b = record {
  count = length-set places i None ∙ b.count;
  limit = b.limit;
  none = λ k past. elim (cases_lt k i) [
    | inl before ↦ get_or-set_other places i k None None (λ e. absurd (omega (arith, e))) ∙ b.none k past
    | inr from ↦ elim (cases_lt i k) [
      | inl behind ↦ get_or-set_other places i k None None (λ e. absurd (omega (arith, e))) ∙ b.none k past
      | inr there ↦ get_or-set_at places i k None None (omega arith) (omega (arith, b.count))
    ]
  ];
}

abbrev no_buffer : Option (List ℕ)
no_buffer = None

last_none : (n : ℕ) → get_or (no_buffer ∷ []) n None ≡ None
last_none zero = refl
last_none (suc n) = refl

-- the places move up, the first being free
pub moved : (end : ℕ) (places : List (Option (List ℕ))) → IsBoundBefore end places → IsBoundBefore (end - 1) (drop 1 places ++ None ∷ [])
moved end places b = record {
  count = length-append (drop 1 places) (None ∷ []) ∙ omega (arith, length-drop 1 places, b.count);
  limit = omega (arith, b.limit);
  none = λ k past. elim (cases_lt k 255) [
    | inl within ↦
        get_or_append_left (drop 1 places) (None ∷ []) None k (omega (arith, length-drop 1 places, b.count))
        ∙ get_or_after_one places k None ∙ b.none (1 + k) (omega arith)
    | inr beyond ↦
        get_or-append_right (drop 1 places) (None ∷ []) 255 k None (omega (arith, length-drop 1 places, b.count)) beyond ∙ last_none (k - 255)
  ];
}

-- if no place but the first could have a buffer, and it has none, moving up changes nothing
pub stays : (end : ℕ) (places : List (Option (List ℕ))) → IsBoundBefore end places → end ≤ 1 → slice_index_or places 0 None ≡ None → places ≡ drop 1 places ++ None ∷ []
stays end places b few first =
    let up = moved end places b in
    ext_get_or None places (drop 1 places ++ None ∷ []) (b.count ∙ sym up.count) (λ k within. elim (cases_lt k 1) [
      | inl front ↦ ap (λ i. get_or places i None) (omega arith) ∙ first ∙ sym (up.none k (omega arith))
      | inr behind ↦ b.none k (omega arith) ∙ sym (up.none k (omega arith))
    ])

-- how much a place adds to the count
abbrev weight : Option (List ℕ) → ℕ
weight p = cond (is_some p) 1 0

no_weight : (p : Option (List ℕ)) → p ≡ None → weight p ≡ zero
no_weight p is = ap weight is

-- the buffers are counted up to a place from which on there is none
pub counted : (places : List (Option (List ℕ))) (end : ℕ) → ((k : ℕ) → end ≤ k → get_or places k None ≡ None) → count_by is_some (take end places) ≡ count_by is_some places
counted [] zero none = refl
counted [] (suc n) none = refl
counted (p ∷ places) zero none =
    let rest : count_by is_some places ≡ zero = sym (counted places zero (λ k past. none (suc k) (omega arith))) in
    let all : weight p + count_by is_some places ≡ zero = omega (arith, no_weight p (none 0 (omega arith)), rest) in
    sym (sum_by-cons weight p places ∙ all)
counted (p ∷ places) (suc n) none =
    sum_by-cons weight p (take n places) ∙ ap (λ m. weight p + m) (counted places n (λ k past. none (suc k) (omega (arith, past)))) ∙ sym (sum_by-cons weight p places)
