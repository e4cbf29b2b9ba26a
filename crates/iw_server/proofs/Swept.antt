-- Places whose connection was late, and is gone.
use Rattle.std.proofs.Common.{◌≡◌, ◌≢◌, ◌<◌, ◌+◌, ℕ, List, length, Option, None, get_or, sym, subst, ap, ◌∙◌, inl, inr, arith}
use Rattle.std.proofs.Math.ListN.{set}
use Rattle.std.proofs.lemmas.Bool.{cases_lt}
use borrow.Author.Count.{below_more}
use Rattle.std.proofs.lemmas.Bool.Decides.{eqb_tells}
use Rattle.std.proofs.lemmas.List.{get_or-set_other, get_or-set_same, get_or_past, length-set}
use Rattle.iw_server.specs.declared.places.Place.{Place}
use Rattle.iw_server.specs.declared.terms.Terms.{Terms}
use Rattle.iw_server.specs.Lateness.{IsLate}

module _ {S : Type 0} (terms : Terms) (now key : ℕ) (places : List (Option (Place S))) where
  other_kept : (k : ℕ) → k ≢ key → get_or (set places key None) k None ≡ get_or places k None
  other_kept k ne = get_or-set_other places key k None None ne

  is_gone : get_or (set places key None) key None ≡ None
  is_gone =
      elim (cases_lt key (length places)) [
        | inl in_list ↦ get_or-set_same places key None None in_list
        | inr past ↦ get_or_past (set places key None) key None (omega (arith, length-set places key None))
      ]

  -- what was not late before stays
  pub sweep_keeps : (first after : List (Option (Place S))) → after ≡ set places key None → IsLate terms now (get_or places key None)
      → ((k : ℕ) → ¬ IsLate terms now (get_or first k None) → get_or places k None ≡ get_or first k None) → (k : ℕ) → ¬ IsLate terms now (get_or first k None) → get_or after k None ≡ get_or first k None
  sweep_keeps first after is late kept k not_so = elim (eqb_tells k key) [
    | inl same ↦
        absurd (not_so (subst (IsLate terms now) (kept k not_so) (subst (λ i. IsLate terms now (get_or places i None)) (sym same.1) late)))
    | inr other ↦ ap (λ xs. get_or xs k None) is ∙ other_kept k other.1 ∙ kept k not_so
  ]

  -- and of those up to this one none is late
  pub sweep_drops : (after : List (Option (Place S))) → after ≡ set places key None → ((k : ℕ) → k < key → ¬ IsLate terms now (get_or places k None)) → (k : ℕ) → k < key + 1
      → ¬ IsLate terms now (get_or after k None)
  sweep_drops after is dropped k low =
      subst (λ (xs : List (Option (Place S))). ¬ IsLate terms now (get_or xs k None)) (sym is)
      (elim (eqb_tells k key) [
        | inl same ↦ subst (λ i. ¬ IsLate terms now (get_or (set places key None) i None)) (sym same.1) (subst (λ o. ¬ IsLate terms now o) (sym is_gone) (λ no. no))
        | inr other ↦ let ne = other.1 in subst (λ o. ¬ IsLate terms now o) (sym (other_kept k ne)) (dropped k (omega (arith, low, ne)))
      ])

  -- one that is not late stays
  pub spared : ¬ IsLate terms now (get_or places key None) → ((k : ℕ) → k < key → ¬ IsLate terms now (get_or places k None)) → (k : ℕ) → k < key + 1 → ¬ IsLate terms now (get_or places k None)
  spared here dropped = below_more (λ k. ¬ IsLate terms now (get_or places k None)) key dropped here
