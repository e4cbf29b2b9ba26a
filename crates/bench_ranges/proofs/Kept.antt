use Rattle.std.proofs.Common.{◌≡◌, ℕ, Bool, true, false, cond, List, length, max, refl, sym, ap, ◌∙◌, subst, arith, inl, inr}
use Rattle.std.proofs.lemmas.Bool.{cases_lt}
use Rattle.std.proofs.lemmas.Bool.Decides.{nat_tests}
use Rattle.std.specs.Prelude.{nat_lt}
use Rattle.iw_ranges.specs.Arrived.{Gone, Arrived, cell_at, in_segment, is_dropped, taken_in, delivered, advanced}
use Rattle.iw_ranges.proofs.ByPlace.{cell_at-taken_in, first_copy-gone, gives_up_before}
use Rattle.iw_ranges.proofs.Keeps.{taken_none, taken_some}
use Rattle.bench_ranges.specs.Whole.{IsWhole}

floor_stays : (a : Arrived) (place : ℕ) (octets : List ℕ) → (taken_in a place octets).floor ≡ a.floor
floor_stays a place octets =
    elim (cases_lt 0 (length octets)) [
      | inl some ↦ ap (λ (x : Arrived). x.floor) (taken_some a place octets some)
      | inr none ↦ ap (λ (x : Arrived). x.floor) (taken_none a place octets (omega arith))
    ]

whole_taken : (a : Arrived) (place : ℕ) (octets : List ℕ) → IsWhole a → IsWhole (taken_in a place octets)
whole_taken a place octets whole = record {
  held = λ p low gone.
      whole.held p (omega (arith, floor_stays a place octets)) (first_copy-gone place octets p (cell_at a p) (in_segment place (length octets) p) refl (sym (cell_at-taken_in a place octets p) ∙ gone));
}

pub whole_delivered : (a : Arrived) (place : ℕ) (octets : List ℕ) → IsWhole a → IsWhole (delivered a place octets)
whole_delivered a place octets whole = go (is_dropped a place (length octets)) refl
  where
    go : (v : Bool) → is_dropped a place (length octets) ≡ v → IsWhole (delivered a place octets)
    go true h = subst IsWhole (sym (ap (λ b. cond b a (taken_in a place octets)) h)) whole
    go false h = subst IsWhole (sym (ap (λ b. cond b a (taken_in a place octets)) h)) (whole_taken a place octets whole)

floor_moves : (a : Arrived) (to : ℕ) → (advanced a to).floor ≡ max a.floor to
unfolding advanced
floor_moves a to = refl

pub whole_advanced : (a : Arrived) (to : ℕ) → IsWhole a → IsWhole (advanced a to)
whole_advanced a to whole = record {
  held = λ p low gone.
      let t : nat_lt p to ≡ false = grind (arith, nat_tests, floor_moves a to) in
      whole.held p (omega (arith, floor_moves a to)) (sym (gives_up_before a to p ∙ ap (λ b. cond b Gone (cell_at a p)) t) ∙ gone);
}
