-- Octets that came before.
use Rattle.std.proofs.Common.{◌≡◌, ℕ, zero, suc, ◌+◌, ◌-◌, ◌<◌, ◌≤◌, Bool, true, false, List, [], ◌∷◌, length, map, max, get_or, refl, sym, ap, ◌∙◌, arith, inl, inr}
use Rattle.std.specs.Prelude.{not, if◌then◌else◌}
use Rattle.std.specs.List.{range_with_len}
use Rattle.std.proofs.lemmas.List.{get_or_past}
use Rattle.std.proofs.lemmas.Bool.Decides.{nat_tests}
use Rattle.std.proofs.lemmas.Bool.{cases_lt, true≢false}
use Rattle.iw_ranges.specs.Arrived.{Arrived, Cell, Missing, Here, Gone, cell_at, drawn, end_of, first_copy, has_come, in_segment, is_dropped, is_missing, delivered, taken_in}
use Rattle.iw_ranges.proofs.ByPlace.{beyond}
use Rattle.iw_ranges.proofs.Cells.{map_range, same_drawn}
use Rattle.iw_ranges.proofs.Keeps.{not_copied, taken_none, taken_some}

-- what came, place by place
cells_at : (cells : List Cell) (floor n : ℕ) → n ≡ length cells → map (λ p. get_or cells (p - floor) Missing) (range_with_len floor n) ≡ cells
cells_at [] floor zero e = refl
cells_at [] floor (suc n) e = absurd (omega (arith, e))
cells_at (x ∷ xs) floor zero e = absurd (omega (arith, e))
cells_at (x ∷ xs) floor (suc n) e =
    let first : floor - floor ≡ 0 = omega arith in
    ap (λ k. get_or (x ∷ xs) k Missing ∷ map (λ p. get_or (x ∷ xs) (p - floor) Missing) (range_with_len (floor + 1) n)) first
    ∙ ap (λ ys. x ∷ ys) (
    map_range (λ p. get_or (x ∷ xs) (p - floor) Missing) (λ p. get_or xs (p - (floor + 1)) Missing) (floor + 1) n
    (λ p low. let next : p - floor ≡ suc (p - (floor + 1)) = omega (arith, low) in ap (λ k. get_or (x ∷ xs) k Missing) next)
    ∙ cells_at xs (floor + 1) n (omega (arith, e)))

cells_drawn : (a : Arrived) → drawn a.floor (end_of a) (cell_at a) ≡ a
cells_drawn a =
    ap (λ cells. let x : Arrived = record { floor = a.floor; cells = cells } in x)
    (map_range (cell_at a) (λ p. get_or a.cells (p - a.floor) Missing) a.floor (end_of a - a.floor) (λ p low. beyond a p low) ∙ cells_at a.cells a.floor (end_of a - a.floor) (omega arith))

-- a further copy of an octet that came is not taken
not_again : (place : ℕ) (octets : List ℕ) (p : ℕ) (c : Cell) (v : Bool) → in_segment place (length octets) p ≡ v → (v ≡ true → not (is_missing c) ≡ true) → first_copy place octets p c ≡ c
not_again place octets p Missing true e came = absurd (true≢false (sym (came refl)))
not_again place octets p (Here x) true e came = refl
not_again place octets p Gone true e came = refl
not_again place octets p c false e came = not_copied place p octets c e

in_past : (place n p : ℕ) → in_segment place n p ≡ true → (place ≤ p) × (p < place + n)
in_past place n p e = (grind (arith, nat_tests), grind (arith, nat_tests))

come_end : (a : Arrived) (p : ℕ) → has_come a p ≡ true → p < end_of a
come_end a p came =
    elim (cases_lt p (end_of a)) [
      | inl before ↦ before
      | inr out ↦ absurd (true≢false (sym came ∙ ap (λ c. not (is_missing c)) (beyond a p (omega (arith, out)) ∙ get_or_past a.cells (p - a.floor) Missing (omega (arith, out)))))
    ]

-- so a delivery of octets that all came before changes nothing
pub delivered_again : (a : Arrived) (place : ℕ) (octets : List ℕ) → ((p : ℕ) → place ≤ p → p < place + length octets → has_come a p ≡ true) → delivered a place octets ≡ a
delivered_again a place octets came = go (is_dropped a place (length octets))
  where
    all_in : 0 < length octets → place + length octets ≤ end_of a
    all_in some = let last = come_end a (place + length octets - 1) (came (place + length octets - 1) (omega arith) (omega arith)) in omega (arith, last)

    taken : taken_in a place octets ≡ a
    taken =
        elim (cases_lt 0 (length octets)) [
          | inl some ↦
              taken_some a place octets some
              ∙ same_drawn a.floor (max (end_of a) (place + length octets)) (end_of a) (λ p. first_copy place octets p (cell_at a p)) (cell_at a) (omega (arith, all_in some))
              (λ p low. not_again place octets p (cell_at a p) (in_segment place (length octets) p) refl (λ e. let w = in_past place (length octets) p e in came p w.0 w.1))
              ∙ cells_drawn a
          | inr none ↦ taken_none a place octets (omega arith)
        ]

    go : (b : Bool) → (if b then a else taken_in a place octets) ≡ a
    go true = refl
    go false = taken
