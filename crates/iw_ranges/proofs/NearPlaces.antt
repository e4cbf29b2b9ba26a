-- The nearest place, where octets before the stream are left out.
use Rattle.std.proofs.Common.{◌≡◌, ℕ, ◌+◌, ◌-◌, ◌%◌, ◌^◌, ◌<◌, ◌≤◌, Bool, true, false, cond, nat_lt, refl, ap, ◌∙◌, arith, inl, inr}
use Rattle.std.specs.Prelude.{pos, ◌+ℤ◌, ◌-ℤ◌}
use Rattle.std.proofs.lemmas.Bool.{cases_lt}
use Rattle.std.proofs.lemmas.Bool.Decides.{nat_tests}
use Rattle.std.proofs.lemmas.Int.{ints, int_rem_euclid_is}
use Rattle.iw_ranges.specs.Nearest.{IsNearest, numbers_ahead, place_near, before_start}

-- ---- how far ahead a number is
ahead_up : (first place floor : ℕ) → floor ≤ place → place < floor + 2 ^ 31 → numbers_ahead ((first + place) % 2 ^ 32) first floor ≡ place - floor
unfolding numbers_ahead
ahead_up first place floor low high = omega arith

ahead_down : (first place floor : ℕ) → place < floor → floor ≤ place + 2 ^ 31 → numbers_ahead ((first + place) % 2 ^ 32) first floor ≡ 2 ^ 32 - (floor - place)
unfolding numbers_ahead
ahead_down first place floor low high = omega arith

ahead_few : (number first floor : ℕ) → numbers_ahead number first floor < 2 ^ 32
unfolding numbers_ahead
ahead_few number first floor = omega arith

ahead_named : (number first floor : ℕ) → number < 2 ^ 32 → (first + (floor + numbers_ahead number first floor)) % 2 ^ 32 ≡ number
unfolding numbers_ahead
ahead_named number first floor few = omega arith

-- ---- the place by it
place_by : ℕ → ℕ → ℕ
place_by floor ahead = cond (nat_lt ahead (2 ^ 31)) (floor + ahead) (floor + ahead - 2 ^ 32)

before_by : ℕ → ℕ → ℕ
before_by floor ahead = cond (nat_lt ahead (2 ^ 31)) 0 (2 ^ 32 - (floor + ahead))

place_is : (number first floor : ℕ) → place_near number first floor ≡ place_by floor (numbers_ahead number first floor)
unfolding place_near place_by
place_is number first floor = refl

before_is : (number first floor : ℕ) → before_start number first floor ≡ before_by floor (numbers_ahead number first floor)
unfolding before_start before_by
before_is number first floor = refl

by_up : (floor place : ℕ) → floor ≤ place → place < floor + 2 ^ 31 → place_by floor (place - floor) ≡ place
unfolding place_by
by_up floor place low high = grind (arith, nat_tests)

by_down : (floor place : ℕ) → place < floor → floor ≤ place + 2 ^ 31 → place_by floor (2 ^ 32 - (floor - place)) ≡ place
unfolding place_by
by_down floor place low high = grind (arith, nat_tests)

none_up : (floor place : ℕ) → floor ≤ place → place < floor + 2 ^ 31 → before_by floor (place - floor) ≡ 0
unfolding before_by
none_up floor place low high = grind (arith, nat_tests)

none_down : (floor place : ℕ) → place < floor → floor ≤ place + 2 ^ 31 → before_by floor (2 ^ 32 - (floor - place)) ≡ 0
unfolding before_by
none_down floor place low high = grind (arith, nat_tests)

-- the number of a place of the stream that is near gives it back
pub near_back : (first place floor : ℕ) → floor ≤ place + 2 ^ 31 → place < floor + 2 ^ 31 → place_near ((first + place) % 2 ^ 32) first floor ≡ place
near_back first place floor low high =
    place_is ((first + place) % 2 ^ 32) first floor
    ∙ elim (cases_lt place floor) [
      | inl before ↦ ap (place_by floor) (ahead_down first place floor before low) ∙ by_down floor place before low
      | inr past ↦ ap (place_by floor) (ahead_up first place floor past high) ∙ by_up floor place past high
    ]

pub near_inside : (first place floor : ℕ) → floor ≤ place + 2 ^ 31 → place < floor + 2 ^ 31 → before_start ((first + place) % 2 ^ 32) first floor ≡ 0
near_inside first place floor low high =
    before_is ((first + place) % 2 ^ 32) first floor
    ∙ elim (cases_lt place floor) [
      | inl before ↦ ap (before_by floor) (ahead_down first place floor before low) ∙ none_down floor place before low
      | inr past ↦ ap (before_by floor) (ahead_up first place floor past high) ∙ none_up floor place past high
    ]

-- ---- it is the nearest
nearest_by : (a number first floor : ℕ) → a < 2 ^ 32 → (first + (floor + a)) % 2 ^ 32 ≡ number → IsNearest number first floor (pos (place_by floor a) -ℤ pos (before_by floor a))
unfolding place_by before_by
nearest_by a number first floor few named = go (nat_lt a (2 ^ 31)) refl
  where
    go : (b : Bool) → nat_lt a (2 ^ 31) ≡ b → IsNearest number first floor (pos (cond b (floor + a) (floor + a - 2 ^ 32)) -ℤ pos (cond b 0 (2 ^ 32 - (floor + a))))
    go true h =
        let less : a < 2 ^ 31 = grind (arith, nat_tests) in record {
          named = int_rem_euclid_is (pos first +ℤ (pos (floor + a) -ℤ pos 0)) (pos (2 ^ 32)) (2 ^ 32) 0 (first + (floor + a)) (omega arith) refl (omega (arith, ints)) ∙ ap pos named;
          low = omega (arith, ints);
          high = omega (arith, ints);
        }
    go false h =
        let more : 2 ^ 31 ≤ a = grind (arith, nat_tests) in record {
          named = int_rem_euclid_is (pos first +ℤ (pos (floor + a - 2 ^ 32) -ℤ pos (2 ^ 32 - (floor + a)))) (pos (2 ^ 32)) (2 ^ 32) 1 (first + (floor + a)) (omega arith) refl (omega (arith, ints)) ∙ ap pos named;
          low = omega (arith, ints);
          high = omega (arith, ints);
        }

pub near_is_nearest : (number first floor : ℕ) → number < 2 ^ 32 → IsNearest number first floor (pos (place_near number first floor) -ℤ pos (before_start number first floor))
unfolding place_near before_start place_by before_by
near_is_nearest number first floor few = nearest_by (numbers_ahead number first floor) number first floor (ahead_few number first floor) (ahead_named number first floor few)
