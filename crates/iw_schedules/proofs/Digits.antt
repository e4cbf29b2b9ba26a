-- Decimal digits, read from left to right.
use Rattle.std.proofs.Common.{◌≡◌, ℕ, ◌+◌, ◌*◌, ◌^◌, ◌<◌, ◌≤◌, Bool, true, false, cond, ◌&&◌, ltb, List, [], ◌∷◌, Option, Some, None, refl, arith}
use Rattle.std.specs.List.{list_all}
use Rattle.std.specs.Char.{is_ascii_digit, digit_value}
use Rattle.std.specs.Str.Parse.{digits_value_after}
use Rattle.std.proofs.lemmas.Bool.{le-ltb, lt-ltb}

-- the number that these digits write behind those of n, where it fits 64 bits
abbrev pub decimal_after : ℕ → List ℕ → Option ℕ
decimal_after n ds = cond (list_all is_ascii_digit ds && ltb (digits_value_after 10 n ds) (2 ^ 64)) (Some (digits_value_after 10 n ds)) None

-- more digits don't make it less
pub digits_value_after-le : (n : ℕ) (ds : List ℕ) → n ≤ digits_value_after 10 n ds
digits_value_after-le n [] = omega arith
digits_value_after-le n (d ∷ ds) = omega (arith, digits_value_after-le (n * 10 + digit_value d) ds)

and-false : (b : Bool) → (b && false) ≡ false
and-false true = refl
and-false false = refl

-- one more digit makes it too large
pub overflows : (n d : ℕ) (ds : List ℕ) → 2 ^ 64 ≤ n * 10 + digit_value d → decimal_after n (d ∷ ds) ≡ None
overflows n d ds le =
    rw (le-ltb (digits_value_after 10 (n * 10 + digit_value d) ds) (2 ^ 64) (omega (arith, digits_value_after-le (n * 10 + digit_value d) ds)), and-false (list_all is_ascii_digit (d ∷ ds))) refl

pub is_all : (n : ℕ) → n < 2 ^ 64 → decimal_after n [] ≡ Some n
is_all n lt = rw (lt-ltb n (2 ^ 64) lt) refl
