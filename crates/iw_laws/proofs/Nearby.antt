-- Octets whose number is that of a place near the in-order point land at that place.
use Rattle.std.proofs.Common.{◌≡◌, ℕ, ◌+◌, ◌%◌, ◌^◌, ◌<◌, ◌≤◌, drop, Bool, true, false, refl, ap, arith}
use Rattle.std.specs.Prelude.{nat_le, ◌&&◌}
use Rattle.std.proofs.lemmas.Bool.{false≢true}
use Rattle.std.proofs.lemmas.Bool.Decides.{nat_tests}
use Rattle.iw_ranges.specs.Nearest.{place_near, before_start}
use Rattle.iw_ranges.proofs.NearPlaces.{near_back, near_inside}
use Rattle.iw_laws.specs.Words.{Octets}
use Rattle.iw_laws.specs.Turns.{is_near}

both_true : (a b : Bool) → (a && b) ≡ true → (a ≡ true) × (b ≡ true)
both_true true b h = (refl, h)
both_true false b h = absurd (false≢true h)

at_most : (n m : ℕ) → nat_le n m ≡ true → n ≤ m
at_most n m h = grind (arith, nat_tests)

near_of : (floor from : ℕ) → is_near floor from ≡ true → (from ≤ floor + 2 ^ 30) × (floor ≤ from + 2 ^ 30)
near_of floor from near =
    let both = both_true (nat_le from (floor + 2 ^ 30)) (nat_le floor (from + 2 ^ 30)) near in
    (at_most from (floor + 2 ^ 30) both.0, at_most floor (from + 2 ^ 30) both.1)

pub lands_near : (first floor from : ℕ) (octets : Octets) → is_near floor from ≡ true
    → (place_near ((first + from) % 2 ^ 32) first floor ≡ from) × (drop (before_start ((first + from) % 2 ^ 32) first floor) octets ≡ octets)
lands_near first floor from octets near =
    let bounds = near_of floor from near in
    let low : floor ≤ from + 2 ^ 31 = omega (arith, bounds.1) in
    let high : from < floor + 2 ^ 31 = omega (arith, bounds.0) in
    (near_back first from floor low high, ap (λ n. drop n octets) (near_inside first from floor low high))
