-- Each entry of the tables is what the bits' steps give.
use Rattle.std.proofs.Common.{◌≡◌, ℕ, ◌+◌, ◌-◌, ◌*◌, ◌<◌, zero, suc, Bool, true, ◌&&◌, eqb, List, [], ◌∷◌, get_or, length, refl, ap, ◌∙◌, arith, add-zero}
use Rattle.std.proofs.lemmas.Bool.Decides.{nat_tests}
use Rattle.iw_crc.specs.Crc.{after_bit, after_bits}
use Rattle.iw_crc.specs.declared.tables.TheConstants.{WORD_TABLES, TURN_TABLES}

-- a row that says from octet i on what n steps make of each
abbrev pub row_tells : ℕ → ℕ → List ℕ → Bool
row_tells n i [] = true
row_tells n i (x ∷ xs) = eqb (after_bits n i) x && row_tells n (i + 1) xs

-- rows of which each next one has eight steps fewer
abbrev pub rows_tell : ℕ → List (List ℕ) → Bool
rows_tell n [] = true
rows_tell n (row ∷ rows) = eqb (length row) 256 && row_tells n 0 row && rows_tell (n - 8) rows

words_tell : rows_tell 64 WORD_TABLES ≡ true
unfolding after_bit after_bits
words_tell = refl

turns_tell : rows_tell 256 TURN_TABLES ≡ true
unfolding after_bit after_bits
turns_tell = refl

entry_of : (n : ℕ) (xs : List ℕ) (i k : ℕ) → row_tells n i xs ≡ true → k < length xs → get_or xs k 0 ≡ after_bits n (i + k)
entry_of n [] i k h lt = absurd (omega arith)
entry_of n (x ∷ xs) i zero h lt = rw add-zero (grind (arith, nat_tests, h))
entry_of n (x ∷ xs) i (suc k) h lt =
    let rest : row_tells n (i + 1) xs ≡ true = grind (arith, nat_tests, h) in
    let below : k < length xs = omega arith in
    entry_of n xs (i + 1) k rest below ∙ ap (after_bits n) (omega arith)

row_of : (n : ℕ) (rows : List (List ℕ)) (j k : ℕ) → rows_tell n rows ≡ true → j < length rows → k < 256 → get_or (get_or rows j []) k 0 ≡ after_bits (n - 8 * j) k
row_of n [] j k h lt small = absurd (omega arith)
row_of n (row ∷ rows) zero k h lt small =
    let tells : row_tells n 0 row ≡ true = grind (arith, nat_tests, h) in
    let long : length row ≡ 256 = grind (arith, nat_tests, h) in
    entry_of n row 0 k tells (omega arith) ∙ (λ i. after_bits (let e : n ≡ n - 8 * 0 = omega arith in e i) (let e : 0 + k ≡ k = omega arith in e i))
row_of n (row ∷ rows) (suc j) k h lt small =
    let rest : rows_tell (n - 8) rows ≡ true = grind (arith, nat_tests, h) in
    let below : j < length rows = omega arith in
    let e : n - 8 - 8 * j ≡ n - 8 * suc j = omega arith in
    row_of (n - 8) rows j k rest below small ∙ ap (λ m. after_bits m k) e

pub word_entry_is : (j k : ℕ) → j < 8 → k < 256 → get_or (get_or WORD_TABLES j []) k 0 ≡ after_bits (64 - 8 * j) k
word_entry_is j k lt small = row_of 64 WORD_TABLES j k words_tell lt small

pub turn_entry_is : (j k : ℕ) → j < 8 → k < 256 → get_or (get_or TURN_TABLES j []) k 0 ≡ after_bits (256 - 8 * j) k
turn_entry_is j k lt small = row_of 256 TURN_TABLES j k turns_tell lt small
