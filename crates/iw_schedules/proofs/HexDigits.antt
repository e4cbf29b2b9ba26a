-- Hexadecimal digits of many octets.
use Rattle.std.proofs.Common.{◌≡◌, ℕ, zero, suc, ◌+◌, ◌-◌, ◌*◌, ◌%◌, ◌<◌, ◌≤◌, Bool, true, ◌&&◌, ltb, inl, inr, List, [], ◌∷◌, ◌++◌, length, take, drop, slice_index, slice_set, Option, Some, None, unwrap_or, Err, Ok, refl, sym, ap, ◌∙◌, arith, append_assoc}
use Rattle.std.proofs.lemmas.Bool.{and_parts, cases_lt, ltb-true}
use Rattle.std.proofs.lemmas.List.{append-nil, drop_all, take-append-drop, take_rest}
use Rattle.std.proofs.lemmas.Str.{IsUtf8-from_ascii}
use Rattle.std.proofs.lemmas.Str.Ascii.{IsAscii-from_reads}
use Rattle.std.specs.Str.{IsAscii, IsUtf8}
use Rattle.hex.specs.Hex.{lower_digits, encode_lower, encode_with, hex_digit_value, digit_or_error, value_at, pair_value, decode_pairs}
use Rattle.hex.specs.declared.error.FromHexError.{FromHexError}
use Rattle.hex.specs.declared.error.FromHexError.TheVariants.{InvalidHexCharacter}
use Rattle.hex.proofs.Pairs.{prepend, decode_step, decode_err}
use Rattle.hex.proofs.HexLemmas.{IsAscii-encode_with}

-- ---- printing

abbrev all_ascii : ℕ → Bool
all_ascii zero = true
all_ascii (suc n) = ltb (slice_index lower_digits n) 128 && all_ascii n

ascii_below : (n k : ℕ) → all_ascii n ≡ true → k < n → slice_index lower_digits k < 128
ascii_below zero k h lt = absurd (omega arith)
ascii_below (suc n) k h lt =
    let parts = and_parts (ltb (slice_index lower_digits n) 128) (all_ascii n) h in
    elim (cases_lt k n) [
      | inl below ↦ ascii_below n k parts.1 below
      | inr top ↦
          let e : k ≡ n = omega arith in
          rw e (ltb-true (slice_index lower_digits n) 128 parts.0)
    ]

digits_are_ascii : IsAscii lower_digits
digits_are_ascii = IsAscii-from_reads lower_digits 16 (omega arith) (λ k below. ascii_below 16 k refl below)

-- digits are a text
pub are_text : (octets digits : List ℕ) → digits ≡ encode_lower octets → IsUtf8 digits
are_text octets digits e = rw e (IsUtf8-from_ascii (encode_lower octets) (IsAscii-encode_with lower_digits octets digits_are_ascii))

-- the digits of octets are those of their front, and then those of the rest
pub digits_join : (xs ys : List ℕ) → encode_lower (xs ++ ys) ≡ encode_lower xs ++ encode_lower ys
unfolding encode_with
digits_join [] ys = refl
digits_join (x ∷ xs) ys = rw (digits_join xs ys) refl

-- the digits of some octets more are printed
pub part_printed : (old text longer left octets : List ℕ) → longer ≡ text ++ encode_lower (take 64 left)
    → text ++ encode_lower left ≡ old ++ encode_lower octets
    → longer ++ encode_lower (take (length left - 64) (drop 64 left)) ≡ old ++ encode_lower octets
part_printed old text longer left octets e inv =
    let whole : encode_lower (take 64 left) ++ encode_lower (drop 64 left) ≡ encode_lower left = sym (digits_join (take 64 left) (drop 64 left)) ∙ ap (λ xs. encode_lower xs) (take-append-drop 64 left) in
    ap (λ rest. longer ++ encode_lower rest) (take_rest left 64)
    ∙ ap (λ t. t ++ encode_lower (drop 64 left)) e
    ∙ append_assoc text (encode_lower (take 64 left)) (encode_lower (drop 64 left))
    ∙ ap (λ digits. text ++ digits) whole
    ∙ inv

-- all digits are written
pub all_written : (octets room : List ℕ) (i : ℕ) → length octets ≤ i → i ≤ length octets
    → take (2 * i) room ++ encode_lower (drop i octets) ≡ encode_lower octets
    → take (2 * length octets) room ≡ encode_lower octets
unfolding encode_with
all_written octets room i ge le inv =
    let same : length octets ≡ i = omega arith in
    let none : drop i octets ≡ [] = drop_all i octets ge in
    ap (λ n. take (2 * n) room) same ∙ (sym (append-nil (take (2 * i) room)) ∙ (ap (λ rest. take (2 * i) room ++ encode_lower rest) (sym none) ∙ inv))

-- ---- reading

-- the digits stand for no octets
abbrev pub Refuses : List ℕ → Type 0
Refuses digits = (e : FromHexError) × (decode_pairs 0 digits ≡ Err e)

some_from : (o : Option ℕ) (d : ℕ) → d < 16 → d ≡ unwrap_or o 255 → o ≡ Some d
some_from (Some v) d lt e = ap Some (sym e)
some_from None d lt e = absurd (omega (arith, e))

none_from : (o : Option ℕ) (d : ℕ) → ((v : ℕ) → o ≡ Some v → v < 16) → 16 ≤ d → d ≡ unwrap_or o 255 → o ≡ None
none_from (Some v) d small ge e = let lt = small v refl in absurd (omega (arith, e))
none_from None d small ge e = refl

is_small : (c v : ℕ) → hex_digit_value c ≡ Some v → v < 16
is_small c v h = grind (arith)

good : (c i d : ℕ) → d < 16 → d ≡ unwrap_or (hex_digit_value c) 255 → value_at c i ≡ Ok d
good c i d lt e = ap (digit_or_error c i) (some_from (hex_digit_value c) d lt e)

bad : (c i d : ℕ) → 16 ≤ d → d ≡ unwrap_or (hex_digit_value c) 255 → value_at c i ≡ Err (InvalidHexCharacter c i)
bad c i d ge e = ap (digit_or_error c i) (none_from (hex_digit_value c) d (is_small c) ge e)

-- what is read before a pair
abbrev pub IsReadTo : List ℕ → List ℕ → ℕ → Type 0
IsReadTo s out i = decode_pairs 0 s ≡ prepend (take i out) (decode_pairs (2 * i) (drop (2 * i) s))

-- a pair of digits is read
pub pair_read : (s out : List ℕ) (i high low largest largest' : ℕ) → 2 * i + 1 < length s → i < length out
    → high ≡ unwrap_or (hex_digit_value (slice_index s (2 * i))) 255 → low ≡ unwrap_or (hex_digit_value (slice_index s (2 * i + 1))) 255
    → largest ≤ largest' → high ≤ largest' → low ≤ largest'
    → (largest < 16 → IsReadTo s out i) → largest' < 16
    → IsReadTo s (slice_set out i ((high * 16 % 256 + low) % 256)) (i + 1)
pair_read s out i high low largest largest' fits room eh el le hle lle inv lt =
    let x = slice_index s (2 * i) in
    let y = slice_index s (2 * i + 1) in
    let a : value_at x (2 * i) ≡ Ok high = good x (2 * i) high (omega arith) eh in
    let b : value_at y (2 * i + 1) ≡ Ok low = good y (2 * i + 1) low (omega arith) el in
    let pair : pair_value x y (2 * i) ≡ Ok (high * 16 + low) = rw (a, b) refl in
    let v : (high * 16 % 256 + low) % 256 ≡ high * 16 + low = omega arith in
    rw v (decode_step s out i (high * 16 + low) fits room pair (inv (omega arith)))

-- one of a pair is no digit, or one before it
pub pair_refused : (s out : List ℕ) (i high low largest largest' : ℕ) → 2 * i + 1 < length s
    → high ≡ unwrap_or (hex_digit_value (slice_index s (2 * i))) 255 → low ≡ unwrap_or (hex_digit_value (slice_index s (2 * i + 1))) 255
    → (largest < 16 → high < 16 → low < 16 → largest' < 16)
    → (largest < 16 → IsReadTo s out i) → (16 ≤ largest → Refuses s) → 16 ≤ largest' → Refuses s
pair_refused s out i high low largest largest' fits eh el either inv refused ge =
    let x = slice_index s (2 * i) in
    let y = slice_index s (2 * i + 1) in
    elim (cases_lt largest 16) [
      | inr before ↦ refused before
      | inl fine ↦
          elim (cases_lt high 16) [
            | inr no_high ↦
                let a : value_at x (2 * i) ≡ Err (InvalidHexCharacter x (2 * i)) = bad x (2 * i) high no_high eh in
                let pair : pair_value x y (2 * i) ≡ Err (InvalidHexCharacter x (2 * i)) = rw a refl in
                (InvalidHexCharacter x (2 * i), decode_err s out i (InvalidHexCharacter x (2 * i)) fits pair (inv fine))
            | inl is_high ↦
                elim (cases_lt low 16) [
                  | inr no_low ↦
                      let a : value_at x (2 * i) ≡ Ok high = good x (2 * i) high is_high eh in
                      let b : value_at y (2 * i + 1) ≡ Err (InvalidHexCharacter y (2 * i + 1)) = bad y (2 * i + 1) low no_low el in
                      let pair : pair_value x y (2 * i) ≡ Err (InvalidHexCharacter y (2 * i + 1)) = rw (a, b) refl in
                      (InvalidHexCharacter y (2 * i + 1), decode_err s out i (InvalidHexCharacter y (2 * i + 1)) fits pair (inv fine))
                  | inl is_low ↦ let lt = either fine is_high is_low in absurd (omega arith)
                ]
          ]
    ]
