-- Octets taken in eight at a time, and in four lanes of eight.
use Rattle.std.proofs.Common.{◌≡◌, ℕ, ◌+◌, ◌-◌, ◌*◌, ◌%◌, ◌^◌, ◌<◌, ◌≤◌, zero, suc, List, [], ◌∷◌, take, drop, length, get_or, refl, sym, ap, ◌∙◌, arith, bit_xor, length-take, length-drop}
use lib.Bits.{xor_assoc, xor_comm, xor_shifted, xor_zero_r}
use Rattle.std.specs.Int.{w32, w64, from_le_bytes}
use Rattle.std.proofs.Math.Seq.{take-add}
use Rattle.std.proofs.lemmas.List.{get_or-take, get_or-drop, take_rest, take-append-drop}
use Rattle.iw_crc.specs.Crc.{after_bit, after_bits, after_octet, after_octets}
use Rattle.iw_crc.specs.CrcWords.{octet_in, word_in}
use Rattle.iw_crc.specs.Fold.{little}
use Rattle.iw_crc.proofs.Linear.{swap_inner, after_bits-xor, after_bits-shifted, after_octets-append}

pub after_bits-add : (m n remainder : ℕ) → after_bits (m + n) remainder ≡ after_bits n (after_bits m remainder)
unfolding after_bits
after_bits-add zero n remainder =
    let none : zero + n ≡ n = omega arith in
    ap (λ k. after_bits k remainder) none
after_bits-add (suc m) n remainder =
    let more : suc m + n ≡ suc (m + n) = omega arith in
    ap (λ k. after_bits k remainder) more ∙ after_bits-add m n (after_bit remainder)

pub after_bits-zero : (n : ℕ) → after_bits n 0 ≡ 0
unfolding after_bits after_bit
after_bits-zero zero = refl
after_bits-zero (suc n) = after_bits-zero n

-- steps in either order
pub after_bits-swap : (m n remainder : ℕ) → after_bits m (after_bits n remainder) ≡ after_bits n (after_bits m remainder)
after_bits-swap m n remainder =
    let e : n + m ≡ m + n = omega arith in
    sym (after_bits-add n m remainder) ∙ ap (λ k. after_bits k remainder) e ∙ after_bits-add m n remainder

-- the low bits of a number and those above them go out each by themselves
pub join : (k n low high : ℕ) → low < 2 ^ k → after_bits (k + n) (high * 2 ^ k + low) ≡ bit_xor (after_bits (k + n) low) (after_bits n high)
join k n low high small =
    ap (after_bits (k + n)) (sym (xor_shifted high k low small)) ∙ after_bits-xor (k + n) (high * 2 ^ k) low
    ∙ ap (λ x. bit_xor x (after_bits (k + n) low)) (after_bits-add k n (high * 2 ^ k) ∙ ap (after_bits n) (after_bits-shifted k high))
    ∙ xor_comm (after_bits n high) (after_bits (k + n) low)

-- the steps that are left at each octet of a word, the octets each by themselves
abbrev pub octets_apart : ℕ → ℕ → ℕ
octets_apart n word =
    bit_xor (bit_xor (bit_xor (bit_xor (bit_xor (bit_xor (bit_xor
    (after_bits (64 + n) (octet_in word 0))
    (after_bits (56 + n) (octet_in word 1)))
    (after_bits (48 + n) (octet_in word 2)))
    (after_bits (40 + n) (octet_in word 3)))
    (after_bits (32 + n) (octet_in word 4)))
    (after_bits (24 + n) (octet_in word 5)))
    (after_bits (16 + n) (octet_in word 6)))
    (after_bits (8 + n) (octet_in word 7))

-- the low part of a word with one octet more
grow : (k n m : ℕ) (word low octet more : ℕ) → m ≡ k + n → low < 2 ^ k → more ≡ octet * 2 ^ k + low → after_bits m more ≡ bit_xor (after_bits m low) (after_bits n octet)
grow k n m word low octet more e small whole =
    ap (after_bits m) whole ∙ ap (λ i. after_bits i (octet * 2 ^ k + low)) e ∙ join k n low octet small
    ∙ ap (λ i. bit_xor (after_bits i low) (after_bits n octet)) (sym e)

pub apart : (n word : ℕ) → word < 2 ^ 64 → octets_apart n word ≡ after_bits (64 + n) word
apart n word small =
    let s1 = grow 8 (56 + n) (64 + n) word (octet_in word 0) (octet_in word 1) (word % 2 ^ 16) (omega arith) (omega arith) (omega arith) in
    let s2 = grow 16 (48 + n) (64 + n) word (word % 2 ^ 16) (octet_in word 2) (word % 2 ^ 24) (omega arith) (omega arith) (omega arith) in
    let s3 = grow 24 (40 + n) (64 + n) word (word % 2 ^ 24) (octet_in word 3) (word % 2 ^ 32) (omega arith) (omega arith) (omega arith) in
    let s4 = grow 32 (32 + n) (64 + n) word (word % 2 ^ 32) (octet_in word 4) (word % 2 ^ 40) (omega arith) (omega arith) (omega arith) in
    let s5 = grow 40 (24 + n) (64 + n) word (word % 2 ^ 40) (octet_in word 5) (word % 2 ^ 48) (omega arith) (omega arith) (omega arith) in
    let s6 = grow 48 (16 + n) (64 + n) word (word % 2 ^ 48) (octet_in word 6) (word % 2 ^ 56) (omega arith) (omega arith) (omega arith) in
    let s7 = grow 56 (8 + n) (64 + n) word (word % 2 ^ 56) (octet_in word 7) word (omega arith) (omega arith) (omega arith) in
    sym (s7
    ∙ ap (λ x. bit_xor x (after_bits (8 + n) (octet_in word 7))) (s6
    ∙ ap (λ x. bit_xor x (after_bits (16 + n) (octet_in word 6))) (s5
    ∙ ap (λ x. bit_xor x (after_bits (24 + n) (octet_in word 5))) (s4
    ∙ ap (λ x. bit_xor x (after_bits (32 + n) (octet_in word 4))) (s3
    ∙ ap (λ x. bit_xor x (after_bits (40 + n) (octet_in word 3))) (s2
    ∙ ap (λ x. bit_xor x (after_bits (48 + n) (octet_in word 2))) s1))))))

pub after_little : (remainder : ℕ) (xs : List ℕ) → after_octets remainder xs ≡ after_bits (8 * length xs) (bit_xor remainder (little xs))
unfolding after_octets after_octet after_bits
after_little remainder [] = sym (xor_zero_r remainder)
after_little remainder (x ∷ xs) =
    let count : 8 + 8 * length xs ≡ 8 * suc (length xs) = omega arith in
    after_little (after_octet remainder x) xs
    ∙ ap (after_bits (8 * length xs)) (one remainder x (little xs))
    ∙ sym (after_bits-add 8 (8 * length xs) (bit_xor remainder (bit_xor (little xs * 2 ^ 8) x)))
    ∙ ap (λ n. after_bits n (bit_xor remainder (bit_xor (little xs * 2 ^ 8) x))) count
  where
    one : (remainder x rest : ℕ) → bit_xor (after_octet remainder x) rest ≡ after_bits 8 (bit_xor remainder (bit_xor (rest * 2 ^ 8) x))
    one remainder x rest =
        ap (bit_xor (after_bits 8 (bit_xor remainder x))) (sym (after_bits-shifted 8 rest))
        ∙ sym (after_bits-xor 8 (bit_xor remainder x) (rest * 2 ^ 8))
        ∙ ap (after_bits 8) (xor_assoc remainder x (rest * 2 ^ 8) ∙ ap (bit_xor remainder) (xor_comm x (rest * 2 ^ 8)))

-- the four octets of half a word, each by itself
pub half_apart : (half : ℕ) → half < 2 ^ 32
    → bit_xor (bit_xor (bit_xor (after_bits 32 (octet_in half 0)) (after_bits 24 (octet_in half 1))) (after_bits 16 (octet_in half 2))) (after_bits 8 (octet_in half 3)) ≡ after_bits 32 half
half_apart half small =
    let s1 = grow 8 24 32 half (octet_in half 0) (octet_in half 1) (half % 2 ^ 16) refl (omega arith) (omega arith) in
    let s2 = grow 16 16 32 half (half % 2 ^ 16) (octet_in half 2) (half % 2 ^ 24) refl (omega arith) (omega arith) in
    let s3 = grow 24 8 32 half (half % 2 ^ 24) (octet_in half 3) half refl (omega arith) (omega arith) in
    sym (s3
    ∙ ap (λ x. bit_xor x (after_bits 8 (octet_in half 3))) (s2
    ∙ ap (λ x. bit_xor x (after_bits 16 (octet_in half 2))) s1))

-- the same, with sums
abbrev pub sum_little : List ℕ → ℕ
sum_little [] = 0
sum_little (x ∷ xs) = sum_little xs * 256 + x

pub little_sum : (xs : List ℕ) → ((i : ℕ) → i < length xs → get_or xs i 0 < 256) → little xs ≡ sum_little xs
little_sum [] small = refl
little_sum (x ∷ xs) small =
    let rest : (i : ℕ) → i < length xs → get_or xs i 0 < 256 = λ i lt. small (suc i) (omega arith) in
    ap (λ r. bit_xor (r * 2 ^ 8) x) (little_sum xs rest) ∙ xor_shifted (sum_little xs) 8 x (small 0 (omega arith))

-- octets up to a place, and then the rest
pub after_octets-split : (remainder : ℕ) (octets : List ℕ) (at : ℕ)
    → after_octets (after_octets remainder (take at octets)) (take (length octets - at) (drop at octets)) ≡ after_octets remainder octets
after_octets-split remainder octets at =
    ap (after_octets (after_octets remainder (take at octets))) (take_rest octets at)
    ∙ sym (after_octets-append remainder (take at octets) (drop at octets)) ∙ ap (after_octets remainder) (take-append-drop at octets)

sum_of_four_octets : (xs : List ℕ) → length xs ≡ 4 → sum_little xs ≡ from_le_bytes w32 xs
sum_of_four_octets (a ∷ b ∷ c ∷ d ∷ []) long = omega arith
sum_of_four_octets xs long = absurd (omega arith)

-- half a word at the front
pub half_first : (remainder half : ℕ) (octets : List ℕ) → 4 ≤ length octets → ((i : ℕ) → get_or octets i 0 < 256) → half ≡ from_le_bytes w32 (take 4 octets)
    → after_octets (after_bits 32 (bit_xor remainder half)) (take (length octets - 4) (drop 4 octets)) ≡ after_octets remainder octets
half_first remainder half octets room small is =
    let four = take 4 octets in
    let long : length four ≡ 4 = length-take 4 octets ∙ omega arith in
    let bounded : (i : ℕ) → i < length four → get_or four i 0 < 256 = λ i lt.
    let inside : i < 4 = omega (arith, long, lt) in
    omega (arith, get_or-take 4 octets i 0 inside, small i) in
    let value : little four ≡ half = little_sum four bounded ∙ sum_of_four_octets four long ∙ sym is in
    let first : after_bits 32 (bit_xor remainder half) ≡ after_octets remainder (take 4 octets) =
    sym (after_little remainder four ∙ (λ i. after_bits (8 * long i) (bit_xor remainder (value i)))) in
    ap (λ r. after_octets r (take (length octets - 4) (drop 4 octets))) first ∙ after_octets-split remainder octets 4

sum_of_eight : (xs : List ℕ) → length xs ≡ 8 → sum_little xs ≡ from_le_bytes w64 xs
sum_of_eight (a ∷ b ∷ c ∷ d ∷ e ∷ f ∷ g ∷ h ∷ []) long = omega arith
sum_of_eight xs long = absurd (omega arith)

-- a word more
pub one_word : (remainder : ℕ) (octets : List ℕ) (at : ℕ) → at + 8 ≤ length octets → ((i : ℕ) → get_or octets i 0 < 256)
    → after_octets remainder (take (at + 8) octets) ≡ after_bits 64 (bit_xor (after_octets remainder (take at octets)) (word_in octets at))
one_word remainder octets at room small =
    let eight = take 8 (drop at octets) in
    let long : length eight ≡ 8 = simp (length-take, length-drop) (omega arith) in
    let bounded : (i : ℕ) → i < length eight → get_or eight i 0 < 256 = λ i lt.
    let inside : i < 8 = omega (arith, long, lt) in
    let same : get_or eight i 0 ≡ get_or octets (at + i) 0 = get_or-take 8 (drop at octets) i 0 inside ∙ get_or-drop at octets i 0 in
    omega (arith, same, small (at + i)) in
    let value : little eight ≡ word_in octets at = little_sum eight bounded ∙ sum_of_eight eight long in
    ap (after_octets remainder) (take-add at 8 octets) ∙ after_octets-append remainder (take at octets) eight
    ∙ after_little (after_octets remainder (take at octets)) eight
    ∙ (λ i. after_bits (8 * long i) (bit_xor (after_octets remainder (take at octets)) (value i)))

-- four numbers, added
abbrev pub sum_of_four : ℕ → ℕ → ℕ → ℕ → ℕ
sum_of_four a b c d = bit_xor (bit_xor a b) (bit_xor c d)

sum_of_four-xor : (a b c d a' b' c' d' : ℕ) → sum_of_four (bit_xor a a') (bit_xor b b') (bit_xor c c') (bit_xor d d') ≡ bit_xor (sum_of_four a b c d) (sum_of_four a' b' c' d')
sum_of_four-xor a b c d a' b' c' d' =
    (λ i. bit_xor (swap_inner a a' b b' i) (swap_inner c c' d d' i)) ∙ swap_inner (bit_xor a b) (bit_xor a' b') (bit_xor c d) (bit_xor c' d')

-- the steps that are left at each of four words
abbrev pub in_lanes : ℕ → ℕ → ℕ → ℕ → ℕ
in_lanes a b c d = sum_of_four (after_bits 256 a) (after_bits 192 b) (after_bits 128 c) (after_bits 64 d)

in_lanes-xor : (a b c d a' b' c' d' : ℕ) → in_lanes (bit_xor a a') (bit_xor b b') (bit_xor c c') (bit_xor d d') ≡ bit_xor (in_lanes a b c d) (in_lanes a' b' c' d')
in_lanes-xor a b c d a' b' c' d' =
    (λ i. sum_of_four (after_bits-xor 256 a a' i) (after_bits-xor 192 b b' i) (after_bits-xor 128 c c' i) (after_bits-xor 64 d d' i))
    ∙ sum_of_four-xor (after_bits 256 a) (after_bits 192 b) (after_bits 128 c) (after_bits 64 d) (after_bits 256 a') (after_bits 192 b') (after_bits 128 c') (after_bits 64 d')

-- four words, one behind the other
abbrev pub four_words : ℕ → ℕ → ℕ → ℕ → ℕ
four_words p q s t = after_bits 64 (bit_xor (after_bits 64 (bit_xor (after_bits 64 (bit_xor (after_bits 64 p) q)) s)) t)

pub four_words-apart : (p q s t : ℕ) → four_words p q s t ≡ in_lanes p q s t
four_words-apart p q s t =
    let two : after_bits 64 (bit_xor (after_bits 64 p) q) ≡ bit_xor (after_bits 128 p) (after_bits 64 q) =
    after_bits-xor 64 (after_bits 64 p) q ∙ ap (λ x. bit_xor x (after_bits 64 q)) (sym (after_bits-add 64 64 p)) in
    let three : after_bits 64 (bit_xor (bit_xor (after_bits 128 p) (after_bits 64 q)) s) ≡ bit_xor (bit_xor (after_bits 192 p) (after_bits 128 q)) (after_bits 64 s) =
    after_bits-xor 64 (bit_xor (after_bits 128 p) (after_bits 64 q)) s
    ∙ ap (λ x. bit_xor x (after_bits 64 s)) (after_bits-xor 64 (after_bits 128 p) (after_bits 64 q) ∙ (λ i. bit_xor (sym (after_bits-add 128 64 p) i) (sym (after_bits-add 64 64 q) i))) in
    let four : after_bits 64 (bit_xor (bit_xor (bit_xor (after_bits 192 p) (after_bits 128 q)) (after_bits 64 s)) t) ≡ bit_xor (bit_xor (bit_xor (after_bits 256 p) (after_bits 192 q)) (after_bits 128 s)) (after_bits 64 t) =
    after_bits-xor 64 (bit_xor (bit_xor (after_bits 192 p) (after_bits 128 q)) (after_bits 64 s)) t
    ∙ ap (λ x. bit_xor x (after_bits 64 t)) (after_bits-xor 64 (bit_xor (after_bits 192 p) (after_bits 128 q)) (after_bits 64 s)
    ∙ (λ i. bit_xor (after_bits-xor 64 (after_bits 192 p) (after_bits 128 q) i) (sym (after_bits-add 64 64 s) i))
    ∙ (λ i. bit_xor (bit_xor (sym (after_bits-add 192 64 p) i) (sym (after_bits-add 128 64 q) i)) (after_bits 128 s))) in
    ap (λ x. after_bits 64 (bit_xor (after_bits 64 (bit_xor x s)) t)) two
    ∙ ap (λ x. after_bits 64 (bit_xor x t)) three ∙ four
    ∙ xor_assoc (bit_xor (after_bits 256 p) (after_bits 192 q)) (after_bits 128 s) (after_bits 64 t)

-- four lanes stand for one remainder: what 32 octets more make of both is the same
pub record StandFor (a b c d remainder : ℕ) : Type 0 where
  pub same : in_lanes a b c d ≡ after_bits 256 remainder

pub stands_alone : (remainder : ℕ) → StandFor remainder 0 0 0 remainder
stands_alone remainder = record {
  same =
      (λ i. sum_of_four (after_bits 256 remainder) (after_bits-zero 192 i) (after_bits-zero 128 i) (after_bits-zero 64 i))
      ∙ xor_zero_r (bit_xor (after_bits 256 remainder) 0) ∙ xor_zero_r (after_bits 256 remainder);
}

-- 32 octets more
abbrev pub next_turn : ℕ → ℕ → ℕ → ℕ → ℕ → ℕ
next_turn remainder w x y z = four_words (bit_xor remainder w) x y z

turn_apart : (remainder w x y z : ℕ) → next_turn remainder w x y z ≡ bit_xor (after_bits 256 remainder) (in_lanes w x y z)
turn_apart remainder w x y z =
    four_words-apart (bit_xor remainder w) x y z
    ∙ ap (λ v. sum_of_four v (after_bits 192 x) (after_bits 128 y) (after_bits 64 z)) (after_bits-xor 256 remainder w)
    ∙ ap (λ v. bit_xor v (bit_xor (after_bits 128 y) (after_bits 64 z))) (xor_assoc (after_bits 256 remainder) (after_bits 256 w) (after_bits 192 x))
    ∙ xor_assoc (after_bits 256 remainder) (bit_xor (after_bits 256 w) (after_bits 192 x)) (bit_xor (after_bits 128 y) (after_bits 64 z))

lanes_turn : (a b c d remainder w x y z : ℕ) → StandFor a b c d remainder → in_lanes (bit_xor a w) (bit_xor b x) (bit_xor c y) (bit_xor d z) ≡ next_turn remainder w x y z
lanes_turn a b c d remainder w x y z stand =
    in_lanes-xor a b c d w x y z ∙ ap (λ v. bit_xor v (in_lanes w x y z)) stand.same ∙ sym (turn_apart remainder w x y z)

pub stand_on : (a b c d remainder w x y z : ℕ) → StandFor a b c d remainder
    → StandFor (after_bits 256 (bit_xor a w)) (after_bits 256 (bit_xor b x)) (after_bits 256 (bit_xor c y)) (after_bits 256 (bit_xor d z)) (next_turn remainder w x y z)
stand_on a b c d remainder w x y z stand = record {
  same =
      (λ i. sum_of_four (after_bits 256 (after_bits 256 (bit_xor a w))) (after_bits-swap 192 256 (bit_xor b x) i) (after_bits-swap 128 256 (bit_xor c y) i) (after_bits-swap 64 256 (bit_xor d z) i))
      ∙ sym (after_bits-xor 256 (bit_xor (after_bits 256 (bit_xor a w)) (after_bits 192 (bit_xor b x))) (bit_xor (after_bits 128 (bit_xor c y)) (after_bits 64 (bit_xor d z)))
      ∙ (λ i. bit_xor (after_bits-xor 256 (after_bits 256 (bit_xor a w)) (after_bits 192 (bit_xor b x)) i) (after_bits-xor 256 (after_bits 128 (bit_xor c y)) (after_bits 64 (bit_xor d z)) i)))
      ∙ ap (after_bits 256) (lanes_turn a b c d remainder w x y z stand);
}

-- the lanes come together over the last 32 octets
pub come_together : (a b c d remainder w x y z : ℕ) → StandFor a b c d remainder → four_words (bit_xor a w) (bit_xor b x) (bit_xor c y) (bit_xor d z) ≡ next_turn remainder w x y z
come_together a b c d remainder w x y z stand =
    four_words-apart (bit_xor a w) (bit_xor b x) (bit_xor c y) (bit_xor d z) ∙ lanes_turn a b c d remainder w x y z stand

-- four words more
pub one_turn : (remainder : ℕ) (octets : List ℕ) (at : ℕ) → at + 32 ≤ length octets → ((i : ℕ) → get_or octets i 0 < 256)
    → after_octets remainder (take (at + 32) octets)
    ≡ next_turn (after_octets remainder (take at octets)) (word_in octets at) (word_in octets (at + 8)) (word_in octets (at + 16)) (word_in octets (at + 24))
one_turn remainder octets at room small =
    let w1 = one_word remainder octets at (omega arith) small in
    let w2 = one_word remainder octets (at + 8) (omega arith) small in
    let w3 = one_word remainder octets (at + 16) (omega arith) small in
    let w4 = one_word remainder octets (at + 24) (omega arith) small in
    let e2 : at + 8 + 8 ≡ at + 16 = omega arith in
    let e3 : at + 16 + 8 ≡ at + 24 = omega arith in
    let e4 : at + 24 + 8 ≡ at + 32 = omega arith in
    let after : ℕ → ℕ = λ n. after_octets remainder (take n octets) in
    ap after (sym e4) ∙ w4
    ∙ ap (λ r. after_bits 64 (bit_xor r (word_in octets (at + 24)))) (ap after (sym e3) ∙ w3
    ∙ ap (λ r. after_bits 64 (bit_xor r (word_in octets (at + 16)))) (ap after (sym e2) ∙ w2
    ∙ ap (λ r. after_bits 64 (bit_xor r (word_in octets (at + 8)))) w1))
