-- The remainder stays while octets are folded away.
use Rattle.std.proofs.Common.{◌≡◌, ℕ, ◌+◌, ◌-◌, ◌*◌, ◌/◌, ◌%◌, ◌^◌, ◌<◌, ◌≤◌, zero, suc, List, [], ◌∷◌, ◌++◌, drop, length, get_or, refl, sym, ap, subst, ◌∙◌, arith, bit_xor, length-drop, pow-suc, mul_assoc}
use lib.Bits.{xor_assoc, xor_comm, xor_zero_r, xor_zero_l, xor_block}
use Rattle.std.proofs.lemmas.List.{drop-append-le, drop-drop}
use Rattle.std.proofs.lemmas.Nat.{pow-add}
use Rattle.iw_crc.specs.Crc.{after_bit, after_bits, after_octets}
use Rattle.iw_crc.specs.Fold.{little, sum_of_five, owed_next, owed, remainder_with}
use Rattle.iw_crc.proofs.Linear.{swap_inner, after_bits-xor, after_bits-shifted}
use Rattle.iw_crc.proofs.Words.{after_bits-add, after_bits-zero, after_bits-swap, join, after_little}

-- ---- sums of five

five-xor : (a b c d e a' b' c' d' e' : ℕ) → sum_of_five (bit_xor a a') (bit_xor b b') (bit_xor c c') (bit_xor d d') (bit_xor e e') ≡ bit_xor (sum_of_five a b c d e) (sum_of_five a' b' c' d' e')
five-xor a b c d e a' b' c' d' e' =
    ap (λ x. bit_xor (bit_xor (bit_xor x (bit_xor c c')) (bit_xor d d')) (bit_xor e e')) (swap_inner a a' b b')
    ∙ ap (λ x. bit_xor (bit_xor x (bit_xor d d')) (bit_xor e e')) (swap_inner (bit_xor a b) (bit_xor a' b') c c')
    ∙ ap (λ x. bit_xor x (bit_xor e e')) (swap_inner (bit_xor (bit_xor a b) c) (bit_xor (bit_xor a' b') c') d d')
    ∙ swap_inner (bit_xor (bit_xor (bit_xor a b) c) d) (bit_xor (bit_xor (bit_xor a' b') c') d') e e'

after_bits-five : (n a b c d e : ℕ) → after_bits n (sum_of_five a b c d e) ≡ sum_of_five (after_bits n a) (after_bits n b) (after_bits n c) (after_bits n d) (after_bits n e)
after_bits-five n a b c d e =
    after_bits-xor n (bit_xor (bit_xor (bit_xor a b) c) d) e
    ∙ ap (λ x. bit_xor x (after_bits n e)) (after_bits-xor n (bit_xor (bit_xor a b) c) d
    ∙ ap (λ x. bit_xor x (after_bits n d)) (after_bits-xor n (bit_xor a b) c ∙ ap (λ x. bit_xor x (after_bits n c)) (after_bits-xor n a b)))

pub shifted-xor : (a b : ℕ) → bit_xor (a * 2 ^ 8) (b * 2 ^ 8) ≡ bit_xor a b * 2 ^ 8
shifted-xor a b =
    let left : a * 2 ^ 8 ≡ a * 2 ^ 8 + 0 = omega arith in
    let right : b * 2 ^ 8 ≡ b * 2 ^ 8 + 0 = omega arith in
    let none : bit_xor a b * 2 ^ 8 + 0 ≡ bit_xor a b * 2 ^ 8 = omega arith in
    let zero_small : 0 < 2 ^ 8 = omega arith in
    (λ i. bit_xor (left i) (right i)) ∙ xor_block 8 a b 0 0 zero_small zero_small ∙ none

five-shifted : (a b c d e : ℕ) → sum_of_five (a * 2 ^ 8) (b * 2 ^ 8) (c * 2 ^ 8) (d * 2 ^ 8) (e * 2 ^ 8) ≡ sum_of_five a b c d e * 2 ^ 8
five-shifted a b c d e =
    ap (λ x. bit_xor (bit_xor (bit_xor x (c * 2 ^ 8)) (d * 2 ^ 8)) (e * 2 ^ 8)) (shifted-xor a b)
    ∙ ap (λ x. bit_xor (bit_xor x (d * 2 ^ 8)) (e * 2 ^ 8)) (shifted-xor (bit_xor a b) c)
    ∙ ap (λ x. bit_xor x (e * 2 ^ 8)) (shifted-xor (bit_xor (bit_xor a b) c) d)
    ∙ shifted-xor (bit_xor (bit_xor (bit_xor a b) c) d) e

-- ---- the one computed fact, and what follows from it

-- 2,320 steps make of a number what the five sparse runs of steps make of it together
record Vanishes (number : ℕ) : Type 0 where
  same : after_bits 2320 number ≡ sum_of_five number (after_bits 256 number) (after_bits 856 number) (after_bits 904 number) (after_bits 1088 number)

vanishes_one : Vanishes 1
unfolding after_bits after_bit
vanishes_one = record { same = refl }

vanishes_zero : Vanishes 0
vanishes_zero = record {
  same = after_bits-zero 2320 ∙ sym (λ i. sum_of_five 0 (after_bits-zero 256 i) (after_bits-zero 856 i) (after_bits-zero 904 i) (after_bits-zero 1088 i));
}

vanishes_sum : (a b : ℕ) → Vanishes a → Vanishes b → Vanishes (bit_xor a b)
vanishes_sum a b va vb = record {
  same =
      after_bits-xor 2320 a b ∙ (λ i. bit_xor (va.same i) (vb.same i))
      ∙ sym ((λ i. sum_of_five (bit_xor a b) (after_bits-xor 256 a b i) (after_bits-xor 856 a b i) (after_bits-xor 904 a b i) (after_bits-xor 1088 a b i))
      ∙ five-xor a (after_bits 256 a) (after_bits 856 a) (after_bits 904 a) (after_bits 1088 a) b (after_bits 256 b) (after_bits 856 b) (after_bits 904 b) (after_bits 1088 b));
}

vanishes_after : (n a : ℕ) → Vanishes a → Vanishes (after_bits n a)
vanishes_after n a v = record {
  same =
      after_bits-swap 2320 n a ∙ ap (after_bits n) v.same
      ∙ after_bits-five n a (after_bits 256 a) (after_bits 856 a) (after_bits 904 a) (after_bits 1088 a)
      ∙ (λ i. sum_of_five (after_bits n a) (after_bits-swap n 256 a i) (after_bits-swap n 856 a i) (after_bits-swap n 904 a i) (after_bits-swap n 1088 a i));
}

vanishes_bit : (bit : ℕ) → bit < 2 → Vanishes bit
vanishes_bit zero small = vanishes_zero
vanishes_bit (suc zero) small = vanishes_one
vanishes_bit (suc (suc bit)) small = absurd (omega arith)

-- once all bits of a number have gone out
vanishes_bits : (n a : ℕ) → a < 2 ^ n → Vanishes (after_bits n a)
unfolding after_bits
vanishes_bits zero a small =
    let none : 0 ≡ a = omega arith in
    subst Vanishes none vanishes_zero
vanishes_bits (suc n) a small =
    let bit : a % 2 < 2 = omega arith in
    let whole : a ≡ a / 2 * 2 ^ 1 + a % 2 = omega arith in
    let count : suc n ≡ 1 + n = omega arith in
    let double : 2 ^ suc n ≡ 2 ^ n * 2 = pow-suc 2 n in
    let half : a / 2 < 2 ^ n = omega (arith, double) in
    subst Vanishes (sym ((λ i. after_bits (count i) (whole i)) ∙ join 1 n (a % 2) (a / 2) bit))
    (vanishes_sum (after_bits (1 + n) (a % 2)) (after_bits n (a / 2)) (vanishes_after (1 + n) (a % 2) (vanishes_bit (a % 2) bit)) (vanishes_bits n (a / 2) half))

-- an octet whose bits went out 290 octets ago is what its five additions make
octet_vanishes : (more octet : ℕ) → octet < 256
    → after_bits (8 * (291 + more)) octet
    ≡ sum_of_five (after_bits (8 * (1 + more)) octet) (after_bits (8 * (33 + more)) octet) (after_bits (8 * (108 + more)) octet) (after_bits (8 * (114 + more)) octet) (after_bits (8 * (137 + more)) octet)
unfolding after_bits
octet_vanishes more octet small =
    let v = vanishes_bits 8 octet small in
    let steps : (m n k : ℕ) → n ≡ 8 + (m + 8 * more) → k ≡ n → after_bits (8 * more) (after_bits m (after_bits 8 octet)) ≡ after_bits k octet = λ m n k e f.
    sym (after_bits-add m (8 * more) (after_bits 8 octet)) ∙ sym (after_bits-add 8 (m + 8 * more) octet) ∙ ap (λ c. after_bits c octet) (sym e ∙ sym f) in
    sym (steps 2320 (8 * (291 + more)) (8 * (291 + more)) (omega arith) refl)
    ∙ ap (after_bits (8 * more)) v.same
    ∙ after_bits-five (8 * more) (after_bits 8 octet) (after_bits 256 (after_bits 8 octet)) (after_bits 856 (after_bits 8 octet)) (after_bits 904 (after_bits 8 octet)) (after_bits 1088 (after_bits 8 octet))
    ∙ (λ i. sum_of_five
    (steps 0 (8 * (1 + more)) (8 * (1 + more)) (omega arith) refl i)
    (steps 256 (8 * (33 + more)) (8 * (33 + more)) (omega arith) refl i)
    (steps 856 (8 * (108 + more)) (8 * (108 + more)) (omega arith) refl i)
    (steps 904 (8 * (114 + more)) (8 * (114 + more)) (omega arith) refl i)
    (steps 1088 (8 * (137 + more)) (8 * (137 + more)) (omega arith) refl i))

-- ---- octets as numbers

pub little_next : (xs : List ℕ) (at : ℕ) → little (drop at xs) ≡ bit_xor (little (drop (suc at) xs) * 2 ^ 8) (get_or xs at 0)
little_next [] zero = refl
little_next [] (suc at) = refl
little_next (x ∷ xs) zero = refl
little_next (x ∷ xs) (suc at) = little_next xs at

little_push : (xs : List ℕ) (x : ℕ) → little (xs ++ x ∷ []) ≡ bit_xor (little xs) (x * 2 ^ (8 * length xs))
little_push [] x =
    let one : x * 2 ^ 0 ≡ x = omega arith in
    xor_zero_l x ∙ sym (xor_zero_l (x * 2 ^ 0) ∙ one)
little_push (y ∷ ys) x =
    let n : ℕ = 8 * length ys in
    let count : 8 * suc (length ys) ≡ n + 8 = omega arith in
    let moved : x * 2 ^ n * 2 ^ 8 ≡ x * 2 ^ (8 * suc (length ys)) = mul_assoc x (2 ^ n) (2 ^ 8) ∙ ap (λ p. x * p) (sym (pow-add 2 n 8) ∙ ap (λ m. 2 ^ m) (sym count)) in
    ap (λ r. bit_xor (r * 2 ^ 8) y) (little_push ys x)
    ∙ ap (λ r. bit_xor r y) (sym (shifted-xor (little ys) (x * 2 ^ n)))
    ∙ xor_assoc (little ys * 2 ^ 8) (x * 2 ^ n * 2 ^ 8) y
    ∙ ap (bit_xor (little ys * 2 ^ 8)) (xor_comm (x * 2 ^ n * 2 ^ 8) y)
    ∙ sym (xor_assoc (little ys * 2 ^ 8) y (x * 2 ^ n * 2 ^ 8))
    ∙ ap (bit_xor (bit_xor (little ys * 2 ^ 8) y)) moved

-- a number of octets is told by its octets, and zeros behind them say nothing
pub little_same : (xs ys : List ℕ) → ((i : ℕ) → get_or xs i 0 ≡ get_or ys i 0) → little xs ≡ little ys
little_same [] [] same = refl
little_same [] (y ∷ ys) same = (λ i. bit_xor (little_same [] ys (λ k. same (suc k)) i * 2 ^ 8) (same 0 i))
little_same (x ∷ xs) [] same = (λ i. bit_xor (little_same xs [] (λ k. same (suc k)) i * 2 ^ 8) (same 0 i))
little_same (x ∷ xs) (y ∷ ys) same = (λ i. bit_xor (little_same xs ys (λ k. same (suc k)) i * 2 ^ 8) (same 0 i))

-- ---- windows

-- a window is what it adds to the next octet, and what its rest adds behind
owed_shift : (w : List ℕ) → owed w ≡ bit_xor (owed (drop 1 w) * 2 ^ 8) (owed_next w)
owed_shift w =
    let at : (d : ℕ) → little (drop d w) ≡ bit_xor (little (drop d (drop 1 w)) * 2 ^ 8) (get_or w d 0) = λ d.
    let e : suc d ≡ 1 + d = omega arith in
    little_next w d ∙ ap (λ l. bit_xor (little l * 2 ^ 8) (get_or w d 0)) (ap (λ k. drop k w) e ∙ sym (drop-drop d 1 w)) in
    let rest : ℕ → ℕ = λ d. little (drop d (drop 1 w)) in
    (λ i. sum_of_five (at 0 i) (at 32 i) (at 107 i) (at 113 i) (at 136 i))
    ∙ five-xor (rest 0 * 2 ^ 8) (rest 32 * 2 ^ 8) (rest 107 * 2 ^ 8) (rest 113 * 2 ^ 8) (rest 136 * 2 ^ 8) (get_or w 0 0) (get_or w 32 0) (get_or w 107 0) (get_or w 113 0) (get_or w 136 0)
    ∙ ap (λ r. bit_xor r (owed_next w)) (five-shifted (rest 0) (rest 32) (rest 107) (rest 113) (rest 136))

-- an octet more in a window
owed_push : (u : List ℕ) (x : ℕ) → length u ≡ 289
    → owed (u ++ x ∷ []) ≡ bit_xor (owed u) (sum_of_five (x * 2 ^ (8 * 289)) (x * 2 ^ (8 * 257)) (x * 2 ^ (8 * 182)) (x * 2 ^ (8 * 176)) (x * 2 ^ (8 * 153)))
owed_push u x long =
    let at : (d k : ℕ) → d + k ≡ 289 → little (drop d (u ++ x ∷ [])) ≡ bit_xor (little (drop d u)) (x * 2 ^ (8 * k)) = λ d k e.
    let inside : d ≤ length u = omega (arith, long, e) in
    let left : length (drop d u) ≡ k = length-drop d u ∙ omega (arith, long, e) in
    ap little (drop-append-le d u (x ∷ []) inside) ∙ little_push (drop d u) x ∙ ap (λ m. bit_xor (little (drop d u)) (x * 2 ^ (8 * m))) left in
    let part : ℕ → ℕ = λ d. little (drop d u) in
    (λ i. sum_of_five (at 0 289 refl i) (at 32 257 refl i) (at 107 182 refl i) (at 113 176 refl i) (at 136 153 refl i))
    ∙ five-xor (part 0) (part 32) (part 107) (part 113) (part 136) (x * 2 ^ (8 * 289)) (x * 2 ^ (8 * 257)) (x * 2 ^ (8 * 182)) (x * 2 ^ (8 * 176)) (x * 2 ^ (8 * 153))

-- steps on an octet that stands k octets on
stands_on : (m k n octet : ℕ) → n ≡ k + m → after_bits (8 * n) (octet * 2 ^ (8 * k)) ≡ after_bits (8 * m) octet
stands_on m k n octet e =
    let count : 8 * n ≡ 8 * k + 8 * m = omega (arith, e) in
    ap (λ c. after_bits c (octet * 2 ^ (8 * k))) count ∙ after_bits-add (8 * k) (8 * m) (octet * 2 ^ (8 * k)) ∙ ap (after_bits (8 * m)) (after_bits-shifted (8 * k) octet)

-- an octet is folded into the window
pub folds_one : (w : List ℕ) (x : ℕ) (beyond : List ℕ) → length w ≡ 290 → bit_xor x (owed_next w) < 256 → 290 ≤ length beyond
    → remainder_with w (x ∷ beyond) ≡ remainder_with (drop 1 w ++ bit_xor x (owed_next w) ∷ []) beyond
unfolding remainder_with
folds_one w x beyond long small enough =
    let octet : ℕ = bit_xor x (owed_next w) in
    let u = drop 1 w in
    let n : ℕ = length beyond in
    let more : ℕ = n - 290 in
    let rest : ℕ = bit_xor (little beyond) (owed u) in
    let short : length u ≡ 289 = length-drop 1 w ∙ omega (arith, long) in
    let count : 8 * suc n ≡ 8 + 8 * n = omega arith in
    let far : 8 + 8 * n ≡ 8 * (291 + more) = omega (arith, enough) in
    let five = sum_of_five (octet * 2 ^ (8 * 289)) (octet * 2 ^ (8 * 257)) (octet * 2 ^ (8 * 182)) (octet * 2 ^ (8 * 176)) (octet * 2 ^ (8 * 153)) in
    let number : bit_xor (little (x ∷ beyond)) (owed w) ≡ bit_xor (rest * 2 ^ 8) octet =
    ap (bit_xor (little (x ∷ beyond))) (owed_shift w)
    ∙ swap_inner (little beyond * 2 ^ 8) x (owed u * 2 ^ 8) (owed_next w)
    ∙ ap (λ r. bit_xor r octet) (shifted-xor (little beyond) (owed u)) in
    let left : after_bits (8 + 8 * n) (bit_xor (rest * 2 ^ 8) octet) ≡ bit_xor (after_bits (8 * n) rest) (after_bits (8 * (291 + more)) octet) =
    after_bits-xor (8 + 8 * n) (rest * 2 ^ 8) octet
    ∙ (λ i. bit_xor (let s : after_bits (8 + 8 * n) (rest * 2 ^ 8) ≡ after_bits (8 * n) rest = after_bits-add 8 (8 * n) (rest * 2 ^ 8) ∙ ap (after_bits (8 * n)) (after_bits-shifted 8 rest) in s i) (after_bits (far i) octet)) in
    let right : after_bits (8 * n) five ≡ after_bits (8 * (291 + more)) octet =
    after_bits-five (8 * n) (octet * 2 ^ (8 * 289)) (octet * 2 ^ (8 * 257)) (octet * 2 ^ (8 * 182)) (octet * 2 ^ (8 * 176)) (octet * 2 ^ (8 * 153))
    ∙ (λ i. sum_of_five
    (stands_on (1 + more) 289 n octet (omega (arith, enough)) i)
    (stands_on (33 + more) 257 n octet (omega (arith, enough)) i)
    (stands_on (108 + more) 182 n octet (omega (arith, enough)) i)
    (stands_on (114 + more) 176 n octet (omega (arith, enough)) i)
    (stands_on (137 + more) 153 n octet (omega (arith, enough)) i))
    ∙ sym (octet_vanishes more octet small) in
    (λ i. after_bits (count i) (number i)) ∙ left
    ∙ ap (bit_xor (after_bits (8 * n) rest)) (sym right) ∙ sym (after_bits-xor (8 * n) rest five)
    ∙ ap (after_bits (8 * n)) (xor_assoc (little beyond) (owed u) five ∙ ap (bit_xor (little beyond)) (sym (owed_push u octet short)))

-- the octets that are left, with what the window adds to them
settled : (xs w ys : List ℕ) → length ys ≡ length xs → length w ≤ length xs → ((i : ℕ) → i < length xs → get_or ys i 0 ≡ bit_xor (get_or xs i 0) (owed_next (drop i w)))
    → little ys ≡ bit_xor (little xs) (owed w)
settled [] [] [] same short each = refl
settled [] [] (y ∷ ys) same short each = absurd (omega arith)
settled [] (v ∷ w) ys same short each = absurd (omega arith)
settled (x ∷ xs) w [] same short each = absurd (omega arith)
settled (x ∷ xs) w (y ∷ ys) same short each =
    let shorter : length (drop 1 w) ≤ length xs = omega (arith, length-drop 1 w, short) in
    let tails : length ys ≡ length xs = omega arith in
    let later : (i : ℕ) → i < length xs → get_or ys i 0 ≡ bit_xor (get_or xs i 0) (owed_next (drop i (drop 1 w))) = λ i lt.
    let e : suc i ≡ 1 + i = omega arith in
    each (suc i) (omega arith) ∙ ap (λ l. bit_xor (get_or xs i 0) (owed_next l)) (ap (λ k. drop k w) e ∙ sym (drop-drop i 1 w)) in
    (λ i. bit_xor (settled xs (drop 1 w) ys tails shorter later i * 2 ^ 8) (each 0 (omega arith) i))
    ∙ ap (λ r. bit_xor r (bit_xor x (owed_next w))) (sym (shifted-xor (little xs) (owed (drop 1 w))))
    ∙ swap_inner (little xs * 2 ^ 8) (owed (drop 1 w) * 2 ^ 8) x (owed_next w)
    ∙ ap (bit_xor (bit_xor (little xs * 2 ^ 8) x)) (sym (owed_shift w))

pub remainder_settled : (xs w ys : List ℕ) → length ys ≡ length xs → length w ≤ length xs → ((i : ℕ) → i < length xs → get_or ys i 0 ≡ bit_xor (get_or xs i 0) (owed_next (drop i w)))
    → after_octets 0 ys ≡ remainder_with w xs
unfolding remainder_with
remainder_settled xs w ys same short each =
    after_little 0 ys ∙ (λ i. after_bits (8 * same i) (let e : bit_xor 0 (little ys) ≡ bit_xor (little xs) (owed w) = xor_zero_l (little ys) ∙ settled xs w ys same short each in e i))

-- a window that adds a remainder to the first four octets
pub remainder_starts : (remainder : ℕ) (w xs : List ℕ) → little w ≡ remainder → ((d : ℕ) → 4 ≤ d → little (drop d w) ≡ 0) → remainder_with w xs ≡ after_octets remainder xs
unfolding remainder_with
remainder_starts remainder w xs first none =
    let all : owed w ≡ remainder =
    (λ i. sum_of_five (first i) (none 32 (omega arith) i) (none 107 (omega arith) i) (none 113 (omega arith) i) (none 136 (omega arith) i))
    ∙ xor_zero_r (bit_xor (bit_xor (bit_xor remainder 0) 0) 0) ∙ xor_zero_r (bit_xor (bit_xor remainder 0) 0) ∙ xor_zero_r (bit_xor remainder 0) ∙ xor_zero_r remainder in
    ap (after_bits (8 * length xs)) (ap (bit_xor (little xs)) all ∙ xor_comm (little xs) remainder) ∙ sym (after_little remainder xs)
