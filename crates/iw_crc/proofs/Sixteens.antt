-- Octets that are folded away sixteen at a time.
use Rattle.std.proofs.Common.{◌≡◌, ℕ, ◌+◌, ◌-◌, ◌*◌, ◌/◌, ◌^◌, ◌<◌, ◌≤◌, zero, suc, Bool, true, ◌&&◌, eqb, List, [], ◌∷◌, ◌++◌, map, take, drop, length, get_or, replicate, refl, sym, ap, subst, ◌∙◌, arith, bit_xor, bit_and, length-append, append_assoc, w8, Fits, inl, inr, mul_assoc}
use lib.Bits.{xor_assoc, xor_comm, xor_zero_r, xor_zero_l, xor_block}
use lib.Lanes.{zip2, chunk, Each1}
use Rattle.std.proofs.lemmas.Bool.{cases_lt}
use Rattle.std.proofs.lemmas.Bool.Decides.{nat_tests}
use Rattle.std.proofs.lemmas.List.{get_or-map, length-map, ext_get_or}
use Rattle.std.proofs.lemmas.Nat.{and_le_r, pow-add, xor_lt}
use Rattle.std.proofs.lemmas.Simd.{Each1-all, Each1-weaker, Each1-zip2, Each2-splat, below_from_Fits, length-zip2, swz_l, SwzOk, SwzOk-from_below, length-swz_l, get_or-swz_l_below, length-chunk, get_or-chunk, get_or-zip2}
use Rattle.iw_crc.specs.Crc.{after_bit, after_bits, after_octets}
use Rattle.iw_crc.specs.Fold.{little}
use Rattle.std.specs.Int.{w32, to_le_bytes}
use Rattle.std.proofs.Math.Seq.{take-add}
use Rattle.std.proofs.lemmas.List.{drop-drop}
use Rattle.iw_crc.specs.Lanes.{moved}
use Rattle.iw_crc.specs.declared.lanes.TheConstants.{LOW_16, HIGH_16, LOW_32, HIGH_32, LOW_64, HIGH_64, LOW_96, HIGH_96}
use Rattle.iw_crc.proofs.Linear.{swap_inner, after_bits-xor, after_bits-shifted}
use Rattle.iw_crc.proofs.Folds.{shifted-xor}
use Rattle.iw_crc.proofs.FoldSteps.{little_of_four}
use Rattle.iw_crc.proofs.Words.{after_bits-add, after_bits-zero, after_little}

-- ---- look-ups

abbrev pub IsVector : List ℕ → Type 0
IsVector v = (length v ≡ 16) × Each1 (Fits w8) v

pub lane_fits : (v : List ℕ) (i : ℕ) → Each1 (Fits w8) v → get_or v i 0 < 256
lane_fits [] i h = omega arith
lane_fits (x ∷ xs) zero h = h.0.fits
lane_fits (x ∷ xs) (suc i) h = lane_fits xs i h.1

abbrev pub down : ℕ → ℕ → ℕ
down a b = a / 2 ^ b

pub high_ok : (v : List ℕ) → IsVector v → SwzOk w8 16 16 0 (zip2 down v (replicate 16 4))
high_ok v fits =
    let small = Each1-weaker (λ a. a < 256) (λ a. a / 16 < 16) (λ a h. omega arith) v (below_from_Fits w8 v fits.1) in
    SwzOk-from_below w8 16 1 16 0 (zip2 down v (replicate 16 4)) refl (omega (arith, length-zip2 down v (replicate 16 4) fits.0))
    (Each1-zip2 down (λ j. j < 16) v (replicate 16 4) (Each2-splat (λ a b. down a b < 16) v 16 4 small))

pub low_ok : (v : List ℕ) → IsVector v → SwzOk w8 16 16 0 (zip2 bit_and v (replicate 16 15))
low_ok v fits =
    let small = Each1-all (λ a. bit_and a 15 < 16) (λ a. omega (arith, and_le_r a 15)) v in
    SwzOk-from_below w8 16 1 16 0 (zip2 bit_and v (replicate 16 15)) refl (omega (arith, length-zip2 bit_and v (replicate 16 15) fits.0))
    (Each1-zip2 bit_and (λ j. j < 16) v (replicate 16 15) (Each2-splat (λ a b. bit_and a b < 16) v 16 15 small))

-- a table that is read at places g x below 16
pub looked_up : (t : List ℕ) (g : ℕ → ℕ) (v js : List ℕ) → IsVector v → js ≡ map g v → ((x : ℕ) → x < 256 → g x < 16) → swz_l w8 16 t 0 js ≡ map (λ x. get_or t (g x) 0) v
looked_up t g v js fits e small =
    let long : length js ≡ 16 = ap length e ∙ length-map v g ∙ fits.0 in
    ext_get_or 0 _ _ (length-swz_l w8 16 t 0 js ∙ long ∙ sym (length-map v (λ x. get_or t (g x) 0) ∙ fits.0)) (λ i h.
    let lt : i < 16 = omega (arith, length-swz_l w8 16 t 0 js) in
    let within : i < length v = omega (arith, fits.0) in
    let is : get_or js i 0 ≡ g (get_or v i 0) = ap (λ l. get_or l i 0) e ∙ get_or-map g v i 0 0 within in
    let below : get_or js i 0 < 16 = omega (arith, small (get_or v i 0) (lane_fits v i fits.1)) in
    get_or-swz_l_below w8 16 t 0 js i (omega arith) below
    ∙ ap (λ k. get_or t k 0) (let front : 16 * ((0 + i) / 16) + get_or js i 0 ≡ get_or js i 0 = omega arith in front ∙ is)
    ∙ sym (get_or-map (λ x. get_or t (g x) 0) v i 0 0 within))

-- ---- what an octet is 16, 32, 64 and 96 octets further on, all checked by computing

abbrev at_16 : ℕ → ℕ
at_16 = moved LOW_16 HIGH_16

abbrev at_32 : ℕ → ℕ
at_32 = moved LOW_32 HIGH_32

abbrev at_64 : ℕ → ℕ
at_64 = moved LOW_64 HIGH_64

abbrev at_96 : ℕ → ℕ
at_96 = moved LOW_96 HIGH_96

-- six numbers, each of which stands sixteen octets behind the one before
abbrev pub spread : ℕ → ℕ → ℕ → ℕ → ℕ → ℕ → ℕ → ℕ
spread k a b c d e f =
    bit_xor (after_bits (640 + k) a) (bit_xor (after_bits (512 + k) b) (bit_xor (after_bits (384 + k) c) (bit_xor (after_bits (256 + k) d) (bit_xor (after_bits (128 + k) e) (after_bits k f)))))

abbrev octets_tell : ℕ → Bool
octets_tell zero = true
octets_tell (suc x) = eqb (after_bits 768 x) (spread 0 (at_16 x) (at_32 x) 0 (at_64 x) 0 (at_96 x)) && octets_tell x

all_tell : octets_tell 256 ≡ true
unfolding after_bit after_bits
all_tell = refl

tells : (n x : ℕ) → octets_tell n ≡ true → x < n → after_bits 768 x ≡ spread 0 (at_16 x) (at_32 x) 0 (at_64 x) 0 (at_96 x)
tells zero x h lt = absurd (omega arith)
tells (suc n) x h lt = elim (cases_lt x n) [
  | inl below ↦
      let rest : octets_tell n ≡ true = grind (arith, nat_tests, h) in
      tells n x rest below
  | inr same ↦
      let e : n ≡ x = omega arith in
      let here : after_bits 768 n ≡ spread 0 (at_16 n) (at_32 n) 0 (at_64 n) 0 (at_96 n) = grind (arith, nat_tests, h) in
      coe 0 1 (i. after_bits 768 (e i) ≡ spread 0 (at_16 (e i)) (at_32 (e i)) 0 (at_64 (e i)) 0 (at_96 (e i))) here
]

-- ---- sums of six

-- six sums of two are the sum of two sums of six
six-xor : (a b c d e f a' b' c' d' e' f' : ℕ)
    → bit_xor (bit_xor a a') (bit_xor (bit_xor b b') (bit_xor (bit_xor c c') (bit_xor (bit_xor d d') (bit_xor (bit_xor e e') (bit_xor f f')))))
    ≡ bit_xor (bit_xor a (bit_xor b (bit_xor c (bit_xor d (bit_xor e f))))) (bit_xor a' (bit_xor b' (bit_xor c' (bit_xor d' (bit_xor e' f')))))
six-xor a b c d e f a' b' c' d' e' f' =
    ap (λ x. bit_xor (bit_xor a a') (bit_xor (bit_xor b b') (bit_xor (bit_xor c c') (bit_xor (bit_xor d d') x)))) (swap_inner e e' f f')
    ∙ ap (λ x. bit_xor (bit_xor a a') (bit_xor (bit_xor b b') (bit_xor (bit_xor c c') x))) (swap_inner d d' (bit_xor e f) (bit_xor e' f'))
    ∙ ap (λ x. bit_xor (bit_xor a a') (bit_xor (bit_xor b b') x)) (swap_inner c c' (bit_xor d (bit_xor e f)) (bit_xor d' (bit_xor e' f')))
    ∙ ap (bit_xor (bit_xor a a')) (swap_inner b b' (bit_xor c (bit_xor d (bit_xor e f))) (bit_xor c' (bit_xor d' (bit_xor e' f'))))
    ∙ swap_inner a a' (bit_xor b (bit_xor c (bit_xor d (bit_xor e f)))) (bit_xor b' (bit_xor c' (bit_xor d' (bit_xor e' f'))))

spread-xor : (k a b c d e f a' b' c' d' e' f' : ℕ)
    → spread k (bit_xor a a') (bit_xor b b') (bit_xor c c') (bit_xor d d') (bit_xor e e') (bit_xor f f') ≡ bit_xor (spread k a b c d e f) (spread k a' b' c' d' e' f')
spread-xor k a b c d e f a' b' c' d' e' f' =
    (λ i. bit_xor (after_bits-xor (640 + k) a a' i) (bit_xor (after_bits-xor (512 + k) b b' i) (bit_xor (after_bits-xor (384 + k) c c' i) (bit_xor (after_bits-xor (256 + k) d d' i) (bit_xor (after_bits-xor (128 + k) e e' i) (after_bits-xor k f f' i))))))
    ∙ six-xor (after_bits (640 + k) a) (after_bits (512 + k) b) (after_bits (384 + k) c) (after_bits (256 + k) d) (after_bits (128 + k) e) (after_bits k f)
    (after_bits (640 + k) a') (after_bits (512 + k) b') (after_bits (384 + k) c') (after_bits (256 + k) d') (after_bits (128 + k) e') (after_bits k f')

-- more steps on a sum
spread-after : (k a b c d e f : ℕ) → after_bits k (spread 0 a b c d e f) ≡ spread k a b c d e f
spread-after k a b c d e f =
    let steps : (n x : ℕ) → after_bits k (after_bits (n + 0) x) ≡ after_bits (n + k) x = λ n x.
    ap (λ m. after_bits k (after_bits m x)) (let e : n + 0 ≡ n = omega arith in e) ∙ sym (after_bits-add n k x) in
    let last : after_bits k (after_bits 0 f) ≡ after_bits k f = sym (after_bits-add 0 k f) ∙ ap (λ n. after_bits n f) (let none : 0 + k ≡ k = omega arith in none) in
    let p5 : ℕ = bit_xor (after_bits (128 + 0) e) (after_bits 0 f) in
    let p4 : ℕ = bit_xor (after_bits (256 + 0) d) p5 in
    let p3 : ℕ = bit_xor (after_bits (384 + 0) c) p4 in
    let p2 : ℕ = bit_xor (after_bits (512 + 0) b) p3 in
    after_bits-xor k (after_bits (640 + 0) a) p2
    ∙ (λ i. bit_xor (steps 640 a i) (after_bits-xor k (after_bits (512 + 0) b) p3 i))
    ∙ (λ i. bit_xor (after_bits (640 + k) a) (bit_xor (steps 512 b i) (after_bits-xor k (after_bits (384 + 0) c) p4 i)))
    ∙ (λ i. bit_xor (after_bits (640 + k) a) (bit_xor (after_bits (512 + k) b) (bit_xor (steps 384 c i) (after_bits-xor k (after_bits (256 + 0) d) p5 i))))
    ∙ (λ i. bit_xor (after_bits (640 + k) a) (bit_xor (after_bits (512 + k) b) (bit_xor (after_bits (384 + k) c) (bit_xor (steps 256 d i) (after_bits-xor k (after_bits (128 + 0) e) (after_bits 0 f) i)))))
    ∙ (λ i. bit_xor (after_bits (640 + k) a) (bit_xor (after_bits (512 + k) b) (bit_xor (after_bits (384 + k) c) (bit_xor (after_bits (256 + k) d) (bit_xor (steps 128 e i) (last i))))))

-- an octet with k zero bits and 96 octets of zero behind it
octet_spread : (k x : ℕ) → x < 256 → after_bits (768 + k) x ≡ spread k (at_16 x) (at_32 x) 0 (at_64 x) 0 (at_96 x)
octet_spread k x small =
    after_bits-add 768 k x ∙ ap (after_bits k) (tells 256 x all_tell small) ∙ spread-after k (at_16 x) (at_32 x) 0 (at_64 x) 0 (at_96 x)

-- eight steps on numbers whose low octets are zero
spread-shifted : (k a b c d e f : ℕ) → spread (8 + k) (a * 2 ^ 8) (b * 2 ^ 8) (c * 2 ^ 8) (d * 2 ^ 8) (e * 2 ^ 8) (f * 2 ^ 8) ≡ spread k a b c d e f
spread-shifted k a b c d e f =
    let steps : (n x : ℕ) → after_bits (n + (8 + k)) (x * 2 ^ 8) ≡ after_bits (n + k) x = λ n x.
    ap (λ m. after_bits m (x * 2 ^ 8)) (let e : n + (8 + k) ≡ 8 + (n + k) = omega arith in e) ∙ after_bits-add 8 (n + k) (x * 2 ^ 8) ∙ ap (after_bits (n + k)) (after_bits-shifted 8 x) in
    let last : after_bits (8 + k) (f * 2 ^ 8) ≡ after_bits k f = after_bits-add 8 k (f * 2 ^ 8) ∙ ap (after_bits k) (after_bits-shifted 8 f) in
    λ i. bit_xor (steps 640 a i) (bit_xor (steps 512 b i) (bit_xor (steps 384 c i) (bit_xor (steps 256 d i) (bit_xor (steps 128 e i) (last i)))))

-- octets with at least as many octets of zero behind them, and 96 more
vector_spread : (v : List ℕ) (m : ℕ) → length v ≤ m → ((i : ℕ) → i < length v → get_or v i 0 < 256)
    → after_bits (768 + 8 * m) (little v) ≡ spread (8 * m) (little (map at_16 v)) (little (map at_32 v)) 0 (little (map at_64 v)) 0 (little (map at_96 v))
vector_spread [] m room small =
    let k : ℕ = 8 * m in
    after_bits-zero (768 + k)
    ∙ sym (λ i. bit_xor (after_bits-zero (640 + k) i) (bit_xor (after_bits-zero (512 + k) i) (bit_xor (after_bits-zero (384 + k) i) (bit_xor (after_bits-zero (256 + k) i) (bit_xor (after_bits-zero (128 + k) i) (after_bits-zero k i))))))
vector_spread (x ∷ v) zero room small = absurd (omega arith)
vector_spread (x ∷ v) (suc m) room small =
    let k : ℕ = 8 * m in
    let count : 8 + k ≡ 8 * suc m = omega arith in
    let more : 768 + (8 + k) ≡ 8 + (768 + k) = omega arith in
    let rest : (i : ℕ) → i < length v → get_or v i 0 < 256 = λ i lt. small (suc i) (omega arith) in
    let front : after_bits (768 + (8 + k)) (little v * 2 ^ 8) ≡ after_bits (768 + k) (little v) =
    ap (λ n. after_bits n (little v * 2 ^ 8)) more ∙ after_bits-add 8 (768 + k) (little v * 2 ^ 8) ∙ ap (after_bits (768 + k)) (after_bits-shifted 8 (little v)) in
    let a : ℕ = little (map at_16 v) in
    let b : ℕ = little (map at_32 v) in
    let d : ℕ = little (map at_64 v) in
    let f : ℕ = little (map at_96 v) in
    let whole : after_bits (768 + (8 + k)) (little (x ∷ v)) ≡ spread (8 + k) (little (map at_16 (x ∷ v))) (little (map at_32 (x ∷ v))) 0 (little (map at_64 (x ∷ v))) 0 (little (map at_96 (x ∷ v))) =
    after_bits-xor (768 + (8 + k)) (little v * 2 ^ 8) x
    ∙ (λ i. bit_xor (front i) (octet_spread (8 + k) x (small 0 (omega arith)) i))
    ∙ ap (λ r. bit_xor r (spread (8 + k) (at_16 x) (at_32 x) 0 (at_64 x) 0 (at_96 x))) (vector_spread v m (omega arith) rest ∙ sym (spread-shifted k a b 0 d 0 f))
    ∙ sym (spread-xor (8 + k) (a * 2 ^ 8) (b * 2 ^ 8) 0 (d * 2 ^ 8) 0 (f * 2 ^ 8) (at_16 x) (at_32 x) 0 (at_64 x) 0 (at_96 x)) in
    coe 0 1 (i. after_bits (768 + count i) (little (x ∷ v)) ≡ spread (count i) (little (map at_16 (x ∷ v))) (little (map at_32 (x ∷ v))) 0 (little (map at_64 (x ∷ v))) 0 (little (map at_96 (x ∷ v)))) whole

-- ---- vectors one behind the other

-- a number that stands sixteen octets behind another
abbrev pub behind : ℕ → ℕ → ℕ
behind a b = bit_xor a (b * 2 ^ 128)

abbrev pub six : ℕ → ℕ → ℕ → ℕ → ℕ → ℕ → ℕ
six a b c d e f = behind a (behind b (behind c (behind d (behind e f))))

behind-xor : (a b a' b' : ℕ) → behind (bit_xor a a') (bit_xor b b') ≡ bit_xor (behind a b) (behind a' b')
behind-xor a b a' b' =
    let left : b * 2 ^ 128 ≡ b * 2 ^ 128 + 0 = omega arith in
    let right : b' * 2 ^ 128 ≡ b' * 2 ^ 128 + 0 = omega arith in
    let none : bit_xor b b' * 2 ^ 128 + 0 ≡ bit_xor b b' * 2 ^ 128 = omega arith in
    let zero_small : 0 < 2 ^ 128 = omega arith in
    let shifted : bit_xor (b * 2 ^ 128) (b' * 2 ^ 128) ≡ bit_xor b b' * 2 ^ 128 = (λ i. bit_xor (left i) (right i)) ∙ xor_block 128 b b' 0 0 zero_small zero_small ∙ none in
    ap (bit_xor (bit_xor a a')) (sym shifted) ∙ swap_inner a a' (b * 2 ^ 128) (b' * 2 ^ 128)

after_behind : (n a b : ℕ) → after_bits (128 + n) (behind a b) ≡ bit_xor (after_bits (128 + n) a) (after_bits n b)
after_behind n a b =
    after_bits-xor (128 + n) a (b * 2 ^ 128)
    ∙ ap (bit_xor (after_bits (128 + n) a)) (after_bits-add 128 n (b * 2 ^ 128) ∙ ap (after_bits n) (after_bits-shifted 128 b))

six-xor_behind : (a b c d e f a' b' c' d' e' f' : ℕ)
    → six (bit_xor a a') (bit_xor b b') (bit_xor c c') (bit_xor d d') (bit_xor e e') (bit_xor f f') ≡ bit_xor (six a b c d e f) (six a' b' c' d' e' f')
six-xor_behind a b c d e f a' b' c' d' e' f' =
    ap (λ x. behind (bit_xor a a') (behind (bit_xor b b') (behind (bit_xor c c') (behind (bit_xor d d') x)))) (behind-xor e f e' f')
    ∙ ap (λ x. behind (bit_xor a a') (behind (bit_xor b b') (behind (bit_xor c c') x))) (behind-xor d (behind e f) d' (behind e' f'))
    ∙ ap (λ x. behind (bit_xor a a') (behind (bit_xor b b') x)) (behind-xor c (behind d (behind e f)) c' (behind d' (behind e' f')))
    ∙ ap (behind (bit_xor a a')) (behind-xor b (behind c (behind d (behind e f))) b' (behind c' (behind d' (behind e' f'))))
    ∙ behind-xor a (behind b (behind c (behind d (behind e f)))) a' (behind b' (behind c' (behind d' (behind e' f'))))

after_six : (k a b c d e f : ℕ) → after_bits (640 + k) (six a b c d e f) ≡ spread k a b c d e f
after_six k a b c d e f =
    let step : (m n x y : ℕ) → m ≡ 128 + n → after_bits m (behind x y) ≡ bit_xor (after_bits m x) (after_bits n y) = λ m n x y e.
    coe 1 0 (i. after_bits (e i) (behind x y) ≡ bit_xor (after_bits (e i) x) (after_bits n y)) (after_behind n x y) in
    step (640 + k) (512 + k) a (behind b (behind c (behind d (behind e f)))) (omega arith)
    ∙ ap (bit_xor (after_bits (640 + k) a)) (step (512 + k) (384 + k) b (behind c (behind d (behind e f))) (omega arith)
    ∙ ap (bit_xor (after_bits (512 + k) b)) (step (384 + k) (256 + k) c (behind d (behind e f)) (omega arith)
    ∙ ap (bit_xor (after_bits (384 + k) c)) (step (256 + k) (128 + k) d (behind e f) (omega arith)
    ∙ ap (bit_xor (after_bits (256 + k) d)) (step (128 + k) k e f (omega arith)))))

-- ---- lists as numbers

little-append : (xs ys : List ℕ) → little (xs ++ ys) ≡ bit_xor (little xs) (little ys * 2 ^ (8 * length xs))
little-append [] ys =
    let one : little ys * 2 ^ 0 ≡ little ys = omega arith in
    sym (xor_zero_l (little ys * 2 ^ 0) ∙ one)
little-append (x ∷ xs) ys =
    let n : ℕ = 8 * length xs in
    let y : ℕ = little ys in
    let count : 8 * suc (length xs) ≡ n + 8 = omega arith in
    let moved_on : y * 2 ^ n * 2 ^ 8 ≡ y * 2 ^ (8 * suc (length xs)) = mul_assoc y (2 ^ n) (2 ^ 8) ∙ ap (λ p. y * p) (sym (pow-add 2 n 8) ∙ ap (λ m. 2 ^ m) (sym count)) in
    ap (λ r. bit_xor (r * 2 ^ 8) x) (little-append xs ys)
    ∙ ap (λ r. bit_xor r x) (sym (shifted-xor (little xs) (y * 2 ^ n)))
    ∙ xor_assoc (little xs * 2 ^ 8) (y * 2 ^ n * 2 ^ 8) x
    ∙ ap (bit_xor (little xs * 2 ^ 8)) (xor_comm (y * 2 ^ n * 2 ^ 8) x)
    ∙ sym (xor_assoc (little xs * 2 ^ 8) x (y * 2 ^ n * 2 ^ 8))
    ∙ ap (bit_xor (bit_xor (little xs * 2 ^ 8) x)) moved_on

pub vector_behind : (v rest : List ℕ) → length v ≡ 16 → little (v ++ rest) ≡ behind (little v) (little rest)
vector_behind v rest long = little-append v rest ∙ ap (λ n. bit_xor (little v) (little rest * 2 ^ (8 * n))) long

pub little-zip2 : (xs ys : List ℕ) → length xs ≡ length ys → little (zip2 bit_xor xs ys) ≡ bit_xor (little xs) (little ys)
little-zip2 [] [] e = refl
little-zip2 [] (y ∷ ys) e = absurd (omega arith)
little-zip2 (x ∷ xs) [] e = absurd (omega arith)
little-zip2 (x ∷ xs) (y ∷ ys) e =
    let tails : length xs ≡ length ys = omega arith in
    ap (λ r. bit_xor (r * 2 ^ 8) (bit_xor x y)) (little-zip2 xs ys tails)
    ∙ ap (λ r. bit_xor r (bit_xor x y)) (sym (shifted-xor (little xs) (little ys)))
    ∙ swap_inner (little xs * 2 ^ 8) (little ys * 2 ^ 8) x y

-- ---- vectors stand for all octets before them

-- six vectors add to the next 96 octets what all octets before make of them
pub record Owes (a b c d e f : List ℕ) (remainder : ℕ) (octets : List ℕ) : Type 0 where
  pub same : (beyond : List ℕ) → 96 ≤ length beyond
      → after_bits (8 * length beyond) (bit_xor (little beyond) (six (little a) (little b) (little c) (little d) (little e) (little f))) ≡ after_octets remainder (octets ++ beyond)

-- a vector with 96 octets or more behind it is gone, and what it is further on is added there
vector_gone : (v : List ℕ) (n : ℕ) → length v ≡ 16 → ((i : ℕ) → i < length v → get_or v i 0 < 256) → 96 ≤ n
    → after_bits (128 + 8 * n) (little v) ≡ after_bits (8 * n) (six (little (map at_16 v)) (little (map at_32 v)) 0 (little (map at_64 v)) 0 (little (map at_96 v)))
vector_gone v n long small enough =
    let m : ℕ = n - 80 in
    let all : 768 + 8 * m ≡ 128 + 8 * n = omega arith in
    let left : 640 + 8 * m ≡ 8 * n = omega arith in
    let sum : ℕ = six (little (map at_16 v)) (little (map at_32 v)) 0 (little (map at_64 v)) 0 (little (map at_96 v)) in
    coe 0 1 (i. after_bits (all i) (little v) ≡ after_bits (left i) sum)
    (vector_spread v m (omega arith) small ∙ sym (after_six (8 * m) (little (map at_16 v)) (little (map at_32 v)) 0 (little (map at_64 v)) 0 (little (map at_96 v))))

pub step_on : (a b c d e f p : List ℕ) (remainder : ℕ) (octets : List ℕ) → length a ≡ 16 → length b ≡ 16 → length c ≡ 16 → length e ≡ 16 → length p ≡ 16
    → ((i : ℕ) → i < length (zip2 bit_xor a p) → get_or (zip2 bit_xor a p) i 0 < 256)
    → Owes a b c d e f remainder octets
    → Owes (zip2 bit_xor b (map at_16 (zip2 bit_xor a p))) (zip2 bit_xor c (map at_32 (zip2 bit_xor a p))) d (zip2 bit_xor e (map at_64 (zip2 bit_xor a p))) f (map at_96 (zip2 bit_xor a p)) remainder (octets ++ p)
step_on a b c d e f p remainder octets la lb lc le lp small owes = record {
  same = λ beyond enough.
      let v = zip2 bit_xor a p in
      let lv : length v ≡ 16 = length-zip2 bit_xor a p (omega arith) ∙ la in
      let l1 : length (map at_16 v) ≡ 16 = length-map v at_16 ∙ lv in
      let l2 : length (map at_32 v) ≡ 16 = length-map v at_32 ∙ lv in
      let l4 : length (map at_64 v) ≡ 16 = length-map v at_64 ∙ lv in
      let n : ℕ = length beyond in
      let past : ℕ = little beyond in
      let rest : ℕ = behind (little b) (behind (little c) (behind (little d) (behind (little e) (little f)))) in
      let known : ℕ = six (little b) (little c) (little d) (little e) (little f) 0 in
      let moved_on : ℕ = six (little (map at_16 v)) (little (map at_32 v)) 0 (little (map at_64 v)) 0 (little (map at_96 v)) in
      let longer : 96 ≤ length (p ++ beyond) = omega (arith, enough, length-append p beyond) in
      let count : 8 * length (p ++ beyond) ≡ 128 + 8 * n = omega (arith, lp, length-append p beyond) in
      let number : bit_xor (little (p ++ beyond)) (six (little a) (little b) (little c) (little d) (little e) (little f)) ≡ behind (little v) (bit_xor past rest) =
      ap (λ x. bit_xor x (behind (little a) rest)) (vector_behind p beyond lp)
      ∙ sym (behind-xor (little p) past (little a) rest)
      ∙ ap (λ x. behind x (bit_xor past rest)) (xor_comm (little p) (little a) ∙ sym (little-zip2 a p (omega arith))) in
      let last : little f ≡ behind (little f) 0 = sym (xor_zero_r (little f)) in
      let same_rest : rest ≡ known = ap (λ x. behind (little b) (behind (little c) (behind (little d) (behind (little e) x)))) last in
      let new : six (little (zip2 bit_xor b (map at_16 v))) (little (zip2 bit_xor c (map at_32 v))) (little d) (little (zip2 bit_xor e (map at_64 v))) (little f) (little (map at_96 v)) ≡ bit_xor known moved_on =
      (λ i. six (little-zip2 b (map at_16 v) (omega arith) i) (little-zip2 c (map at_32 v) (omega arith) i) (sym (xor_zero_r (little d)) i) (little-zip2 e (map at_64 v) (omega arith) i) (sym (xor_zero_r (little f)) i) (sym (xor_zero_l (little (map at_96 v))) i))
      ∙ six-xor_behind (little b) (little c) (little d) (little e) (little f) 0 (little (map at_16 v)) (little (map at_32 v)) 0 (little (map at_64 v)) 0 (little (map at_96 v)) in
      let sum : bit_xor moved_on (bit_xor past rest) ≡ bit_xor past (bit_xor known moved_on) =
      xor_comm moved_on (bit_xor past rest) ∙ xor_assoc past rest moved_on ∙ ap (λ x. bit_xor past (bit_xor x moved_on)) same_rest in
      ap (λ x. after_bits (8 * n) (bit_xor past x)) new
      ∙ sym (ap (after_bits (8 * n)) sum)
      ∙ after_bits-xor (8 * n) moved_on (bit_xor past rest)
      ∙ ap (λ x. bit_xor x (after_bits (8 * n) (bit_xor past rest))) (sym (vector_gone v n lv small enough))
      ∙ sym (after_behind (8 * n) (little v) (bit_xor past rest))
      ∙ sym (λ i. after_bits (count i) (number i))
      ∙ owes.same (p ++ beyond) longer
      ∙ ap (after_octets remainder) (sym (append_assoc octets p beyond));
}

-- no octets yet
pub starts : (remainder : ℕ) (first : List ℕ) → remainder < 2 ^ 32 → first ≡ take 16 (to_le_bytes w32 remainder ++ replicate 12 0)
    → Owes first (replicate 16 0) (replicate 16 0) (replicate 16 0) (replicate 16 0) (replicate 16 0) remainder []
starts remainder first small is = record {
  same = λ beyond enough.
      let four = to_le_bytes w32 remainder in
      let value : little first ≡ remainder = ap little is ∙ little-append four (replicate 12 0) ∙ xor_zero_r (little four) ∙ little_of_four remainder small in
      let all : six (little first) 0 0 0 0 0 ≡ remainder = xor_zero_r (little first) ∙ value in
      ap (λ x. after_bits (8 * length beyond) (bit_xor (little beyond) x)) all
      ∙ ap (after_bits (8 * length beyond)) (xor_comm (little beyond) remainder)
      ∙ sym (after_little remainder beyond);
}

-- sixteen octets, and then more
next_vector : (octets : List ℕ) (at next n : ℕ) → next ≡ at + 16 → take (16 + n) (drop at octets) ≡ take 16 (drop at octets) ++ take n (drop next octets)
next_vector octets at next n e =
    take-add 16 n (drop at octets) ∙ ap (λ l. take 16 (drop at octets) ++ take n l) (drop-drop 16 at octets ∙ ap (λ k. drop k octets) (sym e))

six_vectors : (a b c d e f : List ℕ) → length a ≡ 16 → length b ≡ 16 → length c ≡ 16 → length d ≡ 16 → length e ≡ 16
    → little (a ++ (b ++ (c ++ (d ++ (e ++ f))))) ≡ six (little a) (little b) (little c) (little d) (little e) (little f)
six_vectors a b c d e f la lb lc ld le =
    vector_behind a (b ++ (c ++ (d ++ (e ++ f)))) la
    ∙ ap (behind (little a)) (vector_behind b (c ++ (d ++ (e ++ f))) lb
    ∙ ap (behind (little b)) (vector_behind c (d ++ (e ++ f)) lc
    ∙ ap (behind (little c)) (vector_behind d (e ++ f) ld
    ∙ ap (behind (little d)) (vector_behind e f le))))

joined : (a b c d e f : List ℕ) → ((((a ++ b) ++ c) ++ d) ++ e) ++ f ≡ a ++ (b ++ (c ++ (d ++ (e ++ f))))
joined a b c d e f =
    append_assoc (((a ++ b) ++ c) ++ d) e f
    ∙ append_assoc ((a ++ b) ++ c) d (e ++ f)
    ∙ append_assoc (a ++ b) c (d ++ (e ++ f))
    ∙ append_assoc a b (c ++ (d ++ (e ++ f)))

-- the last 96 octets, with what the vectors add to them
pub ends : (a b c d e f : List ℕ) (remainder at : ℕ) (octets rest : List ℕ) → length a ≡ 16 → length b ≡ 16 → length c ≡ 16 → length d ≡ 16 → length e ≡ 16 → length f ≡ 16
    → at + 96 ≤ length octets
    → Owes a b c d e f remainder (take at octets)
    → rest ≡ ((((zip2 bit_xor a (chunk at 16 octets) ++ zip2 bit_xor b (chunk (at + 16) 16 octets)) ++ zip2 bit_xor c (chunk (at + 32) 16 octets)) ++ zip2 bit_xor d (chunk (at + 48) 16 octets)) ++ zip2 bit_xor e (chunk (at + 64) 16 octets)) ++ zip2 bit_xor f (chunk (at + 80) 16 octets)
    → after_octets 0 rest ≡ after_octets remainder (take (at + 96) octets)
ends a b c d e f remainder at octets rest la lb lc ld le lf room owes is =
    after_little 0 rest ∙ (λ i. after_bits (8 * long i) (number i)) ∙ owes.same q enough ∙ ap (after_octets remainder) whole
  where
    part : ℕ → List ℕ
    part n = chunk n 16 octets

    with_part : List ℕ → ℕ → List ℕ
    with_part v n = zip2 bit_xor v (part n)

    q : List ℕ
    q = part at ++ (part (at + 16) ++ (part (at + 32) ++ (part (at + 48) ++ (part (at + 64) ++ part (at + 80)))))

    p_long : (n : ℕ) → n ≤ at + 80 → length (part n) ≡ 16
    p_long n near = length-chunk n 16 octets (omega (arith, near, room))

    v_long : (v : List ℕ) (n : ℕ) → length v ≡ 16 → n ≤ at + 80 → length (with_part v n) ≡ 16
    v_long v n lv near = length-zip2 bit_xor v (part n) (lv ∙ sym (p_long n near)) ∙ lv

    v_sum : (v : List ℕ) (n : ℕ) → length v ≡ 16 → n ≤ at + 80 → little (with_part v n) ≡ bit_xor (little v) (little (part n))
    v_sum v n lv near = little-zip2 v (part n) (lv ∙ sym (p_long n near))

    tail : take 96 (drop at octets) ≡ q
    tail =
        next_vector octets at (at + 16) 80 refl
        ∙ ap (λ l. part at ++ l) (next_vector octets (at + 16) (at + 32) 64 (omega arith)
        ∙ ap (λ l. part (at + 16) ++ l) (next_vector octets (at + 32) (at + 48) 48 (omega arith)
        ∙ ap (λ l. part (at + 32) ++ l) (next_vector octets (at + 48) (at + 64) 32 (omega arith)
        ∙ ap (λ l. part (at + 48) ++ l) (next_vector octets (at + 64) (at + 80) 16 (omega arith)))))

    whole : take at octets ++ q ≡ take (at + 96) octets
    whole = ap (λ l. take at octets ++ l) (sym tail) ∙ sym (take-add at 96 octets)

    q_long : length q ≡ 96
    q_long = ap length (sym tail) ∙ length-chunk at 96 octets room

    enough : 96 ≤ length q
    enough = omega (arith, q_long)

    v : List ℕ
    v = with_part a at ++ (with_part b (at + 16) ++ (with_part c (at + 32) ++ (with_part d (at + 48) ++ (with_part e (at + 64) ++ with_part f (at + 80)))))

    right : rest ≡ v
    right = is ∙ joined (with_part a at) (with_part b (at + 16)) (with_part c (at + 32)) (with_part d (at + 48)) (with_part e (at + 64)) (with_part f (at + 80))

    v_number : little v ≡ bit_xor (six (little a) (little b) (little c) (little d) (little e) (little f)) (little q)
    v_number =
        six_vectors (with_part a at) (with_part b (at + 16)) (with_part c (at + 32)) (with_part d (at + 48)) (with_part e (at + 64)) (with_part f (at + 80))
        (v_long a at la (omega arith)) (v_long b (at + 16) lb (omega arith)) (v_long c (at + 32) lc (omega arith)) (v_long d (at + 48) ld (omega arith)) (v_long e (at + 64) le (omega arith))
        ∙ (λ i. six (v_sum a at la (omega arith) i) (v_sum b (at + 16) lb (omega arith) i) (v_sum c (at + 32) lc (omega arith) i) (v_sum d (at + 48) ld (omega arith) i) (v_sum e (at + 64) le (omega arith) i) (v_sum f (at + 80) lf (omega arith) i))
        ∙ six-xor_behind (little a) (little b) (little c) (little d) (little e) (little f) (little (part at)) (little (part (at + 16))) (little (part (at + 32))) (little (part (at + 48))) (little (part (at + 64))) (little (part (at + 80)))
        ∙ ap (bit_xor (six (little a) (little b) (little c) (little d) (little e) (little f)))
        (sym (six_vectors (part at) (part (at + 16)) (part (at + 32)) (part (at + 48)) (part (at + 64)) (part (at + 80))
        (p_long at (omega arith)) (p_long (at + 16) (omega arith)) (p_long (at + 32) (omega arith)) (p_long (at + 48) (omega arith)) (p_long (at + 64) (omega arith))))

    number : bit_xor 0 (little rest) ≡ bit_xor (little q) (six (little a) (little b) (little c) (little d) (little e) (little f))
    number = xor_zero_l (little rest) ∙ ap little right ∙ v_number ∙ xor_comm (six (little a) (little b) (little c) (little d) (little e) (little f)) (little q)

    long : length rest ≡ length q
    long =
        ap length right
        ∙ length-append (with_part a at) (with_part b (at + 16) ++ (with_part c (at + 32) ++ (with_part d (at + 48) ++ (with_part e (at + 64) ++ with_part f (at + 80)))))
        ∙ omega (
          arith,
          q_long,
          v_long a at la (omega arith),
          v_long b (at + 16) lb (omega arith),
          v_long c (at + 32) lc (omega arith),
          v_long d (at + 48) ld (omega arith),
          v_long e (at + 64) le (omega arith),
          v_long f (at + 80) lf (omega arith),
          length-append (with_part b (at + 16)) (with_part c (at + 32) ++ (with_part d (at + 48) ++ (with_part e (at + 64) ++ with_part f (at + 80)))),
          length-append (with_part c (at + 32)) (with_part d (at + 48) ++ (with_part e (at + 64) ++ with_part f (at + 80))),
          length-append (with_part d (at + 48)) (with_part e (at + 64) ++ with_part f (at + 80)),
          length-append (with_part e (at + 64)) (with_part f (at + 80)),
        )

-- octets with a vector added are octets
pub front_small : (a : List ℕ) (at : ℕ) (octets : List ℕ) → IsVector a → at + 16 ≤ length octets → ((i : ℕ) → get_or octets i 0 < 256)
    → (i : ℕ) → i < length (zip2 bit_xor a (chunk at 16 octets)) → get_or (zip2 bit_xor a (chunk at 16 octets)) i 0 < 256
front_small a at octets fits room small i lt =
    let p = chunk at 16 octets in
    let lp : length p ≡ 16 = length-chunk at 16 octets room in
    let below : i < 16 = omega (arith, lt, fits.0, length-zip2 bit_xor a p (fits.0 ∙ sym lp)) in
    let is : get_or (zip2 bit_xor a p) i 0 ≡ bit_xor (get_or a i 0) (get_or octets (at + i) 0) =
    get_or-zip2 bit_xor a p i 0 0 0 (omega (arith, fits.0)) (omega (arith, lp)) ∙ ap (bit_xor (get_or a i 0)) (get_or-chunk at 16 octets i 0 below) in
    subst (λ x. x < 256) (sym is) (xor_lt 8 (get_or a i 0) (get_or octets (at + i) 0) (lane_fits a i fits.1) (small (at + i)))
