use Rattle.std.proofs.Common.{◌≡◌, ℕ, ◌+◌, ◌*◌, ◌/◌, ◌%◌, ◌^◌, ◌<◌, zero, suc, List, [], ◌∷◌, ◌++◌, take, length, get_or, refl, sym, ap, ◌∙◌, arith, bit_xor, bit_and, zero-mul, mul_assoc, pow-suc}
use lib.Bits.{xor_shr, xor_mod, xor_assoc, xor_comm, xor_self, xor_shifted, xor_zero_r, and_mask}
use Rattle.std.proofs.lemmas.List.{take_more}
use Rattle.iw_crc.specs.Crc.{polynomial, after_bit, after_bits, after_octet, after_octets}

-- a product with a bit, taken apart
bit_times : (x y p : ℕ) → x < 2 → y < 2 → bit_xor x y * p ≡ bit_xor (x * p) (y * p)
bit_times zero zero p hx hy = rw zero-mul refl
bit_times zero (suc y) p hx hy = rw zero-mul refl
bit_times (suc zero) zero p hx hy = rw zero-mul (sym (xor_zero_r (1 * p)))
bit_times (suc zero) (suc zero) p hx hy = rw (xor_self (suc zero * p), xor_self (suc zero)) (zero-mul p)
bit_times (suc zero) (suc (suc y)) p hx hy = absurd (omega arith)
bit_times (suc (suc x)) y p hx hy = absurd (omega arith)

pub swap_inner : (a b c d : ℕ) → bit_xor (bit_xor a b) (bit_xor c d) ≡ bit_xor (bit_xor a c) (bit_xor b d)
swap_inner a b c d =
    xor_assoc a b (bit_xor c d) ∙ ap (bit_xor a) (sym (xor_assoc b c d) ∙ ap (λ x. bit_xor x d) (xor_comm b c) ∙ xor_assoc c b d)
    ∙ sym (xor_assoc a c (bit_xor b d))

pub after_bit-xor : (a b : ℕ) → after_bit (bit_xor a b) ≡ bit_xor (after_bit a) (after_bit b)
unfolding after_bit
after_bit-xor a b =
    let half : bit_xor a b / 2 ≡ bit_xor (a / 2) (b / 2) = xor_shr a b 1 in
    let low : bit_xor a b % 2 ≡ bit_xor (a % 2) (b % 2) = xor_mod a b 1 in
    let la : a % 2 < 2 = omega arith in
    let lb : b % 2 < 2 = omega arith in
    ap (λ x. bit_xor x (bit_xor a b % 2 * polynomial)) half
    ∙ ap (λ x. bit_xor (bit_xor (a / 2) (b / 2)) x) (ap (λ x. x * polynomial) low ∙ bit_times (a % 2) (b % 2) polynomial la lb)
    ∙ swap_inner (a / 2) (b / 2) (a % 2 * polynomial) (b % 2 * polynomial)

pub after_bits-xor : (n a b : ℕ) → after_bits n (bit_xor a b) ≡ bit_xor (after_bits n a) (after_bits n b)
unfolding after_bits
after_bits-xor zero a b = refl
after_bits-xor (suc n) a b = ap (after_bits n) (after_bit-xor a b) ∙ after_bits-xor n (after_bit a) (after_bit b)

-- n steps on a number whose low n bits are zero shift it
pub after_bits-shifted : (n a : ℕ) → after_bits n (a * 2 ^ n) ≡ a
unfolding after_bits after_bit
after_bits-shifted zero a = omega arith
after_bits-shifted (suc n) a =
    let double : a * 2 ^ suc n ≡ a * 2 ^ n * 2 = rw pow-suc (sym (mul_assoc a (2 ^ n) 2)) in
    let half : a * 2 ^ suc n / 2 ≡ a * 2 ^ n = omega (arith, double) in
    let even : a * 2 ^ suc n % 2 ≡ 0 = omega (arith, double) in
    let one : after_bit (a * 2 ^ suc n) ≡ a * 2 ^ n = ap (λ x. bit_xor x (a * 2 ^ suc n % 2 * polynomial)) half ∙ ap (λ x. bit_xor (a * 2 ^ n) (x * polynomial)) even ∙ xor_zero_r (a * 2 ^ n) in
    ap (after_bits n) one ∙ after_bits-shifted n a

-- eight steps are a look-up of the low octet and a shift
pub after_eight : (register : ℕ) → after_bits 8 register ≡ bit_xor (after_bits 8 (register % 256)) (register / 256)
after_eight register =
    let low : register % 256 < 2 ^ 8 = omega arith in
    let apart : bit_xor (register / 256 * 2 ^ 8) (register % 256) ≡ register = xor_shifted (register / 256) 8 (register % 256) low ∙ omega arith in
    ap (after_bits 8) (sym apart) ∙ after_bits-xor 8 (register / 256 * 2 ^ 8) (register % 256)
    ∙ ap (λ x. bit_xor x (after_bits 8 (register % 256))) (after_bits-shifted 8 (register / 256)) ∙ xor_comm (register / 256) (after_bits 8 (register % 256))

pub after_octets-append : (register : ℕ) (xs ys : List ℕ) → after_octets register (xs ++ ys) ≡ after_octets (after_octets register xs) ys
unfolding after_octets
after_octets-append register [] ys = refl
after_octets-append register (x ∷ xs) ys = after_octets-append (after_octet register x) xs ys

-- a look-up of the low octet and a shift do what taking the octet in says
pub step_is : (register octet entry : ℕ) → octet < 256 → entry ≡ after_bits 8 (bit_and (bit_xor register octet) 255) → bit_xor entry (register / 256) ≡ after_octet register octet
unfolding after_octet
step_is register octet entry small e =
    let both : ℕ = bit_xor register octet in
    let low : bit_and both 255 ≡ both % 256 = and_mask both 8 in
    let none : octet / 256 ≡ 0 = omega arith in
    let high : both / 256 ≡ register / 256 = xor_shr register octet 8 ∙ ap (bit_xor (register / 256)) none ∙ xor_zero_r (register / 256) in
    ap (λ x. bit_xor x (register / 256)) (e ∙ ap (after_bits 8) low)
    ∙ ap (bit_xor (after_bits 8 (both % 256))) (sym high) ∙ sym (after_eight both)

pub after_octets-more : (register : ℕ) (xs : List ℕ) (i : ℕ) → i < length xs → after_octets register (take (i + 1) xs) ≡ after_octet (after_octets register (take i xs)) (get_or xs i 0)
unfolding after_octets
after_octets-more register xs i lt = ap (after_octets register) (take_more xs i 0 lt) ∙ after_octets-append register (take i xs) (get_or xs i 0 ∷ [])

pub after_octets-none : (register : ℕ) → register ≡ after_octets register []
unfolding after_octets
after_octets-none register = refl

pub ruleset crc_steps = (after_octets-more, after_octets-none)
