-- Windows as the code moves them.
use Rattle.std.proofs.Common.{◌≡◌, ℕ, ◌+◌, ◌-◌, ◌*◌, ◌/◌, ◌%◌, ◌^◌, ◌<◌, ◌≤◌, zero, suc, List, [], ◌∷◌, ◌++◌, take, drop, length, get_or, replicate, min, refl, sym, ap, subst, ◌∙◌, arith, bit_xor, length-take, length-drop, length-append, append_assoc, inl, inr}
use Rattle.std.proofs.Math.ListN.{set, length-set, get_or-append}
use Rattle.std.proofs.Math.Seq.{take-add, take-length}
use Rattle.std.proofs.lemmas.List.Edits.{take-paste}
use Rattle.std.specs.List.{copy_within}
use Rattle.std.proofs.lemmas.List.{drop-drop, drop-take, take_more, get_or-take, get_or-drop, get_or-set_other, get_or_past, get_or-append_right, get_or-replicate, length-replicate, take-append-drop}
use Rattle.std.proofs.lemmas.Grind.{same_number_lists, get_or-set_at}
use Rattle.std.proofs.lemmas.Bool.{cases_lt}
use Rattle.std.specs.Int.{w32, to_le_bytes}
use Rattle.iw_crc.specs.Crc.{after_octets}
use Rattle.iw_crc.specs.Fold.{little, sum_of_five, owed_next, remainder_with, Folds}
use Rattle.iw_crc.proofs.Folds.{folds_one, little_same, remainder_settled, remainder_starts}
use Rattle.iw_crc.proofs.Words.{little_sum}

-- what a window adds to the next octet is told by its first 290 octets
owed_next_front : (w : List ℕ) → owed_next (take 290 w) ≡ owed_next w
owed_next_front w =
    let at : (d : ℕ) → d < 290 → get_or (take 290 w) d 0 ≡ get_or w d 0 = λ d lt. get_or-take 290 w d 0 lt in
    λ i. sum_of_five (at 0 (omega arith) i) (at 32 (omega arith) i) (at 107 (omega arith) i) (at 113 (omega arith) i) (at 136 (omega arith) i)

-- the window a place on, with an octet more
window_on : (w : List ℕ) (i octet : ℕ) → i + 290 < length w → drop 1 (take 290 (drop i w)) ++ octet ∷ [] ≡ take 290 (drop (i + 1) (set w (i + 290) octet))
window_on w i octet room =
    let w' = set w (i + 290) octet in
    let long : length w' ≡ length w = length-set w (i + 290) octet in
    let front : take 289 (drop (i + 1) w) ≡ take 289 (drop (i + 1) w') =
    same_number_lists (take 289 (drop (i + 1) w)) (take 289 (drop (i + 1) w'))
    (length-take 289 (drop (i + 1) w) ∙ ap (λ n. min 289 n) (length-drop (i + 1) w ∙ ap (λ n. n - (i + 1)) (sym long) ∙ sym (length-drop (i + 1) w')) ∙ sym (length-take 289 (drop (i + 1) w')))
    (λ k lt.
    let below : k < 289 = omega (arith, lt, length-take 289 (drop (i + 1) w)) in
    let other : i + 1 + k ≡ i + 290 → ⊥ = λ e. omega (arith, e) in
    get_or-take 289 (drop (i + 1) w) k 0 below ∙ get_or-drop (i + 1) w k 0 ∙ sym (get_or-set_other w (i + 290) (i + 1 + k) octet 0 other)
    ∙ sym (get_or-take 289 (drop (i + 1) w') k 0 below ∙ get_or-drop (i + 1) w' k 0)) in
    let last : get_or (drop (i + 1) w') 289 0 ≡ octet =
    get_or-drop (i + 1) w' 289 0 ∙ get_or-set_at w (i + 290) (i + 1 + 289) octet 0 (omega arith) room in
    ap (λ l. l ++ octet ∷ []) (drop-take 1 289 (drop i w) ∙ ap (take 289) (drop-drop 1 i w) ∙ front)
    ∙ sym (take_more (drop (i + 1) w') 289 0 (omega (arith, long, length-drop (i + 1) w')) ∙ ap (λ x. take 289 (drop (i + 1) w') ++ x ∷ []) last)

pub fold_step : (first block w : List ℕ) (i octet : ℕ) → i < length block → i + 290 < length w → octet < 256 → octet ≡ bit_xor (get_or block i 0) (owed_next (drop i w))
    → Folds first (take i block) (take 290 (drop i w)) → Folds first (take (i + 1) block) (take 290 (drop (i + 1) (set w (i + 290) octet)))
fold_step first block w i octet more room small is so_far = λ beyond enough.
    let x : ℕ = get_or block i 0 in
    let window = take 290 (drop i w) in
    let long : length window ≡ 290 = length-take 290 (drop i w) ∙ omega (arith, length-drop i w) in
    let same : bit_xor x (owed_next window) ≡ octet = ap (bit_xor x) (owed_next_front (drop i w)) ∙ sym is in
    let fits : bit_xor x (owed_next window) < 256 = subst (λ n. n < 256) (sym same) small in
    let longer : 290 ≤ length (x ∷ beyond) = omega (arith, enough) in
    ap (remainder_with first) (ap (λ l. l ++ beyond) (take_more block i 0 more) ∙ append_assoc (take i block) (x ∷ []) beyond)
    ∙ so_far (x ∷ beyond) longer
    ∙ folds_one window x beyond long fits enough
    ∙ ap (λ l. remainder_with l beyond) (ap (λ n. drop 1 window ++ n ∷ []) same ∙ window_on w i octet room)

pub folds_all : (first block w : List ℕ) (i : ℕ) → i ≡ length block → Folds first (take i block) (take 290 (drop i w)) → Folds first block (take 290 (drop (length block) w))
folds_all first block w i all so_far =
    let whole : take i block ≡ block = ap (λ n. take n block) all ∙ take-length block in
    subst (λ l. Folds first l (take 290 (drop (length block) w))) whole (subst (λ n. Folds first (take i block) (take 290 (drop n w))) all so_far)

-- a block is folded away, and the window moves
pub block_step : (remainder : ℕ) (front old piece new : List ℕ) (k : ℕ)
    → piece ≡ take 2048 (drop (2048 * k) front)
    → Folds old piece new
    → ((beyond : List ℕ) → 290 ≤ length beyond → remainder_with old beyond ≡ after_octets remainder (take (2048 * k) front ++ beyond))
    → (beyond : List ℕ) → 290 ≤ length beyond → remainder_with new beyond ≡ after_octets remainder (take (2048 * (k + 1)) front ++ beyond)
block_step remainder front old piece new k is folds so_far = λ beyond enough.
    let longer : 290 ≤ length (piece ++ beyond) = omega (arith, enough, length-append piece beyond) in
    let count : 2048 * k + 2048 ≡ 2048 * (k + 1) = omega arith in
    let whole : take (2048 * k) front ++ piece ≡ take (2048 * (k + 1)) front = ap (λ p. take (2048 * k) front ++ p) is ∙ sym (take-add (2048 * k) 2048 front) ∙ ap (λ n. take n front) count in
    sym (folds beyond enough) ∙ so_far (piece ++ beyond) longer
    ∙ ap (after_octets remainder) (sym (append_assoc (take (2048 * k) front) piece beyond) ∙ ap (λ l. l ++ beyond) whole)

-- the rest of the front is folded away, and the octets at the back are all that is left
pub last_step : (remainder : ℕ) (octets front back old piece new : List ℕ) (k : ℕ)
    → front ++ back ≡ octets → piece ≡ drop (2048 * k) front → 290 ≤ length back
    → Folds old piece new
    → ((beyond : List ℕ) → 290 ≤ length beyond → remainder_with old beyond ≡ after_octets remainder (take (2048 * k) front ++ beyond))
    → remainder_with new back ≡ after_octets remainder octets
last_step remainder octets front back old piece new k whole is enough folds so_far =
    let longer : 290 ≤ length (piece ++ back) = omega (arith, enough, length-append piece back) in
    sym (folds back enough) ∙ so_far (piece ++ back) longer
    ∙ ap (after_octets remainder) (sym (append_assoc (take (2048 * k) front) piece back)
    ∙ ap (λ l. l ++ back) (ap (λ p. take (2048 * k) front ++ p) is ∙ take-append-drop (2048 * k) front) ∙ whole)

-- zeros, and octets with zeros behind them
abbrev pub zeros : ℕ → ℕ → List ℕ
zeros m n = drop n (replicate m 0)

get_or-zeros : (m n i : ℕ) → get_or (zeros m n) i 0 ≡ 0
get_or-zeros m n i = get_or-drop n (replicate m 0) i 0 ∙ elim (cases_lt (n + i) m) [
  | inl inside ↦ get_or-replicate m (n + i) 0 0 inside
  | inr past ↦ get_or_past (replicate m 0) (n + i) 0 (omega (arith, past, length-replicate {A = ℕ}))
]

padded : (w zs : List ℕ) → ((i : ℕ) → get_or zs i 0 ≡ 0) → (i : ℕ) → get_or (w ++ zs) i 0 ≡ get_or w i 0
padded w zs none i = elim (cases_lt i (length w)) [
  | inl inside ↦ get_or-append w zs 0 i inside
  | inr past ↦ get_or-append_right w zs (length w) i 0 refl past ∙ none (i - length w) ∙ sym (get_or_past w i 0 past)
]

owed_next_padded : (w : List ℕ) (n k : ℕ) → owed_next (drop k (w ++ zeros n 0)) ≡ owed_next (drop k w)
owed_next_padded w n k =
    let zs = zeros n 0 in
    let at : (d : ℕ) → get_or (drop k (w ++ zs)) d 0 ≡ get_or (drop k w) d 0 = λ d.
    get_or-drop k (w ++ zs) d 0 ∙ padded w zs (get_or-zeros n 0) (k + d) ∙ sym (get_or-drop k w d 0) in
    λ i. sum_of_five (at 0 i) (at 32 i) (at 107 i) (at 113 i) (at 136 i)

-- one octet more is settled
pub one_settled : (settled octets window : List ℕ) (i octet : ℕ) → i < length settled → octet ≡ bit_xor (get_or octets i 0) (owed_next (drop i window))
    → ((k : ℕ) → k < i → get_or settled k 0 ≡ bit_xor (get_or octets k 0) (owed_next (drop k window)))
    → (k : ℕ) → k < i + 1 → get_or (set settled i octet) k 0 ≡ bit_xor (get_or octets k 0) (owed_next (drop k window))
one_settled settled octets window i octet room is each = λ k lt. elim (cases_lt k i) [
  | inl before ↦
      let other : k ≡ i → ⊥ = λ e. omega (arith, e, before) in
      get_or-set_other settled i k octet 0 other ∙ each k before
  | inr at ↦
      let same : k ≡ i = omega (arith, at, lt) in
      get_or-set_at settled i k octet 0 same room ∙ is ∙ sym (ap (λ j. bit_xor (get_or octets j 0) (owed_next (drop j window))) same)
]

-- octets that were settled against a window with zeros behind it
pub settled_step : (settled octets w : List ℕ) (n : ℕ) → length settled ≡ 290 → length octets ≡ 290 → length w ≡ 290
    → ((k : ℕ) → k < 290 → get_or settled k 0 ≡ bit_xor (get_or octets k 0) (owed_next (drop k (w ++ replicate n 0))))
    → after_octets 0 settled ≡ remainder_with w octets
settled_step settled octets w n ls lo lw each =
    remainder_settled octets w settled (ls ∙ sym lo) (omega (arith, lw, lo))
    (λ k lt. each k (omega (arith, lt, lo)) ∙ ap (bit_xor (get_or octets k 0)) (owed_next_padded w n k))

four_small : (a b c d : ℕ) → a < 256 → b < 256 → c < 256 → d < 256 → (i : ℕ) → i < 4 → get_or (a ∷ b ∷ c ∷ d ∷ []) i 0 < 256
four_small a b c d ha hb hc hd zero lt = ha
four_small a b c d ha hb hc hd (suc zero) lt = hb
four_small a b c d ha hb hc hd (suc (suc zero)) lt = hc
four_small a b c d ha hb hc hd (suc (suc (suc zero))) lt = hd
four_small a b c d ha hb hc hd (suc (suc (suc (suc i)))) lt = absurd (omega arith)

pub little_of_four : (remainder : ℕ) → remainder < 2 ^ 32 → little (to_le_bytes w32 remainder) ≡ remainder
little_of_four remainder small =
    little_sum (to_le_bytes w32 remainder) (four_small (remainder % 256) (remainder / 256 % 256) (remainder / 65536 % 256) (remainder / 16777216 % 256) (omega arith) (omega arith) (omega arith) (omega arith))
    ∙ omega arith

-- the window that a run begins with
pub opened_step : (remainder : ℕ) (w : List ℕ) (m n : ℕ) → remainder < 2 ^ 32 → w ≡ to_le_bytes w32 remainder ++ zeros m n
    → (octets : List ℕ) → remainder_with (take 290 w) octets ≡ after_octets remainder octets
opened_step remainder w m n small is octets = remainder_starts remainder (take 290 w) octets first none
  where
    told : (i : ℕ) → get_or (take 290 w) i 0 ≡ get_or (to_le_bytes w32 remainder) i 0
    told i = elim (cases_lt i 290) [
      | inl inside ↦ get_or-take 290 w i 0 inside ∙ ap (λ l. get_or l i 0) is ∙ padded (to_le_bytes w32 remainder) (zeros m n) (get_or-zeros m n) i
      | inr past ↦
          let long : length (take 290 w) ≤ i = omega (arith, past, length-take 290 w) in
          let four : length (to_le_bytes w32 remainder) ≤ i = omega (arith, past) in
          get_or_past (take 290 w) i 0 long ∙ sym (get_or_past (to_le_bytes w32 remainder) i 0 four)
    ]

    first : little (take 290 w) ≡ remainder
    first = little_same (take 290 w) (to_le_bytes w32 remainder) told ∙ little_of_four remainder small

    none : (d : ℕ) → 4 ≤ d → little (drop d (take 290 w)) ≡ 0
    none d far = little_same (drop d (take 290 w)) [] (λ i.
        let past : length (to_le_bytes w32 remainder) ≤ d + i = omega (arith, far) in
        get_or-drop d (take 290 w) i 0 ∙ told (d + i) ∙ get_or_past (to_le_bytes w32 remainder) (d + i) 0 past)

-- the window's last octets, moved to its front
pub moved_window : (w w' : List ℕ) → length w ≡ 2474 → w' ≡ copy_within w 2048 2338 0 → take 290 w' ≡ take 290 (drop 2048 w)
moved_window w w' long is =
    let room : 290 ≤ length (drop 2048 w) = omega (arith, long, length-drop 2048 w) in
    let none : 0 ≤ length w = omega arith in
    ap (take 290) is ∙ take-paste w 0 (drop 2048 w) 290 none room
