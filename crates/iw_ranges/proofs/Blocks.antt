-- Octets that are copied nearer to the front, a block at a time.
use Rattle.std.proofs.Common.{◌≡◌, ℕ, ◌+◌, ◌-◌, ◌<◌, ◌≤◌, true, false, ◌&&◌, cond, ltb, leb, List, ◌++◌, take, length, get_or, sym, ap, ◌∙◌, arith, inl, inr}
use Rattle.std.proofs.lemmas.List.{get_or-take, get_or_append_left, get_or-append_right, length-take-le}
use Rattle.std.proofs.lemmas.Bool.{cases_lt}
use Rattle.std.proofs.lemmas.Bool.Decides.{nat_tests}

-- `octets` with those of `block` from index `at` on
abbrev pub over : ℕ → List ℕ → List ℕ → ℕ → ℕ
over at block octets i = cond (leb at i && ltb i (at + length block)) (get_or block (i - at) 0) (get_or octets i 0)

-- `octets` with m of those behind n further ones from index `at` on
abbrev pub brought : ℕ → ℕ → ℕ → List ℕ → ℕ → ℕ
brought at n m octets i = cond (leb at i && ltb i (at + m)) (get_or octets (i + n) 0) (get_or octets i 0)

-- `octets` of which the first `at` are those behind n further ones
abbrev pub moved : ℕ → ℕ → List ℕ → ℕ → ℕ
moved at n octets i = cond (ltb i at) (get_or octets (i + n) 0) (get_or octets i 0)

-- the first octets, written over so, with the others behind them
pub brings : (front back new : List ℕ) (at n m i : ℕ) → length front ≡ at + n → length new ≡ at + n → m ≤ n → m ≤ length back
    → ((k : ℕ) → k < length front → get_or new k 0 ≡ over at (take m back) front k) → get_or (new ++ back) i 0 ≡ brought at n m (front ++ back) i
brings front back new at n m i long same apart more wrote =
    elim (cases_lt i (at + n)) [
      | inl low ↦ get_or_append_left new back 0 i (omega arith) ∙ wrote i (omega arith) ∙ inside low
      | inr high ↦
          let off : (leb at i && ltb i (at + m)) ≡ false = grind (arith, nat_tests) in
          get_or-append_right new back (at + n) i 0 same high ∙ sym (get_or-append_right front back (at + n) i 0 long high)
          ∙ sym (ap (λ b. cond b (get_or (front ++ back) (i + n) 0) (get_or (front ++ back) i 0)) off)
    ]
  where
    inside : i < at + n → over at (take m back) front i ≡ brought at n m (front ++ back) i
    inside low =
        let size : length (take m back) ≡ m = length-take-le m back more in
        elim (cases_lt i at) [
          | inl before ↦
              let off : (leb at i && ltb i (at + m)) ≡ false = grind (arith, nat_tests) in
              ap (λ k. cond (leb at i && ltb i (at + k)) (get_or (take m back) (i - at) 0) (get_or front i 0)) size
              ∙ ap (λ b. cond b (get_or (take m back) (i - at) 0) (get_or front i 0)) off
              ∙ sym (get_or_append_left front back 0 i (omega arith))
              ∙ sym (ap (λ b. cond b (get_or (front ++ back) (i + n) 0) (get_or (front ++ back) i 0)) off)
          | inr from ↦ ap (λ k. cond (leb at i && ltb i (at + k)) (get_or (take m back) (i - at) 0) (get_or front i 0)) size ∙ elim (cases_lt i (at + m)) [
            | inl within ↦
                let on : (leb at i && ltb i (at + m)) ≡ true = grind (arith, nat_tests) in
                let place : i + n - (at + n) ≡ i - at = omega arith in
                ap (λ b. cond b (get_or (take m back) (i - at) 0) (get_or front i 0)) on
                ∙ get_or-take m back (i - at) 0 (omega arith)
                ∙ ap (λ k. get_or back k 0) (sym place)
                ∙ sym (get_or-append_right front back (at + n) (i + n) 0 long (omega arith))
                ∙ sym (ap (λ b. cond b (get_or (front ++ back) (i + n) 0) (get_or (front ++ back) i 0)) on)
            | inr beyond ↦
                let off : (leb at i && ltb i (at + m)) ≡ false = grind (arith, nat_tests) in
                ap (λ b. cond b (get_or (take m back) (i - at) 0) (get_or front i 0)) off
                ∙ sym (get_or_append_left front back 0 i (omega arith))
                ∙ sym (ap (λ b. cond b (get_or (front ++ back) (i + n) 0) (get_or (front ++ back) i 0)) off)
          ]
        ]

-- one more block
pub moves : (first before after : List ℕ) (at n m i : ℕ) → i + n < length first + n → length before ≡ length first
    → ((k : ℕ) → k < length before → get_or before k 0 ≡ moved at n first k) → get_or after i 0 ≡ brought at n m before i → m ≤ n → at + n + m ≤ length before
    → get_or after i 0 ≡ moved (at + m) n first i
moves first before after at n m i small same was now apart room = elim (cases_lt i at) [
  | inl low ↦
      let off : (leb at i && ltb i (at + m)) ≡ false = grind (arith, nat_tests) in
      let on : ltb i at ≡ ltb i (at + m) = grind (arith, nat_tests) in
      now ∙ ap (λ b. cond b (get_or before (i + n) 0) (get_or before i 0)) off ∙ was i (omega arith) ∙ ap (λ b. cond b (get_or first (i + n) 0) (get_or first i 0)) on
  | inr from ↦ elim (cases_lt i (at + m)) [
    | inl within ↦
        let on : (leb at i && ltb i (at + m)) ≡ true = grind (arith, nat_tests) in
        let done : ltb (i + n) at ≡ false = grind (arith, nat_tests) in
        let told : ltb i (at + m) ≡ true = grind (arith, nat_tests) in
        now ∙ ap (λ b. cond b (get_or before (i + n) 0) (get_or before i 0)) on ∙ was (i + n) (omega arith)
        ∙ ap (λ b. cond b (get_or first (i + n + n) 0) (get_or first (i + n) 0)) done
        ∙ sym (ap (λ b. cond b (get_or first (i + n) 0) (get_or first i 0)) told)
    | inr beyond ↦
        let off : (leb at i && ltb i (at + m)) ≡ false = grind (arith, nat_tests) in
        let on : ltb i at ≡ ltb i (at + m) = grind (arith, nat_tests) in
        now ∙ ap (λ b. cond b (get_or before (i + n) 0) (get_or before i 0)) off ∙ was i (omega arith) ∙ ap (λ b. cond b (get_or first (i + n) 0) (get_or first i 0)) on
  ]
]

-- once all blocks are copied
pub all_moved : (first last : List ℕ) (n end at i : ℕ) → end ≤ length first → n ≤ end → at ≡ end - n → i + n < end
    → ((k : ℕ) → k < length first → get_or last k 0 ≡ moved at n first k) → get_or last i 0 ≡ get_or first (i + n) 0
all_moved first last n end at i high within done small were =
    let on : ltb i at ≡ true = grind (arith, nat_tests) in
    were i (omega arith) ∙ ap (λ b. cond b (get_or first (i + n) 0) (get_or first i 0)) on
