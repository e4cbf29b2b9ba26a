-- The parts of a message, one by one.
use Rattle.std.proofs.Common.{◌≡◌, ◌==◌, ℕ, suc, ◌+◌, ◌-◌, ◌*◌, ◌/◌, ◌<◌, ◌≤◌, min, if◌then◌else◌, true, false, [], ◌∷◌, ◌++◌, ap, sym, ◌∙◌, arith, inl, inr}
use Rattle.std.specs.Prelude.{nat_le}
use Rattle.std.proofs.lemmas.Bool.{cases_lt}
use Rattle.std.proofs.lemmas.Bool.Decides.{eqb_tells, nat_tests}
use Rattle.std.proofs.lemmas.Nat.{div-mul-add}
use Rattle.std.proofs.Math.Nat.{add-div_right}
use Rattle.iw_octets.specs.declared.part.Part.{Part}
use Rattle.iw_octets.specs.Parts.{full_parts, full_count, parts_from}
use Rattle.iw_octets.specs.Laws.{PartsAreTaken}

abbrev last_part : ℕ → ℕ → Part
last_part offset n = record { offset = offset; n = n; last = true }

abbrev full_part : ℕ → ℕ → Part
full_part offset n = record { offset = offset; n = n; last = false }

-- what one part holds is left to the last
pub full_count-last : (n size : ℕ) → 0 < size → n ≤ size → full_count n size ≡ 0
full_count-last n size some fits =
    ap (λ m. m / size) (let e : n - 1 ≡ 0 * size + (n - 1) = omega arith in e) ∙ div-mul-add 0 size (n - 1) (omega arith)

-- of more than one part holds, one full part goes first
pub full_count-more : (n size : ℕ) → 0 < size → size < n → full_count n size ≡ suc (full_count (n - size) size)
full_count-more n size some more =
    let step : (n - size - 1 + size) / size ≡ (n - size - 1) / size + 1 = add-div_right (n - size - 1) some in
    let same : (n - 1) / size ≡ (n - size - 1 + size) / size = ap (λ m. m / size) (let e : n - 1 ≡ n - size - 1 + size = omega arith in e) in
    omega (arith, step, same)

pub parts_from-last : (offset n size : ℕ) → 0 < size → n ≤ size → parts_from offset n size ≡ record { offset = offset; n = n; last = true } ∷ []
unfolding parts_from full_parts
parts_from-last offset n size some fits =
    ap (λ count. full_parts count offset size ++ last_part (offset + count * size) (n - count * size) ∷ []) (full_count-last n size some fits)
    ∙ (λ i. last_part (let e : offset + 0 * size ≡ offset = omega arith in e i) (let e : n - 0 * size ≡ n = omega arith in e i) ∷ [])

pub parts_from-more : (offset n size : ℕ) → 0 < size → size < n → parts_from offset n size ≡ record { offset = offset; n = size; last = false } ∷ parts_from (offset + size) (n - size) size
unfolding parts_from full_parts
parts_from-more offset n size some more =
    let count : ℕ = full_count (n - size) size in
    let place : offset + suc count * size ≡ offset + size + count * size = omega arith in
    let rest : n - suc count * size ≡ n - size - count * size = omega arith in
    ap (λ count. full_parts count offset size ++ last_part (offset + count * size) (n - count * size) ∷ []) (full_count-more n size some more)
    ∙ (λ i. full_part offset size ∷ (full_parts count (offset + size) size ++ last_part (place i) (rest i) ∷ []))

-- the next part, and what is left behind it
pub parts_from-next : (offset left size n : ℕ) → 0 < size → n ≡ min left size →
    parts_from offset left size ≡ record { offset = offset; n = n; last = n == left } ∷ (if n == left then [] else parts_from (offset + n) (left - n) size)
parts_from-next offset left size n some is = elim (eqb_tells n left) [
  | inl all ↦
      parts_from-last offset left size some (omega (arith, all.1))
      ∙ (λ i. record { offset = offset; n = sym all.1 i; last = sym all.0 i } ∷ (if sym all.0 i then [] else parts_from (offset + n) (left - n) size))
  | inr less ↦
      let full : size ≡ n = omega (arith, less.1) in
      parts_from-more offset left size some (omega (arith, less.1))
      ∙ (λ i. record { offset = offset; n = full i; last = sym less.0 i } ∷ (if sym less.0 i then [] else parts_from (offset + full i) (left - full i) size))
]

-- the same of the part that the offset names
pub parts_are_taken : PartsAreTaken
parts_are_taken len size offset some = elim (cases_lt size (len - offset)) [
  | inl more ↦
      let over : false ≡ nat_le (len - offset) size = grind (arith, nat_tests) in
      let full : size ≡ min (len - offset) size = omega arith in
      let rest : len - offset - size ≡ len - (offset + size) = omega arith in
      parts_from-more offset (len - offset) size some more
      ∙ ap (λ left. full_part offset size ∷ parts_from (offset + size) left size) rest
      ∙ (λ i. record { offset = offset; n = full i; last = over i } ∷ (if over i then [] else parts_from (offset + full i) (len - (offset + full i)) size))
  | inr fits ↦
      let under : true ≡ nat_le (len - offset) size = grind (arith, nat_tests) in
      let left : len - offset ≡ min (len - offset) size = omega arith in
      parts_from-last offset (len - offset) size some fits
      ∙ (λ i. record { offset = offset; n = left i; last = under i } ∷ (if under i then [] else parts_from (offset + left i) (len - (offset + left i)) size))
]
