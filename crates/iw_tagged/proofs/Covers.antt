-- The parts of a message cover it.
use Rattle.std.proofs.Common.{◌≡◌, ℕ, zero, suc, ◌+◌, ◌-◌, ◌*◌, ◌<◌, ◌≤◌, true, false, List, [], ◌∷◌, ◌++◌, take, drop, map, replicate, refl, ap, sym, ◌∙◌, arith}
use Rattle.std.specs.List.{flat_map, All}
use Rattle.std.proofs.lemmas.List.{append-nil, drop-drop, take_all, map-append}
use Rattle.std.proofs.lemmas.List.Concat.{flat_map-append}
use Rattle.std.proofs.lemmas.List.Elements.{All-nil, All-cons, All-append}
use Rattle.std.proofs.lemmas.Nat.{div-add-mod'}
use Rattle.std.proofs.Math.Nat.{lt-div-mul-add}
use Rattle.std.proofs.Math.Seq.{take-add}
use Rattle.iw_octets.specs.declared.part.Part.{Part}
use Rattle.iw_octets.specs.Parts.{full_parts, full_count, parts_from}
use Rattle.iw_tagged.specs.Laws.{octets_of, Covers}

-- full parts, joined, are so many octets
joined-full : (message : List ℕ) (count offset size : ℕ) → flat_map (octets_of message) (full_parts count offset size) ≡ take (count * size) (drop offset message)
unfolding full_parts
joined-full message zero offset size = ap (λ n. take n (drop offset message)) (let none : 0 ≡ 0 * size = omega arith in none)
joined-full message (suc count) offset size =
    ap (λ rest. take size (drop offset message) ++ rest) (joined-full message count (offset + size) size ∙ ap (take (count * size)) (sym (drop-drop size offset message)))
    ∙ sym (take-add size (count * size) (drop offset message))
    ∙ ap (λ n. take n (drop offset message)) (let all : size + count * size ≡ suc count * size = omega arith in all)

marked-full : (count offset size : ℕ) → map (λ (part : Part). part.last) (full_parts count offset size) ≡ replicate count false
unfolding full_parts
marked-full zero offset size = refl
marked-full (suc count) offset size = ap (λ rest. false ∷ rest) (marked-full count (offset + size) size)

-- what holds of a part with so many octets holds of full parts
All-full : (P : ℕ → Type 0) (count offset size : ℕ) → P size → All (λ (part : Part). P part.n) (full_parts count offset size)
unfolding full_parts
All-full P zero offset size holds = All-nil (λ (part : Part). P part.n)
All-full P (suc count) offset size holds = All-cons (λ (part : Part). P part.n) (record { offset = offset; n = size; last = false }) (full_parts count (offset + size) size) holds (All-full P count (offset + size) size holds)

-- the last part is not full only because no more is left
last-fits : (n size : ℕ) → 0 < size → n - full_count n size * size ≤ size
last-fits n size some = omega (arith, lt-div-mul-add {a = n - 1} {b = size} some)

last-filled : (n size : ℕ) → 0 < n → 0 < n - full_count n size * size
last-filled n size some = omega (arith, div-add-mod' (n - 1) size)

full-within : (n size : ℕ) → full_count n size * size ≤ n
full-within n size = omega (arith, div-add-mod' (n - 1) size)

pub parts-cover : (len size : ℕ) → 0 < size → Covers len size
unfolding parts_from
parts-cover len size some =
    let count : ℕ = full_count len size in
    let last : Part = record { offset = 0 + count * size; n = len - count * size; last = true } in
    record {
      joined = λ message long.
          flat_map-append (octets_of message) (full_parts count 0 size) (last ∷ [])
          ∙ (λ i. joined-full message count 0 size i ++ append-nil (take (len - count * size) (drop (0 + count * size) message)) i)
          ∙ ap (λ xs. take (count * size) message ++ take (len - count * size) xs) (ap (λ k. drop k message) (let first : 0 + count * size ≡ count * size = omega arith in first))
          ∙ sym (take-add (count * size) (len - count * size) message)
          ∙ take_all (count * size + (len - count * size)) message (omega (arith, full-within len size));
      marked = map-append (λ (part : Part). part.last) (full_parts count 0 size) (last ∷ []) ∙ ap (λ xs. xs ++ true ∷ []) (marked-full count 0 size);
      fits = All-append (λ (part : Part). part.n ≤ size) (full_parts count 0 size) (last ∷ []) (All-full (λ n. n ≤ size) count 0 size (omega arith))
          (All-cons (λ (part : Part). part.n ≤ size) last [] (last-fits len size some) (All-nil (λ (part : Part). part.n ≤ size)));
      filled = λ something. All-append (λ (part : Part). 0 < part.n) (full_parts count 0 size) (last ∷ []) (All-full (λ n. 0 < n) count 0 size some)
          (All-cons (λ (part : Part). 0 < part.n) last [] (last-filled len size something) (All-nil (λ (part : Part). 0 < part.n)));
    }
