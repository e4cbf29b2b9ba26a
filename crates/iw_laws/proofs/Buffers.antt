-- What stands in a list of buffers: octets that were written stay, where those that are written later lie beside them.
use Rattle.std.proofs.Common.{◌≡◌, ◌⊎◌, inl, inr, ℕ, zero, suc, ◌+◌, ◌≤◌, List, [], ◌∷◌, ◌++◌, length, take, drop, Some, refl, sym, ap, ◌∙◌, arith, append_assoc, length-append, length-take}
use Rattle.std.specs.Prelude.{slice_get, slice_set, slice_index_or}
use Rattle.std.proofs.lemmas.List.{drop_at, take-append-le, take-append-drop}
use Rattle.std.proofs.lemmas.Option.{none-some}
use Rattle.std.proofs.lemmas.Slice.{drop-append-drop}
use Rattle.std.proofs.Math.Seq.{take-append_seam, take-append-add}
use Rattle.iw_octets.specs.Octets.{splice}
use Rattle.iw_laws.proofs.Checks.{HasBuffer, get_set, index_of, length-splice}

-- ---- one buffer

-- octets that were written stand there
written_there : (old new : List ℕ) (at : ℕ) → at + length new ≤ length old → take (length new) (drop at (splice old at new)) ≡ new
written_there old new at fits =
    let rest : List ℕ = drop (at + length new) old in
    ap (λ z. take (length new) (drop at z)) (append_assoc (take at old) new rest)
    ∙ ap (take (length new)) (drop_at (take at old) (new ++ rest) at (omega (arith, length-take at old, fits)))
    ∙ take-append_seam new rest

part-append : (m n : ℕ) (xs ys : List ℕ) → m + n ≤ length xs → take n (drop m (xs ++ ys)) ≡ take n (drop m xs)
part-append zero n xs ys fits = take-append-le n xs ys (omega (arith, fits))
part-append (suc m) n [] ys fits = absurd (omega (arith, fits))
part-append (suc m) n (x ∷ xs) ys fits = part-append m n xs ys (omega (arith, fits))

-- what stands before them stays
stays_before : (old new : List ℕ) (at m n : ℕ) → m + n ≤ at → at ≤ length old → take n (drop m (splice old at new)) ≡ take n (drop m old)
stays_before old new at m n before fits =
    let front : List ℕ = take at old in
    let rest : List ℕ = drop (at + length new) old in
    let long : m + n ≤ length front = omega (arith, before, length-take at old, fits) in
    ap (λ z. take n (drop m z)) (append_assoc front new rest)
    ∙ part-append m n front (new ++ rest) long
    ∙ sym (part-append m n front (drop at old) long)
    ∙ ap (λ z. take n (drop m z)) (take-append-drop at old)

-- so does what stands past them
stays_past : (old new : List ℕ) (at m n : ℕ) → at + length new ≤ m → at + length new ≤ length old → take n (drop m (splice old at new)) ≡ take n (drop m old)
stays_past old new at m n past fits =
    ap (take n) (drop-append-drop (at + length new) old (take at old ++ new) m past (omega (arith, length-append (take at old) new, length-take at old, fits)))

-- ---- a list of buffers

-- octets stand in the i-th, from a place on
pub record StandAt (bs : List (List ℕ)) (i at : ℕ) (octets : List ℕ) : Type 0 where
  pub buffer : List ℕ
  pub is : slice_get bs i ≡ Some buffer
  pub fits : at + length octets ≤ length buffer
  pub there : take (length octets) (drop at buffer) ≡ octets

-- they are written there
pub stands_written : (bs : List (List ℕ)) (i at : ℕ) (new : List ℕ) → HasBuffer bs i (at + length new) → StandAt (slice_set bs i (splice (slice_index_or bs i []) at new)) i at new
stands_written bs i at new b =
    let old : slice_index_or bs i [] ≡ b.buffer = index_of bs i b.buffer b.is in
    let fits : at + length new ≤ length (slice_index_or bs i []) = omega (arith, b.room, ap length old) in
    record {
      buffer = splice (slice_index_or bs i []) at new;
      is = get_set bs i (splice (slice_index_or bs i []) at new) b.buffer b.is;
      fits = omega (arith, length-splice (slice_index_or bs i []) new at fits, fits);
      there = written_there (slice_index_or bs i []) new at fits;
    }

-- others are written beside them
pub stands_beside : (bs : List (List ℕ)) (i at m : ℕ) (new octets : List ℕ) → HasBuffer bs i (at + length new) → (m + length octets ≤ at) ⊎ (at + length new ≤ m) → StandAt bs i m octets
    → StandAt (slice_set bs i (splice (slice_index_or bs i []) at new)) i m octets
stands_beside bs i at m new octets b apart k =
    let old : slice_index_or bs i [] ≡ k.buffer = index_of bs i k.buffer k.is in
    let here : slice_index_or bs i [] ≡ b.buffer = index_of bs i b.buffer b.is in
    let fits : at + length new ≤ length (slice_index_or bs i []) = omega (arith, b.room, ap length here) in
    record {
      buffer = splice (slice_index_or bs i []) at new;
      is = get_set bs i (splice (slice_index_or bs i []) at new) b.buffer b.is;
      fits = omega (arith, length-splice (slice_index_or bs i []) new at fits, k.fits, ap length old);
      there = elim apart [
        | inl before ↦ stays_before (slice_index_or bs i []) new at m (length octets) before (omega (arith, fits)) ∙ ap (λ z. take (length octets) (drop m z)) old ∙ k.there
        | inr past ↦ stays_past (slice_index_or bs i []) new at m (length octets) past fits ∙ ap (λ z. take (length octets) (drop m z)) old ∙ k.there
      ];
    }

get_other : (bs : List (List ℕ)) (i j : ℕ) (new : List ℕ) → (i ≡ j → ⊥) → slice_get (slice_set bs i new) j ≡ slice_get bs j
get_other [] i j new other = refl
get_other (b ∷ bs) zero zero new other = absurd (other refl)
get_other (b ∷ bs) zero (suc j) new other = refl
get_other (b ∷ bs) (suc i) zero new other = refl
get_other (b ∷ bs) (suc i) (suc j) new other = get_other bs i j new (λ e. other (ap suc e))

-- others are written into another buffer
pub stands_elsewhere : (bs : List (List ℕ)) (i j m : ℕ) (new octets : List ℕ) → (i ≡ j → ⊥) → StandAt bs j m octets → StandAt (slice_set bs i new) j m octets
stands_elsewhere bs i j m new octets other k = record { buffer = k.buffer; is = get_other bs i j new other ∙ k.is; fits = k.fits; there = k.there }

get_first : (bs more : List (List ℕ)) (i : ℕ) (b : List ℕ) → slice_get bs i ≡ Some b → slice_get (bs ++ more) i ≡ Some b
get_first [] more i b e = absurd (none-some _ e)
get_first (x ∷ bs) more zero b e = e
get_first (x ∷ bs) more (suc i) b e = get_first bs more i b e

-- a buffer is posted
pub stands_more : (bs more : List (List ℕ)) (i m : ℕ) (octets : List ℕ) → StandAt bs i m octets → StandAt (bs ++ more) i m octets
stands_more bs more i m octets k = record { buffer = k.buffer; is = get_first bs more i k.buffer k.is; fits = k.fits; there = k.there }

get_next : (bs : List (List ℕ)) (i : ℕ) → slice_get bs (suc i) ≡ slice_get (drop 1 bs) i
get_next [] i = refl
get_next (b ∷ bs) i = refl

-- the oldest is handed out
pub stands_next : (bs : List (List ℕ)) (i m : ℕ) (octets : List ℕ) → StandAt bs (suc i) m octets → StandAt (drop 1 bs) i m octets
stands_next bs i m octets k = record { buffer = k.buffer; is = sym (get_next bs i) ∙ k.is; fits = k.fits; there = k.there }

-- octets that stand past the first ones of the oldest
pub reads_on : (bs : List (List ℕ)) (firsts octets : List ℕ) → take (length firsts) (slice_index_or bs 0 []) ≡ firsts → StandAt bs 0 (length firsts) octets
    → take (length firsts + length octets) (slice_index_or bs 0 []) ≡ firsts ++ octets
reads_on bs firsts octets first k =
    let buffer : List ℕ = slice_index_or bs 0 [] in
    let old : buffer ≡ k.buffer = index_of bs 0 k.buffer k.is in
    let parts : buffer ≡ firsts ++ drop (length firsts) buffer = sym (take-append-drop (length firsts) buffer) ∙ ap (λ z. z ++ drop (length firsts) buffer) first in
    ap (take (length firsts + length octets)) parts
    ∙ take-append-add firsts (drop (length firsts) buffer) (length octets)
    ∙ ap (λ z. firsts ++ z) (ap (λ z. take (length octets) (drop (length firsts) z)) old ∙ k.there)
