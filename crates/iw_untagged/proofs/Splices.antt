-- Writes into the middle of a list, one behind the other.
use Rattle.std.proofs.Common.{◌≡◌, ℕ, ◌+◌, ◌≤◌, List, [], ◌++◌, length, take, drop, sym, ap, ◌∙◌, arith, length-append, length-drop, append_assoc, add-zero}
use Rattle.std.proofs.lemmas.List.{append-nil, length-take, take-append-drop}
use Rattle.std.proofs.lemmas.Slice.{drop-append-drop}
use Rattle.std.proofs.Math.Seq.{take-append_seam}
use Rattle.iw_octets.specs.Octets.{splice}

pub splice-nothing : (old : List ℕ) (at : ℕ) → splice old at [] ≡ old
splice-nothing old at = simp (append-nil, add-zero) (take-append-drop at old)

-- what fits leaves the list as long as it was
pub length-splice : (old : List ℕ) (at : ℕ) (new : List ℕ) → at + length new ≤ length old → length (splice old at new) ≡ length old
length-splice old at new fits = grind (arith, length-take, length-append, length-drop)

-- a write right behind another is one write
pub splice-more : (old : List ℕ) (at : ℕ) (front more : List ℕ) → at + length front + length more ≤ length old → splice (splice old at front) (at + length front) more ≡ splice old at (front ++ more)
splice-more old at front more fits =
    let edge : List ℕ = take at old ++ front in
    let k : ℕ = at + length front in
    let long : length edge ≡ k = grind (arith, length-take, length-append) in
    let read : take k (edge ++ drop k old) ≡ edge = ap (λ n. take n (edge ++ drop k old)) (sym long) ∙ take-append_seam edge (drop k old) in
    let rest : drop (k + length more) (edge ++ drop k old) ≡ drop (k + length more) old = drop-append-drop k old edge (k + length more) (omega arith) long in
    let ends : k + length more ≡ at + length (front ++ more) = omega (arith, length-append front more) in
    (λ i. (read i ++ more) ++ rest i) ∙ (λ i. append_assoc (take at old) front more i ++ drop (ends i) old)

-- the same, where it is known only of equals that they are written
pub splice-next : (old buffer new given piece all : List ℕ) (at end : ℕ) → buffer ≡ splice old at given → end ≡ at + length given → new ≡ splice buffer end piece → all ≡ given ++ piece → at + length given + length piece ≤ length old → new ≡ splice old at all
splice-next old buffer new given piece all at end was here is more fits =
    is ∙ (λ i. splice (was i) (here i) piece) ∙ splice-more old at given piece fits ∙ ap (splice old at) (sym more)
