-- Pieces that were given, and the octets that they make up.
use Rattle.std.proofs.Common.{◌≡◌, ℕ, ◌+◌, ◌<◌, ◌≤◌, List, [], ◌∷◌, ◌++◌, length, drop, get_or, Option, Some, refl, sym, ap, ◌∙◌, subst, arith, Bor}
use Rattle.std.proofs.lemmas.List.{append_assoc, append-nil, length-append, flat_map_more, drop_more, drop_all}
use Rattle.std.specs.Iterator.{Yields, Drains}
use Rattle.iw_octets.specs.Pieces.{joined, GivesOctets, AddUpTo, JoinTo}

-- one more item, behind those that were given
pub yields_push : {S A : Type 0} (steps : S → Option A → S → Type 0) (s : S) (xs : List A) (t : S) (x : A) (u : S) → Yields steps s xs t → steps t (Some x) u → Yields steps s (xs ++ x ∷ []) u
yields_push steps s [] t x u h k = (u, subst (λ a. steps a (Some x) u) (sym h) k, refl)
yields_push steps s (y ∷ ys) t x u h k = (h.0, h.1, yields_push steps h.0 ys t x u h.2 k)

pub joined_push : (xs : List (Bor (List ℕ))) (x : Bor (List ℕ)) → joined (xs ++ x ∷ []) ≡ joined xs ++ x.now
joined_push xs x = sym (flat_map_more (λ (p : Bor (List ℕ)). p.now) [] xs x)

-- the pieces from i on are piece i and those behind it
pub joined_more : (ps : List (Bor (List ℕ))) (i : ℕ) (d : Bor (List ℕ)) → i < length ps → joined (drop i ps) ≡ (get_or ps i d).now ++ joined (drop (i + 1) ps)
joined_more ps i d lt = ap joined (drop_more ps i d lt)

pub joined_all : (ps : List (Bor (List ℕ))) (i : ℕ) → length ps ≤ i → joined (drop i ps) ≡ []
joined_all ps i past = ap joined (drop_all i ps past)

-- a piece that comes behind those that were given still fits
pub next_fits : {S : Type 0} (steps : S → Option (Bor (List ℕ)) → S → Type 0) (pieces : S) (n : ℕ) (given : List (Bor (List ℕ))) (t : S) (piece : Bor (List ℕ)) (u : S)
    → AddUpTo steps pieces n → Yields steps pieces given t → steps t (Some piece) u → length (joined given) + length piece.now ≤ n
next_fits steps pieces n given t piece u adds given_by step =
    let fits = adds.fits (given ++ piece ∷ []) u (yields_push steps pieces given t piece u given_by step) in
    omega (arith, fits, ap length (joined_push given piece), length-append (joined given) piece.now)

-- what was given and what is left make up what was left before
pub gives_all : (left : List ℕ) (xs : List (Bor (List ℕ))) (after : List ℕ) → Yields GivesOctets left xs after → left ≡ joined xs ++ after
gives_all left [] after h = h
gives_all left (x ∷ xs) after h = h.1.1 ∙ ap (λ ys. x.now ++ ys) (gives_all h.0 xs after h.2) ∙ sym (append_assoc x.now (joined xs) after)

pub drains_all : (left : List ℕ) (xs : List (Bor (List ℕ))) → Drains GivesOctets left xs → joined xs ≡ left
drains_all left xs h =
    let ends : h.1.0 ≡ [] = h.1.2.0 in
    sym (gives_all left xs h.1.0 h.1.1 ∙ ap (λ ys. joined xs ++ ys) ends ∙ append-nil (joined xs))

-- an iterator that gives the octets that are left gives as many as are left, and just these
pub gives-add_up : (left : List ℕ) (n : ℕ) → n ≡ length left → AddUpTo GivesOctets left n
gives-add_up left n long = record {
  fits = λ xs t h. omega (arith, long, ap length (gives_all left xs t h), length-append (joined xs) t);
  fills = λ xs h. ap length (drains_all left xs h) ∙ sym long;
}

pub gives-join_to : (left octets : List ℕ) → JoinTo GivesOctets left octets → octets ≡ left
gives-join_to left octets h = h.2 ∙ drains_all left h.0 h.1
