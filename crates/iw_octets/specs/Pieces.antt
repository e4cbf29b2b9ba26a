-- Octets that come in pieces, however they are cut.
use Rattle.std.specs.Prelude.{ℕ, ◌<◌, ◌≤◌, ◌≡◌, List, [], ◌++◌, length, Option, MatchOption}
use Rattle.std.specs.Borrow.{Bor}
use Rattle.std.specs.List.{flat_map}
use Rattle.std.specs.Iterator.{Drains, HoldsAlong}

-- pieces, one after the other
abbrev pub joined : List (Bor (List ℕ)) → List ℕ
joined pieces = flat_map (λ piece. piece.now) pieces

-- what an iterator over pieces gives where these octets are left: a piece of them that is not empty, or nothing where none are left
abbrev pub GivesOctets : List ℕ → Option (Bor (List ℕ)) → List ℕ → Type 0
GivesOctets left given after = MatchOption given ((left ≡ []) × (after ≡ [])) (λ piece. (0 < length piece.now) × (left ≡ piece.now ++ after))

-- the lengths of the pieces that an iterator gives add up to n
pub record AddUpTo {S : Type 0} (steps : S → Option (Bor (List ℕ)) → S → Type 0) (pieces : S) (n : ℕ) : Type 0 where
  pub fits : HoldsAlong steps pieces (λ given. length (joined given) ≤ n)
  pub fills : (given : List (Bor (List ℕ))) → Drains steps pieces given → length (joined given) ≡ n

-- the pieces that an iterator gives, joined, are these octets
abbrev pub JoinTo : {S : Type 0} → (S → Option (Bor (List ℕ)) → S → Type 0) → S → List ℕ → Type 0
JoinTo steps pieces octets = (given : List (Bor (List ℕ))) × Drains steps pieces given × (octets ≡ joined given)
