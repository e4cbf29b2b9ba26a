-- Lists that have a place for each number, from 0 on.
use Rattle.std.specs.Prelude.{ℕ, zero, suc, ◌-◌, List, [], ◌∷◌, ◌++◌, length, replicate, Option, None, Some}

module _ {X : Type 0} where
  -- with at least n places: nothing stands at those that are added
  abbrev pub filled : ℕ → List (Option X) → List (Option X)
  filled n xs = xs ++ replicate (n - length xs) None

  -- x stands at this number, however many places there were
  abbrev pub put_at : List (Option X) → ℕ → X → List (Option X)
  put_at [] zero x = Some x ∷ []
  put_at [] (suc n) x = None ∷ put_at [] n x
  put_at (y ∷ ys) zero x = Some x ∷ ys
  put_at (y ∷ ys) (suc n) x = y ∷ put_at ys n x

  -- o in front, unless nothing stands there nor behind
  abbrev pub in_front : Option X → List (Option X) → List (Option X)
  in_front None [] = []
  in_front (Some x) [] = Some x ∷ []
  in_front o (y ∷ ys) = o ∷ y ∷ ys

  -- without the places past the last that has something
  abbrev pub trimmed : List (Option X) → List (Option X)
  trimmed [] = []
  trimmed (x ∷ xs) = in_front x (trimmed xs)
