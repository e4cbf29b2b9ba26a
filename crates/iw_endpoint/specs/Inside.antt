-- Where the streams of an endpoint lie, by number.
use Rattle.std.specs.Prelude.{◌≡◌, ◌≢◌, ℕ, ◌<◌, ◌≤◌, ◌^◌, List, map, Option, Some, None, IsSome}
use Rattle.std.specs.List.{range_with_len}
use Rattle.std.specs.Option.{option_and_then}

module _ {X : Type 0} where
  -- what lies at the place that is given for a number
  abbrev pub found : (ℕ → Option ℕ) → (ℕ → Option X) → ℕ → Option X
  found keys places number = option_and_then places (keys number)

  -- what each number below `next` has
  abbrev pub listed : (ℕ → Option ℕ) → (ℕ → Option X) → ℕ → List (Option X)
  listed keys places next = map (found keys places) (range_with_len 0 next)

  pub record Keeps (keys : ℕ → Option ℕ) (places : ℕ → Option X) (next : ℕ) : Type 0 where
    pub least : 64 ≤ next
    pub most : next ≤ 2 ^ 32
    pub below : (n k : ℕ) → keys n ≡ Some k → n < next
    pub there : (n k : ℕ) → keys n ≡ Some k → IsSome (places k)
    -- no two lie in one place
    pub apart : (n m k : ℕ) → keys n ≡ Some k → keys m ≡ Some k → n ≡ m
    -- nothing is kept that no number finds
    pub owned : (k : ℕ) → IsSome (places k) → (n : ℕ) × (keys n ≡ Some k)

-- this is at k, and all else stays
pub record Changes {X : Type 0} (old new : ℕ → Option X) (k : ℕ) (here : Option X) : Type 0 where
  pub changed : new k ≡ here
  pub others : (m : ℕ) → m ≢ k → new m ≡ old m

abbrev pub Stays : {X : Type 0} → (ℕ → Option X) → (ℕ → Option X) → Type 0
Stays old new = (m : ℕ) → new m ≡ old m

-- x lies in a place of its own, which is given for the number
pub record IsLaid {X : Type 0} (keys new_keys : ℕ → Option ℕ) (places new_places : ℕ → Option X) (number : ℕ) (x : X) : Type 0 where
  pub place : ℕ
  pub vacant : places place ≡ None
  pub kept : Changes keys new_keys number (Some place)
  pub put : Changes places new_places place (Some x)
