-- How many regions there are in each domain.
use Rattle.std.specs.Prelude.{◌≡◌, ◌⊎◌, ◌+◌, ◌-◌, ◌≤◌, ◌<◌, ℕ, List, [], ◌∷◌, ◌++◌, length, slice_index, slice_set, EachIndex}
use Rattle.iw_endpoint.specs.Endpoint.{EndpointState, added}

-- no domain has more than it may, and there are no more domains than there may be
abbrev pub AreWithin : List ℕ → Type 0
AreWithin counts = (length counts ≤ 255) × EachIndex counts (λ place. slice_index counts place ≤ 1024)

-- the domain of this place has room for one more region
abbrev pub HasRoom : List ℕ → ℕ → Type 0
HasRoom counts place = (place < length counts) × (slice_index counts place < 1024)

-- the endpoint has one more domain, which has no region, or is as it was
abbrev pub MayAdd : List ℕ → List ℕ → EndpointState → EndpointState → Type 0
MayAdd counts counts' e e' =
    ((counts' ≡ counts) × (e' ≡ e)) ⊎ ((counts' ≡ counts ++ 0 ∷ []) × (e' ≡ added e (length counts + 1)))

-- one more region is in the domain of this place
abbrev pub taken_at : List ℕ → ℕ → List ℕ
taken_at counts place = slice_set counts place (slice_index counts place + 1)

-- one fewer is
abbrev pub given_back_at : List ℕ → ℕ → List ℕ
given_back_at counts place = slice_set counts place (slice_index counts place - 1)
