-- What a placement changes.
use Rattle.std.proofs.Common.{◌≡◌, ◌≢◌, ℕ, zero, suc, ◌+◌, ◌<◌, ◌≤◌, List, [], ◌∷◌, length, take, drop, get_or, set, slice_get, Option, Some, None, refl, sym, ap, ◌∙◌, arith}
use Rattle.std.specs.Prelude.{IsSome, is_none, unwrap_or, if◌then◌else◌}
use Rattle.std.specs.Option.{option_map, option_map_or, option_or}
use Rattle.std.proofs.lemmas.Grind.{common_steps}
use Rattle.std.proofs.lemmas.List.{get_or-set_same, get_or-set_other, length-set}
use Rattle.std.proofs.lemmas.Option.{unwrap_or-slice_get}
use Rattle.iw_octets.specs.Octets.{splice}
use Rattle.iw_untagged.specs.Laws.{BindsAt, PlacesAt, octets_before, octets_after}
use Rattle.iw_untagged.specs.Receiving.{Source, Posted, Pooled, Receiving, HoldsPlaces, ahead_of, buffer_fault, buffer_for, buffer_in, bound_to, written_in}
use Rattle.iw_untagged.proofs.Receivings.{fits}
use Rattle.iw_untagged.proofs.Splices.{length-splice}

-- ---- octets that are written over others
there : (old : List ℕ) (at : ℕ) (new : List ℕ) → at + length new ≤ length old → take (length new) (drop at (splice old at new)) ≡ new
there old at new room = grind (arith, common_steps)

before : (old : List ℕ) (at : ℕ) (new : List ℕ) → at + length new ≤ length old → take at (splice old at new) ≡ take at old
before old at new room = grind (arith, common_steps)

beyond : (old : List ℕ) (at : ℕ) (new : List ℕ) → at + length new ≤ length old → drop (at + length new) (splice old at new) ≡ drop (at + length new) old
beyond old at new room = grind (arith, common_steps)

-- ---- the buffer that they are written into
within : (xs : List (List ℕ)) (at : ℕ) → IsSome (slice_get xs at) → at < length xs
within [] at h = absurd (let no : ⊥ = cc in no)
within (x ∷ xs) zero h = omega arith
within (x ∷ xs) (suc at) h = let less : at < length xs = within xs at h in omega arith

given_within : (ps : List (Option (List ℕ))) (at : ℕ) (x : Option (List ℕ)) → IsSome (option_map_or (λ p. option_or p x) (slice_get ps at) None) → at < length ps
given_within [] at x h = absurd (let no : ⊥ = cc in no)
given_within (p ∷ ps) zero x h = omega arith
given_within (p ∷ ps) (suc at) x h = let less : at < length ps = given_within ps at x h in omega arith

spliced : (s : Source) (at mo : ℕ) (octets : List ℕ) → IsSome (buffer_for s at) → unwrap_or (buffer_in (written_in (bound_to s at) at mo octets) at) [] ≡ splice (unwrap_or (buffer_for s at) []) mo octets
spliced (Posted xs) at mo octets h =
    let new : List ℕ = splice (get_or xs at []) mo octets in
    unwrap_or-slice_get (set xs at new) at [] ∙ get_or-set_same xs at new [] (within xs at h) ∙ ap (λ b. splice b mo octets) (sym (unwrap_or-slice_get xs at []))
spliced (Pooled ps pool) at mo octets h =
    let o : Option (List ℕ) = buffer_for (Pooled ps pool) at in
    let lt : at < length ps = given_within ps at (slice_get pool 0) h in
    let now : List (Option (List ℕ)) = set ps at o in
    let is : get_or now at None ≡ o = get_or-set_same ps at o None lt in
    let new : Option (List ℕ) = option_map (λ b. splice b mo octets) (get_or now at None) in
    ap (λ z. unwrap_or z []) (get_or-set_same now at new None (omega (arith, lt, length-set ps at o)) ∙ ap (option_map (λ b. splice b mo octets)) is) ∙ go o h
  where
    go : (o : Option (List ℕ)) → IsSome o → unwrap_or (option_map (λ b. splice b mo octets) o) [] ≡ splice (unwrap_or o []) mo octets
    go None h = absurd (let no : ⊥ = cc in no)
    go (Some b) h = refl

-- ---- and all others
set_others : (xs : List (List ℕ)) (at i : ℕ) (new : List ℕ) → i ≢ at → slice_get (set xs at new) i ≡ slice_get xs i
set_others [] at i new other = refl
set_others (x ∷ xs) zero zero new other = absurd (other refl)
set_others (x ∷ xs) zero (suc i) new other = refl
set_others (x ∷ xs) (suc at) zero new other = refl
set_others (x ∷ xs) (suc at) (suc i) new other = set_others xs at i new (λ same. other (ap suc same))

stays : (s : Source) (at mo : ℕ) (octets : List ℕ) (i : ℕ) → i ≢ at → buffer_in (written_in (bound_to s at) at mo octets) i ≡ buffer_in s i
stays (Posted xs) at mo octets i other = set_others xs at i (splice (get_or xs at []) mo octets) other
stays (Pooled ps pool) at mo octets i other =
    let o : Option (List ℕ) = buffer_for (Pooled ps pool) at in
    get_or-set_other (set ps at o) at i (option_map (λ b. splice b mo octets) (get_or (set ps at o) at None)) None other ∙ get_or-set_other ps at i o None other

pub places_there : (r : Receiving) (msn mo : ℕ) (octets : List ℕ) → buffer_fault r msn mo (length octets) ≡ None → PlacesAt r msn mo octets
places_there r msn mo octets e =
    let f = fits (ahead_of r.due msn) (buffer_for r.source (ahead_of r.due msn)) (mo + length octets) e in
    let old : List ℕ = octets_before r msn in
    let room : mo + length octets ≤ length (octets_before r msn) = f.2 in
    let is : octets_after r msn mo octets ≡ splice (octets_before r msn) mo octets = spliced r.source (ahead_of r.due msn) mo octets f.1 in
    record {
      there = ap (λ b. take (length octets) (drop mo b)) is ∙ there old mo octets room;
      before = ap (take mo) is ∙ before old mo octets room;
      beyond = ap (drop (mo + length octets)) is ∙ beyond old mo octets room;
      as_long = ap length is ∙ length-splice old mo octets room;
      others = λ i other. stays r.source (ahead_of r.due msn) mo octets i other;
    }

-- ---- a buffer is bound
bound_there : (s : Source) (at : ℕ) → HoldsPlaces s → at < 256 → buffer_in (bound_to s at) at ≡ buffer_for s at
bound_there (Posted xs) at holds near = refl
bound_there (Pooled ps pool) at holds near = get_or-set_same ps at (buffer_for (Pooled ps pool) at) None (omega (arith, holds, near))

bound_others : (s : Source) (at i : ℕ) → i ≢ at → buffer_in (bound_to s at) i ≡ buffer_in s i
bound_others (Posted xs) at i other = refl
bound_others (Pooled ps pool) at i other = get_or-set_other ps at i (buffer_for (Pooled ps pool) at) None other

-- what is bound already stays, and the pool with it
place_kept : (ps : List (Option (List ℕ))) (at : ℕ) (x : Option (List ℕ)) → IsSome (get_or ps at None) → set ps at (option_map_or (λ p. option_or p x) (slice_get ps at) None) ≡ ps
place_kept [] at x h = absurd (let no : ⊥ = cc in no)
place_kept (None ∷ ps) zero x h = absurd (let no : ⊥ = cc in no)
place_kept (Some b ∷ ps) zero x h = refl
place_kept (p ∷ ps) (suc at) x h = ap (λ rest. p ∷ rest) (place_kept ps at x h)

pool_kept : (o : Option (List ℕ)) (pool : List (List ℕ)) → IsSome o → (if is_none o then drop 1 pool else pool) ≡ pool
pool_kept None pool h = absurd (let no : ⊥ = cc in no)
pool_kept (Some b) pool h = refl

bound_kept : (s : Source) (at : ℕ) → IsSome (buffer_in s at) → bound_to s at ≡ s
bound_kept (Posted xs) at h = refl
bound_kept (Pooled ps pool) at h = λ i. Pooled (place_kept ps at (slice_get pool 0) h i) (pool_kept (get_or ps at None) pool h i)

pub binds_there : (s : Source) (at : ℕ) → BindsAt s at
binds_there s at = record {
  there = bound_there s at;
  others = bound_others s at;
  kept = bound_kept s at;
}
