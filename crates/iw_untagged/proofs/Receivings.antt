-- What the checks of a placement tell, and what lending a pool leaves.
use Rattle.std.proofs.Common.{◌≡◌, ℕ, ◌<◌, ◌≤◌, Bool, true, false, nat_lt, nat_le, List, [], length, Option, Some, None, refl, arith}
use Rattle.std.specs.Prelude.{IsSome, unwrap_or}
use Rattle.std.specs.Option.{option_map}
use Rattle.std.proofs.lemmas.Bool.Decides.{nat_tests}
use Rattle.iw_untagged.specs.Receiving.{Source, Posted, Pooled, Receiving, exchanged, first_fault, lent, room_fault, seeing}

-- where nothing is wrong, the message is in range and its buffer has room
pub fits : (ahead : ℕ) (o : Option (List ℕ)) (end : ℕ) → room_fault ahead (option_map length o) end ≡ None → (ahead < 256) × IsSome o × (end ≤ length (unwrap_or o []))
fits ahead None end e = absurd (go (nat_le 256 ahead) e)
  where
    go : (far : Bool) → first_fault far true (nat_lt 0 end) ≡ None → ⊥
    go true e = cc
    go false e = cc
fits ahead (Some b) end e = go (nat_le 256 ahead) (nat_lt (length b) end) refl refl e
  where
    go : (far long : Bool) → nat_le 256 ahead ≡ far → nat_lt (length b) end ≡ long → first_fault far false long ≡ None → (ahead < 256) × (true ≡ true) × (end ≤ length b)
    go true long f l e = absurd (let no : ⊥ = cc in no)
    go false true f l e = absurd (let no : ⊥ = cc in no)
    go false false f l e = (grind (arith, nat_tests), refl, grind (arith, nat_tests))

-- a pool that is lent and taken back is as it was, and so is the queue
seen_back : (source : Source) (pool : List (List ℕ)) → (seeing (seeing source pool) (exchanged source pool) ≡ source) × (exchanged (seeing source pool) (exchanged source pool) ≡ pool)
seen_back (Posted buffers) pool = (refl, refl)
seen_back (Pooled places held) pool = (refl, refl)

pub lent_back : (r : Receiving) (pool : List (List ℕ)) → lent (lent r pool) (exchanged r.source pool) ≡ r
lent_back r pool = λ i. record r { source = (seen_back r.source pool).0 i }

pub taken_back : (source : Source) (pool : List (List ℕ)) → exchanged (seeing source pool) (exchanged source pool) ≡ pool
taken_back source pool = (seen_back source pool).1
