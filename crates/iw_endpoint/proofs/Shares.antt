-- How many buffers of a pool streams have bound, and what is left for the others.
use Rattle.std.proofs.Common.{◌≡◌, ◌≢◌, ℕ, zero, suc, ◌+◌, ◌<◌, ◌≤◌, Bool, true, false, nat_lt, if◌then◌else◌, List, [], ◌∷◌, length, set, get_or, Option, Some, None, Ok, refl, sym, ap, subst, ◌∙◌, arith}
use Rattle.std.specs.Prelude.{◌==◌, IsSome, unwrap_or}
use Rattle.std.specs.List.{slice_get}
use Rattle.std.specs.Option.{option_or}
use Rattle.std.proofs.lemmas.Bool.{true≢false}
use Rattle.std.proofs.lemmas.Bool.Decides.{nat_tests}
use Rattle.std.proofs.lemmas.List.{get_or-set_other}
use Rattle.iw_memory.specs.Table.{Table}
use Rattle.iw_untagged.specs.Receiving.{Source, Posted, Pooled, HoldsPlaces, shares_pool, seeing, buffer_for}
use Rattle.iw_stream.specs.Pooling.{bound_buffers}
use Rattle.iw_stream.specs.Stream.{StreamState}
use Rattle.iw_stream.specs.Work.{work_step, table_worked}
use Rattle.iw_stream.proofs.Bound.{spare, worked_few}
use Rattle.iw_endpoint.specs.Endpoint.{EndpointState, Pool, stream_of, stream_at, unopened, pool_of, answer_at, lent_to, left_of, step_at, after_work}
use Rattle.iw_endpoint.specs.Sharing.{bound_at, emptied, has_fewer, step_alone, step_within, after_work_alone, after_work_within}
use Rattle.iw_endpoint.specs.Shares.{without_buffers, StepsKeepShares, bound_of, share_of, all_bound, all_shares, SharesSuffice}

-- ---- tests
is_less : (m n : ℕ) → m < n → nat_lt m n ≡ true
is_less m n h = grind (arith, nat_tests)

is_not_less : (m n : ℕ) → n ≤ m → nat_lt m n ≡ false
is_not_less m n h = grind (arith, nat_tests)

less_is : (m n : ℕ) → nat_lt m n ≡ true → m < n
less_is m n h = grind (arith, nat_tests)

-- ---- what a step is
less : (e : EndpointState) (number share : ℕ) → bound_at e number < share → (step_within e number share ≡ step_at e number) × (after_work_within e number share ≡ after_work e number)
less e number share h =
    let test = is_less (bound_at e number) share h in
    (ap (λ b. if b then step_at e number else step_alone e number) test, ap (λ b. if b then after_work e number else after_work_alone e number) test)

emptied_there : (pools : List (Option Pool)) (pd : ℕ) → emptied (get_or pools pd None) ≡ get_or (set pools pd (emptied (get_or pools pd None))) pd None
emptied_there [] zero = refl
emptied_there [] (suc pd) = refl
emptied_there (p ∷ pools) zero = refl
emptied_there (p ∷ pools) (suc pd) = emptied_there pools pd

step_there : (e : EndpointState) (o : Option StreamState) → answer_at o (λ s. work_step e.table (lent_to (emptied (pool_of e s.domain)) s))
    ≡ answer_at o (λ s. work_step e.table (lent_to (get_or (set e.pools (unwrap_or o unopened).domain (emptied (pool_of e (unwrap_or o unopened).domain))) s.domain None) s))
step_there e None = refl
step_there e (Some s) = ap (λ p. Ok (work_step e.table (lent_to p s))) (emptied_there e.pools s.domain)

left_there : (e : EndpointState) (number : ℕ) → after_work_alone e number ≡ record (after_work (without_buffers e number) number) { pools = e.pools }
left_there e number =
    let s = stream_at e number in
    ap (λ (p : Option Pool). record {
      table = table_worked e.table (lent_to p s);
      pools = e.pools;
      streams = set e.streams number (Some (left_of e.table p s));
      closed = e.closed;
    }) (emptied_there e.pools s.domain)

full : (e : EndpointState) (number share : ℕ) → share ≤ bound_at e number
    → (step_within e number share ≡ step_at (without_buffers e number) number) × (after_work_within e number share ≡ record (after_work (without_buffers e number) number) { pools = e.pools })
full e number share h =
    let test = is_not_less (bound_at e number) share h in (
      ap (λ b. if b then step_at e number else step_alone e number) test ∙ step_there e (stream_of e number),
      ap (λ b. if b then after_work e number else after_work_alone e number) test ∙ left_there e number,
    )

-- ---- how much is bound then
spare_few : (pool : List (List ℕ)) → spare pool ≤ 1
spare_few [] = omega arith
spare_few (b ∷ bs) = omega arith

-- with the pool of its domain it binds one buffer at most, and none with an empty one
left_few : (table : Table) (o : Option Pool) (s : StreamState) → IsSome o → bound_buffers (left_of table o s) ≤ bound_buffers s + 1
left_few table None s there = absurd (true≢false (sym there))
left_few table (Some pool) s there = omega (arith, worked_few table s pool, spare_few pool)

left_as_few : (table : Table) (o : Option Pool) (s : StreamState) → IsSome o → bound_buffers (left_of table (emptied o) s) ≤ bound_buffers s
left_as_few table None s there = absurd (true≢false (sym there))
left_as_few table (Some pool) s there = omega (arith, worked_few table s [])

-- what is bound at a number once a stream was put there: that of the stream, or nothing if none stood there
put_within : (streams : List (Option StreamState)) (number share : ℕ) (s : StreamState) → bound_buffers s ≤ share → bound_buffers (unwrap_or (get_or streams number None) unopened) ≤ share
    → bound_buffers (unwrap_or (get_or (set streams number (Some s)) number None) unopened) ≤ share
put_within [] number share s few was = was
put_within (x ∷ xs) zero share s few was = few
put_within (x ∷ xs) (suc n) share s few was = put_within xs n share s few was

kept : (e : EndpointState) (number share : ℕ) → IsSome (pool_of e (stream_at e number).domain) → bound_at e number ≤ share → bound_at (after_work_within e number share) number ≤ share
kept e number share there was = go (has_fewer e number share) refl
  where
    go : (fewer : Bool) → has_fewer e number share ≡ fewer → bound_at (if fewer then after_work e number else after_work_alone e number) number ≤ share
    go true is =
        let s = stream_at e number in
        let fewer = less_is (bound_at e number) share is in
        put_within e.streams number share (left_of e.table (pool_of e s.domain) s) (omega (arith, left_few e.table (pool_of e s.domain) s there, fewer)) was
    go false is =
        let s = stream_at e number in
        put_within e.streams number share (left_of e.table (emptied (pool_of e s.domain)) s) (omega (arith, left_as_few e.table (pool_of e s.domain) s there, was)) was

others : (e : EndpointState) (number share n : ℕ) → n ≢ number → bound_at (after_work_within e number share) n ≡ bound_at e n
others e number share n apart = go (has_fewer e number share)
  where
    go : (fewer : Bool) → bound_at (if fewer then after_work e number else after_work_alone e number) n ≡ bound_at e n
    go true = ap (λ o. bound_buffers (unwrap_or o unopened)) (get_or-set_other e.streams number n (Some (left_of e.table (pool_of e (stream_at e number).domain) (stream_at e number))) None apart)
    go false = ap (λ o. bound_buffers (unwrap_or o unopened)) (get_or-set_other e.streams number n (Some (left_of e.table (emptied (pool_of e (stream_at e number).domain)) (stream_at e number))) None apart)

pub keeps_share : StepsKeepShares
keeps_share e number share = record { less = less e number share; full = full e number share; kept = kept e number share; others = others e number share }

-- ---- all streams of a domain
-- each within its share, one of them with less: so less is bound than all shares
within_all : (given : ℕ → ℕ) (pd number : ℕ) (streams : List (Option StreamState)) → ((n : ℕ) → bound_of pd (get_or streams n None) ≤ share_of pd (given (number + n)) (get_or streams n None))
    → all_bound pd streams ≤ all_shares given pd number streams
within_all given pd number [] each = omega arith
within_all given pd number (s ∷ streams) each =
    let here : bound_of pd s ≤ share_of pd (given number) s = subst (λ k. bound_of pd s ≤ share_of pd (given k) s) (omega arith) (each zero) in
    let rest = within_all given pd (suc number) streams (λ n. subst (λ k. bound_of pd (get_or streams n None) ≤ share_of pd (given k) (get_or streams n None)) (omega arith) (each (suc n))) in
    omega (arith, here, rest)

less_than_all : (given : ℕ → ℕ) (pd number : ℕ) (streams : List (Option StreamState)) (m : ℕ) → ((n : ℕ) → bound_of pd (get_or streams n None) ≤ share_of pd (given (number + n)) (get_or streams n None))
    → bound_of pd (get_or streams m None) < share_of pd (given (number + m)) (get_or streams m None) → all_bound pd streams < all_shares given pd number streams
less_than_all given pd number [] zero each less = absurd (let no : ⊥ = omega (arith, less) in no)
less_than_all given pd number [] (suc m) each less = absurd (let no : ⊥ = omega (arith, less) in no)
less_than_all given pd number (s ∷ streams) zero each less =
    let here : bound_of pd s < share_of pd (given number) s = subst (λ k. bound_of pd s < share_of pd (given k) s) (omega arith) less in
    let rest = within_all given pd (suc number) streams (λ n. subst (λ k. bound_of pd (get_or streams n None) ≤ share_of pd (given k) (get_or streams n None)) (omega arith) (each (suc n))) in
    omega (arith, here, rest)
less_than_all given pd number (s ∷ streams) (suc m) each less =
    let here : bound_of pd s ≤ share_of pd (given number) s = subst (λ k. bound_of pd s ≤ share_of pd (given k) s) (omega arith) (each zero) in
    let rest = less_than_all given pd (suc number) streams m (λ n. subst (λ k. bound_of pd (get_or streams n None) ≤ share_of pd (given k) (get_or streams n None)) (omega arith) (each (suc n)))
    (subst (λ k. bound_of pd (get_or streams m None) < share_of pd (given k) (get_or streams m None)) (omega arith) less) in
    omega (arith, here, rest)

-- a stream of the domain
its_own : (pd share : ℕ) (s : StreamState) (own : Bool) → (s.domain == pd) ≡ own → s.domain ≡ pd → bound_buffers s < share → (if own then bound_buffers s else 0) < (if own then share else 0)
its_own pd share s true is domain less = less
its_own pd share s false is domain less = absurd (let no : ⊥ = grind (arith, nat_tests) in no)

-- ---- a buffer for each message
from_pool : (o : Option (List ℕ)) (pool : Pool) → 0 < length pool → IsSome (option_or o (slice_get pool 0))
from_pool (Some buffer) pool some = refl
from_pool None [] some = absurd (let no : ⊥ = omega (arith, some) in no)
from_pool None (b ∷ bs) some = refl

at_place : (places : List (Option (List ℕ))) (pool : Pool) (i : ℕ) → 0 < length pool → i < length places → IsSome (buffer_for (Pooled places pool) i)
at_place [] pool i some low = absurd (let no : ⊥ = omega (arith, low) in no)
at_place (p ∷ places) pool zero some low = from_pool p pool some
at_place (p ∷ places) pool (suc i) some low = at_place places pool i some (omega (arith, low))

for_each : (s : Source) (pool : Pool) → 0 < length pool → shares_pool s ≡ true → HoldsPlaces s → (i : ℕ) → i < 256 → IsSome (buffer_for (seeing s pool) i)
for_each (Posted xs) pool some shared holds i low = absurd (let no : ⊥ = cc in no)
for_each (Pooled places held) pool some shared holds i low = at_place places pool i some (omega (arith, holds, low))

pub finds_buffers : SharesSuffice
finds_buffers e pd given pool number s fit has =
    let own = its_own pd (given number) s (s.domain == pd) refl has.domain has.less in
    let less : bound_of pd (stream_of e number) < share_of pd (given (0 + number)) (stream_of e number) =
    subst (λ k. bound_of pd (stream_of e number) < share_of pd (given k) (stream_of e number)) (omega arith)
    (subst (λ (o : Option StreamState). bound_of pd o < share_of pd (given number) o) (sym has.found) own) in
    let all = less_than_all given pd 0 e.streams number (λ n. subst (λ k. bound_of pd (stream_of e n) ≤ share_of pd (given k) (stream_of e n)) (omega arith) (fit.within n)) less in
    let some : 0 < length pool = omega (arith, fit.enough, all) in
    record { some = some; each = for_each s.receiving.source pool some }
