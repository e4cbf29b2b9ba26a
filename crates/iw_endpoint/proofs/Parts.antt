-- Endpoints that are alike in one domain's part stay so under its calls, and no other part changes.
use Rattle.std.proofs.Common.{◌≡◌, ◌≢◌, ◌⊎◌, ℕ, zero, suc, ◌<◌, ◌≤◌, Bool, false, cond, List, [], ◌∷◌, length, map, set, get_or, Option, Some, None, refl, sym, ap, subst, ◌∙◌, inl, inr, eq-eqb, arith}
use Rattle.std.specs.Prelude.{◌==◌, IfSome, is_some, unwrap_or}
use Rattle.std.specs.Option.{option_map}
use Rattle.std.proofs.lemmas.List.{get_or_past, get_or-set_same, get_or-set_other, map-set, set-get_or, length-replicate, length-set}
use Rattle.std.proofs.lemmas.Bool.{cases_lt, cases_eq}
use Rattle.std.proofs.lemmas.Bool.Decides.{eqb_tells}
use Rattle.iw_memory.specs.Part as regions
use Rattle.iw_memory.specs.Table as tables
use Rattle.iw_memory.specs.Table.{Table, empty, is_added, with_part}
use Rattle.iw_memory.proofs.Callers.{length-with_part, part_of-with_part_same}
use Rattle.iw_stream.specs.Stream.{StreamState}
use Rattle.iw_endpoint.specs.declared.refusal.CallRefusal.TheVariants.{Refused}
use Rattle.iw_endpoint.specs.Endpoint.{EndpointState, Pool, HasNumbers, fresh, no_pools, no_streams, closed_at, pool_of, with_pool, stream_of, stream_at, unopened, with_stream, with_table, refusal_at}
use Rattle.iw_endpoint.specs.Isolation.{Call, HasDomains, IsOwn, IsOwnNumber, Opens, OwnStep, own_stream, own_number, part_of, alone, answer, after, owner, unless, if_there}
use Rattle.iw_endpoint.specs.Numbers.{trimmed}
use Rattle.iw_endpoint.proofs.Filled.{IsPut, at_filled, length_filled, at_trimmed, same_trimmed, set_is, within, index_set}
use Rattle.iw_endpoint.proofs.Tables.{AreAlike, alike-step, KeepsOthers, keeps-all, keeps-step}

-- ---- a stream, seen by a domain

off : (a b : ℕ) → a ≢ b → (a == b) ≡ false
off a b ne = elim (eqb_tells a b) [ inl same ↦ absurd (ne same.1) | inr other ↦ other.0 ]

own_is : (d : ℕ) (o : Option StreamState) → IsOwn d o → own_stream d o ≡ o
own_is d None h = refl
own_is d (Some s) h = ap (λ b. cond b (Some s) None) (eq-eqb s.domain d h)

own_other : (d other : ℕ) (o : Option StreamState) → IsOwn d o → other ≢ d → own_stream other o ≡ None
own_other d other None h ne = refl
own_other d other (Some s) h ne = ap (λ b. cond {A = Option StreamState} b (Some s) None) (off s.domain other (λ e. ne (sym e ∙ h)))

own_own : (d : ℕ) (o : Option StreamState) → own_stream d (own_stream d o) ≡ own_stream d o
own_own d None = refl
own_own d (Some s) = elim (eqb_tells s.domain d) [
  | inl same ↦ ap (λ b. own_stream d (cond b (Some s) None)) same.0
  | inr other ↦ ap (λ b. own_stream d (cond b (Some s) None)) other.0 ∙ sym (ap (λ b. cond {A = Option StreamState} b (Some s) None) other.0)
]

own_is_own : (d : ℕ) (o : Option StreamState) → IsOwn d (own_stream d o)
own_is_own d None = tt
own_is_own d (Some s) = elim (eqb_tells s.domain d) [
  | inl same ↦ subst (λ b. IsOwn d (cond b (Some s) None)) (sym same.0) same.1
  | inr other ↦ subst (λ b. IsOwn d (cond b (Some s) None)) (sym other.0) tt
]

own_index : (d : ℕ) (xs : List (Option StreamState)) (n : ℕ) → get_or (map (own_stream d) xs) n None ≡ own_stream d (get_or xs n None)
own_index d [] zero = refl
own_index d [] (suc n) = refl
own_index d (x ∷ xs) zero = refl
own_index d (x ∷ xs) (suc n) = own_index d xs n

-- the same of the domain of a closed stream
number_is : (d : ℕ) (o : Option ℕ) → IfSome o (λ x. x ≡ d) → own_number d o ≡ o
number_is d None h = refl
number_is d (Some x) h = ap (λ b. cond b (Some x) None) (eq-eqb x d h)

number_other : (d other : ℕ) (o : Option ℕ) → IfSome o (λ x. x ≡ d) → other ≢ d → own_number other o ≡ None
number_other d other None h ne = refl
number_other d other (Some x) h ne = ap (λ b. cond {A = Option ℕ} b (Some x) None) (off x other (λ e. ne (sym e ∙ h)))

number_own : (d : ℕ) (o : Option ℕ) → own_number d (own_number d o) ≡ own_number d o
number_own d None = refl
number_own d (Some x) = elim (eqb_tells x d) [
  | inl same ↦ ap (λ b. own_number d (cond b (Some x) None)) same.0
  | inr other ↦ ap (λ b. own_number d (cond b (Some x) None)) other.0 ∙ sym (ap (λ b. cond {A = Option ℕ} b (Some x) None) other.0)
]

number_is_own : (d : ℕ) (o : Option ℕ) → IfSome (own_number d o) (λ x. x ≡ d)
number_is_own d None = tt
number_is_own d (Some x) = elim (eqb_tells x d) [
  | inl same ↦ subst (λ b. IfSome (cond b (Some x) None) (λ x. x ≡ d)) (sym same.0) same.1
  | inr other ↦ subst (λ b. IfSome (cond b (Some x) None) (λ x. x ≡ d)) (sym other.0) tt
]

number_index : (d : ℕ) (xs : List (Option ℕ)) (n : ℕ) → get_or (map (own_number d) xs) n None ≡ own_number d (get_or xs n None)
number_index d [] zero = refl
number_index d [] (suc n) = refl
number_index d (x ∷ xs) zero = refl
number_index d (x ∷ xs) (suc n) = number_index d xs n

number_twice : (d : ℕ) (xs : List (Option ℕ)) → map (own_number d) (map (own_number d) xs) ≡ map (own_number d) xs
number_twice d [] = refl
number_twice d (x ∷ xs) = (λ i. number_own d x i ∷ number_twice d xs i)

-- ---- endpoints that a domain sees as one

pub record AreSeenAlike (d : ℕ) (e f : EndpointState) : Type 0 where
  pub table : AreAlike d e.table f.table
  pub places : length e.pools ≡ length f.pools
  pub pool : pool_of e d ≡ pool_of f d
  pub streams : (n : ℕ) → own_stream d (stream_of e n) ≡ own_stream d (stream_of f n)
  pub closed : map (own_number d) e.closed ≡ map (own_number d) f.closed
  -- both have places for the numbers that an application picks
  pub room : HasNumbers e × HasNumbers f

pub empty_size : length empty ≡ 256
unfolding empty
empty_size = length-replicate {A = regions.Part} 256 None

alone_size : (d : ℕ) (part : regions.Part) → length (with_part empty d part) ≡ 256
alone_size d part = length-with_part empty d part ∙ empty_size

alone_part : (t : Table) (d : ℕ) → length t ≡ 256 → tables.part_of t d ≡ tables.part_of (with_part empty d (tables.part_of t d)) d
alone_part t d all = elim (cases_lt d 256) [
  | inl within ↦ sym (part_of-with_part_same empty d (tables.part_of t d) (subst (λ n. d < n) (sym empty_size) within))
  | inr past ↦ get_or_past t d None (subst (λ n. n ≤ d) (sym all) past) ∙ sym (get_or_past (with_part empty d (tables.part_of t d)) d None (subst (λ n. n ≤ d) (sym (alone_size d (tables.part_of t d))) past))
]

no_pools_size : length no_pools ≡ 256
unfolding no_pools
no_pools_size = length-replicate {A = Option Pool} 256 None

no_streams_size : length no_streams ≡ 64
unfolding no_streams
no_streams_size = length-replicate {A = Option StreamState} 64 None

pub fresh_domains : HasDomains fresh
fresh_domains = (empty_size, no_pools_size, omega (arith, no_streams_size))

-- a domain has a place among both or neither
set_alike : (xs ys : List (Option Pool)) (d : ℕ) (o : Option Pool) → length xs ≡ length ys → get_or (set xs d o) d None ≡ get_or (set ys d o) d None
set_alike xs ys d o size = elim (cases_lt d (length xs)) [
  | inl within ↦ get_or-set_same xs d o None within ∙ sym (get_or-set_same ys d o None (subst (λ n. d < n) size within))
  | inr past ↦ get_or_past (set xs d o) d None (subst (λ n. n ≤ d) (sym (length-set xs d o)) past) ∙ sym (get_or_past (set ys d o) d None (subst (λ n. n ≤ d) (size ∙ sym (length-set ys d o)) past))
]

alone_pool : (pools : List (Option Pool)) (d : ℕ) → length pools ≡ 256 → get_or pools d None ≡ get_or (set no_pools d (get_or pools d None)) d None
alone_pool pools d all =
    sym (ap (λ xs. get_or xs d None) (set-get_or pools d None)) ∙ set_alike pools no_pools d (get_or pools d None) (all ∙ sym no_pools_size)

-- what stands at a number in a domain's part
alone_at : (d : ℕ) (e : EndpointState) (n : ℕ) → stream_of (alone d (part_of d e)) n ≡ own_stream d (stream_of e n)
alone_at d e n = at_filled 64 (trimmed (map (own_stream d) e.streams)) n ∙ at_trimmed (map (own_stream d) e.streams) n ∙ own_index d e.streams n

pub seen_alone : (d : ℕ) (e : EndpointState) → HasDomains e → AreSeenAlike d e (alone d (part_of d e))
seen_alone d e all = record {
  table = record { size = all.0 ∙ sym (alone_size d (tables.part_of e.table d)); part = alone_part e.table d all.0 };
  places = all.1 ∙ sym (length-set no_pools d (pool_of e d) ∙ no_pools_size);
  pool = alone_pool e.pools d all.1;
  streams = λ n. sym (ap (own_stream d) (alone_at d e n) ∙ own_own d (stream_of e n));
  closed = sym (number_twice d e.closed);
  room = (all.2, length_filled 64 (trimmed (map (own_stream d) e.streams)));
}

-- and the stream of a number, if it is the domain's at both
pub stream_alike : (d : ℕ) (e f : EndpointState) (n : ℕ) → IsOwn d (stream_of e n) → IsOwn d (stream_of f n) → AreSeenAlike d e f → stream_of e n ≡ stream_of f n
stream_alike d e f n here there h = sym (own_is d (stream_of e n) here) ∙ h.streams n ∙ own_is d (stream_of f n) there

pub closed_alike : (d : ℕ) (e f : EndpointState) (n : ℕ) → IfSome (closed_at e n) (λ x. x ≡ d) → IfSome (closed_at f n) (λ x. x ≡ d) → AreSeenAlike d e f → closed_at e n ≡ closed_at f n
closed_alike d e f n here there h =
    sym (number_is d (closed_at e n) here) ∙ sym (number_index d e.closed n) ∙ ap (λ xs. get_or xs n None) h.closed ∙ number_index d f.closed n ∙ number_is d (closed_at f n) there

pub alone_own : (d : ℕ) (e : EndpointState) (n : ℕ) → IsOwn d (stream_of (alone d (part_of d e)) n)
alone_own d e n = subst (λ o. IsOwn d o) (sym (alone_at d e n)) (own_is_own d (stream_of e n))

pub alone_number : (d : ℕ) (e : EndpointState) (n : ℕ) → IsOwnNumber d (alone d (part_of d e)) n
alone_number d e n = (alone_own d e n, subst (λ o. IfSome o (λ x. x ≡ d)) (sym (number_index d e.closed n)) (number_is_own d (closed_at e n)))

-- ---- steps that leave them alike

-- the same is put at a number of both
streams_alike : (d : ℕ) (xs ys new_xs new_ys : List (Option StreamState)) (n : ℕ) (o p : Option StreamState) → IsPut xs new_xs n o → IsPut ys new_ys n p → o ≡ p
    → ((m : ℕ) → own_stream d (get_or xs m None) ≡ own_stream d (get_or ys m None)) → (m : ℕ) → own_stream d (get_or new_xs m None) ≡ own_stream d (get_or new_ys m None)
streams_alike d xs ys new_xs new_ys n o p at_xs at_ys same h m = elim (cases_eq m n) [
  | inl here ↦
      ap (λ k. own_stream d (get_or new_xs k None)) here
      ∙ ap (own_stream d) (at_xs.here ∙ same ∙ sym at_ys.here)
      ∙ sym (ap (λ k. own_stream d (get_or new_ys k None)) here)
  | inr ne ↦ ap (own_stream d) (at_xs.others m ne) ∙ h m ∙ sym (ap (own_stream d) (at_ys.others m ne))
]

-- with these streams
abbrev pub with_streams : EndpointState → List (Option StreamState) → EndpointState
with_streams e streams = record e { streams = streams }

pub put_alike : (d : ℕ) (e f : EndpointState) (xs ys : List (Option StreamState)) (n : ℕ) (o p : Option StreamState) → IsPut e.streams xs n o → IsPut f.streams ys n p → o ≡ p → AreSeenAlike d e f → AreSeenAlike d (with_streams e xs) (with_streams f ys)
put_alike d e f xs ys n o p at_e at_f same h = record {
  table = h.table;
  places = h.places;
  pool = h.pool;
  streams = streams_alike d e.streams f.streams xs ys n o p at_e at_f same h.streams;
  closed = h.closed;
  room = (let a = h.room.0 in let b = at_e.more in omega (arith, a, b), let a = h.room.1 in let b = at_f.more in omega (arith, a, b));
}

pub with_alike : (d : ℕ) (e f : EndpointState) (n : ℕ) (x y : StreamState) → n < length e.streams → n < length f.streams → x ≡ y → AreSeenAlike d e f → AreSeenAlike d (with_stream e n x) (with_stream f n y)
with_alike d e f n x y at_e at_f same h =
    put_alike d e f (set e.streams n (Some x)) (set f.streams n (Some y)) n (Some x) (Some y) (set_is e.streams n (Some x) at_e) (set_is f.streams n (Some y) at_f) (ap Some same) h

-- the same number is closed in both
pub closes_alike : (d : ℕ) (e f : EndpointState) (n x : ℕ) → AreSeenAlike d e f → AreSeenAlike d (record e { closed = set e.closed n (Some x) }) (record f { closed = set f.closed n (Some x) })
closes_alike d e f n x h = record {
  table = h.table;
  places = h.places;
  pool = h.pool;
  streams = h.streams;
  closed = map-set (own_number d) e.closed n (Some x) ∙ (λ i. set (h.closed i) n (own_number d (Some x))) ∙ sym (map-set (own_number d) f.closed n (Some x));
  room = h.room;
}

pub with_tables_alike : (d : ℕ) (e f : EndpointState) (t u : Table) → AreAlike d t u → AreSeenAlike d e f → AreSeenAlike d (with_table e t) (with_table f u)
with_tables_alike d e f t u tables h = record { table = tables; places = h.places; pool = h.pool; streams = h.streams; closed = h.closed; room = h.room }

pub with_pool_alike : (d : ℕ) (e f : EndpointState) (x y : Option Pool) → x ≡ y → AreSeenAlike d e f → AreSeenAlike d (with_pool e d x) (with_pool f d y)
with_pool_alike d e f x y same h = record {
  table = h.table;
  places = length-set e.pools d x ∙ h.places ∙ sym (length-set f.pools d y);
  pool = set_alike e.pools f.pools d x h.places ∙ ap (λ o. get_or (set f.pools d o) d None) same;
  streams = h.streams;
  closed = h.closed;
  room = h.room;
}

pub unless_alike : {R : Type 0} (d : ℕ) (e f a b : EndpointState) (q : Option R) → AreSeenAlike d e f → AreSeenAlike d a b → AreSeenAlike d (unless q e a) (unless q f b)
unless_alike d e f a b None h after = after
unless_alike d e f a b (Some refusal) h after = h

-- a call at a stream that is not refused changes what the stream's number has
pub refusing_alike : {R : Type 0} (refusal : StreamState → Option R) (new : StreamState → EndpointState → EndpointState) (d : ℕ) (e f : EndpointState) (n : ℕ) → stream_of e n ≡ stream_of f n → AreSeenAlike d e f
    → ((s : StreamState) → stream_of e n ≡ Some s → stream_of f n ≡ Some s → AreSeenAlike d (new s e) (new s f))
    → AreSeenAlike d (unless (refusal_at (stream_of e n) refusal) e (new (stream_at e n) e)) (unless (refusal_at (stream_of f n) refusal) f (new (stream_at f n) f))
refusing_alike {R} refusal new d e f n same h step =
    subst (λ p. AreSeenAlike d (unless (refusal_at (stream_of e n) refusal) e (new (unwrap_or (stream_of e n) unopened) e)) (unless (refusal_at p refusal) f (new (unwrap_or p unopened) f))) same (go (stream_of e n) refl (sym same))
  where
    unrefused : (s : StreamState) (q : Option R) → AreSeenAlike d (new s e) (new s f) → AreSeenAlike d (unless (option_map Refused q) e (new s e)) (unless (option_map Refused q) f (new s f))
    unrefused s None stepped = stepped
    unrefused s (Some refusal) stepped = h

    go : (o : Option StreamState) → stream_of e n ≡ o → stream_of f n ≡ o → AreSeenAlike d (unless (refusal_at o refusal) e (new (unwrap_or o unopened) e)) (unless (refusal_at o refusal) f (new (unwrap_or o unopened) f))
    go None at_e at_f = h
    go (Some s) at_e at_f = unrefused s (refusal s) (step s at_e at_f)

-- one that can't be refused changes it where there is one
pub changing_alike : (new : StreamState → EndpointState → EndpointState) (d : ℕ) (e f : EndpointState) (n : ℕ) → stream_of e n ≡ stream_of f n → AreSeenAlike d e f
    → ((s : StreamState) → stream_of e n ≡ Some s → stream_of f n ≡ Some s → AreSeenAlike d (new s e) (new s f))
    → AreSeenAlike d (if_there (stream_of e n) e (new (stream_at e n) e)) (if_there (stream_of f n) f (new (stream_at f n) f))
changing_alike new d e f n same h step =
    subst (λ p. AreSeenAlike d (if_there (stream_of e n) e (new (unwrap_or (stream_of e n) unopened) e)) (if_there p f (new (unwrap_or p unopened) f))) same (go (stream_of e n) refl (sym same))
  where
    go : (o : Option StreamState) → stream_of e n ≡ o → stream_of f n ≡ o → AreSeenAlike d (if_there o e (new (unwrap_or o unopened) e)) (if_there o f (new (unwrap_or o unopened) f))
    go None at_e at_f = h
    go (Some s) at_e at_f = step s at_e at_f

-- a stream that is there at both is changed to one state
pub changed_alike : (d : ℕ) (e f : EndpointState) (n : ℕ) (s x y : StreamState) → stream_of e n ≡ Some s → stream_of f n ≡ Some s → x ≡ y → AreSeenAlike d e f → AreSeenAlike d (with_stream e n x) (with_stream f n y)
changed_alike d e f n s x y at_e at_f same h = with_alike d e f n x y (within e.streams n s at_e) (within f.streams n s at_f) same h

-- a step on the domain's regions
pub region_alike : {R : Type 0} (refusal : regions.Part → Option R) (own : regions.Part → regions.Part) (d : ℕ) (e f : EndpointState) → AreSeenAlike d e f
    → AreSeenAlike d (unless (refusal (tables.part_of e.table d)) e (with_table e (with_part e.table d (own (tables.part_of e.table d))))) (unless (refusal (tables.part_of f.table d)) f (with_table f (with_part f.table d (own (tables.part_of f.table d)))))
region_alike refusal own d e f h =
    subst (λ part. AreSeenAlike d (unless (refusal (tables.part_of e.table d)) e (with_table e (with_part e.table d (own (tables.part_of e.table d))))) (unless (refusal part) f (with_table f (with_part f.table d (own (tables.part_of f.table d)))))) h.table.part
    (unless_alike d e f _ _ (refusal (tables.part_of e.table d)) h (with_tables_alike d e f _ _ (alike-step d e.table f.table own h.table) h))

-- a call at the domain's pool
pub pool_alike : {R : Type 0} (fault : Bool → Option Pool → Option R) (own : Option Pool → Option Pool) (d : ℕ) (e f : EndpointState) → AreSeenAlike d e f
    → AreSeenAlike d (unless (fault (is_added e.table d) (pool_of e d)) e (with_pool e d (own (pool_of e d)))) (unless (fault (is_added f.table d) (pool_of f d)) f (with_pool f d (own (pool_of f d))))
pool_alike fault own d e f h =
    subst (λ q. AreSeenAlike d (unless (fault (is_added e.table d) (pool_of e d)) e (with_pool e d (own (pool_of e d)))) (unless q f (with_pool f d (own (pool_of f d))))) (λ i. fault (is_some (h.table.part i)) (h.pool i))
    (unless_alike d e f _ _ (fault (is_added e.table d) (pool_of e d)) h (with_pool_alike d e f _ _ (ap own h.pool) h))

-- ---- what is left of all else

-- other domains' parts stay, and so do the domains of streams, but for what was opened
pub record Leaves (d : ℕ) (e new : EndpointState) (IsNew : ℕ → ℕ → Type 0) : Type 0 where
  pub table : KeepsOthers d e.table new.table
  pub places : length new.pools ≡ length e.pools
  pub pools : (other : ℕ) → other ≢ d → pool_of new other ≡ pool_of e other
  pub streams : (other : ℕ) → other ≢ d → (n : ℕ) → own_stream other (stream_of new n) ≡ own_stream other (stream_of e n)
  pub closed : (other : ℕ) → other ≢ d → map (own_number other) new.closed ≡ map (own_number other) e.closed
  pub given : length e.streams ≤ length new.streams
  pub owners : (n : ℕ) → IfSome (stream_of new n) (λ s. (owner e n ≡ Some s.domain) ⊎ IsNew n s.domain)
  pub ended : (n : ℕ) → IfSome (closed_at new n) (λ x. (closed_at e n ≡ Some x) ⊎ (owner e n ≡ Some x))

owned : (IsNew : ℕ → Type 0) (o : Option StreamState) → IfSome o (λ s. (option_map (λ t. t.domain) o ≡ Some s.domain) ⊎ IsNew s.domain)
owned IsNew None = tt
owned IsNew (Some s) = inl refl

ended_before : (o p : Option ℕ) → IfSome o (λ x. (o ≡ Some x) ⊎ (p ≡ Some x))
ended_before None p = tt
ended_before (Some x) p = inl refl

pub leaves-all : (d : ℕ) (e : EndpointState) (IsNew : ℕ → ℕ → Type 0) → Leaves d e e IsNew
leaves-all d e IsNew = record {
  table = keeps-all d e.table;
  places = refl;
  pools = λ other ne. refl;
  streams = λ other ne n. refl;
  closed = λ other ne. refl;
  given = omega arith;
  owners = λ n. owned (IsNew n) (stream_of e n);
  ended = λ n. ended_before (closed_at e n) (owner e n);
}

pub leaves-table : (d : ℕ) (e : EndpointState) (t : Table) (IsNew : ℕ → ℕ → Type 0) → KeepsOthers d e.table t → Leaves d e (with_table e t) IsNew
leaves-table d e t IsNew keeps = record {
  table = keeps;
  places = refl;
  pools = λ other ne. refl;
  streams = λ other ne n. refl;
  closed = λ other ne. refl;
  given = omega arith;
  owners = λ n. owned (IsNew n) (stream_of e n);
  ended = λ n. ended_before (closed_at e n) (owner e n);
}

-- what is the domain's is put at a number that is the domain's
pub leaves-put : (d : ℕ) (e : EndpointState) (xs : List (Option StreamState)) (n : ℕ) (o : Option StreamState) (IsNew : ℕ → ℕ → Type 0) → IsPut e.streams xs n o → IsOwn d o → IsOwn d (stream_of e n)
    → IfSome o (λ s. (owner e n ≡ Some s.domain) ⊎ IsNew n s.domain) → Leaves d e (with_streams e xs) IsNew
leaves-put d e xs n o IsNew put here own was = record {
  table = keeps-all d e.table;
  places = refl;
  pools = λ other ne. refl;
  streams = λ other ne m. seen other ne m (cases_eq m n);
  closed = λ other ne. refl;
  given = put.more;
  owners = λ m. taken m (cases_eq m n);
  ended = λ m. ended_before (closed_at e m) (owner e m);
}
  where
    seen : (other : ℕ) → other ≢ d → (m : ℕ) → (m ≡ n) ⊎ (m ≢ n) → own_stream other (get_or xs m None) ≡ own_stream other (stream_of e m)
    seen other ne m (inl same) =
        ap (λ k. own_stream other (get_or xs k None)) same
        ∙ ap (own_stream other) put.here
        ∙ own_other d other o here ne
        ∙ sym (own_other d other (stream_of e n) own ne)
        ∙ sym (ap (λ k. own_stream other (stream_of e k)) same)
    seen other ne m (inr apart) = ap (own_stream other) (put.others m apart)

    taken : (m : ℕ) → (m ≡ n) ⊎ (m ≢ n) → IfSome (get_or xs m None) (λ s. (owner e m ≡ Some s.domain) ⊎ IsNew m s.domain)
    taken m (inl same) =
        subst (λ k. IfSome (get_or xs k None) (λ s. (owner e k ≡ Some s.domain) ⊎ IsNew k s.domain)) (sym same)
        (subst (λ p. IfSome p (λ s. (owner e n ≡ Some s.domain) ⊎ IsNew n s.domain)) (sym put.here) was)
    taken m (inr apart) =
        subst (λ p. IfSome p (λ s. (owner e m ≡ Some s.domain) ⊎ IsNew m s.domain)) (sym (put.others m apart)) (owned (IsNew m) (stream_of e m))

-- the number of a stream of the domain is closed
pub leaves-closed : (d : ℕ) (e : EndpointState) (n : ℕ) (s : StreamState) (IsNew : ℕ → ℕ → Type 0) → stream_of e n ≡ Some s → IsOwnNumber d e n → Leaves d e (record e { streams = set e.streams n None; closed = set e.closed n (Some s.domain) }) IsNew
leaves-closed d e n s IsNew is own = record {
  table = keeps-all d e.table;
  places = refl;
  pools = λ other ne. refl;
  streams = gone.streams;
  closed = λ other ne.
      let nothing : get_or (map (own_number other) e.closed) n None ≡ None = number_index other e.closed n ∙ number_other d other (closed_at e n) own.1 ne in
      map-set (own_number other) e.closed n (Some s.domain)
      ∙ ap (set (map (own_number other) e.closed) n) (number_other d other (Some s.domain) here ne ∙ sym nothing)
      ∙ set-get_or (map (own_number other) e.closed) n None;
  given = gone.given;
  owners = gone.owners;
  ended = λ m. go m (get_or (set e.closed n (Some s.domain)) m None) (index_set e.closed n m s.domain);
}
  where
    here : s.domain ≡ d
    here = subst (λ o. IsOwn d o) is own.0

    gone : Leaves d e (with_streams e (set e.streams n None)) IsNew
    gone = leaves-put d e (set e.streams n None) n None IsNew (set_is e.streams n None (within e.streams n s is)) tt own.0 tt

    told : (m x : ℕ) → (closed_at e m ≡ Some x) ⊎ ((m ≡ n) × (x ≡ s.domain)) → (closed_at e m ≡ Some x) ⊎ (owner e m ≡ Some x)
    told m x h = elim h [
      | inl was ↦ inl was
      | inr now ↦ inr (ap (λ k. option_map (λ t. t.domain) (stream_of e k)) now.0 ∙ ap (option_map (λ t. t.domain)) is ∙ ap Some (sym now.1))
    ]

    go : (m : ℕ) (o : Option ℕ) → IfSome o (λ x. (closed_at e m ≡ Some x) ⊎ ((m ≡ n) × (x ≡ s.domain))) → IfSome o (λ x. (closed_at e m ≡ Some x) ⊎ (owner e m ≡ Some x))
    go m None h = tt
    go m (Some x) h = told m x h

-- a stream that is there is changed, and stays in its domain
pub leaves-changed : (d : ℕ) (e : EndpointState) (n : ℕ) (s x : StreamState) (IsNew : ℕ → ℕ → Type 0) → stream_of e n ≡ Some s → IsOwn d (Some s) → x.domain ≡ s.domain → Leaves d e (with_stream e n x) IsNew
leaves-changed d e n s x IsNew is own same =
    leaves-put d e (set e.streams n (Some x)) n (Some x) IsNew (set_is e.streams n (Some x) (within e.streams n s is)) (same ∙ own) (subst (λ o. IsOwn d o) (sym is) own) (inl (ap (option_map (λ t. t.domain)) is ∙ ap Some (sym same)))

pub refusing_leaves : {R : Type 0} (refusal : StreamState → Option R) (new : StreamState → EndpointState) (d : ℕ) (e : EndpointState) (n : ℕ) (IsNew : ℕ → ℕ → Type 0) → IsOwn d (stream_of e n)
    → ((s : StreamState) → stream_of e n ≡ Some s → IsOwn d (Some s) → Leaves d e (new s) IsNew)
    → Leaves d e (unless (refusal_at (stream_of e n) refusal) e (new (stream_at e n))) IsNew
refusing_leaves {R} refusal new d e n IsNew own step = go (stream_of e n) refl own
  where
    unrefused : (s : StreamState) → Leaves d e (new s) IsNew → (q : Option R) → Leaves d e (unless (option_map Refused q) e (new s)) IsNew
    unrefused s stepped None = stepped
    unrefused s stepped (Some refusal) = leaves-all d e IsNew

    go : (o : Option StreamState) → stream_of e n ≡ o → IsOwn d o → Leaves d e (unless (refusal_at o refusal) e (new (unwrap_or o unopened))) IsNew
    go None is own = leaves-all d e IsNew
    go (Some s) is own = unrefused s (step s is own) (refusal s)

pub changing_leaves : (new : StreamState → EndpointState) (d : ℕ) (e : EndpointState) (n : ℕ) (IsNew : ℕ → ℕ → Type 0) → IsOwn d (stream_of e n)
    → ((s : StreamState) → stream_of e n ≡ Some s → IsOwn d (Some s) → Leaves d e (new s) IsNew)
    → Leaves d e (if_there (stream_of e n) e (new (stream_at e n))) IsNew
changing_leaves new d e n IsNew own step = go (stream_of e n) refl own
  where
    go : (o : Option StreamState) → stream_of e n ≡ o → IsOwn d o → Leaves d e (if_there o e (new (unwrap_or o unopened))) IsNew
    go None is own = leaves-all d e IsNew
    go (Some s) is own = step s is own

pub region_leaves : {R : Type 0} (q : Option R) (d : ℕ) (e : EndpointState) (part : regions.Part) (IsNew : ℕ → ℕ → Type 0) → Leaves d e (unless q e (with_table e (with_part e.table d part))) IsNew
region_leaves None d e part IsNew = leaves-table d e (with_part e.table d part) IsNew (keeps-step d e.table part)
region_leaves (Some refusal) d e part IsNew = leaves-all d e IsNew

-- another domain's pool stays
pub pool_other : (d other : ℕ) (e : EndpointState) (o : Option Pool) → other ≢ d → pool_of (with_pool e d o) other ≡ pool_of e other
pool_other d other e o ne = get_or-set_other e.pools d other o None ne

pub pool_leaves : {R : Type 0} (q : Option R) (d : ℕ) (e : EndpointState) (o : Option Pool) (IsNew : ℕ → ℕ → Type 0) → Leaves d e (unless q e (with_pool e d o)) IsNew
pool_leaves None d e o IsNew = record {
  table = keeps-all d e.table;
  places = length-set e.pools d o;
  pools = λ other ne. pool_other d other e o ne;
  streams = λ other ne n. refl;
  closed = λ other ne. refl;
  given = omega arith;
  owners = λ n. owned (IsNew n) (stream_of e n);
  ended = λ n. ended_before (closed_at e n) (owner e n);
}
pool_leaves (Some refusal) d e o IsNew = leaves-all d e IsNew

-- ---- one step

pub one_step : (d : ℕ) (e : EndpointState) (call : Call) → HasDomains e
    → answer e call ≡ answer (alone d (part_of d e)) call
    → AreSeenAlike d (after e call) (after (alone d (part_of d e)) call)
    → Leaves d e (after e call) (λ n pd. Opens n pd call)
    → OwnStep d e call
one_step d e call all answered alike leaves = record {
  answered = answered;
  own = (λ i. record { slots = alike.table.part i; pool = alike.pool i; streams = own_streams i; closed = alike.closed i });
  others = λ other ne. (λ i. record { slots = leaves.table.parts other ne i; pool = leaves.pools other ne i; streams = other_streams other ne i; closed = leaves.closed other ne i });
  owners = leaves.owners;
  closed = leaves.ended;
  given = leaves.given;
  domains = (leaves.table.size ∙ all.0, leaves.places ∙ all.1, let a = all.2 in let b = leaves.given in omega (arith, a, b));
}
  where
    own_streams : trimmed (map (own_stream d) (after e call).streams) ≡ trimmed (map (own_stream d) (after (alone d (part_of d e)) call).streams)
    own_streams = same_trimmed _ _ (λ n. own_index d (after e call).streams n ∙ alike.streams n ∙ sym (own_index d (after (alone d (part_of d e)) call).streams n))

    other_streams : (other : ℕ) → other ≢ d → trimmed (map (own_stream other) (after e call).streams) ≡ trimmed (map (own_stream other) e.streams)
    other_streams other ne = same_trimmed _ _ (λ n. own_index other (after e call).streams n ∙ leaves.streams other ne n ∙ sym (own_index other e.streams n))
