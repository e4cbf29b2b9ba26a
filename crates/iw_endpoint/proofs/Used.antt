-- A number that had a stream, and has none, never has one again.
use Rattle.std.proofs.Common.{◌≡◌, ◌≢◌, ◌⊎◌, ℕ, ◌<◌, ◌≤◌, ◌^◌, Bool, true, false, cond, List, [], ◌∷◌, ◌++◌, length, set, get_or, Option, Some, None, refl, sym, ap, subst, ◌∙◌, inl, inr, arith}
use Rattle.std.specs.Prelude.{◌||◌, is_some, unwrap_or, nat_lt, nat_le, not, if◌then◌else◌}
use Rattle.std.specs.Option.{option_map}
use Rattle.std.proofs.lemmas.Bool.{cases_eq, cases_lt, false≢true}
use Rattle.std.proofs.lemmas.Option.{none-some}
use Rattle.std.proofs.lemmas.List.{get_or_past, get_or-set_same, get_or-set_other, length-set, length-replicate}
use Rattle.iw_memory.specs.Forms.{own_refusal, kept_refusal}
use Rattle.iw_memory.specs.Region.{most_octets}
use Rattle.iw_memory.specs.Table.{Table, is_added, register_refusal, register_refusal_within}
use Rattle.iw_stream.specs.declared.answer.OpenRefusal.TheVariants.{NumberTaken, BadNumber, NoDomain}
use Rattle.iw_stream.specs.declared.answer.Role.{Role}
use Rattle.iw_startup.specs.declared.config.Config.{Config}
use Rattle.iw_stream.specs.Pooling.{bound_buffers}
use Rattle.iw_stream.specs.Stream as stream
use Rattle.iw_stream.specs.Stream.{StreamState, delivery_of}
use Rattle.iw_endpoint.specs.declared.refusal.CallRefusal.TheVariants.{Refused}
use Rattle.iw_endpoint.specs.Numbers.{put_at}
use Rattle.iw_endpoint.specs.Endpoint.{EndpointState, Pool, fresh, no_streams, no_closed, stream_numbers, stream_of, stream_at, unopened, closed_at, is_taken, has_stream, with_pool, with_stream, with_table, with_next, with_worked, next_in, refusal_at, rest_refusal, limit_refusal, limit_refusal_within, new_stream, new_shared, number_refusal, request_refusal, open_refusal, open_shared_refusal, open_shared_refusal_of, next_refusal, next_shared_refusal, domain_refusal, store_refusal, share_refusal, pool_refusal, take_refusal}
use Rattle.iw_endpoint.specs.Sharing.{with_worked_alone}
use Rattle.iw_endpoint.specs.Isolation.{StreamCall, Accept, Reject, Post, PostRecv, FirstNumber, Deliver, Work, WorkWithin, Emit, BreakLink, Close, SetMulpdu, Private, Told, PeerOptions, Standing, HasDue, RegisterFor, RegisterDrawnFor, RegisterOctetsFor, RegisterOctetsDrawnFor, PeerFirst, Sent, DueLen, InOrderPoint, BoundBuffers, Limits, Call, AddDomain, Register, RegisterDrawn, RegisterOctets, RegisterOctetsDrawn, Deregister, DeregisterKept, TakeRegion, Invalidate, Store, Facts, Local, LocalMut, Open, Share, PostShared, TakeShared, OpenShared, OpenNext, OpenSharedNext, AtStream, after, after_stream, after_all, unless, if_there}
use Rattle.iw_endpoint.specs.Used.{IsGiven, AreGiven, NumbersAreUsedOnce}
use Rattle.iw_endpoint.proofs.Filled.{IsPut, set_is, put_is, within}
use Rattle.iw_endpoint.proofs.Steps.{closes, delivered, worked_within, numbered, first_none, mapped_none, never, never_shared}

-- by number: what streams there are, and of which closed ones the domain is kept
abbrev Streams : Type 0
Streams = List (Option StreamState)

abbrev Closed : Type 0
Closed = List (Option ℕ)

abbrev has : Streams → ℕ → Bool
has xs n = is_some (get_or xs n None)

-- a stream was opened under this number
abbrev IsUsed : Streams → Closed → ℕ → Type 0
IsUsed xs cs n = (has xs n ≡ true) ⊎ (((n < 64) × (is_some (get_or cs n None) ≡ true)) ⊎ ((64 ≤ n) × (n < length xs)))

-- no number that was used is free again
record Uses (xs : Streams) (cs : Closed) (ys : Streams) (ds : Closed) : Type 0 where
  places : length ds ≡ length cs
  more : length xs ≤ length ys
  used : (n : ℕ) → IsUsed xs cs n → IsUsed ys ds n
  gone : (n : ℕ) → IsUsed xs cs n → has xs n ≡ false → has ys n ≡ false

abbrev UsesAt : EndpointState → EndpointState → Type 0
UsesAt e f = Uses e.streams e.closed f.streams f.closed

uses_all : (xs : Streams) (cs : Closed) → Uses xs cs xs cs
uses_all xs cs = record { places = refl; more = omega arith; used = λ n h. h; gone = λ n h none. none }

-- x is put where a stream is, or where none was
uses_put : (xs : Streams) (cs : Closed) (ys : Streams) (n : ℕ) (x : StreamState) → IsPut xs ys n (Some x) → (has xs n ≡ true) ⊎ (IsUsed xs cs n → ⊥) → Uses xs cs ys cs
uses_put xs cs ys n x put new = record {
  places = refl;
  more = put.more;
  used = λ m h. used m h (cases_eq m n);
  gone = λ m h none. gone m h none (cases_eq m n);
}
  where
    longer : (m : ℕ) → m < length xs → m < length ys
    longer m h = let more = put.more in omega (arith, h, more)

    used : (m : ℕ) → IsUsed xs cs m → (m ≡ n) ⊎ (m ≢ n) → IsUsed ys cs m
    used m h (inl same) = inl (ap (λ k. has ys k) same ∙ ap is_some put.here)
    used m (inl there) (inr ne) = inl (ap is_some (put.others m ne) ∙ there)
    used m (inr (inl closed)) (inr ne) = inr (inl closed)
    used m (inr (inr given)) (inr ne) = inr (inr (given.0, longer m given.1))

    gone : (m : ℕ) → IsUsed xs cs m → has xs m ≡ false → (m ≡ n) ⊎ (m ≢ n) → has ys m ≡ false
    gone m h none (inr ne) = ap is_some (put.others m ne) ∙ none
    gone m h none (inl same) = elim new [
      | inl there ↦ absurd (false≢true (sym none ∙ ap (λ k. has xs k) same ∙ there))
      | inr free ↦ absurd (free (subst (IsUsed xs cs) same h))
    ]

-- the stream of n is closed
uses_close : (xs : Streams) (cs : Closed) (n d : ℕ) → n < length xs → length cs ≡ 64 → Uses xs cs (set xs n None) (set cs n (Some d))
uses_close xs cs n d there all = record {
  places = length-set cs n (Some d);
  more = let size = length-set xs n None in omega (arith, size);
  used = λ m h. used m h (cases_eq m n);
  gone = λ m h none. gone m none (cases_eq m n);
}
  where
    here : (n < 64) ⊎ (64 ≤ n) → IsUsed (set xs n None) (set cs n (Some d)) n
    here (inl picked) = inr (inl (picked, ap is_some (get_or-set_same cs n (Some d) None (omega (arith, picked, all)))))
    here (inr given) = inr (inr (given, let size = length-set xs n None in omega (arith, there, size)))

    used : (m : ℕ) → IsUsed xs cs m → (m ≡ n) ⊎ (m ≢ n) → IsUsed (set xs n None) (set cs n (Some d)) m
    used m h (inl same) = subst (IsUsed (set xs n None) (set cs n (Some d))) (sym same) (here (cases_lt n 64))
    used m (inl was) (inr ne) = inl (ap is_some (get_or-set_other xs n m None None ne) ∙ was)
    used m (inr (inl closed)) (inr ne) = inr (inl (closed.0, ap is_some (get_or-set_other cs n m (Some d) None ne) ∙ closed.1))
    used m (inr (inr given)) (inr ne) = inr (inr (given.0, let below = given.1 in let size = length-set xs n None in omega (arith, below, size)))

    gone : (m : ℕ) → has xs m ≡ false → (m ≡ n) ⊎ (m ≢ n) → has (set xs n None) m ≡ false
    gone m none (inl same) = ap (λ k. has (set xs n None) k) same ∙ ap is_some (get_or-set_same xs n None None there)
    gone m none (inr ne) = ap is_some (get_or-set_other xs n m None None ne) ∙ none

uses_both : (a : Streams) (as_closed : Closed) (b : Streams) (bs_closed : Closed) (c : Streams) (cs_closed : Closed) → Uses a as_closed b bs_closed → Uses b bs_closed c cs_closed → Uses a as_closed c cs_closed
uses_both a p b q c r first second = record {
  places = second.places ∙ first.places;
  more = let x = first.more in let y = second.more in omega (arith, x, y);
  used = λ n h. second.used n (first.used n h);
  gone = λ n h none. second.gone n (first.used n h) (first.gone n h none);
}

-- ---- calls

tables_use : {R : Type 0} (q : Option R) (e : EndpointState) (t : Table) → UsesAt e (unless q e (with_table e t))
tables_use None e t = uses_all e.streams e.closed
tables_use (Some r) e t = uses_all e.streams e.closed

pools_use : {R : Type 0} (q : Option R) (e : EndpointState) (pd : ℕ) (o : Option Pool) → UsesAt e (unless q e (with_pool e pd o))
pools_use None e pd o = uses_all e.streams e.closed
pools_use (Some r) e pd o = uses_all e.streams e.closed

refused_use : {R : Type 0} (q : Option R) (e new : EndpointState) → (q ≡ None → ⊥) → UsesAt e (unless q e new)
refused_use None e new never = absurd (never refl)
refused_use (Some r) e new never = uses_all e.streams e.closed

changed_use : (e : EndpointState) (n : ℕ) (s x : StreamState) → stream_of e n ≡ Some s → UsesAt e (with_stream e n x)
changed_use e n s x is = uses_put e.streams e.closed (set e.streams n (Some x)) n x (set_is e.streams n (Some x) (within e.streams n s is)) (inl (ap is_some is))

refusing_use : {R : Type 0} (refusal : StreamState → Option R) (new : StreamState → EndpointState) (e : EndpointState) (n : ℕ)
    → ((s : StreamState) → stream_of e n ≡ Some s → UsesAt e (new s)) → UsesAt e (unless (refusal_at (stream_of e n) refusal) e (new (stream_at e n)))
refusing_use {R} refusal new e n step = go (stream_of e n) refl
  where
    unrefused : (s : StreamState) → UsesAt e (new s) → (q : Option R) → UsesAt e (unless (option_map Refused q) e (new s))
    unrefused s stepped None = stepped
    unrefused s stepped (Some r) = uses_all e.streams e.closed

    go : (o : Option StreamState) → stream_of e n ≡ o → UsesAt e (unless (refusal_at o refusal) e (new (unwrap_or o unopened)))
    go None is = uses_all e.streams e.closed
    go (Some s) is = unrefused s (step s is) (refusal s)

changing_use : (new : StreamState → EndpointState) (e : EndpointState) (n : ℕ)
    → ((s : StreamState) → stream_of e n ≡ Some s → UsesAt e (new s)) → UsesAt e (if_there (stream_of e n) e (new (stream_at e n)))
changing_use new e n step = go (stream_of e n) refl
  where
    go : (o : Option StreamState) → stream_of e n ≡ o → UsesAt e (if_there o e (new (unwrap_or o unopened)))
    go None is = uses_all e.streams e.closed
    go (Some s) is = step s is

within_use : (e : EndpointState) (n share : ℕ) (s : StreamState) → stream_of e n ≡ Some s → UsesAt e (worked_within e n share s)
within_use e n share s is = go (nat_lt (bound_buffers s) share)
  where
    go : (fewer : Bool) → UsesAt e (if fewer then with_worked e n s else with_worked_alone e n s)
    go true = changed_use e n s _ is
    go false = changed_use e n s _ is

stream_uses : (e : EndpointState) (n : ℕ) (call : StreamCall) → length e.closed ≡ 64 → UsesAt e (after_stream e n call)
stream_uses e n (Accept private) all = refusing_use (λ s. stream.answer_refusal s private.items) (λ s. with_stream e n (stream.accepted s private)) e n (λ s is. changed_use e n s (stream.accepted s private) is)
stream_uses e n (Reject private) all = refusing_use (λ s. stream.answer_refusal s private.items) (λ s. with_stream e n (stream.rejected s private)) e n (λ s is. changed_use e n s (stream.rejected s private) is)
stream_uses e n (Post request) all = refusing_use (λ s. stream.post_refusal s request) (λ s. with_stream e n (stream.with_request s request)) e n (λ s is. changed_use e n s (stream.with_request s request) is)
stream_uses e n (PostRecv buffer) all = refusing_use stream.recv_refusal (λ s. with_stream e n (stream.with_buffer s buffer)) e n (λ s is. changed_use e n s (stream.with_buffer s buffer) is)
stream_uses e n (FirstNumber first) all = refusing_use stream.first_refusal (λ s. with_stream e n (stream.with_first s first)) e n (λ s is. changed_use e n s (stream.with_first s first) is)
stream_uses e n (Deliver from octets) all = changing_use (λ s. with_stream e n (delivered from octets s)) e n (λ s is. changed_use e n s (delivered from octets s) is)
stream_uses e n Work all = changing_use (λ s. with_worked e n s) e n (λ s is. changed_use e n s _ is)
stream_uses e n (WorkWithin share) all = changing_use (λ s. worked_within e n share s) e n (λ s is. within_use e n share s is)
stream_uses e n Emit all = changing_use (λ s. with_stream e n (stream.after_emit e.table s)) e n (λ s is. changed_use e n s (stream.after_emit e.table s) is)
stream_uses e n BreakLink all = changing_use (λ s. with_stream e n (stream.breaks s)) e n (λ s is. changed_use e n s (stream.breaks s) is)
stream_uses e n Close all = refusing_use rest_refusal (closes e n) e n (λ s is. uses_close e.streams e.closed n s.domain (within e.streams n s is) all)
stream_uses e n (RegisterFor base octets rights) all = tables_use (limit_refusal e n base (length octets)) e _
stream_uses e n (RegisterDrawnFor base octets rights drawn) all = tables_use (limit_refusal e n base (length octets)) e _
stream_uses e n (RegisterOctetsFor base octets kept rights) all = tables_use (limit_refusal_within (most_octets kept) e n base (length octets)) e _
stream_uses e n (RegisterOctetsDrawnFor base octets kept rights drawn) all = tables_use (limit_refusal_within (most_octets kept) e n base (length octets)) e _
stream_uses e n (SetMulpdu size) all = refusing_use (λ s. stream.size_refusal size) (λ s. with_stream e n (stream.with_mulpdu s size)) e n (λ s is. changed_use e n s (stream.with_mulpdu s size) is)
stream_uses e n Private all = uses_all e.streams e.closed
stream_uses e n Told all = uses_all e.streams e.closed
stream_uses e n PeerOptions all = uses_all e.streams e.closed
stream_uses e n Standing all = uses_all e.streams e.closed
stream_uses e n HasDue all = uses_all e.streams e.closed
stream_uses e n PeerFirst all = uses_all e.streams e.closed
stream_uses e n Sent all = uses_all e.streams e.closed
stream_uses e n DueLen all = uses_all e.streams e.closed
stream_uses e n InOrderPoint all = uses_all e.streams e.closed
stream_uses e n BoundBuffers all = uses_all e.streams e.closed
stream_uses e n Limits all = uses_all e.streams e.closed

-- a number under which a stream is opened was not used
neither : (a b : Bool) → (a || b) ≡ false → (a ≡ false) × (b ≡ false)
neither true b h = absurd (false≢true (sym h))
neither false b h = (refl, h)

untaken : (e : EndpointState) (n pd : ℕ) → number_refusal e n pd ≡ None → is_taken e n ≡ false
untaken e n pd = go (nat_le stream_numbers n) (is_taken e n) (is_added e.table pd)
  where
    go : (beyond taken added : Bool) → cond beyond (Some BadNumber) (cond taken (Some NumberTaken) (cond (not added) (Some NoDomain) None)) ≡ None → taken ≡ false
    go true t a none = absurd (none-some _ (sym none))
    go false true a none = absurd (none-some _ (sym none))
    go false false a none = refl

unused : (e : EndpointState) (n pd : ℕ) → number_refusal e n pd ≡ None → IsUsed e.streams e.closed n → ⊥
unused e n pd none h =
    let free = neither (has_stream e n) (is_some (closed_at e n)) (untaken e n pd none) in
    let below = numbered e n pd none in
    elim h [
      | inl there ↦ false≢true (sym free.0 ∙ there)
      | inr other ↦ elim other [ inl closed ↦ false≢true (sym free.1 ∙ closed.1) | inr given ↦ let past = given.0 in absurd (omega (arith, below, past)) ]
    ]

opens_use : {R : Type 0} (q : Option R) (e : EndpointState) (n pd : ℕ) (x : StreamState) → 64 ≤ length e.streams → (q ≡ None → number_refusal e n pd ≡ None) → UsesAt e (unless q e (with_stream e n x))
opens_use None e n pd x room none =
    let free = none refl in
    let below = numbered e n pd free in
    uses_put e.streams e.closed (set e.streams n (Some x)) n x (set_is e.streams n (Some x) (omega (arith, below, room))) (inr (unused e n pd free))
opens_use (Some r) e n pd x room none = uses_all e.streams e.closed

next_is : (xs : Streams) (m : ℕ) → Some m ≡ next_in xs → m ≡ length xs
next_is xs m = go (nat_lt (length xs) (2 ^ 32))
  where
    go : (b : Bool) → Some m ≡ cond b (Some (length xs)) None → m ≡ length xs
    go true e = cc
    go false e = absurd (none-some m (sym e))

nexts_use : {R : Type 0} (q : Option R) (e : EndpointState) (m : ℕ) (x : StreamState) → 64 ≤ length e.streams → m ≡ length e.streams → UsesAt e (unless q e (with_next e m x))
nexts_use None e m x room last = uses_put e.streams e.closed (put_at e.streams m x) m x (put_is e.streams m x) (inr free)
  where
    free : IsUsed e.streams e.closed m → ⊥
    free (inl there) = false≢true (sym (ap is_some (get_or_past e.streams m None (omega (arith, last)))) ∙ there)
    free (inr (inl closed)) = let below = closed.0 in absurd (omega (arith, below, room, last))
    free (inr (inr given)) = let below = given.1 in absurd (omega (arith, below, last))
nexts_use (Some r) e m x room last = uses_all e.streams e.closed

next_uses : (e : EndpointState) (n : Option ℕ) (pd : ℕ) (role : Role) (config : Config) → 64 ≤ length e.streams → n ≡ next_in e.streams → UsesAt e (after e (OpenNext n pd role config))
next_uses e None pd role config room given = refused_use (next_refusal e None pd role config) e _ (never e pd role config)
next_uses e (Some m) pd role config room given = nexts_use (next_refusal e (Some m) pd role config) e m (new_stream m pd role config) room (next_is e.streams m given)

next_shared_uses : (e : EndpointState) (n : Option ℕ) (pd : ℕ) (role : Role) (config : Config) → 64 ≤ length e.streams → n ≡ next_in e.streams → UsesAt e (after e (OpenSharedNext n pd role config))
next_shared_uses e None pd role config room given = refused_use (next_shared_refusal e None pd role config) e _ (never_shared e pd role config)
next_shared_uses e (Some m) pd role config room given = nexts_use (next_shared_refusal e (Some m) pd role config) e m (new_shared m pd role config) room (next_is e.streams m given)

step : (e : EndpointState) (call : Call) → 64 ≤ length e.streams → length e.closed ≡ 64 → IsGiven e call → UsesAt e (after e call)
step e (AddDomain pd) room all given = tables_use (domain_refusal e pd) e _
step e (Register pd base octets rights) room all given = tables_use (register_refusal e.table pd base (length octets)) e _
step e (RegisterDrawn pd base octets rights drawn) room all given = tables_use (register_refusal e.table pd base (length octets)) e _
step e (RegisterOctets pd base octets kept rights) room all given = tables_use (register_refusal_within (most_octets kept) e.table pd base (length octets)) e _
step e (RegisterOctetsDrawn pd base octets kept rights drawn) room all given = tables_use (register_refusal_within (most_octets kept) e.table pd base (length octets)) e _
step e (Deregister stag) room all given = tables_use (own_refusal e.table stag) e _
step e (DeregisterKept stag) room all given = tables_use (kept_refusal e.table stag) e _
step e (TakeRegion stag) room all given = uses_all e.streams e.closed
step e (Invalidate stag) room all given = uses_all e.streams e.closed
step e (Store stag to octets) room all given = tables_use (store_refusal e stag to (length octets)) e _
step e (Facts stag) room all given = uses_all e.streams e.closed
step e (Local stag) room all given = uses_all e.streams e.closed
step e (LocalMut stag octets) room all given = uses_all e.streams e.closed
step e (Open n pd role config) room all given = opens_use (open_refusal e n pd role config) e n pd (new_stream n pd role config) room (first_none (number_refusal e n pd) (request_refusal role config))
step e (Share pd) room all given = pools_use (share_refusal e pd) e pd _
step e (PostShared pd buffer) room all given = pools_use (pool_refusal e pd) e pd _
step e (TakeShared pd) room all given = pools_use (take_refusal e pd) e pd _
step e (OpenShared n pd role config) room all given =
    opens_use (open_shared_refusal e n pd role config) e n pd (new_shared n pd role config) room
    (λ none. mapped_none open_shared_refusal_of (number_refusal e n pd) (first_none (option_map open_shared_refusal_of (number_refusal e n pd)) _ none))
step e (OpenNext n pd role config) room all given = next_uses e n pd role config room given
step e (OpenSharedNext n pd role config) room all given = next_shared_uses e n pd role config room given
step e (AtStream n call) room all given = stream_uses e n call all

-- ---- runs

runs_use : (calls : List Call) (e : EndpointState) → 64 ≤ length e.streams → length e.closed ≡ 64 → AreGiven e calls → UsesAt e (after_all e calls)
runs_use [] e room all given = uses_all e.streams e.closed
runs_use (call ∷ calls) e room all given =
    let f = after e call in
    let u = step e call room all given.0 in
    let g = after_all f calls in
    uses_both e.streams e.closed f.streams f.closed g.streams g.closed u (runs_use calls f (let more = u.more in omega (arith, more, room)) (u.places ∙ all) given.1)

after_append : (e : EndpointState) (xs ys : List Call) → after_all e (xs ++ ys) ≡ after_all (after_all e xs) ys
after_append e [] ys = refl
after_append e (x ∷ xs) ys = after_append (after e x) xs ys

given_append : (e : EndpointState) (xs ys : List Call) → AreGiven e (xs ++ ys) → AreGiven e xs × AreGiven (after_all e xs) ys
given_append e [] ys given = (tt, given)
given_append e (x ∷ xs) ys given = let rest = given_append (after e x) xs ys given.1 in ((given.0, rest.0), rest.1)

fresh_room : 64 ≤ length fresh.streams
unfolding no_streams
fresh_room = let size = length-replicate {A = Option StreamState} 64 None in omega (arith, size)

fresh_places : length fresh.closed ≡ 64
unfolding no_closed
fresh_places = length-replicate {A = Option ℕ} 64 None

pub used_once : NumbersAreUsedOnce
used_once first second third given n had none =
    let parts = given_append fresh (first ++ second) third given in
    let halves = given_append fresh first second parts.0 in
    let one = after_all fresh first in
    let two = after_all fresh (first ++ second) in
    let at_one = runs_use first fresh fresh_room fresh_places halves.0 in
    let at_two = runs_use (first ++ second) fresh fresh_room fresh_places parts.0 in
    let from_one = runs_use second one (let more = at_one.more in omega (arith, more, fresh_room)) (at_one.places ∙ fresh_places) halves.1 in
    let used : IsUsed two.streams two.closed n = subst (λ (e : EndpointState). IsUsed e.streams e.closed n) (sym (after_append fresh first second)) (from_one.used n (inl had)) in
    let from_two = runs_use third two (let more = at_two.more in omega (arith, more, fresh_room)) (at_two.places ∙ fresh_places) parts.1 in
    ap (λ e. has_stream e n) (after_append fresh (first ++ second) third) ∙ from_two.gone n used none
