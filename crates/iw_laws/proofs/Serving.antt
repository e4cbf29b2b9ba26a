-- A server's run is a run in which closed streams stay where they were, and each stream stands in the place of its connection.
use Rattle.std.proofs.Common.{◌≡◌, ℕ, zero, suc, ◌+◌, ◌<◌, ◌≤◌, List, [], ◌∷◌, ◌++◌, length, replicate, Option, Some, None, Ok, Err, Bool, true, false, cond, eqb, refl, sym, ap, ◌∙◌, subst, arith, eqb-true, inl, inr, append_assoc}
use Rattle.std.specs.Prelude.{slice_set, slice_index_or, unwrap_or, is_some, is_none, not, drop, ◌||◌, ◌^◌, nat_le, nat_lt}
use Rattle.std.specs.Option.{option_map, option_map_or}
use Rattle.std.proofs.lemmas.Bool.{cases_lt, eq-eqb, false≢true, true≢false}
use Rattle.std.proofs.lemmas.Bool.Decides.{nat_tests}
use Rattle.std.proofs.lemmas.Option.{none-some, same_Some}
use Rattle.std.proofs.lemmas.List.{append-nil, get_or-set_same, get_or-set_other, length-set, length_push, get_or_push, length-replicate}
use Rattle.iw_memory.specs.Table.{Table, is_added, domain_refusal, register_refusal, store_refusal, next_stag}
use Rattle.iw_memory.proofs.ListLemmas.{get_or-push_default}
use Rattle.iw_stream.specs.Stream.{StreamState, peer_of, sees}
use Rattle.iw_stream.specs.Work.{worked, work_step, table_worked}
use Rattle.iw_stream.specs.Starting.{exceeds_request}
use Rattle.iw_stream.specs.declared.answer.Role.{Role}
use Rattle.iw_startup.specs.declared.config.Config.{Config}
use Rattle.iw_untagged.specs.Receiving.{exchanged}
use Rattle.iw_ranges.specs.declared.Delivery.TheVariants.{Kept, Dropped}
use Rattle.iw_octets.specs.declared.stag.Stag.{Stag}
use Rattle.iw_memory.specs.declared.peer.Peer.{Peer}
use Rattle.iw_memory.specs.declared.rights.Rights.{Rights}
use Rattle.iw_endpoint.specs.declared.refusal.OpenNextRefusal.TheVariants as next_refusals
use Rattle.iw_endpoint.specs.declared.refusal.CallRefusal.TheVariants.{Refused}
use Rattle.iw_endpoint.specs.Numbers.{put_at}
use Rattle.iw_endpoint.specs.Endpoint as endpoint
use Rattle.iw_endpoint.specs.Endpoint.{EndpointState, Pool as PoolOf, pool_of, pool_left, lent_to, left_of, stream_of, stream_at, has_stream, is_taken, closed_at, unopened as no_stream, number_refusal, open_refusal, open_shared_refusal, open_shared_refusal_of, unshared, request_refusal, share_fault, pool_fault, take_fault, taken, next_number, next_refusal, next_shared_refusal, limit_refusal, rest_refusal, no_streams, no_closed, no_pools, stream_numbers}
use Rattle.iw_endpoint.specs.Isolation.{answer_or, unless, after}
use Rattle.iw_events.specs.declared.call.End.{End}
use Rattle.iw_events.specs.declared.call.End.TheVariants.{A, B}
use Rattle.iw_events.specs.Events.{stream_call_of}
use Rattle.iw_events.specs.declared.act.Act.{Act}
use Rattle.iw_events.specs.declared.act.Act.TheVariants as acts
use Rattle.iw_events.specs.declared.act.Act.TheVariants.{Domain, Register, Deregister, Invalidate, Store, Open, Share, Pool, Unpool, OpenShared}
use Rattle.iw_events.specs.declared.act.StreamAct.{StreamAct}
use Rattle.iw_events.specs.declared.act.StreamAct.TheVariants.{Recv, Post, Emit, First, Deliver, Raw, Mulpdu, Accept, Reject, Work, Break}
use Rattle.iw_events.specs.declared.act.Shown.{Shown}
use Rattle.iw_events.specs.declared.act.Entry.{Entry}
use Rattle.iw_events.specs.declared.server.ServerAct.{ServerAct}
use Rattle.iw_events.specs.declared.server.ServerAct.TheVariants.{Plain, Stream, OpenNext, OpenSharedNext, Read, ReadRaw, RegisterFor, Close}
use Rattle.iw_events.specs.declared.server.ServerEntry.{ServerEntry}
use Rattle.iw_laws.specs.Words.{Octets, Opening, other, deed, octets_shown, sent_by, of_stream, OnSome, config_for, private_data, table_after, table_by, table_by_stream}
use Rattle.iw_laws.specs.Words as words
use Rattle.iw_laws.specs.ServerLaws.{by_number, LimitsNone, NoneLimited}
use Rattle.iw_laws.specs.Rules.{EndState, State, end_of, with_end, start, at_first, shown_of, seen_of, Rule, EndRule, StreamRule, WireRule, needs_peer, call_made, end_after, wire_at, wires_after, no_wires}
use Rattle.iw_laws.specs.Calls.{deregister_answer, invalidate_refusal}
use Rattle.iw_laws.specs.Servers.{Connections, AreApart, told, told_by, plain_told, at_end, was_used, IsSent, PlainPeerRule, ServerRule, server_call, server_wires, server_after, after_server_entry, server_state_after, ServerFollows}
use Rattle.iw_laws.proofs.States.{opening_by, connected, left_at, stream_after, streams_after, streams_left, table_left, closed_left, found, granted, denied, asked, pools_refused, pools_there, length-wires}
use Rattle.iw_laws.proofs.Ends.{IsTold, AreNumbered, Opens, there, numbered, numbered_open, numbered_shared, stream_some, number_at, keeps_stream, set_numbers, same_numbers}
use Rattle.iw_laws.proofs.Whole.{Keeps, AreTold, retabled, keeps_retabled, OpensFit, fits_so, open_fits, shared_fits, start_with, end_with, none_at, no_wire, unsaid_with, told_with, changed, unchanged, both}
use Rattle.iw_laws.proofs.Runs.{Run, ToldRun, Moment, NextRule, PlainRuleIn}
use Rattle.iw_laws.proofs.Given.{given, Moves, Gives, Does, IsOwn, moves_rule, moves_keep, moves_told}
use Rattle.iw_laws.proofs.Unlimited.{Unlimited, all_free, retired_free}
use Rattle.iw_laws.proofs.Renumbered.{SameDenials, same_denials, under, step_same, worked_under, table_same, emission_same, emitted_same, emit_under}

-- ---- lists

pub set_there : {X : Type 0} (xs : List X) (n j : ℕ) (x d : X) → n < length xs → slice_index_or (slice_set xs n x) j d ≡ cond (eqb n j) x (slice_index_or xs j d)
set_there xs n j x d within = go (eqb n j) refl
  where
    go : (b : Bool) → eqb n j ≡ b → slice_index_or (slice_set xs n x) j d ≡ cond b x (slice_index_or xs j d)
    go true e = subst (λ m. slice_index_or (slice_set xs n x) m d ≡ x) (eqb-true n j e) (get_or-set_same xs n x d within)
    go false e = get_or-set_other xs n j x d (λ same. false≢true (sym e ∙ eq-eqb n j (sym same)))

-- one more at the end
put_end : (xs : List (Option StreamState)) (x : StreamState) → put_at xs (length xs) x ≡ xs ++ Some x ∷ []
put_end [] x = refl
put_end (y ∷ ys) x = ap (λ zs. y ∷ zs) (put_end ys x)

push_other : (xs : List (Option StreamState)) (o : Option StreamState) (j : ℕ) → (length xs ≡ j → ⊥) → slice_index_or (xs ++ o ∷ []) j None ≡ slice_index_or xs j None
push_other [] o zero apart = absurd (apart refl)
push_other [] o (suc j) apart = refl
push_other (y ∷ ys) o zero apart = refl
push_other (y ∷ ys) o (suc j) apart = push_other ys o j (λ same. apart (ap suc same))

pub put_last : (xs : List (Option StreamState)) (x : StreamState) (j : ℕ) → slice_index_or (put_at xs (length xs) x) j None ≡ cond (eqb (length xs) j) (Some x) (slice_index_or xs j None)
put_last xs x j = ap (λ ys. slice_index_or ys j None) (put_end xs x) ∙ go (eqb (length xs) j) refl
  where
    go : (b : Bool) → eqb (length xs) j ≡ b → slice_index_or (xs ++ Some x ∷ []) j None ≡ cond b (Some x) (slice_index_or xs j None)
    go true e = get_or_push xs (Some x) None j (eqb-true (length xs) j e)
    go false e = push_other xs (Some x) j (λ same. false≢true (sym e ∙ eq-eqb (length xs) j same))

pub length-put_last : (xs : List (Option StreamState)) (x : StreamState) → length (put_at xs (length xs) x) ≡ length xs + 1
length-put_last [] x = refl
length-put_last (y ∷ ys) x = omega (arith, length-put_last ys x)

-- ---- an end of a server, and the one in which closed streams stay

-- each stream of the one stands in the other in the place that its number names, under the number that it has there; that one
-- has so many places
pub record Alike (name number : ℕ → ℕ) (size : ℕ) (s g : EndState) : Type 0 where
  pub table : g.endpoint.table ≡ s.endpoint.table
  pub pools : g.endpoint.pools ≡ s.endpoint.pools
  pub streams : (n : ℕ) (c : StreamState) → stream_of s.endpoint n ≡ Some c → stream_of g.endpoint (name n) ≡ Some (under (Some (number n)) c)
  pub numbers : AreNumbered s.endpoint
  pub used : (n : ℕ) → has_stream g.endpoint (name n) ≡ was_used s.endpoint n
  pub wires : (n : ℕ) → wire_at g (name n) ≡ wire_at s n
  pub laid : length s.wires ≡ length s.endpoint.streams
  pub many : 64 ≤ length s.endpoint.streams
  pub ended : length s.endpoint.closed ≡ 64
  pub size_is : length g.endpoint.streams ≡ size

used_same : (e e' : EndpointState) (n : ℕ) → length e'.streams ≡ length e.streams → has_stream e' n ≡ has_stream e n → e'.closed ≡ e.closed → was_used e' n ≡ was_used e n
used_same e e' n size has closed = λ i. cond (nat_le 64 n) (nat_lt n (size i)) (has i || is_some (slice_index_or (closed i) n None))

-- a test of which the second part counts where it is false
below : {X : Type 0} (b : Bool) (a x y : X) → (b ≡ false → x ≡ y) → cond b a x ≡ cond b a y
below true a x y h = refl
below false a x y h = h refl

no_last : (j m : ℕ) → j < m + 1 → (j ≡ m → ⊥) → j < m
no_last j m less apart = elim (cases_lt j m) [ inl before ↦ before | inr past ↦ absurd (apart (omega (arith, less, past))) ]

abbrev either : {A R : Type 0} → Option R → A → A → A
either None old new = new
either (Some r) old new = old

pools_either : {R : Type 0} (q : Option R) (e new : EndpointState) → (unless q e new).pools ≡ either q e.pools new.pools
pools_either None e new = refl
pools_either (Some r) e new = refl

-- ---- what an act of a stream depends on

abbrev Parts : Type 0
Parts = Table × List (Option PoolOf) × Option StreamState

abbrev parts_at : EndpointState → ℕ → Parts
parts_at e n = (e.table, e.pools, stream_of e n)

abbrev stream_in : Parts → StreamState
stream_in v = unwrap_or v.2 no_stream

abbrev pool_in : Parts → Option PoolOf
pool_in v = slice_index_or v.1 (stream_in v).domain None

abbrev RuleIn : StreamAct Octets → Parts → Type 0
RuleIn act v = StreamRule v.0 (option_map_or (λ step. lent_to (pool_in v) (stream_in v)) (deed act).step (stream_in v)) act

abbrev left_in : StreamAct Octets → Parts → StreamState
left_in act v = option_map_or (λ step. left_of v.0 (pool_in v) (stream_in v)) (deed act).step (stream_after v.0 (stream_in v) act)

abbrev pools_in : StreamAct Octets → Parts → List (Option PoolOf)
pools_in act v = option_map_or (λ step. slice_set v.1 (stream_in v).domain (pool_left v.0 (pool_in v) (stream_in v))) (deed act).step v.1

-- the same of the stream under another number, which is denied the same
module _ (number : Option ℕ) (t : Table) (pools : List (Option PoolOf)) (c : StreamState) (same : SameDenials t (peer_of c) (peer_of (under number c))) where
  seen_under : (o : Option PoolOf) → seen_of (table_worked t (lent_to o (under number c))) (worked t (lent_to o (under number c))).start (work_step t (lent_to o (under number c))) ≡ seen_of (table_worked t (lent_to o c)) (worked t (lent_to o c)).start (work_step t (lent_to o c))
  seen_under None = λ i. seen_of (table_same number t c same i) (worked_under number t c same i).start (step_same number t c same i)
  seen_under (Some pool) =
      let d : StreamState = sees c pool in
      λ i. seen_of (table_same number t d same i) (worked_under number t d same i).start (step_same number t d same i)

  rule_under : (act : StreamAct Octets) → RuleIn act (t, pools, Some c) → RuleIn act (t, pools, Some (under number c))
  rule_under (Recv len refused) rule = rule
  rule_under (Post m refused) rule = rule
  rule_under (Emit shown) rule = rule ∙ sym (λ i. shown_of t (emission_same number t c same i) (emitted_same number t c same i))
  rule_under (First number refused) rule = rule
  rule_under (Deliver from number octets delivery) rule = rule
  rule_under (Raw number octets delivery) rule = rule
  rule_under (Mulpdu size refused) rule = rule
  rule_under (Accept private answer) rule = rule
  rule_under (Reject private refused) rule = rule
  rule_under (Work step) rule = rule ∙ sym (seen_under (slice_index_or pools c.domain None))
  rule_under Break rule = rule

  left_of_under : (o : Option PoolOf) → left_of t o (under number c) ≡ under number (left_of t o c)
  left_of_under None = worked_under number t c same
  left_of_under (Some pool) = ap (λ z. sees z (exchanged c.receiving.source pool)) (worked_under number t (sees c pool) same)

  pool_left_under : (o : Option PoolOf) → pool_left t o (under number c) ≡ pool_left t o c
  pool_left_under None = refl
  pool_left_under (Some pool) = ap (λ (z : StreamState). Some (exchanged z.receiving.source (exchanged c.receiving.source pool))) (worked_under number t (sees c pool) same)

  left_under : (act : StreamAct Octets) → left_in act (t, pools, Some (under number c)) ≡ under number (left_in act (t, pools, Some c))
  left_under (Recv len None) = refl
  left_under (Recv len (Some r)) = refl
  left_under (Post m None) = refl
  left_under (Post m (Some r)) = refl
  left_under (Emit shown) = emit_under number t c same
  left_under (First number None) = refl
  left_under (First number (Some r)) = refl
  left_under (Deliver from number octets Kept) = refl
  left_under (Deliver from number octets Dropped) = refl
  left_under (Raw number octets Kept) = refl
  left_under (Raw number octets Dropped) = refl
  left_under (Mulpdu size None) = refl
  left_under (Mulpdu size (Some r)) = refl
  left_under (Accept private (Ok agreed)) = refl
  left_under (Accept private (Err r)) = refl
  left_under (Reject private None) = refl
  left_under (Reject private (Some r)) = refl
  left_under (Work step) = left_of_under (slice_index_or pools c.domain None)
  left_under Break = refl

  pools_under : (act : StreamAct Octets) → pools_in act (t, pools, Some (under number c)) ≡ pools_in act (t, pools, Some c)
  pools_under (Work step) = ap (slice_set pools c.domain) (pool_left_under (slice_index_or pools c.domain None))
  pools_under (Recv len refused) = refl
  pools_under (Post m refused) = refl
  pools_under (Emit shown) = refl
  pools_under (First number refused) = refl
  pools_under (Deliver from number octets delivery) = refl
  pools_under (Raw number octets delivery) = refl
  pools_under (Mulpdu size refused) = refl
  pools_under (Accept private answer) = refl
  pools_under (Reject private refused) = refl
  pools_under Break = refl

stream_pools : (e : EndpointState) (n : ℕ) (act : StreamAct Octets) → has_stream e n ≡ true → (after e (call_made (acts.Stream n act))).pools ≡ pools_in act (parts_at e n)
stream_pools e n (Recv len refused) has = pools_refused (endpoint.recv_refusal e n) e (endpoint.with_buffer e n (replicate len 0)) refl
stream_pools e n (Post m refused) has = pools_refused (endpoint.post_refusal e n m) e (endpoint.with_request e n m) refl
stream_pools e n (First number refused) has = pools_refused (endpoint.first_refusal e n) e (endpoint.with_first e n number) refl
stream_pools e n (Mulpdu size refused) has = pools_refused (endpoint.size_refusal e n size) e (endpoint.with_mulpdu e n size) refl
stream_pools e n (Accept private answer) has = pools_refused (endpoint.answer_refusal e n (private_data private).items) e (endpoint.accepted e n (private_data private)) refl
stream_pools e n (Reject private refused) has = pools_refused (endpoint.answer_refusal e n (private_data private).items) e (endpoint.rejected e n (private_data private)) refl
stream_pools e n (Emit shown) has = pools_there (stream_of e n) e (endpoint.after_emit e n) refl
stream_pools e n (Deliver from number octets delivery) has = pools_there (stream_of e n) e (endpoint.after_deliver e n number octets) refl
stream_pools e n (Raw number octets delivery) has = pools_there (stream_of e n) e (endpoint.after_deliver e n number octets) refl
stream_pools e n Break has = pools_there (stream_of e n) e (endpoint.broken e n) refl
stream_pools e n (Work step) has = ap (λ (z : EndpointState). z.pools) (found (stream_of e n) e (endpoint.after_work e n) has)

-- what an act of a stream emitted
wire_put : (s : EndState) (n j : ℕ) (o : Option (Shown Octets)) → n < length s.wires
    → slice_index_or (option_map_or (λ shown. slice_set s.wires n (wire_at s n ++ octets_shown shown)) o s.wires) j [] ≡ option_map_or (λ shown. cond (eqb n j) (wire_at s n ++ octets_shown shown) (wire_at s j)) o (wire_at s j)
wire_put s n j None within = refl
wire_put s n j (Some shown) within = set_there s.wires n j (wire_at s n ++ octets_shown shown) [] within

-- ---- a stream is given a number

-- the numbers are left, and the private data fits
pub record IsGiven (e : EndpointState) (role : Role) (config : Config) : Type 0 where
  pub number : unwrap_or (next_number e) 0 ≡ length e.streams
  pub fits : exceeds_request role config ≡ false

numbers_left : (size : ℕ) (b : Bool) → is_none (cond b (Some size) None) ≡ false → unwrap_or (cond b (Some size) None) 0 ≡ size
numbers_left size true h = refl
numbers_left size false h = absurd (true≢false h)

pub next_given : (e : EndpointState) (pd : ℕ) (role : Role) (config : Config) → None ≡ next_refusal e (next_number e) pd role config → IsGiven e role config
next_given e pd role config rule = go (is_added e.table pd) (is_none (next_number e)) (exceeds_request role config) refl refl rule
  where
    go : (added none long : Bool) → is_none (next_number e) ≡ none → exceeds_request role config ≡ long
        → None ≡ cond (not added) (Some next_refusals.NoDomain) (cond none (Some next_refusals.NumbersSpent) (cond long (Some next_refusals.PrivateTooLong) None)) → IsGiven e role config
    go false none long n l h = absurd (none-some _ h)
    go true true long n l h = absurd (none-some _ h)
    go true false true n l h = absurd (none-some _ h)
    go true false false n l h = record { number = numbers_left (length e.streams) (nat_lt (length e.streams) (2 ^ 32)) n; fits = l }

pub next_shared_given : (e : EndpointState) (pd : ℕ) (role : Role) (config : Config) → None ≡ next_shared_refusal e (next_number e) pd role config → IsGiven e role config
next_shared_given e pd role config rule = next_given e pd role config (go (is_added e.table pd) (is_none (pool_of e pd)) rule)
  where
    go : (added none : Bool) → None ≡ cond (not added) (Some next_refusals.NoDomain) (cond none (Some next_refusals.NotShared) (next_refusal e (next_number e) pd role config)) → None ≡ next_refusal e (next_number e) pd role config
    go false none h = absurd (none-some _ h)
    go true true h = absurd (none-some _ h)
    go true false h = h

-- the end, with this stream under the next number
abbrev with_given : EndState → ℕ → Opening → EndState
with_given s n o = record { endpoint = endpoint.with_next s.endpoint n (connected o (Some n)).stream; wires = s.wires ++ [] ∷ [] }

-- ---- one end after another, where no two numbers have one name

module _ (name number : ℕ → ℕ) (apart : (n m : ℕ) → name n ≡ name m → n ≡ m) (size : ℕ) where
  named : (n j : ℕ) → eqb (name n) (name j) ≡ eqb n j
  named n j = go (eqb n j) (eqb (name n) (name j)) refl refl
    where
      go : (b c : Bool) → eqb n j ≡ b → eqb (name n) (name j) ≡ c → c ≡ b
      go true true e f = refl
      go false false e f = refl
      go true false e f = absurd (false≢true (sym f ∙ eq-eqb (name n) (name j) (ap name (eqb-true n j e))))
      go false true e f = absurd (false≢true (sym e ∙ eq-eqb n j (apart n j (eqb-true (name n) (name j) f))))

  -- no stream changes
  still : (s g s' g' : EndState) → Alike name number size s g → g'.endpoint.table ≡ s'.endpoint.table → g'.endpoint.pools ≡ s'.endpoint.pools → s'.endpoint.streams ≡ s.endpoint.streams → g'.endpoint.streams ≡ g.endpoint.streams
      → s'.endpoint.closed ≡ s.endpoint.closed → s'.wires ≡ s.wires → g'.wires ≡ g.wires → Alike name number size s' g'
  still s g s' g' k table pools own other closed own_wires other_wires =
      let own_at : (n : ℕ) → stream_of s'.endpoint n ≡ stream_of s.endpoint n = λ n. ap (λ xs. slice_index_or xs n None) own in
      let other_at : (n : ℕ) → stream_of g'.endpoint (name n) ≡ stream_of g.endpoint (name n) = λ n. ap (λ xs. slice_index_or xs (name n) None) other in
      record {
        table = table;
        pools = pools;
        streams = λ n c is. other_at n ∙ k.streams n c (sym (own_at n) ∙ is);
        numbers = same_numbers s.endpoint s'.endpoint own k.numbers;
        used = λ n. ap is_some (other_at n) ∙ k.used n ∙ sym (used_same s.endpoint s'.endpoint n (ap length own) (ap is_some (own_at n)) closed);
        wires = λ n. ap (λ ws. slice_index_or ws (name n) []) other_wires ∙ k.wires n ∙ sym (ap (λ ws. slice_index_or ws n []) own_wires);
        laid = ap length own_wires ∙ k.laid ∙ sym (ap length own);
        many = subst (λ xs. 64 ≤ length xs) (sym own) k.many;
        ended = ap length closed ∙ k.ended;
        size_is = ap length other ∙ k.size_is;
      }

  -- the stream of one number is this
  module _ (s g s' g' : EndState) (n : ℕ) (c : StreamState) (k : Alike name number size s g) (within : n < length s.endpoint.streams) (room : name n < length g.endpoint.streams) (own : s'.endpoint.streams ≡ slice_set s.endpoint.streams n (Some c))
      (other : g'.endpoint.streams ≡ slice_set g.endpoint.streams (name n) (Some (under (Some (number n)) c))) (closed : s'.endpoint.closed ≡ s.endpoint.closed) (named_so : c.number ≡ Some n) where
    own_at : (j : ℕ) → stream_of s'.endpoint j ≡ cond (eqb n j) (Some c) (stream_of s.endpoint j)
    own_at j = ap (λ xs. slice_index_or xs j None) own ∙ set_there s.endpoint.streams n j (Some c) None within

    other_at : (j : ℕ) → stream_of g'.endpoint (name j) ≡ cond (eqb n j) (Some (under (Some (number n)) c)) (stream_of g.endpoint (name j))
    other_at j =
        ap (λ xs. slice_index_or xs (name j) None) other ∙ set_there g.endpoint.streams (name n) (name j) (Some (under (Some (number n)) c)) None room
        ∙ ap (λ b. cond b (Some (under (Some (number n)) c)) (stream_of g.endpoint (name j))) (named n j)

    own_size : length s'.endpoint.streams ≡ length s.endpoint.streams
    own_size = ap length own ∙ length-set s.endpoint.streams n (Some c)

    set_streams : (j : ℕ) (d : StreamState) → stream_of s'.endpoint j ≡ Some d → stream_of g'.endpoint (name j) ≡ Some (under (Some (number j)) d)
    set_streams j d is = go (eqb n j) refl (sym (own_at j) ∙ is)
      where
        go : (b : Bool) → eqb n j ≡ b → cond (eqb n j) (Some c) (stream_of s.endpoint j) ≡ Some d → stream_of g'.endpoint (name j) ≡ Some (under (Some (number j)) d)
        go true e h =
            let same : c ≡ d = same_Some c d (sym (ap (λ b. cond b (Some c) (stream_of s.endpoint j)) e) ∙ h) in
            other_at j ∙ ap (λ b. cond b (Some (under (Some (number n)) c)) (stream_of g.endpoint (name j))) e ∙ (λ i. Some (under (Some (number (eqb-true n j e i))) (same i)))
        go false e h =
            other_at j ∙ ap (λ b. cond b (Some (under (Some (number n)) c)) (stream_of g.endpoint (name j))) e
            ∙ k.streams j d (sym (ap (λ b. cond b (Some c) (stream_of s.endpoint j)) e) ∙ h)

    set_used : (j : ℕ) → has_stream g'.endpoint (name j) ≡ was_used s'.endpoint j
    set_used j = ap is_some (other_at j) ∙ go (eqb n j) refl
      where
        past : (b : Bool) (x : ℕ) → j < x → true ≡ cond b (nat_lt j x) true
        past true x less = grind (arith, nat_tests)
        past false x less = refl

        go : (b : Bool) → eqb n j ≡ b → is_some (cond (eqb n j) (Some (under (Some (number n)) c)) (stream_of g.endpoint (name j))) ≡ was_used s'.endpoint j
        go true e =
            ap (λ b. is_some (cond b (Some (under (Some (number n)) c)) (stream_of g.endpoint (name j)))) e
            ∙ past (nat_le 64 j) (length s'.endpoint.streams) (omega (arith, within, own_size, eqb-true n j e))
            ∙ (λ i. cond (nat_le 64 j) (nat_lt j (length s'.endpoint.streams)) (is_some (sym (own_at j ∙ ap (λ b. cond b (Some c) (stream_of s.endpoint j)) e) i) || is_some (closed_at s'.endpoint j)))
        go false e =
            ap (λ b. is_some (cond b (Some (under (Some (number n)) c)) (stream_of g.endpoint (name j)))) e
            ∙ k.used j ∙ sym (used_same s.endpoint s'.endpoint j own_size (ap is_some (own_at j ∙ ap (λ b. cond b (Some c) (stream_of s.endpoint j)) e)) closed)

    one_set : g'.endpoint.table ≡ s'.endpoint.table → g'.endpoint.pools ≡ s'.endpoint.pools → ((j : ℕ) → wire_at g' (name j) ≡ wire_at s' j) → length s'.wires ≡ length s.wires → Alike name number size s' g'
    one_set table pools wires wide = record {
      table = table;
      pools = pools;
      streams = set_streams;
      numbers = set_numbers s.endpoint s'.endpoint n c within own named_so k.numbers;
      used = set_used;
      wires = wires;
      laid = wide ∙ k.laid ∙ sym own_size;
      many = omega (arith, k.many, own_size);
      ended = ap length closed ∙ k.ended;
      size_is = ap length other ∙ length-set g.endpoint.streams (name n) (Some (under (Some (number n)) c)) ∙ k.size_is;
    }

  -- ---- an act of a stream

  module _ (s g : EndState) (k : Alike name number size s g) (n : ℕ) (same : SameDenials s.endpoint.table (peer_of (stream_at s.endpoint n)) (peer_of (under (Some (number n)) (stream_at s.endpoint n)))) (act : StreamAct Octets) (has : has_stream s.endpoint n ≡ true) where
    abbrev own_act : Act Octets
    own_act = acts.Stream n act

    abbrev named_act : Act Octets
    named_act = acts.Stream (name n) act

    abbrev there_now : StreamState
    there_now = stream_at s.endpoint n

    is_there : stream_of s.endpoint n ≡ Some there_now
    is_there = stream_some (stream_of s.endpoint n) has

    named_parts : parts_at g.endpoint (name n) ≡ (s.endpoint.table, s.endpoint.pools, Some (under (Some (number n)) there_now))
    named_parts = λ i. (k.table i, k.pools i, k.streams n there_now is_there i)

    own_parts : parts_at s.endpoint n ≡ (s.endpoint.table, s.endpoint.pools, Some there_now)
    own_parts = λ i. (s.endpoint.table, s.endpoint.pools, is_there i)

    has_alike : has_stream g.endpoint (name n) ≡ true
    has_alike = ap is_some (k.streams n there_now is_there)

    stream_rule_alike : EndRule s.endpoint own_act → EndRule g.endpoint named_act
    stream_rule_alike rule = (has_alike, subst (RuleIn act) (sym named_parts) (rule_under (Some (number n)) s.endpoint.table s.endpoint.pools there_now same act (subst (RuleIn act) own_parts rule.1)))

    stream_left_alike : left_at g.endpoint (name n) act ≡ under (Some (number n)) (left_at s.endpoint n act)
    stream_left_alike =
        ap (left_in act) named_parts ∙ left_under (Some (number n)) s.endpoint.table s.endpoint.pools there_now same act ∙ ap (λ v. under (Some (number n)) (left_in act v)) (sym own_parts)

    stream_pools_alike : (after g.endpoint (call_made named_act)).pools ≡ (after s.endpoint (call_made own_act)).pools
    stream_pools_alike =
        stream_pools g.endpoint (name n) act has_alike ∙ ap (pools_in act) named_parts ∙ pools_under (Some (number n)) s.endpoint.table s.endpoint.pools there_now same act
        ∙ sym (stream_pools s.endpoint n act has ∙ ap (pools_in act) own_parts)

    stream_next : length g.wires ≡ length g.endpoint.streams → EndRule s.endpoint own_act → Alike name number size (end_after s own_act) (end_after g named_act)
    stream_next wide rule =
        let within : n < length s.endpoint.streams = there s.endpoint.streams n has in
        let room : name n < length g.endpoint.streams = there g.endpoint.streams (name n) has_alike in
        let other : EndRule g.endpoint named_act = stream_rule_alike rule in
        one_set s g (end_after s own_act) (end_after g named_act) n (left_at s.endpoint n act) k within room (streams_left s.endpoint own_act rule)
        (streams_left g.endpoint named_act other ∙ ap (λ z. slice_set g.endpoint.streams (name n) (Some z)) stream_left_alike) (closed_left s.endpoint own_act)
        (ap (λ (p : Peer). p.stream) (keeps_stream s.endpoint n act).peer ∙ number_at s.endpoint n k.numbers has)
        (table_left g.endpoint named_act other ∙ ap (λ t. table_by_stream t act) k.table ∙ sym (table_left s.endpoint own_act rule)) stream_pools_alike
        (λ j. wire_put g (name n) (name j) (deed act).shown (omega (arith, room, wide))
        ∙ (λ i. option_map_or (λ shown. cond (named n j i) (k.wires n i ++ octets_shown shown) (k.wires j i)) (deed act).shown (k.wires j i))
        ∙ sym (wire_put s n j (deed act).shown (omega (arith, within, k.laid))))
        (length-wires s own_act)

  -- ---- acts on regions and pools

  module _ (s g : EndState) (k : Alike name number size s g) where
    on_table : (act : Act Octets) → EndRule s.endpoint act → EndRule g.endpoint act → (after g.endpoint (call_made act)).pools ≡ (after s.endpoint (call_made act)).pools → streams_after s.endpoint act ≡ s.endpoint.streams
        → streams_after g.endpoint act ≡ g.endpoint.streams → wires_after s.wires act ≡ s.wires → wires_after g.wires act ≡ g.wires → Alike name number size (end_after s act) (end_after g act)
    on_table act rule other pools own_streams other_streams own_wires other_wires =
        still s g (end_after s act) (end_after g act) k (table_left g.endpoint act other ∙ ap (λ t. table_by t act) k.table ∙ sym (table_left s.endpoint act rule)) pools (streams_left s.endpoint act rule ∙ own_streams)
        (streams_left g.endpoint act other ∙ other_streams) (closed_left s.endpoint act) own_wires other_wires

    share_pools : (pd : ℕ) → (unless (endpoint.share_refusal g.endpoint pd) g.endpoint (endpoint.shared g.endpoint pd)).pools ≡ (unless (endpoint.share_refusal s.endpoint pd) s.endpoint (endpoint.shared s.endpoint pd)).pools
    share_pools pd =
        pools_either (endpoint.share_refusal g.endpoint pd) g.endpoint (endpoint.shared g.endpoint pd)
        ∙ (λ i. either (share_fault (is_added (k.table i) pd) (slice_index_or (k.pools i) pd None)) (k.pools i) (slice_set (k.pools i) pd (Some [])))
        ∙ sym (pools_either (endpoint.share_refusal s.endpoint pd) s.endpoint (endpoint.shared s.endpoint pd))

    pool_pools : (pd : ℕ) (buffer : List ℕ) → (unless (endpoint.pool_refusal g.endpoint pd) g.endpoint (endpoint.pooled g.endpoint pd buffer)).pools ≡ (unless (endpoint.pool_refusal s.endpoint pd) s.endpoint (endpoint.pooled s.endpoint pd buffer)).pools
    pool_pools pd buffer =
        pools_either (endpoint.pool_refusal g.endpoint pd) g.endpoint (endpoint.pooled g.endpoint pd buffer)
        ∙ (λ i. either (pool_fault (is_added (k.table i) pd) (slice_index_or (k.pools i) pd None)) (k.pools i) (slice_set (k.pools i) pd (option_map (λ pool. pool ++ buffer ∷ []) (slice_index_or (k.pools i) pd None))))
        ∙ sym (pools_either (endpoint.pool_refusal s.endpoint pd) s.endpoint (endpoint.pooled s.endpoint pd buffer))

    take_pools : (pd : ℕ) → (unless (endpoint.take_refusal g.endpoint pd) g.endpoint (endpoint.after_take g.endpoint pd)).pools ≡ (unless (endpoint.take_refusal s.endpoint pd) s.endpoint (endpoint.after_take s.endpoint pd)).pools
    take_pools pd =
        pools_either (endpoint.take_refusal g.endpoint pd) g.endpoint (endpoint.after_take g.endpoint pd)
        ∙ (λ i. either (take_fault (is_added (k.table i) pd) (slice_index_or (k.pools i) pd None)) (k.pools i) (slice_set (k.pools i) pd (option_map (drop 1) (slice_index_or (k.pools i) pd None))))
        ∙ sym (pools_either (endpoint.take_refusal s.endpoint pd) s.endpoint (endpoint.after_take s.endpoint pd))

  module _ (s g : EndState) (k : Alike name number size s g) (n : ℕ) (o : Opening) (is : n ≡ length s.endpoint.streams) (room : name n < size) where
    abbrev new : StreamState
    new = (connected o (Some n)).stream

    abbrev named_new : StreamState
    named_new = (connected o (Some (number n))).stream

    given_room : name n < length g.endpoint.streams
    given_room = omega (arith, room, k.size_is)

    given_own : (j : ℕ) → stream_of (with_given s n o).endpoint j ≡ cond (eqb n j) (Some new) (stream_of s.endpoint j)
    given_own j =
        ap (λ m. slice_index_or (put_at s.endpoint.streams m new) j None) is ∙ put_last s.endpoint.streams new j ∙ ap (λ m. cond (eqb m j) (Some new) (stream_of s.endpoint j)) (sym is)

    given_other : (j : ℕ) → stream_of (given g (name n) (number n) o).endpoint (name j) ≡ cond (eqb n j) (Some named_new) (stream_of g.endpoint (name j))
    given_other j = set_there g.endpoint.streams (name n) (name j) (Some named_new) None given_room ∙ ap (λ b. cond b (Some named_new) (stream_of g.endpoint (name j))) (named n j)

    given_size : length (with_given s n o).endpoint.streams ≡ length s.endpoint.streams + 1
    given_size = ap (λ m. length (put_at s.endpoint.streams m new)) is ∙ length-put_last s.endpoint.streams new

    given_streams : (j : ℕ) (d : StreamState) → stream_of (with_given s n o).endpoint j ≡ Some d → stream_of (given g (name n) (number n) o).endpoint (name j) ≡ Some (under (Some (number j)) d)
    given_streams j d at = go (eqb n j) refl (sym (given_own j) ∙ at)
      where
        go : (b : Bool) → eqb n j ≡ b → cond (eqb n j) (Some new) (stream_of s.endpoint j) ≡ Some d → stream_of (given g (name n) (number n) o).endpoint (name j) ≡ Some (under (Some (number j)) d)
        go true e h =
            let same : new ≡ d = same_Some new d (sym (ap (λ b. cond b (Some new) (stream_of s.endpoint j)) e) ∙ h) in
            given_other j ∙ ap (λ b. cond b (Some named_new) (stream_of g.endpoint (name j))) e ∙ (λ i. Some (under (Some (number (eqb-true n j e i))) (same i)))
        go false e h =
            given_other j ∙ ap (λ b. cond b (Some named_new) (stream_of g.endpoint (name j))) e ∙ k.streams j d (sym (ap (λ b. cond b (Some new) (stream_of s.endpoint j)) e) ∙ h)

    given_numbers : AreNumbered (with_given s n o).endpoint
    given_numbers j d at = go (eqb n j) refl (sym (given_own j) ∙ at)
      where
        go : (b : Bool) → eqb n j ≡ b → cond (eqb n j) (Some new) (stream_of s.endpoint j) ≡ Some d → d.number ≡ Some j
        go true e h =
            let same : new ≡ d = same_Some new d (sym (ap (λ b. cond b (Some new) (stream_of s.endpoint j)) e) ∙ h) in
            ap (λ (z : StreamState). z.number) (sym same) ∙ ap Some (eqb-true n j e)
        go false e h = k.numbers j d (sym (ap (λ b. cond b (Some new) (stream_of s.endpoint j)) e) ∙ h)

    given_used : (j : ℕ) → has_stream (given g (name n) (number n) o).endpoint (name j) ≡ was_used (with_given s n o).endpoint j
    given_used j = ap is_some (given_other j) ∙ go (eqb n j) refl
      where
        here : (b taken : Bool) (x : ℕ) → nat_le 64 j ≡ b → 64 ≤ j → j < x → true ≡ cond b (nat_lt j x) taken
        here true taken x e past less = grind (arith, nat_tests)
        here false taken x e past less = absurd (let no : ⊥ = grind (arith, nat_tests) in no)

        others : (b taken : Bool) (x y : ℕ) → (j < y → j < x) → (j < x → j < y) → cond b (nat_lt j x) taken ≡ cond b (nat_lt j y) taken
        others true taken x y up down = same_test (nat_lt j x) (nat_lt j y) refl refl
          where
            same_test : (b c : Bool) → nat_lt j x ≡ b → nat_lt j y ≡ c → nat_lt j x ≡ nat_lt j y
            same_test true true e f = e ∙ sym f
            same_test false false e f = e ∙ sym f
            same_test true false e f = let less : j < x = grind (arith, nat_tests, e) in let also : j < y = down less in absurd (let no : ⊥ = grind (arith, nat_tests, f, also) in no)
            same_test false true e f = let less : j < y = grind (arith, nat_tests, f) in let also : j < x = up less in absurd (let no : ⊥ = grind (arith, nat_tests, e, also) in no)
        others false taken x y up down = refl

        go : (b : Bool) → eqb n j ≡ b → is_some (cond (eqb n j) (Some named_new) (stream_of g.endpoint (name j))) ≡ was_used (with_given s n o).endpoint j
        go true e =
            let same : n ≡ j = eqb-true n j e in
            ap (λ b. is_some (cond b (Some named_new) (stream_of g.endpoint (name j)))) e
            ∙ here (nat_le 64 j) (is_taken (with_given s n o).endpoint j) (length (with_given s n o).endpoint.streams) refl (omega (arith, same, is, k.many)) (omega (arith, same, is, given_size))
        go false e =
            let apart_now : j ≡ n → ⊥ = λ same. false≢true (sym e ∙ eq-eqb n j (sym same)) in
            let not_last : j < length s.endpoint.streams + 1 → j < length s.endpoint.streams = λ h. no_last j (length s.endpoint.streams) h (λ same. apart_now (same ∙ sym is)) in
            let has : has_stream (with_given s n o).endpoint j ≡ has_stream s.endpoint j = ap is_some (given_own j ∙ ap (λ b. cond b (Some new) (stream_of s.endpoint j)) e) in
            ap (λ b. is_some (cond b (Some named_new) (stream_of g.endpoint (name j)))) e
            ∙ k.used j
            ∙ others (nat_le 64 j) (is_taken s.endpoint j) (length s.endpoint.streams) (length (with_given s n o).endpoint.streams) (λ h. not_last (subst (λ m. j < m) given_size h)) (λ h. omega (arith, h, given_size))
            ∙ (λ i. cond (nat_le 64 j) (nat_lt j (length (with_given s n o).endpoint.streams)) (sym has i || is_some (closed_at s.endpoint j)))

    next_alike : Alike name number size (with_given s n o) (given g (name n) (number n) o)
    next_alike = record {
      table = k.table;
      pools = k.pools;
      streams = given_streams;
      numbers = given_numbers;
      used = given_used;
      wires = λ j. k.wires j ∙ sym (get_or-push_default s.wires [] j);
      laid = length_push s.wires [] ∙ ap (λ m. m + 1) k.laid ∙ sym given_size;
      many = omega (arith, k.many, given_size);
      ended = k.ended;
      size_is = length-set g.endpoint.streams (name n) (Some named_new) ∙ k.size_is;
    }

    next_opens : Opens g (name n)
    next_opens = record { fresh = k.used n ∙ unused (nat_le 64 n) refl; number = given_room }
      where
        unused : (b : Bool) → nat_le 64 n ≡ b → cond b (nat_lt n (length s.endpoint.streams)) (is_taken s.endpoint n) ≡ false
        unused true e = grind (arith, nat_tests, is)
        unused false e = absurd (let no : ⊥ = grind (arith, nat_tests, e, is, k.many) in no)

  -- ---- a stream is closed

  module _ (s g : EndState) (k : Alike name number size s g) (n : ℕ) (has : has_stream s.endpoint n ≡ true) where
    abbrev shut : EndState
    shut = record s { endpoint = endpoint.after_close s.endpoint n }

    shut_within : n < length s.endpoint.streams
    shut_within = there s.endpoint.streams n has

    shut_own : (j : ℕ) → stream_of shut.endpoint j ≡ cond (eqb n j) None (stream_of s.endpoint j)
    shut_own j = set_there s.endpoint.streams n j None None shut_within

    shut_size : length shut.endpoint.streams ≡ length s.endpoint.streams
    shut_size = length-set s.endpoint.streams n None

    shut_there : (j : ℕ) (d : StreamState) → stream_of shut.endpoint j ≡ Some d → stream_of s.endpoint j ≡ Some d
    shut_there j d at = go (eqb n j) (sym (shut_own j) ∙ at)
      where
        go : (b : Bool) → cond b None (stream_of s.endpoint j) ≡ Some d → stream_of s.endpoint j ≡ Some d
        go true h = absurd (none-some _ h)
        go false h = h

    -- a number that was used is so
    shut_used : (j : ℕ) → was_used s.endpoint j ≡ was_used shut.endpoint j
    shut_used j =
        ap (λ m. cond (nat_le 64 j) (nat_lt j m) (is_taken s.endpoint j)) (sym shut_size)
        ∙ below (nat_le 64 j) (nat_lt j (length shut.endpoint.streams)) (is_taken s.endpoint j) (is_taken shut.endpoint j) (λ e. same_taken e (eqb n j) refl)
      where
        before : (b : Bool) → b ≡ true → (c : Bool) → (b || c) ≡ true
        before true h c = refl
        before false h c = absurd (false≢true h)

        after_it : (b c : Bool) → c ≡ true → (b || c) ≡ true
        after_it true c h = refl
        after_it false c h = h

        same_taken : nat_le 64 j ≡ false → (b : Bool) → eqb n j ≡ b → is_taken s.endpoint j ≡ is_taken shut.endpoint j
        same_taken small true e =
            let same : n ≡ j = eqb-true n j e in
            let few : j < 64 = grind (arith, nat_tests, small) in
            before (has_stream s.endpoint j) (subst (λ m. has_stream s.endpoint m ≡ true) same has) (is_some (closed_at s.endpoint j))
            ∙ sym (after_it (has_stream shut.endpoint j) (is_some (closed_at shut.endpoint j))
            (ap is_some (set_there s.endpoint.closed n j (Some (stream_at s.endpoint n).domain) None (omega (arith, few, k.ended, same)) ∙ ap (λ b. cond b (Some (stream_at s.endpoint n).domain) (closed_at s.endpoint j)) e)))
        same_taken small false e =
            let apart_now : j ≡ n → ⊥ = λ same. false≢true (sym e ∙ eq-eqb n j (sym same)) in
            λ i. is_some (sym (shut_own j ∙ ap (λ b. cond b None (stream_of s.endpoint j)) e) i) || is_some (sym (get_or-set_other s.endpoint.closed n j (Some (stream_at s.endpoint n).domain) None apart_now) i)

    close_alike : Alike name number size shut (retabled g shut.endpoint.table)
    close_alike = record {
      table = refl;
      pools = k.pools;
      streams = λ j d at. k.streams j d (shut_there j d at);
      numbers = λ j d at. k.numbers j d (shut_there j d at);
      used = λ j. k.used j ∙ shut_used j;
      wires = k.wires;
      laid = k.laid ∙ sym shut_size;
      many = omega (arith, k.many, shut_size);
      ended = length-set s.endpoint.closed n (Some (stream_at s.endpoint n).domain) ∙ k.ended;
      size_is = k.size_is;
    }

-- ---- one entry

-- a call tells nothing, and changes nothing there but the regions; or it tells one act
pub data TellsOne (name number : ℕ → ℕ) (size : ℕ) (s g peer : EndState) (act : ServerAct Octets) : Type 0 where
  Silent : told_by name act ≡ [] → length (server_after s act).endpoint.table ≡ length s.endpoint.table → (LimitsNone act → Unlimited s.endpoint.table → (server_after s act).endpoint.table ≡ s.endpoint.table)
      → Alike name number size (server_after s act) (retabled g (server_after s act).endpoint.table) → TellsOne name number size s g peer act
  Tells : (a : Act Octets) (g' : EndState) → told_by name act ≡ a ∷ [] → (m : Moves g peer g' a) → (((n : ℕ) → number n ≡ name n) → IsOwn m) → Alike name number size (server_after s act) g' → TellsOne name number size s g peer act

-- octets come from the stream of the same connection
sent_alike : (own other other_number : ℕ → ℕ) (size : ℕ) (p q : EndState) (n : ℕ) (act : StreamAct Octets) → Alike other other_number size p q → (needs_peer (stream_call_of act) ≡ true → IsSent own other p n act)
    → (needs_peer (stream_call_of act) ≡ true → has_stream q.endpoint (own n) ≡ true) × WireRule (wire_at q (own n)) act
sent_alike own other other_number size p q n (Deliver from number octets delivery) k rule =
    let x : IsSent own other p n (Deliver from number octets delivery) = rule refl in
    (λ h. subst (λ j. has_stream q.endpoint j ≡ true) x.connected (k.used x.from ∙ x.opened), subst (λ z. WireRule z (Deliver from number octets delivery)) (sym (k.wires x.from) ∙ ap (wire_at q) x.connected) x.sent)
sent_alike own other other_number size p q n (Raw number octets delivery) k rule = (λ h. absurd (false≢true h), tt)
sent_alike own other other_number size p q n (Recv len refused) k rule = (λ h. absurd (false≢true h), tt)
sent_alike own other other_number size p q n (Post m refused) k rule = (λ h. absurd (false≢true h), tt)
sent_alike own other other_number size p q n (Emit shown) k rule = (λ h. absurd (false≢true h), tt)
sent_alike own other other_number size p q n (First number refused) k rule = (λ h. absurd (false≢true h), tt)
sent_alike own other other_number size p q n (Mulpdu size' refused) k rule = (λ h. absurd (false≢true h), tt)
sent_alike own other other_number size p q n (Accept private answer) k rule = (λ h. absurd (false≢true h), tt)
sent_alike own other other_number size p q n (Reject private refused) k rule = (λ h. absurd (false≢true h), tt)
sent_alike own other other_number size p q n (Work step) k rule = (λ h. absurd (false≢true h), tt)
sent_alike own other other_number size p q n Break k rule = (λ h. absurd (false≢true h), tt)

-- the number that an act opens
abbrev opened_by : ServerAct Octets → Option ℕ
opened_by (Plain (Open n pd role options private None)) = Some n
opened_by (Plain (OpenShared n pd role options private None)) = Some n
opened_by (OpenNext pd role options private (Ok n)) = Some n
opened_by (OpenSharedNext pd role options private (Ok n)) = Some n
opened_by act = None

module _ (own number other other_number : ℕ → ℕ) (apart : (n m : ℕ) → own n ≡ own m → n ≡ m) (size : ℕ) (s g p q : EndState) (k : Alike own number size s g) (peers : Alike other other_number size p q) (wide : length g.wires ≡ length g.endpoint.streams)
    (same : (n : ℕ) → has_stream s.endpoint n ≡ true → SameDenials s.endpoint.table (peer_of (stream_at s.endpoint n)) (peer_of (under (Some (number n)) (stream_at s.endpoint n)))) where
  opened_alike : (act : Act Octets) (n : ℕ) (o : Opening) → EndRule s.endpoint act → n < 64 → own n < size → streams_after s.endpoint act ≡ slice_set s.endpoint.streams n (Some (connected o (Some n)).stream) → (after s.endpoint (call_made act)).pools ≡ s.endpoint.pools
      → table_by s.endpoint.table act ≡ s.endpoint.table → wires_after s.wires act ≡ s.wires → Alike own number size (end_after s act) (given g (own n) (number n) o)
  opened_alike act n o rule few room left pools table wires =
      one_set own number apart size s g (end_after s act) (given g (own n) (number n) o) n (connected o (Some n)).stream k (omega (arith, few, k.many)) (omega (arith, room, k.size_is)) (streams_left s.endpoint act rule ∙ left) refl (closed_left s.endpoint act) refl
      (k.table ∙ sym (table_left s.endpoint act rule ∙ table)) (k.pools ∙ sym pools) (λ j. k.wires j ∙ sym (ap (λ ws. slice_index_or ws j []) wires)) (ap length wires)

  -- the application picked a number that is free
  picked_free : (n pd : ℕ) → own n < size → None ≡ number_refusal s.endpoint n pd → Opens g (own n)
  picked_free n pd room rule =
      let new = numbered s.endpoint n pd rule in
      record { fresh = k.used n ∙ small (nat_le 64 n) refl new.1 ∙ new.2; number = omega (arith, room, k.size_is) }
    where
      small : (b : Bool) → nat_le 64 n ≡ b → n < 64 → was_used s.endpoint n ≡ is_taken s.endpoint n
      small true e few = absurd (let no : ⊥ = grind (arith, nat_tests, e, few) in no)
      small false e few = ap (λ b. cond b (nat_lt n (length s.endpoint.streams)) (is_taken s.endpoint n)) e

  -- an act of a stream, whatever its call
  pub stream_step : (n : ℕ) (act : StreamAct Octets) → EndRule s.endpoint (acts.Stream n act) × PlainPeerRule own other p (acts.Stream n act) → Rule g q (acts.Stream (own n) act) × Alike own number size (end_after s (acts.Stream n act)) (end_after g (acts.Stream (own n) act))
  stream_step n act rule =
      let has : has_stream s.endpoint n ≡ true = rule.0.0 in
      ((stream_rule_alike own number apart size s g k n (same n has) act has rule.0, sent_alike own other other_number size p q n act peers rule.1), stream_next own number apart size s g k n (same n has) act has wide rule.0)

  unopened_step : (act : Act Octets) → plain_told own act ≡ [] → EndRule s.endpoint act → streams_after s.endpoint act ≡ s.endpoint.streams → (after s.endpoint (call_made act)).pools ≡ s.endpoint.pools → table_by s.endpoint.table act ≡ s.endpoint.table
      → wires_after s.wires act ≡ s.wires → TellsOne own number size s g q (Plain act)
  unopened_step act tells rule streams pools table wires =
      let kept : (after s.endpoint (call_made act)).table ≡ s.endpoint.table = table_left s.endpoint act rule ∙ table in
      Silent tells (ap length kept) (λ none free. kept)
      (still own number apart size s g (end_after s act) (retabled g (after s.endpoint (call_made act)).table) k refl (k.pools ∙ sym pools) (streams_left s.endpoint act rule ∙ streams) refl (closed_left s.endpoint act) wires refl)

  plain_step : (act : Act Octets) → OnSome (λ n. own n < size) (opened_by (Plain act)) → EndRule s.endpoint act × PlainPeerRule own other p act → TellsOne own number size s g q (Plain act)
  plain_step (Domain pd refused) room rule =
      let r : EndRule g.endpoint (Domain pd refused) = rule.0 ∙ sym (ap (λ t. domain_refusal t pd) k.table) in
      Tells (Domain pd refused) (end_after g (Domain pd refused)) refl (Does (r, tt) refl) (λ h. tt)
      (on_table own number apart size s g k (Domain pd refused) rule.0 r (pools_refused (endpoint.domain_refusal g.endpoint pd) g.endpoint (endpoint.added g.endpoint pd) refl ∙ k.pools ∙ sym (pools_refused (endpoint.domain_refusal s.endpoint pd) s.endpoint (endpoint.added s.endpoint pd) refl)) refl refl refl refl)
  plain_step (Register pd base rights octets answer) room rule =
      let r : EndRule g.endpoint (Register pd base rights octets answer) = rule.0 ∙ sym (ap (λ t. answer_or (register_refusal t pd base (length octets)) (next_stag t pd)) k.table) in
      Tells (Register pd base rights octets answer) (end_after g (Register pd base rights octets answer)) refl (Does (r, tt) refl) (λ h. tt)
      (on_table own number apart size s g k (Register pd base rights octets answer) rule.0 r
      (pools_refused (register_refusal g.endpoint.table pd base (length octets)) g.endpoint (endpoint.registered g.endpoint pd base octets rights) refl ∙ k.pools
      ∙ sym (pools_refused (register_refusal s.endpoint.table pd base (length octets)) s.endpoint (endpoint.registered s.endpoint pd base octets rights) refl)) refl refl refl refl)
  plain_step (Deregister stag answer) room rule =
      let r : EndRule g.endpoint (Deregister stag answer) = rule.0 ∙ sym (ap (λ t. deregister_answer t stag) k.table) in
      Tells (Deregister stag answer) (end_after g (Deregister stag answer)) refl (Does (r, tt) refl) (λ h. tt) (on_table own number apart size s g k (Deregister stag answer) rule.0 r k.pools refl refl refl refl)
  plain_step (Invalidate stag refused) room rule =
      let r : EndRule g.endpoint (Invalidate stag refused) = rule.0 ∙ sym (ap (λ t. invalidate_refusal t stag) k.table) in
      Tells (Invalidate stag refused) (end_after g (Invalidate stag refused)) refl (Does (r, tt) refl) (λ h. tt) (on_table own number apart size s g k (Invalidate stag refused) rule.0 r k.pools refl refl refl refl)
  plain_step (Store stag to octets refused) room rule =
      let r : EndRule g.endpoint (Store stag to octets refused) = rule.0 ∙ sym (ap (λ t. store_refusal t stag to (length octets)) k.table) in
      Tells (Store stag to octets refused) (end_after g (Store stag to octets refused)) refl (Does (r, tt) refl) (λ h. tt)
      (on_table own number apart size s g k (Store stag to octets refused) rule.0 r
      (pools_refused (endpoint.store_refusal g.endpoint stag to (length octets)) g.endpoint (endpoint.stored g.endpoint stag to octets) refl ∙ k.pools ∙ sym (pools_refused (endpoint.store_refusal s.endpoint stag to (length octets)) s.endpoint (endpoint.stored s.endpoint stag to octets) refl)) refl refl refl refl)
  plain_step (Share pd refused) room rule =
      let r : EndRule g.endpoint (Share pd refused) = rule.0 ∙ sym (λ i. share_fault (is_added (k.table i) pd) (slice_index_or (k.pools i) pd None)) in
      Tells (Share pd refused) (end_after g (Share pd refused)) refl (Does (r, tt) refl) (λ h. tt) (on_table own number apart size s g k (Share pd refused) rule.0 r (share_pools own number apart size s g k pd) refl refl refl refl)
  plain_step (Pool pd len refused) room rule =
      let r : EndRule g.endpoint (Pool pd len refused) = rule.0 ∙ sym (λ i. pool_fault (is_added (k.table i) pd) (slice_index_or (k.pools i) pd None)) in
      Tells (Pool pd len refused) (end_after g (Pool pd len refused)) refl (Does (r, tt) refl) (λ h. tt) (on_table own number apart size s g k (Pool pd len refused) rule.0 r (pool_pools own number apart size s g k pd (replicate len 0)) refl refl refl refl)
  plain_step (Unpool pd answer) room rule =
      let r : EndRule g.endpoint (Unpool pd answer) =
      rule.0 ∙ sym (λ i. answer_or (take_fault (is_added (k.table i) pd) (slice_index_or (k.pools i) pd None)) (taken (slice_index_or (k.pools i) pd None))) in
      Tells (Unpool pd answer) (end_after g (Unpool pd answer)) refl (Does (r, tt) refl) (λ h. tt) (on_table own number apart size s g k (Unpool pd answer) rule.0 r (take_pools own number apart size s g k pd) refl refl refl refl)
  plain_step (Open n pd role options private None) room rule =
      let config : Config = config_for options private in
      let free : None ≡ number_refusal s.endpoint n pd = numbered_open s.endpoint n pd role config rule.0 in
      Tells (Open (own n) pd role options private None) (given g (own n) (number n) (opening_by false pd role options private)) refl
      (Gives (own n) (number n) (opening_by false pd role options private) (picked_free n pd room free) (open_fits s.endpoint n pd role options private rule.0) (record { opening = λ j. refl; silent = λ j. refl; table = λ t. refl; pools = λ p d. refl }) tt refl) (λ h. h n)
      (opened_alike (Open n pd role options private None) n (opening_by false pd role options private) rule.0 (numbered s.endpoint n pd free).1 room refl
      (pools_refused (open_refusal s.endpoint n pd role config) s.endpoint (endpoint.opened s.endpoint n pd role config) refl) refl refl)
  plain_step (Open n pd role options private (Some r)) room rule =
      let config : Config = config_for options private in
      unopened_step (Open n pd role options private (Some r)) refl rule.0 refl (pools_refused (open_refusal s.endpoint n pd role config) s.endpoint (endpoint.opened s.endpoint n pd role config) refl) refl refl
  plain_step (OpenShared n pd role options private None) room rule =
      let config : Config = config_for options private in
      let free : None ≡ number_refusal s.endpoint n pd = numbered_shared s.endpoint n pd role config rule.0 in
      Tells (OpenShared (own n) pd role options private None) (given g (own n) (number n) (opening_by true pd role options private)) refl
      (Gives (own n) (number n) (opening_by true pd role options private) (picked_free n pd room free) (shared_fits s.endpoint n pd role options private rule.0) (record { opening = λ j. refl; silent = λ j. refl; table = λ t. refl; pools = λ p d. refl }) tt refl) (λ h. h n)
      (opened_alike (OpenShared n pd role options private None) n (opening_by true pd role options private) rule.0 (numbered s.endpoint n pd free).1 room refl
      (pools_refused (open_shared_refusal s.endpoint n pd role config) s.endpoint (endpoint.opened_shared s.endpoint n pd role config) refl) refl refl)
  plain_step (OpenShared n pd role options private (Some r)) room rule =
      let config : Config = config_for options private in
      unopened_step (OpenShared n pd role options private (Some r)) refl rule.0 refl (pools_refused (open_shared_refusal s.endpoint n pd role config) s.endpoint (endpoint.opened_shared s.endpoint n pd role config) refl) refl refl
  plain_step (acts.Stream n act) room rule = let x = stream_step n act rule in Tells (acts.Stream (own n) act) (end_after g (acts.Stream (own n) act)) refl (Does x.0 refl) (λ h. tt) x.1

  given_step : (n : ℕ) (o : Opening) (e : EndpointState) → n ≡ length s.endpoint.streams → own n < size → OpensFit o → e ≡ endpoint.with_next s.endpoint n (connected o (Some n)).stream
      → (Opens g (own n) × OpensFit o) × Alike own number size (record { endpoint = e; wires = s.wires ++ [] ∷ [] }) (given g (own n) (number n) o)
  given_step n o e is room fits left =
      ((next_opens own number apart size s g k n o is room, fits), subst (λ z. Alike own number size (record { endpoint = z; wires = s.wires ++ [] ∷ [] }) (given g (own n) (number n) o)) (sym left) (next_alike own number apart size s g k n o is room))

  unchanged_alike : (e : EndpointState) → e ≡ s.endpoint → Alike own number size (record { endpoint = e; wires = s.wires }) (retabled g e.table)
  unchanged_alike e is = subst (λ (z : EndpointState). Alike own number size (record { endpoint = z; wires = s.wires }) (retabled g z.table)) (sym is) (still own number apart size s g s (retabled g s.endpoint.table) k refl k.pools refl refl refl refl refl)

  refused_step : (act : ServerAct Octets) → told_by own act ≡ [] → server_wires s.wires act ≡ s.wires → (server_after s act).endpoint ≡ s.endpoint → TellsOne own number size s g q act
  refused_step act none wires is =
      let e : EndpointState = (server_after s act).endpoint in
      let kept : e.table ≡ s.endpoint.table = ap (λ (z : EndpointState). z.table) is in
      Silent none (ap length kept) (λ unlimited free. kept) (subst (λ ws. Alike own number size (record { endpoint = e; wires = ws }) (retabled g e.table)) (sym wires) (unchanged_alike e is))

  -- the regions are others
  limited_step : (n base : ℕ) (rights : Rights) (octets : Octets) (stag : Stag) → (server_after s (RegisterFor n base rights octets (Ok stag))).endpoint ≡ endpoint.limited s.endpoint n base octets rights → TellsOne own number size s g q (RegisterFor n base rights octets (Ok stag))
  limited_step n base rights octets stag is =
      let e' : EndpointState = endpoint.limited s.endpoint n base octets rights in
      Silent refl
      (ap (λ (z : EndpointState). length z.table) is ∙ length-set s.endpoint.table (stream_at s.endpoint n).domain _) (λ none free. absurd none)
      (subst (λ (z : EndpointState). Alike own number size (record { endpoint = z; wires = s.wires }) (retabled g z.table)) (sym is)
      (still own number apart size s g (record { endpoint = e'; wires = s.wires }) (retabled g e'.table) k refl k.pools refl refl refl refl refl))

  step : (act : ServerAct Octets) → OnSome (λ n. own n < size) (opened_by act) → ServerRule own other s p act → TellsOne own number size s g q act
  step (Plain act) room rule = plain_step act room rule
  step (Stream n act) room rule = let x = stream_step n act rule in Tells (acts.Stream (own n) act) (end_after g (acts.Stream (own n) act)) refl (Does x.0 refl) (λ h. tt) x.1
  step (Read n from sequence octets delivery) room rule = let x = stream_step n (Deliver from sequence octets delivery) (rule.0.1, rule.1) in Tells (acts.Stream (own n) (Deliver from sequence octets delivery)) (end_after g (acts.Stream (own n) (Deliver from sequence octets delivery))) refl (Does x.0 refl) (λ h. tt) x.1
  step (ReadRaw n sequence octets delivery) room rule = let x = stream_step n (Raw sequence octets delivery) (rule.0.1, λ h. absurd (false≢true h)) in Tells (acts.Stream (own n) (Raw sequence octets delivery)) (end_after g (acts.Stream (own n) (Raw sequence octets delivery))) refl (Does x.0 refl) (λ h. tt) x.1
  step (OpenNext pd role options private (Ok n)) room rule =
      let e : EndpointState = s.endpoint in
      let config : Config = config_for options private in
      let h = granted (next_refusal e (next_number e) pd role config) n (unwrap_or (next_number e) 0) rule.0 in
      let i : IsGiven e role config = next_given e pd role config h.0 in
      let x = given_step n (opening_by false pd role options private) (after e (server_call e (OpenNext pd role options private (Ok n)))) (h.1 ∙ i.number) room (fits_so false pd role options private i.fits)
      (ap (λ r. unless r e (endpoint.opened_next e (next_number e) pd role config)) (sym h.0) ∙ ap (λ m. endpoint.with_next e m (endpoint.new_stream m pd role config)) (sym h.1)) in
      Tells (Open (own n) pd role options private None) (given g (own n) (number n) (opening_by false pd role options private)) refl
      (Gives (own n) (number n) (opening_by false pd role options private) x.0.0 x.0.1 (record { opening = λ j. refl; silent = λ j. refl; table = λ t. refl; pools = λ p d. refl }) tt refl) (λ h. h n) x.1
  step (OpenNext pd role options private (Err r)) room rule =
      let e : EndpointState = s.endpoint in
      let config : Config = config_for options private in
      refused_step (OpenNext pd role options private (Err r)) refl refl (ap (λ z. unless z e (endpoint.opened_next e (next_number e) pd role config)) (sym (denied (next_refusal e (next_number e) pd role config) r (unwrap_or (next_number e) 0) rule.0)))
  step (OpenSharedNext pd role options private (Ok n)) room rule =
      let e : EndpointState = s.endpoint in
      let config : Config = config_for options private in
      let h = granted (next_shared_refusal e (next_number e) pd role config) n (unwrap_or (next_number e) 0) rule.0 in
      let i : IsGiven e role config = next_shared_given e pd role config h.0 in
      let x = given_step n (opening_by true pd role options private) (after e (server_call e (OpenSharedNext pd role options private (Ok n)))) (h.1 ∙ i.number) room (fits_so true pd role options private i.fits)
      (ap (λ r. unless r e (endpoint.opened_shared_next e (next_number e) pd role config)) (sym h.0) ∙ ap (λ m. endpoint.with_next e m (endpoint.new_shared m pd role config)) (sym h.1)) in
      Tells (OpenShared (own n) pd role options private None) (given g (own n) (number n) (opening_by true pd role options private)) refl
      (Gives (own n) (number n) (opening_by true pd role options private) x.0.0 x.0.1 (record { opening = λ j. refl; silent = λ j. refl; table = λ t. refl; pools = λ p d. refl }) tt refl) (λ h. h n) x.1
  step (OpenSharedNext pd role options private (Err r)) room rule =
      let e : EndpointState = s.endpoint in
      let config : Config = config_for options private in
      refused_step (OpenSharedNext pd role options private (Err r)) refl refl (ap (λ z. unless z e (endpoint.opened_shared_next e (next_number e) pd role config)) (sym (denied (next_shared_refusal e (next_number e) pd role config) r (unwrap_or (next_number e) 0) rule.0)))
  step (RegisterFor n base rights octets (Ok stag)) room rule =
      let e : EndpointState = s.endpoint in
      let h = granted (limit_refusal e n base (length octets)) stag (next_stag e.table (stream_at e n).domain) rule.0.1 in
      limited_step n base rights octets stag (ap (λ r. unless r e (endpoint.limited e n base octets rights)) (sym h.0))
  step (RegisterFor n base rights octets (Err r)) room rule =
      let e : EndpointState = s.endpoint in
      refused_step (RegisterFor n base rights octets (Err r)) refl refl (ap (λ z. unless z e (endpoint.limited e n base octets rights)) (sym (denied (limit_refusal e n base (length octets)) (Refused r) (next_stag e.table (stream_at e n).domain) rule.0.1)))
  step (Close n None) room rule =
      let e : EndpointState = s.endpoint in
      let left : (server_after s (Close n None)).endpoint ≡ endpoint.after_close e n = asked e (endpoint.after_close e n) n rest_refusal None rule.0.0 rule.0.1 in
      Silent refl (ap (λ (z : EndpointState). length z.table) left ∙ length-set e.table (stream_at e n).domain _)
      (λ none free. ap (λ (z : EndpointState). z.table) left ∙ retired_free e.table (peer_of (stream_at e n)) free)
      (subst (λ (z : EndpointState). Alike own number size (record { endpoint = z; wires = s.wires }) (retabled g z.table)) (sym left) (close_alike own number apart size s g k n rule.0.0))
  step (Close n (Some r)) room rule = refused_step (Close n (Some r)) refl refl (asked s.endpoint (endpoint.after_close s.endpoint n) n rest_refusal (Some r) rule.0.0 rule.0.1)

-- ---- one entry after another

abbrev pub BothAlike : Connections → Connections → ℕ → State → State → Type 0
BothAlike name number size w u = (x : End) → Alike (name x) (number x) size (end_of x w) (end_of x u)

-- the numbers that are opened have names below this
abbrev FitsIn : Connections → ℕ → List (ServerEntry Octets) → Type 0
FitsIn name size [] = Unit {0}
FitsIn name size (e ∷ es) = OnSome (λ n. name e.end n < size) (opened_by e.act) × FitsIn name size es

-- what was told leads to a state that is like the server's, and has a moment at each place; in a strict one the regions, and
-- the numbers of streams, are those that were told
pub record Walked (Strict : Type 0) (name number : Connections) (size : ℕ) (past done : List (Entry Octets)) (final : State) : Type 0 where
  pub last : State
  pub keeps : Keeps (past ++ done) last
  pub alike : BothAlike name number size final last
  pub as_told : Strict → AreTold (past ++ done) last
  pub moments : (front future : List (Entry Octets)) → done ≡ front ++ future → (m : Moment (past ++ front) future) × (Strict → AreTold (past ++ front) m.state)

-- the same regions
told_retabled : (past : List (Entry Octets)) (u : State) (x : End) (t : Table) → AreTold past u → t ≡ (end_of x u).endpoint.table → AreTold past (with_end x (retabled (end_of x u) t) u)
told_retabled past u A t told same = both (λ y. IsTold (end_of y (with_end A (retabled u.a t) u)) (words.acts y past)) A (record { table = same ∙ (told A).table; numbers = (told A).numbers }) (told B)
told_retabled past u B t told same = both (λ y. IsTold (end_of y (with_end B (retabled u.b t) u)) (words.acts y past)) B (record { table = same ∙ (told B).table; numbers = (told B).numbers }) (told A)

module _ (Strict : Type 0) (name number : Connections) (apart : AreApart name) (own : Strict → (x : End) (n : ℕ) → number x n ≡ name x n) (size : ℕ) where
  -- one more entry is told in front
  one_told : (past done : List (Entry Octets)) (e : Entry Octets) (u final : State) → Keeps past u → (Strict → AreTold past u) → PlainRuleIn u e → Walked Strict name number size (past ++ e ∷ []) done final → Walked Strict name number size past (e ∷ done) final
  one_told past done e u final k shown rule later = record {
    last = later.last;
    keeps = subst (λ p. Keeps p later.last) (append_assoc past (e ∷ []) done) later.keeps;
    alike = later.alike;
    as_told = λ h. subst (λ p. AreTold p later.last) (append_assoc past (e ∷ []) done) (later.as_told h);
    moments = at;
  }
    where
      at : (front future : List (Entry Octets)) → e ∷ done ≡ front ++ future → (m : Moment (past ++ front) future) × (Strict → AreTold (past ++ front) m.state)
      at [] future is =
          (record { state = u; keeps = subst (λ p. Keeps p u) (sym (append-nil past)) k; next = subst (NextRule u) is rule }, λ h. subst (λ p. AreTold p u) (sym (append-nil past)) (shown h))
      at (f ∷ front) future is =
          let same : e ≡ f = cc in
          let rest : done ≡ front ++ future = cc in
          let P : List (Entry Octets) → Type 0 = λ p. (m : Moment p future) × (Strict → AreTold p m.state) in
          subst P (append_assoc past (e ∷ []) front ∙ ap (λ z. past ++ z ∷ front) same) (later.moments front future rest)

  -- an entry that the server's run has
  next : (es : List (ServerEntry Octets)) (past : List (Entry Octets)) (w u : State) (x : End) (act : ServerAct Octets) → Keeps past u → (Strict → AreTold past u) → (Strict → LimitsNone act) → BothAlike name number size w u
      → ((past' : List (Entry Octets)) (u' : State) → Keeps past' u' → (Strict → AreTold past' u') → BothAlike name number size (with_end x (server_after (end_of x w) act) w) u'
      → Walked Strict name number size past' (told name es) (server_state_after (with_end x (server_after (end_of x w) act) w) es))
      → TellsOne (name x) (number x) size (end_of x w) (end_of x u) (end_of (other x) u) act
      → Walked Strict name number size past (at_end x (told_by (name x) act) ++ told name es) (server_state_after (with_end x (server_after (end_of x w) act) w) es)
  next es past w u x act k shown none alike rest (Silent silent many kept left) =
      let s' : EndState = server_after (end_of x w) act in
      let t : Table = s'.endpoint.table in
      let g' : EndState = retabled (end_of x u) t in
      let P : End → Type 0 = λ y. Alike (name y) (number y) size (end_of y (with_end x s' w)) (end_of y (with_end x g' u)) in
      let here : P x = subst (λ z. Alike (name x) (number x) size z (end_of x (with_end x g' u))) (sym (changed x s' w)) (subst (λ z. Alike (name x) (number x) size s' z) (sym (changed x g' u)) left) in
      let there : P (other x) =
      subst (λ z. Alike (name (other x)) (number (other x)) size z (end_of (other x) (with_end x g' u))) (sym (unchanged x s' w))
      (subst (λ z. Alike (name (other x)) (number (other x)) size (end_of (other x) w) z) (sym (unchanged x g' u)) (alike (other x))) in
      let same : Strict → t ≡ (end_of x u).endpoint.table = λ h. kept (none h) (subst Unlimited (sym (shown h x).table ∙ (alike x).table) (all_free (words.acts x past))) ∙ sym (alike x).table in
      subst (λ done. Walked Strict name number size past (at_end x done ++ told name es) (server_state_after (with_end x s' w) es)) (sym silent)
      (rest past (with_end x g' u) (keeps_retabled past u x t k (many ∙ ap length (sym (alike x).table))) (λ h. told_retabled past u x t (shown h) (same h)) (both P x here there))
  next es past w u x act k shown none alike rest (Tells a g' one m owned left) =
      let e : Entry Octets = record { end = x; act = a } in
      let s' : EndState = server_after (end_of x w) act in
      let P : End → Type 0 = λ y. Alike (name y) (number y) size (end_of y (with_end x s' w)) (end_of y (with_end x g' u)) in
      let here : P x = subst (λ z. Alike (name x) (number x) size z (end_of x (with_end x g' u))) (sym (changed x s' w)) (subst (λ z. Alike (name x) (number x) size s' z) (sym (changed x g' u)) left) in
      let there : P (other x) =
      subst (λ z. Alike (name (other x)) (number (other x)) size z (end_of (other x) (with_end x g' u))) (sym (unchanged x s' w))
      (subst (λ z. Alike (name (other x)) (number (other x)) size (end_of (other x) w) z) (sym (unchanged x g' u)) (alike (other x))) in
      subst (λ done. Walked Strict name number size past (at_end x done ++ told name es) (server_state_after (with_end x s' w) es)) (sym one)
      (one_told past (told name es) e u (server_state_after (with_end x s' w) es) k shown (moves_rule (end_of x u) (end_of (other x) u) g' a m)
      (rest (past ++ e ∷ []) (with_end x g' u) (moves_keep past u x a g' k m) (λ h. moves_told past u x a g' k m (owned (own h x)) (shown h)) (both P x here there)))

  -- the peer of a stream is denied the same under its number there
  abbrev DeniesAlike : List (Entry Octets) → State → State → Type 0
  DeniesAlike past w u = BothAlike name number size w u → (Strict → AreTold past u) → (x : End) (n : ℕ) → has_stream (end_of x w).endpoint n ≡ true
      → SameDenials (end_of x w).endpoint.table (peer_of (stream_at (end_of x w).endpoint n)) (peer_of (under (Some (number x n)) (stream_at (end_of x w).endpoint n)))

  -- nothing is told
  none_told : (past : List (Entry Octets)) (w u : State) → Keeps past u → (Strict → AreTold past u) → BothAlike name number size w u → Walked Strict name number size past [] w
  none_told past w u k shown alike = record {
    last = u;
    keeps = subst (λ p. Keeps p u) (sym (append-nil past)) k;
    alike = alike;
    as_told = λ h. subst (λ p. AreTold p u) (sym (append-nil past)) (shown h);
    moments = at;
  }
    where
      at : (front future : List (Entry Octets)) → [] ≡ front ++ future → (m : Moment (past ++ front) future) × (Strict → AreTold (past ++ front) m.state)
      at [] future is =
          (record { state = u; keeps = subst (λ p. Keeps p u) (sym (append-nil past)) k; next = subst (NextRule u) is tt }, λ h. subst (λ p. AreTold p u) (sym (append-nil past)) (shown h))
      at (f ∷ front) future is = absurd (omega (arith, ap length is))

  -- an entry that follows the rules
  entry_told : (e : ServerEntry Octets) (es : List (ServerEntry Octets)) (past : List (Entry Octets)) (w u : State) → DeniesAlike past w u → Keeps past u → (Strict → AreTold past u) → (Strict → LimitsNone e.act) → OnSome (λ n. name e.end n < size) (opened_by e.act)
      → BothAlike name number size w u → ServerRule (name e.end) (name (other e.end)) (end_of e.end w) (end_of (other e.end) w) e.act
      → ((past' : List (Entry Octets)) (u' : State) → Keeps past' u' → (Strict → AreTold past' u') → BothAlike name number size (after_server_entry w e) u' → Walked Strict name number size past' (told name es) (server_state_after (after_server_entry w e) es))
      → Walked Strict name number size past (told name (e ∷ es)) (server_state_after w (e ∷ es))
  entry_told e es past w u same k shown none room alike rule rest =
      let x : End = e.end in
      next es past w u x e.act k shown none alike rest
      (step (name x) (number x) (name (other x)) (number (other x)) (apart x) size (end_of x w) (end_of x u) (end_of (other x) w) (end_of (other x) u) (alike x) (alike (other x)) (k.ends x).wires (same alike shown x) e.act room rule)

  walk : ((past : List (Entry Octets)) (w u : State) → DeniesAlike past w u) → (trace : List (ServerEntry Octets)) (past : List (Entry Octets)) (w u : State) → Keeps past u → (Strict → AreTold past u) → (Strict → NoneLimited trace) → FitsIn name size trace
      → BothAlike name number size w u → ServerFollows name w trace → Walked Strict name number size past (told name trace) (server_state_after w trace)
  walk same [] past w u k shown none fits alike follows = none_told past w u k shown alike
  walk same (e ∷ es) past w u k shown none fits alike follows =
      entry_told e es past w u (same past w u) k shown (λ h. (none h).0) fits.0 alike follows.0 (λ past' u' k' shown' alike'. walk same es past' (after_server_entry w e) u' k' shown' (λ h. (none h).1) fits.1 alike' follows.1)

-- ---- at the start

first_alike : (name number : ℕ → ℕ) (size : ℕ) → Alike name number size at_first (end_with size)
unfolding no_streams no_wires no_closed
first_alike name number size = record {
  table = refl;
  pools = refl;
  streams = λ n c is. absurd (none-some _ (sym (none_at 64 n) ∙ is));
  numbers = λ n c is. absurd (none-some _ (sym (none_at 64 n) ∙ is));
  used = λ n. ap is_some (none_at size (name n)) ∙ nothing n (nat_le 64 n) refl;
  wires = λ n. no_wire size (name n) ∙ sym (no_wire 64 n);
  laid = length-replicate {A = Octets} 64 [] ∙ sym (length-replicate {A = Option StreamState} 64 None);
  many = omega (arith, length-replicate {A = Option StreamState} 64 None);
  ended = length-replicate {A = Option ℕ} 64 None;
  size_is = length-replicate {A = Option StreamState} size None;
}
  where
    none_ended : (k n : ℕ) → slice_index_or (replicate {A = Option ℕ} k None) n None ≡ None
    none_ended zero n = refl
    none_ended (suc k) zero = refl
    none_ended (suc k) (suc n) = none_ended k n

    nothing : (n : ℕ) (b : Bool) → nat_le 64 n ≡ b → false ≡ cond b (nat_lt n (length (replicate {A = Option StreamState} 64 None))) (is_some (slice_index_or (replicate {A = Option StreamState} 64 None) n None) || is_some (slice_index_or (replicate {A = Option ℕ} 64 None) n None))
    nothing n true e = grind (arith, nat_tests, length-replicate {A = Option StreamState} 64 None)
    nothing n false e = λ i. is_some (sym (none_at 64 n) i) || is_some (sym (none_ended 64 n) i)

-- as many places as the names ask for
abbrev pub asked_for : Connections → List (ServerEntry Octets) → ℕ
asked_for name [] = 64
asked_for name (e ∷ es) = option_map_or (λ n. suc (name e.end n)) (opened_by e.act) 0 + asked_for name es

fits_all : (name : Connections) (size : ℕ) (trace : List (ServerEntry Octets)) → asked_for name trace ≤ size → FitsIn name size trace
fits_all name size [] h = tt
fits_all name size (e ∷ es) h = (one (opened_by e.act) h, fits_all name size es (omega (arith, h)))
  where
    one : (o : Option ℕ) → option_map_or (λ n. suc (name e.end n)) o 0 + asked_for name es ≤ size → OnSome (λ n. name e.end n < size) o
    one None h = tt
    one (Some n) h = omega (arith, h)

pub many_asked : (name : Connections) (trace : List (ServerEntry Octets)) → 64 ≤ asked_for name trace
many_asked name [] = omega arith
many_asked name (e ∷ es) = omega (arith, many_asked name es)

first_both : (name number : Connections) (size : ℕ) → BothAlike name number size start (start_with size)
first_both name number size A = first_alike (name A) (number A) size
first_both name number size B = first_alike (name B) (number B) size

-- from the start on, where no region is limited to one stream: each stream under the name of its connection
pub served_unlimited : (name : Connections) (trace : List (ServerEntry Octets)) → AreApart name → ServerFollows name start trace → NoneLimited trace
    → Walked (Unit {0}) name name (asked_for name trace) [] (told name trace) (server_state_after start trace)
served_unlimited name trace apart follows none =
    let size : ℕ = asked_for name trace in
    walk (Unit {0}) name name apart (λ h x n. refl) size (λ past w u alike shown x n has.
    let s : EndState = end_of x w in
    let c : StreamState = stream_at s.endpoint n in
    same_denials s.endpoint.table c.domain c.number (Some (name x n)) (subst Unlimited (sym (shown tt x).table ∙ (alike x).table) (all_free (words.acts x past))))
    trace [] start (start_with size) (unsaid_with size (many_asked name trace)) (λ h. told_with size) (λ h. none) (fits_all name size trace (omega arith)) (first_both name name size) follows

-- and of every run: each stream under its own number
pub served : (name : Connections) (trace : List (ServerEntry Octets)) → AreApart name → ServerFollows name start trace → Walked ⊥ name by_number (asked_for name trace) [] (told name trace) (server_state_after start trace)
served name trace apart follows =
    let size : ℕ = asked_for name trace in
    walk ⊥ name by_number apart (λ h. absurd h) size (λ past w u alike shown x n has.
    let s : EndState = end_of x w in
    let c : StreamState = stream_at s.endpoint n in
    subst (λ z. SameDenials s.endpoint.table (record { domain = c.domain; stream = z }) (record { domain = c.domain; stream = Some n })) (sym (number_at s.endpoint n (alike x).numbers has))
    (record { denied = λ stag to m right. refl; invalidate_denied = λ stag. refl }))
    trace [] start (start_with size) (unsaid_with size (many_asked name trace)) (λ h. absurd h) (λ h. absurd h) (fits_all name size trace (omega arith)) (first_both name by_number size) follows

-- what a server's run tells is a run
pub server_run : (name : Connections) (trace : List (ServerEntry Octets)) → AreApart name → ServerFollows name start trace → Run (told name trace)
server_run name trace apart follows past future is = ((served name trace apart follows).moments past future is).0

-- one with the regions that were told, where none is limited to one stream
pub unlimited_run : (name : Connections) (trace : List (ServerEntry Octets)) → AreApart name → ServerFollows name start trace → NoneLimited trace → ToldRun (told name trace)
unlimited_run name trace apart follows none past future is = let p = (served_unlimited name trace apart follows none).moments past future is in (p.0, p.1 tt)

-- ---- one more entry

pub server_follows-push : (name : Connections) (xs : List (ServerEntry Octets)) (e : ServerEntry Octets) (w : State) → ServerFollows name w xs
    → ServerRule (name e.end) (name (other e.end)) (end_of e.end (server_state_after w xs)) (end_of (other e.end) (server_state_after w xs)) e.act → ServerFollows name w (xs ++ e ∷ [])
server_follows-push name [] e w h rule = (rule, tt)
server_follows-push name (x ∷ xs) e w h rule = (h.0, server_follows-push name xs e (after_server_entry w x) h.1 rule)

pub server_state_after-push : (xs : List (ServerEntry Octets)) (e : ServerEntry Octets) (w : State) → server_state_after w (xs ++ e ∷ []) ≡ after_server_entry (server_state_after w xs) e
server_state_after-push [] e w = refl
server_state_after-push (x ∷ xs) e w = server_state_after-push xs e (after_server_entry w x)
