-- What one more act does to the streams of an end, and to what its acts say of them.
use Rattle.std.proofs.Common.{◌≡◌, ◌≢◌, ℕ, zero, suc, ◌<◌, List, [], ◌∷◌, ◌++◌, length, replicate, Option, Some, None, Ok, Err, Bool, true, false, cond, eqb, refl, sym, ap, ◌∙◌, subst, arith, eqb-true}
use Rattle.std.specs.Prelude.{slice_set, slice_index_or, unwrap_or, is_some, not, nat_le, Result, IfSome, ◌||◌}
use Rattle.std.specs.Option.{option_map, option_or}
use Rattle.std.proofs.lemmas.Option.{none-some}
use Rattle.std.proofs.lemmas.Bool.Decides.{nat_tests}
use Rattle.std.proofs.lemmas.List.{append-nil, get_or-set_same, get_or-set_other, length-set}
use Rattle.std.proofs.lemmas.Bool.{eq-eqb, false≢true, true≢false}
use Rattle.iw_memory.specs.declared.peer.Peer.{Peer}
use Rattle.iw_memory.specs.Table.{Table, is_added}
use Rattle.iw_ranges.specs.declared.Delivery.TheVariants.{Kept, Dropped}
use Rattle.iw_octets.specs.declared.fault.Fault.{Fault}
use Rattle.iw_reads.specs.declared.response.ResponsePart.{ResponsePart}
use Rattle.iw_untagged.specs.Receiving.{Source, Posted, Pooled, exchanged, nothing_received, sharing, shares_pool, with_last}
use Rattle.iw_stream.proofs.Sharing.{work_shares}
use Rattle.iw_stream.specs.Work.{worked}
use Rattle.iw_stream.specs.Stream.{StreamState, shares, sees, after_emit, left_fetched, left_due, frame_fetched, Due, StartUp, LastWord, Response as ResponseDue, NextPart, NoneDue, due, Ready, peer_of}
use Rattle.iw_stream.specs.declared.answer.OpenRefusal.{OpenRefusal}
use Rattle.iw_stream.specs.declared.answer.OpenRefusal.TheVariants.{NumberTaken, BadNumber, NoDomain}
use Rattle.iw_events.specs.declared.act.Act.{Act}
use Rattle.iw_events.specs.declared.act.Act.TheVariants.{Domain, Register, Deregister, Invalidate, Store, Open, Share, Pool, Unpool, OpenShared, Stream}
use Rattle.iw_events.specs.declared.act.StreamAct.{StreamAct}
use Rattle.iw_events.specs.declared.act.StreamAct.TheVariants.{Recv, Post, Emit, First, Deliver, Raw, Mulpdu, Accept, Reject, Work, Break}
use Rattle.iw_startup.specs.declared.config.Config.{Config}
use Rattle.iw_stream.specs.declared.answer.Role.{Role}
use Rattle.iw_laws.specs.Words.{Octets, Opening, stream_acts, stream_acts_by, openings, openings_by, opening_in, opening_of, config_for, was_opened, domain_of, table_after, table_by, peer_at}
use Rattle.iw_endpoint.specs.declared.refusal.OpenSharedRefusal.{OpenSharedRefusal}
use Rattle.iw_endpoint.specs.Endpoint as endpoint
use Rattle.iw_endpoint.specs.Endpoint.{EndpointState, pool_of, left_of, open_shared_refusal, open_shared_refusal_of, number_refusal, request_refusal, unshared, stream_at, stream_numbers, unopened as no_stream, stream_of, has_stream, is_taken, open_refusal, no_closed, closed_at}
use Rattle.iw_endpoint.specs.Isolation.{HasDomains, IsOwn, after, unless}
use Rattle.iw_endpoint.proofs.Steps.{concerns_one}
use Rattle.iw_endpoint.proofs.Tables.{worked_peer, emit_peer}
use Rattle.iw_laws.specs.Rules.{EndState, Rule, EndRule, end_after, call_made}
use Rattle.iw_laws.proofs.States.{opening_by, connected, left_at, streams_after, streams_left, closed_left, table_left, length-wires, shares_lent}
use Rattle.iw_laws.proofs.Tales.{table-push, stream_acts-push, openings-push}

pub there : {A : Type 0} (xs : List (Option A)) (i : ℕ) → is_some (slice_index_or xs i None) ≡ true → i < length xs
there [] i h = absurd (false≢true h)
there (y ∷ ys) zero h = omega arith
there (y ∷ ys) (suc i) h = let more : i < length ys = there ys i h in omega arith

-- ---- openings

pub unopened : (os : List Opening) → was_opened os ≡ false → os ≡ []
unopened [] h = refl
unopened (o ∷ os) h = absurd (false≢true (sym h))

-- what the state of an end has in common with what was done there
pub record EndSeen (s : EndState) (done : List (Act Octets)) : Type 0 where
  pub domains : HasDomains s.endpoint
  pub wires : length s.wires ≡ length s.endpoint.streams
  pub none_closed : s.endpoint.closed ≡ no_closed
  pub opened : (n : ℕ) → has_stream s.endpoint n ≡ was_opened (openings n done)
  pub domain : (n : ℕ) → has_stream s.endpoint n ≡ true → (stream_at s.endpoint n).domain ≡ domain_of n done
  pub pooled : (n : ℕ) → has_stream s.endpoint n ≡ true → shares (stream_at s.endpoint n) ≡ (opening_of n done).shared
  pub unused : (n : ℕ) → has_stream s.endpoint n ≡ false → stream_acts n done ≡ []

-- each stream has the number that it stands under
abbrev pub AreNumbered : EndpointState → Type 0
AreNumbered e = (n : ℕ) (c : StreamState) → stream_of e n ≡ Some c → c.number ≡ Some n

-- the regions are those that were told, and so are the numbers of streams
pub record IsTold (s : EndState) (done : List (Act Octets)) : Type 0 where
  pub table : s.endpoint.table ≡ table_after done
  pub numbers : AreNumbered s.endpoint

pub stream_some : (o : Option StreamState) → is_some o ≡ true → o ≡ Some (unwrap_or o no_stream)
stream_some None h = absurd (false≢true h)
stream_some (Some c) h = refl

pub number_at : (e : EndpointState) (n : ℕ) → AreNumbered e → has_stream e n ≡ true → (stream_at e n).number ≡ Some n
number_at e n numbers has = numbers n (stream_at e n) (stream_some (stream_of e n) has)

-- the peer of a stream, as it was told
pub peer_told : (s : EndState) (done : List (Act Octets)) (n : ℕ) → EndSeen s done → IsTold s done → has_stream s.endpoint n ≡ true → peer_of (stream_at s.endpoint n) ≡ peer_at n done
peer_told s done n k told has = λ i. record { domain = k.domain n has i; stream = number_at s.endpoint n told.numbers has i }

-- an act that opens nothing
pub opens_same : (n : ℕ) (done : List (Act Octets)) (act : Act Octets) → openings_by n act ≡ [] → openings n (done ++ act ∷ []) ≡ openings n done
opens_same n done act e = openings-push n done act ∙ ap (λ z. openings n done ++ z) e ∙ append-nil (openings n done)

-- the fields that an opening needs
pub record Opens (s : EndState) (n : ℕ) : Type 0 where
  pub fresh : has_stream s.endpoint n ≡ false
  pub number : n < length s.endpoint.streams

-- the number of an opening is one of the application's, and has no stream
pub numbered : (e : EndpointState) (n pd : ℕ) → None ≡ number_refusal e n pd → (has_stream e n ≡ false) × (n < 64) × (is_taken e n ≡ false)
numbered e n pd rule = go (nat_le stream_numbers n) (has_stream e n) (is_some (closed_at e n)) refl refl refl (is_added e.table pd) rule
  where
    go : (beyond has ended : Bool) → nat_le stream_numbers n ≡ beyond → has_stream e n ≡ has → is_some (closed_at e n) ≡ ended → (added : Bool)
        → None ≡ cond beyond (Some BadNumber) (cond (has || ended) (Some NumberTaken) (cond (not added) (Some NoDomain) None)) → (has_stream e n ≡ false) × (n < 64) × (is_taken e n ≡ false)
    go true has ended z h c added rule' = cc
    go false true ended z h c added rule' = cc
    go false false true z h c added rule' = cc
    go false false false z h c added rule' = (h, grind (arith, nat_tests), λ i. h i || c i)

-- no number is of a stream that was closed
pub never_closed : (n : ℕ) → slice_index_or no_closed n None ≡ None
unfolding no_closed
never_closed n = none_in 64 n
  where
    none_in : (k n : ℕ) → slice_index_or (replicate {A = Option ℕ} k None) n None ≡ None
    none_in zero n = refl
    none_in (suc k) zero = refl
    none_in (suc k) (suc n) = none_in k n

pub closed_none : (e : EndpointState) (n : ℕ) → e.closed ≡ no_closed → closed_at e n ≡ None
closed_none e n none = ap (λ xs. slice_index_or xs n None) none ∙ never_closed n

-- no refusal comes where the first does not
pub unrefused : {R : Type 0} (o p : Option R) → None ≡ option_or o p → None ≡ o
unrefused None p h = refl
unrefused (Some r) p h = absurd (none-some _ h)

pub unmapped : {R S : Type 0} (o : Option R) (f : R → S) → None ≡ option_map f o → None ≡ o
unmapped None f h = refl
unmapped (Some r) f h = absurd (none-some _ h)

pub numbered_open : (e : EndpointState) (n pd : ℕ) (role : Role) (config : Config) → None ≡ open_refusal e n pd role config → None ≡ number_refusal e n pd
numbered_open e n pd role config h = unrefused (number_refusal e n pd) (request_refusal role config) h

-- of a stream that shares a pool
pub numbered_shared : (e : EndpointState) (n pd : ℕ) (role : Role) (config : Config) → None ≡ open_shared_refusal e n pd role config → None ≡ number_refusal e n pd
numbered_shared e n pd role config h =
    unmapped (number_refusal e n pd) open_shared_refusal_of
    (unrefused (option_map open_shared_refusal_of (number_refusal e n pd)) (option_or (unshared (pool_of e pd)) (option_map open_shared_refusal_of (request_refusal role config))) h)

pub opens : (s : EndState) (n pd : ℕ) → HasDomains s.endpoint → None ≡ number_refusal s.endpoint n pd → Opens s n
opens s n pd all h = let new = numbered s.endpoint n pd h in record { fresh = new.0; number = omega (arith, new.1, all.2) }

left_peer : (table : Table) (o : Option (List Octets)) (s : StreamState) → peer_of (left_of table o s) ≡ peer_of s
left_peer table None s = worked_peer table s
left_peer table (Some pool) s = worked_peer table (sees s pool)

-- whether it shares a pool stays
emit_shares : (table : Table) (s : StreamState) → shares (after_emit table s) ≡ shares s
emit_shares table s = go (due s)
  where
    fetched : (part : ResponsePart) (r : Result (List ℕ) Fault) → shares (left_fetched s part r) ≡ shares s
    fetched part (Ok frame) = refl
    fetched part (Err fault) = refl

    go : (k : Due) → shares (left_due table s k) ≡ shares s
    go StartUp = refl
    go (LastWord payload) = refl
    go (Ready rtr) = refl
    go (ResponseDue part) = fetched part (frame_fetched table s part)
    go (NextPart part) = refl
    go NoneDue = refl

posted_shares : (x : Source) (buffer : List ℕ) → shares_pool (with_last x buffer) ≡ shares_pool x
posted_shares (Posted bs) buffer = refl
posted_shares (Pooled ps pool) buffer = refl

left_shares : (table : Table) (o : Option (List Octets)) (s : StreamState) → shares (left_of table o s) ≡ shares s
left_shares table None s = work_shares table s
left_shares table (Some pool) s = shares_lent (worked table (sees s pool)).receiving.source (exchanged s.receiving.source pool) ∙ work_shares table (sees s pool) ∙ shares_lent s.receiving.source pool

pub record KeepsStream (s s' : StreamState) : Type 0 where
  pub peer : peer_of s' ≡ peer_of s
  pub pooled : shares s' ≡ shares s

pub keeps_stream : (e : EndpointState) (n : ℕ) (act : StreamAct Octets) → KeepsStream (stream_at e n) (left_at e n act)
keeps_stream e n (Recv len None) = record { peer = refl; pooled = posted_shares (stream_at e n).receiving.source (replicate len 0) }
keeps_stream e n (Recv len (Some refusal)) = record { peer = refl; pooled = refl }
keeps_stream e n (Post m None) = record { peer = refl; pooled = refl }
keeps_stream e n (Post m (Some refusal)) = record { peer = refl; pooled = refl }
keeps_stream e n (Emit shown) = record { peer = emit_peer e.table (stream_at e n); pooled = emit_shares e.table (stream_at e n) }
keeps_stream e n (Accept private (Ok agreed)) = record { peer = refl; pooled = refl }
keeps_stream e n (Accept private (Err refusal)) = record { peer = refl; pooled = refl }
keeps_stream e n (Reject private None) = record { peer = refl; pooled = refl }
keeps_stream e n (Reject private (Some refusal)) = record { peer = refl; pooled = refl }
keeps_stream e n (Deliver from number octets Kept) = record { peer = refl; pooled = refl }
keeps_stream e n (Deliver from number octets Dropped) = record { peer = refl; pooled = refl }
keeps_stream e n (Raw number octets Kept) = record { peer = refl; pooled = refl }
keeps_stream e n (Raw number octets Dropped) = record { peer = refl; pooled = refl }
keeps_stream e n (First number None) = record { peer = refl; pooled = refl }
keeps_stream e n (First number (Some refusal)) = record { peer = refl; pooled = refl }
keeps_stream e n (Mulpdu size None) = record { peer = refl; pooled = refl }
keeps_stream e n (Mulpdu size (Some refusal)) = record { peer = refl; pooled = refl }
keeps_stream e n (Work step) =
    let s : StreamState = stream_at e n in
    record { peer = left_peer e.table (pool_of e s.domain) s; pooled = left_shares e.table (pool_of e s.domain) s }
keeps_stream e n Break = record { peer = refl; pooled = refl }

-- ---- the stream of a number, behind an act

pub at_act : (e : EndpointState) (act : Act Octets) (n : ℕ) → EndRule e act → stream_of (after e (call_made act)) n ≡ slice_index_or (streams_after e act) n None
at_act e act n rule = ap (λ xs. slice_index_or xs n None) (streams_left e act rule)

pub at_same : (s : EndState) (n : ℕ) (c : StreamState) → n < length s.endpoint.streams → slice_index_or (slice_set s.endpoint.streams n (Some c)) n None ≡ Some c
at_same s n c h = get_or-set_same s.endpoint.streams n (Some c) None h

pub at_other : (s : EndState) (m n : ℕ) (o : Option StreamState) → eqb m n ≡ false → slice_index_or (slice_set s.endpoint.streams m o) n None ≡ slice_index_or s.endpoint.streams n None
at_other s m n o h = get_or-set_other s.endpoint.streams m n o None (differ h)
  where
    differ : eqb m n ≡ false → n ≢ m
    differ e same = absurd (false≢true (sym e ∙ eq-eqb m n (sym same)))

pub number_there : (s : EndState) (n : ℕ) → has_stream s.endpoint n ≡ true → n < length s.endpoint.streams
number_there s n h = there s.endpoint.streams n h

-- what is so of a number behind an act that leaves this end
pub record KeepsNumber (s' : EndState) (done : List (Act Octets)) (act : Act Octets) (n : ℕ) : Type 0 where
  pub has : has_stream s'.endpoint n ≡ was_opened (openings n (done ++ act ∷ []))
  pub domain : has_stream s'.endpoint n ≡ true → (stream_at s'.endpoint n).domain ≡ domain_of n (done ++ act ∷ [])
  pub pooled : has_stream s'.endpoint n ≡ true → shares (stream_at s'.endpoint n) ≡ (opening_of n (done ++ act ∷ [])).shared
  pub unused : has_stream s'.endpoint n ≡ false → stream_acts n (done ++ act ∷ []) ≡ []

pub keeps_number : (s s' : EndState) (done : List (Act Octets)) (act : Act Octets) (n : ℕ) → EndSeen s done → stream_of s'.endpoint n ≡ stream_of s.endpoint n → openings_by n act ≡ []
    → stream_acts_by n act ≡ [] → KeepsNumber s' done act n
keeps_number s s' done act n k same none silent =
    let opened_same : openings n (done ++ act ∷ []) ≡ openings n done = opens_same n done act none in
    record {
      has = ap is_some same ∙ k.opened n ∙ ap was_opened (sym opened_same);
      domain = λ h. ap (λ o. (unwrap_or o no_stream).domain) same ∙ k.domain n (ap is_some (sym same) ∙ h) ∙ ap (λ os. (opening_in os).domain) (sym opened_same);
      pooled = λ h. ap (λ o. shares (unwrap_or o no_stream)) same ∙ k.pooled n (ap is_some (sym same) ∙ h) ∙ ap (λ os. (opening_in os).shared) (sym opened_same);
      unused = λ h. stream_acts-push n done act ∙ (λ i. k.unused n (ap is_some (sym same) ∙ h) i ++ silent i);
    }

pub opening_none : (b : Bool) (o : Opening) → b ≡ false → cond b (o ∷ []) [] ≡ []
opening_none b o e = ap (λ z. cond z (o ∷ []) []) e

pub opening_one : (b : Bool) (o : Opening) → b ≡ true → cond b (o ∷ []) [] ≡ o ∷ []
opening_one b o e = ap (λ z. cond z (o ∷ []) []) e

silent_other : (m n : ℕ) (act : StreamAct Octets) → eqb m n ≡ false → stream_acts_by n (Stream m act) ≡ []
silent_other m n act e = ap (λ b. cond b (act ∷ []) []) e

first_shares : (shared : Bool) → shares_pool (cond shared sharing.source nothing_received.source) ≡ shared
first_shares true = refl
first_shares false = refl

-- a stream is opened, whatever number it has
pub number_opened : (s s' : EndState) (done : List (Act Octets)) (act : Act Octets) (m n number : ℕ) (o : Opening) → EndSeen s done → Opens s m → openings_by n act ≡ cond (eqb m n) (o ∷ []) []
    → s'.endpoint.streams ≡ slice_set s.endpoint.streams m (Some (connected o (Some number)).stream) → stream_acts_by n act ≡ [] → KeepsNumber s' done act n
number_opened s s' done act m n number o k new one left silent = go (eqb m n) refl
  where
    go : (b : Bool) → eqb m n ≡ b → KeepsNumber s' done act n
    go false e = keeps_number s s' done act n k (ap (λ xs. slice_index_or xs n None) left ∙ at_other s m n (Some (connected o (Some number)).stream) e) (one ∙ opening_none (eqb m n) o e) silent
    go true e =
        let same : m ≡ n = eqb-true m n e in
        let here : stream_of s'.endpoint n ≡ Some (connected o (Some number)).stream =
        ap (λ xs. slice_index_or xs n None) left ∙ subst (λ j. slice_index_or (slice_set s.endpoint.streams m (Some (connected o (Some number)).stream)) j None ≡ Some (connected o (Some number)).stream) same (at_same s m (connected o (Some number)).stream new.number) in
        let before : openings n done ≡ [] = unopened (openings n done) (sym (k.opened n) ∙ subst (λ j. has_stream s.endpoint j ≡ false) same new.fresh) in
        let now : openings n (done ++ act ∷ []) ≡ o ∷ [] = openings-push n done act ∙ (λ i. before i ++ (one ∙ opening_one (eqb m n) o e) i) in
        record {
          has = ap is_some here ∙ ap was_opened (sym now);
          domain = λ h. ap (λ z. (unwrap_or z no_stream).domain) here ∙ ap (λ os. (opening_in os).domain) (sym now);
          pooled = λ h. ap (λ z. shares (unwrap_or z no_stream)) here ∙ first_shares o.shared ∙ ap (λ os. (opening_in os).shared) (sym now);
          unused = λ h. absurd (true≢false (sym (ap is_some here) ∙ h));
        }

-- an act that opens nothing, and is of no stream
number_kept : (s : EndState) (done : List (Act Octets)) (act : Act Octets) (n : ℕ) → EndSeen s done → EndRule s.endpoint act → slice_index_or (streams_after s.endpoint act) n None ≡ stream_of s.endpoint n → openings_by n act ≡ [] → stream_acts_by n act ≡ []
    → KeepsNumber (end_after s act) done act n
number_kept s done act n k rule left none silent = keeps_number s (end_after s act) done act n k (at_act s.endpoint act n rule ∙ left) none silent

number_after : (s peer : EndState) (done : List (Act Octets)) (act : Act Octets) (n : ℕ) → EndSeen s done → Rule s peer act → KeepsNumber (end_after s act) done act n
number_after s peer done (Domain pd refused) n k rule = number_kept s done (Domain pd refused) n k rule.0 refl refl refl
number_after s peer done (Register pd base rights octets answer) n k rule = number_kept s done (Register pd base rights octets answer) n k rule.0 refl refl refl
number_after s peer done (Deregister stag answer) n k rule = number_kept s done (Deregister stag answer) n k rule.0 refl refl refl
number_after s peer done (Invalidate stag refused) n k rule = number_kept s done (Invalidate stag refused) n k rule.0 refl refl refl
number_after s peer done (Store stag to octets refused) n k rule = number_kept s done (Store stag to octets refused) n k rule.0 refl refl refl
number_after s peer done (Share pd refused) n k rule = number_kept s done (Share pd refused) n k rule.0 refl refl refl
number_after s peer done (Pool pd len refused) n k rule = number_kept s done (Pool pd len refused) n k rule.0 refl refl refl
number_after s peer done (Unpool pd answer) n k rule = number_kept s done (Unpool pd answer) n k rule.0 refl refl refl
number_after s peer done (Open m pd role options private (Some refusal)) n k rule = number_kept s done (Open m pd role options private (Some refusal)) n k rule.0 refl refl refl
number_after s peer done (OpenShared m pd role options private (Some refusal)) n k rule = number_kept s done (OpenShared m pd role options private (Some refusal)) n k rule.0 refl refl refl
number_after s peer done (Open m pd role options private None) n k rule =
    number_opened s (end_after s (Open m pd role options private None)) done (Open m pd role options private None) m n m (opening_by false pd role options private) k (opens s m pd k.domains (numbered_open s.endpoint m pd role (config_for options private) rule.0)) refl (streams_left s.endpoint (Open m pd role options private None) rule.0) refl
number_after s peer done (OpenShared m pd role options private None) n k rule =
    number_opened s (end_after s (OpenShared m pd role options private None)) done (OpenShared m pd role options private None) m n m (opening_by true pd role options private) k (opens s m pd k.domains (numbered_shared s.endpoint m pd role (config_for options private) rule.0)) refl (streams_left s.endpoint (OpenShared m pd role options private None) rule.0) refl
number_after s peer done (Stream m act) n k rule = go (eqb m n) refl
  where
    go : (b : Bool) → eqb m n ≡ b → KeepsNumber (end_after s (Stream m act)) done (Stream m act) n
    go false e = number_kept s done (Stream m act) n k rule.0 (at_other s m n (Some (left_at s.endpoint m act)) e) refl (silent_other m n act e)
    go true e =
        let same : m ≡ n = eqb-true m n e in
        let x : StreamState = left_at s.endpoint m act in
        let keeps : KeepsStream (stream_at s.endpoint m) x = keeps_stream s.endpoint m act in
        let here : stream_of (end_after s (Stream m act)).endpoint n ≡ Some x =
        at_act s.endpoint (Stream m act) n rule.0 ∙ subst (λ j. slice_index_or (streams_after s.endpoint (Stream m act)) j None ≡ Some x) same (at_same s m x (number_there s m rule.0.0)) in
        let has : has_stream s.endpoint n ≡ true = subst (λ j. has_stream s.endpoint j ≡ true) same rule.0.0 in
        let opened_same : openings n (done ++ Stream m act ∷ []) ≡ openings n done = opens_same n done (Stream m act) refl in
        record {
          has = ap is_some here ∙ sym has ∙ k.opened n ∙ ap was_opened (sym opened_same);
          domain = λ h. ap (λ z. (unwrap_or z no_stream).domain) here ∙ ap (λ (p : Peer). p.domain) keeps.peer ∙ ap (λ j. (stream_at s.endpoint j).domain) same ∙ k.domain n has ∙ ap (λ os. (opening_in os).domain) (sym opened_same);
          pooled = λ h. ap (λ z. shares (unwrap_or z no_stream)) here ∙ keeps.pooled ∙ ap (λ j. shares (stream_at s.endpoint j)) same ∙ k.pooled n has ∙ ap (λ os. (opening_in os).shared) (sym opened_same);
          unused = λ h. absurd (true≢false (sym (ap is_some here) ∙ h));
        }

pub numbers_after : (s : EndState) (act : Act Octets) → length (streams_after s.endpoint act) ≡ length s.endpoint.streams
numbers_after s (Domain pd refused) = refl
numbers_after s (Register pd base rights octets answer) = refl
numbers_after s (Deregister stag answer) = refl
numbers_after s (Invalidate stag refused) = refl
numbers_after s (Store stag to octets refused) = refl
numbers_after s (Share pd refused) = refl
numbers_after s (Pool pd len refused) = refl
numbers_after s (Unpool pd answer) = refl
numbers_after s (Open m pd role options private (Some refusal)) = refl
numbers_after s (OpenShared m pd role options private (Some refusal)) = refl
numbers_after s (Open m pd role options private None) = length-set s.endpoint.streams m (Some (connected (opening_by false pd role options private) (Some m)).stream)
numbers_after s (OpenShared m pd role options private None) = length-set s.endpoint.streams m (Some (connected (opening_by true pd role options private) (Some m)).stream)
numbers_after s (Stream m act) = length-set s.endpoint.streams m (Some (left_at s.endpoint m act))

-- there is a place for each domain
domains_after : (e : EndpointState) (act : Act Octets) → e.closed ≡ no_closed → EndRule e act → HasDomains e → HasDomains (after e (call_made act))
domains_after e (Domain pd refused) none rule all = (concerns_one pd e (call_made (Domain pd refused)) all refl).domains
domains_after e (Register pd base rights octets answer) none rule all = (concerns_one pd e (call_made (Register pd base rights octets answer)) all refl).domains
domains_after e (Deregister stag answer) none rule all = (concerns_one stag.domain e (call_made (Deregister stag answer)) all refl).domains
domains_after e (Invalidate stag refused) none rule all = (concerns_one stag.domain e (call_made (Invalidate stag refused)) all refl).domains
domains_after e (Store stag to octets refused) none rule all = (concerns_one stag.domain e (call_made (Store stag to octets refused)) all refl).domains
domains_after e (Share pd refused) none rule all = (concerns_one pd e (call_made (Share pd refused)) all refl).domains
domains_after e (Pool pd len refused) none rule all = (concerns_one pd e (call_made (Pool pd len refused)) all refl).domains
domains_after e (Unpool pd answer) none rule all = (concerns_one pd e (call_made (Unpool pd answer)) all refl).domains
domains_after e (Open n pd role options private refused) none rule all = go (endpoint.open_refusal e n pd role (config_for options private))
  where
    go : (o : Option OpenRefusal) → HasDomains (unless o e (endpoint.opened e n pd role (config_for options private)))
    go None = (all.0, all.1, omega (arith, all.2, length-set e.streams n (Some (endpoint.new_stream n pd role (config_for options private)))))
    go (Some r) = all
domains_after e (OpenShared n pd role options private refused) none rule all = go (endpoint.open_shared_refusal e n pd role (config_for options private))
  where
    go : (o : Option OpenSharedRefusal) → HasDomains (unless o e (endpoint.opened_shared e n pd role (config_for options private)))
    go None = (all.0, all.1, omega (arith, all.2, length-set e.streams n (Some (endpoint.new_shared n pd role (config_for options private)))))
    go (Some r) = all
domains_after e (Stream n act) none rule all = go (stream_of e n) refl rule.0
  where
    go : (o : Option StreamState) → stream_of e n ≡ o → is_some o ≡ true → HasDomains (after e (call_made (Stream n act)))
    go None is there = absurd (false≢true there)
    go (Some x) is there = (concerns_one x.domain e (call_made (Stream n act)) all (subst (IsOwn x.domain) (sym is) refl, subst (λ o. IfSome o (λ d. d ≡ x.domain)) (sym (closed_none e n none)) tt)).domains

-- an act that the rules give keeps what the end has in common with what was done
pub end_step : (s peer : EndState) (done : List (Act Octets)) (act : Act Octets) → EndSeen s done → Rule s peer act → EndSeen (end_after s act) (done ++ act ∷ [])
end_step s peer done act k rule = record {
  domains = domains_after s.endpoint act k.none_closed rule.0 k.domains;
  wires = length-wires s act ∙ k.wires ∙ sym (ap length (streams_left s.endpoint act rule.0) ∙ numbers_after s act);
  none_closed = closed_left s.endpoint act ∙ k.none_closed;
  opened = λ n. (number_after s peer done act n k rule).has;
  domain = λ n. (number_after s peer done act n k rule).domain;
  pooled = λ n. (number_after s peer done act n k rule).pooled;
  unused = λ n. (number_after s peer done act n k rule).unused;
}

-- ---- the numbers of streams

-- the stream of one number is another
pub set_numbers : (e e' : EndpointState) (m : ℕ) (c : StreamState) → m < length e.streams → e'.streams ≡ slice_set e.streams m (Some c) → c.number ≡ Some m → AreNumbered e → AreNumbered e'
set_numbers e e' m c within left number numbers n d is = go (eqb m n) refl
  where
    some_one : (x y : StreamState) → Some x ≡ Some y → x ≡ y
    some_one x y h = cc

    go : (b : Bool) → eqb m n ≡ b → d.number ≡ Some n
    go true same =
        let here : stream_of e' n ≡ Some c =
        ap (λ xs. slice_index_or xs n None) left ∙ subst (λ j. slice_index_or (slice_set e.streams m (Some c)) j None ≡ Some c) (eqb-true m n same) (get_or-set_same e.streams m (Some c) None within) in
        ap (λ (z : StreamState). z.number) (some_one d c (sym is ∙ here)) ∙ number ∙ ap Some (eqb-true m n same)
    go false other =
        numbers n d (sym (ap (λ xs. slice_index_or xs n None) left ∙ get_or-set_other e.streams m n (Some c) None (λ same. false≢true (sym other ∙ eq-eqb m n (sym same)))) ∙ is)

pub same_numbers : (e e' : EndpointState) → e'.streams ≡ e.streams → AreNumbered e → AreNumbered e'
same_numbers e e' same numbers n d is = numbers n d (sym (ap (λ xs. slice_index_or xs n None) same) ∙ is)

-- an act that the rules give leaves them
pub numbered_after : (s : EndState) (act : Act Octets) → HasDomains s.endpoint → EndRule s.endpoint act → AreNumbered s.endpoint → AreNumbered (after s.endpoint (call_made act))
numbered_after s act all rule numbers = by act rule (streams_left s.endpoint act rule)
  where
    by : (a : Act Octets) → EndRule s.endpoint a → (after s.endpoint (call_made act)).streams ≡ streams_after s.endpoint a → AreNumbered (after s.endpoint (call_made act))
    by (Domain pd refused) r left = same_numbers s.endpoint (after s.endpoint (call_made act)) left numbers
    by (Register pd base rights octets answer) r left = same_numbers s.endpoint (after s.endpoint (call_made act)) left numbers
    by (Deregister stag answer) r left = same_numbers s.endpoint (after s.endpoint (call_made act)) left numbers
    by (Invalidate stag refused) r left = same_numbers s.endpoint (after s.endpoint (call_made act)) left numbers
    by (Store stag to octets refused) r left = same_numbers s.endpoint (after s.endpoint (call_made act)) left numbers
    by (Share pd refused) r left = same_numbers s.endpoint (after s.endpoint (call_made act)) left numbers
    by (Pool pd len refused) r left = same_numbers s.endpoint (after s.endpoint (call_made act)) left numbers
    by (Unpool pd answer) r left = same_numbers s.endpoint (after s.endpoint (call_made act)) left numbers
    by (Open m pd role options private (Some refusal)) r left = same_numbers s.endpoint (after s.endpoint (call_made act)) left numbers
    by (OpenShared m pd role options private (Some refusal)) r left = same_numbers s.endpoint (after s.endpoint (call_made act)) left numbers
    by (Open m pd role options private None) r left =
        set_numbers s.endpoint (after s.endpoint (call_made act)) m (connected (opening_by false pd role options private) (Some m)).stream (opens s m pd all (numbered_open s.endpoint m pd role (config_for options private) r)).number left refl numbers
    by (OpenShared m pd role options private None) r left =
        set_numbers s.endpoint (after s.endpoint (call_made act)) m (connected (opening_by true pd role options private) (Some m)).stream (opens s m pd all (numbered_shared s.endpoint m pd role (config_for options private) r)).number left refl numbers
    by (Stream m x) r left =
        set_numbers s.endpoint (after s.endpoint (call_made act)) m (left_at s.endpoint m x) (there s.endpoint.streams m r.0) left (ap (λ (p : Peer). p.stream) (keeps_stream s.endpoint m x).peer ∙ number_at s.endpoint m numbers r.0) numbers

pub told_step : (s peer : EndState) (done : List (Act Octets)) (act : Act Octets) → EndSeen s done → Rule s peer act → IsTold s done → IsTold (end_after s act) (done ++ act ∷ [])
told_step s peer done act k rule told = record {
  table = table_left s.endpoint act rule.0 ∙ ap (λ z. table_by z act) told.table ∙ sym (table-push done act);
  numbers = numbered_after s act k.domains rule.0 told.numbers;
}
