-- What an act leaves of an end, by its answer.
use Rattle.std.proofs.Common.{◌≡◌, ℕ, ◌<◌, List, [], ◌∷◌, ◌++◌, length, replicate, Option, Some, None, Ok, Err, Bool, true, false, cond, eqb, refl, sym, ap, ◌∙◌, subst}
use Rattle.std.specs.Prelude.{slice_set, slice_index_or, unwrap_or, is_some, Result}
use Rattle.std.specs.Option.{option_map, option_map_or}
use Rattle.std.proofs.lemmas.Bool.{false≢true, true≢false}
use Rattle.std.proofs.lemmas.List.{append-nil, get_or-set_same, get_or-set_other, length-set, set-get_or}
use Rattle.std.proofs.lemmas.Bool.{eq-eqb}
use Rattle.std.proofs.lemmas.Option.{none-some}
use Rattle.iw_octets.specs.declared.fault.Fault.{Fault}
use Rattle.iw_memory.specs.declared.refusal.NoRegion.{NoRegion}
use Rattle.iw_memory.specs.Region.{Region, new_region}
use Rattle.iw_memory.specs.Table.{Table, region_at, register_refusal, next_stag}
use Rattle.iw_memory.proofs.TableLemmas.{deregistered-none, with_region-none}
use Rattle.iw_reads.specs.declared.response.ResponsePart.{ResponsePart}
use Rattle.iw_untagged.specs.declared.queue.BufferRefusal.TheVariants.{Full}
use Rattle.iw_untagged.specs.Receiving.{Source, Posted, Pooled, exchanged, is_full, seeing, shares_pool}
use Rattle.iw_stream.specs.declared.answer.Role.{Role}
use Rattle.iw_stream.specs.Starting.{agreement_in}
use Rattle.iw_stream.specs.declared.answer.RecvRefusal.TheVariants as recv_refusals
use Rattle.iw_stream.proofs.Sharing.{left_alone}
use Rattle.iw_stream.proofs.Sharing.{work_shares}
use Rattle.iw_stream.specs.Stream.{StreamState, shares, sees, ended, recv_refusal_of, Due, StartUp, LastWord, Response as ResponseDue, NextPart, NoneDue, due, emission_of, emitted, emission_due, octets_due, emission_fetched, octets_fetched, frame_fetched, opened, with_buffer, with_request, with_mulpdu, accepted, rejected, breaks, after_emit, after_deliver, recv_refusal, post_refusal, size_refusal, answer_refusal, with_first, first_refusal, Ready, peer_of}
use Rattle.iw_stream.specs.Work.{worked}
use Rattle.iw_endpoint.specs.declared.refusal.CallRefusal.TheVariants.{Refused}
use Rattle.iw_endpoint.specs.Endpoint as endpoint
use Rattle.iw_endpoint.specs.Endpoint.{EndpointState, pool_of, lent_to, left_of, pool_left, stream_of, stream_at, has_stream, unopened, refusal_at}
use Rattle.iw_endpoint.specs.Isolation.{answer_or, unless, if_there, after}
use Rattle.iw_events.specs.declared.call.Options.{Options}
use Rattle.iw_events.specs.declared.act.Act.{Act}
use Rattle.iw_events.specs.declared.act.Act.TheVariants.{Domain, Register, Deregister, Invalidate, Store, Open, Share, Pool, Unpool, OpenShared, Stream}
use Rattle.iw_events.specs.declared.act.StreamAct.{StreamAct}
use Rattle.iw_events.specs.declared.act.StreamAct.TheVariants.{Recv, Post, Emit, First, Deliver, Raw, Mulpdu, Accept, Reject, Work, Break}
use Rattle.iw_events.specs.declared.act.Shown.{Shown}
use Rattle.iw_laws.specs.Words.{Octets, Opening, no_opening, config_for, private_data, deed, octets_shown, sent_by, stream_acts_by, registered_under, table_by, table_by_stream}
use Rattle.iw_laws.specs.Turns.{first_queue}
use Rattle.iw_laws.specs.Rules.{EndState, StreamRule, EndRule, shown_of, seen_at, stream_for, wire_at, wires_after, call_made, end_after}
use Rattle.iw_laws.proofs.Seeing.{table_of_seen}

-- ---- a stream, and the octets that it emitted

pub record Connected : Type 0 where
  pub stream : StreamState
  pub wire : List ℕ

-- a stream that was opened under this number
abbrev pub connected : Opening → Option ℕ → Connected
connected o number = record { stream = record (opened o.domain o.role o.config) { number = number; receiving = first_queue o.shared }; wire = [] }

-- one to which nothing has happened, in no domain and under no number
abbrev pub unconnected : Connected
unconnected = connected no_opening None

abbrev pub connected_at : EndState → ℕ → Connected
connected_at s n = record { stream = stream_at s.endpoint n; wire = wire_at s n }

-- with the pool of its domain lent to it, where it has one
abbrev pub connected_seen : EndState → ℕ → Connected
connected_seen s n = record { stream = seen_at s.endpoint n; wire = wire_at s n }

abbrev pub opening_by : Bool → ℕ → Role → Options → Octets → Opening
opening_by shared pd role options private = record { domain = pd; role = role; config = config_for options private; shared = shared }

-- ---- a pool that is lent

-- to a stream that shares none
lent_source : (x : Source) (pool : List Octets) → shares_pool x ≡ false → seeing x pool ≡ x
lent_source (Posted bs) pool none = refl
lent_source (Pooled ps held) pool none = absurd (true≢false none)

pub shares_lent : (x : Source) (pool : List Octets) → shares_pool (seeing x pool) ≡ shares_pool x
shares_lent (Posted bs) pool = refl
shares_lent (Pooled ps held) pool = refl

full_lent : (x : Source) (pool : List Octets) → is_full (seeing x pool) ≡ is_full x
full_lent (Posted bs) pool = refl
full_lent (Pooled ps held) pool = refl

pub own_lent : (o : Option (List Octets)) (s : StreamState) → shares s ≡ false → lent_to o s ≡ s
own_lent None s none = refl
own_lent (Some pool) s none = λ i. record s { receiving = record s.receiving { source = lent_source s.receiving.source pool none i } }

pub own_left : (table : Table) (o : Option (List Octets)) (s : StreamState) → shares s ≡ false → left_of table o s ≡ worked table s
own_left table None s none = refl
own_left table (Some pool) s none =
    let same : sees s pool ≡ s = own_lent (Some pool) s none in
    ap (λ z. sees (worked table z) (exchanged s.receiving.source pool)) same
    ∙ own_lent (Some (exchanged s.receiving.source pool)) (worked table s) (work_shares table s ∙ none)

pub own_pool : (table : Table) (o : Option (List Octets)) (s : StreamState) → shares s ≡ false → pool_left table o s ≡ o
own_pool table None s none = refl
own_pool table (Some pool) s none = ap Some (left_alone {A = Unit {0}} {E = Unit {0}} table table s (sees s pool) (worked table (sees s pool)) pool (Ok tt) refl refl tt none)

-- a step alone sees it
pub lent_peer : (o : Option (List Octets)) (s : StreamState) → peer_of (lent_to o s) ≡ peer_of s
lent_peer None s = refl
lent_peer (Some pool) s = refl

module _ (table : Table) (s : StreamState) (pool : List Octets) where
  shown_lent : shown_of table (emission_of table s) (emitted table s) ≡ shown_of table (emission_of table (sees s pool)) (emitted table (sees s pool))
  shown_lent = go (due s)
    where
      fetched : (part : ResponsePart) (r : Result (List ℕ) Fault) → shown_of table (emission_fetched s part r) (octets_fetched r) ≡ shown_of table (emission_fetched (sees s pool) part r) (octets_fetched r)
      fetched part (Ok frame) = refl
      fetched part (Err fault) = refl

      go : (k : Due) → shown_of table (emission_due table s k) (octets_due table s k) ≡ shown_of table (emission_due table (sees s pool) k) (octets_due table (sees s pool) k)
      go StartUp = refl
      go (LastWord payload) = refl
      go (Ready rtr) = refl
      go (ResponseDue part) = fetched part (frame_fetched table s part)
      go (NextPart part) = refl
      go NoneDue = refl

  recv_lent : recv_refusal s ≡ recv_refusal (sees s pool)
  recv_lent =
      λ i. cond (sym (shares_lent s.receiving.source pool) i) (Some recv_refusals.Shared)
      (cond (ended s) (Some recv_refusals.Ended) (option_map recv_refusal_of (cond (sym (full_lent s.receiving.source pool) i) (Some Full) None)))

-- what an act sees of its stream otherwise is the same
pub lent_rule : (e : EndpointState) (n : ℕ) (act : StreamAct Octets) → StreamRule e.table (stream_for e n act) act → StreamRule e.table (seen_at e n) act
lent_rule e n act rule = go (pool_of e (stream_at e n).domain) act rule
  where
    go : (o : Option (List Octets)) (act : StreamAct Octets) → StreamRule e.table (option_map_or (λ step. lent_to o (stream_at e n)) (deed act).step (stream_at e n)) act → StreamRule e.table (lent_to o (stream_at e n)) act
    go None (Recv len refused) rule = rule
    go None (Post m refused) rule = rule
    go None (Emit shown) rule = rule
    go None (First number refused) rule = rule
    go None (Deliver from number octets delivery) rule = rule
    go None (Raw number octets delivery) rule = rule
    go None (Mulpdu size refused) rule = rule
    go None (Accept private answer) rule = rule
    go None (Reject private refused) rule = rule
    go None (Work step) rule = rule
    go None Break rule = rule
    go (Some pool) (Recv len refused) rule = rule ∙ recv_lent e.table (stream_at e n) pool
    go (Some pool) (Post m refused) rule = rule
    go (Some pool) (Emit shown) rule = rule ∙ shown_lent e.table (stream_at e n) pool
    go (Some pool) (First number refused) rule = rule
    go (Some pool) (Deliver from number octets delivery) rule = rule
    go (Some pool) (Raw number octets delivery) rule = rule
    go (Some pool) (Mulpdu size refused) rule = rule
    go (Some pool) (Accept private answer) rule = rule
    go (Some pool) (Reject private refused) rule = rule
    go (Some pool) (Work step) rule = rule
    go (Some pool) Break rule = rule

-- ---- what an act leaves, by its answer

abbrev pub stream_after : Table → StreamState → StreamAct Octets → StreamState
stream_after table s (Recv len None) = with_buffer s (replicate len 0)
stream_after table s (Recv len (Some refusal)) = s
stream_after table s (Post request None) = with_request s request
stream_after table s (Post request (Some refusal)) = s
stream_after table s (Emit shown) = after_emit table s
stream_after table s (Deliver from number octets delivery) = after_deliver s number octets delivery
stream_after table s (Raw number octets delivery) = after_deliver s number octets delivery
stream_after table s (First number None) = with_first s number
stream_after table s (Mulpdu size None) = with_mulpdu s size
stream_after table s (First number (Some refusal)) = s
stream_after table s (Mulpdu size (Some refusal)) = s
stream_after table s (Accept private (Ok agreed)) = accepted s (private_data private)
stream_after table s (Accept private (Err refusal)) = s
stream_after table s (Reject private None) = rejected s (private_data private)
stream_after table s (Reject private (Some refusal)) = s
stream_after table s (Work step) = worked table s
stream_after table s Break = breaks s

abbrev pub connected_after : Table → Connected → StreamAct Octets → Connected
connected_after table c act = record { stream = stream_after table c.stream act; wire = c.wire ++ sent_by act }

-- of the stream of this number
abbrev pub left_at : EndpointState → ℕ → StreamAct Octets → StreamState
left_at e n act = option_map_or (λ step. left_of e.table (pool_of e (stream_at e n).domain) (stream_at e n)) (deed act).step (stream_after e.table (stream_at e n) act)

abbrev pub streams_after : EndpointState → Act Octets → List (Option StreamState)
streams_after e (Open n pd role options private None) = slice_set e.streams n (Some (connected (opening_by false pd role options private) (Some n)).stream)
streams_after e (Open n pd role options private (Some refusal)) = e.streams
streams_after e (OpenShared n pd role options private None) = slice_set e.streams n (Some (connected (opening_by true pd role options private) (Some n)).stream)
streams_after e (OpenShared n pd role options private (Some refusal)) = e.streams
streams_after e (Stream n act) = slice_set e.streams n (Some (left_at e n act))
streams_after e (Domain pd refused) = e.streams
streams_after e (Register pd base rights octets answer) = e.streams
streams_after e (Deregister stag answer) = e.streams
streams_after e (Invalidate stag refused) = e.streams
streams_after e (Store stag to octets refused) = e.streams
streams_after e (Share pd refused) = e.streams
streams_after e (Pool pd len refused) = e.streams
streams_after e (Unpool pd answer) = e.streams

-- ---- calls that are refused, or not

pub granted : {A R : Type 0} (q : Option R) (x y : A) → Ok x ≡ answer_or q y → (None ≡ q) × (x ≡ y)
granted None x y h = (refl, cc)
granted (Some r) x y h = absurd (let no : ⊥ = cc in no)

pub denied : {A R : Type 0} (q : Option R) (r : R) (y : A) → Err r ≡ answer_or q y → Some r ≡ q
denied None r y h = absurd (let no : ⊥ = cc in no)
denied (Some r') r y h = cc

-- the refusal at a stream that is there
refused_there : {R : Type 0} (o : Option StreamState) (f : StreamState → Option R) → is_some o ≡ true → refusal_at o f ≡ option_map Refused (f (unwrap_or o unopened))
refused_there None f h = absurd (false≢true h)
refused_there (Some s) f h = refl

pub asked : {R : Type 0} (e new : EndpointState) (n : ℕ) (f : StreamState → Option R) (q : Option R) → has_stream e n ≡ true → q ≡ f (stream_at e n) → unless (refusal_at (stream_of e n) f) e new ≡ unless (option_map Refused q) e new
asked e new n f q there rule = ap (λ z. unless z e new) (refused_there (stream_of e n) f there ∙ ap (option_map Refused) (sym rule))

pub found : (o : Option StreamState) (e new : EndpointState) → is_some o ≡ true → if_there o e new ≡ new
found None e new h = absurd (false≢true h)
found (Some s) e new h = refl

same_streams : {R : Type 0} (q : Option R) (e new : EndpointState) → new.streams ≡ e.streams → (unless q e new).streams ≡ e.streams
same_streams None e new h = h
same_streams (Some r) e new h = refl

same_table : {R : Type 0} (q : Option R) (e new : EndpointState) → new.table ≡ e.table → (unless q e new).table ≡ e.table
same_table None e new h = h
same_table (Some r) e new h = refl

same_there : (o : Option StreamState) (e new : EndpointState) → new.table ≡ e.table → (if_there o e new).table ≡ e.table
same_there None e new h = refl
same_there (Some s) e new h = h

-- ---- its streams

-- a stream that stays
put_back : (xs : List (Option StreamState)) (n : ℕ) → is_some (slice_index_or xs n None) ≡ true → xs ≡ slice_set xs n (Some (unwrap_or (slice_index_or xs n None) unopened))
put_back xs n h = sym (ap (slice_set xs n) (some (slice_index_or xs n None) h) ∙ set-get_or xs n None)
  where
    some : (o : Option StreamState) → is_some o ≡ true → Some (unwrap_or o unopened) ≡ o
    some None h = absurd (false≢true h)
    some (Some s) h = refl

stream_left : (e : EndpointState) (n : ℕ) (act : StreamAct Octets) → has_stream e n ≡ true → StreamRule e.table (stream_for e n act) act → (after e (call_made (Stream n act))).streams ≡ slice_set e.streams n (Some (left_at e n act))
stream_left e n (Recv len None) there rule = ap (λ (z : EndpointState). z.streams) (asked e (endpoint.with_buffer e n (replicate len 0)) n recv_refusal None there rule)
stream_left e n (Recv len (Some r)) there rule = ap (λ (z : EndpointState). z.streams) (asked e (endpoint.with_buffer e n (replicate len 0)) n recv_refusal (Some r) there rule) ∙ put_back e.streams n there
stream_left e n (Post m None) there rule = ap (λ (z : EndpointState). z.streams) (asked e (endpoint.with_request e n m) n (λ s. post_refusal s m) None there rule.1)
stream_left e n (Post m (Some r)) there rule = ap (λ (z : EndpointState). z.streams) (asked e (endpoint.with_request e n m) n (λ s. post_refusal s m) (Some r) there rule.1) ∙ put_back e.streams n there
stream_left e n (First number None) there rule = ap (λ (z : EndpointState). z.streams) (asked e (endpoint.with_first e n number) n first_refusal None there rule)
stream_left e n (Mulpdu size None) there rule = ap (λ (z : EndpointState). z.streams) (asked e (endpoint.with_mulpdu e n size) n (λ s. size_refusal size) None there rule)
stream_left e n (First number (Some r)) there rule = ap (λ (z : EndpointState). z.streams) (asked e (endpoint.with_first e n number) n first_refusal (Some r) there rule) ∙ put_back e.streams n there
stream_left e n (Mulpdu size (Some r)) there rule = ap (λ (z : EndpointState). z.streams) (asked e (endpoint.with_mulpdu e n size) n (λ s. size_refusal size) (Some r) there rule) ∙ put_back e.streams n there
stream_left e n (Accept private (Ok agreed)) there rule =
    ap (λ (z : EndpointState). z.streams) (asked e (endpoint.accepted e n (private_data private)) n (λ s. answer_refusal s (private_data private).items) None there (granted (answer_refusal (stream_at e n) (private_data private).items) agreed (agreement_in (stream_at e n).start) rule).0)
stream_left e n (Accept private (Err r)) there rule =
    ap (λ (z : EndpointState). z.streams) (asked e (endpoint.accepted e n (private_data private)) n (λ s. answer_refusal s (private_data private).items) (Some r) there (denied (answer_refusal (stream_at e n) (private_data private).items) r (agreement_in (stream_at e n).start) rule)) ∙ put_back e.streams n there
stream_left e n (Reject private None) there rule = ap (λ (z : EndpointState). z.streams) (asked e (endpoint.rejected e n (private_data private)) n (λ s. answer_refusal s (private_data private).items) None there rule)
stream_left e n (Reject private (Some r)) there rule = ap (λ (z : EndpointState). z.streams) (asked e (endpoint.rejected e n (private_data private)) n (λ s. answer_refusal s (private_data private).items) (Some r) there rule) ∙ put_back e.streams n there
stream_left e n (Emit shown) there rule = ap (λ (z : EndpointState). z.streams) (found (stream_of e n) e (endpoint.after_emit e n) there)
stream_left e n (Deliver from number octets delivery) there rule =
    ap (λ (z : EndpointState). z.streams) (found (stream_of e n) e (endpoint.after_deliver e n number octets) there)
    ∙ ap (λ x. slice_set e.streams n (Some (after_deliver (stream_at e n) number octets x))) (sym rule.1)
stream_left e n (Raw number octets delivery) there rule =
    ap (λ (z : EndpointState). z.streams) (found (stream_of e n) e (endpoint.after_deliver e n number octets) there)
    ∙ ap (λ x. slice_set e.streams n (Some (after_deliver (stream_at e n) number octets x))) (sym rule)
stream_left e n (Work step) there rule =
    ap (λ (z : EndpointState). z.streams) (found (stream_of e n) e (endpoint.after_work e n) there)
stream_left e n Break there rule = ap (λ (z : EndpointState). z.streams) (found (stream_of e n) e (endpoint.broken e n) there)

pub streams_left : (e : EndpointState) (act : Act Octets) → EndRule e act → (after e (call_made act)).streams ≡ streams_after e act
streams_left e (Domain pd refused) rule = same_streams (endpoint.domain_refusal e pd) e (endpoint.added e pd) refl
streams_left e (Register pd base rights octets answer) rule = same_streams (register_refusal e.table pd base (length octets)) e (endpoint.registered e pd base octets rights) refl
streams_left e (Deregister stag answer) rule = refl
streams_left e (Invalidate stag refused) rule = refl
streams_left e (Store stag to octets refused) rule = same_streams (endpoint.store_refusal e stag to (length octets)) e (endpoint.stored e stag to octets) refl
streams_left e (Open n pd role options private None) rule = ap (λ q. (unless q e (endpoint.opened e n pd role (config_for options private))).streams) (sym rule)
streams_left e (Open n pd role options private (Some r)) rule = ap (λ q. (unless q e (endpoint.opened e n pd role (config_for options private))).streams) (sym rule)
streams_left e (Share pd refused) rule = same_streams (endpoint.share_refusal e pd) e (endpoint.shared e pd) refl
streams_left e (Pool pd len refused) rule = same_streams (endpoint.pool_refusal e pd) e (endpoint.pooled e pd (replicate len 0)) refl
streams_left e (Unpool pd answer) rule = same_streams (endpoint.take_refusal e pd) e (endpoint.after_take e pd) refl
streams_left e (OpenShared n pd role options private None) rule = ap (λ q. (unless q e (endpoint.opened_shared e n pd role (config_for options private))).streams) (sym rule)
streams_left e (OpenShared n pd role options private (Some r)) rule = ap (λ q. (unless q e (endpoint.opened_shared e n pd role (config_for options private))).streams) (sym rule)
streams_left e (Stream n act) rule = stream_left e n act rule.0 rule.1

-- ---- its regions

abbrev taken : Option Region → Result Octets NoRegion
taken o = option_map_or (λ x. Ok x.octets) o (Err (record {}))

unfound : (o : Option Region) (r : NoRegion) → Err r ≡ taken o → o ≡ None
unfound None r h = refl
unfound (Some x) r h = absurd (let no : ⊥ = cc in no)

missing : (o : Option Region) (r : NoRegion) → Some r ≡ option_map_or (λ x. None) o (Some (record {})) → o ≡ None
missing None r h = refl
missing (Some x) r h = absurd (none-some _ (sym h))

stream_table : (e : EndpointState) (n : ℕ) (act : StreamAct Octets) → has_stream e n ≡ true → StreamRule e.table (stream_for e n act) act → (after e (call_made (Stream n act))).table ≡ table_by_stream e.table act
stream_table e n (Recv len refused) there rule = same_table (endpoint.recv_refusal e n) e (endpoint.with_buffer e n (replicate len 0)) refl
stream_table e n (Post m refused) there rule = same_table (endpoint.post_refusal e n m) e (endpoint.with_request e n m) refl
stream_table e n (First number refused) there rule = same_table (endpoint.first_refusal e n) e (endpoint.with_first e n number) refl
stream_table e n (Mulpdu size refused) there rule = same_table (endpoint.size_refusal e n size) e (endpoint.with_mulpdu e n size) refl
stream_table e n (Accept private answer) there rule = same_table (endpoint.answer_refusal e n (private_data private).items) e (endpoint.accepted e n (private_data private)) refl
stream_table e n (Reject private refused) there rule = same_table (endpoint.answer_refusal e n (private_data private).items) e (endpoint.rejected e n (private_data private)) refl
stream_table e n (Emit shown) there rule = same_there (stream_of e n) e (endpoint.after_emit e n) refl
stream_table e n (Deliver from number octets delivery) there rule = same_there (stream_of e n) e (endpoint.after_deliver e n number octets) refl
stream_table e n (Raw number octets delivery) there rule = same_there (stream_of e n) e (endpoint.after_deliver e n number octets) refl
stream_table e n (Work step) there rule =
    let s : StreamState = seen_at e n in
    ap (λ (z : EndpointState). z.table) (found (stream_of e n) e (endpoint.after_work e n) there)
    ∙ table_of_seen e.table s (worked e.table s).start
    ∙ ap (λ z. table_by_stream e.table (Work z)) (sym rule)
stream_table e n Break there rule = same_there (stream_of e n) e (endpoint.broken e n) refl

pub table_left : (e : EndpointState) (act : Act Octets) → EndRule e act → (after e (call_made act)).table ≡ table_by e.table act
table_left e (Domain pd None) rule = ap (λ q. (unless q e (endpoint.added e pd)).table) (sym rule)
table_left e (Domain pd (Some r)) rule = ap (λ q. (unless q e (endpoint.added e pd)).table) (sym rule)
table_left e (Register pd base rights octets (Ok stag)) rule =
    let k = granted (register_refusal e.table pd base (length octets)) stag (next_stag e.table pd) rule in
    ap (λ q. (unless q e (endpoint.registered e pd base octets rights)).table) (sym k.0) ∙ ap (λ z. registered_under e.table z (new_region base octets rights)) (sym k.1)
table_left e (Register pd base rights octets (Err r)) rule =
    ap (λ q. (unless q e (endpoint.registered e pd base octets rights)).table) (sym (denied (register_refusal e.table pd base (length octets)) r (next_stag e.table pd) rule))
table_left e (Deregister stag (Ok octets)) rule = refl
table_left e (Deregister stag (Err r)) rule = deregistered-none e.table stag (unfound (region_at e.table stag) r rule)
table_left e (Invalidate stag None) rule = refl
table_left e (Invalidate stag (Some r)) rule = with_region-none e.table stag _ (missing (region_at e.table stag) r rule)
table_left e (Store stag to octets None) rule = ap (λ q. (unless q e (endpoint.stored e stag to octets)).table) (sym rule)
table_left e (Store stag to octets (Some r)) rule = ap (λ q. (unless q e (endpoint.stored e stag to octets)).table) (sym rule)
table_left e (Open n pd role options private refused) rule = same_table (endpoint.open_refusal e n pd role (config_for options private)) e (endpoint.opened e n pd role (config_for options private)) refl
table_left e (Share pd refused) rule = same_table (endpoint.share_refusal e pd) e (endpoint.shared e pd) refl
table_left e (Pool pd len refused) rule = same_table (endpoint.pool_refusal e pd) e (endpoint.pooled e pd (replicate len 0)) refl
table_left e (Unpool pd answer) rule = same_table (endpoint.take_refusal e pd) e (endpoint.after_take e pd) refl
table_left e (OpenShared n pd role options private refused) rule = same_table (endpoint.open_shared_refusal e n pd role (config_for options private)) e (endpoint.opened_shared e n pd role (config_for options private)) refl
table_left e (Stream n act) rule = stream_table e n act rule.0 rule.1

-- ---- its pools

pub pools_refused : {R : Type 0} (q : Option R) (e new : EndpointState) → new.pools ≡ e.pools → (unless q e new).pools ≡ e.pools
pools_refused None e new h = h
pools_refused (Some r) e new h = refl

pub pools_there : (o : Option StreamState) (e new : EndpointState) → new.pools ≡ e.pools → (if_there o e new).pools ≡ e.pools
pools_there None e new h = refl
pools_there (Some s) e new h = h

-- ---- the numbers of streams that were closed

closed_refused : {R : Type 0} (q : Option R) (e new : EndpointState) → new.closed ≡ e.closed → (unless q e new).closed ≡ e.closed
closed_refused None e new h = h
closed_refused (Some r) e new h = refl

closed_there : (o : Option StreamState) (e new : EndpointState) → new.closed ≡ e.closed → (if_there o e new).closed ≡ e.closed
closed_there None e new h = refl
closed_there (Some s) e new h = h

-- no act closes one
stream_closed : (e : EndpointState) (n : ℕ) (act : StreamAct Octets) → (after e (call_made (Stream n act))).closed ≡ e.closed
stream_closed e n (Recv len refused) = closed_refused (endpoint.recv_refusal e n) e (endpoint.with_buffer e n (replicate len 0)) refl
stream_closed e n (Post m refused) = closed_refused (endpoint.post_refusal e n m) e (endpoint.with_request e n m) refl
stream_closed e n (Emit shown) = closed_there (stream_of e n) e (endpoint.after_emit e n) refl
stream_closed e n (First number refused) = closed_refused (endpoint.first_refusal e n) e (endpoint.with_first e n number) refl
stream_closed e n (Deliver from number octets delivery) = closed_there (stream_of e n) e (endpoint.after_deliver e n number octets) refl
stream_closed e n (Raw number octets delivery) = closed_there (stream_of e n) e (endpoint.after_deliver e n number octets) refl
stream_closed e n (Mulpdu size refused) = closed_refused (endpoint.size_refusal e n size) e (endpoint.with_mulpdu e n size) refl
stream_closed e n (Accept private answer) = closed_refused (endpoint.answer_refusal e n (private_data private).items) e (endpoint.accepted e n (private_data private)) refl
stream_closed e n (Reject private refused) = closed_refused (endpoint.answer_refusal e n (private_data private).items) e (endpoint.rejected e n (private_data private)) refl
stream_closed e n (Work step) = closed_there (stream_of e n) e (endpoint.after_work e n) refl
stream_closed e n Break = closed_there (stream_of e n) e (endpoint.broken e n) refl

pub closed_left : (e : EndpointState) (act : Act Octets) → (after e (call_made act)).closed ≡ e.closed
closed_left e (Domain pd refused) = closed_refused (endpoint.domain_refusal e pd) e (endpoint.added e pd) refl
closed_left e (Register pd base rights octets answer) = closed_refused (register_refusal e.table pd base (length octets)) e (endpoint.registered e pd base octets rights) refl
closed_left e (Deregister stag answer) = refl
closed_left e (Invalidate stag refused) = refl
closed_left e (Store stag to octets refused) = closed_refused (endpoint.store_refusal e stag to (length octets)) e (endpoint.stored e stag to octets) refl
closed_left e (Open n pd role options private refused) = closed_refused (endpoint.open_refusal e n pd role (config_for options private)) e (endpoint.opened e n pd role (config_for options private)) refl
closed_left e (Share pd refused) = closed_refused (endpoint.share_refusal e pd) e (endpoint.shared e pd) refl
closed_left e (Pool pd len refused) = closed_refused (endpoint.pool_refusal e pd) e (endpoint.pooled e pd (replicate len 0)) refl
closed_left e (Unpool pd answer) = closed_refused (endpoint.take_refusal e pd) e (endpoint.after_take e pd) refl
closed_left e (OpenShared n pd role options private refused) = closed_refused (endpoint.open_shared_refusal e n pd role (config_for options private)) e (endpoint.opened_shared e n pd role (config_for options private)) refl
closed_left e (Stream n act) = stream_closed e n act

-- ---- its wires

differ : (m n : ℕ) → eqb m n ≡ false → n ≡ m → ⊥
differ m n e same = false≢true (sym e ∙ eq-eqb m n (sym same))

pub wire_still : (s : EndState) (act : Act Octets) (n : ℕ) → stream_acts_by n act ≡ [] → wire_at (end_after s act) n ≡ wire_at s n
wire_still s (Domain pd refused) n none = refl
wire_still s (Register pd base rights octets answer) n none = refl
wire_still s (Deregister stag answer) n none = refl
wire_still s (Invalidate stag refused) n none = refl
wire_still s (Store stag to octets refused) n none = refl
wire_still s (Open m pd role options private refused) n none = refl
wire_still s (Share pd refused) n none = refl
wire_still s (Pool pd len refused) n none = refl
wire_still s (Unpool pd answer) n none = refl
wire_still s (OpenShared m pd role options private refused) n none = refl
wire_still s (Stream m act) n none = go (eqb m n) refl none
  where
    shows : (o : Option (Shown Octets)) → eqb m n ≡ false → slice_index_or (option_map_or (λ shown. slice_set s.wires m (slice_index_or s.wires m [] ++ octets_shown shown)) o s.wires) n [] ≡ wire_at s n
    shows None e = refl
    shows (Some shown) e = get_or-set_other s.wires m n (slice_index_or s.wires m [] ++ octets_shown shown) [] (differ m n e)

    go : (b : Bool) → eqb m n ≡ b → cond b (act ∷ []) [] ≡ [] → wire_at (end_after s (Stream m act)) n ≡ wire_at s n
    go false e h = shows (deed act).shown e
    go true e h = absurd (let no : ⊥ = cc in no)

pub wire_more : (s : EndState) (m n : ℕ) (act : StreamAct Octets) → m ≡ n → n < length s.wires → wire_at s n ++ sent_by act ≡ wire_at (end_after s (Stream m act)) n
wire_more s m n act same room =
    subst (λ (j : ℕ). wire_at s n ++ sent_by act ≡ wire_at (end_after s (Stream j act)) n) (sym same) (shows (deed act).shown)
  where
    shows : (o : Option (Shown Octets)) → wire_at s n ++ option_map_or octets_shown o [] ≡ slice_index_or (option_map_or (λ shown. slice_set s.wires n (slice_index_or s.wires n [] ++ octets_shown shown)) o s.wires) n []
    shows None = append-nil (wire_at s n)
    shows (Some shown) = sym (get_or-set_same s.wires n (wire_at s n ++ octets_shown shown) [] room)

pub length-wires : (s : EndState) (act : Act Octets) → length (wires_after s.wires act) ≡ length s.wires
length-wires s (Domain pd refused) = refl
length-wires s (Register pd base rights octets answer) = refl
length-wires s (Deregister stag answer) = refl
length-wires s (Invalidate stag refused) = refl
length-wires s (Store stag to octets refused) = refl
length-wires s (Open m pd role options private refused) = refl
length-wires s (Share pd refused) = refl
length-wires s (Pool pd len refused) = refl
length-wires s (Unpool pd answer) = refl
length-wires s (OpenShared m pd role options private refused) = refl
length-wires s (Stream m act) = shows (deed act).shown
  where
    shows : (o : Option (Shown Octets)) → length (option_map_or (λ shown. slice_set s.wires m (slice_index_or s.wires m [] ++ octets_shown shown)) o s.wires) ≡ length s.wires
    shows None = refl
    shows (Some shown) = length-set s.wires m (slice_index_or s.wires m [] ++ octets_shown shown)
