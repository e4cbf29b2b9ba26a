-- The regions of an end of a server are those that its entries say, and what its streams do is as they say.
use Rattle.std.proofs.Common.{◌≡◌, ℕ, List, [], ◌∷◌, ◌++◌, length, Option, Some, None, Ok, Err, true, refl, sym, ap, ◌∙◌, subst, append_assoc}
use Rattle.std.specs.Prelude.{is_some, unwrap_or}
use Rattle.std.proofs.lemmas.List.{append-nil}
use Rattle.iw_memory.specs.Region.{bound_region}
use Rattle.iw_memory.specs.Table.{Table, empty, next_stag, retired}
use Rattle.iw_stream.specs.Judging.{Standing}
use Rattle.iw_stream.specs.Stream.{StreamState, peer_of}
use Rattle.iw_startup.specs.declared.config.Config.{Config}
use Rattle.iw_endpoint.specs.declared.refusal.CallRefusal.TheVariants.{Refused}
use Rattle.iw_endpoint.specs.Endpoint as endpoint
use Rattle.iw_endpoint.specs.Endpoint.{EndpointState, has_stream, stream_of, stream_at, unopened as no_stream, next_number, next_refusal, next_shared_refusal, limit_refusal, rest_refusal}
use Rattle.iw_endpoint.specs.Isolation.{unless}
use Rattle.iw_events.specs.declared.call.End.{End}
use Rattle.iw_events.specs.declared.call.End.TheVariants.{A, B}
use Rattle.iw_events.specs.declared.act.Act.{Act}
use Rattle.iw_events.specs.declared.act.Act.TheVariants as acts
use Rattle.iw_events.specs.declared.act.StreamAct.{StreamAct}
use Rattle.iw_events.specs.declared.act.StreamAct.TheVariants.{Deliver, Raw}
use Rattle.iw_events.specs.declared.act.Entry.{Entry}
use Rattle.iw_events.specs.declared.server.ServerAct.{ServerAct}
use Rattle.iw_events.specs.declared.server.ServerAct.TheVariants.{Plain, Stream, OpenNext, OpenSharedNext, Read, ReadRaw, RegisterFor, Close}
use Rattle.iw_events.specs.declared.server.ServerEntry.{ServerEntry}
use Rattle.iw_laws.specs.Words as words
use Rattle.iw_laws.specs.Words.{Octets, OnSome, deed, ended, other, stream_acts, config_for, domain_of, opening_of, registered_under}
use Rattle.iw_events.specs.declared.act.Seen.{Seen}
use Rattle.std.proofs.lemmas.Bool.{false≢true}
use Rattle.iw_laws.specs.Turns.{TurnsSeen, story_of, standing}
use Rattle.iw_laws.specs.Rules.{EndState, State, end_of, with_end, start, EndRule, StreamRule}
use Rattle.iw_laws.specs.Servers.{Connections, AreApart, told, ServerRule, ServerEndRule, PlainPeerRule, server_after, after_server_entry, server_state_after, ServerFollows}
use Rattle.iw_laws.specs.ServerLaws.{by_number}
use Rattle.iw_laws.specs.ServerRegions.{server_table_by, server_table_if, server_table_from, server_table, server_standing, server_stream_act, OfServerRegions, WithinAs, FetchAs, TurnsAs, EarlyAs, SecondAs, PlacedAs}
use Rattle.iw_laws.proofs.States.{Connected, table_left, granted, denied, asked}
use Rattle.iw_laws.proofs.Pools.{tale_seen as tale}
use Rattle.iw_laws.proofs.Owned.{Own}
use Rattle.iw_laws.proofs.Ends.{EndSeen, AreNumbered, stream_some, number_at}
use Rattle.iw_laws.proofs.Runs.{Moment}
use Rattle.iw_laws.proofs.Renumbered.{under, SameDenials}
use Rattle.iw_laws.proofs.Serving.{Alike, asked_for, served, stream_step, server_state_after-push}
use Rattle.iw_laws.proofs.Closing.{server_follows-split}
use Rattle.iw_laws.proofs.Laws.{at_stream, standing_is, TurnsIn, turns_stream, fetch_shown, idle_stream}
use Rattle.iw_laws.proofs.EarlyLaws.{early_seen, second_seen}
use Rattle.iw_laws.proofs.Placements.{placed_seen}
use Rattle.iw_laws.proofs.Owns.{within}
use Rattle.iw_laws.proofs.Told.{told as told_step}
use Rattle.iw_laws.proofs.Tracks.{sound}
use Rattle.iw_laws.specs.Rest.{IdleSeen}
use Rattle.iw_laws.specs.Early.{EarlySeen, SecondSeen}
use Rattle.iw_laws.specs.Once.{PlacedSeen}

-- ---- one act

-- the peer of a stream is denied the same under its own number
own_denials : (s : EndState) (n : ℕ) → AreNumbered s.endpoint → has_stream s.endpoint n ≡ true → SameDenials s.endpoint.table (peer_of (stream_at s.endpoint n)) (peer_of (under (Some n) (stream_at s.endpoint n)))
own_denials s n numbers has =
    let c : StreamState = stream_at s.endpoint n in
    subst (λ z. SameDenials s.endpoint.table (record { domain = c.domain; stream = z }) (record { domain = c.domain; stream = Some n })) (sym (number_at s.endpoint n numbers has))
    (record { denied = λ stag to m right. refl; invalidate_denied = λ stag. refl })

same_table : {R : Type 0} (q : Option R) (e new : EndpointState) → new.table ≡ e.table → (unless q e new).table ≡ e.table
same_table None e new h = h
same_table (Some r) e new h = refl

module _ (own number : ℕ → ℕ) (size : ℕ) (s g : EndState) (done : List (Act Octets)) (k : Alike own number size s g) (seen : EndSeen g done) where
  -- the stream there
  pub there_is : (n : ℕ) → has_stream s.endpoint n ≡ true → stream_of g.endpoint (own n) ≡ Some (under (Some (number n)) (stream_at s.endpoint n))
  there_is n has = k.streams n (stream_at s.endpoint n) (stream_some (stream_of s.endpoint n) has)

  pub domain_told : (n : ℕ) → has_stream s.endpoint n ≡ true → (stream_at s.endpoint n).domain ≡ domain_of (own n) done
  domain_told n has = sym (ap (λ o. (unwrap_or o no_stream).domain) (there_is n has)) ∙ seen.domain (own n) (ap is_some (there_is n has))

  act_table : (act : ServerAct Octets) → ServerEndRule s act → (server_after s act).endpoint.table ≡ server_table_by own done s.endpoint.table act
  act_table (Plain act) rule = table_left s.endpoint act rule
  act_table (Stream n act) rule = table_left s.endpoint (acts.Stream n act) rule
  act_table (Read n from sequence octets delivery) rule = table_left s.endpoint (acts.Stream n (Deliver from sequence octets delivery)) rule.1
  act_table (ReadRaw n sequence octets delivery) rule = table_left s.endpoint (acts.Stream n (Raw sequence octets delivery)) rule.1
  act_table (OpenNext pd role options private answer) rule =
      let e : EndpointState = s.endpoint in
      let config : Config = config_for options private in
      same_table (next_refusal e (next_number e) pd role config) e (endpoint.opened_next e (next_number e) pd role config) refl
  act_table (OpenSharedNext pd role options private answer) rule =
      let e : EndpointState = s.endpoint in
      let config : Config = config_for options private in
      same_table (next_shared_refusal e (next_number e) pd role config) e (endpoint.opened_shared_next e (next_number e) pd role config) refl
  act_table (RegisterFor n base rights octets (Ok stag)) rule =
      let e : EndpointState = s.endpoint in
      let h = granted (limit_refusal e n base (length octets)) stag (next_stag e.table (stream_at e n).domain) rule.1 in
      ap (λ q. (unless q e (endpoint.limited e n base octets rights)).table) (sym h.0) ∙ ap (λ z. registered_under e.table z (bound_region n base octets rights)) (sym h.1)
  act_table (RegisterFor n base rights octets (Err r)) rule =
      let e : EndpointState = s.endpoint in
      ap (λ q. (unless q e (endpoint.limited e n base octets rights)).table) (sym (denied (limit_refusal e n base (length octets)) (Refused r) (next_stag e.table (stream_at e n).domain) rule.1))
  act_table (Close n None) rule =
      let e : EndpointState = s.endpoint in
      ap (λ (z : EndpointState). z.table) (asked e (endpoint.after_close e n) n rest_refusal None rule.0 rule.1)
      ∙ (λ i. retired e.table (record { domain = domain_told n rule.0 i; stream = number_at e n k.numbers rule.0 i }))
  act_table (Close n (Some r)) rule = ap (λ (z : EndpointState). z.table) (asked s.endpoint (endpoint.after_close s.endpoint n) n rest_refusal (Some r) rule.0 rule.1)

-- ---- one entry after another

module _ (name : Connections) (apart : AreApart name) where
  abbrev state_at : List (ServerEntry Octets) → State
  state_at past = server_state_after start past

  entry_table : (past : List (ServerEntry Octets)) (e : ServerEntry Octets) → ServerFollows name start past → ServerRule (name e.end) (name (other e.end)) (end_of e.end (state_at past)) (end_of (other e.end) (state_at past)) e.act
      → (t : End → Table) → ((x : End) → (end_of x (state_at past)).endpoint.table ≡ t x) → (x : End)
      → (end_of x (after_server_entry (state_at past) e)).endpoint.table ≡ server_table_if x e.end (name x) (words.acts x (told name past)) (t x) e.act
  entry_table past e follows rule t are x = by x e.end e.act rule.0
    where
      w : State
      w = server_state_after start past

      mine : (y : End) (act : ServerAct Octets) → ServerEndRule (end_of y w) act → (server_after (end_of y w) act).endpoint.table ≡ server_table_by (name y) (words.acts y (told name past)) (t y) act
      mine y act rule =
          let walked = served name past apart follows in
          act_table (name y) (by_number y) (asked_for name past) (end_of y w) (end_of y walked.last) (words.acts y (told name past)) (walked.alike y) (walked.keeps.ends y) act rule
          ∙ ap (λ z. server_table_by (name y) (words.acts y (told name past)) z act) (are y)

      by : (x y : End) (act : ServerAct Octets) → ServerEndRule (end_of y w) act
          → (end_of x (with_end y (server_after (end_of y w) act) w)).endpoint.table ≡ server_table_if x y (name x) (words.acts x (told name past)) (t x) act
      by A A act rule = mine A act rule
      by B B act rule = mine B act rule
      by A B act rule = are A
      by B A act rule = are B

  tables_from : (es past : List (ServerEntry Octets)) → ServerFollows name start (past ++ es) → (t : End → Table) → ((x : End) → (end_of x (state_at past)).endpoint.table ≡ t x)
      → (x : End) → (end_of x (state_at (past ++ es))).endpoint.table ≡ server_table_from name x past (t x) es
  tables_from [] past follows t are x = ap (λ z. (end_of x (state_at z)).endpoint.table) (append-nil past) ∙ are x
  tables_from (e ∷ es) past follows t are x =
      let split = server_follows-split name past (e ∷ es) start follows in
      let t' : End → Table = λ y. server_table_if y e.end (name y) (words.acts y (told name past)) (t y) e.act in
      let next : (y : End) → (end_of y (state_at (past ++ e ∷ []))).endpoint.table ≡ t' y = λ y.
      ap (λ z. (end_of y z).endpoint.table) (server_state_after-push past e start) ∙ entry_table past e split.0 split.1.0 t are y in
      ap (λ z. (end_of x (state_at z)).endpoint.table) (sym (append_assoc past (e ∷ []) es))
      ∙ tables_from es (past ++ e ∷ []) (subst (ServerFollows name start) (sym (append_assoc past (e ∷ []) es)) follows) t' next x

  pub table_is : (past : List (ServerEntry Octets)) → ServerFollows name start past → (x : End) → (end_of x (state_at past)).endpoint.table ≡ server_table name x past
  table_is past follows x = tables_from past [] follows (λ y. empty) first x
    where
      first : (y : End) → (end_of y start).endpoint.table ≡ empty
      first A = refl
      first B = refl

-- ---- what a stream does

-- by the regions that stand there, and the peer that it has
abbrev pub IsSoBy : (Standing → List (Act Octets) → ℕ → StreamAct Octets → Type 0) → Type 0
IsSoBy P = (done : List (Act Octets)) (n : ℕ) (table : Table) (c : Connected) (act : StreamAct Octets) → StreamRule table c.stream act → Own (opening_of n done) c (tale n done)
    → P (record (standing n done) { table = table; peer = peer_of c.stream }) done n act

module _ (P : Standing → List (Act Octets) → ℕ → StreamAct Octets → Type 0) (is_so : IsSoBy P) (name : Connections) (apart : AreApart name) where
  -- an act of a stream that is answered as the rules say
  stream_so : (past : List (ServerEntry Octets)) (x : End) (n : ℕ) (act : StreamAct Octets) → ServerFollows name start past
      → EndRule (end_of x (server_state_after start past)).endpoint (acts.Stream n act) × PlainPeerRule (name x) (name (other x)) (end_of (other x) (server_state_after start past)) (acts.Stream n act)
      → P (server_standing name x past n) (words.acts x (told name past)) (name x n) act
  stream_so past x n act follows rule =
      let w : State = server_state_after start past in
      let s : EndState = end_of x w in
      let walked = served name past apart follows in
      let g : EndState = end_of x walked.last in
      let done : List (Act Octets) = words.acts x (told name past) in
      let k : Alike (name x) (by_number x) (asked_for name past) s g = walked.alike x in
      let seen : EndSeen g done = walked.keeps.ends x in
      let has : has_stream s.endpoint n ≡ true = rule.0.0 in
      let step = stream_step (name x) (by_number x) (name (other x)) (by_number (other x)) (apart x) (asked_for name past) s g (end_of (other x) w) (end_of (other x) walked.last) k (walked.alike (other x)) seen.wires (λ m h. own_denials s m k.numbers h) n act rule in
      let e : Entry Octets = record { end = x; act = acts.Stream (name x n) act } in
      let m : Moment (told name past) (e ∷ []) = record { state = walked.last; keeps = walked.keeps; next = step.0 } in
      let there = there_is (name x) (by_number x) (asked_for name past) s g done k seen n has in
      let peer : peer_of (stream_at g.endpoint (name x n)) ≡ record { domain = domain_of (name x n) done; stream = Some n } =
      ap (λ o. peer_of (unwrap_or o no_stream)) there ∙ (λ i. record { domain = domain_told (name x) (by_number x) (asked_for name past) s g done k seen n has i; stream = Some n }) in
      let table : g.endpoint.table ≡ server_table name x past = k.table ∙ table_is name apart past follows x in
      let Q : List (Act Octets) → ℕ → StreamAct Octets → Type 0 = λ d j a. peer_of (stream_at g.endpoint j) ≡ record { domain = domain_of (name x n) done; stream = Some n }
      → P (record (standing j d) { table = server_table name x past; peer = record { domain = domain_of (name x n) done; stream = Some n } }) d j a in
      let so : Q done (name x n) act = at_stream Q (told name past) e [] m (λ j c a opened same rule own is.
      subst (λ z. P (record (standing j done) { table = z; peer = record { domain = domain_of (name x n) done; stream = Some n } }) done j a) table
      (subst (λ z. P (record (standing j done) { table = g.endpoint.table; peer = z }) done j a) (same ∙ is) (is_so done j g.endpoint.table c a rule own))) in
      so peer

  entry_so : (past : List (ServerEntry Octets)) (e : ServerEntry Octets) → ServerFollows name start past → ServerRule (name e.end) (name (other e.end)) (end_of e.end (server_state_after start past)) (end_of (other e.end) (server_state_after start past)) e.act
      → OnSome (λ a. P (server_standing name e.end past a.0) (words.acts e.end (told name past)) (name e.end a.0) a.1) (server_stream_act e.act)
  entry_so past e follows rule = by e.end e.act rule
    where
      w : State
      w = server_state_after start past

      by : (x : End) (act : ServerAct Octets) → ServerRule (name x) (name (other x)) (end_of x w) (end_of (other x) w) act → OnSome (λ a. P (server_standing name x past a.0) (words.acts x (told name past)) (name x a.0) a.1) (server_stream_act act)
      by x (Plain (acts.Stream n act)) rule = stream_so past x n act follows rule
      by x (Stream n act) rule = stream_so past x n act follows rule
      by x (Read n from sequence octets delivery) rule = stream_so past x n (Deliver from sequence octets delivery) follows (rule.0.1, rule.1)
      by x (ReadRaw n sequence octets delivery) rule = stream_so past x n (Raw sequence octets delivery) follows (rule.0.1, λ h. absurd (false≢true h))
      by x (OpenNext pd role options private answer) rule = tt
      by x (OpenSharedNext pd role options private answer) rule = tt
      by x (RegisterFor n base rights octets answer) rule = tt
      by x (Close n refused) rule = tt
      by x (Plain (acts.Domain pd refused)) rule = tt
      by x (Plain (acts.Register pd base rights octets answer)) rule = tt
      by x (Plain (acts.Deregister stag answer)) rule = tt
      by x (Plain (acts.Invalidate stag refused)) rule = tt
      by x (Plain (acts.Store stag to octets refused)) rule = tt
      by x (Plain (acts.Open n pd role options private refused)) rule = tt
      by x (Plain (acts.Share pd refused)) rule = tt
      by x (Plain (acts.Pool pd len refused)) rule = tt
      by x (Plain (acts.Unpool pd answer)) rule = tt
      by x (Plain (acts.OpenShared n pd role options private refused)) rule = tt

-- a law of each act of a stream holds of servers, by the regions as they stand
pub of_server_regions : (P : Standing → List (Act Octets) → ℕ → StreamAct Octets → Type 0) → IsSoBy P → OfServerRegions P
of_server_regions P is_so name trace apart follows past e future is =
    let split = server_follows-split name past (e ∷ future) start (subst (ServerFollows name start) is follows) in
    entry_so P is_so name apart past e split.0 split.1.0

-- ---- the laws

pub turns_as : IsSoBy TurnsAs
turns_as done n table c act rule own = subst (λ z. TurnsIn z done n act) (standing_is done n table c own) (turns_stream done n table c act rule own)

pub fetch_as : IsSoBy FetchAs
fetch_as done n table c act rule own = subst (λ z. FetchAs z done n act) (standing_is done n table c own) (fetch_shown done n table c act rule own)

pub within_as : IsSoBy WithinAs
within_as done n table c act rule own = within (opening_of n done) table c (tale n done) act (told_step table c.stream act (sound c.stream (tale n done) own.track) rule) own

pub early_as : IsSoBy EarlyAs
early_as done n table c act rule own = go (deed act).step (idle_stream table c done n act rule own) (turns_as done n table c act rule own)
  where
    s : Standing
    s = record (standing n done) { table = table; peer = peer_of c.stream }

    go : (o : Option (Seen Octets)) → OnSome (IdleSeen (ended (stream_acts n done)) (story_of n done) (stream_acts n done)) o → OnSome (TurnsSeen (ended (stream_acts n done)) (story_of n done) s) o → OnSome (EarlySeen (ended (stream_acts n done)) (story_of n done) s) o
    go None i t = tt
    go (Some step) i t = early_seen (ended (stream_acts n done)) (story_of n done) s (stream_acts n done) step i t

pub second_as : IsSoBy SecondAs
second_as done n table c act rule own = go (deed act).step (turns_as done n table c act rule own)
  where
    s : Standing
    s = record (standing n done) { table = table; peer = peer_of c.stream }

    go : (o : Option (Seen Octets)) → OnSome (TurnsSeen (ended (stream_acts n done)) (story_of n done) s) o → OnSome (SecondSeen (story_of n done) s) o
    go None t = tt
    go (Some step) t = second_seen (ended (stream_acts n done)) (story_of n done) s step t

pub placed_as : IsSoBy PlacedAs
placed_as done n table c act rule own = go (deed act).step (turns_as done n table c act rule own)
  where
    s : Standing
    s = record (standing n done) { table = table; peer = peer_of c.stream }

    go : (o : Option (Seen Octets)) → OnSome (TurnsSeen (ended (stream_acts n done)) (story_of n done) s) o → OnSome (PlacedSeen (story_of n done) s) o
    go None t = tt
    go (Some step) t = placed_seen (ended (stream_acts n done)) (story_of n done) s step t
