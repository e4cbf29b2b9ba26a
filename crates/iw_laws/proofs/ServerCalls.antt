-- Each call of an end of a server is answered by its regions, its pools and its streams.
use Rattle.std.proofs.Common.{◌≡◌, ℕ, ◌+◌, List, [], ◌∷◌, ◌++◌, length, Option, Some, None, Result, Ok, Err, Bool, true, false, cond, refl, sym, ap, ◌∙◌, subst, arith}
use Rattle.std.specs.Prelude.{not, nat_le, nat_lt, unwrap_or, slice_index_or, IfOk}
use Rattle.std.specs.Option.{option_map, option_or}
use Rattle.std.specs.Result.{result_err, result_map_both}
use Rattle.std.proofs.lemmas.List.{length-set, length-replicate}
use Rattle.std.proofs.lemmas.Option.{none-some}
use Rattle.iw_octets.specs.declared.stag.Stag.{Stag}
use Rattle.iw_memory.specs.Region.{new_region}
use Rattle.iw_memory.specs.Table.{Table, is_added, domain_refusal, register_refusal, store_refusal, next_stag}
use Rattle.iw_memory.specs.declared.refusal.RegisterRefusal.{RegisterRefusal}
use Rattle.iw_memory.specs.declared.rights.Rights.{Rights}
use Rattle.iw_startup.specs.declared.config.Config.{Config}
use Rattle.iw_stream.specs.declared.answer.OpenRefusal.TheVariants.{NumberTaken, BadNumber, NoDomain}
use Rattle.iw_stream.specs.Stream.{StreamState, ended}
use Rattle.iw_endpoint.specs.declared.refusal.CallRefusal.TheVariants.{Refused}
use Rattle.iw_endpoint.specs.declared.refusal.LimitRefusal.{LimitRefusal}
use Rattle.iw_endpoint.specs.declared.refusal.LimitRefusal.TheVariants as limits
use Rattle.iw_endpoint.specs.Endpoint as endpoint
use Rattle.iw_endpoint.specs.Endpoint.{EndpointState, Pool as PoolOf, stream_numbers, no_streams, pool_of, lent_to, share_fault, pool_fault, take_fault, taken, has_stream, stream_of, stream_at, is_taken, unopened as no_stream, number_refusal, open_shared_refusal_of, unshared, request_refusal, next_number, next_refusal, next_shared_refusal, limit_refusal, rest_refusal}
use Rattle.iw_endpoint.specs.Isolation.{answer_or, unless}
use Rattle.iw_events.specs.declared.call.End.{End}
use Rattle.iw_events.specs.declared.call.End.TheVariants.{A, B}
use Rattle.iw_events.specs.declared.act.Act.{Act}
use Rattle.iw_events.specs.declared.act.Act.TheVariants as acts
use Rattle.iw_events.specs.declared.act.StreamAct.TheVariants.{Deliver, Raw}
use Rattle.iw_events.specs.declared.server.ServerAct.{ServerAct}
use Rattle.iw_events.specs.declared.server.ServerAct.TheVariants.{Plain, Stream, OpenNext, OpenSharedNext, Read, ReadRaw, RegisterFor, Close}
use Rattle.iw_events.specs.declared.server.ServerEntry.{ServerEntry}
use Rattle.iw_laws.specs.Words as words
use Rattle.iw_laws.specs.Words.{Octets, config_for, domain_of, opening_of, openings, stream_acts, was_opened, ended as has_ended_by}
use Rattle.iw_laws.specs.Calls.{IsNew, deregister_answer, invalidate_refusal, number_refusal_in}
use Rattle.iw_laws.specs.Turns.{story_of, pool_by}
use Rattle.iw_laws.specs.Ends.{closing_refusal}
use Rattle.iw_laws.specs.Rules.{EndState, State, end_of, with_end, start, EndRule, seen_at}
use Rattle.iw_laws.specs.Servers.{Connections, AreApart, told, ServerEndRule, server_after, after_server_entry, server_state_after, ServerFollows}
use Rattle.iw_laws.specs.ServerLaws.{by_number, server_acts, server_acts_if, count_given, number_after, OfConnections}
use Rattle.iw_laws.specs.ServerRegions.{server_table}
use Rattle.iw_laws.specs.ServerMemory.{next_refusal_by, next_shared_refusal_by, limit_refusal_by, ServerAnswered, ServerShowsMemory}
use Rattle.iw_laws.proofs.States.{granted, denied, streams_left, connected_seen}
use Rattle.iw_laws.proofs.Ends.{EndSeen, numbers_after, stream_some}
use Rattle.iw_laws.proofs.Pools.{Holds, held, tale_seen as tale}
use Rattle.iw_laws.proofs.Whole.{keeps_seen}
use Rattle.iw_laws.proofs.Laws.{registers}
use Rattle.iw_laws.proofs.Releases.{left_apart}
use Rattle.iw_laws.proofs.Renumbered.{under}
use Rattle.iw_laws.proofs.Closes.{rest_under, rest_lent, rest_left, closing_told}
use Rattle.iw_laws.proofs.Serving.{Alike, Walked, IsGiven, asked_for, served, next_given, next_shared_given, length-put_last}
use Rattle.iw_laws.proofs.Closing.{server_follows-split}
use Rattle.iw_laws.proofs.ServerTables.{there_is, domain_told, table_is}

-- ---- how many numbers were given

-- those of the first act, and of the others
count_one : (act : ServerAct Octets) (done : List (ServerAct Octets)) → count_given (act ∷ done) ≡ count_given (act ∷ []) + count_given done
count_one (OpenNext pd role options private (Ok n)) done = omega arith
count_one (OpenNext pd role options private (Err r)) done = omega arith
count_one (OpenSharedNext pd role options private (Ok n)) done = omega arith
count_one (OpenSharedNext pd role options private (Err r)) done = omega arith
count_one (Plain act) done = omega arith
count_one (Stream n act) done = omega arith
count_one (Read n from number octets delivery) done = omega arith
count_one (ReadRaw n number octets delivery) done = omega arith
count_one (RegisterFor n base rights octets answer) done = omega arith
count_one (Close n refused) done = omega arith

abbrev places : EndpointState → ℕ
places e = length e.streams

-- the streams of the endpoint have one place more for each
module _ (s : EndState) where
  same_places : {R : Type 0} (q : Option R) (new : EndpointState) → places new ≡ places s.endpoint → places (unless q s.endpoint new) ≡ places s.endpoint + 0
  same_places None new same = omega (arith, same)
  same_places (Some r) new same = omega arith

  schedule_places : (act : Act Octets) → EndRule s.endpoint act → places (server_after s (Plain act)).endpoint ≡ places s.endpoint + 0
  schedule_places act rule = omega (arith, ap length (streams_left s.endpoint act rule), numbers_after s act)

  given_places : (n : ℕ) (c : StreamState) → n ≡ places s.endpoint → places (endpoint.with_next s.endpoint n c) ≡ places s.endpoint + 1
  given_places n c is = ap (λ m. places (endpoint.with_next s.endpoint m c)) is ∙ length-put_last s.endpoint.streams c

  act_places : (act : ServerAct Octets) → ServerEndRule s act → places (server_after s act).endpoint ≡ places s.endpoint + count_given (act ∷ [])
  act_places (Plain act) rule = schedule_places act rule
  act_places (Stream n act) rule = schedule_places (acts.Stream n act) rule
  act_places (Read n from number octets delivery) rule = schedule_places (acts.Stream n (Deliver from number octets delivery)) rule.1
  act_places (ReadRaw n number octets delivery) rule = schedule_places (acts.Stream n (Raw number octets delivery)) rule.1
  act_places (OpenNext pd role options private (Ok n)) rule =
      let e : EndpointState = s.endpoint in
      let config : Config = config_for options private in
      let h = granted (next_refusal e (next_number e) pd role config) n (unwrap_or (next_number e) 0) rule in
      let i : IsGiven e role config = next_given e pd role config h.0 in
      ap (λ q. places (unless q e (endpoint.opened_next e (next_number e) pd role config))) (sym h.0)
      ∙ given_places (unwrap_or (next_number e) 0) (endpoint.new_stream (unwrap_or (next_number e) 0) pd role config) i.number
  act_places (OpenSharedNext pd role options private (Ok n)) rule =
      let e : EndpointState = s.endpoint in
      let config : Config = config_for options private in
      let h = granted (next_shared_refusal e (next_number e) pd role config) n (unwrap_or (next_number e) 0) rule in
      let i : IsGiven e role config = next_shared_given e pd role config h.0 in
      ap (λ q. places (unless q e (endpoint.opened_shared_next e (next_number e) pd role config))) (sym h.0)
      ∙ given_places (unwrap_or (next_number e) 0) (endpoint.new_shared (unwrap_or (next_number e) 0) pd role config) i.number
  act_places (OpenNext pd role options private (Err r)) rule =
      let e : EndpointState = s.endpoint in
      let config : Config = config_for options private in
      omega (
        arith,
        ap (λ q. places (unless q e (endpoint.opened_next e (next_number e) pd role config))) (sym (denied (next_refusal e (next_number e) pd role config) r (unwrap_or (next_number e) 0) rule)),
      )
  act_places (OpenSharedNext pd role options private (Err r)) rule =
      let e : EndpointState = s.endpoint in
      let config : Config = config_for options private in
      omega (
        arith,
        ap (λ q. places (unless q e (endpoint.opened_shared_next e (next_number e) pd role config))) (sym (denied (next_shared_refusal e (next_number e) pd role config) r (unwrap_or (next_number e) 0) rule)),
      )
  act_places (RegisterFor n base rights octets answer) rule = same_places (limit_refusal s.endpoint n base (length octets)) (endpoint.limited s.endpoint n base octets rights) refl
  act_places (Close n refused) rule = same_places (endpoint.close_refusal s.endpoint n) (endpoint.after_close s.endpoint n) (length-set s.endpoint.streams n None)

module _ (name : Connections) where
  places_from : (x : End) (es : List (ServerEntry Octets)) (w : State) → ServerFollows name w es → places (end_of x (server_state_after w es)).endpoint ≡ places (end_of x w).endpoint + count_given (server_acts x es)
  places_from x [] w follows = omega arith
  places_from x (e ∷ es) w follows = by x e.end e.act follows.0.0 (places_from x es (after_server_entry w e) follows.1)
    where
      by : (x y : End) (act : ServerAct Octets) → ServerEndRule (end_of y w) act
          → places (end_of x (server_state_after (after_server_entry w e) es)).endpoint ≡ places (end_of x (with_end y (server_after (end_of y w) act) w)).endpoint + count_given (server_acts x es)
          → places (end_of x (server_state_after (after_server_entry w e) es)).endpoint ≡ places (end_of x w).endpoint + count_given (server_acts_if x y act ++ server_acts x es)
      by A A act rule later = omega (arith, later, act_places w.a act rule, count_one act (server_acts A es))
      by B B act rule later = omega (arith, later, act_places w.b act rule, count_one act (server_acts B es))
      by A B act rule later = later
      by B A act rule later = later

  first_places : (x : End) → places (end_of x start).endpoint ≡ stream_numbers
  unfolding no_streams
  first_places A = length-replicate {A = Option StreamState} 64 None
  first_places B = length-replicate {A = Option StreamState} 64 None

  next_is : (x : End) (past : List (ServerEntry Octets)) → ServerFollows name start past → next_number (end_of x (server_state_after start past)).endpoint ≡ number_after (count_given (server_acts x past))
  next_is x past follows =
      let size : places (end_of x (server_state_after start past)).endpoint ≡ stream_numbers + count_given (server_acts x past) = omega (arith, places_from x past start follows, first_places x) in
      ap (λ n. cond (nat_lt n endpoint.all_numbers) (Some n) None) size

-- ---- a region for one stream

ended_lent : (o : Option PoolOf) (s : StreamState) → ended (lent_to o s) ≡ ended s
ended_lent None s = refl
ended_lent (Some pool) s = refl

limit_is : (o : Option StreamState) (c : StreamState) (q : Option RegisterRefusal) → o ≡ Some c
    → option_or (endpoint.refusal_at o (λ s. cond (ended s) (Some limits.Ended) None)) (option_map (λ r. Refused (limits.Refused r)) q) ≡ option_map Refused (cond (ended c) (Some limits.Ended) (option_map limits.Refused q))
limit_is o c q is = ap (λ z. option_or (endpoint.refusal_at z (λ s. cond (ended s) (Some limits.Ended) None)) (option_map (λ r. Refused (limits.Refused r)) q)) is ∙ go (ended c) q
  where
    go : (over : Bool) (q : Option RegisterRefusal) → option_or (option_map Refused (cond over (Some limits.Ended) None)) (option_map (λ r. Refused (limits.Refused r)) q) ≡ option_map Refused (cond over (Some limits.Ended) (option_map limits.Refused q))
    go true q = refl
    go false None = refl
    go false (Some r) = refl

-- of what was answered: why it was refused, or the STag
answered_so : (answer : Result Stag LimitRefusal) (q : Option LimitRefusal) (stag : Stag) → result_map_both (λ x. x) Refused answer ≡ answer_or (option_map Refused q) stag → (result_err answer ≡ q) × IfOk answer (λ x. (x ≡ stag) × (q ≡ None))
answered_so (Ok x) None stag h = (refl, (let same : x ≡ stag = cc in same, refl))
answered_so (Ok x) (Some r) stag h = absurd (let no : ⊥ = cc in no)
answered_so (Err r) None stag h = absurd (let no : ⊥ = cc in no)
answered_so (Err r) (Some r') stag h = (let same : r ≡ r' = cc in ap Some same, tt)

none_limited : (over : Bool) (q : Option RegisterRefusal) → cond over (Some limits.Ended) (option_map limits.Refused q) ≡ None → q ≡ None
none_limited true q h = absurd (none-some _ (sym h))
none_limited false None h = refl
none_limited false (Some r) h = absurd (none-some _ (sym h))

new_there : (table : Table) (pd base len : ℕ) (over : Bool) (answer : Result Stag LimitRefusal) → IfOk answer (λ x. (x ≡ next_stag table pd) × (limit_refusal_by table over pd base len ≡ None)) → IfOk answer (IsNew table pd)
new_there table pd base len over (Err r) h = tt
new_there table pd base len over (Ok x) h =
    let none : register_refusal table pd base len ≡ None = none_limited over (register_refusal table pd base len) h.1 in
    (registers table pd base len (new_region 0 [] (record { write = false; read = false; sink = false; invalidate = false })) (Ok x) (ap Ok h.0 ∙ ap (λ q. answer_or q (next_stag table pd)) (sym none))).1

-- ---- one call

module _ (name : Connections) (apart : AreApart name) (past : List (ServerEntry Octets)) (follows : ServerFollows name start past) (x : End) where
  abbrev here : EndState
  here = end_of x (server_state_after start past)

  abbrev done : List (Act Octets)
  done = words.acts x (told name past)

  abbrev regions : Table
  regions = server_table name x past

  abbrev given : ℕ
  given = count_given (server_acts x past)

  walked : Walked ⊥ name by_number (asked_for name past) [] (told name past) (server_state_after start past)
  walked = served name past apart follows

  abbrev there : EndState
  there = end_of x walked.last

  alike : Alike (name x) (by_number x) (asked_for name past) here there
  alike = walked.alike x

  seen : EndSeen there done
  seen = walked.keeps.ends x

  table : here.endpoint.table ≡ regions
  table = table_is name apart past follows x

  pools : (d : ℕ) → pool_of here.endpoint d ≡ pool_by d done
  pools d = sym (ap (λ xs. slice_index_or xs d None) alike.pools) ∙ walked.keeps.pools x d

  next : next_number here.endpoint ≡ number_after given
  next = next_is name x past follows

  -- the stream of a number there
  held_at : (n : ℕ) → Holds (opening_of (name x n) done) (connected_seen there (name x n)) (tale (name x n) done)
  held_at n = ((keeps_seen (told name past) walked.last walked.keeps).pairs x (name x n)).own

  stream_is : (n : ℕ) → has_stream here.endpoint n ≡ true → stream_at there.endpoint (name x n) ≡ under (Some n) (stream_at here.endpoint n)
  stream_is n has = ap (λ o. unwrap_or o no_stream) (there_is (name x) (by_number x) (asked_for name past) here there done alike seen n has)

  over_is : (n : ℕ) → has_stream here.endpoint n ≡ true → ended (stream_at here.endpoint n) ≡ has_ended_by (stream_acts (name x n) done)
  over_is n has =
      let h = held_at n in
      let c : StreamState = stream_at there.endpoint (name x n) in
      sym (ap ended (stream_is n has)) ∙ sym (ended_lent (pool_of there.endpoint c.domain) c) ∙ ap ended (left_apart h.is_left) ∙ h.own.ended

  closed_so : (n : ℕ) → has_stream here.endpoint n ≡ true → rest_refusal (stream_at here.endpoint n) ≡ closing_refusal (story_of (name x n) done) (stream_acts (name x n) done)
  closed_so n has =
      let h = held_at n in
      let c : StreamState = stream_at there.endpoint (name x n) in
      sym (rest_under (Some n) (stream_at here.endpoint n)) ∙ sym (ap rest_refusal (stream_is n has)) ∙ sym (rest_lent (pool_of there.endpoint c.domain) c)
      ∙ rest_left (seen_at there.endpoint (name x n)) h.stream h.is_left
      ∙ closing_told (name x n) done (held h) h.own

  -- a number that the application picks
  picked : (n pd : ℕ) → number_refusal here.endpoint n pd ≡ number_refusal_in regions (was_opened (openings (name x n) done)) n pd
  picked n pd = go (nat_le stream_numbers n) (sym (alike.used n) ∙ seen.opened (name x n)) ∙ (λ i. cond (nat_le stream_numbers n) (Some BadNumber) (cond (was_opened (openings (name x n) done)) (Some NumberTaken) (cond (not (is_added (table i) pd)) (Some NoDomain) None)))
    where
      go : (high : Bool) → cond high (nat_lt n (length here.endpoint.streams)) (is_taken here.endpoint n) ≡ was_opened (openings (name x n) done)
          → cond high (Some BadNumber) (cond (is_taken here.endpoint n) (Some NumberTaken) (cond (not (is_added here.endpoint.table pd)) (Some NoDomain) None))
          ≡ cond high (Some BadNumber) (cond (was_opened (openings (name x n) done)) (Some NumberTaken) (cond (not (is_added here.endpoint.table pd)) (Some NoDomain) None))
      go true is = refl
      go false is = ap (λ used. cond used (Some NumberTaken) (cond (not (is_added here.endpoint.table pd)) (Some NoDomain) None)) is

  limited_so : (n base : ℕ) (rights : Rights) (octets : Octets) (answer : Result Stag LimitRefusal) → ServerEndRule here (RegisterFor n base rights octets answer) → ServerAnswered (name x) regions given done (RegisterFor n base rights octets answer)
  limited_so n base rights octets answer rule =
      let e : EndpointState = here.endpoint in
      let c : StreamState = stream_at e n in
      let d : ℕ = domain_of (name x n) done in
      let over : Bool = has_ended_by (stream_acts (name x n) done) in
      let domain : c.domain ≡ d = domain_told (name x) (by_number x) (asked_for name past) here there done alike seen n rule.0 in
      let refusal : limit_refusal e n base (length octets) ≡ option_map Refused (limit_refusal_by regions over d base (length octets)) =
      limit_is (stream_of e n) c (register_refusal e.table c.domain base (length octets)) (stream_some (stream_of e n) rule.0)
      ∙ (λ i. option_map Refused (cond (over_is n rule.0 i) (Some limits.Ended) (option_map limits.Refused (register_refusal (table i) (domain i) base (length octets))))) in
      let all = answered_so answer (limit_refusal_by regions over d base (length octets)) (next_stag regions d) (rule.1 ∙ (λ i. answer_or (refusal i) (next_stag (table i) (domain i)))) in
      (all.0, new_there regions d base (length octets) over answer all.1)

  answered : (act : ServerAct Octets) → ServerEndRule here act → ServerAnswered (name x) regions given done act
  answered (Plain (acts.Domain pd refused)) rule = subst (λ t. refused ≡ domain_refusal t pd) table rule
  answered (Plain (acts.Register pd base rights octets answer)) rule =
      subst (λ t. (result_err answer ≡ register_refusal t pd base (length octets)) × IfOk answer (IsNew t pd)) table (registers here.endpoint.table pd base (length octets) (new_region base octets rights) answer rule)
  answered (Plain (acts.Deregister stag answer)) rule = subst (λ t. answer ≡ deregister_answer t stag) table rule
  answered (Plain (acts.Invalidate stag refused)) rule = subst (λ t. refused ≡ invalidate_refusal t stag) table rule
  answered (Plain (acts.Store stag to octets refused)) rule = subst (λ t. refused ≡ store_refusal t stag to (length octets)) table rule
  answered (Plain (acts.Share pd refused)) rule = rule ∙ (λ i. share_fault (is_added (table i) pd) (pools pd i))
  answered (Plain (acts.Pool pd len refused)) rule = rule ∙ (λ i. pool_fault (is_added (table i) pd) (pools pd i))
  answered (Plain (acts.Unpool pd answer)) rule = rule ∙ (λ i. answer_or (take_fault (is_added (table i) pd) (pools pd i)) (taken (pools pd i)))
  answered (Plain (acts.Open n pd role options private refused)) rule = rule ∙ (λ i. option_or (picked n pd i) (request_refusal role (config_for options private)))
  answered (Plain (acts.OpenShared n pd role options private refused)) rule =
      rule ∙ (λ i. option_or (option_map open_shared_refusal_of (picked n pd i)) (option_or (unshared (pools pd i)) (option_map open_shared_refusal_of (request_refusal role (config_for options private)))))
  answered (Plain (acts.Stream n act)) rule = tt
  answered (Stream n act) rule = tt
  answered (Read n from number octets delivery) rule = tt
  answered (ReadRaw n number octets delivery) rule = tt
  answered (OpenNext pd role options private answer) rule =
      rule ∙ (λ i. answer_or (next_refusal_by (is_added (table i) pd) (next i) role (config_for options private)) (unwrap_or (next i) 0))
  answered (OpenSharedNext pd role options private answer) rule =
      rule ∙ (λ i. answer_or (next_shared_refusal_by (is_added (table i) pd) (pools pd i) (next i) role (config_for options private)) (unwrap_or (next i) 0))
  answered (RegisterFor n base rights octets answer) rule = limited_so n base rights octets answer rule
  answered (Close n refused) rule = rule.1 ∙ closed_so n rule.0

pub shows_server_memory : OfConnections ServerShowsMemory
shows_server_memory name trace apart follows past e future is =
    let split = server_follows-split name past (e ∷ future) start (subst (ServerFollows name start) is follows) in
    answered name apart past split.0 e.end e.act split.1.0.0
