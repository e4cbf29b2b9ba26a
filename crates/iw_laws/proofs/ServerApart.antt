-- What follows a server's rules is answered, domain by domain, as where no other domain is.
use Rattle.std.proofs.Common.{◌≡◌, ℕ, List, [], ◌∷◌, ◌++◌, length, cond, Option, Some, None, Result, Ok, Err, Bool, true, false, refl, sym, ap, subst, ◌∙◌, inl, inr}
use Rattle.std.specs.Prelude.{is_some, is_none, not, unwrap_or}
use Rattle.std.specs.Option.{option_map, option_or}
use Rattle.std.proofs.lemmas.Bool.{false≢true}
use Rattle.std.proofs.lemmas.Bool.Decides.{eqb_tells}
use Rattle.std.proofs.lemmas.Option.{none-some, same_Some}
use Rattle.iw_octets.specs.declared.stag.Stag.{Stag}
use Rattle.iw_memory.specs.Part.{own_register_refusal, own_next_stag}
use Rattle.iw_memory.specs.Table.{Table, part_of as table_part, is_added, register_refusal, next_stag}
use Rattle.iw_startup.specs.declared.config.Config.{Config}
use Rattle.iw_stream.specs.declared.answer.Role.{Role}
use Rattle.iw_stream.specs.Reading.{number_past}
use Rattle.iw_stream.specs.Starting.{exceeds_request}
use Rattle.iw_stream.specs.Stream.{StreamState, ended}
use Rattle.iw_endpoint.specs.declared.refusal.CallRefusal.{CallRefusal}
use Rattle.iw_endpoint.specs.declared.refusal.CallRefusal.TheVariants.{Refused}
use Rattle.iw_endpoint.specs.declared.refusal.LimitRefusal.{LimitRefusal}
use Rattle.iw_endpoint.specs.declared.refusal.LimitRefusal.TheVariants as limits
use Rattle.iw_endpoint.specs.declared.refusal.OpenNextRefusal.{OpenNextRefusal}
use Rattle.iw_endpoint.specs.declared.refusal.OpenNextRefusal.TheVariants as next_refusals
use Rattle.iw_endpoint.specs.Endpoint as endpoint
use Rattle.iw_endpoint.specs.Endpoint.{EndpointState, fresh, stream_of, unopened, pool_of, refusal_at, rest_refusal, next_number, next_refusal, next_shared_refusal}
use Rattle.iw_endpoint.specs.Isolation.{HasDomains, IsOwn, Concerns, OwnStep, part_of, alone, answer_or, unless, after, concerned}
use Rattle.iw_endpoint.proofs.Parts.{fresh_domains, seen_alone, stream_alike, alone_own}
use Rattle.iw_endpoint.proofs.Steps.{concerns_one}
use Rattle.iw_endpoint.proofs.Alone.{AreOwned, IsOpenedOwn, concerns, stay_owned, nothing_owned}
use Rattle.iw_events.specs.declared.call.End.{End}
use Rattle.iw_events.specs.declared.call.End.TheVariants.{A, B}
use Rattle.iw_events.specs.declared.act.Act.TheVariants as acts
use Rattle.iw_events.specs.declared.act.StreamAct.TheVariants.{Deliver, Raw}
use Rattle.iw_events.specs.declared.server.ServerAct.{ServerAct}
use Rattle.iw_events.specs.declared.server.ServerAct.TheVariants.{Plain, Stream, OpenNext, OpenSharedNext, Read, ReadRaw, RegisterFor, Close}
use Rattle.iw_events.specs.declared.server.ServerEntry.{ServerEntry}
use Rattle.iw_laws.specs.Words.{Octets, config_for}
use Rattle.iw_laws.specs.Rules.{State, end_of, with_end, start}
use Rattle.iw_laws.specs.Servers.{Connections, AnsweredWith, ServerEndRule, call_with, server_call, server_after, after_server_entry, ServerFollows}
use Rattle.iw_laws.specs.ServerLaws.{server_acts, server_acts_if, OfServerRuns}
use Rattle.iw_laws.specs.ServerIsolated.{next_shown, next_of, call_of, Asks, ServerAsksOwn, only_server_acts, AreOwnServer, ServerIsolated}
use Rattle.iw_laws.proofs.States.{granted, denied}
use Rattle.iw_laws.proofs.Apart.{own_rule}
use Rattle.iw_laws.proofs.Closing.{server_follows-split}

-- ---- the next number, as it is shown

-- the refusals, by whether the domain is there, whether it lacks a pool that is wanted, and whether the private data is too long
abbrev refusal_in : Bool → Bool → Bool → Option ℕ → Option OpenNextRefusal
refusal_in added none long next =
    cond (not added) (Some next_refusals.NoDomain) (cond none (Some next_refusals.NotShared) (cond (not added) (Some next_refusals.NoDomain) (cond (is_none next) (Some next_refusals.NumbersSpent) (cond long (Some next_refusals.PrivateTooLong) None))))

-- a refusal is the same by what it shows
refusal_shown : (added none long : Bool) (next : Option ℕ) (r : OpenNextRefusal) → Some r ≡ refusal_in added none long next → Some r ≡ refusal_in added none long (next_shown (Err r))
refusal_shown false none long next r h = h
refusal_shown true true long next r h = h
refusal_shown true false long None r h =
    let same : r ≡ next_refusals.NumbersSpent = same_Some _ _ h in
    subst (λ z. Some z ≡ refusal_in true false long (next_shown (Err z))) (sym same) refl
refusal_shown true false true (Some n) r h =
    let same : r ≡ next_refusals.PrivateTooLong = same_Some _ _ h in
    subst (λ z. Some z ≡ refusal_in true false true (next_shown (Err z))) (sym same) refl
refusal_shown true false false (Some n) r h = absurd (none-some _ (sym h))

-- a number that was given was the next
number_shown : (added none long : Bool) (next : Option ℕ) (n : ℕ) → None ≡ refusal_in added none long next → n ≡ unwrap_or next 0 → next ≡ Some n
number_shown false none long next n h is = absurd (none-some _ h)
number_shown true true long next n h is = absurd (none-some _ h)
number_shown true false long None n h is = absurd (none-some _ h)
number_shown true false long (Some m) n h is = ap Some (sym is)

plain_is : (e : EndpointState) (next : Option ℕ) (pd : ℕ) (role : Role) (config : Config) → next_refusal e next pd role config ≡ refusal_in (is_added e.table pd) false (exceeds_request role config) next
plain_is e next pd role config = go (is_added e.table pd)
  where
    go : (added : Bool) → cond (not added) (Some next_refusals.NoDomain) (cond (is_none next) (Some next_refusals.NumbersSpent) (cond (exceeds_request role config) (Some next_refusals.PrivateTooLong) None)) ≡ refusal_in added false (exceeds_request role config) next
    go true = refl
    go false = refl

-- an answer by the next number is one by the number that it shows, and leaves the same
record IsShown (e : EndpointState) (act : ServerAct Octets) : Type 0 where
  answered : AnsweredWith (next_of act) e act
  left : after e (server_call e act) ≡ after e (call_of act)

shown_by : (e : EndpointState) (act : ServerAct Octets) → next_number e ≡ next_of act → AnsweredWith (next_number e) e act → IsShown e act
shown_by e act same rule = record { answered = subst (λ o. AnsweredWith o e act) same rule; left = ap (λ o. after e (call_with o act)) same }

shown : (e : EndpointState) (act : ServerAct Octets) → AnsweredWith (next_number e) e act → IsShown e act
shown e (Plain act) rule = record { answered = rule; left = refl }
shown e (Stream n act) rule = record { answered = rule; left = refl }
shown e (Read n from number octets delivery) rule = record { answered = rule; left = refl }
shown e (ReadRaw n number octets delivery) rule = record { answered = rule; left = refl }
shown e (RegisterFor n base rights octets answer) rule = record { answered = rule; left = refl }
shown e (Close n refused) rule = record { answered = rule; left = refl }
shown e (OpenNext pd role options private (Ok n)) rule =
    let config : Config = config_for options private in
    let h = granted (next_refusal e (next_number e) pd role config) n (unwrap_or (next_number e) 0) rule in
    shown_by e (OpenNext pd role options private (Ok n)) (number_shown (is_added e.table pd) false (exceeds_request role config) (next_number e) n (h.0 ∙ plain_is e (next_number e) pd role config) h.1) rule
shown e (OpenSharedNext pd role options private (Ok n)) rule =
    let config : Config = config_for options private in
    let h = granted (next_shared_refusal e (next_number e) pd role config) n (unwrap_or (next_number e) 0) rule in
    shown_by e (OpenSharedNext pd role options private (Ok n)) (number_shown (is_added e.table pd) (is_none (pool_of e pd)) (exceeds_request role config) (next_number e) n h.0 h.1) rule
shown e (OpenNext pd role options private (Err r)) rule =
    let config : Config = config_for options private in
    let next : Option ℕ = next_shown (Err r) in
    let was : Some r ≡ next_refusal e (next_number e) pd role config = denied (next_refusal e (next_number e) pd role config) r (unwrap_or (next_number e) 0) rule in
    let is : Some r ≡ next_refusal e next pd role config =
    refusal_shown (is_added e.table pd) false (exceeds_request role config) (next_number e) r (was ∙ plain_is e (next_number e) pd role config) ∙ sym (plain_is e next pd role config) in
    record {
      answered = ap (λ q. answer_or q (unwrap_or next 0)) is;
      left = ap (λ q. unless q e (endpoint.opened_next e (next_number e) pd role config)) (sym was) ∙ ap (λ q. unless q e (endpoint.opened_next e next pd role config)) is;
    }
shown e (OpenSharedNext pd role options private (Err r)) rule =
    let config : Config = config_for options private in
    let next : Option ℕ = next_shown (Err r) in
    let was : Some r ≡ next_shared_refusal e (next_number e) pd role config = denied (next_shared_refusal e (next_number e) pd role config) r (unwrap_or (next_number e) 0) rule in
    let is : Some r ≡ next_shared_refusal e next pd role config = refusal_shown (is_added e.table pd) (is_none (pool_of e pd)) (exceeds_request role config) (next_number e) r was in
    record {
      answered = ap (λ q. answer_or q (unwrap_or next 0)) is;
      left = ap (λ q. unless q e (endpoint.opened_shared_next e (next_number e) pd role config)) (sym was) ∙ ap (λ q. unless q e (endpoint.opened_shared_next e next pd role config)) is;
    }

-- ---- an act is answered as where no other domain is

-- what a region for a stream is answered
abbrev limit_answer : Table → Option StreamState → ℕ → ℕ → Result Stag (CallRefusal LimitRefusal)
limit_answer t o base len =
    answer_or (option_or (refusal_at o (λ s. cond (ended s) (Some limits.Ended) None)) (option_map (λ r. Refused (limits.Refused r)) (register_refusal t (unwrap_or o unopened).domain base len)))
    (next_stag t (unwrap_or o unopened).domain)

limit_alike : (d : ℕ) (t u : Table) (o : Option StreamState) (base len : ℕ) → IsOwn d o → is_some o ≡ true → table_part t d ≡ table_part u d → limit_answer t o base len ≡ limit_answer u o base len
limit_alike d t u None base len own there h = absurd (false≢true there)
limit_alike d t u (Some s) base len own there h =
    let part : table_part t s.domain ≡ table_part u s.domain = subst (λ x. table_part t x ≡ table_part u x) (sym own) h in
    λ i. answer_or (option_or (refusal_at (Some s) (λ s. cond (ended s) (Some limits.Ended) None)) (option_map (λ r. Refused (limits.Refused r)) (own_register_refusal (part i) base len))) (own_next_stag (part i) s.domain)

own_server_rule : (d : ℕ) (e : EndpointState) (act : ServerAct Octets) → HasDomains e → Concerns d e (call_of act) → AnsweredWith (next_of act) e act → AnsweredWith (next_of act) (alone d (part_of d e)) act
own_server_rule d e (Plain act) all here rule = own_rule d e act all here rule
own_server_rule d e (Stream n act) all own rule = own_rule d e (acts.Stream n act) all own rule
own_server_rule d e (Read n from number octets delivery) all own rule =
    let same = stream_alike d e (alone d (part_of d e)) n own.0 (alone_own d e n) (seen_alone d e all) in
    (rule.0 ∙ ap (λ o. number_past (unwrap_or o unopened)) same, own_rule d e (acts.Stream n (Deliver from number octets delivery)) all own rule.1)
own_server_rule d e (ReadRaw n number octets delivery) all own rule =
    let same = stream_alike d e (alone d (part_of d e)) n own.0 (alone_own d e n) (seen_alone d e all) in
    (rule.0 ∙ ap (λ o. number_past (unwrap_or o unopened)) same, own_rule d e (acts.Stream n (Raw number octets delivery)) all own rule.1)
own_server_rule d e (OpenNext pd role options private answer) all here rule =
    let h = seen_alone pd e all in
    let next : Option ℕ = next_shown answer in
    let long : Bool = exceeds_request role (config_for options private) in
    subst (λ x. AnsweredWith next (alone x (part_of x e)) (OpenNext pd role options private answer)) here.0
    (rule ∙ (λ i. answer_or (cond (not (is_some (h.table.part i))) (Some next_refusals.NoDomain) (cond (is_none next) (Some next_refusals.NumbersSpent) (cond long (Some next_refusals.PrivateTooLong) None))) (unwrap_or next 0)))
own_server_rule d e (OpenSharedNext pd role options private answer) all here rule =
    let h = seen_alone pd e all in
    let next : Option ℕ = next_shown answer in
    let long : Bool = exceeds_request role (config_for options private) in
    subst (λ x. AnsweredWith next (alone x (part_of x e)) (OpenSharedNext pd role options private answer)) here.0
    (rule ∙ (λ i. answer_or (refusal_in (is_some (h.table.part i)) (is_none (h.pool i)) long next) (unwrap_or next 0)))
own_server_rule d e (RegisterFor n base rights octets answer) all own rule =
    let h = seen_alone d e all in
    let f : EndpointState = alone d (part_of d e) in
    let same = stream_alike d e f n own.0 (alone_own d e n) h in
    (ap is_some (sym same) ∙ rule.0, rule.1 ∙ limit_alike d e.table f.table (stream_of e n) base (length octets) own.0 rule.0 h.table.part ∙ ap (λ o. limit_answer f.table o base (length octets)) same)
own_server_rule d e (Close n refused) all own rule =
    let same = stream_alike d e (alone d (part_of d e)) n own.0 (alone_own d e n) (seen_alone d e all) in
    (ap is_some (sym same) ∙ rule.0, rule.1 ∙ ap (λ o. rest_refusal (unwrap_or o unopened)) same)

-- each number under which it opens a stream is its domain's
opened_own : (whose : ℕ → ℕ) (e : EndpointState) (act : ServerAct Octets) → ((n d : ℕ) → Asks n d act → whose n ≡ d) → AnsweredWith (next_of act) e act → IsOpenedOwn whose e (call_of act)
opened_own whose e (Plain act) asks rule = λ gives n d h. asks n d h
opened_own whose e (Stream m act) asks rule = λ gives n d h. absurd h
opened_own whose e (Read m from number octets delivery) asks rule = λ gives n d h. absurd h
opened_own whose e (ReadRaw m number octets delivery) asks rule = λ gives n d h. absurd h
opened_own whose e (RegisterFor m base rights octets answer) asks rule = λ gives n d h. absurd h
opened_own whose e (Close m refused) asks rule = λ gives n d h. absurd h
opened_own whose e (OpenNext pd role options private (Ok m)) asks rule = λ gives n d h. asks n d (same_Some m n h.0, h.1)
opened_own whose e (OpenSharedNext pd role options private (Ok m)) asks rule = λ gives n d h. asks n d (same_Some m n h.0, h.1)
opened_own whose e (OpenNext pd role options private (Err r)) asks rule = λ gives n d h.
    absurd (false≢true (sym gives ∙ ap is_some (sym (denied (next_refusal e (next_shown (Err r)) pd role (config_for options private)) r (unwrap_or (next_shown (Err r)) 0) rule))))
opened_own whose e (OpenSharedNext pd role options private (Err r)) asks rule = λ gives n d h.
    absurd (false≢true (sym gives ∙ ap is_some (sym (denied (next_shared_refusal e (next_shown (Err r)) pd role (config_for options private)) r (unwrap_or (next_shown (Err r)) 0) rule))))

-- ---- one act after another

abbrev AreAnswered : EndpointState → List (ServerAct Octets) → Type 0
AreAnswered e [] = Unit {0}
AreAnswered e (act ∷ done) = AnsweredWith (next_of act) e act × AreAnswered (after e (call_of act)) done

own_from : (whose : ℕ → ℕ) (done : List (ServerAct Octets)) (e : EndpointState) → HasDomains e → AreOwned whose e → ServerAsksOwn whose done → AreAnswered e done → (d : ℕ) → AreOwnServer d (part_of d e) (only_server_acts whose d done)
own_from whose [] e all owned asks answered d = tt
own_from whose (act ∷ done) e all owned asks answered d =
    let call = call_of act in
    let c = concerned whose call in
    let opened = opened_own whose e act asks.0 answered.0 in
    let mine = concerns whose e call owned opened in
    let step = concerns_one c e call all mine in
    let those = only_server_acts whose d done in
    let rest = own_from whose done (after e call) step.domains (stay_owned whose e call c owned opened step) asks.1 answered.1 d in
    elim (eqb_tells c d) [
      | inl same ↦
          let own = subst (λ x. OwnStep x e call) same.1 step in
          subst (λ b. AreOwnServer d (part_of d e) (cond b (act ∷ those) those)) (sym same.0)
          (own_server_rule d e act all (subst (λ x. Concerns x e call) same.1 mine) answered.0, subst (λ p. AreOwnServer d p those) own.own rest)
      | inr other ↦
          subst (λ b. AreOwnServer d (part_of d e) (cond b (act ∷ those) those)) (sym other.0)
          (subst (λ p. AreOwnServer d p those) (step.others d (λ e. other.1 (sym e))) rest)
    ]

at_end : (x y : End) (w : State) (act : ServerAct Octets) (rest : List (ServerAct Octets)) → ServerEndRule (end_of y w) act → AreAnswered (end_of x (with_end y (server_after (end_of y w) act) w)).endpoint rest → AreAnswered (end_of x w).endpoint (server_acts_if x y act ++ rest)
at_end A A w act rest rule h = let s = shown w.a.endpoint act rule in (s.answered, subst (λ e. AreAnswered e rest) s.left h)
at_end B B w act rest rule h = let s = shown w.b.endpoint act rule in (s.answered, subst (λ e. AreAnswered e rest) s.left h)
at_end A B w act rest rule h = h
at_end B A w act rest rule h = h

answered_from : (name : Connections) (x : End) (trace : List (ServerEntry Octets)) (w : State) → ServerFollows name w trace → AreAnswered (end_of x w).endpoint (server_acts x trace)
answered_from name x [] w follows = tt
answered_from name x (e ∷ trace) w follows = at_end x e.end w e.act (server_acts x trace) follows.0.0 (answered_from name x trace (after_server_entry w e) follows.1)

from_start : (x : End) (done : List (ServerAct Octets)) → AreAnswered (end_of x start).endpoint done → AreAnswered fresh done
from_start A done h = h
from_start B done h = h

-- at each end each domain is answered what it would be with no other domain there
pub server_isolated : OfServerRuns ServerIsolated
server_isolated name trace follows past future is x whose asks d =
    let before : ServerFollows name start past = (server_follows-split name past future start (subst (ServerFollows name start) is follows)).0 in
    own_from whose (server_acts x past) fresh fresh_domains (nothing_owned whose) asks (from_start x (server_acts x past) (answered_from name x past start before)) d
