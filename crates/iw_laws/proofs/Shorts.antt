-- How many octets the entries of a trace can have emitted, and how many frames can have had their turn.
use Rattle.std.proofs.Common.{◌≡◌, ℕ, ◌+◌, ◌*◌, ◌^◌, ◌<◌, ◌≤◌, List, [], ◌∷◌, ◌++◌, length, Some, None, Bool, true, false, cond, eqb, refl, sym, ap, ◌∙◌, subst, arith, append_assoc, length-append}
use Rattle.iw_stream.specs.Stream.{ended}
use Rattle.iw_laws.proofs.Paid.{last_one}
use Rattle.std.proofs.lemmas.List.{append-nil, length_push}
use Rattle.iw_events.specs.declared.call.End.{End}
use Rattle.iw_events.specs.declared.act.Act.{Act}
use Rattle.iw_events.specs.declared.act.Act.TheVariants.{Domain, Register, Deregister, Invalidate, Store, Open, Share, Pool, Unpool, OpenShared, Stream}
use Rattle.iw_events.specs.declared.act.StreamAct.{StreamAct}
use Rattle.iw_events.specs.declared.act.StreamAct.TheVariants.{Recv, Post, Emit, First, Deliver, Raw, Mulpdu, Accept, Reject, Work, Break}
use Rattle.iw_events.specs.declared.act.Entry.{Entry}
use Rattle.iw_laws.specs.Words.{Octets, other, acts, stream_acts, stream_acts_by, opening_of, sent, sent_by}
use Rattle.std.specs.Prelude.{unwrap_or, Option, Ok, Err}
use Rattle.iw_endpoint.specs.Endpoint.{stream_of, stream_at, unopened}
use Rattle.iw_events.specs.declared.server.ServerAct.{ServerAct}
use Rattle.iw_events.specs.declared.server.ServerAct.TheVariants as servers
use Rattle.iw_events.specs.declared.server.ServerEntry.{ServerEntry}
use Rattle.iw_laws.specs.Servers.{Connections, AreApart, told, told_by, plain_told, at_end, server_state_after, ServerFollows}
use Rattle.iw_laws.specs.ServerLaws.{by_number}
use Rattle.iw_laws.proofs.Runs.{Run, Moment, PlainRule, plain_rule}
use Rattle.iw_laws.proofs.Renumbered.{under}
use Rattle.iw_laws.proofs.Serving.{Alike, asked_for, served, server_run}
use Rattle.iw_laws.specs.Rules.{EndState, State, end_of, start, StreamRule, stream_for, after_entry, state_after, Follows}
use Rattle.iw_laws.proofs.States.{connected_at}
use Rattle.iw_laws.proofs.Pools.{Holds, held, tale}
use Rattle.iw_laws.specs.Bounds.{IsShort, IsShortEnd, IsShortState}
use Rattle.iw_laws.proofs.Tales.{stream_acts-push, acts_mine, acts_other}
use Rattle.iw_stream.specs.Stream.{StreamState}
use Rattle.iw_laws.proofs.Releases.{left_acts, left_apart, left_floor}
use Rattle.iw_laws.proofs.Whole.{Keeps, acts_next, sent_next, emits_few, one_more, unsaid, keeps_after, both, acts_none}

-- the octets emitted on a stream
abbrev sent_on : ℕ → List (Act Octets) → ℕ
sent_on n done = length (sent (stream_acts n done))

-- an act of another stream, or of none, adds nothing
silent : (n : ℕ) (done : List (Act Octets)) (act : Act Octets) → stream_acts_by n act ≡ [] → stream_acts n (done ++ act ∷ []) ≡ stream_acts n done
silent n done act none = stream_acts-push n done act ∙ ap (λ z. stream_acts n done ++ z) none ∙ append-nil (stream_acts n done)

-- an act adds no more than a frame
same_sent : (n : ℕ) (done : List (Act Octets)) (act : Act Octets) → stream_acts_by n act ≡ [] → sent_on n (done ++ act ∷ []) ≤ sent_on n done + 2 ^ 17
same_sent n done act none = let same : sent_on n (done ++ act ∷ []) ≡ sent_on n done = ap (λ z. length (sent z)) (silent n done act none) in omega arith

few_sent : (s : EndState) (done : List (Act Octets)) (m : ℕ) (act : StreamAct Octets) → Holds (opening_of m done) (connected_at s m) (tale m done) → StreamRule s.endpoint.table (stream_for s.endpoint m act) act → length (sent_by act) ≤ 2 ^ 17
few_sent s done m (Emit shown) h rule =
    let there = left_acts s.endpoint.table (connected_at s m).stream h.stream (tale m done) (Emit shown) h.is_left h.own.track rule in
    emits_few (opening_of m done) s.endpoint.table (held h) (tale m done) (Emit shown) there.0 h.own
few_sent s done m (Recv len refused) h rule = omega arith
few_sent s done m (Post message refused) h rule = omega arith
few_sent s done m (Deliver from number octets delivery) h rule = omega arith
few_sent s done m (Raw number octets delivery) h rule = omega arith
few_sent s done m (First number refused) h rule = omega arith
few_sent s done m (Mulpdu size refused) h rule = omega arith
few_sent s done m (Accept private answer) h rule = omega arith
few_sent s done m (Reject private refused) h rule = omega arith
few_sent s done m (Work step) h rule = omega arith
few_sent s done m Break h rule = omega arith

one_frame : (s peer : EndState) (done : List (Act Octets)) (act : Act Octets) (n : ℕ) → ((n : ℕ) → Holds (opening_of n done) (connected_at s n) (tale n done)) → PlainRule s peer act
    → sent_on n (done ++ act ∷ []) ≤ sent_on n done + 2 ^ 17
one_frame s peer done (Domain pd None) n p rule = same_sent n done (Domain pd None) refl
one_frame s peer done (Domain pd (Some refusal)) n p rule = same_sent n done (Domain pd (Some refusal)) refl
one_frame s peer done (Register pd base rights octets answer) n p rule = same_sent n done (Register pd base rights octets answer) refl
one_frame s peer done (Deregister stag answer) n p rule = same_sent n done (Deregister stag answer) refl
one_frame s peer done (Invalidate stag refused) n p rule = same_sent n done (Invalidate stag refused) refl
one_frame s peer done (Store stag to octets refused) n p rule = same_sent n done (Store stag to octets refused) refl
one_frame s peer done (Open m pd role options private refused) n p rule = same_sent n done (Open m pd role options private refused) refl
one_frame s peer done (Share pd refused) n p rule = same_sent n done (Share pd refused) refl
one_frame s peer done (Pool pd len refused) n p rule = same_sent n done (Pool pd len refused) refl
one_frame s peer done (Unpool pd answer) n p rule = same_sent n done (Unpool pd answer) refl
one_frame s peer done (OpenShared m pd role options private refused) n p rule = same_sent n done (OpenShared m pd role options private refused) refl
one_frame s peer done (Stream m act) n p rule = go (eqb m n) refl
  where
    go : (b : Bool) → eqb m n ≡ b → sent_on n (done ++ Stream m act ∷ []) ≤ sent_on n done + 2 ^ 17
    go false e = same_sent n done (Stream m act) (acts_none m n act e)
    go true e =
        let few : length (sent_by act) ≤ 2 ^ 17 = few_sent s done m act (p m) rule.0.1 in
        let more : sent_on n (done ++ Stream m act ∷ []) ≡ length (sent (stream_acts n done) ++ sent_by act) = ap (λ xs. length (sent xs)) (acts_next n done m act e) ∙ ap length (sent_next (stream_acts n done) act) in
        omega (arith, more, length-append (sent (stream_acts n done)) (sent_by act), few)

-- ---- how many acts there are

-- an act adds no more than one to those of a stream
acts_more : (n : ℕ) (done : List (Act Octets)) (act : Act Octets) → length (stream_acts n (done ++ act ∷ [])) ≤ length (stream_acts n done) + 1
acts_more n done act = omega (arith, ap length (stream_acts-push n done act), length-append (stream_acts n done) (stream_acts_by n act), one act)
  where
    own : (m : ℕ) (x : StreamAct Octets) (b : Bool) → length (cond b (x ∷ []) []) ≤ 1
    own m x true = omega arith
    own m x false = omega arith

    one : (act : Act Octets) → length (stream_acts_by n act) ≤ 1
    one (Domain pd refused) = omega arith
    one (Register pd base rights octets answer) = omega arith
    one (Deregister stag answer) = omega arith
    one (Invalidate stag refused) = omega arith
    one (Store stag to octets refused) = omega arith
    one (Open m pd role options private refused) = omega arith
    one (Share pd refused) = omega arith
    one (Pool pd len refused) = omega arith
    one (Unpool pd answer) = omega arith
    one (OpenShared m pd role options private refused) = omega arith
    one (Stream m x) = own m x (eqb m n)

abbrev FewActs : List (Entry Octets) → Type 0
FewActs trace = (x : End) (n : ℕ) → length (stream_acts n (acts x trace)) ≤ length trace

acts_step : (trace : List (Entry Octets)) (e : Entry Octets) → FewActs trace → FewActs (trace ++ e ∷ [])
acts_step trace e few =
    let x : End = e.end in
    let y : End = other e.end in
    let longer : length (trace ++ e ∷ []) ≡ length trace + 1 = length_push trace e in
    let F : End → Type 0 = λ v. (n : ℕ) → length (stream_acts n (acts v (trace ++ e ∷ []))) ≤ length (trace ++ e ∷ []) in
    let mine : F x = λ n. omega (arith, longer, acts_more n (acts x trace) e.act, few x n, ap (λ done. length (stream_acts n done)) (acts_mine trace e)) in
    let others : F y = λ n. omega (arith, longer, few y n, ap (λ done. length (stream_acts n done)) (acts_other trace e)) in
    both F x mine others

acts_onward : (past rest : List (Entry Octets)) → FewActs past → FewActs (past ++ rest)
acts_onward past [] few = subst FewActs (sym (append-nil past)) few
acts_onward past (e ∷ rest) few = subst FewActs (append_assoc past (e ∷ []) rest) (acts_onward (past ++ e ∷ []) rest (acts_step past e few))

acts_first : FewActs []
unfolding acts stream_acts
acts_first x n = omega arith

acts_all : (trace : List (Entry Octets)) → FewActs trace
acts_all trace = acts_onward [] trace acts_first

last_few : (over : Bool) → last_one over ≤ 1
last_few true = omega arith
last_few false = omega arith

-- at most a frame an entry
abbrev Few : List (Entry Octets) → Type 0
Few trace = (x : End) (n : ℕ) → sent_on n (acts x trace) ≤ 2 ^ 17 * length trace

few_step : (trace : List (Entry Octets)) (w : State) (e : Entry Octets) → Keeps trace w → Few trace → PlainRule (end_of e.end w) (end_of (other e.end) w) e.act → Few (trace ++ e ∷ [])
few_step trace w e k few rule =
    let x : End = e.end in
    let y : End = other e.end in
    let longer : length (trace ++ e ∷ []) ≡ length trace + 1 = length_push trace e in
    let F : End → Type 0 = λ v. (n : ℕ) → sent_on n (acts v (trace ++ e ∷ [])) ≤ 2 ^ 17 * length (trace ++ e ∷ []) in
    let mine : F x = λ n.
    let one : sent_on n (acts x trace ++ e.act ∷ []) ≤ sent_on n (acts x trace) + 2 ^ 17 =
    one_frame (end_of x w) (end_of y w) (acts x trace) e.act n (λ j. (k.pairs x j).own) rule in
    let before : sent_on n (acts x trace) ≤ 2 ^ 17 * length trace = few x n in
    let same : sent_on n (acts x (trace ++ e ∷ [])) ≡ sent_on n (acts x trace ++ e.act ∷ []) = ap (sent_on n) (acts_mine trace e) in
    omega (arith, longer, one, before, same) in
    let others : F y = λ n.
    let before : sent_on n (acts y trace) ≤ 2 ^ 17 * length trace = few y n in
    let same : sent_on n (acts y (trace ++ e ∷ [])) ≡ sent_on n (acts y trace) = ap (sent_on n) (acts_other trace e) in
    omega (arith, longer, before, same) in
    both F x mine others

few_onward : (past rest : List (Entry Octets)) (w : State) → Keeps past w → Few past → Follows w rest → Few (past ++ rest)
few_onward past [] w k few follows = subst Few (sym (append-nil past)) few
few_onward past (e ∷ rest) w k few follows =
    subst Few (append_assoc past (e ∷ []) rest)
    (few_onward (past ++ e ∷ []) rest (after_entry w e) (one_more past w e k follows.0) (few_step past w e k few (plain_rule (end_of e.end w) (end_of (other e.end) w) e.act follows.0)) follows.1)

few_none : Few []
unfolding acts stream_acts sent
few_none x n = omega arith

few_all : (trace : List (Entry Octets)) → Follows start trace → Few trace
few_all trace follows = few_onward [] trace start unsaid few_none follows

-- the same of what is a run
few_from : (past rest : List (Entry Octets)) → ((front future : List (Entry Octets)) → rest ≡ front ++ future → Moment (past ++ front) future) → Few past → Few (past ++ rest)
few_from past [] at few = subst Few (sym (append-nil past)) few
few_from past (e ∷ rest) at few =
    let m : Moment (past ++ []) (e ∷ rest) = at [] (e ∷ rest) refl in
    let k : Keeps past m.state = subst (λ p. Keeps p m.state) (append-nil past) m.keeps in
    subst Few (append_assoc past (e ∷ []) rest)
    (few_from (past ++ e ∷ []) rest (λ front future is. subst (λ p. Moment p future) (sym (append_assoc past (e ∷ []) front)) (at (e ∷ front) future (ap (λ z. e ∷ z) is))) (few_step past m.state e k few m.next))

few_run : (trace : List (Entry Octets)) → Run trace → Few trace
few_run trace run = few_from [] trace run few_none

-- so, in a trace that is not too long, no stream has come far
short_end : (trace : List (Entry Octets)) (w : State) → Keeps trace w → Few trace → length trace < 2 ^ 45 → (x : End) → IsShortEnd (end_of x w)
short_end trace w k few bound x = record {
  laid = (k.ends x).wires;
  streams = λ n.
      let p = k.pairs x n in
      let mine : sent_on n (acts x trace) ≤ 2 ^ 17 * length trace = few x n in
      record {
        sent = omega (arith, p.own.own.sent, ap (λ (z : StreamState). z.sent) (left_apart p.own.is_left), mine, bound);
        point = omega (arith, p.own.own.paid.paid, left_floor p.own.is_left, acts_all trace x n, last_few (ended p.own.stream), bound);
      };
  wires = λ n.
      let p = k.pairs x n in
      let mine : sent_on n (acts x trace) ≤ 2 ^ 17 * length trace = few x n in
      omega (arith, ap length p.own.own.wire, mine, bound);
}

pub short_state : (trace : List (Entry Octets)) → Follows start trace → length trace < 2 ^ 45 → IsShortState (state_after start trace)
short_state trace follows bound x = short_end trace (state_after start trace) (keeps_after trace follows) (few_all trace follows) bound x

-- ---- of servers

-- what a server's run tells has no more entries than the run
told_few : (name : Connections) (trace : List (ServerEntry Octets)) → length (told name trace) ≤ length trace
told_few name [] = omega arith
told_few name (e ∷ es) = omega (arith, told_few name es, length-append (at_end e.end (told_by (name e.end) e.act)) (told name es), one (name e.end) e.end e.act)
  where
    plain : (name : ℕ → ℕ) (x : End) (act : Act Octets) → length (at_end x (plain_told name act)) ≤ 1
    plain name x (Open n pd role options private None) = omega arith
    plain name x (Open n pd role options private (Some refusal)) = omega arith
    plain name x (OpenShared n pd role options private None) = omega arith
    plain name x (OpenShared n pd role options private (Some refusal)) = omega arith
    plain name x (Stream n act) = omega arith
    plain name x (Domain pd refused) = omega arith
    plain name x (Register pd base rights octets answer) = omega arith
    plain name x (Deregister stag answer) = omega arith
    plain name x (Invalidate stag refused) = omega arith
    plain name x (Store stag to octets refused) = omega arith
    plain name x (Share pd refused) = omega arith
    plain name x (Pool pd len refused) = omega arith
    plain name x (Unpool pd answer) = omega arith

    one : (name : ℕ → ℕ) (x : End) (act : ServerAct Octets) → length (at_end x (told_by name act)) ≤ 1
    one name x (servers.Plain act) = plain name x act
    one name x (servers.Stream n act) = omega arith
    one name x (servers.OpenNext pd role options private (Ok n)) = omega arith
    one name x (servers.OpenNext pd role options private (Err refusal)) = omega arith
    one name x (servers.OpenSharedNext pd role options private (Ok n)) = omega arith
    one name x (servers.OpenSharedNext pd role options private (Err refusal)) = omega arith
    one name x (servers.Read n from number octets delivery) = omega arith
    one name x (servers.ReadRaw n number octets delivery) = omega arith
    one name x (servers.RegisterFor n base rights octets answer) = omega arith
    one name x (servers.Close n refused) = omega arith

short_alike : (name number : ℕ → ℕ) (size : ℕ) (s g : EndState) → Alike name number size s g → IsShortEnd g → IsShortEnd s
short_alike name number size s g k short = record {
  laid = k.laid;
  streams = λ n. go n (stream_of s.endpoint n) refl;
  wires = λ n. subst (λ z. length z ≤ 2 ^ 62) (k.wires n) (short.wires (name n));
}
  where
    go : (n : ℕ) (o : Option StreamState) → stream_of s.endpoint n ≡ o → IsShort (stream_at s.endpoint n)
    go n None is = subst (λ o. IsShort (unwrap_or o unopened)) (sym is) (record { sent = omega arith; point = omega arith })
    go n (Some c) is =
        subst (λ o. IsShort (unwrap_or o unopened)) (sym is)
        (let h : IsShort (under (Some (number n)) c) = subst (λ o. IsShort (unwrap_or o unopened)) (k.streams n c is) (short.streams (name n)) in record { sent = h.sent; point = h.point })

-- in a run that is not too long, no stream of a server has come far
pub short_server : (name : Connections) (trace : List (ServerEntry Octets)) → AreApart name → ServerFollows name start trace → length trace < 2 ^ 45 → IsShortState (server_state_after start trace)
short_server name trace apart follows bound x =
    let walked = served name trace apart follows in
    let few : Few (told name trace) = few_run (told name trace) (server_run name trace apart follows) in
    short_alike (name x) (by_number x) (asked_for name trace) (end_of x (server_state_after start trace)) (end_of x walked.last) (walked.alike x) (short_end (told name trace) walked.last walked.keeps few (omega (arith, bound, told_few name trace)) x)
