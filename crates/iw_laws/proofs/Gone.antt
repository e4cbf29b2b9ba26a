-- A number that was used is not opened again, and nothing is done on one whose stream was closed.
use Rattle.std.proofs.Common.{◌≡◌, ◌⊎◌, ℕ, ◌+◌, ◌<◌, ◌≤◌, List, [], ◌∷◌, ◌++◌, length, Option, Some, None, Result, Ok, Err, Bool, true, false, cond, eqb, refl, sym, ap, ◌∙◌, subst, arith, append_assoc, eqb-true, inl, inr}
use Rattle.std.specs.List.{flat_map}
use Rattle.std.specs.Prelude.{slice_set, slice_index_or, is_some, ◌||◌, nat_le, nat_lt, unwrap_or}
use Rattle.std.proofs.lemmas.Bool.{eq-eqb, false≢true, true≢false}
use Rattle.std.proofs.lemmas.Bool.Decides.{nat_tests}
use Rattle.std.proofs.lemmas.List.{get_or-set_other, length-set, length-replicate, length-append}
use Rattle.iw_stream.specs.Stream.{StreamState}
use Rattle.iw_startup.specs.declared.config.Config.{Config}
use Rattle.iw_endpoint.specs.declared.refusal.NotAtRest.{NotAtRest}
use Rattle.iw_endpoint.specs.declared.refusal.LimitRefusal.{LimitRefusal}
use Rattle.iw_endpoint.specs.declared.refusal.CallRefusal.TheVariants.{Refused}
use Rattle.iw_octets.specs.declared.stag.Stag.{Stag}
use Rattle.iw_memory.specs.Table.{next_stag}
use Rattle.iw_endpoint.specs.Numbers.{put_at}
use Rattle.iw_endpoint.specs.Endpoint as endpoint
use Rattle.iw_endpoint.specs.Endpoint.{EndpointState, stream_of, stream_at, has_stream, is_taken, closed_at, number_refusal, next_number, next_refusal, next_shared_refusal, limit_refusal, rest_refusal, no_streams, no_closed}
use Rattle.iw_endpoint.specs.Isolation.{after, unless}
use Rattle.iw_events.specs.declared.call.End.{End}
use Rattle.iw_events.specs.declared.call.End.TheVariants.{A, B}
use Rattle.iw_events.specs.declared.act.Act.{Act}
use Rattle.iw_events.specs.declared.act.Act.TheVariants as acts
use Rattle.iw_events.specs.declared.act.Act.TheVariants.{Domain, Register, Deregister, Invalidate, Store, Open, Share, Pool, Unpool, OpenShared}
use Rattle.iw_events.specs.declared.act.StreamAct.{StreamAct}
use Rattle.iw_events.specs.declared.act.StreamAct.TheVariants.{Deliver, Raw}
use Rattle.iw_events.specs.declared.act.Entry.{Entry}
use Rattle.iw_events.specs.declared.server.ServerAct.{ServerAct}
use Rattle.iw_events.specs.declared.server.ServerAct.TheVariants.{Plain, Stream, OpenNext, OpenSharedNext, Read, ReadRaw, RegisterFor, Close}
use Rattle.iw_events.specs.declared.server.ServerEntry.{ServerEntry}
use Rattle.iw_laws.specs.Words.{Octets, Opening, other, openings, openings_by, stream_acts, stream_acts_by, config_for}
use Rattle.iw_laws.specs.Words as words
use Rattle.iw_laws.specs.Rules.{EndState, State, end_of, with_end, start, EndRule, call_made}
use Rattle.iw_laws.specs.Servers.{Connections, told, told_by, plain_told, at_end, was_used, PlainPeerRule, ServerRule, server_after, after_server_entry, ServerFollows}
use Rattle.iw_laws.specs.ServerLaws.{by_number, server_told, server_acts, server_acts_if, closings_by, closings, limitings_by, limitings, GivesOnce, ClosedIsOver}
use Rattle.iw_laws.proofs.States.{opening_by, connected, left_at, streams_after, streams_left, closed_left, granted, denied, asked}
use Rattle.iw_laws.proofs.Ends.{there, numbered, numbered_open, numbered_shared, opening_none}
use Rattle.iw_laws.proofs.Serving.{set_there, put_last, length-put_last, next_given, next_shared_given}

-- ---- what an act leaves of one number

pub record IsSound (e : EndpointState) : Type 0 where
  pub many : 64 ≤ length e.streams
  pub ended : length e.closed ≡ 64

-- it was used before, and is used since; where no stream has it, none has it since
pub record Stays (e e' : EndpointState) (n : ℕ) : Type 0 where
  pub used : was_used e n ≡ true → was_used e' n ≡ true
  pub gone : was_used e n ≡ true → has_stream e n ≡ false → has_stream e' n ≡ false

-- a number that was used is used as long as it has a stream or was closed, and there are as many places
uses : (e e' : EndpointState) (n : ℕ) → length e.streams ≤ length e'.streams → (nat_le 64 n ≡ false → is_taken e n ≡ true → is_taken e' n ≡ true) → was_used e n ≡ true → was_used e' n ≡ true
uses e e' n more taken h = go (nat_le 64 n) refl h
  where
    go : (b : Bool) → nat_le 64 n ≡ b → cond b (nat_lt n (length e.streams)) (is_taken e n) ≡ true → cond b (nat_lt n (length e'.streams)) (is_taken e' n) ≡ true
    go true is h' = grind (arith, nat_tests, h', more)
    go false is h' = taken is h'

either_holds : (b c b' c' : Bool) → (b ≡ true → b' ≡ true) → (c ≡ true → c' ≡ true) → (b || c) ≡ true → (b' || c') ≡ true
either_holds true c true c' f g h = refl
either_holds true c false c' f g h = absurd (false≢true (f refl))
either_holds false true true c' f g h = refl
either_holds false true false c' f g h = g refl
either_holds false false b' c' f g h = absurd (false≢true h)

-- the same streams
same_stays : (e e' : EndpointState) (n : ℕ) → e'.streams ≡ e.streams → e'.closed ≡ e.closed → Stays e e' n
same_stays e e' n streams closed =
    let has : has_stream e' n ≡ has_stream e n = ap (λ xs. is_some (slice_index_or xs n None)) streams in
    record {
      used = uses e e' n (omega (arith, ap length streams)) (λ small h. either_holds (has_stream e n) (is_some (closed_at e n)) (has_stream e' n) (is_some (closed_at e' n)) (λ t. has ∙ t) (λ t. ap (λ xs. is_some (slice_index_or xs n None)) closed ∙ t) h);
      gone = λ used none. has ∙ none;
    }

-- the stream of another number, or of one that has a stream
set_stays : (e e' : EndpointState) (m n : ℕ) (c : StreamState) → m < length e.streams → e'.streams ≡ slice_set e.streams m (Some c) → e'.closed ≡ e.closed → (was_used e n ≡ true → has_stream e n ≡ false → eqb m n ≡ false) → Stays e e' n
set_stays e e' m n c within streams closed apart =
    let is : stream_of e' n ≡ cond (eqb m n) (Some c) (stream_of e n) = ap (λ xs. slice_index_or xs n None) streams ∙ set_there e.streams m n (Some c) None within in
    record {
      used = uses e e' n (omega (arith, ap length streams, length-set e.streams m (Some c))) (λ small h. either_holds (has_stream e n) (is_some (closed_at e n)) (has_stream e' n) (is_some (closed_at e' n))
          (λ t. ap is_some is ∙ has (eqb m n) t) (λ t. ap (λ xs. is_some (slice_index_or xs n None)) closed ∙ t) h);
      gone = λ used none. ap is_some is ∙ ap (λ b. is_some (cond b (Some c) (stream_of e n))) (apart used none) ∙ none;
    }
  where
    has : (b : Bool) → has_stream e n ≡ true → is_some (cond b (Some c) (stream_of e n)) ≡ true
    has true t = refl
    has false t = t

-- a number that was used is not the next
not_next : (e : EndpointState) (n : ℕ) → 64 ≤ length e.streams → was_used e n ≡ true → eqb (length e.streams) n ≡ false
not_next e n many used = go (eqb (length e.streams) n) refl
  where
    size : (b : Bool) → nat_le 64 n ≡ b → cond b (nat_lt n (length e.streams)) (is_taken e n) ≡ true → length e.streams ≡ n → ⊥
    size true is h same = grind (arith, nat_tests, h, same)
    size false is h same = grind (arith, nat_tests, is, same, many)

    go : (b : Bool) → eqb (length e.streams) n ≡ b → b ≡ false
    go true same = absurd (size (nat_le 64 n) refl used (eqb-true (length e.streams) n same))
    go false same = refl

-- a number is given
given_stays : (e e' : EndpointState) (n : ℕ) (c : StreamState) → 64 ≤ length e.streams → e'.streams ≡ put_at e.streams (length e.streams) c → e'.closed ≡ e.closed → Stays e e' n
given_stays e e' n c many streams closed =
    let is : stream_of e' n ≡ cond (eqb (length e.streams) n) (Some c) (stream_of e n) = ap (λ xs. slice_index_or xs n None) streams ∙ put_last e.streams c n in
    record {
      used = uses e e' n (omega (arith, ap length streams, length-put_last e.streams c)) (λ small h. either_holds (has_stream e n) (is_some (closed_at e n)) (has_stream e' n) (is_some (closed_at e' n))
          (λ t. ap is_some is ∙ has (eqb (length e.streams) n) t) (λ t. ap (λ xs. is_some (slice_index_or xs n None)) closed ∙ t) h);
      gone = λ used none. ap is_some is ∙ ap (λ b. is_some (cond b (Some c) (stream_of e n))) (not_next e n many used) ∙ none;
    }
  where
    has : (b : Bool) → has_stream e n ≡ true → is_some (cond b (Some c) (stream_of e n)) ≡ true
    has true t = refl
    has false t = t

-- a stream is closed
close_stays : (e : EndpointState) (m n : ℕ) → length e.closed ≡ 64 → m < length e.streams → Stays e (endpoint.after_close e m) n
close_stays e m n ended within =
    let e' : EndpointState = endpoint.after_close e m in
    let is : stream_of e' n ≡ cond (eqb m n) None (stream_of e n) = set_there e.streams m n None None within in
    record {
      used = uses e e' n (omega (arith, length-set e.streams m None)) (λ small h. taken small (eqb m n) refl is h);
      gone = λ used none. ap is_some is ∙ fewer (eqb m n) none;
    }
  where
    fewer : (b : Bool) → has_stream e n ≡ false → is_some (cond b None (stream_of e n)) ≡ false
    fewer true none = refl
    fewer false none = none

    shut : (b c : Bool) → c ≡ true → (b || c) ≡ true
    shut true c h = refl
    shut false c h = h

    d : Option ℕ
    d = Some (stream_at e m).domain

    taken : nat_le 64 n ≡ false → (b : Bool) → eqb m n ≡ b → stream_of (endpoint.after_close e m) n ≡ cond (eqb m n) None (stream_of e n) → is_taken e n ≡ true → is_taken (endpoint.after_close e m) n ≡ true
    taken small true same is h =
        let few : m < 64 = grind (arith, nat_tests, small, eqb-true m n same) in
        shut (has_stream (endpoint.after_close e m) n) (is_some (closed_at (endpoint.after_close e m) n))
        (ap is_some (set_there e.closed m n d None (omega (arith, few, ended)) ∙ ap (λ b. cond b d (closed_at e n)) same))
    taken small false apart is h =
        either_holds (has_stream e n) (is_some (closed_at e n)) (has_stream (endpoint.after_close e m) n) (is_some (closed_at (endpoint.after_close e m) n)) (λ t. ap is_some (is ∙ ap (λ b. cond b None (stream_of e n)) apart) ∙ t)
        (λ t. ap is_some (get_or-set_other e.closed m n d None (λ same. false≢true (sym apart ∙ eq-eqb m n (sym same)))) ∙ t) h

-- ---- one act

-- in words of schedules, each stream under its own number
abbrev own_told : ServerAct Octets → List (Act Octets)
own_told act = told_by (λ n. n) act

-- what an act of an end does to one number
pub record OneAct (s : EndState) (act : ServerAct Octets) (n : ℕ) : Type 0 where
  pub stays : Stays s.endpoint (server_after s act).endpoint n
  pub opens : was_used s.endpoint n ≡ true → openings n (own_told act) ≡ []
  pub once : (openings n (own_told act) ≡ []) ⊎ ((length (openings n (own_told act)) ≡ 1) × (was_used (server_after s act).endpoint n ≡ true))
  pub acts : has_stream s.endpoint n ≡ false → stream_acts n (own_told act) ≡ []
  pub closes : has_stream s.endpoint n ≡ false → closings_by n act ≡ []
  pub limits : has_stream s.endpoint n ≡ false → limitings_by n act ≡ []
  pub sound : IsSound (server_after s act).endpoint

no_openings : (n : ℕ) (act : Act Octets) → openings_by n act ≡ [] → openings n (act ∷ []) ≡ []
unfolding openings
no_openings n act none = ap (λ os. os ++ []) none

no_acts : (n : ℕ) (act : Act Octets) → stream_acts_by n act ≡ [] → stream_acts n (act ∷ []) ≡ []
unfolding stream_acts
no_acts n act none = ap (λ os. os ++ []) none

none_opened : (n : ℕ) → openings n [] ≡ []
unfolding openings
none_opened n = refl

none_done : (n : ℕ) → stream_acts n [] ≡ []
unfolding stream_acts
none_done n = refl

-- a stream that is there has another number than one that is not
apart_from : (e : EndpointState) (m n : ℕ) → has_stream e m ≡ true → has_stream e n ≡ false → eqb m n ≡ false
apart_from e m n there none = go (eqb m n) refl
  where
    go : (b : Bool) → eqb m n ≡ b → b ≡ false
    go true same = absurd (false≢true (sym none ∙ subst (λ j. has_stream e j ≡ true) (eqb-true m n same) there))
    go false same = refl

sound_same : (e e' : EndpointState) → IsSound e → e'.streams ≡ e.streams → e'.closed ≡ e.closed → IsSound e'
sound_same e e' k streams closed = record { many = omega (arith, k.many, ap length streams); ended = ap length closed ∙ k.ended }

sound_set : (e e' : EndpointState) (m : ℕ) (c : StreamState) → IsSound e → e'.streams ≡ slice_set e.streams m (Some c) → e'.closed ≡ e.closed → IsSound e'
sound_set e e' m c k streams closed = record { many = omega (arith, k.many, ap length streams, length-set e.streams m (Some c)); ended = ap length closed ∙ k.ended }

-- an act that opens nothing, and is of no stream
quiet : (s : EndState) (act : Act Octets) (n : ℕ) → IsSound s.endpoint → EndRule s.endpoint act → streams_after s.endpoint act ≡ s.endpoint.streams → plain_told (λ j. j) act ≡ act ∷ [] → openings_by n act ≡ [] → stream_acts_by n act ≡ [] → OneAct s (Plain act) n
quiet s act n k rule same tells none silent =
    let streams : (after s.endpoint (call_made act)).streams ≡ s.endpoint.streams = streams_left s.endpoint act rule ∙ same in
    record {
      stays = same_stays s.endpoint (after s.endpoint (call_made act)) n streams (closed_left s.endpoint act);
      opens = λ used. ap (openings n) tells ∙ no_openings n act none;
      once = inl (ap (openings n) tells ∙ no_openings n act none);
      acts = λ gone. ap (stream_acts n) tells ∙ no_acts n act silent;
      closes = λ gone. refl;
      limits = λ gone. refl;
      sound = sound_same s.endpoint (after s.endpoint (call_made act)) k streams (closed_left s.endpoint act);
    }

-- an act of a stream, by whatever call
of_stream : (s : EndState) (m : ℕ) (act : StreamAct Octets) (n : ℕ) → IsSound s.endpoint → EndRule s.endpoint (acts.Stream m act) → OneAct s (Stream m act) n
of_stream s m act n k rule =
    let e' : EndpointState = after s.endpoint (call_made (acts.Stream m act)) in
    let streams : e'.streams ≡ slice_set s.endpoint.streams m (Some (left_at s.endpoint m act)) = streams_left s.endpoint (acts.Stream m act) rule in
    record {
      stays = set_stays s.endpoint e' m n (left_at s.endpoint m act) (there s.endpoint.streams m rule.0) streams (closed_left s.endpoint (acts.Stream m act)) (λ used none. apart_from s.endpoint m n rule.0 none);
      opens = λ used. no_openings n (acts.Stream m act) refl;
      once = inl (no_openings n (acts.Stream m act) refl);
      acts = λ gone. no_acts n (acts.Stream m act) (ap (λ b. cond b (act ∷ []) []) (apart_from s.endpoint m n rule.0 gone));
      closes = λ gone. refl;
      limits = λ gone. refl;
      sound = sound_set s.endpoint e' m (left_at s.endpoint m act) k streams (closed_left s.endpoint (acts.Stream m act));
    }

-- one more opening, of the number m
opened_or : (m n : ℕ) (o : Opening) (act : Act Octets) → openings_by n act ≡ cond (eqb m n) (o ∷ []) [] → eqb m n ≡ false → openings n (act ∷ []) ≡ []
opened_or m n o act is apart = no_openings n act (is ∙ opening_none (eqb m n) o apart)

opened_one : (m n : ℕ) (o : Opening) (act : Act Octets) → openings_by n act ≡ cond (eqb m n) (o ∷ []) [] → eqb m n ≡ true → length (openings n (act ∷ [])) ≡ 1
unfolding openings
opened_one m n o act is same = ap (λ os. length (os ++ [])) (is ∙ ap (λ b. cond b (o ∷ []) []) same)

-- the application picks the number
picked : (s : EndState) (act : Act Octets) (m n : ℕ) (o : Opening) → IsSound s.endpoint → EndRule s.endpoint act → (has_stream s.endpoint m ≡ false) × (m < 64) × (is_taken s.endpoint m ≡ false) → streams_after s.endpoint act ≡ slice_set s.endpoint.streams m (Some (connected o (Some m)).stream)
    → plain_told (λ j. j) act ≡ act ∷ [] → openings_by n act ≡ cond (eqb m n) (o ∷ []) [] → stream_acts_by n act ≡ [] → OneAct s (Plain act) n
picked s act m n o k rule new left tells one silent =
    let e' : EndpointState = after s.endpoint (call_made act) in
    let streams : e'.streams ≡ slice_set s.endpoint.streams m (Some (connected o (Some m)).stream) = streams_left s.endpoint act rule ∙ left in
    let within : m < length s.endpoint.streams = omega (arith, new.1, k.many) in
    record {
      stays = set_stays s.endpoint e' m n (connected o (Some m)).stream within streams (closed_left s.endpoint act) (λ used none. unlike used);
      opens = λ used. ap (openings n) tells ∙ opened_or m n o act one (unlike used);
      once = go (eqb m n) refl streams within;
      acts = λ gone. ap (stream_acts n) tells ∙ no_acts n act silent;
      closes = λ gone. refl;
      limits = λ gone. refl;
      sound = sound_set s.endpoint e' m (connected o (Some m)).stream k streams (closed_left s.endpoint act);
    }
  where
    small : nat_le 64 m ≡ false
    small = let few : m < 64 = new.1 in grind (arith, nat_tests, few)

    unlike : was_used s.endpoint n ≡ true → eqb m n ≡ false
    unlike used = same (eqb m n) refl
      where
        same : (b : Bool) → eqb m n ≡ b → b ≡ false
        same true e =
            absurd (true≢false (sym (subst (λ j. was_used s.endpoint j ≡ true) (sym (eqb-true m n e)) used) ∙ ap (λ b. cond b (nat_lt m (length s.endpoint.streams)) (is_taken s.endpoint m)) small ∙ new.2))
        same false e = refl

    go : (b : Bool) → eqb m n ≡ b → (after s.endpoint (call_made act)).streams ≡ slice_set s.endpoint.streams m (Some (connected o (Some m)).stream) → m < length s.endpoint.streams
        → (openings n (own_told (Plain act)) ≡ []) ⊎ ((length (openings n (own_told (Plain act))) ≡ 1) × (was_used (after s.endpoint (call_made act)) n ≡ true))
    go false e streams within = inl (ap (openings n) tells ∙ opened_or m n o act one e)
    go true e streams within =
        let is : stream_of (after s.endpoint (call_made act)) m ≡ Some (connected o (Some m)).stream =
        ap (λ xs. slice_index_or xs m None) streams ∙ set_there s.endpoint.streams m m (Some (connected o (Some m)).stream) None within ∙ ap (λ b. cond b (Some (connected o (Some m)).stream) (stream_of s.endpoint m)) (eq-eqb m m refl) in
        let used : was_used (after s.endpoint (call_made act)) m ≡ true =
        ap (λ b. cond b (nat_lt m (length (after s.endpoint (call_made act)).streams)) (is_taken (after s.endpoint (call_made act)) m)) small ∙ ap (λ o. is_some o || is_some (closed_at (after s.endpoint (call_made act)) m)) is in
        inr (ap (λ done. length (openings n done)) tells ∙ opened_one m n o act one e, subst (λ j. was_used (after s.endpoint (call_made act)) j ≡ true) (eqb-true m n e) used)

-- the number is given
module _ (s : EndState) (act : ServerAct Octets) (told_act : Act Octets) (m n : ℕ) (o : Opening) (k : IsSound s.endpoint) (is : m ≡ length s.endpoint.streams) (tells : own_told act ≡ told_act ∷ []) (one : openings_by n told_act ≡ cond (eqb m n) (o ∷ []) [])
    (silent : stream_acts_by n told_act ≡ []) (left : (server_after s act).endpoint ≡ endpoint.with_next s.endpoint m (connected o (Some m)).stream) (unclosed : closings_by n act ≡ []) (unlimited : limitings_by n act ≡ []) where
  given_streams : (server_after s act).endpoint.streams ≡ put_at s.endpoint.streams (length s.endpoint.streams) (connected o (Some m)).stream
  given_streams = ap (λ (e : EndpointState). e.streams) left ∙ ap (λ j. put_at s.endpoint.streams j (connected o (Some m)).stream) is

  given_closed : (server_after s act).endpoint.closed ≡ s.endpoint.closed
  given_closed = ap (λ (e : EndpointState). e.closed) left

  given_size : length (server_after s act).endpoint.streams ≡ length s.endpoint.streams + 1
  given_size = ap length given_streams ∙ length-put_last s.endpoint.streams (connected o (Some m)).stream

  unlike : was_used s.endpoint n ≡ true → eqb m n ≡ false
  unlike used = ap (λ j. eqb j n) is ∙ not_next s.endpoint n k.many used

  given_once : (b : Bool) → eqb m n ≡ b → (openings n (own_told act) ≡ []) ⊎ ((length (openings n (own_told act)) ≡ 1) × (was_used (server_after s act).endpoint n ≡ true))
  given_once false e = inl (ap (openings n) tells ∙ opened_or m n o told_act one e)
  given_once true e = inr (ap (λ done. length (openings n done)) tells ∙ opened_one m n o told_act one e, used (nat_le 64 n) refl)
    where
      used : (b : Bool) → nat_le 64 n ≡ b → was_used (server_after s act).endpoint n ≡ true
      used true h =
          let less : n < length (server_after s act).endpoint.streams = omega (arith, given_size, is, eqb-true m n e) in
          ap (λ b. cond b (nat_lt n (length (server_after s act).endpoint.streams)) (is_taken (server_after s act).endpoint n)) h ∙ grind (arith, nat_tests, less)
      used false h = absurd (let no : ⊥ = grind (arith, nat_tests, h, is, eqb-true m n e, k.many) in no)

  given_act : OneAct s act n
  given_act = record {
    stays = given_stays s.endpoint (server_after s act).endpoint n (connected o (Some m)).stream k.many given_streams given_closed;
    opens = λ used. ap (openings n) tells ∙ opened_or m n o told_act one (unlike used);
    once = given_once (eqb m n) refl;
    acts = λ gone. ap (stream_acts n) tells ∙ no_acts n told_act silent;
    closes = λ gone. unclosed;
    limits = λ gone. unlimited;
    sound = record { many = omega (arith, k.many, given_size); ended = ap length given_closed ∙ k.ended };
  }

-- nothing is told, and nothing changes
unchanged_act : (s : EndState) (act : ServerAct Octets) (n : ℕ) → IsSound s.endpoint → own_told act ≡ [] → (server_after s act).endpoint ≡ s.endpoint → (has_stream s.endpoint n ≡ false → closings_by n act ≡ []) → (has_stream s.endpoint n ≡ false → limitings_by n act ≡ []) → OneAct s act n
unchanged_act s act n k tells left unclosed unlimited = record {
  stays = same_stays s.endpoint (server_after s act).endpoint n (ap (λ (e : EndpointState). e.streams) left) (ap (λ (e : EndpointState). e.closed) left);
  opens = λ used. ap (openings n) tells ∙ none_opened n;
  once = inl (ap (openings n) tells ∙ none_opened n);
  acts = λ gone. ap (stream_acts n) tells ∙ none_done n;
  closes = unclosed;
  limits = unlimited;
  sound = sound_same s.endpoint (server_after s act).endpoint k (ap (λ (e : EndpointState). e.streams) left) (ap (λ (e : EndpointState). e.closed) left);
}

unclosed_other : (s : EndState) (m n : ℕ) (refused : Option NotAtRest) → has_stream s.endpoint m ≡ true → has_stream s.endpoint n ≡ false → closings_by n (Close m refused) ≡ []
unclosed_other s m n refused there gone = ap (λ b. cond b (refused ∷ []) []) (apart_from s.endpoint m n there gone)

unlimited_other : (s : EndState) (m n : ℕ) (answer : Result Stag LimitRefusal) → has_stream s.endpoint m ≡ true → has_stream s.endpoint n ≡ false → cond (eqb m n) (answer ∷ []) [] ≡ []
unlimited_other s m n answer there gone = ap (λ b. cond b (answer ∷ []) []) (apart_from s.endpoint m n there gone)

-- an opening that is refused
refused_act : (s : EndState) (act : Act Octets) (n : ℕ) → IsSound s.endpoint → EndRule s.endpoint act → streams_after s.endpoint act ≡ s.endpoint.streams → plain_told (λ j. j) act ≡ [] → OneAct s (Plain act) n
refused_act s act n k rule same tells =
    let streams : (after s.endpoint (call_made act)).streams ≡ s.endpoint.streams = streams_left s.endpoint act rule ∙ same in
    record {
      stays = same_stays s.endpoint (after s.endpoint (call_made act)) n streams (closed_left s.endpoint act);
      opens = λ used. ap (openings n) tells ∙ none_opened n;
      once = inl (ap (openings n) tells ∙ none_opened n);
      acts = λ gone. ap (stream_acts n) tells ∙ none_done n;
      closes = λ gone. refl;
      limits = λ gone. refl;
      sound = sound_same s.endpoint (after s.endpoint (call_made act)) k streams (closed_left s.endpoint act);
    }

plain_act : (own other : ℕ → ℕ) (s p : EndState) (act : Act Octets) (n : ℕ) → IsSound s.endpoint → EndRule s.endpoint act × PlainPeerRule own other p act → OneAct s (Plain act) n
plain_act own other s p (Domain pd refused) n k rule = quiet s (Domain pd refused) n k rule.0 refl refl refl refl
plain_act own other s p (Register pd base rights octets answer) n k rule = quiet s (Register pd base rights octets answer) n k rule.0 refl refl refl refl
plain_act own other s p (Deregister stag answer) n k rule = quiet s (Deregister stag answer) n k rule.0 refl refl refl refl
plain_act own other s p (Invalidate stag refused) n k rule = quiet s (Invalidate stag refused) n k rule.0 refl refl refl refl
plain_act own other s p (Store stag to octets refused) n k rule = quiet s (Store stag to octets refused) n k rule.0 refl refl refl refl
plain_act own other s p (Share pd refused) n k rule = quiet s (Share pd refused) n k rule.0 refl refl refl refl
plain_act own other s p (Pool pd len refused) n k rule = quiet s (Pool pd len refused) n k rule.0 refl refl refl refl
plain_act own other s p (Unpool pd answer) n k rule = quiet s (Unpool pd answer) n k rule.0 refl refl refl refl
plain_act own other s p (Open m pd role options private (Some refusal)) n k rule = refused_act s (Open m pd role options private (Some refusal)) n k rule.0 refl refl
plain_act own other s p (OpenShared m pd role options private (Some refusal)) n k rule = refused_act s (OpenShared m pd role options private (Some refusal)) n k rule.0 refl refl
plain_act own other s p (Open m pd role options private None) n k rule =
    picked s (Open m pd role options private None) m n (opening_by false pd role options private) k rule.0 (numbered s.endpoint m pd (numbered_open s.endpoint m pd role (config_for options private) rule.0)) refl refl refl refl
plain_act own other s p (OpenShared m pd role options private None) n k rule =
    picked s (OpenShared m pd role options private None) m n (opening_by true pd role options private) k rule.0 (numbered s.endpoint m pd (numbered_shared s.endpoint m pd role (config_for options private) rule.0)) refl refl refl refl
plain_act own other s p (acts.Stream m act) n k rule = let x = of_stream s m act n k rule.0 in record { stays = x.stays; opens = x.opens; once = x.once; acts = x.acts; closes = x.closes; limits = x.limits; sound = x.sound }

-- each act of an end does so to each number
one_act : (own other : ℕ → ℕ) (s p : EndState) (act : ServerAct Octets) (n : ℕ) → IsSound s.endpoint → ServerRule own other s p act → OneAct s act n
one_act own other s p (Plain act) n k rule = plain_act own other s p act n k rule
one_act own other s p (Stream m act) n k rule = of_stream s m act n k rule.0
one_act own other s p (Read m from number octets delivery) n k rule =
    let x = of_stream s m (Deliver from number octets delivery) n k rule.0.1 in record { stays = x.stays; opens = x.opens; once = x.once; acts = x.acts; closes = x.closes; limits = x.limits; sound = x.sound }
one_act own other s p (ReadRaw m number octets delivery) n k rule =
    let x = of_stream s m (Raw number octets delivery) n k rule.0.1 in record { stays = x.stays; opens = x.opens; once = x.once; acts = x.acts; closes = x.closes; limits = x.limits; sound = x.sound }
one_act own other s p (OpenNext pd role options private (Ok m)) n k rule =
    let e : EndpointState = s.endpoint in
    let config : Config = config_for options private in
    let h = granted (next_refusal e (next_number e) pd role config) m (unwrap_or (next_number e) 0) rule.0 in
    given_act s (OpenNext pd role options private (Ok m)) (Open m pd role options private None) m n (opening_by false pd role options private) k (h.1 ∙ (next_given e pd role config h.0).number) refl refl refl
    (ap (λ r. unless r e (endpoint.opened_next e (next_number e) pd role config)) (sym h.0) ∙ ap (λ j. endpoint.with_next e j (endpoint.new_stream j pd role config)) (sym h.1)) refl refl
one_act own other s p (OpenNext pd role options private (Err r)) n k rule =
    let e : EndpointState = s.endpoint in
    let config : Config = config_for options private in
    unchanged_act s (OpenNext pd role options private (Err r)) n k refl
    (ap (λ z. unless z e (endpoint.opened_next e (next_number e) pd role config)) (sym (denied (next_refusal e (next_number e) pd role config) r (unwrap_or (next_number e) 0) rule.0))) (λ gone. refl) (λ gone. refl)
one_act own other s p (OpenSharedNext pd role options private (Ok m)) n k rule =
    let e : EndpointState = s.endpoint in
    let config : Config = config_for options private in
    let h = granted (next_shared_refusal e (next_number e) pd role config) m (unwrap_or (next_number e) 0) rule.0 in
    given_act s (OpenSharedNext pd role options private (Ok m)) (OpenShared m pd role options private None) m n (opening_by true pd role options private) k (h.1 ∙ (next_shared_given e pd role config h.0).number) refl refl refl
    (ap (λ r. unless r e (endpoint.opened_shared_next e (next_number e) pd role config)) (sym h.0) ∙ ap (λ j. endpoint.with_next e j (endpoint.new_shared j pd role config)) (sym h.1)) refl refl
one_act own other s p (OpenSharedNext pd role options private (Err r)) n k rule =
    let e : EndpointState = s.endpoint in
    let config : Config = config_for options private in
    unchanged_act s (OpenSharedNext pd role options private (Err r)) n k refl
    (ap (λ z. unless z e (endpoint.opened_shared_next e (next_number e) pd role config)) (sym (denied (next_shared_refusal e (next_number e) pd role config) r (unwrap_or (next_number e) 0) rule.0))) (λ gone. refl) (λ gone. refl)
one_act own other s p (RegisterFor m base rights octets (Ok stag)) n k rule =
    let e : EndpointState = s.endpoint in
    let e' : EndpointState = endpoint.limited e m base octets rights in
    let h = granted (limit_refusal e m base (length octets)) stag (next_stag e.table (stream_at e m).domain) rule.0.1 in
    let left : (server_after s (RegisterFor m base rights octets (Ok stag))).endpoint ≡ e' = ap (λ r. unless r e e') (sym h.0) in
    record {
      stays = subst (λ z. Stays e z n) (sym left) (same_stays e e' n refl refl);
      opens = λ used. none_opened n;
      once = inl (none_opened n);
      acts = λ gone. none_done n;
      closes = λ gone. refl;
      limits = λ gone. unlimited_other s m n (Ok stag) rule.0.0 gone;
      sound = subst IsSound (sym left) (sound_same e e' k refl refl);
    }
one_act own other s p (RegisterFor m base rights octets (Err r)) n k rule =
    let e : EndpointState = s.endpoint in
    unchanged_act s (RegisterFor m base rights octets (Err r)) n k refl
    (ap (λ z. unless z e (endpoint.limited e m base octets rights)) (sym (denied (limit_refusal e m base (length octets)) (Refused r) (next_stag e.table (stream_at e m).domain) rule.0.1))) (λ gone. refl)
    (λ gone. unlimited_other s m n (Err r) rule.0.0 gone)
one_act own other s p (Close m None) n k rule =
    let e : EndpointState = s.endpoint in
    let left : (server_after s (Close m None)).endpoint ≡ endpoint.after_close e m = asked e (endpoint.after_close e m) m rest_refusal None rule.0.0 rule.0.1 in
    let within : m < length e.streams = there e.streams m rule.0.0 in
    record {
      stays = subst (λ z. Stays e z n) (sym left) (close_stays e m n k.ended within);
      opens = λ used. none_opened n;
      once = inl (none_opened n);
      acts = λ gone. none_done n;
      closes = λ gone. unclosed_other s m n None rule.0.0 gone;
      limits = λ gone. refl;
      sound = subst IsSound (sym left) (record { many = omega (arith, k.many, length-set e.streams m None); ended = length-set e.closed m (Some (stream_at e m).domain) ∙ k.ended });
    }
one_act own other s p (Close m (Some r)) n k rule =
    unchanged_act s (Close m (Some r)) n k refl (asked s.endpoint (endpoint.after_close s.endpoint m) m rest_refusal (Some r) rule.0.0 rule.0.1) (λ gone. unclosed_other s m n (Some r) rule.0.0 gone) (λ gone. refl)

-- ---- the acts of one end, one after another

-- each is answered as the rules say, whatever the other end is then
abbrev OwnFollows : EndState → List (ServerAct Octets) → Type 0
OwnFollows s [] = Unit {0}
OwnFollows s (act ∷ done) = ((own : ℕ → ℕ) × (other : ℕ → ℕ) × (p : EndState) × ServerRule own other s p act) × OwnFollows (server_after s act) done

own_next : (name : Connections) (x y : End) (w : State) (act : ServerAct Octets) (rest : List (ServerAct Octets)) → ServerRule (name y) (name (other y)) (end_of y w) (end_of (other y) w) act → OwnFollows (end_of x (with_end y (server_after (end_of y w) act) w)) rest → OwnFollows (end_of x w) (server_acts_if x y act ++ rest)
own_next name A A w act rest rule later = ((name A, name B, w.b, rule), later)
own_next name B B w act rest rule later = ((name B, name A, w.a, rule), later)
own_next name A B w act rest rule later = later
own_next name B A w act rest rule later = later

own_follows : (name : Connections) (x : End) (trace : List (ServerEntry Octets)) (w : State) → ServerFollows name w trace → OwnFollows (end_of x w) (server_acts x trace)
own_follows name x [] w follows = tt
own_follows name x (e ∷ es) w follows = own_next name x e.end w e.act (server_acts x es) follows.0 (own_follows name x es (after_server_entry w e) follows.1)

abbrev told_own : List (ServerAct Octets) → List (Act Octets)
told_own done = flat_map own_told done

flat_map-append : {X Y : Type 0} (f : X → List Y) (xs ys : List X) → flat_map f (xs ++ ys) ≡ flat_map f xs ++ flat_map f ys
flat_map-append f [] ys = refl
flat_map-append f (x ∷ xs) ys = ap (λ z. f x ++ z) (flat_map-append f xs ys) ∙ sym (append_assoc (f x) (flat_map f xs) (flat_map f ys))

-- what an end did is what its entries tell
told_end : (x y : End) (done : List (Act Octets)) (rest : List (Entry Octets)) → words.acts x (at_end y done ++ rest) ≡ flat_map (λ act. words.acts_if x y act) done ++ words.acts x rest
unfolding words.acts
told_end x y [] rest = refl
told_end x y (act ∷ done) rest = ap (λ z. words.acts_if x y act ++ z) (told_end x y done rest) ∙ sym (append_assoc (words.acts_if x y act) (flat_map (λ act. words.acts_if x y act) done) (words.acts x rest))

every : (f : Act Octets → List (Act Octets)) → ((act : Act Octets) → f act ≡ act ∷ []) → (done : List (Act Octets)) → flat_map f done ≡ done
every f is [] = refl
every f is (act ∷ done) = λ i. is act i ++ every f is done i

none : (f : Act Octets → List (Act Octets)) → ((act : Act Octets) → f act ≡ []) → (done : List (Act Octets)) → flat_map f done ≡ []
none f is [] = refl
none f is (act ∷ done) = λ i. is act i ++ none f is done i

own_acts : (x y : End) (act : ServerAct Octets) (rest : List (Act Octets)) (others : List (ServerAct Octets)) → rest ≡ told_own others → flat_map (λ act. words.acts_if x y act) (own_told act) ++ rest ≡ told_own (server_acts_if x y act ++ others)
own_acts A A act rest others is = λ i. every (words.acts_if A A) (λ act. refl) (own_told act) i ++ is i
own_acts B B act rest others is = λ i. every (words.acts_if B B) (λ act. refl) (own_told act) i ++ is i
own_acts A B act rest others is = λ i. none (words.acts_if A B) (λ act. refl) (own_told act) i ++ is i
own_acts B A act rest others is = λ i. none (words.acts_if B A) (λ act. refl) (own_told act) i ++ is i

no_entries : (x : End) → words.acts x [] ≡ []
unfolding words.acts
no_entries x = refl

acts_told : (x : End) (trace : List (ServerEntry Octets)) → server_told x trace ≡ told_own (server_acts x trace)
acts_told x [] = no_entries x
acts_told x (e ∷ es) = told_end x e.end (own_told e.act) (told by_number es) ∙ own_acts x e.end e.act (server_told x es) (server_acts x es) (acts_told x es)

-- ---- over one end

openings-more : (n : ℕ) (xs ys : List (Act Octets)) → openings n (xs ++ ys) ≡ openings n xs ++ openings n ys
unfolding openings
openings-more n xs ys = flat_map-append (openings_by n) xs ys

acts-more : (n : ℕ) (xs ys : List (Act Octets)) → stream_acts n (xs ++ ys) ≡ stream_acts n xs ++ stream_acts n ys
unfolding stream_acts
acts-more n xs ys = flat_map-append (stream_acts_by n) xs ys

-- a number that was used is not opened
never_opened : (n : ℕ) (s : EndState) (done : List (ServerAct Octets)) → IsSound s.endpoint → OwnFollows s done → was_used s.endpoint n ≡ true → openings n (told_own done) ≡ []
never_opened n s [] k follows used = none_opened n
never_opened n s (act ∷ done) k follows used =
    let x : OneAct s act n = one_act follows.0.0 follows.0.1 s follows.0.2 act n k follows.0.3 in
    openings-more n (own_told act) (told_own done) ∙ (λ i. x.opens used i ++ never_opened n (server_after s act) done x.sound follows.1 (x.stays.used used) i)

opened_once : (n : ℕ) (s : EndState) (done : List (ServerAct Octets)) → IsSound s.endpoint → OwnFollows s done → length (openings n (told_own done)) ≤ 1
opened_once n s [] k follows = omega (arith, ap length (none_opened n))
opened_once n s (act ∷ done) k follows = by x.once (opened_once n (server_after s act) done x.sound follows.1)
  where
    x : OneAct s act n
    x = one_act follows.0.0 follows.0.1 s follows.0.2 act n k follows.0.3

    both : length (openings n (told_own (act ∷ done))) ≡ length (openings n (own_told act)) + length (openings n (told_own done))
    both = ap length (openings-more n (own_told act) (told_own done)) ∙ length-append (openings n (own_told act)) (openings n (told_own done))

    by : (openings n (own_told act) ≡ []) ⊎ ((length (openings n (own_told act)) ≡ 1) × (was_used (server_after s act).endpoint n ≡ true)) → length (openings n (told_own done)) ≤ 1 → length (openings n (told_own (act ∷ done))) ≤ 1
    by (inl none_here) later = omega (arith, both, ap length none_here, later)
    by (inr one) later = omega (arith, both, one.0, ap length (never_opened n (server_after s act) done x.sound follows.1 one.1))

-- a number whose stream was closed is not named
never_named : (n : ℕ) (s : EndState) (done : List (ServerAct Octets)) → IsSound s.endpoint → OwnFollows s done → was_used s.endpoint n ≡ true → has_stream s.endpoint n ≡ false → (stream_acts n (told_own done) ≡ []) × (closings n done ≡ []) × (limitings n done ≡ [])
never_named n s [] k follows used gone = (none_done n, refl, refl)
never_named n s (act ∷ done) k follows used gone =
    let x : OneAct s act n = one_act follows.0.0 follows.0.1 s follows.0.2 act n k follows.0.3 in
    let rest = never_named n (server_after s act) done x.sound follows.1 (x.stays.used used) (x.stays.gone used gone) in
    (acts-more n (own_told act) (told_own done) ∙ (λ i. x.acts gone i ++ rest.0 i), λ i. x.closes gone i ++ rest.1 i, λ i. x.limits gone i ++ rest.2 i)

-- ---- the laws

first_sound : (x : End) → IsSound (end_of x start).endpoint
unfolding no_streams no_closed
first_sound A = record { many = omega (arith, length-replicate {A = Option StreamState} 64 None); ended = length-replicate {A = Option ℕ} 64 None }
first_sound B = record { many = omega (arith, length-replicate {A = Option StreamState} 64 None); ended = length-replicate {A = Option ℕ} 64 None }

pub gives_once : (name : Connections) (trace : List (ServerEntry Octets)) → ServerFollows name start trace → GivesOnce trace
gives_once name trace follows x n =
    subst (λ done. length (openings n done) ≤ 1) (sym (acts_told x trace)) (opened_once n (end_of x start) (server_acts x trace) (first_sound x) (own_follows name x trace start follows))

-- the state behind the first entries
own_split : (xs ys : List (ServerAct Octets)) (s : EndState) → IsSound s.endpoint → OwnFollows s (xs ++ ys) → (s' : EndState) × IsSound s'.endpoint × OwnFollows s' ys
own_split [] ys s k follows = (s, k, follows)
own_split (act ∷ xs) ys s k follows = own_split xs ys (server_after s act) (one_act follows.0.0 follows.0.1 s follows.0.2 act 0 k follows.0.3).sound follows.1

server_acts-more : (x : End) (xs ys : List (ServerEntry Octets)) → server_acts x (xs ++ ys) ≡ server_acts x xs ++ server_acts x ys
server_acts-more x xs ys = flat_map-append (λ (e : ServerEntry Octets). server_acts_if x e.end e.act) xs ys

own_close : (x : End) (n : ℕ) → server_acts_if x x (Close n None) ≡ Close n None ∷ []
own_close A n = refl
own_close B n = refl

-- a number that has a stream was used
pub was_there : (e : EndpointState) (n : ℕ) → has_stream e n ≡ true → was_used e n ≡ true
was_there e n has = go (nat_le 64 n) (there e.streams n has)
  where
    go : (b : Bool) → n < length e.streams → cond b (nat_lt n (length e.streams)) (is_taken e n) ≡ true
    go true within = grind (arith, nat_tests, within)
    go false within = ap (λ b. b || is_some (closed_at e n)) has

pub closed_is_over : (name : Connections) (trace : List (ServerEntry Octets)) → ServerFollows name start trace → ClosedIsOver trace
closed_is_over name trace follows past future x n is =
    let closes : ServerEntry Octets = record { end = x; act = Close n None } in
    let own : OwnFollows (end_of x start) (server_acts x past ++ Close n None ∷ server_acts x future) =
    subst (OwnFollows (end_of x start)) (server_acts-more x past (closes ∷ future) ∙ (λ i. server_acts x past ++ (own_close x n i ++ server_acts x future))) (own_follows name x (past ++ closes ∷ future) start (subst (ServerFollows name start) is follows)) in
    let p = own_split (server_acts x past) (Close n None ∷ server_acts x future) (end_of x start) (first_sound x) own in
    let s : EndState = p.0 in
    let e' : EndpointState = (server_after s (Close n None)).endpoint in
    let r = p.2.0 in
    let rule : ServerRule r.0 r.1 s r.2 (Close n None) = r.3 in
    let a : OneAct s (Close n None) n = one_act r.0 r.1 s r.2 (Close n None) n p.1 rule in
    let left : e' ≡ endpoint.after_close s.endpoint n = asked s.endpoint (endpoint.after_close s.endpoint n) n rest_refusal None rule.0.0 rule.0.1 in
    let within : n < length s.endpoint.streams = there s.endpoint.streams n rule.0.0 in
    let gone : has_stream e' n ≡ false =
    ap (λ z. has_stream z n) left ∙ ap is_some (set_there s.endpoint.streams n n None None within ∙ ap (λ b. cond b None (stream_of s.endpoint n)) (eq-eqb n n refl)) in
    let used : was_used e' n ≡ true = a.stays.used (was_there s.endpoint n rule.0.0) in
    let later = never_named n (server_after s (Close n None)) (server_acts x future) a.sound p.2.1 used gone in
    record {
      opened = ap (openings n) (acts_told x future) ∙ never_opened n (server_after s (Close n None)) (server_acts x future) a.sound p.2.1 used;
      done = ap (stream_acts n) (acts_told x future) ∙ later.0;
      closed = later.1;
      limited = later.2;
    }
