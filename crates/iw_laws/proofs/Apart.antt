-- What follows the rules is answered, domain by domain, as where no other domain is.
use Rattle.std.proofs.Common.{◌≡◌, ◌⊎◌, ℕ, ◌+◌, List, [], ◌∷◌, ◌++◌, length, cond, Option, Some, None, Ok, Err, true, refl, sym, ap, subst, ◌∙◌, inl, inr}
use Rattle.std.specs.Prelude.{is_some, unwrap_or, Result}
use Rattle.std.specs.Option.{option_map, option_map_or, option_or}
use Rattle.std.proofs.lemmas.Bool.{false≢true}
use Rattle.std.proofs.lemmas.Bool.Decides.{eqb_tells}
use Rattle.iw_octets.specs.declared.fault.Fault.{Fault}
use Rattle.iw_octets.specs.declared.segment.Segment.TheVariants.{Tagged}
use Rattle.iw_octets.specs.declared.stag.Stag.{Stag}
use Rattle.iw_memory.specs.declared.rights.Right.TheVariants as rights
use Rattle.iw_memory.specs.Part.{own_domain_refusal, own_register_refusal, own_next_stag, own_region, own_store_refusal}
use Rattle.iw_memory.specs.Region.{octets_from}
use Rattle.iw_memory.specs.Table.{Table, region_at, octets_at}
use Rattle.iw_memory.proofs.Callers.{allows}
use Rattle.iw_reads.specs.declared.response.ResponsePart.{ResponsePart}
use Rattle.iw_reads.specs.Response.{fetch_fault, fetched_octets}
use Rattle.iw_reads.specs.Source as source
use Rattle.iw_startup.specs.declared.progress.Progress.{Progress}
use Rattle.iw_startup.specs.declared.progress.Progress.TheVariants as progress
use Rattle.iw_stream.specs.declared.landing.Landing.{Landing}
use Rattle.iw_stream.specs.declared.landing.Landing.TheVariants as landing
use Rattle.iw_stream.specs.declared.landing.Turning.{Turning}
use Rattle.iw_stream.specs.declared.landing.Turning.TheVariants as turning
use Rattle.iw_stream.specs.declared.landing.PlacedFrame.{PlacedFrame}
use Rattle.iw_stream.specs.Frames.{Frame}
use Rattle.iw_stream.specs.Judging.{verdict, early_verdict, table_tried, turn_of, fault_or}
use Rattle.iw_startup.specs.declared.enhanced.Mismatch.{Mismatch}
use Rattle.iw_stream.specs.Starting.{StartState, first_place_in, progress_in, heard, mismatch_in}
use Rattle.iw_stream.specs.Stream.{StreamState, sees, Due, StartUp, LastWord, NextPart, NoneDue, Response as ResponseDue, due, frame_of, frame_fetched, emission_of, emitted, emission_due, octets_due, emission_fetched, octets_fetched, Ready, peer_of}
use Rattle.iw_stream.specs.Work.{Task, HandOut, GiveUp, GiveBack, Hear, Turn, Clash, Judge, Try, Rest, task, inbox, standing, step_of, table_left, table_judged, table_passed, judged_step, tried_step, turned_step, heard_step, opened_step, work_step, worked, table_worked}
use Rattle.iw_startup.specs.declared.config.Config.{Config}
use Rattle.iw_stream.specs.declared.answer.Role.TheVariants.{Preset}
use Rattle.iw_laws.proofs.Rooms.{or_none}
use Rattle.iw_endpoint.specs.Endpoint.{EndpointState, Pool as PoolOf, number_refusal, request_refusal, pool_of, lent_to, share_fault, pool_fault, take_fault, taken, open_shared_refusal_of, unshared, fresh, stream_of, unopened}
use Rattle.iw_endpoint.specs.Isolation.{HasDomains, IsOwn, IsOwnNumber, Concerns, OwnStep, part_of, alone, answer_or, after, concerned}
use Rattle.iw_endpoint.proofs.Tables.{AreAlike, worked-alike, verdict-alike, early-alike, turn-alike, judged-alike, fetched-alike, octets-alike, region-alike, none_taken, undenied}
use Rattle.iw_endpoint.proofs.Parts.{AreSeenAlike, fresh_domains, seen_alone, stream_alike, closed_alike, alone_own, alone_number}
use Rattle.iw_endpoint.proofs.Steps.{open_alike, concerns_one}
use Rattle.iw_endpoint.proofs.Alone.{AreOwned, concerns, stay_owned, nothing_owned}
use Rattle.iw_events.specs.declared.call.End.{End}
use Rattle.iw_events.specs.declared.call.End.TheVariants.{A, B}
use Rattle.iw_events.specs.declared.act.Act.{Act}
use Rattle.iw_events.specs.declared.act.Act.TheVariants.{Domain, Register, Deregister, Invalidate, Store, Open, Share, Pool, Unpool, OpenShared, Stream}
use Rattle.iw_events.specs.declared.act.StreamAct.{StreamAct}
use Rattle.iw_events.specs.declared.act.StreamAct.TheVariants.{Recv, Post, Emit, First, Deliver, Raw, Mulpdu, Accept, Reject, Work, Break}
use Rattle.iw_events.specs.declared.act.Shown.TheVariants.{Fetched}
use Rattle.iw_events.specs.declared.act.Seen.TheVariants as seen
use Rattle.iw_events.specs.declared.act.Entry.{Entry}
use Rattle.iw_laws.specs.Words.{Octets, acts, acts_if, config_for, deed}
use Rattle.iw_laws.specs.Rules.{State, start, end_of, with_end, shown_of, seen_of, StreamRule, EndRule, call_made, end_after, after_entry, Follows}
use Rattle.iw_laws.specs.Isolated.{AsksOwn, calls_made, only_acts, AreOwn, Isolated}
use Rattle.iw_laws.proofs.Whole.{follows_split}
use Rattle.iw_laws.proofs.Seeing.{LandsAs, LandsTagged, lands_as, early_lands}

-- ---- what is shown is the domain's own

-- octets of the region that may be used
octets_there : (d : ℕ) (t u : Table) (stag : Stag) (to n : ℕ) → (n ≡ 0) ⊎ (stag.domain ≡ d) → AreAlike d t u → octets_at t stag to n ≡ octets_at u stag to n
octets_there d t u stag to n own h = elim own [
  | inl nothing ↦ none_taken (region_at t stag) to n nothing ∙ sym (none_taken (region_at u stag) to n nothing)
  | inr here ↦ ap (λ o. option_map_or (λ r. octets_from r to n) o []) (region-alike d t u stag here h)
]

module _ (s : StreamState) (t u : Table) (h : AreAlike s.domain t u) where
  fetched_shown : (part : ResponsePart) → shown_of t (emission_fetched s part (frame_fetched t s part)) (octets_fetched (frame_fetched t s part)) ≡ shown_of u (emission_fetched s part (frame_fetched u s part)) (octets_fetched (frame_fetched u s part))
  fetched_shown part = go (fetch_fault t (peer_of s) part) refl
    where
      frame : Octets
      frame = frame_of s (Tagged part.head (fetched_octets t part))

      go : (o : Option Fault) → fetch_fault t (peer_of s) part ≡ o → shown_of t (emission_fetched s part (frame_fetched t s part)) (octets_fetched (frame_fetched t s part)) ≡ shown_of u (emission_fetched s part (frame_fetched u s part)) (octets_fetched (frame_fetched u s part))
      go (Some fault) is =
          let here : frame_fetched t s part ≡ Err fault = ap (λ o. fault_or o frame) is in
          let there : frame_fetched u s part ≡ Err fault = sym (fetched-alike s t u part h) ∙ here in
          ap (λ r. shown_of t (emission_fetched s part r) (octets_fetched r)) here ∙ sym (ap (λ r. shown_of u (emission_fetched s part r) (octets_fetched r)) there)
      go None is =
          let here : frame_fetched t s part ≡ Ok frame = ap (λ o. fault_or o frame) is in
          let there : frame_fetched u s part ≡ Ok frame = sym (fetched-alike s t u part h) ∙ here in
          ap (λ r. shown_of t (emission_fetched s part r) (octets_fetched r)) here
          ∙ ap (λ z. Fetched s.sent frame part.stag part.to z) (octets-alike (peer_of s) t u part.stag part.to part.n rights.Read (undenied _ source.denial_fault is) h)
          ∙ sym (ap (λ r. shown_of u (emission_fetched s part r) (octets_fetched r)) there)

  shown_alike : shown_of t (emission_of t s) (emitted t s) ≡ shown_of u (emission_of u s) (emitted u s)
  shown_alike = go (due s)
    where
      go : (k : Due) → shown_of t (emission_due t s k) (octets_due t s k) ≡ shown_of u (emission_due u s k) (octets_due u s k)
      go StartUp = refl
      go (LastWord payload) = refl
      go (Ready rtr) = refl
      go (ResponseDue part) = fetched_shown part
      go (NextPart part) = refl
      go NoneDue = refl

  -- what was placed lies in a region of the domain
  placed_there : (frame : Frame) (left : StartState) (r : Result Landing Fault) → LandsAs (standing t s) frame r → seen_of (table_judged t frame r) left (judged_step r) ≡ seen_of (table_judged u frame r) left (judged_step r)
  placed_there frame left (Ok (landing.Write at)) lands = ap (λ z. seen.Placed rights.Write at.stag at.to z) (octets_there s.domain _ _ at.stag at.to at.n (lies lands) (judged-alike s.domain t u frame (Ok (landing.Write at)) h))
    where
      lies : LandsTagged (standing t s) frame 0 rights.Write at → (at.n ≡ 0) ⊎ (at.stag.domain ≡ s.domain)
      lies l = elim (allows t (peer_of s) l.head.stag l.head.to (length l.payload) rights.Write l.admitted) [
        | inl nothing ↦ inl (ap (λ p. p.n) l.place ∙ nothing)
        | inr allowed ↦ inr (ap (λ p. p.stag.domain) l.place ∙ allowed.0)
      ]
  placed_there frame left (Ok (landing.Response at)) lands = ap (λ z. seen.Placed rights.Sink at.stag at.to z) (octets_there s.domain _ _ at.stag at.to at.n (lies lands) (judged-alike s.domain t u frame (Ok (landing.Response at)) h))
    where
      lies : LandsTagged (standing t s) frame 2 rights.Sink at → (at.n ≡ 0) ⊎ (at.stag.domain ≡ s.domain)
      lies l = elim (allows t (peer_of s) l.head.stag l.head.to (length l.payload) rights.Sink l.admitted) [
        | inl nothing ↦ inl (ap (λ p. p.n) l.place ∙ nothing)
        | inr allowed ↦ inr (ap (λ p. p.stag.domain) l.place ∙ allowed.0)
      ]
  placed_there frame left (Ok (landing.Send msn mo len)) lands = refl
  placed_there frame left (Ok (landing.Request request)) lands = refl
  placed_there frame left (Ok (landing.Terminate fault)) lands = refl
  placed_there frame left (Err fault) lands = refl

  tried_there : (frame : Frame) (left : StartState) (place : ℕ) (o : Option Landing) → early_verdict (standing t s) frame ≡ o → seen_of (table_tried t frame o) left (tried_step place o) ≡ seen_of (table_tried u frame o) left (tried_step place o)
  tried_there frame left place None e = refl
  tried_there frame left place (Some at) e = placed_there frame left (Ok at) (subst (LandsAs (standing t s) frame) (early_lands (standing t s) frame at e).0 (lands_as (standing t s) frame))

  turned_seen : (frame : PlacedFrame) (left : StartState) (r : Result Turning Fault) → seen_of (table_passed t r) left (turned_step s.receiving frame r) ≡ seen_of (table_passed u r) left (turned_step s.receiving frame r)
  turned_seen frame left (Ok turning.Passed) = refl
  turned_seen frame left (Ok (turning.Completed solicited invalidate)) = refl
  turned_seen frame left (Ok (turning.Answered ticket)) = refl
  turned_seen frame left (Err fault) = refl

  opened_seen : (left start : StartState) (m : Option Mismatch) → seen_of t left (opened_step start m) ≡ seen_of u left (opened_step start m)
  opened_seen left x None = refl
  opened_seen left x (Some mismatch) = refl

  heard_seen : (left : StartState) (p : Progress) → seen_of t left (heard_step s.start (inbox s) p) ≡ seen_of u left (heard_step s.start (inbox s) p)
  heard_seen left progress.More = refl
  heard_seen left progress.Asked = refl
  heard_seen left progress.Agreed = opened_seen left (heard s.start (inbox s)) (mismatch_in (heard s.start (inbox s)))
  heard_seen left (progress.Faulted fault) = refl

  seen_alike : seen_of (table_worked t s) (worked t s).start (work_step t s) ≡ seen_of (table_worked u s) (worked u s).start (work_step u s)
  seen_alike = ap (λ (w : StreamState). seen_of (table_worked t s) w.start (work_step t s)) (worked-alike s t u h) ∙ go (task s)
    where
      left : StartState
      left = (worked u s).start

      go : (k : Task) → seen_of (table_left t s k) left (step_of t s k) ≡ seen_of (table_left u s k) left (step_of u s k)
      go (HandOut done) = refl
      go (GiveUp done) = refl
      go (GiveBack buffer) = refl
      go Hear = heard_seen left (progress_in s.start (inbox s))
      go (Turn frame) =
          let r = turn_of (standing t s) frame in
          subst (λ z. seen_of (table_passed t r) left (turned_step s.receiving frame r) ≡ seen_of (table_passed u z) left (turned_step s.receiving frame z)) (turn-alike s t u frame h) (turned_seen frame left r)
      go (Clash frame) = refl
      go (Judge frame) =
          let r = verdict (standing t s) frame in
          subst (λ z. seen_of (table_judged t frame r) left (judged_step r) ≡ seen_of (table_judged u frame z) left (judged_step z)) (verdict-alike s t u frame h) (placed_there frame left r (lands_as (standing t s) frame))
      go (Try frame) =
          let o = early_verdict (standing t s) frame in
          let place : ℕ = first_place_in s.start + frame.start in
          subst (λ z. seen_of (table_tried t frame o) left (tried_step place o) ≡ seen_of (table_tried u frame z) left (tried_step place z)) (early-alike s t u frame h) (tried_there frame left place o refl)
      go Rest = refl

  stream_rule : (act : StreamAct Octets) → StreamRule t s act → StreamRule u s act
  stream_rule (Recv len refused) rule = rule
  stream_rule (Post request refused) rule = rule
  stream_rule (Emit shown) rule = rule ∙ shown_alike
  stream_rule (Deliver from number octets delivery) rule = rule
  stream_rule (Raw number octets delivery) rule = rule
  stream_rule (First number refused) rule = rule
  stream_rule (Mulpdu size refused) rule = rule
  stream_rule (Accept private answer) rule = rule
  stream_rule (Reject private refused) rule = rule
  stream_rule (Work step) rule = rule ∙ seen_alike
  stream_rule Break rule = tt

-- ---- a call is answered as where no other domain is

-- the rule of an act at this stream
abbrev RuleAt : EndpointState → Option StreamState → StreamAct Octets → Type 0
RuleAt e o act = StreamRule e.table (option_map_or (λ step. lent_to (pool_of e (unwrap_or o unopened).domain) (unwrap_or o unopened)) (deed act).step (unwrap_or o unopened)) act

own_act : (e f : EndpointState) (s : StreamState) (act : StreamAct Octets) → AreSeenAlike s.domain e f → RuleAt e (Some s) act → RuleAt f (Some s) act
own_act e f s (Recv len refused) h rule = rule
own_act e f s (Post request refused) h rule = rule
own_act e f s (Emit shown) h rule = stream_rule s e.table f.table h.table (Emit shown) rule
own_act e f s (Deliver from number octets delivery) h rule = rule
own_act e f s (Raw number octets delivery) h rule = rule
own_act e f s (First number refused) h rule = rule
own_act e f s (Mulpdu size refused) h rule = rule
own_act e f s (Accept private answer) h rule = rule
own_act e f s (Reject private refused) h rule = rule
own_act e f s (Work step) h rule = subst (λ o. StreamRule f.table (lent_to o s) (Work step)) h.pool (go (pool_of e s.domain) rule)
  where
    go : (o : Option PoolOf) → StreamRule e.table (lent_to o s) (Work step) → StreamRule f.table (lent_to o s) (Work step)
    go None = stream_rule s e.table f.table h.table (Work step)
    go (Some pool) = stream_rule (sees s pool) e.table f.table h.table (Work step)
own_act e f s Break h rule = tt

pub own_rule : (d : ℕ) (e : EndpointState) (act : Act Octets) → HasDomains e → Concerns d e (call_made act) → EndRule e act → EndRule (alone d (part_of d e)) act
own_rule d e (Domain pd refused) all here rule =
    subst (λ x. EndRule (alone x (part_of x e)) (Domain pd refused)) here (rule ∙ ap (λ part. own_domain_refusal part pd) (seen_alone pd e all).table.part)
own_rule d e (Register pd base rights octets answer) all here rule =
    subst (λ x. EndRule (alone x (part_of x e)) (Register pd base rights octets answer)) here
    (rule ∙ ap (λ part. answer_or (own_register_refusal part base (length octets)) (own_next_stag part pd)) (seen_alone pd e all).table.part)
own_rule d e (Deregister stag answer) all here rule =
    subst (λ x. EndRule (alone x (part_of x e)) (Deregister stag answer)) here
    (rule ∙ ap (λ part. option_map_or (λ r. Ok r.octets) (own_region part stag) (Err (record {}))) (seen_alone stag.domain e all).table.part)
own_rule d e (Invalidate stag refused) all here rule =
    subst (λ x. EndRule (alone x (part_of x e)) (Invalidate stag refused)) here
    (rule ∙ ap (λ part. option_map_or (λ r. None) (own_region part stag) (Some (record {}))) (seen_alone stag.domain e all).table.part)
own_rule d e (Store stag to octets refused) all here rule =
    subst (λ x. EndRule (alone x (part_of x e)) (Store stag to octets refused)) here
    (rule ∙ ap (λ part. own_store_refusal part stag to (length octets)) (seen_alone stag.domain e all).table.part)
own_rule d e (Open n pd role options private refused) all here rule =
    subst (λ x. IsOwnNumber x e n → EndRule (alone x (part_of x e)) (Open n pd role options private refused)) here.0
    (λ own.
    let h = seen_alone pd e all in
    let f = alone pd (part_of pd e) in
    rule ∙ open_alike pd e f n role (config_for options private) (stream_alike pd e f n own.0 (alone_number pd e n).0 h) (closed_alike pd e f n own.1 (alone_number pd e n).1 h) h) here.1
own_rule d e (Share pd refused) all here rule =
    let h = seen_alone pd e all in
    subst (λ x. EndRule (alone x (part_of x e)) (Share pd refused)) here (rule ∙ (λ i. share_fault (is_some (h.table.part i)) (h.pool i)))
own_rule d e (Pool pd len refused) all here rule =
    let h = seen_alone pd e all in
    subst (λ x. EndRule (alone x (part_of x e)) (Pool pd len refused)) here (rule ∙ (λ i. pool_fault (is_some (h.table.part i)) (h.pool i)))
own_rule d e (Unpool pd answer) all here rule =
    let h = seen_alone pd e all in
    subst (λ x. EndRule (alone x (part_of x e)) (Unpool pd answer)) here (rule ∙ (λ i. answer_or (take_fault (is_some (h.table.part i)) (h.pool i)) (taken (h.pool i))))
own_rule d e (OpenShared n pd role options private refused) all here rule =
    subst (λ x. IsOwnNumber x e n → EndRule (alone x (part_of x e)) (OpenShared n pd role options private refused)) here.0
    (λ own.
    let h = seen_alone pd e all in
    let f = alone pd (part_of pd e) in
    let config : Config = config_for options private in
    -- by its number, and by its domain
    let numbers : number_refusal e n pd ≡ number_refusal f n pd = sym (or_none (number_refusal e n pd)) ∙ open_alike pd e f n Preset config (stream_alike pd e f n own.0 (alone_number pd e n).0 h) (closed_alike pd e f n own.1 (alone_number pd e n).1 h) h ∙ or_none (number_refusal f n pd) in
    rule ∙ (λ i. option_or (option_map open_shared_refusal_of (numbers i)) (option_or (unshared (h.pool i)) (option_map open_shared_refusal_of (request_refusal role config))))) here.1
own_rule d e (Stream n act) all own rule =
    let h = seen_alone d e all in
    let f = alone d (part_of d e) in
    let same = stream_alike d e f n own.0 (alone_own d e n) h in
    (ap is_some (sym same) ∙ rule.0, subst (λ o. RuleAt f o act) same (go (stream_of e n) own.0 rule.0 rule.1))
  where
    go : (o : Option StreamState) → IsOwn d o → is_some o ≡ true → RuleAt e o act → RuleAt (alone d (part_of d e)) o act
    go None own there rule = absurd (false≢true there)
    go (Some s) own there rule = own_act e (alone d (part_of d e)) s act (subst (λ x. AreSeenAlike x e (alone d (part_of d e))) (sym own) (seen_alone d e all)) rule

-- ---- lists of calls

-- each act is answered as the rules say, at an endpoint that is so at first
abbrev AreAnswered : EndpointState → List (Act Octets) → Type 0
AreAnswered e [] = Unit {0}
AreAnswered e (act ∷ done) = EndRule e act × AreAnswered (after e (call_made act)) done

own_from : (whose : ℕ → ℕ) (done : List (Act Octets)) (e : EndpointState) → HasDomains e → AreOwned whose e → AsksOwn whose (calls_made done) → AreAnswered e done → (d : ℕ) → AreOwn d (part_of d e) (only_acts whose d done)
own_from whose [] e all owned opens answered d = tt
own_from whose (act ∷ done) e all owned opens answered d =
    let call = call_made act in
    let c = concerned whose call in
    let mine = concerns whose e call owned (λ gives. opens.0) in
    let step = concerns_one c e call all mine in
    let those = only_acts whose d done in
    let rest = own_from whose done (after e call) step.domains (stay_owned whose e call c owned (λ gives. opens.0) step) opens.1 answered.1 d in
    elim (eqb_tells c d) [
      | inl same ↦
          let own = subst (λ x. OwnStep x e call) same.1 step in
          subst (λ b. AreOwn d (part_of d e) (cond b (act ∷ those) those)) (sym same.0)
          (own_rule d e act all (subst (λ x. Concerns x e call) same.1 mine) answered.0, subst (λ p. AreOwn d p those) own.own rest)
      | inr other ↦
          subst (λ b. AreOwn d (part_of d e) (cond b (act ∷ those) those)) (sym other.0)
          (subst (λ p. AreOwn d p those) (step.others d (λ e. other.1 (sym e))) rest)
    ]

-- ---- the acts of an end

at_end : (x y : End) (w : State) (act : Act Octets) (rest : List (Act Octets)) → EndRule (end_of y w).endpoint act → AreAnswered (end_of x (with_end y (end_after (end_of y w) act) w)).endpoint rest → AreAnswered (end_of x w).endpoint (acts_if x y act ++ rest)
at_end A A w act rest rule h = (rule, h)
at_end B B w act rest rule h = (rule, h)
at_end A B w act rest rule h = h
at_end B A w act rest rule h = h

answered_from : (x : End) (trace : List (Entry Octets)) (w : State) → Follows w trace → AreAnswered (end_of x w).endpoint (acts x trace)
unfolding acts
answered_from x [] w follows = tt
answered_from x (e ∷ trace) w follows = at_end x e.end w e.act (acts x trace) follows.0.0 (answered_from x trace (after_entry w e) follows.1)

from_start : (x : End) (done : List (Act Octets)) → AreAnswered (end_of x start).endpoint done → AreAnswered fresh done
from_start A done h = h
from_start B done h = h

-- at each end each domain is answered what it would be with no other domain there
pub isolated_all : (trace : List (Entry Octets)) → Follows start trace → Isolated trace
isolated_all trace follows past future is x whose opens d =
    let before : Follows start past = (follows_split past future start (subst (Follows start) is follows)).0 in
    own_from whose (acts x past) fresh fresh_domains (nothing_owned whose) opens (from_start x (acts x past) (answered_from x past start before)) d
