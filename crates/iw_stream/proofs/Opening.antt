-- What a stream keeps of its start-up.
use Rattle.std.proofs.Common.{◌≡◌, ℕ, ◌-◌, ◌<◌, ◌%◌, Bool, true, false, not, cond, max, List, [], ◌∷◌, Contains, length, Option, Some, None, refl, sym, ap, ◌∙◌, subst, arith}
use Rattle.std.specs.Prelude.{IfSome, is_some}
use Rattle.std.specs.Option.{option_map_or}
use Rattle.std.proofs.lemmas.Bool.{true≢false, false≢true}
use Rattle.arrayvec.specs.ArrayVec.{ArrayVec}
use Rattle.iw_ranges.specs.Arrived.{Arrived, nothing, advanced}
use Rattle.iw_ranges.proofs.InOrder.{floor_moves}
use Rattle.iw_fpdu.specs.declared.layout.Layout.{Layout}
use Rattle.iw_fpdu.specs.Laws.{IsBetween}
use Rattle.iw_fpdu.proofs.Follows.{frames_follow}
use Rattle.iw_queues.specs.Queue.{Queue, nothing_posted}
use Rattle.iw_reads.specs.declared.reads.Outstanding.{Outstanding}
use Rattle.iw_reads.specs.Outstanding.{most_reads}
use Rattle.iw_reads.specs.Requests.{Requested}
use Rattle.iw_queues.specs.Segments.{Numbers}
use Rattle.iw_startup.specs.declared.progress.Progress.TheVariants as progress
use Rattle.iw_startup.specs.declared.side.Reply.{Reply}
use Rattle.iw_startup.specs.declared.side.Reply.TheVariants.{Reject}
use Rattle.iw_startup.specs.declared.config.Agreed.{Agreed}
use Rattle.iw_startup.specs.declared.config.Config.{Config}
use Rattle.iw_startup.specs.declared.config.Establishment.{Establishment}
use Rattle.iw_startup.specs.declared.side.Side.{Side}
use Rattle.iw_startup.specs.declared.side.Side.TheVariants as sides
use Rattle.iw_startup.specs.Peer.{progress_of}
use Rattle.iw_startup.specs.State.{StartupState, frame_of, own_frame, agreed_of, agreement, awaits_answer, is_answered, is_asked, answered, pushed}
use Rattle.iw_startup.proofs.Ends.{least_end}
use Rattle.iw_startup.proofs.Reached.{progress_of-short}
use Rattle.iw_startup.proofs.Heard.{agreed_of-pushed, octets-pushed}
use Rattle.iw_untagged.specs.Receiving.{Receiving}
use Rattle.iw_stream.specs.declared.answer.AnswerRefusal.TheVariants.{NotAsked, PrivateTooLong}
use Rattle.iw_stream.specs.declared.answer.Role.{Role}
use Rattle.iw_stream.specs.declared.answer.Role.TheVariants.{Preset, Initiator, Responder}
use Rattle.iw_stream.specs.declared.starting.Start.TheInside.{Inside}
use Rattle.iw_stream.specs.Fields.{IsStart, start_of}
use Rattle.iw_stream.specs.Frames.{EarlyRecord}
use Rattle.iw_stream.specs.Kept.{IsPlaced, NoneReachesOver, Keeps}
use Rattle.iw_stream.specs.Starting.{StartState, AtOnce, Unheard, Heard, IsFresh, start_by, start_at_first, is_open, expecting, most_reads_in, rtr_in, awaits_frame, heard, answered_with, agreed_in, agreement_in, first_place_in, first_place_out}
use Rattle.iw_stream.specs.Starting as starting
use Rattle.iw_stream.specs.declared.ending.Ending.TheVariants.{Runs}
use Rattle.iw_stream.specs.Stream.{StreamState}

-- ---- a Request that waits for an answer
pub record Waits (u : StartupState) : Type 0 where
  pub closed : is_some (agreed_of u) ≡ false
  pub mute : frame_of u ≡ []
  pub whole : 0 < length u.octets

is_whole : (est : Establishment) (side : Side) (octets : List ℕ) → is_asked (progress_of est side octets) ≡ true → 0 < length octets
is_whole est side [] e = absurd (let more : progress_of est side [] ≡ progress.More = progress_of-short est side [] (omega (arith, least_end est side [])) in true≢false (sym e ∙ ap is_asked more))
is_whole est side (x ∷ octets) e = omega arith

waits_at : (config : Config) (side : Side) (octets : List ℕ) → awaits_answer (record { config = config; side = side; octets = octets }) ≡ true → Waits (record { config = config; side = side; octets = octets })
unfolding agreed_of
waits_at config sides.Initiator octets e = cc
waits_at config (sides.Responder None) octets e = record { closed = refl; mute = refl; whole = is_whole config.establishment (sides.Responder None) octets e }
waits_at config (sides.Responder (Some reply)) octets e = cc

pub waits : (u : StartupState) → awaits_answer u ≡ true → Waits u
waits u e = waits_at u.config u.side u.octets e

-- ---- a stream to which nothing has happened
abbrev pub fresh : ℕ → StartState → Queue → Numbers → Receiving → List Outstanding → Requested → Arrived → List EarlyRecord → StreamState
fresh domain start queue numbers receiving reads asked arrived early = record {
  domain = domain;
  number = None;
  start = start;
  mulpdu = 1400;
  queue = queue;
  numbers = numbers;
  sent = 0;
  receiving = receiving;
  reads = reads;
  asked = asked;
  first = 0;
  answered = false;
  arrived = arrived;
  front = None;
  early = early;
  ending = Runs;
}

pub none_read : (role : Role) (config : Config) → first_place_in (start_at_first role config) ≡ 0
none_read Preset config = refl
none_read Initiator config = refl
none_read Responder config = refl

keeps_nothing : (role : Role) (config : Config) (domain : ℕ) (numbers : Numbers) (receiving : Receiving) (asked : Requested) → Keeps (fresh domain (start_at_first role config) nothing_posted numbers receiving [] asked nothing [])
keeps_nothing role config domain numbers receiving asked =
    let start = start_at_first role config in record {
      started = record {
        unopened = λ e. (sym (none_read role config), refl, refl);
        unsent = λ lt. refl;
        alone = λ e. omega arith;
        unread = λ e. refl;
        beyond = omega (arith, none_read role config);
      };
      between = subst (IsBetween (expecting start).markers) (let at : 0 ≡ 0 - first_place_in start = omega arith in at) (frames_follow.first (expecting start).markers);
      aligned = ap (λ n. n % 4) (let at : 0 - first_place_out start ≡ 0 = omega arith in at);
      enough = omega arith;
      few = omega arith;
      is_placed = λ e. tt;
      clear = λ e. tt;
      headed = λ r within. absurd (omega (arith, within.1));
      buffered = λ e r within. absurd (omega (arith, within.1));
      unopened = λ e. refl;
      first = omega arith;
      awaited = λ e. tt;
    }

pub keeps_fresh : (role : Role) (config : Config) (domain : ℕ) (start : StartState) (queue : Queue) (numbers : Numbers) (receiving : Receiving) (reads : List Outstanding) (asked : Requested) (arrived : Arrived) (early : List EarlyRecord)
    → start ≡ start_at_first role config → queue ≡ nothing_posted → reads ≡ [] → arrived ≡ nothing → early ≡ [] → Keeps (fresh domain start queue numbers receiving reads asked arrived early)
keeps_fresh role config domain start queue numbers receiving reads asked arrived early first posted read none unjudged =
    subst Keeps (λ i. fresh domain (sym first i) (sym posted i) numbers receiving (sym read i) asked (sym none i) (sym unjudged i)) (keeps_nothing role config domain numbers receiving asked)

none_in : (xs : List EarlyRecord) → xs ≡ [] → (x : EarlyRecord) → Contains xs x → ⊥
none_in [] e x within = omega (arith, within.1)
none_in (y ∷ xs) e x within = absurd (cc e)

-- ---- an answer
none_placed : (s t : StreamState) → s.front ≡ None → IfSome s.front (IsPlaced t)
none_placed s t e = subst (λ o. IfSome o (IsPlaced t)) (sym e) tt

answers : (s : StreamState) (u : StartupState) (reply : Reply) → s.start ≡ Heard u → awaits_answer u ≡ true → Keeps s → Keeps (record s { start = Heard (answered u reply) })
answers s u reply is asked k =
    let w : Waits u = waits u asked in
    let closed : is_open s.start ≡ false = ap is_open is ∙ w.closed in
    let rest = k.started.unopened closed in
    let place : first_place_in s.start ≡ length u.octets = ap first_place_in is in
    let mute : first_place_out s.start ≡ 0 = ap first_place_out is ∙ ap length w.mute in
    let none : s.sent ≡ 0 = omega (arith, k.started.alone closed, mute) in record {
      started = record {
        unopened = λ e. (rest.0 ∙ place, rest.1, rest.2);
        unsent = λ lt. none;
        alone = λ e. omega (arith, none);
        unread = λ e. k.started.unread (omega (arith, none));
        beyond = omega (arith, rest.0, place);
      };
      between = subst (IsBetween (expecting (Heard (answered u reply))).markers) (let at : 0 ≡ s.arrived.floor - length u.octets = omega (arith, rest.0, place) in at) (frames_follow.first (expecting (Heard (answered u reply))).markers);
      aligned = ap (λ n. n % 4) (let at : s.sent - length (frame_of (answered u reply)) ≡ 0 = omega (arith, none) in at);
      enough = k.enough;
      few = k.few;
      is_placed = λ e. none_placed s (record s { start = Heard (answered u reply) }) rest.1;
      clear = λ e. subst (λ o. IfSome o (NoneReachesOver (record s { start = Heard (answered u reply) }))) (sym rest.1) tt;
      headed = k.headed;
      buffered = λ e r within. absurd (none_in s.early (k.unopened closed) r within);
      unopened = λ e. k.unopened closed;
      first = k.first;
      awaited = k.awaited;
    }

pub keeps_answered : (s : StreamState) (reply : Reply) → starting.is_asked s.start ≡ true → Keeps s → Keeps (record s { start = answered_with s.start reply })
keeps_answered s reply asked k = go s.start refl asked
  where
    go : (x : StartState) → s.start ≡ x → starting.is_asked x ≡ true → Keeps (record s { start = answered_with x reply })
    go (AtOnce layout) is e = absurd (false≢true e)
    go (Unheard u) is e = absurd (false≢true e)
    go (Heard u) is e = answers s u reply is e k

-- ---- the peer's frame is read
pub awaits_closed : (x : StartState) → awaits_frame x ≡ true → is_open x ≡ false
awaits_closed (AtOnce layout) e = absurd (false≢true e)
awaits_closed (Unheard u) e = refl
awaits_closed (Heard u) e = absurd (false≢true e)

hears : (s : StreamState) (u : StartupState) (octets : List ℕ) → s.start ≡ Unheard u → first_place_out (Heard (pushed u octets)) ≡ first_place_out s.start → Keeps s
    → Keeps (record s { start = Heard (pushed u octets); arrived = advanced s.arrived (length (pushed u octets).octets) })
hears s u octets is out k =
    let closed : is_open s.start ≡ false = ap is_open is in
    let rest = k.started.unopened closed in
    let begin : s.arrived.floor ≡ 0 = rest.0 ∙ ap first_place_in is in
    let n : ℕ = length (pushed u octets).octets in
    let floor : (advanced s.arrived n).floor ≡ max s.arrived.floor n = floor_moves s.arrived n in
    let own : first_place_out s.start ≡ length (frame_of (pushed u octets)) = sym out in
    record {
      started = record {
        unopened = λ e. (omega (arith, floor, begin), rest.1, rest.2);
        unsent = λ lt. k.started.unsent (omega (arith, own, lt));
        alone = λ e. omega (arith, own, k.started.alone closed);
        unread = λ e. k.started.unread (omega (arith, own, e));
        beyond = omega (arith, floor, begin);
      };
      between = subst (IsBetween (expecting (Heard (pushed u octets))).markers) (let at : 0 ≡ (advanced s.arrived n).floor - n = omega (arith, floor, begin) in at) (frames_follow.first (expecting (Heard (pushed u octets))).markers);
      aligned = ap (λ m. (s.sent - m) % 4) (sym own) ∙ k.aligned;
      enough = k.enough;
      few = k.few;
      is_placed = λ e. none_placed s (record s { start = Heard (pushed u octets); arrived = advanced s.arrived n }) rest.1;
      clear = λ e. subst (λ o. IfSome o (NoneReachesOver (record s { start = Heard (pushed u octets); arrived = advanced s.arrived n }))) (sym rest.1) tt;
      headed = k.headed;
      buffered = λ e r within. absurd (none_in s.early (k.unopened closed) r within);
      unopened = λ e. k.unopened closed;
      first = k.first;
      awaited = k.awaited;
    }

pub keeps_heard : (s : StreamState) (octets : List ℕ) (start : StartState) (arrived : Arrived) (early : List EarlyRecord) → awaits_frame s.start ≡ true
    → start ≡ heard s.start octets → first_place_out start ≡ first_place_out s.start → arrived ≡ advanced s.arrived (first_place_in start) → early ≡ [] → Keeps s
    → Keeps (record s { start = start; arrived = arrived; early = early })
keeps_heard s octets start arrived early awaits now out moved none k =
    subst (λ es. Keeps (record s { start = start; arrived = arrived; early = es })) (k.unopened (awaits_closed s.start awaits) ∙ sym none) (go s.start refl awaits now)
  where
    go : (x : StartState) → s.start ≡ x → awaits_frame x ≡ true → start ≡ heard x octets → Keeps (record s { start = start; arrived = arrived })
    go (AtOnce layout) is e n = absurd (false≢true e)
    go (Heard u) is e n = absurd (false≢true e)
    go (Unheard u) is e n =
        subst (λ a. Keeps (record s { start = start; arrived = a })) (sym moved)
        (subst (λ x. Keeps (record s { start = x; arrived = advanced s.arrived (first_place_in x) })) (sym n) (hears s u octets is (ap first_place_out (sym n) ∙ out) k))

-- ---- what is kept of a start-up
pub fresh_octets : (frames : Option StartupState) (was : Bool) (layout : Layout) (u : StartupState) → frames ≡ Some u → awaits_frame (start_by frames was layout) ≡ true → IsFresh (start_by frames was layout) → u.octets ≡ []
fresh_octets None was layout u is awaits f = absurd (false≢true awaits)
fresh_octets (Some v) true layout u is awaits f = absurd (false≢true awaits)
fresh_octets (Some v) false layout u is awaits f = let same : v ≡ u = cc in ap (λ (x : StartupState). x.octets) (sym same) ∙ f.0

-- what is read changes nothing of this end's own frame
own_pushed : (config : Config) (side : Side) (before after : List ℕ) → is_answered side ≡ false → own_frame config side after ≡ own_frame config side before
own_pushed config sides.Initiator before after e = refl
own_pushed config (sides.Responder None) before after e = refl
own_pushed config (sides.Responder (Some reply)) before after e = absurd (true≢false e)

frame_pushed : (u : StartupState) (octets : List ℕ) → is_answered u.side ≡ false → frame_of (pushed u octets) ≡ frame_of u
unfolding pushed
frame_pushed u octets e = own_pushed u.config u.side u.octets (pushed u octets).octets e

pub out_heard : (start : StartState) (octets : List ℕ) → IsFresh start → first_place_out (heard start octets) ≡ first_place_out start
out_heard (AtOnce layout) octets f = refl
out_heard (Unheard u) octets f = ap length (frame_pushed u octets f.1)
out_heard (Heard u) octets f = refl

no_some : {A : Type 0} (o : Option A) → is_some o ≡ false → o ≡ None
no_some None e = refl
no_some (Some x) e = absurd (true≢false e)

-- a Request that was rejected is not agreed on
rejects : (u : StartupState) (private : ArrayVec ℕ) → agreed_of (answered u (Reject private)) ≡ None
unfolding agreed_of
rejects u private = refl

pub start_rejected : (s : Inside) (u v : StartupState) (private : ArrayVec ℕ) → s.heard ≡ true → s.frames ≡ Some u → awaits_answer u ≡ true → v ≡ answered u (Reject private) → IsStart s → IsStart (record s { frames = Some v })
start_rejected s u v private was is asked now k =
    let before : start_of s ≡ Heard u = (λ i. start_by (is i) (was i) s.sending) in
    let none : agreed_of u ≡ None = no_some (agreed_of u) (waits u asked).closed in
    let after : start_of (record s { frames = Some v }) ≡ Heard (answered u (Reject private)) = (λ i. start_by (Some (now i)) (was i) s.sending) in
    let gone : agreed_of (answered u (Reject private)) ≡ agreed_of u = rejects u private ∙ sym none in
    record {
      fresh = subst IsFresh (sym after) tt;
      running_is = k.running_is ∙ ap is_open before ∙ ap is_some (sym gone) ∙ ap is_open (sym after);
      sending_is = k.sending_is ∙ ap starting.sending before ∙ ap (λ o. option_map_or starting.layout_out o starting.plain) (sym gone) ∙ ap starting.sending (sym after);
      expecting_is = k.expecting_is ∙ ap expecting before ∙ ap (λ o. option_map_or starting.layout_in o starting.plain) (sym gone) ∙ ap expecting (sym after);
      most_reads_is = k.most_reads_is ∙ ap most_reads_in before ∙ ap (λ (o : Option Agreed). option_map_or (λ agreed. agreed.ord) o most_reads) (sym gone) ∙ ap most_reads_in (sym after);
      rtr_is = k.rtr_is ∙ ap rtr_in before ∙ ap (λ (o : Option Agreed). option_map_or (λ agreed. agreed.rtr) o None) (sym gone) ∙ ap rtr_in (sym after);
    }

-- what an initiator learns is what was agreed on
pub told : (start : StartState) (octets : List ℕ) → IsFresh start → starting.progress_in start octets ≡ progress.Agreed → agreed_in (heard start octets) ≡ Some (agreement_in (heard start octets))
unfolding pushed
told (AtOnce layout) octets f e = absurd (let no : ⊥ = cc in no)
told (Heard u) octets f e = absurd (let no : ⊥ = cc in no)
told (Unheard u) octets f e = agreed_of-pushed u octets f.0 e ∙ ap (λ xs. Some (agreement u.config xs)) (sym (octets-pushed u octets f.0))

pub heard_is : (frames : Option StartupState) (was : Bool) (layout : Layout) (u : StartupState) (octets : List ℕ) → frames ≡ Some u → awaits_frame (start_by frames was layout) ≡ true → heard (start_by frames was layout) octets ≡ Heard (pushed u octets)
heard_is None was layout u octets is awaits = absurd (false≢true awaits)
heard_is (Some v) true layout u octets is awaits = absurd (false≢true awaits)
heard_is (Some v) false layout u octets is awaits = let same : v ≡ u = cc in ap (λ x. Heard (pushed x octets)) same

-- so it is told of the start-up that is left
pub told_of : (s : Inside) (start : StartState) (u v : StartupState) (octets : List ℕ) → start_of s ≡ start → s.frames ≡ Some u → awaits_frame start ≡ true → v ≡ pushed u octets → IsFresh (start_of s) → starting.progress_in start octets ≡ progress.Agreed
    → agreed_of v ≡ Some (agreement v.config v.octets)
told_of s start u v octets view is awaits now f e =
    let new : Heard v ≡ heard (start_of s) octets = ap Heard now ∙ sym (heard_is s.frames s.heard s.sending u octets is (ap awaits_frame view ∙ awaits)) in
    ap agreed_in new ∙ told (start_of s) octets f (ap (λ x. starting.progress_in x octets) view ∙ e) ∙ ap (λ x. Some (agreement_in x)) (sym new)

-- and leaves the layout of the peer's frames, and the place where they begin
pub expecting_rejected : (start : StartState) (private : ArrayVec ℕ) → starting.is_asked start ≡ true → expecting start ≡ expecting (answered_with start (Reject private))
expecting_rejected (AtOnce layout) private e = absurd (false≢true e)
expecting_rejected (Unheard u) private e = absurd (false≢true e)
expecting_rejected (Heard u) private e = ap (λ o. option_map_or starting.layout_in o starting.plain) (no_some (agreed_of u) (waits u e).closed ∙ sym (rejects u private))

pub first_answered : (start : StartState) (reply : Reply) → first_place_in start ≡ first_place_in (answered_with start reply)
first_answered (AtOnce layout) reply = refl
first_answered (Unheard u) reply = refl
first_answered (Heard u) reply = refl

-- a responder's user that may answer has a stream that is not open
pub asked_closed : (start : StartState) → starting.is_asked start ≡ true → is_open start ≡ false
asked_closed (AtOnce layout) e = absurd (false≢true e)
asked_closed (Unheard u) e = absurd (false≢true e)
asked_closed (Heard u) e = (waits u e).closed

-- an answer that is not refused is one to a Request that waits
pub asked_of : (start : StartState) (private : List ℕ) → None ≡ starting.answer_refusal start private → starting.is_asked start ≡ true
asked_of start private e = go (starting.is_asked start) (starting.exceeds_answer start private) e
  where
    go : (asked exceeds : Bool) → None ≡ cond (not asked) (Some NotAsked) (cond exceeds (Some PrivateTooLong) None) → asked ≡ true
    go true exceeds e = refl
    go false exceeds e = cc
