-- Frames that are judged before their turn, and those that were placed: what is so of each step of work by what is judged, and by what there is to do.
use Rattle.std.proofs.Common.{◌≡◌, ℕ, ◌≤◌, Bool, true, false, cond, List, length, Option, Some, None, Ok, Err, refl, sym, ap, ◌∙◌, subst, arith, inl, inr}
use Rattle.std.specs.Prelude.{nat_lt, ◌&&◌, Result, MatchOption}
use Rattle.std.specs.Option.{option_map, option_map_or}
use Rattle.std.proofs.lemmas.Bool.{true≢false, false≢true}
use Rattle.std.proofs.lemmas.Bool.Decides.{nat_tests}
use Rattle.std.proofs.lemmas.Option.{none-some, same_Some}
use Rattle.iw_octets.specs.declared.fault.Fault.{Fault}
use Rattle.iw_octets.specs.declared.segment.Segment.{Segment}
use Rattle.iw_octets.specs.declared.segment.Segment.TheVariants.{Tagged, Untagged}
use Rattle.iw_memory.specs.Table.{Table}
use Rattle.iw_ranges.proofs.InOrder.{floor_moves}
use Rattle.iw_fpdu.specs.declared.fpdu.Mismatch.{Mismatch}
use Rattle.iw_locate.specs.Free.{IsFree}
use Rattle.iw_locate.specs.Next.{IsLowest}
use Rattle.iw_locate.specs.Records.{max_records}
use Rattle.iw_locate.specs.Lowest.{early_place, lowest_free}
use Rattle.iw_locate.proofs.Telling.{lowest_is_told}
use Rattle.iw_rdmap.specs.declared.head.Head.{Head}
use Rattle.iw_rdmap.specs.declared.head.Head.TheVariants as heads
use Rattle.iw_stream.specs.declared.landing.Landing.{Landing}
use Rattle.iw_stream.specs.declared.landing.PlacedFrame.{PlacedFrame}
use Rattle.iw_stream.specs.Frames.{Frame, segment_in, payload_of, payload_len, placed, head_in}
use Rattle.iw_stream.specs.Judging.{Standing, verdict, early_verdict, head_verdict, judged_head, may_be_early, landing_in, fault_or, mismatch_fault, turn_of, segment_turn}
use Rattle.iw_stream.specs.Kept.{IsTagged}
use Rattle.iw_stream.specs.Starting.{StartState, AtOnce, Unheard, Heard, is_open, awaits_frame, expecting, first_place_in}
use Rattle.iw_events.specs.declared.act.Seen.{Seen}
use Rattle.iw_events.specs.declared.act.Seen.TheVariants as seen
use Rattle.iw_events.specs.declared.act.Entry.{Entry}
use Rattle.iw_events.specs.declared.act.Act.{Act}
use Rattle.iw_events.specs.declared.act.StreamAct.{StreamAct}
use Rattle.iw_laws.specs.Words.{Octets, deed, acts, stream_acts, ended, OnSome, OnStream, of_stream}
use Rattle.iw_laws.specs.Turns.{Story, in_order_point, scene, next_frame, early_frame, seen_tried, seen_turned, IsJudged, IsEarly, HasTurn, TurnsSeen, TurnsStream, Turns, story_of, standing}
use Rattle.iw_laws.specs.Rest.{HasRest, Over, AwaitsFrame, AwaitsAnswer, NoFrame, IdleSeen, IdleStream, IdleOnlyAtRest}
use Rattle.iw_laws.specs.Early.{NoneIsFree, HasPlace, CanBePlaced, IsJudgedEarly, EarlySeen, EarlyStream, JudgesEarly, TurnsPlaced, SecondSeen, SecondStream, ChecksOnce}
use Rattle.iw_laws.proofs.Seeing.{early_lands}

-- ---- where there is nothing to do

not_both : (z : StartState) → is_open z ≡ true → awaits_frame z ≡ true → ⊥
not_both (AtOnce layout) o w = false≢true w
not_both (Unheard u) o w = false≢true o
not_both (Heard u) o w = false≢true w

unmapped : {A B : Type 0} (f : A → B) (o : Option A) → option_map f o ≡ None → o ≡ None
unmapped f None e = refl
unmapped f (Some x) e = absurd (none-some _ (sym e))

none_free : (t : Story) → (expecting t.start).markers ≡ true → early_frame t ≡ None → NoneIsFree t
none_free t marked none = go (expecting t.start).markers marked (nat_lt (length t.early) max_records) refl (lowest_free (scene t)) refl (unmapped _ (early_place (scene t)) none)
  where
    based : (scene t).base ≤ (scene t).arrived.floor
    based = omega (arith, floor_moves t.came (in_order_point t))

    told : (o : Option ℕ) → o ≡ None → MatchOption o ((place : ℕ) → IsFree (scene t) place → ⊥) (λ place. IsLowest (scene t) place) → (place : ℕ) → IsFree (scene t) place → ⊥
    told None e m = m
    told (Some place) e m = absurd (none-some _ (sym e))

    go : (marks : Bool) → marks ≡ true → (room : Bool) → nat_lt (length t.early) max_records ≡ room → (o : Option ℕ) → lowest_free (scene t) ≡ o → cond (marks && room) o None ≡ None → NoneIsFree t
    go false m room e o l h = absurd (false≢true m)
    go true m false e o l h = inr (grind (arith, nat_tests))
    go true m true e o l h = inl (told (lowest_free (scene t)) (l ∙ h) (lowest_is_told (scene t) based))

rests : (over : Bool) (t : Story) → HasRest over t → over ≡ false → is_open t.start ≡ true → (expecting t.start).markers ≡ true → NoneIsFree t
rests over t (Over e) runs o m = absurd (true≢false (sym e ∙ runs))
rests over t (AwaitsFrame f) runs o m = absurd (not_both t.start o f.awaited)
rests over t (AwaitsAnswer shut w) runs o m = absurd (true≢false (sym o ∙ shut))
rests over t (NoFrame now none early) runs o m = none_free t m early

-- ---- before its turn

-- a frame that passes its checks, and whose payload has a place to go to, may be placed before its turn
early_of : (s : Standing) (frame : Frame) (at : Landing) → verdict s frame ≡ Ok at → HasPlace at → early_verdict s frame ≡ Some at
early_of s frame at e place = go (judged_head s frame.ulpdu) refl
  where
    n : ℕ
    n = length (payload_of (segment_in frame))

    -- where the payload goes, of a header that says so
    whole : (h : Result Head Fault) → judged_head s frame.ulpdu ≡ h → option_map_or (λ m. Err (mismatch_fault m)) frame.mismatch (head_verdict s h n) ≡ Ok at
    whole h is = ap (λ r. option_map_or (λ m. Err (mismatch_fault m)) frame.mismatch (head_verdict s r n)) (sym is) ∙ e

    not_so : (m : Option Mismatch) (f : Option Fault) (x : Landing) → (HasPlace x → ⊥) → option_map_or (λ w. Err (mismatch_fault w)) m (fault_or f x) ≡ Ok at → ⊥
    not_so (Some wrong) f x other h = cc
    not_so None (Some fault) x other h = cc
    not_so None None x other h = other (subst HasPlace (let same : at ≡ x = cc (sym h) in same) place)

    faulty : (m : Option Mismatch) (f : Fault) → option_map_or (λ w. Err (mismatch_fault w)) m (Err f) ≡ Ok at → ⊥
    faulty (Some wrong) f h = cc
    faulty None f h = cc

    go : (h : Result Head Fault) → judged_head s frame.ulpdu ≡ h → cond (may_be_early h) (landing_in (verdict s frame)) None ≡ Some at
    go (Err fault) is = absurd (faulty frame.mismatch fault (whole (Err fault) is))
    go (Ok (heads.Write head)) is = ap landing_in e
    go (Ok (heads.Response head)) is = ap landing_in e
    go (Ok (heads.Send head)) is = ap landing_in e
    go (Ok (heads.Request head request)) is = absurd (not_so frame.mismatch _ _ (λ z. z) (whole (Ok (heads.Request head request)) is))
    go (Ok (heads.Terminate head word)) is = absurd (not_so frame.mismatch None _ (λ z. z) (whole (Ok (heads.Terminate head word)) is))

not_placed : (s : Standing) (frame : Frame) → (CanBePlaced s frame → ⊥) → early_verdict s frame ≡ None
not_placed s frame none = go (early_verdict s frame) refl
  where
    go : (o : Option Landing) → early_verdict s frame ≡ o → o ≡ None
    go None e = refl
    go (Some at) e = let w = early_lands s frame at e in absurd (none (at, w.0, w.1))

judged_early : (t : Story) (s : Standing) (step : Seen Octets) → IsEarly t s step → IsJudgedEarly t s step
judged_early t s step w = record {
  frame = w.frame;
  no_next = w.no_next;
  lowest = w.is_early;
  placed = λ at e place. w.answer ∙ ap (seen_tried (first_place_in t.start) w.frame) (early_of s w.frame at e place);
  left = λ none. w.answer ∙ ap (seen_tried (first_place_in t.start) w.frame) (not_placed s w.frame none);
}

-- a frame that is judged when its turn is next is whole
next_whole : (t : Story) (s : Standing) (step : Seen Octets) → IsJudged t s step → next_frame t ≡ None → ⊥
next_whole t s step w none = none-some _ (sym none ∙ w.is_next)

pub early_seen : (over : Bool) (t : Story) (s : Standing) (before : List (StreamAct Octets)) (step : Seen Octets) → IdleSeen over t before step → TurnsSeen over t s step → EarlySeen over t s step
early_seen over t s before seen.Idle i w = rests over t i.reason
early_seen over t s before (seen.Placed right stag to octets) i w =
    λ none. elim w.1 [ inl judged ↦ absurd (next_whole t s (seen.Placed right stag to octets) judged none) | inr early ↦ judged_early t s (seen.Placed right stag to octets) early ]
early_seen over t s before (seen.Buffered msn mo len) i w =
    λ none. elim w.1 [ inl judged ↦ absurd (next_whole t s (seen.Buffered msn mo len) judged none) | inr early ↦ judged_early t s (seen.Buffered msn mo len) early ]
early_seen over t s before (seen.Tried place) i w = judged_early t s (seen.Tried place) w.1
early_seen over t s before (seen.Done kind) i w = tt
early_seen over t s before (seen.Flushed kind) i w = tt
early_seen over t s before (seen.FlushedRecv octets) i w = tt
early_seen over t s before (seen.Asked word private) i w = tt
early_seen over t s before (seen.Opened agreed word private) i w = tt
early_seen over t s before (seen.Closed fault) i w = tt
early_seen over t s before (seen.Requested size stag to) i w = tt
early_seen over t s before seen.Passed i w = tt
early_seen over t s before (seen.Received octets solicited invalidate) i w = tt
early_seen over t s before (seen.Terminated fault) i w = tt
early_seen over t s before (seen.Fault fault) i w = tt

-- ---- at its turn

-- the turn of a tagged segment looks at no region
any_table : (s : Standing) (frame : PlacedFrame) (table : Table) → IsTagged (head_in frame) → turn_of s frame ≡ turn_of (record s { table = table }) frame
any_table s frame table tagged = go (head_in frame) tagged
  where
    go : (o : Option (Segment Octets)) → IsTagged o → segment_turn s.table s.peer s.receiving s.reads (payload_len frame) o ≡ segment_turn table s.peer s.receiving s.reads (payload_len frame) o
    go None h = absurd h
    go (Some (Tagged head payload)) h = refl
    go (Some (Untagged head payload)) h = absurd h

alone : (t : Story) (s : Standing) (step : Seen Octets) → HasTurn t s step → TurnsPlaced t s step
alone t s step w was frame next =
    let same : w.frame ≡ frame = same_Some _ _ (sym w.is_next ∙ next) in
    let answer : step ≡ seen_turned s.receiving (placed frame) (turn_of s (placed frame)) = w.answer ∙ ap (λ f. seen_turned s.receiving (placed f) (turn_of s (placed f))) same in
    record { answer = answer; anyway = λ tagged table. answer ∙ ap (seen_turned s.receiving (placed frame)) (any_table s (placed frame) table tagged) }

not_judged : (t : Story) (s : Standing) (step : Seen Octets) → IsJudged t s step → TurnsPlaced t s step
not_judged t s step w was = absurd (false≢true (sym w.unplaced ∙ was))

not_early : (t : Story) (s : Standing) (step : Seen Octets) → IsEarly t s step → TurnsPlaced t s step
not_early t s step w was frame next = absurd (none-some _ (sym w.no_next ∙ next))

pub second_seen : (over : Bool) (t : Story) (s : Standing) (step : Seen Octets) → TurnsSeen over t s step → SecondSeen t s step
second_seen over t s (seen.Placed right stag to octets) w =
    elim w.1 [ inl judged ↦ not_judged t s (seen.Placed right stag to octets) judged | inr early ↦ not_early t s (seen.Placed right stag to octets) early ]
second_seen over t s (seen.Buffered msn mo len) w =
    elim w.1 [ inl judged ↦ not_judged t s (seen.Buffered msn mo len) judged | inr early ↦ not_early t s (seen.Buffered msn mo len) early ]
second_seen over t s (seen.Requested size stag to) w = not_judged t s (seen.Requested size stag to) w.1
second_seen over t s (seen.Tried place) w = not_early t s (seen.Tried place) w.1
second_seen over t s seen.Passed w = alone t s seen.Passed w.1
second_seen over t s (seen.Received octets solicited invalidate) w = alone t s (seen.Received octets solicited invalidate) w.1
second_seen over t s (seen.Terminated fault) w = not_judged t s (seen.Terminated fault) w.1
second_seen over t s (seen.Fault fault) (inl heard) = λ was. absurd (false≢true (sym heard.unplaced ∙ was))
second_seen over t s (seen.Fault fault) (inr (reads, inl judged)) = not_judged t s (seen.Fault fault) judged
second_seen over t s (seen.Fault fault) (inr (reads, inr turned)) = alone t s (seen.Fault fault) turned
second_seen over t s (seen.Done kind) w = tt
second_seen over t s (seen.Flushed kind) w = tt
second_seen over t s (seen.FlushedRecv octets) w = tt
second_seen over t s (seen.Asked word private) w = tt
second_seen over t s (seen.Opened agreed word private) w = tt
second_seen over t s (seen.Closed fault) w = tt
second_seen over t s seen.Idle w = tt

-- ---- of whole traces

early_act : (before : List (Act Octets)) (act : Act Octets) → OnStream IdleStream before act → OnStream TurnsStream before act → OnStream EarlyStream before act
early_act before act i w = go (of_stream act) i w
  where
    at : (n : ℕ) (o : Option (Seen Octets)) → OnSome (IdleSeen (ended (stream_acts n before)) (story_of n before) (stream_acts n before)) o → OnSome (TurnsSeen (ended (stream_acts n before)) (story_of n before) (standing n before)) o
        → OnSome (EarlySeen (ended (stream_acts n before)) (story_of n before) (standing n before)) o
    at n None i w = tt
    at n (Some step) i w = early_seen (ended (stream_acts n before)) (story_of n before) (standing n before) (stream_acts n before) step i w

    go : (o : Option (ℕ × StreamAct Octets)) → OnSome (λ x. IdleStream before x.0 x.1) o → OnSome (λ x. TurnsStream before x.0 x.1) o → OnSome (λ x. EarlyStream before x.0 x.1) o
    go None i w = tt
    go (Some (n, act)) i w = at n (deed act).step i w

second_act : (before : List (Act Octets)) (act : Act Octets) → OnStream TurnsStream before act → OnStream SecondStream before act
second_act before act w = go (of_stream act) w
  where
    at : (n : ℕ) (o : Option (Seen Octets)) → OnSome (TurnsSeen (ended (stream_acts n before)) (story_of n before) (standing n before)) o → OnSome (SecondSeen (story_of n before) (standing n before)) o
    at n None w = tt
    at n (Some step) w = second_seen (ended (stream_acts n before)) (story_of n before) (standing n before) step w

    go : (o : Option (ℕ × StreamAct Octets)) → OnSome (λ x. TurnsStream before x.0 x.1) o → OnSome (λ x. SecondStream before x.0 x.1) o
    go None w = tt
    go (Some (n, act)) w = at n (deed act).step w

pub judges_early : (trace : List (Entry Octets)) → IdleOnlyAtRest trace → Turns trace → JudgesEarly trace
judges_early trace idle turns past e future is = early_act (acts e.end past) e.act (idle past e future is) (turns past e future is)

pub checks_once : (trace : List (Entry Octets)) → Turns trace → ChecksOnce trace
checks_once trace turns past e future is = second_act (acts e.end past) e.act (turns past e future is)
