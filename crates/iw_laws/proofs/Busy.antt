-- Each step of work that is not idle takes something off what there is to do.
use Rattle.std.proofs.Common.{◌≡◌, inl, inr, ℕ, zero, suc, ◌+◌, ◌-◌, ◌<◌, ◌≤◌, List, [], ◌∷◌, ◌++◌, length, take, drop, Option, Some, None, Bool, true, false, cond, refl, sym, ap, ◌∙◌, subst, arith, append_assoc, ◌&&◌, length-append}
use Rattle.std.specs.Prelude.{slice_get, is_some, nat_lt, nat_eq, ◌||◌}
use Rattle.std.specs.Option.{option_map, option_map_or}
use Rattle.std.proofs.lemmas.Bool.{true≢false, false≢true}
use Rattle.std.proofs.lemmas.Bool.Decides.{nat_tests, eqb_tells}
use Rattle.std.proofs.lemmas.List.Concat.{flat_map-append}
use Rattle.std.proofs.lemmas.List.{append-nil, length-drop}
use Rattle.std.specs.List.{count_by}
use Rattle.std.proofs.lemmas.List.Edits.{length-insert}
use Rattle.std.proofs.lemmas.List.Sums.{count_by-le-length}
use Rattle.std.proofs.lemmas.Option.{none-some, slice_get_within}
use Rattle.arrayvec.specs.ArrayVec.{ArrayVec}
use Rattle.iw_ranges.specs.Arrived.{Cell, Missing, Here, Gone, held, in_order}
use Rattle.iw_fpdu.specs.declared.layout.Layout.{Layout}
use Rattle.iw_fpdu.specs.Laws.{IsBetween}
use Rattle.iw_fpdu.specs.Sequence.{Carried, first_frame}
use Rattle.iw_fpdu.proofs.Follows.{frames_follow}
use Rattle.iw_fpdu.proofs.Sequences.{first_takes}
use Rattle.iw_locate.specs.Records.{max_records, added}
use Rattle.iw_locate.specs.Free.{front_of}
use Rattle.iw_locate.specs.declared.judged.State.{State}
use Rattle.iw_locate.specs.declared.judged.State.TheVariants as states
use Rattle.iw_locate.specs.Lowest.{early_place, lowest_free}
use Rattle.iw_queues.specs.declared.request.Request.{Request}
use Rattle.iw_queues.specs.declared.request.Kind.{Kind}
use Rattle.iw_stream.specs.Judging.{Standing}
use Rattle.iw_stream.specs.Frames.{Frame, EarlyRecord, record_of, placed, placed_at}
use Rattle.iw_stream.specs.Starting.{StartState, AtOnce, Unheard, Heard, is_open, awaits_frame, heard, expecting, first_place_in}
use Rattle.iw_events.specs.declared.call.End.{End}
use Rattle.iw_events.specs.declared.call.End.TheVariants.{A, B}
use Rattle.iw_events.specs.declared.act.Act.{Act}
use Rattle.iw_events.specs.declared.act.Act.TheVariants.{Domain, Register, Deregister, Invalidate, Store, Open, Share, Pool, Unpool, OpenShared, Stream}
use Rattle.iw_events.specs.declared.act.StreamAct.{StreamAct}
use Rattle.iw_events.specs.declared.act.StreamAct.TheVariants.{Work}
use Rattle.iw_events.specs.declared.act.Seen.{Seen}
use Rattle.iw_events.specs.declared.act.Seen.TheVariants as seen
use Rattle.iw_events.specs.declared.act.Entry.{Entry}
use Rattle.iw_laws.specs.Words.{Octets, Opening, other, acts, acts_if, deed, was_opened, opening_in, opening_of, openings, openings_by, stream_acts, stream_acts_by, ended, posted, posted_by, handed_by, handed_kinds, OnSome, AtEach, OnStream}
use Rattle.iw_laws.specs.Turns.{Story, Located, located, located_of, located_within, past_last, frames_in, next_frame, in_order_point, scene, early_frame, was_placed, story, story_alone, story_of, receiving_of, story_seen, standing, moves_on, hears, TurnsSeen}
use Rattle.iw_laws.specs.Turns as turns
use Rattle.iw_laws.specs.Ends.{EndSeen, EndsStream, Ends}
use Rattle.iw_laws.specs.Sends.{FinishedStream, Finished}
use Rattle.iw_laws.specs.Busy.{places_ahead, waits, front_steps, messages_left, steps_left, steps_at, IsBusy, AreBusy}
use Rattle.iw_memory.specs.declared.peer.Peer.{Peer}
use Rattle.iw_memory.specs.Table.{Table}
use Rattle.iw_laws.proofs.Tales.{Tale, tale_of, tale_after, tale-push, openings-push, stream_acts-push, acts_mine, acts_other, story_apart}
use Rattle.iw_laws.proofs.Ends.{opens_same}

-- ---- the in-order point moves on with each turn, and stays within what came

held_few : (cells : List Cell) → length (held cells) ≤ length cells
unfolding held
held_few [] = omega arith
held_few (Missing ∷ cells) = omega arith
held_few (Here x ∷ cells) = omega (arith, held_few cells)
held_few (Gone ∷ cells) = omega arith

-- the end of one more of the frames
record IsPast (at : ℕ) (fs : List Located) (k : ℕ) (octets : Octets) : Type 0 where
  pub more : past_last at (take k fs) < past_last at (take (suc k) fs)
  pub most : past_last at (take (suc k) fs) ≤ at + length octets

moves : (n : ℕ) (layout : Layout) (at : ℕ) (octets : Octets) (k : ℕ) → IsBetween layout.markers at → k < length (located_within n layout at octets) → IsPast at (located_within n layout at octets) k octets
unfolding located_within
moves zero layout at octets k b some = absurd (omega (arith, some))
moves (suc n) layout at octets k b some = go (moves n layout) (first_frame layout at octets) refl k some
  where
    go : ((at : ℕ) (octets : Octets) (k : ℕ) → IsBetween layout.markers at → k < length (located_within n layout at octets) → IsPast at (located_within n layout at octets) k octets)
        → (o : Option (Carried × Octets)) → first_frame layout at octets ≡ o → (k : ℕ)
        → k < length (option_map_or (λ (first : Carried × Octets). located layout at octets first.0 first.1 ∷ located_within n layout (at + (length octets - length first.1)) first.1) o [])
        → IsPast at (option_map_or (λ (first : Carried × Octets). located layout at octets first.0 first.1 ∷ located_within n layout (at + (length octets - length first.1)) first.1) o []) k octets
    go others None e k some = absurd (omega (arith, some))
    go others (Some first) e zero some = let t = first_takes layout at octets first.0 first.1 b e in record { more = omega (arith, t.shorter); most = omega (arith, t.shorter) }
    go others (Some first) e (suc k) some =
        let t = first_takes layout at octets first.0 first.1 b e in
        let r = others (at + (length octets - length first.1)) first.1 k t.next (omega (arith, some)) in
        record { more = r.more; most = omega (arith, r.most, t.shorter) }

there : (fs : List Located) (k : ℕ) (f : Frame) → option_map (λ (g : Located). g.frame) (slice_get fs k) ≡ Some f → k < length fs
there [] k f e = absurd (none-some _ e)
there (g ∷ fs) zero f e = omega arith
there (g ∷ fs) (suc k) f e = omega (arith, there fs k f e)

-- the frame whose turn is next takes it on
record MovesOn (t : Story) : Type 0 where
  pub more : in_order_point t < in_order_point (moves_on t)
  pub most : in_order_point (moves_on t) ≤ length t.came.cells

moves_further : (t : Story) (frame : Frame) → next_frame t ≡ Some frame → MovesOn t
moves_further t frame next =
    let layout : Layout = expecting t.start in
    let base : ℕ = first_place_in t.start in
    let octets : Octets = drop base (in_order t.came) in
    let k : t.turns < length (frames_in t) = there (frames_in t) t.turns frame next in
    let r : IsPast 0 (frames_in t) t.turns octets = moves (length octets) layout 0 octets t.turns (frames_follow.first layout.markers) k in
    let one : past_last 0 (take (t.turns + 1) (frames_in t)) ≡ past_last 0 (take (suc t.turns) (frames_in t)) = ap (λ n. past_last 0 (take n (frames_in t))) (let same : t.turns + 1 ≡ suc t.turns = omega arith in same) in
    let size : length octets ≡ length (in_order t.came) - base = length-drop base (in_order t.came) in
    record { more = omega (arith, r.more, one); most = omega (arith, r.more, r.most, one, size, held_few t.came.cells) }

-- ---- records

length-added : (rs : List EarlyRecord) (r : EarlyRecord) → length (added rs r) ≡ suc (length rs)
length-added rs r = length-insert rs (count_by (λ (x : EarlyRecord). nat_lt x.start r.start) rs) r (count_by-le-length (λ (x : EarlyRecord). nat_lt x.start r.start) rs) ∙ omega arith

mapped : {A B : Type 0} (f : A → B) (o : Option A) (y : B) → option_map f o ≡ Some y → is_some o ≡ true
mapped f None y e = absurd (none-some _ e)
mapped f (Some x) y e = refl

-- where a frame is judged early there is room for a record
early_room : (t : Story) (frame : Frame) → early_frame t ≡ Some frame → length t.early < max_records
early_room t frame e = go (scene t).layout.markers (nat_lt (length t.early) max_records) refl (lowest_free (scene t)) (mapped _ (early_place (scene t)) frame e)
  where
    go : (marks room : Bool) → nat_lt (length t.early) max_records ≡ room → (o : Option ℕ) → is_some (cond (marks && room) o None) ≡ true → length t.early < max_records
    go false room m o h = absurd (false≢true h)
    go true false m o h = absurd (false≢true h)
    go true true m o h = grind (arith, nat_tests)

one_record : (t : Story) (frame : Frame) (state : Frame → State (ArrayVec ℕ)) → early_frame t ≡ Some frame → length (turns.early_with t state) ≡ suc (length t.early)
one_record t frame state e = ap (λ o. length (option_map_or (λ f. added t.early (record_of f (state f))) o t.early)) e ∙ length-added t.early (record_of frame (state frame))

-- ---- one step

abbrev none_placed : (waits : Bool) → ℕ
none_placed waits = cond waits 0 1

few_placed : (b : Bool) → none_placed b ≤ 1
few_placed true = omega arith
few_placed false = omega arith

not_both : (z : StartState) → is_open z ≡ true → awaits_frame z ≡ false
not_both (AtOnce layout) o = refl
not_both (Unheard u) o = absurd (false≢true o)
not_both (Heard u) o = refl

quiet : (z : StartState) (octets : Octets) → awaits_frame (heard z octets) ≡ false
quiet (AtOnce layout) octets = refl
quiet (Unheard u) octets = refl
quiet (Heard u) octets = refl

-- so many messages are finished by it
abbrev pub finishes : Seen Octets → ℕ
finishes (seen.Done kind) = 1
finishes (seen.Flushed kind) = 0
finishes (seen.FlushedRecv octets) = 0
finishes (seen.Asked told private) = 0
finishes (seen.Opened agreed told private) = 0
finishes (seen.Closed fault) = 0
finishes (seen.Placed right stag to octets) = 0
finishes (seen.Buffered msn mo len) = 0
finishes (seen.Requested size stag to) = 0
finishes (seen.Tried place) = 0
finishes seen.Passed = 0
finishes (seen.Received octets solicited invalidate) = 0
finishes (seen.Terminated fault) = 0
finishes (seen.Fault fault) = 0
finishes seen.Idle = 0

abbrev Less : Story → Story → ℕ → ℕ → Type 0
Less t t' m m' = steps_left t' m' + 1 ≤ steps_left t m

-- the peer's start-up frame is read
hears_less : (t : Story) (m m' : ℕ) → m' ≤ m → awaits_frame t.start ≡ true → Less t (hears t) m m'
hears_less t m m' few awaits =
    let after : awaits_frame (heard t.start (in_order t.came)) ≡ false = quiet t.start (in_order t.came) in
    let before_front : front_steps t ≡ 2 = ap (λ b. cond b 2 (none_placed (waits t))) awaits in
    let after_front : front_steps (hears t) ≡ none_placed (waits (hears t)) = ap (λ b. cond b 2 (none_placed (waits (hears t)))) after in
    let before_ahead : places_ahead t ≡ length t.came.cells = ap (λ b. cond b (length t.came.cells) (length t.came.cells - in_order_point t)) awaits in
    let after_ahead : places_ahead (hears t) ≡ length t.came.cells - in_order_point (hears t) = ap (λ b. cond b (length t.came.cells) (length t.came.cells - in_order_point (hears t))) after in
    omega (arith, few, before_front, after_front, few_placed (waits (hears t)), before_ahead, after_ahead)

-- a frame has its turn
turn_less : (t : Story) (frame : Frame) (m m' : ℕ) → m' ≤ m → is_open t.start ≡ true → next_frame t ≡ Some frame → Less t (moves_on t) m m'
turn_less t frame m m' few started next =
    let heard_is : awaits_frame t.start ≡ false = not_both t.start started in
    let r : MovesOn t = moves_further t frame next in
    let after_front : front_steps (moves_on t) ≡ none_placed (waits (moves_on t)) = ap (λ b. cond b 2 (none_placed (waits (moves_on t)))) heard_is in
    let before_ahead : places_ahead t ≡ length t.came.cells - in_order_point t = ap (λ b. cond b (length t.came.cells) (length t.came.cells - in_order_point t)) heard_is in
    let after_ahead : places_ahead (moves_on t) ≡ length t.came.cells - in_order_point (moves_on t) = ap (λ b. cond b (length t.came.cells) (length t.came.cells - in_order_point (moves_on t))) heard_is in
    omega (arith, few, after_front, few_placed (waits (moves_on t)), before_ahead, after_ahead, r.more, r.most)

-- it is placed at the in-order point
front_less : (t : Story) (frame : Frame) (m m' : ℕ) → m' ≤ m → is_open t.start ≡ true → next_frame t ≡ Some frame → was_placed t ≡ false → Less t (turns.places t) m m'
front_less t frame m m' few started next unplaced =
    let heard_is : awaits_frame t.start ≡ false = not_both t.start started in
    let none : t.placed ≡ false = first_of t.placed (is_some (placed_at t.early (front_of (scene t)))) unplaced in
    let before_front : front_steps t ≡ 1 = λ i. cond (heard_is i) 2 (none_placed (none i && is_some (next_frame t))) in
    let after_front : front_steps (turns.places t) ≡ 0 = λ i. cond (heard_is i) 2 (none_placed (is_some (next i) && is_some (next i))) in
    let early : length (turns.places t).early ≡ length t.early = ap (λ o. length (cond (is_some o) t.early (turns.early_with t (λ f. states.Placed (placed f).header)))) next in
    omega (arith, few, before_front, after_front, early)
  where
    first_of : (a b : Bool) → (a || b) ≡ false → a ≡ false
    first_of false b h = refl
    first_of true b h = absurd (true≢false h)

-- it is placed before its turn
early_less : (t : Story) (frame : Frame) (m m' : ℕ) → m' ≤ m → is_open t.start ≡ true → next_frame t ≡ None → early_frame t ≡ Some frame → Less t (turns.places t) m m'
early_less t frame m m' few started none lowest =
    let heard_is : awaits_frame t.start ≡ false = not_both t.start started in
    let before_front : front_steps t ≡ 1 = (λ i. cond (heard_is i) 2 (none_placed (t.placed && is_some (none i)))) ∙ ap none_placed (never t.placed) in
    let after_front : front_steps (turns.places t) ≡ 1 = λ i. cond (heard_is i) 2 (none_placed (is_some (none i) && is_some (none i))) in
    let early : length (turns.places t).early ≡ suc (length t.early) =
    ap (λ o. length (cond (is_some o) t.early (turns.early_with t (λ f. states.Placed (placed f).header)))) none ∙ one_record t frame (λ f. states.Placed (placed f).header) lowest in
    omega (arith, few, before_front, after_front, early, early_room t frame lowest)
  where
    never : (b : Bool) → (b && false) ≡ false
    never true = refl
    never false = refl

-- it is left
tried_less : (t : Story) (frame : Frame) (m m' : ℕ) → m' ≤ m → early_frame t ≡ Some frame → Less t (record t { early = turns.early_with t (λ f. states.Tried) }) m m'
tried_less t frame m m' few lowest = omega (arith, few, one_record t frame (λ f. states.Tried) lowest, early_room t frame lowest)

less : (t : Story) (s : Standing) (done : List (StreamAct Octets)) (step : Seen Octets) (m m' : ℕ) → TurnsSeen false t s step → EndSeen false t done step → (step ≡ seen.Idle → ⊥) → (deed (Work step)).ends ≡ false → m' + finishes step ≤ m
    → Less t (story_seen t step) m m'
less t s done (seen.Done kind) m m' turned over busy runs few = omega (arith, few)
less t s done (seen.Flushed kind) m m' turned over busy runs few = absurd (false≢true over.over_so)
less t s done (seen.FlushedRecv octets) m m' turned over busy runs few = absurd (false≢true over.over_so)
less t s done (seen.Asked told private) m m' turned over busy runs few = hears_less t m m' (omega (arith, few)) turned.0.awaited
less t s done (seen.Opened agreed told private) m m' turned over busy runs few = hears_less t m m' (omega (arith, few)) turned.0.hears_it.awaited
less t s done (seen.Closed fault) m m' turned over busy runs few = absurd (true≢false runs)
less t s done (seen.Placed right stag to octets) m m' turned over busy runs few = elim turned.1 [
  | inl j ↦ front_less t j.frame m m' (omega (arith, few)) turned.0.open_now j.is_next j.unplaced
  | inr j ↦ early_less t j.frame m m' (omega (arith, few)) turned.0.open_now j.no_next j.is_early
]
less t s done (seen.Buffered msn mo len) m m' turned over busy runs few = elim turned.1 [
  | inl j ↦ front_less t j.frame m m' (omega (arith, few)) turned.0.open_now j.is_next j.unplaced
  | inr j ↦ early_less t j.frame m m' (omega (arith, few)) turned.0.open_now j.no_next j.is_early
]
less t s done (seen.Requested size stag to) m m' turned over busy runs few = turn_less t turned.1.frame m m' (omega (arith, few)) turned.0.open_now turned.1.is_next
less t s done (seen.Tried place) m m' turned over busy runs few = tried_less t turned.1.frame m m' (omega (arith, few)) turned.1.is_early
less t s done seen.Passed m m' turned over busy runs few = turn_less t turned.1.frame m m' (omega (arith, few)) turned.0.open_now turned.1.is_next
less t s done (seen.Received octets solicited invalidate) m m' turned over busy runs few = turn_less t turned.1.frame m m' (omega (arith, few)) turned.0.open_now turned.1.is_next
less t s done (seen.Terminated fault) m m' turned over busy runs few = absurd (true≢false runs)
less t s done (seen.Fault fault) m m' turned over busy runs few = absurd (true≢false runs)
less t s done seen.Idle m m' turned over busy runs few = absurd (busy refl)

-- ---- a step of a trace

story_push : (n : ℕ) (done : List (Act Octets)) (step : Seen Octets) → tale_of (opening_of n (done ++ Stream n (Work step) ∷ [])) (stream_acts n (done ++ Stream n (Work step) ∷ [])) ≡ tale_after (tale_of (opening_of n done) (stream_acts n done)) (Work step)
story_push n done step =
    let act : Act Octets = Stream n (Work step) in
    let mine : nat_eq n n ≡ true = grind (arith, nat_tests) in
    let acts_are : stream_acts n (done ++ act ∷ []) ≡ stream_acts n done ++ Work step ∷ [] = stream_acts-push n done act ∙ ap (λ b. stream_acts n done ++ cond b (Work step ∷ []) []) mine in
    (λ i. tale_of (opening_in (opens_same n done act refl i)) (acts_are i)) ∙ tale-push (opening_of n done) (stream_acts n done) (Work step)

-- the messages that are left
messages_push : (posts : List (Request Octets)) (kinds : List Kind) (step : Seen Octets) → (finishes step ≡ 1 → length kinds < length posts)
    → length (posts ++ posted_by (Work step)) - length (kinds ++ handed_by (Work step)) + finishes step ≤ length posts - length kinds
messages_push posts kinds step some = omega (arith, ap length (append-nil posts), length-append kinds (handed_by (Work step)), go step some)
  where
    go : (step : Seen Octets) → (finishes step ≡ 1 → length kinds < length posts) → length posts - (length kinds + length (handed_by (Work step))) + finishes step ≤ length posts - length kinds
    go (seen.Done kind) some = omega (arith, some refl)
    go (seen.Flushed kind) some = omega arith
    go (seen.FlushedRecv octets) some = omega arith
    go (seen.Asked told private) some = omega arith
    go (seen.Opened agreed told private) some = omega arith
    go (seen.Closed fault) some = omega arith
    go (seen.Placed right stag to octets) some = omega arith
    go (seen.Buffered msn mo len) some = omega arith
    go (seen.Requested size stag to) some = omega arith
    go (seen.Tried place) some = omega arith
    go seen.Passed some = omega arith
    go (seen.Received octets solicited invalidate) some = omega arith
    go (seen.Terminated fault) some = omega arith
    go (seen.Fault fault) some = omega arith
    go seen.Idle some = omega arith

-- a message that is finished was not handed back before
some_left : (n : ℕ) (done : List (Act Octets)) (step : Seen Octets) → FinishedStream done n (Work step) → finishes step ≡ 1 → length (handed_kinds (stream_acts n done)) < length (posted (stream_acts n done))
some_left n done (seen.Done kind) h e = slice_get_within (posted (stream_acts n done)) (length (handed_kinds (stream_acts n done))) h.message h.is
some_left n done (seen.Flushed kind) h e = absurd (omega (arith, e))
some_left n done (seen.FlushedRecv octets) h e = absurd (omega (arith, e))
some_left n done (seen.Asked told private) h e = absurd (omega (arith, e))
some_left n done (seen.Opened agreed told private) h e = absurd (omega (arith, e))
some_left n done (seen.Closed fault) h e = absurd (omega (arith, e))
some_left n done (seen.Placed right stag to octets) h e = absurd (omega (arith, e))
some_left n done (seen.Buffered msn mo len) h e = absurd (omega (arith, e))
some_left n done (seen.Requested size stag to) h e = absurd (omega (arith, e))
some_left n done (seen.Tried place) h e = absurd (omega (arith, e))
some_left n done seen.Passed h e = absurd (omega (arith, e))
some_left n done (seen.Received octets solicited invalidate) h e = absurd (omega (arith, e))
some_left n done (seen.Terminated fault) h e = absurd (omega (arith, e))
some_left n done (seen.Fault fault) h e = absurd (omega (arith, e))
some_left n done seen.Idle h e = absurd (omega (arith, e))

-- each answer of work is as TurnsStream says, by some regions and of some peer
abbrev pub TurnsStreamBySome : List (Act Octets) → ℕ → StreamAct Octets → Type 0
TurnsStreamBySome done n act =
    OnSome
    (λ step. (table : Table) × (peer : Peer) × TurnsSeen (ended (stream_acts n done)) (story_of n done) (record (standing n done) { table = table; peer = peer }) step)
    (deed act).step

abbrev pub TurnsBySome : List (Entry Octets) → Type 0
TurnsBySome = AtEach (OnStream TurnsStreamBySome)

-- one step that is not idle uses one of those that are left
one_step : (n : ℕ) (done : List (Act Octets)) (step : Seen Octets) → TurnsStreamBySome done n (Work step) → EndsStream done n (Work step) → FinishedStream done n (Work step) → ended (stream_acts n done) ≡ false → (step ≡ seen.Idle → ⊥) → (deed (Work step)).ends ≡ false
    → steps_at n (done ++ Stream n (Work step) ∷ []) + 1 ≤ steps_at n done
one_step n done step turned over finished running busy runs =
    let t : Story = story_of n done in
    let s : Standing = record (standing n done) { table = turned.0; peer = turned.1 } in
    let mine : List (StreamAct Octets) = stream_acts n done in
    let m' : ℕ = length (posted mine ++ posted_by (Work step)) - length (handed_kinds mine ++ handed_by (Work step)) in
    let one : Less t (story_seen t step) (messages_left mine) m' =
    less t s mine step (messages_left mine) m' (subst (λ b. TurnsSeen b t s step) running turned.2) (subst (λ b. EndSeen b t mine step) running over.0) busy runs
    (messages_push (posted mine) (handed_kinds mine) step (some_left n done step finished)) in
    let same : steps_left (story_seen t step) m' ≡ steps_left (story_seen (story_alone n done) step) m' = ap (λ z. steps_left z m') (story_apart (story_alone n done) (receiving_of n done) (Work step)) in
    subst (λ (z : Tale). steps_left z.story (length z.posted - length z.handed) + 1 ≤ steps_at n done) (sym (story_push n done step)) (subst (λ k. k + 1 ≤ steps_at n done) same one)

runs_on : (n : ℕ) (done : List (Act Octets)) (step : Seen Octets) → ended (stream_acts n done) ≡ false → (deed (Work step)).ends ≡ false → ended (stream_acts n (done ++ Stream n (Work step) ∷ [])) ≡ false
runs_on n done step running runs = ap (λ (z : Tale). z.ended) (story_push n done step) ∙ (λ i. cond (runs i) true (running i))

-- ---- so at every moment of a trace

-- what an act leaves of a stream that runs
record Leaves (n : ℕ) (done : List (Act Octets)) (act : Act Octets) : Type 0 where
  pub used : length (stream_acts_by n act) + steps_at n (done ++ act ∷ []) ≤ steps_at n done
  pub opened : was_opened (openings n (done ++ act ∷ [])) ≡ true
  pub running : ended (stream_acts n (done ++ act ∷ [])) ≡ false

still_opened : (os more : List Opening) → was_opened os ≡ true → (was_opened (os ++ more) ≡ true) × (opening_in (os ++ more) ≡ opening_in os)
still_opened [] more h = absurd (false≢true h)
still_opened (o ∷ os) more h = (refl, refl)

-- an act elsewhere
elsewhere : (n : ℕ) (done : List (Act Octets)) (act : Act Octets) → was_opened (openings n done) ≡ true → ended (stream_acts n done) ≡ false → stream_acts_by n act ≡ [] → Leaves n done act
elsewhere n done act opened running none =
    let w = still_opened (openings n done) (openings_by n act) opened in
    let same : opening_of n (done ++ act ∷ []) ≡ opening_of n done = ap opening_in (openings-push n done act) ∙ w.1 in
    let mine : stream_acts n (done ++ act ∷ []) ≡ stream_acts n done = stream_acts-push n done act ∙ ap (λ z. stream_acts n done ++ z) none ∙ append-nil (stream_acts n done) in
    let steps : steps_at n (done ++ act ∷ []) ≡ steps_at n done = λ i. steps_left (story (same i) (mine i)) (messages_left (mine i)) in
    record {
      used = omega (arith, steps, ap length none);
      opened = ap was_opened (openings-push n done act) ∙ w.0;
      running = ap ended mine ∙ running;
    }

-- a step of work
works : (n : ℕ) (done : List (Act Octets)) (act : StreamAct Octets) → TurnsStreamBySome done n act → EndsStream done n act → FinishedStream done n act → was_opened (openings n done) ≡ true → ended (stream_acts n done) ≡ false → IsBusy act → Leaves n done (Stream n act)
works n done act turned over finished opened running b =
    let one : steps_at n (done ++ Stream n (Work b.step) ∷ []) + 1 ≤ steps_at n done =
    one_step n done b.step (subst (TurnsStreamBySome done n) b.is turned) (subst (EndsStream done n) b.is over) (subst (FinishedStream done n) b.is finished) running b.busy b.runs in
    let mine : nat_eq n n ≡ true = grind (arith, nat_tests) in
    let count : length (stream_acts_by n (Stream n (Work b.step))) ≡ 1 = ap (λ (z : Bool). length (cond z (Work b.step ∷ []) [])) mine in
    let w = still_opened (openings n done) (openings_by n (Stream n (Work b.step))) opened in
    subst (λ z. Leaves n done (Stream n z)) (sym b.is)
    (record { used = omega (arith, one, count); opened = ap was_opened (openings-push n done (Stream n (Work b.step))) ∙ w.0; running = runs_on n done b.step running b.runs })

leaves : (n : ℕ) (done : List (Act Octets)) (act : Act Octets) → OnStream TurnsStreamBySome done act → OnStream EndsStream done act → OnStream FinishedStream done act → was_opened (openings n done) ≡ true → ended (stream_acts n done) ≡ false
    → AreBusy (stream_acts_by n act) → Leaves n done act
leaves n done (Stream m act) turned over finished opened running busy = elim (eqb_tells m n) [
  | inr apart ↦ elsewhere n done (Stream m act) opened running (ap (λ (b : Bool). cond b (act ∷ []) []) apart.0)
  | inl same ↦
      let one : AreBusy (act ∷ []) = subst AreBusy (ap (λ (b : Bool). cond b (act ∷ []) []) same.0) busy in
      subst (λ k. Leaves n done (Stream k act)) (sym same.1)
      (works n done act (subst (λ k. TurnsStreamBySome done k act) same.1 turned) (subst (λ k. EndsStream done k act) same.1 over) (subst (λ k. FinishedStream done k act) same.1 finished) opened running one.0)
]
leaves n done (Domain pd refused) turned over finished opened running busy = elsewhere n done (Domain pd refused) opened running refl
leaves n done (Register pd base rights octets answer) turned over finished opened running busy = elsewhere n done (Register pd base rights octets answer) opened running refl
leaves n done (Deregister stag answer) turned over finished opened running busy = elsewhere n done (Deregister stag answer) opened running refl
leaves n done (Invalidate stag refused) turned over finished opened running busy = elsewhere n done (Invalidate stag refused) opened running refl
leaves n done (Store stag to octets refused) turned over finished opened running busy = elsewhere n done (Store stag to octets refused) opened running refl
leaves n done (Open number pd role options private refused) turned over finished opened running busy = elsewhere n done (Open number pd role options private refused) opened running refl
leaves n done (Share pd refused) turned over finished opened running busy = elsewhere n done (Share pd refused) opened running refl
leaves n done (Pool pd len refused) turned over finished opened running busy = elsewhere n done (Pool pd len refused) opened running refl
leaves n done (Unpool pd answer) turned over finished opened running busy = elsewhere n done (Unpool pd answer) opened running refl
leaves n done (OpenShared number pd role options private refused) turned over finished opened running busy = elsewhere n done (OpenShared number pd role options private refused) opened running refl

stream_acts-append : (n : ℕ) (xs ys : List (Act Octets)) → stream_acts n (xs ++ ys) ≡ stream_acts n xs ++ stream_acts n ys
unfolding stream_acts
stream_acts-append n xs ys = flat_map-append (stream_acts_by n) xs ys

stream_acts-one : (n : ℕ) (act : Act Octets) → stream_acts n (act ∷ []) ≡ stream_acts_by n act
unfolding stream_acts
stream_acts-one n act = append-nil (stream_acts_by n act)

stream_acts-none : (n : ℕ) → stream_acts n [] ≡ []
unfolding stream_acts
stream_acts-none n = refl

acts-first : (x : End) (e : Entry Octets) (others : List (Entry Octets)) → acts x (e ∷ others) ≡ acts_if x e.end e.act ++ acts x others
unfolding acts
acts-first x e others = refl

acts-none : (x : End) → acts x [] ≡ []
unfolding acts
acts-none x = refl

busy-parts : (xs ys : List (StreamAct Octets)) → AreBusy (xs ++ ys) → AreBusy xs × AreBusy ys
busy-parts [] ys h = (tt, h)
busy-parts (x ∷ xs) ys h = let r = busy-parts xs ys h.1 in ((h.0, r.0), r.1)

-- what an entry of either end leaves of it
record Goes (x : End) (n : ℕ) (past : List (Entry Octets)) (z : End) (act : Act Octets) : Type 0 where
  pub used : length (stream_acts n (acts_if x z act)) + steps_at n (acts x (past ++ record { end = z; act = act } ∷ [])) ≤ steps_at n (acts x past)
  pub opened : was_opened (openings n (acts x (past ++ record { end = z; act = act } ∷ []))) ≡ true
  pub running : ended (stream_acts n (acts x (past ++ record { end = z; act = act } ∷ []))) ≡ false

module _ (trace : List (Entry Octets)) (turned : TurnsBySome trace) (over : Ends trace) (finished : Finished trace) (n : ℕ) where
  mine : (x : End) (past : List (Entry Octets)) (act : Act Octets) (future : List (Entry Octets)) → trace ≡ past ++ record { end = x; act = act } ∷ future → was_opened (openings n (acts x past)) ≡ true → ended (stream_acts n (acts x past)) ≡ false
      → AreBusy (stream_acts n (act ∷ [])) → acts_if x x act ≡ act ∷ [] → Goes x n past x act
  mine x past act future is opened running busy one =
      let e : Entry Octets = record { end = x; act = act } in
      let r = leaves n (acts x past) act (turned past e future is) (over past e future is) (finished past e future is) opened running (subst AreBusy (stream_acts-one n act) busy) in
      record {
        used = omega (arith, r.used, ap length (stream_acts-one n act), ap (λ z. length (stream_acts n z)) one, ap (steps_at n) (acts_mine past e));
        opened = ap (λ z. was_opened (openings n z)) (acts_mine past e) ∙ r.opened;
        running = ap (λ z. ended (stream_acts n z)) (acts_mine past e) ∙ r.running;
      }

  theirs : (z : End) (past : List (Entry Octets)) (act : Act Octets) → was_opened (openings n (acts (other z) past)) ≡ true → ended (stream_acts n (acts (other z) past)) ≡ false → acts_if (other z) z act ≡ [] → Goes (other z) n past z act
  theirs z past act opened running none =
      let e : Entry Octets = record { end = z; act = act } in
      record {
        used = omega (arith, ap (λ y. length (stream_acts n y)) none, ap length (stream_acts-none n), ap (steps_at n) (acts_other past e));
        opened = ap (λ y. was_opened (openings n y)) (acts_other past e) ∙ opened;
        running = ap (λ y. ended (stream_acts n y)) (acts_other past e) ∙ running;
      }

  goes : (x z : End) (past : List (Entry Octets)) (act : Act Octets) (future : List (Entry Octets)) → trace ≡ past ++ record { end = z; act = act } ∷ future → was_opened (openings n (acts x past)) ≡ true → ended (stream_acts n (acts x past)) ≡ false
      → AreBusy (stream_acts n (acts_if x z act)) → Goes x n past z act
  goes A A past act future is opened running busy = mine A past act future is opened running busy refl
  goes B B past act future is opened running busy = mine B past act future is opened running busy refl
  goes A B past act future is opened running busy = theirs B past act opened running refl
  goes B A past act future is opened running busy = theirs A past act opened running refl

  pub uses : (x : End) (past others future : List (Entry Octets)) → trace ≡ past ++ (others ++ future) → was_opened (openings n (acts x past)) ≡ true → ended (stream_acts n (acts x past)) ≡ false → AreBusy (stream_acts n (acts x others))
      → length (stream_acts n (acts x others)) + steps_at n (acts x (past ++ others)) ≤ steps_at n (acts x past)
  uses x past [] future is opened running busy = omega (arith, ap (λ z. length (stream_acts n z)) (acts-none x), ap length (stream_acts-none n), ap (λ z. steps_at n (acts x z)) (append-nil past))
  uses x past (e ∷ others) future is opened running busy =
      let parts : stream_acts n (acts x (e ∷ others)) ≡ stream_acts n (acts_if x e.end e.act) ++ stream_acts n (acts x others) = ap (stream_acts n) (acts-first x e others) ∙ stream_acts-append n (acts_if x e.end e.act) (acts x others) in
      let b = busy-parts (stream_acts n (acts_if x e.end e.act)) (stream_acts n (acts x others)) (subst AreBusy parts busy) in
      let first : Goes x n past e.end e.act = goes x e.end past e.act (others ++ future) is opened running b.0 in
      let rest = uses x (past ++ e ∷ []) others future (is ∙ sym (append_assoc past (e ∷ []) (others ++ future))) first.opened first.running b.1 in
      let same : steps_at n (acts x ((past ++ e ∷ []) ++ others)) ≡ steps_at n (acts x (past ++ e ∷ others)) = ap (λ z. steps_at n (acts x z)) (append_assoc past (e ∷ []) others) in
      omega (arith, first.used, rest, same, ap length parts, length-append (stream_acts n (acts_if x e.end e.act)) (stream_acts n (acts x others)))
