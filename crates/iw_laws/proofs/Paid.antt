-- How far an act can move the in-order point: at most 2^17 octets an act, those before counted in.
use Rattle.std.proofs.Common.{◌≡◌, ℕ, ◌+◌, ◌-◌, ◌*◌, ◌<◌, ◌≤◌, [], length, take, drop, Option, Some, None, Ok, Err, Bool, true, false, cond, refl, sym, ap, ◌∙◌, subst, arith, length-append, length-take, inl, inr}
use Rattle.std.specs.Prelude.{is_some, not, nat_lt, nat_eq, ◌&&◌, ◌||◌}
use Rattle.std.proofs.lemmas.Bool.{true≢false}
use Rattle.std.proofs.lemmas.Bool.Decides.{nat_tests}
use Rattle.iw_octets.specs.declared.segment.Segment.{Segment}
use Rattle.iw_octets.specs.declared.segment.Segment.TheVariants.{Tagged, Untagged}
use Rattle.iw_memory.specs.Table.{Table}
use Rattle.iw_ranges.specs.declared.Delivery.TheVariants.{Kept, Dropped}
use Rattle.iw_ranges.specs.Arrived.{Arrived, taken_in, advanced}
use Rattle.iw_ranges.proofs.InOrder.{floor_takes, floor_moves, short}
use Rattle.iw_fpdu.specs.Frame.{frame_end as end_of_frame}
use Rattle.iw_fpdu.specs.Places.{frame_start}
use Rattle.iw_fpdu.specs.Sequence.{Carried}
use Rattle.iw_locate.proofs.Sequenced.{end_near}
use Rattle.iw_locate.specs.Free.{scene_of}
use Rattle.iw_startup.specs.declared.side.Side.{Side}
use Rattle.iw_startup.specs.declared.progress.StartupFault.{StartupFault}
use Rattle.iw_startup.specs.declared.progress.StartupFault.TheVariants.{BadKey, BadRev, BadLength}
use Rattle.iw_startup.specs.declared.config.Establishment.{Establishment}
use Rattle.iw_startup.specs.Frame.{private_len, has_word}
use Rattle.std.specs.List.{starts_with}
use Rattle.iw_startup.specs.Peer.{peer_key, takes_revision, fixed_fault, frame_end, frame_part}
use Rattle.iw_startup.specs.State.{StartupState}
use Rattle.iw_startup.proofs.Heard.{octets-pushed}
use Rattle.iw_startup.proofs.Openings.{unanswered_not_agreed}
use Rattle.iw_fpdu.proofs.Follows.{frames_follow}
use Rattle.iw_stream.specs.Frames.{Frame, segment_in, record_of, placed as placed_of}
use Rattle.iw_stream.specs.Starting.{is_open, awaits_frame, expecting, first_place_in, heard}
use Rattle.iw_laws.proofs.Rooms.{heard_open}
use Rattle.iw_stream.specs.Stream.{StreamState, Due, StartUp, LastWord, Response, NextPart, NoneDue, ended, due, place_of, left_out, Ready}
use Rattle.iw_stream.specs.Work.{inbox, scene, early_frame}
use Rattle.iw_stream.proofs.Fronts.{start_near}
use Rattle.iw_locate.specs.declared.judged.State.{State}
use Rattle.iw_locate.specs.declared.judged.State.TheVariants as states
use Rattle.arrayvec.specs.ArrayVec.{ArrayVec}
use Rattle.iw_locate.specs.Records.{added}
use Rattle.iw_startup.specs.declared.progress.Progress.{Progress}
use Rattle.iw_startup.specs.declared.progress.Progress.TheVariants as progress
use Rattle.iw_events.specs.declared.act.StreamAct.{StreamAct}
use Rattle.iw_events.specs.declared.act.StreamAct.TheVariants.{Recv, Post, Emit, First, Deliver, Raw, Mulpdu, Accept, Reject, Work, Break}
use Rattle.iw_events.specs.declared.act.Shown.{Shown}
use Rattle.iw_events.specs.declared.act.Shown.TheVariants as shows
use Rattle.iw_events.specs.declared.act.Seen.TheVariants as seen
use Rattle.iw_laws.specs.Words.{Octets, deed, ended_after, listed, private_data}
use Rattle.iw_laws.proofs.Tales.{Tale}
use Rattle.iw_laws.proofs.Nexts.{fore, place_in, place_past, past_front}
use Rattle.iw_laws.proofs.Judged.{segments_early, placed_by, more_come, one_counts, open_at, same_segments}
use Rattle.iw_laws.proofs.Told.{Told, Fronts, Hears, kept_of, early_left, arrived_open, arrived_unheard, fault_open, left_frame, after_shown, after_act}
use Rattle.iw_laws.proofs.Tracks.{Track, waiting_count, between_is, first_is, unread, ends_there, unclashed, none_left, segments_left, turning, left_early, left_tried, left_there, kept_whole, MayAnswer, may, accepting, refusing, unanswered}

-- the in-order point, and a charge of 2^17 for each frame that was placed and is still to have its turn, which passes 2^18 octets at most
abbrev pub charge : StreamState → ℕ
charge s = s.arrived.floor + 131072 * (waiting_count s.front + length (segments_early (scene s) s.early))

abbrev pub last_one : Bool → ℕ
last_one over = cond over 1 0

-- all acts have paid for it; the Terminate that ends a stream was not charged before
pub record IsPaid (s : StreamState) (acts : ℕ) : Type 0 where
  pub paid : charge s ≤ 131072 * (acts + last_one (ended s))

-- ---- acts that charge no more

over_still : (s s' : StreamState) (act : StreamAct Octets) → ended s' ≡ ended_after (ended s) act → ended s ≡ true → ended s' ≡ true
over_still s s' act is e = is ∙ go (deed act).ends
  where
    go : (b : Bool) → cond b true (ended s) ≡ true
    go true = refl
    go false = e

pays : (s s' : StreamState) (n : ℕ) → (ended s ≡ true → ended s' ≡ true) → charge s' ≤ charge s + 131072 → IsPaid s n → IsPaid s' (n + 1)
pays s s' n still few p = go (ended s) refl (ended s') refl
  where
    go : (a : Bool) → ended s ≡ a → (b : Bool) → ended s' ≡ b → IsPaid s' (n + 1)
    go false a b e = record { paid = omega (arith, p.paid, few, ap last_one a) }
    go true a true e = record { paid = omega (arith, p.paid, few, ap last_one a, ap last_one e) }
    go true a false e = absurd (true≢false (sym (still a) ∙ e))

same_charge : (s s' : StreamState) → s'.start ≡ s.start → s'.arrived ≡ s.arrived → s'.front ≡ s.front → s'.early ≡ s.early → charge s' ≤ charge s + 131072
same_charge s s' start arrived front early =
    let scenes : scene s' ≡ scene s = λ i. scene_of (expecting (start i)) (first_place_in (start i)) (arrived i) (early i) in
    let same : charge s' ≡ charge s = λ i. (arrived i).floor + 131072 * (waiting_count (front i) + length (segments_early (scenes i) (early i))) in
    omega (arith, same)

-- of a stream that isn't open
shut_charge : (s s' : StreamState) (t : Tale) → Track s t → is_open s.start ≡ false → s'.arrived.floor ≤ s.arrived.floor + 131072 → s'.front ≡ s.front → s'.early ≡ s.early → charge s' ≤ charge s + 131072
shut_charge s s' t k shut arrived front early =
    let none : s'.early ≡ [] = early ∙ k.early.unopened shut in
    let few : length (segments_early (scene s') s'.early) ≡ 0 = ap (λ rs. length (segments_early (scene s') rs)) none in
    omega (arith, few, ap waiting_count front, arrived)

frame_end_few : (est : Establishment) (side : Side) (xs : Octets) → frame_end est side xs ≤ 532
unfolding frame_end fixed_fault
frame_end_few est side xs = go (nat_lt (length xs) 20) (starts_with nat_eq xs (peer_key side)) (takes_revision side est xs) (has_word est xs && nat_lt (private_len xs) 4) (nat_lt 512 (private_len xs)) refl
  where
    go : (a b c w d : Bool) → nat_lt 512 (private_len xs) ≡ d → cond (a || is_some (cond {A = Option StartupFault} (not b) (Some BadKey) (cond (not c) (Some BadRev) (cond (w || d) (Some BadLength) None)))) 20 (20 + private_len xs) ≤ 532
    go true b c w d e = omega arith
    go false false c w d e = omega arith
    go false true false w d e = omega arith
    go false true true true d e = omega arith
    go false true true false true e = omega arith
    go false true true false false e = grind (arith, nat_tests)

hears_few : (s s' : StreamState) (t : Tale) (p : Progress) → Hears s p → s'.arrived ≡ advanced s.arrived (first_place_in (heard s.start (inbox s))) → s'.front ≡ s.front → s'.early ≡ s.early → Track s t → charge s' ≤ charge s + 131072
unfolding frame_part
hears_few s s' t p h arrived front early k =
    let u : StartupState = h.startup in
    let n = unread s t u k h.is in
    let to : first_place_in (heard s.start (inbox s)) ≡ length (take (frame_end u.config.establishment u.side (inbox s)) (inbox s)) = ap (λ z. first_place_in (heard z (inbox s))) h.is ∙ ap length (octets-pushed u (inbox s) n.octets) in
    let floor = ap (λ (a : Arrived). a.floor) arrived ∙ floor_moves s.arrived (first_place_in (heard s.start (inbox s))) in
    shut_charge s s' t k (ap is_open h.is) (omega (arith, floor, to, length-take (frame_end u.config.establishment u.side (inbox s)) (inbox s), frame_end_few u.config.establishment u.side (inbox s))) front early

-- octets come
comes_few : (s s' : StreamState) (t : Tale) (from : ℕ) (octets : Octets) → s'.start ≡ s.start → s'.arrived ≡ taken_in s.arrived from octets → s'.front ≡ s.front → s'.early ≡ s.early → Track s t → charge s' ≤ charge s + 131072
comes_few s s' t from octets start arrived front early k =
    let scenes : scene s' ≡ scene_of (expecting s.start) (first_place_in s.start) (taken_in s.arrived from octets) s.early = λ i. scene_of (expecting (start i)) (first_place_in (start i)) (arrived i) (early i) in
    let same : segments_early (scene s') s'.early ≡ segments_early (scene s) s.early = (λ i. segments_early (scenes i) (early i)) ∙ (more_come (scene s) from octets k.early.judged).1 in
    let floor : s'.arrived.floor ≡ s.arrived.floor = ap (λ (a : Arrived). a.floor) arrived ∙ floor_takes s.arrived from octets in
    omega (arith, floor, ap length same, ap waiting_count front)

-- what goes out leaves what came
shown_few : (s : StreamState) (shown : Shown Octets) → charge (after_shown s shown) ≤ charge s + 131072
shown_few s (shows.Frame from octets) = go (due s)
  where
    go : (d : Due) → charge (left_frame s d) ≤ charge s + 131072
    go StartUp = same_charge s (left_frame s StartUp) refl refl refl refl
    go (LastWord payload) = same_charge s (left_frame s (LastWord payload)) refl refl refl refl
    go (NextPart part) = same_charge s (left_frame s (NextPart part)) refl refl refl refl
    go (Ready rtr) = same_charge s (left_frame s (Ready rtr)) refl refl refl refl
    go (Response part) = same_charge s s refl refl refl refl
    go NoneDue = same_charge s s refl refl refl refl
shown_few s (shows.Fetched from frame stag to octets) = same_charge s (after_shown s (shows.Fetched from frame stag to octets)) refl refl refl refl
shown_few s (shows.Fault fault) = same_charge s (after_shown s (shows.Fault fault)) refl refl refl refl
shown_few s shows.Nothing = same_charge s s refl refl refl refl

-- ---- frames

-- the end of the frame at the in-order point
turn_far : (s : StreamState) (t : Tale) (frame : Carried) (rest : Octets) → fore s ≡ Some (frame, rest) → Track s t → (s.arrived.floor ≤ place_past s (fore s)) × (place_past s (fore s) ≤ s.arrived.floor + 262144)
turn_far s t frame rest e k =
    let place : place_past s (fore s) ≡ s.arrived.floor + (length (inbox s) - length rest) = ap (place_past s) e in
    (omega (arith, place), omega (arith, place, short s.arrived, k.window))

floor_past : (s s' : StreamState) (t : Tale) (frame : Carried) (rest : Octets) → fore s ≡ Some (frame, rest) → s'.arrived ≡ past_front s → Track s t → s'.arrived.floor ≡ place_past s (fore s)
floor_past s s' t frame rest e arrived k =
    let far = turn_far s t frame rest e k in
    let floor = ap (λ (a : Arrived). a.floor) arrived ∙ floor_moves s.arrived (place_past s (fore s)) in
    omega (arith, floor, far.0)

-- one that was placed has its turn
turned_few : (s s' : StreamState) (t : Tale) (segment : Segment Octets) → (f : Fronts s true segment) → s'.start ≡ s.start → s'.arrived ≡ past_front s → s'.front ≡ None → s'.early ≡ early_left s → Track s t → charge s' ≤ charge s + 131072
turned_few s s' t segment f start arrived front early k =
    let far = turn_far s t f.frame f.rest f.whole k in
    let w = turning s t k segment f in
    omega (arith, floor_past s s' t f.frame f.rest f.whole arrived k, far.1, w.fewer, ap waiting_count front, ap length (segments_left s s' t start arrived early far.0 k))

-- one that was not has it where it is judged
judged_few : (s s' : StreamState) (t : Tale) (segment : Segment Octets) (n : ℕ) → (f : Fronts s false segment) → s'.start ≡ s.start → s'.arrived ≡ past_front s → s'.front ≡ None → s'.early ≡ early_left s
    → place_past s (fore s) ≤ s.arrived.floor + n → Track s t → charge s' ≤ charge s + n
judged_few s s' t segment n f start arrived front early near k =
    let far = turn_far s t f.frame f.rest f.whole k in
    let left = none_left s t k f.frame f.rest f.whole (unclashed s t k f.frame (f.clear refl)) in
    omega (arith, floor_past s s' t f.frame f.rest f.whole arrived k, near, ap waiting_count front, ap length (segments_left s s' t start arrived early far.0 k), ap length left)

-- a short frame
short_near : (s : StreamState) (t : Tale) (frame : Carried) (rest : Octets) → fore s ≡ Some (frame, rest) → length frame.ulpdu ≤ 46 → Track s t → place_past s (fore s) ≤ s.arrived.floor + 131072
short_near s t frame rest e small k =
    let m : Bool = (expecting s.start).markers in
    let at : ℕ = place_in s in
    let n : ℕ = length frame.ulpdu in
    let low : first_place_in s.start ≤ s.arrived.floor = omega (arith, k.point, first_is s t k.intro k.begins) in
    let near = start_near m at (between_is s t k) in
    let end : end_of_frame m at n < frame_start m at + 65536 = end_near m at n (between_is s t k) (omega (arith, small)) in
    omega (arith, ends_there s t k frame rest e, frames_follow.ends m at n, end, near.1, low)

-- a frame is placed there
placed_few : (s s' : StreamState) (segment : Segment Octets) → Fronts s false segment → s'.start ≡ s.start → s'.arrived ≡ s.arrived → s'.front ≡ kept_of s → s'.early ≡ s.early → charge s' ≤ charge s + 131072
placed_few s s' segment f start arrived front early =
    let scenes : scene s' ≡ scene s = λ i. scene_of (expecting (start i)) (first_place_in (start i)) (arrived i) (early i) in
    let segments : segments_early (scene s') s'.early ≡ segments_early (scene s) s.early = λ i. segments_early (scenes i) (early i) in
    omega (arith, ap (λ (a : Arrived). a.floor) arrived, ap length segments, ap waiting_count (front ∙ kept_whole s false segment f))

-- and one before its turn
early_few : (s : StreamState) (t : Tale) (frame : Frame) (state : State (ArrayVec ℕ)) → early_frame s ≡ Some frame → length (placed_by frame state) ≤ 1 → Track s t → charge (record s { early = added s.early (record_of frame state) }) ≤ charge s + 131072
early_few s t frame state found few k =
    let open_here = open_at (scene s) frame (omega (arith, k.point, first_is s t k.intro k.begins)) found in
    let more = one_counts (scene s) frame state length (record { both = length-append }) open_here in
    let same = ap length (same_segments (scene s) (added s.early (record_of frame state)) (added s.early (record_of frame state))) in
    omega (arith, few, more, same)

-- ---- each act

pub paying : (table : Table) (s : StreamState) (t : Tale) (act : StreamAct Octets) → Told table s act → Track s t → (n : ℕ) → ended (after_act s act) ≡ ended_after (ended s) act → IsPaid s n → IsPaid (after_act s act) (n + 1)
paying table s t act rule k n over p = by act rule (over_still s (after_act s act) act over) over
  where
    same : (s' : StreamState) → (ended s ≡ true → ended s' ≡ true) → s'.start ≡ s.start → s'.arrived ≡ s.arrived → s'.front ≡ s.front → s'.early ≡ s.early → IsPaid s' (n + 1)
    same s' still start arrived front early = pays s s' n still (same_charge s s' start arrived front early) p

    answers : (s' : StreamState) → (ended s ≡ true → ended s' ≡ true) → (m : MayAnswer s) → s'.arrived ≡ s.arrived → s'.front ≡ s.front → s'.early ≡ s.early → IsPaid s' (n + 1)
    answers s' still m arrived front early =
        pays s s' n still (shut_charge s s' t k (ap is_open m.is ∙ ap is_some (unanswered_not_agreed m.startup (unanswered m.startup m.asked))) (omega (arith, ap (λ (a : Arrived). a.floor) arrived)) front early) p

    by : (act : StreamAct Octets) → Told table s act → (ended s ≡ true → ended (after_act s act) ≡ true) → ended (after_act s act) ≡ ended_after (ended s) act → IsPaid (after_act s act) (n + 1)
    by (Deliver from number octets Kept) rule still over = pays s (after_act s (Deliver from number octets Kept)) n still (comes_few s (after_act s (Deliver from number octets Kept)) t (place_of s number) (drop (left_out s number) octets) refl refl refl refl k) p
    by (Raw number octets Kept) rule still over = pays s (after_act s (Raw number octets Kept)) n still (comes_few s (after_act s (Raw number octets Kept)) t (place_of s number) (drop (left_out s number) octets) refl refl refl refl k) p
    by (Deliver from number octets Dropped) rule still over = same (after_act s (Deliver from number octets Dropped)) still refl refl refl refl
    by (Raw number octets Dropped) rule still over = same (after_act s (Raw number octets Dropped)) still refl refl refl refl
    by (First number None) rule still over = same (after_act s (First number None)) still refl refl refl refl
    by (Mulpdu size None) rule still over = same (after_act s (Mulpdu size None)) still refl refl refl refl
    by (First number (Some refusal)) rule still over = same s still refl refl refl refl
    by (Mulpdu size (Some refusal)) rule still over = same s still refl refl refl refl
    by (Accept private (Ok agreed)) rule still over = answers (after_act s (Accept private (Ok agreed))) still (may s (accepting s (private_data private).items agreed rule)) refl refl refl
    by (Accept private (Err refusal)) rule still over = same s still refl refl refl refl
    by (Reject private None) rule still over = answers (after_act s (Reject private None)) still (may s (refusing s (private_data private).items rule)) refl refl refl
    by (Reject private (Some refusal)) rule still over = same s still refl refl refl refl
    by (Recv len None) rule still over = same (after_act s (Recv len None)) still refl refl refl refl
    by (Recv len (Some refusal)) rule still over = same s still refl refl refl refl
    by (Post m None) rule still over = same (after_act s (Post m None)) still refl refl refl refl
    by (Post m (Some refusal)) rule still over = same s still refl refl refl refl
    by (Emit shown) rule still over = pays s (after_act s (Emit shown)) n still (shown_few s shown) p
    by Break rule still over = same (after_act s Break) still refl refl refl refl
    by (Work (seen.Done kind)) rule still over = same (after_act s (Work (seen.Done kind))) still refl refl refl refl
    by (Work (seen.Flushed kind)) rule still over = same (after_act s (Work (seen.Flushed kind))) still refl refl refl refl
    by (Work (seen.FlushedRecv octets)) rule still over = same (after_act s (Work (seen.FlushedRecv octets))) still refl refl refl refl
    by (Work seen.Idle) rule still over = same s still refl refl refl refl
    by (Work (seen.Asked word private)) rule still over = pays s (after_act s (Work (seen.Asked word private))) n still (hears_few s (after_act s (Work (seen.Asked word private))) t progress.Asked rule.0 refl refl refl k) p
    by (Work (seen.Opened agreed word private)) rule still over = pays s (after_act s (Work (seen.Opened agreed word private))) n still (hears_few s (after_act s (Work (seen.Opened agreed word private))) t progress.Agreed rule.0.hears_it refl refl refl k) p
    by (Work (seen.Closed fault)) rule still over = pays s (after_act s (Work (seen.Closed fault))) n still (hears_few s (after_act s (Work (seen.Closed fault))) t (progress.Faulted fault) rule refl refl refl k) p
    by (Work (seen.Placed right stag to octets)) (inl (j, w)) still over =
        let s' : StreamState = after_act s (Work (seen.Placed right stag to octets)) in
        pays s s' n still (placed_few s s' (Tagged w.head octets) w.fronts refl refl refl (ap (λ (z : StreamState). z.early) (left_there s false (Tagged w.head octets) w.fronts))) p
    by (Work (seen.Placed right stag to octets)) (inr (j, w)) still over =
        let s' : StreamState = after_act s (Work (seen.Placed right stag to octets)) in
        let left = left_early table s (seen.Placed right stag to octets) w.frame j w.is_early in
        pays s s' n still
        (subst (λ z. charge z ≤ charge s + 131072) (sym left)
        (early_few s t w.frame (states.Placed (placed_of w.frame).header) w.is_early (let one : length (listed (segment_in w.frame)) ≡ 1 = ap (λ o. length (listed o)) w.carries in omega (arith, one)) k)) p
    by (Work (seen.Tried place)) j still over =
        pays s (after_act s (Work (seen.Tried place))) n still (subst (λ z. charge z ≤ charge s + 131072) (sym (left_tried s place j.frame j.is_early)) (early_few s t j.frame states.Tried j.is_early (omega arith) k)) p
    by (Work (seen.Buffered msn mo len)) (inl (j, w)) still over =
        let s' : StreamState = after_act s (Work (seen.Buffered msn mo len)) in
        pays s s' n still (placed_few s s' (Untagged w.head w.payload) w.fronts refl refl refl (ap (λ (z : StreamState). z.early) (left_there s false (Untagged w.head w.payload) w.fronts))) p
    by (Work (seen.Buffered msn mo len)) (inr (j, w)) still over =
        let s' : StreamState = after_act s (Work (seen.Buffered msn mo len)) in
        let left = left_early table s (seen.Buffered msn mo len) w.frame j w.is_early in
        pays s s' n still
        (subst (λ z. charge z ≤ charge s + 131072) (sym left)
        (early_few s t w.frame (states.Placed (placed_of w.frame).header) w.is_early (let one : length (listed (segment_in w.frame)) ≡ 1 = ap (λ o. length (listed o)) w.carries in omega (arith, one)) k)) p
    by (Work (seen.Requested size stag to)) rule still over =
        let w = rule.1 in
        let s' : StreamState = after_act s (Work (seen.Requested size stag to)) in
        pays s s' n still (judged_few s s' t (Untagged w.head w.payload) 131072 w.fronts refl refl refl refl (short_near s t w.fronts.frame w.fronts.rest w.fronts.whole w.short k) k) p
    by (Work seen.Passed) rule still over =
        let w = rule.1 in
        pays s (after_act s (Work seen.Passed)) n still (turned_few s (after_act s (Work seen.Passed)) t w.segment w.fronts refl refl refl refl k) p
    by (Work (seen.Received octets solicited invalidate)) rule still over =
        let w = rule.1 in
        let s' : StreamState = after_act s (Work (seen.Received octets solicited invalidate)) in
        pays s s' n still (turned_few s s' t (Untagged w.head w.payload) w.fronts refl refl refl refl k) p
    by (Work (seen.Terminated fault)) rule still over =
        let w = rule.1 in
        let s' : StreamState = after_act s (Work (seen.Terminated fault)) in
        let few = judged_few s s' t (Untagged w.head w.payload) 262144 w.fronts refl refl refl refl (turn_far s t w.fronts.frame w.fronts.rest w.fronts.whole k).1 k in
        record { paid = omega (arith, p.paid, few, ap last_one w.fronts.running, ap last_one over) }
    by (Work (seen.Fault fault)) (inl m) still over = pays s (after_act s (Work (seen.Fault fault))) n still (hears_few s (after_act s (Work (seen.Fault fault))) t progress.Agreed m.hears_it (arrived_unheard s (ap awaits_frame m.hears_it.is)) refl refl k) p
    by (Work (seen.Fault fault)) (inr j) still over =
        let started : is_open s.start ≡ true = fault_open table s fault j in
        same (after_act s (Work (seen.Fault fault))) still (heard_open s.start (inbox s) started) (arrived_open s started) refl refl
