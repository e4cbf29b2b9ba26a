-- No two frames that were placed overlap: what a stream keeps of where they lie, at each act.
use Rattle.std.proofs.Common.{◌≡◌, ℕ, zero, suc, ◌+◌, ◌-◌, ◌≤◌, List, [], ◌∷◌, ◌++◌, length, drop, map, Option, Some, None, true, false, cond, Contains, Ok, Err, refl, sym, ap, ◌∙◌, subst, arith, inl, inr}
use Rattle.std.specs.Prelude.{◌⊎◌, is_some, max}
use Rattle.std.specs.Option.{option_map, option_map_or, option_or}
use Rattle.std.proofs.lemmas.Bool.{cases_lt, true≢false, false≢true}
use Rattle.std.proofs.lemmas.List.{append-nil, map-append}
use Rattle.std.proofs.lemmas.Option.{same_Some, some_pair_parts}
use Rattle.arrayvec.specs.ArrayVec.{ArrayVec}
use Rattle.iw_octets.specs.declared.segment.Segment.{Segment}
use Rattle.iw_octets.specs.declared.segment.Segment.TheVariants.{Tagged, Untagged}
use Rattle.iw_ranges.specs.Arrived.{Arrived}
use Rattle.iw_ranges.specs.declared.Delivery.TheVariants.{Kept, Dropped}
use Rattle.iw_ranges.proofs.InOrder.{floor_takes, floor_moves}
use Rattle.iw_fpdu.specs.Frame.{frame_end}
use Rattle.iw_fpdu.specs.Places.{span_start}
use Rattle.iw_fpdu.specs.Found.{ulpdu_len}
use Rattle.iw_fpdu.specs.Laws.{found_at}
use Rattle.iw_fpdu.specs.Sequence.{Carried}
use Rattle.iw_locate.specs.declared.judged.State.{State}
use Rattle.iw_locate.specs.declared.judged.State.TheVariants as states
use Rattle.iw_locate.specs.Records.{from_of, IsPlaced, IsClear, IsClearOfPlaced, added}
use Rattle.iw_locate.specs.Free.{point_of, front_of, end_of}
use Rattle.iw_locate.proofs.Holds.{adds_one, keeps_from}
use Rattle.iw_locate.proofs.Telling.{overlaps_are_told}
use Rattle.iw_stream.specs.declared.landing.PlacedFrame.{PlacedFrame}
use Rattle.iw_stream.specs.Frames.{Frame, EarlyRecord, placed, record_of, placed_at}
use Rattle.iw_stream.specs.Starting.{is_open, expecting, first_place_in}
use Rattle.iw_laws.proofs.Rooms.{heard_open}
use Rattle.iw_stream.specs.Stream.{StreamState, Due, StartUp, LastWord, Response, NextPart, NoneDue, due, may_answer, place_of, left_out, Ready}
use Rattle.iw_stream.specs.Work.{scene, waiting, clashes, inbox}
use Rattle.iw_stream.specs.Work as work
use Rattle.iw_stream.proofs.Landings.{length_ulpdu}
use Rattle.iw_startup.proofs.Openings.{unanswered_not_agreed}
use Rattle.iw_startup.specs.declared.progress.Progress.{Progress}
use Rattle.iw_startup.specs.declared.progress.Progress.TheVariants as progresses
use Rattle.iw_memory.specs.Table.{Table}
use Rattle.iw_events.specs.declared.act.StreamAct.{StreamAct}
use Rattle.iw_events.specs.declared.act.StreamAct.TheVariants.{Recv, Post, Emit, First, Deliver, Raw, Mulpdu, Accept, Reject, Work, Break}
use Rattle.iw_events.specs.declared.act.Shown.{Shown}
use Rattle.iw_events.specs.declared.act.Shown.TheVariants as shows
use Rattle.iw_events.specs.declared.act.Seen.{Seen}
use Rattle.iw_events.specs.declared.act.Seen.TheVariants as seen
use Rattle.iw_laws.specs.Words.{Octets, private_data}
use Rattle.iw_laws.specs.Turns.{early_frame}
use Rattle.iw_laws.specs.Once.{Span, span_of, judged_span, spans_by, AreOnce}
use Rattle.iw_laws.proofs.Judged.{View, frame_in, Stands, IsFirstRecord, IsOpenAt, open_at}
use Rattle.iw_laws.proofs.Nexts.{fore, place_past, past_front, standing, IsFore, past_is}
use Rattle.iw_laws.proofs.Told.{Told, Hears, Fronts, JudgedEarly, kept_of, early_left, arrived_open, fault_open, after_act, after_shown, left_frame, nothing_waits}
use Rattle.iw_laws.proofs.Told as told_of
use Rattle.iw_laws.proofs.Tales.{Tale}
use Rattle.iw_laws.proofs.Tracks.{Track, sound, next_whole, next_none, early_frame_is, first_early, accepting, refusing, may, unanswered}
use Rattle.iw_laws.proofs.Spent.{IsOfFront, Spent, none_spent, still_spent, front_spent, early_spent, turn_spent}

-- where the frames lie that were placed: each lies before the in-order point, or there, or has a record
pub record Onces (s : StreamState) (spans : List (Option Span)) : Type 0 where
  pub known : List Span
  pub are : spans ≡ map Some known
  pub spent : Spent (scene s) s.front known
  pub bare : is_open s.start ≡ false → known ≡ []

-- so no two overlap
pub are_once : (s : StreamState) (spans : List (Option Span)) → Onces s spans → AreOnce spans
are_once s spans o = record { known = o.known; are = o.are; apart = o.spent.apart }

-- ---- acts that place nothing

-- the in-order point, the records and the frame that waits there stay, and there may be more records
still_once : (s s' : StreamState) (spans : List (Option Span)) → s'.start ≡ s.start → s'.front ≡ s.front → s'.arrived.floor ≡ s.arrived.floor
    → ((r : EarlyRecord) → Contains s.early r → Contains s'.early r) → Onces s spans → Onces s' (spans ++ [])
still_once s s' spans start front floor more o = record {
  known = o.known;
  are = append-nil spans ∙ o.are;
  spent = subst (λ f. Spent (scene s') f o.known) (sym front)
      (still_spent (scene s) (scene s') s.front o.known (λ i. floor i - first_place_in (start i)) (λ i. (expecting (start i)).markers) more o.spent);
  bare = λ shut. o.bare (sym (ap is_open start) ∙ shut);
}

same_once : (s s' : StreamState) (spans : List (Option Span)) → s'.start ≡ s.start → s'.front ≡ s.front → s'.arrived ≡ s.arrived → s'.early ≡ s.early → Onces s spans → Onces s' (spans ++ [])
same_once s s' spans start front arrived early o = still_once s s' spans start front (ap (λ (a : Arrived). a.floor) arrived) (λ r within. subst (λ rs. Contains rs r) (sym early) within) o

-- before the stream is open nothing was placed
shut_once : (s s' : StreamState) (spans : List (Option Span)) → is_open s.start ≡ false → Onces s spans → Onces s' (spans ++ [])
shut_once s s' spans shut o = record { known = []; are = append-nil spans ∙ o.are ∙ ap (map Some) (o.bare shut); spent = none_spent (scene s') s'.front; bare = λ h. refl }

emits_once : (s : StreamState) (spans : List (Option Span)) (shown : Shown Octets) → Onces s spans → Onces (after_shown s shown) (spans ++ [])
emits_once s spans (shows.Frame from octets) o = go (due s)
  where
    go : (d : Due) → Onces (left_frame s d) (spans ++ [])
    go StartUp = same_once s (left_frame s StartUp) spans refl refl refl refl o
    go (LastWord payload) = same_once s (left_frame s (LastWord payload)) spans refl refl refl refl o
    go (NextPart part) = same_once s (left_frame s (NextPart part)) spans refl refl refl refl o
    go (Ready rtr) = same_once s (left_frame s (Ready rtr)) spans refl refl refl refl o
    go (Response part) = same_once s s spans refl refl refl refl o
    go NoneDue = same_once s s spans refl refl refl refl o
emits_once s spans (shows.Fetched from frame stag to octets) o = same_once s (after_shown s (shows.Fetched from frame stag to octets)) spans refl refl refl refl o
emits_once s spans (shows.Fault fault) o = same_once s (after_shown s (shows.Fault fault)) spans refl refl refl refl o
emits_once s spans shows.Nothing o = same_once s s spans refl refl refl refl o

-- ---- the frame at the in-order point

-- where it ends
unfoldable pub end_here : StreamState → Carried → ℕ
end_here s frame = frame_end (expecting s.start).markers (standing s frame).start (length frame.ulpdu)

ends_there : (s : StreamState) (t : Tale) → Track s t → (frame : Carried) (rest : Octets) → fore s ≡ Some (frame, rest) → first_place_in s.start + end_here s frame ≡ place_past s (fore s)
unfolding end_here
ends_there s t k frame rest e = past_is s frame rest (sound s t k) e

starts_there : (s : StreamState) (t : Tale) → Track s t → (frame : Carried) → span_start (expecting s.start).markers (standing s frame).start ≡ point_of (scene s)
starts_there s t k frame = (sound s t k).between.span

marked_by : (s : StreamState) (t : Tale) → Track s t → (r : EarlyRecord) → Contains s.early r → (expecting s.start).markers ≡ true
marked_by s t k r within = (k.early.judged.stand r within).marked

-- where it does not lie over one that was placed before its turn
clear_of : (s : StreamState) (frame : Carried) → clashes s (standing s frame) ≡ false → IsClearOfPlaced s.early (standing s frame).start (end_here s frame)
unfolding end_here
clear_of s frame clear r within is_placed over = true≢false (sym ((overlaps_are_told s.early (standing s frame).start (end_here s frame)).1 (r, within, is_placed, over)) ∙ clear)

span_there : (s : StreamState) (t : Tale) (k : Track s t) (frame : Carried) (rest : Octets) → fore s ≡ Some (frame, rest)
    → judged_span t.story ≡ Some (record { from = point_of (scene s); to = end_here s frame })
unfolding end_here
span_there s t k frame rest e =
    ap (λ o. option_map (span_of (expecting t.story.start)) (option_or o (early_frame t.story))) (next_whole s t frame rest k e)
    ∙ ap (λ z. Some (span_of (expecting z) (standing s frame))) k.begins.start
    ∙ ap (λ n. Some (record { from = n; to = frame_end (expecting s.start).markers (standing s frame).start (length frame.ulpdu) })) (starts_there s t k frame)

-- one more is placed
pushed : (spans : List (Option Span)) (known : List Span) (o : Option Span) (x : Span) → spans ≡ map Some known → o ≡ Some x → spans ++ o ∷ [] ≡ map Some (known ++ x ∷ [])
pushed spans known o x are is = (λ i. are i ++ is i ∷ []) ∙ sym (map-append Some known (x ∷ []))

places_there : (s s' : StreamState) (t : Tale) (k : Track s t) (spans : List (Option Span)) (segment : Segment Octets) → Fronts s false segment → s'.start ≡ s.start → s'.arrived ≡ s.arrived → s'.front ≡ kept_of s
    → ((r : EarlyRecord) → Contains s.early r → Contains s'.early r) → Onces s spans → Onces s' (spans ++ judged_span t.story ∷ [])
unfolding end_here
places_there s s' t k spans segment w start arrived front more o =
    let f : PlacedFrame = placed (standing s w.frame) in
    let new : Span = record { from = point_of (scene s); to = end_here s w.frame } in
    let kept : kept_of s ≡ Some f = ap (option_map (λ (x : Carried × Octets). placed (standing s x.0))) w.whole in
    let before : Spent (scene s) None o.known = subst (λ z. Spent (scene s) z o.known) (nothing_waits s w.placed) o.spent in
    let now : Spent (scene s) (Some f) (o.known ++ new ∷ []) =
    front_spent (scene s) f o.known (starts_there s t k w.frame) (marked_by s t k) (clear_of s w.frame (w.clear refl)) before in
    let then_ : Spent (scene s') (Some f) (o.known ++ new ∷ []) =
    still_spent (scene s) (scene s') (Some f) (o.known ++ new ∷ []) (λ i. (arrived i).floor - first_place_in (start i)) (λ i. (expecting (start i)).markers) more now in
    record {
      known = o.known ++ new ∷ [];
      are = pushed spans o.known (judged_span t.story) new o.are (span_there s t k w.frame w.rest w.whole);
      spent = subst (λ z. Spent (scene s') z (o.known ++ new ∷ [])) (sym (front ∙ kept)) then_;
      bare = λ shut. absurd (false≢true (sym shut ∙ ap is_open start ∙ w.started));
    }

-- ---- before its turn

span_early : (s : StreamState) (t : Tale) (k : Track s t) (frame : Frame) → fore s ≡ None → work.early_frame s ≡ Some frame → judged_span t.story ≡ Some (span_of (expecting s.start) frame)
span_early s t k frame none e =
    ap (λ o. option_map (span_of (expecting t.story.start)) (option_or o (early_frame t.story))) (next_none s t k none)
    ∙ ap (option_map (span_of (expecting t.story.start))) (early_frame_is s t k ∙ e)
    ∙ ap (λ z. Some (span_of (expecting z) frame)) k.begins.start

-- the frame at the lowest free place: what its record says
record IsRecorded (s : StreamState) (frame : Frame) (r : EarlyRecord) : Type 0 where
  pub past : point_of (scene s) ≤ from_of r
  pub clear : IsClear s.early r.start r.end
  pub span : span_of (expecting s.start) frame ≡ record { from = from_of r; to = r.end }

recorded : (s : StreamState) (t : Tale) (k : Track s t) (frame : Frame) (state : State (ArrayVec ℕ)) → work.early_frame s ≡ Some frame → IsRecorded s frame (record_of frame state)
recorded s t k frame state e =
    let v : View = scene s in
    let low : first_place_in s.start ≤ s.arrived.floor = (sound s t k).low in
    let o : IsOpenAt v frame = open_at v frame low e in
    let open_ = o.free.open_ in
    let size : length frame.ulpdu ≡ ulpdu_len (found_at v.arrived v.layout v.base frame.start) =
    ap (λ (f : Frame). length f.ulpdu) o.is ∙ length_ulpdu (found_at v.arrived v.layout v.base frame.start) in
    let end : end_of v frame.start ≡ frame_end true frame.start (length frame.ulpdu) = λ i. frame_end (o.marked i) frame.start (sym size i) in
    record {
      past = subst (λ m. point_of v ≤ span_start m frame.start) o.marked open_.past;
      clear = subst (IsClear s.early frame.start) end open_.clear;
      span = λ i. record { from = span_start (o.marked i) frame.start; to = frame_end (o.marked i) frame.start (length frame.ulpdu) };
    }

-- what the record of the frame is added to
with_record : (s s' : StreamState) (r : EarlyRecord) → s'.early ≡ added s.early r → (x : EarlyRecord) → Contains s.early x → Contains s'.early x
with_record s s' r early x within = subst (λ rs. Contains rs x) (sym early) ((adds_one s.early r x).1 (inl within))

places_early : (table : Table) (s s' : StreamState) (t : Tale) (k : Track s t) (spans : List (Option Span)) (step : Seen Octets) (frame : Frame) (state : State (ArrayVec ℕ)) → JudgedEarly table s step → work.early_frame s ≡ Some frame → IsPlaced state
    → s'.start ≡ s.start → s'.arrived ≡ s.arrived → s'.front ≡ None → s'.early ≡ added s.early (record_of frame state) → Onces s spans → Onces s' (spans ++ judged_span t.story ∷ [])
places_early table s s' t k spans step frame state j found is_placed start arrived front early o =
    let r : EarlyRecord = record_of frame state in
    let w : IsRecorded s frame r = recorded s t k frame state found in
    let new : Span = record { from = from_of r; to = r.end } in
    let before : Spent (scene s) None o.known = subst (λ z. Spent (scene s) z o.known) (nothing_waits s (ap is_some j.unplaced)) o.spent in
    let here : Contains s'.early r = subst (λ rs. Contains rs r) (sym early) ((adds_one s.early r r).1 (inr refl)) in
    record {
      known = o.known ++ new ∷ [];
      are = pushed spans o.known (judged_span t.story) new o.are (span_early s t k frame j.none found ∙ ap Some w.span);
      spent = subst (λ z. Spent (scene s') z (o.known ++ new ∷ [])) (sym front)
          (early_spent (scene s) (scene s') r o.known (λ i. (arrived i).floor - first_place_in (start i)) (λ i. (expecting (start i)).markers) (with_record s s' r early) here is_placed w.past w.clear before);
      bare = λ shut. absurd (false≢true (sym shut ∙ ap is_open start ∙ j.runs.started));
    }

-- ---- a turn

-- a record of a placed frame goes with it, or stays
abbrev pub GoesOrStays : StreamState → Carried → Type 0
GoesOrStays s frame = (r : EarlyRecord) → Contains s.early r → IsPlaced r.state → (r.end ≤ end_here s frame) ⊎ (end_here s frame ≤ from_of r)

-- what is kept of the frame there ends where it does
pub fore_end : (s : StreamState) (f : PlacedFrame) (frame : Carried) (rest : Octets) → IsFore s f → fore s ≡ Some (frame, rest) → frame_end (expecting s.start).markers f.start f.len ≡ end_here s frame
unfolding end_here
fore_end s f frame rest w e =
    let same : w.frame ≡ frame = (some_pair_parts _ _ _ _ (sym w.whole ∙ e)).0 in
    ap (λ (g : PlacedFrame). frame_end (expecting s.start).markers g.start g.len) (w.is ∙ ap (λ x. placed (standing s x)) same)

turns_there : (s s' : StreamState) (t : Tale) (k : Track s t) (spans : List (Option Span)) (frame : Carried) (rest : Octets) → fore s ≡ Some (frame, rest) → is_open s.start ≡ true → s'.start ≡ s.start → s'.arrived ≡ past_front s → s'.front ≡ None → s'.early ≡ early_left s
    → GoesOrStays s frame → Onces s spans → Onces s' (spans ++ [])
turns_there s s' t k spans frame rest e opened start arrived front early goes o = record {
  known = o.known;
  are = append-nil spans ∙ o.are;
  spent = subst (λ z. Spent (scene s') z o.known) (sym front) (turn_spent (scene s) (scene s') s.front o.known (omega (arith, there, end, low)) (λ x at. of_front s.front refl x at) left o.spent);
  bare = λ shut. absurd (false≢true (sym shut ∙ ap is_open start ∙ opened));
}
  where
    low : s.arrived.floor ≤ place_past s (fore s)
    low = omega (arith, ap (place_past s) e)

    end : first_place_in s.start + end_here s frame ≡ place_past s (fore s)
    end = ends_there s t k frame rest e

    there : point_of (scene s') ≡ end_here s frame
    there =
        let floor : s'.arrived.floor ≡ max s.arrived.floor (place_past s (fore s)) = ap (λ (a : Arrived). a.floor) arrived ∙ floor_moves s.arrived (place_past s (fore s)) in
        omega (arith, floor, low, end, ap first_place_in start)

    of_front : (f : Option PlacedFrame) → s.front ≡ f → (x : Span) → IsOfFront (scene s) f x → x.to ≤ point_of (scene s')
    of_front None is x at = absurd at
    of_front (Some f) is x at = omega (arith, at.1, fore_end s f frame rest (k.fore_is f is) e, there)

    left : (r : EarlyRecord) → Contains s.early r → IsPlaced r.state → (r.end ≤ point_of (scene s')) ⊎ Contains s'.early r
    left r within is_placed =
        elim (goes r within is_placed) [
          | inl before ↦ inl (omega (arith, before, there))
          | inr past ↦ inr (subst (λ rs. Contains rs r) (sym early) ((keeps_from (place_past s (fore s) - first_place_in s.start) s.early r).1 (within, omega (arith, past, end))))
        ]

-- none lies over a frame that is judged there
pub goes_judged : (s : StreamState) (t : Tale) (k : Track s t) (frame : Carried) → clashes s (standing s frame) ≡ false → GoesOrStays s frame
goes_judged s t k frame clear r within is_placed =
    elim (cases_lt (from_of r) (end_here s frame)) [
      | inr past ↦ inr past
      | inl low ↦
          elim (cases_lt (span_start true (standing s frame).start) r.end) [
            | inl over ↦ absurd (clear_of s frame clear r within is_placed (low, over))
            | inr before ↦
                inl (omega (arith, before, starts_there s t k frame, ap (λ m. span_start m (standing s frame).start) (marked_by s t k r within), (k.early.judged.stand r within).past, low))
          ]
    ]

-- of one that was placed before its turn the record goes, and the others stay
pub goes_turned : (s : StreamState) (t : Tale) (k : Track s t) (f : PlacedFrame) (frame : Carried) (rest : Octets) → waiting s ≡ Some f → fore s ≡ Some (frame, rest) → GoesOrStays s frame
goes_turned s t k f frame rest waits e r within is_placed = go s.front refl
  where
    ends : frame_end (expecting s.start).markers f.start f.len ≡ end_here s frame
    ends = fore_end s f frame rest ((sound s t k).placed_is f waits) e

    first_goes : (w : IsFirstRecord (scene s) f) → Contains (w.first ∷ w.others) r → (r.end ≤ end_here s frame) ⊎ (end_here s frame ≤ from_of r)
    first_goes w (zero, lt, is) =
        let v : View = scene s in
        let stands : Stands v r = k.early.judged.stand r within in
        let at : r.start ≡ front_of v = ap (λ (x : EarlyRecord). x.start) (sym is) ∙ w.at in
        let len : r.length ≡ length (frame_in v (front_of v)).ulpdu = stands.len ∙ ap (λ n. length (frame_in v n).ulpdu) at in
        let end : r.end ≡ frame_end (expecting s.start).markers f.start f.len =
        stands.end ∙ (λ i. frame_end (sym stands.marked i) (at i) (len i)) ∙ ap (λ (g : PlacedFrame). frame_end (expecting s.start).markers g.start g.len) (sym w.is) in
        inl (omega (arith, end, ends))
    first_goes w (suc i, lt, is) = inr (omega (arith, w.later r (i, omega arith, is), ends))

    go : (o : Option PlacedFrame) → s.front ≡ o → (r.end ≤ end_here s frame) ⊎ (end_here s frame ≤ from_of r)
    go None is = let w = first_early s t k f is waits in first_goes w (subst (λ rs. Contains rs r) w.records within)
    go (Some g) is = let same : g ≡ f = same_Some _ _ (ap (λ o. option_or o (placed_at s.early (front_of (scene s)))) (sym is) ∙ waits) in inr (omega (arith, k.early.clear f (is ∙ ap Some same) r within is_placed, ends))

turned_once : (s s' : StreamState) (t : Tale) (k : Track s t) (spans : List (Option Span)) (segment : Segment Octets) → Fronts s true segment → s'.start ≡ s.start → s'.arrived ≡ past_front s → s'.front ≡ None → s'.early ≡ early_left s
    → Onces s spans → Onces s' (spans ++ [])
turned_once s s' t k spans segment w start arrived front early o = go (waiting s) refl
  where
    go : (f : Option PlacedFrame) → waiting s ≡ f → Onces s' (spans ++ [])
    go None is = absurd (false≢true (sym (ap is_some is) ∙ w.placed))
    go (Some f) is = turns_there s s' t k spans w.frame w.rest w.whole w.started start arrived front early (goes_turned s t k f w.frame w.rest is w.whole) o

judged_once : (s s' : StreamState) (t : Tale) (k : Track s t) (spans : List (Option Span)) (segment : Segment Octets) → Fronts s false segment → s'.start ≡ s.start → s'.arrived ≡ past_front s → s'.front ≡ None → s'.early ≡ early_left s
    → Onces s spans → Onces s' (spans ++ [])
judged_once s s' t k spans segment w start arrived front early o =
    turns_there s s' t k spans w.frame w.rest w.whole w.started start arrived front early (goes_judged s t k w.frame (w.clear refl)) o

-- ---- what a placement leaves of the records

records_stay : (s : StreamState) (segment : Segment Octets) → Fronts s false segment → (r : EarlyRecord) → Contains s.early r → Contains (told_of.places s).early r
records_stay s segment w r within =
    subst (λ rs. Contains rs r) (ap (λ b. cond b s.early (told_of.early_with s (λ f. states.Placed (placed f).header))) (sym (ap is_some w.whole))) within

none_kept : (s : StreamState) → fore s ≡ None → kept_of s ≡ None
none_kept s none = ap (option_map (λ (x : Carried × Octets). placed (standing s x.0))) none

records_more : (s : StreamState) (frame : Frame) → fore s ≡ None → work.early_frame s ≡ Some frame → (told_of.places s).early ≡ added s.early (record_of frame (states.Placed (placed frame).header))
records_more s frame none e =
    ap (λ b. cond b s.early (told_of.early_with s (λ f. states.Placed (placed f).header))) (ap is_some none)
    ∙ ap (λ z. option_map_or (λ f. added s.early (record_of f (states.Placed (placed f).header))) z s.early) e

-- ---- each act

-- the peer's start-up frame is awaited: the stream is not open
pub not_heard : (s : StreamState) (outcome : Progress) → Hears s outcome → is_open s.start ≡ false
not_heard s outcome h = ap is_open h.is

-- nor is it where the user may answer
pub not_answered : (s : StreamState) → may_answer s ≡ true → is_open s.start ≡ false
not_answered s e =
    let w = may s e in
    ap is_open w.is ∙ ap is_some (unanswered_not_agreed w.startup (unanswered w.startup w.asked))

pub once_after : (table : Table) (s : StreamState) (t : Tale) (act : StreamAct Octets) (spans : List (Option Span)) → Told table s act → Track s t → Onces s spans → Onces (after_act s act) (spans ++ spans_by t.story act)
once_after table s t (Deliver from number octets Kept) spans rule k o = still_once s (after_act s (Deliver from number octets Kept)) spans refl refl (floor_takes s.arrived (place_of s number) (drop (left_out s number) octets)) (λ r within. within) o
once_after table s t (Raw number octets Kept) spans rule k o = still_once s (after_act s (Raw number octets Kept)) spans refl refl (floor_takes s.arrived (place_of s number) (drop (left_out s number) octets)) (λ r within. within) o
once_after table s t (Deliver from number octets Dropped) spans rule k o = same_once s (after_act s (Deliver from number octets Dropped)) spans refl refl refl refl o
once_after table s t (Raw number octets Dropped) spans rule k o = same_once s (after_act s (Raw number octets Dropped)) spans refl refl refl refl o
once_after table s t (First number None) spans rule k o = same_once s (after_act s (First number None)) spans refl refl refl refl o
once_after table s t (Mulpdu size None) spans rule k o = same_once s (after_act s (Mulpdu size None)) spans refl refl refl refl o
once_after table s t (First number (Some refusal)) spans rule k o = same_once s s spans refl refl refl refl o
once_after table s t (Mulpdu size (Some refusal)) spans rule k o = same_once s s spans refl refl refl refl o
once_after table s t (Post m None) spans rule k o = same_once s (after_act s (Post m None)) spans refl refl refl refl o
once_after table s t (Post m (Some refusal)) spans rule k o = same_once s s spans refl refl refl refl o
once_after table s t (Recv len None) spans rule k o = same_once s (after_act s (Recv len None)) spans refl refl refl refl o
once_after table s t (Recv len (Some refusal)) spans rule k o = same_once s s spans refl refl refl refl o
once_after table s t (Emit shown) spans rule k o = emits_once s spans shown o
once_after table s t (Accept private (Ok agreed)) spans rule k o = shut_once s (after_act s (Accept private (Ok agreed))) spans (not_answered s (accepting s (private_data private).items agreed rule)) o
once_after table s t (Accept private (Err refusal)) spans rule k o = same_once s s spans refl refl refl refl o
once_after table s t (Reject private None) spans rule k o = shut_once s (after_act s (Reject private None)) spans (not_answered s (refusing s (private_data private).items rule)) o
once_after table s t (Reject private (Some refusal)) spans rule k o = same_once s s spans refl refl refl refl o
once_after table s t Break spans rule k o = same_once s (after_act s Break) spans refl refl refl refl o
once_after table s t (Work (seen.Done kind)) spans rule k o = same_once s (after_act s (Work (seen.Done kind))) spans refl refl refl refl o
once_after table s t (Work (seen.Flushed kind)) spans rule k o = same_once s (after_act s (Work (seen.Flushed kind))) spans refl refl refl refl o
once_after table s t (Work (seen.FlushedRecv octets)) spans rule k o = same_once s (after_act s (Work (seen.FlushedRecv octets))) spans refl refl refl refl o
once_after table s t (Work seen.Idle) spans rule k o = same_once s s spans refl refl refl refl o
once_after table s t (Work (seen.Fault fault)) spans (inl m) k o = shut_once s (after_act s (Work (seen.Fault fault))) spans (not_heard s progresses.Agreed m.hears_it) o
once_after table s t (Work (seen.Fault fault)) spans (inr j) k o =
    let started : is_open s.start ≡ true = fault_open table s fault j in
    same_once s (after_act s (Work (seen.Fault fault))) spans (heard_open s.start (inbox s) started) refl (arrived_open s started) refl o
once_after table s t (Work (seen.Asked word private)) spans rule k o = shut_once s (after_act s (Work (seen.Asked word private))) spans (not_heard s progresses.Asked rule.0) o
once_after table s t (Work (seen.Opened agreed word private)) spans rule k o = shut_once s (after_act s (Work (seen.Opened agreed word private))) spans (not_heard s progresses.Agreed rule.0.hears_it) o
once_after table s t (Work (seen.Closed fault)) spans rule k o = shut_once s (after_act s (Work (seen.Closed fault))) spans (not_heard s (progresses.Faulted fault) rule) o
once_after table s t (Work (seen.Placed right stag to octets)) spans rule k o = elim rule [
  | inl (judged, w) ↦
      places_there s (after_act s (Work (seen.Placed right stag to octets))) t k spans (Tagged w.head octets) w.fronts refl refl refl (records_stay s (Tagged w.head octets) w.fronts) o
  | inr (judged, w) ↦
      places_early table s (after_act s (Work (seen.Placed right stag to octets))) t k spans (seen.Placed right stag to octets) w.frame (states.Placed (placed w.frame).header) judged w.is_early tt refl refl (none_kept s judged.none) (records_more s w.frame judged.none w.is_early) o
]
once_after table s t (Work (seen.Buffered msn mo len)) spans rule k o = elim rule [
  | inl (judged, w) ↦
      places_there s (after_act s (Work (seen.Buffered msn mo len))) t k spans (Untagged w.head w.payload) w.fronts refl refl refl (records_stay s (Untagged w.head w.payload) w.fronts) o
  | inr (judged, w) ↦
      places_early table s (after_act s (Work (seen.Buffered msn mo len))) t k spans (seen.Buffered msn mo len) w.frame (states.Placed (placed w.frame).header) judged w.is_early tt refl refl (none_kept s judged.none) (records_more s w.frame judged.none w.is_early) o
]
once_after table s t (Work (seen.Tried place)) spans rule k o =
    still_once s (after_act s (Work (seen.Tried place))) spans refl refl refl (with_record s (after_act s (Work (seen.Tried place))) (record_of rule.frame states.Tried) (ap (λ z. option_map_or (λ f. added s.early (record_of f states.Tried)) z s.early) rule.is_early)) o
once_after table s t (Work (seen.Requested size stag to)) spans rule k o =
    judged_once s (after_act s (Work (seen.Requested size stag to))) t k spans (Untagged rule.1.head rule.1.payload) rule.1.fronts refl refl refl refl o
once_after table s t (Work (seen.Terminated fault)) spans rule k o =
    judged_once s (after_act s (Work (seen.Terminated fault))) t k spans (Untagged rule.1.head rule.1.payload) rule.1.fronts refl refl refl refl o
once_after table s t (Work seen.Passed) spans rule k o = turned_once s (after_act s (Work seen.Passed)) t k spans rule.1.segment rule.1.fronts refl refl refl refl o
once_after table s t (Work (seen.Received octets solicited invalidate)) spans rule k o =
    turned_once s (after_act s (Work (seen.Received octets solicited invalidate))) t k spans (Untagged rule.1.head rule.1.payload) rule.1.fronts refl refl refl refl o
