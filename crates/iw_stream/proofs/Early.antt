-- A frame that is judged before its turn; and which task the frames of an open stream come to, if some were.
use Rattle.std.proofs.Common.{◌≡◌, ℕ, ◌+◌, ◌-◌, ◌<◌, ◌≤◌, Bool, true, false, cond, if◌then◌else◌, length, Option, Some, None, Ok, Err, refl, sym, ap, ◌∙◌, subst, arith, inl, inr}
use Rattle.std.specs.Prelude.{Result, IfOk, IfSome, OnOk, is_some}
use Rattle.std.specs.Option.{option_map, option_map_or, option_or}
use Rattle.std.proofs.lemmas.Bool.{true≢false}
use Rattle.std.proofs.lemmas.Option.{none-some, same_Some}
use Rattle.arrayvec.specs.ArrayVec.{ArrayVec}
use Rattle.iw_octets.specs.declared.fault.Fault.{Fault}
use Rattle.iw_octets.specs.Segment.{read_segment}
use Rattle.iw_memory.specs.Table.{Table}
use Rattle.iw_ranges.specs.Arrived.{Arrived, cell_at}
use Rattle.iw_fpdu.specs.declared.layout.Layout.{Layout}
use Rattle.iw_fpdu.specs.Frame.{frame_end}
use Rattle.iw_fpdu.specs.Places.{frame_start}
use Rattle.iw_fpdu.specs.Reading.{end_at}
use Rattle.iw_fpdu.specs.Found.{Found, IsKept, octet_in}
use Rattle.iw_fpdu.specs.Laws.{IsBetween, found_at}
use Rattle.iw_fpdu.proofs.Octets.{span_low}
use Rattle.iw_locate.specs.declared.frame.Frame as located
use Rattle.iw_locate.specs.declared.judged.State.{State}
use Rattle.iw_locate.specs.declared.judged.State.TheVariants.{Tried, Placed}
use Rattle.iw_locate.specs.Records as records
use Rattle.iw_locate.specs.Records.{AreApart, added}
use Rattle.iw_locate.specs.Free.{scene_of, front_of, point_of}
use Rattle.iw_locate.specs.Next.{IsFrontWhole}
use Rattle.iw_locate.specs.Lowest.{overlaps_placed, early_place}
use Rattle.iw_locate.specs.Keeping as keeping
use Rattle.iw_locate.specs.Keeping.{IsFrontUnplaced}
use Rattle.iw_locate.proofs.Front.{front_clear, starts_of}
use Rattle.iw_locate.proofs.Holds.{adds_one}
use Rattle.iw_untagged.specs.Receiving.{Receiving}
use Rattle.iw_stream.specs.declared.landing.Landing.{Landing}
use Rattle.iw_stream.specs.Frames.{Frame, EarlyRecord, IsNext, frame_at, frame_by, kept_by, payload_of, placed, record_tried, state_tried, without}
use Rattle.iw_stream.specs.Incoming.{Coming, IsClearAt, IsSameScene, frame_in, scene_in}
use Rattle.iw_stream.specs.Judging.{Standing, early_verdict, judged_head, landing_in, may_be_early, receiving_tried, table_tried, verdict}
use Rattle.iw_stream.specs.Kept.{IsPlaced, Keeps, KeepsBuffer, KeepsHeader, NoneReachesOver}
use Rattle.iw_stream.specs.Starting.{is_open, expecting, first_place_in}
use Rattle.iw_stream.specs.Stream.{StreamState}
use Rattle.iw_stream.specs.Work.{Task, Turn, Clash, Judge, Try, Rest, after_trying, clashes, early_frame, frame_task, front_task, left_by, next_frame, scene, standing, step_of, table_left, tried_step, waiting}
use Rattle.iw_stream.proofs.Arriving.{placed_there}
use Rattle.iw_stream.proofs.Fronts.{frame_whole}
use Rattle.iw_stream.proofs.Buffers.{StaysThere, stays_same, stays_so}
use Rattle.iw_stream.proofs.Headers.{header_short, kept_buffer}
use Rattle.iw_stream.proofs.Keeping.{IsJudged, IsPlacing, early_placing, frame_judged, judged_whole, segment_placed, segment_stays}
use Rattle.iw_stream.proofs.Landings.{length_ulpdu}
use Rattle.iw_stream.proofs.Tagged.{next_is}
use Rattle.iw_stream.proofs.Tasks.{task_tries}
use Rattle.iw_stream.proofs.Releasing.{clear_held, floor_without}

-- ---- no frame waits at the in-order point, and none is whole there
pub is_none : {A : Type 0} (o : Option A) → is_some o ≡ false → o ≡ None
is_none None e = refl
is_none (Some x) e = absurd (true≢false e)

-- the frame there was asked for, and nothing has changed
pub record IsUnjudged (table m : Table) (s t : StreamState) : Type 0 where
  pub same : t ≡ s
  pub tables : m ≡ table
  pub none : waiting s ≡ None
  pub lacks : next_frame s ≡ None

pub unjudged : {A : Type 0} (table m : Table) (s t : StreamState) (o : Option A) → o ≡ None → is_some o ≡ is_some (next_frame s)
    → t ≡ left_by table s (option_map_or Judge (next_frame s) Rest) → m ≡ table_left table s (option_map_or Judge (next_frame s) Rest)
    → waiting s ≡ None → IsUnjudged table m s t
unjudged table m s t o is whole after left none =
    let lacks = is_none (next_frame s) (sym whole ∙ ap is_some is) in record {
      same = after ∙ ap (λ o. left_by table s (option_map_or Judge o Rest)) lacks;
      tables = left ∙ ap (λ o. table_left table s (option_map_or Judge o Rest)) lacks;
      none = none;
      lacks = lacks;
    }

-- what comes of trying is what comes of the task
pub tries : {X : Type 0} (f : Table → StreamState → Task → X) (table m : Table) (s t : StreamState) → IsUnjudged table m s t → f m t (option_map_or Try (early_frame t) Rest) ≡ f table s (frame_task s)
tries f table m s t w = (λ i. f (w.tables i) (w.same i) (option_map_or Try (early_frame (w.same i)) Rest)) ∙ ap (f table s) (sym (task_tries s w.none w.lacks))

-- ---- one is whole there, and it was looked up whether it lies over one that was placed
pub record IsSeen (s : StreamState) (found : Found) (over : Bool) : Type 0 where
  pub next : next_frame s ≡ Some (frame_by found)
  pub begins : found.start ≡ front_of (scene s)
  pub clash : clashes s (frame_by found) ≡ over

pub seen : (s : StreamState) (layout : Layout) (base floor start end : ℕ) (found : Found) (over : Bool) → layout ≡ expecting s.start → base ≡ first_place_in s.start → floor ≡ s.arrived.floor
    → start ≡ frame_start layout.markers (floor - base) → Some (frame_by found) ≡ frame_at layout s.arrived base start → IsNext layout s.arrived base found
    → end ≡ end_at (octet_in found.arrived found.base) found.layout.markers found.start → over ≡ overlaps_placed s.early start end → IsSeen s found over
seen s layout base floor start end found over l b f at is n to looked =
    let from : start ≡ found.start = at ∙ ap (λ p. frame_start layout.markers (p - base)) f ∙ sym (ap (λ (x : Found). x.start) n.is) in
    let m = ap (λ (x : Found). x.layout.markers) n.is ∙ ap (λ (x : Layout). x.markers) l in record {
      next = next_is s layout base start floor (Some (frame_by found)) l b f at is;
      begins = ap (λ (x : Found). x.start) n.is ∙ (λ i. frame_start (l i).markers (s.arrived.floor - b i));
      clash = sym (looked ∙ (λ i. overlaps_placed s.early (from i) (to i)) ∙ (λ i. overlaps_placed s.early found.start (frame_end (m i) found.start (sym (length_ulpdu found) i))));
    }

front_is : (s : StreamState) (found : Found) (over : Bool) → waiting s ≡ None → IsSeen s found over → frame_task s ≡ cond over (Clash (frame_by found)) (Judge (frame_by found))
front_is s found over none w =
    (λ i. option_map_or Turn (none i) (option_map_or (front_task s) (w.next i) (option_map_or Try (early_frame s) Rest))) ∙ ap (λ b. cond b (Clash (frame_by found)) (Judge (frame_by found))) w.clash

pub task_clashes : (s : StreamState) (found : Found) (over : Bool) → waiting s ≡ None → IsSeen s found over → over ≡ true → Clash (frame_by found) ≡ frame_task s
task_clashes s found over none w is = sym (front_is s found over none w ∙ ap (λ b. cond b (Clash (frame_by found)) (Judge (frame_by found))) is)

pub task_judges : (s : StreamState) (found : Found) (over : Bool) → waiting s ≡ None → IsSeen s found over → over ≡ false → option_map_or Judge (next_frame s) Rest ≡ frame_task s
task_judges s found over none w is = ap (λ o. option_map_or Judge o Rest) w.next ∙ sym (front_is s found over none w ∙ ap (λ b. cond b (Clash (frame_by found)) (Judge (frame_by found))) is)

pub none_clashes : (s : StreamState) (found : Found) (over : Bool) → IsSeen s found over → over ≡ false → (frame : Frame) → next_frame s ≡ Some frame → clashes s frame ≡ false
none_clashes s found over w clear frame is = ap (clashes s) (sym (same_Some _ _ (sym w.next ∙ is))) ∙ w.clash ∙ clear

-- if none that was placed lies over it, whatever was judged past it
pub task_front : (s : StreamState) → waiting s ≡ None → is_some (next_frame s) ≡ true → ((frame : Frame) → next_frame s ≡ Some frame → clashes s frame ≡ false) → option_map_or Judge (next_frame s) Rest ≡ frame_task s
task_front s none whole clear = go (next_frame s) refl whole
  where
    go : (o : Option Frame) → next_frame s ≡ o → is_some o ≡ true → option_map_or Judge (next_frame s) Rest ≡ frame_task s
    go None e some = absurd (true≢false (sym some))
    go (Some frame) e some =
        ap (λ o. option_map_or Judge o Rest) e
        ∙ sym ((λ i. option_map_or Turn (none i) (option_map_or (front_task s) (e i) (option_map_or Try (early_frame s) Rest))) ∙ ap (λ b. cond b (Clash frame) (Judge frame)) (clear frame e))

-- ---- a frame is looked for past it
pub scene_is : (s : StreamState) (old : Coming) → old.layout ≡ expecting s.start → old.base ≡ first_place_in s.start → old.arrived ≡ s.arrived → old.early ≡ s.early → scene_in old ≡ scene s
scene_is s old layout base arrived early = (λ i. scene_of (layout i) (base i) (arrived i) (early i))

none_of : {A : Type 0} (o p : Option A) → option_or o p ≡ None → (o ≡ None) × (p ≡ None)
none_of None p e = (refl, e)
none_of (Some x) p e = absurd (none-some _ (sym e))

kept_none : (r : EarlyRecord) (state : State (ArrayVec ℕ)) → records.IsPlaced state → kept_by r state ≡ None → ⊥
kept_none r Tried p e = p
kept_none r (Placed header) p e = none-some _ (sym e)

unplaced : (s : StreamState) → AreApart s.early → waiting s ≡ None → IsFrontUnplaced (scene s)
unplaced s apart none r within placed at = kept_none r r.state placed (sym (placed_there s.early (front_of (scene s)) r apart within at) ∙ (none_of s.front _ none).1)

pub front_unplaced : (s : StreamState) (old : Coming) → scene_in old ≡ scene s → AreApart s.early → waiting s ≡ None → IsFrontUnplaced (scene_in old)
front_unplaced s old same apart none = subst IsFrontUnplaced (sym same) (unplaced s apart none)

-- so the length of the one at the in-order point is held
abbrev pub IsFrontKept : StreamState → Type 0
IsFrontKept s = (p : ℕ) → front_of (scene s) ≤ p → p < front_of (scene s) + 2 → IsKept (cell_at s.arrived (first_place_in s.start + p))

pub front_kept : (s : StreamState) → keeping.Keeps (scene s) → AreApart s.early → waiting s ≡ None → IsFrontKept s
front_kept s kept apart none p low high =
    let v = scene s in
    let clear = front_clear v kept.between kept.marked (starts_of s.early apart) kept.records (unplaced s apart none) in
    clear_held v kept.released (front_of v) (front_of v + 2) clear p (omega (arith, low, kept.between.span, span_low v.layout.markers (front_of v))) (omega (arith, low, span_low true (front_of v))) high

-- wherever it is looked up
module _ (s : StreamState) (layout : Layout) (base start floor : ℕ) (l : layout ≡ expecting s.start) (b : base ≡ first_place_in s.start) (f : floor ≡ s.arrived.floor) (at : start ≡ frame_start layout.markers (floor - base)) where
  pub kept_there : IsFrontKept s → (p : ℕ) → start ≤ p → p < start + 2 → IsKept (cell_at s.arrived (base + p))
  kept_there kept p low high =
      let is : start ≡ front_of (scene s) = at ∙ (λ i. frame_start (l i).markers (f i - b i)) in
      subst (λ z. IsKept (cell_at s.arrived (z + p))) (sym b) (kept p (omega (arith, low, is)) (omega (arith, high, is)))

pub clear_there : (s : StreamState) (c : Coming) (start floor : ℕ) → c.layout ≡ expecting s.start → c.base ≡ first_place_in s.start → c.arrived ≡ s.arrived → c.early ≡ s.early → floor ≡ s.arrived.floor
    → start ≡ frame_start c.layout.markers (floor - c.base) → ((frame : Frame) → next_frame s ≡ Some frame → clashes s frame ≡ false) → IsClearAt c start
clear_there s c start floor l b a e f at clear frame is =
    (λ i. overlaps_placed (e i) frame.start (frame_end (l i).markers frame.start (length frame.ulpdu)))
    ∙ clear frame (next_is s c.layout c.base start floor (frame_at c.layout s.arrived c.base start) l b f at refl ∙ ap (λ x. frame_at c.layout x c.base start) (sym a) ∙ is)

-- it begins there
pub begins_at : (s : StreamState) (found : Found) (layout : Layout) (base start floor : ℕ) → layout ≡ expecting s.start → base ≡ first_place_in s.start → IsNext layout s.arrived base found → found.start ≡ front_of (scene s)
begins_at s found layout base start floor l b n = ap (λ (x : Found). x.start) n.is ∙ (λ i. frame_start (l i).markers (s.arrived.floor - b i))

pub front_lacks : (s : StreamState) (old : Coming) → scene_in old ≡ scene s → next_frame s ≡ None → IsFrontWhole (scene_in old) → ⊥
front_lacks s old same lacks =
    subst (λ v. IsFrontWhole v → ⊥) (sym same) (λ whole. none-some _ (sym lacks ∙ frame_whole (expecting s.start) s.arrived (first_place_in s.start) (front_of (scene s)) whole))

-- ---- and found; the search went on, and there is room for its record
pub record IsFound (s : StreamState) (now : Coming) (start : ℕ) : Type 0 where
  pub found : early_frame s ≡ Some (frame_in now start)
  pub arrived : now.arrived ≡ s.arrived
  pub early : now.early ≡ s.early
  pub layout : now.layout ≡ expecting s.start
  pub base : now.base ≡ first_place_in s.start

pub found_early : (s : StreamState) (old mid now : Coming) (o : Option located.Frame) (f : located.Frame) → old.layout ≡ expecting s.start → old.base ≡ first_place_in s.start → old.arrived ≡ s.arrived → old.early ≡ s.early
    → IsSameScene old mid → IsSameScene mid now → o ≡ Some f → option_map (λ (x : located.Frame). x.start) o ≡ early_place (scene_in old) → IsFound s now f.start
found_early s old mid now o f l b a e first second is at =
    let layout : now.layout ≡ expecting s.start = second.layout ∙ first.layout ∙ l in
    let base : now.base ≡ first_place_in s.start = second.base ∙ first.base ∙ b in
    let arrived : now.arrived ≡ s.arrived = second.arrived ∙ first.arrived ∙ a in record {
      found = ap (option_map (λ start. frame_by (found_at s.arrived (expecting s.start) (first_place_in s.start) start)))
          (sym (ap early_place (scene_is s old l b a e)) ∙ sym at ∙ ap (option_map (λ (x : located.Frame). x.start)) is)
          ∙ (λ i. Some (frame_by (found_at (sym arrived i) (sym layout i) (sym base i) f.start)));
      arrived = arrived;
      early = second.early ∙ first.early ∙ e;
      layout = layout;
      base = base;
    }

pub none_found : (s : StreamState) (old : Coming) (o : Option located.Frame) → scene_in old ≡ scene s → o ≡ None → option_map (λ (x : located.Frame). x.start) o ≡ early_place (scene_in old) → early_frame s ≡ None
none_found s old o same is at =
    ap (option_map (λ start. frame_by (found_at s.arrived (expecting s.start) (first_place_in s.start) start))) (sym (ap early_place same) ∙ sym at ∙ ap (option_map (λ (x : located.Frame). x.start)) is)

-- ---- what it comes to
pub ok_is : {T E : Type 0} (r : Result T E) (x y : T) → r ≡ Ok x → x ≡ y → IfOk r (λ z. z ≡ y)
ok_is r x y is same = subst (λ q. IfOk q (λ z. z ≡ y)) (sym is) same

pub on_ok : {T E : Type 0} (P : Type 0) (r : Result T E) (x : T) → r ≡ Ok x → P → OnOk r P
on_ok P r x is h = subst (λ q. OnOk q P) (sym is) h

pub step_tried : (table : Table) (s : StreamState) (frame : Frame) (place : ℕ) (o : Option Landing) → early_frame s ≡ Some frame → o ≡ early_verdict (standing table s) frame → place ≡ first_place_in s.start
    → tried_step (place + frame.start) o ≡ step_of table s (option_map_or Try (early_frame s) Rest)
step_tried table s frame place o found landed base =
    (λ i. tried_step (base i + frame.start) (landed i)) ∙ ap (λ o. step_of table s (option_map_or Try o Rest)) (sym found)

pub stream_tried : (table : Table) (s : StreamState) (now after : Coming) (r : Receiving) (start : ℕ) (o : Option Landing) → IsFound s now start → o ≡ early_verdict (standing table s) (frame_in now start)
    → after.arrived ≡ without now.base now.arrived (record_tried (frame_in now start) o) (state_tried (frame_in now start) o) → after.early ≡ added now.early (record_tried (frame_in now start) o)
    → r ≡ receiving_tried s.receiving (frame_in now start) o
    → record s { arrived = after.arrived; early = after.early; receiving = r } ≡ left_by table s (option_map_or Try (early_frame s) Rest)
stream_tried table s now after r start o w landed arrived early receiving =
    let come : after.arrived ≡ without (first_place_in s.start) s.arrived (record_tried (frame_in now start) o) (state_tried (frame_in now start) o) =
    arrived ∙ (λ i. without (w.base i) (w.arrived i) (record_tried (frame_in now start) o) (state_tried (frame_in now start) o)) in
    let kept : after.early ≡ added s.early (record_tried (frame_in now start) o) = early ∙ ap (λ rs. added rs (record_tried (frame_in now start) o)) w.early in
    (λ i. record s { arrived = come i; early = kept i; receiving = receiving i }) ∙ ap (after_trying s (frame_in now start)) landed ∙ ap (λ o. left_by table s (option_map_or Try o Rest)) (sym w.found)

pub memory_tried : (table m : Table) (s : StreamState) (frame : Frame) (o : Option Landing) → early_frame s ≡ Some frame → o ≡ early_verdict (standing table s) frame → m ≡ table_tried table frame o
    → m ≡ table_left table s (option_map_or Try (early_frame s) Rest)
memory_tried table m s frame o found landed left = left ∙ ap (table_tried table frame) landed ∙ ap (λ o. table_left table s (option_map_or Try o Rest)) (sym found)

-- ---- one that was placed early passed every check
landed : (r : Result Landing Fault) (x : Landing) → landing_in r ≡ Some x → r ≡ Ok x
landed (Ok y) x e = ap Ok (same_Some _ _ e)
landed (Err fault) x e = absurd (none-some _ e)

early_judged : (at : Standing) (frame : Frame) (x : Landing) → early_verdict at frame ≡ Some x → IsJudged at frame.ulpdu x × IsPlacing x
early_judged at frame x e = go (may_be_early (judged_head at frame.ulpdu)) refl e
  where
    go : (b : Bool) → may_be_early (judged_head at frame.ulpdu) ≡ b → (if b then landing_in (verdict at frame) else None) ≡ Some x → IsJudged at frame.ulpdu x × IsPlacing x
    go false is h = absurd (none-some _ h)
    go true is h =
        let j = frame_judged at frame x (landed (verdict at frame) x h) in
        (j, early_placing at j.head (length (payload_of (read_segment frame.ulpdu))) x (ap may_be_early (sym j.is) ∙ is) j.placed)

-- its header is kept, and a Send's has its buffer
tried_header : (at : Standing) (frame : Frame) (o : Option Landing) → o ≡ early_verdict at frame → KeepsHeader (record_tried frame o) (state_tried frame o)
tried_header at frame None is = tt
tried_header at frame (Some x) is =
    let j = (early_judged at frame x (sym is)).0 in
    record { whole = judged_whole frame.ulpdu (length at.asked.unanswered) j.head j.judged; within = header_short frame.ulpdu }

tried_buffer : (at : Standing) (frame : Frame) (point : ℕ) (o : Option Landing) → o ≡ early_verdict at frame → KeepsBuffer (receiving_tried at.receiving frame o) point (record_tried frame o) (state_tried frame o)
tried_buffer at frame point None is = tt
tried_buffer at frame point (Some x) is =
    let (j, placing) = early_judged at frame x (sym is) in
    inl (kept_buffer (receiving_tried at.receiving frame (Some x)) frame.ulpdu (segment_placed at frame.ulpdu (length at.asked.unanswered) j.head x j.judged j.placed placing))

-- and no buffer goes
tried_stays : (at : Standing) (frame : Frame) (o : Option Landing) → o ≡ early_verdict at frame → StaysThere at.receiving (receiving_tried at.receiving frame o)
tried_stays at frame None is = stays_same at.receiving at.receiving refl
tried_stays at frame (Some x) is =
    let j = (early_judged at frame x (sym is)).0 in
    segment_stays at frame.ulpdu (length at.asked.unanswered) j.head x j.judged j.placed

-- the record of the frame is added, and its octets may be given up
keeps_record : (s : StreamState) (table : Table) (frame : Frame) (o : Option Landing) (a : Arrived) (r : Receiving) → is_open s.start ≡ true → waiting s ≡ None → o ≡ early_verdict (standing table s) frame
    → a.floor ≡ s.arrived.floor → r ≡ receiving_tried s.receiving frame o → Keeps s
    → Keeps (record s { arrived = a; early = added s.early (record_tried frame o); receiving = r })
keeps_record s table frame o a r running none landed floor left k =
    let front : s.front ≡ None = (none_of s.front _ none).0 in
    record {
      started = record {
        unopened = λ e. absurd (true≢false (sym running ∙ e));
        unsent = k.started.unsent;
        alone = k.started.alone;
        unread = k.started.unread;
        beyond = omega (arith, floor, k.started.beyond);
      };
      between = subst (λ f. IsBetween (expecting s.start).markers (f - first_place_in s.start)) (sym floor) k.between;
      aligned = k.aligned;
      enough = k.enough;
      few = k.few;
      is_placed = λ e. subst (λ x. IfSome x (IsPlaced (record s { arrived = a; early = added s.early (record_tried frame o); receiving = r }))) (sym front) tt;
      clear = λ e. subst (λ x. IfSome x (NoneReachesOver (record s { arrived = a; early = added s.early (record_tried frame o); receiving = r }))) (sym front) tt;
      headed = λ x within. elim ((adds_one s.early (record_tried frame o) x).0 within) [
        | inl old ↦ k.headed x old
        | inr new ↦ subst (λ (y : EarlyRecord). KeepsHeader y y.state) new (tried_header (standing table s) frame o landed)
      ];
      buffered = λ e x within. subst (λ f. KeepsBuffer r (f - first_place_in s.start) x x.state) (sym floor)
          (subst (λ t. KeepsBuffer t (point_of (scene s)) x x.state) (sym left) (elim ((adds_one s.early (record_tried frame o) x).0 within) [
            | inl old ↦ stays_so s.receiving (receiving_tried s.receiving frame o) (point_of (scene s)) (point_of (scene s)) s.early (tried_stays (standing table s) frame o landed) (omega arith) x old (k.buffered e x old)
            | inr new ↦ subst (λ (y : EarlyRecord). KeepsBuffer (receiving_tried s.receiving frame o) (point_of (scene s)) y y.state) new (tried_buffer (standing table s) frame (point_of (scene s)) o landed)
          ]));
      unopened = λ e. absurd (true≢false (sym running ∙ e));
      first = k.first;
      awaited = k.awaited;
    }

-- the in-order point stays
pub floor_tried : (now after : Coming) (start : ℕ) (o : Option Landing) → after.arrived ≡ without now.base now.arrived (record_tried (frame_in now start) o) (state_tried (frame_in now start) o) → after.arrived.floor ≡ now.arrived.floor
floor_tried now after start o arrived = ap (λ (a : Arrived). a.floor) arrived ∙ floor_without now.base now.arrived (record_tried (frame_in now start) o) (state_tried (frame_in now start) o)

pub keeps_tried : (s : StreamState) (table : Table) (now after : Coming) (r : Receiving) (start : ℕ) (o : Option Landing) → is_open s.start ≡ true → waiting s ≡ None → IsFound s now start
    → o ≡ early_verdict (standing table s) (frame_in now start) → after.arrived ≡ without now.base now.arrived (record_tried (frame_in now start) o) (state_tried (frame_in now start) o)
    → after.early ≡ added now.early (record_tried (frame_in now start) o) → r ≡ receiving_tried s.receiving (frame_in now start) o → Keeps s
    → Keeps (record s { arrived = after.arrived; early = after.early; receiving = r })
keeps_tried s table now after r start o running none w landed arrived early left k =
    let floor : after.arrived.floor ≡ s.arrived.floor = floor_tried now after start o arrived ∙ ap (λ (a : Arrived). a.floor) w.arrived in
    let kept : after.early ≡ added s.early (record_tried (frame_in now start) o) = early ∙ ap (λ rs. added rs (record_tried (frame_in now start) o)) w.early in
    subst (λ rs. Keeps (record s { arrived = after.arrived; early = rs; receiving = r })) (sym kept) (keeps_record s table (frame_in now start) o after.arrived r running none landed floor left k)
