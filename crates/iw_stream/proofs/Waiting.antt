-- A frame that was placed before its turn, once it stands at the in-order point; and that no placed frame reaches over one there.
use Rattle.std.proofs.Common.{◌≡◌, ◌⊎◌, ℕ, suc, ◌+◌, ◌-◌, ◌<◌, ◌≤◌, ◌^◌, ◌==◌, Bool, true, false, if◌then◌else◌, List, [], ◌∷◌, length, get_or, Option, Some, None, Contains, refl, sym, ap, ◌∙◌, subst, arith, inl, inr}
use Rattle.std.specs.Prelude.{not, IfSome}
use Rattle.std.specs.Option.{option_or}
use Rattle.std.proofs.lemmas.List.{get_or_default}
use Rattle.std.proofs.lemmas.Bool.{cases_lt, cases_Bool, true≢false}
use Rattle.std.proofs.lemmas.Bool.Decides.{nat_tests}
use Rattle.std.proofs.lemmas.Option.{none-some, same_Some}
use Rattle.arrayvec.specs.ArrayVec.{ArrayVec}
use Rattle.iw_ranges.specs.Arrived.{IsWithinLimits, Missing, Gone, cell_at, window, has_come, is_missing}
use Rattle.iw_ranges.proofs.ByPlace.{below}
use Rattle.iw_fpdu.specs.declared.layout.Layout.{Layout}
use Rattle.iw_fpdu.specs.Frame.{frame_end}
use Rattle.iw_fpdu.specs.Places.{IsStart, span_start}
use Rattle.iw_fpdu.specs.Found.{Found, is_whole, ulpdu_len}
use Rattle.iw_fpdu.specs.Laws.{IsBetween, found_at}
use Rattle.iw_fpdu.proofs.Came.{tells_whole}
use Rattle.iw_fpdu.proofs.Follows.{begins, frames_follow}
use Rattle.iw_fpdu.proofs.Octets.{span_low, length_within}
use Rattle.iw_locate.specs.declared.judged.State.{State}
use Rattle.iw_locate.specs.declared.judged.State.TheVariants.{Tried, Placed}
use Rattle.iw_locate.specs.Records as records
use Rattle.iw_locate.specs.Records.{from_of, AreApart}
use Rattle.iw_locate.specs.Free.{scene_of, front_of, point_of}
use Rattle.iw_locate.specs.Lowest.{overlaps_placed}
use Rattle.iw_locate.specs.Keeping as keeping
use Rattle.iw_locate.specs.Keeping.{IsPassed}
use Rattle.iw_locate.proofs.Telling.{overlaps_are_told}
use Rattle.iw_stream.specs.declared.landing.PlacedFrame.{PlacedFrame}
use Rattle.iw_stream.specs.Frames.{Frame, EarlyRecord, frame_by, kept_by, placed_at, head_in, payload_len}
use Rattle.iw_stream.specs.Kept.{HasBuffer, WasHandedOut, Stands, IsPlaced, NoneReachesOver, HasHeader, KeepsHeader, KeepsBuffer, Keeps}
use Rattle.iw_stream.specs.Starting.{expecting, first_place_in}
use Rattle.iw_stream.specs.Stream.{StreamState, ended}
use Rattle.iw_stream.specs.Work.{scene, waiting, next_frame, clashes, place_past}
use Rattle.iw_stream.proofs.Buffers.{turn_room}
use Rattle.iw_stream.proofs.Fronts.{start_near}
use Rattle.iw_stream.proofs.Landings.{length_ulpdu}

-- ---- the in-order point moves on to the end of a frame there
start_is : (s : StreamState) (frame : PlacedFrame) → Keeps s → Stands s frame → IsStart (expecting s.start).markers frame.start
start_is s frame k at = subst (IsStart (expecting s.start).markers) (sym at.begins) (begins (expecting s.start).markers (s.arrived.floor - first_place_in s.start) k.between)

passed_here : (s : StreamState) (frame : PlacedFrame) → Keeps s → Stands s frame → NoneReachesOver s frame → IsPassed (scene s) (place_past s frame)
passed_here s frame k at over =
    let m : Bool = (expecting s.start).markers in
    let end : ℕ = frame_end m frame.start frame.len in
    let there : place_past s frame - first_place_in s.start ≡ end = omega arith in record {
      past = omega (arith, there, at.begins, length_within m frame.start frame.len (start_is s frame k at));
      between = subst (IsBetween m) (sym there) at.next;
      come = at.come;
      placed = λ r within placed before. omega (arith, there, over r within placed (omega (arith, there, before)));
    }

pub passed : (s : StreamState) (frame : PlacedFrame) (layout : Layout) (base place : ℕ) → layout ≡ expecting s.start → base ≡ first_place_in s.start → place ≡ place_past s frame → Keeps s → Stands s frame → NoneReachesOver s frame
    → IsPassed (scene_of layout base s.arrived s.early) place
passed s frame layout base place laid from to k at over =
    subst (λ l. IsPassed (scene_of l base s.arrived s.early) place) (sym laid)
    (subst (λ b. IsPassed (scene_of (expecting s.start) b s.arrived s.early) place) (sym from)
    (subst (λ p. IsPassed (scene s) p) (sym to) (passed_here s frame k at over)))

-- ---- the record of a frame that is shown as placed
record IsShown (rs : List EarlyRecord) (start : ℕ) (frame : PlacedFrame) : Type 0 where
  pub r : EarlyRecord
  pub within : Contains rs r
  pub at : r.start ≡ start
  pub state : r.state ≡ Placed frame.header
  pub start_ : r.start ≡ frame.start
  pub len : r.length ≡ frame.len

shown_by : (r : EarlyRecord) (state : State (ArrayVec ℕ)) (frame : PlacedFrame) → kept_by r state ≡ Some frame → (state ≡ Placed frame.header) × (r.start ≡ frame.start) × (r.length ≡ frame.len)
shown_by r Tried frame e = absurd (let no : ⊥ = cc in no)
shown_by r (Placed header) frame e =
    let f : PlacedFrame = record { start = r.start; len = r.length; header = header } in
    let same : f ≡ frame = cc in
    (ap (λ (f : PlacedFrame). Placed f.header) same, ap (λ (f : PlacedFrame). f.start) same, ap (λ (f : PlacedFrame). f.len) same)

shown : (rs : List EarlyRecord) (start : ℕ) (frame : PlacedFrame) → placed_at rs start ≡ Some frame → IsShown rs start frame
shown [] start frame e = absurd (let no : ⊥ = cc in no)
shown (x ∷ rs) start frame e = go (λ h. shown rs start frame h) (x.start == start) refl e
  where
    more : IsShown rs start frame → IsShown (x ∷ rs) start frame
    more w = record { r = w.r; within = (suc w.within.0, omega (arith, w.within.1), w.within.2); at = w.at; state = w.state; start_ = w.start_; len = w.len }

    go : (placed_at rs start ≡ Some frame → IsShown rs start frame) → (b : Bool) → (x.start == start) ≡ b → (if b then kept_by x x.state else placed_at rs start) ≡ Some frame → IsShown (x ∷ rs) start frame
    go rest true is h = let w = shown_by x x.state frame h in record { r = x; within = (0, omega arith, refl); at = (let t : x.start ≡ start = grind (arith, nat_tests) in t); state = w.0; start_ = w.1; len = w.2 }
    go rest false is h = more (rest h)

-- no two lie over one another: one that begins before the end of the first ends there too
under : (rs : List EarlyRecord) → AreApart rs → (point : ℕ) (r x : EarlyRecord) → Contains rs r → Contains rs x → from_of r ≡ point → point ≤ from_of x → from_of x < r.end → x.end ≤ r.end
under rs apart point r x (i, il, ir) (j, jl, jx) at low before =
    let there : get_or rs j r ≡ x = get_or_default rs j r x jl ∙ jx in
    let from = ap (λ (y : EarlyRecord). from_of y) there in
    let end = ap (λ (y : EarlyRecord). y.end) there in
    let from_r = ap (λ (y : EarlyRecord). from_of y) ir in
    let end_r = ap (λ (y : EarlyRecord). y.end) ir in
    elim (cases_lt i j) [
      | inl after ↦ absurd (omega (arith, apart.order i j r after jl, end_r, from, before))
      | inr more ↦ elim (cases_lt j i) [
        | inl ahead ↦ absurd (omega (arith, apart.order j i r ahead il, from_r, end, at, low, from, apart.some j r jl, span_low true (get_or rs j r).start))
        | inr same ↦ omega (arith, end, end_r, ap (λ k. (get_or rs k r).end) (let e : i ≡ j = omega (arith, more, same) in e))
      ]
    ]

none_in : (xs : List EarlyRecord) → xs ≡ [] → (x : EarlyRecord) → Contains xs x → ⊥
none_in [] e x (k, lt, is) = omega (arith, lt)
none_in (y ∷ xs) e x within = absurd (cc e)

-- ---- it stands there as one that was placed there does
module _ (s : StreamState) (k : Keeps s) (kept : keeping.Keeps (scene s)) (apart : AreApart s.early) (limits : IsWithinLimits s.arrived) where
  some : (x : EarlyRecord) → Contains s.early x → from_of x < x.end
  some x (j, jl, jx) = omega (arith, apart.some j x jl, ap (λ (y : EarlyRecord). y.end) jx, ap (λ (y : EarlyRecord). y.start) jx, span_low true x.start)

  -- each record's frame begins at the in-order point or past it, in the window
  pub records_near : (x : EarlyRecord) → Contains s.early x → (point_of (scene s) ≤ from_of x) × (from_of x ≤ point_of (scene s) + window)
  records_near x within = (
    kept.records x within,
    elim (cases_lt (point_of (scene s) + window) (from_of x)) [
      | inl far ↦
          absurd (true≢false (sym (kept.whole x within (from_of x) (omega arith) (some x within)) ∙ ap (λ c. not (is_missing c)) (limits.octets (first_place_in s.start + from_of x) (omega (arith, far, kept.based)))))
      | inr fits ↦ fits
    ],
  )

  m : Bool
  m = (expecting s.start).markers

  point : ℕ
  point = s.arrived.floor - first_place_in s.start

  marked : (r : EarlyRecord) → Contains s.early r → (expecting s.start).markers ≡ true
  marked r within = elim (cases_Bool (expecting s.start).markers) [ inl e ↦ e | inr e ↦ absurd (none_in s.early (kept.marked e) r within) ]

  span_point : (expecting s.start).markers ≡ true → span_start true (front_of (scene s)) ≡ s.arrived.floor - first_place_in s.start
  span_point e = ap (λ b. span_start b (front_of (scene s))) (sym e) ∙ k.between.span

  pub waiting_placed : ended s ≡ false → (frame : PlacedFrame) → placed_at s.early (front_of (scene s)) ≡ Some frame → IsPlaced s frame × NoneReachesOver s frame
  waiting_placed runs frame e =
      let w = shown s.early (front_of (scene s)) frame e in
      let e_m = marked w.r w.within in
      let begins_ : frame.start ≡ front_of (scene s) = sym w.start_ ∙ w.at in
      let near = start_near (expecting s.start).markers (s.arrived.floor - first_place_in s.start) k.between in
      let start = subst (IsStart (expecting s.start).markers) (sym begins_) (begins (expecting s.start).markers (s.arrived.floor - first_place_in s.start) k.between) in
      let long = length_within (expecting s.start).markers frame.start frame.len start in
      let end : w.r.end ≡ frame_end (expecting s.start).markers frame.start frame.len = kept.ends w.r w.within ∙ (λ i. frame_end (sym e_m i) (w.start_ i) (w.len i)) in
      let from : from_of w.r ≡ s.arrived.floor - first_place_in s.start = ap (span_start true) w.at ∙ span_point e_m in
      let header : HasHeader w.r.length frame.header.items = subst (KeepsHeader w.r) w.state (k.headed w.r w.within) in
      let based : first_place_in s.start ≤ s.arrived.floor = kept.based in (
        record {
          stands = record {
            begins = begins_;
            low = omega (arith, begins_, near.1);
            whole = header.whole;
            header = omega (arith, header.within, w.len);
            on = omega (arith, long, begins_, near.0, based);
            near = last w.r w.within frame end long;
            come = λ p lt. come w.r w.within p end from lt;
            next = frames_follow.next (expecting s.start).markers frame.start frame.len start;
          };
          room = turn_room s.receiving (point_of (scene s)) (from_of w.r) (payload_len frame) (head_in frame) (kept.records w.r w.within)
              (subst (λ n. HasBuffer s.receiving (n - length frame.header.items) (head_in frame) ⊎ WasHandedOut s.receiving (point_of (scene s)) (from_of w.r) (head_in frame)) w.len
              (subst (KeepsBuffer s.receiving (point_of (scene s)) w.r) w.state (k.buffered runs w.r w.within)));
        },
        λ x within placed before. omega (arith, end, under s.early apart (s.arrived.floor - first_place_in s.start) w.r x w.within within from (kept.records x within) (omega (arith, before, end))),
      )
    where
      last : (r : EarlyRecord) → Contains s.early r → (frame : PlacedFrame) → r.end ≡ frame_end (expecting s.start).markers frame.start frame.len → frame.start + 2 ≤ frame_end (expecting s.start).markers frame.start frame.len
          → place_past s frame ≤ s.arrived.floor + 2 ^ 18
      last r within frame end long =
          elim (cases_lt (s.arrived.floor + window) (place_past s frame)) [
            | inl far ↦
                let to : ℕ = frame_end (expecting s.start).markers frame.start frame.len in
                absurd (true≢false (sym (kept.whole r within (to - 1) (omega (arith, span_low true r.start, starts r within, end, long)) (omega (arith, end, long)))
                ∙ ap (λ c. not (is_missing c)) (limits.octets (first_place_in s.start + (to - 1)) (omega (arith, far, long)))))
            | inr fits ↦ fits
          ]
        where
          starts : (r : EarlyRecord) → Contains s.early r → r.start < r.end
          starts r (j, jl, jx) = omega (arith, apart.some j r jl, ap (λ (y : EarlyRecord). y.end) jx, ap (λ (y : EarlyRecord). y.start) jx)

      come : (r : EarlyRecord) → Contains s.early r → (p : ℕ) → r.end ≡ frame_end (expecting s.start).markers frame.start frame.len → from_of r ≡ s.arrived.floor - first_place_in s.start → p < place_past s frame → has_come s.arrived p ≡ true
      come r within p end from lt =
          elim (cases_lt p s.arrived.floor) [
            | inl before ↦ ap (λ c. not (is_missing c)) (below s.arrived p before)
            | inr past ↦
                subst (λ q. has_come s.arrived q ≡ true) (let same : first_place_in s.start + (p - first_place_in s.start) ≡ p = omega (arith, past, kept.based) in same)
                (kept.whole r within (p - first_place_in s.start) (omega (arith, from, past)) (omega (arith, lt, end)))
          ]

  -- ---- one that is judged there
  pub clear_over : (frame : PlacedFrame) → frame.start ≡ front_of (scene s) → overlaps_placed s.early frame.start (frame_end (expecting s.start).markers frame.start frame.len) ≡ false → NoneReachesOver s frame
  clear_over frame begins_ clear x within placed before =
      let e_m = marked x within in
      let from : span_start true frame.start ≡ s.arrived.floor - first_place_in s.start = ap (span_start true) begins_ ∙ span_point e_m in
      absurd (true≢false (sym ((overlaps_are_told s.early frame.start (frame_end (expecting s.start).markers frame.start frame.len)).1 (x, within, placed, (before, omega (arith, from, kept.records x within, some x within)))) ∙ clear))

  -- if nothing came at the in-order point, none that was placed begins there
  pub none_begins : (missing : ℕ) → missing ≤ s.arrived.floor → overlaps_placed s.early (front_of (scene s)) (missing - first_place_in s.start) ≡ false
  none_begins missing low = elim (cases_Bool (overlaps_placed s.early (front_of (scene s)) (missing - first_place_in s.start))) [
    | inl over ↦
        let (x, within, placed, meets) = (overlaps_are_told s.early (front_of (scene s)) (missing - first_place_in s.start)).0 over in
        absurd (let no : ⊥ = omega (arith, meets.0, low, kept.records x within) in no)
    | inr clear ↦ clear
  ]

  -- ---- none that was placed begins among the octets that came without a gap, up to a place that lacks
  module _ (missing : ℕ) (gap : cell_at s.arrived missing ≡ Missing) (none : overlaps_placed s.early (front_of (scene s)) (missing - first_place_in s.start) ≡ false) where
    past : s.arrived.floor ≤ missing
    past = elim (cases_lt missing s.arrived.floor) [
      | inl before ↦ absurd (let gone : cell_at s.arrived missing ≡ Gone = below s.arrived missing before in let no : ⊥ = cc in no)
      | inr after ↦ after
    ]

    -- what is whole from the in-order point on ends there
    ends_there : (from end : ℕ) → from ≡ s.arrived.floor - first_place_in s.start → ((p : ℕ) → from ≤ p → p < end → has_come s.arrived (first_place_in s.start + p) ≡ true) → end ≤ missing - first_place_in s.start
    ends_there from end at come = elim (cases_lt (missing - first_place_in s.start) end) [
      | inl over ↦
          absurd (true≢false (sym (come (missing - first_place_in s.start) (omega (arith, at, past, kept.based)) over)
          ∙ ap (has_come s.arrived) (let same : first_place_in s.start + (missing - first_place_in s.start) ≡ missing = omega (arith, past, kept.based) in same) ∙ ap (λ c. not (is_missing c)) gap))
      | inr fits ↦ fits
    ]

    none_over : (end : ℕ) → end ≤ missing - first_place_in s.start → overlaps_placed s.early (front_of (scene s)) end ≡ false
    none_over end fits = elim (cases_Bool (overlaps_placed s.early (front_of (scene s)) end)) [
      | inl over ↦
          let (x, within, placed, meets) = (overlaps_are_told s.early (front_of (scene s)) end).0 over in
          absurd (true≢false (sym ((overlaps_are_told s.early (front_of (scene s)) (missing - first_place_in s.start)).1 (x, within, placed, (omega (arith, meets.0, fits), meets.1))) ∙ none))
      | inr clear ↦ clear
    ]

    none_placed : (o : Option PlacedFrame) → placed_at s.early (front_of (scene s)) ≡ o → o ≡ None
    none_placed None e = refl
    none_placed (Some frame) e =
        let w = shown s.early (front_of (scene s)) frame e in
        let from : from_of w.r ≡ s.arrived.floor - first_place_in s.start = ap (span_start true) w.at ∙ span_point (marked w.r w.within) in
        let fits = ends_there (from_of w.r) w.r.end from (kept.whole w.r w.within) in
        absurd (true≢false (sym ((overlaps_are_told s.early (front_of (scene s)) w.r.end).1
        (w.r, w.within, subst records.IsPlaced (sym w.state) tt, (some w.r w.within, omega (arith, some w.r w.within, from, span_point (marked w.r w.within))))) ∙ none_over w.r.end fits))

    pub none_waits : s.front ≡ None → waiting s ≡ None
    none_waits front = (λ i. option_or (front i) (none_placed (placed_at s.early (front_of (scene s))) refl i))

    pub none_clash : (frame : Frame) → next_frame s ≡ Some frame → clashes s frame ≡ false
    none_clash frame e = go (is_whole s.arrived (expecting s.start).markers (first_place_in s.start) (front_of (scene s))) refl e
      where
        f : Found
        f = found_at s.arrived (expecting s.start) (first_place_in s.start) (front_of (scene s))

        go : (w : Bool) → is_whole s.arrived (expecting s.start).markers (first_place_in s.start) (front_of (scene s)) ≡ w → (if w then Some (frame_by f) else None) ≡ Some frame → clashes s frame ≡ false
        go false is h = absurd (none-some _ h)
        go true is h =
            let same : frame_by f ≡ frame = same_Some _ _ h in
            let whole = (tells_whole s.arrived (expecting s.start).markers (first_place_in s.start) (front_of (scene s))).0 is in
            let end : ℕ = frame_end (expecting s.start).markers (front_of (scene s)) (ulpdu_len f) in
            ap (clashes s) (sym same) ∙ ap (λ n. overlaps_placed s.early (front_of (scene s)) (frame_end (expecting s.start).markers (front_of (scene s)) n)) (length_ulpdu f)
            ∙ none_over end (ends_there (span_start (expecting s.start).markers (front_of (scene s))) end k.between.span whole)

pub kept_scene : (s : StreamState) (layout : Layout) (base : ℕ) → layout ≡ expecting s.start → base ≡ first_place_in s.start → keeping.Keeps (scene_of layout base s.arrived s.early) → keeping.Keeps (scene s)
kept_scene s layout base laid from kept =
    subst (λ l. keeping.Keeps (scene_of l (first_place_in s.start) s.arrived s.early)) laid (subst (λ b. keeping.Keeps (scene_of layout b s.arrived s.early)) from kept)

-- wherever it was placed
pub waiting_stands : (s : StreamState) → Keeps s → ended s ≡ false → keeping.Keeps (scene s) → AreApart s.early → IsWithinLimits s.arrived → (frame : PlacedFrame) → waiting s ≡ Some frame → IsPlaced s frame × NoneReachesOver s frame
waiting_stands s k runs kept apart limits frame e = go s.front (k.is_placed runs) (k.clear runs) e
  where
    go : (o : Option PlacedFrame) → IfSome o (IsPlaced s) → IfSome o (NoneReachesOver s) → option_or o (placed_at s.early (front_of (scene s))) ≡ Some frame → IsPlaced s frame × NoneReachesOver s frame
    go None p over h = waiting_placed s k kept apart limits runs frame h
    go (Some f) p over h = let same : f ≡ frame = cc in (subst (IsPlaced s) same p, subst (NoneReachesOver s) same over)
