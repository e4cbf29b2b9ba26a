-- The frames that were judged before their turn: their records say what stands there, and which segments were placed so.
use Rattle.std.proofs.Common.{◌≡◌, ◌⊎◌, ℕ, zero, suc, ◌+◌, ◌-◌, ◌<◌, ◌≤◌, Bool, true, false, cond, List, [], ◌∷◌, ◌++◌, length, take, drop, get_or, Option, Some, None, Contains, refl, sym, ap, ◌∙◌, subst, arith, inl, inr, append_assoc}
use Rattle.std.specs.Prelude.{nat_eq, nat_lt, nat_le, ◌&&◌, MatchOption}
use Rattle.std.specs.List.{count_by}
use Rattle.std.specs.Option.{option_map}
use Rattle.std.proofs.lemmas.Bool.{cases_lt}
use Rattle.std.proofs.lemmas.Bool.Decides.{nat_tests}
use Rattle.std.proofs.lemmas.List.Sums.{sum_by-cons}
use Rattle.std.proofs.lemmas.Option.{none-some, same_Some}
use Rattle.arrayvec.specs.ArrayVec.{ArrayVec}
use Rattle.iw_octets.specs.declared.segment.Segment.{Segment}
use Rattle.iw_octets.specs.declared.segment.Segment.TheVariants.{Tagged, Untagged}
use Rattle.iw_octets.specs.Operation.{opcode_of}
use Rattle.iw_ranges.specs.Arrived.{Arrived, taken_in, advanced}
use Rattle.iw_ranges.proofs.InOrder.{floor_takes, floor_moves}
use Rattle.iw_fpdu.specs.Frame.{frame_end}
use Rattle.iw_fpdu.specs.Places.{IsStart, span_start}
use Rattle.iw_fpdu.specs.Found.{IsWhole, ulpdu_len}
use Rattle.iw_fpdu.specs.Laws.{IsBetween, found_at}
use Rattle.iw_fpdu.proofs.Octets.{span_low, length_within}
use Rattle.iw_locate.specs.declared.judged.State.{State}
use Rattle.iw_locate.specs.declared.judged.State.TheVariants.{Tried, Placed}
use Rattle.iw_locate.specs.Records.{from_of, IsPlaced, IsClear, AreApart, IsPlaceFor, added, kept_from, max_records}
use Rattle.iw_locate.specs.Free.{Scene, scene_of, point_of, front_of, end_of, IsFree}
use Rattle.iw_locate.specs.Lowest.{early_place, lowest_free}
use Rattle.iw_locate.specs.Next.{IsLowest}
use Rattle.iw_locate.proofs.Apart.{apart_drop, starts_rise, inserted_apart, forget_done}
use Rattle.iw_locate.proofs.Holds.{adds_one, keeps_from}
use Rattle.iw_locate.proofs.Telling.{lowest_is_told}
use Rattle.iw_stream.specs.declared.landing.PlacedFrame.{PlacedFrame}
use Rattle.iw_stream.specs.Frames.{Frame, EarlyRecord, frame_by, segment_in, placed, placed_at, kept_by, record_of, record_tried, state_tried}
use Rattle.iw_stream.proofs.Landings.{length_ulpdu}
use Rattle.iw_laws.specs.Words.{Octets, listed}
use Rattle.iw_locate.proofs.Stays.{IsSameAt, same_taken_in, same_advanced}

abbrev pub View : Type 0
View = Scene (ArrayVec ℕ)

-- ---- their records are in order, and no two spans have a place in common

counted_first : (start : ℕ) (x : EarlyRecord) (xs : List EarlyRecord) → count_by (λ (y : EarlyRecord). nat_lt y.start start) (x ∷ xs) ≡ cond (nat_lt x.start start) 1 0 + count_by (λ (y : EarlyRecord). nat_lt y.start start) xs
counted_first start x xs = sum_by-cons _ x xs

place_for : (rs : List EarlyRecord) → AreApart rs → (start : ℕ) → IsPlaceFor rs start (count_by (λ (y : EarlyRecord). nat_lt y.start start) rs)
place_for [] apart start = record { within = omega arith; before = λ k d lt. absurd (omega (arith, lt)); past = λ k d low lt. absurd (omega (arith, lt)) }
place_for (x ∷ rs) apart start = subst (IsPlaceFor (x ∷ rs) start) (sym (counted_first start x rs)) (go (nat_lt x.start start) refl (place_for rs (apart_drop (x ∷ rs) apart) start))
  where
    go : (b : Bool) → nat_lt x.start start ≡ b → IsPlaceFor rs start (count_by (λ (y : EarlyRecord). nat_lt y.start start) rs) → IsPlaceFor (x ∷ rs) start (cond b 1 0 + count_by (λ (y : EarlyRecord). nat_lt y.start start) rs)
    go true is p =
        let first : x.start < start = grind (arith, nat_tests) in
        record {
          within = omega (arith, p.within);
          before = λ k d lt. earlier k d lt;
          past = λ k d low lt. later k d low lt;
        }
      where
        earlier : (k : ℕ) (d : EarlyRecord) → k < 1 + count_by (λ (y : EarlyRecord). nat_lt y.start start) rs → (get_or (x ∷ rs) k d).start < start
        earlier zero d lt = grind (arith, nat_tests)
        earlier (suc k) d lt = p.before k d (omega (arith, lt))

        later : (k : ℕ) (d : EarlyRecord) → 1 + count_by (λ (y : EarlyRecord). nat_lt y.start start) rs ≤ k → k < suc (length rs) → start ≤ (get_or (x ∷ rs) k d).start
        later zero d low lt = absurd (omega (arith, low))
        later (suc k) d low lt = p.past k d (omega (arith, low)) (omega (arith, lt))
    go false is p =
        let first : start ≤ x.start = grind (arith, nat_tests) in
        let none : count_by (λ (y : EarlyRecord). nat_lt y.start start) rs ≡ 0 =
        elim (cases_lt 0 (count_by (λ (y : EarlyRecord). nat_lt y.start start) rs)) [
          | inl some ↦ absurd (omega (arith, p.before 0 x some, starts_rise (x ∷ rs) apart 0 1 x (omega arith) (omega (arith, some, p.within)), first))
          | inr few ↦ omega (arith, few)
        ] in
        record {
          within = omega (arith, none);
          before = λ k d lt. absurd (omega (arith, lt, none));
          past = λ k d low lt. omega (arith, first, starts_rise (x ∷ rs) apart 0 k d (omega arith) lt);
        }

added_apart : (rs : List EarlyRecord) (r : EarlyRecord) → AreApart rs → IsStart true r.start → r.start < r.end → IsClear rs r.start r.end → AreApart (added rs r)
added_apart rs r apart start some clear = inserted_apart rs r (count_by (λ (y : EarlyRecord). nat_lt y.start r.start) rs) (place_for rs apart r.start) apart start some clear

kept_apart : (place : ℕ) (rs : List EarlyRecord) → AreApart rs → AreApart (kept_from place rs)
kept_apart place [] apart = apart
kept_apart place (x ∷ rs) apart = go (nat_le place (from_of x)) refl (kept_apart place rs (apart_drop (x ∷ rs) apart))
  where
    go : (b : Bool) → nat_le place (from_of x) ≡ b → AreApart (kept_from place rs) → AreApart (cond b (x ∷ kept_from place rs) (kept_from place rs))
    go false is rest = rest
    go true is rest =
        let past : place ≤ from_of x = grind (arith, nat_tests) in
        subst AreApart (sym (forget_done place (x ∷ rs) x apart refl past (omega arith)) ∙ ap (λ b. cond b (x ∷ kept_from place rs) (kept_from place rs)) is) apart

-- ---- what one says

-- the frame at a place
abbrev pub frame_in : View → ℕ → Frame
frame_in v start = frame_by (found_at v.arrived v.layout v.base start)

-- a segment of a Write, of a response or of a Send
abbrev pub IsPlaceable : Option (Segment Octets) → Type 0
IsPlaceable None = ⊥
IsPlaceable (Some (Tagged head payload)) = (opcode_of head.control ≡ 0) ⊎ (opcode_of head.control ≡ 2)
IsPlaceable (Some (Untagged head payload)) = head.queue ≡ 0

-- of a frame that was placed its header is kept
abbrev pub IsKeptOf : Frame → State (ArrayVec ℕ) → Type 0
IsKeptOf frame Tried = Unit {0}
IsKeptOf frame (Placed header) = (header ≡ (placed frame).header) × IsPlaceable (segment_in frame)

pub record Stands (v : View) (r : EarlyRecord) : Type 0 where
  pub marked : v.layout.markers ≡ true
  pub start : IsStart v.layout.markers r.start
  pub past : point_of v ≤ from_of r
  pub whole : IsWhole v.arrived v.layout.markers v.base r.start
  pub len : r.length ≡ length (frame_in v r.start).ulpdu
  pub end : r.end ≡ frame_end true r.start r.length
  pub kept : IsKeptOf (frame_in v r.start) r.state

-- they are in order, and each says what stands there
pub record AreJudged (v : View) : Type 0 where
  pub apart : AreApart v.records
  pub stand : (r : EarlyRecord) → Contains v.records r → Stands v r

-- the segments that were placed so
abbrev pub placed_by : Frame → State (ArrayVec ℕ) → List (Segment Octets)
placed_by frame Tried = []
placed_by frame (Placed header) = listed (segment_in frame)

abbrev pub segments_early : View → List EarlyRecord → List (Segment Octets)
segments_early v [] = []
segments_early v (r ∷ rs) = placed_by (frame_in v r.start) r.state ++ segments_early v rs

-- ---- what changes nothing of a frame changes nothing of its record

frame_stays : (v : View) (arrived : Arrived) (rs : List EarlyRecord) (start : ℕ) → IsSameAt v.arrived arrived v.layout v.base start → frame_in (scene_of v.layout v.base arrived rs) start ≡ frame_in v start
frame_stays v arrived rs start same = λ i. record { start = start; mismatch = same.mismatch i; ulpdu = same.ulpdu i }

stands_still : (v : View) (arrived : Arrived) (rs : List EarlyRecord) (r : EarlyRecord) → IsSameAt v.arrived arrived v.layout v.base r.start → arrived.floor - v.base ≤ from_of r → Stands v r → Stands (scene_of v.layout v.base arrived rs) r
stands_still v arrived rs r same past w =
    let frame = frame_stays v arrived rs r.start same in record {
      marked = w.marked;
      start = w.start;
      past = past;
      whole = same.whole;
      len = w.len ∙ ap (λ (f : Frame). length f.ulpdu) (sym frame);
      end = w.end;
      kept = subst (λ f. IsKeptOf f r.state) (sym frame) w.kept;
    }

segments_stay : (v v' : View) (rs : List EarlyRecord) → ((r : EarlyRecord) → Contains rs r → frame_in v' r.start ≡ frame_in v r.start) → segments_early v' rs ≡ segments_early v rs
segments_stay v v' [] same = refl
segments_stay v v' (r ∷ rs) same =
    λ i. placed_by (same r (0, omega arith, refl) i) r.state ++ segments_stay v v' rs (λ x (k, lt, is). same x (suc k, omega arith, is)) i

-- more octets come
pub more_come : (v : View) (place : ℕ) (octets : List ℕ) → AreJudged v → let w = scene_of v.layout v.base (taken_in v.arrived place octets) v.records in AreJudged w × (segments_early w v.records ≡ segments_early v v.records)
more_come v place octets k =
    let w : View = scene_of v.layout v.base (taken_in v.arrived place octets) v.records in
    let same : (r : EarlyRecord) → Contains v.records r → IsSameAt v.arrived w.arrived v.layout v.base r.start = λ r within. same_taken_in v.arrived v.layout v.base r.start place octets (k.stand r within).start (k.stand r within).whole in (
      record {
        apart = k.apart;
        stand = λ r within. stands_still v w.arrived v.records r (same r within) (omega (arith, floor_takes v.arrived place octets, (k.stand r within).past)) (k.stand r within);
      },
      segments_stay v w v.records (λ r within. frame_stays v w.arrived v.records r.start (same r within)),
    )

-- the in-order point moves on, and the records before it go
pub moves_to : (v : View) (to : ℕ) → v.base ≤ v.arrived.floor → v.arrived.floor ≤ to → AreJudged v
    → let w = scene_of v.layout v.base (advanced v.arrived to) (kept_from (to - v.base) v.records) in AreJudged w × (segments_early w w.records ≡ segments_early v w.records)
moves_to v to low on k =
    let w : View = scene_of v.layout v.base (advanced v.arrived to) (kept_from (to - v.base) v.records) in
    let old : (r : EarlyRecord) → Contains w.records r → Contains v.records r × (to - v.base ≤ from_of r) = λ r within. (keeps_from (to - v.base) v.records r).0 within in
    let same : (r : EarlyRecord) → Contains w.records r → IsSameAt v.arrived w.arrived v.layout v.base r.start =
    λ r within.
    let o = old r within in
    let s = k.stand r o.0 in
    same_advanced v.arrived v.layout v.base r.start to s.start (let from : span_start v.layout.markers r.start ≡ from_of r = ap (λ m. span_start m r.start) s.marked in omega (arith, from, o.1)) s.whole in (
      record {
        apart = kept_apart (to - v.base) v.records k.apart;
        stand = λ r within. stands_still v w.arrived w.records r (same r within) (let o = old r within in omega (arith, floor_moves v.arrived to, o.1, on)) (k.stand r (old r within).0);
      },
      segments_stay v w w.records (λ r within. frame_stays v w.arrived w.records r.start (same r within)),
    )

-- ---- what counts segments

-- a count that adds up
pub record Adds (count : List (Segment Octets) → ℕ) : Type 0 where
  pub both : (xs ys : List (Segment Octets)) → count (xs ++ ys) ≡ count xs + count ys

nothing_counts : (count : List (Segment Octets) → ℕ) → Adds count → count [] ≡ 0
nothing_counts count a = let twice : count [] ≡ count [] + count [] = a.both [] [] in omega (arith, twice)

segments_append : (v : View) (xs ys : List EarlyRecord) → segments_early v (xs ++ ys) ≡ segments_early v xs ++ segments_early v ys
segments_append v [] ys = refl
segments_append v (x ∷ xs) ys =
    let one : List (Segment Octets) = placed_by (frame_in v x.start) x.state in
    ap (λ z. one ++ z) (segments_append v xs ys) ∙ sym (append_assoc one (segments_early v xs) (segments_early v ys))

split_there : {X : Type 0} (i : ℕ) (xs : List X) → take i xs ++ drop i xs ≡ xs
split_there zero xs = refl
split_there (suc i) [] = refl
split_there (suc i) (x ∷ xs) = ap (λ ys. x ∷ ys) (split_there i xs)

added_counts : (v : View) (rs : List EarlyRecord) (r : EarlyRecord) (count : List (Segment Octets) → ℕ) → Adds count
    → count (segments_early v (added rs r)) ≡ count (segments_early v rs) + count (placed_by (frame_in v r.start) r.state)
added_counts v rs r count a =
    let i : ℕ = count_by (λ (y : EarlyRecord). nat_lt y.start r.start) rs in
    let one : List (Segment Octets) = placed_by (frame_in v r.start) r.state in
    let first : List (Segment Octets) = segments_early v (take i rs) in
    let last : List (Segment Octets) = segments_early v (drop i rs) in
    let new : count (segments_early v (added rs r)) ≡ count first + (count one + count last) =
    ap count (segments_append v (take i rs) (r ∷ drop i rs)) ∙ a.both first (one ++ last) ∙ ap (λ n. count first + n) (a.both one last) in
    let old : count (segments_early v rs) ≡ count first + count last = ap (λ xs. count (segments_early v xs)) (sym (split_there i rs)) ∙ ap count (segments_append v (take i rs) (drop i rs)) ∙ a.both first last in
    omega (arith, new, old)

-- ---- one more is judged

-- the frame at the lowest free place
pub record IsOpenAt (v : View) (frame : Frame) : Type 0 where
  pub is : frame ≡ frame_in v frame.start
  pub free : IsFree v frame.start
  pub marked : v.layout.markers ≡ true

pub open_at : (v : View) (frame : Frame) → v.base ≤ v.arrived.floor → option_map (λ place. frame_in v place) (early_place v) ≡ Some frame → IsOpenAt v frame
open_at v frame low e = go v.layout.markers (nat_lt (length v.records) max_records) refl (lowest_free v) refl e
  where
    go : (marked room : Bool) → v.layout.markers ≡ marked → (o : Option ℕ) → lowest_free v ≡ o → option_map (λ place. frame_in v place) (cond (marked && room) o None) ≡ Some frame → IsOpenAt v frame
    go false room m o l h = absurd (none-some _ h)
    go true false m o l h = absurd (none-some _ h)
    go true true m None l h = absurd (none-some _ h)
    go true true m (Some place) l h =
        let same : frame_in v place ≡ frame = same_Some _ _ h in
        let from : place ≡ frame.start = ap (λ (f : Frame). f.start) same in
        record {
          is = sym same ∙ ap (frame_in v) from;
          free = subst (IsFree v) from (free place l);
          marked = m;
        }
      where
        told : (place : ℕ) (o : Option ℕ) → o ≡ Some place → MatchOption o ((s : ℕ) → IsFree v s → ⊥) (λ s. IsLowest v s) → IsLowest v place
        told place None l t = absurd (none-some _ l)
        told place (Some s) l t = subst (IsLowest v) (same_Some _ _ l) t

        free : (place : ℕ) → lowest_free v ≡ Some place → IsFree v place
        free place l = (told place (lowest_free v) l (lowest_is_told v low)).0

pub judges_one : {A : Type 0} (v : View) (frame : Frame) (at : Option A) → IsOpenAt v frame → (IsPlaced (state_tried frame at) → IsPlaceable (segment_in frame)) → AreJudged v
    → AreJudged (scene_of v.layout v.base v.arrived (added v.records (record_tried frame at)))
judges_one {A} v frame at o placeable k =
    let r : EarlyRecord = record_tried frame at in
    let start : IsStart v.layout.markers r.start = o.free.open_.start in
    let start_on : IsStart true r.start = subst (λ m. IsStart m r.start) o.marked start in
    let len : length frame.ulpdu ≡ length (frame_in v r.start).ulpdu = ap (λ (f : Frame). length f.ulpdu) o.is in
    let size : length frame.ulpdu ≡ ulpdu_len (found_at v.arrived v.layout v.base r.start) = len ∙ length_ulpdu (found_at v.arrived v.layout v.base r.start) in
    let end : end_of v r.start ≡ r.end = λ i. frame_end (o.marked i) r.start (sym size i) in
    let long : r.start + 2 ≤ r.end = length_within true r.start (length frame.ulpdu) start_on in
    record {
      apart = added_apart v.records r k.apart start_on (omega (arith, long)) (subst (IsClear v.records r.start) end o.free.open_.clear);
      stand = λ x within. elim ((adds_one v.records r x).0 within) [
        | inl old ↦ let s = k.stand x old in record { marked = s.marked; start = s.start; past = s.past; whole = s.whole; len = s.len; end = s.end; kept = s.kept }
        | inr new ↦ subst (Stands (scene_of v.layout v.base v.arrived (added v.records r))) new (record {
          marked = o.marked;
          start = start;
          past = subst (λ m. point_of v ≤ span_start m r.start) o.marked o.free.open_.past;
          whole = o.free.open_.whole;
          len = len;
          end = refl;
          kept = kept at placeable;
        })
      ];
    }
  where
    kept : (at : Option A) → (IsPlaced (state_tried frame at) → IsPlaceable (segment_in frame)) → IsKeptOf (frame_in v frame.start) (state_tried frame at)
    kept None t = tt
    kept (Some x) t = (ap (λ f. (placed f).header) o.is, subst (λ f. IsPlaceable (segment_in f)) o.is (t tt))

-- its segment counts, where it was placed
pub one_counts : (v : View) (frame : Frame) (state : State (ArrayVec ℕ)) (count : List (Segment Octets) → ℕ) → Adds count → IsOpenAt v frame
    → count (segments_early v (added v.records (record_of frame state))) ≡ count (segments_early v v.records) + count (placed_by frame state)
one_counts v frame state count a o =
    added_counts v v.records (record_of frame state) count a ∙ ap (λ f. count (segments_early v v.records) + count (placed_by f state)) (sym o.is)

-- ---- the frame at the in-order point

-- none of those that go was placed: the segments stay
pub none_goes : (v : View) (place : ℕ) (rs : List EarlyRecord) → ((r : EarlyRecord) → Contains rs r → IsPlaced r.state → place ≤ from_of r) → segments_early v (kept_from place rs) ≡ segments_early v rs
none_goes v place [] h = refl
none_goes v place (r ∷ rs) h = go (nat_le place (from_of r)) refl (none_goes v place rs (λ x (k, lt, is) p. h x (suc k, omega arith, is) p))
  where
    gone : (state : State (ArrayVec ℕ)) → r.state ≡ state → nat_le place (from_of r) ≡ false → placed_by (frame_in v r.start) state ≡ []
    gone Tried is e = refl
    gone (Placed header) is e = absurd (let past : place ≤ from_of r = h r (0, omega arith, refl) (subst IsPlaced (sym is) tt) in let no : ⊥ = grind (arith, nat_tests) in no)

    go : (b : Bool) → nat_le place (from_of r) ≡ b → segments_early v (kept_from place rs) ≡ segments_early v rs
        → segments_early v (cond b (r ∷ kept_from place rs) (kept_from place rs)) ≡ placed_by (frame_in v r.start) r.state ++ segments_early v rs
    go true e rest = ap (λ z. placed_by (frame_in v r.start) r.state ++ z) rest
    go false e rest = rest ∙ ap (λ z. z ++ segments_early v rs) (sym (gone r.state refl e))

-- one was placed before its turn: it has the first record
pub record IsFirstRecord (v : View) (f : PlacedFrame) : Type 0 where
  pub first : EarlyRecord
  pub others : List EarlyRecord
  pub records : v.records ≡ first ∷ others
  pub at : first.start ≡ front_of v
  pub state : first.state ≡ Placed f.header
  pub is : f ≡ placed (frame_in v (front_of v))
  pub whole : IsWhole v.arrived v.layout.markers v.base (front_of v)
  pub placeable : IsPlaceable (segment_in (frame_in v (front_of v)))
  pub left : kept_from (frame_end v.layout.markers f.start f.len) v.records ≡ others
  pub later : (r : EarlyRecord) → Contains others r → frame_end v.layout.markers f.start f.len ≤ from_of r

pub first_record : (v : View) (f : PlacedFrame) → IsBetween v.layout.markers (point_of v) → AreJudged v → placed_at v.records (front_of v) ≡ Some f → IsFirstRecord v f
first_record v f between k e = go v.records refl e
  where
    go : (rs : List EarlyRecord) → v.records ≡ rs → placed_at rs (front_of v) ≡ Some f → IsFirstRecord v f
    go [] is h = absurd (none-some _ h)
    go (r ∷ rs) is h = at (nat_eq r.start (front_of v)) refl h
      where
        apart : AreApart (r ∷ rs)
        apart = subst AreApart is k.apart

        here : Contains v.records r
        here = subst (λ xs. Contains xs r) (sym is) (0, omega arith, refl)

        span : (x : EarlyRecord) → Contains v.records x → x.start ≡ front_of v → from_of x ≡ point_of v
        span x within e = (λ i. span_start (sym (k.stand x within).marked i) (e i)) ∙ between.span

        -- none behind the first begins there
        beyond : (xs : List EarlyRecord) → ((x : EarlyRecord) → Contains xs x → Contains v.records x × (r.end ≤ from_of x)) → placed_at xs (front_of v) ≡ None
        beyond [] h = refl
        beyond (x ∷ xs) h = by (nat_eq x.start (front_of v)) refl (beyond xs (λ y (j, lt, y_is). h y (suc j, omega arith, y_is)))
          where
            by : (b : Bool) → nat_eq x.start (front_of v) ≡ b → placed_at xs (front_of v) ≡ None → cond b (kept_by x x.state) (placed_at xs (front_of v)) ≡ None
            by false t rest = rest
            by true t rest =
                let same : x.start ≡ front_of v = grind (arith, nat_tests) in
                let w = h x (0, omega arith, refl) in
                absurd (omega (arith, w.1, span x w.0 same, (k.stand r here).past, apart.some 0 r (omega arith), span_low true r.start))

        later_one : (x : EarlyRecord) → Contains rs x → Contains v.records x × (r.end ≤ from_of x)
        later_one x (j, lt, x_is) = (
          subst (λ xs. Contains xs x) (sym is) (suc j, omega arith, x_is),
          omega (arith, apart.order 0 (suc j) x (omega arith) (omega arith), ap (λ (y : EarlyRecord). from_of y) x_is),
        )

        of_state : (state : State (ArrayVec ℕ)) → r.state ≡ state → r.start ≡ front_of v → kept_by r state ≡ Some f → IsKeptOf (frame_in v r.start) state → IsFirstRecord v f
        of_state Tried s a h w = absurd (none-some _ h)
        of_state (Placed header) s a h w =
            let stands = k.stand r here in
            let same : record { start = r.start; len = r.length; header = header } ≡ f = same_Some _ _ h in
            let found : f ≡ placed (frame_in v r.start) = sym same ∙ (λ i. record { start = r.start; len = stands.len i; header = w.0 i }) in
            let end : frame_end v.layout.markers f.start f.len ≡ r.end = (λ i. frame_end (stands.marked i) (sym same i).start (sym same i).len) ∙ sym stands.end in
            let first_end : r.start + 2 ≤ r.end = subst (λ n. r.start + 2 ≤ n) (sym stands.end) (length_within true r.start r.length (subst (λ m. IsStart m r.start) stands.marked stands.start)) in
            record {
              first = r;
              others = rs;
              records = is;
              at = a;
              state = s ∙ ap (λ (x : PlacedFrame). Placed x.header) same;
              is = found ∙ ap (λ n. placed (frame_in v n)) a;
              whole = subst (IsWhole v.arrived v.layout.markers v.base) a stands.whole;
              placeable = subst (λ n. IsPlaceable (segment_in (frame_in v n))) a w.1;
              left = ap (λ n. kept_from n v.records) end ∙ ap (kept_from r.end) is ∙ drops r.end first_end;
              later = λ x within. omega (arith, end, (later_one x within).1);
            }
          where
            drops : (to : ℕ) → r.start + 2 ≤ to → kept_from r.end (r ∷ rs) ≡ rs
            drops to lt = ap (λ b. cond b (r ∷ kept_from r.end rs) (kept_from r.end rs)) (let t : nat_le r.end (from_of r) ≡ false = let low = apart.some 0 r (omega arith) in let before = span_low true r.start in grind (arith, nat_tests) in t) ∙ all rs later_one
              where
                all : (xs : List EarlyRecord) → ((x : EarlyRecord) → Contains xs x → Contains v.records x × (r.end ≤ from_of x)) → kept_from r.end xs ≡ xs
                all [] h = refl
                all (x ∷ xs) h =
                    let past = (h x (0, omega arith, refl)).1 in
                    ap (λ b. cond b (x ∷ kept_from r.end xs) (kept_from r.end xs)) (let t : nat_le r.end (from_of x) ≡ true = grind (arith, nat_tests) in t) ∙ ap (λ z. x ∷ z) (all xs (λ y (j, lt, y_is). h y (suc j, omega arith, y_is)))

        at : (b : Bool) → nat_eq r.start (front_of v) ≡ b → cond b (kept_by r r.state) (placed_at rs (front_of v)) ≡ Some f → IsFirstRecord v f
        at false t h = absurd (none-some _ (sym (beyond rs later_one) ∙ h))
        at true t h = of_state r.state refl (let same : r.start ≡ front_of v = grind (arith, nat_tests) in same) h (k.stand r here).kept

-- where there is none
pub none_in : (rs : List EarlyRecord) → rs ≡ [] → (r : EarlyRecord) → Contains rs r → ⊥
none_in rs e r within = go (subst (λ xs. Contains xs r) e within)
  where
    go : Contains [] r → ⊥
    go (k, lt, is) = omega (arith, lt)

pub none_judged : (v : View) → v.records ≡ [] → AreJudged v
none_judged v none = record { apart = subst AreApart (sym none) empty; stand = λ r within. absurd (none_in v.records none r within) }
  where
    empty : AreApart {T = ArrayVec ℕ} []
    empty = record { start = λ i d lt. absurd (omega (arith, lt)); some = λ i d lt. absurd (omega (arith, lt)); order = λ i j d lt inside. absurd (omega (arith, inside)) }

-- what the segments are does not hang on the records that there are beside
pub same_segments : (v : View) (others rs : List EarlyRecord) → segments_early (scene_of v.layout v.base v.arrived others) rs ≡ segments_early v rs
same_segments v others rs = segments_stay v (scene_of v.layout v.base v.arrived others) rs (λ r within. refl)
