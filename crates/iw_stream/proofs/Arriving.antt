-- What came and the records of it, through each change.
use Rattle.std.proofs.Common.{◌≡◌, ℕ, zero, suc, ◌+◌, ◌-◌, ◌<◌, ◌≤◌, ◌^◌, ◌==◌, nat_lt, ◌&&◌, Bool, true, false, cond, if◌then◌else◌, List, [], ◌∷◌, length, get_or, Option, Some, None, Contains, refl, sym, ap, ◌∙◌, subst, arith, inl, inr}
use Rattle.std.specs.Prelude.{not, MatchOption, IfSome}
use Rattle.std.specs.Option.{option_map}
use Rattle.std.proofs.lemmas.List.{get_or_default}
use Rattle.std.proofs.lemmas.Bool.{cases_lt, true≢false, false≢true}
use Rattle.std.proofs.lemmas.Bool.Decides.{nat_tests}
use Rattle.arrayvec.specs.ArrayVec.{ArrayVec}
use Rattle.iw_ranges.specs.declared.Delivery.TheVariants.{Kept, Dropped}
use Rattle.iw_ranges.specs.Arrived.{Arrived, Cell, Missing, Here, Gone, nothing, window, cell_at, has_come, is_missing, delivery, delivered, taken_in, is_dropped, advanced, IsWithinLimits}
use Rattle.iw_ranges.specs.InOrder.{is_gone}
use Rattle.iw_ranges.proofs.Counts.{dropped_far}
use Rattle.iw_ranges.proofs.ByPlace.{cell_at-nothing, gives_up_before, not_dropped}
use Rattle.iw_ranges.proofs.InOrder.{floor_moves, held_moves}
use Rattle.iw_fpdu.specs.declared.layout.Layout.{Layout}
use Rattle.iw_fpdu.specs.Places.{span_start}
use Rattle.iw_fpdu.specs.Reading.{length_at}
use Rattle.iw_fpdu.specs.Found.{ulpdu, octet_of as octet_held}
use Rattle.iw_fpdu.specs.Laws.{IsBetween, found_at}
use Rattle.iw_fpdu.proofs.Follows.{frames_follow}
use Rattle.iw_fpdu.proofs.Octets.{span_low, length_within}
use Rattle.iw_locate.specs.declared.frame.Frame.{Frame}
use Rattle.iw_locate.specs.declared.frame.Next.TheVariants.{Frame as Found}
use Rattle.iw_locate.specs.declared.judged.State.{State}
use Rattle.iw_locate.specs.declared.judged.State.TheVariants.{Tried, Placed}
use Rattle.iw_locate.specs.Records.{max_records, AreApart, IsClear, added}
use Rattle.iw_locate.specs.Free.{Scene, scene_of, end_of, octet_of, IsOpen, IsFree}
use Rattle.iw_locate.specs.Next.{CanBeEarly, IsNext, IsNone, IsFrontWhole, IsLowest, frame_at}
use Rattle.iw_locate.specs.Lowest.{lowest_free, early_place}
use Rattle.iw_locate.specs.Keeping.{Keeps, changed}
use Rattle.iw_locate.specs.Keeping as keeping
use Rattle.iw_fpdu.specs.Frame.{frame_end}
use Rattle.iw_stream.proofs.Landings.{length_ulpdu}
use Rattle.iw_stream.specs.Frames as frames
use Rattle.iw_locate.specs.declared.unsearched.Unsearched.{Unsearched}
use Rattle.iw_locate.specs.Unsearched.{Tells, IsFollowed, counted_from, past_frame}
use Rattle.iw_locate.proofs.Adding.{judging_keeps}
use Rattle.iw_locate.proofs.Holds.{adds_one}
use Rattle.iw_locate.proofs.Releasing.{release_keeps}
use Rattle.iw_locate.proofs.Starting.{no_record_keeps, nothing_tells}
use Rattle.iw_locate.proofs.Telling.{lowest_is_told}
use Rattle.iw_stream.proofs.Releasing.{all_held}
use Rattle.iw_stream.specs.Frames.{EarlyRecord, kept_by, placed_at, without}
use Rattle.iw_stream.specs.Incoming.{Coming, scene_in, frame_in, IsTracked}

-- ---- nothing came
none_gone : (c : Cell) → c ≡ Missing → c ≡ Gone → ⊥
none_gone Missing e f = absurd (let no : ⊥ = cc in no)
none_gone (Here x) e f = absurd (let no : ⊥ = cc in no)
none_gone Gone e f = absurd (let no : ⊥ = cc in no)

pub nothing_tracked : (layout : Layout) (room releases : ℕ) → IsTracked (record { layout = layout; base = 0; arrived = nothing; early = []; room = room; releases = releases; unsearched = record { from = 0; to = 0; low = 0; high = 0; reach = 0 } })
nothing_tracked layout room releases = record {
  keeps = no_record_keeps (scene_of layout 0 nothing []) (omega arith) (frames_follow.first layout.markers) refl (λ q low gone. none_gone (cell_at nothing (0 + q)) (cell_at-nothing (0 + q)) gone);
  tells = nothing_tells (scene_of layout 0 nothing []) (λ q. cell_at-nothing (0 + q));
}

-- ---- octets come
pub kept_near : (a : Arrived) (place n : ℕ) → delivery a place n ≡ Kept → 0 < n → place + n ≤ a.floor + window
kept_near a place n kept some =
    elim (cases_lt (a.floor + window) (place + n)) [
      | inl far ↦ absurd (let t = dropped_far a place n some far in let f = not_dropped a place n kept in cc)
      | inr fits ↦ fits
    ]

pub delivered_dropped : (a : Arrived) (place : ℕ) (octets : List ℕ) → delivery a place (length octets) ≡ Dropped → delivered a place octets ≡ a
delivered_dropped a place octets dropped = go (is_dropped a place (length octets)) dropped
  where
    go : (b : Bool) → (if b then Dropped else Kept) ≡ Dropped → (if b then a else taken_in a place octets) ≡ a
    go true e = refl
    go false e = absurd (let no : ⊥ = cc in no)

-- ---- a frame may begin anywhere among what came
open_reached : (v : Scene (ArrayVec ℕ)) (reach : ℕ) → ((q : ℕ) → reach ≤ q → has_come v.arrived (v.base + q) ≡ false) → (s : ℕ) → IsOpen v s → s < reach
open_reached v reach missing s o =
    elim (cases_lt s reach) [
      | inl near ↦ near
      | inr far ↦
          let long = length_within v.layout.markers s (length_at (octet_of v) s) o.start in
          absurd (true≢false (sym (o.whole s (span_low v.layout.markers s) (omega (arith, long))) ∙ missing s far))
    ]

pub tells_anew : (v : Scene (ArrayVec ℕ)) (reach : ℕ) → ((q : ℕ) → reach ≤ q → has_come v.arrived (v.base + q) ≡ false) → ((q : ℕ) → octet_of v q < 256)
    → Tells v (record { from = 0; to = 0; low = 0; high = reach; reach = reach })
tells_anew v reach missing few = record {
  free = λ m s free. inl (record { low = omega arith; high = open_reached v reach missing s free.open_ });
  reach = missing;
  octets = few;
}

given_up : (b : Bool) (c : Cell) → octet_held c < 256 → octet_held (cond b Gone c) < 256
given_up true c few = omega arith
given_up false c few = few

-- the start-up frame ends at `place`, and frames begin there
pub begun : (c : Coming) (layout : Layout) (place : ℕ) → c.early ≡ [] → c.arrived.floor ≡ 0 → IsTracked c
    → IsTracked (record { layout = layout; base = place; arrived = advanced c.arrived place; early = c.early; room = c.room; releases = c.releases; unsearched = counted_from c.unsearched place })
begun c layout place none first t =
    let a : Arrived = advanced c.arrived place in
    let floor : a.floor ≡ place = omega (arith, floor_moves c.arrived place, first) in
    let zero_ : c.base ≡ 0 = omega (arith, t.keeps.based, first) in
    let held = all_held (scene_in c) t.keeps.released t.keeps.based none in
    let v : Scene (ArrayVec ℕ) = scene_of layout place a c.early in
    record {
      keeps = no_record_keeps v (omega (arith, floor)) (subst (IsBetween layout.markers) (let e : 0 ≡ a.floor - place = omega (arith, floor) in e) (frames_follow.first layout.markers)) none
          (λ q low gone. true≢false (sym (ap is_gone gone) ∙ held_moves c.arrived place held (place + q) (omega (arith, floor))));
      tells = tells_anew v (c.unsearched.reach - place)
          (λ q far. ap (λ x. not (is_missing x)) (past q) ∙ t.tells.reach (place + q) (omega (arith, far)))
          (λ q. subst (λ x. octet_held x < 256) (sym (gives_up_before c.arrived place (place + q))) (given_up (nat_lt (place + q) place) (cell_at c.arrived (place + q)) (subst (λ p. octet_held (cell_at c.arrived p) < 256) (let e : c.base + (place + q) ≡ place + q = omega (arith, zero_) in e) (t.tells.octets (place + q)))));
    }
  where
    past : (q : ℕ) → cell_at (advanced c.arrived place) (place + q) ≡ cell_at c.arrived (c.base + (place + q))
    past q =
        let not_before : nat_lt (place + q) place ≡ false = grind (arith, nat_tests) in
        gives_up_before c.arrived place (place + q) ∙ ap (λ b. cond b Gone (cell_at c.arrived (place + q))) not_before ∙ ap (cell_at c.arrived) (let e : place + q ≡ c.base + (place + q) = omega (arith, t.keeps.based, first) in e)

-- the layout is agreed on before any frame had its turn
pub laid_out : (c : Coming) (layout : Layout) → c.early ≡ [] → c.arrived.floor ≡ c.base → IsTracked c
    → IsTracked (record { layout = layout; base = c.base; arrived = c.arrived; early = c.early; room = c.room; releases = c.releases; unsearched = counted_from c.unsearched 0 })
laid_out c layout none first t =
    let held = all_held (scene_in c) t.keeps.released t.keeps.based none in
    let v : Scene (ArrayVec ℕ) = scene_of layout c.base c.arrived c.early in
    record {
      keeps = no_record_keeps v (omega (arith, first)) (subst (IsBetween layout.markers) (let e : 0 ≡ c.arrived.floor - c.base = omega (arith, first) in e) (frames_follow.first layout.markers)) none
          (λ q low gone. true≢false (sym (ap is_gone gone) ∙ held (c.base + q) (omega (arith, first))));
      tells = tells_anew v (c.unsearched.reach - 0) (λ q far. t.tells.reach q (omega (arith, far))) t.tells.octets;
    }

-- ---- the record of a frame
module _ (rs : List EarlyRecord) (apart : AreApart rs) where
  one_start : (i j : ℕ) (d : EarlyRecord) → i < j → j < length rs → (get_or rs i d).start < (get_or rs j d).start
  one_start i j d lt within =
      omega (arith, apart.order i j d lt within, apart.some i d (omega (arith, lt, within)), span_low true (get_or rs j d).start)

-- the first record that begins there is the only one
first_there : (rs : List EarlyRecord) (start : ℕ) (r : EarlyRecord) → ((x : EarlyRecord) → Contains rs x → x.start ≡ start → x ≡ r) → Contains rs r → r.start ≡ start → placed_at rs start ≡ kept_by r r.state
first_there [] start r only (k, lt, is) at = absurd (omega (arith, lt))
first_there (x ∷ rs) start r only within at = go (λ more. first_there rs start r (λ y in_ same. only y (suc in_.0, omega (arith, in_.1), in_.2) same) more at) (x.start == start) refl
  where
    head : Contains (x ∷ rs) x
    head = (0, omega arith, refl)

    later : (x.start == start) ≡ false → Contains (x ∷ rs) r → Contains rs r
    later e (zero, lt, is) = absurd (let t : x.start ≡ start = ap (λ (y : EarlyRecord). y.start) is ∙ at in let u : (x.start == start) ≡ true = grind (arith, nat_tests) in true≢false (sym u ∙ e))
    later e (suc k, lt, is) = (k, omega (arith, lt), is)

    go : (Contains rs r → placed_at rs start ≡ kept_by r r.state) → (b : Bool) → (x.start == start) ≡ b → (if b then kept_by x x.state else placed_at rs start) ≡ kept_by r r.state
    go more true e = ap (λ (y : EarlyRecord). kept_by y y.state) (only x head (let t : x.start ≡ start = grind (arith, nat_tests) in t))
    go more false e = more (later e within)

only_one : (rs : List EarlyRecord) → AreApart rs → (x r : EarlyRecord) → Contains rs x → Contains rs r → x.start ≡ r.start → x ≡ r
only_one rs apart x r (i, il, ix) (j, jl, jx) same =
    let there : get_or rs j x ≡ r = get_or_default rs j x r jl ∙ jx in
    let here = ap (λ (y : EarlyRecord). y.start) ix in
    let its = ap (λ (y : EarlyRecord). y.start) there in
    elim (cases_lt i j) [
      | inl below ↦ absurd (omega (arith, one_start rs apart i j x below jl, here, its, same))
      | inr more ↦ elim (cases_lt j i) [
        | inl above ↦ absurd (omega (arith, one_start rs apart j i x above il, here, its, same))
        | inr less ↦ sym ix ∙ ap (λ k. get_or rs k x) (let e : i ≡ j = omega (arith, more, less) in e) ∙ there
      ]
    ]

pub placed_there : (rs : List EarlyRecord) (start : ℕ) (r : EarlyRecord) → AreApart rs → Contains rs r → r.start ≡ start → placed_at rs start ≡ kept_by r r.state
placed_there rs start r apart within at = first_there rs start r (λ x inside same. only_one rs apart x r inside within (same ∙ sym at)) within at

pub placed_none : (rs : List EarlyRecord) (start : ℕ) → ((r : EarlyRecord) → Contains rs r → r.start ≡ start → ⊥) → placed_at rs start ≡ None
placed_none [] start none = refl
placed_none (x ∷ rs) start none = go (placed_none rs start (λ r in_ at. none r (suc in_.0, omega (arith, in_.1), in_.2) at)) (x.start == start) refl
  where
    go : placed_at rs start ≡ None → (b : Bool) → (x.start == start) ≡ b → (if b then kept_by x x.state else placed_at rs start) ≡ None
    go rest true e = absurd (none x (0, omega arith, refl) (let t : x.start ≡ start = grind (arith, nat_tests) in t))
    go rest false e = rest

-- ---- the frame that can be judged early
has_place : (m : Bool) (n : ℕ) (o : Option ℕ) → m ≡ true → n < max_records → (if m && nat_lt n max_records then o else None) ≡ o
has_place true n o e few = let t : nat_lt n max_records ≡ true = grind (arith, nat_tests) in ap (λ b. cond b o None) t
has_place false n o e few = absurd (false≢true e)

no_place : (m : Bool) (n : ℕ) (o : Option ℕ) → ((m ≡ true) × (n < max_records) → o ≡ None) → (if m && nat_lt n max_records then o else None) ≡ None
no_place false n o none = refl
no_place true n o none = go (nat_lt n max_records) refl
  where
    go : (b : Bool) → nat_lt n max_records ≡ b → (if true && b then o else None) ≡ None
    go true e = none (refl, let t : n < max_records = grind (arith, nat_tests) in t)
    go false e = refl

lowest_one : (v : Scene (ArrayVec ℕ)) → v.base ≤ v.arrived.floor → (s : ℕ) → IsLowest v s → lowest_free v ≡ Some s
lowest_one v based s is = go (lowest_free v) (lowest_is_told v based)
  where
    go : (o : Option ℕ) → MatchOption o ((t : ℕ) → IsFree v t → ⊥) (λ t. IsLowest v t) → o ≡ Some s
    go None none = absurd (none s is.0)
    go (Some t) low = ap Some (let e : t ≡ s = omega (arith, low.1 s is.0, is.1 t low.0) in e)

lowest_none : (v : Scene (ArrayVec ℕ)) → v.base ≤ v.arrived.floor → ((s : ℕ) → IsFree v s → ⊥) → lowest_free v ≡ None
lowest_none v based none = go (lowest_free v) (lowest_is_told v based)
  where
    go : (o : Option ℕ) → MatchOption o ((t : ℕ) → IsFree v t → ⊥) (λ t. IsLowest v t) → o ≡ None
    go None n = refl
    go (Some t) low = absurd (none t low.0)

pub next_place : (v : Scene (ArrayVec ℕ)) → v.base ≤ v.arrived.floor → (IsFrontWhole v → ⊥) → (f : Frame) → IsNext v (Found f) → Some f.start ≡ early_place v
next_place v based lacking f (inl (is, whole, clear)) = absurd (lacking whole)
next_place v based lacking f (inr (is, none, can, low)) = sym (has_place v.layout.markers (length v.records) (lowest_free v) can.0 can.1 ∙ lowest_one v based f.start low)

pub none_placed : (v : Scene (ArrayVec ℕ)) → v.base ≤ v.arrived.floor → IsNone v → early_place v ≡ None
none_placed v based none = no_place v.layout.markers (length v.records) (lowest_free v) (λ can. lowest_none v based (none can))

pub next_few : (v : Scene (ArrayVec ℕ)) → (IsFrontWhole v → ⊥) → (f : Frame) → IsNext v (Found f) → (f.early ≡ true) × (length v.records < max_records)
next_few v lacking f (inl (is, whole, clear)) = absurd (lacking whole)
next_few v lacking f (inr (is, none, can, low)) = (ap (λ (x : Frame). x.early) is, can.1)

-- what is so of it
pub record IsReadable (v : Scene (ArrayVec ℕ)) (f : Frame) : Type 0 where
  pub is : f ≡ frame_at v f.start true
  pub markers : v.layout.markers ≡ true
  pub open_ : IsOpen v f.start

pub readable : (v : Scene (ArrayVec ℕ)) (f : Frame) → IsNext v (Found f) → f.early ≡ true → IsReadable v f
readable v f (inl (is, whole, clear)) early = absurd (let e = sym early ∙ ap (λ (x : Frame). x.early) is in true≢false e)
readable v f (inr (is, none, can, low)) early = record { is = is; markers = can.0; open_ = low.0.open_ }

pub open_near : (v : Scene (ArrayVec ℕ)) → IsWithinLimits v.arrived → (s : ℕ) → IsOpen v s → v.base + s < v.arrived.floor + window
open_near v limits s o =
    elim (cases_lt (v.base + s) (v.arrived.floor + window)) [
      | inl near ↦ near
      | inr far ↦
          let long = length_within v.layout.markers s (length_at (octet_of v) s) o.start in
          absurd (true≢false (sym (o.whole s (span_low v.layout.markers s) (omega (arith, long))) ∙ ap (λ c. not (is_missing c)) (limits.octets (v.base + s) far)))
    ]

pub next_near : (v : Scene (ArrayVec ℕ)) → IsWithinLimits v.arrived → v.arrived.floor ≤ 2 ^ 62 → (IsFrontWhole v → ⊥) → (f : Frame) → IsNext v (Found f) → v.base + f.start < 2 ^ 63
next_near v limits low lacking f (inl (is, whole, clear)) = absurd (lacking whole)
next_near v limits low lacking f (inr (is, none, can, lowest)) = omega (arith, open_near v limits f.start lowest.0.open_, low)

-- ---- a search, if the frame at the in-order point is not whole
abbrev pub IsSince : Scene (ArrayVec ℕ) → Option Frame → Type 0
IsSince v found = MatchOption found (IsNone v) (λ f. (f ≡ frame_at v f.start true) × CanBeEarly v × IsLowest v f.start)

as_next : (v : Scene (ArrayVec ℕ)) → (IsFrontWhole v → ⊥) → (f : Frame) → IsSince v (Some f) → IsNext v (Found f)
as_next v lacking f h = inr (h.0, lacking, h.1, h.2)

pub place_since : (v : Scene (ArrayVec ℕ)) → v.base ≤ v.arrived.floor → (IsFrontWhole v → ⊥) → (found : Option Frame) → IsSince v found → option_map (λ (f : Frame). f.start) found ≡ early_place v
place_since v based lacking None none = sym (none_placed v based none)
place_since v based lacking (Some f) h = next_place v based lacking f (as_next v lacking f h)

pub next_since : (v : Scene (ArrayVec ℕ)) → (IsFrontWhole v → ⊥) → (u : Unsearched) (found : Option Frame) → IsSince v found → MatchOption found (Unit {0}) (λ f. IsFollowed u f)
    → IfSome found (λ f. IsNext v (Found f) × (f.early ≡ true) × IsFollowed u f)
next_since v lacking u None h followed = tt
next_since v lacking u (Some f) h followed = (as_next v lacking f h, ap (λ (x : Frame). x.early) h.0, followed)

pub few_since : (v : Scene (ArrayVec ℕ)) (found : Option Frame) → IsSince v found → IfSome found (λ f. length v.records < max_records)
few_since v None h = tt
few_since v (Some f) h = h.1.1

pub near_since : (v : Scene (ArrayVec ℕ)) → IsWithinLimits v.arrived → v.arrived.floor ≤ 2 ^ 62 → (IsFrontWhole v → ⊥) → (found : Option Frame) → IsSince v found → IfSome found (λ f. v.base + f.start < 2 ^ 63)
near_since v limits low lacking None h = tt
near_since v limits low lacking (Some f) h = next_near v limits low lacking f (as_next v lacking f h)

-- its record, as it is read
pub record_read : (c : Coming) (f : Frame) (state : State (ArrayVec ℕ)) → IsReadable (scene_in c) f → keeping.record_of f state ≡ frames.record_of (frame_in c f.start) state
record_read c f state r =
    let found = found_at c.arrived c.layout c.base f.start in
    let len : f.length ≡ length (ulpdu (found_at c.arrived c.layout c.base f.start)) = ap (λ (x : Frame). x.length) r.is ∙ sym (length_ulpdu found) in
    let end : f.end ≡ frame_end true f.start (length (ulpdu (found_at c.arrived c.layout c.base f.start))) =
    ap (λ (x : Frame). x.end) r.is ∙ ap (λ m. frame_end m f.start (length_at (octet_of (scene_in c)) f.start)) r.markers ∙ ap (frame_end true f.start) (sym (length_ulpdu found)) in
    (λ i. record { start = f.start; length = len i; end = end i; state = state })

-- it came whole, in the window, and lies over no other
pub record Fits (c : Coming) (f : Frame) : Type 0 where
  pub some : f.start < f.end
  pub clear : IsClear c.early f.start f.end
  pub come : (p : ℕ) → c.base + span_start true f.start ≤ p → p < c.base + f.end → has_come c.arrived p ≡ true
  pub near : c.base + f.end ≤ c.arrived.floor + window

pub early_fits : (c : Coming) (f : Frame) → IsWithinLimits c.arrived → IsNext (scene_in c) (Found f) → f.early ≡ true → Fits c f
early_fits c f limits next early =
    let v = scene_in c in
    let r = readable v f next early in
    let end : f.end ≡ end_of v f.start = ap (λ (x : Frame). x.end) r.is in
    let some : f.start < f.end = omega (arith, end, length_within c.layout.markers f.start (length_at (octet_of v) f.start) r.open_.start) in record {
      some = some;
      clear = subst (λ end. IsClear c.early f.start end) (sym end) r.open_.clear;
      come = come end r;
      near = elim (cases_lt (c.arrived.floor + window) (c.base + f.end)) [
        | inl far ↦
            absurd (true≢false (sym (come end r (c.base + f.end - 1) (omega (arith, some, span_low true f.start)) (omega (arith, some)))
            ∙ ap (λ x. not (is_missing x)) (limits.octets (c.base + f.end - 1) (omega (arith, far, some)))))
        | inr fits ↦ fits
      ];
    }
  where
    come : f.end ≡ end_of (scene_in c) f.start → IsReadable (scene_in c) f → (p : ℕ) → c.base + span_start true f.start ≤ p → p < c.base + f.end → has_come c.arrived p ≡ true
    come end r p low high =
        subst (λ q. has_come c.arrived q ≡ true) (let same : c.base + (p - c.base) ≡ p = omega (arith, low) in same)
        (r.open_.whole (p - c.base) (omega (arith, low, ap (λ m. span_start m f.start) r.markers)) (omega (arith, high, end, low)))

-- and once it is kept
pub kept_record : (c : Coming) (f : Frame) (state : State (ArrayVec ℕ)) → IsNext (scene_in c) (Found f) → f.early ≡ true → IsFollowed c.unsearched f → IsTracked c
    → let w = changed (scene_in c) (without c.base c.arrived (keeping.record_of f state) state) (added c.early (keeping.record_of f state)) in Keeps w × Tells w (past_frame c.unsearched f)
kept_record c f Tried next early followed t =
    let j = judging_keeps (scene_in c) c.unsearched f Tried t.keeps t.tells next early followed in
    (j.0, j.2)
kept_record c f (Placed header) next early followed t =
    let r = keeping.record_of f (Placed header) in
    let j = judging_keeps (scene_in c) c.unsearched f (Placed header) t.keeps t.tells next early followed in
    release_keeps (changed (scene_in c) c.arrived (added c.early r)) (past_frame c.unsearched f) r j.0 j.2 ((adds_one c.early r r).1 (inr refl)) tt
