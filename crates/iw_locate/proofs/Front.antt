-- The frame at the in-order point.
use Rattle.std.proofs.Common.{◌≡◌, ℕ, ◌+◌, ◌-◌, ◌%◌, ◌<◌, ◌≤◌, true, false, List, [], ◌∷◌, cond, eqb, refl, sym, ap, ◌∙◌, subst, arith, inl, inr}
use Rattle.std.proofs.lemmas.Bool.{cases_eq, cases_Bool}
use Rattle.std.proofs.lemmas.Bool.Decides.{nat_tests}
use Rattle.std.specs.Prelude.{◌⊎◌}
use Rattle.std.specs.List.{Contains}
use Rattle.iw_ranges.specs.Arrived.{Cell, Missing, Here, Gone, cell_at}
use Rattle.iw_fpdu.specs.Places.{IsStart, span_start}
use Rattle.iw_fpdu.specs.Reading.{length_at}
use Rattle.iw_fpdu.specs.Found.{IsKept, IsWhole}
use Rattle.iw_fpdu.specs.Laws.{IsBetween}
use Rattle.iw_fpdu.proofs.Octets.{span_low, span_near}
use Rattle.iw_fpdu.proofs.Follows.{begins}
use Rattle.iw_locate.specs.declared.frame.Frame.{Frame}
use Rattle.iw_locate.specs.declared.judged.Record.{Record}
use Rattle.iw_locate.specs.Records.{from_of, IsClear, IsClearOfPlaced, AreApart}
use Rattle.iw_locate.specs.Free.{Scene, point_of, front_of, octet_of, end_of, IsOpen, CanLocate}
use Rattle.iw_locate.specs.Next.{frame_at}
use Rattle.iw_locate.specs.Keeping.{IsFrontUnplaced}
use Rattle.iw_locate.proofs.Open.{start_high, span_is}

pub span_cases : (s : ℕ) → ((s % 512 ≡ 4) × (span_start true s ≡ s - 4)) ⊎ ((s % 512 ≡ 4 → ⊥) × (span_start true s ≡ s))
unfolding span_start
span_cases s =
    elim (cases_eq (s % 512) 4) [
      | inl near ↦ inl (near, let t : eqb (s % 512) 4 ≡ true = grind (arith, nat_tests) in ap (λ b. cond b (s - 4) s) t)
      | inr far ↦ inr (far, let t : eqb (s % 512) 4 ≡ false = grind (arith, nat_tests) in ap (λ b. cond b (s - 4) s) t)
    ]

-- two frames whose spans begin at one place are one
pub same_span : (s t : ℕ) → IsStart true s → IsStart true t → span_start true s ≡ span_start true t → s ≡ t
same_span s t first second same =
    let high = start_high true s refl first in
    let low = start_high true t refl second in
    elim (span_cases s) [
      | inl (near, is) ↦ elim (span_cases t) [ inl (here, at) ↦ omega (arith, same) | inr (here, at) ↦ omega (arith, same) ]
      | inr (far, is) ↦ elim (span_cases t) [ inl (here, at) ↦ omega (arith, same) | inr (here, at) ↦ omega (arith, same) ]
    ]

none_in : {T : Type 0} (rs : List (Record T)) → rs ≡ [] → (r : Record T) → Contains rs r → ⊥
none_in [] e r (k, lt, is) = omega arith
none_in (x ∷ xs) e r within = absurd (cc e)

-- no record but its own lies over the length field of the frame at the in-order point
own_record : {T : Type 0} (v : Scene T) → IsBetween v.layout.markers (point_of v) → v.layout.markers ≡ true → (r : Record T) → IsStart true r.start → point_of v ≤ from_of r → from_of r < front_of v + 2 → r.start ≡ front_of v
own_record v between m r start past over =
    let front : IsStart v.layout.markers (front_of v) = begins v.layout.markers (point_of v) between in
    let high1 = start_high true r.start refl start in
    let high2 = start_high v.layout.markers (front_of v) m front in
    let at : span_start true (front_of v) ≡ point_of v = ap (λ b. span_start b (front_of v)) (sym m) ∙ between.span in
    elim (span_cases r.start) [
      | inl (near, is) ↦ elim (span_cases (front_of v)) [ inl (here, same) ↦ omega (arith, start.aligned, front.aligned) | inr (here, same) ↦ omega (arith, start.aligned, front.aligned) ]
      | inr (far, is) ↦ elim (span_cases (front_of v)) [ inl (here, same) ↦ omega (arith, start.aligned, front.aligned) | inr (here, same) ↦ omega (arith, start.aligned, front.aligned) ]
    ]

-- where that frame was not placed, no placed one does
pub front_clear : {T : Type 0} (v : Scene T) → IsBetween v.layout.markers (point_of v) → (v.layout.markers ≡ false → v.records ≡ []) → ((r : Record T) → Contains v.records r → IsStart true r.start)
    → ((r : Record T) → Contains v.records r → point_of v ≤ from_of r) → IsFrontUnplaced v → IsClearOfPlaced v.records (front_of v) (front_of v + 2)
front_clear v between marked starts past turn r within placed over =
    elim (cases_Bool v.layout.markers) [
      | inl m ↦ turn r within placed (own_record v between m r (starts r within) (past r within) over.0)
      | inr m ↦ none_in v.records (marked m) r within
    ]

module _ {T : Type 0} (v : Scene T) (can : CanLocate v) where
  pub front_start : IsStart v.layout.markers (front_of v)
  front_start = begins v.layout.markers (point_of v) can.between

  pub front_near : front_of v ≤ point_of v + 4
  front_near = omega (arith, span_near v.layout.markers (front_of v), can.between.span)

  pub front_past : point_of v ≤ front_of v
  front_past = omega (arith, span_low v.layout.markers (front_of v), can.between.span)

  pub front_kept : ((r : Record T) → Contains v.records r → IsStart true r.start) → (q : ℕ) → front_of v ≤ q → q < front_of v + 2 → IsKept (cell_at v.arrived (v.base + q))
  front_kept starts q low high = go (cell_at v.arrived (v.base + q)) refl
    where
      go : (c : Cell) → cell_at v.arrived (v.base + q) ≡ c → IsKept c
      go Missing e = tt
      go (Here x) e = tt
      go Gone e =
          let w = can.released q (omega (arith, front_past)) e in
          front_clear v can.between can.marked starts can.records can.turn w.0 w.1 w.2 (omega (arith, w.3, high), omega (arith, w.4, low, span_low true (front_of v)))

-- no frame whose span begins at the in-order point or before it may be judged early
pub not_open_low : {T : Type 0} (v : Scene T) → CanLocate v → v.layout.markers ≡ true → (s : ℕ) → span_start true s ≤ point_of v → IsOpen v s → ⊥
not_open_low v can m s low open_ =
    let span = span_is v can m s in
    open_.other (same_span s (front_of v) (subst (λ b. IsStart b s) m open_.start) (subst (λ b. IsStart b (front_of v)) m (front_start v can))
    (let at : span_start true (front_of v) ≡ point_of v = ap (λ b. span_start b (front_of v)) (sym m) ∙ can.between.span in omega (arith, at, span, open_.past)))

pub starts_of : {T : Type 0} (rs : List (Record T)) → AreApart rs → (r : Record T) → Contains rs r → IsStart true r.start
starts_of rs apart r (k, lt, is) = subst (λ (x : Record _). IsStart true x.start) is (apart.start k r lt)

-- a whole frame past the in-order point that lies over none with a record is open
pub open_here : {T : Type 0} (v : Scene T) → CanLocate v → v.layout.markers ≡ true → (s : ℕ) → IsStart v.layout.markers s → IsWhole v.arrived v.layout.markers v.base s → point_of v < span_start true s
    → IsClear v.records s (end_of v s) → IsOpen v s
open_here v can m s start whole past clear = record {
  start = start;
  whole = whole;
  past = omega (arith, past, span_is v can m s);
  other = λ e. let at : span_start true (front_of v) ≡ point_of v = ap (λ b. span_start b (front_of v)) (sym m) ∙ can.between.span in omega (arith, at, past, ap (span_start true) e);
  clear = clear;
}

abbrev pub frame_to : ℕ → ℕ → ℕ → Frame
frame_to s len end = record { start = s; length = len; end = end; early = true }

pub same_frame : {T : Type 0} (v : Scene T) (s len end : ℕ) → len ≡ length_at (octet_of v) s → end ≡ end_of v s → frame_to s len end ≡ frame_at v s true
same_frame v s len end length e = λ i. frame_to s (length i) (e i)
