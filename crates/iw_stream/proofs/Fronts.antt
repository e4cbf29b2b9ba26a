-- The frame at the in-order point: whether it is whole, and that it is the first of the octets that came without a gap.
use Rattle.std.proofs.Common.{◌≡◌, ◌⊎◌, ℕ, zero, suc, ◌+◌, ◌-◌, ◌<◌, ◌≤◌, ◌^◌, Bool, true, false, length, drop, if◌then◌else◌, Option, Some, None, refl, sym, ap, ◌∙◌, subst, arith, inl, inr}
use Rattle.std.specs.Prelude.{not, MatchOption, IfSome}
use Rattle.std.specs.Option.{option_map}
use Rattle.std.proofs.lemmas.Bool.{cases_lt, true≢false}
use Rattle.std.proofs.lemmas.Option.{none-some}
use Rattle.iw_ranges.specs.Arrived.{Arrived, Cell, Missing, Here, Gone, IsWithinLimits, cell_at, cells_between, is_missing, has_come, in_order, window}
use Rattle.iw_ranges.specs.InOrder.{IsHeld, is_gone}
use Rattle.iw_ranges.proofs.ByPlace.{below}
use Rattle.iw_ranges.proofs.InOrder.{octet_at, stands, ends}
use Rattle.iw_fpdu.specs.declared.layout.Layout.{Layout}
use Rattle.iw_fpdu.specs.Frame.{frame_end}
use Rattle.iw_fpdu.specs.Places.{frame_start, span_start}
use Rattle.iw_fpdu.specs.Reading.{end_at}
use Rattle.iw_fpdu.specs.Found.{Found, IsKept, IsWhole, LacksOctet, is_whole, octet_in, ulpdu_len}
use Rattle.iw_fpdu.specs.Laws.{IsBetween, StandFrom, found_at}
use Rattle.iw_fpdu.specs.Sequence.{Carried, first_frame}
use Rattle.iw_fpdu.proofs.Came.{tells_whole}
use Rattle.iw_fpdu.proofs.Follows.{begins, frames_follow}
use Rattle.iw_fpdu.proofs.Octets.{span_low, span_near, length_within}
use Rattle.iw_fpdu.proofs.Sequences.{frames_in_sequence}
use Rattle.iw_stream.specs.Frames.{Frame, IsNext, frame_at, frame_by}
use Rattle.iw_stream.proofs.Landings.{length_ulpdu}

pub stand : (a : Arrived) (base : ℕ) → base ≤ a.floor → IsHeld a → StandFrom a base (a.floor - base) (in_order a)
stand a base beyond kept =
    let from : a.floor ≡ base + (a.floor - base) = omega arith in
    let to : a.floor + length (in_order a) ≡ base + (a.floor - base) + length (in_order a) = omega arith in
    record { held = stands a ∙ (λ i. cells_between a (from i) (to i)); missing = ap (has_come a) (sym to) ∙ ends a kept }

here_missing : (x : ℕ) → Here x ≡ Missing → ⊥
here_missing x e = cc

pub in_window : (a : Arrived) → IsWithinLimits a → length (in_order a) ≤ window
in_window a limits = elim (cases_lt window (length (in_order a))) [
  | inl past ↦ absurd (here_missing _ (sym (octet_at a (a.floor + window) (omega arith) (omega arith)) ∙ limits.octets (a.floor + window) (omega arith)))
  | inr fits ↦ fits
]

pub kept_cell : (c : Cell) → is_gone c ≡ false → IsKept c
kept_cell Missing e = tt
kept_cell (Here x) e = tt
kept_cell Gone e = absurd (true≢false e)

pub start_near : (m : Bool) (at : ℕ) → IsBetween m at → (at ≤ frame_start m at) × (frame_start m at ≤ at + 4)
start_near m at b = (omega (arith, b.span, span_low m (frame_start m at)), omega (arith, b.span, span_near m (frame_start m at)))

-- ---- whether it is whole
pub frame_whole : (layout : Layout) (a : Arrived) (base start : ℕ) → IsWhole a layout.markers base start → frame_at layout a base start ≡ Some (frame_by (found_at a layout base start))
frame_whole layout a base start whole =
    ap (λ b. if b then Some (frame_by (found_at a layout base start)) else None) ((tells_whole a layout.markers base start).1 whole)

pub frame_lacking : (layout : Layout) (a : Arrived) (base start : ℕ) → LacksOctet a layout.markers base start → frame_at layout a base start ≡ None
frame_lacking layout a base start lacks = go (is_whole a layout.markers base start) refl
  where
    go : (b : Bool) → is_whole a layout.markers base start ≡ b → (if b then Some (frame_by (found_at a layout base start)) else None) ≡ None
    go false e = refl
    go true e = absurd (true≢false (sym ((tells_whole a layout.markers base start).0 e lacks.0 lacks.1 lacks.2) ∙ lacks.3))

-- what is read there
abbrev pub Read : Layout → Arrived → ℕ → ℕ → Option Found → Type 0
Read layout a base start result =
    MatchOption result (LacksOctet a layout.markers base start)
    (λ found. (found ≡ record { arrived = a; layout = layout; base = base; start = start }) × IsWhole a layout.markers base start)

pub frame_read : (layout : Layout) (a : Arrived) (base start : ℕ) (result : Option Found) → Read layout a base start result → option_map frame_by result ≡ frame_at layout a base start
frame_read layout a base start None read = sym (frame_lacking layout a base start read)
frame_read layout a base start (Some found) read = ap (λ f. Some (frame_by f)) read.0 ∙ sym (frame_whole layout a base start read.1)

pub is_next : (layout : Layout) (a : Arrived) (base : ℕ) → base ≤ a.floor → IsBetween layout.markers (a.floor - base) → IsWithinLimits a
    → IsWhole a layout.markers base (frame_start layout.markers (a.floor - base)) → IsNext layout a base (found_at a layout base (frame_start layout.markers (a.floor - base)))
is_next layout a base low b limits whole =
    let m : Bool = layout.markers in
    let at : ℕ = a.floor - base in
    let start : ℕ = frame_start m at in
    let found : Found = found_at a layout base start in
    let end : ℕ = frame_end m start (ulpdu_len found) in
    let near = start_near m at b in
    let long : start + 2 ≤ end = length_within m start (ulpdu_len found) (begins m at b) in
    let come = all_before end (λ p from to. whole p (omega (arith, b.span, from)) to) in record {
      is = refl;
      low = omega (arith, near.1);
      on = omega (arith, near.0, long, low);
      near = reach end (omega (arith, near.0, long, low)) come;
      come = come;
      next = frames_follow.next m start (ulpdu_len found) (begins m at b);
    }
  where
    all_before : (end : ℕ) → ((p : ℕ) → a.floor - base ≤ p → p < end → has_come a (base + p) ≡ true) → (p : ℕ) → p < base + end → has_come a p ≡ true
    all_before end span p lt = elim (cases_lt p a.floor) [
      | inl before ↦ ap (λ c. not (is_missing c)) (below a p before)
      | inr past ↦ subst (λ q. has_come a q ≡ true) (let same : base + (p - base) ≡ p = omega (arith, past, low) in same) (span (p - base) (omega (arith, past)) (omega (arith, lt, past, low)))
    ]

    reach : (end : ℕ) → a.floor < base + end → ((p : ℕ) → p < base + end → has_come a p ≡ true) → base + end ≤ a.floor + 2 ^ 18
    reach end some come = elim (cases_lt (a.floor + window) (base + end)) [
      | inl past ↦ absurd (true≢false (sym (come (a.floor + window) past) ∙ ap (λ c. not (is_missing c)) (limits.octets (a.floor + window) (omega arith))))
      | inr fits ↦ omega (arith, fits)
    ]

pub next_read : (layout : Layout) (a : Arrived) (base start : ℕ) (result : Option Found) → base ≤ a.floor → IsBetween layout.markers (a.floor - base) → IsWithinLimits a
    → start ≡ frame_start layout.markers (a.floor - base) → Read layout a base start result → IfSome result (λ found. IsNext layout a base found)
next_read layout a base start None beyond b limits is read = tt
next_read layout a base start (Some found) beyond b limits is read =
    subst (IsNext layout a base) (sym (read.0 ∙ ap (λ s. found_at a layout base s) is))
    (is_next layout a base beyond b limits (subst (λ s. IsWhole a layout.markers base s) is read.1))

-- if nothing came from the place on at which the frame begins
pub none_there : (layout : Layout) (a : Arrived) (base start missing : ℕ) → base ≤ a.floor → IsBetween layout.markers (a.floor - base) → start ≡ frame_start layout.markers (a.floor - base) → cell_at a missing ≡ Missing
    → missing ≤ base + start → frame_at layout a base start ≡ None
none_there layout a base start missing beyond b is gap early =
    let m : Bool = layout.markers in
    let at : ℕ = a.floor - base in
    let found : Found = found_at a layout base (frame_start m at) in
    let low : a.floor ≤ missing = past gap in
    let place : base + (missing - base) ≡ missing = omega (arith, low, beyond) in
    let long : frame_start m at + 2 ≤ frame_end m (frame_start m at) (ulpdu_len found) = length_within m (frame_start m at) (ulpdu_len found) (begins m at b) in
    ap (frame_at layout a base) is
    ∙ frame_lacking layout a base (frame_start m at) (missing - base, omega (arith, b.span, low, beyond), omega (arith, early, long, beyond, low, is), ap (has_come a) place ∙ ap (λ c. not (is_missing c)) gap)
  where
    past : cell_at a missing ≡ Missing → a.floor ≤ missing
    past gap = elim (cases_lt missing a.floor) [
      | inl before ↦ absurd (let gone : cell_at a missing ≡ Gone = below a missing before in cc)
      | inr after ↦ after
    ]

-- ---- it is the first of the octets that came without a gap
abbrev pub carried_by : Frame → Carried
carried_by frame = record { mismatch = frame.mismatch; ulpdu = frame.ulpdu }

pub first_here : (layout : Layout) (a : Arrived) (base : ℕ) (frame : Frame) → base ≤ a.floor → IsBetween layout.markers (a.floor - base) → IsHeld a
    → frame_at layout a base (frame_start layout.markers (a.floor - base)) ≡ Some frame
    → first_frame layout (a.floor - base) (in_order a) ≡ Some (carried_by frame, drop (frame_end layout.markers frame.start (length frame.ulpdu) - (a.floor - base)) (in_order a))
first_here layout a base frame beyond b kept e = go (is_whole a layout.markers base (frame_start layout.markers (a.floor - base))) refl e
  where
    go : (w : Bool) → is_whole a layout.markers base (frame_start layout.markers (a.floor - base)) ≡ w
        → (if w then Some (frame_by (found_at a layout base (frame_start layout.markers (a.floor - base)))) else None) ≡ Some frame
        → first_frame layout (a.floor - base) (in_order a) ≡ Some (carried_by frame, drop (frame_end layout.markers frame.start (length frame.ulpdu) - (a.floor - base)) (in_order a))
    go false whole h = absurd (let no : ⊥ = cc in no)
    go true whole h =
        let f : Found = found_at a layout base (frame_start layout.markers (a.floor - base)) in
        let same : frame_by f ≡ frame = cc in
        frames_in_sequence.found.whole a layout base (a.floor - base) (in_order a) b (stand a base beyond kept) ((tells_whole a layout.markers base (frame_start layout.markers (a.floor - base))).0 whole)
        ∙ ap (λ n. Some (carried_by (frame_by f), drop (frame_end layout.markers f.start n - (a.floor - base)) (in_order a))) (sym (length_ulpdu f))
        ∙ ap (λ x. Some (carried_by x, drop (frame_end layout.markers x.start (length x.ulpdu) - (a.floor - base)) (in_order a))) same

-- each of these places passes a test, or one doesn't
all_or_one : (f : ℕ → Bool) (from n : ℕ) → ((p : ℕ) → from ≤ p → p < from + n → f p ≡ true) ⊎ ((p : ℕ) × (from ≤ p) × (p < from + n) × (f p ≡ false))
all_or_one f from zero = inl (λ p low high. absurd (omega arith))
all_or_one f from (suc n) = go (f from) refl (all_or_one f (from + 1) n)
  where
    go : (b : Bool) → f from ≡ b → ((p : ℕ) → from + 1 ≤ p → p < from + 1 + n → f p ≡ true) ⊎ ((p : ℕ) × (from + 1 ≤ p) × (p < from + 1 + n) × (f p ≡ false))
        → ((p : ℕ) → from ≤ p → p < from + suc n → f p ≡ true) ⊎ ((p : ℕ) × (from ≤ p) × (p < from + suc n) × (f p ≡ false))
    go false e rest = inr (from, omega arith, omega arith, e)
    go true e (inr one) = inr (one.0, omega (arith, one.1), omega (arith, one.2), one.3)
    go true e (inl all) = inl (λ p low high. elim (cases_lt from p) [
      | inl above ↦ all p (omega arith) (omega arith)
      | inr here ↦ ap f (let same : p ≡ from = omega arith in same) ∙ e
    ])

pub none_here : (layout : Layout) (a : Arrived) (base : ℕ) → base ≤ a.floor → IsBetween layout.markers (a.floor - base) → IsHeld a
    → frame_at layout a base (frame_start layout.markers (a.floor - base)) ≡ None → first_frame layout (a.floor - base) (in_order a) ≡ None
none_here layout a base beyond b kept e =
    let m : Bool = layout.markers in
    let start : ℕ = frame_start m (a.floor - base) in
    let low : ℕ = span_start m start in
    let end : ℕ = end_at (octet_in a base) m start in
    elim (all_or_one (λ p. has_come a (base + p)) low (end - low)) [
      | inl all ↦ absurd (none-some _ (sym e ∙ frame_whole layout a base start (λ p from to. all p from (omega (arith, from, to)))))
      | inr one ↦ frames_in_sequence.found.lacking a layout base (a.floor - base) (in_order a) b (stand a base beyond kept) (one.0, one.1, omega (arith, one.1, one.2), one.3)
    ]
