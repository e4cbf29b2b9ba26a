-- What came past the in-order point is given up, and every record.
use Rattle.std.proofs.Common.{◌≡◌, ℕ, ◌+◌, ◌<◌, ◌≤◌, Bool, true, false, List, [], refl, sym, ap, ◌∙◌, subst, arith, inl, inr, cond}
use Rattle.std.proofs.lemmas.Bool.{cases_lt}
use Rattle.std.proofs.lemmas.Bool.Decides.{nat_tests}
use Rattle.std.specs.Prelude.{not, nat_lt}
use Rattle.iw_ranges.specs.Arrived.{Missing, Gone, cell_at, has_come, is_missing}
use Rattle.iw_fpdu.specs.Places.{span_start}
use Rattle.iw_fpdu.specs.Reading.{length_at}
use Rattle.iw_fpdu.specs.Found.{octet_of as octet_held}
use Rattle.iw_fpdu.proofs.Octets.{span_low, length_within}
use Rattle.iw_locate.specs.declared.frame.Next.{Next}
use Rattle.iw_locate.specs.declared.frame.Next.TheVariants.{Frame as Found, Nothing, Mismatch}
use Rattle.iw_locate.specs.declared.judged.Record.{Record}
use Rattle.iw_locate.specs.Records.{OverlapsPlaced, IsClearOfPlaced}
use Rattle.iw_locate.specs.Laws.{NextIsOne}
use Rattle.iw_locate.specs.Free.{Scene, point_of, front_of, octet_of, end_of, IsOpen}
use Rattle.iw_locate.specs.Next.{IsNext, IsFrontWhole, frame_at}
use Rattle.iw_locate.specs.Keeping.{Keeps, IsFrontUnplaced, GivingUpKeeps, emptied_past}
use Rattle.iw_locate.specs.Unsearched.{Tells, nothing_from}
use Rattle.iw_locate.proofs.Starting.{none_in, no_record_keeps, open_reached}
use Rattle.iw_fpdu.proofs.Follows.{begins}

module _ {T : Type 0} (v : Scene T) (keeps : Keeps v) where
  abbrev w : Scene T
  w = emptied_past v

  cell_past : (q : ℕ) → point_of v ≤ q → cell_at w.arrived (v.base + q) ≡ Missing
  cell_past q low = let t : nat_lt (v.base + q) v.arrived.floor ≡ false = grind (arith, nat_tests) in ap (λ b. cond b Gone Missing) t

  not_come : (q : ℕ) → point_of v ≤ q → has_come w.arrived (v.base + q) ≡ false
  not_come q low = ap (λ c. not (is_missing c)) (cell_past q low)

  none_open : (s : ℕ) → IsOpen w s → ⊥
  none_open s o = omega (arith, open_reached w (point_of v) not_come s o, o.past, span_low v.layout.markers s)

  front_lacks : IsFrontWhole w → ⊥
  front_lacks whole =
      let front = front_of v in
      let start = begins v.layout.markers (point_of v) keeps.between in
      let low : span_start v.layout.markers front ≤ front = span_low v.layout.markers front in
      let long = length_within v.layout.markers front (length_at (octet_of w) front) start in
      let e = sym (not_come front (omega (arith, low, keeps.between.span))) ∙ whole front low (omega (arith, long)) in
      cc e

  few : (q : ℕ) → octet_of w q < 256
  few q = go (nat_lt (v.base + q) v.arrived.floor) refl
    where
      go : (b : Bool) → nat_lt (v.base + q) v.arrived.floor ≡ b → octet_of w q < 256
      go true h = subst (λ b. octet_held (cond b Gone Missing) < 256) (sym h) (omega arith)
      go false h = subst (λ b. octet_held (cond b Gone Missing) < 256) (sym h) (omega arith)

  tells_none : Tells w (nothing_from (point_of v))
  tells_none = record {
    free = λ m s free. absurd (none_open s free.open_);
    reach = not_come;
    octets = few;
  }

  keeps_none : Keeps w
  keeps_none = no_record_keeps w keeps.based keeps.between refl (λ q low gone. let e = sym (cell_past q low) ∙ gone in cc e)

  no_record_there : IsFrontUnplaced w
  no_record_there r within = absurd (none_in w.records refl r within)

  nothing_next : (next : Next) → IsNext w next → next ≡ Nothing
  nothing_next Nothing is = refl
  nothing_next Mismatch is = absurd (front_lacks is.0)
  nothing_next (Found f) (inl (at, whole, clear)) = absurd (front_lacks whole)
  nothing_next (Found f) (inr (at, lacks, can, lowest)) = absurd (none_open f.start lowest.0.open_)

pub giving_up_keeps : {T : Type 0} → GivingUpKeeps T
giving_up_keeps v keeps = (keeps_none v keeps, no_record_there v keeps, tells_none v keeps, nothing_next v keeps)

-- ---- there is one answer
clashes : {T : Type 0} (rs : List (Record T)) (start end : ℕ) → OverlapsPlaced rs start end → IsClearOfPlaced rs start end → ⊥
clashes rs start end (r, within, placed, over) clear = clear r within placed over

pub next_is_one : {T : Type 0} → NextIsOne T
next_is_one v Nothing Nothing x y = refl
next_is_one v Nothing Mismatch x y = absurd (x.0 y.0)
next_is_one v Nothing (Found g) x (inl (at, whole, clear)) = absurd (x.0 whole)
next_is_one v Nothing (Found g) x (inr (at, lacks, can, lowest)) = absurd (x.1 can g.start lowest.0)
next_is_one v Mismatch Nothing x y = absurd (y.0 x.0)
next_is_one v Mismatch Mismatch x y = refl
next_is_one v Mismatch (Found g) (front, over) (inl (at, whole, clear)) = absurd (clashes v.records (front_of v) (end_of v (front_of v)) over clear)
next_is_one v Mismatch (Found g) (front, over) (inr (at, lacks, can, lowest)) = absurd (lacks front)
next_is_one v (Found f) Nothing (inl (at, whole, clear)) y = absurd (y.0 whole)
next_is_one v (Found f) Nothing (inr (at, lacks, can, lowest)) y = absurd (y.1 can f.start lowest.0)
next_is_one v (Found f) Mismatch (inl (at, whole, clear)) (front, over) = absurd (clashes v.records (front_of v) (end_of v (front_of v)) over clear)
next_is_one v (Found f) Mismatch (inr (at, lacks, can, lowest)) (front, over) = absurd (lacks front)
next_is_one v (Found f) (Found g) (inl (at, whole, clear)) (inl (there, also, apart)) = ap Found (at ∙ sym there)
next_is_one v (Found f) (Found g) (inl (at, whole, clear)) (inr (there, lacks, can, lowest)) = absurd (lacks whole)
next_is_one v (Found f) (Found g) (inr (at, lacks, can, lowest)) (inl (there, whole, clear)) = absurd (lacks whole)
next_is_one v (Found f) (Found g) (inr (at, lacks, can, lowest)) (inr (there, lacking, may, first)) =
    let same : f.start ≡ g.start = omega (arith, lowest.1 g.start first.0, first.1 f.start lowest.0) in
    ap Found (at ∙ ap (λ s. frame_at v s true) same ∙ sym there)
