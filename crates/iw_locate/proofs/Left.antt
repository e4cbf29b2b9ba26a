-- What is left of what came, where only octets of placed frames were given up, tells of frames what all that came tells: where one may be judged
-- before its turn, and what that carries; whether the one at the in-order point is whole, and what it carries where no placed one lies over it.
use Rattle.std.proofs.Common.{◌≡◌, ℕ, ◌+◌, ◌-◌, ◌*◌, ◌/◌, ◌<◌, ◌≤◌, Bool, true, false, cond, length, Option, Some, None, MatchOption, refl, sym, ap, ◌∙◌, subst, arith, inl, inr}
use Rattle.std.proofs.lemmas.Bool.{cases_lt}
use Rattle.std.specs.Prelude.{◌⊎◌, ◌↔◌, ◌&&◌, nat_lt}
use Rattle.std.specs.List.{Contains, list_all, range_with_len}
use Rattle.iw_ranges.specs.Arrived.{Arrived, cell_at, has_come}
use Rattle.iw_ranges.specs.Laws.{IsLeftOf}
use Rattle.iw_ranges.proofs.ByPlace.{below}
use Rattle.iw_fpdu.specs.Places.{IsStart, frame_start, span_start}
use Rattle.iw_fpdu.specs.Frame.{frame_end}
use Rattle.iw_fpdu.specs.Reading.{length_at, end_at, pointer_at}
use Rattle.iw_fpdu.specs.Found.{octet_of as octet_held, IsWhole, is_whole}
use Rattle.iw_fpdu.proofs.Octets.{span_low, length_within}
use Rattle.iw_locate.specs.declared.judged.Record.{Record}
use Rattle.iw_locate.specs.Records.{from_of, IsPlaced, IsClear, IsClearOfPlaced, max_records}
use Rattle.iw_locate.specs.Free.{Scene, point_of, octet_of, end_of, IsFound, IsOpen, IsFree, GivesUpOnlyPlaced}
use Rattle.iw_locate.specs.Next.{IsLowest}
use Rattle.iw_locate.specs.Lowest.{lowest_free, early_place}
use Rattle.iw_locate.proofs.Stays.{IsSameAt, same_by_cells}
use Rattle.iw_locate.proofs.Telling.{lowest_is_told}

-- a span with a marker before it begins no later than without
span_least : (m : Bool) (s : ℕ) → span_start true s ≤ span_start m s
unfolding span_start
span_least true s = omega arith
span_least false s = span_low true s

clear_of_all : {T : Type 0} (v : Scene T) (start end : ℕ) → IsClear v.records start end → IsClearOfPlaced v.records start end
clear_of_all v start end clear r within placed = clear r within

shorter : {T : Type 0} (v : Scene T) (start end long : ℕ) → end ≤ long → IsClearOfPlaced v.records start long → IsClearOfPlaced v.records start end
shorter v start end long within_it clear r within placed over = clear r within placed (omega (arith, over.0, within_it), over.1)

module _ {T : Type 0} (v : Scene T) (came : Arrived) (left : IsLeftOf v.arrived came) (only : GivesUpOnlyPlaced v) where
  abbrev pub All : Scene T
  All = record v { arrived = came }

  same_point : point_of v ≡ point_of All
  same_point = ap (λ f. f - v.base) left.floor

  come : (q : ℕ) → has_come v.arrived (v.base + q) ≡ has_come came (v.base + q)
  come q = left.come (v.base + q)

  -- ---- an octet that no placed frame has
  pub cell_left : (q : ℕ) → ((r : Record T) → Contains v.records r → IsPlaced r.state → from_of r ≤ q → q < r.end → ⊥) → cell_at v.arrived (v.base + q) ≡ cell_at came (v.base + q)
  cell_left q none =
      elim (cases_lt (v.base + q) v.arrived.floor) [
        | inl before ↦ below v.arrived (v.base + q) before ∙ sym (below came (v.base + q) (omega (arith, before, left.floor)))
        | inr past ↦ left.cells (v.base + q) (λ gone. let w = only q (omega (arith, past)) gone in none w.0 w.1 w.2 w.3 w.4)
      ]

  cell_clear : (start end : ℕ) → IsClearOfPlaced v.records start end → (q : ℕ) → span_start true start ≤ q → q < end → cell_at v.arrived (v.base + q) ≡ cell_at came (v.base + q)
  cell_clear start end clear q low high = cell_left q (λ r within placed from to. clear r within placed (omega (arith, from, high), omega (arith, low, to)))

  octet_clear : (start end : ℕ) → IsClearOfPlaced v.records start end → (q : ℕ) → start ≤ q → q < end → octet_of v q ≡ octet_of All q
  octet_clear start end clear q low high = ap octet_held (cell_clear start end clear q (omega (arith, low, span_low true start)) high)

  -- ---- a frame over whose length field no placed one lies
  pub length_left : (s : ℕ) → IsClearOfPlaced v.records s (s + 2) → length_at (octet_of v) s ≡ length_at (octet_of All) s
  length_left s clear =
      let first = octet_clear s (s + 2) clear s (omega arith) (omega arith) in
      let second = octet_clear s (s + 2) clear (s + 1) (omega arith) (omega arith) in
      omega (arith, first, second)

  pub end_left : (s : ℕ) → IsClearOfPlaced v.records s (s + 2) → end_of v s ≡ end_of All s
  end_left s clear = ap (frame_end v.layout.markers s) (length_left s clear)

  pub whole_left : (s : ℕ) → IsClearOfPlaced v.records s (s + 2) → is_whole v.arrived v.layout.markers v.base s ≡ is_whole came v.layout.markers v.base s
  unfolding is_whole
  whole_left s clear = λ i. list_all (λ q. come q i) (range_with_len (span_start v.layout.markers s) (end_left s clear i - span_start v.layout.markers s))

  -- ---- one over which none lies
  pub reads_left : (s : ℕ) → IsStart v.layout.markers s → IsWhole v.arrived v.layout.markers v.base s → IsClearOfPlaced v.records s (end_of v s) → IsSameAt v.arrived came v.layout v.base s
  reads_left s start whole clear =
      same_by_cells v.arrived came v.layout v.base s start whole (λ q low high. sym (cell_clear s (end_of v s) clear q (omega (arith, low, span_least v.layout.markers s)) high))

  -- ---- where one may be judged before its turn
  two_within : (octet : ℕ → ℕ) (s : ℕ) → IsStart v.layout.markers s → s + 2 ≤ end_at octet v.layout.markers s
  two_within octet s start = length_within v.layout.markers s (length_at octet s) start

  length_clear : (end s : ℕ) → s + 2 ≤ end → IsClear v.records s end → IsClearOfPlaced v.records s (s + 2)
  length_clear end s long clear = shorter v s (s + 2) end long (clear_of_all v s end clear)

  open_to : (s : ℕ) → IsOpen v s → IsOpen All s
  open_to s o =
      let e = end_left s (length_clear (end_of v s) s (two_within (octet_of v) s o.start) o.clear) in record {
        start = o.start;
        whole = λ q low high. sym (come q) ∙ o.whole q low (omega (arith, high, e));
        past = omega (arith, o.past, same_point);
        other = λ same. o.other (same ∙ ap (frame_start v.layout.markers) (sym same_point));
        clear = subst (IsClear v.records s) e o.clear;
      }

  open_from : (s : ℕ) → IsOpen All s → IsOpen v s
  open_from s o =
      let e = end_left s (length_clear (end_of All s) s (two_within (octet_of All) s o.start) o.clear) in record {
        start = o.start;
        whole = λ q low high. come q ∙ o.whole q low (omega (arith, high, e));
        past = omega (arith, o.past, same_point);
        other = λ same. o.other (same ∙ ap (frame_start v.layout.markers) same_point);
        clear = subst (IsClear v.records s) (sym e) o.clear;
      }

  -- a marker that lies in no placed frame says the same
  pub pointer_left : (p : ℕ) → IsClearOfPlaced v.records p (p + 4) → pointer_at (octet_of v) p ≡ pointer_at (octet_of All) p
  pointer_left p clear =
      let third = octet_clear p (p + 4) clear (p + 2) (omega arith) (omega arith) in
      let fourth = octet_clear p (p + 4) clear (p + 3) (omega arith) (omega arith) in
      let e : 256 * octet_of v (p + 2) + octet_of v (p + 3) ≡ 256 * octet_of All (p + 2) + octet_of All (p + 3) = omega (arith, third, fourth) in
      ap (λ n. n / 4 * 4) e

  points_as : (p s a b : ℕ) → a ≡ b → ((a ≡ 0) × (s ≡ p + 4)) ⊎ ((0 < a) × (s + a ≡ p)) → ((b ≡ 0) × (s ≡ p + 4)) ⊎ ((0 < b) × (s + b ≡ p))
  points_as p s a b e = subst (λ k. ((k ≡ 0) × (s ≡ p + 4)) ⊎ ((0 < k) × (s + k ≡ p))) e

  found_to : (s : ℕ) → IsFound v s → IsFound All s
  found_to s (inl (p, seen, points)) =
      inl (
        p,
        record { marker = seen.marker; came = λ q low high. sym (come q) ∙ seen.came q low high; outside = seen.outside },
        points_as p s (pointer_at (octet_of v) p) (pointer_at (octet_of All) p) (pointer_left p seen.outside) points,
      )
  found_to s (inr past) = inr past

  found_from : (s : ℕ) → IsFound All s → IsFound v s
  found_from s (inl (p, seen, points)) =
      inl (
        p,
        record { marker = seen.marker; came = λ q low high. come q ∙ seen.came q low high; outside = seen.outside },
        points_as p s (pointer_at (octet_of All) p) (pointer_at (octet_of v) p) (sym (pointer_left p seen.outside)) points,
      )
  found_from s (inr past) = inr past

  -- the same places are free
  pub free_left : (s : ℕ) → IsFree v s ↔ IsFree All s
  free_left s = (
    λ free. record { found = found_to s free.found; open_ = open_to s free.open_ },
    λ free. record { found = found_from s free.found; open_ = open_from s free.open_ },
  )

  -- and a frame there carries the same
  pub open_reads : (s : ℕ) → IsOpen v s → IsSameAt v.arrived came v.layout v.base s
  open_reads s o = reads_left s o.start o.whole (clear_of_all v s (end_of v s) o.clear)

  lowest_left : v.base ≤ v.arrived.floor → lowest_free v ≡ lowest_free All
  lowest_left based = go (lowest_free v) (lowest_free All) (lowest_is_told v based) (lowest_is_told All (omega (arith, based, left.floor)))
    where
      go : (a b : Option ℕ) → MatchOption a ((s : ℕ) → IsFree v s → ⊥) (λ s. IsLowest v s) → MatchOption b ((s : ℕ) → IsFree All s → ⊥) (λ s. IsLowest All s) → a ≡ b
      go None None none_v none_all = refl
      go None (Some t) none_v all = absurd (none_v t ((free_left t).1 all.0))
      go (Some s) None low none_all = absurd (none_all s ((free_left s).0 low.0))
      go (Some s) (Some t) low all =
          let e : s ≡ t = omega (arith, low.1 t ((free_left t).1 all.0), all.1 s ((free_left s).0 low.0)) in
          ap Some e

  -- the same frame is judged before its turn
  pub early_left : v.base ≤ v.arrived.floor → early_place v ≡ early_place All
  early_left based = ap (λ place. cond (v.layout.markers && nat_lt (length v.records) max_records) place None) (lowest_left based)
