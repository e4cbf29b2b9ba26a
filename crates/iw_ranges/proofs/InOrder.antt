-- Octets that came in order.
use Rattle.std.proofs.Common.{◌≡◌, ℕ, ◌+◌, ◌-◌, ◌<◌, ◌≤◌, zero, suc, Bool, true, false, not, cond, List, [], ◌∷◌, ◌++◌, map, take, drop, length, get_or, min, max, Some, refl, sym, ap, ◌∙◌, arith, inl, inr}
use Rattle.std.proofs.lemmas.List.{same_lists, length-map, get_or-map, length-drop, length-take, get_or-take, get_or-drop, get_or_append_left, length-append}
use Rattle.std.proofs.lemmas.List.FromFn.{get_or-map-range_with_len, length-map-range_with_len}
use Rattle.std.proofs.lemmas.List.Prefix.{front_from_reads}
use Rattle.std.proofs.lemmas.Option.{slice_get-get_or, slice_get_within, get_or_from_slice_get}
use Rattle.std.proofs.lemmas.Bool.{cases_lt}
use Rattle.std.proofs.lemmas.Bool.Decides.{nat_tests}
use Rattle.std.specs.Prelude.{nat_lt, slice_get}
use Rattle.iw_ranges.specs.declared.Delivery.TheVariants.{Kept}
use Rattle.iw_ranges.specs.Arrived.{Cell, Missing, Here, Gone, Arrived, nothing, cell_at, is_missing, has_come, end_of, drawn, in_segment, first_copy, delivery, taken_in, advanced, cells_between, held, in_order, window}
use Rattle.iw_ranges.specs.InOrder.{is_gone, IsHeld, IsInWindow, IsOf}
use Rattle.iw_ranges.proofs.Cells.{same_drawn}
use Rattle.iw_ranges.proofs.Counts.{dropped_far}
use Rattle.iw_ranges.proofs.Keeps.{taken_none, taken_some}
use Rattle.iw_ranges.proofs.Moves.{cells_from}
use Rattle.iw_ranges.proofs.ByPlace.{below, beyond, not_dropped, cell_at-nothing, cell_at-taken_in, gives_up_before}

-- ---- octets side by side
held_at : (cells : List Cell) (i : ℕ) → i < length (held cells) → get_or cells i Missing ≡ Here (get_or (held cells) i 0)
unfolding held
held_at [] i lt = absurd (omega arith)
held_at (Missing ∷ cells) i lt = absurd (omega arith)
held_at (Here x ∷ cells) zero lt = refl
held_at (Here x ∷ cells) (suc i) lt = held_at cells i (omega arith)
held_at (Gone ∷ cells) i lt = absurd (omega arith)

stops : (cells : List Cell) → is_gone (get_or cells (length (held cells)) Missing) ≡ false → get_or cells (length (held cells)) Missing ≡ Missing
unfolding held
stops [] kept = refl
stops (Missing ∷ cells) kept = refl
stops (Here x ∷ cells) kept = stops cells kept
stops (Gone ∷ cells) kept = absurd (let e : true ≡ false = kept in cc)

-- where octets stand at the front, what is held behind them comes next
pub held_from : (xs : List ℕ) (cells : List Cell) → ((i : ℕ) → i < length xs → get_or cells i Missing ≡ Here (get_or xs i 0)) → held cells ≡ xs ++ held (drop (length xs) cells)
unfolding held
held_from [] cells all = refl
held_from (x ∷ xs) [] all = absurd (let e : Missing ≡ Here x = all 0 (omega arith) in cc)
held_from (x ∷ xs) (c ∷ cells) all =
    let first : c ≡ Here x = all 0 (omega arith) in
    ap (λ d. held (d ∷ cells)) first ∙ ap (λ ys. x ∷ ys) (held_from xs cells (λ i lt. all (suc i) (omega arith)))

held-drop : (k : ℕ) (cells : List Cell) → k ≤ length (held cells) → held (drop k cells) ≡ drop k (held cells)
unfolding held
held-drop zero cells high = refl
held-drop (suc k) [] high = absurd (omega arith)
held-drop (suc k) (Missing ∷ cells) high = absurd (omega arith)
held-drop (suc k) (Here x ∷ cells) high = held-drop k cells (omega arith)
held-drop (suc k) (Gone ∷ cells) high = absurd (omega arith)

held-short : (cells : List Cell) → length (held cells) ≤ length cells
unfolding held
held-short [] = omega arith
held-short (Missing ∷ cells) = omega arith
held-short (Here x ∷ cells) = omega (arith, held-short cells)
held-short (Gone ∷ cells) = omega arith

-- ---- what stands in order
-- each place in order holds its octet
pub octet_at : (a : Arrived) (p : ℕ) → a.floor ≤ p → p < a.floor + length (in_order a) → cell_at a p ≡ Here (get_or (in_order a) (p - a.floor) 0)
octet_at a p low high = beyond a p low ∙ held_at a.cells (p - a.floor) (omega arith)

-- the octets in order are those of the places from the in-order point on
pub stands : (a : Arrived) → map Here (in_order a) ≡ cells_between a a.floor (a.floor + length (in_order a))
stands a = same_lists (map Here (in_order a)) (cells_between a a.floor (a.floor + length (in_order a))) (omega (arith, long, wide)) each
  where
    long : length (map Here (in_order a)) ≡ length (in_order a)
    long = length-map (in_order a) Here

    wide : length (cells_between a a.floor (a.floor + length (in_order a))) ≡ a.floor + length (in_order a) - a.floor
    wide = length-map-range_with_len (cell_at a) a.floor (a.floor + length (in_order a) - a.floor)

    each : (k : ℕ) (d : Cell) → k < length (map Here (in_order a)) → get_or (map Here (in_order a)) k d ≡ get_or (cells_between a a.floor (a.floor + length (in_order a))) k d
    each k d lt =
        let inside : k < length (in_order a) = omega (arith, lt, long) in
        get_or-map Here (in_order a) k 0 d inside
        ∙ ap (λ i. Here (get_or (in_order a) i 0)) (let e : k ≡ a.floor + k - a.floor = omega arith in e)
        ∙ sym (octet_at a (a.floor + k) (omega arith) (omega arith))
        ∙ sym (get_or-map-range_with_len (cell_at a) a.floor (a.floor + length (in_order a) - a.floor) k (a.floor + k) d (omega arith) refl)

-- the place behind them didn't come
pub ends : (a : Arrived) → IsHeld a → has_come a (a.floor + length (in_order a)) ≡ false
ends a kept = ap (λ c. not (is_missing c)) (at ∙ stops a.cells (ap is_gone (sym at) ∙ kept (a.floor + length (in_order a)) (omega arith)))
  where
    at : cell_at a (a.floor + length (in_order a)) ≡ get_or a.cells (length (in_order a)) Missing
    at = beyond a (a.floor + length (in_order a)) (omega arith) ∙ ap (λ i. get_or a.cells i Missing) (omega arith)

-- each place before the end of those in order came
pub all_come : (a : Arrived) (to : ℕ) → to ≤ a.floor + length (in_order a) → (p : ℕ) → p < to → has_come a p ≡ true
all_come a to high p lt =
    elim (cases_lt p a.floor) [
      | inl before ↦ ap (λ c. not (is_missing c)) (below a p before)
      | inr low ↦ ap (λ c. not (is_missing c)) (octet_at a p low (omega arith))
    ]

-- ---- the in-order point after each call
-- a segment leaves the in-order point
pub floor_takes : (a : Arrived) (place : ℕ) (octets : List ℕ) → (taken_in a place octets).floor ≡ a.floor
floor_takes a place octets =
    elim (cases_lt 0 (length octets)) [
      | inl some ↦ ap (λ x. x.floor) (taken_some a place octets some)
      | inr none ↦ ap (λ x. x.floor) (taken_none a place octets (omega arith))
    ]

-- the in-order point moves to the place that is asked for, or stays where it lies further on
pub floor_moves : (a : Arrived) (to : ℕ) → (advanced a to).floor ≡ max a.floor to
unfolding advanced
floor_moves a to = refl

-- ---- nothing is given up behind the in-order point
-- of a stream of which nothing came
pub held_nothing : IsHeld nothing
held_nothing p low = ap is_gone (cell_at-nothing p)

-- a segment gives nothing up
pub held_takes : (a : Arrived) (place : ℕ) (octets : List ℕ) → IsHeld a → IsHeld (taken_in a place octets)
held_takes a place octets kept p low =
    ap is_gone (cell_at-taken_in a place octets p) ∙ same (cell_at a p) (in_segment place (length octets) p) refl ∙ kept p (omega (arith, floor_takes a place octets))
  where
    same : (c : Cell) (v : Bool) → in_segment place (length octets) p ≡ v → is_gone (first_copy place octets p c) ≡ is_gone c
    same Missing true h = ap (λ b. is_gone (cond b (Here (get_or octets (p - place) 0)) Missing)) h
    same Missing false h = ap (λ b. is_gone (cond b (Here (get_or octets (p - place) 0)) Missing)) h
    same (Here x) v h = refl
    same Gone v h = refl

-- nor does the in-order point, where it moves on, behind itself
pub held_moves : (a : Arrived) (to : ℕ) → IsHeld a → IsHeld (advanced a to)
held_moves a to kept p low =
    let from : max a.floor to ≤ p = omega (arith, floor_moves a to) in
    let t : nat_lt p to ≡ false = grind (arith, nat_tests) in
    ap is_gone (gives_up_before a to p ∙ ap (λ b. cond b Gone (cell_at a p)) t) ∙ kept p (omega arith)

-- ---- what each call does to the octets in order
-- no more octets stand in order than there are cells
pub short : (a : Arrived) → length (in_order a) ≤ length a.cells
short a = held-short a.cells

-- a segment only adds octets at their end
pub takes : (a : Arrived) (place : ℕ) (octets : List ℕ) → (more : List ℕ) × (in_order (taken_in a place octets) ≡ in_order a ++ more)
takes a place octets = (held (drop (length (in_order a)) (taken_in a place octets).cells), held_from (in_order a) (taken_in a place octets).cells each)
  where
    each : (i : ℕ) → i < length (in_order a) → get_or (taken_in a place octets).cells i Missing ≡ Here (get_or (in_order a) i 0)
    each i lt =
        ap (λ k. get_or (taken_in a place octets).cells k Missing) (let e : i ≡ a.floor + i - (taken_in a place octets).floor = omega (arith, floor_takes a place octets) in e)
        ∙ sym (beyond (taken_in a place octets) (a.floor + i) (omega (arith, floor_takes a place octets)))
        ∙ cell_at-taken_in a place octets (a.floor + i)
        ∙ ap (first_copy place octets (a.floor + i)) (octet_at a (a.floor + i) (omega arith) (omega arith))
        ∙ ap (λ k. Here (get_or (in_order a) k 0)) (let e : a.floor + i - a.floor ≡ i = omega arith in e)

-- the in-order point, where it moves on among them, leaves those behind it
pub moves : (a : Arrived) (to : ℕ) → a.floor ≤ to → to ≤ a.floor + length (in_order a) → in_order (advanced a to) ≡ drop (to - a.floor) (in_order a)
unfolding advanced
moves a to low high = held-drop (to - a.floor) a.cells (omega arith)

-- ---- the window
-- nothing lies behind it where nothing came
pub window_nothing : IsInWindow nothing
window_nothing = omega arith

-- nor does an octet of a segment that is kept
pub window_takes : (a : Arrived) (place : ℕ) (octets : List ℕ) → delivery a place (length octets) ≡ Kept → IsInWindow a → IsInWindow (taken_in a place octets)
window_takes a place octets kept near =
    elim (cases_lt 0 (length octets)) [
      | inl some ↦
          let e = ap (λ x. length x.cells) (taken_some a place octets some) in
          let wide = length-map-range_with_len (λ p. first_copy place octets p (cell_at a p)) a.floor (max (end_of a) (place + length octets) - a.floor) in
          elim (cases_lt (a.floor + window) (place + length octets)) [
            | inl far ↦ absurd (let t = dropped_far a place (length octets) some far in let f = not_dropped a place (length octets) kept in cc)
            | inr fits ↦ omega (arith, e, wide)
          ]
      | inr none ↦ omega (arith, ap (λ x. length x.cells) (taken_none a place octets (omega arith)))
    ]

-- the in-order point, where it moves on, adds no cell
pub window_moves : (a : Arrived) (to : ℕ) → IsInWindow a → IsInWindow (advanced a to)
unfolding advanced
window_moves a to near = omega (arith, length-drop (to - a.floor) a.cells)

-- ---- what came is what was sent
-- where nothing came
pub of_nothing : (octets : List ℕ) → IsOf nothing octets
of_nothing octets p x low e = absurd (let none = cell_at-nothing p in cc)

-- a segment of what was sent
pub of_takes : (a : Arrived) (place n : ℕ) (sent : List ℕ) → IsOf a sent → IsOf (taken_in a place (take n (drop place sent))) sent
of_takes a place n sent same p x low e =
    go (cell_at a p) (in_segment place (length part) p) refl refl (sym (cell_at-taken_in a place part p) ∙ e)
  where
    part : List ℕ
    part = take n (drop place sent)

    go : (c : Cell) (v : Bool) → cell_at a p ≡ c → in_segment place (length part) p ≡ v → first_copy place part p c ≡ Here x → slice_get sent p ≡ Some x
    go Missing true at h copied =
        let from : place ≤ p = grind (arith, nat_tests, h) in
        let before : p < place + length part = grind (arith, nat_tests, h) in
        let long : length part ≡ min n (length sent - place) = length-take n (drop place sent) ∙ ap (min n) (length-drop place sent) in
        let value : get_or part (p - place) 0 ≡ x =
        let t : first_copy place part p Missing ≡ Here (get_or part (p - place) 0) = ap (λ b. cond b (Here (get_or part (p - place) 0)) Missing) h in cc in
        slice_get-get_or sent p 0 (omega arith)
        ∙ ap Some (ap (λ k. get_or sent k 0) (let k : p ≡ place + (p - place) = omega arith in k)
        ∙ sym (get_or-drop place sent (p - place) 0) ∙ sym (get_or-take n (drop place sent) (p - place) 0 (omega arith)) ∙ value)
    go Missing false at h copied = absurd (let t : first_copy place part p Missing ≡ Missing = ap (λ b. cond b (Here (get_or part (p - place) 0)) Missing) h in cc)
    go (Here y) v at h copied = same p x (omega (arith, floor_takes a place part)) (at ∙ copied)
    go Gone v at h copied = absurd (let t : Gone ≡ Here x = copied in cc)

-- the in-order point, where it moves on, adds no octet
pub of_moves : (a : Arrived) (to : ℕ) (sent : List ℕ) → IsOf a sent → IsOf (advanced a to) sent
of_moves a to sent same p x low e =
    let from : max a.floor to ≤ p = omega (arith, floor_moves a to) in
    let t : nat_lt p to ≡ false = grind (arith, nat_tests) in
    same p x (omega arith) (sym (gives_up_before a to p ∙ ap (λ b. cond b Gone (cell_at a p)) t) ∙ e)

-- what came of octets came of them and any more behind
pub of_more : (a : Arrived) (sent more : List ℕ) → IsOf a sent → IsOf a (sent ++ more)
of_more a sent more same p x low e =
    let there : slice_get sent p ≡ Some x = same p x low e in
    let within : p < length sent = slice_get_within sent p x there in
    slice_get-get_or (sent ++ more) p 0 (omega (arith, length-append sent more)) ∙ ap Some (get_or_append_left sent more 0 p within ∙ get_or_from_slice_get sent p x 0 there)

-- from the beginning of the stream on, the octets in order are the first ones that were sent
pub of_prefix : (a : Arrived) (sent : List ℕ) → a.floor ≡ 0 → IsOf a sent → (rest : List ℕ) × (in_order a ++ rest ≡ sent)
of_prefix a sent start same = (drop (length (in_order a)) sent, sym (front_from_reads 0 sent (in_order a) (reach (length (in_order a)) refl) (λ i lt. get_or_from_slice_get sent i (get_or (in_order a) i 0) 0 (there i lt))))
  where
    there : (i : ℕ) → i < length (in_order a) → slice_get sent i ≡ Some (get_or (in_order a) i 0)
    there i lt =
        same i (get_or (in_order a) i 0) (omega arith)
        (octet_at a i (omega arith) (omega arith) ∙ ap (λ k. Here (get_or (in_order a) k 0)) (let e : i - a.floor ≡ i = omega arith in e))

    reach : (n : ℕ) → n ≡ length (in_order a) → length (in_order a) ≤ length sent
    reach zero e = omega arith
    reach (suc n) e = omega (arith, slice_get_within sent n (get_or (in_order a) n 0) (there n (omega arith)))

-- ---- a segment and the in-order point, in either order
moves-drawn : (floor end to : ℕ) (cell : ℕ → Cell) → floor ≤ to → to ≤ end → advanced (drawn floor end cell) to ≡ drawn to end cell
unfolding advanced
moves-drawn floor end to cell low high =
    ap (λ n. let a : Arrived = record { floor = n; cells = drop (to - floor) (drawn floor end cell).cells } in a) (let e : max floor to ≡ to = omega arith in e)
    ∙ ap (λ cells. let a : Arrived = record { floor = to; cells = cells } in a) (sym (cells_from cell floor end to low high))

end-moves : (a : Arrived) (to : ℕ) → a.floor ≤ to → to ≤ a.floor + length (in_order a) → end_of (advanced a to) ≡ end_of a
unfolding advanced
end-moves a to low high = omega (arith, short a, length-drop (to - a.floor) a.cells)

-- it makes no difference whether the in-order point moves on before a segment is taken in or after it
pub moves_takes : (a : Arrived) (place : ℕ) (octets : List ℕ) (to : ℕ) → a.floor ≤ to → to ≤ a.floor + length (in_order a) → advanced (taken_in a place octets) to ≡ taken_in (advanced a to) place octets
moves_takes a place octets to low high = elim (cases_lt 0 (length octets)) [
  | inl some ↦
      ap (λ x. advanced x to) (taken_some a place octets some)
      ∙ moves-drawn a.floor (max (end_of a) (place + length octets)) to (λ p. first_copy place octets p (cell_at a p)) low (omega (arith, short a))
      ∙ same_drawn to (max (end_of a) (place + length octets)) (max (end_of (advanced a to)) (place + length octets)) (λ p. first_copy place octets p (cell_at a p)) (λ p. first_copy place octets p (cell_at (advanced a to) p))
      (omega (arith, end-moves a to low high)) each
      ∙ ap (λ floor. drawn floor (max (end_of (advanced a to)) (place + length octets)) (λ p. first_copy place octets p (cell_at (advanced a to) p))) (let e : to ≡ (advanced a to).floor = omega (arith, floor_moves a to) in e)
      ∙ sym (taken_some (advanced a to) place octets some)
  | inr none ↦ ap (λ x. advanced x to) (taken_none a place octets (omega arith)) ∙ sym (taken_none (advanced a to) place octets (omega arith))
]
  where
    each : (p : ℕ) → to ≤ p → first_copy place octets p (cell_at a p) ≡ first_copy place octets p (cell_at (advanced a to) p)
    each p from =
        let t : nat_lt p to ≡ false = grind (arith, nat_tests) in
        ap (first_copy place octets p) (sym (gives_up_before a to p ∙ ap (λ b. cond b Gone (cell_at a p)) t))
