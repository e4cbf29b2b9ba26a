-- What is left of what came, where the octets of some places were given up, stays so whatever is called.
use Rattle.std.proofs.Common.{◌≡◌, ℕ, ◌+◌, ◌-◌, ◌<◌, Bool, true, false, not, ◌&&◌, ◌||◌, cond, List, [], ◌∷◌, ◌++◌, length, get_or, drop, max, refl, sym, ap, ◌∙◌, arith}
use Rattle.std.proofs.lemmas.List.{append-nil, get_or-drop}
use Rattle.std.specs.Prelude.{nat_lt, nat_le}
use Rattle.iw_ranges.specs.Arrived.{Cell, Missing, Here, Gone, Arrived, cell_at, is_missing, has_come, in_segment, first_copy, given_up, is_dropped, delivered, taken_in, advanced, released, held, in_order, max_islands, window, island_count}
use Rattle.iw_ranges.specs.InOrder.{is_gone, IsHeld}
use Rattle.iw_ranges.specs.Laws.{IsLeftOf}
use Rattle.iw_ranges.proofs.ByPlace.{beyond, cell_at-taken_in, come-first_copy, gives_up_places, stays_come, gives_up_before}
use Rattle.iw_ranges.proofs.InOrder.{floor_takes, floor_moves, octet_at, held_from, ends}

-- nothing was given up
pub all_left : (a : Arrived) → IsLeftOf a a
all_left a = record { floor = refl; cells = λ p held_. refl; come = λ p. refl }

-- ---- octets come
pub left_takes : (left came : Arrived) (place : ℕ) (octets : List ℕ) → IsLeftOf left came → IsLeftOf (taken_in left place octets) (taken_in came place octets)
left_takes left came place octets is = record {
  floor = floor_takes left place octets ∙ is.floor ∙ sym (floor_takes came place octets);
  cells = λ p kept.
      let old : cell_at left p ≡ cell_at came p = is.cells p (λ gone. kept (cell_at-taken_in left place octets p ∙ ap (first_copy place octets p) gone)) in
      cell_at-taken_in left place octets p ∙ ap (first_copy place octets p) old ∙ sym (cell_at-taken_in came place octets p);
  come = λ p. come_is left p ∙ ap (λ b. b || in_segment place (length octets) p) (is.come p) ∙ sym (come_is came p);
}
  where
    come_is : (a : Arrived) (p : ℕ) → has_come (taken_in a place octets) p ≡ (has_come a p || in_segment place (length octets) p)
    come_is a p = ap (λ c. not (is_missing c)) (cell_at-taken_in a place octets p) ∙ come-first_copy place octets p (cell_at a p) (in_segment place (length octets) p) refl

-- both drop the same segments
pub left_drops : (left came : Arrived) (place n : ℕ) → IsLeftOf left came → is_dropped left place n ≡ is_dropped came place n
unfolding is_dropped
left_drops left came place n is = λ i.
    nat_lt 0 n
    && (nat_lt (is.floor i + window) (place + n) || nat_lt max_islands (island_count (λ p. is.come p i || in_segment place n p) (is.floor i)))

pub left_delivers : (left came : Arrived) (place : ℕ) (octets : List ℕ) → IsLeftOf left came → IsLeftOf (delivered left place octets) (delivered came place octets)
left_delivers left came place octets is = go (is_dropped left place (length octets)) (is_dropped came place (length octets)) (left_drops left came place (length octets) is)
  where
    go : (b c : Bool) → b ≡ c → IsLeftOf (cond b left (taken_in left place octets)) (cond c came (taken_in came place octets))
    go true true e = is
    go true false e = absurd (cc e)
    go false true e = absurd (cc e)
    go false false e = left_takes left came place octets is

-- ---- the in-order point moves on
pub left_moves : (left came : Arrived) (to : ℕ) → IsLeftOf left came → IsLeftOf (advanced left to) (advanced came to)
left_moves left came to is = record {
  floor = floor_moves left to ∙ ap (λ f. max f to) is.floor ∙ sym (floor_moves came to);
  cells = λ p kept.
      gives_up_before left to p
      ∙ cut (nat_lt p to) (cell_at left p) (cell_at came p) (is.cells p) (λ gone. kept (gives_up_before left to p ∙ gone))
      ∙ sym (gives_up_before came to p);
  come = λ p.
      ap (λ c. not (is_missing c)) (gives_up_before left to p) ∙ cut_come (nat_lt p to) (cell_at left p) (cell_at came p) (is.come p)
      ∙ sym (ap (λ c. not (is_missing c)) (gives_up_before came to p));
}
  where
    cut : (b : Bool) (c d : Cell) → ((c ≡ Gone → ⊥) → c ≡ d) → (cond b Gone c ≡ Gone → ⊥) → cond b Gone c ≡ cond b Gone d
    cut true c d same kept = refl
    cut false c d same kept = same kept

    cut_come : (b : Bool) (c d : Cell) → not (is_missing c) ≡ not (is_missing d) → not (is_missing (cond b Gone c)) ≡ not (is_missing (cond b Gone d))
    cut_come true c d same = refl
    cut_come false c d same = same

-- ---- more octets are given up
pub left_gives_up : (left came : Arrived) (from to : ℕ) → IsLeftOf left came → IsLeftOf (released left from to) came
unfolding released
left_gives_up left came from to is = record {
  floor = is.floor;
  cells = λ p kept.
      gives_up_places left from to p ∙ spared from to p (cell_at left p) (cell_at came p) (is.cells p) (λ gone. kept (gives_up_places left from to p ∙ gone));
  come = λ p. stays_come left from to p ∙ is.come p;
}
  where
    spared : (from to p : ℕ) (c d : Cell) → ((c ≡ Gone → ⊥) → c ≡ d) → (given_up from to p c ≡ Gone → ⊥) → given_up from to p c ≡ d
    spared from to p Missing d same kept = same (λ e. absurd (cc e))
    spared from to p Gone d same kept = absurd (kept refl)
    spared from to p (Here x) d same kept = go (nat_le from p && nat_lt p to) kept
      where
        go : (b : Bool) → (cond b Gone (Here x) ≡ Gone → ⊥) → cond b Gone (Here x) ≡ d
        go true kept = absurd (kept refl)
        go false kept = same kept

-- ---- octets in order
stops : (cells : List Cell) → get_or cells 0 Missing ≡ Missing → held cells ≡ []
unfolding held
stops [] e = refl
stops (Missing ∷ cells) e = refl
stops (Here x ∷ cells) e = absurd (cc e)
stops (Gone ∷ cells) e = refl

not_come : (c : Cell) → not (is_missing c) ≡ false → c ≡ Missing
not_come Missing e = refl
not_come (Here x) e = absurd (cc e)
not_come Gone e = absurd (cc e)

-- where nothing past the in-order point was given up, the same octets stand in order
pub left_in_order : (left came : Arrived) → IsHeld left → IsLeftOf left came → in_order left ≡ in_order came
left_in_order left came kept is =
    sym (held_from (in_order left) came.cells each ∙ ap (λ xs. in_order left ++ xs) (stops (drop (length (in_order left)) came.cells) last) ∙ append-nil (in_order left))
  where
    cell : (i : ℕ) → get_or came.cells i Missing ≡ cell_at left (left.floor + i)
    cell i =
        ap (λ k. get_or came.cells k Missing) (let e : i ≡ left.floor + i - came.floor = omega (arith, is.floor) in e)
        ∙ sym (beyond came (left.floor + i) (omega (arith, is.floor)))
        ∙ sym (is.cells (left.floor + i) (λ gone. let e : true ≡ false = sym (ap is_gone gone) ∙ kept (left.floor + i) (omega arith) in cc e))

    each : (i : ℕ) → i < length (in_order left) → get_or came.cells i Missing ≡ Here (get_or (in_order left) i 0)
    each i lt =
        cell i ∙ octet_at left (left.floor + i) (omega arith) (omega arith) ∙ ap (λ k. Here (get_or (in_order left) k 0)) (let e : left.floor + i - left.floor ≡ i = omega arith in e)

    last : get_or (drop (length (in_order left)) came.cells) 0 Missing ≡ Missing
    last =
        get_or-drop (length (in_order left)) came.cells 0 Missing ∙ ap (λ k. get_or came.cells k Missing) (let e : length (in_order left) + 0 ≡ length (in_order left) = omega arith in e)
        ∙ cell (length (in_order left)) ∙ not_come (cell_at left (left.floor + length (in_order left))) (ends left kept)
