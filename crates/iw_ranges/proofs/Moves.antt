-- What `advance` and `release` leave, and what is handed out.
use Rattle.std.proofs.Common.{◌≡◌, ℕ, ◌+◌, ◌-◌, ◌<◌, ◌≤◌, ◌^◌, zero, suc, Bool, true, false, ◌&&◌, ◌||◌, cond, ltb, leb, List, [], ◌∷◌, map, take, drop, length, get_or, max, refl, sym, ap, ◌∙◌, subst, arith, inl, inr}
use Rattle.std.proofs.lemmas.List.{get_or-drop, length-drop, drop-map, same_lists, length-map, length-take-le, get_or-map, get_or-take, append-nil}
use Rattle.std.proofs.lemmas.List.FromFn.{get_or-map-range_with_len, length-map-range_with_len}
use Rattle.std.proofs.lemmas.Bool.{cases_lt}
use Rattle.std.proofs.lemmas.Bool.Decides.{nat_tests}
use Rattle.std.specs.List.{range_with_len, concat}
use Rattle.std.specs.Prelude.{nat_lt, nat_le, All}
use Rattle.iw_ranges.specs.declared.spans.Span.{Span}
use Rattle.iw_ranges.specs.Spans.{in_span, in_spans, IsApart, IsFromStart, AreSpans, EndPast, first_end, add_span, spans_past, HasSameOctets}
use Rattle.iw_ranges.specs.Arrived.{Cell, Missing, Here, Gone, Arrived, cell_at, has_come, advanced, given_up, released, cells_between, drawn, end_of, IsHere}
use Rattle.iw_ranges.specs.Fields.{Fields, cell_of, arrived_in, IsSound}
use Rattle.iw_ranges.specs.Parts.{parts_of}
use Rattle.iw_ranges.proofs.Joins.{past_none, past_more, past_done}
use Rattle.iw_ranges.proofs.Adds.{in_add, add_spans, in_order_spans}
use Rattle.iw_ranges.proofs.Ends.{past_end, added_end}
use Rattle.iw_ranges.proofs.Cells.{cell_missing, cell_gone, cell_here, cell_is, come_via, come_reaches, top_reaches, end_is, same_drawn, holds}
use Rattle.iw_ranges.proofs.Counts.{or_false, or_true}

-- ---- spans that are forgotten
spans_apart : (m : ℕ) (ss : List Span) → IsApart m ss → AreSpans ss
spans_apart m [] apart = tt
spans_apart m (s ∷ ss) apart = (apart.1, apart.2)

pub past_spans : (to : ℕ) (ss : List Span) → AreSpans ss → AreSpans (spans_past to ss)
past_spans to [] order = subst AreSpans (sym (past_none to)) tt
past_spans to (s ∷ ss) order =
    elim (cases_lt to s.to) [
      | inl more ↦ subst AreSpans (sym (past_done to s ss more)) order
      | inr passed ↦ subst AreSpans (sym (past_more to s ss passed)) (past_spans to ss (spans_apart s.to ss order.1))
    ]

in_past : (to : ℕ) (ss : List Span) (p : ℕ) → to ≤ p → in_spans p (spans_past to ss) ≡ in_spans p ss
in_past to [] p low = ap (in_spans p) (past_none to)
in_past to (s ∷ ss) p low =
    elim (cases_lt to s.to) [
      | inl more ↦ ap (in_spans p) (past_done to s ss more)
      | inr passed ↦
          let out : in_span p s ≡ false = grind (arith, nat_tests) in
          ap (in_spans p) (past_more to s ss passed) ∙ in_past to ss p low ∙ sym (ap (λ b. b || in_spans p ss) out)
    ]

past_in : (to : ℕ) (ss : List Span) (p : ℕ) → in_spans p (spans_past to ss) ≡ true → in_spans p ss ≡ true
past_in to [] p t = absurd (let e = ap (in_spans p) (past_none to) in cc)
past_in to (s ∷ ss) p t =
    elim (cases_lt to s.to) [
      | inl more ↦ sym (ap (in_spans p) (past_done to s ss more)) ∙ t
      | inr passed ↦ either (in_span p s) (in_spans p ss) (past_in to ss p (sym (ap (in_spans p) (past_more to s ss passed)) ∙ t))
    ]
  where
    either : (x y : Bool) → y ≡ true → (x || y) ≡ true
    either true y h = refl
    either false y h = h

-- ---- the in-order point moves on
pub reaches : (f : Fields) → IsSound f → (a : Arrived) → arrived_in f ≡ a → (to : ℕ) → ((p : ℕ) → p < to → has_come a p ≡ true) → to ≤ first_end f.spans
reaches f ok a e to come = come_reaches f.spans to ok.order (λ p lt. sym (come_via f ok a e p) ∙ come p lt)

drop_range : (a n k b m : ℕ) → b ≡ a + k → n ≡ k + m → drop k (range_with_len a n) ≡ range_with_len b m
drop_range a n zero b m e f = ap (range_with_len a) (omega arith) ∙ ap (λ x. range_with_len x m) (omega arith)
drop_range a zero (suc k) b m e f = absurd (omega arith)
drop_range a (suc n) (suc k) b m e f = drop_range (a + 1) n k b m (omega arith) (omega arith)

pub cells_from : (f : ℕ → Cell) (floor top to : ℕ) → floor ≤ to → to ≤ top → map f (range_with_len to (top - to)) ≡ drop (to - floor) (map f (range_with_len floor (top - floor)))
cells_from f floor top to low high =
    ap (map f) (sym (drop_range floor (top - floor) (to - floor) to (top - to) (omega arith) (omega arith))) ∙ sym (drop-map f (to - floor) (range_with_len floor (top - floor)))

-- what was given up from place `to` on stays so, and no more is
pub record KeepsGone (to : ℕ) (old new : List Span) : Type 0 where
  pub order : AreSpans new
  pub came : (p : ℕ) → in_spans p new ≡ true → in_spans p old ≡ true
  pub beyond : (p : ℕ) → to ≤ p → in_spans p new ≡ in_spans p old
  pub past : EndPast to new

pub forgot : (to : ℕ) (old new : List Span) → AreSpans old → new ≡ spans_past to old → KeepsGone to old new
forgot to old new order is = record {
  order = subst AreSpans (sym is) (past_spans to old order);
  came = λ p t. past_in to old p (sym (ap (in_spans p) is) ∙ t);
  beyond = λ p low. ap (in_spans p) is ∙ in_past to old p low;
  past = subst (EndPast to) (sym is) (past_end to old order);
}

pub untouched : (to : ℕ) (old : List Span) → AreSpans old → EndPast to old → KeepsGone to old old
untouched to old order past = record {
  order = order;
  came = λ p t. t;
  beyond = λ p low. refl;
  past = past;
}

-- the in-order point and, where octets before it were let go, the buffer
pub record MovesTo (f after : Fields) (to : ℕ) : Type 0 where
  pub floor : after.floor ≡ to
  pub missing : after.missing ≡ f.missing
  pub spans : after.spans ≡ f.spans
  pub gone : KeepsGone to f.gone after.gone
  pub end : after.end ≡ f.end
  pub octets : HasSameOctets f.base f.octets after.base after.octets f.end
  pub stand : f.end ≤ after.base + length after.octets
  pub len : length after.octets ≤ length f.octets
  pub low : f.base ≤ after.base
  pub high : after.base ≤ to

pub sound_moved : (f after : Fields) → IsSound f → (to : ℕ) → f.floor ≤ to → to ≤ first_end f.spans → to ≤ 2 ^ 63 → MovesTo f after to → IsSound after
sound_moved f after ok to low high small moves = record {
  base = omega (arith, moves.floor, moves.high);
  missing = moves.missing ∙ ok.missing ∙ sym (ap first_end moves.spans);
  order = subst IsFromStart (sym moves.spans) ok.order;
  reached = omega (arith, moves.floor, ap first_end moves.spans);
  within = λ p t. omega (arith, moves.end, ok.within p (sym (ap (in_spans p) moves.spans) ∙ t));
  top = λ more. ap (λ e. in_spans (e - 1) after.spans) moves.end ∙ ap (in_spans (f.end - 1)) moves.spans ∙ ok.top (omega (arith, more, moves.end));
  windowed = omega (arith, moves.end, ok.windowed, moves.floor);
  stand = omega (arith, moves.end, moves.stand);
  held = omega (arith, ok.held, moves.len);
  few = omega (arith, ok.few, ap length moves.spans);
  low = omega (arith, moves.floor);
  gone_order = moves.gone.order;
  gone_came = λ p t. ap (in_spans p) moves.spans ∙ ok.gone_came p (moves.gone.came p t);
  gone_past = subst (λ n. EndPast n after.gone) (sym moves.floor) moves.gone.past;
}

cell_moved : (f after : Fields) → IsSound f → (to p : ℕ) → MovesTo f after to → to ≤ p → cell_of after p ≡ cell_of f p
cell_moved f after ok to p moves low = go (in_spans p f.spans) (in_spans p f.gone) refl refl
  where
    spans_is : in_spans p after.spans ≡ in_spans p f.spans
    spans_is = ap (in_spans p) moves.spans

    gone_is : in_spans p after.gone ≡ in_spans p f.gone
    gone_is = moves.gone.beyond p low

    go : (v g : Bool) → in_spans p f.spans ≡ v → in_spans p f.gone ≡ g → cell_of after p ≡ cell_of f p
    go false g h k = cell_missing after p (spans_is ∙ h) ∙ sym (cell_missing f p h)
    go true true h k = cell_gone after p (spans_is ∙ h) (gone_is ∙ k) ∙ sym (cell_gone f p h k)
    go true false h k =
        cell_here after p (spans_is ∙ h) (gone_is ∙ k)
        ∙ ap Here (moves.octets p (omega (arith, moves.high)) (ok.within p h))
        ∙ sym (cell_here f p h k)

pub advanced_to : (f after : Fields) → IsSound f → (to : ℕ) → f.floor ≤ to → to ≤ first_end f.spans → MovesTo f after to → arrived_in after ≡ advanced (arrived_in f) to
unfolding advanced
advanced_to f after ok to low high moves =
    ap (λ n. drawn n after.end (cell_of after)) moves.floor
    ∙ same_drawn to after.end f.end (cell_of after) (cell_of f) moves.end (λ p beyond. cell_moved f after ok to p moves beyond)
    ∙ ap (λ cells. let a : Arrived = record { floor = to; cells = cells } in a) (cells_from (cell_of f) f.floor f.end to low (omega (arith, top_reaches f ok)))
    ∙ ap (λ n. let a : Arrived = record { floor = n; cells = drop (to - f.floor) (arrived_in f).cells } in a) (omega arith)

pub advanced_back : (a : Arrived) (to : ℕ) → to ≤ a.floor → advanced a to ≡ a
unfolding advanced
advanced_back a to back =
    ap (λ n. let b : Arrived = record { floor = max a.floor to; cells = drop n a.cells } in b) (let e : to - a.floor ≡ 0 = omega arith in e)
    ∙ ap (λ n. let b : Arrived = record { floor = n; cells = a.cells } in b) (omega arith)

-- ---- octets before the in-order point are let go
abbrev pub shorter : Fields → List ℕ → ℕ → Fields
shorter f octets base = record { base = base; floor = f.floor; missing = f.missing; end = f.end; octets = octets; spans = f.spans; gone = f.gone }

-- the buffer begins at `base` from now on, and holds what it held from there on
pub record Shortens (f : Fields) (cut : List ℕ) (base : ℕ) : Type 0 where
  pub octets : HasSameOctets f.base f.octets base cut f.end
  pub len : length cut ≡ length f.octets
  pub low : f.base ≤ base
  pub high : base ≤ f.floor

shorter_moves : (f : Fields) → IsSound f → (octets : List ℕ) (base : ℕ) → Shortens f octets base → MovesTo f (shorter f octets base) f.floor
shorter_moves f ok octets base cut = record {
  floor = refl;
  missing = refl;
  end = refl;
  spans = refl;
  gone = untouched f.floor f.gone ok.gone_order ok.gone_past;
  octets = cut.octets;
  stand = omega (arith, ok.stand, cut.len, cut.low);
  len = omega (arith, cut.len);
  low = cut.low;
  high = cut.high;
}

pub shorter_sound : (f : Fields) → IsSound f → (octets : List ℕ) (base : ℕ) → Shortens f octets base → IsSound (shorter f octets base)
shorter_sound f ok octets base cut = sound_moved f (shorter f octets base) ok f.floor (omega arith) ok.reached ok.low (shorter_moves f ok octets base cut)

-- and nothing changed
pub shorter_same : (f : Fields) → IsSound f → (octets : List ℕ) (base : ℕ) → Shortens f octets base → arrived_in (shorter f octets base) ≡ arrived_in f
shorter_same f ok octets base cut =
    advanced_to f (shorter f octets base) ok f.floor (omega arith) ok.reached (shorter_moves f ok octets base cut)
    ∙ advanced_back (arrived_in f) f.floor (omega arith)

-- fields that are the same are as sound
pub sound_same : (f : Fields) (octets : List ℕ) (spans : List Span) → octets ≡ f.octets → spans ≡ f.spans → IsSound f
    → IsSound (record { base = f.base; floor = f.floor; missing = f.missing; end = f.end; octets = octets; spans = spans; gone = f.gone })
sound_same f octets spans e h ok = rw (e, h) ok

-- ---- octets are given up
pub record GivesUp (f after : Fields) (from to : ℕ) : Type 0 where
  pub base : after.base ≡ f.base
  pub floor : after.floor ≡ f.floor
  pub missing : after.missing ≡ f.missing
  pub end : after.end ≡ f.end
  pub octets : after.octets ≡ f.octets
  pub spans : after.spans ≡ f.spans
  pub gone : after.gone ≡ add_span from to f.gone

in_given : (f after : Fields) → IsSound f → (from to p : ℕ) → from < to → GivesUp f after from to → in_spans p after.gone ≡ ((leb from p && ltb p to) || in_spans p f.gone)
in_given f after ok from to p some gives = ap (in_spans p) gives.gone ∙ in_add p from to f.gone (omega arith) (in_order_spans f.gone ok.gone_order)

pub sound_release : (f after : Fields) → IsSound f → (from to : ℕ) → f.floor ≤ from → from < to → ((p : ℕ) → from ≤ p → p < to → in_spans p f.spans ≡ true) → GivesUp f after from to → IsSound after
sound_release f after ok from to high some came gives = record {
  base = omega (arith, ok.base, gives.base, gives.floor);
  missing = gives.missing ∙ ok.missing ∙ sym (ap first_end gives.spans);
  order = subst IsFromStart (sym gives.spans) ok.order;
  reached = omega (arith, ok.reached, gives.floor, ap first_end gives.spans);
  within = λ p t. omega (arith, gives.end, ok.within p (sym (ap (in_spans p) gives.spans) ∙ t));
  top = λ more. ap (λ e. in_spans (e - 1) after.spans) gives.end ∙ ap (in_spans (f.end - 1)) gives.spans ∙ ok.top (omega (arith, more, gives.end));
  windowed = omega (arith, ok.windowed, gives.floor, gives.end);
  stand = omega (arith, ok.stand, gives.base, gives.end, ap length gives.octets);
  held = omega (arith, ok.held, ap length gives.octets);
  few = omega (arith, ok.few, ap length gives.spans);
  low = omega (arith, ok.low, gives.floor);
  gone_order = subst AreSpans (sym gives.gone) (add_spans from to f.gone some ok.gone_order);
  gone_came = λ p t. ap (in_spans p) gives.spans ∙ go p (in_spans p f.gone) refl (sym (in_given f after ok from to p some gives) ∙ t);
  gone_past = subst (λ n. EndPast n after.gone) (sym gives.floor) (subst (EndPast f.floor) (sym gives.gone) (added_end f.floor from to f.gone (omega (arith, high, some)) ok.gone_past));
}
  where
    go : (p : ℕ) (v : Bool) → in_spans p f.gone ≡ v → ((leb from p && ltb p to) || in_spans p f.gone) ≡ true → in_spans p f.spans ≡ true
    go p true h t = ok.gone_came p h
    go p false h t =
        let u : (leb from p && ltb p to) ≡ true = sym (or_false (leb from p && ltb p to) (in_spans p f.gone) h) ∙ t in
        let low : from ≤ p = grind (arith, nat_tests, u) in
        let high : p < to = grind (arith, nat_tests, u) in
        came p low high

cell_given : (f after : Fields) → IsSound f → (asked from to p : ℕ) → from ≡ max asked f.floor → from < to → f.floor ≤ p → GivesUp f after from to
    → cell_of after p ≡ given_up asked to p (cell_of f p)
cell_given f after ok asked from to p e some low gives = go (in_spans p f.spans) (in_spans p f.gone) (nat_le asked p && nat_lt p to) refl refl refl
  where
    gone_is : in_spans p after.gone ≡ ((leb from p && ltb p to) || in_spans p f.gone)
    gone_is = in_given f after ok from to p some gives

    asked_is : (leb from p && ltb p to) ≡ (nat_le asked p && nat_lt p to)
    asked_is = ap (λ b. b && ltb p to) (let same : leb from p ≡ leb asked p = grind (arith, nat_tests) in same)

    spans_is : in_spans p after.spans ≡ in_spans p f.spans
    spans_is = ap (in_spans p) gives.spans

    octet_is : get_or after.octets (p - after.base) 0 ≡ get_or f.octets (p - f.base) 0
    octet_is = ap (λ b. get_or after.octets (p - b) 0) gives.base ∙ ap (λ xs. get_or xs (p - f.base) 0) gives.octets

    go : (v g r : Bool) → in_spans p f.spans ≡ v → in_spans p f.gone ≡ g → (nat_le asked p && nat_lt p to) ≡ r → cell_of after p ≡ given_up asked to p (cell_of f p)
    go false g r h k t = cell_missing after p (spans_is ∙ h) ∙ sym (ap (given_up asked to p) (cell_missing f p h))
    go true true r h k t =
        cell_gone after p (spans_is ∙ h) (gone_is ∙ ap (λ b. (leb from p && ltb p to) || b) k ∙ or_true (leb from p && ltb p to)) ∙ sym (ap (given_up asked to p) (cell_gone f p h k))
    go true false true h k t =
        cell_gone after p (spans_is ∙ h) (gone_is ∙ ap (λ b. b || in_spans p f.gone) (asked_is ∙ t))
        ∙ sym (ap (given_up asked to p) (cell_here f p h k) ∙ ap (λ b. cond b Gone (Here (get_or f.octets (p - f.base) 0))) t)
    go true false false h k t =
        cell_here after p (spans_is ∙ h) (gone_is ∙ ap (λ b. b || in_spans p f.gone) (asked_is ∙ t) ∙ k) ∙ ap Here octet_is
        ∙ sym (ap (given_up asked to p) (cell_here f p h k) ∙ ap (λ b. cond b Gone (Here (get_or f.octets (p - f.base) 0))) t)

-- what is asked for begins at `asked`, and what lies before the in-order point is given up already
pub released_from : (f after : Fields) → IsSound f → (asked from to : ℕ) → from ≡ max asked f.floor → from < to → GivesUp f after from to
    → arrived_in after ≡ released (arrived_in f) asked to
unfolding released
released_from f after ok asked from to e some gives =
    ap (λ n. drawn n after.end (cell_of after)) gives.floor
    ∙ same_drawn f.floor after.end (end_of (arrived_in f)) (cell_of after) (λ p. given_up asked to p (cell_at (arrived_in f) p))
    (omega (arith, gives.end, end_is f ok))
    (λ p low. cell_given f after ok asked from to p e some low gives ∙ ap (given_up asked to p) (sym (cell_is f ok p low)))

nothing_given : (from to p : ℕ) (c : Cell) → (nat_le from p && nat_lt p to) ≡ false → given_up from to p c ≡ c
nothing_given from to p Missing h = refl
nothing_given from to p (Here x) h = ap (λ b. cond b Gone (Here x)) h
nothing_given from to p Gone h = refl

pub released_none : (f : Fields) → IsSound f → (asked to : ℕ) → to ≤ max asked f.floor → arrived_in f ≡ released (arrived_in f) asked to
unfolding released
released_none f ok asked to none =
    same_drawn f.floor f.end (end_of (arrived_in f)) (cell_of f) (λ p. given_up asked to p (cell_at (arrived_in f) p))
    (omega (arith, end_is f ok))
    (λ p low. sym (nothing_given asked to p (cell_at (arrived_in f) p) (let out : (nat_le asked p && nat_lt p to) ≡ false = grind (arith, nat_tests) in out) ∙ cell_is f ok p low))

-- ---- octets are handed out
pub here_part : (f : Fields) → IsSound f → (a : Arrived) → arrived_in f ≡ a → (part : List ℕ) (from to : ℕ) → from < to → to ≤ f.base + length f.octets
    → ((p : ℕ) → from ≤ p → p < to → IsHere (cell_at a p)) → part ≡ take (to - from) (drop (from - f.base) f.octets) → map Here part ≡ cells_between a from to
here_part f ok a e part from to some end here cut =
    same_lists (map Here part) (cells_between a from to) (omega (arith, length-map part Here, long, length-map-range_with_len (cell_at a) from (to - from))) each
  where
    low : f.base ≤ from
    low = omega (arith, ok.base, (holds f ok a e from (here from (omega arith) some)).low)

    long : length part ≡ to - from
    long = ap length cut ∙ length-take-le (to - from) (drop (from - f.base) f.octets) (omega (arith, length-drop (from - f.base) f.octets, low))

    each : (k : ℕ) (d : Cell) → k < length (map Here part) → get_or (map Here part) k d ≡ get_or (cells_between a from to) k d
    each k d lt =
        let inside : k < to - from = omega (arith, lt, length-map part Here, long) in
        get_or-map Here part k 0 d (omega (arith, long))
        ∙ ap Here (ap (λ ys. get_or ys k 0) cut ∙ get_or-take (to - from) (drop (from - f.base) f.octets) k 0 inside ∙ get_or-drop (from - f.base) f.octets k 0 ∙ ap (λ n. get_or f.octets n 0) (omega (arith, low)))
        ∙ sym (holds f ok a e (from + k) (here (from + k) (omega arith) (omega arith))).octet
        ∙ sym (get_or-map-range_with_len (cell_at a) from (to - from) k (from + k) d inside refl)

pub none_between : (a : Arrived) (from to : ℕ) → to ≤ from → cells_between a from to ≡ []
none_between a from to none = ap (λ n. map (cell_at a) (range_with_len from n)) (let e : to - from ≡ 0 = omega arith in e)

pub concat_parts : (xs : List ℕ) → concat (parts_of xs) ≡ xs
concat_parts [] = refl
concat_parts (x ∷ xs) = append-nil (x ∷ xs)

pub parts_filled : (xs : List ℕ) → All (λ part. 0 < length part) (parts_of xs)
parts_filled [] k d lt = absurd (omega arith)
parts_filled (x ∷ xs) zero d lt = omega arith
parts_filled (x ∷ xs) (suc k) d lt = absurd (omega arith)
