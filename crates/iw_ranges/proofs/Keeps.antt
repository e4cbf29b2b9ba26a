-- What `add` leaves.
use Rattle.std.proofs.Common.{◌≡◌, ℕ, ◌+◌, ◌-◌, ◌<◌, ◌≤◌, Bool, true, false, ◌&&◌, ◌||◌, cond, ltb, leb, List, drop, length, get_or, max, refl, sym, ap, ◌∙◌, subst, arith, inl, inr}
use Rattle.std.proofs.lemmas.List.{get_or-drop}
use Rattle.std.proofs.lemmas.Bool.{cases_lt}
use Rattle.std.proofs.lemmas.Bool.Decides.{nat_tests}
use Rattle.std.specs.Prelude.{nat_lt}
use Rattle.iw_ranges.specs.Spans.{in_spans, IsFromStart, AreSpans, EndPast, first_end, add_span, octet_after}
use Rattle.iw_ranges.specs.declared.Delivery.TheVariants.{Kept, Dropped}
use Rattle.iw_ranges.specs.Arrived.{Cell, Missing, Here, Gone, Arrived, cell_at, in_segment, first_copy, taken_in, is_dropped, delivery, delivered, drawn, end_of, window, max_held}
use Rattle.iw_ranges.specs.Fields.{Fields, cell_of, arrived_in, IsSound}
use Rattle.iw_ranges.proofs.Reaches.{in_order_start}
use Rattle.iw_ranges.proofs.Adds.{in_add, add_from_start, add_first}
use Rattle.iw_ranges.proofs.Fills.{in_octets, in_the_spans}
use Rattle.iw_ranges.proofs.Cells.{cell_missing, cell_gone, cell_here, cell_is, first_covers, end_is, same_drawn}
use Rattle.iw_ranges.proofs.Counts.{AllCame, or_false, or_true, kept_put}

-- ---- octets that change nothing
pub taken_none : (a : Arrived) (place : ℕ) (octets : List ℕ) → length octets ≡ 0 → taken_in a place octets ≡ a
unfolding taken_in
taken_none a place octets none =
    let t : nat_lt 0 (length octets) ≡ false = grind (arith, nat_tests) in
    ap (λ b. cond b (drawn a.floor (max (end_of a) (place + length octets)) (λ p. first_copy place octets p (cell_at a p))) a) t

pub taken_some : (a : Arrived) (place : ℕ) (octets : List ℕ) → 0 < length octets
    → taken_in a place octets ≡ drawn a.floor (max (end_of a) (place + length octets)) (λ p. first_copy place octets p (cell_at a p))
unfolding taken_in
taken_some a place octets some =
    let t : nat_lt 0 (length octets) ≡ true = grind (arith, nat_tests) in
    ap (λ b. cond b (drawn a.floor (max (end_of a) (place + length octets)) (λ p. first_copy place octets p (cell_at a p))) a) t

came_stays : (f : Fields) (place : ℕ) (octets : List ℕ) (p : ℕ) → in_spans p f.spans ≡ true → first_copy place octets p (cell_of f p) ≡ cell_of f p
came_stays f place octets p h = go (in_spans p f.gone) refl
  where
    go : (g : Bool) → in_spans p f.gone ≡ g → first_copy place octets p (cell_of f p) ≡ cell_of f p
    go true g = ap (first_copy place octets p) (cell_gone f p h g) ∙ sym (cell_gone f p h g)
    go false g = ap (first_copy place octets p) (cell_here f p h g) ∙ sym (cell_here f p h g)

pub not_copied : (place p : ℕ) (octets : List ℕ) (c : Cell) → in_segment place (length octets) p ≡ false → first_copy place octets p c ≡ c
not_copied place p octets Missing h = ap (λ b. cond b (Here (get_or octets (p - place) 0)) Missing) h
not_copied place p octets (Here x) h = refl
not_copied place p octets Gone h = refl

-- all of them came before
pub taken_came : (f : Fields) → IsSound f → (place : ℕ) (octets : List ℕ) → 0 < length octets → AllCame f place (place + length octets) → taken_in (arrived_in f) place octets ≡ arrived_in f
taken_came f ok place octets some all =
    taken_some (arrived_in f) place octets some
    ∙ same_drawn f.floor (max (end_of (arrived_in f)) (place + length octets)) f.end (λ p. first_copy place octets p (cell_at (arrived_in f) p)) (cell_of f)
    (omega (arith, end_is f ok, ok.within (place + length octets - 1) (all (place + length octets - 1) (omega arith) (omega arith))))
    (λ p high. ap (first_copy place octets p) (cell_is f ok p high) ∙ same p (in_segment place (length octets) p) refl)
  where
    same : (p : ℕ) (v : Bool) → in_segment place (length octets) p ≡ v → first_copy place octets p (cell_of f p) ≡ cell_of f p
    same p true h =
        let low : place ≤ p = grind (arith, nat_tests) in
        let high : p < place + length octets = grind (arith, nat_tests) in
        came_stays f place octets p (all p low high)
    same p false h = not_copied place p octets (cell_of f p) h

-- ---- octets that are put in, from the first missing place on
pub record PutsIn (f after : Fields) (from to : ℕ) (octets : List ℕ) : Type 0 where
  pub base : after.base ≡ f.base
  pub floor : after.floor ≡ f.floor
  pub missing : after.missing ≡ first_end after.spans
  pub gone : after.gone ≡ f.gone
  pub spans : after.spans ≡ add_span from to f.spans
  pub end : to ≡ from + length octets
  pub last : after.end ≡ max f.end to
  pub len : length after.octets ≡ max (length f.octets) (to - f.base)
  pub written : (i : ℕ) → get_or after.octets i 0 ≡ octet_after f.base f.spans from octets f.octets i

in_after : (f after : Fields) → IsSound f → (from to : ℕ) (octets : List ℕ) → from < to → PutsIn f after from to octets → (p : ℕ) → in_spans p after.spans ≡ ((leb from p && ltb p to) || in_spans p f.spans)
in_after f after ok from to octets some puts p = ap (in_spans p) puts.spans ∙ in_add p from to f.spans (omega arith) (in_order_start f.spans ok.order)

pub sound_put : (f after : Fields) → IsSound f → (from to : ℕ) (octets : List ℕ) → from < to → to ≤ f.floor + window → to ≤ f.base + max_held → PutsIn f after from to octets
    → length (add_span from to f.spans) ≤ 1025 → IsSound after
sound_put f after ok from to octets some near room puts few = record {
  base = omega (arith, ok.base, puts.base, puts.floor);
  missing = puts.missing;
  order = subst IsFromStart (sym puts.spans) (add_from_start from to f.spans some ok.order);
  reached = omega (arith, ok.reached, puts.floor, add_first from to f.spans ok.order, ap first_end puts.spans);
  within = λ p t. inside p (sym (in_after f after ok from to octets some puts p) ∙ t);
  top = λ more. in_after f after ok from to octets some puts (after.end - 1) ∙ reached (omega (arith, more));
  windowed = omega (arith, ok.windowed, puts.floor, puts.last);
  stand = omega (arith, ok.stand, ok.base, ok.reached, puts.base, puts.last, puts.len);
  held = omega (arith, ok.held, room, puts.len);
  few = omega (arith, few, ap length puts.spans);
  low = omega (arith, ok.low, puts.floor);
  gone_order = subst AreSpans (sym puts.gone) ok.gone_order;
  gone_came = λ p t.
      in_after f after ok from to octets some puts p
      ∙ ap (λ v. (leb from p && ltb p to) || v) (ok.gone_came p (sym (ap (in_spans p) puts.gone) ∙ t)) ∙ or_true (leb from p && ltb p to);
  gone_past = subst (λ n. EndPast n after.gone) (sym puts.floor) (subst (EndPast f.floor) (sym puts.gone) ok.gone_past);
}
  where
    reached : 0 < after.end → ((leb from (after.end - 1) && ltb (after.end - 1) to) || in_spans (after.end - 1) f.spans) ≡ true
    reached more = elim (cases_lt f.end to) [
      | inl further ↦
          let here : (leb from (after.end - 1) && ltb (after.end - 1) to) ≡ true = grind (arith, nat_tests, puts.last, some, further) in
          ap (λ b. b || in_spans (after.end - 1) f.spans) here
      | inr before ↦
          let same : after.end ≡ f.end = omega (arith, puts.last, before) in
          ap (λ e. (leb from (after.end - 1) && ltb (after.end - 1) to) || in_spans (e - 1) f.spans) same
          ∙ ap (λ b. (leb from (after.end - 1) && ltb (after.end - 1) to) || b) (ok.top (omega (arith, more, same)))
          ∙ or_true (leb from (after.end - 1) && ltb (after.end - 1) to)
    ]

    inside : (p : ℕ) → ((leb from p && ltb p to) || in_spans p f.spans) ≡ true → p < after.end
    inside p t = go (in_spans p f.spans) refl
      where
        go : (v : Bool) → in_spans p f.spans ≡ v → p < after.end
        go true h = omega (arith, ok.within p h, puts.last)
        go false h =
            let u : (leb from p && ltb p to) ≡ true = sym (or_false (leb from p && ltb p to) (in_spans p f.spans) h) ∙ t in
            let high : p < to = grind (arith, nat_tests) in
            omega (arith, puts.last)

-- one cell, before and after
cell_put : (f after : Fields) → IsSound f → (place from : ℕ) (octets part : List ℕ) (p : ℕ) → f.floor ≤ p → first_end f.spans < place + length octets → 0 < length octets
    → from ≡ place + (first_end f.spans - place) → part ≡ drop (first_end f.spans - place) octets → PutsIn f after from (place + length octets) part
    → cell_of after p ≡ first_copy place octets p (cell_of f p)
cell_put f after ok place from octets part p low high some e cut puts = go (in_spans p f.spans) refl
  where
    place_is : f.base + (p - f.base) ≡ p
    place_is = omega (arith, ok.base)

    in_both : in_spans p after.spans ≡ ((leb from p && ltb p (place + length octets)) || in_spans p f.spans)
    in_both = in_after f after ok from (place + length octets) part (omega arith) puts p

    octet_is : get_or after.octets (p - after.base) 0 ≡ octet_after f.base f.spans from part f.octets (p - f.base)
    octet_is = ap (λ b. get_or after.octets (p - b) 0) puts.base ∙ puts.written (p - f.base)

    came : in_spans p f.spans ≡ true → (g : Bool) → in_spans p f.gone ≡ g → cell_of after p ≡ cell_of f p
    came h true g =
        let now : in_spans p after.spans ≡ true = in_both ∙ ap (λ b. (leb from p && ltb p (place + length octets)) || b) h ∙ or_true (leb from p && ltb p (place + length octets)) in
        cell_gone after p now (ap (in_spans p) puts.gone ∙ g) ∙ sym (cell_gone f p h g)
    came h false g =
        let now : in_spans p after.spans ≡ true = in_both ∙ ap (λ b. (leb from p && ltb p (place + length octets)) || b) h ∙ or_true (leb from p && ltb p (place + length octets)) in
        let held : in_spans (f.base + (p - f.base)) f.spans ≡ true = ap (λ q. in_spans q f.spans) place_is ∙ h in
        cell_here after p now (ap (in_spans p) puts.gone ∙ g) ∙ ap Here (octet_is ∙ in_the_spans f.base f.spans from part f.octets (p - f.base) held) ∙ sym (cell_here f p h g)

    none_gone : in_spans p f.spans ≡ false → (g : Bool) → in_spans p f.gone ≡ g → in_spans p f.gone ≡ false
    none_gone h true g = absurd (let t = ok.gone_came p g in cc)
    none_gone h false g = g

    fresh : in_spans p f.spans ≡ false → (v : Bool) → in_segment place (length octets) p ≡ v → cell_of after p ≡ first_copy place octets p Missing
    fresh h true t =
        let beyond : first_end f.spans ≤ p = elim (cases_lt p (first_end f.spans)) [ inl before ↦ absurd (let c = first_covers f.spans p ok.order before in cc) | inr beyond ↦ beyond ] in
        let low_end : from ≤ p = grind (arith, nat_tests) in
        let high_end : p < place + length octets = grind (arith, nat_tests) in
        let within : (leb from p && ltb p (place + length octets)) ≡ true = grind (arith, nat_tests) in
        let now : in_spans p after.spans ≡ true = in_both ∙ ap (λ b. b || in_spans p f.spans) within in
        let out : in_spans (f.base + (p - f.base)) f.spans ≡ false = ap (λ q. in_spans q f.spans) place_is ∙ h in
        cell_here after p now (ap (in_spans p) puts.gone ∙ none_gone h (in_spans p f.gone) refl)
        ∙ ap Here (octet_is ∙ in_octets f.base f.spans from part f.octets (p - f.base) (omega (arith, place_is)) (omega (arith, place_is, puts.end)) out
        ∙ ap (λ xs. get_or xs (f.base + (p - f.base) - from) 0) cut ∙ get_or-drop (first_end f.spans - place) octets (f.base + (p - f.base) - from) 0
        ∙ ap (λ n. get_or octets n 0) (omega (arith, place_is)))
        ∙ sym (ap (λ b. cond b (Here (get_or octets (p - place) 0)) Missing) t)
    fresh h false t =
        let outside : (leb from p && ltb p (place + length octets)) ≡ false = grind (arith, nat_tests) in
        let now : in_spans p after.spans ≡ false = in_both ∙ ap (λ b. b || in_spans p f.spans) outside ∙ h in
        cell_missing after p now ∙ sym (ap (λ b. cond b (Here (get_or octets (p - place) 0)) Missing) t)

    go : (v : Bool) → in_spans p f.spans ≡ v → cell_of after p ≡ first_copy place octets p (cell_of f p)
    go true h = came h (in_spans p f.gone) refl ∙ sym (came_stays f place octets p h)
    go false h = fresh h (in_segment place (length octets) p) refl ∙ sym (ap (first_copy place octets p) (cell_missing f p h))

pub taken_put : (f after : Fields) → IsSound f → (place from : ℕ) (octets part : List ℕ) → first_end f.spans < place + length octets → 0 < length octets
    → from ≡ place + (first_end f.spans - place) → part ≡ drop (first_end f.spans - place) octets → PutsIn f after from (place + length octets) part
    → arrived_in after ≡ taken_in (arrived_in f) place octets
taken_put f after ok place from octets part high some e cut puts =
    ap (λ n. drawn n after.end (cell_of after)) puts.floor
    ∙ same_drawn f.floor after.end (max (end_of (arrived_in f)) (place + length octets)) (cell_of after) (λ p. first_copy place octets p (cell_at (arrived_in f) p))
    (omega (arith, puts.last, end_is f ok))
    (λ p low. cell_put f after ok place from octets part p low high some e cut puts ∙ ap (first_copy place octets p) (sym (cell_is f ok p low)))
    ∙ sym (taken_some (arrived_in f) place octets some)

-- ---- what the answer says
pub kept_is : (a : Arrived) (place n : ℕ) → is_dropped a place n ≡ false → Kept ≡ delivery a place n
kept_is a place n h = sym (ap (λ b. cond b Dropped Kept) h)

pub dropped_is : (a : Arrived) (place n : ℕ) → is_dropped a place n ≡ true → Dropped ≡ delivery a place n
dropped_is a place n h = sym (ap (λ b. cond b Dropped Kept) h)

pub delivered_kept : (a : Arrived) (place : ℕ) (octets : List ℕ) → is_dropped a place (length octets) ≡ false → taken_in a place octets ≡ delivered a place octets
delivered_kept a place octets h = sym (ap (λ b. cond b a (taken_in a place octets)) h)

pub delivered_dropped : (a : Arrived) (place : ℕ) (octets : List ℕ) → is_dropped a place (length octets) ≡ true → a ≡ delivered a place octets
delivered_dropped a place octets h = sym (ap (λ b. cond b a (taken_in a place octets)) h)

-- once its new octets are put in, a segment that is kept is delivered
pub put_delivers : (f after : Fields) → IsSound f → (a : Arrived) → arrived_in f ≡ a → (place from : ℕ) (octets part : List ℕ) → first_end f.spans < place + length octets → 0 < length octets
    → from ≡ place + (first_end f.spans - place) → part ≡ drop (first_end f.spans - place) octets → place + length octets ≤ f.floor + window
    → length (add_span from (place + length octets) f.spans) ≤ 1025 → PutsIn f after from (place + length octets) part → arrived_in after ≡ delivered a place octets
put_delivers f after ok a e place from octets part high some is cut near few puts =
    taken_put f after ok place from octets part high some is cut puts
    ∙ delivered_kept (arrived_in f) place octets (kept_put f ok place (length octets) from is high near some few)
    ∙ ap (λ x. delivered x place octets) e

-- a segment is kept that is in the window and does not make one island too many
pub kept_after : (f : Fields) → IsSound f → (a : Arrived) → arrived_in f ≡ a → (place n from : ℕ) → from ≡ place + (first_end f.spans - place) → first_end f.spans < place + n
    → place + n ≤ f.floor + window → 0 < n → length (add_span from (place + n) f.spans) ≤ 1025 → is_dropped a place n ≡ false
kept_after f ok a e place n from is high near some few = subst (λ x. is_dropped x place n ≡ false) e (kept_put f ok place n from is high near some few)
