-- Octets that are read in place.
use Rattle.std.proofs.Common.{◌≡◌, ℕ, ◌+◌, ◌-◌, ◌<◌, ◌≤◌, Bool, true, false, cond, List, take, drop, length, get_or, ◌++◌, refl, sym, ap, ◌∙◌, arith, inl, inr}
use Rattle.std.proofs.lemmas.List.{get_or-drop, get_or-take, get_or_past, get_or_append_left, length-drop, length-take, length-take-le, length-append, append_assoc, take-append-le, drop-take}
use Rattle.std.proofs.lemmas.List.FromFn.{length-map-range_with_len}
use Rattle.std.proofs.Math.Seq.{drop-append_seam}
use Rattle.std.proofs.lemmas.Bool.{cases_lt}
use Rattle.std.proofs.lemmas.Bool.Decides.{nat_tests}
use Rattle.std.specs.Prelude.{nat_lt}
use Rattle.iw_ranges.specs.declared.spans.Span.{Span}
use Rattle.iw_ranges.specs.Spans.{in_spans, first_end, add_span, octet_after, HasSameOctets}
use Rattle.iw_ranges.specs.Arrived.{Here, Arrived, Held, window, max_idle, max_held, end_of, most_ahead, IsReadyFor}
use Rattle.iw_ranges.specs.Fields.{Fields, cell_of, arrived_in, IsSound}
use Rattle.iw_ranges.proofs.Cells.{cell_missing, cell_gone, cell_here, top_reaches, end_is, same_drawn}
use Rattle.iw_ranges.proofs.Fills.{in_octets, before_octets, past_octets, in_the_spans}
use Rattle.iw_ranges.proofs.Keeps.{PutsIn}
use Rattle.iw_ranges.proofs.Moves.{shorter}

-- ---- the buffer is another, and has the same octets as far as any came
pub same_kept : (f : Fields) → IsSound f → (octets : List ℕ) (base : ℕ) → HasSameOctets f.base f.octets base octets f.end → base ≤ f.floor → arrived_in (shorter f octets base) ≡ arrived_in f
same_kept f ok octets base same high =
    same_drawn f.floor f.end f.end (cell_of (shorter f octets base)) (cell_of f) refl (λ p low. go p low (in_spans p f.spans) (in_spans p f.gone) refl refl)
  where
    go : (p : ℕ) → f.floor ≤ p → (v g : Bool) → in_spans p f.spans ≡ v → in_spans p f.gone ≡ g → cell_of (shorter f octets base) p ≡ cell_of f p
    go p low false g h k = cell_missing (shorter f octets base) p h ∙ sym (cell_missing f p h)
    go p low true true h k = cell_gone (shorter f octets base) p h k ∙ sym (cell_gone f p h k)
    go p low true false h k = cell_here (shorter f octets base) p h k ∙ ap Here (same p (omega (arith, low, high)) (ok.within p h)) ∙ sym (cell_here f p h k)

pub sound_kept : (f : Fields) → IsSound f → (octets : List ℕ) (base : ℕ) → base ≤ f.floor → f.end ≤ base + length octets → length octets ≤ max_held → IsSound (shorter f octets base)
sound_kept f ok octets base high stand held = record {
  base = high;
  order = ok.order;
  missing = ok.missing;
  reached = ok.reached;
  within = ok.within;
  top = ok.top;
  windowed = ok.windowed;
  stand = stand;
  held = held;
  few = ok.few;
  low = ok.low;
  gone_order = ok.gone_order;
  gone_came = ok.gone_came;
  gone_past = ok.gone_past;
}

-- ---- how much can be asked for
pub reaches_floor : (f : Fields) → IsSound f → f.floor ≤ f.end
reaches_floor f ok = omega (arith, ok.reached, top_reaches f ok)

pub end_via : (f : Fields) → IsSound f → (a : Arrived) → arrived_in f ≡ a → end_of a ≡ f.end
end_via f ok a e = ap end_of (sym e) ∙ end_is f ok

cells_via : (f : Fields) (a : Arrived) → arrived_in f ≡ a → length a.cells ≡ f.end - f.floor
cells_via f a e = ap (λ (x : Arrived). length x.cells) (sym e) ∙ length-map-range_with_len (cell_of f) f.floor (f.end - f.floor)

pub most_held : (f : Fields) → IsSound f → (a : Arrived) → arrived_in f ≡ a → f.floor < f.end → most_ahead a ≡ f.floor + window - f.end
most_held f ok a e some =
    let n : length a.cells ≡ f.end - f.floor = cells_via f a e in
    let t : nat_lt 0 (length a.cells) ≡ true = grind (arith, nat_tests) in
    ap (λ b. cond b (window - length a.cells) max_idle) t ∙ omega (arith, n, ok.windowed, some)

pub most_none : (f : Fields) (a : Arrived) → arrived_in f ≡ a → f.end ≤ f.floor → most_ahead a ≡ max_idle
most_none f a e none =
    let n : length a.cells ≡ f.end - f.floor = cells_via f a e in
    let t : nat_lt 0 (length a.cells) ≡ false = grind (arith, nat_tests) in
    ap (λ b. cond b (window - length a.cells) max_idle) t

-- so many lie in the window
pub most_near : (f : Fields) → IsSound f → (a : Arrived) → arrived_in f ≡ a → (n : ℕ) → n ≤ most_ahead a → f.end + n ≤ f.floor + window
most_near f ok a e n few =
    elim (cases_lt f.floor f.end) [
      | inl some ↦ omega (arith, few, most_held f ok a e some, ok.windowed)
      | inr none ↦ omega (arith, few, most_none f a e none, none)
    ]

pub most_idle : (f : Fields) (a : Arrived) → arrived_in f ≡ a → (n : ℕ) → n ≤ most_ahead a → f.floor ≡ f.end → n ≤ max_idle
most_idle f a e n few idle = omega (arith, few, most_none f a e (omega (arith, idle)))

pub ready_for : (f : Fields) → IsSound f → (h : Held) → arrived_in f ≡ h.arrived → (n : ℕ) → f.end + n ≤ f.floor + window → n ≤ length h.ahead → IsReadyFor n h
ready_for f ok h e n near stand = record {
  near = omega (arith, near, end_via f ok h.arrived e, ap (λ (a : Arrived). a.floor) e);
  stand = stand;
}

-- where so many stand ahead, they stand from the place past the last that came on
pub stands_ahead : (f : Fields) (h : Held) → h.ahead ≡ drop (f.end - f.base) f.octets → (place n : ℕ) → place ≡ f.end → n ≤ length h.ahead → n ≤ length f.octets - (place - f.base)
stands_ahead f h is place n last few = omega (arith, few, ap length is, length-drop (f.end - f.base) f.octets, last)

pub octets_taken : (n : ℕ) (xs : List ℕ) → ((k : ℕ) → get_or xs k 0 < 256) → (k : ℕ) → get_or (take n xs) k 0 < 256
octets_taken n xs few k =
    elim (cases_lt k n) [
      | inl inside ↦ omega (arith, get_or-take n xs k 0 inside, few k)
      | inr past ↦ omega (arith, get_or_past (take n xs) k 0 (omega (arith, past, length-take n xs)))
    ]

-- ---- octets written from index i on
abbrev pub put_from : List ℕ → ℕ → List ℕ → List ℕ
put_from xs i ws = take i xs ++ (ws ++ drop (length ws) (drop i xs))

-- n octets of them
abbrev pub written_to : ℕ → List ℕ → ℕ → List ℕ → List ℕ
written_to n xs i ws = take n (put_from xs i ws ++ drop (length (put_from xs i ws)) xs)

abbrev pub written : List ℕ → ℕ → List ℕ → List ℕ
written xs i ws = written_to (length xs) xs i ws

pub written_front : (xs ws : List ℕ) (i j : ℕ) → i ≤ length xs → j < i → get_or (written xs i ws) j 0 ≡ get_or xs j 0
written_front xs ws i j within before =
    let cut : length (take i xs) ≡ i = length-take-le i xs within in
    get_or-take (length xs) (put_from xs i ws ++ drop (length (put_from xs i ws)) xs) j 0 (omega arith)
    ∙ get_or_append_left (put_from xs i ws) (drop (length (put_from xs i ws)) xs) 0 j (omega (arith, cut, length-append (take i xs) (ws ++ drop (length ws) (drop i xs))))
    ∙ get_or_append_left (take i xs) (ws ++ drop (length ws) (drop i xs)) 0 j (omega (arith, cut))
    ∙ get_or-take i xs j 0 before

pub written_ahead : (xs ws : List ℕ) (i : ℕ) → i ≤ length xs → drop i (written xs i ws) ≡ take (length (drop i xs)) (ws ++ drop (length ws) (drop i xs))
written_ahead xs ws i within =
    let rest = ws ++ drop (length ws) (drop i xs) in
    let back = drop (length (put_from xs i ws)) xs in
    let cut : length (take i xs) ≡ i = length-take-le i xs within in
    let m : length (drop i xs) ≡ length xs - i = length-drop i xs in
    let long : length rest ≡ length ws + (length (drop i xs) - length ws) = length-append ws (drop (length ws) (drop i xs)) ∙ ap (λ n. length ws + n) (length-drop (length ws) (drop i xs)) in
    ap (λ n. drop i (take n (put_from xs i ws ++ back))) (let e : length xs ≡ i + length (drop i xs) = omega (arith, m) in e)
    ∙ drop-take i (length (drop i xs)) (put_from xs i ws ++ back)
    ∙ ap (λ ys. take (length (drop i xs)) (drop i ys)) (append_assoc (take i xs) rest back)
    ∙ ap (λ n. take (length (drop i xs)) (drop n (take i xs ++ (rest ++ back)))) (sym cut)
    ∙ ap (take (length (drop i xs))) (drop-append_seam (take i xs) (rest ++ back))
    ∙ take-append-le (length (drop i xs)) rest back (omega (arith, long))

pub written_len : (xs ws : List ℕ) (i : ℕ) → length (written xs i ws) ≡ length xs
written_len xs ws i =
    let y = put_from xs i ws in
    length-take-le (length xs) (y ++ drop (length y) xs) (omega (arith, length-append y (drop (length y) xs), length-drop (length y) xs))

pub has_written : (f : Fields) → IsSound f → (ws : List ℕ) → HasSameOctets f.base f.octets f.base (written f.octets (f.end - f.base) ws) f.end
has_written f ok ws = λ p low high. written_front f.octets ws (f.end - f.base) (p - f.base) (omega (arith, ok.stand)) (omega (arith, low, high))

-- ---- what is shown of it
abbrev pub shown : Arrived → ℕ → ℕ → List ℕ → Held
shown a room memory ahead = record { arrived = a; room = room; memory = memory; ahead = ahead }

pub same_shown : (a b : Arrived) (room memory : ℕ) (xs ys : List ℕ) → a ≡ b → xs ≡ ys → shown a room memory xs ≡ shown b room memory ys
same_shown a b room memory xs ys e h = λ i. shown (e i) room memory (h i)

-- ---- what stands there is counted
-- octets written over themselves are as they were
pub stands : (base : ℕ) (ss : List Span) (from n : ℕ) (octets : List ℕ) (i : ℕ) → base ≤ from → n ≤ length octets - (from - base)
    → get_or octets i 0 ≡ octet_after base ss from (take n (drop (from - base) octets)) octets i
stands base ss from n octets i low enough =
    elim (cases_lt (base + i) from) [
      | inl before ↦ sym (before_octets base ss from part octets i before)
      | inr past ↦ elim (cases_lt (base + i) (from + length part)) [
        | inl inside ↦ go past inside (in_spans (base + i) ss) refl
        | inr beyond ↦ sym (past_octets base ss from part octets i beyond)
      ]
    ]
  where
    part : List ℕ
    part = take n (drop (from - base) octets)

    len : length part ≡ n
    len = length-take-le n (drop (from - base) octets) (omega (arith, enough, length-drop (from - base) octets))

    go : from ≤ base + i → base + i < from + length part → (v : Bool) → in_spans (base + i) ss ≡ v → get_or octets i 0 ≡ octet_after base ss from part octets i
    go past inside true h = sym (in_the_spans base ss from part octets i h)
    go past inside false h = sym (in_octets base ss from part octets i past inside h
        ∙ get_or-take n (drop (from - base) octets) (base + i - from) 0 (omega (arith, len, inside))
        ∙ get_or-drop (from - base) octets (base + i - from) 0
        ∙ ap (λ k. get_or octets k 0) (omega (arith, low, past)))

abbrev pub counted : Fields → List Span → ℕ → ℕ → Fields
counted f spans missing to = record { base = f.base; floor = f.floor; missing = missing; end = to; octets = f.octets; spans = spans; gone = f.gone }

abbrev pub part_of : Fields → ℕ → ℕ → List ℕ
part_of f place n = take n (drop (place - f.base) f.octets)

pub part_len : (f : Fields) (place n : ℕ) → n ≤ length f.octets - (place - f.base) → length (part_of f place n) ≡ n
part_len f place n enough = length-take-le n (drop (place - f.base) f.octets) (omega (arith, enough, length-drop (place - f.base) f.octets))

pub counts : (f : Fields) → IsSound f → (spans : List Span) (place n missing : ℕ) → place ≡ f.end → n ≤ length f.octets - (place - f.base)
    → spans ≡ add_span place (place + n) f.spans → missing ≡ first_end spans
    → PutsIn f (counted f spans missing (place + n)) place (place + length (part_of f place n)) (part_of f place n)
counts f ok spans place n missing last enough added first =
    let len : length (part_of f place n) ≡ n = part_len f place n enough in
    record {
      base = refl;
      floor = refl;
      missing = first;
      gone = refl;
      spans = added ∙ ap (λ m. add_span place (place + m) f.spans) (sym len);
      end = refl;
      last = omega (arith, last, len);
      len = omega (arith, len, enough, last, ok.stand);
      written = λ i. stands f.base f.spans place n f.octets i (omega (arith, ok.base, reaches_floor f ok, last)) enough;
    }
