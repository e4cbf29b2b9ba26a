-- A frame among octets that came.
use Rattle.std.proofs.Common.{◌≡◌, ℕ, ◌+◌, ◌-◌, ◌<◌, ◌≤◌, Bool, true, false, not, List, map, length, get_or, refl, sym, ap, ◌∙◌, subst, arith}
use Rattle.std.proofs.lemmas.List.{get_or-map, length-map}
use Rattle.std.proofs.lemmas.List.FromFn.{get_or-map-range_with_len, length-map-range_with_len}
use Rattle.std.specs.Prelude.{MatchBool}
use Rattle.iw_ranges.specs.Arrived.{Arrived, Cell, Missing, Here, Gone, cell_at, is_missing, has_come, cells_between, IsHere, nothing, delivery, delivered}
use Rattle.iw_ranges.specs.declared.Delivery.{Delivery}
use Rattle.iw_ranges.specs.declared.Delivery.TheVariants.{Kept}
use Rattle.iw_ranges.proofs.ByPlace.{cell_at-nothing, kept_gone}
use Rattle.iw_fpdu.specs.Places.{span_start}
use Rattle.iw_fpdu.specs.Frame.{frame_end}
use Rattle.iw_fpdu.specs.PiecesOctet.{octet_from}
use Rattle.iw_fpdu.specs.Reading.{end_at}
use Rattle.iw_fpdu.specs.Found.{Found, octet_of, octet_in, is_whole, IsKept, HoldsSpan, IsRead}
use Rattle.iw_fpdu.specs.Laws.{TellsWhole}
use Rattle.iw_fpdu.proofs.Octets.{all_each, all_hold}

pub here_of : (c : Cell) → not (is_missing c) ≡ true → IsKept c → IsHere c
here_of Missing e h = cc
here_of (Here x) e h = tt
here_of Gone e h = h

-- the octets of a whole frame of which none was given up are held
pub here_in : (f : Found) (n : ℕ) → IsRead f n → HoldsSpan f → (p : ℕ) → f.base + span_start f.layout.markers f.start ≤ p → p < f.base + frame_end f.layout.markers f.start n
    → IsHere (cell_at f.arrived p)
here_in f n is held p low high =
    let place : f.base + (p - f.base) ≡ p = omega arith in
    let inside : p - f.base < end_at (octet_in f.arrived f.base) f.layout.markers f.start = omega (arith, ap (frame_end f.layout.markers f.start) is.len) in
    subst (λ q. IsHere (cell_at f.arrived q)) place
    (here_of (cell_at f.arrived (f.base + (p - f.base))) (is.whole (p - f.base) (omega arith) inside) (held (p - f.base) (omega arith) inside))

-- what is lent from one place to another is what stands there
pub length_part : (a : Arrived) (from to : ℕ) (octets : List ℕ) → map Here octets ≡ cells_between a from to → length octets ≡ to - from
length_part a from to octets same = sym (length-map octets Here) ∙ ap length same ∙ length-map-range_with_len (cell_at a) from (to - from)

pub part_agrees : (a : Arrived) (base from to : ℕ) (octets : List ℕ) → map Here octets ≡ cells_between a (base + from) (base + to) → (p : ℕ) → from ≤ p → p < to → octet_from from octets p ≡ octet_in a base p
part_agrees a base from to octets same p low high =
    let k : ℕ = p - from in
    let long = length_part a (base + from) (base + to) octets same in
    let inside : k < length octets = omega arith in
    sym
    (ap octet_of
    (ap (cell_at a) (let e : base + p ≡ base + from + k = omega arith in e)
    ∙ sym (get_or-map-range_with_len (cell_at a) (base + from) (base + to - (base + from)) k (base + from + k) Missing (omega arith) refl)
    ∙ ap (λ cs. get_or cs k Missing) (sym same) ∙ get_or-map Here octets k 0 Missing inside))

-- places of the stream, for places of the direction
pub came_from : (r : Bool) (a : Arrived) (base from to low high : ℕ) → low ≡ base + from → high ≡ base + to
    → MatchBool r ((p : ℕ) → low ≤ p → p < high → has_come a p ≡ true) ((p : ℕ) × (low ≤ p) × (p < high) × (has_come a p ≡ false))
    → MatchBool r ((p : ℕ) → from ≤ p → p < to → has_come a (base + p) ≡ true) ((p : ℕ) × (from ≤ p) × (p < to) × (has_come a (base + p) ≡ false))
came_from true a base from to low high e f h = λ p l u. h (base + p) (omega arith) (omega arith)
came_from false a base from to low high e f h = (h.0 - base, omega (arith, h.1), omega (arith, h.1, h.2), ap (has_come a) (let same : base + (h.0 - base) ≡ h.0 = omega (arith, h.1) in same) ∙ h.3)

pub octet_is : (a : Arrived) (base p q x : ℕ) → q ≡ base + p → cell_at a q ≡ Here x → octet_in a base p ≡ x
octet_is a base p q x e h = ap octet_of (ap (cell_at a) (sym e) ∙ h)

-- nothing that came was given up yet
not_gone : (cell : Cell) → (cell ≡ Gone → ⊥) → IsKept cell
not_gone Missing h = tt
not_gone (Here x) h = tt
not_gone Gone h = absurd (h refl)

pub first_kept : (old new : Arrived) (place : ℕ) (octets : List ℕ) (answer : Delivery) → old ≡ nothing → answer ≡ Kept → answer ≡ delivery old place (length octets) → new ≡ delivered old place octets
    → (p : ℕ) → IsKept (cell_at new p)
first_kept old new place octets answer empty kept is after p =
    not_gone (cell_at new p)
    (λ gone.
    let before : cell_at old p ≡ Gone = kept_gone old new place octets answer p kept is after gone in
    let none : cell_at old p ≡ Missing = ap (λ (a : Arrived). cell_at a p) empty ∙ cell_at-nothing p in
    absurd (cc (sym none ∙ before)))

pub tells_whole : TellsWhole
unfolding is_whole
tells_whole arrived markers base start =
    let from = span_start markers start in
    let n = end_at (octet_in arrived base) markers start - from in
    (λ h p low high. all_each (λ q. has_come arrived (base + q)) from n p h low (omega arith), λ whole. all_hold (λ q. has_come arrived (base + q)) from n (λ p low high. whole p low (omega arith)))
