-- Spans: lists of places, written as from where to where.
use Rattle.std.specs.Prelude.{ℕ, ◌+◌, ◌-◌, not, length, slice_index, slice_index_or, ◌<◌, ◌≤◌, ◌≡◌, Bool, false, ◌&&◌, ◌||◌, nat_lt, nat_le, List, [], ◌∷◌, if◌then◌else◌, min, max}
use Rattle.iw_ranges.specs.declared.spans.Span.{Span}

abbrev pub in_span : ℕ → Span → Bool
in_span p s = nat_le s.from p && nat_lt p s.to

-- whether a place lies in one of these spans
abbrev pub in_spans : ℕ → List Span → Bool
in_spans p [] = false
in_spans p (s ∷ ss) = in_span p s || in_spans p ss

-- spans in order, none empty, a place between each and the next, the first past place m
abbrev pub IsApart : ℕ → List Span → Type 0
IsApart m [] = Unit {0}
IsApart m (s ∷ ss) = (m < s.from) × (s.from < s.to) × IsApart s.to ss

-- the first span begins at place 0, and the others are apart from it
abbrev pub IsFromStart : List Span → Type 0
IsFromStart [] = ⊥
IsFromStart (s ∷ ss) = (s.from ≡ 0) × IsApart s.to ss

-- where the first of them ends
abbrev pub first_end : List Span → ℕ
first_end [] = 0
first_end (s ∷ ss) = s.to

-- spans in order, of which the first may be empty
abbrev pub IsInOrder : List Span → Type 0
IsInOrder [] = Unit {0}
IsInOrder (s ∷ ss) = (s.from ≤ s.to) × IsApart s.to ss

-- spans in order, none of them empty
abbrev pub AreSpans : List Span → Type 0
AreSpans [] = Unit {0}
AreSpans (s ∷ ss) = (s.from < s.to) × IsApart s.to ss

-- each of these spans ends past place m
abbrev pub EndPast : ℕ → List Span → Type 0
EndPast m [] = Unit {0}
EndPast m (s ∷ ss) = (m < s.to) × EndPast m ss

-- the span at i is the first that ends at `from` or past it, or there is none and i is their number
pub record IsFirstReaching (ss : List Span) (from i : ℕ) : Type 0 where
  pub within : i ≤ length ss
  pub before : (k : ℕ) (d : Span) → k < i → (slice_index_or ss k d).to < from
  pub reaches : (d : Span) → i < length ss → from ≤ (slice_index_or ss i d).to

-- the span and those at the front that it touches, as one, and then the rest
unfoldable pub merge_span : ℕ → ℕ → List Span → List Span
merge_span from to [] = record { from = from; to = to } ∷ []
merge_span from to (s ∷ ss) =
    if nat_lt to s.from then record { from = from; to = to } ∷ (s ∷ ss) else merge_span (min from s.from) (max to s.to) ss

-- the spans and the places from `from` up to `to`, in as few spans as can be
unfoldable pub add_span : ℕ → ℕ → List Span → List Span
add_span from to [] = record { from = from; to = to } ∷ []
add_span from to (s ∷ ss) = if nat_lt s.to from then s ∷ add_span from to ss else merge_span from to (s ∷ ss)

-- the spans that reach past place `to`
unfoldable pub spans_past : ℕ → List Span → List Span
spans_past to [] = []
spans_past to (s ∷ ss) = if nat_le s.to to then spans_past to ss else s ∷ ss

-- what stands at index i of a buffer that begins at place `base`, once octets were written from place `from` on wherever no span is
unfoldable pub octet_after : ℕ → List Span → ℕ → List ℕ → List ℕ → ℕ → ℕ
octet_after base spans from octets buffer i =
    let place : ℕ = base + i in
    if nat_le from place && (nat_lt place (from + length octets) && not (in_spans place spans)) then slice_index octets (place - from) else slice_index buffer i

-- a buffer that begins at place `begin` has what another that begins at `base` has at the same places, from `begin` on up to place `end`
abbrev pub HasSameOctets : ℕ → List ℕ → ℕ → List ℕ → ℕ → Type 0
HasSameOctets base octets begin new end = (p : ℕ) → begin ≤ p → p < end → slice_index new (p - begin) ≡ slice_index octets (p - base)
