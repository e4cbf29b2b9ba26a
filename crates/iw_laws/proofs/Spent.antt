-- The spans of the frames that were placed: no two have a place in common, and each lies before the in-order point, or at it, or is that of a frame with a record.
use Rattle.std.proofs.Common.{◌≡◌, zero, suc, ◌≤◌, true, List, [], ◌∷◌, ◌++◌, Option, Some, None, Contains, refl, sym, ap, ◌∙◌, subst, arith, inl, inr}
use Rattle.std.specs.Prelude.{◌⊎◌}
use Rattle.std.proofs.lemmas.Bool.{cases_lt}
use Rattle.std.proofs.lemmas.List.Elements.{Contains-append_cases}
use Rattle.iw_fpdu.specs.Frame.{frame_end}
use Rattle.iw_fpdu.specs.Places.{span_start}
use Rattle.iw_locate.specs.Records.{from_of, IsPlaced, IsClear, IsClearOfPlaced}
use Rattle.iw_locate.specs.Free.{point_of}
use Rattle.iw_stream.specs.declared.landing.PlacedFrame.{PlacedFrame}
use Rattle.iw_stream.specs.Frames.{EarlyRecord}
use Rattle.iw_laws.specs.Once.{Span, IsApart, NoneOverlap}
use Rattle.iw_laws.proofs.Judged.{View}

one_of : (y z : Span) → Contains (y ∷ []) z → y ≡ z
one_of y z (zero, lt, is) = is
one_of y z (suc k, lt, is) = absurd (omega (arith, lt))

pub apart_push : (xs : List Span) (y : Span) → NoneOverlap xs → ((x : Span) → Contains xs x → IsApart x y) → NoneOverlap (xs ++ y ∷ [])
apart_push [] y h each = ((λ z (k, lt, is). absurd (omega (arith, lt))), tt)
apart_push (x ∷ xs) y h each = (
  λ z within. elim (Contains-append_cases xs (y ∷ []) z within) [
    | inl old ↦ h.0 z old
    | inr new ↦ subst (IsApart x) (one_of y z new) (each x (0, omega arith, refl))
  ],
  apart_push xs y h.1 (λ z (k, lt, is). each z (suc k, omega arith, is)),
)

-- the frame at the in-order point, where it was placed at its turn
abbrev pub IsOfFront : View → Option PlacedFrame → Span → Type 0
IsOfFront v None x = ⊥
IsOfFront v (Some f) x = (x.from ≡ point_of v) × (x.to ≡ frame_end v.layout.markers f.start f.len)

abbrev pub HasRecord : View → Span → Type 0
HasRecord v x = (r : EarlyRecord) × Contains v.records r × IsPlaced r.state × (x.from ≡ from_of r) × (x.to ≡ r.end)

abbrev pub IsSpent : View → Option PlacedFrame → Span → Type 0
IsSpent v front x = (x.to ≤ point_of v) ⊎ (IsOfFront v front x ⊎ HasRecord v x)

pub record Spent (v : View) (front : Option PlacedFrame) (spans : List Span) : Type 0 where
  pub apart : NoneOverlap spans
  pub each : (x : Span) → Contains spans x → IsSpent v front x

-- nothing was placed
pub none_spent : (v : View) (front : Option PlacedFrame) → Spent v front []
none_spent v front = record { apart = tt; each = λ x (k, lt, is). absurd (omega (arith, lt)) }

-- the in-order point stays, and so do the records, and there may be more
pub still_spent : (v w : View) (front : Option PlacedFrame) (spans : List Span) → point_of w ≡ point_of v → w.layout.markers ≡ v.layout.markers
    → ((r : EarlyRecord) → Contains v.records r → Contains w.records r) → Spent v front spans → Spent w front spans
still_spent v w front spans point marks more s = record { apart = s.apart; each = λ x within. go (s.each x within) }
  where
    of_front : (front : Option PlacedFrame) (x : Span) → IsOfFront v front x → IsOfFront w front x
    of_front None x h = h
    of_front (Some f) x h = (h.0 ∙ sym point, h.1 ∙ ap (λ m. frame_end m f.start f.len) (sym marks))

    go : {x : Span} → IsSpent v front x → IsSpent w front x
    go (inl done) = inl (omega (arith, done, point))
    go {x} (inr (inl at)) = inr (inl (of_front front x at))
    go (inr (inr (r, within, placed, from, to))) = inr (inr (r, more r within, placed, from, to))

-- the frame at the in-order point is placed at its turn, over which no frame lies that was placed before
pub front_spent : (v : View) (f : PlacedFrame) (spans : List Span) → span_start v.layout.markers f.start ≡ point_of v → ((r : EarlyRecord) → Contains v.records r → v.layout.markers ≡ true)
    → IsClearOfPlaced v.records f.start (frame_end v.layout.markers f.start f.len) → Spent v None spans
    → Spent v (Some f) (spans ++ record { from = point_of v; to = frame_end v.layout.markers f.start f.len } ∷ [])
front_spent v f spans span marked clear s = record {
  apart = apart_push spans new s.apart (λ x within. beside x (s.each x within));
  each = λ x within. elim (Contains-append_cases spans (new ∷ []) x within) [
    | inl old ↦ still x (s.each x old)
    | inr here ↦ subst (IsSpent v (Some f)) (one_of new x here) (inr (inl (refl, refl)))
  ];
}
  where
    new : Span
    new = record { from = point_of v; to = frame_end v.layout.markers f.start f.len }

    beside : (x : Span) → IsSpent v None x → IsApart x new
    beside x (inl done) = inl done
    beside x (inr (inl at)) = absurd at
    beside x (inr (inr (r, within, placed, from, to))) =
        elim (cases_lt (from_of r) new.to) [
          | inr past ↦ inr (omega (arith, past, from))
          | inl low ↦ elim (cases_lt (span_start true f.start) r.end) [
            | inl over ↦ absurd (clear r within placed (low, over))
            | inr before ↦ inl (omega (arith, before, to, span, ap (λ m. span_start m f.start) (marked r within)))
          ]
        ]

    still : (x : Span) → IsSpent v None x → IsSpent v (Some f) x
    still x (inl done) = inl done
    still x (inr (inl at)) = absurd at
    still x (inr (inr with_record)) = inr (inr with_record)

-- a frame is placed before its turn, which overlaps none with a record
pub early_spent : (v w : View) (r : EarlyRecord) (spans : List Span) → point_of w ≡ point_of v → w.layout.markers ≡ v.layout.markers
    → ((x : EarlyRecord) → Contains v.records x → Contains w.records x) → Contains w.records r → IsPlaced r.state → point_of v ≤ from_of r → IsClear v.records r.start r.end → Spent v None spans
    → Spent w None (spans ++ record { from = from_of r; to = r.end } ∷ [])
early_spent v w r spans point marks more here placed past clear s =
    let k : Spent w None spans = still_spent v w None spans point marks more s in
    record {
      apart = apart_push spans new s.apart (λ x within. beside x (s.each x within));
      each = λ x within. elim (Contains-append_cases spans (new ∷ []) x within) [
        | inl old ↦ k.each x old
        | inr same ↦ subst (IsSpent w None) (one_of new x same) (inr (inr (r, here, placed, refl, refl)))
      ];
    }
  where
    new : Span
    new = record { from = from_of r; to = r.end }

    beside : (x : Span) → IsSpent v None x → IsApart x new
    beside x (inl done) = inl (omega (arith, done, past))
    beside x (inr (inl at)) = absurd at
    beside x (inr (inr (y, within, y_placed, from, to))) =
        elim (cases_lt (from_of y) r.end) [
          | inr after ↦ inr (omega (arith, after, from))
          | inl low ↦ elim (cases_lt (from_of r) y.end) [
            | inl over ↦ absurd (clear y within (low, over))
            | inr before ↦ inl (omega (arith, before, to))
          ]
        ]

-- the in-order point moves to where the frame there ends, over which no placed frame reaches
pub turn_spent : (v w : View) (front : Option PlacedFrame) (spans : List Span) → point_of v ≤ point_of w → ((x : Span) → IsOfFront v front x → x.to ≤ point_of w)
    → ((r : EarlyRecord) → Contains v.records r → IsPlaced r.state → (r.end ≤ point_of w) ⊎ Contains w.records r) → Spent v front spans → Spent w None spans
turn_spent v w front spans on ends left s = record { apart = s.apart; each = λ x within. go x (s.each x within) }
  where
    go : (x : Span) → IsSpent v front x → IsSpent w None x
    go x (inl done) = inl (omega (arith, done, on))
    go x (inr (inl at)) = inl (ends x at)
    go x (inr (inr (r, within, placed, from, to))) = elim (left r within placed) [ inl before ↦ inl (omega (arith, before, to)) | inr kept ↦ inr (inr (r, kept, placed, from, to)) ]
