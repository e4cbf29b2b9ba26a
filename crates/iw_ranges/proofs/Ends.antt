-- Where spans end.
use Rattle.std.proofs.Common.{ℕ, ◌<◌, ◌≤◌, List, [], ◌∷◌, min, max, sym, subst, arith, inl, inr}
use Rattle.std.proofs.lemmas.Bool.{cases_lt}
use Rattle.iw_ranges.specs.declared.spans.Span.{Span}
use Rattle.iw_ranges.specs.Spans.{IsApart, AreSpans, EndPast, add_span, merge_span, spans_past}
use Rattle.iw_ranges.proofs.Joins.{skip_one, merge_here, add_at_end, merge_one, merge_done, merge_at_end, past_none, past_more, past_done}

apart_end : (m n : ℕ) (ss : List Span) → m ≤ n → IsApart n ss → EndPast m ss
apart_end m n [] le apart = tt
apart_end m n (s ∷ ss) le apart = (omega (arith, apart.0, apart.1), apart_end m s.to ss (omega (arith, apart.0, apart.1)) apart.2)

apart_spans : (m : ℕ) (ss : List Span) → IsApart m ss → AreSpans ss
apart_spans m [] apart = tt
apart_spans m (s ∷ ss) apart = (apart.1, apart.2)

-- once those that end at `to` or before it are forgotten
pub past_end : (to : ℕ) (ss : List Span) → AreSpans ss → EndPast to (spans_past to ss)
past_end to [] order = subst (EndPast to) (sym (past_none to)) tt
past_end to (s ∷ ss) order =
    elim (cases_lt to s.to) [
      | inl more ↦ subst (EndPast to) (sym (past_done to s ss more)) (more, apart_end to s.to ss (omega arith) order.1)
      | inr passed ↦ subst (EndPast to) (sym (past_more to s ss passed)) (past_end to ss (apart_spans s.to ss order.1))
    ]

merged_end : (m from to : ℕ) (ss : List Span) → m < to → EndPast m ss → EndPast m (merge_span from to ss)
merged_end m from to [] lt past = subst (EndPast m) (sym (merge_at_end from to)) (lt, tt)
merged_end m from to (s ∷ ss) lt past =
    elim (cases_lt to s.from) [
      | inl before ↦ subst (EndPast m) (sym (merge_done from to s ss before)) (lt, past)
      | inr touches ↦ subst (EndPast m) (sym (merge_one from to s ss touches)) (merged_end m (min from s.from) (max to s.to) ss (omega arith) past.1)
    ]

-- once places up to `to` are added
pub added_end : (m from to : ℕ) (ss : List Span) → m < to → EndPast m ss → EndPast m (add_span from to ss)
added_end m from to [] lt past = subst (EndPast m) (sym (add_at_end from to)) (merged_end m from to [] lt tt)
added_end m from to (s ∷ ss) lt past =
    elim (cases_lt s.to from) [
      | inl before ↦ subst (EndPast m) (sym (skip_one from to s ss before)) (past.0, added_end m from to ss lt past.1)
      | inr reaches ↦ subst (EndPast m) (sym (merge_here from to s ss reaches)) (merged_end m from to (s ∷ ss) lt past)
    ]
