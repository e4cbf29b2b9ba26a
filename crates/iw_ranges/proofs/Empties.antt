-- What came past the in-order point is given up.
use Rattle.std.proofs.Common.{◌≡◌, ℕ, ◌-◌, ◌<◌, ◌≤◌, ◌^◌, true, List, [], ◌∷◌, map, length, refl, sym, ap, ◌∙◌, subst, arith}
use Rattle.std.proofs.lemmas.Bool.Decides.{nat_tests}
use Rattle.std.specs.List.{range_with_len}
use Rattle.iw_ranges.specs.declared.spans.Span.{Span}
use Rattle.iw_ranges.specs.Spans.{in_spans, IsFromStart, AreSpans, EndPast, first_end}
use Rattle.iw_ranges.specs.Arrived.{Arrived}
use Rattle.iw_ranges.specs.Laws.{EmptiesPast}
use Rattle.iw_ranges.specs.Fields.{Fields, cell_of, arrived_in, IsSound}

abbrev pub before : ℕ → List Span
before place = record { from = 0; to = place } ∷ []

-- nothing came past the in-order point, and no octet is held
pub record IsEmpty (f : Fields) : Type 0 where
  pub base : f.base ≡ f.floor
  pub missing : f.missing ≡ f.floor
  pub end : f.end ≡ f.floor
  pub octets : f.octets ≡ []
  pub spans : f.spans ≡ before f.floor
  pub gone : f.gone ≡ []

in_before : (place p : ℕ) → in_spans p (before place) ≡ true → p < place
in_before place p t = grind (arith, nat_tests, t)

last_before : (place : ℕ) → 0 < place → in_spans (place - 1) (before place) ≡ true
last_before place some = grind (arith, nat_tests, some)

pub sound_empty : (f : Fields) → f.floor ≤ 2 ^ 63 → IsEmpty f → IsSound f
sound_empty f low is = record {
  base = omega (arith, is.base);
  order = subst IsFromStart (sym is.spans) (refl, tt);
  missing = is.missing ∙ sym (ap first_end is.spans);
  reached = omega (arith, ap first_end is.spans);
  within = λ p t. omega (arith, is.end, in_before f.floor p (sym (ap (in_spans p) is.spans) ∙ t));
  top = λ more. ap (λ e. in_spans (e - 1) f.spans) is.end ∙ ap (in_spans (f.floor - 1)) is.spans ∙ last_before f.floor (omega (arith, more, is.end));
  windowed = omega (arith, is.end);
  stand = omega (arith, is.end, is.base);
  held = omega (arith, ap length is.octets);
  few = omega (arith, ap length is.spans);
  low = low;
  gone_order = subst AreSpans (sym is.gone) tt;
  gone_came = λ p t. let e = sym (ap (in_spans p) is.gone) ∙ t in absurd (cc e);
  gone_past = subst (EndPast f.floor) (sym is.gone) tt;
}

pub empty_is : (f : Fields) → IsEmpty f → arrived_in f ≡ record { floor = f.floor; cells = [] }
empty_is f is = ap (λ n. let a : Arrived = record { floor = f.floor; cells = map (cell_of f) (range_with_len f.floor n) } in a) (let e : f.end - f.floor ≡ 0 = omega (arith, is.end) in e)

pub empties_past : EmptiesPast
empties_past a p = refl
