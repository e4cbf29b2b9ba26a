use Rattle.std.proofs.Common.{◌≡◌, ◌+◌, ◌-◌, ◌*◌, ℕ, true, false, eqb, get_or, ap, ◌∙◌, sym, arith, inl, inr}
use Rattle.std.proofs.lemmas.Bool.{cases_lt, cases_eq}
use Rattle.std.proofs.lemmas.Bool.Decides.{nat_tests}
use Rattle.iw_fpdu.specs.Places.{span_start}
use Rattle.iw_fpdu.specs.PiecesOctet.{octet_from}
use Rattle.iw_fpdu.specs.Reading.{marker_agrees, markers_agree, pointer_at}
use Rattle.iw_fpdu.specs.Frame.{frame_end}
use Rattle.iw_fpdu.proofs.Octets.{marker_within, no_marker_agrees, marker_agrees_is, one_fails, all_hold}
use Rattle.iw_fpdu.proofs.check.do_markers_agree.Goals as goal

pub loop-place-init : goal.loop-place-init
loop-place-init c =
    let first : ℕ = c.div_ceil-place.result * 512 in (
      omega arith,
      omega (arith, c.div_ceil-place.ensures),
      omega (arith, c.div_ceil-place.ensures, c.span_of-from.ensures.bound, c.requires.low),
      λ q low high. no_marker_agrees (octet_from c.span_of-from.result c.args.octets.now) c.args.start q (λ z. absurd (omega (arith, c.div_ceil-place.ensures))),
    )

pub pointer-value-requires : goal.pointer-value-requires
pointer-value-requires c =
    let room = marker_within c.args.start c.args.len c.loop-place.place c.loop-place.invariant.0 (omega (arith, c.loop-place-test.true, c.requires.span, c.span_of-from.ensures.value, c.loop-place.invariant.1)) in
    omega (arith, room, c.requires.span, c.span_of-from.ensures.value, c.loop-place.invariant.1)

pub returns-then-from-saturating_sub : goal.returns-then-from-saturating_sub
unfolding markers_agree
returns-then-from-saturating_sub c =
    let octet : ℕ → ℕ = octet_from (span_start true c.args.start) c.args.octets.now in
    let place = c.loop-place.place in
    let from = c.span_of-from.ensures.value in
    let two : place - c.span_of-from.result + 2 ≡ place + 2 - span_start true c.args.start = omega (arith, from, c.loop-place.invariant.1) in
    let three : place - c.span_of-from.result + 3 ≡ place + 3 - span_start true c.args.start = omega (arith, from, c.loop-place.invariant.1) in
    let a = ap (λ i. get_or c.args.octets.now i 0) two in
    let b = ap (λ i. get_or c.args.octets.now i 0) three in
    let value : c.pointer-value.result ≡ pointer_at octet place = omega (arith, c.pointer-value.ensures, a, b) in
    let other : eqb (pointer_at octet place) (place - c.args.start) ≡ false = grind (arith, nat_tests, value, c.if-from-saturating_sub.true, c.from.ensures, c.saturating_sub.ensures) in
    sym
    (one_fails (marker_agrees octet c.args.start) (span_start true c.args.start) (frame_end true c.args.start c.args.len - span_start true c.args.start) place (omega (arith, from, c.loop-place.invariant.1))
    (omega (arith, c.loop-place-test.true, from, c.loop-place.invariant.1)) (marker_agrees_is octet c.args.start place c.loop-place.invariant.0 ∙ other))

pub loop-place-preserved : goal.loop-place-preserved
loop-place-preserved c =
    let octet : ℕ → ℕ = octet_from c.span_of-from.result c.args.octets.now in
    let place = c.loop-place.place in
    let two : place - c.span_of-from.result + 2 ≡ place + 2 - c.span_of-from.result = omega (arith, c.loop-place.invariant.1) in
    let three : place - c.span_of-from.result + 3 ≡ place + 3 - c.span_of-from.result = omega (arith, c.loop-place.invariant.1) in
    let a = ap (λ i. get_or c.args.octets.now i 0) two in
    let b = ap (λ i. get_or c.args.octets.now i 0) three in
    let value : c.pointer-value.result ≡ pointer_at octet place = omega (arith, c.pointer-value.ensures, a, b) in
    let same : eqb (pointer_at octet place) (place - c.args.start) ≡ true = grind (arith, nat_tests, value, c.if-from-saturating_sub.false, c.from.ensures, c.saturating_sub.ensures) in (
      omega (arith, c.loop-place.invariant.0),
      omega (arith, c.loop-place.invariant.1),
      omega (arith, c.loop-place-test.true, c.requires.span, c.span_of-from.ensures.value),
      λ q low high.
          elim (cases_lt q place) [
            | inl before ↦ c.loop-place.invariant.3 q low before
            | inr from ↦
                elim (cases_eq q place) [
                  | inl here ↦ ap (marker_agrees octet c.args.start) here ∙ marker_agrees_is octet c.args.start place c.loop-place.invariant.0 ∙ same
                  | inr between ↦ no_marker_agrees octet c.args.start q (λ z. absurd (omega (arith, c.loop-place.invariant.0)))
                ]
          ],
    )

pub returns : goal.returns
unfolding markers_agree
returns c =
    let octet : ℕ → ℕ = octet_from (span_start true c.args.start) c.args.octets.now in
    let from = c.span_of-from.ensures.value in
    sym
    (all_hold (marker_agrees octet c.args.start) (span_start true c.args.start) (frame_end true c.args.start c.args.len - span_start true c.args.start)
    (λ q low high. ap (λ f. marker_agrees (octet_from f c.args.octets.now) c.args.start q) (sym from) ∙ c.loop-place.invariant.3 q (omega (arith, from)) (omega (arith, c.loop-place-test.false, c.requires.span, from))))
