use Rattle.std.proofs.Common.{◌≡◌, ◌<◌, ◌≤◌, ◌+◌, ◌-◌, length, get_or, take, drop, sym, ap, subst, ◌∙◌, arith}
use Rattle.iw_ranges.specs.Arrived.{Held, delivered}
use Rattle.iw_ranges.specs.Spans.{first_end, add_span, IsFromStart}
use Rattle.iw_ranges.specs.Fields.{Fields, fields_of, arrived_in}
use Rattle.iw_ranges.proofs.Islands.came_in_place.Goals.{then-n-eq0-via-then-n-eq0, then-n-eq0-via-else-n-eq0+then-place-self}
use Rattle.iw_ranges.proofs.Adds.{add_from_start}
use Rattle.iw_ranges.proofs.Cells.{top_reaches}
use Rattle.iw_ranges.proofs.Keeps.{sound_put, put_delivers, kept_is, kept_after}
use Rattle.iw_ranges.proofs.InPlace.{end_via, reaches_floor, stands_ahead, octets_taken, counted, counts, part_of, part_len}
use Rattle.iw_ranges.proofs.Islands.came_in_place.Goals as goal

pub invariant_of-self : goal.invariant_of-self
invariant_of-self g c =
    let f : Fields = fields_of c.self.inside in
    let ok = c.self.invariant.sound in
    let place = c.args.place in
    let n = c.args.n in
    let enough : n ≤ length f.octets - (place - f.base) = stands_ahead f c.args.self.now (sym (ap (λ (h : Held). h.ahead) c.self.view_is)) place n (omega (arith, c.if-place-self.false)) (omega (arith, c.if-n-ahead.false, ap length c.ahead-ahead.ensures)) in
    let len : length (part_of f place n) ≡ n = part_len f place n enough in
    let puts = counts f ok c.lengthen_last.new.spans.items place n c.end_of_first-self-inside.result (omega (arith, c.if-place-self.false)) enough c.lengthen_last.ensures.items c.end_of_first-self-inside.ensures in
    record {
      sound = sound_put f (counted f c.lengthen_last.new.spans.items c.end_of_first-self-inside.result (place + n)) ok place (place + length (part_of f place n)) (part_of f place n) (omega (arith, len, c.if-n-eq0.false)) (omega (arith, len, c.if-is_beyond.ensures)) (omega (arith, len, enough, ok.held, ok.stand, c.if-place-self.false)) puts (omega (arith, c.lengthen_last.ensures.few, ap length puts.spans, ok.few));
      idle = λ e. absurd (omega (arith, e, c.if-n-eq0.false, c.if-place-self.false, reaches_floor f ok));
      most = c.self.invariant.most;
    }

pub returns-clause-counted : goal.returns-clause-counted
returns-clause-counted g c =
    let f : Fields = fields_of c.self.inside in
    let ok = c.self.invariant.sound in
    let place = c.args.place in
    let n = c.args.n in
    let enough : n ≤ length f.octets - (place - f.base) = stands_ahead f c.args.self.now (sym (ap (λ (h : Held). h.ahead) c.self.view_is)) place n (omega (arith, c.if-place-self.false)) (omega (arith, c.if-n-ahead.false, ap length c.ahead-ahead.ensures)) in
    let len : length (part_of f place n) ≡ n = part_len f place n enough in
    let puts = counts f ok c.lengthen_last.new.spans.items place n c.end_of_first-self-inside.result (omega (arith, c.if-place-self.false)) enough c.lengthen_last.ensures.items c.end_of_first-self-inside.ensures in
    let none : 0 ≡ first_end f.spans - place = omega (arith, c.if-place-self.false, top_reaches f ok) in
    put_delivers f (counted f c.lengthen_last.new.spans.items c.end_of_first-self-inside.result (place + n)) ok c.args.self.now.arrived (ap (λ (h : Held). h.arrived) c.self.view_is) place place (part_of f place n) (part_of f place n)
    (omega (arith, len, c.if-place-self.false, c.if-n-eq0.false, top_reaches f ok)) (omega (arith, len, c.if-n-eq0.false)) (omega (arith, c.if-place-self.false, top_reaches f ok)) (ap (λ k. drop k (part_of f place n)) none) (omega (arith, len, c.if-is_beyond.ensures)) (omega (arith, c.lengthen_last.ensures.few, ap length puts.spans, ok.few)) puts
    ∙ ap (λ k. delivered c.args.self.now.arrived place (take n (drop (k - f.base) f.octets))) (omega (arith, c.if-place-self.false))
    ∙ ap (λ (h : Held). delivered c.args.self.now.arrived place (take n h.ahead)) c.self.view_is

-- it is kept
pub returns-clause-kept : goal.returns-clause-kept
returns-clause-kept g c = λ t.
    let f : Fields = fields_of c.self.inside in
    let ok = c.self.invariant.sound in
    let place = c.args.place in
    let n = c.args.n in
    let some : 0 < n = omega (arith, c.if-n-eq0.false) in
    let e : arrived_in f ≡ c.args.self.now.arrived = ap (λ (h : Held). h.arrived) c.self.view_is in
    let enough : n ≤ length f.octets - (place - f.base) = stands_ahead f c.args.self.now (sym (ap (λ (h : Held). h.ahead) c.self.view_is)) place n (omega (arith, c.if-place-self.false)) (omega (arith, c.if-n-ahead.false, ap length c.ahead-ahead.ensures)) in
    let len : length (part_of f place n) ≡ n = part_len f place n enough in
    let puts = counts f ok c.lengthen_last.new.spans.items place n c.end_of_first-self-inside.result (omega (arith, c.if-place-self.false)) enough c.lengthen_last.ensures.items c.end_of_first-self-inside.ensures in
    sym (kept_is c.args.self.now.arrived place n
    (kept_after f ok c.args.self.now.arrived e place n place (omega (arith, c.if-place-self.false, top_reaches f ok)) (omega (arith, c.if-place-self.false, some, top_reaches f ok)) (omega (arith, c.if-is_beyond.ensures)) some
    (omega (arith, c.lengthen_last.ensures.few, ap length (puts.spans ∙ ap (λ m. add_span place (place + m) f.spans) len), ok.few))))

-- what is ready is counted
pub returns-then-n-eq0-clause-can : goal.returns-then-n-eq0-clause-can
returns-then-n-eq0-clause-can g c = λ some ready at.
    let f : Fields = fields_of c.self.inside in
    let ok = c.self.invariant.sound in
    let e : arrived_in f ≡ c.args.self.now.arrived = ap (λ (h : Held). h.arrived) c.self.view_is in
    let end : c.args.place ≡ f.end = at ∙ end_via f ok c.args.self.now.arrived e in
    elim c.then-n-eq0.branch [
      | then-n-eq0-via-then-n-eq0 w ↦ absurd (omega (arith, w.if-n-eq0.true, some))
      | then-n-eq0-via-else-n-eq0+then-place-self w ↦ absurd (omega (arith, w.if-place-self.true, end))
    ]

pub returns-clause-octets : goal.returns-clause-octets
returns-clause-octets g c = λ t k.
    octets_taken c.args.n c.args.self.now.ahead (λ j. subst (λ xs. get_or xs j 0 < 256) c.ahead-ahead.ensures (c.are_octets.ensures j)) k

pub end_of_first-self-inside-requires : goal.end_of_first-self-inside-requires
end_of_first-self-inside-requires g c =
    let f : Fields = fields_of c.self.inside in
    subst IsFromStart (sym c.lengthen_last.ensures.items) (add_from_start c.args.place (c.args.place + c.args.n) f.spans (omega (arith, c.if-n-eq0.false)) c.self.invariant.sound.order)
