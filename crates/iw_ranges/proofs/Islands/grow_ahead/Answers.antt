use Rattle.std.proofs.Common.{◌≡◌, ◌-◌, sym, ap, ◌∙◌, arith}
use Rattle.std.proofs.lemmas.List.{length-drop}
use Rattle.iw_ranges.specs.Arrived.{Held}
use Rattle.iw_ranges.specs.Fields.{Fields, fields_of, arrived_in}
use Rattle.iw_ranges.proofs.InPlace.{same_kept, reaches_floor, most_near, ready_for}
use Rattle.iw_ranges.proofs.Islands.grow_ahead.Goals as goal

pub let_go-requires-clause-high : goal.let_go-requires-clause-high
let_go-requires-clause-high g c = reaches_floor (fields_of c.self.inside) c.self.invariant.sound

pub shorten-requires-clause-high : goal.shorten-requires-clause-high
shorten-requires-clause-high g c = reaches_floor (fields_of c.self.inside) c.self.invariant.sound

pub shorten-requires-clause-ahead : goal.shorten-requires-clause-ahead
shorten-requires-clause-ahead g c = omega (arith, reaches_floor (fields_of c.self.inside) c.self.invariant.sound)

pub shorten-requires-clause-near : goal.shorten-requires-clause-near
shorten-requires-clause-near g c =
    most_near (fields_of c.self.inside) c.self.invariant.sound c.args.self.now.arrived (ap (λ (h : Held). h.arrived) c.self.view_is) c.args.n c.requires.most

pub overflow_sub-to : goal.overflow_sub-to
overflow_sub-to g c = omega (arith, c.shorten.ensures.high, reaches_floor (fields_of c.self.inside) c.self.invariant.sound)

pub returns-in_err-grow-clause-same : goal.returns-in_err-grow-clause-same
returns-in_err-grow-clause-same g c =
    let f : Fields = fields_of c.self.inside in
    same_kept f c.self.invariant.sound c.grow.new.buffer.items c.shorten.new.base
    (λ p low high. c.grow.ensures.octets (p - c.shorten.new.base) ∙ c.shorten.ensures.octets p low high ∙ c.let_go.ensures.octets p (omega (arith, low, c.shorten.ensures.low)) high)
    c.shorten.ensures.high
    ∙ ap (λ (h : Held). h.arrived) c.self.view_is

pub returns-clause-same : goal.returns-clause-same
returns-clause-same g c =
    let f : Fields = fields_of c.self.inside in
    same_kept f c.self.invariant.sound c.grow.new.buffer.items c.shorten.new.base
    (λ p low high. c.grow.ensures.octets (p - c.shorten.new.base) ∙ c.shorten.ensures.octets p low high ∙ c.let_go.ensures.octets p (omega (arith, low, c.shorten.ensures.low)) high)
    c.shorten.ensures.high
    ∙ ap (λ (h : Held). h.arrived) c.self.view_is

pub returns-clause-ready : goal.returns-clause-ready
returns-clause-ready g c = λ t.
    let f : Fields = fields_of c.self.inside in
    let ok = c.self.invariant.sound in
    let e : arrived_in f ≡ c.args.self.now.arrived = ap (λ (h : Held). h.arrived) c.self.view_is in
    ready_for f ok _
    (sym (same_kept f ok c.grow.new.buffer.items c.shorten.new.base
    (λ p low high. c.grow.ensures.octets (p - c.shorten.new.base) ∙ c.shorten.ensures.octets p low high ∙ c.let_go.ensures.octets p (omega (arith, low, c.shorten.ensures.low)) high)
    c.shorten.ensures.high))
    c.args.n (most_near f ok c.args.self.now.arrived e c.args.n c.requires.most)
    (omega (arith, length-drop (f.end - c.shorten.new.base) c.grow.new.buffer.items, c.in_ok-grow.ensures.len, c.grow.new.buffer.ok.0, c.shorten.ensures.high, reaches_floor f ok))
