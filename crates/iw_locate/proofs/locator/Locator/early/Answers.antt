use Rattle.std.proofs.Common.{◌-◌, ◌+◌, ◌^◌, arith, inl, inr}
use Rattle.std.proofs.lemmas.Bool.{cases_lt}
use Rattle.iw_locate.specs.Free.{Scene, scene_of}
use Rattle.iw_locate.specs.Next.{CanBeEarly}
use Rattle.iw_locate.proofs.Open.{not_seen_far, not_open_far}
use Rattle.iw_locate.proofs.Lowest.{lowest_free}
use Rattle.iw_locate.proofs.locator.Locator.early.Goals as goal

pub lowest_in-requires-clause-end : goal.lowest_in-requires-clause-end
lowest_in-requires-clause-end g c =
    let v : Scene g.row.T.Denot = scene_of c.args.self.now.layout c.args.self.now.base c.args.islands.now.arrived c.args.judged.now.records in
    λ p s seen points lt.
    elim (cases_lt p (c.floor.result - c.args.self.now.base + 262144)) [
      | inl near ↦ near
      | inr far ↦ absurd (not_seen_far v c.requires.can c.if-not-self.false p c.floor.ensures.limits (omega (arith, far, c.floor.ensures.floor)) seen)
    ]

pub returns : goal.returns
returns g c =
    let v : Scene g.row.T.Denot = scene_of c.args.self.now.layout c.args.self.now.base c.args.islands.now.arrived c.args.judged.now.records in
    let can : CanBeEarly v = (c.if-not-self.false, omega (arith, c.if-len-ge-MAX_RECORDS.false, c.len.ensures.len)) in
    lowest_free v c.lowest_in.result can
    (λ s open_.
    elim (cases_lt s (2 ^ 63)) [
      | inl near ↦ near
      | inr far ↦ absurd (not_open_far v c.requires.can c.if-not-self.false s c.floor.ensures.limits far open_)
    ]) c.lowest_in.ensures
