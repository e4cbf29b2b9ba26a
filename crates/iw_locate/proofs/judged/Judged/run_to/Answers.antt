use Rattle.std.proofs.Common.{◌≤◌, ◌<◌, ℕ, ap, subst}
use Rattle.std.specs.List.{Contains}
use Rattle.iw_locate.specs.declared.judged.Record.{Record}
use Rattle.iw_locate.specs.Records.{from_of}
use Rattle.iw_locate.proofs.judged.Judged.run_to.Goals as goal

pub returns-clause-covered : goal.returns-clause-covered
returns-clause-covered g c =
    subst (λ rs. (q : ℕ) → c.args.place ≤ q → q < c.run_among.result → (r : Record g.row.T.Denot) × Contains rs r × (from_of r ≤ q) × (q < r.end))
    (ap (λ h. h.records) c.self.view_is) c.run_among.ensures.covered
