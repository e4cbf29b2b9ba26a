use Rattle.std.proofs.Common.{◌≤◌, ap, subst}
use Rattle.std.specs.Bool.{OnTrue}
use Rattle.std.specs.List.{Contains}
use Rattle.iw_locate.specs.declared.judged.Record.{Record}
use Rattle.iw_locate.proofs.judged.Judged.ends_past.Goals as goal

pub returns : goal.returns
returns g c =
    subst (λ rs. OnTrue c.does_none_end_before.result ((r : Record g.row.T.Denot) → Contains rs r → c.args.place ≤ r.end)) (ap (λ h. h.records) c.self.view_is) c.does_none_end_before.ensures
