use Rattle.std.proofs.Common.{ap, subst}
use Rattle.iw_locate.specs.Records.{IsFirstPast}
use Rattle.iw_locate.proofs.judged.Judged.first_past.Goals as goal

pub returns : goal.returns
returns g c = subst (λ rs. IsFirstPast rs c.args.place c.first_ending_past.result) (ap (λ h. h.records) c.self.view_is) c.first_ending_past.ensures
