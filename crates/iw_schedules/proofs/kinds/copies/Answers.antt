use Rattle.std.proofs.Common.{◌∙◌}
use Rattle.std.proofs.lemmas.Result.{IfOk-weaker}
use Rattle.iw_schedules.proofs.Copies.{repeat-one}
use Rattle.iw_schedules.proofs.kinds.copies.Goals as goal

pub returns : goal.returns
returns g c = IfOk-weaker c.vec.result _ _ (λ all h. h (λ y e. e) ∙ repeat-one c.args.count c.args.octet) c.vec.ensures.items_if_clones_equal
