use Rattle.std.proofs.Common.{◌≡◌, IfOk, Some, None, slice_index_or, ap, subst, ◌∙◌}
use Rattle.iw_stream.specs.Work.{work_step}
use Rattle.iw_endpoint.specs.Endpoint.{lent_to}
use Rattle.iw_endpoint.specs.Sharing.{emptied}
use Rattle.iw_endpoint.proofs.pools.Pools.work_alone.Goals as goal

pub returns-in-Some-clause-step : goal.returns-in-Some-clause-step
returns-in-Some-clause-step g c =
    let s = c.args.stream.now in
    let there : Some c.in-Some.pool.now ≡ slice_index_or c.args.self.now s.domain None =
    c.in-Some.ensures.found ∙ ap (λ pd. slice_index_or c.args.self.now pd None) c.domain-pd.ensures in
    subst (λ o. IfOk c.work_beside.result (λ step. step ≡ work_step c.args.memory.now (lent_to (emptied o) s))) there c.work_beside.ensures.step

pub returns-in-None-clause-step : goal.returns-in-None-clause-step
returns-in-None-clause-step g c =
    let s = c.args.stream.now in
    let there : None ≡ slice_index_or c.args.self.now s.domain None =
    c.in-None.ensures.found ∙ ap (λ pd. slice_index_or c.args.self.now pd None) c.domain-pd.ensures in
    subst (λ o. IfOk c.work.result (λ step. step ≡ work_step c.args.memory.now (lent_to (emptied o) s))) there c.work.ensures.step
