use Rattle.std.proofs.lemmas.Result.{on_ok_weaker}
use Rattle.iw_server.proofs.Stepping.{hands_back_none, hands_back_more, forgotten}
use Rattle.iw_server.proofs.closing.end_stream.Goals as goal

pub steps-init : goal.steps-init
steps-init c = hands_back_none _ _ _ c.in-Ok.ensures.ok

pub steps-preserved : goal.steps-preserved
steps-preserved c = hands_back_more _ _ _ _ c.in-Ok-next.field-0 c.steps.invariant c.in-Ok-next.ensures.ok

pub returns-in-Ok-Idle : goal.returns-in-Ok-Idle
returns-in-Ok-Idle c =
    let idle = rw c.in-Ok-Idle.field-0-is at c.in-Ok-Idle.ensures.ok in
    on_ok_weaker c.forget.result (λ closed. forgotten _ _ _ _ _ c.steps.invariant idle closed) c.forget.ensures
