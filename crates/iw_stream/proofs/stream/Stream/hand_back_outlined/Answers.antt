use Rattle.std.proofs.Common.{◌≡◌, None, sym, ap, ◌∙◌}
use Rattle.iw_queues.specs.Queue.{oldest_in, handed_from}
use Rattle.iw_stream.specs.Fields.{state_of}
use Rattle.iw_stream.specs.Stream.{StreamState}
use Rattle.iw_stream.specs.Work.{handing_back, left_by}
use Rattle.iw_stream.proofs.Handing.{given_back}
use Rattle.iw_stream.proofs.stream.Stream.hand_back_outlined.Goals as goal

pub returns-clause-after : goal.returns-clause-after
returns-clause-after g c = λ table.
    let s = state_of c.self.inside in
    let none : oldest_in c.self.inside.queue ≡ None = sym c.flush.ensures.done ∙ c.in_default.is in
    (λ i. record s { queue = (c.flush.ensures.after ∙ ap (handed_from c.self.inside.queue) c.in_default.is) i; receiving = c.flush-2.ensures.after i })
    ∙ given_back table s none c.limits.ensures
    ∙ ap (λ (t : StreamState). left_by table t (handing_back t)) c.self.view_is
