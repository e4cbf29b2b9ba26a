use Rattle.std.proofs.Common.{◌≡◌, true, sym, ap, ◌∙◌}
use Rattle.iw_stream.specs.Fields.{state_of}
use Rattle.iw_stream.specs.Stream.{StreamState, ended}
use Rattle.iw_stream.specs.Work.{task, is_rest}
use Rattle.iw_stream.proofs.Resting.{is_left}
use Rattle.iw_stream.proofs.stream.Stream.has_handed_out.Goals as goal

-- no message is posted
pub returns : goal.returns
returns g c =
    let s = state_of c.self.inside in
    let over : ended s ≡ true = ap ended c.self.view_is ∙ c.requires in
    c.is_empty-2.ensures ∙ sym (is_left s over (c.is_empty.ensures.0 c.if-not-is_empty.false)) ∙ ap (λ (t : StreamState). is_rest (task t)) c.self.view_is
