use Rattle.std.proofs.Common.{sym, ap, ◌∙◌}
use Rattle.std.proofs.lemmas.Bool.{true≢false}
use Rattle.iw_stream.specs.Ending.{has_ended}
use Rattle.iw_stream.specs.Stream.{StreamState, over, quits}
use Rattle.iw_stream.proofs.Keeping.{over_ended}
use Rattle.iw_stream.proofs.stream.Stream.end_by.Goals as goal

pub end-requires-clause-over : goal.end-requires-clause-over
end-requires-clause-over g c = ap has_ended c.over-ending.ensures ∙ over_ended c.self.inside.start c.self.inside.arrived.arrived c.args.terminate.items

pub end-requires-clause-silent : goal.end-requires-clause-silent
end-requires-clause-silent g c = λ e. absurd (true≢false (sym c.requires ∙ e))

pub returns : goal.returns
returns g c =
    c.end.ensures ∙ ap (λ e. record (quits c.args.self.now) { ending = e }) (c.over-ending.ensures ∙ ap (λ (t : StreamState). over t.start t.arrived c.args.terminate.items) c.self.view_is)
