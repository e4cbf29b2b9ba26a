use Rattle.std.proofs.Common.{Bool, None, if◌then◌else◌, sym, ap, ◌∙◌}
use Rattle.iw_reads.specs.Requests.{response_part}
use Rattle.iw_stream.specs.Stream.{response_due}
use Rattle.iw_stream.proofs.stream.Stream.response_due.Goals as goal

pub returns : goal.returns
returns g c =
    c.next_part.ensures.part ∙ ap (λ (b : Bool). if b then None else response_part c.self.inside.asked c.self.inside.mulpdu) (sym c.if-is_begun.false ∙ c.is_begun.ensures) ∙ ap response_due c.self.view_is
