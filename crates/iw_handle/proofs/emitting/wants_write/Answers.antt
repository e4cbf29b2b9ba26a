use Rattle.std.proofs.Common.{◌∙◌}
use Rattle.iw_endpoint.specs.Endpoint.{stream_at}
use Rattle.iw_handle.proofs.Wants.{due_is_reported}
use Rattle.iw_handle.proofs.emitting.wants_write.Goals as goal

pub returns-in-Ok-clause-wants : goal.returns-in-Ok-clause-wants
returns-in-Ok-clause-wants c =
    c.in-Ok.ensures.due ∙ due_is_reported c.args.endpoint.now.table (stream_at c.args.endpoint.now c.args.number)
