use Rattle.std.proofs.Common.{rules, ◌<◌, ◌∙◌, length}
use Rattle.iw_endpoint.proofs.Opened.{stands_within}
use Rattle.iw_endpoint.proofs.endpoint.Endpoint.open.Goals as goal

pub returns-in-Ok-clause-ok : goal.returns-in-Ok-clause-ok
returns-in-Ok-clause-ok g c =
    let within : c.args.number < length c.args.self.now.streams = search rules in
    c.in-Ok.ensures.ok _ c.new-stream.ensures ∙ stands_within c.args.self.now c.args.number _ within
