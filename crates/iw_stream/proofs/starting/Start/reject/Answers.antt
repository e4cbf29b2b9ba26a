use Rattle.iw_stream.proofs.Opening.{start_rejected}
use Rattle.std.proofs.Common.{sym}
use Rattle.iw_stream.proofs.starting.Start.reject.Goals as goal

pub invariant_of-self-2 : goal.invariant_of-self-2
invariant_of-self-2 c =
    start_rejected c.self.inside c.in-Some.startup c.reject.new.self c.args.private c.if-not-self.false c.in-Some.is (sym c.in-Ok.ensures.refused) c.in-Ok.ensures.ok c.self.invariant
