use Rattle.std.proofs.Common.{sym, subst}
use Rattle.iw_stream.specs.Fields.{state_of}
use Rattle.iw_stream.proofs.Buffers.{StaysThere, stays_lent}
use Rattle.iw_stream.proofs.Keeping.{keeps_buffers}
use Rattle.iw_stream.proofs.stream.Stream.lend.Goals as goal

pub invariant_of-self : goal.invariant_of-self
invariant_of-self g c = record {
  keeps = keeps_buffers (state_of c.self.inside) c.lend.new.self
      (subst (StaysThere c.self.inside.receiving) (sym c.lend.ensures.after) (stays_lent c.self.inside.receiving c.args.pool.now)) c.self.invariant.keeps;
  layout = c.self.invariant.layout;
  base = c.self.invariant.base;
}
