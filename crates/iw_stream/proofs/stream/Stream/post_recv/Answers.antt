use Rattle.iw_stream.specs.Fields.{state_of}
use Rattle.iw_stream.proofs.Keeping.{keeps_posted}
use Rattle.iw_stream.proofs.stream.Stream.post_recv.Goals as goal

pub invariant_of-self : goal.invariant_of-self
invariant_of-self g c = record {
  keeps = keeps_posted (state_of c.self.inside) c.post.new.self c.args.buffer.items c.post.result c.post.ensures.ok c.post.ensures.err c.self.invariant.keeps;
  layout = c.self.invariant.layout;
  base = c.self.invariant.base;
}
