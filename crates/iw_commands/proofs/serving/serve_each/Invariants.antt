use Rattle.iw_links.specs.Exchange.{Serves}
use Rattle.iw_commands.specs.Printed.{Prints}
use Rattle.iw_commands.proofs.serving.serve_each.Given as goal

abbrev pub invariant-loop-stream : goal.invariant-loop-stream
invariant-loop-stream g l = record {
  printed : Prints l.fn.options (Serves l.fn.region) l.fn.endpoint l.endpoint l.stream (g.W.Write.contents l.fn.print) (g.W.Write.contents l.print) l.status;
}
