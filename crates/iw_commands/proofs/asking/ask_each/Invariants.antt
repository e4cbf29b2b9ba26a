use Rattle.iw_links.specs.Exchange.{Asks}
use Rattle.iw_commands.specs.Printed.{Prints}
use Rattle.iw_commands.proofs.asking.ask_each.Given as goal

abbrev pub invariant-loop-stream : goal.invariant-loop-stream
invariant-loop-stream g l = record {
  printed : Prints l.fn.request.options (Asks l.fn.request.text.now) l.fn.endpoint l.endpoint l.stream (g.W.Write.contents l.fn.print) (g.W.Write.contents l.print) l.status;
}
