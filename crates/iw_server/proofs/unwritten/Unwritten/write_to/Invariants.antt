use Rattle.std.proofs.Common.{◌≤◌, length, drop}
use Rattle.iw_server.specs.Unwritten.{Takes}
use Rattle.iw_server.proofs.unwritten.Unwritten.write_to.Given as goal

abbrev pub invariant-writes : goal.invariant-writes
invariant-writes g l = record {
  within : l.self-inside.written ≤ length l.self-inside.octets.items;
  takes : Takes (g.W.Write.contents l.fn.socket) (g.W.Write.contents l.socket) l.fn.self (drop l.self-inside.written l.self-inside.octets.items);
}
