use Rattle.std.proofs.Common.{◌≤◌, ◌≡◌, length}
use Rattle.std.specs.Io.KnownBytes.{Consumes}
use Rattle.iw_commands.proofs.port.read_port.Given as goal

abbrev pub invariant-octets : goal.invariant-octets
invariant-octets g l = record {
  bounded : l.pipe.reads ≤ 1000000;
  one : length l.octet ≡ 1;
  line : Consumes (g.R.Read.remaining l.fn.pipe.reader) (g.R.Read.remaining l.pipe.reader) l.line.items;
}
