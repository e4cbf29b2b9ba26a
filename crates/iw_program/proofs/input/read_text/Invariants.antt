use Rattle.std.proofs.Common.{vec_items}
use Rattle.std.specs.Io.KnownBytes.{Consumes}
use Rattle.iw_program.proofs.input.read_text.Given as goal

abbrev pub invariant-reads : goal.invariant-reads
invariant-reads g l = Consumes (g.R.Read.remaining l.fn.input) (g.R.Read.remaining l.input) (vec_items l.text)
