use Rattle.std.proofs.Common.{◌≡◌}
use Rattle.std.specs.Io.KnownBytes.{Keeps}
use Rattle.iw_links.proofs.counted.Counted.take_to.Given as goal

abbrev pub invariant-loop-taken : goal.invariant-loop-taken
invariant-loop-taken g l = (l.self.reads ≡ l.taken) × (l.endpoint ≡ l.fn.endpoint) ×
    Keeps (g.R.Read.remaining l.fn.self.reader) (g.R.Read.remaining l.self.reader)
