use Rattle.std.proofs.Common.{arith}
use Rattle.iw_stream.specs.Fields.{start_of}
use Rattle.iw_stream.proofs.Negotiated.{most_reads_few}
use Rattle.iw_stream.proofs.starting.Start.most_reads.Goals as goal

pub returns-clause-fits : goal.returns-clause-fits
returns-clause-fits c = omega (arith, c.self.invariant.most_reads_is, most_reads_few (start_of c.self.inside))
