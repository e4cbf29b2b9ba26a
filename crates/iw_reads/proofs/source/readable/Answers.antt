-- A part that may be read has as many octets as were asked for.
use Rattle.std.proofs.Common.{rules, ap, length, ◌∙◌}
use Rattle.iw_memory.proofs.Callers.{length-octets_at}
use Rattle.iw_memory.specs.declared.rights.Right.TheVariants.{Read}
use Rattle.iw_reads.proofs.source.readable.Goals as goal

pub returns-in-Ok-clause-len : goal.returns-in-Ok-clause-len
returns-in-Ok-clause-len g c =
    ap length c.in-Ok.ensures.octets ∙ length-octets_at c.args.memory.now c.args.peer c.args.stag c.args.to c.args.n Read (search rules)
