use Rattle.std.proofs.Common.{length, ap, sym, ◌∙◌}
use Rattle.iw_octets.specs.Segment.{segment_octets}
use Rattle.iw_startup.specs.declared.enhanced.Rtr.TheVariants.{Write, Read}
use Rattle.iw_stream.specs.Rtr.{rtr_segment}
use Rattle.iw_stream.proofs.Lengths.{length-rtr}
use Rattle.iw_stream.proofs.stream.room.rtr_len.Goals as goal

pub returns-in-Write-clause-len : goal.returns-in-Write-clause-len
returns-in-Write-clause-len c = λ numbers. sym (ap (λ rtr. length (segment_octets (rtr_segment numbers rtr))) c.in-Write.is ∙ length-rtr numbers Write)

pub returns-in-Read-clause-len : goal.returns-in-Read-clause-len
returns-in-Read-clause-len c = λ numbers. sym (ap (λ rtr. length (segment_octets (rtr_segment numbers rtr))) c.in-Read.is ∙ length-rtr numbers Read)
