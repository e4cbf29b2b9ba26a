-- The lowest free slot and its next key are an STag like any other.
use Rattle.std.proofs.Common.{sym, ap, ◌∙◌}
use Rattle.std.proofs.lemmas.Result.{on_ok_weaker}
use Rattle.iw_memory.specs.Forms.{region_of}
use Rattle.iw_memory.specs.Table.{registered_at}
use Rattle.iw_memory.proofs.LawLemmas.{registered-at_next}
use Rattle.iw_memory.proofs.memory.Memory.register_octets.Goals as goal

pub returns-in-Ok-clause-ok : goal.returns-in-Ok-clause-ok
returns-in-Ok-clause-ok g c =
    let region = region_of c.args.base c.args.octets c.args.rights c.args.bound in
    on_ok_weaker c.hold.result (λ is. is ∙ ap (λ stag. registered_at c.args.self.now stag region) c.in-Ok.ensures.stag ∙ sym (registered-at_next c.args.self.now c.args.pd region)) c.hold.ensures.ok
