use Rattle.std.proofs.Common.{drop, sym, ap, ◌∙◌}
use Rattle.iw_memory.specs.Table.{put}
use Rattle.iw_tagged.specs.declared.placing.Placed.{Placed}
use Rattle.iw_fpdu.specs.Found.{ulpdu}
use Rattle.iw_stream.proofs.Tagged.{placed_is}
use Rattle.iw_stream.proofs.landing.place_response.Goals as goal

pub returns-in-Ok-clause-memory : goal.returns-in-Ok-clause-memory
returns-in-Ok-clause-memory g c = c.in-Ok.ensures.ok ∙ ap (λ (p : Placed). put c.args.memory.now p.stag p.to (drop 14 (ulpdu c.args.fpdu.now))) (sym (placed_is _ _ _ c.in-Ok.ensures.placed))
