use Rattle.std.proofs.Common.{Some, Ok, sym, ap, ◌∙◌}
use Rattle.iw_fpdu.specs.Found.{ulpdu}
use Rattle.iw_octets.specs.Segment.{read_segment}
use Rattle.iw_rdmap.proofs.Tags.{passes}
use Rattle.iw_stream.specs.Frames.{frame_by, payload_of}
use Rattle.iw_stream.specs.Judging.{as_tagged, receiving_landed, table_tried}
use Rattle.iw_stream.proofs.Tagged.{lands_early, leaves_receiving, table_placed}
use Rattle.iw_stream.proofs.landing.land_tagged_early.Goals as goal

pub returns-in-Ok-clause-landed : goal.returns-in-Ok-clause-landed
returns-in-Ok-clause-landed g c = λ at table peer reads.
    let response = c.is_response-response.result in
    ap Some c.landing_of.ensures
    ∙ lands_early at (frame_by c.args.fpdu.now) c.args.head (as_tagged response (Ok c.in-Ok.placed)) (passes (ulpdu c.args.fpdu.now) c.args.head c.requires.tagged) (c.in-Ok.ensures.landed at table peer reads)

pub returns-in-Ok-clause-memory : goal.returns-in-Ok-clause-memory
returns-in-Ok-clause-memory g c =
    c.in-Ok.ensures.memory ∙ table_placed c.is_response-response.result c.in-Ok.placed c.args.memory.now (frame_by c.args.fpdu.now)
    ∙ ap (λ at. table_tried c.args.memory.now (frame_by c.args.fpdu.now) (Some at)) (sym c.landing_of.ensures)

pub returns-in-Ok-clause-receiving : goal.returns-in-Ok-clause-receiving
returns-in-Ok-clause-receiving g c = λ r.
    let payload = payload_of (read_segment (ulpdu c.args.fpdu.now)) in
    leaves_receiving c.is_response-response.result c.in-Ok.placed r payload ∙ ap (receiving_landed r payload) (sym c.landing_of.ensures)
