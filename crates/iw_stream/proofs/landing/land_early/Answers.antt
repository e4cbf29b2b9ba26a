use Rattle.std.proofs.Common.{refl}
use Rattle.iw_fpdu.specs.Found.{ulpdu}
use Rattle.iw_rdmap.proofs.Tags.{passes}
use Rattle.iw_stream.proofs.Tagged.{payload_past, tagged_front, tagged_there}
use Rattle.iw_stream.proofs.landing.land_early.Goals as goal

pub land_tagged_early-requires-clause-tagged : goal.land_tagged_early-requires-clause-tagged
land_tagged_early-requires-clause-tagged g c =
    let u = ulpdu c.args.fpdu.now in
    let front = c.in-Some.front.now in
    let head = c.in-Some-tagged_head.head in
    tagged_there u head (tagged_front u front head (c.in-Some.payload, c.in-Some.ensures.0) (passes front head c.in-Some-tagged_head.ensures))

pub land_tagged_early-requires-clause-payload : goal.land_tagged_early-requires-clause-payload
land_tagged_early-requires-clause-payload g c = payload_past (ulpdu c.args.fpdu.now) c.in-Some.front.now c.in-Some.payload c.in-Some.ensures

pub returns-clause-landed : goal.returns-clause-landed
returns-clause-landed g c =
    c.land_tagged_early.ensures.landed (record { table = c.args.memory.now; peer = c.args.peer; receiving = c.args.receiving.now; reads = c.args.reads.now; asked = c.args.asked.now }) refl refl refl
