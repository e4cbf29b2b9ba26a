use Rattle.std.proofs.Common.{◌+◌, arith}
use Rattle.std.proofs.lemmas.Simd.{take_more_put_chunk, length-put_chunk}
use Rattle.iw_crc.proofs.lanes.put.Goals as goal

pub returns : goal.returns
returns c =
    let at = c.args.at in
    let out = c.args.out.now in
    (take_more_put_chunk at out c.args.octets (at + 16) (omega (arith, c.fits-octets.0)) (omega arith), length-put_chunk at out c.args.octets)
