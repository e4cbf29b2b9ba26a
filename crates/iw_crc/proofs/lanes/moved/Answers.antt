use Rattle.std.proofs.Common.{◌/◌, arith, bit_and, bit_xor, get_or}
use Rattle.std.proofs.lemmas.Nat.{and_le_r}
use Rattle.std.proofs.lemmas.Simd.{zip2_splat, zip2_of_maps}
use Rattle.iw_crc.proofs.Sixteens.{down, low_ok, high_ok, looked_up}
use Rattle.iw_crc.proofs.lanes.moved.Goals as goal

pub swizzle-by_low : goal.swizzle-by_low
swizzle-by_low c = low_ok c.args.octets c.fits-octets

pub swizzle-by_high : goal.swizzle-by_high
swizzle-by_high c = high_ok c.args.octets c.fits-octets

pub returns : goal.returns
returns c =
    let v = c.args.octets in
    zip2_of_maps bit_xor (λ x. get_or c.args.low (bit_and x 15) 0) (λ x. get_or c.args.high (x / 16) 0) v
    (looked_up c.args.low (λ x. bit_and x 15) v _ c.fits-octets (zip2_splat bit_and v 16 15 c.fits-octets.0) (λ x h. omega (arith, and_le_r x 15)))
    (looked_up c.args.high (λ x. x / 16) v _ c.fits-octets (zip2_splat down v 16 4 c.fits-octets.0) (λ x h. omega arith))
