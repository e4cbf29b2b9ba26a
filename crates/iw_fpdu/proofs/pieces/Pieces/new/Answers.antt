use Rattle.std.proofs.Common.{◌+◌, arith}
use Rattle.iw_fpdu.specs.Places.{data_index}
use Rattle.iw_fpdu.proofs.Counted.{place_index, place_mono}
use Rattle.iw_fpdu.proofs.Left.{left_is, place_left}
use Rattle.iw_fpdu.proofs.pieces.Pieces.new.Goals as goal

pub invariant_of-result : goal.invariant_of-result
invariant_of-result c =
    let m = c.args.markers in
    let from = c.args.from in
    record {
      begins = c.run_at.ensures.some;
      reaches = λ k lt.
          let place = place_left m from c.run_at.result k c.run_at.ensures.run (λ far. c.run_at.ensures.all (omega arith)) in
          omega (arith, c.requires.reaches k lt, place, place_index m from c.requires.begins, place_mono m (data_index m from) (data_index m from + k) (omega arith));
    }

pub returns : goal.returns
returns c = left_is c.args.octets.now c.args.markers c.args.from c.run_at.result c.args.left c.run_at.ensures.run c.run_at.ensures.all
