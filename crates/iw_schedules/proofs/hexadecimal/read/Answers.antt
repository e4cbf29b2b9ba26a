use Rattle.std.proofs.Common.{arith, ◌∙◌}
use Rattle.std.proofs.lemmas.Bool.{ltb-true}
use Rattle.hex.proofs.Pairs.{decode_done}
use Rattle.hex.proofs.HexLemmas.{decode_of-even}
use Rattle.iw_schedules.proofs.HexDigits.{pair_read, pair_refused}
use Rattle.iw_schedules.proofs.hexadecimal.read.Goals as goal

pub pairs-preserved : goal.pairs-preserved
pairs-preserved c =
    let s = c.args.digits.now in
    let l = c.pairs in
    let all = c.larger-largest.ensures in
    let two = c.larger.ensures in
    record {
      read = pair_read s l.octets l.i _ _ l.largest c.larger-largest.result (omega arith) (omega arith) c.value-high.ensures c.value-low.ensures (omega (arith, all.first)) (omega (arith, all.second, two.first)) (omega (arith, all.second, two.second)) l.invariant.read;
      refused = pair_refused s l.octets l.i _ _ l.largest c.larger-largest.result (omega arith) c.value-high.ensures c.value-low.ensures (λ a b d. all.either a (two.either b d)) l.invariant.read l.invariant.refused;
    }

pub returns-clause-read : goal.returns-clause-read
returns-clause-read c =
    let s = c.args.digits.now in
    let l = c.pairs in
    λ all. decode_of-even s (omega (arith, c.requires)) ∙ decode_done s l.octets l.i (omega arith) (omega (arith, c.requires)) (l.invariant.read (ltb-true l.largest 16 all))
