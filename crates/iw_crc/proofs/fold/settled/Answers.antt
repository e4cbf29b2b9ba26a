use Rattle.std.proofs.Common.{drop, take, get_or, bit_xor, ap, ◌∙◌, arith, length-take}
use Rattle.iw_crc.specs.Fold.{owed_next}
use Rattle.iw_crc.proofs.FoldSteps.{settled_step, one_settled}
use Rattle.std.proofs.Math.ListN.{length-set}
use Rattle.iw_crc.proofs.fold.settled.Goals as goal

pub loop-i-preserved : goal.loop-i-preserved
loop-i-preserved c = record {
  long = length-set c.loop-i.settled c.loop-i.i c.with_owed-octet.result ∙ c.loop-i.invariant.long;
  each = one_settled c.loop-i.settled c.args.octets.now c.clear_behind.new.window c.loop-i.i c.with_owed-octet.result (omega (arith, c.loop-i.invariant.long)) c.with_owed-octet.ensures c.loop-i.invariant.each;
}

pub returns : goal.returns
returns c =
    settled_step c.loop-i.settled c.args.octets.now (take 290 c.args.window.now) 136 c.loop-i.invariant.long c.requires.octets (length-take 290 c.args.window.now ∙ omega (arith, c.requires.window))
    (λ k lt. c.loop-i.invariant.each k (omega (arith, lt, c.loop-i-test.false)) ∙ ap (λ l. bit_xor (get_or c.args.octets.now k 0) (owed_next (drop k l))) c.clear_behind.ensures)
