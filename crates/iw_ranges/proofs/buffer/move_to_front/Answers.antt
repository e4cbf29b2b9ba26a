use Rattle.std.proofs.Common.{◌≤◌, ◌+◌, length, arith}
use Rattle.iw_ranges.proofs.Blocks.{moves, all_moved}
use Rattle.iw_ranges.proofs.buffer.move_to_front.Goals as goal

pub copies-preserved : goal.copies-preserved
copies-preserved c =
    let size = c.min-m.ensures in
    let apart : c.min-m.result ≤ c.args.n = omega arith in
    let room : c.copies.at + c.args.n + c.min-m.result ≤ length c.copies.octets = omega (arith, c.copies.auto.octets) in record {
      within = omega arith;
      octets = λ i h. moves c.args.octets.now c.copies.octets c.copy_block.new.octets c.copies.at c.args.n c.min-m.result i (omega (arith, c.copies.auto.octets, c.copy_block.auto.octets)) c.copies.auto.octets
          c.copies.invariant.octets (c.copy_block.ensures i (omega (arith, c.copy_block.auto.octets))) apart room;
    }

pub returns : goal.returns
returns c = λ i small. all_moved c.args.octets.now c.copies.octets c.args.n c.args.end c.copies.at i c.requires.high c.requires.within (omega arith) small (λ k low. c.copies.invariant.octets k (omega (arith, c.copies.auto.octets)))
