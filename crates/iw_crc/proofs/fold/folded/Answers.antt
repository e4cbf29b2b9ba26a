use Rattle.std.proofs.Common.{◌≡◌, ◌≤◌, ◌+◌, ◌-◌, ◌*◌, ◌/◌, ◌++◌, ℕ, length, take, drop, sym, ap, ◌∙◌, arith, length-take, length-drop}
use Rattle.std.proofs.lemmas.List.{take_rest, take-take}
use Rattle.iw_crc.specs.Crc.{after_octets}
use Rattle.iw_crc.specs.Fold.{remainder_with}
use Rattle.iw_crc.proofs.FoldSteps.{block_step, last_step, moved_window}
use Rattle.iw_crc.proofs.fold.folded.Goals as goal

pub loop-block-preserved : goal.loop-block-preserved
loop-block-preserved c = λ beyond enough.
    let front = c.split_at.result.0.now in
    let k = c.loop-block.block in
    let piece = take (2048 * k + 2048 - 2048 * k) (drop (2048 * k) front) in
    let size : 2048 * k + 2048 - 2048 * k ≡ 2048 = omega arith in
    let is : piece ≡ take 2048 (drop (2048 * k) front) = ap (λ n. take n (drop (2048 * k) front)) size in
    let inside : 2048 * k + 2048 ≤ length front = omega (arith, c.loop-block-test.true) in
    let long : length piece ≡ 2048 = ap length is ∙ length-take 2048 (drop (2048 * k) front) ∙ omega (arith, inside, length-drop (2048 * k) front) in
    let whole : length c.fold.new.window ≡ 2474 = c.fold.auto.window ∙ c.loop-block-test.array_long in
    let new : take 290 c.copy_within.new.self ≡ take 290 (drop (length piece) c.fold.new.window) =
    moved_window c.fold.new.window c.copy_within.new.self whole c.copy_within.ensures.after ∙ ap (λ n. take 290 (drop n c.fold.new.window)) (sym long) in
    ap (λ w. remainder_with w beyond) new
    ∙ block_step c.args.remainder front (take 290 c.loop-block.window) piece (take 290 (drop (length piece) c.fold.new.window)) k is c.fold.ensures c.loop-block.invariant beyond enough

pub returns : goal.returns
returns c =
    let octets = c.args.octets.now in
    let front = c.split_at.result.0.now in
    let back = c.split_at.result.1.now in
    let k : ℕ = length front / 2048 in
    let tail = take (length front - 2048 * k) (drop (2048 * k) front) in
    let reached : k ≤ c.loop-block.block = c.loop-block-test.false in
    let within : c.loop-block.block ≤ k = c.loop-block.auto.block-end in
    let done : c.loop-block.block ≡ k = omega (arith, reached, within) in
    let size : length tail + 290 + 136 - length tail ≡ 426 = omega arith in
    let inside : 290 ≤ 426 = omega arith in
    let whole : front ++ back ≡ octets = sym c.split_at.ensures.by_index.0 in
    let enough : 290 ≤ length back = omega (arith, c.requires, c.split_at.ensures.back_len) in
    c.settled.ensures
    ∙ ap (λ n. remainder_with (take 290 (take n (drop (length tail) c.fold-2.new.window))) back) size
    ∙ ap (λ l. remainder_with l back) (take-take 290 426 (drop (length tail) c.fold-2.new.window) inside)
    ∙ last_step c.args.remainder octets front back (take 290 c.loop-block.window) tail (take 290 (drop (length tail) c.fold-2.new.window)) k whole (take_rest front (2048 * k)) enough c.fold-2.ensures
    (λ beyond long. c.loop-block.invariant beyond long ∙ ap (λ n. after_octets c.args.remainder (take (2048 * n) front ++ beyond)) done)
