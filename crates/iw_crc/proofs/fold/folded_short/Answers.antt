use Rattle.std.proofs.Common.{◌≡◌, ◌≤◌, ◌+◌, ◌-◌, ◌++◌, length, take, drop, refl, sym, ap, ◌∙◌, arith}
use Rattle.std.proofs.lemmas.List.{take-take}
use Rattle.iw_crc.specs.Fold.{remainder_with}
use Rattle.iw_crc.proofs.FoldSteps.{last_step}
use Rattle.iw_crc.proofs.fold.folded_short.Goals as goal

pub returns : goal.returns
returns c =
    let octets = c.args.octets.now in
    let front = c.split_at.result.0.now in
    let back = c.split_at.result.1.now in
    let rest = drop (length front) c.fold.new.window in
    let size : length front + 290 + 136 - length front ≡ 426 = omega arith in
    let inside : 290 ≤ 426 = omega arith in
    let whole : front ++ back ≡ octets = sym c.split_at.ensures.by_index.0 in
    let enough : 290 ≤ length back = omega (arith, c.requires, c.split_at.ensures.back_len) in
    c.settled.ensures
    ∙ ap (λ n. remainder_with (take 290 (take n rest)) back) size
    ∙ ap (λ l. remainder_with l back) (take-take 290 426 rest inside)
    ∙ last_step c.args.remainder octets front back (take 290 c.opened_short-window.result) front (take 290 rest) 0 whole refl enough c.fold.ensures (λ beyond long. c.opened_short-window.ensures beyond)
