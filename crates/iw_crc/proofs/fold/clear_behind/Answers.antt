use Rattle.std.proofs.Common.{◌≡◌, ◌-◌, ◌++◌, take, drop, replicate, length, sym, ap, ◌∙◌, arith, length-take, length-drop}
use Rattle.std.proofs.lemmas.List.{append-nil, drop_all, take-append-drop}
use Rattle.std.proofs.lemmas.Slice.{take-put_mid, drop-put_mid}
use Rattle.iw_crc.proofs.fold.clear_behind.Goals as goal

pub returns : goal.returns
returns c =
    let w = c.args.window.now in
    let cleared = c.fill.new.self in
    let n = length w - 290 in
    let size : length (take n (drop 290 w)) ≡ 136 = length-take n (drop 290 w) ∙ omega (arith, c.requires, length-drop 290 w) in
    let zeros : cleared ≡ replicate 136 0 = c.fill.ensures.after (λ y e. e) ∙ ap (λ k. replicate k 0) size in
    let long : length cleared ≡ 136 = ap length zeros in
    let front = take-put_mid 290 n w cleared 426 (omega (arith, long)) (omega (arith, c.requires)) in
    let back = drop-put_mid 290 n w cleared 426 (omega (arith, c.requires)) (omega (arith, c.requires)) (omega (arith, long, c.requires)) in
    sym (take-append-drop 426 _) ∙ (λ i. front i ++ (let none = back ∙ drop_all 426 w (omega (arith, c.requires)) in none i))
    ∙ append-nil (take 290 w ++ cleared) ∙ ap (λ l. take 290 w ++ l) zeros
