use Rattle.std.proofs.Common.{◌≡◌, ◌+◌, sym, ap, ◌∙◌, add-one, drop, get_or, ◌∷◌, []}
use Rattle.std.proofs.Math.Seq.{drop-cons}
use Rattle.std.proofs.lemmas.List.{drop_all}
use Rattle.iw_schedules.proofs.Digits.{decimal_after, overflows, is_all}
use Rattle.iw_schedules.proofs.kinds.decimal.Goals as goal

pub returns-in-None : goal.returns-in-None
returns-in-None c =
    let l = c.loop-octet in
    let word = c.args.word.now in
    let rest : drop l.octet-index word ≡ get_or word l.octet-index 0 ∷ drop (l.octet-index + 1) word = rw add-one (drop-cons word l.octet-index 0 c.loop-octet-test.true) in
    sym (overflows l.number (get_or word l.octet-index 0) (drop (l.octet-index + 1) word) c.in-None.ensures.value)
    ∙ (ap (decimal_after l.number) (sym rest) ∙ l.invariant.value)

pub returns : goal.returns
returns c =
    let l = c.loop-octet in
    let none : drop l.octet-index c.args.word.now ≡ [] = drop_all l.octet-index c.args.word.now c.loop-octet-test.false in
    sym (is_all l.number l.invariant.fits) ∙ (ap (decimal_after l.number) (sym none) ∙ l.invariant.value)
