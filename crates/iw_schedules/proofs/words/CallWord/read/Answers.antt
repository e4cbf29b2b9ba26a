use Rattle.std.proofs.Common.{◌≡◌, false, ap, sym, ◌∙◌}
use Rattle.std.specs.Str.{bytes_eq}
use Rattle.iw_schedules.specs.Words.{call_text, call_words, call_word}
use Rattle.iw_schedules.proofs.LikelyLaws.{is_none}
use Rattle.iw_schedules.proofs.words.CallWord.read.Goals as goal

pub returns : goal.returns
unfolding call_word
returns c =
    let word = c.args.word.now in
    let call = c.likely-call.result in
    let other : bytes_eq word (call_text call) ≡ false = ap (λ text. bytes_eq word text) (sym c.text.ensures ∙ sym c.as_bytes.ensures.value) ∙ (sym c.eq.ensures ∙ c.if-eq.false) in
    sym (is_none call_words word call c.likely-call.ensures other)
