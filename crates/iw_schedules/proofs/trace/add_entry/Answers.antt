use Rattle.std.proofs.Common.{◌≡◌, ◌++◌, ◌∷◌, [], ap, ◌∙◌, string_bytes}
use Rattle.iw_schedules.specs.Trace.{act_words, entry_text, shows_depths}
use Rattle.iw_schedules.specs.Words.{end_text}
use Rattle.iw_schedules.specs.Appended.{with_words}
use Rattle.iw_schedules.proofs.LineText.{line-is}
use Rattle.iw_schedules.proofs.trace.add_entry.Goals as goal

pub returns : goal.returns
unfolding entry_text
returns g c =
    let old = string_bytes c.args.text.now in
    let entry = c.args.entry.now in
    let before = c.args.before.now in
    let end : string_bytes c.push_str.new.self ≡ old ++ end_text entry.end = c.in_ok-push_str.ensures.bytes ∙ ap (λ name. old ++ name) c.end_name.ensures in
    let words : string_bytes c.add_act.new.text ≡ with_words (old ++ end_text entry.end) (act_words (shows_depths before entry.end entry.act) entry.act) =
    c.in_ok-add_act.ensures ∙ (λ i. with_words (end i) (act_words (c.shows_depths-enhanced.ensures i) entry.act)) in
    c.in_ok-push_str-2.ensures.bytes ∙ (ap (λ text. text ++ 10 ∷ []) words ∙ line-is old (end_text entry.end) (act_words (shows_depths before entry.end entry.act) entry.act))
