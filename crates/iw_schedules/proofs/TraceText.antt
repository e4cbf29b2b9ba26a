-- The text of a trace, one entry after the other.
use Rattle.std.proofs.Common.{◌≡◌, ◌∙◌, ap, sym, ℕ, List, [], ◌∷◌, ◌++◌, append_assoc}
use Rattle.std.proofs.lemmas.List.{append-nil}
use Rattle.iw_events.specs.declared.act.Entry.{Entry}
use Rattle.iw_schedules.specs.Trace.{entry_text, texts_behind}

pub texts_more : (before entries : List (Entry (List ℕ))) (entry : Entry (List ℕ)) → texts_behind before (entries ++ entry ∷ []) ≡ texts_behind before entries ++ entry_text (before ++ entries) entry
unfolding texts_behind
texts_more before [] entry = append-nil (entry_text before entry) ∙ ap (λ z. entry_text z entry) (sym (append-nil before))
texts_more before (first ∷ rest) entry =
    ap (λ z. entry_text before first ++ z) (texts_more (before ++ first ∷ []) rest entry)
    ∙ sym (append_assoc (entry_text before first) (texts_behind (before ++ first ∷ []) rest) (entry_text ((before ++ first ∷ []) ++ rest) entry))
    ∙ ap (λ z. (entry_text before first ++ texts_behind (before ++ first ∷ []) rest) ++ entry_text z entry) (append_assoc before (first ∷ []) rest)
