-- A text is no other word than the likely one.
use Rattle.std.proofs.Common.{◌≡◌, ℕ, true, false, List, [], ◌∷◌, Err, refl, sym, ap, ◌∙◌}
use Rattle.std.specs.Str.{bytes_eq}
use Rattle.std.proofs.lemmas.Bool.{false_from_ne_true}
use Rattle.std.proofs.lemmas.Slice.Eq.{bytes_eq-Decides}
use Rattle.iw_schedules.specs.declared.fault.FaultName.TheVariants.{BadWord}
use Rattle.iw_schedules.specs.declared.words.CallWord.{CallWord}
use Rattle.iw_schedules.specs.Words.{one_of, call_text}

-- a text that is not its likely word is no other
different : (word : List ℕ) (likely other : CallWord) → ((call : CallWord) → word ≡ call_text call → likely ≡ call)
    → bytes_eq word (call_text likely) ≡ false → bytes_eq word (call_text other) ≡ false
different word likely other is not_it =
    false_from_ne_true (bytes_eq word (call_text other)) (λ same.
    let one : likely ≡ other = is other ((bytes_eq-Decides word (call_text other)).0 same) in
    let both : bytes_eq word (call_text likely) ≡ true = ap (λ call. bytes_eq word (call_text call)) one ∙ same in
    cc (sym not_it ∙ both))

pub is_none : (calls : List CallWord) (word : List ℕ) (likely : CallWord) → ((call : CallWord) → word ≡ call_text call → likely ≡ call)
    → bytes_eq word (call_text likely) ≡ false → one_of call_text calls word ≡ Err BadWord
is_none [] word likely is not_it = refl
is_none (first ∷ calls) word likely is not_it = rw (different word likely first is not_it, is_none calls word likely is not_it) refl
