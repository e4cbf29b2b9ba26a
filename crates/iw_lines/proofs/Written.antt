-- What calls on the map of lines leave, by number.
use Rattle.std.proofs.Common.{◌≡◌, ℕ, ◌<◌, ◌^◌, Option, Some, None, Result, Ok, Err, refl, sym, ap, subst, ◌∙◌}
use Rattle.std.specs.Prelude.{nat_eq, IsSome, is_some, OnOk, OnErr, unwrap_or}
use Rattle.std.specs.Map.{lookup}
use Rattle.std.specs.HashMap.{HashMap, UpdatesBy, WritesThrough, IsEmpty}
use Rattle.std.specs.HashMap as hash
use Rattle.std.proofs.lemmas.Bool.{ne_eqb, false≢true}
use Rattle.iw_lines.specs.declared.line.Line.{Line}
use Rattle.iw_lines.specs.Line.{new_line}
use Rattle.iw_lines.specs.Lines.{LineTable, listed, no_lines, place_of, with_place, line_at, with_line}
use Rattle.iw_lines.proofs.Places.{at_number, set_number, written, nothing_written, nothing_listed}

module _ {S : Type 0} where
  -- a line was put in a number's place, or taken out
  pub put : (m n : HashMap ℕ Line S) (lines : LineTable) (number : ℕ) (place : Option Line) → listed (hash.get nat_eq m) ≡ lines → number < 2 ^ 32
      → UpdatesBy nat_eq (nat_eq number) m n place → listed (hash.get nat_eq n) ≡ with_place lines number place
  put m n lines number place is below u =
      set_number (hash.get nat_eq m) (hash.get nat_eq n) lines number place is below u.1 (λ k other. u.2 k (ne_eqb number k (λ e. other (sym e))))

  -- a line was changed where it lies
  pub wrote : (m n : HashMap ℕ Line S) (lines : LineTable) (number : ℕ) (old new : Line) (change : Line → Line) → listed (hash.get nat_eq m) ≡ lines → number < 2 ^ 32
      → hash.get nat_eq m number ≡ Some old → new ≡ change old → WritesThrough nat_eq (nat_eq number) m new n
      → listed (hash.get nat_eq n) ≡ with_line lines number (change (line_at lines number))
  wrote m n lines number old new change is below was e through =
      let u = through.3 (subst (λ o. IsSome o) (sym was) refl) in
      written (hash.get nat_eq m) (hash.get nat_eq n) lines number old change is below was (u.1 ∙ ap Some e) (λ k other. u.2 k (ne_eqb number k (λ e. other (sym e))))

  -- the same, if a call succeeded
  pub wrote_ok : {R E : Type 0} (m n : HashMap ℕ Line S) (lines : LineTable) (number : ℕ) (old new : Line) (change : Line → Line) (r : Result R E) → listed (hash.get nat_eq m) ≡ lines → number < 2 ^ 32
      → hash.get nat_eq m number ≡ Some old → OnOk r (new ≡ change old) → WritesThrough nat_eq (nat_eq number) m new n
      → OnOk r (listed (hash.get nat_eq n) ≡ with_line lines number (change (line_at lines number)))
  wrote_ok m n lines number old new change (Ok x) is below was e through = wrote m n lines number old new change is below was e through
  wrote_ok m n lines number old new change (Err x) is below was e through = tt

  -- there was none
  pub wrote_nothing : (m n : HashMap ℕ Line S) (lines : LineTable) (number : ℕ) (line : Line) → listed (hash.get nat_eq m) ≡ lines → number < 2 ^ 32
      → hash.get nat_eq m number ≡ None → n ≡ m → listed (hash.get nat_eq n) ≡ with_line lines number line
  wrote_nothing m n lines number line is below none same =
      ap (λ h. listed (hash.get nat_eq h)) same ∙ nothing_written (hash.get nat_eq m) lines number line is below none

  pub empty_listed : (m : HashMap ℕ Line S) → IsEmpty m → listed (hash.get nat_eq m) ≡ no_lines
  empty_listed m empty = nothing_listed (hash.get nat_eq m) (λ k. ap (lookup (nat_eq k)) empty)

  -- a line takes the place of one that is there: no memory is wanted
  pub put_over : {R E : Type 0} (m n : HashMap ℕ Line S) (lines : LineTable) (number : ℕ) (place : Option Line) (r : Result R E) → listed (hash.get nat_eq m) ≡ lines → number < 2 ^ 32
      → IsSome (place_of lines number) → OnOk r (UpdatesBy nat_eq (nat_eq number) m n place) → OnErr r (hash.get nat_eq m number ≡ None)
      → listed (hash.get nat_eq n) ≡ with_place lines number place
  put_over m n lines number place (Ok x) is below there u none = put m n lines number place is below u
  put_over m n lines number place (Err e) is below there u none =
      absurd (false≢true (sym (ap is_some (at_number (hash.get nat_eq m) lines number is below ∙ none)) ∙ there))

  -- what stands at a number
  pub found : (m : HashMap ℕ Line S) (lines : LineTable) (number : ℕ) (line : Line) → listed (hash.get nat_eq m) ≡ lines → number < 2 ^ 32 → hash.get nat_eq m number ≡ Some line → line ≡ line_at lines number
  found m lines number line is below was = sym (ap (λ o. unwrap_or o new_line) (at_number (hash.get nat_eq m) lines number is below ∙ was))

  pub found_nothing : (m : HashMap ℕ Line S) (lines : LineTable) (number : ℕ) → listed (hash.get nat_eq m) ≡ lines → number < 2 ^ 32 → hash.get nat_eq m number ≡ None → new_line ≡ line_at lines number
  found_nothing m lines number is below none = sym (ap (λ o. unwrap_or o new_line) (at_number (hash.get nat_eq m) lines number is below ∙ none))
