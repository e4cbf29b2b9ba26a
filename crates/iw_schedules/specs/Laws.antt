-- Laws of pieces: the lines of a text, the words of a line. Laws of words that are printed and read.
use Rattle.std.specs.Prelude.{◌≡◌, ℕ, ◌==◌, Bool, true, not, List, ◌∷◌, Option, None, Some}
use Rattle.std.specs.List.{list_all, join_with_byte}
use Rattle.iw_octets.specs.declared.stag.Stag.{Stag}
use Rattle.iw_octets.specs.Stag.{FitsStag}
use Rattle.iw_schedules.specs.Pieces.{pieces}
use Rattle.iw_schedules.specs.SendKind.{send_text, kind_of}
use Rattle.iw_schedules.specs.Answers.{stag_text, optional_stag_text}
use Rattle.iw_schedules.specs.Grammar.{IsStag, IsKind}

-- the separator does not occur in it
abbrev pub lacks : ℕ → List ℕ → Bool
lacks separator piece = list_all (λ x. not (x == separator)) piece

-- the pieces, with a separator between each two, are the text
abbrev pub Joined : ℕ → Type 0
Joined separator = (text : List ℕ) → join_with_byte separator (pieces separator text) ≡ text

-- no piece has the separator in it
abbrev pub Free : ℕ → Type 0
Free separator = (text : List ℕ) → list_all (lacks separator) (pieces separator text) ≡ true

-- a text joined from pieces has these pieces and no others
abbrev pub OnlySo : ℕ → Type 0
OnlySo separator = (first : List ℕ) (others : List (List ℕ)) → list_all (lacks separator) (first ∷ others) ≡ true → pieces separator (join_with_byte separator (first ∷ others)) ≡ first ∷ others

-- an STag is printed as a schedule names it
abbrev pub NamedAlike : Type 0
NamedAlike = (stag : Stag) → FitsStag stag → IsStag (stag_text stag) stag

-- what a Send may invalidate: nothing, or a region
abbrev pub MayFit : Option Stag → Type 0
MayFit None = Unit {0}
MayFit (Some stag) = FitsStag stag

-- a Send that came is printed in the words by which a schedule posts one of that kind
abbrev pub SentAlike : Type 0
SentAlike = (solicited : Bool) (invalidate : Option Stag) → MayFit invalidate → IsKind (send_text (kind_of solicited invalidate)) (optional_stag_text invalidate) solicited invalidate
