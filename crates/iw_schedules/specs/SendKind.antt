-- The kinds of Sends as words.
use Rattle.std.specs.Prelude.{ℕ, true, false, Bool, List, [], ◌∷◌, Option, Some, None, codes, Result, Ok, Err, if◌then◌else◌}
use Rattle.std.specs.Str.{bytes_eq}
use Rattle.iw_octets.specs.declared.stag.Stag.{Stag}
use Rattle.iw_schedules.specs.declared.fault.FaultName.{FaultName}
use Rattle.iw_schedules.specs.declared.fault.FaultName.TheVariants.{BadNumber}
use Rattle.iw_schedules.specs.declared.send_kind.SendKind.{SendKind}
use Rattle.iw_schedules.specs.declared.send_kind.SendKind.TheVariants.{Plain, Solicited, Invalidate, Both}
use Rattle.iw_schedules.specs.Reading.{◌>>=◌}
use Rattle.iw_schedules.specs.Words.{one_of}
use Rattle.iw_schedules.specs.Kinds.{stag_word}

abbrev pub send_text : SendKind → List ℕ
send_text Plain = codes "plain"
send_text Solicited = codes "solicited"
send_text Invalidate = codes "invalidate"
send_text Both = codes "both"

abbrev pub send_kinds : List SendKind
send_kinds = Plain ∷ Solicited ∷ Invalidate ∷ Both ∷ []

-- the kind of a Send: whether it is solicited, and what it invalidates
abbrev pub kind_of : Bool → Option Stag → SendKind
kind_of false None = Plain
kind_of true None = Solicited
kind_of false (Some stag) = Invalidate
kind_of true (Some stag) = Both

-- ---- how they are read

abbrev pub kind_word : List ℕ → Result SendKind FaultName
kind_word word = one_of send_text send_kinds word

abbrev pub is_solicited : SendKind → Bool
is_solicited Plain = false
is_solicited Solicited = true
is_solicited Invalidate = false
is_solicited Both = true

abbrev pub no_stag_word : List ℕ → Result (Option Stag) FaultName
no_stag_word word = if bytes_eq word (codes "-") then Ok None else Err BadNumber

abbrev pub some_stag_word : List ℕ → Result (Option Stag) FaultName
some_stag_word word = stag_word word >>= λ stag. Ok (Some stag)

-- the STag that a Send of this kind invalidates
abbrev pub invalidated_word : SendKind → List ℕ → Result (Option Stag) FaultName
invalidated_word Plain word = no_stag_word word
invalidated_word Solicited word = no_stag_word word
invalidated_word Invalidate word = some_stag_word word
invalidated_word Both word = some_stag_word word
