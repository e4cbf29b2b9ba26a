-- The rights of a region as a word: letters of `wrsi` in this order, or `-` for none.
use Rattle.std.specs.Prelude.{ℕ, ◌<◌, ◌==◌, Bool, false, not, List, ◌++◌, length, codes, Result, Ok, Err, if◌then◌else◌}
use Rattle.std.specs.Str.{bytes_eq}
use Rattle.iw_memory.specs.declared.rights.Rights.{Rights}
use Rattle.iw_schedules.specs.declared.fault.FaultName.{FaultName}
use Rattle.iw_schedules.specs.declared.fault.FaultName.TheVariants.{BadOctets}
use Rattle.iw_schedules.specs.Letters.{letter_if, letter_at}

abbrev pub no_rights : Rights
no_rights = record { write = false; read = false; sink = false; invalidate = false }

-- ---- what they stand for in the grammar

abbrev pub letters_of : Rights → List ℕ
letters_of rights = letter_if rights.write 119 ++ letter_if rights.read 114 ++ letter_if rights.sink 115 ++ letter_if rights.invalidate 105

pub data IsRights : List ℕ → Rights → Type 0 where
  none_granted : IsRights (codes "-") no_rights
  granted : {rights : Rights} → 0 < length (letters_of rights) → IsRights (letters_of rights) rights

-- ---- how they are read

unfoldable pub lettered : List ℕ → Result Rights FaultName
lettered word =
    let w : Bool × List ℕ = letter_at 119 word in
    let r : Bool × List ℕ = letter_at 114 w.1 in
    let s : Bool × List ℕ = letter_at 115 r.1 in
    let i : Bool × List ℕ = letter_at 105 s.1 in
    if not (length i.1 == 0) then Err BadOctets else Ok (record { write = w.0; read = r.0; sink = s.0; invalidate = i.0 })

abbrev pub rights_word : List ℕ → Result Rights FaultName
rights_word word =
    if bytes_eq word (codes "-") then Ok no_rights
    else if length word == 0 then Err BadOctets
    else lettered word
