-- The kinds of words: what a word stands for, or its fault.
use Rattle.std.specs.Prelude.{ℕ, ◌*◌, ◌^◌, Bool, ◌&&◌, nat_lt, nat_le, List, [], length, Option, Some, None, Result, Ok, Err, codes, if◌then◌else◌}
use Rattle.std.specs.List.{list_all, repeat}
use Rattle.std.specs.Char.{is_ascii_digit}
use Rattle.std.specs.Str.{bytes_eq}
use Rattle.std.specs.Str.Parse.{digits_value}
use Rattle.hex.specs.Hex.{decode_of, decode_sized}
use Rattle.iw_octets.specs.declared.constants.TheConstants.{MAX_PRIVATE}
use Rattle.iw_octets.specs.declared.stag.Stag.{Stag}
use Rattle.iw_octets.specs.Stag.{stag_at}
use Rattle.iw_schedules.specs.declared.kinds.TheConstants.{MAX_WORD_OCTETS, MAX_TIMES}
use Rattle.iw_schedules.specs.declared.fault.FaultName.{FaultName}
use Rattle.iw_schedules.specs.declared.fault.FaultName.TheVariants.{BadNumber, BadOctets}
use Rattle.iw_schedules.specs.Reading.{◌>>=◌, or_fault}
use Rattle.iw_schedules.specs.Pieces.{split_at_first}

-- one decimal digit or more, and nothing else
abbrev pub is_decimal : List ℕ → Bool
is_decimal word = nat_lt 0 (length word) && list_all is_ascii_digit word

-- the number that decimal digits stand for, if it fits 64 bits
abbrev pub decimal_of : List ℕ → Option ℕ
decimal_of word = if is_decimal word && nat_lt (digits_value 10 word) (2 ^ 64) then Some (digits_value 10 word) else None

-- a number that is at most `most`
unfoldable pub number_word : ℕ → List ℕ → Result ℕ FaultName
number_word most word =
    if is_decimal word && nat_le (digits_value 10 word) most then Ok (digits_value 10 word) else Err BadNumber

-- how often an event happens
unfoldable pub times_word : List ℕ → Result ℕ FaultName
times_word word = do
  n ← number_word MAX_TIMES word
  if nat_lt 0 n then Ok n else Err BadNumber

-- eight hexadecimal digits
unfoldable pub stag_word : List ℕ → Result Stag FaultName
stag_word word = do
  octets ← or_fault BadNumber (decode_sized word 4)
  Ok (stag_at octets 0)

-- hexadecimal digits, an even number of them and at least two
unfoldable pub hex_word : List ℕ → Result (List ℕ) FaultName
hex_word word = do
  octets ← or_fault BadOctets (decode_of word)
  if nat_lt 0 (length octets) then Ok octets else Err BadOctets

-- how often the octets are repeated: once if there is no count
abbrev pub count_word : Option (List ℕ) → Result ℕ FaultName
count_word None = Ok 1
count_word (Some word) = or_fault BadOctets (number_word MAX_WORD_OCTETS word)

-- none, or digits that may be repeated
unfoldable pub octets_word : List ℕ → Result (List ℕ) FaultName
octets_word word =
    if bytes_eq word (codes "-") then Ok [] else do
      octets ← hex_word (split_at_first 42 word).0
      count ← count_word (split_at_first 42 word).1
      if nat_le (count * length octets) MAX_WORD_OCTETS then Ok (repeat count octets) else Err BadOctets

unfoldable pub private_word : List ℕ → Result (List ℕ) FaultName
private_word word = do
  octets ← octets_word word
  if nat_le (length octets) MAX_PRIVATE then Ok octets else Err BadOctets
