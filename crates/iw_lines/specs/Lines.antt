-- What waits at each stream, by its number.
use Rattle.std.specs.Prelude.{ℕ, ◌^◌, List, map, replicate, Option, None, Some, unwrap_or, slice_index_or, slice_set}
use Rattle.std.specs.List.{range_with_len}
use Rattle.std.specs.Option.{option_map}
use Rattle.iw_lines.specs.declared.line.Line.{Line}
use Rattle.iw_lines.specs.Line.{new_line}

-- streams have numbers of 32 bits
unfoldable pub all_numbers : ℕ
all_numbers = 2 ^ 32

-- by number: the line of the stream
abbrev pub LineTable : Type 0
LineTable = List (Option Line)

-- what each number has
abbrev pub listed : (ℕ → Option Line) → LineTable
listed line = map line (range_with_len 0 all_numbers)

-- no number has a line
unfoldable pub no_lines : LineTable
no_lines = replicate all_numbers None

abbrev pub place_of : LineTable → ℕ → Option Line
place_of lines number = slice_index_or lines number None

-- a line, or none, in place of what the number had
abbrev pub with_place : LineTable → ℕ → Option Line → LineTable
with_place lines number place = slice_set lines number place

-- nothing waits yet at the stream of this number
abbrev pub opened : LineTable → ℕ → LineTable
opened lines number = with_place lines number (Some new_line)

-- the number has no line any more
abbrev pub closed : LineTable → ℕ → LineTable
closed lines number = with_place lines number None

-- what waits at the stream of this number: nothing if it has no line
abbrev pub line_at : LineTable → ℕ → Line
line_at lines number = unwrap_or (place_of lines number) new_line

-- the same, if the number has no line
abbrev pub with_line : LineTable → ℕ → Line → LineTable
with_line lines number line = with_place lines number (option_map (λ _. line) (place_of lines number))
