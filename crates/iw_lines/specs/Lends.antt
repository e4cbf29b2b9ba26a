-- For how many octets a place to read to is lent at each stream, by its number.
use Rattle.std.specs.Prelude.{ℕ, List, map, replicate, Option, unwrap_or, slice_index, slice_set}
use Rattle.std.specs.List.{range_with_len}
use Rattle.iw_lines.specs.Lines.{all_numbers}

-- by number: 0 if no place is lent
abbrev pub LendTable : Type 0
LendTable = List ℕ

-- what each number has
abbrev pub lent_by : (ℕ → Option ℕ) → LendTable
lent_by lent = map (λ k. unwrap_or (lent k) 0) (range_with_len 0 all_numbers)

-- no place is lent
unfoldable pub none_lent : LendTable
none_lent = replicate all_numbers 0

-- for how many octets a place is lent at the stream of this number
abbrev pub lent_to : LendTable → ℕ → ℕ
lent_to lends number = slice_index lends number

-- a place for n octets is lent there, and that which was is lent no longer
abbrev pub with_lent : LendTable → ℕ → ℕ → LendTable
with_lent lends number n = slice_set lends number n

-- none is
abbrev pub without_lent : LendTable → ℕ → LendTable
without_lent lends number = with_lent lends number 0
