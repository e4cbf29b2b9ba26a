-- Words of eight octets, the first octet lowest.
use Rattle.std.specs.Prelude.{ℕ, ◌*◌, ◌/◌, ◌%◌, ◌^◌, List, take, drop}
use Rattle.std.specs.Int.{w64, from_le_bytes}

-- an octet of a word, the lowest being octet 0
abbrev pub octet_in : ℕ → ℕ → ℕ
octet_in word place = word / 2 ^ (8 * place) % 256

-- the eight octets from a place on, as a word
abbrev pub word_in : List ℕ → ℕ → ℕ
word_in octets at = from_le_bytes w64 (take 8 (drop at octets))
