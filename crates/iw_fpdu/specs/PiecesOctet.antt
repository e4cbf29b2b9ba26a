use Rattle.std.specs.Prelude.{ℕ, ◌-◌, List, slice_index}

-- the octet at place p, given the octets from place `from` on
abbrev pub octet_from : ℕ → List ℕ → ℕ → ℕ
octet_from from octets p = slice_index octets (p - from)
