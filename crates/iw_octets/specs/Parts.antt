-- How a message is cut into parts, each of which one segment carries (RFC 5041 5.2).
use Rattle.std.specs.Prelude.{ℕ, zero, suc, ◌+◌, ◌-◌, ◌*◌, ◌/◌, min, nat_le, true, false, List, [], ◌∷◌, ◌++◌}
use Rattle.iw_octets.specs.declared.part.Part.{Part}

-- the part of a message of `len` octets that begins at an offset, where a part has at most `size`: as many as it may have, or what is left, which is the last
abbrev pub part_at : ℕ → ℕ → ℕ → Part
part_at len size offset = record { offset = offset; n = min (len - offset) size; last = nat_le (len - offset) size }

-- so many full parts of this size, one after the other, from an offset on
unfoldable pub full_parts : ℕ → ℕ → ℕ → List Part
full_parts zero offset size = []
full_parts (suc count) offset size = record { offset = offset; n = size; last = false } ∷ full_parts count (offset + size) size

-- how many full parts n octets fill if something is to be left for the last part
abbrev pub full_count : ℕ → ℕ → ℕ
full_count n size = (n - 1) / size

-- the last n octets of a message, from an offset on: full parts, and a last one with what is left, which is empty only where n is 0
unfoldable pub parts_from : ℕ → ℕ → ℕ → List Part
parts_from offset n size =
    let count = full_count n size in
    full_parts count offset size ++ record { offset = offset + count * size; n = n - count * size; last = true } ∷ []

-- the parts of a message of this length
abbrev pub parts : ℕ → ℕ → List Part
parts len size = parts_from 0 len size
