-- What a buffer has.
use Rattle.std.specs.Prelude.{◌≡◌, ◌+◌, ◌≤◌, [], length, vec_len, vec_capacity}
use Rattle.iw_buffer.specs.declared.contents.Form.{Form}
use Rattle.iw_buffer.specs.declared.contents.Form.TheVariants.{Vector, Returned}
use Rattle.iw_buffer.specs.Octets.{Stored}

-- its octets, in either form, and the room of a vector; none is promised for octets that came back
abbrev pub stored_in : Form → Stored
stored_in (Vector octets) = record { octets = octets.items; room = vec_capacity octets }
stored_in (Returned octets room) = record { octets = octets.items; room = 0 }

-- a vector with no octets has room for those that came back
abbrev pub HasRoom : Form → Type 0
HasRoom (Vector octets) = Unit {0}
HasRoom (Returned octets room) = (room.items ≡ []) × (vec_len room + length octets.items ≤ vec_capacity room)
