-- Connections that give way: which are late, and which has waited longest for its stream to open.
use Rattle.std.specs.Prelude.{◌≡◌, ◌<◌, ◌-◌, ℕ, Bool, true, false, Option, None, Some}
use Rattle.iw_server.specs.declared.connection.Connection.{Connection}
use Rattle.iw_server.specs.declared.connection.Phase.{Phase}
use Rattle.iw_server.specs.declared.connection.Phase.TheVariants.{Starting, Running, Ended, Closed, Shut}
use Rattle.iw_server.specs.declared.places.Place.{Place}
use Rattle.iw_server.specs.declared.terms.Terms.{Terms}

-- the stream is not open yet
abbrev pub is_starting : Phase → Bool
is_starting Starting = true
is_starting Running = false
is_starting Ended = false
is_starting Closed = false
is_starting Shut = false

-- The stream is not open `start` seconds after its connection was accepted (RFC 5044 7.1.2, rule 10); or nothing of use went on it
-- for more than `stall` seconds.
abbrev pub IsOverdueAt : Bool → Terms → ℕ → Connection → Type 0
IsOverdueAt true terms now connection = terms.start < now - connection.begun
IsOverdueAt false terms now connection = terms.stall < now - connection.moved

abbrev pub IsOverdue : Terms → ℕ → Connection → Type 0
IsOverdue terms now connection = IsOverdueAt (is_starting connection.phase) terms now connection

abbrev pub IsLate : {S : Type 0} → Terms → ℕ → Option (Place S) → Type 0
IsLate terms now None = ⊥
IsLate terms now (Some place) = IsOverdue terms now place.connection

-- there is a connection, whose stream is open, or was
abbrev pub HasOpened : {S : Type 0} → Option (Place S) → Type 0
HasOpened None = ⊥
HasOpened (Some place) = is_starting place.connection.phase ≡ false

-- there is one whose stream is not open
abbrev pub IsStarting : {S : Type 0} → Option (Place S) → Type 0
IsStarting None = ⊥
IsStarting (Some place) = is_starting place.connection.phase ≡ true
