-- What a connection does in its turn.
use Rattle.std.specs.Prelude.{◌≡◌, ◌⊎◌, ℕ, List, Option}
use Rattle.iw_endpoint.specs.Endpoint.{EndpointState}
use Rattle.iw_endpoint.specs.Reading.{Took}
use Rattle.iw_server.specs.declared.connection.Connection.{Connection}
use Rattle.iw_server.specs.declared.host.Waits.{Waits}
use Rattle.iw_server.specs.declared.host.Waits.TheVariants as waits
use Rattle.iw_server.specs.Acting.{IsSame, standing, ActsAll}
use Rattle.iw_server.specs.Unwritten.{Takes, Gathers}

-- it goes on with the same stream and the same region
pub record GoesOn (old new : Connection) : Type 0 where
  pub stream : new.stream ≡ old.stream
  pub region : new.region ≡ old.region
  pub place : new.place ≡ old.place

-- What its socket took, with what is left then, is what was left before and what its stream emitted behind that.
pub record Writes (e : EndpointState) (old new : Connection) (before after : Option (List ℕ)) : Type 0 where
  pub at : EndpointState
  pub octets : List ℕ
  pub gathers : Gathers e old.stream old.unwritten octets at
  pub takes : Takes before after octets new.unwritten

-- One read brought octets, and all was done that they ask for.
abbrev pub Hears : EndpointState → EndpointState → Connection → Connection → Option (List ℕ) → Option (List ℕ) → Type 0
Hears e e' old new before after =
    (n : ℕ) × (at : EndpointState) × Took e at old.stream before after n × ActsAll old.region old.stream (standing at old) (standing e' new)

-- The same as above once it was read so, which leaves what is to be written as it was. (What a read leaves of the octets that a socket
-- holds is not known.)
pub record WritesThen (e : EndpointState) (old new : Connection) (remaining after : Option (List ℕ)) : Type 0 where
  pub m : EndpointState
  pub mid : Connection
  pub rest : Option (List ℕ)
  pub before : Option (List ℕ)
  pub same : IsSame old mid
  pub hears : Hears e m old mid remaining rest
  pub writes : Writes m mid new before after

-- A connection that waits until it can write is not read in its turn. Another one writes once it was read, or nothing changes of what it is
-- to write.
abbrev pub TakesTurn : Waits → EndpointState → Connection → Connection → Option (List ℕ) → Option (List ℕ) → Option (List ℕ) → Type 0
TakesTurn waits.Readable e old new contents remaining after = WritesThen e old new remaining after ⊎ IsSame old new
TakesTurn waits.Writable e old new contents remaining after = Writes e old new contents after
