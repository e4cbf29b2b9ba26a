-- What an endpoint is after a part of it was lent for writing.
use Rattle.std.specs.Prelude.{ℕ, List}
use Rattle.std.specs.Borrow.{Lends, MutBor, Fml, RattleType, Array, u8}
use Rattle.std.specs.declared.alloc.Allocator.{Ghosts}
use Rattle.iw_octets.specs.declared.stag.Stag.{Stag}
use Rattle.iw_endpoint.specs.Endpoint.{EndpointState, rewritten}
use Rattle.iw_endpoint.specs.contracts.endpoint.Endpoint.{the_row}

module _ (A : RattleType) (alloc : Ghosts A.Denot) where
  -- the endpoint ends with what was last written through r as the region's octets
  abbrev pub LendsLocal : MutBor EndpointState → Stag → MutBor (List ℕ) → Fml
  LendsLocal e stag r = Lends (the_row A alloc) (Array u8 0) e r (rewritten e.now stag)
