-- What the streams, or the pools, of an endpoint are after one was lent for writing.
use Rattle.std.specs.Prelude.{ℕ, List, Option, Some, slice_set}
use Rattle.std.specs.Borrow.{Lends, LendsIf, MutBor, Fml, RattleType}
use Rattle.std.specs.declared.alloc.Allocator.{Ghosts}
use Rattle.iw_stream.specs.Stream.{StreamState}
use Rattle.iw_stream.specs.contracts.stream.Stream as stream
use Rattle.iw_untagged.specs.contracts.pool.SharedQueue as pool
use Rattle.iw_endpoint.specs.Endpoint.{Pool}
use Rattle.iw_endpoint.specs.contracts.pools.Pools as pools_of
use Rattle.iw_endpoint.specs.contracts.streams.Place as place
use Rattle.iw_endpoint.specs.contracts.streams.Streams.{the_row}

module _ (A : RattleType) (alloc : Ghosts A.Denot) where
  -- the place ends with the stream that was last written through r
  abbrev pub LendsPlace : MutBor StreamState → MutBor StreamState → Fml
  LendsPlace p r = Lends (place.the_row A alloc) (stream.the_row A alloc) p r (λ s. s)

  -- the stream of this number, if there is one, ends as what was last written through r
  abbrev pub LendsStream : MutBor (List (Option StreamState)) → ℕ → Option (MutBor StreamState) → Fml
  LendsStream streams number r =
      LendsIf (the_row A alloc) (stream.the_row A alloc) streams r (λ s. slice_set streams.now number (Some s)) streams.now

  -- the pool of this domain, if it has one, ends as what was last written through r
  abbrev pub LendsPool : MutBor (List (Option Pool)) → ℕ → Option (MutBor Pool) → Fml
  LendsPool pools pd r =
      LendsIf (pools_of.the_row A alloc) (pool.the_row A alloc) pools r (λ p. slice_set pools.now pd (Some p)) pools.now
