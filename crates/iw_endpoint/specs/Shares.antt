-- What streams find in a pool if each binds no more than its share.
use Rattle.std.specs.Prelude.{◌≡◌, ◌≢◌, ℕ, suc, ◌+◌, ◌<◌, ◌≤◌, ◌==◌, true, List, [], ◌∷◌, length, if◌then◌else◌, Option, Some, None, IsSome}
use Rattle.iw_untagged.specs.Receiving.{HoldsPlaces, buffer_for}
use Rattle.iw_stream.specs.Pooling.{bound_buffers}
use Rattle.iw_stream.specs.Stream.{StreamState, sees, shares}
use Rattle.iw_endpoint.specs.Endpoint.{EndpointState, Pool, stream_of, stream_at, pool_of, with_pool, step_at, after_work}
use Rattle.iw_endpoint.specs.Sharing.{bound_at, emptied, step_within, after_work_within}

-- ---- a stream keeps to its share

-- the endpoint, but that the pool of this stream's domain is empty
abbrev pub without_buffers : EndpointState → ℕ → EndpointState
without_buffers e number = with_pool e (stream_at e number).domain (emptied (pool_of e (stream_at e number).domain))

pub record WorksWithin (e : EndpointState) (number share : ℕ) : Type 0 where
  -- with less than its share the stream does a step as ever
  pub less : bound_at e number < share → (step_within e number share ≡ step_at e number) × (after_work_within e number share ≡ after_work e number)
  -- with its share it does that of an endpoint with an empty pool, and all pools stay
  pub full : share ≤ bound_at e number
      → (step_within e number share ≡ step_at (without_buffers e number) number) × (after_work_within e number share ≡ record (after_work (without_buffers e number) number) { pools = e.pools })
  -- it stays within its share, and each other stream has as many buffers bound as before
  pub kept : IsSome (pool_of e (stream_at e number).domain) → bound_at e number ≤ share → bound_at (after_work_within e number share) number ≤ share
  pub others : (n : ℕ) → n ≢ number → bound_at (after_work_within e number share) n ≡ bound_at e n

abbrev pub StepsKeepShares : Type 0
StepsKeepShares = (e : EndpointState) (number share : ℕ) → WorksWithin e number share

-- ---- the streams of one domain

-- how many of its pool's buffers a stream has bound, if it is one of the domain's
abbrev pub bound_of : ℕ → Option StreamState → ℕ
bound_of pd None = 0
bound_of pd (Some s) = if s.domain == pd then bound_buffers s else 0

-- the share of such a stream
abbrev pub share_of : ℕ → ℕ → Option StreamState → ℕ
share_of pd share None = 0
share_of pd share (Some s) = if s.domain == pd then share else 0

-- those of all streams, in the order of their numbers
abbrev pub all_bound : ℕ → List (Option StreamState) → ℕ
all_bound pd [] = 0
all_bound pd (s ∷ streams) = bound_of pd s + all_bound pd streams

-- and their shares, which are given by number; the first stream has this number
abbrev pub all_shares : (ℕ → ℕ) → ℕ → ℕ → List (Option StreamState) → ℕ
all_shares given pd number [] = 0
all_shares given pd number (s ∷ streams) = share_of pd (given number) s + all_shares given pd (suc number) streams

-- each stream keeps to its share, and what is in the pool or bound is enough for all shares
pub record SharesFit (e : EndpointState) (pd : ℕ) (given : ℕ → ℕ) (pool : Pool) : Type 0 where
  pub there : pool_of e pd ≡ Some pool
  pub within : (n : ℕ) → bound_of pd (stream_of e n) ≤ share_of pd (given n) (stream_of e n)
  pub enough : all_shares given pd 0 e.streams ≤ length pool + all_bound pd e.streams

-- a stream of the domain that has less than its share
pub record HasLess (e : EndpointState) (pd number share : ℕ) (s : StreamState) : Type 0 where
  pub found : stream_of e number ≡ Some s
  pub domain : s.domain ≡ pd
  pub less : bound_buffers s < share

-- finds a buffer for a segment of each of the next 256 messages
pub record FindsBuffers (s : StreamState) (pool : Pool) : Type 0 where
  pub some : 0 < length pool
  pub each : shares s ≡ true → HoldsPlaces s.receiving.source → (ahead : ℕ) → ahead < 256 → IsSome (buffer_for (sees s pool).receiving.source ahead)

abbrev pub SharesSuffice : Type 0
SharesSuffice = (e : EndpointState) (pd : ℕ) (given : ℕ → ℕ) (pool : Pool) (number : ℕ) (s : StreamState) → SharesFit e pd given pool → HasLess e pd number (given number) s → FindsBuffers s pool
