-- Regions that are limited to one stream.
use Rattle.std.specs.Prelude.{◌≡◌, ◌≢◌, ◌<◌, ℕ, List, [], ◌∷◌, length, slice_index_or, Some, IfSome}
use Rattle.std.specs.List.{All}
use Rattle.iw_octets.specs.declared.stag.Stag.{Stag}
use Rattle.iw_memory.specs.Region.{Region}
use Rattle.iw_memory.specs.Table.{region_at}
use Rattle.iw_endpoint.specs.Endpoint.{EndpointState, fresh, stream_of, rewritten}
use Rattle.iw_endpoint.specs.Isolation.{StreamCall, Call, Deregister, DeregisterKept, TakeRegion, Invalidate, Store, Local, LocalMut, AtStream, Emit, Answer, stream_answer, after_stream, answer, after, after_all}

-- each stream has the number that it was opened under
abbrev pub KnowNumbers : EndpointState → Type 0
KnowNumbers e = (n : ℕ) → IfSome (stream_of e n) (λ s. s.number ≡ Some n)

-- the STag names a region that is limited to another stream than that of number n
pub record IsAnothers (e : EndpointState) (n : ℕ) (stag : Stag) : Type 0 where
  pub region : Region
  pub found : region_at e.table stag ≡ Some region
  pub other : ℕ
  pub limited : region.bound ≡ Some other
  pub apart : other ≢ n

-- what is done leaves the region as it was, is told the same whatever octets the region has, and leaves the same but for
-- these octets: whether the region gets others before or after makes no difference
pub record PassesBy {A : Type 0} (told : EndpointState → A) (left : EndpointState → EndpointState) (e : EndpointState) (stag : Stag) : Type 0 where
  pub kept : region_at (left e).table stag ≡ region_at e.table stag
  pub unseen : (octets : List ℕ) → told (rewritten e stag octets) ≡ told e
  pub alike : (octets : List ℕ) → left (rewritten e stag octets) ≡ rewritten (left e) stag octets

abbrev pub LimitedRegionsAreApart : Type 0
LimitedRegionsAreApart =
    (e : EndpointState) (n : ℕ) (call : StreamCall) (stag : Stag) → KnowNumbers e → IsAnothers e n stag
    → PassesBy (λ x. stream_answer x n call) (λ x. after_stream x n call) e stag

abbrev pub StreamsKnowTheirNumbers : Type 0
StreamsKnowTheirNumbers = (calls : List Call) → KnowNumbers (after_all fresh calls)

-- ---- lists of calls

-- the STag names a region that is limited to the stream of number n
pub record IsLimitedTo (e : EndpointState) (n : ℕ) (stag : Stag) : Type 0 where
  pub region : Region
  pub found : region_at e.table stag ≡ Some region
  pub limited : region.bound ≡ Some n

-- the call is not at the stream of number n, and the owner does not read, write, invalidate or take away by it what the STag names
abbrev pub Spares : ℕ → Stag → Call → Type 0
Spares n stag (Deregister other) = other ≢ stag
Spares n stag (DeregisterKept other) = other ≢ stag
Spares n stag (TakeRegion other) = other ≢ stag
Spares n stag (Invalidate other) = other ≢ stag
Spares n stag (Store other to octets) = other ≢ stag
Spares n stag (Local other) = other ≢ stag
Spares n stag (LocalMut other octets) = other ≢ stag
Spares n stag (AtStream m call) = m ≢ n
Spares n stag call = Unit {0}

-- what calls one after another are answered
abbrev pub answers : EndpointState → List Call → List Answer
answers e [] = []
answers e (call ∷ calls) = answer e call ∷ answers (after e call) calls

-- over any calls that spare it, a region that is limited to one stream is as it was, and nothing depends on its octets
abbrev pub LimitedRegionsStayApart : Type 0
LimitedRegionsStayApart =
    (e : EndpointState) (n : ℕ) (calls : List Call) (stag : Stag) → KnowNumbers e → IsLimitedTo e n stag → All (Spares n stag) calls
    → PassesBy (λ x. answers x calls) (λ x. after_all x calls) e stag

-- ---- what is shown of a region

-- the call is no emission of the stream of number n, and the owner is not shown or handed back by it what the STag names
abbrev pub Hides : ℕ → Stag → Call → Type 0
Hides n stag (Deregister other) = other ≢ stag
Hides n stag (DeregisterKept other) = other ≢ stag
Hides n stag (TakeRegion other) = other ≢ stag
Hides n stag (Local other) = other ≢ stag
Hides n stag (LocalMut other octets) = other ≢ stag
Hides n stag (AtStream m Emit) = m ≢ n
Hides n stag call = Unit {0}

-- the endpoints are the same, but for the octets of the region that the STag names
pub record DifferIn (stag : Stag) (e f : EndpointState) : Type 0 where
  pub octets : List ℕ
  pub same : f ≡ rewritten e stag octets

-- each of the calls that hides them is answered the same, and the endpoints are left so that they differ in them alone
pub record AreHidden (n : ℕ) (stag : Stag) (calls : List Call) (e f : EndpointState) : Type 0 where
  pub told : (k : ℕ) (call : Call) (none : Answer) → k < length calls → Hides n stag (slice_index_or calls k call) → slice_index_or (answers f calls) k none ≡ slice_index_or (answers e calls) k none
  pub left : DifferIn stag (after_all e calls) (after_all f calls)

-- over any calls, those at its own stream and its owner's among them, the octets of a region that is limited to one stream are shown by nothing else
abbrev pub LimitedRegionsAreHidden : Type 0
LimitedRegionsAreHidden =
    (e : EndpointState) (n : ℕ) (calls : List Call) (stag : Stag) (octets : List ℕ) → KnowNumbers e → IsLimitedTo e n stag → AreHidden n stag calls e (rewritten e stag octets)
