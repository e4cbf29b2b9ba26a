-- A stream that was there is there after what is done at it.
use Rattle.std.proofs.Common.{◌≡◌, ℕ, Bool, true, false, if◌then◌else◌, set, get_or, Option, Some, None, refl, sym, ap}
use Rattle.std.specs.Prelude.{is_some}
use Rattle.std.proofs.lemmas.Bool.{true≢false}
use Rattle.std.proofs.lemmas.List.{get_or-set_same}
use Rattle.iw_stream.specs.Stream.{StreamState}
use Rattle.iw_stream.specs.Stream as stream
use Rattle.iw_endpoint.specs.Endpoint.{EndpointState, pool_of, left_of, has_stream, stream_of, stream_at, after_emit, after_work}
use Rattle.iw_endpoint.specs.Sharing.{emptied, has_fewer, after_work_alone, after_work_within}
use Rattle.iw_endpoint.proofs.Filled.{within}

pub put_there : (e : EndpointState) (number : ℕ) (s : StreamState) → has_stream e number ≡ true → get_or (set e.streams number (Some s)) number None ≡ Some s
put_there e number s there = go (stream_of e number) refl there
  where
    go : (o : Option StreamState) → stream_of e number ≡ o → is_some o ≡ true → get_or (set e.streams number (Some s)) number None ≡ Some s
    go None is some = absurd (true≢false (sym some))
    go (Some t) is some = get_or-set_same e.streams number (Some s) None (within e.streams number t is)

pub left_there : (e : EndpointState) (number : ℕ) → has_stream e number ≡ true → stream_of (after_emit e number) number ≡ Some (stream.after_emit e.table (stream_at e number))
left_there e number there = put_there e number (stream.after_emit e.table (stream_at e number)) there

pub still_there : (e : EndpointState) (number : ℕ) → has_stream e number ≡ true → has_stream (after_emit e number) number ≡ true
still_there e number there = ap is_some (left_there e number there)

pub still_there-worked : (e : EndpointState) (number : ℕ) → has_stream e number ≡ true → has_stream (after_work e number) number ≡ true
still_there-worked e number there = ap is_some (put_there e number (left_of e.table (pool_of e (stream_at e number).domain) (stream_at e number)) there)

pub still_there-within : (e : EndpointState) (number share : ℕ) → has_stream e number ≡ true → has_stream (after_work_within e number share) number ≡ true
still_there-within e number share there = go (has_fewer e number share)
  where
    go : (fewer : Bool) → has_stream (if fewer then after_work e number else after_work_alone e number) number ≡ true
    go true = still_there-worked e number there
    go false = ap is_some (put_there e number (left_of e.table (emptied (pool_of e (stream_at e number).domain)) (stream_at e number)) there)
