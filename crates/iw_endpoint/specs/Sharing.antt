-- A step of a stream that may bind no more than its share of its domain's pool.
use Rattle.std.specs.Prelude.{ℕ, List, [], Bool, nat_lt, if◌then◌else◌, slice_set, Option, Some, None, Result}
use Rattle.iw_stream.specs.declared.answer.Step.{Step}
use Rattle.iw_stream.specs.Stream.{StreamState}
use Rattle.iw_stream.specs.Pooling.{bound_buffers}
use Rattle.iw_stream.specs.Work.{work_step, table_worked}
use Rattle.iw_endpoint.specs.declared.refusal.NoSuchStream.{NoSuchStream}
use Rattle.iw_endpoint.specs.Endpoint.{EndpointState, Pool, stream_of, stream_at, answer_at, pool_of, lent_to, left_of, step_at, after_work}

-- how many buffers of its domain's pool are bound to its messages
abbrev pub bound_at : EndpointState → ℕ → ℕ
bound_at e number = bound_buffers (stream_at e number)

-- ---- a step as if the pool were empty

-- a pool, if there is one, without its buffers
abbrev pub emptied : Option Pool → Option Pool
emptied None = None
emptied (Some pool) = Some []

abbrev pub step_alone : EndpointState → ℕ → Result (Step (List ℕ)) NoSuchStream
step_alone e number = answer_at (stream_of e number) (λ s. work_step e.table (lent_to (emptied (pool_of e s.domain)) s))

-- the pools stay as they are
abbrev pub with_worked_alone : EndpointState → ℕ → StreamState → EndpointState
with_worked_alone e number s = record e {
  table = table_worked e.table (lent_to (emptied (pool_of e s.domain)) s);
  streams = slice_set e.streams number (Some (left_of e.table (emptied (pool_of e s.domain)) s));
}

abbrev pub after_work_alone : EndpointState → ℕ → EndpointState
after_work_alone e number = with_worked_alone e number (stream_at e number)

-- ---- a step within a share

-- the stream has fewer buffers bound than its share
abbrev pub has_fewer : EndpointState → ℕ → ℕ → Bool
has_fewer e number share = nat_lt (bound_at e number) share

abbrev pub step_within : EndpointState → ℕ → ℕ → Result (Step (List ℕ)) NoSuchStream
step_within e number share = if has_fewer e number share then step_at e number else step_alone e number

abbrev pub after_work_within : EndpointState → ℕ → ℕ → EndpointState
after_work_within e number share = if has_fewer e number share then after_work e number else after_work_alone e number

-- the stream as it does the step
abbrev pub lent_alone : EndpointState → ℕ → StreamState
lent_alone e number = lent_to (emptied (pool_of e (stream_at e number).domain)) (stream_at e number)

abbrev pub lent_within : EndpointState → ℕ → ℕ → StreamState
lent_within e number share =
    if has_fewer e number share then lent_to (pool_of e (stream_at e number).domain) (stream_at e number) else lent_alone e number
