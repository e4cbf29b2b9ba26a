-- How many buffers of its pool a stream has.
use Rattle.std.specs.Prelude.{ℕ, count_by, is_some}
use Rattle.iw_untagged.specs.Receiving.{Source, Posted, Pooled}
use Rattle.iw_stream.specs.Stream.{StreamState}

-- those that are bound to messages: a queue that shares no pool has none
abbrev pub bound_in : Source → ℕ
bound_in (Posted buffers) = 0
bound_in (Pooled places pool) = count_by is_some places

abbrev pub bound_buffers : StreamState → ℕ
bound_buffers s = bound_in s.receiving.source
