use Rattle.std.proofs.Common.{◌≡◌, ◌+◌, ◌<◌, ◌≤◌, true, length}
use Rattle.std.specs.Prelude.{◌⊎◌, vec_capacity}
use Rattle.iw_endpoint.specs.Endpoint.{has_stream, sent_at}
use Rattle.iw_connection.specs.Filling.{Emits}
use Rattle.iw_connection.proofs.filling.fill_frames.Given as goal

abbrev pub invariant-frames : goal.invariant-frames
invariant-frames g l = record {
  emits : Emits l.fn.endpoint l.number l.n l.fn.out.items l.out.items l.endpoint;
  first : (0 < l.n) ⊎ ((l.endpoint ≡ l.fn.endpoint) × (l.out.items ≡ l.fn.out.items) × (vec_capacity l.out ≡ vec_capacity l.fn.out));
  there : has_stream l.endpoint l.number ≡ true;
  place : sent_at l.endpoint l.number + l.begun ≡ l.sent + length l.out.items;
  begun : l.begun ≡ length l.fn.out.items;
  grows : l.begun ≤ length l.out.items;
  long : l.begun + l.n ≤ length l.out.items + 1;
  few : (length l.out.items ≤ l.begun + l.most) ⊎ (l.n ≡ 1);
}
