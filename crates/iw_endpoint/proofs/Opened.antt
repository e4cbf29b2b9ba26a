-- What an opening leaves, under a number that has a place.
use Rattle.std.proofs.Common.{◌≡◌, ℕ, ◌<◌, length, Option, Some, sym, ap, ◌∙◌}
use Rattle.std.specs.Prelude.{unwrap_or}
use Rattle.iw_stream.specs.Stream.{StreamState}
use Rattle.iw_endpoint.specs.Endpoint.{EndpointState, with_stream, with_next}
use Rattle.iw_endpoint.proofs.Filled.{put_within}

pub stands_within : (e : EndpointState) (number : ℕ) (s : StreamState) → number < length e.streams → with_next e number s ≡ with_stream e number s
stands_within e number s within = λ i. record e { streams = put_within e.streams number s within i }

-- the number is the one that was given
pub stands_next : (e new : EndpointState) (o : Option ℕ) (number : ℕ) (made : ℕ → StreamState) → o ≡ Some number → new ≡ with_next e number (made number) → new ≡ with_next e (unwrap_or o 0) (made (unwrap_or o 0))
stands_next e new o number made given is = is ∙ ap (λ m. with_next e (unwrap_or m 0) (made (unwrap_or m 0))) (sym given)
