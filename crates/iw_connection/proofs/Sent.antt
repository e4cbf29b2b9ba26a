-- How many octets a stream emitted, as it emits.
use Rattle.std.proofs.Common.{◌≡◌, ℕ, ◌+◌, true, List, length, Option, Result, Ok, Err, refl, sym, ap, ◌∙◌, add-zero}
use Rattle.std.specs.Prelude.{unwrap_or}
use Rattle.iw_octets.specs.declared.fault.Fault.{Fault}
use Rattle.iw_memory.specs.Table.{Table}
use Rattle.iw_reads.specs.declared.response.ResponsePart.{ResponsePart}
use Rattle.iw_stream.specs.Stream.{StreamState, Due, StartUp, LastWord, Ready, Response, NextPart, NoneDue, due, octets_due, left_due, left_fetched, frame_fetched, octets_fetched}
use Rattle.iw_endpoint.specs.Endpoint.{EndpointState, has_stream, stream_at, unopened, sent_at, emitted_at, after_emit}
use Rattle.iw_connection.proofs.There.{left_there}

counted_fetched : (s : StreamState) (part : ResponsePart) (r : Result (List ℕ) Fault) → (left_fetched s part r).sent ≡ s.sent + length (octets_fetched r)
counted_fetched s part (Ok frame) = refl
counted_fetched s part (Err fault) = sym (add-zero s.sent)

-- what goes out is counted
counted : (table : Table) (s : StreamState) (d : Due) → (left_due table s d).sent ≡ s.sent + length (octets_due table s d)
counted table s StartUp = refl
counted table s (LastWord payload) = refl
counted table s (Ready rtr) = refl
counted table s (Response part) = counted_fetched s part (frame_fetched table s part)
counted table s (NextPart part) = refl
counted table s NoneDue = sym (add-zero s.sent)

pub sent_after : (e : EndpointState) (number : ℕ) → has_stream e number ≡ true → sent_at (after_emit e number) number ≡ sent_at e number + length (emitted_at e number)
sent_after e number there =
    ap (λ (o : Option StreamState). (unwrap_or o unopened).sent) (left_there e number there) ∙ counted e.table (stream_at e number) (due (stream_at e number))
