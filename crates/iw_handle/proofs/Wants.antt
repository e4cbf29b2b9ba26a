-- Something is due just if the next call of emit reports something.
use Rattle.std.proofs.Common.{◌≡◌, ℕ, List, true, refl, Ok, Err}
use Rattle.std.specs.Prelude.{◌==◌, not, Result}
use Rattle.iw_octets.specs.declared.fault.Fault.{Fault}
use Rattle.iw_memory.specs.Table.{Table}
use Rattle.iw_reads.specs.declared.response.ResponsePart.{ResponsePart}
use Rattle.iw_stream.specs.Stream.{StreamState, Due, StartUp, LastWord, Ready, Response, NextPart, NoneDue, due, is_none_due, emission_due, emission_fetched, emission_of, frame_fetched}
use Rattle.iw_codes.specs.declared.numbers.TheConstants as numbers
use Rattle.iw_handle.specs.Events.{emitted_of}

pub due_is_reported : (table : Table) (s : StreamState) → not (is_none_due (due s)) ≡ not ((emitted_of (emission_of table s)).kind == numbers.NOTHING)
due_is_reported table s = go (due s)
  where
    fetched : (part : ResponsePart) (r : Result (List ℕ) Fault) → true ≡ not ((emitted_of (emission_fetched s part r)).kind == numbers.NOTHING)
    fetched part (Ok frame) = refl
    fetched part (Err fault) = refl

    go : (d : Due) → not (is_none_due d) ≡ not ((emitted_of (emission_due table s d)).kind == numbers.NOTHING)
    go StartUp = refl
    go (LastWord payload) = refl
    go (Ready rtr) = refl
    go (Response part) = fetched part (frame_fetched table s part)
    go (NextPart part) = refl
    go NoneDue = refl
