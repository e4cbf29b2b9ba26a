-- What is left of a connection that is over.
use Rattle.std.specs.Prelude.{◌≡◌, ℕ}
use Rattle.std.specs.Prelude.{List}
use Rattle.iw_octets.specs.declared.stag.Stag.{Stag}
use Rattle.iw_stream.specs.declared.answer.Step.{Step}
use Rattle.iw_stream.specs.declared.answer.Step.TheVariants as steps
use Rattle.iw_endpoint.specs.Endpoint.{EndpointState, broken, after_close, deregistered}
use Rattle.iw_connection.specs.Steps.{GoesTo}

-- steps at a stream that has ended, by which it hands back what was posted
pub data HandsBack (number : ℕ) (e : EndpointState) : EndpointState → Type 0 where
  NoStep : HandsBack number e e
  OneMore : (m : EndpointState) (step : Step (List ℕ)) (f : EndpointState) → HandsBack number e m → GoesTo m number step f → HandsBack number e f

-- the stream's link broke, all that was posted was handed back, and then the stream was forgotten
pub record IsForgotten (old : EndpointState) (number : ℕ) (new : EndpointState) : Type 0 where
  pub before : EndpointState
  pub at : EndpointState
  pub hands_back : HandsBack number (broken old number) before
  pub rests : GoesTo before number steps.Idle at
  pub closed : new ≡ after_close at number

-- and its region was taken back
pub record IsGone (old : EndpointState) (number : ℕ) (region : Stag) (new : EndpointState) : Type 0 where
  pub at : EndpointState
  pub forgotten : IsForgotten old number at
  pub taken_back : new ≡ deregistered at region
