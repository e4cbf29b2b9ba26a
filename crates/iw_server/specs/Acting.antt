-- What a server does as the steps of a connection's stream ask.
use Rattle.std.specs.Prelude.{◌≡◌, ℕ, List, take, Bool, true, false, Option, None, Some}
use Rattle.std.specs.Option.{option_map, option_map_or}
use Rattle.arrayvec.specs.ArrayVec.{ArrayVec}
use Rattle.iw_octets.specs.declared.message.Message.TheVariants as messages
use Rattle.iw_octets.specs.declared.stag.Stag.{Stag}
use Rattle.iw_octets.specs.Stag.{spelled}
use Rattle.iw_queues.specs.declared.request.Request.{Request}
use Rattle.iw_queues.specs.declared.request.Request.TheVariants as requests
use Rattle.iw_stream.specs.declared.answer.Step.{Step}
use Rattle.iw_stream.specs.declared.answer.Step.TheVariants as steps
use Rattle.iw_endpoint.specs.Endpoint.{EndpointState, octets_of, invalidated, accepted, with_request, with_buffer}
use Rattle.iw_connection.specs.Steps.{GoesTo, Stops}
use Rattle.iw_server.specs.declared.connection.Connection.{Connection}
use Rattle.iw_server.specs.declared.connection.Phase.{Phase}
use Rattle.iw_server.specs.declared.connection.Phase.TheVariants.{Running, Ended, Closed}

-- what a connection keeps as long as it lives, and what only its output changes
pub record IsSame (old new : Connection) : Type 0 where
  pub stream : new.stream ≡ old.stream
  pub region : new.region ≡ old.region
  pub place : new.place ≡ old.place
  pub unwritten : new.unwritten ≡ old.unwritten

-- how a connection stands at the endpoint
pub record Standing : Type 0 where
  pub endpoint : EndpointState
  pub buffer : Option (List ℕ)  -- the receive buffer, while a Send is answered
  pub phase : Phase
  pub has_received : Bool
  pub has_failed : Bool

abbrev pub standing : EndpointState → Connection → Standing
standing endpoint connection = record {
  endpoint = endpoint;
  buffer = option_map (λ buffer. buffer.items) connection.buffer;
  phase = connection.phase;
  has_received = connection.has_received;
  has_failed = connection.has_failed;
}

-- the private data with which a Request is accepted: the STag of the peer's region
abbrev pub naming : Stag → ArrayVec ℕ
naming region = record { items = spelled region }

abbrev pub send_of : List ℕ → Request (List ℕ)
send_of octets = requests.Message (messages.Send octets false None)

-- The answer to a Send: as many octets of the region, the first ones. They are read once the region is invalid, so that its peer cannot change them any more.
pub record Answers (region : Stag) (number len : ℕ) (e e' : EndpointState) : Type 0 where
  pub octets : List ℕ
  pub front : option_map (take len) (octets_of (invalidated e region) region) ≡ Some octets
  pub posted : e' ≡ with_request (invalidated e region) number (send_of octets)

-- the Request is accepted: the stream is open
abbrev pub opened_as : ℕ → Stag → Standing → Standing
opened_as number region s = record s { endpoint = accepted s.endpoint number (naming region); phase = Running }

-- the answer is out: the receive buffer is posted again
abbrev pub lent_again : ℕ → Standing → Standing
lent_again number s = record s { endpoint = option_map_or (λ buffer. with_buffer s.endpoint number buffer) s.buffer s.endpoint; buffer = None }

abbrev pub over_by_fault : Standing → Standing
over_by_fault s = record s { phase = Ended; has_failed = true }

-- what is done after a step
abbrev pub Does : Stag → ℕ → Step (List ℕ) → Standing → Standing → Type 0
Does region number (steps.Done kind) s t = t ≡ lent_again number s
Does region number (steps.Flushed kind) s t = t ≡ s
Does region number (steps.FlushedRecv buffer) s t = t ≡ s
Does region number steps.Asked s t = t ≡ opened_as number region s
Does region number (steps.Opened agreed) s t = t ≡ s
Does region number (steps.Closed fault) s t = t ≡ record s { phase = Closed; has_failed = true }
Does region number (steps.Placed right stag to len) s t = t ≡ s
Does region number (steps.Buffered msn mo len) s t = t ≡ s
Does region number (steps.Requested size stag to) s t = t ≡ s
Does region number (steps.Tried place) s t = t ≡ s
Does region number steps.Passed s t = t ≡ s
Does region number (steps.Received buffer len solicited invalidate) s t =
    Answers region number len s.endpoint t.endpoint × (t ≡ record s { endpoint = t.endpoint; buffer = Some buffer; has_received = true })
Does region number (steps.Terminated fault) s t = t ≡ over_by_fault s
Does region number (steps.Fault fault) s t = t ≡ over_by_fault s
Does region number steps.Idle s t = t ≡ s

-- the steps that have to be acted on, one after another, and after each what it asks for
pub data Acts (region : Stag) (number : ℕ) (s : Standing) : Standing → Type 0 where
  NoStep : Acts region number s s
  OneMore : (t : Standing) (step : Step (List ℕ)) (e : EndpointState) (u : Standing) → Acts region number s t → GoesTo t.endpoint number step e
      → Does region number step (record t { endpoint = e }) u → Acts region number s u

-- and then there is nothing to do
pub record ActsAll (region : Stag) (number : ℕ) (s u : Standing) : Type 0 where
  pub t : Standing
  pub acts : Acts region number s t
  pub rests : GoesTo t.endpoint number steps.Idle u.endpoint
  pub same : u ≡ record t { endpoint = u.endpoint }

-- or more is to be done in a later turn
pub record ActsOn (region : Stag) (number : ℕ) (s u : Standing) : Type 0 where
  pub t : Standing
  pub acts : Acts region number s t
  pub stops : Stops t.endpoint number u.endpoint
  pub same : u ≡ record t { endpoint = u.endpoint }

abbrev pub HasActedFor : Bool → Stag → ℕ → Standing → Standing → Type 0
HasActedFor true region number s u = ActsAll region number s u
HasActedFor false region number s u = ActsOn region number s u
