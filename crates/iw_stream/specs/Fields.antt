-- What the fields of a stream and of its start-up mean, and what they keep.
use Rattle.std.specs.Prelude.{◌≡◌}
use Rattle.iw_stream.specs.declared.starting.Start.TheInside as start
use Rattle.iw_stream.specs.declared.stream.Stream.TheInside as stream
use Rattle.iw_stream.specs.Emitting.{numbers_of}
use Rattle.iw_stream.specs.Kept.{Keeps}
use Rattle.iw_stream.specs.Starting.{StartState, IsFresh, start_by, is_open, sending, expecting, most_reads_in, rtr_in, first_place_in}
use Rattle.iw_stream.specs.Stream.{StreamState}

abbrev pub start_of : start.Inside → StartState
start_of s = start_by s.frames s.heard s.sending

-- what is asked for often is kept
pub record IsStart (s : start.Inside) : Type 0 where
  pub fresh : IsFresh (start_of s)
  pub running_is : s.running ≡ is_open (start_of s)
  pub sending_is : s.sending ≡ sending (start_of s)
  pub expecting_is : s.expecting ≡ expecting (start_of s)
  pub most_reads_is : s.most_reads ≡ most_reads_in (start_of s)
  pub rtr_is : s.rtr ≡ rtr_in (start_of s)

abbrev pub state_of : {A : Type 0} → stream.Inside A → StreamState
state_of {A} s = record {
  domain = s.domain;
  number = s.number;
  start = s.start;
  mulpdu = s.mulpdu;
  queue = s.queue;
  numbers = numbers_of s.numbers;
  sent = s.sent;
  receiving = s.receiving;
  reads = s.reads;
  asked = s.asked;
  first = s.first;
  answered = s.answered;
  arrived = s.arrived.arrived;
  front = s.front;
  early = s.arrived.early;
  ending = s.ending;
}

-- what came is looked at as the peer's frames are laid out
pub record IsSound {A : Type 0} (s : stream.Inside A) : Type 0 where
  pub keeps : Keeps (state_of s)
  pub layout : s.arrived.layout ≡ expecting s.start
  pub base : s.arrived.base ≡ first_place_in s.start
