-- What holds of the definitions.
use Rattle.std.specs.Prelude.{ℕ, ◌≡◌, ◌≢◌, ◌+◌, ◌%◌, ◌^◌, ◌<◌, List, [], ◌∷◌, length, take, drop, replicate, unwrap_or, IsSome, Some, None}
use Rattle.iw_octets.specs.declared.fault.TheConstants.Fault as faults
use Rattle.iw_untagged.specs.Receiving.{Source, Posted, Receiving, receiving_from, sharing, HoldsPlaces, lent, pool_in, ahead_of, buffer_in, buffer_for, buffer_fault, bound_to, turn_fault, written, turned, received, finished, first_buffer, flushed}

-- the oldest buffer is for the due message, and each next buffer for the next number, modulo 2^32
abbrev pub NumbersFollow : Type 0
NumbersFollow = (due i : ℕ) → due < 2 ^ 32 → i < 2 ^ 32 → ahead_of due ((due + i) % 2 ^ 32) ≡ i

-- the octets of the buffer that a segment goes to, before and after it is placed
abbrev pub octets_before : Receiving → ℕ → List ℕ
octets_before r msn = unwrap_or (buffer_for r.source (ahead_of r.due msn)) []

abbrev pub octets_after : Receiving → ℕ → ℕ → List ℕ → List ℕ
octets_after r msn mo octets = unwrap_or (buffer_in (written r msn mo octets).source (ahead_of r.due msn)) []

-- that buffer has these octets at mo; what stands before and after them stays, and so do all other buffers
pub record PlacesAt (r : Receiving) (msn mo : ℕ) (octets : List ℕ) : Type 0 where
  pub there : take (length octets) (drop mo (octets_after r msn mo octets)) ≡ octets
  pub before : take mo (octets_after r msn mo octets) ≡ take mo (octets_before r msn)
  pub beyond : drop (mo + length octets) (octets_after r msn mo octets) ≡ drop (mo + length octets) (octets_before r msn)
  pub as_long : length (octets_after r msn mo octets) ≡ length (octets_before r msn)
  pub others : (i : ℕ) → i ≢ ahead_of r.due msn → buffer_in (written r msn mo octets).source i ≡ buffer_in r.source i

abbrev pub PlacesThereAlone : Type 0
PlacesThereAlone =
    (r : Receiving) (msn mo : ℕ) (octets : List ℕ) → buffer_fault r msn mo (length octets) ≡ None → PlacesAt r msn mo octets

-- the pool's oldest buffer is bound to a message that has none, and to no other; one that has a buffer keeps it, and the pool stays
pub record BindsAt (source : Source) (ahead : ℕ) : Type 0 where
  pub there : HoldsPlaces source → ahead < 256 → buffer_in (bound_to source ahead) ahead ≡ buffer_for source ahead
  pub others : (i : ℕ) → i ≢ ahead → buffer_in (bound_to source ahead) i ≡ buffer_in source i
  pub kept : IsSome (buffer_in source ahead) → bound_to source ahead ≡ source

abbrev pub BindsThereAlone : Type 0
BindsThereAlone = (source : Source) (ahead : ℕ) → BindsAt source ahead

-- two buffers of one octet; the numbers wrap after the first message
abbrev pub last_number : ℕ
last_number = 0xffff_ffff

abbrev pub two_posted : Receiving
two_posted = record (receiving_from last_number) { source = Posted ((0 ∷ []) ∷ (0 ∷ []) ∷ []) }

-- the values that the definitions have there
pub record KnownAnswers : Type 0 where
  pub oldest : buffer_fault two_posted last_number 0 1 ≡ None
  pub youngest : buffer_fault two_posted 0 0 1 ≡ None
  pub not_posted : buffer_fault two_posted 1 0 1 ≡ Some faults.UNTAGGED_NO_BUFFER
  pub last_in_range : buffer_fault two_posted 254 0 1 ≡ Some faults.UNTAGGED_NO_BUFFER
  pub out_of_range : buffer_fault two_posted 255 0 1 ≡ Some faults.UNTAGGED_MSN_RANGE
  pub handed_out : buffer_fault two_posted 0xffff_fffe 0 1 ≡ Some faults.UNTAGGED_MSN_RANGE
  pub too_long : buffer_fault two_posted last_number 0 2 ≡ Some faults.UNTAGGED_TOO_LONG
  pub too_far : buffer_fault two_posted last_number 1 1 ≡ Some faults.UNTAGGED_TOO_LONG
  pub at_the_end : buffer_fault two_posted last_number 1 0 ≡ None
  pub empty_too_far : buffer_fault two_posted last_number 2 0 ≡ Some faults.UNTAGGED_TOO_LONG
  pub not_due : turn_fault two_posted 0 0 ≡ Some faults.UNTAGGED_MSN_RANGE
  pub not_next : turn_fault two_posted last_number 1 ≡ Some faults.UNTAGGED_INVALID_OFFSET
  pub first : received (turned (written two_posted last_number 0 (0xaa ∷ [])) 1) ≡ record { msn = last_number; buffer = 0xaa ∷ []; len = 1 }
  pub second : received (turned (written (finished two_posted) 0 0 (0xbb ∷ [])) 1) ≡ record { msn = 0; buffer = 0xbb ∷ []; len = 1 }

-- a pool to which one buffer was posted, and a queue that shares it, in which a Send of two octets was placed
abbrev pub one_buffer : List (List ℕ)
one_buffer = (0 ∷ 0 ∷ []) ∷ []

abbrev pub first_placed : Receiving
first_placed = written (lent sharing one_buffer) 1 0 (0x6a ∷ 0x6b ∷ [])

-- a pool to which a buffer of 484 octets was posted, and then one of 2; the second message came first
abbrev pub short_one : List (List ℕ)
short_one = replicate 2 0 ∷ []

abbrev pub two_buffers : List (List ℕ)
two_buffers = replicate 484 0 ∷ short_one

abbrev pub second_placed : Receiving
second_placed = written (lent sharing two_buffers) 2 0 (0x68 ∷ 0x69 ∷ [])

-- the values that the definitions have if queues share a pool
pub record PooledAnswers : Type 0 where
  pub goes_in : buffer_fault (lent sharing one_buffer) 1 0 2 ≡ None
  pub is_taken : pool_in first_placed.source ≡ []
  pub handed_out : received (turned first_placed 2) ≡ record { msn = 1; buffer = 0x6a ∷ 0x6b ∷ []; len = 2 }
  pub none_left : buffer_fault (lent sharing []) 1 0 2 ≡ Some faults.UNTAGGED_NO_BUFFER
  pub too_long : buffer_fault (lent sharing one_buffer) 1 0 3 ≡ Some faults.UNTAGGED_TOO_LONG
  pub last_in_range : buffer_fault (lent sharing one_buffer) 256 0 2 ≡ None
  pub out_of_range : buffer_fault (lent sharing []) 257 0 2 ≡ Some faults.UNTAGGED_MSN_RANGE
  pub comes_first : buffer_fault (lent sharing two_buffers) 2 0 2 ≡ None
  pub oldest_goes : pool_in second_placed.source ≡ short_one
  pub stays_bound : buffer_fault second_placed 1 0 484 ≡ Some faults.UNTAGGED_TOO_LONG
  pub has_room : buffer_fault (lent second_placed []) 2 2 482 ≡ None
  pub handed_back : first_buffer second_placed.source ≡ Some (0x68 ∷ 0x69 ∷ replicate 482 0)
  pub none_more : first_buffer (flushed second_placed).source ≡ None
  pub stays_in_pool : pool_in (flushed second_placed).source ≡ short_one
  pub moves_up : buffer_in (finished second_placed).source 0 ≡ Some (0x68 ∷ 0x69 ∷ replicate 482 0)
