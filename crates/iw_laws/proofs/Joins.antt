-- What the segments that had their turn come to, whoever sent them: how many Sends were received, and the octets that were placed.
use Rattle.std.proofs.Common.{◌≡◌, ℕ, ◌+◌, List, [], ◌∷◌, ◌++◌, length, Option, Some, None, Bool, true, false, cond, refl, sym, ap, ◌∙◌, subst, arith, append_assoc, length-append}
use Rattle.std.specs.Prelude.{nat_eq}
use Rattle.std.specs.Option.{option_map}
use Rattle.std.proofs.lemmas.List.{append-nil}
use Rattle.std.proofs.lemmas.Bool.{false≢true, true≢false}
use Rattle.iw_octets.specs.declared.head.TaggedHead.{TaggedHead}
use Rattle.iw_octets.specs.declared.head.UntaggedHead.{UntaggedHead}
use Rattle.iw_queues.specs.declared.request.Request.{Request}
use Rattle.iw_queues.specs.declared.request.Request.TheVariants.{Message as Posted, Read}
use Rattle.iw_octets.specs.declared.message.Message.TheVariants.{Write, Send}
use Rattle.iw_octets.specs.declared.segment.Segment.{Segment}
use Rattle.iw_octets.specs.declared.segment.Segment.TheVariants.{Tagged, Untagged}
use Rattle.iw_octets.specs.declared.payload.ReadRequest.{ReadRequest}
use Rattle.iw_octets.specs.Payload.{request_fields}
use Rattle.iw_octets.specs.declared.operation.UntaggedOperation.{UntaggedOperation}
use Rattle.iw_octets.specs.declared.operation.UntaggedOperation.TheVariants as operations
use Rattle.iw_octets.specs.Stag.{stag_of}
use Rattle.iw_stream.specs.Judging.{has_stag, stag_to_invalidate}
use Rattle.iw_stream.specs.Judging as judging
use Rattle.iw_queues.specs.Joined.{Whole, Cell, joined, completed, is_solicited, is_invalidating, count_in, count_writes, count_segments}
use Rattle.iw_octets.specs.Operation.{opcode_of, untagged_operation}
use Rattle.iw_untagged.specs.Receiving.{Receiving, ahead_of, oldest, with_buffer, turned, finished, turn_fault}
use Rattle.std.proofs.lemmas.List.Concat.{flat_map-append}
use Rattle.iw_memory.specs.declared.rights.Right.TheVariants as rights
use Rattle.iw_laws.specs.Words.{Octets, Sent, Placing, written_by, written, sunk_by, sunk, as_write}
use Rattle.iw_untagged.specs.Receiving as receiving

-- the octets of the Send that was begun and is not complete, these having come before
abbrev pub begun : List ℕ → List (Segment Octets) → List ℕ
begun sofar [] = sofar
begun sofar (Tagged head octets ∷ ss) = begun sofar ss
begun sofar (Untagged head octets ∷ ss) = cond (nat_eq head.queue 0) (cond head.last (begun [] ss) (begun (sofar ++ octets) ss)) (begun sofar ss)

-- a Send that segments complete, as it is received
abbrev pub told : Whole → Sent
told w = record { octets = w.octets; solicited = w.solicited; invalidate = option_map stag_of w.invalidate }

-- ---- one more segment

pub joined-append : (sofar : List ℕ) (xs ys : List (Segment Octets)) → joined sofar (xs ++ ys) ≡ joined sofar xs ++ joined (begun sofar xs) ys
joined-append sofar [] ys = refl
joined-append sofar (Tagged head octets ∷ xs) ys = joined-append sofar xs ys
joined-append sofar (Untagged head octets ∷ xs) ys = go (λ z. joined-append z xs ys) (nat_eq head.queue 0) head.last
  where
    go : ((z : List ℕ) → joined z (xs ++ ys) ≡ joined z xs ++ joined (begun z xs) ys) → (mine last : Bool)
        → cond mine (cond last (completed head (sofar ++ octets) ∷ joined [] (xs ++ ys)) (joined (sofar ++ octets) (xs ++ ys))) (joined sofar (xs ++ ys))
        ≡ cond mine (cond last (completed head (sofar ++ octets) ∷ joined [] xs) (joined (sofar ++ octets) xs)) (joined sofar xs)
        ++ joined (cond mine (cond last (begun [] xs) (begun (sofar ++ octets) xs)) (begun sofar xs)) ys
    go same true true = ap (λ z. completed head (sofar ++ octets) ∷ z) (same [])
    go same true false = same (sofar ++ octets)
    go same false last = same sofar

pub begun-append : (sofar : List ℕ) (xs ys : List (Segment Octets)) → begun sofar (xs ++ ys) ≡ begun (begun sofar xs) ys
begun-append sofar [] ys = refl
begun-append sofar (Tagged head octets ∷ xs) ys = begun-append sofar xs ys
begun-append sofar (Untagged head octets ∷ xs) ys = go (λ z. begun-append z xs ys) (nat_eq head.queue 0) head.last
  where
    go : ((z : List ℕ) → begun z (xs ++ ys) ≡ begun (begun z xs) ys) → (mine last : Bool)
        → cond mine (cond last (begun [] (xs ++ ys)) (begun (sofar ++ octets) (xs ++ ys))) (begun sofar (xs ++ ys))
        ≡ begun (cond mine (cond last (begun [] xs) (begun (sofar ++ octets) xs)) (begun sofar xs)) ys
    go same true true = same []
    go same true false = same (sofar ++ octets)
    go same false last = same sofar

pub count-append : (c : Cell) (xs ys : List (Segment Octets)) → count_segments c (xs ++ ys) ≡ count_segments c xs + count_segments c ys
count-append c [] ys = omega arith
count-append c (Tagged head octets ∷ xs) ys = let rest = count-append c xs ys in omega (arith, rest)
count-append c (Untagged head octets ∷ xs) ys = count-append c xs ys

pub count_writes-append : (c : Cell) (xs ys : List (Request Octets)) → count_writes c (xs ++ ys) ≡ count_writes c xs + count_writes c ys
count_writes-append c [] ys = omega arith
count_writes-append c (Posted (Write stag to octets) ∷ xs) ys = let rest = count_writes-append c xs ys in omega (arith, rest)
count_writes-append c (Posted (Send octets solicited invalidate) ∷ xs) ys = count_writes-append c xs ys
count_writes-append c (Read request ∷ xs) ys = count_writes-append c xs ys

-- how often a cell is among the octets of the segments of responses
abbrev pub count_responses : Cell → List (Segment Octets) → ℕ
count_responses c [] = 0
count_responses c (Tagged head octets ∷ ss) = cond (nat_eq (opcode_of head.control) 2) (count_in c head.stag head.to octets) 0 + count_responses c ss
count_responses c (Untagged head octets ∷ ss) = count_responses c ss

pub responses-append : (c : Cell) (xs ys : List (Segment Octets)) → count_responses c (xs ++ ys) ≡ count_responses c xs + count_responses c ys
responses-append c [] ys = omega arith
responses-append c (Tagged head octets ∷ xs) ys = let rest = responses-append c xs ys in omega (arith, rest)
responses-append c (Untagged head octets ∷ xs) ys = responses-append c xs ys

-- how many of the segments are the last of a response
abbrev pub count_ended : List (Segment Octets) → ℕ
count_ended [] = 0
count_ended (Tagged head octets ∷ ss) = cond (nat_eq (opcode_of head.control) 2) (cond head.last 1 0) 0 + count_ended ss
count_ended (Untagged head octets ∷ ss) = count_ended ss

pub ended-append : (xs ys : List (Segment Octets)) → count_ended (xs ++ ys) ≡ count_ended xs + count_ended ys
ended-append [] ys = omega arith
ended-append (Tagged head octets ∷ xs) ys = let rest = ended-append xs ys in omega (arith, rest)
ended-append (Untagged head octets ∷ xs) ys = ended-append xs ys

-- the Reads that the segments ask for
abbrev pub requests_in : List (Segment Octets) → List ReadRequest
requests_in [] = []
requests_in (Tagged head octets ∷ ss) = requests_in ss
requests_in (Untagged head octets ∷ ss) = cond (nat_eq head.queue 1) (request_fields octets ∷ []) [] ++ requests_in ss

pub requests-append : (xs ys : List (Segment Octets)) → requests_in (xs ++ ys) ≡ requests_in xs ++ requests_in ys
requests-append [] ys = refl
requests-append (Tagged head octets ∷ xs) ys = requests-append xs ys
requests-append (Untagged head octets ∷ xs) ys =
    let one : List ReadRequest = cond (nat_eq head.queue 1) (request_fields octets ∷ []) [] in
    ap (λ z. one ++ z) (requests-append xs ys) ∙ sym (append_assoc one (requests_in xs) (requests_in ys))

pub requests_plain : (xs : List (Segment Octets)) (head : UntaggedHead) (octets : Octets) → head.queue ≡ 0 → requests_in (xs ++ Untagged head octets ∷ []) ≡ requests_in xs
requests_plain xs head octets queue =
    requests-append xs (Untagged head octets ∷ []) ∙ ap (λ q. requests_in xs ++ (cond (nat_eq q 1) (request_fields octets ∷ []) [] ++ [])) queue ∙ append-nil (requests_in xs)

pub requests_more : (xs : List (Segment Octets)) (head : UntaggedHead) (octets : Octets) → head.queue ≡ 1 → requests_in (xs ++ Untagged head octets ∷ []) ≡ requests_in xs ++ request_fields octets ∷ []
requests_more xs head octets queue =
    requests-append xs (Untagged head octets ∷ []) ∙ ap (λ q. requests_in xs ++ (cond (nat_eq q 1) (request_fields octets ∷ []) [] ++ [])) queue

-- what was answered, and what was asked, by the segments that had their turn
pub record Tells (answered : ℕ) (asked : List ReadRequest) (segments : List (Segment Octets)) : Type 0 where
  pub answered_are : answered ≡ count_ended segments
  pub asked_are : asked ≡ requests_in segments

-- a Send's segment tells nothing of Reads
pub plain_tells : {answered : ℕ} {asked : List ReadRequest} (segments : List (Segment Octets)) (head : UntaggedHead) (payload : Octets) → head.queue ≡ 0 → Tells answered asked segments
    → Tells answered asked (segments ++ Untagged head payload ∷ [])
plain_tells segments head payload queue k = record {
  answered_are = omega (arith, k.answered_are, ended-append segments (Untagged head payload ∷ []));
  asked_are = k.asked_are ∙ sym (requests_plain segments head payload queue);
}

-- nor does a Terminate's
pub last_tells : {answered : ℕ} {asked : List ReadRequest} (segments : List (Segment Octets)) (head : UntaggedHead) (payload : Octets) → head.queue ≡ 2 → Tells answered asked segments
    → Tells answered asked (segments ++ Untagged head payload ∷ [])
last_tells segments head payload queue k = record {
  answered_are = omega (arith, k.answered_are, ended-append segments (Untagged head payload ∷ []));
  asked_are = k.asked_are ∙ sym (requests-append segments (Untagged head payload ∷ [])
      ∙ ap (λ q. requests_in segments ++ (cond (nat_eq q 1) (request_fields payload ∷ []) [] ++ [])) queue ∙ append-nil (requests_in segments));
}

-- one more placement
pub written-push : (c : Cell) (ps : List Placing) (p : Placing) → count_writes c (written (ps ++ p ∷ [])) ≡ count_writes c (written ps) + count_writes c (written_by p.right (as_write p))
written-push c ps p =
    ap (count_writes c) (flat_map-append (λ (q : Placing). written_by q.right (as_write q)) ps (p ∷ []) ∙ ap (λ z. written ps ++ z) (append-nil (written_by p.right (as_write p))))
    ∙ count_writes-append c (written ps) (written_by p.right (as_write p))

pub sunk-push : (c : Cell) (ps : List Placing) (p : Placing) → count_writes c (sunk (ps ++ p ∷ [])) ≡ count_writes c (sunk ps) + count_writes c (sunk_by p.right (as_write p))
sunk-push c ps p =
    ap (count_writes c) (flat_map-append (λ (q : Placing). sunk_by q.right (as_write q)) ps (p ∷ []) ∙ ap (λ z. sunk ps ++ z) (append-nil (sunk_by p.right (as_write p))))
    ∙ count_writes-append c (sunk ps) (sunk_by p.right (as_write p))

-- an untagged segment that was placed is a Send's
abbrev pub Waits : Option (Segment Octets) → Type 0
Waits None = ⊥
Waits (Some (Tagged head payload)) = Unit {0}
Waits (Some (Untagged head payload)) = head.queue ≡ 0

-- ---- what had its turn, in all

-- how often a cell is in the segment that was placed and waits for its turn
abbrev pub count_waiting : Cell → Bool → Option (Segment Octets) → ℕ
count_waiting c false o = 0
count_waiting c true None = 0
count_waiting c true (Some segment) = count_segments c (segment ∷ [])

abbrev pub sunk_waiting : Cell → Bool → Option (Segment Octets) → ℕ
sunk_waiting c false o = 0
sunk_waiting c true None = 0
sunk_waiting c true (Some segment) = count_responses c (segment ∷ [])

pub record Joins (segments : List (Segment Octets)) (r : Receiving) (placed ended : Bool) (o : Option (Segment Octets)) (received : List Sent) (placements : List Placing) : Type 0 where
  pub completed_are : length received ≡ length (joined [] segments)
  pub begun_are : ended ≡ false → r.turned ≡ length (begun [] segments)
  pub waits : ended ≡ false → placed ≡ true → Waits o
  pub counted : (c : Cell) → count_writes c (written placements) ≡ count_segments c segments + count_waiting c placed o
  pub sunk_are : (c : Cell) → count_writes c (sunk placements) ≡ count_responses c segments + sunk_waiting c placed o

-- the same of values that are equal
pub reshape : {segments : List (Segment Octets)} {r r' : Receiving} {placed placed' ended ended' : Bool} {o o' : Option (Segment Octets)} {received received' : List Sent} {placements placements' : List Placing}
    → r ≡ r' → placed ≡ placed' → ended ≡ ended' → o ≡ o' → received ≡ received' → placements ≡ placements' → Joins segments r placed ended o received placements → Joins segments r' placed' ended' o' received' placements'
reshape {segments} {r} {r'} {placed} {placed'} {ended} {ended'} {o} {o'} {received} {received'} {placements} {placements'} a b c d e f j =
    subst (λ z. Joins segments r' placed' ended' o' received' z) f
    (subst (λ z. Joins segments r' placed' ended' o' z placements) e
    (subst (λ z. Joins segments r' placed' ended' z received placements) d
    (subst (λ z. Joins segments r' placed' z o received placements) c
    (subst (λ z. Joins segments r' z ended o received placements) b (subst (λ z. Joins segments z placed ended o received placements) a j)))))

-- nothing is received, and nothing placed
pub joins_same : (segments : List (Segment Octets)) (r : Receiving) (placed ended : Bool) (o : Option (Segment Octets)) (received : List Sent) (placements : List Placing)
    → Joins segments r placed ended o received placements → Joins segments r placed ended o (received ++ []) (placements ++ [])
joins_same segments r placed ended o received placements j =
    subst (λ x. Joins segments r placed ended o x (placements ++ [])) (sym (append-nil received)) (subst (Joins segments r placed ended o received) (sym (append-nil placements)) j)

-- a buffer is posted
pub joins_buffer : (segments : List (Segment Octets)) (r : Receiving) (placed ended : Bool) (o : Option (Segment Octets)) (received : List Sent) (placements : List Placing) (new : List ℕ)
    → Joins segments r placed ended o received placements → Joins segments (with_buffer r new) placed ended o received placements
joins_buffer segments r placed ended o received placements new j = record {
  completed_are = j.completed_are;
  begun_are = j.begun_are;
  waits = j.waits;
  counted = j.counted;
  sunk_are = j.sunk_are;
}

-- more octets come: the segment that waits stays
pub joins_front : (segments : List (Segment Octets)) (r : Receiving) (placed ended : Bool) (o o' : Option (Segment Octets)) (received : List Sent) (placements : List Placing)
    → (placed ≡ true → o' ≡ o) → Joins segments r placed ended o received placements → Joins segments r placed ended o' received placements
joins_front segments r placed ended o o' received placements same j = record {
  completed_are = j.completed_are;
  begun_are = j.begun_are;
  waits = λ e p. subst Waits (sym (same p)) (j.waits e p);
  counted = λ c. j.counted c ∙ ap (λ n. count_segments c segments + n) (go c placed same);
  sunk_are = λ c. j.sunk_are c ∙ ap (λ n. count_responses c segments + n) (sinks c placed same);
}
  where
    sinks : (c : Cell) (placed : Bool) → (placed ≡ true → o' ≡ o) → sunk_waiting c placed o ≡ sunk_waiting c placed o'
    sinks c false h = refl
    sinks c true h = ap (sunk_waiting c true) (sym (h refl))

    go : (c : Cell) (placed : Bool) → (placed ≡ true → o' ≡ o) → count_waiting c placed o ≡ count_waiting c placed o'
    go c false h = refl
    go c true h = ap (count_waiting c true) (sym (h refl))

-- the stream ends
pub joins_end : (segments : List (Segment Octets)) (r : Receiving) (placed ended : Bool) (o : Option (Segment Octets)) (received : List Sent) (placements : List Placing)
    → Joins segments r placed ended o received placements → Joins segments r placed true o received placements
joins_end segments r placed ended o received placements j = record {
  completed_are = j.completed_are;
  begun_are = λ e. absurd (true≢false e);
  waits = λ e. absurd (true≢false e);
  counted = j.counted;
  sunk_are = j.sunk_are;
}

-- a Write's segment is placed
pub joins_write : (segments : List (Segment Octets)) (r : Receiving) (head : TaggedHead) (payload : Octets) (received : List Sent) (placements : List Placing) → opcode_of head.control ≡ 0
    → Joins segments r false false (Some (Tagged head payload)) received placements
    → Joins segments r true false (Some (Tagged head payload)) received (placements ++ record { right = rights.Write; stag = head.stag; to = head.to; octets = payload } ∷ [])
joins_write segments r head payload received placements op j =
    let p : Placing = record { right = rights.Write; stag = head.stag; to = head.to; octets = payload } in
    record {
      completed_are = j.completed_are;
      begun_are = j.begun_are;
      waits = λ e p. tt;
      counted = λ c.
          let one : count_segments c (Tagged head payload ∷ []) ≡ count_in c head.stag head.to payload + 0 = ap (λ n. cond (nat_eq n 0) (count_in c head.stag head.to payload) 0 + 0) op in
          omega (arith, written-push c placements p, j.counted c, one);
      sunk_are = λ c.
          let none : count_responses c (Tagged head payload ∷ []) ≡ 0 = ap (λ n. cond (nat_eq n 2) (count_in c head.stag head.to payload) 0 + 0) op in
          omega (arith, sunk-push c placements p, j.sunk_are c, none);
    }

-- part of a response is placed
pub joins_response : (segments : List (Segment Octets)) (r : Receiving) (head : TaggedHead) (payload : Octets) (received : List Sent) (placements : List Placing) → opcode_of head.control ≡ 2
    → Joins segments r false false (Some (Tagged head payload)) received placements
    → Joins segments r true false (Some (Tagged head payload)) received (placements ++ record { right = rights.Sink; stag = head.stag; to = head.to; octets = payload } ∷ [])
joins_response segments r head payload received placements op j =
    let p : Placing = record { right = rights.Sink; stag = head.stag; to = head.to; octets = payload } in
    record {
      completed_are = j.completed_are;
      begun_are = j.begun_are;
      waits = λ e p. tt;
      counted = λ c.
          let none : count_segments c (Tagged head payload ∷ []) ≡ 0 = ap (λ n. cond (nat_eq n 0) (count_in c head.stag head.to payload) 0 + 0) op in
          omega (arith, written-push c placements p, j.counted c, none);
      sunk_are = λ c.
          let one : count_responses c (Tagged head payload ∷ []) ≡ count_in c head.stag head.to payload + 0 = ap (λ n. cond (nat_eq n 2) (count_in c head.stag head.to payload) 0 + 0) op in
          omega (arith, sunk-push c placements p, j.sunk_are c, one);
    }

-- a Send's segment is placed
pub joins_send : (segments : List (Segment Octets)) (r : Receiving) (head : UntaggedHead) (payload : Octets) (received : List Sent) (placements : List Placing) → head.queue ≡ 0
    → Joins segments r false false (Some (Untagged head payload)) received placements → Joins segments r true false (Some (Untagged head payload)) received placements
joins_send segments r head payload received placements queue j = record {
  completed_are = j.completed_are;
  begun_are = j.begun_are;
  waits = λ e p. queue;
  counted = j.counted;
  sunk_are = j.sunk_are;
}

-- what is written into a buffer
pub joins_written : (segments : List (Segment Octets)) (r : Receiving) (msn mo : ℕ) (octets : Octets) (placed ended : Bool) (o : Option (Segment Octets)) (received : List Sent) (placements : List Placing)
    → Joins segments r placed ended o received placements → Joins segments (receiving.written r msn mo octets) placed ended o received placements
joins_written segments r msn mo octets placed ended o received placements j = record { completed_are = j.completed_are; begun_are = j.begun_are; waits = j.waits; counted = j.counted; sunk_are = j.sunk_are }

-- a Write's segment has its turn
pub joins_tagged : (segments : List (Segment Octets)) (r : Receiving) (head : TaggedHead) (payload : Octets) (o' : Option (Segment Octets)) (received : List Sent) (placements : List Placing)
    → Joins segments r true false (Some (Tagged head payload)) received placements → Joins (segments ++ Tagged head payload ∷ []) r false false o' received placements
joins_tagged segments r head payload o' received placements j =
    let same : begun [] (segments ++ Tagged head payload ∷ []) ≡ begun [] segments = begun-append [] segments (Tagged head payload ∷ []) in
    record {
      completed_are = j.completed_are ∙ ap length (sym (append-nil (joined [] segments)) ∙ sym (joined-append [] segments (Tagged head payload ∷ [])));
      begun_are = λ e. j.begun_are e ∙ ap length (sym same);
      waits = λ e p. absurd (false≢true p);
      counted = λ c. omega (arith, j.counted c, count-append c segments (Tagged head payload ∷ []));
      sunk_are = λ c. omega (arith, j.sunk_are c, responses-append c segments (Tagged head payload ∷ []));
    }

-- an untagged segment has its turn that is no Send's
pub joins_other : (segments : List (Segment Octets)) (r : Receiving) (head : UntaggedHead) (payload : Octets) (o' : Option (Segment Octets)) (received : List Sent) (placements : List Placing) → nat_eq head.queue 0 ≡ false
    → Joins segments r false false (Some (Untagged head payload)) received placements → Joins (segments ++ Untagged head payload ∷ []) r false false o' received placements
joins_other segments r head payload o' received placements queue j =
    let same : begun [] (segments ++ Untagged head payload ∷ []) ≡ begun [] segments =
    begun-append [] segments (Untagged head payload ∷ []) ∙ ap (λ mine. cond mine (cond head.last [] (begun [] segments ++ payload)) (begun [] segments)) queue in
    record {
      completed_are = j.completed_are
          ∙ ap length (sym (append-nil (joined [] segments))
          ∙ ap (λ mine. joined [] segments ++ cond mine (cond head.last (completed head (begun [] segments ++ payload) ∷ []) []) []) (sym queue) ∙ sym (joined-append [] segments (Untagged head payload ∷ [])));
      begun_are = λ e. j.begun_are e ∙ ap length (sym same);
      waits = λ e p. absurd (false≢true p);
      counted = λ c. omega (arith, j.counted c, count-append c segments (Untagged head payload ∷ []));
      sunk_are = λ c. omega (arith, j.sunk_are c, responses-append c segments (Untagged head payload ∷ []));
    }

-- a buffer is handed back of a stream that has ended
pub joins_over : (segments : List (Segment Octets)) (r r' : Receiving) (placed : Bool) (o : Option (Segment Octets)) (received : List Sent) (placements : List Placing)
    → Joins segments r placed true o received placements → Joins segments r' placed true o received placements
joins_over segments r r' placed o received placements j = record {
  completed_are = j.completed_are;
  begun_are = λ e. absurd (true≢false e);
  waits = λ e. absurd (true≢false e);
  counted = j.counted;
  sunk_are = j.sunk_are;
}

-- the octets of a Send's segment behind those that came before
pub begun_next : (segments : List (Segment Octets)) (head : UntaggedHead) (payload : Octets) → head.queue ≡ 0 → begun [] (segments ++ Untagged head payload ∷ []) ≡ cond head.last [] (begun [] segments ++ payload)
begun_next segments head payload queue =
    begun-append [] segments (Untagged head payload ∷ []) ∙ ap (λ n. cond (nat_eq n 0) (cond head.last [] (begun [] segments ++ payload)) (begun [] segments)) queue

pub joined_next : (segments : List (Segment Octets)) (head : UntaggedHead) (payload : Octets) → head.queue ≡ 0
    → joined [] (segments ++ Untagged head payload ∷ []) ≡ joined [] segments ++ cond head.last (completed head (begun [] segments ++ payload) ∷ []) []
joined_next segments head payload queue =
    joined-append [] segments (Untagged head payload ∷ [])
    ∙ ap (λ n. joined [] segments ++ cond (nat_eq n 0) (cond head.last (completed head (begun [] segments ++ payload) ∷ []) []) []) queue

-- a Send's segment that is not its last has its turn
pub joins_part : (segments : List (Segment Octets)) (r : Receiving) (head : UntaggedHead) (payload : Octets) (o' : Option (Segment Octets)) (received : List Sent) (placements : List Placing)
    → head.last ≡ false → Joins segments r true false (Some (Untagged head payload)) received placements
    → Joins (segments ++ Untagged head payload ∷ []) (turned r (length payload)) false false o' received placements
joins_part segments r head payload o' received placements last j =
    let queue : head.queue ≡ 0 = j.waits refl refl in
    let next : begun [] (segments ++ Untagged head payload ∷ []) ≡ begun [] segments ++ payload = begun_next segments head payload queue ∙ ap (λ b. cond b [] (begun [] segments ++ payload)) last in
    let joined_is : joined [] (segments ++ Untagged head payload ∷ []) ≡ joined [] segments =
    joined_next segments head payload queue ∙ ap (λ b. joined [] segments ++ cond b (completed head (begun [] segments ++ payload) ∷ []) []) last ∙ append-nil (joined [] segments) in
    record {
      completed_are = j.completed_are ∙ ap length (sym joined_is);
      begun_are = λ e. omega (arith, j.begun_are refl, ap length next, length-append (begun [] segments) payload);
      waits = λ e p. absurd (false≢true p);
      counted = λ c. omega (arith, j.counted c, count-append c segments (Untagged head payload ∷ []));
      sunk_are = λ c. omega (arith, j.sunk_are c, responses-append c segments (Untagged head payload ∷ []));
    }

-- a Send's last segment has its turn: the Send is received
pub joins_last : (segments : List (Segment Octets)) (r : Receiving) (head : UntaggedHead) (payload : Octets) (o' : Option (Segment Octets)) (received : List Sent) (new : Sent) (placements : List Placing)
    → head.last ≡ true → Joins segments r true false (Some (Untagged head payload)) received placements
    → Joins (segments ++ Untagged head payload ∷ []) (finished r) false false o' (received ++ new ∷ []) placements
joins_last segments r head payload o' received new placements last j =
    let queue : head.queue ≡ 0 = j.waits refl refl in
    let next : begun [] (segments ++ Untagged head payload ∷ []) ≡ [] = begun_next segments head payload queue ∙ ap (λ b. cond b [] (begun [] segments ++ payload)) last in
    let one : List Whole = completed head (begun [] segments ++ payload) ∷ [] in
    let joined_is : joined [] (segments ++ Untagged head payload ∷ []) ≡ joined [] segments ++ one = joined_next segments head payload queue ∙ ap (λ b. joined [] segments ++ cond b one []) last in
    record {
      completed_are = omega (arith, j.completed_are, ap length joined_is, length-append (joined [] segments) one, length-append received (new ∷ []));
      begun_are = λ e. ap length (sym next);
      waits = λ e p. absurd (false≢true p);
      counted = λ c. omega (arith, j.counted c, count-append c segments (Untagged head payload ∷ []));
      sunk_are = λ c. omega (arith, j.sunk_are c, responses-append c segments (Untagged head payload ∷ []));
    }

-- ---- what a last segment says of the Send that it completes

same_solicited : (o : Option UntaggedOperation) → judging.is_solicited o ≡ is_solicited o
same_solicited None = refl
same_solicited (Some operations.ReadRequest) = refl
same_solicited (Some (operations.Send solicited invalidates)) = refl
same_solicited (Some operations.Terminate) = refl

same_stag : (o : Option UntaggedOperation) (tail : ℕ) → cond (has_stag o) (Some (stag_of tail)) None ≡ option_map stag_of (cond (is_invalidating o) (Some tail) None)
same_stag None tail = refl
same_stag (Some operations.ReadRequest) tail = refl
same_stag (Some (operations.Send solicited true)) tail = refl
same_stag (Some (operations.Send solicited false)) tail = refl
same_stag (Some operations.Terminate) tail = refl

-- what is received is the Send that its last segment completes
pub completed_told : (head : UntaggedHead) (octets : Octets)
    → record { octets = octets; solicited = judging.is_solicited (untagged_operation (opcode_of head.control)); invalidate = stag_to_invalidate head } ≡ told (completed head octets)
completed_told head octets =
    let operation : Option UntaggedOperation = untagged_operation (opcode_of head.control) in
    λ i. record { octets = octets; solicited = same_solicited operation i; invalidate = same_stag operation head.tail i }
