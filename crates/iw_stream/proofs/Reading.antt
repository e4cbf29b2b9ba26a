-- The Reads of this end, and the requests of the peer.
use Rattle.std.proofs.Common.{◌≡◌, ◌≢◌, ℕ, zero, suc, ◌+◌, ◌<◌, ◌≤◌, ◌^◌, Bool, true, false, not, nat_lt, if◌then◌else◌, List, [], ◌∷◌, ◌++◌, length, Option, Some, None, Ok, refl, sym, ap, subst, arith}
use Rattle.std.specs.Prelude.{◌==◌}
use Rattle.std.specs.Option.{option_map, option_map_or}
use Rattle.std.specs.List.{slice_get}
use Rattle.std.proofs.lemmas.Bool.Decides.{nat_tests}
use Rattle.std.proofs.lemmas.Option.{none-some, same_Some}
use Rattle.iw_octets.specs.declared.fault.Fault.{Fault}
use Rattle.iw_octets.specs.declared.head.TaggedHead.{TaggedHead}
use Rattle.iw_octets.specs.declared.segment.Segment.{Segment}
use Rattle.iw_octets.specs.declared.segment.Segment.TheVariants.{Tagged, Untagged}
use Rattle.iw_octets.specs.declared.payload.ReadRequest.{ReadRequest}
use Rattle.iw_octets.specs.declared.stag.Stag.{Stag}
use Rattle.iw_octets.specs.Operation.{opcode_of, untagged_operation}
use Rattle.iw_memory.specs.declared.peer.Peer.{Peer}
use Rattle.iw_memory.specs.declared.refusal.Deny.{Deny}
use Rattle.iw_memory.specs.declared.refusal.Deny.TheVariants as denials
use Rattle.iw_memory.specs.declared.rights.Right.TheVariants as rights
use Rattle.iw_memory.specs.Part.{own_region}
use Rattle.iw_memory.specs.Region.{Region, is_in_scope, region_denial, region_denial_for}
use Rattle.iw_memory.specs.Table.{Table, denial_for, part_of}
use Rattle.iw_queues.specs.declared.completions.Done.{Done}
use Rattle.iw_queues.specs.declared.completions.Sent.{Sent}
use Rattle.iw_queues.specs.declared.request.Request.{Request}
use Rattle.iw_queues.specs.declared.request.Request.TheVariants as requests
use Rattle.iw_queues.specs.declared.send_queue.Part.{Part}
use Rattle.iw_queues.specs.Completions.{IsAwaited, place_of, next_ticket}
use Rattle.iw_queues.specs.Completions as completions
use Rattle.iw_queues.specs.Request.{kind_of}
use Rattle.iw_queues.specs.Queue.{Queue, next_part, part_sent, done_in, handed_from, IsWithinLimits}
use Rattle.iw_queues.proofs.Awaited.{awaits}
use Rattle.iw_reads.specs.declared.reads.Outstanding.{Outstanding}
use Rattle.iw_reads.specs.Outstanding.{asked_for, response_turn_fault, reads_turned, finished_read}
use Rattle.iw_reads.specs.Source.{IsInRange, denial_fault, source_fault}
use Rattle.iw_startup.specs.declared.enhanced.Rtr.{Rtr}
use Rattle.iw_startup.specs.declared.enhanced.Rtr.TheVariants.{Write, Read}
use Rattle.iw_untagged.specs.Receiving.{Receiving, turn_fault}
use Rattle.iw_stream.specs.declared.landing.Turning.TheVariants as turnings
use Rattle.iw_stream.specs.Judging.{or_else, fault_or, answering_by, is_response, is_solicited, stag_to_invalidate, send_turning, invalidation_fault, segment_turn, left_by_turn}
use Rattle.iw_stream.specs.Kept.{AreOthers, IsPosting, AreAwaited}
use Rattle.iw_stream.specs.Rtr.{rtr_message, rtr_request}
use Rattle.iw_stream.specs.Stream.{reads_with}

-- ---- Reads that are awaited
-- they stay so if each does
posting_still : (c d : completions.Outstanding) (o : Option ℕ) (later : List Outstanding) → ((ticket : ℕ) → ticket < 2 ^ 64 → IsAwaited c ticket → IsAwaited d ticket) → IsPosting c o later → IsPosting d o later
posting_still c d None later still p = tt
posting_still c d (Some ticket) later still p = (p.0, still ticket p.0 p.1, p.2)

each_still : (c d : completions.Outstanding) (reads : List Outstanding) → ((ticket : ℕ) → ticket < 2 ^ 64 → IsAwaited c ticket → IsAwaited d ticket) → AreAwaited c reads → AreAwaited d reads
each_still c d [] still a = tt
each_still c d (read ∷ reads) still a = (posting_still c d read.ticket reads still a.0, each_still c d reads still a.1)

-- if one message is handed out
pub awaited_handed : (q : Queue) (reads : List Outstanding) → q.sent.first < 2 ^ 64 → AreAwaited q.sent reads → AreAwaited (handed_from q (done_in q)).sent reads
awaited_handed q reads first a = each_still q.sent (handed_from q (done_in q)).sent reads (λ ticket small h. awaits.handed_out q ticket first small h) a

pub first_handed : (q : Queue) (done : Option Done) → q.sent.first < 2 ^ 64 → (handed_from q done).sent.first < 2 ^ 64
first_handed q None first = first
first_handed q (Some done) first = go q.sent.messages
  where
    go : (ms : List Sent) → (handed_from (record q { sent = record { first = q.sent.first; messages = ms } }) (Some done)).sent.first < 2 ^ 64
    go [] = omega arith
    go (m ∷ ms) = omega arith

-- if a part is sent
pub first_sent : (q : Queue) (part : Option (Part (Request (List ℕ)))) → q.sent.first < 2 ^ 64 → (part_sent q part).sent.first < 2 ^ 64
first_sent q None first = first
first_sent q (Some part) first = go part.last
  where
    go : (b : Bool) → (part_sent q (Some (record part { last = b }))).sent.first < 2 ^ 64
    go true = first
    go false = first

-- a place that is taken is one of the list's
taken_place : (xs : List Sent) (i : ℕ) (x : Sent) → slice_get xs i ≡ Some x → i < length xs
taken_place [] i x e = absurd (let no : ⊥ = cc in no)
taken_place (y ∷ ys) zero x e = omega arith
taken_place (y ∷ ys) (suc i) x e = let less = taken_place ys i x e in omega (arith, less)

-- the next ticket is none of theirs
other_ticket : (c : completions.Outstanding) (o : Option ℕ) (later : List Outstanding) → c.first < 2 ^ 64 → length c.messages ≤ 256 → IsPosting c o later → o ≢ Some (next_ticket c)
other_ticket c None later first few p = λ same. none-some (next_ticket c) same
other_ticket c (Some ticket) later first few p = λ same.
    let less : place_of c ticket < length c.messages = taken_place c.messages (place_of c ticket) _ p.1 in
    let is : ticket ≡ next_ticket c = same_Some ticket (next_ticket c) same in
    omega (arith, less, is)

new_ticket : (c : completions.Outstanding) (reads : List Outstanding) → c.first < 2 ^ 64 → length c.messages ≤ 256 → AreAwaited c reads → AreOthers (next_ticket c) reads
new_ticket c [] first few a = tt
new_ticket c (read ∷ reads) first few a = (other_ticket c read.ticket reads first few a.0, new_ticket c reads first few a.1)

others_and : (ticket : ℕ) (reads : List Outstanding) (read : Outstanding) → AreOthers ticket reads → read.ticket ≢ Some ticket → AreOthers ticket (reads ++ read ∷ [])
others_and ticket [] read o apart = (apart, tt)
others_and ticket (r ∷ reads) read o apart = (o.0, others_and ticket reads read o.1 apart)

-- one more, with a ticket of its own
posting_and : (c : completions.Outstanding) (o : Option ℕ) (later : List Outstanding) (ticket : ℕ) (request : ReadRequest) → IsPosting c o later → o ≢ Some ticket → IsPosting c o (asked_for later (Some ticket) request)
posting_and c None later ticket request p apart = tt
posting_and c (Some other) later ticket request p apart =
    (p.0, p.1, others_and other later (record { ticket = Some ticket; request = request; turned = 0 }) p.2 (λ same. apart (sym same)))

awaited_and : (c : completions.Outstanding) (reads : List Outstanding) (ticket : ℕ) (request : ReadRequest) → AreAwaited c reads → ticket < 2 ^ 64 → IsAwaited c ticket → AreOthers ticket reads
    → AreAwaited c (asked_for reads (Some ticket) request)
awaited_and c [] ticket request a small h o = ((small, h, tt), tt)
awaited_and c (r ∷ reads) ticket request a small h o =
    (posting_and c r.ticket reads ticket request a.0 o.0, awaited_and c reads ticket request a.1 small h o.1)

part_ticket : (q : Queue) (max : ℕ) (part : Part (Request (List ℕ))) → next_part q max ≡ Some part → next_ticket q.sent ≡ part.ticket
part_ticket q max part e = go q.unsent e
  where
    go : (unsent : List (Request (List ℕ))) → next_part (record q { unsent = unsent }) max ≡ Some part → next_ticket q.sent ≡ part.ticket
    go [] e = absurd (let no : ⊥ = cc in no)
    go (m ∷ ms) e = cc

pub awaited_sent : (q : Queue) (max : ℕ) (part : Part (Request (List ℕ))) (reads : List Outstanding) → IsWithinLimits q → q.sent.first < 2 ^ 64 → next_part q max ≡ Some part → AreAwaited q.sent reads
    → AreAwaited (part_sent q (Some part)).sent (reads_with reads (Some part.ticket) part.message)
awaited_sent q max part reads limits first e a = go part.message refl
  where
    still : AreAwaited (part_sent q (Some part)).sent reads
    still = each_still q.sent (part_sent q (Some part)).sent reads (λ ticket small h. subst (λ o. IsAwaited (part_sent q o).sent ticket) e (awaits.others_sent q max ticket h)) a

    go : (m : Request (List ℕ)) → part.message ≡ m → AreAwaited (part_sent q (Some part)).sent (reads_with reads (Some part.ticket) m)
    go (requests.Message m) is = still
    go (requests.Read request) is =
        let same : next_ticket q.sent ≡ part.ticket = part_ticket q max part e in
        awaited_and (part_sent q (Some part)).sent reads part.ticket request still
        (subst (λ t. t < 2 ^ 64) same (omega arith))
        (awaits.sent q max part limits first e (ap kind_of is))
        (subst (λ t. AreOthers t reads) same (new_ticket q.sent reads first (omega (arith, limits.posted)) a))

-- the RTR is awaited by nobody
posting_untold : (c : completions.Outstanding) (o : Option ℕ) (later : List Outstanding) (request : ReadRequest) → IsPosting c o later → IsPosting c o (asked_for later None request)
posting_untold c None later request p = tt
posting_untold c (Some ticket) later request p = (p.0, p.1, others_and ticket later (record { ticket = None; request = request; turned = 0 }) p.2 (λ same. none-some ticket same))

awaited_untold : (c : completions.Outstanding) (reads : List Outstanding) (request : ReadRequest) → AreAwaited c reads → AreAwaited c (asked_for reads None request)
awaited_untold c [] request a = (tt, tt)
awaited_untold c (r ∷ reads) request a = (posting_untold c r.ticket reads request a.0, awaited_untold c reads request a.1)

pub awaited_rtr : (c : completions.Outstanding) (reads : List Outstanding) (rtr : Rtr) → AreAwaited c reads → AreAwaited c (reads_with reads None (rtr_message rtr))
awaited_rtr c reads Write a = a
awaited_rtr c reads Read a = awaited_untold c reads rtr_request a

-- if the oldest is finished, and is no more
posting_finished : (c : completions.Outstanding) (o : Option ℕ) (ticket : ℕ) (later : List Outstanding) → c.first < 2 ^ 64 → ticket < 2 ^ 64 → o ≢ Some ticket → IsPosting c o later
    → IsPosting (completions.finished c ticket) o later
posting_finished c None ticket later first small apart p = tt
posting_finished c (Some other) ticket later first small apart p =
    (p.0, awaits.others_finished c other ticket first p.0 small (λ same. apart (ap Some same)) p.1, p.2)

others_finished : (c : completions.Outstanding) (ticket : ℕ) (reads : List Outstanding) → c.first < 2 ^ 64 → ticket < 2 ^ 64 → AreOthers ticket reads → AreAwaited c reads → AreAwaited (completions.finished c ticket) reads
others_finished c ticket [] first small o a = tt
others_finished c ticket (read ∷ reads) first small o a =
    (posting_finished c read.ticket ticket reads first small o.0 a.0, others_finished c ticket reads first small o.1 a.1)

pub awaited_finished : (c : completions.Outstanding) (reads : List Outstanding) (head : TaggedHead) (n ticket : ℕ) → c.first < 2 ^ 64 → AreAwaited c reads → finished_read reads head ≡ Some ticket
    → AreAwaited (completions.finished c ticket) (reads_turned reads head n)
awaited_finished c [] head n ticket first a e = tt
awaited_finished c (read ∷ reads) head n ticket first a e = go head.last refl e
  where
    go : (last : Bool) → head.last ≡ last → (if last then read.ticket else None) ≡ Some ticket
        → AreAwaited (completions.finished c ticket) (if last then reads else record read { turned = read.turned + n } ∷ reads)
    go true is h = let p : IsPosting c (Some ticket) reads = subst (λ o. IsPosting c o reads) h a.0 in others_finished c ticket reads first p.0 p.2 a.1
    go false is h = absurd (let no : ⊥ = cc in no)

pub awaits_oldest : (c : completions.Outstanding) (reads : List Outstanding) (head : TaggedHead) (ticket : ℕ) → AreAwaited c reads → finished_read reads head ≡ Some ticket → IsAwaited c ticket
awaits_oldest c [] head ticket a e = absurd (let no : ⊥ = cc in no)
awaits_oldest c (read ∷ reads) head ticket a e = go head.last e
  where
    go : (last : Bool) → (if last then read.ticket else None) ≡ Some ticket → IsAwaited c ticket
    go true h = let p : IsPosting c (Some ticket) reads = subst (λ o. IsPosting c o reads) h a.0 in p.1
    go false h = absurd (let no : ⊥ = cc in no)

-- if a segment had its turn, and none is finished
pub awaited_turned : (c : completions.Outstanding) (reads : List Outstanding) (head : TaggedHead) (n : ℕ) → AreAwaited c reads → AreAwaited c (reads_turned reads head n)
awaited_turned c [] head n a = tt
awaited_turned c (read ∷ reads) head n a = go head.last
  where
    go : (last : Bool) → AreAwaited c (if last then reads else record read { turned = read.turned + n } ∷ reads)
    go true = a.1
    go false = (a.0, a.1)

-- ---- a frame's turn
pub awaited_left : (c : completions.Outstanding) (reads : List Outstanding) (n : ℕ) (o : Option (Segment (List ℕ))) → AreAwaited c reads → AreAwaited c (left_by_turn reads n o)
awaited_left c reads n None a = a
awaited_left c reads n (Some (Untagged head payload)) a = a
awaited_left c reads n (Some (Tagged head payload)) a = go (is_response head)
  where
    go : (b : Bool) → AreAwaited c (if b then reads_turned reads head n else reads)
    go true = awaited_turned c reads head n a
    go false = a

-- where none is outstanding, none is after it
none_turned : (reads : List Outstanding) (head : TaggedHead) (n : ℕ) → reads ≡ [] → reads_turned reads head n ≡ []
none_turned [] head n none = refl
none_turned (read ∷ reads) head n none = absurd (let no : ⊥ = cc in no)

pub none_left : (reads : List Outstanding) (n : ℕ) (o : Option (Segment (List ℕ))) → reads ≡ [] → left_by_turn reads n o ≡ []
none_left reads n None none = none
none_left reads n (Some (Untagged head payload)) none = none
none_left reads n (Some (Tagged head payload)) none = go (is_response head)
  where
    go : (b : Bool) → (if b then reads_turned reads head n else reads) ≡ []
    go true = none_turned reads head n none
    go false = none

-- a Read that is finished by it is the oldest
record IsAnswer (reads : List Outstanding) (n : ℕ) (o : Option (Segment (List ℕ))) (ticket : ℕ) : Type 0 where
  pub head : TaggedHead
  pub finished : finished_read reads head ≡ Some ticket
  pub left : left_by_turn reads n o ≡ reads_turned reads head n

by_answering : (fault : Option Fault) (o : Option ℕ) (ticket : ℕ) → fault_or fault (answering_by o) ≡ Ok (turnings.Answered ticket) → o ≡ Some ticket
by_answering None None ticket e = absurd (let no : ⊥ = cc in no)
by_answering None (Some other) ticket e = cc
by_answering (Some fault) o ticket e = absurd (let no : ⊥ = cc in no)

no_answer : (fault : Option Fault) (last solicited : Bool) (invalidate : Option Stag) (ticket : ℕ) → fault_or fault (if last then turnings.Completed solicited invalidate else turnings.Passed) ≡ Ok (turnings.Answered ticket) → ⊥
no_answer None true solicited invalidate ticket e = cc
no_answer None false solicited invalidate ticket e = cc
no_answer (Some fault) last solicited invalidate ticket e = cc

is_answer : (table : Table) (peer : Peer) (r : Receiving) (reads : List Outstanding) (n : ℕ) (o : Option (Segment (List ℕ))) (ticket : ℕ) → segment_turn table peer r reads n o ≡ Ok (turnings.Answered ticket) → IsAnswer reads n o ticket
is_answer table peer r reads n None ticket e = absurd (let no : ⊥ = cc in no)
is_answer table peer r reads n (Some (Untagged head payload)) ticket e =
    absurd (no_answer (or_else (turn_fault r head.msn head.mo) (invalidation_fault table peer (send_turning head))) head.last (is_solicited (untagged_operation (opcode_of head.control))) (stag_to_invalidate head) ticket e)
is_answer table peer r reads n (Some (Tagged head payload)) ticket e = go (is_response head) refl e
  where
    go : (b : Bool) → is_response head ≡ b → (if b then fault_or (response_turn_fault reads head n) (answering_by (finished_read reads head)) else Ok turnings.Passed) ≡ Ok (turnings.Answered ticket)
        → IsAnswer reads n (Some (Tagged head payload)) ticket
    go true is h = record {
      head = head;
      finished = by_answering (response_turn_fault reads head n) (finished_read reads head) ticket h;
      left = ap (λ b. if b then reads_turned reads head n else reads) is;
    }
    go false is h = absurd (let no : ⊥ = cc in no)

pub awaits_answered : (c : completions.Outstanding) (table : Table) (peer : Peer) (r : Receiving) (reads : List Outstanding) (n : ℕ) (o : Option (Segment (List ℕ))) (ticket : ℕ) → AreAwaited c reads
    → segment_turn table peer r reads n o ≡ Ok (turnings.Answered ticket) → IsAwaited c ticket
awaits_answered c table peer r reads n o ticket a e = let is = is_answer table peer r reads n o ticket e in awaits_oldest c reads is.head ticket a is.finished

pub awaited_answered : (c : completions.Outstanding) (table : Table) (peer : Peer) (r : Receiving) (reads : List Outstanding) (n : ℕ) (o : Option (Segment (List ℕ))) (ticket : ℕ) → c.first < 2 ^ 64 → AreAwaited c reads
    → segment_turn table peer r reads n o ≡ Ok (turnings.Answered ticket) → AreAwaited (completions.finished c ticket) (left_by_turn reads n o)
awaited_answered c table peer r reads n o ticket first a e =
    let is = is_answer table peer r reads n o ticket e in
    subst (AreAwaited (completions.finished c ticket)) (sym is.left) (awaited_finished c reads is.head n ticket first a is.finished)

-- ---- the source of a request
chosen : (wrong : Bool) (deny : Deny) (o : Option Deny) → (if wrong then Some deny else o) ≡ None → (wrong ≡ false) × (o ≡ None)
chosen true deny o e = absurd (let no : ⊥ = cc in no)
chosen false deny o e = (refl, e)

region_range : (r : Region) (to n : ℕ) → region_denial r to n rights.Read ≡ None → to + n ≤ 2 ^ 64
region_range r to n e =
    let valid = chosen (not r.valid) denials.Invalid _ e in
    let wrap = chosen (nat_lt (2 ^ 64) (to + n)) denials.ToWrap _ valid.1 in
    fits (to + n) wrap.0
  where
    fits : (x : ℕ) → nat_lt (2 ^ 64) x ≡ false → x ≤ 2 ^ 64
    fits x t = grind (arith, nat_tests)

pub in_range : (table : Table) (peer : Peer) (request : ReadRequest) → source_fault table peer request ≡ None → IsInRange request
in_range table peer request e some = go (request.size == 0) refl (none (denial_for table peer request.source request.source_to request.size rights.Read) e)
  where
    none : (o : Option Deny) → option_map denial_fault o ≡ None → o ≡ None
    none None h = refl
    none (Some deny) h = absurd (let no : ⊥ = cc in no)

    region : (o : Option Region) → option_map_or (λ r. region_denial_for r peer.stream request.source_to request.size rights.Read) o (Some denials.Invalid) ≡ None → request.source_to + request.size ≤ 2 ^ 64
    region None h = absurd (let no : ⊥ = cc in no)
    region (Some r) h = region_range r request.source_to request.size (chosen (not (is_in_scope r.bound peer.stream)) denials.NotAssociated _ h).1

    empty : (request.size == 0) ≡ true → ⊥
    empty t = (let low = some in grind (arith, nat_tests))

    go : (b : Bool) → (request.size == 0) ≡ b
        → (if b then None else (if not (request.source.domain == peer.domain) then Some denials.NotAssociated else option_map_or (λ r. region_denial_for r peer.stream request.source_to request.size rights.Read) (own_region (part_of table peer.domain) request.source) (Some denials.Invalid))) ≡ None
        → request.source_to + request.size ≤ 2 ^ 64
    go true is h = absurd (empty is)
    go false is h = region (own_region (part_of table peer.domain) request.source) (chosen (not (request.source.domain == peer.domain)) denials.NotAssociated _ h).1
