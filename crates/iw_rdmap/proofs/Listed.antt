-- The checks of a header in one list.
use Rattle.std.proofs.Common.{◌≡◌, ℕ, ◌-◌, Bool, true, false, not, ◌&&◌, nat_lt, List, Option, Some, None, Ok, Err, refl, ap, ◌∙◌, sym, arith, if◌then◌else◌}
use Rattle.std.specs.Prelude.{Result, ◌==◌, nat_le}
use Rattle.std.proofs.lemmas.Bool.Decides.{nat_tests}
use Rattle.iw_octets.specs.declared.fault.Fault.{Fault}
use Rattle.iw_octets.specs.declared.fault.TheConstants.Fault as faults
use Rattle.iw_octets.specs.declared.head.TaggedHead.{TaggedHead}
use Rattle.iw_octets.specs.declared.head.UntaggedHead.{UntaggedHead}
use Rattle.iw_octets.specs.declared.operation.TaggedOperation.{TaggedOperation}
use Rattle.iw_octets.specs.declared.operation.TaggedOperation.TheVariants.{Write, ReadResponse}
use Rattle.iw_octets.specs.declared.operation.UntaggedOperation.{UntaggedOperation}
use Rattle.iw_octets.specs.declared.operation.UntaggedOperation.TheVariants.{Send, ReadRequest, Terminate}
use Rattle.iw_octets.specs.declared.segment.Segment.TheVariants.{Tagged, Untagged}
use Rattle.iw_octets.specs.Operation.{rdmap_version, opcode_of, untagged_operation}
use Rattle.iw_rdmap.specs.declared.head.Head.{Head}
use Rattle.iw_rdmap.specs.declared.head.Head.TheVariants as heads
use Rattle.iw_rdmap.specs.Judging.{expected, on_queue, judged_segment, judged_request, judged_terminate, judged_tagged, judged_untagged}
use Rattle.iw_rdmap.specs.Laws.{listed_tagged, listed_untagged}

-- ---- tagged

-- the checks of a tagged header by what each test gives, up to the opcode's, and all of them
abbrev tagged_by : Bool → Bool → Bool → Bool → Result TaggedOperation Fault
tagged_by ddp rdmap write response =
    if not ddp then Err faults.TAGGED_VERSION
    else if not rdmap then Err faults.OPERATION_VERSION
    else expected (if write then Some Write else if response then Some ReadResponse else None)

abbrev listed_tagged_by : TaggedHead → Bool → Bool → Bool → Bool → Result Head Fault
listed_tagged_by head ddp rdmap write response =
    if not ddp then Err faults.TAGGED_VERSION
    else if not rdmap then Err faults.OPERATION_VERSION
    else if write then Ok (heads.Write head)
    else if response then Ok (heads.Response head)
    else Err faults.OPERATION_UNEXPECTED

tagged_cases : (head : TaggedHead) (ddp rdmap write response : Bool) → judged_tagged head (tagged_by ddp rdmap write response) ≡ listed_tagged_by head ddp rdmap write response
tagged_cases head false rdmap write response = refl
tagged_cases head true false write response = refl
tagged_cases head true true true response = refl
tagged_cases head true true false true = refl
tagged_cases head true true false false = refl

pub listed-tagged : (head : TaggedHead) (payload : List ℕ) (len next unanswered : ℕ) → judged_segment (Some (Tagged head payload)) len next unanswered ≡ listed_tagged head
listed-tagged head payload len next unanswered = tagged_cases head (head.ddp_version == 1) (rdmap_version head.control == 1) (opcode_of head.control == 0) (opcode_of head.control == 2)

-- ---- untagged

-- which operation it is
abbrev is_send : Option UntaggedOperation → Bool
is_send None = false
is_send (Some ReadRequest) = false
is_send (Some (Send solicited invalidates)) = true
is_send (Some Terminate) = false

abbrev is_read : Option UntaggedOperation → Bool
is_read None = false
is_read (Some ReadRequest) = true
is_read (Some (Send solicited invalidates)) = false
is_read (Some Terminate) = false

abbrev is_terminate : Option UntaggedOperation → Bool
is_terminate None = false
is_terminate (Some ReadRequest) = false
is_terminate (Some (Send solicited invalidates)) = false
is_terminate (Some Terminate) = true

-- an operation on its queue or none, if a test of it is known
on-queue : (test : Option UntaggedOperation → Bool) (b : Bool) (operation : UntaggedOperation) → test None ≡ false →
    test (if b then Some operation else None) ≡ (b && test (Some operation))
on-queue test true operation none = refl
on-queue test false operation none = none

-- the operation of an untagged opcode by what each test gives
abbrev operation_by : Bool → Bool → Bool → Bool → Bool → Bool → Option UntaggedOperation
operation_by one three four five six seven =
    if one then Some ReadRequest
    else if three then Some (Send false false)
    else if four then Some (Send false true)
    else if five then Some (Send true false)
    else if six then Some (Send true true)
    else if seven then Some Terminate
    else None

and_false : (b : Bool) → (b && false) ≡ false
and_false true = refl
and_false false = refl

-- not this operation, whatever queue carries it
not_it : (test : Option UntaggedOperation → Bool) (b q : Bool) (operation : UntaggedOperation) → test None ≡ false → test (Some operation) ≡ false →
    test (if b then Some operation else None) ≡ (q && false)
not_it test b q operation none other = on-queue test b operation none ∙ ap (λ t. b && t) other ∙ and_false b ∙ sym (and_false q)

send_cases : (queue : ℕ) (one three four five six seven : Bool) → (0 == queue) ≡ (queue == 0) →
    is_send (on_queue queue (operation_by one three four five six seven)) ≡ ((queue == 0) && (if one then false else if three then true else if four then true else if five then true else six))
send_cases queue true three four five six seven same = not_it is_send (1 == queue) (queue == 0) ReadRequest refl refl
send_cases queue false true four five six seven same = on-queue is_send (0 == queue) (Send false false) refl ∙ ap (λ b. b && true) same
send_cases queue false false true five six seven same = on-queue is_send (0 == queue) (Send false true) refl ∙ ap (λ b. b && true) same
send_cases queue false false false true six seven same = on-queue is_send (0 == queue) (Send true false) refl ∙ ap (λ b. b && true) same
send_cases queue false false false false true seven same = on-queue is_send (0 == queue) (Send true true) refl ∙ ap (λ b. b && true) same
send_cases queue false false false false false true same = not_it is_send (2 == queue) (queue == 0) Terminate refl refl
send_cases queue false false false false false false same = sym (and_false (queue == 0))

read_cases : (queue : ℕ) (one three four five six seven : Bool) → (1 == queue) ≡ (queue == 1) →
    is_read (on_queue queue (operation_by one three four five six seven)) ≡ ((queue == 1) && one)
read_cases queue true three four five six seven same = on-queue is_read (1 == queue) ReadRequest refl ∙ ap (λ b. b && true) same
read_cases queue false true four five six seven same = not_it is_read (0 == queue) (queue == 1) (Send false false) refl refl
read_cases queue false false true five six seven same = not_it is_read (0 == queue) (queue == 1) (Send false true) refl refl
read_cases queue false false false true six seven same = not_it is_read (0 == queue) (queue == 1) (Send true false) refl refl
read_cases queue false false false false true seven same = not_it is_read (0 == queue) (queue == 1) (Send true true) refl refl
read_cases queue false false false false false true same = not_it is_read (2 == queue) (queue == 1) Terminate refl refl
read_cases queue false false false false false false same = sym (and_false (queue == 1))

terminate_cases : (queue : ℕ) (one three four five six seven : Bool) → (2 == queue) ≡ (queue == 2) →
    is_terminate (on_queue queue (operation_by one three four five six seven))
    ≡ ((queue == 2) && (if one then false else if three then false else if four then false else if five then false else if six then false else seven))
terminate_cases queue true three four five six seven same = not_it is_terminate (1 == queue) (queue == 2) ReadRequest refl refl
terminate_cases queue false true four five six seven same = not_it is_terminate (0 == queue) (queue == 2) (Send false false) refl refl
terminate_cases queue false false true five six seven same = not_it is_terminate (0 == queue) (queue == 2) (Send false true) refl refl
terminate_cases queue false false false true six seven same = not_it is_terminate (0 == queue) (queue == 2) (Send true false) refl refl
terminate_cases queue false false false false true seven same = not_it is_terminate (0 == queue) (queue == 2) (Send true true) refl refl
terminate_cases queue false false false false false true same = on-queue is_terminate (2 == queue) Terminate refl ∙ ap (λ b. b && true) same
terminate_cases queue false false false false false false same = sym (and_false (queue == 2))

sends : (opcode : ℕ) → (if opcode == 1 then false else if opcode == 3 then true else if opcode == 4 then true else if opcode == 5 then true else opcode == 6) ≡ (nat_le 3 opcode && nat_le opcode 6)
sends opcode = grind (arith, nat_tests)

terminates : (opcode : ℕ) →
    (if opcode == 1 then false else if opcode == 3 then false else if opcode == 4 then false else if opcode == 5 then false else if opcode == 6 then false else opcode == 7) ≡ (opcode == 7)
terminates opcode = grind (arith, nat_tests)

same_test : (k queue : ℕ) → (k == queue) ≡ (queue == k)
same_test k queue = grind (arith, nat_tests)

-- queue 0 carries Sends under the opcodes 3 to 6, queue 1 Read Requests under 1, queue 2 Terminates under 7
send : (queue opcode : ℕ) → is_send (on_queue queue (untagged_operation opcode)) ≡ ((queue == 0) && (nat_le 3 opcode && nat_le opcode 6))
send queue opcode =
    send_cases queue (opcode == 1) (opcode == 3) (opcode == 4) (opcode == 5) (opcode == 6) (opcode == 7) (same_test 0 queue) ∙ ap (λ b. (queue == 0) && b) (sends opcode)

read : (queue opcode : ℕ) → is_read (on_queue queue (untagged_operation opcode)) ≡ ((queue == 1) && (opcode == 1))
read queue opcode = read_cases queue (opcode == 1) (opcode == 3) (opcode == 4) (opcode == 5) (opcode == 6) (opcode == 7) (same_test 1 queue)

terminate : (queue opcode : ℕ) → is_terminate (on_queue queue (untagged_operation opcode)) ≡ ((queue == 2) && (opcode == 7))
terminate queue opcode =
    terminate_cases queue (opcode == 1) (opcode == 3) (opcode == 4) (opcode == 5) (opcode == 6) (opcode == 7) (same_test 2 queue) ∙ ap (λ b. (queue == 2) && b) (terminates opcode)

-- the checks of an untagged header by what each test gives, up to the opcode's, and all of them
abbrev untagged_by : Bool → Bool → Bool → Option UntaggedOperation → Result UntaggedOperation Fault
untagged_by ddp over rdmap operation =
    if not ddp then Err faults.UNTAGGED_VERSION
    else if over then Err faults.UNTAGGED_INVALID_QUEUE
    else if not rdmap then Err faults.OPERATION_VERSION
    else expected operation

abbrev listed_untagged_by : UntaggedHead → Result Head Fault → Result Head Fault → Bool → Bool → Bool → Bool → Bool → Bool → Result Head Fault
listed_untagged_by head request word ddp over rdmap send read terminate =
    if not ddp then Err faults.UNTAGGED_VERSION
    else if over then Err faults.UNTAGGED_INVALID_QUEUE
    else if not rdmap then Err faults.OPERATION_VERSION
    else if send then Ok (heads.Send head)
    else if read then request
    else if terminate then word
    else Err faults.OPERATION_UNEXPECTED

untagged_cases : (head : UntaggedHead) (payload : List ℕ) (n next unanswered : ℕ) (ddp over rdmap : Bool) (operation : Option UntaggedOperation) →
    judged_untagged head payload n next unanswered (untagged_by ddp over rdmap operation)
    ≡ listed_untagged_by head (judged_request head payload n next unanswered) (judged_terminate head payload n) ddp over rdmap (is_send operation) (is_read operation) (is_terminate operation)
untagged_cases head payload n next unanswered false over rdmap operation = refl
untagged_cases head payload n next unanswered true true rdmap operation = refl
untagged_cases head payload n next unanswered true false false operation = refl
untagged_cases head payload n next unanswered true false true None = refl
untagged_cases head payload n next unanswered true false true (Some ReadRequest) = refl
untagged_cases head payload n next unanswered true false true (Some (Send solicited invalidates)) = refl
untagged_cases head payload n next unanswered true false true (Some Terminate) = refl

pub listed-untagged : (head : UntaggedHead) (payload : List ℕ) (len next unanswered : ℕ) →
    judged_segment (Some (Untagged head payload)) len next unanswered ≡ listed_untagged head payload (len - 18) next unanswered
listed-untagged head payload len next unanswered =
    let ddp : Bool = head.ddp_version == 1 in
    let over : Bool = nat_lt 2 head.queue in
    let rdmap : Bool = rdmap_version head.control == 1 in
    let opcode : ℕ = opcode_of head.control in
    untagged_cases head payload (len - 18) next unanswered ddp over rdmap (on_queue head.queue (untagged_operation opcode))
    ∙ (λ i. listed_untagged_by head (judged_request head payload (len - 18) next unanswered) (judged_terminate head payload (len - 18)) ddp over rdmap
    (send head.queue opcode i) (read head.queue opcode i) (terminate head.queue opcode i))
