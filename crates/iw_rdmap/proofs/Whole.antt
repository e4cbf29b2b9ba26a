-- The first octets of a ULPDU, and the whole of it.
use Rattle.std.proofs.Common.{◌≡◌, ℕ, ◌+◌, ◌-◌, ◌≤◌, ◌<◌, Bool, true, false, not, ◌||◌, nat_lt, List, [], ◌∷◌, ◌++◌, length, drop, get_or, Option, Some, None, Ok, Err, refl, ap, sym, ◌∙◌, arith, length-append, length-drop, if◌then◌else◌}
use Rattle.std.specs.Prelude.{Result, ◌==◌, nat_le}
use Rattle.std.proofs.lemmas.Bool.Decides.{nat_tests}
use Rattle.std.proofs.Math.ListN.{get_or-append}
use Rattle.std.proofs.lemmas.List.{append-nil}
use Rattle.iw_octets.specs.declared.constants.TheConstants.{MAX_UNANSWERED}
use Rattle.iw_octets.specs.declared.fault.Fault.{Fault}
use Rattle.iw_octets.specs.declared.fault.TheConstants.Fault as faults
use Rattle.iw_octets.specs.declared.head.UntaggedHead.{UntaggedHead}
use Rattle.iw_octets.specs.declared.operation.UntaggedOperation.{UntaggedOperation}
use Rattle.iw_octets.specs.declared.operation.UntaggedOperation.TheVariants.{Send, ReadRequest, Terminate}
use Rattle.iw_octets.specs.declared.payload.TerminateWord.{TerminateWord}
use Rattle.iw_octets.specs.Head.{is_tagged, untagged_fields}
use Rattle.iw_octets.specs.Payload.{request_fields, word_fields}
use Rattle.iw_octets.proofs.Front.{read_segment-long_tagged, read_segment-long_untagged, read_segment-append}
use Rattle.iw_rdmap.specs.declared.head.Head.{Head}
use Rattle.iw_rdmap.specs.declared.head.Head.TheVariants as heads
use Rattle.iw_rdmap.specs.Judging.{IsFront, judged, judged_segment, judged_untagged, untagged_checked, terminate_fault, fault_or}

-- the first fault of a Read Request's checks that fail
abbrev first_request_fault : Bool → Bool → Bool → Bool → Bool → Option Fault
first_request_fault a b c d e =
    if a then Some faults.UNTAGGED_MSN_RANGE
    else if b then Some faults.UNTAGGED_NO_BUFFER
    else if c then Some faults.UNTAGGED_INVALID_OFFSET
    else if d then Some faults.UNTAGGED_TOO_LONG
    else if e then Some faults.SEGMENT_SHORT
    else None

-- the word at the front of a payload
word_front : (payload beyond : List ℕ) → 4 ≤ length payload → word_fields (payload ++ beyond) ≡ word_fields payload
word_front payload beyond h =
    let first = get_or-append payload beyond 0 0 (omega arith) in
    let second = get_or-append payload beyond 0 1 (omega arith) in
    let third = get_or-append payload beyond 0 2 (omega arith) in
    let word : ℕ → ℕ → ℕ → TerminateWord = λ a b c. word_fields (a ∷ b ∷ c ∷ []) in
    λ i. word (first i) (second i) (third i)

-- a Read Request with a payload that is too long has a fault, whatever its payload is
any_request : (a b c d e : Bool) (x y : Head) → d ≡ true → fault_or (first_request_fault a b c d e) x ≡ fault_or (first_request_fault a b c d e) y
any_request true b c d e x y is = refl
any_request false true c d e x y is = refl
any_request false false true d e x y is = refl
any_request false false false true e x y is = refl
any_request false false false false e x y is = cc

too_long : (n : ℕ) (b : Bool) → 28 < n → (nat_lt 28 n || b) ≡ true
too_long n b h =
    let over : nat_lt 28 n ≡ true = grind (arith, nat_tests) in
    ap (λ t. t || b) over

untagged_front : (head : UntaggedHead) (payload beyond : List ℕ) (n next unanswered : ℕ) (checked : Result UntaggedOperation Fault) →
    28 < n → 4 ≤ length payload →
    judged_untagged head payload n next unanswered checked ≡ judged_untagged head (payload ++ beyond) n next unanswered checked
untagged_front head payload beyond n next unanswered (Err fault) h k = refl
untagged_front head payload beyond n next unanswered (Ok (Send solicited invalidates)) h k = refl
untagged_front head payload beyond n next unanswered (Ok ReadRequest) h k =
    any_request (not (head.msn == next)) (nat_le MAX_UNANSWERED unanswered) (not (head.mo == 0)) (nat_lt 28 n || not head.last) (nat_lt n 28)
    (heads.Request head (request_fields payload)) (heads.Request head (request_fields (payload ++ beyond))) (too_long n (not head.last) h)
untagged_front head payload beyond n next unanswered (Ok Terminate) h k =
    ap (λ word. fault_or (terminate_fault head n) (heads.Terminate head word)) (sym (word_front payload beyond k))

-- octets that are not all of a ULPDU are 46 or more
front_long : (first : List ℕ) (b : ℕ) (bs : List ℕ) → IsFront 46 first (length (first ++ (b ∷ bs))) → 46 ≤ length first
front_long first b bs front =
    let enough = front.enough in
    let total : length (first ++ (b ∷ bs)) ≡ length first + length (b ∷ bs) = length-append first (b ∷ bs) in
    omega arith

pub front_judged : (first beyond : List ℕ) (next unanswered : ℕ) → IsFront 46 first (length (first ++ beyond)) →
    judged first (length (first ++ beyond)) next unanswered ≡ judged (first ++ beyond) (length (first ++ beyond)) next unanswered
front_judged first [] next unanswered front = ap (λ xs. judged xs (length (first ++ [])) next unanswered) (sym (append-nil first))
front_judged first (b ∷ bs) next unanswered front = go (is_tagged (get_or first 0 0)) refl
  where
    ulpdu : List ℕ
    ulpdu = first ++ (b ∷ bs)

    long : 46 ≤ length first
    long = front_long first b bs front

    go : (tagged : Bool) → is_tagged (get_or first 0 0) ≡ tagged → judged first (length (first ++ (b ∷ bs))) next unanswered ≡ judged (first ++ (b ∷ bs)) (length (first ++ (b ∷ bs))) next unanswered
    go true tagged =
        let len = length (first ++ (b ∷ bs)) in
        let read = read_segment-long_tagged first (omega (arith, long)) tagged in
        let whole = read_segment-append first (b ∷ bs) _ read in
        ap (λ s. judged_segment s len next unanswered) read ∙ sym (ap (λ s. judged_segment s len next unanswered) whole)
    go false untagged =
        let len = length (first ++ (b ∷ bs)) in
        let read = read_segment-long_untagged first (omega (arith, long)) untagged in
        let whole = read_segment-append first (b ∷ bs) _ read in
        let total : length (first ++ (b ∷ bs)) ≡ length first + length (b ∷ bs) = length-append first (b ∷ bs) in
        let enough = long in
        ap (λ s. judged_segment s len next unanswered) read
        ∙ untagged_front (untagged_fields first) (drop 18 first) (b ∷ bs) (len - 18) next unanswered (untagged_checked (untagged_fields first)) (omega arith) (omega (arith, length-drop 18 first))
        ∙ sym (ap (λ s. judged_segment s len next unanswered) whole)
