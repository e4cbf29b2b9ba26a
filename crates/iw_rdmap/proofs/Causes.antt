-- What a Terminate takes of a ULPDU that was judged is in its first octets.
use Rattle.std.proofs.Common.{◌≡◌, ℕ, ◌+◌, ◌-◌, ◌≤◌, ◌<◌, Bool, true, false, not, ◌&&◌, ◌||◌, nat_lt, List, length, drop, get_or, Option, Some, None, Ok, Err, refl, ap, sym, subst, arith, if◌then◌else◌, inl, inr}
use Rattle.std.specs.Prelude.{Result, ◌==◌, nat_le, IfOk, IfErr}
use Rattle.std.proofs.lemmas.Bool.{cases_lt}
use Rattle.std.proofs.lemmas.Bool.Decides.{nat_tests}
use Rattle.iw_octets.specs.declared.constants.TheConstants.{MAX_UNANSWERED}
use Rattle.iw_octets.specs.declared.fault.Fault.{Fault}
use Rattle.iw_octets.specs.declared.fault.TheConstants.Fault as faults
use Rattle.iw_octets.specs.declared.head.TaggedHead.{TaggedHead}
use Rattle.iw_octets.specs.declared.head.UntaggedHead.{UntaggedHead}
use Rattle.iw_octets.specs.declared.operation.TaggedOperation.{TaggedOperation}
use Rattle.iw_octets.specs.declared.operation.TaggedOperation.TheVariants.{Write, ReadResponse}
use Rattle.iw_octets.specs.declared.operation.UntaggedOperation.{UntaggedOperation}
use Rattle.iw_octets.specs.declared.operation.UntaggedOperation.TheVariants.{Send, ReadRequest, Terminate}
use Rattle.iw_octets.specs.Head.{is_tagged, tagged_fields, untagged_fields}
use Rattle.iw_octets.specs.Operation.{rdmap_version, opcode_of, tagged_operation, untagged_operation}
use Rattle.iw_octets.specs.Payload.{request_fields, word_fields}
use Rattle.iw_octets.proofs.Front.{read_segment-long_tagged, read_segment-long_untagged, read_segment-short_tagged, read_segment-short_untagged}
use Rattle.iw_rdmap.specs.declared.head.Head.{Head}
use Rattle.iw_rdmap.specs.declared.head.Head.TheVariants as heads
use Rattle.iw_rdmap.specs.Head.{header_octets, headers_octets, is_request}
use Rattle.iw_rdmap.specs.Judging.{IsFront, judged, judged_segment, judged_tagged, judged_untagged, tagged_checked, untagged_checked, expected, on_queue, fault_or}
use Rattle.iw_rdmap.specs.Terminate.{FitsFault, HasCause, HasHeaders, has_request, header_len}

-- what an answer promises, of a ULPDU of `len` octets that begins with `first`
pub record Passes (first : List ℕ) (len : ℕ) (head : Head) : Type 0 where
  pub header : header_octets head ≤ len
  pub headers : HasHeaders head first

pub record Fails (first : List ℕ) (fault : Fault) : Type 0 where
  pub fits : FitsFault fault
  pub cause : (request : Bool) → HasCause fault first request

abbrev pub IsSound : List ℕ → ℕ → Result Head Fault → Type 0
IsSound first len (Ok head) = Passes first len head
IsSound first len (Err fault) = Fails first fault

-- a fault that isn't of RDMAP's protection takes the DDP header alone
header_alone : (first : List ℕ) (fault : Fault) → ((fault.layer == 0) && (fault.kind == 1)) ≡ false → header_len first ≤ length first → (request : Bool) → HasCause fault first request
header_alone first fault other long false = record { segment = λ h. long; request_header = λ h. cc }
header_alone first fault other long true = record { segment = λ h. long; request_header = λ h. cc }

fails : (first : List ℕ) (fault : Fault) → header_len first ≤ length first → fault.layer < 16 → fault.kind < 16 → ((fault.layer == 0) && (fault.kind == 1)) ≡ false → Fails first fault
fails first fault long layer kind other = record { fits = record { layer = layer; kind = kind }; cause = header_alone first fault other long }

too_short : (first : List ℕ) → Fails first faults.SEGMENT_SHORT
too_short first = record { fits = record { layer = omega arith; kind = omega arith }; cause = λ request. record { segment = λ h. cc; request_header = λ h. go request h } }
  where
    go : (request : Bool) → has_request faults.SEGMENT_SHORT request ≡ true → header_len first + 28 ≤ length first
    go true h = cc
    go false h = cc

passes : (first : List ℕ) (len : ℕ) (head : Head) → is_request head ≡ false → header_octets head ≡ headers_octets head → header_len first ≡ header_octets head → header_len first ≤ length first → length first ≤ len → Passes first len head
passes first len head other same is long within = record {
  header = omega arith;
  headers = record { headers = omega arith; cause = λ fault. record { segment = λ h. long; request_header = λ h. go (is_request head) other fault h } };
}
  where
    go : (request : Bool) → request ≡ false → (fault : Fault) → has_request fault request ≡ true → header_len first + 28 ≤ length first
    go true e fault h = cc
    go false e fault h = cc

passes_request : (first : List ℕ) (len : ℕ) (head : Head) → header_octets head ≡ 18 → headers_octets head ≡ 46 → header_len first ≡ 18 → 46 ≤ length first → length first ≤ len → Passes first len head
passes_request first len head ddp all is long within = record {
  header = omega arith;
  headers = record { headers = omega arith; cause = λ fault. record { segment = λ h. omega arith; request_header = λ h. omega arith } };
}

-- ---- tagged
sound_tagged : (first : List ℕ) (len : ℕ) (head : TaggedHead) → header_len first ≡ 14 → 14 ≤ length first → length first ≤ len → IsSound first len (judged_tagged head (tagged_checked head))
sound_tagged first len head is long within = go (head.ddp_version == 1) (rdmap_version head.control == 1) (tagged_operation (opcode_of head.control))
  where
    there : header_len first ≤ length first
    there = omega arith

    go : (ddp rdmap : Bool) (operation : Option TaggedOperation)
        → IsSound first len (judged_tagged head (if not ddp then Err faults.TAGGED_VERSION else if not rdmap then Err faults.OPERATION_VERSION else expected operation))
    go false rdmap operation = fails first faults.TAGGED_VERSION there (omega arith) (omega arith) refl
    go true false operation = fails first faults.OPERATION_VERSION there (omega arith) (omega arith) refl
    go true true None = fails first faults.OPERATION_UNEXPECTED there (omega arith) (omega arith) refl
    go true true (Some Write) = passes first len (heads.Write head) refl refl is there within
    go true true (Some ReadResponse) = passes first len (heads.Response head) refl refl is there within

-- ---- untagged
sound_request : (first : List ℕ) (len n : ℕ) (head : Head) → header_octets head ≡ 18 → headers_octets head ≡ 46 → header_len first ≡ 18 → 18 ≤ length first → IsFront 46 first len → n ≡ len - 18
    → (number full offset last : Bool)
    → IsSound first len (fault_or (if number then Some faults.UNTAGGED_MSN_RANGE else if full then Some faults.UNTAGGED_NO_BUFFER else if offset then Some faults.UNTAGGED_INVALID_OFFSET
    else if nat_lt 28 n || last then Some faults.UNTAGGED_TOO_LONG else if nat_lt n 28 then Some faults.SEGMENT_SHORT else None) head)
sound_request first len n head ddp all is long front rest number full offset last = go number full offset (nat_lt 28 n || last) (nat_lt n 28) refl
  where
    there : header_len first ≤ length first
    there = omega arith

    go : (number full offset over under : Bool) → nat_lt n 28 ≡ under
        → IsSound first len (fault_or (if number then Some faults.UNTAGGED_MSN_RANGE else if full then Some faults.UNTAGGED_NO_BUFFER else if offset then Some faults.UNTAGGED_INVALID_OFFSET
        else if over then Some faults.UNTAGGED_TOO_LONG else if under then Some faults.SEGMENT_SHORT else None) head)
    go true full offset over under e = fails first faults.UNTAGGED_MSN_RANGE there (omega arith) (omega arith) refl
    go false true offset over under e = fails first faults.UNTAGGED_NO_BUFFER there (omega arith) (omega arith) refl
    go false false true over under e = fails first faults.UNTAGGED_INVALID_OFFSET there (omega arith) (omega arith) refl
    go false false false true under e = fails first faults.UNTAGGED_TOO_LONG there (omega arith) (omega arith) refl
    go false false false false true e = too_short first
    go false false false false false e =
        let whole : 28 ≤ n = grind (arith, nat_tests) in
        let enough = front.enough in
        passes_request first len head ddp all is (omega arith) front.within

sound_terminate : (first : List ℕ) (len : ℕ) (head : Head) → is_request head ≡ false → header_octets head ≡ headers_octets head → header_len first ≡ header_octets head → header_len first ≤ length first → length first ≤ len
    → (number offset over under : Bool)
    → IsSound first len (fault_or (if number then Some faults.UNTAGGED_MSN_RANGE else if offset then Some faults.UNTAGGED_INVALID_OFFSET
    else if over then Some faults.UNTAGGED_TOO_LONG else if under then Some faults.SEGMENT_SHORT else None) head)
sound_terminate first len head other same is there within true offset over under = fails first faults.UNTAGGED_MSN_RANGE there (omega arith) (omega arith) refl
sound_terminate first len head other same is there within false true over under = fails first faults.UNTAGGED_INVALID_OFFSET there (omega arith) (omega arith) refl
sound_terminate first len head other same is there within false false true under = fails first faults.UNTAGGED_TOO_LONG there (omega arith) (omega arith) refl
sound_terminate first len head other same is there within false false false true = too_short first
sound_terminate first len head other same is there within false false false false = passes first len head other same is there within

sound_untagged : (first : List ℕ) (len next unanswered : ℕ) (head : UntaggedHead) (payload : List ℕ) → header_len first ≡ 18 → 18 ≤ length first → IsFront 46 first len
    → IsSound first len (judged_untagged head payload (len - 18) next unanswered (untagged_checked head))
sound_untagged first len next unanswered head payload is long front =
    go (head.ddp_version == 1) (nat_lt 2 head.queue) (rdmap_version head.control == 1) (on_queue head.queue (untagged_operation (opcode_of head.control)))
  where
    there : header_len first ≤ length first
    there = omega arith

    within : length first ≤ len
    within = front.within

    go : (ddp over rdmap : Bool) (operation : Option UntaggedOperation)
        → IsSound first len (judged_untagged head payload (len - 18) next unanswered
        (if not ddp then Err faults.UNTAGGED_VERSION else if over then Err faults.UNTAGGED_INVALID_QUEUE else if not rdmap then Err faults.OPERATION_VERSION else expected operation))
    go false over rdmap operation = fails first faults.UNTAGGED_VERSION there (omega arith) (omega arith) refl
    go true true rdmap operation = fails first faults.UNTAGGED_INVALID_QUEUE there (omega arith) (omega arith) refl
    go true false false operation = fails first faults.OPERATION_VERSION there (omega arith) (omega arith) refl
    go true false true None = fails first faults.OPERATION_UNEXPECTED there (omega arith) (omega arith) refl
    go true false true (Some (Send solicited invalidates)) = passes first len (heads.Send head) refl refl is there within
    go true false true (Some ReadRequest) =
        sound_request first len (len - 18) (heads.Request head (request_fields payload)) refl refl is long front refl (not (head.msn == next)) (nat_le MAX_UNANSWERED unanswered) (not (head.mo == 0)) (not head.last)
    go true false true (Some Terminate) =
        sound_terminate first len (heads.Terminate head (word_fields payload)) refl refl is there within (not (head.msn == 1)) (not (head.mo == 0)) (nat_lt 52 (len - 18) || not head.last) (nat_lt (len - 18) 4)

pub sound : (first : List ℕ) (len next unanswered : ℕ) → IsFront 46 first len → IsSound first len (judged first len next unanswered)
sound first len next unanswered front = go (is_tagged (get_or first 0 0)) refl
  where
    go : (tagged : Bool) → is_tagged (get_or first 0 0) ≡ tagged → IsSound first len (judged first len next unanswered)
    go true tagged = elim (cases_lt (length first) 14) [
      | inl short ↦ subst (λ s. IsSound first len (judged_segment s len next unanswered)) (sym (read_segment-short_tagged first short tagged)) (too_short first)
      | inr long ↦
          subst (λ s. IsSound first len (judged_segment s len next unanswered)) (sym (read_segment-long_tagged first long tagged))
          (sound_tagged first len (tagged_fields first) (ap (λ (b : Bool). if b then 14 else 18) tagged) long front.within)
    ]
    go false untagged = elim (cases_lt (length first) 18) [
      | inl short ↦ subst (λ s. IsSound first len (judged_segment s len next unanswered)) (sym (read_segment-short_untagged first short untagged)) (too_short first)
      | inr long ↦
          subst (λ s. IsSound first len (judged_segment s len next unanswered)) (sym (read_segment-long_untagged first long untagged))
          (sound_untagged first len next unanswered (untagged_fields first) (drop 18 first) (ap (λ (b : Bool). if b then 14 else 18) untagged) long front)
    ]

-- ---- clause by clause
said : (first : List ℕ) (len next unanswered : ℕ) (result : Result Head Fault) → result ≡ judged first len next unanswered → IsFront 46 first len → IsSound first len result
said first len next unanswered result is front = subst (IsSound first len) (sym is) (sound first len next unanswered front)

pub said_header : (first : List ℕ) (len next unanswered : ℕ) (result : Result Head Fault) → result ≡ judged first len next unanswered → IsFront 46 first len → IfOk result (λ head. header_octets head ≤ len)
said_header first len next unanswered (Ok head) is front = (said first len next unanswered (Ok head) is front).header
said_header first len next unanswered (Err fault) is front = tt

pub said_headers : (first : List ℕ) (len next unanswered : ℕ) (result : Result Head Fault) → result ≡ judged first len next unanswered → IsFront 46 first len → IfOk result (λ head. HasHeaders head first)
said_headers first len next unanswered (Ok head) is front = (said first len next unanswered (Ok head) is front).headers
said_headers first len next unanswered (Err fault) is front = tt

pub said_cause : (first : List ℕ) (len next unanswered : ℕ) (result : Result Head Fault) → result ≡ judged first len next unanswered → IsFront 46 first len → IfErr result (λ fault. (request : Bool) → HasCause fault first request)
said_cause first len next unanswered (Ok head) is front = tt
said_cause first len next unanswered (Err fault) is front = (said first len next unanswered (Err fault) is front).cause

pub said_fits : (first : List ℕ) (len next unanswered : ℕ) (result : Result Head Fault) → result ≡ judged first len next unanswered → IsFront 46 first len → IfErr result (λ fault. FitsFault fault)
said_fits first len next unanswered (Ok head) is front = tt
said_fits first len next unanswered (Err fault) is front = (said first len next unanswered (Err fault) is front).fits
