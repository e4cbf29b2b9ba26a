-- A ULPDU whose header passed its checks: which segment it is, and where its payload goes.
use Rattle.std.proofs.Common.{◌≡◌, ℕ, ◌+◌, ◌-◌, ◌<◌, Bool, true, false, not, nat_lt, nat_le, if◌then◌else◌, List, length, drop, Option, Some, None, Ok, Err, refl, sym, ap, ◌∙◌, subst, arith, length-drop}
use Rattle.std.specs.Prelude.{◌==◌}
use Rattle.std.proofs.lemmas.Bool.Decides.{nat_tests}
use Rattle.iw_octets.specs.declared.fault.Fault.{Fault}
use Rattle.iw_octets.specs.declared.constants.TheConstants.{MAX_UNANSWERED}
use Rattle.iw_octets.specs.declared.fault.TheConstants.Fault as faults
use Rattle.iw_octets.specs.declared.head.TaggedHead.{TaggedHead}
use Rattle.iw_octets.specs.declared.head.UntaggedHead.{UntaggedHead}
use Rattle.iw_octets.specs.declared.operation.UntaggedOperation.TheVariants as operations
use Rattle.iw_octets.specs.declared.segment.Segment.{Segment}
use Rattle.iw_octets.specs.declared.segment.Segment.TheVariants.{Tagged, Untagged}
use Rattle.iw_octets.specs.Operation.{rdmap_version, opcode_of}
use Rattle.iw_octets.specs.Payload.{request_fields, word_fields}
use Rattle.iw_octets.specs.Segment.{read_segment}
use Rattle.iw_fpdu.specs.Places.{data_index}
use Rattle.iw_fpdu.specs.Found.{Found, octet_in, ulpdu, ulpdu_len}
use Rattle.iw_fpdu.proofs.Octets.{length_data}
use Rattle.iw_rdmap.specs.declared.head.Head.{Head}
use Rattle.iw_rdmap.specs.declared.head.Head.TheVariants as heads
use Rattle.iw_rdmap.specs.Head.{header_octets}
use Rattle.iw_rdmap.specs.Judging.{judged, judged_segment, request_fault, terminate_fault}
use Rattle.iw_rdmap.specs.Judging as judging
use Rattle.iw_rdmap.specs.Laws.{carries, carries_send}
use Rattle.iw_rdmap.proofs.Listed.{listed-tagged, listed-untagged}
use Rattle.iw_stream.specs.Frames.{payload_of}
use Rattle.iw_stream.proofs.Heads.{segment_past}

pub length_ulpdu : (f : Found) → length (ulpdu f) ≡ ulpdu_len f
length_ulpdu f = length_data (octet_in f.arrived f.base) f.layout.markers (data_index f.layout.markers f.start + 2) (ulpdu_len f)

-- ---- the segment of a header that passed its checks
pub record IsTagged (u : List ℕ) (head : TaggedHead) : Type 0 where
  pub payload : List ℕ
  pub is : read_segment u ≡ Some (Tagged head payload)

pub record IsUntagged (u : List ℕ) (head : UntaggedHead) : Type 0 where
  pub payload : List ℕ
  pub is : read_segment u ≡ Some (Untagged head payload)

-- and a Read Request comes only if one more may wait
abbrev pub Judges : List ℕ → ℕ → Head → Type 0
Judges u unanswered (heads.Write head) = IsTagged u head
Judges u unanswered (heads.Response head) = IsTagged u head
Judges u unanswered (heads.Send head) = IsUntagged u head
Judges u unanswered (heads.Request head request) = IsUntagged u head × (unanswered < MAX_UNANSWERED)
Judges u unanswered (heads.Terminate head word) = IsUntagged u head

tagged_chain : (P : Head → Type 0) (a b d e : Bool) (head : TaggedHead) (x : Head) →
    (if a then Err faults.TAGGED_VERSION else if b then Err faults.OPERATION_VERSION else if d then Ok (heads.Write head) else if e then Ok (heads.Response head) else Err faults.OPERATION_UNEXPECTED) ≡ Ok x
    → P (heads.Write head) → P (heads.Response head) → P x
tagged_chain P true b d e head x h w r = absurd (let no : ⊥ = cc in no)
tagged_chain P false true d e head x h w r = absurd (let no : ⊥ = cc in no)
tagged_chain P false false true e head x h w r = subst P (let same : heads.Write head ≡ x = cc in same) w
tagged_chain P false false false true head x h w r = subst P (let same : heads.Response head ≡ x = cc in same) r
tagged_chain P false false false false head x h w r = absurd (let no : ⊥ = cc in no)

passed : (P : Head → Type 0) (o : Option Fault) (y x : Head) → judging.fault_or o y ≡ Ok x → (o ≡ None → P y) → P x
passed P None y x h r = subst P (let same : y ≡ x = cc in same) (r refl)
passed P (Some fault) y x h r = absurd (let no : ⊥ = cc in no)

untagged_chain : (P : Head → Type 0) (a b d e f g : Bool) (o w : Option Fault) (head : UntaggedHead) (request terminate : Head) (x : Head) →
    (if a then Err faults.UNTAGGED_VERSION else if b then Err faults.UNTAGGED_INVALID_QUEUE else if d then Err faults.OPERATION_VERSION else if e then Ok (heads.Send head) else if f then judging.fault_or o request
    else if g then judging.fault_or w terminate else Err faults.OPERATION_UNEXPECTED) ≡ Ok x
    → P (heads.Send head) → (o ≡ None → P request) → (w ≡ None → P terminate) → P x
untagged_chain P true b d e f g o w head request terminate x h s r t = absurd (let no : ⊥ = cc in no)
untagged_chain P false true d e f g o w head request terminate x h s r t = absurd (let no : ⊥ = cc in no)
untagged_chain P false false true e f g o w head request terminate x h s r t = absurd (let no : ⊥ = cc in no)
untagged_chain P false false false true f g o w head request terminate x h s r t = subst P (let same : heads.Send head ≡ x = cc in same) s
untagged_chain P false false false false true g o w head request terminate x h s r t = passed P o request x h r
untagged_chain P false false false false false true o w head request terminate x h s r t = passed P w terminate x h t
untagged_chain P false false false false false false o w head request terminate x h s r t = absurd (let no : ⊥ = cc in no)

few_wait : (head : UntaggedHead) (n next unanswered : ℕ) → request_fault head n next unanswered ≡ None → unanswered < MAX_UNANSWERED
few_wait head n next unanswered e = go (not (head.msn == next)) (nat_le MAX_UNANSWERED unanswered) refl _ e
  where
    go : (a b : Bool) → nat_le MAX_UNANSWERED unanswered ≡ b → (o : Option Fault) → (if a then Some faults.UNTAGGED_MSN_RANGE else if b then Some faults.UNTAGGED_NO_BUFFER else o) ≡ None → unanswered < MAX_UNANSWERED
    go true b is o h = absurd (let no : ⊥ = cc in no)
    go false true is o h = absurd (let no : ⊥ = cc in no)
    go false false is o h = grind (arith, nat_tests)

pub judges : (u : List ℕ) (next unanswered : ℕ) (x : Head) → judged u (length u) next unanswered ≡ Ok x → Judges u unanswered x
judges u next unanswered x e = go (read_segment u) refl e
  where
    go : (o : Option (Segment (List ℕ))) → read_segment u ≡ o → judged_segment o (length u) next unanswered ≡ Ok x → Judges u unanswered x
    go None is h = absurd (let no : ⊥ = cc in no)
    go (Some (Tagged head payload)) is h =
        let tagged : Judges u unanswered (heads.Write head) = record { payload = payload; is = is } in
        tagged_chain (Judges u unanswered) (not (head.ddp_version == 1)) (not (rdmap_version head.control == 1)) (opcode_of head.control == 0) (opcode_of head.control == 2) head x
        (sym (listed-tagged head payload (length u) next unanswered) ∙ h) tagged tagged
    go (Some (Untagged head payload)) is h =
        let untagged : Judges u unanswered (heads.Send head) = record { payload = payload; is = is } in
        untagged_chain (Judges u unanswered) (not (head.ddp_version == 1)) (nat_lt 2 head.queue) (not (rdmap_version head.control == 1)) (carries_send head) (carries head operations.ReadRequest) (carries head operations.Terminate)
        (request_fault head (length u - 18) next unanswered) (terminate_fault head (length u - 18)) head (heads.Request head (request_fields payload)) (heads.Terminate head (word_fields payload)) x
        (sym (listed-untagged head payload (length u) next unanswered) ∙ h) untagged
        (λ none. (untagged, few_wait head (length u - 18) next unanswered none)) (λ none. untagged)

-- its payload is all behind the header
pub record HasPayload (u : List ℕ) (head : Head) : Type 0 where
  pub payload : payload_of (read_segment u) ≡ drop (header_octets head) u
  pub len : length (payload_of (read_segment u)) ≡ length u - header_octets head

tagged_payload : (u : List ℕ) (head : TaggedHead) → IsTagged u head → payload_of (read_segment u) ≡ drop 14 u
tagged_payload u head t = ap payload_of t.is ∙ (segment_past u (Tagged head t.payload) t.is).payload

untagged_payload : (u : List ℕ) (head : UntaggedHead) → IsUntagged u head → payload_of (read_segment u) ≡ drop 18 u
untagged_payload u head t = ap payload_of t.is ∙ (segment_past u (Untagged head t.payload) t.is).payload

pub has_payload : (u : List ℕ) (unanswered : ℕ) (head : Head) → Judges u unanswered head → HasPayload u head
has_payload u unanswered (heads.Write head) j = let p = tagged_payload u head j in record { payload = p; len = ap length p ∙ length-drop 14 u }
has_payload u unanswered (heads.Response head) j = let p = tagged_payload u head j in record { payload = p; len = ap length p ∙ length-drop 14 u }
has_payload u unanswered (heads.Send head) j = let p = untagged_payload u head j in record { payload = p; len = ap length p ∙ length-drop 18 u }
has_payload u unanswered (heads.Request head request) j = let p = untagged_payload u head j.0 in record { payload = p; len = ap length p ∙ length-drop 18 u }
has_payload u unanswered (heads.Terminate head word) j = let p = untagged_payload u head j in record { payload = p; len = ap length p ∙ length-drop 18 u }
