-- What the header of a Write or a Read Response says of the octets that it was read off.
use Rattle.std.proofs.Common.{◌≡◌, ℕ, Bool, true, false, not, List, Option, Some, None, Ok, Err, refl, sym, ap, ◌∙◌, subst, if◌then◌else◌}
use Rattle.std.specs.Prelude.{Result, ◌==◌}
use Rattle.std.proofs.lemmas.Option.{none-some, same_Some}
use Rattle.iw_octets.specs.declared.fault.Fault.{Fault}
use Rattle.iw_octets.specs.declared.fault.TheConstants.Fault as faults
use Rattle.iw_octets.specs.declared.head.TaggedHead.{TaggedHead}
use Rattle.iw_octets.specs.declared.operation.TaggedOperation.{TaggedOperation}
use Rattle.iw_octets.specs.declared.segment.Segment.{Segment}
use Rattle.iw_octets.specs.declared.segment.Segment.TheVariants.{Tagged, Untagged}
use Rattle.iw_octets.specs.Operation.{rdmap_version, opcode_of, tagged_operation}
use Rattle.iw_octets.specs.Segment.{read_segment}
use Rattle.iw_rdmap.specs.Judging.{expected, tagged_checked, judged, judged_segment, judged_tagged, passed_by, tagged_in}

pub record Passes (octets : List ℕ) (head : TaggedHead) : Type 0 where
  pub payload : List ℕ
  pub operation : TaggedOperation
  pub read : read_segment octets ≡ Some (Tagged head payload)
  pub checked : tagged_checked head ≡ Ok operation

pub passes : (octets : List ℕ) (head : TaggedHead) → Some head ≡ tagged_in (read_segment octets) → Passes octets head
passes octets head e = go (read_segment octets) refl (sym e)
  where
    by : (x : TaggedHead) (payload : List ℕ) (r : Result TaggedOperation Fault) → read_segment octets ≡ Some (Tagged x payload) → tagged_checked x ≡ r → passed_by x r ≡ Some head → Passes octets head
    by x payload (Err fault) read checked h = absurd (none-some _ h)
    by x payload (Ok operation) read checked h = subst (Passes octets) (same_Some _ _ h) (record { payload = payload; operation = operation; read = read; checked = checked })

    go : (o : Option (Segment (List ℕ))) → read_segment octets ≡ o → tagged_in o ≡ Some head → Passes octets head
    go None is h = absurd (none-some _ h)
    go (Some (Tagged x payload)) is h = by x payload (tagged_checked x) is refl h
    go (Some (Untagged x payload)) is h = absurd (none-some _ h)

-- it is judged to be what its operation says
pub tagged_judged : (octets : List ℕ) (head : TaggedHead) (len next unanswered : ℕ) (p : Passes octets head) → judged octets len next unanswered ≡ judged_tagged head (Ok p.operation)
tagged_judged octets head len next unanswered p = ap (λ s. judged_segment s len next unanswered) p.read ∙ ap (judged_tagged head) p.checked

-- which is that of its opcode
pub operation_is : (head : TaggedHead) (operation : TaggedOperation) → tagged_checked head ≡ Ok operation → tagged_operation (opcode_of head.control) ≡ Some operation
operation_is head operation e = go (not (head.ddp_version == 1)) (not (rdmap_version head.control == 1)) (tagged_operation (opcode_of head.control)) e
  where
    go : (a b : Bool) (o : Option TaggedOperation) → (if a then Err faults.TAGGED_VERSION else if b then Err faults.OPERATION_VERSION else expected o) ≡ Ok operation → o ≡ Some operation
    go true b o h = absurd (let no : ⊥ = cc in no)
    go false true o h = absurd (let no : ⊥ = cc in no)
    go false false None h = absurd (let no : ⊥ = cc in no)
    go false false (Some x) h = ap Some (let same : x ≡ operation = cc in same)
