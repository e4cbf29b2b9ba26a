use Rattle.std.proofs.Common.{◌≡◌, Some, List, ap, sym, ◌∙◌, arith}
use Rattle.std.specs.Prelude.{slice_get}
use Rattle.iw_octets.specs.declared.part.Part.{Part}
use Rattle.iw_octets.specs.declared.payload.ReadRequest.{ReadRequest}
use Rattle.iw_reads.specs.declared.requests.Asked.{Asked}
use Rattle.iw_reads.proofs.Limits.{part_in_range}
use Rattle.iw_reads.proofs.requests.Requests.next_part.Goals as goal

pub part_of_response-requires : goal.part_of_response-requires
part_of_response-requires c = λ some.
    let at : c.part_at-part.result.offset ≡ c.self.inside.fetched = ap (λ (part : Part). part.offset) c.part_at-part.ensures in
    let is : slice_get c.self.inside.unanswered.items 0 ≡ Some c.in_ok-asked.asked.now =
    sym (c.in_ok-asked.ensures.value ∙ ap (λ (waiting : List Asked). slice_get waiting 0) c.as_slice.ensures.value) in
    let range = part_in_range _ _ _ is c.self.invariant.ranges c.self.invariant.begun (omega arith) in
    omega (arith, ap (λ (request : ReadRequest). request.source_to) c.request.ensures)
