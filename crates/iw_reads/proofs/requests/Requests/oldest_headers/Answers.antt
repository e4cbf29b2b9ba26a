use Rattle.std.proofs.Common.{◌≡◌, Some, Ok, Err, List, length, ap, sym, ◌∙◌, arith, length-append}
use Rattle.std.specs.Prelude.{Result, OnOk, slice_get}
use Rattle.std.specs.Result.{IsOk}
use Rattle.iw_octets.proofs.Spelled.{length-request_octets}
use Rattle.iw_reads.specs.declared.requests.Asked.{Asked}
use Rattle.iw_reads.proofs.Limits.{header_whole}
use Rattle.iw_reads.proofs.requests.Requests.oldest_headers.Goals as goal

from_ok : {A E : Type 0} (r : Result A E) (P : Type 0) → IsOk r → OnOk r P → P
from_ok (Ok x) P is h = h
from_ok (Err e) P is h = cc

pub returns-in-Some-clause-len : goal.returns-in-Some-clause-len
returns-in-Some-clause-len c = λ some.
    let is : slice_get c.self.inside.unanswered.items 0 ≡ Some c.in-Some.asked.now =
    sym (c.in-Some.ensures.value ∙ ap (λ (waiting : List Asked). slice_get waiting 0) c.as_slice.ensures.value) in
    let header : length c.asked.inside.header ≡ 18 = ap (λ (asked : Asked). length asked.header.items) c.asked.view_is ∙ header_whole _ _ is c.self.invariant.headers in
    let request = ap length (c.as_slice-in-Some.ensures.value ∙ c.write.ensures) ∙ length-request_octets c.request.result in
    let front = from_ok c.try_extend_from_slice.result _ (c.try_extend_from_slice.ensures.variant.1 (omega (arith, header, ap length c.new-headers.ensures))) c.try_extend_from_slice.ensures.ok in
    let all = from_ok c.try_extend_from_slice-in-Some.result _ (c.try_extend_from_slice-in-Some.ensures.variant.1 (omega (arith, ap length front, header, request, ap length c.new-headers.ensures, length-append c.new-headers.result.items c.asked.inside.header)))
    c.try_extend_from_slice-in-Some.ensures.ok in
    omega (
      arith,
      ap length all,
      ap length front,
      header,
      request,
      ap length c.new-headers.ensures,
      length-append c.new-headers.result.items c.asked.inside.header,
      length-append c.try_extend_from_slice.new.self.items c.as_slice-in-Some.result.now,
    )
