-- What is kept of outstanding Reads, and of requests.
use Rattle.std.proofs.Common.{◌≡◌, ℕ, ◌+◌, ◌<◌, ◌≤◌, ◌^◌, List, [], ◌∷◌, ◌++◌, length, drop, Option, Some, refl, subst, arith, length-append}
use Rattle.std.specs.Prelude.{slice_get}
use Rattle.std.specs.List.{All}
use Rattle.std.proofs.lemmas.List.Elements.{All-head, All-nil, All-push, All-tail}
use Rattle.std.proofs.lemmas.Option.{none-some, same_Some}
use Rattle.iw_octets.specs.declared.payload.ReadRequest.{ReadRequest}
use Rattle.iw_reads.specs.declared.reads.Outstanding.{Outstanding}
use Rattle.iw_reads.specs.declared.requests.Asked.{Asked}
use Rattle.iw_reads.specs.Outstanding.{most_reads, asked_for, HoldsLimits}
use Rattle.iw_reads.specs.Requests.{IsBegun}
use Rattle.iw_reads.specs.Source.{IsInRange}

abbrev Within : Outstanding → Type 0
Within read = read.turned ≤ read.request.size

abbrev IsFresh : Outstanding → Type 0
IsFresh read = read.turned ≡ 0

pub limits-asked : (reads : List Outstanding) (ticket : Option ℕ) (request : ReadRequest) → length reads < most_reads → HoldsLimits reads → HoldsLimits (asked_for reads ticket request)
limits-asked reads ticket request room holds = record {
  few = omega (arith, length-append reads (read ∷ []));
  within = All-push Within reads read holds.within (omega arith);
  in_order = go reads holds.in_order;
}
  where
    read : Outstanding
    read = record { ticket = ticket; request = request; turned = 0 }

    go : (reads : List Outstanding) → All IsFresh (drop 1 reads) → All IsFresh (drop 1 (reads ++ read ∷ []))
    go [] fresh = All-nil IsFresh
    go (first ∷ beyond) fresh = All-push IsFresh beyond read fresh refl

pub limits-ended : (reads : List Outstanding) → HoldsLimits reads → HoldsLimits (drop 1 reads)
limits-ended [] holds = holds
limits-ended (read ∷ []) holds = record { few = omega arith; within = All-nil Within; in_order = All-nil IsFresh }
limits-ended (read ∷ (next ∷ beyond)) holds = record {
  few = let few = holds.few in omega arith;
  within = All-tail Within read (next ∷ beyond) holds.within;
  in_order = All-tail IsFresh next beyond holds.in_order;
}

-- the offsets do not wrap up to the next part of the oldest response in its source
pub part_in_range : (unanswered : List Asked) (fetched : ℕ) (asked : Asked) → slice_get unanswered 0 ≡ Some asked → All (λ asked. IsInRange asked.request) unanswered → IsBegun unanswered fetched →
    0 < fetched → asked.request.source_to + fetched < 2 ^ 64
part_in_range [] fetched asked is ranges begun some = absurd (none-some asked is)
part_in_range (first ∷ beyond) fetched asked is ranges begun some =
    let range : IsInRange first.request = All-head (λ asked. IsInRange asked.request) first beyond ranges in
    let less : fetched < first.request.size = begun some in
    let within : first.request.source_to + first.request.size ≤ 2 ^ 64 = range (omega arith) in
    subst (λ (asked : Asked). asked.request.source_to + fetched < 2 ^ 64) (same_Some first asked is) (omega arith)

-- the header of the oldest request is whole
pub header_whole : (unanswered : List Asked) (asked : Asked) → slice_get unanswered 0 ≡ Some asked → All (λ asked. length asked.header.items ≡ 18) unanswered → length asked.header.items ≡ 18
header_whole [] asked is whole = absurd (none-some asked is)
header_whole (first ∷ beyond) asked is whole =
    subst (λ (asked : Asked). length asked.header.items ≡ 18) (same_Some first asked is) (All-head (λ asked. length asked.header.items ≡ 18) first beyond whole)
