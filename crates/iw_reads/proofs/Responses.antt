-- Responses, part by part.
use Rattle.std.proofs.Common.{◌≡◌, ℕ, ◌+◌, ◌-◌, ◌<◌, Bool, true, false, List, [], ◌∷◌, ◌++◌, length, take, drop, map, if◌then◌else◌, Some, None, refl, sym, ap, ◌∙◌, arith}
use Rattle.std.specs.List.{flat_map}
use Rattle.std.proofs.lemmas.List.{append-nil, append_assoc}
use Rattle.std.proofs.lemmas.List.Concat.{flat_map-append}
use Rattle.std.proofs.lemmas.List.Folds.{flat_map-map}
use Rattle.std.proofs.lemmas.Option.{none-some, same_Some}
use Rattle.iw_octets.specs.declared.part.Part.{Part}
use Rattle.iw_octets.specs.declared.payload.ReadRequest.{ReadRequest}
use Rattle.iw_octets.specs.Parts.{part_at, parts, parts_from}
use Rattle.iw_octets.proofs.PartLemmas.{parts_are_taken}
use Rattle.iw_tagged.proofs.Covers.{parts-cover}
use Rattle.iw_reads.specs.declared.requests.Asked.{Asked}
use Rattle.iw_reads.specs.declared.response.ResponsePart.{ResponsePart}
use Rattle.iw_reads.specs.Laws.{octets_of, parts_left, to_fetch_for, to_fetch}
use Rattle.iw_reads.specs.Requests.{Requested, IsBegun, taken_up, part_for, response_part, part_fetched}
use Rattle.iw_reads.specs.Response.{part_of_response, response_parts}

pub responses-whole : (request : ReadRequest) (max : ℕ) (source : List ℕ) → 14 < max → length source ≡ request.size → flat_map (octets_of request source) (response_parts request max) ≡ source
responses-whole request max source some long =
    flat_map-map (octets_of request source) (part_of_response request) (parts request.size (max - 14))
    ∙ (λ i. flat_map (λ (part : Part). take part.n (drop (place part i) source)) (parts request.size (max - 14)))
    ∙ (parts-cover request.size (max - 14) (omega arith)).joined source long
  where
    place : (part : Part) → request.source_to + part.offset - request.source_to ≡ part.offset
    place part = omega arith

-- the next part, and the rest of its response
left-next : (request : ReadRequest) (offset max : ℕ) → 14 < max →
    let part = part_at request.size (max - 14) offset in
    parts_left request offset max ≡ part_of_response request part ∷ (if part.last then [] else parts_left request (offset + part.n) max)
left-next request offset max some =
    let part = part_at request.size (max - 14) offset in
    ap (map (part_of_response request)) (parts_are_taken request.size (max - 14) offset (omega arith)) ∙ ap (λ rest. part_of_response request part ∷ rest) (go part.last)
  where
    go : (last : Bool) →
        map (part_of_response request) (if last then [] else parts_from (offset + (part_at request.size (max - 14) offset).n) (request.size - (offset + (part_at request.size (max - 14) offset).n)) (max - 14))
        ≡ (if last then [] else parts_left request (offset + (part_at request.size (max - 14) offset).n) max)
    go true = refl
    go false = refl

-- nothing of the oldest response was fetched
all_left : (waiting : List Asked) (max : ℕ) → to_fetch_for waiting 0 max ≡ flat_map (λ (asked : Asked). response_parts asked.request max) waiting
all_left [] max = refl
all_left (asked ∷ beyond) max =
    ap (λ size. map (part_of_response asked.request) (parts_from 0 size (max - 14)) ++ flat_map (λ (later : Asked). response_parts later.request max) beyond) (let e : asked.request.size - 0 ≡ asked.request.size = omega arith in e)

-- what a part leaves to be fetched, by whether it is the last
after_part : (asked : Asked) (beyond : List Asked) (next fetched n max : ℕ) (last : Bool) →
    (if last then [] else parts_left asked.request (fetched + n) max) ++ flat_map (λ (later : Asked). response_parts later.request max) beyond
    ≡ to_fetch (if last then record { next = next; unanswered = beyond; fetched = 0 } else record { next = next; unanswered = asked ∷ beyond; fetched = fetched + n }) max
after_part asked beyond next fetched n max true = sym (all_left beyond max)
after_part asked beyond next fetched n max false = refl

pub first-fetched : (s : Requested) (max : ℕ) (part : ResponsePart) → 14 < max → response_part s max ≡ Some part → to_fetch s max ≡ part ∷ to_fetch (part_fetched s (Some part)) max
first-fetched s max part some is = go s.unanswered is
  where
    go : (waiting : List Asked) → part_for waiting s.fetched max ≡ Some part →
        to_fetch_for waiting s.fetched max ≡ part ∷ to_fetch (part_fetched (record { next = s.next; unanswered = waiting; fetched = s.fetched }) (Some part)) max
    go [] is = absurd (none-some part is)
    go (asked ∷ beyond) is =
        let cut = part_at asked.request.size (max - 14) s.fetched in
        let rest : List ResponsePart = flat_map (λ (later : Asked). response_parts later.request max) beyond in
        ap (λ parts. parts ++ rest) (left-next asked.request s.fetched max some)
        ∙ ap (λ rest. part_of_response asked.request cut ∷ rest) (after_part asked beyond s.next s.fetched cut.n max cut.last)
        ∙ ap (λ part. part ∷ to_fetch (part_fetched (record { next = s.next; unanswered = asked ∷ beyond; fetched = s.fetched }) (Some part)) max) (same_Some _ part is)

pub last-taken : (s : Requested) (max : ℕ) (asked : Asked) → IsBegun s.unanswered s.fetched → to_fetch (taken_up s asked) max ≡ to_fetch s max ++ response_parts asked.request max
last-taken s max asked begun = go s.unanswered begun
  where
    go : (waiting : List Asked) → IsBegun waiting s.fetched → to_fetch_for (waiting ++ asked ∷ []) s.fetched max ≡ to_fetch_for waiting s.fetched max ++ response_parts asked.request max
    go [] begun = ap (λ fetched. to_fetch_for (asked ∷ []) fetched max) begun ∙ all_left (asked ∷ []) max ∙ append-nil (response_parts asked.request max)
    go (first ∷ beyond) begun =
        let all : Asked → List ResponsePart = λ later. response_parts later.request max in
        ap (λ rest. parts_left first.request s.fetched max ++ rest) (flat_map-append all beyond (asked ∷ []) ∙ ap (λ last. flat_map all beyond ++ last) (append-nil (all asked)))
        ∙ sym (append_assoc (parts_left first.request s.fetched max) (flat_map all beyond) (all asked))

pub all-done : (s : Requested) (max : ℕ) → response_part s max ≡ None → s.unanswered ≡ []
all-done s max is = go s.unanswered is
  where
    go : (waiting : List Asked) → part_for waiting s.fetched max ≡ None → waiting ≡ []
    go [] is = refl
    go (asked ∷ beyond) is = absurd (none-some _ (sym is))
