-- A Terminate that was written is judged as one that carries the fault.
use Rattle.std.proofs.Common.{◌≡◌, ℕ, ◌-◌, ◌≤◌, ◌<◌, Bool, true, false, not, ◌||◌, nat_lt, List, [], ◌++◌, length, take, drop, get_or, Some, None, Ok, refl, ap, sym, ◌∙◌, arith, length-append, append_assoc, if◌then◌else◌}
use Rattle.std.specs.Int.{w16, to_be_bytes}
use Rattle.std.proofs.lemmas.Bool.Decides.{nat_tests}
use Rattle.std.proofs.lemmas.List.{length-take}
use Rattle.std.proofs.lemmas.Option.{same_Some}
use Rattle.iw_octets.specs.declared.fault.Fault.{Fault}
use Rattle.iw_octets.specs.declared.fault.TheConstants.Fault as faults
use Rattle.iw_octets.specs.declared.payload.TerminateWord.{TerminateWord}
use Rattle.iw_octets.specs.declared.segment.Segment.TheVariants.{Untagged}
use Rattle.iw_octets.specs.Head.{FitsUntagged, is_tagged, untagged_octets}
use Rattle.iw_octets.specs.Payload.{FitsWord, word_octets, word_fields}
use Rattle.iw_octets.specs.Segment.{read_segment, segment_octets}
use Rattle.iw_octets.proofs.Segments.{read_segment-spelled}
use Rattle.iw_octets.proofs.Spelled.{length-untagged_octets, length-word_octets, read_word-long, read_word-spelled}
use Rattle.iw_rdmap.specs.declared.head.Head.TheVariants as heads
use Rattle.iw_rdmap.specs.Judging.{judged, judged_segment, terminate_fault, fault_or}
use Rattle.iw_rdmap.specs.Laws.{terminate_head}
use Rattle.iw_rdmap.specs.Terminate.{FitsFault, has_segment, has_request, header_len, word_for, terminate_octets}

fits_head : FitsUntagged terminate_head
fits_head = record { ddp_version = omega arith; control = omega arith; tail = omega arith; queue = omega arith; msn = omega arith; mo = omega arith }

fits_word : (fault : Fault) (request : Bool) → FitsFault fault → fault.code < 256 → FitsWord (word_for fault request)
fits_word fault request fits code = record { layer = fits.layer; kind = fits.kind; code = code }

read_spelled : (payload : List ℕ) → read_segment (untagged_octets terminate_head ++ payload) ≡ Some (Untagged terminate_head payload)
unfolding segment_octets
read_spelled payload = read_segment-spelled (Untagged terminate_head payload) fits_head

-- what comes with the fault, and how long it is at most
abbrev segment_part : Fault → List ℕ → ℕ → List ℕ
segment_part fault first len = if has_segment fault then to_be_bytes w16 len ++ take (header_len first) first else []

abbrev request_part : Fault → List ℕ → Bool → List ℕ
request_part fault first request = if has_request fault request then take 28 (drop (header_len first) first) else []

length_if : (b : Bool) (octets : List ℕ) (most : ℕ) → length octets ≤ most → length (if b then octets else []) ≤ most
length_if true octets most h = h
length_if false octets most h = omega arith

header_len-most : (b : Bool) → (if b then 14 else 18) ≤ 18
header_len-most true = omega arith
header_len-most false = omega arith

length-segment_part : (fault : Fault) (first : List ℕ) (len : ℕ) → length (segment_part fault first len) ≤ 20
length-segment_part fault first len =
    let most : header_len first ≤ 18 = header_len-most (is_tagged (get_or first 0 0)) in
    let header = length-take (header_len first) first in
    length_if (has_segment fault) _ 20 (omega (arith, length-append (to_be_bytes w16 len) (take (header_len first) first)))

length-request_part : (fault : Fault) (first : List ℕ) (request : Bool) → length (request_part fault first request) ≤ 28
length-request_part fault first request =
    let header = length-take 28 (drop (header_len first) first) in
    length_if (has_request fault request) _ 28 (omega arith)

-- the checks of a Terminate whose payload has a word and what comes with it
passes : (n : ℕ) → 4 ≤ n → n ≤ 52 → terminate_fault terminate_head n ≡ None
passes n enough within =
    let long : nat_lt 52 n ≡ false = grind (arith, nat_tests) in
    let short : nat_lt n 4 ≡ false = grind (arith, nat_tests) in
    go (nat_lt 52 n) (nat_lt n 4) long short
  where
    go : (long short : Bool) → long ≡ false → short ≡ false →
        (if long || not true then Some faults.UNTAGGED_TOO_LONG else if short then Some faults.SEGMENT_SHORT else None) ≡ None
    go true short h k = cc
    go false true h k = cc
    go false false h k = refl

-- the word at the front of the payload
word_spelled : (word : TerminateWord) (rest : List ℕ) → FitsWord word → word_fields (word_octets word ++ rest) ≡ word
word_spelled word rest fits =
    let payload = word_octets word ++ rest in
    let long : 4 ≤ length payload = omega (arith, length-append (word_octets word) rest, length-word_octets word) in
    ap (λ (read : TerminateWord × List ℕ). read.0) (same_Some _ _ (sym (read_word-long payload long) ∙ read_word-spelled word rest fits))

pub terminate_judged : (fault : Fault) (first : List ℕ) (len next unanswered : ℕ) (request : Bool) → FitsFault fault → fault.code < 256 →
    judged (untagged_octets terminate_head ++ terminate_octets fault first len request) (length (untagged_octets terminate_head ++ terminate_octets fault first len request)) next unanswered
    ≡ Ok (heads.Terminate terminate_head (word_for fault request))
terminate_judged fault first len next unanswered request fits code =
    let word = word_for fault request in
    let segment = segment_part fault first len in
    let rdmap = request_part fault first request in
    let payload = word_octets word ++ segment ++ rdmap in
    let ulpdu = untagged_octets terminate_head ++ payload in
    let word_len = length-word_octets word in
    let segment_len = length-segment_part fault first len in
    let rdmap_len = length-request_part fault first request in
    let front_len = length-append (word_octets word) segment in
    let payload_len = length-append (word_octets word ++ segment) rdmap in
    let total = length-append (untagged_octets terminate_head) payload in
    let head_len = length-untagged_octets terminate_head in
    let passed = passes (length ulpdu - 18) (omega arith) (omega arith) in
    let spelled : word_fields payload ≡ word = ap word_fields (append_assoc (word_octets word) segment rdmap) ∙ word_spelled word (segment ++ rdmap) (fits_word fault request fits code) in
    ap (λ s. judged_segment s (length ulpdu) next unanswered) (read_spelled payload)
    ∙ (λ i. fault_or (passed i) (heads.Terminate terminate_head (spelled i)))
