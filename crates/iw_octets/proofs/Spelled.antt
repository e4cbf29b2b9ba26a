-- What was spelled is read again, whatever stands behind it.
use Rattle.std.proofs.Common.{◌≡◌, ℕ, ◌+◌, ◌*◌, ◌/◌, ◌%◌, ◌<◌, ◌≤◌, Bool, true, false, List, ◌++◌, length, drop, Some, None, refl, ◌∙◌, eqb, ltb, arith}
use Rattle.std.proofs.lemmas.Nat.{from_be_bytes-to_be_bytes_2, from_be_bytes-to_be_bytes_4, from_be_bytes-to_be_bytes_8}
use Rattle.std.proofs.lemmas.Bool.{le-ltb, lt-ltb, cond-true, cond-false}
use Rattle.std.proofs.lemmas.Bool.Decides.{nat_tests}
use Rattle.iw_octets.specs.declared.head.TaggedHead.{TaggedHead}
use Rattle.iw_octets.specs.declared.head.UntaggedHead.{UntaggedHead}
use Rattle.iw_octets.specs.declared.payload.ReadRequest.{ReadRequest}
use Rattle.iw_octets.specs.declared.payload.TerminateWord.{TerminateWord}
use Rattle.iw_octets.specs.Head.{first_octet, is_tagged, is_last, version_of, tagged_octets, untagged_octets, tagged_fields, untagged_fields, read_tagged, read_untagged, FitsTagged, FitsUntagged}
use Rattle.iw_octets.specs.Payload.{request_octets, request_fields, read_request, word_octets, word_fields, read_word, flags_octet, FitsRequest, FitsWord}

-- the first octet
pub is_tagged-first_octet : (tagged last : Bool) (version : ℕ) → version < 4 → is_tagged (first_octet tagged last version) ≡ tagged
is_tagged-first_octet true true version h = grind (arith, nat_tests)
is_tagged-first_octet true false version h = grind (arith, nat_tests)
is_tagged-first_octet false true version h = grind (arith, nat_tests)
is_tagged-first_octet false false version h = grind (arith, nat_tests)

pub is_last-first_octet : (tagged last : Bool) (version : ℕ) → version < 4 → is_last (first_octet tagged last version) ≡ last
is_last-first_octet true true version h = grind (arith, nat_tests)
is_last-first_octet true false version h = grind (arith, nat_tests)
is_last-first_octet false true version h = grind (arith, nat_tests)
is_last-first_octet false false version h = grind (arith, nat_tests)

pub version_of-first_octet : (tagged last : Bool) (version : ℕ) → version < 4 → version_of (first_octet tagged last version) ≡ version
version_of-first_octet true true version h = omega arith
version_of-first_octet true false version h = omega arith
version_of-first_octet false true version h = omega arith
version_of-first_octet false false version h = omega arith

-- lengths
pub length-tagged_octets : (head : TaggedHead) → length (tagged_octets head) ≡ 14
unfolding tagged_octets
length-tagged_octets head = omega arith

pub length-untagged_octets : (head : UntaggedHead) → length (untagged_octets head) ≡ 18
unfolding untagged_octets
length-untagged_octets head = omega arith

pub length-request_octets : (request : ReadRequest) → length (request_octets request) ≡ 28
unfolding request_octets
length-request_octets request = omega arith

pub length-word_octets : (word : TerminateWord) → length (word_octets word) ≡ 4
unfolding word_octets
length-word_octets word = omega arith

-- a read of octets that are enough, and of octets that are too few
pub read_tagged-long : (octets : List ℕ) → 14 ≤ length octets → read_tagged octets ≡ Some (tagged_fields octets, drop 14 octets)
unfolding read_tagged
read_tagged-long octets h = cond-false (ltb (length octets) 14) _ _ (le-ltb _ _ h)

pub read_tagged-short : (octets : List ℕ) → length octets < 14 → read_tagged octets ≡ None
unfolding read_tagged
read_tagged-short octets h = cond-true (ltb (length octets) 14) _ _ (lt-ltb _ _ h)

pub read_untagged-long : (octets : List ℕ) → 18 ≤ length octets → read_untagged octets ≡ Some (untagged_fields octets, drop 18 octets)
unfolding read_untagged
read_untagged-long octets h = cond-false (ltb (length octets) 18) _ _ (le-ltb _ _ h)

pub read_untagged-short : (octets : List ℕ) → length octets < 18 → read_untagged octets ≡ None
unfolding read_untagged
read_untagged-short octets h = cond-true (ltb (length octets) 18) _ _ (lt-ltb _ _ h)

pub read_request-long : (octets : List ℕ) → 28 ≤ length octets → read_request octets ≡ Some (request_fields octets, drop 28 octets)
unfolding read_request
read_request-long octets h = cond-false (ltb (length octets) 28) _ _ (le-ltb _ _ h)

pub read_request-short : (octets : List ℕ) → length octets < 28 → read_request octets ≡ None
unfolding read_request
read_request-short octets h = cond-true (ltb (length octets) 28) _ _ (lt-ltb _ _ h)

pub read_word-long : (octets : List ℕ) → 4 ≤ length octets → read_word octets ≡ Some (word_fields octets, drop 4 octets)
unfolding read_word
read_word-long octets h = cond-false (ltb (length octets) 4) _ _ (le-ltb _ _ h)

pub read_word-short : (octets : List ℕ) → length octets < 4 → read_word octets ≡ None
unfolding read_word
read_word-short octets h = cond-true (ltb (length octets) 4) _ _ (lt-ltb _ _ h)

-- what was spelled, with anything behind it
pub read_tagged-spelled : (head : TaggedHead) (rest : List ℕ) → FitsTagged head → read_tagged (tagged_octets head ++ rest) ≡ Some (head, rest)
unfolding tagged_octets
read_tagged-spelled head rest fits =
    let last = is_last-first_octet true head.last head.ddp_version fits.ddp_version in
    let version = version_of-first_octet true head.last head.ddp_version fits.ddp_version in
    let slot = from_be_bytes-to_be_bytes_2 head.stag.slot fits.stag.slot in
    let to = from_be_bytes-to_be_bytes_8 head.to fits.to in
    read_tagged-long (tagged_octets head ++ rest) (omega arith)
    ∙ (λ i. Some (
      record {
        last = last i;
        ddp_version = version i;
        control = head.control;
        stag = record { domain = head.stag.domain; slot = slot i; key = head.stag.key };
        to = to i;
      },
      rest,
    ))

pub read_untagged-spelled : (head : UntaggedHead) (rest : List ℕ) → FitsUntagged head → read_untagged (untagged_octets head ++ rest) ≡ Some (head, rest)
unfolding untagged_octets
read_untagged-spelled head rest fits =
    let last = is_last-first_octet false head.last head.ddp_version fits.ddp_version in
    let version = version_of-first_octet false head.last head.ddp_version fits.ddp_version in
    let tail = from_be_bytes-to_be_bytes_4 head.tail fits.tail in
    let queue = from_be_bytes-to_be_bytes_4 head.queue fits.queue in
    let msn = from_be_bytes-to_be_bytes_4 head.msn fits.msn in
    let mo = from_be_bytes-to_be_bytes_4 head.mo fits.mo in
    read_untagged-long (untagged_octets head ++ rest) (omega arith)
    ∙ (λ i. Some (
      record {
        last = last i;
        ddp_version = version i;
        control = head.control;
        tail = tail i;
        queue = queue i;
        msn = msn i;
        mo = mo i;
      },
      rest,
    ))

pub read_request-spelled : (request : ReadRequest) (rest : List ℕ) → FitsRequest request → read_request (request_octets request ++ rest) ≡ Some (request, rest)
unfolding request_octets
read_request-spelled request rest fits =
    let sink = from_be_bytes-to_be_bytes_2 request.sink.slot fits.sink.slot in
    let sink_to = from_be_bytes-to_be_bytes_8 request.sink_to fits.sink_to in
    let size = from_be_bytes-to_be_bytes_4 request.size fits.size in
    let source = from_be_bytes-to_be_bytes_2 request.source.slot fits.source.slot in
    let source_to = from_be_bytes-to_be_bytes_8 request.source_to fits.source_to in
    read_request-long (request_octets request ++ rest) (omega arith)
    ∙ (λ i. Some (
      record {
        sink = record { domain = request.sink.domain; slot = sink i; key = request.sink.key };
        sink_to = sink_to i;
        size = size i;
        source = record { domain = request.source.domain; slot = source i; key = request.source.key };
        source_to = source_to i;
      },
      rest,
    ))

length_flag : (a b c : Bool) → eqb (flags_octet a b c / 0x80 % 2) 1 ≡ a
length_flag true true true = refl
length_flag true true false = refl
length_flag true false true = refl
length_flag true false false = refl
length_flag false true true = refl
length_flag false true false = refl
length_flag false false true = refl
length_flag false false false = refl

ddp_flag : (a b c : Bool) → eqb (flags_octet a b c / 0x40 % 2) 1 ≡ b
ddp_flag true true true = refl
ddp_flag true true false = refl
ddp_flag true false true = refl
ddp_flag true false false = refl
ddp_flag false true true = refl
ddp_flag false true false = refl
ddp_flag false false true = refl
ddp_flag false false false = refl

request_flag : (a b c : Bool) → eqb (flags_octet a b c / 0x20 % 2) 1 ≡ c
request_flag true true true = refl
request_flag true true false = refl
request_flag true false true = refl
request_flag true false false = refl
request_flag false true true = refl
request_flag false true false = refl
request_flag false false true = refl
request_flag false false false = refl

pub read_word-spelled : (word : TerminateWord) (rest : List ℕ) → FitsWord word → read_word (word_octets word ++ rest) ≡ Some (word, rest)
unfolding word_octets
read_word-spelled word rest fits =
    let kind_small : word.kind < 16 = fits.kind in
    let layer : (word.layer * 16 + word.kind) / 16 ≡ word.layer = omega arith in
    let kind : (word.layer * 16 + word.kind) % 16 ≡ word.kind = omega arith in
    let has_length = length_flag word.has_length word.has_ddp word.has_request in
    let has_ddp = ddp_flag word.has_length word.has_ddp word.has_request in
    let has_request = request_flag word.has_length word.has_ddp word.has_request in
    read_word-long (word_octets word ++ rest) (omega arith)
    ∙ (λ i. Some (
      record {
        layer = layer i;
        kind = kind i;
        code = word.code;
        has_length = has_length i;
        has_ddp = has_ddp i;
        has_request = has_request i;
      },
      rest,
    ))
