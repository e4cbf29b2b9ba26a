-- What was read is written again, with the reserved bits zero.
use Rattle.std.proofs.Common.{◌≡◌, ℕ, ◌+◌, ◌*◌, ◌/◌, ◌%◌, ◌<◌, ◌≤◌, ◌==◌, if◌then◌else◌, Bool, true, false, List, ◌∷◌, ◌++◌, length, drop, take, get_or, Some, refl, sym, ap, ◌∙◌, arith, length-take, length-drop, inl, inr}
use Rattle.std.specs.Int.{w16, w32, w64, from_be_bytes, to_be_bytes}
use Rattle.std.proofs.lemmas.Nat.{be_bytes_2, be_bytes_4, be_bytes_8}
use Rattle.std.proofs.lemmas.List.{take-append-drop, drop-drop, drop_more, get_or-drop, get_or-take, get_or_past}
use Rattle.std.proofs.lemmas.Bool.{cases_lt}
use Rattle.std.proofs.lemmas.Bool.Decides.{nat_tests}
use Rattle.std.proofs.lemmas.Option.{none-some, same_Some}
use Rattle.iw_octets.specs.declared.head.TaggedHead.{TaggedHead}
use Rattle.iw_octets.specs.declared.head.UntaggedHead.{UntaggedHead}
use Rattle.iw_octets.specs.declared.payload.ReadRequest.{ReadRequest}
use Rattle.iw_octets.specs.declared.payload.TerminateWord.{TerminateWord}
use Rattle.iw_octets.specs.declared.segment.Segment.{Segment}
use Rattle.iw_octets.specs.Stag.{spelled, stag_at}
use Rattle.iw_octets.specs.Head.{first_octet, is_tagged, is_last, version_of, number_32, number_64, tagged_octets, untagged_octets, tagged_fields, untagged_fields, read_tagged, read_untagged}
use Rattle.iw_octets.specs.Payload.{request_octets, request_fields, read_request, word_octets, word_fields, read_word, flags_octet}
use Rattle.iw_octets.specs.Segment.{segment_octets, read_segment}
use Rattle.iw_octets.specs.Laws.{AreOctets, plain_segment, plain_word}
use Rattle.iw_octets.proofs.Spelled.{read_tagged-long, read_tagged-short, read_untagged-long, read_untagged-short, read_request-long, read_request-short, read_word-long, read_word-short}
use Rattle.iw_octets.proofs.Front.{read_segment-long_tagged, read_segment-long_untagged, read_segment-short_tagged, read_segment-short_untagged}

-- n octets from a place on are octets, and what is behind them follows
part : (octets : List ℕ) (at n : ℕ) → AreOctets octets → AreOctets (take n (drop at octets))
part octets at n small i = elim (cases_lt i n) [
  | inl inside ↦
      let same : get_or (take n (drop at octets)) i 0 ≡ get_or octets (at + i) 0 = get_or-take n (drop at octets) i 0 inside ∙ get_or-drop at octets i 0 in
      omega (arith, same, small (at + i))
  | inr past ↦ omega (arith, get_or_past (take n (drop at octets)) i 0 (omega (arith, length-take n (drop at octets), past)))
]

long_part : (octets : List ℕ) (at n next : ℕ) → at + n ≡ next → next ≤ length octets → length (take n (drop at octets)) ≡ n
long_part octets at n next e room = simp (length-take, length-drop) (omega arith)

beyond : (octets : List ℕ) (at n next : ℕ) → at + n ≡ next → take n (drop at octets) ++ drop next octets ≡ drop at octets
beyond octets at n next e =
    ap (λ k. take n (drop at octets) ++ drop k octets) (sym e)
    ∙ ap (λ l. take n (drop at octets) ++ l) (sym (drop-drop n at octets))
    ∙ take-append-drop n (drop at octets)

-- a number that was read is written again in front of what is behind it
again_16 : (octets : List ℕ) (at next : ℕ) → at + 2 ≡ next → next ≤ length octets → AreOctets octets → to_be_bytes w16 (from_be_bytes w16 (take 2 (drop at octets))) ++ drop next octets ≡ drop at octets
again_16 octets at next e room small =
    ap (λ l. l ++ drop next octets) (be_bytes_2 (take 2 (drop at octets)) _ (long_part octets at 2 next e room) (part octets at 2 small) refl) ∙ beyond octets at 2 next e

again_32 : (octets : List ℕ) (at next : ℕ) → at + 4 ≡ next → next ≤ length octets → AreOctets octets → to_be_bytes w32 (number_32 octets at) ++ drop next octets ≡ drop at octets
again_32 octets at next e room small =
    ap (λ l. l ++ drop next octets) (be_bytes_4 (take 4 (drop at octets)) _ (long_part octets at 4 next e room) (part octets at 4 small) refl) ∙ beyond octets at 4 next e

again_64 : (octets : List ℕ) (at next : ℕ) → at + 8 ≡ next → next ≤ length octets → AreOctets octets → to_be_bytes w64 (number_64 octets at) ++ drop next octets ≡ drop at octets
again_64 octets at next e room small =
    ap (λ l. l ++ drop next octets) (be_bytes_8 (take 8 (drop at octets)) _ (long_part octets at 8 next e room) (part octets at 8 small) refl) ∙ beyond octets at 8 next e

stag_again : (octets : List ℕ) (at : ℕ) → at + 4 ≤ length octets → AreOctets octets → spelled (stag_at octets at) ++ drop (at + 4) octets ≡ drop at octets
stag_again octets at room small =
    let domain = get_or octets at 0 in
    let slot = to_be_bytes w16 (from_be_bytes w16 (take 2 (drop (at + 1) octets))) in
    let last : at + 3 + 1 ≡ at + 4 = omega arith in
    let key : get_or octets (at + 3) 0 ∷ drop (at + 4) octets ≡ drop (at + 3) octets = ap (λ k. get_or octets (at + 3) 0 ∷ drop k octets) (sym last) ∙ sym (drop_more octets (at + 3) 0 (omega arith)) in
    ap (λ l. domain ∷ slot ++ l) key
    ∙ ap (λ l. domain ∷ l) (again_16 octets (at + 1) (at + 3) (omega arith) (omega arith) small)
    ∙ sym (drop_more octets at 0 (omega arith))

-- the first octet
last_bit : (first : ℕ) → (if is_last first then 0x40 else 0) ≡ first / 0x40 % 2 * 0x40
last_bit first = grind (arith, nat_tests)

first_tagged : (first : ℕ) → first < 256 → is_tagged first ≡ true → first_octet true (is_last first) (version_of first) ≡ first / 0x40 * 0x40 + first % 4
first_tagged first small tagged =
    let high : 0x80 ≤ first = grind (arith, nat_tests, tagged) in
    omega (arith, last_bit first)

first_untagged : (first : ℕ) → first < 256 → is_tagged first ≡ false → first_octet false (is_last first) (version_of first) ≡ first / 0x40 * 0x40 + first % 4
first_untagged first small untagged =
    let low : first < 0x80 = grind (arith, nat_tests, untagged) in
    omega (arith, last_bit first)

tagged_fields_again : (octets : List ℕ) → 14 ≤ length octets → AreOctets octets → is_tagged (get_or octets 0 0) ≡ true → tagged_octets (tagged_fields octets) ++ drop 14 octets ≡ plain_segment octets
unfolding tagged_octets
tagged_fields_again (a ∷ b ∷ rest) room small tagged =
    let octets : List ℕ = a ∷ b ∷ rest in
    let first = first_octet true (is_last a) (version_of a) in
    ap (λ l. first ∷ b ∷ spelled (stag_at octets 2) ++ l) (again_64 octets 6 14 refl room small)
    ∙ ap (λ l. first ∷ b ∷ l) (stag_again octets 2 (omega arith) small)
    ∙ ap (λ x. x ∷ b ∷ rest) (first_tagged a (small 0) tagged)
tagged_fields_again octets room small tagged = absurd (omega arith)

untagged_fields_again : (octets : List ℕ) → 18 ≤ length octets → AreOctets octets → is_tagged (get_or octets 0 0) ≡ false → untagged_octets (untagged_fields octets) ++ drop 18 octets ≡ plain_segment octets
unfolding untagged_octets
untagged_fields_again (a ∷ b ∷ rest) room small untagged =
    let octets : List ℕ = a ∷ b ∷ rest in
    let first = first_octet false (is_last a) (version_of a) in
    let number : ℕ → List ℕ = λ at. to_be_bytes w32 (number_32 octets at) in
    ap (λ l. first ∷ b ∷ number 2 ++ number 6 ++ number 10 ++ l) (again_32 octets 14 18 refl room small)
    ∙ ap (λ l. first ∷ b ∷ number 2 ++ number 6 ++ l) (again_32 octets 10 14 refl (omega arith) small)
    ∙ ap (λ l. first ∷ b ∷ number 2 ++ l) (again_32 octets 6 10 refl (omega arith) small)
    ∙ ap (λ l. first ∷ b ∷ l) (again_32 octets 2 6 refl (omega arith) small)
    ∙ ap (λ x. x ∷ b ∷ rest) (first_untagged a (small 0) untagged)
untagged_fields_again octets room small untagged = absurd (omega arith)

request_fields_again : (octets : List ℕ) → 28 ≤ length octets → AreOctets octets → request_octets (request_fields octets) ++ drop 28 octets ≡ octets
unfolding request_octets
request_fields_again octets room small =
    let sink = spelled (stag_at octets 0) in
    let sink_to = to_be_bytes w64 (number_64 octets 4) in
    let size = to_be_bytes w32 (number_32 octets 12) in
    ap (λ l. sink ++ sink_to ++ size ++ spelled (stag_at octets 16) ++ l) (again_64 octets 20 28 refl room small)
    ∙ ap (λ l. sink ++ sink_to ++ size ++ l) (stag_again octets 16 (omega arith) small)
    ∙ ap (λ l. sink ++ sink_to ++ l) (again_32 octets 12 16 refl (omega arith) small)
    ∙ ap (λ l. sink ++ l) (again_64 octets 4 12 refl (omega arith) small)
    ∙ stag_again octets 0 (omega arith) small

flags_again : (flags : ℕ) → flags < 256 → flags_octet (flags / 0x80 % 2 == 1) (flags / 0x40 % 2 == 1) (flags / 0x20 % 2 == 1) ≡ flags / 0x20 * 0x20
flags_again flags small =
    let length_bit : (if flags / 0x80 % 2 == 1 then 0x80 else 0) ≡ flags / 0x80 % 2 * 0x80 = grind (arith, nat_tests) in
    let ddp_bit : (if flags / 0x40 % 2 == 1 then 0x40 else 0) ≡ flags / 0x40 % 2 * 0x40 = grind (arith, nat_tests) in
    let request_bit : (if flags / 0x20 % 2 == 1 then 0x20 else 0) ≡ flags / 0x20 % 2 * 0x20 = grind (arith, nat_tests) in
    omega (arith, length_bit, ddp_bit, request_bit)

word_fields_again : (octets : List ℕ) → 4 ≤ length octets → AreOctets octets → word_octets (word_fields octets) ++ drop 4 octets ≡ plain_word octets
unfolding word_octets
word_fields_again (a ∷ b ∷ c ∷ d ∷ rest) room small =
    let cause : a / 16 * 16 + a % 16 ≡ a = omega arith in
    λ i. cause i ∷ b ∷ flags_again c (small 2) i ∷ 0 ∷ rest
word_fields_again octets room small = absurd (omega arith)

-- reads that found enough octets
pub tagged_again : (octets : List ℕ) (head : TaggedHead) (rest : List ℕ) → AreOctets octets → is_tagged (get_or octets 0 0) ≡ true → read_tagged octets ≡ Some (head, rest) → tagged_octets head ++ rest ≡ plain_segment octets
tagged_again octets head rest small tagged e = elim (cases_lt (length octets) 14) [
  | inl short ↦ absurd (none-some _ (sym (read_tagged-short octets short) ∙ e))
  | inr long ↦ ap (λ read. tagged_octets read.0 ++ read.1) (sym (same_Some _ _ (sym (read_tagged-long octets long) ∙ e))) ∙ tagged_fields_again octets long small tagged
]

pub untagged_again : (octets : List ℕ) (head : UntaggedHead) (rest : List ℕ) → AreOctets octets → is_tagged (get_or octets 0 0) ≡ false → read_untagged octets ≡ Some (head, rest) → untagged_octets head ++ rest ≡ plain_segment octets
untagged_again octets head rest small untagged e = elim (cases_lt (length octets) 18) [
  | inl short ↦ absurd (none-some _ (sym (read_untagged-short octets short) ∙ e))
  | inr long ↦ ap (λ read. untagged_octets read.0 ++ read.1) (sym (same_Some _ _ (sym (read_untagged-long octets long) ∙ e))) ∙ untagged_fields_again octets long small untagged
]

pub request_again : (octets : List ℕ) (request : ReadRequest) (rest : List ℕ) → AreOctets octets → read_request octets ≡ Some (request, rest) → request_octets request ++ rest ≡ octets
request_again octets request rest small e = elim (cases_lt (length octets) 28) [
  | inl short ↦ absurd (none-some _ (sym (read_request-short octets short) ∙ e))
  | inr long ↦ ap (λ read. request_octets read.0 ++ read.1) (sym (same_Some _ _ (sym (read_request-long octets long) ∙ e))) ∙ request_fields_again octets long small
]

pub word_again : (octets : List ℕ) (word : TerminateWord) (rest : List ℕ) → AreOctets octets → read_word octets ≡ Some (word, rest) → word_octets word ++ rest ≡ plain_word octets
word_again octets word rest small e = elim (cases_lt (length octets) 4) [
  | inl short ↦ absurd (none-some _ (sym (read_word-short octets short) ∙ e))
  | inr long ↦ ap (λ read. word_octets read.0 ++ read.1) (sym (same_Some _ _ (sym (read_word-long octets long) ∙ e))) ∙ word_fields_again octets long small
]

pub segment_again : (octets : List ℕ) (segment : Segment (List ℕ)) → AreOctets octets → read_segment octets ≡ Some segment → segment_octets segment ≡ plain_segment octets
unfolding segment_octets
segment_again octets segment small e = go (is_tagged (get_or octets 0 0)) refl
  where
    go : (tagged : Bool) → is_tagged (get_or octets 0 0) ≡ tagged → segment_octets segment ≡ plain_segment octets
    go true tagged = elim (cases_lt (length octets) 14) [
      | inl short ↦ absurd (none-some _ (sym (read_segment-short_tagged octets short tagged) ∙ e))
      | inr long ↦ ap segment_octets (sym (same_Some _ _ (sym (read_segment-long_tagged octets long tagged) ∙ e))) ∙ tagged_fields_again octets long small tagged
    ]
    go false untagged = elim (cases_lt (length octets) 18) [
      | inl short ↦ absurd (none-some _ (sym (read_segment-short_untagged octets short untagged) ∙ e))
      | inr long ↦ ap segment_octets (sym (same_Some _ _ (sym (read_segment-long_untagged octets long untagged) ∙ e))) ∙ untagged_fields_again octets long small untagged
    ]
