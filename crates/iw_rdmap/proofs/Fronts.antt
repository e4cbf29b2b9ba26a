-- What stands behind a header that was read.
use Rattle.std.proofs.Common.{◌≡◌, ℕ, ◌+◌, ◌-◌, ◌≤◌, Bool, true, false, List, length, drop, get_or, Some, refl, ap, sym, ◌∙◌, arith, length-drop, inl, inr}
use Rattle.std.proofs.lemmas.Bool.{cases_lt}
use Rattle.std.proofs.lemmas.Option.{none-some, same_Some}
use Rattle.iw_octets.specs.declared.head.UntaggedHead.{UntaggedHead}
use Rattle.iw_octets.specs.declared.segment.Segment.{Segment}
use Rattle.iw_octets.specs.declared.segment.Segment.TheVariants.{Tagged, Untagged}
use Rattle.iw_octets.specs.Head.{is_tagged, tagged_fields, untagged_fields}
use Rattle.iw_octets.specs.Segment.{read_segment}
use Rattle.iw_octets.proofs.Front.{read_segment-long_tagged, read_segment-long_untagged, read_segment-short_tagged, read_segment-short_untagged}
use Rattle.iw_rdmap.specs.Judging.{IsFront}

header_of : Segment (List ℕ) → ℕ
header_of (Tagged head payload) = 14
header_of (Untagged head payload) = 18

payload_of : Segment (List ℕ) → List ℕ
payload_of (Tagged head payload) = payload
payload_of (Untagged head payload) = payload

length-segment : (octets : List ℕ) (segment : Segment (List ℕ)) → read_segment octets ≡ Some segment → length octets ≡ length (payload_of segment) + header_of segment
unfolding payload_of header_of
length-segment octets segment e = go (is_tagged (get_or octets 0 0)) refl
  where
    go : (tagged : Bool) → is_tagged (get_or octets 0 0) ≡ tagged → length octets ≡ length (payload_of segment) + header_of segment
    go true tagged = elim (cases_lt (length octets) 14) [
      | inl short ↦ absurd (none-some _ (sym (read_segment-short_tagged octets short tagged) ∙ e))
      | inr long ↦
          let same : Tagged (tagged_fields octets) (drop 14 octets) ≡ segment = same_Some _ _ (sym (read_segment-long_tagged octets long tagged) ∙ e) in
          let all : length octets ≡ length (drop 14 octets) + 14 = omega (arith, length-drop 14 octets) in
          all ∙ ap (λ s. length (payload_of s) + header_of s) same
    ]
    go false untagged = elim (cases_lt (length octets) 18) [
      | inl short ↦ absurd (none-some _ (sym (read_segment-short_untagged octets short untagged) ∙ e))
      | inr long ↦
          let same : Untagged (untagged_fields octets) (drop 18 octets) ≡ segment = same_Some _ _ (sym (read_segment-long_untagged octets long untagged) ∙ e) in
          let all : length octets ≡ length (drop 18 octets) + 18 = omega (arith, length-drop 18 octets) in
          all ∙ ap (λ s. length (payload_of s) + header_of s) same
    ]

-- the first octets of a ULPDU of n octets whose header is untagged have the first ones of its payload
pub payload_front : (octets : List ℕ) (head : UntaggedHead) (payload : List ℕ) (len n : ℕ) → Some (Untagged head payload) ≡ read_segment octets →
    IsFront 46 octets len → n ≡ len → (18 ≤ n) × IsFront 28 payload (n - 18)
unfolding payload_of header_of
payload_front octets head payload len n e front same =
    let beyond : length octets ≡ length payload + 18 = length-segment octets (Untagged head payload) (sym e) in
    let enough = front.enough in
    let within = front.within in
    (omega arith, record { enough = omega arith; within = omega arith })
