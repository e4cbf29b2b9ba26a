-- A segment that was spelled is read again.
use Rattle.std.proofs.Common.{◌≡◌, ℕ, ◌+◌, ◌<◌, true, false, List, [], ◌∷◌, ◌++◌, length, get_or, Some, None, refl, ap, ◌∙◌, arith, length-append}
use Rattle.std.specs.Option.{option_map}
use Rattle.std.proofs.lemmas.Bool.{cond-true, cond-false}
use Rattle.iw_octets.specs.declared.head.TaggedHead.{TaggedHead}
use Rattle.iw_octets.specs.declared.head.UntaggedHead.{UntaggedHead}
use Rattle.iw_octets.specs.declared.segment.Segment.{Segment}
use Rattle.iw_octets.specs.declared.segment.Segment.TheVariants.{Tagged, Untagged}
use Rattle.iw_octets.specs.Head.{first_octet, is_tagged, tagged_octets, untagged_octets, read_tagged, read_untagged, FitsTagged, FitsUntagged}
use Rattle.iw_octets.specs.Segment.{segment_octets, read_segment, FitsSegment}
use Rattle.iw_octets.proofs.Spelled.{is_tagged-first_octet, length-tagged_octets, length-untagged_octets, read_tagged-spelled, read_untagged-spelled}

-- octets whose first has the tagged flag, and octets whose first has not
pub read_segment-tagged : (octets : List ℕ) → 0 < length octets → is_tagged (get_or octets 0 0) ≡ true → read_segment octets ≡ option_map (λ read. Tagged read.0 read.1) (read_tagged octets)
unfolding read_segment
read_segment-tagged [] h e = absurd (omega arith)
read_segment-tagged (first ∷ rest) h e = cond-true (is_tagged first) _ _ e

pub read_segment-untagged : (octets : List ℕ) → 0 < length octets → is_tagged (get_or octets 0 0) ≡ false → read_segment octets ≡ option_map (λ read. Untagged read.0 read.1) (read_untagged octets)
unfolding read_segment
read_segment-untagged [] h e = absurd (omega arith)
read_segment-untagged (first ∷ rest) h e = cond-false (is_tagged first) _ _ e

pub read_segment-none : read_segment [] ≡ None
unfolding read_segment
read_segment-none = refl

first-tagged_octets : (head : TaggedHead) (rest : List ℕ) → get_or (tagged_octets head ++ rest) 0 0 ≡ first_octet true head.last head.ddp_version
unfolding tagged_octets
first-tagged_octets head rest = refl

first-untagged_octets : (head : UntaggedHead) (rest : List ℕ) → get_or (untagged_octets head ++ rest) 0 0 ≡ first_octet false head.last head.ddp_version
unfolding untagged_octets
first-untagged_octets head rest = refl

-- the tagged flag of what was spelled
pub is_tagged-tagged_octets : (head : TaggedHead) (rest : List ℕ) → FitsTagged head → is_tagged (get_or (tagged_octets head ++ rest) 0 0) ≡ true
is_tagged-tagged_octets head rest fits = ap is_tagged (first-tagged_octets head rest) ∙ is_tagged-first_octet true head.last head.ddp_version fits.ddp_version

pub is_tagged-untagged_octets : (head : UntaggedHead) (rest : List ℕ) → FitsUntagged head → is_tagged (get_or (untagged_octets head ++ rest) 0 0) ≡ false
is_tagged-untagged_octets head rest fits = ap is_tagged (first-untagged_octets head rest) ∙ is_tagged-first_octet false head.last head.ddp_version fits.ddp_version

pub read_segment-spelled : (segment : Segment (List ℕ)) → FitsSegment segment → read_segment (segment_octets segment) ≡ Some segment
unfolding segment_octets
read_segment-spelled (Tagged head payload) fits =
    read_segment-tagged (tagged_octets head ++ payload) (omega (arith, length-append (tagged_octets head) payload, length-tagged_octets head)) (is_tagged-tagged_octets head payload fits)
    ∙ ap (option_map (λ read. Tagged read.0 read.1)) (read_tagged-spelled head payload fits)
read_segment-spelled (Untagged head payload) fits =
    read_segment-untagged (untagged_octets head ++ payload) (omega (arith, length-append (untagged_octets head) payload, length-untagged_octets head)) (is_tagged-untagged_octets head payload fits)
    ∙ ap (option_map (λ read. Untagged read.0 read.1)) (read_untagged-spelled head payload fits)

pub length-segment_octets_tagged : (head : TaggedHead) (payload : List ℕ) → length (segment_octets (Tagged head payload)) ≡ 14 + length payload
unfolding segment_octets
length-segment_octets_tagged head payload = omega (arith, length-append (tagged_octets head) payload, length-tagged_octets head)

pub length-segment_octets_untagged : (head : UntaggedHead) (payload : List ℕ) → length (segment_octets (Untagged head payload)) ≡ 18 + length payload
unfolding segment_octets
length-segment_octets_untagged head payload = omega (arith, length-append (untagged_octets head) payload, length-untagged_octets head)
