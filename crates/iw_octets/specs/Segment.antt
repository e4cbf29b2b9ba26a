-- A header with its payload, which is what one frame carries.
use Rattle.std.specs.Prelude.{ℕ, List, [], ◌∷◌, ◌++◌, Option, None, if◌then◌else◌}
use Rattle.std.specs.Option.{option_map}
use Rattle.iw_octets.specs.declared.segment.Segment.{Segment}
use Rattle.iw_octets.specs.declared.segment.Segment.TheVariants.{Tagged, Untagged}
use Rattle.iw_octets.specs.Head.{is_tagged, tagged_octets, untagged_octets, read_tagged, read_untagged, FitsTagged, FitsUntagged}

unfoldable pub segment_octets : Segment (List ℕ) → List ℕ
segment_octets (Tagged head payload) = tagged_octets head ++ payload
segment_octets (Untagged head payload) = untagged_octets head ++ payload

-- the segment that these octets are, by the tagged flag of the first; none where they are too few for a header
unfoldable pub read_segment : List ℕ → Option (Segment (List ℕ))
read_segment [] = None
read_segment (first ∷ rest) =
    if is_tagged first then option_map (λ read. Tagged read.0 read.1) (read_tagged (first ∷ rest))
    else option_map (λ read. Untagged read.0 read.1) (read_untagged (first ∷ rest))

-- the segment with more octets past its payload
abbrev pub with_past : Segment (List ℕ) → List ℕ → Segment (List ℕ)
with_past (Tagged head payload) more = Tagged head (payload ++ more)
with_past (Untagged head payload) more = Untagged head (payload ++ more)

-- the numbers of the header fit their fields
abbrev pub FitsSegment : Segment (List ℕ) → Type 0
FitsSegment (Tagged head payload) = FitsTagged head
FitsSegment (Untagged head payload) = FitsUntagged head
