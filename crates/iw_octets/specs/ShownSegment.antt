-- The segment that was read, without where its payload lies in memory.
use Rattle.std.specs.Prelude.{ℕ, List, Option, Some, None, Result, Ok, Err}
use Rattle.std.specs.Borrow.{Bor}
use Rattle.iw_octets.specs.declared.head.Short.{Short}
use Rattle.iw_octets.specs.declared.segment.Segment.{Segment}
use Rattle.iw_octets.specs.declared.segment.Segment.TheVariants.{Tagged, Untagged}

abbrev pub shown_segment : Result (Segment (Bor (List ℕ))) Short → Option (Segment (List ℕ))
shown_segment (Ok (Tagged head payload)) = Some (Tagged head payload.now)
shown_segment (Ok (Untagged head payload)) = Some (Untagged head payload.now)
shown_segment (Err short) = None
