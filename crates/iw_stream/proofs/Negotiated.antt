-- What the word of IRD and ORD comes to at a stream.
use Rattle.std.proofs.Common.{◌≤◌, Bool, true, false, cond, Option, Some, None, arith}
use Rattle.std.specs.Option.{option_map_or}
use Rattle.iw_reads.specs.Outstanding.{most_reads}
use Rattle.iw_startup.specs.declared.enhanced.EnhancedData.{EnhancedData}
use Rattle.iw_startup.specs.Enhanced.{agreed_ord}
use Rattle.iw_startup.specs.Frame.{told}
use Rattle.iw_startup.specs.State.{StartupState, agreed_of, agreement, has_agreed, progress}
use Rattle.iw_stream.specs.Starting.{StartState, AtOnce, Unheard, Heard, most_reads_in}

ord_few : (word : Option EnhancedData) → agreed_ord word ≤ most_reads
ord_few None = omega arith
ord_few (Some word) = omega arith

agreed_few : (u : StartupState) → option_map_or (λ agreed. agreed.ord) (agreed_of u) most_reads ≤ most_reads
unfolding agreed_of
agreed_few u = go (has_agreed u.side (progress u))
  where
    go : (b : Bool) → option_map_or (λ agreed. agreed.ord) (cond b (Some (agreement u.config u.octets)) None) most_reads ≤ most_reads
    go true = ord_few (told u.config.establishment u.octets)
    go false = omega arith

-- no more Reads are outstanding than a stream has room for
pub most_reads_few : (s : StartState) → most_reads_in s ≤ most_reads
most_reads_few (AtOnce layout) = omega arith
most_reads_few (Unheard u) = omega arith
most_reads_few (Heard u) = agreed_few u
