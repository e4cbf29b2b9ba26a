-- The checks of a tagged segment that need its region, and the fault by which each failure is reported.
use Rattle.std.specs.Prelude.{ℕ, Option}
use Rattle.std.specs.Option.{option_map}
use Rattle.iw_octets.specs.declared.fault.Fault.{Fault}
use Rattle.iw_octets.specs.declared.fault.TheConstants.Fault as faults
use Rattle.iw_octets.specs.declared.head.TaggedHead.{TaggedHead}
use Rattle.iw_memory.specs.declared.peer.Peer.{Peer}
use Rattle.iw_memory.specs.declared.refusal.Deny.{Deny}
use Rattle.iw_memory.specs.declared.refusal.Deny.TheVariants.{NotAssociated, Invalid, ToWrap, Bounds, Rights}
use Rattle.iw_memory.specs.declared.rights.Right.{Right}
use Rattle.iw_memory.specs.Table.{Table, denial_for}

-- the fault by which a denial is reported (RFC 5041 7.2; that of a right is RDMAP's, RFC 5040 4.8)
abbrev pub denial_fault : Deny → Fault
denial_fault NotAssociated = faults.TAGGED_NOT_ASSOCIATED
denial_fault Invalid = faults.TAGGED_INVALID_STAG
denial_fault ToWrap = faults.TAGGED_OFFSET_WRAP
denial_fault Bounds = faults.TAGGED_BOUNDS
denial_fault Rights = faults.PROTECTION_RIGHTS

-- the first check that n octets with this header fail, if this peer sends them; none if n is 0
abbrev pub placing_fault : Table → Peer → TaggedHead → ℕ → Right → Option Fault
placing_fault table peer head n right = option_map denial_fault (denial_for table peer head.stag head.to n right)
