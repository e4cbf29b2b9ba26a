-- The checks of a Read's source that need its region, and what each failure is reported as (RFC 5040 4.8, 5.2.1, 7.2).
use Rattle.std.specs.Prelude.{ℕ, ◌+◌, ◌<◌, ◌≤◌, ◌^◌, Option}
use Rattle.std.specs.Option.{option_map}
use Rattle.iw_octets.specs.declared.fault.Fault.{Fault}
use Rattle.iw_octets.specs.declared.fault.TheConstants.Fault as faults
use Rattle.iw_octets.specs.declared.payload.ReadRequest.{ReadRequest}
use Rattle.iw_octets.specs.declared.stag.Stag.{Stag}
use Rattle.iw_memory.specs.declared.peer.Peer.{Peer}
use Rattle.iw_memory.specs.declared.refusal.Deny.{Deny}
use Rattle.iw_memory.specs.declared.refusal.Deny.TheVariants.{NotAssociated, Invalid, ToWrap, Bounds, Rights}
use Rattle.iw_memory.specs.declared.rights.Right.TheVariants as rights
use Rattle.iw_memory.specs.Table.{Table, denial_for}

-- what a denial is reported as
abbrev pub denial_fault : Deny → Fault
denial_fault NotAssociated = faults.PROTECTION_NOT_ASSOCIATED
denial_fault Invalid = faults.PROTECTION_INVALID_STAG
denial_fault ToWrap = faults.PROTECTION_OFFSET_WRAP
denial_fault Bounds = faults.PROTECTION_BOUNDS
denial_fault Rights = faults.PROTECTION_RIGHTS

-- the first check that fails if this peer reads n octets from tagged offset `to` on; none if n is 0
abbrev pub reading_fault : Table → Peer → Stag → ℕ → ℕ → Option Fault
reading_fault table peer stag to n = option_map denial_fault (denial_for table peer stag to n rights.Read)

-- that of all octets that a Read asks for
abbrev pub source_fault : Table → Peer → ReadRequest → Option Fault
source_fault table peer request = reading_fault table peer request.source request.source_to request.size

-- the tagged offsets of the source do not wrap
abbrev pub IsInRange : ReadRequest → Type 0
IsInRange request = 0 < request.size → request.source_to + request.size ≤ 2 ^ 64
