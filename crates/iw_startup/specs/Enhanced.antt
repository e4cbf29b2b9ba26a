-- What the two words of IRD and ORD come to (RFC 6581 9).
use Rattle.std.specs.Prelude.{ℕ, ◌==◌, ◌&&◌, ◌||◌, Bool, true, false, not, nat_lt, min, Option, Some, None, is_none, if◌then◌else◌}
use Rattle.iw_startup.specs.declared.config.Establishment.{Establishment}
use Rattle.iw_startup.specs.declared.config.Establishment.TheVariants.{Plain, Enhanced, PeerToPeer}
use Rattle.iw_startup.specs.declared.enhanced.EnhancedData.{EnhancedData}
use Rattle.iw_startup.specs.declared.enhanced.Mismatch.{Mismatch}
use Rattle.iw_startup.specs.declared.enhanced.Mismatch.TheVariants.{InsufficientIrd, NoMatchingRtr}
use Rattle.iw_startup.specs.declared.enhanced.Revision.{Revision}
use Rattle.iw_startup.specs.declared.enhanced.Revision.TheVariants.{One, Two}
use Rattle.iw_startup.specs.declared.enhanced.Rtr.{Rtr}
use Rattle.iw_startup.specs.declared.enhanced.Rtr.TheVariants.{Write, Read}
use Rattle.iw_startup.specs.Frame.{unset_depth}

-- a responder takes the peer-to-peer model as it is asked for
abbrev pub at_responder : Establishment → Establishment
at_responder Plain = Plain
at_responder Enhanced = Enhanced
at_responder PeerToPeer = Enhanced

abbrev pub is_peer_to_peer : Establishment → Bool
is_peer_to_peer Plain = false
is_peer_to_peer Enhanced = false
is_peer_to_peer PeerToPeer = true

-- ---- what each end says

-- an initiator has 16 Reads of the peer at once, and asks for 16 of its own; in the peer-to-peer model its RTR is a Write or a Read
abbrev pub asked_data : Bool → EnhancedData
asked_data peer_to_peer = record { ird = 16; ord = 16; peer_to_peer = peer_to_peer; rtr_send = false; rtr_write = peer_to_peer; rtr_read = peer_to_peer }

abbrev pub asked_revision : Establishment → Revision
asked_revision Plain = One
asked_revision Enhanced = Two (Some (asked_data false))
asked_revision PeerToPeer = Two (Some (asked_data true))

-- a responder's ORD is the initiator's IRD at most, and a rejecting one tells what it would need; its RTR is one that was asked for, or else the Write
abbrev pub answer_data : Bool → EnhancedData → EnhancedData
answer_data rejecting asked = record {
  ird = if asked.ord == unset_depth then unset_depth else 16;
  ord = if asked.ird == unset_depth then unset_depth else (if rejecting then 16 else min 16 asked.ird);
  peer_to_peer = asked.peer_to_peer;
  rtr_send = false;
  rtr_write = asked.peer_to_peer && (asked.rtr_write || not asked.rtr_read);
  rtr_read = asked.peer_to_peer && asked.rtr_read;
}

-- a responder answers a Request in kind
abbrev pub in_kind : Bool → Revision → Revision
in_kind rejecting One = One
in_kind rejecting (Two None) = Two None
in_kind rejecting (Two (Some asked)) = Two (Some (answer_data rejecting asked))

-- ---- what the peer's word comes to

-- how many of this end's Reads are outstanding at most
abbrev pub agreed_ord : Option EnhancedData → ℕ
agreed_ord None = 16
agreed_ord (Some told) = min 16 told.ird

-- the RTR that a Reply in the peer-to-peer model allows: a Write before a Read, and a Read only if one may be outstanding
abbrev pub matching_rtr : EnhancedData → Option Rtr
matching_rtr told =
    if not told.peer_to_peer then None else
    (if told.rtr_write then Some Write else
    (if told.rtr_read && not (told.ird == 0) then Some Read else None))

-- the RTR that this end sends first
abbrev pub rtr_due : Establishment → Option EnhancedData → Option Rtr
rtr_due Plain told = None
rtr_due Enhanced told = None
rtr_due PeerToPeer None = None
rtr_due PeerToPeer (Some told) = matching_rtr told

-- what a Reply that accepts wants and an initiator does not have, the first that holds
abbrev pub mismatch_in : Establishment → Option EnhancedData → Option Mismatch
mismatch_in establishment None = None
mismatch_in establishment (Some told) =
    if nat_lt 16 told.ord && not (told.ord == unset_depth) then Some InsufficientIrd else
    (if is_peer_to_peer establishment && is_none (matching_rtr told) then Some NoMatchingRtr else None)
