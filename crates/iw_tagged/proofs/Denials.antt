-- What is not denied, is placed whole.
use Rattle.std.proofs.Common.{◌≡◌, ℕ, List, length, Option, Some, None, refl, sym, ap, ◌∙◌, Bor}
use Rattle.std.proofs.lemmas.Option.{none-some}
use Rattle.std.specs.Option.{option_map}
use Rattle.iw_octets.specs.declared.stag.Stag.{Stag}
use Rattle.iw_octets.specs.Pieces.{AddUpTo, JoinTo}
use Rattle.iw_memory.specs.declared.peer.Peer.{Peer}
use Rattle.iw_memory.specs.declared.refusal.Deny.{Deny}
use Rattle.iw_memory.specs.declared.rights.Right.{Right}
use Rattle.iw_memory.specs.Table.{Table, denial_for, octets_at}
use Rattle.iw_memory.proofs.Callers.{length-octets_at}
use Rattle.iw_tagged.specs.Placing.{denial_fault}

pub not_denied : (deny : Option Deny) → option_map denial_fault deny ≡ None → deny ≡ None
not_denied None e = refl
not_denied (Some deny) e = absurd (none-some (denial_fault deny) (sym e))

pub length-part : (part : List ℕ) (table : Table) (peer : Peer) (stag : Stag) (to n : ℕ) (right : Right) → part ≡ octets_at table stag to n → denial_for table peer stag to n right ≡ None → length part ≡ n
length-part part table peer stag to n right is none = ap length is ∙ length-octets_at table peer stag to n right none

-- pieces whose lengths add up to n join to n octets
pub length-joined : {S : Type 0} (steps : S → Option (Bor (List ℕ)) → S → Type 0) (pieces : S) (n : ℕ) (octets : List ℕ) → AddUpTo steps pieces n → JoinTo steps pieces octets → length octets ≡ n
length-joined steps pieces n octets adds joins = ap length joins.2 ∙ adds.fills joins.0 joins.1
