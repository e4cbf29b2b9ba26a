-- What is written in either form is what the octets then are.
use Rattle.std.proofs.Common.{◌≡◌, ℕ, List, Some, sym, ap, ◌∙◌}
use Rattle.std.specs.Option.{option_map}
use Rattle.slab.specs.Slab.{Slab, get}
use Rattle.iw_kept.specs.declared.octets.RegionOctets.{RegionOctets}
use Rattle.iw_kept.specs.Octets.{octets_of, is_kept, written as written_in, overwritten as overwritten_in}
use Rattle.iw_kept.proofs.OctetLemmas as kept
use Rattle.iw_octets.specs.declared.stag.Stag.{Stag}
use Rattle.iw_memory.specs.Held.{Held}
use Rattle.iw_memory.specs.Inside.{Slots, link_of, table_of}
use Rattle.iw_memory.specs.Region.{Region, overlay}
use Rattle.iw_memory.specs.Table.{Table, region_at}
use Rattle.iw_memory.proofs.TableLemmas.{region_at-held}

pub octets_written : {A : Type 0} (o : RegionOctets A) (at : ℕ) (w : List ℕ) → octets_of (written_in o at w) ≡ overlay (octets_of o) at w
octets_written o at w = kept.octets-written o at w

pub octets_overwritten : {A : Type 0} (o : RegionOctets A) (w : List ℕ) → octets_of (overwritten_in o w) ≡ overlay (octets_of o) 0 w
octets_overwritten o w = kept.octets-overwritten o w

pub kept_written : {A : Type 0} (o : RegionOctets A) (at : ℕ) (w : List ℕ) → is_kept (written_in o at w) ≡ is_kept o
kept_written o at w = kept.kept-written o at w

pub kept_overwritten : {A : Type 0} (o : RegionOctets A) (w : List ℕ) → is_kept (overwritten_in o w) ≡ is_kept o
kept_overwritten o w = kept.kept-overwritten o w

-- whether a program keeps what is stored is what the table says
pub kept-held : {table : Table} (domains : Slots) (regions : Slab Held) (stag : Stag) (k : ℕ) (h : Held) → link_of domains stag ≡ Some k → get regions k ≡ Some h → table_of domains regions ≡ table
    → Some h.region.kept ≡ option_map (λ r. r.kept) (region_at table stag)
kept-held {table} domains regions stag k h link held view =
    sym (ap (option_map (λ (r : Region). r.kept)) (region_at-held domains regions stag k h link held)) ∙ ap (λ t. option_map (λ (r : Region). r.kept) (region_at t stag)) view
