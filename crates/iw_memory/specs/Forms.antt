-- Regions whose octets are a vector's, or are in memory that a program keeps.
use Rattle.std.specs.Prelude.{ℕ, Option, None, Some, length, if◌then◌else◌}
use Rattle.std.specs.Option.{option_map_or}
use Rattle.iw_kept.specs.declared.octets.RegionOctets.{RegionOctets}
use Rattle.iw_kept.specs.Octets.{octets_of, is_kept}
use Rattle.iw_octets.specs.declared.stag.Stag.{Stag}
use Rattle.iw_memory.specs.declared.refusal.DeregisterRefusal.{DeregisterRefusal}
use Rattle.iw_memory.specs.declared.refusal.DeregisterRefusal.TheVariants.{NoRegion, OtherMemory}
use Rattle.iw_memory.specs.declared.refusal.RegisterRefusal.{RegisterRefusal}
use Rattle.iw_memory.specs.declared.rights.Rights.{Rights}
use Rattle.iw_memory.specs.Region.{Region, new_region, most_octets}
use Rattle.iw_memory.specs.Table.{Table, region_at, register_refusal_within}

-- a region of these octets as it is registered, limited to a stream or not
abbrev pub region_of : {A : Type 0} → ℕ → RegionOctets A → Rights → Option ℕ → Region
region_of base octets rights bound = record (new_region base (octets_of octets) rights) { bound = bound; kept = is_kept octets }

-- why octets are not registered
abbrev pub octets_refusal : {A : Type 0} → Table → ℕ → ℕ → RegionOctets A → Option RegisterRefusal
octets_refusal table pd base octets = register_refusal_within (most_octets (is_kept octets)) table pd base (length (octets_of octets))

-- why no vector is handed back: there is no region, or a program keeps its octets
abbrev pub own_refusal : Table → Stag → Option DeregisterRefusal
own_refusal table stag = option_map_or (λ r. if r.kept then Some OtherMemory else None) (region_at table stag) (Some NoRegion)

-- why no memory of a program's is handed back: there is no region, or its octets are a vector's
abbrev pub kept_refusal : Table → Stag → Option DeregisterRefusal
kept_refusal table stag = option_map_or (λ r. if r.kept then None else Some OtherMemory) (region_at table stag) (Some NoRegion)
