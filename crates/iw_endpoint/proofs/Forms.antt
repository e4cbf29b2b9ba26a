-- How a region is handed back, by what an STag names.
use Rattle.std.specs.Prelude.{List, [], Bool, if◌then◌else◌, unwrap_or, Option, None, Some}
use Rattle.std.specs.Option.{option_map, option_map_or}
use Rattle.iw_memory.specs.declared.refusal.DeregisterRefusal.{DeregisterRefusal}
use Rattle.iw_memory.specs.declared.refusal.DeregisterRefusal.TheVariants.{NoRegion, OtherMemory}
use Rattle.iw_memory.specs.Region.{Region}
use Rattle.iw_endpoint.specs.Isolation.{Answer, Deregistered, TookRegion, answer_or}

abbrev pub own_fault : Option Region → Option DeregisterRefusal
own_fault found = option_map_or (λ r. if r.kept then Some OtherMemory else None) found (Some NoRegion)

abbrev pub kept_fault : Option Region → Option DeregisterRefusal
kept_fault found = option_map_or (λ r. if r.kept then None else Some OtherMemory) found (Some NoRegion)

abbrev pub handed_back : (Option Region → Option DeregisterRefusal) → Option Region → Answer
handed_back fault found = Deregistered (answer_or (fault found) (unwrap_or (option_map (λ r. r.octets) found) []))

abbrev pub taken_out : Option Region → Answer
taken_out found = TookRegion (option_map (λ r. r.octets) found) (option_map (λ r. r.kept) found)
