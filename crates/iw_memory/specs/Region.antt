-- A region, and what its owner and a peer may do with it.
use Rattle.std.specs.Prelude.{ℕ, ◌+◌, ◌-◌, ◌≤◌, ◌^◌, ◌==◌, ◌||◌, nat_lt, is_none, not, if◌then◌else◌, Option, Some, None, Bool, true, false, List, length, take, drop, ◌++◌}
use Rattle.iw_memory.specs.declared.peer.Peer.{Peer}
use Rattle.iw_memory.specs.declared.rights.Rights.{Rights}
use Rattle.iw_memory.specs.declared.region.Facts.{Facts}
use Rattle.iw_memory.specs.declared.refusal.Deny.{Deny}
use Rattle.iw_memory.specs.declared.refusal.Deny.TheVariants.{NotAssociated, Invalid, ToWrap, Bounds, Rights as NoRights}
use Rattle.iw_memory.specs.declared.rights.Right.{Right}
use Rattle.iw_memory.specs.declared.rights.Right.TheVariants.{Write, Read, Sink}

-- a region: its tagged offsets go from base on, one for each octet
pub record Region : Type 0 where
  pub base : ℕ
  pub octets : List ℕ
  pub rights : Rights
  pub bound : Option ℕ  -- the stream that it is limited to, if it is limited to one
  pub valid : Bool
  pub kept : Bool  -- a program keeps the memory of its octets

-- a region of a vector's octets as it is registered, for any stream of its domain
abbrev pub new_region : ℕ → List ℕ → Rights → Region
new_region base octets rights = record { base = base; octets = octets; rights = rights; bound = None; valid = true; kept = false }

-- the same, limited to this stream
abbrev pub bound_region : ℕ → ℕ → List ℕ → Rights → Region
bound_region stream base octets rights = record (new_region base octets rights) { bound = Some stream }

-- what is told of a region
abbrev pub facts_of : Region → Facts
facts_of r = record { base = r.base; len = length r.octets; rights = r.rights; bound = r.bound; valid = r.valid }

-- a peer in domain pd whose stream has no number
abbrev pub in_domain : ℕ → Peer
in_domain pd = record { domain = pd; stream = None }

-- what is limited so is limited to this stream
abbrev pub is_bound_to : Option ℕ → Option ℕ → Bool
is_bound_to None stream = false
is_bound_to (Some bound) None = false
is_bound_to (Some bound) (Some stream) = bound == stream

-- this stream of the domain is in the scope of what is limited so (RFC 5042 2.2.5): the scope is that stream, or the domain
abbrev pub is_in_scope : Option ℕ → Option ℕ → Bool
is_in_scope bound stream = is_none bound || is_bound_to bound stream

abbrev pub grants : Rights → Right → Bool
grants rights Write = rights.write
grants rights Read = rights.read
grants rights Sink = rights.sink

-- the octets with new ones written over those from place `at` on: as many as before
abbrev pub overlay : List ℕ → ℕ → List ℕ → List ℕ
overlay octets at new = take (length octets) (take at octets ++ (new ++ drop (length new) (drop at octets)))

-- the region with these octets from tagged offset `to` on
abbrev pub region_with : Region → ℕ → List ℕ → Region
region_with r to octets = record r { octets = overlay r.octets (to - r.base) octets }

-- the region, which peers may no longer use
abbrev pub made_invalid : Region → Region
made_invalid r = record r { valid = false }

-- the region has the n tagged offsets from `to` on
pub record Spans (r : Region) (to n : ℕ) : Type 0 where
  pub from_base : r.base ≤ to
  pub to_end : to + n ≤ r.base + length r.octets

-- the n octets from tagged offset `to` on
abbrev pub octets_from : Region → ℕ → ℕ → List ℕ
octets_from r to n = take n (drop (to - r.base) r.octets)

-- the first reason why a region may not be used so, from `to` on for n octets
abbrev pub region_denial : Region → ℕ → ℕ → Right → Option Deny
region_denial r to n right =
    if not r.valid then Some Invalid else
    (if nat_lt (2 ^ 64) (to + n) then Some ToWrap else
    (if nat_lt to r.base || nat_lt (r.base + length r.octets) (to + n) then Some Bounds else
    (if not (grants r.rights right) then Some NoRights else None)))

-- the same, for a stream of its domain
abbrev pub region_denial_for : Region → Option ℕ → ℕ → ℕ → Right → Option Deny
region_denial_for r stream to n right = if not (is_in_scope r.bound stream) then Some NotAssociated else region_denial r to n right

-- the region, put out of use if it is limited to this stream
abbrev pub retired_region : Option ℕ → Region → Region
retired_region stream r = if is_bound_to r.bound stream then made_invalid r else r

-- how many octets a region has at most: in memory that a program keeps, or in a vector
abbrev pub most_octets : Bool → ℕ
most_octets kept = if kept then 2 ^ 46 else 16777216

-- how many octets a region may have, and where it may end
pub record IsWithinLimits (base len : ℕ) : Type 0 where
  pub small : len ≤ 2 ^ 46
  pub no_wrap : base + len ≤ 2 ^ 64
