-- What may be said of the definitions, beside the calls.
use Rattle.std.specs.Prelude.{◌≡◌, ◌≢◌, ◌↔◌, ◌⊎◌, ℕ, ◌+◌, ◌*◌, ◌%◌, ◌<◌, ◌^◌, ◌≤◌, true, false, IsTrue, IsSome, IsSomeAnd, IfSome, List, [], ◌∷◌, length, slice_index_or, Option, Some, None}
use Rattle.std.specs.Option.{option_map}
use Rattle.iw_octets.specs.declared.stag.Stag.{Stag}
use Rattle.iw_memory.specs.declared.peer.Peer.{Peer}
use Rattle.iw_memory.specs.declared.rights.Right.{Right}
use Rattle.iw_memory.specs.Region.{Region, facts_of, in_domain, is_bound_to, is_in_scope, grants, Spans, region_with, made_invalid, retired_region, IsWithinLimits}
use Rattle.iw_memory.specs.Part.{Part, unused, own_drawn_stag, own_registered_at, own_denial_for, own_invalidate_denial_for, own_domain_refusal, own_store_refusal, own_register_refusal_within, own_next_stag, own_region, own_changed, own_put, own_invalidated, own_retired, own_deregistered, own_added, own_registered}
use Rattle.iw_memory.specs.Table.{Table, part_of, slots_of, region_at, octets_at, denial_for, invalidate_denial_for, domain_refusal, store_refusal, register_refusal_within, next_stag, with_region, put, invalidated, retired, deregistered, added, registered, drawn_stag, registered_at, registered_drawn}

-- a region serves n octets from `to` on for this right to this stream of its domain
pub record Serves (r : Region) (stream : Option ℕ) (to n : ℕ) (right : Right) : Type 0 where
  pub in_scope : IsTrue (is_in_scope r.bound stream)
  pub valid : IsTrue r.valid
  pub no_wrap : to + n ≤ 2 ^ 64
  pub from_base : r.base ≤ to
  pub to_end : to + n ≤ r.base + length r.octets
  pub granted : IsTrue (grants r.rights right)

-- a peer may use n octets of the region from `to` on
abbrev pub AllowsFor : Table → Peer → Stag → ℕ → ℕ → Right → Type 0
AllowsFor table peer stag to n right = (n ≡ 0) ⊎ ((stag.domain ≡ peer.domain) × IsSomeAnd (region_at table stag) (λ r. Serves r peer.stream to n right))

-- the same for a peer in domain pd whose stream has no number
abbrev pub Allows : Table → ℕ → Stag → ℕ → ℕ → Right → Type 0
Allows table pd stag to n right = AllowsFor table (in_domain pd) stag to n right

-- nothing is denied exactly where it is allowed
abbrev pub DeniesRest : Type 0
DeniesRest = (table : Table) (peer : Peer) (stag : Stag) (to n : ℕ) (right : Right) → (denial_for table peer stag to n right ≡ None) ↔ AllowsFor table peer stag to n right

-- the STag names a region that has the n tagged offsets from `to` on
abbrev pub IsWithin : Table → Stag → ℕ → ℕ → Type 0
IsWithin table stag to n = IsSomeAnd (region_at table stag) (λ r. Spans r to n)

-- ---- what changes

-- what one STag names is changed to this, and every other STag, and every other domain, has what it had
pub record ChangesOneStag (old new : Table) (stag : Stag) (region : Option Region) : Type 0 where
  pub changed : region_at new stag ≡ region
  pub others : (other : Stag) → other ≢ stag → region_at new other ≡ region_at old other
  pub domains : (d : ℕ) → d ≢ stag.domain → part_of new d ≡ part_of old d

-- each region has the base, the length, the rights, the scope and the validity that it had
abbrev pub KeepsFacts : Table → Table → Type 0
KeepsFacts old new = (stag : Stag) → option_map facts_of (region_at new stag) ≡ option_map facts_of (region_at old stag)

pub record PutsAt (table : Table) (stag : Stag) (to : ℕ) (octets : List ℕ) : Type 0 where
  pub changed : ChangesOneStag table (put table stag to octets) stag (option_map (λ r. region_with r to octets) (region_at table stag))
  pub facts : KeepsFacts table (put table stag to octets)

abbrev pub PutChangesOneRegion : Type 0
PutChangesOneRegion = (table : Table) (stag : Stag) (to : ℕ) (octets : List ℕ) → PutsAt table stag to octets

abbrev pub PutNothing : Type 0
PutNothing = (table : Table) (stag : Stag) (to : ℕ) → put table stag to [] ≡ table

abbrev pub InvalidateChangesOneRegion : Type 0
InvalidateChangesOneRegion = (table : Table) (stag : Stag) →
    ChangesOneStag table (invalidated table stag) stag (option_map made_invalid (region_at table stag))

abbrev pub DeregisterChangesOneStag : Type 0
DeregisterChangesOneStag = (table : Table) (stag : Stag) → ChangesOneStag table (deregistered table stag) stag None

-- the STag that is given out named nothing before, and names the new region
pub record RegistersAt (table : Table) (pd : ℕ) (region : Region) : Type 0 where
  pub was_free : region_at table (next_stag table pd) ≡ None
  pub named : ChangesOneStag table (registered table pd region) (next_stag table pd) (Some region)

abbrev pub RegisterChangesOneStag : Type 0
RegisterChangesOneStag = (table : Table) (pd : ℕ) (region : Region) → pd < length table → RegistersAt table pd region

-- ---- STags that are drawn

-- the STag that is drawn named nothing before, and names the new region
pub record DrawsAt (table : Table) (pd drawn : ℕ) (region : Region) : Type 0 where
  pub was_free : region_at table (drawn_stag table pd drawn) ≡ None
  pub named : ChangesOneStag table (registered_drawn table pd drawn region) (drawn_stag table pd drawn) (Some region)

abbrev pub DrawChangesOneStag : Type 0
DrawChangesOneStag = (table : Table) (pd drawn : ℕ) (region : Region) → pd < length table → DrawsAt table pd drawn region

-- the slot of the STag has the key behind the STag's: it was used under that key last
pub record WasLast (table : Table) (stag : Stag) : Type 0 where
  pub key : stag.key < 256
  pub next : (slice_index_or (slots_of table stag.domain) stag.slot unused).key ≡ (stag.key + 1) % 256

-- an STag whose region was taken out was its slot's last, and the last STag of a slot is not drawn
pub record DrawsAnother (table : Table) (stag : Stag) : Type 0 where
  pub taken_out : stag.key < 256 → IsSome (region_at table stag) → WasLast (deregistered table stag) stag
  pub not_drawn : WasLast table stag → (pd drawn : ℕ) → drawn_stag table pd drawn ≢ stag

abbrev pub LastIsNotDrawn : Type 0
LastIsNotDrawn = (table : Table) (stag : Stag) → DrawsAnother table stag

-- the STag may be given out: its slot has no region, and was not used under its key last
pub record IsOpen (table : Table) (stag : Stag) : Type 0 where
  pub slot : stag.slot < 1024
  pub key : stag.key < 256
  pub none : (slice_index_or (slots_of table stag.domain) stag.slot unused).region ≡ None
  pub next : (slice_index_or (slots_of table stag.domain) stag.slot unused).key < 256
  pub not_last : (slice_index_or (slots_of table stag.domain) stag.slot unused).key ≢ (stag.key + 1) % 256

-- some number of 32 bits draws this STag
pub record IsDrawn (table : Table) (stag : Stag) : Type 0 where
  pub drawn : ℕ
  pub fits : drawn < 2 ^ 32
  pub is : drawn_stag table stag.domain drawn ≡ stag

-- each STag that may be given out is drawn by some number
abbrev pub EachIsDrawn : Type 0
EachIsDrawn = (table : Table) (stag : Stag) → IsOpen table stag → IsDrawn table stag

-- `register` gives its region the lowest free slot, under the slot's next key
abbrev pub RegisterTakesTheNext : Type 0
RegisterTakesTheNext = (table : Table) (pd : ℕ) (region : Region) → registered table pd region ≡ registered_at table (next_stag table pd) region

-- a domain whose slots 0 and 1 have regions, and whose slot 2 was last used under key 4
abbrev three_slots : Region → Table
three_slots region = None ∷ Some (record { key = 9; region = Some region } ∷ record { key = 0; region = Some region } ∷ record { key = 5; region = None } ∷ []) ∷ []

-- STags that are drawn there
pub record KnownDraws (region : Region) : Type 0 where
  pub behind : drawn_stag (three_slots region) 1 0 ≡ record { domain = 1; slot = 2; key = 5 }
  pub next_key : drawn_stag (three_slots region) 1 (1024 + 1) ≡ record { domain = 1; slot = 2; key = 6 }
  pub key_before_last : drawn_stag (three_slots region) 1 (254 * 1024 + 2) ≡ record { domain = 1; slot = 2; key = 3 }
  pub keys_again : drawn_stag (three_slots region) 1 (255 * 1024 + 2) ≡ record { domain = 1; slot = 2; key = 5 }
  pub not_made : drawn_stag (three_slots region) 1 (7 * 1024 + 1023) ≡ record { domain = 1; slot = 1023; key = 7 }

abbrev pub DrawsAreKnown : Type 0
DrawsAreKnown = (region : Region) → KnownDraws region

-- ---- domains

-- the new table is the old one with this part for this domain
pub record SetsPart (old new : Table) (domain : ℕ) (part : Part) : Type 0 where
  pub own : part_of new domain ≡ part
  pub others : (d : ℕ) → d ≢ domain → part_of new d ≡ part_of old d

-- each answer to a domain is one of its own part, and each of its steps is a step of its own part that leaves the parts of all others
pub record OwnSteps (table : Table) (domain : ℕ) : Type 0 where
  pub denied : (stream : Option ℕ) (stag : Stag) (to n : ℕ) (right : Right) → denial_for table (record { domain = domain; stream = stream }) stag to n right ≡ own_denial_for (part_of table domain) (record { domain = domain; stream = stream }) stag to n right
  pub invalidate_denied : (stream : Option ℕ) (stag : Stag) → invalidate_denial_for table (record { domain = domain; stream = stream }) stag ≡ own_invalidate_denial_for (part_of table domain) (record { domain = domain; stream = stream }) stag
  pub region : (stag : Stag) → stag.domain ≡ domain → region_at table stag ≡ own_region (part_of table domain) stag
  pub store_refused : (stag : Stag) (to n : ℕ) → stag.domain ≡ domain → store_refusal table stag to n ≡ own_store_refusal (part_of table domain) stag to n
  pub add_refused : domain_refusal table domain ≡ own_domain_refusal (part_of table domain) domain
  pub register_refused : (most base len : ℕ) → register_refusal_within most table domain base len ≡ own_register_refusal_within most (part_of table domain) base len
  pub numbered : next_stag table domain ≡ own_next_stag (part_of table domain) domain
  pub puts : (stag : Stag) (to : ℕ) (octets : List ℕ) → stag.domain ≡ domain → SetsPart table (put table stag to octets) domain (own_put (part_of table domain) stag to octets)
  pub changes : (stag : Stag) (change : Region → Region) → stag.domain ≡ domain → SetsPart table (with_region table stag change) domain (own_changed (part_of table domain) stag change)
  pub invalidates : (stag : Stag) → stag.domain ≡ domain → SetsPart table (invalidated table stag) domain (own_invalidated (part_of table domain) stag)
  pub retires : (stream : Option ℕ) → SetsPart table (retired table (record { domain = domain; stream = stream })) domain (own_retired (part_of table domain) stream)
  pub deregisters : (stag : Stag) → stag.domain ≡ domain → SetsPart table (deregistered table stag) domain (own_deregistered (part_of table domain) stag)
  pub registers : (region : Region) → SetsPart table (registered table domain region) domain (own_registered (part_of table domain) region)
  pub adds : SetsPart table (added table domain) domain own_added

abbrev pub DomainsAreApart : Type 0
DomainsAreApart = (table : Table) (domain : ℕ) → domain < length table → OwnSteps table domain

-- what is drawn for a domain is drawn by its own part, and a registration under it is a step of its own part that leaves the parts of all others
pub record OwnDraws (table : Table) (domain : ℕ) : Type 0 where
  pub numbered : (drawn : ℕ) → drawn_stag table domain drawn ≡ own_drawn_stag (part_of table domain) domain drawn
  pub registers : (drawn : ℕ) (region : Region) → SetsPart table (registered_drawn table domain drawn region) domain (own_registered_at (part_of table domain) (own_drawn_stag (part_of table domain) domain drawn) region)

abbrev pub DrawsAreApart : Type 0
DrawsAreApart = (table : Table) (domain : ℕ) → domain < length table → OwnDraws table domain

-- ---- streams

-- the STag names a region that is limited to another stream than the peer's
pub record IsOutOfScope (table : Table) (peer : Peer) (stag : Stag) : Type 0 where
  pub region : Region
  pub found : region_at table stag ≡ Some region
  pub apart : is_in_scope region.bound peer.stream ≡ false

-- the two peers are answered the same, whatever they ask of the region
pub record LooksAlike (table : Table) (peer other : Peer) (stag : Stag) : Type 0 where
  pub denied : (to n : ℕ) (right : Right) → denial_for table peer stag to n right ≡ denial_for table other stag to n right
  pub invalidate_denied : invalidate_denial_for table peer stag ≡ invalidate_denial_for table other stag

-- to a peer out of whose scope it is, a region looks as it looks to the peers of other domains
abbrev pub OutOfScopeLooksForeign : Type 0
OutOfScopeLooksForeign = (table : Table) (peer other : Peer) (stag : Stag) → IsOutOfScope table peer stag → other.domain ≢ stag.domain → LooksAlike table peer other stag

-- what the peer may place or invalidate leaves the region as it was
pub record IsKept (table : Table) (peer : Peer) (hidden : Stag) : Type 0 where
  pub placed : (stag : Stag) (to : ℕ) (octets : List ℕ) (right : Right) → denial_for table peer stag to (length octets) right ≡ None → region_at (put table stag to octets) hidden ≡ region_at table hidden
  pub invalidated : (stag : Stag) → invalidate_denial_for table peer stag ≡ None → region_at (invalidated table stag) hidden ≡ region_at table hidden

abbrev pub OutOfScopeIsKept : Type 0
OutOfScopeIsKept = (table : Table) (peer : Peer) (hidden : Stag) → IsOutOfScope table peer hidden → IsKept table peer hidden

-- the tables differ at most in regions that are out of the peer's scope
abbrev pub DiffersOutOfScope : Table → Table → Peer → Type 0
DiffersOutOfScope old new peer = (stag : Stag) → (region_at new stag ≡ region_at old stag) ⊎ (IsOutOfScope old peer stag × IsOutOfScope new peer stag)

-- the peer is answered the same by both, and what it may read is the same
pub record AnswersAlike (old new : Table) (peer : Peer) : Type 0 where
  pub denied : (stag : Stag) (to n : ℕ) (right : Right) → denial_for new peer stag to n right ≡ denial_for old peer stag to n right
  pub invalidate_denied : (stag : Stag) → invalidate_denial_for new peer stag ≡ invalidate_denial_for old peer stag
  pub octets : (stag : Stag) (to n : ℕ) (right : Right) → denial_for old peer stag to n right ≡ None → octets_at new stag to n ≡ octets_at old stag to n

abbrev pub OutOfScopeIsHidden : Type 0
OutOfScopeIsHidden = (old new : Table) (peer : Peer) → DiffersOutOfScope old new peer → AnswersAlike old new peer

-- the regions that are limited to the peer's stream are changed so, the others of its domain stay, and no peer may use those any more
pub record Retires (table : Table) (peer : Peer) : Type 0 where
  pub own : (stag : Stag) → stag.domain ≡ peer.domain → region_at (retired table peer) stag ≡ option_map (retired_region peer.stream) (region_at table stag)
  pub others : (d : ℕ) → d ≢ peer.domain → part_of (retired table peer) d ≡ part_of table d
  pub ended : (stag : Stag) → stag.domain ≡ peer.domain → IsSomeAnd (region_at table stag) (λ r. IsTrue (is_bound_to r.bound peer.stream)) →
      (other : Peer) (to n : ℕ) (right : Right) → denial_for (retired table peer) other stag to n right ≡ None → n ≡ 0

abbrev pub RetireEndsScope : Type 0
RetireEndsScope = (table : Table) (peer : Peer) → Retires table peer

-- which streams are in scope
pub record KnownScopes : Type 0 where
  pub domain : (stream : Option ℕ) → is_in_scope None stream ≡ true
  pub own : is_in_scope (Some 7) (Some 7) ≡ true
  pub other : is_in_scope (Some 7) (Some 8) ≡ false
  pub none : is_in_scope (Some 7) None ≡ false

-- ---- limits

-- domains 1 to 255 and no other, at most 1,024 regions in a domain, and each region within its own limits
pub record HoldsLimits (table : Table) : Type 0 where
  pub domains : length table ≡ 256
  pub no_zero : part_of table 0 ≡ None
  pub slots : (d : ℕ) → length (slots_of table d) ≤ 1024
  pub regions : (stag : Stag) → IfSome (region_at table stag) (λ r. IsWithinLimits r.base (length r.octets))
