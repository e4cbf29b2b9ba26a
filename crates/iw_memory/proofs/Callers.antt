-- What the crates above cite of the memory.
use Rattle.std.proofs.Common.{◌≡◌, ◌≢◌, ℕ, ◌+◌, ◌-◌, ◌<◌, ◌==◌, ◌^◌, ◌||◌, nat_lt, if◌then◌else◌, not, IsSomeAnd, Bool, true, false, cond, List, [], ◌∷◌, length, Option, Some, None, refl, sym, ap, ◌∙◌, arith, inl, inr, get_or-set_same, get_or-set_other, rules, length-drop, drop}
use Rattle.std.proofs.lemmas.List.{length-set, length-take}
use Rattle.std.proofs.lemmas.Bool.{eqb-true}
use Rattle.std.proofs.lemmas.Bool.Decides.{eqb_tells}
use Rattle.std.proofs.lemmas.Option.{none-some, same_Some}
use Rattle.std.specs.Option.{option_map, option_map_or}
use Rattle.iw_octets.specs.declared.stag.Stag.{Stag}
use Rattle.iw_memory.specs.declared.peer.Peer.{Peer}
use Rattle.iw_memory.specs.declared.rights.Right.{Right}
use Rattle.iw_memory.specs.declared.region.Facts.{Facts}
use Rattle.iw_memory.specs.declared.refusal.Deny.{Deny}
use Rattle.iw_memory.specs.declared.refusal.Deny.TheVariants.{NotAssociated, Invalid, ToWrap, Bounds, Rights as NoRights}
use Rattle.iw_memory.specs.Region.{Region, facts_of, grants, is_in_scope, region_denial_for, region_with, octets_from}
use Rattle.iw_memory.specs.Part.{Part, own_region}
use Rattle.iw_memory.specs.Table.{Table, part_of, with_part, region_at, denial_for, octets_at, put}
use Rattle.iw_memory.specs.TableLending.{written}
use Rattle.iw_memory.specs.Laws.{AllowsFor, Serves, DeniesRest, KeepsFacts}
use Rattle.iw_memory.proofs.ListLemmas.{set-set, overlay-read}
use Rattle.iw_memory.proofs.TableLemmas.{put-nothing}
use Rattle.iw_memory.proofs.LawLemmas.{put-changes}

-- ---- parts

pub length-with_part : (table : Table) (domain : ℕ) (part : Part) → length (with_part table domain part) ≡ length table
length-with_part table domain part = length-set table domain part

pub part_of-with_part_same : (table : Table) (domain : ℕ) (part : Part) → domain < length table → part_of (with_part table domain part) domain ≡ part
part_of-with_part_same table domain part within = get_or-set_same table domain part None within

pub part_of-with_part_other : (table : Table) (domain other : ℕ) (part : Part) → other ≢ domain → part_of (with_part table domain part) other ≡ part_of table other
part_of-with_part_other table domain other part ne = get_or-set_other table domain other part None ne

pub with_part-with_part : (table : Table) (domain : ℕ) (first second : Part) → with_part (with_part table domain first) domain second ≡ with_part table domain second
with_part-with_part table domain first second = set-set table domain first second

-- ---- what is denied

pub denies_rest : DeniesRest
denies_rest table peer stag to n right = search rules

-- what is not denied is allowed
pub allows : (table : Table) (peer : Peer) (stag : Stag) (to n : ℕ) (right : Right) → denial_for table peer stag to n right ≡ None → AllowsFor table peer stag to n right
allows table peer stag to n right none = (denies_rest table peer stag to n right).0 none

served : (r : Region) (stream : Option ℕ) (to n : ℕ) (right : Right) → Serves r stream to n right → length (octets_from r to n) ≡ n
served r stream to n right serves = grind (arith, length-take, length-drop, serves.from_base, serves.to_end)

-- a part that may be used has as many octets as were asked for
pub length-octets_at : (table : Table) (peer : Peer) (stag : Stag) (to n : ℕ) (right : Right) → denial_for table peer stag to n right ≡ None → length (octets_at table stag to n) ≡ n
length-octets_at table peer stag to n right none = elim (allows table peer stag to n right none) [
  | inl nothing ↦ empty (region_at table stag) nothing
  | inr allowed ↦ found (region_at table stag) allowed.1
]
  where
    empty : (o : Option Region) → n ≡ 0 → length (option_map_or (λ r. octets_from r to n) o []) ≡ n
    empty None e = sym e
    empty (Some r) e = omega (arith, length-take n (drop (to - r.base) r.octets))

    found : (o : Option Region) → IsSomeAnd o (λ r. Serves r peer.stream to n right) → length (option_map_or (λ r. octets_from r to n) o []) ≡ n
    found None holds = absurd holds
    found (Some r) holds = served r peer.stream to n right holds

-- what is allowed is not denied
pub denial-none : (table : Table) (peer : Peer) (stag : Stag) (to n : ℕ) (right : Right) → AllowsFor table peer stag to n right → denial_for table peer stag to n right ≡ None
denial-none table peer stag to n right allowed = (denies_rest table peer stag to n right).1 allowed

-- an STag of the domain is looked for in the domain's part
pub own_region-region_at : (table : Table) (pd : ℕ) (stag : Stag) → (stag.domain == pd) ≡ true → own_region (part_of table pd) stag ≡ region_at table stag
own_region-region_at table pd stag here = ap (λ d. own_region (part_of table d) stag) (sym (eqb-true stag.domain pd here))

-- what is denied is told by the facts of the region
abbrev facts_denial : Facts → Option ℕ → ℕ → ℕ → Right → Option Deny
facts_denial f stream to n right =
    if not (is_in_scope f.bound stream) then Some NotAssociated else
    (if not f.valid then Some Invalid else
    (if nat_lt (2 ^ 64) (to + n) then Some ToWrap else
    (if nat_lt to f.base || nat_lt (f.base + f.len) (to + n) then Some Bounds else
    (if not (grants f.rights right) then Some NoRights else None))))

abbrev found_denial : Option Region → Option ℕ → ℕ → ℕ → Right → Option Deny
found_denial found stream to n right = option_map_or (λ r. region_denial_for r stream to n right) found (Some Invalid)

found_denial-same_facts : (old new : Option Region) (stream : Option ℕ) (to n : ℕ) (right : Right) → option_map facts_of new ≡ option_map facts_of old → found_denial new stream to n right ≡ found_denial old stream to n right
found_denial-same_facts None None stream to n right same = refl
found_denial-same_facts None (Some b) stream to n right same = absurd (none-some (facts_of b) (sym same))
found_denial-same_facts (Some a) None stream to n right same = absurd (none-some (facts_of a) same)
found_denial-same_facts (Some a) (Some b) stream to n right same = ap (λ f. facts_denial f stream to n right) (same_Some _ _ same)

-- what keeps each region's facts changes no denial
pub denial-same_facts : (old new : Table) → KeepsFacts old new → (peer : Peer) (stag : Stag) (to n : ℕ) (right : Right) → denial_for new peer stag to n right ≡ denial_for old peer stag to n right
denial-same_facts old new kept peer stag to n right = ap (λ o. cond (n == 0) None o) (go (stag.domain == peer.domain) refl)
  where
    go : (b : Bool) → (stag.domain == peer.domain) ≡ b →
        cond (not b) (Some NotAssociated) (found_denial (own_region (part_of new peer.domain) stag) peer.stream to n right) ≡ cond (not b) (Some NotAssociated) (found_denial (own_region (part_of old peer.domain) stag) peer.stream to n right)
    go false e = refl
    go true e =
        ap (λ r. found_denial r peer.stream to n right) (own_region-region_at new peer.domain stag e)
        ∙ found_denial-same_facts (region_at old stag) (region_at new stag) peer.stream to n right (kept stag)
        ∙ ap (λ r. found_denial r peer.stream to n right) (sym (own_region-region_at old peer.domain stag e))

-- ---- what is put

pub region_at-put_same : (table : Table) (stag : Stag) (to : ℕ) (octets : List ℕ) → region_at (put table stag to octets) stag ≡ option_map (λ r. region_with r to octets) (region_at table stag)
region_at-put_same table stag to octets = (put-changes table stag to octets).changed.changed

pub region_at-put_other : (table : Table) (stag other : Stag) (to : ℕ) (octets : List ℕ) → other ≢ stag → region_at (put table stag to octets) other ≡ region_at table other
region_at-put_other table stag other to octets ne = (put-changes table stag to octets).changed.others other ne

-- base, length, rights and validity of each region stay
pub put-keeps_facts : (table : Table) (stag : Stag) (to : ℕ) (octets : List ℕ) → KeepsFacts table (put table stag to octets)
put-keeps_facts table stag to octets = (put-changes table stag to octets).facts

pub denial-put : (table : Table) (stag : Stag) (to : ℕ) (octets : List ℕ) (peer : Peer) (other : Stag) (from n : ℕ) (right : Right) → denial_for (put table stag to octets) peer other from n right ≡ denial_for table peer other from n right
denial-put table stag to octets = denial-same_facts table (put table stag to octets) (put-keeps_facts table stag to octets)

pub no_octets : (xs : List ℕ) → length xs ≡ 0 → xs ≡ []
no_octets [] e = refl
no_octets (x ∷ xs) e = absurd (omega arith)

-- a part that was left with as many octets as it had
pub written-put : (table : Table) (stag : Stag) (to n : ℕ) (octets : List ℕ) → length octets ≡ n → written table stag to n octets ≡ put table stag to octets
written-put table stag to n octets len =
    elim (eqb_tells n 0) [
      | inl nothing ↦ ap (λ b. cond b table (put table stag to octets)) nothing.0 ∙ sym (ap (put table stag to) (no_octets octets (omega arith)) ∙ put-nothing table stag to)
      | inr some ↦ ap (λ b. cond b table (put table stag to octets)) some.0
    ]

nothing_taken : (o : Option Region) (to n : ℕ) → n ≡ 0 → option_map_or (λ r. octets_from r to n) o [] ≡ []
nothing_taken None to n none = refl
nothing_taken (Some r) to n none = ap (λ n. octets_from r to n) none

read_again : (r : Region) (to n : ℕ) (octets : List ℕ) (stream : Option ℕ) (right : Right) → n ≡ length octets → Serves r stream to n right → octets_from (region_with r to octets) to n ≡ octets
read_again r to n octets stream right len serves =
    ap (λ n. octets_from (region_with r to octets) to n) len
    ∙ overlay-read r.octets (to - r.base) octets (omega (arith, serves.from_base, serves.to_end, len))

-- what was placed stands there
pub octets_at-put : (table : Table) (peer : Peer) (stag : Stag) (to : ℕ) (octets : List ℕ) (right : Right) → denial_for table peer stag to (length octets) right ≡ None → octets_at (put table stag to octets) stag to (length octets) ≡ octets
octets_at-put table peer stag to octets right none = elim (allows table peer stag to (length octets) right none) [
  | inl nothing ↦ nothing_taken (region_at (put table stag to octets) stag) to (length octets) nothing ∙ sym (no_octets octets nothing)
  | inr allowed ↦ ap (λ o. option_map_or (λ r. octets_from r to (length octets)) o []) (region_at-put_same table stag to octets) ∙ go (region_at table stag) allowed.1
]
  where
    go : (o : Option Region) → IsSomeAnd o (λ r. Serves r peer.stream to (length octets) right) → option_map_or (λ r. octets_from r to (length octets)) (option_map (λ r. region_with r to octets) o) [] ≡ octets
    go None holds = absurd holds
    go (Some r) holds = read_again r to (length octets) octets peer.stream right refl holds
