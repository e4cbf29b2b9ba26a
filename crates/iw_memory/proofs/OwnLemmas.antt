-- Each step of a domain is a step of its own part.
use Rattle.std.proofs.Common.{◌≡◌, ℕ, ◌<◌, length, None, refl, sym, ap, subst, get_or-set_same, get_or-set_other}
use Rattle.iw_memory.specs.Part.{Part, own_region, own_store_refusal, own_changed, own_put, own_invalidated, own_deregistered}
use Rattle.iw_memory.specs.Table.{Table, part_of, with_part}
use Rattle.iw_memory.specs.Laws.{SetsPart, OwnSteps, OwnDraws}

-- a part that is put at a domain is that domain's, and the other domains keep theirs
pub with_part-sets : (table : Table) (domain : ℕ) (part : Part) → domain < length table → SetsPart table (with_part table domain part) domain part
with_part-sets table domain part within = record { own = get_or-set_same table domain part None within; others = λ d ne. get_or-set_other table domain d part None ne }

-- a step on what an STag of the domain names
step : (table : Table) (domain : ℕ) (own : Part → Part) → domain < length table → (d : ℕ) → d ≡ domain → SetsPart table (with_part table d (own (part_of table d))) domain (own (part_of table domain))
step table domain own within d here =
    subst (λ (e : ℕ). SetsPart table (with_part table e (own (part_of table e))) domain (own (part_of table domain))) (sym here) (with_part-sets table domain (own (part_of table domain)) within)

pub domains_apart : (table : Table) (domain : ℕ) → domain < length table → OwnSteps table domain
domains_apart table domain within = record {
  denied = λ stream stag to n right. refl;
  invalidate_denied = λ stream stag. refl;
  region = λ stag here. ap (λ d. own_region (part_of table d) stag) here;
  store_refused = λ stag to n here. ap (λ d. own_store_refusal (part_of table d) stag to n) here;
  add_refused = refl;
  register_refused = λ most base len. refl;
  numbered = refl;
  puts = λ stag to octets here. step table domain (λ part. own_put part stag to octets) within stag.domain here;
  changes = λ stag change here. step table domain (λ part. own_changed part stag change) within stag.domain here;
  invalidates = λ stag here. step table domain (λ part. own_invalidated part stag) within stag.domain here;
  retires = λ stream. with_part-sets table domain _ within;
  deregisters = λ stag here. step table domain (λ part. own_deregistered part stag) within stag.domain here;
  registers = λ region. with_part-sets table domain _ within;
  adds = with_part-sets table domain _ within;
}

pub draws_apart : (table : Table) (domain : ℕ) → domain < length table → OwnDraws table domain
draws_apart table domain within = record {
  numbered = λ drawn. refl;
  registers = λ drawn region. with_part-sets table domain _ within;
}
