-- What the checks of a segment of a response tell.
use Rattle.std.proofs.Common.{◌≡◌, ℕ, ◌+◌, ◌≤◌, Bool, true, false, not, ◌&&◌, ◌||◌, List, [], ◌∷◌, if◌then◌else◌, Some, None, refl, sym, ap, arith, ◌⊎◌, IsSomeAnd}
use Rattle.std.specs.Prelude.{◌↔◌, ◌==◌, nat_le, slice_get}
use Rattle.std.specs.Bool.{Decides}
use Rattle.std.specs.List.{Any}
use Rattle.std.proofs.lemmas.Bool.Decides.{Decides-and, Decides-eqb, Decides-like, nat_tests, same_from_decides}
use Rattle.std.proofs.lemmas.List.Folds.{Any-from_list_any, list_any-from_Any}
use Rattle.std.proofs.lemmas.Option.{none-some}
use Rattle.iw_octets.specs.declared.fault.Fault.{Fault}
use Rattle.iw_octets.specs.declared.fault.TheConstants.Fault as faults
use Rattle.iw_octets.specs.declared.head.TaggedHead.{TaggedHead}
use Rattle.iw_octets.specs.declared.stag.Stag.{Stag}
use Rattle.iw_octets.specs.Stag.{FitsStag, number_of}
use Rattle.iw_reads.specs.declared.reads.Outstanding.{Outstanding}
use Rattle.iw_reads.specs.Laws.{AskedFor, GoesOn}
use Rattle.iw_reads.specs.Outstanding.{same_stag, sink_offset, is_inside, asks_for, is_asked, sink_fault, next_offset, goes_on, response_turn_fault}

pub Decides-same_stag : (a b : Stag) → Decides (same_stag a b) (a ≡ b)
Decides-same_stag a b =
    Decides-like (same_stag a b)
    (λ (same : ((a.domain ≡ b.domain) × (a.slot ≡ b.slot)) × (a.key ≡ b.key)). λ i. record { domain = same.0.0 i; slot = same.0.1 i; key = same.1 i })
    (λ (same : a ≡ b). ((ap (λ (stag : Stag). stag.domain) same, ap (λ (stag : Stag). stag.slot) same), ap (λ (stag : Stag). stag.key) same))
    (Decides-and ((a.domain == b.domain) && (a.slot == b.slot)) (a.key == b.key)
    (Decides-and (a.domain == b.domain) (a.slot == b.slot) (Decides-eqb a.domain b.domain) (Decides-eqb a.slot b.slot))
    (Decides-eqb a.key b.key))

-- STags are the same if they are as numbers
pub same_numbers : (a b : Stag) → FitsStag a → FitsStag b → (number_of a == number_of b) ≡ same_stag a b
same_numbers a b fits_a fits_b =
    same_from_decides {P = number_of a ≡ number_of b} (number_of a == number_of b) (same_stag a b)
    (Decides-eqb (number_of a) (number_of b))
    (Decides-like (same_stag a b) (λ (same : a ≡ b). ap number_of same) (λ (same : number_of a ≡ number_of b). again same) (Decides-same_stag a b))
  where
    again : number_of a ≡ number_of b → a ≡ b
    again same =
        let domain : a.domain ≡ b.domain = omega (arith, fits_a.domain, fits_a.slot, fits_a.key, fits_b.domain, fits_b.slot, fits_b.key, same) in
        let slot : a.slot ≡ b.slot = omega (arith, fits_a.domain, fits_a.slot, fits_a.key, fits_b.domain, fits_b.slot, fits_b.key, same) in
        let key : a.key ≡ b.key = omega (arith, fits_a.domain, fits_a.slot, fits_a.key, fits_b.domain, fits_b.slot, fits_b.key, same) in
        λ i. record { domain = domain i; slot = slot i; key = key i }

Decides-inside : (n end size : ℕ) → Decides ((n == 0) || nat_le end size) ((n ≡ 0) ⊎ (end ≤ size))
Decides-inside n end size = grind (arith, nat_tests)

pub Decides-asks_for : (head : TaggedHead) (n : ℕ) (read : Outstanding) → Decides (asks_for head n read) (AskedFor head n read)
Decides-asks_for head n read =
    Decides-like (asks_for head n read)
    (λ (both : (read.request.sink ≡ head.stag) × ((n ≡ 0) ⊎ (sink_offset read.request head.to + n ≤ read.request.size))). record { stag = both.0; inside = both.1 })
    (λ (asked : AskedFor head n read). (asked.stag, asked.inside))
    (Decides-and (same_stag read.request.sink head.stag) (is_inside read.request head.to n)
    (Decides-same_stag read.request.sink head.stag) (Decides-inside n (sink_offset read.request head.to + n) read.request.size))

Decides-ends : (last : Bool) (n size : ℕ) → Decides (not last || (n == size)) (last ≡ true → n ≡ size)
Decides-ends true n size = grind (arith, nat_tests)
Decides-ends false n size = (λ _ e. cc, λ _. refl)

Decides-within : (n size : ℕ) → Decides (nat_le n size) (n ≤ size)
Decides-within n size = grind (arith, nat_tests)

pub Decides-goes_on : (head : TaggedHead) (n : ℕ) (read : Outstanding) → Decides (goes_on read head n) (GoesOn head n read)
Decides-goes_on head n read =
    let stag : Bool = same_stag read.request.sink head.stag in
    let to : Bool = head.to == next_offset read in
    let within : Bool = nat_le (read.turned + n) read.request.size in
    let ends : Bool = not head.last || (read.turned + n == read.request.size) in
    Decides-like (goes_on read head n)
    (λ (all : (((read.request.sink ≡ head.stag) × (head.to ≡ next_offset read)) × (read.turned + n ≤ read.request.size)) × (head.last ≡ true → read.turned + n ≡ read.request.size)).
    record { stag = all.0.0.0; to = all.0.0.1; within = all.0.1; ends = all.1 })
    (λ (goes : GoesOn head n read). (((goes.stag, goes.to), goes.within), goes.ends))
    (Decides-and (stag && to && within) ends
    (Decides-and (stag && to) within
    (Decides-and stag to (Decides-same_stag read.request.sink head.stag) (Decides-eqb head.to (next_offset read)))
    (Decides-within (read.turned + n) read.request.size))
    (Decides-ends head.last (read.turned + n) read.request.size))

-- no fault is that the test passes
passed : (b : Bool) (fault : Fault) → (if b then None else Some fault) ≡ None → b ≡ true
passed true fault is = refl
passed false fault is = absurd (none-some fault (sym is))

Any-weaker : (P Q : Outstanding → Type 0) (reads : List Outstanding) → ((read : Outstanding) → P read → Q read) → Any P reads → Any Q reads
Any-weaker P Q reads weaker some = (some.0, some.1, some.2, some.3, weaker some.1 some.4)

pub placed_tells : (reads : List Outstanding) (head : TaggedHead) (n : ℕ) → (sink_fault reads head n ≡ None) ↔ Any (AskedFor head n) reads
placed_tells reads head n = (
  λ is. Any-weaker (λ read. asks_for head n read ≡ true) (AskedFor head n) reads (λ read. (Decides-asks_for head n read).0)
      (Any-from_list_any (asks_for head n) reads (passed (is_asked reads head n) faults.OPERATION_UNEXPECTED is)),
  λ some. ap (λ (b : Bool). if b then None else Some faults.OPERATION_UNEXPECTED)
      (list_any-from_Any (asks_for head n) reads
      (Any-weaker (AskedFor head n) (λ read. asks_for head n read ≡ true) reads (λ read. (Decides-asks_for head n read).1) some)),
)

pub turned_tells : (reads : List Outstanding) (head : TaggedHead) (n : ℕ) → (response_turn_fault reads head n ≡ None) ↔ IsSomeAnd (slice_get reads 0) (GoesOn head n)
turned_tells [] head n = (λ is. absurd (none-some _ (sym is)), λ goes. absurd goes)
turned_tells (read ∷ reads) head n = (
  λ is. (Decides-goes_on head n read).0 (passed (goes_on read head n) faults.PROTECTION_BOUNDS is),
  λ goes. ap (λ (b : Bool). if b then None else Some faults.PROTECTION_BOUNDS) ((Decides-goes_on head n read).1 goes),
)
