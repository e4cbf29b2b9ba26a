-- Runs of servers that one law refuses.
use Rattle.std.proofs.Common.{◌≡◌, ℕ, ◌-◌, ◌<◌, List, [], ◌∷◌, length, get_or, refl, take, sym, ap, ◌∙◌, arith, inl, inr, false, None, Result, Ok, Err}
use Rattle.std.proofs.lemmas.List.{append-nil}
use Rattle.std.proofs.lemmas.Option.{none-some, same_Some}
use Rattle.iw_octets.specs.declared.stag.Stag.{Stag}
use Rattle.iw_memory.specs.declared.refusal.RegisterRefusal.{RegisterRefusal}
use Rattle.iw_memory.specs.declared.rights.Right.TheVariants as rights
use Rattle.iw_queues.specs.Joined.{count_writes}
use Rattle.iw_endpoint.specs.Endpoint.{no_streams, no_closed}
use Rattle.iw_endpoint.specs.declared.refusal.OpenNextRefusal.{OpenNextRefusal}
use Rattle.iw_events.specs.declared.act.Seen.TheVariants as seen
use Rattle.iw_events.specs.declared.call.End.{End}
use Rattle.iw_events.specs.declared.call.End.TheVariants.{A, B}
use Rattle.iw_laws.specs.Words.{Octets, Sent, acts, ended, handed_kinds, openings, sent, stream_acts, posted, received}
use Rattle.iw_laws.specs.Turns.{pooling, story, story_of}
use Rattle.iw_laws.specs.ServerRegions.{server_stream_act}
use Rattle.iw_laws.specs.Safe.{IsHonest}
use Rattle.iw_laws.specs.Servers.{told}
use Rattle.iw_laws.specs.ServerLaws.{by_number}
use Rattle.iw_laws.specs.ServerRuns.{at_a, at_b, gives, closes, rests, limits, skips_first, writes_elsewhere, closes_holding, denies_close, never_closes, limits_taken, denies_domain, domain_denied, denies_number, number_denied, numbers_domains, writes_limited}
use Rattle.iw_laws.specs.ServerRuns.{RefusesRestClosed, RefusesClosedTwice, RefusesGivenTwice, RefusesPickedClosed, RefusesSkippedGiven, RefusesLimitedClosed, RefusesSkippedLimited, RefusesWrittenElsewhere, RefusesClosedHolding, RefusesNeverClosed, RefusesLimitedTaken, RefusesDomainDenied, RefusesNumberDenied, RefusesDomainsNumbered, RefusesWrittenLimited}
use Rattle.iw_events.specs.declared.act.Act.TheVariants.{Domain}
use Rattle.iw_events.specs.declared.server.ServerAct.TheVariants.{Plain, Stream}
use Rattle.iw_events.specs.declared.act.StreamAct.TheVariants.{Work}
use Rattle.iw_memory.specs.Table.{empty}
use Rattle.std.proofs.lemmas.Bool.{false≢true}
use Rattle.iw_laws.specs.WrongRuns.{stag, places}
use Rattle.iw_laws.specs.ServerIsolated.{ServerAsksOwn}
use Rattle.iw_laws.specs.ServerHolds.{IsLeftAlone}
use Rattle.iw_laws.specs.Holds.{Place, cell_of}
use Rattle.iw_laws.specs.ServerLaws.{server_acts}
use Rattle.iw_laws.proofs.RefusedReads.{opened_at_once}
use Rattle.iw_laws.proofs.RefusedHeld.{first_one}

pub refuses_rest_closed : RefusesRestClosed
unfolding acts stream_acts
refuses_rest_closed h =
    let r = h (at_a (Plain (Domain 1 None)) ∷ at_a gives ∷ []) (at_a rests ∷ []) A 64 refl in
    omega (arith, ap length r.done)

pub refuses_closed_twice : RefusesClosedTwice
refuses_closed_twice h =
    let r = h (at_a (Plain (Domain 1 None)) ∷ at_a gives ∷ []) (at_a closes ∷ []) A 64 refl in
    omega (arith, ap length r.closed)

pub refuses_given_twice : RefusesGivenTwice
unfolding acts openings
refuses_given_twice h = omega (arith, h A 64)

pub refuses_picked_closed : RefusesPickedClosed
unfolding acts openings
refuses_picked_closed h = omega (arith, h A 7)

pub refuses_skipped_given : RefusesSkippedGiven
unfolding acts stream_acts openings story posted received opened_at_once
refuses_skipped_given h =
    let honest : IsHonest 64 (told by_number skips_first) = record { opening = λ x. opened_at_once; opened = opened; fits = λ x. inl (refl, refl, refl, refl); calm = calm } in
    let r = h (told by_number skips_first) [] refl A 64 honest in
    let other : 0x69 ≡ 0x68 = ap (λ (xs : List Sent). get_or (first_octets xs) 0 0) r.1 in
    omega (arith, other)
  where
    first_octets : List Sent → Octets
    first_octets [] = []
    first_octets (x ∷ xs) = x.octets

    opened : (x : End) → openings 64 (acts x (told by_number skips_first)) ≡ opened_at_once ∷ []
    opened A = refl
    opened B = refl

    calm : (x : End) → (story_of 64 (acts x (told by_number skips_first))).strays ≡ false
    calm A = refl
    calm B = refl

pub refuses_limited_closed : RefusesLimitedClosed
refuses_limited_closed h =
    let r = h (at_a (Plain (Domain 1 None)) ∷ at_a gives ∷ []) (at_a limits ∷ []) A 64 refl in
    omega (arith, ap length r.limited)

-- it tells what the run without the region tells
pub refuses_skipped_limited : RefusesSkippedLimited
refuses_skipped_limited h = refuses_skipped_given h

pub refuses_written_elsewhere : RefusesWrittenElsewhere
unfolding acts stream_acts openings empty
refuses_written_elsewhere h = elim (h (take 4 writes_elsewhere) (at_b (Stream 65 (Work places))) [] refl).0 [
  | inl none ↦ absurd (omega (arith, none))
  | inr there ↦ absurd (false≢true there.1.in_scope)
]

-- ---- calls that are answered wrongly

pub refuses_closed_holding : RefusesClosedHolding
unfolding acts stream_acts openings story pooling posted handed_kinds ended sent
refuses_closed_holding h = none-some (record {}) (h (take 5 closes_holding) (at_a closes) [] refl)

pub refuses_never_closed : RefusesNeverClosed
unfolding acts stream_acts openings story pooling posted handed_kinds ended sent
refuses_never_closed h = none-some (record {}) (sym (h (take 4 never_closes) (at_a denies_close) [] refl))

pub refuses_limited_taken : RefusesLimitedTaken
unfolding acts stream_acts openings empty
refuses_limited_taken h = none-some _ (sym (h (take 3 limits_taken) (at_b limits) [] refl).1.fresh)

pub refuses_domain_denied : RefusesDomainDenied
unfolding acts empty
refuses_domain_denied h = let given : 0 ≡ 64 = ap number_of (h (take 1 domain_denied) (at_a denies_domain) [] refl) in omega (arith, given)
  where
    number_of : Result ℕ OpenNextRefusal → ℕ
    number_of (Ok n) = n
    number_of (Err r) = 0

pub refuses_number_denied : RefusesNumberDenied
unfolding acts openings empty
refuses_number_denied h = none-some _ (sym (h (take 2 number_denied) (at_a denies_number) [] refl))

-- stream 64 is the first domain's, and stream 65 the second's
abbrev whose : ℕ → ℕ
whose n = n - 63

numbers_own : ServerAsksOwn whose (server_acts B numbers_domains)
numbers_own = (λ n d h. absurd h, (λ n d h. ap whose (sym h.0) ∙ h.1, (λ n d h. absurd h, (λ n d h. ap whose (sym h.0) ∙ h.1, (λ n d h. absurd h, (λ n d h. absurd h, tt))))))

abbrev slot_of : Result Stag RegisterRefusal → ℕ
slot_of (Ok stag) = stag.slot
slot_of (Err refusal) = 0

pub refuses_domains_numbered : RefusesDomainsNumbered
unfolding empty no_streams no_closed
refuses_domains_numbered h = let no : 1 ≡ 0 = ap slot_of (h numbers_domains [] (sym (append-nil numbers_domains)) B whose numbers_own 2).1.1.0 in omega (arith, no)

-- ---- other octets stand in a region

the_place : Place
the_place = record { stag = stag; to = 0 }

pub refuses_written_limited : RefusesWrittenLimited
unfolding acts stream_acts openings story posted received opened_at_once empty the_place
refuses_written_limited h =
    let held = h [] writes_limited [] (sym (append-nil writes_limited)) A 64 (inr refl) honest the_place 0xaa 0 (omega arith, record { new = omega arith; alone = agree }) alone in
    omega (arith, ap (λ (xs : Octets). get_or xs 0 0) held)
  where
    opened : (x : End) → openings 64 (acts x (told by_number writes_limited)) ≡ opened_at_once ∷ []
    opened A = refl
    opened B = refl

    calm : (x : End) → (story_of 64 (acts x (told by_number writes_limited))).strays ≡ false
    calm A = refl
    calm B = refl

    honest : IsHonest 64 (told by_number writes_limited)
    honest = record { opening = λ x. opened_at_once; opened = opened; fits = λ x. inl (refl, refl, refl, refl); calm = calm }

    agree : (other : ℕ) → 0 < count_writes (cell_of the_place other) (posted (stream_acts 64 (acts A (told by_number writes_limited)))) → other ≡ 0xaa
    agree other some = first_one 0xaa other (omega (arith, some))

    alone : IsLeftAlone the_place 64 rights.Write (server_acts B writes_limited)
    alone act is = (0, 0xbb ∷ [], ap server_stream_act (sym (same_Some (Stream 64 (Work (seen.Placed rights.Write stag 0 (0xbb ∷ [])))) act is)))
