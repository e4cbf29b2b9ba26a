-- Each wrong run of two domains breaks the law that keeps them apart.
use Rattle.std.proofs.Common.{◌≡◌, ℕ, zero, suc, [], ◌∷◌, ◌++◌, replicate, Some, None, Ok, Err, sym, ap, arith}
use Rattle.std.proofs.lemmas.List.{append-nil}
use Rattle.std.proofs.lemmas.Option.{none-some}
use Rattle.iw_octets.specs.declared.stag.Stag.{Stag}
use Rattle.iw_memory.specs.Table.{empty}
use Rattle.iw_memory.specs.declared.refusal.RegisterRefusal.{RegisterRefusal}
use Rattle.std.specs.Prelude.{Result}
use Rattle.iw_endpoint.specs.Endpoint.{no_streams, no_closed}
use Rattle.iw_stream.specs.declared.answer.RecvRefusal.TheVariants.{Full}
use Rattle.iw_events.specs.declared.call.End.TheVariants.{B}
use Rattle.iw_events.specs.declared.act.Act.TheVariants.{Stream}
use Rattle.iw_events.specs.declared.act.StreamAct.TheVariants.{Recv}
use Rattle.iw_laws.specs.Words.{acts}
use Rattle.iw_laws.specs.Isolated.{AsksOwn, calls_made}
use Rattle.iw_laws.specs.WrongRuns.{b, on, numbers_over_all, full_for_all, RefusesNumberedOverAll, RefusesFullForAll}

-- stream 0 is the first domain's, and stream 1 the second's
abbrev whose : ℕ → ℕ
whose n = suc n

numbers_own : AsksOwn whose (calls_made (acts B numbers_over_all))
unfolding acts
numbers_own = (λ n d h. absurd h, (λ n d h. cc, (λ n d h. absurd h, (λ n d h. cc, (λ n d h. absurd h, (λ n d h. absurd h, tt))))))

abbrev slot_of : Result Stag RegisterRefusal → ℕ
slot_of (Ok stag) = stag.slot
slot_of (Err refusal) = 0

pub refuses_numbered_over_all : RefusesNumberedOverAll
unfolding acts empty no_streams no_closed
refuses_numbered_over_all h = let no : 1 ≡ 0 = ap slot_of (h numbers_over_all [] (sym (append-nil numbers_over_all)) B whose numbers_own 2).1.1.0 in omega (arith, no)

full_own : AsksOwn whose (calls_made (acts B full_for_all))
unfolding acts
full_own = (λ n d h. absurd h, (λ n d h. cc, (λ n d h. absurd h, (λ n d h. cc, posted 256))))
  where
    posted : (k : ℕ) → AsksOwn whose (calls_made (acts B (replicate k (b (on (Recv 1 None))) ++ (b (Stream 1 (Recv 1 (Some Full))) ∷ []))))
    posted zero = (λ n d h. absurd h, tt)
    posted (suc k) = (λ n d h. absurd h, posted k)

pub refuses_full_for_all : RefusesFullForAll
unfolding acts empty no_streams no_closed
refuses_full_for_all h = none-some _ (sym (h full_for_all [] (sym (append-nil full_for_all)) B whose full_own 2).1.1.0.1)
