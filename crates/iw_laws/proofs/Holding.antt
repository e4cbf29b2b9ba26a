-- What stands in a region once a message has come, of every run.
use Rattle.std.proofs.Common.{◌≡◌, ◌≤◌, ◌⊎◌, inl, inr, ℕ, zero, suc, List, [], ◌++◌, length, arith, sym, subst, ◌∙◌, append_assoc}
use Rattle.iw_memory.specs.declared.rights.Right.TheVariants as rights
use Rattle.iw_queues.specs.declared.request.Request.{Request}
use Rattle.iw_queues.specs.Joined.{Cell, count_writes, count_before}
use Rattle.iw_events.specs.declared.call.End.{End}
use Rattle.iw_events.specs.declared.act.Act.{Act}
use Rattle.iw_events.specs.declared.act.Entry.{Entry}
use Rattle.iw_laws.specs.Words.{Octets, other, acts, stream_acts, posted, received, placings, written, sunk, finished_kinds}
use Rattle.iw_laws.specs.Turns.{story_of}
use Rattle.iw_laws.specs.Safe.{IsHonest, CoversWrites, Covered}
use Rattle.iw_laws.specs.Sends.{ready_of}
use Rattle.iw_laws.specs.Faithful.{AnswersReads, Answering, responses, count_done}
use Rattle.iw_laws.specs.Holds.{Place, cell_of, WasHonest, count_whole, IsWritten, IsFetched, laid_done, HoldsWritten, HoldsFetched}
use Rattle.iw_laws.proofs.Touched.{placed_at, IsOnlyOne, only_one, there_stands}
use Rattle.iw_laws.proofs.Laws.{covered, answering_all, within_all, shows_regions}
use Rattle.iw_laws.proofs.Runs.{ToldRun, run_in}

pub write_apart : rights.Write ≡ rights.Read → ⊥
write_apart e = cc

pub sink_apart : rights.Sink ≡ rights.Read → ⊥
sink_apart e = cc

-- those before the Sends that were received were placed
whole_placed : (c : Cell) (had : ℕ) (messages placed : List (Request Octets)) → CoversWrites messages placed had c → count_whole c had messages ≤ count_writes c placed
whole_placed c zero messages placed h = omega arith
whole_placed c (suc k) messages placed h = h.before k (omega arith)

-- ---- of what was written and fetched on a stream, at a moment and since

module _ (x : End) (n : ℕ) (past now : List (Entry Octets)) (was : WasHonest n past) (p : Place) (octet : ℕ) where
  abbrev then_done : List (Act Octets)
  then_done = acts (other x) past

  abbrev now_done : List (Act Octets)
  now_done = acts (other x) now

  abbrev older : List (Request Octets)
  older = posted (stream_acts n (acts x past))

  abbrev messages : List (Request Octets)
  messages = posted (stream_acts n (acts x now))

  abbrev Covers : List (Entry Octets) → Type 0
  Covers trace = (c : Cell) → CoversWrites (posted (stream_acts n (acts x trace))) (written (placings (stream_acts n (acts (other x) trace)))) (length (received (stream_acts n (acts (other x) trace)))) c

  -- nothing had been placed at first
  first_written : (v : ℕ) (trace : List (Entry Octets)) → trace ≡ []
      → (count_whole (cell_of p v) (length (received (stream_acts n (acts (other x) trace)))) (posted (stream_acts n (acts x trace))) ≤ placed_at p n rights.Write (acts (other x) trace) v)
      × (placed_at p n rights.Write (acts (other x) trace) v ≤ count_writes (cell_of p v) (posted (stream_acts n (acts x trace))))
  unfolding acts stream_acts posted received placings
  first_written v trace none =
      subst (λ z.
      (count_whole (cell_of p v) (length (received (stream_acts n (acts (other x) z)))) (posted (stream_acts n (acts x z))) ≤ placed_at p n rights.Write (acts (other x) z) v)
      × (placed_at p n rights.Write (acts (other x) z) v ≤ count_writes (cell_of p v) (posted (stream_acts n (acts x z))))) (sym none) (omega arith, omega arith)

  pub written_one : (k : ℕ) → (IsHonest n past → Covers past) → Covers now → IsWritten p octet k older (length (received (stream_acts n then_done))) messages (length (received (stream_acts n now_done)))
      → IsOnlyOne (placed_at p n rights.Write then_done) (placed_at p n rights.Write now_done) octet
  written_one k before later w =
      only_one p octet (placed_at p n rights.Write then_done) (placed_at p n rights.Write now_done) (λ c. count_whole c (length (received (stream_acts n then_done))) older) (λ c. count_writes c older) (λ c. count_before c k messages) (λ c. count_writes c messages)
      (bounds was) (λ v. ((later (cell_of p v)).before k w.0, (later (cell_of p v)).most)) w.1
    where
      bounds : WasHonest n past → (v : ℕ) → (count_whole (cell_of p v) (length (received (stream_acts n then_done))) older ≤ placed_at p n rights.Write then_done v) × (placed_at p n rights.Write then_done v ≤ count_writes (cell_of p v) older)
      bounds (inl honest) v =
          let h = before honest (cell_of p v) in
          (whole_placed (cell_of p v) (length (received (stream_acts n then_done))) older (written (placings (stream_acts n then_done))) h, h.most)
      bounds (inr none) v = first_written v past none

  abbrev Answers : List (Entry Octets) → Type 0
  Answers trace =
      AnswersReads (story_of n (acts x trace)) (ready_of (story_of n (acts (other x) trace))) (posted (stream_acts n (acts (other x) trace))) (sunk (placings (stream_acts n (acts (other x) trace)))) (count_done (finished_kinds (stream_acts n (acts (other x) trace))))

  abbrev finished_at : List (Entry Octets) → List (Request Octets)
  finished_at trace = laid_done (story_of n (acts x trace)) (story_of n (acts (other x) trace)) (stream_acts n (acts (other x) trace))

  first_fetched : (v : ℕ) (trace : List (Entry Octets)) → trace ≡ []
      → (count_writes (cell_of p v) (finished_at trace) ≤ placed_at p n rights.Sink (acts (other x) trace) v) × (placed_at p n rights.Sink (acts (other x) trace) v ≤ count_writes (cell_of p v) (responses (story_of n (acts x trace))))
  unfolding acts stream_acts finished_kinds placings
  first_fetched v trace none =
      subst (λ z.
      (count_writes (cell_of p v) (finished_at z) ≤ placed_at p n rights.Sink (acts (other x) z) v) × (placed_at p n rights.Sink (acts (other x) z) v ≤ count_writes (cell_of p v) (responses (story_of n (acts x z))))) (sym none) (omega arith, omega arith)

  pub fetched_one : (IsHonest n past → Answers past) → Answers now → IsFetched p octet (finished_at past) (responses (story_of n (acts x past))) (finished_at now) (responses (story_of n (acts x now)))
      → IsOnlyOne (placed_at p n rights.Sink then_done) (placed_at p n rights.Sink now_done) octet
  fetched_one before later w =
      only_one p octet (placed_at p n rights.Sink then_done) (placed_at p n rights.Sink now_done) (λ c. count_writes c (finished_at past)) (λ c. count_writes c (responses (story_of n (acts x past)))) (λ c. count_writes c (finished_at now)) (λ c. count_writes c (responses (story_of n (acts x now))))
      (bounds was) (λ v. ((later.covers (cell_of p v)).before, (later.covers (cell_of p v)).most)) w
    where
      bounds : WasHonest n past → (v : ℕ) → (count_writes (cell_of p v) (finished_at past) ≤ placed_at p n rights.Sink then_done v) × (placed_at p n rights.Sink then_done v ≤ count_writes (cell_of p v) (responses (story_of n (acts x past))))
      bounds (inl honest) v = let h = (before honest).covers (cell_of p v) in (h.before, h.most)
      bounds (inr none) v = first_fetched v past none

-- ---- the laws

pub holds_written : (trace : List (Entry Octets)) → ToldRun trace → HoldsWritten trace
holds_written trace run past since future is x n was honest p octet k w untouched =
    let law : Covered trace = covered trace (run_in trace run) in
    there_stands trace (within_all trace run) (shows_regions trace run) (other x) p n rights.Write write_apart past since future is octet
    (written_one x n past (past ++ since) was p octet k (law past (since ++ future) (is ∙ append_assoc past since future) x n) (law (past ++ since) future is x n honest) w) untouched

pub holds_fetched : (trace : List (Entry Octets)) → ToldRun trace → HoldsFetched trace
holds_fetched trace run past since future is x n was honest p octet w untouched =
    let law : Answering trace = answering_all trace (run_in trace run) in
    there_stands trace (within_all trace run) (shows_regions trace run) (other x) p n rights.Sink sink_apart past since future is octet
    (fetched_one x n past (past ++ since) was p octet (law past (since ++ future) (is ∙ append_assoc past since future) x n) (law (past ++ since) future is x n honest) w) untouched
