-- What a call at a stream that is there leaves, and what is shown of it.
use Rattle.std.proofs.Common.{◌≡◌, ℕ, zero, suc, ◌<◌, ◌++◌, List, [], ◌∷◌, length, Option, Some, None, true, refl, sym, ap, ◌∙◌, arith}
use Rattle.std.specs.Prelude.{is_some, slice_index_or, slice_set, unwrap_or}
use Rattle.std.proofs.lemmas.List.{get_or-set_same}
use Rattle.iw_stream.specs.declared.answer.Step.{Step}
use Rattle.iw_stream.specs.Stream.{StreamState}
use Rattle.iw_stream.specs.Work.{work_step, worked, table_worked}
use Rattle.iw_memory.specs.Table.{Table}
use Rattle.iw_endpoint.specs.Endpoint.{EndpointState, Pool, unopened, stream_of, stream_at, has_stream, pool_of, lent_to, left_of, after_work, after_emit, emission_at, emitted_at}
use Rattle.iw_events.specs.declared.act.Act.TheVariants.{Stream}
use Rattle.iw_events.specs.declared.act.Seen.{Seen}
use Rattle.iw_events.specs.declared.act.Shown.{Shown}
use Rattle.iw_events.specs.declared.act.StreamAct.TheVariants.{Emit}
use Rattle.iw_laws.specs.Words.{Octets, octets_shown}
use Rattle.iw_laws.specs.Rules.{EndState, seen_at, seen_of, shown_of, end_after}
use Rattle.iw_laws.proofs.Ends.{there}
use Rattle.iw_laws.proofs.Seeing.{shown_sends}
use Rattle.iw_laws.proofs.States.{found}

-- a pool that is lent does not concern the start-up
start_left : (table : Table) (pool : Option Pool) (s : StreamState) → (left_of table pool s).start ≡ (worked table (lent_to pool s)).start
start_left table None s = refl
start_left table (Some pool) s = refl

-- what a step at a stream leaves of it
abbrev left_at : EndpointState → ℕ → StreamState
left_at e n = left_of e.table (pool_of e (stream_at e n).domain) (stream_at e n)

worked_there : (e : EndpointState) (n : ℕ) → has_stream e n ≡ true → stream_at (after_work e n) n ≡ left_at e n
worked_there e n h = ap (λ o. unwrap_or o unopened) (get_or-set_same e.streams n (Some (left_at e n)) None (there e.streams n h))

-- the stream that was worked at is there
pub still_there : (e left : EndpointState) (n : ℕ) → has_stream e n ≡ true → left ≡ after_work e n → has_stream left n ≡ true
still_there e left n h left_is =
    ap (λ z. has_stream z n) left_is ∙ ap is_some (get_or-set_same e.streams n (Some (left_at e n)) None (there e.streams n h))

-- what is seen in the state that a step left is what the rules say
pub step_seen : (e left : EndpointState) (n : ℕ) (step : Step Octets) (seen : Seen Octets) → has_stream e n ≡ true → step ≡ work_step e.table (seen_at e n) → left ≡ after_work e n → seen ≡ seen_of left.table (stream_at left n).start step
    → seen ≡ seen_of (table_worked e.table (seen_at e n)) (worked e.table (seen_at e n)).start (work_step e.table (seen_at e n))
step_seen e left n step seen h step_is left_is seen_is =
    let pool : Option Pool = pool_of e (stream_at e n).domain in
    seen_is
    ∙ (λ i. seen_of (left_is i).table (stream_at (left_is i) n).start (step_is i))
    ∙ ap (λ start. seen_of (table_worked e.table (seen_at e n)) start (work_step e.table (seen_at e n)))
    (ap (λ (z : StreamState). z.start) (worked_there e n h) ∙ start_left e.table pool (stream_at e n))

-- a place that is there, whatever stands for one that is not
any_default : (xs : List Octets) (n : ℕ) (a b : Octets) → n < length xs → slice_index_or xs n a ≡ slice_index_or xs n b
any_default [] n a b h = absurd (omega (arith, h))
any_default (x ∷ xs) zero a b h = refl
any_default (x ∷ xs) (suc n) a b h = any_default xs n a b (omega (arith, h))

-- what was emitted goes out behind what was
pub emission_left : (s : EndState) (n : ℕ) (shown : Shown Octets) (left : EndpointState) (before beyond : Octets) → has_stream s.endpoint n ≡ true → length s.wires ≡ length s.endpoint.streams → shown ≡ shown_of s.endpoint.table (emission_at s.endpoint n) (emitted_at s.endpoint n)
    → left ≡ after_emit s.endpoint n → before ≡ slice_index_or s.wires n before → beyond ≡ before ++ emitted_at s.endpoint n → record { endpoint = left; wires = slice_set s.wires n beyond } ≡ end_after s (Stream n (Emit shown))
emission_left s n shown left before beyond h laid shown_is left_is before_is past_is =
    let octets : octets_shown shown ≡ emitted_at s.endpoint n = ap octets_shown shown_is ∙ shown_sends s.endpoint.table (stream_at s.endpoint n) in
    let endpoint_is = left_is ∙ sym (found (stream_of s.endpoint n) s.endpoint (after_emit s.endpoint n) h) in
    let number : n < length s.endpoint.streams = there s.endpoint.streams n h in
    let room : n < length s.wires = omega (arith, number, laid) in
    let first : before ≡ slice_index_or s.wires n [] = before_is ∙ any_default s.wires n before [] room in
    let wire_is = past_is ∙ (λ i. first i ++ sym octets i) in
    (λ i. record { endpoint = endpoint_is i; wires = slice_set s.wires n (wire_is i) })
