-- A step by which a stream has more of its pool's buffers bound than before placed octets of a Send.
use Rattle.std.proofs.Common.{◌≡◌, ℕ, zero, suc, ◌+◌, ◌≤◌, ◌⊎◌, inl, inr, Bool, true, false, cond, nat_lt, if◌then◌else◌, List, [], ◌∷◌, set, get_or, Option, Some, None, Result, Ok, Err, refl, sym, subst, ◌∙◌, arith}
use Rattle.std.specs.Prelude.{not, ◌&&◌, count_by, is_some, unwrap_or}
use Rattle.std.specs.List.{position_or_len}
use Rattle.std.proofs.lemmas.Bool.{true≢false}
use Rattle.std.proofs.lemmas.Bool.Decides.{nat_tests}
use Rattle.std.proofs.lemmas.List.Sums.{sum_by-cons, sum_by_push}
use Rattle.iw_octets.specs.declared.fault.Fault.{Fault}
use Rattle.iw_octets.specs.declared.segment.Segment.{Segment}
use Rattle.iw_octets.specs.declared.segment.Segment.TheVariants.{Tagged, Untagged}
use Rattle.iw_memory.specs.Table.{Table}
use Rattle.iw_startup.specs.declared.enhanced.Mismatch.{Mismatch}
use Rattle.iw_startup.specs.declared.progress.Progress.{Progress}
use Rattle.iw_startup.specs.declared.progress.Progress.TheVariants as progress
use Rattle.iw_untagged.specs.Receiving.{Source, Posted, Pooled, Receiving, exchanged, seeing, shifted, without_first}
use Rattle.iw_stream.specs.declared.answer.Step.{Step}
use Rattle.iw_stream.specs.declared.landing.Landing.{Landing}
use Rattle.iw_stream.specs.declared.landing.Landing.TheVariants.{Write, Response, Send, Request, Terminate}
use Rattle.iw_stream.specs.declared.landing.PlacedFrame.{PlacedFrame}
use Rattle.iw_stream.specs.declared.landing.Turning.{Turning}
use Rattle.iw_stream.specs.declared.landing.Turning.TheVariants.{Passed, Completed, Answered}
use Rattle.iw_stream.specs.Frames.{Frame, payload_len, head_in}
use Rattle.iw_stream.specs.Judging.{early_verdict, turn_of, turned_by, verdict}
use Rattle.iw_stream.specs.Pooling.{bound_in, bound_buffers}
use Rattle.iw_stream.specs.Starting.{first_place_in, heard, mismatch_in, progress_in}
use Rattle.iw_stream.specs.Stream.{StreamState, sees}
use Rattle.iw_stream.specs.Work.{Task, HandOut, GiveUp, GiveBack, Hear, Turn, Clash, Judge, Try, Rest, after_hearing, after_judging, after_opening, after_trying, after_turn, hears, inbox, judged_step, left_by, standing, step_of, task, tried_step, work_step, worked}
use Rattle.iw_endpoint.specs.Endpoint.{EndpointState, Pool, answer_at, has_stream, left_of, lent_to, pool_of, stream_at, stream_of, unopened, step_at, after_work}
use Rattle.iw_endpoint.specs.Sharing.{bound_at, emptied, has_fewer, step_alone, after_work_alone, step_within, after_work_within}
use Rattle.iw_connection.specs.Marking.{IsBuffered, passes_mark}
use Rattle.iw_connection.proofs.There.{put_there}

-- no more are bound than before, or octets of a Send were placed
abbrev FewOr : StreamState → StreamState → Step (List ℕ) → Type 0
FewOr s new step = (bound_buffers new ≤ bound_buffers s) ⊎ IsBuffered step

-- ---- of a queue
abbrev one : Option (List ℕ) → ℕ
one o = cond (is_some o) 1 0

none_fewer : (ps : List (Option (List ℕ))) (i : ℕ) → count_by is_some (set ps i None) ≤ count_by is_some ps
none_fewer [] zero = omega arith
none_fewer [] (suc i) = omega arith
none_fewer (p ∷ ps) zero = let none : Option (List ℕ) = None in omega (arith, sum_by-cons one none ps, sum_by-cons one p ps)
none_fewer (p ∷ ps) (suc i) = omega (arith, sum_by-cons one p (set ps i None), sum_by-cons one p ps, none_fewer ps i)

shifted_fewer : (s : Source) → bound_in (shifted s) ≤ bound_in s
shifted_fewer (Posted xs) = omega arith
shifted_fewer (Pooled [] pool) = omega arith
shifted_fewer (Pooled (p ∷ ps) pool) = let none : Option (List ℕ) = None in omega (arith, sum_by-cons one p ps, sum_by_push one ps none)

flushed_fewer : (s : Source) → bound_in (without_first s) ≤ bound_in s
flushed_fewer (Posted xs) = omega arith
flushed_fewer (Pooled ps pool) = none_fewer ps (position_or_len is_some ps)

as_many : (s : Source) → bound_in s ≤ bound_in s
as_many s = omega arith

-- ---- of a step
turned_fewer : (r : Receiving) (n : ℕ) (o : Option (Segment (List ℕ))) → bound_in (turned_by r n o).source ≤ bound_in r.source
turned_fewer r n None = as_many r.source
turned_fewer r n (Some (Tagged head payload)) = as_many r.source
turned_fewer r n (Some (Untagged head payload)) = as_many r.source

opened_fewer : (s : StreamState) (o : Option Mismatch) → bound_buffers (after_opening s o) ≤ bound_buffers s
opened_fewer s None = as_many s.receiving.source
opened_fewer s (Some mismatch) = as_many s.receiving.source

heard_fewer : (s : StreamState) (p : Progress) → bound_buffers (after_hearing s p) ≤ bound_buffers s
heard_fewer s progress.More = as_many s.receiving.source
heard_fewer s progress.Asked = as_many s.receiving.source
heard_fewer s progress.Agreed = opened_fewer (hears s) (mismatch_in (heard s.start (inbox s)))
heard_fewer s (progress.Faulted fault) = as_many s.receiving.source

turn_fewer : (s : StreamState) (frame : PlacedFrame) (turning : Result Turning Fault) → bound_buffers (after_turn s frame turning) ≤ bound_buffers s
turn_fewer s frame (Ok Passed) = turned_fewer s.receiving (payload_len frame) (head_in frame)
turn_fewer s frame (Ok (Completed solicited invalidate)) = shifted_fewer s.receiving.source
turn_fewer s frame (Ok (Answered ticket)) = as_many s.receiving.source
turn_fewer s frame (Err fault) = as_many s.receiving.source

judged_few_or : (s : StreamState) (frame : Frame) (at : Result Landing Fault) → FewOr s (after_judging s frame at) (judged_step at)
judged_few_or s frame (Ok (Write at)) = inl (as_many s.receiving.source)
judged_few_or s frame (Ok (Response at)) = inl (as_many s.receiving.source)
judged_few_or s frame (Ok (Send msn mo len)) = inr (record { msn = msn; mo = mo; len = len; is = refl })
judged_few_or s frame (Ok (Request request)) = inl (as_many s.receiving.source)
judged_few_or s frame (Ok (Terminate fault)) = inl (as_many s.receiving.source)
judged_few_or s frame (Err fault) = inl (as_many s.receiving.source)

tried_few_or : (s : StreamState) (frame : Frame) (place : ℕ) (at : Option Landing) → FewOr s (after_trying s frame at) (tried_step place at)
tried_few_or s frame place None = inl (as_many s.receiving.source)
tried_few_or s frame place (Some (Write at)) = inl (as_many s.receiving.source)
tried_few_or s frame place (Some (Response at)) = inl (as_many s.receiving.source)
tried_few_or s frame place (Some (Send msn mo len)) = inr (record { msn = msn; mo = mo; len = len; is = refl })
tried_few_or s frame place (Some (Request request)) = inl (as_many s.receiving.source)
tried_few_or s frame place (Some (Terminate fault)) = inl (as_many s.receiving.source)

few_or : (table : Table) (s : StreamState) (t : Task) → FewOr s (left_by table s t) (step_of table s t)
few_or table s (HandOut done) = inl (as_many s.receiving.source)
few_or table s (GiveUp done) = inl (as_many s.receiving.source)
few_or table s (GiveBack buffer) = inl (flushed_fewer s.receiving.source)
few_or table s Hear = inl (heard_fewer s (progress_in s.start (inbox s)))
few_or table s (Turn frame) = inl (turn_fewer s frame (turn_of (standing table s) frame))
few_or table s (Clash frame) = inl (as_many s.receiving.source)
few_or table s (Judge frame) = judged_few_or s frame (verdict (standing table s) frame)
few_or table s (Try frame) = tried_few_or s frame (first_place_in s.start + frame.start) (early_verdict (standing table s) frame)
few_or table s Rest = inl (as_many s.receiving.source)

-- ---- while a pool is lent
seen_as_many : (s : Source) (pool : List (List ℕ)) → bound_in (seeing s pool) ≡ bound_in s
seen_as_many (Posted xs) pool = refl
seen_as_many (Pooled ps held) pool = refl

few_left : (table : Table) (o : Option Pool) (s : StreamState) → FewOr s (left_of table o s) (work_step table (lent_to o s))
few_left table None s = few_or table s (task s)
few_left table (Some pool) s = go (few_or table (sees s pool) (task (sees s pool)))
  where
    go : FewOr (sees s pool) (worked table (sees s pool)) (work_step table (sees s pool)) → FewOr s (left_of table (Some pool) s) (work_step table (sees s pool))
    go (inl few) = inl (omega (arith, few, seen_as_many s.receiving.source pool, seen_as_many (worked table (sees s pool)).receiving.source (exchanged s.receiving.source pool)))
    go (inr placed) = inr placed

-- ---- at an endpoint
placed_by : (step other : Step (List ℕ)) → step ≡ other → IsBuffered other → IsBuffered step
placed_by step other is placed = record { msn = placed.msn; mo = placed.mo; len = placed.len; is = is ∙ placed.is }

-- of the stream that is there, which is lent what `lend` makes of its domain's pool
lent_few_or : (e : EndpointState) (number : ℕ) (lend : Option Pool → Option Pool) (step : Step (List ℕ)) → has_stream e number ≡ true →
    Ok step ≡ answer_at (stream_of e number) (λ s. work_step e.table (lent_to (lend (pool_of e s.domain)) s)) →
    FewOr (stream_at e number) (left_of e.table (lend (pool_of e (stream_at e number).domain)) (stream_at e number)) step
lent_few_or e number lend step there is = go (stream_of e number) there is
  where
    by : (s : StreamState) → step ≡ work_step e.table (lent_to (lend (pool_of e s.domain)) s) → FewOr s (left_of e.table (lend (pool_of e s.domain)) s) (work_step e.table (lent_to (lend (pool_of e s.domain)) s))
        → FewOr s (left_of e.table (lend (pool_of e s.domain)) s) step
    by s is (inl few) = inl few
    by s is (inr placed) = inr (placed_by step (work_step e.table (lent_to (lend (pool_of e s.domain)) s)) is placed)

    go : (o : Option StreamState) → is_some o ≡ true → Ok step ≡ answer_at o (λ s. work_step e.table (lent_to (lend (pool_of e s.domain)) s)) →
        FewOr (unwrap_or o unopened) (left_of e.table (lend (pool_of e (unwrap_or o unopened).domain)) (unwrap_or o unopened)) step
    go None some is = absurd (true≢false (sym some))
    go (Some s) some is = by s (cc) (few_left e.table (lend (pool_of e s.domain)) s)

-- the stream that is put at its number is the one that is found there
found_few_or : (e : EndpointState) (number : ℕ) (s : StreamState) (step : Step (List ℕ)) → has_stream e number ≡ true → FewOr (stream_at e number) s step →
    (bound_buffers (unwrap_or (get_or (set e.streams number (Some s)) number None) unopened) ≤ bound_at e number) ⊎ IsBuffered step
found_few_or e number s step there (inl few) = inl (subst (λ o. bound_buffers (unwrap_or o unopened) ≤ bound_at e number) (sym (put_there e number s there)) few)
found_few_or e number s step there (inr placed) = inr placed

few_within : (e : EndpointState) (number share : ℕ) (step : Step (List ℕ)) → has_stream e number ≡ true → Ok step ≡ step_within e number share →
    (bound_at (after_work_within e number share) number ≤ bound_at e number) ⊎ IsBuffered step
few_within e number share step there is = go (has_fewer e number share) is
  where
    go : (fewer : Bool) → Ok step ≡ (if fewer then step_at e number else step_alone e number) →
        (bound_at (if fewer then after_work e number else after_work_alone e number) number ≤ bound_at e number) ⊎ IsBuffered step
    go true is =
        let s = stream_at e number in
        found_few_or e number (left_of e.table (pool_of e s.domain) s) step there (lent_few_or e number (λ p. p) step there is)
    go false is =
        let s = stream_at e number in
        found_few_or e number (left_of e.table (emptied (pool_of e s.domain)) s) step there (lent_few_or e number emptied step there is)

not_passed : (mark before after : ℕ) → (not (nat_lt mark before) && nat_lt mark after) ≡ true → after ≤ before → ⊥
not_passed mark before after passed few = grind (arith, nat_tests)

pub passes_buffered : (e : EndpointState) (number share mark : ℕ) (step : Step (List ℕ)) → has_stream e number ≡ true → Ok step ≡ step_within e number share →
    passes_mark e number share mark ≡ true → IsBuffered step
passes_buffered e number share mark step there is passed = go (few_within e number share step there is)
  where
    go : (bound_at (after_work_within e number share) number ≤ bound_at e number) ⊎ IsBuffered step → IsBuffered step
    go (inl few) = absurd (not_passed mark (bound_at e number) (bound_at (after_work_within e number share) number) passed few)
    go (inr placed) = placed
