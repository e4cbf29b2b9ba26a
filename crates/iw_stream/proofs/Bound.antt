-- How many buffers are bound to a stream's messages after a step: no more than before, and one that the pool gave.
use Rattle.std.proofs.Common.{◌≡◌, ℕ, zero, suc, ◌+◌, ◌≤◌, cond, List, [], ◌∷◌, set, get_or, Option, Some, None, Result, Ok, Err, refl, arith}
use Rattle.std.specs.Prelude.{count_by, is_some}
use Rattle.std.specs.List.{position_or_len}
use Rattle.std.specs.Option.{option_map}
use Rattle.std.proofs.lemmas.List.Sums.{sum_by-cons, sum_by_push}
use Rattle.iw_octets.specs.declared.fault.Fault.{Fault}
use Rattle.iw_octets.specs.Octets.{splice}
use Rattle.iw_octets.specs.declared.segment.Segment.{Segment}
use Rattle.iw_octets.specs.declared.segment.Segment.TheVariants.{Tagged, Untagged}
use Rattle.iw_memory.specs.Table.{Table}
use Rattle.iw_startup.specs.declared.enhanced.Mismatch.{Mismatch}
use Rattle.iw_startup.specs.declared.progress.Progress.{Progress}
use Rattle.iw_startup.specs.declared.progress.Progress.TheVariants as progress
use Rattle.iw_untagged.specs.Receiving.{Source, Posted, Pooled, Receiving, bound_to, buffer_for, exchanged, pool_in, seeing, shifted, without_first, written_in}
use Rattle.iw_stream.specs.declared.landing.Landing.{Landing}
use Rattle.iw_stream.specs.declared.landing.Landing.TheVariants.{Write, Response, Send, Request, Terminate}
use Rattle.iw_stream.specs.declared.landing.PlacedFrame.{PlacedFrame}
use Rattle.iw_stream.specs.declared.landing.Turning.{Turning}
use Rattle.iw_stream.specs.declared.landing.Turning.TheVariants.{Passed, Completed, Answered}
use Rattle.iw_stream.specs.Frames.{Frame, payload_len, payload_of, segment_in, head_in}
use Rattle.iw_stream.specs.Judging.{early_verdict, receiving_landed, turn_of, turned_by, verdict}
use Rattle.iw_stream.specs.Pooling.{bound_in, bound_buffers}
use Rattle.iw_stream.specs.Starting.{heard, mismatch_in, progress_in}
use Rattle.iw_stream.specs.Stream.{StreamState, sees}
use Rattle.iw_stream.specs.Work.{Task, HandOut, GiveUp, GiveBack, Hear, Turn, Clash, Judge, Try, Rest, after_hearing, after_judging, after_opening, after_trying, after_turn, hears, inbox, left_by, standing, task, worked, worked_with}

-- ---- of one place, and of places
abbrev one : Option (List ℕ) → ℕ
one o = cond (is_some o) 1 0

abbrev counted : List (Option (List ℕ)) → ℕ
counted ps = count_by is_some ps

-- how many buffers a step takes out of the pool at most
abbrev pub spare : List (List ℕ) → ℕ
spare [] = 0
spare (b ∷ bs) = 1

counted-set : (ps : List (Option (List ℕ))) (i : ℕ) (o : Option (List ℕ)) → counted (set ps i o) + one (get_or ps i None) ≤ counted ps + one o
counted-set [] zero o = omega arith
counted-set [] (suc i) o = omega arith
counted-set (p ∷ ps) zero o = omega (arith, sum_by-cons one o ps, sum_by-cons one p ps)
counted-set (p ∷ ps) (suc i) o = omega (arith, sum_by-cons one p (set ps i o), sum_by-cons one p ps, counted-set ps i o)

one_for : (ps : List (Option (List ℕ))) (pool : List (List ℕ)) (i : ℕ) → one (buffer_for (Pooled ps pool) i) ≤ one (get_or ps i None) + spare pool
one_for [] pool i = omega arith
one_for (None ∷ ps) [] zero = omega arith
one_for (None ∷ ps) (b ∷ bs) zero = omega arith
one_for (Some x ∷ ps) pool zero = omega arith
one_for (p ∷ ps) pool (suc i) = one_for ps pool i

one_map : (f : List ℕ → List ℕ) (o : Option (List ℕ)) → one (option_map f o) ≡ one o
one_map f None = refl
one_map f (Some x) = refl

map_few : (ps : List (Option (List ℕ))) (i : ℕ) (f : List ℕ → List ℕ) → counted (set ps i (option_map f (get_or ps i None))) ≤ counted ps
map_few ps i f = omega (arith, counted-set ps i (option_map f (get_or ps i None)), one_map f (get_or ps i None))

none_few : (ps : List (Option (List ℕ))) (i : ℕ) → counted (set ps i None) ≤ counted ps
none_few ps i = omega (arith, counted-set ps i None)

-- ---- of a queue
bound_few : (s : Source) (i : ℕ) → bound_in (bound_to s i) ≤ bound_in s + spare (pool_in s)
bound_few (Posted xs) i = omega arith
bound_few (Pooled ps pool) i = omega (arith, counted-set ps i (buffer_for (Pooled ps pool) i), one_for ps pool i)

put_few : (s : Source) (i mo : ℕ) (octets : List ℕ) → bound_in (written_in s i mo octets) ≤ bound_in s
put_few (Posted xs) i mo octets = omega arith
put_few (Pooled ps pool) i mo octets = map_few ps i (λ buffer. splice buffer mo octets)

written_few : (s : Source) (i mo : ℕ) (octets : List ℕ) → bound_in (written_in (bound_to s i) i mo octets) ≤ bound_in s + spare (pool_in s)
written_few s i mo octets = omega (arith, put_few (bound_to s i) i mo octets, bound_few s i)

shifted_few : (s : Source) → bound_in (shifted s) ≤ bound_in s + spare (pool_in s)
shifted_few (Posted xs) = omega arith
shifted_few (Pooled [] pool) = omega arith
shifted_few (Pooled (p ∷ ps) pool) = omega (arith, sum_by-cons one p ps, sum_by_push one ps None)

flushed_few : (s : Source) → bound_in (without_first s) ≤ bound_in s + spare (pool_in s)
flushed_few (Posted xs) = omega arith
flushed_few (Pooled ps pool) = let fewer = none_few ps (position_or_len is_some ps) in omega (arith, fewer)

same_few : (s : Source) → bound_in s ≤ bound_in s + spare (pool_in s)
same_few s = omega arith

-- ---- by what a step leaves
abbrev IsFew : StreamState → StreamState → Type 0
IsFew s new = bound_buffers new ≤ bound_buffers s + spare (pool_in s.receiving.source)

landed_few : (r : Receiving) (payload : List ℕ) (at : Landing) → bound_in (receiving_landed r payload at).source ≤ bound_in r.source + spare (pool_in r.source)
landed_few r payload (Write at) = same_few r.source
landed_few r payload (Response at) = same_few r.source
landed_few r payload (Send msn mo len) = written_few r.source _ mo payload
landed_few r payload (Request request) = same_few r.source
landed_few r payload (Terminate fault) = same_few r.source

turned_few : (r : Receiving) (n : ℕ) (o : Option (Segment (List ℕ))) → bound_in (turned_by r n o).source ≤ bound_in r.source + spare (pool_in r.source)
turned_few r n None = same_few r.source
turned_few r n (Some (Tagged head payload)) = same_few r.source
turned_few r n (Some (Untagged head payload)) = same_few r.source

opening_few : (s : StreamState) (o : Option Mismatch) → IsFew s (after_opening s o)
opening_few s None = same_few s.receiving.source
opening_few s (Some mismatch) = same_few s.receiving.source

hearing_few : (s : StreamState) (p : Progress) → IsFew s (after_hearing s p)
hearing_few s progress.More = same_few s.receiving.source
hearing_few s progress.Asked = same_few s.receiving.source
hearing_few s progress.Agreed = opening_few (hears s) (mismatch_in (heard s.start (inbox s)))
hearing_few s (progress.Faulted fault) = same_few s.receiving.source

turn_few : (s : StreamState) (frame : PlacedFrame) (turning : Result Turning Fault) → IsFew s (after_turn s frame turning)
turn_few s frame (Ok Passed) = turned_few s.receiving (payload_len frame) (head_in frame)
turn_few s frame (Ok (Completed solicited invalidate)) = shifted_few s.receiving.source
turn_few s frame (Ok (Answered ticket)) = same_few s.receiving.source
turn_few s frame (Err fault) = same_few s.receiving.source

judged_few : (s : StreamState) (frame : Frame) (at : Result Landing Fault) → IsFew s (after_judging s frame at)
judged_few s frame (Ok (Write at)) = same_few s.receiving.source
judged_few s frame (Ok (Response at)) = same_few s.receiving.source
judged_few s frame (Ok (Send msn mo len)) = landed_few s.receiving (payload_of (segment_in frame)) (Send msn mo len)
judged_few s frame (Ok (Request request)) = same_few s.receiving.source
judged_few s frame (Ok (Terminate fault)) = same_few s.receiving.source
judged_few s frame (Err fault) = same_few s.receiving.source

tried_few : (s : StreamState) (frame : Frame) (at : Option Landing) → IsFew s (after_trying s frame at)
tried_few s frame None = same_few s.receiving.source
tried_few s frame (Some at) = landed_few s.receiving (payload_of (segment_in frame)) at

left_few : (table : Table) (s : StreamState) (t : Task) → IsFew s (left_by table s t)
left_few table s (HandOut done) = same_few s.receiving.source
left_few table s (GiveUp done) = same_few s.receiving.source
left_few table s (GiveBack buffer) = flushed_few s.receiving.source
left_few table s Hear = hearing_few s (progress_in s.start (inbox s))
left_few table s (Turn frame) = turn_few s frame (turn_of (standing table s) frame)
left_few table s (Clash frame) = same_few s.receiving.source
left_few table s (Judge frame) = judged_few s frame (verdict (standing table s) frame)
left_few table s (Try frame) = tried_few s frame (early_verdict (standing table s) frame)
left_few table s Rest = same_few s.receiving.source

-- ---- while a pool is lent
seen_as_many : (s : Source) (pool : List (List ℕ)) → bound_in (seeing s pool) ≡ bound_in s
seen_as_many (Posted xs) pool = refl
seen_as_many (Pooled ps held) pool = refl

seen_spare : (s : Source) (pool : List (List ℕ)) → spare (pool_in (seeing s pool)) ≤ spare pool
seen_spare (Posted xs) pool = omega arith
seen_spare (Pooled ps held) pool = omega arith

pub worked_few : (table : Table) (s : StreamState) (pool : List (List ℕ)) → bound_buffers (worked_with table s pool) ≤ bound_buffers s + spare pool
worked_few table s pool =
    let seen = sees s pool in
    omega (arith, seen_as_many (worked table seen).receiving.source (exchanged s.receiving.source pool), left_few table seen (task seen), seen_as_many s.receiving.source pool, seen_spare s.receiving.source pool)
