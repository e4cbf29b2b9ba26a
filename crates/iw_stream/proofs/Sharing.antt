-- A stream that shares a pool goes on sharing it, and one that shares none leaves a pool alone.
use Rattle.std.proofs.Common.{◌≡◌, ℕ, false, List, Option, Some, None, Result, Ok, Err, OnOk, OnErr, refl, ap, ◌∙◌}
use Rattle.iw_octets.specs.declared.fault.Fault.{Fault}
use Rattle.iw_octets.specs.declared.segment.Segment.{Segment}
use Rattle.iw_octets.specs.declared.segment.Segment.TheVariants.{Tagged, Untagged}
use Rattle.iw_memory.specs.Table.{Table}
use Rattle.iw_startup.specs.declared.enhanced.Mismatch.{Mismatch}
use Rattle.iw_startup.specs.declared.progress.Progress.{Progress}
use Rattle.iw_startup.specs.declared.progress.Progress.TheVariants as progress
use Rattle.iw_untagged.specs.Receiving.{Source, Posted, Pooled, Receiving, bound_to, exchanged, is_shared, seeing, shares_pool, shifted, without_first, written_in}
use Rattle.iw_stream.specs.declared.landing.Landing.{Landing}
use Rattle.iw_stream.specs.declared.landing.Landing.TheVariants.{Write, Response, Send, Request, Terminate}
use Rattle.iw_stream.specs.declared.landing.PlacedFrame.{PlacedFrame}
use Rattle.iw_stream.specs.declared.landing.Turning.{Turning}
use Rattle.iw_stream.specs.declared.landing.Turning.TheVariants.{Passed, Completed, Answered}
use Rattle.iw_stream.specs.Frames.{Frame, payload_len, payload_of, segment_in, head_in}
use Rattle.iw_stream.specs.Judging.{early_verdict, receiving_landed, turn_of, turned_by, verdict}
use Rattle.iw_stream.specs.Starting.{heard, mismatch_in, progress_in}
use Rattle.iw_stream.specs.Stream.{StreamState, sees, shares}
use Rattle.iw_stream.specs.Work.{Task, HandOut, GiveUp, GiveBack, Hear, Turn, Clash, Judge, Try, Rest, after_hearing, after_judging, after_opening, after_trying, after_turn, hears, inbox, left_by, standing, task, worked}

shifted_shares : (s : Source) → shares_pool (shifted s) ≡ shares_pool s
shifted_shares (Posted xs) = refl
shifted_shares (Pooled ps pool) = refl

flushed_shares : (s : Source) → shares_pool (without_first s) ≡ shares_pool s
flushed_shares (Posted xs) = refl
flushed_shares (Pooled ps pool) = refl

written_shares : (s : Source) (at mo : ℕ) (octets : List ℕ) → shares_pool (written_in (bound_to s at) at mo octets) ≡ shares_pool s
written_shares (Posted xs) at mo octets = refl
written_shares (Pooled ps pool) at mo octets = refl

seen_shares : (s : Source) (pool : List (List ℕ)) → shares_pool (seeing s pool) ≡ shares_pool s
seen_shares (Posted xs) pool = refl
seen_shares (Pooled ps held) pool = refl

-- ---- by what a step leaves
landed_shares : (r : Receiving) (payload : List ℕ) (at : Landing) → is_shared (receiving_landed r payload at) ≡ is_shared r
landed_shares r payload (Write at) = refl
landed_shares r payload (Response at) = refl
landed_shares r payload (Send msn mo len) = written_shares r.source _ mo payload
landed_shares r payload (Request request) = refl
landed_shares r payload (Terminate fault) = refl

turned_shares : (r : Receiving) (n : ℕ) (o : Option (Segment (List ℕ))) → is_shared (turned_by r n o) ≡ is_shared r
turned_shares r n None = refl
turned_shares r n (Some (Tagged head payload)) = refl
turned_shares r n (Some (Untagged head payload)) = refl

opening_shares : (s : StreamState) (o : Option Mismatch) → shares (after_opening s o) ≡ shares s
opening_shares s None = refl
opening_shares s (Some mismatch) = refl

hearing_shares : (s : StreamState) (p : Progress) → shares (after_hearing s p) ≡ shares s
hearing_shares s progress.More = refl
hearing_shares s progress.Asked = refl
hearing_shares s progress.Agreed = opening_shares (hears s) (mismatch_in (heard s.start (inbox s)))
hearing_shares s (progress.Faulted fault) = refl

turn_shares : (s : StreamState) (frame : PlacedFrame) (turning : Result Turning Fault) → shares (after_turn s frame turning) ≡ shares s
turn_shares s frame (Ok Passed) = turned_shares s.receiving (payload_len frame) (head_in frame)
turn_shares s frame (Ok (Completed solicited invalidate)) = shifted_shares s.receiving.source
turn_shares s frame (Ok (Answered ticket)) = refl
turn_shares s frame (Err fault) = refl

judged_shares : (s : StreamState) (frame : Frame) (at : Result Landing Fault) → shares (after_judging s frame at) ≡ shares s
judged_shares s frame (Ok (Write at)) = refl
judged_shares s frame (Ok (Response at)) = refl
judged_shares s frame (Ok (Send msn mo len)) = landed_shares s.receiving (payload_of (segment_in frame)) (Send msn mo len)
judged_shares s frame (Ok (Request request)) = refl
judged_shares s frame (Ok (Terminate fault)) = refl
judged_shares s frame (Err fault) = refl

tried_shares : (s : StreamState) (frame : Frame) (at : Option Landing) → shares (after_trying s frame at) ≡ shares s
tried_shares s frame None = refl
tried_shares s frame (Some at) = landed_shares s.receiving (payload_of (segment_in frame)) at

left_shares : (table : Table) (s : StreamState) (t : Task) → shares (left_by table s t) ≡ shares s
left_shares table s (HandOut done) = refl
left_shares table s (GiveUp done) = refl
left_shares table s (GiveBack buffer) = flushed_shares s.receiving.source
left_shares table s Hear = hearing_shares s (progress_in s.start (inbox s))
left_shares table s (Turn frame) = turn_shares s frame (turn_of (standing table s) frame)
left_shares table s (Clash frame) = refl
left_shares table s (Judge frame) = judged_shares s frame (verdict (standing table s) frame)
left_shares table s (Try frame) = tried_shares s frame (early_verdict (standing table s) frame)
left_shares table s Rest = refl

pub work_shares : (table : Table) (s : StreamState) → shares (worked table s) ≡ shares s
work_shares table s = left_shares table s (task s)

-- whether the step is done or out of memory
still_shares : {A E : Type 0} (table after : Table) (s new : StreamState) (r : Result A E) → OnOk r (new ≡ worked table s) → OnErr r ((new ≡ s) × (after ≡ table)) → shares new ≡ shares s
still_shares table after s new (Ok step) ok err = ap shares ok ∙ work_shares table s
still_shares table after s new (Err e) ok err = ap shares err.0

-- ---- and of the pool
taken_by_none : (s : Source) (pool : List (List ℕ)) → shares_pool s ≡ false → exchanged s pool ≡ pool
taken_by_none (Posted xs) pool none = refl
taken_by_none (Pooled ps held) pool none = absurd (let no : ⊥ = cc in no)

-- a stream that shares none gives back, before its step and after it, the pool that comes to be lent
pub left_alone : {A E : Type 0} (table after : Table) (s seen new : StreamState) (pool : List (List ℕ)) (r : Result A E) → seen ≡ sees s pool → OnOk r (new ≡ worked table seen) → OnErr r ((new ≡ seen) × (after ≡ table))
    → shares s ≡ false → exchanged new.receiving.source (exchanged s.receiving.source pool) ≡ pool
left_alone table after s seen new pool r is ok err none =
    taken_by_none new.receiving.source (exchanged s.receiving.source pool) (still_shares table after seen new r ok err ∙ ap shares is ∙ seen_shares s.receiving.source pool ∙ none) ∙ taken_by_none s.receiving.source pool none
