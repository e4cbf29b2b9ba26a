-- Where no region is limited to a stream, nothing depends on the numbers of streams.
use Rattle.std.proofs.Common.{◌≡◌, ℕ, ◌+◌, List, length, Option, Some, None, Result, Ok, Err, cond, eqb, refl, sym, ap, ◌∙◌}
use Rattle.std.specs.Prelude.{not, if◌then◌else◌}
use Rattle.std.specs.Option.{option_map, option_map_or}
use Rattle.iw_octets.specs.declared.fault.Fault.{Fault}
use Rattle.iw_octets.specs.declared.head.TaggedHead.{TaggedHead}
use Rattle.iw_octets.specs.declared.segment.Segment.{Segment}
use Rattle.iw_octets.specs.declared.segment.Segment.TheVariants.{Tagged, Untagged}
use Rattle.iw_octets.specs.declared.stag.Stag.{Stag}
use Rattle.iw_octets.specs.Segment.{read_segment}
use Rattle.iw_memory.specs.declared.peer.Peer.{Peer}
use Rattle.iw_memory.specs.declared.refusal.Deny.TheVariants as deny
use Rattle.iw_memory.specs.declared.refusal.InvalidateDeny.{InvalidateDeny}
use Rattle.iw_memory.specs.declared.refusal.InvalidateDeny.TheVariants as invalidate_deny
use Rattle.iw_memory.specs.declared.rights.Right.{Right}
use Rattle.iw_memory.specs.declared.rights.Right.TheVariants as rights
use Rattle.iw_memory.specs.Region.{Region, is_in_scope, region_denial, region_denial_for}
use Rattle.iw_memory.specs.Part.{own_region, region_invalidate_denial}
use Rattle.iw_memory.specs.Table.{Table, part_of, denial_for, invalidate_denial_for}
use Rattle.iw_rdmap.specs.declared.head.Head.{Head}
use Rattle.iw_rdmap.specs.declared.head.Head.TheVariants as heads
use Rattle.iw_reads.specs.declared.response.ResponsePart.{ResponsePart}
use Rattle.iw_reads.specs.Source as source
use Rattle.iw_reads.specs.Response.{fetched_octets}
use Rattle.iw_reads.specs.Outstanding.{sink_fault}
use Rattle.iw_startup.specs.declared.enhanced.Mismatch as enhanced
use Rattle.iw_startup.specs.declared.progress.Progress.{Progress}
use Rattle.iw_startup.specs.declared.progress.Progress.TheVariants as progress
use Rattle.iw_tagged.specs.Placing as placing
use Rattle.iw_tagged.specs.Placing.{placing_fault}
use Rattle.iw_untagged.specs.Receiving.{turn_fault}
use Rattle.iw_stream.specs.declared.landing.Landing.{Landing}
use Rattle.iw_stream.specs.declared.landing.Landing.TheVariants.{Write, Response, Send, Request, Terminate}
use Rattle.iw_stream.specs.declared.landing.PlacedFrame.{PlacedFrame}
use Rattle.iw_stream.specs.declared.landing.Turning.{Turning}
use Rattle.iw_stream.specs.declared.landing.Turning.TheVariants.{Passed, Completed, Answered}
use Rattle.iw_stream.specs.Frames.{Frame, payload_of, head_in, payload_len}
use Rattle.iw_stream.specs.Judging.{or_else, fault_or, place_in, place_verdict, head_verdict, judged_head, mismatch_fault, verdict, send_turning, invalidate_fault, invalidation_fault, segment_turn, turn_of, early_verdict, landing_in, may_be_early, table_tried}
use Rattle.iw_stream.specs.Starting.{first_place_in, heard, mismatch_in, progress_in}
use Rattle.iw_stream.specs.Stream.{StreamState, Due, peer_of, frame_of, frame_fetched, octets_fetched, emission_fetched, left_fetched, octets_due, emission_due, left_due, due, emission_of, emitted, after_emit}
use Rattle.iw_stream.specs.Stream.{StartUp, LastWord, Ready, NextPart, NoneDue, Response as ResponseDue}
use Rattle.iw_stream.specs.Work.{Task, HandOut, GiveUp, GiveBack, Hear, Turn, Clash, Judge, Try, Rest, task, standing, step_of, left_by, table_left, table_judged, table_passed, judged_step, tried_step, turned_step, after_judging, after_trying, after_turn, after_opening, after_hearing, hears, inbox, work_step, worked, table_worked}
use Rattle.iw_laws.specs.Words.{OnSome}
use Rattle.iw_laws.proofs.Unlimited.{IsFree, Unlimited, found_free}

-- ---- what a peer is denied

-- the streams of both numbers are denied the same
pub record SameDenials (t : Table) (p q : Peer) : Type 0 where
  pub denied : (stag : Stag) (to n : ℕ) (right : Right) → denial_for t q stag to n right ≡ denial_for t p stag to n right
  pub invalidate_denied : (stag : Stag) → invalidate_denial_for t q stag ≡ invalidate_denial_for t p stag

pub same_denials : (t : Table) (d : ℕ) (a b : Option ℕ) → Unlimited t → SameDenials t (record { domain = d; stream = a }) (record { domain = d; stream = b })
same_denials t d a b free = record {
  denied = λ stag to n right. ap (λ x. cond (eqb n 0) None (cond (not (eqb stag.domain d)) (Some deny.NotAssociated) x)) (region (own_region (part_of t d) stag) (found_free (part_of t d) stag (free d)) to n right);
  invalidate_denied = λ stag. ap (λ x. cond (not (eqb stag.domain d)) (Some invalidate_deny.NotAssociated) x) (region_invalid (own_region (part_of t d) stag) (found_free (part_of t d) stag (free d)));
}
  where
    one : (r : Region) → IsFree r → (to n : ℕ) (right : Right) → region_denial_for r b to n right ≡ region_denial_for r a to n right
    one r h to n right = ap (λ bound. cond (not (is_in_scope bound b)) (Some deny.NotAssociated) (region_denial r to n right)) h ∙ sym (ap (λ bound. cond (not (is_in_scope bound a)) (Some deny.NotAssociated) (region_denial r to n right)) h)

    region : (o : Option Region) → OnSome IsFree o → (to n : ℕ) (right : Right) → option_map_or (λ r. region_denial_for r b to n right) o (Some deny.Invalid) ≡ option_map_or (λ r. region_denial_for r a to n right) o (Some deny.Invalid)
    region None h to n right = refl
    region (Some r) h to n right = one r h to n right

    other : (r : Region) (x : Option ℕ) → Option InvalidateDeny
    other r x = region_invalidate_denial (record r { bound = None }) x

    region_invalid : (o : Option Region) → OnSome IsFree o → option_map_or (λ r. region_invalidate_denial r b) o (Some invalidate_deny.Invalid) ≡ option_map_or (λ r. region_invalidate_denial r a) o (Some invalidate_deny.Invalid)
    region_invalid None h = refl
    region_invalid (Some r) h = ap (λ bound. region_invalidate_denial (record r { bound = bound }) b) h ∙ sym (ap (λ bound. region_invalidate_denial (record r { bound = bound }) a) h)

-- ---- a stream under another number

-- the stream, under this number
abbrev pub under : Option ℕ → StreamState → StreamState
under number s = record s { number = number }

module _ (number : Option ℕ) (t : Table) (s : StreamState) (same : SameDenials t (peer_of s) (peer_of (under number s))) where
  abbrev other : StreamState
  other = under number s

  placing_same : (head : TaggedHead) (n : ℕ) (right : Right) → placing_fault t (peer_of other) head n right ≡ placing_fault t (peer_of s) head n right
  placing_same head n right = ap (option_map placing.denial_fault) (same.denied head.stag head.to n right)

  place_same : (head : Head) (n : ℕ) → place_verdict (standing t other) head n ≡ place_verdict (standing t s) head n
  place_same (heads.Write head) n = ap (λ o. fault_or o (Write (place_in head n))) (placing_same head n rights.Write)
  place_same (heads.Response head) n = ap (λ o. fault_or (or_else (sink_fault s.reads head n) o) (Response (place_in head n))) (placing_same head n rights.Sink)
  place_same (heads.Send head) n = refl
  place_same (heads.Request head request) n = ap (λ o. fault_or (option_map source.denial_fault o) (Request request)) (same.denied request.source request.source_to request.size rights.Read)
  place_same (heads.Terminate head word) n = refl

  head_same : (r : Result Head Fault) (n : ℕ) → head_verdict (standing t other) r n ≡ head_verdict (standing t s) r n
  head_same (Ok head) n = place_same head n
  head_same (Err fault) n = refl

  verdict_same : (frame : Frame) → verdict (standing t other) frame ≡ verdict (standing t s) frame
  verdict_same frame = ap (λ r. option_map_or (λ m. Err (mismatch_fault m)) frame.mismatch r) (head_same (judged_head (standing t s) frame.ulpdu) (length (payload_of (read_segment frame.ulpdu))))

  early_same : (frame : Frame) → early_verdict (standing t other) frame ≡ early_verdict (standing t s) frame
  early_same frame = ap (λ r. if may_be_early (judged_head (standing t s) frame.ulpdu) then landing_in r else None) (verdict_same frame)

  invalidation_same : (turning : Turning) → invalidation_fault t (peer_of other) turning ≡ invalidation_fault t (peer_of s) turning
  invalidation_same Passed = refl
  invalidation_same (Completed solicited None) = refl
  invalidation_same (Completed solicited (Some stag)) = ap (option_map invalidate_fault) (same.invalidate_denied stag)
  invalidation_same (Answered ticket) = refl

  segment_same : (n : ℕ) (segment : Option (Segment (List ℕ))) → segment_turn t (peer_of other) s.receiving s.reads n segment ≡ segment_turn t (peer_of s) s.receiving s.reads n segment
  segment_same n None = refl
  segment_same n (Some (Tagged head payload)) = refl
  segment_same n (Some (Untagged head payload)) = ap (λ o. fault_or (or_else (turn_fault s.receiving head.msn head.mo) o) (send_turning head)) (invalidation_same (send_turning head))

  turn_same : (frame : PlacedFrame) → turn_of (standing t other) frame ≡ turn_of (standing t s) frame
  turn_same frame = segment_same (payload_len frame) (head_in frame)

  -- a step of work
  pub step_same : work_step t other ≡ work_step t s
  step_same = go (task s)
    where
      go : (k : Task) → step_of t other k ≡ step_of t s k
      go (HandOut done) = refl
      go (GiveUp done) = refl
      go (GiveBack buffer) = refl
      go Hear = refl
      go (Turn frame) = ap (turned_step s.receiving frame) (turn_same frame)
      go (Clash frame) = refl
      go (Judge frame) = ap judged_step (verdict_same frame)
      go (Try frame) = ap (tried_step (first_place_in s.start + frame.start)) (early_same frame)
      go Rest = refl

  -- leaves the stream under its number
  turned_under : (frame : PlacedFrame) (r : Result Turning Fault) → after_turn other frame r ≡ under number (after_turn s frame r)
  turned_under frame (Ok Passed) = refl
  turned_under frame (Ok (Completed solicited invalidate)) = refl
  turned_under frame (Ok (Answered ticket)) = refl
  turned_under frame (Err fault) = refl

  judged_under : (frame : Frame) (r : Result Landing Fault) → after_judging other frame r ≡ under number (after_judging s frame r)
  judged_under frame (Ok (Write at)) = refl
  judged_under frame (Ok (Response at)) = refl
  judged_under frame (Ok (Send msn mo len)) = refl
  judged_under frame (Ok (Request request)) = refl
  judged_under frame (Ok (Terminate fault)) = refl
  judged_under frame (Err fault) = refl

  opening_under : (m : Option enhanced.Mismatch) → after_opening (hears other) m ≡ under number (after_opening (hears s) m)
  opening_under None = refl
  opening_under (Some mismatch) = refl

  hearing_under : (p : Progress) → after_hearing other p ≡ under number (after_hearing s p)
  hearing_under progress.More = refl
  hearing_under progress.Asked = refl
  hearing_under progress.Agreed = opening_under (mismatch_in (heard s.start (inbox s)))
  hearing_under (progress.Faulted fault) = refl

  pub worked_under : worked t other ≡ under number (worked t s)
  worked_under = go (task s)
    where
      go : (k : Task) → left_by t other k ≡ under number (left_by t s k)
      go (HandOut done) = refl
      go (GiveUp done) = refl
      go (GiveBack buffer) = refl
      go Hear = hearing_under (progress_in s.start (inbox s))
      go (Turn frame) = ap (after_turn other frame) (turn_same frame) ∙ turned_under frame (turn_of (standing t s) frame)
      go (Clash frame) = refl
      go (Judge frame) = ap (after_judging other frame) (verdict_same frame) ∙ judged_under frame (verdict (standing t s) frame)
      go (Try frame) = ap (after_trying other frame) (early_same frame)
      go Rest = refl

  pub table_same : table_worked t other ≡ table_worked t s
  table_same = go (task s)
    where
      go : (k : Task) → table_left t other k ≡ table_left t s k
      go (HandOut done) = refl
      go (GiveUp done) = refl
      go (GiveBack buffer) = refl
      go Hear = refl
      go (Turn frame) = ap (table_passed t) (turn_same frame)
      go (Clash frame) = refl
      go (Judge frame) = ap (table_judged t frame) (verdict_same frame)
      go (Try frame) = ap (table_tried t frame) (early_same frame)
      go Rest = refl

  -- an emission
  fetched_same : (part : ResponsePart) → frame_fetched t other part ≡ frame_fetched t s part
  fetched_same part = ap (λ o. fault_or o (frame_of s (Tagged part.head (fetched_octets t part)))) (ap (option_map source.denial_fault) (same.denied part.stag part.to part.n rights.Read))

  pub emission_same : emission_of t other ≡ emission_of t s
  emission_same = go (due s)
    where
      go : (k : Due) → emission_due t other k ≡ emission_due t s k
      go StartUp = refl
      go (LastWord payload) = refl
      go (Ready rtr) = refl
      go (ResponseDue part) = ap (emission_fetched s part) (fetched_same part)
      go (NextPart part) = refl
      go NoneDue = refl

  pub emitted_same : emitted t other ≡ emitted t s
  emitted_same = go (due s)
    where
      go : (k : Due) → octets_due t other k ≡ octets_due t s k
      go StartUp = refl
      go (LastWord payload) = refl
      go (Ready rtr) = refl
      go (ResponseDue part) = ap octets_fetched (fetched_same part)
      go (NextPart part) = refl
      go NoneDue = refl

  fetched_under : (part : ResponsePart) (r : Result (List ℕ) Fault) → left_fetched other part r ≡ under number (left_fetched s part r)
  fetched_under part (Ok frame) = refl
  fetched_under part (Err fault) = refl

  pub emit_under : after_emit t other ≡ under number (after_emit t s)
  emit_under = go (due s)
    where
      go : (k : Due) → left_due t other k ≡ under number (left_due t s k)
      go StartUp = refl
      go (LastWord payload) = refl
      go (Ready rtr) = refl
      go (ResponseDue part) = ap (left_fetched other part) (fetched_same part) ∙ fetched_under part (frame_fetched t s part)
      go (NextPart part) = refl
      go NoneDue = refl
