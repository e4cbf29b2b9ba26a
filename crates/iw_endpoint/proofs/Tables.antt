-- What the rules of a stream read and change of the regions is what its peer may use.
use Rattle.std.proofs.Common.{◌≡◌, ◌≢◌, ℕ, ◌+◌, ◌-◌, Bool, true, false, List, [], length, Option, Some, None, Result, Ok, Err, refl, sym, ap, subst, ◌∙◌, arith, inl, inr}
use Rattle.std.specs.Prelude.{not, if◌then◌else◌}
use Rattle.std.specs.Option.{option_map, option_map_or}
use Rattle.std.proofs.lemmas.List.{get_or_past}
use Rattle.std.proofs.lemmas.Option.{none-some}
use Rattle.std.proofs.lemmas.Bool.{cases_lt}
use Rattle.std.proofs.lemmas.Bool.Decides.{eqb_tells}
use Rattle.iw_octets.specs.declared.fault.Fault.{Fault}
use Rattle.iw_octets.specs.declared.head.TaggedHead.{TaggedHead}
use Rattle.iw_octets.specs.declared.segment.Segment.{Segment}
use Rattle.iw_octets.specs.declared.segment.Segment.TheVariants.{Tagged, Untagged}
use Rattle.iw_octets.specs.declared.stag.Stag.{Stag}
use Rattle.iw_octets.specs.Segment.{read_segment}
use Rattle.iw_octets.proofs.Segments.{length-segment_octets_tagged}
use Rattle.iw_memory.specs.declared.peer.Peer.{Peer}
use Rattle.iw_memory.specs.declared.refusal.InvalidateDeny.TheVariants.{NotAssociated, Invalid}
use Rattle.iw_memory.specs.declared.rights.Right.{Right}
use Rattle.iw_memory.specs.declared.rights.Right.TheVariants as rights
use Rattle.iw_memory.specs.Laws.{AnswersAlike}
use Rattle.iw_memory.specs.Part.{Part, own_put, own_invalidated, own_region, own_denial_for, own_invalidate_denial_for, region_invalidate_denial}
use Rattle.iw_memory.specs.Region.{Region, octets_from}
use Rattle.iw_memory.specs.Table.{Table, part_of, with_part, put, denial_for, invalidate_denial_for, invalidated, region_at, octets_at}
use Rattle.iw_memory.proofs.Callers.{length-with_part, part_of-with_part_same, part_of-with_part_other, allows, no_octets, length-octets_at}
use Rattle.iw_memory.proofs.TableLemmas.{put-nothing}
use Rattle.iw_fpdu.specs.declared.fpdu.Mismatch.{Mismatch}
use Rattle.iw_fpdu.specs.Frame.{frame_end}
use Rattle.iw_rdmap.specs.declared.head.Head.{Head}
use Rattle.iw_rdmap.specs.declared.head.Head.TheVariants as heads
use Rattle.iw_reads.specs.declared.response.ResponsePart.{ResponsePart}
use Rattle.iw_reads.specs.Source as source
use Rattle.iw_reads.specs.Response.{fetch_fault, fetched_octets}
use Rattle.iw_reads.specs.declared.reads.Outstanding.{Outstanding}
use Rattle.iw_reads.specs.Requests.{part_fetched}
use Rattle.iw_reads.specs.Outstanding.{sink_fault, response_turn_fault, finished_read}
use Rattle.iw_tagged.specs.Placing as placing
use Rattle.iw_tagged.specs.Placing.{placing_fault}
use Rattle.iw_untagged.specs.Receiving.{Receiving, buffer_fault, turn_fault}
use Rattle.iw_stream.specs.declared.landing.Landing.{Landing}
use Rattle.iw_stream.specs.declared.landing.Landing.TheVariants.{Write, Response, Send, Request, Terminate}
use Rattle.iw_stream.specs.declared.landing.PlacedFrame.{PlacedFrame}
use Rattle.iw_stream.specs.declared.landing.Turning.{Turning}
use Rattle.iw_stream.specs.declared.landing.Turning.TheVariants.{Passed, Completed, Answered}
use Rattle.iw_startup.specs.declared.enhanced.Mismatch as enhanced
use Rattle.iw_startup.specs.declared.progress.Progress.{Progress}
use Rattle.iw_startup.specs.declared.progress.Progress.TheVariants as progress
use Rattle.iw_stream.specs.Frames.{Frame, payload_of, segment_in, head_in, payload_len}
use Rattle.iw_stream.specs.Judging.{or_else, fault_or, fault_told, place_in, place_verdict, head_verdict, judged_head, mismatch_fault, verdict, table_landed, send_turning, invalidate_fault, invalidation_fault, answering_by, is_response, segment_turn, turn_of, table_turned, early_verdict, landing_in, may_be_early, table_tried}
use Rattle.iw_stream.specs.declared.answer.Emission.TheVariants.{Fetched}
use Rattle.iw_stream.specs.Starting.{first_place_in, first_place_out, sending, heard, mismatch_in, progress_in}
use Rattle.iw_stream.specs.Stream.{StreamState, Due, peer_of, frame_fetched, frame_of, octets_fetched, emission_fetched, left_fetched, octets_due, emission_due, left_due, due, emission_of, emitted, after_emit}
use Rattle.iw_stream.specs.Stream.{StartUp, LastWord, Ready, NextPart, NoneDue, Response as ResponseDue}
use Rattle.iw_stream.proofs.Lengths.{length-frame_of}
use Rattle.iw_stream.specs.Work.{Task, HandOut, GiveUp, GiveBack, Hear, Turn, Clash, Judge, Try, Rest, task, standing, step_of, left_by, table_left, table_judged, table_passed, judged_step, tried_step, turned_step, after_judging, after_trying, after_turn, after_opening, after_hearing, hears, inbox, work_step, worked, table_worked}

-- ---- two tables that are alike in one domain's part

pub record AreAlike (d : ℕ) (t u : Table) : Type 0 where
  pub size : length t ≡ length u
  pub part : part_of t d ≡ part_of u d

alike-back : (d : ℕ) (t u : Table) → AreAlike d t u → AreAlike d u t
alike-back d t u h = record { size = sym h.size; part = sym h.part }

-- the same step on both leaves them alike
pub alike-step : (d : ℕ) (t u : Table) (own : Part → Part) → AreAlike d t u → AreAlike d (with_part t d (own (part_of t d))) (with_part u d (own (part_of u d)))
alike-step d t u own h = record {
  size = length-with_part t d _ ∙ h.size ∙ sym (length-with_part u d _);
  part = elim (cases_lt d (length t)) [
    | inl within ↦ part_of-with_part_same t d _ within ∙ ap own h.part ∙ sym (part_of-with_part_same u d _ (omega (arith, within, h.size)))
    | inr past ↦
        get_or_past (with_part t d (own (part_of t d))) d None (omega (arith, past, length-with_part t d (own (part_of t d))))
        ∙ sym (get_or_past (with_part u d (own (part_of u d))) d None (omega (arith, past, h.size, length-with_part u d (own (part_of u d)))))
  ];
}

-- a change of another domain's part leaves them alike
alike-other : (d e : ℕ) (t u : Table) (p q : Part) → d ≢ e → AreAlike d t u → AreAlike d (with_part t e p) (with_part u e q)
alike-other d e t u p q ne h = record {
  size = length-with_part t e p ∙ h.size ∙ sym (length-with_part u e q);
  part = part_of-with_part_other t e d p ne ∙ h.part ∙ sym (part_of-with_part_other u e d q ne);
}

-- the same step on any domain's part leaves them alike
pub alike-own : (d e : ℕ) (t u : Table) (own : Part → Part) → AreAlike d t u → AreAlike d (with_part t e (own (part_of t e))) (with_part u e (own (part_of u e)))
alike-own d e t u own h = elim (eqb_tells e d) [
  | inl here ↦ subst (λ (x : ℕ). AreAlike d (with_part t x (own (part_of t x))) (with_part u x (own (part_of u x)))) (sym here.1) (alike-step d t u own h)
  | inr off ↦ alike-other d e t u _ _ (λ e. off.1 (sym e)) h
]

-- ---- what the STags of the domain name

pub region-alike : (d : ℕ) (t u : Table) (stag : Stag) → stag.domain ≡ d → AreAlike d t u → region_at t stag ≡ region_at u stag
region-alike d t u stag here h =
    ap (λ e. own_region (part_of t e) stag) here ∙ ap (λ part. own_region part stag) h.part ∙ ap (λ e. own_region (part_of u e) stag) (sym here)

pub none_taken : (o : Option Region) (to n : ℕ) → n ≡ 0 → option_map_or (λ r. octets_from r to n) o [] ≡ []
none_taken None to n none = refl
none_taken (Some r) to n none = ap (λ n. octets_from r to n) none

pub octets-alike : (peer : Peer) (t u : Table) (stag : Stag) (to n : ℕ) (right : Right) → denial_for t peer stag to n right ≡ None → AreAlike peer.domain t u → octets_at t stag to n ≡ octets_at u stag to n
octets-alike peer t u stag to n right none h = elim (allows t peer stag to n right none) [
  | inl nothing ↦ none_taken (region_at t stag) to n nothing ∙ sym (none_taken (region_at u stag) to n nothing)
  | inr allowed ↦ ap (λ o. option_map_or (λ r. octets_from r to n) o []) (region-alike peer.domain t u stag allowed.0 h)
]

-- ---- what the checks read

-- the peer is denied the same by both
pub record DeniesAlike (old new : Table) (peer : Peer) : Type 0 where
  pub denied : (stag : Stag) (to n : ℕ) (right : Right) → denial_for new peer stag to n right ≡ denial_for old peer stag to n right
  pub invalidate_denied : (stag : Stag) → invalidate_denial_for new peer stag ≡ invalidate_denial_for old peer stag

pub denies : {old new : Table} {peer : Peer} → AnswersAlike old new peer → DeniesAlike old new peer
denies h = record { denied = h.denied; invalidate_denied = h.invalidate_denied }

-- a peer is answered alike by tables that are alike in its domain's part
pub answers-own : (d : ℕ) (stream : Option ℕ) (t u : Table) → AreAlike d t u → AnswersAlike u t (record { domain = d; stream = stream })
answers-own d stream t u h = record {
  denied = λ stag to n right. ap (λ part. own_denial_for part (record { domain = d; stream = stream }) stag to n right) h.part;
  invalidate_denied = λ stag. ap (λ part. own_invalidate_denial_for part (record { domain = d; stream = stream }) stag) h.part;
  octets = λ stag to n right none. sym (octets-alike (record { domain = d; stream = stream }) u t stag to n right none (alike-back d t u h));
}

same_placing : (peer : Peer) (t u : Table) (head : TaggedHead) (n : ℕ) (right : Right) → DeniesAlike u t peer → placing_fault t peer head n right ≡ placing_fault u peer head n right
same_placing peer t u head n right h = ap (option_map placing.denial_fault) (h.denied head.stag head.to n right)

same_place : (s : StreamState) (t u : Table) (head : Head) (n : ℕ) → DeniesAlike u t (peer_of s) → place_verdict (standing t s) head n ≡ place_verdict (standing u s) head n
same_place s t u (heads.Write head) n h = ap (λ o. fault_or o (Write (place_in head n))) (same_placing (peer_of s) t u head n rights.Write h)
same_place s t u (heads.Response head) n h = ap (λ o. fault_or (or_else (sink_fault s.reads head n) o) (Response (place_in head n))) (same_placing (peer_of s) t u head n rights.Sink h)
same_place s t u (heads.Send head) n h = refl
same_place s t u (heads.Request head request) n h =
    ap (λ o. fault_or (option_map source.denial_fault o) (Request request)) (h.denied request.source request.source_to request.size rights.Read)
same_place s t u (heads.Terminate head word) n h = refl

same_head : (s : StreamState) (t u : Table) (r : Result Head Fault) (n : ℕ) → DeniesAlike u t (peer_of s) → head_verdict (standing t s) r n ≡ head_verdict (standing u s) r n
same_head s t u (Ok head) n h = same_place s t u head n h
same_head s t u (Err fault) n h = refl

pub same_verdict : (s : StreamState) (t u : Table) (frame : Frame) → DeniesAlike u t (peer_of s) → verdict (standing t s) frame ≡ verdict (standing u s) frame
same_verdict s t u frame h = ap (λ r. option_map_or (λ m. Err (mismatch_fault m)) frame.mismatch r) (same_head s t u (judged_head (standing t s) frame.ulpdu) (length (payload_of (read_segment frame.ulpdu))) h)

pub same_early : (s : StreamState) (t u : Table) (frame : Frame) → DeniesAlike u t (peer_of s) → early_verdict (standing t s) frame ≡ early_verdict (standing u s) frame
same_early s t u frame h = ap (λ r. if may_be_early (judged_head (standing t s) frame.ulpdu) then landing_in r else None) (same_verdict s t u frame h)

same_invalidation : (peer : Peer) (t u : Table) (turning : Turning) → DeniesAlike u t peer → invalidation_fault t peer turning ≡ invalidation_fault u peer turning
same_invalidation peer t u Passed h = refl
same_invalidation peer t u (Completed solicited None) h = refl
same_invalidation peer t u (Completed solicited (Some stag)) h = ap (option_map invalidate_fault) (h.invalidate_denied stag)
same_invalidation peer t u (Answered ticket) h = refl

same_segment_turn : (peer : Peer) (t u : Table) (r : Receiving) (reads : List Outstanding) (n : ℕ) (segment : Option (Segment (List ℕ))) → DeniesAlike u t peer → segment_turn t peer r reads n segment ≡ segment_turn u peer r reads n segment
same_segment_turn peer t u r reads n None h = refl
same_segment_turn peer t u r reads n (Some (Tagged head payload)) h = refl
same_segment_turn peer t u r reads n (Some (Untagged head payload)) h =
    ap (λ o. fault_or (or_else (turn_fault r head.msn head.mo) o) (send_turning head)) (same_invalidation peer t u (send_turning head) h)

pub same_turn : (s : StreamState) (t u : Table) (frame : PlacedFrame) → DeniesAlike u t (peer_of s) → turn_of (standing t s) frame ≡ turn_of (standing u s) frame
same_turn s t u frame h = same_segment_turn (peer_of s) t u s.receiving s.reads (payload_len frame) (head_in frame) h

-- ---- work

pub same_step : (s : StreamState) (t u : Table) → DeniesAlike u t (peer_of s) → work_step t s ≡ work_step u s
same_step s t u h = go (task s)
  where
    go : (k : Task) → step_of t s k ≡ step_of u s k
    go (HandOut done) = refl
    go (GiveUp done) = refl
    go (GiveBack buffer) = refl
    go Hear = refl
    go (Turn frame) = ap (turned_step s.receiving frame) (same_turn s t u frame h)
    go (Clash frame) = refl
    go (Judge frame) = ap judged_step (same_verdict s t u frame h)
    go (Try frame) = ap (tried_step (first_place_in s.start + frame.start)) (same_early s t u frame h)
    go Rest = refl

pub same_worked : (s : StreamState) (t u : Table) → DeniesAlike u t (peer_of s) → worked t s ≡ worked u s
same_worked s t u h = go (task s)
  where
    go : (k : Task) → left_by t s k ≡ left_by u s k
    go (HandOut done) = refl
    go (GiveUp done) = refl
    go (GiveBack buffer) = refl
    go Hear = refl
    go (Turn frame) = ap (after_turn s frame) (same_turn s t u frame h)
    go (Clash frame) = refl
    go (Judge frame) = ap (after_judging s frame) (same_verdict s t u frame h)
    go (Try frame) = ap (after_trying s frame) (same_early s t u frame h)
    go Rest = refl

landed-alike : (d : ℕ) (t u : Table) (payload : List ℕ) (at : Landing) → AreAlike d t u → AreAlike d (table_landed t payload at) (table_landed u payload at)
landed-alike d t u payload (Write at) h = alike-own d at.stag.domain t u (λ part. own_put part at.stag at.to payload) h
landed-alike d t u payload (Response at) h = alike-own d at.stag.domain t u (λ part. own_put part at.stag at.to payload) h
landed-alike d t u payload (Send msn mo len) h = h
landed-alike d t u payload (Request request) h = h
landed-alike d t u payload (Terminate fault) h = h

pub judged-alike : (d : ℕ) (t u : Table) (frame : Frame) (r : Result Landing Fault) → AreAlike d t u → AreAlike d (table_judged t frame r) (table_judged u frame r)
judged-alike d t u frame (Ok at) h = landed-alike d t u (payload_of (segment_in frame)) at h
judged-alike d t u frame (Err fault) h = h

-- ---- what is placed or invalidated lies in the stream's own domain

-- another domain's part and the number of domains stay
pub record KeepsOthers (d : ℕ) (old new : Table) : Type 0 where
  pub size : length new ≡ length old
  pub parts : (other : ℕ) → other ≢ d → part_of new other ≡ part_of old other

pub keeps-all : (d : ℕ) (t : Table) → KeepsOthers d t t
keeps-all d t = record { size = refl; parts = λ other ne. refl }

pub keeps-step : (d : ℕ) (t : Table) (part : Part) → KeepsOthers d t (with_part t d part)
keeps-step d t part = record { size = length-with_part t d part; parts = λ other ne. part_of-with_part_other t d other part ne }

keeps-put : (peer : Peer) (t : Table) (stag : Stag) (to : ℕ) (octets : List ℕ) (right : Right) → denial_for t peer stag to (length octets) right ≡ None → KeepsOthers peer.domain t (put t stag to octets)
keeps-put peer t stag to octets right none = elim (allows t peer stag to (length octets) right none) [
  | inl nothing ↦ subst (λ new. KeepsOthers peer.domain t new) (sym (ap (put t stag to) (no_octets octets nothing) ∙ put-nothing t stag to)) (keeps-all peer.domain t)
  | inr allowed ↦ subst (λ e. KeepsOthers e t (put t stag to octets)) allowed.0 (keeps-step stag.domain t (own_put (part_of t stag.domain) stag to octets))
]

-- what is not at fault was not denied
pub undenied : {D : Type 0} (o : Option D) (fault : D → Fault) → option_map fault o ≡ None → o ≡ None
undenied None fault e = refl
undenied (Some deny) fault e = absurd (none-some _ (sym e))

-- two tables are related so, and so is what the peer may make of both by one segment
pub record AreKeptBy (peer : Peer) (t u : Table) (K : Table → Table → Type 0) : Type 0 where
  pub all : K t u
  pub placed : (stag : Stag) (to : ℕ) (octets : List ℕ) (right : Right) → denial_for t peer stag to (length octets) right ≡ None → K (put t stag to octets) (put u stag to octets)
  pub invalidated : (stag : Stag) → invalidate_denial_for t peer stag ≡ None → K (invalidated t stag) (invalidated u stag)

-- so is what a step leaves of both, if both answer the peer alike
module _ (s : StreamState) (t u : Table) (K : Table → Table → Type 0) (kept : AreKeptBy (peer_of s) t u K) where
  abbrev Lands : List ℕ → Landing → Type 0
  Lands payload at = K (table_landed t payload at) (table_landed u payload at)

  abbrev Judges : Frame → Result Landing Fault → Type 0
  Judges frame r = K (table_judged t frame r) (table_judged u frame r)

  abbrev Tries : Frame → Option Landing → Type 0
  Tries frame o = K (table_tried t frame o) (table_tried u frame o)

  abbrev Turns : Turning → Type 0
  Turns turning = K (table_turned t turning) (table_turned u turning)

  abbrev Passes : Result Turning Fault → Type 0
  Passes r = K (table_passed t r) (table_passed u r)

  keeps-landed : (head : Head) (payload : List ℕ) (r : Result Landing Fault) → place_verdict (standing t s) head (length payload) ≡ r → (at : Landing) → r ≡ Ok at → Lands payload at
  keeps-landed (heads.Write head) payload r is at ok = go (placing_fault t (peer_of s) head (length payload) rights.Write) refl (is ∙ ok)
    where
      go : (o : Option Fault) → placing_fault t (peer_of s) head (length payload) rights.Write ≡ o → fault_or o (Write (place_in head (length payload))) ≡ Ok at → Lands payload at
      go None none e =
          let same : Write (place_in head (length payload)) ≡ at = cc in
          subst (Lands payload) same (kept.placed head.stag head.to payload rights.Write (undenied _ placing.denial_fault none))
      go (Some fault) none e = absurd (let no : ⊥ = cc in no)
  keeps-landed (heads.Response head) payload r is at ok = go (sink_fault s.reads head (length payload)) (placing_fault t (peer_of s) head (length payload) rights.Sink) refl (is ∙ ok)
    where
      go : (sink o : Option Fault) → placing_fault t (peer_of s) head (length payload) rights.Sink ≡ o → fault_or (or_else sink o) (Response (place_in head (length payload))) ≡ Ok at → Lands payload at
      go None None none e =
          let same : Response (place_in head (length payload)) ≡ at = cc in
          subst (Lands payload) same (kept.placed head.stag head.to payload rights.Sink (undenied _ placing.denial_fault none))
      go None (Some fault) none e = absurd (let no : ⊥ = cc in no)
      go (Some fault) o none e = absurd (let no : ⊥ = cc in no)
  keeps-landed (heads.Send head) payload r is at ok = go (buffer_fault s.receiving head.msn head.mo (length payload)) (is ∙ ok)
    where
      go : (o : Option Fault) → fault_or o (Send head.msn head.mo (length payload)) ≡ Ok at → Lands payload at
      go None e = let same : Send head.msn head.mo (length payload) ≡ at = cc in subst (Lands payload) same kept.all
      go (Some fault) e = absurd (let no : ⊥ = cc in no)
  keeps-landed (heads.Request head request) payload r is at ok = go (source.source_fault t (peer_of s) request) (is ∙ ok)
    where
      go : (o : Option Fault) → fault_or o (Request request) ≡ Ok at → Lands payload at
      go None e = let same : Request request ≡ at = cc in subst (Lands payload) same kept.all
      go (Some fault) e = absurd (let no : ⊥ = cc in no)
  keeps-landed (heads.Terminate head word) payload r is at ok =
      let same : Terminate (fault_told word) ≡ at = cc in subst (Lands payload) same kept.all

  keeps-judged : (frame : Frame) → Judges frame (verdict (standing t s) frame)
  keeps-judged frame = by_mismatch frame.mismatch
    where
      payload : List ℕ
      payload = payload_of (segment_in frame)

      landed : (head : Head) (r : Result Landing Fault) → place_verdict (standing t s) head (length payload) ≡ r → Judges frame r
      landed head (Ok at) is = keeps-landed head payload (Ok at) is at refl
      landed head (Err fault) is = kept.all

      by_head : (r : Result Head Fault) → Judges frame (head_verdict (standing t s) r (length payload))
      by_head (Ok head) = landed head (place_verdict (standing t s) head (length payload)) refl
      by_head (Err fault) = kept.all

      by_mismatch : (m : Option Mismatch) → Judges frame (option_map_or (λ m. Err (mismatch_fault m)) m (head_verdict (standing t s) (judged_head (standing t s) frame.ulpdu) (length payload)))
      by_mismatch (Some m) = kept.all
      by_mismatch None = by_head (judged_head (standing t s) frame.ulpdu)

  keeps-tried : (frame : Frame) → Tries frame (early_verdict (standing t s) frame)
  keeps-tried frame = by_test (may_be_early (judged_head (standing t s) frame.ulpdu))
    where
      placed : (r : Result Landing Fault) → Judges frame r → Tries frame (landing_in r)
      placed (Ok at) k = k
      placed (Err fault) k = k

      by_test : (b : Bool) → Tries frame (if b then landing_in (verdict (standing t s) frame) else None)
      by_test true = placed (verdict (standing t s) frame) (keeps-judged frame)
      by_test false = kept.all

  keeps-turned : (turning : Turning) → invalidation_fault t (peer_of s) turning ≡ None → Turns turning
  keeps-turned Passed none = kept.all
  keeps-turned (Completed solicited None) none = kept.all
  keeps-turned (Completed solicited (Some stag)) none =
      kept.invalidated stag (undenied _ invalidate_fault none)
  keeps-turned (Answered ticket) none = kept.all

  keeps-sent : (turning : Turning) (first later : Option Fault) → invalidation_fault t (peer_of s) turning ≡ later → Passes (fault_or (or_else first later) turning)
  keeps-sent turning (Some fault) later is = kept.all
  keeps-sent turning None (Some fault) is = kept.all
  keeps-sent turning None None is = keeps-turned turning is

  keeps-tagged : (responds : Bool) (fault : Option Fault) (ticket : Option ℕ) → Passes (if responds then fault_or fault (answering_by ticket) else Ok Passed)
  keeps-tagged false fault ticket = kept.all
  keeps-tagged true (Some fault) ticket = kept.all
  keeps-tagged true None None = kept.all
  keeps-tagged true None (Some ticket) = kept.all

  keeps-passed : (r : Receiving) (reads : List Outstanding) (n : ℕ) (segment : Option (Segment (List ℕ))) → Passes (segment_turn t (peer_of s) r reads n segment)
  keeps-passed r reads n None = kept.all
  keeps-passed r reads n (Some (Tagged head payload)) = keeps-tagged (is_response head) (response_turn_fault reads head n) (finished_read reads head)
  keeps-passed r reads n (Some (Untagged head payload)) = keeps-sent (send_turning head) (turn_fault r head.msn head.mo) (invalidation_fault t (peer_of s) (send_turning head)) refl

  pub both-worked : DeniesAlike u t (peer_of s) → K (table_worked t s) (table_worked u s)
  both-worked h = go (task s)
    where
      go : (k : Task) → K (table_left t s k) (table_left u s k)
      go (HandOut done) = kept.all
      go (GiveUp done) = kept.all
      go (GiveBack buffer) = kept.all
      go Hear = kept.all
      go (Turn frame) =
          subst (λ r. K (table_passed t (turn_of (standing t s) frame)) (table_passed u r)) (same_turn s t u frame h) (keeps-passed s.receiving s.reads (payload_len frame) (head_in frame))
      go (Clash frame) = kept.all
      go (Judge frame) = subst (λ r. K (table_judged t frame (verdict (standing t s) frame)) (table_judged u frame r)) (same_verdict s t u frame h) (keeps-judged frame)
      go (Try frame) = subst (λ o. K (table_tried t frame (early_verdict (standing t s) frame)) (table_tried u frame o)) (same_early s t u frame h) (keeps-tried frame)
      go Rest = kept.all

pub table_worked-alike : (s : StreamState) (t u : Table) → AreAlike s.domain t u → AreAlike s.domain (table_worked t s) (table_worked u s)
table_worked-alike s t u h = both-worked s t u (AreAlike s.domain) (record {
  all = h;
  placed = λ stag to octets right none. alike-own s.domain stag.domain t u (λ part. own_put part stag to octets) h;
  invalidated = λ stag none. alike-own s.domain stag.domain t u (λ part. own_invalidated part stag) h;
}) (denies (answers-own s.domain s.number t u h))

-- the table, and what the peer may make of it by one segment, have this
pub record IsKeptBy (peer : Peer) (t : Table) (K : Table → Type 0) : Type 0 where
  pub all : K t
  pub placed : (stag : Stag) (to : ℕ) (octets : List ℕ) (right : Right) → denial_for t peer stag to (length octets) right ≡ None → K (put t stag to octets)
  pub invalidated : (stag : Stag) → invalidate_denial_for t peer stag ≡ None → K (invalidated t stag)

-- so has what a step leaves
pub keeps-worked : (s : StreamState) (t : Table) (K : Table → Type 0) → IsKeptBy (peer_of s) t K → K (table_worked t s)
keeps-worked s t K kept =
    both-worked s t t (λ x y. K x) (record { all = kept.all; placed = kept.placed; invalidated = kept.invalidated })
    (record { denied = λ stag to n right. refl; invalidate_denied = λ stag. refl })

-- a region that may be invalidated is of the domain
own_stag : (t : Table) (peer : Peer) (stag : Stag) → invalidate_denial_for t peer stag ≡ None → stag.domain ≡ peer.domain
own_stag t peer stag none = elim (eqb_tells stag.domain peer.domain) [
  | inl same ↦ same.1
  | inr other ↦ absurd (none-some _ (sym none ∙ ap (λ b. if not b then Some NotAssociated else option_map_or (λ r. region_invalidate_denial r peer.stream) (own_region (part_of t peer.domain) stag) (Some Invalid)) other.0))
]

pub keeps-others : (s : StreamState) (t : Table) → KeepsOthers s.domain t (table_worked t s)
keeps-others s t = keeps-worked s t (KeepsOthers s.domain t) (record {
  all = keeps-all s.domain t;
  placed = λ stag to octets right none. keeps-put (peer_of s) t stag to octets right none;
  invalidated = λ stag none. subst (λ e. KeepsOthers e t (invalidated t stag)) (own_stag t (peer_of s) stag none) (keeps-step stag.domain t (own_invalidated (part_of t stag.domain) stag));
})

-- ---- emission

same_length : (s : StreamState) (head : TaggedHead) (a b : List ℕ) → length a ≡ length b → length (frame_of s (Tagged head a)) ≡ length (frame_of s (Tagged head b))
same_length s head a b same =
    length-frame_of s (Tagged head a)
    ∙ ap (λ n. frame_end (sending s.start).markers (s.sent - first_place_out s.start) n - (s.sent - first_place_out s.start)) (length-segment_octets_tagged head a ∙ ap (λ n. 14 + n) same ∙ sym (length-segment_octets_tagged head b))
    ∙ sym (length-frame_of s (Tagged head b))

same_fetch : (s : StreamState) (t u : Table) (part : ResponsePart) → DeniesAlike u t (peer_of s) → fetch_fault t (peer_of s) part ≡ fetch_fault u (peer_of s) part
same_fetch s t u part h = ap (option_map source.denial_fault) (h.denied part.stag part.to part.n rights.Read)

-- what is told of a frame that is fetched by its length alone
by_length : {X : Type 0} (told : Result (List ℕ) Fault → X) → ((a b : List ℕ) → length a ≡ length b → told (Ok a) ≡ told (Ok b))
    → (s : StreamState) (t u : Table) (part : ResponsePart) → DeniesAlike u t (peer_of s) → told (frame_fetched t s part) ≡ told (frame_fetched u s part)
by_length told lengths s t u part h = go (fetch_fault u (peer_of s) part) refl (same_fetch s t u part h)
  where
    frame : Table → List ℕ
    frame x = frame_of s (Tagged part.head (fetched_octets x part))

    size : (x : Table) → fetch_fault x (peer_of s) part ≡ None → length (fetched_octets x part) ≡ part.n
    size x none = length-octets_at x (peer_of s) part.stag part.to part.n rights.Read (undenied _ source.denial_fault none)

    go : (o : Option Fault) → fetch_fault u (peer_of s) part ≡ o → fetch_fault t (peer_of s) part ≡ fetch_fault u (peer_of s) part → told (frame_fetched t s part) ≡ told (frame_fetched u s part)
    go (Some fault) is same = ap (λ o. told (fault_or o (frame t))) (same ∙ is) ∙ sym (ap (λ o. told (fault_or o (frame u))) is)
    go None is same =
        ap (λ o. told (fault_or o (frame t))) (same ∙ is)
        ∙ lengths (frame t) (frame u) (same_length s part.head _ _ (size t (same ∙ is) ∙ sym (size u is)))
        ∙ sym (ap (λ o. told (fault_or o (frame u))) is)

pub same_emission : (s : StreamState) (t u : Table) → DeniesAlike u t (peer_of s) → emission_of t s ≡ emission_of u s
same_emission s t u h = go (due s)
  where
    go : (k : Due) → emission_due t s k ≡ emission_due u s k
    go StartUp = refl
    go (LastWord payload) = refl
    go (Ready rtr) = refl
    go (ResponseDue part) = by_length (emission_fetched s part) (λ a b same. ap (λ n. Fetched s.sent n part.stag part.to part.n) same) s t u part h
    go (NextPart part) = refl
    go NoneDue = refl

pub same_due_len : (s : StreamState) (t u : Table) → DeniesAlike u t (peer_of s) → length (emitted t s) ≡ length (emitted u s)
same_due_len s t u h = go (due s)
  where
    go : (k : Due) → length (octets_due t s k) ≡ length (octets_due u s k)
    go StartUp = refl
    go (LastWord payload) = refl
    go (Ready rtr) = refl
    go (ResponseDue part) = by_length (λ r. length (octets_fetched r)) (λ a b same. same) s t u part h
    go (NextPart part) = refl
    go NoneDue = refl

pub same_after_emit : (s : StreamState) (t u : Table) → DeniesAlike u t (peer_of s) → after_emit t s ≡ after_emit u s
same_after_emit s t u h = go (due s)
  where
    go : (k : Due) → left_due t s k ≡ left_due u s k
    go StartUp = refl
    go (LastWord payload) = refl
    go (Ready rtr) = refl
    go (ResponseDue part) = by_length (left_fetched s part) (λ a b same. ap (λ n. record s { asked = part_fetched s.asked (Some part); sent = s.sent + n }) same) s t u part h
    go (NextPart part) = refl
    go NoneDue = refl

pub same_fetched : (s : StreamState) (t u : Table) (part : ResponsePart) → AnswersAlike u t (peer_of s) → frame_fetched t s part ≡ frame_fetched u s part
same_fetched s t u part h = go (fetch_fault u (peer_of s) part) refl (same_fetch s t u part (denies h))
  where
    frame : List ℕ → List ℕ
    frame octets = frame_of s (Tagged part.head octets)

    go : (o : Option Fault) → fetch_fault u (peer_of s) part ≡ o → fetch_fault t (peer_of s) part ≡ fetch_fault u (peer_of s) part → frame_fetched t s part ≡ frame_fetched u s part
    go (Some fault) is same =
        ap (λ o. fault_or o (frame (fetched_octets t part))) (same ∙ is) ∙ sym (ap (λ o. fault_or o (frame (fetched_octets u part))) is)
    go None is same =
        ap (λ octets. fault_or (fetch_fault t (peer_of s) part) (frame octets)) (h.octets part.stag part.to part.n rights.Read (undenied _ source.denial_fault is))
        ∙ ap (λ o. fault_or o (frame (fetched_octets u part))) same

pub same_emitted : (s : StreamState) (t u : Table) → AnswersAlike u t (peer_of s) → emitted t s ≡ emitted u s
same_emitted s t u h = go (due s)
  where
    go : (k : Due) → octets_due t s k ≡ octets_due u s k
    go StartUp = refl
    go (LastWord payload) = refl
    go (Ready rtr) = refl
    go (ResponseDue part) = ap octets_fetched (same_fetched s t u part h)
    go (NextPart part) = refl
    go NoneDue = refl

-- ---- the same of tables that are alike in the part of the stream's domain

pub verdict-alike : (s : StreamState) (t u : Table) (frame : Frame) → AreAlike s.domain t u → verdict (standing t s) frame ≡ verdict (standing u s) frame
verdict-alike s t u frame h = same_verdict s t u frame (denies (answers-own s.domain s.number t u h))

pub early-alike : (s : StreamState) (t u : Table) (frame : Frame) → AreAlike s.domain t u → early_verdict (standing t s) frame ≡ early_verdict (standing u s) frame
early-alike s t u frame h = same_early s t u frame (denies (answers-own s.domain s.number t u h))

pub turn-alike : (s : StreamState) (t u : Table) (frame : PlacedFrame) → AreAlike s.domain t u → turn_of (standing t s) frame ≡ turn_of (standing u s) frame
turn-alike s t u frame h = same_turn s t u frame (denies (answers-own s.domain s.number t u h))

pub step-alike : (s : StreamState) (t u : Table) → AreAlike s.domain t u → work_step t s ≡ work_step u s
step-alike s t u h = same_step s t u (denies (answers-own s.domain s.number t u h))

pub worked-alike : (s : StreamState) (t u : Table) → AreAlike s.domain t u → worked t s ≡ worked u s
worked-alike s t u h = same_worked s t u (denies (answers-own s.domain s.number t u h))

pub fetched-alike : (s : StreamState) (t u : Table) (part : ResponsePart) → AreAlike s.domain t u → frame_fetched t s part ≡ frame_fetched u s part
fetched-alike s t u part h = same_fetched s t u part (answers-own s.domain s.number t u h)

pub emission-alike : (s : StreamState) (t u : Table) → AreAlike s.domain t u → emission_of t s ≡ emission_of u s
emission-alike s t u h = same_emission s t u (denies (answers-own s.domain s.number t u h))

pub emitted-alike : (s : StreamState) (t u : Table) → AreAlike s.domain t u → emitted t s ≡ emitted u s
emitted-alike s t u h = same_emitted s t u (answers-own s.domain s.number t u h)

pub after_emit-alike : (s : StreamState) (t u : Table) → AreAlike s.domain t u → after_emit t s ≡ after_emit u s
after_emit-alike s t u h = same_after_emit s t u (denies (answers-own s.domain s.number t u h))

-- ---- a stream keeps its domain and its number

opening_peer : (s : StreamState) (o : Option enhanced.Mismatch) → peer_of (after_opening s o) ≡ peer_of s
opening_peer s None = refl
opening_peer s (Some mismatch) = refl

heard_peer : (s : StreamState) (p : Progress) → peer_of (after_hearing s p) ≡ peer_of s
heard_peer s progress.More = refl
heard_peer s progress.Asked = refl
heard_peer s progress.Agreed = opening_peer (hears s) (mismatch_in (heard s.start (inbox s)))
heard_peer s (progress.Faulted fault) = refl

turned_peer : (s : StreamState) (frame : PlacedFrame) (r : Result Turning Fault) → peer_of (after_turn s frame r) ≡ peer_of s
turned_peer s frame (Ok Passed) = refl
turned_peer s frame (Ok (Completed solicited invalidate)) = refl
turned_peer s frame (Ok (Answered ticket)) = refl
turned_peer s frame (Err fault) = refl

judged_peer : (s : StreamState) (frame : Frame) (r : Result Landing Fault) → peer_of (after_judging s frame r) ≡ peer_of s
judged_peer s frame (Ok (Write at)) = refl
judged_peer s frame (Ok (Response at)) = refl
judged_peer s frame (Ok (Send msn mo len)) = refl
judged_peer s frame (Ok (Request request)) = refl
judged_peer s frame (Ok (Terminate fault)) = refl
judged_peer s frame (Err fault) = refl

pub worked_peer : (t : Table) (s : StreamState) → peer_of (worked t s) ≡ peer_of s
worked_peer t s = go (task s)
  where
    go : (k : Task) → peer_of (left_by t s k) ≡ peer_of s
    go (HandOut done) = refl
    go (GiveUp done) = refl
    go (GiveBack buffer) = refl
    go Hear = heard_peer s (progress_in s.start (inbox s))
    go (Turn frame) = turned_peer s frame (turn_of (standing t s) frame)
    go (Clash frame) = refl
    go (Judge frame) = judged_peer s frame (verdict (standing t s) frame)
    go (Try frame) = refl
    go Rest = refl

fetched_peer : (s : StreamState) (part : ResponsePart) (r : Result (List ℕ) Fault) → peer_of (left_fetched s part r) ≡ peer_of s
fetched_peer s part (Ok frame) = refl
fetched_peer s part (Err fault) = refl

pub emit_peer : (t : Table) (s : StreamState) → peer_of (after_emit t s) ≡ peer_of s
emit_peer t s = go (due s)
  where
    go : (k : Due) → peer_of (left_due t s k) ≡ peer_of s
    go StartUp = refl
    go (LastWord payload) = refl
    go (Ready rtr) = refl
    go (ResponseDue part) = fetched_peer s part (frame_fetched t s part)
    go (NextPart part) = refl
    go NoneDue = refl

pub worked_domain : (t : Table) (s : StreamState) → (worked t s).domain ≡ s.domain
worked_domain t s = ap (λ (p : Peer). p.domain) (worked_peer t s)

pub worked_number : (t : Table) (s : StreamState) → (worked t s).number ≡ s.number
worked_number t s = ap (λ (p : Peer). p.stream) (worked_peer t s)

pub emit_domain : (t : Table) (s : StreamState) → (after_emit t s).domain ≡ s.domain
emit_domain t s = ap (λ (p : Peer). p.domain) (emit_peer t s)

pub emit_number : (t : Table) (s : StreamState) → (after_emit t s).number ≡ s.number
emit_number t s = ap (λ (p : Peer). p.stream) (emit_peer t s)
