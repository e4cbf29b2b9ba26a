-- What a Terminate takes of the segment that had the fault is there.
use Rattle.std.proofs.Common.{◌≡◌, ℕ, ◌+◌, Bool, true, false, nat_le, nat_lt, if◌then◌else◌, List, [], ◌∷◌, length, take, Option, Some, None, Ok, Err, refl, sym, ap, ◌∙◌, subst, arith}
use Rattle.std.specs.Prelude.{Result, IfSome, not, ◌==◌, ◌&&◌, is_none, unwrap_or}
use Rattle.std.proofs.lemmas.Bool.{true≢false}
use Rattle.std.specs.Option.{option_map, option_map_or}
use Rattle.std.proofs.lemmas.List.{length-take}
use Rattle.iw_octets.specs.declared.fault.Fault.{Fault}
use Rattle.iw_octets.specs.declared.fault.TheConstants.Fault as faults
use Rattle.iw_octets.specs.declared.head.TaggedHead.{TaggedHead}
use Rattle.iw_octets.specs.declared.segment.Segment.{Segment}
use Rattle.iw_octets.specs.declared.segment.Segment.TheVariants.{Tagged, Untagged}
use Rattle.iw_octets.specs.declared.stag.Stag.{Stag}
use Rattle.iw_octets.specs.Segment.{read_segment}
use Rattle.iw_memory.specs.declared.peer.Peer.{Peer}
use Rattle.iw_memory.specs.declared.refusal.InvalidateDeny.{InvalidateDeny}
use Rattle.iw_memory.specs.declared.refusal.InvalidateDeny.TheVariants as denials
use Rattle.iw_memory.specs.Table.{Table, invalidate_denial_for}
use Rattle.iw_memory.specs.declared.refusal.Deny.{Deny}
use Rattle.iw_memory.specs.declared.refusal.Deny.TheVariants.{NotAssociated, Invalid, ToWrap, Bounds, Rights}
use Rattle.iw_fpdu.specs.declared.fpdu.Mismatch.{Mismatch}
use Rattle.iw_fpdu.specs.declared.fpdu.Mismatch.TheVariants.{CrcMismatch, MarkerMismatch}
use Rattle.iw_fpdu.specs.Found.{Found, ulpdu}
use Rattle.iw_rdmap.specs.declared.head.Head.{Head}
use Rattle.iw_rdmap.specs.declared.head.Head.TheVariants as heads
use Rattle.iw_rdmap.specs.Judging.{IsFront, judged}
use Rattle.iw_rdmap.specs.Terminate.{FitsFault, HasCause, has_segment}
use Rattle.iw_rdmap.proofs.Causes.{IsSound, sound}
use Rattle.iw_reads.specs.declared.reads.Outstanding.{Outstanding}
use Rattle.iw_reads.specs.Outstanding.{is_asked, sink_fault, goes_on, response_turn_fault, finished_read}
use Rattle.iw_reads.specs.Requests.{Requested}
use Rattle.iw_reads.specs.Source as source
use Rattle.iw_tagged.specs.Placing as placing
use Rattle.iw_untagged.specs.Receiving.{Receiving, ahead_of, buffer_for, oldest, received, room_fault, turn_fault}
use Rattle.iw_stream.specs.declared.landing.Turning.{Turning}
use Rattle.iw_stream.specs.declared.landing.Turning.TheVariants as turnings
use Rattle.iw_stream.specs.Frames.{Frame, frame_by, payload_of}
use Rattle.iw_stream.specs.Judging.{Standing, mismatch_fault, or_else, fault_or, judged_head, place_verdict, head_verdict, segment_verdict, verdict, is_response, answering_by, send_turning, invalidate_fault, invalidation_fault, segment_turn, turned_by}
use Rattle.iw_stream.specs.Stream.{StreamState, ends_by}
use Rattle.iw_stream.specs.Terminating.{asks, is_request_of, terminate_judged}
use Rattle.iw_stream.specs.Work.{Judge, Rest, next_frame, standing, after_judging, left_by}
use Rattle.iw_stream.proofs.Heads.{first_taken, judged_front}

-- the first octets say whether it is a Read Request
pub asks_front : (u : List ℕ) (len : ℕ) (asked : Requested) → len ≡ length u → asks (judged (take 46 u) len asked.next (length asked.unanswered)) ≡ is_request_of asked u
asks_front u len asked long = ap asks (judged_front u (take 46 u) len asked.next (length asked.unanswered) (first_taken u) long)

-- ---- faults fit a Terminate
abbrev Fits : Option Fault → Type 0
Fits o = IfSome o FitsFault

fits_tagged : (o : Option Deny) → Fits (option_map placing.denial_fault o)
fits_tagged None = tt
fits_tagged (Some NotAssociated) = record { layer = omega arith; kind = omega arith }
fits_tagged (Some Invalid) = record { layer = omega arith; kind = omega arith }
fits_tagged (Some ToWrap) = record { layer = omega arith; kind = omega arith }
fits_tagged (Some Bounds) = record { layer = omega arith; kind = omega arith }
fits_tagged (Some Rights) = record { layer = omega arith; kind = omega arith }

fits_source : (o : Option Deny) → Fits (option_map source.denial_fault o)
fits_source None = tt
fits_source (Some NotAssociated) = record { layer = omega arith; kind = omega arith }
fits_source (Some Invalid) = record { layer = omega arith; kind = omega arith }
fits_source (Some ToWrap) = record { layer = omega arith; kind = omega arith }
fits_source (Some Bounds) = record { layer = omega arith; kind = omega arith }
fits_source (Some Rights) = record { layer = omega arith; kind = omega arith }

fits_sink : (asked : Bool) → Fits (if asked then None else Some faults.OPERATION_UNEXPECTED)
fits_sink true = tt
fits_sink false = record { layer = omega arith; kind = omega arith }

fits_either : (a b : Option Fault) → Fits a → Fits b → Fits (or_else a b)
fits_either None b fa fb = fb
fits_either (Some fault) b fa fb = fa

fits_buffer : (far none over : Bool) → Fits (if far then Some faults.UNTAGGED_MSN_RANGE else if none then Some faults.UNTAGGED_NO_BUFFER else if over then Some faults.UNTAGGED_TOO_LONG else None)
fits_buffer true none over = record { layer = omega arith; kind = omega arith }
fits_buffer false true over = record { layer = omega arith; kind = omega arith }
fits_buffer false false true = record { layer = omega arith; kind = omega arith }
fits_buffer false false false = tt

fits_room : (ahead : ℕ) (len : Option ℕ) (end : ℕ) → Fits (room_fault ahead len end)
fits_room ahead len end = fits_buffer (nat_le 256 ahead) (is_none len) (nat_lt (unwrap_or len 0) end)

fits_err : {A : Type 0} (o : Option Fault) (x : A) (fault : Fault) → Fits o → fault_or o x ≡ Err fault → FitsFault fault
fits_err None x fault f e = absurd (let no : ⊥ = cc in no)
fits_err (Some other) x fault f e = subst FitsFault (let same : other ≡ fault = cc in same) f

fits_placing : (at : Standing) (head : Head) (n : ℕ) (fault : Fault) → place_verdict at head n ≡ Err fault → FitsFault fault
fits_placing at (heads.Write head) n fault e = fits_err _ _ fault (fits_tagged _) e
fits_placing at (heads.Response head) n fault e = fits_err _ _ fault (fits_either (sink_fault at.reads head n) _ (fits_sink (is_asked at.reads head n)) (fits_tagged _)) e
fits_placing at (heads.Send head) n fault e =
    fits_err _ _ fault (fits_room (ahead_of at.receiving.due head.msn) (option_map length (buffer_for at.receiving.source (ahead_of at.receiving.due head.msn))) (head.mo + n)) e
fits_placing at (heads.Request head request) n fault e = fits_err _ _ fault (fits_source _) e
fits_placing at (heads.Terminate head word) n fault e = absurd (let no : ⊥ = cc in no)

-- ---- so does that of a turn
fits_turn : (far late : Bool) → Fits (if far then Some faults.UNTAGGED_MSN_RANGE else if late then Some faults.UNTAGGED_INVALID_OFFSET else None)
fits_turn true late = record { layer = omega arith; kind = omega arith }
fits_turn false true = record { layer = omega arith; kind = omega arith }
fits_turn false false = tt

fits_denied : (o : Option InvalidateDeny) → Fits (option_map invalidate_fault o)
fits_denied None = tt
fits_denied (Some denials.NotAssociated) = record { layer = omega arith; kind = omega arith }
fits_denied (Some denials.Invalid) = record { layer = omega arith; kind = omega arith }
fits_denied (Some denials.NotAllowed) = record { layer = omega arith; kind = omega arith }

fits_invalidation : (table : Table) (peer : Peer) (turning : Turning) → Fits (invalidation_fault table peer turning)
fits_invalidation table peer turnings.Passed = tt
fits_invalidation table peer (turnings.Completed solicited None) = tt
fits_invalidation table peer (turnings.Completed solicited (Some stag)) = fits_denied (invalidate_denial_for table peer stag)
fits_invalidation table peer (turnings.Answered ticket) = tt

fits_response : (goes : Bool) → Fits (if goes then None else Some faults.PROTECTION_BOUNDS)
fits_response true = tt
fits_response false = record { layer = omega arith; kind = omega arith }

fits_reads : (reads : List Outstanding) (head : TaggedHead) (n : ℕ) → Fits (response_turn_fault reads head n)
fits_reads [] head n = record { layer = omega arith; kind = omega arith }
fits_reads (read ∷ reads) head n = fits_response (goes_on read head n)

fits_tagged_turn : (response : Bool) (o : Option Fault) (turning : Turning) (fault : Fault) → Fits o → (if response then fault_or o turning else Ok turnings.Passed) ≡ Err fault → FitsFault fault
fits_tagged_turn true o turning fault f e = fits_err o turning fault f e
fits_tagged_turn false o turning fault f e = absurd (let no : ⊥ = cc in no)

pub turned_fits : (table : Table) (peer : Peer) (r : Receiving) (reads : List Outstanding) (n : ℕ) (segment : Option (Segment (List ℕ))) (fault : Fault)
    → segment_turn table peer r reads n segment ≡ Err fault → FitsFault fault
turned_fits table peer r reads n None fault e =
    subst FitsFault (let same : faults.SEGMENT_SHORT ≡ fault = cc in same) (record { layer = omega arith; kind = omega arith })
turned_fits table peer r reads n (Some (Tagged head payload)) fault e =
    fits_tagged_turn (is_response head) (response_turn_fault reads head n) (answering_by (finished_read reads head)) fault (fits_reads reads head n) e
turned_fits table peer r reads n (Some (Untagged head payload)) fault e =
    fits_err _ _ fault (fits_either (turn_fault r head.msn head.mo) _ (fits_turn (not (ahead_of r.due head.msn == 0)) (not (head.mo == r.turned)))
    (fits_invalidation table peer (send_turning head))) e

-- ---- a message is complete by the turn of its last segment
no_message : (response : Bool) (o : Option Fault) (finished : Option ℕ) (solicited : Bool) (invalidate : Option Stag)
    → (if response then fault_or o (answering_by finished) else Ok turnings.Passed) ≡ Ok (turnings.Completed solicited invalidate) → ⊥
no_message true None None solicited invalidate e = cc
no_message true None (Some ticket) solicited invalidate e = cc
no_message true (Some fault) finished solicited invalidate e = cc
no_message false o finished solicited invalidate e = cc

pub received_whole : (table : Table) (peer : Peer) (r : Receiving) (reads : List Outstanding) (n : ℕ) (segment : Option (Segment (List ℕ))) (solicited : Bool) (invalidate : Option Stag)
    → segment_turn table peer r reads n segment ≡ Ok (turnings.Completed solicited invalidate) → received (turned_by r n segment) ≡ record { msn = r.due; buffer = oldest r; len = r.turned + n }
received_whole table peer r reads n None solicited invalidate e = absurd (let no : ⊥ = cc in no)
received_whole table peer r reads n (Some (Tagged head payload)) solicited invalidate e =
    absurd (no_message (is_response head) (response_turn_fault reads head n) (finished_read reads head) solicited invalidate e)
received_whole table peer r reads n (Some (Untagged head payload)) solicited invalidate e = refl

-- ---- a frame that failed a check
pub record IsCaused (asked : Requested) (u : List ℕ) (fault : Fault) : Type 0 where
  pub fits : FitsFault fault
  pub cause : HasCause fault (take 46 u) (is_request_of asked u)

-- with a fault of the frame itself nothing comes
alone : (fault : Fault) (first : List ℕ) (request : Bool) → has_segment fault ≡ false → ((fault.layer == 0) && (fault.kind == 1)) ≡ false → HasCause fault first request
alone fault first false none other = record { segment = λ h. absurd (true≢false (sym h ∙ none)); request_header = λ h. cc }
alone fault first true none other = record { segment = λ h. absurd (true≢false (sym h ∙ none)); request_header = λ h. cc }

mismatched : (asked : Requested) (u : List ℕ) (m : Mismatch) → IsCaused asked u (mismatch_fault m)
mismatched asked u CrcMismatch = record { fits = record { layer = omega arith; kind = omega arith }; cause = alone faults.CRC_MISMATCH (take 46 u) (is_request_of asked u) refl refl }
mismatched asked u MarkerMismatch = record { fits = record { layer = omega arith; kind = omega arith }; cause = alone faults.MARKER_MISMATCH (take 46 u) (is_request_of asked u) refl refl }

judged_caused : (at : Standing) (u : List ℕ) (fault : Fault) → segment_verdict at u ≡ Err fault → IsCaused at.asked u fault
judged_caused at u fault e = go (judged_head at u) refl e
  where
    first : List ℕ
    first = take 46 u

    front : IsFront 46 (take 46 u) (length u)
    front = record { enough = omega (arith, length-take 46 u); within = omega (arith, length-take 46 u) }

    said : IsSound (take 46 u) (length u) (judged_head at u)
    said = subst (IsSound (take 46 u) (length u)) (judged_front u (take 46 u) (length u) at.asked.next (length at.asked.unanswered) (first_taken u) refl) (sound (take 46 u) (length u) at.asked.next (length at.asked.unanswered) front)

    go : (r : Result Head Fault) → judged_head at u ≡ r → head_verdict at r (length (payload_of (read_segment u))) ≡ Err fault → IsCaused at.asked u fault
    go (Err other) is h =
        let f = subst (IsSound (take 46 u) (length u)) is said in
        subst (IsCaused at.asked u) (let same : other ≡ fault = cc in same) (record { fits = f.fits; cause = f.cause (is_request_of at.asked u) })
    go (Ok head) is h =
        let p = subst (IsSound (take 46 u) (length u)) is said in
        record { fits = fits_placing at head (length (payload_of (read_segment u))) fault h; cause = subst (HasCause fault (take 46 u)) (sym (ap asks is)) (p.headers.cause fault) }

pub caused : (at : Standing) (found : Found) (fault : Fault) → verdict at (frame_by found) ≡ Err fault → IsCaused at.asked (ulpdu found) fault
caused at found fault e = go (frame_by found).mismatch e
  where
    go : (wrong : Option Mismatch) → option_map_or (λ m. Err (mismatch_fault m)) wrong (segment_verdict at (ulpdu found)) ≡ Err fault → IsCaused at.asked (ulpdu found) fault
    go None h = judged_caused at (ulpdu found) fault h
    go (Some m) h = subst (IsCaused at.asked (ulpdu found)) (let same : mismatch_fault m ≡ fault = cc in same) (mismatched at.asked (ulpdu found) m)

-- it is the end of the stream
pub judged_over : (table : Table) (s : StreamState) (frame : Frame) (fault : Fault) → next_frame s ≡ Some frame → verdict (standing table s) frame ≡ Err fault
    → ends_by s (terminate_judged s.asked frame fault) ≡ left_by table s (option_map_or Judge (next_frame s) Rest)
judged_over table s frame fault next e = ap (after_judging s frame) (sym e) ∙ ap (λ o. left_by table s (option_map_or Judge o Rest)) (sym next)
