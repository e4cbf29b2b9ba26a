-- The most octets that one call to emit appends.
use Rattle.std.proofs.Common.{◌≡◌, ℕ, ◌+◌, ◌-◌, ◌%◌, ◌<◌, ◌≤◌, Bool, true, false, cond, List, [], ◌∷◌, length, take, drop, replicate, Option, Some, None, Result, Ok, Err, refl, sym, ap, ◌∙◌, subst, arith, add-zero}
use Rattle.std.specs.Prelude.{◌&&◌, min, nat_lt, nat_le}
use Rattle.std.specs.Option.{option_map_or}
use Rattle.std.proofs.lemmas.List.{length-take, length-replicate}
use Rattle.std.proofs.lemmas.Bool.{true≢false}
use Rattle.iw_octets.specs.declared.fault.Fault.{Fault}
use Rattle.iw_octets.specs.declared.message.Message.TheVariants.{Write, Send}
use Rattle.iw_octets.specs.declared.segment.Segment.{Segment}
use Rattle.iw_octets.specs.declared.segment.Segment.TheVariants.{Tagged, Untagged}
use Rattle.iw_octets.specs.Segment.{segment_octets}
use Rattle.iw_octets.specs.Payload.{request_octets}
use Rattle.iw_octets.proofs.Segments.{length-segment_octets_tagged, length-segment_octets_untagged}
use Rattle.iw_octets.proofs.Spelled.{length-request_octets}
use Rattle.iw_memory.specs.Region.{Region, octets_from}
use Rattle.iw_memory.specs.Table.{Table, region_at, octets_at}
use Rattle.iw_fpdu.specs.Frame.{frame_size, frame_end}
use Rattle.iw_fpdu.specs.Places.{data_place, data_index, place_after}
use Rattle.iw_fpdu.specs.Laying.{IsEdge}
use Rattle.iw_fpdu.proofs.Counted.{after_mono, aligned_edge, past_edge}
use Rattle.iw_queues.specs.declared.send_queue.Part.{Part}
use Rattle.iw_queues.specs.declared.request.Request.{Request}
use Rattle.iw_queues.specs.declared.request.Request.TheVariants.{Message, Read}
use Rattle.iw_queues.specs.Request.{payload, header_len}
use Rattle.iw_queues.specs.Queue.{part_from, part_of_first}
use Rattle.iw_queues.specs.Segments.{Numbers, segment_with, segment_of}
use Rattle.iw_reads.specs.declared.requests.Asked.{Asked}
use Rattle.iw_reads.specs.declared.response.ResponsePart.{ResponsePart}
use Rattle.iw_reads.specs.Requests.{part_for}
use Rattle.iw_octets.specs.Parts.{part_at}
use Rattle.iw_reads.specs.Response.{part_of_response, fetch_fault, fetched_octets}
use Rattle.iw_rdmap.specs.Laws.{terminate_head}
use Rattle.iw_startup.specs.declared.enhanced.Rtr.{Rtr}
use Rattle.iw_startup.specs.declared.enhanced.Rtr.TheVariants as rtrs
use Rattle.iw_stream.specs.Ending.{last_word}
use Rattle.iw_stream.specs.Judging.{fault_or}
use Rattle.iw_stream.specs.Rtr.{rtr_message, rtr_segment}
use Rattle.iw_stream.specs.Starting.{sending, first_place_out}
use Rattle.iw_stream.specs.Starting.{own_frame}
use Rattle.iw_stream.specs.Stream.{StreamState, Due, IsNothing, emission_due, frame_of_terminate, frame_of_part, frame_of_rtr, emission_fetched, StartUp, LastWord, Ready, Response, NextPart, NoneDue, due, message_due, part_due, response_due, may_go, octets_due, octets_fetched, frame_of, frame_fetched, rtr_due, is_mute, peer_of, is_read, owes_frame}
use Rattle.iw_stream.proofs.Lengths.{length-frame_of, length-rtr}

first_after : (m : Bool) (a : ℕ) → IsEdge m a → a + 1 ≤ place_after m a 1
unfolding place_after
first_after m a edge = omega (arith, past_edge m a edge, ap (data_place m) (add-zero (data_index m a)))

size_mono : (n k : ℕ) → n ≤ k → frame_size n ≤ frame_size k
size_mono n k le = omega arith

-- a longer segment is carried by a longer frame
frame_mono : (s : StreamState) (one other : Segment (List ℕ)) → (s.sent - first_place_out s.start) % 4 ≡ 0 → length (segment_octets one) ≤ length (segment_octets other)
    → length (frame_of s one) ≤ length (frame_of s other)
frame_mono s one other aligned le =
    let at = s.sent - first_place_out s.start in
    let m = (sending s.start).markers in
    let n = length (segment_octets one) in
    let k = length (segment_octets other) in
    let mono : frame_end m at n ≤ frame_end m at k = after_mono m at (frame_size n) (frame_size k) (aligned_edge m at aligned) (size_mono n k le) in
    omega (arith, length-frame_of s one, length-frame_of s other, mono)

-- a frame has octets
frame_some : (s : StreamState) (segment : Segment (List ℕ)) → (s.sent - first_place_out s.start) % 4 ≡ 0 → 0 < length (frame_of s segment)
frame_some s segment aligned =
    let at = s.sent - first_place_out s.start in
    let m = (sending s.start).markers in
    let n = length (segment_octets segment) in
    let edge = aligned_edge m at aligned in
    let past : at + 1 ≤ place_after m at 1 = first_after m at edge in
    let mono : place_after m at 1 ≤ frame_end m at n = after_mono m at 1 (frame_size n) edge (omega arith) in
    omega (arith, length-frame_of s segment, past, mono)

-- a segment whose ULPDU has n octets
abbrev pub of_len : ℕ → Segment (List ℕ)
of_len n = Untagged terminate_head (replicate (n - 18) 0)

pub length-of_len : (n : ℕ) → 18 ≤ n → length (segment_octets (of_len n)) ≡ n
length-of_len n long = omega (arith, length-segment_octets_untagged terminate_head (replicate (n - 18) 0), length-replicate {A = ℕ} (n - 18) 0)

ulpdu_short : (numbers : Numbers) (m : Request (List ℕ)) (offset n max : ℕ) (last : Bool) (octets : List ℕ) → 128 ≤ max → length octets ≤ n → n ≤ max - header_len m
    → length (segment_octets (segment_with numbers m offset last octets)) ≤ max
ulpdu_short numbers (Message (Write stag to all)) offset n max last octets least le room =
    let long : length (segment_octets (segment_with numbers (Message (Write stag to all)) offset last octets)) ≡ 14 + length octets = length-segment_octets_tagged _ octets in omega arith
ulpdu_short numbers (Message (Send all solicited invalidate)) offset n max last octets least le room =
    let long : length (segment_octets (segment_with numbers (Message (Send all solicited invalidate)) offset last octets)) ≡ 18 + length octets = length-segment_octets_untagged _ octets in omega arith
ulpdu_short numbers (Read request) offset n max last octets least le room =
    let long : length (segment_octets (segment_with numbers (Read request) offset last octets)) ≡ 18 + length (request_octets request) = length-segment_octets_untagged _ (request_octets request) in
    omega (arith, length-request_octets request)

module _ (table : Table) (s : StreamState) (aligned : (s.sent - first_place_out s.start) % 4 ≡ 0) (least : 128 ≤ s.mulpdu) where
  abbrev IsShort : Due → Type 0
  IsShort d = length (octets_due table s d) ≤ length (frame_of s (of_len s.mulpdu))

  short : (segment : Segment (List ℕ)) → length (segment_octets segment) ≤ s.mulpdu → length (frame_of s segment) ≤ length (frame_of s (of_len s.mulpdu))
  short segment le = frame_mono s segment (of_len s.mulpdu) aligned (omega (arith, le, length-of_len s.mulpdu (omega arith)))

  none_short : IsShort NoneDue
  none_short = omega arith

  rtr_short : (rtr : Rtr) → IsShort (Ready rtr)
  rtr_short rtrs.Write = short (rtr_segment s.numbers rtrs.Write) (omega (arith, length-rtr s.numbers rtrs.Write))
  rtr_short rtrs.Read = short (rtr_segment s.numbers rtrs.Read) (omega (arith, length-rtr s.numbers rtrs.Read))

  octets_few : (o : Option Region) (to n : ℕ) → length (option_map_or (λ r. octets_from r to n) o []) ≤ n
  octets_few None to n = omega arith
  octets_few (Some r) to n = omega (arith, length-take n (drop (to - r.base) r.octets))

  response_short : (part : ResponsePart) → part.n ≤ s.mulpdu - 14 → IsShort (Response part)
  response_short part room = go (fetch_fault table (peer_of s) part)
    where
      here : length (frame_of s (Tagged part.head (fetched_octets table part))) ≤ length (frame_of s (of_len s.mulpdu))
      here = short (Tagged part.head (fetched_octets table part))
          (omega (arith, length-segment_octets_tagged part.head (fetched_octets table part), octets_few (region_at table part.stag) part.to part.n, room, least))

      go : (o : Option Fault) → length (octets_fetched (fault_or o (frame_of s (Tagged part.head (fetched_octets table part))))) ≤ length (frame_of s (of_len s.mulpdu))
      go None = here
      go (Some fault) = omega arith

  part_short : (part : Part (Request (List ℕ))) → part.n ≤ s.mulpdu - header_len part.message → IsShort (NextPart part)
  part_short part room =
      short (segment_of s.numbers part)
      (ulpdu_short s.numbers part.message part.offset part.n s.mulpdu part.last (take part.n (drop part.offset (payload part.message))) least (omega (arith, length-take part.n (drop part.offset (payload part.message)))) room)

  -- of what was posted
  posted_short : (unsent : List (Request (List ℕ))) (ticket offset most : ℕ) → IsShort (option_map_or NextPart (may_go most s.reads (part_of_first ticket unsent offset s.mulpdu)) NoneDue)
  posted_short [] ticket offset most = none_short
  posted_short (message ∷ messages) ticket offset most = go (is_read message && nat_le most (length s.reads))
    where
      go : (b : Bool) → IsShort (option_map_or NextPart (cond b None (part_of_first ticket (message ∷ messages) offset s.mulpdu)) NoneDue)
      go true = none_short
      go false = part_short (part_from ticket message offset s.mulpdu) (omega arith)

  asked_short : (unanswered : List Asked) (fetched : ℕ) (d : Due) → IsShort d → (b : Bool) → IsShort (option_map_or Response (cond b None (part_for unanswered fetched s.mulpdu)) d)
  asked_short unanswered fetched d other true = other
  asked_short [] fetched d other false = other
  asked_short (asked ∷ beyond) fetched d other false = response_short (part_of_response asked.request (part_at asked.request.size (s.mulpdu - 14) fetched)) (omega arith)

  message_short : IsShort (message_due s)
  message_short = asked_short s.asked.unanswered s.asked.fetched (option_map_or NextPart (part_due s) NoneDue) (posted_short _ _ _ _) (nat_lt 0 s.queue.offset)

  -- of all but a start-up frame and a Terminate
  pub next_short : (mute : Bool) (rtr : Option Rtr) → IsShort (cond mute NoneDue (option_map_or Ready rtr (message_due s)))
  next_short true rtr = none_short
  next_short false None = message_short
  next_short false (Some rtr) = rtr_short rtr

-- what has no octets is no frame
no_octets_no_frame : (table : Table) (s : StreamState) (d : Due) → (s.sent - first_place_out s.start) % 4 ≡ 0 → (d ≡ StartUp → 0 < length (own_frame s.start)) → length (octets_due table s d) ≡ 0 → IsNothing (emission_due table s d)
no_octets_no_frame table s StartUp aligned own none = absurd (omega (arith, own refl))
no_octets_no_frame table s (LastWord payload) aligned own none = absurd (omega (arith, frame_some s (Untagged terminate_head payload) aligned))
no_octets_no_frame table s (Ready rtr) aligned own none = absurd (omega (arith, frame_some s (rtr_segment s.numbers rtr) aligned))
no_octets_no_frame table s (Response part) aligned own none = go (fetch_fault table (peer_of s) part) none
  where
    fetched : Segment (List ℕ)
    fetched = Tagged part.head (fetched_octets table part)

    go : (o : Option Fault) → length (octets_fetched (fault_or o (frame_of s fetched))) ≡ 0
        → IsNothing (emission_fetched s part (fault_or o (frame_of s fetched)))
    go None none = absurd (omega (arith, frame_some s fetched aligned))
    go (Some fault) none = tt
no_octets_no_frame table s (NextPart part) aligned own none = absurd (omega (arith, frame_some s (segment_of s.numbers part) aligned))
no_octets_no_frame table s NoneDue aligned own none = tt

-- ---- what is due is no start-up frame, unless one is owed
abbrev is_startup : Due → Bool
is_startup StartUp = true
is_startup (LastWord payload) = false
is_startup (Ready rtr) = false
is_startup (Response part) = false
is_startup (NextPart part) = false
is_startup NoneDue = false

posted_later : (o : Option (Part (Request (List ℕ)))) → is_startup (option_map_or NextPart o NoneDue) ≡ false
posted_later None = refl
posted_later (Some part) = refl

asked_later : (o : Option ResponsePart) (d : Due) → is_startup d ≡ false → is_startup (option_map_or Response o d) ≡ false
asked_later None d e = e
asked_later (Some part) d e = refl

ready_later : (mute : Bool) (o : Option Rtr) (d : Due) → is_startup d ≡ false → is_startup (cond mute NoneDue (option_map_or Ready o d)) ≡ false
ready_later true o d e = refl
ready_later false None d e = e
ready_later false (Some rtr) d e = refl

word_later : (o : Option (List ℕ)) (d : Due) → is_startup d ≡ false → is_startup (option_map_or LastWord o d) ≡ false
word_later None d e = e
word_later (Some payload) d e = refl

due_later : (s : StreamState) → owes_frame s ≡ false → is_startup (due s) ≡ false
due_later s owes =
    let rest : Due = option_map_or LastWord (last_word s.ending) (cond (is_mute s) NoneDue (option_map_or Ready (rtr_due s) (message_due s))) in
    ap (λ b. is_startup (cond b StartUp rest)) owes
    ∙ word_later (last_word s.ending) _ (ready_later (is_mute s) (rtr_due s) (message_due s) (asked_later (response_due s) _ (posted_later (part_due s))))

pub no_octets_later : (table : Table) (s : StreamState) → (s.sent - first_place_out s.start) % 4 ≡ 0 → owes_frame s ≡ false → length (octets_due table s (due s)) ≡ 0 → IsNothing (emission_due table s (due s))
no_octets_later table s aligned owes none = no_octets_no_frame table s (due s) aligned (λ e. absurd (true≢false (sym (ap is_startup e) ∙ due_later s owes))) none
