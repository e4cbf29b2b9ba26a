-- What goes out keeps what the state of a stream has in common with its acts: messages, the RTR, the start-up frame, the Terminate, responses.
use Rattle.std.proofs.Common.{◌≡◌, ℕ, zero, suc, take, length-drop, ◌+◌, ◌-◌, ◌%◌, ◌^◌, ◌<◌, ◌≤◌, List, [], ◌∷◌, ◌++◌, length, drop, map, Option, Some, None, Bool, true, false, cond, refl, sym, ap, ◌∙◌, subst, arith, length-append, append_assoc, length-take, inl, inr, ◌⊎◌}
use Rattle.std.specs.Prelude.{nat_lt, nat_eq, is_some, ◌&&◌}
use Rattle.std.proofs.lemmas.List.{append-nil, map-append, length_push}
use Rattle.std.proofs.lemmas.Option.{none-some}
use Rattle.std.proofs.lemmas.Bool.Decides.{nat_tests}
use Rattle.std.proofs.lemmas.Bool.{true≢false, false≢true}
use Rattle.iw_octets.specs.declared.payload.ReadRequest.{ReadRequest}
use Rattle.iw_octets.specs.declared.stag.Stag.{Stag}
use Rattle.iw_octets.specs.Payload.{FitsRequest, request_octets, read_request}
use Rattle.iw_octets.specs.Parts.{part_at}
use Rattle.iw_octets.proofs.Spelled.{read_request-spelled}
use Rattle.iw_octets.proofs.Segments.{read_segment-spelled}
use Rattle.iw_octets.specs.Segment.{read_segment}
use Rattle.iw_memory.specs.declared.peer.Peer.{Peer}
use Rattle.iw_memory.specs.declared.refusal.Deny.{Deny}
use Rattle.iw_memory.specs.declared.rights.Right.{Right}
use Rattle.iw_memory.specs.declared.rights.Right.TheVariants as rights
use Rattle.iw_memory.specs.Region.{Region, octets_from}
use Rattle.iw_memory.specs.Laws.{Serves}
use Rattle.iw_fpdu.specs.Laws.{IsBetween}
use Rattle.iw_fpdu.specs.Sequence.{Carried, intact, first_frame}
use Rattle.iw_fpdu.proofs.Sequences.{between_past, written_is_first}
use Rattle.iw_queues.specs.declared.request.Request.TheVariants.{Message as Posted, Read}
use Rattle.iw_queues.specs.Queue.{next_part}
use Rattle.iw_queues.specs.Segments.{segment_with}
use Rattle.iw_queues.specs.Request.{payload}
use Rattle.iw_octets.specs.declared.message.Message.TheVariants.{Write, Send}
use Rattle.iw_reads.specs.declared.reads.Outstanding.{Outstanding}
use Rattle.iw_reads.specs.declared.requests.Asked.{Asked}
use Rattle.iw_reads.specs.declared.response.ResponsePart.{ResponsePart}
use Rattle.iw_reads.specs.Outstanding.{asked_for}
use Rattle.iw_reads.specs.Requests.{Requested, part_for, part_fetched}
use Rattle.iw_reads.specs.Requests as requests
use Rattle.iw_reads.specs.Response.{response_head, part_of_response}
use Rattle.iw_reads.specs.Source.{denial_fault}
use Rattle.std.specs.Option.{option_map, option_map_or}
use Rattle.std.specs.Prelude.{IsSomeAnd, nat_le, min, not}
use Rattle.std.proofs.lemmas.Option.{same_Some}
use Rattle.iw_laws.specs.Turns.{Story, story_after, segment_out, read_out, is_last, sends_segment, is_rtr, sends_rtr, sends_frame, says_farewell, fetches_for, carries_response}
use Rattle.iw_laws.specs.Merged.{response_segment}
use Rattle.iw_laws.specs.Rules.{FitsPosted}
use Rattle.iw_laws.proofs.Merges.{Merges, with_left, merges_sent, merges_part, merges_last, merges_front}
use Rattle.iw_laws.proofs.Ready.{ready_in, ready_room, ready_due, ReadsAre, Apart, Leads}
use Rattle.iw_octets.specs.declared.segment.Segment.{Segment}
use Rattle.iw_octets.specs.declared.segment.Segment.TheVariants.{Tagged}
use Rattle.iw_octets.specs.Segment.{segment_octets}
use Rattle.iw_memory.specs.Table.{Table, region_at, octets_at, denial_for}
use Rattle.iw_memory.proofs.Callers.{allows}
use Rattle.iw_fpdu.specs.declared.layout.Layout.{Layout}
use Rattle.iw_fpdu.specs.Frame.{frame_octets}
use Rattle.iw_fpdu.specs.Sequence.{sequence, place_past}
use Rattle.iw_fpdu.proofs.Sequences.{sequences_join, place_is}
use Rattle.iw_fpdu.proofs.Follows.{frames_follow}
use Rattle.iw_queues.specs.declared.request.Request.{Request}
use Rattle.iw_queues.specs.declared.send_queue.Part.{Part}
use Rattle.iw_queues.specs.Segments.{Numbers, first_numbers, segment_of, AreSegments}
use Rattle.iw_queues.proofs.Limits.{limits_sent}
use Rattle.iw_startup.specs.declared.enhanced.Rtr.{Rtr}
use Rattle.iw_startup.specs.declared.enhanced.Rtr.TheVariants as rtrs
use Rattle.iw_stream.specs.Rtr.{rtr_message, rtr_request, rtr_segment}
use Rattle.iw_startup.specs.State.{answered}
use Rattle.iw_stream.specs.Starting.{sending, own_frame, most_reads_in, first_place_out, rtr_in}
use Rattle.iw_stream.specs.Stream.{StreamState, StartUp, NextPart, LastWord, due, emission_of, emitted, response_due, frame_of, is_read, reads_with, Ready, peer_of}
use Rattle.iw_stream.specs.Ending.{last_word}
use Rattle.iw_laws.specs.Sends.{farewells, terminate_segment, count_reads}
use Rattle.iw_stream.specs.Work.{waiting}
use Rattle.iw_events.specs.declared.act.StreamAct.TheVariants.{Emit}
use Rattle.iw_events.specs.declared.act.Shown.TheVariants.{Frame, Fetched}
use Rattle.iw_laws.specs.Words.{Octets, listed}
use Rattle.iw_laws.specs.Rules.{shown_of}
use Rattle.iw_laws.specs.Words.{OnSome}
use Rattle.iw_laws.proofs.Told.{left_frame, after_act, told}
use Rattle.iw_laws.proofs.Tales.{Tale, tale_after}
use Rattle.iw_laws.proofs.Tracks.{may, unanswered}
use Rattle.iw_laws.proofs.Lists.{Each, each-push, each-first}
use Rattle.iw_laws.proofs.Counts.{rtr_whole, Counts, handing_of, same_handing, same_counts, part_counts, part_ticket, one_for, count_last, count_last-append, none_outstanding, last_of, plain_part, whole_of}
use Rattle.iw_laws.proofs.Sending.{IsSendable, EmitsStart, EmitsLast, EmitsReady, EmitsPart, EmitsResponse, emits_as, shown_good, response_good, shows, past_small, next_small, terminate_good, rtr_fits, rtr_good, rtr_plain, rtr_spelled}
use Rattle.iw_laws.proofs.Owned.{IsFramed, Spoken, Asks, Emits, word_unbroken, runs_unbroken, runs_quiet, all_spoken, owes_some, stays_said, same_asks, same_merges, more_counts, same_parts, loud_parts, Live, lives, alone_out, first_fits, alone, nothing_framed, past_start, before_start, nothing_out, ready_gone, not_rtr}

-- ---- frames that go out

-- a frame that goes out past others is read again as the segment that it carries
record IsRead (s : StreamState) (t : Tale) (from : ℕ) (octets : Octets) (segment : Segment Octets) (segments : List (Segment Octets)) : Type 0 where
  pub framed : t.sent ++ octets ≡ own_frame s.start ++ sequence (sending s.start) 0 (map segment_octets (segments ++ segment ∷ []))
  pub past : nat_lt from (first_place_out t.story.start) ≡ false
  pub told : carries_response segment ≡ false → segment_out t.story from octets ≡ Some segment

not_below : (n m : ℕ) → nat_lt n m ≡ false → m ≤ n
not_below n m h = grind (arith, nat_tests)

reads_again : (s : StreamState) (t : Tale) (from : ℕ) (octets : Octets) (segment : Segment Octets) → t.story.start ≡ s.start → from ≡ s.sent → nat_lt s.sent (first_place_out s.start) ≡ false → octets ≡ frame_of s segment → IsSendable segment → s.sent ≡ length t.sent
    → (e : Emits s t) → farewells t.story.farewell ≡ [] → IsRead s t from octets segment e.segments
reads_again s t from octets segment start from_is spoken octets_are good sent e none =
    let us : List (List ℕ) = map segment_octets e.segments in
    let own : Octets = own_frame s.start in
    let layout : Layout = sending s.start in
    let framed : t.sent ≡ own ++ sequence layout 0 us = past_start s t e sent spoken ∙ ap (λ z. own ++ sequence layout 0 (map segment_octets z)) (alone_out e.segments (farewells t.story.farewell) none) in
    let between : IsBetween layout.markers (place_past layout 0 us) = between_past layout 0 us (frames_follow.first layout.markers) in
    let place : place_past layout 0 us ≡ s.sent - length own =
    place_is layout 0 us (frames_follow.first layout.markers) ∙ omega (arith, ap length framed, length-append own (sequence layout 0 us), sent) in
    let one : sequence layout (place_past layout 0 us) (segment_octets segment ∷ []) ≡ octets =
    ap (λ n. sequence layout n (segment_octets segment ∷ [])) place ∙ alone layout (s.sent - length own) (segment_octets segment) ∙ sym octets_are in
    let more : sequence layout 0 us ++ octets ≡ sequence layout 0 (map segment_octets (e.segments ++ segment ∷ [])) =
    ap (λ z. sequence layout 0 us ++ z) (sym one) ∙ sym (sequences_join layout 0 us (segment_octets segment ∷ [])) ∙ ap (sequence layout 0) (sym (map-append segment_octets e.segments (segment ∷ []))) in
    let first : first_frame layout (s.sent - length own) octets ≡ Some (intact (segment_octets segment), []) =
    ap (first_frame layout (s.sent - length own)) (octets_are ∙ sym (append-nil (frame_octets layout (s.sent - length own) (segment_octets segment))))
    ∙ written_is_first layout (s.sent - length own) (segment_octets segment) [] (subst (IsBetween layout.markers) place between) good.small in
    record {
      framed = ap (λ z. z ++ octets) framed ∙ append_assoc own (sequence layout 0 us) octets ∙ ap (λ z. own ++ z) more;
      past = (λ i. nat_lt (from_is i) (first_place_out (start i))) ∙ spoken;
      told = λ plain. (λ i. cond (nat_lt (from_is i) (first_place_out (start i))) None (option_map_or (λ (first : Carried × Octets). read_segment first.0.ulpdu) (first_frame (sending (start i)) (from_is i - first_place_out (start i)) octets) None))
          ∙ ap (λ b. cond b None (option_map_or (λ (first : Carried × Octets). read_segment first.0.ulpdu) (first_frame layout (s.sent - length own) octets) None)) spoken
          ∙ ap (λ o. option_map_or (λ (first : Carried × Octets). read_segment first.0.ulpdu) o None) first
          ∙ read_segment-spelled segment (good.fits plain);
    }

-- the Read that a segment of a message asks for
asks_read : (numbers : Numbers) (m : Request Octets) (offset : ℕ) (last : Bool) (octets : Octets) (reads : List Outstanding) (ticket : Option ℕ) → FitsPosted m
    → option_map_or (asked_for reads ticket) (read_out (segment_with numbers m offset last octets)) reads ≡ reads_with reads ticket m
asks_read numbers m offset last octets reads ticket fits = go m fits
  where
    again : (request : ReadRequest) → FitsRequest request → read_request (request_octets request) ≡ Some (request, [])
    again request fits = ap read_request (sym (append-nil (request_octets request))) ∙ read_request-spelled request [] fits

    go : (m : Request Octets) → FitsPosted m → option_map_or (asked_for reads ticket) (read_out (segment_with numbers m offset last octets)) reads ≡ reads_with reads ticket m
    go (Posted (Write stag to octets)) fits = refl
    go (Posted (Send octets solicited invalidate)) fits = refl
    go (Read request) fits = ap (λ o. option_map_or (asked_for reads ticket) (option_map (λ (read : ReadRequest × Octets). read.0) o) reads) (again request fits)

-- fewer than may be are outstanding where a Read goes out
still_few : (most : ℕ) (reads : List Outstanding) (ticket : Option ℕ) (m : Request Octets) → length reads ≤ most → (is_read m && nat_le most (length reads)) ≡ false → length (reads_with reads ticket m) ≤ most
still_few most reads ticket (Posted m) few room = few
still_few most reads ticket (Read request) few room =
    let less : length reads < most = grind (arith, nat_tests) in
    omega (arith, less, length_push reads (record { ticket = ticket; request = request; turned = 0 }))

part_fits : (s : StreamState) (part : Part (Request Octets)) → next_part s.queue s.mulpdu ≡ Some part → Each FitsPosted s.queue.unsent → FitsPosted part.message
part_fits s part due fit =
    let w = shows s.queue s.mulpdu part due in
    subst FitsPosted (sym (ap (λ (p : Part (Request Octets)). p.message) w.is)) (first_fits s.queue fit w.message w.messages w.unsent)

-- nothing is begun of a response where a part of a message is due
unbegun : (s : StreamState) (t : Tale) → (e : Emits s t) → (s.queue.offset ≡ 0) ⊎ (t.story.begun ≡ []) → response_due s ≡ None → t.story.begun ≡ []
unbegun s t e apart calm = elim apart [ inl zero_is ↦ by_waiting s.asked.unanswered refl zero_is | inr nil ↦ nil ]
  where
    no_octets : (xs : Octets) → length xs ≡ 0 → xs ≡ []
    no_octets [] h = refl
    no_octets (x ∷ xs) h = absurd (omega (arith, h))

    by_waiting : (waiting : List Asked) → s.asked.unanswered ≡ waiting → s.queue.offset ≡ 0 → t.story.begun ≡ []
    by_waiting [] is zero_is = no_octets t.story.begun (let none : s.asked.fetched ≡ 0 = subst (λ z. requests.IsBegun z s.asked.fetched) is e.asks.begun in omega (arith, none, e.asks.fetched))
    by_waiting (x ∷ xs) is zero_is =
        absurd (none-some _ (sym calm ∙ (λ i. cond (nat_lt 0 (zero_is i)) None (part_for (is i) s.asked.fetched s.mulpdu))))

-- a part is sent
sends_part : (s : StreamState) (t : Tale) (from : ℕ) (octets : Octets) → (p : EmitsPart s from octets) → t.story.start ≡ s.start → s.sent ≡ length t.sent → Emits s t → Emits (left_frame s (NextPart p.part)) (tale_after t (Emit (Frame from octets)))
sends_part s t from octets p start sent e =
    let part : Part (Request Octets) = p.part in
    let loud = p.is_loud in
    let l = lives s t e loud.running in
    let segment : Segment Octets = segment_of s.numbers part in
    let s' : StreamState = left_frame s (NextPart part) in
    let good : IsSendable segment = shown_good s.numbers s.queue s.mulpdu part loud.part_is l.limits e.enough e.few e.numbers (first_fits s.queue l.fit) in
    let spoken : nat_lt s.sent (first_place_out s.start) ≡ false = all_spoken s loud.spoken (runs_unbroken s.ending loud.running) in
    let r = reads_again s t from octets segment start p.from_is spoken p.octets_are good sent e l.none in
    let fits : FitsPosted part.message = part_fits s part loud.part_is l.fit in
    let none : t.story.begun ≡ [] = unbegun s t e l.merges.apart loud.quiet in
    let gone : e.left ≡ [] = ready_gone s t e sent loud.running loud.spoken loud.unready in
    let ticket : part.ticket ≡ t.story.whole % 2 ^ 64 = part_ticket s.queue s.mulpdu part t.story.whole t.posted t.handed e.done e.asking loud.part_is l.counts ∙ ap (λ n. n % 2 ^ 64) (sym l.counts.lasts) in
    let quiet : last_word t.story.ending ≡ None = ap last_word e.parts.ending ∙ runs_quiet s.ending loud.running in
    let story : story_after t.story (Emit (Frame from octets)) ≡ sends_segment t.story segment =
    (λ i. cond (r.past i) t.story (option_map_or (says_farewell t.story) (quiet i) (option_map_or (sends_frame t.story (not_rtr s t from start p.from_is sent spoken e gone l.none i)) (r.told (plain_part s.numbers part) i) t.story))) in
    let reads : (sends_segment t.story segment).reads ≡ reads_with s.reads (Some part.ticket) part.message =
    ap (λ z. option_map_or (asked_for z (Some (t.story.whole % 2 ^ 64))) (read_out segment) z) e.asks.reads ∙ asks_read s.numbers part.message part.offset part.last (take part.n (drop part.offset (payload part.message))) s.reads (Some (t.story.whole % 2 ^ 64)) fits
    ∙ ap (λ n. reads_with s.reads (Some n) part.message) (sym ticket) in
    let sent_counts = part_counts s.queue t.story.whole t.posted t.handed e.done e.asking s.mulpdu part loud.part_is l.counts in
    let whole : (sends_segment t.story segment).whole ≡ t.story.whole + one_for part.last = one_whole (is_last segment) part.last (last_of s.numbers s.queue s.mulpdu part loud.part_is) t.story.whole in
    let counts = more_counts (sym whole) sent_counts in
    let out : (e.segments ++ segment ∷ []) ++ farewells t.story.farewell ≡ e.segments ++ segment ∷ [] = alone_out (e.segments ++ segment ∷ []) (farewells t.story.farewell) l.none in
    subst (λ z. Emits s' (record (tale_after t (Emit (Frame from octets))) { story = z })) (sym story)
    (record {
      segments = e.segments ++ segment ∷ [];
      kept = s'.queue;
      before = t.handed ++ [];
      left = [];
      done = e.done;
      asking = reads_with e.asking (Some part.ticket) part.message;
      live = λ h. record { queue = refl; handed = refl };
      merges = same_merges refl refl refl none (ap (λ z. ready_in s.start ++ z) (append-nil t.posted)) refl
          (merges_part s.queue s.numbers s.asked.unanswered (ready_in s.start ++ t.posted) t.story.answers e.segments s.mulpdu part e.enough e.few loud.part_is (same_merges (λ i. with_left (sym gone i) s.queue) refl refl (sym none) refl refl l.merges));
      spoken = inl refl;
      asks = record {
        reads = reads;
        asked = e.asks.asked;
        fetched = e.asks.fetched;
        begun = e.asks.begun;
        few = still_few (most_reads_in s.start) s.reads (Some part.ticket) part.message e.asks.few loud.room;
      };
      good = subst (Each IsSendable) (sym out) (each-push IsSendable e.segments segment l.good good);
      framed = subst (IsFramed s.start (t.sent ++ octets)) (sym out) (Spoken r.framed);
      parts = loud_parts s s' t.story (sends_segment t.story segment) e.segments (e.segments ++ segment ∷ []) loud.started loud.loud (record { ending = refl; told = refl; farewell = refl }) e.parts;
      limits = limits_sent s.queue s.mulpdu part loud.part_is l.limits;
      fit = subst (Each FitsPosted) (sym (append-nil t.posted)) e.fit;
      numbers = past_small s.numbers part e.numbers;
      size = e.size;
      enough = e.enough;
      few = e.few;
      counts = counts;
      handing = handing_of counts;
      reads = asks_more gone part.ticket part.message e.reads;
      whole = omega (arith, count_last-append e.segments (segment ∷ []), ap one_for (whole_of s.numbers s.queue s.mulpdu part loud.part_is), whole, e.whole, ap length gone);
    })
  where
    one_whole : (b last : Bool) → b ≡ last → (w : ℕ) → cond b (w + 1) w ≡ w + one_for last
    one_whole true true is w = refl
    one_whole false false is w = omega arith
    one_whole true false is w = absurd (true≢false is)
    one_whole false true is w = absurd (false≢true is)

    asks_more : {ready left : List (Request Octets)} {reads asking : List Outstanding} {answered done : ℕ} → left ≡ [] → (ticket : ℕ) (m : Request Octets) → ReadsAre ready left reads asking answered done
        → ReadsAre ready [] (reads_with reads (Some ticket) m) (reads_with asking (Some ticket) m) answered done
    asks_more gone ticket (Posted m) (Apart same sum) = Apart same (omega (arith, sum, ap count_reads gone))
    asks_more gone ticket (Posted m) (Leads rtr none is answered done left one) = Leads rtr none is answered done refl one
    asks_more gone ticket (Read request) (Apart same sum) = Apart (ap (λ z. asked_for z (Some ticket) request) same) (omega (arith, sum, ap count_reads gone))
    asks_more gone ticket (Read request) (Leads rtr none is answered done left one) = Leads rtr none (ap (λ z. asked_for z (Some ticket) request) is) answered done refl one

-- the RTR is sent
sends_ready : (s : StreamState) (t : Tale) (from : ℕ) (octets : Octets) → (p : EmitsReady s from octets) → t.story.start ≡ s.start → s.sent ≡ length t.sent → Emits s t → Emits (left_frame s (Ready p.rtr)) (tale_after t (Emit (Frame from octets)))
sends_ready s t from octets p start sent e =
    let rtr : Rtr = p.rtr in
    let message : Request Octets = rtr_message p.rtr in
    let l = lives s t e p.speaks.running in
    let due = ready_due s p.rtr p.is_due in
    let segment : Segment Octets = rtr_segment s.numbers p.rtr in
    let s' : StreamState = left_frame s (Ready p.rtr) in
    let good : IsSendable segment = rtr_good s.numbers p.rtr e.numbers in
    let spoken : nat_lt s.sent (first_place_out s.start) ≡ false = all_spoken s p.speaks.spoken (runs_unbroken s.ending p.speaks.running) in
    let r = reads_again s t from octets segment start p.from_is spoken p.octets_are good sent e l.none in
    let nothing : e.segments ≡ [] = sym (alone_out e.segments (farewells t.story.farewell) l.none) ∙ nothing_out s t e sent spoken due.place in
    let ready : ready_in s.start ≡ message ∷ [] = ap (λ o. listed (option_map rtr_message o)) due.agreed in
    let left : e.left ≡ message ∷ [] = elim e.spoken [
      | inl gone ↦ absurd (omega (arith, e.whole, ap count_last nothing, ap length gone, ap length ready))
      | inr all ↦ all.1 ∙ ready
    ] in
    let unsent : t.story.whole ≡ 0 = omega (arith, e.whole, ap count_last nothing, ap length left, ap length ready) in
    let numbers : s.numbers ≡ first_numbers = (l.merges.fresh nothing).numbers_are in
    let quiet : last_word t.story.ending ≡ None = ap last_word e.parts.ending ∙ runs_quiet s.ending p.speaks.running in
    let first : is_rtr t.story from ≡ true = (λ i. is_some (rtr_in (start i)) && nat_eq (p.from_is i) (first_place_out (start i))) ∙ (λ i. is_some (due.agreed i) && nat_eq (due.place i) (first_place_out s.start)) ∙ same_number (first_place_out s.start) in
    let story : story_after t.story (Emit (Frame from octets)) ≡ sends_rtr t.story segment =
    (λ i. cond (r.past i) t.story (option_map_or (says_farewell t.story) (quiet i) (option_map_or (sends_frame t.story (first i)) (r.told (rtr_plain s.numbers p.rtr) i) t.story))) in
    let reads : (sends_rtr t.story segment).reads ≡ reads_with s.reads None message =
    ap (λ z. option_map_or (asked_for z None) (read_out segment) z) e.asks.reads ∙ asks_read s.numbers message 0 true [] s.reads None (rtr_fits p.rtr) in
    let none : length e.asking ≡ 0 = none_outstanding unsent e.counts in
    let few : e.done ≤ 0 = omega (arith, e.counts.some, ap count_reads (no_messages e.counts.first (sym e.counts.lasts ∙ unsent))) in
    let old : ReadsAre (message ∷ []) (message ∷ []) s.reads e.asking t.story.answered e.done =
    subst (λ z. ReadsAre (message ∷ []) z s.reads e.asking t.story.answered e.done) left (subst (λ z. ReadsAre z e.left s.reads e.asking t.story.answered e.done) ready e.reads) in
    let now : ReadsAre (message ∷ []) [] (reads_with s.reads None message) e.asking t.story.answered e.done = asked p.rtr s.reads e.asking none few old in
    let out : (e.segments ++ segment ∷ []) ++ farewells t.story.farewell ≡ e.segments ++ segment ∷ [] = alone_out (e.segments ++ segment ∷ []) (farewells t.story.farewell) l.none in
    let merges : Merges (with_left (message ∷ []) s.queue) s.numbers s.asked.unanswered t.story.begun (message ∷ t.posted) t.story.answers e.segments =
    same_merges (λ i. with_left (sym left i) s.queue) refl refl refl (λ i. sym ready i ++ t.posted) refl l.merges in
    let spelled : AreSegments first_numbers message 0 (segment ∷ []) = subst (λ n. AreSegments first_numbers message 0 (rtr_segment n p.rtr ∷ [])) (sym numbers) (rtr_spelled p.rtr) in
    subst (λ z. Emits s' (record (tale_after t (Emit (Frame from octets))) { story = z })) (sym story)
    (record {
      segments = e.segments ++ segment ∷ [];
      kept = s.queue;
      before = t.handed ++ [];
      left = [];
      done = e.done;
      asking = e.asking;
      live = λ h. record { queue = refl; handed = refl };
      merges = same_merges refl refl refl refl ((λ i. ready i ++ (t.posted ++ [])) ∙ ap (λ z. message ∷ z) (append-nil t.posted)) refl
          (merges_sent s.queue s.numbers s.asked.unanswered t.story.begun t.posted t.story.answers e.segments message segment nothing spelled merges);
      spoken = inl refl;
      asks = record {
        reads = reads;
        asked = e.asks.asked;
        fetched = e.asks.fetched;
        begun = e.asks.begun;
        few = room p.rtr due.agreed old none e.asks.few;
      };
      good = subst (Each IsSendable) (sym out) (each-push IsSendable e.segments segment l.good good);
      framed = subst (IsFramed s.start (t.sent ++ octets)) (sym out) (Spoken r.framed);
      parts = loud_parts s s' t.story (sends_rtr t.story segment) e.segments (e.segments ++ segment ∷ []) p.speaks.started p.speaks.loud (record { ending = refl; told = refl; farewell = refl }) e.parts;
      limits = l.limits;
      fit = subst (Each FitsPosted) (sym (append-nil t.posted)) e.fit;
      numbers = next_small s.numbers message e.numbers;
      size = e.size;
      enough = e.enough;
      few = e.few;
      counts = same_counts refl (append-nil t.posted) (append-nil t.handed) refl refl l.counts;
      handing = handing_of (same_counts refl (append-nil t.posted) (append-nil t.handed) refl refl l.counts);
      reads = subst (λ z. ReadsAre z [] (reads_with s.reads None message) e.asking t.story.answered e.done) (sym ready) now;
      whole = omega (arith, ap count_last nothing, count_last-append e.segments (segment ∷ []), ap one_for (rtr_whole s.numbers p.rtr), unsent, ap length ready);
    })
  where
    same_number : (n : ℕ) → nat_eq n n ≡ true
    same_number n = grind (arith, nat_tests)

    no_messages : (xs : List (Request Octets)) → length xs ≡ 0 → xs ≡ []
    no_messages [] h = refl
    no_messages (x ∷ xs) h = absurd (omega (arith, h))

    no_reads : (xs : List Outstanding) → length xs ≡ 0 → xs ≡ []
    no_reads [] h = refl
    no_reads (x ∷ xs) h = absurd (omega (arith, h))

    asked : (rtr : Rtr) (reads asking : List Outstanding) {answered done : ℕ} → length asking ≡ 0 → done ≤ 0 → ReadsAre (rtr_message rtr ∷ []) (rtr_message rtr ∷ []) reads asking answered done
        → ReadsAre (rtr_message rtr ∷ []) [] (reads_with reads None (rtr_message rtr)) asking answered done
    asked rtr reads asking none few (Leads old ticket is zero_is done left one) = absurd (omega (arith, ap length left))
    asked rtrs.Write reads asking none few (Apart same sum) = Apart same sum
    asked rtrs.Read reads asking none few (Apart same sum) =
        let nil : asking ≡ [] = no_reads asking none in
        let request : Outstanding = record { ticket = None; request = rtr_request; turned = 0 } in
        Leads request refl (ap (λ z. z ++ request ∷ []) (same ∙ nil) ∙ ap (λ z. request ∷ z) (sym nil)) (omega (arith, sum, few)) (omega (arith, few)) refl refl

    room : (rtr : Rtr) → rtr_in s.start ≡ Some rtr → {asking : List Outstanding} {answered done : ℕ} → ReadsAre (rtr_message rtr ∷ []) (rtr_message rtr ∷ []) s.reads asking answered done → length asking ≡ 0 → length s.reads ≤ most_reads_in s.start
        → length (reads_with s.reads None (rtr_message rtr)) ≤ most_reads_in s.start
    room rtr agreed (Leads old ticket is zero_is done left one) none few = absurd (omega (arith, ap length left))
    room rtrs.Write agreed (Apart same sum) none few = few
    room rtrs.Read agreed (Apart same sum) none few = omega (arith, ready_room s.start agreed, length_push s.reads (record { ticket = None; request = rtr_request; turned = 0 }), ap length same, none)

-- the start-up frame is sent
sends_start : (s : StreamState) (t : Tale) (from : ℕ) (octets : Octets) → EmitsStart s from octets → t.story.start ≡ s.start → s.sent ≡ length t.sent → Emits s t → Emits (left_frame s StartUp) (tale_after t (Emit (Frame from octets)))
sends_start s t from octets p start sent e =
    let s' : StreamState = left_frame s StartUp in
    let before = before_start s t e sent p.owes in
    let first : nat_lt from (first_place_out t.story.start) ≡ true = (λ i. nat_lt (p.from_is i) (first_place_out (start i))) ∙ (owes_some s p.owes).1 in
    let story : story_after t.story (Emit (Frame from octets)) ≡ t.story =
    ap (λ b. cond b t.story (option_map_or (says_farewell t.story) (last_word t.story.ending) (option_map_or (sends_frame t.story (is_rtr t.story from)) (segment_out t.story from octets) t.story))) first in
    subst (λ z. Emits s' (record (tale_after t (Emit (Frame from octets))) { story = z })) (sym story)
    (record {
      segments = e.segments;
      kept = e.kept;
      before = e.before;
      left = e.left;
      done = e.done;
      asking = e.asking;
      live = λ h. let l = e.live h in record { queue = l.queue; handed = append-nil t.handed ∙ l.handed };
      merges = same_merges refl refl refl refl (ap (λ z. ready_in s.start ++ z) (append-nil t.posted)) refl e.merges;
      spoken = e.spoken;
      asks = same_asks s s' t.story t.story refl refl (stays_said t.story) e.asks.few e.asks;
      good = e.good;
      framed = Spoken
          (ap (λ z. z ++ octets) before.0 ∙ p.octets_are ∙ sym (append-nil (own_frame s.start)) ∙ (λ i. own_frame s.start ++ sym (nothing_framed (sending s.start)) i)
          ∙ ap (λ z. own_frame s.start ++ sequence (sending s.start) 0 (map segment_octets z)) (sym before.1));
      parts = same_parts s s' t.story t.story e.segments (record { ending = refl; told = refl; farewell = refl }) e.parts (λ h. h) (λ h. h);
      limits = e.limits;
      fit = subst (Each FitsPosted) (sym (append-nil t.posted)) e.fit;
      numbers = e.numbers;
      size = e.size;
      enough = e.enough;
      few = e.few;
      counts = same_counts refl (append-nil t.posted) refl refl refl e.counts;
      handing = same_handing refl (append-nil t.posted) (append-nil t.handed) refl e.handing;
      reads = e.reads;
      whole = e.whole;
    })

-- the Terminate that is due is sent
sends_last : (s : StreamState) (t : Tale) (from : ℕ) (octets : Octets) → (p : EmitsLast s from octets) → t.story.start ≡ s.start → s.sent ≡ length t.sent → Emits s t → Emits (left_frame s (LastWord p.payload)) (tale_after t (Emit (Frame from octets)))
sends_last s t from octets p start sent e =
    let s' : StreamState = left_frame s (LastWord p.payload) in
    let segment : Segment Octets = terminate_segment p.payload in
    let good : IsSendable segment = terminate_good p.payload (e.parts.short p.payload p.is_due) in
    let fresh : t.story.farewell ≡ None = elim e.parts.once [ inl none ↦ none | inr o ↦ absurd (none-some _ (sym o.quiet ∙ p.is_due)) ] in
    let spoken : nat_lt s.sent (first_place_out s.start) ≡ false = all_spoken s p.spoken (word_unbroken s.ending p.payload p.is_due) in
    let r = reads_again s t from octets segment start p.from_is spoken p.octets_are good sent e (ap farewells fresh) in
    let due : last_word t.story.ending ≡ Some p.payload = ap last_word e.parts.ending ∙ p.is_due in
    let story : story_after t.story (Emit (Frame from octets)) ≡ says_farewell t.story p.payload =
    (λ i. cond (r.past i) t.story (option_map_or (says_farewell t.story) (due i) (option_map_or (sends_frame t.story (is_rtr t.story from)) (segment_out t.story from octets) t.story))) in
    subst (λ z. Emits s' (record (tale_after t (Emit (Frame from octets))) { story = z })) (sym story)
    (record {
      segments = e.segments;
      kept = e.kept;
      before = e.before;
      left = e.left;
      done = e.done;
      asking = e.asking;
      live = λ h. absurd (true≢false h);
      merges = same_merges refl refl refl refl (ap (λ z. ready_in s.start ++ z) (append-nil t.posted)) refl e.merges;
      spoken = e.spoken;
      asks = record { reads = e.asks.reads; asked = e.asks.asked; fetched = e.asks.fetched; begun = e.asks.begun; few = e.asks.few };
      good = each-push IsSendable e.segments segment (each-first IsSendable e.segments (farewells t.story.farewell) e.good) good;
      framed = Spoken r.framed;
      parts = record {
        ending = refl;
        once = inr (record { over = refl; quiet = refl });
        short = λ payload h. absurd (none-some _ h);
        shut = λ h. absurd (none-some _ (sym (e.parts.shut h).quiet ∙ p.is_due));
        silent = λ h. absurd (none-some _ (sym (e.parts.silent h).quiet ∙ p.is_due));
      };
      limits = e.limits;
      fit = subst (Each FitsPosted) (sym (append-nil t.posted)) e.fit;
      numbers = e.numbers;
      size = e.size;
      enough = e.enough;
      few = e.few;
      counts = same_counts refl (append-nil t.posted) refl refl refl e.counts;
      handing = same_handing refl (append-nil t.posted) (append-nil t.handed) refl e.handing;
      reads = e.reads;
      whole = e.whole;
    })

-- a frame is sent
pub frame_sent : (table : Table) (s : StreamState) (t : Tale) (from : ℕ) (octets : Octets) → Frame from octets ≡ shown_of table (emission_of table s) (emitted table s) → t.story.start ≡ s.start → s.sent ≡ length t.sent → Emits s t → Emits (after_act s (Emit (Frame from octets))) (tale_after t (Emit (Frame from octets)))
frame_sent table s t from octets rule start sent e = go (emits_as table s (Frame from octets) rule)
  where
    go : EmitsStart s from octets ⊎ (EmitsLast s from octets ⊎ (EmitsReady s from octets ⊎ EmitsPart s from octets)) → Emits (left_frame s (due s)) (tale_after t (Emit (Frame from octets)))
    go (inl p) = subst (λ d. Emits (left_frame s d) (tale_after t (Emit (Frame from octets)))) (sym p.next) (sends_start s t from octets p start sent e)
    go (inr (inl p)) = subst (λ d. Emits (left_frame s d) (tale_after t (Emit (Frame from octets)))) (sym p.next) (sends_last s t from octets p start sent e)
    go (inr (inr (inl p))) = subst (λ d. Emits (left_frame s d) (tale_after t (Emit (Frame from octets)))) (sym p.next) (sends_ready s t from octets p start sent e)
    go (inr (inr (inr p))) = subst (λ d. Emits (left_frame s d) (tale_after t (Emit (Frame from octets)))) (sym p.next) (sends_part s t from octets p start sent e)

-- of what is shown as a frame alone nothing is of a response
abbrev IsPlain : Option (Segment Octets) → Type 0
IsPlain o = OnSome (λ segment. carries_response segment ≡ false) o

start_plain : (s : StreamState) (t : Tale) (from : ℕ) (octets : Octets) → EmitsStart s from octets → t.story.start ≡ s.start → IsPlain (segment_out t.story from octets)
start_plain s t from octets p start =
    let first : nat_lt from (first_place_out t.story.start) ≡ true = (λ i. nat_lt (p.from_is i) (first_place_out (start i))) ∙ (owes_some s p.owes).1 in
    let none : segment_out t.story from octets ≡ None =
    ap (λ b. cond b None (option_map_or (λ (first : Carried × Octets). read_segment first.0.ulpdu) (first_frame (sending t.story.start) (from - first_place_out t.story.start) octets) None)) first in
    subst IsPlain (sym none) tt

last_plain : (s : StreamState) (t : Tale) (from : ℕ) (octets : Octets) → (p : EmitsLast s from octets) → t.story.start ≡ s.start → s.sent ≡ length t.sent → Emits s t → IsPlain (segment_out t.story from octets)
last_plain s t from octets p start sent e =
    let segment : Segment Octets = terminate_segment p.payload in
    let good : IsSendable segment = terminate_good p.payload (e.parts.short p.payload p.is_due) in
    let fresh : t.story.farewell ≡ None = elim e.parts.once [ inl none ↦ none | inr o ↦ absurd (none-some _ (sym o.quiet ∙ p.is_due)) ] in
    let spoken : nat_lt s.sent (first_place_out s.start) ≡ false = all_spoken s p.spoken (word_unbroken s.ending p.payload p.is_due) in
    subst IsPlain (sym ((reads_again s t from octets segment start p.from_is spoken p.octets_are good sent e (ap farewells fresh)).told refl)) refl

ready_plain : (s : StreamState) (t : Tale) (from : ℕ) (octets : Octets) → (p : EmitsReady s from octets) → t.story.start ≡ s.start → s.sent ≡ length t.sent → Emits s t → IsPlain (segment_out t.story from octets)
ready_plain s t from octets p start sent e =
    let l = lives s t e p.speaks.running in
    let segment : Segment Octets = rtr_segment s.numbers p.rtr in
    let spoken : nat_lt s.sent (first_place_out s.start) ≡ false = all_spoken s p.speaks.spoken (runs_unbroken s.ending p.speaks.running) in
    let plain : carries_response segment ≡ false = rtr_plain s.numbers p.rtr in
    subst IsPlain (sym ((reads_again s t from octets segment start p.from_is spoken p.octets_are (rtr_good s.numbers p.rtr e.numbers) sent e l.none).told plain)) plain

part_plain : (s : StreamState) (t : Tale) (from : ℕ) (octets : Octets) → (p : EmitsPart s from octets) → t.story.start ≡ s.start → s.sent ≡ length t.sent → Emits s t → IsPlain (segment_out t.story from octets)
part_plain s t from octets p start sent e =
    let loud = p.is_loud in
    let l = lives s t e loud.running in
    let segment : Segment Octets = segment_of s.numbers p.part in
    let good : IsSendable segment = shown_good s.numbers s.queue s.mulpdu p.part loud.part_is l.limits e.enough e.few e.numbers (first_fits s.queue l.fit) in
    let spoken : nat_lt s.sent (first_place_out s.start) ≡ false = all_spoken s loud.spoken (runs_unbroken s.ending loud.running) in
    let plain : carries_response segment ≡ false = plain_part s.numbers p.part in
    subst IsPlain (sym ((reads_again s t from octets segment start p.from_is spoken p.octets_are good sent e l.none).told plain)) plain

pub frame_plain : (table : Table) (s : StreamState) (t : Tale) (from : ℕ) (octets : Octets) → Frame from octets ≡ shown_of table (emission_of table s) (emitted table s) → t.story.start ≡ s.start → s.sent ≡ length t.sent → Emits s t
    → OnSome (λ segment. carries_response segment ≡ false) (segment_out t.story from octets)
frame_plain table s t from octets rule start sent e = elim (emits_as table s (Frame from octets) rule) [
  | inl p ↦ start_plain s t from octets p start
  | inr (inl p) ↦ last_plain s t from octets p start sent e
  | inr (inr (inl p)) ↦ ready_plain s t from octets p start sent e
  | inr (inr (inr p)) ↦ part_plain s t from octets p start sent e
]

-- ---- responses

-- the part that is due is of the oldest request
pub record IsOf (s : StreamState) (part : ResponsePart) : Type 0 where
  pub oldest : Asked
  pub others : List Asked
  pub waiting : s.asked.unanswered ≡ oldest ∷ others
  pub unbegun : s.queue.offset ≡ 0
  pub is : part ≡ part_of_response oldest.request (part_at oldest.request.size (s.mulpdu - 14) s.asked.fetched)

pub part_is_of : (s : StreamState) (part : ResponsePart) → response_due s ≡ Some part → IsOf s part
part_is_of s part e = go (nat_lt 0 s.queue.offset) s.asked.unanswered refl refl e
  where
    go : (b : Bool) (waiting : List Asked) → nat_lt 0 s.queue.offset ≡ b → s.asked.unanswered ≡ waiting → cond b None (part_for waiting s.asked.fetched s.mulpdu) ≡ Some part → IsOf s part
    go true waiting c is h = absurd (none-some _ h)
    go false [] c is h = absurd (none-some _ h)
    go false (x ∷ xs) c is h = record { oldest = x; others = xs; waiting = is; unbegun = (let low : s.queue.offset ≤ 0 = not_below 0 s.queue.offset c in omega (arith, low)); is = sym (same_Some _ _ h) }

-- octets that may be read are as many as were asked for
octets_many : (table : Table) (peer : Peer) (stag : Stag) (to n : ℕ) (right : Right) → denial_for table peer stag to n right ≡ None → length (octets_at table stag to n) ≡ n
octets_many table peer stag to n right none = elim (allows table peer stag to n right none) [
  | inl zero_is ↦ nothing (region_at table stag) zero_is
  | inr allowed ↦ some (region_at table stag) allowed.1
]
  where
    nothing : (o : Option Region) → n ≡ 0 → length (option_map_or (λ r. octets_from r to n) o []) ≡ n
    nothing None zero_is = omega (arith, zero_is)
    nothing (Some r) zero_is = omega (arith, zero_is, length-take n (drop (to - r.base) r.octets))

    some : (o : Option Region) → IsSomeAnd o (λ r. Serves r peer.stream to n right) → length (option_map_or (λ r. octets_from r to n) o []) ≡ n
    some None h = absurd h
    some (Some r) h = omega (arith, length-take n (drop (to - r.base) r.octets), length-drop (to - r.base) r.octets, h.from_base, h.to_end)

no_denial : (o : Option Deny) → option_map denial_fault o ≡ None → o ≡ None
no_denial None e = refl
no_denial (Some deny) e = absurd (none-some _ (sym e))

-- what is known of a part of a response that goes out
pub record Answers (table : Table) (s : StreamState) (t : Story) (from : ℕ) (frame : Octets) (stag : Stag) (to : ℕ) (octets : Octets) : Type 0 where
  pub oldest : Asked
  pub others : List Asked
  pub waiting : s.asked.unanswered ≡ oldest ∷ others
  pub unbegun : s.queue.offset ≡ 0
  pub many : length octets ≡ min (oldest.request.size - length t.begun) (s.mulpdu - 14)
  pub within : length t.begun + length octets ≤ oldest.request.size
  pub last : Bool
  pub last_is : last ≡ nat_eq (length t.begun + length octets) oldest.request.size
  pub left : part_fetched s.asked (response_due s) ≡ cond last (record s.asked { unanswered = others; fetched = 0 }) (record s.asked { fetched = length t.begun + length octets })
  pub frame_is : frame ≡ frame_of s (response_segment oldest.request (length t.begun) last octets)
  pub stag_is : stag ≡ oldest.request.source
  pub to_is : to ≡ oldest.request.source_to + length t.begun
  pub admitted : denial_for table (peer_of s) stag to (length octets) rights.Read ≡ None
  pub stand : octets ≡ octets_at table stag to (length octets)

same_last : (size begun room n : ℕ) → begun ≤ size → n ≡ min (size - begun) room → nat_le (size - begun) room ≡ nat_eq (begun + n) size
same_last size begun room n low is = go (nat_le (size - begun) room) (nat_eq (begun + n) size) refl refl
  where
    go : (a b : Bool) → nat_le (size - begun) room ≡ a → nat_eq (begun + n) size ≡ b → nat_le (size - begun) room ≡ nat_eq (begun + n) size
    go true true e f = e ∙ sym f
    go false false e f = e ∙ sym f
    go true false e f =
        let few : size - begun ≤ room = grind (arith, nat_tests) in
        let whole : begun + n ≡ size = omega (arith, few, is, low) in
        absurd (let no : ⊥ = grind (arith, nat_tests) in no)
    go false true e f =
        let many : room < size - begun = grind (arith, nat_tests) in
        let whole : begun + n ≡ size = grind (arith, nat_tests) in
        absurd (omega (arith, many, whole, is))

pub answers_part : (table : Table) (s : StreamState) (t : Tale) (from : ℕ) (frame : Octets) (stag : Stag) (to : ℕ) (octets : Octets) → EmitsResponse table s from frame stag to octets → Asks s t.story → Answers table s t.story from frame stag to octets
answers_part table s t from frame stag to octets p k =
    let w = part_is_of s p.part p.is_due in
    let fetched : s.asked.fetched ≡ length t.story.begun = k.fetched in
    let admitted : denial_for table (peer_of s) p.part.stag p.part.to p.part.n rights.Read ≡ None = no_denial (denial_for table (peer_of s) p.part.stag p.part.to p.part.n rights.Read) p.admitted in
    let many : length octets ≡ p.part.n = ap length p.octets_are ∙ octets_many table (peer_of s) p.part.stag p.part.to p.part.n rights.Read admitted in
    let n : p.part.n ≡ min (w.oldest.request.size - s.asked.fetched) (s.mulpdu - 14) = ap (λ (z : ResponsePart). z.n) w.is in
    let last : p.part.head.last ≡ nat_le (w.oldest.request.size - s.asked.fetched) (s.mulpdu - 14) = ap (λ (z : ResponsePart). z.head.last) w.is in
    let low : s.asked.fetched ≤ w.oldest.request.size = not_past s.asked.fetched w.oldest.request.size (subst (λ z. requests.IsBegun z s.asked.fetched) w.waiting k.begun) in
    let size : length octets ≡ min (w.oldest.request.size - length t.story.begun) (s.mulpdu - 14) = omega (arith, many, n, fetched) in
    let head : p.part.head ≡ response_head w.oldest.request (length t.story.begun) p.part.head.last =
    ap (λ (z : ResponsePart). z.head) w.is ∙ (λ i. response_head w.oldest.request (fetched i) (sym last i)) in
    let end : p.part.head.last ≡ nat_eq (length t.story.begun + length octets) w.oldest.request.size =
    last ∙ same_last w.oldest.request.size s.asked.fetched (s.mulpdu - 14) (length octets) low (omega (arith, many, n)) ∙ ap (λ z. nat_eq (z + length octets) w.oldest.request.size) fetched in
    let stag_is : stag ≡ w.oldest.request.source = p.stag_is ∙ ap (λ (z : ResponsePart). z.stag) w.is in
    let to_is : to ≡ w.oldest.request.source_to + length t.story.begun = p.to_is ∙ ap (λ (z : ResponsePart). z.to) w.is ∙ ap (λ z. w.oldest.request.source_to + z) fetched in
    record {
      oldest = w.oldest;
      others = w.others;
      waiting = w.waiting;
      unbegun = w.unbegun;
      many = size;
      within = omega (arith, size, low, fetched);
      last = p.part.head.last;
      last_is = end;
      left = ap (part_fetched s.asked) p.is_due
          ∙ (λ i. cond p.part.head.last (record s.asked { unanswered = drop 1 (w.waiting i); fetched = 0 }) (record s.asked { fetched = (let sum : s.asked.fetched + p.part.n ≡ length t.story.begun + length octets = omega (arith, fetched, many) in sum) i }));
      frame_is = p.frame_is ∙ ap (λ h. frame_of s (Tagged h octets)) head;
      stag_is = stag_is;
      to_is = to_is;
      admitted = (λ i. denial_for table (peer_of s) (p.stag_is i) (p.to_is i) (many i) rights.Read) ∙ admitted;
      stand = p.octets_are ∙ (λ i. octets_at table (sym p.stag_is i) (sym p.to_is i) (sym many i));
    }
  where
    not_past : (n size : ℕ) → (0 < n → n < size) → n ≤ size
    not_past zero size h = omega arith
    not_past (suc n) size h = let more : suc n < size = h (omega arith) in omega (arith, more)

-- the story behind it
abbrev story_answered : Story → Asked → List Asked → Octets → Story
story_answered t oldest others octets = record t {
  asked = record t.asked { unanswered = others; fetched = 0 };
  answers = t.answers ++ record { request = oldest.request; octets = t.begun ++ octets } ∷ [];
  begun = [];
}

abbrev story_begun : Story → Octets → Story
story_begun t octets = record t { asked = record t.asked { fetched = length t.begun + length octets }; begun = t.begun ++ octets }

-- what is left of the stream
abbrev left_answered : StreamState → List Asked → Octets → StreamState
left_answered s others frame = record s { asked = record s.asked { unanswered = others; fetched = 0 }; sent = s.sent + length frame }

abbrev left_begun : StreamState → ℕ → Octets → StreamState
left_begun s n frame = record s { asked = record s.asked { fetched = n }; sent = s.sent + length frame }

begun_later : (others : List Asked) → requests.IsBegun others 0
begun_later [] = refl
begun_later (x ∷ xs) = λ h. absurd (omega (arith, h))

not_whole : (a b : ℕ) → nat_eq a b ≡ false → a ≤ b → a < b
not_whole a b e h = grind (arith, nat_tests)

is_whole_size : (a b : ℕ) → nat_eq a b ≡ true → a ≡ b
is_whole_size a b e = grind (arith, nat_tests)

-- a segment of a response ends no message
no_end : (l : Bool) → (l && not true) ≡ false
no_end true = refl
no_end false = refl

-- part of a response is sent
pub sends_response : (table : Table) (s : StreamState) (t : Tale) (from : ℕ) (frame : Octets) (stag : Stag) (to : ℕ) (octets : Octets) → EmitsResponse table s from frame stag to octets → t.story.start ≡ s.start → s.sent ≡ length t.sent → Emits s t
    → Emits (after_act s (Emit (Fetched from frame stag to octets))) (tale_after t (Emit (Fetched from frame stag to octets)))
sends_response table s t from frame stag to octets p start sent e = go (answers_part table s t from frame stag to octets p e.asks)
  where
    go : Answers table s t.story from frame stag to octets → Emits (after_act s (Emit (Fetched from frame stag to octets))) (tale_after t (Emit (Fetched from frame stag to octets)))
    go w = by w.last refl
      where
        l : Live s t e
        l = lives s t e p.speaks.running

        few : length octets + 14 ≤ 64512
        few = omega (arith, w.many, e.few, e.enough)

        good : IsSendable (response_segment w.oldest.request (length t.story.begun) w.last octets)
        good = response_good w.oldest.request (length t.story.begun) w.last octets few

        read : IsRead s t from frame (response_segment w.oldest.request (length t.story.begun) w.last octets) e.segments
        read = reads_again s t from frame (response_segment w.oldest.request (length t.story.begun) w.last octets) start p.from_is (all_spoken s p.speaks.spoken (runs_unbroken s.ending p.speaks.running)) w.frame_is good sent e l.none

        waits : t.story.asked.unanswered ≡ w.oldest ∷ w.others
        waits = ap (λ (z : Requested). z.unanswered) e.asks.asked ∙ w.waiting

        gone : e.left ≡ []
        gone = ready_gone s t e sent p.speaks.running p.speaks.spoken p.unready

        none : count_last (e.segments ++ response_segment w.oldest.request (length t.story.begun) w.last octets ∷ []) ≡ count_last e.segments
        none = count_last-append e.segments (response_segment w.oldest.request (length t.story.begun) w.last octets ∷ []) ∙ omega (arith, ap one_for (no_end w.last))

        us : List (Segment Octets)
        us = e.segments ++ response_segment w.oldest.request (length t.story.begun) w.last octets ∷ []

        all : us ++ farewells t.story.farewell ≡ us
        all = alone_out us (farewells t.story.farewell) l.none

        counts : Counts s.queue t.story.whole (t.posted ++ []) (t.handed ++ []) e.done e.asking
        counts = same_counts refl (append-nil t.posted) (append-nil t.handed) refl refl l.counts

        reads : ReadsAre (ready_in s.start) [] s.reads e.asking t.story.answered e.done
        reads = subst (λ z. ReadsAre (ready_in s.start) z s.reads e.asking t.story.answered e.done) gone e.reads

        whole : count_last us + 0 ≡ length (ready_in s.start) + t.story.whole
        whole = omega (arith, none, e.whole, ap length gone)

        posted_stay : ready_in s.start ++ (t.posted ++ []) ≡ ready_in s.start ++ t.posted
        posted_stay = ap (λ z. ready_in s.start ++ z) (append-nil t.posted)

        story_is : story_after t.story (Emit (Fetched from frame stag to octets)) ≡ cond w.last (story_answered t.story w.oldest w.others octets) (story_begun t.story octets)
        story_is = ap (λ z. fetches_for t.story z octets) waits ∙ ap (λ b. cond b (story_answered t.story w.oldest w.others octets) (story_begun t.story octets)) (sym w.last_is)

        out : (b : Bool) → record s { asked = cond b (record s.asked { unanswered = w.others; fetched = 0 }) (record s.asked { fetched = length t.story.begun + length octets }); sent = s.sent + length frame } ≡ cond b (left_answered s w.others frame) (left_begun s (length t.story.begun + length octets) frame)
        out true = refl
        out false = refl

        state_is : after_act s (Emit (Fetched from frame stag to octets)) ≡ cond w.last (left_answered s w.others frame) (left_begun s (length t.story.begun + length octets) frame)
        state_is = (λ i. record s { asked = w.left i; sent = s.sent + length frame }) ∙ out w.last

        merges : Merges s.queue s.numbers (w.oldest ∷ w.others) t.story.begun (ready_in s.start ++ t.posted) t.story.answers e.segments
        merges = same_merges (λ i. with_left (sym gone i) s.queue) refl (sym w.waiting) refl refl refl l.merges

        left_over : w.last ≡ false → length t.story.begun + length octets < w.oldest.request.size
        left_over is = not_whole (length t.story.begun + length octets) w.oldest.request.size (sym w.last_is ∙ is) w.within

        some_left : w.last ≡ false → 0 < length octets
        some_left is = omega (arith, left_over is, w.many, e.enough)

        by : (b : Bool) → w.last ≡ b → Emits (after_act s (Emit (Fetched from frame stag to octets))) (tale_after t (Emit (Fetched from frame stag to octets)))
        by true is =
            subst (λ z. Emits z (tale_after t (Emit (Fetched from frame stag to octets)))) (sym (state_is ∙ ap (λ b. cond b (left_answered s w.others frame) (left_begun s (length t.story.begun + length octets) frame)) is))
            (subst (λ z. Emits (left_answered s w.others frame) (record (tale_after t (Emit (Fetched from frame stag to octets))) { story = z })) (sym (story_is ∙ ap (λ b. cond b (story_answered t.story w.oldest w.others octets) (story_begun t.story octets)) is))
            (record {
              segments = us;
              kept = s.queue;
              before = t.handed ++ [];
              left = [];
              done = e.done;
              asking = e.asking;
              live = λ h. record { queue = refl; handed = refl };
              merges = subst (λ b. Merges s.queue s.numbers w.others [] (ready_in s.start ++ (t.posted ++ [])) (t.story.answers ++ record { request = w.oldest.request; octets = t.story.begun ++ octets } ∷ []) (e.segments ++ response_segment w.oldest.request (length t.story.begun) b octets ∷ [])) (sym is)
                  (same_merges refl refl refl refl posted_stay refl
                  (merges_last s.queue s.numbers w.oldest w.others t.story.begun octets (ready_in s.start ++ t.posted) t.story.answers e.segments w.unbegun (omega (arith, few)) (is_whole_size (length t.story.begun + length octets) w.oldest.request.size (sym w.last_is ∙ is)) merges));
              spoken = inl refl;
              asks = record {
                reads = e.asks.reads;
                asked = (λ i. record (e.asks.asked i) { unanswered = w.others; fetched = 0 });
                fetched = refl;
                begun = begun_later w.others;
                few = e.asks.few;
              };
              good = subst (Each IsSendable) (sym all) (each-push IsSendable e.segments (response_segment w.oldest.request (length t.story.begun) w.last octets) l.good good);
              framed = subst (IsFramed s.start (t.sent ++ frame)) (sym all) (Spoken read.framed);
              parts = loud_parts s (left_answered s w.others frame) t.story (story_answered t.story w.oldest w.others octets) e.segments us p.speaks.started p.speaks.loud (record { ending = refl; told = refl; farewell = refl }) e.parts;
              limits = l.limits;
              fit = subst (Each FitsPosted) (sym (append-nil t.posted)) e.fit;
              numbers = e.numbers;
              size = e.size;
              enough = e.enough;
              few = e.few;
              counts = counts;
              handing = handing_of counts;
              reads = reads;
              whole = whole;
            }))
        by false is =
            subst (λ z. Emits z (tale_after t (Emit (Fetched from frame stag to octets)))) (sym (state_is ∙ ap (λ b. cond b (left_answered s w.others frame) (left_begun s (length t.story.begun + length octets) frame)) is))
            (subst (λ z. Emits (left_begun s (length t.story.begun + length octets) frame) (record (tale_after t (Emit (Fetched from frame stag to octets))) { story = z })) (sym (story_is ∙ ap (λ b. cond b (story_answered t.story w.oldest w.others octets) (story_begun t.story octets)) is))
            (record {
              segments = us;
              kept = s.queue;
              before = t.handed ++ [];
              left = [];
              done = e.done;
              asking = e.asking;
              live = λ h. record { queue = refl; handed = refl };
              merges = subst (λ b. Merges s.queue s.numbers s.asked.unanswered (t.story.begun ++ octets) (ready_in s.start ++ (t.posted ++ [])) t.story.answers (e.segments ++ response_segment w.oldest.request (length t.story.begun) b octets ∷ [])) (sym is)
                  (same_merges refl refl w.waiting refl posted_stay refl
                  (merges_front s.queue s.numbers w.oldest w.others t.story.begun octets (ready_in s.start ++ t.posted) t.story.answers e.segments w.unbegun (omega (arith, few)) (some_left is) (left_over is) merges));
              spoken = inl refl;
              asks = record {
                reads = e.asks.reads;
                asked = (λ i. record (e.asks.asked i) { fetched = length t.story.begun + length octets });
                fetched = sym (length-append t.story.begun octets);
                begun = subst (λ z. requests.IsBegun z (length t.story.begun + length octets)) (sym w.waiting) (λ h. left_over is);
                few = e.asks.few;
              };
              good = subst (Each IsSendable) (sym all) (each-push IsSendable e.segments (response_segment w.oldest.request (length t.story.begun) w.last octets) l.good good);
              framed = subst (IsFramed s.start (t.sent ++ frame)) (sym all) (Spoken read.framed);
              parts = loud_parts s (left_begun s (length t.story.begun + length octets) frame) t.story (story_begun t.story octets) e.segments us p.speaks.started p.speaks.loud (record { ending = refl; told = refl; farewell = refl }) e.parts;
              limits = l.limits;
              fit = subst (Each FitsPosted) (sym (append-nil t.posted)) e.fit;
              numbers = e.numbers;
              size = e.size;
              enough = e.enough;
              few = e.few;
              counts = counts;
              handing = handing_of counts;
              reads = reads;
              whole = whole;
            }))
