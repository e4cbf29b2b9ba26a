-- What a stream keeps of its fields stays so from call to call.
use Rattle.std.proofs.Common.{◌≡◌, ℕ, ◌+◌, ◌-◌, ◌<◌, ◌≤◌, ◌%◌, ◌^◌, Bool, true, false, max, nat_lt, if◌then◌else◌, List, [], length, Option, Some, None, Ok, Err, refl, sym, ap, ◌∙◌, subst, arith}
use Rattle.std.specs.Prelude.{Result, OnOk, OnErr, IfSome, IsSome, not, ◌&&◌}
use Rattle.std.specs.Option.{option_map_or}
use Rattle.iw_fpdu.specs.declared.fpdu.Mismatch.{Mismatch}
use Rattle.std.proofs.lemmas.Bool.{false≢true, true≢false}
use Rattle.std.proofs.lemmas.Bool.Decides.{nat_tests}
use Rattle.iw_octets.specs.declared.constants.TheConstants.{MAX_UNANSWERED}
use Rattle.iw_octets.specs.declared.fault.Fault.{Fault}
use Rattle.iw_octets.specs.declared.segment.Segment.{Segment}
use Rattle.iw_octets.specs.declared.segment.Segment.TheVariants.{Tagged, Untagged}
use Rattle.iw_octets.specs.Segment.{read_segment}
use Rattle.iw_memory.specs.Table.{Table}
use Rattle.iw_ranges.specs.Arrived.{Arrived, delivered, taken_in, advanced, cell_at, has_come, first_copy, is_missing, is_dropped, window, Cell, Missing, Here, Gone}
use Rattle.iw_ranges.proofs.ByPlace.{cell_at-taken_in}
use Rattle.iw_ranges.proofs.InOrder.{floor_moves, floor_takes}
use Rattle.iw_fpdu.specs.declared.layout.Layout.{Layout}
use Rattle.iw_fpdu.specs.Frame.{frame_end, frame_octets, frame_size}
use Rattle.iw_fpdu.specs.Places.{frame_start}
use Rattle.iw_fpdu.specs.Found.{Found, ulpdu, ulpdu_len}
use Rattle.iw_fpdu.specs.Laws.{IsBetween}
use Rattle.iw_fpdu.proofs.Counted.{after_high, aligned_edge, past_edge}
use Rattle.iw_fpdu.proofs.Follows.{ends, frames_follow, starts}
use Rattle.iw_fpdu.proofs.Sequences.{length_written}
use Rattle.iw_rdmap.specs.Terminate.{header_len}
use Rattle.iw_rdmap.specs.declared.head.Head.{Head}
use Rattle.iw_rdmap.specs.declared.head.Head.TheVariants as heads
use Rattle.iw_rdmap.specs.Head.{is_early}
use Rattle.iw_reads.specs.declared.reads.Outstanding.{Outstanding}
use Rattle.iw_reads.specs.Requests.{Requested}
use Rattle.iw_reads.specs.Source.{IsInRange}
use Rattle.iw_octets.specs.declared.payload.ReadRequest.{ReadRequest}
use Rattle.iw_queues.specs.Queue.{Queue}
use Rattle.iw_queues.specs.Segments.{Numbers}
use Rattle.iw_untagged.specs.Receiving.{Receiving, finished, with_buffer, written}
use Rattle.iw_stream.specs.declared.landing.Landing.{Landing}
use Rattle.iw_stream.specs.declared.landing.Landing.TheVariants as landings
use Rattle.iw_stream.specs.declared.landing.PlacedFrame.{PlacedFrame}
use Rattle.iw_stream.specs.Frames.{Frame, IsNext, frame_by, header_in, payload_of, placed, head_in, payload_len}
use Rattle.iw_stream.specs.Judging.{Standing, mismatch_fault, fault_or, fault_told, judged_head, place_verdict, head_verdict, segment_verdict, verdict, receiving_landed, receiving_turned, turned_by}
use Rattle.iw_stream.specs.declared.ending.Ending.{Ending}
use Rattle.iw_stream.specs.declared.ending.Ending.TheVariants.{Runs, Over, Broken}
use Rattle.iw_stream.specs.Ending.{has_ended, is_broken, last_word, with_last_word}
use Rattle.std.specs.List.{Contains}
use Rattle.iw_locate.specs.Records.{from_of, kept_from}
use Rattle.iw_locate.specs.Free.{point_of}
use Rattle.iw_locate.proofs.Holds.{keeps_from}
use Rattle.iw_locate.proofs.Starting.{none_in}
use Rattle.iw_stream.specs.Frames.{EarlyRecord}
use Rattle.iw_stream.specs.Kept.{HasBuffer, HasRoomInTurn, KeepsBuffer, Stands, IsPlaced, NoneReachesOver, AreAwaited, Keeps}
use Rattle.iw_stream.specs.Starting.{StartState, is_open, expecting, first_place_in, first_place_out}
use Rattle.iw_stream.specs.Stream.{StreamState, ended, quits, is_silent, over, owes_frame}
use Rattle.iw_stream.specs.Work.{place_past, scene, standing}
use Rattle.iw_stream.proofs.Buffers.{StaysSo, StaysThere, buffer_written, finishes_so, has_room, room_still, stays_posted, stays_same, stays_so, stays_turned, stays_written}
use Rattle.iw_stream.proofs.Headers.{header_read, header_short, kept_buffer}
use Rattle.iw_stream.proofs.Reading.{in_range}
use Rattle.iw_stream.proofs.Landings.{Judges, judges, length_ulpdu}

-- ---- delivery
come_more : (place : ℕ) (octets : List ℕ) (p : ℕ) (c : Cell) → not (is_missing c) ≡ true → not (is_missing (first_copy place octets p c)) ≡ true
come_more place octets p Missing e = absurd (true≢false (sym e))
come_more place octets p (Here x) e = refl
come_more place octets p Gone e = refl

-- what came stays so whatever comes behind it
pub come_takes : (a : Arrived) (place : ℕ) (octets : List ℕ) (p : ℕ) → has_come a p ≡ true → has_come (taken_in a place octets) p ≡ true
come_takes a place octets p e = ap (λ c. not (is_missing c)) (cell_at-taken_in a place octets p) ∙ come_more place octets p (cell_at a p) e

keeps_taken : (s : StreamState) (place : ℕ) (octets : List ℕ) → Keeps s → Keeps (record s { arrived = taken_in s.arrived place octets })
keeps_taken s place octets k =
    let floor = floor_takes s.arrived place octets in record {
      started = record {
        unopened = λ e. (floor ∙ (k.started.unopened e).0, (k.started.unopened e).1, (k.started.unopened e).2);
        unsent = k.started.unsent;
        alone = k.started.alone;
        unread = k.started.unread;
        beyond = omega (arith, floor, k.started.beyond);
      };
      between = subst (λ f. IsBetween (expecting s.start).markers (f - first_place_in s.start)) (sym floor) k.between;
      aligned = k.aligned;
      enough = k.enough;
      few = k.few;
      is_placed = λ e. go s.front (k.is_placed e);
      clear = k.clear;
      headed = k.headed;
      buffered = λ e x within. subst (λ f. KeepsBuffer s.receiving (f - first_place_in s.start) x x.state) (sym floor) (k.buffered e x within);
      unopened = k.unopened;
      first = k.first;
      awaited = k.awaited;
    }
  where
    go : (o : Option PlacedFrame) → IfSome o (IsPlaced s) → IfSome o (IsPlaced (record s { arrived = taken_in s.arrived place octets }))
    go None p = tt
    go (Some frame) p =
        let floor = floor_takes s.arrived place octets in
        let at = p.stands in record {
          stands = record {
            begins = at.begins ∙ ap (λ f. frame_start (expecting s.start).markers (f - first_place_in s.start)) (sym floor);
            low = omega (arith, floor, at.low);
            whole = at.whole;
            header = at.header;
            on = omega (arith, floor, at.on);
            near = omega (arith, floor, at.near);
            come = λ q lt. come_takes s.arrived place octets q (at.come q lt);
            next = at.next;
          };
          room = p.room;
        }

-- ---- what is told of deliveries
pub keeps_told : (s : StreamState) (first : ℕ) (answered : Bool) → Keeps s → Keeps (record s { first = first; answered = answered })
keeps_told s first answered k = record {
  started = record {
    unopened = k.started.unopened;
    unsent = k.started.unsent;
    alone = k.started.alone;
    unread = k.started.unread;
    beyond = k.started.beyond;
  };
  between = k.between;
  aligned = k.aligned;
  enough = k.enough;
  few = k.few;
  is_placed = λ e. told s.front (k.is_placed e);
  clear = k.clear;
  headed = k.headed;
  buffered = k.buffered;
  unopened = k.unopened;
  first = k.first;
  awaited = k.awaited;
}
  where
    told : (o : Option PlacedFrame) → IfSome o (IsPlaced s) → IfSome o (IsPlaced (record s { first = first; answered = answered }))
    told None p = tt
    told (Some frame) p =
        let at = p.stands in record {
          stands = record {
            begins = at.begins;
            low = at.low;
            whole = at.whole;
            header = at.header;
            on = at.on;
            near = at.near;
            come = at.come;
            next = at.next;
          };
          room = p.room;
        }

pub keeps_delivered : {D E : Type 0} (s : StreamState) (place : ℕ) (octets : List ℕ) (result : Result D E) (after : Arrived) → OnOk result (after ≡ delivered s.arrived place octets) → OnErr result (after ≡ s.arrived) → Keeps s
    → Keeps (record s { arrived = after })
keeps_delivered s place octets (Err e) after ok err k = subst (λ a. Keeps (record s { arrived = a })) (sym err) k
keeps_delivered s place octets (Ok d) after ok err k = go (is_dropped s.arrived place (length octets)) ok
  where
    go : (dropped : Bool) → after ≡ (if dropped then s.arrived else taken_in s.arrived place octets) → Keeps (record s { arrived = after })
    go true is = subst (λ a. Keeps (record s { arrived = a })) (sym is) k
    go false is = subst (λ a. Keeps (record s { arrived = a })) (sym is) (keeps_taken s place octets k)

-- ---- a frame that had its turn
-- its end is the in-order point, whatever else it changes
pub keeps_past : (s : StreamState) (frame : PlacedFrame) (place : ℕ) (after : Arrived) (r : Receiving) (queue : Queue) (reads : List Outstanding) (asked : Requested) (left : List EarlyRecord) (base : ℕ) → is_open s.start ≡ true → Stands s frame
    → place ≡ place_past s frame → after ≡ advanced s.arrived place → left ≡ kept_from (place - base) s.early
    → StaysSo s.receiving r (point_of (scene s)) (frame_end (expecting s.start).markers frame.start frame.len) s.early → queue.sent.first < 2 ^ 64 → AreAwaited queue.sent reads → (s.reads ≡ [] → reads ≡ []) → Keeps s
    → Keeps (record s { receiving = r; arrived = after; front = None; early = left; queue = queue; reads = reads; asked = asked })
keeps_past s frame place after r queue reads asked left base running p there moved fewer so first awaited none k =
    let floor : after.floor ≡ max s.arrived.floor place = ap (λ a. a.floor) moved ∙ floor_moves s.arrived place in
    let end : after.floor - first_place_in s.start ≡ frame_end (expecting s.start).markers frame.start frame.len = omega (arith, floor, there, p.on) in
    record {
      started = record {
        unopened = λ e. absurd (true≢false (sym running ∙ e));
        unsent = k.started.unsent;
        alone = λ e. absurd (true≢false (sym running ∙ e));
        unread = λ e. none (k.started.unread e);
        beyond = omega (arith, floor, k.started.beyond);
      };
      between = subst (IsBetween (expecting s.start).markers) (sym end) p.next;
      aligned = k.aligned;
      enough = k.enough;
      few = k.few;
      is_placed = λ e. tt;
      clear = λ e. tt;
      headed = λ x within. k.headed x ((keeps_from (place - base) s.early x).0 (subst (λ (rs : List EarlyRecord). Contains rs x) fewer within)).0;
      buffered = λ e x within.
          let old = ((keeps_from (place - base) s.early x).0 (subst (λ (rs : List EarlyRecord). Contains rs x) fewer within)).0 in
          subst (λ p. KeepsBuffer r p x x.state) (sym end) (so x old (k.buffered e x old));
      unopened = λ e. absurd (true≢false (sym running ∙ e));
      first = first;
      awaited = λ e. awaited;
    }

-- which takes no buffer away, except the oldest if a message is handed out
turned_stays : (r : Receiving) (n : ℕ) (o : Option (Segment (List ℕ))) → StaysThere r (turned_by r n o)
turned_stays r n None = stays_same r r refl
turned_stays r n (Some (Tagged head payload)) = stays_same r r refl
turned_stays r n (Some (Untagged head payload)) = stays_turned r n

pub frame_stays : (r t : Receiving) (frame : PlacedFrame) → t ≡ receiving_turned r frame → StaysThere r t
frame_stays r t frame is = subst (StaysThere r) (sym is) (turned_stays r (payload_len frame) (head_in frame))

pub turn_stays : (s : StreamState) (frame : PlacedFrame) (r : Receiving) → StaysThere s.receiving r → Keeps s → Stands s frame
    → StaysSo s.receiving r (point_of (scene s)) (frame_end (expecting s.start).markers frame.start frame.len) s.early
turn_stays s frame r w k p = stays_so s.receiving r (point_of (scene s)) (frame_end (expecting s.start).markers frame.start frame.len) s.early w (omega (arith, p.on, k.started.beyond))

pub turn_finishes : (s : StreamState) (frame : PlacedFrame) (r t : Receiving) → StaysThere s.receiving r → t ≡ finished r → s.receiving.due < 2 ^ 32
    → ((x : EarlyRecord) → Contains s.early x → (point_of (scene s) ≤ from_of x) × (from_of x ≤ point_of (scene s) + window)) → Keeps s → Stands s frame
    → StaysSo s.receiving t (point_of (scene s)) (frame_end (expecting s.start).markers frame.start frame.len) s.early
turn_finishes s frame r t w is low near k p =
    let end : ℕ = frame_end (expecting s.start).markers frame.start frame.len in
    subst (λ z. StaysSo s.receiving z (point_of (scene s)) end s.early) (sym is) (finishes_so s.receiving r (point_of (scene s)) end s.early w low (omega (arith, p.on, k.started.beyond)) near)

pub placed_front : (s : StreamState) (frame : PlacedFrame) → ended s ≡ false → s.front ≡ Some frame → Keeps s → IsPlaced s frame
placed_front s frame runs is k = subst (λ o. IfSome o (IsPlaced s)) is (k.is_placed runs)

-- ---- the end
-- nothing is asked of the frame and the Reads of a stream that has ended
pub keeps_ended : (s : StreamState) (ending : Ending) → has_ended ending ≡ true → (is_open s.start ≡ false → last_word ending ≡ None) → Keeps s → Keeps (record s { ending = ending })
keeps_ended s ending over silent k = record {
  started = record {
    unopened = λ e. ((k.started.unopened e).0, (k.started.unopened e).1, silent e);
    unsent = k.started.unsent;
    alone = k.started.alone;
    unread = k.started.unread;
    beyond = k.started.beyond;
  };
  between = k.between;
  aligned = k.aligned;
  enough = k.enough;
  few = k.few;
  is_placed = λ e. absurd (true≢false (sym over ∙ e));
  clear = λ e. absurd (true≢false (sym over ∙ e));
  headed = k.headed;
  buffered = λ e. absurd (true≢false (sym over ∙ e));
  unopened = k.unopened;
  first = k.first;
  awaited = λ e. absurd (true≢false (sym over ∙ e));
}

-- an open stream ends with a Terminate or without one
pub keeps_over : (s : StreamState) (ending : Ending) → is_open s.start ≡ true → has_ended ending ≡ true → Keeps s → Keeps (record s { ending = ending })
keeps_over s ending running over k = keeps_ended s ending over (λ e. absurd (true≢false (sym running ∙ e))) k

-- by a fault, too
pub over_ended : (start : StartState) (arrived : Arrived) (payload : List ℕ) → has_ended (over start arrived payload) ≡ true
over_ended start arrived payload = go (is_silent start arrived)
  where
    go : (b : Bool) → has_ended (if b then Over None else with_last_word payload) ≡ true
    go true = refl
    go false = refl

-- what came is given up as a stream ends
pub keeps_quits : (s : StreamState) (ending : Ending) → has_ended ending ≡ true → (is_open s.start ≡ false → last_word ending ≡ None) → Keeps s → Keeps (record (quits s) { ending = ending })
keeps_quits s ending over silent k = record {
  started = record {
    unopened = λ e. ((k.started.unopened e).0, refl, silent e);
    unsent = k.started.unsent;
    alone = k.started.alone;
    unread = k.started.unread;
    beyond = k.started.beyond;
  };
  between = k.between;
  aligned = k.aligned;
  enough = k.enough;
  few = k.few;
  is_placed = λ e. absurd (true≢false (sym over ∙ e));
  clear = λ e. absurd (true≢false (sym over ∙ e));
  headed = λ r within. absurd (none_in [] refl r within);
  buffered = λ e. absurd (true≢false (sym over ∙ e));
  unopened = λ e. refl;
  first = k.first;
  awaited = λ e. absurd (true≢false (sym over ∙ e));
}

-- ---- how far the in-order point moves
pub reaches : (s t : StreamState) (after : Arrived) (to : ℕ) → after ≡ advanced s.arrived to → to ≤ s.arrived.floor + 2 ^ 18 → s ≡ t → after.floor ≤ t.arrived.floor + 2 ^ 18
reaches s t after to moved near same =
    subst (λ (x : StreamState). after.floor ≤ x.arrived.floor + 2 ^ 18) same (omega (arith, ap (λ (a : Arrived). a.floor) moved ∙ floor_moves s.arrived to, near))

-- ---- what touches neither the octets that came nor the buffers
pub placed_still : (s t : StreamState) (o : Option PlacedFrame) → s.start ≡ t.start → s.arrived ≡ t.arrived → s.receiving ≡ t.receiving → IfSome o (IsPlaced s) → IfSome o (IsPlaced t)
placed_still s t None start arrived receiving p = tt
placed_still s t (Some frame) start arrived receiving p =
    let at = p.stands in
    let there : place_past s frame ≡ place_past t frame = ap (λ x. first_place_in x + frame_end (expecting x).markers frame.start frame.len) start in
    let floor : s.arrived.floor ≡ t.arrived.floor = ap (λ (a : Arrived). a.floor) arrived in record {
      stands = record {
        begins = at.begins ∙ (λ i. frame_start (expecting (start i)).markers ((arrived i).floor - first_place_in (start i)));
        low = omega (arith, floor, at.low);
        whole = at.whole;
        header = at.header;
        on = omega (arith, floor, there, at.on);
        near = omega (arith, floor, there, at.near);
        come = λ q lt. subst (λ a. has_come a q ≡ true) arrived (at.come q (omega (arith, there, lt)));
        next = subst (λ x. IsBetween (expecting x).markers (frame_end (expecting x).markers frame.start frame.len)) start at.next;
      };
      room = subst (λ r. HasRoomInTurn r (payload_len frame) (head_in frame)) receiving p.room;
    }

pub keeps_queue : (s : StreamState) (queue : Queue) → queue.sent.first < 2 ^ 64 → (ended s ≡ false → AreAwaited queue.sent s.reads) → Keeps s → Keeps (record s { queue = queue })
keeps_queue s queue first awaited k = record {
  started = record {
    unopened = k.started.unopened;
    unsent = k.started.unsent;
    alone = k.started.alone;
    unread = k.started.unread;
    beyond = k.started.beyond;
  };
  between = k.between;
  aligned = k.aligned;
  enough = k.enough;
  few = k.few;
  is_placed = λ e. placed_still s (record s { queue = queue }) s.front refl refl refl (k.is_placed e);
  clear = k.clear;
  headed = k.headed;
  buffered = k.buffered;
  unopened = k.unopened;
  first = first;
  awaited = awaited;
}

-- only an open stream has a Terminate due
pub opened_last : (s : StreamState) → IsSome (last_word s.ending) → Keeps s → is_open s.start ≡ true
opened_last s due k = go (is_open s.start) refl
  where
    go : (b : Bool) → is_open s.start ≡ b → b ≡ true
    go true e = refl
    go false e = absurd (false≢true (subst IsSome (k.started.unopened e).2 due))

-- an ended stream may lose its buffers
pub keeps_flushed : (s : StreamState) (r : Receiving) → ended s ≡ true → Keeps s → Keeps (record s { receiving = r })
keeps_flushed s r over k = record {
  started = record {
    unopened = k.started.unopened;
    unsent = k.started.unsent;
    alone = k.started.alone;
    unread = k.started.unread;
    beyond = k.started.beyond;
  };
  between = k.between;
  aligned = k.aligned;
  enough = k.enough;
  few = k.few;
  is_placed = λ e. absurd (true≢false (sym over ∙ e));
  clear = λ e. absurd (true≢false (sym over ∙ e));
  headed = k.headed;
  buffered = λ e. absurd (true≢false (sym over ∙ e));
  unopened = k.unopened;
  first = k.first;
  awaited = k.awaited;
}

-- a buffer is posted
stays_by : {T E : Type 0} (r t : Receiving) (buffer : List ℕ) (result : Result T E) → OnOk result (t ≡ with_buffer r buffer) → OnErr result (t ≡ r) → StaysThere r t
stays_by r t buffer (Ok x) ok err = subst (StaysThere r) (sym ok) (stays_posted r buffer)
stays_by r t buffer (Err e) ok err = stays_same r t err

pub keeps_buffers : (s : StreamState) (r : Receiving) → StaysThere s.receiving r → Keeps s → Keeps (record s { receiving = r })
keeps_buffers s r w k = record {
  started = record {
    unopened = k.started.unopened;
    unsent = k.started.unsent;
    alone = k.started.alone;
    unread = k.started.unread;
    beyond = k.started.beyond;
  };
  between = k.between;
  aligned = k.aligned;
  enough = k.enough;
  few = k.few;
  is_placed = λ e. go s.front (k.is_placed e);
  clear = k.clear;
  headed = k.headed;
  buffered = λ e x within. stays_so s.receiving r (point_of (scene s)) (point_of (scene s)) s.early w (omega arith) x within (k.buffered e x within);
  unopened = k.unopened;
  first = k.first;
  awaited = k.awaited;
}
  where
    go : (o : Option PlacedFrame) → IfSome o (IsPlaced s) → IfSome o (IsPlaced (record s { receiving = r }))
    go None p = tt
    go (Some frame) p =
        let at = p.stands in record {
          stands = record { begins = at.begins; low = at.low; whole = at.whole; header = at.header; on = at.on; near = at.near; come = at.come; next = at.next };
          room = room_still s.receiving r (payload_len frame) (head_in frame) w p.room;
        }

pub keeps_posted : {T E : Type 0} (s : StreamState) (r : Receiving) (buffer : List ℕ) (result : Result T E) → OnOk result (r ≡ with_buffer s.receiving buffer) → OnErr result (r ≡ s.receiving) → Keeps s → Keeps (record s { receiving = r })
keeps_posted s r buffer result ok err k = keeps_buffers s r (stays_by s.receiving r buffer result ok err) k

-- ---- a part that was sent
pub aligned_past : (layout : Layout) (at : ℕ) (u : List ℕ) → at % 4 ≡ 0 → (at + length (frame_octets layout at u)) % 4 ≡ 0
aligned_past layout at u aligned =
    let m : Bool = layout.markers in
    let end : ℕ = frame_end m at (length u) in
    let next = frames_follow.next m (frame_start m at) (length u) (starts m at aligned) in
    let same : frame_end m (frame_start m at) (length u) ≡ end = ends m at (length u) in
    let there : end % 4 ≡ 0 = ap (λ n. n % 4) (sym same) ∙ next.aligned in
    omega (arith, there, aligned, length_written layout at u)

-- a frame has octets
pub some_written : (layout : Layout) (at : ℕ) (u : List ℕ) → at % 4 ≡ 0 → 0 < length (frame_octets layout at u)
some_written layout at u aligned =
    let m : Bool = layout.markers in
    omega (arith, length_written layout at u, past_edge m at (aligned_edge m at aligned), after_high m at (frame_size (length u)) (omega arith))

-- whatever is due but a start-up frame is sent behind that
pub sent_first : (s : StreamState) → owes_frame s ≡ false → is_broken s.ending ≡ false → first_place_out s.start ≤ s.sent
sent_first s owes whole = go (nat_lt s.sent (first_place_out s.start)) refl (ap (λ b. not b && nat_lt s.sent (first_place_out s.start)) (sym whole) ∙ owes)
  where
    go : (b : Bool) → nat_lt s.sent (first_place_out s.start) ≡ b → b ≡ false → first_place_out s.start ≤ s.sent
    go true is e = absurd (true≢false e)
    go false is e = grind (arith, nat_tests)

-- neither does a stream that has not ended owe one
pub runs_whole : (ending : Ending) → has_ended ending ≡ false → (is_broken ending ≡ false) × (last_word ending ≡ None)
runs_whole Runs e = (refl, refl)
runs_whole (Over terminate) e = absurd (true≢false e)
runs_whole Broken e = absurd (true≢false e)

pub keeps_sent : (s : StreamState) (queue : Queue) (numbers : Numbers) (n : ℕ) (reads : List Outstanding) (asked : Requested) → is_open s.start ≡ true → first_place_out s.start ≤ s.sent → (s.sent - first_place_out s.start + n) % 4 ≡ 0
    → queue.sent.first < 2 ^ 64 → (ended s ≡ false → AreAwaited queue.sent reads) → (s.sent + n ≤ first_place_out s.start → reads ≡ []) → Keeps s
    → Keeps (record s { queue = queue; numbers = numbers; sent = s.sent + n; reads = reads; asked = asked })
keeps_sent s queue numbers n reads asked running low aligned first awaited unread k = record {
  started = record {
    unopened = k.started.unopened;
    unsent = λ lt. absurd (omega (arith, low, lt));
    alone = λ e. absurd (true≢false (sym running ∙ e));
    unread = unread;
    beyond = k.started.beyond;
  };
  between = k.between;
  aligned = ap (λ m. m % 4) (let same : s.sent + n - first_place_out s.start ≡ s.sent - first_place_out s.start + n = omega (arith, low) in same) ∙ aligned;
  enough = k.enough;
  few = k.few;
  is_placed = λ e. placed_still s (record s { queue = queue; numbers = numbers; sent = s.sent + n; reads = reads; asked = asked }) s.front refl refl refl (k.is_placed e);
  clear = k.clear;
  headed = k.headed;
  buffered = k.buffered;
  unopened = k.unopened;
  first = first;
  awaited = awaited;
}

-- ---- a segment in its buffer
passes : {A : Type 0} (o : Option Fault) (x y : A) → fault_or o x ≡ Ok y → (o ≡ None) × (x ≡ y)
passes None x y e = (refl, let w = e in cc)
passes (Some fault) x y e = absurd (let no : ⊥ = cc in no)

-- if a frame was placed
abbrev pub IsPlacing : Landing → Type 0
IsPlacing (landings.Write at) = Unit {0}
IsPlacing (landings.Response at) = Unit {0}
IsPlacing (landings.Send msn mo len) = Unit {0}
IsPlacing (landings.Request request) = ⊥
IsPlacing (landings.Terminate fault) = ⊥

-- a Send's segment that was placed has its buffer
pub segment_placed : (at : Standing) (u : List ℕ) (unanswered : ℕ) (head : Head) (x : Landing) → Judges u unanswered head → place_verdict at head (length (payload_of (read_segment u))) ≡ Ok x → IsPlacing x
    → HasBuffer (receiving_landed at.receiving (payload_of (read_segment u)) x) (length (payload_of (read_segment u))) (read_segment u)
segment_placed at u unanswered (heads.Write head) x j e p = subst (λ o. HasBuffer (receiving_landed at.receiving (payload_of o) x) (length (payload_of o)) o) (sym j.is) tt
segment_placed at u unanswered (heads.Response head) x j e p = subst (λ o. HasBuffer (receiving_landed at.receiving (payload_of o) x) (length (payload_of o)) o) (sym j.is) tt
segment_placed at u unanswered (heads.Send head) x j e p =
    let parts = passes _ _ _ e in
    subst (λ y. HasBuffer (receiving_landed at.receiving (payload_of (read_segment u)) y) (length (payload_of (read_segment u))) (read_segment u)) parts.1
    (subst (λ o. HasBuffer (written at.receiving head.msn head.mo (payload_of (read_segment u))) (length (payload_of (read_segment u))) o) (sym j.is)
    (buffer_written at.receiving head.msn head.mo (payload_of (read_segment u)) parts.0))
segment_placed at u unanswered (heads.Request head request) x j e p = absurd (subst IsPlacing (sym (passes _ _ _ e).1) p)
segment_placed at u unanswered (heads.Terminate head word) x j e p = absurd (subst IsPlacing (let same : x ≡ landings.Terminate (fault_told word) = cc in same) p)

-- and no buffer goes by a placement
pub segment_stays : (at : Standing) (u : List ℕ) (unanswered : ℕ) (head : Head) (x : Landing) → Judges u unanswered head → place_verdict at head (length (payload_of (read_segment u))) ≡ Ok x
    → StaysThere at.receiving (receiving_landed at.receiving (payload_of (read_segment u)) x)
segment_stays at u unanswered (heads.Write head) x j e = subst (λ y. StaysThere at.receiving (receiving_landed at.receiving (payload_of (read_segment u)) y)) (passes _ _ _ e).1 (stays_same at.receiving at.receiving refl)
segment_stays at u unanswered (heads.Response head) x j e = subst (λ y. StaysThere at.receiving (receiving_landed at.receiving (payload_of (read_segment u)) y)) (passes _ _ _ e).1 (stays_same at.receiving at.receiving refl)
segment_stays at u unanswered (heads.Send head) x j e =
    let parts = passes _ _ _ e in
    subst (λ y. StaysThere at.receiving (receiving_landed at.receiving (payload_of (read_segment u)) y)) parts.1 (stays_written at.receiving head.msn head.mo (payload_of (read_segment u)) parts.0)
segment_stays at u unanswered (heads.Request head request) x j e =
    subst (λ y. StaysThere at.receiving (receiving_landed at.receiving (payload_of (read_segment u)) y)) (passes _ _ _ e).1 (stays_same at.receiving at.receiving refl)
segment_stays at u unanswered (heads.Terminate head word) x j e =
    subst (λ y. StaysThere at.receiving (receiving_landed at.receiving (payload_of (read_segment u)) y)) (let same : landings.Terminate (fault_told word) ≡ x = cc in same) (stays_same at.receiving at.receiving refl)

-- ---- a frame that passed its checks
pub record IsJudged (at : Standing) (u : List ℕ) (x : Landing) : Type 0 where
  pub head : Head
  pub is : judged_head at u ≡ Ok head
  pub judged : Judges u (length at.asked.unanswered) head
  pub placed : place_verdict at head (length (payload_of (read_segment u))) ≡ Ok x

ulpdu_judged : (at : Standing) (u : List ℕ) (x : Landing) → segment_verdict at u ≡ Ok x → IsJudged at u x
ulpdu_judged at u x e = go (judged_head at u) refl e
  where
    go : (r : Result Head Fault) → judged_head at u ≡ r → head_verdict at r (length (payload_of (read_segment u))) ≡ Ok x → IsJudged at u x
    go (Err fault) is h = absurd (let no : ⊥ = cc in no)
    go (Ok head) is h = record { head = head; is = is; judged = judges u at.asked.next (length at.asked.unanswered) head is; placed = h }

pub frame_judged : (at : Standing) (frame : Frame) (x : Landing) → verdict at frame ≡ Ok x → IsJudged at frame.ulpdu x
frame_judged at frame x e = go frame.mismatch e
  where
    go : (wrong : Option Mismatch) → option_map_or (λ m. Err (mismatch_fault m)) wrong (segment_verdict at frame.ulpdu) ≡ Ok x → IsJudged at frame.ulpdu x
    go None h = ulpdu_judged at frame.ulpdu x h
    go (Some m) h = absurd (let no : ⊥ = cc in no)

-- its header is whole
pub judged_whole : (u : List ℕ) (unanswered : ℕ) (head : Head) → Judges u unanswered head → header_len (header_in u) ≤ length (header_in u)
judged_whole u unanswered (heads.Write head) j = let h = header_read u (Tagged head j.payload) j.is in omega (arith, h.len, h.whole)
judged_whole u unanswered (heads.Response head) j = let h = header_read u (Tagged head j.payload) j.is in omega (arith, h.len, h.whole)
judged_whole u unanswered (heads.Send head) j = let h = header_read u (Untagged head j.payload) j.is in omega (arith, h.len, h.whole)
judged_whole u unanswered (heads.Request head request) j = let h = header_read u (Untagged head j.0.payload) j.0.is in omega (arith, h.len, h.whole)
judged_whole u unanswered (heads.Terminate head word) j = let h = header_read u (Untagged head j.payload) j.is in omega (arith, h.len, h.whole)

pub whole_judged : (at : Standing) (found : Found) (x : Landing) → verdict at (frame_by found) ≡ Ok x → header_len (header_in (ulpdu found)) ≤ length (header_in (ulpdu found))
whole_judged at found x e = let j = frame_judged at (frame_by found) x e in judged_whole (ulpdu found) (length at.asked.unanswered) j.head j.judged

-- a frame that is whole stands at the in-order point
pub stands_next : (s : StreamState) (found : Found) → IsNext (expecting s.start) s.arrived (first_place_in s.start) found → header_len (header_in (ulpdu found)) ≤ length (header_in (ulpdu found)) → Stands s (placed (frame_by found))
stands_next s found n whole =
    let m : Bool = (expecting s.start).markers in
    let base : ℕ = first_place_in s.start in
    let long : length (ulpdu found) ≡ ulpdu_len found = length_ulpdu found in record {
      begins = ap (λ (f : Found). f.start) n.is;
      low = n.low;
      whole = whole;
      header = header_short (ulpdu found);
      on = subst (λ z. s.arrived.floor < base + frame_end m found.start z) (sym long) n.on;
      near = subst (λ z. base + frame_end m found.start z ≤ s.arrived.floor + 2 ^ 18) (sym long) n.near;
      come = λ p lt. n.come p (subst (λ z. p < base + frame_end m found.start z) long lt);
      next = subst (λ z. IsBetween m (frame_end m found.start z)) (sym long) n.next;
    }

-- one that was placed, of a stream that is open
pub keeps_judged : (s : StreamState) (table : Table) (found : Found) (after : Receiving) (x : Landing) → is_open s.start ≡ true
    → IsNext (expecting s.start) s.arrived (first_place_in s.start) found
    → verdict (standing table s) (frame_by found) ≡ Ok x → IsPlacing x
    → after ≡ receiving_landed s.receiving (payload_of (read_segment (ulpdu found))) x → NoneReachesOver s (placed (frame_by found)) → Keeps s
    → Keeps (record s { front = Some (placed (frame_by found)); receiving = after })
keeps_judged s table found after x running n ok placing there over k =
    let at : Standing = standing table s in
    let sound = frame_judged at (frame_by found) x ok in
    let has = stands_next s found n (whole_judged at found x ok) in
    let stays = subst (StaysThere s.receiving) (sym there) (segment_stays at (ulpdu found) (length s.asked.unanswered) sound.head x sound.judged sound.placed) in
    record {
      started = record {
        unopened = λ e. absurd (true≢false (sym running ∙ e));
        unsent = k.started.unsent;
        alone = k.started.alone;
        unread = k.started.unread;
        beyond = k.started.beyond;
      };
      between = k.between;
      aligned = k.aligned;
      enough = k.enough;
      few = k.few;
      is_placed = λ e. record {
        stands = record { begins = has.begins; low = has.low; whole = has.whole; header = has.header; on = has.on; near = has.near; come = has.come; next = has.next };
        room = subst (λ r. HasRoomInTurn r (payload_len (placed (frame_by found))) (head_in (placed (frame_by found)))) (sym there)
            (has_room (receiving_landed s.receiving (payload_of (read_segment (ulpdu found))) x) (payload_len (placed (frame_by found))) (head_in (placed (frame_by found)))
            (kept_buffer (receiving_landed s.receiving (payload_of (read_segment (ulpdu found))) x) (ulpdu found) (segment_placed at (ulpdu found) (length s.asked.unanswered) sound.head x sound.judged sound.placed placing)));
      };
      clear = λ e. over;
      headed = k.headed;
      buffered = λ e y within. stays_so s.receiving after (point_of (scene s)) (point_of (scene s)) s.early stays (omega arith) y within (k.buffered e y within);
      unopened = k.unopened;
      first = k.first;
      awaited = k.awaited;
    }

-- one that was placed, before its turn, as if it was placed there
pub keeps_fronted : (s : StreamState) (frame : PlacedFrame) → is_open s.start ≡ true → IsPlaced s frame → NoneReachesOver s frame → Keeps s → Keeps (record s { front = Some frame })
keeps_fronted s frame running p over k =
    let has = p.stands in record {
      started = record {
        unopened = λ e. absurd (true≢false (sym running ∙ e));
        unsent = k.started.unsent;
        alone = k.started.alone;
        unread = k.started.unread;
        beyond = k.started.beyond;
      };
      between = k.between;
      aligned = k.aligned;
      enough = k.enough;
      few = k.few;
      is_placed = λ e. record {
        stands = record { begins = has.begins; low = has.low; whole = has.whole; header = has.header; on = has.on; near = has.near; come = has.come; next = has.next };
        room = p.room;
      };
      clear = λ e. over;
      headed = k.headed;
      buffered = k.buffered;
      unopened = k.unopened;
      first = k.first;
      awaited = k.awaited;
    }

-- what may be judged before its turn is placed, if it passes
pub early_placing : (at : Standing) (head : Head) (n : ℕ) (x : Landing) → is_early head ≡ true → place_verdict at head n ≡ Ok x → IsPlacing x
early_placing at (heads.Write head) n x early e = subst IsPlacing (passes _ _ _ e).1 tt
early_placing at (heads.Response head) n x early e = subst IsPlacing (passes _ _ _ e).1 tt
early_placing at (heads.Send head) n x early e = subst IsPlacing (passes _ _ _ e).1 tt
early_placing at (heads.Request head request) n x early e = absurd (false≢true early)
early_placing at (heads.Terminate head word) n x early e = absurd (false≢true early)

-- one more request may wait if one was judged, and its source has a range
pub record MayTake (asked : Requested) (u : List ℕ) (request : ReadRequest) : Type 0 where
  pub header : length (header_in u) ≡ 18
  pub room : length asked.unanswered < MAX_UNANSWERED
  pub range : IsInRange request

pub may_take : (at : Standing) (found : Found) (request : ReadRequest) → verdict at (frame_by found) ≡ Ok (landings.Request request) → MayTake at.asked (ulpdu found) request
may_take at found request e = let j = frame_judged at (frame_by found) (landings.Request request) e in go j.head j.judged j.placed
  where
    go : (head : Head) → Judges (ulpdu found) (length at.asked.unanswered) head → place_verdict at head (length (payload_of (read_segment (ulpdu found)))) ≡ Ok (landings.Request request) → MayTake at.asked (ulpdu found) request
    go (heads.Write head) j h = absurd (let w = (passes _ _ _ h).1 in let no : ⊥ = cc in no)
    go (heads.Response head) j h = absurd (let w = (passes _ _ _ h).1 in let no : ⊥ = cc in no)
    go (heads.Send head) j h = absurd (let w = (passes _ _ _ h).1 in let no : ⊥ = cc in no)
    go (heads.Request head asked) j h =
        let parts = passes _ _ _ h in
        let same : asked ≡ request = let w = parts.1 in cc in
        record { header = (header_read (ulpdu found) (Untagged head j.0.payload) j.0.is).len; room = j.1; range = subst IsInRange same (in_range at.table at.peer asked parts.0) }
    go (heads.Terminate head word) j h = absurd (let no : ⊥ = cc in no)
