-- What was sent of the messages that were posted, and which of them can be finished.
use Rattle.std.proofs.Common.{◌≡◌, ℕ, zero, suc, ◌+◌, ◌-◌, ◌<◌, ◌≤◌, List, [], ◌∷◌, ◌++◌, length, take, drop, map, Some, None, refl, sym, ap, ◌∙◌, subst, arith, append_assoc, length-append, inl, inr, add-one}
use Rattle.std.proofs.lemmas.List.{append-nil, map-append, length-drop, length-take-le, take-append-le, append_cancel_left, append_cancel_right}
use Rattle.std.specs.Prelude.{slice_get}
use Rattle.std.proofs.lemmas.Option.{same_Some, none-some}
use Rattle.iw_queues.specs.declared.request.Request.{Request}
use Rattle.iw_queues.specs.declared.request.Request.TheVariants.{Message as Posted, Read}
use Rattle.iw_octets.specs.declared.payload.ReadRequest.{ReadRequest}
use Rattle.iw_octets.specs.declared.segment.Segment.{Segment}
use Rattle.iw_octets.specs.Segment.{segment_octets}
use Rattle.iw_fpdu.specs.declared.layout.Layout.{Layout}
use Rattle.iw_fpdu.specs.Sequence.{sequence, place_past}
use Rattle.iw_fpdu.proofs.Sequences.{sequences_join}
use Rattle.iw_fpdu.proofs.Follows.{frames_follow}
use Rattle.iw_queues.specs.declared.request.Kind.{Kind}
use Rattle.iw_queues.specs.declared.completions.Done.{Done}
use Rattle.iw_queues.specs.Queue.{done_in, handed_from}
use Rattle.iw_queues.specs.Segments.{first_numbers}
use Rattle.iw_queues.specs.Laws.{kinds_in}
use Rattle.iw_queues.proofs.Order.{keeps_order}
use Rattle.iw_stream.specs.Starting.{is_open, sending, own_frame}
use Rattle.iw_stream.specs.Stream.{StreamState}
use Rattle.iw_laws.specs.Words.{Octets}
use Rattle.iw_laws.specs.Turns.{Story}
use Rattle.iw_laws.specs.Sends.{farewells, AreSent, IsSentMessage, IsAnswered, count_reads, ready_of}
use Rattle.iw_laws.specs.Merged.{posts_in, AreMerged}
use Rattle.iw_laws.proofs.Merges.{first_items, split_merged}
use Rattle.iw_laws.proofs.Tales.{Tale}
use Rattle.iw_laws.proofs.Tracks.{Track}
use Rattle.iw_laws.proofs.Lists.{Each}
use Rattle.iw_laws.proofs.Counts.{count_reads-append, IsTold, count_last, count_last-append, farewell_last, marks, length-marks, Hands, hands, Awaits, none_done, read_mark, awaited_mark, awaited_read, merged_last, merged_told, all_told, front_last, message_at, place_within}
use Rattle.iw_laws.proofs.Owned.{Emits, out_of, IsFramed, Unspoken, Spoken}
use Rattle.iw_laws.proofs.Owns.{left_gone}
use Rattle.iw_laws.proofs.Ready.{ready_in, all_done, most_done}

-- the story of a stream and its state begin alike
module _ (s : StreamState) (t : Tale) (k : Track s t) where
  pub start_frame_is : own_frame t.story.start ≡ own_frame s.start
  start_frame_is = ap own_frame k.begins.start

  pub open_is : is_open t.story.start ≡ is_open s.start
  open_is = ap is_open k.begins.start

  pub sequence_is : (us : List (Segment Octets)) → own_frame t.story.start ++ sequence (sending t.story.start) 0 (map segment_octets us) ≡ own_frame s.start ++ sequence (sending s.start) 0 (map segment_octets us)
  sequence_is us = λ i. own_frame (k.begins.start i) ++ sequence (sending (k.begins.start i)) 0 (map segment_octets us)

pub no_frames : (l : Layout) → sequence l 0 [] ≡ []
unfolding sequence
no_frames l = refl

-- a Terminate carries no message to its end
out_last : (s : StreamState) (t : Tale) (e : Emits s t) → count_last (out_of s t e) ≡ count_last e.segments
out_last s t e = count_last-append e.segments (farewells t.story.farewell) ∙ omega (arith, farewell_last t.story.farewell)

-- the messages that are whole are the RTR and those that were sent to their end
pub items_are : (s : StreamState) (t : Tale) (e : Emits s t) → e.left ≡ [] → posts_in e.merges.items ≡ ready_in s.start ++ e.counts.first
items_are s t e gone =
    append_cancel_right (posts_in e.merges.items) (ready_in s.start ++ e.counts.first) e.kept.unsent
    (ap (λ z. posts_in e.merges.items ++ (z ++ e.kept.unsent)) (sym gone) ∙ e.merges.posts ∙ ap (λ z. ready_in s.start ++ z) e.counts.split ∙ sym (append_assoc (ready_in s.start) e.counts.first e.kept.unsent))

-- of a list behind another the first ones
take_behind : (xs ys : List (Request Octets)) (n : ℕ) → take (length xs + n) (xs ++ ys) ≡ xs ++ take n ys
take_behind [] ys n = let same : length {A = Request Octets} [] + n ≡ n = omega arith in ap (λ (m : ℕ). take m ys) same
take_behind (x ∷ xs) ys n =
    let same : length (x ∷ xs) + n ≡ suc (length xs + n) = omega arith in
    ap (λ (m : ℕ). take m (x ∷ (xs ++ ys))) same ∙ ap (λ z. x ∷ z) (take_behind xs ys n)

pub first_posted : (s : StreamState) (t : Tale) (e : Emits s t) (n : ℕ) → n ≤ length e.counts.first → take n t.posted ≡ take n e.counts.first
first_posted s t e n few = ap (take n) e.counts.split ∙ take-append-le n e.counts.first e.kept.unsent few

-- the first messages, as many as were carried to their ends, are among what was sent
sent_first : (s : StreamState) (t : Tale) → Track s t → (e : Emits s t) → (n : ℕ) → 0 < n → n ≤ length e.counts.first → AreSent t.story t.sent (take n t.posted)
sent_first s t k e n some enough =
    let gone : e.left ≡ [] = left_gone e (omega (arith, some, enough)) in
    let f = first_items (length (ready_in s.start) + n) e.merges.items in
    let m = split_merged first_numbers f.mine f.others e.merges.done (subst (λ z. AreMerged first_numbers 0 z e.merges.done) f.is e.merges.spelled) in
    let layout : Layout = sending t.story.start in
    let mine : List Octets = map segment_octets m.front in
    let parted : List (Segment Octets) = farewells t.story.farewell in
    let others : List Octets = map segment_octets ((m.back ++ e.merges.partial) ++ parted) in
    let front : Octets = own_frame t.story.start ++ sequence layout 0 mine in
    let rest : Octets = sequence layout (place_past layout 0 mine) others in
    let all : out_of s t e ≡ m.front ++ ((m.back ++ e.merges.partial) ++ parted) =
    ap (λ z. z ++ parted) (e.merges.segments_are ∙ ap (λ z. z ++ e.merges.partial) m.is ∙ append_assoc m.front m.back e.merges.partial) ∙ append_assoc m.front (m.back ++ e.merges.partial) parted in
    let joined : sequence layout 0 mine ++ rest ≡ sequence layout 0 (map segment_octets (out_of s t e)) =
    sym (sequences_join layout 0 mine others) ∙ ap (sequence layout 0) (sym (map-append segment_octets m.front ((m.back ++ e.merges.partial) ++ parted))) ∙ ap (λ z. sequence layout 0 (map segment_octets z)) (sym all) in
    record {
      items = f.mine;
      posts = f.posts ∙ ap (take (length (ready_in s.start) + n)) (items_are s t e gone) ∙ take_behind (ready_in s.start) e.counts.first n
          ∙ (λ i. ready_in (sym k.begins.start i) ++ sym (first_posted s t e n enough) i);
      first = front;
      frames = record { segments = m.front; carry = m.mine; framed = refl };
      begins = (rest, append_assoc (own_frame t.story.start) (sequence layout 0 mine) rest ∙ ap (λ z. own_frame t.story.start ++ z) joined ∙ sequence_is s t k (out_of s t e) ∙ sym (framed e.framed));
    }
  where
    framed : IsFramed s.start t.sent (out_of s t e) → t.sent ≡ own_frame s.start ++ sequence (sending s.start) 0 (map segment_octets (out_of s t e))
    framed (Spoken b) = b
    framed (Unspoken b c) = absurd (omega (arith, some, enough, ap count_last c, out_last s t e, e.whole, ap length (left_gone e (omega (arith, some, enough))), e.counts.lasts))

-- a message that was sent to its end, by its place among all
get_first : (xs ys : List (Request Octets)) (f : ℕ) → f < length xs → slice_get (xs ++ ys) f ≡ slice_get xs f
get_first [] ys f h = absurd (omega (arith, h))
get_first (x ∷ xs) ys zero h = refl
get_first (x ∷ xs) ys (suc f) h = get_first xs ys f (omega (arith, h))

first_there : (s : StreamState) (t : Tale) (e : Emits s t) (f : ℕ) (m : Request Octets) → f < length e.counts.first → slice_get t.posted f ≡ Some m → slice_get e.counts.first f ≡ Some m
first_there s t e f m h is = sym (get_first e.counts.first e.kept.unsent f h) ∙ ap (λ z. slice_get z f) (sym e.counts.split) ∙ is

-- as many are kept as were sent to their end and not handed back
held_is : (s : StreamState) (t : Tale) (e : Emits s t) → length s.queue.sent.messages ≡ length e.counts.first - length t.handed
held_is s t e = ap length e.handing.marked ∙ length-drop (length t.handed) (marks e.done e.counts.first) ∙ ap (λ n. n - length t.handed) (length-marks e.done e.counts.first)

-- up to a Read there is one
read_there : (ms : List (Request Octets)) (f : ℕ) (r : ReadRequest) → slice_get ms f ≡ Some (Read r) → 0 < count_reads (take (f + 1) ms)
read_there ms f r is = rw (add-one f) (go ms f is)
  where
    go : (ms : List (Request Octets)) (f : ℕ) → slice_get ms f ≡ Some (Read r) → 0 < count_reads (take (suc f) ms)
    go [] f is = absurd (none-some _ is)
    go (Posted m ∷ ms) zero is = absurd (let no : Posted m ≡ Read r = same_Some _ _ is in cc)
    go (Read x ∷ ms) zero is = omega arith
    go (Posted m ∷ ms) (suc f) is = go ms f is
    go (Read x ∷ ms) (suc f) is = omega arith

-- a message that the queue has finished was sent to its end, and is the next of those posted; a Read was answered
pub can_finish : (s : StreamState) (t : Tale) → Track s t → Emits s t → (d : Done) → done_in s.queue ≡ Some d → IsSentMessage t.story t.sent t.posted (length t.handed) d.kind
can_finish s t k e d done =
    let m = message_at t.posted t.handed d.kind (kinds_in (handed_from s.queue (Some d))) (e.handing.order ∙ ap (λ z. t.handed ++ z) (keeps_order.done s.queue d done).kind) in
    let h = hands s.queue d done in
    let some : length t.handed + 1 ≤ length e.counts.first = omega (arith, held_is s t e, ap length h.is) in
    record {
      message = m.0;
      is = m.1;
      kind_is = m.2;
      sent = sent_first s t k e (length t.handed + 1) (omega arith) some;
      answered = answered m.0 m.1 h some;
    }
  where
    answered : (m : Request Octets) → slice_get t.posted (length t.handed) ≡ Some m → Hands s.queue d → length t.handed + 1 ≤ length e.counts.first → IsAnswered t.story (take (length t.handed + 1) t.posted) m
    answered (Posted m) is h some = tt
    answered (Read r) is h some =
        let there : slice_get e.counts.first (length t.handed) ≡ Some (Read r) = first_there s t e (length t.handed) (Read r) (omega (arith, some)) is in
        let few : count_reads (take (length t.handed + 1) e.counts.first) ≤ e.done = read_mark e.done (length t.handed) e.counts.first h.message h.messages r (sym e.handing.marked ∙ h.is) h.finished there in
        let all : t.story.answered ≡ count_reads (ready_in s.start) + e.done = all_done (left_gone e (omega (arith, some))) (omega (arith, few, read_there e.counts.first (length t.handed) r there)) e.reads in
        let reads : count_reads (ready_of t.story ++ take (length t.handed + 1) t.posted) ≡ count_reads (ready_in s.start) + count_reads (take (length t.handed + 1) e.counts.first) =
        (λ i. count_reads (ready_in (k.begins.start i) ++ first_posted s t e (length t.handed + 1) some i)) ∙ count_reads-append (ready_in s.start) (take (length t.handed + 1) e.counts.first) in
        omega (arith, few, all, reads)

-- where nothing was sent, nothing can be finished
no_octets : (xs : Octets) → length xs ≡ 0 → xs ≡ []
no_octets [] h = refl
no_octets (x ∷ xs) h = absurd (omega (arith, h))

bare_last : (t : Story) (vs : List (Segment Octets)) (front rest : Octets) → front ≡ own_frame t.start ++ sequence (sending t.start) 0 (map segment_octets vs) → front ++ rest ≡ [] → Each IsTold vs → count_last vs ≤ 0
bare_last t vs front rest are none told =
    let frames : Octets = sequence (sending t.start) 0 (map segment_octets vs) in
    let nil : length frames ≡ 0 = omega (arith, ap length none, length-append front rest, ap length are, length-append (own_frame t.start) frames) in
    front_last (sending t.start) 0 vs [] [] (frames_follow.first (sending t.start).markers) told tt (append-nil frames ∙ no_octets frames nil ∙ sym (no_frames (sending t.start)))

-- as many messages as segments that are the last of theirs
lasts_are : (t : Story) (octets : Octets) (ms : List (Request Octets)) (k : ℕ) (kind : Kind) (c : IsSentMessage t octets ms k kind) → count_last c.sent.frames.segments ≡ length (ready_of t) + (k + 1)
lasts_are t octets ms k kind c =
    merged_last first_numbers c.sent.items c.sent.frames.segments c.sent.frames.carry ∙ ap length c.sent.posts ∙ length-append (ready_of t) (take (k + 1) ms)
    ∙ ap (λ n. length (ready_of t) + n) (length-take-le (k + 1) ms (omega (arith, place_within ms k c.message c.is)))

pub nothing_sent : (t : Story) (ms : List (Request Octets)) (k : ℕ) (kind : Kind) → IsSentMessage t [] ms k kind → ⊥
nothing_sent t ms k kind c =
    let none : count_last c.sent.frames.segments ≤ 0 =
    bare_last t c.sent.frames.segments c.sent.first c.sent.begins.0 c.sent.frames.framed c.sent.begins.1 (merged_told first_numbers c.sent.items c.sent.frames.segments c.sent.frames.carry) in
    omega (arith, none, lasts_are t [] ms k kind c)

-- and where it has finished none, none can be
pub cannot_finish : (s : StreamState) (t : Tale) → Track s t → Emits s t → done_in s.queue ≡ None → (kind : Kind) → ¬ IsSentMessage t.story t.sent t.posted (length t.handed) kind
cannot_finish s t k e none kind c =
    let all = c.sent.frames in
    let most : count_last all.segments ≤ count_last (out_of s t e) = go c.sent.first c.sent.begins.0 all.segments all.framed c.sent.begins.1 (merged_told first_numbers c.sent.items all.segments all.carry) e.framed in
    let some : length t.handed + 1 ≤ length e.counts.first = omega (arith, lasts_are t.story t.sent t.posted (length t.handed) kind c, most, out_last s t e, e.whole, ap (λ z. length (ready_in z)) k.begins.start, e.counts.lasts) in
    elim (none_done s.queue none) [
      | inl nil ↦ absurd (omega (arith, some, held_is s t e, ap length nil))
      | inr w ↦ waits w some
    ]
  where
    waits : Awaits s.queue → length t.handed + 1 ≤ length e.counts.first → ⊥
    waits w some =
        let marked : drop (length t.handed) (marks e.done e.counts.first) ≡ w.message ∷ w.messages = sym e.handing.marked ∙ w.is in
        let r = awaited_read e.done (length t.handed) e.counts.first w.message w.messages marked w.unfinished in
        let there : slice_get e.counts.first (length t.handed) ≡ Some c.message = first_there s t e (length t.handed) c.message (omega (arith, some)) c.is in
        let read : c.message ≡ Read r.0 = same_Some _ _ (sym there ∙ r.1) in
        let answered : count_reads (ready_of t.story ++ take (length t.handed + 1) t.posted) ≤ t.story.answered = subst (IsAnswered t.story (take (length t.handed + 1) t.posted)) read c.answered in
        let reads : count_reads (ready_of t.story ++ take (length t.handed + 1) t.posted) ≡ count_reads (ready_in s.start) + count_reads (take (length t.handed + 1) e.counts.first) =
        (λ i. count_reads (ready_in (k.begins.start i) ++ first_posted s t e (length t.handed + 1) some i)) ∙ count_reads-append (ready_in s.start) (take (length t.handed + 1) e.counts.first) in
        omega (arith, answered, reads, most_done e.reads, awaited_mark e.done (length t.handed) e.counts.first w.message w.messages marked w.unfinished)

    go : (front rest : Octets) (vs : List (Segment Octets)) → front ≡ own_frame t.story.start ++ sequence (sending t.story.start) 0 (map segment_octets vs) → front ++ rest ≡ t.sent → Each IsTold vs → IsFramed s.start t.sent (out_of s t e)
        → count_last vs ≤ count_last (out_of s t e)
    go front rest vs are all told (Unspoken b c) = let none : count_last vs ≤ 0 = bare_last t.story vs front rest are (all ∙ b) told in omega (arith, none)
    go front rest vs are all told (Spoken b) =
        let start : Octets = own_frame t.story.start in
        let frames : Octets = sequence (sending t.story.start) 0 (map segment_octets vs) in
        let whole : start ++ (frames ++ rest) ≡ start ++ sequence (sending t.story.start) 0 (map segment_octets (out_of s t e)) =
        sym (append_assoc start frames rest) ∙ ap (λ z. z ++ rest) (sym are) ∙ all ∙ b ∙ sym (sequence_is s t k (out_of s t e)) in
        front_last (sending t.story.start) 0 vs (out_of s t e) rest (frames_follow.first (sending t.story.start).markers) told (all_told (out_of s t e) e.good) (append_cancel_left start _ _ whole)
