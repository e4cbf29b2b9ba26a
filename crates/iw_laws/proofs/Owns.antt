-- How a stream begins, and that each act keeps what its state has in common with its acts; that changes stay within what was allowed.
use Rattle.std.proofs.Common.{◌≡◌, ℕ, zero, suc, take, length-drop, ◌+◌, ◌-◌, ◌<◌, ◌≤◌, List, [], ◌∷◌, ◌++◌, length, map, Some, None, Bool, true, false, cond, refl, sym, ap, ◌∙◌, subst, arith, inl, inr, ◌⊎◌, Ok, Err, add-one}
use Rattle.std.specs.Prelude.{slice_get, nat_eq}
use Rattle.std.proofs.lemmas.List.{append-nil, map-append, length-map, take-append-le}
use Rattle.std.proofs.lemmas.Option.{none-some}
use Rattle.std.proofs.lemmas.Bool.Decides.{nat_tests}
use Rattle.iw_octets.specs.declared.head.UntaggedHead.{UntaggedHead}
use Rattle.iw_octets.specs.declared.payload.ReadRequest.{ReadRequest}
use Rattle.iw_memory.specs.declared.peer.Peer.{Peer}
use Rattle.iw_queues.specs.declared.request.Request.TheVariants.{Message as Posted, Read}
use Rattle.iw_queues.specs.declared.request.Kind.TheVariants as kinds
use Rattle.iw_queues.specs.Request.{payload}
use Rattle.iw_octets.specs.declared.message.Message.TheVariants.{Write, Send}
use Rattle.std.proofs.lemmas.Option.{same_Some}
use Rattle.iw_laws.specs.Turns.{story_after}
use Rattle.iw_laws.proofs.Ready.{ready_in, closed_ready, unready_are, all_done}
use Rattle.iw_memory.specs.Table.{Table}
use Rattle.iw_memory.specs.Laws.{AllowsFor}
use Rattle.iw_memory.proofs.Callers.{allows}
use Rattle.iw_ranges.specs.declared.Delivery.TheVariants.{Kept, Dropped}
use Rattle.iw_ranges.specs.Arrived.{in_order}
use Rattle.iw_untagged.specs.Receiving.{ahead_of, buffer_fault, buffer_for}
use Rattle.iw_queues.specs.declared.request.Kind.{Kind}
use Rattle.iw_queues.specs.declared.request.Request.{Request}
use Rattle.iw_queues.specs.declared.completions.Done.{Done}
use Rattle.iw_queues.specs.Request.{kind_of}
use Rattle.iw_queues.specs.Queue.{done_in, handed_from}
use Rattle.iw_queues.specs.Laws.{kinds_in}
use Rattle.iw_queues.proofs.Order.{keeps_order}
use Rattle.iw_startup.specs.declared.side.Reply.{Reply}
use Rattle.iw_startup.specs.declared.side.Reply.TheVariants as replies
use Rattle.iw_startup.specs.State.{StartupState, pushed, answered}
use Rattle.iw_stream.specs.declared.answer.Role.TheVariants.{Responder}
use Rattle.iw_stream.specs.Starting.{StartState, AtOnce, Unheard, Heard, is_open, heard, answered_with}
use Rattle.iw_stream.specs.Stream.{StreamState, ended, due, peer_of}
use Rattle.iw_laws.specs.Sends.{farewells, count_reads, ready_of}
use Rattle.iw_laws.specs.Faithful.{count_done, responses_done}
use Rattle.iw_stream.specs.Work.{inbox}
use Rattle.iw_events.specs.declared.act.StreamAct.{StreamAct}
use Rattle.iw_events.specs.declared.act.StreamAct.TheVariants.{Recv, Post, Emit, First, Deliver, Raw, Mulpdu, Accept, Reject, Work, Break}
use Rattle.iw_events.specs.declared.act.Seen.TheVariants as seen
use Rattle.iw_laws.specs.Words.{Octets, deed, Opening, finished_by, handed_by, ended_after, sent_by, private_data}
use Rattle.iw_laws.specs.Rules.{StreamRule}
use Rattle.iw_laws.proofs.States.{Connected}
use Rattle.iw_laws.specs.Safe.{InBuffer}
use Rattle.iw_laws.specs.Words.{OnSome}
use Rattle.iw_laws.proofs.Rooms.{heard_open}
use Rattle.iw_laws.proofs.Told.{Told, after_act, told}
use Rattle.iw_laws.proofs.Tales.{Tale, tale_after}
use Rattle.iw_laws.proofs.Paid.{paying}
use Rattle.iw_laws.proofs.Onces.{once_after}
use Rattle.iw_laws.proofs.Fills.{fill_after}
use Rattle.iw_laws.proofs.Tracks.{Track, shown_stays, sound, tracking, MayAnswer, may, accepting, refusing, unanswered}
use Rattle.iw_laws.proofs.Counts.{marks, length-marks, count_reads-kinds, map-take, take-all, count_done-append, read_mark, message_at, Hands, hands, count_last, count_last-append}
use Rattle.iw_laws.proofs.Checks.{checked_buffer}
use Rattle.iw_laws.proofs.Owned.{Emits, role_of, StartsAs, IsStartOf, Doing, Own, left_heard, knows_numbers, on_any, due_is, sent_is, stays, below}
use Rattle.iw_laws.proofs.OwnedTurns.{unanswered_shut, fault_runs, emitting, ended_is}

-- ---- how a stream began

pushed_starts : (o : Opening) (u : StartupState) (xs : Octets) → StartsAs o u → StartsAs o (pushed u xs)
unfolding pushed
pushed_starts o u xs h = record { role = h.role }

heard_starts : (o : Opening) (start : StartState) (xs : Octets) → IsStartOf o start → IsStartOf o (heard start xs)
heard_starts o (AtOnce layout) xs h = h
heard_starts o (Unheard u) xs h = pushed_starts o u xs h
heard_starts o (Heard u) xs h = h

answered_starts : (o : Opening) (s : StreamState) (reply : Reply) → (m : MayAnswer s) → IsStartOf o s.start → IsStartOf o (answered_with s.start reply)
answered_starts o s reply m h =
    let was : StartsAs o m.startup = subst (IsStartOf o) m.is h in
    let responds : Responder ≡ o.role = ap role_of (sym (unanswered m.startup m.asked)) ∙ was.role in
    let now : StartsAs o (answered m.startup reply) = record { role = responds } in
    subst (IsStartOf o) (ap (λ z. answered_with z reply) (sym m.is)) now

starting : (o : Opening) (table : Table) (s : StreamState) (act : StreamAct Octets) → Told table s act → IsStartOf o s.start → IsStartOf o (after_act s act).start
starting o table s (Emit shown) rule h = subst (IsStartOf o) (sym (left_heard s shown).start) h
starting o table s (Accept private (Ok agreed)) rule h = answered_starts o s (replies.Accept (private_data private)) (may s (accepting s (private_data private).items agreed rule)) h
starting o table s (Reject private None) rule h = answered_starts o s (replies.Reject (private_data private)) (may s (refusing s (private_data private).items rule)) h
starting o table s (Work (seen.Asked word private)) rule h = heard_starts o s.start (inbox s) h
starting o table s (Work (seen.Opened agreed word private)) rule h = heard_starts o s.start (inbox s) h
starting o table s (Work (seen.Closed fault)) rule h = heard_starts o s.start (inbox s) h
starting o table s (Post m None) rule h = h
starting o table s (Post m (Some refusal)) rule h = h
starting o table s (Recv len None) rule h = h
starting o table s (Recv len (Some refusal)) rule h = h
starting o table s (Deliver from number octets Kept) rule h = h
starting o table s (Deliver from number octets Dropped) rule h = h
starting o table s (Raw number octets Kept) rule h = h
starting o table s (Raw number octets Dropped) rule h = h
starting o table s (First number None) rule h = h
starting o table s (Mulpdu size None) rule h = h
starting o table s (First number (Some refusal)) rule h = h
starting o table s (Mulpdu size (Some refusal)) rule h = h
starting o table s (Accept private (Err refusal)) rule h = h
starting o table s (Reject private (Some refusal)) rule h = h
starting o table s (Work (seen.Done kind)) rule h = h
starting o table s (Work (seen.Placed right stag to octets)) rule h = h
starting o table s (Work (seen.Tried place)) rule h = h
starting o table s (Work (seen.Buffered msn mo len)) rule h = h
starting o table s (Work (seen.Requested size stag to)) rule h = h
starting o table s (Work seen.Passed) rule h = h
starting o table s (Work (seen.Received octets solicited invalidate)) rule h = h
starting o table s (Work (seen.Flushed kind)) rule h = h
starting o table s (Work (seen.FlushedRecv octets)) rule h = h
starting o table s (Work (seen.Terminated fault)) rule h = h
starting o table s (Work (seen.Fault fault)) rule h = heard_starts o s.start (inbox s) h
starting o table s Break rule h = h
starting o table s (Work seen.Idle) rule h = h

-- ---- Reads that are finished

-- where a message was sent to its end, no RTR is left
pub left_gone : {s : StreamState} {t : Tale} (e : Emits s t) → 0 < length e.counts.first → e.left ≡ []
left_gone e some = elim e.spoken [
  | inl gone ↦ gone
  | inr all ↦ absurd (omega (arith, e.whole, ap count_last all.0, ap length all.1, e.counts.lasts, some))
]

few_responses : (ready : List (Request Octets)) (n : ℕ) {a : ℕ} → count_reads ready + n ≤ a → responses_done ready n ≤ a
few_responses ready n {a} h = go (nat_eq n 0)
  where
    go : (b : Bool) → cond b 0 (count_reads ready + n) ≤ a
    go true = omega arith
    go false = h

-- a message is finished that is the next of those that were sent to their end; of a Read the response was answered
done_next : (s : StreamState) (t : Tale) (d : Done) → done_in s.queue ≡ Some d → t.story.start ≡ s.start → Emits s t → Doing t → responses_done (ready_of t.story) (count_done (t.finished ++ d.kind ∷ [])) ≤ t.story.answered
done_next s t d done start e k = go d.kind refl
  where
    h : Hands s.queue d
    h = hands s.queue d done

    first : List (Request Octets)
    first = e.counts.first

    n : ℕ
    n = length t.handed

    some : length t.handed + 1 ≤ length e.counts.first
    some = omega (arith, ap length (hands s.queue d done).is, ap length e.handing.marked, length-drop (length t.handed) (marks e.done e.counts.first), length-marks e.done e.counts.first)

    kinds_are : map kind_of (take (length t.handed) e.counts.first) ≡ t.handed
    kinds_are =
        map-take (length t.handed) e.counts.first
        ∙ sym (take-append-le (length t.handed) (map kind_of e.counts.first) (map kind_of e.kept.unsent) (omega (arith, some, length-map e.counts.first kind_of)))
        ∙ ap (take (length t.handed)) (sym (map-append kind_of e.counts.first e.kept.unsent) ∙ ap (map kind_of) (sym e.counts.split) ∙ e.handing.order)
        ∙ take-all t.handed (kinds_in s.queue)

    below : count_done t.handed ≡ count_reads (take (length t.handed) e.counts.first)
    below = ap count_done (sym kinds_are) ∙ count_reads-kinds (take (length t.handed) e.counts.first)

    one_more : (f : ℕ) (xs : List (Request Octets)) (r : ReadRequest) → slice_get xs f ≡ Some (Read r) → count_reads (take (suc f) xs) ≡ count_reads (take f xs) + 1
    one_more f [] r is = absurd (none-some _ is)
    one_more zero (Posted m ∷ xs) r is = let no : Posted m ≡ Read r = same_Some _ _ is in cc
    one_more zero (Read x ∷ xs) r is = refl
    one_more (suc f) (Posted m ∷ xs) r is = one_more f xs r is
    one_more (suc f) (Read x ∷ xs) r is = omega (arith, one_more f xs r is)

    get_first : (xs ys : List (Request Octets)) (f : ℕ) → f < length xs → slice_get (xs ++ ys) f ≡ slice_get xs f
    get_first [] ys f lt = absurd (omega (arith, lt))
    get_first (x ∷ xs) ys zero lt = refl
    get_first (x ∷ xs) ys (suc f) lt = get_first xs ys f (omega (arith, lt))

    read : (m : Request Octets) → slice_get t.posted (length t.handed) ≡ Some m → kind_of m ≡ kinds.Read → count_done t.finished + 1 ≤ e.done
    read (Posted (Write stag to octets)) is k = cc
    read (Posted (Send octets solicited invalidate)) is k = cc
    read (Read r) is kind =
        let there : slice_get e.counts.first (length t.handed) ≡ Some (Read r) = sym (get_first e.counts.first e.kept.unsent (length t.handed) (omega (arith, some))) ∙ ap (λ z. slice_get z (length t.handed)) (sym e.counts.split) ∙ is in
        let h = hands s.queue d done in
        let few : count_reads (take (length t.handed + 1) e.counts.first) ≤ e.done = read_mark e.done (length t.handed) e.counts.first h.message h.messages r (sym e.handing.marked ∙ h.is) h.finished there in
        let next : count_reads (take (suc (length t.handed)) e.counts.first) ≤ e.done = rw add-one at few in
        omega (arith, next, one_more (length t.handed) e.counts.first r there, below, k.among)

    ready : ready_of t.story ≡ ready_in s.start
    ready = ap ready_in start

    same : (n : ℕ) → n ≡ count_done t.finished → responses_done (ready_of t.story) n ≤ t.story.answered
    same n is = subst (λ n. responses_done (ready_of t.story) n ≤ t.story.answered) (sym is) k.answered

    go : (kind : Kind) → d.kind ≡ kind → responses_done (ready_of t.story) (count_done (t.finished ++ kind ∷ [])) ≤ t.story.answered
    go kinds.Write is = same (count_done (t.finished ++ kinds.Write ∷ [])) (count_done-append t.finished (kinds.Write ∷ []) ∙ omega arith)
    go kinds.Send is = same (count_done (t.finished ++ kinds.Send ∷ [])) (count_done-append t.finished (kinds.Send ∷ []) ∙ omega arith)
    go kinds.Read is =
        let m = message_at t.posted t.handed d.kind (kinds_in (handed_from s.queue (Some d))) (e.handing.order ∙ ap (λ z. t.handed ++ z) (keeps_order.done s.queue d done).kind) in
        let more : count_done t.finished + 1 ≤ e.done = read m.0 m.1 (sym m.2 ∙ is) in
        let sum : t.story.answered ≡ count_reads (ready_in s.start) + e.done = all_done (left_gone e (omega (arith, some))) (omega (arith, more)) e.reads in
        few_responses (ready_of t.story) (count_done (t.finished ++ kinds.Read ∷ [])) (omega (arith, count_done-append t.finished (kinds.Read ∷ []), more, sum, ap count_reads ready))

-- the story answers no fewer, and what is agreed on stays, or nothing is finished
quiet_doing : (t : Tale) (act : StreamAct Octets) → finished_by act ≡ [] → handed_by act ≡ [] → (ready_of (story_after t.story act) ≡ ready_of t.story) ⊎ (count_done t.finished ≡ 0) → t.story.answered ≤ (story_after t.story act).answered → Doing t → Doing (tale_after t act)
quiet_doing t act finished handed stays more k =
    let same : count_done (t.finished ++ finished_by act) ≡ count_done t.finished = ap count_done (ap (λ z. t.finished ++ z) finished ∙ append-nil t.finished) in
    let held : t.handed ++ handed_by act ≡ t.handed = ap (λ z. t.handed ++ z) handed ∙ append-nil t.handed in
    record {
      answered = elim stays [
        | inl ready ↦ (let was : responses_done (ready_of (story_after t.story act)) (count_done (t.finished ++ finished_by act)) ≡ responses_done (ready_of t.story) (count_done t.finished) = (λ i. responses_done (ready i) (same i)) in omega (arith, was, more, k.answered))
        | inr none ↦ (let was : responses_done (ready_of (story_after t.story act)) (count_done (t.finished ++ finished_by act)) ≡ 0 = ap (responses_done (ready_of (story_after t.story act))) (same ∙ none) in omega (arith, was))
      ];
      among = omega (arith, same, ap count_done held, k.among);
    }

no_more_done : (ready : List (Request Octets)) (n : ℕ) → n ≤ responses_done ready n
no_more_done ready n = go (nat_eq n 0) refl
  where
    go : (b : Bool) → nat_eq n 0 ≡ b → n ≤ cond b 0 (count_reads ready + n)
    go true e = let none : n ≡ 0 = grind (arith, nat_tests) in omega (arith, none)
    go false e = omega arith

-- before the stream is open nothing is finished
unfinished : (s : StreamState) (t : Tale) → is_open s.start ≡ false → Emits s t → Doing t → count_done t.finished ≡ 0
unfinished s t closed e k =
    let unready : ready_in s.start ≡ [] = closed_ready s.start closed in
    let gone : e.left ≡ [] = elim e.spoken [ inl none ↦ none | inr all ↦ all.1 ∙ unready ] in
    let nothing : count_last (e.segments ++ farewells t.story.farewell) ≡ 0 = ap count_last (e.parts.shut closed).none in
    let whole : length e.counts.first ≡ 0 = omega (arith, nothing, count_last-append e.segments (farewells t.story.farewell), e.whole, ap length gone, ap length unready, e.counts.lasts) in
    omega (arith, k.answered, no_more_done (ready_of t.story) (count_done t.finished), (unready_are unready gone e.reads).1, e.counts.some, ap count_reads (no_messages e.counts.first whole))
  where
    no_messages : (xs : List (Request Octets)) → length xs ≡ 0 → xs ≡ []
    no_messages [] h = refl
    no_messages (x ∷ xs) h = absurd (omega (arith, h))

doing : (table : Table) (s : StreamState) (t : Tale) (act : StreamAct Octets) → Told table s act → Track s t → Emits s t → Doing t → Doing (tale_after t act)
doing table s t (Work (seen.Done kind)) rule track e k = record {
  answered = subst (λ z. responses_done (ready_of t.story) (count_done (t.finished ++ z ∷ [])) ≤ t.story.answered) (sym rule.2) (done_next s t rule.0 rule.1 track.begins.start e k);
  among = omega (arith, count_done-append t.finished (kind ∷ []), count_done-append t.handed (kind ∷ []), k.among);
}
doing table s t (Work (seen.Flushed kind)) rule track e k = record {
  answered = subst (λ (z : List Kind). responses_done (ready_of t.story) (count_done z) ≤ t.story.answered) (sym (append-nil t.finished)) k.answered;
  among = omega (arith, ap count_done (append-nil t.finished), count_done-append t.handed (kind ∷ []), k.among);
}
doing table s t (Emit shown) rule track e k = quiet_doing t (Emit shown) refl refl (inl (ap ready_in (shown_stays t.story shown).start)) (omega (arith, (shown_stays t.story shown).answered)) k
doing table s t (Recv len None) rule track e k = quiet_doing t (Recv len None) refl refl (inl refl) (omega arith) k
doing table s t (Recv len (Some refusal)) rule track e k = quiet_doing t (Recv len (Some refusal)) refl refl (inl refl) (omega arith) k
doing table s t (Post m None) rule track e k = quiet_doing t (Post m None) refl refl (inl refl) (omega arith) k
doing table s t (Post m (Some refusal)) rule track e k = quiet_doing t (Post m (Some refusal)) refl refl (inl refl) (omega arith) k
doing table s t (Deliver from number octets Kept) rule track e k = quiet_doing t (Deliver from number octets Kept) refl refl (inl refl) (omega arith) k
doing table s t (Deliver from number octets Dropped) rule track e k = quiet_doing t (Deliver from number octets Dropped) refl refl (inl refl) (omega arith) k
doing table s t (Raw number octets Kept) rule track e k = quiet_doing t (Raw number octets Kept) refl refl (inl refl) (omega arith) k
doing table s t (Raw number octets Dropped) rule track e k = quiet_doing t (Raw number octets Dropped) refl refl (inl refl) (omega arith) k
doing table s t (First number None) rule track e k = quiet_doing t (First number None) refl refl (inl refl) (omega arith) k
doing table s t (Mulpdu size None) rule track e k = quiet_doing t (Mulpdu size None) refl refl (inl refl) (omega arith) k
doing table s t (First number (Some refusal)) rule track e k = quiet_doing t (First number (Some refusal)) refl refl (inl refl) (omega arith) k
doing table s t (Mulpdu size (Some refusal)) rule track e k = quiet_doing t (Mulpdu size (Some refusal)) refl refl (inl refl) (omega arith) k
doing table s t (Accept private (Ok agreed)) rule track e k = quiet_doing t (Accept private (Ok agreed)) refl refl (inr (unfinished s t (unanswered_shut s (may s (accepting s (private_data private).items agreed rule))) e k)) (omega arith) k
doing table s t (Accept private (Err refusal)) rule track e k = quiet_doing t (Accept private (Err refusal)) refl refl (inl refl) (omega arith) k
doing table s t (Reject private None) rule track e k = quiet_doing t (Reject private None) refl refl (inr (unfinished s t (unanswered_shut s (may s (refusing s (private_data private).items rule))) e k)) (omega arith) k
doing table s t (Reject private (Some refusal)) rule track e k = quiet_doing t (Reject private (Some refusal)) refl refl (inl refl) (omega arith) k
doing table s t Break rule track e k = quiet_doing t Break refl refl (inl refl) (omega arith) k
doing table s t (Work (seen.FlushedRecv octets)) rule track e k = quiet_doing t (Work (seen.FlushedRecv octets)) refl refl (inl refl) (omega arith) k
doing table s t (Work (seen.Asked word private)) rule track e k = quiet_doing t (Work (seen.Asked word private)) refl refl (inr (unfinished s t (ap is_open rule.0.is) e k)) (omega arith) k
doing table s t (Work (seen.Opened agreed word private)) rule track e k = quiet_doing t (Work (seen.Opened agreed word private)) refl refl (inr (unfinished s t (ap is_open rule.0.hears_it.is) e k)) (omega arith) k
doing table s t (Work (seen.Closed fault)) rule track e k = quiet_doing t (Work (seen.Closed fault)) refl refl (inr (unfinished s t (ap is_open rule.is) e k)) (omega arith) k
doing table s t (Work (seen.Placed right stag to octets)) rule track e k = quiet_doing t (Work (seen.Placed right stag to octets)) refl refl (inl refl) (omega arith) k
doing table s t (Work (seen.Tried place)) rule track e k = quiet_doing t (Work (seen.Tried place)) refl refl (inl refl) (omega arith) k
doing table s t (Work (seen.Buffered msn mo len)) rule track e k = quiet_doing t (Work (seen.Buffered msn mo len)) refl refl (inl refl) (omega arith) k
doing table s t (Work (seen.Requested size stag to)) rule track e k = quiet_doing t (Work (seen.Requested size stag to)) refl refl (inl refl) (omega arith) k
doing table s t (Work seen.Passed) rule track e k = quiet_doing t (Work seen.Passed) refl refl (inl refl) (omega arith) k
doing table s t (Work (seen.Received octets solicited invalidate)) rule track e k = quiet_doing t (Work (seen.Received octets solicited invalidate)) refl refl (inl refl) (omega arith) k
doing table s t (Work (seen.Terminated fault)) rule track e k = quiet_doing t (Work (seen.Terminated fault)) refl refl (inl refl) (omega arith) k
doing table s t (Work (seen.Fault fault)) (inl m) track e k = quiet_doing t (Work (seen.Fault fault)) refl refl (inr (unfinished s t (ap is_open m.hears_it.is) e k)) (omega arith) k
doing table s t (Work (seen.Fault fault)) (inr rule) track e k = quiet_doing t (Work (seen.Fault fault)) refl refl (inl (ap ready_in (heard_open t.story.start (in_order t.story.came) (ap is_open track.begins.start ∙ (fault_runs table s fault rule).started)))) (omega arith) k
doing table s t (Work seen.Idle) rule track e k = quiet_doing t (Work seen.Idle) refl refl (inl refl) (omega arith) k

pub owning : (o : Opening) (table : Table) (c : Connected) (t : Tale) (act : StreamAct Octets) → StreamRule table c.stream act → Own o c t → Own o (record { stream = after_act c.stream act; wire = c.wire ++ sent_by act }) (tale_after t act)
owning o table c t act given own =
    let k = sound c.stream t own.track in
    let rule = told table c.stream act k given in
    record {
      wire = ap (λ z. z ++ sent_by act) own.wire;
      sent = sent_is table c.stream act t.sent rule own.sent;
      due = due_is c.stream act t.received own.due;
      numbered = knows_numbers c.stream t act own.numbered;
      starts = starting o table c.stream act rule own.starts;
      emits = emitting table c.stream t act rule own.sent own.track own.emits;
      doing = doing table c.stream t act rule own.track own.emits own.doing;
      track = tracking table c.stream t act rule own.emits.asks.reads (on_any (deed act).coming own.numbered.first) own.track;
      ended = ended_is table c.stream act rule ∙ ap (λ b. ended_after b act) own.ended;
      paid = paying table c.stream t act rule own.track t.acts (ended_is table c.stream act rule) own.paid;
      once = once_after table c.stream t act t.spans rule own.track own.once;
      fills = fill_after table c.stream t act rule own.due (ended_is table c.stream act rule) own.track own.fills;
    }

-- what an act changes lay where it may
abbrev pub WithinTale : Table → Peer → Tale → StreamAct Octets → Type 0
WithinTale table peer t act =
    OnSome (λ p. AllowsFor table peer p.stag p.to (length p.octets) p.right) (deed act).placing
    × OnSome (InBuffer t.story.receiving) (deed act).buffering

-- octets that pass the checks lie in the buffer that their number names
in_buffer : (opening : Opening) (c : Connected) (t : Tale) (head : UntaggedHead) (payload : Octets) (msn mo len : ℕ) → buffer_fault c.stream.receiving head.msn head.mo (length payload) ≡ None → msn ≡ head.msn → mo ≡ head.mo → len ≡ length payload
    → Own opening c t → Unit {0} × InBuffer t.story.receiving (record { msn = msn; mo = mo; len = len })
in_buffer opening c t head payload msn mo len checked msn_is mo_is len_is o =
    let b = checked_buffer c.stream.receiving head (length payload) checked in (
      tt,
      record {
        buffer = b.buffer;
        is = (λ k. buffer_for (o.track.receiving k).source (ahead_of (o.track.receiving k).due (msn_is k))) ∙ b.is;
        lie = omega (arith, b.room, mo_is, len_is);
      },
    )

pub within : (opening : Opening) (table : Table) (c : Connected) (t : Tale) (act : StreamAct Octets) → Told table c.stream act → Own opening c t → WithinTale table (peer_of c.stream) t act
within opening table c t (Work (seen.Placed right stag to octets)) (inl rule) o = (allows table (peer_of c.stream) stag to (length octets) right rule.1.admitted, tt)
within opening table c t (Work (seen.Placed right stag to octets)) (inr rule) o = (allows table (peer_of c.stream) stag to (length octets) right rule.1.admitted, tt)
within opening table c t (Work (seen.Tried place)) rule o = (tt, tt)
within opening table c t (Work (seen.Buffered msn mo len)) (inl (j, w)) o = in_buffer opening c t w.head w.payload msn mo len w.checked w.msn_is w.mo_is w.len_is o
within opening table c t (Work (seen.Buffered msn mo len)) (inr (j, w)) o = in_buffer opening c t w.head w.payload msn mo len w.checked w.msn_is w.mo_is w.len_is o
within opening table c t (Work (seen.Done kind)) rule o = (tt, tt)
within opening table c t (Work (seen.Requested size stag to)) rule o = (tt, tt)
within opening table c t (Work seen.Passed) rule o = (tt, tt)
within opening table c t (Work (seen.Received octets solicited invalidate)) rule o = (tt, tt)
within opening table c t (Work (seen.Flushed kind)) rule o = (tt, tt)
within opening table c t (Work (seen.FlushedRecv octets)) rule o = (tt, tt)
within opening table c t (Work (seen.Terminated fault)) rule o = (tt, tt)
within opening table c t (Work (seen.Fault fault)) rule o = (tt, tt)
within opening table c t Break rule o = (tt, tt)
within opening table c t (Work seen.Idle) rule o = (tt, tt)
within opening table c t (Post m refused) rule o = (tt, tt)
within opening table c t (Recv len refused) rule o = (tt, tt)
within opening table c t (Emit shown) rule o = (tt, tt)
within opening table c t (Deliver from number octets delivery) rule o = (tt, tt)
within opening table c t (Raw number octets delivery) rule o = (tt, tt)
within opening table c t (First number refused) rule o = (tt, tt)
within opening table c t (Mulpdu size refused) rule o = (tt, tt)
within opening table c t (Accept private answer) rule o = (tt, tt)
within opening table c t (Reject private refused) rule o = (tt, tt)
within opening table c t (Work (seen.Asked word private)) rule o = (tt, tt)
within opening table c t (Work (seen.Opened agreed word private)) rule o = (tt, tt)
within opening table c t (Work (seen.Closed fault)) rule o = (tt, tt)
