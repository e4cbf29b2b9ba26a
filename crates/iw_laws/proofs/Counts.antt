-- How many messages segments carry to their ends.
use Rattle.std.proofs.Common.{◌≡◌, ℕ, zero, suc, ◌+◌, ◌/◌, ◌%◌, ◌^◌, ◌<◌, ◌≤◌, List, [], ◌∷◌, ◌++◌, length, take, drop, map, Option, Some, None, Bool, true, false, cond, refl, sym, ap, ◌∙◌, subst, arith, append_assoc, get_or, ◌==◌, ◌-◌, ◌⊎◌, inl, inr, add-one}
use Rattle.std.specs.Prelude.{slice_get, slice_set, is_some, nat_eq, nat_le, ◌&&◌, not}
use Rattle.std.proofs.lemmas.Bool.{false≢true, true≢false}
use Rattle.std.specs.Option.{option_map_or}
use Rattle.std.proofs.lemmas.List.{append-nil, map-append, length-map, length_push, length-drop, length-set, drop-drop, take-append-le}
use Rattle.std.proofs.lemmas.Option.{none-some, same_Some, some_pair_parts}
use Rattle.std.proofs.lemmas.Bool.Decides.{nat_tests}
use Rattle.iw_octets.specs.declared.message.Message.TheVariants.{Write, Send}
use Rattle.iw_octets.specs.declared.segment.Segment.{Segment}
use Rattle.iw_octets.specs.declared.segment.Segment.TheVariants.{Tagged, Untagged}
use Rattle.iw_octets.specs.Stag.{number_of}
use Rattle.iw_octets.specs.Head.{first_octet, is_tagged, tagged_octets, untagged_octets}
use Rattle.iw_octets.specs.Segment.{segment_octets}
use Rattle.iw_octets.proofs.Segments.{length-segment_octets_tagged, length-segment_octets_untagged}
use Rattle.iw_octets.proofs.Spelled.{length-request_octets}
use Rattle.iw_octets.specs.declared.payload.ReadRequest.{ReadRequest}
use Rattle.iw_octets.specs.Payload.{request_octets}
use Rattle.iw_fpdu.specs.declared.layout.Layout.{Layout}
use Rattle.iw_fpdu.specs.Frame.{frame_octets, frame_end, max_sent}
use Rattle.iw_fpdu.specs.Sequence.{Carried, intact, sequence, first_frame}
use Rattle.iw_fpdu.specs.Laws.{IsBetween}
use Rattle.iw_fpdu.proofs.Sequences.{written_is_first, next_between}
use Rattle.iw_queues.specs.declared.request.Kind.{Kind}
use Rattle.iw_queues.specs.declared.request.Kind.TheVariants as kinds
use Rattle.iw_octets.specs.declared.message.Message.{Message as PostedMessage}
use Rattle.iw_queues.specs.Completions as completions
use Rattle.iw_queues.specs.declared.request.Request.{Request}
use Rattle.iw_queues.specs.declared.request.Request.TheVariants.{Message as Posted, Read}
use Rattle.iw_queues.specs.declared.completions.Done.{Done}
use Rattle.iw_queues.specs.declared.completions.Sent.{Sent as WasSent}
use Rattle.iw_queues.specs.declared.send_queue.Part.{Part}
use Rattle.iw_queues.specs.Request.{kind_of, payload, header_len}
use Rattle.iw_queues.specs.Completions.{place_of, added, done_from, is_finished_when_sent}
use Rattle.iw_queues.specs.Queue.{Queue, next_part, part_sent, posted, sent_with, done_in, handed_from, past_oldest}
use Rattle.iw_queues.specs.Segments.{Numbers, IsCut, AreSegments, write_segment, send_segment, request_segment, segment_with, segment_of, numbers_after}
use Rattle.iw_octets.specs.declared.operation.TaggedOperation.TheVariants as tagged
use Rattle.iw_octets.specs.declared.operation.UntaggedOperation.TheVariants as untagged
use Rattle.iw_octets.specs.Operation.{control_of, opcode_of, tagged_opcode, untagged_opcode}
use Rattle.iw_queues.specs.Laws.{kinds_in, IsHandedOut}
use Rattle.iw_queues.proofs.Order.{keeps_order}
use Rattle.iw_laws.specs.Words.{Octets}
use Rattle.iw_laws.specs.Turns.{is_last, carries_response}
use Rattle.iw_laws.specs.Sends.{count_reads, farewells}
use Rattle.iw_laws.specs.Faithful.{count_done}
use Rattle.iw_laws.specs.Merged.{Item, Post, Response, posts_in, response_segment, ItemSegments, numbers_past, AreMerged}
use Rattle.iw_reads.specs.declared.reads.Outstanding.{Outstanding}
use Rattle.iw_reads.specs.Response.{response_head}
use Rattle.iw_startup.specs.declared.enhanced.Rtr.{Rtr}
use Rattle.iw_startup.specs.declared.enhanced.Rtr.TheVariants as rtrs
use Rattle.iw_stream.specs.Rtr.{rtr_segment}
use Rattle.iw_stream.specs.Stream.{reads_with}
use Rattle.iw_octets.proofs.Spelled.{is_tagged-first_octet}
use Rattle.iw_laws.proofs.Lists.{Each}
use Rattle.iw_laws.proofs.Sending.{IsSendable, shows, version_of}
use Rattle.iw_laws.proofs.Located.{none_first}

abbrev pub one_for : Bool → ℕ
one_for true = 1
one_for false = 0

-- a segment of no message that was posted: of the response to a Read of the peer, or a Terminate
abbrev pub is_extra : Segment Octets → Bool
is_extra (Tagged head payload) = nat_eq (opcode_of head.control) 2
is_extra (Untagged head payload) = nat_eq (opcode_of head.control) 7

-- the last segment of a message that was posted
abbrev pub is_whole : Segment Octets → Bool
is_whole s = is_last s && not (is_extra s)

-- how many of the segments are the last of a message that was posted
abbrev pub count_last : List (Segment Octets) → ℕ
count_last [] = 0
count_last (s ∷ ss) = one_for (is_whole s) + count_last ss

pub count_last-append : (xs ys : List (Segment Octets)) → count_last (xs ++ ys) ≡ count_last xs + count_last ys
count_last-append [] ys = omega arith
count_last-append (x ∷ xs) ys = omega (arith, count_last-append xs ys)

-- ---- Reads among messages

pub count_reads-append : (xs ys : List (Request Octets)) → count_reads (xs ++ ys) ≡ count_reads xs + count_reads ys
count_reads-append [] ys = omega arith
count_reads-append (Posted m ∷ xs) ys = count_reads-append xs ys
count_reads-append (Read r ∷ xs) ys = omega (arith, count_reads-append xs ys)

-- messages as they are kept once they were sent, where so many Reads were answered
abbrev pub marks : ℕ → List (Request Octets) → List WasSent
marks a [] = []
marks a (Posted m ∷ ms) = record { kind = kind_of (Posted m); finished = true } ∷ marks a ms
marks zero (Read r ∷ ms) = record { kind = kinds.Read; finished = false } ∷ marks zero ms
marks (suc a) (Read r ∷ ms) = record { kind = kinds.Read; finished = true } ∷ marks a ms

abbrev mark_of : Request Octets → WasSent
mark_of m = record { kind = kind_of m; finished = is_finished_when_sent (kind_of m) }

told_sent : (m : PostedMessage Octets) → is_finished_when_sent (kind_of (Posted m)) ≡ true
told_sent (Write stag to octets) = refl
told_sent (Send octets solicited invalidate) = refl

pub marks-push : (a : ℕ) (xs : List (Request Octets)) (m : Request Octets) → a ≤ count_reads xs → marks a (xs ++ m ∷ []) ≡ marks a xs ++ mark_of m ∷ []
marks-push a [] (Posted m) h = ap (λ b. record { kind = kind_of (Posted m); finished = b } ∷ []) (sym (told_sent m))
marks-push zero [] (Read r) h = refl
marks-push (suc a) [] (Read r) h = absurd (omega (arith, h))
marks-push a (Posted x ∷ xs) m h = ap (λ z. record { kind = kind_of (Posted x); finished = true } ∷ z) (marks-push a xs m h)
marks-push zero (Read x ∷ xs) m h = ap (λ z. record { kind = kinds.Read; finished = false } ∷ z) (marks-push zero xs m (omega arith))
marks-push (suc a) (Read x ∷ xs) m h = ap (λ z. record { kind = kinds.Read; finished = true } ∷ z) (marks-push a xs m (omega (arith, h)))

pub length-marks : (a : ℕ) (xs : List (Request Octets)) → length (marks a xs) ≡ length xs
length-marks a [] = refl
length-marks a (Posted m ∷ xs) = omega (arith, length-marks a xs)
length-marks zero (Read r ∷ xs) = omega (arith, length-marks zero xs)
length-marks (suc a) (Read r ∷ xs) = omega (arith, length-marks a xs)

-- whether the message with f before it is finished
pub finished_mark : (a f : ℕ) (xs : List (Request Octets)) (w : WasSent) (rest : List WasSent) → drop f (marks a xs) ≡ w ∷ rest → w.finished ≡ true → count_reads (take f xs) ≤ a → count_reads (take (f + 1) xs) ≤ a
finished_mark a f xs w rest e done few = rw (add-one f) (go a f xs e few)
  where
    go : (a f : ℕ) (xs : List (Request Octets)) → drop f (marks a xs) ≡ w ∷ rest → count_reads (take f xs) ≤ a → count_reads (take (suc f) xs) ≤ a
    go a f [] e few = omega arith
    go a zero (Posted m ∷ xs) e few = omega arith
    go zero zero (Read r ∷ xs) e few = absurd (false≢true (ap (λ (ws : List WasSent). first_finished ws) e ∙ done))
      where
        first_finished : List WasSent → Bool
        first_finished [] = true
        first_finished (x ∷ xs) = x.finished
    go (suc a) zero (Read r ∷ xs) e few = omega arith
    go a (suc f) (Posted m ∷ xs) e few = go a f xs e few
    go zero (suc f) (Read r ∷ xs) e few = absurd (omega (arith, few))
    go (suc a) (suc f) (Read r ∷ xs) e few = omega (arith, go a f xs e (omega (arith, few)))

pub awaited_mark : (a f : ℕ) (xs : List (Request Octets)) (w : WasSent) (rest : List WasSent) → drop f (marks a xs) ≡ w ∷ rest → w.finished ≡ false → a < count_reads (take (f + 1) xs)
awaited_mark a f xs w rest e done = rw (add-one f) (go a f xs e)
  where
    first_finished : List WasSent → Bool
    first_finished [] = true
    first_finished (x ∷ xs) = x.finished

    go : (a f : ℕ) (xs : List (Request Octets)) → drop f (marks a xs) ≡ w ∷ rest → a < count_reads (take (suc f) xs)
    go a zero [] e = absurd (omega (arith, ap length e))
    go a (suc f) [] e = absurd (omega (arith, ap length e))
    go a zero (Posted m ∷ xs) e = absurd (true≢false (ap first_finished e ∙ done))
    go zero zero (Read r ∷ xs) e = omega arith
    go (suc a) zero (Read r ∷ xs) e = absurd (true≢false (ap first_finished e ∙ done))
    go a (suc f) (Posted m ∷ xs) e = go a f xs e
    go zero (suc f) (Read r ∷ xs) e = omega arith
    go (suc a) (suc f) (Read r ∷ xs) e = omega (arith, go a f xs e)

-- which is a Read
pub awaited_read : (a f : ℕ) (xs : List (Request Octets)) (w : WasSent) (rest : List WasSent) → drop f (marks a xs) ≡ w ∷ rest → w.finished ≡ false → (r : ReadRequest) × (slice_get xs f ≡ Some (Read r))
awaited_read a f xs w rest e done = go a f xs e
  where
    first_finished : List WasSent → Bool
    first_finished [] = true
    first_finished (x ∷ xs) = x.finished

    go : (a f : ℕ) (xs : List (Request Octets)) → drop f (marks a xs) ≡ w ∷ rest → (r : ReadRequest) × (slice_get xs f ≡ Some (Read r))
    go a zero [] e = absurd (omega (arith, ap length e))
    go a (suc f) [] e = absurd (omega (arith, ap length e))
    go a zero (Posted m ∷ xs) e = absurd (true≢false (ap first_finished e ∙ done))
    go zero zero (Read r ∷ xs) e = (r, refl)
    go (suc a) zero (Read r ∷ xs) e = absurd (true≢false (ap first_finished e ∙ done))
    go a (suc f) (Posted m ∷ xs) e = go a f xs e
    go zero (suc f) (Read r ∷ xs) e = go zero f xs e
    go (suc a) (suc f) (Read r ∷ xs) e = go a f xs e

-- a Read that is finished was answered
pub read_mark : (a f : ℕ) (xs : List (Request Octets)) (w : WasSent) (rest : List WasSent) (r : ReadRequest) → drop f (marks a xs) ≡ w ∷ rest → w.finished ≡ true → slice_get xs f ≡ Some (Read r) → count_reads (take (f + 1) xs) ≤ a
read_mark a f xs w rest r e done is = rw (add-one f) (go a f xs e is)
  where
    first_finished : List WasSent → Bool
    first_finished [] = true
    first_finished (x ∷ xs) = x.finished

    never : (f : ℕ) (xs : List (Request Octets)) → drop f (marks 0 xs) ≡ w ∷ rest → slice_get xs f ≡ Some (Read r) → ⊥
    never f [] e is = none-some _ is
    never zero (Posted m ∷ xs) e is = let no : Posted m ≡ Read r = same_Some _ _ is in cc
    never zero (Read x ∷ xs) e is = false≢true (ap first_finished e ∙ done)
    never (suc f) (Posted m ∷ xs) e is = never f xs e is
    never (suc f) (Read x ∷ xs) e is = never f xs e is

    go : (a f : ℕ) (xs : List (Request Octets)) → drop f (marks a xs) ≡ w ∷ rest → slice_get xs f ≡ Some (Read r) → count_reads (take (suc f) xs) ≤ a
    go a f [] e is = absurd (none-some _ is)
    go a zero (Posted m ∷ xs) e is = omega arith
    go zero zero (Read x ∷ xs) e is = absurd (false≢true (ap first_finished e ∙ done))
    go (suc a) zero (Read x ∷ xs) e is = omega arith
    go a (suc f) (Posted m ∷ xs) e is = go a f xs e is
    go zero (suc f) (Read x ∷ xs) e is = absurd (never f xs e is)
    go (suc a) (suc f) (Read x ∷ xs) e is = omega (arith, go a f xs e is)

-- the places of the Reads, where the first message has this one
abbrev pub places : ℕ → List (Request Octets) → List ℕ
places n [] = []
places n (Posted m ∷ ms) = places (n + 1) ms
places n (Read r ∷ ms) = n ∷ places (n + 1) ms

pub length-places : (n : ℕ) (xs : List (Request Octets)) → length (places n xs) ≡ count_reads xs
length-places n [] = refl
length-places n (Posted m ∷ xs) = length-places (n + 1) xs
length-places n (Read r ∷ xs) = omega (arith, length-places (n + 1) xs)

pub places-posted : (n : ℕ) (xs : List (Request Octets)) (m : PostedMessage Octets) → places n (xs ++ Posted m ∷ []) ≡ places n xs
places-posted n [] m = refl
places-posted n (Posted x ∷ xs) m = places-posted (n + 1) xs m
places-posted n (Read x ∷ xs) m = ap (λ z. n ∷ z) (places-posted (n + 1) xs m)

pub places-read : (n : ℕ) (xs : List (Request Octets)) (r : ReadRequest) → places n (xs ++ Read r ∷ []) ≡ places n xs ++ (n + length xs) ∷ []
places-read n [] r = ap (λ z. z ∷ []) (omega arith)
places-read n (Posted x ∷ xs) r = places-read (n + 1) xs r ∙ ap (λ z. places (n + 1) xs ++ z ∷ []) (omega arith)
places-read n (Read x ∷ xs) r = ap (λ z. n ∷ z) (places-read (n + 1) xs r ∙ ap (λ z. places (n + 1) xs ++ z ∷ []) (omega arith))

-- the Read that is the next to be answered
pub record IsNextRead (a n : ℕ) (xs : List (Request Octets)) (p : ℕ) : Type 0 where
  pub low : n ≤ p
  pub high : p < n + length xs
  pub some : a < count_reads xs
  pub marked : marks (suc a) xs ≡ slice_set (marks a xs) (p - n) (record { kind = kinds.Read; finished = true })
  pub beyond : (f : ℕ) → count_reads (take f xs) ≤ a → n + f ≤ p

pub next_read : (a n : ℕ) (xs : List (Request Octets)) (p : ℕ) (rest : List ℕ) → drop a (places n xs) ≡ p ∷ rest → IsNextRead a n xs p
next_read a n [] p rest e = absurd (omega (arith, ap length e, length-drop a (places n [])))
next_read a n (Posted m ∷ xs) p rest e =
    let r = next_read a (n + 1) xs p rest e in
    let one : p - n ≡ suc (p - (n + 1)) = omega (arith, r.low) in
    record {
      low = omega (arith, r.low);
      high = omega (arith, r.high);
      some = r.some;
      marked = ap (λ z. record { kind = kind_of (Posted m); finished = true } ∷ z) r.marked ∙ ap (λ i. slice_set (marks a (Posted m ∷ xs)) i (record { kind = kinds.Read; finished = true })) (sym one);
      beyond = posted_past r.beyond r.low;
    }
  where
    posted_past : ((f : ℕ) → count_reads (take f xs) ≤ a → n + 1 + f ≤ p) → n + 1 ≤ p → (f : ℕ) → count_reads (take f (Posted m ∷ xs)) ≤ a → n + f ≤ p
    posted_past h low zero few = omega (arith, low)
    posted_past h low (suc f) few = let more = h f few in omega (arith, more)
next_read zero n (Read r ∷ xs) p rest e =
    let same : n ≡ p = ap (λ (z : List ℕ). get_or z 0 n) e in
    let none : p - n ≡ 0 = omega (arith, same) in
    record {
      low = omega (arith, same);
      high = omega (arith, same);
      some = omega arith;
      marked = ap (λ i. slice_set (marks zero (Read r ∷ xs)) i (record { kind = kinds.Read; finished = true })) (sym none);
      beyond = read_past same;
    }
  where
    read_past : n ≡ p → (f : ℕ) → count_reads (take f (Read r ∷ xs)) ≤ 0 → n + f ≤ p
    read_past same zero few = omega (arith, same)
    read_past same (suc f) few = absurd (omega (arith, few))
next_read (suc a) n (Read r ∷ xs) p rest e =
    let i = next_read a (n + 1) xs p rest e in
    let one : p - n ≡ suc (p - (n + 1)) = omega (arith, i.low) in
    record {
      low = omega (arith, i.low);
      high = omega (arith, i.high);
      some = omega (arith, i.some);
      marked = ap (λ z. record { kind = kinds.Read; finished = true } ∷ z) i.marked ∙ ap (λ j. slice_set (marks (suc a) (Read r ∷ xs)) j (record { kind = kinds.Read; finished = true })) (sym one);
      beyond = more_past i.beyond i.low;
    }
  where
    more_past : ((f : ℕ) → count_reads (take f xs) ≤ a → n + 1 + f ≤ p) → n + 1 ≤ p → (f : ℕ) → count_reads (take f (Read r ∷ xs)) ≤ suc a → n + f ≤ p
    more_past h low zero few = omega (arith, low)
    more_past h low (suc f) few = let more = h f (omega (arith, few)) in omega (arith, more)

pub drop-set : (f p : ℕ) (xs : List WasSent) (v : WasSent) → f ≤ p → drop f (slice_set xs p v) ≡ slice_set (drop f xs) (p - f) v
drop-set zero p xs v h = ap (λ i. slice_set xs i v) (omega arith)
drop-set (suc f) zero xs v h = absurd (omega (arith, h))
drop-set (suc f) (suc p) [] v h = refl
drop-set (suc f) (suc p) (x ∷ xs) v h = drop-set f p xs v (omega (arith, h)) ∙ ap (λ i. slice_set (drop f xs) i v) (omega arith)

drop-push : {A : Type 0} (n : ℕ) (xs : List A) (x : A) → n ≤ length xs → drop n (xs ++ x ∷ []) ≡ drop n xs ++ x ∷ []
drop-push zero xs x h = refl
drop-push (suc n) [] x h = absurd (omega (arith, h))
drop-push (suc n) (y ∷ ys) x h = drop-push n ys x (omega (arith, h))

-- ---- what a queue and its segments have in common with what was posted and handed back, where nothing was given up

abbrev pub ticket_for : ℕ → ℕ
ticket_for n = n % 2 ^ 64

-- of a Read that was posted
abbrev pub posted_ticket : ℕ → Option ℕ
posted_ticket n = Some (ticket_for n)

pub record Counts (q : Queue) (whole : ℕ) (posted : List (Request Octets)) (handed : List Kind) (answered : ℕ) (reads : List Outstanding) : Type 0 where
  pub order : map kind_of posted ≡ handed ++ kinds_in q
  pub first : List (Request Octets)  -- those that were sent to their end
  pub split : posted ≡ first ++ q.unsent
  pub lasts : whole ≡ length first
  pub counted : length first ≡ length handed + length q.sent.messages
  pub oldest : q.sent.first ≡ ticket_for (length handed)
  pub marked : q.sent.messages ≡ drop (length handed) (marks answered first)
  pub some : answered ≤ count_reads first
  pub done : count_reads (take (length handed) first) ≤ answered
  pub tickets : map (λ (r : Outstanding). r.ticket) reads ≡ map posted_ticket (drop answered (places 0 first))

-- where no message was sent to its end, no Read is outstanding
pub none_outstanding : {q : Queue} {us : ℕ} {ms : List (Request Octets)} {ks : List Kind} {a : ℕ} {rs : List Outstanding} → us ≡ 0 → Counts q us ms ks a rs → length rs ≡ 0
none_outstanding {us} {a} {rs} none n =
    let empty : length n.first ≡ 0 = sym n.lasts ∙ none in
    sym (length-map rs (λ (r : Outstanding). r.ticket)) ∙ ap length n.tickets ∙ length-map (drop a (places 0 n.first)) posted_ticket ∙ ap (λ (z : List (Request Octets)). length (drop a (places 0 z))) (no_messages n.first empty) ∙ omega (arith, length-drop a (places 0 []))
  where
    no_messages : (xs : List (Request Octets)) → length xs ≡ 0 → xs ≡ []
    no_messages [] h = refl
    no_messages (x ∷ xs) h = absurd (omega (arith, h))

abbrev pub same_counts : {q q' : Queue} {us : ℕ} {ms ms' : List (Request Octets)} {ks ks' : List Kind} {a a' : ℕ} {rs rs' : List Outstanding} → q' ≡ q → ms' ≡ ms → ks' ≡ ks → a' ≡ a → rs' ≡ rs → Counts q us ms ks a rs → Counts q' us ms' ks' a' rs'
same_counts {q} {q'} {us} {ms} {ms'} {ks} {ks'} {a} {a'} {rs} {rs'} e f g h i n = record {
  order = ap (map kind_of) f ∙ n.order ∙ (λ j. sym g j ++ kinds_in (sym e j));
  first = n.first;
  split = f ∙ n.split ∙ ap (λ (z : Queue). n.first ++ z.unsent) (sym e);
  lasts = n.lasts;
  counted = n.counted ∙ (λ j. length (sym g j) + length (sym e j).sent.messages);
  oldest = ap (λ (z : Queue). z.sent.first) e ∙ n.oldest ∙ ap (λ (z : List Kind). ticket_for (length z)) (sym g);
  marked = ap (λ (z : Queue). z.sent.messages) e ∙ n.marked ∙ (λ j. drop (length (sym g j)) (marks (sym h j) n.first));
  some = subst (λ z. z ≤ count_reads n.first) (sym h) n.some;
  done = subst (λ z. count_reads (take (length ks') n.first) ≤ z) (sym h) (subst (λ (z : List Kind). count_reads (take (length z) n.first) ≤ a) (sym g) n.done);
  tickets = ap (map (λ (r : Outstanding). r.ticket)) i ∙ n.tickets ∙ (λ j. map posted_ticket (drop (sym h j) (places 0 n.first)));
}

pub posted_counts : (q : Queue) (us : ℕ) (ms : List (Request Octets)) (ks : List Kind) (a : ℕ) (rs : List Outstanding) (m : Request Octets) → Counts q us ms ks a rs → Counts (posted q m) us (ms ++ m ∷ []) (ks ++ []) a rs
posted_counts q us ms ks a rs m n = same_counts refl refl (append-nil ks) refl refl (record {
  order = map-append kind_of ms (m ∷ []) ∙ ap (λ z. z ++ kind_of m ∷ []) n.order ∙ append_assoc ks (kinds_in q) (kind_of m ∷ []) ∙ ap (λ z. ks ++ z) (sym (keeps_order.posted q m));
  first = n.first;
  split = ap (λ z. z ++ m ∷ []) n.split ∙ append_assoc n.first q.unsent (m ∷ []);
  lasts = n.lasts;
  counted = n.counted;
  oldest = n.oldest;
  marked = n.marked;
  some = n.some;
  done = n.done;
  tickets = n.tickets;
})

last_with : (numbers : Numbers) (m : Request Octets) (offset : ℕ) (last : Bool) (octets : Octets) → (kind_of m ≡ kinds.Read → last ≡ true) → is_last (segment_with numbers m offset last octets) ≡ last
last_with numbers (Posted (Write stag to payload)) offset last octets one = refl
last_with numbers (Posted (Send payload solicited invalidate)) offset last octets one = refl
last_with numbers (Read request) offset last octets one = sym (one refl)

send_extra : (solicited invalidates : Bool) → nat_eq (opcode_of (control_of (untagged_opcode (untagged.Send solicited invalidates)))) 7 ≡ false
send_extra false false = refl
send_extra false true = refl
send_extra true false = refl
send_extra true true = refl

not_extra : (numbers : Numbers) (m : Request Octets) (offset : ℕ) (last : Bool) (octets : Octets) → is_extra (segment_with numbers m offset last octets) ≡ false
not_extra numbers (Posted (Write stag to payload)) offset last octets = refl
not_extra numbers (Posted (Send payload solicited invalidate)) offset last octets = send_extra solicited (is_some invalidate)
not_extra numbers (Read request) offset last octets = refl

not_answer : (numbers : Numbers) (m : Request Octets) (offset : ℕ) (last : Bool) (octets : Octets) → carries_response (segment_with numbers m offset last octets) ≡ false
not_answer numbers (Posted (Write stag to payload)) offset last octets = refl
not_answer numbers (Posted (Send payload solicited invalidate)) offset last octets = refl
not_answer numbers (Read request) offset last octets = refl

-- a Read has one segment
one_part : (q : Queue) (max : ℕ) (part : Part (Request Octets)) → next_part q max ≡ Some part → kind_of part.message ≡ kinds.Read → part.last ≡ true
one_part q max part e read =
    let w = shows q max part e in
    subst (λ (p : Part (Request Octets)). kind_of p.message ≡ kinds.Read → p.last ≡ true) (sym w.is) (by w.message) read
  where
    by : (m : Request Octets) → kind_of m ≡ kinds.Read → nat_le (length (payload m) - q.offset) (max - header_len m) ≡ true
    by (Posted (Write stag to octets)) h = cc
    by (Posted (Send octets solicited invalidate)) h = cc
    by (Read request) h = grind (arith, nat_tests)

pub last_of : (numbers : Numbers) (q : Queue) (max : ℕ) (part : Part (Request Octets)) → next_part q max ≡ Some part → is_last (segment_of numbers part) ≡ part.last
last_of numbers q max part e = last_with numbers part.message part.offset part.last (take part.n (drop part.offset (payload part.message))) (one_part q max part e)

pub plain_part : (numbers : Numbers) (part : Part (Request Octets)) → carries_response (segment_of numbers part) ≡ false
plain_part numbers part = not_answer numbers part.message part.offset part.last (take part.n (drop part.offset (payload part.message)))

pub whole_of : (numbers : Numbers) (q : Queue) (max : ℕ) (part : Part (Request Octets)) → next_part q max ≡ Some part → is_whole (segment_of numbers part) ≡ part.last
whole_of numbers q max part e =
    (λ i. last_of numbers q max part e i && not (not_extra numbers part.message part.offset part.last (take part.n (drop part.offset (payload part.message))) i)) ∙ and_true part.last
  where
    and_true : (b : Bool) → (b && true) ≡ b
    and_true true = refl
    and_true false = refl

pub rtr_whole : (numbers : Numbers) (rtr : Rtr) → is_whole (rtr_segment numbers rtr) ≡ true
rtr_whole numbers rtrs.Write = refl
rtr_whole numbers rtrs.Read = refl

-- a part of a message is sent
pub part_counts : (q : Queue) (us : ℕ) (ms : List (Request Octets)) (ks : List Kind) (a : ℕ) (rs : List Outstanding) (max : ℕ) (part : Part (Request Octets)) → next_part q max ≡ Some part → Counts q us ms ks a rs
    → Counts (part_sent q (Some part)) (us + one_for part.last) (ms ++ []) (ks ++ []) a (reads_with rs (Some part.ticket) part.message)
part_counts q us ms ks a rs max part e n =
    same_counts refl (append-nil ms) (append-nil ks) refl refl
    (by part.last refl)
  where
    same_message : part.message ≡ (shows q max part e).message
    same_message = ap (λ (p : Part (Request Octets)). p.message) (shows q max part e).is

    unsent_is : q.unsent ≡ part.message ∷ (shows q max part e).messages
    unsent_is = (shows q max part e).unsent ∙ ap (λ z. z ∷ (shows q max part e).messages) (sym same_message)

    ticket_is : part.ticket ≡ ticket_for (0 + length n.first)
    ticket_is = ap (λ (p : Part (Request Octets)). p.ticket) (shows q max part e).is ∙ omega (arith, n.oldest, n.counted)

    short : length ks ≤ length n.first
    short = omega (arith, n.counted)

    kinds_stay : (last : Bool) → part.last ≡ last → kinds_in (cond last (record { sent = added q.sent (kind_of part.message); unsent = drop 1 q.unsent; offset = 0 }) (record q { offset = q.offset + part.n })) ≡ kinds_in q
    kinds_stay last is =
        ap kinds_in (sym (ap (part_sent q) e ∙ ap (λ b. cond b (record { sent = added q.sent (kind_of part.message); unsent = drop 1 q.unsent; offset = 0 }) (record q { offset = q.offset + part.n })) is)) ∙ keeps_order.sent q max

    tickets_with : (m : Request Octets) → map (λ (r : Outstanding). r.ticket) (reads_with rs (Some part.ticket) m) ≡ map posted_ticket (drop a (places 0 (n.first ++ m ∷ [])))
    tickets_with (Posted m) = n.tickets ∙ ap (λ z. map posted_ticket (drop a z)) (sym (places-posted 0 n.first m))
    tickets_with (Read r) =
        map-append (λ (x : Outstanding). x.ticket) rs (record { ticket = Some part.ticket; request = r; turned = 0 } ∷ [])
        ∙ (λ i. n.tickets i ++ Some (ticket_is i) ∷ [])
        ∙ sym (map-append posted_ticket (drop a (places 0 n.first)) ((0 + length n.first) ∷ []))
        ∙ ap (map posted_ticket) (sym (ap (drop a) (places-read 0 n.first r) ∙ drop-push a (places 0 n.first) (0 + length n.first) (omega (arith, n.some, length-places 0 n.first))))

    same_reads : (m : Request Octets) → part.message ≡ m → part.last ≡ false → reads_with rs (Some part.ticket) m ≡ rs
    same_reads (Posted m) is last = refl
    same_reads (Read r) is last = absurd (true≢false (sym (one_part q max part e (ap kind_of is)) ∙ last))

    by : (last : Bool) → part.last ≡ last
        → Counts (cond last (record { sent = added q.sent (kind_of part.message); unsent = drop 1 q.unsent; offset = 0 }) (record q { offset = q.offset + part.n })) (us + one_for last) ms ks a (reads_with rs (Some part.ticket) part.message)
    by false is = record {
      order = n.order ∙ ap (λ z. ks ++ z) (sym (kinds_stay false is));
      first = n.first;
      split = n.split;
      lasts = omega (arith, n.lasts);
      counted = n.counted;
      oldest = n.oldest;
      marked = n.marked;
      some = n.some;
      done = n.done;
      tickets = ap (map (λ (r : Outstanding). r.ticket)) (same_reads part.message refl is) ∙ n.tickets;
    }
    by true is = record {
      order = n.order ∙ ap (λ z. ks ++ z) (sym (kinds_stay true is));
      first = n.first ++ part.message ∷ [];
      split = n.split ∙ ap (λ z. n.first ++ z) (unsent_is ∙ ap (λ z. part.message ∷ z) (sym (ap (drop 1) unsent_is))) ∙ sym (append_assoc n.first (part.message ∷ []) (drop 1 q.unsent));
      lasts = omega (arith, n.lasts, length_push n.first part.message);
      counted = omega (arith, n.counted, length_push n.first part.message, length_push q.sent.messages (mark_of part.message));
      oldest = n.oldest;
      marked = ap (λ z. z ++ mark_of part.message ∷ []) n.marked ∙ sym (drop-push (length ks) (marks a n.first) (mark_of part.message) (omega (arith, short, length-marks a n.first)))
          ∙ ap (drop (length ks)) (sym (marks-push a n.first part.message n.some));
      some = omega (arith, n.some, count_reads-append n.first (part.message ∷ []));
      done = subst (λ z. count_reads z ≤ a) (sym (take-append-le (length ks) n.first (part.message ∷ []) short)) n.done;
      tickets = tickets_with part.message;
    }

-- the ticket of the part that is due is the number of messages that were sent to their end
pub part_ticket : (q : Queue) (max : ℕ) (part : Part (Request Octets)) (us : ℕ) (ms : List (Request Octets)) (ks : List Kind) (a : ℕ) (rs : List Outstanding) → next_part q max ≡ Some part → (n : Counts q us ms ks a rs) → part.ticket ≡ ticket_for (length n.first)
part_ticket q max part us ms ks a rs e n = ap (λ (p : Part (Request Octets)). p.ticket) (shows q max part e).is ∙ omega (arith, n.oldest, n.counted)

-- the oldest message that was sent, which is handed out
pub record Hands (q : Queue) (d : Done) : Type 0 where
  pub message : WasSent
  pub messages : List WasSent
  pub is : q.sent.messages ≡ message ∷ messages
  pub finished : message.finished ≡ true
  pub left : handed_from q (Some d) ≡ record { sent = record { first = (q.sent.first + 1) % 2 ^ 64; messages = messages }; unsent = q.unsent; offset = q.offset }

pub hands : (q : Queue) (d : Done) → done_in q ≡ Some d → Hands q d
hands q d e = go q.sent.messages refl e
  where
    go : (ms : List WasSent) → q.sent.messages ≡ ms → done_from q.sent.first ms ≡ Some d → Hands q d
    go [] is h = absurd (none-some _ h)
    go (m ∷ ms) is h = by m.finished refl h
      where
        by : (b : Bool) → m.finished ≡ b → cond b (Some (record { ticket = q.sent.first; kind = m.kind })) None ≡ Some d → Hands q d
        by false f h = absurd (none-some _ h)
        by true f h = record { message = m; messages = ms; is = is; finished = f; left = ap (λ z. past_oldest ((q.sent.first + 1) % 2 ^ 64) z q.unsent q.offset) is }

pub handed_counts : (q : Queue) (us : ℕ) (ms : List (Request Octets)) (ks : List Kind) (a : ℕ) (rs : List Outstanding) (d : Done) → done_in q ≡ Some d → Counts q us ms ks a rs → Counts (handed_from q (done_in q)) us (ms ++ []) (ks ++ d.kind ∷ []) a rs
handed_counts q us ms ks a rs d e n =
    let h = hands q d e in
    let kept : List WasSent = drop (length ks) (marks a n.first) in
    let mine : kept ≡ h.message ∷ h.messages = sym n.marked ∙ h.is in
    let one : length (ks ++ d.kind ∷ []) ≡ length ks + 1 = length_push ks d.kind in
    same_counts (ap (handed_from q) e ∙ h.left) (append-nil ms) refl refl refl (record {
      order = n.order ∙ ap (λ z. ks ++ z) ((keeps_order.done q d e).kind ∙ ap (λ z. d.kind ∷ kinds_in z) h.left) ∙ sym (append_assoc ks (d.kind ∷ []) (kinds_in (record { sent = record { first = (q.sent.first + 1) % 2 ^ 64; messages = h.messages }; unsent = q.unsent; offset = q.offset })));
      first = n.first;
      split = n.split;
      lasts = n.lasts;
      counted = omega (arith, n.counted, ap length h.is, one);
      oldest = omega (arith, n.oldest, one);
      marked = sym (ap (drop 1) mine) ∙ drop-drop 1 (length ks) (marks a n.first) ∙ ap (λ z. drop z (marks a n.first)) (sym one);
      some = n.some;
      done = subst (λ z. count_reads (take z n.first) ≤ a) (sym one) (finished_mark a (length ks) n.first h.message h.messages mine h.finished n.done);
      tickets = n.tickets;
    })

-- where none is finished, none was sent to its end and not handed out, or the first is a Read that waits
pub record Awaits (q : Queue) : Type 0 where
  pub message : WasSent
  pub messages : List WasSent
  pub is : q.sent.messages ≡ message ∷ messages
  pub unfinished : message.finished ≡ false

pub none_done : (q : Queue) → done_in q ≡ None → (q.sent.messages ≡ []) ⊎ Awaits q
none_done q e = go q.sent.messages refl e
  where
    go : (ms : List WasSent) → q.sent.messages ≡ ms → done_from q.sent.first ms ≡ None → (q.sent.messages ≡ []) ⊎ Awaits q
    go [] is h = inl is
    go (m ∷ ms) is h = by m.finished refl h
      where
        by : (b : Bool) → m.finished ≡ b → cond {A = Option Done} b (Some (record { ticket = q.sent.first; kind = m.kind })) None ≡ None → (q.sent.messages ≡ []) ⊎ Awaits q
        by true f h = absurd (none-some _ (sym h))
        by false f h = inr (record { message = m; messages = ms; is = is; unfinished = f })

-- how many Reads were answered changes no kind
kinds_kept : (a b f : ℕ) (xs : List (Request Octets)) → map (λ (w : WasSent). w.kind) (drop f (marks a xs)) ≡ map (λ (w : WasSent). w.kind) (drop f (marks b xs))
kinds_kept a b f [] = refl
kinds_kept a b zero (Posted m ∷ xs) = ap (λ z. kind_of (Posted m) ∷ z) (kinds_kept a b zero xs)
kinds_kept zero zero zero (Read r ∷ xs) = refl
kinds_kept zero (suc b) zero (Read r ∷ xs) = ap (λ z. kinds.Read ∷ z) (kinds_kept zero b zero xs)
kinds_kept (suc a) zero zero (Read r ∷ xs) = ap (λ z. kinds.Read ∷ z) (kinds_kept a zero zero xs)
kinds_kept (suc a) (suc b) zero (Read r ∷ xs) = ap (λ z. kinds.Read ∷ z) (kinds_kept a b zero xs)
kinds_kept a b (suc f) (Posted m ∷ xs) = kinds_kept a b f xs
kinds_kept zero zero (suc f) (Read r ∷ xs) = refl
kinds_kept zero (suc b) (suc f) (Read r ∷ xs) = kinds_kept zero b f xs
kinds_kept (suc a) zero (suc f) (Read r ∷ xs) = kinds_kept a zero f xs
kinds_kept (suc a) (suc b) (suc f) (Read r ∷ xs) = kinds_kept a b f xs

-- a Read is answered to its end
place_there : (ticket first p f : ℕ) → ticket ≡ p % 2 ^ 64 → first ≡ f % 2 ^ 64 → f ≤ p → p < f + 256 → (ticket + (2 ^ 64 - first)) % 2 ^ 64 ≡ p - f
place_there ticket first p f a b low high = omega (arith, a, b, low, high)

pub answered_counts : (q : Queue) (us : ℕ) (ms : List (Request Octets)) (ks : List Kind) (a : ℕ) (read : Outstanding) (rs : List Outstanding) → length q.sent.messages ≤ 256 → Counts q us ms ks a (read ∷ rs)
    → (ticket : ℕ) × (read.ticket ≡ Some ticket) × Counts (sent_with q (completions.finished q.sent ticket)) us (ms ++ []) (ks ++ []) (a + 1) rs
answered_counts q us ms ks a read rs few n =
    let g = go (drop a (places 0 n.first)) refl n.tickets in
    (g.0, g.1, same_counts refl (append-nil ms) (append-nil ks) (add-one a) refl g.2)
  where
    first_or : Option ℕ → List (Option ℕ) → Option ℕ
    first_or d [] = d
    first_or d (x ∷ xs) = x

    rest_of : List (Option ℕ) → List (Option ℕ)
    rest_of [] = []
    rest_of (x ∷ xs) = xs

    go : (ps : List ℕ) → drop a (places 0 n.first) ≡ ps → map (λ (r : Outstanding). r.ticket) (read ∷ rs) ≡ map posted_ticket ps → (ticket : ℕ) × (read.ticket ≡ Some ticket) × Counts (sent_with q (completions.finished q.sent ticket)) us ms ks (suc a) rs
    go [] is t = absurd (omega (arith, ap length t))
    go (p ∷ ps) is t =
        let r = next_read a 0 n.first p ps is in
        let low : length ks ≤ p = (let b = r.beyond (length ks) n.done in omega (arith, b)) in
        let place : place_of q.sent (ticket_for p) ≡ p - length ks = place_there (ticket_for p) q.sent.first p (length ks) refl n.oldest low (omega (arith, r.high, n.counted, few)) in
        let mark : WasSent = record { kind = kinds.Read; finished = true } in
        let marked : slice_set q.sent.messages (place_of q.sent (ticket_for p)) mark ≡ drop (length ks) (marks (suc a) n.first) =
        (λ i. slice_set (n.marked i) (place i) mark) ∙ sym (drop-set (length ks) p (marks a n.first) mark low)
        ∙ ap (drop (length ks)) (ap (λ j. slice_set (marks a n.first) j mark) (let same : p ≡ p - 0 = omega arith in same) ∙ sym r.marked) in
        let kinds_are : map (λ (w : WasSent). w.kind) (slice_set q.sent.messages (place_of q.sent (ticket_for p)) mark) ≡ map (λ (w : WasSent). w.kind) q.sent.messages =
        ap (map (λ (w : WasSent). w.kind)) marked ∙ kinds_kept (suc a) a (length ks) n.first ∙ ap (map (λ (w : WasSent). w.kind)) (sym n.marked) in (
          ticket_for p,
          ap (first_or None) t,
          record {
            order = n.order ∙ ap (λ z. ks ++ z) (ap (λ z. z ++ map kind_of q.unsent) (sym kinds_are));
            first = n.first;
            split = n.split;
            lasts = n.lasts;
            counted = n.counted ∙ ap (λ z. length ks + z) (sym (length-set q.sent.messages (place_of q.sent (ticket_for p)) mark));
            oldest = n.oldest;
            marked = marked;
            some = omega (arith, r.some);
            done = omega (arith, n.done);
            tickets = ap rest_of t ∙ ap (map posted_ticket) (sym (ap (drop 1) is) ∙ drop-drop 1 a (places 0 n.first) ∙ ap (λ z. drop z (places 0 n.first)) (add-one a));
          },
        )

-- ---- Reads by their kinds

pub count_reads-kinds : (ms : List (Request Octets)) → count_done (map kind_of ms) ≡ count_reads ms
count_reads-kinds [] = refl
count_reads-kinds (Posted (Write stag to octets) ∷ ms) = count_reads-kinds ms
count_reads-kinds (Posted (Send octets solicited invalidate) ∷ ms) = count_reads-kinds ms
count_reads-kinds (Read request ∷ ms) = ap (λ n. n + 1) (count_reads-kinds ms)

pub map-take : (n : ℕ) (ms : List (Request Octets)) → map kind_of (take n ms) ≡ take n (map kind_of ms)
map-take zero ms = refl
map-take (suc n) [] = refl
map-take (suc n) (m ∷ ms) = ap (λ z. kind_of m ∷ z) (map-take n ms)

pub take-all : (xs ys : List Kind) → take (length xs) (xs ++ ys) ≡ xs
take-all [] ys = refl
take-all (x ∷ xs) ys = ap (λ z. x ∷ z) (take-all xs ys)

pub count_done-append : (xs ys : List Kind) → count_done (xs ++ ys) ≡ count_done xs + count_done ys
count_done-append [] ys = omega arith
count_done-append (kinds.Write ∷ xs) ys = count_done-append xs ys
count_done-append (kinds.Send ∷ xs) ys = count_done-append xs ys
count_done-append (kinds.Read ∷ xs) ys = omega (arith, count_done-append xs ys)

-- ---- what was handed back, finished or given up

pub record Handing (q : Queue) (first posted : List (Request Octets)) (handed : List Kind) (answered : ℕ) : Type 0 where
  pub order : map kind_of posted ≡ handed ++ kinds_in q
  pub marked : q.sent.messages ≡ drop (length handed) (marks answered first)

pub handing_of : {q : Queue} {us : ℕ} {ms : List (Request Octets)} {ks : List Kind} {a : ℕ} {rs : List Outstanding} (n : Counts q us ms ks a rs) → Handing q n.first ms ks a
handing_of n = record { order = n.order; marked = n.marked }

pub same_handing : {q q' : Queue} {first ms ms' : List (Request Octets)} {ks ks' : List Kind} {a a' : ℕ} → q' ≡ q → ms' ≡ ms → ks' ≡ ks → a' ≡ a → Handing q first ms ks a → Handing q' first ms' ks' a'
same_handing {q} {q'} {first} {ms} {ms'} {ks} {ks'} {a} {a'} e f g h n =
    subst (λ z. Handing z first ms' ks' a') (sym e) (subst (λ z. Handing q first z ks' a') (sym f) (subst (λ z. Handing q first ms z a') (sym g) (subst (λ z. Handing q first ms ks z) (sym h) n)))

-- the oldest message is handed back
pub one_handed : (q : Queue) (first ms : List (Request Octets)) (ks : List Kind) (a : ℕ) (d : Done) → IsHandedOut q d → Handing q first ms ks a → Handing (handed_from q (Some d)) first (ms ++ []) (ks ++ d.kind ∷ []) a
one_handed q first ms ks a d out n = same_handing refl (append-nil ms) refl refl (record {
  order = n.order ∙ ap (λ z. ks ++ z) out.kind ∙ sym (append_assoc ks (d.kind ∷ []) (kinds_in (handed_from q (Some d))));
  marked = beyond q.sent.messages ∙ ap (drop 1) n.marked ∙ drop-drop 1 (length ks) (marks a first) ∙ ap (λ z. drop z (marks a first)) (sym (length_push ks d.kind));
})
  where
    beyond : (messages : List WasSent) → (past_oldest ((q.sent.first + 1) % 2 ^ 64) messages q.unsent q.offset).sent.messages ≡ drop 1 messages
    beyond [] = refl
    beyond (x ∷ xs) = refl

-- ---- frames that stand one behind another

-- whether the first octet of a ULPDU says that its segment is the last of a message
abbrev pub last_in : Octets → Bool
last_in octets = get_or octets 0 0 / 0x40 % 2 == 1

-- and whether it is of no message that was posted
abbrev pub extra_in : Octets → Bool
extra_in octets = cond (is_tagged (get_or octets 0 0)) (nat_eq (opcode_of (get_or octets 1 0)) 2) (nat_eq (opcode_of (get_or octets 1 0)) 7)

-- a segment that can be told by its octets
pub record IsTold (s : Segment Octets) : Type 0 where
  pub small : length (segment_octets s) ≤ max_sent
  pub last : last_in (segment_octets s) ≡ is_last s
  pub extra : extra_in (segment_octets s) ≡ is_extra s

last_octet : (tagged last : Bool) (version : ℕ) → version < 4 → (first_octet tagged last version / 0x40 % 2 == 1) ≡ last
last_octet true true version h = grind (arith, nat_tests)
last_octet true false version h = grind (arith, nat_tests)
last_octet false true version h = grind (arith, nat_tests)
last_octet false false version h = grind (arith, nat_tests)

pub tagged_told : (s : Segment Octets) → version_of s < 4 → length (segment_octets s) ≤ max_sent → IsTold s
unfolding segment_octets tagged_octets untagged_octets
tagged_told (Tagged head payload) h small = record {
  small = small;
  last = last_octet true head.last head.ddp_version h;
  extra = ap (λ b. cond b (nat_eq (opcode_of head.control) 2) (nat_eq (opcode_of head.control) 7)) (is_tagged-first_octet true head.last head.ddp_version h);
}
tagged_told (Untagged head payload) h small = record {
  small = small;
  last = last_octet false head.last head.ddp_version h;
  extra = ap (λ b. cond b (nat_eq (opcode_of head.control) 2) (nat_eq (opcode_of head.control) 7)) (is_tagged-first_octet false head.last head.ddp_version h);
}

pub sendable_told : (s : Segment Octets) → IsSendable s → IsTold s
sendable_told (Tagged head payload) h = tagged_told (Tagged head payload) h.version h.small
sendable_told (Untagged head payload) h = tagged_told (Untagged head payload) h.version h.small

pub all_told : (ss : List (Segment Octets)) → Each IsSendable ss → Each IsTold ss
all_told [] h = tt
all_told (s ∷ ss) h = (sendable_told s h.0, all_told ss h.1)

each-append : {A : Type 0} (P : A → Type 0) (xs ys : List A) → Each P xs → Each P ys → Each P (xs ++ ys)
each-append P [] ys h k = k
each-append P (x ∷ xs) ys h k = (h.0, each-append P xs ys h.1 k)

cut_told : (room : ℕ) (segment : ℕ → Bool → Octets → Segment Octets) → ((o : ℕ) (l : Bool) (x : Octets) → length x ≤ room → IsTold (segment o l x))
    → (offset : ℕ) (octets : Octets) (ss : List (Segment Octets)) → IsCut room segment offset octets ss → Each IsTold ss
cut_told room segment one offset octets [] cut = absurd cut
cut_told room segment one offset octets (s ∷ []) cut = (subst IsTold (sym cut.1) (one offset true octets cut.0), tt)
cut_told room segment one offset octets (s ∷ t ∷ ss) cut =
    (subst IsTold (sym cut.2.is) (one offset false cut.0 cut.2.fits), cut_told room segment one (offset + length cut.0) cut.1 (t ∷ ss) cut.3)

request_small : (msn : ℕ) (request : ReadRequest) → length (segment_octets (request_segment msn request)) ≤ max_sent
request_small msn request =
    omega (arith, length-segment_octets_untagged (record { last = true; ddp_version = 1; control = control_of (untagged_opcode untagged.ReadRequest); tail = 0; queue = 1; msn = msn; mo = 0 }) (request_octets request), length-request_octets request)

message_told : (numbers : Numbers) (m : Request Octets) (ss : List (Segment Octets)) → AreSegments numbers m 0 ss → Each IsTold ss
message_told numbers (Posted (Write stag to octets)) ss cut =
    cut_told _ (write_segment stag to) (λ o l x few. tagged_told (write_segment stag to o l x) (omega arith) (omega (arith, few, length-segment_octets_tagged (record { last = l; ddp_version = 1; control = control_of (tagged_opcode tagged.Write); stag = stag; to = (to + o) % 2 ^ 64 }) x)))
    0 octets ss cut
message_told numbers (Read request) ss cut =
    subst (Each IsTold) (sym cut) (tagged_told (request_segment numbers.read request) (omega arith) (request_small numbers.read request), tt)
message_told numbers (Posted (Send octets solicited invalidate)) ss cut =
    cut_told _ (send_segment numbers.send solicited invalidate)
    (λ o l x few.
    tagged_told (send_segment numbers.send solicited invalidate o l x) (omega arith)
    (omega (arith, few, length-segment_octets_untagged (record { last = l; ddp_version = 1; control = control_of (untagged_opcode (untagged.Send solicited (is_some invalidate))); tail = option_map_or number_of invalidate 0; queue = 0; msn = numbers.send; mo = o }) x)))
    0 octets ss cut

response_told : (request : ReadRequest) (ss : List (Segment Octets)) (offset : ℕ) (octets : Octets) → IsCut (64512 - 14) (response_segment request) offset octets ss → Each IsTold ss
response_told request ss offset octets cut =
    cut_told _ (response_segment request)
    (λ o l x few. tagged_told (response_segment request o l x) (omega arith) (omega (arith, few, length-segment_octets_tagged (response_head request o l) x)))
    offset octets ss cut

item_told : (numbers : Numbers) (item : Item) (ss : List (Segment Octets)) → ItemSegments numbers item 0 ss → Each IsTold ss
item_told numbers (Post m) ss cut = message_told numbers m ss cut
item_told numbers (Response answer) ss cut = response_told answer.request ss 0 answer.octets cut.1

pub merged_told : (numbers : Numbers) (items : List Item) (ss : List (Segment Octets)) → AreMerged numbers 0 items ss → Each IsTold ss
merged_told numbers [] ss h = subst (Each IsTold) (sym h) tt
merged_told numbers (item ∷ items) ss (mine, later, is, one, rest) =
    subst (Each IsTold) (sym is) (each-append IsTold mine later (item_told numbers item mine one) (merged_told (numbers_past numbers item) items later rest))

-- ---- how many messages segments carry to their ends

cut_last : (room : ℕ) (segment : ℕ → Bool → Octets → Segment Octets) → ((o : ℕ) (l : Bool) (x : Octets) → is_whole (segment o l x) ≡ l)
    → (offset : ℕ) (octets : Octets) (ss : List (Segment Octets)) → IsCut room segment offset octets ss → count_last ss ≡ 1
cut_last room segment told offset octets [] cut = absurd cut
cut_last room segment told offset octets (s ∷ []) cut = let one : is_whole s ≡ true = ap is_whole cut.1 ∙ told offset true octets in omega (arith, ap one_for one)
cut_last room segment told offset octets (s ∷ t ∷ ss) cut =
    let none : is_whole s ≡ false = ap is_whole cut.2.is ∙ told offset false cut.0 in
    omega (arith, ap one_for none, cut_last room segment told (offset + length cut.0) cut.1 (t ∷ ss) cut.3)

and_not : (l : Bool) → (l && not false) ≡ l
and_not true = refl
and_not false = refl

message_last : (numbers : Numbers) (m : Request Octets) (ss : List (Segment Octets)) → AreSegments numbers m 0 ss → count_last ss ≡ 1
message_last numbers (Posted (Write stag to octets)) ss cut = cut_last _ (write_segment stag to) (λ o l x. and_not l) 0 octets ss cut
message_last numbers (Posted (Send octets solicited invalidate)) ss cut = cut_last _ (send_segment numbers.send solicited invalidate) (λ o l x. ap (λ b. l && not b) (send_extra solicited (is_some invalidate)) ∙ and_not l) 0 octets ss cut
message_last numbers (Read request) ss cut = ap count_last cut

and_false : (l : Bool) → (l && not true) ≡ false
and_false true = refl
and_false false = refl

response_none : (room : ℕ) (request : ReadRequest) (offset : ℕ) (octets : Octets) (ss : List (Segment Octets)) → IsCut room (response_segment request) offset octets ss → count_last ss ≡ 0
response_none room request offset octets [] cut = absurd cut
response_none room request offset octets (s ∷ []) cut = let none : is_whole s ≡ false = ap is_whole cut.1 ∙ and_false true in omega (arith, ap one_for none)
response_none room request offset octets (s ∷ t ∷ ss) cut =
    let none : is_whole s ≡ false = ap is_whole cut.2.is ∙ and_false false in
    omega (arith, ap one_for none, response_none room request (offset + length cut.0) cut.1 (t ∷ ss) cut.3)

pub merged_last : (numbers : Numbers) (items : List Item) (ss : List (Segment Octets)) → AreMerged numbers 0 items ss → count_last ss ≡ length (posts_in items)
merged_last numbers [] ss h = ap count_last h
merged_last numbers (Post m ∷ items) ss (mine, later, is, one, rest) =
    omega (arith, ap count_last is, count_last-append mine later, message_last numbers m mine one, merged_last (numbers_after numbers m) items later rest)
merged_last numbers (Response answer ∷ items) ss (mine, later, is, one, rest) =
    omega (arith, ap count_last is, count_last-append mine later, response_none (64512 - 14) answer.request 0 answer.octets mine one.1, merged_last numbers items later rest)

-- a Terminate is none of them
pub farewell_last : (o : Option Octets) → count_last (farewells o) ≡ 0
farewell_last None = refl
farewell_last (Some payload) = refl

-- frames at the front of others carry no more messages to their ends
pub front_last : (layout : Layout) (at : ℕ) (us vs : List (Segment Octets)) (tail : Octets) → IsBetween layout.markers at → Each IsTold us → Each IsTold vs
    → sequence layout at (map segment_octets us) ++ tail ≡ sequence layout at (map segment_octets vs) → count_last us ≤ count_last vs
unfolding sequence
front_last layout at [] vs tail b hu hv e = omega arith
front_last layout at (u ∷ us) [] tail b hu hv e =
    let ou : Octets = segment_octets u in
    let rest : Octets = sequence layout (frame_end layout.markers at (length ou)) (map segment_octets us) ++ tail in
    absurd (none-some _ (sym (none_first layout at [] b refl) ∙ ap (first_frame layout at) (sym e ∙ append_assoc (frame_octets layout at ou) _ tail) ∙ written_is_first layout at ou rest b hu.0.small))
front_last layout at (u ∷ us) (v ∷ vs) tail b hu hv e =
    let ou : Octets = segment_octets u in
    let ov : Octets = segment_octets v in
    let end : ℕ → ℕ = λ n. frame_end layout.markers at n in
    let restu : Octets = sequence layout (end (length ou)) (map segment_octets us) ++ tail in
    let restv : Octets = sequence layout (end (length ov)) (map segment_octets vs) in
    let whole : frame_octets layout at ou ++ restu ≡ frame_octets layout at ov ++ restv = sym (append_assoc (frame_octets layout at ou) _ tail) ∙ e in
    let firsts : Some (intact ou, restu) ≡ Some (intact ov, restv) =
    sym (written_is_first layout at ou restu b hu.0.small) ∙ ap (first_frame layout at) whole ∙ written_is_first layout at ov restv b hv.0.small in
    let parts = some_pair_parts _ _ _ _ firsts in
    let same : ou ≡ ov = ap (λ (c : Carried). c.ulpdu) parts.0 in
    let last : is_whole u ≡ is_whole v =
    (λ i. (sym hu.0.last ∙ ap last_in same ∙ hv.0.last) i && not ((sym hu.0.extra ∙ ap extra_in same ∙ hv.0.extra) i)) in
    let more : count_last us ≤ count_last vs =
    front_last layout (end (length ov)) us vs tail (next_between layout at (length ov) b) hu.1 hv.1 (ap (λ n. sequence layout (end n) (map segment_octets us) ++ tail) (ap length (sym same)) ∙ parts.1) in
    omega (arith, ap one_for last, more)

-- the message at a place, by the kinds of all
pub message_at : (ms : List (Request Octets)) (first : List Kind) (k : Kind) (rest : List Kind) → map kind_of ms ≡ first ++ k ∷ rest → (m : Request Octets) × (slice_get ms (length first) ≡ Some m) × (k ≡ kind_of m)
message_at [] [] k rest e = absurd (omega (arith, ap length e))
message_at [] (f ∷ fs) k rest e = absurd (omega (arith, ap length e))
message_at (m ∷ ms) [] k rest e = (m, refl, sym (ap (kind_or k) e))
  where
    kind_or : Kind → List Kind → Kind
    kind_or d [] = d
    kind_or d (x ∷ xs) = x
message_at (m ∷ ms) (f ∷ fs) k rest e = message_at ms fs k rest (ap later e)
  where
    later : List Kind → List Kind
    later [] = []
    later (x ∷ xs) = xs

pub place_within : (ms : List (Request Octets)) (n : ℕ) (m : Request Octets) → slice_get ms n ≡ Some m → n < length ms
place_within [] n m e = absurd (none-some _ e)
place_within (x ∷ xs) zero m e = omega arith
place_within (x ∷ xs) (suc n) m e = let more : n < length xs = place_within xs n m e in omega arith
