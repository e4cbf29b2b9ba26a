-- Each call to emit that has something to emit takes something off what is to go out.
use Rattle.std.proofs.Common.{◌≡◌, ℕ, zero, suc, ◌+◌, ◌-◌, ◌*◌, ◌<◌, ◌≤◌, ◌⊎◌, List, [], ◌∷◌, length, drop, Option, Some, None, Ok, Err, Bool, true, false, cond, refl, sym, ap, ◌∙◌, arith, inl, inr, leb}
use Rattle.std.specs.Prelude.{All, is_some, not, ◌&&◌, ◌||◌, nat_eq, nat_lt, nat_le, min, Result}
use Rattle.std.specs.Option.{option_map_or}
use Rattle.std.proofs.lemmas.Bool.{true≢false}
use Rattle.std.proofs.lemmas.Bool.Decides.{nat_tests, eqb_tells, leb_tells}
use Rattle.std.proofs.lemmas.List.Elements.{All-head, All-tail}
use Rattle.std.proofs.lemmas.Option.{none-some, same_Some}
use Rattle.iw_octets.specs.declared.fault.Fault.{Fault}
use Rattle.iw_octets.specs.declared.message.Message.TheVariants.{Write, Send}
use Rattle.iw_octets.specs.Segment.{segment_octets}
use Rattle.iw_memory.specs.Table.{Table}
use Rattle.iw_octets.specs.Head.{untagged_octets}
use Rattle.iw_fpdu.specs.Places.{place_after, data_place, data_index}
use Rattle.iw_fpdu.specs.Frame.{frame_octets}
use Rattle.iw_fpdu.proofs.Follows.{frames_follow}
use Rattle.iw_fpdu.proofs.Sequences.{length_written}
use Rattle.iw_locate.proofs.Sequenced.{end_low}
use Rattle.iw_queues.specs.declared.request.Request.{Request}
use Rattle.iw_queues.specs.declared.request.Request.TheVariants.{Message, Read}
use Rattle.iw_queues.specs.declared.send_queue.Part.{Part}
use Rattle.iw_queues.specs.Completions.{next_ticket, added}
use Rattle.iw_queues.specs.Request.{kind_of, payload, size_of, header_len}
use Rattle.iw_queues.specs.Queue.{Queue, next_part, part_of_first, part_from, part_sent}
use Rattle.iw_queues.specs.Queue as queues
use Rattle.iw_reads.specs.declared.requests.Asked.{Asked}
use Rattle.iw_reads.specs.declared.response.ResponsePart.{ResponsePart}
use Rattle.iw_reads.specs.Requests.{Requested, part_for, part_fetched}
use Rattle.iw_reads.specs.Requests as requests
use Rattle.iw_startup.specs.declared.enhanced.Rtr.{Rtr}
use Rattle.iw_stream.specs.declared.ending.Ending.{Ending}
use Rattle.iw_stream.specs.declared.ending.Ending.TheVariants.{Runs, Over, Broken}
use Rattle.iw_stream.specs.Ending.{has_ended, is_broken, last_word, with_last_word}
use Rattle.iw_stream.specs.Kept.{IsWithin}
use Rattle.iw_stream.specs.Rtr.{rtr_segment}
use Rattle.iw_stream.specs.Starting.{is_open, sending, own_frame, first_place_out, most_reads_in, rtr_in}
use Rattle.iw_stream.specs.Terminating.{terminate_fetched}
use Rattle.iw_stream.specs.Stream.{StreamState, StartUp, LastWord, Ready, Response, NextPart, NoneDue, ended, owes_frame, is_mute, is_silent, keeps_silent, is_read, may_go, rtr_due, part_due, response_due, due, is_none_due, ends_by, frame_of_terminate, frame_of_rtr, frame_of_part, frame_fetched, left_fetched, left_due, after_emit}
use Rattle.iw_endpoint.specs.Emptying.{frames_of_posts, frames_of_answers, frames_left, EmitComesToRest, KnownFrames, RefusesSentAgain}

-- ---- tests

abbrev one_if : Bool → ℕ
one_if b = cond b 1 0

abbrev two_if : Bool → ℕ
two_if b = cond b 2 0

two : {a b : Bool} → a ≡ b → two_if a ≡ two_if b
two e = ap two_if e

abbrev two_unless : Bool → ℕ
two_unless b = cond b 0 2

few : (b : Bool) → one_if b ≤ 1
few true = omega arith
few false = omega arith

and_false : (b : Bool) → (b && false) ≡ false
and_false true = refl
and_false false = refl

-- a start-up frame that is not owed is not owed once more went out
owed_no_more : (b : Bool) (sent place k : ℕ) → (b && nat_lt sent place) ≡ false → (b && nat_lt (sent + k) place) ≡ false
owed_no_more false sent place k h = refl
owed_no_more true sent place k h = grind (arith, nat_tests)

-- and it went out, unless the link broke
went_out : (s : StreamState) → owes_frame s ≡ false → is_broken s.ending ≡ false → first_place_out s.start ≤ s.sent
went_out s owes whole = (let none : nat_lt s.sent (first_place_out s.start) ≡ false = sym (ap (λ b. not b && nat_lt s.sent (first_place_out s.start)) whole) ∙ owes in grind (arith, nat_tests))

-- the RTR is not due once more went out, where it was not
rtr_few : (o : Option Rtr) (sent place k : ℕ) → place ≤ sent → one_if (is_some (cond (nat_eq (sent + k) place) o None)) ≤ one_if (is_some (cond (nat_eq sent place) o None))
rtr_few o sent place k low = elim (eqb_tells (sent + k) place) [
  | inr apart ↦ (let none : one_if (is_some (cond (nat_eq (sent + k) place) o None)) ≡ 0 = ap (λ b. one_if (is_some (cond b o None))) apart.0 in omega (arith, none))
  | inl same ↦
      let here : nat_eq sent place ≡ true = (let e : sent ≡ place = omega (arith, same.1, low) in grind (arith, nat_tests)) in
      let both : one_if (is_some (cond (nat_eq (sent + k) place) o None)) ≡ one_if (is_some (cond (nat_eq sent place) o None)) = λ i. one_if (is_some (cond ((same.0 ∙ sym here) i) o None)) in
      omega (arith, both)
]

unbroken : (e : Ending) → has_ended e ≡ false → is_broken e ≡ false
unbroken Runs h = refl
unbroken (Over word) h = refl
unbroken Broken h = absurd (true≢false h)

word_unbroken : (e : Ending) (payload : List ℕ) → last_word e ≡ Some payload → is_broken e ≡ false
word_unbroken Runs payload h = refl
word_unbroken (Over word) payload h = refl
word_unbroken Broken payload h = absurd (none-some _ h)

or_false : (a b : Bool) → (a || b) ≡ false → a ≡ false
or_false false b e = refl
or_false true b e = absurd (true≢false e)

-- ---- what is due

abbrev Lowers : StreamState → StreamState → Type 0
Lowers s s' = frames_left s' < frames_left s

start_less : (s : StreamState) → owes_frame s ≡ true → Lowers s (record s { sent = s.sent + length (own_frame s.start) })
start_less s owes =
    let s' : StreamState = record s { sent = s.sent + length (own_frame s.start) } in
    let none : nat_lt (s.sent + length (own_frame s.start)) (length (own_frame s.start)) ≡ false = grind (arith, nat_tests) in
    let after : owes_frame s' ≡ false = ap (λ b. not (is_broken s.ending) && b) none ∙ and_false (not (is_broken s.ending)) in
    omega (arith, two owes, two after, few (is_some (rtr_due s')))

last_less : (s : StreamState) (payload : List ℕ) (k : ℕ) → owes_frame s ≡ false → last_word s.ending ≡ Some payload → Lowers s (record s { sent = s.sent + k; ending = Over None })
last_less s payload k owes word =
    let whole : is_broken s.ending ≡ false = word_unbroken s.ending payload word in
    let low : first_place_out s.start ≤ s.sent = went_out s owes whole in
    let none : nat_lt (s.sent + k) (first_place_out s.start) ≡ false = grind (arith, nat_tests) in
    let after : owes_frame (record s { sent = s.sent + k; ending = Over None }) ≡ false = none in
    omega (arith, two owes, two after, ap (λ (o : Option (List ℕ)). one_if (is_some o)) word, rtr_few (rtr_in s.start) s.sent (first_place_out s.start) k low)

ready_less : (s : StreamState) (rtr : Rtr) (s' : StreamState) (k : ℕ) → owes_frame s ≡ false → rtr_due s ≡ Some rtr → 0 < k → s'.sent ≡ s.sent + k → s'.start ≡ s.start → s'.queue ≡ s.queue → s'.asked ≡ s.asked → s'.ending ≡ s.ending → Lowers s s'
ready_less s rtr s' k owes is some sent start queue asked ending =
    let same : s.sent ≡ first_place_out s.start = here (nat_eq s.sent (first_place_out s.start)) refl is in
    let apart : nat_eq (s.sent + k) (first_place_out s.start) ≡ false = grind (arith, nat_tests) in
    let moved : StreamState = record s { sent = s.sent + k } in
    let unready : one_if (is_some (rtr_due moved)) ≡ 0 = ap (λ b. one_if (is_some (cond b (rtr_in s.start) None))) apart in
    let after : owes_frame moved ≡ false = owed_no_more (not (is_broken s.ending)) s.sent (first_place_out s.start) k owes in
    let alike : frames_left s' ≡ frames_left moved = λ i. frames_left (record s { sent = sent i; start = start i; queue = queue i; asked = asked i; ending = ending i }) in
    omega (arith, alike, unready, ap (λ (o : Option Rtr). one_if (is_some o)) is, two owes, two after)
  where
    here : (b : Bool) → nat_eq s.sent (first_place_out s.start) ≡ b → cond b (rtr_in s.start) None ≡ Some rtr → s.sent ≡ first_place_out s.start
    here true e h = grind (arith, nat_tests)
    here false e h = absurd (none-some _ h)

-- a frame goes out that leaves less of what was posted, or of the responses
moves_less : (s : StreamState) (s' : StreamState) (k : ℕ) → owes_frame s ≡ false → first_place_out s.start ≤ s.sent → s'.sent ≡ s.sent + k → s'.start ≡ s.start → s'.ending ≡ s.ending
    → (frames_of_posts s'.queue.unsent - s'.queue.offset) + (frames_of_answers s'.asked.unanswered - s'.asked.fetched) < (frames_of_posts s.queue.unsent - s.queue.offset) + (frames_of_answers s.asked.unanswered - s.asked.fetched)
    → Lowers s s'
moves_less s s' k owes low sent start ending fewer =
    let moved : StreamState = record s' { sent = s.sent + k; start = s.start; ending = s.ending } in
    let after : owes_frame moved ≡ false = owed_no_more (not (is_broken s.ending)) s.sent (first_place_out s.start) k owes in
    let alike : frames_left s' ≡ frames_left moved = λ i. frames_left (record s' { sent = sent i; start = start i; ending = ending i }) in
    omega (arith, alike, fewer, two owes, two after, rtr_few (rtr_in s.start) s.sent (first_place_out s.start) k low)

-- the end by a fault
fault_less : (s : StreamState) (payload : List ℕ) → owes_frame s ≡ false → first_place_out s.start ≤ s.sent → ended s ≡ false → Lowers s (ends_by s payload)
fault_less s payload owes low running = go (is_silent s.start s.arrived)
  where
    none : nat_lt s.sent (first_place_out s.start) ≡ false
    none = grind (arith, nat_tests)

    go : (silent : Bool) → frames_left (record (ends_by s payload) { ending = cond silent (Over None) (with_last_word payload) }) < frames_left s
    go true = omega (arith, two owes, two none, ap two_unless running)
    go false = omega (arith, two owes, two none, ap two_unless running)

-- ---- parts

-- of a response
answer_less : (asked : Requested) (max : ℕ) (part : ResponsePart) → 128 ≤ max → requests.IsBegun asked.unanswered asked.fetched → part_for asked.unanswered asked.fetched max ≡ Some part
    → frames_of_answers (part_fetched asked (Some part)).unanswered - (part_fetched asked (Some part)).fetched < frames_of_answers asked.unanswered - asked.fetched
answer_less asked max part enough begun e = go asked.unanswered refl begun e
  where
    go : (waiting : List Asked) → asked.unanswered ≡ waiting → requests.IsBegun waiting asked.fetched → part_for waiting asked.fetched max ≡ Some part
        → frames_of_answers (part_fetched asked (Some part)).unanswered - (part_fetched asked (Some part)).fetched < frames_of_answers asked.unanswered - asked.fetched
    go [] is b h = absurd (none-some _ h)
    go (oldest ∷ beyond) is b h =
        let all : frames_of_answers asked.unanswered ≡ oldest.request.size + 1 + frames_of_answers beyond = ap frames_of_answers is in
        let within : asked.fetched ≤ oldest.request.size = few_fetched asked.fetched b in
        by (leb (oldest.request.size - asked.fetched) (max - 14)) refl all within (leb_tells (oldest.request.size - asked.fetched) (max - 14)) (ap (λ (p : ResponsePart). p.head.last) (sym (same_Some _ _ h))) (ap (λ (p : ResponsePart). p.n) (sym (same_Some _ _ h)))
      where
        few_fetched : (n : ℕ) → (0 < n → n < oldest.request.size) → n ≤ oldest.request.size
        few_fetched zero k = omega arith
        few_fetched (suc n) k = let l : suc n < oldest.request.size = k (omega arith) in omega (arith, l)

        by : (b : Bool) → leb (oldest.request.size - asked.fetched) (max - 14) ≡ b → frames_of_answers asked.unanswered ≡ oldest.request.size + 1 + frames_of_answers beyond → asked.fetched ≤ oldest.request.size
            → (((leb (oldest.request.size - asked.fetched) (max - 14) ≡ true) × (oldest.request.size - asked.fetched ≤ max - 14)) ⊎ ((leb (oldest.request.size - asked.fetched) (max - 14) ≡ false) × (max - 14 < oldest.request.size - asked.fetched)))
            → part.head.last ≡ leb (oldest.request.size - asked.fetched) (max - 14) → part.n ≡ min (oldest.request.size - asked.fetched) (max - 14)
            → frames_of_answers (part_fetched asked (Some part)).unanswered - (part_fetched asked (Some part)).fetched < frames_of_answers asked.unanswered - asked.fetched
        by true t all within told last n =
            let left : part_fetched asked (Some part) ≡ record asked { unanswered = drop 1 asked.unanswered; fetched = 0 } = ap (λ (b : Bool). cond b (record asked { unanswered = drop 1 asked.unanswered; fetched = 0 }) (record asked { fetched = asked.fetched + part.n })) (last ∙ t) in
            let rest : frames_of_answers (drop 1 asked.unanswered) ≡ frames_of_answers beyond = ap (λ z. frames_of_answers (drop 1 z)) is in
            omega (arith, all, within, rest, ap (λ (z : Requested). frames_of_answers z.unanswered - z.fetched) left)
        by false t all within (inl told) last n = absurd (true≢false (sym told.0 ∙ t))
        by false t all within (inr told) last n =
            let left : part_fetched asked (Some part) ≡ record asked { fetched = asked.fetched + part.n } = ap (λ (b : Bool). cond b (record asked { unanswered = drop 1 asked.unanswered; fetched = 0 }) (record asked { fetched = asked.fetched + part.n })) (last ∙ t) in
            let size : part.n ≡ max - 14 = n ∙ (let m : min (oldest.request.size - asked.fetched) (max - 14) ≡ max - 14 = grind (arith, told.1) in m) in
            omega (arith, all, within, size, told.1, enough, ap (λ (z : Requested). frames_of_answers z.unanswered - z.fetched) left)

-- of what was posted
post_less : (q : Queue) (max : ℕ) (part : Part (Request (List ℕ))) → 128 ≤ max → queues.IsBegun q.unsent q.offset → next_part q max ≡ Some part
    → frames_of_posts (part_sent q (Some part)).unsent - (part_sent q (Some part)).offset < frames_of_posts q.unsent - q.offset
post_less q max part enough begun e = go q.unsent refl begun e
  where
    header_small : (m : Request (List ℕ)) → header_len m ≤ 18
    header_small (Message (Write stag to octets)) = omega arith
    header_small (Message (Send octets solicited invalidate)) = omega arith
    header_small (Read request) = omega arith

    go : (messages : List (Request (List ℕ))) → q.unsent ≡ messages → queues.IsBegun messages q.offset → part_of_first (next_ticket q.sent) messages q.offset max ≡ Some part
        → frames_of_posts (part_sent q (Some part)).unsent - (part_sent q (Some part)).offset < frames_of_posts q.unsent - q.offset
    go [] is b h = absurd (none-some _ h)
    go (m ∷ ms) is b h =
        let all : frames_of_posts q.unsent ≡ length (payload m) + 1 + frames_of_posts ms = ap frames_of_posts is in
        let within : q.offset ≤ length (payload m) = few_sent q.offset b in
        by (leb (length (payload m) - q.offset) (max - header_len m)) refl all within (leb_tells (length (payload m) - q.offset) (max - header_len m)) (ap (λ (p : Part (Request (List ℕ))). p.last) (sym (same_Some _ _ h)))
        (ap (λ (p : Part (Request (List ℕ))). p.n) (sym (same_Some _ _ h)))
      where
        few_sent : (n : ℕ) → (0 < n → n < length (payload m)) → n ≤ length (payload m)
        few_sent zero k = omega arith
        few_sent (suc n) k = let l : suc n < length (payload m) = k (omega arith) in omega (arith, l)

        by : (b : Bool) → leb (length (payload m) - q.offset) (max - header_len m) ≡ b → frames_of_posts q.unsent ≡ length (payload m) + 1 + frames_of_posts ms → q.offset ≤ length (payload m)
            → (((leb (length (payload m) - q.offset) (max - header_len m) ≡ true) × (length (payload m) - q.offset ≤ max - header_len m)) ⊎ ((leb (length (payload m) - q.offset) (max - header_len m) ≡ false) × (max - header_len m < length (payload m) - q.offset)))
            → part.last ≡ leb (length (payload m) - q.offset) (max - header_len m) → part.n ≡ min (length (payload m) - q.offset) (max - header_len m)
            → frames_of_posts (part_sent q (Some part)).unsent - (part_sent q (Some part)).offset < frames_of_posts q.unsent - q.offset
        by true t all within told last n =
            let left : (part_sent q (Some part)).unsent ≡ drop 1 q.unsent = ap (λ (b : Bool). (cond b (record { sent = added q.sent (kind_of part.message); unsent = drop 1 q.unsent; offset = 0 }) (record q { offset = q.offset + part.n })).unsent) (last ∙ t) in
            let none : (part_sent q (Some part)).offset ≡ 0 = ap (λ (b : Bool). (cond b (record { sent = added q.sent (kind_of part.message); unsent = drop 1 q.unsent; offset = 0 }) (record q { offset = q.offset + part.n })).offset) (last ∙ t) in
            let rest : frames_of_posts (drop 1 q.unsent) ≡ frames_of_posts ms = ap (λ z. frames_of_posts (drop 1 z)) is in
            omega (arith, all, within, rest, none, ap frames_of_posts left)
        by false t all within (inl told) last n = absurd (true≢false (sym told.0 ∙ t))
        by false t all within (inr told) last n =
            let left : (part_sent q (Some part)).unsent ≡ q.unsent = ap (λ (b : Bool). (cond b (record { sent = added q.sent (kind_of part.message); unsent = drop 1 q.unsent; offset = 0 }) (record q { offset = q.offset + part.n })).unsent) (last ∙ t) in
            let on : (part_sent q (Some part)).offset ≡ q.offset + part.n = ap (λ (b : Bool). (cond b (record { sent = added q.sent (kind_of part.message); unsent = drop 1 q.unsent; offset = 0 }) (record q { offset = q.offset + part.n })).offset) (last ∙ t) in
            let size : part.n ≡ max - header_len m = n ∙ (let k : min (length (payload m) - q.offset) (max - header_len m) ≡ max - header_len m = grind (arith, told.1) in k) in
            omega (arith, all, within, size, told.1, enough, header_small m, on, ap frames_of_posts left)

part_goes : (most : ℕ) (s : StreamState) (o : Option (Part (Request (List ℕ)))) (part : Part (Request (List ℕ))) → may_go most s.reads o ≡ Some part → o ≡ Some part
part_goes most s None part h = absurd (none-some _ h)
part_goes most s (Some p) part h = by (is_read p.message && nat_le most (length s.reads)) h
  where
    by : (b : Bool) → cond b None (Some p) ≡ Some part → Some p ≡ Some part
    by true h = absurd (none-some _ h)
    by false h = h

answer_goes : (s : StreamState) (part : ResponsePart) → response_due s ≡ Some part → part_for s.asked.unanswered s.asked.fetched s.mulpdu ≡ Some part
answer_goes s part h = by (nat_lt 0 s.queue.offset) h
  where
    by : (b : Bool) → cond b None (part_for s.asked.unanswered s.asked.fetched s.mulpdu) ≡ Some part → part_for s.asked.unanswered s.asked.fetched s.mulpdu ≡ Some part
    by true h = absurd (none-some _ h)
    by false h = h

-- ---- a call

rtr_frame : (s : StreamState) (rtr : Rtr) → s.sent ≡ first_place_out s.start → 0 < length (frame_of_rtr s rtr)
rtr_frame s rtr same =
    let octets : List ℕ = segment_octets (rtr_segment s.numbers rtr) in
    let place : s.sent - first_place_out s.start ≡ 0 = omega (arith, same) in
    let size : length (frame_of_rtr s rtr) ≡ length (frame_octets (sending s.start) 0 octets) = ap (λ n. length (frame_octets (sending s.start) n octets)) place in
    omega (arith, size, length_written (sending s.start) 0 octets, end_low (sending s.start) 0 (length octets) (frames_follow.first (sending s.start).markers))

rtr_place : (s : StreamState) (rtr : Rtr) → rtr_due s ≡ Some rtr → s.sent ≡ first_place_out s.start
rtr_place s rtr is = here (nat_eq s.sent (first_place_out s.start)) refl is
  where
    here : (b : Bool) → nat_eq s.sent (first_place_out s.start) ≡ b → cond b (rtr_in s.start) None ≡ Some rtr → s.sent ≡ first_place_out s.start
    here true e h = grind (arith, nat_tests)
    here false e h = absurd (none-some _ h)

lowers : (table : Table) (s : StreamState) → IsWithin s → is_none_due (due s) ≡ false → Lowers s (after_emit table s)
lowers table s w some = go (owes_frame s) refl (last_word s.ending) refl (is_mute s) refl (rtr_due s) refl (response_due s) refl (part_due s) refl some
  where
    running : is_mute s ≡ false → ended s ≡ false
    running mute = or_false (ended s) (not (is_open s.start) || keeps_silent s) mute

    low : owes_frame s ≡ false → is_mute s ≡ false → first_place_out s.start ≤ s.sent
    low owes mute = went_out s owes (unbroken s.ending (running mute))

    fetched : (part : ResponsePart) → owes_frame s ≡ false → is_mute s ≡ false → response_due s ≡ Some part → (r : Result (List ℕ) Fault) → Lowers s (left_fetched s part r)
    fetched part owes mute is (Ok frame) =
        moves_less s (record s { asked = part_fetched s.asked (Some part); sent = s.sent + length frame }) (length frame) owes (low owes mute) refl refl refl
        (omega (arith, answer_less s.asked s.mulpdu part w.enough w.asked.begun (answer_goes s part is)))
    fetched part owes mute is (Err fault) = fault_less s (terminate_fetched s.asked fault) owes (low owes mute) (running mute)

    go : (owes : Bool) → owes_frame s ≡ owes → (word : Option (List ℕ)) → last_word s.ending ≡ word → (mute : Bool) → is_mute s ≡ mute → (y : Option Rtr) → rtr_due s ≡ y → (r : Option ResponsePart) → response_due s ≡ r
        → (o : Option (Part (Request (List ℕ)))) → part_due s ≡ o
        → is_none_due (cond owes StartUp (option_map_or LastWord word (cond mute NoneDue (option_map_or Ready y (option_map_or Response r (option_map_or NextPart o NoneDue)))))) ≡ false
        → Lowers s (left_due table s (cond owes StartUp (option_map_or LastWord word (cond mute NoneDue (option_map_or Ready y (option_map_or Response r (option_map_or NextPart o NoneDue)))))))
    go true a word b mute c y d r e o f some = start_less s a
    go false a (Some payload) b mute c y d r e o f some = last_less s payload (length (frame_of_terminate s payload)) a b
    go false a None b true c y d r e o f some = absurd (true≢false some)
    go false a None b false c (Some rtr) d r e o f some =
        ready_less s rtr (left_due table s (Ready rtr)) (length (frame_of_rtr s rtr)) a d (rtr_frame s rtr (rtr_place s rtr d)) refl refl refl refl refl
    go false a None b false c None d (Some part) e o f some = fetched part a c e (frame_fetched table s part)
    go false a None b false c None d None e (Some part) f some =
        moves_less s (left_due table s (NextPart part)) (length (frame_of_part s part)) a (low a c) refl refl refl
        (omega (arith, post_less s.queue s.mulpdu part w.enough w.queue.begun (part_goes (most_reads_in s.start) s (next_part s.queue s.mulpdu) part f)))
    go false a None b false c None d None e None f some = absurd (true≢false some)

-- ---- the bound

posts_few : (messages : List (Request (List ℕ))) → All (λ m. size_of m ≤ 16777216) messages → frames_of_posts messages ≤ length messages * 16777217
posts_few [] h = omega arith
posts_few (m ∷ ms) h =
    let rest = posts_few ms (All-tail (λ m. size_of m ≤ 16777216) m ms h) in
    omega (arith, rest, payload_few m, All-head (λ m. size_of m ≤ 16777216) m ms h)
  where
    payload_few : (m : Request (List ℕ)) → length (payload m) ≤ size_of m
    payload_few (Message (Write stag to octets)) = omega arith
    payload_few (Message (Send octets solicited invalidate)) = omega arith
    payload_few (Read request) = omega arith

pub emit_rests : EmitComesToRest
emit_rests table s w some = record {
  fewer = lowers table s w some;
  most = omega (arith, posts_few s.queue.unsent w.queue.sizes, w.queue.posted, few (is_some (rtr_due s)), two_few (owes_frame s), few (is_some (last_word s.ending)), other_few (ended s));
}
  where
    two_few : (b : Bool) → two_if b ≤ 2
    two_few true = omega arith
    two_few false = omega arith

    other_few : (b : Bool) → two_unless b ≤ 2
    other_few true = omega arith
    other_few false = omega arith

pub known_frames : KnownFrames
unfolding frame_octets segment_octets untagged_octets place_after data_place data_index
known_frames = record { before = refl; after = λ table. refl }

pub refuses_sent_again : RefusesSentAgain
refuses_sent_again h = omega (arith, h.fewer)
