-- A stream may be closed exactly where its acts say that it has ended, holds nothing, and has no last word to send.
use Rattle.std.proofs.Common.{◌≡◌, ℕ, ◌+◌, List, [], ◌∷◌, ◌++◌, length, map, Option, Some, None, Bool, true, false, cond, refl, sym, ap, ◌∙◌, arith, length-append}
use Rattle.std.specs.Prelude.{not, ◌&&◌, ◌||◌, nat_lt, is_some}
use Rattle.std.specs.Option.{option_map_or}
use Rattle.std.proofs.lemmas.Bool.Decides.{nat_tests}
use Rattle.std.proofs.lemmas.List.{length-map}
use Rattle.iw_queues.specs.declared.request.Request.{Request}
use Rattle.iw_queues.specs.declared.completions.Done.{Done}
use Rattle.iw_queues.specs.declared.completions.Sent.{Sent as WasSent}
use Rattle.iw_queues.specs.Completions.{done_from}
use Rattle.iw_queues.specs.Queue.{Queue, done_in, oldest_in, oldest_among}
use Rattle.iw_queues.specs.Request.{kind_of}
use Rattle.iw_untagged.specs.Receiving.{Source, Posted, Pooled, Receiving, first_buffer, seeing}
use Rattle.iw_stream.specs.Ending.{is_broken, last_word}
use Rattle.iw_stream.specs.Starting.{own_frame, is_open, awaits_frame}
use Rattle.iw_stream.specs.Stream.{StreamState, ended, sees, owes_frame, keeps_silent, rtr_due, message_due, Due, StartUp, LastWord, Ready, NoneDue, due, is_none_due}
use Rattle.iw_stream.specs.Work.{Task, HandOut, GiveUp, GiveBack, Hear, Rest, task, frame_task, handing_back, is_rest, is_at_rest}
use Rattle.iw_endpoint.specs.Endpoint.{Pool, lent_to, rest_refusal}
use Rattle.iw_events.specs.declared.act.Act.{Act}
use Rattle.iw_laws.specs.Words.{Octets, opening_of, stream_acts, posted, handed_kinds, sent, ended as has_ended_by}
use Rattle.iw_laws.specs.Turns.{Story, story_of}
use Rattle.iw_laws.specs.Ends.{holds_posted, has_last_word, closing_refusal}
use Rattle.iw_laws.proofs.States.{Connected}
use Rattle.iw_laws.proofs.Pools.{tale_seen as tale}
use Rattle.iw_laws.proofs.Owned.{Own}
use Rattle.iw_laws.proofs.Messages.{start_frame_is}
use Rattle.iw_laws.proofs.Releases.{IsLeft, left_apart}
use Rattle.iw_laws.proofs.Renumbered.{under}

-- ---- at rest

-- what is done at a stream that has ended, and what goes out of it
abbrev task_over : StreamState → Task
task_over s = option_map_or HandOut (done_in s.queue) (handing_back s)

abbrev due_over : StreamState → Due
due_over s = cond (owes_frame s) StartUp (option_map_or LastWord (last_word s.ending) NoneDue)

at_rest_is : (s : StreamState) → is_at_rest s ≡ (ended s && (is_rest (task_over s) && is_none_due (due_over s)))
at_rest_is s = go (ended s) refl
  where
    rest : ended s ≡ true → is_rest (task s) ≡ is_rest (task_over s)
    rest e = ap (λ b. is_rest (option_map_or HandOut (done_in s.queue) (cond b (handing_back s) (cond (awaits_frame s.start) Hear (cond (not (is_open s.start)) Rest (frame_task s)))))) e

    none : ended s ≡ true → is_none_due (due s) ≡ is_none_due (due_over s)
    none e = ap (λ b. is_none_due (cond (owes_frame s) StartUp (option_map_or LastWord (last_word s.ending) (cond (b || (not (is_open s.start) || keeps_silent s)) NoneDue (option_map_or Ready (rtr_due s) (message_due s)))))) e

    go : (b : Bool) → ended s ≡ b → is_at_rest s ≡ (ended s && (is_rest (task_over s) && is_none_due (due_over s)))
    go true e = λ i. ended s && (rest e i && none e i)
    go false e =
        ap (λ b. b && (is_rest (task s) && is_none_due (due s))) e ∙ sym (ap (λ b. b && (is_rest (task_over s) && is_none_due (due_over s))) e)

-- whatever came, whatever its number is, and whichever pool is lent to it
rest_apart : (s : StreamState) (w : StreamState) → record s { arrived = w.arrived; early = w.early; front = w.front } ≡ w → is_at_rest s ≡ is_at_rest w
rest_apart s w same = at_rest_is s ∙ sym (at_rest_is (record s { arrived = w.arrived; early = w.early; front = w.front })) ∙ ap is_at_rest same

pub rest_under : (number : Option ℕ) (s : StreamState) → rest_refusal (under number s) ≡ rest_refusal s
rest_under number s = ap (λ b. cond b None (Some (record {}))) (at_rest_is (under number s) ∙ sym (at_rest_is s))

first_seen : (x : Source) (pool : List (List ℕ)) → first_buffer (seeing x pool) ≡ first_buffer x
first_seen (Posted buffers) pool = refl
first_seen (Pooled places held) pool = refl

pub rest_lent : (o : Option Pool) (s : StreamState) → rest_refusal (lent_to o s) ≡ rest_refusal s
rest_lent None s = refl
rest_lent (Some pool) s =
    ap (λ b. cond b None (Some (record {})))
    (at_rest_is (sees s pool)
    ∙ ap (λ z. ended s && (is_rest (option_map_or HandOut (done_in s.queue) (option_map_or GiveUp (oldest_in s.queue) (option_map_or GiveBack z Rest))) && is_none_due (due_over s))) (first_seen s.receiving.source pool)
    ∙ sym (at_rest_is s))

pub rest_left : (s w : StreamState) → IsLeft s w → rest_refusal s ≡ rest_refusal w
rest_left s w left = ap (λ b. cond b None (Some (record {}))) (rest_apart s w (left_apart left))

-- ---- by what was done

-- of a stream that has ended, with so many messages that were not handed back
rests : (first k n : ℕ) (sent : List WasSent) (unsent : List (Request Octets)) (buffer : Option Octets) → n ≡ k + (length sent + length unsent)
    → is_rest (option_map_or HandOut (done_from first sent) (option_map_or GiveUp (oldest_among first sent unsent) (option_map_or GiveBack buffer Rest))) ≡ not (nat_lt k n || is_some buffer)
rests first k n [] [] buffer many = go buffer ∙ ap (λ b. not (b || is_some buffer)) none
  where
    none : false ≡ nat_lt k n
    none = grind (arith, nat_tests, many)

    go : (o : Option Octets) → is_rest (option_map_or GiveBack o Rest) ≡ not (is_some o)
    go None = refl
    go (Some b) = refl
rests first k n [] (m ∷ unsent) buffer many = ap (λ b. not (b || is_some buffer)) some
  where
    some : true ≡ nat_lt k n
    some = grind (arith, nat_tests, many)
rests first k n (m ∷ sent) unsent buffer many = go (done_from first (m ∷ sent)) ∙ ap (λ b. not (b || is_some buffer)) some
  where
    some : true ≡ nat_lt k n
    some = grind (arith, nat_tests, many)

    go : (o : Option Done) → is_rest (option_map_or HandOut o (GiveUp (record { ticket = first; kind = m.kind }))) ≡ false
    go None = refl
    go (Some d) = refl

speaks : (owes : Bool) (word : Option Octets) → is_none_due (cond owes StartUp (option_map_or LastWord word NoneDue)) ≡ not (owes || is_some word)
speaks true word = refl
speaks false None = refl
speaks false (Some payload) = refl

both_none : (over holds word : Bool) → (over && (not holds && not word)) ≡ (over && not (holds || word))
both_none true true word = refl
both_none true false word = refl
both_none false holds word = refl

pub closing_told : (n : ℕ) (done : List (Act Octets)) (c : Connected) → Own (opening_of n done) c (tale n done) → rest_refusal c.stream ≡ closing_refusal (story_of n done) (stream_acts n done)
closing_told n done c own =
    ap (λ b. cond b None (Some (record {})))
    (at_rest_is c.stream ∙ (λ i. own.ended i && (held i && words i)) ∙ both_none (has_ended_by (stream_acts n done)) (holds_posted t (stream_acts n done)) (has_last_word t (sent (stream_acts n done))))
  where
    t : Story
    t = story_of n done

    q : Queue
    q = c.stream.queue

    many : length (posted (stream_acts n done)) ≡ length (handed_kinds (stream_acts n done)) + (length q.sent.messages + length q.unsent)
    many =
        sym (length-map (posted (stream_acts n done)) kind_of) ∙ ap length own.emits.handing.order ∙ length-append (handed_kinds (stream_acts n done)) _
        ∙ ap (λ k. length (handed_kinds (stream_acts n done)) + k) (length-append (map (λ (w : WasSent). w.kind) q.sent.messages) (map kind_of q.unsent) ∙ (λ i. length-map q.sent.messages (λ (w : WasSent). w.kind) i + length-map q.unsent kind_of i))

    held : is_rest (task_over c.stream) ≡ not (holds_posted t (stream_acts n done))
    held =
        rests q.sent.first (length (handed_kinds (stream_acts n done))) (length (posted (stream_acts n done))) q.sent.messages q.unsent (first_buffer c.stream.receiving.source) many
        ∙ ap (λ (r : Receiving). not (nat_lt (length (handed_kinds (stream_acts n done))) (length (posted (stream_acts n done))) || is_some (first_buffer r.source))) (sym own.track.receiving)

    owes : owes_frame c.stream ≡ (not (is_broken t.ending) && nat_lt (length (sent (stream_acts n done))) (length (own_frame t.start)))
    owes = λ i. not (is_broken (sym own.emits.parts.ending i)) && nat_lt (own.sent i) (length (sym (start_frame_is c.stream (tale n done) own.track) i))

    words : is_none_due (due_over c.stream) ≡ not (has_last_word t (sent (stream_acts n done)))
    words = speaks (owes_frame c.stream) (last_word c.stream.ending) ∙ (λ i. not (owes i || is_some (last_word (sym own.emits.parts.ending i))))
