-- A Read is awaited until it is finished or handed out.
use Rattle.std.proofs.Common.{◌≡◌, ◌≢◌, ℕ, ◌+◌, ◌-◌, ◌%◌, ◌^◌, ◌<◌, ◌≤◌, zero, suc, List, [], ◌∷◌, ◌++◌, length, Bool, true, false, refl, sym, ap, ◌∙◌, subst, arith, leb, cond, Option, Some, None}
use Rattle.std.specs.List.{slice_get, slice_set}
use Rattle.std.proofs.lemmas.Bool.{le-leb}
use Rattle.iw_octets.specs.declared.message.Message.TheVariants.{Write, Send}
use Rattle.iw_queues.specs.declared.request.Kind.TheVariants as kinds
use Rattle.iw_queues.specs.declared.request.Request.{Request}
use Rattle.iw_queues.specs.declared.request.Request.TheVariants.{Message, Read}
use Rattle.iw_queues.specs.declared.completions.Sent.{Sent}
use Rattle.iw_queues.specs.declared.send_queue.Part.{Part}
use Rattle.iw_queues.specs.Completions.{Outstanding, next_ticket, added, place_of, IsAwaited, finished, done_from}
use Rattle.iw_queues.specs.Request.{kind_of}
use Rattle.iw_queues.specs.Queue.{Queue, part_from, next_part, part_sent, handed_from, oldest_among}
use Rattle.iw_queues.specs.Laws.{AwaitsReads}

abbrev awaited : Sent
awaited = record { kind = kinds.Read; finished = false }

-- ---- lists
get_past : (xs : List Sent) (x : Sent) → slice_get (xs ++ x ∷ []) (length xs) ≡ Some x
get_past [] x = refl
get_past (y ∷ ys) x = get_past ys x

get_before : (xs ys : List Sent) (i : ℕ) (x : Sent) → slice_get xs i ≡ Some x → slice_get (xs ++ ys) i ≡ Some x
get_before [] ys i x e = cc
get_before (y ∷ xs) ys zero x e = e
get_before (y ∷ xs) ys (suc i) x e = get_before xs ys i x e

get_beside : (xs : List Sent) (i j : ℕ) (x y : Sent) → i ≢ j → slice_get xs i ≡ Some x → slice_get (slice_set xs j y) i ≡ Some x
get_beside [] i j x y apart e = cc
get_beside (z ∷ xs) zero zero x y apart e = absurd (apart refl)
get_beside (z ∷ xs) zero (suc j) x y apart e = e
get_beside (z ∷ xs) (suc i) zero x y apart e = e
get_beside (z ∷ xs) (suc i) (suc j) x y apart e = get_beside xs i j x y (λ same. apart (ap suc same)) e

-- ---- sending
added_awaits : (c : Outstanding) → length c.messages ≤ 256 → c.first < 2 ^ 64 → IsAwaited (added c kinds.Read) (next_ticket c)
added_awaits c few first =
    let at : length c.messages ≡ place_of c (next_ticket c) = omega arith in
    subst (λ i. slice_get (c.messages ++ awaited ∷ []) i ≡ Some awaited) at (get_past c.messages awaited)

sent_read : (sent : Outstanding) (unsent : List (Request (List ℕ))) (offset max : ℕ) (part : Part (Request (List ℕ))) → length sent.messages ≤ 256 → sent.first < 2 ^ 64
    → next_part (record { sent = sent; unsent = unsent; offset = offset }) max ≡ Some part → kind_of part.message ≡ kinds.Read
    → IsAwaited (part_sent (record { sent = sent; unsent = unsent; offset = offset }) (Some part)).sent part.ticket
sent_read sent [] offset max part few first e is = cc
sent_read sent (message ∷ messages) offset max part few first e is =
    let same : part_from (next_ticket sent) message offset max ≡ part = cc in
    subst (λ p. IsAwaited (part_sent (record { sent = sent; unsent = message ∷ messages; offset = offset }) (Some p)).sent p.ticket) same
    (go message (ap (λ p. kind_of p.message) same ∙ is))
  where
    go : (m : Request (List ℕ)) → kind_of m ≡ kinds.Read
        → IsAwaited (part_sent (record { sent = sent; unsent = m ∷ messages; offset = offset }) (Some (part_from (next_ticket sent) m offset max))).sent (next_ticket sent)
    go (Message (Write stag to octets)) k = cc
    go (Message (Send octets solicited invalidate)) k = cc
    go (Read request) k =
        let last : leb (0 - offset) (max - 18) ≡ true = le-leb (0 - offset) (max - 18) (omega arith) in
        rw last (added_awaits sent few first)

others_sent : (q : Queue) (ticket : ℕ) (part : Option (Part (Request (List ℕ)))) → IsAwaited q.sent ticket → IsAwaited (part_sent q part).sent ticket
others_sent q ticket None h = h
others_sent q ticket (Some part) h = go part.last
  where
    go : (b : Bool) → IsAwaited (part_sent q (Some (record part { last = b }))).sent ticket
    go true = get_before q.sent.messages _ (place_of q.sent ticket) awaited h
    go false = h

-- ---- finishing and handing out
others_finished : (c : Outstanding) (ticket other : ℕ) → c.first < 2 ^ 64 → ticket < 2 ^ 64 → other < 2 ^ 64 → ticket ≢ other → IsAwaited c ticket → IsAwaited (finished c other) ticket
others_finished c ticket other first small small' apart h =
    get_beside c.messages (place_of c ticket) (place_of c other) awaited _ (λ same. apart (omega arith)) h

place_past : (first ticket p : ℕ) → first < 2 ^ 64 → ticket < 2 ^ 64 → (ticket + (2 ^ 64 - first)) % 2 ^ 64 ≡ suc p → (ticket + (2 ^ 64 - (first + 1) % 2 ^ 64)) % 2 ^ 64 ≡ p
place_past first ticket p f t e = omega arith

handed : (q : Queue) (first : ℕ) (messages : List Sent) (ticket : ℕ) → first < 2 ^ 64 → ticket < 2 ^ 64 → (p : ℕ) → (ticket + (2 ^ 64 - first)) % 2 ^ 64 ≡ p → slice_get messages p ≡ Some awaited
    → IsAwaited (handed_from (record q { sent = record { first = first; messages = messages } }) (done_from first messages)).sent ticket
handed q first [] ticket f t p at h = cc
handed q first (m ∷ ms) ticket f t p at h = go m.finished refl p at h
  where
    go : (b : Bool) → m.finished ≡ b → (p : ℕ) → (ticket + (2 ^ 64 - first)) % 2 ^ 64 ≡ p → slice_get (m ∷ ms) p ≡ Some awaited
        → IsAwaited (handed_from (record q { sent = record { first = first; messages = m ∷ ms } }) (cond b (Some (record { ticket = first; kind = m.kind })) None)).sent ticket
    go false e p at h = subst (λ i. slice_get (m ∷ ms) i ≡ Some awaited) (sym at) h
    go true e zero at h =
        let same : m ≡ awaited = cc in
        let open_still : m.finished ≡ false = ap (λ s. s.finished) same in
        cc
    go true e (suc p) at h = subst (λ i. slice_get ms i ≡ Some awaited) (sym (place_past first ticket p f t at)) h

given_up : (q : Queue) (first : ℕ) (messages : List Sent) (ticket : ℕ) → first < 2 ^ 64 → ticket < 2 ^ 64 → ticket ≢ first → (p : ℕ) → (ticket + (2 ^ 64 - first)) % 2 ^ 64 ≡ p → slice_get messages p ≡ Some awaited
    → IsAwaited (handed_from (record q { sent = record { first = first; messages = messages } }) (oldest_among first messages q.unsent)).sent ticket
given_up q first [] ticket f t apart p at h = cc
given_up q first (m ∷ ms) ticket f t apart zero at h = absurd (apart (omega (arith, at)))
given_up q first (m ∷ ms) ticket f t apart (suc p) at h = subst (λ i. slice_get ms i ≡ Some awaited) (sym (place_past first ticket p f t at)) h

pub awaits : AwaitsReads
awaits = record {
  sent = λ q max part limits first e is. sent_read q.sent q.unsent q.offset max part (omega (arith, limits.posted)) first e is;
  others_sent = λ q max ticket h. others_sent q ticket (next_part q max) h;
  others_finished = others_finished;
  handed_out = λ q ticket first small h. handed q q.sent.first q.sent.messages ticket first small (place_of q.sent ticket) refl h;
  others_given_up = λ q ticket first small apart h. given_up q q.sent.first q.sent.messages ticket first small apart (place_of q.sent ticket) refl h;
}
