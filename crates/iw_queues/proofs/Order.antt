-- Messages are handed out in the order in which they were posted.
use Rattle.std.proofs.Common.{◌≡◌, ℕ, ◌-◌, zero, suc, List, [], ◌∷◌, ◌++◌, length, min, nat_le, Bool, true, false, refl, sym, ap, ◌∙◌, append_assoc, cond, map, Some, None}
use Rattle.std.specs.List.{slice_get, slice_set}
use Rattle.std.proofs.lemmas.List.{map-append}
use Rattle.iw_queues.specs.declared.request.Kind.{Kind}
use Rattle.iw_queues.specs.declared.request.Request.{Request}
use Rattle.iw_queues.specs.declared.completions.Sent.{Sent}
use Rattle.iw_queues.specs.declared.completions.Done.{Done}
use Rattle.iw_queues.specs.Completions.{Outstanding, next_ticket, place_of, done_from}
use Rattle.iw_queues.specs.Request.{kind_of, payload, header_len}
use Rattle.iw_queues.specs.Queue.{Queue, posted, next_part, part_sent, oldest_among}
use Rattle.iw_queues.specs.Laws.{kinds_in, IsHandedOut, KeepsOrder}

part_moves : (xs : List Sent) (x : Sent) (ks : List Kind) → map (λ m. m.kind) (xs ++ x ∷ []) ++ ks ≡ map (λ m. m.kind) xs ++ x.kind ∷ ks
part_moves [] x ks = refl
part_moves (y ∷ ys) x ks = ap (λ z. y.kind ∷ z) (part_moves ys x ks)

kinds_stay : (xs : List Sent) (i : ℕ) (x y : Sent) → slice_get xs i ≡ Some x → x.kind ≡ y.kind → map (λ m. m.kind) (slice_set xs i y) ≡ map (λ m. m.kind) xs
kinds_stay [] i x y e same = refl
kinds_stay (z ∷ xs) zero x y e same = let is : z ≡ x = cc in ap (λ k. k ∷ map (λ m. m.kind) xs) (sym same ∙ sym (ap (λ m. m.kind) is))
kinds_stay (z ∷ xs) (suc i) x y e same = ap (λ k. z.kind ∷ k) (kinds_stay xs i x y e same)

posted_order : (q : Queue) (message : Request (List ℕ)) → kinds_in (posted q message) ≡ kinds_in q ++ kind_of message ∷ []
posted_order q message = ap (λ z. map (λ m. m.kind) q.sent.messages ++ z) (map-append kind_of q.unsent (message ∷ [])) ∙ sym (append_assoc (map (λ m. m.kind) q.sent.messages) (map kind_of q.unsent) (kind_of message ∷ []))

sent_order : (sent : Outstanding) (unsent : List (Request (List ℕ))) (offset max : ℕ)
    → kinds_in (part_sent (record { sent = sent; unsent = unsent; offset = offset }) (next_part (record { sent = sent; unsent = unsent; offset = offset }) max)) ≡ map (λ m. m.kind) sent.messages ++ map kind_of unsent
sent_order sent [] offset max = refl
sent_order sent (message ∷ messages) offset max = go (nat_le (length (payload message) - offset) (max - header_len message))
  where
    go : (b : Bool) → kinds_in (part_sent (record { sent = sent; unsent = message ∷ messages; offset = offset })
        (Some (record { ticket = next_ticket sent; message = message; offset = offset; n = min (length (payload message) - offset) (max - header_len message); last = b })))
        ≡ map (λ m. m.kind) sent.messages ++ kind_of message ∷ map kind_of messages
    go true = part_moves sent.messages _ (map kind_of messages)
    go false = refl

done_order : (first : ℕ) (messages : List Sent) (unsent : List (Request (List ℕ))) (offset : ℕ) (d : Done) → done_from first messages ≡ Some d
    → IsHandedOut (record { sent = record { first = first; messages = messages }; unsent = unsent; offset = offset }) d
done_order first [] unsent offset d e = cc
done_order first (m ∷ ms) unsent offset d e = go m.finished e
  where
    go : (b : Bool) → cond b (Some (record { ticket = first; kind = m.kind })) None ≡ Some d → IsHandedOut (record { sent = record { first = first; messages = m ∷ ms }; unsent = unsent; offset = offset }) d
    go false e = cc
    go true e = let is : record { ticket = first; kind = m.kind } ≡ d = cc in
        record { kind = ap (λ z. z.kind ∷ (map (λ m. m.kind) ms ++ map kind_of unsent)) is; ticket = sym (ap (λ z. z.ticket) is); next = refl }

given_up_order : (first : ℕ) (messages : List Sent) (unsent : List (Request (List ℕ))) (offset : ℕ) (d : Done) → oldest_among first messages unsent ≡ Some d
    → IsHandedOut (record { sent = record { first = first; messages = messages }; unsent = unsent; offset = offset }) d
given_up_order first [] [] offset d e = cc
given_up_order first [] (message ∷ messages) offset d e =
    let is : record { ticket = first; kind = kind_of message } ≡ d = cc in
    record { kind = ap (λ z. z.kind ∷ map kind_of messages) is; ticket = sym (ap (λ z. z.ticket) is); next = refl }
given_up_order first (m ∷ ms) unsent offset d e =
    let is : record { ticket = first; kind = m.kind } ≡ d = cc in
    record { kind = ap (λ z. z.kind ∷ (map (λ m. m.kind) ms ++ map kind_of unsent)) is; ticket = sym (ap (λ z. z.ticket) is); next = refl }

pub keeps_order : KeepsOrder
keeps_order = record {
  posted = posted_order;
  sent = λ q max. sent_order q.sent q.unsent q.offset max;
  finished = λ q ticket h. ap (λ z. z ++ map kind_of q.unsent) (kinds_stay q.sent.messages (place_of q.sent ticket) _ _ h refl);
  done = λ q d e. done_order q.sent.first q.sent.messages q.unsent q.offset d e;
  given_up = λ q d e. given_up_order q.sent.first q.sent.messages q.unsent q.offset d e;
}
