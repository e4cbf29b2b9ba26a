-- The limits of a queue, call by call.
use Rattle.std.proofs.Common.{◌≡◌, ℕ, ◌+◌, ◌-◌, ◌%◌, ◌^◌, ◌<◌, ◌≤◌, Bool, true, false, cond, List, [], ◌∷◌, ◌++◌, length, drop, Option, Some, None, refl, sym, ap, ◌∙◌, subst, inl, inr, arith}
use Rattle.std.specs.Prelude.{All, min, nat_le, nat_lt, slice_get}
use Rattle.std.specs.Option.{option_map}
use Rattle.std.proofs.lemmas.Bool.{cases_lt}
use Rattle.std.proofs.lemmas.Bool.Decides.{nat_tests}
use Rattle.std.proofs.lemmas.List.{length_push, length-drop}
use Rattle.std.proofs.lemmas.List.Elements.{All-push, All-head, All-drop}
use Rattle.std.proofs.lemmas.Option.{none-some, same_Some}
use Rattle.iw_octets.specs.declared.message.Message.TheVariants.{Write, Send}
use Rattle.iw_queues.specs.declared.request.Request.{Request}
use Rattle.iw_queues.specs.declared.request.Request.TheVariants.{Message, Read}
use Rattle.iw_queues.specs.declared.request.Kind.{Kind}
use Rattle.iw_queues.specs.declared.request.Refusal.TheVariants.{Full, TooLong}
use Rattle.iw_queues.specs.declared.completions.Sent.{Sent}
use Rattle.iw_queues.specs.declared.completions.Done.{Done}
use Rattle.iw_queues.specs.declared.send_queue.Part.{Part}
use Rattle.iw_queues.specs.Request.{kind_of, payload, size_of, header_len}
use Rattle.iw_queues.specs.Completions.{is_finished_when_sent, added, next_ticket, done_from}
use Rattle.iw_queues.specs.Queue.{Queue, nothing_posted, post_refusal, posted, next_part, part_of_first, part_from, part_sent, IsNext, done_in, handed_from, past_oldest, IsBegun, IsWithinLimits}

pub limits_start : IsWithinLimits nothing_posted
limits_start = record { posted = omega arith; sizes = λ k d h. absurd (omega (arith, h)); begun = refl }

-- a message that is not refused
record Fits (q : Queue) (message : Request (List ℕ)) : Type 0 where
  pub room : length q.sent.messages + length q.unsent < 256
  pub size : size_of message ≤ 16777216

fits : (q : Queue) (message : Request (List ℕ)) → post_refusal q message ≡ None → Fits q message
fits q message e = go (nat_le 256 (length q.sent.messages + length q.unsent)) (nat_lt 16777216 (size_of message)) refl refl e
  where
    go : (full long : Bool) → nat_le 256 (length q.sent.messages + length q.unsent) ≡ full → nat_lt 16777216 (size_of message) ≡ long
        → cond full (Some Full) (cond long (Some TooLong) None) ≡ None → Fits q message
    go true long f l h = absurd (none-some _ (sym h))
    go false true f l h = absurd (none-some _ (sym h))
    go false false f l h = record { room = grind (arith, nat_tests); size = grind (arith, nat_tests) }

still_begun : (messages : List (Request (List ℕ))) (message : Request (List ℕ)) (offset : ℕ) → IsBegun messages offset → IsBegun (messages ++ message ∷ []) offset
still_begun [] message offset h = λ some. absurd (omega (arith, some, h))
still_begun (first ∷ messages) message offset h = h

pub limits_posted : (q : Queue) (message : Request (List ℕ)) → post_refusal q message ≡ None → IsWithinLimits q → IsWithinLimits (posted q message)
limits_posted q message e l =
    let f = fits q message e in
    record {
      posted = omega (arith, f.room, length_push q.unsent message);
      sizes = All-push (λ m. size_of m ≤ 16777216) q.unsent message l.sizes f.size;
      begun = still_begun q.unsent message q.offset l.begun;
    }

not_begun : (messages : List (Request (List ℕ))) → IsBegun messages 0
not_begun [] = refl
not_begun (message ∷ messages) = λ some. absurd (omega (arith, some))

-- the first message was sent to its end
pub limits_ended : (q : Queue) (kind : Kind) → 0 < length q.unsent → IsWithinLimits q → IsWithinLimits (record { sent = added q.sent kind; unsent = drop 1 q.unsent; offset = 0 })
limits_ended q kind some l = record {
  posted = omega (arith, l.posted, some, length_push q.sent.messages (record { kind = kind; finished = is_finished_when_sent kind }), length-drop 1 q.unsent);
  sizes = All-drop (λ m. size_of m ≤ 16777216) 1 q.unsent l.sizes;
  begun = not_begun (drop 1 q.unsent);
}

-- a message that was there
pub some_first : (messages : List (Request (List ℕ))) (kind : Kind) → Some kind ≡ option_map kind_of (slice_get messages 0) → 0 < length messages
some_first [] kind e = absurd (none-some _ (sym e))
some_first (message ∷ messages) kind e = omega arith

-- the part that is next lies in its message, whose octets are few
pub next_small : (q : Queue) (n : ℕ) (last : Bool) → IsNext q n last → IsWithinLimits q → q.offset + n ≤ 16777216
next_small q n last next l = go q.unsent q.offset next.shown l.sizes l.begun
  where
    small : (message : Request (List ℕ)) → length (payload message) ≤ size_of message
    small (Message (Write stag to octets)) = omega arith
    small (Message (Send octets solicited invalidate)) = omega arith
    small (Read request) = omega arith

    go : (messages : List (Request (List ℕ))) (offset : ℕ) → part_of_first (next_ticket q.sent) messages offset next.max ≡ Some next.part
        → All (λ m. size_of m ≤ 16777216) messages → IsBegun messages offset → offset + n ≤ 16777216
    go [] offset e sizes begun = absurd (none-some _ e)
    go (message ∷ messages) offset e sizes begun =
        let octets : min (length (payload message) - offset) (next.max - header_len message) ≡ n = ap (λ p. p.n) (same_Some _ _ e) ∙ next.octets in
        let few : length (payload message) ≤ 16777216 = omega (arith, small message, All-head (λ m. size_of m ≤ 16777216) message messages sizes) in
        elim (cases_lt 0 offset) [ inl some ↦ omega (arith, octets, few, begun some) | inr none ↦ omega (arith, octets, few, none) ]

-- a part was sent of the first message
first_sent : (q : Queue) (ticket max : ℕ) (message : Request (List ℕ)) (messages : List (Request (List ℕ))) → q.unsent ≡ message ∷ messages → IsWithinLimits q
    → IsWithinLimits (part_sent q (Some (part_from ticket message q.offset max)))
first_sent q ticket max message messages is l = go (nat_le (length (payload message) - q.offset) (max - header_len message)) refl
  where
    go : (last : Bool) → nat_le (length (payload message) - q.offset) (max - header_len message) ≡ last
        → IsWithinLimits (cond last (record { sent = added q.sent (kind_of message); unsent = drop 1 q.unsent; offset = 0 }) (record q { offset = q.offset + min (length (payload message) - q.offset) (max - header_len message) }))
    go true e = limits_ended q (kind_of message) (omega (arith, ap length is)) l
    go false e =
        let far : max - header_len message < length (payload message) - q.offset = grind (arith, nat_tests) in
        record { posted = l.posted; sizes = l.sizes; begun = subst (λ ms. IsBegun ms (q.offset + min (length (payload message) - q.offset) (max - header_len message))) (sym is) (λ some. omega (arith, far)) }

pub limits_sent : (q : Queue) (max : ℕ) (part : Part (Request (List ℕ))) → next_part q max ≡ Some part → IsWithinLimits q → IsWithinLimits (part_sent q (Some part))
limits_sent q max part e l = go q.unsent refl e
  where
    go : (messages : List (Request (List ℕ))) → q.unsent ≡ messages → part_of_first (next_ticket q.sent) messages q.offset max ≡ Some part → IsWithinLimits (part_sent q (Some part))
    go [] is h = absurd (none-some _ h)
    go (message ∷ messages) is h =
        let same : part_from (next_ticket q.sent) message q.offset max ≡ part = same_Some _ _ h in
        subst (λ p. IsWithinLimits (part_sent q (Some p))) same (first_sent q (next_ticket q.sent) max message messages is l)

pub limits_handed : (q : Queue) → IsWithinLimits q → IsWithinLimits (handed_from q (done_in q))
limits_handed q l = go (done_in q) q.sent.messages refl refl
  where
    go : (done : Option Done) (messages : List Sent) → done_from q.sent.first messages ≡ done → q.sent.messages ≡ messages → IsWithinLimits (handed_from q done)
    go None messages d is = l
    go (Some done) [] d is = absurd (none-some _ d)
    go (Some done) (m ∷ ms) d is =
        subst (λ z. IsWithinLimits (past_oldest ((q.sent.first + 1) % 2 ^ 64) z q.unsent q.offset)) (sym is)
        (record { posted = omega (arith, l.posted, ap length is); sizes = l.sizes; begun = l.begun })
