-- What a queue sends part by part is the beginning of segments that carry the posted messages.
use Rattle.std.proofs.Common.{◌≡◌, ℕ, ◌+◌, ◌-◌, ◌<◌, ◌≤◌, ◌⊎◌, inl, inr, zero, suc, List, [], ◌∷◌, ◌++◌, length, take, drop, min, Bool, true, false, refl, sym, ap, ◌∙◌, subst, arith, append_assoc, cond, leb, lit<, Some, None}
use Rattle.std.proofs.lemmas.List.{append-nil, take-append-drop, drop-drop, take_all, length-drop, length-take-le}
use Rattle.std.proofs.lemmas.Bool.{cases_lt}
use Rattle.std.proofs.lemmas.Bool.Decides.{leb_tells}
use Rattle.iw_octets.specs.declared.message.Message.TheVariants.{Write, Send}
use Rattle.iw_octets.specs.declared.segment.Segment.{Segment}
use Rattle.iw_queues.specs.declared.request.Request.{Request}
use Rattle.iw_queues.specs.declared.request.Request.TheVariants.{Message, Read}
use Rattle.iw_queues.specs.declared.completions.Sent.{Sent}
use Rattle.iw_queues.specs.declared.send_queue.Part.{Part}
use Rattle.iw_queues.specs.Completions.{Outstanding, next_ticket, done_from}
use Rattle.iw_queues.specs.Request.{payload, header_len}
use Rattle.iw_queues.specs.Queue.{Queue, posted, part_from, next_part, part_sent, handed_from, IsBegun, IsWithinLimits}
use Rattle.iw_queues.specs.Segments.{Numbers, first_numbers, numbers_after, numbers_after_all, numbers_beyond, segment_of, write_segment, send_segment, request_segment, IsCut, AreSegments, AreSpelled}
use Rattle.iw_queues.specs.Laws.{HasSent, SendsInOrder}

-- ---- a part in front of the others
-- the part that ends its message
pub last_front : (most n : ℕ) (segment : ℕ → Bool → List ℕ → Segment (List ℕ)) (offset : ℕ) (octets : List ℕ) → length (drop offset octets) ≤ n → length (drop offset octets) ≤ most
    → IsCut most segment offset (drop offset octets) (segment offset true (take n (drop offset octets)) ∷ [])
last_front most n segment offset octets whole fits = (fits, ap (segment offset true) (take_all n (drop offset octets) whole))

-- n octets in front of others
pub joined_cut : (most n : ℕ) (segment : ℕ → Bool → List ℕ → Segment (List ℕ)) (offset : ℕ) (octets : List ℕ) (ss : List (Segment (List ℕ))) → 0 < n → n ≤ most → n < length octets
    → IsCut most segment (offset + n) (drop n octets) ss → IsCut most segment offset octets (segment offset false (take n octets) ∷ ss)
joined_cut most n segment offset octets [] some fits more cut = absurd cut
joined_cut most n segment offset octets (s ∷ ss) some fits more cut =
    let len : length (take n octets) ≡ n = length-take-le n octets (omega arith) in (
      take n octets,
      drop n octets,
      record { cut = sym (take-append-drop n octets); filled = omega arith; fits = omega arith; left = omega (arith, length-drop n octets); is = refl },
      subst (λ k. IsCut most segment (offset + k) (drop n octets) (s ∷ ss)) (sym len) cut,
    )

pub more_front : (most n : ℕ) (segment : ℕ → Bool → List ℕ → Segment (List ℕ)) (offset : ℕ) (octets : List ℕ) (ss : List (Segment (List ℕ))) → 0 < n → n ≤ most → n < length (drop offset octets)
    → IsCut most segment (offset + n) (drop (offset + n) octets) ss → IsCut most segment offset (drop offset octets) (segment offset false (take n (drop offset octets)) ∷ ss)
more_front most n segment offset octets ss some fits more cut =
    joined_cut most n segment offset (drop offset octets) ss some fits more (subst (λ x. IsCut most segment (offset + n) x ss) (sym (drop-drop n offset octets)) cut)

abbrev pub part_with : ℕ → Request (List ℕ) → ℕ → ℕ → Bool → Part (Request (List ℕ))
part_with ticket message offset max last =
    record { ticket = ticket; message = message; offset = offset; n = min (length (payload message) - offset) (max - header_len message); last = last }

-- what goes on behind the part goes on with the part in front of it
abbrev pub GoesOn : Numbers → Outstanding → Request (List ℕ) → List (Request (List ℕ)) → ℕ → Part (Request (List ℕ)) → Type 0
GoesOn numbers sent message messages offset part =
    let q = part_sent (record { sent = sent; unsent = message ∷ messages; offset = offset }) (Some part) in
    (ss : List (Segment (List ℕ))) → AreSpelled (numbers_beyond numbers part) q.offset q.unsent ss → AreSpelled numbers offset (message ∷ messages) (segment_of numbers part ∷ ss)

pub goes_on_with : (numbers : Numbers) (sent : Outstanding) (message : Request (List ℕ)) (messages : List (Request (List ℕ))) (ticket offset max : ℕ) → 128 ≤ max → max ≤ 64512 → (last : Bool)
    → (((last ≡ true) × (length (payload message) - offset ≤ max - header_len message)) ⊎ ((last ≡ false) × (max - header_len message < length (payload message) - offset)))
    → GoesOn numbers sent message messages offset (part_with ticket message offset max last)
goes_on_with numbers sent (Message (Write stag to octets)) messages ticket offset max low high true (inl h) ss rest =
    (_ ∷ [], ss, refl, last_front _ _ (write_segment stag to) offset octets (omega (arith, length-drop offset octets, h.1)) (omega (arith, length-drop offset octets, h.1)), rest)
goes_on_with numbers sent (Message (Send octets solicited invalidate)) messages ticket offset max low high true (inl h) ss rest =
    (_ ∷ [], ss, refl, last_front _ _ (send_segment numbers.send solicited invalidate) offset octets (omega (arith, length-drop offset octets, h.1)) (omega (arith, length-drop offset octets, h.1)), rest)
goes_on_with numbers sent (Read request) messages ticket offset max low high true (inl h) ss rest = (_ ∷ [], ss, refl, refl, rest)
goes_on_with numbers sent (Message (Write stag to octets)) messages ticket offset max low high false (inr h) ss rest =
    let s = segment_of numbers (part_with ticket (Message (Write stag to octets)) offset max false) in (
      s ∷ rest.0,
      rest.1,
      ap (λ z. s ∷ z) rest.2,
      more_front _ _ (write_segment stag to) offset octets rest.0 (omega (arith, h.1)) (omega (arith, h.1)) (omega (arith, length-drop offset octets, h.1)) rest.3,
      rest.4,
    )
goes_on_with numbers sent (Message (Send octets solicited invalidate)) messages ticket offset max low high false (inr h) ss rest =
    let s = segment_of numbers (part_with ticket (Message (Send octets solicited invalidate)) offset max false) in (
      s ∷ rest.0,
      rest.1,
      ap (λ z. s ∷ z) rest.2,
      more_front _ _ (send_segment numbers.send solicited invalidate) offset octets rest.0 (omega (arith, h.1)) (omega (arith, h.1)) (omega (arith, length-drop offset octets, h.1)) rest.3,
      rest.4,
    )
goes_on_with numbers sent (Read request) messages ticket offset max low high false (inr h) ss rest = absurd (omega (arith, h.1))
goes_on_with numbers sent message messages ticket offset max low high true (inr h) ss rest = cc
goes_on_with numbers sent message messages ticket offset max low high false (inl h) ss rest = cc

counts_on_with : (numbers : Numbers) (sent : Outstanding) (message : Request (List ℕ)) (messages : List (Request (List ℕ))) (ticket offset max : ℕ) (last : Bool)
    → numbers_after_all (numbers_beyond numbers (part_with ticket message offset max last)) (part_sent (record { sent = sent; unsent = message ∷ messages; offset = offset }) (Some (part_with ticket message offset max last))).unsent
    ≡ numbers_after_all numbers (message ∷ messages)
counts_on_with numbers sent message messages ticket offset max true = refl
counts_on_with numbers sent message messages ticket offset max false = refl

part_goes_on : (ms : List (Request (List ℕ))) (gone : List (Segment (List ℕ))) (numbers : Numbers) (sent : Outstanding) (unsent : List (Request (List ℕ))) (offset max : ℕ) (shown : Part (Request (List ℕ)))
    → 128 ≤ max → max ≤ 64512 → next_part (record { sent = sent; unsent = unsent; offset = offset }) max ≡ Some shown → HasSent ms gone numbers (record { sent = sent; unsent = unsent; offset = offset })
    → HasSent ms (gone ++ segment_of numbers shown ∷ []) (numbers_beyond numbers shown) (part_sent (record { sent = sent; unsent = unsent; offset = offset }) (Some shown))
part_goes_on ms gone numbers sent [] offset max shown low high e h = cc
part_goes_on ms gone numbers sent (message ∷ messages) offset max shown low high e h =
    let is : part_from (next_ticket sent) message offset max ≡ shown = cc in
    subst (λ part. HasSent ms (gone ++ segment_of numbers part ∷ []) (numbers_beyond numbers part) (part_sent (record { sent = sent; unsent = message ∷ messages; offset = offset }) (Some part)))
    is
    (record {
      goes_on = λ rest spelled.
          subst (AreSpelled first_numbers 0 ms) (sym (append_assoc gone (segment_of numbers (part_from (next_ticket sent) message offset max) ∷ []) rest))
          (h.goes_on (segment_of numbers (part_from (next_ticket sent) message offset max) ∷ rest)
          (goes_on_with numbers sent message messages (next_ticket sent) offset max low high (leb (length (payload message) - offset) (max - header_len message))
          (leb_tells (length (payload message) - offset) (max - header_len message)) rest spelled));
      counted = counts_on_with numbers sent message messages (next_ticket sent) offset max (leb (length (payload message) - offset) (max - header_len message)) ∙ h.counted;
    })

-- ---- a message behind the others
begun_anew : (ms : List (Request (List ℕ))) → IsBegun ms 0
begun_anew [] = refl
begun_anew (m ∷ ms) = λ some. absurd (omega (arith, some))

-- what carries the messages and one behind them is what carries the messages and then that one
parted : (numbers : Numbers) (offset : ℕ) (ms : List (Request (List ℕ))) (message : Request (List ℕ)) (ss : List (Segment (List ℕ))) → IsBegun ms offset → AreSpelled numbers offset (ms ++ message ∷ []) ss
    → (front back : List (Segment (List ℕ))) × (ss ≡ front ++ back) × AreSpelled numbers offset ms front × AreSegments (numbers_after_all numbers ms) message 0 back
parted numbers offset [] message ss begun s =
    ([], s.0, s.2 ∙ ap (λ z. s.0 ++ z) s.4 ∙ append-nil s.0, refl, subst (λ k. AreSegments numbers message k s.0) begun s.3)
parted numbers offset (m ∷ ms) message ss begun s =
    let r = parted (numbers_after numbers m) 0 ms message s.1 (begun_anew ms) s.4 in
    (s.0 ++ r.0, r.1, s.2 ∙ ap (λ z. s.0 ++ z) r.2 ∙ sym (append_assoc s.0 r.0 r.1), (s.0, r.0, refl, s.3, r.3), r.4)

with_past : (numbers : Numbers) (ms : List (Request (List ℕ))) (message : Request (List ℕ)) (ss mine : List (Segment (List ℕ))) → AreSpelled numbers 0 ms ss → AreSegments (numbers_after_all numbers ms) message 0 mine
    → AreSpelled numbers 0 (ms ++ message ∷ []) (ss ++ mine)
with_past numbers [] message ss mine s cut = (mine, [], ap (λ z. z ++ mine) s ∙ sym (append-nil mine), cut, refl)
with_past numbers (m ∷ ms) message ss mine s cut =
    (s.0, s.1 ++ mine, ap (λ z. z ++ mine) s.2 ∙ append_assoc s.0 s.1 mine, s.3, with_past (numbers_after numbers m) ms message s.1 mine s.4 cut)

numbers_after_all-push : (numbers : Numbers) (ms : List (Request (List ℕ))) (message : Request (List ℕ)) → numbers_after_all numbers (ms ++ message ∷ []) ≡ numbers_after (numbers_after_all numbers ms) message
numbers_after_all-push numbers [] message = refl
numbers_after_all-push numbers (m ∷ ms) message = numbers_after_all-push (numbers_after numbers m) ms message

post_goes_on : (ms : List (Request (List ℕ))) (gone : List (Segment (List ℕ))) (numbers : Numbers) (q : Queue) (message : Request (List ℕ)) → IsWithinLimits q → HasSent ms gone numbers q
    → HasSent (ms ++ message ∷ []) gone numbers (posted q message)
post_goes_on ms gone numbers q message limits h = record {
  goes_on = λ rest s.
      let r = parted numbers q.offset q.unsent message rest limits.begun s in
      let cut : AreSegments (numbers_after_all first_numbers ms) message 0 r.1 = subst (λ k. AreSegments k message 0 r.1) h.counted r.4 in
      let all : AreSpelled first_numbers 0 (ms ++ message ∷ []) ((gone ++ r.0) ++ r.1) = with_past first_numbers ms message (gone ++ r.0) r.1 (h.goes_on r.0 r.3) cut in
      subst (AreSpelled first_numbers 0 (ms ++ message ∷ [])) (append_assoc gone r.0 r.1 ∙ ap (λ z. gone ++ z) (sym r.2)) all;
  counted = numbers_after_all-push numbers q.unsent message ∙ ap (λ k. numbers_after k message) h.counted ∙ sym (numbers_after_all-push first_numbers ms message);
}

-- ---- what is left can be sent
pub some_cut : (fuel room : ℕ) (segment : ℕ → Bool → List ℕ → Segment (List ℕ)) (offset : ℕ) (octets : List ℕ) → 0 < room → length octets ≤ fuel
    → (ss : List (Segment (List ℕ))) × IsCut room segment offset octets ss
some_cut zero room segment offset octets wide few = (segment offset true octets ∷ [], (omega arith, refl))
some_cut (suc fuel) room segment offset octets wide few =
    elim (cases_lt room (length octets)) [
      | inl long ↦
          let rest : (ss : List (Segment (List ℕ))) × IsCut room segment (offset + room) (drop room octets) ss =
          some_cut fuel room segment (offset + room) (drop room octets) wide (omega (arith, length-drop room octets)) in
          (segment offset false (take room octets) ∷ rest.0, joined_cut room room segment offset octets rest.0 wide (omega arith) long rest.1)
      | inr whole ↦ (segment offset true octets ∷ [], (whole, refl))
    ]

pub some_segments : (numbers : Numbers) (message : Request (List ℕ)) (offset : ℕ) → (ss : List (Segment (List ℕ))) × AreSegments numbers message offset ss
some_segments numbers (Message (Write stag to octets)) offset = some_cut (length (drop offset octets)) (64512 - 14) (write_segment stag to) offset (drop offset octets) (lit< tt) (omega arith)
some_segments numbers (Message (Send octets solicited invalidate)) offset =
    some_cut (length (drop offset octets)) (64512 - 18) (send_segment numbers.send solicited invalidate) offset (drop offset octets) (lit< tt) (omega arith)
some_segments numbers (Read request) offset = (request_segment numbers.read request ∷ [], refl)

some_spelled : (numbers : Numbers) (offset : ℕ) (ms : List (Request (List ℕ))) → (ss : List (Segment (List ℕ))) × AreSpelled numbers offset ms ss
some_spelled numbers offset [] = ([], refl)
some_spelled numbers offset (m ∷ ms) =
    let mine = some_segments numbers m offset in
    let later = some_spelled (numbers_after numbers m) 0 ms in
    (mine.0 ++ later.0, (mine.0, later.0, refl, mine.1, later.1))

-- ---- what is handed out changes nothing of this
handed : (ms : List (Request (List ℕ))) (gone : List (Segment (List ℕ))) (numbers : Numbers) (q : Queue) (first : ℕ) (messages : List Sent) → HasSent ms gone numbers q
    → HasSent ms gone numbers (handed_from (record q { sent = record { first = first; messages = messages } }) (done_from first messages))
handed ms gone numbers q first [] h = record { goes_on = h.goes_on; counted = h.counted }
handed ms gone numbers q first (m ∷ messages) h = go m.finished
  where
    go : (b : Bool) → HasSent ms gone numbers (handed_from (record q { sent = record { first = first; messages = m ∷ messages } }) (cond b (Some (record { ticket = first; kind = m.kind })) None))
    go true = record { goes_on = h.goes_on; counted = h.counted }
    go false = record { goes_on = h.goes_on; counted = h.counted }

pub sends_in_order : SendsInOrder
sends_in_order = record {
  start = record { goes_on = λ rest s. s; counted = refl };
  post = post_goes_on;
  part = λ ms gone numbers q max shown low high e h. part_goes_on ms gone numbers q.sent q.unsent q.offset max shown low high e h;
  finish = λ ms gone numbers q ticket h. record { goes_on = h.goes_on; counted = h.counted };
  next = λ ms gone numbers q h. handed ms gone numbers q q.sent.first q.sent.messages h;
  whole = λ ms gone numbers q h. let rest = some_spelled numbers q.offset q.unsent in (rest.0, h.goes_on rest.0 rest.1);
}
