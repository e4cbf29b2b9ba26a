-- What was sent of messages and responses goes on to all of them, whole.
use Rattle.std.proofs.Common.{◌≡◌, ℕ, zero, suc, ◌+◌, ◌-◌, ◌<◌, ◌≤◌, ◌⊎◌, inl, inr, List, [], ◌∷◌, ◌++◌, length, take, drop, map, min, Bool, true, false, cond, Some, refl, sym, ap, ◌∙◌, subst, arith, append_assoc, length-append, leb, lit<, replicate}
use Rattle.std.proofs.lemmas.List.{append-nil, drop_at, length-replicate}
use Rattle.std.proofs.lemmas.Bool.Decides.{nat_tests, leb_tells}
use Rattle.iw_octets.specs.declared.segment.Segment.{Segment}
use Rattle.iw_octets.specs.declared.message.Message.TheVariants.{Write, Send}
use Rattle.iw_queues.specs.declared.request.Request.{Request}
use Rattle.iw_queues.specs.declared.request.Request.TheVariants.{Message, Read}
use Rattle.iw_queues.specs.declared.send_queue.Part.{Part}
use Rattle.iw_queues.specs.Request.{kind_of, payload, header_len}
use Rattle.iw_queues.specs.Completions.{Outstanding, next_ticket, added}
use Rattle.iw_queues.specs.Queue.{Queue, next_part, part_from, part_sent, IsBegun}
use Rattle.iw_queues.specs.Queue as queues
use Rattle.iw_queues.specs.Segments.{Numbers, first_numbers, numbers_after, numbers_beyond, segment_of, write_segment, send_segment, IsCut, AreSegments, AreSpelled}
use Rattle.iw_queues.proofs.Sending.{part_with, goes_on_with, some_cut, some_segments}
use Rattle.iw_reads.specs.declared.requests.Asked.{Asked}
use Rattle.iw_reads.specs.Requests as requests
use Rattle.iw_laws.specs.Words.{Octets}
use Rattle.iw_laws.specs.Turns.{Answer}
use Rattle.iw_laws.specs.Merged.{Item, Post, Response, posts_in, answers_in, octets_of, response_segment, ItemSegments, numbers_past, AreMerged}
use Rattle.iw_laws.proofs.Sending.{shows, header_small}

-- ---- items

pub posts-append : (xs ys : List Item) → posts_in (xs ++ ys) ≡ posts_in xs ++ posts_in ys
posts-append [] ys = refl
posts-append (Post m ∷ xs) ys = ap (λ z. m ∷ z) (posts-append xs ys)
posts-append (Response a ∷ xs) ys = posts-append xs ys

pub answers-append : (xs ys : List Item) → answers_in (xs ++ ys) ≡ answers_in xs ++ answers_in ys
answers-append [] ys = refl
answers-append (Post m ∷ xs) ys = answers-append xs ys
answers-append (Response a ∷ xs) ys = ap (λ z. a ∷ z) (answers-append xs ys)

pub octets-append : (xs ys : List Answer) → octets_of (xs ++ ys) ≡ octets_of xs ++ octets_of ys
octets-append [] ys = refl
octets-append (a ∷ xs) ys = ap (λ z. a.octets ++ z) (octets-append xs ys) ∙ sym (append_assoc a.octets (octets_of xs) (octets_of ys))

-- what goes on begins with the message, or with the response, that was begun
pub record BeginsPost (unsent : List (Request Octets)) (rest : List Item) : Type 0 where
  pub message : Request Octets
  pub messages : List (Request Octets)
  pub unsent_is : unsent ≡ message ∷ messages
  pub items : List Item
  pub is : rest ≡ Post message ∷ items

pub record BeginsResponse (waiting : List Asked) (begun : Octets) (rest : List Item) : Type 0 where
  pub oldest : Asked
  pub others : List Asked
  pub waiting_is : waiting ≡ oldest ∷ others
  pub more : Octets
  pub items : List Item
  pub is : rest ≡ Response (record { request = oldest.request; octets = begun ++ more }) ∷ items

pub record GoesWith (q : Queue) (waiting : List Asked) (begun : Octets) (rest : List Item) : Type 0 where
  pub post : 0 < q.offset → BeginsPost q.unsent rest
  pub response : 0 < length begun → BeginsResponse waiting begun rest

-- nothing of a message or a response was sent
pub record IsUnbegun (q : Queue) (numbers : Numbers) (begun : Octets) : Type 0 where
  pub numbers_are : numbers ≡ first_numbers
  pub offset : q.offset ≡ 0
  pub none : begun ≡ []

never_none : {A : Type 0} (xs : List A) (x : A) → xs ++ x ∷ [] ≡ [] → ⊥
never_none xs x e = omega (arith, ap length e, length-append xs (x ∷ []))

pub record Merges (q : Queue) (numbers : Numbers) (waiting : List Asked) (begun : Octets) (posted : List (Request Octets)) (answers : List Answer) (segments : List (Segment Octets)) : Type 0 where
  pub items : List Item  -- those that were sent to their end
  pub posts : posts_in items ++ q.unsent ≡ posted
  pub are : answers_in items ≡ answers
  pub apart : (q.offset ≡ 0) ⊎ (begun ≡ [])
  pub fresh : segments ≡ [] → IsUnbegun q numbers begun
  pub done : List (Segment Octets)  -- what carries those
  pub partial : List (Segment Octets)  -- and the one that was begun
  pub segments_are : segments ≡ done ++ partial
  pub spelled : AreMerged first_numbers 0 items done
  pub goes_on : (rest : List Item) (ss : List (Segment Octets)) → GoesWith q waiting begun rest → AreMerged numbers (q.offset + length begun) rest ss → AreMerged first_numbers 0 (items ++ rest) (segments ++ ss)

-- ---- nothing yet

pub merges_none : (q : Queue) → q.unsent ≡ [] → q.offset ≡ 0 → Merges q first_numbers [] [] [] [] []
merges_none q unsent offset = record {
  items = [];
  posts = unsent;
  are = refl;
  apart = inr refl;
  fresh = λ none. record { numbers_are = refl; offset = offset; none = refl };
  done = [];
  partial = [];
  segments_are = refl;
  spelled = refl;
  goes_on = λ rest ss g m. subst (λ n. AreMerged first_numbers n rest ss) (omega (arith, offset)) m;
}

-- ---- the RTR goes before all

abbrev pub with_left : List (Request Octets) → Queue → Queue
with_left left q = record q { unsent = left ++ q.unsent }

no_cut : (room : ℕ) (segment : ℕ → Bool → Octets → Segment Octets) (offset : ℕ) (octets : Octets) (ss : List (Segment Octets)) → ss ≡ [] → IsCut room segment offset octets ss → ⊥
no_cut room segment offset octets [] none cut = cut
no_cut room segment offset octets (s ∷ ss) none cut = omega (arith, ap length none)

no_message : (numbers : Numbers) (m : Request Octets) (offset : ℕ) (ss : List (Segment Octets)) → ss ≡ [] → AreSegments numbers m offset ss → ⊥
no_message numbers (Message (Write stag to octets)) offset ss none cut = no_cut _ (write_segment stag to) offset (drop offset octets) ss none cut
no_message numbers (Message (Send octets solicited invalidate)) offset ss none cut = no_cut _ (send_segment numbers.send solicited invalidate) offset (drop offset octets) ss none cut
no_message numbers (Read request) offset ss none cut = omega (arith, ap length none, ap length cut)

none_front : (xs ys : List (Segment Octets)) → xs ++ ys ≡ [] → xs ≡ []
none_front [] ys e = refl
none_front (x ∷ xs) ys e = absurd (omega (arith, ap length e))

-- no segment, no item
no_items : (numbers : Numbers) (items : List Item) (ss : List (Segment Octets)) → ss ≡ [] → AreMerged numbers 0 items ss → items ≡ []
no_items numbers [] ss none h = refl
no_items numbers (Post m ∷ items) ss none (mine, later, is, one, rest) = absurd (no_message numbers m 0 mine (none_front mine later (sym is ∙ none)) one)
no_items numbers (Response a ∷ items) ss none (mine, later, is, one, rest) = absurd (no_cut _ (response_segment a.request) 0 a.octets mine (none_front mine later (sym is ∙ none)) one.1)

none_merged : {q : Queue} {numbers : Numbers} {waiting : List Asked} {begun : Octets} {posted : List (Request Octets)} {answers : List Answer} {segments : List (Segment Octets)} → segments ≡ [] → (k : Merges q numbers waiting begun posted answers segments) → k.items ≡ []
none_merged none k = no_items first_numbers k.items k.done (none_front k.done k.partial (sym k.segments_are ∙ none)) k.spelled

-- the RTR is agreed on, where nothing was sent
pub merges_ready : (q : Queue) (numbers : Numbers) (waiting : List Asked) (begun : Octets) (posted : List (Request Octets)) (answers : List Answer) (segments : List (Segment Octets)) (ready : List (Request Octets)) → segments ≡ []
    → Merges q numbers waiting begun posted answers segments → Merges (with_left ready q) numbers waiting begun (ready ++ posted) answers segments
merges_ready q numbers waiting begun posted answers segments ready nothing k =
    let f = k.fresh nothing in
    let none : k.items ≡ [] = none_merged nothing k in
    record {
      items = [];
      posts = ap (λ z. ready ++ z) (sym (ap (λ z. posts_in z ++ q.unsent) none) ∙ k.posts);
      are = sym (ap answers_in none) ∙ k.are;
      apart = inl f.offset;
      fresh = λ h. record { numbers_are = f.numbers_are; offset = f.offset; none = f.none };
      done = [];
      partial = [];
      segments_are = nothing;
      spelled = refl;
      goes_on = λ rest ss g merged.
          subst (λ z. AreMerged first_numbers 0 rest (z ++ ss)) (sym nothing)
          (subst (λ n. AreMerged first_numbers n rest ss) (omega (arith, f.offset, ap length f.none)) (subst (λ z. AreMerged z (q.offset + length begun) rest ss) f.numbers_are merged));
    }

-- it is sent
pub merges_sent : (q : Queue) (numbers : Numbers) (waiting : List Asked) (begun : Octets) (posted : List (Request Octets)) (answers : List Answer) (segments : List (Segment Octets)) (m : Request Octets) (s : Segment Octets) → segments ≡ []
    → AreSegments first_numbers m 0 (s ∷ []) → Merges (with_left (m ∷ []) q) numbers waiting begun (m ∷ posted) answers segments
    → Merges q (numbers_after numbers m) waiting begun (m ∷ posted) answers (segments ++ s ∷ [])
merges_sent q numbers waiting begun posted answers segments m s nothing mine k =
    let f = k.fresh nothing in
    let none : k.items ≡ [] = none_merged nothing k in
    let one : segments ++ s ∷ [] ≡ s ∷ [] = ap (λ z. z ++ s ∷ []) nothing in
    record {
      items = Post m ∷ [];
      posts = sym (ap (λ z. posts_in z ++ m ∷ q.unsent) none) ∙ k.posts;
      are = sym (ap answers_in none) ∙ k.are;
      apart = inl f.offset;
      fresh = λ h. absurd (never_none segments s h);
      done = segments ++ s ∷ [];
      partial = [];
      segments_are = sym (append-nil (segments ++ s ∷ []));
      spelled = (s ∷ [], [], one, mine, refl);
      goes_on = λ rest ss g merged. (
        s ∷ [],
        ss,
        ap (λ z. z ++ ss) one,
        mine,
        subst (λ n. AreMerged (numbers_after first_numbers m) n rest ss) (omega (arith, f.offset, ap length f.none)) (subst (λ z. AreMerged (numbers_after z m) (q.offset + length begun) rest ss) f.numbers_are merged),
      );
    }

-- ---- a message is posted

abbrev pub first_or : Request Octets → List (Request Octets) → Request Octets
first_or d [] = d
first_or d (x ∷ xs) = x

pub merges_post : (q : Queue) (numbers : Numbers) (waiting : List Asked) (begun : Octets) (posted : List (Request Octets)) (answers : List Answer) (segments : List (Segment Octets)) (m : Request Octets) → IsBegun q.unsent q.offset
    → Merges q numbers waiting begun posted answers segments → Merges (queues.posted q m) numbers waiting begun (posted ++ m ∷ []) answers segments
merges_post q numbers waiting begun posted answers segments m started k = record {
  items = k.items;
  posts = sym (append_assoc (posts_in k.items) q.unsent (m ∷ [])) ∙ ap (λ z. z ++ m ∷ []) k.posts;
  are = k.are;
  apart = k.apart;
  fresh = λ none. let f = k.fresh none in record { numbers_are = f.numbers_are; offset = f.offset; none = f.none };
  done = k.done;
  partial = k.partial;
  segments_are = k.segments_are;
  spelled = k.spelled;
  goes_on = λ rest ss g merged. k.goes_on rest ss (record { post = λ some. go q.unsent refl some (g.post some); response = g.response }) merged;
}
  where
    go : {rest : List Item} (unsent : List (Request Octets)) → q.unsent ≡ unsent → 0 < q.offset → BeginsPost (q.unsent ++ m ∷ []) rest → BeginsPost q.unsent rest
    go [] is some b = absurd (let none : q.offset ≡ 0 = subst (λ z. IsBegun z q.offset) is started in omega (arith, none, some))
    go (x ∷ xs) is some b =
        let same : x ≡ b.message = ap (first_or x) (sym (ap (λ z. z ++ m ∷ []) is) ∙ b.unsent_is) in
        record { message = x; messages = xs; unsent_is = is; items = b.items; is = b.is ∙ ap (λ z. Post z ∷ b.items) (sym same) }

-- ---- a part of a message is sent

-- the part's segment in front of what is left of its message
one_spelled : (numbers : Numbers) (m : Request Octets) (offset : ℕ) (ss : List (Segment Octets)) → AreSpelled numbers offset (m ∷ []) ss → AreSegments numbers m offset ss
one_spelled numbers m offset ss (mine, later, is, one, none) = subst (AreSegments numbers m offset) (sym (is ∙ ap (λ z. mine ++ z) none ∙ append-nil mine)) one

ends_message : (sent : Outstanding) (numbers : Numbers) (m : Request Octets) (offset max : ℕ) → 128 ≤ max → max ≤ 64512 → (part : Part (Request Octets)) → part ≡ part_from (next_ticket sent) m offset max → part.last ≡ true
    → AreSegments numbers m offset (segment_of numbers part ∷ [])
ends_message sent numbers m offset max low high part is last =
    let test : leb (length (payload m) - offset) (max - header_len m) ≡ true = sym (ap (λ (p : Part (Request Octets)). p.last) is) ∙ last in
    let told = leb_tells (length (payload m) - offset) (max - header_len m) in
    let one : AreSpelled numbers offset (m ∷ []) (segment_of numbers (part_with (next_ticket sent) m offset max true) ∷ []) =
    goes_on_with numbers sent m [] (next_ticket sent) offset max low high true (inl (refl, fits told test)) [] refl in
    let same : part ≡ part_with (next_ticket sent) m offset max true = is ∙ ap (part_with (next_ticket sent) m offset max) test in
    subst (λ p. AreSegments numbers m offset (segment_of numbers p ∷ [])) (sym same) (one_spelled numbers m offset _ one)
  where
    fits : {x y : ℕ} → (((leb x y ≡ true) × (x ≤ y)) ⊎ ((leb x y ≡ false) × (y < x))) → leb x y ≡ true → x ≤ y
    fits (inl t) e = t.1
    fits (inr t) e = absurd (let no : true ≡ false = sym e ∙ t.0 in cc)

continues_message : (sent : Outstanding) (numbers : Numbers) (m : Request Octets) (offset max : ℕ) → 128 ≤ max → max ≤ 64512 → (part : Part (Request Octets)) → part ≡ part_from (next_ticket sent) m offset max → part.last ≡ false
    → (ss : List (Segment Octets)) → AreSegments numbers m (offset + part.n) ss → AreSegments numbers m offset (segment_of numbers part ∷ ss)
continues_message sent numbers m offset max low high part is last ss left =
    let test : leb (length (payload m) - offset) (max - header_len m) ≡ false = sym (ap (λ (p : Part (Request Octets)). p.last) is) ∙ last in
    let told = leb_tells (length (payload m) - offset) (max - header_len m) in
    let same : part ≡ part_with (next_ticket sent) m offset max false = is ∙ ap (part_with (next_ticket sent) m offset max) test in
    let n : part.n ≡ (part_with (next_ticket sent) m offset max false).n = ap (λ (p : Part (Request Octets)). p.n) same in
    let one : AreSpelled numbers offset (m ∷ []) (segment_of numbers (part_with (next_ticket sent) m offset max false) ∷ ss) =
    goes_on_with numbers sent m [] (next_ticket sent) offset max low high false (inr (refl, above told test)) ss (ss, [], sym (append-nil ss), subst (λ z. AreSegments numbers m (offset + z) ss) n left, refl) in
    subst (λ p. AreSegments numbers m offset (segment_of numbers p ∷ ss)) (sym same) (one_spelled numbers m offset _ one)
  where
    above : {x y : ℕ} → (((leb x y ≡ true) × (x ≤ y)) ⊎ ((leb x y ≡ false) × (y < x))) → leb x y ≡ false → y < x
    above (inl t) e = absurd (let no : true ≡ false = sym t.0 ∙ e in cc)
    above (inr t) e = t.1

-- the items that are whole, with one more
item_more : (items : List Item) (item : Item) (rest : List Item) → (items ++ item ∷ []) ++ rest ≡ items ++ item ∷ rest
item_more items item rest = append_assoc items (item ∷ []) rest

segment_more : (segments : List (Segment Octets)) (s : Segment Octets) (ss : List (Segment Octets)) → (segments ++ s ∷ []) ++ ss ≡ segments ++ s ∷ ss
segment_more segments s ss = append_assoc segments (s ∷ []) ss

pub merges_part : (q : Queue) (numbers : Numbers) (waiting : List Asked) (posted : List (Request Octets)) (answers : List Answer) (segments : List (Segment Octets)) (max : ℕ) (part : Part (Request Octets)) → 128 ≤ max → max ≤ 64512
    → next_part q max ≡ Some part → Merges q numbers waiting [] posted answers segments
    → Merges (part_sent q (Some part)) (numbers_beyond numbers part) waiting [] posted answers (segments ++ segment_of numbers part ∷ [])
merges_part q numbers waiting posted answers segments max part low high e k = by part.last refl
  where
    m : Request Octets
    m = (shows q max part e).message

    is : part ≡ part_from (next_ticket q.sent) (shows q max part e).message q.offset max
    is = (shows q max part e).is

    message_is : part.message ≡ (shows q max part e).message
    message_is = ap (λ (p : Part (Request Octets)). p.message) (shows q max part e).is

    unsent_is : q.unsent ≡ (shows q max part e).message ∷ (shows q max part e).messages
    unsent_is = (shows q max part e).unsent

    whole : part.last ≡ true → (rest : List Item) (ss : List (Segment Octets)) → AreMerged (numbers_after numbers part.message) 0 rest ss → AreMerged first_numbers 0 ((k.items ++ Post part.message ∷ []) ++ rest) ((segments ++ segment_of numbers part ∷ []) ++ ss)
    whole last rest ss merged =
        let mine : AreSegments numbers part.message q.offset (segment_of numbers part ∷ []) = subst (λ z. AreSegments numbers z q.offset (segment_of numbers part ∷ [])) (sym message_is) (ends_message q.sent numbers (shows q max part e).message q.offset max low high part is last) in
        let one : AreMerged numbers (q.offset + 0) (Post part.message ∷ rest) (segment_of numbers part ∷ ss) =
        (segment_of numbers part ∷ [], ss, refl, subst (λ z. AreSegments numbers part.message z (segment_of numbers part ∷ [])) (omega arith) mine, merged) in
        subst (λ z. AreMerged first_numbers 0 z ((segments ++ segment_of numbers part ∷ []) ++ ss)) (sym (item_more k.items (Post part.message) rest))
        (subst (λ z. AreMerged first_numbers 0 (k.items ++ Post part.message ∷ rest) z) (sym (segment_more segments (segment_of numbers part) ss))
        (k.goes_on (Post part.message ∷ rest) (segment_of numbers part ∷ ss)
        (record { post = λ some. record { message = part.message; messages = (shows q max part e).messages; unsent_is = unsent_is ∙ ap (λ z. z ∷ (shows q max part e).messages) (sym message_is); items = rest; is = refl }; response = λ some. absurd (omega (arith, some)) })
        one))

    by : (last : Bool) → part.last ≡ last
        → Merges (cond last (record { sent = added q.sent (kind_of part.message); unsent = drop 1 q.unsent; offset = 0 }) (record q { offset = q.offset + part.n })) (cond last (numbers_after numbers part.message) numbers) waiting [] posted answers (segments ++ segment_of numbers part ∷ [])
    by true last = record {
      items = k.items ++ Post part.message ∷ [];
      posts = ap (λ z. z ++ drop 1 q.unsent) (posts-append k.items (Post part.message ∷ [])) ∙ append_assoc (posts_in k.items) (part.message ∷ []) (drop 1 q.unsent)
          ∙ ap (λ z. posts_in k.items ++ z) ((λ i. message_is i ∷ drop 1 (unsent_is i)) ∙ sym unsent_is) ∙ k.posts;
      are = answers-append k.items (Post part.message ∷ []) ∙ append-nil (answers_in k.items) ∙ k.are;
      apart = inr refl;
      fresh = λ none. absurd (never_none segments (segment_of numbers part) none);
      done = segments ++ segment_of numbers part ∷ [];
      partial = [];
      segments_are = sym (append-nil (segments ++ segment_of numbers part ∷ []));
      spelled = subst (λ z. AreMerged first_numbers 0 z (segments ++ segment_of numbers part ∷ [])) (append-nil (k.items ++ Post part.message ∷ []))
          (subst (λ z. AreMerged first_numbers 0 ((k.items ++ Post part.message ∷ []) ++ []) z) (append-nil (segments ++ segment_of numbers part ∷ [])) (whole last [] [] refl));
      goes_on = λ rest ss g merged. whole last rest ss merged;
    }
    by false last = record {
      items = k.items;
      posts = k.posts;
      are = k.are;
      apart = inr refl;
      fresh = λ none. absurd (never_none segments (segment_of numbers part) none);
      done = k.done;
      partial = k.partial ++ segment_of numbers part ∷ [];
      segments_are = ap (λ z. z ++ segment_of numbers part ∷ []) k.segments_are ∙ append_assoc k.done k.partial (segment_of numbers part ∷ []);
      spelled = k.spelled;
      goes_on = λ rest ss g merged. on rest ss g merged (g.post (omega (arith, begun last)));
    }
      where
        begun : part.last ≡ false → 0 < part.n
        begun last =
            let test : leb (length (payload (shows q max part e).message) - q.offset) (max - header_len (shows q max part e).message) ≡ false = sym (ap (λ (p : Part (Request Octets)). p.last) is) ∙ last in
            let n : part.n ≡ min (length (payload (shows q max part e).message) - q.offset) (max - header_len (shows q max part e).message) = ap (λ (p : Part (Request Octets)). p.n) is in
            let few : header_len (shows q max part e).message ≤ 18 = header_small (shows q max part e).message in
            let above : max - header_len (shows q max part e).message < length (payload (shows q max part e).message) - q.offset = grind (arith, nat_tests) in
            omega (arith, n, above, few, low)

        on : (rest : List Item) (ss : List (Segment Octets)) → GoesWith (record q { offset = q.offset + part.n }) waiting [] rest → AreMerged numbers (q.offset + part.n + 0) rest ss → BeginsPost q.unsent rest
            → AreMerged first_numbers 0 (k.items ++ rest) ((segments ++ segment_of numbers part ∷ []) ++ ss)
        on rest ss g merged b = with_items b.items b.is
          where
            same : b.message ≡ (shows q max part e).message
            same = ap (first_or (shows q max part e).message) (sym b.unsent_is ∙ unsent_is)

            with_items : (items : List Item) → rest ≡ Post b.message ∷ items → AreMerged first_numbers 0 (k.items ++ rest) ((segments ++ segment_of numbers part ∷ []) ++ ss)
            with_items items rest_is =
                let r = subst (λ z. AreMerged numbers (q.offset + part.n + 0) z ss) rest_is merged in
                let left : AreSegments numbers (shows q max part e).message (q.offset + part.n) r.0 = subst (λ z. AreSegments numbers (shows q max part e).message z r.0) (omega arith) (subst (λ z. AreSegments numbers z (q.offset + part.n + 0) r.0) same r.3) in
                let mine : AreSegments numbers b.message q.offset (segment_of numbers part ∷ r.0) =
                subst (λ z. AreSegments numbers z q.offset (segment_of numbers part ∷ r.0)) (sym same) (continues_message q.sent numbers (shows q max part e).message q.offset max low high part is last r.0 left) in
                let whole : AreMerged numbers (q.offset + 0) (Post b.message ∷ items) (segment_of numbers part ∷ ss) =
                (segment_of numbers part ∷ r.0, r.1, ap (λ z. segment_of numbers part ∷ z) r.2, subst (λ z. AreSegments numbers b.message z (segment_of numbers part ∷ r.0)) (omega arith) mine, r.4) in
                subst (λ z. AreMerged first_numbers 0 (k.items ++ rest) z) (sym (segment_more segments (segment_of numbers part) ss))
                (subst (λ z. AreMerged first_numbers 0 (k.items ++ z) (segments ++ segment_of numbers part ∷ ss)) (sym rest_is)
                (k.goes_on (Post b.message ∷ items) (segment_of numbers part ∷ ss)
                (record { post = λ some. record { message = b.message; messages = b.messages; unsent_is = b.unsent_is; items = items; is = refl }; response = λ some. absurd (omega (arith, some)) }) whole))

-- ---- part of a response is sent

-- its last part
pub merges_last : (q : Queue) (numbers : Numbers) (oldest : Asked) (others : List Asked) (begun octets : Octets) (posted : List (Request Octets)) (answers : List Answer) (segments : List (Segment Octets)) → q.offset ≡ 0 → length octets ≤ 64512 - 14
    → length begun + length octets ≡ oldest.request.size → Merges q numbers (oldest ∷ others) begun posted answers segments
    → Merges q numbers others [] posted (answers ++ record { request = oldest.request; octets = begun ++ octets } ∷ []) (segments ++ response_segment oldest.request (length begun) true octets ∷ [])
merges_last q numbers oldest others begun octets posted answers segments unbegun room size k =
    let answer : Answer = record { request = oldest.request; octets = begun ++ octets } in
    let s : Segment Octets = response_segment oldest.request (length begun) true octets in
    let long : length (begun ++ octets) ≡ oldest.request.size = length-append begun octets ∙ size in
    let whole : (rest : List Item) (ss : List (Segment Octets)) → AreMerged numbers 0 rest ss → AreMerged first_numbers 0 ((k.items ++ Response answer ∷ []) ++ rest) ((segments ++ s ∷ []) ++ ss) = λ rest ss left.
    let cut : IsCut (64512 - 14) (response_segment oldest.request) (length begun) (drop (length begun) (begun ++ octets)) (s ∷ []) =
    subst (λ z. IsCut (64512 - 14) (response_segment oldest.request) (length begun) z (s ∷ [])) (sym (drop_at begun octets (length begun) refl)) (room, refl) in
    let item : ItemSegments numbers (Response answer) (q.offset + length begun) (s ∷ []) =
    subst (λ n. ItemSegments numbers (Response answer) n (s ∷ [])) (omega (arith, unbegun)) (long, cut) in
    subst (λ z. AreMerged first_numbers 0 z ((segments ++ s ∷ []) ++ ss)) (sym (item_more k.items (Response answer) rest))
    (subst (λ z. AreMerged first_numbers 0 (k.items ++ Response answer ∷ rest) z) (sym (segment_more segments s ss))
    (k.goes_on (Response answer ∷ rest) (s ∷ ss)
    (record { post = λ some. absurd (omega (arith, some, unbegun)); response = λ some. record { oldest = oldest; others = others; waiting_is = refl; more = octets; items = rest; is = refl } })
    (s ∷ [], ss, refl, item, left))) in
    record {
      items = k.items ++ Response answer ∷ [];
      posts = ap (λ z. z ++ q.unsent) (posts-append k.items (Response answer ∷ []) ∙ append-nil (posts_in k.items)) ∙ k.posts;
      are = answers-append k.items (Response answer ∷ []) ∙ ap (λ z. z ++ answer ∷ []) k.are;
      apart = inr refl;
      fresh = λ none. absurd (never_none segments s none);
      done = segments ++ s ∷ [];
      partial = [];
      segments_are = sym (append-nil (segments ++ s ∷ []));
      spelled = subst (λ z. AreMerged first_numbers 0 z (segments ++ s ∷ [])) (append-nil (k.items ++ Response answer ∷ []))
          (subst (λ z. AreMerged first_numbers 0 ((k.items ++ Response answer ∷ []) ++ []) z) (append-nil (segments ++ s ∷ [])) (whole [] [] refl));
      goes_on = λ rest ss g merged. whole rest ss (subst (λ n. AreMerged numbers n rest ss) (omega (arith, unbegun)) merged);
    }

abbrev pub asked_or : Asked → List Asked → Asked
asked_or d [] = d
asked_or d (x ∷ xs) = x

-- another part
pub merges_front : (q : Queue) (numbers : Numbers) (oldest : Asked) (others : List Asked) (begun octets : Octets) (posted : List (Request Octets)) (answers : List Answer) (segments : List (Segment Octets)) → q.offset ≡ 0 → length octets ≤ 64512 - 14
    → 0 < length octets → length begun + length octets < oldest.request.size → Merges q numbers (oldest ∷ others) begun posted answers segments
    → Merges q numbers (oldest ∷ others) (begun ++ octets) posted answers (segments ++ response_segment oldest.request (length begun) false octets ∷ [])
merges_front q numbers oldest others begun octets posted answers segments unbegun room some size k = record {
  items = k.items;
  posts = k.posts;
  are = k.are;
  apart = inl unbegun;
  fresh = λ none. absurd (never_none segments s none);
  done = k.done;
  partial = k.partial ++ response_segment oldest.request (length begun) false octets ∷ [];
  segments_are = ap (λ z. z ++ response_segment oldest.request (length begun) false octets ∷ []) k.segments_are ∙ append_assoc k.done k.partial (response_segment oldest.request (length begun) false octets ∷ []);
  spelled = k.spelled;
  goes_on = λ rest ss g merged. on rest ss merged (g.response (omega (arith, some, length-append begun octets)));
}
  where
    s : Segment Octets
    s = response_segment oldest.request (length begun) false octets

    on : (rest : List Item) (ss : List (Segment Octets)) → AreMerged numbers (q.offset + length (begun ++ octets)) rest ss → BeginsResponse (oldest ∷ others) (begun ++ octets) rest
        → AreMerged first_numbers 0 (k.items ++ rest) ((segments ++ response_segment oldest.request (length begun) false octets ∷ []) ++ ss)
    on rest ss merged b =
        let one : Segment Octets = response_segment oldest.request (length begun) false octets in
        let same : oldest ≡ b.oldest = ap (asked_or oldest) b.waiting_is in
        let answer : Answer = record { request = oldest.request; octets = (begun ++ octets) ++ b.more } in
        let rest_is : rest ≡ Response answer ∷ b.items = b.is ∙ ap (λ (z : Asked). Response (record { request = z.request; octets = (begun ++ octets) ++ b.more }) ∷ b.items) (sym same) in
        let r = subst (λ z. AreMerged numbers (q.offset + length (begun ++ octets)) z ss) rest_is merged in
        let size_is : length ((begun ++ octets) ++ b.more) ≡ oldest.request.size = r.3.0 in
        let beyond : drop (q.offset + length (begun ++ octets)) ((begun ++ octets) ++ b.more) ≡ b.more = drop_at (begun ++ octets) b.more (q.offset + length (begun ++ octets)) (omega (arith, unbegun)) in
        let cut : IsCut (64512 - 14) (response_segment oldest.request) (length begun + length octets) b.more r.0 =
        subst (λ n. IsCut (64512 - 14) (response_segment oldest.request) n b.more r.0) (omega (arith, unbegun, length-append begun octets))
        (subst (λ z. IsCut (64512 - 14) (response_segment oldest.request) (q.offset + length (begun ++ octets)) z r.0) beyond r.3.1) in
        let left : 0 < length b.more = omega (arith, size, size_is, length-append (begun ++ octets) b.more, length-append begun octets) in
        let whole : drop (length begun) ((begun ++ octets) ++ b.more) ≡ octets ++ b.more = ap (drop (length begun)) (append_assoc begun octets b.more) ∙ drop_at begun (octets ++ b.more) (length begun) refl in
        let cuts : IsCut (64512 - 14) (response_segment oldest.request) (length begun) (drop (length begun) ((begun ++ octets) ++ b.more)) (one ∷ r.0) =
        subst (λ z. IsCut (64512 - 14) (response_segment oldest.request) (length begun) z (one ∷ r.0)) (sym whole) (in_front r.0 b.more left cut) in
        subst (λ z. AreMerged first_numbers 0 (k.items ++ rest) z) (sym (segment_more segments one ss))
        (subst (λ z. AreMerged first_numbers 0 (k.items ++ z) (segments ++ one ∷ ss)) (sym rest_is)
        (k.goes_on (Response answer ∷ b.items) (one ∷ ss)
        (record { post = λ more. absurd (omega (arith, more, unbegun)); response = λ more. record { oldest = oldest; others = others; waiting_is = refl; more = octets ++ b.more; items = b.items; is = ap (λ z. Response (record { request = oldest.request; octets = z }) ∷ b.items) (append_assoc begun octets b.more) } })
        (one ∷ r.0, r.1, ap (λ z. one ∷ z) r.2, subst (λ n. ItemSegments numbers (Response answer) n (one ∷ r.0)) (omega (arith, unbegun)) (size_is, cuts), r.4)))
      where
        in_front : (mine : List (Segment Octets)) (more : Octets) → 0 < length more → IsCut (64512 - 14) (response_segment oldest.request) (length begun + length octets) more mine
            → IsCut (64512 - 14) (response_segment oldest.request) (length begun) (octets ++ more) (response_segment oldest.request (length begun) false octets ∷ mine)
        in_front [] more left cut = absurd cut
        in_front (t ∷ ts) more left cut = (octets, more, record { cut = refl; filled = some; fits = room; left = left; is = refl }, cut)

-- ---- the first items

pub record FirstItems (items : List Item) (n : ℕ) : Type 0 where
  pub mine : List Item
  pub others : List Item
  pub is : items ≡ mine ++ others
  pub posts : posts_in mine ≡ take n (posts_in items)

pub first_items : (n : ℕ) (items : List Item) → FirstItems items n
first_items zero items = record { mine = []; others = items; is = refl; posts = refl }
first_items (suc n) [] = record { mine = []; others = []; is = refl; posts = refl }
first_items (suc n) (Post m ∷ items) =
    let r = first_items n items in
    record { mine = Post m ∷ r.mine; others = r.others; is = ap (λ z. Post m ∷ z) r.is; posts = ap (λ z. m ∷ z) r.posts }
first_items (suc n) (Response a ∷ items) =
    let r = first_items (suc n) items in
    record { mine = Response a ∷ r.mine; others = r.others; is = ap (λ z. Response a ∷ z) r.is; posts = r.posts }

pub record SplitMerged (numbers : Numbers) (xs : List Item) (ss : List (Segment Octets)) : Type 0 where
  pub front : List (Segment Octets)
  pub back : List (Segment Octets)
  pub is : ss ≡ front ++ back
  pub mine : AreMerged numbers 0 xs front

pub split_merged : (numbers : Numbers) (xs ys : List Item) (ss : List (Segment Octets)) → AreMerged numbers 0 (xs ++ ys) ss → SplitMerged numbers xs ss
split_merged numbers [] ys ss h = record { front = []; back = ss; is = refl; mine = refl }
split_merged numbers (x ∷ xs) ys ss (mine, later, is, one, rest) =
    let r = split_merged (numbers_past numbers x) xs ys later rest in
    record { front = mine ++ r.front; back = r.back; is = is ∙ ap (λ z. mine ++ z) r.is ∙ sym (append_assoc mine r.front r.back); mine = (mine, r.front, refl, one, r.mine) }

-- ---- what is left can be sent

some_item : (numbers : Numbers) (m : Request Octets) (offset : ℕ) → (ss : List (Segment Octets)) × ItemSegments numbers (Post m) offset ss
some_item numbers m offset = some_segments numbers m offset

some_response : (numbers : Numbers) (a : Answer) (offset : ℕ) → length a.octets ≡ a.request.size → (ss : List (Segment Octets)) × ItemSegments numbers (Response a) offset ss
some_response numbers a offset size =
    let r = some_cut (length (drop offset a.octets)) (64512 - 14) (response_segment a.request) offset (drop offset a.octets) (lit< tt) (omega arith) in
    (r.0, (size, r.1))

abbrev pub AreWhole : List Item → Type 0
AreWhole [] = Unit {0}
AreWhole (Post m ∷ items) = AreWhole items
AreWhole (Response a ∷ items) = (length a.octets ≡ a.request.size) × AreWhole items

pub some_merged : (numbers : Numbers) (offset : ℕ) (items : List Item) → AreWhole items → (ss : List (Segment Octets)) × AreMerged numbers offset items ss
some_merged numbers offset [] h = ([], refl)
some_merged numbers offset (Post m ∷ items) h =
    let mine = some_item numbers m offset in
    let later = some_merged (numbers_after numbers m) 0 items h in
    (mine.0 ++ later.0, (mine.0, later.0, refl, mine.1, later.1))
some_merged numbers offset (Response a ∷ items) h =
    let mine = some_response numbers a offset h.0 in
    let later = some_merged numbers 0 items h.1 in
    (mine.0 ++ later.0, (mine.0, later.0, refl, mine.1, later.1))

-- the messages that are left, and the responses, with any octets
abbrev pub posts_of : List (Request Octets) → List Item
posts_of ms = map Post ms

abbrev pub blank : Asked → Item
blank a = Response (record { request = a.request; octets = replicate a.request.size 0 })

abbrev pub blanks : List Asked → List Item
blanks waiting = map blank waiting

pub posts_of-posts : (ms : List (Request Octets)) → posts_in (posts_of ms) ≡ ms
posts_of-posts [] = refl
posts_of-posts (m ∷ ms) = ap (λ z. m ∷ z) (posts_of-posts ms)

pub posts_of-answers : (ms : List (Request Octets)) → answers_in (posts_of ms) ≡ []
posts_of-answers [] = refl
posts_of-answers (m ∷ ms) = posts_of-answers ms

pub blanks-posts : (waiting : List Asked) → posts_in (blanks waiting) ≡ []
blanks-posts [] = refl
blanks-posts (x ∷ xs) = blanks-posts xs

pub blanks-requests : (waiting : List Asked) → map (λ (a : Answer). a.request) (answers_in (blanks waiting)) ≡ map (λ (a : Asked). a.request) waiting
blanks-requests [] = refl
blanks-requests (x ∷ xs) = ap (λ z. x.request ∷ z) (blanks-requests xs)

pub whole-blanks : (waiting : List Asked) → AreWhole (blanks waiting)
whole-blanks [] = tt
whole-blanks (x ∷ xs) = (length-replicate x.request.size 0, whole-blanks xs)

pub whole-posts : (ms : List (Request Octets)) (items : List Item) → AreWhole items → AreWhole (posts_of ms ++ items)
whole-posts [] items h = h
whole-posts (m ∷ ms) items h = whole-posts ms items h

-- ---- what goes on from here, to all that was posted and asked for

pub record GoesTo (q : Queue) (numbers : Numbers) (waiting : List Asked) (begun : Octets) : Type 0 where
  pub items : List Item
  pub goes : GoesWith q waiting begun items
  pub posts : posts_in items ≡ q.unsent
  pub requests : map (λ (a : Answer). a.request) (answers_in items) ≡ map (λ (a : Asked). a.request) waiting
  pub more : Octets
  pub octets : octets_of (answers_in items) ≡ begun ++ more
  pub whole : AreWhole items

requests_joined : (ms : List (Request Octets)) (waiting : List Asked) → map (λ (a : Answer). a.request) (answers_in (posts_of ms ++ blanks waiting)) ≡ map (λ (a : Asked). a.request) waiting
requests_joined [] waiting = blanks-requests waiting
requests_joined (m ∷ ms) waiting = requests_joined ms waiting

posts_joined : (ms : List (Request Octets)) (waiting : List Asked) → posts_in (posts_of ms ++ blanks waiting) ≡ ms
posts_joined [] waiting = blanks-posts waiting
posts_joined (m ∷ ms) waiting = ap (λ z. m ∷ z) (posts_joined ms waiting)

-- nothing of a response was begun
goes_unbegun : (q : Queue) (numbers : Numbers) (waiting : List Asked) (begun : Octets) → begun ≡ [] → IsBegun q.unsent q.offset → GoesTo q numbers waiting begun
goes_unbegun q numbers waiting begun nil started = record {
  items = posts_of q.unsent ++ blanks waiting;
  goes = record { post = λ some. first q.unsent refl some; response = λ some. absurd (omega (arith, some, ap length nil)) };
  posts = posts_joined q.unsent waiting;
  requests = requests_joined q.unsent waiting;
  more = octets_of (answers_in (posts_of q.unsent ++ blanks waiting));
  octets = ap (λ z. z ++ octets_of (answers_in (posts_of q.unsent ++ blanks waiting))) (sym nil);
  whole = whole-posts q.unsent (blanks waiting) (whole-blanks waiting);
}
  where
    first : (ms : List (Request Octets)) → q.unsent ≡ ms → 0 < q.offset → BeginsPost q.unsent (posts_of q.unsent ++ blanks waiting)
    first [] is some = absurd (let none : q.offset ≡ 0 = subst (λ z. IsBegun z q.offset) is started in omega (arith, none, some))
    first (m ∷ ms) is some = record { message = m; messages = ms; unsent_is = is; items = posts_of ms ++ blanks waiting; is = ap (λ z. posts_of z ++ blanks waiting) is }

-- a response was begun
goes_begun : (q : Queue) (numbers : Numbers) (oldest : Asked) (others : List Asked) (begun : Octets) → q.offset ≡ 0 → length begun ≤ oldest.request.size → GoesTo q numbers (oldest ∷ others) begun
goes_begun q numbers oldest others begun unbegun few =
    let more : Octets = replicate (oldest.request.size - length begun) 0 in
    let a : Answer = record { request = oldest.request; octets = begun ++ more } in
    let rest : List Item = posts_of q.unsent ++ blanks others in
    record {
      items = Response a ∷ rest;
      goes = record { post = λ some. absurd (omega (arith, some, unbegun)); response = λ some. record { oldest = oldest; others = others; waiting_is = refl; more = more; items = rest; is = refl } };
      posts = posts_joined q.unsent others;
      requests = ap (λ z. oldest.request ∷ z) (requests_joined q.unsent others);
      more = more ++ octets_of (answers_in rest);
      octets = append_assoc begun more (octets_of (answers_in rest));
      whole = (omega (arith, length-append begun more, length-replicate {A = ℕ} (oldest.request.size - length begun) 0, few), whole-posts q.unsent (blanks others) (whole-blanks others));
    }

pub goes_to : (q : Queue) (numbers : Numbers) (waiting : List Asked) (begun : Octets) (fetched : ℕ) → fetched ≡ length begun → requests.IsBegun waiting fetched → (q.offset ≡ 0) ⊎ (begun ≡ []) → IsBegun q.unsent q.offset → GoesTo q numbers waiting begun
goes_to q numbers waiting begun fetched same h (inr nil) started = goes_unbegun q numbers waiting begun nil started
goes_to q numbers [] begun fetched same h (inl unbegun) started = goes_unbegun q numbers [] begun (none begun (omega (arith, same, h))) started
  where
    none : (xs : Octets) → length xs ≡ 0 → xs ≡ []
    none [] e = refl
    none (x ∷ xs) e = absurd (omega (arith, e))
goes_to q numbers (oldest ∷ others) begun fetched same h (inl unbegun) started = goes_begun q numbers oldest others begun unbegun (low fetched same h)
  where
    low : (n : ℕ) → n ≡ length begun → (0 < n → n < oldest.request.size) → length begun ≤ oldest.request.size
    low zero e h = omega (arith, e)
    low (suc n) e h = let more : suc n < oldest.request.size = h (omega arith) in omega (arith, more, e)
