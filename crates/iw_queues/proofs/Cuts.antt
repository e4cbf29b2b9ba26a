-- Segments are joined to the messages that they were cut from.
use Rattle.std.proofs.Common.{◌≡◌, ℕ, ◌+◌, ◌%◌, ◌^◌, ◌<◌, ◌≤◌, ◌⊎◌, inl, inr, zero, suc, List, [], ◌∷◌, ◌++◌, length, Bool, true, false, refl, sym, ap, ◌∙◌, subst, arith, append_assoc, cond, eqb, ◌&&◌, Option, Some, None}
use Rattle.std.specs.Option.{option_map}
use Rattle.std.proofs.lemmas.List.{append-nil}
use Rattle.iw_octets.specs.declared.message.Message.{Message as PostedMessage}
use Rattle.iw_octets.specs.declared.message.Message.TheVariants.{Write, Send}
use Rattle.iw_octets.specs.declared.segment.Segment.{Segment}
use Rattle.iw_octets.specs.declared.segment.Segment.TheVariants.{Tagged, Untagged}
use Rattle.iw_octets.specs.declared.stag.Stag.{Stag}
use Rattle.iw_octets.specs.Stag.{number_of}
use Rattle.iw_queues.specs.declared.request.Request.{Request}
use Rattle.iw_queues.specs.declared.request.Request.TheVariants.{Message, Read}
use Rattle.iw_queues.specs.Request.{payload}
use Rattle.iw_queues.specs.Segments.{Numbers, numbers_after, write_segment, send_segment, request_segment, IsCut, AreSegments, AreSpelled}
use Rattle.iw_queues.specs.Joined.{IsPrefixOf, payloads, Whole, completed, joined, sends, Cell, one_if, count_from, count_in, count_writes, count_before, count_segments}
use Rattle.iw_queues.specs.Laws.{IsCovered}

-- ---- payloads
payloads_cut : (room : ℕ) (segment : ℕ → Bool → List ℕ → Segment (List ℕ)) → ((o : ℕ) (l : Bool) (x : List ℕ) (ss : List (Segment (List ℕ))) → payloads (segment o l x ∷ ss) ≡ x ++ payloads ss)
    → (offset : ℕ) (octets : List ℕ) (ss : List (Segment (List ℕ))) → IsCut room segment offset octets ss → payloads ss ≡ octets
payloads_cut room segment one offset octets [] cut = absurd cut
payloads_cut room segment one offset octets (s ∷ []) cut = ap (λ z. payloads (z ∷ [])) cut.1 ∙ one offset true octets [] ∙ append-nil octets
payloads_cut room segment one offset octets (s ∷ t ∷ ss) cut =
    ap (λ z. payloads (z ∷ t ∷ ss)) cut.2.is ∙ one offset false cut.0 (t ∷ ss)
    ∙ ap (λ z. cut.0 ++ z) (payloads_cut room segment one (offset + length cut.0) cut.1 (t ∷ ss) cut.3) ∙ sym cut.2.cut

pub parts_join : (numbers : Numbers) (message : PostedMessage (List ℕ)) (ss : List (Segment (List ℕ))) → AreSegments numbers (Message message) 0 ss → payloads ss ≡ payload (Message message)
parts_join numbers (Write stag to octets) ss cut = payloads_cut _ (write_segment stag to) (λ o l x ss. refl) 0 octets ss cut
parts_join numbers (Send octets solicited invalidate) ss cut = payloads_cut _ (send_segment numbers.send solicited invalidate) (λ o l x ss. refl) 0 octets ss cut

-- ---- Sends
-- the segments of a Write complete nothing
write_joined : (room : ℕ) (stag : Stag) (to offset : ℕ) (octets sofar : List ℕ) (ss rest : List (Segment (List ℕ))) → IsCut room (write_segment stag to) offset octets ss → joined sofar (ss ++ rest) ≡ joined sofar rest
write_joined room stag to offset octets sofar [] rest cut = absurd cut
write_joined room stag to offset octets sofar (s ∷ []) rest cut = ap (λ z. joined sofar (z ∷ rest)) cut.1
write_joined room stag to offset octets sofar (s ∷ t ∷ ss) rest cut =
    ap (λ z. joined sofar (z ∷ t ∷ ss ++ rest)) cut.2.is ∙ write_joined room stag to (offset + length cut.0) cut.1 sofar (t ∷ ss) rest cut.3

abbrev whole_of : List ℕ → Bool → Option Stag → Whole
whole_of octets solicited invalidate = record { octets = octets; solicited = solicited; invalidate = option_map number_of invalidate }

-- those of a Send complete it
last_joined : (msn : ℕ) (solicited : Bool) (invalidate : Option Stag) (offset : ℕ) (octets sofar : List ℕ) (rest : List (Segment (List ℕ)))
    → joined sofar (send_segment msn solicited invalidate offset true octets ∷ rest) ≡ whole_of (sofar ++ octets) solicited invalidate ∷ joined [] rest
last_joined msn true (Some stag) offset octets sofar rest = refl
last_joined msn true None offset octets sofar rest = refl
last_joined msn false (Some stag) offset octets sofar rest = refl
last_joined msn false None offset octets sofar rest = refl

send_joined : (room msn : ℕ) (solicited : Bool) (invalidate : Option Stag) (offset : ℕ) (octets sofar : List ℕ) (ss rest : List (Segment (List ℕ))) → IsCut room (send_segment msn solicited invalidate) offset octets ss
    → joined sofar (ss ++ rest) ≡ whole_of (sofar ++ octets) solicited invalidate ∷ joined [] rest
send_joined room msn solicited invalidate offset octets sofar [] rest cut = absurd cut
send_joined room msn solicited invalidate offset octets sofar (s ∷ []) rest cut = ap (λ z. joined sofar (z ∷ rest)) cut.1 ∙ last_joined msn solicited invalidate offset octets sofar rest
send_joined room msn solicited invalidate offset octets sofar (s ∷ t ∷ ss) rest cut =
    ap (λ z. joined sofar (z ∷ t ∷ ss ++ rest)) cut.2.is
    ∙ send_joined room msn solicited invalidate (offset + length cut.0) cut.1 (sofar ++ cut.0) (t ∷ ss) rest cut.3
    ∙ ap (λ z. whole_of z solicited invalidate ∷ joined [] rest) (append_assoc sofar cut.0 cut.1 ∙ ap (λ z. sofar ++ z) (sym cut.2.cut))

pub all_joined : (numbers : Numbers) (ms : List (Request (List ℕ))) (ss : List (Segment (List ℕ))) → AreSpelled numbers 0 ms ss → joined [] ss ≡ sends ms
all_joined numbers [] ss s = ap (joined []) s
all_joined numbers (Message (Write stag to octets) ∷ ms) ss s =
    ap (joined []) s.2 ∙ write_joined _ stag to 0 octets [] s.0 s.1 s.3 ∙ all_joined numbers ms s.1 s.4
all_joined numbers (Message (Send octets solicited invalidate) ∷ ms) ss s =
    ap (joined []) s.2 ∙ send_joined _ numbers.send solicited invalidate 0 octets [] s.0 s.1 s.3
    ∙ ap (λ z. whole_of octets solicited invalidate ∷ z) (all_joined (numbers_after numbers (Message (Send octets solicited invalidate))) ms s.1 s.4)
all_joined numbers (Read request ∷ ms) ss s =
    ap (joined []) s.2 ∙ ap (λ z. joined [] (z ++ s.1)) s.3 ∙ all_joined (numbers_after numbers (Read request)) ms s.1 s.4

-- the octets that came of a Send that was begun, behind these segments
abbrev open_after : List ℕ → List (Segment (List ℕ)) → List ℕ
open_after sofar [] = sofar
open_after sofar (Tagged head octets ∷ ss) = open_after sofar ss
open_after sofar (Untagged head octets ∷ ss) = cond (eqb head.queue 0) (cond head.last (open_after [] ss) (open_after (sofar ++ octets) ss)) (open_after sofar ss)

joined-append : (sofar : List ℕ) (ss rest : List (Segment (List ℕ))) → joined sofar (ss ++ rest) ≡ joined sofar ss ++ joined (open_after sofar ss) rest
joined-append sofar [] rest = refl
joined-append sofar (Tagged head octets ∷ ss) rest = joined-append sofar ss rest
joined-append sofar (Untagged head octets ∷ ss) rest =
    go (eqb head.queue 0) head.last (joined-append [] ss rest) (joined-append (sofar ++ octets) ss rest) (joined-append sofar ss rest)
  where
    w : Whole
    w = completed head (sofar ++ octets)

    go : (q l : Bool) → joined [] (ss ++ rest) ≡ joined [] ss ++ joined (open_after [] ss) rest
        → joined (sofar ++ octets) (ss ++ rest) ≡ joined (sofar ++ octets) ss ++ joined (open_after (sofar ++ octets) ss) rest
        → joined sofar (ss ++ rest) ≡ joined sofar ss ++ joined (open_after sofar ss) rest
        → cond q (cond l (w ∷ joined [] (ss ++ rest)) (joined (sofar ++ octets) (ss ++ rest))) (joined sofar (ss ++ rest))
        ≡ cond q (cond l (w ∷ joined [] ss) (joined (sofar ++ octets) ss)) (joined sofar ss)
        ++ joined (cond q (cond l (open_after [] ss) (open_after (sofar ++ octets) ss)) (open_after sofar ss)) rest
    go true true next more same = ap (λ z. w ∷ z) next
    go true false next more same = more
    go false l next more same = same

pub in_order : (numbers : Numbers) (ms : List (Request (List ℕ))) (delivered later : List (Segment (List ℕ))) → AreSpelled numbers 0 ms (delivered ++ later) → IsPrefixOf (joined [] delivered) (sends ms)
in_order numbers ms delivered later s =
    (joined (open_after [] delivered) later, sym (joined-append [] delivered later) ∙ all_joined numbers ms (delivered ++ later) s)

-- ---- Writes
count_from-modulo : (c : Cell) (a b : ℕ) (xs : List ℕ) → a % 2 ^ 64 ≡ b % 2 ^ 64 → count_from c a xs ≡ count_from c b xs
count_from-modulo c a b [] e = refl
count_from-modulo c a b (x ∷ xs) e =
    let next : (a + 1) % 2 ^ 64 ≡ (b + 1) % 2 ^ 64 = omega arith in
    λ i. one_if (eqb (e i) c.to && eqb x c.octet) + count_from-modulo c (a + 1) (b + 1) xs next i

count_from-append : (c : Cell) (to : ℕ) (xs ys : List ℕ) → count_from c to (xs ++ ys) ≡ count_from c to xs + count_from c (to + length xs) ys
count_from-append c to [] ys =
    let same : to ≡ to + 0 = omega arith in
    let place : count_from c to ys ≡ count_from c (to + 0) ys = ap (λ k. count_from c k ys) same in
    omega (arith, place)
count_from-append c to (x ∷ xs) ys =
    let same : to + 1 + length xs ≡ to + suc (length xs) = omega arith in
    let place : count_from c (to + 1 + length xs) ys ≡ count_from c (to + suc (length xs)) ys = ap (λ k. count_from c k ys) same in
    omega (arith, count_from-append c (to + 1) xs ys, place)

count_in-append : (c : Cell) (stag : Stag) (to : ℕ) (xs ys : List ℕ) → count_in c stag to (xs ++ ys) ≡ count_in c stag to xs + count_in c stag (to + length xs) ys
count_in-append c stag to xs ys = go (eqb (number_of stag) c.stag)
  where
    go : (b : Bool) → cond b (count_from c to (xs ++ ys)) 0 ≡ cond b (count_from c to xs) 0 + cond b (count_from c (to + length xs) ys) 0
    go true = count_from-append c to xs ys
    go false = refl

count_in-modulo : (c : Cell) (stag : Stag) (to : ℕ) (xs : List ℕ) → count_in c stag (to % 2 ^ 64) xs ≡ count_in c stag to xs
count_in-modulo c stag to xs =
    let same : to % 2 ^ 64 % 2 ^ 64 ≡ to % 2 ^ 64 = omega arith in
    ap (λ n. cond (eqb (number_of stag) c.stag) n 0) (count_from-modulo c (to % 2 ^ 64) to xs same)

count_segments-append : (c : Cell) (ss rest : List (Segment (List ℕ))) → count_segments c (ss ++ rest) ≡ count_segments c ss + count_segments c rest
count_segments-append c [] rest = omega arith
count_segments-append c (Tagged head octets ∷ ss) rest = omega (arith, count_segments-append c ss rest)
count_segments-append c (Untagged head octets ∷ ss) rest = count_segments-append c ss rest

-- the segments of a Write have its octets, each once
write_counted : (c : Cell) (room : ℕ) (stag : Stag) (to offset : ℕ) (octets : List ℕ) (ss : List (Segment (List ℕ))) → IsCut room (write_segment stag to) offset octets ss
    → count_segments c ss ≡ count_in c stag (to + offset) octets
write_counted c room stag to offset octets [] cut = absurd cut
write_counted c room stag to offset octets (s ∷ []) cut =
    let one : count_segments c (s ∷ []) ≡ count_in c stag ((to + offset) % 2 ^ 64) octets + 0 = ap (λ z. count_segments c (z ∷ [])) cut.1 in
    omega (arith, one, count_in-modulo c stag (to + offset) octets)
write_counted c room stag to offset octets (s ∷ t ∷ ss) cut =
    let first : count_segments c (s ∷ t ∷ ss) ≡ count_in c stag ((to + offset) % 2 ^ 64) cut.0 + count_segments c (t ∷ ss) = ap (λ z. count_segments c (z ∷ t ∷ ss)) cut.2.is in
    let rest = write_counted c room stag to (offset + length cut.0) cut.1 (t ∷ ss) cut.3 in
    let same : to + (offset + length cut.0) ≡ to + offset + length cut.0 = omega arith in
    let place : count_in c stag (to + (offset + length cut.0)) cut.1 ≡ count_in c stag (to + offset + length cut.0) cut.1 = ap (λ k. count_in c stag k cut.1) same in
    let all : count_in c stag (to + offset) octets ≡ count_in c stag (to + offset) (cut.0 ++ cut.1) = ap (count_in c stag (to + offset)) cut.2.cut in
    omega (arith, first, count_in-modulo c stag (to + offset) cut.0, rest, place, all, count_in-append c stag (to + offset) cut.0 cut.1)

whole_write_counted : (c : Cell) (room : ℕ) (stag : Stag) (to : ℕ) (octets : List ℕ) (ss : List (Segment (List ℕ))) → IsCut room (write_segment stag to) 0 octets ss → count_segments c ss ≡ count_in c stag to octets
whole_write_counted c room stag to octets ss cut =
    let same : to + 0 ≡ to = omega arith in
    write_counted c room stag to 0 octets ss cut ∙ ap (λ k. count_in c stag k octets) same

send_counted : (c : Cell) (room msn : ℕ) (solicited : Bool) (invalidate : Option Stag) (offset : ℕ) (octets : List ℕ) (ss : List (Segment (List ℕ))) → IsCut room (send_segment msn solicited invalidate) offset octets ss
    → count_segments c ss ≡ 0
send_counted c room msn solicited invalidate offset octets [] cut = absurd cut
send_counted c room msn solicited invalidate offset octets (s ∷ []) cut = ap (λ z. count_segments c (z ∷ [])) cut.1
send_counted c room msn solicited invalidate offset octets (s ∷ t ∷ ss) cut =
    ap (λ z. count_segments c (z ∷ t ∷ ss)) cut.2.is ∙ send_counted c room msn solicited invalidate (offset + length cut.0) cut.1 (t ∷ ss) cut.3

all_counted : (c : Cell) (numbers : Numbers) (ms : List (Request (List ℕ))) (ss : List (Segment (List ℕ))) → AreSpelled numbers 0 ms ss → count_segments c ss ≡ count_writes c ms
all_counted c numbers [] ss s = ap (count_segments c) s
all_counted c numbers (Message (Write stag to octets) ∷ ms) ss s =
    omega (arith, ap (count_segments c) s.2, count_segments-append c s.0 s.1, whole_write_counted c _ stag to octets s.0 s.3, all_counted c numbers ms s.1 s.4)
all_counted c numbers (Message (Send octets solicited invalidate) ∷ ms) ss s =
    omega (
      arith,
      ap (count_segments c) s.2,
      count_segments-append c s.0 s.1,
      send_counted c _ numbers.send solicited invalidate 0 octets s.0 s.3,
      all_counted c (numbers_after numbers (Message (Send octets solicited invalidate))) ms s.1 s.4,
    )
all_counted c numbers (Read request ∷ ms) ss s =
    ap (count_segments c) s.2 ∙ ap (λ z. count_segments c (z ++ s.1)) s.3 ∙ all_counted c (numbers_after numbers (Read request)) ms s.1 s.4

-- ---- both bounds
-- two lists in two cuts: the first part of one begins with that of the other
abbrev Reaches : List (Segment (List ℕ)) → List (Segment (List ℕ)) → List (Segment (List ℕ)) → List (Segment (List ℕ)) → Type 0
Reaches delivered later mine rest = (more : List (Segment (List ℕ))) × (delivered ≡ mine ++ more) × (more ++ later ≡ rest)

abbrev Stops : List (Segment (List ℕ)) → List (Segment (List ℕ)) → Type 0
Stops delivered mine = (s : Segment (List ℕ)) × (more : List (Segment (List ℕ))) × (mine ≡ delivered ++ s ∷ more)

either : (delivered later mine rest : List (Segment (List ℕ))) → delivered ++ later ≡ mine ++ rest → Reaches delivered later mine rest ⊎ Stops delivered mine
either delivered later [] rest e = inl (delivered, refl, e)
either [] later (m ∷ mine) rest e = inr (m, mine, refl)
either (d ∷ delivered) later (m ∷ mine) rest e =
    let same : d ≡ m = cc in
    let tail : delivered ++ later ≡ mine ++ rest = cc in
    elim (either delivered later mine rest tail) [
      | inl r ↦ inl (r.0, (λ i. same i ∷ r.1 i), r.2)
      | inr r ↦ inr (r.0, r.1, (λ i. sym same i ∷ r.2 i))
    ]

-- segments of one message that stop before its last complete nothing
stopped_write : (room : ℕ) (stag : Stag) (to offset : ℕ) (octets sofar : List ℕ) (delivered : List (Segment (List ℕ))) (s : Segment (List ℕ)) (more : List (Segment (List ℕ)))
    → IsCut room (write_segment stag to) offset octets (delivered ++ s ∷ more) → joined sofar delivered ≡ []
stopped_write room stag to offset octets sofar [] s more cut = refl
stopped_write room stag to offset octets sofar (d ∷ []) s more cut = ap (λ z. joined sofar (z ∷ [])) cut.2.is
stopped_write room stag to offset octets sofar (d ∷ e ∷ ds) s more cut =
    ap (λ z. joined sofar (z ∷ e ∷ ds)) cut.2.is ∙ stopped_write room stag to (offset + length cut.0) cut.1 sofar (e ∷ ds) s more cut.3

stopped_send : (room msn : ℕ) (solicited : Bool) (invalidate : Option Stag) (offset : ℕ) (octets sofar : List ℕ) (delivered : List (Segment (List ℕ))) (s : Segment (List ℕ)) (more : List (Segment (List ℕ)))
    → IsCut room (send_segment msn solicited invalidate) offset octets (delivered ++ s ∷ more) → joined sofar delivered ≡ []
stopped_send room msn solicited invalidate offset octets sofar [] s more cut = refl
stopped_send room msn solicited invalidate offset octets sofar (d ∷ []) s more cut = ap (λ z. joined sofar (z ∷ [])) cut.2.is
stopped_send room msn solicited invalidate offset octets sofar (d ∷ e ∷ ds) s more cut =
    ap (λ z. joined sofar (z ∷ e ∷ ds)) cut.2.is ∙ stopped_send room msn solicited invalidate (offset + length cut.0) cut.1 (sofar ++ cut.0) (e ∷ ds) s more cut.3

stopped_read : (sofar : List ℕ) (delivered : List (Segment (List ℕ))) (s r : Segment (List ℕ)) (more : List (Segment (List ℕ))) → delivered ++ s ∷ more ≡ r ∷ [] → joined sofar delivered ≡ []
stopped_read sofar [] s r more e = refl
stopped_read sofar (d ∷ []) s r more e = cc
stopped_read sofar (d ∷ f ∷ ds) s r more e = cc

nothing_joined : (k : ℕ) (delivered : List (Segment (List ℕ))) → joined [] delivered ≡ [] → k < length (joined [] delivered) → ⊥
nothing_joined k delivered e below = omega (arith, ap length e)

before_write : (c : Cell) (k room : ℕ) (stag : Stag) (to : ℕ) (octets : List ℕ) (ms : List (Request (List ℕ))) (delivered later mine rest : List (Segment (List ℕ)))
    → IsCut room (write_segment stag to) 0 octets mine → delivered ++ later ≡ mine ++ rest → k < length (joined [] delivered)
    → ((more : List (Segment (List ℕ))) → more ++ later ≡ rest → k < length (joined [] more) → count_before c k ms ≤ count_segments c more)
    → count_in c stag to octets + count_before c k ms ≤ count_segments c delivered
before_write c k room stag to octets ms delivered later mine rest cut e below next =
    elim (either delivered later mine rest e) [
      | inl r ↦
          let same : joined [] delivered ≡ joined [] r.0 = ap (joined []) r.1 ∙ write_joined room stag to 0 octets [] mine r.0 cut in
          let beyond : count_before c k ms ≤ count_segments c r.0 = next r.0 r.2 (omega (arith, below, ap length same)) in
          let all : count_segments c delivered ≡ count_segments c (mine ++ r.0) = ap (count_segments c) r.1 in
          omega (arith, beyond, all, count_segments-append c mine r.0, whole_write_counted c room stag to octets mine cut)
      | inr r ↦ absurd (nothing_joined k delivered (stopped_write room stag to 0 octets [] delivered r.0 r.1 (subst (IsCut room (write_segment stag to) 0 octets) r.2 cut)) below)
    ]

before_read : (c : Cell) (k : ℕ) (s : Segment (List ℕ)) (ms : List (Request (List ℕ))) (delivered later mine rest : List (Segment (List ℕ)))
    → ((sofar : List ℕ) (ss : List (Segment (List ℕ))) → joined sofar (s ∷ ss) ≡ joined sofar ss) → ((ss : List (Segment (List ℕ))) → count_segments c (s ∷ ss) ≡ count_segments c ss)
    → mine ≡ s ∷ [] → delivered ++ later ≡ mine ++ rest → k < length (joined [] delivered)
    → ((more : List (Segment (List ℕ))) → more ++ later ≡ rest → k < length (joined [] more) → count_before c k ms ≤ count_segments c more)
    → count_before c k ms ≤ count_segments c delivered
before_read c k s ms delivered later mine rest quiet uncounted is e below next =
    elim (either delivered later mine rest e) [
      | inl r ↦
          let all : delivered ≡ s ∷ r.0 = r.1 ∙ ap (λ z. z ++ r.0) is in
          let same : joined [] delivered ≡ joined [] r.0 = ap (joined []) all ∙ quiet [] r.0 in
          let beyond : count_before c k ms ≤ count_segments c r.0 = next r.0 r.2 (omega (arith, below, ap length same)) in
          omega (arith, beyond, ap (count_segments c) all, uncounted r.0)
      | inr r ↦ absurd (nothing_joined k delivered (stopped_read [] delivered r.0 s r.1 (sym r.2 ∙ is)) below)
    ]

before_send : (c : Cell) (k room msn : ℕ) (solicited : Bool) (invalidate : Option Stag) (octets : List ℕ) (ms : List (Request (List ℕ))) (delivered later mine rest : List (Segment (List ℕ)))
    → IsCut room (send_segment msn solicited invalidate) 0 octets mine → delivered ++ later ≡ mine ++ rest → k < length (joined [] delivered)
    → ((j : ℕ) (more : List (Segment (List ℕ))) → more ++ later ≡ rest → j < length (joined [] more) → count_before c j ms ≤ count_segments c more)
    → count_before c k (Message (Send octets solicited invalidate) ∷ ms) ≤ count_segments c delivered
before_send c zero room msn solicited invalidate octets ms delivered later mine rest cut e below next = omega arith
before_send c (suc k) room msn solicited invalidate octets ms delivered later mine rest cut e below next =
    elim (either delivered later mine rest e) [
      | inl r ↦
          let same : joined [] delivered ≡ whole_of octets solicited invalidate ∷ joined [] r.0 = ap (joined []) r.1 ∙ send_joined room msn solicited invalidate 0 octets [] mine r.0 cut in
          let beyond : count_before c k ms ≤ count_segments c r.0 = next k r.0 r.2 (omega (arith, below, ap length same)) in
          let all : count_segments c delivered ≡ count_segments c (mine ++ r.0) = ap (count_segments c) r.1 in
          omega (arith, beyond, all, count_segments-append c mine r.0)
      | inr r ↦ absurd (nothing_joined (suc k) delivered (stopped_send room msn solicited invalidate 0 octets [] delivered r.0 r.1 (subst (IsCut room (send_segment msn solicited invalidate) 0 octets) r.2 cut)) below)
    ]

before : (c : Cell) (numbers : Numbers) (ms : List (Request (List ℕ))) (delivered later ss : List (Segment (List ℕ))) (k : ℕ) → delivered ++ later ≡ ss → AreSpelled numbers 0 ms ss → k < length (joined [] delivered)
    → count_before c k ms ≤ count_segments c delivered
before c numbers [] delivered later ss k e s below = omega arith
before c numbers (Message (Write stag to octets) ∷ ms) delivered later ss k e s below =
    before_write c k _ stag to octets ms delivered later s.0 s.1 s.3 (e ∙ s.2) below (λ more f b. before c numbers ms more later s.1 k f s.4 b)
before c numbers (Message (Send octets solicited invalidate) ∷ ms) delivered later ss k e s below =
    before_send c k _ numbers.send solicited invalidate octets ms delivered later s.0 s.1 s.3 (e ∙ s.2) below
    (λ j more f b. before c (numbers_after numbers (Message (Send octets solicited invalidate))) ms more later s.1 j f s.4 b)
before c numbers (Read request ∷ ms) delivered later ss k e s below =
    before_read c k (request_segment numbers.read request) ms delivered later s.0 s.1 (λ sofar rest. refl) (λ rest. refl) s.3 (e ∙ s.2) below
    (λ more f b. before c (numbers_after numbers (Read request)) ms more later s.1 k f s.4 b)

pub covered : (numbers : Numbers) (ms : List (Request (List ℕ))) (delivered later : List (Segment (List ℕ))) → AreSpelled numbers 0 ms (delivered ++ later) → (c : Cell) → IsCovered c ms delivered
covered numbers ms delivered later s c = record {
  before = λ k below. before c numbers ms delivered later (delivered ++ later) k refl s below;
  most = omega (arith, count_segments-append c delivered later, all_counted c numbers ms (delivered ++ later) s);
}
