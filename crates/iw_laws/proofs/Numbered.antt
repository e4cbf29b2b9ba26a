-- The numbers and offsets of the Sends' segments that carry messages in order: those of the messages, one after the other.
use Rattle.std.proofs.Common.{◌≡◌, ◌⊎◌, inl, inr, ℕ, suc, ◌+◌, ◌%◌, ◌^◌, ◌≤◌, List, [], ◌∷◌, ◌++◌, length, Option, Bool, true, false, cond, refl, sym, ap, ◌∙◌, arith, length-append}
use Rattle.std.specs.Prelude.{nat_eq}
use Rattle.std.proofs.lemmas.Bool.Decides.{nat_tests}
use Rattle.iw_octets.specs.declared.head.UntaggedHead.{UntaggedHead}
use Rattle.iw_octets.specs.declared.message.Message.TheVariants.{Write, Send}
use Rattle.iw_octets.specs.declared.segment.Segment.{Segment}
use Rattle.iw_octets.specs.declared.segment.Segment.TheVariants.{Tagged, Untagged}
use Rattle.iw_octets.specs.declared.stag.Stag.{Stag}
use Rattle.iw_queues.specs.declared.request.Request.{Request}
use Rattle.iw_queues.specs.declared.request.Request.TheVariants.{Message as Posted, Read}
use Rattle.iw_queues.specs.Joined.{joined, completed}
use Rattle.iw_queues.specs.Segments.{Numbers, numbers_after, write_segment, send_segment, request_segment, IsCut, AreSpelled}
use Rattle.iw_laws.specs.Words.{Octets}
use Rattle.iw_laws.proofs.Joins.{begun, joined-append, begun-append}

abbrev pub Segments : Type 0
Segments = List (Segment Octets)

-- each Send's segment has the number of its message, of which the first is 1, and the offset at which those before it end
abbrev pub Numbered : Segments → Type 0
Numbered ss =
    (a b : Segments) (head : UntaggedHead) (payload : Octets) → ss ≡ a ++ Untagged head payload ∷ b → head.queue ≡ 0
    → (head.msn ≡ (1 + length (joined [] a)) % 2 ^ 32) × (head.mo ≡ length (begun [] a))

-- ---- what segments complete

-- no fewer messages are complete with more segments
pub more_joined : (a c : Segments) → length (joined [] a) ≤ length (joined [] (a ++ c))
more_joined a c = omega (arith, ap length (joined-append [] a c), length-append (joined [] a) (joined (begun [] a) c))

nothing : {A : Type 0} (xs : List A) → length xs ≡ 0 → xs ≡ []
nothing [] e = refl
nothing (x ∷ xs) e = absurd (omega (arith, e))

-- where they complete nothing, the message that was begun has no fewer octets
longer : (sofar : List ℕ) (ss : Segments) → joined sofar ss ≡ [] → length sofar ≤ length (begun sofar ss)
longer sofar [] e = omega arith
longer sofar (Tagged head payload ∷ ss) e = longer sofar ss e
longer sofar (Untagged head payload ∷ ss) e = go (λ z h. longer z ss h) (nat_eq head.queue 0) head.last e
  where
    go : ((z : List ℕ) → joined z ss ≡ [] → length z ≤ length (begun z ss)) → (mine last : Bool)
        → cond mine (cond last (completed head (sofar ++ payload) ∷ joined [] ss) (joined (sofar ++ payload) ss)) (joined sofar ss) ≡ []
        → length sofar ≤ length (cond mine (cond last (begun [] ss) (begun (sofar ++ payload) ss)) (begun sofar ss))
    go same true true h = absurd (omega (arith, ap length h))
    go same true false h = omega (arith, same (sofar ++ payload) h, length-append sofar payload)
    go same false last h = same sofar h

-- of two segments of one message the first ends where the second begins, or before
pub apart : (a c : Segments) (head : UntaggedHead) (payload : Octets) → head.queue ≡ 0 → length (joined [] (a ++ Untagged head payload ∷ c)) ≡ length (joined [] a)
    → length (begun [] a) + length payload ≤ length (begun [] (a ++ Untagged head payload ∷ c))
apart a c head payload queue same =
    let more : Segments = Untagged head payload ∷ c in
    let none : joined (begun [] a) more ≡ [] =
    nothing (joined (begun [] a) more) (omega (arith, same, ap length (joined-append [] a more), length-append (joined [] a) (joined (begun [] a) more))) in
    let mine : nat_eq head.queue 0 ≡ true = grind (arith, nat_tests) in
    go head.last
    (sym (ap (λ b. cond b (cond head.last (completed head (begun [] a ++ payload) ∷ joined [] c) (joined (begun [] a ++ payload) c)) (joined (begun [] a) c)) mine) ∙ none)
    (begun-append [] a more ∙ ap (λ b. cond b (cond head.last (begun [] c) (begun (begun [] a ++ payload) c)) (begun (begun [] a) c)) mine)
  where
    go : (last : Bool) → cond last (completed head (begun [] a ++ payload) ∷ joined [] c) (joined (begun [] a ++ payload) c) ≡ []
        → begun [] (a ++ Untagged head payload ∷ c) ≡ cond last (begun [] c) (begun (begun [] a ++ payload) c)
        → length (begun [] a) + length payload ≤ length (begun [] (a ++ Untagged head payload ∷ c))
    go true h e = absurd (omega (arith, ap length h))
    go false h e = omega (arith, ap length e, longer (begun [] a ++ payload) c h, length-append (begun [] a) payload)

-- ---- two parts of one list

-- where one begins that lies in a list of two parts
pub split_there : (a b mine later : Segments) (x : Segment Octets) → a ++ x ∷ b ≡ mine ++ later
    → ((more : Segments) × (a ≡ mine ++ more) × (more ++ x ∷ b ≡ later)) ⊎ ((more : Segments) × (mine ≡ a ++ x ∷ more))
split_there a b [] later x e = inl (a, refl, e)
split_there [] b (m ∷ mine) later x e = let same : x ≡ m = cc e in inr (mine, ap (λ z. z ∷ mine) (sym same))
split_there (y ∷ a) b (m ∷ mine) later x e =
    let same : y ≡ m = cc e in
    let tail : a ++ x ∷ b ≡ mine ++ later = cc e in
    elim (split_there a b mine later x tail) [
      | inl r ↦ inl (r.0, (λ i. same i ∷ r.1 i), r.2)
      | inr r ↦ inr (r.0, (λ i. sym same i ∷ r.1 i))
    ]

-- two of one list that have as many before them are the same
pub same_there : (a b c d : Segments) (x y : Segment Octets) → a ++ x ∷ b ≡ c ++ y ∷ d → length a ≡ length c → (a ≡ c) × (x ≡ y)
same_there [] b [] d x y e n = (refl, cc e)
same_there [] b (z ∷ c) d x y e n = absurd (omega (arith, n))
same_there (w ∷ a) b [] d x y e n = absurd (omega (arith, n))
same_there (w ∷ a) b (z ∷ c) d x y e n =
    let same : w ≡ z = cc e in
    let tail : a ++ x ∷ b ≡ c ++ y ∷ d = cc e in
    let r = same_there a b c d x y tail (omega (arith, n)) in
    ((λ i. same i ∷ r.0 i), r.1)

-- and where one has fewer before it, the other lies past it
pub before_there : (a b c d : Segments) (x y : Segment Octets) → a ++ x ∷ b ≡ c ++ y ∷ d → suc (length a) ≤ length c → (more : Segments) × (c ≡ a ++ x ∷ more)
before_there [] b [] d x y e n = absurd (omega (arith, n))
before_there [] b (z ∷ c) d x y e n = let same : x ≡ z = cc e in (c, ap (λ w. w ∷ c) (sym same))
before_there (w ∷ a) b [] d x y e n = absurd (omega (arith, n))
before_there (w ∷ a) b (z ∷ c) d x y e n =
    let same : w ≡ z = cc e in
    let tail : a ++ x ∷ b ≡ c ++ y ∷ d = cc e in
    let r = before_there a b c d x y tail (omega (arith, n)) in
    (r.0, (λ i. sym same i ∷ r.1 i))

-- ---- the segments of one message

msn_in : Segment Octets → ℕ
msn_in (Tagged head payload) = 0
msn_in (Untagged head payload) = head.msn

mo_in : Segment Octets → ℕ
mo_in (Tagged head payload) = 0
mo_in (Untagged head payload) = head.mo

-- the queue of a segment; a tagged one has none
abbrev pub queue_in : Segment Octets → ℕ
queue_in (Tagged head payload) = 3
queue_in (Untagged head payload) = head.queue

-- a segment of a Send has its number, and the offset of its octets
record IsOfSend (msn : ℕ) (sofar : List ℕ) (a : Segments) (head : UntaggedHead) : Type 0 where
  pub msn_is : head.msn ≡ msn
  pub none : joined sofar a ≡ []
  pub mo_is : head.mo ≡ length (begun sofar a)

in_send : (room msn : ℕ) (solicited : Bool) (invalidate : Option Stag) (offset : ℕ) (octets : List ℕ) (ss : Segments) → IsCut room (send_segment msn solicited invalidate) offset octets ss
    → (sofar : List ℕ) → length sofar ≡ offset → (a b : Segments) (head : UntaggedHead) (payload : Octets) → ss ≡ a ++ Untagged head payload ∷ b → IsOfSend msn sofar a head
unfolding msn_in mo_in
in_send room msn solicited invalidate offset octets [] cut sofar size a b head payload e = absurd cut
in_send room msn solicited invalidate offset octets (s ∷ []) cut sofar size [] b head payload e =
    let same : Untagged head payload ≡ send_segment msn solicited invalidate offset true octets = cc (e, cut.1) in
    record { msn_is = ap msn_in same; none = refl; mo_is = ap mo_in same ∙ sym size }
in_send room msn solicited invalidate offset octets (s ∷ []) cut sofar size (x ∷ a) b head payload e =
    absurd (omega (arith, ap length e, length-append a (Untagged head payload ∷ b)))
in_send room msn solicited invalidate offset octets (s ∷ t ∷ ss) cut sofar size [] b head payload e =
    let first : Untagged head payload ≡ s = cc e in
    let same : Untagged head payload ≡ send_segment msn solicited invalidate offset false cut.0 = first ∙ cut.2.is in
    record { msn_is = ap msn_in same; none = refl; mo_is = ap mo_in same ∙ sym size }
in_send room msn solicited invalidate offset octets (s ∷ t ∷ ss) cut sofar size (x ∷ a) b head payload e =
    let first : x ≡ s = cc e in
    let tail : t ∷ ss ≡ a ++ Untagged head payload ∷ b = cc e in
    let same : x ≡ send_segment msn solicited invalidate offset false cut.0 = first ∙ cut.2.is in
    let r = in_send room msn solicited invalidate (offset + length cut.0) cut.1 (t ∷ ss) cut.3 (sofar ++ cut.0) (omega (arith, size, length-append sofar cut.0)) a b head payload tail in
    record { msn_is = r.msn_is; none = ap (λ z. joined sofar (z ∷ a)) same ∙ r.none; mo_is = r.mo_is ∙ ap (λ z. length (begun sofar (z ∷ a))) (sym same) }

-- all of them complete it
send_whole : (room msn : ℕ) (solicited : Bool) (invalidate : Option Stag) (offset : ℕ) (octets : List ℕ) (ss : Segments) → IsCut room (send_segment msn solicited invalidate) offset octets ss
    → (sofar : List ℕ) → (length (joined sofar ss) ≡ 1) × (begun sofar ss ≡ [])
send_whole room msn solicited invalidate offset octets [] cut sofar = absurd cut
send_whole room msn solicited invalidate offset octets (s ∷ []) cut sofar = (ap (λ z. length (joined sofar (z ∷ []))) cut.1, ap (λ z. begun sofar (z ∷ [])) cut.1)
send_whole room msn solicited invalidate offset octets (s ∷ t ∷ ss) cut sofar =
    let r = send_whole room msn solicited invalidate (offset + length cut.0) cut.1 (t ∷ ss) cut.3 (sofar ++ cut.0) in
    (ap (λ z. length (joined sofar (z ∷ t ∷ ss))) cut.2.is ∙ r.0, ap (λ z. begun sofar (z ∷ t ∷ ss)) cut.2.is ∙ r.1)

-- those of a Write are none of a Send
record IsNoSend (ss : Segments) : Type 0 where
  pub none : (a b : Segments) (head : UntaggedHead) (payload : Octets) → ss ≡ a ++ Untagged head payload ∷ b → head.queue ≡ 0 → ⊥
  pub joined_is : (sofar : List ℕ) → joined sofar ss ≡ []
  pub begun_is : (sofar : List ℕ) → begun sofar ss ≡ sofar

in_write : (room : ℕ) (stag : Stag) (to offset : ℕ) (octets : List ℕ) (ss : Segments) → IsCut room (write_segment stag to) offset octets ss → IsNoSend ss
in_write room stag to offset octets [] cut = absurd cut
in_write room stag to offset octets (s ∷ []) cut = record {
  none = λ a b head payload e queue. go a b head payload e;
  joined_is = λ sofar. ap (λ z. joined sofar (z ∷ [])) cut.1;
  begun_is = λ sofar. ap (λ z. begun sofar (z ∷ [])) cut.1;
}
  where
    go : (a b : Segments) (head : UntaggedHead) (payload : Octets) → s ∷ [] ≡ a ++ Untagged head payload ∷ b → ⊥
    go [] b head payload e = let same : Untagged head payload ≡ write_segment stag to offset true octets = cc (e, cut.1) in cc same
    go (x ∷ a) b head payload e = omega (arith, ap length e, length-append a (Untagged head payload ∷ b))
in_write room stag to offset octets (s ∷ t ∷ ss) cut =
    let r = in_write room stag to (offset + length cut.0) cut.1 (t ∷ ss) cut.3 in
    record {
      none = λ a b head payload e queue. go r a b head payload e queue;
      joined_is = λ sofar. ap (λ z. joined sofar (z ∷ t ∷ ss)) cut.2.is ∙ r.joined_is sofar;
      begun_is = λ sofar. ap (λ z. begun sofar (z ∷ t ∷ ss)) cut.2.is ∙ r.begun_is sofar;
    }
  where
    go : IsNoSend (t ∷ ss) → (a b : Segments) (head : UntaggedHead) (payload : Octets) → s ∷ t ∷ ss ≡ a ++ Untagged head payload ∷ b → head.queue ≡ 0 → ⊥
    go r [] b head payload e queue =
        let first : Untagged head payload ≡ s = cc e in
        let same : Untagged head payload ≡ write_segment stag to offset false cut.0 = first ∙ cut.2.is in
        cc same
    go r (x ∷ a) b head payload e queue = let tail : t ∷ ss ≡ a ++ Untagged head payload ∷ b = cc e in r.none a b head payload tail queue

-- nor is that of a Read
in_read : (s : Segment Octets) (ss : Segments) → queue_in s ≡ 1 → ((sofar : List ℕ) → joined sofar (s ∷ []) ≡ []) → ((sofar : List ℕ) → begun sofar (s ∷ []) ≡ sofar) → ss ≡ s ∷ [] → IsNoSend ss
in_read s ss queue joined_is begun_is is = record {
  none = λ a b head payload e mine. go a b head payload (sym is ∙ e) mine;
  joined_is = λ sofar. ap (joined sofar) is ∙ joined_is sofar;
  begun_is = λ sofar. ap (begun sofar) is ∙ begun_is sofar;
}
  where
    go : (a b : Segments) (head : UntaggedHead) (payload : Octets) → s ∷ [] ≡ a ++ Untagged head payload ∷ b → head.queue ≡ 0 → ⊥
    go [] b head payload e mine = let same : s ≡ Untagged head payload = cc e in omega (arith, ap queue_in same, queue, mine)
    go (x ∷ a) b head payload e mine = omega (arith, ap length e, length-append a (Untagged head payload ∷ b))

-- ---- those of messages, one after the other

IsNumbered : ℕ → Segments → UntaggedHead → Type 0
IsNumbered n a head = (head.msn ≡ (1 + (n + length (joined [] a))) % 2 ^ 32) × (head.mo ≡ length (begun [] a))

-- past a message that is none
past_none : (n : ℕ) (mine more a : Segments) (head : UntaggedHead) → IsNoSend mine → a ≡ mine ++ more → IsNumbered n more head → IsNumbered n a head
unfolding IsNumbered
past_none n mine more a head w is k =
    let all : joined [] a ≡ joined [] more = ap (joined []) is ∙ joined-append [] mine more ∙ (λ i. w.joined_is [] i ++ joined (w.begun_is [] i) more) in
    let open_ : begun [] a ≡ begun [] more = ap (begun []) is ∙ begun-append [] mine more ∙ ap (λ z. begun z more) (w.begun_is []) in
    (k.0 ∙ ap (λ (z : List _). (1 + (n + length z)) % 2 ^ 32) (sym all), k.1 ∙ ap length (sym open_))

numbered_from : (numbers : Numbers) (ms : List (Request Octets)) (ss : Segments) → AreSpelled numbers 0 ms ss → (n : ℕ) → numbers.send ≡ (1 + n) % 2 ^ 32
    → (a b : Segments) (head : UntaggedHead) (payload : Octets) → ss ≡ a ++ Untagged head payload ∷ b → head.queue ≡ 0 → IsNumbered n a head
unfolding IsNumbered
numbered_from numbers [] ss s n number a b head payload e queue = absurd (omega (arith, ap length (sym e ∙ s), length-append a (Untagged head payload ∷ b)))
numbered_from numbers (Posted (Write stag to octets) ∷ ms) ss s n number a b head payload e queue =
    let w = in_write _ stag to 0 octets s.0 s.3 in
    elim (split_there a b s.0 s.1 (Untagged head payload) (sym e ∙ s.2)) [
      | inl r ↦ past_none n s.0 r.0 a head w r.1 (numbered_from numbers ms s.1 s.4 n number r.0 b head payload (sym r.2) queue)
      | inr r ↦ absurd (w.none a r.0 head payload r.1 queue)
    ]
numbered_from numbers (Read request ∷ ms) ss s n number a b head payload e queue =
    let w = in_read (request_segment numbers.read request) s.0 refl (λ sofar. refl) (λ sofar. refl) s.3 in
    elim (split_there a b s.0 s.1 (Untagged head payload) (sym e ∙ s.2)) [
      | inl r ↦ past_none n s.0 r.0 a head w r.1 (numbered_from (numbers_after numbers (Read request)) ms s.1 s.4 n number r.0 b head payload (sym r.2) queue)
      | inr r ↦ absurd (w.none a r.0 head payload r.1 queue)
    ]
numbered_from numbers (Posted (Send octets solicited invalidate) ∷ ms) ss s n number a b head payload e queue =
    elim (split_there a b s.0 s.1 (Untagged head payload) (sym e ∙ s.2)) [
      | inl r ↦
          let w = send_whole _ numbers.send solicited invalidate 0 octets s.0 s.3 [] in
          let k = numbered_from (numbers_after numbers (Posted (Send octets solicited invalidate))) ms s.1 s.4 (suc n) (omega (arith, number)) r.0 b head payload (sym r.2) queue in
          let all : length (joined [] a) ≡ suc (length (joined [] r.0)) =
          omega (arith, ap (λ z. length (joined [] z)) r.1, ap length (joined-append [] s.0 r.0), length-append (joined [] s.0) (joined (begun [] s.0) r.0), w.0, ap (λ z. length (joined z r.0)) w.1) in
          let open_ : begun [] a ≡ begun [] r.0 = ap (begun []) r.1 ∙ begun-append [] s.0 r.0 ∙ ap (λ z. begun z r.0) w.1 in
          (k.0 ∙ ap (λ m. m % 2 ^ 32) (let more : 1 + (suc n + length (joined [] r.0)) ≡ 1 + (n + length (joined [] a)) = omega (arith, all) in more), k.1 ∙ ap length (sym open_))
      | inr r ↦
          let w = in_send _ numbers.send solicited invalidate 0 octets s.0 s.3 [] refl a r.0 head payload r.1 in
          (w.msn_is ∙ number ∙ ap (λ m. (1 + m) % 2 ^ 32) (omega (arith, ap length w.none)), w.mo_is)
    ]

-- ---- so they are of what was posted
pub are_numbered : (numbers : Numbers) (ms : List (Request Octets)) (ss : Segments) → AreSpelled numbers 0 ms ss → numbers.send ≡ 1 → Numbered ss
unfolding IsNumbered
are_numbered numbers ms ss s first a b head payload e queue =
    let k = numbered_from numbers ms ss s 0 (first ∙ omega arith) a b head payload e queue in
    (k.0 ∙ ap (λ m. m % 2 ^ 32) (omega arith), k.1)
