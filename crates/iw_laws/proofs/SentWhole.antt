-- What the segments that an end sent carry to its end: of the messages that were posted those whose last segments are among them.
use Rattle.std.proofs.Common.{◌≡◌, ℕ, suc, ◌+◌, ◌-◌, ◌<◌, ◌≤◌, inl, inr, List, [], ◌∷◌, ◌++◌, length, take, Bool, true, false, None, refl, sym, ap, ◌∙◌, subst, arith, length-append}
use Rattle.std.proofs.lemmas.List.{append-nil}
use Rattle.iw_octets.specs.declared.message.Message.TheVariants.{Write, Send}
use Rattle.iw_octets.specs.declared.segment.Segment.{Segment}
use Rattle.iw_octets.specs.declared.stag.Stag.{Stag}
use Rattle.iw_queues.specs.declared.request.Request.{Request}
use Rattle.iw_queues.specs.declared.request.Request.TheVariants.{Message as Posted, Read}
use Rattle.iw_queues.specs.Joined.{Cell, joined, sends, count_writes, count_segments}
use Rattle.iw_queues.specs.Laws.{IsCovered}
use Rattle.iw_queues.specs.Segments.{Numbers, numbers_after, write_segment, send_segment, IsCut, AreSegments, AreSpelled}
use Rattle.iw_queues.proofs.Cuts.{all_joined, covered}
use Rattle.iw_laws.specs.Words.{Octets}
use Rattle.iw_laws.specs.Turns.{Answer}
use Rattle.iw_laws.specs.Merged.{Item, Post, Response, posts_in, response_segment, AreMerged}
use Rattle.iw_laws.specs.Rules.{FitsPosted}
use Rattle.iw_laws.specs.Faithful.{reads_among}
use Rattle.iw_laws.proofs.Lists.{Each}
use Rattle.iw_laws.proofs.Joins.{begun, joined-append, count-append, count_writes-append, requests_in, requests-append}
use Rattle.iw_laws.proofs.Numbered.{Segments}
use Rattle.iw_laws.proofs.Counts.{count_last, count_last-append, merged_last}
use Rattle.iw_laws.proofs.Responses.{either, merged_requests}

-- ---- segments of one message, or of one response

module _ {A : Type 0} (g : Octets → Segments → A) (base : A) (room : ℕ) (segment : ℕ → Bool → Octets → Segment Octets) (after : Octets → Octets → Octets)
    (each : (z : Octets) (o : ℕ) (x : Octets) (ss : Segments) → g z (segment o false x ∷ ss) ≡ g (after z x) ss) where
  -- that stop before the last
  stops : ((z : Octets) → g z [] ≡ base) → (z : Octets) (offset : ℕ) (octets : Octets) (first : Segments) (s : Segment Octets) (more : Segments) → IsCut room segment offset octets (first ++ s ∷ more) → g z first ≡ base
  stops none z offset octets [] s more cut = none z
  stops none z offset octets (d ∷ []) s more cut = ap (λ y. g z (y ∷ [])) cut.2.is ∙ each z offset cut.0 [] ∙ none (after z cut.0)
  stops none z offset octets (d ∷ e ∷ ds) s more cut =
      ap (λ y. g z (y ∷ e ∷ ds)) cut.2.is ∙ each z offset cut.0 (e ∷ ds) ∙ stops none (after z cut.0) (offset + length cut.0) cut.1 (e ∷ ds) s more cut.3

  -- all of them
  ends : ((z : Octets) (o : ℕ) (x : Octets) → g z (segment o true x ∷ []) ≡ base) → (z : Octets) (offset : ℕ) (octets : Octets) (ss : Segments) → IsCut room segment offset octets ss → g z ss ≡ base
  ends last z offset octets [] cut = absurd cut
  ends last z offset octets (s ∷ []) cut = ap (λ y. g z (y ∷ [])) cut.1 ∙ last z offset octets
  ends last z offset octets (s ∷ t ∷ ss) cut =
      ap (λ y. g z (y ∷ t ∷ ss)) cut.2.is ∙ each z offset cut.0 (t ∷ ss) ∙ ends last (after z cut.0) (offset + length cut.0) cut.1 (t ∷ ss) cut.3

abbrev stay : Octets → Octets → Octets
stay z x = z

abbrev grow : Octets → Octets → Octets
grow z x = z ++ x

-- segments that are all of these messages
record AreWhole (ms : List (Request Octets)) (ss : Segments) : Type 0 where
  pub joined_are : joined [] ss ≡ sends ms
  pub begun_is : begun [] ss ≡ []
  pub requests_are : requests_in ss ≡ reads_among ms
  pub writes : (c : Cell) → count_writes c ms ≤ count_segments c ss
  pub lasts : count_last ss ≡ length ms

-- and those that end none
record EndNone (ss : Segments) : Type 0 where
  pub joined_are : joined [] ss ≡ []
  pub requests_are : requests_in ss ≡ []
  pub lasts : count_last ss ≡ 0

-- a Send behind a Write tells that all its octets are there
writes_whole : (numbers : Numbers) (stag : Stag) (to : ℕ) (octets : Octets) (mine : Segments) → AreSegments numbers (Posted (Write stag to octets)) 0 mine → (c : Cell) → count_writes c (Posted (Write stag to octets) ∷ []) ≤ count_segments c mine
writes_whole numbers stag to octets mine one c =
    let other : Segment Octets = send_segment numbers.send false None 0 true [] in
    let ms : List (Request Octets) = Posted (Write stag to octets) ∷ Posted (Send [] false None) ∷ [] in
    let all : AreSpelled numbers 0 ms (mine ++ other ∷ []) = (mine, other ∷ [], refl, one, (other ∷ [], [], refl, (omega arith, refl), refl)) in
    let both : IsCovered c ms (mine ++ other ∷ []) = covered numbers ms (mine ++ other ∷ []) [] (subst (AreSpelled numbers 0 ms) (sym (append-nil (mine ++ other ∷ []))) all) c in
    let some : 0 < length (joined [] (mine ++ other ∷ [])) = omega (arith, ap length (all_joined numbers ms (mine ++ other ∷ []) all)) in
    omega (arith, both.before 0 some, count-append c mine (other ∷ []))

message_whole : (numbers : Numbers) (m : Request Octets) (mine : Segments) → AreSegments numbers m 0 mine → FitsPosted m → AreWhole (m ∷ []) mine
message_whole numbers m mine one fits = record {
  joined_are = all_joined numbers (m ∷ []) mine (mine, [], sym (append-nil mine), one, refl);
  begun_is = none_begun m one;
  requests_are = merged_requests numbers 0 (Post m ∷ []) mine (mine, [], sym (append-nil mine), one, refl) (fits, tt);
  writes = placed m one;
  lasts = merged_last numbers (Post m ∷ []) mine (mine, [], sym (append-nil mine), one, refl);
}
  where
    none_begun : (m : Request Octets) → AreSegments numbers m 0 mine → begun [] mine ≡ []
    none_begun (Posted (Write stag to octets)) cut = ends (λ z ss. begun [] ss) [] _ (write_segment stag to) stay (λ z o x ss. refl) (λ z o x. refl) [] 0 octets mine cut
    none_begun (Posted (Send octets solicited invalidate)) cut = ends begun [] _ (send_segment numbers.send solicited invalidate) grow (λ z o x ss. refl) (λ z o x. refl) [] 0 octets mine cut
    none_begun (Read request) cut = ap (begun []) cut

    placed : (m : Request Octets) → AreSegments numbers m 0 mine → (c : Cell) → count_writes c (m ∷ []) ≤ count_segments c mine
    placed (Posted (Write stag to octets)) cut c = writes_whole numbers stag to octets mine cut c
    placed (Posted (Send octets solicited invalidate)) cut c = omega arith
    placed (Read request) cut c = omega arith

response_whole : (numbers : Numbers) (a : Answer) (mine : Segments) → length a.octets ≡ a.request.size → IsCut (64512 - 14) (response_segment a.request) 0 a.octets mine → AreWhole [] mine
response_whole numbers a mine size cut = record {
  joined_are = ends (λ z ss. joined [] ss) [] _ (response_segment a.request) stay (λ z o x ss. refl) (λ z o x. refl) [] 0 a.octets mine cut;
  begun_is = ends (λ z ss. begun [] ss) [] _ (response_segment a.request) stay (λ z o x ss. refl) (λ z o x. refl) [] 0 a.octets mine cut;
  requests_are = merged_requests numbers 0 (Response a ∷ []) mine (mine, [], sym (append-nil mine), (size, cut), refl) tt;
  writes = λ c. omega arith;
  lasts = merged_last numbers (Response a ∷ []) mine (mine, [], sym (append-nil mine), (size, cut), refl);
}

-- segments that stop before the last of a message or a response end nothing
cut_stopped : (room : ℕ) (segment : ℕ → Bool → Octets → Segment Octets) (after : Octets → Octets → Octets) → ((z : Octets) (o : ℕ) (x : Octets) (ss : Segments) → joined z (segment o false x ∷ ss) ≡ joined (after z x) ss)
    → ((o : ℕ) (x : Octets) (ss : Segments) → requests_in (segment o false x ∷ ss) ≡ requests_in ss) → ((o : ℕ) (x : Octets) (ss : Segments) → count_last (segment o false x ∷ ss) ≡ count_last ss)
    → (octets : Octets) (first : Segments) (s : Segment Octets) (more : Segments) → IsCut room segment 0 octets (first ++ s ∷ more) → EndNone first
cut_stopped room segment after joins asks lasts octets first s more cut = record {
  joined_are = stops joined [] room segment after joins (λ z. refl) [] 0 octets first s more cut;
  requests_are = stops (λ z ss. requests_in ss) [] room segment after (λ z. asks) (λ z. refl) [] 0 octets first s more cut;
  lasts = stops (λ z ss. count_last ss) 0 room segment after (λ z. lasts) (λ z. refl) [] 0 octets first s more cut;
}

message_stopped : (numbers : Numbers) (m : Request Octets) (first : Segments) (s : Segment Octets) (more : Segments) → AreSegments numbers m 0 (first ++ s ∷ more) → EndNone first
message_stopped numbers (Posted (Write stag to octets)) first s more cut = cut_stopped _ (write_segment stag to) stay (λ z o x ss. refl) (λ o x ss. refl) (λ o x ss. omega arith) octets first s more cut
message_stopped numbers (Posted (Send octets solicited invalidate)) first s more cut =
    cut_stopped _ (send_segment numbers.send solicited invalidate) grow (λ z o x ss. refl) (λ o x ss. refl) (λ o x ss. omega arith) octets first s more cut
message_stopped numbers (Read request) [] s more cut = record { joined_are = refl; requests_are = refl; lasts = refl }
message_stopped numbers (Read request) (d ∷ first) s more cut = absurd (omega (arith, ap length cut, length-append first (s ∷ more)))

response_stopped : (a : Answer) (first : Segments) (s : Segment Octets) (more : Segments) → IsCut (64512 - 14) (response_segment a.request) 0 a.octets (first ++ s ∷ more) → EndNone first
response_stopped a first s more cut = cut_stopped _ (response_segment a.request) stay (λ z o x ss. refl) (λ o x ss. refl) (λ o x ss. omega arith) a.octets first s more cut

-- ---- of messages and responses, one after the other

-- of these messages those that the segments carry to their ends: the Sends are complete, the Reads asked for, the Writes' octets there
pub record AreSentIn (posts : List (Request Octets)) (first : Segments) : Type 0 where
  pub joined_are : joined [] first ≡ sends (take (count_last first) posts)
  pub requests_are : requests_in first ≡ reads_among (take (count_last first) posts)
  pub writes : (c : Cell) → count_writes c (take (count_last first) posts) ≤ count_segments c first

none_sent : (posts : List (Request Octets)) (first : Segments) → EndNone first → AreSentIn posts first
none_sent posts first w = record {
  joined_are = w.joined_are ∙ ap (λ n. sends (take n posts)) (sym w.lasts);
  requests_are = w.requests_are ∙ ap (λ n. reads_among (take n posts)) (sym w.lasts);
  writes = λ c. subst (λ n. count_writes c (take n posts) ≤ count_segments c first) (sym w.lasts) (omega arith);
}

sends-first : (m : Request Octets) (ms : List (Request Octets)) → sends (m ∷ []) ++ sends ms ≡ sends (m ∷ ms)
sends-first (Posted (Write stag to octets)) ms = refl
sends-first (Posted (Send octets solicited invalidate)) ms = refl
sends-first (Read request) ms = refl

reads-first : (m : Request Octets) (ms : List (Request Octets)) → reads_among (m ∷ []) ++ reads_among ms ≡ reads_among (m ∷ ms)
reads-first (Posted message) ms = refl
reads-first (Read request) ms = refl

-- one whole message more
past_message : (m : Request Octets) (posts : List (Request Octets)) (mine more first : Segments) → AreWhole (m ∷ []) mine → first ≡ mine ++ more → AreSentIn posts more → AreSentIn (m ∷ posts) first
past_message m posts mine more first w is k =
    let count : count_last first ≡ suc (count_last more) = omega (arith, ap count_last is, count_last-append mine more, w.lasts) in
    let rest : List (Request Octets) = take (count_last more) posts in
    record {
      joined_are = ap (joined []) is ∙ joined-append [] mine more ∙ (λ i. w.joined_are i ++ joined (w.begun_is i) more) ∙ ap (λ z. sends (m ∷ []) ++ z) k.joined_are ∙ sends-first m rest
          ∙ ap (λ n. sends (take n (m ∷ posts))) (sym count);
      requests_are = ap requests_in is ∙ requests-append mine more ∙ (λ i. w.requests_are i ++ k.requests_are i) ∙ reads-first m rest ∙ ap (λ n. reads_among (take n (m ∷ posts))) (sym count);
      writes = λ c. subst (λ n. count_writes c (take n (m ∷ posts)) ≤ count_segments c first) (sym count)
          (omega (arith, w.writes c, k.writes c, ap (count_segments c) is, count-append c mine more, count_writes-append c (m ∷ []) rest));
    }

-- one whole response more
past_response : (posts : List (Request Octets)) (mine more first : Segments) → AreWhole [] mine → first ≡ mine ++ more → AreSentIn posts more → AreSentIn posts first
past_response posts mine more first w is k =
    let count : count_last first ≡ count_last more = omega (arith, ap count_last is, count_last-append mine more, w.lasts) in
    record {
      joined_are = ap (joined []) is ∙ joined-append [] mine more ∙ (λ i. w.joined_are i ++ joined (w.begun_is i) more) ∙ k.joined_are ∙ ap (λ n. sends (take n posts)) (sym count);
      requests_are = ap requests_in is ∙ requests-append mine more ∙ (λ i. w.requests_are i ++ k.requests_are i) ∙ ap (λ n. reads_among (take n posts)) (sym count);
      writes = λ c. subst (λ n. count_writes c (take n posts) ≤ count_segments c first) (sym count) (omega (arith, k.writes c, ap (count_segments c) is, count-append c mine more));
    }

none_front : (xs ys : Segments) → xs ++ ys ≡ [] → xs ≡ []
none_front [] ys e = refl
none_front (x ∷ xs) ys e = absurd (omega (arith, ap length e))

pub are_sent_in : (numbers : Numbers) (items : List Item) (first later ss : Segments) → first ++ later ≡ ss → AreMerged numbers 0 items ss → Each FitsPosted (posts_in items) → AreSentIn (posts_in items) first
are_sent_in numbers [] first later ss e h fits = none_sent [] first (subst EndNone (sym (none_front first later (e ∙ h))) (record { joined_are = refl; requests_are = refl; lasts = refl }))
are_sent_in numbers (Post m ∷ items) first later ss e (mine, rest, is, one, merged) fits =
    elim (either first later mine rest (e ∙ is)) [
      | inl r ↦ past_message m (posts_in items) mine r.0 first (message_whole numbers m mine one fits.0) r.1 (are_sent_in (numbers_after numbers m) items r.0 later rest r.2 merged fits.1)
      | inr r ↦ none_sent (m ∷ posts_in items) first (message_stopped numbers m first r.0 r.1 (subst (AreSegments numbers m 0) r.2 one))
    ]
are_sent_in numbers (Response a ∷ items) first later ss e (mine, rest, is, one, merged) fits =
    elim (either first later mine rest (e ∙ is)) [
      | inl r ↦ past_response (posts_in items) mine r.0 first (response_whole numbers a mine one.0 one.1) r.1 (are_sent_in numbers items r.0 later rest r.2 merged fits)
      | inr r ↦ none_sent (posts_in items) first (response_stopped a first r.0 r.1 (subst (IsCut (64512 - 14) (response_segment a.request) 0 a.octets) r.2 one.1))
    ]
