-- The octets of responses among the segments that were sent are those that were fetched.
use Rattle.std.proofs.Common.{◌≡◌, ◌⊎◌, ℕ, zero, suc, ◌+◌, List, [], ◌∷◌, ◌++◌, length, drop, Bool, true, false, refl, sym, ap, ◌∙◌, arith, append_assoc, inl, inr}
use Rattle.std.proofs.lemmas.List.{append-nil, append_cancel_right, drop_at}
use Rattle.iw_octets.specs.declared.segment.Segment.{Segment}
use Rattle.iw_octets.specs.declared.message.Message.TheVariants.{Write, Send}
use Rattle.iw_queues.specs.declared.request.Request.{Request}
use Rattle.iw_queues.specs.declared.request.Request.TheVariants.{Message as Posted, Read}
use Rattle.iw_queues.specs.Queue.{Queue}
use Rattle.iw_queues.specs.Segments.{Numbers, first_numbers, write_segment, send_segment, IsCut, AreSegments, numbers_after}
use Rattle.iw_reads.specs.declared.requests.Asked.{Asked}
use Rattle.iw_laws.specs.Words.{Octets}
use Rattle.iw_laws.specs.Merged.{Item, Post, Response, answers_in, octets_of, response_segment, response_in, responded, AreMerged}
use Rattle.iw_laws.proofs.Merges.{BeginsPost, BeginsResponse, GoesWith, answers-append, octets-append}

responded-append : (xs ys : List (Segment Octets)) → responded (xs ++ ys) ≡ responded xs ++ responded ys
responded-append [] ys = refl
responded-append (x ∷ xs) ys = ap (λ z. response_in x ++ z) (responded-append xs ys) ∙ sym (append_assoc (response_in x) (responded xs) (responded ys))

-- the segments of a cut have its octets where each has its own, and none where none has any
cut_octets : (room : ℕ) (segment : ℕ → Bool → Octets → Segment Octets) → ((o : ℕ) (l : Bool) (x : Octets) → response_in (segment o l x) ≡ x)
    → (offset : ℕ) (octets : Octets) (ss : List (Segment Octets)) → IsCut room segment offset octets ss → responded ss ≡ octets
cut_octets room segment each offset octets [] cut = absurd cut
cut_octets room segment each offset octets (s ∷ []) cut = append-nil (response_in s) ∙ ap response_in cut.1 ∙ each offset true octets
cut_octets room segment each offset octets (s ∷ t ∷ ss) cut =
    (λ i. (ap response_in cut.2.is ∙ each offset false cut.0) i ++ cut_octets room segment each (offset + length cut.0) cut.1 (t ∷ ss) cut.3 i) ∙ sym cut.2.cut

cut_silent : (room : ℕ) (segment : ℕ → Bool → Octets → Segment Octets) → ((o : ℕ) (l : Bool) (x : Octets) → response_in (segment o l x) ≡ [])
    → (offset : ℕ) (octets : Octets) (ss : List (Segment Octets)) → IsCut room segment offset octets ss → responded ss ≡ []
cut_silent room segment each offset octets [] cut = absurd cut
cut_silent room segment each offset octets (s ∷ []) cut = append-nil (response_in s) ∙ ap response_in cut.1 ∙ each offset true octets
cut_silent room segment each offset octets (s ∷ t ∷ ss) cut =
    λ i. (ap response_in cut.2.is ∙ each offset false cut.0) i ++ cut_silent room segment each (offset + length cut.0) cut.1 (t ∷ ss) cut.3 i

posted_silent : (numbers : Numbers) (m : Request Octets) (offset : ℕ) (ss : List (Segment Octets)) → AreSegments numbers m offset ss → responded ss ≡ []
posted_silent numbers (Posted (Write stag to octets)) offset ss cut = cut_silent _ (write_segment stag to) (λ o l x. refl) offset (drop offset octets) ss cut
posted_silent numbers (Posted (Send octets solicited invalidate)) offset ss cut = cut_silent _ (send_segment numbers.send solicited invalidate) (λ o l x. refl) offset (drop offset octets) ss cut
posted_silent numbers (Read request) offset ss cut = ap responded cut

-- the octets of responses that are left past the first `offset` octets of the first item
abbrev octets_left : ℕ → List Item → Octets
octets_left offset [] = []
octets_left offset (Post m ∷ items) = octets_of (answers_in items)
octets_left offset (Response a ∷ items) = drop offset a.octets ++ octets_of (answers_in items)

all_left : (items : List Item) → octets_left 0 items ≡ octets_of (answers_in items)
all_left [] = refl
all_left (Post m ∷ items) = refl
all_left (Response a ∷ items) = refl

merged_responded : (numbers : Numbers) (offset : ℕ) (items : List Item) (ss : List (Segment Octets)) → AreMerged numbers offset items ss → responded ss ≡ octets_left offset items
merged_responded numbers offset [] ss h = ap responded h
merged_responded numbers offset (Post m ∷ items) ss (mine, later, is, one, rest) =
    ap responded is ∙ responded-append mine later
    ∙ (λ i. posted_silent numbers m offset mine one i ++ (merged_responded (numbers_after numbers m) 0 items later rest ∙ all_left items) i)
merged_responded numbers offset (Response a ∷ items) ss (mine, later, is, one, rest) =
    ap responded is ∙ responded-append mine later
    ∙ (λ i. cut_octets _ (response_segment a.request) (λ o l x. refl) offset (drop offset a.octets) mine one.1 i ++ (merged_responded numbers 0 items later rest ∙ all_left items) i)

-- what is left, past the octets that were begun, where a message and a response are not begun at once
begun_left : (q : Queue) (waiting : List Asked) (begun : Octets) (items : List Item) → GoesWith q waiting begun items → (q.offset ≡ 0) ⊎ (begun ≡ []) → octets_of (answers_in items) ≡ begun ++ octets_left (q.offset + length begun) items
begun_left q waiting [] items goes apart = by q.offset refl
  where
    post : BeginsPost q.unsent items → octets_of (answers_in items) ≡ octets_left (q.offset + 0) items
    post b = ap (λ z. octets_of (answers_in z)) b.is ∙ sym (ap (octets_left (q.offset + 0)) b.is)

    by : (n : ℕ) → q.offset ≡ n → octets_of (answers_in items) ≡ octets_left (q.offset + 0) items
    by zero e = let none : 0 ≡ q.offset + 0 = omega (arith, e) in sym (all_left items) ∙ ap (λ k. octets_left k items) none
    by (suc n) e = post (goes.post (omega (arith, e)))
begun_left q waiting (x ∷ xs) items goes (inr nil) = absurd (omega (arith, ap length nil))
begun_left q waiting (x ∷ xs) items goes (inl unbegun) = go (goes.response (omega arith))
  where
    go : BeginsResponse waiting (x ∷ xs) items → octets_of (answers_in items) ≡ (x ∷ xs) ++ octets_left (q.offset + length (x ∷ xs)) items
    go b =
        ap (λ z. octets_of (answers_in z)) b.is ∙ append_assoc (x ∷ xs) b.more (octets_of (answers_in b.items))
        ∙ ap (λ z. (x ∷ xs) ++ z)
        ((λ i. sym (drop_at (x ∷ xs) b.more (q.offset + length (x ∷ xs)) (omega (arith, unbegun))) i ++ octets_of (answers_in b.items)) ∙ sym (ap (octets_left (q.offset + length (x ∷ xs))) b.is))

-- of segments that go on to all items those that were sent have the octets of the first ones and of what was begun
pub sent_octets : (q : Queue) (numbers : Numbers) (waiting : List Asked) (begun : Octets) (first rest : List Item) (ss later : List (Segment Octets)) → GoesWith q waiting begun rest → (q.offset ≡ 0) ⊎ (begun ≡ [])
    → AreMerged numbers (q.offset + length begun) rest later → AreMerged first_numbers 0 (first ++ rest) (ss ++ later) → responded ss ≡ octets_of (answers_in first) ++ begun
sent_octets q numbers waiting begun first rest ss later goes apart left all =
    append_cancel_right (responded ss) (octets_of (answers_in first) ++ begun) (responded later)
    (sym (responded-append ss later) ∙ merged_responded first_numbers 0 (first ++ rest) (ss ++ later) all ∙ all_left (first ++ rest)
    ∙ ap octets_of (answers-append first rest) ∙ octets-append (answers_in first) (answers_in rest)
    ∙ ap (λ z. octets_of (answers_in first) ++ z) (begun_left q waiting begun rest goes apart)
    ∙ sym (append_assoc (octets_of (answers_in first)) begun (octets_left (q.offset + length begun) rest))
    ∙ ap (λ z. (octets_of (answers_in first) ++ begun) ++ z) (sym (merged_responded numbers (q.offset + length begun) rest later left)))
