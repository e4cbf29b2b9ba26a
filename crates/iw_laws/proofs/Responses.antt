-- What the segments that an end sent carry of the responses to the peer's Reads, and of Reads of its own.
use Rattle.std.proofs.Common.{◌≡◌, ℕ, zero, suc, ◌+◌, ◌%◌, ◌^◌, ◌≤◌, ◌⊎◌, inl, inr, List, [], ◌∷◌, ◌++◌, length, take, drop, map, Option, Some, None, Bool, true, false, cond, refl, sym, ap, ◌∙◌, subst, arith, append_assoc, length-append, eqb, ◌&&◌}
use Rattle.std.proofs.lemmas.Bool.{false≢true}
use Rattle.std.proofs.lemmas.List.{append-nil, map-append, drop_at, take-append-le}
use Rattle.std.proofs.lemmas.Option.{some_pair_parts}
use Rattle.iw_octets.specs.declared.head.UntaggedHead.{UntaggedHead}
use Rattle.iw_octets.specs.declared.message.Message.TheVariants.{Write, Send}
use Rattle.iw_octets.specs.declared.payload.ReadRequest.{ReadRequest}
use Rattle.iw_octets.specs.declared.segment.Segment.{Segment}
use Rattle.iw_octets.specs.declared.segment.Segment.TheVariants.{Untagged}
use Rattle.iw_octets.specs.declared.stag.Stag.{Stag}
use Rattle.iw_octets.specs.Payload.{FitsRequest, request_octets, request_fields}
use Rattle.iw_octets.specs.Segment.{FitsSegment}
use Rattle.iw_octets.specs.Stag.{FitsStag, number_of}
use Rattle.iw_octets.proofs.Spelled.{length-request_octets, read_request-long, read_request-spelled}
use Rattle.iw_queues.specs.declared.request.Request.{Request}
use Rattle.iw_queues.specs.declared.request.Request.TheVariants.{Message as Posted, Read}
use Rattle.iw_queues.specs.Joined.{Cell, one_if, count_from, count_in, count_writes}
use Rattle.iw_queues.specs.Queue.{Queue}
use Rattle.iw_queues.specs.Segments.{Numbers, first_numbers, numbers_after, write_segment, send_segment, IsCut, AreSegments}
use Rattle.iw_reads.specs.declared.requests.Asked.{Asked}
use Rattle.iw_startup.specs.declared.enhanced.Rtr.{Rtr}
use Rattle.iw_stream.specs.Rtr.{rtr_message}
use Rattle.iw_stream.specs.Starting.{StartState, rtr_in}
use Rattle.iw_stream.specs.Stream.{StreamState}
use Rattle.std.specs.Option.{option_map}
use Rattle.iw_laws.specs.Words.{Octets, listed}
use Rattle.iw_laws.specs.Turns.{Answer, carries_response}
use Rattle.iw_laws.specs.Merged.{Item, Post, Response, posts_in, answers_in, response_segment, AreMerged}
use Rattle.iw_laws.specs.Rules.{FitsPosted}
use Rattle.iw_laws.specs.Faithful.{laid, begun_for, responses, reads_among}
use Rattle.iw_laws.proofs.Lists.{Each, each-both, each-first}
use Rattle.iw_laws.proofs.Tales.{Tale}
use Rattle.iw_laws.proofs.Joins.{count_writes-append, count_responses, responses-append, count_ended, ended-append, requests_in, requests-append}
use Rattle.iw_laws.proofs.Merges.{with_left, GoesWith, BeginsPost, BeginsResponse, answers-append, posts-append, goes_to, some_merged}
use Rattle.iw_laws.specs.Sends.{farewells}
use Rattle.iw_laws.proofs.Owned.{Emits, out_of, all_begun}
use Rattle.iw_laws.proofs.Ready.{ready_in}
use Rattle.iw_laws.proofs.Sending.{rtr_fits}

-- ---- octets, each at its place

count_from-modulo : (c : Cell) (a b : ℕ) (xs : Octets) → a % 2 ^ 64 ≡ b % 2 ^ 64 → count_from c a xs ≡ count_from c b xs
count_from-modulo c a b [] e = refl
count_from-modulo c a b (x ∷ xs) e =
    let next : (a + 1) % 2 ^ 64 ≡ (b + 1) % 2 ^ 64 = omega arith in
    λ i. one_if (eqb (e i) c.to && eqb x c.octet) + count_from-modulo c (a + 1) (b + 1) xs next i

count_from-append : (c : Cell) (to : ℕ) (xs ys : Octets) → count_from c to (xs ++ ys) ≡ count_from c to xs + count_from c (to + length xs) ys
count_from-append c to [] ys =
    let place : count_from c to ys ≡ count_from c (to + 0) ys = ap (λ k. count_from c k ys) (omega arith) in
    omega (arith, place)
count_from-append c to (x ∷ xs) ys =
    let place : count_from c (to + 1 + length xs) ys ≡ count_from c (to + suc (length xs)) ys = ap (λ k. count_from c k ys) (omega arith) in
    omega (arith, count_from-append c (to + 1) xs ys, place)

count_in-append : (c : Cell) (stag : Stag) (to : ℕ) (xs ys : Octets) → count_in c stag to (xs ++ ys) ≡ count_in c stag to xs + count_in c stag (to + length xs) ys
count_in-append c stag to xs ys = go (eqb (number_of stag) c.stag)
  where
    go : (b : Bool) → cond b (count_from c to (xs ++ ys)) 0 ≡ cond b (count_from c to xs) 0 + cond b (count_from c (to + length xs) ys) 0
    go true = count_from-append c to xs ys
    go false = refl

count_in-modulo : (c : Cell) (stag : Stag) (to : ℕ) (xs : Octets) → count_in c stag (to % 2 ^ 64) xs ≡ count_in c stag to xs
count_in-modulo c stag to xs =
    let same : to % 2 ^ 64 % 2 ^ 64 ≡ to % 2 ^ 64 = omega arith in
    ap (λ n. cond (eqb (number_of stag) c.stag) n 0) (count_from-modulo c (to % 2 ^ 64) to xs same)

count_in-none : (c : Cell) (stag : Stag) (to : ℕ) → count_in c stag to [] ≡ 0
count_in-none c stag to = go (eqb (number_of stag) c.stag)
  where
    go : (b : Bool) → ◌≡◌ {A = ℕ} (cond b 0 0) 0
    go true = refl
    go false = refl

-- ---- cuts

-- what no segment of a cut adds to is as of none
silent : {A : Type 0} (f : List (Segment Octets) → A) (none : A) → f [] ≡ none → (room : ℕ) (segment : ℕ → Bool → Octets → Segment Octets)
    → ((o : ℕ) (l : Bool) (x : Octets) (ss : List (Segment Octets)) → f (segment o l x ∷ ss) ≡ f ss)
    → (offset : ℕ) (octets : Octets) (ss : List (Segment Octets)) → IsCut room segment offset octets ss → f ss ≡ none
silent f none nothing room segment told offset octets [] cut = absurd cut
silent f none nothing room segment told offset octets (s ∷ []) cut = ap (λ z. f (z ∷ [])) cut.1 ∙ told offset true octets [] ∙ nothing
silent f none nothing room segment told offset octets (s ∷ x ∷ ss) cut =
    ap (λ z. f (z ∷ x ∷ ss)) cut.2.is ∙ told offset false cut.0 (x ∷ ss) ∙ silent f none nothing room segment told (offset + length cut.0) cut.1 (x ∷ ss) cut.3

-- the segments of a message that was posted are of no response
posted_silent : (f : List (Segment Octets) → ℕ) → f [] ≡ 0 → ((stag : Stag) (to o : ℕ) (l : Bool) (x : Octets) (ss : List (Segment Octets)) → f (write_segment stag to o l x ∷ ss) ≡ f ss)
    → ((head : UntaggedHead) (x : Octets) (ss : List (Segment Octets)) → f (Untagged head x ∷ ss) ≡ f ss)
    → (numbers : Numbers) (m : Request Octets) (offset : ℕ) (ss : List (Segment Octets)) → AreSegments numbers m offset ss → f ss ≡ 0
posted_silent f none tagged untagged numbers (Posted (Write stag to octets)) offset ss cut = silent f 0 none _ (write_segment stag to) (λ o l x ss. tagged stag to o l x ss) offset (drop offset octets) ss cut
posted_silent f none tagged untagged numbers (Posted (Send octets solicited invalidate)) offset ss cut =
    silent f 0 none _ (send_segment numbers.send solicited invalidate) (λ o l x ss. untagged _ x ss) offset (drop offset octets) ss cut
posted_silent f none tagged untagged numbers (Read request) offset ss cut = ap f cut ∙ untagged _ (request_octets request) [] ∙ none

posted_responses : (c : Cell) (numbers : Numbers) (m : Request Octets) (offset : ℕ) (ss : List (Segment Octets)) → AreSegments numbers m offset ss → count_responses c ss ≡ 0
posted_responses c = posted_silent (count_responses c) refl (λ stag to o l x ss. omega arith) (λ head x ss. refl)

posted_ended : (numbers : Numbers) (m : Request Octets) (offset : ℕ) (ss : List (Segment Octets)) → AreSegments numbers m offset ss → count_ended ss ≡ 0
posted_ended = posted_silent count_ended refl (λ stag to o l x ss. omega arith) (λ head x ss. refl)

-- those of a response have its octets, each once
response_counted : (c : Cell) (room : ℕ) (request : ReadRequest) (offset : ℕ) (octets : Octets) (ss : List (Segment Octets)) → IsCut room (response_segment request) offset octets ss
    → count_responses c ss ≡ count_in c request.sink (request.sink_to + offset) octets
response_counted c room request offset octets [] cut = absurd cut
response_counted c room request offset octets (s ∷ []) cut =
    let one : count_responses c (s ∷ []) ≡ count_in c request.sink ((request.sink_to + offset) % 2 ^ 64) octets + 0 = ap (λ z. count_responses c (z ∷ [])) cut.1 in
    omega (arith, one, count_in-modulo c request.sink (request.sink_to + offset) octets)
response_counted c room request offset octets (s ∷ t ∷ ss) cut =
    let first : count_responses c (s ∷ t ∷ ss) ≡ count_in c request.sink ((request.sink_to + offset) % 2 ^ 64) cut.0 + count_responses c (t ∷ ss) = ap (λ z. count_responses c (z ∷ t ∷ ss)) cut.2.is in
    let rest = response_counted c room request (offset + length cut.0) cut.1 (t ∷ ss) cut.3 in
    let place : count_in c request.sink (request.sink_to + (offset + length cut.0)) cut.1 ≡ count_in c request.sink (request.sink_to + offset + length cut.0) cut.1 = ap (λ k. count_in c request.sink k cut.1) (omega arith) in
    let all : count_in c request.sink (request.sink_to + offset) octets ≡ count_in c request.sink (request.sink_to + offset) (cut.0 ++ cut.1) = ap (count_in c request.sink (request.sink_to + offset)) cut.2.cut in
    omega (arith, first, count_in-modulo c request.sink (request.sink_to + offset) cut.0, rest, place, all, count_in-append c request.sink (request.sink_to + offset) cut.0 cut.1)

-- and one last segment
response_ended : (room : ℕ) (request : ReadRequest) (offset : ℕ) (octets : Octets) (ss : List (Segment Octets)) → IsCut room (response_segment request) offset octets ss → count_ended ss ≡ 1
response_ended room request offset octets [] cut = absurd cut
response_ended room request offset octets (s ∷ []) cut = ap (λ z. count_ended (z ∷ [])) cut.1
response_ended room request offset octets (s ∷ t ∷ ss) cut =
    let first : count_ended (s ∷ t ∷ ss) ≡ 0 + count_ended (t ∷ ss) = ap (λ z. count_ended (z ∷ t ∷ ss)) cut.2.is in
    omega (arith, first, response_ended room request (offset + length cut.0) cut.1 (t ∷ ss) cut.3)

-- before which none is the last
response_stopped : (room : ℕ) (request : ReadRequest) (offset : ℕ) (octets : Octets) (first : List (Segment Octets)) (s : Segment Octets) (more : List (Segment Octets))
    → IsCut room (response_segment request) offset octets (first ++ s ∷ more) → count_ended first ≡ 0
response_stopped room request offset octets [] s more cut = refl
response_stopped room request offset octets (d ∷ []) s more cut = ap (λ z. count_ended (z ∷ [])) cut.2.is
response_stopped room request offset octets (d ∷ e ∷ ds) s more cut =
    let first : count_ended (d ∷ e ∷ ds) ≡ 0 + count_ended (e ∷ ds) = ap (λ z. count_ended (z ∷ e ∷ ds)) cut.2.is in
    omega (arith, first, response_stopped room request (offset + length cut.0) cut.1 (e ∷ ds) s more cut.3)

-- ---- messages and responses, merged

-- how often a cell is in the responses
abbrev pub laid_in : Cell → List Item → ℕ
laid_in c items = count_writes c (map laid (answers_in items))

laid_in-append : (c : Cell) (xs ys : List Item) → laid_in c (xs ++ ys) ≡ laid_in c xs + laid_in c ys
laid_in-append c xs ys =
    ap (λ z. count_writes c (map laid z)) (answers-append xs ys) ∙ ap (count_writes c) (map-append laid (answers_in xs) (answers_in ys))
    ∙ count_writes-append c (map laid (answers_in xs)) (map laid (answers_in ys))

-- and in what is left of them, `offset` octets of the first item having gone before
abbrev pub left_in : Cell → ℕ → List Item → ℕ
left_in c offset [] = 0
left_in c offset (Post m ∷ items) = laid_in c items
left_in c offset (Response a ∷ items) = count_in c a.request.sink (a.request.sink_to + offset) (drop offset a.octets) + laid_in c items

left_all : (c : Cell) (items : List Item) → left_in c 0 items ≡ laid_in c items
left_all c [] = refl
left_all c (Post m ∷ items) = refl
left_all c (Response a ∷ items) = ap (λ k. count_in c a.request.sink k a.octets + laid_in c items) (omega arith)

pub merged_responses : (c : Cell) (numbers : Numbers) (offset : ℕ) (items : List Item) (ss : List (Segment Octets)) → AreMerged numbers offset items ss → count_responses c ss ≡ left_in c offset items
merged_responses c numbers offset [] ss h = ap (count_responses c) h
merged_responses c numbers offset (Post m ∷ items) ss (mine, later, is, one, rest) =
    omega (arith, ap (count_responses c) is, responses-append c mine later, posted_responses c numbers m offset mine one, merged_responses c (numbers_after numbers m) 0 items later rest, left_all c items)
merged_responses c numbers offset (Response a ∷ items) ss (mine, later, is, one, rest) =
    omega (arith, ap (count_responses c) is, responses-append c mine later, response_counted c _ a.request offset (drop offset a.octets) mine one.1, merged_responses c numbers 0 items later rest, left_all c items)

pub merged_ended : (numbers : Numbers) (offset : ℕ) (items : List Item) (ss : List (Segment Octets)) → AreMerged numbers offset items ss → count_ended ss ≡ length (answers_in items)
merged_ended numbers offset [] ss h = ap count_ended h
merged_ended numbers offset (Post m ∷ items) ss (mine, later, is, one, rest) =
    omega (arith, ap count_ended is, ended-append mine later, posted_ended numbers m offset mine one, merged_ended (numbers_after numbers m) 0 items later rest)
merged_ended numbers offset (Response a ∷ items) ss (mine, later, is, one, rest) =
    omega (arith, ap count_ended is, ended-append mine later, response_ended _ a.request offset (drop offset a.octets) mine one.1, merged_ended numbers 0 items later rest)

-- two lists in two cuts: the first part of one begins with that of the other, or stops inside it
abbrev pub Reaches : List (Segment Octets) → List (Segment Octets) → List (Segment Octets) → List (Segment Octets) → Type 0
Reaches first later mine rest = (more : List (Segment Octets)) × (first ≡ mine ++ more) × (more ++ later ≡ rest)

abbrev pub Stops : List (Segment Octets) → List (Segment Octets) → Type 0
Stops first mine = (s : Segment Octets) × (more : List (Segment Octets)) × (mine ≡ first ++ s ∷ more)

pub either : (first later mine rest : List (Segment Octets)) → first ++ later ≡ mine ++ rest → Reaches first later mine rest ⊎ Stops first mine
either first later [] rest e = inl (first, refl, e)
either [] later (m ∷ mine) rest e = inr (m, mine, refl)
either (d ∷ first) later (m ∷ mine) rest e =
    let same : d ≡ m = cc in
    let tail : first ++ later ≡ mine ++ rest = cc in
    elim (either first later mine rest tail) [
      | inl r ↦ inl (r.0, (λ i. same i ∷ r.1 i), r.2)
      | inr r ↦ inr (r.0, r.1, (λ i. sym same i ∷ r.2 i))
    ]

-- so many of the answers lie whole in the first segments
abbrev AreLaid : Cell → List Answer → List (Segment Octets) → ℕ → Type 0
AreLaid c answers first n = count_writes c (map laid (take n answers)) ≤ count_responses c first

none_taken : (n : ℕ) → take {A = Answer} n [] ≡ []
none_taken zero = refl
none_taken (suc n) = refl

pub merged_before : (c : Cell) (numbers : Numbers) (items : List Item) (first later ss : List (Segment Octets)) → first ++ later ≡ ss → AreMerged numbers 0 items ss → AreLaid c (answers_in items) first (count_ended first)
merged_before c numbers [] first later ss e h = subst (λ z. count_writes c (map laid z) ≤ count_responses c first) (sym (none_taken (count_ended first))) (omega arith)
merged_before c numbers (Post m ∷ items) first later ss e (mine, rest, is, one, merged) =
    elim (either first later mine rest (e ∙ is)) [
      | inl r ↦
          let same : count_ended first ≡ count_ended r.0 = omega (arith, ap count_ended r.1, ended-append mine r.0, posted_ended numbers m 0 mine one) in
          let beyond : AreLaid c (answers_in items) r.0 (count_ended r.0) = merged_before c (numbers_after numbers m) items r.0 later rest r.2 merged in
          subst (AreLaid c (answers_in items) first) (sym same) (omega (arith, beyond, ap (count_responses c) r.1, responses-append c mine r.0))
      | inr r ↦
          let none : count_ended first ≡ 0 = omega (arith, posted_ended numbers m 0 mine one, ap count_ended r.2, ended-append first (r.0 ∷ r.1)) in
          subst (AreLaid c (answers_in items) first) (sym none) (omega arith)
    ]
merged_before c numbers (Response a ∷ items) first later ss e (mine, rest, is, one, merged) =
    elim (either first later mine rest (e ∙ is)) [
      | inl r ↦
          let same : count_ended first ≡ suc (count_ended r.0) = omega (arith, ap count_ended r.1, ended-append mine r.0, response_ended _ a.request 0 a.octets mine one.1) in
          let beyond : AreLaid c (answers_in items) r.0 (count_ended r.0) = merged_before c numbers items r.0 later rest r.2 merged in
          let place : count_in c a.request.sink (a.request.sink_to + 0) a.octets ≡ count_in c a.request.sink a.request.sink_to a.octets = ap (λ k. count_in c a.request.sink k a.octets) (omega arith) in
          subst (AreLaid c (a ∷ answers_in items) first) (sym same)
          (omega (arith, beyond, ap (count_responses c) r.1, responses-append c mine r.0, response_counted c _ a.request 0 a.octets mine one.1, place))
      | inr r ↦
          let none : count_ended first ≡ 0 = response_stopped _ a.request 0 a.octets first r.0 r.1 (subst (IsCut _ (response_segment a.request) 0 a.octets) r.2 one.1) in
          subst (AreLaid c (a ∷ answers_in items) first) (sym none) (omega arith)
    ]

-- ---- requests

-- a request that fits its fields is read again as it was written
pub fields_again : (request : ReadRequest) → FitsRequest request → request_fields (request_octets request) ≡ request
fields_again request fits =
    let long : 28 ≤ length (request_octets request ++ []) = omega (arith, length-append (request_octets request) [], length-request_octets request) in
    let same : request_fields (request_octets request ++ []) ≡ request =
    (some_pair_parts _ _ _ _ (sym (read_request-long (request_octets request ++ []) long) ∙ read_request-spelled request [] fits)).0 in
    ap request_fields (sym (append-nil (request_octets request))) ∙ same

posted_requests : (numbers : Numbers) (m : Request Octets) (offset : ℕ) (ss : List (Segment Octets)) → AreSegments numbers m offset ss → FitsPosted m → requests_in ss ≡ reads_among (m ∷ [])
posted_requests numbers (Posted (Write stag to octets)) offset ss cut fits = silent requests_in [] refl _ (write_segment stag to) (λ o l x ss. refl) offset (drop offset octets) ss cut
posted_requests numbers (Posted (Send octets solicited invalidate)) offset ss cut fits =
    silent requests_in [] refl _ (send_segment numbers.send solicited invalidate) (λ o l x ss. refl) offset (drop offset octets) ss cut
posted_requests numbers (Read request) offset ss cut fits = ap requests_in cut ∙ ap (λ z. z ∷ []) (fields_again request fits)

reads-first : (m : Request Octets) (ms : List (Request Octets)) → reads_among (m ∷ []) ++ reads_among ms ≡ reads_among (m ∷ ms)
reads-first (Posted message) ms = refl
reads-first (Read request) ms = refl

pub merged_requests : (numbers : Numbers) (offset : ℕ) (items : List Item) (ss : List (Segment Octets)) → AreMerged numbers offset items ss → Each FitsPosted (posts_in items) → requests_in ss ≡ reads_among (posts_in items)
merged_requests numbers offset [] ss h fits = ap requests_in h
merged_requests numbers offset (Post m ∷ items) ss (mine, later, is, one, rest) fits =
    ap requests_in is ∙ requests-append mine later
    ∙ (λ i. posted_requests numbers m offset mine one fits.0 i ++ merged_requests (numbers_after numbers m) 0 items later rest fits.1 i)
    ∙ reads-first m (posts_in items)
merged_requests numbers offset (Response a ∷ items) ss (mine, later, is, one, rest) fits =
    ap requests_in is ∙ requests-append mine later
    ∙ (λ i. silent requests_in [] refl _ (response_segment a.request) (λ o l x ss. refl) offset (drop offset a.octets) mine one.1 i ++ merged_requests numbers 0 items later rest fits i)

-- ---- sinks that fit their fields

-- a segment of a response fits its fields
abbrev pub AnswerFits : Segment Octets → Type 0
AnswerFits s = carries_response s ≡ true → FitsSegment s

abbrev pub SinkFits : ReadRequest → Type 0
SinkFits request = FitsStag request.sink

each_cut : (P : Segment Octets → Type 0) (room : ℕ) (segment : ℕ → Bool → Octets → Segment Octets) → ((o : ℕ) (l : Bool) (x : Octets) → P (segment o l x))
    → (offset : ℕ) (octets : Octets) (ss : List (Segment Octets)) → IsCut room segment offset octets ss → Each P ss
each_cut P room segment each offset octets [] cut = absurd cut
each_cut P room segment each offset octets (s ∷ []) cut = (subst P (sym cut.1) (each offset true octets), tt)
each_cut P room segment each offset octets (s ∷ t ∷ ss) cut =
    (subst P (sym cut.2.is) (each offset false cut.0), each_cut P room segment each (offset + length cut.0) cut.1 (t ∷ ss) cut.3)

posted_fits : (numbers : Numbers) (m : Request Octets) (offset : ℕ) (ss : List (Segment Octets)) → AreSegments numbers m offset ss → Each AnswerFits ss
posted_fits numbers (Posted (Write stag to octets)) offset ss cut = each_cut AnswerFits _ (write_segment stag to) (λ o l x h. absurd (false≢true h)) offset (drop offset octets) ss cut
posted_fits numbers (Posted (Send octets solicited invalidate)) offset ss cut =
    each_cut AnswerFits _ (send_segment numbers.send solicited invalidate) (λ o l x h. absurd (false≢true h)) offset (drop offset octets) ss cut
posted_fits numbers (Read request) offset ss cut = subst (Each AnswerFits) (sym cut) ((λ h. absurd (false≢true h)), tt)

pub merged_fits : (numbers : Numbers) (offset : ℕ) (items : List Item) (ss : List (Segment Octets)) → AreMerged numbers offset items ss
    → Each SinkFits (map (λ (a : Answer). a.request) (answers_in items)) → Each AnswerFits ss
merged_fits numbers offset [] ss h fits = subst (Each AnswerFits) (sym h) tt
merged_fits numbers offset (Post m ∷ items) ss (mine, later, is, one, rest) fits =
    subst (Each AnswerFits) (sym is) (each-both AnswerFits mine later (posted_fits numbers m offset mine one) (merged_fits (numbers_after numbers m) 0 items later rest fits))
merged_fits numbers offset (Response a ∷ items) ss (mine, later, is, one, rest) fits =
    subst (Each AnswerFits) (sym is)
    (each-both AnswerFits mine later
    (each_cut AnswerFits _ (response_segment a.request) (λ o l x h. record { ddp_version = omega arith; control = omega arith; stag = fits.0; to = omega arith }) offset (drop offset a.octets) mine one.1)
    (merged_fits numbers 0 items later rest fits.1))

-- ---- what an end sent

-- it goes on to all that was posted and asked for
pub record Carries (s : StreamState) (t : Tale) (e : Emits s t) : Type 0 where
  pub items : List Item
  pub later : List (Segment Octets)
  pub goes : GoesWith (with_left e.left e.kept) s.asked.unanswered t.story.begun items
  pub posts : posts_in items ≡ e.left ++ e.kept.unsent
  pub requests : map (λ (a : Answer). a.request) (answers_in items) ≡ map (λ (a : Asked). a.request) s.asked.unanswered
  pub left : AreMerged s.numbers (e.kept.offset + length t.story.begun) items later
  pub all : AreMerged first_numbers 0 (e.merges.items ++ items) (e.segments ++ later)

pub carries : (s : StreamState) (t : Tale) (e : Emits s t) → Carries s t e
carries s t e =
    let g = goes_to (with_left e.left e.kept) s.numbers s.asked.unanswered t.story.begun s.asked.fetched e.asks.fetched e.asks.begun e.merges.apart (all_begun e) in
    let m = some_merged s.numbers (e.kept.offset + length t.story.begun) g.items g.whole in
    record { items = g.items; later = m.0; goes = g.goes; posts = g.posts; requests = g.requests; left = m.1; all = e.merges.goes_on g.items m.0 g.goes m.1 }

-- what is left of responses, beside what was begun
begun_left : (c : Cell) (q : Queue) (waiting : List Asked) (begun : Octets) (items : List Item) → GoesWith q waiting begun items → (q.offset ≡ 0) ⊎ (begun ≡ [])
    → laid_in c items ≡ count_writes c (map laid (begun_for waiting begun)) + left_in c (q.offset + length begun) items
begun_left c q waiting [] items goes apart = omega (arith, nothing waiting, by q.offset refl)
  where
    nothing : (waiting : List Asked) → count_writes c (map laid (begun_for waiting [])) ≡ 0
    nothing [] = refl
    nothing (oldest ∷ others) = omega (arith, count_in-none c oldest.request.sink oldest.request.sink_to)

    post : BeginsPost q.unsent items → laid_in c items ≡ left_in c (q.offset + 0) items
    post b = ap (laid_in c) b.is ∙ sym (ap (left_in c (q.offset + 0)) b.is)

    by : (n : ℕ) → q.offset ≡ n → laid_in c items ≡ left_in c (q.offset + 0) items
    by zero e = let none : 0 ≡ q.offset + 0 = omega (arith, e) in sym (left_all c items) ∙ ap (λ k. left_in c k items) none
    by (suc n) e = post (goes.post (omega (arith, e)))
begun_left c q waiting (x ∷ xs) items goes (inr nil) = absurd (omega (arith, ap length nil))
begun_left c q waiting (x ∷ xs) items goes (inl unbegun) = go (goes.response (omega arith))
  where
    begun : Octets
    begun = x ∷ xs

    go : BeginsResponse waiting (x ∷ xs) items → laid_in c items ≡ count_writes c (map laid (begun_for waiting (x ∷ xs))) + left_in c (q.offset + length (x ∷ xs)) items
    go b =
        let request : ReadRequest = b.oldest.request in
        let place : left_in c (q.offset + length (x ∷ xs)) items ≡ count_in c request.sink (request.sink_to + length (x ∷ xs)) b.more + laid_in c b.items =
        ap (left_in c (q.offset + length (x ∷ xs))) b.is
        ∙ (λ i. count_in c request.sink (request.sink_to + sizes i) (beyond i) + laid_in c b.items) in
        omega (
          arith,
          ap (laid_in c) b.is,
          ap (λ w. count_writes c (map laid (begun_for w (x ∷ xs)))) b.waiting_is,
          count_in-append c request.sink request.sink_to (x ∷ xs) b.more,
          place,
        )
      where
        sizes : q.offset + length (x ∷ xs) ≡ length (x ∷ xs)
        sizes = omega (arith, unbegun)

        beyond : drop (q.offset + length (x ∷ xs)) ((x ∷ xs) ++ b.more) ≡ b.more
        beyond = drop_at (x ∷ xs) b.more (q.offset + length (x ∷ xs)) (omega (arith, unbegun))

-- the segments of responses that were sent have the octets that were fetched, each once
pub sent_responses : (c : Cell) (s : StreamState) (t : Tale) (e : Emits s t) → count_responses c e.segments ≡ count_writes c (responses t.story)
sent_responses c s t e =
    let k = carries s t e in
    omega (
      arith,
      responses-append c e.segments k.later,
      merged_responses c first_numbers 0 (e.merges.items ++ k.items) (e.segments ++ k.later) k.all,
      left_all c (e.merges.items ++ k.items),
      laid_in-append c e.merges.items k.items,
      ap (λ z. count_writes c (map laid z)) e.merges.are,
      merged_responses c s.numbers (e.kept.offset + length t.story.begun) k.items k.later k.left,
      begun_left c (with_left e.left e.kept) s.asked.unanswered t.story.begun k.items k.goes e.merges.apart,
      ap (λ z. count_writes c (map laid (begun_for z.unanswered t.story.begun))) e.asks.asked,
      ap (count_writes c) (map-append laid t.story.answers (begun_for t.story.asked.unanswered t.story.begun)),
      count_writes-append c (map laid t.story.answers) (map laid (begun_for t.story.asked.unanswered t.story.begun)),
    )

-- and as many last ones as there are answers
pub sent_ended : (s : StreamState) (t : Tale) (e : Emits s t) → count_ended e.segments ≡ length t.story.answers
sent_ended s t e =
    let k = carries s t e in
    omega (
      arith,
      ended-append e.segments k.later,
      merged_ended first_numbers 0 (e.merges.items ++ k.items) (e.segments ++ k.later) k.all,
      ap length (answers-append e.merges.items k.items),
      length-append (answers_in e.merges.items) (answers_in k.items),
      ap length e.merges.are,
      merged_ended s.numbers (e.kept.offset + length t.story.begun) k.items k.later k.left,
    )

-- the answers that end in the first segments lie in them
pub sent_before : (c : Cell) (s : StreamState) (t : Tale) (e : Emits s t) (first later : List (Segment Octets)) → out_of s t e ≡ first ++ later → AreLaid c t.story.answers first (count_ended first)
sent_before c s t e first later is = elim (either first later e.segments (farewells t.story.farewell) (sym is)) [
  | inl r ↦
      let parted : List (Segment Octets) = farewells t.story.farewell in
      let none : count_ended r.0 ≡ 0 = omega (arith, ap count_ended r.2, ended-append r.0 later, silent_last t.story.farewell) in
      let same : count_ended e.segments ≡ count_ended first = omega (arith, ap count_ended r.1, ended-append e.segments r.0, none) in
      let all : AreLaid c t.story.answers e.segments (count_ended e.segments) = among e.segments [] (sym (append-nil e.segments)) in
      let less : count_responses c e.segments ≤ count_responses c first = omega (arith, ap (count_responses c) r.1, responses-append c e.segments r.0) in
      subst (AreLaid c t.story.answers first) same (omega (arith, all, less))
  | inr r ↦ among first (r.0 ∷ r.1) r.2
]
  where
    silent_last : (o : Option Octets) → count_ended (farewells o) ≡ 0
    silent_last None = refl
    silent_last (Some payload) = refl

    among : (first later : List (Segment Octets)) → e.segments ≡ first ++ later → AreLaid c t.story.answers first (count_ended first)
    among first later is =
        let k = carries s t e in
        let few : count_ended first ≤ length t.story.answers = omega (arith, sent_ended s t e, ap count_ended is, ended-append first later) in
        let answers : answers_in (e.merges.items ++ k.items) ≡ t.story.answers ++ answers_in k.items = answers-append e.merges.items k.items ∙ ap (λ z. z ++ answers_in k.items) e.merges.are in
        let all : AreLaid c (answers_in (e.merges.items ++ k.items)) first (count_ended first) =
        merged_before c first_numbers (e.merges.items ++ k.items) first (later ++ k.later) (e.segments ++ k.later) (sym (append_assoc first later k.later) ∙ ap (λ z. z ++ k.later) (sym is)) k.all in
        subst (λ z. count_writes c (map laid z) ≤ count_responses c first) (ap (take (count_ended first)) answers ∙ take-append-le (count_ended first) t.story.answers (answers_in k.items) few) all

pub ready_fit : (start : StartState) (ms : List (Request Octets)) → Each FitsPosted ms → Each FitsPosted (ready_in start ++ ms)
ready_fit start ms fit = go (rtr_in start)
  where
    go : (o : Option Rtr) → Each FitsPosted (listed (option_map rtr_message o) ++ ms)
    go None = fit
    go (Some rtr) = (rtr_fits rtr, fit)

-- the requests that were sent are the first of the RTR, if it is a Read, and the Reads that were posted
pub record Asks (ready : List (Request Octets)) (t : Tale) (segments : List (Segment Octets)) : Type 0 where
  pub rest : List ReadRequest
  pub are : requests_in segments ++ rest ≡ reads_among (ready ++ t.posted)

pub sent_requests : (s : StreamState) (t : Tale) (e : Emits s t) → Asks (ready_in s.start) t e.segments
sent_requests s t e =
    let k = carries s t e in
    let posts : posts_in (e.merges.items ++ k.items) ≡ ready_in s.start ++ t.posted = posts-append e.merges.items k.items ∙ ap (λ z. posts_in e.merges.items ++ z) k.posts ∙ e.merges.posts in
    let fits : Each FitsPosted (posts_in (e.merges.items ++ k.items)) = subst (Each FitsPosted) (sym posts) (ready_fit s.start t.posted e.fit) in
    record {
      rest = requests_in k.later;
      are = sym (requests-append e.segments k.later) ∙ merged_requests first_numbers 0 (e.merges.items ++ k.items) (e.segments ++ k.later) k.all fits ∙ ap reads_among posts;
    }

-- where the sinks that the peer named fit their fields, so do the segments of responses
pub sent_fits : (s : StreamState) (t : Tale) (e : Emits s t) → Each SinkFits (map (λ (a : Answer). a.request) t.story.answers ++ map (λ (a : Asked). a.request) t.story.asked.unanswered) → Each AnswerFits e.segments
sent_fits s t e fits =
    let k = carries s t e in
    let asked : map (λ (a : Answer). a.request) (answers_in (e.merges.items ++ k.items)) ≡ map (λ (a : Answer). a.request) t.story.answers ++ map (λ (a : Asked). a.request) t.story.asked.unanswered =
    ap (map (λ (a : Answer). a.request)) (answers-append e.merges.items k.items)
    ∙ map-append (λ (a : Answer). a.request) (answers_in e.merges.items) (answers_in k.items)
    ∙ (λ i. map (λ (a : Answer). a.request) (e.merges.are i) ++ (k.requests ∙ ap (λ z. map (λ (a : Asked). a.request) z.unanswered) (sym e.asks.asked)) i) in
    each-first AnswerFits e.segments k.later (merged_fits first_numbers 0 (e.merges.items ++ k.items) (e.segments ++ k.later) k.all (subst (Each SinkFits) (sym asked) fits))
