-- What one more act adds to what the acts of an end say of one of its streams.
use Rattle.std.proofs.Common.{◌≡◌, ℕ, ◌+◌, length, List, [], ◌∷◌, ◌++◌, Bool, true, false, cond, eqb, refl, sym, ap, ◌∙◌, Option, Some, None, Ok, Err, append_assoc}
use Rattle.std.specs.Prelude.{fold, nat_lt, nat_eq}
use Rattle.std.specs.Option.{option_map_or}
use Rattle.std.specs.List.{flat_map}
use Rattle.std.proofs.lemmas.List.{append-nil, length_push}
use Rattle.std.proofs.lemmas.List.Concat.{flat_map-append}
use Rattle.iw_octets.specs.declared.segment.Segment.{Segment}
use Rattle.iw_reads.specs.declared.requests.Asked.{Asked}
use Rattle.iw_untagged.specs.Receiving.{Receiving, sharing}
use Rattle.iw_stream.specs.Ending.{last_word}
use Rattle.iw_stream.specs.Starting.{first_place_out}
use Rattle.iw_queues.specs.declared.request.Request.{Request}
use Rattle.iw_queues.specs.declared.request.Kind.{Kind}
use Rattle.iw_events.specs.declared.call.End.{End}
use Rattle.iw_events.specs.declared.call.End.TheVariants.{A, B}
use Rattle.iw_events.specs.declared.act.Act.{Act}
use Rattle.iw_events.specs.declared.act.Act.TheVariants.{Domain, Register, Deregister, Invalidate, Store, Open, Share, Pool, Unpool, OpenShared, Stream}
use Rattle.iw_events.specs.declared.act.StreamAct.{StreamAct}
use Rattle.iw_events.specs.declared.act.StreamAct.TheVariants.{Recv, Post, Emit, First, Deliver, Raw, Mulpdu, Accept, Reject, Work, Break}
use Rattle.iw_events.specs.declared.act.Shown.{Shown}
use Rattle.iw_events.specs.declared.act.Shown.TheVariants as shows
use Rattle.iw_events.specs.declared.act.Seen.{Seen}
use Rattle.iw_events.specs.declared.act.Seen.TheVariants as seen
use Rattle.iw_events.specs.declared.act.Entry.{Entry}
use Rattle.iw_laws.specs.Once.{Span, Placed, placed_after, spans_by, spans_placed}
use Rattle.iw_laws.specs.Turns.{Story, story, story_after, story_seen, story_shown, says_farewell, sends_frame, is_rtr, segment_out, fetches_for, untold, Pooling, nothing_pooled, pooling, pooling_after, pooling_by, pooling_seen, queue_seen, taken_back}
use Rattle.iw_laws.specs.Words.{Opening, Octets, deed, domain_of, opening_of, other, acts, acts_if, stream_acts, stream_acts_by, openings, openings_by, posted, posted_by, finished_kinds, finished_by, handed_kinds, handed_by, size_set, size_after, Sent, received, received_by, ended, ended_after, sent, sent_by, Placing, placings, placed_by, table_after, table_by}

-- what the acts of one end say of one of its streams
pub record Tale : Type 0 where
  pub acts : ℕ  -- how many
  pub posted : List (Request Octets)
  pub finished : List Kind
  pub handed : List Kind
  pub size : ℕ
  pub received : List Sent
  pub sent : List ℕ
  pub placings : List Placing
  pub story : Story
  pub ended : Bool
  pub spans : List (Option Span)

abbrev pub tale_of : Opening → List (StreamAct Octets) → Tale
tale_of o done = record { acts = length done; posted = posted done; finished = finished_kinds done; handed = handed_kinds done; size = size_set done; received = received done; sent = sent done; placings = placings done; story = story o done; ended = ended done; spans = spans_placed o done }

abbrev pub tale_after : Tale → StreamAct Octets → Tale
tale_after t act = record {
  acts = t.acts + 1;
  posted = t.posted ++ posted_by act;
  finished = t.finished ++ finished_by act;
  handed = t.handed ++ handed_by act;
  size = size_after t.size act;
  received = t.received ++ received_by act;
  sent = t.sent ++ sent_by act;
  placings = t.placings ++ placed_by act;
  story = story_after t.story act;
  ended = ended_after t.ended act;
  spans = t.spans ++ spans_by t.story act;
}

flat_map-push : {X Y : Type 0} (f : X → List Y) (xs : List X) (x : X) → flat_map f (xs ++ x ∷ []) ≡ flat_map f xs ++ f x
flat_map-push f xs x = flat_map-append f xs (x ∷ []) ∙ ap (λ ys. flat_map f xs ++ ys) (append-nil (f x))

pub fold-push : {X Y : Type 0} (f : Y → X → Y) (a : Y) (xs : List X) (x : X) → fold f a (xs ++ x ∷ []) ≡ f (fold f a xs) x
fold-push f a [] x = refl
fold-push f a (y ∷ ys) x = fold-push f (f a y) ys x

same_story : (p : Placed) (done : List (StreamAct Octets)) → (fold placed_after p done).story ≡ fold story_after p.story done
same_story p [] = refl
same_story p (act ∷ done) = same_story (placed_after p act) done

spans-push : (o : Opening) (done : List (StreamAct Octets)) (act : StreamAct Octets) → spans_placed o (done ++ act ∷ []) ≡ spans_placed o done ++ spans_by (story o done) act
unfolding spans_placed story
spans-push o done act =
    let first : Placed = record { story = untold o; spans = [] } in
    ap (λ (p : Placed). p.spans) (fold-push placed_after first done act) ∙ ap (λ t. (fold placed_after first done).spans ++ spans_by t act) (same_story first done)

pub tale-push : (o : Opening) (done : List (StreamAct Octets)) (act : StreamAct Octets) → tale_of o (done ++ act ∷ []) ≡ tale_after (tale_of o done) act
unfolding posted finished_kinds handed_kinds size_set received sent placings story ended
tale-push o done act = λ i. record {
  acts = length_push done act i;
  posted = flat_map-push posted_by done act i;
  finished = flat_map-push finished_by done act i;
  handed = flat_map-push handed_by done act i;
  size = fold-push size_after 1400 done act i;
  received = flat_map-push received_by done act i;
  sent = flat_map-push sent_by done act i;
  placings = flat_map-push placed_by done act i;
  story = fold-push story_after (untold o) done act i;
  ended = fold-push ended_after false done act i;
  spans = spans-push o done act i;
}

-- ---- a story whose receive buffers are others

-- octets are fetched for the oldest request that waits, to its end or not
abbrev answers_one : Story → List Asked → Asked → Octets → Story
answers_one z others oldest octets = record z {
  asked = record z.asked { unanswered = others; fetched = 0 };
  answers = z.answers ++ record { request = oldest.request; octets = z.begun ++ octets } ∷ [];
  begun = [];
}

abbrev begins_more : Story → Octets → Story
begins_more z octets = record z {
  asked = record z.asked { fetched = length z.begun + length octets };
  begun = z.begun ++ octets;
}

module _ (t : Story) (r : Receiving) where
  -- what the acts say besides is the same
  shown_apart : (shown : Shown Octets) → story_shown (record t { receiving = r }) shown ≡ record (story_shown t shown) { receiving = (story_shown (record t { receiving = r }) shown).receiving }
  shown_apart (shows.Frame from octets) = go (nat_lt from (first_place_out t.start)) (last_word t.ending) (segment_out t from octets) (is_rtr t from)
    where
      go : (first : Bool) (word : Option Octets) (segment : Option (Segment Octets)) (ready : Bool)
          → cond first (record t { receiving = r }) (option_map_or (says_farewell (record t { receiving = r })) word (option_map_or (sends_frame (record t { receiving = r }) ready) segment (record t { receiving = r })))
          ≡ record (cond first t (option_map_or (says_farewell t) word (option_map_or (sends_frame t ready) segment t))) {
            receiving = (cond first (record t { receiving = r }) (option_map_or (says_farewell (record t { receiving = r })) word (option_map_or (sends_frame (record t { receiving = r }) ready) segment (record t { receiving = r })))).receiving;
          }
      go true word segment ready = refl
      go false (Some payload) segment ready = refl
      go false None None ready = refl
      go false None (Some segment) true = refl
      go false None (Some segment) false = refl
  shown_apart (shows.Fetched from frame stag to octets) = go t.asked.unanswered
    where
      go : (waiting : List Asked) → fetches_for (record t { receiving = r }) waiting octets ≡ record (fetches_for t waiting octets) { receiving = (fetches_for (record t { receiving = r }) waiting octets).receiving }
      go [] = refl
      go (oldest ∷ others) = by (nat_eq (length t.begun + length octets) oldest.request.size)
        where
          by : (whole : Bool) → cond whole (answers_one (record t { receiving = r }) others oldest octets) (begins_more (record t { receiving = r }) octets)
              ≡ record (cond whole (answers_one t others oldest octets) (begins_more t octets)) { receiving = (cond whole (answers_one (record t { receiving = r }) others oldest octets) (begins_more (record t { receiving = r }) octets)).receiving }
          by true = refl
          by false = refl
  shown_apart (shows.Fault fault) = refl
  shown_apart shows.Nothing = refl

  seen_apart : (step : Seen Octets) → story_seen (record t { receiving = r }) step ≡ record (story_seen t step) { receiving = (story_seen (record t { receiving = r }) step).receiving }
  seen_apart (seen.Done kind) = refl
  seen_apart (seen.Flushed kind) = refl
  seen_apart (seen.FlushedRecv octets) = refl
  seen_apart (seen.Asked word private) = refl
  seen_apart (seen.Opened agreed word private) = refl
  seen_apart (seen.Closed fault) = refl
  seen_apart (seen.Placed right stag to octets) = refl
  seen_apart (seen.Buffered msn mo len) = refl
  seen_apart (seen.Requested size stag to) = refl
  seen_apart (seen.Tried place) = refl
  seen_apart seen.Passed = refl
  seen_apart (seen.Received octets solicited invalidate) = refl
  seen_apart (seen.Terminated fault) = refl
  seen_apart (seen.Fault fault) = refl
  seen_apart seen.Idle = refl

  pub story_apart : (act : StreamAct Octets) → story_after (record t { receiving = r }) act ≡ record (story_after t act) { receiving = (story_after (record t { receiving = r }) act).receiving }
  story_apart (Recv len refused) = refl
  story_apart (Post message refused) = refl
  story_apart (Emit shown) = shown_apart shown
  story_apart (First number refused) = refl
  story_apart (Deliver from number octets delivery) = refl
  story_apart (Raw number octets delivery) = refl
  story_apart (Mulpdu size refused) = refl
  story_apart (Accept private answer) = refl
  story_apart (Reject private refused) = refl
  story_apart (Work step) = seen_apart step
  story_apart Break = refl

-- ---- one more act of an end

pub table-push : (done : List (Act Octets)) (act : Act Octets) → table_after (done ++ act ∷ []) ≡ table_by (table_after done) act
unfolding table_after
table-push done act = fold-push table_by _ done act

pub stream_acts-push : (n : ℕ) (done : List (Act Octets)) (act : Act Octets) → stream_acts n (done ++ act ∷ []) ≡ stream_acts n done ++ stream_acts_by n act
unfolding stream_acts
stream_acts-push n done act = flat_map-push (stream_acts_by n) done act

pub openings-push : (n : ℕ) (done : List (Act Octets)) (act : Act Octets) → openings n (done ++ act ∷ []) ≡ openings n done ++ openings_by n act
unfolding openings
openings-push n done act = flat_map-push (openings_by n) done act

-- what is said of the pools, with the acts that it is said of
abbrev pub pooled : List (Act Octets) → Pooling
pooled done = record (pooling done) { done = done }

done_told : (p : Pooling) (done : List (Act Octets)) → (fold pooling_after p done).done ≡ p.done ++ done
done_told p [] = sym (append-nil p.done)
done_told p (act ∷ done) = done_told (pooling_after p act) done ∙ append_assoc p.done (act ∷ []) done

pub pooling-push : (done : List (Act Octets)) (act : Act Octets) → pooling (done ++ act ∷ []) ≡ pooling_after (pooled done) act
unfolding pooling
pooling-push done act = fold-push pooling_after nothing_pooled done act ∙ (λ i. pooling_after (record (pooling done) { done = done_told nothing_pooled done i }) act)

-- an act that is none of the stream leaves its queue
pub queue_other : (p : Pooling) (n : ℕ) (act : Act Octets) → stream_acts_by n act ≡ [] → (pooling_by p act).queues n ≡ p.queues n
queue_other p n (Domain pd refused) none = refl
queue_other p n (Register pd base rights octets answer) none = refl
queue_other p n (Deregister stag answer) none = refl
queue_other p n (Invalidate stag refused) none = refl
queue_other p n (Store stag to octets refused) none = refl
queue_other p n (Open m pd role options private refused) none = refl
queue_other p n (Share pd None) none = refl
queue_other p n (Share pd (Some refusal)) none = refl
queue_other p n (Pool pd len None) none = refl
queue_other p n (Pool pd len (Some refusal)) none = refl
queue_other p n (Unpool pd (Ok buffer)) none = refl
queue_other p n (Unpool pd (Err refusal)) none = refl
queue_other p n (OpenShared m pd role options private refused) none = refl
queue_other p n (Stream m act) none = go (opening_of m p.done).shared (deed act).step (eqb m n) refl none
  where
    go : (shared : Bool) (o : Option (Seen Octets)) (b : Bool) → eqb m n ≡ b → cond b (act ∷ []) [] ≡ [] → (cond shared (option_map_or (pooling_seen p m) o p) p).queues n ≡ p.queues n
    go false o b e none = refl
    go true None b e none = refl
    go true (Some step) false e none = ap (λ z. cond z (taken_back (p.pools (domain_of m p.done)) (p.queues m) (queue_seen p m step)) (p.queues n)) e
    go true (Some step) true e none = absurd (let no : ⊥ = cc in no)

queue_still : (p : Pooling) (n : ℕ) (done : List (Act Octets)) → stream_acts n done ≡ [] → (fold pooling_after p done).queues n ≡ p.queues n
unfolding stream_acts
queue_still p n [] none = refl
queue_still p n (act ∷ done) none = let parts = both_none (stream_acts_by n act) (stream_acts n done) none in queue_still (pooling_after p act) n done parts.1 ∙ queue_other p n act parts.0
  where
    both_none : (xs ys : List (StreamAct Octets)) → xs ++ ys ≡ [] → (xs ≡ []) × (ys ≡ [])
    both_none [] ys e = (refl, e)
    both_none (x ∷ xs) ys e = absurd (let no : ⊥ = cc in no)

-- nothing was done there
pub queue_unused : (n : ℕ) (done : List (Act Octets)) → stream_acts n done ≡ [] → (pooling done).queues n ≡ sharing
unfolding pooling
queue_unused n done none = queue_still nothing_pooled n done none

-- ---- one more entry

pub acts-push : (x : End) (trace : List (Entry Octets)) (e : Entry Octets) → acts x (trace ++ e ∷ []) ≡ acts x trace ++ acts_if x e.end e.act
unfolding acts
acts-push x trace e = flat_map-push (λ (e : Entry Octets). acts_if x e.end e.act) trace e

-- an entry is an act of its end, and none of the other
pub acts_mine : (trace : List (Entry Octets)) (e : Entry Octets) → acts e.end (trace ++ e ∷ []) ≡ acts e.end trace ++ e.act ∷ []
acts_mine trace e = acts-push e.end trace e ∙ ap (λ xs. acts e.end trace ++ xs) (mine e.end e.act)
  where
    mine : (x : End) (act : Act Octets) → acts_if x x act ≡ act ∷ []
    mine A act = refl
    mine B act = refl

pub acts_other : (trace : List (Entry Octets)) (e : Entry Octets) → acts (other e.end) (trace ++ e ∷ []) ≡ acts (other e.end) trace
acts_other trace e = acts-push (other e.end) trace e ∙ ap (λ xs. acts (other e.end) trace ++ xs) (none e.end e.act) ∙ append-nil (acts (other e.end) trace)
  where
    none : (x : End) (act : Act Octets) → acts_if (other x) x act ≡ []
    none A act = refl
    none B act = refl
