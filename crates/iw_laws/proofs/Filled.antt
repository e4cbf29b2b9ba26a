-- What the segments of Sends leave in the receive buffers that were placed in any order: those of each message stand in its buffer, side by side.
use Rattle.std.proofs.Common.{◌≡◌, ◌⊎◌, inl, inr, ℕ, zero, suc, ◌+◌, ◌-◌, ◌<◌, ◌≤◌, List, [], ◌∷◌, ◌++◌, length, map, take, drop, Option, Some, None, Bool, true, false, cond, refl, sym, ap, ◌∙◌, subst, arith, append_assoc, length-append}
use Rattle.std.specs.Prelude.{nat_eq, slice_get, slice_set, slice_index_or}
use Rattle.std.specs.Option.{option_map_or, option_or}
use Rattle.std.proofs.lemmas.Bool.{cases_lt}
use Rattle.std.proofs.lemmas.Bool.Decides.{nat_tests}
use Rattle.std.proofs.lemmas.List.{append-nil}
use Rattle.std.proofs.lemmas.Option.{same_Some}
use Rattle.iw_octets.specs.declared.head.UntaggedHead.{UntaggedHead}
use Rattle.iw_octets.specs.declared.segment.Segment.{Segment}
use Rattle.iw_octets.specs.declared.segment.Segment.TheVariants.{Tagged, Untagged}
use Rattle.iw_octets.specs.Octets.{splice}
use Rattle.iw_queues.specs.Joined.{joined, completed}
use Rattle.iw_laws.specs.Words.{Octets}
use Rattle.iw_untagged.specs.Receiving.{Source, Posted, Pooled, bound_to}
use Rattle.iw_laws.proofs.Checks.{HasBuffer, octets_in, places_in}
use Rattle.iw_laws.proofs.Joins.{begun, joined-append, begun-append, joined_next, begun_next}
use Rattle.iw_laws.proofs.Buffers.{StandAt, stands_written, stands_beside, stands_elsewhere, stands_more, stands_next, reads_on}
use Rattle.iw_laws.proofs.Numbered.{Segments, apart, same_there, before_there}

-- of the segments of Sends among these, those that were placed stand in the buffers of their messages: P tells which were placed, by how many are before it;
-- n messages are complete, and the others have the buffers in order
abbrev pub StandPlaced : Segments → (ℕ → Type 0) → ℕ → List (List ℕ) → Type 0
StandPlaced ss P n bs =
    (a b : Segments) (head : UntaggedHead) (payload : Octets) → ss ≡ a ++ Untagged head payload ∷ b → head.queue ≡ 0 → P (length a) → n ≤ length (joined [] a)
    → StandAt bs (length (joined [] a) - n) (length (begun [] a)) payload

-- no more were placed
pub fewer_placed : (ss : Segments) (P Q : ℕ → Type 0) (n : ℕ) (bs : List (List ℕ)) → ((j : ℕ) → Q j → P j) → StandPlaced ss P n bs → StandPlaced ss Q n bs
fewer_placed ss P Q n bs fewer k a b head payload is queue p due = k a b head payload is queue (fewer (length a) p) due

-- but for one that is no Send's
pub other_placed : (ss : Segments) (P Q : ℕ → Type 0) (n i : ℕ) (bs : List (List ℕ)) → ((j : ℕ) → Q j → P j ⊎ (j ≡ i))
    → ((a b : Segments) (head : UntaggedHead) (payload : Octets) → ss ≡ a ++ Untagged head payload ∷ b → head.queue ≡ 0 → length a ≡ i → ⊥) → StandPlaced ss P n bs → StandPlaced ss Q n bs
other_placed ss P Q n i bs more none k a b head payload is queue p due =
    elim (more (length a) p) [
      | inl old ↦ k a b head payload is queue old due
      | inr here ↦ absurd (none a b head payload is queue here)
    ]

-- where the buffer of a message that has none is bound
stands_there : (bs : List (List ℕ)) (new octets : List ℕ) (at : ℕ) → StandAt ([] ∷ bs) 0 at octets → StandAt (new ∷ bs) 0 at octets
stands_there bs new [] at k = let short : at ≤ 0 = omega (arith, k.fits, ap length (same_Some _ _ k.is)) in record { buffer = new; is = refl; fits = omega (arith, short); there = refl }
stands_there bs new (x ∷ octets) at k = absurd (omega (arith, k.fits, ap length (same_Some _ _ k.is)))

stands_bound : (ps : List (Option (List ℕ))) (ahead : ℕ) (o : Option (List ℕ)) (i at : ℕ) (octets : List ℕ) → StandAt (map octets_in ps) i at octets
    → StandAt (map octets_in (slice_set ps ahead (option_map_or (λ place. option_or place o) (slice_get ps ahead) None))) i at octets
stands_bound [] ahead o i at octets k = k
stands_bound (None ∷ ps) zero o zero at octets k = stands_there (map octets_in ps) (octets_in o) octets at k
stands_bound (Some b ∷ ps) zero o zero at octets k = k
stands_bound (None ∷ ps) zero o (suc i) at octets k = record { buffer = k.buffer; is = k.is; fits = k.fits; there = k.there }
stands_bound (Some b ∷ ps) zero o (suc i) at octets k = k
stands_bound (p ∷ ps) (suc ahead) o zero at octets k = record { buffer = k.buffer; is = k.is; fits = k.fits; there = k.there }
stands_bound (p ∷ ps) (suc ahead) o (suc i) at octets k =
    let r = stands_bound ps ahead o i at octets (record { buffer = k.buffer; is = k.is; fits = k.fits; there = k.there }) in
    record { buffer = r.buffer; is = r.is; fits = r.fits; there = r.there }

pub bound_placed : (ss : Segments) (P : ℕ → Type 0) (n ahead : ℕ) (source : Source) → StandPlaced ss P n (places_in source) → StandPlaced ss P n (places_in (bound_to source ahead))
bound_placed ss P n ahead (Posted bs) k a b head payload is queue p due = k a b head payload is queue p due
bound_placed ss P n ahead (Pooled ps pool) k a b head payload is queue p due =
    stands_bound ps ahead (slice_get pool 0) (length (joined [] a) - n) (length (begun [] a)) payload (k a b head payload is queue p due)

-- one more is written into its buffer
module _ (ss : Segments) (n : ℕ) (bs : List (List ℕ)) (a b : Segments) (head : UntaggedHead) (payload : Octets) (is : ss ≡ a ++ Untagged head payload ∷ b) (queue : head.queue ≡ 0) (due : n ≤ length (joined [] a))
    (there : HasBuffer bs (length (joined [] a) - n) (length (begun [] a) + length payload)) where
  abbrev now : List (List ℕ)
  now = slice_set bs (length (joined [] a) - n) (splice (slice_index_or bs (length (joined [] a) - n) []) (length (begun [] a)) payload)

  -- another one stays
  module _ (c d : Segments) (other : UntaggedHead) (octets : Octets) (at : ss ≡ c ++ Untagged other octets ∷ d) (mine : other.queue ≡ 0) (later : n ≤ length (joined [] c))
      (stands : StandAt bs (length (joined [] c) - n) (length (begun [] c)) octets) where
    elsewhere : (length (joined [] a) ≡ length (joined [] c) → ⊥) → StandAt now (length (joined [] c) - n) (length (begun [] c)) octets
    elsewhere apart_ =
        stands_elsewhere bs (length (joined [] a) - n) (length (joined [] c) - n) (length (begun [] c)) (splice (slice_index_or bs (length (joined [] a) - n) []) (length (begun [] a)) payload) octets
        (λ e. apart_ (omega (arith, e, due, later))) stands

    beside : length (joined [] c) ≡ length (joined [] a) → (length (begun [] c) + length octets ≤ length (begun [] a)) ⊎ (length (begun [] a) + length payload ≤ length (begun [] c))
        → StandAt now (length (joined [] c) - n) (length (begun [] c)) octets
    beside same sides =
        subst (λ m. StandAt now (m - n) (length (begun [] c)) octets) (sym same)
        (stands_beside bs (length (joined [] a) - n) (length (begun [] a)) (length (begun [] c)) payload octets there sides
        (subst (λ m. StandAt bs (m - n) (length (begun [] c)) octets) same stands))

    stays : (length c < length a) ⊎ (length a < length c) → StandAt now (length (joined [] c) - n) (length (begun [] c)) octets
    stays (inl before) =
        let w = before_there c d a b (Untagged other octets) (Untagged head payload) (sym at ∙ is) (omega (arith, before)) in
        elim (cases_lt (length (joined [] c)) (length (joined [] a))) [
          | inl fewer ↦ elsewhere (λ e. omega (arith, e, fewer))
          | inr no_fewer ↦
              elim (cases_lt (length (joined [] a)) (length (joined [] c))) [
                | inl more ↦ elsewhere (λ e. omega (arith, e, more))
                | inr no_more ↦
                    let same : length (joined [] c) ≡ length (joined [] a) = omega (arith, no_fewer, no_more) in
                    beside same (inl (omega (arith, apart c w.0 other octets mine (ap (λ z. length (joined [] z)) (sym w.1) ∙ sym same), ap (λ z. length (begun [] z)) w.1)))
              ]
        ]
    stays (inr past) =
        let w = before_there a b c d (Untagged head payload) (Untagged other octets) (sym is ∙ at) (omega (arith, past)) in
        elim (cases_lt (length (joined [] c)) (length (joined [] a))) [
          | inl fewer ↦ elsewhere (λ e. omega (arith, e, fewer))
          | inr no_fewer ↦
              elim (cases_lt (length (joined [] a)) (length (joined [] c))) [
                | inl more ↦ elsewhere (λ e. omega (arith, e, more))
                | inr no_more ↦
                    let same : length (joined [] c) ≡ length (joined [] a) = omega (arith, no_fewer, no_more) in
                    beside same (inr (omega (arith, apart a w.0 head payload queue (ap (λ z. length (joined [] z)) (sym w.1) ∙ same), ap (λ z. length (begun [] z)) w.1)))
              ]
        ]

  -- itself
  here : (c d : Segments) (other : UntaggedHead) (octets : Octets) → ss ≡ c ++ Untagged other octets ∷ d → length c ≡ length a → StandAt now (length (joined [] c) - n) (length (begun [] c)) octets
  here c d other octets at same =
      let w = same_there c d a b (Untagged other octets) (Untagged head payload) (sym at ∙ is) same in
      let octets_are : payload ≡ octets = cc w.1 in
      subst (λ z. StandAt now (length (joined [] z) - n) (length (begun [] z)) octets) (sym w.0)
      (subst (λ z. StandAt now (length (joined [] a) - n) (length (begun [] a)) z) octets_are (stands_written bs (length (joined [] a) - n) (length (begun [] a)) payload there))

  pub one_placed : (P Q : ℕ → Type 0) → ((j : ℕ) → Q j → P j ⊎ (j ≡ length a)) → StandPlaced ss P n bs → StandPlaced ss Q n now
  one_placed P Q more k c d other octets at mine p later =
      elim (cases_lt (length c) (length a)) [
        | inl before ↦ elim (more (length c) p) [
          | inl old ↦ stays c d other octets at mine later (k c d other octets at mine old later) (inl before)
          | inr same ↦ here c d other octets at same
        ]
        | inr no_less ↦
            elim (cases_lt (length a) (length c)) [
              | inl past ↦ elim (more (length c) p) [
                | inl old ↦ stays c d other octets at mine later (k c d other octets at mine old later) (inr past)
                | inr same ↦ here c d other octets at same
              ]
              | inr no_more ↦ here c d other octets at (omega (arith, no_less, no_more))
            ]
      ]

-- a buffer is posted
pub posted_placed : (ss : Segments) (P : ℕ → Type 0) (n : ℕ) (bs more : List (List ℕ)) → StandPlaced ss P n bs → StandPlaced ss P n (bs ++ more)
posted_placed ss P n bs more k a b head payload is queue p due = stands_more bs more (length (joined [] a) - n) (length (begun [] a)) payload (k a b head payload is queue p due)

-- one more message is complete
pub next_placed : (ss : Segments) (P : ℕ → Type 0) (n m : ℕ) (bs : List (List ℕ)) → m ≡ suc n → StandPlaced ss P n bs → StandPlaced ss P m (drop 1 bs)
next_placed ss P n m bs next k a b head payload is queue p due =
    stands_next bs (length (joined [] a) - m) (length (begun [] a)) payload
    (subst (λ i. StandAt bs i (length (begun [] a)) payload) (omega (arith, next, due)) (k a b head payload is queue p (omega (arith, next, due))))

-- ---- what stands in the oldest buffer

module _ (ss : Segments) (P : ℕ → Type 0) (n : ℕ) (bs : List (List ℕ)) (k : StandPlaced ss P n bs) (segs later : Segments) (parts : ss ≡ segs ++ later) (all : (j : ℕ) → j < length segs → P j) where
  -- the octets of the message that was begun, where it is the one that is due
  abbrev Reads : Segments → Type 0
  Reads a = length (joined [] a) ≡ n → take (length (begun [] a)) (slice_index_or bs 0 []) ≡ begun [] a

  same_reads : (a : Segments) (x : Segment Octets) → joined [] (a ++ x ∷ []) ≡ joined [] a → begun [] (a ++ x ∷ []) ≡ begun [] a → Reads a → Reads (a ++ x ∷ [])
  same_reads a x same_joined same_begun q due = subst (λ z. take (length z) (slice_index_or bs 0 []) ≡ z) (sym same_begun) (q (ap length (sym same_joined) ∙ due))

  step : (a c : Segments) (x : Segment Octets) → a ++ x ∷ c ≡ segs → Reads a → Reads (a ++ x ∷ [])
  step a c (Tagged head payload) e q = same_reads a (Tagged head payload) (joined-append [] a (Tagged head payload ∷ []) ∙ append-nil (joined [] a)) (begun-append [] a (Tagged head payload ∷ [])) q
  step a c (Untagged head payload) e q = go (nat_eq head.queue 0) refl head.last refl
    where
      x : Segment Octets
      x = Untagged head payload

      go : (mine : Bool) → nat_eq head.queue 0 ≡ mine → (last : Bool) → head.last ≡ last → Reads (a ++ Untagged head payload ∷ [])
      go false is last l =
          same_reads a (Untagged head payload)
          (joined-append [] a (Untagged head payload ∷ []) ∙ ap (λ b. joined [] a ++ cond b (cond head.last (completed head (begun [] a ++ payload) ∷ []) []) []) is ∙ append-nil (joined [] a))
          (begun-append [] a (Untagged head payload ∷ []) ∙ ap (λ b. cond b (cond head.last [] (begun [] a ++ payload)) (begun [] a)) is) q
      go true is true l = λ due.
          let queue : head.queue ≡ 0 = grind (arith, nat_tests) in
          let none : begun [] (a ++ Untagged head payload ∷ []) ≡ [] = begun_next a head payload queue ∙ ap (λ b. cond b [] (begun [] a ++ payload)) l in
          subst (λ z. take (length z) (slice_index_or bs 0 []) ≡ z) (sym none) refl
      go true is false l = λ due.
          let queue : head.queue ≡ 0 = grind (arith, nat_tests) in
          let open_ : begun [] (a ++ Untagged head payload ∷ []) ≡ begun [] a ++ payload = begun_next a head payload queue ∙ ap (λ b. cond b [] (begun [] a ++ payload)) l in
          let same : joined [] (a ++ Untagged head payload ∷ []) ≡ joined [] a =
          joined_next a head payload queue ∙ ap (λ b. joined [] a ++ cond b (completed head (begun [] a ++ payload) ∷ []) []) l ∙ append-nil (joined [] a) in
          let count : length (joined [] a) ≡ n = ap length (sym same) ∙ due in
          let inside : length a < length segs = omega (arith, ap length e, length-append a (Untagged head payload ∷ c)) in
          let at : ss ≡ a ++ Untagged head payload ∷ (c ++ later) = parts ∙ ap (λ z. z ++ later) (sym e) ∙ append_assoc a (Untagged head payload ∷ c) later in
          let stands : StandAt bs 0 (length (begun [] a)) payload =
          subst (λ i. StandAt bs i (length (begun [] a)) payload) (omega (arith, count)) (k a (c ++ later) head payload at queue (all (length a) inside) (omega (arith, count))) in
          let read : take (length (begun [] a) + length payload) (slice_index_or bs 0 []) ≡ begun [] a ++ payload = reads_on bs (begun [] a) payload (q count) stands in
          subst (λ z. take (length z) (slice_index_or bs 0 []) ≡ z) (sym open_) (ap (λ m. take m (slice_index_or bs 0 [])) (length-append (begun [] a) payload) ∙ read)

  on : (a c : Segments) → a ++ c ≡ segs → Reads a → Reads segs
  on a [] e q = subst Reads (sym (append-nil a) ∙ e) q
  on a (x ∷ c) e q = on (a ++ x ∷ []) c (append_assoc a (x ∷ []) c ∙ e) (step a c x e q)

  pub reads_begun : length (joined [] segs) ≡ n → take (length (begun [] segs)) (slice_index_or bs 0 []) ≡ begun [] segs
  reads_begun = on [] segs refl (λ due. refl)
