-- What follows where no check of an untagged segment fails.
use Rattle.std.proofs.Common.{◌≡◌, ℕ, zero, suc, ◌+◌, ◌<◌, ◌≤◌, List, [], ◌∷◌, ◌++◌, length, map, take, drop, Option, Some, None, refl, sym, ap, ◌∙◌, subst, arith, length-append, length-drop, length-take}
use Rattle.std.specs.Prelude.{slice_get, slice_set, slice_index_or, unwrap_or, IsSome}
use Rattle.std.specs.Option.{option_map, option_map_or, option_or}
use Rattle.std.proofs.lemmas.Bool.{false≢true}
use Rattle.std.proofs.lemmas.List.{append-nil}
use Rattle.std.proofs.lemmas.Option.{none-some, same_Some}
use Rattle.iw_octets.specs.declared.head.UntaggedHead.{UntaggedHead}
use Rattle.iw_octets.specs.Octets.{splice}
use Rattle.iw_untagged.specs.Receiving.{Source, Posted, Pooled, Receiving, ahead_of, bound_to, buffer_fault, buffer_for, due_buffer, seeing, shifted, with_last, written_in}
use Rattle.iw_untagged.proofs.Receivings.{fits}

-- ---- the buffers of the next messages

-- no octets where a message has none
abbrev pub octets_in : Option (List ℕ) → List ℕ
octets_in o = unwrap_or o []

-- in the order of the messages
abbrev pub places_in : Source → List (List ℕ)
places_in (Posted buffers) = buffers
places_in (Pooled places pool) = map octets_in places

-- a pool that is lent changes none of them
pub places_lent : (source : Source) (pool : List (List ℕ)) → places_in (seeing source pool) ≡ places_in source
places_lent (Posted bs) pool = refl
places_lent (Pooled ps held) pool = refl

-- one that is posted stands behind them
pub places_more : (source : Source) (buffer : List ℕ) → (more : List (List ℕ)) × (places_in (with_last source buffer) ≡ places_in source ++ more)
places_more (Posted bs) buffer = (buffer ∷ [], refl)
places_more (Pooled ps pool) buffer = ([], sym (append-nil (map octets_in ps)))

-- the next message is due
pub places_next : (source : Source) → (more : List (List ℕ)) × (places_in (shifted source) ≡ drop 1 (places_in source) ++ more)
places_next (Posted bs) = ([], sym (append-nil (drop 1 bs)))
places_next (Pooled ps pool) = ([] ∷ [], next ps)
  where
    pushed : (ps : List (Option (List ℕ))) → map octets_in (ps ++ None ∷ []) ≡ map octets_in ps ++ [] ∷ []
    pushed [] = refl
    pushed (p ∷ ps) = ap (λ z. octets_in p ∷ z) (pushed ps)

    next : (ps : List (Option (List ℕ))) → map octets_in (drop 1 ps ++ None ∷ []) ≡ drop 1 (map octets_in ps) ++ [] ∷ []
    next [] = refl
    next (p ∷ ps) = pushed ps

-- the oldest
pub places_oldest : (source : Source) → due_buffer source ≡ slice_index_or (places_in source) 0 []
places_oldest (Posted []) = refl
places_oldest (Posted (b ∷ bs)) = refl
places_oldest (Pooled [] pool) = refl
places_oldest (Pooled (p ∷ ps) pool) = refl

-- ---- checks that pass

-- the buffer is there, with room
pub record HasBuffer (bs : List (List ℕ)) (i end : ℕ) : Type 0 where
  pub buffer : List ℕ
  pub is : slice_get bs i ≡ Some buffer
  pub room : end ≤ length buffer

-- a segment of the message so far ahead goes to a buffer with room
pub record GoesTo (source : Source) (ahead end : ℕ) : Type 0 where
  pub buffer : List ℕ
  pub is : buffer_for source ahead ≡ Some buffer
  pub room : end ≤ length buffer

pub checked_buffer : (r : Receiving) (head : UntaggedHead) (n : ℕ) → buffer_fault r head.msn head.mo n ≡ None → GoesTo r.source (ahead_of r.due head.msn) (head.mo + n)
checked_buffer r head n e = go (buffer_for r.source (ahead_of r.due head.msn)) refl (fits (ahead_of r.due head.msn) (buffer_for r.source (ahead_of r.due head.msn)) (head.mo + n) e)
  where
    go : (o : Option (List ℕ)) → buffer_for r.source (ahead_of r.due head.msn) ≡ o → (ahead_of r.due head.msn < 256) × IsSome o × (head.mo + n ≤ length (unwrap_or o [])) → GoesTo r.source (ahead_of r.due head.msn) (head.mo + n)
    go None is h = absurd (false≢true h.1)
    go (Some b) is h = record { buffer = b; is = is; room = h.2 }

-- ---- a buffer is bound

get_places : (ps : List (Option (List ℕ))) (i : ℕ) (b : List ℕ) → slice_get ps i ≡ Some (Some b) → slice_get (map octets_in ps) i ≡ Some b
get_places [] i b e = absurd (none-some _ e)
get_places (p ∷ ps) zero b e = ap (λ z. Some (octets_in z)) (same_Some _ _ e)
get_places (p ∷ ps) (suc i) b e = get_places ps i b e

bound_there : (ps : List (Option (List ℕ))) (i : ℕ) (o : Option (List ℕ)) (b : List ℕ) → option_map_or (λ place. option_or place o) (slice_get ps i) None ≡ Some b → slice_get (slice_set ps i (Some b)) i ≡ Some (Some b)
bound_there [] i o b e = absurd (none-some _ e)
bound_there (p ∷ ps) zero o b e = refl
bound_there (p ∷ ps) (suc i) o b e = bound_there ps i o b e

module _ (ps : List (Option (List ℕ))) (pool : List (List ℕ)) (ahead end : ℕ) (g : GoesTo (Pooled ps pool) ahead end) where
  abbrev now : List (Option (List ℕ))
  now = slice_set ps ahead (buffer_for (Pooled ps pool) ahead)

  bound_now : slice_get now ahead ≡ Some (Some g.buffer)
  bound_now = ap (λ o. slice_get (slice_set ps ahead o) ahead) g.is ∙ bound_there ps ahead (slice_get pool 0) g.buffer g.is

-- then its message has it
pub has_bound : (source : Source) (ahead end : ℕ) → GoesTo source ahead end → HasBuffer (places_in (bound_to source ahead)) ahead end
has_bound (Posted bs) ahead end g = record { buffer = g.buffer; is = g.is; room = g.room }
has_bound (Pooled ps pool) ahead end g = record { buffer = g.buffer; is = get_places (now ps pool ahead end g) ahead g.buffer (bound_now ps pool ahead end g); room = g.room }

map_written : (ps : List (Option (List ℕ))) (i : ℕ) (b : List ℕ) (f : List ℕ → List ℕ) → slice_get ps i ≡ Some (Some b)
    → map octets_in (slice_set ps i (option_map f (slice_index_or ps i None))) ≡ slice_set (map octets_in ps) i (f (slice_index_or (map octets_in ps) i []))
map_written [] i b f e = absurd (none-some _ e)
map_written (p ∷ ps) zero b f e = subst (λ z. octets_in (option_map f z) ∷ map octets_in ps ≡ f (octets_in z) ∷ map octets_in ps) (sym (same_Some _ _ e)) refl
map_written (p ∷ ps) (suc i) b f e = ap (λ z. octets_in p ∷ z) (map_written ps i b f e)

-- and is written into it
pub places_written : (source : Source) (ahead end mo : ℕ) (octets : List ℕ) → GoesTo source ahead end
    → places_in (written_in (bound_to source ahead) ahead mo octets) ≡ slice_set (places_in (bound_to source ahead)) ahead (splice (slice_index_or (places_in (bound_to source ahead)) ahead []) mo octets)
places_written (Posted bs) ahead end mo octets g = refl
places_written (Pooled ps pool) ahead end mo octets g = map_written (now ps pool ahead end g) ahead g.buffer (λ b. splice b mo octets) (bound_now ps pool ahead end g)

-- ---- a buffer that is written

pub get_set : (bs : List (List ℕ)) (i : ℕ) (new old : List ℕ) → slice_get bs i ≡ Some old → slice_get (slice_set bs i new) i ≡ Some new
get_set [] i new old e = absurd (none-some _ e)
get_set (b ∷ bs) zero new old e = refl
get_set (b ∷ bs) (suc i) new old e = get_set bs i new old e

pub index_of : (bs : List (List ℕ)) (i : ℕ) (old : List ℕ) → slice_get bs i ≡ Some old → slice_index_or bs i [] ≡ old
index_of [] i old e = absurd (none-some _ e)
index_of (b ∷ bs) zero old e = cc
index_of (b ∷ bs) (suc i) old e = index_of bs i old e

pub length-splice : (old new : List ℕ) (at : ℕ) → at + length new ≤ length old → length (splice old at new) ≡ length old
length-splice old new at fits =
    omega (arith, length-append (take at old ++ new) (drop (at + length new) old), length-append (take at old) new, length-take at old, length-drop (at + length new) old)
