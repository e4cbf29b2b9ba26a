-- The buffers of Sends whose segments were placed: each stays there until its message is handed out, and no other message comes round to that number
-- before the segment has its turn.
use Rattle.std.proofs.Common.{◌≡◌, ◌⊎◌, ℕ, zero, suc, ◌+◌, ◌-◌, ◌<◌, ◌≤◌, ◌%◌, ◌^◌, List, [], ◌∷◌, ◌++◌, Contains, length, get_or, set, slice_get, Option, Some, None, refl, sym, ap, ◌∙◌, subst, arith, inl, inr, length-append, length-drop}
use Rattle.std.specs.Prelude.{IsSome, IsSomeAnd, unwrap_or}
use Rattle.std.specs.Option.{option_map, option_map_or, option_or}
use Rattle.std.proofs.lemmas.Bool.{cases_lt}
use Rattle.std.proofs.lemmas.List.{get_or-set_same, length-set, length-take}
use Rattle.arrayvec.specs.ArrayVec.{ArrayVec}
use Rattle.iw_octets.specs.declared.segment.Segment.{Segment}
use Rattle.iw_octets.specs.declared.segment.Segment.TheVariants.{Tagged, Untagged}
use Rattle.iw_octets.specs.Octets.{splice}
use Rattle.iw_octets.specs.Segment.{read_segment}
use Rattle.iw_ranges.specs.Arrived.{window}
use Rattle.iw_locate.specs.declared.judged.State.{State}
use Rattle.iw_locate.specs.declared.judged.State.TheVariants.{Tried, Placed}
use Rattle.iw_locate.specs.Records.{from_of}
use Rattle.iw_untagged.specs.Receiving.{Source, Posted, Pooled, Receiving, HasRoomAt, ahead_of, bound_to, buffer_fault, buffer_for, buffer_in, finished, lent, seeing, shifted, turned, with_buffer, with_last, written, written_in}
use Rattle.iw_untagged.proofs.Receivings.{fits}
use Rattle.iw_untagged.proofs.Splices.{length-splice}
use Rattle.iw_stream.specs.Frames.{EarlyRecord}
use Rattle.iw_stream.specs.Kept.{HasBuffer, HasRoomInTurn, KeepsBuffer, WasHandedOut}

-- ---- numbers
-- the due one moves on by one, and each next one lies one less ahead of it
nearer : (due msn : ℕ) → due < 2 ^ 32 → 0 < ahead_of due msn → ahead_of ((due + 1) % 2 ^ 32) msn + 1 ≡ ahead_of due msn
nearer due msn low ahead = elim (cases_lt (due + 1) (2 ^ 32)) [
  | inl less ↦ omega arith
  | inr last ↦ omega arith
]

-- its own lies behind it then
behind : (due msn : ℕ) → due < 2 ^ 32 → ahead_of due msn ≡ 0 → ahead_of ((due + 1) % 2 ^ 32) msn + 1 ≡ 2 ^ 32
behind due msn low here = elim (cases_lt (due + 1) (2 ^ 32)) [
  | inl less ↦ omega arith
  | inr last ↦ omega arith
]

-- ---- what leaves the buffers there
-- no number goes, and no buffer goes or gets shorter
pub record StaysThere (r t : Receiving) : Type 0 where
  pub due : t.due ≡ r.due
  pub room : (ahead end : ℕ) → HasRoomAt r ahead end → HasRoomAt t ahead end

pub stays_same : (r t : Receiving) → t ≡ r → StaysThere r t
stays_same r t e = subst (StaysThere r) (sym e) (record { due = refl; room = λ ahead end h. h })

pub stays_turned : (r : Receiving) (n : ℕ) → StaysThere r (turned r n)
stays_turned r n = record { due = refl; room = λ ahead end h. h }

-- a pool is lent
pub stays_lent : (r : Receiving) (pool : List (List ℕ)) → StaysThere r (lent r pool)
stays_lent r pool = record { due = refl; room = go r.source }
  where
    go : (s : Source) (ahead end : ℕ) → IsSomeAnd (buffer_in s ahead) (λ b. end ≤ length b) → IsSomeAnd (buffer_in (seeing s pool) ahead) (λ b. end ≤ length b)
    go (Posted xs) ahead end h = h
    go (Pooled ps held) ahead end h = h

-- one more buffer behind the others
posted_room : (xs : List (List ℕ)) (buffer : List ℕ) (i end : ℕ) → IsSomeAnd (slice_get xs i) (λ b. end ≤ length b) → IsSomeAnd (slice_get (xs ++ buffer ∷ []) i) (λ b. end ≤ length b)
posted_room [] buffer i end h = absurd h
posted_room (x ∷ xs) buffer zero end h = h
posted_room (x ∷ xs) buffer (suc i) end h = posted_room xs buffer i end h

pub stays_posted : (r : Receiving) (buffer : List ℕ) → StaysThere r (with_buffer r buffer)
stays_posted r buffer = record { due = refl; room = go r.source }
  where
    go : (s : Source) (ahead end : ℕ) → IsSomeAnd (buffer_in s ahead) (λ b. end ≤ length b) → IsSomeAnd (buffer_in (with_last s buffer) ahead) (λ b. end ≤ length b)
    go (Posted xs) ahead end h = posted_room xs buffer ahead end h
    go (Pooled places pool) ahead end h = h

-- one buffer is replaced by one that is no shorter
set_room : (xs : List (List ℕ)) (at : ℕ) (new : List ℕ) → length (get_or xs at []) ≤ length new → (i end : ℕ) → IsSomeAnd (slice_get xs i) (λ b. end ≤ length b) → IsSomeAnd (slice_get (set xs at new) i) (λ b. end ≤ length b)
set_room [] at new e i end h = absurd h
set_room (x ∷ xs) zero new e zero end h = omega arith
set_room (x ∷ xs) zero new e (suc i) end h = h
set_room (x ∷ xs) (suc at) new e zero end h = h
set_room (x ∷ xs) (suc at) new e (suc i) end h = set_room xs at new e i end h

place_room : (ps : List (Option (List ℕ))) (at : ℕ) (new : Option (List ℕ)) → ((end : ℕ) → IsSomeAnd (get_or ps at None) (λ b. end ≤ length b) → IsSomeAnd new (λ b. end ≤ length b))
    → (i end : ℕ) → IsSomeAnd (get_or ps i None) (λ b. end ≤ length b) → IsSomeAnd (get_or (set ps at new) i None) (λ b. end ≤ length b)
place_room [] at new e i end h = absurd h
place_room (p ∷ ps) zero new e zero end h = e end h
place_room (p ∷ ps) zero new e (suc i) end h = h
place_room (p ∷ ps) (suc at) new e zero end h = h
place_room (p ∷ ps) (suc at) new e (suc i) end h = place_room ps at new e i end h

-- a buffer goes to a place that has none
bound_room : (o x : Option (List ℕ)) (end : ℕ) → IsSomeAnd o (λ b. end ≤ length b) → IsSomeAnd (option_or o x) (λ b. end ≤ length b)
bound_room None x end h = absurd h
bound_room (Some b) x end h = h

-- octets are written over some that stand there
no_shorter : (old : List ℕ) (at : ℕ) (new : List ℕ) → at ≤ length old → length old ≤ length (splice old at new)
no_shorter old at new fits = grind (arith, length-take, length-append, length-drop)

written_room : (o : Option (List ℕ)) (mo : ℕ) (octets : List ℕ) → IsSomeAnd o (λ b. mo ≤ length b) → (end : ℕ) → IsSomeAnd o (λ b. end ≤ length b) → IsSomeAnd (option_map (λ b. splice b mo octets) o) (λ b. end ≤ length b)
written_room None mo octets low end h = absurd h
written_room (Some b) mo octets low end h = omega (arith, h, no_shorter b mo octets low)

-- ---- a segment is placed
-- it has a buffer, if nothing is wrong with it
pub buffer_there : (r : Receiving) (msn mo n : ℕ) → buffer_fault r msn mo n ≡ None → IsSomeAnd (buffer_for r.source (ahead_of r.due msn)) (λ b. mo + n ≤ length b)
buffer_there r msn mo n e = go (buffer_for r.source (ahead_of r.due msn)) (fits (ahead_of r.due msn) (buffer_for r.source (ahead_of r.due msn)) (mo + n) e)
  where
    go : (o : Option (List ℕ)) → (ahead_of r.due msn < 256) × IsSome o × (mo + n ≤ length (unwrap_or o [])) → IsSomeAnd o (λ b. mo + n ≤ length b)
    go None f = absurd (let no : ⊥ = let h = f.1 in cc in no)
    go (Some b) f = f.2

-- the buffer that a place has, or is given
abbrev given : List (Option (List ℕ)) → ℕ → Option (List ℕ) → Option (List ℕ)
given ps at x = option_map_or (λ p. option_or p x) (slice_get ps at) None

given_room : (ps : List (Option (List ℕ))) (at : ℕ) (x : Option (List ℕ)) (end : ℕ) → IsSomeAnd (get_or ps at None) (λ b. end ≤ length b) → IsSomeAnd (given ps at x) (λ b. end ≤ length b)
given_room [] at x end h = absurd h
given_room (p ∷ ps) zero x end h = bound_room p x end h
given_room (p ∷ ps) (suc at) x end h = given_room ps at x end h

given_within : (ps : List (Option (List ℕ))) (at : ℕ) (x : Option (List ℕ)) (end : ℕ) → IsSomeAnd (given ps at x) (λ b. end ≤ length b) → at < length ps
given_within [] at x end h = absurd h
given_within (p ∷ ps) zero x end h = omega arith
given_within (p ∷ ps) (suc at) x end h = let less : at < length ps = given_within ps at x end h in omega arith

there_or : (xs : List (List ℕ)) (at end : ℕ) → IsSomeAnd (slice_get xs at) (λ b. end ≤ length b) → (at < length xs) × (end ≤ length (get_or xs at []))
there_or [] at end h = absurd h
there_or (x ∷ xs) zero end h = (omega arith, h)
there_or (x ∷ xs) (suc at) end h = let t = there_or xs at end h in (omega (arith, t.0), t.1)

set_there : (xs : List (List ℕ)) (at : ℕ) (new : List ℕ) (end : ℕ) → at < length xs → end ≤ length new → IsSomeAnd (slice_get (set xs at new) at) (λ b. end ≤ length b)
set_there [] at new end lt h = absurd (omega arith)
set_there (x ∷ xs) zero new end lt h = h
set_there (x ∷ xs) (suc at) new end lt h = set_there xs at new end (omega arith) h

-- the place after it was given a buffer and that was written
at_place : (ps : List (Option (List ℕ))) (at : ℕ) (x : Option (List ℕ)) → at < length ps → get_or (set ps at (given ps at x)) at None ≡ given ps at x
at_place ps at x lt = get_or-set_same ps at (given ps at x) None lt

less_room : (o : Option (List ℕ)) (low high : ℕ) → low ≤ high → IsSomeAnd o (λ b. high ≤ length b) → IsSomeAnd o (λ b. low ≤ length b)
less_room None low high less h = absurd h
less_room (Some b) low high less h = omega arith

pub stays_written : (r : Receiving) (msn mo : ℕ) (octets : List ℕ) → buffer_fault r msn mo (length octets) ≡ None → StaysThere r (written r msn mo octets)
stays_written r msn mo octets e = record { due = refl; room = go r.source (buffer_there r msn mo (length octets) e) }
  where
    go : (s : Source) → IsSomeAnd (buffer_for s (ahead_of r.due msn)) (λ b. mo + length octets ≤ length b) → (ahead end : ℕ) → IsSomeAnd (buffer_in s ahead) (λ b. end ≤ length b)
        → IsSomeAnd (buffer_in (written_in (bound_to s (ahead_of r.due msn)) (ahead_of r.due msn) mo octets) ahead) (λ b. end ≤ length b)
    go (Posted xs) there ahead end h =
        let at : ℕ = ahead_of r.due msn in
        let old = there_or xs at (mo + length octets) there in
        set_room xs at (splice (get_or xs at []) mo octets) (no_shorter (get_or xs at []) mo octets (omega (arith, old.1))) ahead end h
    go (Pooled ps pool) there ahead end h =
        let at : ℕ = ahead_of r.due msn in
        let x : Option (List ℕ) = slice_get pool 0 in
        let lt : at < length ps = given_within ps at x (mo + length octets) there in
        let low : IsSomeAnd (get_or (set ps at (given ps at x)) at None) (λ b. mo ≤ length b) =
        subst (λ o. IsSomeAnd o (λ b. mo ≤ length b)) (sym (at_place ps at x lt)) (less_room (given ps at x) mo (mo + length octets) (omega arith) there) in
        place_room (set ps at (given ps at x)) at (option_map (λ b. splice b mo octets) (get_or (set ps at (given ps at x)) at None))
        (written_room (get_or (set ps at (given ps at x)) at None) mo octets low) ahead end
        (place_room ps at (given ps at x) (λ k. given_room ps at x k) ahead end h)

-- it still has room once the segment was written
pub buffer_written : (r : Receiving) (msn mo : ℕ) (octets : List ℕ) → buffer_fault r msn mo (length octets) ≡ None → HasRoomAt (written r msn mo octets) (ahead_of r.due msn) (mo + length octets)
buffer_written r msn mo octets e = go r.source (buffer_there r msn mo (length octets) e)
  where
    fills : (o : Option (List ℕ)) → IsSomeAnd o (λ b. mo + length octets ≤ length b) → IsSomeAnd (option_map (λ b. splice b mo octets) o) (λ b. mo + length octets ≤ length b)
    fills None h = absurd h
    fills (Some b) h = omega (arith, h, length-splice b mo octets h)

    go : (s : Source) → IsSomeAnd (buffer_for s (ahead_of r.due msn)) (λ b. mo + length octets ≤ length b)
        → IsSomeAnd (buffer_in (written_in (bound_to s (ahead_of r.due msn)) (ahead_of r.due msn) mo octets) (ahead_of r.due msn)) (λ b. mo + length octets ≤ length b)
    go (Posted xs) there =
        let at : ℕ = ahead_of r.due msn in
        let old = there_or xs at (mo + length octets) there in
        set_there xs at (splice (get_or xs at []) mo octets) (mo + length octets) old.0 (omega (arith, old.1, length-splice (get_or xs at []) mo octets old.1))
    go (Pooled ps pool) there =
        let at : ℕ = ahead_of r.due msn in
        let x : Option (List ℕ) = slice_get pool 0 in
        let lt : at < length ps = given_within ps at x (mo + length octets) there in
        let now : List (Option (List ℕ)) = set ps at (given ps at x) in
        let new : Option (List ℕ) = option_map (λ b. splice b mo octets) (get_or now at None) in
        subst (λ o. IsSomeAnd o (λ b. mo + length octets ≤ length b)) (sym (get_or-set_same now at new None (omega (arith, lt, length-set ps at (given ps at x)))))
        (fills (get_or now at None) (subst (λ o. IsSomeAnd o (λ b. mo + length octets ≤ length b)) (sym (at_place ps at x lt)) there))

-- ---- what is kept stays so
has_still : (r t : Receiving) (n : ℕ) (o : Option (Segment (List ℕ))) → StaysThere r t → HasBuffer r n o → HasBuffer t n o
has_still r t n None w h = h
has_still r t n (Some (Tagged head payload)) w h = h
has_still r t n (Some (Untagged head payload)) w h =
    subst (λ due. HasRoomAt t (ahead_of due head.msn) (head.mo + n)) (sym w.due) (w.room (ahead_of r.due head.msn) (head.mo + n) h)

handed_still : (r t : Receiving) (point after place : ℕ) (o : Option (Segment (List ℕ))) → t.due ≡ r.due → point ≤ after → WasHandedOut r point place o → WasHandedOut t after place o
handed_still r t point after place None w on h = h
handed_still r t point after place (Some (Tagged head payload)) w on h = h
handed_still r t point after place (Some (Untagged head payload)) w on h = omega (arith, ap (λ due. ahead_of due head.msn) w, h, on)

keeps_still : (r t : Receiving) (point after : ℕ) (x : EarlyRecord) (state : State (ArrayVec ℕ)) → StaysThere r t → point ≤ after → KeepsBuffer r point x state → KeepsBuffer t after x state
keeps_still r t point after x Tried w on h = h
keeps_still r t point after x (Placed header) w on (inl has) = inl (has_still r t (x.length - length header.items) (read_segment header.items) w has)
keeps_still r t point after x (Placed header) w on (inr handed) = inr (handed_still r t point after (from_of x) (read_segment header.items) w.due on handed)

pub room_still : (r t : Receiving) (n : ℕ) (o : Option (Segment (List ℕ))) → StaysThere r t → HasRoomInTurn r n o → HasRoomInTurn t n o
room_still r t n None w h = h
room_still r t n (Some (Tagged head payload)) w h = h
room_still r t n (Some (Untagged head payload)) w h = λ here. w.room 0 (head.mo + n) (h (ap (λ due. ahead_of due head.msn) (sym w.due) ∙ here))

-- ---- a message is handed out
-- each buffer is one less ahead then
moved_up : (s : Source) (i end : ℕ) → IsSomeAnd (buffer_in s (suc i)) (λ b. end ≤ length b) → IsSomeAnd (buffer_in (shifted s) i) (λ b. end ≤ length b)
moved_up (Posted []) i end h = absurd h
moved_up (Posted (x ∷ xs)) i end h = h
moved_up (Pooled [] pool) i end h = absurd h
moved_up (Pooled (p ∷ ps) pool) i end h = pushed ps i h
  where
    pushed : (qs : List (Option (List ℕ))) (k : ℕ) → IsSomeAnd (get_or qs k None) (λ b. end ≤ length b) → IsSomeAnd (get_or (qs ++ None ∷ []) k None) (λ b. end ≤ length b)
    pushed [] k h = absurd h
    pushed (q ∷ qs) zero h = h
    pushed (q ∷ qs) (suc k) h = pushed qs k h

has_finished : (r : Receiving) (point after place n : ℕ) (o : Option (Segment (List ℕ))) → r.due < 2 ^ 32 → place ≤ point + window → point < after
    → HasBuffer r n o → HasBuffer (finished r) n o ⊎ WasHandedOut (finished r) after place o
has_finished r point after place n None low near on h = absurd h
has_finished r point after place n (Some (Tagged head payload)) low near on h = inl tt
has_finished r point after place n (Some (Untagged head payload)) low near on h = elim (cases_lt 0 (ahead_of r.due head.msn)) [
  | inl ahead ↦
      let next = nearer r.due head.msn low ahead in
      let i : ℕ = ahead_of ((r.due + 1) % 2 ^ 32) head.msn in
      let same : ahead_of r.due head.msn ≡ suc i = omega (arith, next) in
      inl (moved_up r.source i (head.mo + n) (subst (λ k. HasRoomAt r k (head.mo + n)) same h))
  | inr here ↦ inr (omega (arith, behind r.due head.msn low (let none : ahead_of r.due head.msn ≡ 0 = omega arith in none), near, on))
]

handed_finished : (r : Receiving) (point after place : ℕ) (o : Option (Segment (List ℕ))) → r.due < 2 ^ 32 → point ≤ place → point < after → WasHandedOut r point place o → WasHandedOut (finished r) after place o
handed_finished r point after place None low past on h = h
handed_finished r point after place (Some (Tagged head payload)) low past on h = h
handed_finished r point after place (Some (Untagged head payload)) low past on h = omega (arith, nearer r.due head.msn low (omega (arith, h, past)), h, on)

keeps_finished : (r : Receiving) (point after : ℕ) (x : EarlyRecord) (state : State (ArrayVec ℕ)) → r.due < 2 ^ 32 → point ≤ from_of x → from_of x ≤ point + window → point < after
    → KeepsBuffer r point x state → KeepsBuffer (finished r) after x state
keeps_finished r point after x Tried low past near on h = h
keeps_finished r point after x (Placed header) low past near on (inl has) = has_finished r point after (from_of x) (x.length - length header.items) (read_segment header.items) low near on has
keeps_finished r point after x (Placed header) low past near on (inr handed) = inr (handed_finished r point after (from_of x) (read_segment header.items) low past on handed)

-- ---- at the turn
pub has_room : (r : Receiving) (n : ℕ) (o : Option (Segment (List ℕ))) → HasBuffer r n o → HasRoomInTurn r n o
has_room r n None h = h
has_room r n (Some (Tagged head payload)) h = h
has_room r n (Some (Untagged head payload)) h = λ here. subst (λ k. HasRoomAt r k (head.mo + n)) here h

handed_room : (r : Receiving) (point place n : ℕ) (o : Option (Segment (List ℕ))) → point ≤ place → WasHandedOut r point place o → HasRoomInTurn r n o
handed_room r point place n None past h = h
handed_room r point place n (Some (Tagged head payload)) past h = absurd h
handed_room r point place n (Some (Untagged head payload)) past h = λ here. absurd (omega (arith, h, past, here))

pub turn_room : (r : Receiving) (point place n : ℕ) (o : Option (Segment (List ℕ))) → point ≤ place → HasBuffer r n o ⊎ WasHandedOut r point place o → HasRoomInTurn r n o
turn_room r point place n o past (inl has) = has_room r n o has
turn_room r point place n o past (inr handed) = handed_room r point place n o past handed

-- ---- the in-order point moves on from one place to another, and what is kept of a record stays so
abbrev pub StaysSo : Receiving → Receiving → ℕ → ℕ → List EarlyRecord → Type 0
StaysSo r t point after early = (x : EarlyRecord) → Contains early x → KeepsBuffer r point x x.state → KeepsBuffer t after x x.state

pub stays_so : (r t : Receiving) (point after : ℕ) (early : List EarlyRecord) → StaysThere r t → point ≤ after → StaysSo r t point after early
stays_so r t point after early w on x within h = keeps_still r t point after x x.state w on h

pub finishes_so : (r t : Receiving) (point after : ℕ) (early : List EarlyRecord) → StaysThere r t → r.due < 2 ^ 32 → point < after
    → ((x : EarlyRecord) → Contains early x → (point ≤ from_of x) × (from_of x ≤ point + window)) → StaysSo r (finished t) point after early
finishes_so r t point after early w low on placed x within h =
    let at = placed x within in
    keeps_finished t point after x x.state (omega (arith, w.due, low)) at.0 at.1 on (keeps_still r t point point x x.state w (omega arith) h)
