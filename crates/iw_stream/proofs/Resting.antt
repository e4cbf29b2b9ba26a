-- When a stream that has ended has nothing left to hand out, and nothing that is due to go out.
use Rattle.std.proofs.Common.{◌≡◌, ℕ, suc, ◌+◌, Bool, true, false, cond, List, [], ◌∷◌, length, get_or, Option, Some, None, refl, sym, ap, ◌∙◌, arith}
use Rattle.std.specs.Prelude.{is_some, not, ◌&&◌, ◌||◌, ◌==◌, if◌then◌else◌, count_by}
use Rattle.std.proofs.lemmas.Bool.{false≢true}
use Rattle.std.proofs.lemmas.Bool.Decides.{nat_tests}
use Rattle.std.proofs.lemmas.List.Sums.{sum_by-cons}
use native.Mathlib.Numerals.{unary_clauses}
use Rattle.std.specs.List.{position_or_len}
use Rattle.std.specs.Option.{option_map_or}
use Rattle.iw_queues.specs.declared.completions.Done.{Done}
use Rattle.iw_queues.specs.declared.completions.Sent.{Sent}
use Rattle.iw_queues.specs.declared.request.Request.{Request}
use Rattle.iw_queues.specs.Completions.{done_from}
use Rattle.iw_queues.specs.Queue.{done_in, oldest_in, oldest_among}
use Rattle.iw_untagged.specs.Receiving.{Source, Posted, Pooled, count_in, first_buffer}
use Rattle.iw_stream.specs.Ending.{last_word}
use Rattle.iw_stream.specs.Starting.{is_open, awaits_frame}
use Rattle.iw_stream.specs.Stream.{StreamState, StartUp, LastWord, Ready, NoneDue, ended, due, message_due, is_none_due, is_mute, keeps_silent, owes_frame, rtr_due}
use Rattle.iw_stream.specs.Work.{Task, HandOut, GiveUp, GiveBack, Hear, Rest, task, frame_task, handing_back, is_rest}

-- no message is posted
unposted : (first : ℕ) (sent : List Sent) (unsent : List (Request (List ℕ))) → length sent + length unsent ≡ 0 → (done_from first sent ≡ None) × (oldest_among first sent unsent ≡ None)
unposted first [] [] e = (refl, refl)
unposted first [] (m ∷ ms) e = absurd (let no : ⊥ = omega (arith, e) in no)
unposted first (x ∷ xs) unsent e = absurd (let no : ⊥ = omega (arith, e) in no)

-- one is
posted : (first : ℕ) (sent : List Sent) (unsent : List (Request (List ℕ))) → (length sent + length unsent ≡ 0 → ⊥) → is_some (oldest_among first sent unsent) ≡ true
posted first [] [] e = absurd (e refl)
posted first [] (m ∷ ms) e = refl
posted first (x ∷ xs) unsent e = refl

some : (m n : ℕ) → m ≡ n + 1 → true ≡ not (m == 0)
some m n is = let e : (m == 0) ≡ false = grind (arith, nat_tests) in ap not (sym e)

behind : (ps : List (Option (List ℕ))) (m n : ℕ) → m ≡ suc n → is_some (get_or (None ∷ ps) m None) ≡ is_some (get_or ps n None)
behind ps m n is = ap (λ k. is_some (get_or (None ∷ ps) k None)) is

-- a buffer is left if there is one
pub left_buffer : (s : Source) → is_some (first_buffer s) ≡ not (count_in s == 0)
left_buffer (Posted []) = refl
left_buffer (Posted (x ∷ xs)) = some (length (x ∷ xs)) (length xs) (omega arith)
left_buffer (Pooled places pool) = go places
  where
    go : (ps : List (Option (List ℕ))) → is_some (get_or ps (position_or_len is_some ps) None) ≡ not (count_by is_some ps == 0)
    go [] = refl
    go (None ∷ ps) =
        behind ps (position_or_len is_some (None ∷ ps)) (position_or_len is_some ps) (omega arith) ∙ go ps
        ∙ ap (λ k. not (k == 0)) (let e : count_by is_some ps ≡ count_by is_some (None ∷ ps) = simp unary_clauses in e)
    go (Some b ∷ ps) =
        some (count_by is_some (Some b ∷ ps)) (count_by is_some ps)
        (let e : count_by is_some (Some b ∷ ps) ≡ 1 + count_by is_some ps = sum_by-cons (λ (o : Option (List ℕ)). cond (is_some o) 1 0) (Some b) ps in omega arith)

-- what a stream that has ended hands out first
pub ended_task : (s : StreamState) → ended s ≡ true → task s ≡ option_map_or HandOut (done_in s.queue) (handing_back s)
ended_task s over = ap (λ b. option_map_or HandOut (done_in s.queue) (if b then handing_back s else if awaits_frame s.start then Hear else if not (is_open s.start) then Rest else frame_task s)) over

gives_up : (done oldest : Option Done) (t : Task) → is_some oldest ≡ true → is_rest (option_map_or HandOut done (option_map_or GiveUp oldest t)) ≡ false
gives_up (Some d) oldest t some = refl
gives_up None (Some o) t some = refl
gives_up None None t some = absurd (false≢true some)

gives_back : (buffer : Option (List ℕ)) → is_rest (option_map_or GiveBack buffer Rest) ≡ not (is_some buffer)
gives_back None = refl
gives_back (Some b) = refl

pub is_busy : (s : StreamState) → ended s ≡ true → (length s.queue.sent.messages + length s.queue.unsent ≡ 0 → ⊥) → is_rest (task s) ≡ false
is_busy s over some =
    ap is_rest (ended_task s over) ∙ gives_up (done_in s.queue) (oldest_in s.queue) (option_map_or GiveBack (first_buffer s.receiving.source) Rest) (posted s.queue.sent.first s.queue.sent.messages s.queue.unsent some)

pub is_left : (s : StreamState) → ended s ≡ true → length s.queue.sent.messages + length s.queue.unsent ≡ 0 → is_rest (task s) ≡ (count_in s.receiving.source == 0)
is_left s over none =
    let e = unposted s.queue.sent.first s.queue.sent.messages s.queue.unsent none in
    ap is_rest (ended_task s over)
    ∙ (λ i. is_rest (option_map_or HandOut (e.0 i) (option_map_or GiveUp (e.1 i) (option_map_or GiveBack (first_buffer s.receiving.source) Rest))))
    ∙ gives_back (first_buffer s.receiving.source)
    ∙ ap not (left_buffer s.receiving.source)
    ∙ twice (count_in s.receiving.source == 0)
  where
    twice : (b : Bool) → not (not b) ≡ b
    twice true = refl
    twice false = refl

-- ---- what goes out
pub is_clear : (s : StreamState) → ended s ≡ true → is_none_due (due s) ≡ (not (owes_frame s) && not (is_some (last_word s.ending)))
is_clear s over = go (owes_frame s) (last_word s.ending)
  where
    go : (owes : Bool) (o : Option (List ℕ))
        → is_none_due (if owes then StartUp else option_map_or LastWord o (if is_mute s then NoneDue else option_map_or Ready (rtr_due s) (message_due s)))
        ≡ (not owes && not (is_some o))
    go true o = refl
    go false (Some payload) = refl
    go false None = ap (λ b. is_none_due (if b || (not (is_open s.start) || keeps_silent s) then NoneDue else option_map_or Ready (rtr_due s) (message_due s))) over
