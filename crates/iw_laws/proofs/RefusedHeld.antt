-- Each wrong run that leaves other octets in a region breaks its law.
use Rattle.iw_ranges.specs.Nearest.{numbers_ahead, place_near, before_start}
use Rattle.std.proofs.Common.{◌≡◌, ℕ, ◌+◌, ◌<◌, List, [], ◌∷◌, ◌++◌, length, map, take, cond, true, false, refl, sym, ap, ◌∙◌, arith, get_or, eqb, inl, inr}
use Rattle.std.specs.Prelude.{nat_eq}
use Rattle.std.proofs.lemmas.Bool.Decides.{eqb_tells}
use Rattle.std.proofs.lemmas.List.{append-nil}
use Rattle.std.proofs.lemmas.Option.{same_Some}
use Rattle.iw_memory.specs.declared.rights.Right.TheVariants as rights
use Rattle.iw_memory.specs.Table.{empty}
use Rattle.iw_octets.specs.Segment.{segment_octets}
use Rattle.iw_fpdu.specs.Frame.{frame_octets}
use Rattle.iw_queues.specs.Joined.{one_if, count_writes, count_before}
use Rattle.iw_stream.specs.Starting.{plain}
use Rattle.iw_events.specs.declared.call.End.{End}
use Rattle.iw_events.specs.declared.call.End.TheVariants.{A, B}
use Rattle.iw_events.specs.declared.act.Act.TheVariants.{Stream}
use Rattle.iw_events.specs.declared.act.StreamAct.TheVariants.{Work}
use Rattle.iw_events.specs.declared.act.Seen.TheVariants as seen
use Rattle.iw_events.specs.declared.act.Shown.TheVariants as shows
use Rattle.iw_laws.specs.Words.{Octets, acts, stream_acts, openings, posted, received, finished_kinds, table_after}
use Rattle.iw_laws.specs.Turns.{Answer, Story, story, story_of, next_asked, fetches_for}
use Rattle.iw_laws.specs.Merged.{response_segment}
use Rattle.iw_laws.specs.Sends.{ready_of}
use Rattle.iw_laws.specs.Faithful.{laid, responses, responses_done}
use Rattle.iw_laws.specs.Holds.{Place, cell_of, IsUntouched, last_touch, laid_done}
use Rattle.iw_laws.specs.WrongRuns.{Run, stag, first_four, other_four, read_one, request_frame}
use Rattle.iw_laws.specs.HeldRuns.{places_other, places_once, places_anew, sinks_other, RefusesOtherWritten, RefusesOtherWrittenAnew, RefusesOtherFetched, KnowsTouches}
use Rattle.iw_laws.proofs.Ready.{ready_in}
use Rattle.iw_laws.proofs.Tracks.{shown_stays}
use Rattle.iw_laws.proofs.RefusedReads.{honest, opened_at_once, Takes, takes, request_came, answered_whole}

pub knows_touches : KnowsTouches
unfolding last_touch table_after empty
knows_touches = record { never = refl; registered = refl; placed = refl; stored = refl; holds = refl }

-- the first octet of the region
the_place : Place
the_place = record { stag = stag; to = 0 }

-- of octets that begin with one, that is the one that may stand there
pub first_one : (x other : ℕ) → 0 < one_if (eqb x other) + 0 → other ≡ x
first_one x other some = elim (eqb_tells x other) [
  | inl same ↦ sym same.1
  | inr apart ↦ absurd (omega (arith, some, ap one_if apart.0))
]

-- ---- a Write

pub refuses_other_written : RefusesOtherWritten
unfolding acts stream_acts openings story posted received opened_at_once table_after empty last_touch numbers_ahead place_near before_start the_place
refuses_other_written h =
    let held = h [] places_other [] (sym (append-nil places_other)) A 0 (inr refl) (honest places_other opened calm) the_place 0xaa 0 (omega arith, record { new = omega arith; alone = agree }) untouched in
    omega (arith, ap (λ (xs : Octets). get_or xs 0 0) held)
  where
    opened : (x : End) → openings 0 (acts x places_other) ≡ opened_at_once ∷ []
    opened A = refl
    opened B = refl

    calm : (x : End) → (story_of 0 (acts x places_other)).strays ≡ false
    calm A = refl
    calm B = refl

    agree : (other : ℕ) → 0 < count_writes (cell_of the_place other) (posted (stream_acts 0 (acts A places_other))) → other ≡ 0xaa
    agree other some = first_one 0xaa other (omega (arith, some))

    untouched : IsUntouched the_place 0 rights.Write (acts B places_other)
    untouched act is = (0, 0xbb ∷ [], sym (same_Some (Stream 0 (Work (seen.Placed rights.Write stag 0 (0xbb ∷ [])))) act is))

pub refuses_other_written_anew : RefusesOtherWrittenAnew
unfolding acts stream_acts openings story posted received opened_at_once table_after empty last_touch numbers_ahead place_near before_start the_place
refuses_other_written_anew h =
    let all : Run = places_once ++ places_anew in
    let held = h places_once places_anew [] (sym (append-nil all)) A 0 (inl (honest places_once opened_once calm_once)) (honest all opened calm) the_place 0xcc 1 (omega arith, record { new = omega arith; alone = agree }) untouched in
    omega (arith, ap (λ (xs : Octets). get_or xs 0 0) held)
  where
    opened_once : (x : End) → openings 0 (acts x places_once) ≡ opened_at_once ∷ []
    opened_once A = refl
    opened_once B = refl

    calm_once : (x : End) → (story_of 0 (acts x places_once)).strays ≡ false
    calm_once A = refl
    calm_once B = refl

    opened : (x : End) → openings 0 (acts x (places_once ++ places_anew)) ≡ opened_at_once ∷ []
    opened A = refl
    opened B = refl

    calm : (x : End) → (story_of 0 (acts x (places_once ++ places_anew))).strays ≡ false
    calm A = refl
    calm B = refl

    -- the Write of 0xaa lies before the Send that had been received
    agree : (other : ℕ) → count_before (cell_of the_place other) 0 (posted (stream_acts 0 (acts A places_once))) < count_writes (cell_of the_place other) (posted (stream_acts 0 (acts A (places_once ++ places_anew)))) → other ≡ 0xcc
    agree other some = first_one 0xcc other (omega (arith, some))

    untouched : IsUntouched the_place 0 rights.Write (acts B (places_once ++ places_anew))
    untouched act is = (0, 0xdd ∷ [], sym (same_Some (Stream 0 (Work (seen.Placed rights.Write stag 0 (0xdd ∷ [])))) act is))

-- ---- a Read

-- nothing is left of what was asked for, once it was answered whole
answered_all : (t : Story) (w : Takes t read_one) → t.begun ≡ [] → t.answers ≡ [] → responses (fetches_for (record t { turns = t.turns + 1; asked = next_asked t }) (next_asked t).unanswered first_four) ≡ laid (record { request = read_one; octets = first_four }) ∷ []
answered_all t w none first =
    let next : Story = record t { turns = t.turns + 1; asked = next_asked t } in
    let whole : nat_eq (length t.begun + 4) w.asked.request.size ≡ true = λ i. nat_eq (length (none i) + 4) (w.request i).size in
    let answers : List Answer = t.answers ++ record { request = w.asked.request; octets = t.begun ++ first_four } ∷ [] in
    ap (λ z. responses (fetches_for next z first_four)) w.is
    ∙ ap (λ b. responses (cond b (record next { asked = record next.asked { unanswered = []; fetched = 0 }; answers = answers; begun = [] })
    (record next { asked = record next.asked { fetched = length t.begun + 4 }; begun = t.begun ++ first_four }))) whole
    ∙ (λ i. map laid ((first i ++ record { request = w.request i; octets = none i ++ first_four } ∷ []) ++ []))

pub refuses_other_fetched : RefusesOtherFetched
unfolding acts stream_acts openings story finished_kinds opened_at_once table_after empty last_touch numbers_ahead place_near before_start the_place
refuses_other_fetched h =
    let held = h [] sinks_other [] (sym (append-nil sinks_other)) B 0 (inr refl) (honest sinks_other opened calm) the_place 0x0a (record { new = some; alone = agree }) untouched in
    omega (arith, ap (λ (xs : Octets). get_or xs 0 0) held)
  where
    read : Takes (story_of 0 (acts B (take 9 sinks_other))) read_one
    read = takes (story_of 0 (acts B (take 9 sinks_other))) refl refl refl request_came

    opened : (x : End) → openings 0 (acts x sinks_other) ≡ opened_at_once ∷ []
    opened A = refl
    opened B = refl

    calm : (x : End) → (story_of 0 (acts x sinks_other)).strays ≡ false
    calm A = (shown_stays (story_of 0 (acts A (take 4 sinks_other))) (shows.Frame 0 request_frame)).strays
    calm B = (shown_stays (story_of 0 (acts B (take 10 sinks_other))) (shows.Fetched 0 (frame_octets plain 0 (segment_octets (response_segment read_one 0 true first_four))) stag 0 first_four)).strays

    unready : ready_of (story_of 0 (acts A sinks_other)) ≡ []
    unready = ap ready_in (shown_stays (story_of 0 (acts A (take 4 sinks_other))) (shows.Frame 0 request_frame)).start

    some : 0 < count_writes (cell_of the_place 0x0a) (laid_done (story_of 0 (acts B sinks_other)) (story_of 0 (acts A sinks_other)) (stream_acts 0 (acts A sinks_other)))
    some =
        omega (
          arith,
          ap (λ z. count_writes (cell_of the_place 0x0a) (map laid (take (responses_done z 1) (story_of 0 (acts B sinks_other)).answers))) unready,
          ap (λ z. count_writes (cell_of the_place 0x0a) (map laid (take 1 z))) (answered_whole (story_of 0 (acts B (take 9 sinks_other))) read refl refl),
        )

    agree : (other : ℕ) → 0 < count_writes (cell_of the_place other) (responses (story_of 0 (acts B sinks_other))) → other ≡ 0x0a
    agree other some =
        first_one 0x0a other (omega (arith, some, ap (count_writes (cell_of the_place other)) (answered_all (story_of 0 (acts B (take 9 sinks_other))) read refl refl)))

    untouched : IsUntouched the_place 0 rights.Sink (acts A sinks_other)
    untouched act is = (0, other_four, sym (same_Some (Stream 0 (Work (seen.Placed rights.Sink stag 0 other_four))) act is))
