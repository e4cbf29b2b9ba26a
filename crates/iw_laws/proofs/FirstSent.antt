-- Of frames that were sent, those that had their turn are the first, and the others were sent past them.
use Rattle.std.proofs.Common.{◌≡◌, ℕ, ◌+◌, ◌-◌, ◌≤◌, List, [], ◌∷◌, ◌++◌, map, length, Option, Some, refl, sym, ap, ◌∙◌, arith, length-append}
use Rattle.std.proofs.lemmas.List.{map-append}
use Rattle.std.proofs.lemmas.List.Elements.{All-head, All-tail}
use Rattle.std.proofs.lemmas.Option.{same_Some}
use Rattle.std.specs.Prelude.{All}
use Rattle.iw_octets.specs.declared.segment.Segment.{Segment}
use Rattle.iw_octets.specs.Segment.{read_segment}
use Rattle.iw_fpdu.specs.declared.layout.Layout.{Layout}
use Rattle.iw_fpdu.specs.Places.{frame_start}
use Rattle.iw_fpdu.specs.Frame.{max_sent, frame_end, frame_octets}
use Rattle.iw_fpdu.specs.Sequence.{Carried, intact, sequence, place_past, first_frame}
use Rattle.iw_fpdu.specs.Laws.{IsBetween}
use Rattle.iw_fpdu.proofs.Follows.{frames_follow}
use Rattle.iw_fpdu.proofs.Sequences.{length_written, written_is_first, next_between}
use Rattle.iw_locate.proofs.Sequenced.{end_low}
use Rattle.iw_stream.specs.Frames.{standing_at}
use Rattle.iw_stream.proofs.Fronts.{carried_by}
use Rattle.iw_laws.specs.Words.{Octets}
use Rattle.iw_laws.specs.Turns.{Located, located_of, past_last}
use Rattle.iw_laws.proofs.Located.{frames_at, located_first, located_none, none_first}
use Rattle.iw_laws.proofs.Nexts.{segment_in}

-- frames that were written one after another, with their places
abbrev locations : Layout → ℕ → List Octets → List Located
locations layout at [] = []
locations layout at (u ∷ us) =
    record { frame = standing_at (frame_start layout.markers at) (intact u); beyond = frame_end layout.markers at (length u) } ∷ locations layout (frame_end layout.markers at (length u)) us

located_written : (layout : Layout) (at : ℕ) (us : List Octets) → IsBetween layout.markers at → All (λ u. length u ≤ max_sent) us → located_of layout at (sequence layout at us) ≡ locations layout at us
unfolding sequence
located_written layout at [] b short = located_none layout at [] (none_first layout at [] b refl)
located_written layout at (u ∷ us) b short =
    let end : ℕ = frame_end layout.markers at (length u) in
    let rest : Octets = sequence layout end us in
    let octets : Octets = frame_octets layout at u ++ rest in
    let first : first_frame layout at octets ≡ Some (intact u, rest) = written_is_first layout at u rest b (All-head (λ x. length x ≤ max_sent) u us short) in
    let beyond : at + (length octets - length rest) ≡ end = omega (arith, length-append (frame_octets layout at u) rest, length_written layout at u, end_low layout at (length u) b) in
    located_first layout at octets (intact u) rest b first
    ∙ ap (λ p. record { frame = standing_at (frame_start layout.markers at) (intact u); beyond = p } ∷ located_of layout p rest) beyond
    ∙ ap (λ z. record { frame = standing_at (frame_start layout.markers at) (intact u); beyond = end } ∷ z) (located_written layout end us (next_between layout at (length u) b) (All-tail (λ x. length x ≤ max_sent) u us short))

-- these are the first of the frames that were sent
pub record AreFirst (layout : Layout) (at : ℕ) (us : List Octets) (fs : List Located) : Type 0 where
  pub done : List Octets  -- what they carry
  pub rest : List Octets  -- what was sent past them
  pub is : us ≡ done ++ rest
  pub place : past_last at fs ≡ place_past layout at done
  pub frames : frames_at fs ≡ map intact done

one_more : (layout : Layout) (at : ℕ) (u : Octets) (us : List Octets) (f : Located) (fs : List Located)
    → f ≡ record { frame = standing_at (frame_start layout.markers at) (intact u); beyond = frame_end layout.markers at (length u) } → AreFirst layout (frame_end layout.markers at (length u)) us fs
    → AreFirst layout at (u ∷ us) (f ∷ fs)
unfolding place_past
one_more layout at u us f fs same r = record {
  done = u ∷ r.done;
  rest = r.rest;
  is = ap (λ z. u ∷ z) r.is;
  place = ap (λ (x : Located). past_last x.beyond fs) same ∙ r.place;
  frames = λ i. carried_by ((same i).frame) ∷ r.frames i;
}

first_of : (layout : Layout) (at : ℕ) (us : List Octets) (fs others : List Located) → locations layout at us ≡ fs ++ others → AreFirst layout at us fs
unfolding place_past
first_of layout at us [] others e = record { done = []; rest = us; is = refl; place = refl; frames = refl }
first_of layout at [] (f ∷ fs) others e = absurd (cc e)
first_of layout at (u ∷ us) (f ∷ fs) others e =
    one_more layout at u us f fs (cc (sym e)) (first_of layout (frame_end layout.markers at (length u)) us fs others (cc e))

pub are_first : (layout : Layout) (us : List Octets) (fs others : List Located) → All (λ u. length u ≤ max_sent) us → located_of layout 0 (sequence layout 0 us) ≡ fs ++ others → AreFirst layout 0 us fs
are_first layout us fs others short e = first_of layout 0 us fs others (sym (located_written layout 0 us (frames_follow.first layout.markers) short) ∙ e)

-- ---- their segments
-- the segments of those that were sent past the first ones
pub record Later (all firsts : List (Segment Octets)) (rest : List Octets) : Type 0 where
  pub segments : List (Segment Octets)
  pub is : all ≡ firsts ++ segments
  pub are : map read_segment rest ≡ map Some segments

pub read_intact : (us : List Octets) → map segment_in (map intact us) ≡ map read_segment us
read_intact [] = refl
read_intact (u ∷ us) = ap (λ z. read_segment u ∷ z) (read_intact us)

-- a list whose first elements are known to be there
known : {A : Type 0} (xs ys : List A) (os : List (Option A)) → map Some xs ++ os ≡ map Some ys → (later : List A) × (ys ≡ xs ++ later) × (os ≡ map Some later)
known [] ys os e = (ys, refl, e)
known (x ∷ xs) [] os e = absurd (cc e)
known {A} (x ∷ xs) (y ∷ ys) os e =
    let same : Some y ≡ Some x = cc (sym e) in
    let others : map Some xs ++ os ≡ map Some ys = cc e in
    let r = known xs ys os others in
    (r.0, λ i. (same_Some y x same i ∷ r.1 i), r.2)

pub later_sent : (us done rest : List Octets) (all firsts : List (Segment Octets)) (frames : List Carried) → map read_segment us ≡ map Some all → us ≡ done ++ rest → frames ≡ map intact done
    → map segment_in frames ≡ map Some firsts → Later all firsts rest
later_sent us done rest all firsts frames reads parts are carried =
    let first : map read_segment done ≡ map Some firsts = sym (read_intact done) ∙ ap (map segment_in) (sym are) ∙ carried in
    let r = known firsts all (map read_segment rest) (ap (λ z. z ++ map read_segment rest) (sym first) ∙ sym (map-append read_segment done rest) ∙ ap (map read_segment) (sym parts) ∙ reads) in
    record { segments = r.0; is = r.1; are = r.2 }
