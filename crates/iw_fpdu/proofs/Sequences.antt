-- The first frame of octets that stand side by side.
use Rattle.std.specs.Prelude.{All}
use Rattle.std.specs.Option.{option_map_or}
use Rattle.std.proofs.lemmas.List.Elements.{All-head, All-tail}
use Rattle.std.proofs.Common.{◌≡◌, zero, suc, append_assoc, ℕ, ◌+◌, ◌-◌, ◌%◌, ◌^◌, ◌<◌, ◌≤◌, Bool, true, false, not, ltb, List, [], ◌∷◌, ◌++◌, map, take, drop, length, get_or, Option, Some, None, refl, sym, ap, ◌∙◌, subst, arith, inl, inr, length-append, length-drop, length-take}
use Rattle.std.proofs.lemmas.List.{get_or_append_left, get_or-map, take-append-drop, drop-append-le, drop_at}
use Rattle.std.proofs.lemmas.List.FromFn.{get_or-map-range_with_len, length-map-range_with_len}
use Rattle.std.proofs.lemmas.Bool.{cases_lt, le-ltb, lt-ltb, cond-true, cond-false, true≢false}
use Rattle.std.proofs.lemmas.Option.{none-some, some_pair_parts}
use Rattle.iw_ranges.specs.Arrived.{Arrived, Missing, Here, cell_at, is_missing, has_come, cells_between}
use Rattle.iw_fpdu.specs.declared.layout.Layout.{Layout}
use Rattle.iw_fpdu.specs.Places.{IsStart, data_index, frame_start, span_start}
use Rattle.iw_fpdu.specs.Frame.{max_sent, frame_size, frame_end, frame_octet, frame_octets}
use Rattle.iw_fpdu.specs.PiecesOctet.{octet_from}
use Rattle.iw_fpdu.specs.Reading.{data_at, length_at, ulpdu_at, end_at, mismatch_at}
use Rattle.iw_fpdu.specs.Found.{octet_in, IsWhole, LacksOctet, ulpdu, mismatch}
use Rattle.iw_fpdu.specs.Sequence.{Carried, intact, carried_at, sequence, place_past, first_frame, frames_within, frames_of}
use Rattle.iw_fpdu.specs.Laws.{IsBetween, FirstTakes, StandFrom, found_at, FramesInSequence}
use Rattle.iw_fpdu.proofs.Octets.{span_low, Agree, agree, same_frame_data, same_length, same_mismatch, length_within}
use Rattle.iw_fpdu.proofs.Came.{part_agrees}
use Rattle.iw_fpdu.proofs.Counted.{after_bound, start_bound, aligned_edge}
use Rattle.iw_fpdu.proofs.Follows.{begins, ends, frames_follow}
use Rattle.iw_fpdu.proofs.Again.{length_back, ulpdu_back, agrees_back}

-- ---- what a first frame is
pub record First (layout : Layout) (at : ℕ) (octets : List ℕ) (carried : Carried) (rest : List ℕ) : Type 0 where
  pub fits : end_at (octet_from at octets) layout.markers (frame_start layout.markers at) ≤ at + length octets
  pub carried_is : carried ≡ carried_at layout (octet_from at octets) (frame_start layout.markers at)
  pub rest_is : rest ≡ drop (end_at (octet_from at octets) layout.markers (frame_start layout.markers at) - at) octets

-- the length field lies in the frame
field_fits : (layout : Layout) (at n : ℕ) → IsBetween layout.markers at → frame_start layout.markers at + 2 ≤ frame_end layout.markers (frame_start layout.markers at) n
field_fits layout at n b = length_within layout.markers (frame_start layout.markers at) n (begins layout.markers at b)

pub first_parts : (layout : Layout) (at : ℕ) (octets : List ℕ) (carried : Carried) (rest : List ℕ) → first_frame layout at octets ≡ Some (carried, rest) → First layout at octets carried rest
unfolding first_frame
first_parts layout at octets carried rest e =
    let start : ℕ = frame_start layout.markers at in
    let octet : ℕ → ℕ = octet_from at octets in
    let all : ℕ = at + length octets in
    let end : ℕ = end_at octet layout.markers start in
    elim (cases_lt all (start + 2)) [
      | inl short ↦ absurd (none-some _ (sym (cond-true (ltb all (start + 2)) _ _ (lt-ltb _ _ short)) ∙ e))
      | inr long ↦ elim (cases_lt all end) [
        | inl short ↦ absurd (none-some _ (sym (cond-false (ltb all (start + 2)) _ _ (le-ltb _ _ long) ∙ cond-true (ltb all end) _ _ (lt-ltb _ _ short)) ∙ e))
        | inr fits ↦
            let parts = some_pair_parts _ _ _ _ (sym (cond-false (ltb all (start + 2)) _ _ (le-ltb _ _ long) ∙ cond-false (ltb all end) _ _ (le-ltb _ _ fits)) ∙ e) in
            record { fits = fits; carried_is = sym parts.0; rest_is = sym parts.1 }
      ]
    ]

pub first_from : (layout : Layout) (at : ℕ) (octets : List ℕ) → IsBetween layout.markers at → end_at (octet_from at octets) layout.markers (frame_start layout.markers at) ≤ at + length octets
    → first_frame layout at octets
    ≡ Some (carried_at layout (octet_from at octets) (frame_start layout.markers at), drop (end_at (octet_from at octets) layout.markers (frame_start layout.markers at) - at) octets)
unfolding first_frame
first_from layout at octets b fits =
    let start : ℕ = frame_start layout.markers at in
    let octet : ℕ → ℕ = octet_from at octets in
    let long : start + 2 ≤ at + length octets = omega (arith, fits, field_fits layout at (length_at octet start) b) in
    cond-false (ltb (at + length octets) (start + 2)) _ _ (le-ltb _ _ long) ∙ cond-false (ltb (at + length octets) (end_at octet layout.markers start)) _ _ (le-ltb _ _ fits)

first_none : (layout : Layout) (at : ℕ) (octets : List ℕ) → at + length octets < end_at (octet_from at octets) layout.markers (frame_start layout.markers at) → first_frame layout at octets ≡ None
unfolding first_frame
first_none layout at octets short =
    let start : ℕ = frame_start layout.markers at in
    elim (cases_lt (at + length octets) (start + 2)) [
      | inl none ↦ cond-true (ltb (at + length octets) (start + 2)) _ _ (lt-ltb _ _ none)
      | inr long ↦ cond-false (ltb (at + length octets) (start + 2)) _ _ (le-ltb _ _ long) ∙ cond-true (ltb (at + length octets) (end_at (octet_from at octets) layout.markers start)) _ _ (lt-ltb _ _ short)
    ]

-- ---- octets that agree over the frame give the same
pub record Same (layout : Layout) (f g : ℕ → ℕ) (start : ℕ) : Type 0 where
  pub len : length_at f start ≡ length_at g start
  pub end : end_at f layout.markers start ≡ end_at g layout.markers start
  pub carried : carried_at layout f start ≡ carried_at layout g start

same_first : (layout : Layout) (f g : ℕ → ℕ) (start n : ℕ) → IsStart layout.markers start → n ≡ length_at g start
    → ((p : ℕ) → span_start layout.markers start ≤ p → p < frame_end layout.markers start n → f p ≡ g p) → Same layout f g start
same_first layout f g start n s is h =
    let m : Bool = layout.markers in
    let all : Agree f g m start n = agree f g m start n h in
    let len : length_at f start ≡ length_at g start = same_length f g m start n s all in
    let first : length_at f start ≡ n = len ∙ sym is in
    let wrong : mismatch_at layout f start (length_at f start) ≡ mismatch_at layout g start (length_at g start) =
    ap (mismatch_at layout f start) first ∙ same_mismatch f g layout start n s all ∙ ap (mismatch_at layout g start) is in
    let payload : ulpdu_at f m start ≡ ulpdu_at g m start =
    ap (data_at f m (data_index m start + 2)) first ∙ same_frame_data f g m start n 2 n s all (omega arith) ∙ ap (data_at g m (data_index m start + 2)) is in
    record { len = len; end = ap (frame_end m start) len; carried = λ i. record { mismatch = wrong i; ulpdu = payload i } }

-- ---- more octets
pub first_stays : (layout : Layout) (at : ℕ) (octets more : List ℕ) (carried : Carried) (rest : List ℕ) → IsBetween layout.markers at
    → first_frame layout at octets ≡ Some (carried, rest) → first_frame layout at (octets ++ more) ≡ Some (carried, rest ++ more)
first_stays layout at octets more carried rest b e =
    let p = first_parts layout at octets carried rest e in
    let m : Bool = layout.markers in
    let start : ℕ = frame_start m at in
    let old : ℕ → ℕ = octet_from at octets in
    let new : ℕ → ℕ = octet_from at (octets ++ more) in
    let same : Same layout new old start =
    same_first layout new old start (length_at old start) (begins m at b) refl
    (λ q low high. get_or_append_left octets more 0 (q - at) (omega (arith, b.span, low, high, p.fits, field_fits layout at (length_at old start) b))) in
    let fits : end_at new m start ≤ at + length (octets ++ more) = omega (arith, same.end, p.fits, length-append octets more) in
    let beyond : drop (end_at new m start - at) (octets ++ more) ≡ rest ++ more =
    ap (λ k. drop (k - at) (octets ++ more)) same.end ∙ drop-append-le (end_at old m start - at) octets more (omega (arith, p.fits)) ∙ ap (λ z. z ++ more) (sym p.rest_is) in
    first_from layout at (octets ++ more) b fits ∙ (λ i. Some ((same.carried ∙ sym p.carried_is) i, beyond i))

-- ---- the frame alone
-- the octets of the first frame, which are that frame whatever comes behind them
pub record Alone (layout : Layout) (at : ℕ) (octets : List ℕ) (carried : Carried) (rest : List ℕ) : Type 0 where
  pub one : List ℕ
  pub split : one ++ rest ≡ octets
  pub again : (more : List ℕ) → first_frame layout at (one ++ more) ≡ Some (carried, more)

pub first_alone : (layout : Layout) (at : ℕ) (octets : List ℕ) (carried : Carried) (rest : List ℕ) → IsBetween layout.markers at
    → first_frame layout at octets ≡ Some (carried, rest) → Alone layout at octets carried rest
first_alone layout at octets carried rest b e =
    let p = first_parts layout at octets carried rest e in
    let m : Bool = layout.markers in
    let start : ℕ = frame_start m at in
    let old : ℕ → ℕ = octet_from at octets in
    let n : ℕ = length_at old start in
    let end : ℕ = end_at old m start in
    let one : List ℕ = take (end - at) octets in
    let low : at + 2 ≤ end = omega (arith, field_fits layout at n b, b.span, span_low m start) in
    let size : length one ≡ end - at = omega (arith, length-take (end - at) octets, p.fits) in
    let split : one ++ rest ≡ octets = ap (λ z. one ++ z) p.rest_is ∙ take-append-drop (end - at) octets in
    record {
      one = one;
      split = split;
      again = λ more.
          let new : ℕ → ℕ = octet_from at (one ++ more) in
          let same : Same layout new old start = same_first layout new old start n (begins m at b) refl
          (λ q from to.
          let in_one : q - at < length one = omega (arith, size, from, to, b.span, low) in
          get_or_append_left one more 0 (q - at) in_one ∙ sym (get_or_append_left one rest 0 (q - at) in_one) ∙ ap (λ z. get_or z (q - at) 0) split) in
          let fits : end_at new m start ≤ at + length (one ++ more) = omega (arith, same.end, size, low, length-append one more) in
          let beyond : drop (end_at new m start - at) (one ++ more) ≡ more = drop_at one more (end_at new m start - at) (omega (arith, size, same.end)) in
          first_from layout at (one ++ more) b fits ∙ (λ i. Some ((same.carried ∙ sym p.carried_is) i, beyond i));
    }

-- ---- a frame that was written
pub length_written : (layout : Layout) (at : ℕ) (u : List ℕ) → length (frame_octets layout at u) ≡ frame_end layout.markers at (length u) - at
unfolding frame_octets
length_written layout at u = length-map-range_with_len (frame_octet layout (frame_start layout.markers at) u) at (frame_end layout.markers at (length u) - at)

written_octet : (layout : Layout) (at : ℕ) (u rest : List ℕ) (q : ℕ) → at ≤ q → q < frame_end layout.markers at (length u)
    → octet_from at (frame_octets layout at u ++ rest) q ≡ frame_octet layout (frame_start layout.markers at) u q
unfolding frame_octets
written_octet layout at u rest q low high =
    let octet : ℕ → ℕ = frame_octet layout (frame_start layout.markers at) u in
    let end : ℕ = frame_end layout.markers at (length u) in
    get_or_append_left (frame_octets layout at u) rest 0 (q - at) (omega (arith, length_written layout at u))
    ∙ get_or-map-range_with_len octet at (end - at) (q - at) q 0 (omega arith) (omega arith)

pub written_is_first : (layout : Layout) (at : ℕ) (u rest : List ℕ) → IsBetween layout.markers at → length u ≤ max_sent
    → first_frame layout at (frame_octets layout at u ++ rest) ≡ Some (intact u, rest)
written_is_first layout at u rest b short =
    let m : Bool = layout.markers in
    let start : ℕ = frame_start m at in
    let s : IsStart m start = begins m at b in
    let octets : List ℕ = frame_octets layout at u ++ rest in
    let new : ℕ → ℕ = octet_from at octets in
    let g : ℕ → ℕ = frame_octet layout start u in
    let n : ℕ = length u in
    let back : length_at g start ≡ n = length_back layout start u s in
    let over : frame_end m start n ≡ frame_end m at n = ends m at n in
    let same : Same layout new g start = same_first layout new g start n s (sym back) (λ q low high. written_octet layout at u rest q (omega (arith, b.span, low)) (omega (arith, high, over))) in
    let end : end_at new m start ≡ frame_end m at n = same.end ∙ ap (frame_end m start) back ∙ over in
    let size : length (frame_octets layout at u) ≡ frame_end m at n - at = length_written layout at u in
    let past : at ≤ frame_end m at n = omega (arith, over, field_fits layout at n b, b.span, span_low m start) in
    let fits : end_at new m start ≤ at + length octets = omega (arith, end, size, past, length-append (frame_octets layout at u) rest) in
    let wrong : mismatch_at layout g start (length_at g start) ≡ None = ap (mismatch_at layout g start) back ∙ agrees_back layout start u s short in
    let payload : ulpdu_at g m start ≡ u = ap (data_at g m (data_index m start + 2)) back ∙ ulpdu_back layout start u in
    let carried : carried_at layout new start ≡ intact u = same.carried ∙ (λ i. record { mismatch = wrong i; ulpdu = payload i }) in
    let beyond : drop (end_at new m start - at) octets ≡ rest = drop_at (frame_octets layout at u) rest (end_at new m start - at) (omega (arith, size, end)) in
    first_from layout at octets b fits ∙ (λ i. Some (carried i, beyond i))

-- ---- what is left
pub first_takes : (layout : Layout) (at : ℕ) (octets : List ℕ) (carried : Carried) (rest : List ℕ) → IsBetween layout.markers at
    → first_frame layout at octets ≡ Some (carried, rest) → FirstTakes layout at octets rest
first_takes layout at octets carried rest b e =
    let p = first_parts layout at octets carried rest e in
    let m : Bool = layout.markers in
    let start : ℕ = frame_start m at in
    let n : ℕ = length_at (octet_from at octets) start in
    let end : ℕ = frame_end m start n in
    let low : at + 2 ≤ end = omega (arith, field_fits layout at n b, b.span, span_low m start) in
    let left : length rest ≡ length octets - (end - at) = ap length p.rest_is ∙ length-drop (end - at) octets in
    let beyond : at + (length octets - length rest) ≡ end = omega (arith, left, low, p.fits) in
    record { shorter = omega (arith, left, low, p.fits); next = subst (IsBetween m) (sym beyond) (frames_follow.next m start n (begins m at b)) }

-- ---- among octets that came
came_here : (arrived : Arrived) (base at : ℕ) (octets : List ℕ) → StandFrom arrived base at octets → (p : ℕ) → at ≤ p → p < at + length octets → octet_in arrived base p ≡ octet_from at octets p
came_here arrived base at octets st p low high =
    sym (part_agrees arrived base at (at + length octets) octets
    (st.held ∙ ap (cells_between arrived (base + at)) (let e : base + at + length octets ≡ base + (at + length octets) = omega arith in e)) p low high)

-- what is held has come
held_came : (arrived : Arrived) (base at : ℕ) (octets : List ℕ) → StandFrom arrived base at octets → (p : ℕ) → at ≤ p → p < at + length octets → has_come arrived (base + p) ≡ true
held_came arrived base at octets st p low high =
    let k : ℕ = p - at in
    ap (λ c. not (is_missing c))
    (ap (cell_at arrived) (let e : base + p ≡ base + at + k = omega arith in e)
    ∙ sym (get_or-map-range_with_len (cell_at arrived) (base + at) (base + at + length octets - (base + at)) k (base + at + k) Missing (omega arith) refl)
    ∙ ap (λ cs. get_or cs k Missing) (sym st.held)
    ∙ get_or-map Here octets k 0 Missing (omega arith))

within : (arrived : Arrived) (base at end : ℕ) (octets : List ℕ) → StandFrom arrived base at octets → ((p : ℕ) → at ≤ p → p < end → has_come arrived (base + p) ≡ true) → end ≤ at + length octets
within arrived base at end octets st came =
    elim (cases_lt (at + length octets) end) [
      | inl past ↦
          absurd (true≢false (sym (came (at + length octets) (omega arith) past) ∙ ap (has_come arrived) (let e : base + (at + length octets) ≡ base + at + length octets = omega arith in e) ∙ st.missing))
      | inr fits ↦ fits
    ]

found_whole : (arrived : Arrived) (layout : Layout) (base at : ℕ) (octets : List ℕ) → IsBetween layout.markers at → StandFrom arrived base at octets
    → IsWhole arrived layout.markers base (frame_start layout.markers at)
    → first_frame layout at octets
    ≡ Some (
      record { mismatch = mismatch (found_at arrived layout base (frame_start layout.markers at)); ulpdu = ulpdu (found_at arrived layout base (frame_start layout.markers at)) },
      drop (end_at (octet_in arrived base) layout.markers (frame_start layout.markers at) - at) octets,
    )
found_whole arrived layout base at octets b st whole =
    let m : Bool = layout.markers in
    let start : ℕ = frame_start m at in
    let f : ℕ → ℕ = octet_from at octets in
    let g : ℕ → ℕ = octet_in arrived base in
    let fits : end_at g m start ≤ at + length octets = within arrived base at (end_at g m start) octets st (λ p low high. whole p (omega (arith, b.span, low)) high) in
    let same : Same layout f g start =
    same_first layout f g start (length_at g start) (begins m at b) refl (λ p low high. sym (came_here arrived base at octets st p (omega (arith, b.span, low)) (omega (arith, high, fits)))) in
    first_from layout at octets b (omega (arith, same.end, fits)) ∙ (λ i. Some (same.carried i, drop (same.end i - at) octets))

found_lacking : (arrived : Arrived) (layout : Layout) (base at : ℕ) (octets : List ℕ) → IsBetween layout.markers at → StandFrom arrived base at octets
    → LacksOctet arrived layout.markers base (frame_start layout.markers at) → first_frame layout at octets ≡ None
found_lacking arrived layout base at octets b st lacks =
    let m : Bool = layout.markers in
    let start : ℕ = frame_start m at in
    let f : ℕ → ℕ = octet_from at octets in
    let g : ℕ → ℕ = octet_in arrived base in
    elim (cases_lt (at + length octets) (end_at f m start)) [
      | inl short ↦ first_none layout at octets short
      | inr fits ↦
          let same : Same layout g f start =
          same_first layout g f start (length_at f start) (begins m at b) refl (λ p low high. came_here arrived base at octets st p (omega (arith, b.span, low)) (omega (arith, high, fits))) in
          absurd (missing_here (lacks.0) (omega (arith, b.span, lacks.1)) (omega (arith, lacks.2, same.end, fits)) lacks.3)
    ]
  where
    missing_here : (p : ℕ) → at ≤ p → p < at + length octets → has_come arrived (base + p) ≡ false → ⊥
    missing_here p low high none = true≢false (sym (held_came arrived base at octets st p low high) ∙ none)

-- ---- whole sequences

pub next_between : (layout : Layout) (at n : ℕ) → IsBetween layout.markers at → IsBetween layout.markers (frame_end layout.markers at n)
next_between layout at n b = subst (IsBetween layout.markers) (ends layout.markers at n) (frames_follow.next layout.markers (frame_start layout.markers at) n (begins layout.markers at b))

end_past : (layout : Layout) (at n : ℕ) → IsBetween layout.markers at → at ≤ frame_end layout.markers at n
end_past layout at n b = omega (arith, ends layout.markers at n, field_fits layout at n b, b.span, span_low layout.markers (frame_start layout.markers at))

pub place_is : (layout : Layout) (at : ℕ) (us : List (List ℕ)) → IsBetween layout.markers at → place_past layout at us ≡ at + length (sequence layout at us)
unfolding sequence place_past
place_is layout at [] b = omega arith
place_is layout at (u ∷ us) b =
    let end : ℕ = frame_end layout.markers at (length u) in
    omega (arith, place_is layout end us (next_between layout at (length u) b), length-append (frame_octets layout at u) (sequence layout end us), length_written layout at u, end_past layout at (length u) b)

pub between_past : (layout : Layout) (at : ℕ) (us : List (List ℕ)) → IsBetween layout.markers at → IsBetween layout.markers (place_past layout at us)
unfolding place_past
between_past layout at [] b = b
between_past layout at (u ∷ us) b = between_past layout (frame_end layout.markers at (length u)) us (next_between layout at (length u) b)

pub sequences_join : (layout : Layout) (at : ℕ) (us vs : List (List ℕ)) → sequence layout at (us ++ vs) ≡ sequence layout at us ++ sequence layout (place_past layout at us) vs
unfolding sequence place_past
sequences_join layout at [] vs = refl
sequences_join layout at (u ∷ us) vs =
    let end : ℕ = frame_end layout.markers at (length u) in
    ap (λ z. frame_octets layout at u ++ z) (sequences_join layout end us vs) ∙ sym (append_assoc (frame_octets layout at u) (sequence layout end us) (sequence layout (place_past layout end us) vs))

-- the frames behind the first
abbrev others : Layout → ℕ → ℕ → List ℕ → Option (Carried × List ℕ) → List Carried
others layout n at octets o = option_map_or (λ (first : Carried × List ℕ). first.0 ∷ frames_within n layout (at + (length octets - length first.1)) first.1) o []

none_first : (layout : Layout) (at : ℕ) (x : List ℕ) → IsBetween layout.markers at → length x ≡ 0 → first_frame layout at x ≡ None
none_first layout at x b h = go (first_frame layout at x) refl
  where
    go : (o : Option (Carried × List ℕ)) → first_frame layout at x ≡ o → o ≡ None
    go None e = refl
    go (Some first) e = absurd (none_left (length first.1) (omega (arith, h, (first_takes layout at x first.0 first.1 b e).shorter)))
      where
        none_left : (n : ℕ) → n < 0 → ⊥
        none_left n lt = omega (arith, lt)

-- with enough turns it does not matter how many
pub enough : (n k : ℕ) (layout : Layout) (at : ℕ) (x : List ℕ) → IsBetween layout.markers at → length x ≤ n → length x ≤ k → frames_within n layout at x ≡ frames_within k layout at x
unfolding frames_within
enough zero zero layout at x b h j = refl
enough zero (suc k) layout at x b h j = ap (others layout k at x) (sym (none_first layout at x b (omega (arith, h))))
enough (suc n) zero layout at x b h j = ap (others layout n at x) (none_first layout at x b (omega (arith, j)))
enough (suc n) (suc k) layout at x b h j = go (enough n k) (first_frame layout at x) refl
  where
    go : ((layout : Layout) (at : ℕ) (y : List ℕ) → IsBetween layout.markers at → length y ≤ n → length y ≤ k → frames_within n layout at y ≡ frames_within k layout at y)
        → (o : Option (Carried × List ℕ)) → first_frame layout at x ≡ o → others layout n at x o ≡ others layout k at x o
    go same None e = refl
    go same (Some first) e =
        let t = first_takes layout at x first.0 first.1 b e in
        ap (λ z. first.0 ∷ z) (same layout (at + (length x - length first.1)) first.1 t.next (omega (arith, h, t.shorter)) (omega (arith, j, t.shorter)))

-- the frames of octets with a whole one at the front
pub frames_first : (layout : Layout) (at : ℕ) (x : List ℕ) (carried : Carried) (rest : List ℕ) → IsBetween layout.markers at → first_frame layout at x ≡ Some (carried, rest)
    → frames_of layout at x ≡ carried ∷ frames_of layout (at + (length x - length rest)) rest
unfolding frames_within
frames_first layout at [] carried rest b e = absurd (none-some _ (sym (none_first layout at [] b refl) ∙ e))
frames_first layout at (y ∷ ys) carried rest b e =
    let t = first_takes layout at (y ∷ ys) carried rest b e in
    ap (others layout (length ys) at (y ∷ ys)) e ∙ ap (λ z. carried ∷ z) (enough (length ys) (length rest) layout (at + (length (y ∷ ys) - length rest)) rest t.next (omega (arith, t.shorter)) (omega arith))

pub frames_none : (layout : Layout) (at : ℕ) (x : List ℕ) → first_frame layout at x ≡ None → frames_of layout at x ≡ []
unfolding frames_within
frames_none layout at [] e = refl
frames_none layout at (y ∷ ys) e = ap (others layout (length ys) at (y ∷ ys)) e

pub frames_written : (layout : Layout) (at : ℕ) (us : List (List ℕ)) → IsBetween layout.markers at → All (λ u. length u ≤ max_sent) us → frames_of layout at (sequence layout at us) ≡ map intact us
unfolding sequence frames_within
frames_written layout at [] b h = refl
frames_written layout at (u ∷ us) b h =
    let end : ℕ = frame_end layout.markers at (length u) in
    let rest : List ℕ = sequence layout end us in
    let octets : List ℕ = frame_octets layout at u ++ rest in
    let first : first_frame layout at octets ≡ Some (intact u, rest) = written_is_first layout at u rest b (All-head (λ x. length x ≤ max_sent) u us h) in
    let beyond : at + (length octets - length rest) ≡ end = omega (arith, length-append (frame_octets layout at u) rest, length_written layout at u, end_past layout at (length u) b) in
    frames_first layout at octets (intact u) rest b first
    ∙ ap (λ p. intact u ∷ frames_of layout p rest) beyond
    ∙ ap (λ z. intact u ∷ z) (frames_written layout end us (next_between layout at (length u) b) (All-tail (λ x. length x ≤ max_sent) u us h))

pub frames_in_sequence : FramesInSequence
frames_in_sequence = record {
  stays = first_stays;
  written = written_is_first;
  takes = first_takes;
  found = record { whole = found_whole; lacking = found_lacking };
  read = λ layout at us b short. record { frames = frames_written layout at us b short; place = place_is layout at us b; next = between_past layout at us b };
  join = sequences_join;
}

-- a frame that is written is short
pub written_few : (layout : Layout) (at : ℕ) (u : List ℕ) → at % 4 ≡ 0 → length u ≤ max_sent → length (frame_octets layout at u) ≤ 2 ^ 17
written_few layout at u aligned short =
    let edge = aligned_edge layout.markers at aligned in
    let n : ℕ = frame_size (length u) in
    omega (arith, length_written layout at u, after_bound layout.markers at n edge (omega (arith, short)), start_bound layout.markers at edge)
