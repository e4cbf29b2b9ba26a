-- What comes in pieces is taken as what comes at once.
use Rattle.std.proofs.Common.{◌≡◌, ℕ, ◌+◌, ◌-◌, ◌≤◌, ◌++◌, List, length, take, drop, min, ap, sym, ◌∙◌, arith, inl, inr, length-append, append_assoc, length-drop}
use Rattle.std.proofs.lemmas.Bool.{cases_lt}
use Rattle.std.proofs.lemmas.List.{append-nil, take_rest, take_all, take-append-drop, take_min, length-take-le, length-take, take-append-le}
use Rattle.std.proofs.Math.Seq.{take-append-add, take-add}
use Rattle.iw_startup.specs.declared.config.Establishment.{Establishment}
use Rattle.iw_startup.specs.declared.side.Side.{Side}
use Rattle.iw_startup.specs.Peer.{frame_end, frame_part}
use Rattle.iw_startup.proofs.Ends.{frame_end-append, least_end, frame_end-frame_part}

-- the frame ends behind what was taken, however many octets follow
pub end_beyond : (est : Establishment) (side : Side) (xs ys : List ℕ) → length xs ≤ frame_end est side xs → length xs ≤ frame_end est side (xs ++ ys)
end_beyond est side xs ys within = elim (cases_lt (length xs) 20) [
  | inl short ↦ omega (arith, least_end est side (xs ++ ys))
  | inr long ↦ omega (arith, frame_end-append est side xs ys long)
]

-- the octets as far as 20 tell the end as well as all of them
pub end_by_fixed : (est : Establishment) (side : Side) (xs ys : List ℕ) (n : ℕ) → n ≡ min (20 - length xs) (length ys) → frame_end est side (xs ++ take n ys) ≡ frame_end est side (xs ++ ys)
end_by_fixed est side xs ys n is = elim (cases_lt (length xs + length ys) 20) [
  | inl short ↦ ap (λ zs. frame_end est side (xs ++ zs)) (take_all n ys (omega arith))
  | inr long ↦
      let taken : n ≤ length ys = omega arith in
      let there : 20 ≤ length (xs ++ take n ys) = omega (arith, length-append xs (take n ys), length-take-le n ys taken) in
      sym (frame_end-append est side (xs ++ take n ys) (drop n ys) there) ∙ ap (frame_end est side) (append_assoc xs (take n ys) (drop n ys) ∙ ap (λ zs. xs ++ zs) (take-append-drop n ys))
]

-- the frame's part of the octets so far and of those that come
pub frame_part-append : (est : Establishment) (side : Side) (xs ys : List ℕ) → length xs ≤ frame_end est side xs →
    frame_part est side (xs ++ ys) ≡ xs ++ take (min (frame_end est side (xs ++ ys) - length xs) (length ys)) ys
unfolding frame_part
frame_part-append est side xs ys within =
    let e : ℕ = frame_end est side (xs ++ ys) in
    let beyond : length xs ≤ frame_end est side (xs ++ ys) = end_beyond est side xs ys within in
    let split : frame_end est side (xs ++ ys) ≡ length xs + (frame_end est side (xs ++ ys) - length xs) = omega arith in
    ap (λ n. take n (xs ++ ys)) split ∙ take-append-add xs ys (e - length xs) ∙ ap (λ zs. xs ++ zs) (sym (take_min (e - length xs) ys))

-- two steps, up to the end of the fixed octets and from there on, take what is needed
pub used_in_steps : (est : Establishment) (side : Side) (xs ys : List ℕ) (first second : ℕ) → length xs ≤ frame_end est side xs →
    first ≡ min (20 - length xs) (length ys) →
    second ≡ min (frame_end est side (xs ++ take first ys) - length (xs ++ take first ys)) (length (drop first ys)) →
    first + second ≡ min (frame_end est side (xs ++ ys) - length xs) (length ys)
used_in_steps est side xs ys first second within is next =
    let taken : first ≤ length ys = omega arith in
    omega (arith, end_by_fixed est side xs ys first is, length-append xs (take first ys), length-take-le first ys taken, length-drop first ys, least_end est side (xs ++ ys), end_beyond est side xs ys within)

pub taken_in_steps : (est : Establishment) (side : Side) (xs ys : List ℕ) (first second : ℕ) → length xs ≤ frame_end est side xs →
    first + second ≡ min (frame_end est side (xs ++ ys) - length xs) (length ys) →
    (xs ++ take first ys) ++ take second (drop first ys) ≡ frame_part est side (xs ++ ys)
taken_in_steps est side xs ys first second within both =
    append_assoc xs (take first ys) (take second (drop first ys))
    ∙ ap (λ zs. xs ++ zs) (sym (take-add first second ys) ∙ ap (λ n. take n ys) both)
    ∙ sym (frame_part-append est side xs ys within)

-- nothing behind the frame is in its part
pub part_within : (est : Establishment) (side : Side) (xs : List ℕ) → length (frame_part est side xs) ≤ frame_end est side (frame_part est side xs)
unfolding frame_part
part_within est side xs = omega (arith, frame_end-frame_part est side xs, length-take (frame_end est side xs) xs)

-- a whole frame stays as it is
pub frame_part-whole : (est : Establishment) (side : Side) (xs ys : List ℕ) → length xs ≤ frame_end est side xs → frame_end est side xs ≤ length xs → frame_part est side (xs ++ ys) ≡ xs
unfolding frame_part
frame_part-whole est side xs ys within whole =
    let there : 20 ≤ length xs = omega (arith, least_end est side xs) in
    let at : frame_end est side (xs ++ ys) ≡ length xs + 0 = omega (arith, frame_end-append est side xs ys there) in
    ap (λ n. take n (xs ++ ys)) at ∙ take-append-add xs ys 0 ∙ append-nil xs

-- two calls that take octets as far as an end: the end of the fixed octets, and the frame's
pub in_two_steps : (est : Establishment) (side : Side) (xs ys : List ℕ) (first second end : ℕ) (fixed all : List ℕ) → length xs ≤ frame_end est side xs →
    first ≡ min (20 - length xs) (length ys) → fixed ≡ xs ++ take first ys → end ≡ frame_end est side fixed →
    second ≡ min (end - length fixed) (length (take (length ys - first) (drop first ys))) →
    all ≡ fixed ++ take second (take (length ys - first) (drop first ys)) →
    (first + second ≡ min (frame_end est side (xs ++ ys) - length xs) (length ys)) × (all ≡ frame_part est side (xs ++ ys))
in_two_steps est side xs ys first second end fixed all within is fixed_is end_is second_is all_is =
    let rest : take (length ys - first) (drop first ys) ≡ drop first ys = take_rest ys first in
    let next : second ≡ min (frame_end est side (xs ++ take first ys) - length (xs ++ take first ys)) (length (drop first ys)) = cc in
    let both : first + second ≡ min (frame_end est side (xs ++ ys) - length xs) (length ys) = used_in_steps est side xs ys first second within is next in
    let put : all ≡ (xs ++ take first ys) ++ take second (drop first ys) = cc in
    (both, put ∙ taken_in_steps est side xs ys first second within both)

-- octets behind the frame's part of the octets are octets behind these
pub frame_part-frame_part : (est : Establishment) (side : Side) (xs ys : List ℕ) → frame_part est side (frame_part est side xs ++ ys) ≡ frame_part est side (xs ++ ys)
unfolding frame_part
frame_part-frame_part est side xs ys = elim (cases_lt (length xs) (frame_end est side xs)) [
  | inl less ↦ ap (λ zs. frame_part est side (zs ++ ys)) (take_all (frame_end est side xs) xs (omega arith))
  | inr enough ↦
      let there : 20 ≤ length xs = omega (arith, least_end est side xs) in
      let whole : frame_end est side (frame_part est side xs) ≤ length (frame_part est side xs)
      = omega (arith, frame_end-frame_part est side xs, length-take-le (frame_end est side xs) xs enough) in
      frame_part-whole est side (frame_part est side xs) ys (part_within est side xs) whole
      ∙ sym (ap (λ n. take n (xs ++ ys)) (frame_end-append est side xs ys there) ∙ take-append-le (frame_end est side xs) xs ys enough)
]
