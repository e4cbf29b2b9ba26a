-- A header is read, and judged, off the octets at the front of a ULPDU.
use Rattle.std.proofs.Common.{◌≡◌, ℕ, ◌+◌, ◌≤◌, Bool, true, false, min, List, [], ◌∷◌, ◌++◌, length, drop, take, get_or, if◌then◌else◌, Some, refl, sym, ap, ◌∙◌, subst, arith, inl, inr, length-append}
use Rattle.std.proofs.lemmas.Bool.{cases_lt}
use Rattle.std.proofs.lemmas.Option.{none-some, same_Some}
use Rattle.std.proofs.lemmas.List.{append-nil, length-take, take-append-drop, take-append-le, take_all}
use Rattle.std.proofs.Math.Seq.{take-append-add}
use Rattle.iw_octets.specs.declared.segment.Segment.{Segment}
use Rattle.iw_octets.specs.declared.segment.Segment.TheVariants.{Tagged, Untagged}
use Rattle.iw_octets.specs.Head.{is_tagged}
use Rattle.iw_octets.specs.Segment.{read_segment}
use Rattle.iw_octets.proofs.Front.{read_segment-long_tagged, read_segment-long_untagged, read_segment-short_tagged, read_segment-short_untagged}
use Rattle.iw_rdmap.specs.Judging.{judged}
use Rattle.iw_rdmap.proofs.Whole.{front_judged}
use Rattle.iw_stream.specs.Frames.{header_in}
use Rattle.iw_stream.specs.Judging.{IsFirst}

-- the octets of a segment's header, and its payload
abbrev pub header_of : Segment (List ℕ) → ℕ
header_of (Tagged head payload) = 14
header_of (Untagged head payload) = 18

abbrev pub payload_in : Segment (List ℕ) → List ℕ
payload_in (Tagged head payload) = payload
payload_in (Untagged head payload) = payload

-- the payload stands behind the header
pub record Behind (octets : List ℕ) (segment : Segment (List ℕ)) : Type 0 where
  pub long : header_of segment ≤ length octets
  pub payload : payload_in segment ≡ drop (header_of segment) octets

pub segment_past : (octets : List ℕ) (segment : Segment (List ℕ)) → read_segment octets ≡ Some segment → Behind octets segment
segment_past octets segment e = go (is_tagged (get_or octets 0 0)) refl
  where
    go : (tagged : Bool) → is_tagged (get_or octets 0 0) ≡ tagged → Behind octets segment
    go true tagged = elim (cases_lt (length octets) 14) [
      | inl short ↦ absurd (none-some _ (sym (read_segment-short_tagged octets short tagged) ∙ e))
      | inr long ↦
          subst (Behind octets) (same_Some _ _ (sym (read_segment-long_tagged octets long tagged) ∙ e)) (record { long = long; payload = refl })
    ]
    go false untagged = elim (cases_lt (length octets) 18) [
      | inl short ↦ absurd (none-some _ (sym (read_segment-short_untagged octets short untagged) ∙ e))
      | inr long ↦
          subst (Behind octets) (same_Some _ _ (sym (read_segment-long_untagged octets long untagged) ∙ e)) (record { long = long; payload = refl })
    ]

-- ---- octets at the front
no_octets : (xs : List ℕ) → length xs ≡ 0 → xs ≡ []
no_octets [] e = refl
no_octets (x ∷ xs) e = absurd (omega arith)

pub first_taken : (u : List ℕ) → IsFirst u (take 46 u)
first_taken u = record { beyond = drop 46 u; whole = sym (take-append-drop 46 u); enough = omega (arith, length-take 46 u) }

-- they are all, or enough for a header
all_first : (u first : List ℕ) → IsFirst u first → length u ≤ length first → u ≡ first
all_first u first f few =
    let long : length u ≡ length first + length f.beyond = ap length f.whole ∙ length-append first f.beyond in
    f.whole ∙ ap (λ xs. first ++ xs) (no_octets f.beyond (omega (arith, long, few))) ∙ append-nil first

-- a header is judged by them as by all
pub judged_front : (u first : List ℕ) (len next unanswered : ℕ) → IsFirst u first → len ≡ length u → judged first len next unanswered ≡ judged u (length u) next unanswered
judged_front u first len next unanswered f same =
    let all : length u ≡ length first + length f.beyond = ap length f.whole ∙ length-append first f.beyond in
    let whole : length (first ++ f.beyond) ≡ length u = sym (ap length f.whole) in
    (λ i. judged first ((same ∙ sym whole) i) next unanswered)
    ∙ front_judged first f.beyond next unanswered (record { enough = omega (arith, f.enough, whole); within = omega (arith, whole, all) })
    ∙ (λ i. judged (sym f.whole i) (whole i) next unanswered)

-- ---- the header as it came
front_octet : (xs ys : List ℕ) → 1 ≤ length xs → get_or (xs ++ ys) 0 0 ≡ get_or xs 0 0
front_octet [] ys some = absurd (omega arith)
front_octet (x ∷ xs) ys some = refl

size_few : (tagged : Bool) → (if tagged then 14 else 18) ≤ 18
size_few true = omega arith
size_few false = omega arith

pub header_first : (u first : List ℕ) → IsFirst u first → header_in first ≡ header_in u
header_first u first f = elim (cases_lt (length first) 46) [
  | inl few ↦ sym (ap header_in (all_first u first f (omega (arith, f.enough, few))))
  | inr enough ↦
      sym (ap header_in f.whole
      ∙ ap (λ x. take (if is_tagged x then 14 else 18) (first ++ f.beyond)) (front_octet first f.beyond (omega arith))
      ∙ take-append-le (if is_tagged (get_or first 0 0) then 14 else 18) first f.beyond (omega (arith, size_few (is_tagged (get_or first 0 0)))))
]

-- ---- the first octets, piece by piece
take_some : (n : ℕ) (xs : List ℕ) → take n xs ≡ take (min n (length xs)) xs
take_some n xs = elim (cases_lt n (length xs)) [
  | inl less ↦ ap (λ k. take k xs) (let e : n ≡ min n (length xs) = omega arith in e)
  | inr all ↦ take_all n xs all ∙ sym (take_all (min n (length xs)) xs (omega arith))
]

-- as many octets as there is room for
pub fills : (room : ℕ) (xs ys : List ℕ) → room + length xs ≡ 46 → take 46 (xs ++ ys) ≡ xs ++ take (min room (length ys)) ys
fills room xs ys all =
    ap (λ n. take n (xs ++ ys)) (let e : 46 ≡ length xs + room = omega (arith, all) in e) ∙ take-append-add xs ys room ∙ ap (λ zs. xs ++ zs) (take_some room ys)

-- one piece more
pub fills-next : (xs ys : List ℕ) → take 46 (take 46 xs ++ ys) ≡ take 46 (xs ++ ys)
fills-next xs ys = elim (cases_lt (length xs) 46) [
  | inl few ↦ ap (λ zs. take 46 (zs ++ ys)) (take_all 46 xs (omega arith))
  | inr enough ↦
      let long : length (take 46 xs) ≡ 46 = length-take 46 xs ∙ omega arith in
      take-append-le 46 (take 46 xs) ys (omega (arith, long)) ∙ take_all 46 (take 46 xs) (omega (arith, long)) ∙ sym (take-append-le 46 xs ys enough)
]

-- once there are enough it does not matter what comes behind
pub fills-enough : (xs ys : List ℕ) → length (take 46 xs) ≡ 46 → take 46 xs ≡ take 46 (xs ++ ys)
fills-enough xs ys full = sym (take-append-le 46 xs ys (omega (arith, full, length-take 46 xs)))
