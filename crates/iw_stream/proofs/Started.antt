-- The start-up of a stream: the octets that came in order, and the frame that is taken off them.
use Rattle.std.proofs.Common.{◌≡◌, ℕ, ◌+◌, ◌<◌, ◌≤◌, true, false, not, List, [], ◌∷◌, ◌++◌, map, length, refl, sym, ap, ◌∙◌, arith, inl, inr}
use Rattle.std.proofs.lemmas.Bool.{cases_lt, true≢false}
use Rattle.std.proofs.lemmas.List.{length-take}
use Rattle.iw_ranges.specs.Arrived.{Arrived, Cell, Missing, Here, Gone, IsHere, cell_at, is_missing, has_come, cells_between, in_order}
use Rattle.iw_ranges.specs.InOrder.{IsHeld, is_gone}
use Rattle.iw_ranges.proofs.InOrder.{stands, ends, all_come}
use Rattle.iw_startup.specs.Peer.{frame_end, frame_part}
use Rattle.iw_startup.specs.State.{StartupState, used}

-- ---- the octets in order
here : (c : Cell) → not (is_missing c) ≡ true → is_gone c ≡ false → IsHere c
here Missing come kept = cc
here (Here x) come kept = tt
here Gone come kept = absurd (true≢false kept)

pub part_here : (a : Arrived) (from : ℕ) (end : ℕ) → IsHeld a → from ≡ a.floor → ((p : ℕ) → p < end → has_come a p ≡ true) → (p : ℕ) → from ≤ p → p < end → IsHere (cell_at a p)
part_here a from end kept is come p low high = here (cell_at a p) (come p high) (kept p (omega (arith, is, low)))

octet_of : Cell → ℕ
octet_of Missing = 0
octet_of (Here x) = x
octet_of Gone = 0

back : (xs : List ℕ) → map octet_of (map Here xs) ≡ xs
unfolding octet_of
back [] = refl
back (x ∷ xs) = ap (λ ys. x ∷ ys) (back xs)

pub missing_is : (a : Arrived) (end : ℕ) → IsHeld a → ((p : ℕ) → p < end → has_come a p ≡ true) → cell_at a end ≡ Missing → end ≡ a.floor + length (in_order a)
missing_is a end kept come missing = elim (cases_lt end (a.floor + length (in_order a))) [
  | inl less ↦ absurd (true≢false (sym (all_come a (a.floor + length (in_order a)) (omega arith) end less) ∙ ap (λ c. not (is_missing c)) missing))
  | inr enough ↦
      elim (cases_lt (a.floor + length (in_order a)) end) [
        | inl past ↦ absurd (true≢false (sym (come (a.floor + length (in_order a)) past) ∙ ends a kept))
        | inr fits ↦ omega (arith, enough, fits)
      ]
]

pub part_is : (a : Arrived) (from end : ℕ) (octets : List ℕ) → IsHeld a → from ≡ a.floor → ((p : ℕ) → p < end → has_come a p ≡ true) → cell_at a end ≡ Missing
    → map Here octets ≡ cells_between a from end → octets ≡ in_order a
part_is a from end octets kept is come missing same =
    sym (back octets) ∙ ap (map octet_of) (same ∙ (λ i. cells_between a (is i) (missing_is a end kept come missing i)) ∙ sym (stands a)) ∙ back (in_order a)

-- ---- the frame that is taken
pub used_part : (u : StartupState) (octets : List ℕ) → u.octets ≡ [] → used u octets ≡ length (frame_part u.config.establishment u.side octets)
unfolding used frame_part
used_part u octets fresh =
    let bare : frame_end u.config.establishment u.side (u.octets ++ octets) ≡ frame_end u.config.establishment u.side octets = ap (λ xs. frame_end u.config.establishment u.side (xs ++ octets)) fresh in
    omega (arith, bare, ap length fresh, length-take (frame_end u.config.establishment u.side octets) octets)

pub part_short : (u : StartupState) (octets : List ℕ) → length (frame_part u.config.establishment u.side octets) ≤ length octets
unfolding frame_part
part_short u octets = omega (arith, length-take (frame_end u.config.establishment u.side octets) octets)
