-- Only octets of placed frames are given up, whatever is called.
use Rattle.std.proofs.Common.{◌≡◌, ℕ, ◌+◌, ◌-◌, ◌<◌, ◌≤◌, Bool, true, false, cond, List, length, refl, sym, ap, ◌∙◌, arith, inl, inr}
use Rattle.std.proofs.lemmas.Bool.{cases_lt}
use Rattle.std.proofs.lemmas.Bool.Decides.{nat_tests}
use Rattle.std.specs.Prelude.{◌⊎◌, ◌&&◌, nat_le, nat_lt}
use Rattle.std.specs.List.{Contains}
use Rattle.iw_ranges.specs.Arrived.{Arrived, Cell, Missing, Here, Gone, cell_at, in_segment, given_up, is_dropped, taken_in, delivered, advanced, released}
use Rattle.iw_ranges.proofs.ByPlace.{cell_at-taken_in, first_copy-gone, gives_up_places}
use Rattle.iw_ranges.proofs.InOrder.{floor_takes, floor_moves}
use Rattle.iw_locate.specs.declared.judged.Record.{Record}
use Rattle.iw_locate.specs.Records.{from_of, IsPlaced, added, kept_from}
use Rattle.iw_locate.specs.Free.{Scene, GivesUpOnlyPlaced}
use Rattle.iw_locate.specs.Keeping.{changed}
use Rattle.iw_locate.proofs.Holds.{adds_one, keeps_from}
use Rattle.iw_locate.proofs.Stays.{cell_advanced}

pub released_floor : (a : Arrived) (from to : ℕ) → (released a from to).floor ≡ a.floor
unfolding released
released_floor a from to = refl

pub outside : (from to p : ℕ) (c : Cell) → (p < from) ⊎ (to ≤ p) → given_up from to p c ≡ c
outside from to p Missing out = refl
outside from to p Gone out = refl
outside from to p (Here x) out = ap (λ b. cond b Gone (Here x)) (test out)
  where
    test : (p < from) ⊎ (to ≤ p) → (nat_le from p && nat_lt p to) ≡ false
    test (inl before) = grind (arith, nat_tests)
    test (inr past) = grind (arith, nat_tests)

was_gone : (from to p : ℕ) (c : Cell) → given_up from to p c ≡ Gone → (p < from) ⊎ (to ≤ p) → c ≡ Gone
was_gone from to p c gone out = sym (outside from to p c out) ∙ gone

module _ {T : Type 0} (v : Scene T) (only : GivesUpOnlyPlaced v) where
  -- octets come
  pub only_takes : (place : ℕ) (octets : List ℕ) → GivesUpOnlyPlaced (changed v (taken_in v.arrived place octets) v.records)
  only_takes place octets q low gone =
      only q (omega (arith, low, floor_takes v.arrived place octets))
      (first_copy-gone place octets (v.base + q) (cell_at v.arrived (v.base + q)) (in_segment place (length octets) (v.base + q)) refl (sym (cell_at-taken_in v.arrived place octets (v.base + q)) ∙ gone))

  pub only_delivers : (place : ℕ) (octets : List ℕ) → GivesUpOnlyPlaced (changed v (delivered v.arrived place octets) v.records)
  only_delivers place octets = go (is_dropped v.arrived place (length octets))
    where
      go : (b : Bool) → GivesUpOnlyPlaced (changed v (cond b v.arrived (taken_in v.arrived place octets)) v.records)
      go true = only
      go false = only_takes place octets

  -- a frame has its turn, and no placed one that begins before the new in-order point reaches past it
  pub only_moves : (to : ℕ) → ((r : Record T) → Contains v.records r → IsPlaced r.state → from_of r < to - v.base → r.end ≤ to - v.base) → GivesUpOnlyPlaced (changed v (advanced v.arrived to) (kept_from (to - v.base) v.records))
  only_moves to passed q low gone =
      let past : to - v.base ≤ q = omega (arith, low, floor_moves v.arrived to) in
      let w = only q (omega (arith, low, floor_moves v.arrived to)) (sym (cell_advanced v.arrived to (v.base + q) (omega (arith, past))) ∙ gone) in
      elim (cases_lt (from_of w.0) (to - v.base)) [
        | inl before ↦ absurd (omega (arith, passed w.0 w.1 w.2 before, past, w.4))
        | inr from ↦ (w.0, (keeps_from (to - v.base) v.records w.0).1 (w.1, from), w.2, w.3, w.4)
      ]

  -- a frame is judged before its turn
  pub only_adds : (r : Record T) → GivesUpOnlyPlaced (changed v v.arrived (added v.records r))
  only_adds r q low gone = let w = only q low gone in (w.0, (adds_one v.records r w.0).1 (inl w.1), w.2, w.3, w.4)

  -- the octets of a placed one are given up
  pub only_releases : (r : Record T) → Contains v.records r → IsPlaced r.state → GivesUpOnlyPlaced (changed v (released v.arrived (v.base + from_of r) (v.base + r.end)) v.records)
  only_releases r within placed q low gone =
      let point = released_floor v.arrived (v.base + from_of r) (v.base + r.end) in
      let was : (v.base + q < v.base + from_of r) ⊎ (v.base + r.end ≤ v.base + q) → cell_at v.arrived (v.base + q) ≡ Gone =
      was_gone (v.base + from_of r) (v.base + r.end) (v.base + q) (cell_at v.arrived (v.base + q)) (sym (gives_up_places v.arrived (v.base + from_of r) (v.base + r.end) (v.base + q)) ∙ gone) in
      elim (cases_lt q (from_of r)) [
        | inl before ↦ only q (omega (arith, low, point)) (was (inl (omega (arith, before))))
        | inr from ↦
            elim (cases_lt q r.end) [
              | inl to ↦ (r, within, placed, from, to)
              | inr past ↦ only q (omega (arith, low, point)) (was (inr (omega (arith, past))))
            ]
      ]

-- a frame is placed before its turn, and its octets are given up at once
pub only_places : {T : Type 0} (v : Scene T) (r : Record T) → GivesUpOnlyPlaced v → IsPlaced r.state → GivesUpOnlyPlaced (changed v (released v.arrived (v.base + from_of r) (v.base + r.end)) (added v.records r))
only_places v r only placed = only_releases (changed v v.arrived (added v.records r)) (only_adds v only r) r ((adds_one v.records r r).1 (inr refl)) placed
