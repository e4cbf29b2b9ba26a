-- What deliveries and records leave so.
use Rattle.std.proofs.Common.{◌≡◌, ℕ, ◌+◌, ◌-◌, ◌<◌, Bool, true, false, List, [], ◌∷◌, length, refl, sym, ap, ◌∙◌, subst, arith, inl, inr}
use Rattle.std.specs.Prelude.{slice_index, not}
use Rattle.std.specs.List.{Contains}
use Rattle.iw_ranges.specs.declared.Delivery.TheVariants.{Kept}
use Rattle.iw_ranges.specs.Arrived.{Arrived, Missing, Gone, nothing, cell_at, delivery, delivered}
use Rattle.iw_ranges.proofs.ByPlace.{kept_gone, cell_at-nothing}
use Rattle.iw_fpdu.specs.Laws.{IsBetween}
use Rattle.iw_fpdu.specs.Reading.{length_at}
use Rattle.iw_fpdu.proofs.Octets.{length_within}
use Rattle.iw_fpdu.proofs.Follows.{frames_follow}
use Rattle.iw_fpdu.specs.Places.{data_place, data_index, frame_start}
use Rattle.iw_locate.specs.declared.frame.Frame.{Frame}
use Rattle.iw_locate.specs.declared.frame.Next.TheVariants.{Frame as Found}
use Rattle.iw_locate.specs.declared.judged.Record.{Record}
use Rattle.iw_locate.specs.declared.judged.State.{State}
use Rattle.iw_locate.specs.declared.unsearched.Unsearched.{Unsearched}
use Rattle.iw_locate.specs.Records.{IsClear, added}
use Rattle.iw_locate.specs.Free.{front_of, octet_of, CanLocate}
use Rattle.iw_locate.specs.Next.{IsNext}
use Rattle.iw_locate.specs.Unsearched.{Tells, IsFollowed, nothing_unsearched, with_octets}
use Rattle.iw_locate.specs.Keeping.{record_of}
use Rattle.iw_locate.proofs.Starting.{kept_can_locate, no_record_keeps, nothing_tells}
use Rattle.iw_locate.proofs.Adding.{judging_keeps, early_is}
use Rattle.iw_locate.proofs.Delivering.{delivery_keeps, delivered_floor}
use Rattle.iw_locate.proofs.Holds.{adds_one}
use Rattle.iw_locate.specs.Hole.{scene, IsPastHole}

front_is : (at : ℕ) → at ≡ 0 → frame_start true at ≡ 4
unfolding data_place data_index
front_is at e = ap (frame_start true) e

module _ {T : Type 0} (a : Arrived) (rs : List (Record T)) (u : Unsearched) (past : IsPastHole a rs u) where
  front_at : front_of (scene a rs) ≡ 4
  front_at = front_is (a.floor - 0) (let e : a.floor - 0 ≡ 0 = omega (arith, past.floor) in e)

  pub can_locate : CanLocate (scene a rs)
  can_locate = kept_can_locate (scene a rs) past.keeps (omega (arith, past.floor)) (λ r within placed at. past.front r within (at ∙ front_at))

  pub judged_past : (f : Frame) (state : State T) → IsNext (scene a rs) (Found f) → f.early ≡ true → IsFollowed u f → IsPastHole a (added rs (record_of f state)) u
  judged_past f state next early followed =
      let kept = judging_keeps (scene a rs) u f state past.keeps past.tells next early followed in record {
        floor = past.floor;
        held = past.held;
        front = λ r within at.
            elim ((adds_one rs (record_of f state) r).0 within) [
              | inl old ↦ past.front r old at
              | inr same ↦ (early_is (scene a rs) f next early).2.other (ap (λ (x : Record T). x.start) same ∙ at ∙ sym front_at)
            ];
        keeps = kept.0;
        tells = kept.1;
      }

  pub early_fits : (f : Frame) → IsNext (scene a rs) (Found f) → f.early ≡ true → (f.start < f.end) × IsClear rs f.start f.end
  early_fits f next early =
      let e = early_is (scene a rs) f next early in
      let end = ap (λ (x : Frame). x.end) e.0 in
      (omega (arith, end, length_within true f.start (length_at (octet_of (scene a rs)) f.start) e.2.start), subst (IsClear rs f.start) (sym end) e.2.clear)

  pub delivered_past : (place : ℕ) (octets : List ℕ) → delivery a place (length octets) ≡ Kept → ((k : ℕ) → slice_index octets k < 256) → IsPastHole (delivered a place octets) rs (with_octets u place (place + length octets))
  delivered_past place octets kept few =
      let after = delivery_keeps (scene a rs) u place octets past.keeps past.tells kept few in record {
        floor = delivered_floor a place octets kept ∙ past.floor;
        held = λ p gone. past.held p (kept_gone a (delivered a place octets) place octets Kept p refl (sym kept) refl gone);
        front = past.front;
        keeps = after.0;
        tells = let e : place - 0 ≡ place = omega arith in let h : place + length octets - 0 ≡ place + length octets = omega arith in subst (Tells (scene (delivered a place octets) rs)) (λ i. with_octets u (e i) (h i)) after.1;
      }

  pub searched_past : (new : Unsearched) → Tells (scene a rs) new → IsPastHole a rs new
  searched_past new tells = record { floor = past.floor; held = past.held; front = past.front; keeps = past.keeps; tells = tells }

pub not_false : (b : Bool) → not b ≡ false → b ≡ true
not_false true e = refl
not_false false e = absurd (cc e)

pub begun_past : {T : Type 0} (a : Arrived) (rs : List (Record T)) (u : Unsearched) → a ≡ nothing → rs ≡ [] → u ≡ nothing_unsearched → IsPastHole a rs u
begun_past {T} a rs u is none all = record {
  floor = floor;
  held = held;
  front = λ r within. absurd (none_in rs none r within);
  keeps = no_record_keeps (scene a rs) (omega arith) (subst (IsBetween true) (sym point) (frames_follow.first true)) none (λ q low gone. held (0 + q) gone);
  tells = subst (Tells (scene a rs)) (sym all) (nothing_tells (scene a rs) (λ q. missing (0 + q)));
}
  where
    floor : a.floor ≡ 0
    floor = ap (λ (x : Arrived). x.floor) is

    point : a.floor - 0 ≡ 0
    point = omega (arith, floor)

    missing : (p : ℕ) → cell_at a p ≡ Missing
    missing p = ap (λ x. cell_at x p) is ∙ cell_at-nothing p

    held : (p : ℕ) → cell_at a p ≡ Gone → ⊥
    held p gone = let e = sym (missing p) ∙ gone in absurd (cc e)

    none_in : (xs : List (Record T)) → xs ≡ [] → (x : Record T) → Contains xs x → ⊥
    none_in [] e x (k, lt, at) = omega arith
    none_in (y ∷ xs) e x within = absurd (cc e)
