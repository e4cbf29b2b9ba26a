-- Octets that are read in place.
use Rattle.std.proofs.Common.{◌≡◌, ℕ, ◌+◌, ◌-◌, ◌<◌, ◌≤◌, Bool, true, false, List, take, length, get_or, Option, None, refl, sym, ap, ◌∙◌, subst, arith}
use Rattle.std.specs.Prelude.{MatchBool, slice_index}
use Rattle.std.specs.Io.KnownBytes.{Consumes}
use Rattle.std.proofs.lemmas.List.{length-take-le}
use Rattle.iw_ranges.specs.declared.Delivery.TheVariants.{Kept}
use Rattle.iw_ranges.specs.Arrived.{Arrived, Held, delivery, delivered, end_of, IsReadyFor, window}
use Rattle.iw_locate.specs.declared.unsearched.Unsearched.{Unsearched}
use Rattle.iw_locate.specs.Free.{scene_of}
use Rattle.iw_locate.specs.Keeping.{Keeps}
use Rattle.iw_locate.specs.Unsearched.{Tells, with_octets}
use Rattle.iw_locate.proofs.Delivering.{delivery_keeps}
use Rattle.iw_stream.specs.Incoming.{Coming, IsTracked, scene_in}
use Rattle.iw_stream.specs.Reading.{Brings}

-- ---- what was read is counted
less_ready : (h : Held) (n got : ℕ) → IsReadyFor n h → got ≤ n → IsReadyFor got h
less_ready h n got ready few = record { near = omega (arith, ready.near, few); stand = omega (arith, ready.stand, few) }

pub brings : (h : Held) (old new : Arrived) (n got place : ℕ) (before after : Option (List ℕ)) (counts : Bool) → h.arrived ≡ old → IsReadyFor n h → got ≤ n → 0 < got → place ≡ end_of h.arrived
    → Consumes before after (take got h.ahead)
    → (0 < got → IsReadyFor got h → place ≡ end_of h.arrived → counts ≡ true)
    → MatchBool counts (new ≡ delivered h.arrived place (take got h.ahead)) (new ≡ h.arrived)
    → (counts ≡ true → delivery h.arrived place got ≡ Kept)
    → (counts ≡ true → (k : ℕ) → get_or (take got h.ahead) k 0 < 256)
    → Brings old new before after got
brings h old new n got place before after counts same ready few some at given can counted kept small =
    let yes : counts ≡ true = can some (less_ready h n got ready few) at in
    let taken : new ≡ delivered h.arrived place (take got h.ahead) = subst (λ b. MatchBool b (new ≡ delivered h.arrived place (take got h.ahead)) (new ≡ h.arrived)) yes counted in
    record {
      octets = take got h.ahead;
      len = length-take-le got h.ahead (omega (arith, ready.stand, few));
      given = given;
      taken = taken ∙ ap (λ p. delivered h.arrived p (take got h.ahead)) at ∙ ap (λ (a : Arrived). delivered a (end_of a) (take got h.ahead)) same;
      kept = sym (ap (λ (a : Arrived). delivery a (end_of a) got) same) ∙ sym (ap (λ p. delivery h.arrived p got) at) ∙ kept yes;
      near = subst (λ (a : Arrived). end_of a ≤ a.floor + window) same (omega (arith, ready.near));
      small = small yes;
    }

-- what is told of frames goes on
pub tracked_in_place : (s : Coming) (now after : Arrived) (place n : ℕ) (u : Unsearched) (before rest : Option (List ℕ)) → IsTracked s → now ≡ s.arrived → place ≡ end_of now → Brings now after before rest n
    → u ≡ with_octets s.unsearched (place - s.base) (place + n - s.base) → IsTracked (record s { arrived = after; unsearched = u })
tracked_in_place s now after place n u before rest t same at b told =
    let kept : delivery s.arrived place (length b.octets) ≡ Kept = (λ i. delivery (sym same i) (at i) (b.len i)) ∙ b.kept in
    let there : delivered s.arrived place b.octets ≡ after = (λ i. delivered (sym same i) (at i) b.octets) ∙ sym b.taken in
    let d = delivery_keeps (scene_in s) s.unsearched place b.octets t.keeps t.tells kept b.small in
    record {
      keeps = subst (λ (a : Arrived). Keeps (scene_of s.layout s.base a s.early)) there d.0;
      tells = subst (λ (x : Unsearched). Tells (scene_of s.layout s.base after s.early) x) (ap (λ k. with_octets s.unsearched (place - s.base) (place + k - s.base)) b.len ∙ sym told)
          (subst (λ (a : Arrived). Tells (scene_of s.layout s.base a s.early) (with_octets s.unsearched (place - s.base) (place + length b.octets - s.base))) there d.1);
    }

-- ---- what stood there is counted
pub counted_in_place : (h : Held) (new : Arrived) (n place : ℕ) (counts : Bool) → 0 < n → place ≡ end_of h.arrived → place ≤ h.arrived.floor + window
    → MatchBool counts (new ≡ delivered h.arrived place (take n h.ahead)) (new ≡ h.arrived)
    → (counts ≡ true → delivery h.arrived place n ≡ Kept)
    → (counts ≡ true → n ≤ length h.ahead)
    → (counts ≡ true → (k : ℕ) → slice_index (take n h.ahead) k < 256)
    → MatchBool counts ((0 < n) × Brings h.arrived new None None n) (new ≡ h.arrived)
counted_in_place h new n place false some at near counted kept stood small = counted
counted_in_place h new n place true some at near counted kept stood small = (
  some,
  record {
    octets = take n h.ahead;
    len = length-take-le n h.ahead (stood refl);
    given = tt;
    taken = counted ∙ ap (λ p. delivered h.arrived p (take n h.ahead)) at;
    kept = sym (ap (λ p. delivery h.arrived p n) at) ∙ kept refl;
    near = subst (λ p. p ≤ h.arrived.floor + window) at near;
    small = small refl;
  },
)
