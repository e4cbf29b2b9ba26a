-- One frame behind another.
use Rattle.std.proofs.Common.{◌≡◌, ◌≢◌, ℕ, ◌+◌, ◌-◌, ◌%◌, Bool, true, false, cond, eqb, refl, sym, ap, ◌∙◌, subst, arith, inl, inr}
use Rattle.std.proofs.lemmas.Bool.{cases_eq}
use Rattle.std.proofs.lemmas.Bool.Decides.{nat_tests}
use Rattle.iw_fpdu.specs.Places.{data_place, data_index, IsStart, frame_start, span_start}
use Rattle.iw_fpdu.specs.Frame.{pad_len, frame_size, frame_end}
use Rattle.iw_fpdu.specs.Laws.{IsBetween, FramesFollow}
use Rattle.iw_fpdu.proofs.Counted.{place_index, data_no_marker, no_in_marker, after_marker, edge_inside, edge_marker, aligned_edge, index_aligned}
use Rattle.iw_fpdu.proofs.Octets.{field_end}

pub ends : (m : Bool) (at len : ℕ) → frame_end m (frame_start m at) len ≡ frame_end m at len
ends m at len = after_marker m at (frame_size len) (omega arith)

place_aligned : (m : Bool) (k : ℕ) → k % 4 ≡ 0 → data_place m k % 4 ≡ 0
unfolding data_place
place_aligned true k h = omega arith
place_aligned false k h = h

pub starts : (m : Bool) (at : ℕ) → at % 4 ≡ 0 → IsStart m (frame_start m at)
starts m at h = record { aligned = place_aligned m (data_index m at) (index_aligned m at h); outside = data_no_marker m (data_index m at) }

pub begins : (m : Bool) (at : ℕ) → IsBetween m at → IsStart m (frame_start m at)
begins m at h = starts m at h.aligned

-- not directly behind a marker
between : (m : Bool) (at : ℕ) → at % 4 ≡ 0 → (m ≡ true → at % 512 ≢ 4) → IsBetween m at
unfolding span_start
between true at aligned h = record { aligned = aligned; span = go }
  where
    go : cond (eqb (frame_start true at % 512) 4) (frame_start true at - 4) (frame_start true at) ≡ at
    go =
        elim (cases_eq (at % 512) 0) [
          | inl z ↦
              let start : frame_start true at ≡ at + 4 = edge_marker at z in
              let near : eqb (frame_start true at % 512) 4 ≡ true = grind (arith, nat_tests, start) in
              ap (λ b. cond b (frame_start true at - 4) (frame_start true at)) near ∙ omega (arith, start)
          | inr other ↦
              let start : frame_start true at ≡ at = edge_inside at (aligned_edge true at aligned) (omega arith) in
              let far : eqb (frame_start true at % 512) 4 ≡ false = grind (arith, nat_tests, start, h refl) in
              ap (λ b. cond b (frame_start true at - 4) (frame_start true at)) far ∙ start
        ]
between false at aligned h = record { aligned = aligned; span = place_index false at (no_in_marker at) }

-- the place behind a field of four octets
past_field : (k : ℕ) → (data_place true k + 4) % 512 ≢ 4
unfolding data_place
past_field k h = omega arith

pub frames_follow : FramesFollow
frames_follow = record {
  first = λ m. between m 0 refl (λ t h. omega arith);
  next = λ m start len s.
      let i = data_index m start + (2 + len + pad_len len) in
      let end : frame_end m start len ≡ data_place m i + 4 = field_end m start len s in
      let aligned : data_place m i % 4 ≡ 0 = place_aligned m i (omega (arith, index_aligned m start s.aligned)) in
      between m (frame_end m start len) (omega (arith, end, aligned)) (λ t h. past_field i (subst (λ x. (data_place x i + 4) % 512 ≡ 4) t (sym (ap (λ p. p % 512) end) ∙ h)));
  begins = begins;
  ends = ends;
}
