-- Pieces pushed one after another leave what their octets at once would leave.
use Rattle.std.proofs.Common.{◌≡◌, ℕ, ◌+◌, ◌-◌, List, [], ◌∷◌, ◌++◌, length, take, min, ap, sym, ◌∙◌, arith, inl, inr, length-append, append_assoc}
use Rattle.std.specs.List.{concat}
use Rattle.std.proofs.lemmas.Bool.{cases_lt}
use Rattle.std.proofs.lemmas.List.{append-nil, length-take, take_all}
use Rattle.iw_startup.specs.Laws.{pushed_all, used_all, SameAtOnce, AnswersStay}
use Rattle.iw_startup.specs.Peer.{frame_end, frame_part}
use Rattle.iw_startup.specs.State.{StartupState, IsReached, pushed, used}
use Rattle.iw_startup.proofs.Pieces.{frame_part-append, frame_part-frame_part}
use Rattle.iw_startup.proofs.Reached.{progress_of-short, pushed-whole, reached-pushed}

pub pushed-pushed : (s : StartupState) (xs ys : List ℕ) → pushed (pushed s xs) ys ≡ pushed s (xs ++ ys)
unfolding pushed
pushed-pushed s xs ys =
    ap (λ (octets : List ℕ). record s { octets = octets })
    (frame_part-frame_part s.config.establishment s.side (s.octets ++ xs) ys ∙ ap (frame_part s.config.establishment s.side) (append_assoc s.octets xs ys))

pub pushed-nothing : (s : StartupState) → IsReached s → pushed s [] ≡ s
unfolding pushed frame_part
pushed-nothing s h =
    ap (λ (octets : List ℕ). record s { octets = octets })
    (ap (frame_part s.config.establishment s.side) (append-nil s.octets) ∙ take_all (frame_end s.config.establishment s.side s.octets) s.octets h.within)

-- the octets that are used are those that are taken
pub used-length : (s : StartupState) (xs : List ℕ) → IsReached s → length s.octets + used s xs ≡ length (pushed s xs).octets
unfolding used pushed
used-length s xs h =
    let n : ℕ = min (frame_end s.config.establishment s.side (s.octets ++ xs) - length s.octets) (length xs) in
    sym (ap length (frame_part-append s.config.establishment s.side s.octets xs h.within) ∙ length-append s.octets (take n xs) ∙ ap (λ (k : ℕ). length s.octets + k) (length-take n xs ∙ omega arith))

pub same_at_once : (s : StartupState) (pieces : List (List ℕ)) → IsReached s → SameAtOnce s pieces
unfolding pushed_all used_all
same_at_once s [] h = record {
  after = sym (pushed-nothing s h);
  used = omega (arith, used-length s [] h, ap (λ (t : StartupState). length t.octets) (pushed-nothing s h));
}
same_at_once s (piece ∷ pieces) h =
    let next : IsReached (pushed s piece) = reached-pushed s piece h in
    let rest = same_at_once (pushed s piece) pieces next in
    record {
      after = rest.after ∙ pushed-pushed s piece (concat pieces);
      used = omega (
        arith,
        rest.used,
        used-length s piece h,
        used-length (pushed s piece) (concat pieces) next,
        used-length s (piece ++ concat pieces) h,
        ap (λ (t : StartupState). length t.octets) (pushed-pushed s piece (concat pieces)),
      );
    }

pub answers_stay : AnswersStay
answers_stay s octets h answered =
    elim (cases_lt (length s.octets) (frame_end s.config.establishment s.side s.octets)) as (λ _. (used s octets ≡ 0) × (pushed s octets ≡ s)) [
      | inl less ↦ absurd (answered (progress_of-short s.config.establishment s.side s.octets less))
      | inr enough ↦
          let same : pushed s octets ≡ s = pushed-whole s octets h enough in
          (omega (arith, used-length s octets h, ap (λ (t : StartupState). length t.octets) same), same)
    ]
