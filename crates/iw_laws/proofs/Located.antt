-- The frames that came, with their places.
use Rattle.std.proofs.Common.{◌≡◌, zero, suc, ℕ, ◌+◌, ◌-◌, ◌<◌, ◌≤◌, List, [], ◌∷◌, ◌++◌, map, length, Option, Some, None, refl, sym, ap, ◌∙◌, arith}
use Rattle.std.specs.Option.{option_map_or}
use Rattle.std.proofs.lemmas.Option.{none-some}
use Rattle.iw_fpdu.specs.declared.layout.Layout.{Layout}
use Rattle.iw_fpdu.specs.Sequence.{Carried, first_frame, frames_within, frames_of}
use Rattle.iw_fpdu.specs.Laws.{IsBetween}
use Rattle.iw_fpdu.proofs.Sequences.{first_takes}
use Rattle.iw_stream.proofs.Fronts.{carried_by}
use Rattle.iw_laws.specs.Turns.{Located, located, located_within, located_of, past_last}

-- without their places they are the frames of the octets
abbrev pub frames_at : List Located → List Carried
frames_at fs = map (λ (f : Located). carried_by f.frame) fs

within_are : (n : ℕ) (layout : Layout) (at : ℕ) (x : List ℕ) → frames_at (located_within n layout at x) ≡ frames_within n layout at x
unfolding located_within frames_within
within_are zero layout at x = refl
within_are (suc n) layout at x = go (within_are n layout) (first_frame layout at x)
  where
    go : ((at : ℕ) (y : List ℕ) → frames_at (located_within n layout at y) ≡ frames_within n layout at y) → (o : Option (Carried × List ℕ))
        → frames_at (option_map_or (λ (first : Carried × List ℕ). located layout at x first.0 first.1 ∷ located_within n layout (at + (length x - length first.1)) first.1) o [])
        ≡ option_map_or (λ (first : Carried × List ℕ). first.0 ∷ frames_within n layout (at + (length x - length first.1)) first.1) o []
    go same None = refl
    go same (Some first) = ap (λ z. first.0 ∷ z) (same (at + (length x - length first.1)) first.1)

pub located_are : (layout : Layout) (at : ℕ) (x : List ℕ) → frames_at (located_of layout at x) ≡ frames_of layout at x
located_are layout at x = within_are (length x) layout at x

abbrev others : ℕ → Layout → ℕ → List ℕ → Option (Carried × List ℕ) → List Located
others n layout at octets o = option_map_or (λ (first : Carried × List ℕ). located layout at octets first.0 first.1 ∷ located_within n layout (at + (length octets - length first.1)) first.1) o []

pub none_first : (layout : Layout) (at : ℕ) (x : List ℕ) → IsBetween layout.markers at → length x ≡ 0 → first_frame layout at x ≡ None
none_first layout at x b h = go (first_frame layout at x) refl
  where
    go : (o : Option (Carried × List ℕ)) → first_frame layout at x ≡ o → o ≡ None
    go None e = refl
    go (Some first) e = absurd (none_left (length first.1) (omega (arith, h, (first_takes layout at x first.0 first.1 b e).shorter)))
      where
        none_left : (n : ℕ) → n < 0 → ⊥
        none_left n lt = omega (arith, lt)

-- with enough turns it does not matter how many
enough : (n k : ℕ) (layout : Layout) (at : ℕ) (x : List ℕ) → IsBetween layout.markers at → length x ≤ n → length x ≤ k → located_within n layout at x ≡ located_within k layout at x
unfolding located_within
enough zero zero layout at x b h j = refl
enough zero (suc k) layout at x b h j = ap (others k layout at x) (sym (none_first layout at x b (omega (arith, h))))
enough (suc n) zero layout at x b h j = ap (others n layout at x) (none_first layout at x b (omega (arith, j)))
enough (suc n) (suc k) layout at x b h j = go (enough n k) (first_frame layout at x) refl
  where
    go : ((layout : Layout) (at : ℕ) (y : List ℕ) → IsBetween layout.markers at → length y ≤ n → length y ≤ k → located_within n layout at y ≡ located_within k layout at y)
        → (o : Option (Carried × List ℕ)) → first_frame layout at x ≡ o → others n layout at x o ≡ others k layout at x o
    go same None e = refl
    go same (Some first) e =
        let t = first_takes layout at x first.0 first.1 b e in
        ap (λ z. located layout at x first.0 first.1 ∷ z) (same layout (at + (length x - length first.1)) first.1 t.next (omega (arith, h, t.shorter)) (omega (arith, j, t.shorter)))

-- the frames of octets with a whole one at the front
pub located_first : (layout : Layout) (at : ℕ) (x : List ℕ) (carried : Carried) (rest : List ℕ) → IsBetween layout.markers at → first_frame layout at x ≡ Some (carried, rest)
    → located_of layout at x ≡ located layout at x carried rest ∷ located_of layout (at + (length x - length rest)) rest
unfolding located_within
located_first layout at [] carried rest b e = absurd (none-some _ (sym (none_first layout at [] b refl) ∙ e))
located_first layout at (y ∷ ys) carried rest b e =
    let t = first_takes layout at (y ∷ ys) carried rest b e in
    ap (others (length ys) layout at (y ∷ ys)) e ∙ ap (λ z. located layout at (y ∷ ys) carried rest ∷ z) (enough (length ys) (length rest) layout (at + (length (y ∷ ys) - length rest)) rest t.next (omega (arith, t.shorter)) (omega arith))

pub located_none : (layout : Layout) (at : ℕ) (x : List ℕ) → first_frame layout at x ≡ None → located_of layout at x ≡ []
unfolding located_within
located_none layout at [] e = refl
located_none layout at (y ∷ ys) e = ap (others (length ys) layout at (y ∷ ys)) e

pub past_last-push : (at : ℕ) (fs : List Located) (f : Located) → past_last at (fs ++ f ∷ []) ≡ f.beyond
past_last-push at [] f = refl
past_last-push at (x ∷ xs) f = past_last-push x.beyond xs f
