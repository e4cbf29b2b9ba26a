-- Streams by number, each in a place of its own.
use Rattle.std.proofs.Common.{◌≡◌, ◌≢◌, ℕ, zero, suc, ◌+◌, ◌<◌, ◌≤◌, ◌^◌, ◌⊎◌, List, [], ◌∷◌, ◌++◌, length, map, set, get_or, replicate, Option, Some, None, refl, sym, ap, subst, ◌∙◌, inl, inr, arith}
use Rattle.std.specs.Prelude.{IsSome, max, is_some, nat_lt, if◌then◌else◌}
use Rattle.slab.specs.Slab as slab
use Rattle.slab.specs.Slab.{Slab}
use Rattle.std.specs.List.{range_with_len}
use Rattle.std.specs.Option.{option_and_then}
use Rattle.std.proofs.lemmas.Bool.{cases_lt, cases_eq, cond_below, cond_above, false≢true}
use Rattle.std.proofs.lemmas.Option.{option_and_then_some, none-some, same_Some}
use Rattle.std.proofs.lemmas.List.{get_or_past, get_or-set_same, get_or-set_other, length-replicate, length-set, set-get_or}
use Rattle.std.proofs.lemmas.List.FromFn.{length-map-range_with_len, get_or-map-range_with_len, map-range_with_len_more, fill_by_all}
use Rattle.iw_endpoint.specs.Inside.{found, listed, Keeps, Changes, Stays, IsLaid}
use Rattle.iw_endpoint.specs.Numbers.{put_at}
use Rattle.iw_endpoint.proofs.Filled.{put_last, put_within}

module _ {X : Type 0} where
  abbrev numbers : (ℕ → Option X) → ℕ → List (Option X)
  numbers f n = map f (range_with_len 0 n)

  size : (f : ℕ → Option X) (n : ℕ) → length (numbers f n) ≡ n
  size f n = length-map-range_with_len f 0 n

  pub at_number : (f : ℕ → Option X) (n k : ℕ) → ((y : X) → f k ≡ Some y → k < n) → get_or (numbers f n) k None ≡ f k
  at_number f n k below = elim (cases_lt k n) [
    | inl within ↦ get_or-map-range_with_len f 0 n k k None within (omega arith)
    | inr past ↦ get_or_past (numbers f n) k None (subst (λ m. m ≤ k) (sym (size f n)) past) ∙ nothing past (f k) refl
  ]
    where
      nothing : n ≤ k → (o : Option X) → f k ≡ o → None ≡ o
      nothing past None e = refl
      nothing past (Some y) e = absurd (let h : k < n = below y e in let no : ⊥ = omega arith in no)

  set_number : (f g : ℕ → Option X) (n k : ℕ) (o : Option X) → k < n → g k ≡ o → ((m : ℕ) → m ≢ k → g m ≡ f m) → numbers g n ≡ set (numbers f n) k o
  set_number f g n k o within here others =
      sym (fill_by_all g (set (numbers f n) k o) n None (length-set (numbers f n) k o ∙ size f n) (λ j below. go j below (cases_eq j k)))
    where
      go : (j : ℕ) → j < n → (j ≡ k) ⊎ (j ≢ k) → get_or (set (numbers f n) k o) j None ≡ g j
      go j below (inl same) =
          ap (λ i. get_or (set (numbers f n) k o) i None) same
          ∙ get_or-set_same (numbers f n) k o None (subst (λ m. k < m) (sym (size f n)) within)
          ∙ sym here ∙ ap g (sym same)
      go j below (inr ne) = get_or-set_other (numbers f n) k j o None ne ∙ get_or-map-range_with_len f 0 n j j None below (omega arith) ∙ sym (others j ne)

  push_number : (f g : ℕ → Option X) (n : ℕ) (o : Option X) → g n ≡ o → ((m : ℕ) → m ≢ n → g m ≡ f m) → numbers g (n + 1) ≡ numbers f n ++ o ∷ []
  push_number f g n o here others = map-range_with_len_more g 0 n n (omega arith) ∙ (λ i. same i ++ here i ∷ [])
    where
      same : numbers g n ≡ numbers f n
      same = sym (fill_by_all g (numbers f n) n None (size f n) (λ j below.
          get_or-map-range_with_len f 0 n j j None below (omega arith) ∙ sym (others j (λ e. let no : ⊥ = omega arith in no))))

  -- ---- where they lie

  pub found_below : (keys : ℕ → Option ℕ) (places : ℕ → Option X) (next : ℕ) → Keeps keys places next → (n : ℕ) (y : X) → found keys places n ≡ Some y → n < next
  found_below keys places next keeps n y e = option_and_then_some places (keys n) y e (λ k is at. keeps.below n k is)

  pub at_listed : (keys : ℕ → Option ℕ) (places : ℕ → Option X) (next : ℕ) → Keeps keys places next → (n : ℕ) → get_or (listed keys places next) n None ≡ found keys places n
  at_listed keys places next keeps n = at_number (found keys places) next n (found_below keys places next keeps n)

  found_at : (keys : ℕ → Option ℕ) (places : ℕ → Option X) (n k : ℕ) → keys n ≡ Some k → found keys places n ≡ places k
  found_at keys places n k is = ap (option_and_then places) is

  -- nothing is found where no place is given
  found_none : (keys : ℕ → Option ℕ) (places : ℕ → Option X) (n : ℕ) → keys n ≡ None → found keys places n ≡ None
  found_none keys places n is = ap (option_and_then places) is

  -- if neither the number's place nor what lies there changes, the same is found
  same_found : (keys new_keys : ℕ → Option ℕ) (places new_places : ℕ → Option X) (n : ℕ) → new_keys n ≡ keys n → ((k : ℕ) → keys n ≡ Some k → new_places k ≡ places k) → found new_keys new_places n ≡ found keys places n
  same_found keys new_keys places new_places n is stays = ap (option_and_then new_places) is ∙ go (keys n) refl
    where
      go : (o : Option ℕ) → keys n ≡ o → option_and_then new_places o ≡ option_and_then places o
      go None e = refl
      go (Some k) e = stays k e

  pub listed_stays : (keys new_keys : ℕ → Option ℕ) (places new_places : ℕ → Option X) (next : ℕ) → Stays keys new_keys → Stays places new_places → listed new_keys new_places next ≡ listed keys places next
  listed_stays keys new_keys places new_places next k p = ap (λ f. numbers f next) (λ i n. same_found keys new_keys places new_places n (k n) (λ j e. p j) i)

  pub keeps_stays : (keys new_keys : ℕ → Option ℕ) (places new_places : ℕ → Option X) (next : ℕ) → Stays keys new_keys → Stays places new_places → Keeps keys places next → Keeps new_keys new_places next
  keeps_stays keys new_keys places new_places next ks ps keeps = record {
    least = keeps.least;
    most = keeps.most;
    below = λ n k is. keeps.below n k (sym (ks n) ∙ is);
    there = λ n k is. subst (λ o. IsSome o) (sym (ps k)) (keeps.there n k (sym (ks n) ∙ is));
    apart = λ n m k a b. keeps.apart n m k (sym (ks n) ∙ a) (sym (ks m) ∙ b);
    owned = λ k there. let owner = keeps.owned k (subst (λ o. IsSome o) (ps k) there) in (owner.0, ks owner.0 ∙ owner.1);
  }

  -- one more was put under a number
  module _ (keys new_keys : ℕ → Option ℕ) (places new_places : ℕ → Option X) (next n k : ℕ) (x : X) (keeps : Keeps keys places next)
      (kept : Changes keys new_keys n (Some k)) (put : Changes places new_places k (Some x)) (vacant : places k ≡ None) (free : keys n ≡ None) where
    elsewhere : (m j : ℕ) → keys m ≡ Some j → j ≢ k
    elsewhere m j is same = absurd (go (places k) vacant (subst (λ i. IsSome (places i)) same (keeps.there m j is)))
      where
        go : (o : Option X) → o ≡ None → IsSome o → ⊥
        go None e there = absurd (false≢true there)
        go (Some y) e there = none-some y (sym e)

    put_here : found new_keys new_places n ≡ Some x
    put_here = found_at new_keys new_places n k kept.changed ∙ put.changed

    put_others : (m : ℕ) → m ≢ n → found new_keys new_places m ≡ found keys places m
    put_others m ne = same_found keys new_keys places new_places m (kept.others m ne) (λ j is. put.others j (elsewhere m j is))

    pub listed_put : n < next → listed new_keys new_places next ≡ set (listed keys places next) n (Some x)
    listed_put within = set_number (found keys places) (found new_keys new_places) next n (Some x) within put_here put_others

    pub listed_push : n ≡ next → listed new_keys new_places (next + 1) ≡ listed keys places next ++ Some x ∷ []
    listed_push is = push_number (found keys places) (found new_keys new_places) next (Some x) (ap (found new_keys new_places) (sym is) ∙ put_here) (λ m ne. put_others m (λ e. ne (e ∙ is)))

    pub keeps_put : (later : ℕ) → n < later → next ≤ later → later ≤ 2 ^ 32 → Keeps new_keys new_places later
    keeps_put later within more most = record {
      least = (let a = keeps.least in omega (arith, a, more));
      most = most;
      below = λ m j is. below m j is (cases_eq m n);
      there = λ m j is. there m j is (cases_eq m n);
      apart = λ a b j at_a at_b. apart a b j at_a at_b (cases_eq a n) (cases_eq b n);
      owned = λ j there. owned j there (cases_eq j k);
    }
      where
        owned : (j : ℕ) → IsSome (new_places j) → (j ≡ k) ⊎ (j ≢ k) → (m : ℕ) × (new_keys m ≡ Some j)
        owned j there (inl same) = (n, kept.changed ∙ ap Some (sym same))
        owned j there (inr ne) =
            let owner = keeps.owned j (subst (λ o. IsSome o) (put.others j ne) there) in
            (owner.0, kept.others owner.0 (λ same. none-some j (sym free ∙ ap keys (sym same) ∙ owner.1)) ∙ owner.1)

        was : (m j : ℕ) → m ≢ n → new_keys m ≡ Some j → keys m ≡ Some j
        was m j ne is = sym (kept.others m ne) ∙ is

        here : (m j : ℕ) → m ≡ n → new_keys m ≡ Some j → j ≡ k
        here m j same is = same_Some j k (sym is ∙ ap new_keys same ∙ kept.changed)

        below : (m j : ℕ) → new_keys m ≡ Some j → (m ≡ n) ⊎ (m ≢ n) → m < later
        below m j is (inl same) = subst (λ i. i < later) (sym same) within
        below m j is (inr ne) = let h : m < next = keeps.below m j (was m j ne is) in omega arith

        there : (m j : ℕ) → new_keys m ≡ Some j → (m ≡ n) ⊎ (m ≢ n) → IsSome (new_places j)
        there m j is (inl same) = subst (λ i. IsSome (new_places i)) (sym (here m j same is)) (subst (λ o. IsSome o) (sym put.changed) refl)
        there m j is (inr ne) = let old = was m j ne is in subst (λ o. IsSome o) (sym (put.others j (elsewhere m j old))) (keeps.there m j old)

        apart : (a b j : ℕ) → new_keys a ≡ Some j → new_keys b ≡ Some j → (a ≡ n) ⊎ (a ≢ n) → (b ≡ n) ⊎ (b ≢ n) → a ≡ b
        apart a b j at_a at_b (inl x) (inl y) = x ∙ sym y
        apart a b j at_a at_b (inl x) (inr y) = absurd (elsewhere b j (was b j y at_b) (here a j x at_a))
        apart a b j at_a at_b (inr x) (inl y) = absurd (elsewhere a j (was a j x at_a) (here b j y at_b))
        apart a b j at_a at_b (inr x) (inr y) = keeps.apart a b j (was a j x at_a) (was b j y at_b)

  -- what lies at a number's place was written
  module _ (keys : ℕ → Option ℕ) (places new_places : ℕ → Option X) (next n k : ℕ) (x : X) (keeps : Keeps keys places next)
      (is : keys n ≡ Some k) (put : Changes places new_places k (Some x)) where
    pub listed_written : listed keys new_places next ≡ set (listed keys places next) n (Some x)
    listed_written = set_number (found keys places) (found keys new_places) next n (Some x) (keeps.below n k is)
        (found_at keys new_places n k is ∙ put.changed)
        (λ m ne. same_found keys keys places new_places m refl (λ j at. put.others j (λ e. ne (keeps.apart m n k (at ∙ ap Some e) is))))

    pub keeps_written : Keeps keys new_places next
    keeps_written = record {
      least = keeps.least;
      most = keeps.most;
      below = keeps.below;
      there = λ m j at. there m j at (cases_eq j k);
      apart = keeps.apart;
      owned = λ j there. owned j there (cases_eq j k);
    }
      where
        owned : (j : ℕ) → IsSome (new_places j) → (j ≡ k) ⊎ (j ≢ k) → (m : ℕ) × (keys m ≡ Some j)
        owned j there (inl same) = (n, is ∙ ap Some (sym same))
        owned j there (inr ne) = keeps.owned j (subst (λ o. IsSome o) (put.others j ne) there)

        there : (m j : ℕ) → keys m ≡ Some j → (j ≡ k) ⊎ (j ≢ k) → IsSome (new_places j)
        there m j at (inl same) = subst (λ i. IsSome (new_places i)) (sym same) (subst (λ o. IsSome o) (sym put.changed) refl)
        there m j at (inr ne) = subst (λ o. IsSome o) (sym (put.others j ne)) (keeps.there m j at)

  -- what lay at a number's place was taken out
  module _ (keys new_keys : ℕ → Option ℕ) (places new_places : ℕ → Option X) (next n k : ℕ) (keeps : Keeps keys places next)
      (is : keys n ≡ Some k) (gone : Changes keys new_keys n None) (others : (j : ℕ) → j ≢ k → new_places j ≡ places j) where
    elsewhere_still : (m j : ℕ) → m ≢ n → keys m ≡ Some j → j ≢ k
    elsewhere_still m j ne at same = ne (keeps.apart m n k (at ∙ ap Some same) is)

    pub listed_removed : listed new_keys new_places next ≡ set (listed keys places next) n None
    listed_removed = set_number (found keys places) (found new_keys new_places) next n None (keeps.below n k is)
        (found_none new_keys new_places n gone.changed)
        (λ m ne. same_found keys new_keys places new_places m (gone.others m ne) (λ j at. others j (elsewhere_still m j ne at)))

    pub keeps_removed : new_places k ≡ None → Keeps new_keys new_places next
    keeps_removed empty = record {
      least = keeps.least;
      most = keeps.most;
      below = λ m j at. below m j at (cases_eq m n);
      there = λ m j at. there m j at (cases_eq m n);
      apart = λ a b j at_a at_b. apart a b j at_a at_b (cases_eq a n) (cases_eq b n);
      owned = λ j there. owned j there (cases_eq j k);
    }
      where
        owned : (j : ℕ) → IsSome (new_places j) → (j ≡ k) ⊎ (j ≢ k) → (m : ℕ) × (new_keys m ≡ Some j)
        owned j there (inl same) = absurd (false≢true (ap is_some (sym empty ∙ ap new_places (sym same)) ∙ there))
        owned j there (inr ne) =
            let owner = keeps.owned j (subst (λ o. IsSome o) (others j ne) there) in
            (owner.0, gone.others owner.0 (λ same. ne (same_Some j k (sym owner.1 ∙ ap keys same ∙ is))) ∙ owner.1)

        none_here : (m j : ℕ) → m ≡ n → new_keys m ≡ Some j → ⊥
        none_here m j same at = none-some j (sym gone.changed ∙ ap new_keys (sym same) ∙ at)

        was : (m j : ℕ) → m ≢ n → new_keys m ≡ Some j → keys m ≡ Some j
        was m j ne at = sym (gone.others m ne) ∙ at

        below : (m j : ℕ) → new_keys m ≡ Some j → (m ≡ n) ⊎ (m ≢ n) → m < next
        below m j at (inl same) = absurd (none_here m j same at)
        below m j at (inr ne) = keeps.below m j (was m j ne at)

        there : (m j : ℕ) → new_keys m ≡ Some j → (m ≡ n) ⊎ (m ≢ n) → IsSome (new_places j)
        there m j at (inl same) = absurd (none_here m j same at)
        there m j at (inr ne) = let old = was m j ne at in subst (λ o. IsSome o) (sym (others j (elsewhere_still m j ne old))) (keeps.there m j old)

        apart : (a b j : ℕ) → new_keys a ≡ Some j → new_keys b ≡ Some j → (a ≡ n) ⊎ (a ≢ n) → (b ≡ n) ⊎ (b ≢ n) → a ≡ b
        apart a b j at_a at_b (inl x) y = absurd (none_here a j x at_a)
        apart a b j at_a at_b (inr x) (inl y) = absurd (none_here b j y at_b)
        apart a b j at_a at_b (inr x) (inr y) = keeps.apart a b j (was a j x at_a) (was b j y at_b)

  -- nothing lay there
  pub nothing_removed : (keys : ℕ → Option ℕ) (places : ℕ → Option X) (next n : ℕ) → Keeps keys places next → keys n ≡ None → listed keys places next ≡ set (listed keys places next) n None
  nothing_removed keys places next n keeps is =
      sym (ap (set (listed keys places next) n) (sym (at_listed keys places next keeps n ∙ found_none keys places n is)) ∙ set-get_or (listed keys places next) n None)

  -- ---- what the calls need

  pub next_within : (xs : List (Option X)) (n : ℕ) → length xs ≡ n → n < 2 ^ 32 → Some n ≡ (if nat_lt (length xs) (2 ^ 32) then Some (length xs) else None)
  next_within xs n size below = ap Some (sym size) ∙ cond_below (length xs) (2 ^ 32) (Some (length xs)) None (subst (λ m. m < 2 ^ 32) (sym size) below)

  pub next_past : (xs : List (Option X)) (n : ℕ) → length xs ≡ n → 2 ^ 32 ≤ n → None ≡ (if nat_lt (length xs) (2 ^ 32) then Some (length xs) else None)
  next_past xs n size past = cond_above (length xs) (2 ^ 32) (Some (length xs)) None None (subst (λ m. 2 ^ 32 ≤ m) (sym size) past) refl

  pub size_listed : (keys : ℕ → Option ℕ) (places : ℕ → Option X) (next : ℕ) (xs : List (Option X)) → listed keys places next ≡ xs → length xs ≡ next
  size_listed keys places next xs is = ap length (sym is) ∙ size (found keys places) next

  pub not_there : (keys : ℕ → Option ℕ) (places : ℕ → Option X) (next n : ℕ) (xs : List (Option X)) → Keeps keys places next → listed keys places next ≡ xs → keys n ≡ None → None ≡ get_or xs n None
  not_there keys places next n xs keeps is none =
      sym (ap (λ ys. get_or ys n None) (sym is) ∙ at_listed keys places next keeps n ∙ found_none keys places n none)

  pub there_at : (keys : ℕ → Option ℕ) (places : ℕ → Option X) (next n k : ℕ) (xs : List (Option X)) → Keeps keys places next → listed keys places next ≡ xs → keys n ≡ Some k → places k ≡ get_or xs n None
  there_at keys places next n k xs keeps is at =
      sym (ap (λ ys. get_or ys n None) (sym is) ∙ at_listed keys places next keeps n ∙ found_at keys places n k at)

  -- one more was put under a number, or under the next
  module _ (keys new_keys : ℕ → Option ℕ) (places new_places : ℕ → Option X) (next n later : ℕ) (x : X) (xs : List (Option X)) (keeps : Keeps keys places next) (is : listed keys places next ≡ xs)
      (within : n ≤ length xs) (more : later ≡ max next (n + 1)) (none : get_or xs n None ≡ None) (laid : IsLaid keys new_keys places new_places n x) where
    free : keys n ≡ None
    free = go (keys n) refl
      where
        go : (o : Option ℕ) → keys n ≡ o → keys n ≡ None
        go None at = at
        go (Some k) at = absurd (false≢true (ap is_some (sym (there_at keys places next n k xs keeps is at ∙ none)) ∙ keeps.there n k at))

    size_is : length xs ≡ next
    size_is = size_listed keys places next xs is

    pub keeps_laid : n < 2 ^ 32 → Keeps new_keys new_places later
    keeps_laid below =
        let most = keeps.most in
        keeps_put keys new_keys places new_places next n laid.place x keeps laid.kept laid.put laid.vacant free later (omega (arith, more)) (omega (arith, more)) (omega (arith, more, most, below))

    pub listed_laid : listed new_keys new_places later ≡ put_at xs n x
    listed_laid = elim (cases_lt n next) [
      | inl below ↦
          (let same : later ≡ next = omega (arith, more) in
          ap (listed new_keys new_places) same
          ∙ listed_put keys new_keys places new_places next n laid.place x keeps laid.kept laid.put laid.vacant free below
          ∙ ap (λ ys. set ys n (Some x)) is
          ∙ sym (put_within xs n x (omega (arith, below, size_is))))
      | inr past ↦
          (let last : n ≡ length xs = omega (arith, within, past, size_is) in
          let same : later ≡ next + 1 = omega (arith, more, within, past, size_is) in
          ap (listed new_keys new_places) same
          ∙ listed_push keys new_keys places new_places next n laid.place x keeps laid.kept laid.put laid.vacant free (last ∙ size_is)
          ∙ ap (λ ys. ys ++ Some x ∷ []) is
          ∙ sym (put_last xs x)
          ∙ ap (λ m. put_at xs m x) (sym last))
    ]

  -- ---- a new one, and one that lends

  nothing_in : (k n : ℕ) → get_or (replicate {A = Option X} k None) n None ≡ None
  nothing_in zero zero = refl
  nothing_in zero (suc n) = refl
  nothing_in (suc k) zero = refl
  nothing_in (suc k) (suc n) = nothing_in k n

  pub listed_new : (keys : ℕ → Option ℕ) (places : ℕ → Option X) (next : ℕ) → ((n : ℕ) → keys n ≡ None) → listed keys places next ≡ replicate next None
  listed_new keys places next none =
      sym (fill_by_all (found keys places) (replicate next None) next None (length-replicate next None) (λ k below. nothing_in next k ∙ sym (found_none keys places k (none k))))

  pub keeps_new : (keys : ℕ → Option ℕ) (places : ℕ → Option X) (next : ℕ) → ((n : ℕ) → keys n ≡ None) → ((k : ℕ) → places k ≡ None) → 64 ≤ next → next ≤ 2 ^ 32 → Keeps keys places next
  keeps_new keys places next none empty least most = record {
    least = least;
    most = most;
    below = λ n k is. absurd (none-some k (sym (none n) ∙ is));
    there = λ n k is. absurd (none-some k (sym (none n) ∙ is));
    apart = λ n m k a b. absurd (none-some k (sym (none n) ∙ a));
    owned = λ k there. absurd (false≢true (ap is_some (sym (empty k)) ∙ there));
  }

  set_changes : (xs : List (Option X)) (k : ℕ) (x : X) → IsSome (get_or xs k None) → Changes (λ j. get_or xs j None) (λ j. get_or (set xs k (Some x)) j None) k (Some x)
  set_changes xs k x there = record { changed = go (cases_lt k (length xs)); others = λ m ne. get_or-set_other xs k m (Some x) None ne }
    where
      go : (k < length xs) ⊎ (length xs ≤ k) → get_or (set xs k (Some x)) k None ≡ Some x
      go (inl within) = get_or-set_same xs k (Some x) None within
      go (inr past) = absurd (false≢true (ap is_some (sym (get_or_past xs k None past)) ∙ there))

  module _ (keys : ℕ → Option ℕ) (places : Slab X) (next n k : ℕ) (xs : List (Option X)) (keeps : Keeps keys (slab.get places) next) (is : listed keys (slab.get places) next ≡ xs) (at : keys n ≡ Some k) where
    pub keeps_lent : (x : X) → Keeps keys (slab.get (slab.with_value places k x)) next
    keeps_lent x = keeps_written keys (slab.get places) (slab.get (slab.with_value places k x)) next n k x keeps at (set_changes places.slots k x (keeps.there n k at))

    pub lent : (x : X) → listed keys (slab.get (slab.with_value places k x)) next ≡ set xs n (Some x)
    lent x =
        listed_written keys (slab.get places) (slab.get (slab.with_value places k x)) next n k x keeps at (set_changes places.slots k x (keeps.there n k at))
        ∙ ap (λ ys. set ys n (Some x)) is
