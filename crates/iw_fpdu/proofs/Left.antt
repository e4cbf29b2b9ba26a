-- The octets of a ULPDU that are left, run by run.
use Rattle.std.proofs.Common.{◌≡◌, ℕ, ◌+◌, ◌-◌, ◌*◌, ◌/◌, ◌%◌, ◌<◌, ◌≤◌, Bool, true, false, cond, List, ◌++◌, map, take, drop, length, sym, ap, ◌∙◌, arith, inl, inr}
use Rattle.std.proofs.lemmas.Bool.{cases_lt}
use Rattle.std.proofs.lemmas.Bool.Decides.{nat_tests}
use Rattle.std.proofs.lemmas.List.{map-append, get_or-drop}
use Rattle.std.proofs.lemmas.List.FromFn.{length-map-range_with_len}
use Rattle.std.specs.Prelude.{nat_lt, slice_index}
use Rattle.std.specs.List.{range_with_len}
use Rattle.iw_fpdu.specs.Places.{data_place, data_index}
use Rattle.iw_fpdu.specs.Laying.{IsRun}
use Rattle.iw_fpdu.specs.PiecesOctet.{octet_from}
use Rattle.iw_fpdu.specs.PiecesView.{rest_place}
use Rattle.iw_fpdu.specs.Reading.{data_at}
use Rattle.iw_fpdu.proofs.Counted.{run_place, place_index}
use Rattle.iw_fpdu.proofs.Laid.{range_append}
use Rattle.iw_fpdu.proofs.Octets.{map_shift, cut_at}

pub within_run : (run k : ℕ) → k < run → rest_place run k ≡ k
unfolding rest_place
within_run run k lt = let t : nat_lt k run ≡ true = grind (arith, nat_tests) in ap (λ b. cond b k (k + 4 * ((k - run) / 508 + 1))) t

pub past_run : (run k : ℕ) → run ≤ k → rest_place run k ≡ k + 4 * ((k - run) / 508 + 1)
unfolding rest_place
past_run run k le = let t : nat_lt k run ≡ false = grind (arith, nat_tests) in ap (λ b. cond b k (k + 4 * ((k - run) / 508 + 1))) t

-- behind the run a marker stands, and behind that another run
pub next_run : (run k : ℕ) → rest_place run (run + k) ≡ run + 4 + rest_place 508 k
next_run run k =
    past_run run (run + k) (omega arith) ∙ elim (cases_lt k 508) [
      | inl near ↦ omega (arith, within_run 508 k near)
      | inr far ↦ omega (arith, past_run 508 k (omega arith))
    ]

-- n octets that are left
abbrev pub left_in : List ℕ → ℕ → ℕ → List ℕ
left_in rest run n = map (λ k. slice_index rest (rest_place run k)) (range_with_len 0 n)

-- no marker stands among them
pub left_all : (rest : List ℕ) (run n : ℕ) → n ≤ run → n ≤ length rest → left_in rest run n ≡ take n rest
left_all rest run n short fits =
    map_shift (λ k. slice_index rest (rest_place run k)) (octet_from 0 rest) 0 0 n (λ j lt. ap (slice_index rest) (omega (arith, within_run run (0 + j) (omega arith))))
    ∙ ap (λ k. map (octet_from 0 rest) (range_with_len 0 k)) (let e : n ≡ 0 + n - 0 = omega arith in e)
    ∙ cut_at 0 rest 0 n (omega arith) (omega arith)

-- one does: the run before it, and what is left behind it
pub left_past : (rest : List ℕ) (run n : ℕ) → run ≤ n → run ≤ length rest → left_in rest run n ≡ take run rest ++ left_in (drop 4 (drop run rest)) 508 (n - run)
left_past rest run n fits within =
    ap (map octet) (range_append 0 run (n - run) run n (omega arith) (omega arith))
    ∙ map-append octet (range_with_len 0 run) (range_with_len run (n - run))
    ∙ ap (λ xs. xs ++ map octet (range_with_len run (n - run))) (left_all rest run run (omega arith) within)
    ∙ ap (λ xs. take run rest ++ xs)
    (map_shift octet (λ k. slice_index (drop 4 (drop run rest)) (rest_place 508 k)) run 0 (n - run) (λ j lt.
    ap (slice_index rest) (omega (arith, next_run run j))
    ∙ sym (get_or-drop 4 (drop run rest) (rest_place 508 (0 + j)) 0 ∙ get_or-drop run rest (4 + rest_place 508 (0 + j)) 0
    ∙ ap (slice_index rest) (let e : run + (4 + rest_place 508 (0 + j)) ≡ run + 4 + rest_place 508 j = omega (arith, ap (rest_place 508) (let z : 0 + j ≡ j = omega arith in z)) in e))))
  where
    octet : ℕ → ℕ
    octet = λ k. slice_index rest (rest_place run k)

pub shifted_run : (run k j : ℕ) → k ≤ run → rest_place run (k + j) ≡ k + rest_place (run - k) j
shifted_run run k j le =
    elim (cases_lt j (run - k)) [
      | inl near ↦ omega (arith, within_run run (k + j) (omega arith), within_run (run - k) j near)
      | inr far ↦
          let same : k + j - run ≡ j - (run - k) = omega arith in
          omega (arith, past_run run (k + j) (omega arith), past_run (run - k) j (omega arith), ap (λ x. x / 508) same)
    ]

-- the first octets of the run, and what is left past them
pub left_front : (rest : List ℕ) (run n k : ℕ) → k ≤ run → k ≤ n → k ≤ length rest → left_in rest run n ≡ take k rest ++ left_in (drop k rest) (run - k) (n - k)
left_front rest run n k le few within =
    ap (map octet) (range_append 0 k (n - k) k n (omega arith) (omega arith))
    ∙ map-append octet (range_with_len 0 k) (range_with_len k (n - k))
    ∙ ap (λ xs. xs ++ map octet (range_with_len k (n - k))) (left_all rest run k le within)
    ∙ ap (λ xs. take k rest ++ xs)
    (map_shift octet (λ j. slice_index (drop k rest) (rest_place (run - k) j)) k 0 (n - k) (λ j lt.
    ap (slice_index rest) (shifted_run run k j le)
    ∙ sym (ap (λ i. slice_index (drop k rest) (rest_place (run - k) i)) (let z : 0 + j ≡ j = omega arith in z) ∙ get_or-drop k rest (rest_place (run - k) j) 0)))
  where
    octet : ℕ → ℕ
    octet = λ j. slice_index rest (rest_place run j)

place_later : (m : Bool) (from run j : ℕ) → IsRun m from run → m ≡ true → run + from % 512 ≡ 512 → run ≤ j → rest_place run j + from ≡ data_place m (data_index m from + j)
unfolding data_place data_index
place_later true from run j is t up far = omega (arith, past_run run j far, is.0, up)
place_later false from run j is t up far = cc

-- data octets from a place on, by the run up to the next marker
pub place_left : (m : Bool) (from run j : ℕ) → IsRun m from run → (run ≤ j → (m ≡ true) × (run + from % 512 ≡ 512)) → rest_place run j + from ≡ data_place m (data_index m from + j)
place_left m from run j is more =
    elim (cases_lt j run) [
      | inl near ↦
          let here = run_place m from run j is near in
          omega (arith, within_run run j near, ap (data_place m) here.1, place_index m (from + j) here.0)
      | inr far ↦ place_later m from run j is (more (omega arith)).0 (more (omega arith)).1 (omega arith)
    ]

pub left_is : (octets : List ℕ) (m : Bool) (from run n : ℕ) → IsRun m from run → (run < n → (m ≡ true) × (run + from % 512 ≡ 512))
    → left_in octets run n ≡ data_at (octet_from from octets) m (data_index m from) n
unfolding data_at
left_is octets m from run n is more =
    map_shift (λ k. slice_index octets (rest_place run k)) (λ k. octet_from from octets (data_place m k)) 0 (data_index m from) n (λ j lt.
    ap (slice_index octets) (omega (arith, place_left m from run j is (λ far. more (omega arith)), ap (rest_place run) (let z : 0 + j ≡ j = omega arith in z))))

pub length_left : (rest : List ℕ) (run n : ℕ) → length (left_in rest run n) ≡ n
length_left rest run n = length-map-range_with_len (λ k. slice_index rest (rest_place run k)) 0 n
