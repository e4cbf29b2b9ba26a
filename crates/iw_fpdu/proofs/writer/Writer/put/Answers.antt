use Rattle.std.proofs.Common.{◌≡◌, true, ◌≤◌, ◌<◌, ◌+◌, ◌%◌, arith, ap, ◌∙◌, sym, refl, length, take, ◌++◌, ⊎_elim, inl, inr}
use Rattle.std.proofs.lemmas.List.{append_assoc, append-nil}
use Rattle.std.proofs.lemmas.Bool.{cases_lt}
use Rattle.std.proofs.lemmas.Bool.Decides.{nat_tests}
use Rattle.iw_fpdu.specs.Places.{data_place, data_index, place_after}
use Rattle.iw_fpdu.specs.Frame.{laid}
use Rattle.iw_fpdu.specs.Laying.{marker_before}
use Rattle.iw_fpdu.proofs.Counted.{past_edge, edge_marker, run_past, run_edge, after_run, after_marker, after_high, run_high, place_after_none, at_most_after}
use Rattle.iw_fpdu.proofs.Laid.{laid_turn, laid_none, one_marker}
use Rattle.iw_fpdu.proofs.writer.Writer.put.Goals as goal

pub loop-rest-init : goal.loop-rest-init
loop-rest-init g c =
    let front = c.put_front-rest.ensures in
    (front.room, front.start, front.end, front.later, front.len, front.capacity, front.items, front.marker)

pub put_next_marker-requires-clause-marker : goal.put_next_marker-requires-clause-marker
put_next_marker-requires-clause-marker g c =
    let some : 0 < length c.loop-rest.rest.now = grind (arith, nat_tests, c.loop-rest-test.ensures) in
    ⊎_elim (λ none. absurd (omega (arith, some))) (λ h. h) c.loop-rest.invariant.7

pub put_next_marker-requires-clause-near : goal.put_next_marker-requires-clause-near
put_next_marker-requires-clause-near g c =
    let room = c.loop-rest.invariant.0 in
    let some : 0 < length c.loop-rest.rest.now = grind (arith, nat_tests, c.loop-rest-test.ensures) in
    omega (arith, room.near, past_edge true c.loop-rest.self.at room.edge, after_high true c.loop-rest.self.at (length c.loop-rest.rest.now) some)

pub put_next_marker-requires-clause-low : goal.put_next_marker-requires-clause-low
put_next_marker-requires-clause-low g c =
    let room = c.loop-rest.invariant.0 in
    omega (arith, room.low, at_most_after true c.loop-rest.self.at (length c.loop-rest.rest.now) room.edge)

pub put_next_marker-requires-clause-room : goal.put_next_marker-requires-clause-room
put_next_marker-requires-clause-room g c =
    let some : 0 < length c.loop-rest.rest.now = grind (arith, nat_tests, c.loop-rest-test.ensures) in
    let z : c.loop-rest.self.at % 512 ≡ 0 = ⊎_elim (λ none. absurd (omega (arith, some))) (λ h. h) c.loop-rest.invariant.7 in
    omega (arith, c.loop-rest.invariant.0.room, edge_marker c.loop-rest.self.at z, after_high true c.loop-rest.self.at (length c.loop-rest.rest.now) some)

pub append-requires : goal.append-requires
append-requires g c =
    let m = true in
    let at = c.loop-rest.self.at in
    let rest = c.loop-rest.rest.now in
    let b = c.put_next_marker.new.self.at in
    let n = c.min-run.result in
    let had = c.loop-rest.invariant.0 in
    let some : 0 < length rest = grind (arith, nat_tests, c.loop-rest-test.ensures) in
    let z : at % 512 ≡ 0 = ⊎_elim (λ none. absurd (omega (arith, some))) (λ h. h) c.loop-rest.invariant.7 in
    let next : b ≡ data_place m (data_index m at) = c.put_next_marker.ensures.place ∙ sym (edge_marker at z) in
    let run = run_past at b n z c.put_next_marker.ensures.place (omega (arith, c.min-run.ensures)) in
    let within : n ≤ length rest = omega (arith, c.min-run.ensures) in
    let some_n : 0 < n = omega (arith, c.min-run.ensures, some) in
    let after_b : place_after m b (length rest) ≡ place_after m at (length rest) = ap (λ x. place_after m x (length rest)) next ∙ after_marker m at (length rest) some in
    let high : b + n ≤ place_after m b (length rest) = run_high m b n (length rest) some_n within run in
    let low : at ≤ data_place m (data_index m at) = past_edge m at had.edge in
    omega (arith, had.room, c.put_next_marker.ensures.len, after_b, high, low, next, c.put_next_marker.ensures.capacity, c.split_at.ensures.front_len)

pub overflow_add-self : goal.overflow_add-self
overflow_add-self g c =
    let m = true in
    let at = c.loop-rest.self.at in
    let rest = c.loop-rest.rest.now in
    let b = c.put_next_marker.new.self.at in
    let n = c.min-run.result in
    let had = c.loop-rest.invariant.0 in
    let some : 0 < length rest = grind (arith, nat_tests, c.loop-rest-test.ensures) in
    let z : at % 512 ≡ 0 = ⊎_elim (λ none. absurd (omega (arith, some))) (λ h. h) c.loop-rest.invariant.7 in
    let next : b ≡ data_place m (data_index m at) = c.put_next_marker.ensures.place ∙ sym (edge_marker at z) in
    let run = run_past at b n z c.put_next_marker.ensures.place (omega (arith, c.min-run.ensures)) in
    let within : n ≤ length rest = omega (arith, c.min-run.ensures) in
    let some_n : 0 < n = omega (arith, c.min-run.ensures, some) in
    let after_b : place_after m b (length rest) ≡ place_after m at (length rest) = ap (λ x. place_after m x (length rest)) next ∙ after_marker m at (length rest) some in
    let high : b + n ≤ place_after m b (length rest) = run_high m b n (length rest) some_n within run in
    let low : at ≤ data_place m (data_index m at) = past_edge m at had.edge in
    omega (arith, after_b, high, had.low)

pub loop-rest-preserved : goal.loop-rest-preserved
loop-rest-preserved g c =
    let m = true in
    let at = c.loop-rest.self.at in
    let rest = c.loop-rest.rest.now in
    let b = c.put_next_marker.new.self.at in
    let n = c.min-run.result in
    let had = c.loop-rest.invariant.0 in
    let some : 0 < length rest = grind (arith, nat_tests, c.loop-rest-test.ensures) in
    let z : at % 512 ≡ 0 = ⊎_elim (λ none. absurd (omega (arith, some))) (λ h. h) c.loop-rest.invariant.7 in
    let next : b ≡ data_place m (data_index m at) = c.put_next_marker.ensures.place ∙ sym (edge_marker at z) in
    let run = run_past at b n z c.put_next_marker.ensures.place (omega (arith, c.min-run.ensures)) in
    let within : n ≤ length rest = omega (arith, c.min-run.ensures) in
    let some_n : 0 < n = omega (arith, c.min-run.ensures, some) in
    let after_b : place_after m b (length rest) ≡ place_after m at (length rest) = ap (λ x. place_after m x (length rest)) next ∙ after_marker m at (length rest) some in
    let high : b + n ≤ place_after m b (length rest) = run_high m b n (length rest) some_n within run in
    let low : at ≤ data_place m (data_index m at) = past_edge m at had.edge in
    let back_len : length c.split_at.result.1.now + n ≡ length rest = c.split_at.ensures.back_len in
    let end : place_after m (b + n) (length c.split_at.result.1.now) ≡ place_after m at (length rest) =
    after_run m b n (length rest) (length c.split_at.result.1.now) some_n (omega (arith, back_len)) run ∙ after_b in
    let to = place_after m at (length rest) in (
      record {
        edge = run_edge m b n some_n run;
        room = omega (arith, had.room, end, after_b, high, low, next, c.put_next_marker.ensures.len, c.append.ensures.len, c.split_at.ensures.front_len, c.put_next_marker.ensures.capacity, c.append.ensures.capacity);
        near = omega (arith, end, had.near, c.put_next_marker.ensures.start);
        low = omega (arith, end, had.low);
      },
      c.put_next_marker.ensures.start ∙ c.loop-rest.invariant.1,
      end ∙ c.loop-rest.invariant.2,
      omega (arith, next, low, c.loop-rest.invariant.3),
      omega (arith, c.put_next_marker.ensures.len, c.append.ensures.len, c.split_at.ensures.front_len, next, low, c.loop-rest.invariant.3, c.loop-rest.invariant.4),
      omega (arith, c.put_next_marker.ensures.capacity, c.append.ensures.capacity, c.loop-rest.invariant.5),
      ap (λ ys. ys ++ laid m c.args.self.now.start (data_index m (b + n)) c.split_at.result.1.now (b + n) (place_after m (b + n) (length c.split_at.result.1.now)))
          (c.append.ensures.items ∙ ap (λ ys. ys ++ c.split_at.result.0.now) (c.put_next_marker.ensures.items ∙ ap (λ ys. c.loop-rest.out.items ++ ys) (sym (one_marker c.loop-rest.self.start at z)) ∙ ap (λ s. c.loop-rest.out.items ++ marker_before m s at) c.loop-rest.invariant.1) ∙ ap (λ ys. c.loop-rest.out.items ++ marker_before m c.args.self.now.start at ++ ys) c.split_at.ensures.front)
          ∙ ap (λ x. c.loop-rest.out.items ++ marker_before m c.args.self.now.start at ++ take n rest ++ laid m c.args.self.now.start (data_index m (b + n)) c.split_at.result.1.now (b + n) x) end
          ∙ ap (λ ys. c.loop-rest.out.items ++ marker_before m c.args.self.now.start at ++ take n rest ++ laid m c.args.self.now.start (data_index m (b + n)) ys (b + n) to) c.split_at.ensures.back
          ∙ simp append_assoc refl
          ∙ ap (λ ys. c.loop-rest.out.items ++ ys) (sym (laid_turn m c.args.self.now.start rest at b n to had.edge next some_n within run (omega (arith, after_b, high))))
          ∙ c.loop-rest.invariant.6,
      elim (cases_lt n 508) [
        | inl less ↦ inl (omega (arith, back_len, c.min-run.ensures))
        | inr full ↦ inr (omega (arith, z, c.put_next_marker.ensures.place, c.min-run.ensures))
      ],
    )

pub returns-clause-start : goal.returns-clause-start
returns-clause-start g c = c.loop-rest.invariant.1

pub returns-clause-place : goal.returns-clause-place
returns-clause-place g c =
    let none : length c.loop-rest.rest.now ≡ 0 = grind (arith, nat_tests, c.loop-rest-test.ensures) in
    sym (place_after_none true c.loop-rest.self.at (length c.loop-rest.rest.now) none) ∙ c.loop-rest.invariant.2

pub returns-clause-items : goal.returns-clause-items
returns-clause-items g c =
    let none : length c.loop-rest.rest.now ≡ 0 = grind (arith, nat_tests, c.loop-rest-test.ensures) in
    let m = true in
    let end = place_after_none m c.loop-rest.self.at (length c.loop-rest.rest.now) none in
    sym (append-nil c.loop-rest.out.items)
    ∙ ap (λ ys. c.loop-rest.out.items ++ ys) (sym (laid_none m c.args.self.now.start (data_index m c.loop-rest.self.at) c.loop-rest.rest.now c.loop-rest.self.at (place_after m c.loop-rest.self.at (length c.loop-rest.rest.now)) (omega (arith, end))))
    ∙ c.loop-rest.invariant.6
