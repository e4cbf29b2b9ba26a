use Rattle.std.proofs.Common.{◌≡◌, true, ◌+◌, ℕ, length, ◌++◌, List, [], drop, get_or, sym, ap, ◌∙◌, arith, Bor}
use Rattle.std.proofs.lemmas.List.{append_assoc, append-nil, length-append}
use Rattle.iw_octets.specs.Pieces.{joined}
use Rattle.iw_octets.proofs.Runs.{joined_more, joined_all}
use Rattle.iw_fpdu.specs.Places.{data_index, place_after}
use Rattle.iw_fpdu.specs.Frame.{laid}
use Rattle.iw_fpdu.proofs.Counted.{after_after, place_after_none}
use Rattle.iw_fpdu.proofs.Laid.{laid_append, laid_none}
use Rattle.iw_fpdu.proofs.Rooms.{room_front, room_past, room_later}
use Rattle.iw_fpdu.proofs.writer.Writer.put_all.Goals as goal

none : Bor (List ℕ)
none = record { ref_ptr = (0, 0); now = [] }

pub put-requires : goal.put-requires
unfolding none
put-requires g c =
    let part = (get_or c.args.parts.now c.loop-part.part-index none).now in
    let more = joined_more c.args.parts.now c.loop-part.part-index none c.loop-part-test.true in
    let long = simp length-append at (ap length more) in
    room_front c.loop-part.invariant.0 (length part) (omega (arith, long))

pub loop-part-preserved : goal.loop-part-preserved
unfolding none
loop-part-preserved g c =
    let m = true in
    let start = c.args.self.now.start in
    let at = c.loop-part.self.at in
    let part = (get_or c.args.parts.now c.loop-part.part-index none).now in
    let all = joined (drop c.loop-part.part-index c.args.parts.now) in
    let tail = joined (drop (c.loop-part.part-index + 1) c.args.parts.now) in
    let b = c.put.new.self.at in
    let had = c.loop-part.invariant.0 in
    let more : all ≡ part ++ tail = joined_more c.args.parts.now c.loop-part.part-index none c.loop-part-test.true in
    let long : length all ≡ length part + length tail = ap length more ∙ length-append part tail in
    let place : b ≡ place_after m at (length part) = c.put.ensures.place in
    let end : place_after m b (length tail) ≡ place_after m at (length all) =
    ap (λ x. place_after m x (length tail)) place ∙ after_after m at (length part) (length tail) ∙ ap (place_after m at) (sym long) in (
      room_past had (length part) c.put.new.self.start b (length tail) long c.put.ensures.start place c.put.ensures.len c.put.ensures.capacity,
      c.put.ensures.start ∙ c.loop-part.invariant.1,
      end ∙ c.loop-part.invariant.2,
      omega (arith, c.loop-part.invariant.3, room_later had (length part) b (omega (arith, long)) place),
      omega (arith, c.put.ensures.len, c.loop-part.invariant.3, c.loop-part.invariant.4, room_later had (length part) b (omega (arith, long)) place),
      omega (arith, c.put.ensures.capacity, c.loop-part.invariant.5),
      ap (λ ys. ys ++ laid m start (data_index m b) tail b (place_after m b (length tail))) (c.put.ensures.items ∙ ap (λ s. c.loop-part.out.items ++ laid m s (data_index m at) part at (place_after m at (length part))) c.loop-part.invariant.1)
          ∙ ap (λ x. c.loop-part.out.items ++ laid m start (data_index m at) part at (place_after m at (length part)) ++ laid m start (data_index m x) tail x (place_after m x (length tail))) place
          ∙ append_assoc c.loop-part.out.items (laid m start (data_index m at) part at (place_after m at (length part))) _
          ∙ ap (λ ys. c.loop-part.out.items ++ ys) (sym (laid_append m start part tail at had.edge) ∙ ap (λ xs. laid m start (data_index m at) xs at (place_after m at (length xs))) (sym more))
          ∙ c.loop-part.invariant.6,
    )

pub returns-clause-start : goal.returns-clause-start
returns-clause-start g c = c.loop-part.invariant.1

pub returns-clause-place : goal.returns-clause-place
returns-clause-place g c =
    let rest = joined (drop c.loop-part.part-index c.args.parts.now) in
    let e : rest ≡ [] = joined_all c.args.parts.now c.loop-part.part-index c.loop-part-test.false in
    sym (place_after_none true c.loop-part.self.at (length rest) (ap length e)) ∙ c.loop-part.invariant.2

pub returns-clause-items : goal.returns-clause-items
returns-clause-items g c =
    let m = true in
    let rest = joined (drop c.loop-part.part-index c.args.parts.now) in
    let e : rest ≡ [] = joined_all c.args.parts.now c.loop-part.part-index c.loop-part-test.false in
    let end = place_after_none m c.loop-part.self.at (length rest) (ap length e) in
    sym (append-nil c.loop-part.out.items)
    ∙ ap (λ ys. c.loop-part.out.items ++ ys) (sym (laid_none m c.args.self.now.start (data_index m c.loop-part.self.at) rest c.loop-part.self.at (place_after m c.loop-part.self.at (length rest)) (omega (arith, end))))
    ∙ c.loop-part.invariant.6
