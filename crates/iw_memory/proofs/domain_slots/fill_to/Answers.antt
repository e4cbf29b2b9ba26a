use Rattle.std.proofs.Common.{◌≡◌, ◌+◌, ◌<◌, ◌-◌, [], ◌∷◌, ◌++◌, replicate, vec_len, ap, ◌∙◌, arith}
use Rattle.iw_memory.specs.Inside.{free}
use Rattle.iw_memory.proofs.SlotLemmas.{filled_more}
use Rattle.iw_memory.proofs.domain_slots.fill_to.Goals as goal

pub slots-preserved : goal.slots-preserved
slots-preserved g c =
    let old = c.slots.slots in let new = c.push_reserved.new.self in
    let longer : vec_len new ≡ vec_len old + 1 = omega (arith, c.push_reserved.ensures.len) in
    let more : vec_len old < c.args.len = omega (arith, c.len.ensures, c.slots-test.true) in (
      omega (arith, longer, more),
      omega (arith, c.push_reserved.ensures.capacity, c.slots.invariant.1),
      ap (λ items. items ++ replicate (c.args.len - vec_len new) free) c.push_reserved.ensures.items
          ∙ ap (λ n. (old.items ++ free ∷ []) ++ replicate (c.args.len - n) free) longer
          ∙ filled_more old.items (vec_len old) c.args.len more
          ∙ c.slots.invariant.2,
    )
