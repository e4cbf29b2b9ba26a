use Rattle.std.proofs.Common.{◌≡◌, true, ◌+◌, ◌++◌, [], length, take, drop, sym, ap, ◌∙◌, arith, refl}
use Rattle.std.proofs.lemmas.List.{append-nil, take_all}
use Rattle.iw_fpdu.specs.Places.{data_index, place_after}
use Rattle.iw_fpdu.proofs.Counted.{run_before, after_front, place_after_none}
use Rattle.iw_fpdu.proofs.Laid.{laid_rest, laid_none}
use Rattle.iw_fpdu.proofs.writer.Writer.put_run.Goals as goal

pub append-requires : goal.append-requires
append-requires g c =
    let at = c.args.self.now.at in
    let n = length c.args.octets.now in
    let front = run_before at n c.requires.room.edge c.requires.run in
    let past = after_front at n n 0 c.requires.room.edge front (omega arith) in
    omega (arith, c.requires.room.room, past.1)

pub overflow_add-self : goal.overflow_add-self
overflow_add-self g c =
    let at = c.args.self.now.at in
    let n = length c.args.octets.now in
    let front = run_before at n c.requires.room.edge c.requires.run in
    let past = after_front at n n 0 c.requires.room.edge front (omega arith) in
    omega (arith, c.requires.room.low, past.1)

pub returns-clause-place : goal.returns-clause-place
returns-clause-place g c =
    let at = c.args.self.now.at in
    let n = length c.args.octets.now in
    let front = run_before at n c.requires.room.edge c.requires.run in
    let past = after_front at n n 0 c.requires.room.edge front (omega arith) in
    sym (place_after_none true (at + n) 0 refl) ∙ past.0

pub returns-clause-items : goal.returns-clause-items
returns-clause-items g c =
    let start = c.args.self.now.start in
    let at = c.args.self.now.at in
    let octets = c.args.octets.now in
    let old = c.args.out.now.items in
    let n = length octets in
    let front = run_before at n c.requires.room.edge c.requires.run in
    let past = after_front at n n 0 c.requires.room.edge front (omega arith) in
    let to = place_after true at n in
    let here : to ≡ at + n = sym past.0 ∙ place_after_none true (at + n) 0 refl in
    c.append.ensures.items
    ∙ ap (λ ys. old ++ ys)
    (sym (append-nil octets)
    ∙ ap (λ ys. ys ++ []) (sym (take_all n octets (omega arith)))
    ∙ ap (λ ys. take n octets ++ ys) (sym (laid_none true start (data_index true (at + n)) (drop n octets) (at + n) to (omega (arith, here))))
    ∙ sym (laid_rest start octets at n to front (omega arith) (omega (arith, here))))
