use Rattle.std.proofs.Common.{true, ◌+◌, ◌++◌, length, take, sym, ap, ◌∙◌, arith}
use Rattle.std.proofs.lemmas.List.{append_assoc}
use Rattle.iw_fpdu.specs.Places.{data_index, place_after}
use Rattle.iw_fpdu.specs.Frame.{laid}
use Rattle.iw_fpdu.proofs.Counted.{run_before, after_front}
use Rattle.iw_fpdu.proofs.Laid.{laid_rest}
use Rattle.iw_fpdu.proofs.writer.Writer.put_front.Goals as goal

pub append-requires : goal.append-requires
append-requires g c =
    let at = c.args.self.now.at in
    let n = c.min-run.result in
    let front = run_before at n c.requires.edge (omega (arith, c.min-run.ensures, c.before_marker.ensures)) in
    let past = after_front at n (length c.args.octets.now) (length c.split_at.result.1.now) c.requires.edge front (omega (arith, c.split_at.ensures.back_len)) in
    omega (arith, c.requires.room, past.1, c.split_at.ensures.front_len)

pub overflow_add-self : goal.overflow_add-self
overflow_add-self g c =
    let at = c.args.self.now.at in
    let n = c.min-run.result in
    let front = run_before at n c.requires.edge (omega (arith, c.min-run.ensures, c.before_marker.ensures)) in
    let past = after_front at n (length c.args.octets.now) (length c.split_at.result.1.now) c.requires.edge front (omega (arith, c.split_at.ensures.back_len)) in
    omega (arith, c.requires.low, past.1)

pub returns-clause-room : goal.returns-clause-room
returns-clause-room g c =
    let at = c.args.self.now.at in
    let n = c.min-run.result in
    let front = run_before at n c.requires.edge (omega (arith, c.min-run.ensures, c.before_marker.ensures)) in
    let past = after_front at n (length c.args.octets.now) (length c.split_at.result.1.now) c.requires.edge front (omega (arith, c.split_at.ensures.back_len)) in
    record {
      edge = past.2;
      room = omega (arith, c.requires.room, past.0, past.1, c.append.ensures.len, c.append.ensures.capacity, c.split_at.ensures.front_len);
      near = omega (arith, c.requires.near, past.0);
      low = omega (arith, c.requires.low, past.0);
    }

pub returns-clause-end : goal.returns-clause-end
returns-clause-end g c =
    let at = c.args.self.now.at in
    let n = c.min-run.result in
    let front = run_before at n c.requires.edge (omega (arith, c.min-run.ensures, c.before_marker.ensures)) in
    (after_front at n (length c.args.octets.now) (length c.split_at.result.1.now) c.requires.edge front (omega (arith, c.split_at.ensures.back_len))).0

pub returns-clause-items : goal.returns-clause-items
returns-clause-items g c =
    let start = c.args.self.now.start in
    let at = c.args.self.now.at in
    let octets = c.args.octets.now in
    let back = c.split_at.result.1.now in
    let old = c.args.out.now.items in
    let n = c.min-run.result in
    let front = run_before at n c.requires.edge (omega (arith, c.min-run.ensures, c.before_marker.ensures)) in
    let past = after_front at n (length octets) (length back) c.requires.edge front (omega (arith, c.split_at.ensures.back_len)) in
    let to = place_after true at (length octets) in
    ap (λ ys. ys ++ laid true start (data_index true (at + n)) back (at + n) (place_after true (at + n) (length back))) (c.append.ensures.items ∙ ap (λ ys. old ++ ys) c.split_at.ensures.front)
    ∙ ap (λ x. old ++ take n octets ++ laid true start (data_index true (at + n)) back (at + n) x) past.0
    ∙ ap (λ ys. old ++ take n octets ++ laid true start (data_index true (at + n)) ys (at + n) to) c.split_at.ensures.back
    ∙ append_assoc old (take n octets) _
    ∙ ap (λ ys. old ++ ys) (sym (laid_rest start octets at n to front (omega (arith, c.min-run.ensures)) past.1))
