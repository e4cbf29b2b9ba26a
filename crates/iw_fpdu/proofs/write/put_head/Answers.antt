use Rattle.std.proofs.Common.{◌≡◌, true, ◌+◌, length, take, sym, ap, ◌∙◌, subst, arith, vec_len, vec_capacity}
use Rattle.iw_fpdu.specs.Laying.{HasRoom}
use Rattle.iw_fpdu.proofs.write.put_head.Goals as goal

pub put_run-requires-clause-room : goal.put_run-requires-clause-room
put_run-requires-clause-room g c =
    let long : length (take (2 + g.row.N) c.front_of.result) ≡ 2 + g.row.N = ap length c.front_of.ensures ∙ omega arith in
    subst (λ k. HasRoom true c.args.writer.now.start c.args.writer.now.at k (vec_len c.args.out.now) (vec_capacity c.args.out.now)) (sym long) c.requires.room
