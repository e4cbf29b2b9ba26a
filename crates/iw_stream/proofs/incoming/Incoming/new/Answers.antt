use Rattle.std.proofs.Common.{sym, subst}
use Rattle.iw_stream.specs.Incoming.{Coming, IsTracked}
use Rattle.iw_stream.proofs.Arriving.{nothing_tracked}
use Rattle.iw_stream.proofs.incoming.Incoming.new.Goals as goal

pub invariant_of-result : goal.invariant_of-result
invariant_of-result g c =
    let t = subst IsTracked (sym (λ i. let s : Coming = record {
      layout = (c.new-3.ensures i).layout;
      base = (c.new-3.ensures i).base;
      arrived = c.in_ok-islands.ensures i;
      early = c.new-2.ensures i;
      room = c.new-2.result.room;
      releases = 0;
      unsearched = c.nothing.ensures i;
    } in s)) (nothing_tracked c.args.layout c.new-2.result.room 0) in
    record { keeps = t.keeps; tells = t.tells }
