use Rattle.std.proofs.Common.{arith, length-drop}
use Rattle.iw_server.proofs.Left.{slice_end, takes_more, takes_kept}
use Rattle.iw_server.proofs.unwritten.Unwritten.write_to.Goals as goal
use Rattle.iw_server.proofs.unwritten.Unwritten.write_to.Goals.{in-Ok, in-Err+in-Interrupted}

pub writes-preserved : goal.writes-preserved
writes-preserved g c =
    let inv = c.writes.invariant in
    let items = c.writes.self-inside.octets.items in
    let written = c.writes.self-inside.written in
    elim c.match-write.branch [
      | in-Ok w ↦
          let more = rw (c.deref.ensures.value, slice_end items written) at w.in-Ok.ensures.bytes in
          let bound = rw (c.deref.ensures.value, slice_end items written) at w.in-Ok.ensures.bound in
          rw w.self-inside-is (record {
            within = omega (arith, inv.within, bound, length-drop written items);
            takes = takes_more _ _ _ _ items written w.in-Ok.n inv.takes more;
          })
      | in-Err+in-Interrupted w ↦
          rw w.self-inside-is (record { within = inv.within; takes = takes_kept _ _ _ _ _ inv.takes w.in-Err.ensures.bytes })
    ]
