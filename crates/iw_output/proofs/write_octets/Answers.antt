use Rattle.std.proofs.Common.{arith, take-add, length-drop}
use Rattle.std.proofs.KnownBytes.{Appends-kept, Appends-trans}
use Rattle.iw_output.proofs.Ends.{slice_end}
use Rattle.iw_output.proofs.write_octets.Goals as goal
use Rattle.iw_output.proofs.write_octets.Goals.{in-Ok, in-Err+else-ne}

pub writes-preserved : goal.writes-preserved
writes-preserved g c =
    let inv = c.writes.invariant in
    let all = c.args.octets.now in
    let written = c.writes.written in
    elim c.match-write.branch [
      | in-Ok w ↦
          let more = rw (slice_end all written) at w.in-Ok.ensures.bytes in
          let bound = rw (slice_end all written) at w.in-Ok.ensures.bound in
          rw (w.written-is, take-add written w.in-Ok.n all) (omega (arith, inv.0, bound, length-drop written all), Appends-trans _ _ _ _ _ inv.1 more)
      | in-Err+else-ne w ↦ rw w.written-is (inv.0, Appends-kept _ _ _ _ inv.1 w.in-Err.ensures.bytes)
    ]
