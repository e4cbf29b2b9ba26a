use Rattle.std.proofs.Common.{◌≡◌}
use Rattle.iw_output.specs.Status.{with}
use Rattle.iw_commands.specs.Status.{report_status}
use Rattle.iw_commands.proofs.MoreLines.{nothing_yet, prints_on, stops_at}
use Rattle.iw_commands.proofs.asking.ask_each.Goals as goal

pub loop-stream-preserved : goal.loop-stream-preserved
loop-stream-preserved g c =
    let ends : c.with-status.result ≡ with c.loop-stream.status (report_status c.ask_next-report.result) =
    rw (← c.in-Ok.ensures.status) c.with-status.ensures in
    let told = rw c.at-terms.ensures at c.ask_next-report.ensures.told in
    record {
      printed = rw ends (prints_on _ _ _ _ _ _ _ _ _ _ _ c.loop-stream.invariant.printed told c.in-Ok.ensures.ok);
    }

pub returns-in-Err-clause-stopped : goal.returns-in-Err-clause-stopped
returns-in-Err-clause-stopped g c =
    let told = rw c.at-terms.ensures at c.ask_next-report.ensures.told in
    stops_at _ _ _ _ _ _ _ _ _ _ _ _ _ c.loop-stream.invariant.printed c.loop-stream-test.true told c.in-Err.ensures.err.1

pub loop-stream-init : goal.loop-stream-init
loop-stream-init g c = record { printed = nothing_yet _ _ _ _ }
