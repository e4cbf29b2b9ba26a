use Rattle.std.proofs.Common.{◌≡◌, ◌∙◌}
use Rattle.iw_commands.specs.Port.{port_line}
use Rattle.iw_commands.proofs.MoreLines.{no_port, port_stops, lines_stop, prints_port}
use Rattle.iw_commands.proofs.serving.listen.Goals as goal

pub returns-in_default-clause-stopped : goal.returns-in_default-clause-stopped
returns-in_default-clause-stopped g c = no_port _ _ _ _

pub returns-in_default-named_port-clause-stopped : goal.returns-in_default-named_port-clause-stopped
returns-in_default-named_port-clause-stopped g c = no_port _ _ _ _

pub returns-in_default-port_text-clause-stopped : goal.returns-in_default-port_text-clause-stopped
returns-in_default-port_text-clause-stopped g c = no_port _ _ _ _

pub returns-in-Err-clause-stopped : goal.returns-in-Err-clause-stopped
returns-in-Err-clause-stopped g c =
    let text : c.as_bytes.result.now ≡ port_line c.in-Ok-named_port.bound =
    c.as_bytes.ensures.value ∙ c.in-Ok-port_text.ensures in
    port_stops _ _ _ _ _ _ _ c.in-Ok-named_port.ensures (rw text at c.in-Err.ensures.err.1)

pub returns-clause-stopped : goal.returns-clause-stopped
returns-clause-stopped g c =
    let text : c.as_bytes.result.now ≡ port_line c.in-Ok-named_port.bound =
    c.as_bytes.ensures.value ∙ c.in-Ok-port_text.ensures in
    lines_stop _ _ _ _ _ _ _ _ c.in-Ok-named_port.ensures (rw text at c.in-Ok-print_text.ensures.ok) c.in-Err-listen_all.ensures.stopped.1

pub returns-in-Ok-listen_all-clause-printed : goal.returns-in-Ok-listen_all-clause-printed
returns-in-Ok-listen_all-clause-printed g c =
    let text : c.as_bytes.result.now ≡ port_line c.in-Ok-named_port.bound =
    c.as_bytes.ensures.value ∙ c.in-Ok-port_text.ensures in
    prints_port _ _ _ _ _ _ _ _ _ c.in-Ok-named_port.ensures (rw text at c.in-Ok-print_text.ensures.ok) c.in-Ok-listen_all.ensures.printed.1
