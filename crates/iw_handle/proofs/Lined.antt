-- An opening that is undone.
use Rattle.std.proofs.Common.{◌≡◌, ◌∙◌, ℕ, Option, Some, ap}
use Rattle.iw_lines.specs.declared.line.Line.{Line}
use Rattle.iw_lines.specs.Line.{new_line}
use Rattle.iw_lines.specs.Lines.{LineTable, place_of, with_place, opened}
use Rattle.iw_lines.proofs.Places.{put_back}
use Rattle.iw_endpoint.specs.Endpoint.{EndpointState}
use Rattle.iw_handle.specs.declared.open_handle.Held.{Held}

-- a line was made, no stream was opened, and what the number had is put back
pub undone : (held : Held) (e : EndpointState) (made back : LineTable) (number : ℕ) (before : Option Line) →
    e ≡ held.endpoint → before ≡ place_of held.lines number → made ≡ opened held.lines number → back ≡ with_place made number before →
    let after : Held = record held { endpoint = e; lines = back } in after ≡ held
undone held e made back number before same was make undo =
    let lines : back ≡ held.lines = undo ∙ ap (λ ls. with_place ls number before) make ∙ put_back held.lines number before (Some new_line) was in
    λ i. record held { endpoint = same i; lines = lines i }
