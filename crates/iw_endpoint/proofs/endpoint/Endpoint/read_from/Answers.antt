use Rattle.std.proofs.Common.{◌≡◌, None, get_or, ap, ◌∙◌}
use Rattle.iw_endpoint.specs.Endpoint.{EndpointState, with_stream}
use Rattle.iw_endpoint.proofs.TakenIn.{read_found, none_told}
use Rattle.iw_endpoint.proofs.endpoint.Endpoint.read_from.Goals.{in-Some+in-Ok, in-Some+in-Err, in-None}
use Rattle.iw_endpoint.proofs.endpoint.Endpoint.read_from.Goals as goal

pub returns-clause-ok : goal.returns-clause-ok
returns-clause-ok g c =
    let e = c.args.self.now in
    let n = c.args.number in
    let inside = c.match-get_mut.self-inside in
    let new : EndpointState = record { table = inside.memory; pools = inside.pools; streams = inside.streams; closed = inside.closed.domains } in
    elim c.match-get_mut.branch [
      | in-Some+in-Ok w ↦
          let s = w.read_from.new.self in
          let left : new ≡ with_stream e n s =
          (λ i. record { table = (w.self-inside-is i).memory; pools = (w.self-inside-is i).pools; streams = (w.self-inside-is i).streams; closed = (w.self-inside-is i).closed.domains }) ∙ ap (λ (v : EndpointState). with_stream v n s) c.self.view_is in
          read_found e new n c.match-get_mut.result w.in-Ok.intake w.in-Some.stream.now s (g.R.Read.remaining c.args.from.now) (g.R.Read.remaining c.match-get_mut.from) (g.R.Read.remaining w.read_from.new.from) w.result-is
          (ap g.R.Read.remaining w.from-is) (w.in-Some.ensures.found ∙ ap (λ (v : EndpointState). get_or v.streams n None) c.self.view_is) left w.in-Ok.ensures.ok
      | in-Some+in-Err w ↦ none_told _ _ _ w.result-is
      | in-None w ↦ none_told _ _ _ w.result-is
    ]
