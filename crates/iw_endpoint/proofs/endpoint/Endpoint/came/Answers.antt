use Rattle.std.proofs.Common.{◌≡◌, None, IfOk, get_or, sym, ap, subst, ◌∙◌}
use Rattle.std.specs.Prelude.{MatchBool}
use Rattle.iw_endpoint.specs.Endpoint.{EndpointState, with_stream}
use Rattle.iw_endpoint.specs.Reading.{Counts}
use Rattle.iw_endpoint.proofs.TakenIn.{counts_found, none_told}
use Rattle.iw_endpoint.proofs.endpoint.Endpoint.came.Goals.{in-Some, in-None}
use Rattle.iw_endpoint.proofs.endpoint.Endpoint.came.Goals as goal

pub returns-clause-counted : goal.returns-clause-counted
returns-clause-counted g c =
    let e = c.args.self.now in
    let number = c.args.number in
    let n = c.args.n in
    let inside = c.match-get_mut.self-inside in
    let new : EndpointState = record { table = inside.memory; pools = inside.pools; streams = inside.streams; closed = inside.closed.domains } in
    elim c.match-get_mut.branch [
      | in-Some w ↦
          let s = w.came.new.self in
          let left : new ≡ with_stream e number s =
          (λ i. record { table = (w.self-inside-is i).memory; pools = (w.self-inside-is i).pools; streams = (w.self-inside-is i).streams; closed = (w.self-inside-is i).closed.domains }) ∙ ap (λ (v : EndpointState). with_stream v number s) c.self.view_is in
          subst (λ q. IfOk q (λ b. MatchBool b (Counts e new number n) (new ≡ e))) (sym w.result-is)
          (counts_found e new number n w.came.result w.in-Some.stream.now s (w.in-Some.ensures.found ∙ ap (λ (v : EndpointState). get_or v.streams number None) c.self.view_is) left w.came.ensures)
      | in-None w ↦ none_told _ _ _ w.result-is
    ]
