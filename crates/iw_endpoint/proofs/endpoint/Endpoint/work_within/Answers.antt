use Rattle.std.proofs.Common.{◌≡◌, OnErr, Some, None, slice_set, sym, ap, subst, ◌∙◌}
use Rattle.std.proofs.lemmas.List.{set-get_or}
use Rattle.iw_endpoint.specs.Endpoint.{EndpointState}
use Rattle.iw_endpoint.proofs.endpoint.Endpoint.work_within.Goals as goal
use Rattle.iw_endpoint.proofs.endpoint.Endpoint.work_within.Goals.{in-Ok, in-Err, in-Ok-work_alone, in-Err-work_alone}

pub returns-after-work-clause-err : goal.returns-after-work-clause-err
returns-after-work-clause-err g c =
    let streams = c.self.inside.streams in
    let n = c.args.number in
    let after : EndpointState = record { table = c.work.new.memory; pools = c.work.new.self; streams = slice_set streams n (Some c.work.new.stream); closed = c.self.inside.closed.domains } in
    elim c.match-work.branch [
      | in-Ok w ↦ subst (λ r. OnErr r (after ≡ c.args.self.now)) (sym w.result-is) tt
      | in-Err w ↦
          let same = w.in-Err.ensures.err in
          let put : slice_set streams n (Some c.work.new.stream) ≡ streams =
          ap (λ s. slice_set streams n (Some s)) same.1 ∙ ap (slice_set streams n) c.in-Some.ensures.found ∙ set-get_or streams n None in
          let all : after ≡ c.args.self.now = (λ i. record { table = same.2 i; pools = same.0 i; streams = put i; closed = c.self.inside.closed.domains }) ∙ c.self.view_is in
          subst (λ r. OnErr r (after ≡ c.args.self.now)) (sym w.result-is) all
    ]

pub returns-after-work_alone-clause-err : goal.returns-after-work_alone-clause-err
returns-after-work_alone-clause-err g c =
    let streams = c.self.inside.streams in
    let n = c.args.number in
    let after : EndpointState = record { table = c.work_alone.new.memory; pools = c.work_alone.new.self; streams = slice_set streams n (Some c.work_alone.new.stream); closed = c.self.inside.closed.domains } in
    elim c.match-work_alone.branch [
      | in-Ok-work_alone w ↦ subst (λ r. OnErr r (after ≡ c.args.self.now)) (sym w.result-is) tt
      | in-Err-work_alone w ↦
          let same = w.in-Err-work_alone.ensures.err in
          let put : slice_set streams n (Some c.work_alone.new.stream) ≡ streams =
          ap (λ s. slice_set streams n (Some s)) same.0 ∙ ap (slice_set streams n) c.in-Some.ensures.found ∙ set-get_or streams n None in
          let all : after ≡ c.args.self.now = (λ i. record { table = same.1 i; pools = c.work_alone.ensures.pools i; streams = put i; closed = c.self.inside.closed.domains }) ∙ c.self.view_is in
          subst (λ r. OnErr r (after ≡ c.args.self.now)) (sym w.result-is) all
    ]
