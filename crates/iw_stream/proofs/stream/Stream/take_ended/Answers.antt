use Rattle.std.proofs.Common.{◌<◌, ◌≤◌, true, ap, subst, ◌∙◌, arith, rules}
use Rattle.iw_stream.specs.declared.intake.TheConstants.{MOST_READ}
use Rattle.iw_stream.specs.Ending.{has_ended}
use Rattle.iw_stream.specs.Fields.{state_of}
use Rattle.iw_stream.specs.Reading.{Counts}
use Rattle.iw_stream.specs.Stream.{StreamState}
use Rattle.iw_stream.proofs.TakenIn.{counts_ended}
use Rattle.iw_stream.proofs.stream.Stream.take_ended.Goals as goal

pub returns-clause-ok : goal.returns-clause-ok
returns-clause-ok g c =
    let s = state_of c.self.inside in
    let n = c.args.n in
    let some : 0 < n = omega (arith, c.if-n-eq0.false) in
    let few : n ≤ MOST_READ = search rules in
    subst (λ (x : StreamState). Counts x (record s { answered = true }) n) c.self.view_is
    (counts_ended s n (ap (λ (x : StreamState). has_ended x.ending) c.self.view_is ∙ c.requires) some few)
