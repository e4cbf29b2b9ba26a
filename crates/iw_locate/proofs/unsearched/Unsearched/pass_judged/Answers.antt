use Rattle.std.proofs.Common.{◌≤◌, ◌<◌, ℕ, List, sym, subst, arith}
use Rattle.std.specs.List.{Contains}
use Rattle.iw_locate.specs.declared.judged.Record.{Record}
use Rattle.iw_locate.specs.Records.{from_of}
use Rattle.iw_locate.proofs.Told.{tells_raised}
use Rattle.iw_locate.proofs.unsearched.Unsearched.pass_judged.Goals as goal

pub returns-clause-tells : goal.returns-clause-tells
returns-clause-tells g c = λ v same tells.
    let low = c.args.self.now.low in
    let past = c.run_to-past.result in
    tells_raised v c.args.self.now past c.first_start-self.result tells
    (subst (λ (rs : List (Record g.row.T.Denot)). (q : ℕ) → low ≤ q → q < past → (r : Record g.row.T.Denot) × Contains rs r × (from_of r ≤ q) × (q < r.end)) (sym same) c.run_to-past.ensures.covered)
    (λ s start high. c.first_start-self.ensures s start (omega (arith, high, c.min.ensures)))
