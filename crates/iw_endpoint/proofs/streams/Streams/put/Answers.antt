use Rattle.std.proofs.Common.{◌∙◌, Result, Ok, Err}
use Rattle.std.specs.Prelude.{OnErr}
use Rattle.iw_endpoint.proofs.Numbers.{keeps_laid, listed_laid, keeps_stays, listed_stays}
use Rattle.iw_endpoint.proofs.streams.Streams.put.Goals as goal

in_error : {R E : Type 0} (P : Type 0) (r : Result R E) → P → OnErr r P
in_error P (Ok u) p = tt
in_error P (Err e) p = p

pub invariant_of-self : goal.invariant_of-self
invariant_of-self g c = keeps_stays _ _ _ _ c.self.inside.next c.in_err-lay.ensures.err.0 c.in_err-lay.ensures.err.1 c.self.invariant

pub returns-in_err-lay-clause-err : goal.returns-in_err-lay-clause-err
returns-in_err-lay-clause-err g c =
    in_error _ c.from_residual.result (listed_stays _ _ _ _ c.self.inside.next c.in_err-lay.ensures.err.0 c.in_err-lay.ensures.err.1 ∙ c.self.view_is)

pub invariant_of-self-2 : goal.invariant_of-self-2
invariant_of-self-2 g c = keeps_laid _ _ _ _ c.self.inside.next c.args.number c.max-self-inside.result c.args.stream c.args.self.now c.self.invariant c.self.view_is c.requires.within c.max-self-inside.ensures c.requires.free c.in_ok-lay.ensures.ok c.ranges.number.fits

pub returns-clause-ok : goal.returns-clause-ok
returns-clause-ok g c = listed_laid _ _ _ _ c.self.inside.next c.args.number c.max-self-inside.result c.args.stream c.args.self.now c.self.invariant c.self.view_is c.requires.within c.max-self-inside.ensures c.requires.free c.in_ok-lay.ensures.ok
