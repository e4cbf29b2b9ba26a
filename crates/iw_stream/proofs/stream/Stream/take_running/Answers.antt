use Rattle.std.proofs.Common.{List, None, true, sym, ap, subst, ◌∙◌}
use Rattle.iw_stream.specs.declared.intake.Intake.TheVariants.{Came}
use Rattle.iw_stream.specs.Ending.{has_ended}
use Rattle.iw_stream.specs.Fields.{state_of}
use Rattle.iw_stream.specs.Frames.{EarlyRecord}
use Rattle.iw_stream.specs.Reading.{Counts}
use Rattle.iw_stream.specs.Stream.{StreamState}
use Rattle.iw_stream.proofs.Keeping.{keeps_told}
use Rattle.iw_stream.proofs.TakenIn.{counts_running, keeps_read}
use Rattle.iw_stream.proofs.stream.Stream.take_running.Goals as goal

pub invariant_of-self : goal.invariant_of-self
invariant_of-self g c =
    let s = state_of c.self.inside in
    let now = c.take_lent.new.self in record {
      keeps = keeps_told (record s { arrived = now.arrived; early = now.early }) c.self.inside.first _
          (keeps_read s now.arrived now.early None None (Came c.args.n) c.in-Ok.ensures.ok c.in-Ok.ensures.early c.self.invariant.keeps);
      layout = c.in-Ok.ensures.same.layout ∙ c.self.invariant.layout;
      base = c.in-Ok.ensures.same.base ∙ c.self.invariant.base;
    }

pub returns-in-Ok-clause-ok : goal.returns-in-Ok-clause-ok
returns-in-Ok-clause-ok g c =
    let s = state_of c.self.inside in
    let now = c.take_lent.new.self in
    let n = c.args.n in
    let t = c.in-Ok.ensures.ok in
    let counts = counts_running s now.arrived n (ap (λ (x : StreamState). has_ended x.ending) c.self.view_is ∙ c.requires) t.0 t.1 t.2 in
    subst (λ (x : StreamState). Counts x (record s { arrived = now.arrived; early = now.early; answered = true }) n) c.self.view_is
    (subst (λ (es : List EarlyRecord). Counts s (record s { arrived = now.arrived; early = es; answered = true }) n) (sym c.in-Ok.ensures.early) counts)
