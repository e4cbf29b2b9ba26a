use Rattle.std.proofs.Common.{List, true, sym, ap, subst, ◌∙◌}
use Rattle.iw_stream.specs.declared.intake.Intake.{Intake}
use Rattle.iw_stream.specs.Ending.{has_ended}
use Rattle.iw_stream.specs.Fields.{state_of}
use Rattle.iw_stream.specs.Frames.{EarlyRecord}
use Rattle.iw_stream.specs.Reading.{Reads, Took}
use Rattle.iw_stream.specs.Stream.{StreamState}
use Rattle.iw_stream.proofs.Keeping.{keeps_told}
use Rattle.iw_stream.proofs.TakenIn.{took_running, keeps_read}
use Rattle.iw_stream.proofs.stream.Stream.read_running.Goals as goal

pub invariant_of-self : goal.invariant_of-self
invariant_of-self g c =
    let s = state_of c.self.inside in
    let now = c.read_some.new.self in record {
      keeps = keeps_told (record s { arrived = now.arrived; early = now.early }) c.self.inside.first _
          (keeps_read s now.arrived now.early (g.R.Read.remaining c.args.from.now) (g.R.Read.remaining c.read_some.new.from) c.in-Ok-Came.field-0 c.in-Ok-Came.ensures.ok c.in-Ok-Came.ensures.early c.self.invariant.keeps);
      layout = c.in-Ok-Came.ensures.same.layout ∙ c.self.invariant.layout;
      base = c.in-Ok-Came.ensures.same.base ∙ c.self.invariant.base;
    }

pub returns-in-Ok-Came-clause-ok : goal.returns-in-Ok-Came-clause-ok
returns-in-Ok-Came-clause-ok g c =
    let s = state_of c.self.inside in
    let now = c.read_some.new.self in
    let before = g.R.Read.remaining c.args.from.now in
    let rest = g.R.Read.remaining c.read_some.new.from in
    let t = subst (λ (x : Intake). Reads s.arrived now.arrived before rest x) c.in-Ok-Came.field-0-is c.in-Ok-Came.ensures.ok in
    let took = took_running s now.arrived before rest c.in-Ok-Came.got (ap (λ (x : StreamState). has_ended x.ending) c.self.view_is ∙ c.requires) t.0 t.1 t.2 in
    subst (λ (x : StreamState). Took x (record s { arrived = now.arrived; early = now.early; answered = true }) before rest c.in-Ok-Came.got) c.self.view_is
    (subst (λ (es : List EarlyRecord). Took s (record s { arrived = now.arrived; early = es; answered = true }) before rest c.in-Ok-Came.got) (sym c.in-Ok-Came.ensures.early) took)
