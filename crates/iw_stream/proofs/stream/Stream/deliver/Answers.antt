use Rattle.std.proofs.Common.{sym, ◌∙◌, subst}
use Rattle.iw_stream.specs.Kept.{Keeps}
use Rattle.iw_stream.specs.Fields.{state_of}
use Rattle.iw_stream.proofs.Keeping.{keeps_delivered, keeps_told}
use Rattle.iw_stream.proofs.stream.Stream.deliver.Goals as goal

pub invariant_of-self : goal.invariant_of-self
invariant_of-self g c = record {
  keeps = keeps_told (state_of c.self.inside) c.self.inside.first _ c.self.invariant.keeps;
  layout = c.self.invariant.layout;
  base = c.self.invariant.base;
}

pub invariant_of-self-2 : goal.invariant_of-self-2
invariant_of-self-2 g c = record {
  keeps = keeps_told (record (state_of c.self.inside) { arrived = c.add.new.self.arrived; early = c.add.new.self.early }) c.self.inside.first _
      (subst (λ es. Keeps (record (state_of c.self.inside) { arrived = c.add.new.self.arrived; early = es })) (sym c.add.ensures.early)
      (keeps_delivered (state_of c.self.inside) c.near-place.result.0 c.near-place.result.1.now c.add.result c.add.new.self.arrived c.add.ensures.ok c.add.ensures.err c.self.invariant.keeps));
  layout = c.add.ensures.same.layout ∙ c.self.invariant.layout;
  base = c.add.ensures.same.base ∙ c.self.invariant.base;
}
