use Rattle.std.proofs.Common.{sym, ap, ◌∙◌, subst}
use Rattle.iw_stream.specs.Starting.{expecting, first_place_in}
use Rattle.iw_startup.specs.declared.side.Reply.TheVariants.{Reject}
use Rattle.iw_stream.specs.Fields.{state_of}
use Rattle.iw_stream.specs.Kept.{Keeps}
use Rattle.iw_stream.proofs.Opening.{asked_of, keeps_answered, expecting_rejected, first_answered}
use Rattle.iw_stream.proofs.stream.Stream.reject.Goals as goal

pub invariant_of-self-2 : goal.invariant_of-self-2
invariant_of-self-2 g c = record {
  keeps =
      let s = state_of c.self.inside in
      subst (λ x. Keeps (record s { start = x })) (sym c.in_ok-reject.ensures.ok)
      (keeps_answered s (Reject c.args.private) (asked_of c.self.inside.start c.args.private.items c.in_ok-reject.ensures.refused) c.self.invariant.keeps);
  layout = c.self.invariant.layout ∙ expecting_rejected c.self.inside.start c.args.private (asked_of c.self.inside.start c.args.private.items c.in_ok-reject.ensures.refused) ∙ ap expecting (sym c.in_ok-reject.ensures.ok);
  base = c.self.invariant.base ∙ first_answered c.self.inside.start (Reject c.args.private) ∙ ap first_place_in (sym c.in_ok-reject.ensures.ok);
}
