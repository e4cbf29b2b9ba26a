use Rattle.std.proofs.Common.{◌≡◌, ◌≤◌, length, true, ap, subst, sym, ◌∙◌}
use Rattle.iw_startup.specs.declared.side.Reply.TheVariants.{Reject}
use Rattle.iw_startup.specs.Own.{OwnState}
use Rattle.iw_startup.specs.State.{StartupState, IsReached, awaits_answer, answer_room}
use Rattle.iw_startup.proofs.Answered.{reached-answered}
use Rattle.iw_startup.proofs.startup.Startup.reject.Goals as goal

pub invariant_of-self : goal.invariant_of-self
invariant_of-self c =
    let old : StartupState = record { config = c.self.inside.own.config; side = c.self.inside.own.side; octets = c.self.inside.octets.items } in
    let awaits : awaits_answer old ≡ true = ap (λ (s : StartupState). awaits_answer s) c.self.view_is ∙ sym c.awaits_answer.ensures ∙ c.if-not-awaits_answer.false in
    subst (λ (own : OwnState). IsReached (record { config = own.config; side = own.side; octets = c.self.inside.octets.items })) (sym c.reject.ensures)
    (reached-answered old (Reject c.args.private) awaits (subst (λ (s : StartupState). length c.args.private.items ≤ answer_room s) (sym c.self.view_is) c.requires) c.self.invariant)
