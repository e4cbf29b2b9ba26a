use Rattle.std.proofs.Common.{◌≡◌, ◌≤◌, length, List, ℕ, Some, true, ap, subst, sym, ◌∙◌}
use Rattle.iw_startup.specs.declared.side.Reply.TheVariants.{Accept}
use Rattle.iw_startup.specs.Own.{OwnState}
use Rattle.iw_startup.specs.State.{StartupState, IsReached, awaits_answer, answer_room, agreed_of, agreement}
use Rattle.iw_startup.proofs.Answered.{reached-answered, agreed_of-accepted}
use Rattle.iw_startup.proofs.startup.Startup.accept.Goals as goal

pub invariant_of-self : goal.invariant_of-self
invariant_of-self c =
    let old : StartupState = record { config = c.self.inside.own.config; side = c.self.inside.own.side; octets = c.self.inside.octets.items } in
    let awaits : awaits_answer old ≡ true = ap (λ (s : StartupState). awaits_answer s) c.self.view_is ∙ sym c.awaits_answer.ensures ∙ c.if-not-awaits_answer.false in
    subst (λ (own : OwnState). IsReached (record { config = own.config; side = own.side; octets = c.self.inside.octets.items })) (sym c.accept.ensures)
    (reached-answered old (Accept c.args.private) awaits (subst (λ (s : StartupState). length c.args.private.items ≤ answer_room s) (sym c.self.view_is) c.requires) c.self.invariant)

pub returns-clause-agreed : goal.returns-clause-agreed
returns-clause-agreed c =
    let old : StartupState = record { config = c.self.inside.own.config; side = c.self.inside.own.side; octets = c.self.inside.octets.items } in
    let awaits : awaits_answer old ≡ true = ap (λ (s : StartupState). awaits_answer s) c.self.view_is ∙ sym c.awaits_answer.ensures ∙ c.if-not-awaits_answer.false in
    ap (λ (own : OwnState). agreed_of (record { config = own.config; side = own.side; octets = c.self.inside.octets.items })) c.accept.ensures
    ∙ agreed_of-accepted old c.args.private awaits
    ∙ ap Some (sym (
    c.agreement_with.ensures
    ∙ ap (λ (octets : List ℕ). agreement c.accept.new.self.config octets) c.as_slice.ensures.value
    ∙ ap (λ (own : OwnState). agreement own.config c.self.inside.octets.items) c.accept.ensures
    ))

pub returns-clause-value : goal.returns-clause-value
returns-clause-value c =
    c.agreement_with.ensures
    ∙ ap (λ (octets : List ℕ). agreement c.accept.new.self.config octets) c.as_slice.ensures.value
    ∙ ap (λ (own : OwnState). agreement own.config c.self.inside.octets.items) c.accept.ensures
    ∙ ap (λ (s : StartupState). agreement s.config s.octets) c.self.view_is
