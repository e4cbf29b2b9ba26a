use Rattle.std.proofs.Common.{◌≡◌, false, true, sym, ap, ◌∙◌}
use Rattle.std.specs.Prelude.{◌&&◌}
use Rattle.iw_stream.specs.Stream.{ended, due, is_none_due}
use Rattle.iw_stream.specs.Work.{task, is_rest}
use Rattle.iw_stream.proofs.stream.Stream.is_at_rest.Goals as goal

pub returns-then-not-has_ended : goal.returns-then-not-has_ended
returns-then-not-has_ended g c =
    let s = c.args.self.now in
    let runs : ended s ≡ false = sym (ap ended c.self.view_is) ∙ sym c.has_ended.ensures ∙ c.if-not-has_ended.true in
    sym (ap (λ b. b && (is_rest (task s) && is_none_due (due s))) runs)

pub returns-then-not-has_handed_out : goal.returns-then-not-has_handed_out
returns-then-not-has_handed_out g c =
    let s = c.args.self.now in
    let over : ended s ≡ true = sym (ap ended c.self.view_is) ∙ sym c.has_ended.ensures ∙ c.if-not-has_ended.false in
    (λ i. sym over i && ((sym (sym c.has_handed_out.ensures ∙ c.if-not-has_handed_out.true)) i && is_none_due (due s)))

pub returns : goal.returns
returns g c =
    let s = c.args.self.now in
    let over : ended s ≡ true = sym (ap ended c.self.view_is) ∙ sym c.has_ended.ensures ∙ c.if-not-has_ended.false in
    c.has_gone_out.ensures ∙ (λ i. sym over i && ((sym (sym c.has_handed_out.ensures ∙ c.if-not-has_handed_out.false)) i && is_none_due (due s)))
