use Rattle.std.proofs.Common.{sym, ap, ◌∙◌}
use Rattle.std.specs.Prelude.{is_some, not, ◌&&◌}
use Rattle.iw_stream.specs.Ending.{last_word}
use Rattle.iw_stream.specs.Stream.{StreamState}
use Rattle.iw_stream.proofs.Resting.{is_clear}
use Rattle.iw_stream.proofs.stream.Stream.has_gone_out.Goals as goal

pub returns-then-owes_frame : goal.returns-then-owes_frame
returns-then-owes_frame g c =
    let s = c.args.self.now in
    sym (is_clear s c.requires ∙ ap (λ b. not b && not (is_some (last_word s.ending))) (sym c.owes_frame.ensures ∙ c.if-owes_frame.true))

pub returns : goal.returns
returns g c =
    let s = c.args.self.now in
    ap not (c.has_last_word.ensures ∙ ap (λ (t : StreamState). is_some (last_word t.ending)) c.self.view_is)
    ∙ sym (is_clear s c.requires ∙ ap (λ b. not b && not (is_some (last_word s.ending))) (sym c.owes_frame.ensures ∙ c.if-owes_frame.false))
