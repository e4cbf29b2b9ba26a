use Rattle.std.proofs.Common.{◌∙◌}
use Rattle.iw_stream.proofs.Releasing.{clash_word}
use Rattle.iw_stream.proofs.terminating.terminate_clashed.Goals as goal

pub returns : goal.returns
returns c = λ asked frame. c.terminate.ensures ∙ clash_word asked frame
