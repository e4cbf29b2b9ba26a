use Rattle.std.proofs.Common.{ap, ◌∙◌}
use Rattle.iw_rdmap.specs.Judging.{judged_segment}
use Rattle.iw_rdmap.proofs.Listed.{listed-tagged, listed-untagged}
use Rattle.iw_rdmap.proofs.laws.checks_are_listed.Goals as goal

pub returns : goal.returns
returns c = record {
  tagged = λ first payload head len next unanswered read. ap (λ segment. judged_segment segment len next unanswered) read ∙ listed-tagged head payload len next unanswered;
  untagged = λ first payload head len next unanswered read. ap (λ segment. judged_segment segment len next unanswered) read ∙ listed-untagged head payload len next unanswered;
}
