use Rattle.iw_rdmap.proofs.Causes.{said_header, said_headers, said_fits, said_cause}
use Rattle.iw_rdmap.proofs.judging.judge.Goals as goal

pub returns-clause-header : goal.returns-clause-header
returns-clause-header c = said_header c.args.first.now c.args.len c.args.next c.args.unanswered c.judge_segment.result c.judge_segment.ensures c.requires

pub returns-clause-headers : goal.returns-clause-headers
returns-clause-headers c = said_headers c.args.first.now c.args.len c.args.next c.args.unanswered c.judge_segment.result c.judge_segment.ensures c.requires

pub returns-clause-fits : goal.returns-clause-fits
returns-clause-fits c = said_fits c.args.first.now c.args.len c.args.next c.args.unanswered c.judge_segment.result c.judge_segment.ensures c.requires

pub returns-clause-cause : goal.returns-clause-cause
returns-clause-cause c = said_cause c.args.first.now c.args.len c.args.next c.args.unanswered c.judge_segment.result c.judge_segment.ensures c.requires
